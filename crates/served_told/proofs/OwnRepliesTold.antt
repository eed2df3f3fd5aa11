-- In a run of which this is told, where links with the server gave the replies to what they took, each response that one of them gave to a call is the reply to the call's own request.
use Rattle.std.proofs.Common.{◌≡◌, ℕ, ◌+◌, ◌<◌, ◌≤◌, List, [], length, slice_get, slice_index_or, Option, Some, None, Ok, refl, sym, ap, ◌∙◌, subst, arith}
use Rattle.std.proofs.lemmas.Option.{slice_get_within}
use Rattle.std.specs.Prelude.{IsTrue, Contains}
use Rattle.sock_words.specs.declared.outcome.Outcome.{Outcome}
use Rattle.sock_words.specs.declared.place_word.PlaceWord.{PlaceWord}
use Rattle.brpc_model.specs.Attempts.{IsResponse, attempt}
use Rattle.brpc_model.specs.LinkFailureCauses.{HasFault}
use Rattle.brpc_model.specs.Frame.{Frame}
use Rattle.brpc_model.specs.Items.{Item, Shape, CallLine, Send, Call}
use Rattle.brpc_model.specs.ReturnedLink.{LinkEnd}
use Rattle.brpc_model.specs.MessageOfLabel.{id_at, shown_id, request_frame}
use Rattle.brpc_model.specs.Operations.{Operation, link_names, link_shapes}
use Rattle.brpc_model.specs.LinePlaceFaults.{names}
use Rattle.brpc_model.specs.PlaceWords.{IsLineOf, IsReportText, took_at, AreTold}
use Rattle.brpc_model.specs.Reply.{reply}
use Rattle.brpc_model.specs.Report.{LinkLine}
use Rattle.brpc_model.specs.Run.{Run, nothing_late, GaveFrame, IsLinkOf, IsOperation, StandsIn}
use Rattle.brpc_model.specs.Script.{script_of}
use Rattle.brpc_model.specs.ServedForTakenBytes.{GivesReplies, GivesOwnReplies, given_for}
use Rattle.brpc_model.specs.FrameStream.{stream}
use Rattle.served_calls.specs.Below.report_fits.specs.ScriptLinkEnds.{AreEndsOf}
use Rattle.served_calls.specs.Below.script_facts.proofs.FilteredLists.{contains_from, has_from, within}
use Rattle.served_calls.specs.Below.report_fits.proofs.ReportedOutcomes.{outcome_told}
use Rattle.served_calls.specs.Below.report_fits.proofs.ReportedRunFitting.{id_said}
use Rattle.served_calls.specs.Below.script_facts.proofs.TaskLemmas.{numbers_at, operation_task}
use Rattle.served_calls.specs.Below.script_facts.proofs.ReadScriptTasks.{tasks_of_script}
use Rattle.sock_message.specs.Asked.{Asked}
use Rattle.seat_programs.specs.declared.task.Op.TheVariants as ops
use Rattle.seat_programs.specs.declared.task.Task.{Task}
use Rattle.seat_programs.specs.Cores.{Core}
use Rattle.seat_programs.specs.ScriptSetupToEnding.{all_tasks, place_words, took_at_home}
use Rattle.seat_programs.specs.Tasks.{numbered, asked_of, op_of, plan_of}
use Rattle.seat_programs.specs.Explained.{AreTasks, IsTask, Made}
use Rattle.seat_programs.specs.ExplainedCalls.{Order, Fixed, AreOrders}
use Rattle.failed_told.specs.attempts_told.specs.CountedAttempts.{AreAttemptsTold}
use Rattle.served_calls.specs.served_runs.proofs.Model.{unsent_of}
use Rattle.served_calls.proofs.OutcomeShowingCallId.{outcome_there, both_told}
use Rattle.served_told.specs.ServedLinksTelling.{TellBytes, ShowSmallIds, HaveOwnVersions}
use Rattle.served_told.proofs.MessagePlaces.{placed_at}
use Rattle.served_told.proofs.RequestsWithoutSends.{faultless, replied_at, IsOwnReply, own_reply, placed_reply}

module _ (bytes : List ℕ) (script : List Item) (reads : script_of bytes ≡ Ok script) (outcomes : List (Option Outcome)) (places : List PlaceWord) (text : List ℕ) (took : List (List ℕ)) (ends : List LinkEnd) (fixed : Fixed) (gave : ℕ → List ℕ) (orders : ℕ → Order) (core : Core)
    (words : place_words (plan_of script) core.words ≡ places) (are_orders : AreOrders (plan_of script) core orders) (ends_told : AreEndsOf script core fixed gave ends) (attempts : AreAttemptsTold (plan_of script) (all_tasks script) outcomes fixed gave orders)
    (versions : HaveOwnVersions (all_tasks script) outcomes) (reported : IsReportText script outcomes places took text) (told : AreTold ends took) (small : ShowSmallIds outcomes) (tell : TellBytes script ends) where
  -- the run that is reported
  abbrev pub run : Run
  run = record { script = script; report = reported.report; ends = ends; late = nothing_late; story = record { fails = fixed.fails; gave = gave; last = attempts.last } }

  -- ## A link that gave the replies to what it took, and that no `send` names

  module _ (k : ℕ) (shape : Shape) (line : LinkLine) (opened : slice_get (link_shapes script) k ≡ Some shape) (serves : IsTrue shape.serve) (at : slice_get reported.report.links k ≡ Some line) (gives : gave k ≡ given_for shape line.took)
      (unnamed : (name bytes : List ℕ) → Contains script (Send name bytes) → IsLinkOf run k name → ⊥) where
    low : k < length (link_names script)
    low = omega (arith, slice_get_within reported.report.links k line at, reported.told.line_each)

    -- it was given back
    end_of : (e : LinkEnd) × (slice_get ends k ≡ Some e)
    end_of = within ends k (omega (arith, low, ends_told.as_many))

    abbrev at_home : List ℕ
    at_home = slice_index_or (took_at_home (plan_of script) core.homes) k []

    -- what is reported that it took is what it took
    line_took : line.took ≡ at_home
    line_took = let e = end_of in (reported.told.links k line at).took ∙ both_told e.0.took (took_at took k) at_home (tell k e.0 shape e.1 opened serves).0 (told k e.0 e.1) (ends_told.each k e.0 e.1).took

    given : gave k ≡ given_for shape at_home
    given = gives ∙ ap (given_for shape) line_took

    unsent : (client : ℕ) (t : Task) (n slot version : ℕ) (bytes : List ℕ) → IsTask (all_tasks script) outcomes client t → t.op ≡ ops.Send n bytes → Made (all_tasks script) outcomes n k slot version → ⊥
    unsent = unsent_of script outcomes k unnamed

    are : AreTasks (plan_of script) (all_tasks script)
    are = tasks_of_script bytes script reads

    -- what it gave has no fault
    pub no_fault : HasFault (gave k) → ⊥
    no_fault fault = faultless script are outcomes fixed gave orders core are_orders attempts small k low unsent shape (subst HasFault given fault)

    -- ### Of a call

    module _ (i id : ℕ) (op : Operation) (call : CallLine) (there : IsOperation run i op) (item : op.item ≡ Call call) (shows : id_at reported.report.outcomes i ≡ Some id) where
      shown : (x : Outcome) × (slice_get reported.report.outcomes i ≡ Some x) × (shown_id x ≡ Some id)
      shown = outcome_there reported.report.outcomes i id shows

      became : slice_get outcomes i ≡ Some (Some shown.0)
      became = outcome_told places outcomes i shown.0 (id_said shown.0 id shown.2) (ap (λ os. slice_get os i) (sym reported.told.outcomes) ∙ shown.1)

      abbrev asked : Asked
      asked = asked_of (names script) i call

      abbrev task : Task
      task = record { number = i; op = ops.Call asked }

      is_task : IsTask (all_tasks script) outcomes op.client task
      is_task = operation_task script outcomes i op (ops.Call asked) there (ap (op_of (numbered script) (names script) (numbers_at script i op)) item)

      module _ (n : ℕ) (frame : Frame) (gave_it : GaveFrame run k n frame) (response : IsResponse call id frame) where
        its : IsOwnReply script are outcomes fixed gave orders core are_orders attempts small k low unsent id op.client task asked shown.0 is_task refl became shown.2 frame
        its = own_reply script are outcomes fixed gave orders core are_orders attempts small k low unsent id op.client task asked shown.0 is_task refl became shown.2 versions frame
            (replied_at script are outcomes fixed gave orders core are_orders attempts small k low unsent shape n frame (subst (λ l. slice_get (stream l).frames n ≡ Some frame) given gave_it.1)) response.1 (let r = response.2 in omega (arith, r))

        -- a response of its versions is the reply to its own request
        pub own_request : reply (request_frame call frame.meta.correlation_id) ≡ Some frame
        own_request = its.replied

        -- of an attempt that was made
        pub made_for : (m : ℕ) × (m ≤ run.story.last i) × (frame.meta.correlation_id ≡ id + m + 1)
        made_for = (its.attempt, its.tried, its.with_id)

      -- without `end` the reply to each request that was placed was given
      pub reply_there : shape.end ≡ None → (p m : ℕ) → StandsIn line (attempt i m) p → p < line.placed → (n : ℕ) × (frame : Frame) × GaveFrame run k n frame × (reply (request_frame call (id + m + 1)) ≡ Some frame)
      reply_there endless p m stands placed =
          let is : IsLineOf (place_words (plan_of script) core.words) k (took_at took k) line = subst (λ (ws : List PlaceWord). IsLineOf ws k (took_at took k) line) (sym words) (reported.told.links k line at) in
          let a = placed_at bytes script reads outcomes fixed gave orders core are_orders attempts k p (took_at took k) line (attempt i m) low is stands placed in
          let w = placed_reply script are outcomes fixed gave orders core are_orders attempts small k low unsent id op.client task asked shown.0 is_task refl became shown.2 shape endless p a.0 a.1 a.2 a.3 in
          let e = end_of in (
            w.0,
            w.1,
            ((e.0, contains_from ends e.0 (k, e.1), (ends_told.each k e.0 e.1).numbered), subst (λ l. slice_get (stream l).frames w.0 ≡ Some w.1) (sym given) w.2),
            subst (λ (j : ℕ). reply (request_frame call (id + j + 1)) ≡ Some w.1) a.4 w.3,
          )

  -- ## The run

  line_at : (k n : ℕ) (frame : Frame) → GaveFrame run k n frame → (line : LinkLine) × (slice_get reported.report.links k ≡ Some line)
  line_at k n frame gave_it =
      let (e, has, numbered_) = gave_it.0 in
      let h = has_from ends e has in
      let same = (ends_told.each h.0 e h.1).numbered in
      within reported.report.links k (omega (arith, slice_get_within ends h.0 e h.1, ends_told.as_many, same, numbered_, reported.told.line_each))

  pub own_replies : GivesReplies run → GivesOwnReplies run
  own_replies replies k n i id shape frame op call s unnamed gave_it there item shows response =
      let line = line_at k n frame gave_it in
      own_request k shape line.0 s.opened s.serves line.1 (replies k shape line.0 s line.1) unnamed i id op call there item shows n frame gave_it response
