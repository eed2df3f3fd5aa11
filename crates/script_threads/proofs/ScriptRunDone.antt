-- Where nothing went wrong, the run of a script whose links were served and read beside its clients is complete.
use Rattle.std.proofs.Common.{◌≡◌, ℕ, ◌<◌, ◌++◌, inl, inr, true, List, [], length, slice_get, slice_index_or, Option, Some, None, IfSome, Ok, refl, sym, ap, ◌∙◌, subst, arith}
use Rattle.std.specs.Prelude.{IsTrue, IsSome}
use Rattle.std.proofs.lemmas.Option.{slice_get_within}
use Rattle.sock_io.specs.declared.link.Out.{Ghosts}
use Rattle.sock_io.specs.LinkHalves.{OutState, InState}
use Rattle.sock_words.specs.declared.outcome.Outcome.{Outcome}
use Rattle.sock_words.specs.declared.outcome.Outcome.TheVariants.{Opened}
use Rattle.sock_words.specs.declared.place_word.PlaceWord.{PlaceWord}
use Rattle.brpc_model.specs.Complete.{IsUntroubled, Completeness}
use Rattle.brpc_model.specs.Items.{Item, Shape}
use Rattle.brpc_model.specs.ReturnedLink.{LinkEnd}
use Rattle.brpc_model.specs.Operations.{link_names, link_shapes}
use Rattle.brpc_model.specs.PlaceWords.{IsReportOf, HasEachOutcome}
use Rattle.brpc_model.specs.Report.{LinkLine}
use Rattle.brpc_model.specs.Script.{script_of}
use Rattle.brpc_model.specs.ServedForTakenBytes.{given_for}
use Rattle.sock_message.specs.Asked.{Asked}
use Rattle.seat_programs.specs.declared.task.Op.{Op}
use Rattle.seat_programs.specs.declared.task.Op.TheVariants as ops
use Rattle.seat_programs.specs.declared.task.Task.{Task}
use Rattle.seat_programs.specs.ScriptSetupToEnding.{all_tasks, took_at_home}
use Rattle.seat_programs.specs.Tasks.{plan_of}
use Rattle.seat_programs.specs.Explained.{IsTask, Became}
use Rattle.seat_programs.specs.ExplainedCalls.{Fixed}
use Rattle.script_parts.specs.calls_done.specs.OwedToCalls.{IsUnsent, OwesReplies, GivesWell, GaveFew}
use Rattle.script_parts.specs.calls_done.proofs.SendsAndCallsDone.{complete}
use Rattle.script_parts.specs.calls_done.proofs.Endless.{no_last}
use Rattle.script_parts.specs.calls_done.proofs.KnownCallRun.{Known, IsOfCall}
use Rattle.script_parts.specs.calls_done.proofs.FaultlessLinks.{shapes_many}
use Rattle.script_parts.specs.served_told.specs.ServedLinksTelling.{TellBytes, ShowSmallIds}
use Rattle.script_parts.specs.served_told.proofs.OwnRepliesTold.{no_fault, own_request, made_for, reply_there}
use Rattle.script_parts.specs.callless_fits.proofs.EachTaskHasOutcome.{told_each}
use Rattle.script_parts.specs.callless_fits.proofs.EverySendPlaced.{ToldRun}
use Rattle.script_parts.specs.callless_fits.specs.sock_deeds.specs.SocketsTold.{fixed_by, IsOfSockets}
use Rattle.script_parts.specs.script_facts.proofs.FilteredLists.{within}
use Rattle.script_threads.specs.ServedLinksOfReport.{run_of}
use Rattle.script_threads.specs.ServedScriptTold.{IsThreadsRun, IsThreadsText}
use Rattle.script_threads.proofs.CallKinds.{text_kinds}
use Rattle.script_threads.proofs.ReportsOfThreads.{socket_run, text_of}
use Rattle.script_threads.proofs.Small.{text_small}

module _ {script : List Item} {text : List ℕ} {ends : List LinkEnd} (is : IsThreadsText script text ends) where
  -- each link with the server gave the replies to all that it took
  abbrev pub GivesAll : Type 0
  GivesAll = (k : ℕ) (shape : Shape) (line : LinkLine) → slice_get (link_shapes script) k ≡ Some shape → IsTrue shape.serve → slice_get is.reported.report.report.links k ≡ Some line → is.answered.gave k ≡ given_for shape line.took

  -- one whose reading half answered its end gave what the server gives for all that it took, and for all that might follow
  abbrev pub GivesLast : Type 0
  GivesLast = (k : ℕ) (e : LinkEnd) (shape : Shape) (took : List ℕ) → slice_get ends k ≡ Some e → slice_get (link_shapes script) k ≡ Some shape → IsTrue shape.serve → e.took ≡ Some took → e.gave_end ≡ true → (more : List ℕ) → is.answered.gave k ≡ given_for shape (took ++ more)

module _ (bytes : List ℕ) (script : List Item) (reads : script_of bytes ≡ Ok script) (text : List ℕ) (ends : List LinkEnd) (is : IsThreadsText script text ends)
    (kinds : (client : ℕ) (t : Task) (asked : Asked) (x : Outcome) → IsTask (all_tasks script) is.outcomes client t → t.op ≡ ops.Call asked → Became (all_tasks script) is.outcomes t.number x → IsOfCall x) where
  abbrev fixed : Fixed
  fixed = fixed_by is.sockets.broken is.sockets.early is.sockets.fails

  -- ## What is known of the run

  not_opened : (slot version k : ℕ) → IsOfCall (Opened slot version k) → ⊥
  not_opened slot version k (inl e) = cc
  not_opened slot version k (inr e) = cc

  opens_by : (client : ℕ) (t : Task) (slot version k : ℕ) (op : Op) → IsTask (all_tasks script) is.outcomes client t → t.op ≡ op → Became (all_tasks script) is.outcomes t.number (Opened slot version k) → IsOfSockets op
  opens_by client t slot version k (ops.Call asked) it e b = absurd (not_opened slot version k (kinds client t asked (Opened slot version k) it e b))
  opens_by client t slot version k (ops.Expire of) it e b = absurd (is.on_calls.expires client of t (Opened slot version k) it e b)
  opens_by client t slot version k (ops.Join of) it e b = absurd (is.joins is.attempts.last client of t (Opened slot version k) it e b)
  opens_by client t slot version k (ops.Open n l) it e b = tt
  opens_by client t slot version k (ops.Send n sent) it e b = tt
  opens_by client t slot version k (ops.Hold n) it e b = tt
  opens_by client t slot version k (ops.Drop n) it e b = tt
  opens_by client t slot version k (ops.Fail n code) it e b = tt

  abbrev told_run : ToldRun
  told_run = record {
    sockets = socket_run bytes script reads is.outcomes is.one_each is.sockets;
    last = is.attempts.last;
    few = is.attempts.few;
    sent = is.attempts.sent;
    opens = λ client t slot version k it b. opens_by client t slot version k t.op it refl b;
    took = is.reported.took;
    report = is.reported.report.report;
    told = subst (λ (ws : List PlaceWord). IsReportOf script is.outcomes ws is.reported.took is.reported.report.report) (sym is.sockets.words) is.reported.report.told;
    ends = ends;
    given = is.sockets.ends_told;
  }

  abbrev known : Known
  known = record {
    run = told_run;
    answers = is.answered.each;
    failed = is.on_calls.failed;
    again = is.on_calls.again;
    begun = is.begun;
    each = told_each script is.outcomes fixed is.answered.gave is.sockets.orders is.sockets.core is.sockets.tells is.one_each (subst (λ (ws : List PlaceWord). HasEachOutcome ws is.outcomes) (sym is.sockets.words) is.reported.each);
    kinds = kinds;
  }

  -- ## What its links owe

  module _ (small : ShowSmallIds is.outcomes) (tell : TellBytes script ends) (last : GivesLast is) where
    -- without `end` none gave an end that no `send` names
    goes_on : (k : ℕ) (shape : Shape) → slice_get (link_shapes script) k ≡ Some shape → IsTrue shape.serve → IsUnsent (run_of is) k → shape.end ≡ None → (e : LinkEnd) → slice_get ends k ≡ Some e → e.gave_end ≡ true → ⊥
    goes_on k shape opened serves unsent endless e at ended = by e.took refl (tell k e shape at opened serves).0 (is.sockets.ends_told.each k e at).took
      where
        low : k < length (link_names script)
        low = let inside = slice_get_within (link_shapes script) k shape opened in let many = shapes_many script in omega (arith, inside, many)

        by : (o : Option (List ℕ)) → e.took ≡ o → IsSome o → IfSome o (λ bytes. bytes ≡ slice_index_or (took_at_home (plan_of script) is.sockets.core.homes) k []) → ⊥
        by None same told home = absurd (cc)
        by (Some took) same told home = no_last bytes script reads is.outcomes fixed is.answered.gave is.sockets.orders is.sockets.core is.sockets.tells.are_orders is.attempts small k low unsent shape endless (is.answered.gave k)
            (λ more. last k e shape took at opened serves same ended more ∙ ap (λ (t : List ℕ). given_for shape (t ++ more)) home)

    module _ (gives : GivesAll is) where
      owes : (k : ℕ) (shape : Shape) (line : LinkLine) → slice_get (link_shapes script) k ≡ Some shape → IsTrue shape.serve → slice_get is.reported.report.report.links k ≡ Some line → IsUnsent (run_of is) k → OwesReplies (run_of is) k shape
      owes k shape line opened serves at unsent = record {
        faultless = no_fault bytes script reads is.outcomes is.places text is.reported.took ends fixed is.answered.gave is.sockets.orders is.sockets.core is.sockets.words is.sockets.tells.are_orders is.sockets.ends_told is.attempts is.on_calls.versions is.reported.report is.reported.told small tell
            k shape line opened serves at (gives k shape line opened serves at) unsent;
        own = λ n i id frame op call c gave_it response. (
            let m = made_for bytes script reads is.outcomes is.places text is.reported.took ends fixed is.answered.gave is.sockets.orders is.sockets.core is.sockets.words is.sockets.tells.are_orders is.sockets.ends_told is.attempts is.on_calls.versions is.reported.report is.reported.told small tell
            k shape line opened serves at (gives k shape line opened serves at) unsent i id op call c.there c.item c.shows n frame gave_it response in (
              own_request bytes script reads is.outcomes is.places text is.reported.took ends fixed is.answered.gave is.sockets.orders is.sockets.core is.sockets.words is.sockets.tells.are_orders is.sockets.ends_told is.attempts is.on_calls.versions is.reported.report is.reported.told small tell
                  k shape line opened serves at (gives k shape line opened serves at) unsent i id op call c.there c.item c.shows n frame gave_it response,
              m.0,
              m.1,
              m.2,
            ));
        given = λ p m i id its op call endless c there stands placed. reply_there bytes script reads is.outcomes is.places text is.reported.took ends fixed is.answered.gave is.sockets.orders is.sockets.core is.sockets.words is.sockets.tells.are_orders is.sockets.ends_told is.attempts is.on_calls.versions is.reported.report is.reported.told small tell
            k shape its opened serves there (gives k shape its opened serves there) unsent i id op call c.there c.item c.shows endless p m stands placed;
        goes_on = goes_on k shape opened serves unsent;
      }

      well : GivesWell (run_of is)
      well k shape opened serves unsent =
          let low = slice_get_within (link_shapes script) k shape opened in let many = shapes_many script in let lines = is.reported.report.told.line_each in
          let line = within is.reported.report.report.links k (omega (arith, low, many, lines)) in owes k shape line.0 opened serves line.1 unsent

    -- where each link with the server gave less than is read at most
    pub complete_beside : (IsUntroubled script ends → GivesAll is) → GaveFew script ends → Completeness (run_of is)
    complete_beside gives few untroubled = complete known (well (gives untroubled)) few untroubled

-- so it is of each run whose links were served and read beside its clients
module _ (P : Type 0) {O I : Type 0} (out : O → OutState) (inn : I → InState) (g : Ghosts O) (script : List Item) (text : List ℕ) (links : List LinkEnd) (r : IsThreadsRun P g out inn script text links) (bytes : List ℕ) (reads : script_of bytes ≡ Ok script) where
  abbrev its_text : IsThreadsText script text links
  its_text = text_of P out inn g script text links r bytes reads

  pub text_complete : TellBytes script links → GivesLast its_text → (IsUntroubled script links → GivesAll its_text) → GaveFew script links → Completeness (run_of its_text)
  text_complete tell last gives few = complete_beside bytes script reads text links its_text (text_kinds P out inn g script text links r bytes reads) (text_small P g out inn bytes script reads text links r) tell last gives few
