-- The report of a run of which all is told fits. Where nothing went wrong, that of a script without calls is complete, whatever servers its links have: a `send` goes to a link without one.
use Rattle.std.proofs.Common.{◌≡◌, ℕ, ◌*◌, ◌<◌, ◌⊎◌, inl, inr, Bool, true, false, if◌then◌else◌, List, length, slice_get, nat_lt, nat_le, option_and_then, Option, Some, Ok, Contains, refl, ap, sym, ◌∙◌, subst, arith}
use Rattle.std.proofs.lemmas.Bool.Decides.{nat_tests}
use Rattle.std.proofs.lemmas.Option.{slice_get_within}
use Rattle.sock_words.specs.declared.outcome.Outcome.{Outcome}
use Rattle.sock_words.specs.declared.outcome.Outcome.TheVariants.{Unopened, Gone, Full, Placed, Dropped}
use Rattle.brpc_model.specs.Items.{Item, Shape, Open, Send, Call, Fail, CallLine, name_at}
use Rattle.brpc_model.specs.Operations.{Operation, link_names, link_shapes, operations, name_of}
use Rattle.brpc_model.specs.Script.{script_of}
use Rattle.brpc_model.specs.LinePlaceFaults.{names}
use Rattle.brpc_model.specs.ReturnedLink.{LinkEnd}
use Rattle.brpc_model.specs.Report.{Report, report_text}
use Rattle.brpc_model.specs.PlaceWords.{word_at, outcome_by_word, AreTold}
use Rattle.brpc_model.specs.Run.{Run, IsOperation, HasOutcome, IsLinkOf}
use Rattle.brpc_model.specs.OutcomeCauses.{SendCause, Cause}
use Rattle.brpc_model.specs.ReportFits.{Fits}
use Rattle.brpc_model.specs.Complete.{Completeness, FitsWhole, IsUntroubled, IsSilentUnserved, SendDone}
use Rattle.seat_programs.specs.declared.task.Op.TheVariants as ops
use Rattle.seat_programs.specs.Cores.{Core}
use Rattle.seat_programs.specs.Tasks.{name_number, numbered, op_of, plan_of}
use Rattle.seat_programs.specs.ScriptSetupToEnding.{Reports, all_tasks, is_callless}
use Rattle.seat_programs.specs.ExplainedCalls.{Fixed, Order, ExplainedCalls}
use Rattle.script_threads.specs.script_parts.specs.report_fits.specs.ScriptLinkEnds.{AreEndsOf}
use Rattle.script_threads.specs.script_parts.specs.script_facts.proofs.FilteredLists.{Has, has_from, contains_from, all_at, some_is}
use Rattle.script_threads.specs.script_parts.specs.report_fits.proofs.CalllessScript.{not_later}
use Rattle.script_threads.specs.script_parts.specs.script_facts.proofs.TaskLemmas.{numbers_at, asks_at, mentions_send}
use Rattle.script_threads.specs.script_parts.specs.report_fits.proofs.ReportedOutcomes.{SaidOrPlaced}
use Rattle.script_threads.specs.script_parts.specs.script_facts.proofs.KnownScript as known
use Rattle.script_threads.specs.script_parts.specs.report_fits.proofs.LinkOrderLines.{Given}
use Rattle.script_threads.specs.script_parts.specs.report_fits.proofs.LivesInReport as lives
use Rattle.script_threads.specs.script_parts.specs.report_fits.proofs.OperationCauses as causes
use Rattle.script_threads.specs.script_parts.specs.report_fits.proofs.ReportedRunFitting.{fits_run}
use Rattle.script_threads.specs.script_parts.specs.report_fits.proofs.PrintableCallRun.{lateness, known_of}
use Rattle.calls_over.specs.Below.run_theorems.specs.Unserved.{IsInTime}
use Rattle.calls_over.specs.Below.run_theorems.proofs.RunReportFits.{not_early}
use Rattle.script_threads.specs.script_parts.specs.calls_done.proofs.FaultlessLinks.{shape_at}

-- ## Links without a server

module _ (g : Given) (in_time : IsInTime g.run.script g.run.fixed) (untroubled : IsUntroubled g.run.script g.ends) where
  abbrev run : Run
  run = lives.run_of g

  abbrev Links : ℕ
  Links = length (link_names g.run.script)

  -- some `send` goes to the name
  abbrev IsSentTo : List ℕ → Type 0
  IsSentTo name = (bytes : List ℕ) × Has g.run.script (Send name bytes)

  -- no link of such a name has a server
  no_server : (name : List ℕ) (shape : Shape) → IsSentTo name → Has g.run.script (Open name shape) → (b : Bool) → shape.serve ≡ b → shape.serve ≡ false
  no_server name shape sent there false is = is
  no_server name shape sent there true is = absurd (untroubled.no_stray name sent.0 (contains_from g.run.script (Send name sent.0) sent.1) (shape, contains_from g.run.script (Open name shape) there, is))

  none_early : (k : ℕ) (name : List ℕ) → k < Links → IsLinkOf run k name → IsSentTo name → Contains g.run.fixed.early k → ⊥
  none_early k name low named sent early =
      let o = shape_at g.run.script k name named in
      let e = lives.end_at g k low in
      let there = has_from g.ends e.end e.there in
      let quiet = all_at (IsSilentUnserved g.run.script) g.ends e.end untroubled.unserved there o.0 (ap (slice_get (link_shapes g.run.script)) e.is.numbered ∙ o.1) (no_server name o.0 sent o.2 o.0.serve refl) in
      let put = all_at (λ (x : LinkEnd). (x.put_faults ≡ 0) × (x.take_faults ≡ 0)) g.ends e.end untroubled.put there in
      not_early (g.run.gave k) e.end e.is.counted quiet.0 quiet.1 put.1 (e.is.early early)

  none_broken : (k : ℕ) → k < Links → Contains g.run.fixed.broken k → ⊥
  none_broken k low b =
      let e = lives.end_at g k low in
      let put = all_at (λ (x : LinkEnd). (x.put_faults ≡ 0) × (x.take_faults ≡ 0)) g.ends e.end untroubled.put (has_from g.ends e.end e.there) in
      omega (arith, put.0, e.is.failed b)

  none_failed : (f : ℕ × ℕ) → Contains g.run.fixed.fails f → ⊥
  none_failed f h =
      let w = lives.failed_at g f h in
      untroubled.no_fail w.name w.code (contains_from g.run.script (Fail w.name w.code) (known.in_script g.run f.0 w.operation w.there (Fail w.name w.code) w.item))

  -- so a link to which a `send` goes isn't failing
  unfailing : (counts : ℕ → Type 0) (k : ℕ) (name : List ℕ) → k < Links → IsLinkOf run k name → IsSentTo name → lives.TFailingBy g counts k → ⊥
  unfailing counts k name low named sent w = elim w [
    | inl f ↦ none_failed (f.0, k) f.1
    | inr (inl b) ↦ none_broken k low b
    | inr (inr (inl early)) ↦ none_early k name low named sent early
    | inr (inr (inr late)) ↦ in_time.no_late_link k late
  ]

  -- ## Sends

  module _ (i : ℕ) (q : Operation) (name bytes : List ℕ) (there : IsOperation run i q) (item : q.item ≡ Send name bytes) where
    sent : IsSentTo name
    sent = (bytes, known.in_script g.run i q there (Send name bytes) item)

    -- its message stands on a link of its name
    own_link : (k p : ℕ) → lives.TIsAt g i 0 k p → IsLinkOf run k name
    own_link k p w =
        let a = w.1 in
        let s = known.sent_at g.run k p a w.0 w.2 in
        let its : name_of g.run.script (record { operation = a.operation; attempt = a.attempt }) ≡ Some name =
        ap (λ (x : Option Operation). option_and_then (λ (y : Operation). name_at y.item a.attempt) x) (ap (slice_get (operations g.run.script)) w.3 ∙ there)
        ∙ ap (λ (x : Item). name_at x a.attempt) item ∙ ap (λ (n : ℕ). name_at (Send name bytes) n) w.4 in
        let named : s.name ≡ name = some_is s.name name (sym s.named ∙ its) in
        lives.link_of g s.number k s.slot s.version s.name (s.number_is, s.mentions) s.life ∙ ap (λ (x : List ℕ). Some x) named

    all_placed : (k p : ℕ) → lives.TIsAt g i 0 k p → p < (g.run.orders k).placed
    all_placed k p w =
        let inside = slice_get_within (g.run.orders k).accepted p w.1 w.2 in
        elim (nat_lt p (g.run.orders k).placed) as (λ b. nat_lt p (g.run.orders k).placed ≡ b → p < (g.run.orders k).placed) [
          | true ↦ λ t. grind (arith, nat_tests)
          | false ↦ λ t. absurd (unfailing (λ f. Unit {0}) k name w.0 (own_link k p w) sent (g.run.tells.dropped k w.0 (grind (arith, nat_tests, inside))))
        ] refl

    said_done : (n : ℕ) (o : Outcome) → n ≡ name_number (names g.run.script) name → slice_get g.run.core.outcomes i ≡ Some (Some o) → lives.WhyAt g q.client i (ops.Send n bytes) o → SendCause run i q name o → SendDone run i q name o
    said_done n Unopened is b w cause = inr (refl, cause)
    said_done n (Gone found) is b w cause = absurd (by_cause w.failed)
      where
        by_cause : lives.TFailingBy g (lives.TIsNoLater g q.client i) w.link ⊎ Contains g.run.fixed.late i → ⊥
        by_cause (inl f) = unfailing (lives.TIsNoLater g q.client i) w.link name (causes.life_low g n w.link w.slot w.version w.made)
            (lives.link_of g n w.link w.slot w.version name (is, mentions_send g.run.script i q there name bytes item) w.made) sent f
        by_cause (inr late) = in_time.none_late i q name bytes there item late
    said_done n Full is b w cause = absurd (omega (arith, cause.1.1, cause.1.0, untroubled.few_attempts))
    said_done n other is b w cause = absurd w

    placed_done : (o : Outcome) → o ≡ outcome_by_word (word_at (lives.Words g) (8 * i)) → causes.WasAccepted g i → SendDone run i q name o
    placed_done o is w =
        let k = w.0 in
        let p = w.1 in
        let placed = all_placed k p w.2 in
        let first : nat_le (g.run.orders k).placed p ≡ false = grind (arith, nat_tests, placed) in
        inl (k, p, is ∙ causes.accepted_outcome g i w ∙ ap (λ b. if b then Dropped k p else Placed k p) first)

    send_done : (o : Outcome) → HasOutcome run i o → SendDone run i q name o
    send_done o has = by_case (lives.said_or_placed_at g i o has)
      where
        by_case : SaidOrPlaced (lives.Words g) g.run.core.outcomes i o → SendDone run i q name o
        by_case (inl b) =
            let n = name_number (names g.run.script) name in
            let asks : asks_at g.run.script i q ≡ Some (ops.Send n bytes) = ap (op_of (numbered g.run.script) (names g.run.script) (numbers_at g.run.script i q)) item in
            let P : Item → Type 0 = λ x. Cause run i q x o in
            said_done n o refl b (lives.why_at g i q there (ops.Send n bytes) asks o b) (subst P item (causes.cause_at g i q o there has))
        by_case (inr w) = placed_done o w.1 (causes.was_accepted g i q there w.0)

-- ## A script that was read

-- a script without calls has no line that calls
no_call : (script : List Item) → is_callless script ≡ true → (call : CallLine) → Has script (Call call) → ⊥
no_call script callless call there = let later : true ≡ false = not_later script callless (Call call) there in cc

complete : (g : Given) → is_callless g.run.script ≡ true → IsInTime g.run.script g.run.fixed → Completeness (lives.run_of g)
complete g callless in_time untroubled = record {
  sends = λ i op name bytes o there item has. send_done g in_time untroubled i op name bytes there item o has;
  calls = λ i op call name o there item has first served unexpired. absurd (no_call g.run.script callless call (known.in_script g.run i op there (Call call) item));
}

module _ (bytes : List ℕ) (script : List Item) (reads : script_of bytes ≡ Ok script) (core : Core) (fixed : Fixed) (gave : ℕ → List ℕ) (orders : ℕ → Order) (long : length core.outcomes ≡ length (operations script))
    (tells : ExplainedCalls (plan_of script) (all_tasks script) core.outcomes fixed gave orders core) (report : Report) (took : List (List ℕ)) (ends : List LinkEnd) (reports : Reports script core took report) (told : AreTold ends took) (given : AreEndsOf script core fixed gave ends) where
  abbrev all_given : Given
  all_given = record { run = known_of bytes script reads core fixed gave orders long tells; report = report; took = took; ends = ends; reports = reports; told = told; given = given }

  -- its report fits
  pub told_fits : Fits script (report_text script report) ends (lateness fixed)
  told_fits = (report, lives.story_of all_given, refl, fits_run all_given)

  -- and that of a script without calls, in whose run nothing comes late, is complete where nothing went wrong
  pub callless_fits : is_callless script ≡ true → IsInTime script fixed → FitsWhole script (report_text script report) ends (lateness fixed)
  callless_fits callless in_time = (report, lives.story_of all_given, refl, (fits_run all_given, complete all_given callless in_time))
