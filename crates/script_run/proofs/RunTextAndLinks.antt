-- The text of a run, and the links that are given back.
use Rattle.std.proofs.Common.{◌≡◌, ◌≢◌, ℕ, zero, suc, ◌+◌, ◌<◌, inl, inr, true, List, [], ◌∷◌, ◌++◌, map, length, slice_get, Option, Some, None, IfSome, Result, Ok, Err, OnOk, IfOk, IsOk, Bool, option_map, ap, sym, subst, refl, ◌∙◌, ⊎_elim, arith}
use Rattle.std.specs.Prelude.{IsSome, Contains}
use Rattle.std.specs.List.{AllByRecursion}
use Rattle.std.proofs.lemmas.Option.{slice_get_within}
use mathlib.Core.Option as core
use lib.ListN.{get_elem?}
use Rattle.sock_words.specs.declared.plain.Plan.{Plan}
use Rattle.sock_words.specs.declared.outcome.Outcome.{Outcome}
use Rattle.sock_words.specs.declared.place_word.PlaceWord.{PlaceWord}
use Rattle.brpc_model.specs.Items.{Item, Shape}
use Rattle.brpc_model.specs.Script.{script_of}
use Rattle.brpc_model.specs.ReturnedLink.{LinkEnd, HalfAnswer, TakeAnswer}
use Rattle.brpc_model.specs.Operations.{Turn, link_names, link_shapes, operations}
use Rattle.brpc_model.specs.LinkFailureCauses.{HasFault}
use Rattle.brpc_model.specs.PlaceWords.{ArePlaces, HasEachOutcome, IsReportText, outcomes_from, AreTold}
use Rattle.sock_io.specs.declared.link.Mode.{Mode}
use Rattle.sock_io.specs.declared.link.Mode.TheVariants as mode
use Rattle.sock_io.specs.LinkHalves.{OutState, InState, more_told}
use Rattle.sock_model.specs.declared.home.Home.TheVariants.{Link}
use Rattle.seat_programs.specs.Asides.{Taking, AtEnd, Closed, Broken}
use Rattle.seat_programs.specs.Cores.{Core}
use Rattle.seat_programs.specs.ScriptSetupToEnding.{place_words}
use Rattle.seat_programs.specs.Tasks.{plan_of}
use Rattle.run_laws.specs.programs_allowed.proofs.RetryAllowed.{retries_go}
use Rattle.calm_runs.specs.Below.run_theorems.specs.Heard.{as_told, as_taken, take_answers, heard_of, taken_of, heard_takes}
use Rattle.calm_runs.specs.Below.run_theorems.specs.OfferedRuns.{OffersInRun}
use Rattle.calm_runs.specs.Below.run_theorems.specs.ShapedPuts.{ShapedInRun}
use Rattle.calm_runs.specs.Below.run_theorems.specs.RunIsOver.{IsAllOver}
use Rattle.calm_runs.specs.Below.run_theorems.proofs.WholeRunEnded.{run_all_over}
use Rattle.calm_runs.specs.Below.run_theorems.proofs.GaveTakeByTake.{gave_heard}
use Rattle.calm_runs.specs.Below.run_theorems.proofs.RunLengths.{ended_length}
use Rattle.calm_runs.specs.Below.run_theorems.proofs.RunReportFits.{run_drops_told}
use Rattle.calm_runs.specs.Below.run_theorems.proofs.ScriptStartsSoundly.{made, starts, fitting}
use Rattle.calm_runs.specs.Below.owed_calls.proofs.OwedCallsAreEnded.{run_owed_of}
use Rattle.run_laws.proofs.RunLaws.{keeps_laws}
use Rattle.calm_runs.specs.Below.report_fits.specs.ScriptLinkEnds.{IsEndOf, AreEndsOf, EndsEarly}
use Rattle.calm_runs.specs.Below.script_facts.proofs.FilteredLists.{within, has_from, all_at}
use Rattle.calm_runs.specs.Below.report_fits.proofs.PrintableCallRun.{script_places}
use Rattle.calm_runs.specs.Below.script_facts.proofs.ScriptSizes.{keeps_limits}
use Rattle.calm_runs.specs.Below.script_facts.proofs.ReadScriptTasks.{tasks_of_script}
use Rattle.machine_model.specs.MachineLinks.{AreAlwaysReady, TellClosing, IsOffering}
use Rattle.machine_model.specs.Machines.{MachineState, core_with}
use Rattle.machine_model.specs.MachineRuns.{SameLink, SameLinks, ShowsTaking}
use Rattle.script_run.specs.RunOutcomeCauses.{HasCauses, EndedEarly}
use Rattle.script_links.specs.LinksGivenBack.{IsUntouched, AreUntouched, spec_of, specs_of}
use Rattle.script_links.specs.OfferedLinks.{AreAsked}
use Rattle.script_report.specs.RunSummary.{told_of, sums_of, summary_text}
use Rattle.script_run.specs.declared.report.Print.{Print}
use Rattle.script_run.specs.declared.report.Print.TheVariants as print
use Rattle.sock_core.specs.MachineBeginning.{IsMade}
use Rattle.script_run.specs.Played.{HasRun, AreHeard, IsWholeRun, IsEndTold, AreEndsTold, IsRunText, IsPrintOf, IsPrinted}
use Rattle.script_run.proofs.LinkBytesAtHome.{index_at, took_is, lies_is, told_is, tells_is}
use Rattle.script_links.proofs.OffersOfOpenedLinks.{asked_at, shapes_many}
use Rattle.script_run.proofs.Idle.{clients_idle}
use Rattle.script_run.proofs.RunCausesTold.{has_causes}
use Rattle.calm_runs.specs.Below.call_stories.specs.LinkReadingLists.{gave_in}

-- ## The links that are given back

pub untouched_at : (number : ℕ) (ends : List LinkEnd) (k : ℕ) (e : LinkEnd) → AreUntouched number ends → slice_get ends k ≡ Some e → IsUntouched (number + k) e
untouched_at number [] k e h at = absurd (cc)
untouched_at number (x ∷ ends) zero e h at = let is : x ≡ e = cc in subst (λ (y : LinkEnd). IsUntouched (number + 0) y) is (subst (λ (m : ℕ). IsUntouched m x) (let s : number ≡ number + 0 = omega arith in s) h.0)
untouched_at number (x ∷ ends) (suc k) e h at = subst (λ (m : ℕ). IsUntouched m e) (let s : (number + 1) + k ≡ number + suc k = omega arith in s) (untouched_at (number + 1) ends k e h.1 at)

-- a link that had answered nothing tells what it answered since
told_from_none : {A : Type 0} (told : Option (List A)) (more : List A) → IfSome told (λ answers. answers ≡ []) → IfSome (more_told told more) (λ answers. answers ≡ more)
told_from_none None more none_ = tt
told_from_none (Some answers) more none_ = ap (λ l. l ++ more) none_

-- the reading half that stands behind a link tells the same of it
inn_at : {B : Type 0} (f : InState → B) (g : LinkEnd → B) (inns : List InState) (ends : List LinkEnd) (k : ℕ) (e : LinkEnd) → map f inns ≡ map g ends → slice_get ends k ≡ Some e → (inn : InState) × (get_elem? inns k ≡ core.some inn) × (f inn ≡ g e)
inn_at f g inns [] k e same at = absurd (cc)
inn_at f g [] (x ∷ ends) k e same at = absurd (cc)
inn_at f g (i ∷ inns) (x ∷ ends) zero e same at = let first : f i ≡ g x = cc in let is : x ≡ e = cc in (i, refl, first ∙ ap g is)
inn_at f g (i ∷ inns) (x ∷ ends) (suc k) e same at = let others : map f inns ≡ map g ends = cc in inn_at f g inns ends k e others at

-- a link that told whether it was found closed still does
still_told : (a b : LinkEnd) → SameLink a b → a.closed ≢ None → b.closed ≢ None
still_told a b same told none_ = ⊎_elim (λ (e : b.closed ≡ a.closed). told (sym e ∙ none_)) (λ (e : b.closed ≡ option_map (λ _. true) a.closed). told (none_of a.closed (sym e ∙ none_))) same.closed
  where
    none_of : (o : Option Bool) → option_map (λ _. true) o ≡ None → o ≡ None
    none_of None e = refl
    none_of (Some x) e = absurd (cc)

found_closed : (o : Option Bool) → o ≢ None → IfSome o (λ closed. closed ≡ true) → o ≡ Some true
found_closed None told h = absurd (told refl)
found_closed (Some b) told h = ap (λ (b : Bool). Some b) h

module _ (bytes : List ℕ) (script : List Item) (turns : List Turn) (start m : MachineState) (reads : script_of bytes ≡ Ok script) (untouched : AreUntouched 0 start.ends) (many : length start.ends ≡ length (link_names script)) (same : SameLinks start m)
    (ran : HasRun script turns start m) (plan : m.plan ≡ plan_of script) (tell : TellClosing start.links) (told_closed : AllByRecursion (λ (e : LinkEnd). e.closed ≢ None) start.ends)
    (outs : map (λ (o : OutState). o.took) m.links.outs ≡ map (λ (e : LinkEnd). e.took) m.ends) (counts : map (λ (i : InState). i.gave) m.links.inns ≡ map (λ (e : LinkEnd). e.gave_count) m.ends)
    (given : map (λ (i : InState). i.gave_bytes) m.links.inns ≡ map (λ (e : LinkEnd). e.gave) m.ends) (letters : length m.letters ≡ m.plan.requests)
    (Offering : Type 0) (goes : Mode → Bool) (in_memory : Offering → goes mode.Loop ≡ true) (asked : Offering → AreAsked goes (specs_of mode.Loop script) start.links.outs start.links.inns) where
  abbrev end_core : Core
  end_core = core_with m ran.took ran.gave

  over : IsAllOver script end_core
  over = run_all_over bytes script reads turns end_core ran.run (ran.closes tell)

  gave_is : (k : ℕ) → k < length (link_names script) → ran.gave k ≡ gave_in end_core k
  gave_is k low =
      let here : k < m.plan.links = subst (λ (q : Plan). k < q.links) (sym plan) low in
      ap ran.gave (let e : k ≡ 0 + k = omega arith in e) ∙ sym (index_at ran.gave [] 0 m.plan.links k here)

  module _ (k : ℕ) (e : LinkEnd) (at : slice_get m.ends k ≡ Some e) where
    abbrev before : (x : LinkEnd) × (slice_get start.ends k ≡ Some x)
    before = let inside = slice_get_within m.ends k e at in let as_many = same.as_many in within start.ends k (omega (arith, inside, as_many))

    was : IsUntouched k before.0
    was = subst (λ (j : ℕ). IsUntouched j before.0) (let s : 0 + k ≡ k = omega arith in s) (untouched_at 0 start.ends k before.0 untouched before.1)

    stays : SameLink before.0 e
    stays = same.each k before.0 e before.1 at

    low : k < length (link_names script)
    low = let inside = slice_get_within m.ends k e at in let as_many = same.as_many in omega (arith, inside, as_many, many)

    counted : length (gave_in end_core k) ≡ e.gave_count
    counted = let inn = inn_at (λ (i : InState). i.gave) (λ (e : LinkEnd). e.gave_count) m.links.inns m.ends k e counts at in
        ap length (sym (gave_is k low)) ∙ sym (ran.agrees_gave k inn.0 inn.1).0 ∙ inn.2

    gives : IfSome e.gave (λ bytes. bytes ≡ gave_in end_core k)
    gives = let inn = inn_at (λ (i : InState). i.gave_bytes) (λ (e : LinkEnd). e.gave) m.links.inns m.ends k e given at in
        subst (λ (o : Option (List ℕ)). IfSome o (λ bytes. bytes ≡ gave_in end_core k)) inn.2
        (subst (λ (b : List ℕ). IfSome inn.0.gave_bytes (λ bytes. bytes ≡ b)) (gave_is k low) (ran.agrees_gave k inn.0 inn.1).1)

    shows : (t : Taking) → Contains (heard_takes ran.run k) t → ShowsTaking t e
    shows t has_it = all_at (λ (t : Taking). ShowsTaking t e) (heard_takes ran.run k) t (ran.taken k e at) (has_from (heard_takes ran.run k) t has_it)

    ends_early : EndedEarly ran.run k → EndsEarly (gave_in end_core k) e
    ends_early (inl ended) = inl (shows AtEnd ended)
    ends_early (inr (inl fault)) = inr (inl (subst HasFault (sym (gave_heard bytes script reads turns end_core ran.run k low)) fault))
    ends_early (inr (inr (inl most))) = inr (inr (inl (let c = counted in let same = ap length (gave_heard bytes script reads turns end_core ran.run k low) in omega (arith, most, c, same))))
    ends_early (inr (inr (inr failed))) = inr (inr (inr (shows Broken failed)))

    is_told : IsEndTold (plan_of script) end_core k e
    is_told =
        let home = over.homes k low in
        let took = took_is m.links m.plan m.letters ran.took k home.took home.next home.done letters (subst (λ (q : Plan). k < q.links) (sym plan) low)
        (subst (λ (q : Plan). get_elem? end_core.homes (q.requests + k) ≡ core.some (core.some (Link k home.took home.next home.done))) (sym plan) home.is) in
        let lies = lies_is (plan_of script) end_core.homes k home.took home.next home.done low home.is in record {
          numbered = stays.link ∙ was.link;
          took = told_is m.links ran.took m.ends k e _ outs at ran.agrees (took ∙ sym lies);
          counted = counted;
          gives = gives;
        }

    is_end : (has : HasCauses script turns end_core ran.run) → IsEndOf (plan_of script) end_core has.fixed (gave_in end_core) k e
    is_end has = record {
      numbered = is_told.numbered;
      took = is_told.took;
      counted = is_told.counted;
      gives = is_told.gives;
      failed = λ broke. ran.broken k e (has.broken k broke) at;
      early = λ early. ends_early (has.early k early).1;
      closed = λ closed. found_closed e.closed (still_told before.0 e stays (all_at (λ (x : LinkEnd). x.closed ≢ None) start.ends before.0 told_closed (k, before.1))) (shows Closed (has.closed k closed));
    }

    heard_each : IfSome e.answers (λ answers. answers ≡ as_told (heard_of ran.run k))
    heard_each = subst (λ (o : Option (List HalfAnswer)). IfSome o (λ answers. answers ≡ as_told (heard_of ran.run k))) (sym (ran.told.each k before.0 e before.1 at)) (told_from_none before.0.answers (as_told (heard_of ran.run k)) was.answers)

    take_each : IfSome e.takes (λ takes. takes ≡ take_answers (as_taken (taken_of ran.run k)))
    take_each = subst (λ (o : Option (List TakeAnswer)). IfSome o (λ takes. takes ≡ take_answers (as_taken (taken_of ran.run k)))) (sym (ran.takes.each k before.0 e before.1 at)) (told_from_none before.0.takes (take_answers (as_taken (taken_of ran.run k))) was.takes)

  are_heard : AreHeard m.ends (heard_of ran.run) (taken_of ran.run)
  are_heard = record {
    each = heard_each;
    none_beyond = λ k past. ran.told.none_beyond k (let as_many = same.as_many in omega (arith, as_many, past));
    each_take = take_each;
    no_take_beyond = λ k past. ran.takes.none_beyond k (let as_many = same.as_many in omega (arith, as_many, past));
  }

  ends_told : AreEndsTold script end_core m.ends
  ends_told = record { as_many = same.as_many ∙ many; each = λ k e at. is_told k e at }

  ends_are : (has : HasCauses script turns end_core ran.run) → AreEndsOf script end_core has.fixed (gave_in end_core) m.ends
  ends_are has = record { as_many = same.as_many ∙ many; each = λ k e at. is_end k e at has }

  -- ## What they were offered

  offered : Offering → (k : ℕ) (shape : Shape) → slice_get (link_shapes script) k ≡ Some shape → OffersInRun script turns end_core ran.run k shape.serve shape.end × IsOffering m.links k shape.serve shape.end
  offered offering k shape at = ran.offers k shape.serve shape.end (asked offering k (spec_of mode.Loop shape) (asked_at mode.Loop script k shape at)).0

  -- and how they answered
  shaped : Offering → (k : ℕ) (shape : Shape) → slice_get (link_shapes script) k ≡ Some shape → ShapedInRun script turns end_core ran.run k shape
  shaped offering k shape at = ran.shapes k shape ((asked offering k (spec_of mode.Loop shape) (asked_at mode.Loop script k shape at)).1 (in_memory offering))

  tells : Offering → (k : ℕ) (e : LinkEnd) → slice_get m.ends k ≡ Some e → IsSome e.took
  tells offering k e at =
      let shape = within (link_shapes script) k (let inside = low k e at in let as_many = shapes_many script in omega (arith, inside, as_many)) in
      let h = (offered offering k shape.0 shape.1).1 in
      tells_is m.links.outs m.ends k e h.out h.took outs at h.out_at h.took_is

  -- ## The text

  causes : HasCauses script turns end_core ran.run
  causes = has_causes bytes script reads turns end_core ran.run (ran.closes tell)

  whole : (ends : List LinkEnd) → ends ≡ m.ends → IsWholeRun Offering script turns ends
  whole ends ends_same = record {
    core = end_core;
    run = ran.run;
    laws = keeps_laws script (tasks_of_script bytes script reads) (starts bytes script reads) (let limits = keeps_limits bytes script reads in retries_go (plan_of script) limits.requests) turns end_core ran.run (fitting bytes script reads turns end_core ran.run);
    heard = subst (λ (es : List LinkEnd). AreHeard es (heard_of ran.run) (taken_of ran.run)) (sym ends_same) are_heard;
    drops = run_drops_told bytes script reads turns end_core ran.run (run_owed_of script (made bytes script reads) turns end_core ran.run (ran.closes tell));
    idle = λ callless. clients_idle bytes script reads callless turns end_core ran.run;
    over = over;
    offers = λ offering k shape at. (offered offering k shape at).0;
    shapes = shaped;
    closes = λ offering. ran.closes tell;
    shows = λ offering k e at. shows k e (ap (λ (es : List LinkEnd). slice_get es k) (sym ends_same) ∙ at);
    tells = λ offering k e at. tells offering k e (ap (λ (es : List LinkEnd). slice_get es k) (sym ends_same) ∙ at);
  }

  module _ (outcomes : List (Option Outcome)) (words : List PlaceWord) (ends : List LinkEnd) (outcomes_are : outcomes ≡ m.outcomes) (words_are : words ≡ place_words m.plan m.words) (ends_same : ends ≡ m.ends) where
    words_now : words ≡ place_words (plan_of script) m.words
    words_now = words_are ∙ ap (λ (q : Plan). place_words q m.words) plan

    module _ (took : List (List ℕ)) (told : AreTold ends took) (text : List ℕ) (reported : IsReportText script m.outcomes words took text) where
      pub text_is : IsRunText Offering script turns text ends
      unfolding whole
      text_is =
          let report = subst (λ (ws : List PlaceWord). IsReportText script m.outcomes ws took text) words_now reported in record {
            whole = whole ends ends_same;
            took = took;
            told = told;
            report = report.report;
            reports = report.told;
            is_text = report.is_text;
            ends_told = subst (AreEndsTold script end_core) (sym ends_same) ends_told;
            causes = (causes, subst (AreEndsOf script end_core causes.fixed (gave_in end_core)) (sym ends_same) (ends_are causes));
          }

      -- its outcomes are those that were printed
      same_outcomes : text_is.report.outcomes ≡ reported.report.outcomes
      unfolding text_is whole
      same_outcomes = text_is.reports.outcomes ∙ ap (λ (ws : List PlaceWord). outcomes_from ws 0 m.outcomes) (sym words_now) ∙ sym reported.told.outcomes

    print_is : (shows : Print) (took : List (List ℕ)) (text : List ℕ) → AreTold ends took → IsPrintOf shows script m.outcomes words took text → IsPrinted Offering shows script turns text ends
    print_is print.Report took text told is = text_is took told text is
    print_is (print.Summary load) took text told is = record {
      whole = is.whole;
      reported = text_is took told is.whole is.reported;
      sums = is.sums ∙ ap (λ (os : List Outcome). summary_text load.seed load.clients load.operations (sums_of (told_of script os))) (sym (same_outcomes took told is.whole is.reported));
    }

    pub printed_is : (shows : Print) (text : List ℕ)
        → (ArePlaces words → HasEachOutcome words outcomes → (took : List (List ℕ)) × AreTold ends took × IsPrintOf shows script outcomes words took text)
        → IsPrinted Offering shows script turns text ends
    printed_is shows text prints =
        let long = ended_length bytes script reads turns end_core ran.run in
        let places = script_places bytes script reads end_core causes.fixed (gave_in end_core) causes.orders long causes.tells in
        let each = subst (HasEachOutcome words) (sym outcomes_are) (subst (λ (ws : List PlaceWord). HasEachOutcome ws m.outcomes) (sym words_now) places.1) in
        let w = prints (subst ArePlaces (sym words_now) places.0) each in
        print_is shows w.0 text w.1 (subst (λ (os : List (Option Outcome)). IsPrintOf shows script os words w.0 text) outcomes_are w.2)

-- where it was played to its end
pub text_answered : {T E F S P C : Type 0} (shows : Print) (items : T → List ℕ) (r : Result T E) (q : Result S F) (bytes : List ℕ) (script : List Item) (turns : List Turn) (start m : MachineState) (outcomes : List (Option Outcome)) (words : List PlaceWord) (ends back : List LinkEnd) →
    script_of bytes ≡ Ok script → IsMade script start → AreUntouched 0 start.ends → length start.ends ≡ length (link_names script) → SameLinks start m →
    map (λ (o : OutState). o.took) m.links.outs ≡ map (λ (e : LinkEnd). e.took) m.ends → map (λ (i : InState). i.gave) m.links.inns ≡ map (λ (e : LinkEnd). e.gave_count) m.ends →
    map (λ (i : InState). i.gave_bytes) m.links.inns ≡ map (λ (e : LinkEnd). e.gave) m.ends → length m.letters ≡ m.plan.requests →
    outcomes ≡ m.outcomes → words ≡ place_words m.plan m.words → ends ≡ m.ends → back ≡ ends →
    (IsOk r → IsOk q) → (P → AreAlwaysReady start.links) → (C → TellClosing start.links) → (C → AllByRecursion (λ (e : LinkEnd). e.closed ≢ None) start.ends) →
    (Offering : Type 0) (goes : Mode → Bool) → (Offering → goes mode.Loop ≡ true) → (Offering → AreAsked goes (specs_of mode.Loop script) start.links.outs start.links.inns) → OnOk q (AreAlwaysReady start.links → HasRun script turns start m) → OnOk q ((m.plan ≡ start.plan) × (m.ids.plan ≡ start.ids.plan)) →
    IfOk r (λ t. ArePlaces words → HasEachOutcome words outcomes → (took : List (List ℕ)) × AreTold ends took × IsPrintOf shows script outcomes words took (items t)) →
    IfOk r (λ t. P → C → IsPrinted Offering shows script turns (items t) back)
text_answered shows items (Err e) q bytes script turns start m outcomes words ends back reads made untouched many same outs counts given letters outcomes_are words_are ends_same back_is played always_ready tell closed Offering goes in_memory asked ran sized told = tt
text_answered shows items (Ok t) (Err e) bytes script turns start m outcomes words ends back reads made untouched many same outs counts given letters outcomes_are words_are ends_same back_is played always_ready tell closed Offering goes in_memory asked ran sized told = let same = played refl in absurd (cc)
text_answered shows items (Ok t) (Ok done) bytes script turns start m outcomes words ends back reads made untouched many same outs counts given letters outcomes_are words_are ends_same back_is played always_ready tell closed Offering goes in_memory asked ran sized told =
    λ p c. subst (IsPrinted Offering shows script turns (items t)) (sym back_is) (printed_is bytes script turns start m reads untouched many same (ran (always_ready p)) (sized.0 ∙ made.plan) (tell c) (closed c) outs counts given letters Offering goes in_memory asked outcomes words ends outcomes_are words_are ends_same shows (items t) told)
