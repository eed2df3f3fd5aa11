-- What a run with calls leaves can be printed, and its report fits, where its script was read.
use Rattle.std.proofs.Common.{◌≡◌, ℕ, ◌≤◌, ◌*◌, ◌⊎◌, inl, inr, List, length, slice_get, Some, None, Ok, sym, ◌∙◌, subst, arith}
use Rattle.std.proofs.lemmas.Option.{slice_get_within}
use Rattle.sock_words.specs.PackedWords.{HasPosition}
use Rattle.sock_words.specs.declared.outcome.Outcome.{Outcome}
use Rattle.brpc_model.specs.Items.{Item}
use Rattle.brpc_model.specs.Operations.{operations, link_names}
use Rattle.brpc_model.specs.Script.{script_of}
use Rattle.brpc_model.specs.ReturnedLink.{LinkEnd}
use Rattle.brpc_model.specs.Report.{Report, report_text}
use Rattle.brpc_model.specs.Run.{Lateness}
use Rattle.brpc_model.specs.PlaceWords.{word_at, ArePlaces, HasEachOutcome, AreTold}
use Rattle.brpc_model.specs.Complete.{FitsWhole, IsUntroubled}
use Rattle.seat_programs.specs.Cores.{Core}
use Rattle.seat_programs.specs.Tasks.{plan_of}
use Rattle.seat_programs.specs.ScriptSetupToEnding.{all_tasks, place_words, Reports}
use Rattle.seat_programs.specs.ExplainedCalls.{Fixed, Order, ExplainedCalls, StandsOn, label}
use Rattle.report_fits.specs.OwedInCalmRuns.{IsCalm}
use Rattle.report_fits.specs.ScriptLinkEnds.{AreEndsOf}
use Rattle.script_facts.proofs.FilteredLists.{within, some_is}
use Rattle.script_facts.proofs.TaskLemmas.{asked_at, operation_task}
use Rattle.script_facts.proofs.ScriptSizes.{is_counted, keeps_limits}
use Rattle.script_facts.proofs.Targets.{are_there}
use Rattle.report_fits.proofs.OrdersOfPlaceWords as orders
use Rattle.script_facts.proofs.KnownScript.{Known}
use Rattle.script_facts.proofs.KnownScript as known
use Rattle.report_fits.proofs.ReportedRunFitting.{fits}

module _ (s : Known) where
  abbrev few : length (link_names s.script) ≤ 65536
  few = omega (arith, s.limits.links)

  -- the place words tell an order of each link
  pub places_of : ArePlaces (place_words (plan_of s.script) s.core.words)
  places_of = orders.are_places (plan_of s.script) s.core s.orders s.tells.are_orders few (known.inside s)

  -- and an operation of which nothing was said has a place
  pub each_of : HasEachOutcome (place_words (plan_of s.script) s.core.words) s.core.outcomes
  each_of i none_ =
      let q = within (operations s.script) i (omega (arith, slice_get_within s.core.outcomes i None none_, s.long)) in
      let a = asked_at s.script i q.0 q.1 in
      by_told (s.tells.told q.0.client (record { number = i; op = a.0 }) (operation_task s.script s.core.outcomes i q.0 a.0 q.1 a.1))
    where
      by_told : ((o : Outcome) × (slice_get s.core.outcomes i ≡ Some (Some o))) ⊎ ((k : ℕ) × StandsOn (plan_of s.script) (all_tasks s.script) s.core.outcomes s.fixed s.gave s.orders i 0 k) → HasPosition (word_at (place_words (plan_of s.script) s.core.words) (8 * i))
      by_told (inl w) = absurd (let same : Some w.0 ≡ None = some_is (Some w.0) None (sym w.1 ∙ none_) in cc)
      by_told (inr w) =
          let at = w.1.1 in
          let P : ℕ → Type 0 = λ n. HasPosition (word_at (place_words (plan_of s.script) s.core.words) n) in
          let same : label at.1 ≡ 8 * i = omega (arith, at.3, at.4) in
          subst P same (orders.parts (plan_of s.script) s.core s.orders s.tells.are_orders few (known.inside s) w.0 w.1.0 at.1 at.0 at.2).has_position

-- ## A script that was read

-- what a run fixes besides, as its report is given with it
abbrev pub lateness : Fixed → Lateness
lateness fixed = record { links = fixed.late_links; operations = fixed.late; silent = fixed.silent; early = fixed.soon }

module _ (bytes : List ℕ) (script : List Item) (reads : script_of bytes ≡ Ok script) (core : Core) (fixed : Fixed) (gave : ℕ → List ℕ) (orders : ℕ → Order) (long : length core.outcomes ≡ length (operations script))
    (tells : ExplainedCalls (plan_of script) (all_tasks script) core.outcomes fixed gave orders core) where
  abbrev pub known_of : Known
  known_of = record {
    script = script;
    core = core;
    fixed = fixed;
    gave = gave;
    orders = orders;
    limits = keeps_limits bytes script reads;
    range = (is_counted bytes script reads).in_range;
    targets = are_there bytes script reads;
    long = long;
    tells = tells;
  }

  pub script_places : ArePlaces (place_words (plan_of script) core.words) × HasEachOutcome (place_words (plan_of script) core.words) core.outcomes
  script_places = (places_of known_of, each_of known_of)

  -- its report fits the script and the links, and where nothing went wrong it is complete
  pub script_fits : (report : Report) (took : List (List ℕ)) (ends : List LinkEnd) → Reports script core took report → AreTold ends took → AreEndsOf script core fixed gave ends → (IsUntroubled script ends → IsCalm script core.outcomes fixed) →
      FitsWhole script (report_text script report) ends (lateness fixed)
  script_fits report took ends reports told given owes = fits (record { run = known_of; report = report; took = took; ends = ends; reports = reports; told = told; given = given }) owes
