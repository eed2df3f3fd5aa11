-- Whatever its schedule: the report of the run of a script that was read fits the script, and in the end all is over.
use Rattle.std.proofs.Common.{◌≡◌, ℕ, zero, suc, ◌<◌, inl, inr, false, List, [], ◌∷◌, length, slice_get, Option, Some, Ok, Contains, refl, ap, ◌∙◌, subst, arith}
use Rattle.std.proofs.lemmas.List.{nil_from_length}
use Rattle.brpc_model.specs.Items.{Item, Shape, Open}
use Rattle.brpc_model.specs.Operations.{Turn, link_names, link_shapes}
use Rattle.brpc_model.specs.Script.{script_of}
use Rattle.brpc_model.specs.ReturnedLink.{LinkEnd}
use Rattle.brpc_model.specs.LinkFailureCauses.{HasFault}
use Rattle.brpc_model.specs.Report.{Report, report_text}
use Rattle.brpc_model.specs.PlaceWords.{ArePlaces, HasEachOutcome, AreTold}
use Rattle.brpc_model.specs.Complete.{FitsWhole, IsUntroubled, IsSilentUnserved, IsServed}
use Rattle.seat_programs.specs.Tasks.{opens, calls, plan_of, id_plan_of}
use Rattle.seat_programs.specs.Cores.{Core}
use Rattle.seat_programs.specs.ScriptSetupToEnding.{IsRunWithCalls, Reports, all_tasks, place_words}
use Rattle.seat_programs.specs.ExplainedCalls.{Fixed, Order, ExplainedCalls}
use Rattle.outcome_causes.specs.sock_runs.proofs.LinkTicks.{RetriesGo}
use Rattle.outcome_causes.specs.program_walks.proofs.WholeScriptSound.{IsOwed, end_over, all_homes, end_rests}
use Rattle.outcome_causes.specs.outcome_stories.specs.PlainTasks.{told_tasks_of}
use Rattle.outcome_causes.specs.outcome_stories.specs.TaskCauses.{DropsMade}
use Rattle.outcome_causes.proofs.SocketCausesOfScripts.{MadeInRun, run_drops}
use Rattle.owed_calls.specs.Below.programs_allowed.specs.SeatOpenings.{all_seats}
use Rattle.owed_calls.specs.Below.programs_allowed.proofs.FreshSeatsAtStart.{opening_fresh}
use Rattle.owed_calls.specs.Below.programs_allowed.proofs.RetryAllowed.{retries_go}
use Rattle.owed_calls.specs.Below.joint_runs.proofs.RunsOfBothTables.{first_views, joint_runs}
use Rattle.owed_calls.specs.call_owing.specs.Owing.{Owing}
use Rattle.owed_calls.specs.call_owing.specs.SoundOwing.{SoundOwing}
use Rattle.owed_calls.specs.call_owing.proofs.EndOfRanges.{all_ended}
use Rattle.owed_calls.specs.Below.report_fits.specs.OwedInCalmRuns.{IsCalm}
use Rattle.owed_calls.specs.Below.report_fits.specs.ScriptLinkEnds.{AreEndsOf, EndsEarly}
use Rattle.owed_calls.specs.Below.script_facts.proofs.FilteredLists.{Has, has_first, has_later, within, all_at, contains_from}
use Rattle.owed_calls.specs.Below.report_fits.proofs.PrintableCallRun.{lateness, script_fits, script_places}
use Rattle.owed_calls.specs.Below.script_facts.proofs.ScriptSizes.{keeps_limits}
use Rattle.owed_calls.specs.Below.script_facts.proofs.ReadScriptTasks.{tasks_of_script}
use Rattle.run_theorems.specs.RunIsOver.{IsAllOver}
use Rattle.run_theorems.specs.Unserved.{IsUnserved, IsInTime}
use Rattle.run_theorems.proofs.RunLengths.{ended_length}
use Rattle.run_theorems.proofs.ScriptStartsSoundly.{made, starts, fitting}

-- ## Links without a server

-- no bytes have no fault
pub no_fault : HasFault [] → ⊥
no_fault (start, fault, e) = cc

-- the reading of a link that gave nothing, and never failed, ended early by nothing
pub not_early : (gave : List ℕ) (e : LinkEnd) → length gave ≡ e.gave_count → e.gave_count ≡ 0 → e.gave_end ≡ false → e.take_faults ≡ 0 → EndsEarly gave e → ⊥
not_early gave e counted none_ open_ unfailed (inl ended) = cc
not_early gave e counted none_ open_ unfailed (inr (inl fault)) = no_fault (subst HasFault (nil_from_length gave (omega (arith, counted, none_))) fault)
not_early gave e counted none_ open_ unfailed (inr (inr (inl most))) = omega (arith, most, none_)
not_early gave e counted none_ open_ unfailed (inr (inr (inr failed))) = omega (arith, failed, unfailed)

-- each link of a script was opened with a shape
opened_with : (items : List Item) (k : ℕ) → k < length (link_names items) → (name : List ℕ) × (shape : Shape) × (slice_get (link_shapes items) k ≡ Some shape) × Has items (Open name shape)
opened_with [] k low = absurd (omega (arith, low))
opened_with (Open name shape ∷ items) zero low = (name, shape, refl, has_first (Open name shape) items)
opened_with (Open name shape ∷ items) (suc k) low = let x = opened_with items k (omega (arith, low)) in (x.0, x.1, x.2, has_later (Open name shape) items (Open x.0 x.1) x.3)
opened_with (item ∷ items) k low = let x = opened_with items k low in (x.0, x.1, x.2, has_later item items (Open x.0 x.1) x.3)

not_served : (script : List Item) (name : List ℕ) → IsUnserved script → IsServed script name → ⊥
not_served script name none_ (some_, all) = let no_server = (none_ name some_.0 some_.1).0 in let server = all some_.0 some_.1 in cc

-- where nothing went wrong, nothing is owed besides of a script without a server but that nothing came late: its links gave nothing, and none of its calls is to be answered
module _ (script : List Item) (core : Core) (fixed : Fixed) (gave : ℕ → List ℕ) (unserved : IsUnserved script) (inside : (k : ℕ) → Contains fixed.early k → k < length (link_names script)) where
  pub is_calm : (ends : List LinkEnd) → AreEndsOf script core fixed gave ends → IsInTime script fixed → IsUntroubled script ends → IsCalm script core.outcomes fixed
  is_calm ends given in_time untroubled = record {
    none_early = λ k early. (
        let many = given.as_many in
        let low = inside k early in
        let at = within ends k (omega (arith, low, many)) in
        let is = given.each k at.0 at.1 in
        let put = all_at (λ (e : LinkEnd). (e.put_faults ≡ 0) × (e.take_faults ≡ 0)) ends at.0 untroubled.put (k, at.1) in
        let shape = opened_with script k low in
        let opened = ap (slice_get (link_shapes script)) is.numbered ∙ shape.2 in
        let quiet = all_at (IsSilentUnserved script) ends at.0 untroubled.unserved (k, at.1) shape.1 opened (unserved shape.0 shape.1 (contains_from script (Open shape.0 shape.1) shape.3)).0 in
        not_early (gave k) at.0 is.counted quiet.0 quiet.1 put.1 (is.early early)
        );
    none_late = in_time.none_late;
    no_late_link = in_time.no_late_link;
    calls = λ i op call name outcome there item became first served unexpired. absurd (not_served script name unserved served);
  }

module _ (bytes : List ℕ) (script : List Item) (reads : script_of bytes ≡ Ok script) (turns : List Turn) (core : Core) (run : IsRunWithCalls script turns core) where
  -- ## The report

  module _ (fixed : Fixed) (gave : ℕ → List ℕ) (orders : ℕ → Order) (tells : ExplainedCalls (plan_of script) (all_tasks script) core.outcomes fixed gave orders core) where
    -- each outcome of the report has its cause, and each link that tells what it took took what its lines say
    pub run_fits : (report : Report) (took : List (List ℕ)) (ends : List LinkEnd) → Reports script core took report → AreTold ends took → AreEndsOf script core fixed gave ends → (IsUntroubled script ends → IsCalm script core.outcomes fixed) →
        FitsWhole script (report_text script report) ends (lateness fixed)
    run_fits report took ends reports told given calm = script_fits bytes script reads core fixed gave orders (ended_length bytes script reads turns core run) tells report took ends reports told given calm

    -- what the place words tell are places, and each operation has an outcome that was said, or one of these
    pub run_places : ArePlaces (place_words (plan_of script) core.words) × HasEachOutcome (place_words (plan_of script) core.words) core.outcomes
    run_places = script_places bytes script reads core fixed gave orders (ended_length bytes script reads turns core run) tells

    -- so it is of a script without a server, where nothing came late
    pub unserved_fits : IsUnserved script → ((k : ℕ) → Contains fixed.early k → k < length (link_names script)) → (report : Report) (took : List (List ℕ)) (ends : List LinkEnd) → Reports script core took report → AreTold ends took → AreEndsOf script core fixed gave ends →
        (IsUntroubled script ends → IsInTime script fixed) → FitsWhole script (report_text script report) ends (lateness fixed)
    unserved_fits unserved inside report took ends reports told given in_time = run_fits report took ends reports told given (λ untroubled. is_calm script core fixed gave unserved inside ends given (in_time untroubled) untroubled)

  -- ## The end

  goes : RetriesGo (plan_of script)
  goes = let limits = keeps_limits bytes script reads in retries_go (plan_of script) limits.requests

  module _ (owed : IsOwed script turns core run) where
    -- each drop was answered `freed` or `kept` by what its own steps did
    pub run_drops_told : DropsMade (told_tasks_of script) core.outcomes (MadeInRun script turns core run)
    run_drops_told = run_drops script (tasks_of_script bytes script reads) (first_views script) (starts bytes script reads) (opening_fresh (plan_of script) (all_seats (all_tasks script) (length (opens script)))) goes turns core run
        (fitting bytes script reads turns core run) owed

    -- behind the ending nobody refers to any slot, each slot is free unless its versions are used up, each id range has ended, and each link is at home
    pub run_is_over : (life : ℕ → Option ℕ) (us : List Owing) → SoundOwing (id_plan_of script) life (calls script) core us → IsAllOver script core
    run_is_over life us owing =
        let are = tasks_of_script bytes script reads in
        let vs = first_views script in
        let begins = starts bytes script reads in
        let fits = fitting bytes script reads turns core run in
        let both = (joint_runs script turns core run (made bytes script reads)).over in record {
          settled = owed.after;
          lives = end_over script are vs begins goes turns core run fits owed;
          ranges = all_ended (plan_of script) (id_plan_of script) life (calls script) core us both.id_views owing both.ids (end_rests script are vs begins goes turns core run fits owed);
          homes = all_homes script are vs begins goes turns core run fits owed;
        }
