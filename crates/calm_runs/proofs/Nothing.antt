-- Where each client is at rest as the run begins to end, as in a script without `join`, nothing comes late: once it is ending, no link becomes a socket's, no operation but those on calls has its outcome, and no attempt of a call is begun or ends.
use Rattle.std.proofs.Common.{◌≡◌, ℕ, zero, suc, ◌+◌, ◌-◌, ◌<◌, ◌≤◌, ◌&&◌, inl, inr, ⊎_elim, Bool, true, false, cond, List, [], ◌∷◌, ◌++◌, length, map, flat_map, filter, replicate, refl, sym, ap, ◌∙◌, subst, arith}
use Rattle.std.proofs.lemmas.List.{length-map}
use Rattle.std.specs.Prelude as std
use Rattle.std.specs.Prelude.{Contains, slice_get}
use mathlib.Core.Logic.{dite}
use mathlib.Core.Option.{some}
use native.Mathlib.Decide.{dec_le}
use lib.ListN.{get_elem?}
use Rattle.sock_words.specs.declared.outcome.Outcome.{Outcome}
use Rattle.brpc_model.specs.Items.{Item, Join}
use Rattle.brpc_model.specs.Operations.{Turn}
use Rattle.seat_programs.specs.declared.task.Task.{Task}
use Rattle.seat_programs.specs.ClientProgram.{client_from, ending_of}
use Rattle.seat_programs.specs.Cores.{Core, SeatState, resolved, next_step, waiting_at}
use Rattle.seat_programs.specs.Programs.{Program, Rest}
use Rattle.seat_programs.specs.ScriptSetupToEnding.{sizes_of, programs, readers_from, all_programs, all_tasks, opened, set_up, played, IsRunWithCalls}
use Rattle.seat_programs.specs.Tasks.{opens, calls, plan_of, id_plan_of}
use Rattle.seat_programs.specs.Ticks.{quiet}
use Rattle.send_causes.specs.Below.programs_allowed.specs.program_walks.proofs.OpenedLivesRecorded.{mapped}
use Rattle.send_causes.specs.Below.programs_allowed.specs.program_walks.proofs.WholeScriptSound.{closing_of, views_played, views_closed, end_answered}
use Rattle.send_causes.specs.Below.outcome_stories.specs.StoryStepCauses.{Asks}
use Rattle.send_causes.specs.Below.outcome_stories.specs.Explains.{plain_tasks}
use Rattle.send_causes.specs.Below.outcome_stories.specs.Facts.{put_at, shown_in, numbers_of, is_said_late, late_of_run, late_links_of_run}
use Rattle.send_causes.specs.Below.outcome_stories.specs.KeptStory.{IsSpoken}
use Rattle.send_causes.specs.Below.outcome_stories.specs.PlainTasks.{told_tasks_of}
use Rattle.send_causes.specs.Below.outcome_stories.specs.OperationStories.{In}
use Rattle.send_causes.specs.Below.outcome_causes.proofs.PlainOutcomeCauses.{in_both}
use Rattle.send_causes.specs.Below.joint_runs.proofs.RunsOfBothTables.{AreMade, first_views}
use Rattle.send_causes.specs.Below.accept_counts.proofs.ProgramsAtBeginning.{others_begin}
use Rattle.send_causes.specs.Below.accept_counts.proofs.EarlyClosedSockets.{start, go, fitting, known, first_fresh}
use Rattle.send_causes.specs.Below.accept_counts.proofs.SeatTicks.{never_later}
use Rattle.send_causes.specs.Below.outcome_causes.proofs.SocketCausesOfScripts as stories
use Rattle.send_causes.specs.Below.call_owing.specs.SettledSeats.{IsAtRest}
use Rattle.calm_runs.specs.CalmPrograms.{IsCalm}
use Rattle.calm_runs.proofs.CalmAlongTicks.{calm_setup, calm_along, StaysQuiet, quiet_along}
use Rattle.calm_runs.proofs.CalmReaderPrograms.{ending_calm, reader_calm}
use Rattle.calm_runs.proofs.RestingWithoutJoin.{clients_rest}
use Rattle.calm_runs.proofs.TicksOfCalmSeats.{CalmAt, AllCalm, calm_next, calm_set, unsaid}

back_at : {A : Type 0} (xs ys : List A) (i : ℕ) (x : A) → length xs ≤ i → get_elem? (xs ++ ys) i ≡ some x → (k : ℕ) × (get_elem? ys k ≡ some x)
back_at [] ys i x past at = (i, at)
back_at (y ∷ xs) ys zero x past at = absurd (let z : ⊥ = omega (arith, past) in z)
back_at (y ∷ xs) ys (suc i) x past at = back_at xs ys i x (omega (arith, past)) at

-- ## Operations that aren't on calls

in_numbers : (ts : List Task) (o : ℕ) → In o (map (λ (t : Task). t.number) ts) → (t : Task) × In t ts × (t.number ≡ o)
in_numbers [] o m = absurd m
in_numbers (t ∷ ts) o (inl e) = (t, inl refl, sym e)
in_numbers (t ∷ ts) o (inr m) = let r = in_numbers ts o m in (r.0, inr r.1, r.2)

-- each is a task of those that are told of
told_of : (all others : List (List Task)) (o : ℕ) → In o (flat_map (λ ts. map (λ (t : Task). t.number) (plain_tasks ts)) all) → (d : ℕ) × (t : Task) × Asks (map plain_tasks all ++ others) d t × (t.number ≡ o)
told_of [] others o m = absurd m
told_of (ts ∷ all) others o m = ⊎_elim
    (λ a. let t = in_numbers (plain_tasks ts) o a in (0, t.0, (plain_tasks ts, refl, t.1), t.2))
    (λ b. let r = told_of all others o b in let asks = r.2 in (r.0 + 1, r.1, (asks.0, later r.0 asks.0 asks.1, asks.2), r.3))
    (in_both (map (λ (t : Task). t.number) (plain_tasks ts)) (flat_map (λ ts. map (λ (t : Task). t.number) (plain_tasks ts)) all) o m)
  where
    later : (d : ℕ) (us : List Task) → slice_get (map plain_tasks all ++ others) d ≡ std.Some us → slice_get (plain_tasks ts ∷ (map plain_tasks all ++ others)) (d + 1) ≡ std.Some us
    later d us e = ap (slice_get (plain_tasks ts ∷ (map plain_tasks all ++ others))) (let z : d + 1 ≡ suc d = omega arith in z) ∙ e

none_kept : (f : ℕ → Bool) (xs : List ℕ) → ((x : ℕ) → In x xs → f x ≡ false) → filter f xs ≡ []
none_kept f [] h = refl
none_kept f (x ∷ xs) h = ap (λ (b : Bool). cond b (x ∷ filter f xs) (filter f xs)) (h x (inl refl)) ∙ none_kept f xs (λ y m. h y (inr m))

-- ## A run

module _ (script : List Item) (made : AreMade script) (turns : List Turn) (core : Core) (is : IsRunWithCalls script turns core) (rest : (j : ℕ) → j < 32 → IsAtRest (played script is.setup (is.scheduled ++ is.later)) j) where
  -- the number is of no operation but those on calls
  abbrev S : ℕ → Type 0
  S = IsSpoken (told_tasks_of script)

  abbrev before : Core
  before = played script is.setup (is.scheduled ++ is.later)

  opened_calm : (j : ℕ) → 32 ≤ j → CalmAt S j (opened script)
  opened_calm j high s at =
      let clients : List Program = programs (sizes_of (plan_of script) (id_plan_of script)) (all_tasks script) in
      let m = mapped (λ (program : Program). record { program = next_step (resolved [] program); hand = [] }) (all_programs clients (readers_from (calls script) 0 (opens script))) j s at in
      let long = length-map (all_tasks script) (client_from (sizes_of (plan_of script) (id_plan_of script)) []) in let k = known script made turns core is in let few = k.few in
      let b = back_at clients (replicate (32 - length clients) Rest ++ readers_from (calls script) 0 (opens script)) j m.0 (omega (arith, long, few, high)) m.1 in
      subst (λ (y : SeatState). IsCalm S y.program) m.2
      (calm_next S [] m.0 (others_begin (IsCalm S) tt (calls script) (λ k o. reader_calm S (calls script) k o) (32 - length clients) (opens script) b.0 m.0 b.1))

  played_calm : (j : ℕ) → 32 ≤ j → CalmAt S j before
  played_calm j high = let g = go script made turns core is in let f = fitting script made turns core is in let s = start script made turns core is in
      calm_along (plan_of script) (told_tasks_of script) (stories.seats script made.are (first_views script) s (first_fresh script) g turns core is f) g (is.scheduled ++ is.later) (set_up script is.setup)
      (stories.views_set script made.are (first_views script) s (first_fresh script) g turns core is f) is.answered f.of_played (stories.over script made.are (first_views script) s (first_fresh script) g turns core is f).0 j
      (calm_setup S (plan_of script) is.setup (opened script) j (λ e. let z : ⊥ = omega (arith, e, high) in z) (opened_calm j high))

  -- clients are at rest, and seat 0 makes the ending
  closing_calm : AllCalm S (closing_of script turns core is)
  closing_calm j = calm_set S before 0 (waiting_at before.calls.waiting 0) (ending_of (opens script)) [] (closing_of script turns core is) (ending_calm S (opens script)) refl j
      (λ some_. dite (dec_le 32 j) (λ high. played_calm j high)
      (λ low s at. subst (IsCalm S) (sym (rest j (omega (arith, low)) s at)) tt))

  ended_calm : AllCalm S is.ended
  ended_calm j = let g = go script made turns core is in let f = fitting script made turns core is in let s = start script made turns core is in
      subst (CalmAt S j) (sym is.is_ended)
      (calm_along (plan_of script) (told_tasks_of script) (stories.seats script made.are (first_views script) s (first_fresh script) g turns core is f) g (replicate is.last (quiet 0)) (closing_of script turns core is)
      (views_played script turns core is (first_views script)) (end_answered script made.are (first_views script) s g turns core is f) f.of_closing (stories.closing_told script made.are (first_views script) s (first_fresh script) g turns core is f) j (closing_calm j))

  closing : StaysQuiet (plan_of script) (told_tasks_of script) (stories.seats script made.are (first_views script) (start script made turns core is) (first_fresh script) (go script made turns core is) turns core is (fitting script made turns core is)) (go script made turns core is)
      (closing_of script turns core is) (replicate is.last (quiet 0))
  closing = let g = go script made turns core is in let f = fitting script made turns core is in let s = start script made turns core is in
      quiet_along (plan_of script) (told_tasks_of script) (stories.seats script made.are (first_views script) s (first_fresh script) g turns core is f) g (replicate is.last (quiet 0)) (closing_of script turns core is)
      (views_played script turns core is (first_views script)) (end_answered script made.are (first_views script) s g turns core is f) f.of_closing (stories.closing_told script made.are (first_views script) s (first_fresh script) g turns core is f) closing_calm

  final : StaysQuiet (plan_of script) (told_tasks_of script) (stories.seats script made.are (first_views script) (start script made turns core is) (first_fresh script) (go script made turns core is) turns core is (fitting script made turns core is)) (go script made turns core is)
      is.ended is.final
  final = let g = go script made turns core is in let f = fitting script made turns core is in let s = start script made turns core is in
      quiet_along (plan_of script) (told_tasks_of script) (stories.seats script made.are (first_views script) s (first_fresh script) g turns core is f) g is.final is.ended
      (views_closed script turns core is (first_views script)) is.answered_again f.of_final (stories.ended_told script made.are (first_views script) s (first_fresh script) g turns core is f) ended_calm

  -- an operation that isn't on calls has its outcome before the ending, or never
  same_outcome : (o : ℕ) → (S o → ⊥) → slice_get core.outcomes o ≡ slice_get before.outcomes o
  same_outcome o plain_ = ap (λ (d : Core). slice_get d.outcomes o) is.is_end ∙ (final.outcomes o plain_ ∙ (ap (λ (d : Core). slice_get d.outcomes o) is.is_ended ∙ (closing.outcomes o plain_
      ∙ unsaid S o plain_ (waiting_at before.calls.waiting 0) (ending_of (opens script)) (ending_calm S (opens script)) before.outcomes)))

  never_late : (o : ℕ) → (S o → ⊥) → is_said_late script turns core is o ≡ false
  never_late o plain_ = ap (λ (x : std.Option (std.Option Outcome)). (elim (slice_get before.outcomes o) as (λ x. Bool) [ std.None ↦ false | std.Some x ↦ elim x as (λ y. Bool) [ std.None ↦ true | std.Some outcome ↦ false ] ])
      && (elim x as (λ x. Bool) [ std.None ↦ false | std.Some x ↦ elim x as (λ y. Bool) [ std.None ↦ false | std.Some outcome ↦ true ] ])) (same_outcome o plain_) ∙ never_later (slice_get before.outcomes o)

  -- no operation but those on calls has its outcome while the run is ending, and no call is put home
  pub none_late : late_of_run script turns core is ≡ []
  none_late = ap (λ (l : List ℕ). l ++ shown_in put_at (plan_of script) is.ended is.final)
      (none_kept (is_said_late script turns core is) (flat_map (numbers_of script turns core is) (all_tasks script))
      (λ o m. never_late o (λ spoken. let t = told_of (all_tasks script) _ o m in spoken t.0 t.1 t.2 t.3))) ∙ final.put

  -- no link becomes a socket's then
  pub no_late_link : late_links_of_run script turns core is ≡ []
  no_late_link = final.born

  -- nothing comes late
  pub nothing_behind : (late_links_of_run script turns core is ≡ []) × (late_of_run script turns core is ≡ [])
  nothing_behind = (no_late_link, none_late)

-- as where no `join` stands in the script
pub nothing_late : (script : List Item) (made : AreMade script) (turns : List Turn) (core : Core) (is : IsRunWithCalls script turns core) → ((client number : ℕ) → Contains script (Join client number) → ⊥) → (late_links_of_run script turns core is ≡ []) × (late_of_run script turns core is ≡ [])
nothing_late script made turns core is no_join = nothing_behind script made turns core is (clients_rest script made turns core is no_join)
