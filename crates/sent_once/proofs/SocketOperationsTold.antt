-- What a whole run tells of each `open`, `send`, `hold`, `drop` and `fail`, and of the links: in runs with calls all but three things, in runs without calls all.
use Rattle.std.proofs.Common.{◌≡◌, ◌≢◌, ℕ, ◌*◌, ◌<◌, ◌≤◌, ◌⊎◌, true, List, [], ◌∷◌, ◌++◌, length, length-set, replicate, get_or, inl, inr, ⊎_elim, refl, sym, ap, ◌∙◌, subst, arith}
use Rattle.std.proofs.lemmas.Bool.{true≢false}
use Rattle.std.specs.Prelude.{Contains, Option, None}
use Rattle.std.specs.List.{AllByRecursion}
use mathlib.Core.Logic.{dite}
use mathlib.Core.Option.{none, some}
use native.Mathlib.Decide.{ℕ_discrete}
use lib.ListN.{get_elem?}
use Rattle.atomic_table.proofs.Lists.{set_else}
use Rattle.sock_words.specs.declared.plain.Plan.{Plan}
use Rattle.sock_model.specs.declared.view.View.{View}
use Rattle.sock_model.specs.SocketTableLayout.{place_index}
use Rattle.sock_model.specs.LinksInSlots.{Failed}
use Rattle.seat_programs.specs.brpc_model.specs.Items.{Item}
use Rattle.seat_programs.specs.brpc_model.specs.Operations.{Turn}
use Rattle.seat_programs.specs.brpc_model.specs.Order.{EachBefore}
use Rattle.sock_message.specs.Asked.{Asked}
use Rattle.seat_programs.specs.declared.task.Op.TheVariants as ops
use Rattle.seat_programs.specs.declared.task.Task.{Task}
use Rattle.seat_programs.specs.ClientProgram.{ending_of}
use Rattle.seat_programs.specs.Cores.{Core, SeatState, resolved, next_step, waiting_at}
use Rattle.sock_words.specs.declared.kind.Kind.{Kind}
use Rattle.seat_programs.specs.ScheduledRuns.{IsAtRest, kind_in}
use Rattle.seat_programs.specs.Tasks.{opens, calls, plan_of, id_plan_of}
use Rattle.seat_programs.specs.Ticks.{Moment, quiet}
use Rattle.seat_programs.specs.ScriptSetupToEnding.{all_tasks, played, IsRunWithCalls}
use Rattle.seat_programs.specs.Explained.{AreTasks, IsTask}
use Rattle.seat_programs.specs.ExplainedCalls.{Accepted, Order, Fixed, AreOrders, IsSent, InOwnOrder, IsFailing}
use Rattle.accept_counts.specs.Below.programs_allowed.specs.program_steps.specs.SoundSeats.{state}
use Rattle.accept_counts.specs.Below.programs_allowed.specs.sock_runs.proofs.SoundAlongRuns.{seat_rests}
use Rattle.accept_counts.specs.Below.programs_allowed.specs.runs_end.proofs.Bounded.{IsBounded}
use Rattle.accept_counts.specs.Below.programs_allowed.specs.sock_runs.proofs.Quiets.{run_seats, run_rests}
use Rattle.accept_counts.specs.Below.programs_allowed.specs.program_walks.proofs.WholeScriptSound.{IsOwed, IsListed, closing_of, views_played, views_closed, views_ended, end_answered, played_sound, closing_sound, closed_sound, ended_sound, rested_ahead, rested_idle, closed_ahead, recorded_closed}
use Rattle.accept_counts.specs.Below.outcome_stories.specs.Explains.{is_plain}
use Rattle.accept_counts.specs.Below.outcome_stories.specs.Facts.{broken_of_run, closed_before_ending, late_of_run, CallsFoundNone, ToldPlain, ToldSends}
use Rattle.accept_counts.specs.Below.outcome_stories.specs.PlainTasks.{told_tasks_of}
use Rattle.accept_counts.specs.Below.outcome_stories.specs.OperationStories.{In}
use Rattle.accept_counts.specs.Below.outcome_stories.specs.TaskCauses as causes
use Rattle.accept_counts.specs.Below.outcome_stories.specs.TaskCauses.{ToldTasks}
use Rattle.accept_counts.specs.Below.outcome_ticks.proofs.Lifted.{task_down, why_lifted, told_lifted, are_lifted, lives_lifted}
use Rattle.accept_counts.specs.Below.outcome_causes.proofs.PlainOutcomeCauses as plain_run
use Rattle.accept_counts.specs.Below.outcome_causes.proofs.PlainOutcomeCauses.{fixed_with}
pub use Rattle.accept_counts.specs.Below.outcome_causes.proofs.PlainOutcomeCauses.{lost_so}
use Rattle.accept_counts.specs.Below.outcome_causes.proofs.SocketCausesOfScripts.{lost_of_run, lost_before, late, orders, run_tells, failed_early}
use Rattle.accept_counts.specs.Below.programs_allowed.proofs.FreshSeatsAtStart.{opening_claims}
use Rattle.accept_counts.specs.Below.programs_allowed.specs.SeatOpenings.{all_seats}
use Rattle.accept_counts.specs.Below.joint_runs.proofs.BothTablesSound.{AreBounded}
use Rattle.accept_counts.specs.Below.joint_runs.proofs.RunsOfBothTables.{AreMade, first_views, joint_runs, joint_bounded}
use Rattle.accept_counts.specs.Below.call_owing.specs.LivesOfLinks.{ClosesInRun}
use Rattle.accept_counts.specs.Below.owed_calls.proofs.OwedCallsAreEnded.{run_owed_of}
use Rattle.accept_counts.specs.SentFrameOfAttempt.{IsAttempt}
use Rattle.sent_once.proofs.Dropped.{ending_begins, ending_places, resting_places, failed_before}
use Rattle.accept_counts.proofs.EarlyClosedSockets.{known, Any, ends_anyhow, closed_keeps, first_fresh}
use Rattle.sent_once.proofs.Labelled.{ids_of_run, run_labelled}
use Rattle.accept_counts.proofs.RestsWithoutCalls.{clients_rest}
use Rattle.accept_counts.proofs.RunsKeepAttemptLaw.{AreLabelledIn}
use Rattle.sent_once.proofs.WholeLinkOrders.{run_orders, run_sent}
use Rattle.accept_counts.proofs.Grounds.{setting, grounds}
use Rattle.accept_counts.specs.Below.script_facts.proofs.FilteredLists.{all_map, before_map}

first_bounded : (p : Plan) (most : ℕ) (ms : List Moment) (c : Core) (vs : List View) → AreBounded p most c vs ms → IsBounded p most c vs
first_bounded p most [] c vs b = b
first_bounded p most (m ∷ ms) c vs b = b.0

pub opening_bare : (script : List Item) (i : ℕ) (v : View) → get_elem? (first_views script) i ≡ some v → (v.claims ≡ []) × (v.lists ≡ [] ∷ [])
opening_bare script i v at = (opening_claims (plan_of script) (all_seats (all_tasks script) (length (opens script))) i v at, first_fresh script i v at)

module _ (script : List Item) (made : AreMade script) (turns : List Turn) (core : Core) (is : IsRunWithCalls script turns core) (closes : ClosesInRun script turns core is) where
  open setting script use {p, vs}

  abbrev are : AreTasks (plan_of script) (all_tasks script)
  are = made.are

  open grounds script made turns core is use {begins, goes, fits}

  pub narrow : (id_plan_of script).slots ≤ 65536
  narrow = let k = known script made turns core is in k.narrow

  pub few_clients : length (all_tasks script) ≤ 32
  few_clients = let k = known script made turns core is in k.few

  bare : (i : ℕ) (v : View) → get_elem? (first_views script) i ≡ some v → v.claims ≡ []
  bare = opening_claims (plan_of script) (all_seats (all_tasks script) (length (opens script)))

  pub owed : IsOwed script turns core is
  owed = run_owed_of script made turns core is closes

  -- what the links accepted
  abbrev pub orders_of_run : ℕ → Order
  orders_of_run = orders script are vs begins (first_fresh script) goes turns core is fits owed

  abbrev few : List ℕ
  few = lost_before script are vs begins (first_fresh script) goes turns core is fits

  -- at words are those of the operations' own calls
  abbrev pub labelled : AreLabelledIn (ids_of_run script made turns core is narrow few_clients) script turns core is
  labelled = run_labelled script made turns core is narrow few_clients

  tells : ToldTasks (told_tasks_of script) core.outcomes (plan_of script) orders_of_run (lost_of_run script turns core is) few (late script are vs begins (first_fresh script) goes turns core is fits)
  tells = let t = run_tells script are vs begins (first_fresh script) goes turns core is fits owed in t.tells

  -- the fails that count
  pub fails_of_run : List (ℕ × ℕ)
  fails_of_run = tells.fails

  failed_by : (k : ℕ) → Failed (plan_of script) (state (played script is.setup (is.scheduled ++ is.later)) (views_played script turns core is (first_views script))) k → Contains few k ⊎ ((fail : ℕ) × Contains fails_of_run (fail, k))
  unfolding tells fails_of_run
  failed_by k f = failed_early script are vs begins (first_fresh script) goes turns core is fits owed k f

  -- ## The orders

  pub orders_are : AreOrders (plan_of script) core orders_of_run
  orders_are = run_orders script are vs begins (first_fresh script) goes turns core is fits owed narrow bare (ids_of_run script made turns core is narrow few_clients) labelled

  module _ (early closed silent : List ℕ) (soon : List (ℕ × ℕ)) (gave : ℕ → List ℕ) (last : ℕ → ℕ) where
    -- what the run fixes
    abbrev pub fixed : Fixed
    fixed = fixed_with script turns core is early closed silent soon fails_of_run

    lates : (c : ℕ) (t : Task) → IsTask (all_tasks script) core.outcomes c t → is_plain t.op ≡ true → late script are vs begins (first_fresh script) goes turns core is fits t.number → Contains (late_of_run script turns core is) t.number
    lates = plain_run.lates script are vs begins (first_fresh script) goes turns core is fits owed early closed silent soon gave last

    module _ (ends_early : (k : ℕ) → In k (closed_before_ending script turns core is) → Contains early k) where
      failing : (k : ℕ) → Contains few k → Contains (broken_of_run script turns core is) k ⊎ Contains early k
      failing = plain_run.failing script are vs begins (first_fresh script) goes turns core is fits owed early closed silent soon gave last ends_early

      abbrev later : ℕ → Type 0
      later = late script are vs begins (first_fresh script) goes turns core is fits

      abbrev lost : List ℕ
      lost = lost_of_run script turns core is

      -- ## Tasks

      -- where calls that found a name without a socket did so before other operations of their client
      pub told_plain : CallsFoundNone (all_tasks script) core.outcomes → ToldPlain (plan_of script) (all_tasks script) core.outcomes fixed gave orders_of_run last
      unfolding fails_of_run
      told_plain in_vain = record {
        told = told_lifted (all_tasks script) (length (opens script)) core.outcomes (plan_of script) are fixed gave orders_of_run last lost few later tells refl failing lates in_vain;
        are = are_lifted (all_tasks script) (length (opens script)) core.outcomes (plan_of script) are fixed gave orders_of_run last lost few later tells refl failing lates in_vain;
        once = tells.once;
        lives = lives_lifted (all_tasks script) (length (opens script)) core.outcomes (plan_of script) are fixed gave orders_of_run last lost few later tells refl failing lates in_vain;
        why = why_lifted (all_tasks script) (length (opens script)) core.outcomes (plan_of script) are fixed gave orders_of_run last lost few later tells refl failing lates in_vain;
      }

      -- a link that failed before the ending may drop messages
      pub failing_early : (k : ℕ) → Failed (plan_of script) (state (played script is.setup (is.scheduled ++ is.later)) (views_played script turns core is (first_views script))) k → IsFailing (plan_of script) (all_tasks script) core.outcomes fixed gave orders_of_run k
      failing_early k f = ⊎_elim (λ a. inr (⊎_elim (λ b. inl b) (λ b. inr (inl b)) (failing k a))) (λ a. inl (a.0, a.1, tt)) (failed_by k f)

      -- ## Without calls

      module _ (callless : (id_plan_of script).slots ≡ 0) (plain : (c : ℕ) (t : Task) → IsTask (all_tasks script) core.outcomes c t → is_plain t.op ≡ true) where
        no_call : (c : ℕ) (t : Task) (asked : Asked) → IsTask (all_tasks script) core.outcomes c t → t.op ≡ ops.Call asked → ⊥
        no_call c t asked it op = true≢false (sym (plain c t it) ∙ ap is_plain op)

        abbrev rested : Core
        rested = played script is.setup (is.scheduled ++ is.later)

        -- seat 0 as it begins the ending
        abbrev first_of_ending : SeatState
        first_of_ending = record { program = next_step (resolved (waiting_at (played script is.setup (is.scheduled ++ is.later)).calls.waiting 0) (ending_of (opens script))); hand = [] }

        closing_rests : (j : ℕ) → j < 32 → j < length (closing_of script turns core is).seats → j ≢ 0 → IsAtRest (closing_of script turns core is) j
        closing_rests j low inside some_ = ap (λ o. elim o as (λ o. Option Kind) [ none ↦ None | some seat ↦ kind_in seat.program ]) (set_else (played script is.setup (is.scheduled ++ is.later)).seats 0 j _ some_)
            ∙ clients_rest script made turns core is callless j low (let l = length-set (played script is.setup (is.scheduled ++ is.later)).seats 0 first_of_ending in omega (arith, inside, l))

        ended_rests : (j : ℕ) → j < 32 → j < length is.ended.seats → IsAtRest is.ended j
        ended_rests j low inside = dite (ℕ_discrete j 0) (λ z. subst (IsAtRest is.ended) (sym z) is.is_over)
            (λ some_. subst (λ d. IsAtRest d j) (sym is.is_ended) (run_rests (plan_of script) (closing_of script turns core is) (replicate is.last (quiet 0)) j
            (closing_rests j low (let l = ap (λ (d : Core). length d.seats) is.is_ended in let r = run_seats (plan_of script) (closing_of script turns core is) (replicate is.last (quiet 0)) in omega (arith, inside, l, r)) some_)))

        -- no place word is written once the run is ending
        places_stay : (l : ℕ) → l < 8 * (plan_of script).operations → get_or core.words (place_index (plan_of script) l) 0 ≡ get_or (played script is.setup (is.scheduled ++ is.later)).words (place_index (plan_of script) l) 0
        places_stay l low = ap (λ (d : Core). get_or d.words (place_index (plan_of script) l) 0) is.is_end
            ∙ (resting_places (plan_of script) (calls script) (opens script) (let k = known script made turns core is in k.in_script) Any (Unit {0}) ends_anyhow (IsListed script) goes l low is.final is.ended (views_closed script turns core is vs) _
            (closed_sound script are vs begins goes turns core is fits) is.answered_again fits.of_final (recorded_closed script are vs begins goes turns core is fits) (λ e. tt) (closed_ahead script are vs begins goes turns core is fits) ended_rests (closed_keeps script made turns core is)
            ∙ (ap (λ (d : Core). get_or d.words (place_index (plan_of script) l) 0) is.is_ended
            ∙ ending_places (plan_of script) goes l low is.last (closing_of script turns core is) (views_played script turns core is vs) (closing_sound script are vs begins goes turns core is fits) (end_answered script are vs begins goes turns core is fits) fits.of_closing
            (ending_begins (plan_of script) (played script is.setup (is.scheduled ++ is.later)) (views_played script turns core is vs) (opens script) (played_sound script are vs begins goes turns core is fits)
            (λ seat at. seat_rests (played script is.setup (is.scheduled ++ is.later)) (rested_ahead script are vs begins goes turns core is fits) 0 (rested_idle script are vs begins goes turns core is fits) seat at))))

        drops : (k : ℕ) → k < (plan_of script).links → (orders_of_run k).placed < length (orders_of_run k).accepted → IsFailing (plan_of script) (all_tasks script) core.outcomes fixed gave orders_of_run k
        drops k kl less = let runs = joint_runs script turns core is made in let b = joint_bounded script turns core is made runs in
            let early_few = first_bounded (plan_of script) _ (replicate is.last (quiet 0)) (closing_of script turns core is) (views_played script turns core is vs) b.closing in let late_few = b.over in
            failing_early k (failed_before (plan_of script) (played script is.setup (is.scheduled ++ is.later)) core (views_played script turns core is vs) (views_ended script turns core is vs) (played_sound script are vs begins goes turns core is fits)
            (ended_sound script are vs begins goes turns core is fits) early_few.few late_few.few places_stay orders_are k kl less)

        sends_are : (k : ℕ) → k < (plan_of script).links → AllByRecursion (IsSent (plan_of script) (all_tasks script) core.outcomes fixed gave orders_of_run last k) (orders_of_run k).accepted
        sends_are k kl = all_map (λ (a : Accepted). IsSent (plan_of script) (all_tasks script) core.outcomes fixed gave orders_of_run last k a ⊎ IsAttempt (ids_of_run script made turns core is narrow few_clients) (all_tasks script) core.outcomes a)
            (IsSent (plan_of script) (all_tasks script) core.outcomes fixed gave orders_of_run last k) (λ a x. ⊎_elim (λ y. y) (λ y. absurd (no_call y.client y.task y.asked y.is y.op)) x) (orders_of_run k).accepted
            (run_sent script are vs begins (first_fresh script) goes turns core is fits owed narrow bare (ids_of_run script made turns core is narrow few_clients) labelled fixed gave last k kl)

        in_order : (k : ℕ) → k < (plan_of script).links → EachBefore (InOwnOrder (plan_of script) (all_tasks script) core.outcomes fixed gave orders_of_run) (orders_of_run k).accepted
        in_order k kl = before_map (causes.InOwnOrder (told_tasks_of script) core.outcomes) (InOwnOrder (plan_of script) (all_tasks script) core.outcomes fixed gave orders_of_run)
            (λ a b f c t u it iu m n _ _. f c t u (task_down (all_tasks script) (length (opens script)) core.outcomes c t it (plain c t it)) (task_down (all_tasks script) (length (opens script)) core.outcomes c u iu (plain c u iu)) m n)
            (orders_of_run k).accepted (tells.own_order k kl)

        -- all that is told of a run but what is on calls
        pub run_sends : ToldSends (plan_of script) (all_tasks script) core.outcomes fixed gave orders_of_run last core
        run_sends = let t = told_plain (λ c t u asked n it iu seeks became less op. absurd (no_call c u asked iu op)) in record { are_orders = orders_are; told = t.told; are = t.are; once = t.once; lives = t.lives; why = t.why; again = λ c t asked it op. absurd (no_call c t asked it op); sent = sends_are; own_order = in_order; dropped = drops }
