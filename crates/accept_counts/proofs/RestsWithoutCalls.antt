-- In a run of a script without calls each client is at rest before the ending.
use Rattle.std.proofs.Common.{◌≡◌, ℕ, ◌+◌, ◌-◌, ◌<◌, ◌≤◌, ◌⊎◌, true, List, [], ◌∷◌, ◌++◌, length, replicate, inl, inr, ⊎_elim, sym, ap, ◌∙◌, subst, arith}
use Rattle.std.proofs.lemmas.List.{length-map}
use Rattle.std.specs.Prelude as std
use Rattle.std.specs.List.{AllByRecursion}
use mathlib.Core.Logic.{dite}
use mathlib.Core.Option.{Option, none, some}
use native.Mathlib.Decide.{ℕ_discrete, dec_le}
use lib.ListN.{get_elem?}
use Rattle.sock_words.specs.declared.kind.Kind.{Kind}
use Rattle.seat_programs.specs.brpc_model.specs.Items.{Item}
use Rattle.seat_programs.specs.brpc_model.specs.Operations.{Turn, clients, link_names}
use Rattle.run_theorems.specs.Below.script_facts.proofs.TaskLemmas.{tasks_length}
use Rattle.seat_programs.specs.LoopHeads.{Head, Exit, Posts, Unlocks, Decides, Locks, Joins, Opens, Reads, Discards}
use Rattle.seat_programs.specs.Programs.{Program, Rest, Round}
use Rattle.seat_programs.specs.ClientProgram.{client_from}
use Rattle.seat_programs.specs.Cores.{Core, SeatState, resolved, next_step}
use Rattle.seat_programs.specs.ScheduledRuns.{IsAtRest, kind_in}
use Rattle.seat_programs.specs.Tasks.{opens, calls, plan_of, id_plan_of}
use Rattle.seat_programs.specs.Ticks.{Moment, IsAlwaysReady, quiet, run, waits}
use Rattle.seat_programs.specs.ScriptSetupToEnding.{sizes_of, programs, readers_from, all_programs, all_tasks, opened, set_up, played, ticks_of, IsRunWithCalls}
use Rattle.call_causes.specs.Below.id_runs.specs.HeldIdTokens.{IdView}
use Rattle.call_causes.specs.Below.id_runs.specs.Goes.{IdGoesOn}
use Rattle.outcome_causes.specs.sock_runs.proofs.Quiets.{run_seats, run_rests}
use Rattle.outcome_causes.specs.sock_runs.proofs.TicksOfWaitingSeats.{StandsAside, still_settles}
use Rattle.outcome_causes.specs.program_walks.proofs.WholeScriptSound.{views_played, rested_ahead, rested_idle, played_sound}
use Rattle.call_causes.specs.Below.joint_runs.proofs.BothTablesSound.{behind_both}
use Rattle.call_causes.specs.Below.joint_runs.proofs.RunsOfBothTables.{AreMade, first_views, joint_runs}
use Rattle.call_causes.specs.Below.call_owing.proofs.EndsStill.{view_of, all_still, one_of_still, run_parts, second_part, in_round, rest_at, mapped_at}
use Rattle.call_causes.specs.Below.owed_calls.proofs.NothingOwedAtEnd.{opened_seats}
use Rattle.accept_counts.proofs.EarlyClosedSockets.{start, go, fitting, known, clients_take_none}
use Rattle.accept_counts.proofs.Takeless.{NoTakes}

first_half : {A : Type 0} (P : A → Type 0) (xs ys : List A) → AllByRecursion P (xs ++ ys) → AllByRecursion P xs
first_half P [] ys all = tt
first_half P (x ∷ xs) ys all = (all.0, first_half P xs ys all.1)

module _ (script : List Item) (turns : List Turn) (core : Core) (is : IsRunWithCalls script turns core) where
  -- the round that moved nothing
  abbrev pub before_last : Core
  before_last = let s = is.settles in run (plan_of script) (played script is.setup is.scheduled) (ticks_of s.moving)

  pub rested_still : played script is.setup (is.scheduled ++ is.later) ≡ before_last
  rested_still = let s = is.settles in run_parts (plan_of script) (set_up script is.setup) is.scheduled is.later ∙ (ap (run (plan_of script) (played script is.setup is.scheduled)) s.all
      ∙ (run_parts (plan_of script) (played script is.setup is.scheduled) (ticks_of s.moving) s.last ∙ all_still (plan_of script) before_last s.last s.still))

module _ (script : List Item) (made : AreMade script) (turns : List Turn) (core : Core) (is : IsRunWithCalls script turns core) where
  prompt_last : AllByRecursion IsAlwaysReady (let s = is.settles in s.last)
  prompt_last = let s = is.settles in second_part IsAlwaysReady (ticks_of s.moving) s.last (subst (AllByRecursion IsAlwaysReady) s.all (second_part IsAlwaysReady is.scheduled is.later (first_half IsAlwaysReady (is.scheduled ++ is.later) is.final is.always_ready)))

  pub many : length (played script is.setup (is.scheduled ++ is.later)).seats ≡ 32 + length (link_names script)
  many = run_seats (plan_of script) (set_up script is.setup) (is.scheduled ++ is.later) ∙ run_seats (plan_of script) (opened script) (replicate is.setup (quiet 0))
      ∙ (let k = known script made turns core is in let f = k.few in let m = opened_seats script f in let a = k.as_many in omega (arith, m, a))

  abbrev first : List Program
  first = programs (sizes_of (plan_of script) (id_plan_of script)) (all_tasks script)

  between : (i : ℕ) → clients script < i → i < 32 → IsAtRest (played script is.setup (is.scheduled ++ is.later)) i
  between i low high = run_rests (plan_of script) (set_up script is.setup) (is.scheduled ++ is.later) i (run_rests (plan_of script) (opened script) (replicate is.setup (quiet 0)) i at_first)
    where
      at_first : IsAtRest (opened script) i
      at_first = let l = length-map (all_tasks script) (client_from (sizes_of (plan_of script) (id_plan_of script)) []) in let t = tasks_length script 0 (clients script + 1) in
          ap (λ (o : Option SeatState). elim o as (λ o. std.Option Kind) [ none ↦ std.None | some s ↦ kind_in s.program ])
          (mapped_at (λ (program : Program). record { program = next_step (resolved [] program); hand = [] }) (all_programs first (readers_from (calls script) 0 (opens script))) i Rest
          (rest_at first (readers_from (calls script) 0 (opens script)) (32 - length first) i (omega (arith, l, t, low)) (omega (arith, l, t, low, high))))

  -- before the ending each seat is at rest, or waits
  pub still : (i : ℕ) → i < length (played script is.setup (is.scheduled ++ is.later)).seats → IsAtRest (played script is.setup (is.scheduled ++ is.later)) i
      ⊎ ((m : Moment) × (m.seat ≡ i) × IsAlwaysReady m × (waits (plan_of script) (played script is.setup (is.scheduled ++ is.later)) m ≡ true))
  still i inside = dite (ℕ_discrete i 0)
      (λ e. inl (subst (IsAtRest (played script is.setup (is.scheduled ++ is.later))) (sym e) (rested_idle script made.are (first_views script) (start script made turns core is) (go script made turns core is) turns core is (fitting script made turns core is))))
      (λ some_. dite (dec_le i (clients script)) (λ client. by_round (inl (omega (arith, some_), client)))
      (λ no_. dite (dec_le 32 i) (λ reader. by_round (inr (reader, (let m = many in omega (arith, inside, m))))) (λ lower. inl (between i (omega (arith, no_)) (omega (arith, lower))))))
    where
      by_round : ((0 < i) × (i ≤ clients script)) ⊎ ((32 ≤ i) × (i < 32 + length (link_names script))) → IsAtRest (played script is.setup (is.scheduled ++ is.later)) i
          ⊎ ((m : Moment) × (m.seat ≡ i) × IsAlwaysReady m × (waits (plan_of script) (played script is.setup (is.scheduled ++ is.later)) m ≡ true))
      by_round h = let s = is.settles in let n = in_round (clients script) (length (link_names script)) i h in
          subst (λ d. IsAtRest d i ⊎ ((m : Moment) × (m.seat ≡ i) × IsAlwaysReady m × (waits (plan_of script) d m ≡ true))) (sym (rested_still script turns core is))
          (one_of_still (plan_of script) (before_last script turns core is) s.last s.still prompt_last n.0 i (ap (λ (l : List ℕ). get_elem? l n.0) s.one_more ∙ n.1))

  -- and then it waits at the head of a loop aside of the sockets
  pub aside : (i : ℕ) → i < length (played script is.setup (is.scheduled ++ is.later)).seats → IsAtRest (played script is.setup (is.scheduled ++ is.later)) i ⊎ StandsAside (played script is.setup (is.scheduled ++ is.later)) i
  aside = still_settles (plan_of script) (played script is.setup (is.scheduled ++ is.later)) (views_played script turns core is (first_views script))
      (played_sound script made.are (first_views script) (start script made turns core is) (go script made turns core is) turns core is (fitting script made turns core is))
      (rested_ahead script made.are (first_views script) (start script made turns core is) (go script made turns core is) turns core is (fitting script made turns core is)) still

  module _ (callless : (id_plan_of script).slots ≡ 0) where
    -- no client waits
    pub clients_rest : (j : ℕ) → j < 32 → j < length (played script is.setup (is.scheduled ++ is.later)).seats → IsAtRest (played script is.setup (is.scheduled ++ is.later)) j
    clients_rest j low inside = ⊎_elim (λ rest. rest) (λ s. absurd (never s)) (aside j inside)
      where
        by_head : (u : IdView) (head : Head) (next : Exit head → Program) → NoTakes (Unit {0}) (Round head next) → IdGoesOn (plan_of script) (id_plan_of script) u (Round head next) → ⊥
        by_head u (Posts id e w) next none_ g = let z = g.0.1 in omega (arith, z, callless)
        by_head u (Unlocks i w advance) next none_ g = let z = g.0.0 in omega (arith, z, callless)
        by_head u (Decides id asked w e) next none_ g = let z = g.0.0 in omega (arith, z, callless)
        by_head u (Locks i sought w) next none_ g = let z = g.0.1 in omega (arith, z, callless)
        by_head u (Joins id) next none_ g = let z = g.0.1 in omega (arith, z, callless)
        by_head u (Opens o) next none_ g = none_
        by_head u (Reads r) next none_ g = none_
        by_head u (Discards k total) next none_ g = none_

        never : StandsAside (played script is.setup (is.scheduled ++ is.later)) j → ⊥
        never s = let runs = joint_runs script turns core is made in
            let both = behind_both (plan_of script) (id_plan_of script) (set_up script is.setup) _ (is.scheduled ++ is.later) runs.clients in let ids = both.ids in
            let u = view_of (played script is.setup (is.scheduled ++ is.later)).seats both.id_views j s.0 s.1 ids.each in
            by_head u.0 s.2.0 s.2.1 (subst (NoTakes (Unit {0})) s.2.2 (clients_take_none script made turns core is j low s.0 s.1)) (subst (IdGoesOn (plan_of script) (id_plan_of script) u.0) s.2.2 (ids.seats j s.0 u.0 s.1 u.1))
