-- In a run of a script without `join` each client is at rest before the ending: nobody waits for a lock, since whoever has one moves.
use Rattle.std.proofs.Common.{◌≡◌, ℕ, ◌<◌, List, ◌++◌, replicate, ap, ◌∙◌, subst}
use Rattle.std.specs.Prelude.{Some, Contains}
use mathlib.Core.Option.{some}
use lib.ListN.{get_elem?}
use Rattle.brpc_model.specs.Items.{Item, Join}
use Rattle.brpc_model.specs.Operations.{Turn}
use Rattle.brpc_model.specs.LinePlaceFaults.{names}
use Rattle.send_causes.specs.Below.script_facts.proofs.FilteredLists.{Has, contains_from}
use Rattle.send_causes.specs.Below.script_facts.proofs.OperationNumbering.{are_from}
use Rattle.send_causes.specs.Below.script_facts.proofs.TaskLemmas.{numbers_at, task_is, join_asks}
use Rattle.seat_programs.specs.declared.task.Op.{Op}
use Rattle.seat_programs.specs.declared.task.Op.TheVariants as ops
use Rattle.seat_programs.specs.declared.task.Task.{Task}
use Rattle.seat_programs.specs.Cores.{Core}
use Rattle.seat_programs.specs.ScriptSetupToEnding.{all_tasks, opened, set_up, played, IsRunWithCalls}
use Rattle.seat_programs.specs.Tasks.{numbered, plan_of}
use Rattle.seat_programs.specs.Ticks.{quiet}
use Rattle.send_causes.specs.Below.programs_allowed.specs.program_steps.specs.SoundSeats.{views_along}
use Rattle.send_causes.specs.Below.programs_allowed.specs.program_walks.proofs.WholeScriptSound.{set_up_answered, set_up_sound}
use Rattle.send_causes.specs.Below.joint_runs.proofs.RunsOfBothTables.{AreMade, first_views}
use Rattle.send_causes.specs.Below.call_owing.specs.SettledSeats as settled
use Rattle.send_causes.specs.Below.accept_counts.proofs.EarlyClosedSockets.{start, go, fitting, opened_takes}
use Rattle.send_causes.specs.Below.accept_counts.proofs.SeatsStandingAtEnding.{takeless_rests}
use Rattle.send_causes.specs.Below.accept_counts.proofs.Takeless.{TakesNone, run_takes}
use Rattle.send_causes.specs.Below.owned_ids.proofs.OpensStored.{place_at}

module _ (script : List Item) (made : AreMade script) (turns : List Turn) (core : Core) (is : IsRunWithCalls script turns core) (no_join : (client number : ℕ) → Contains script (Join client number) → ⊥) where
  joinless : (c : ℕ) (ts : List Task) → get_elem? (all_tasks script) c ≡ some ts → (t : Task) → Has ts t → (o : ℕ) → t.op ≡ ops.Join o → ⊥
  joinless c ts at t has o e = let w = task_is script core.outcomes c t (ts, place_at (all_tasks script) c ts at, contains_from ts t has) in
      let m = join_asks (numbered script) (names script) (numbers_at script t.number w.operation) w.operation.item o (w.asks ∙ ap (λ (x : Op). Some x) e) in
      no_join m.0 m.1 (contains_from script (Join m.0 m.1) (subst (Has script) m.2 (are_from 0 1 script t.number w.operation w.there).there))

  -- no client waits for anything but a lock
  rested_locks : (j : ℕ) → j < 32 → TakesNone ⊥ j (played script is.setup (is.scheduled ++ is.later))
  rested_locks j low = let s = start script made turns core is in let g = go script made turns core is in let f = fitting script made turns core is in
      run_takes ⊥ (plan_of script) j g (set_up script is.setup) (views_along (plan_of script) (opened script) (first_views script) (replicate is.setup (quiet 0))) (is.scheduled ++ is.later) (set_up_sound script made.are (first_views script) s g turns core is f) is.answered f.of_played
      (run_takes ⊥ (plan_of script) j g (opened script) (first_views script) (replicate is.setup (quiet 0)) s.sound (set_up_answered script made.are (first_views script) s g turns core is f) f.of_setup (opened_takes script made turns core is ⊥ j low (joinless j)))

  -- each client is at rest
  pub clients_rest : (j : ℕ) → j < 32 → settled.IsAtRest (played script is.setup (is.scheduled ++ is.later)) j
  clients_rest j low = takeless_rests script made turns core is ⊥ (λ never. absurd never) j (rested_locks j low)
