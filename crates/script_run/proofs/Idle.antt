-- In a script without calls each client is at rest where the ending begins, so that nothing comes late.
use Rattle.std.proofs.Common.{◌≡◌, ℕ, ◌+◌, ◌<◌, ◌≤◌, true, false, List, [], ◌∷◌, ◌++◌, length, Ok, refl, ap, arith}
use Rattle.std.proofs.lemmas.Bool.{true≢false}
use Rattle.std.specs.Prelude as std
use Rattle.std.specs.Prelude.{if◌then◌else◌}
use Rattle.brpc_model.specs.Items.{Item, Call, is_call}
use Rattle.brpc_model.specs.Operations.{Turn, clients}
use Rattle.brpc_model.specs.Script.{script_of}
use Rattle.seat_programs.specs.Cores.{Core}
use Rattle.seat_programs.specs.ScheduledRuns.{IsAtRest}
use Rattle.seat_programs.specs.ScriptSetupToEnding.{IsRunWithCalls, all_tasks, is_callless, is_later, played}
use Rattle.seat_programs.specs.Tasks.{Numbered, calls, id_plan_of, numbered}
use Rattle.calm_runs.specs.Below.outcome_stories.specs.Facts.{late_of_run, late_links_of_run}
use Rattle.calm_runs.specs.sock_runs.proofs.SoundAlongRuns.{seat_rests}
use Rattle.calm_runs.specs.program_walks.proofs.WholeScriptSound.{rested_ahead}
use Rattle.calm_runs.specs.Below.joint_runs.proofs.RunsOfBothTables.{first_views}
use Rattle.calm_runs.specs.Below.report_fits.proofs.CalllessScript.{not_later}
use Rattle.calm_runs.specs.Below.script_facts.proofs.FilteredLists.{Has, has_first, filter_map_has}
use Rattle.calm_runs.specs.Below.script_facts.proofs.OperationNumbering.{are_from, is_numbered}
use Rattle.calm_runs.specs.Below.script_facts.proofs.TaskLemmas.{tasks_length}
use Rattle.calm_runs.specs.Below.accept_counts.proofs.EarlyClosedSockets.{start, go, fitting}
use Rattle.calm_runs.specs.Below.accept_counts.proofs.RestsWithoutCalls as rests
use Rattle.calm_runs.specs.Below.run_theorems.proofs.ScriptStartsSoundly.{made}
use Rattle.calm_runs.proofs.Nothing.{nothing_behind}
use Rattle.seat_programs.specs.corr_core.proofs.NoteSums.{at_length}

-- ## No calls, and no id slot

only_nil : {A : Type 0} (l : List A) → ((x : A) → Has l x → ⊥) → l ≡ []
only_nil [] h = refl
only_nil (x ∷ l) h = absurd (h x (has_first x l))

pub no_calls : (script : List Item) → is_callless script ≡ true → calls script ≡ []
no_calls script callless = only_nil (calls script) (λ o has_it. let x = filter_map_has _ (numbered script) o has_it in none_here x.0 o x.2 (not_later script callless x.0.op.item (let n = is_numbered 0 0 _ x.1.0 x.0 x.1.1 in (are_from 0 1 script x.1.0 x.0.op n.op).there)))
  where
    none_here : (x : Numbered) (o : ℕ) → (if is_call x.op.item then std.Some x.number else std.None) ≡ std.Some o → is_later x.op.item ≡ false → ⊥
    none_here x o = by x.op.item
      where
        by : (item : Item) → (if is_call item then std.Some x.number else std.None) ≡ std.Some o → is_later item ≡ false → ⊥
        by (Call call) e f = true≢false f
        by item e f = cc

pub no_slot : (script : List Item) → is_callless script ≡ true → (id_plan_of script).slots ≡ 0
no_slot script callless = ap length (no_calls script callless)

module _ (bytes : List ℕ) (script : List Item) (reads : script_of bytes ≡ Ok script) (callless : is_callless script ≡ true) (turns : List Turn) (core : Core) (is : IsRunWithCalls script turns core) where
  inside : (i : ℕ) → i < length (all_tasks script) → (i < 32) × (i < length (played script is.setup (is.scheduled ++ is.later)).seats)
  inside i low = let m = made bytes script reads in let few = m.few_clients in let many = rests.many script (made bytes script reads) turns core is in (omega (arith, low, few), omega (arith, low, few, many))

  pub clients_idle : (i : ℕ) → i ≤ clients script → IsAtRest (played script is.setup (is.scheduled ++ is.later)) i
  clients_idle i low = let z = inside i (let t = tasks_length script 0 (clients script + 1) in omega (arith, low, t)) in rests.clients_rest script (made bytes script reads) turns core is (no_slot script callless) i z.0 z.1

  -- so nothing comes late
  pub nothing_late : (late_links_of_run script turns core is ≡ []) × (late_of_run script turns core is ≡ [])
  nothing_late = let m = made bytes script reads in nothing_behind script m turns core is (λ i low seat at.
      seat_rests (played script is.setup (is.scheduled ++ is.later)) (rested_ahead script m.are (first_views script) (start script m turns core is) (go script m turns core is) turns core is (fitting script m turns core is))
      i (rests.clients_rest script m turns core is (no_slot script callless) i low (at_length (played script is.setup (is.scheduled ++ is.later)).seats i seat at)) seat at)
