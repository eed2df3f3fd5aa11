-- The links of a script, as they are given back.
use Rattle.std.specs.Prelude.{ℕ, ◌≡◌, ◌<◌, ◌≤◌, ◌⊎◌, true, IsTrue, List, [], length, slice_get, slice_index_or, Some, IfSome, Contains}
use Rattle.sock_words.specs.declared.plain.Plan.{Plan}
use Rattle.brpc_model.specs.Items.{Item}
use Rattle.brpc_model.specs.Operations.{link_names}
use Rattle.brpc_model.specs.ReturnedLink.{LinkEnd}
use Rattle.brpc_model.specs.LinkFailureCauses.{HasFault, reading_limit}
use Rattle.seat_programs.specs.Cores.{Core}
use Rattle.seat_programs.specs.Tasks.{plan_of}
use Rattle.seat_programs.specs.ScriptSetupToEnding.{took_at_home}
use Rattle.seat_programs.specs.ExplainedCalls.{Fixed}

-- link k, as a run that ended in this core gave it back: as far as it tells, it took what lies at its home, and gave nothing;
-- where it answered that it failed, its count of faults shows it
pub record IsEnd (p : Plan) (core : Core) (broken : List ℕ) (k : ℕ) (e : LinkEnd) : Type 0 where
  pub numbered : e.link ≡ k
  pub took : IfSome e.took (λ bytes. bytes ≡ slice_index_or (took_at_home p core.homes) k [])
  pub gave_none : e.gave_count ≡ 0
  pub gave : IfSome e.gave (λ bytes. bytes ≡ [])
  pub failed : Contains broken k → 0 < e.put_faults

-- each link of the script was given back, in the order of their numbers
pub record AreEnds (script : List Item) (core : Core) (broken : List ℕ) (ends : List LinkEnd) : Type 0 where
  pub as_many : length ends ≡ length (link_names script)
  pub each : (k : ℕ) (e : LinkEnd) → slice_get ends k ≡ Some e → IsEnd (plan_of script) core broken k e

-- ## With calls

-- what its end shows of a reading that ended early
abbrev pub EndsEarly : List ℕ → LinkEnd → Type 0
EndsEarly gave e = IsTrue e.gave_end ⊎ (HasFault gave ⊎ ((reading_limit ≤ e.gave_count) ⊎ (0 < e.take_faults)))

-- link k, as a run that ended in this core gave it back: as far as it tells, it took what lies at its home, and gave what the run has of it;
-- where it failed, or its reading ended in one of these ways, it shows so
pub record IsEndOf (p : Plan) (core : Core) (fixed : Fixed) (gave : ℕ → List ℕ) (k : ℕ) (e : LinkEnd) : Type 0 where
  pub numbered : e.link ≡ k
  pub took : IfSome e.took (λ bytes. bytes ≡ slice_index_or (took_at_home p core.homes) k [])
  pub counted : length (gave k) ≡ e.gave_count
  pub gives : IfSome e.gave (λ bytes. bytes ≡ gave k)
  pub failed : Contains fixed.broken k → 0 < e.put_faults
  pub early : Contains fixed.early k → EndsEarly (gave k) e
  pub closed : Contains fixed.closed k → e.closed ≡ Some true

-- each link of the script was given back, in the order of their numbers
pub record AreEndsOf (script : List Item) (core : Core) (fixed : Fixed) (gave : ℕ → List ℕ) (ends : List LinkEnd) : Type 0 where
  pub as_many : length ends ≡ length (link_names script)
  pub each : (k : ℕ) (e : LinkEnd) → slice_get ends k ≡ Some e → IsEndOf (plan_of script) core fixed gave k e
