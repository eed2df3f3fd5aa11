-- The links that answered that they failed did so in the schedule and the rounds behind it, or behind the ending.
use Rattle.std.proofs.Common.{ℕ, zero, suc, List, ◌++◌, replicate, ⊎_elim}
use Rattle.std.specs.Prelude.{Contains}
use Rattle.sock_words.specs.declared.plain.Plan.{Plan}
use Rattle.seat_programs.specs.brpc_model.specs.Items.{Item}
use Rattle.seat_programs.specs.brpc_model.specs.Operations.{Turn}
use Rattle.seat_programs.specs.Cores.{Core}
use Rattle.seat_programs.specs.Tasks.{plan_of}
use Rattle.seat_programs.specs.Ticks.{quiet, ticked, broken_in}
use Rattle.seat_programs.specs.ScriptSetupToEnding.{opened, set_up, played, ending, IsRunWithCalls}
use Rattle.call_causes.specs.Below.outcome_stories.specs.Facts.{broken_of_run}
use Rattle.call_causes.specs.Below.outcome_stories.specs.OperationStories.{In}
use Rattle.call_causes.specs.Below.outcome_stories.proofs.Members.{in_contains, contains_in}
use Rattle.outcome_causes.proofs.PlainOutcomeCauses.{in_left, in_right, in_both}

-- ## Links that answered that they failed

-- ticks that ask no link fail none
none_broken : (p : Plan) (n : ℕ) (c : Core) (k : ℕ) → In k (broken_in p c (replicate n (quiet 0))) → ⊥
none_broken p zero c k m = m
none_broken p (suc n) c k m = none_broken p n (ticked p c (quiet 0)) k m

-- so the links that failed did so in the schedule and the rounds behind it, or behind the ending
pub broken_shown : (script : List Item) (turns : List Turn) (core : Core) (is : IsRunWithCalls script turns core) (k : ℕ) → Contains (broken_of_run script turns core is) k
    → Contains (broken_in (plan_of script) (set_up script is.setup) (is.scheduled ++ is.later) ++ broken_in (plan_of script) is.ended is.final) k
broken_shown script turns core is k m = in_contains (clients ++ last) k (⊎_elim (λ a. absurd (none_broken p is.setup (opened script) k a))
    (λ a. ⊎_elim (λ b. in_left clients last k b) (λ b. ⊎_elim (λ d. absurd (none_broken p is.last (ending script (played script is.setup (is.scheduled ++ is.later))) k d)) (λ d. in_right clients last k d) (in_both (broken_in p (ending script (played script is.setup (is.scheduled ++ is.later))) (replicate is.last (quiet 0))) last k b)) (in_both clients _ k a))
    (in_both (broken_in p (opened script) (replicate is.setup (quiet 0))) _ k (contains_in (broken_of_run script turns core is) k m)))
  where
    p : Plan
    p = plan_of script

    clients : List ℕ
    clients = broken_in (plan_of script) (set_up script is.setup) (is.scheduled ++ is.later)

    last : List ℕ
    last = broken_in (plan_of script) is.ended is.final
