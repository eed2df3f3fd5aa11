use Rattle.std.proofs.Common.{ℕ, sym, ap, subst, ◌∙◌}
use Rattle.std.specs.Prelude.{bit_or}
use Rattle.sock_model.specs.SocketTableLayout.{head_index}
use Rattle.sock_model.specs.ChainRows.{with_right, without_right, walking_right}
use Rattle.sock_model.specs.KeepingSocketRule.{KeepsRule}
use Rattle.chain_core.specs.RequestStepConditions.{MayTry}
use Rattle.chain_core.proofs.ChainKeptRules.{empties, walks}
use Rattle.chain_core.proofs.steps.empty_head.Goals as goal

pub returns-clause-won : goal.returns-clause-won
returns-clause-won c hit = let w = c.exchanged.ensures.won hit in (w.0 ∙ ap (λ (n : ℕ). bit_or n 9223372036854775808) hit, w.1)

pub returns-clause-lost : goal.returns-clause-lost
returns-clause-lost c miss = c.exchanged.ensures.lost miss

pub returns-clause-keeps_won : goal.returns-clause-keeps_won
returns-clause-keeps_won c hit i = subst (λ (n : ℕ). KeepsRule (MayTry i c.args.last.0) (λ p. head_index i) c.args.found n (λ p v m. without_right v m.mine.right.link)) (sym (c.exchanged.ensures.won hit).0) (empties i c.args.last.0 c.args.found hit)

pub returns-clause-keeps_lost : goal.returns-clause-keeps_lost
returns-clause-keeps_lost c miss i = subst (λ (n : ℕ). KeepsRule (MayTry i c.args.last.0) (λ p. head_index i) c.args.found n (λ p v m. with_right v (walking_right m.mine.right c.args.found))) (sym (c.exchanged.ensures.lost miss).0) (walks i c.args.last.0 c.args.found miss)
