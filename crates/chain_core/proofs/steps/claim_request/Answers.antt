use Rattle.std.proofs.Common.{sym, subst}
use Rattle.sock_model.specs.SocketTableLayout.{request_index}
use Rattle.sock_model.specs.ChainRows.{with_claim, fresh_claim}
use Rattle.sock_model.specs.KeepingSocketRule.{KeepsRule}
use Rattle.chain_core.specs.RequestStepConditions.{MayLook, MayClaim}
use Rattle.chain_core.proofs.ChainKeptRules.{or_free, or_taken, tests_free, tests_taken, claims, looks, notes}
use Rattle.chain_core.proofs.steps.claim_request.Goals as goal

pub returns-clause-won : goal.returns-clause-won
returns-clause-won c free = (or_free c.args.found free, tests_free c.args.found free)

pub returns-clause-lost : goal.returns-clause-lost
returns-clause-lost c taken = (or_taken c.args.found taken, tests_taken c.args.found taken)

pub returns-clause-keeps_won : goal.returns-clause-keeps_won
returns-clause-keeps_won c free r k heading bytes =
    subst (λ n. KeepsRule (MayClaim r) (λ p. request_index p r) c.args.found n (λ p v m. with_claim v (fresh_claim k r c.args.found heading bytes))) (sym (or_free c.args.found free))
    (claims r k c.args.found heading bytes free)

pub returns-clause-keeps_lost : goal.returns-clause-keeps_lost
returns-clause-keeps_lost c taken r =
    subst (λ n. KeepsRule MayLook (λ p. request_index p r) c.args.found n (λ p v m. v)) (sym (or_taken c.args.found taken)) (looks (λ p. request_index p r) c.args.found)

pub returns-clause-notes_lost : goal.returns-clause-notes_lost
returns-clause-notes_lost c taken r = notes r c.args.found taken
