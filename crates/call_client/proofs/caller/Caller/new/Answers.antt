use Rattle.std.proofs.Common.{sym, subst, refl}
use Rattle.corr_id.specs.IdTableSeat.{Sits, IsFree}
use Rattle.call_client.proofs.ClientAfterOperations.{new_caller}
use Rattle.call_client.proofs.caller.Caller.new.Goals as goal

pub returns-clause-go : goal.returns-clause-go
returns-clause-go g c = λ z y p new sits free passes. new_caller z p y record { seat = c.args.seat; passes = c.args.passes; held = c.new.result; outcomes = c.new-2.result; calls = c.new-3.result; sent = 0 } new (subst (λ s. Sits y s) (sym c.new-3.ensures.seat) sits) (subst (λ s. IsFree s.me.0) (sym c.new-3.ensures.seat) free) passes c.new.ensures.items refl
