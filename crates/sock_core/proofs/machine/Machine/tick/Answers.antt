use Rattle.std.proofs.Common.{ℕ, sym, subst}
use Rattle.machine_ticks.proofs.RestingTicks.{Rests, rest_ticks}
use Rattle.sock_core.proofs.machine.Machine.tick.Goals as goal

pub returns-then-seat-eq0-clause-tick : goal.returns-then-seat-eq0-clause-tick
returns-then-seat-eq0-clause-tick g c = rest_ticks c.args.self.now c.args.seat (subst (λ (i : ℕ). Rests c.args.self.now i) (sym c.if-seat-eq0.true) c.requires.rest.0)
