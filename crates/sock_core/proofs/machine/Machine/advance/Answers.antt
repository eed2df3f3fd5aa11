use Rattle.std.proofs.Common.{arith}
use Rattle.machine_ticks.proofs.RestingTicks.{between_rests, rest_ticks}
use Rattle.sock_core.proofs.machine.Machine.advance.Goals as goal

pub returns-else-seat-ge-READERS-clause-tick : goal.returns-else-seat-ge-READERS-clause-tick
returns-else-seat-ge-READERS-clause-tick g c =
    let many = c.clients.ensures.seats in
    let few = c.clients.ensures.few in
    rest_ticks c.args.self.now c.args.seat (between_rests c.args.self.now c.args.seat (omega arith) (omega arith) (omega arith))
