use Rattle.std.proofs.Common.{◌≡◌, length}
use Rattle.rpc_server.specs.Feeding.{Answered}
use Rattle.rpc_server.proofs.conn.Conn.answer_whole.Given as goal

abbrev pub invariant-loop-frame : goal.invariant-loop-frame
invariant-loop-frame l = Answered l.initial.self l.self l.initial.out.items l.out.items × (l.self.told ≡ l.initial.self.told)

abbrev pub decreases-loop-frame : goal.decreases-loop-frame
decreases-loop-frame l = length l.self.bytes
