use Prim.Native.Nat.{◌+◌, ◌*◌}
use Rattle.serve_port.proofs.accepting.+accepting.Given as goal

abbrev pub decreases-serve_rest : goal.decreases-serve_rest
decreases-serve_rest g l = 4 * l.count

abbrev pub decreases-serve_beside : goal.decreases-serve_beside
decreases-serve_beside g l = 4 * l.count + 3

abbrev pub decreases-serve_both : goal.decreases-serve_both
decreases-serve_both g l = 4 * l.count + 2

abbrev pub decreases-serve_both-join_mut+arg3 : goal.decreases-serve_both-join_mut+arg3
decreases-serve_both-join_mut+arg3 g l = 4 * l.count + 1
