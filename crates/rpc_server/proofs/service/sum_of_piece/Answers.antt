use Rattle.std.proofs.Common.{◌≡◌, sum, arith, rules}
use Rattle.rpc_server.proofs.ByteTotals.{sum_at_most}
use Rattle.rpc_server.proofs.service.sum_of_piece.Goals as goal

pub returns-clause-at_most : goal.returns-clause-at_most
returns-clause-at_most c = let same : c.sum.result ≡ sum c.args.piece.now = search rules in omega (arith, same, sum_at_most c.args.piece.now c.type_inv.piece)
