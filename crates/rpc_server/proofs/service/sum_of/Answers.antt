use Rattle.std.proofs.Common.{◌≡◌, ◌+◌, length, sum, ap, arith, rules, length-take, length-drop}
use Rattle.std.specs.List.{slice_index}
use Rattle.rpc_server.proofs.ByteTotals.{sum_parts}
use Rattle.rpc_server.proofs.service.sum_of.Goals as goal

pub loop-payload-preserved : goal.loop-payload-preserved
loop-payload-preserved c =
    let same : c.loop-payload.total + c.sum_of_piece-total.result + sum c.pop_front.new.self.items ≡ sum c.args.payload.items = search (c.loop-payload.invariant.0, sum_parts, rules) in
    let piece = c.first_piece-piece.result.now in
    let left = c.loop-payload.payload in
    (same, omega (arith, c.loop-payload.invariant.1, c.sum_of_piece-total.ensures.at_most, ap length c.pop_front.ensures.items, length-drop (length piece) left.items, ap length c.first_piece-piece.ensures.front, length-take (slice_index left.sizes 0) left.items))
