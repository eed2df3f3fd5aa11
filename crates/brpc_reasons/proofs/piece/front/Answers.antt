use Rattle.std.proofs.Common.{◌≡◌, ◌≤◌, length, take, sym, arith}
use Rattle.std.proofs.lemmas.List.{length-take-le, take_all}
use Rattle.brpc_reasons.proofs.piece.front.Goals as goal

pub slice_bounds-result-end : goal.slice_bounds-result-end
slice_bounds-result-end c = let more : 72 ≤ length c.args.bytes.now = omega (arith, c.if-bytes-le-SHOWN.false) in sym (length-take-le 72 c.args.bytes.now more)

pub returns-then-bytes-le-SHOWN-clause-front : goal.returns-then-bytes-le-SHOWN-clause-front
returns-then-bytes-le-SHOWN-clause-front c = let few : length c.args.bytes.now ≤ 72 = omega (arith, c.if-bytes-le-SHOWN.true) in sym (take_all 72 c.args.bytes.now few)

pub returns-else-bytes-le-SHOWN-clause-few : goal.returns-else-bytes-le-SHOWN-clause-few
returns-else-bytes-le-SHOWN-clause-few c =
    let more : 72 ≤ length c.args.bytes.now = omega (arith, c.if-bytes-le-SHOWN.false) in
    let is = length-take-le 72 c.args.bytes.now more in
    omega (arith, is)
