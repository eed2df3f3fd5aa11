use Rattle.std.proofs.Common.{◌≡◌, ◌+◌, ◌*◌, get_or, refl, arith}
use Rattle.rpc_meta.proofs.NextFields.{span_is}
use Rattle.rpc_meta.proofs.straight.span_next.Goals as goal

pub returns-clause-spelled : goal.returns-clause-spelled
returns-clause-spelled c =
    let key : get_or c.args.bytes.now c.args.at 0 ≡ c.args.number * 8 + 2 = omega (arith, c.if-bytes-at.false) in
    span_is c.args.bytes.now c.args.at c.args.number (get_or c.args.bytes.now (c.args.at + 1) 0) 0 0 (omega (arith, c.requires.number.0)) (omega (arith, c.requires.number.1))
    (omega (arith, c.if-size-end.false, c.requires.end.0, c.requires.end.1, c.if-end-at-lt2.false)) key refl (omega (arith, c.if-bytes-at-ge128.false))
