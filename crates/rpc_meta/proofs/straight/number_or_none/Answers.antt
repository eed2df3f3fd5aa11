use Rattle.std.proofs.Common.{◌≡◌, ◌*◌, get_or, arith, inr}
use Rattle.rpc_meta.proofs.NextFields.{number_next_is}
use Rattle.rpc_meta.proofs.straight.number_or_none.Goals as goal

pub returns-in-Ok-clause-spelled : goal.returns-in-Ok-clause-spelled
returns-in-Ok-clause-spelled c =
    let key : get_or c.args.bytes.now c.args.at 0 ≡ c.args.number * 8 = omega (arith, c.if-bytes-at.false) in
    let within = c.in-Ok.ensures.within in
    inr (number_next_is c.args.bytes.now c.args.at c.args.number c.in-Ok.value c.in-Ok.next 0 (omega (arith, c.requires.number.0)) (omega (arith, c.requires.number.1)) (omega (arith, within.0)) (omega (arith, within.1)) key c.in-Ok.ensures.spelled)
