use Rattle.std.proofs.Common.{refl, arith, rules}
use Rattle.pb_wire.proofs.Groups.{counted_more, counted_last, ten_are_enough}
use Rattle.pb_wire.proofs.varint.varint_size.Goals as goal

pub loop-rest-init : goal.loop-rest-init
loop-rest-init c = record { some = omega arith; short = omega arith; fits = ten_are_enough c.args.value (search rules); so_far = refl }

pub loop-rest-preserved : goal.loop-rest-preserved
loop-rest-preserved c =
    let i = c.loop-rest.invariant in
    let step = counted_more 11 c.loop-rest.size c.loop-rest.rest (omega (arith, i.short)) c.loop-rest-test.true i.fits in
    record { some = omega arith; short = omega (arith, step.0); fits = step.1; so_far = omega (arith, i.so_far, step.2) }

pub returns-clause-size : goal.returns-clause-size
returns-clause-size c =
    let i = c.loop-rest.invariant in omega (arith, i.so_far, counted_last 11 c.loop-rest.size c.loop-rest.rest (omega (arith, i.short)) c.loop-rest-test.false)

pub returns-clause-at_most : goal.returns-clause-at_most
returns-clause-at_most c = c.loop-rest.invariant.short
