use Rattle.std.proofs.Common.{◌∙◌, ◌+◌, ◌%◌, ◌++◌, refl, arith, rules, ap}
use Rattle.std.proofs.Math.ListN.{set}
use Rattle.std.proofs.lemmas.List.{length-set, length-take}
use Rattle.pb_wire.proofs.Groups.{spell_more, spell_last, ten_are_enough}
use Rattle.pb_wire.proofs.Shortest.{shortest_form, none_shorter}
use Rattle.pb_wire.proofs.varint.write_varint.Goals as goal

pub loop-rest-init : goal.loop-rest-init
loop-rest-init c = record { room = refl; short = omega arith; fits = ten_are_enough c.args.value (search rules); so_far = refl }

pub loop-rest-preserved : goal.loop-rest-preserved
loop-rest-preserved c =
    let i = c.loop-rest.invariant in
    let step = spell_more 10 c.loop-rest.length c.loop-rest.rest i.short c.loop-rest-test.true i.fits in
    record {
      room = length-set c.loop-rest.spelled c.loop-rest.length (c.loop-rest.rest % 128 + 128) ∙ i.room;
      short = step.0;
      fits = step.1;
      so_far = step.2 c.loop-rest.spelled (omega (arith, i.room, i.short)) ∙ i.so_far;
    }

pub bounds-spelled-length-2 : goal.bounds-spelled-length-2
bounds-spelled-length-2 c = c.loop-rest.invariant.short

pub slice_bounds-spelled-end : goal.slice_bounds-spelled-end
slice_bounds-spelled-end c =
    let i = c.loop-rest.invariant in omega (arith, length-set c.loop-rest.spelled c.loop-rest.length c.loop-rest.rest, i.short, i.room)

pub slice_bounds-extend_from_slice-end : goal.slice_bounds-extend_from_slice-end
slice_bounds-extend_from_slice-end c =
    let i = c.loop-rest.invariant in
    omega (arith, length-take (c.loop-rest.length + 1) (set c.loop-rest.spelled c.loop-rest.length c.loop-rest.rest), length-set c.loop-rest.spelled c.loop-rest.length c.loop-rest.rest, i.short, i.room)

pub returns-clause-exact : goal.returns-clause-exact
returns-clause-exact c =
    let i = c.loop-rest.invariant in
    let last = spell_last 10 c.loop-rest.length c.loop-rest.rest c.loop-rest.spelled i.short c.loop-rest-test.false (omega (arith, i.room, i.short)) ∙ i.so_far in
    c.in_ok-extend_from_slice.ensures.items ∙ ap (λ l. c.args.out.now.items ++ l) last

pub returns-clause-spelled : goal.returns-clause-spelled
returns-clause-spelled c = shortest_form c.args.value (search rules)

pub returns-clause-shortest : goal.returns-clause-shortest
returns-clause-shortest c = none_shorter c.args.value

pub returns-in_err-extend_from_slice-clause-spelled : goal.returns-in_err-extend_from_slice-clause-spelled
returns-in_err-extend_from_slice-clause-spelled c = shortest_form c.args.value (search rules)

pub returns-in_err-extend_from_slice-clause-shortest : goal.returns-in_err-extend_from_slice-clause-shortest
returns-in_err-extend_from_slice-clause-shortest c = none_shorter c.args.value

pub returns-then-value-lt128-clause-spelled : goal.returns-then-value-lt128-clause-spelled
returns-then-value-lt128-clause-spelled c = shortest_form c.args.value (search rules)

pub returns-in_err-push-clause-spelled : goal.returns-in_err-push-clause-spelled
returns-in_err-push-clause-spelled c = shortest_form c.args.value (search rules)
