use Rattle.std.proofs.Common.{ℕ, ◌-◌, ◌/◌, List, ◌++◌, refl, arith, rules, ap, ◌∙◌}
use Rattle.pb_wire.specs.brpc_model.specs.Wire.{varint_bytes, varint_up_to}
use Rattle.pb_wire.proofs.Groups.{ten_are_enough}
use Rattle.rpc_meta.proofs.VarintPutByBytes.{put_more, put_last, some_room}
use Rattle.rpc_meta.proofs.front.Front.put_long.Goals as goal

pub loop-rest-init : goal.loop-rest-init
loop-rest-init c = record { some = omega arith; fits = ten_are_enough c.args.value (search rules); so_far = refl }

pub push-requires : goal.push-requires
push-requires c =
    let i = c.loop-rest.invariant in
    some_room c.loop-rest.self c.args.self.now (varint_bytes c.args.value) 128 c.loop-rest.room c.loop-rest.rest i.some i.fits i.so_far c.requires

pub loop-rest-preserved : goal.loop-rest-preserved
loop-rest-preserved c =
    let i = c.loop-rest.invariant in
    let step = put_more c.loop-rest.self c.loop-rest.room c.loop-rest.rest i.some c.loop-rest-test.true i.fits in
    record { some = step.0; fits = step.1; so_far = ap (λ (l : List ℕ). l ++ varint_up_to (c.loop-rest.room - 1) (c.loop-rest.rest / 128)) c.push.ensures ∙ step.2 ∙ i.so_far }

pub push-requires-2 : goal.push-requires-2
push-requires-2 c =
    let i = c.loop-rest.invariant in
    some_room c.loop-rest.self c.args.self.now (varint_bytes c.args.value) 128 c.loop-rest.room c.loop-rest.rest i.some i.fits i.so_far c.requires

pub returns : goal.returns
returns c =
    let i = c.loop-rest.invariant in
    c.push-2.ensures ∙ ap (λ l. c.loop-rest.self ++ l) (put_last c.loop-rest.room c.loop-rest.rest i.some c.loop-rest-test.false) ∙ i.so_far
