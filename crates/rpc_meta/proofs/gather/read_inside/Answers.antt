use Rattle.std.proofs.Common.{◌∙◌}
use Rattle.rpc_meta.proofs.MetaFieldGathering.{field_step}
use Rattle.rpc_meta.proofs.gather.read_inside.Goals as goal

pub loop-field-preserved : goal.loop-field-preserved
loop-field-preserved g c =
    let m = g.M.Gathering in
    record {
      whole = c.in_ok-field.ensures.message.0 ∙ c.loop-field.invariant.whole;
      so_far = field_step m.added (m.said c.loop-field.message) (m.said c.add-message.result) c.loop-field.fields c.next.new.self c.args.bytes.now c.in_ok-field.field-0 c.in-Some.field _ c.loop-field.invariant.whole c.in_ok-field.ensures.rest c.in-Some.is c.add-message.ensures c.loop-field.invariant.so_far;
    }
