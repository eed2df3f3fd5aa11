use Rattle.std.proofs.Common.{◌∙◌}
use Rattle.rpc_meta.specs.MetaParts.{gathered_of}
use Rattle.rpc_meta.proofs.MetaFieldGathering.{part_step}
use Rattle.rpc_meta.proofs.gather.gather_each.Goals as goal

pub loop-field-preserved : goal.loop-field-preserved
loop-field-preserved c =
    record {
      whole = c.in_ok-field.ensures.message.0 ∙ c.loop-field.invariant.whole;
      so_far = part_step (gathered_of c.loop-field.parts) (gathered_of c.in_ok-parts.parts) c.loop-field.fields c.next.new.self c.args.bytes.now c.in_ok-field.field-0 c.in-Some.field _ c.loop-field.invariant.whole c.in_ok-field.ensures.exact c.in_ok-field.ensures.place c.in-Some.is c.in_ok-parts.ensures c.loop-field.invariant.so_far;
    }
