use Rattle.std.proofs.Common.{◌≡◌, ◌-◌, fold, Ok}
use Rattle.pb_wire.specs.brpc_model.specs.Wire.{◌>>=◌}
use Rattle.pb_wire.specs.brpc_model.specs.Meta.{part_of}
use Rattle.pb_wire.specs.FieldReader.{left_with}
use Rattle.rpc_meta.specs.Gathered.{nothing, part_added}
use Rattle.rpc_meta.specs.MetaParts.{gathered_of}
use Rattle.rpc_meta.specs.MetaGatheringSteps.{gathered_after}
use Rattle.rpc_meta.proofs.gather.gather_each.Given as goal

-- the parts so far and those that are left are the whole
abbrev pub invariant-loop-field : goal.invariant-loop-field
invariant-loop-field l = record {
  whole : l.fields.bytes ≡ l.bytes;
  so_far : left_with (λ f. part_of f.number f.value) l.fields >>= (λ ps. Ok (fold part_added (gathered_of l.parts) ps)) ≡ gathered_after nothing l.bytes;
}

abbrev pub decreases-loop-field : goal.decreases-loop-field
decreases-loop-field l = l.fields.end - l.fields.at
