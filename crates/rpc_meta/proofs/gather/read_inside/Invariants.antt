use Rattle.std.proofs.Common.{◌-◌, slice_range, option_map}
use Rattle.rpc_meta.specs.MetaGatheringSteps.{message_after}
use Rattle.rpc_meta.proofs.MetaFieldGathering.{Gathers}
use Rattle.rpc_meta.proofs.gather.read_inside.Given as goal

abbrev pub invariant-loop-field : goal.invariant-loop-field
invariant-loop-field g l =
    let m = g.M.Gathering in
    Gathers m.added (m.said l.message) l.fields l.bytes (message_after m.added m.nothing (option_map m.said l.fn.before) l.from (slice_range l.bytes l.from l.to))

abbrev pub decreases-loop-field : goal.decreases-loop-field
decreases-loop-field g l = l.fields.end - l.fields.at
