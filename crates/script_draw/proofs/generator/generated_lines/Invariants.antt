use Rattle.std.proofs.Common.{◌≡◌, ◌++◌, ◌+◌, ◌-◌, map}
use Rattle.brpc_model.specs.DrawnSeatsAndScripts.{gen_clients, generated}
use Rattle.script_items.specs.LineMeaning.{item}
use Rattle.script_draw.proofs.generator.generated_lines.Given as goal

abbrev pub invariant-loop-before : goal.invariant-loop-before
invariant-loop-before l =
    map item l.lines.items ++ gen_clients (l.clients - l.before) (l.before + 1) l.ops l.draws.state ≡ generated l.seed l.clients l.ops
