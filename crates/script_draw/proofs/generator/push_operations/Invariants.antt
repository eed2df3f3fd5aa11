use Rattle.std.proofs.Common.{◌≡◌, ◌++◌, ◌+◌, ◌-◌, map}
use Rattle.brpc_model.specs.DrawnSeatsAndScripts.{gen_operations, gen_draws, state_behind}
use Rattle.script_items.specs.LineMeaning.{item}
use Rattle.script_draw.proofs.generator.push_operations.Given as goal

abbrev pub invariant-loop-before : goal.invariant-loop-before
invariant-loop-before l = record {
  all : map item l.lines.items ++ gen_operations (l.ops - l.before) l.client (l.before + 1) l.draws.state
      ≡ map item l.initial.lines.items ++ gen_operations l.ops l.client 1 l.initial.draws.state;
  behind : state_behind (gen_draws (l.ops - l.before) l.client (l.before + 1)) l.draws.state
      ≡ state_behind (gen_draws l.ops l.client 1) l.initial.draws.state;
}
