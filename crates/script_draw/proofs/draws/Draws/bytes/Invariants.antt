use Rattle.std.proofs.Common.{◌≡◌, ◌%◌, map}
use Rattle.brpc_model.specs.DrawnSeatsAndScripts.{draws, state_behind}
use Rattle.script_draw.proofs.draws.Draws.bytes.Given as goal

abbrev pub invariant-loop : goal.invariant-loop
invariant-loop l = record {
  drawn : l.bytes.items ≡ map (λ d. d % 256) (draws l.counter l.initial.self.state);
  behind : l.self.state ≡ state_behind l.counter l.initial.self.state;
}
