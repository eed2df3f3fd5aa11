use Rattle.std.proofs.Common.{ap, ◌∙◌}
use Rattle.brpc_main.proofs.outside.run_over.Goals as goal

pub returns : goal.returns
returns g c = record {
  input = _;
  out = _;
  unused = g.L.Linker.state c.args.links.now;
  left = g.L.Linker.state c.run_with.new.links;
  source_sound = ap (λ e. e.faults) (c.new-source.ensures.inner ∙ c.new-edge.ensures);
  sink_sound = ap (λ e. e.faults) c.new-out.ensures;
  is_unused = c.requires.unused;
  answered = c.run_with.ensures.answers;
}
