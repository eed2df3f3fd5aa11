use Rattle.std.proofs.Common.{◌≡◌, length, map, take}
use Rattle.sock_io.specs.LinkHalves.{end_of}
use Rattle.brpc_model.specs.PlaceWords.{AreTold}
use Rattle.script_run.proofs.report.taken_by.Given as goal

abbrev pub invariant-loop-link : goal.invariant-loop-link
invariant-loop-link g l = record {
  told : AreTold (map (λ e. end_of (g.O.Out.state e.out) (g.I.In.state e.inn)) (take l.link-index l.ends)) (map (λ bytes. bytes.now) l.took.items);
  as_many : length l.took.items ≡ l.link-index;
}
