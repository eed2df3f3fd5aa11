use Rattle.std.proofs.Common.{◌≡◌, length, map, take}
use Rattle.sock_io.specs.declared.link.Ends.{Ends}
use Rattle.script_parts.specs.HalvesApartAndTogether.{AreTaken}
use Rattle.script_parts.proofs.reporting.taken_by.Given as goal

abbrev pub invariant-takes : goal.invariant-takes
invariant-takes g l = record {
  told : AreTaken (λ (e : Ends g.row.O.Denot g.row.I.Denot g.row.P.Denot). g.O.Out.state e.out) (take l.link-index l.ends) (map (λ bytes. bytes.now) l.took.items);
  as_many : length l.took.items ≡ l.link-index;
}
