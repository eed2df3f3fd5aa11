use Rattle.std.proofs.Common.{ap}
use Rattle.prpc_frame.specs.HeldByCutter.{Held}
use Rattle.frame_print.proofs.print.print_all.Goals as goal

pub print_each-requires-clause-held : goal.print_each-requires-clause-held
print_each-requires-clause-held g c = ap (λ (h : Held). h.bytes) c.new-cutter.ensures

pub print_each-requires-clause-untold : goal.print_each-requires-clause-untold
print_each-requires-clause-untold g c = ap (λ (h : Held). h.told) c.new-cutter.ensures
