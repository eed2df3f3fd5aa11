use Rattle.std.proofs.Common.{◌≡◌, map, take}
use Rattle.ring_link.specs.declared.cell.Cell.TheVariants.{Byte}
use Rattle.ring_link.proofs.packing.unpack_marked.Given as goal

abbrev pub invariant-loop-i : goal.invariant-loop-i
invariant-loop-i l = take l.i l.cells ≡ map Byte (take l.i l.room)
