use Rattle.std.proofs.Common.{◌≡◌, ◌≤◌, length, map, take, sym, ◌∙◌, ap, arith}
use Rattle.std.proofs.lemmas.List.{length-take-le}
use Rattle.ring_link.proofs.CellLists.{bytes_all, ending_all}
use Rattle.ring_link.proofs.packing.unpack.Goals as goal

pub returns-then-unpack_bytes-clause-bytes : goal.returns-then-unpack_bytes-clause-bytes
returns-then-unpack_bytes-clause-bytes c = sym (bytes_all c.args.cells.now _ (c.unpack_bytes.ensures c.if-unpack_bytes.true))

pub returns-then-unpack_bytes-clause-count : goal.returns-then-unpack_bytes-clause-count
returns-then-unpack_bytes-clause-count c =
    let within : length c.args.cells.now ≤ length c.unpack_bytes.new.room = omega (arith, c.unpack_bytes.auto.room, c.requires) in
    sym (ap length (sym (returns-then-unpack_bytes-clause-bytes c)) ∙ length-take-le (length c.args.cells.now) c.unpack_bytes.new.room within)

pub returns-then-unpack_bytes-clause-ending : goal.returns-then-unpack_bytes-clause-ending
returns-then-unpack_bytes-clause-ending c = sym (ending_all c.args.cells.now _ (c.unpack_bytes.ensures c.if-unpack_bytes.true))
