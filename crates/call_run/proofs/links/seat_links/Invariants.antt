use Rattle.std.proofs.Common.{◌≡◌, length}
use Rattle.std.specs.Vec.{vec_len, vec_capacity}
use Rattle.call_run.proofs.SeatingLinkReaders.{AreSeating}
use Rattle.call_run.proofs.links.seat_links.Given as goal

abbrev pub invariant-links : goal.invariant-links
invariant-links g l = record {
  seating : AreSeating l.tables.socks.rule.table.shared.table_id l.tables.socks.rule.plan l.tables.ids.table.shared.table_id l.opens l.operation-index l.fn.rests.items l.rests.items l.fn.seats.items l.seats.items l.fn.ids.items l.ids.items l.besides.items;
  link : l.link ≡ l.operation-index;
  room : vec_capacity l.besides ≡ length l.opens;
  len : vec_len l.besides ≡ l.operation-index;
}
