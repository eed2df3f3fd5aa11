use Rattle.std.proofs.Common.{◌≡◌, ◌+◌, ◌-◌, length, []}
use Rattle.std.specs.Vec.{vec_len, vec_capacity}
use Rattle.corr_id.specs.IdTableOpening.{AreNew}
use Rattle.corr_id.proofs.BeginningOfIdTable.{stands_for}
use Rattle.corr_id.proofs.table.IdTable.deal.Given as goal

abbrev pub invariant-loop : goal.invariant-loop
invariant-loop g l = record {
  of_table : l.first.table_id ≡ l.self.table.shared.table_id;
  left : l.first.me ≡ (stands_for (l.self.plan.seats + 1 - l.counter), []);
  new : AreNew l.self.table.shared.table_id l.seats.items;
  count : length l.seats.items + 1 ≡ l.counter;
  len : vec_len l.seats + 1 ≡ l.counter;
  room : vec_capacity l.seats ≡ l.self.plan.seats;
}
