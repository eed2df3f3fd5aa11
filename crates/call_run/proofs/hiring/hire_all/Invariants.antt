use Rattle.std.proofs.Common.{◌≡◌, ◌+◌, ◌-◌, ◌≤◌, length}
use Rattle.std.specs.Vec.{vec_len, vec_capacity}
use Rattle.std.specs.Vec.Iter.{into_iter_items}
use Rattle.call_run.proofs.Dealing.{AreHiring}
use Rattle.call_run.proofs.hiring.hire_all.Given as goal

abbrev pub invariant-hires : goal.invariant-hires
invariant-hires g l =
    (goal.iterator-hires g).can_next l.room-iterator ×
    (goal.iterator-hires g).is_finite l.room-iterator × record {
      hiring : AreHiring l.tables.socks.rule.table.shared.table_id l.tables.socks.rule.plan l.tables.ids.table.shared.table_id (l.tables.socks.rule.plan.links - length l.fn.all.items) l.fn.rooms.items (into_iter_items l.room-iterator) l.seats.items l.ids.items l.all.items l.workers.items;
      number : l.number ≡ length l.workers.items;
      room : length l.workers.items + length (into_iter_items l.room-iterator) ≤ vec_capacity l.workers;
      len : vec_len l.workers ≡ length l.workers.items;
      few : length l.workers.items + length (into_iter_items l.room-iterator) ≤ 63;
    }
