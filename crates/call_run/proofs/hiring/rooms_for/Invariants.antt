use Rattle.std.proofs.Common.{◌≡◌, ◌+◌, ◌≤◌, ◌++◌, length, map}
use Rattle.std.specs.Prelude.{All}
use Rattle.std.specs.Vec.{vec_capacity}
use Rattle.std.specs.Vec.Iter.{into_iter_items}
use Rattle.call_run.specs.declared.hiring.Room.{Room}
use Rattle.call_run.specs.Hired.{HasRoom}
use Rattle.call_run.proofs.hiring.rooms_for.Given as goal

abbrev pub invariant-clients : goal.invariant-clients
invariant-clients g l =
    (goal.iterator-clients g).can_next l.tasks-iterator ×
    (goal.iterator-clients g).is_finite l.tasks-iterator × record {
      rooms : All HasRoom l.rooms.items;
      tasks : map (λ (r : Room g.row.O.Denot g.O.Out). r.tasks.items) l.rooms.items ++ map (λ v. v.items) (into_iter_items l.tasks-iterator) ≡ map (λ v. v.items) l.fn.clients.items;
      room : length l.rooms.items + length (into_iter_items l.tasks-iterator) ≤ vec_capacity l.rooms;
    }
