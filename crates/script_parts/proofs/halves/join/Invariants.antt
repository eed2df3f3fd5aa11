use Rattle.std.proofs.Common.{◌≡◌, ◌+◌, ◌≤◌, ◌++◌, length}
use Rattle.std.specs.Vec.{vec_capacity}
use Rattle.std.specs.Vec.Iter.{into_iter_items}
use Rattle.script_parts.specs.HalvesApartAndTogether.{joined}
use Rattle.script_parts.proofs.halves.join.Given as goal

abbrev pub invariant-joins : goal.invariant-joins
invariant-joins g l =
    (goal.iterator-joins g).can_next l.out-iterator ×
    (goal.iterator-joins g).is_finite l.out-iterator × record {
      whole : l.back.items ++ joined (into_iter_items l.out-iterator) l.rests.items ≡ joined l.fn.outs.items l.fn.rests.items;
      as_many : length (into_iter_items l.out-iterator) ≡ length l.rests.items;
      room : length l.back.items + length (into_iter_items l.out-iterator) ≤ vec_capacity l.back;
    }
