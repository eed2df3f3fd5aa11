use Rattle.std.proofs.Common.{◌≡◌, ◌+◌, ◌≤◌, ◌++◌, length, map, deque_len, deque_capacity}
use Rattle.std.specs.Vec.{vec_capacity}
use Rattle.std.specs.Vec.Iter.{into_iter_items}
use Rattle.script_parts.specs.HalvesApartAndTogether.{rest_of}
use Rattle.script_parts.proofs.halves.part.Given as goal

abbrev pub invariant-parts : goal.invariant-parts
invariant-parts g l =
    (goal.iterator-parts g).can_next l.link-iterator ×
    (goal.iterator-parts g).is_finite l.link-iterator × record {
      outs : l.halves.outs.items ++ map (λ e. e.out) (into_iter_items l.link-iterator) ≡ map (λ e. e.out) l.fn.ends.items;
      rests : l.halves.rests.items ++ map rest_of (into_iter_items l.link-iterator) ≡ map rest_of l.fn.ends.items;
      back : l.halves.back ≡ l.fn.halves.back;
      out_room : length l.halves.outs.items + length (into_iter_items l.link-iterator) ≤ vec_capacity l.halves.outs;
      rest_room : deque_len l.halves.rests + length (into_iter_items l.link-iterator) ≤ deque_capacity l.halves.rests;
    }
