use Rattle.std.proofs.Common.{◌≡◌, ◌++◌}
use Rattle.std.specs.List.{flat_map}
use Rattle.std.specs.Vec.Iter.{into_iter_items}
use Rattle.script_threads.proofs.ending.gathered.Given as goal

abbrev pub invariant-gathers : goal.invariant-gathers
invariant-gathers l =
    goal.iterator-gathers.can_next l.own-iterator ×
    goal.iterator-gathers.is_finite l.own-iterator × record {
      whole : l.all.items ++ flat_map (λ own. own.items) (into_iter_items l.own-iterator) ≡ flat_map (λ own. own.items) l.fn.kept.items;
    }
