use Rattle.std.proofs.Common.{length}
use Rattle.std.specs.Vec.Iter.{into_iter_items}
use Rattle.call_run.specs.LinksBesideClients.{HasMoreLinks}
use Rattle.call_run.proofs.PartingLinks.{Parting}
use Rattle.call_run.proofs.links.part_all.Given as goal

abbrev pub invariant-parts : goal.invariant-parts
invariant-parts g l =
    (goal.iterator-parts g).can_next l.beside-iterator ×
    (goal.iterator-parts g).is_finite l.beside-iterator × record {
      parting : Parting (into_iter_items l.beside-iterator) l.fn.besides.items l.left;
      more : HasMoreLinks (length (into_iter_items l.beside-iterator)) l.left;
    }
