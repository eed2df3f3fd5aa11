use Rattle.std.specs.Vec.Iter.{into_iter_items}
use Rattle.call_run.proofs.ClientsHandingIn.{Handing}
use Rattle.call_run.proofs.leaving.hand_in_all.Given as goal

abbrev pub invariant-hands : goal.invariant-hands
invariant-hands g l =
    (goal.iterator-hands g).can_next l.worker-iterator ×
    (goal.iterator-hands g).is_finite l.worker-iterator ×
    Handing (into_iter_items l.worker-iterator) l.fn.workers.items l.fn.left l.left
