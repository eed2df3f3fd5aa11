use Rattle.std.proofs.Common.{◌≡◌, map, None, replicate}
use Rattle.std.specs.Vec.Iter.{into_iter_items}
use Rattle.script_parts.specs.OutcomesSaidByNumber.{said_by_each}
use Rattle.script_parts.proofs.saying.said_of.Given as goal

abbrev pub invariant-clients : goal.invariant-clients
invariant-clients l =
    goal.iterator-clients.can_next l.own-iterator ×
    goal.iterator-clients.is_finite l.own-iterator × record {
      said : said_by_each l.said.items (map (λ own. own.items) (into_iter_items l.own-iterator)) ≡ said_by_each (replicate l.operations None) (map (λ own. own.items) l.fn.told.items);
    }
