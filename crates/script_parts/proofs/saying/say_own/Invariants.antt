use Rattle.std.proofs.Common.{◌≡◌}
use Rattle.std.specs.Vec.Iter.{into_iter_items}
use Rattle.script_parts.specs.OutcomesSaidByNumber.{said_by}
use Rattle.script_parts.proofs.saying.say_own.Given as goal

abbrev pub invariant-tolds : goal.invariant-tolds
invariant-tolds l =
    goal.iterator-tolds.can_next l.one-iterator ×
    goal.iterator-tolds.is_finite l.one-iterator × record {
      said : said_by l.said.items (into_iter_items l.one-iterator) ≡ said_by l.fn.said.items l.fn.told.items;
    }
