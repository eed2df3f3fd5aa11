use Rattle.call_errors.specs.Starving.{ended}
use Rattle.call_errors.proofs.starving.give_up.Goals as goal

pub returns-in-Ok-clause-given_up : goal.returns-in-Ok-clause-given_up
returns-in-Ok-clause-given_up g c = let e = c.in-Ok.ensures in
    ended c.in-Ok.lock c.lock.new.seat.me.0 (record { slot_is = e.locked.0; inside = e.inside; from_first = e.of_range.0; to_last = e.of_range.1; word = e.locked.1.0; got = e.locked.1.1; now = e.found_now }) c.end_call.ensures.ended
