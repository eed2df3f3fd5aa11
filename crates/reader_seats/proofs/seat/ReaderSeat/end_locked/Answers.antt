use Rattle.std.proofs.Common.{refl}
use Rattle.reader_seats.specs.InsideReaderSeat.{data_of}
use Rattle.reader_seats.specs.ReaderState.{around}
use Rattle.reader_seats.proofs.ReaderFollows.{kept_data, kept_goes}
use Rattle.reader_seats.proofs.seat.ReaderSeat.end_locked.Goals as goal

pub invariant_of-self : goal.invariant_of-self
invariant_of-self c calls = c.answers-self-inside.ensures.hand (around calls (kept_data (data_of c.self.inside) c.in-Some.place c.answers-self-inside.result))

pub invariant_of-self-in-None : goal.invariant_of-self-in-None
invariant_of-self-in-None c calls = c.fails-self-inside.ensures.hand (around calls (data_of c.self.inside))

pub returns-in-Some : goal.returns-in-Some
returns-in-Some c calls =
    rw (← c.self.view_is) (kept_goes calls (data_of c.self.inside) c.self.inside.kept.items c.in-Some.place c.range.result c.args.lost c.args.word c.answers-self-inside.result refl c.range.ensures (rw c.deref.ensures.value at c.in-Some.ensures.some) c.answers-self-inside.ensures.program)
