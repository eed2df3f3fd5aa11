use Rattle.reader_seats.specs.declared.hand.Hand.TheVariants.{Empty}
use Rattle.reader_seats.specs.InsideReaderSeat.{data_of}
use Rattle.reader_seats.specs.ReaderState.{around}
use Rattle.reader_seats.proofs.ReaderFollows.{cut_data}
use Rattle.reader_seats.proofs.seat.ReaderSeat.post_next.Goals as goal

pub invariant_of-self : goal.invariant_of-self
invariant_of-self c calls = c.posts-self-inside.ensures.hand (around calls (cut_data (data_of c.self.inside) c.self.inside.cutter.bytes Empty c.posts-self-inside.result))
