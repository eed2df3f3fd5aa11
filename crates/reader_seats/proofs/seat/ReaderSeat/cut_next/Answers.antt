use Rattle.std.proofs.Common.{refl}
use Rattle.reader_seats.specs.InsideReaderSeat.{data_of}
use Rattle.reader_seats.proofs.ReaderFollows.{cut_goes, cut_hand}
use Rattle.reader_seats.proofs.seat.ReaderSeat.cut_next.Goals as goal

pub invariant_of-self-2 : goal.invariant_of-self-2
invariant_of-self-2 c calls = rw c.hand_with.ensures (cut_hand calls c.args.reader _ (data_of c.self.inside) c.cut.new.cutter.bytes c.in_ok-frame.field-0 c.in_ok-frame.ensures)

pub returns : goal.returns
returns c = rw (← c.self.view_is, c.hand_with.ensures) (cut_goes c.args.calls.now c.args.reader _ (data_of c.self.inside) c.cut.new.cutter.bytes c.in_ok-frame.field-0 refl c.in_ok-frame.ensures)
