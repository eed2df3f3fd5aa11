use Rattle.std.proofs.Common.{ap, sym}
use Rattle.sock_message.specs.Asked.{Asked}
use Rattle.reader_points.specs.ReaderPoints.{with_asked}
use Rattle.reader_seats.specs.InsideReaderSeat.{data_of}
use Rattle.reader_seats.specs.ReaderState.{around}
use Rattle.reader_seats.proofs.ProgramAtNextStep.{goes_to}
use Rattle.reader_seats.proofs.seat.ReaderSeat.follow_call.Goals as goal

pub invariant_of-self : goal.invariant_of-self
invariant_of-self c calls = c.with_call-self-inside.ensures.hand (with_asked c.args.call (around calls (data_of c.self.inside)))

pub returns : goal.returns
returns c calls outcomes =
    rw (← c.self.view_is) (goes_to calls _ _ (c.with_call-self-inside.ensures.program (around calls (data_of c.self.inside)) c.args.call (sym (ap (λ (x : Asked). x.operation) c.call.view_is))) outcomes)
