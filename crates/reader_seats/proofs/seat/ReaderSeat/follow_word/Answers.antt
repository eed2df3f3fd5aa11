use Rattle.std.proofs.Common.{sym, ap, subst, ◌∙◌}
use Rattle.reader_points.specs.ReaderPoints.{HasNext}
use Rattle.reader_seats.specs.InsideReaderSeat.{data_of}
use Rattle.reader_seats.specs.ReaderState.{ReaderData, around}
use Rattle.reader_seats.proofs.ReaderBehindSteps.{word_goes}
use Rattle.reader_seats.proofs.seat.ReaderSeat.follow_word.Goals as goal

pub follow-requires-clause-hand : goal.follow-requires-clause-hand
follow-requires-clause-hand c others =
    subst (λ (s : ReaderData). HasNext (around others s) c.next-next.result) c.self.view_is (c.next-next.ensures.hand (around others (data_of c.self.inside)) (c.self.invariant others))

pub returns : goal.returns
returns c =
    let calls = c.args.calls.now in
    let old = data_of c.self.inside in
    word_goes calls old c.args.self.now c.follow.new.self c.args.found c.next-next.result c.follow.result c.args.outcomes.now c.follow.new.outcomes c.self.view_is
    (c.next-next.ensures.program (around calls old) (ap (λ (s : ReaderData). s.asked.operation) c.self.view_is ∙ sym c.operation.ensures) (c.self.invariant calls))
    c.follow.ensures
