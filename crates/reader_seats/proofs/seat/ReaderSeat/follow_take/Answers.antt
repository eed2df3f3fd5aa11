use Rattle.std.proofs.Common.{[], subst}
use Rattle.seat_programs.specs.FoundAndChangedAside.{at_last}
use Rattle.reader_points.specs.ReaderPoints.{HasInHand}
use Rattle.reader_seats.specs.ReaderGoesOn.{taking_of}
use Rattle.reader_seats.specs.InsideReaderSeat.{data_of}
use Rattle.reader_seats.specs.ReaderState.{around}
use Rattle.reader_seats.proofs.ReaderBehindSteps.{rests, fed_hand, took_goes, threw_goes}
use Rattle.reader_seats.proofs.seat.ReaderSeat.follow_take.Goals as goal

pub feed-requires-clause-rest : goal.feed-requires-clause-rest
feed-requires-clause-rest c = rests (data_of c.self.inside) c.args.self.now c.in-Take.reader c.self.view_is c.in-Take.is (c.self.invariant [])

pub follow-requires-clause-hand : goal.follow-requires-clause-hand
follow-requires-clause-hand c others =
    fed_hand others (data_of c.self.inside) c.args.self.now c.feed.new.self c.in-Take.reader c.args.ending (taking_of c.args.room.now c.args.answer) c.taken-next.result c.self.view_is c.in-Take.is (c.self.invariant others)
    (λ calls. c.in_ok-feed-in-Take.ensures calls)
    (λ a h. c.taken-next.ensures.hand a (at_last c.args.ending (taking_of c.args.room.now c.args.answer)) (c.taken_by-taken.ensures.is c.args.room.now c.requires.answer) h)

pub invariant_of-self : goal.invariant_of-self
invariant_of-self c calls =
    c.discarded-self-inside.ensures.hand (around calls (data_of c.self.inside)) (subst (λ p. HasInHand (around calls (data_of c.self.inside)) p) c.in-Discard.is (c.self.invariant calls))

pub returns-in_ok-feed-in-Take : goal.returns-in_ok-feed-in-Take
returns-in_ok-feed-in-Take c =
    took_goes c.args.calls.now (data_of c.self.inside) c.args.self.now c.feed.new.self c.follow.new.self c.in-Take.reader c.args.ending (taking_of c.args.room.now c.args.answer) c.taken-next.result c.follow.result c.args.outcomes.now c.follow.new.outcomes
    c.self.view_is c.in-Take.is (λ calls. c.in_ok-feed-in-Take.ensures calls)
    (λ a. c.taken-next.ensures.program a (at_last c.args.ending (taking_of c.args.room.now c.args.answer)) (c.taken_by-taken.ensures.is c.args.room.now c.requires.answer))
    c.follow.ensures

pub returns-in-Discard : goal.returns-in-Discard
returns-in-Discard c =
    let t = at_last c.args.ending (taking_of c.args.room.now c.args.answer) in
    threw_goes c.args.calls.now (data_of c.self.inside) c.args.self.now c.in-Discard.link c.in-Discard.total c.discarded-self-inside.result t c.args.outcomes.now c.self.view_is c.in-Discard.is
    (c.discarded-self-inside.ensures.program (around c.args.calls.now (data_of c.self.inside)) t (c.taken_by-taken.ensures.is c.args.room.now c.requires.answer))
