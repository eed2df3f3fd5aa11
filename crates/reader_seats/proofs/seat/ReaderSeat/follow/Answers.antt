use Rattle.std.proofs.Common.{[], sym, subst}
use Rattle.reader_points.specs.ReaderPoints.{HasNext}
use Rattle.reader_seats.specs.InsideReaderSeat.{data_of}
use Rattle.reader_seats.specs.ReaderState.{ReaderData, around}
use Rattle.reader_seats.proofs.ReaderBehindSteps.{point_goes, early_goes}
use Rattle.reader_seats.proofs.seat.ReaderSeat.follow.Goals as goal

pub invariant_of-self : goal.invariant_of-self
invariant_of-self c calls =
    let h = subst (λ (s : ReaderData). HasNext (around calls s) c.args.next) (sym c.self.view_is) (c.requires.hand calls) in
    subst (λ n. HasNext (around calls (data_of c.self.inside)) n) c.in-Point.is h

pub keep-requires : goal.keep-requires
keep-requires c = subst (λ n. HasNext (around [] c.args.self.now) n) c.in-Early.is (c.requires.hand [])

pub returns-in-Point : goal.returns-in-Point
returns-in-Point c = point_goes c.args.calls.now (data_of c.self.inside) c.args.self.now c.args.next c.in-Point.point c.args.outcomes.now c.self.view_is c.in-Point.is

pub returns-in_ok-keep-in-Early : goal.returns-in_ok-keep-in-Early
returns-in_ok-keep-in-Early c =
    early_goes c.args.calls.now c.args.self.now c.keep.new.self c.cut_next-in-Early.new.self c.args.next c.in-Early.reader c.cut_next-in-Early.result c.args.outcomes.now c.in-Early.is c.in_ok-keep-in-Early.ensures c.cut_next-in-Early.ensures
