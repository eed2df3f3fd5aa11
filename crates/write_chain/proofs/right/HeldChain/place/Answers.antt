use Rattle.std.proofs.Common.{arith, sym, ap}
use Rattle.write_chain.proofs.NotingWhileWriting.{rights_only, rights_then}
use Rattle.write_chain.proofs.WriterThroughSteps.{whole_placed}
use Rattle.write_chain.proofs.right.HeldChain.place.Goals as goal

pub store_place-requires-clause-may : goal.store_place-requires-clause-may
store_place-requires-clause-may g c = let h = c.requires.may.0 in (
  c.args.hand.link,
  c.args.hand.home.next,
  record {
    placing = record {
      right = h.right_is;
      one = h.writer.one;
      now = c.args.hand.now.0;
      stage = h.stage_is;
      taken = h.taken;
      away = h.has.away;
      place_is = ap (λ l. l.place) h.label_is;
      place_in = h.place_in;
      link_is = h.writer.link_is;
      places_are = sym h.has.places_are;
    };
    clean = c.requires.may.1;
    link_fits = omega arith;
  },
  omega (arith, c.pack-place.ensures.word),
)

pub go_past-requires-clause-may : goal.go_past-requires-clause-may
go_past-requires-clause-may g c = let h = c.requires.may.0 in (whole_placed c.args.hand c.count_place.new.self c.args.seat.now.me c.store_place.new.seat.me c.requires.may c.count_place.ensures.same c.count_place.ensures.out (c.store_place.ensures.view h.right_is c.args.hand.now.0 h.writer.one h.stage_is), h.ticket)

pub returns-clause-others : goal.returns-clause-others
returns-clause-others g c = let h = c.requires.may.0 in rights_then c.args.seat.now.me.0 c.store_place.new.seat.me.0 c.go_past.new.seat.me.0
    (rights_only c.args.seat.now.me.0 c.store_place.new.seat.me.0 _ (ap (λ m. m.0) (c.store_place.ensures.view h.right_is c.args.hand.now.0 h.writer.one h.stage_is))) c.go_past.ensures.others
