use Rattle.std.proofs.Common.{◌+◌, ◌∙◌, sym, subst, arith}
use Rattle.call_run.proofs.SeatingLinkReaders.{AreSeating, one_seated}
use Rattle.call_run.proofs.links.seat_links.Goals as goal

pub next_seats-seat-requires : goal.next_seats-seat-requires
next_seats-seat-requires g c = let s = c.links.invariant.seating in let a = s.count in let b = s.id_count in let lt = c.links-test.true in let enough = c.requires.enough.0 in let enough_ids = c.requires.enough.1 in (omega arith, omega arith)

pub links-preserved : goal.links-preserved
links-preserved g c = let z = c.args.tables.now.socks.rule.table.shared.table_id in let p = c.args.tables.now.socks.rule.plan in let y = c.args.tables.now.ids.table.shared.table_id in let i = c.links.invariant in let e = c.new-beside.ensures in let b = c.new-beside.result in let was = c.links.besides.items in let pushed = c.push_reserved.ensures in let n = i.link in
    let next = one_seated z p y c.args.opens.now c.links.operation-index c.args.rests.items c.links.rests.items c.pop_front.new.self.items c.in-Some.rest c.args.seats.now.items c.links.seats.items c.next_seats-seat.new.seats.items c.next_seats-seat.result.0 c.args.ids.now.items c.links.ids.items c.next_seats-seat.new.ids.items c.next_seats-seat.result.1 was b
    i.seating c.links-test.true c.in-Some.ensures.items c.next_seats-seat.ensures.seats c.next_seats-seat.ensures.ids e.ends e.seats (e.numbers.0 ∙ n, e.numbers.1) e.empty in let a = i.len in record {
      seating = subst (AreSeating z p y c.args.opens.now (c.links.operation-index + 1) c.args.rests.items c.pop_front.new.self.items c.args.seats.now.items c.next_seats-seat.new.seats.items c.args.ids.now.items c.next_seats-seat.new.ids.items) (sym pushed.items) next;
      link = omega arith;
      room = pushed.capacity ∙ i.room;
      len = omega (arith, a, pushed.len);
    }
