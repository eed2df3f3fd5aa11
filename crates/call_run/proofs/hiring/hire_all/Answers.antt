use Rattle.std.proofs.Common.{◌∷◌, [], ◌-◌, ◌∙◌, ap, sym, subst, length, length-append, arith}
use Rattle.call_run.proofs.Dealing.{AreHiring, one_hired}
use Rattle.call_run.proofs.hiring.hire_all.Goals as goal

pub next_seats-seat-requires : goal.next_seats-seat-requires
next_seats-seat-requires g c = let many = c.hires.invariant.2.hiring.as_many in let a = many.0 in let b = many.1 in let one = ap length c.in-Some.ensures.steps.0 in (omega arith, omega arith)

pub hires-preserved : goal.hires-preserved
hires-preserved g c = let z = c.args.tables.now.socks.rule.table.shared.table_id in let p = c.args.tables.now.socks.rule.plan in let y = c.args.tables.now.ids.table.shared.table_id in let first = p.links - length c.args.all.now.items in let i = c.hires.invariant.2 in let one = c.in-Some.ensures.steps.0 in
    let e = c.hire-worker.ensures in let w = c.hire-worker.result in let was = c.hires.workers.items in let pushed = c.push_reserved.ensures in let n = i.number in let a = i.room in let b = i.few in let k = i.len in
    let h = subst (λ l. AreHiring z p y first c.args.rooms.items l c.hires.seats.items c.hires.ids.items c.hires.all.items was) one i.hiring in
    let next = one_hired z p y first c.args.rooms.items _ c.in-Some.room c.hires.seats.items c.next_seats-seat.new.seats.items c.next_seats-seat.result.0 c.hires.ids.items c.next_seats-seat.new.ids.items c.next_seats-seat.result.1 c.hires.all.items c.hire-worker.new.all.items was w h c.next_seats-seat.ensures.seats c.next_seats-seat.ensures.ids e.passes e.count e.seats e.nothing (e.go z y p) (e.others.0 ∙ omega arith) e.others.1 in (
      tt,
      tt,
      record {
        hiring = subst (AreHiring z p y first c.args.rooms.items _ c.next_seats-seat.new.seats.items c.next_seats-seat.new.ids.items c.hire-worker.new.all.items) (sym pushed.items) next;
        number = omega (arith, n, ap length pushed.items, length-append was (w ∷ []));
        room = omega (arith, a, ap length one, ap length pushed.items, length-append was (w ∷ []), pushed.capacity);
        len = omega (arith, k, pushed.len, ap length pushed.items, length-append was (w ∷ []));
        few = omega (arith, b, ap length one, ap length pushed.items, length-append was (w ∷ []));
      },
    )
