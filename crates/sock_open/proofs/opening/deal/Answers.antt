use Rattle.std.proofs.Common.{◌≡◌, ◌+◌, ◌-◌, suc, ℕ, [], ◌∷◌, length, length-append, reverse, arith, refl, sym, ap, ◌∙◌, subst}
use Rattle.std.proofs.lemmas.List.{length-reverse}
use Rattle.sock_open.specs.NewTableContents.{AreNewSeats, PassesFrom}
use Rattle.sock_open.proofs.SeatsOfNewTable.{First, one_passed, one_given, new_seat, last_seat, seats_snoc, total_snoc, passes_more, pass_ok}
use Rattle.sock_open.proofs.opening.deal.Goals as goal
use Rattle.sock_words.specs.Totals.{total}

pub loop-k-preserved : goal.loop-k-preserved
loop-k-preserved g c = let z = c.args.rule.now.table.shared.table_id in let p = c.args.rule.now.plan in let inv = c.loop-k.invariant in let n = inv.0 in let sp = inv.1 in let e = inv.2 in let s = inv.3 in let lt = c.loop-k-test.true in
    let m : inv.0 ≡ suc (inv.0 - 1) = omega arith in (
      inv.0 - 1,
      inv.1 - 1,
      omega (arith, inv.9.few_links),
      omega (arith, inv.9.few_links),
      one_passed z p inv.0 (inv.0 - 1) inv.1 p.seats c.loop-k.first c.pass_out-seat.new.seat inv.4 c.pass_out-seat.ensures.seat c.pass_out-seat.ensures.view.0 m,
      subst (λ xs. PassesFrom z p (inv.0 - 1) (reverse xs)) (sym c.push_reserved.ensures.items) (passes_more z p inv.0 (inv.0 - 1) c.loop-k.passes.items record { seat = c.pass_out-seat.result; link = p.links - 1 - c.loop-k.k } inv.5 m
          (pass_ok z p inv.0 (inv.0 - 1) inv.1 p.seats c.loop-k.first record { seat = c.pass_out-seat.result; link = p.links - 1 - c.loop-k.k } inv.4 m c.pass_out-seat.ensures.pass c.pass_out-seat.ensures.view.1 (omega arith)) (omega arith)),
      ap length c.push_reserved.ensures.items ∙ omega (arith, inv.6, length-append c.loop-k.passes.items (record { seat = c.pass_out-seat.result; link = p.links - 1 - c.loop-k.k } ∷ [])),
      omega (arith, c.push_reserved.ensures.len, inv.7),
      c.push_reserved.ensures.capacity ∙ inv.8,
      inv.9,
    )

pub loop-init : goal.loop-init
loop-init g c = let z = c.args.rule.now.table.shared.table_id in let p = c.args.rule.now.plan in let inv = c.loop-k.invariant in let t = c.loop-k-test.false in let a = inv.2 in let b = inv.3 in let none_ : inv.0 ≡ 0 = omega arith in (
  inv.1,
  p.seats,
  omega (arith, inv.9.few_links),
  refl,
  subst (λ (n : ℕ). First z p n inv.1 p.seats c.loop-k.first) none_ inv.4,
  subst (PassesFrom z p 0) (sym c.reverse.ensures.items) (subst (λ (n : ℕ). PassesFrom z p n (reverse c.loop-k.passes.items)) none_ inv.5),
  ap length c.reverse.ensures.items ∙ (length-reverse c.loop-k.passes.items ∙ omega arith),
  subst (AreNewSeats z p) (sym c.requires.seats.0) tt,
  ap (λ xs. total (λ s. s.me.0.share) xs + 1) c.requires.seats.0,
  ap (λ xs. length xs + 1) c.requires.seats.0,
  ap (λ (n : ℕ). n + 1) c.requires.seats.1,
  c.requires.seats.2,
  inv.9,
)

pub loop-preserved : goal.loop-preserved
loop-preserved g c = let z = c.args.rule.now.table.shared.table_id in let p = c.args.rule.now.plan in let inv = c.loop.invariant in let a = inv.2 in let b = inv.3 in let t = inv.8 in let lt = c.loop-test.true in
    let new = new_seat z p c.loop.first.me.0 c.give-seat.result c.give-seat.ensures.new inv.4.seat.1 c.give-seat.ensures.view.1 in let one = new.1 in (
      inv.0 - 1,
      inv.1 - 1,
      omega (arith, inv.12.few_seats),
      omega (arith, inv.12.few_seats),
      one_given z p 0 inv.0 inv.1 c.loop.first c.give-seat.new.seat inv.4 c.give-seat.ensures.seat c.give-seat.ensures.view.0,
      inv.5,
      inv.6,
      subst (λ xs. AreNewSeats z p xs) (sym c.push_reserved-in-loop.ensures.items) (seats_snoc z p c.loop.seats.items c.give-seat.result inv.7 new.0),
      (let q = ap (total (λ s. s.me.0.share)) c.push_reserved-in-loop.ensures.items in let r = total_snoc (λ s. s.me.0.share) c.loop.seats.items c.give-seat.result in omega arith),
      (let q = ap length c.push_reserved-in-loop.ensures.items in let r = length-append c.loop.seats.items (c.give-seat.result ∷ []) in let y = inv.9 in omega arith),
      omega (arith, c.push_reserved-in-loop.ensures.len, inv.10),
      c.push_reserved-in-loop.ensures.capacity ∙ inv.11,
      inv.12,
    )

pub returns : goal.returns
returns g c = let z = c.args.rule.now.table.shared.table_id in let p = c.args.rule.now.plan in let inv = c.loop.invariant in let b = inv.3 in let t = inv.8 in let lt = c.loop-test.false in let has = inv.4.has_share in
    let some_ = inv.12.some_seats in let y = inv.9 in let up = c.loop.auto.counter-end in let one : inv.1 ≡ 1 = omega arith in record {
      seats_are = subst (λ xs. AreNewSeats z p xs) (sym c.push_reserved-2.ensures.items) (seats_snoc z p c.loop.seats.items c.loop.first inv.7 (last_seat z p 0 inv.0 inv.1 c.loop.first inv.4 refl one));
      count = ap length c.push_reserved-2.ensures.items ∙ (length-append c.loop.seats.items (c.loop.first ∷ []) ∙ omega arith);
      all = (let q = ap (total (λ s. s.me.0.share)) c.push_reserved-2.ensures.items in let r = total_snoc (λ s. s.me.0.share) c.loop.seats.items c.loop.first in omega arith);
      passes_are = inv.5;
      links = inv.6;
    }
