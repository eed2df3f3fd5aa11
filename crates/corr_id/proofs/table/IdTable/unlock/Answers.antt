use Rattle.std.proofs.Common.{ℕ, ◌≡◌, ◌<◌, sym, ap, ◌∙◌, subst}
use Rattle.corr_core.specs.IdSlotWord.{parts}
use Rattle.corr_core.specs.declared.marks.Hand.TheVariants.{Empty}
use Rattle.corr_core.specs.declared.marks.Token.TheVariants.{Locked}
use Rattle.corr_id.specs.Unlocks.{stale}
use Rattle.corr_id.proofs.Measures.{timely, lost_less, won_less}
use Rattle.corr_id.proofs.UnlockingExchanges.{stepped_first, stepped_lost, stepped_next, before_first, before_lost, before_next, replaced, opened_all, next_answer}
use Rattle.corr_id.proofs.table.IdTable.unlock.Goals as goal

pub unreachable-requires : goal.unreachable-requires
unreachable-requires g c = let w = parts c.args.lock.word.0 in let x = c.args.lock.content in c.in_default.not-None (c.move_call-nothing.ensures.moved (Locked w.first w.range w.attempt x w.oldest w.second Empty) c.requires.lock.1).0

pub tries-init : goal.tries-init
tries-init g c = let w = parts c.args.lock.word.0 in let x = c.args.lock.content in let u = c.args.seat.now.me.0 in let m = c.move_call-nothing.ensures.moved (Locked w.first w.range w.attempt x w.oldest w.second Empty) c.requires.lock.1 in record {
  same_table = c.move_call-nothing.ensures.seat.0;
  same_id = c.move_call-nothing.ensures.seat.1;
  same_slots = c.move_call-nothing.ensures.seat.2;
  stepped = stepped_first u c.args.lock.slot w x c.args.advance c.move_call-nothing.new.seat.me.0 c.args.lock.is_locked c.args.lock.fits c.args.lock.in_order c.requires.room m.1;
  before = before_first u c.args.lock.slot w x c.args.advance c.move_call-nothing.new.seat.me.0 _ c.args.lock.is_locked c.args.lock.in_order m.1;
}

pub unlock_id-found-requires-clause-next : goal.unlock_id-found-requires-clause-next
unlock_id-found-requires-clause-next g c = (c.tries.step, c.without_oldest-next.ensures, c.tries.invariant.stepped.room)

pub returns-then-oldest-eq0-clause-unlocked : goal.returns-then-oldest-eq0-clause-unlocked
returns-then-oldest-eq0-clause-unlocked g c =
    let u = c.args.seat.now.me.0 in let i = c.args.lock.slot in let p = parts c.args.lock.word.0 in let x = c.args.lock.content in let v = c.tries.seat.me.0 in let w = c.unlock_id-found.new.seat.me.0 in
    let s = c.tries.invariant.stepped in let n = c.tries.from in let q = parts c.without_oldest-next.result in let is = c.without_oldest-next.ensures in let b = c.unlock_id-found.ensures.won c.if-found-from.false x s.did.tokens in
    let zero : (parts n).oldest ≡ 0 = sym c.oldest-oldest.ensures ∙ c.if-oldest-eq0.true in
    (n, q, replaced u i p x c.args.advance v w n q c.tries.step s is b c.tries.invariant.before, zero, opened_all u i p x c.args.advance v w n q c.tries.step s is b zero)

pub take_call-lock-requires : goal.take_call-lock-requires
take_call-lock-requires g c =
    let u = c.args.seat.now.me.0 in let i = c.args.lock.slot in let p = parts c.args.lock.word.0 in let x = c.args.lock.content in let v = c.tries.seat.me.0 in let w = c.unlock_id-found.new.seat.me.0 in
    let s = c.tries.invariant.stepped in let n = c.tries.from in let q = parts c.without_oldest-next.result in let is = c.without_oldest-next.ensures in let b = c.unlock_id-found.ensures.won c.if-found-from.false x s.did.tokens in
    let after = stepped_next u i p x c.args.advance v w n q c.tries.step s is b (λ z. c.if-oldest-eq0.false (c.oldest-oldest.ensures ∙ z)) in record {
      seat = (c.unlock_id-found.ensures.seat.0 ∙ (c.tries.invariant.same_table ∙ c.requires.seat.0), subst (λ (n : ℕ). 0 < n) (sym (b.share ∙ s.did.share)) c.requires.seat.1);
      slot = subst (λ q. c.args.lock.slot < q.slots) (sym c.args.self.now.planned) c.requires.lock.0;
      fits = (after.fits, after.two, after.in_order);
      lock = (x, after.did.tokens);
    }

pub returns-then-not-is_thrown_away-clause-unlocked : goal.returns-then-not-is_thrown_away-clause-unlocked
returns-then-not-is_thrown_away-clause-unlocked g c =
    let u = c.args.seat.now.me.0 in let i = c.args.lock.slot in let p = parts c.args.lock.word.0 in let x = c.args.lock.content in let v = c.tries.seat.me.0 in let w = c.unlock_id-found.new.seat.me.0 in let y' = c.take_call-lock.new.seat.me.0 in
    let s = c.tries.invariant.stepped in let n = c.tries.from in let q = parts c.without_oldest-next.result in let is = c.without_oldest-next.ensures in let b = c.unlock_id-found.ensures.won c.if-found-from.false x s.did.tokens in
    let old : (parts n).oldest ≡ c.oldest-oldest.result = sym c.oldest-oldest.ensures in
    let nz = (λ (z : (parts n).oldest ≡ 0). c.if-oldest-eq0.false (sym old ∙ z)) in
    let after = stepped_next u i p x c.args.advance v w n q c.tries.step s is b nz in
    let t = c.take_call-lock.ensures.taken x after.did.tokens in let fields = c.take_call-lock.ensures.fields in
    next_answer u i p x c.args.advance v w n q c.tries.step s is b y' (parts c.take_call-lock.result.word.0) c.take_call-lock.result.slot c.take_call-lock.result.content _ c.attempt_in.result c.tries.invariant.before nz
    t.1 fields.0 (ap (λ y. parts y.0) fields.1) t.0 (old ∙ sym c.attempt_in.ensures.error)
    (timely c.attempt_in.result c.oldest-oldest.result q.attempt c.if-oldest-eq0.false c.attempt_in.ensures.error c.attempt_in.ensures.one (c.is_thrown_away.ensures.kept c.if-not-is_thrown_away.true))

pub tries-preserved-then-found-from : goal.tries-preserved-then-found-from
tries-preserved-then-found-from g c =
    let s = c.tries.invariant.stepped in let l = c.unlock_id-found.ensures.longer c.if-found-from.true in record {
      same_table = c.unlock_id-found.ensures.seat.0 ∙ c.tries.invariant.same_table;
      same_id = c.unlock_id-found.ensures.seat.1 ∙ c.tries.invariant.same_id;
      same_slots = c.unlock_id-found.ensures.seat.2 ∙ c.tries.invariant.same_slots;
      stepped = stepped_lost c.args.seat.now.me.0 c.args.lock.slot (parts c.args.lock.word.0) c.args.lock.content c.args.advance c.tries.seat.me.0 c.unlock_id-found.new.seat.me.0 (parts c.tries.from) (parts c.unlock_id-found.result) c.tries.step s
          (sym l.first_is) l.state_is (sym l.range_is) (sym l.attempt_is) l.begins.2 (c.unlock_id-found.ensures.lost c.if-found-from.true c.args.lock.content s.did.tokens);
      before = before_lost c.args.seat.now.me.0 c.args.lock.slot (parts c.args.lock.word.0) c.args.lock.content c.args.advance c.tries.seat.me.0 c.unlock_id-found.new.seat.me.0 _ (parts c.tries.from) (parts c.unlock_id-found.result) c.tries.invariant.before l
          (c.unlock_id-found.ensures.lost c.if-found-from.true c.args.lock.content s.did.tokens);
    }

pub tries-smaller-then-found-from : goal.tries-smaller-then-found-from
tries-smaller-then-found-from g c = let s = c.tries.invariant.stepped in
    lost_less c.tries.from c.unlock_id-found.result c.tries.step c.if-found-from.true s.two s.in_order (c.unlock_id-found.ensures.longer c.if-found-from.true) (c.unlock_id-found.ensures.fresh c.if-found-from.true)

pub tries-preserved : goal.tries-preserved
tries-preserved g c =
    let u = c.args.seat.now.me.0 in let i = c.args.lock.slot in let p = parts c.args.lock.word.0 in let x = c.args.lock.content in let v = c.tries.seat.me.0 in let w = c.unlock_id-found.new.seat.me.0 in
    let s = c.tries.invariant.stepped in let n = c.tries.from in let q = parts c.without_oldest-next.result in let is = c.without_oldest-next.ensures in let b = c.unlock_id-found.ensures.won c.if-found-from.false x s.did.tokens in record {
      same_table = c.unlock_id-found.ensures.seat.0 ∙ c.tries.invariant.same_table;
      same_id = c.unlock_id-found.ensures.seat.1 ∙ c.tries.invariant.same_id;
      same_slots = c.unlock_id-found.ensures.seat.2 ∙ c.tries.invariant.same_slots;
      stepped = stepped_next u i p x c.args.advance v w n q c.tries.step s is b (λ z. c.if-oldest-eq0.false (c.oldest-oldest.ensures ∙ z));
      before = before_next u i p x c.args.advance v w n q c.tries.step s is b c.tries.invariant.before (λ z. c.if-oldest-eq0.false (c.oldest-oldest.ensures ∙ z))
          (subst (λ (y : ℕ). stale q.attempt y ≡ 1) c.oldest-oldest.ensures (c.is_thrown_away.ensures.thrown c.if-not-is_thrown_away.false));
    }

pub tries-smaller : goal.tries-smaller
tries-smaller g c = let n = c.tries.from in let q = parts c.without_oldest-next.result in
    let old : (parts n).oldest ≡ c.oldest-oldest.result = sym c.oldest-oldest.ensures in
    won_less (parts n) q c.tries.step c.without_oldest-next.ensures (λ z. c.if-oldest-eq0.false (sym old ∙ z)) (subst (λ (y : ℕ). stale q.attempt y ≡ 1) (sym old) (c.is_thrown_away.ensures.thrown c.if-not-is_thrown_away.false))
