use Rattle.std.proofs.Common.{refl, ap}
use Rattle.corr_core.specs.IdSlotWord.{parts}
use Rattle.corr_id.proofs.TokensOfIdCalls.{quiet_none, quiet_more, found_noted, noted_now, locked_next, locked_fits, got_lock}
use Rattle.corr_id.proofs.table.IdTable.try_lock.Goals as goal

pub returns-then-found-from-clause-lost : goal.returns-then-found-from-clause-lost
returns-then-found-from-clause-lost g c = let b = c.lock_id-found.ensures.lost c.if-found-from.true in let v = c.args.seat.now.me.0 in (
  quiet_more c.args.at v v c.lock_id-found.new.seat.me.0 _ (quiet_none v) b refl,
  found_noted c.args.at c.lock_id-found.result v c.lock_id-found.new.seat.me.0 b,
)

pub take_call-requires-clause-fits : goal.take_call-requires-clause-fits
take_call-requires-clause-fits g c = let e = (c.lock_id-next.ensures.won refl).0 in let none_ = c.lock_id-found.ensures.none_queued c.if-found-from.false in
    locked_fits (parts c.args.from) (parts c.lock_id-next.result.next) e (c.lock_id-found.ensures.won c.if-found-from.false).0 none_.0 none_.1

pub take_call-requires-clause-lock : goal.take_call-requires-clause-lock
take_call-requires-clause-lock g c = let e = (c.lock_id-next.ensures.won refl).0 in let h = (c.lock_id-found.ensures.won c.if-found-from.false).1 in
    (h.0, locked_next c.lock_id-found.new.seat.me.0 c.args.at (parts c.args.from) (parts c.lock_id-next.result.next) h.0 e h.1.tokens)

pub returns-clause-locked : goal.returns-clause-locked
returns-clause-locked g c = let e = (c.lock_id-next.ensures.won refl).0 in let h = (c.lock_id-found.ensures.won c.if-found-from.false).1 in
    let has = locked_next c.lock_id-found.new.seat.me.0 c.args.at (parts c.args.from) (parts c.lock_id-next.result.next) h.0 e h.1.tokens in let t = c.take_call.ensures.taken h.0 has in let k = c.take_call.result in (
      c.take_call.ensures.fields.0,
      got_lock c.args.at c.args.at c.args.seat.now.me.0 c.args.seat.now.me.0 c.lock_id-found.new.seat.me.0 c.take_call.new.seat.me.0 c.args.from (parts c.lock_id-next.result.next) (parts k.word.0) h.0 k.content refl (ap (λ y. parts y.0) c.take_call.ensures.fields.1) t.0
          (quiet_none c.args.seat.now.me.0) c.requires.from.1 c.requires.from.0 (c.lock_id-found.ensures.latest c.if-found-from.false) (c.lock_id-found.ensures.reached c.if-found-from.false) h.1 t.1 e,
    )

pub returns-then-found-from-clause-lost_now : goal.returns-then-found-from-clause-lost_now
returns-then-found-from-clause-lost_now g c = noted_now c.args.at c.lock_id-found.result c.args.seat.now.me.0 c.lock_id-found.new.seat.me.0 (c.lock_id-found.ensures.lost c.if-found-from.true)
