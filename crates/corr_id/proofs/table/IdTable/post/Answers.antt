use Rattle.std.proofs.Common.{ℕ, ◌≡◌, ap, sym, refl, ◌∙◌, subst, arith}
use Rattle.corr_core.specs.IdSlotWord.{Parts, parts}
use Rattle.corr_core.specs.declared.marks.Note.TheVariants.{Queued}
use Rattle.corr_id.specs.SeatBehindIdCalls.{FoundNow, FoundUpTo, GotLock}
use Rattle.corr_id.specs.PostAnswers.{IsTimely}
use Rattle.corr_id.proofs.TokensOfIdCalls.{found_noted, noted_now, now_quiet, now_grows, found_grows, up_to_more, became_grows, quiet_none, quiet_more, queued_did, error_is, was_two, got_after}
use Rattle.corr_id.proofs.table.IdTable.post.Goals as goal

pub tries-init : goal.tries-init
tries-init g c = let at = c.in-Some.at in let u = c.args.seat.now.me.0 in let w = c.load_id_word-found.new.seat.me.0 in let saw = c.load_id_word-found.ensures.saw in record {
  can_go = tt;
  is_finite = tt;
  same_table = c.load_id_word-found.ensures.seat.0;
  same_id = c.load_id_word-found.ensures.seat.1;
  same_slots = c.load_id_word-found.ensures.seat.2;
  quiet = quiet_more at u u w _ (quiet_none u) saw refl;
  found = found_noted at c.load_id_word-found.result u w saw;
  now = noted_now at c.load_id_word-found.result u w saw;
}

pub returns-then-now-found-clause-posted : goal.returns-then-now-found-clause-posted
returns-then-now-found-clause-posted g c = rw (← c.in-Some.ensures.some.0, ← c.version-own.ensures) (let at = c.in-Some.at in let u = c.args.seat.now.me.0 in let v = c.tries.seat.me.0 in let w = c.queue_id-now.new.seat.me.0 in let n = c.tries.found in
    let b = c.queue_id-now.ensures.won c.if-now-found.true in let has = c.lacks_id.ensures.has c.if-lacks_id.false in
    let first : (parts n).first ≡ c.version-own.result = has.0 in
    let two : (parts n).state ≡ 2 = was_two (parts n).state has.1 (λ e. c.if-state-eq-OPEN.false (c.state.ensures ∙ e)) in
    let room : (parts n).second ≡ 0 = sym c.second.ensures ∙ c.if-second-ne0.false in (
      queued_did at u v w (parts n).first c.version-own.result c.error_bits-error.result _ c.tries.invariant.quiet b first (error_is c.args.attempt c.error_bits-error.result c.args.code c.error_bits-error.ensures.2),
      (
        n,
        (
          found_grows at n v w (became_grows at v w _ _ b) c.tries.invariant.found,
          (first, omega arith),
          two,
          room,
          c.is_stale.ensures.timely c.if-is_stale.false,
          subst (λ (y : ℕ). FoundUpTo at y w) first (up_to_more at (parts n).first v w _ (Queued (parts n).first c.error_bits-error.result) b (λ z. refl) (c.queue_id-now.ensures.latest c.if-now-found.true)),
        ),
      ),
    ))

pub tries-preserved : goal.tries-preserved
tries-preserved g c = let at = c.in-Some.at in let u = c.args.seat.now.me.0 in let v = c.tries.seat.me.0 in let w = c.queue_id-now.new.seat.me.0 in let b = c.queue_id-now.ensures.lost c.if-now-found.false in record {
  can_go = tt;
  is_finite = tt;
  same_table = c.queue_id-now.ensures.seat.0 ∙ c.tries.invariant.same_table;
  same_id = c.queue_id-now.ensures.seat.1 ∙ c.tries.invariant.same_id;
  same_slots = c.queue_id-now.ensures.seat.2 ∙ c.tries.invariant.same_slots;
  quiet = quiet_more at u v w _ c.tries.invariant.quiet b refl;
  found = found_noted at c.queue_id-now.result v w b;
  now = now_quiet at c.queue_id-now.result u v w c.tries.invariant.quiet (noted_now at c.queue_id-now.result v w b);
}

pub returns-in-Ok-clause-posted : goal.returns-in-Ok-clause-posted
returns-in-Ok-clause-posted g c = rw (← c.in-Some.ensures.some.0, ← c.version-own.ensures) (let at = c.in-Some.at in let u = c.args.seat.now.me.0 in let v = c.tries.seat.me.0 in let w = c.try_lock.new.seat.me.0 in let n = c.tries.found in
    let has = c.lacks_id.ensures.has c.if-lacks_id.false in let h = c.in-Ok.ensures.locked in let k = c.in-Ok.lock in (
      h.0,
      omega (arith, h.0, c.in-Some.ensures.some.1),
      ap (λ (y : Parts). y.first) h.1.word_is ∙ has.0,
      subst (λ (y : ℕ). IsTimely c.args.attempt y) (sym (ap (λ (y : Parts). y.attempt) h.1.word_is)) (c.is_stale.ensures.timely c.if-is_stale.false),
      (n, subst (λ (z : ℕ). GotLock z u w n (parts k.word.0) k.content) (sym h.0) (got_after at u v w n (parts k.word.0) k.content c.tries.invariant.quiet h.1)),
    ))

pub returns-in-Ok-clause-found_now : goal.returns-in-Ok-clause-found_now
returns-in-Ok-clause-found_now g c = let at = c.in-Some.at in let u = c.args.seat.now.me.0 in let v = c.tries.seat.me.0 in let w = c.try_lock.new.seat.me.0 in let n = c.tries.found in let h = c.in-Ok.ensures.locked in (
  n,
  subst (λ (z : ℕ). FoundNow z n u w) (sym h.0) (now_grows at n u v w h.1.did.grows c.tries.invariant.now),
  h.1.was_open,
  h.1.word_is,
)

pub returns-then-now-found-clause-found_now : goal.returns-then-now-found-clause-found_now
returns-then-now-found-clause-found_now g c = rw (← c.in-Some.ensures.some.0, ← c.version-own.ensures) (let at = c.in-Some.at in let u = c.args.seat.now.me.0 in let v = c.tries.seat.me.0 in let w = c.queue_id-now.new.seat.me.0 in let n = c.tries.found in
    let b = c.queue_id-now.ensures.won c.if-now-found.true in let has = c.lacks_id.ensures.has c.if-lacks_id.false in
    let first : (parts n).first ≡ c.version-own.result = has.0 in (
      n,
      now_grows at n u v w (became_grows at v w _ _ b) c.tries.invariant.now,
      (
        found_grows at n v w (became_grows at v w _ _ b) c.tries.invariant.found,
        (first, omega arith),
        was_two (parts n).state has.1 (λ e. c.if-state-eq-OPEN.false (c.state.ensures ∙ e)),
        sym c.second.ensures ∙ c.if-second-ne0.false,
        c.is_stale.ensures.timely c.if-is_stale.false,
        subst (λ (y : ℕ). FoundUpTo at y w) first (up_to_more at (parts n).first v w _ (Queued (parts n).first c.error_bits-error.result) b (λ z. refl) (c.queue_id-now.ensures.latest c.if-now-found.true)),
      ),
    ))
