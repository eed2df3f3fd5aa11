use Rattle.std.proofs.Common.{◌≤◌, ℕ, Bool, true, false, ap, sym, refl, ◌∙◌, inr, ⊎_elim, subst, arith}
use Rattle.corr_core.specs.IdSlotWord.{Parts, parts, locked_word}
use Rattle.corr_id.specs.SeatBehindIdCalls.{FoundNow, GotLock}
use Rattle.corr_id.specs.LocksByAttempt.{IsOutside, IsWithin}
use Rattle.corr_id.proofs.TokensOfIdCalls.{found_noted, noted_now, now_quiet, now_grows, quiet_more, made_still, advanced_still, gone_behind, own_behind, got_after}
use Rattle.corr_id.proofs.table.IdTable.lock_within.Goals as goal

-- a word that is locked has the versions that it had
within_locked : (b : Bool) (w : Parts) (v : ℕ) → IsWithin b w v → IsWithin b (locked_word w) v
within_locked true w v within = within
within_locked false w v within = within

from_first : (b : Bool) (w : Parts) (v : ℕ) → IsWithin b w v → w.first ≤ v
from_first true w v within = let past = within.0 in omega arith
from_first false w v within = within.0

pub returns-then-is_outside-clause-gone : goal.returns-then-is_outside-clause-gone
returns-then-is_outside-clause-gone g c = rw (← c.in-Some.ensures.some.0, ← c.version-own.ensures) (let at = c.in-Some.at in let v = c.looks.seat.me.0 in let w = c.load_id_word-found.new.seat.me.0 in let saw = c.load_id_word-found.ensures.saw in (
  quiet_more at c.args.seat.now.me.0 v w _ c.looks.invariant.quiet saw refl,
  inr (found_noted at c.load_id_word-found.result v w saw, c.is_outside.ensures.out c.if-is_outside.true),
))

pub try_lock-requires-clause-from : goal.try_lock-requires-clause-from
try_lock-requires-clause-from g c = (
  sym c.state.ensures ∙ c.if-state-ne-OPEN.false,
  found_noted c.in-Some.at c.load_id_word-found.result c.looks.seat.me.0 c.load_id_word-found.new.seat.me.0 c.load_id_word-found.ensures.saw,
)

pub returns-then-is_outside-clause-ended : goal.returns-then-is_outside-clause-ended
returns-then-is_outside-clause-ended g c = rw (← c.in-Some.ensures.some.0, ← c.version-own.ensures) (λ own inside known. let at = c.in-Some.at in let v = c.version-own.result in let u = c.args.seat.now.me.0 in let q = c.looks.invariant.quiet in let found = c.load_id_word-found.ensures in
    gone_behind v (parts c.load_id_word-found.result) (⊎_elim (λ made. found.behind v (made_still at v u c.looks.seat.me.0 q made)) (λ more. found.advanced v (advanced_still at v u c.looks.seat.me.0 q more)) known)
    (subst (λ (b : Bool). IsOutside b (parts c.load_id_word-found.result) v) own (c.is_outside.ensures.out c.if-is_outside.true)))

pub returns-in-Ok-clause-of_range : goal.returns-in-Ok-clause-of_range
returns-in-Ok-clause-of_range g c = rw (← c.version-own.ensures) (let v = c.version-own.result in
    subst (λ (w : Parts). IsWithin c.args.attempt w v) (sym c.in-Ok.ensures.locked.1.word_is) (within_locked c.args.attempt (parts c.load_id_word-found.result) v (c.is_outside.ensures.within c.if-is_outside.false)))

pub returns-in-Ok-clause-own : goal.returns-in-Ok-clause-own
returns-in-Ok-clause-own g c = rw (← c.in-Some.ensures.some.0, ← c.version-own.ensures) (λ known. let v = c.version-own.result in
    ap (λ (w : Parts). w.first) c.in-Ok.ensures.locked.1.word_is
    ∙ own_behind v (parts c.load_id_word-found.result)
    (c.load_id_word-found.ensures.behind v (made_still c.in-Some.at v c.args.seat.now.me.0 c.looks.seat.me.0 c.looks.invariant.quiet known))
    (from_first c.args.attempt (parts c.load_id_word-found.result) v (c.is_outside.ensures.within c.if-is_outside.false)))

pub returns-in-Ok-clause-locked : goal.returns-in-Ok-clause-locked
returns-in-Ok-clause-locked g c = rw (← c.in-Some.ensures.some.0) (let at = c.in-Some.at in let u = c.args.seat.now.me.0 in let v = c.load_id_word-found.new.seat.me.0 in let n = c.load_id_word-found.result in let h = c.in-Ok.ensures.locked in (
  h.0,
  (
    n,
    subst (λ (z : ℕ). GotLock z u c.try_lock.new.seat.me.0 n (parts c.in-Ok.lock.word.0) c.in-Ok.lock.content) (sym h.0)
        (got_after at u v c.try_lock.new.seat.me.0 n (parts c.in-Ok.lock.word.0) c.in-Ok.lock.content (quiet_more at u c.looks.seat.me.0 v _ c.looks.invariant.quiet c.load_id_word-found.ensures.saw refl) h.1),
  ),
))

pub returns-then-is_outside-clause-gone_now : goal.returns-then-is_outside-clause-gone_now
returns-then-is_outside-clause-gone_now g c = rw (← c.in-Some.ensures.some.0) (λ inside. let at = c.in-Some.at in let v = c.looks.seat.me.0 in let w = c.load_id_word-found.new.seat.me.0 in let n = c.load_id_word-found.result in
    now_quiet at n c.args.seat.now.me.0 v w c.looks.invariant.quiet (noted_now at n v w c.load_id_word-found.ensures.saw))

pub returns-in-Ok-clause-found_now : goal.returns-in-Ok-clause-found_now
returns-in-Ok-clause-found_now g c = let at = c.in-Some.at in let u = c.args.seat.now.me.0 in let v = c.looks.seat.me.0 in let w = c.load_id_word-found.new.seat.me.0 in let x = c.try_lock.new.seat.me.0 in let n = c.load_id_word-found.result in let h = c.in-Ok.ensures.locked in (
  n,
  subst (λ (z : ℕ). FoundNow z n u x) (sym h.0) (now_grows at n u w x h.1.did.grows (now_quiet at n u v w c.looks.invariant.quiet (noted_now at n v w c.load_id_word-found.ensures.saw))),
  h.1.was_open,
  h.1.word_is,
)
