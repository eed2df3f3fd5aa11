-- A word is what its parts are packed into.
use Rattle.std.proofs.Common.{◌≡◌, ◌≢◌, ℕ, ◌+◌, ◌*◌, ◌/◌, ◌%◌, ◌==◌, Bool, true, false, cond, if◌then◌else◌, refl, ap, sym, ◌∙◌, arith}
use Rattle.std.proofs.lemmas.Bool.{eqb-true, eqb-false, eq-eqb, ne_eqb}
use Rattle.corr_core.specs.IdSlotWord.{Parts, parts, locked_word, posted_word}
use Rattle.seat_programs.specs.PostPrograms.{packed}
use Rattle.call_slots.specs.WordOfStep.{left_by}

pub packed_parts : (w : ℕ) → packed (parts w) ≡ w
packed_parts w =
    let a : w ≡ w / 32768 * 32768 + w % 32768 = omega arith in
    let b : w / 32768 ≡ w / 1073741824 * 32768 + w / 32768 % 32768 = omega arith in
    let c : w / 1073741824 ≡ w / 8589934592 * 8 + w / 1073741824 % 8 = omega arith in
    let d : w / 8589934592 ≡ w / 68719476736 * 8 + w / 8589934592 % 8 = omega arith in
    let e : w / 68719476736 ≡ w / 274877906944 * 4 + w / 68719476736 % 4 = omega arith in
    omega (arith, a, b, c, d, e)

-- what an exchange leaves, by what a step says of it
pub left_is : (found from next : ℕ) (w : Parts) → (found ≡ from → parts next ≡ w) → (found ≢ from → next ≡ found) → next ≡ left_by from (packed w) found
left_is found from next w won lost = by (found == from) refl
  where
    by : (b : Bool) → (found == from) ≡ b → next ≡ left_by from (packed w) found
    by true e = sym (packed_parts next) ∙ ap packed (won (eqb-true found from e)) ∙ sym (ap (λ b. if b then packed w else found) e)
    by false e = lost (eqb-false found from e) ∙ sym (ap (λ b. if b then packed w else found) e)

abbrev pub queued_word : Parts → ℕ → Parts
queued_word w e = record { first = w.first; state = 2; range = w.range; attempt = w.attempt; oldest = cond (w.oldest == 0) e w.oldest; second = cond (w.oldest == 0) 0 e }

-- an open id is locked by a post, whatever the error; a locked one has it queued
pub posted_open : (w : Parts) (e : ℕ) → w.state ≡ 1 → posted_word w e ≡ locked_word w
posted_open w e h = ap (λ b. cond b (locked_word w) (queued_word w e)) (eq-eqb w.state 1 h)

pub posted_locked : (w : Parts) (e : ℕ) → w.state ≢ 1 → posted_word w e ≡ queued_word w e
posted_locked w e h = ap (λ b. cond b (locked_word w) (queued_word w e)) (ne_eqb w.state 1 h)
