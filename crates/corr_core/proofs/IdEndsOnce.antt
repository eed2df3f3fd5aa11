-- A plain id ends at most once, and what the words do is what happens to it.
use Rattle.std.proofs.Common.{◌≡◌, ◌≢◌, ℕ, ◌+◌, ◌<◌, ◌≤◌, Bool, true, false, cond, eqb, eq-eqb, ne_eqb, List, [], ◌∷◌, ◌++◌, length, sym, refl, ap, ◌∙◌, subst, arith}
use mathlib.Core.Logic.{dite}
use native.Mathlib.Decide.{ℕ_discrete}
use Rattle.corr_core.specs.IdSlotWord.{Parts, locked_word, posted_word, unlocked_word, free_word}
use Rattle.corr_core.specs.PlainCallId.{Open, Locked, Ended, Plain, Event, Lock, Queue, Unlock, End, Happens, Run, ends, queue, unlocked, Reads, reads_open, reads_locked, reads_ended}
use Rattle.sock_words.specs.PackedWords.{bit}

-- a range that ended has no further event
pub nothing_after : (e : Event) (p q : Plain) → p.phase ≡ Ended → Happens e p q → ⊥
nothing_after (Lock who) p q h x = let y = x.0 in let z : Ended ≡ Open = sym h ∙ y in cc
nothing_after (Queue who e) p q h x = let z : Ended ≡ Locked x.0 x.1 = sym h ∙ x.2 in cc
nothing_after (Unlock who advance) p q h x = let z : Ended ≡ Locked who x.0 = sym h ∙ x.1 in cc
nothing_after (End who) p q h x = let z : Ended ≡ Locked who x.0 = sym h ∙ x.1 in cc

ended_stays : (es : List Event) (p q : Plain) → p.phase ≡ Ended → Run es p q → ends es ≡ 0
ended_stays [] p q h r = refl
ended_stays (e ∷ es) p q h r = absurd (nothing_after e p r.0 h r.1)

pub ends_once : (es : List Event) (p q : Plain) → Run es p q → ends es ≤ 1
ends_once [] p q r = omega arith
ends_once (Lock who ∷ es) p q r = let h = ends_once es r.0 q r.2 in omega arith
ends_once (Queue who e ∷ es) p q r = let h = ends_once es r.0 q r.2 in omega arith
ends_once (Unlock who advance ∷ es) p q r = let h = ends_once es r.0 q r.2 in omega arith
ends_once (End who ∷ es) p q r = let h = ended_stays es r.0 q (ap (λ (y : Plain). y.phase) r.1.2) r.2 in omega arith

-- the one that ends it had it locked
pub ends_own : (who : ℕ) (p q : Plain) → Happens (End who) p q → (es : List ℕ) × (p.phase ≡ Locked who es)
ends_own who p q h = (h.0, h.1)

-- the words and the plain id: I3 on an open id, I4 on a locked one, I5 and I6
queue_none : (o s : ℕ) → o ≡ 0 → queue o s ≡ []
queue_none o s z = ap (λ b. cond b [] (cond (eqb s 0) (o ∷ []) (o ∷ s ∷ []))) (eq-eqb o 0 z)

popped : (who o s : ℕ) → o ≢ 0 → unlocked who (queue o s) ≡ Locked who (queue s 0)
popped who o s n = ap (λ b. unlocked who (cond b [] (cond (eqb s 0) (o ∷ []) (o ∷ s ∷ [])))) (ne_eqb o 0 n) ∙ rest (eqb s 0)
  where
    rest : (b : Bool) → unlocked who (cond b (o ∷ []) (o ∷ s ∷ [])) ≡ Locked who (cond b [] (s ∷ []))
    rest true = refl
    rest false = refl

pub lock_reads : (first who : ℕ) (w : Parts) (p : Plain) → w.first ≡ first → w.state ≡ 1 → Reads first who w p → (q : Plain) × Happens (Lock who) p q × Reads first who (locked_word w) q
lock_reads first who w p same one (reads_open f s o r is) = (
  record { range = w.range; attempt = w.attempt; phase = Locked who [] },
  (ap (λ (y : Plain). y.phase) is, ap (λ (y : Plain). record { range = y.range; attempt = y.attempt; phase = Locked who [] }) (sym is)),
  reads_locked f refl (λ z. r) (λ k. record { range = w.range; attempt = w.attempt; phase = Locked who (sym (queue_none w.oldest w.second o) k) }),
)
lock_reads first who w p same one (reads_locked f s o is) = absurd (omega arith)
lock_reads first who w p same one (reads_ended lt is) = absurd (omega arith)

-- I6: the word has a later first version
pub end_reads : (first who next : ℕ) (w : Parts) (p : Plain) → w.first ≡ first → w.state ≡ 2 → first < next → Reads first who w p → (q : Plain) × Happens (End who) p q × Reads first who (free_word next) q
end_reads first who next w p same two up (reads_open f s o r is) = absurd (omega arith)
end_reads first who next w p same two up (reads_locked f s o is) = (
  record { range = w.range; attempt = w.attempt; phase = Ended },
  (queue w.oldest w.second, ap (λ (y : Plain). y.phase) is, ap (λ (y : Plain). record { range = y.range; attempt = y.attempt; phase = Ended }) (sym is)),
  reads_ended up refl,
)
end_reads first who next w p same two up (reads_ended lt is) = absurd (omega arith)

-- I5: with an error queued the oldest goes, and else the id opens
pub unlock_reads : (first who : ℕ) (advance : Bool) (w : Parts) (p : Plain) → w.first ≡ first → w.state ≡ 2 → w.attempt + bit advance + 2 ≤ w.range → Reads first who w p → (q : Plain) × Happens (Unlock who advance) p q × Reads first who (unlocked_word w (bit advance)) q
unlock_reads first who advance w p same two room (reads_open f s o r is) = absurd (omega arith)
unlock_reads first who advance w p same two room (reads_ended lt is) = absurd (omega arith)
unlock_reads first who advance w p same two room (reads_locked f s o is) =
    let q : Plain = record { range = w.range; attempt = w.attempt + bit advance; phase = unlocked who (queue w.oldest w.second) } in
    let at = ap (λ (y : Plain). y.attempt) is in let rg = ap (λ (y : Plain). y.range) is in (
      q,
      (
        queue w.oldest w.second,
        ap (λ (y : Plain). y.phase) is,
        omega arith,
        ap (λ (y : Plain). record { range = y.range; attempt = y.attempt + bit advance; phase = unlocked who (queue w.oldest w.second) }) (sym is),
      ),
      dite (ℕ_discrete w.oldest 0)
          (λ z. reads_open f (ap (λ b. cond b 1 2) (eq-eqb w.oldest 0 z)) (o z) refl (λ k. record { range = w.range; attempt = w.attempt + bit advance; phase = ap (λ l. unlocked who l) (queue_none w.oldest w.second z) k }))
          (λ n. reads_locked f (ap (λ b. cond b 1 2) (ne_eqb w.oldest 0 n)) (λ z. refl) (λ k. record { range = w.range; attempt = w.attempt + bit advance; phase = popped who w.oldest w.second n k })),
    )

-- I4 on a locked id
pub queue_reads : (first who me e : ℕ) (w : Parts) (p : Plain) → w.first ≡ first → w.state ≡ 2 → w.second ≡ 0 → e ≢ 0 → Reads first who w p → (q : Plain) × Happens (Queue me e) p q × Reads first who (posted_word w e) q
queue_reads first who me e w p same two room some_error (reads_open f s o r is) = absurd (omega arith)
queue_reads first who me e w p same two room some_error (reads_ended lt is) = absurd (omega arith)
queue_reads first who me e w p same two room some_error (reads_locked f s o is) =
    let q : Plain = record { range = w.range; attempt = w.attempt; phase = Locked who (queue w.oldest w.second ++ e ∷ []) } in
    let posted : posted_word w e ≡ record { first = w.first; state = 2; range = w.range; attempt = w.attempt; oldest = cond (eqb w.oldest 0) e w.oldest; second = cond (eqb w.oldest 0) 0 e } =
    ap (λ b. cond b (locked_word w) record { first = w.first; state = 2; range = w.range; attempt = w.attempt; oldest = cond (eqb w.oldest 0) e w.oldest; second = cond (eqb w.oldest 0) 0 e }) (ne_eqb w.state 1 (λ z. omega arith)) in
    let one : queue w.oldest w.second ≡ queue w.oldest 0 = ap (queue w.oldest) room in (
      q,
      (
        who,
        queue w.oldest w.second,
        ap (λ (y : Plain). y.phase) is,
        (let z : length (queue w.oldest w.second) ≡ length (queue w.oldest 0) = ap length one in let k = short w.oldest in omega arith),
        ap (λ (y : Plain). record { range = y.range; attempt = y.attempt; phase = Locked who (queue w.oldest w.second ++ e ∷ []) }) (sym is),
      ),
      subst (λ (y : Parts). Reads first who y q) (sym posted) (reads_locked f refl
          (λ z. dite (ℕ_discrete w.oldest 0) (λ a. ap (λ b. cond b 0 e) (eq-eqb w.oldest 0 a)) (λ a. absurd (a (sym (ap (λ b. cond b e w.oldest) (ne_eqb w.oldest 0 a)) ∙ z))))
          (λ k. record { range = w.range; attempt = w.attempt; phase = Locked who ((ap (λ l. l ++ e ∷ []) one ∙ longer w.oldest e some_error) k) })),
    )
  where
    short : (o : ℕ) → length (queue o 0) ≤ 1
    short o = elim (eqb o 0) as (λ b. length (cond b [] (o ∷ [])) ≤ 1) [ true ↦ omega arith | false ↦ omega arith ]

    longer : (o e : ℕ) → e ≢ 0 → queue o 0 ++ e ∷ [] ≡ queue (cond (eqb o 0) e o) (cond (eqb o 0) 0 e)
    longer o e n = dite (ℕ_discrete o 0)
        (λ z. let b = eq-eqb o 0 z in ap (λ y. cond y [] (o ∷ []) ++ e ∷ []) b ∙ (sym (ap (λ y. cond y [] (e ∷ [])) (ne_eqb e 0 n)) ∙ ap (λ y. queue (cond y e o) (cond y 0 e)) (sym b)))
        (λ m. let b = ne_eqb o 0 m in ap (λ y. cond y [] (o ∷ []) ++ e ∷ []) b
        ∙ (sym (ap (λ y. cond y [] (cond (eqb e 0) (o ∷ []) (o ∷ e ∷ []))) b ∙ ap (λ y. cond y (o ∷ []) (o ∷ e ∷ [])) (ne_eqb e 0 n)) ∙ ap (λ y. queue (cond y e o) (cond y 0 e)) (sym b)))
