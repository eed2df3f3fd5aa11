-- What the law says of what a step finds: a retry finds its range at its attempt, and no error of the attempt that is to be tried is queued.
use Rattle.std.proofs.Common.{◌≡◌, ◌≢◌, ℕ, ◌+◌, ◌<◌, ◌≤◌, inl, ⊎_elim, Bool, true, false, List, Option, get_or, refl, sym, ap, ◌∙◌, subst, arith}
use mathlib.Core.Option.{some}
use lib.ListN.{get_elem?}
use Rattle.corr_core.specs.IdSlotWord.{Parts, parts}
use Rattle.corr_core.specs.declared.marks.Plan.{Plan as IdPlan}
use Rattle.seat_programs.specs.id_rule.specs.LawfulIdTable as ids
use Rattle.seat_programs.specs.Asides.{LockId}
use Rattle.seat_programs.specs.Cores.{Core, waiting_at}
use Rattle.call_owing.specs.Owing.{Duty, Trying, Owing, Among, duty_tokens, MayUnlock, FindsOwe, FindsUnlock}
use Rattle.call_owing.specs.SoundOwing.{id_word_of, retry_tokens, Past, Token, ErrorPast, OwingLaw}
use Rattle.call_owing.proofs.OwedMarkChanges.{among_left}
use Rattle.sock_words.specs.PackedWords.{call_id, id_slot, id_first, bit}

module _ (q : IdPlan) (life : ℕ → Option ℕ) (calls : List ℕ) (c : Core) (us : List Owing) (i : ℕ) (u : Owing) (law : OwingLaw q life calls c us) (at : get_elem? us i ≡ some u) where
  tries : (id n : ℕ) → u.duty ≡ Trying id n → Token c us id n i
  tries id n is = (u, at, among_left id n (duty_tokens u.duty) (retry_tokens (waiting_at c.calls.waiting i)) (subst (λ (d : Duty). Among id n (duty_tokens d)) (sym is) (inl (refl, refl))))

  pub lock_finds : (s from : ℕ) → FindsOwe u (LockId s from) (get_or c.calls.words (ids.id_index s) 0)
  lock_finds s from = λ _ id n is slot first. ⊎_elim
      (λ e. absurd (let z : id_first id < (id_word_of c s).first = subst (λ k. id_first id < (id_word_of c k).first) slot e.1 in let w : ⊥ = omega (arith, z, first) in w))
      (λ a. ap (λ k. (id_word_of c k).attempt) (sym slot) ∙ a.3) (law.current id n i (tries id n is))

  module _ (s from : ℕ) (inside : s < q.slots) (is : parts from ≡ id_word_of c s) (low : (parts from).first < 4294967296) (some_ : 0 < (parts from).state) where
    slot_is : id_slot (call_id s (parts from).first) ≡ s
    slot_is = omega (arith, low)

    first_is : id_first (call_id s (parts from).first) ≡ (parts from).first
    first_is = omega (arith, low)

    word_is : id_word_of c (id_slot (call_id s (parts from).first)) ≡ parts from
    word_is = ap (id_word_of c) slot_is ∙ sym is

    oldest_past : ErrorPast us (call_id s (parts from).first) (parts from).oldest
    oldest_past = subst (λ (y : Parts). ErrorPast us (call_id s (parts from).first) y.oldest) word_is
        (law.errors (call_id s (parts from).first) (subst (λ k. k < q.slots) (sym slot_is) inside) (ap (λ (y : Parts). y.first) word_is ∙ sym first_is) (subst (λ (y : Parts). 0 < y.state) (sym word_is) some_)).0

    not_past : (advance : Bool) → MayUnlock s from advance u → Past us (call_id s (parts from).first) ((parts from).attempt + bit advance) → ⊥
    not_past true may p = ⊎_elim (λ e. let z = e.1 in let y = ap (λ (y : Parts). y.first) word_is in omega (arith, z, y, first_is)) (λ a. let z = a.3 in let y = ap (λ (y : Parts). y.attempt) word_is in omega (arith, z, y)) (law.past (call_id s (parts from).first) ((parts from).attempt + 1) p)
    not_past false may p = law.coming (call_id s (parts from).first) (parts from).attempt i (tries (call_id s (parts from).first) (parts from).attempt may) (subst (Past us (call_id s (parts from).first)) (let z : (parts from).attempt + 0 ≡ (parts from).attempt = omega arith in z) p)

    -- with what the rule of the ids says of the word of a lock
    pub unlock_finds : (found : ℕ) (advance : Bool) → MayUnlock s from advance u → (parts from).attempt + bit advance ≤ 6 → (found ≢ from → ((parts found).first ≡ (parts from).first) × ((parts found).attempt ≡ (parts from).attempt)) → FindsUnlock from advance found
    unlock_finds found advance may few longer = (low, few, longer, λ _ error same. ⊎_elim (λ whole. omega (arith, whole, same, few)) (λ p. not_past advance may (subst (Past us (call_id s (parts from).first)) same p)) (oldest_past error))
