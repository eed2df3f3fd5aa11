-- The words and the seats of a new table.
use Rattle.std.proofs.Common.{◌≡◌, ℕ, zero, suc, ◌+◌, ◌<◌, ◌≤◌, List, [], ◌∷◌, ◌++◌, length, length-set, get_or, set, get_or-set_other, get_or-set_same, replicate, refl, sym, ap, ◌∙◌, subst, arith}
use Rattle.std.specs.Prelude.{Option as Maybe}
use mathlib.Core.Logic.{dite}
use native.Mathlib.Decide.{ℕ_discrete}
use Rattle.atomic_table.specs.Seated.{TableId}
use Rattle.atomic_table.specs.declared.shared.Seat.{Seat}
use Rattle.corr_core.specs.IdSlotWord.{parts, free_word}
use Rattle.corr_core.specs.declared.marks.Plan.{Plan}
use Rattle.corr_core.specs.declared.marks.View.{View}
use Rattle.sock_words.specs.PackedWords.{IsIdWord}
use Rattle.corr_core.specs.IdTableLayout.{tag_index, id_index, all_words}
use Rattle.id_rule.specs.LawfulIdTable.{Unused, newcomer}
use Rattle.corr_id.specs.IdTableOpening.{AreNew}

-- the first n slots have their words
pub record Begun (p : Plan) (n : ℕ) (ws : List ℕ) : Type 0 where
  pub sized : length ws ≡ all_words p
  pub ids : (i : ℕ) → i < n → parts (get_or ws (id_index i) 0) ≡ free_word 1
  pub zeros : (x : ℕ) → ((i : ℕ) → i < n → ¬ (x ≡ id_index i)) → get_or ws x 0 ≡ 0

zeros_of : ℕ → List ℕ
zeros_of n = replicate n 0

zero_at : (n x : ℕ) → get_or (zeros_of n) x 0 ≡ 0
unfolding zeros_of
zero_at zero x = refl
zero_at (suc n) zero = refl
zero_at (suc n) (suc x) = zero_at n x

length_zeros : (n : ℕ) → length (zeros_of n) ≡ n
unfolding zeros_of
length_zeros zero = refl
length_zeros (suc n) = ap suc (length_zeros n)

pub none_begun : (p : Plan) (n : ℕ) (ws : List ℕ) → ws ≡ replicate n 0 → n ≡ all_words p → Begun p 0 ws
unfolding zeros_of
none_begun p n ws is e = record { sized = ap length is ∙ (length_zeros n ∙ e); ids = λ i il. absurd (omega arith); zeros = λ x h. ap (λ l. get_or l x 0) is ∙ zero_at n x }

pub free_parts : (w : ℕ) → IsIdWord w 1 0 1 0 0 0 → parts w ≡ free_word 1
free_parts w h = λ z. record { first = h.first_is z; state = h.state_is z; range = h.range_is z; attempt = h.attempt_is z; oldest = h.oldest_is z; second = h.second_is z }

pub one_begun : (p : Plan) (i word : ℕ) (ws vs : List ℕ) → vs ≡ set ws (id_index i) word → parts word ≡ free_word 1 → i < p.slots → Begun p i ws → Begun p (i + 1) vs
one_begun p i word ws vs is w il b = let size = b.sized in record {
  sized = ap length is ∙ (length-set ws (id_index i) word ∙ b.sized);
  ids = λ j jl. ap (λ l. parts (get_or l (id_index j) 0)) is ∙ dite (ℕ_discrete j i)
      (λ e. subst (λ (x : ℕ). parts (get_or (set ws (id_index i) word) (id_index x) 0) ≡ free_word 1) (sym e) (ap parts (get_or-set_same ws (id_index i) word 0 (omega arith)) ∙ w))
      (λ ne. ap parts (get_or-set_other ws (id_index i) (id_index j) word 0 (λ q. ne (omega arith))) ∙ b.ids j (omega arith));
  zeros = λ x h. ap (λ l. get_or l x 0) is ∙ (get_or-set_other ws (id_index i) x word 0 (λ q. h i (omega arith) q) ∙ b.zeros x (λ j jl. h j (omega arith)));
}

pub all_begun : (p : Plan) (n : ℕ) (ws : List ℕ) → p.slots ≤ n → n ≤ p.slots → Begun p n ws → Unused p ws
all_begun p n ws le ge b = record {
  sized = b.sized;
  tags = λ i il. b.zeros (tag_index i) (λ j jl q. omega arith);
  ids = λ i il. b.ids i (omega arith);
  rest = λ x le. b.zeros x (λ i il q. omega arith);
}

module _ {C : Type 0} where
  pub new_snoc : (z : TableId) (xs : List (Seat (Maybe C) (View C))) (x : Seat (Maybe C) (View C)) → AreNew z xs → (x.table_id ≡ z) × (x.me ≡ (newcomer, [])) → AreNew z (xs ++ x ∷ [])
  new_snoc z [] x h k = (k, tt)
  new_snoc z (y ∷ ys) x h k = (h.0, new_snoc z ys x h.1 k)

  -- the seat that stands for so many
  abbrev pub stands_for : ℕ → View C
  stands_for n = record { tokens = []; notes = []; kept = []; share = n }
