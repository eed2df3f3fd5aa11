-- One place word more.
use Rattle.std.proofs.Common.{◌≡◌, ℕ, zero, suc, ◌+◌, List, [], ◌∷◌, ◌++◌, map, slice_index, ap, sym, ◌∙◌, arith}
use Rattle.sock_words.specs.declared.plain.Plan.{Plan}
use Rattle.sock_words.specs.declared.place_word.PlaceWord.{PlaceWord}
use Rattle.sock_model.specs.SocketTableLayout.{place_index}
use Rattle.seat_programs.specs.ScheduledRuns.{from_to}

map_one_more : {A : Type 0} (f : ℕ → A) (a n : ℕ) → map f (from_to a (n + 1)) ≡ map f (from_to a n) ++ f (a + n) ∷ []
map_one_more f a zero = let e : a ≡ a + 0 = omega arith in ap (λ k. f k ∷ []) e
map_one_more f a (suc n) =
    let e : a + 1 + n ≡ a + suc n = omega arith in
    let more : suc n + 1 ≡ suc (n + 1) = omega arith in
    rw more (ap (λ (l : List _). f a ∷ l) (map_one_more f (a + 1) n ∙ ap (λ k. map f (from_to (a + 1) n) ++ f k ∷ []) e))

-- the place word of this number
abbrev pub word_of_place : Plan → List ℕ → ℕ → PlaceWord
word_of_place p words k = record { 0 = slice_index words (place_index p k) }

pub places_last : (p : Plan) (words : List ℕ) (n : ℕ) (ws : List PlaceWord) (w : PlaceWord) → ws ≡ map (word_of_place p words) (from_to 0 n) → w.0 ≡ slice_index words (place_index p n) →
    ws ++ w ∷ [] ≡ map (word_of_place p words) (from_to 0 (n + 1))
places_last p words n ws w are is =
    let e : n ≡ 0 + n = omega arith in
    (λ i. are i ++ (record { 0 = is i }) ∷ []) ∙ (ap (λ k. map (word_of_place p words) (from_to 0 n) ++ word_of_place p words k ∷ []) e ∙ sym (map_one_more (word_of_place p words) 0 n))
