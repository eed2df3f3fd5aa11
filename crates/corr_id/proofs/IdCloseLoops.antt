-- The loops of the close, and its lists.
use Rattle.std.proofs.Common.{◌≡◌, ◌≢◌, ℕ, zero, suc, ◌+◌, ◌<◌, ◌≤◌, Bool, true, false, List, [], ◌∷◌, map, length, get_or, set, get_or-set_other, get_or-set_same, sym, refl, ap, ◌∙◌, subst, arith}
use Rattle.std.proofs.lemmas.List.{length-map}
use Rattle.std.specs.Prelude.{Option as Maybe}
use mathlib.Core.Logic.{dite}
use mathlib.Core.Option.{some, some-injective, some-ne-none}
use native.Mathlib.Decide.{ℕ_discrete, dec_lt}
use lib.ListN.{get_elem?}
use Rattle.atomic_table.specs.Table.{Final, Seen}
use Rattle.corr_core.specs.declared.marks.Plan.{Plan}
use Rattle.corr_core.specs.declared.marks.View.{View}
use Rattle.corr_core.specs.declared.marks.Noted.{Noted}
use Rattle.corr_core.specs.declared.marks.Kept.{Kept}
use Rattle.sock_words.specs.declared.id_word.IdWord.{IdWord}
use Rattle.corr_core.specs.IdTableLayout.{id_index}
use Rattle.corr_id.specs.Ruled.{Ruled}
use Rattle.corr_id.specs.ClosingIdLists.{Closing}
use Rattle.corr_id.specs.ClosedIdTable.{AreIdWords}
use Rattle.corr_id.proofs.LastSeatOfIds.{closing}

set_false : (l : List Bool) (k : ℕ) → get_or (set l k false) k false ≡ false
set_false [] k = refl
set_false (x ∷ xs) zero = refl
set_false (x ∷ xs) (suc k) = set_false xs k

set_else : (l : List Bool) (k j : ℕ) → j ≢ k → get_or (set l k false) j false ≡ get_or l j false
set_else [] k j n = refl
set_else (x ∷ xs) zero zero n = absurd (n refl)
set_else (x ∷ xs) zero (suc j) n = refl
set_else (x ∷ xs) (suc k) zero n = refl
set_else (x ∷ xs) (suc k) (suc j) n = set_else xs k j (λ e. n (ap suc e))

pub still_full : (old new : List Bool) (k m m' : ℕ) → new ≡ set old k false → m' ≡ m → ((j : ℕ) → k ≤ j → j < m → get_or old j false ≡ true) → (j : ℕ) → k + 1 ≤ j → j < m' → get_or new j false ≡ true
still_full old new k m m' e f h j le lt = ap (λ l. get_or l j false) e ∙ (set_else old k j (λ q. omega arith) ∙ h j (omega arith) (omega arith))

pub now_empty : (old new : List Bool) (k : ℕ) → new ≡ set old k false → ((j : ℕ) → j < k → get_or old j false ≡ false) → (j : ℕ) → j < k + 1 → get_or new j false ≡ false
now_empty old new k e h j lt = dite (ℕ_discrete j k)
    (λ q. ap (λ l. get_or l j false) e ∙ (ap (λ y. get_or (set old k false) y false) q ∙ set_false old k))
    (λ n. ap (λ l. get_or l j false) e ∙ (set_else old k j n ∙ h j (omega arith)))

index_of : (l : List ℕ) (i x : ℕ) → get_elem? l i ≡ some x → get_or l i 0 ≡ x
index_of [] i x e = absurd (some-ne-none x (sym e))
index_of (y ∷ ys) zero x e = some-injective y x e
index_of (y ∷ ys) (suc i) x e = index_of ys i x e

map_set : (xs : List IdWord) (i : ℕ) (w : IdWord) → map (λ (x : IdWord). x.0) (set xs i w) ≡ set (map (λ (x : IdWord). x.0) xs) i w.0
map_set [] i w = refl
map_set (x ∷ xs) zero w = refl
map_set (x ∷ xs) (suc i) w = ap (λ l. x.0 ∷ l) (map_set xs i w)

pub one_more : (xs : List IdWord) (ys : List ℕ) (i x n : ℕ) (w : IdWord) → length xs ≡ n → i < n → get_elem? ys (id_index i) ≡ some x → w.0 ≡ x → AreIdWords i xs ys → AreIdWords (i + 1) (set xs i w) ys
one_more xs ys i x n w long lt e same h j jl = let long' = length-map xs (λ (x : IdWord). x.0) in ap (λ l. get_or l j 0) (map_set xs i w) ∙ dite (ℕ_discrete j i)
    (λ q. ap (λ y. get_or (set (map (λ (x : IdWord). x.0) xs) i w.0) y 0) q ∙ (get_or-set_same (map (λ (x : IdWord). x.0) xs) i w.0 0 (omega arith) ∙ (same ∙ (sym (index_of ys (id_index i) x e) ∙ ap (λ y. get_or ys (id_index y) 0) (sym q)))))
    (λ n'. get_or-set_other (map (λ (x : IdWord). x.0) xs) i j w.0 0 n' ∙ h j (omega arith))

-- words of 64 bits, one more of which is stored
pub low_more : (xs : List IdWord) (i n : ℕ) (w : IdWord) → length xs ≡ n → i < n → w.0 < 18446744073709551616 → ((j : ℕ) → j < i → get_or (map (λ (x : IdWord). x.0) xs) j 0 < 18446744073709551616)
    → (j : ℕ) → j < i + 1 → get_or (map (λ (x : IdWord). x.0) (set xs i w)) j 0 < 18446744073709551616
low_more xs i n w long lt low h j jl = let long' = length-map xs (λ (x : IdWord). x.0) in let is = ap (λ l. get_or l j 0) (map_set xs i w) in dite (ℕ_discrete j i)
    (λ q. let a = ap (λ y. get_or (set (map (λ (x : IdWord). x.0) xs) i w.0) y 0) q in let b = get_or-set_same (map (λ (x : IdWord). x.0) xs) i w.0 0 (omega arith) in omega (arith, is, a, b, low))
    (λ n'. let b = get_or-set_other (map (λ (x : IdWord). x.0) xs) i j w.0 0 n' in let c = h j (omega arith) in omega (arith, is, b, c))

past_all : (l : List ℕ) (j : ℕ) → length l ≤ j → get_or l j 0 ≡ 0
past_all [] j le = refl
past_all (x ∷ xs) zero le = absurd (omega arith)
past_all (x ∷ xs) (suc j) le = past_all xs j (omega arith)

-- and that are all that there are
pub low_all : (xs : List IdWord) (n : ℕ) → length xs ≤ n → ((j : ℕ) → j < n → get_or (map (λ (x : IdWord). x.0) xs) j 0 < 18446744073709551616) → (j : ℕ) → get_or (map (λ (x : IdWord). x.0) xs) j 0 < 18446744073709551616
low_all xs n long h j = dite (dec_lt j n) (h j) (λ nl. let a = past_all (map (λ (x : IdWord). x.0) xs) j (let b = length-map xs (λ (x : IdWord). x.0) in omega (arith, nl, b, long)) in omega (arith, a))

pub closes : {C : Type 0} (p : Plan) (id : ℕ) (v : View C) (ws : List ℕ) (xs : List (Maybe C)) (words : List IdWord) (notes : List (Noted C)) (kept : List Kept) → Final (Seen (Ruled p) id v) ws xs → v.share ≡ p.seats → v.tokens ≡ [] → v.notes ≡ notes → v.kept ≡ kept → AreIdWords p.slots words ws
    → Closing p notes kept (map (λ (w : IdWord). w.0) words)
closes {C} p id v ws xs words notes kept f all idle n k w =
    subst (λ (y : List Kept). Closing p notes y (map (λ (w : IdWord). w.0) words)) k (subst (λ (y : List (Noted C)). Closing p y v.kept (map (λ (w : IdWord). w.0) words)) n
    (closing p f.0 f.1.0.lawful id v f.1.1 all f.1.0.known (map (λ (w : IdWord). w.0) words) (λ i il. w i il ∙ ap (λ l. get_or l (id_index i) 0) (sym f.2)) idle))
