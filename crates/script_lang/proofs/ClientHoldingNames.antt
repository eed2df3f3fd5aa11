-- The names that the client in hand holds, behind one more line.
use Rattle.std.proofs.Common.{◌≡◌, ℕ, Bool, true, false, not, ◌||◌, ◌&&◌, List, [], ◌∷◌, ◌++◌, filter, bytes_eq, refl, ap, sym, ◌∙◌, subst, if◌then◌else◌}
use Rattle.std.proofs.lemmas.Slice.Eq.{bytes_eq-Decides}
use Rattle.std.proofs.lemmas.Bool.Decides.{same_from_decides, Decides-like}
use Rattle.std.proofs.lemmas.List.Folds.{list_any-append}
use Rattle.std.proofs.lemmas.Map.Views.{any-filter_same}
use Rattle.std.specs.List.{list_any}
use Rattle.brpc_model.specs.LinePlaceFaults.{with_names}

-- `==` may be asked either way
pub bytes_eq-sym : (a b : List ℕ) → bytes_eq a b ≡ bytes_eq b a
bytes_eq-sym a b = same_from_decides (bytes_eq a b) (bytes_eq b a) (bytes_eq-Decides a b) (Decides-like (bytes_eq b a) sym sym (bytes_eq-Decides b a))

or_comm : (a b : Bool) → (a || (b || false)) ≡ (b || a)
or_comm true true = refl
or_comm true false = refl
or_comm false true = refl
or_comm false false = refl

or_idle : (a b : Bool) → (a ≡ true → b ≡ true) → b ≡ (a || b)
or_idle true b h = h refl
or_idle false b h = refl

-- behind a `hold`
pub holds : (name held : List ℕ) (names : List (List ℕ)) → list_any (bytes_eq held) (with_names names (name ∷ [])) ≡ (bytes_eq name held || list_any (bytes_eq held) names)
holds name held names =
    elim (list_any (bytes_eq name) names) as (λ b. list_any (bytes_eq name) names ≡ b → list_any (bytes_eq held) (if b then names else names ++ name ∷ []) ≡ (bytes_eq name held || list_any (bytes_eq held) names)) [
      | true ↦ λ e. or_idle (bytes_eq name held) _ (λ same. let P : List ℕ → Type 0 = λ n. list_any (bytes_eq n) names ≡ true in subst P ((bytes_eq-Decides name held).0 same) e)
      | false ↦ λ e. list_any-append (bytes_eq held) names (name ∷ []) ∙ ap (λ b. list_any (bytes_eq held) names || (b || false)) (bytes_eq-sym held name) ∙ or_comm _ _
    ] refl

-- behind a `drop`
pub drops : (name held : List ℕ) (names : List (List ℕ)) → list_any (bytes_eq held) (filter (λ n. not (bytes_eq name n)) names) ≡ (not (bytes_eq name held) && list_any (bytes_eq held) names)
drops name held names = any-filter_same (bytes_eq held) (λ n. not (bytes_eq name n)) (not (bytes_eq name held)) (λ k e. ap (λ n. not (bytes_eq name n)) (sym ((bytes_eq-Decides held k).0 e))) names
