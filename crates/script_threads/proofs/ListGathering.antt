-- Lists that are put together one behind the other.
use Rattle.std.proofs.Common.{◌≡◌, List, [], ◌∷◌, ◌++◌, append_assoc, map, refl, sym, ap, ◌∙◌}
use Rattle.std.specs.List.{flat_map}

-- one list more was put behind those before
pub gathered_more : {A B : Type 0} (f : A → List B) (all more : List B) (left rest : List A) (x : A) (whole : List B) → all ++ flat_map f left ≡ whole → left ≡ x ∷ rest → more ≡ all ++ f x → more ++ flat_map f rest ≡ whole
gathered_more f all more left rest x whole h l m = ap (λ ys. ys ++ flat_map f rest) m ∙ (append_assoc all (f x) (flat_map f rest) ∙ (sym (ap (λ xs. all ++ flat_map f xs) l) ∙ h))

pub flat_of : {A B : Type 0} (f : A → List B) (xs : List A) → flat_map (λ (l : List B). l) (map f xs) ≡ flat_map f xs
flat_of f [] = refl
flat_of f (x ∷ xs) = ap (λ l. f x ++ l) (flat_of f xs)
