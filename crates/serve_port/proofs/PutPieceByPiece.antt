-- Bytes that are put piece by piece.
use Rattle.std.proofs.Common.{◌≡◌, ℕ, ◌≤◌, List, [], ◌++◌, length, take, drop, Option, Some, None, refl, sym, ap, ◌∙◌, arith, append_assoc, append-nil, length-take}
use Rattle.std.specs.Io.KnownBytes.{append_known}
use Rattle.std.proofs.lemmas.List.{take-append-drop, take-take}

-- known bytes grow by one piece and then by another
pub known_more : (o p q : Option (List ℕ)) (a b : List ℕ) → p ≡ append_known o a → q ≡ append_known p b → q ≡ append_known o (a ++ b)
known_more None p q a b e f = f ∙ ap (λ x. append_known x b) e
known_more (Some xs) p q a b e f = f ∙ ap (λ x. append_known x b) e ∙ ap Some (append_assoc xs a b)

pub known_none : (o : Option (List ℕ)) → o ≡ append_known o []
known_none None = refl
known_none (Some xs) = ap Some (sym (append-nil xs))

-- one more front of the first piece of what is left
pub put_more : (part left rest all piece : List ℕ) (n k : ℕ) → part ++ left ≡ all → piece ≡ take k left → n ≤ length piece → rest ≡ drop n left → (part ++ take n piece) ++ rest ≡ all
put_more part left rest all piece n k e p few r =
    let within : n ≤ k = omega (arith, few, ap length p, length-take k left) in
    let same : take n piece ≡ take n left = ap (take n) p ∙ take-take n k left within in
    ap (λ x. (part ++ x) ++ rest) same ∙ ap (λ x. (part ++ take n left) ++ x) r ∙ append_assoc part (take n left) (drop n left) ∙ ap (λ x. part ++ x) (take-append-drop n left) ∙ e
