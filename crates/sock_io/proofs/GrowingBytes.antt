-- Known bytes that grow piece by piece.
use Rattle.std.proofs.Common.{◌≡◌, ℕ, List, ◌++◌, take, drop, Option, Some, None, ap, ◌∙◌, append_assoc}
use Rattle.std.specs.Io.KnownBytes.{Appends}
use Rattle.std.proofs.lemmas.List.{take-append-drop}

-- one more piece of a list that is taken from its front
pub front_grows : (done rest all : List ℕ) (n : ℕ) → done ++ rest ≡ all → (done ++ take n rest) ++ drop n rest ≡ all
front_grows done rest all n e = append_assoc done (take n rest) (drop n rest) ∙ ap (λ x. done ++ x) (take-append-drop n rest) ∙ e

pub Appends-append : (o p q : Option (List ℕ)) (a b : List ℕ) → Appends o p a → Appends p q b → Appends o q (a ++ b)
Appends-append None p q a b e f = tt
Appends-append (Some xs) None q a b e f = absurd e
Appends-append (Some xs) (Some ys) None a b e f = absurd f
Appends-append (Some xs) (Some ys) (Some zs) a b e f = f ∙ ap (λ x. x ++ b) e ∙ append_assoc xs a b
