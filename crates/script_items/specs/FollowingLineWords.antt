-- Pieces that follow.
use Rattle.std.specs.Prelude.{◌≡◌, ◌==◌, ℕ, Bool, true, List, [], ◌∷◌}

-- there is a first piece
abbrev pub HasFirst : List (List ℕ) → Type 0
HasFirst pieces = (first : List ℕ) × (others : List (List ℕ)) × (pieces ≡ first ∷ others)

-- a line says nothing where it is empty or begins with `#`
abbrev pub says_nothing : List ℕ → Bool
says_nothing [] = true
says_nothing (b ∷ bytes) = b == 35
