-- One name or two, as a list.
use Rattle.std.specs.Prelude.{ℕ, List, [], ◌∷◌, Option, Some, None}

-- the first name, and the second where there is one
abbrev pub name_list : List ℕ → Option (List ℕ) → List (List ℕ)
name_list first None = first ∷ []
name_list first (Some second) = first ∷ second ∷ []
