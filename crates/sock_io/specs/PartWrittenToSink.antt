-- What a sink took of a text.
use Rattle.std.specs.Prelude.{ℕ, ◌≡◌, ◌++◌, List, Option}
use Rattle.std.specs.Io.KnownBytes.{Appends}

-- a beginning of the text was written, where the sink tells
abbrev pub WrotePart : Option (List ℕ) → Option (List ℕ) → List ℕ → Type 0
WrotePart before after text = (part : List ℕ) × (rest : List ℕ) × (part ++ rest ≡ text) × Appends before after part
