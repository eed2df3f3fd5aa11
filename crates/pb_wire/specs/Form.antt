-- The wire form as a relation between bytes and what they spell, whatever the order they are read in.
use Rattle.std.specs.Prelude.{ℕ, ◌≡◌, ◌+◌, ◌*◌, ◌%◌, ◌^◌, ◌<◌, ◌≤◌, List, [], ◌∷◌, ◌++◌, length}
use Rattle.std.specs.List.{All}
use Rattle.brpc_model.specs.Wire.{low_first, least_first, Value, Varint, Eight, Span, Four, Field}

-- these bytes spell this number as a varint: each but the last is followed by another, there are at most ten,
-- and the bits past the 64th are dropped
pub record IsVarint (bytes : List ℕ) (n : ℕ) : Type 0 where
  pub front : List ℕ
  pub last : ℕ
  pub parts : bytes ≡ front ++ last ∷ []
  pub followed : All (λ b. 128 ≤ b) front
  pub ends : last < 128
  pub few : length bytes ≤ 10
  pub number : n ≡ low_first bytes % 2 ^ 64

-- these bytes spell so many bytes behind their length
pub record IsSpan (bytes : List ℕ) (at from : ℕ) (inner : List ℕ) : Type 0 where
  pub size : List ℕ
  pub parts : bytes ≡ size ++ inner
  pub size_is : IsVarint size (length inner)
  pub from_is : from ≡ at + length size

-- these bytes, which begin at this place, spell this value by this wire type
abbrev pub IsValue : ℕ → ℕ → List ℕ → Value → Type 0
IsValue type at bytes (Varint n) = (type ≡ 0) × IsVarint bytes n
IsValue type at bytes (Eight n) = (type ≡ 1) × (length bytes ≡ 8) × (n ≡ least_first bytes)
IsValue type at bytes (Span from inner) = (type ≡ 2) × IsSpan bytes at from inner
IsValue type at bytes (Four n) = (type ≡ 5) × (length bytes ≡ 4) × (n ≡ least_first bytes)

-- these bytes, which begin at this place, spell this field: a key of its number and a wire type, and its value
pub record IsField (at : ℕ) (bytes : List ℕ) (f : Field) : Type 0 where
  pub type : ℕ
  pub key : List ℕ
  pub value : List ℕ
  pub parts : bytes ≡ key ++ value
  pub key_is : IsVarint key (f.number * 8 + type)
  pub numbered : 1 ≤ f.number
  pub short : f.number < 2 ^ 29
  pub value_is : IsValue type (at + length key) value f.value

-- these bytes, which begin at this place, spell these fields one after another
abbrev pub IsMessage : ℕ → List ℕ → List Field → Type 0
IsMessage at bytes [] = bytes ≡ []
IsMessage at bytes (f ∷ fs) = (first : List ℕ) × (rest : List ℕ) × (bytes ≡ first ++ rest) × IsField at first f × IsMessage (at + length first) rest fs
