-- What a contract sees of a message buffer.
use Rattle.std.specs.Prelude.{◌≡◌, ℕ, ◌+◌, ◌-◌, ◌/◌, ◌%◌, ◌<◌, ◌≤◌, ◌==◌, nat_lt, if◌then◌else◌, List, [], ◌∷◌, ◌++◌, length, take, drop, sum, slice_index, replicate, refl}
use Rattle.std.specs.Coded.{Coded, code_by, coded×, coded_list, coded_ℕ}
use Rattle.io_block.specs.declared.pool.TheConstants.{BLOCK_BYTES}

-- its bytes, how many of them each reference has, and how many references can be added without memory
pub record Buffer : Type 0 where
  pub items : List ℕ
  pub sizes : List ℕ
  pub spare : ℕ

-- it is stored as the tuple of its fields
abbrev pub buffer_code : Coded Buffer
buffer_code =
    code_by (List ℕ × (List ℕ × ℕ)) (coded× (coded_list coded_ℕ) (coded× (coded_list coded_ℕ) coded_ℕ)) (λ b. (b.items, (b.sizes, b.spare)))
    (λ p. record { items = p.0; sizes = p.1.0; spare = p.1.1 }) (λ _. refl)

-- n bytes lie in whole blocks, and the rest of them in a last one
abbrev pub block_sizes : ℕ → List ℕ
block_sizes n = replicate (n / BLOCK_BYTES) BLOCK_BYTES ++ (if n % BLOCK_BYTES == 0 then [] else n % BLOCK_BYTES ∷ [])

-- the sizes of the references to the first n bytes
abbrev pub front_sizes : ℕ → List ℕ → List ℕ
front_sizes n [] = []
front_sizes n (s ∷ sizes) = if n == 0 then [] else if nat_lt n s then n ∷ [] else s ∷ front_sizes (n - s) sizes

-- the sizes of the references without the first n bytes
abbrev pub rest_sizes : ℕ → List ℕ → List ℕ
rest_sizes n [] = []
rest_sizes n (s ∷ sizes) = if n == 0 then s ∷ sizes else if nat_lt n s then (s - n) ∷ sizes else rest_sizes (n - s) sizes

-- the bytes of the reference at a place
abbrev pub piece_at : Buffer → ℕ → List ℕ
piece_at b place = take (slice_index b.sizes place) (drop (sum (take place b.sizes)) b.items)

-- what one reference may have: at least one byte, and at most a block
abbrev pub IsPiece : List ℕ → Type 0
IsPiece piece = (0 < length piece) × (length piece ≤ BLOCK_BYTES)

-- how many bytes one reference may have
abbrev pub IsSize : ℕ → Type 0
IsSize n = (0 < n) × (n ≤ BLOCK_BYTES)

-- new is old with the piece at its end, which took one of the spare references
pub record AddsPiece (old new : Buffer) (piece : List ℕ) : Type 0 where
  pub items : new.items ≡ old.items ++ piece
  pub sizes : new.sizes ≡ old.sizes ++ length piece ∷ []
  pub spare : new.spare + 1 ≡ old.spare

-- new is old with the piece in front, which took one of the spare references
pub record PutsPieceFirst (old new : Buffer) (piece : List ℕ) : Type 0 where
  pub items : new.items ≡ piece ++ old.items
  pub sizes : new.sizes ≡ length piece ∷ old.sizes
  pub spare : new.spare + 1 ≡ old.spare

-- new is old without its last piece, and a front of old that ends in that piece is new and a part of it
pub record TakesLast (old new : Buffer) (piece : List ℕ) : Type 0 where
  pub items : old.items ≡ new.items ++ piece
  pub sizes : old.sizes ≡ new.sizes ++ length piece ∷ []
  pub spare : new.spare ≡ old.spare + 1
  pub fronts : (m : ℕ) → front_sizes (length new.items + m) old.sizes ≡ new.sizes ++ front_sizes m (length piece ∷ [])

-- new has at least one byte less than old, at most n less, and place for as many references
pub record IsShorter (old new : Buffer) (n : ℕ) : Type 0 where
  pub less : length new.items < length old.items
  pub at_most : length old.items ≤ length new.items + n
  pub spare : new.spare + length new.sizes ≡ old.spare + length old.sizes
