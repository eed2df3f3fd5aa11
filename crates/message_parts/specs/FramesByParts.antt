-- Frames as they are put on a link, by the parts of which their buffers were made.
use Rattle.std.specs.Prelude.{◌≡◌, ℕ, ◌+◌, ◌-◌, ◌^◌, ◌<◌, ◌≤◌, List, [], ◌∷◌, ◌++◌, length}
use Rattle.io_buf.specs.Buffer.{Buffer, block_sizes, rest_sizes}

-- a message or a frame, and the lengths of the parts of a frame
pub record ParcelData : Type 0 where
  pub bytes : List ℕ
  pub parts : List ℕ

-- one on its way: what a link hasn't taken of it yet, how many bytes it took, and the lengths of its parts
pub record OutgoingData : Type 0 where
  pub left : List ℕ
  pub taken : ℕ
  pub parts : List ℕ

-- each part lies in blocks of its own, and what stands behind them too
abbrev pub part_sizes : List ℕ → ℕ → List ℕ
part_sizes [] n = block_sizes n
part_sizes (m ∷ ms) n = block_sizes m ++ part_sizes ms (n - m)

-- how many bytes parts of these lengths have
abbrev pub length_of : List ℕ → ℕ
length_of [] = 0
length_of (n ∷ ns) = n + length_of ns

-- the buffer lies so, and has all its parts
pub record LiesInParts (ps : List ℕ) (buf : Buffer) : Type 0 where
  pub sizes : buf.sizes ≡ part_sizes ps (length buf.items)
  pub parts : length_of ps ≤ length buf.items

-- the buffer is what is left of such a one of which so many bytes went, and the whole of it can be counted
pub record LiesBehindIn (ps : List ℕ) (taken : ℕ) (buf : Buffer) : Type 0 where
  pub sizes : buf.sizes ≡ rest_sizes taken (part_sizes ps (taken + length buf.items))
  pub parts : length_of ps ≤ taken + length buf.items
  pub counted : taken + length buf.items < 2 ^ 64
