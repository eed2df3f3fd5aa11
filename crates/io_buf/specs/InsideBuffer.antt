-- The fields of an `IoBuf`.
use Rattle.std.specs.Prelude.{◌≡◌, ◌-◌, ◌^◌, ◌≤◌, length, map, All}
use Rattle.std.specs.List.{concat}
use Rattle.io_buf.specs.Buffer.{Buffer, IsPiece}
use Rattle.io_buf.specs.declared.buf.IoBuf.TheInside.{Inside}

abbrev pub buffer_view : Inside → Buffer
buffer_view b = record { items = concat b.pieces.items; sizes = map length b.pieces.items; spare = b.pieces.capacity - length b.pieces.items }

-- each reference has a byte, the length is kept, and there are few enough references that it fits
pub record IsBuffer (b : Inside) : Type 0 where
  pub pieces : All IsPiece b.pieces.items
  pub len : b.len ≡ length (concat b.pieces.items)
  pub few : b.pieces.capacity ≤ 2 ^ 50
  pub fits : length b.pieces.items ≤ b.pieces.capacity
