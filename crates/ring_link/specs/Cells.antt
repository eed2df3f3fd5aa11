-- What lies in a ring: the bytes of one direction of a link, and behind them the mark that ends or closes it.
use Rattle.std.specs.Prelude.{ℕ, ◌≡◌, List, [], ◌∷◌, ◌++◌, map}
use Rattle.sock_io.specs.declared.ending.Ending.{Ending}
use Rattle.sock_io.specs.declared.ending.Ending.TheVariants as ending
use Rattle.ring_link.specs.declared.cell.Cell.{Cell}
use Rattle.ring_link.specs.declared.cell.Cell.TheVariants as cell

-- the byte, or 0 of a mark
abbrev pub byte_in : Cell → ℕ
byte_in (cell.Byte b) = b
byte_in cell.Ended = 0
byte_in cell.Closed = 0

-- the bytes in front of the first mark
abbrev pub bytes_of : List Cell → List ℕ
bytes_of [] = []
bytes_of (cell.Byte b ∷ cells) = b ∷ bytes_of cells
bytes_of (cell.Ended ∷ cells) = []
bytes_of (cell.Closed ∷ cells) = []

-- the first mark, where one stands
abbrev pub ending_of : List Cell → Ending
ending_of [] = ending.Open
ending_of (cell.Byte b ∷ cells) = ending_of cells
ending_of (cell.Ended ∷ cells) = ending.Ended
ending_of (cell.Closed ∷ cells) = ending.Closed

-- no mark stands
abbrev pub IsOpen : Ending → Type 0
IsOpen e = e ≡ ending.Open

abbrev pub IsClosed : Ending → Type 0
IsClosed e = e ≡ ending.Closed

-- a mark as it lies in the ring
abbrev pub mark_cells : Ending → List Cell
mark_cells ending.Open = []
mark_cells ending.Ended = cell.Ended ∷ []
mark_cells ending.Closed = cell.Closed ∷ []

-- these bytes, and nothing behind the mark
abbrev pub cells_of : List ℕ → Ending → List Cell
cells_of bytes ending = map cell.Byte bytes ++ mark_cells ending
