-- Links as they are opened and given back.
use Rattle.std.specs.Prelude.{ℕ, ◌≡◌, ◌+◌, ◌++◌, false, List, [], ◌∷◌, IfSome, Bool, true, nat_lt, Option, Some, None}
use Rattle.std.specs.List.{filter_map}
use Rattle.brpc_model.specs.Items.{Item, Open, Shape, is_open}
use Rattle.script_items.specs.LineMeaning.{item}
use Rattle.script_items.specs.declared.line.Line.{Line}
use Rattle.brpc_model.specs.ReturnedLink.{LinkEnd}
use Rattle.sock_io.specs.declared.link.LinkSpec.{LinkSpec}
use Rattle.sock_io.specs.declared.link.Mode.{Mode}
use Rattle.sock_io.specs.LinkHalves.{LinkerState}

-- the link of this number took, gave and answered nothing, did not fail, and was not found closed
pub record IsUntouched (number : ℕ) (e : LinkEnd) : Type 0 where
  pub link : e.link ≡ number
  pub took : IfSome e.took (λ bytes. bytes ≡ [])
  pub put_faults : e.put_faults ≡ 0
  pub gave : IfSome e.gave (λ bytes. bytes ≡ [])
  pub gave_count : e.gave_count ≡ 0
  pub take_faults : e.take_faults ≡ 0
  pub gave_end : e.gave_end ≡ false
  pub closed : IfSome e.closed (λ closed. closed ≡ false)
  pub answers : IfSome e.answers (λ answers. answers ≡ [])
  pub takes : IfSome e.takes (λ takes. takes ≡ [])

-- these links, of which the first has this number, are untouched
abbrev pub AreUntouched : ℕ → List LinkEnd → Type 0
AreUntouched number [] = Unit {0}
AreUntouched number (e ∷ es) = IsUntouched number e × AreUntouched (number + 1) es

-- the links have these numbers, from this one on
abbrev pub AreNumbered : ℕ → List LinkEnd → Type 0
AreNumbered number [] = Unit {0}
AreNumbered number (e ∷ es) = (e.link ≡ number) × AreNumbered (number + 1) es

-- a put on the link of the line takes a byte at least
abbrev pub has_piece : Item → Bool
has_piece (Open name shape) = nat_lt 0 shape.piece
has_piece other = true

-- the line opens a link
abbrev pub is_open_line : Line → Bool
is_open_line line = is_open (item line)

-- and a put on its link takes a byte at least
abbrev pub has_piece_line : Line → Bool
has_piece_line line = has_piece (item line)

-- ## What is asked of links

-- what a link of this shape is asked, made in this mode
abbrev pub spec_of : Mode → Shape → LinkSpec
spec_of mode shape = record { mode = mode; shape = shape }

-- what a line asks of its link, where it opens one
abbrev pub spec_asked : Mode → Item → Option LinkSpec
spec_asked mode (Open name shape) = Some (spec_of mode shape)
spec_asked mode other = None

-- what the lines of a script ask of their links, in order
abbrev pub specs_of : Mode → List Item → List LinkSpec
specs_of mode script = filter_map (spec_asked mode) script

-- the first are a beginning of the others
abbrev pub IsBeginning : List LinkSpec → List LinkSpec → Type 0
IsBeginning front whole = (rest : List LinkSpec) × (front ++ rest ≡ whole)

-- ## Connections

-- between these no connection was accepted, and none was given back
abbrev pub SameConnections : LinkerState → LinkerState → Type 0
SameConnections old new = (new.accepted ≡ old.accepted) × (new.done ≡ old.done)
