-- What the reading half of a link gave, take by take.
use Rattle.std.specs.Prelude.{◌≡◌, ℕ, Bool, true, false, List, [], ◌∷◌, flat_map}
use Rattle.sock_io.specs.LinkHalves.{InState, TakeStep, given_of}
use Rattle.sock_io.specs.declared.link.Take.{Take}
use Rattle.sock_io.specs.declared.link.Take.TheVariants as take_

-- a take: what stood in the room behind it, and what it answered
pub record Took : Type 0 where
  pub room : List ℕ
  pub answer : Take

abbrev pub piece_of : Took → List ℕ
piece_of x = given_of x.room x.answer

-- all bytes that these gave
abbrev pub bytes_of : List Took → List ℕ
bytes_of xs = flat_map piece_of xs

-- takes, one behind the other
abbrev pub Takes : List Took → InState → InState → Type 0
Takes [] s t = t ≡ s
Takes (x ∷ xs) s t = (m : InState) × TakeStep s m x.room x.answer × Takes xs m t

-- behind such an answer more is taken: nothing is there yet, unless the run is ending
abbrev pub goes_on : Bool → Take → Bool
goes_on ending (take_.Took n) = true
goes_on false take_.Empty = true
goes_on ending other = false

abbrev pub GoOn : Bool → List Took → Type 0
GoOn ending [] = Unit {0}
GoOn ending (x ∷ xs) = (goes_on ending x.answer ≡ true) × GoOn ending xs
