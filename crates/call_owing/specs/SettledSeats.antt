-- Where no seat moves any more: who is at rest, and who waits.
use Rattle.std.specs.Prelude.{ℕ, ◌≡◌, ◌≢◌, true, List, [], ◌∷◌, slice_index, Option, Some}
use mathlib.Core.Option as core
use lib.ListN.{get_elem?}
use Rattle.sock_words.specs.declared.plain.Plan.{Plan}
use Rattle.sock_model.specs.SocketTableLayout.{open_index}
use Rattle.seat_programs.specs.LoopHeads.{Head, Exit, Opens}
use Rattle.seat_programs.specs.Programs.{Program, Rest, Round}
use Rattle.seat_programs.specs.Cores.{Core, SeatState}
use Rattle.seat_programs.specs.Ticks.{Answer, waits_in}
use Rattle.call_owing.specs.Owing.{Owing}

-- the seat has nothing left to do
abbrev pub IsAtRest : Core → ℕ → Type 0
IsAtRest c i = (seat : SeatState) → get_elem? c.seats i ≡ core.some seat → seat.program ≡ Rest

-- it waits at the head of a loop aside of the sockets, whatever its link answers
abbrev pub WaitsAside : Plan → Core → ℕ → Type 0
WaitsAside p c i = (seat : SeatState) × (get_elem? c.seats i ≡ core.some seat) × (head : Head) × (next : Exit head → Program) × (answer : Answer) × (seat.program ≡ Round head next) × (waits_in p c.words c.calls answer head ≡ true)

-- it waits for the word of an `open`
abbrev pub WaitsForOpen : Plan → Core → ℕ → Type 0
WaitsForOpen p c i = (seat : SeatState) × (o : ℕ) × (next : ℕ → Program) × (get_elem? c.seats i ≡ core.some seat) × (seat.program ≡ Round (Opens o) next) × (slice_index c.words (open_index p o) ≡ 0)

-- the reader of a link that has a life doesn't wait for its `open`
abbrev pub OpensKnown : Plan → (ℕ → Option ℕ) → Core → List Owing → Type 0
OpensKnown p life c us = (j : ℕ) (u : Owing) (k s : ℕ) (seat : SeatState) (o : ℕ) (next : ℕ → Program) → get_elem? us j ≡ core.some u → get_elem? c.seats j ≡ core.some seat → u.link ≡ k ∷ [] → life k ≡ Some s → seat.program ≡ Round (Opens o) next
    → slice_index c.words (open_index p o) ≢ 0
