-- How a client's seat goes on behind a step.
use Rattle.std.specs.Prelude.{ℕ, ◌≡◌, ◌<◌, List, Option, Some, vec_len, vec_capacity}
use Rattle.sock_message.specs.Asked.{Asked, frame_of, parts_of}
use Rattle.message_parts.specs.FramesByParts.{ParcelData}
use Rattle.sock_words.specs.declared.outcome.Outcome.{Outcome}
use Rattle.seat_programs.specs.declared.task.Sizes.{Sizes}
use Rattle.seat_programs.specs.Programs.{Program}
use Rattle.seat_programs.specs.Cores.{resolved, still_waiting, next_step, said}
use Rattle.seat_states.specs.declared.point.Next.{Next}
use Rattle.seat_states.specs.declared.point.Next.TheVariants as nexts
use Rattle.seat_states.specs.ProgramAtPoint.{Context, HasInHand, framed}
use Rattle.seat_states.specs.declared.point.Point.{Point}
use Rattle.client_seats.specs.declared.seat.Seat.{Seat}
use Rattle.client_seats.specs.ClientSeatState.{SeatData, around, seat_program}

-- it ended no call, and keeps no retry
abbrev pub IsFlat : Next → Type 0
IsFlat (nexts.CallEnded o id c after) = ⊥
IsFlat (nexts.Kept id n after) = ⊥
IsFlat (nexts.KeptWith error n word after) = ⊥
IsFlat other = Unit {0}

-- it goes on with this program: what comes before its next step is said, and it keeps the retries that still wait then
pub record FollowsOn (sizes : Sizes) (old new : SeatData) (program : Program) (before behind : List (Option Outcome)) : Type 0 where
  pub next : seat_program sizes new ≡ next_step (resolved old.waiting program)
  pub waiting : new.waiting ≡ still_waiting old.waiting program
  pub told : behind ≡ said (resolved old.waiting program) before

-- the frame of this attempt is in hand, and all else is as it was
pub record IsFramedAs (old new : SeatData) (id attempt : ℕ) : Type 0 where
  pub asked : Asked
  pub call : old.call ≡ Some asked
  pub is : new ≡ record old { message = Some (record { bytes = frame_of asked id attempt; parts = parts_of asked id attempt }) }

-- the message that is made behind its step is made
abbrev pub IsWithFrame : Point → Context → Type 0
IsWithFrame point a = framed point a ≡ a

-- what its step needs is in hand, and it goes on as before
pub record IsPrepared (sizes : Sizes) (old new : SeatData) : Type 0 where
  pub program : seat_program sizes new ≡ seat_program sizes old
  pub waiting : new.waiting ≡ old.waiting
  pub hand : HasInHand (around sizes new) new.point
  pub frame : IsWithFrame new.point (around sizes new)
  pub out : new.out ≡ old.out
  pub ending : new.ending ≡ old.ending

-- a call came into its hand
pub record HasTaken (old new : SeatData) (asked : Asked) : Type 0 where
  pub message' : Option ParcelData
  pub is : new ≡ record old { message = message'; call = Some asked }

-- a seat with room for one more life and one more retry
abbrev pub HasRoom : Seat → Type 0
HasRoom seat = (vec_len seat.held < vec_capacity seat.held) × (vec_len seat.waiting < vec_capacity seat.waiting)
