-- What a client's seat has still to do, and what it has in hand.
use Rattle.std.specs.Prelude.{ℕ, Bool, if◌then◌else◌, List, [], map, Option, option_map, Some, None}
use Rattle.sock_message.specs.Asked.{Asked}
pub use Rattle.sock_message.specs.Asked.{nothing_asked, asked_or_nothing}
use Rattle.message_parts.specs.FramesByParts.{ParcelData, OutgoingData}
use Rattle.message_parts.specs.Parcels.{outgoing_of}
use Rattle.seat_programs.specs.declared.task.Task.{Task}
use Rattle.seat_programs.specs.declared.task.Sizes.{Sizes}
use Rattle.seat_programs.specs.LoopHeads.{Retry}
use Rattle.seat_programs.specs.Programs.{Program}
use Rattle.seat_programs.specs.ClientProgram.{HeldLife, client_from, give_back, ending_of}
use Rattle.id_points.specs.IdsAndAttemptNumbers.{id_of, number_of}
use Rattle.seat_states.specs.declared.point.Point.{Point}
use Rattle.seat_states.specs.ProgramAtPoint.{Context, point_program}
use Rattle.client_seats.specs.declared.hand.InHand.{InHand}
use Rattle.client_seats.specs.declared.hand.InHand.TheVariants.{Nothing, Message, Call, Framed}
use Rattle.client_seats.specs.declared.seat.Held.{Held}
use Rattle.client_seats.specs.declared.seat.Kept.{Kept}
use Rattle.client_seats.specs.declared.seat.Seat.{Seat}

-- what is held, as the programs have it
abbrev pub lives : List Held → List HeldLife
lives hs = map (λ (h : Held). record { name = h.name; id = h.id.0 }) hs

-- the retries that wait
abbrev pub retries : List Kept → List Retry
retries ks = map (λ (k : Kept). record { id = id_of k.id; attempt = number_of k.attempt }) ks

-- a seat: the tasks behind the one that it is at, whether it has none left and gives back what it holds, what it holds, the `open`s that it
-- has still to end, where it stands, the retries that it keeps, the oldest first, the message that it is to send, the call in its hand, and
-- the message that it writes
pub record SeatData : Type 0 where
  pub tasks : List Task
  pub leaving : Bool
  pub held : List HeldLife
  pub ending : List ℕ
  pub point : Point
  pub waiting : List Retry
  pub message : Option ParcelData
  pub call : Option Asked
  pub out : Option OutgoingData

-- what is in hand: a frame stands with its call
abbrev pub message_in : InHand → Option ParcelData
message_in Nothing = None
message_in (Message message) = Some (record { bytes = message; parts = [] })
message_in (Call call) = None
message_in (Framed framed) = Some framed.frame

abbrev pub call_in : InHand → Option Asked
call_in Nothing = None
call_in (Message message) = None
call_in (Call call) = Some call
call_in (Framed framed) = Some framed.call

abbrev pub seat_data : Seat → SeatData
seat_data seat = record {
  tasks = seat.tasks.items;
  leaving = seat.leaving;
  held = lives seat.held.items;
  ending = seat.ending.items;
  point = seat.point;
  waiting = retries seat.waiting.items;
  message = message_in seat.hand;
  call = call_in seat.hand;
  out = option_map outgoing_of seat.out;
}

abbrev pub bytes_of : Option ParcelData → List ℕ
bytes_of None = []
bytes_of (Some parcel) = parcel.bytes

abbrev pub parts_of : Option ParcelData → List ℕ
parts_of None = []
parts_of (Some parcel) = parcel.parts

abbrev pub left_of : Option OutgoingData → List ℕ
left_of None = []
left_of (Some out) = out.left

abbrev pub taken_of : Option OutgoingData → ℕ
taken_of None = 0
taken_of (Some out) = out.taken

abbrev pub left_parts_of : Option OutgoingData → List ℕ
left_parts_of None = []
left_parts_of (Some out) = out.parts

module _ (sizes : Sizes) (seat : SeatData) where
  -- how it goes on behind the task that it is at, by what it holds
  abbrev pub goes_on : List HeldLife → Program
  goes_on hs = if seat.leaving then give_back hs else client_from sizes hs seat.tasks

  -- what stands round its point, over a table of these sizes
  abbrev pub around : Context
  around = record {
    sizes = sizes;
    goes_on = goes_on;
    ends = ending_of seat.ending;
    held = seat.held;
    message = bytes_of seat.message;
    parts = parts_of seat.message;
    asked = asked_or_nothing seat.call;
    left = left_of seat.out;
    taken = taken_of seat.out;
    left_parts = left_parts_of seat.out;
  }

  -- so with what it holds now
  abbrev pub client_of : Program
  client_of = goes_on seat.held

  abbrev pub seat_program : Program
  seat_program = point_program around seat.point
