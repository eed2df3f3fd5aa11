-- The fields of a reader's seat.
use Rattle.std.specs.Prelude.{ℕ, List, map}
use Rattle.prpc_frame.specs.FrameMeaning.{frame_of}
use Rattle.sock_message.specs.Asked.{asked_or_nothing}
use Rattle.reader_points.specs.ReaderPoints.{HasInHand}
use Rattle.reader_seats.specs.declared.seat.ReaderSeat.TheInside.{Inside}
use Rattle.reader_seats.specs.ResponseInHand.{frame_in, is_fresh}
use Rattle.reader_seats.specs.ReaderState.{ReaderData, around}

abbrev pub data_of : Inside → ReaderData
data_of s = let kept = map frame_of s.kept.items in record { point = s.point; held = s.cutter.bytes; kept = kept; frame = frame_in kept s.hand; fresh = is_fresh s.hand; asked = asked_or_nothing s.call }

-- its point has in hand what it needs
abbrev pub HoldsWhatItNeeds : Inside → Type 0
HoldsWhatItNeeds s = (calls : List ℕ) → HasInHand (around calls (data_of s)) s.point
