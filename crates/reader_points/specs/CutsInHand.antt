-- What is cut out of the bytes in hand.
use Rattle.std.specs.Prelude.{ℕ, ◌≡◌, List, Bool, ◌&&◌, nat_lt, length, Option, Some, None}
use Rattle.brpc_model.specs.Frame as model
use Rattle.prpc_frame.specs.FrameMeaning.{frame_of}
use Rattle.prpc_frame.specs.declared.frame.Frame.{Frame}
use Rattle.seat_programs.specs.ReaderProgram.{has_response, slot_in}
use Rattle.reader_points.specs.declared.cutting.Cut.{Cut}
use Rattle.reader_points.specs.declared.point.Reader.{Reader}
use Rattle.reader_points.specs.ReaderPoints.{Context, frames_program, point_program, with_frame, without_frame, with_held, HasInHand}

-- a response for one of so many id slots
abbrev pub is_asked : ℕ → model.Frame → Bool
is_asked ids frame = has_response frame.meta.response && nat_lt (slot_in frame) ids

-- with the frame that was cut, or without one
abbrev pub with_cut : Option Frame → Context → Context
with_cut (Some f) a = with_frame (frame_of f) a
with_cut None a = without_frame a

-- how the reader goes on behind a cut of these bytes, of which those were left
pub record GoesOnBehind (r : Reader) (ids : ℕ) (old new : List ℕ) (cut : Cut) : Type 0 where
  pub program : (a : Context) → length a.calls ≡ ids → frames_program a r old a.kept ≡ point_program (with_held new (with_cut cut.frame a)) cut.point
  pub hand : (a : Context) → HasInHand (with_held new (with_cut cut.frame a)) cut.point
