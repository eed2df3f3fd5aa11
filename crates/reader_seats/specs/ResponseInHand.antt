-- The response in a reader's hand.
use Rattle.std.specs.Prelude.{Bool, true, false, List, slice_index_or, Option, Some, None}
use Rattle.brpc_model.specs.Frame as model
use Rattle.prpc_frame.specs.FrameMeaning.{frame_of}
use Rattle.prpc_frame.specs.declared.frame.Frame.{Frame}
use Rattle.reader_points.specs.ReaderPoints.{NO_FRAME}
use Rattle.reader_seats.specs.declared.hand.Hand.{Hand}
use Rattle.reader_seats.specs.declared.hand.Hand.TheVariants.{Empty, Response, Kept}

-- it may be one of those kept
abbrev pub frame_in : List model.Frame → Hand → model.Frame
frame_in kept Empty = NO_FRAME
frame_in kept (Response frame) = frame_of frame
frame_in kept (Kept i) = slice_index_or kept i NO_FRAME

abbrev pub is_fresh : Hand → Bool
is_fresh (Response frame) = true
is_fresh other = false

abbrev pub hand_of : Option Frame → Hand
hand_of (Some frame) = Response frame
hand_of None = Empty
