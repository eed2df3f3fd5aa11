-- A frame as a line shows it, wherever its bytes lie.
use Rattle.std.specs.Prelude.{ℕ, List}
use Rattle.brpc_model.specs.Frame.{Frame}
use Rattle.rpc_meta.specs.ViewedMeta.{viewed}
use Rattle.frame_print.specs.declared.view.BytesView.{BytesView}
use Rattle.frame_print.specs.declared.view.BytesView.TheVariants.{Slice, Blocks}
use Rattle.frame_print.specs.declared.view.FrameView.{FrameView}

-- the bytes
abbrev pub bytes_viewed : BytesView → List ℕ
bytes_viewed (Slice bytes) = bytes.now
bytes_viewed (Blocks buf) = buf.now.items

-- the frame
abbrev pub frame_viewed : FrameView → Frame
frame_viewed f = record { meta = viewed f.meta; payload = bytes_viewed f.payload; attachment = bytes_viewed f.attachment }
