-- The parts of a frame's line.
use Rattle.std.proofs.Common.{◌≡◌, ℕ, List, ◌++◌, codes, decimal}
use Rattle.std.specs.Fmt.{signed_decimal}
use Rattle.sock_words.specs.PrintedWords.{hex_text}
use Rattle.brpc_model.specs.Frame.{Frame}
use Rattle.brpc_model.specs.Spelling.{where_some}
use Rattle.brpc_model.specs.FramesText.{request_text, response_text, frame_line}
use Rattle.frame_print.specs.FrameEnd.{end_text}
use Rattle.frame_print.proofs.PieceLemmas.{line_parts, split_first, split_third}

abbrev pub request_part : Frame → List ℕ
request_part f = where_some request_text f.meta.request

abbrev pub response_part : Frame → List ℕ
response_part f = where_some response_text f.meta.response

pub whole_line : (f : Frame) → codes "frame" ++ request_part f ++ response_part f ++ end_text f ≡ frame_line f
whole_line f = line_parts (request_part f) (response_part f) (decimal f.meta.correlation_id) (signed_decimal f.meta.compress_type) (hex_text f.payload) (hex_text f.attachment)

pub from_first : (f : Frame) → codes "frame" ++ (request_part f ++ (response_part f ++ end_text f)) ≡ frame_line f
from_first f = split_first (codes "frame") (request_part f) (response_part f) (end_text f) (frame_line f) (whole_line f)

pub from_third : (f : Frame) → (codes "frame" ++ request_part f) ++ (response_part f ++ end_text f) ≡ frame_line f
from_third f = split_third (codes "frame") (request_part f) (response_part f) (end_text f) (frame_line f) (whole_line f)
