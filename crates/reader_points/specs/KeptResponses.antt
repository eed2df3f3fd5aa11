-- Kept responses.
use Rattle.std.specs.Prelude.{ℕ, ◌≡◌, ◌<◌, ◌+◌, ◌==◌, ◌&&◌, Bool, List, ◌∷◌, map, nat_lt, length, get_or}
use Rattle.brpc_model.specs.Frame as model
use Rattle.prpc_frame.specs.FrameMeaning.{frame_of}
use Rattle.prpc_frame.specs.declared.frame.Frame.{Frame}
use Rattle.seat_programs.specs.ReaderProgram.{kept_for, slot_in}
use Rattle.sock_words.specs.PackedWords.{id_slot}

-- it is one of a version of the id behind its first, whose range has so many
abbrev pub is_kept_of : ℕ → ℕ → model.Frame → Bool
is_kept_of id range f = (slot_in f == id_slot id) && (nat_lt id f.meta.correlation_id && nat_lt f.meta.correlation_id (id + range))

-- the first of these is the one at this place
pub record IsFirstKept (id range : ℕ) (kept : List Frame) (i : ℕ) : Type 0 where
  pub frame : Frame
  pub others : List model.Frame
  pub within : i < length kept
  pub is : get_or kept i frame ≡ frame
  pub slot : slot_in (frame_of frame) ≡ id_slot id
  pub first : kept_for id range (map frame_of kept) ≡ frame_of frame ∷ others
