-- A call as it is asked for, and the frame of each of its attempts.
use Rattle.std.specs.Prelude.{ℕ, ◌+◌, ◌-◌, ◌%◌, ◌==◌, if◌then◌else◌, List, [], ◌∷◌, length, slice_index, pos, Option, Some, None}
use Rattle.brpc_model.specs.Meta.{Meta}
use Rattle.brpc_model.specs.Frame.{Frame, frame_bytes}

-- the number of its operation, those of its one or two names, what is asked of whom, and how many versions its id has
pub record Asked : Type 0 where
  pub operation : ℕ
  pub names : List ℕ
  pub service : List ℕ
  pub method : List ℕ
  pub payload : List ℕ
  pub attachment : List ℕ
  pub range : ℕ

-- without a call in hand nothing is asked
abbrev pub nothing_asked : Asked
nothing_asked = record { operation = 0; names = []; service = []; method = []; payload = []; attachment = []; range = 0 }

abbrev pub asked_or_nothing : Option Asked → Asked
asked_or_nothing None = nothing_asked
asked_or_nothing (Some asked) = asked

-- the number of the name to which an attempt goes
abbrev pub name_of : Asked → ℕ → ℕ
name_of asked n = slice_index asked.names (if length asked.names == 1 then 0 else n % 2)

-- the meta of its request under a correlation id
abbrev pub meta_with : Asked → ℕ → Meta
meta_with asked correlation_id = record {
  request = Some (record { service = asked.service; method = asked.method; log_id = None });
  response = None;
  compress_type = pos 0;
  correlation_id = correlation_id;
  attachment_size = pos (length asked.attachment);
}

-- the frame of an attempt of the call with this id, counted from 0: its correlation id is the id, the attempt's number and 1 together
abbrev pub meta_of : Asked → ℕ → ℕ → Meta
meta_of asked id n = meta_with asked (id + n + 1)

abbrev pub request_of : Asked → ℕ → ℕ → Frame
request_of asked id n = record { meta = meta_of asked id n; payload = asked.payload; attachment = asked.attachment }

abbrev pub frame_of : Asked → ℕ → ℕ → List ℕ
frame_of asked id n = frame_bytes (request_of asked id n)

-- the length of its header with the meta, and those of its parts
abbrev pub head_of : Asked → ℕ → ℕ → ℕ
head_of asked id n = length (frame_of asked id n) - (length asked.payload + length asked.attachment)

abbrev pub parts_of : Asked → ℕ → ℕ → List ℕ
parts_of asked id n = head_of asked id n ∷ length asked.payload ∷ length asked.attachment ∷ []
