-- Parts of a line that are read in one step.
use Rattle.std.specs.Prelude.{ℕ, List, nat_lt, nat_le, if◌then◌else◌, Ok, Err}
use Rattle.brpc_model.specs.Text.{number_in, hex_in, sized}
use Rattle.brpc_model.specs.LinePartReads.{Reads, ◌>>=◌}
use Rattle.brpc_model.specs.Items.{Seat, ClientSeat, ReaderSeat}

-- a message of 1 to 65,536 bytes
abbrev pub message_in : List ℕ → Reads (List ℕ)
message_in w = hex_in w >>= sized 1 65536

-- the reader of one of so many links
abbrev pub reader_in : ℕ → List ℕ → Reads Seat
reader_in links w = number_in 0 30 w >>= (λ k. if nat_lt k links then Ok (ReaderSeat k) else Err 4)

-- one of so many clients
abbrev pub client_in : ℕ → List ℕ → Reads Seat
client_in clients w = number_in 1 31 w >>= (λ c. if nat_le c clients then Ok (ClientSeat c) else Err 4)
