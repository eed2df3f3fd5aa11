-- What a client has at both tables.
use Rattle.std.specs.Prelude.{ℕ, ◌<◌, Some}
use Rattle.corr_core.specs.declared.marks.Plan.{Plan}
use Rattle.sock_model.specs.declared.view.View.{View}
use Rattle.call_errors.specs.declared.seats.CallSeat.{CallSeat}
use Rattle.call_errors.specs.ClientBooks.{CallStand, stand_of, starving}
use Rattle.call_errors.specs.PostedErrors.{PostedBy}
use Rattle.sock_words.specs.PackedWords.{id_slot, id_first}

-- what its seat of the sockets knows, and what it knows of calls
pub record Both : Type 0 where
  pub socks : View
  pub calls : CallStand

abbrev pub both : View → CallSeat → Both
both v c = record { socks = v; calls = stand_of c }

-- the id of a call in a slot of this table
pub record IsCallId (q : Plan) (id : ℕ) : Type 0 where
  pub inside : id_slot id < q.slots
  pub low : id_first id < 67108864

-- an error was posted to a call for one of its attempts
abbrev pub PostedFor : Plan → ℕ → ℕ → ℕ → Both → Both → Type 0
PostedFor q id attempt code s t = PostedBy q.slots s.calls id code (Some attempt) t.calls

-- memory is wanting from here on
abbrev pub wanting : CallStand → CallStand
wanting s = record { view = s.view; books = starving s.books }
