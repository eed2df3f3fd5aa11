-- How a call begins.
use Rattle.std.specs.Prelude.{◌≡◌, ℕ, ◌<◌, true, Some, None}
use Rattle.std.proofs.Common.{zero-le}
use Rattle.sock_io.specs.LinkHalves.{OutState}
use Rattle.sock_words.specs.declared.plain.Plan.{Plan}
use Rattle.sock_words.specs.declared.socket_id.SocketId.{SocketId}
use Rattle.sock_table.specs.NamesStoredAndFound.{Found}
use Rattle.corr_core.specs.declared.marks.Plan as id_plan
use Rattle.corr_core.specs.declared.marks.View as id_view
use Rattle.id_rule.specs.LawfulIdTable.{call_index, with_kept}
use Rattle.corr_id.specs.SeatBehindIdCalls.{Quiet, TakenNow, MadeAs}
use Rattle.sock_message.specs.Asked.{Asked, name_of}
use Rattle.call_errors.specs.Starving.{GivenUp}
use Rattle.call_attempts.specs.declared.calling.Called.{Called}
use Rattle.call_attempts.specs.declared.calling.Called.TheVariants.{Unopened, NoSlot, Begun}
use Rattle.call_attempts.specs.ClientAtBothTables.{Both, wanting}
use Rattle.call_attempts.specs.AttemptLetters.{letter_for}
use Rattle.call_attempts.specs.Attempting.{AttemptedBy}

module _ {O : Type 0} (state : O → OutState) (p : Plan) (q : id_plan.Plan) (asked : Asked) where
  -- the first name's word was read, and nothing else was done
  pub record Named (socket : SocketId) (s t : Both) : Type 0 where
    pub found : Found p (name_of asked 0) (Some socket) s.socks t.socks
    pub calls : t.calls ≡ s.calls

  -- it had the id of a socket, and this call found each id slot taken
  pub record FoundNoSlot (s t : Both) : Type 0 where
    pub socket : SocketId
    pub found : Found p (name_of asked 0) (Some socket) s.socks t.socks
    pub quiet : Quiet s.calls.view t.calls.view
    pub taken : (i : ℕ) → i < q.slots → TakenNow i s.calls.view t.calls.view
    pub books : t.calls.books ≡ s.calls.books

  -- or an id was made with all that the call needs, and noted for its operation
  pub record MadeFor (id : ℕ) (socket : SocketId) (s t : Both) : Type 0 where
    pub found : Found p (name_of asked 0) (Some socket) s.socks t.socks
    pub view : id_view.View Asked
    pub made : MadeAs s.calls.view view q.slots id asked.range asked
    pub noted : t.calls.view ≡ with_kept (call_index q asked.operation) true id view
    pub books : t.calls.books ≡ s.calls.books

  -- and the first attempt goes to that socket
  pub record BegunAs (id : ℕ) (s t : Both) : Type 0 where
    pub socket : SocketId
    pub at : Both
    pub made_for : MadeFor id socket s at
    pub attempted : AttemptedBy state p q socket (letter_for asked id 0 zero-le) at t

  abbrev pub CalledBy : Called → Both → Both → Type 0
  CalledBy Unopened s t = Found p (name_of asked 0) None s.socks t.socks × (t.calls ≡ s.calls)
  CalledBy NoSlot s t = FoundNoSlot s t
  CalledBy (Begun id) s t = BegunAs id s t

  -- there was no memory: before an id was made, and nothing else was done; or behind that, and the call ends by it
  pub data WantedBy (s t : Both) : Type 0 where
    before_id : (socket : SocketId) → Named socket s t → WantedBy s t
    behind_id : (id : ℕ) (socket : SocketId) (u : Both) → MadeFor id socket s u → t.socks ≡ u.socks → GivenUp q.slots id (wanting u.calls) t.calls → WantedBy s t
