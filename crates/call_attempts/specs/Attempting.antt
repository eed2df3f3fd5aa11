-- What becomes of an attempt of a call.
use Rattle.std.specs.Prelude.{◌≡◌, ℕ, [], ◌∷◌, true}
use Rattle.sock_io.specs.LinkHalves.{OutState}
use Rattle.sock_words.specs.ErrorCodes.{EFAILEDSOCKET, EREQUESTS}
use Rattle.sock_words.specs.PackedWords.{socket_id_version, at_word as packed_at, id_slot, id_first}
use Rattle.sock_words.specs.declared.plain.Plan.{Plan}
use Rattle.sock_words.specs.declared.socket_id.SocketId.{SocketId}
use Rattle.sock_words.specs.declared.vref.Vref.{Vref}
use Rattle.sock_model.specs.declared.marks.Mark.TheVariants.{Saw}
use Rattle.sock_model.specs.declared.view.View.{View}
use Rattle.sock_rule.specs.Shows.{heading_of}
use Rattle.sock_rule.specs.declared.homes.Letter.{Letter}
use Rattle.sock_table.specs.ReferenceAnswers.{Held, GoneFrom, NoneLater, LinkOf}
use Rattle.write_chain.specs.declared.entry.Refused.{Refused}
use Rattle.write_chain.specs.declared.entry.Refused.TheVariants as refused
use Rattle.write_chain.specs.SendingIntoChain.{Accepted, RefusedBy}
use Rattle.corr_core.specs.declared.marks.Plan as id_plan
use Rattle.id_rule.specs.LawfulIdTable.{at_index, with_kept}
use Rattle.message_parts.specs.Parcels.{parcel_of}
use Rattle.call_errors.specs.rpc_client.specs.SendingOutcomes.{Returned}
use Rattle.call_writes.specs.MessageFateBesideCalls.{SeenCalling}
use Rattle.call_attempts.specs.ClientAtBothTables.{Both, PostedFor}
use Rattle.write_chain.specs.ReadyToSend.{refused_of}

-- the message of a refusal
abbrev pub message_of : Refused → Letter
message_of (refused.Failed sock msg found) = msg
message_of (refused.Full sock msg) = msg

-- and the code of the error that is posted for it: each request was found taken, or the socket had been failed
abbrev pub code_for : Refused → ℕ
code_for (refused.Failed sock msg found) = EFAILEDSOCKET
code_for (refused.Full sock msg) = EREQUESTS

-- of the attempt in this message an error is posted to the call
abbrev pub PostedOf : id_plan.Plan → Letter → ℕ → Both → Both → Type 0
PostedOf q msg code s t = PostedFor q msg.owner msg.label.attempt code s t

-- a refused attempt is posted to the call by the reason, and then the reference is given back
pub record RefusedFor (q : id_plan.Plan) (by : Refused) (s t : Both) : Type 0 where
  pub posted : PostedOf q (message_of by) (code_for by) s t
  pub returned : Returned (refused_of by).id.0 s.socks t.socks

module _ {O : Type 0} (state : O → OutState) (p : Plan) (q : id_plan.Plan) (socket : SocketId) (msg : Letter) where
  -- the frame was accepted, and then it was seen through
  pub record WentOut (s t : Both) : Type 0 where
    pub taken : View
    pub accepted : Accepted (Saw (socket_id_version socket.0) ∷ []) p socket.0 (heading_of msg) (parcel_of msg.bytes).bytes s.socks taken
    pub through : SeenCalling state p q.slots socket.0 taken s.calls t.socks t.calls

  -- it was refused for this reason
  pub record CameBack (by : Refused) (s t : Both) : Type 0 where
    pub refused_at : View
    pub refused_by : RefusedBy p (record { id = socket }) msg by s.socks refused_at
    pub posted : PostedOf q msg (code_for by) s t
    pub returned : Returned socket.0 refused_at t.socks

  -- of a frame that is sent with a reference
  pub data DeliveredBy (s t : Both) : Type 0 where
    went_out : WentOut s t → DeliveredBy s t
    came_back : (by : Refused) → CameBack by s t → DeliveredBy s t

  -- its socket is gone, and that is posted to the call
  pub record FoundGone (s t : Both) : Type 0 where
    pub found : Vref
    pub gone : GoneFrom socket.0 found.0 s.socks t.socks
    pub posted : PostedOf q msg EFAILEDSOCKET s t

  -- the seat has a reference to its socket, and stored the link of that, with the attempt, in the word of the call's operation
  pub record Linked (s t : Both) : Type 0 where
    pub has : View
    pub held : Held socket.0 s.socks has
    pub none_later : NoneLater socket.0 s.socks
    pub link : ℕ
    pub link_of : LinkOf p link socket.0 has t.socks
    pub stored : t.calls.view ≡ with_kept (at_index q msg.label.operation) true (packed_at (id_first msg.owner) (id_slot msg.owner) link msg.label.attempt) s.calls.view
    pub books : t.calls.books ≡ s.calls.books

  -- an attempt over the socket with this id
  pub data AttemptedBy (s t : Both) : Type 0 where
    nowhere : FoundGone s t → AttemptedBy s t
    over_link : (u : Both) → Linked s u → DeliveredBy u t → AttemptedBy s t
