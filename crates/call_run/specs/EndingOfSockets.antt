-- How main ends the sockets of a run, once all clients have ended.
use Rattle.std.specs.Prelude.{◌≡◌, ℕ, List, [], ◌∷◌, Option, Some, None}
use Rattle.atomic_table.specs.declared.shared.Seat.{Seat}
use Rattle.sock_words.specs.ErrorCodes.{EEOF}
use Rattle.sock_words.specs.declared.plain.Plan.{Plan}
use Rattle.sock_words.specs.declared.socket_id.SocketId.{SocketId}
use Rattle.sock_model.specs.declared.view.View.{View}
use Rattle.sock_table.specs.ClosedSocketTable.{HasAll}
use Rattle.rpc_reader.specs.ReaderSocketFailing.{OpenedBy, FailedBy}

-- the socket was set failed as at the end of its link; an `open` may have got none
abbrev pub FailedIf : Option SocketId → View → View → Type 0
FailedIf None v w = w ≡ v
FailedIf (Some id) v w = FailedBy id.0 EEOF v w

-- what was noted for the `open` was read, and its socket was set failed
pub record EndedOne (p : Plan) (operation : ℕ) (v w : View) : Type 0 where
  pub id : Option SocketId
  pub noted : View
  pub opened : OpenedBy p operation id v noted
  pub failed : FailedIf id noted w

-- those of these `open`s, one after the other
abbrev pub EndedEach : Plan → List ℕ → View → View → Type 0
EndedEach p [] v w = w ≡ v
EndedEach p (o ∷ os) v w = (u : View) × EndedOne p o v u × EndedEach p os u w

-- one seat has what all of these noted, in their order, and ends the sockets with it: so whatever they noted stood before the ending. It alone is left
pub record EndedBehind {S : Type 0} (p : Plan) (opens : List ℕ) (seats behind : List (Seat S View)) : Type 0 where
  pub joined : View
  pub took_in : HasAll seats joined
  pub last : Seat S View
  pub failed : EndedEach p opens joined last.me.0
  pub alone : last ∷ [] ≡ behind
