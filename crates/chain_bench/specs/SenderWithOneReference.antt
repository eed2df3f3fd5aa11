-- What a seat has that sends messages, one after another, with one reference.
use Rattle.std.specs.Prelude.{◌≡◌, ℕ, ◌+◌, ◌*◌, ◌≤◌, ◌⊎◌, List, ◌∷◌, length}
use Rattle.atomic_table.specs.Seated.{TableId}
use Rattle.atomic_table.specs.declared.shared.Seat.{Seat}
use Rattle.sock_words.specs.declared.plain.Plan.{Plan}
use Rattle.sock_model.specs.declared.chain.Entry.{Entry}
use Rattle.sock_model.specs.declared.view.View.{View}
use Rattle.sock_model.specs.ChainRows.{more}
use Rattle.sock_model.specs.Rule.{MOST_ACCEPTED}
use Rattle.sock_rule.specs.SocketSeatSplits.{IsSeat}
use Rattle.write_chain.specs.WritingRightInHand.{GaveUp}
use Rattle.write_chain.specs.ReadyToSend.{IsReady, HoldsOne}
use Rattle.chain_bench.specs.declared.sending.Load.{Load}
use Rattle.chain_bench.specs.declared.sending.Sender.{Sender}

-- its own list of accepted messages stands first, with room for so many more
pub record HasRoomFor (n : ℕ) (v : View) : Type 0 where
  pub made : List Entry
  pub taken_in : List (List Entry)
  pub lists : v.lists ≡ made ∷ taken_in
  pub room : length made + n ≤ MOST_ACCEPTED

-- between two messages it has one reference to the life of this id, and no right
pub record IsHolding {S : Type 0} (z : TableId) (p : Plan) (id : ℕ) (s : Seat S View) : Type 0 where
  pub seat : IsSeat z p s
  pub up : GaveUp p id s.me
  pub one : HoldsOne p id s.me.0

-- one message at most was accepted of it
abbrev pub OneMore : View → View → Type 0
OneMore v w = (w.lists ≡ v.lists) ⊎ ((e : Entry) × (w.lists ≡ more v.lists e))

-- a seat can send so many, and the table has the place words that they are given
pub record IsLoad (p : Plan) (load : Load) : Type 0 where
  pub few : load.count ≤ MOST_ACCEPTED
  pub places : 32768 ≤ 8 * p.operations

-- a thread that sent nothing yet knows the socket
pub record MaySend (z : TableId) (p : Plan) (s : Sender) : Type 0 where
  pub ready : IsReady z p s.id.0 s.seat
  pub room : HasRoomFor MOST_ACCEPTED s.seat.me.0
