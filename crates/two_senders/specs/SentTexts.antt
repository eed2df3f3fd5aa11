-- The messages that two threads send, and what a link took of them.
use Rattle.std.specs.Prelude.{◌≡◌, ℕ, zero, suc, ◌+◌, ◌*◌, List, [], ◌∷◌, ◌++◌, Some, None, Vec, slice_get}
use Rattle.std.specs.Option.{ForSome}
use Rattle.atomic_table.specs.Seated.{TableId}
use Rattle.atomic_table.specs.declared.shared.Seat.{Seat}
use Rattle.sock_io.specs.LinkHalves.{OutState}
use Rattle.sock_words.specs.declared.plain.Plan.{Plan}
use Rattle.sock_model.specs.declared.chain.Heading.{Heading}
use Rattle.sock_model.specs.declared.view.View.{View}
use Rattle.sock_rule.specs.SocketSeatSplits.{IsSeat}
use Rattle.write_chain.specs.WritingRightInHand.{GaveUp}
use Rattle.write_chain.specs.ReadyToSend.{IsSpent, IsReady, HoldsOne}
use Rattle.chain_orders.specs.SentMessages.{Sent, HasSent}
use Rattle.chain_orders.specs.ListsInOneOrder.{AreMerged}
use Rattle.chain_orders.specs.MessagesInOneOrder.{TookInOrder}

-- what stands with the n-th message of thread w: the place indexes of the one thread are even, those of the other odd
abbrev pub heading_at : ℕ → ℕ → Heading
heading_at w n = record { label = record { client = w; operation = 1; attempt = 0; place = 2 * n + w }; owner = 0; parts = [] }

-- the bytes of the n-th text
abbrev pub text_at : {A : Type 0} → List (Vec ℕ A) → ℕ → List ℕ
text_at texts n = elim (slice_get texts n) [ None ↦ [] | Some text ↦ text.items ]

-- the first n messages of thread w, one for each text, in their order
abbrev pub messages : {A : Type 0} → ℕ → List (Vec ℕ A) → ℕ → List Sent
messages w texts zero = []
messages w texts (suc n) = messages w texts n ++ record { link = 0; heading = heading_at w n; bytes = text_at texts n } ∷ []

-- the table is the one that they share: one link, and place words for all messages
abbrev pub IsShared : Plan → Type 0
IsShared p = (p.links ≡ 1) × (p.operations ≡ 4096)

-- between two messages a seat has one reference to the life of this id, and no right
pub record IsHolding {S : Type 0} (z : TableId) (p : Plan) (id : ℕ) (s : Seat S View) : Type 0 where
  pub seat : IsSeat z p s
  pub up : GaveUp p id s.me
  pub one : HoldsOne p id s.me.0

-- a seat that sent nothing yet knows the socket
abbrev pub MaySend : {S : Type 0} → TableId → Plan → ℕ → Seat S View → Type 0
MaySend z p id s = IsReady z p id s × HasSent s.me.0 []

-- a seat that holds nothing any more sent these messages
abbrev pub HasDone : {S : Type 0} → TableId → Plan → List Sent → Seat S View → Type 0
HasDone z p sent s = IsSpent z p s × HasSent s.me.0 sent

-- the link took the messages of both in one order, each thread's in its own, each whole, and at most a proper beginning of the next
pub record TookBoth {O : Type 0} (state : O → OutState) (out : O) (first second : List Sent) : Type 0 where
  pub order : List Sent
  pub merged : AreMerged (first ∷ second ∷ []) order
  pub took : List ℕ
  pub tells : ForSome (state out).took (λ bytes. bytes ≡ took)
  pub took_in : TookInOrder order took
