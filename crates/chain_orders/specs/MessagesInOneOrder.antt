-- What a closed table says of the messages that its seats sent: each link took them in one order, each seat's in its own.
use Rattle.std.specs.Prelude.{◌≡◌, ◌≢◌, ◌⊎◌, ℕ, ◌<◌, List, [], ◌∷◌, ◌++◌, map}
use Rattle.std.specs.Option.{ForSome}
use mathlib.Core.Option.{some}
use lib.ListN.{get_elem?}
use Rattle.atomic_table.specs.declared.shared.Seat.{Seat}
use Rattle.sock_io.specs.LinkHalves.{OutState}
use Rattle.sock_words.specs.declared.plain.Plan.{Plan}
use Rattle.sock_words.specs.declared.place_word.PlaceWord.{PlaceWord}
use Rattle.sock_words.specs.declared.vref.Vref.{Vref}
use Rattle.sock_model.specs.declared.view.View.{View}
use Rattle.sock_model.specs.MarkWeights.{is_failer, is_linked}
use Rattle.sock_model.specs.SlotRows.{marks_of}
use Rattle.sock_table.specs.ClosedSocketTable.{ClosedBy}
use Rattle.chain_orders.specs.SentMessages.{Sent, index_of, sent_by, on_link, bytes_of}
use Rattle.chain_orders.specs.ListsInOneOrder.{AreMerged}

-- no two messages of these lists have the same place index
abbrev pub IndexesDiffer : List (List Sent) → Type 0
IndexesDiffer lists = (c d m n : ℕ) (l k : List Sent) (x y : Sent) → get_elem? lists c ≡ some l → get_elem? lists d ≡ some k → get_elem? l m ≡ some x → get_elem? k n ≡ some y → index_of x ≡ index_of y → (c ≡ d) × (m ≡ n)

-- a proper beginning of the first message of these, or nothing
abbrev pub IsBegun : List ℕ → List Sent → Type 0
IsBegun part [] = part ≡ []
IsBegun part (m ∷ ms) = (part ≡ []) ⊎ ((more : List ℕ) × (m.bytes ≡ part ++ more) × (more ≢ []))

-- of these messages the first ones, each whole, one after the other, and then at most a proper beginning of the next
pub record TookInOrder (messages : List Sent) (took : List ℕ) : Type 0 where
  pub whole : List Sent
  pub rest : List Sent
  pub messages_are : messages ≡ whole ++ rest
  pub part : List ℕ
  pub took_is : took ≡ bytes_of whole ++ part
  pub begun : IsBegun part rest

-- one of these seats failed a life that was given link k, by a pass that one of them had
pub record LinkFailed {S : Type 0} (p : Plan) (seats : List (Seat S View)) (k : ℕ) : Type 0 where
  pub slot : ℕ
  pub version : ℕ
  pub inside : slot < p.slots
  pub giver : Seat S View
  pub gives : (c : ℕ) × (get_elem? seats c ≡ some giver)
  pub given : 0 < marks_of (is_linked version k) slot giver.me.0
  pub failer : Seat S View
  pub fails : (c : ℕ) × (get_elem? seats c ≡ some failer)
  pub failed : 0 < marks_of (is_failer version) slot failer.me.0

-- none of these seats failed a life
abbrev pub NoneFailed : {S : Type 0} → Plan → List (Seat S View) → Type 0
NoneFailed {S = S} p seats = (c : ℕ) (s : Seat S View) → get_elem? seats c ≡ some s → (i h : ℕ) → i < p.slots → marks_of (is_failer h) i s.me.0 ≡ 0

-- link k, with its writing half as it came back and the order of its messages
pub record LinkInOrder {O S : Type 0} (state : O → OutState) (p : Plan) (seats : List (Seat S View)) (outs : List O) (k : ℕ) (messages : List Sent) : Type 0 where
  pub out : O
  pub there : get_elem? outs k ≡ some out
  pub own_link : (state out).link ≡ k
  -- each seat's messages to it stand in that seat's order
  pub merged : AreMerged (map (on_link k) (sent_by seats)) messages
  -- what it took, as far as it tells that
  pub took : List ℕ
  pub tells : ForSome (state out).took (λ bytes. bytes ≡ took)
  pub took_in : TookInOrder messages took
  -- some are left only where its life was failed
  pub left : took_in.rest ≢ [] → LinkFailed p seats k
  -- and so it took all of them, each whole, where no seat failed a life
  pub all : NoneFailed p seats → took ≡ bytes_of messages

-- all messages of these seats stand in one order, and each link took those to it in that order
pub record InOneOrder {O S : Type 0} (state : O → OutState) (p : Plan) (seats : List (Seat S View)) (outs : List O) : Type 0 where
  pub order : List Sent
  pub merged : AreMerged (sent_by seats) order
  pub each : (k : ℕ) → k < p.links → LinkInOrder state p seats outs k (on_link k order)

-- whatever seats with these lists a table of this plan was closed with
abbrev pub OrdersMessages : {O S : Type 0} → (O → OutState) → List (Seat S View) → Type 0
OrdersMessages {O = O} state seats = (p : Plan) (places : List PlaceWord) (vrefs : List Vref) (outs : List O) → ClosedBy state p seats places vrefs outs → IndexesDiffer (sent_by seats) → InOneOrder state p seats outs
