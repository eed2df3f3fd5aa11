-- What the place words of a closed table say of the messages that its seats sent: each link's messages stand in one order, at their positions, and those that it took are the first ones.
use Rattle.std.specs.Prelude.{◌≡◌, ◌⊎◌, ℕ, ◌*◌, ◌<◌, ◌≤◌, nat_le, List, ◌++◌, length, flat_map, take, drop}
use Rattle.std.specs.Option.{ForSome}
use mathlib.Core.Option.{some}
use lib.ListN.{get_elem?}
use Rattle.atomic_table.specs.declared.shared.Seat.{Seat}
use Rattle.brpc_model.specs.PlaceWords.{word_at}
use Rattle.sock_io.specs.LinkHalves.{OutState}
use Rattle.sock_words.specs.declared.plain.Plan.{Plan}
use Rattle.sock_words.specs.declared.place_word.PlaceWord.{PlaceWord}
use Rattle.sock_words.specs.declared.vref.Vref.{Vref}
use Rattle.sock_words.specs.PackedWords.{no_place, place_word}
use Rattle.sock_model.specs.declared.view.View.{View}
use Rattle.sock_model.specs.SocketTableLayout.{request_index}
use Rattle.sock_rule.specs.LinkFaultNotes.{faults_of}
use Rattle.sock_table.specs.ClosedSocketTable.{ClosedBy}
use Rattle.chain_orders.specs.SentMessages.{Sent, index_of, sent_by, on_link, bytes_of}
use Rattle.chain_orders.specs.ListsInOneOrder.{AreMerged}
use Rattle.chain_orders.specs.MessagesInOneOrder.{IndexesDiffer, IsBegun, LinkFailed}

-- link k, with its writing half as it came back, the order of its messages, and the place word of each
pub record LinkPlaced {O S : Type 0} (state : O → OutState) (p : Plan) (seats : List (Seat S View)) (places : List PlaceWord) (outs : List O) (k : ℕ) (messages : List Sent) : Type 0 where
  pub out : O
  pub there : get_elem? outs k ≡ some out
  -- so many of them weren't dropped, the first ones
  pub kept : ℕ
  pub few : kept ≤ length messages
  -- the word of each tells its position, with the dropped bit behind these
  pub word : (i : ℕ) (m : Sent) → get_elem? messages i ≡ some m → index_of m < 8 * p.operations → word_at places (index_of m) ≡ place_word (nat_le kept i) k i
  -- what it took, as far as it tells that: these, each whole, and then at most a proper beginning of the next
  pub took : List ℕ
  pub tells : ForSome (state out).took (λ bytes. bytes ≡ took)
  pub part : List ℕ
  pub took_is : took ≡ bytes_of (take kept messages) ++ part
  pub begun : IsBegun part (drop kept messages)
  -- some were dropped only where its life was failed
  pub left : kept < length messages → LinkFailed p seats k
  -- it has faults where a seat noted one
  pub faulted : (c : ℕ) (s : Seat S View) → get_elem? seats c ≡ some s → 0 < faults_of k s.me.0 → 0 < (state out).faults

-- a message that link k accepted as its i-th has place index l
pub record StandsAt (p : Plan) (order : List Sent) (l : ℕ) : Type 0 where
  pub link : ℕ
  pub position : ℕ
  pub message : Sent
  pub inside : link < p.links
  pub there : get_elem? (on_link link order) position ≡ some message
  pub index : index_of message ≡ l

-- all messages of these seats stand in one order, and the place words tell the order of each link
pub record PlacedInOrder {O S : Type 0} (state : O → OutState) (p : Plan) (seats : List (Seat S View)) (places : List PlaceWord) (outs : List O) : Type 0 where
  pub order : List Sent
  pub merged : AreMerged (sent_by seats) order
  pub each : (k : ℕ) → k < p.links → LinkPlaced state p seats places outs k (on_link k order)
  -- a word that isn't 0 is that of a message
  pub shown : (l : ℕ) → l < 8 * p.operations → (word_at places l ≡ no_place) ⊎ StandsAt p order l
  -- where each request was found taken there are as many messages at least
  pub full : ((q : ℕ) → q < p.requests → (n : ℕ) × (get_elem? (flat_map (λ (s : Seat S View). s.me.0.found) seats) n ≡ some (request_index p q))) → p.requests ≤ length order

-- whatever seats with these lists a table of this plan was closed with
abbrev pub PlacesMessages : {O S : Type 0} → (O → OutState) → List (Seat S View) → Type 0
PlacesMessages {O = O} state seats = (p : Plan) (places : List PlaceWord) (vrefs : List Vref) (outs : List O) → ClosedBy state p seats places vrefs outs → IndexesDiffer (sent_by seats) → PlacedInOrder state p seats places outs
