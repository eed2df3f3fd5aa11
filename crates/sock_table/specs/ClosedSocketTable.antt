-- The seats that are handed in at the end, and what the table's last words say of them.
use Rattle.std.specs.Prelude.{◌≡◌, ℕ, ◌+◌, ◌*◌, ◌<◌, ◌⊎◌, true, false, List, [], ◌∷◌, length, map, vec_len, vec_capacity}
use Rattle.std.specs.List.{flat_map}
use Rattle.atomic_table.specs.Seated.{TableId}
use Rattle.atomic_table.specs.declared.shared.Seat.{Seat}
use Rattle.sock_words.specs.declared.plain.Plan.{Plan}
use Rattle.sock_words.specs.declared.vref.Vref.{Vref}
use Rattle.sock_words.specs.declared.place_word.PlaceWord.{PlaceWord}
use Rattle.sock_model.specs.declared.view.View.{View}
use Rattle.sock_model.specs.MarkWeights.{is_linked, is_freer}
use Rattle.sock_model.specs.SlotRows.{marks_of}
use Rattle.sock_model.specs.SocketTableLayout.{ref_index, place_index}
use Rattle.sock_rule.specs.LinkFaultNotes.{faults_of, ends_of}
use Rattle.sock_rule.specs.SocketSeatSplits.{IsSeat, IsDone}
use Rattle.sock_rule.specs.ClosingWordsAndNotes.{IsAtRest, Closing, Ordered, PlaceOf, IsDropTold, IsLogged, LinkTook}
use Rattle.std.specs.Prelude.{slice_index}
use Rattle.std.specs.Option.{ForSome}
use Rattle.sock_io.specs.declared.link.Out.{Ghosts}
use Rattle.sock_io.specs.LinkHalves.{OutState}
use Rattle.sock_model.specs.declared.chain.Entry.{Entry}
use Rattle.sock_model.specs.declared.chain.Heading.{Heading}
use Rattle.sock_table.specs.declared.closing.Closed.{Closed}
use Rattle.sock_rule.specs.declared.homes.LinkHome.{LinkHome}
use Rattle.sock_rule.specs.declared.homes.SockHome.{SockHome}
use Rattle.sock_rule.specs.declared.homes.SockHome.TheVariants.{Link}
use mathlib.Core.Option.{some}
use lib.ListN.{get_elem?}

-- a seat of the table that holds nothing
pub record IsDoneSeat {S : Type 0} (z : TableId) (p : Plan) (s : Seat S View) : Type 0 where
  pub seat : IsSeat z p s
  pub slots : s.me.1 ≡ []
  pub done : IsDone p s.me.0
  pub rest : IsAtRest p s.me.0

abbrev pub AllDone : {S : Type 0} → TableId → Plan → List (Seat S View) → Type 0
AllDone z p [] = Unit {0}
AllDone z p (s ∷ ss) = IsDoneSeat z p s × AllDone z p ss

-- a view has what these seats noted, that of each in its place
pub record HasAll {S : Type 0} (seats : List (Seat S View)) (v : View) : Type 0 where
  pub marks : v.marks ≡ flat_map (λ (s : Seat S View). s.me.0.marks) seats
  pub finds : v.finds ≡ flat_map (λ (s : Seat S View). s.me.0.finds) seats
  pub histories : v.histories ≡ flat_map (λ (s : Seat S View). s.me.0.histories) seats
  pub drops : v.drops ≡ flat_map (λ (s : Seat S View). s.me.0.drops) seats
  pub stores : v.stores ≡ flat_map (λ (s : Seat S View). s.me.0.stores) seats
  pub lists : v.lists ≡ flat_map (λ (s : Seat S View). s.me.0.lists) seats
  pub found : v.found ≡ flat_map (λ (s : Seat S View). s.me.0.found) seats

-- n of them have the words that stand at these places
abbrev pub WordsAre : {A : Type 0} → (A → ℕ) → (ℕ → ℕ) → ℕ → List A → List ℕ → Type 0
WordsAre {A} word at n xs ws = (i : ℕ) → i < n → (x : A) × (get_elem? xs i ≡ some x) × (word x ≡ slice_index ws (at i))

-- behind the homes of requests stand those of the links
abbrev pub AreLinks : {O : Type 0} {g : Ghosts O} → ℕ → ℕ → List (SockHome O g) → Type 0
AreLinks {O} {g} requests links homes = (k : ℕ) → k < links → (h : LinkHome O g) × (get_elem? homes (requests + k) ≡ some (Link h))

-- the halves of the first n links, in their order
abbrev pub OutsOf : {O : Type 0} {g : Ghosts O} → ℕ → ℕ → List O → List (SockHome O g) → Type 0
OutsOf {O} {g} requests n outs homes = (k : ℕ) → k < n → (h : LinkHome O g) × (get_elem? outs k ≡ some h.out) × (get_elem? homes (requests + k) ≡ some (Link h))

-- the writing half of link k comes back, the one that was handed in for it, with what it took
pub record OutBack {O : Type 0} (state : O → OutState) (p : Plan) (v : View) (log : List Entry) (words : List ℕ) (outs : List O) (k : ℕ) : Type 0 where
  pub out : O
  pub there : get_elem? outs k ≡ some out
  pub own : (state out).link ≡ k
  pub took : List ℕ
  pub tells : ForSome (state out).took (λ bytes. bytes ≡ took)
  pub took_is : LinkTook p v log words k took
  -- it has faults where a seat noted one of its link
  pub faulted : 0 < faults_of k v → 0 < (state out).faults
  -- it is finished where a seat noted that it went home so
  pub finished : 0 < ends_of p k v → (state out).finished ≡ true
  -- it isn't finished where the life that it was given hasn't ended
  pub unfinished : (i h : ℕ) → i < p.slots → 0 < marks_of (is_linked h k) i v → marks_of (is_freer h) i v ≡ 0 → (state out).finished ≡ false

-- which way the bytes of each half go
abbrev pub ways_of : {O : Type 0} → (O → OutState) → List O → List (List ℕ)
ways_of state outs = map (λ o. (state o).way) outs

-- room for what a table of this plan leaves: its words, and as many writing halves as it has links
pub record IsRoomOf {O : Type 0} (p : Plan) (c : Closed O) : Type 0 where
  pub places : length c.places.items ≡ 8 * p.operations
  pub vrefs : length c.vrefs.items ≡ p.slots
  pub empty : (c.outs.items ≡ []) × (vec_len c.outs ≡ 0)
  pub room : vec_capacity c.outs ≡ p.links

-- what the words and the notes of all seats, those of each in its place, say
pub record ClosedBy {O S : Type 0} (state : O → OutState) (p : Plan) (seats : List (Seat S View)) (places : List PlaceWord) (vrefs : List Vref) (outs : List O) : Type 0 where
  pub view : View
  pub words : List ℕ
  pub marks : view.marks ≡ flat_map (λ (s : Seat S View). s.me.0.marks) seats
  pub finds : view.finds ≡ flat_map (λ (s : Seat S View). s.me.0.finds) seats
  -- what each seat met at its finds and stores is the end of one order of all that was stored (`closing.stored`)
  pub histories : view.histories ≡ flat_map (λ (s : Seat S View). s.me.0.histories) seats
  pub drops : view.drops ≡ flat_map (λ (s : Seat S View). s.me.0.drops) seats
  pub stores : view.stores ≡ flat_map (λ (s : Seat S View). s.me.0.stores) seats
  -- the lists of accepted messages: those of each seat in its place, each in its own order
  pub lists : view.lists ≡ flat_map (λ (s : Seat S View). s.me.0.lists) seats
  pub found : view.found ≡ flat_map (λ (s : Seat S View). s.me.0.found) seats
  pub ordered : Ordered p view.found view.lists
  pub closing : Closing p view words
  -- one reference word for each slot, and one place word for each place index, and nothing behind them
  pub each : WordsAre (λ (x : Vref). x.0) ref_index p.slots vrefs words
  pub placed : WordsAre (λ (x : PlaceWord). x.0) (place_index p) (8 * p.operations) places words
  pub sized : (length vrefs ≡ p.slots) × (length places ≡ 8 * p.operations)
  -- the word of a place index is 0, or the place of an accepted message that has this index
  pub shown : (l : ℕ) → l < 8 * p.operations → (slice_index words (place_index p l) ≡ 0) ⊎ PlaceOf p ordered.log words l
  -- which of them have the dropped bit: those of the messages that the seats noted as dropped, where the places of all labels differ
  pub dropped : (l : ℕ) → l < 8 * p.operations → IsDropTold p ordered.log view words l
  -- each message that a seat dropped stands in the order
  pub drops_logged : (n : ℕ) (h : Heading) → get_elem? view.drops n ≡ some h → IsLogged ordered.log h
  -- one half for each link, and no more
  pub count : length outs ≡ p.links
  pub outs_back : (k : ℕ) → k < p.links → OutBack state p view ordered.log words outs k
