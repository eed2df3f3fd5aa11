-- Links that are read beside the clients, each by a reader with seats of its own: what a reader did, and what it leaves.
use Rattle.std.specs.Prelude.{◌≡◌, ℕ, ◌+◌, false, List, [], ◌∷◌, map, Option}
use Rattle.atomic_table.specs.declared.shared.Seat.{Seat}
use Rattle.sock_io.specs.declared.link.Out.{Ghosts}
use Rattle.sock_io.specs.LinkHalves.{InState}
use Rattle.sock_io.specs.Peer.{PeerState}
use Rattle.sock_words.specs.declared.plain.Plan.{Plan}
use Rattle.sock_model.specs.declared.view.View.{View}
use Rattle.sock_model.specs.ViewsOfSplitSeats.{newcomer}
use Rattle.corr_core.specs.declared.marks.Plan as id_plan
use Rattle.corr_core.specs.declared.marks.View as id_view
use Rattle.id_rule.specs.LawfulIdTable.{newcomer as id_newcomer}
use Rattle.sock_message.specs.Asked.{Asked}
use Rattle.sock_rule.specs.declared.homes.SockHome.{SockHome}
use Rattle.call_client.specs.rpc_client.specs.declared.acting.Told.{Told}
use Rattle.rpc_reader.specs.prpc_frame.specs.declared.frame.Frame.{Frame}
use Rattle.rpc_reader.specs.ReaderBooks.{Books}
use Rattle.rpc_reader.specs.ReaderRunFromOpen.{RanBy}
use Rattle.link_crew.specs.ServingOtherEnd.{ServedToEnd}

-- ## A reader

-- the reader of a link: the number of the `open` for whose socket it waited, its seats as they are in the end, the reading half before and behind, and what it told and keeps
pub record LinkReader {O : Type 0} (g : Ghosts O) : Type 0 where
  pub link : ℕ
  pub operation : ℕ
  pub seat : Seat (SockHome O g) View
  pub ids : Seat (Option Asked) (id_view.View Asked)
  pub before : InState
  pub behind : InState
  pub books : Books

-- what a reader has before it reads: a seat that noted nothing
abbrev pub nothing_read : Books
nothing_read = record { view = id_newcomer; early = []; told = []; starved = false }

-- with new seats it waited for the socket of its link, and read that to its end; memory was wanting nowhere
pub record IsReader {O : Type 0} {g : Ghosts O} (p : Plan) (q : id_plan.Plan) (calls : List ℕ) (x : LinkReader g) : Type 0 where
  pub spare : ℕ
  pub ran : RanBy q x.link calls false false x.before x.behind p x.operation (newcomer p [] spare) x.seat.me.0 nothing_read x.books
  pub view_is : x.ids.me.0 ≡ x.books.view

-- those of the links from this one on, each for its `open`
abbrev pub AreReaders : {O : Type 0} {g : Ghosts O} → Plan → id_plan.Plan → List ℕ → ℕ → List ℕ → List (LinkReader g) → Type 0
AreReaders p q calls link [] [] = Unit {0}
AreReaders p q calls link (o ∷ os) (x ∷ xs) = IsReader p q calls x × (x.link ≡ link) × (x.operation ≡ o) × AreReaders p q calls (link + 1) os xs
AreReaders p q calls link [] (x ∷ xs) = ⊥
AreReaders p q calls link (o ∷ os) [] = ⊥

-- ## What they leave

-- the other ends were served to their ends, in their order, and memory was wanting for none
abbrev pub AllServed : List PeerState → List PeerState → Type 0
AllServed [] [] = Unit {0}
AllServed (s ∷ ss) (t ∷ ts) = ServedToEnd false s t × AllServed ss ts
AllServed [] (t ∷ ts) = ⊥
AllServed (s ∷ ss) [] = ⊥

-- these readers read these reading halves, whose other ends were served beside, and leave their seats of the ids, what they told, and the responses that they keep
pub record AreLeftBy {O : Type 0} {g : Ghosts O} (readers : List (LinkReader g)) (inns inns' : List InState) (peers peers' : List PeerState) (ids : List (Seat (Option Asked) (id_view.View Asked))) (told : List (List Told)) (early : List (List Frame)) : Type 0 where
  pub before : map (λ (x : LinkReader g). x.before) readers ≡ inns
  pub behind : map (λ (x : LinkReader g). x.behind) readers ≡ inns'
  pub served : AllServed peers peers'
  pub ids_are : map (λ (x : LinkReader g). x.ids) readers ≡ ids
  pub told_is : map (λ (x : LinkReader g). x.books.told) readers ≡ told
  pub early_is : map (λ (x : LinkReader g). x.books.early) readers ≡ early
