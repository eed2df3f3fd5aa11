-- What a seat does at the table of sockets, one deed after the other: whoever sits there, and whatever he does besides.
use Rattle.std.specs.Prelude.{◌≡◌, ◌⊎◌, ℕ, suc, ◌<◌, true, List, [], ◌∷◌, Option, Some, None}
use Rattle.sock_io.specs.declared.link.Out.{Ghosts}
use Rattle.sock_io.specs.LinkHalves.{OutState}
use Rattle.sock_words.specs.declared.plain.Plan.{Plan}
use Rattle.sock_words.specs.declared.outcome.Outcome.{Outcome}
use Rattle.sock_words.specs.declared.socket_id.SocketId.{SocketId}
use Rattle.sock_model.specs.declared.view.View.{View}
use Rattle.sock_model.specs.SocketTableLayout.{place_index}
use Rattle.rpc_client.specs.sock_rule.specs.OnTable.{put_in}
use Rattle.rpc_client.specs.sock_rule.specs.declared.homes.Letter.{Letter}
use Rattle.rpc_client.specs.sock_rule.specs.declared.homes.SockHome.{SockHome}
use Rattle.rpc_client.specs.sock_table.specs.declared.finding.Noted.{Noted}
use Rattle.rpc_client.specs.sock_table.specs.declared.refs.SockRef.{SockRef}
use Rattle.rpc_client.specs.sock_table.specs.NamesStoredAndFound.{Found, NotedAs}
use Rattle.rpc_client.specs.sock_table.specs.ReferenceAnswers.{Held as HeldOne, GoneFrom, NoneLater, LinkOf}
use Rattle.rpc_client.specs.write_chain.specs.NotingWhileWriting.{Met_by}
use Rattle.rpc_client.specs.write_chain.specs.WritingRightInHand.{FoundDead}
use Rattle.rpc_client.specs.declared.holding.Held.{Held}
use Rattle.rpc_client.specs.declared.reaching.Reached.TheVariants as reached
use Rattle.rpc_client.specs.ReachingByName.{ReachedBy}
use Rattle.rpc_client.specs.OpenOutcomes.{OpenedBy}
use Rattle.rpc_client.specs.HoldAndDropOutcomes.{HeldBy, DroppedBy}
use Rattle.rpc_client.specs.FailOutcomes.{SetBy, FailedBy}
use Rattle.rpc_client.specs.SendingOutcomes.{Returned, DeliveredBy, ByName}
use Rattle.sock_words.specs.PackedWords.{place_word}

-- what a seat has between two deeds: its view, and the references that it keeps by their names
pub record Hand : Type 0 where
  pub view : View
  pub held : List Held

-- ## Messages

-- a word that is stored while the link of the life of this id is written: it stands at the place of a message of this link that was dropped, and the seat had found the life failed
pub record IsDropWord (p : Plan) (id : ℕ) (v : View) (x n : ℕ) : Type 0 where
  pub place : ℕ
  pub at_place : x ≡ place_index p place
  pub link : ℕ
  pub position : ℕ
  pub low : position < 4294967295
  pub word_is : n ≡ place_word true link position
  pub met : Met_by id v link
  pub dead : FoundDead id v

abbrev pub StoresDrops : Plan → ℕ → View → View → Type 0
StoresDrops p id v w = (x n : ℕ) → put_in x n v < put_in x n w → IsDropWord p id w x n

-- whoever sees a message through stores no other words
abbrev pub DropsBy : {O : Type 0} (state : O → OutState) (p : Plan) (sock : SockRef) (msg : Letter) (by : Option Outcome) (v w : View) → DeliveredBy state p sock msg by v w → Type 0
DropsBy state p sock msg None v w d = StoresDrops p sock.id.0 d.taken d.through.wrote
DropsBy state p sock msg (Some by) v w d = Unit {0}

-- a message that was sent with a reference, which was got by the name; its sender may have asked for the link first
pub record SentOver {O : Type 0} (state : O → OutState) (p : Plan) (n : ℕ) (msg : Letter) (by : Option Outcome) (v w : View) : Type 0 where
  pub sock : SockRef
  pub has : View
  pub reached_it : ReachedBy p n (reached.Here sock) v has
  pub addressed : View
  pub link_asked : (addressed ≡ has) ⊎ ((k : ℕ) × LinkOf p k sock.id.0 has addressed)
  pub delivered : DeliveredBy state p sock msg by addressed w
  pub dropped : DropsBy state p sock msg by addressed w delivered

-- none of a message that was accepted
abbrev pub MessageBy : {O : Type 0} → (O → OutState) → Plan → ℕ → Letter → Option Outcome → View → View → Type 0
MessageBy state p n msg by v w = ByName (SentOver state p n msg) p n by v w

-- ## Deeds

-- those of an operation have its number, and what became of them
pub data Did : Type 0 where
  -- under a name, with the pass of a link
  opens : (name number link : ℕ) (by : Outcome) → Did
  -- the message of a send, or the frame of an attempt of a call; a send has one attempt, number 0
  sends : (name number attempt : ℕ) (msg : Letter) (by : Option Outcome) → Did
  holds : (name number : ℕ) (by : Outcome) → Did
  drops : (name number : ℕ) (by : Outcome) → Did
  fails : (name number code : ℕ) (by : Outcome) → Did
  -- a socket was found under the name
  waits : (name : ℕ) → Did
  -- what was noted for the `open` of this number was read
  looks : (number : ℕ) (noted : Noted) → Did
  -- by the id: a reference was taken, or was not since the id is gone; the life was set failed, of whose slot no later version had been seen; the reference was given back
  takes : (id : ℕ) → Did
  misses : (id found : ℕ) → Did
  sets : (id code : ℕ) (by : Outcome) → Did
  returns : (id : ℕ) → Did

-- the name under which it looks for a socket, or opens one, and the number of the operation
abbrev pub name_and_number : Did → Option (ℕ × ℕ)
name_and_number (opens name number link by) = Some (name, number)
name_and_number (sends name number attempt msg by) = Some (name, number)
name_and_number (holds name number by) = Some (name, number)
name_and_number (drops name number by) = Some (name, number)
name_and_number (fails name number code by) = Some (name, number)
name_and_number other = None

abbrev pub own_name : Did → Option ℕ
own_name d = elim (name_and_number d) as (λ o. Option ℕ) [ None ↦ None | Some x ↦ Some x.0 ]

-- the number of the operation for which it is done; a retry is done for whoever began the call
abbrev pub own_number : Did → Option ℕ
own_number (sends name number (suc k) msg by) = None
own_number d = elim (name_and_number d) as (λ o. Option ℕ) [ None ↦ None | Some x ↦ Some x.1 ]

-- an `open`, whatever the homes are that the seat has in hand
abbrev pub OpenedOn : {O : Type 0} → Ghosts O → Plan → ℕ → ℕ → ℕ → Outcome → View → View → Type 0
OpenedOn {O} g p name number link by v w = (a b : List (ℕ × SockHome O g)) × OpenedBy p name number link by (v, a) (w, b)

module _ {O : Type 0} (g : Ghosts O) (state : O → OutState) (p : Plan) where
  abbrev pub DoneBy : Did → Hand → Hand → Type 0
  DoneBy (opens name number link by) s t = OpenedOn g p name number link by s.view t.view × (t.held ≡ s.held) × (t.view.lists ≡ s.view.lists)
  DoneBy (sends name number attempt msg by) s t = MessageBy state p name msg by s.view t.view × (t.held ≡ s.held)
  DoneBy (holds name number by) s t = HeldBy p name by s.held s.view t.held t.view
  DoneBy (drops name number by) s t = DroppedBy name by s.held s.view t.held t.view
  DoneBy (fails name number code by) s t = FailedBy p name code by s.view t.view × (t.held ≡ s.held)
  DoneBy (waits name) s t = ((id : SocketId) × Found p name (Some id) s.view t.view) × (t.held ≡ s.held)
  DoneBy (looks number noted) s t = NotedAs p number noted s.view t.view × (t.held ≡ s.held)
  DoneBy (takes id) s t = NoneLater id s.view × HeldOne id s.view t.view × (t.held ≡ s.held)
  DoneBy (misses id found) s t = GoneFrom id found s.view t.view × (t.held ≡ s.held)
  DoneBy (sets id code by) s t = SetBy id code by s.view t.view × (t.held ≡ s.held) × NoneLater id s.view
  DoneBy (returns id) s t = Returned id s.view t.view × (t.held ≡ s.held)

  -- a deed, with what the seat had before and behind it
  pub record Deed : Type 0 where
    pub did : Did
    pub before : Hand
    pub after : Hand
    pub done : DoneBy did before after

  -- each behind the one before, from here to there
  abbrev pub Chain : List Deed → Hand → Hand → Type 0
  Chain [] s t = t ≡ s
  Chain (d ∷ ds) s t = (d.before ≡ s) × Chain ds d.after t
