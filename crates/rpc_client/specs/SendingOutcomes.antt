-- What becomes of a `send`.
use Rattle.std.specs.Prelude.{◌≡◌, ◌⊎◌, ℕ, true, Bool, List, [], ◌∷◌, ◌++◌, Option, Some, None, All}
use Rattle.sock_io.specs.LinkHalves.{OutState}
use Rattle.sock_words.specs.declared.plain.Plan.{Plan}
use Rattle.sock_words.specs.declared.outcome.Outcome.{Outcome}
use Rattle.sock_words.specs.declared.outcome.Outcome.TheVariants as outcome
use Rattle.sock_words.specs.PackedWords.{socket_id_version, socket_id_slot, place_word}
use Rattle.sock_model.specs.declared.chain.Heading.{Heading}
use Rattle.sock_model.specs.declared.marks.Mark.{Mark}
use Rattle.sock_model.specs.declared.marks.Mark.TheVariants.{Hold, Saw}
use Rattle.sock_model.specs.declared.view.View.{View}
use Rattle.sock_model.specs.declared.view.StoredWord.{StoredWord}
use Rattle.sock_model.specs.SocketTableLayout.{place_index}
use Rattle.sock_model.specs.Marks as marks
use Rattle.write_chain.specs.message_parts.specs.Parcels.{parcel_of}
use Rattle.sock_rule.specs.MarksComeAndGo.{Became}
use Rattle.sock_rule.specs.Shows.{heading_of}
use Rattle.sock_rule.specs.declared.homes.Letter.{Letter}
use Rattle.sock_table.specs.ReferenceCalls.{GaveBack}
use Rattle.sock_table.specs.ReferenceAnswers.{Holds}
use Rattle.sock_table.specs.declared.refs.SockRef.{SockRef}
use Rattle.write_chain.specs.declared.entry.Started.TheVariants as started
use Rattle.write_chain.specs.declared.entry.Refused.{Refused}
use Rattle.write_chain.specs.declared.entry.Refused.TheVariants as refused
use Rattle.write_chain.specs.NotingWhileWriting.{Noted, Met_by}
use Rattle.write_chain.specs.SendingIntoChain.{Accepted, RefusedBy}
use Rattle.rpc_client.specs.declared.reaching.Reached.TheVariants as reached
use Rattle.rpc_client.specs.ReachingByName.{ReachedBy}

-- these words were noted, the last one first
abbrev pub with_notes : List StoredWord → List (List StoredWord) → List (List StoredWord)
with_notes [] all = all
with_notes (n ∷ ns) all = marks.noted n (with_notes ns all)

-- the word of a place index with the dropped bit, and a link that the seat found to be that of the life of this id
pub record IsDrop (p : Plan) (id : ℕ) (w : View) (n : StoredWord) : Type 0 where
  pub place : ℕ
  pub link : ℕ
  pub position : ℕ
  pub word_is : n ≡ record { place = place_index p place; word = place_word true link position }
  pub met : Met_by id w link

-- a seat wrote the link of the life of this id until the head was empty. It noted what it dropped; its right is gone, and all else is as it was, but for notes
pub record WroteAll {O : Type 0} (state : O → OutState) (p : Plan) (id : ℕ) (v w : View) : Type 0 where
  pub drops : List StoredWord
  pub are_drops : All (IsDrop p id w) drops
  pub stores : w.stores ≡ with_notes drops v.stores
  -- what stands with these messages
  pub headings : List Heading
  pub headings_are : w.drops ≡ headings ++ v.drops
  pub notes : List Mark
  pub noted : Noted state (Met_by id w) (socket_id_version id) notes
  pub became : Became (socket_id_slot id) v (record w { rights = v.rights; stores = v.stores; drops = v.drops }) notes []

-- the reference is given back
pub record Returned (id : ℕ) (v w : View) : Type 0 where
  pub ended : Bool
  pub back : GaveBack (socket_id_slot id) v w (Hold (socket_id_version id)) ended

-- a refused message's reference
abbrev pub RefusedHolds : Plan → Refused → View → Type 0
RefusedHolds p (refused.Failed sock msg found) v = Holds p v sock.id.0
RefusedHolds p (refused.Full sock msg) v = Holds p v sock.id.0

abbrev pub RefusedAs : Refused → Outcome → View → View → Type 0
RefusedAs (refused.Failed sock msg found) o v w = (o ≡ outcome.Gone found) × Returned sock.id.0 v w
RefusedAs (refused.Full sock msg) o v w = (o ≡ outcome.Full) × Returned sock.id.0 v w

-- whoever had the right wrote, and the reference was given back
pub record SeenThrough {O : Type 0} (state : O → OutState) (p : Plan) (id : ℕ) (v w : View) : Type 0 where
  pub wrote : View
  pub by : WroteAll state p id v wrote
  pub returned : Returned id wrote w

-- the message stands at the end of the seat's own list; and then it was seen through
pub record WentOut {O : Type 0} (state : O → OutState) (p : Plan) (id : ℕ) (heading : Heading) (bytes : List ℕ) (v w : View) : Type 0 where
  pub taken : View
  pub accepted : Accepted (Saw (socket_id_version id) ∷ []) p id heading bytes v taken
  pub through : SeenThrough state p id taken w

-- it was refused for this reason
pub record CameBack (p : Plan) (sock : SockRef) (msg : Letter) (by : Refused) (v w : View) : Type 0 where
  pub refused_at : View
  pub refused_by : RefusedBy p sock msg by v refused_at
  pub returned : Returned sock.id.0 refused_at w

-- of a message that is sent with a reference: it was accepted, or the life had been failed, or each request was found taken
abbrev pub DeliveredBy : {O : Type 0} → (O → OutState) → Plan → SockRef → Letter → Option Outcome → View → View → Type 0
DeliveredBy state p sock msg None v w = WentOut state p sock.id.0 (heading_of msg) (parcel_of msg.bytes).bytes v w
DeliveredBy state p sock msg (Some (outcome.Gone found)) v w = CameBack p sock msg (refused.Failed sock msg found) v w
DeliveredBy state p sock msg (Some outcome.Full) v w = CameBack p sock msg (refused.Full sock msg) v w
DeliveredBy state p sock msg (Some _) v w = ⊥

-- with a reference that was got by the name
pub record SentWith {O : Type 0} (state : O → OutState) (p : Plan) (n : ℕ) (msg : Letter) (by : Option Outcome) (v w : View) : Type 0 where
  pub sock : SockRef
  pub has : View
  pub reached_it : ReachedBy p n (reached.Here sock) v has
  pub delivered : DeliveredBy state p sock msg by has w

-- of a message that goes to the socket of a name: `Unopened` where nothing was opened under it; `Gone` where the life is gone, or by what `Goes` says; accepted or `Full` by what `Goes` says; and told nothing else
abbrev pub ByName : (Option Outcome → View → View → Type 0) → Plan → ℕ → Option Outcome → View → View → Type 0
ByName Goes p n None v w = Goes None v w
ByName Goes p n (Some outcome.Unopened) v w = ReachedBy p n reached.Unopened v w
ByName Goes p n (Some (outcome.Gone found)) v w = ReachedBy p n (reached.Gone found) v w ⊎ Goes (Some (outcome.Gone found)) v w
ByName Goes p n (Some outcome.Full) v w = Goes (Some outcome.Full) v w
ByName Goes p n (Some _) v w = ⊥

abbrev pub SentBy : {O : Type 0} → (O → OutState) → Plan → ℕ → Letter → Option Outcome → View → View → Type 0
SentBy state p n msg by v w = ByName (SentWith state p n msg) p n by v w
