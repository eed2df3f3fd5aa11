-- What becomes of a message of a client that has calls.
use Rattle.std.specs.Prelude.{◌≡◌, ◌⊎◌, ℕ, List, [], ◌∷◌, Option, Some, None}
use Rattle.atomic_table.specs.Seated.{TableId}
use Rattle.atomic_table.specs.declared.shared.Seat.{Seat}
use Rattle.sock_io.specs.LinkHalves.{OutState}
use Rattle.sock_words.specs.declared.plain.Plan.{Plan}
use Rattle.sock_words.specs.declared.outcome.Outcome.{Outcome}
use Rattle.sock_words.specs.declared.outcome.Outcome.TheVariants as outcome
use Rattle.sock_words.specs.PackedWords.{socket_id_version}
use Rattle.sock_model.specs.declared.chain.Heading.{Heading}
use Rattle.sock_model.specs.declared.marks.Mark.TheVariants.{Saw}
use Rattle.sock_model.specs.declared.view.View.{View}
use Rattle.sock_rule.specs.message_parts.specs.Parcels.{parcel_of}
use Rattle.sock_rule.specs.Shows.{heading_of}
use Rattle.sock_rule.specs.declared.homes.Letter.{Letter}
use Rattle.sock_table.specs.declared.refs.SockRef.{SockRef}
use Rattle.write_chain.specs.declared.entry.Refused.TheVariants as refused
use Rattle.write_chain.specs.SendingIntoChain.{Accepted}
use Rattle.call_errors.specs.rpc_client.specs.declared.reaching.Reached.TheVariants as reached
use Rattle.call_errors.specs.rpc_client.specs.ReachingByName.{ReachedBy}
use Rattle.call_errors.specs.rpc_client.specs.SeatBetweenOperations.{AtRest, StaysSeen, SameRefs}
use Rattle.call_errors.specs.rpc_client.specs.SendingOutcomes.{Returned, CameBack}
use Rattle.call_errors.specs.declared.seats.CallSeat.{CallSeat}
use Rattle.call_errors.specs.ClientBooks.{CallStand, KeepsSeat}
use Rattle.call_writes.specs.Draining.{Drained}

-- a client behind a step at both tables: its seat of the sockets is at rest, with the same references and all that it had seen, and that of the ids has no lock
pub record Rested {S : Type 0} (z : TableId) (p : Plan) (y : TableId) (s t : Seat S View) (c d : CallSeat) : Type 0 where
  pub rest : AtRest z p s t
  pub refs : SameRefs s.me.0 t.me.0
  pub seen : StaysSeen s.me.0 t.me.0
  pub keeps : KeepsSeat y c d

module _ {O : Type 0} (state : O → OutState) (p : Plan) (slots : ℕ) where
  -- whoever had the right wrote, and told calls what was dropped; and the reference was given back
  pub record SeenCalling (id : ℕ) (v : View) (s : CallStand) (w : View) (t : CallStand) : Type 0 where
    pub wrote : View
    pub drained : Drained state p slots id v s wrote t
    pub returned : Returned id wrote w

  -- the message stands at the end of the seat's own list; and then it was seen through
  pub record WentCalling (id : ℕ) (heading : Heading) (bytes : List ℕ) (v : View) (s : CallStand) (w : View) (t : CallStand) : Type 0 where
    pub taken : View
    pub accepted : Accepted (Saw (socket_id_version id) ∷ []) p id heading bytes v taken
    pub through : SeenCalling id taken s w t

  -- of a message that is sent with a reference: it was accepted, or the life had been failed, or each request was found taken, and then nothing was done for calls
  abbrev pub DeliveredCalling : SockRef → Letter → Option Outcome → View → CallStand → View → CallStand → Type 0
  DeliveredCalling sock msg None v s w t = WentCalling sock.id.0 (heading_of msg) (parcel_of msg.bytes).bytes v s w t
  DeliveredCalling sock msg (Some (outcome.Gone found)) v s w t = CameBack p sock msg (refused.Failed sock msg found) v w × (t ≡ s)
  DeliveredCalling sock msg (Some outcome.Full) v s w t = CameBack p sock msg (refused.Full sock msg) v w × (t ≡ s)
  DeliveredCalling sock msg (Some _) v s w t = ⊥

  -- with a reference that was got by the name
  pub record SentWithCalling (n : ℕ) (msg : Letter) (by : Option Outcome) (v : View) (s : CallStand) (w : View) (t : CallStand) : Type 0 where
    pub sock : SockRef
    pub has : View
    pub reached_it : ReachedBy p n (reached.Here sock) v has
    pub delivered : DeliveredCalling sock msg by has s w t

  abbrev pub SentCalling : ℕ → Letter → Option Outcome → View → CallStand → View → CallStand → Type 0
  SentCalling n msg None v s w t = SentWithCalling n msg None v s w t
  SentCalling n msg (Some outcome.Unopened) v s w t = ReachedBy p n reached.Unopened v w × (t ≡ s)
  SentCalling n msg (Some (outcome.Gone found)) v s w t = (ReachedBy p n (reached.Gone found) v w × (t ≡ s)) ⊎ SentWithCalling n msg (Some (outcome.Gone found)) v s w t
  SentCalling n msg (Some outcome.Full) v s w t = SentWithCalling n msg (Some outcome.Full) v s w t
  SentCalling n msg (Some _) v s w t = ⊥
