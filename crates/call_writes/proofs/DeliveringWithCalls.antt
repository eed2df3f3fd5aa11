-- A message that was sent with calls, as one of sockets alone.
use Rattle.std.proofs.Common.{ℕ, Option, Some, None, refl, inr, ◌∙◌}
use Rattle.atomic_table.specs.Seated.{TableId}
use Rattle.atomic_table.specs.declared.shared.Seat.{Seat}
use Rattle.sock_io.specs.LinkHalves.{OutState}
use Rattle.sock_words.specs.declared.plain.Plan.{Plan}
use Rattle.sock_words.specs.declared.outcome.Outcome.{Outcome}
use Rattle.sock_words.specs.declared.outcome.Outcome.TheVariants as outcome
use Rattle.sock_model.specs.declared.view.View.{View}
use Rattle.sock_rule.specs.declared.homes.Letter.{Letter}
use Rattle.sock_table.specs.declared.refs.SockRef.{SockRef}
use Rattle.call_errors.specs.rpc_client.specs.declared.reaching.Reached.TheVariants.{Here}
use Rattle.call_errors.specs.rpc_client.specs.ReachingByName.{ReachedBy}
use Rattle.call_errors.specs.rpc_client.specs.SeatBetweenOperations.{Idle, AtRest, StaysSeen, OneMore}
use Rattle.call_errors.specs.rpc_client.specs.SendingOutcomes.{DeliveredBy}
use Rattle.call_errors.specs.rpc_client.proofs.FindingReferences.{seen_then}
use Rattle.call_errors.specs.rpc_client.proofs.SeatBehindDelivering.{delivered_refs, delivered_share, delivered_seen}
use Rattle.call_errors.specs.declared.seats.CallSeat.{CallSeat}
use Rattle.call_errors.specs.ClientBooks.{CallStand, stand_of, KeepsSeat}
use Rattle.call_writes.specs.MessageFateBesideCalls.{DeliveredCalling, SentCalling, Rested}
use Rattle.call_writes.proofs.Drains.{drained_all}

module _ {O : Type 0} (state : O → OutState) (p : Plan) (slots : ℕ) (sock : SockRef) (msg : Letter) where
  pub plainly : (o : Option Outcome) (v w : View) (s t : CallStand) → DeliveredCalling state p slots sock msg o v s w t → DeliveredBy state p sock msg o v w
  plainly None v w s t d = record { taken = d.taken; accepted = d.accepted; through = record { wrote = d.through.wrote; by = drained_all p slots sock.id.0 d.taken d.through.wrote s t d.through.drained; returned = d.through.returned } }
  plainly (Some (outcome.Gone found)) v w s t d = d.0
  plainly (Some outcome.Full) v w s t d = d.0
  plainly (Some _) v w s t d = elim d [ ]

  -- it came back, and nothing was done for calls
  pub came_back_calling : (o : Outcome) (v w : View) (s : CallStand) → DeliveredBy state p sock msg (Some o) v w → DeliveredCalling state p slots sock msg (Some o) v s w s
  came_back_calling (outcome.Gone found) v w s d = (d, refl)
  came_back_calling outcome.Full v w s d = (d, refl)
  came_back_calling _ v w s d = elim d [ ]

  pub sent_calling : (n : ℕ) (o : Option Outcome) (u v w : View) (s t : CallStand) → ReachedBy p n (Here sock) u v → DeliveredCalling state p slots sock msg o v s w t → SentCalling state p slots n msg o u s w t
  sent_calling n None u v w s t r d = record { sock = sock; has = v; reached_it = r; delivered = d }
  sent_calling n (Some (outcome.Gone found)) u v w s t r d = inr record { sock = sock; has = v; reached_it = r; delivered = d }
  sent_calling n (Some outcome.Full) u v w s t r d = record { sock = sock; has = v; reached_it = r; delivered = d }
  sent_calling n (Some _) u v w s t r d = elim d [ ]

  -- what was sent to a life that was reached by a name leaves the seat at rest
  pub rested_sent : {S : Type 0} (z y : TableId) (o : Option Outcome) (a b c : Seat S View) (k l : CallSeat) → AtRest z p a b → OneMore sock.id.0 a.me.0 b.me.0 → StaysSeen a.me.0 b.me.0 → Idle z p c → DeliveredCalling state p slots sock msg o b.me.0 (stand_of k) c.me.0 (stand_of l) → KeepsSeat y k l → Rested z p y a c k l
  rested_sent z y o a b c k l rest more seen idle d keeps = let by = plainly o b.me.0 c.me.0 (stand_of k) (stand_of l) d in record {
    rest = record { idle = idle; share = delivered_share state p sock msg o b.me.0 c.me.0 by ∙ rest.share };
    refs = delivered_refs state p sock msg o a.me.0 b.me.0 c.me.0 more by;
    seen = seen_then a.me.0 b.me.0 c.me.0 seen (delivered_seen state p sock msg o b.me.0 c.me.0 by);
    keeps = keeps;
  }
