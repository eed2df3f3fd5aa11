-- A message of a client with calls, as a deed of its seat of the sockets: of a send, and of an attempt of a call.
use Rattle.std.proofs.Common.{◌≢◌, ℕ, ◌<◌, inl, inr, Option, Some, None, refl, arith}
use mathlib.Core.Logic.{dite}
use native.Mathlib.Decide.{dec_lt}
use Rattle.sock_io.specs.LinkHalves.{OutState}
use Rattle.sock_words.specs.declared.outcome.Outcome.TheVariants as outcome
use Rattle.sock_words.specs.declared.outcome.Outcome.{Outcome}
use Rattle.sock_words.specs.declared.plain.Plan.{Plan}
use Rattle.sock_words.specs.declared.socket_id.SocketId.{SocketId}
use Rattle.sock_words.specs.declared.vref.Vref.{Vref}
use Rattle.sock_model.specs.declared.view.View.{View}
use Rattle.call_places.specs.Below.SockRule.OnTable.{put_in}
use Rattle.call_places.specs.Below.SockRule.Letter.{Letter}
use Rattle.call_places.specs.Below.SockTable.NamesStoredAndFound.{Found}
use Rattle.call_places.specs.Below.SockTable.SockRef.{SockRef}
use Rattle.call_places.specs.Below.WriteChain.Refused.{Refused}
use Rattle.call_places.specs.Below.WriteChain.RefusedVariants as refused
use Rattle.corr_core.specs.declared.marks.Plan as id_plan
use Rattle.call_places.specs.Below.RpcClient.SendingOutcomes.{SeenThrough, DeliveredBy as Delivered}
use Rattle.call_places.specs.Below.CallErrors.ClientBooks.{CallStand}
use Rattle.call_places.specs.Below.CallWrites.Draining.{DroppedAll, none, one_more, Drained}
use Rattle.call_places.specs.Below.CallWrites.MessageFateBesideCalls.{SeenCalling, DeliveredCalling, SentWithCalling, SentCalling}
use Rattle.call_places.specs.Below.CallWrites.Drains.{drained_all}
use Rattle.call_places.specs.Below.CallAttempts.ClientAtBothTables.{Both}
use Rattle.call_places.specs.Below.CallAttempts.Attempting.{CameBack, DeliveredBy, went_out, came_back, AttemptedBy, nowhere, over_link}
use Rattle.call_places.specs.sock_deeds.specs.Deeds.{IsDropWord, StoresDrops, DropsBy, SentOver, MessageBy}
use Rattle.call_places.specs.sock_deeds.proofs.DroppedMessageWords.{no_word, word_stays, word_kept, word_dropped}

module _ {O : Type 0} (state : O → OutState) (p : Plan) where
  -- ## What a seat stores while it writes a link

  all_words : (slots id x n : ℕ) (v : View) (s : CallStand) (w : View) (t : CallStand) → DroppedAll state p slots id v s w t → put_in x n v < put_in x n w → IsDropWord p id w x n
  all_words slots id x n v s _ _ none less = absurd (omega arith)
  all_words slots id x n v s _ _ (one_more u r w t more one) less = dite (dec_lt (put_in x n v) (put_in x n u))
      (λ lt. word_kept p id x n one.msg u w one.wrote (all_words slots id x n v s u r more lt))
      (λ ge. word_dropped p id x n one.msg u w one.wrote one.dead (omega arith))

  -- whoever had the right wrote, and told calls besides
  drained_words : (slots id : ℕ) (v : View) (s : CallStand) (w : View) (t : CallStand) → Drained state p slots id v s w t → StoresDrops p id v w
  drained_words slots id v s w t d x n less = let e = no_word p id x n d.last w d.wrote in word_stays p id x n d.last w d.wrote (all_words slots id x n v s d.last t d.dropped (omega arith))

  abbrev pub seen_through : (slots id : ℕ) (v : View) (s : CallStand) (w : View) (t : CallStand) → SeenCalling state p slots id v s w t → SeenThrough state p id v w
  seen_through slots id v s w t h = record { wrote = h.wrote; by = drained_all p slots id v h.wrote s t h.drained; returned = h.returned }

  -- ## A send

  module _ (slots : ℕ) (msg : Letter) where
    abbrev went_of : (sock : SockRef) (v : View) (s : CallStand) (w : View) (t : CallStand) → DeliveredCalling state p slots sock msg None v s w t → Delivered state p sock msg None v w
    went_of sock v s w t d = record { taken = d.taken; accepted = d.accepted; through = seen_through slots sock.id.0 d.taken s w t d.through }

    -- it doesn't ask for the link first
    sent_of : (n : ℕ) (v : View) (s : CallStand) (w : View) (t : CallStand) → SentWithCalling state p slots n msg None v s w t → SentOver state p n msg None v w
    sent_of n v s w t h = record {
      sock = h.sock;
      has = h.has;
      reached_it = h.reached_it;
      addressed = h.has;
      link_asked = inl refl;
      delivered = went_of h.sock h.has s w t h.delivered;
      dropped = drained_words slots h.sock.id.0 h.delivered.taken s h.delivered.through.wrote t h.delivered.through.drained;
    }

    gone_of : (n : ℕ) (found : Vref) (v : View) (s : CallStand) (w : View) (t : CallStand) → SentWithCalling state p slots n msg (Some (outcome.Gone found)) v s w t → SentOver state p n msg (Some (outcome.Gone found)) v w
    gone_of n found v s w t h = record { sock = h.sock; has = h.has; reached_it = h.reached_it; addressed = h.has; link_asked = inl refl; delivered = h.delivered.0; dropped = tt }

    full_of : (n : ℕ) (v : View) (s : CallStand) (w : View) (t : CallStand) → SentWithCalling state p slots n msg (Some outcome.Full) v s w t → SentOver state p n msg (Some outcome.Full) v w
    full_of n v s w t h = record { sock = h.sock; has = h.has; reached_it = h.reached_it; addressed = h.has; link_asked = inl refl; delivered = h.delivered.0; dropped = tt }

    pub send_message : (n : ℕ) (by : Option Outcome) (v : View) (s : CallStand) (w : View) (t : CallStand) → SentCalling state p slots n msg by v s w t → MessageBy state p n msg by v w
    send_message n None v s w t h = sent_of n v s w t h
    send_message n (Some outcome.Unopened) v s w t h = h.0
    send_message n (Some (outcome.Gone found)) v s w t h = elim h [ inl r ↦ inl r.0 | inr d ↦ inr (gone_of n found v s w t d) ]
    send_message n (Some outcome.Full) v s w t h = full_of n v s w t h
    send_message n (Some _) v s w t h = elim h [ ]

  -- ## An attempt of a call

  module _ (q : id_plan.Plan) (socket : SocketId) (msg : Letter) where
    abbrev sock : SockRef
    sock = record { id = socket }

    -- what became of it at the table of sockets; its name had been found
    abbrev pub Attempted : ℕ → View → View → Type 0
    Attempted name v w = (by : Option Outcome) × (by ≢ Some outcome.Unopened) × MessageBy state p name msg by v w

    came_of : (by : Refused) (s t : Both) → CameBack state p q socket msg by s t → (o : Outcome) × (Some o ≢ Some outcome.Unopened) × Delivered state p sock msg (Some o) s.socks t.socks × ((name : ℕ) (v : View) → SentOver state p name msg (Some o) v t.socks → MessageBy state p name msg (Some o) v t.socks)
    came_of (refused.Failed s_ m found) s t c = let b = c.refused_by in (outcome.Gone found, (λ e. cc), record { refused_at = c.refused_at; refused_by = (refl, refl, b.2, b.3); returned = c.returned }, λ name v over. inr over)
    came_of (refused.Full s_ m) s t c = let b = c.refused_by in (outcome.Full, (λ e. cc), record { refused_at = c.refused_at; refused_by = (refl, refl, b.2, b.3, b.4, b.5, b.6, b.7, b.8, b.9); returned = c.returned }, λ name v over. over)

    pub attempt_message : (name : ℕ) (v : View) (s t : Both) → Found p name (Some socket) v s.socks → AttemptedBy state p q socket msg s t → Attempted name v t.socks
    attempt_message name v s t found (nowhere n) = (Some (outcome.Gone n.found), (λ e. cc), inl (socket, s.socks, found, n.gone))
    attempt_message name v s t found (over_link u l d) = by_delivery d
      where
        over : (o : Option Outcome) (delivered : Delivered state p sock msg o u.socks t.socks) → DropsBy state p sock msg o u.socks t.socks delivered → SentOver state p name msg o v t.socks
        over o delivered dropped = record { sock = sock; has = l.has; reached_it = (s.socks, found, l.held, l.none_later); addressed = u.socks; link_asked = inr (l.link, l.link_of); delivered = delivered; dropped = dropped }

        by_delivery : DeliveredBy state p q socket msg u t → Attempted name v t.socks
        by_delivery (went_out w) = (None, (λ e. cc), over None record { taken = w.taken; accepted = w.accepted; through = seen_through q.slots socket.0 w.taken u.calls t.socks t.calls w.through } (drained_words q.slots socket.0 w.taken u.calls w.through.wrote t.calls w.through.drained))
        by_delivery (came_back by c) = let r = came_of by u t c in (Some r.0, r.1, r.3 name v (over (Some r.0) r.2 tt))
