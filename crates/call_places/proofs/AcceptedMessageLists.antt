-- What a client does to its own list of accepted messages: each message that is accepted stands behind the others, and nothing else changes it.
use Rattle.std.proofs.Common.{◌≡◌, ℕ, zero, suc, inl, inr, ⊎_elim, Option, Some, None, List, [], ◌∷◌, ◌++◌, append-nil, sym, ap, ◌∙◌}
use Rattle.atomic_table.specs.Table.{Me}
use Rattle.sock_io.specs.declared.link.Out.{Ghosts}
use Rattle.sock_io.specs.LinkHalves.{OutState}
use Rattle.sock_words.specs.declared.outcome.Outcome.{Outcome}
use Rattle.sock_words.specs.declared.outcome.Outcome.TheVariants as outcome
use Rattle.sock_words.specs.declared.plain.Plan.{Plan}
use Rattle.sock_words.specs.declared.socket_id.SocketId.{SocketId}
use Rattle.sock_model.specs.declared.chain.Entry.{Entry}
use Rattle.sock_model.specs.declared.view.View.{View}
use Rattle.sock_model.specs.ChainRows.{more}
use Rattle.call_run.specs.sock_rule.specs.declared.homes.Letter.{Letter}
use Rattle.call_run.specs.sock_rule.specs.declared.homes.SockHome.{SockHome}
use Rattle.call_run.specs.sock_table.specs.NamesStoredAndFound.{Found}
use Rattle.seat_programs.specs.declared.task.Op.{Op}
use Rattle.seat_programs.specs.declared.task.Op.TheVariants as ops
use Rattle.corr_core.specs.declared.marks.Plan as id_plan
use Rattle.call_run.specs.call_client.specs.rpc_client.specs.declared.reaching.Reached.TheVariants as reached
use Rattle.call_run.specs.call_client.specs.rpc_client.specs.declared.holding.Held.{Held}
use Rattle.call_run.specs.call_client.specs.rpc_client.specs.ToldOfOperation.{GaveFirst}
use Rattle.call_run.specs.call_client.specs.rpc_client.proofs.SeatBehindDelivering.{came_lists}
use Rattle.call_run.specs.call_client.specs.rpc_client.proofs.FindingReferences.{set_others}
use Rattle.call_run.specs.rpc_reader.specs.ReaderSocketFailing as reader
use Rattle.call_run.specs.call_client.specs.call_errors.specs.declared.retries.Retry.{Retry}
use Rattle.call_run.specs.call_client.specs.call_errors.specs.ClientBooks.{CallStand}
use Rattle.call_run.specs.call_client.specs.call_writes.specs.MessageFateBesideCalls.{SeenCalling, SentWithCalling, SentCalling}
use Rattle.call_run.specs.call_client.specs.call_writes.proofs.Drains.{drained_same}
use Rattle.call_run.specs.call_client.specs.call_attempts.specs.ClientAtBothTables.{Both}
use Rattle.call_run.specs.call_client.specs.call_attempts.specs.Attempting.{DeliveredBy, went_out, came_back, AttemptedBy, nowhere, over_link}
use Rattle.call_run.specs.call_client.specs.call_attempts.specs.WaitingRetries.{WentTo, stray, unopened, to_socket, RetriedBy, had_ended, overtaken, went_again}
use Rattle.call_run.specs.call_client.specs.ClientBetweenOperations.{Stand, both_of, letter_of, Acted}
use Rattle.call_run.specs.EndingOfSockets.{FailedIf, EndedEach}
use Rattle.call_run.specs.Threads.{FoundEach}
use Rattle.sock_deeds.proofs.OwnMessagesOfDeeds.{reached_lists, held_lists, dropped_lists, failed_lists}
use Rattle.call_places.specs.DeedsOfCallClient.{delivered_entries, attempt_entries, went_entries, retry_entries, acted_entries}

-- the own list, which stands first, got these behind the others
abbrev pub Grown : List Entry → View → View → Type 0
Grown es v w = (l : List Entry) (ls : List (List Entry)) → v.lists ≡ l ∷ ls → w.lists ≡ (l ++ es) ∷ ls

pub grown_none : (v w : View) → w.lists ≡ v.lists → Grown [] v w
grown_none v w e l ls is = e ∙ (is ∙ ap (λ x. x ∷ ls) (sym (append-nil l)))

-- ## Steps that leave all lists as they are

found_lists : (p : Plan) (n : ℕ) (id : Option SocketId) (v w : View) → Found p n id v w → w.lists ≡ v.lists
found_lists p n None v w f = ap (λ (y : View). y.lists) f.0
found_lists p n (Some id) v w f = ap (λ (y : View). y.lists) f.1.view

pub waited_lists : (p : Plan) (ns : List ℕ) (v w : View) → FoundEach p ns v w → w.lists ≡ v.lists
waited_lists p [] v w e = ap (λ (y : View). y.lists) e
waited_lists p (n ∷ ns) v w r = waited_lists p ns r.1 w r.3 ∙ ap (λ (y : View). y.lists) r.2.1.view

pub gave_lists : (held : List Held) (n : ℕ) (v w : View) → GaveFirst held n v w → w.lists ≡ v.lists
gave_lists held zero v w e = ap (λ (y : View). y.lists) e
gave_lists held (suc n) v w r = ap (λ (y : View). y.lists) r.4.back.became.others ∙ gave_lists held n v r.0 r.2

-- ## Main ends the sockets

opened_lists : (p : Plan) (operation : ℕ) (id : Option SocketId) (v w : View) → reader.OpenedBy p operation id v w → w.lists ≡ v.lists
opened_lists p operation None v w f = ap (λ (y : View). y.lists) f.view
opened_lists p operation (Some id) v w f = ap (λ (y : View). y.lists) f.1.view

ended_lists : (id : Option SocketId) (v w : View) → FailedIf id v w → w.lists ≡ v.lists
ended_lists None v w e = ap (λ (y : View). y.lists) e
ended_lists (Some id) v w f = ⊎_elim
    (λ g. ap (λ (y : View). y.lists) g.1.became.others)
    (λ s. ap (λ (y : View). y.lists) s.returned.back.became.others ∙ (ap (λ (y : View). y.lists) (set_others id.0 _ s.by s.has s.set s.set_by) ∙ ap (λ (y : View). y.lists) s.held.others)) f

pub each_ended_lists : (p : Plan) (os : List ℕ) (v w : View) → EndedEach p os v w → w.lists ≡ v.lists
each_ended_lists p [] v w e = ap (λ (y : View). y.lists) e
each_ended_lists p (o ∷ os) v w r = each_ended_lists p os r.0 w r.2 ∙ (ended_lists r.1.id r.1.noted r.0 r.1.failed ∙ opened_lists p o r.1.id v r.1.noted r.1.opened)

-- ## Messages

module _ {O : Type 0} (state : O → OutState) (p : Plan) where
  seen_lists : (slots id : ℕ) (v : View) (s : CallStand) (w : View) (t : CallStand) → SeenCalling state p slots id v s w t → w.lists ≡ v.lists
  seen_lists slots id v s w t h = ap (λ (y : View). y.lists) h.returned.back.became.others ∙ (drained_same p slots id v h.wrote s t h.drained).3

  sent_lists : (slots n : ℕ) (msg : Letter) (v : View) (s : CallStand) (w : View) (t : CallStand) (h : SentWithCalling state p slots n msg None v s w t) → w.lists ≡ more v.lists h.delivered.accepted.entry
  sent_lists slots n msg v s w t h = let d = h.delivered in
      seen_lists slots h.sock.id.0 d.taken s w t d.through ∙ (d.accepted.lists ∙ ap (λ l. more l d.accepted.entry) (reached_lists p n (reached.Here h.sock) v h.has h.reached_it))

  refused_lists : (slots n : ℕ) (msg : Letter) (by : Outcome) (v : View) (s : CallStand) (w : View) (t : CallStand) → SentCalling state p slots n msg (Some by) v s w t → w.lists ≡ v.lists
  refused_lists slots n msg outcome.Unopened v s w t h = reached_lists p n reached.Unopened v w h.0
  refused_lists slots n msg (outcome.Gone found) v s w t (inl h) = reached_lists p n (reached.Gone found) v w h.0
  refused_lists slots n msg (outcome.Gone found) v s w t (inr h) = came_lists p h.sock msg _ h.has w h.delivered.0 ∙ reached_lists p n (reached.Here h.sock) v h.has h.reached_it
  refused_lists slots n msg outcome.Full v s w t h = came_lists p h.sock msg _ h.has w h.delivered.0 ∙ reached_lists p n (reached.Here h.sock) v h.has h.reached_it
  refused_lists slots n msg _ v s w t h = elim h [ ]

  module _ (q : id_plan.Plan) where
    delivered_grows : (socket : SocketId) (msg : Letter) (s t : Both) (d : DeliveredBy state p q socket msg s t) → Grown (delivered_entries state p q socket msg s t d) s.socks t.socks
    delivered_grows socket msg s t (went_out w) = λ l ls is. seen_lists q.slots socket.0 w.taken s.calls t.socks t.calls w.through ∙ (w.accepted.lists ∙ ap (λ x. more x w.accepted.entry) is)
    delivered_grows socket msg s t (came_back by c) = grown_none s.socks t.socks (came_lists p (record { id = socket }) msg by s.socks t.socks (record { refused_at = c.refused_at; refused_by = c.refused_by; returned = c.returned }))

    attempt_grows : (socket : SocketId) (msg : Letter) (s t : Both) (a : AttemptedBy state p q socket msg s t) → Grown (attempt_entries state p q socket msg s t a) s.socks t.socks
    attempt_grows socket msg s t (nowhere n) = grown_none s.socks t.socks (ap (λ (y : View). y.lists) n.gone.became.others)
    attempt_grows socket msg s t (over_link u k d) = λ l ls is. delivered_grows socket msg u t d l ls (ap (λ (y : View). y.lists) k.link_of.became.others ∙ (ap (λ (y : View). y.lists) k.held.others ∙ is))

    went_grows : (name : ℕ) (msg : Letter) (s t : Both) (w : WentTo state p q name msg s t) → Grown (went_entries state p q name msg s t w) s.socks t.socks
    went_grows name msg s t (stray a e c) = grown_none s.socks t.socks (ap (λ (y : View). y.lists) e)
    went_grows name msg s t (unopened f c) = grown_none s.socks t.socks (found_lists p name None s.socks t.socks f)
    went_grows name msg s t (to_socket socket u f e a) = λ l ls is. attempt_grows socket msg u t a l ls (found_lists p name (Some socket) s.socks u.socks f ∙ is)

    pub retry_grows : (r : Retry) (s t : Both) (by : RetriedBy state p q r s t) → Grown (retry_entries state p q r s t by) s.socks t.socks
    retry_grows r s t (had_ended h) = grown_none s.socks t.socks (ap (λ (y : View). y.lists) h.socks)
    retry_grows r s t (overtaken k u l o) = grown_none s.socks t.socks (ap (λ (y : View). y.lists) (o.socks ∙ l.socks))
    retry_grows r s t (went_again k u o w) = λ l ls is. went_grows _ _ (record { socks = u.socks; calls = record { view = w.view; books = u.calls.books } }) t w.went l ls (ap (λ (y : View). y.lists) o.socks ∙ is)

    module _ {g : Ghosts O} where
      pub acted_grows : (number : ℕ) (op : Op) (by : Option Outcome) (s t : Stand g) (a : Acted state p q number op by s t) → Grown (acted_entries state p q number op by s t a) s.me.0 t.me.0
      acted_grows number (ops.Open n k) (Some by) s t a = grown_none s.me.0 t.me.0 a.0.lists
      acted_grows number (ops.Send n bytes) None s t a = λ l ls is. sent_lists q.slots n (letter_of number bytes) s.me.0 s.calls t.me.0 t.calls a.0 ∙ ap (λ x. more x a.0.delivered.accepted.entry) is
      acted_grows number (ops.Send n bytes) (Some by) s t a = grown_none s.me.0 t.me.0 (refused_lists q.slots n (letter_of number bytes) by s.me.0 s.calls t.me.0 t.calls a.0)
      acted_grows number (ops.Call asked) (Some outcome.Unopened) s t a = grown_none s.me.0 t.me.0 (found_lists p _ None s.me.0 t.me.0 a.0.0)
      acted_grows number (ops.Call asked) None s t a = λ l ls is. attempt_grows a.1.socket _ a.1.at (both_of t) a.1.attempted l ls (found_lists p _ (Some a.1.socket) s.me.0 a.1.at.socks a.1.made_for.found ∙ is)
      acted_grows number (ops.Expire of) (Some by) s t a = grown_none s.me.0 t.me.0 (ap (λ (m : Me (SockHome O g) View). m.0.lists) a.1)
      acted_grows number (ops.Join of) (Some by) s t a = grown_none s.me.0 t.me.0 (ap (λ (m : Me (SockHome O g) View). m.0.lists) a.1)
      acted_grows number (ops.Hold n) (Some by) s t a = grown_none s.me.0 t.me.0 (held_lists p n by s.held s.me.0 t.held t.me.0 a.0)
      acted_grows number (ops.Drop n) (Some by) s t a = grown_none s.me.0 t.me.0 (dropped_lists n by s.held s.me.0 t.held t.me.0 a.0)
      acted_grows number (ops.Fail n code) (Some by) s t a = grown_none s.me.0 t.me.0 (failed_lists p n code by s.me.0 t.me.0 a.0)
      acted_grows number _ _ s t a = elim a [ ]
