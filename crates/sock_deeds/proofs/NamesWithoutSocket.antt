-- Why a name led to no socket, each slot was found taken, or each request.
use Rattle.std.proofs.Common.{◌≡◌, ◌⊎◌, ℕ, ◌<◌, ◌≤◌, inl, inr, List, length, Option, Some, None, refl, sym, ap, ◌∙◌, subst, arith}
use lib.ListN.{get_elem?}
use Rattle.atomic_table.specs.Table.{Me}
use Rattle.sock_io.specs.declared.link.Out.{Ghosts}
use Rattle.sock_io.specs.LinkHalves.{OutState}
use Rattle.sock_words.specs.declared.outcome.Outcome.{Outcome}
use Rattle.sock_words.specs.declared.outcome.Outcome.TheVariants as outcome
use Rattle.sock_words.specs.declared.plain.Plan.{Plan}
use Rattle.sock_words.specs.declared.place_word.PlaceWord.{PlaceWord}
use Rattle.sock_words.specs.declared.vref.Vref.{Vref}
use Rattle.sock_words.specs.PackedWords.{socket_id_slot}
use Rattle.sock_message.specs.Asked.{name_of}
use Rattle.sock_model.specs.declared.view.View.{View}
use Rattle.sock_model.specs.SocketTableLayout.{name_index, request_index}
use Rattle.rpc_client.specs.write_chain.proofs.Accepting.{full_found}
use Rattle.sock_model.specs.SlotRows.{marks_of}
use Rattle.sock_model.specs.MarkWeights.{is_born, is_tried}
use Rattle.rpc_client.specs.sock_rule.specs.declared.homes.Letter.{Letter}
use Rattle.seat_programs.specs.declared.task.Op.{Op}
use Rattle.seat_programs.specs.declared.task.Op.TheVariants as ops
use Rattle.seat_programs.specs.declared.task.Task.{Task}
use Rattle.seat_programs.specs.Explained.{IsTask, Became, OpensNone, EachOpened}
use Rattle.seat_programs.specs.ExplainedCalls.{Fixed, Order, FoundNone, Seeks}
use Rattle.rpc_client.specs.sock_table.specs.NamesStoredAndFound.{HasSeen}
use Rattle.rpc_client.specs.sock_table.specs.declared.refs.SockRef.{SockRef}
use Rattle.rpc_client.specs.declared.holding.Held.{Held}
use Rattle.rpc_client.specs.declared.reaching.Reached.TheVariants as reached
use Rattle.rpc_client.specs.FailOutcomes.{SetBy, FailedBy, TriedTo}
use Rattle.rpc_client.specs.HoldAndDropOutcomes.{HeldBy}
use Rattle.rpc_client.specs.OpenOutcomes.{OpenedBy}
use Rattle.rpc_client.specs.ReachingByName.{ReachedBy}
use Rattle.sock_deeds.specs.Deeds.{SentOver, MessageBy, Did, opens, sends, holds, fails, waits, DoneBy, own_number}
use Rattle.sock_deeds.specs.SocketTableRun.{DeedRun}
use Rattle.sock_deeds.proofs.NumberedDeeds.{IsOnSockets}
use Rattle.sock_deeds.proofs.MessagesAcceptedByDeeds.{log}
use Rattle.sock_deeds.proofs.DeedsOfAllSeats.{Act, All, before, after, did_of, done_of, has_marks, has_seen, lives_from, act_between}
use Rattle.sock_deeds.proofs.GrowingSocketNotes.{added_grew, back_grew, grew_then, none_grew, returned_grew, over_grew}
use Rattle.sock_deeds.proofs.LivesOfDeeds.{MadeHere, made_of, born_life}
use Rattle.sock_deeds.proofs.Sources.{Source, by_open, by_fail, by_set, by_write, done_source}
use Rattle.sock_deeds.proofs.DeedsForTasks.{Does, act_of, act_does, earlier, one_outcome}

-- ## What has seen a name

abbrev pub SeenBy : Plan → ℕ → View → Type 0
SeenBy p n v = HasSeen (name_index p n) v

here_seen : (p : Plan) (n : ℕ) (sock : SockRef) (v w : View) → ReachedBy p n (reached.Here sock) v w → SeenBy p n w
here_seen p n sock v w r = (added_grew (socket_id_slot sock.id.0) r.0 w _ r.2).seen (name_index p n) (0, ap (λ (y : View). get_elem? y.found 0) r.1.1.view)

gone_seen : (p : Plan) (n : ℕ) (found : Vref) (v w : View) → ReachedBy p n (reached.Gone found) v w → SeenBy p n w
gone_seen p n found v w r = (added_grew (socket_id_slot r.0.0) r.1 w _ r.3.became).seen (name_index p n) (0, ap (λ (y : View). get_elem? y.found 0) r.2.1.view)

over_seen : {O : Type 0} (state : O → OutState) (p : Plan) (n : ℕ) (msg : Letter) (by : Option Outcome) (v w : View) → SentOver state p n msg by v w → SeenBy p n w
over_seen state p n msg by v w s = (over_grew state p n msg by v w s).seen (name_index p n) (here_seen p n s.sock v s.has s.reached_it)

pub message_seen : {O : Type 0} (state : O → OutState) (p : Plan) (n : ℕ) (msg : Letter) (by : Option Outcome) (v w : View) → MessageBy state p n msg by v w → (by ≡ Some outcome.Unopened) ⊎ SeenBy p n w
message_seen state p n msg None v w s = inr (over_seen state p n msg None v w s)
message_seen state p n msg (Some outcome.Unopened) v w s = inl refl
message_seen state p n msg (Some (outcome.Gone found)) v w s = inr (elim s [ inl r ↦ gone_seen p n found v w r | inr d ↦ over_seen state p n msg _ v w d ])
message_seen state p n msg (Some outcome.Full) v w s = inr (over_seen state p n msg _ v w s)
message_seen state p n msg (Some _) v w s = elim s [ ]

pub held_seen : (p : Plan) (n : ℕ) (by : Outcome) (h : List Held) (v : View) (k : List Held) (w : View) → HeldBy p n by h v k w → (by ≡ outcome.Unopened) ⊎ SeenBy p n w
held_seen p n outcome.Unopened h v k w b = inl refl
held_seen p n (outcome.Gone found) h v k w b = inr (gone_seen p n found v w b.1)
held_seen p n outcome.Held h v k w b = inr (here_seen p n record { id = b.0 } v w b.2)
held_seen p n _ h v k w b = elim b [ ]

pub failed_seen : (p : Plan) (n code : ℕ) (by : Outcome) (v w : View) → FailedBy p n code by v w → (by ≡ outcome.Unopened) ⊎ SeenBy p n w
failed_seen p n code outcome.Unopened v w b = inl refl
failed_seen p n code (outcome.Gone found) v w b = inr (gone_seen p n found v w b)
failed_seen p n code outcome.Failed v w b = inr (tried_seen outcome.Failed b)
  where
    tried_seen : (by : Outcome) → TriedTo p n code by v w → SeenBy p n w
    tried_seen by t = (back_grew (socket_id_slot t.sock.id.0) _ t.set w t.ended t.back).seen (name_index p n) (set_seen by t.sock.id.0 t.has t.set t.set_by (here_seen p n t.sock v t.has t.reached_it))
      where
        set_seen : (by : Outcome) (id : ℕ) (u x : View) → SetBy id code by u x → SeenBy p n u → SeenBy p n x
        set_seen outcome.Failed id u x s h = (added_grew (socket_id_slot id) u x _ s).seen (name_index p n) h
        set_seen (outcome.Already found) id u x s h = (added_grew (socket_id_slot id) u x _ s.1).seen (name_index p n) h
        set_seen _ id u x s h = elim s [ ]
failed_seen p n code (outcome.Already found) v w b = inr ((grew_then b.has b.set w (added_grew (socket_id_slot b.sock.id.0) b.has b.set _ b.set_by.1) (back_grew (socket_id_slot b.sock.id.0) _ b.set w b.ended b.back)).seen (name_index p n) (here_seen p n b.sock v b.has b.reached_it))
failed_seen p n code _ v w b = elim b [ ]

pub opened_seen : {S : Type 0} (p : Plan) (n operation link slot version k : ℕ) (m m' : Me S View) → OpenedBy p n operation link (outcome.Opened slot version k) m m' → SeenBy p n m'.0
opened_seen {S} p n operation link slot version k m m' b = (0, ap (λ (z : Me S View). get_elem? z.0.found 0) b.4.published.view)

module _ {O : Type 0} {g : Ghosts O} {state : O → OutState} {p : Plan} {clients : List (List Task)} {outcomes : List (Option Outcome)} {places : List PlaceWord} {vrefs : List Vref} {outs : List O} (run : DeedRun g state p clients outcomes places vrefs outs) where
  -- ## No socket

  -- the deed for a task of its client that comes before this one
  before_it : (b : Act run) (m : ℕ) → own_number (did_of run b) ≡ Some m → (t : Task) → IsTask clients outcomes b.c t → t.number < m → IsOnSockets t.op → (a : Act run) × (a.c ≡ b.c) × (a.k < b.k) × Does clients outcomes t.number t.op (did_of run a)
  before_it b m mine t is less on =
      let w = act_of run b.c t is on in
      (w.0, w.1, earlier run w.0 b t.number m w.1 less w.2 mine, (act_does run w.0 b.c t is w.2).1)

  module _ (fixed_ : Fixed) (gave : ℕ → List ℕ) (orders : ℕ → Order) (b : Act run) (m n : ℕ) (mine : own_number (did_of run b) ≡ Some m) (unseen : SeenBy p n (before run b) → ⊥) where
    -- no earlier deed of its seat saw the name
    none_seen : (a : Act run) → a.c ≡ b.c → a.k < b.k → SeenBy p n (after run a) → ⊥
    none_seen a client less seen = unseen ((act_between run a b client less).seen (name_index p n) seen)

    as_did : (a : Act run) (d : Did) → did_of run a ≡ d → DoneBy g state p d a.d.before a.d.after
    as_did a d e = subst (λ (x : Did). DoneBy g state p x a.d.before a.d.after) e (done_of run a)

    none_opened : (t : Task) → IsTask clients outcomes b.c t → t.number < m → OpensNone clients outcomes n t
    none_opened t is less k slot version op became =
        let w = before_it b m mine t is less (subst IsOnSockets (sym op) tt) in
        let d = subst (λ (o : Op). Does clients outcomes t.number o (did_of run w.0)) op w.3 in
        let by = one_outcome run t.number d.0 (outcome.Opened slot version k) d.2 became in
        let o = (as_did w.0 (opens n t.number k (outcome.Opened slot version k)) (d.1 ∙ ap (opens n t.number k) by)).0 in
        none_seen w.0 w.1 w.2 (opened_seen p n t.number k slot version k (w.0.d.before.view, o.0) (w.0.d.after.view, o.1) o.2)

    seeks : (t : Task) (op : Op) → IsTask clients outcomes b.c t → t.number < m → t.op ≡ op → Seeks p clients outcomes fixed_ gave orders n op → Became clients outcomes t.number outcome.Unopened
    seeks t (ops.Fail x code) is less op same =
        let w = before_it b m mine t is less (subst IsOnSockets (sym op) tt) in
        let d = subst (λ (o : Op). Does clients outcomes t.number o (did_of run w.0)) op w.3 in
        let done = as_did w.0 (fails x t.number code d.0) d.1 in
        elim (failed_seen p x code d.0 (before run w.0) (after run w.0) done.0) [
          | inl e ↦ subst (Became clients outcomes t.number) e d.2
          | inr seen ↦ absurd (none_seen w.0 w.1 w.2 (subst (λ y. SeenBy p y (after run w.0)) same seen))
        ]
    seeks t (ops.Hold x) is less op same =
        let w = before_it b m mine t is less (subst IsOnSockets (sym op) tt) in
        let d = subst (λ (o : Op). Does clients outcomes t.number o (did_of run w.0)) op w.3 in
        let done = as_did w.0 (holds x t.number d.0) d.1 in
        elim (held_seen p x d.0 w.0.d.before.held (before run w.0) w.0.d.after.held (after run w.0) done) [
          | inl e ↦ subst (Became clients outcomes t.number) e d.2
          | inr seen ↦ absurd (none_seen w.0 w.1 w.2 (subst (λ y. SeenBy p y (after run w.0)) same seen))
        ]
    seeks t (ops.Send x bytes) is less op same =
        let w = before_it b m mine t is less (subst IsOnSockets (sym op) tt) in
        let d = subst (λ (o : Op). Does clients outcomes t.number o (did_of run w.0)) op w.3 in
        let done = as_did w.0 (sends x t.number 0 d.0 d.1) d.2 in
        elim (message_seen state p x d.0 d.1 (before run w.0) (after run w.0) done.0) [
          | inl e ↦ d.4 ∙ ap Some e
          | inr seen ↦ absurd (none_seen w.0 w.1 w.2 (subst (λ y. SeenBy p y (after run w.0)) same seen))
        ]
    seeks t (ops.Call asked) is less op same =
        let w = before_it b m mine t is less (subst IsOnSockets (sym op) tt) in
        let d = subst (λ (o : Op). Does clients outcomes t.number o (did_of run w.0)) op w.3 in
        let done = as_did w.0 (sends (name_of asked 0) t.number 0 d.0 d.1) d.2 in
        elim (message_seen state p (name_of asked 0) d.0 d.1 (before run w.0) (after run w.0) done.0) [
          | inl e ↦ d.3 e
          | inr seen ↦ absurd (none_seen w.0 w.1 w.2 (subst (λ y. SeenBy p y (after run w.0)) same seen))
        ]
    seeks t (ops.Open x k) is less op same = elim same [ ]
    seeks t _ is less op same = elim same [ ]

    -- the operation found no socket of the name
    pub unopened_cause : 0 < b.c → FoundNone p clients outcomes fixed_ gave orders b.c m n
    unopened_cause some_ = record {
      setup = λ t is k slot version op became. (
          let w = run.waited b.c b.y b.at some_ t.number n k slot version (subst (λ (o : Op). IsTask clients outcomes 0 record { number = t.number; op = o }) op is) became in
          let a : Act run = record { c = b.c; y = b.y; at = b.at; k = w.0; d = w.1; is = w.2 } in
          let found = as_did a (waits n) w.3 in
          none_seen a refl (w.4 b.k m b.d b.is mine) (0, ap (λ (y : View). get_elem? y.found 0) found.0.1.1.view));
      own = λ t is less. (none_opened t is less, λ sought. seeks t t.op is less refl sought);
    }

  -- ## All slots, and all requests

  born_made : (i h : ℕ) → 0 < marks_of (is_born h) i (All run) → (n k version : ℕ) × MadeHere run n k i version
  born_made i h some_ =
      let w = lives_from run (is_born h) (born_life h) (λ x. refl) i some_ in
      by_source w.0 (done_source (is_born h) (born_life h) g state p (did_of run w.0) w.0.d.before w.0.d.after (done_of run w.0) i w.1)
    where
      by_source : (a : Act run) → Source (is_born h) (born_life h) g state p i (did_of run a) a.d.before a.d.after (done_of run a) → (n k v : ℕ) × MadeHere run n k i v
      by_source a (by_open name number version link e weighs) = (name, link, version, made_of run a name number link i version e)
      by_source a (by_fail name number code e f) = absurd (let m = f.3 in omega arith)
      by_source a (by_set id code e slot weighs) = absurd (omega arith)
      by_source a (by_write id v w all grew f listed) = absurd (let m = f.weighs in omega arith)

  pub full_cause : (b : Act run) (name number link : ℕ) → did_of run b ≡ opens name number link outcome.SlotsFull → EachOpened clients outcomes p
  full_cause b name number link is slot low =
      let o = (subst (λ (x : Did). DoneBy g state p x b.d.before b.d.after) is (done_of run b)).0 in
      let f = o.2 in
      let e = f.each.each slot low is_tried in
      let g1 = (none_grew p number link f.tried (b.d.after.view, o.1) f.none_).marks is_tried (λ x. refl) slot in
      let all = has_marks run b is_tried (λ x. refl) slot in
      born_made slot p.first (run.closed.closing.full slot low (omega arith))

  -- each request was found taken, so that there are as many messages
  pub was_full : (b : Act run) (n : ℕ) (msg : Letter) → SentOver state p n msg (Some outcome.Full) (before run b) (after run b) → p.requests ≤ length (log run)
  was_full b n msg s =
      let d = s.delivered in
      run.closed.ordered.full (λ q low. has_seen run b (request_index p q) ((returned_grew s.sock.id.0 d.refused_at (after run b) d.returned).seen (request_index p q) (full_found p _ d.refused_at d.refused_by.2 q low)))
