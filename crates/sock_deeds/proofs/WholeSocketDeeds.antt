-- All that is told of sockets in a run of deeds.
use Rattle.std.proofs.Common.{◌≡◌, ◌≢◌, ◌⊎◌, ℕ, ◌/◌, ◌%◌, ◌<◌, ◌≤◌, inl, inr, List, length, slice_get, Option, Some, None, sym, ap, ◌∙◌, subst, arith}
use Rattle.std.proofs.lemmas.List.{length-map}
use Rattle.std.proofs.lemmas.Option.{same_Some}
use mathlib.Core.Logic.{dite}
use native.Mathlib.Decide.{ℕ_discrete}
use mathlib.Core.Option.{some}
use lib.ListN.{get_elem?}
use Rattle.sock_io.specs.declared.link.Out.{Ghosts}
use Rattle.sock_io.specs.LinkHalves.{OutState}
use Rattle.sock_words.specs.declared.outcome.Outcome.{Outcome}
use Rattle.sock_words.specs.declared.outcome.Outcome.TheVariants as outcome
use Rattle.sock_words.specs.declared.plain.Plan.{Plan}
use Rattle.sock_words.specs.declared.place_word.PlaceWord.{PlaceWord}
use Rattle.sock_words.specs.declared.vref.Vref.{Vref}
use Rattle.sock_words.specs.PackedWords.{vref_version}
use Rattle.sock_message.specs.Asked.{Asked, name_of}
use Rattle.sock_model.specs.declared.chain.Entry.{Entry}
use Rattle.sock_model.specs.Entries.{on}
use Rattle.rpc_client.specs.sock_rule.specs.ClosingWordsAndNotes.{PlacesDiffer}
use Rattle.rpc_client.specs.sock_rule.specs.declared.homes.Letter.{Letter}
use Rattle.seat_programs.specs.declared.task.Op.{Op}
use Rattle.seat_programs.specs.declared.task.Op.TheVariants as ops
use Rattle.seat_programs.specs.declared.task.Task.{Task}
use Rattle.seat_programs.specs.Cores.{Core}
use Rattle.seat_programs.specs.Explained.{IsTask, Became, IsOpen}
use Rattle.seat_programs.specs.ExplainedCalls.{Fixed, Order, StandsOn, FoundNone, FoundFailed, MayFail, IsFailing, OutcomeCause, all_accepted}
use Rattle.outcome_ticks.specs.outcome_stories.proofs.Accepted as accepted
use Rattle.outcome_ticks.proofs.TableTasksDistinct.{setup_opens}
use Rattle.rpc_client.specs.FailOutcomes.{FailedBy as FailedAs}
use Rattle.rpc_client.specs.HoldAndDropOutcomes.{HeldBy}
use Rattle.sock_deeds.specs.Deeds.{SentOver, MessageBy, OpenedOn, Did, opens, sends, holds, drops, fails, own_number, DoneBy}
use Rattle.sock_deeds.specs.MessagesLeftByRun.{accepted_of}
use Rattle.sock_deeds.specs.SocketTableRun.{IsOperation, DeedRun}
use Rattle.sock_deeds.specs.SocketsTold.{fixed_by, IsOfSockets, ToldSockets}
use Rattle.sock_deeds.proofs.MessagesAcceptedByDeeds.{log, act_of_entry}
use Rattle.sock_deeds.proofs.DeedsOfAllSeats.{Act, before, after, did_of, done_of}
use Rattle.sock_deeds.proofs.DeedCauses.{FailsNone, FoundDead, gone_cause, refused_cause, already_cause, has_life, opened_cause}
use Rattle.sock_deeds.proofs.DropOutcomesByHold.{drop_cause}
use Rattle.sock_deeds.proofs.LivesFailedByName.{fail_for}
use Rattle.sock_deeds.proofs.WhyLivesFailed.{FailedBy, WhyFailed, by_name, by_link, by_reader, early, all_fails, each_failed, broken, are, once}
use Rattle.sock_deeds.proofs.GrowingSocketNotes.{stays, over_grew}
use Rattle.sock_deeds.proofs.MessageLosses.{lost_by}
use Rattle.sock_deeds.proofs.LivesOfDeeds.{lives}
use Rattle.sock_deeds.proofs.NamesWithoutSocket.{unopened_cause, full_cause, was_full}
use Rattle.sock_deeds.proofs.NumberedDeeds.{IsOnSockets}
use Rattle.sock_deeds.proofs.OrdersOfDeeds.{orders, IsLeft, are_orders, accepted_stands, own_order}
use Rattle.sock_deeds.proofs.SentToSocketNames.{whose}
use Rattle.sock_deeds.proofs.DeedsForTasks.{Does, asks_of, same_task, one_outcome, fits, task_does}

module _ {O : Type 0} {g : Ghosts O} {state : O → OutState} {p : Plan} {clients : List (List Task)} {outcomes : List (Option Outcome)} {places : List PlaceWord} {vrefs : List Vref} {outs : List O} (run : DeedRun g state p clients outcomes places vrefs outs) (differ : PlacesDiffer (log run)) (gave : ℕ → List ℕ) where
  abbrev pub fixed : Fixed
  fixed = fixed_by (broken run) (early run) (all_fails run)

  -- with the orders of the links
  pub record Laws : Type 0 where
    pub fixed_here : Fixed
    pub orders_here : ℕ → Order

  abbrev pub laws_of : Laws
  laws_of = record { fixed_here = fixed; orders_here = orders run differ }

  -- ## Lives that were failed

  -- by no later operation of the client that found it
  found_failed : (b : Act run) (n m : ℕ) (P : ℕ → Type 0) → FoundDead run b n P → own_number (did_of run b) ≡ Some m → FoundFailed p clients outcomes fixed gave (orders run differ) b.c m n P
  found_failed b n m P d mine = record { link = d.link; slot = d.slot; version = d.version; made = d.made; holds = d.holds; failed = inl (may d.why (d.no_later m mine)) }
    where
      may : WhyFailed run d.slot d.version d.link → ((f : FailedBy run d.slot d.version d.link) → f.a.c ≡ b.c → f.life.number < m) → MayFail p clients outcomes fixed gave (orders run differ) b.c m d.link
      may (by_name f) no_later = inl (f.life.number, f.listed, λ t is e. no_later f (same_task run f.a.c b.c record { number = f.life.number; op = ops.Fail f.life.name f.life.code } t (fail_for run f.a f.life).0 is (sym e)).0)
      may (by_link x) no_later = inr (inl x)
      may (by_reader x) no_later = inr (inr (inl x))

  failing_by : (k i h : ℕ) → WhyFailed run i h k → IsFailing p clients outcomes fixed gave (orders run differ) k
  failing_by k i h (by_name f) = inl (f.life.number, f.listed, tt)
  failing_by k i h (by_link b) = inr (inl b)
  failing_by k i h (by_reader e) = inr (inr (inl e))

  dropped : p.operations ≤ 65536 → (k : ℕ) → k < p.links → ((orders run differ) k).placed < length ((orders run differ) k).accepted → IsFailing p clients outcomes fixed gave (orders run differ) k
  dropped few k low less =
      let n = length-map (on k (log run)) accepted_of in
      let w = lost_by run differ few k low (omega arith) in
      failing_by k w.slot w.version w.why

  -- ## Each operation

  links_low : (q : ℕ) (e : Entry) → get_elem? (log run) q ≡ some e → e.link < p.links
  links_low q e at = let w = act_of_entry run q e at in subst (λ (x : Entry). x.link < p.links) w.1.entry w.1.sent.delivered.accepted.inside

  -- each message of the log is one that a link accepted
  pub log_accepted : length (log run) ≤ all_accepted p.links (orders run differ)
  log_accepted = omega (arith, accepted.sizes_all (λ e. e.heading.label.place / 8) (λ e. e.heading.label.place % 8) p.links (log run) links_low)

  requests_full : (b : Act run) (n : ℕ) (msg : Letter) → SentOver state p n msg (Some outcome.Full) (before run b) (after run b) → p.requests ≤ all_accepted p.links (orders run differ)
  requests_full b n msg s = let full = was_full run b n msg s in omega (arith, log_accepted)

  -- only an `open` is the setup's
  is_client : (c number : ℕ) (op : Op) → IsOperation clients outcomes c number op → (IsOpen op → ⊥) → 0 < c
  is_client c number op is other = dite (ℕ_discrete c 0)
      (λ none_. absurd (other (setup_opens p clients run.tasks record { number = number; op = op } (asks_of run 0 record { number = number; op = op } (subst (λ x. IsOperation clients outcomes x number op) none_ is)))))
      (λ ne. omega arith)

  as_did : (a : Act run) (d : Did) → did_of run a ≡ d → DoneBy g state p d a.d.before a.d.after
  as_did a d e = subst (λ (x : Did). DoneBy g state p x a.d.before a.d.after) e (done_of run a)

  -- the deed fails nothing
  no_fail : (a : Act run) (d : Did) → did_of run a ≡ d → ((name number code : ℕ) → d ≡ fails name number code outcome.Failed → ⊥) → FailsNone run a
  no_fail a d is ne name number code e = ne name number code (sym is ∙ e)

  module _ (last : ℕ → ℕ) where
    abbrev WhyHere : ℕ → ℕ → Op → Outcome → Type 0
    WhyHere c number op o = OutcomeCause p clients outcomes fixed gave (orders run differ) last c number op o

    why_open : (a : Act run) (number n k : ℕ) (o : Outcome) → did_of run a ≡ opens n number k o → OpenedOn g p n number k o (before run a) (after run a) → WhyHere a.c number (ops.Open n k) o
    why_open a number n k (outcome.Opened slot version l) is b = let same : l ≡ k = b.2.3 in let w = opened_cause run a n number k slot version (is ∙ ap (λ x. opens n number k (outcome.Opened slot version x)) same) in (same, w.0, w.1, w.2)
    why_open a number n k outcome.SlotsFull is b = full_cause run a n number k is
    why_open a number n k other is b = elim b.2 [ ]

    why_send : (a : Act run) (number n : ℕ) (bytes : List ℕ) (msg : Letter) (o : Outcome) → n < p.names → 0 < a.c → did_of run a ≡ sends n number 0 msg (Some o) → MessageBy state p n msg (Some o) (before run a) (after run a) → WhyHere a.c number (ops.Send n bytes) o
    why_send a number n bytes msg outcome.Unopened named client is b = unopened_cause run fixed gave (orders run differ) a number n (ap own_number is) b.1 client
    why_send a number n bytes msg (outcome.Gone found) named client is b =
        let none_ = no_fail a (sends n number 0 msg (Some (outcome.Gone found))) is (λ x y z e. cc) in
        found_failed a n number (λ version. vref_version found.0 ≢ version) (elim b [ inl r ↦ gone_cause run a none_ n named found r | inr s ↦ refused_cause run a none_ n named found msg s ]) (ap own_number is)
    why_send a number n bytes msg outcome.Full named client is b = (has_life run a n named b.sock b.has b.reached_it (over_grew state p n msg (Some outcome.Full) (before run a) (after run a) b), requests_full a n msg b)
    why_send a number n bytes msg other named client is b = elim b [ ]

    why_hold : (a : Act run) (number n : ℕ) (o : Outcome) → n < p.names → 0 < a.c → did_of run a ≡ holds n number o → HeldBy p n o a.d.before.held (before run a) a.d.after.held (after run a) → WhyHere a.c number (ops.Hold n) o
    why_hold a number n outcome.Unopened named client is b = unopened_cause run fixed gave (orders run differ) a number n (ap own_number is) b.1.1 client
    why_hold a number n (outcome.Gone found) named client is b = found_failed a n number (λ version. vref_version found.0 ≢ version) (gone_cause run a (no_fail a (holds n number (outcome.Gone found)) is (λ x y z e. cc)) n named found b.1) (ap own_number is)
    why_hold a number n outcome.Held named client is b = has_life run a n named record { id = b.0 } (after run a) b.2 (stays (after run a))
    why_hold a number n other named client is b = elim b [ ]

    why_fail : (a : Act run) (number n code : ℕ) (o : Outcome) → n < p.names → 0 < a.c → IsOperation clients outcomes a.c number (ops.Fail n code) → Became clients outcomes number o → did_of run a ≡ fails n number code o → FailedAs p n code o (before run a) (after run a) → WhyHere a.c number (ops.Fail n code) o
    why_fail a number n code outcome.Unopened named client task became is b = unopened_cause run fixed gave (orders run differ) a number n (ap own_number is) b.1 client
    why_fail a number n code (outcome.Gone found) named client task became is b = found_failed a n number (λ version. vref_version found.0 ≢ version) (gone_cause run a (no_fail a (fails n number code (outcome.Gone found)) is (λ x y z e. cc)) n named found b) (ap own_number is)
    why_fail a number n code outcome.Failed named client task became is b = let w = each_failed run number record { client = a.c; name = n; code = code; is = task; became = became } in (w.0, w.1)
    why_fail a number n code (outcome.Already found) named client task became is b = found_failed a n number _ (already_cause run a (no_fail a (fails n number code (outcome.Already found)) is (λ x y z e. cc)) n named found code b) (ap own_number is)
    why_fail a number n code other named client task became is b = elim b [ ]

    why_drop : (a : Act run) (number n : ℕ) (o : Outcome) → did_of run a ≡ drops n number o → WhyHere a.c number (ops.Drop n) o
    why_drop a number n o is = drop_cause run a n number o is

    why_op : (a : Act run) (number : ℕ) (op : Op) (o : Outcome) → IsOperation clients outcomes a.c number op → Became clients outcomes number o → IsOfSockets op → Does clients outcomes number op (did_of run a) → WhyHere a.c number op o
    why_op a number (ops.Open n k) o is became on d =
        let e = d.1 ∙ ap (opens n number k) (one_outcome run number d.0 o d.2 became) in
        why_open a number n k o e (as_did a (opens n number k o) e).0
    why_op a number (ops.Send n bytes) o is became on d =
        let same : d.1 ≡ Some o = same_Some d.1 (Some o) (sym d.4 ∙ became) in
        let e = d.2 ∙ ap (sends n number 0 d.0) same in
        why_send a number n bytes d.0 o (fits run a.c record { number = number; op = ops.Send n bytes } is).1.0 (is_client a.c number (ops.Send n bytes) is (λ h. h)) e (as_did a (sends n number 0 d.0 (Some o)) e).0
    why_op a number (ops.Hold n) o is became on d =
        let e = d.1 ∙ ap (holds n number) (one_outcome run number d.0 o d.2 became) in
        why_hold a number n o (fits run a.c record { number = number; op = ops.Hold n } is).1 (is_client a.c number (ops.Hold n) is (λ h. h)) e (as_did a (holds n number o) e)
    why_op a number (ops.Fail n code) o is became on d =
        let e = d.1 ∙ ap (fails n number code) (one_outcome run number d.0 o d.2 became) in
        why_fail a number n code o (fits run a.c record { number = number; op = ops.Fail n code } is).1.0 (is_client a.c number (ops.Fail n code) is (λ h. h)) is became e (as_did a (fails n number code o) e).0
    why_op a number (ops.Drop n) o is became on d = why_drop a number n o (d.1 ∙ ap (drops n number) (one_outcome run number d.0 o d.2 became))
    why_op a number _ o is became on d = elim on [ ]

    on_sockets : (op : Op) → IsOfSockets op → IsOnSockets op
    on_sockets (ops.Call asked) on = elim on [ ]
    on_sockets (ops.Expire t) on = elim on [ ]
    on_sockets (ops.Join t) on = elim on [ ]
    on_sockets _ on = tt

    why : (c : ℕ) (t : Task) (o : Outcome) → IsTask clients outcomes c t → Became clients outcomes t.number o → IsOfSockets t.op → WhyHere c t.number t.op o
    why c t o is became on =
        let w = task_does run c t is (on_sockets t.op on) in
        subst (λ x. WhyHere x t.number t.op o) w.1 (why_op w.0 t.number t.op o (subst (λ x. IsTask clients outcomes x t) (sym w.1) is) became on w.2)

  -- a call that found no socket
  unopened : (c number : ℕ) (asked : Asked) → IsOperation clients outcomes c number (ops.Call asked) → Became clients outcomes number outcome.Unopened → FoundNone p clients outcomes fixed gave (orders run differ) c number (name_of asked 0)
  unopened c number asked is became =
      let w = task_does run c record { number = number; op = ops.Call asked } is tt in
      let d = w.2 in
      let e = d.2 ∙ ap (sends (name_of asked 0) number 0 d.0) (d.4 became) in
      let client = is_client c number (ops.Call asked) is (λ h. h) in
      let same = w.1 in
      let b = as_did w.0 (sends (name_of asked 0) number 0 d.0 (Some outcome.Unopened)) e in
      subst (λ x. FoundNone p clients outcomes fixed gave (orders run differ) x number (name_of asked 0)) same (unopened_cause run fixed gave (orders run differ) w.0 number (name_of asked 0) (ap own_number e) b.0.1 (omega arith))

  -- each `send` has an outcome, or its message was accepted
  told : (c number name : ℕ) (bytes : List ℕ) → IsOperation clients outcomes c number (ops.Send name bytes) → ((o : Outcome) × Became clients outcomes number o) ⊎ ((k : ℕ) × StandsOn p clients outcomes fixed gave (orders run differ) number 0 k)
  told c number name bytes is = let w = task_does run c record { number = number; op = ops.Send name bytes } is tt in let d = w.2 in by_outcome w.0 d.0 d.1 d.2 d.4
    where
      by_outcome : (a : Act run) (msg : Letter) (by : Option Outcome) → did_of run a ≡ sends name number 0 msg by → slice_get outcomes number ≡ Some by → ((o : Outcome) × Became clients outcomes number o) ⊎ ((k : ℕ) × StandsOn p clients outcomes fixed gave (orders run differ) number 0 k)
      by_outcome a msg None e said = inr (accepted_stands run differ fixed gave a name number 0 msg e)
      by_outcome a msg (Some o) e said = inl (o, said)

  -- all that is told of sockets
  pub told_of_deeds : p.operations ≤ 65536 → (c : Core) → IsLeft run differ c → ToldSockets p clients outcomes fixed gave (orders run differ) c
  told_of_deeds few c left = record {
    are_orders = are_orders run differ c left;
    told = told;
    are = are run;
    once = once run;
    lives = lives run;
    why = why;
    unopened = unopened;
    sent = λ last k low. whose run differ fixed gave last k;
    own_order = λ k low. own_order run differ fixed gave k;
    dropped = dropped few;
  }
