-- The orders of the links are those that place words and links show; each accepted message is one that was sent, in its client's order.
use Rattle.std.proofs.Common.{◌≡◌, ◌≢◌, ℕ, zero, suc, ◌+◌, ◌*◌, ◌/◌, ◌%◌, ◌<◌, ◌≤◌, inl, inr, ⊎_elim, true, false, eqb, nat_le, List, [], ◌∷◌, ◌++◌, length, flat_map, map, get_or, replicate, append-nil, slice_get, Option, Some, None, refl, sym, ap, ◌∙◌, subst, arith}
use Rattle.std.proofs.lemmas.List.{length-map}
use Rattle.std.specs.Prelude.{slice_index}
use Rattle.std.specs.Option.{ForSome}
use Rattle.std.proofs.lemmas.Bool.Decides.{nat_tests}
use mathlib.Core.Logic.{dite}
use native.Mathlib.Decide.{dec_lt}
use mathlib.Core.Option as core
use mathlib.Core.Option.{some, none, some-injective}
use lib.ListN.{get_elem?}
use Rattle.brpc_model.specs.Order.{EachBefore}
use Rattle.rpc_client.specs.message_parts.specs.Parcels.{parcel_of}
use Rattle.sock_io.specs.declared.link.Out.{Ghosts}
use Rattle.sock_io.specs.LinkHalves.{OutState}
use Rattle.sock_words.specs.declared.outcome.Outcome.{Outcome}
use Rattle.sock_words.specs.declared.plain.Plan.{Plan}
use Rattle.sock_words.specs.declared.place_word.PlaceWord.{PlaceWord}
use Rattle.sock_words.specs.declared.vref.Vref.{Vref}
use Rattle.sock_model.specs.declared.chain.Entry.{Entry}
use Rattle.sock_model.specs.declared.home.Home.{Home}
use Rattle.sock_model.specs.declared.home.Home.TheVariants.{Link}
use Rattle.sock_model.specs.Entries.{on}
use Rattle.sock_model.specs.Fifo.{IsFifo}
use Rattle.sock_model.specs.SocketTableLayout.{place_index}
use Rattle.seat_programs.specs.declared.task.Op.TheVariants as ops
use Rattle.chain_steps.proofs.TicketLists.{distinct_filter}
use Rattle.seat_programs.specs.declared.task.Task.{Task}
use Rattle.seat_programs.specs.Cores.{Core, link_place, lies_at}
use Rattle.seat_programs.specs.ScheduledRuns.{from_to}
use Rattle.seat_programs.specs.ScriptSetupToEnding.{taken_by, took_at_home}
use Rattle.seat_programs.specs.Explained.{IsTask}
use Rattle.seat_programs.specs.ExplainedCalls.{Accepted, Order, Fixed, AreOrders, IsTaken, StandsAt, StandsOn, InOwnOrder, label}
use Rattle.report_fits.specs.script_facts.proofs.FilteredLists.{before_from}
use Rattle.rpc_client.specs.sock_rule.specs.ClosingWordsAndNotes.{LifeFailed, PlacesDiffer}
use Rattle.rpc_client.specs.sock_rule.specs.declared.homes.Letter.{Letter}
use Rattle.rpc_client.specs.sock_rule.specs.LinkFaultNotes.{faults_of}
use Rattle.sock_message.specs.Asked.{Asked, frame_of}
use Rattle.outcome_ticks.specs.outcome_stories.proofs.Accepted as accepted
use Rattle.outcome_ticks.specs.outcome_stories.proofs.Ordered.{get_range}
use Rattle.sock_deeds.specs.Deeds.{Did, sends}
use Rattle.sock_deeds.specs.MessagesLeftByRun.{accepted_of, orders_of, homes_of}
use Rattle.sock_deeds.specs.SocketTableRun.{IsMessage, of_send, of_call, DeedRun}
use Rattle.sock_deeds.proofs.MessagesAcceptedByDeeds.{log, Sender, sender, sender_act, act_of_entry, entry_of_act, sent_for, sent_place, in_order}
use Rattle.sock_deeds.proofs.DeedsOfAllSeats.{Act, did_of}
use Rattle.sock_deeds.proofs.PlacesOfEntries.{from_on, on_there, on_rises}
use Rattle.sock_deeds.proofs.WhyLivesFailed.{choose}
use Rattle.sock_deeds.proofs.Flats.{append_later}
use Rattle.sock_deeds.proofs.DeedsForTasks.{fits, same_task}
use Rattle.sock_words.specs.PackedWords.{place_word}

-- ## What a link took

range_at : {A : Type 0} (f : ℕ → A) (a n k : ℕ) → k < n → get_elem? (map f (from_to a n)) k ≡ some (f (a + k))
range_at f a zero k l = absurd (omega arith)
range_at f a (suc n) zero l = ap (λ x. some (f x)) (omega arith)
range_at f a (suc n) (suc k) l = range_at f (a + 1) n k (omega arith) ∙ ap (λ x. some (f x)) (omega arith)

replicate_long : {A : Type 0} (n : ℕ) (x : A) → length (replicate n x) ≡ n
replicate_long zero x = refl
replicate_long (suc n) x = ap suc (replicate_long n x)

module _ (p : Plan) (took : ℕ → List ℕ) (k : ℕ) (low : k < p.links) where
  home_at : get_elem? (homes_of p took) (link_place p k) ≡ some (some (Link k (took k) 0 false))
  home_at =
      let nothing : core.Option Home = none in
      let empty : List (core.Option Home) = replicate p.requests nothing in
      let links : List (core.Option Home) = map (λ j. some (Link j (took j) 0 false)) (from_to 0 p.links) in
      let q : p.requests + k ≡ length empty + k = (let e = replicate_long p.requests nothing in omega arith) in
      ap (get_elem? (homes_of p took)) q ∙ append_later empty links k (some (Link k (took k) 0 false)) (range_at (λ j. some (Link j (took j) 0 false)) 0 p.links k low ∙ ap (λ (j : ℕ). some (some (Link j (took j) 0 false))) (omega arith))

  pub took_home : get_or (took_at_home p (homes_of p took)) k [] ≡ took k
  took_home =
      let f : ℕ → List ℕ = λ j. flat_map taken_by (lies_at (homes_of p took) (link_place p j)) in
      let lies : flat_map taken_by (lies_at (homes_of p took) (link_place p k)) ≡ took k ++ [] = ap (λ o. flat_map taken_by (elim o as (λ o. List Home) [ none ↦ [] | some x ↦ elim x as (λ o. List Home) [ none ↦ [] | some y ↦ y ∷ [] ] ])) home_at in
      get_range f [] 0 p.links k low ∙ (ap f (omega arith) ∙ (lies ∙ append-nil (took k)))

-- ## Messages as a link accepted them

pub accepted_there : (es : List Entry) (i : ℕ) (e : Entry) → get_elem? es i ≡ some e → slice_get (map accepted_of es) i ≡ Some (accepted_of e)
accepted_there = accepted.accepted_there (λ e. e.heading.label.place / 8) (λ e. e.heading.label.place % 8)

label_is : (e : Entry) → label (accepted_of e) ≡ e.heading.label.place
label_is e = omega arith

-- a frame has bytes
frame_some : (asked : Asked) (id n : ℕ) → frame_of asked id n ≢ []
frame_some asked id n e = cc

module _ {O : Type 0} {g : Ghosts O} {state : O → OutState} {p : Plan} {clients : List (List Task)} {outcomes : List (Option Outcome)} {places : List PlaceWord} {vrefs : List Vref} {outs : List O} (run : DeedRun g state p clients outcomes places vrefs outs) (differ : PlacesDiffer (log run)) where
  -- what a link took, and how many messages whole
  pub record LinkEnds (k : ℕ) (x : List ℕ × ℕ) : Type 0 where
    pub fifo : IsFifo (λ l. slice_index run.closed.words (place_index p l)) k (on k (log run)) x.1 x.0
    pub failed : x.1 < length (on k (log run)) → LifeFailed p run.closed.view k
    pub out : O
    pub there : get_elem? outs k ≡ some out
    pub own : (state out).link ≡ k
    pub faulted : 0 < faults_of k run.closed.view → 0 < (state out).faults
    pub tells : ForSome (state out).took (λ bytes. bytes ≡ x.0)

  pub ends : (f : ℕ → List ℕ × ℕ) × ((k : ℕ) → k < p.links → LinkEnds k (f k))
  ends = choose LinkEnds ([], 0) p.links (λ k low. (let b = run.closed.outs_back k low in ((b.took, b.took_is.kept), record { fifo = b.took_is.fifo differ; failed = b.took_is.failed; out = b.out; there = b.there; own = b.own; faulted = b.faulted; tells = b.tells })))

  abbrev pub took : ℕ → List ℕ
  took k = (ends.0 k).0

  abbrev pub kept : ℕ → ℕ
  kept k = (ends.0 k).1

  abbrev pub orders : ℕ → Order
  orders = orders_of (log run) kept

  -- ## Its messages

  pub entry_on : (k i : ℕ) (a : Accepted) → StandsAt orders k i a → (e : Entry) × (get_elem? (on k (log run)) i ≡ some e) × (accepted_of e ≡ a) × (q : ℕ) × (get_elem? (log run) q ≡ some e) × (e.link ≡ k)
  entry_on k i a at = let w = accepted.accepted_at (λ e. e.heading.label.place / 8) (λ e. e.heading.label.place % 8) (on k (log run)) i a at in let f = from_on k (log run) i w.0 w.1 in (w.0, w.1, w.2, f.0, f.1, f.2)

  message_some : (c name number attempt : ℕ) (msg : Letter) → IsMessage clients outcomes c name number attempt msg None → (parcel_of msg.bytes).bytes ≢ []
  message_some c name number attempt msg (of_send bytes is first sent told) e = (fits run c record { number = number; op = ops.Send name bytes } is).1.1 (sym sent ∙ e)
  message_some c name number attempt msg (of_call client asked is mine low name_is sent told) e = frame_some asked msg.owner attempt (sym sent ∙ e)

  has_bytes : (q : ℕ) (e : Entry) → get_elem? (log run) q ≡ some e → e.bytes ≢ []
  has_bytes q e at none_ =
      let w = act_of_entry run q e at in
      let s = w.1 in
      message_some w.0.c s.name s.number s.attempt s.msg (sent_for run w.0 e s).0 (sym s.sent.delivered.accepted.bytes_is ∙ (ap (λ (x : Entry). x.bytes) s.entry ∙ none_))

  -- ## The orders

  word_at : (k i : ℕ) (e : Entry) → k < p.links → get_elem? (on k (log run)) i ≡ some e → slice_index run.closed.words (place_index p e.heading.label.place) ≡ place_word (nat_le (kept k) i) k i
  word_at k i e low at =
      let f = (ends.1 k low).fifo in
      dite (dec_lt i (kept k))
      (λ lt. f.placed i e at lt ∙ ap (λ b. place_word b k i) (sym (first_le lt)))
      (λ ge. f.dropped i e at (omega arith) ∙ ap (λ b. place_word b k i) (sym (later_le (omega arith))))
    where
      first_le : i < kept k → nat_le (kept k) i ≡ false
      first_le lt = grind (arith, nat_tests)

      later_le : kept k ≤ i → nat_le (kept k) i ≡ true
      later_le le = grind (arith, nat_tests)

  -- a core with the last words, where each link lies at home with what it took
  pub record IsLeft (c : Core) : Type 0 where
    pub words : c.words ≡ run.closed.words
    pub homes : c.homes ≡ homes_of p took

  pub are_orders : (c : Core) → IsLeft c → AreOrders p c orders
  are_orders c left = record {
    written = λ k i a low at. (let w = entry_on k i a at in ap (λ l. slice_index l (place_index p (label a))) left.words ∙ (ap (λ l. slice_index run.closed.words (place_index p l)) (ap label (sym w.2) ∙ label_is w.0) ∙ word_at k i w.0 low w.1));
    alone = λ l low. ⊎_elim (λ none_. inl (ap (λ ws. slice_index ws (place_index p l)) left.words ∙ none_)) (λ w. inr (w.link, w.position, accepted_of w.entry, w.inside, accepted_there (on w.link (log run)) w.position w.entry w.there, sym w.own ∙ sym (label_is w.entry))) (run.closed.shown l low);
    within = λ k low. (let c_ = (ends.1 k low).fifo.count in let n = length-map (on k (log run)) accepted_of in omega arith);
    taken = λ k low. subst (λ hs. IsTaken (orders k) (get_or (took_at_home p hs) k [])) (sym left.homes) (subst (IsTaken (orders k)) (sym (took_home p took k low)) (accepted.taken_of (λ e. e.heading.label.place / 8) (λ e. e.heading.label.place % 8) (on k (log run)) (kept k) (took k) (λ i e at. (let w = from_on k (log run) i e at in has_bytes w.0 e w.1)) (ends.1 k low).fifo.took_is));
    apart = λ k l i j a b low_k low_l at bt same. (
        let v = entry_on k i a at in
        let w = entry_on l j b bt in
        let place : v.0.heading.label.place ≡ w.0.heading.label.place = sym (label_is v.0) ∙ (ap label v.2 ∙ (same ∙ (ap label (sym w.2) ∙ label_is w.0))) in
        let q : v.3 ≡ w.3 = differ v.3 w.3 v.0 w.0 v.4 w.4 place in
        let e : v.0 ≡ w.0 = some-injective v.0 w.0 (sym v.4 ∙ (ap (get_elem? (log run)) q ∙ w.4)) in
        let links : k ≡ l = sym v.5 ∙ (ap (λ (x : Entry). x.link) e ∙ w.5) in
        (links, distinct_filter (λ (x : Entry). x.heading.label.place) (λ (x : Entry). eqb x.link l) (log run) differ i j v.0 w.0 (subst (λ m. get_elem? (on m (log run)) i ≡ some v.0) links v.1) w.1 place));
  }

  -- ## Told

  low_attempt : (c name number attempt : ℕ) (msg : Letter) → IsMessage clients outcomes c name number attempt msg None → attempt < 8
  low_attempt c name number attempt msg (of_send bytes is first sent told) = omega arith
  low_attempt c name number attempt msg (of_call client asked is mine low name_is sent told) = omega arith

  module _ (fixed : Fixed) (gave : ℕ → List ℕ) where
    -- a message that was accepted stands in the order of its link
    pub accepted_stands : (a : Act run) (name number attempt : ℕ) (msg : Letter) → did_of run a ≡ sends name number attempt msg None → (k : ℕ) × StandsOn p clients outcomes fixed gave orders number attempt k
    accepted_stands a name number attempt msg is =
        let w = entry_of_act run a name number attempt msg is in
        let e = w.1 in
        let s = w.3 in
        let same : sends s.name s.number s.attempt s.msg None ≡ sends name number attempt msg None = sym s.did_is ∙ is in
        let place = sent_place run a e s in
        let low = low_attempt a.c s.name s.number s.attempt s.msg (sent_for run a e s).0 in
        let n : s.number ≡ number = ap number_in same in
        let m : s.attempt ≡ attempt = ap attempt_in same in
        let link : s.sent.delivered.accepted.entry.link ≡ e.link = ap (λ (x : Entry). x.link) s.entry in
        let inside = s.sent.delivered.accepted.inside in
        let i = on_there e.link (log run) w.0 e w.2 refl in
        (e.link, (i.0, (omega arith, accepted_of e, accepted_there (on e.link (log run)) i.0 e i.1, omega arith, omega arith)))
      where
        number_in : Did → ℕ
        number_in (sends name number attempt msg by) = number
        number_in other = 0

        attempt_in : Did → ℕ
        attempt_in (sends name number attempt msg by) = attempt
        attempt_in other = 0

    -- the client of a first message is that of its operation
    client_of : (q : ℕ) (e : Entry) (s : Sender run q e) (c n : ℕ) (t : Task) → IsTask clients outcomes c t → t.number ≡ n → e.heading.label.place ≡ 8 * n → s.c ≡ c
    client_of q e s c n t is number place =
        let w = sender_act run q e s in
        let x = w.2 in
        let at = sent_place run w.0 e x in
        let low = low_attempt w.0.c x.name x.number x.attempt x.msg (sent_for run w.0 e x).0 in
        sym w.1 ∙ by_message w.0.c x.name x.number x.attempt x.msg (sent_for run w.0 e x).0 (omega arith) (omega arith)
      where
        by_message : (d name number attempt : ℕ) (msg : Letter) → IsMessage clients outcomes d name number attempt msg None → attempt ≡ 0 → number ≡ t.number → d ≡ c
        by_message d name number attempt msg (of_send bytes own first sent told) none_ same = (same_task run d c record { number = number; op = ops.Send name bytes } t own is same).0
        by_message d name number attempt msg (of_call client asked own mine low name_is sent told) none_ same = sym (mine none_) ∙ (same_task run client c record { number = number; op = ops.Call asked } t own is same).0

    -- of each client the first message of an earlier operation stands before that of a later one
    pub own_order : (k : ℕ) → EachBefore (InOwnOrder p clients outcomes fixed gave orders) (orders k).accepted
    own_order k = before_from (InOwnOrder p clients outcomes fixed gave orders) (orders k).accepted (λ i j a b less at bt. λ c t u is also number_t number_u first_a first_b. (
        let v = entry_on k i a at in
        let w = entry_on k j b bt in
        let r = on_rises k (log run) i j v.0 w.0 less v.1 w.1 in
        let op_a : v.0.heading.label.place / 8 ≡ t.number = ap (λ (x : Accepted). x.operation) v.2 ∙ sym number_t in
        let at_a : v.0.heading.label.place % 8 ≡ 0 = ap (λ (x : Accepted). x.attempt) v.2 ∙ first_a in
        let op_b : w.0.heading.label.place / 8 ≡ u.number = ap (λ (x : Accepted). x.operation) w.2 ∙ sym number_u in
        let at_b : w.0.heading.label.place % 8 ≡ 0 = ap (λ (x : Accepted). x.attempt) w.2 ∙ first_b in
        let place_a : v.0.heading.label.place ≡ 8 * t.number = omega arith in
        let place_b : w.0.heading.label.place ≡ 8 * u.number = omega arith in
        let s = sender run r.0 v.0 r.3 in
        let z = sender run r.1 w.0 r.4 in
        in_order run r.0 r.1 v.0 w.0 s z (client_of r.0 v.0 s c t.number t is refl place_a ∙ sym (client_of r.1 w.0 z c u.number u also refl place_b)) r.2 t.number u.number place_a place_b))
