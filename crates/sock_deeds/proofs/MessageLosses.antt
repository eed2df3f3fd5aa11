-- A message of a link was dropped only where a client had found the link's life failed, before the sockets were ended.
use Rattle.std.proofs.Common.{◌≡◌, ℕ, ◌+◌, ◌*◌, ◌<◌, ◌≤◌, true, eqb, inl, inr, List, length, Option, None, refl, sym, ◌∙◌, subst, arith}
use Rattle.std.specs.Prelude.{slice_index}
use mathlib.Core.Option.{some}
use lib.ListN.{get_elem?}
use Rattle.sock_io.specs.declared.link.Out.{Ghosts}
use Rattle.sock_io.specs.LinkHalves.{OutState}
use Rattle.sock_words.specs.declared.outcome.Outcome.{Outcome}
use Rattle.sock_words.specs.declared.plain.Plan.{Plan}
use Rattle.sock_words.specs.declared.place_word.PlaceWord.{PlaceWord}
use Rattle.sock_words.specs.declared.vref.Vref.{Vref}
use Rattle.sock_words.specs.PackedWords.{socket_id_version, socket_id_slot, place_word}
use Rattle.sock_model.specs.declared.chain.Entry.{Entry}
use Rattle.sock_model.specs.Entries.{on}
use Rattle.sock_model.specs.SocketTableLayout.{place_index}
use Rattle.sock_model.specs.SlotRows.{marks_of}
use Rattle.sock_model.specs.MarkWeights.{is_met, is_saw}
use Rattle.chain_steps.proofs.TicketLists.{distinct_filter}
use Rattle.seat_programs.specs.declared.task.Op.TheVariants as ops
use Rattle.seat_programs.specs.declared.task.Task.{Task}
use Rattle.rpc_client.specs.sock_rule.specs.ClosingWordsAndNotes.{PlacesDiffer}
use Rattle.rpc_client.specs.sock_rule.specs.declared.homes.Letter.{Letter}
use Rattle.sock_deeds.specs.Deeds.{opens}
use Rattle.sock_deeds.specs.SocketTableRun.{IsMessage, of_send, of_call, IsFor, DeedRun}
use Rattle.sock_deeds.proofs.MessagesAcceptedByDeeds.{log, act_of_entry, sent_for, sent_place}
use Rattle.sock_deeds.proofs.DeedsOfAllSeats.{Act, after, did_of, done_of, has_marks, puts_from}
use Rattle.sock_deeds.proofs.PlacesOfEntries.{from_on}
use Rattle.sock_deeds.proofs.WhyLivesFailed.{WhyFailed, life_failed}
use Rattle.sock_deeds.proofs.LivesFailedByName.{link_is}
use Rattle.sock_deeds.proofs.FewMessagesByPlace.{few_entries}
use Rattle.sock_deeds.proofs.GrowingSocketNotes.{returned_grew}
use Rattle.sock_deeds.proofs.LivesOfDeeds.{linked_made}
use Rattle.sock_deeds.proofs.OrdersOfDeeds.{ends, kept}
use Rattle.sock_deeds.proofs.ListPlaces.{place_there}
use Rattle.sock_deeds.proofs.WordStoresOfDeeds.{done_drops}
use Rattle.sock_deeds.proofs.DeedsForTasks.{fits, is_for}

-- the word of a dropped message tells its link
one_link : (k l i j : ℕ) → i < 4294967295 → j < 4294967295 → place_word true k i ≡ place_word true l j → k ≡ l
one_link k l i j low_i low_j e = omega arith

module _ {O : Type 0} {g : Ghosts O} {state : O → OutState} {p : Plan} {clients : List (List Task)} {outcomes : List (Option Outcome)} {places : List PlaceWord} {vrefs : List Vref} {outs : List O} (run : DeedRun g state p clients outcomes places vrefs outs) (differ : PlacesDiffer (log run)) where
  -- ## How many messages a link has

  low_message : (c name number attempt : ℕ) (msg : Letter) (by : Option Outcome) → IsMessage clients outcomes c name number attempt msg by → (number < p.operations) × (attempt ≤ 6)
  low_message c name number attempt msg by (of_send bytes is first sent told) = ((fits run c record { number = number; op = ops.Send name bytes } is).0, omega arith)
  low_message c name number attempt msg by (of_call client asked is mine low name_is sent told) = ((fits run client record { number = number; op = ops.Call asked } is).0, low)

  pub low_entry : (q : ℕ) (e : Entry) → get_elem? (log run) q ≡ some e → e.heading.label.place < 8 * p.operations
  low_entry q e at =
      let w = act_of_entry run q e at in
      let s = w.1 in
      let place = sent_place run w.0 e s in
      let low = low_message w.0.c s.name s.number s.attempt s.msg None (sent_for run w.0 e s).0 in
      let a = low.0 in
      let b = low.1 in omega arith

  pub few_on : (k : ℕ) → length (on k (log run)) ≤ 8 * p.operations
  few_on k = few_entries (8 * p.operations) (on k (log run)) (λ i j a b at bt same. distinct_filter (λ (x : Entry). x.heading.label.place) (λ (x : Entry). eqb x.link k) (log run) differ i j a b at bt same)
      (λ i e at. let w = from_on k (log run) i e at in low_entry w.0 e w.1)

  -- ## Who dropped a message of the link

  low_open : (a : Act run) (name number link : ℕ) (by : Outcome) → did_of run a ≡ opens name number link by → (name < p.names) × (number < p.operations)
  low_open a name number link by is = let w = fits run a.c record { number = number; op = ops.Open name link } (subst (IsFor clients outcomes a.c) is (is_for run a)).0 in (w.1.0, w.0)

  -- the deed met link k as that of a life that it had found failed
  pub record FoundLost (k : ℕ) : Type 0 where
    pub a : Act run
    pub id : ℕ
    pub inside : socket_id_slot id < p.slots
    pub met : 0 < marks_of (is_met (socket_id_version id) k) (socket_id_slot id) (after run a)
    pub dead : 0 < marks_of (is_saw (socket_id_version id + 1)) (socket_id_slot id) (after run a)

  found_lost : p.operations ≤ 65536 → (k : ℕ) → k < p.links → kept run differ k < length (on k (log run)) → FoundLost k
  found_lost few k low less =
      let i = kept run differ k in
      let e = place_there (on k (log run)) i less in
      let l = e.0.heading.label.place in
      let n = slice_index run.closed.words (place_index p l) in
      let word : n ≡ place_word true k i = ((ends run differ).1 k low).fifo.dropped i e.0 e.1 (omega arith) in
      let q = from_on k (log run) i e.0 e.1 in
      let put = (run.closed.dropped l (low_entry q.0 e.0 q.1)).told (omega arith) in
      let w = puts_from run (place_index p l) n put in
      let d = done_drops p l n g state (did_of run w.0) w.0.d.before w.0.d.after (done_of run w.0) (low_open w.0) w.1 in
      let id = d.over.sock.id.0 in
      let x = d.word in
      let all = few_on k in
      let same : x.link ≡ k = one_link x.link k x.position i x.low (omega arith) (sym x.word_is ∙ word) in
      let through = d.over.delivered.through in
      let grew = returned_grew id through.wrote w.0.d.after.view through.returned in
      let m = grew.marks (is_met (socket_id_version id) x.link) (λ h. refl) (socket_id_slot id) in
      let s = grew.marks (is_saw (socket_id_version id + 1)) (λ h. refl) (socket_id_slot id) in
      let met = x.met in
      let dead = x.dead in
      record {
        a = w.0;
        id = id;
        inside = d.over.reached_it.1.0.inside;
        met = subst (λ j. 0 < marks_of (is_met (socket_id_version id) j) (socket_id_slot id) (after run w.0)) same (omega arith);
        dead = omega arith;
      }

  -- so the link's life was failed by a `fail`, by a fault of the link, or by its reader
  pub record LostBy (k : ℕ) : Type 0 where
    pub slot : ℕ
    pub version : ℕ
    pub why : WhyFailed run slot version k

  pub lost_by : p.operations ≤ 65536 → (k : ℕ) → k < p.links → kept run differ k < length (on k (log run)) → LostBy k
  lost_by few k low less =
      let f = ((ends run differ).1 k low).failed less in
      let m = linked_made run f.slot f.version k f.given in
      let d = found_lost few k low less in
      let i = socket_id_slot d.id in
      let h = socket_id_version d.id in
      let met = has_marks run d.a (is_met h k) (λ x. refl) i in
      let there = d.met in
      let o = linked_made run i h k (run.closed.closing.met_linked i h k d.inside (omega arith)) in
      let same = link_is run o.0 m.0 k i f.slot h f.version o.1 m.1 in
      elim (life_failed run m.0 k f.slot f.version f.inside m.1 f.failed) [
        | inl why ↦ record { slot = f.slot; version = f.version; why = why }
        | inr alive ↦ absurd (let e = alive d.a (h + 1) (subst (λ j. 0 < marks_of (is_saw (h + 1)) j (after run d.a)) same.0 d.dead) in let v = same.1 in omega arith)
      ]
