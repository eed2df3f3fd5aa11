-- What the links accepted: each message is that of a send of which nothing is told, or of an attempt of a call, to a name of the link's socket.
use Rattle.std.proofs.Common.{◌≡◌, ◌⊎◌, ℕ, ◌+◌, ◌*◌, inl, inr, List, slice_get, Option, Some, None, refl, sym, ap, ◌∙◌, subst, arith}
use Rattle.std.specs.List.{AllByRecursion}
use mathlib.Core.Option.{some}
use lib.ListN.{get_elem?}
use Rattle.rpc_client.specs.message_parts.specs.Parcels.{parcel_of}
use Rattle.sock_io.specs.declared.link.Out.{Ghosts}
use Rattle.sock_io.specs.LinkHalves.{OutState}
use Rattle.sock_words.specs.declared.outcome.Outcome.{Outcome}
use Rattle.sock_words.specs.declared.plain.Plan.{Plan}
use Rattle.sock_words.specs.declared.place_word.PlaceWord.{PlaceWord}
use Rattle.sock_words.specs.declared.vref.Vref.{Vref}
use Rattle.sock_words.specs.PackedWords.{socket_id_version, socket_id_slot}
use Rattle.sock_message.specs.Asked.{name_of, frame_of}
use Rattle.sock_model.specs.declared.chain.Entry.{Entry}
use Rattle.sock_model.specs.declared.marks.Mark.{Mark}
use Rattle.sock_model.specs.SocketTableLayout.{name_index}
use Rattle.sock_model.specs.SlotRows.{marks_of}
use Rattle.sock_model.specs.MarkWeights.{is_met, pair}
use Rattle.slot_steps.proofs.RuleNumbers.{pair-same}
use Rattle.rpc_client.specs.sock_rule.specs.ClosingWordsAndNotes.{PlacesDiffer}
use Rattle.rpc_client.specs.sock_rule.specs.declared.homes.Letter.{Letter}
use Rattle.seat_programs.specs.declared.task.Op.TheVariants as ops
use Rattle.seat_programs.specs.declared.task.Task.{Task}
use Rattle.seat_programs.specs.Explained.{Made}
use Rattle.seat_programs.specs.ExplainedCalls.{Accepted, Fixed, IsSent as IsSentBy, OfSend}
use Rattle.report_fits.specs.script_facts.proofs.FilteredLists.{all_from}
use Rattle.sock_deeds.specs.Deeds.{own_name}
use Rattle.sock_deeds.specs.MessagesLeftByRun.{accepted_of}
use Rattle.sock_deeds.specs.SocketsTold.{IsAttempt}
use Rattle.sock_deeds.specs.SocketTableRun.{IsOperation, IsMessage, of_send, of_call, DeedRun}
use Rattle.sock_deeds.proofs.MessagesAcceptedByDeeds.{log, Sent, act_of_entry, sent_for, sent_place}
use Rattle.sock_deeds.proofs.DeedsOfAllSeats.{Act, before, after, has_marks}
use Rattle.sock_deeds.proofs.LivesFailedByName.{here_found, life_is}
use Rattle.sock_deeds.proofs.GrowingSocketNotes.{grew_then, wrote_grew, returned_grew, over_grew}
use Rattle.sock_deeds.proofs.LivesOfDeeds.{MadeHere, linked_made, found_made}
use Rattle.sock_deeds.proofs.OrdersOfDeeds.{orders, entry_on}
use Rattle.sock_deeds.proofs.DeedsForTasks.{act_name}

module _ {O : Type 0} {g : Ghosts O} {state : O → OutState} {p : Plan} {clients : List (List Task)} {outcomes : List (Option Outcome)} {places : List PlaceWord} {vrefs : List Vref} {outs : List O} (run : DeedRun g state p clients outcomes places vrefs outs) where
  -- the link on which a message was accepted is that of a life of its name
  pub sent_life : (a : Act run) (e : Entry) (s : Sent run a e) → (slot version : ℕ) × MadeHere run s.name e.link slot version
  sent_life a e s =
      let d = s.sent.delivered in
      let id = s.sent.sock.id in
      let i = socket_id_slot id.0 in
      let h = socket_id_version id.0 in
      let low = s.sent.reached_it.1.0.inside in
      let named = act_name run a s.name (ap own_name s.did_is) in
      let found = (over_grew state p s.name s.msg None (before run a) (after run a) s.sent).finds record { place = name_index p s.name; word = id.0 + 1 } (here_found p s.name s.sent.sock (before run a) s.sent.has s.sent.reached_it) in
      let made = found_made run a s.name id named found in
      let f : Mark → ℕ = is_met h d.accepted.entry.link in
      let link : d.accepted.entry.link ≡ e.link = ap (λ (x : Entry). x.link) s.entry in
      let met : marks_of f i d.taken + 0 ≡ marks_of f i s.sent.addressed + (pair h d.accepted.entry.link h d.accepted.entry.link + (0 + 0)) = d.accepted.marks.here f in
      let one = pair-same h d.accepted.entry.link in
      let later = (grew_then d.taken d.through.wrote (after run a) (wrote_grew state p id.0 d.taken d.through.wrote d.through.by) (returned_grew id.0 d.through.wrote (after run a) d.through.returned)).marks f (λ x. refl) i in
      let all = has_marks run a f (λ x. refl) i in
      let other = linked_made run i h d.accepted.entry.link (run.closed.closing.met_linked i h d.accepted.entry.link low (omega arith)) in
      let same = (life_is run s.name other.0 made.0 d.accepted.entry.link i h made.1 other.1).1 in
      (i, h, subst (λ k. MadeHere run s.name k i h) (same ∙ link) made.1)

  module _ (differ : PlacesDiffer (log run)) (fixed : Fixed) (gave : ℕ → List ℕ) (last : ℕ → ℕ) where
    abbrev IsWhose : ℕ → Accepted → Type 0
    IsWhose k a = IsSentBy p clients outcomes fixed gave (orders run differ) last k a ⊎ IsAttempt clients outcomes k a

    by_message : (a : Act run) (e : Entry) (name number attempt : ℕ) (msg : Letter) → IsMessage clients outcomes a.c name number attempt msg None → e.heading.label.place ≡ 8 * number + attempt → (parcel_of msg.bytes).bytes ≡ e.bytes → (slot version : ℕ) → MadeHere run name e.link slot version → IsWhose e.link (accepted_of e)
    by_message a e name number attempt msg (of_send bytes is first sent told) place same slot version made =
        let op_ : number ≡ (accepted_of e).operation = omega arith in
        let none_ : (accepted_of e).attempt ≡ 0 = omega arith in
        let whole : bytes ≡ e.bytes = sym sent ∙ same in
        inl (OfSend a.c record { number = number; op = ops.Send name bytes } name slot version is op_ (ap (ops.Send name) whole) none_ made (subst (λ n. slice_get outcomes n ≡ Some None) op_ told))
    by_message a e name number attempt msg (of_call client asked is mine low name_is sent told) place same slot version made =
        let op_ : number ≡ (accepted_of e).operation = omega arith in
        let at : attempt ≡ (accepted_of e).attempt = omega arith in
        inr record {
          client = client;
          asked = asked;
          is = subst (λ n. IsOperation clients outcomes client n (ops.Call asked)) op_ is;
          low = omega arith;
          id = msg.owner;
          frame = sym same ∙ (sent ∙ ap (frame_of asked msg.owner) at);
          slot = slot;
          version = version;
          made = subst (λ n. Made clients outcomes n e.link slot version) (name_is ∙ ap (name_of asked) at) made;
        }

    pub whose : (k : ℕ) → AllByRecursion (IsWhose k) (orders run differ k).accepted
    whose k = all_from (IsWhose k) (orders run differ k).accepted (λ a h. (let w = entry_on run differ k h.0 a h.1 in of_entry a w.0 w.2 w.3 w.4 w.5))
      where
        of_entry : (a : Accepted) (e : Entry) → accepted_of e ≡ a → (q : ℕ) → get_elem? (log run) q ≡ some e → e.link ≡ k → IsWhose k a
        of_entry a e is q at link =
            let w = act_of_entry run q e at in
            let x = w.0 in
            let s = w.1 in
            let f = sent_for run x e s in
            let life = sent_life x e s in
            let place = sent_place run x e s in
            let same : (parcel_of s.msg.bytes).bytes ≡ e.bytes = sym s.sent.delivered.accepted.bytes_is ∙ ap (λ (y : Entry). y.bytes) s.entry in
            subst (λ l. IsWhose l a) link (subst (IsWhose e.link) is (by_message x e s.name s.number s.attempt s.msg f.0 place same life.0 life.1 life.2))
