-- Whose an accepted message is, by its owner: nobody's, or that of the call of the operation in its label, whose id the owner is.
use Rattle.std.proofs.Common.{◌≡◌, ℕ, ◌+◌, ◌*◌, ◌≤◌, ◌⊎◌, inl, inr, List, ◌∷◌, map, Some, None, zero-le, sym, ap, ◌∙◌, subst, arith}
use Rattle.std.specs.Prelude.{Option}
use mathlib.Core.Option.{some}
use lib.ListN.{get_elem?}
use Rattle.sock_io.specs.declared.link.Out.{Ghosts}
use Rattle.sock_io.specs.LinkHalves.{OutState}
use Rattle.sock_words.specs.declared.outcome.Outcome.{Outcome}
use Rattle.sock_words.specs.declared.plain.Plan.{Plan}
use Rattle.sock_words.specs.declared.place_word.PlaceWord.{PlaceWord}
use Rattle.sock_words.specs.declared.socket_id.SocketId.{SocketId}
use Rattle.sock_words.specs.declared.vref.Vref.{Vref}
use Rattle.sock_model.specs.declared.chain.Entry.{Entry}
use Rattle.sock_model.specs.declared.chain.Heading.{Heading}
use Rattle.failed_reasons.specs.Below.SockRule.Shows.{heading_of}
use Rattle.failed_reasons.specs.Below.SockRule.Letter.{Letter}
use Rattle.seat_programs.specs.declared.task.Op.{Op}
use Rattle.seat_programs.specs.declared.task.Op.TheVariants as ops
use Rattle.seat_programs.specs.declared.task.Task.{Task}
use Rattle.seat_programs.specs.Explained.{AreTasks}
use Rattle.corr_core.specs.declared.marks.Kept.{Kept}
use Rattle.corr_core.specs.declared.marks.Note.{Note}
use Rattle.corr_core.specs.declared.marks.Noted.{Noted}
use Rattle.corr_core.specs.declared.marks.Plan as id_plan
use Rattle.corr_core.specs.declared.marks.View.{View}
use Rattle.corr_id.specs.id_rule.specs.LawfulIdTable.{notes_of}
use Rattle.sock_message.specs.Asked.{Asked}
use Rattle.corr_id.specs.ClosingIdLists.{Closing}
use Rattle.failed_reasons.specs.Below.RpcClient.Told.{Told}
use Rattle.failed_reasons.specs.Below.CallAttempts.ClientAtBothTables.{Both}
use Rattle.failed_reasons.specs.Below.CallAttempts.Attempting.{DeliveredBy, went_out, came_back, AttemptedBy, nowhere, over_link}
use Rattle.failed_reasons.specs.Below.CallAttempts.AttemptLetters.{letter_for}
use Rattle.failed_reasons.specs.Below.CallAttempts.WaitingRetries.{WentTo, stray, unopened, to_socket, had_ended, overtaken, went_again}
use Rattle.failed_reasons.specs.Below.CallClient.ClientBetweenOperations.{Stand, both_of, Acted}
use Rattle.failed_reasons.specs.Below.CallRun.ReadersOfLinks.{LinkReader}
use Rattle.failed_reasons.specs.Below.CallRun.Threads.{RanWith, MayRunAll, ids_of}
use Rattle.failed_reasons.specs.call_whys.specs.call_places.specs.ClientNotesCounted.{HaveNotesOf}
use Rattle.failed_reasons.specs.call_whys.specs.call_places.specs.DeedsOfCallClient.{Deed, operates, retries, delivered_entries, attempt_entries, went_entries, acted_entries, entries_of}
use Rattle.failed_reasons.specs.call_whys.specs.call_places.proofs.ClientPlaces.{Client, view_of, tasks_of, deeds_of, own_of}
use Rattle.failed_reasons.specs.call_whys.specs.call_places.proofs.IdsOfRetries.{IsIdOf}
use Rattle.failed_reasons.specs.call_whys.specs.call_places.proofs.CallPlaceOrders.{lists_are, noted_among, own_behind, crew_of}
use Rattle.failed_reasons.specs.call_whys.specs.call_places.proofs.Log as log
use Rattle.failed_reasons.specs.call_whys.specs.call_told.specs.Least.{is_made_for}
use Rattle.failed_reasons.specs.call_whys.specs.call_told.proofs.ListElementsByPlace.{all_at}
use Rattle.failed_reasons.specs.call_whys.specs.call_places.specs.sock_deeds.proofs.PlacesOfEntries.{before}
use Rattle.failed_reasons.specs.call_whys.specs.call_places.specs.sock_deeds.proofs.Flats.{flat_from}
use Rattle.failed_reasons.specs.attempts_told.proofs.SendersWithCalls.{HasMade, IsNoted, all_noted}
use Rattle.failed_ends.proofs.Single.{none_there, one_there, again_id, first_id}
use Rattle.failed_reasons.specs.call_whys.specs.call_places.specs.sock_deeds.proofs.ListPlaces.{map_back}
use Rattle.sock_words.specs.PackedWords.{id_slot, id_first}
use Rattle.sock_words.specs.Totals.{total}

-- ## The heading of a frame

module _ {O : Type 0} (state : O → OutState) (p : Plan) (q : id_plan.Plan) where
  delivered_head : (socket : SocketId) (msg : Letter) (s t : Both) (d : DeliveredBy state p q socket msg s t) (m : ℕ) (e : Entry) → get_elem? (delivered_entries state p q socket msg s t d) m ≡ some e → e.heading ≡ heading_of msg
  delivered_head socket msg s t (went_out w) m e h = ap (λ (x : Entry). x.heading) (sym (one_there m w.accepted.entry e h)) ∙ w.accepted.heading_is
  delivered_head socket msg s t (came_back by c) m e h = absurd (none_there m e h)

  attempt_head : (socket : SocketId) (msg : Letter) (s t : Both) (a : AttemptedBy state p q socket msg s t) (m : ℕ) (e : Entry) → get_elem? (attempt_entries state p q socket msg s t a) m ≡ some e → e.heading ≡ heading_of msg
  attempt_head socket msg s t (nowhere n) m e h = absurd (none_there m e h)
  attempt_head socket msg s t (over_link u l d) m e h = delivered_head socket msg u t d m e h

  went_head : (name : ℕ) (msg : Letter) (s t : Both) (w : WentTo state p q name msg s t) (m : ℕ) (e : Entry) → get_elem? (went_entries state p q name msg s t w) m ≡ some e → e.heading ≡ heading_of msg
  went_head name msg s t (stray a b c) m e h = absurd (none_there m e h)
  went_head name msg s t (unopened a b) m e h = absurd (none_there m e h)
  went_head name msg s t (to_socket socket u f same a) m e h = attempt_head socket msg u t a m e h

-- ## The run

module _ {O : Type 0} {g : Ghosts O} {state : O → OutState} {readers : List (LinkReader g)} {p : Plan} {slots : ℕ} {setup : List Task} {clients : List (List Task)} {opens : List ℕ} {told ended : List (List Told)} {places : List PlaceWord} {vrefs : List Vref} {outs : List O} {ids : List (View Asked)}
    (run : RanWith g state readers p slots setup clients opens told ended places vrefs outs ids) (tasks : AreTasks p (setup ∷ clients)) (may : MayRunAll p (ids_of p slots) setup clients)
    (notes : List (Noted Asked)) (kept : List Kept) (words : List ℕ) (closing : Closing (ids_of p slots) notes kept words) (noted : HaveNotesOf ids notes) where
  open crew_of run use {q, crew}

  -- the message is an attempt of the call of the operation in its place index, whose id is its owner
  pub record IsOwned (e : Entry) : Type 0 where
    pub operation : ℕ
    pub place : e.heading.label.place ≡ 8 * operation + e.heading.label.attempt
    pub low : e.heading.label.attempt ≤ 6
    pub its : IsIdOf slots notes operation e.heading.owner

  -- or nobody is told of it
  abbrev pub Owned : Entry → Type 0
  Owned e = (e.heading.owner ≡ 0) ⊎ IsOwned e

  of_call : (asked : Asked) (id n : ℕ) (low : n ≤ 6) (e : Entry) → e.heading ≡ heading_of (letter_for asked id n low) → IsIdOf slots notes asked.operation id → Owned e
  of_call asked id n low e h its =
      let place = ap (λ (x : Heading). x.label.place) h in let attempt = ap (λ (x : Heading). x.label.attempt) h in
      inr (record { operation = asked.operation; place = omega (arith, place, attempt); low = omega (arith, attempt, low); its = subst (IsIdOf slots notes asked.operation) (sym (ap (λ (x : Heading). x.owner) h)) its })

  acted_owned : (v : View Asked) → ((i : ℕ) (f : Note Asked → ℕ) → total f (notes_of i v.notes) ≤ total f (notes_of i notes)) → (number : ℕ) (op : Op) (by : Option Outcome) (s t : Stand g) (a : Acted state p q number op by s t) → HasMade g state p q v number op by s t a
      → (m : ℕ) (e : Entry) → get_elem? (acted_entries state p q number op by s t a) m ≡ some e → Owned e
  acted_owned v among number (ops.Send n bytes) None s t a made m e h =
      let x = a.0.delivered.accepted in inl (ap (λ (y : Entry). y.heading.owner) (sym (one_there m x.entry e h)) ∙ ap (λ (y : Heading). y.owner) x.heading_is)
  acted_owned v among number (ops.Send n bytes) (Some by) s t a made m e h = absurd (none_there m e h)
  acted_owned v among number (ops.Call asked) None s t a made m e h =
      let b = a.1 in of_call asked a.0 0 zero-le e (attempt_head state p q b.socket _ b.at (both_of t) b.attempted m e h)
      (first_id run tasks may notes kept words closing noted asked.operation a.0 made.0 (let x = among (id_slot a.0) (is_made_for (id_first a.0) asked.operation) in let y = made.1 in omega (arith, x, y)))
  acted_owned v among number (ops.Call asked) (Some by) s t a made m e h = absurd (none_there m e h)
  acted_owned v among number _ by s t a made m e h = absurd (none_there m e h)

  deed_owned : (c : ℕ) (x : Client g state p q) → get_elem? crew c ≡ some x → (i : ℕ) (d : Deed g state p q) → get_elem? (deeds_of x) i ≡ some d → (m : ℕ) (e : Entry) → get_elem? (entries_of d) m ≡ some e → Owned e
  deed_owned c x at i (operates y by s t a) there m e h =
      let n = all_at (IsNoted g state p q (tasks_of x) (view_of x)) (deeds_of x) i (operates y by s t a) (all_noted x.thread x.is) there in
      acted_owned (view_of x) (noted_among run notes noted c x at) y.number y.op by s t a n.1 m e h
  deed_owned c x at i (retries r s t (had_ended z)) there m e h = absurd (none_there m e h)
  deed_owned c x at i (retries r s t (overtaken k u l w)) there m e h = absurd (none_there m e h)
  deed_owned c x at i (retries r s t (went_again k u l w)) there m e h =
      of_call k.content r.id r.attempt r.low e (went_head state p q _ _ _ t w.went m e h) (again_id run tasks may notes kept words closing noted c x at i r s t k u l w there)

  -- each message that a link accepted
  pub owned_by : (k : ℕ) (e : Entry) → get_elem? run.closed.ordered.log k ≡ some e → Owned e
  owned_by k e logged =
      let a = log.authored p run.closed.view.found run.closed.view.lists run.closed.ordered k e logged in
      let j = own_behind readers (map own_of crew) a.seat _ _ e (ap (λ (l : List (List Entry)). get_elem? l a.seat) (sym (lists_are run)) ∙ a.list) a.place in
      let y = map_back own_of crew j.0 _ j.1 in
      let m : ℕ = before a.author run.closed.ordered.by k in
      let own = flat_from entries_of (deeds_of y.0) m e (subst (λ (l : List Entry). get_elem? l m ≡ some e) (sym y.2) a.place) in
      deed_owned j.0 y.0 y.1 own.0 own.1 own.2 own.3 e own.4
