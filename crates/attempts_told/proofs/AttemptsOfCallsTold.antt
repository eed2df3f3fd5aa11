-- How many attempts each call of a run made, and whose the messages are that links accepted.
use Rattle.std.proofs.Common.{◌≡◌, ℕ, zero, suc, ◌+◌, ◌<◌, ◌≤◌, ◌⊎◌, inl, inr, List, [], ◌∷◌, slice_get, Some, refl, sym, ap, ◌∙◌, subst, arith}
use Rattle.std.specs.Prelude.{Option}
use Rattle.std.specs.List.{AllByRecursion}
use mathlib.Core.Logic.{dite}
use mathlib.Core.Option.{some, some-injective}
use native.Mathlib.Decide.{ℕ_discrete}
use lib.ListN.{get_elem?}
use Rattle.sock_io.specs.declared.link.Out.{Ghosts}
use Rattle.sock_io.specs.LinkHalves.{OutState}
use Rattle.sock_words.specs.declared.plain.Plan.{Plan}
use Rattle.sock_words.specs.declared.place_word.PlaceWord.{PlaceWord}
use Rattle.sock_words.specs.declared.vref.Vref.{Vref}
use Rattle.sock_words.specs.declared.outcome.Outcome.{Outcome}
use Rattle.brpc_model.specs.MessageOfLabel.{shown_id}
use Rattle.sock_model.specs.declared.chain.Entry.{Entry}
use Rattle.seat_programs.specs.declared.task.Op.{Op}
use Rattle.seat_programs.specs.declared.task.Op.TheVariants as ops
use Rattle.seat_programs.specs.declared.task.Task.{Task}
use Rattle.seat_programs.specs.Cores.{Core}
use Rattle.seat_programs.specs.Explained.{IsTask, Became}
use Rattle.seat_programs.specs.ExplainedCalls.{Accepted, Order, Fixed, StandsAt, IsSent, OfCall}
use Rattle.corr_core.specs.IdSlotWord.{parts}
use Rattle.corr_core.specs.IdSlotLaw.{is_made, is_attempt}
use Rattle.corr_core.specs.declared.marks.Kept.{Kept}
use Rattle.corr_core.specs.declared.marks.Note.{Note}
use Rattle.corr_core.specs.declared.marks.Note.TheVariants.{Made}
use Rattle.corr_core.specs.declared.marks.Noted.{Noted}
use Rattle.corr_core.specs.declared.marks.Plan as id_plan
use Rattle.corr_core.specs.declared.marks.View.{View}
use Rattle.corr_core.proofs.NoteSums.{only-at, pair-at, total_some}
use Rattle.id_rule.specs.LawfulIdTable.{notes_of}
use Rattle.sock_message.specs.Asked.{Asked, frame_of}
use Rattle.corr_id.specs.SeatBehindIdCalls.{is_saw}
use Rattle.corr_id.specs.ClosingIdLists.{Closing}
use Rattle.call_whys.specs.Below.RpcClient.Told.{Told}
use Rattle.call_whys.specs.Below.CallRun.ReadersOfLinks.{LinkReader}
use Rattle.call_whys.specs.Below.CallRun.Threads.{RanWith, MayRunAll, ids_of}
use Rattle.call_whys.specs.call_told.specs.Least.{is_made_for}
use Rattle.call_whys.specs.call_places.specs.ClientNotesCounted.{HaveNotesOf}
use Rattle.call_whys.specs.call_places.proofs.NoteWeights.{term, two_terms}
use Rattle.call_whys.specs.call_places.proofs.Still.{advances}
use Rattle.call_whys.specs.call_places.proofs.IdsOfRetries.{IdLaws, IsIdOf, laws_of, id_parts}
use Rattle.call_whys.specs.call_places.proofs.ClientPlaces.{Client, view_of}
use Rattle.call_whys.specs.call_places.proofs.CallPlaceOrders.{all, noted_among, views_are}
use Rattle.call_whys.specs.call_deeds.specs.RetriedCalls.{all_asked}
use Rattle.call_whys.specs.call_deeds.proofs.Ran.{AreLater}
use Rattle.call_whys.specs.call_places.specs.sock_deeds.specs.MessagesLeftByRun.{accepted_of}
use Rattle.call_whys.specs.call_places.specs.sock_deeds.specs.SocketsTold.{IsAttempt, ToldSockets}
use Rattle.call_whys.specs.call_places.specs.sock_deeds.proofs.ListPlaces.{map_back}
use Rattle.attempts_told.specs.CountedAttempts.{last_attempt, AreAttemptsTold}
use Rattle.attempts_told.proofs.BoundsOfAttempts.{IsBounded, all_bounded}
use Rattle.attempts_told.proofs.Last.{none_further, one_reached, few_advances}
use Rattle.attempts_told.proofs.SendersWithCalls.{made_for_there, IsOwnAttempt, SentBy, of_send, of_call, sent_by}
use Rattle.sock_words.specs.PackedWords.{id_slot, id_first}
use Rattle.sock_words.specs.Totals.{total}

-- ## Parts

asked_in : Op → Asked → Asked
asked_in (ops.Call asked) other = asked
asked_in op other = other

pub same_asked : (a b : Asked) → ops.Call a ≡ ops.Call b → a ≡ b
unfolding asked_in
same_asked a b e = ap (λ (o : Op). asked_in o a) e

content_of : Note Asked → Asked → Asked
content_of (Made f r asked) other = asked
content_of n other = other

range_of : Note Asked → ℕ
range_of (Made f r asked) = r
range_of n = 0

same_made : (f r s : ℕ) (a b : Asked) → Made f r a ≡ Made f s b → (r ≡ s) × (a ≡ b)
unfolding content_of range_of
same_made f r s a b e = (ap range_of e, ap (λ (n : Note Asked). content_of n a) e)

-- what is known of each member is known of it in another way
each_place : {A : Type 0} (P Q : A → Type 0) (xs : List A) → AllByRecursion P xs → ((k : ℕ) (x : A) → slice_get xs k ≡ Some x → P x → Q x) → AllByRecursion Q xs
each_place P Q [] h f = tt
each_place P Q (x ∷ xs) h f = (f zero x refl h.0, each_place P Q xs h.1 (λ k y at. f (suc k) y at))

-- ## The run

module _ {O : Type 0} {g : Ghosts O} {state : O → OutState} {readers : List (LinkReader g)} {p : Plan} {slots : ℕ} {setup : List Task} {clients : List (List Task)} {opens : List ℕ} {told ended : List (List Told)} {places : List PlaceWord} {vrefs : List Vref} {outs : List O} {ids : List (View Asked)}
    (run : RanWith g state readers p slots setup clients opens told ended places vrefs outs ids) (outcomes : List (Option Outcome)) (may : MayRunAll p (ids_of p slots) setup clients)
    -- the closed table of ids, over all notes, in which those are who run
    (notes : List (Noted Asked)) (kept : List Kept) (words : List ℕ) (closing : Closing (ids_of p slots) notes kept words) (have : HaveNotesOf ids notes)
    -- none but they advanced attempts
    (own : (i f n : ℕ) → total (is_attempt f n) (notes_of i notes) ≤ total (λ (v : View Asked). advances i f n v) ids)
    -- each retry is one of a later attempt of a call
    (later : (j : ℕ) (c : Client g state p (ids_of p slots)) → get_elem? (all run) j ≡ some c → AreLater (setup ∷ clients) outcomes (all_asked c.thread c.is))
    -- each id was made for a call of theirs, with as many versions as that asks for, which are two at least; and a number is one task's
    (made : (i j f r : ℕ) (asked : Asked) → i < slots → get_elem? (notes_of i notes) j ≡ some (Made f r asked) → (c : ℕ) × IsTask (setup ∷ clients) outcomes c record { number = asked.operation; op = ops.Call asked } × (r ≡ asked.range))
    (two : (c : ℕ) (t : Task) (asked : Asked) → IsTask (setup ∷ clients) outcomes c t → t.op ≡ ops.Call asked → 2 ≤ asked.range)
    (one : (c d : ℕ) (t u : Task) → IsTask (setup ∷ clients) outcomes c t → IsTask (setup ∷ clients) outcomes d u → t.number ≡ u.number → t ≡ u) where
  abbrev tasks_all : List (List Task)
  tasks_all = setup ∷ clients

  abbrev q : id_plan.Plan
  q = ids_of p slots

  laws : IdLaws slots notes
  laws = laws_of q notes kept words closing

  abbrev pub last : ℕ → ℕ
  last = last_attempt notes

  -- two calls of one number are one
  one_call : (c d o : ℕ) (a b : Asked) → IsTask tasks_all outcomes c record { number = o; op = ops.Call a } → IsTask tasks_all outcomes d record { number = o; op = ops.Call b } → a ≡ b
  one_call c d o a b is also = same_asked a b (ap (λ (t : Task). t.op) (one c d record { number = o; op = ops.Call a } record { number = o; op = ops.Call b } is also refl))

  -- ## How many attempts

  -- an advance is bounded by what its own client found
  bounded : (i f n : ℕ) → 0 < total (is_attempt f n) (notes_of i notes) → (j : ℕ) × (c : Client g state p q) × (get_elem? (all run) j ≡ some c) × IsBounded slots i f n (view_of c)
  bounded i f n some_ =
      let w = total_some (λ (v : View Asked). advances i f n v) ids (let a = own i f n in omega arith) in
      let c = map_back view_of (all run) w.0 w.1 (ap (λ (l : List (View Asked)). get_elem? l w.0) (views_are run) ∙ w.2) in
      let there : 0 < advances i f n (view_of c.0) = subst (λ (v : View Asked). 0 < advances i f n v) (sym c.2) w.3 in
      (w.0, c.0, c.1, all_bounded c.0.thread c.0.is i f n there)

  -- the range of a call whose id advanced to n
  range_left : (o i f n : ℕ) → 0 < total (is_made_for f o) (notes_of i notes) → 0 < total (is_attempt f n) (notes_of i notes) → (c : ℕ) (asked : Asked) → IsTask tasks_all outcomes c record { number = o; op = ops.Call asked } → n + 2 ≤ asked.range
  range_left o i f n made_ some_ c asked is =
      let b = bounded i f n some_ in
      let x = b.3 in
      let seen : 0 < total (is_saw x.word) (notes_of i notes) = (let y = x.found in let z = noted_among run notes have b.0 b.1 b.2 i (is_saw x.word) in omega arith) in
      let r = laws.range_is i x.word x.inside seen x.taken in
      let at : get_elem? (notes_of i notes) r.1 ≡ some (Made f (parts x.word).range r.0) = r.2 ∙ ap (λ (y : ℕ). some (Made y (parts x.word).range r.0)) x.first_is in
      let m = made_for_there f o (notes_of i notes) made_ in
      let same : (m.0 ≡ (parts x.word).range) × (m.1 ≡ r.0) = dite (ℕ_discrete m.2 r.1)
      (λ e. same_made f m.0 (parts x.word).range m.1 r.0 (some-injective (Made f m.0 m.1) (Made f (parts x.word).range r.0) (sym m.3 ∙ (ap (get_elem? (notes_of i notes)) e ∙ at))))
      (λ ne. absurd (
      let once = closing.made_once i f x.inside in
      let both = two_terms (is_made f) (notes_of i notes) m.2 r.1 (Made f m.0 m.1) (Made f (parts x.word).range r.0) m.3 at ne in
      let here = only-at f f refl in omega arith)) in
      let t = made i m.2 f m.0 m.1 x.inside m.3 in
      let mine = subst (λ (k : ℕ). IsTask tasks_all outcomes t.0 record { number = k; op = ops.Call m.1 }) m.4 t.1 in
      let call = one_call t.0 c o m.1 asked mine is in
      let long : m.0 ≡ asked.range = t.2 ∙ ap (λ (a : Asked). a.range) call in
      let room = x.room in let wide = same.0 in omega arith

  -- no call makes more attempts than it may
  pub few : (client : ℕ) (t : Task) (asked : Asked) → IsTask tasks_all outcomes client t → t.op ≡ ops.Call asked → last t.number + 2 ≤ asked.range
  few client t asked is op =
      let call = subst (λ (x : Op). IsTask tasks_all outcomes client record { number = t.number; op = x }) op is in
      elim (one_reached t.number notes notes) [
        | inl none_ ↦ (let a = two client t asked is op in omega arith)
        | inr r ↦ range_left t.number r.slot r.first (last t.number) r.made r.noted client asked call
      ]

  -- ## Words that were found

  -- a word that was found with a call's id tells no attempt behind its last one
  pub attempt_low : (o i w : ℕ) → i < slots → 0 < total (is_saw w) (notes_of i notes) → 0 < (parts w).state → 0 < total (is_made_for (parts w).first o) (notes_of i notes) → (parts w).attempt ≤ last o
  attempt_low o i w inside seen taken made_ =
      let f : ℕ = (parts w).first in
      let a = closing.attempts_are i w inside seen taken in
      let b = few_advances f (last o) (notes_of i notes) (λ n some_. ((bounded i f n some_).3.later, none_further o notes i f n notes made_ some_)) (λ n. closing.advanced_once i f n inside) in omega arith

  -- and one that leaves room for no other attempt tells the last one
  pub last_is : (o i w : ℕ) → i < slots → 0 < total (is_saw w) (notes_of i notes) → 0 < (parts w).state → 0 < total (is_made_for (parts w).first o) (notes_of i notes) → (c : ℕ) (asked : Asked) → IsTask tasks_all outcomes c record { number = o; op = ops.Call asked }
      → (parts w).attempt + 2 ≡ asked.range → (parts w).attempt ≡ last o
  last_is o i w inside seen taken made_ c asked is full = let a = attempt_low o i w inside seen taken made_ in let b = few c record { number = o; op = ops.Call asked } asked is refl in omega arith

  -- ## Messages

  -- an attempt of a call is none behind its last one
  low_attempt : (a : Accepted) → (m : IsOwnAttempt run outcomes may notes laws have later a) → a.attempt ≤ last a.operation
  low_attempt a m = elim m.advanced [ inl first ↦ omega (arith, first) | inr noted ↦ by noted ]
    where
      by : 0 < total (is_attempt (id_first m.id) a.attempt) (notes_of (id_slot m.id) notes) → a.attempt ≤ last a.operation
      by noted =
          let at = id_parts m.id m.its.slot m.its.first m.its.id_is m.its.low in
          let o : ℕ = a.operation in
          let here = term (is_made_for m.its.first o) (notes_of m.its.slot notes) m.its.place (Made m.its.first m.its.range m.its.asked) m.its.made in
          let pair_ = pair-at m.its.first o m.its.first m.its.asked.operation refl m.its.operation in
          let same : total (is_made_for (id_first m.id) o) (notes_of (id_slot m.id) notes) ≡ total (is_made_for m.its.first o) (notes_of m.its.slot notes) = (λ i. total (is_made_for (at.1 i) o) (notes_of (at.0 i) notes)) in
          none_further o notes (id_slot m.id) (id_first m.id) a.attempt notes (omega arith) noted

  module _ (fixed : Fixed) (gave : ℕ → List ℕ) (orders : ℕ → Order) (core : Core) (tells : ToldSockets p tasks_all outcomes fixed gave orders core)
      -- what the links accepted is in the log
      (logged : (k i : ℕ) (a : Accepted) → StandsAt orders k i a → (e : Entry) × (accepted_of e ≡ a) × (m : ℕ) × (get_elem? run.closed.ordered.log m ≡ some e))
      -- the outcome of a call that has begun shows its id
      (shown : (o id : ℕ) → IsIdOf slots notes o id → (by : Outcome) × Became tasks_all outcomes o by × (shown_id by ≡ Some id)) where
    abbrev IsSentHere : ℕ → Accepted → Type 0
    IsSentHere k a = IsSent p tasks_all outcomes fixed gave orders last k a

    its_call : (k : ℕ) (a : Accepted) → IsAttempt tasks_all outcomes k a → SentBy run outcomes may notes laws have later a → IsSentHere k a
    its_call k a t (of_send client name bytes is) =
        let e : ops.Call t.asked ≡ ops.Send name bytes = ap (λ (x : Task). x.op) (one t.client client record { number = a.operation; op = ops.Call t.asked } record { number = a.operation; op = ops.Send name bytes } t.is is refl) in
        absurd (cc)
    its_call k a t (of_call m) =
        let call : m.asked ≡ t.asked = one_call m.client t.client a.operation m.asked t.asked m.is t.is in
        let s = shown a.operation m.id m.its in
        OfCall t.client record { number = a.operation; op = ops.Call t.asked } t.asked s.0 m.id t.slot t.version t.is refl refl s.1 s.2 (low_attempt a m) (m.bytes ∙ ap (λ (x : Asked). frame_of x m.id a.attempt) call) t.made

    -- each message that a link accepted
    whose : (k i : ℕ) (a : Accepted) → StandsAt orders k i a → IsSentHere k a ⊎ IsAttempt tasks_all outcomes k a → IsSentHere k a
    whose k i a at (inl s) = s
    whose k i a at (inr t) = let l = logged k i a at in its_call k a t (subst (SentBy run outcomes may notes laws have later) l.1 (sent_by run outcomes may notes laws have later l.2 l.0 l.3))

    pub attempts_told : AreAttemptsTold p tasks_all outcomes fixed gave orders
    attempts_told = record {
      last = last;
      few = few;
      sent = λ k low. each_place (λ (a : Accepted). IsSentHere k a ⊎ IsAttempt tasks_all outcomes k a) (IsSentHere k) (orders k).accepted (tells.sent last k low) (λ i a at. whose k i a at);
    }

    pub last_told : attempts_told.last ≡ last_attempt notes
    unfolding attempts_told
    last_told = refl
