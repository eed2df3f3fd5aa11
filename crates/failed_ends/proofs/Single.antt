-- Each attempt of a call was made by one deed at most; so of one that came to nothing no link accepted the frame.
use Rattle.std.proofs.Common.{◌≡◌, ℕ, zero, suc, ◌+◌, ◌*◌, ◌/◌, ◌<◌, ◌≤◌, List, [], ◌∷◌, map, Some, None, refl, sym, ap, ◌∙◌, subst, arith}
use Rattle.std.specs.Prelude.{Option}
use Rattle.std.proofs.lemmas.Nat.{div-add-mod'}
use Rattle.std.proofs.lemmas.Option.{none-some}
use mathlib.Core.Logic.{dite}
use mathlib.Core.Option.{some, some-injective, some-ne-none}
use native.Mathlib.Decide.{ℕ_discrete}
use lib.ListN.{get_elem?}
use Rattle.sock_io.specs.declared.link.Out.{Ghosts}
use Rattle.sock_io.specs.LinkHalves.{OutState}
use Rattle.sock_words.specs.declared.outcome.Outcome.{Outcome}
use Rattle.sock_words.specs.declared.plain.Plan.{Plan}
use Rattle.sock_words.specs.declared.place_word.PlaceWord.{PlaceWord}
use Rattle.sock_words.specs.declared.socket_id.SocketId.{SocketId}
use Rattle.sock_words.specs.declared.vref.Vref.{Vref}
use Rattle.sock_model.specs.declared.chain.Entry.{Entry}
use Rattle.sock_model.specs.declared.chain.Heading.{Heading}
use Rattle.failed_reasons.specs.Below.SockRule.Letter.{Letter}
use Rattle.seat_programs.specs.declared.task.Op.{Op}
use Rattle.seat_programs.specs.declared.task.Op.TheVariants as ops
use Rattle.seat_programs.specs.declared.task.Task.{Task}
use Rattle.seat_programs.specs.Explained.{AreTasks}
use Rattle.corr_core.specs.IdSlotLaw.{is_attempt}
use Rattle.corr_core.specs.declared.marks.Kept.{Kept}
use Rattle.corr_core.specs.declared.marks.Note.{Note}
use Rattle.corr_core.specs.declared.marks.Note.TheVariants.{Made}
use Rattle.corr_core.specs.declared.marks.Noted.{Noted}
use Rattle.corr_core.specs.declared.marks.Plan as id_plan
use Rattle.corr_core.specs.declared.marks.View.{View}
use Rattle.corr_core.proofs.NoteSums.{only-at, only-else, pair-at, pair-else, pair-else_first, total_some}
use Rattle.corr_id.specs.id_rule.specs.LawfulIdTable.{notes_of}
use Rattle.sock_message.specs.Asked.{Asked}
use Rattle.corr_id.specs.declared.calls.IdLock.{IdLock}
use Rattle.corr_id.specs.ClosingIdLists.{Closing}
use Rattle.failed_reasons.specs.Below.RpcClient.Told.{Told}
use Rattle.failed_reasons.specs.Below.CallErrors.Retry.{Retry}
use Rattle.failed_reasons.specs.Below.CallAttempts.ClientAtBothTables.{Both}
use Rattle.failed_reasons.specs.Below.CallAttempts.Attempting.{DeliveredBy, went_out, came_back, AttemptedBy, nowhere, over_link}
use Rattle.failed_reasons.specs.Below.CallAttempts.WaitingRetries.{Locked, WentAgain, WentTo, stray, unopened, to_socket, had_ended, overtaken, went_again}
use Rattle.failed_reasons.specs.Below.CallClient.ClientBetweenOperations.{Stand, both_of, Acted}
use Rattle.failed_reasons.specs.Below.CallRun.ReadersOfLinks.{LinkReader}
use Rattle.failed_reasons.specs.Below.CallRun.Threads.{RanWith, MayRunAll, ids_of}
use Rattle.failed_reasons.specs.call_whys.specs.call_places.specs.ClientNotesCounted.{HaveNotesOf}
use Rattle.failed_reasons.specs.call_whys.specs.call_places.specs.DeedsOfCallClient.{Deed, operates, retries, delivered_entries, attempt_entries, went_entries, acted_entries, entries_of}
use Rattle.failed_reasons.specs.call_whys.specs.call_places.proofs.NoteWeights.{term, two_terms, each_less}
use Rattle.failed_reasons.specs.call_whys.specs.call_places.proofs.Still.{is_retry, is_first}
use Rattle.failed_reasons.specs.call_whys.specs.call_places.proofs.RetryAndIdCounts.{by_task, by_retry, tried_few, none_first, task_total}
use Rattle.failed_reasons.specs.call_whys.specs.call_places.proofs.LabelPlaceIndices.{label_in, labels}
use Rattle.failed_reasons.specs.call_whys.specs.call_places.proofs.TaskNumbers.{numbered, own_labels, no_labels}
use Rattle.failed_reasons.specs.call_whys.specs.call_places.proofs.IdsOfRetries.{IdLaws, laws_of, IsIdOf, version_low, one_id}
use Rattle.failed_reasons.specs.call_whys.specs.call_places.proofs.ClientPlaces.{Client, total_map, view_of, tasks_of, deeds_of, own_of, retry_id}
use Rattle.failed_reasons.specs.call_whys.specs.call_places.proofs.CallPlaceOrders.{views_are, lists_are, noted_among, own_behind, may_make, one_number, made_once, crew_of}
use Rattle.failed_reasons.specs.call_whys.specs.call_places.proofs.Log as log
use Rattle.failed_reasons.specs.call_whys.specs.call_told.specs.Least.{is_made_for}
use Rattle.failed_reasons.specs.attempts_told.specs.CountedAttempts.{last_attempt}
use Rattle.failed_reasons.specs.attempts_told.proofs.Last.{none_further}
use Rattle.failed_reasons.specs.call_whys.specs.call_places.specs.sock_deeds.proofs.PlacesOfEntries.{before}
use Rattle.failed_reasons.specs.call_whys.specs.call_places.specs.sock_deeds.proofs.Flats.{flat_from}
use Rattle.failed_reasons.specs.Missed.{delivery_missed, attempt_missed, went_missed, acted_missed, acted_id, IsMadeBy, missed_in, id_of, IsBacked, attempt_of}
use Rattle.failed_reasons.proofs.AttemptLosses.{IsAskedIn}
use Rattle.failed_ends.proofs.Posters.{attempt_low}
use Rattle.failed_reasons.specs.call_whys.specs.call_places.specs.sock_deeds.proofs.ListPlaces.{map_back}
use Rattle.failed_reasons.proofs.FailedRunPremises.{OneDeed}
use Rattle.sock_words.specs.PackedWords.{id_slot, id_first}
use Rattle.sock_words.specs.Totals.{total}

-- ## Frames of a deed

call_operation : (a b : Asked) → ops.Call a ≡ ops.Call b → a.operation ≡ b.operation
call_operation a b e = cc

pub none_there : (m : ℕ) (e : Entry) → get_elem? [] m ≡ some e → ⊥
none_there m e h = some-ne-none e (sym h)

pub one_there : (m : ℕ) (x e : Entry) → get_elem? (x ∷ []) m ≡ some e → x ≡ e
one_there zero x e h = some-injective x e h
one_there (suc m) x e h = absurd (none_there m e h)

module _ {O : Type 0} (state : O → OutState) (p : Plan) (q : id_plan.Plan) where
  -- an entry has the place index of its message
  delivered_at : (socket : SocketId) (msg : Letter) (s t : Both) (d : DeliveredBy state p q socket msg s t) (m : ℕ) (e : Entry) → get_elem? (delivered_entries state p q socket msg s t d) m ≡ some e → e.heading.label.place ≡ msg.label.place
  delivered_at socket msg s t (went_out w) m e h = ap (λ (x : Entry). x.heading.label.place) (sym (one_there m w.accepted.entry e h)) ∙ ap (λ (x : Heading). x.label.place) w.accepted.heading_is
  delivered_at socket msg s t (came_back by c) m e h = absurd (none_there m e h)

  attempt_at : (socket : SocketId) (msg : Letter) (s t : Both) (a : AttemptedBy state p q socket msg s t) (m : ℕ) (e : Entry) → get_elem? (attempt_entries state p q socket msg s t a) m ≡ some e → e.heading.label.place ≡ msg.label.place
  attempt_at socket msg s t (nowhere n) m e h = absurd (none_there m e h)
  attempt_at socket msg s t (over_link u l d) m e h = delivered_at socket msg u t d m e h

  went_at : (name : ℕ) (msg : Letter) (s t : Both) (w : WentTo state p q name msg s t) (m : ℕ) (e : Entry) → get_elem? (went_entries state p q name msg s t w) m ≡ some e → e.heading.label.place ≡ msg.label.place
  went_at name msg s t (stray a b c) m e h = absurd (none_there m e h)
  went_at name msg s t (unopened a b) m e h = absurd (none_there m e h)
  went_at name msg s t (to_socket socket u f same a) m e h = attempt_at socket msg u t a m e h

  acted_at : {g : Ghosts O} (number : ℕ) (op : Op) (by : Option Outcome) (s t : Stand g) (a : Acted state p q number op by s t) (m : ℕ) (e : Entry) → get_elem? (acted_entries state p q number op by s t a) m ≡ some e → 0 < label_in e.heading.label.place number op
  acted_at number (ops.Send n bytes) None s t a m e h =
      let x = a.0.delivered.accepted in let place = ap (λ (y : Entry). y.heading.label.place) (sym (one_there m x.entry e h)) ∙ ap (λ (y : Heading). y.label.place) x.heading_is in
      let z = only-at e.heading.label.place (8 * number + 0) (sym place) in omega (arith, z)
  acted_at number (ops.Send n bytes) (Some by) s t a m e h = absurd (none_there m e h)
  acted_at number (ops.Call asked) None s t a m e h = let z = only-at e.heading.label.place (8 * asked.operation + 0) (sym (attempt_at a.1.socket _ a.1.at (both_of t) a.1.attempted m e h)) in omega (arith, z)
  acted_at number (ops.Call asked) (Some by) s t a m e h = absurd (none_there m e h)
  acted_at number _ by s t a m e h = absurd (none_there m e h)

  -- of an attempt that came to nothing there is none
  module _ (code : ℕ) where
    delivery_none : (socket : SocketId) (msg : Letter) (s t : Both) (d : DeliveredBy state p q socket msg s t) → delivery_missed state p q socket msg s t d ≡ Some code → delivered_entries state p q socket msg s t d ≡ []
    delivery_none socket msg s t (went_out w) is = absurd (none-some code is)
    delivery_none socket msg s t (came_back by c) is = refl

    attempt_none : (socket : SocketId) (msg : Letter) (s t : Both) (a : AttemptedBy state p q socket msg s t) → attempt_missed state p q socket msg s t a ≡ Some code → attempt_entries state p q socket msg s t a ≡ []
    attempt_none socket msg s t (nowhere n) is = refl
    attempt_none socket msg s t (over_link u l d) is = delivery_none socket msg u t d is

    went_none : (name : ℕ) (msg : Letter) (s t : Both) (w : WentTo state p q name msg s t) → went_missed state p q name msg s t w ≡ Some code → went_entries state p q name msg s t w ≡ []
    went_none name msg s t (stray a b c) is = refl
    went_none name msg s t (unopened a b) is = refl
    went_none name msg s t (to_socket socket u f same a) is = attempt_none socket msg u t a is

    -- a first attempt of the call that is operation o, whose id the seat made
    pub record IsFirst {g : Ghosts O} (v : View Asked) (number : ℕ) (op : Op) (by : Option Outcome) (s t : Stand g) (a : Acted state p q number op by s t) : Type 0 where
      pub operation : ℕ
      pub label : 0 < label_in (8 * operation + 0) number op
      pub made : 0 < total (is_made_for (id_first (acted_id state p q number op by s t a)) operation) (notes_of (id_slot (acted_id state p q number op by s t a)) v.notes)
      pub no_frame : acted_entries state p q number op by s t a ≡ []
      pub asks : (asked : Asked) → op ≡ ops.Call asked → asked.operation ≡ operation

    acted_first : {g : Ghosts O} (v : View Asked) (number : ℕ) (op : Op) (by : Option Outcome) (s t : Stand g) (a : Acted state p q number op by s t) → acted_missed state p q number op by s t a ≡ Some code → IsMadeBy state p q v number op by s t a → IsFirst v number op by s t a
    acted_first v number (ops.Call asked) None s t a is made = record {
      operation = asked.operation;
      label = (let z = only-at (8 * asked.operation + 0) (8 * asked.operation + 0) refl in omega (arith, z));
      made = made;
      no_frame = attempt_none a.1.socket _ a.1.at (both_of t) a.1.attempted is;
      asks = λ other e. sym (call_operation asked other e);
    }
    acted_first v number (ops.Call asked) (Some by) s t a is made = absurd (none-some code is)
    acted_first v number _ by s t a is made = absurd (none-some code is)

label_place : (l number : ℕ) (asked : Asked) → 0 < label_in l number (ops.Call asked) → l ≡ 8 * asked.operation + 0
label_place l number asked h = dite (ℕ_discrete (8 * asked.operation + 0) l) (λ e. sym e) (λ ne. absurd (let z = only-else l (8 * asked.operation + 0) ne in omega (arith, z, h)))

-- a frame that was sent has the place index of its deed's attempt
pub deed_place : {O : Type 0} {g : Ghosts O} {state : O → OutState} {p : Plan} {q : id_plan.Plan} (d : Deed g state p q) (asked : Asked) → IsAskedIn d asked → (m : ℕ) (e : Entry) → get_elem? (entries_of d) m ≡ some e → e.heading.label.place ≡ 8 * asked.operation + attempt_of d
deed_place {state = state} {p = p} {q = q} (operates x by s t a) asked is m e h = label_place e.heading.label.place x.number asked (subst (λ (o : Op). 0 < label_in e.heading.label.place x.number o) is (acted_at state p q x.number x.op by s t a m e h))
deed_place {state = state} {p = p} {q = q} (retries r s t (had_ended z)) asked is m e h = absurd (none_there m e h)
deed_place {state = state} {p = p} {q = q} (retries r s t (overtaken k u l o)) asked is m e h = absurd (none_there m e h)
deed_place {state = state} {p = p} {q = q} (retries r s t (went_again k u l w)) asked is m e h = went_at state p q _ _ _ t w.went m e h ∙ ap (λ (y : Asked). 8 * y.operation + r.attempt) is

-- a note that an id was made for this operation
pub made_note : (f o : ℕ) (n : Note Asked) → 0 < is_made_for f o n → (r : ℕ) × (asked : Asked) × (n ≡ Made f r asked) × (asked.operation ≡ o)
made_note f o (Made g r asked) h = dite (ℕ_discrete g f)
    (λ e. dite (ℕ_discrete asked.operation o) (λ d. (r, asked, ap (λ (y : ℕ). Made y r asked) e, d)) (λ n. absurd (let a = pair-else f o g asked.operation n in omega (arith, a, h))))
    (λ n. absurd (let a = pair-else_first f o g asked.operation n in omega (arith, a, h)))
made_note f o _ h = absurd (omega (arith, h))

-- ## The run

module _ {O : Type 0} {g : Ghosts O} {state : O → OutState} {readers : List (LinkReader g)} {p : Plan} {slots : ℕ} {setup : List Task} {clients : List (List Task)} {opens : List ℕ} {told ended : List (List Told)} {places : List PlaceWord} {vrefs : List Vref} {outs : List O} {ids : List (View Asked)}
    (run : RanWith g state readers p slots setup clients opens told ended places vrefs outs ids) (tasks : AreTasks p (setup ∷ clients)) (may : MayRunAll p (ids_of p slots) setup clients)
    (notes : List (Noted Asked)) (kept : List Kept) (words : List ℕ) (closing : Closing (ids_of p slots) notes kept words) (noted : HaveNotesOf ids notes) where
  open crew_of run use {q, crew}

  pub laws : IdLaws slots notes
  laws = laws_of q notes kept words closing

  -- ## Attempts by their deeds

  -- the deed is attempt n of the call that is operation o, with this id
  pub data IsAttemptOf (o id n : ℕ) (d : Deed g state p q) : Type 0 where
    at_first : n ≡ 0 → 0 < by_task (labels (8 * o + 0)) d → IsAttemptOf o id n d
    again : 0 < n → 0 < by_retry (is_retry id n) d → IsAttemptOf o id n d

  one_first : (o : ℕ) → total (λ (x : Client g state p q). total (by_task (labels (8 * o + 0))) (deeds_of x)) crew ≤ 1
  one_first o =
      let l : ℕ = 8 * o + 0 in let same : l / 8 ≡ o = omega arith in
      let a = each_less (λ (x : Client g state p q). total (by_task (labels l)) (deeds_of x)) (λ (x : Client g state p q). total (numbered (l / 8)) (tasks_of x)) crew (λ j x at.
      let m = may_make run may j x at in let b = task_total x.thread x.is (labels l) in let d = own_labels p q l (tasks_of x) m.0 m.1 in omega (arith, b, d)) in
      let b = one_number run tasks (l / 8) in omega (arith, a, b)

  one_again : (id n : ℕ) → id_slot id < slots → total (λ (x : Client g state p q). total (by_retry (is_retry id n)) (deeds_of x)) crew ≤ 1
  one_again id n inside =
      let i : ℕ = id_slot id in let f : ℕ = id_first id in
      let whole : i * 4294967296 + f ≡ id = div-add-mod' id 4294967296 in
      let W : ℕ → ℕ = λ z. total (λ (x : Client g state p q). total (by_retry (is_retry z n)) (deeds_of x)) crew in
      let h : View Asked → ℕ = λ v. total (is_attempt f n) (notes_of i v.notes) in
      let a = each_less (λ (x : Client g state p q). total (by_retry (is_retry (i * 4294967296 + f) n)) (deeds_of x)) (λ (x : Client g state p q). h (view_of x)) crew (λ j x at. tried_few x.thread x.is i f n (version_low id)) in
      let b = total_map h view_of crew in let c = ap (total h) (views_are run) in let d = noted.all i (is_attempt f n) in let e = closing.advanced_once i f n inside in
      subst (λ (z : ℕ). W z ≤ 1) whole (omega (arith, a, b, c, d, e))

  -- two deeds with a weight of which all have one at most are one
  same_deed : (W : Deed g state p q → ℕ) → total (λ (x : Client g state p q). total W (deeds_of x)) crew ≤ 1
      → (c : ℕ) (x : Client g state p q) → get_elem? crew c ≡ some x → (i : ℕ) (d : Deed g state p q) → get_elem? (deeds_of x) i ≡ some d → 0 < W d
      → (b : ℕ) (y : Client g state p q) → get_elem? crew b ≡ some y → (j : ℕ) (e : Deed g state p q) → get_elem? (deeds_of y) j ≡ some e → 0 < W e → e ≡ d
  same_deed W few c x at i d there weighs b y by j e here also = dite (ℕ_discrete b c)
      (λ one.
      let same : y ≡ x = some-injective y x (sym by ∙ (ap (get_elem? crew) one ∙ at)) in
      let in_x : get_elem? (deeds_of x) j ≡ some e = subst (λ (z : Client g state p q). get_elem? (deeds_of z) j ≡ some e) same here in
      dite (ℕ_discrete j i)
      (λ place. some-injective e d (sym in_x ∙ (ap (get_elem? (deeds_of x)) place ∙ there)))
      (λ ne. absurd (let t = two_terms W (deeds_of x) j i e d in_x there ne in let s = term (λ (z : Client g state p q). total W (deeds_of z)) crew c x at in omega (arith, t, s, few, weighs, also))))
      (λ ne. absurd (
      let t = two_terms (λ (z : Client g state p q). total W (deeds_of z)) crew b c y x by at ne in
      let s = term W (deeds_of x) i d there in let r = term W (deeds_of y) j e here in omega (arith, t, s, r, few, weighs, also)))

  pub alone : (o id n : ℕ) → id_slot id < slots → (c : ℕ) (x : Client g state p q) → get_elem? crew c ≡ some x → (i : ℕ) (d : Deed g state p q) → get_elem? (deeds_of x) i ≡ some d → IsAttemptOf o id n d
      → (b : ℕ) (y : Client g state p q) → get_elem? crew b ≡ some y → (j : ℕ) (e : Deed g state p q) → get_elem? (deeds_of y) j ≡ some e → IsAttemptOf o id n e → e ≡ d
  alone o id n inside c x at i d there (at_first z w) b y by j e here (at_first z' w') = same_deed (by_task (labels (8 * o + 0))) (one_first o) c x at i d there w b y by j e here w'
  alone o id n inside c x at i d there (again s w) b y by j e here (again s' w') = same_deed (by_retry (is_retry id n)) (one_again id n inside) c x at i d there w b y by j e here w'
  alone o id n inside c x at i d there (at_first z w) b y by j e here (again s' w') = absurd (omega (arith, z, s'))
  alone o id n inside c x at i d there (again s w) b y by j e here (at_first z' w') = absurd (omega (arith, s, z'))

  -- ## Whose attempt a deed is

  -- a retry that went to a name again
  module _ (c : ℕ) (x : Client g state p q) (at : get_elem? crew c ≡ some x) (i : ℕ) (r : Retry) (s t : Both) (k : IdLock Asked) (u : Both) (l : Locked state p q r k s u) (w : WentAgain state p q r k u t) where
    abbrev went : Deed g state p q
    went = retries r s t (went_again k u l w)

    pub again_id : get_elem? (deeds_of x) i ≡ some went → IsIdOf slots notes k.content.operation r.id
    again_id there = retry_id x i r s t k u l w there laws (noted_among run notes noted c x at)

    pub again_later : get_elem? (deeds_of x) i ≡ some went → 0 < r.attempt
    again_later there = dite (ℕ_discrete r.attempt 0)
        (λ z. absurd (let a = term (by_retry is_first) (deeds_of x) i went there in let b = none_first x.thread x.is in let d = only-at 0 r.attempt z in omega (arith, a, b, d)))
        (λ n. omega (arith, n))

    pub again_attempt : (o id n : ℕ) → r.id ≡ id → r.attempt ≡ n → get_elem? (deeds_of x) i ≡ some went → IsAttemptOf o id n went
    again_attempt o id n same number there = again (let a = again_later there in omega (arith, a, number)) (let a = pair-at id n r.id r.attempt same number in omega (arith, a))

  -- whatever sent a frame with this place index is that attempt
  frame_attempt : (o id n : ℕ) → n < 8 → IsIdOf slots notes o id → (c : ℕ) (x : Client g state p q) → get_elem? crew c ≡ some x → (i : ℕ) (d : Deed g state p q) → get_elem? (deeds_of x) i ≡ some d
      → (m : ℕ) (e : Entry) → get_elem? (entries_of d) m ≡ some e → e.heading.label.place ≡ 8 * o + n → IsAttemptOf o id n d
  frame_attempt o id n low is c x at i (operates y by s t a) there m e sent place =
      let l = acted_at state p q y.number y.op by s t a m e sent in
      let none_ : n ≡ 0 = dite (ℕ_discrete n 0) (λ z. z) (λ ne. absurd (let z = no_labels e.heading.label.place (y ∷ []) (omega (arith, place, low, ne)) in omega (arith, z, l))) in
      let same : e.heading.label.place ≡ 8 * o + 0 = omega (arith, place, none_) in
      at_first none_ (subst (λ (z : ℕ). 0 < label_in z y.number y.op) same l)
  frame_attempt o id n low is c x at i (retries r s t (had_ended h)) there m e sent place = absurd (none_there m e sent)
  frame_attempt o id n low is c x at i (retries r s t (overtaken k u l w)) there m e sent place = absurd (none_there m e sent)
  frame_attempt o id n low is c x at i (retries r s t (went_again k u l w)) there m e sent place =
      let own = went_at state p q _ _ _ t w.went m e sent in let small = r.low in
      let same : 8 * k.content.operation + r.attempt ≡ 8 * o + n = sym own ∙ place in
      let operation : k.content.operation ≡ o = omega (arith, same, small, low) in
      let number : r.attempt ≡ n = omega (arith, same, small, low) in
      let its = subst (λ (z : ℕ). IsIdOf slots notes z r.id) operation (again_id c x at i r s t k u l w there) in
      again_attempt c x at i r s t k u l w o id n (one_id slots notes o r.id id (made_once run tasks may notes noted o) its is) number there

  -- ## Attempts that came to nothing

  -- the deed is an attempt of a call with this id, and no frame was accepted
  pub record IsNothing (d : Deed g state p q) : Type 0 where
    pub operation : ℕ
    pub id : IsIdOf slots notes operation (id_of d)
    pub attempt : IsAttemptOf operation (id_of d) (attempt_of d) d
    pub no_frame : entries_of d ≡ []
    pub asks : (asked : Asked) → IsAskedIn d asked → asked.operation ≡ operation

  pub first_id : (o id : ℕ) → id_slot id < slots → 0 < total (is_made_for (id_first id) o) (notes_of (id_slot id) notes) → IsIdOf slots notes o id
  first_id o id inside made =
      let n = total_some (is_made_for (id_first id) o) (notes_of (id_slot id) notes) made in let m = made_note (id_first id) o n.1 n.3 in
      record { slot = id_slot id; first = id_first id; inside = inside; low = version_low id; id_is = sym (div-add-mod' id 4294967296); range = m.0; asked = m.1; place = n.0; made = n.2 ∙ ap some m.2; operation = m.3 }

  missed_nothing : (code : ℕ) (c : ℕ) (x : Client g state p q) → get_elem? crew c ≡ some x → (i : ℕ) (d : Deed g state p q) → get_elem? (deeds_of x) i ≡ some d → missed_in d ≡ Some code → IsBacked (view_of x) d → id_slot (id_of d) < slots → IsNothing d
  missed_nothing code c x at i (operates y by s t a) there is backed inside =
      let f = acted_first state p q code (view_of x) y.number y.op by s t a is backed in let id : ℕ = acted_id state p q y.number y.op by s t a in
      record {
        operation = f.operation;
        id = first_id f.operation id inside (let b = noted_among run notes noted c x at (id_slot id) (is_made_for (id_first id) f.operation) in let m = f.made in omega (arith, b, m));
        attempt = at_first refl f.label;
        no_frame = f.no_frame;
        asks = f.asks;
      }
  missed_nothing code c x at i (retries r s t (had_ended h)) there is backed inside = absurd (none-some code is)
  missed_nothing code c x at i (retries r s t (overtaken k u l o)) there is backed inside = absurd (none-some code is)
  missed_nothing code c x at i (retries r s t (went_again k u l w)) there is backed inside = record {
    operation = k.content.operation;
    id = again_id c x at i r s t k u l w there;
    attempt = again_attempt c x at i r s t k u l w k.content.operation r.id r.attempt refl refl there;
    no_frame = went_none state p q code _ _ _ t w.went is;
    asks = λ asked e. ap (λ (y : Asked). y.operation) (sym e);
  }

  -- a message of the log with the place index of an attempt was sent by the deed that is that attempt
  pub record IsSender (o id n : ℕ) (e : Entry) : Type 0 where
    pub one : OneDeed run
    pub open one use *
    pub at : ℕ
    pub sent : get_elem? (entries_of one.deed) at ≡ some e
    pub attempt : IsAttemptOf o id n one.deed

  pub sender : (o id n : ℕ) → n < 8 → IsIdOf slots notes o id → (k : ℕ) (e : Entry) → get_elem? run.closed.ordered.log k ≡ some e → e.heading.label.place ≡ 8 * o + n → IsSender o id n e
  sender o id n low is k e logged place =
      let a = log.authored p run.closed.view.found run.closed.view.lists run.closed.ordered k e logged in
      let j = own_behind readers (map own_of crew) a.seat _ _ e (ap (λ (l : List (List Entry)). get_elem? l a.seat) (sym (lists_are run)) ∙ a.list) a.place in
      let y = map_back own_of crew j.0 _ j.1 in
      let m : ℕ = before a.author run.closed.ordered.by k in
      let own = flat_from entries_of (deeds_of y.0) m e (subst (λ (l : List Entry). get_elem? l m ≡ some e) (sym y.2) a.place) in
      record { one = record { place = j.0; client = y.0; in_crew = y.1; index = own.0; deed = own.1; there = own.2 }; at = own.3; sent = own.4; attempt = frame_attempt o id n low is j.0 y.0 y.1 own.0 own.1 own.2 own.3 e own.4 place }

  -- so the log has no entry with the place index of one that came to nothing
  pub not_accepted : (code : ℕ) (c : ℕ) (x : Client g state p q) → get_elem? crew c ≡ some x → (i : ℕ) (d : Deed g state p q) → get_elem? (deeds_of x) i ≡ some d → missed_in d ≡ Some code → IsBacked (view_of x) d → id_slot (id_of d) < slots
      → (f : IsNothing d) × ((k : ℕ) (e : Entry) → get_elem? run.closed.ordered.log k ≡ some e → e.heading.label.place ≡ 8 * f.operation + attempt_of d → ⊥)
  not_accepted code c x at i d there is backed inside =
      let f = missed_nothing code c x at i d there is backed inside in (
        f,
        λ k e logged place. (
            let low = attempt_low d in
            let w = sender f.operation (id_of d) (attempt_of d) (omega (arith, low)) f.id k e logged place in
            let same = alone f.operation (id_of d) (attempt_of d) inside c x at i d there f.attempt w.place w.client w.in_crew w.index w.deed w.there w.attempt in
            none_there w.at e (ap (λ (l : List Entry). get_elem? l w.at) (sym f.no_frame ∙ ap entries_of (sym same)) ∙ w.sent)),
      )

  -- ## The last attempt

  -- an attempt that a deed made is none behind the last one
  pub made_low : (o id n : ℕ) → IsIdOf slots notes o id → (c : ℕ) (x : Client g state p q) → get_elem? crew c ≡ some x → (i : ℕ) (d : Deed g state p q) → get_elem? (deeds_of x) i ≡ some d → IsAttemptOf o id n d → n ≤ last_attempt notes o
  made_low o id n is c x at i d there (at_first z w) = omega (arith, z)
  made_low o id n is c x at i d there (again s w) =
      let f : ℕ = is.first in
      let made = term (by_retry (is_retry id n)) (deeds_of x) i d there in
      let few : total (by_retry (is_retry id n)) (deeds_of x) ≤ total (is_attempt f n) (notes_of is.slot (view_of x).notes) = subst (λ (z : ℕ). total (by_retry (is_retry z n)) (deeds_of x) ≤ total (is_attempt f n) (notes_of is.slot (view_of x).notes)) (sym is.id_is) (tried_few x.thread x.is is.slot f n is.low) in
      let all = noted_among run notes noted c x at is.slot (is_attempt f n) in
      let one = term (is_made_for f o) (notes_of is.slot notes) is.place (Made f is.range is.asked) is.made in let here = pair-at f o f is.asked.operation refl is.operation in
      none_further o notes is.slot f n notes (omega (arith, one, here)) (omega (arith, made, few, all, w))
