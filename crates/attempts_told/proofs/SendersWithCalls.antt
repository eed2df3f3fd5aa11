-- Whose the messages are that the links of a run with calls accepted: each is that of a send, or of an attempt of a call, with the id that was made for the call.
use Rattle.std.proofs.Common.{◌≡◌, ℕ, zero, suc, ◌+◌, ◌*◌, ◌<◌, ◌≤◌, ◌⊎◌, inl, inr, List, [], ◌∷◌, ◌++◌, flat_map, map, append-nil, zero-le, Some, None, refl, sym, ap, ◌∙◌, subst, arith}
use Rattle.std.specs.Prelude.{Option}
use Rattle.std.specs.List.{AllByRecursion}
use Rattle.std.proofs.lemmas.Nat.{div-add-mod'}
use mathlib.Core.Logic.{dite}
use mathlib.Core.Option.{some, some-injective, some-ne-none}
use native.Mathlib.Decide.{ℕ_discrete}
use lib.ListN.{get_elem?}
use Rattle.sock_io.specs.declared.link.Out.{Ghosts}
use Rattle.sock_io.specs.LinkHalves.{OutState}
use Rattle.sock_words.specs.declared.plain.Plan.{Plan}
use Rattle.sock_words.specs.declared.place_word.PlaceWord.{PlaceWord}
use Rattle.sock_words.specs.declared.vref.Vref.{Vref}
use Rattle.sock_words.specs.declared.socket_id.SocketId.{SocketId}
use Rattle.sock_words.specs.declared.outcome.Outcome.{Outcome}
use Rattle.sock_model.specs.declared.chain.Entry.{Entry}
use Rattle.sock_model.specs.declared.chain.Heading.{Heading}
use Rattle.seat_programs.specs.declared.task.Op.{Op}
use Rattle.seat_programs.specs.declared.task.Op.TheVariants as ops
use Rattle.seat_programs.specs.declared.task.Task.{Task}
use Rattle.seat_programs.specs.ExplainedCalls.{Accepted}
use Rattle.corr_core.specs.IdSlotLaw.{is_attempt}
use Rattle.corr_core.specs.declared.marks.Note.{Note}
use Rattle.corr_core.specs.declared.marks.Note.TheVariants.{Made}
use Rattle.corr_core.specs.declared.marks.Noted.{Noted}
use Rattle.corr_core.specs.declared.marks.Plan as id_plan
use Rattle.corr_core.specs.declared.marks.View.{View}
use Rattle.corr_core.proofs.NoteSums.{pair-same, pair-else, pair-else_first, total_some}
use Rattle.id_rule.specs.LawfulIdTable.{notes_of}
use Rattle.sock_message.specs.Asked.{Asked, frame_of}
use Rattle.corr_id.specs.SeatBehindIdCalls.{one}
use Rattle.call_whys.specs.Below.CallErrors.ClientBooks.{CallStand}
use Rattle.call_whys.specs.Below.CallAttempts.ClientAtBothTables.{Both}
use Rattle.call_whys.specs.Below.CallAttempts.AttemptLetters.{letter_for}
use Rattle.call_whys.specs.Below.CallAttempts.Attempting.{AttemptedBy, went_out, came_back, nowhere, over_link}
use Rattle.call_whys.specs.Below.CallAttempts.WaitingRetries.{without_oldest, WentTo, stray, unopened, to_socket, had_ended, overtaken, went_again, Retried, none_yet, one_more}
use Rattle.call_whys.specs.Below.CallClient.ClientBetweenOperations.{Stand, stand, both_of, Acted}
use Rattle.call_whys.specs.Below.CallClient.ClientRun.{Course, Ran, begins}
use Rattle.call_whys.specs.Below.CallClient.EndedCallsTelling.{did_total}
use Rattle.call_whys.specs.Below.RpcClient.Told.{Told}
use Rattle.call_whys.specs.Below.CallRun.ReadersOfLinks.{LinkReader}
use Rattle.call_whys.specs.Below.CallRun.Threads.{Thread, IsThread, RanWith, MayRunAll, ids_of}
use Rattle.call_whys.specs.call_told.specs.Least.{is_made_for}
use Rattle.call_whys.specs.call_told.proofs.ToldCallEnds.{made_silent, counted_here}
use Rattle.call_whys.specs.call_told.proofs.ListElementsByPlace.{all_both, all_then, all_at}
use Rattle.call_whys.specs.call_places.specs.ClientNotesCounted.{HaveNotesOf}
use Rattle.call_whys.specs.call_places.specs.DeedsOfCallClient.{Deed, operates, retries, retries_of, ran_deeds, deeds, attempt_entries, went_entries, acted_entries, entries_of}
use Rattle.call_whys.specs.call_places.proofs.Still.{retried_still}
use Rattle.call_whys.specs.call_places.proofs.Walks.{Walks, run_walk}
use Rattle.call_whys.specs.call_places.proofs.OwnAcceptedMessages.{came, end_is}
use Rattle.call_whys.specs.call_places.proofs.IdsOfRetries.{IdLaws, IsIdOf, version_low}
use Rattle.call_whys.specs.call_places.proofs.ClientPlaces.{Client, view_of, tasks_of, deeds_of, own_of, retry_noted, retry_id}
use Rattle.call_whys.specs.call_places.proofs.CallPlaceOrders.{own_behind, all, noted_among, may_make, tasks_are, lists_are}
use Rattle.call_whys.specs.call_places.proofs.Log.{authored}
use Rattle.call_whys.specs.call_deeds.specs.RetriedCalls.{Again, asked_by, asked_in, asked_before, all_asked}
use Rattle.call_whys.specs.call_deeds.proofs.LinksOfTasks.{IsOwnCall, call_at}
use Rattle.call_whys.specs.call_deeds.proofs.Ran.{AreLater}
use Rattle.call_whys.specs.call_places.specs.sock_deeds.specs.MessagesLeftByRun.{accepted_of}
use Rattle.call_whys.specs.call_places.specs.sock_deeds.specs.SocketTableRun.{IsOperation}
use Rattle.call_whys.specs.call_places.specs.sock_deeds.proofs.Flats.{flat_from, flat_there, flat-append}
use Rattle.call_whys.specs.call_places.specs.sock_deeds.proofs.ListPlaces.{to_slice, map_back, map_there}
use Rattle.call_whys.specs.call_places.specs.script_facts.proofs.FilteredLists.{contains_from}
use Rattle.attempts_told.proofs.BoundsOfAttempts.{attempted_grows, acted_grows}
use Rattle.sock_words.specs.PackedWords.{id_slot, id_first}
use Rattle.sock_words.specs.Totals.{total}

-- ## Frames

-- the entry is that of attempt n of the call with this id
pub record IsFrame (asked : Asked) (id n : ℕ) (e : Entry) : Type 0 where
  pub place : e.heading.label.place ≡ 8 * asked.operation + n
  pub bytes : e.bytes ≡ frame_of asked id n

none_there : {A : Type 0} {T : Type 0} (i : ℕ) (x : A) → get_elem? [] i ≡ some x → T
none_there i x e = absurd (some-ne-none x (sym e))

only_one : {A : Type 0} (y : A) (i : ℕ) (x : A) → get_elem? (y ∷ []) i ≡ some x → y ≡ x
only_one y zero x e = some-injective y x e
only_one y (suc i) x e = none_there i x e

module _ {O : Type 0} (state : O → OutState) (p : Plan) (q : id_plan.Plan) (asked : Asked) (id n : ℕ) (low : n ≤ 6) where
  attempt_frame : (socket : SocketId) (s t : Both) (a : AttemptedBy state p q socket (letter_for asked id n low) s t) (i : ℕ) (e : Entry) → get_elem? (attempt_entries state p q socket (letter_for asked id n low) s t a) i ≡ some e → IsFrame asked id n e
  attempt_frame socket s t (nowhere g) i e at = none_there i e at
  attempt_frame socket s t (over_link u l (came_back by c)) i e at = none_there i e at
  attempt_frame socket s t (over_link u l (went_out w)) i e at = let same = sym (only_one w.accepted.entry i e at) in record {
    place = ap (λ (x : Entry). x.heading.label.place) same ∙ ap (λ (h : Heading). h.label.place) w.accepted.heading_is;
    bytes = ap (λ (x : Entry). x.bytes) same ∙ w.accepted.bytes_is;
  }

  went_frame : (name : ℕ) (s t : Both) (w : WentTo state p q name (letter_for asked id n low) s t) (i : ℕ) (e : Entry) → get_elem? (went_entries state p q name (letter_for asked id n low) s t w) i ≡ some e → IsFrame asked id n e
  went_frame name s t (stray a b c) i e at = none_there i e at
  went_frame name s t (unopened a b) i e at = none_there i e at
  went_frame name s t (to_socket socket u f b a) i e at = attempt_frame socket u t a i e at

-- ## What a client's deeds are done for

abbrev Grows : View Asked → View Asked → Type 0
Grows v w = (i : ℕ) (f : Note Asked → ℕ) → total f (notes_of i v.notes) ≤ total f (notes_of i w.notes)

module _ {O : Type 0} (g : Ghosts O) (state : O → OutState) (p : Plan) (q : id_plan.Plan) where
  -- the id of a call that has begun was made for its operation
  abbrev pub HasMade : View Asked → (number : ℕ) (op : Op) (by : Option Outcome) (s t : Stand g) → Acted state p q number op by s t → Type 0
  HasMade v number (ops.Call asked) None s t a = (id_slot a.0 < q.slots) × (0 < total (is_made_for (id_first a.0) asked.operation) (notes_of (id_slot a.0) v.notes))
  HasMade v number _ _ s t a = Unit {0}

  -- each deed of an operation is one of these tasks
  abbrev pub IsNoted : List Task → View Asked → Deed g state p q → Type 0
  IsNoted xs v (operates x by s t a) = ((i : ℕ) × (get_elem? xs i ≡ some x)) × HasMade v x.number x.op by s t a
  IsNoted xs v (retries r s t by) = Unit {0}

  made_stays : (v w : View Asked) → Grows v w → (number : ℕ) (op : Op) (by : Option Outcome) (s t : Stand g) (a : Acted state p q number op by s t) → HasMade v number op by s t a → HasMade w number op by s t a
  made_stays v w grows number (ops.Call asked) None s t a h = (h.0, (let x = grows (id_slot a.0) (is_made_for (id_first a.0) asked.operation) in let y = h.1 in omega arith))
  made_stays v w grows number _ _ s t a h = tt

  noted_stays : (xs : List Task) (v w : View Asked) → Grows v w → (d : Deed g state p q) → IsNoted xs v d → IsNoted xs w d
  noted_stays xs v w grows (operates x by s t a) h = (h.0, made_stays v w grows x.number x.op by s t a h.1)
  noted_stays xs v w grows (retries r s t by) h = tt

  made_now : (number : ℕ) (op : Op) (by : Option Outcome) (s t : Stand g) (a : Acted state p q number op by s t) → HasMade t.calls.view number op by s t a
  made_now number (ops.Call asked) None s t a =
      let b = a.1 in let m = b.made_for in
      let i = id_slot a.0 in let f : Note Asked → ℕ = is_made_for (id_first a.0) asked.operation in
      let x = did_total f (made_silent (id_first a.0) asked.operation) i s.calls.view m.view [] (one i (Made (id_first a.0) asked.range asked)) m.made.did i in
      let y = counted_here f i (Made (id_first a.0) asked.range asked) in
      let z = pair-same (id_first a.0) asked.operation in
      let e = ap (λ (v : View Asked). total f (notes_of i v.notes)) m.noted in
      let w = (attempted_grows q state p b.socket _ b.at (both_of t) b.attempted).grows i f in
      (m.made.inside, omega arith)
  made_now number _ _ s t a = tt

  -- by these deeds the seat noted more, and each is noted
  abbrev AllNoted : List Task → List (Deed g state p q) → Both → Both → Type 0
  AllNoted xs ds s t = Grows s.calls.view t.calls.view × AllByRecursion (IsNoted xs t.calls.view) ds

  noted_walk : (xs : List Task) → Walks state p q xs (AllNoted xs)
  noted_walk xs = record {
    none = λ s t e. ((λ i f. (let a = ap (λ (y : Both). total f (notes_of i y.calls.view.notes)) e in omega (arith, a))), tt);
    in_turn = λ ds es s u t a b. (
      (λ i f. (let x = a.0 i f in let y = b.0 i f in omega (arith, x, y))),
      all_both (IsNoted xs t.calls.view) ds es (all_then (IsNoted xs u.calls.view) (IsNoted xs t.calls.view) ds (noted_stays xs u.calls.view t.calls.view b.0) a.1) b.1,
    );
    retry = λ u t r rest waits by. ((retried_still state p q r (without_oldest rest u) t by).grows, (tt, tt));
    operation = λ n x at by s t a. ((acted_grows q state p x.number x.op by s t a).grows, (((n, at), made_now x.number x.op by s t a), tt));
  }

  -- what a retry asks for again
  abbrev pub asked_of : Deed g state p q → List Again
  asked_of (operates x by s t a) = []
  asked_of (retries r s t by) = asked_by state p q r s t by

  retries_asked : (s t : Both) (r : Retried state p q s t) → flat_map asked_of (retries_of {g = g} state p q s t r) ≡ asked_in state p q s t r
  retries_asked s _ none_yet = refl
  retries_asked s _ (one_more u t r rest before waits fed by) =
      let now : Deed g state p q = retries r (without_oldest rest u) t by in
      flat-append asked_of (retries_of {g = g} state p q s u before) (now ∷ []) ∙ (λ i. retries_asked s u before i ++ append-nil (asked_by state p q r (without_oldest rest u) t by) i)

  ran_asked : (xs : List Task) (n : ℕ) (s t : Course g) (h : Ran state p q xs n s t) → flat_map asked_of (ran_deeds state p q xs n s t h) ≡ asked_before state p q xs n s t h
  ran_asked xs zero s t e = refl
  ran_asked xs (suc n) s t h =
      let m = h.4 in
      let now : Deed g state p q = operates h.1 m.by m.ready t.has m.acted in
      let earlier : List (Deed g state p q) = ran_deeds state p q xs n s h.0 h.2 in
      let waited : List (Deed g state p q) = retries_of state p q (both_of h.0.has) (both_of m.ready) m.retried.all.retried in
      let late = asked_in state p q (both_of h.0.has) (both_of m.ready) m.retried.all.retried in
      let behind : flat_map asked_of (waited ++ now ∷ []) ≡ late =
      flat-append asked_of waited (now ∷ []) ∙ (ap (λ (l : List Again). l ++ []) (retries_asked (both_of h.0.has) (both_of m.ready) m.retried.all.retried) ∙ append-nil late) in
      flat-append asked_of earlier (waited ++ now ∷ []) ∙ (λ i. ran_asked xs n s h.0 h.2 i ++ behind i)

-- ## A whole client

module _ {O : Type 0} {g : Ghosts O} {state : O → OutState} {p : Plan} {q : id_plan.Plan} {first : ℕ} (x : Thread g) (th : IsThread state p q first x) where
  abbrev last_retries : List (Deed g state p q)
  last_retries = retries_of state p q (both_of (stand th.ran.came)) (both_of th.ran.last) th.ran.ends.1.all.retried

  pub all_noted : AllByRecursion (IsNoted g state p q x.tasks x.ended.calls.seat.me.0) (deeds x th)
  all_noted =
      let end : x.ended.calls.seat.me.0 ≡ th.ran.last.calls.view = ap (λ (c : CallStand). c.view) (th.ran.calls ∙ ap (λ (s : Stand g). s.calls) (end_is x th)) in
      subst (λ (w : View Asked). AllByRecursion (IsNoted g state p q x.tasks w) (deeds x th)) (sym end) (run_walk x th (noted_walk g state p q x.tasks)).1

  deeds_asked : flat_map (asked_of g state p q) (deeds x th) ≡ all_asked x th
  deeds_asked =
      let early = ran_deeds state p q x.tasks th.ran.made (begins x.began) (came x th) th.ran.ran.ran in
      flat-append (asked_of g state p q) early last_retries ∙ (λ i. ran_asked g state p q x.tasks th.ran.made (begins x.began) (came x th) th.ran.ran.ran i ++ retries_asked g state p q (both_of (stand th.ran.came)) (both_of th.ran.last) th.ran.ends.1.all.retried i)

  -- what a retry among its deeds asks for is among all that it asked for again
  pub asked_there : (i : ℕ) (d : Deed g state p q) (k : ℕ) (a : Again) → get_elem? (deeds x th) i ≡ some d → get_elem? (asked_of g state p q d) k ≡ some a → (m : ℕ) × (get_elem? (all_asked x th) m ≡ some a)
  asked_there i d k a at in_it = let w = flat_there (asked_of g state p q) (deeds x th) i d k a at in_it in (w.0, ap (λ (l : List Again). get_elem? l w.0) (sym deeds_asked) ∙ w.1)

-- ## Ids that were made

made_for : (f o : ℕ) (n : Note Asked) → 0 < is_made_for f o n → (r : ℕ) × (c : Asked) × (n ≡ Made f r c) × (c.operation ≡ o)
made_for f o (Made g r c) h = dite (ℕ_discrete g f)
    (λ e. dite (ℕ_discrete c.operation o) (λ d. (r, c, ap (λ (x : ℕ). Made x r c) e, d)) (λ n. absurd (let k = pair-else f o g c.operation n in omega arith)))
    (λ n. absurd (let k = pair-else_first f o g c.operation n in omega arith))
made_for f o _ h = absurd (omega arith)

-- where one stands
pub made_for_there : (f o : ℕ) (ns : List (Note Asked)) → 0 < total (is_made_for f o) ns → (r : ℕ) × (c : Asked) × (k : ℕ) × (get_elem? ns k ≡ some (Made f r c)) × (c.operation ≡ o)
made_for_there f o ns some_ = let l = total_some (is_made_for f o) ns some_ in let n = made_for f o l.1 l.3 in (n.0, n.1, l.0, l.2 ∙ ap some n.2, n.3)

id_made : (slots : ℕ) (notes : List (Noted Asked)) (o id : ℕ) → id_slot id < slots → 0 < total (is_made_for (id_first id) o) (notes_of (id_slot id) notes) → IsIdOf slots notes o id
id_made slots notes o id inside some_ = let m = made_for_there (id_first id) o (notes_of (id_slot id) notes) some_ in record {
  slot = id_slot id;
  first = id_first id;
  inside = inside;
  low = version_low id;
  id_is = sym (div-add-mod' id 4294967296);
  range = m.0;
  asked = m.1;
  place = m.2;
  made = m.3;
  operation = m.4;
}

-- ## The run

-- each that stands in a list stands in one that is the same
carried : {A : Type 0} (l m : List A) (i : ℕ) (x : A) → l ≡ m → get_elem? m i ≡ some x → (k : ℕ) × (get_elem? l k ≡ some x)
carried l m i x e at = (i, ap (λ y. get_elem? y i) e ∙ at)

module _ {O : Type 0} {g : Ghosts O} {state : O → OutState} {readers : List (LinkReader g)} {p : Plan} {slots : ℕ} {setup : List Task} {clients : List (List Task)} {opens : List ℕ} {told ended : List (List Told)} {places : List PlaceWord} {vrefs : List Vref} {outs : List O} {ids : List (View Asked)}
    (run : RanWith g state readers p slots setup clients opens told ended places vrefs outs ids) (outcomes : List (Option Outcome)) (may : MayRunAll p (ids_of p slots) setup clients) (notes : List (Noted Asked)) (laws : IdLaws slots notes) (have : HaveNotesOf ids notes)
    -- each retry is one of a later attempt of a call
    (later : (j : ℕ) (c : Client g state p (ids_of p slots)) → get_elem? (all run) j ≡ some c → AreLater (setup ∷ clients) outcomes (all_asked c.thread c.is)) where
  abbrev q : id_plan.Plan
  q = ids_of p slots

  abbrev tasks_all : List (List Task)
  tasks_all = setup ∷ clients

  tasks_at : (j : ℕ) (c : Client g state p q) → get_elem? (all run) j ≡ some c → get_elem? tasks_all j ≡ some (tasks_of c)
  tasks_at j c at = ap (λ (l : List (List Task)). get_elem? l j) (sym (tasks_are run)) ∙ map_there tasks_of (all run) j c at

  -- a task of a client is an operation of it, and a call has its number
  is_operation : (j : ℕ) (c : Client g state p q) → get_elem? (all run) j ≡ some c → (i : ℕ) (x : Task) → get_elem? (tasks_of c) i ≡ some x → IsOperation tasks_all outcomes j x.number x.op
  is_operation j c at i x there = (tasks_of c, to_slice tasks_all j (tasks_of c) (tasks_at j c at), contains_from (tasks_of c) x (i, to_slice (tasks_of c) i x there))

  own_call : (j : ℕ) (c : Client g state p q) → get_elem? (all run) j ≡ some c → (i : ℕ) (x : Task) → get_elem? (tasks_of c) i ≡ some x → IsOwnCall x.number x.op
  own_call j c at i x there = let m = may_make run may j c at in call_at p q (tasks_of c) m.0 i x m.1 there

  -- ## Whose a message is

  -- it is an attempt of a call with the id that was made for that, and a later one is one to which the id advanced
  pub record IsOwnAttempt (a : Accepted) : Type 0 where
    pub client : ℕ
    pub asked : Asked
    pub is : IsOperation tasks_all outcomes client a.operation (ops.Call asked)
    pub id : ℕ
    pub its : IsIdOf slots notes a.operation id
    pub bytes : a.bytes ≡ frame_of asked id a.attempt
    pub advanced : (a.attempt ≡ 0) ⊎ (0 < total (is_attempt (id_first id) a.attempt) (notes_of (id_slot id) notes))

  -- or it is that of a send
  pub data SentBy (a : Accepted) : Type 0 where
    of_send : (client name : ℕ) (bytes : List ℕ) → IsOperation tasks_all outcomes client a.operation (ops.Send name bytes) → SentBy a
    of_call : IsOwnAttempt a → SentBy a

  own_attempt : (client : ℕ) (asked : Asked) (id n : ℕ) (e : Entry) → n ≤ 6 → IsOperation tasks_all outcomes client asked.operation (ops.Call asked) → IsIdOf slots notes asked.operation id → IsFrame asked id n e
      → (n ≡ 0) ⊎ (0 < total (is_attempt (id_first id) n) (notes_of (id_slot id) notes)) → IsOwnAttempt (accepted_of e)
  own_attempt client asked id n e low is its f advanced =
      let place = f.place in
      let op_ : asked.operation ≡ (accepted_of e).operation = omega (arith, place, low) in
      let at : n ≡ (accepted_of e).attempt = omega (arith, place, low) in
      record {
        client = client;
        asked = asked;
        is = subst (λ (o : ℕ). IsOperation tasks_all outcomes client o (ops.Call asked)) op_ is;
        id = id;
        its = subst (λ (o : ℕ). IsIdOf slots notes o id) op_ its;
        bytes = f.bytes ∙ ap (frame_of asked id) at;
        advanced = subst (λ (m : ℕ). (m ≡ 0) ⊎ (0 < total (is_attempt (id_first id) m) (notes_of (id_slot id) notes))) at advanced;
      }

  -- by an operation of client j
  acted_sent : (j number : ℕ) (op : Op) (by : Option Outcome) (s t : Stand g) (a : Acted state p q number op by s t) → IsOperation tasks_all outcomes j number op → IsOwnCall number op → (v : View Asked) → HasMade g state p q v number op by s t a
      → ((i : ℕ) (f : Note Asked → ℕ) → total f (notes_of i v.notes) ≤ total f (notes_of i notes)) → (i : ℕ) (e : Entry) → get_elem? (acted_entries state p q number op by s t a) i ≡ some e → SentBy (accepted_of e)
  acted_sent j number (ops.Send n bytes) None s t a is own v made within i e at =
      let x = a.0.delivered.accepted in
      let place : e.heading.label.place ≡ 8 * number + 0 = ap (λ (y : Entry). y.heading.label.place) (sym (only_one x.entry i e at)) ∙ ap (λ (h : Heading). h.label.place) x.heading_is in
      let op_ : number ≡ (accepted_of e).operation = omega (arith, place) in
      of_send j n bytes (subst (λ (o : ℕ). IsOperation tasks_all outcomes j o (ops.Send n bytes)) op_ is)
  acted_sent j number (ops.Send n bytes) (Some by) s t a is own v made within i e at = none_there i e at
  acted_sent j number (ops.Call asked) None s t a is own v made within i e at =
      let b = a.1 in
      let f = attempt_frame state p q asked a.0 0 zero-le b.socket b.at (both_of t) b.attempted i e at in
      let id = id_made slots notes asked.operation a.0 made.0 (let x = within (id_slot a.0) (is_made_for (id_first a.0) asked.operation) in let y = made.1 in omega arith) in
      let is_ = subst (λ (o : ℕ). IsOperation tasks_all outcomes j o (ops.Call asked)) (sym own) is in
      of_call (own_attempt j asked a.0 0 e (omega arith) is_ id f (inl refl))
  acted_sent j number (ops.Call asked) (Some by) s t a is own v made within i e at = none_there i e at
  acted_sent j number _ by s t a is own v made within i e at = none_there i e at

  -- by a deed of client j
  deed_sent : (j : ℕ) (c : Client g state p q) → get_elem? (all run) j ≡ some c → (k : ℕ) (d : Deed g state p q) → get_elem? (deeds_of c) k ≡ some d → (i : ℕ) (e : Entry) → get_elem? (entries_of d) i ≡ some e → SentBy (accepted_of e)
  deed_sent j c at k (operates x by s t a) there i e in_it =
      let n = all_at (IsNoted g state p q (tasks_of c) (view_of c)) (deeds_of c) k (operates x by s t a) (all_noted c.thread c.is) there in
      acted_sent j x.number x.op by s t a (is_operation j c at n.0.0 x n.0.1) (own_call j c at n.0.0 x n.0.1) (view_of c) n.1 (noted_among run notes have j c at) i e in_it
  deed_sent j c at k (retries r s t (had_ended h)) there i e in_it = none_there i e in_it
  deed_sent j c at k (retries r s t (overtaken l u a b)) there i e in_it = none_there i e in_it
  deed_sent j c at k (retries r s t (went_again l u lock w)) there i e in_it =
      let d : Deed g state p q = retries r s t (went_again l u lock w) in
      let noted = retry_noted c k r s t l u lock w there in
      let its = retry_id c k r s t l u lock w there laws (noted_among run notes have j c at) in
      let f = went_frame state p q l.content r.id r.attempt r.low _ _ t w.went i e in_it in
      let again = asked_there c.thread c.is k d 0 record { asked = l.content; attempt = r.attempt } there refl in
      let x = later j c at again.0 record { asked = l.content; attempt = r.attempt } again.1 in
      of_call (own_attempt x.client l.content r.id r.attempt e r.low x.is its f (inr (let y = noted_among run notes have j c at (id_slot r.id) (is_attempt (id_first r.id) r.attempt) in omega arith)))

  -- each message that a link accepted
  pub sent_by : (k : ℕ) (e : Entry) → get_elem? run.closed.ordered.log k ≡ some e → SentBy (accepted_of e)
  sent_by k e at =
      let w = authored p run.closed.view.found run.closed.view.lists run.closed.ordered k e at in
      let j = own_behind readers (map own_of (all run)) w.seat _ _ e (ap (λ (l : List (List Entry)). get_elem? l w.seat) (sym (lists_are run)) ∙ w.list) w.place in
      let c = map_back own_of (all run) j.0 _ j.1 in
      let own = carried _ _ _ e c.2 w.place in
      let d = flat_from entries_of (deeds_of c.0) own.0 e own.1 in
      deed_sent j.0 c.0 c.1 d.0 d.1 d.2 d.3 e d.4
