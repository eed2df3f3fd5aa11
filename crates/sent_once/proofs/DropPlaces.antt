-- The place word of a call's message, once it is written, stays: no other message has this word.
use Rattle.std.proofs.Common.{◌≡◌, ◌≢◌, ℕ, ◌+◌, ◌*◌, ◌<◌, ◌≤◌, ◌⊎◌, inl, inr, ⊎_elim, Bool, true, false, eqb, List, [], ◌∷◌, ◌++◌, get_or, get_or-set_other, refl, sym, ap, ◌∙◌, subst, arith}
use Rattle.std.proofs.lemmas.Bool.{true≢false}
use Rattle.std.specs.List.{AllByRecursion}
use Rattle.std.specs.Prelude.{slice_get, Some}
use mathlib.Core.Option.{some, some-injective}
use lib.ListN.{get_elem?}
use Rattle.sock_words.specs.declared.plain.Plan.{Plan}
use Rattle.sock_model.specs.declared.chain.Entry.{Entry}
use Rattle.sock_model.specs.declared.chain.Heading.{Heading}
use Rattle.sock_model.specs.declared.chain.Right.{Right}
use Rattle.sock_model.specs.declared.chain.Stage.TheVariants.{Writes}
use Rattle.sock_model.specs.declared.view.View.{View}
use Rattle.sock_model.specs.Deliveries.{ShownAt, no_place, one_place}
use Rattle.sock_model.specs.Entries.{ticket, on}
use Rattle.sock_model.specs.SocketTableLayout.{place_index}
use Rattle.accept_counts.specs.Below.sock_steps.proofs.RightSteps.{right_in, right_alone}
use Rattle.accept_counts.specs.Below.chain_steps.proofs.UntouchedByChainSteps.{in_log}
use Rattle.accept_counts.specs.Below.chain_steps.proofs.ChainLettersStay.{writes_room}
use Rattle.accept_counts.specs.Below.chain_steps.proofs.TicketLists.{at_some, distinct_filter}
use Rattle.corr_core.specs.declared.marks.Plan.{Plan as IdPlan}
use Rattle.corr_core.proofs.NoteSums.{at_length}
use Rattle.sock_message.specs.Asked.{Asked}
use Rattle.seat_programs.specs.declared.task.Task.{Task}
use Rattle.seat_programs.specs.TableSteps.{TableStep, OnPlace, StorePlace, DropPlace}
use Rattle.seat_programs.specs.Cores.{Core, SeatState, found_at, words_after}
use Rattle.seat_programs.specs.TableWords.{PlaceOf}
use Rattle.seat_programs.specs.StepTables.{May, word_of, word_after}
use Rattle.seat_programs.specs.SendAndWritePrograms.{heading_of}
use Rattle.seat_programs.specs.Ticks.{Moment, IsAnswered, ticked}
use Rattle.accept_counts.specs.Below.programs_allowed.specs.program_steps.specs.SoundSeats.{state, Sound, IsFitting}
use Rattle.accept_counts.specs.Below.programs_allowed.specs.program_steps.proofs.TickCases.{tick_keeps_marks}
use Rattle.accept_counts.specs.Below.programs_allowed.specs.program_steps.proofs.WordFrame.{word_left}
use Rattle.accept_counts.specs.Below.programs_allowed.specs.sock_runs.proofs.ChainTicks.{word_inside}
use Rattle.accept_counts.specs.Below.outcome_stories.specs.StoryStepCauses.{Asks}
use Rattle.accept_counts.specs.Below.outcome_stories.specs.Explains.{Done, swapped}
use Rattle.accept_counts.specs.Below.outcome_stories.specs.KeptStory.{is_of_send, of_sends, undo, IsOfCall as IsOfSpoken, IsOfTask, EndsIn, AreMade, AreMadeNow, IsSpoken, SeatStory, Story}
use Rattle.accept_counts.specs.Below.outcome_stories.specs.OperationStories.{Event, In, trace_of}
use Rattle.accept_counts.specs.Below.outcome_causes.proofs.Final.{at_there}
use Rattle.accept_counts.specs.Below.outcome_stories.proofs.Members.{all_in}
use Rattle.accept_counts.specs.Below.outcome_causes.proofs.MessagesOfTasks.{in_of_at, filter_has}
use Rattle.accept_counts.specs.Below.outcome_ticks.proofs.SeatPartOfStory.{undo_done, undo_in}
use Rattle.accept_counts.specs.Below.outcome_stories.proofs.SendersOfLogEntries.{HasSent, sent_in, each_of, apart_by}
use Rattle.accept_counts.specs.Below.outcome_ticks.proofs.TicksKeepStory.{get_of}
use Rattle.accept_counts.specs.Below.label_runs.specs.AttemptLabelsLeft.{Trial}
use Rattle.accept_counts.specs.AttemptCounts.{IsOfCall, EntryFits, LabelLaw}
use Rattle.accept_counts.proofs.Apart.{calls_apart}

-- ## Messages of tasks

in_last : {A : Type 0} (xs : List A) (y e : A) → In e (xs ++ y ∷ []) → In e xs ⊎ (e ≡ y)
in_last [] y e (inl same) = inr same
in_last [] y e (inr n) = absurd n
in_last (z ∷ zs) y e (inl same) = inl (inl same)
in_last (z ∷ zs) y e (inr n) = ⊎_elim (λ a. inl (inr a)) (λ a. inr a) (in_last zs y e n)

module _ (es : List Event) (c : ℕ) where
  -- of the messages behind a task, each is the task's or stood before
  ends_either : (t : Task) (before made : List Entry) (b : Bool) → EndsIn es c t before made b → (e : Entry) → In e made → In e before ⊎ IsOfTask es c t e
  ends_either t before made true x e there = ⊎_elim (λ n. inl n) (λ same. inr (subst (IsOfTask es c t) (sym same) x.2)) (in_last before x.0 e (subst (In e) x.1 there))
  ends_either t before made false x e there = inl (subst (In e) x there)

  -- so a message is that of a task that is done
  made_by : (done : List Done) (made : List Entry) → AreMade es c done made → (e : Entry) → In e made → (d : Done) × In d done × IsOfTask es c d.task e
  made_by [] made m e there = absurd (subst (In e) m there)
  made_by (d ∷ ds) made m e there = ⊎_elim (λ n. let x = made_by ds m.0 m.2 e n in (x.0, inr x.1, x.2)) (λ own. (d, inl refl, own)) (ends_either d.task m.0 made (swapped (trace_of c d.task.number es)) m.1 e there)

  -- or of the task in hand
  made_now : (done : List Done) (todo : List Task) (made : List Entry) → AreMadeNow es c done todo made → (e : Entry) → In e made → (t : Task) × In t (undo done todo) × IsOfTask es c t e
  made_now done [] made m e there = let x = made_by done made m e there in (x.0.task, undo_done done [] x.0 x.1, x.2)
  made_now done (t ∷ ts) made m e there = ⊎_elim (λ n. let x = made_by done m.0 m.2 e n in (x.0.task, undo_done done (t ∷ ts) x.0 x.1, x.2)) (λ own. (t, undo_in done (t ∷ ts) t (inl refl), own))
      (ends_either t m.0 made (swapped (trace_of c t.number es)) m.1 e there)

-- ## Two places of one list count twice

-- ## At any time of a run

module _ (p : Plan) (q : IdPlan) (is_call : Asked → Type 0) (ids : ℕ → ℕ) (clients : List (List Task)) (over : Bool) (c : Core) (vs : List View) (es : List Event) (lost : List ℕ) (sound : Sound p c vs) (story : Story p clients over c vs es lost)
    (ts : List Trial) (law : LabelLaw is_call ids p q c vs ts) where
  -- what the story has of a seat with this view
  seat_of : (i : ℕ) (v : View) → get_elem? vs i ≡ some v → (tasks : List Task) × (slice_get clients i ≡ Some tasks) × (seat : SeatState) × SeatStory p (IsSpoken clients) over es lost c.outcomes i tasks seat.program v
  seat_of i v at = let seat = at_there c.seats i (omega (arith, at_length vs i v at, sound.each)) in let a = get_of c.seats clients i seat.0 story.each seat.1 in (a.0, a.1, seat.0, story.seats i a.0 seat.0 v a.1 seat.1 at)

  pub each_made : (i : ℕ) (v : View) → get_elem? vs i ≡ some v → (made : List Entry) × (v.lists ≡ made ∷ [])
  each_made i v at = let s = (seat_of i v at).3.at in (s.made, s.lists)

  -- a message of a send is a task's
  send_message : (i n : ℕ) (e : Entry) → HasSent vs i n e → is_of_send e ≡ true → (t : Task) × Asks clients i t × (e.heading ≡ heading_of t.number)
  send_message i n e h is = let x = seat_of i h.view h.here in let s = x.3.at in let m = filter_has is_of_send s.made n e (sent_in vs i n e h.view s.made h h.here s.lists) is in
      let t = made_now es i x.3.done x.3.todo (of_sends s.made) s.are_made e m in (t.0, (x.0, x.1, subst (In t.0) (sym s.all) t.1), t.2.heading)

  -- any other is a call's
  fits_of : (i n : ℕ) (e : Entry) → HasSent vs i n e → EntryFits is_call ids p e
  fits_of i n e h = let all = (law.views i h.view h.here).1 in all_in (EntryFits is_call ids p) h.made e (subst (AllByRecursion (AllByRecursion (EntryFits is_call ids p))) h.lists all).0 (in_of_at h.made n e h.stands)

  call_message : (i n : ℕ) (e : Entry) → HasSent vs i n e → is_of_send e ≡ false → IsOfCall is_call ids e.heading e.bytes × IsSpoken clients e.heading.label.operation
  call_message i n e h not_ = let s = (seat_of i h.view h.here).3.at in (
    ⊎_elim (λ none_. let z : is_of_send e ≡ true = ap (λ l. elim l as (λ l. Bool) [ [] ↦ true | x ∷ xs ↦ false ]) none_.1 in absurd (true≢false (sym z ∙ not_))) (λ x. x) (fits_of i n e h).0,
    all_in (IsOfSpoken (IsSpoken clients)) s.made e s.of_calls (in_of_at s.made n e (sent_in vs i n e h.view s.made h h.here s.lists)) not_,
  )

  -- an accepted message with an owner is a call's
  pub log_calls : (r : ℕ) (e : Entry) → get_elem? sound.lawful.log r ≡ some e → e.heading.owner ≢ 0 → IsOfCall is_call ids e.heading e.bytes × IsSpoken clients e.heading.label.operation
  log_calls r e there = each_of p c vs sound.lawful each_made (λ (x : Entry). x.heading.owner ≢ 0 → IsOfCall is_call ids x.heading x.bytes × IsSpoken clients x.heading.label.operation) one r e there
    where
      one : (i n : ℕ) (x : Entry) → HasSent vs i n x → x.heading.owner ≢ 0 → IsOfCall is_call ids x.heading x.bytes × IsSpoken clients x.heading.label.operation
      one i n x h some_ = by (is_of_send x) refl
        where
          by : (b : Bool) → is_of_send x ≡ b → IsOfCall is_call ids x.heading x.bytes × IsSpoken clients x.heading.label.operation
          by true is = absurd (some_ (ap (λ (y : Heading). y.owner) (send_message i n x h is).2))
          by false is = call_message i n x h is

  -- the numbers of attempts are small
  pub log_few : (r : ℕ) (e : Entry) → get_elem? sound.lawful.log r ≡ some e → e.heading.label.attempt ≤ 6
  log_few r e there = each_of p c vs sound.lawful each_made (λ (x : Entry). x.heading.label.attempt ≤ 6) one r e there
    where
      one : (i n : ℕ) (x : Entry) → HasSent vs i n x → x.heading.label.attempt ≤ 6
      one i n x h = by (is_of_send x) refl
        where
          by : (b : Bool) → is_of_send x ≡ b → x.heading.label.attempt ≤ 6
          by true is = let z : x.heading.label.attempt ≡ 0 = ap (λ (y : Heading). y.label.attempt) (send_message i n x h is).2 in omega (arith, z)
          by false is = (call_message i n x h is).0.3

  -- what a seat has in hand to write is the first message without a place
  pub in_hand : (i : ℕ) (v : View) (r : Right) (now : ℕ) → get_elem? vs i ≡ some v → get_elem? v.rights 0 ≡ some r → r.stage ≡ Writes now → r.taken ≡ true → (m : ℕ) × (e : Entry) × (get_elem? sound.lawful.log m ≡ some e) × (r.heading ≡ e.heading)
  in_hand i v r now at has stage taken = let kl = right_in sound.lawful i 0 v r at has in let alone = right_alone sound.lawful i 0 v r at has in
      let e = at_some (on r.link sound.lawful.log) (sound.lawful.places r.link) (writes_room sound.lawful.chains r.link r now kl alone stage) in let l = in_log sound.lawful.chains r.link (sound.lawful.places r.link) e.0 e.1 in
      (l.0, e.0, l.1, (sound.lawful.messages.in_hand r.link r e.0 kl alone taken e.1).0)

  -- of an operation that is no task's, attempt n
  module _ (o n l : ℕ) (spoken : IsSpoken clients o) (few : n < 8) (label : l ≡ 8 * o + n) where
    is_calls : (i m : ℕ) (e : Entry) → HasSent vs i m e → e.heading.label.place ≡ l → is_of_send e ≡ false
    is_calls i m e h place = by (is_of_send e) refl
      where
        by : (b : Bool) → is_of_send e ≡ b → is_of_send e ≡ false
        by false is = is
        by true is = absurd (let t = send_message i m e h is in let at : e.heading.label.place ≡ 8 * t.0.number = ap (λ (x : Heading). x.label.place) t.2 in spoken i t.0 t.1 (omega (arith, at, place, label, few)))

    -- one message at most has this place word
    one_labelled : (r s : ℕ) (d e : Entry) → get_elem? sound.lawful.log r ≡ some d → get_elem? sound.lawful.log s ≡ some e → d.heading.label.place ≡ l → e.heading.label.place ≡ l → r ≡ s
    one_labelled r s d e at_d at_e is_d is_e = apart_by p c vs sound.lawful each_made (λ (x y : Entry). (x.heading.label.place ≡ l) × (y.heading.label.place ≡ l))
        (λ i j m k x y h g both. calls_apart is_call ids vs (λ id n. let once = law.once id n in omega (arith, once)) i j m k x y h g (call_message i m x h (is_calls i m x h both.0)).0 (call_message j k y g (is_calls j k y g both.1)).0 (both.0 ∙ sym both.1)) r s d e at_d at_e (is_d, is_e)

    -- where its word is written, no other seat is to write it
    module _ (i : ℕ) (v : View) (at : get_elem? vs i ≡ some v) (r : Right) (has : get_elem? v.rights 0 ≡ some r) (now : ℕ) (stage : r.stage ≡ Writes now) (taken : r.taken ≡ true) (place : r.heading.label.place ≡ l) (low : l < 8 * p.operations) where
      unwritten : get_or c.words (place_index p l) 0 ≡ 0
      unwritten = by (sound.lawful.delivered.shown l low)
        where
          kl : r.link < p.links
          kl = right_in sound.lawful i 0 v r at has

          next : (e : Entry) × (get_elem? (on r.link sound.lawful.log) (sound.lawful.places r.link) ≡ some e)
          next = at_some (on r.link sound.lawful.log) (sound.lawful.places r.link) (writes_room sound.lawful.chains r.link r now kl (right_alone sound.lawful i 0 v r at has) stage)

          next_place : next.0.heading.label.place ≡ l
          next_place = ap (λ (x : Heading). x.label.place) (sym (sound.lawful.messages.in_hand r.link r next.0 kl (right_alone sound.lawful i 0 v r at has) taken next.1).0) ∙ place

          by : ShownAt p.links (λ x. get_or c.words (place_index p x) 0) sound.lawful.log sound.lawful.places sound.lawful.kept l → get_or c.words (place_index p l) 0 ≡ 0
          by (no_place none_ others) = none_
          by (one_place k j e kl' placed there is w) = absurd (
              let a = in_log sound.lawful.chains k j e there in let b = in_log sound.lawful.chains r.link (sound.lawful.places r.link) next.0 next.1 in
              let one : a.0 ≡ b.0 = one_labelled a.0 b.0 e next.0 a.1 b.1 is next_place in
              let same : e ≡ next.0 = some-injective e next.0 (sym a.1 ∙ (ap (λ x. get_elem? sound.lawful.log x) one ∙ b.1)) in
              let links : k ≡ r.link = sym a.2 ∙ (ap (λ (x : Entry). x.link) same ∙ b.2) in
              let places : j ≡ sound.lawful.places r.link = distinct_filter ticket (λ (x : Entry). eqb x.link r.link) sound.lawful.log sound.lawful.chains.differ j (sound.lawful.places r.link) e next.0
              (subst (λ x. get_elem? (on x sound.lawful.log) j ≡ some e) links there) next.1 (ap ticket same) in
              let less : j < sound.lawful.places r.link = subst (λ x. j < sound.lawful.places x) links placed in omega (arith, less, places)
              )

    -- a step leaves the word, where it was written
    module _ (i : ℕ) (v : View) (at : get_elem? vs i ≡ some v) (low : l < 8 * p.operations) (written : get_or c.words (place_index p l) 0 ≢ 0) where
      no_writer : (r : Right) → r.heading.label.place ≡ l → (now : ℕ) → get_elem? v.rights 0 ≡ some r → r.stage ≡ Writes now → r.taken ≡ true → ⊥
      no_writer r place now has stage taken = written (unwritten i v at r has now stage taken place low)

      other_place : (m w : ℕ) (r : Right) (now : ℕ) → v.rights ≡ r ∷ [] → r.stage ≡ Writes now → r.taken ≡ true → m ≡ r.heading.label.place → get_or (words_after c.words (some (place_index p m)) w) (place_index p l) 0 ≡ get_or c.words (place_index p l) 0
      other_place m w r now one stage taken is = get_or-set_other c.words (place_index p m) (place_index p l) w 0
          (λ e. no_writer r (sym is ∙ (let z : m ≡ l = omega (arith, e) in z)) now (ap (λ rs. get_elem? rs 0) one) stage taken)

      step_keeps : (call : TableStep) → May p v call → get_or (words_after c.words (word_of p call) (word_after call (found_at c.words (word_of p call)))) (place_index p l) 0 ≡ get_or c.words (place_index p l) 0
      step_keeps (OnPlace (StorePlace m k n)) may = let x = may.0 in other_place m (word_after (OnPlace (StorePlace m k n)) 0) x.mine.right x.now may.1 x.stage x.taken may.2
      step_keeps (OnPlace (DropPlace m k n)) may = let x = may.0 in other_place m (word_after (OnPlace (DropPlace m k n)) 0) x.mine.right x.now may.1 x.stage x.taken may.2
      step_keeps call may = word_left p c.words call (word_inside p (state c vs) sound.lawful i v at call may) (word_after call (found_at c.words (word_of p call))) (PlaceOf l) low refl

    -- so does a tick
    pub place_stays : l < 8 * p.operations → get_or c.words (place_index p l) 0 ≢ 0 → (m : Moment) → IsAnswered c m → IsFitting p c m → get_or (ticked p c m).words (place_index p l) 0 ≡ get_or c.words (place_index p l) 0
    place_stays low written m answered fitting = tick_keeps_marks p c vs m sound answered fitting (λ d ws. get_or d.words (place_index p l) 0 ≡ get_or c.words (place_index p l) 0) refl
        (λ seat v call next at_seat at_view is goes. step_keeps m.seat v at_view low written call goes.0)
        (λ seat v program rights hand hs a at_seat at_view comes. refl)
