-- What a link gave is at each time the front of what belongs to what it took.
use Rattle.std.proofs.Common.{◌≡◌, ℕ, zero, suc, ◌<◌, ◌==◌, ne_eqb, Bool, true, false, cond, List, [], ◌∷◌, ◌++◌, length, take, filter, filter_map, flat_map, Option, Some, None, append-nil, append_assoc, ⊎_elim, refl, sym, ap, ◌∙◌, subst, arith}
use Rattle.std.proofs.lemmas.Grind.{flat_map-append}
use Rattle.std.proofs.lemmas.List.Elements.{filter_map-append}
use Rattle.std.specs.Prelude.{slice_get}
use mathlib.Core.Logic.{dite}
use mathlib.Core.Option as core
use native.Mathlib.Decide.{ℕ_discrete}
use lib.ListN.{get_elem?}
use Rattle.sock_model.specs.declared.view.View.{View}
use Rattle.brpc_model.specs.Frame.{Frame, frame_bytes}
use Rattle.brpc_model.specs.Items.{Item, Shape}
use Rattle.brpc_model.specs.Operations.{link_shapes}
use Rattle.brpc_model.specs.Reply.{reply, reply_frames}
use Rattle.brpc_model.specs.ServedForTakenBytes.{first_of, given_for}
use Rattle.brpc_model.specs.FrameStream.{Ending, Rest, Fault, stream}
use Rattle.seat_programs.specs.Asides.{TakeBytes, Taking, Bytes, Nothing, NoMore, AtEnd, Closed, Broken}
use Rattle.seat_programs.specs.FoundAndChangedAside.{at_last}
use Rattle.seat_programs.specs.Programs.{Aside}
use Rattle.seat_programs.specs.ReaderProgram.{last_of}
use Rattle.seat_programs.specs.Cores.{Core, SeatState, with_seat}
use Rattle.seat_programs.specs.Tasks.{plan_of}
use Rattle.seat_programs.specs.Ticks.{Answer, Moment, IsAnswered, AreAnswered, IsTaken, step_with, ticked, run}
use Rattle.seat_programs.specs.FoundAndChangedAside.{more_given}
use Rattle.calm_runs.specs.send_causes.specs.Below.programs_allowed.specs.program_steps.specs.SoundSeats.{Sound, IsFitting, AreFitting, views_after}
use Rattle.calm_runs.specs.send_causes.specs.Below.programs_allowed.specs.sock_runs.proofs.LinkTicks.{RetriesGo}
use Rattle.calm_runs.specs.send_causes.specs.Below.programs_allowed.specs.sock_runs.proofs.TicksKeepSeatsSound.{sound_ticks}
use Rattle.calm_runs.specs.send_causes.specs.Below.run_theorems.specs.Heard.{taken_link, bytes_found}
use Rattle.calm_runs.specs.send_causes.specs.Below.run_theorems.proofs.RunLengths.{tick_long}
use Rattle.calm_runs.specs.send_causes.specs.Below.call_stories.specs.LinkReadingLists.{gave_in}
use Rattle.calm_runs.specs.send_causes.specs.Below.call_stories.proofs.StreamFramesStay.{frames_behind_rest, frames_before_fault}
use Rattle.calm_runs.specs.send_causes.specs.Below.accept_counts.proofs.ReadingsAtTicks.{IsTake, takes_or_not}
use Rattle.served_runs.specs.OfferedReplies.{TookSoFar, offered_by, IsOfferedSo, OffersAt, IsOffered, AreOffered}
use Rattle.served_runs.proofs.LinkPlacesAtTicks.{all_lay}
use Rattle.served_runs.proofs.TicksKeepReaderPlace.{tick_is, gave_same, gave_more}

-- ## More that is taken

abbrev Front : {A : Type 0} → List A → List A → Type 0
Front {A} xs ys = (more : List A) × (xs ++ more ≡ ys)

frames_front : (bytes more : List ℕ) → Front (stream bytes).frames (stream (bytes ++ more)).frames
frames_front bytes more = by (stream bytes).ending refl
  where
    by : (e : Ending) → (stream bytes).ending ≡ e → Front (stream bytes).frames (stream (bytes ++ more)).frames
    by (Rest n) is = ((stream (last_of n bytes ++ more)).frames, sym (frames_behind_rest bytes more n is))
    by (Fault at fault) is = ([], append-nil (stream bytes).frames ∙ sym (frames_before_fault bytes more (at, fault, is)))

replies_front : (fs gs : List Frame) → Front fs gs → Front (filter_map reply fs) (filter_map reply gs)
replies_front fs gs (more, e) = (filter_map reply more, sym (filter_map-append reply fs more) ∙ ap (filter_map reply) e)

take_front : {A : Type 0} (n : ℕ) (xs ys : List A) → Front (take n xs) (take n (xs ++ ys))
take_front zero [] ys = ([], refl)
take_front zero (x ∷ xs) ys = ([], refl)
take_front (suc n) [] ys = (take (suc n) ys, refl)
take_front (suc n) (x ∷ xs) ys = let r = take_front n xs ys in (r.0, ap (λ l. x ∷ l) r.1)

first_front : (end : Option ℕ) (fs gs : List Frame) → Front fs gs → Front (first_of end fs) (first_of end gs)
first_front None fs gs f = f
first_front (Some n) fs gs (more, e) = let r = take_front n fs more in (r.0, r.1 ∙ ap (take n) e)

bytes_front : (fs gs : List Frame) → Front fs gs → Front (flat_map frame_bytes fs) (flat_map frame_bytes gs)
bytes_front fs gs (more, e) = (flat_map frame_bytes more, sym (flat_map-append frame_bytes fs more) ∙ ap (flat_map frame_bytes) e)

-- what belongs to more begins with what belonged before
offered_front : (shape : Shape) (took more : List ℕ) → Front (offered_by shape took) (offered_by shape (took ++ more))
offered_front shape took more = by shape.serve
  where
    by : (b : Bool) → Front (cond b (given_for shape took) []) (cond b (given_for shape (took ++ more)) [])
    by true = bytes_front (first_of shape.end (reply_frames took)) (first_of shape.end (reply_frames (took ++ more)))
        (first_front shape.end (reply_frames took) (reply_frames (took ++ more)) (replies_front (stream took).frames (stream (took ++ more)).frames (frames_front took more)))
    by false = ([], refl)

-- ## Ticks

module _ (script : List Item) (k : ℕ) (shape : Shape) where
  abbrev pub IsPart : Core → Type 0
  IsPart c = (took : List ℕ) → TookSoFar (plan_of script) c k took → (more : List ℕ) × (gave_in c k ++ more ≡ offered_by shape took)

  module _ (shape_is : slice_get (link_shapes script) k ≡ Some shape) (retries : RetriesGo (plan_of script)) where
    module _ (c : Core) (vs : List View) (m : Moment) (sound : Sound (plan_of script) c vs) (answered : IsAnswered c m) (fitting : IsFitting (plan_of script) c m) where
      abbrev next : Core
      next = ticked (plan_of script) c m

      -- by what it gave then
      part_on : ((took : List ℕ) → TookSoFar (plan_of script) c k took → (more : List ℕ) × (gave_in next k ++ more ≡ offered_by shape took)) → IsPart next
      part_on part took t = let l = all_lay (plan_of script) k retries c vs m sound answered fitting took t.0 t.1 t.2 in let x = part l.took (l.next, l.done, l.lies) in let f = offered_front shape l.took l.more in (
        x.0 ++ f.0,
        sym (append_assoc (gave_in next k) x.0 f.0) ∙ (ap (λ z. z ++ f.0) x.1 ∙ (f.1 ∙ ap (offered_by shape) (sym l.took_is))),
      )

      part_same : gave_in next k ≡ gave_in c k → IsPart c → IsPart next
      part_same same part = part_on (λ took t. let x = part took t in (x.0, ap (λ z. z ++ x.0) same ∙ x.1))

      part_tick : IsOffered script c m → k < length c.calls.gave → IsPart c → IsPart next
      part_tick offered low part = by_seat (get_elem? c.seats m.seat) refl
        where
          by_found : (b : Bool) (a : Taking) → IsOfferedSo (plan_of script) shape c k a → gave_in next k ≡ gave_in c k ++ bytes_found (at_last b a) → IsPart next
          by_found true (Bytes bytes) all gave = part_on (λ took t. let x = all took t in (x.0, ap (λ z. z ++ x.0) gave ∙ x.1))
          by_found false (Bytes bytes) all gave = part_on (λ took t. let x = all took t in (x.0, ap (λ z. z ++ x.0) gave ∙ x.1))
          by_found true Nothing all gave = part_same (gave ∙ append-nil (gave_in c k)) part
          by_found false Nothing all gave = part_same (gave ∙ append-nil (gave_in c k)) part
          by_found true NoMore all gave = part_same (gave ∙ append-nil (gave_in c k)) part
          by_found false NoMore all gave = part_same (gave ∙ append-nil (gave_in c k)) part
          by_found true AtEnd all gave = part_same (gave ∙ append-nil (gave_in c k)) part
          by_found false AtEnd all gave = part_same (gave ∙ append-nil (gave_in c k)) part
          by_found true Closed all gave = part_same (gave ∙ append-nil (gave_in c k)) part
          by_found false Closed all gave = part_same (gave ∙ append-nil (gave_in c k)) part
          by_found true Broken all gave = part_same (gave ∙ append-nil (gave_in c k)) part
          by_found false Broken all gave = part_same (gave ∙ append-nil (gave_in c k)) part

          taken : (seat : SeatState) → get_elem? c.seats m.seat ≡ core.some seat → (t : IsTake seat.program) → t.link ≡ k → IsTaken t.room m.answer → IsPart next
          taken seat at t own told = by_found c.calls.ending told.0
              ((subst (λ l. OffersAt script c m.answer (Aside (TakeBytes l t.room) t.next)) own (subst (OffersAt script c m.answer) t.first (offered seat at))) shape told.0 shape_is told.1)
              (ap (λ d. gave_in d k) (tick_is (plan_of script) k c m seat at ∙ (ap (step_with (plan_of script) m.seat seat c m.answer) t.first
              ∙ (ap (λ (y : Answer). step_with (plan_of script) m.seat seat c y (Aside (TakeBytes t.link t.room) t.next)) told.1
              ∙ ap (λ l. with_seat m.seat (t.next (at_last c.calls.ending told.0)) seat.hand c.words c.homes (record c { calls = more_given l (at_last c.calls.ending told.0) c.calls })) own)))
              ∙ gave_more (plan_of script) k c m seat t.next (at_last c.calls.ending told.0) low)

          apart : (seat : SeatState) → get_elem? c.seats m.seat ≡ core.some seat → filter (λ j. j == k) (taken_link seat.program) ≡ [] → IsPart next
          apart seat at none_ = part_same (gave_same (plan_of script) k c m (λ s at_s. subst (λ (x : SeatState). filter (λ j. j == k) (taken_link x.program) ≡ []) (core.some-injective seat s (sym at ∙ at_s)) none_)) part

          by_seat : (o : core.Option SeatState) → get_elem? c.seats m.seat ≡ o → IsPart next
          by_seat core.none e = part_same (gave_same (plan_of script) k c m (λ s at_s. absurd (core.some-ne-none s (sym at_s ∙ e)))) part
          by_seat (core.some seat) e = ⊎_elim (λ none_. apart seat e (ap (filter (λ j. j == k)) none_))
              (λ t. dite (ℕ_discrete t.link k) (λ own. taken seat e t own (t.answers m.answer (answered seat e)))
              (λ far. apart seat e (ap (filter (λ j. j == k)) t.takes ∙ ap (λ b. cond b (t.link ∷ []) []) (ne_eqb t.link k far)))) (takes_or_not seat.program)

    pub part_along : (ms : List Moment) (c : Core) (vs : List View) → Sound (plan_of script) c vs → AreAnswered (plan_of script) c ms → AreFitting (plan_of script) c ms → AreOffered script c ms → k < length c.calls.gave → IsPart c → IsPart (run (plan_of script) c ms)
    part_along [] c vs sound answered fitting offered low part = part
    part_along (m ∷ ms) c vs sound answered fitting offered low part = part_along ms (ticked (plan_of script) c m) (views_after (plan_of script) c vs m) (sound_ticks (plan_of script) retries c vs m sound answered.0 fitting.0) answered.1 fitting.1 offered.1
        (let long = (tick_long (plan_of script) m c).gave in omega (arith, long, low)) (part_tick c vs m sound answered.0 fitting.0 offered.0 low part)
