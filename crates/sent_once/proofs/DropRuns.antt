-- What the steps by which messages were dropped tell at the end of a run.
use Rattle.std.proofs.Common.{◌≡◌, ◌≢◌, ℕ, zero, suc, ◌+◌, ◌*◌, ◌<◌, ◌≤◌, ◌⊎◌, inl, inr, ⊎_elim, Bool, true, false, List, [], ◌∷◌, replicate, get_or, get_or-set_same, refl, sym, ap, ◌∙◌, subst, arith}
use mathlib.Core.Logic.{dite}
use mathlib.Core.Option.{none, some}
use native.Mathlib.Decide.{ℕ_discrete}
use lib.ListN.{get_elem?}
use Rattle.sock_words.specs.PackedWords.{socket_id_version, socket_id_slot, place_word}
use Rattle.sock_words.specs.declared.plain.Plan.{Plan}
use Rattle.sock_model.specs.declared.chain.Heading.{Heading}
use Rattle.sock_model.specs.declared.view.View.{View}
use Rattle.sock_model.specs.SocketTableLayout.{place_index}
use Rattle.sock_model.specs.References.{slot_facts}
use Rattle.sock_model.specs.SocketSlotLaw.{live}
use Rattle.sock_model.specs.MarkWeights.{is_met}
use Rattle.accept_counts.specs.Below.sock_steps.proofs.LifeLinkSlotPlaces.{own_count}
use Rattle.accept_counts.specs.Below.sock_steps.proofs.RightSteps.{right_in}
use Rattle.corr_core.specs.declared.marks.Plan.{Plan as IdPlan}
use Rattle.corr_core.proofs.NoteSums.{at_length}
use Rattle.sock_message.specs.Asked.{Asked}
use Rattle.seat_programs.specs.declared.task.Task.{Task}
use Rattle.seat_programs.specs.TableSteps.{TableStep, OnSlot, OnPlace, CreateLife, LoadCode, DropPlace}
use Rattle.seat_programs.specs.Cores.{Core, SeatState, stepped}
use Rattle.seat_programs.specs.Programs.{Program, Do, Write}
use Rattle.seat_programs.specs.Ticks.{Moment, IsAnswered, AreAnswered, quiet, step_with, tick_with, ticked, run}
use Rattle.seat_programs.specs.Explained.{AreTasks}
use Rattle.seat_programs.specs.Writings.{Holder, Puts}
use Rattle.accept_counts.specs.Below.programs_allowed.specs.program_steps.specs.ProgramGoesOn.{GoesOn}
use Rattle.accept_counts.specs.Below.programs_allowed.specs.program_steps.specs.SoundSeats.{state, Sound, AreFew, IsFitting, AreFitting, views_after, views_along, MOST_PLACES}
use Rattle.accept_counts.specs.Below.programs_allowed.specs.program_steps.proofs.TickCases.{goes_first, ticks_first}
use Rattle.accept_counts.specs.Below.programs_allowed.specs.sock_runs.proofs.FewAcceptedMessages.{places_small}
use Rattle.accept_counts.specs.Below.programs_allowed.specs.sock_runs.proofs.LinkTicks.{RetriesGo}
use Rattle.accept_counts.specs.Below.programs_allowed.specs.sock_runs.proofs.TicksKeepSeatsSound.{sound_ticks}
use Rattle.accept_counts.specs.Below.outcome_stories.specs.StoryStepCauses.{WasGiven}
use Rattle.accept_counts.specs.Below.outcome_stories.specs.KeptStory.{IsSpoken, Story}
use Rattle.accept_counts.specs.Below.outcome_stories.specs.OperationStories.{Event, In}
use Rattle.accept_counts.specs.Below.outcome_causes.proofs.Final.{at_there}
use Rattle.accept_counts.specs.Below.outcome_ticks.proofs.EventsOfGoodStory.{event, marked_given, given_by}
use Rattle.accept_counts.specs.Below.outcome_ticks.proofs.TicksKeepStory.{MayMove, IsNew, tick_story}
use Rattle.accept_counts.specs.Below.label_runs.specs.AttemptLabelsLeft.{Trial}
use Rattle.accept_counts.specs.AttemptCounts.{LabelLaw, StoresOwn, AreLabelled}
use Rattle.accept_counts.specs.Below.id_runs.specs.Goes.{SoundIds, IsFittingIds}
use Rattle.accept_counts.specs.Below.id_runs.specs.HeldIdTokens.{IdView}
use Rattle.accept_counts.specs.Below.joint_runs.proofs.BothTablesSound.{AreBounded}
use Rattle.accept_counts.specs.RefusedOrDropped.{Deed, DidStep, DidRound, DidAt, DidIn}
use Rattle.sent_once.proofs.DropPlaces.{log_calls, in_hand, place_stays}
use Rattle.sent_once.proofs.DropTicks.{IsKnown, CodesLaw, known_later, codes_ticks}
use Rattle.sent_once.proofs.DropWords.{held_version, live_none, code_in}
use Rattle.accept_counts.proofs.TicksKeepAttemptLaw.{label_ticks}
use Rattle.seat_programs.specs.LoopRounds.{first_step}

-- a tick of a seat is its first step
tick_steps : (p : Plan) (c : Core) (m : Moment) (seat : SeatState) (call : TableStep) (next : ℕ → Program) → get_elem? c.seats m.seat ≡ some seat → first_step seat.program ≡ Do call next → ticked p c m ≡ stepped p m.seat seat call next c
tick_steps p c m seat call next at is = ap (λ o. elim o as (λ o. Core) [ none ↦ c | some seat ↦ tick_with p m.seat seat c m.answer seat.program ]) at ∙ (ticks_first p m.seat seat c m.answer seat.program ∙ ap (step_with p m.seat seat c m.answer) is)

module _ (p : Plan) (q : IdPlan) (is_call : Asked → Type 0) (ids : ℕ → ℕ) (clients : List (List Task)) where
  -- what the message of a call is
  pub record IsCalls (h : Heading) : Type 0 where
    pub spoken : IsSpoken clients h.label.operation
    pub owner : ids h.label.operation ≡ h.owner
    pub place : h.label.place ≡ 8 * h.label.operation + h.label.attempt
    pub few : h.label.attempt ≤ 6
    pub asked : Asked
    pub called : is_call asked
    pub own : asked.operation ≡ h.label.operation

  -- ## What deeds tell

  -- a drop, by the place word, which stays where it is that of a call
  pub record IsDropAt (c : Core) (l k m : ℕ) : Type 0 where
    pub low : l < 8 * p.operations
    pub link : k < p.links
    pub small : m < MOST_PLACES
    pub word : (o n : ℕ) → IsSpoken clients o → n < 8 → l ≡ 8 * o + n → get_or c.words (place_index p l) 0 ≡ place_word true k m

  abbrev pub Tells : Core → List Event → Deed → Type 0
  Tells c es (DidStep (OnSlot (LoadCode i h)) code) = code ≢ 0 → IsKnown clients es i h code
  Tells c es (DidStep (OnPlace (DropPlace l k m)) found) = IsDropAt c l k m
  Tells c es (DidRound (Puts h now heading left taken asked)) = WasGiven es (socket_id_slot h.id) (socket_id_version h.id) h.link × (heading.owner ≢ 0 → IsCalls heading)
  Tells c es other = Unit {0}

  -- more steps, and a life is still made with its link
  given_on : (es fresh : List Event) → ((e : Event) → In e es → In e fresh) → (j h k : ℕ) → WasGiven es j h k → WasGiven fresh j h k
  given_on es fresh kept j h k given = let g = marked_given es j h k given in given_by fresh g.0 g.1 g.2 j h k (kept (event g.0 g.1 (OnSlot (CreateLife j k)) g.2) g.3) g.4

  -- the place words of calls that were written are the same
  abbrev pub PlacesStay : Core → Core → Type 0
  PlacesStay c d = (o n l : ℕ) → IsSpoken clients o → n < 8 → l ≡ 8 * o + n → l < 8 * p.operations → get_or c.words (place_index p l) 0 ≢ 0 → get_or d.words (place_index p l) 0 ≡ get_or c.words (place_index p l) 0

  drop_on : (c d : Core) → PlacesStay c d → (l k m : ℕ) → IsDropAt c l k m → IsDropAt d l k m
  drop_on c d stay l k m x = record {
    low = x.low;
    link = x.link;
    small = x.small;
    word = λ o n spoken few label. let e = x.word o n spoken few label in
        stay o n l spoken few label x.low (λ z. let none_ : 0 ≡ place_word true k m = sym z ∙ e in omega (arith, none_)) ∙ e;
  }

  pub tells_on : (c d : Core) (es fresh : List Event) → ((e : Event) → In e es → In e fresh) → PlacesStay c d → (deed : Deed) → Tells c es deed → Tells d fresh deed
  tells_on c d es fresh kept stay (DidStep (OnSlot (LoadCode i h)) code) t = λ some_. known_later clients es fresh kept i h code (t some_)
  tells_on c d es fresh kept stay (DidStep (OnPlace (DropPlace l k m)) found) t = drop_on c d stay l k m t
  tells_on c d es fresh kept stay (DidRound (Puts h now heading left taken asked)) t = (given_on es fresh kept (socket_id_slot h.id) (socket_id_version h.id) h.link t.0, t.1)
  tells_on c d es fresh kept stay other t = tt

  -- ## At a tick

  -- all that is known of the run so far
  pub record Scene (over : Bool) (c : Core) (vs : List View) : Type 0 where
    pub events : List Event
    pub lost : List ℕ
    pub sound : Sound p c vs
    pub story : Story p clients over c vs events lost
    pub trials : List Trial
    pub labels : LabelLaw is_call ids p q c vs trials
    pub codes : CodesLaw clients p c vs events

  module _ (narrow : q.slots ≤ 65536) (are : AreTasks p clients) (go : RetriesGo p) where
    module _ (over : Bool) (c : Core) (vs : List View) (s : Scene over c vs) (few : AreFew vs) (m : Moment) (answered : IsAnswered c m) (fitting : IsFitting p c m) where
      -- the view of whoever makes a step
      abbrev Viewed : Program → Type 0
      Viewed x = (v : View) × (get_elem? vs m.seat ≡ some v) × GoesOn p v x

      viewed : (seat : SeatState) → get_elem? c.seats m.seat ≡ some seat → Viewed seat.program
      viewed seat at = let v = at_there vs m.seat (let i = at_length c.seats m.seat seat at in let e = s.sound.each in omega (arith, i, e)) in (v.0, v.1, (s.sound.seats m.seat seat v.0 at v.1).goes_on)

      first_viewed : (seat : SeatState) → get_elem? c.seats m.seat ≡ some seat → (x : Program) → first_step seat.program ≡ x → Viewed x
      first_viewed seat at x is = let v = viewed seat at in (v.0, v.1, subst (GoesOn p v.0) is (goes_first p v.0 seat.program v.2))

      -- a code of a socket that was loaded
      load_tells : (seat : SeatState) → get_elem? c.seats m.seat ≡ some seat → (i h : ℕ) (next : ℕ → Program) → first_step seat.program ≡ Do (OnSlot (LoadCode i h)) next → (code : ℕ) → code ≡ code_in c.words i → code ≢ 0 → IsKnown clients s.events i h code
      load_tells seat at i h next is code found some_ = let v = first_viewed seat at (Do (OnSlot (LoadCode i h)) next) is in let may = v.2.0 in let held = held_version p c vs s.sound m.seat v.0 v.1 i h may.0 may.1 in
          subst (IsKnown clients s.events i h) (sym found) (s.codes.known i h may.0 held.1
          (dite (ℕ_discrete (live (slot_facts (state c vs) i)) 0) (λ z. let a = held.0 in omega (arith, a, z)) (λ n. absurd (some_ (found ∙ live_none p c vs s.sound m.seat v.0 v.1 i may.0 (omega (arith, n))))))
          (λ z. some_ (found ∙ z)))

      -- a message that was dropped
      drop_tells : (seat : SeatState) → get_elem? c.seats m.seat ≡ some seat → (l k n : ℕ) (next : ℕ → Program) → first_step seat.program ≡ Do (OnPlace (DropPlace l k n)) next → IsDropAt (ticked p c m) l k n
      drop_tells seat at l k n next is = let v = first_viewed seat at (Do (OnPlace (DropPlace l k n)) next) is in let may = v.2.0 in let x = may.0 in let r = x.mine.right in
          let low : l < 8 * p.operations = (let a = x.label_in in let b = may.2 in omega (arith, a, b)) in record {
            low = low;
            link = subst (λ z. z < p.links) (sym may.3) (right_in s.sound.lawful m.seat x.mine.place v.0 r v.1 x.mine.has);
            small = subst (λ z. z < MOST_PLACES) (sym may.4) (places_small p (state c vs) s.sound.lawful m.seat v.0 v.1 x.mine.place r x.mine.has few x.now x.stage);
            word = λ o a spoken few label. ap (λ (d : Core). get_or d.words (place_index p l) 0) (tick_steps p c m seat (OnPlace (DropPlace l k n)) next at is)
                ∙ get_or-set_same c.words (place_index p l) (place_word true k n) 0 (let sized = s.sound.lawful.references.sized in omega (arith, low, sized));
          }

      -- a round of a loop of writing
      round_tells : (seat : SeatState) → get_elem? c.seats m.seat ≡ some seat → (h : Holder) (now : ℕ) (heading : Heading) (left : List ℕ) (taken : ℕ) (asked : Bool) (after : Program) → seat.program ≡ Write (Puts h now heading left taken asked) after
          → WasGiven s.events (socket_id_slot h.id) (socket_id_version h.id) h.link × (heading.owner ≢ 0 → IsCalls heading)
      round_tells seat at h now heading left taken asked after is = let v = viewed seat at in let goes : GoesOn p v.0 (Write (Puts h now heading left taken asked) after) = subst (GoesOn p v.0) is v.2 in
          let x = goes.0 in let r = x.0 in let holds = x.1.holds in let message = x.2 in let has : get_elem? v.0.rights 0 ≡ some r = ap (λ l. get_elem? l 0) x.1.one in (
            (let met = own_count (state c vs) m.seat v.0 v.1 (is_met (socket_id_version h.id) h.link) (socket_id_slot h.id) in let some_ = holds.met in
                let linked = (s.sound.lawful.references.slots (socket_id_slot h.id) holds.inside).met (socket_id_version h.id) h.link (omega (arith, met, some_)) in
                let tie = s.story.links (socket_id_slot h.id) holds.inside (socket_id_version h.id) h.link in omega (arith, linked, tie)),
            λ owned. let e = in_hand p q is_call ids clients over c vs s.events s.lost s.sound s.story s.trials s.labels m.seat v.0 r now v.1 has message.stage message.in_hand in
                let same : heading ≡ e.1.heading = sym message.heading_is ∙ e.3 in
                let f = log_calls p q is_call ids clients over c vs s.events s.lost s.sound s.story s.trials s.labels e.0 e.1 e.2 (λ z. owned (ap (λ (y : Heading). y.owner) same ∙ z)) in
                subst IsCalls (sym same) (record { spoken = f.1; owner = f.0.1; place = f.0.2; few = f.0.3; asked = f.0.4.0; called = f.0.4.1; own = f.0.4.2 }),
          )

      places_stay : PlacesStay c (ticked p c m)
      places_stay o n l spoken small label low written = place_stays p q is_call ids clients over c vs s.events s.lost s.sound s.story s.trials s.labels o n l spoken small label low written m answered fitting

      -- ## Behind it

      module _ (moves : MayMove over s.events m.seat) (id_views : (us : List IdView) × SoundIds p q c us) (fitting_ids : IsFittingIds p c m) (own : StoresOwn ids c m) where
        pub next_scene : (n : Scene over (ticked p c m) (views_after p c vs m)) × ((e : Event) → In e s.events → In e n.events) × ((e : Event) → In e n.events → In e s.events ⊎ IsNew p clients are over c vs s.events s.lost s.sound s.story m answered moves e)
        next_scene = let g = tick_story p clients are over c vs s.events s.lost s.sound s.story m answered moves in
            let l = label_ticks p q narrow is_call ids c vs s.trials s.labels id_views.0 id_views.1 s.sound m answered fitting_ids own in (
              record {
                events = g.events;
                lost = g.lost;
                sound = sound_ticks p go c vs m s.sound answered fitting;
                story = g.told;
                trials = l.0;
                labels = l.1;
                codes = codes_ticks p clients are over c vs s.events s.lost s.sound s.story m answered moves s.codes g.events g.lost g.told g.kept g.fresh;
              },
              g.kept,
              g.fresh,
            )

        -- what was done in it tells so
        pub tick_tells : (seat : ℕ) (deed : Deed) → DidAt p c m seat deed → Tells (ticked p c m) next_scene.0.events deed
        tick_tells seat (DidStep (OnSlot (LoadCode i h)) code) d = tells_on c (ticked p c m) s.events next_scene.0.events next_scene.1 places_stay (DidStep (OnSlot (LoadCode i h)) code)
            (load_tells d.1 (subst (λ n. get_elem? c.seats n ≡ some d.1) (sym d.0) d.3) i h d.2 d.4 code d.5)
        tick_tells seat (DidStep (OnPlace (DropPlace l k n)) found) d = drop_tells d.1 (subst (λ n. get_elem? c.seats n ≡ some d.1) (sym d.0) d.3) l k n d.2 d.4
        tick_tells seat (DidRound (Puts h now heading left taken asked)) d = tells_on c (ticked p c m) s.events next_scene.0.events next_scene.1 places_stay (DidRound (Puts h now heading left taken asked))
            (round_tells d.1 (subst (λ n. get_elem? c.seats n ≡ some d.1) (sym d.0) d.3) h now heading left taken asked d.2 d.4)
        tick_tells seat other d = tt

    -- ## Along ticks

    pub record Along (over : Bool) (c : Core) (vs : List View) (ms : List Moment) (s : Scene over c vs) : Type 0 where
      pub after : Scene over (run p c ms) (views_along p c vs ms)
      pub kept : (e : Event) → In e s.events → In e after.events
      pub stay : PlacesStay c (run p c ms)
      pub told : (seat : ℕ) (deed : Deed) → DidIn p c ms seat deed → Tells (run p c ms) after.events deed

    stays_on : (c d e : Core) → PlacesStay c d → PlacesStay d e → PlacesStay c e
    stays_on c d e x y o n l spoken few label low written = let same = x o n l spoken few label low written in y o n l spoken few label low (λ z. written (sym same ∙ z)) ∙ same

    no_ticks : (over : Bool) (c : Core) (vs : List View) (s : Scene over c vs) → Along over c vs [] s
    no_ticks over c vs s = record { after = s; kept = λ e m. m; stay = λ o n l spoken few label low written. refl; told = λ seat deed d. absurd d }

    then_along : (over : Bool) (c : Core) (vs : List View) (m : Moment) (ms : List Moment) (s : Scene over c vs) (n : Scene over (ticked p c m) (views_after p c vs m)) → ((e : Event) → In e s.events → In e n.events) → PlacesStay c (ticked p c m)
        → ((seat : ℕ) (deed : Deed) → DidAt p c m seat deed → Tells (ticked p c m) n.events deed) → Along over (ticked p c m) (views_after p c vs m) ms n → Along over c vs (m ∷ ms) s
    then_along over c vs m ms s n kept stay told r = record {
      after = r.after;
      kept = λ e x. r.kept e (kept e x);
      stay = stays_on c (ticked p c m) (run p c (m ∷ ms)) stay r.stay;
      told = λ seat deed d. ⊎_elim (λ now. tells_on (ticked p c m) (run p c (m ∷ ms)) n.events r.after.events r.kept r.stay deed (told seat deed now)) (λ later. r.told seat deed later) d;
    }

    first_few : (most : ℕ) (c : Core) (vs : List View) (ms : List Moment) → AreBounded p most c vs ms → AreFew vs
    first_few most c vs [] b = b.few
    first_few most c vs (m ∷ ms) b = b.0.few

    -- ticks of all seats, once the setup is over
    pub seats_along : (most : ℕ) (ms : List Moment) (c : Core) (vs : List View) → AreAnswered p c ms → AreFitting p c ms → AreLabelled ids p q c ms → AreBounded p most c vs ms → (s : Scene true c vs) → Along true c vs ms s
    seats_along most [] c vs answered fitting labelled bounded s = no_ticks true c vs s
    seats_along most (m ∷ ms) c vs answered fitting labelled bounded s =
        let few = first_few most c vs (m ∷ ms) bounded in let n = next_scene true c vs s few m answered.0 fitting.0 (inl refl) labelled.0 labelled.1 labelled.2 in
        then_along true c vs m ms s n.0 n.1 (places_stay true c vs s few m answered.0 fitting.0) (tick_tells true c vs s few m answered.0 fitting.0 (inl refl) labelled.0 labelled.1 labelled.2)
        (seats_along most ms (ticked p c m) (views_after p c vs m) answered.1 fitting.1 labelled.3 bounded.1 n.0)

    -- and those of the setup alone
    pub setup_along : (most k : ℕ) (c : Core) (vs : List View) → AreAnswered p c (replicate k (quiet 0)) → AreFitting p c (replicate k (quiet 0)) → AreLabelled ids p q c (replicate k (quiet 0)) → AreBounded p most c vs (replicate k (quiet 0)) → (s : Scene false c vs)
        → ((e : Event) → In e s.events → e.client ≡ 0) → Along false c vs (replicate k (quiet 0)) s
    setup_along most zero c vs answered fitting labelled bounded s alone = no_ticks false c vs s
    setup_along most (suc k) c vs answered fitting labelled bounded s alone =
        let few = first_few most c vs (replicate (suc k) (quiet 0)) bounded in let moves : MayMove false s.events 0 = inr (refl, alone) in let n = next_scene false c vs s few (quiet 0) answered.0 fitting.0 moves labelled.0 labelled.1 labelled.2 in
        then_along false c vs (quiet 0) (replicate k (quiet 0)) s n.0 n.1 (places_stay false c vs s few (quiet 0) answered.0 fitting.0) (tick_tells false c vs s few (quiet 0) answered.0 fitting.0 moves labelled.0 labelled.1 labelled.2)
        (setup_along most k (ticked p c (quiet 0)) (views_after p c vs (quiet 0)) answered.1 fitting.1 labelled.3 bounded.1 n.0 (λ e x. ⊎_elim (λ old. alone e old) (λ new. new.0) (n.2 e x)))
