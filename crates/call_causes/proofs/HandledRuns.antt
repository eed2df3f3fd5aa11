-- Over the ticks of a run what is said of the reader of a link goes on, and what it claims where it posts lasts.
use Rattle.std.proofs.Common.{◌≡◌, ℕ, zero, suc, ◌+◌, ◌≤◌, ◌==◌, inl, inr, ⊎_elim, cond, eqb-true, Bool, true, false, append_assoc, List, [], ◌∷◌, ◌++◌, length, replicate, refl, sym, ap, ◌∙◌, subst}
use Rattle.std.proofs.lemmas.List.{append-nil}
use mathlib.Core.Option.{Option, none, some, some-injective}
use lib.ListN.{get_elem?}
use Rattle.sock_words.specs.declared.plain.Plan.{Plan}
use Rattle.sock_model.specs.declared.view.View.{View}
use Rattle.corr_core.specs.declared.marks.Plan.{Plan as IdPlan}
use Rattle.seat_programs.specs.declared.task.Task.{Task}
use Rattle.seat_programs.specs.LoopHeads.{Exit, Retry, Decides}
use Rattle.seat_programs.specs.Programs.{Program, Write, Round}
use Rattle.seat_programs.specs.Cores.{Core, SeatState}
use Rattle.seat_programs.specs.Ticks.{Moment, quiet, ticked, run}
use Rattle.seat_programs.specs.ScheduledRuns.{IsAtRest}
use Rattle.story_ticks.specs.Below.programs_allowed.specs.program_steps.specs.SoundSeats.{IsAhead, views_after}
use Rattle.story_ticks.specs.Below.programs_allowed.specs.program_steps.proofs.TickCases.{elem_there}
use Rattle.story_ticks.specs.Below.programs_allowed.specs.sock_runs.proofs.SoundAlongRuns.{seat_rests, ticked_ahead}
use Rattle.story_ticks.specs.Below.programs_allowed.specs.sock_runs.proofs.Quiets.{ticked_rests}
use Rattle.story_ticks.specs.Below.joint_runs.proofs.BothTablesSound.{BothSound, AreBoth}
use Rattle.story_ticks.specs.Below.id_runs.specs.HeldIdTokens.{IdView}
use Rattle.story_ticks.specs.Below.id_runs.specs.Goes.{IdGoesOn, SoundIds}
use Rattle.story_ticks.specs.Below.id_runs.proofs.IdLoopRounds.{ids_round}
use Rattle.story_ticks.specs.Below.id_runs.proofs.IdPrograms.{block_goes}
use Rattle.story_ticks.specs.call_stories.specs.LinkReadingLists.{soon_at, advanced_at}
use Rattle.story_ticks.specs.call_stories.specs.PostsOfRun.{Post, posted_at}
use Rattle.story_ticks.specs.call_stories.specs.Decided.{posted_by, Decision, decision_in, decided_at, decided_by}
use Rattle.story_ticks.specs.call_stories.specs.Scenes.{Scene, LeadsTo}
use Rattle.story_ticks.specs.call_stories.specs.Says.{Mark, SaysOn}
use Rattle.story_ticks.specs.call_stories.specs.CallStories.{SlotFits, CallStory}
use Rattle.story_ticks.specs.call_stories.proofs.LeadingBytesGiven.{run_leads}
use Rattle.story_ticks.specs.story_steps.proofs.NumberedTasks.{AreNumbered}
use Rattle.story_ticks.proofs.Claiming.{HaveSlots}
use Rattle.story_ticks.specs.story_steps.proofs.FirstStepAllowed.{MayFirst, may_first}
use Rattle.call_causes.proofs.RunOfCallStory.{Story, one_tick, in_either}
use Rattle.call_causes.proofs.HandledResponses.{Sit, Later}
use Rattle.call_causes.proofs.HandledFacts.{facts}
use Rattle.call_causes.proofs.HandledSteps.{Onward, State, state_on, onward}
use Rattle.call_causes.proofs.HandledStates.{After}
use Rattle.call_causes.proofs.HandledTicks.{sit, Known, HasReader, reader_ticks}
use Rattle.call_causes.proofs.HandledPosts.{Claims, claims_on, claims_onward, Silence, silence_on, silence_onward, silent_here, deciding_over, IsDecision, HasClaims, claims_at, over_at}
use Rattle.seat_programs.specs.LoopRounds.{first_step}
use Rattle.story_ticks.specs.Below.outcome_stories.specs.OperationStories.{In}
use Rattle.sock_words.specs.PackedWords.{id_slot, id_first}
use Rattle.story_ticks.specs.Below.outcome_stories.specs.Facts.{shown_in}

-- ## What is known of ticks

abbrev pub AreKnown : Plan → IdPlan → Core → List Moment → Type 0
AreKnown p q c [] = Unit {0}
AreKnown p q c (m ∷ ms) = Known q c m × AreKnown p q (ticked p c m) ms

module _ (p : Plan) (q : IdPlan) (clients : List (List Task)) (gives : ℕ → List ℕ) (numbered : AreNumbered p q clients gives) (slots : HaveSlots p q clients gives) (small : q.slots ≤ 65536) where
  goes_first : (u : IdView) (x : Program) → IdGoesOn p q u x → IdGoesOn p q u (first_step x)
  goes_first u (Write v after) g = block_goes p q small u v after g
  goes_first u (Round head next) g = ids_round p q u head next g
  goes_first u _ g = g

  of_scene : (w : Scene) (ms : List Mark) → CallStory p q clients gives w ms → (us : List IdView) → SoundIds p q w.core us → (m : Moment) → Known q w.core m
  of_scene w ms story us ids m = record {
    plan = ids.plan;
    facts = λ seat at step next t found first is.
        let u = elem_there w.core.seats us m.seat seat ids.each at in let mark = elem_there w.core.seats ms m.seat seat story.each at in
        facts p q clients gives w ms story us ids m.seat u.0 u.1 mark.0 mark.1 step next t (subst (MayFirst p q clients gives w mark.0) first (may_first p q clients gives w mark.0 seat.program (story.seats m.seat seat mark.0 at mark.1)))
        (subst (IdGoesOn p q u.0) first (goes_first u.0 seat.program (ids.seats m.seat seat u.0 at u.1))) found is;
    decides = λ seat at id asked word e next is.
        let mark = elem_there w.core.seats ms m.seat seat story.each at in let says = subst (SaysOn p q clients gives w mark.0) is (story.seats m.seat seat mark.0 at mark.1) in
        let held = says.0.0 in let fits = subst (SlotFits q w) held.1 (story.slots.fits m.seat mark.0 mark.1) in
        (fits.3, held.2.0 ∙ sym held.3);
  }

  known_tick : (posted : List Post) (shown : List ℕ) (c : Core) (vs : List View) (m : Moment) → BothSound p q c vs → Story p q clients gives numbered slots small posted shown c → Known q c m
  known_tick posted shown c vs m both h = subst (λ d. Known q d m) h.2.is (of_scene h.2.scene h.2.marks h.2.story both.id_views (subst (λ d. SoundIds p q d both.id_views) (sym h.2.is) both.ids) m)

  -- ticks of seat 0
  pub setup_known : (n : ℕ) (posted : List Post) (shown : List ℕ) (c : Core) (vs : List View) → AreBoth p q c vs (replicate n (quiet 0)) → LeadsTo p q clients gives (run p c (replicate n (quiet 0))) → Story p q clients gives numbered slots small posted shown c → AreKnown p q c (replicate n (quiet 0))
  setup_known zero posted shown c vs are lead h = tt
  setup_known (suc n) posted shown c vs are lead h = (
    known_tick posted shown c vs (quiet 0) are.0 h,
    setup_known n (posted ++ posted_at c (quiet 0)) (shown ++ advanced_at c (quiet 0)) (ticked p c (quiet 0)) (views_after p c vs (quiet 0)) are.2 lead
        (one_tick p q clients gives numbered slots small posted shown c vs (quiet 0) are.0 are.1 (λ other. absurd (other refl)) (run_leads p q clients gives (replicate n (quiet 0)) (ticked p c (quiet 0)) lead) h),
  )

  -- ticks behind seat 0, which has no step left
  pub played_known : (ms : List Moment) (posted : List Post) (shown : List ℕ) (c : Core) (vs : List View) → AreBoth p q c vs ms → IsAhead c → IsAtRest c 0 → LeadsTo p q clients gives (run p c ms) → Story p q clients gives numbered slots small posted shown c → AreKnown p q c ms
  played_known [] posted shown c vs are ahead rests lead h = tt
  played_known (m ∷ ms) posted shown c vs are ahead rests lead h = (
    known_tick posted shown c vs m are.0 h,
    played_known ms (posted ++ posted_at c m) (shown ++ advanced_at c m) (ticked p c m) (views_after p c vs m) are.2 (ticked_ahead p c m ahead) (ticked_rests p c m 0 rests) lead
        (one_tick p q clients gives numbered slots small posted shown c vs m are.0 are.1 (λ _ seat at. seat_rests c ahead 0 rests seat at) (run_leads p q clients gives ms (ticked p c m) lead) h),
  )

-- ## Along ticks

module _ (p : Plan) (q : IdPlan) (k : ℕ) (St : Sit → Program → Type 0) (st_on : (s t : Sit) → Later k q.slots s t → (x : Program) → St s x → St t x) (onw : (s t : Sit) (ws : List Retry) (x : Program) → St s x → Onward k q.slots St s t ws (first_step x)) where
  pub along : (ms : List Moment) (soon : List (ℕ × ℕ)) (c : Core) → AreKnown p q c ms → HasReader p q k St st_on onw soon c → HasReader p q k St st_on onw (soon ++ shown_in (soon_at p) p c ms) (run p c ms)
  along [] soon c known h = subst (λ l. HasReader p q k St st_on onw l c) (sym (append-nil soon)) h
  along (m ∷ ms) soon c known h = subst (λ l. HasReader p q k St st_on onw l (run p (ticked p c m) ms)) (append_assoc soon (soon_at p c m) (shown_in (soon_at p) p (ticked p c m) ms))
      (along ms (soon ++ soon_at p c m) (ticked p c m) known.1 (reader_ticks p q k St st_on onw soon c m known.0 h))

module _ (p : Plan) (q : IdPlan) (k : ℕ) (calls : List ℕ) (o : ℕ) (many : length calls ≡ q.slots) where
  abbrev pub Reads' : List (ℕ × ℕ) → Core → Type 0
  Reads' soon c = HasReader p q k (State k q.slots calls o many) (state_on k q.slots calls o many) (onward k q.slots calls o many) soon c

  at_reader : {A : Type 0} (m : Moment) (xs : List A) (x : A) → In x (cond (m.seat == 32 + k) xs []) → (m.seat ≡ 32 + k) × In x xs
  at_reader {A = A} m xs x there = by_seat (m.seat == 32 + k) refl there
    where
      by_seat : (b : Bool) → (m.seat == 32 + k) ≡ b → In x (cond b xs []) → (m.seat ≡ 32 + k) × In x xs
      by_seat true is z = (eqb-true m.seat (32 + k) is, z)
      by_seat false is z = absurd z

  pub reads_along : (ms : List Moment) (soon : List (ℕ × ℕ)) (c : Core) → AreKnown p q c ms → Reads' soon c → Reads' (soon ++ shown_in (soon_at p) p c ms) (run p c ms)
  reads_along ms soon c known h = along p q k (State k q.slots calls o many) (state_on k q.slots calls o many) (onward k q.slots calls o many) ms soon c known h

  -- what is claimed lasts
  pub claims_along : (x : Post) (ms : List Moment) (soon : List (ℕ × ℕ)) (c : Core) → AreKnown p q c ms → HasClaims p q k x soon c → HasClaims p q k x (soon ++ shown_in (soon_at p) p c ms) (run p c ms)
  claims_along x ms soon c known h = along p q k (Claims k q.slots (id_slot x.id) (id_first x.id)) (claims_on k q.slots (id_slot x.id) (id_first x.id))
      (claims_onward k q.slots (id_slot x.id) (id_first x.id)) ms soon c known h

  -- where the reader posts an error, it claims
  pub posts_claim : (x : Post) (ms : List Moment) (soon : List (ℕ × ℕ)) (c : Core) → AreKnown p q c ms → Reads' soon c → In x (shown_in (posted_by (32 + k)) p c ms) → HasClaims p q k x (soon ++ shown_in (soon_at p) p c ms) (run p c ms)
  posts_claim x [] soon c known h there = absurd there
  posts_claim x (m ∷ ms) soon c known h there = ⊎_elim
      (λ now. let y = at_reader m (posted_at c m) x now in claims_along x (m ∷ ms) soon c known (claims_at p q k c m known.0 x y.1 soon (over_at p q k c m known.0 x y.1 calls o many soon h y.0)))
      (λ later. subst (λ l. HasClaims p q k x l (run p (ticked p c m) ms)) (append_assoc soon (soon_at p c m) (shown_in (soon_at p) p (ticked p c m) ms))
      (posts_claim x ms (soon ++ soon_at p c m) (ticked p c m) known.1 (reader_ticks p q k (State k q.slots calls o many) (state_on k q.slots calls o many) (onward k q.slots calls o many) soon c m known.0 h) later))
      (in_either x (posted_by (32 + k) c m) (shown_in (posted_by (32 + k)) p (ticked p c m) ms) there)

  -- ## Decisions

  abbrev pub IsSilent : Decision → List (ℕ × ℕ) → Core → Type 0
  IsSilent d soon c = (seat : SeatState) → get_elem? c.seats (32 + k) ≡ some seat → Silence k q.slots (id_slot d.id) (id_first d.id) d.asked.range (sit k c soon) seat.program

  -- the seat is at it
  abbrev Is' : Decision → Program → Type 0
  Is' d x = (word : ℕ) × (next : Exit (Decides d.id d.asked word d.error) → Program) × (x ≡ Round (Decides d.id d.asked word d.error) next)

  decision_is : (d : Decision) (x : Program) → In d (decision_in x) → Is' d x
  decision_is d (Round (Decides id asked word e) next) (inl same) = subst (λ y. Is' y (Round (Decides id asked word e) next)) (sym same) (word, next, refl)
  decision_is d (Round (Decides id asked word e) next) (inr z) = absurd z
  decision_is d other there = absurd there

  silent_at : (d : Decision) (m : Moment) (soon : List (ℕ × ℕ)) (c : Core) → Known q c m → Reads' soon c → In d (decided_by (32 + k) c m) → IsSilent d soon c
  silent_at d m soon c known h there seat at = let y = at_reader m (decided_at c m) d there in by_whom y.0 (get_elem? c.seats m.seat) refl y.1
    where
      by_whom : m.seat ≡ 32 + k → (x : Option SeatState) → get_elem? c.seats m.seat ≡ x → In d (elim x as (λ o. List Decision) [ none ↦ [] | some s ↦ decision_in s.program ]) → Silence k q.slots (id_slot d.id) (id_first d.id) d.asked.range (sit k c soon) seat.program
      by_whom own none e z = absurd z
      by_whom own (some s) e z = let here : get_elem? c.seats m.seat ≡ some seat = ap (get_elem? c.seats) own ∙ at in let same : s ≡ seat = some-injective s seat (sym e ∙ here) in
          let is = decision_is d seat.program (subst (λ (t : SeatState). In d (decision_in t.program)) same z) in
          let ov = deciding_over k q.slots calls o many (sit k c soon) seat.program (h seat at) (subst (λ x. IsDecision k q.slots calls o many x) (sym is.2) tt) in
          let a = subst (λ x. After (Rattle.call_causes.proofs.HandledResponses.Frozen k q.slots (sit k c soon)) ov.0 x) is.2 ov.2 in
          let locked = known.decides seat here d.id d.asked is.0 d.error is.1 is.2 in
          (ov, silent_here k q.slots (sit k c soon) ov.0 d.id d.asked.range ov.1 locked.0 (ap (λ n. Rattle.seat_programs.specs.ReaderProgram.kept_for d.id n ov.0) (sym locked.1) ∙ a.0.0))

  pub silence_along : (d : Decision) (ms : List Moment) (soon : List (ℕ × ℕ)) (c : Core) → AreKnown p q c ms → IsSilent d soon c → IsSilent d (soon ++ shown_in (soon_at p) p c ms) (run p c ms)
  silence_along d ms soon c known h = along p q k (Silence k q.slots (id_slot d.id) (id_first d.id) d.asked.range) (silence_on k q.slots (id_slot d.id) (id_first d.id) d.asked.range) (silence_onward k q.slots (id_slot d.id) (id_first d.id) d.asked.range) ms soon c known h

  -- where the reader decides on an error of a call, its link gave no response to it
  pub decides_silent : (d : Decision) (ms : List Moment) (soon : List (ℕ × ℕ)) (c : Core) → AreKnown p q c ms → Reads' soon c → In d (shown_in (decided_by (32 + k)) p c ms) → IsSilent d (soon ++ shown_in (soon_at p) p c ms) (run p c ms)
  decides_silent d [] soon c known h there = absurd there
  decides_silent d (m ∷ ms) soon c known h there = ⊎_elim
      (λ now. silence_along d (m ∷ ms) soon c known (silent_at d m soon c known.0 h now))
      (λ later. subst (λ l. IsSilent d l (run p (ticked p c m) ms)) (append_assoc soon (soon_at p c m) (shown_in (soon_at p) p (ticked p c m) ms))
      (decides_silent d ms (soon ++ soon_at p c m) (ticked p c m) known.1 (reader_ticks p q k (State k q.slots calls o many) (state_on k q.slots calls o many) (onward k q.slots calls o many) soon c m known.0 h) later))
      (in_either d (decided_by (32 + k) c m) (shown_in (decided_by (32 + k)) p (ticked p c m) ms) there)
