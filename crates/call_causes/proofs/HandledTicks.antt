-- A tick of any seat keeps what is said of the reader of a link.
use Rattle.std.proofs.Common.{◌≡◌, ◌≢◌, ℕ, suc, ◌+◌, ◌<◌, inl, inr, ⊎_elim, ◌&&◌, Bool, true, false, cond, nat_lt, leb-false, List, [], ◌∷◌, ◌++◌, length, drop, get_or, get_or-set_same, get_or-set_other, set, append-nil, refl, sym, ap, ◌∙◌, subst, arith}
use Rattle.std.specs.Prelude.{slice_index}
use Rattle.std.specs.List.{flat_map}
use Rattle.std.proofs.lemmas.Bool.{true≢false}
use mathlib.Core.Option.{Option, none, some}
use lib.ListN.{get_elem?}
use Rattle.atomic_table.proofs.Lists.{at_set}
use Rattle.sock_words.specs.declared.plain.Plan.{Plan}
use Rattle.sock_io.specs.declared.link.Put.{Put}
use Rattle.sock_io.specs.declared.link.Ready.{Ready}
use Rattle.sock_model.specs.declared.home.Home.{Home}
use Rattle.sock_model.specs.UnplacedMessages.{HeadedBytes}
use Rattle.sock_model.specs.ChainLawReads.{message, link_home}
use Rattle.seat_programs.specs.brpc_model.specs.Frame.{Frame}
use Rattle.corr_core.specs.IdSlotWord.{parts}
use Rattle.corr_core.specs.declared.marks.Plan.{Plan as IdPlan}
use Rattle.corr_core.specs.IdRangeVersions.{is_early}
use Rattle.corr_core.specs.EndedByRangeOrAttempt.{ends_call}
use Rattle.seat_programs.specs.id_rule.specs.LawfulIdTable.{id_index}
use Rattle.story_ticks.specs.Below.joint_runs.specs.Below.sock_steps.proofs.SumsAsMarksChange.{either_way}
use Rattle.seat_programs.specs.Asides.{Step, TakeBytes, Taking, Bytes, Nothing, NoMore, AtEnd, Closed, Broken, Found}
use Rattle.seat_programs.specs.LoopHeads.{Exit, Retry, Decides, Locks}
use Rattle.seat_programs.specs.Programs.{Program, Do, TakeMessage, TakeHome, PutHome, PutBytes, AskReady, Write, Aside, Round}
use Rattle.sock_message.specs.Asked.{Asked}
use Rattle.seat_programs.specs.Writings.{Puts, Waits, Empties, Reversing}
use Rattle.seat_programs.specs.SendAndWritePrograms.{block}
use Rattle.seat_programs.specs.LoopRounds.{round, first_step}
use Rattle.seat_programs.specs.FoundAndChangedAside.{found_in, calls_after}
use Rattle.seat_programs.specs.ReaderProgram.{has_response, slot_in, version_in}
use Rattle.seat_programs.specs.Cores.{Core, SeatState, found_at, words_after, homes_after, hand_after, lies_at, first_of, others_of, link_place, resolved, waiting_at, next_step, with_seat}
use Rattle.seat_programs.specs.StepTables.{word_of, word_after}
use Rattle.seat_programs.specs.Ticks.{Answer, OfPut, OfReady, Moment, fed, with_places, onto_first, taken, with_message, with_link, with_put, with_ready, with_found, step_with, tick_with, ticked}
use Rattle.story_ticks.specs.call_stories.specs.LinkReadingLists.{Take, taken_link, takes_by, takes_at, gave_in, is_soon, soon_from, soon_by, soon_at}
use Rattle.story_ticks.specs.story_steps.proofs.AttemptsBehindAsides.{in_behind}
use Rattle.call_causes.proofs.HandledResponses as handled
use Rattle.call_causes.proofs.HandledResponses.{bound, early_is, goes_same, AllFrom, Sit, frames_in, IsResp, Later, in_more}
use Rattle.call_causes.proofs.HandledFacts.{Facts, Tied}
use Rattle.call_causes.proofs.HandledSteps.{Took, Onward, bytes_in}
use Rattle.story_ticks.specs.Below.outcome_stories.specs.OperationStories.{In}
use Rattle.sock_words.specs.PackedWords.{id_slot, id_first}

-- ## What a program takes

abbrev pub take_of : Program → List ℕ
take_of (Aside (TakeBytes l room) next) = l ∷ []
take_of other = []

pub taken_first : (program : Program) → taken_link program ≡ take_of (first_step program)
taken_first (Round (Decides id asked w e) next) = either_way (ends_call (parts w) e) _ _ (λ x. [] ≡ take_of x) refl refl
taken_first (Round (Locks i sought (Rattle.std.specs.Prelude.Some w)) next) = refl
taken_first (Round (Locks i sought Rattle.std.specs.Prelude.None) next) = refl
taken_first (Write (Puts h now heading left took put) after) = refl
taken_first (Write (Waits h now heading left took) after) = refl
taken_first (Write (Empties h) after) = refl
taken_first (Write (Reversing h top at after) then_) = refl
taken_first (Aside (TakeBytes k room) next) = refl
taken_first _ = refl

drop_front : {A : Type 0} (xs ys : List A) → drop (length xs) (xs ++ ys) ≡ ys
drop_front [] ys = refl
drop_front (x ∷ xs) ys = drop_front xs ys

-- ## Soon frames

abbrev pub sit : ℕ → Core → List (ℕ × ℕ) → Sit
sit k c soon = record { words = c.calls.words; soon = soon; bytes = gave_in c k }

-- each frame that comes is soon, or some range has passed it
soon_by_test : (a b e : Bool) → (a && b) ≡ true → (a && (b && e)) ≡ false → e ≡ false
soon_by_test true true e x y = y
soon_by_test true false e x y = absurd (true≢false (sym x))
soon_by_test false b e x y = absurd (true≢false (sym x))

late_here : (k ids : ℕ) (d : Core) → d.calls.plan.slots ≡ ids → (f : Frame) → is_soon d f ≡ false → IsResp k ids f → version_in f < bound (parts (slice_index d.calls.words (id_index (slot_in f))))
late_here k ids d slots f is resp =
    let early = soon_by_test (has_response f.meta.response) (nat_lt (slot_in f) ids) (is_early (version_in f) (parts (slice_index d.calls.words (id_index (slot_in f))))) resp
    (ap (λ s. has_response f.meta.response && (nat_lt (slot_in f) s && is_early (version_in f) (parts (slice_index d.calls.words (id_index (slot_in f)))))) (sym slots) ∙ is) in
    leb-false (bound (parts (slice_index d.calls.words (id_index (slot_in f))))) (version_in f) (sym (early_is (version_in f) (slice_index d.calls.words (id_index (slot_in f)))) ∙ early)

soon_waits : (k ids : ℕ) (d : Core) → d.calls.plan.slots ≡ ids → (soon : List (ℕ × ℕ)) (fs : List Frame) (n : ℕ) → ((x : ℕ × ℕ) → In x (soon_from d k n fs) → In x soon) → AllFrom (handled.Waits k ids (sit k d soon)) n fs
soon_waits k ids d slots soon [] n all = tt
soon_waits k ids d slots soon (f ∷ fs) n all = by_soon (is_soon d f) refl all (λ on. subst (λ j. AllFrom (handled.Waits k ids (sit k d soon)) j fs) (let z : n + 1 ≡ suc n = omega arith in z) (soon_waits k ids d slots soon fs (n + 1) on))
  where
    by_soon : (b : Bool) → is_soon d f ≡ b → ((x : ℕ × ℕ) → In x (cond b ((k, n) ∷ soon_from d k (n + 1) fs) (soon_from d k (n + 1) fs)) → In x soon)
        → (((x : ℕ × ℕ) → In x (soon_from d k (n + 1) fs) → In x soon) → AllFrom (handled.Waits k ids (sit k d soon)) (suc n) fs) → AllFrom (handled.Waits k ids (sit k d soon)) n (f ∷ fs)
    by_soon true is all rest = ((λ _. inl (all (k, n) (inl refl))), rest (λ x there. all x (inr there)))
    by_soon false is all rest = ((λ resp. inr (late_here k ids d slots f is resp)), rest all)

-- ## A tick

-- what is told of a tick
pub record Known (q : IdPlan) (c : Core) (m : Moment) : Type 0 where
  pub plan : c.calls.plan ≡ q
  pub facts : (seat : SeatState) → get_elem? c.seats m.seat ≡ some seat → (step : Step) (next : Found step → Program) (t : Option Taking) (found : Found step) → first_step seat.program ≡ Aside step next → found_in step c.calls t ≡ some found → Facts q m.seat c step found
  -- a call that is decided on is locked, and has the range of its id
  pub decides : (seat : SeatState) → get_elem? c.seats m.seat ≡ some seat → (id : ℕ) (asked : Asked) (word e : ℕ) (next : Exit (Decides id asked word e) → Program) → seat.program ≡ Round (Decides id asked word e) next
      → ((parts (slice_index c.calls.words (id_index (id_slot id)))).first ≡ id_first id) × ((parts word).range ≡ asked.range)

module _ (p : Plan) (q : IdPlan) (k : ℕ) (St : Sit → Program → Type 0) (st_on : (s t : Sit) → Later k q.slots s t → (x : Program) → St s x → St t x) (onw : (s t : Sit) (ws : List Retry) (x : Program) → St s x → Onward k q.slots St s t ws (first_step x)) where
  abbrev pub HasReader : List (ℕ × ℕ) → Core → Type 0
  HasReader soon c = (seat : SeatState) → get_elem? c.seats (32 + k) ≡ some seat → St (sit k c soon) seat.program

  module _ (soon : List (ℕ × ℕ)) (c : Core) (m : Moment) (known : Known q c m) (before : HasReader soon c) where
    abbrev soon_then : Core → List (ℕ × ℕ)
    soon_then d = soon ++ flat_map (soon_by c d) (takes_at c m)

    abbrev Goal : Core → Type 0
    Goal d = HasReader (soon_then d) d

    -- words and bytes as they were
    still : (d : Core) → d.calls.words ≡ c.calls.words → gave_in d k ≡ gave_in c k → Later k q.slots (sit k c soon) (sit k d (soon_then d))
    still d words bytes = record {
      words = λ i low. subst (λ ws. handled.Goes (parts (slice_index c.calls.words (id_index i))) (parts (slice_index ws (id_index i)))) (sym words) (goes_same (parts (slice_index c.calls.words (id_index i))));
      soon = λ x there. in_more x soon (flat_map (soon_by c d) (takes_at c m)) there;
      bytes = bytes;
    }

    stays : Goal c
    stays seat at = st_on (sit k c soon) (sit k c (soon_then c)) (still c refl refl) seat.program (before seat at)

    module _ (seat : SeatState) (at_seat : get_elem? c.seats m.seat ≡ some seat) where
      abbrev Own : Program → Type 0
      Own x = m.seat ≡ 32 + k → (t : Sit) (ws : List Retry) → Onward k q.slots St (sit k c soon) t ws x

      own : Own (first_step seat.program)
      own here t ws = onw (sit k c soon) t ws seat.program (before seat (ap (get_elem? c.seats) (sym here) ∙ at_seat))

      -- a seat becomes this one, and what others have goes on
      put : (d : Core) (y : SeatState) → d.seats ≡ set c.seats m.seat y → (m.seat ≢ 32 + k → Later k q.slots (sit k c soon) (sit k d (soon_then d))) → (m.seat ≡ 32 + k → St (sit k d (soon_then d)) y.program) → Goal d
      put d y seats far near s at = ⊎_elim
          (λ a. subst (λ (z : SeatState). St (sit k d (soon_then d)) z.program) a.1 (near (sym a.0)))
          (λ a. st_on (sit k c soon) (sit k d (soon_then d)) (far (λ e. a.0 (sym e))) s.program (before s a.1))
          (at_set c.seats m.seat (32 + k) y s (subst (λ l. get_elem? l (32 + k) ≡ some s) seats at))

      moved : (x : Program) (hand : List Home) (ws : List ℕ) (hs : List (Option Home)) → (m.seat ≡ 32 + k → (t : Sit) (rs : List Retry) → Later k q.slots (sit k c soon) t → St t (next_step (resolved rs x))) → Goal (with_seat m.seat x hand ws hs c)
      moved x hand ws hs on = put (with_seat m.seat x hand ws hs c) (record { program = next_step (resolved (waiting_at c.calls.waiting m.seat) x); hand = hand }) refl (λ _. still (with_seat m.seat x hand ws hs c) refl refl)
          (λ here. on here (sit k (with_seat m.seat x hand ws hs c) (soon_then (with_seat m.seat x hand ws hs c))) (waiting_at c.calls.waiting m.seat) (still (with_seat m.seat x hand ws hs c) refl refl))

      -- ## Aside

      -- a step of another seat takes no bytes of the link
      gave_same : (step : Step) (found : Found step) → Tied m.seat c step → m.seat ≢ 32 + k → get_or (calls_after step found c.calls).gave k [] ≡ get_or c.calls.gave k []
      gave_same (TakeBytes l room) (Bytes bytes) tied far = get_or-set_other c.calls.gave l k (get_or c.calls.gave l [] ++ bytes) [] (λ e. far (tied.0 ∙ ap (λ n. 32 + n) (sym e)))
      gave_same (TakeBytes l room) Nothing tied far = refl
      gave_same (TakeBytes l room) NoMore tied far = refl
      gave_same (TakeBytes l room) AtEnd tied far = refl
      gave_same (TakeBytes l room) Closed tied far = refl
      gave_same (TakeBytes l room) Broken tied far = refl
      gave_same _ found tied far = refl

      abbrev behind : (step : Step) → Found step → Program → Core
      behind step found x = with_seat m.seat x seat.hand c.words c.homes (record { words = c.words; homes = c.homes; seats = c.seats; outcomes = c.outcomes; calls = calls_after step found c.calls })

      abbrev after : (step : Step) → Found step → Program → Sit
      after step found x = sit k (behind step found x) (soon_then (behind step found x))

      -- the id words go on, and the bytes are these
      later : (step : Step) (found : Found step) (x : Program) → Facts q m.seat c step found → get_or (calls_after step found c.calls).gave k [] ≡ get_or c.calls.gave k [] → Later k q.slots (sit k c soon) (after step found x)
      later step found x f bytes = record { words = f.goes; soon = λ y there. in_more y soon (flat_map (soon_by c (behind step found x)) (takes_at c m)) there; bytes = bytes }

      abbrev waits' : (step : Step) → Found step → List Retry
      waits' step found = waiting_at (calls_after step found c.calls).waiting m.seat

      gave_more : (l room : ℕ) (found : Taking) → l ≡ k → l < length c.calls.gave → get_or (calls_after (TakeBytes l room) found c.calls).gave k [] ≡ get_or c.calls.gave k [] ++ bytes_in found
      gave_more l room (Bytes bytes) same low = ap (λ n. get_or (set c.calls.gave l (get_or c.calls.gave l [] ++ bytes)) n []) (sym same) ∙ (get_or-set_same c.calls.gave l (get_or c.calls.gave l [] ++ bytes) [] low ∙ ap (λ n. get_or c.calls.gave n [] ++ bytes) same)
      gave_more l room _ same low = sym (append-nil (get_or c.calls.gave k []))

      plan_same : (l room : ℕ) (found : Taking) → (calls_after (TakeBytes l room) found c.calls).plan ≡ c.calls.plan
      plan_same l room (Bytes bytes) = refl
      plan_same l room _ = refl

      own_take : (l room : ℕ) (next : Taking → Program) (found : Taking) → Facts q m.seat c (TakeBytes l room) found → m.seat ≡ 32 + k → l ≡ k → takes_at c m ≡ (record { link = l; found = found }) ∷ [] → Took k q.slots (sit k c soon) (after (TakeBytes l room) found (next found)) found
      own_take l room next found f here same takes = let d : Core = behind (TakeBytes l room) found (next found) in record {
        words = f.goes;
        soon = λ y there. in_more y soon (flat_map (soon_by c d) (takes_at c m)) there;
        bytes = gave_more l room found same f.tied.1;
        waits = λ fs eq. soon_waits k q.slots d (ap (λ (r : IdPlan). r.slots) (plan_same l room found ∙ known.plan)) (soon_then d) fs (length (frames_in (gave_in c k)))
            (λ x there. in_behind x soon (flat_map (soon_by c d) (takes_at c m)) (subst (λ ts. In x (flat_map (soon_by c d) ts)) (sym takes) (in_more x (soon_by c d (record { link = l; found = found })) []
            (subst (λ j. In x (soon_from d j (length (frames_in (gave_in c j))) (drop (length (frames_in (gave_in c j))) (frames_in (gave_in d j))))) (sym same)
            (subst (λ xs. In x (soon_from d k (length (frames_in (gave_in c k))) xs)) (sym (ap (drop (length (frames_in (gave_in c k)))) eq ∙ drop_front (frames_in (gave_in c k)) fs)) there)))));
      }

      -- the take of the tick
      takes_are : (l room : ℕ) (next : Taking → Program) (found : Taking) → taken_link seat.program ≡ l ∷ [] → found_in (TakeBytes l room) c.calls (taken m.answer) ≡ some found → takes_at c m ≡ (record { link = l; found = found }) ∷ []
      takes_are l room next found links is = ap (λ x. elim x as (λ x. List Take) [ none ↦ [] | some s ↦ takes_by c.calls m (taken_link s.program) ]) at_seat ∙ (ap (takes_by c.calls m) links
          ∙ ap (λ x. elim x as (λ x. List Take) [ none ↦ [] | some t ↦ (record { link = l; found = t }) ∷ [] ]) is)

      own_aside : (step : Step) (next : Found step → Program) (found : Found step) → Facts q m.seat c step found → (m.seat ≡ 32 + k) → Own (Aside step next) → taken_link seat.program ≡ take_of (Aside step next) → found_in step c.calls (taken m.answer) ≡ some found → St (after step found (next found)) (next_step (resolved (waits' step found) (next found)))
      own_aside (TakeBytes l room) next found f here go links is = go here (after (TakeBytes l room) found (next found)) (waits' (TakeBytes l room) found) found
          (own_take l room next found f here (let a = f.tied.0 in omega (arith, a, here)) (takes_are l room next found links is))
      own_aside step next found f here go links is = go here (after step found (next found)) (waits' step found) found (later step found (next found) f refl) f.finds

      aside_tick : (step : Step) (next : Found step → Program) → first_step seat.program ≡ Aside step next → (x : Option (Found step)) → found_in step c.calls (taken m.answer) ≡ x → Goal (with_found p m.seat seat c step x next)
      aside_tick step next first none is = stays
      aside_tick step next first (some found) is = let f = known.facts seat at_seat step next (taken m.answer) found first is in
          put (behind step found (next found)) (record { program = next_step (resolved (waits' step found) (next found)); hand = seat.hand }) refl
          (λ far. later step found (next found) f (gave_same step found f.tied far))
          (λ here. own_aside step next found f here (subst Own first own) (taken_first seat.program ∙ ap take_of first) is)

      -- ## The others

      letter_tick : (r : ℕ) (x : Option HeadedBytes) (next : HeadedBytes → Program) → (m.seat ≡ 32 + k → ⊥) → Goal (with_message p m.seat seat c r x next)
      letter_tick r none next no_ = stays
      letter_tick r (some letter) next no_ = moved (next letter) seat.hand c.words (set c.homes r none) (λ here. absurd (no_ here))

      link_tick : (j : ℕ) (x : Option (List ℕ × ℕ)) (next : ℕ → Program) → (m.seat ≡ 32 + k → ⊥) → Goal (with_link p m.seat seat c j x next)
      link_tick j none next no_ = stays
      link_tick j (some home) next no_ = moved (next home.1) (lies_at c.homes (link_place p j) ++ seat.hand) c.words (set c.homes (link_place p j) none) (λ here. absurd (no_ here))

      put_tick : (bytes : List ℕ) (answer : Answer) (next : Put → Program) → (m.seat ≡ 32 + k → ⊥) → Goal (with_put p m.seat seat c bytes answer next)
      put_tick bytes (OfPut answer) next no_ = moved (next answer) (onto_first (fed bytes answer) seat.hand) c.words c.homes (λ here. absurd (no_ here))
      put_tick bytes _ next no_ = stays

      ready_tick : (answer : Answer) (next : Ready → Program) → (m.seat ≡ 32 + k → ⊥) → Goal (with_ready p m.seat seat c answer next)
      ready_tick (OfReady answer) next no_ = moved (next answer) seat.hand c.words c.homes (λ here. absurd (no_ here))
      ready_tick _ next no_ = stays

      never : (x : Program) → first_step seat.program ≡ x → ((t : Sit) → Onward k q.slots St (sit k c soon) t [] x → ⊥) → m.seat ≡ 32 + k → ⊥
      never x first no_ here = no_ (sit k c soon) (subst Own first own here (sit k c soon) [])

      first_tick : (answer : Answer) → m.answer ≡ answer → (x : Program) → first_step seat.program ≡ x → Goal (step_with p m.seat seat c answer x)
      first_tick answer a (Do call next) first = moved (next (found_at c.words (word_of p call))) (hand_after p call c.homes seat.hand) (words_after c.words (word_of p call) (word_after call (found_at c.words (word_of p call)))) (homes_after p call seat.hand c.homes)
          (λ here t ws l. subst Own first own here t ws (found_at c.words (word_of p call)) l)
      first_tick answer a (TakeMessage r next) first = letter_tick r (message (λ (h : Home). h) c.homes r) (λ letter. next letter.0 letter.1) (never (TakeMessage r next) first (λ t x. x))
      first_tick answer a (TakeHome j next) first = link_tick j (link_home (λ (h : Home). h) p c.homes j) next (never (TakeHome j next) first (λ t x. x))
      first_tick answer a (PutHome j n then_) first = moved then_ (others_of seat.hand) c.words (set c.homes (link_place p j) (first_of (onto_first (with_places n) seat.hand))) (λ here. absurd (never (PutHome j n then_) first (λ t x. x) here))
      first_tick answer a (PutBytes j asked bytes next) first = put_tick bytes answer next (never (PutBytes j asked bytes next) first (λ t x. x))
      first_tick answer a (AskReady j next) first = ready_tick answer next (never (AskReady j next) first (λ t x. x))
      first_tick answer a (Aside step next) first = subst (λ y. Goal (with_found p m.seat seat c step (found_in step c.calls (taken y)) next)) a (aside_tick step next first (found_in step c.calls (taken m.answer)) refl)
      first_tick answer a _ first = stays

      any_tick : (x : Program) → seat.program ≡ x → Goal (tick_with p m.seat seat c m.answer x)
      any_tick (Write x next) is = first_tick m.answer refl (block x next) (ap first_step is)
      any_tick (Round head next) is = first_tick m.answer refl (round head next) (ap first_step is)
      any_tick (Do call next) is = first_tick m.answer refl (Do call next) (ap first_step is)
      any_tick (TakeMessage r next) is = first_tick m.answer refl (TakeMessage r next) (ap first_step is)
      any_tick (TakeHome j next) is = first_tick m.answer refl (TakeHome j next) (ap first_step is)
      any_tick (PutHome j n next) is = first_tick m.answer refl (PutHome j n next) (ap first_step is)
      any_tick (PutBytes j asked bytes next) is = first_tick m.answer refl (PutBytes j asked bytes next) (ap first_step is)
      any_tick (AskReady j next) is = first_tick m.answer refl (AskReady j next) (ap first_step is)
      any_tick (Aside step next) is = first_tick m.answer refl (Aside step next) (ap first_step is)
      any_tick _ is = stays

    -- it goes on with the soon frames of the tick
    pub reader_ticks : HasReader (soon ++ soon_at p c m) (ticked p c m)
    reader_ticks = by_seat (get_elem? c.seats m.seat) refl
      where
        by_seat : (x : Option SeatState) → get_elem? c.seats m.seat ≡ x → Goal (elim x as (λ o. Core) [ none ↦ c | some seat ↦ tick_with p m.seat seat c m.answer seat.program ])
        by_seat none e = stays
        by_seat (some seat) e = any_tick seat e seat.program refl
