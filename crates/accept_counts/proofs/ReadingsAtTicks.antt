-- A tick of a run keeps what is said of the reader of a link: it writes none, takes bytes of its own link alone, and sets its socket failed only where its reading ended.
use Rattle.std.proofs.Common.{◌≡◌, ◌≢◌, ℕ, ◌+◌, ◌-◌, ◌<◌, ◌==◌, Bool, true, false, cond, eqb-true, eq-eqb, List, [], ◌∷◌, ◌++◌, length, map, filter, get_or, set, append-nil, inl, inr, ⊎_elim, ◌⊎◌, refl, sym, ap, ◌∙◌, subst, arith}
use Rattle.std.proofs.lemmas.Bool.{true≢false}
use mathlib.Core.Logic.{dite}
use mathlib.Core.Option.{Option, none, some, some-injective, some-ne-none}
use native.Mathlib.Decide.{ℕ_discrete}
use lib.ListN.{get_elem?}
use Rattle.atomic_table.proofs.Lists.{at_set}
use Rattle.sock_words.specs.PackedWords.{socket_id_version, socket_id_slot, vref_version, NO_SOCKET}
use Rattle.sock_words.specs.declared.plain.Plan.{Plan}
use Rattle.sock_model.specs.declared.marks.Mark.TheVariants.{Hold, Saw}
use Rattle.sock_model.specs.declared.view.View.{View}
use Rattle.sock_model.specs.declared.view.Hand.{Hand}
use Rattle.sock_model.specs.SocketTableLayout.{open_index}
use Rattle.sock_model.specs.Marks.{about, at}
use Rattle.sock_model.specs.SlotRows.{marks_of, added, looked}
use Rattle.sock_model.specs.MarkWeights.{only, is_hold}
use Rattle.corr_core.specs.IdSlotWord.{parts}
use Rattle.corr_core.specs.EndedByRangeOrAttempt.{ends_call}
use Rattle.call_causes.specs.Below.programs_allowed.specs.slot_steps.proofs.RuleNumbers.{only-same}
use Rattle.call_causes.specs.Below.programs_allowed.specs.slot_steps.proofs.SlotWeightSums.{about-here}
use Rattle.run_theorems.specs.Below.sock_steps.proofs.SumsAsMarksChange.{either_way}
use Rattle.seat_programs.specs.Asides.{Step, Found, TakeBytes, Taking, Bytes, Nothing, NoMore, AtEnd, Closed, Broken}
use Rattle.seat_programs.specs.FoundAndChangedAside.{at_last, found_in, calls_after}
use Rattle.seat_programs.specs.TableSteps.{TableStep, OnSlot, OnName, OnChain, OnPlace, AddRef, LoadOpen, LookWord, SwapHead, EmptyHead, ReadNext, ReverseNext, FreeRequest, StorePlace, DropPlace}
use Rattle.seat_programs.specs.LoopHeads.{Retry, Decides, Locks, Reads, Discards}
use Rattle.seat_programs.specs.Programs.{Program, Do, Say, Sent, Rest, TakeMessage, TakeHome, PutHome, PutBytes, AskReady, Write, Aside, Round, Keep, Retries}
use Rattle.seat_programs.specs.ReaderProgram.{room_of, took, discarded, read, reader}
use Rattle.seat_programs.specs.Cores.{Core, SeatState, found_at, resolved, next_step, waiting_at, with_seat}
use Rattle.seat_programs.specs.StepTables.{word_of}
use Rattle.seat_programs.specs.Ticks.{Answer, Moment, IsAnswer, IsAnswered, IsTaken, FitsTake, taken, with_found, step_with, tick_with, ticked}
use Rattle.seat_programs.specs.StepTables.{row}
use Rattle.seat_programs.specs.StepsOfNames.{found_id}
use Rattle.seat_programs.specs.StepViews.{by_right}
use Rattle.seat_programs.specs.StepsOfSlots.{looked_clean}
use Rattle.outcome_causes.specs.program_steps.specs.SoundSeats.{Sound, IsFitting, views_with, views_of, views_after}
use Rattle.outcome_causes.specs.program_steps.proofs.Leaves.{rights_stay}
use Rattle.outcome_causes.specs.sock_runs.proofs.LinkTicks.{RetriesGo}
use Rattle.outcome_causes.specs.program_walks.proofs.Recorded.{Recorded}
use Rattle.outcome_causes.specs.program_walks.proofs.OpensStay.{run_word}
use Rattle.outcome_causes.specs.program_steps.proofs.TickCases.{beside, tick_keeps_marks, tick_cases, ticks_first, views_first}
use Rattle.run_theorems.specs.Heard.{taken_link, taken_at, as_taken}
use Rattle.accept_counts.proofs.Closers.{Ends, Calm, IsCalmCall, IsNoTake, calm_first, calm_next, begins_calm, calm_step, calm_aside}
use Rattle.seat_programs.specs.LoopRounds.{first_step}
use Rattle.sock_words.specs.Totals.{total}

-- ## Rights

-- no step but an exchange gives a seat without a right one
pub rights_none : (p : Plan) (v : View) (found : ℕ) (hand : Hand) (call : TableStep) → ((i own : ℕ) → call ≡ OnChain (SwapHead i own) → ⊥) → v.rights ≡ [] → (row p call found hand v).rights ≡ []
rights_none p v found hand (OnSlot (LookWord id)) no_ e = subst (λ l. (by_right l (looked_clean (socket_id_slot id) found v) (looked (socket_id_slot id) found v)).rights ≡ []) (sym e) e
rights_none p v found hand (OnChain (SwapHead i own)) no_ e = absurd (no_ i own refl)
rights_none p v found hand (OnChain (EmptyHead i last)) no_ e = subst (λ l. (by_right l (Rattle.seat_programs.specs.StepsOfChain.emptied last found v) v).rights ≡ []) (sym e) e
rights_none p v found hand (OnChain (ReadNext q)) no_ e = subst (λ l. (by_right l (λ r. Rattle.seat_programs.specs.StepsOfChain.read_next found v r r.stage) v).rights ≡ []) (sym e) e
rights_none p v found hand (OnChain (ReverseNext q value)) no_ e = subst (λ l. (by_right l (λ r. Rattle.seat_programs.specs.StepsOfChain.turned_next v r r.stage) v).rights ≡ []) (sym e) e
rights_none p v found hand (OnChain (FreeRequest q g)) no_ e = subst (λ l. (by_right l (Rattle.seat_programs.specs.StepsOfChain.freed_next v) v).rights ≡ []) (sym e) e
rights_none p v found hand (OnPlace (StorePlace l k n)) no_ e = subst (λ xs. (by_right xs (λ r. Rattle.seat_programs.specs.StepsOfPlaces.placed_next v r r.stage) v).rights ≡ []) (sym e) e
rights_none p v found hand (OnPlace (DropPlace l k n)) no_ e = subst (λ xs. (by_right xs (λ r. Rattle.seat_programs.specs.StepsOfPlaces.dropped_next v r r.stage) v).rights ≡ []) (sym e) e
rights_none p v found hand call no_ e = rights_stay p v found hand call refl ∙ e

-- who gets a reference to a life holds it
holds_added : (i h found : ℕ) (v : View) → vref_version found ≡ h → (b : Bool) → b ≡ true → 0 < marks_of (is_hold h) i (added i found b v)
holds_added i h found v is true e = let w : ℕ = vref_version found in
    let a : total (is_hold h) (about i (at i (Hold w) ∷ at i (Saw w) ∷ v.marks)) ≡ only h w + total (is_hold h) (about i (at i (Saw w) ∷ v.marks)) = ap (total (is_hold h)) (about-here i (Hold w) (at i (Saw w) ∷ v.marks)) in
    let one : only h w ≡ 1 = ap (only h) is ∙ only-same h in omega (arith, a, one)
holds_added i h found v is false e = absurd (true≢false (sym e))

-- ## What a program takes

-- its next step takes no bytes, or so many of this link at most
pub record IsTake (program : Program) : Type 0 where
  pub link : ℕ
  pub room : ℕ
  pub next : Taking → Program
  pub first : first_step program ≡ Aside (TakeBytes link room) next
  pub takes : taken_link program ≡ link ∷ []
  pub answers : (a : Answer) → IsAnswer program a → IsTaken room a

pub takes_or_not : (program : Program) → (taken_link program ≡ []) ⊎ IsTake program
takes_or_not (Aside (TakeBytes k room) next) = inr record { link = k; room = room; next = next; first = refl; takes = refl; answers = λ a x. x }
takes_or_not (Round (Reads r) next) = inr record { link = r.link; room = room_of r.total; next = took r next; first = refl; takes = refl; answers = λ a x. x }
takes_or_not (Round (Discards k total) next) = inr record { link = k; room = room_of total; next = discarded k total next; first = refl; takes = refl; answers = λ a x. x }
takes_or_not _ = inl refl

-- a step that isn't a take of bytes
abbrev IsOther : Program → Type 0
IsOther (Aside (TakeBytes k room) next) = ⊥
IsOther other = Unit {0}

no_link : (k : ℕ) → k ∷ [] ≡ [] → ⊥
no_link k e = cc

other_first : (program : Program) → taken_link program ≡ [] → IsOther (first_step program)
other_first (Aside (TakeBytes k room) next) none_ = absurd (no_link k none_)
other_first (Round (Reads r) next) none_ = absurd (no_link r.link none_)
other_first (Round (Discards k total) next) none_ = absurd (no_link k none_)
other_first (Round (Decides id asked w e) next) none_ = either_way (ends_call (parts w) e) _ _ IsOther tt tt
other_first (Round (Locks i sought (Rattle.std.specs.Prelude.Some w)) next) none_ = tt
other_first (Round (Locks i sought Rattle.std.specs.Prelude.None) next) none_ = tt
other_first (Write (Rattle.seat_programs.specs.Writings.Puts h now heading left took put) after) none_ = tt
other_first (Write (Rattle.seat_programs.specs.Writings.Waits h now heading left took) after) none_ = tt
other_first (Write (Rattle.seat_programs.specs.Writings.Empties h) after) none_ = tt
other_first (Write (Rattle.seat_programs.specs.Writings.Reversing h top at after) then_) none_ = tt
other_first _ none_ = tt

other_step : (s : Step) (next : Found s → Program) → IsOther (Aside s next) → (k id : ℕ) (Odd : List Taking → Type 0) (Lasts : Type 0) → IsNoTake k id Odd Lasts s
other_step (TakeBytes k room) next x l id Odd Lasts = absurd x
other_step s next x l id Odd Lasts = tt

-- ## Readers

-- what takes of link n found in a tick
abbrev pub found_by : Core → Moment → ℕ → List Taking
found_by c m n = map (at_last c.calls.ending) (as_taken (taken_at c m n))

module _ (p : Plan) (calls : List ℕ) (n o : ℕ) (inside : o < p.operations) (Odd : List Taking → Type 0) (Lasts : Type 0) (ends : (id : ℕ) → Ends n id Odd Lasts) where
  -- the word of the `open` is w, and the reader is at work on its socket
  pub record IsAt (w : ℕ) (h : List Taking) (program : Program) (v : View) : Type 0 where
    pub id : ℕ
    pub word : w ≡ id + 1
    pub socket : w ≢ NO_SOCKET
    pub held : Bool
    pub calm : Calm n id Odd Lasts held h program
    pub has : held ≡ true → 0 < marks_of (is_hold (socket_id_version id)) (socket_id_slot id) v

  -- it waits for its `open`, or is done, or is at work
  abbrev pub State : ℕ → List Taking → Program → View → Type 0
  State w h program v = (v.rights ≡ []) × (((program ≡ reader calls n o) × (h ≡ [])) ⊎ (((program ≡ Rest) × (w ≡ NO_SOCKET)) ⊎ IsAt w h program v))

  abbrev pub Word : Core → ℕ
  Word c = get_or c.words (open_index p o) 0

  abbrev pub HasReader : List Taking → Core → List View → Type 0
  HasReader h c vs = (seat : SeatState) (v : View) → get_elem? c.seats (32 + n) ≡ some seat → get_elem? vs (32 + n) ≡ some v → State (Word c) h seat.program v

  abbrev behind : ℕ → Program
  behind word = cond (word == NO_SOCKET) Rest (Round (Reads (record { ids = length calls; link = n; id = word - 1; rest = []; total = 0; kept = [] })) (read calls))

  abbrev first : ℕ → Program
  first word = cond (word == 0) (reader calls n o) (behind word)

  load_is : (call : TableStep) (next : ℕ → Program) → first_step (reader calls n o) ≡ Do call next → (call ≡ OnName (LoadOpen o)) × (next ≡ first)
  load_is call next is = let x : Do (OnName (LoadOpen o)) first ≡ Do call next = is in (cc, cc)

  -- a reader is at no other steps
  abbrev Steady : Program → Type 0
  Steady (Do call next) = Unit {0}
  Steady (Aside s next) = Unit {0}
  Steady Rest = Unit {0}
  Steady (Say o outcome next) = Unit {0}
  Steady (Sent o next) = Unit {0}
  Steady (Keep r next) = Unit {0}
  Steady (Round head next) = Unit {0}
  Steady other = ⊥

  calm_steady : (id : ℕ) (held : Bool) (h : List Taking) (program : Program) → Calm n id Odd Lasts held h program → Steady program
  calm_steady id held h (TakeMessage q next) x = absurd x
  calm_steady id held h (TakeHome k next) x = absurd x
  calm_steady id held h (PutHome k m after) x = absurd x
  calm_steady id held h (PutBytes k asked bytes next) x = absurd x
  calm_steady id held h (AskReady k next) x = absurd x
  calm_steady id held h (Write w after) x = absurd x
  calm_steady id held h (Retries requests after) x = absurd x
  calm_steady id held h _ x = tt

  steady : (w : ℕ) (h : List Taking) (program : Program) (v : View) → State w h program v → Steady (first_step program)
  steady w h program v (r, inl x) = subst (λ y. Steady (first_step y)) (sym x.0) tt
  steady w h program v (r, inr (inl x)) = subst (λ y. Steady (first_step y)) (sym x.0) tt
  steady w h program v (r, inr (inr x)) = calm_steady x.id x.held h (first_step program) (calm_first n x.id Odd Lasts (ends x.id) x.held h program x.calm)

  -- ## Its own steps

  -- on a word
  own_call : (h : List Taking) (c : Core) (program : Program) (v : View) (ws : List Retry) (hand : Hand) → State (Word c) h program v → (call : TableStep) (next : ℕ → Program) → first_step program ≡ Do call next
      → State (Word c) h (next_step (resolved ws (next (found_at c.words (word_of p call))))) (row p call (found_at c.words (word_of p call)) hand v)
  own_call h c program v ws hand (r, inl x) call next is = let y = load_is call next (sym (ap first_step x.0) ∙ is) in
      subst (λ d. State (Word c) h (next_step (resolved ws (next (found_at c.words (word_of p d))))) (row p d (found_at c.words (word_of p d)) hand v)) (sym y.0)
      (subst (λ f. State (Word c) h (next_step (resolved ws (f (Word c)))) (found_id (Word c) v)) (sym y.1) (by_word (Word c == 0) refl))
    where
      rights : (found_id (Word c) v).rights ≡ []
      rights = rights_none p v (Word c) hand (OnName (LoadOpen o)) (λ i own e. cc) r

      by_socket : Word c ≢ 0 → (b : Bool) → (Word c == NO_SOCKET) ≡ b → State (Word c) h (next_step (resolved ws (cond b Rest (Round (Reads (record { ids = length calls; link = n; id = Word c - 1; rest = []; total = 0; kept = [] })) (read calls))))) (found_id (Word c) v)
      by_socket some_ true e = (rights, inr (inl (refl, eqb-true (Word c) NO_SOCKET e)))
      by_socket some_ false e = (
        rights,
        inr (inr record {
          id = Word c - 1;
          word = omega (arith, some_);
          socket = λ z. true≢false (sym (eq-eqb (Word c) NO_SOCKET z) ∙ e);
          held = false;
          calm = subst (λ g. Calm n (Word c - 1) Odd Lasts false g (Round (Reads (record { ids = length calls; link = n; id = Word c - 1; rest = []; total = 0; kept = [] })) (read calls))) (sym x.1) (begins_calm n (Word c - 1) Odd Lasts (ends (Word c - 1)) calls);
          has = λ z. absurd (true≢false (sym z));
        }),
      )

      by_word : (b : Bool) → (Word c == 0) ≡ b → State (Word c) h (next_step (resolved ws (cond b (reader calls n o) (behind (Word c))))) (found_id (Word c) v)
      by_word true e = (rights, inl (refl, x.1))
      by_word false e = by_socket (λ z. true≢false (sym (eq-eqb (Word c) 0 z) ∙ e)) (Word c == NO_SOCKET) refl
  own_call h c program v ws hand (r, inr (inl x)) call next is = absurd (let y : Rest ≡ Do call next = sym (ap first_step x.0) ∙ is in cc)
  own_call h c program v ws hand (r, inr (inr x)) call next is =
      let found : ℕ = found_at c.words (word_of p call) in
      let y = calm_step n x.id Odd Lasts x.held h call next (subst (Calm n x.id Odd Lasts x.held h) is (calm_first n x.id Odd Lasts (ends x.id) x.held h program x.calm)) in
      let b = y.1 (found_at c.words (word_of p call)) in (
        rights_none p v (found_at c.words (word_of p call)) hand call (λ i own e. subst (IsCalmCall n x.id Odd Lasts) e y.0) r,
        inr (inr record {
          id = x.id;
          word = x.word;
          socket = x.socket;
          held = b.held;
          calm = calm_next n x.id Odd Lasts b.held h ws (next (found_at c.words (word_of p call))) b.calm;
          has = λ e. got call (b.got e).0 (b.got e).1;
        }),
      )
    where
      got : (d : TableStep) → d ≡ OnSlot (AddRef x.id) → ((vref_version (found_at c.words (word_of p d)) == socket_id_version x.id) ≡ true) → 0 < marks_of (is_hold (socket_id_version x.id)) (socket_id_slot x.id) (row p d (found_at c.words (word_of p d)) hand v)
      got d e z = subst (λ d. 0 < marks_of (is_hold (socket_id_version x.id)) (socket_id_slot x.id) (row p d (found_at c.words (word_of p d)) hand v)) (sym e)
          (let z' = subst (λ d. (vref_version (found_at c.words (word_of p d)) == socket_id_version x.id) ≡ true) e z in
          holds_added (socket_id_slot x.id) (socket_id_version x.id) (found_at c.words (word_of p (OnSlot (AddRef x.id)))) v (eqb-true (vref_version (found_at c.words (word_of p (OnSlot (AddRef x.id))))) (socket_id_version x.id) z')
          (vref_version (found_at c.words (word_of p (OnSlot (AddRef x.id)))) == socket_id_version x.id) z')

  -- aside, where it takes no bytes
  own_aside : (w : ℕ) (h : List Taking) (program : Program) (v : View) (ws : List Retry) → State w h program v → taken_link program ≡ [] → (s : Step) (next : Found s → Program) (found : Found s) → first_step program ≡ Aside s next
      → State w h (next_step (resolved ws (next found))) v
  own_aside w h program v ws (r, inl x) none_ s next found is = absurd (let y : Do (OnName (LoadOpen o)) first ≡ Aside s next = sym (ap first_step x.0) ∙ is in cc)
  own_aside w h program v ws (r, inr (inl x)) none_ s next found is = absurd (let y : Rest ≡ Aside s next = sym (ap first_step x.0) ∙ is in cc)
  own_aside w h program v ws (r, inr (inr x)) none_ s next found is = (
    r,
    inr (inr record {
      id = x.id;
      word = x.word;
      socket = x.socket;
      held = false;
      calm = calm_next n x.id Odd Lasts false h ws (next found) (calm_aside n x.id Odd Lasts x.held h s next (other_step s next (subst IsOther is (other_first program none_)) n x.id Odd Lasts)
          (subst (Calm n x.id Odd Lasts x.held h) is (calm_first n x.id Odd Lasts (ends x.id) x.held h program x.calm)) found);
      has = λ z. absurd (true≢false (sym z));
    }),
  )

  -- and where it takes some
  own_take : (w : ℕ) (h : List Taking) (program : Program) (v : View) (ws : List Retry) → State w h program v → (l room : ℕ) (next : Taking → Program) → first_step program ≡ Aside (TakeBytes l room) next → (t : Taking) → (t ≡ NoMore → Lasts)
      → (l ≡ n) × State w (h ++ t ∷ []) (next_step (resolved ws (next t))) v
  own_take w h program v ws (r, inl x) l room next is t some_ = absurd (let y : Do (OnName (LoadOpen o)) first ≡ Aside (TakeBytes l room) next = sym (ap first_step x.0) ∙ is in cc)
  own_take w h program v ws (r, inr (inl x)) l room next is t some_ = absurd (let y : Rest ≡ Aside (TakeBytes l room) next = sym (ap first_step x.0) ∙ is in cc)
  own_take w h program v ws (r, inr (inr x)) l room next is t some_ = let y : Calm n x.id Odd Lasts x.held h (Aside (TakeBytes l room) next) = subst (Calm n x.id Odd Lasts x.held h) is (calm_first n x.id Odd Lasts (ends x.id) x.held h program x.calm) in (
    y.0,
    (r, inr (inr record { id = x.id; word = x.word; socket = x.socket; held = false; calm = calm_next n x.id Odd Lasts false (h ++ t ∷ []) ws (next t) (y.1 t some_); has = λ z. absurd (true≢false (sym z)) })),
  )

  -- it takes bytes of its own link alone
  pub takes_own : (w : ℕ) (h : List Taking) (program : Program) (v : View) → State w h program v → (taken_link program ≡ []) ⊎ ((l : ℕ) × (taken_link program ≡ l ∷ []) × (l ≡ n))
  takes_own w h program v s = ⊎_elim (λ e. inl e) (λ t. inr (t.link, t.takes, (own_take w h program v [] s t.link t.room t.next t.first Nothing (λ e. absurd (nothing_more e))).0)) (takes_or_not program)
    where
      nothing_more : Nothing ≡ NoMore → ⊥
      nothing_more e = cc

  -- ## A tick

  -- the word of its `open` stays once it is there
  on_word : (w w' : ℕ) (h : List Taking) (program : Program) (v : View) → (w ≢ 0 → w' ≡ w) → State w h program v → State w' h program v
  on_word w w' h program v stays (r, inl x) = (r, inl x)
  on_word w w' h program v stays (r, inr (inl x)) = (r, inr (inl (x.0, stays (λ z. (let e = x.1 in omega (arith, e, z))) ∙ x.1)))
  on_word w w' h program v stays (r, inr (inr x)) = let same : w' ≡ w = stays (λ z. (let e = x.word in omega (arith, e, z))) in
      (r, inr (inr record { id = x.id; word = same ∙ x.word; socket = λ z. x.socket (sym same ∙ z); held = x.held; calm = x.calm; has = x.has }))

  module _ (Q : ℕ → ℕ → Type 0) (go : RetriesGo p) (h : List Taking) (c : Core) (vs : List View) (m : Moment) (sound : Sound p c vs) (answered : IsAnswered c m) (fitting : IsFitting p c m) (recorded : Recorded p Q c vs) (before : HasReader h c vs) where
    -- with the word as it was
    abbrev Old : List Taking → Core → List View → Type 0
    Old g d ws = (seat : SeatState) (v : View) → get_elem? d.seats (32 + n) ≡ some seat → get_elem? ws (32 + n) ≡ some v → State (Word c) g seat.program v

    word_stays : Word c ≢ 0 → Word (ticked p c m) ≡ Word c
    word_stays some_ = run_word p Q o inside go c vs (m ∷ []) sound (answered, tt) (fitting, tt) recorded some_

    -- of another seat
    other_tick : (m.seat ≡ 32 + n → ⊥) → Old h (ticked p c m) (views_after p c vs m)
    other_tick far = tick_keeps_marks p c vs m sound answered fitting (Old h) before
        (λ seat v call next at_seat at_view is goes s u at at_u. ⊎_elim (λ a. absurd (far (sym a.0))) (λ a. ⊎_elim (λ b. absurd (far (sym b.0))) (λ b. before s u a.1 b.1) (at_set vs m.seat (32 + n) _ u at_u)) (at_set c.seats m.seat (32 + n) _ s at))
        (λ seat v program rights hand hs a at_seat at_view comes s u at at_u. ⊎_elim (λ a. absurd (far (sym a.0))) (λ a. ⊎_elim (λ b. absurd (far (sym b.0))) (λ b. before s u a.1 b.1) (at_set vs m.seat (32 + n) _ u at_u)) (at_set c.seats m.seat (32 + n) _ s at))

    -- its own, where it takes no bytes
    module _ (own : m.seat ≡ 32 + n) (none_ : (seat : SeatState) → get_elem? c.seats m.seat ≡ some seat → taken_link seat.program ≡ []) where
      state_of : (seat : SeatState) (v : View) → get_elem? c.seats m.seat ≡ some seat → get_elem? vs m.seat ≡ some v → State (Word c) h seat.program v
      state_of seat v at at_view = before seat v (sym (ap (get_elem? c.seats) own) ∙ at) (sym (ap (get_elem? vs) own) ∙ at_view)

      never : (seat : SeatState) (v : View) (program : Program) → get_elem? c.seats m.seat ≡ some seat → get_elem? vs m.seat ≡ some v → first_step seat.program ≡ program → Steady program
      never seat v program at at_view is = subst Steady is (steady (Word c) h seat.program v (state_of seat v at at_view))

      -- where the view stays, or becomes this
      set_both : (x : SeatState) (w : View) → State (Word c) h x.program w → (seat : SeatState) (u : View) → get_elem? (set c.seats m.seat x) (32 + n) ≡ some seat → get_elem? (set vs m.seat w) (32 + n) ≡ some u → State (Word c) h seat.program u
      set_both x w s seat u at at_u = ⊎_elim
          (λ a. ⊎_elim (λ b. subst (λ y. State (Word c) h seat.program y) b.1 (subst (λ (y : SeatState). State (Word c) h y.program w) a.1 s)) (λ b. absurd (b.0 (sym own))) (at_set vs m.seat (32 + n) w u at_u))
          (λ a. absurd (a.0 (sym own))) (at_set c.seats m.seat (32 + n) x seat at)

      set_seat : (x : SeatState) (v : View) → get_elem? vs m.seat ≡ some v → State (Word c) h x.program v → (seat : SeatState) (u : View) → get_elem? (set c.seats m.seat x) (32 + n) ≡ some seat → get_elem? vs (32 + n) ≡ some u → State (Word c) h seat.program u
      set_seat x v at_view s seat u at at_u = ⊎_elim
          (λ a. subst (λ y. State (Word c) h seat.program y) (some-injective v u (sym at_view ∙ (ap (get_elem? vs) own ∙ at_u))) (subst (λ (y : SeatState). State (Word c) h y.program v) a.1 s))
          (λ a. absurd (a.0 (sym own))) (at_set c.seats m.seat (32 + n) x seat at)

      quiet_tick : Old h (ticked p c m) (views_after p c vs m)
      quiet_tick = tick_cases p c vs m sound answered (Old h) before
          (λ seat v call next at here is goes. set_both _ _ (own_call h c seat.program v (waiting_at c.calls.waiting m.seat) _ (state_of seat v at here) call next is))
          (λ seat v q next heading bytes at here is goes lies. absurd (never seat v (TakeMessage q next) at here is))
          (λ seat v k next took x at here is goes lies. absurd (never seat v (TakeHome k next) at here is))
          (λ seat v k x after at here is goes. absurd (never seat v (PutHome k x after) at here is))
          (λ seat v k asked bytes next answer at here is goes a f. absurd (never seat v (PutBytes k asked bytes next) at here is))
          (λ seat v k next answer at here is goes a. absurd (never seat v (AskReady k next) at here is))
          (λ seat v s next found at here is goes found_is. set_seat _ v here (own_aside (Word c) h seat.program v _ (state_of seat v at here) (none_ seat at) s next found is))

    -- where it takes some
    module _ (own : m.seat ≡ 32 + n) (lasting : c.calls.ending ≡ true → Lasts) (seat : SeatState) (at : get_elem? c.seats m.seat ≡ some seat) (t : IsTake seat.program) where
      abbrev told : IsTaken t.room m.answer
      told = t.answers m.answer (answered seat at)

      abbrev got : Taking
      got = at_last c.calls.ending told.0

      abbrev seat' : SeatState
      seat' = record { program = next_step (resolved (waiting_at (calls_after (TakeBytes t.link t.room) got c.calls).waiting m.seat) (t.next got)); hand = seat.hand }

      after : ticked p c m ≡ with_seat m.seat (t.next got) seat.hand c.words c.homes (record c { calls = calls_after (TakeBytes t.link t.room) got c.calls })
      after = ap (λ x. elim x as (λ x. Core) [ none ↦ c | some s ↦ tick_with p m.seat s c m.answer s.program ]) at ∙ (ticks_first p m.seat seat c m.answer seat.program ∙ (ap (step_with p m.seat seat c m.answer) t.first
          ∙ ap (λ a. with_found p m.seat seat c (TakeBytes t.link t.room) (found_in (TakeBytes t.link t.room) c.calls (taken a)) t.next) told.1))

      views_stay : (v : View) → get_elem? vs m.seat ≡ some v → views_after p c vs m ≡ vs
      views_stay v at_view = ap (λ x. elim x as (λ x. List View) [ none ↦ vs | some s ↦ elim (get_elem? vs m.seat) as (λ o. List View) [ none ↦ vs | some v ↦ views_of p m.seat c vs v m.answer s.program ] ]) at
          ∙ (ap (λ x. elim x as (λ o. List View) [ none ↦ vs | some v ↦ views_of p m.seat c vs v m.answer seat.program ]) at_view
          ∙ (views_first p m.seat c vs v m.answer seat.program ∙ ap (views_with p m.seat c vs v m.answer) t.first))

      -- that nothing more comes is found while the run is ending
      not_yet : got ≡ NoMore → Lasts
      not_yet e = by told.0 told.2 c.calls.ending refl e
        where
          by : (x : Taking) → FitsTake t.room x → (b : Bool) → c.calls.ending ≡ b → at_last b x ≡ NoMore → Lasts
          by x fits true is e = lasting is
          by (Bytes bytes) fits false is e = absurd (let z : Bytes bytes ≡ NoMore = e in cc)
          by Nothing fits false is e = absurd (let z : Nothing ≡ NoMore = e in cc)
          by NoMore fits false is e = absurd fits
          by AtEnd fits false is e = absurd (let z : AtEnd ≡ NoMore = e in cc)
          by Closed fits false is e = absurd (let z : Closed ≡ NoMore = e in cc)
          by Broken fits false is e = absurd (let z : Broken ≡ NoMore = e in cc)

      took_tick : (v : View) → get_elem? vs m.seat ≡ some v → (t.link ≡ n) × Old (h ++ got ∷ []) (ticked p c m) (views_after p c vs m)
      took_tick v at_view = let s = own_take (Word c) h seat.program v (waiting_at (calls_after (TakeBytes t.link t.room) got c.calls).waiting m.seat) (before seat v (sym (ap (get_elem? c.seats) own) ∙ at) (sym (ap (get_elem? vs) own) ∙ at_view)) t.link t.room t.next t.first got not_yet in (
        s.0,
        subst (λ d. Old (h ++ got ∷ []) d (views_after p c vs m)) (sym after) (subst (Old (h ++ got ∷ []) (with_seat m.seat (t.next got) seat.hand c.words c.homes (record c { calls = calls_after (TakeBytes t.link t.room) got c.calls }))) (sym (views_stay v at_view))
            (λ x u at_x at_u. ⊎_elim
            (λ a. subst (λ y. State (Word c) (h ++ got ∷ []) x.program y) (some-injective v u (sym at_view ∙ (ap (get_elem? vs) own ∙ at_u))) (subst (λ (y : SeatState). State (Word c) (h ++ got ∷ []) y.program v) a.1 s.1))
            (λ a. absurd (a.0 (sym own))) (at_set c.seats m.seat (32 + n) seat' x at_x))),
      )

    -- ## Any tick

    -- of a seat that takes nothing of this link
    found_none : (seat : SeatState) → get_elem? c.seats m.seat ≡ some seat → filter (λ j. j == n) (taken_link seat.program) ≡ [] → h ++ found_by c m n ≡ h
    found_none seat at none_ = ap (λ x. h ++ map (at_last c.calls.ending) (as_taken (elim x as (λ o. List Answer) [ none ↦ [] | some s ↦ map (λ (k : ℕ). m.answer) (filter (λ j. j == n) (taken_link s.program)) ]))) at
        ∙ (ap (λ l. h ++ map (at_last c.calls.ending) (as_taken (map (λ (k : ℕ). m.answer) l))) none_ ∙ append-nil h)

    found_nobody : get_elem? c.seats m.seat ≡ none → h ++ found_by c m n ≡ h
    found_nobody at = ap (λ x. h ++ map (at_last c.calls.ending) (as_taken (elim x as (λ o. List Answer) [ none ↦ [] | some s ↦ map (λ (k : ℕ). m.answer) (filter (λ j. j == n) (taken_link s.program)) ]))) at ∙ append-nil h

    found_some : (seat : SeatState) → get_elem? c.seats m.seat ≡ some seat → (t : IsTake seat.program) → t.link ≡ n → (told : IsTaken t.room m.answer) → found_by c m n ≡ at_last c.calls.ending told.0 ∷ []
    found_some seat at t own told = ap (λ x. map (at_last c.calls.ending) (as_taken (elim x as (λ o. List Answer) [ none ↦ [] | some s ↦ map (λ (k : ℕ). m.answer) (filter (λ j. j == n) (taken_link s.program)) ]))) at
        ∙ (ap (λ l. map (at_last c.calls.ending) (as_taken (map (λ (k : ℕ). m.answer) (filter (λ j. j == n) l)))) t.takes
        ∙ (ap (λ b. map (at_last c.calls.ending) (as_taken (map (λ (k : ℕ). m.answer) (cond b (t.link ∷ []) [])))) (eq-eqb t.link n own)
        ∙ ap (λ a. map (at_last c.calls.ending) (as_taken (a ∷ []))) told.1))

    -- no other seat takes bytes of the link
    pub reader_ticks : (c.calls.ending ≡ true → Lasts) → ((seat : SeatState) → get_elem? c.seats m.seat ≡ some seat → m.seat ≢ 32 + n → filter (λ j. j == n) (taken_link seat.program) ≡ []) → HasReader (h ++ found_by c m n) (ticked p c m) (views_after p c vs m)
    reader_ticks lasting others = λ s u at at_u. on_word (Word c) (Word (ticked p c m)) (h ++ found_by c m n) s.program u word_stays (dite (ℕ_discrete m.seat (32 + n)) (λ own. near own (get_elem? c.seats m.seat) refl) (λ apart. far apart (get_elem? c.seats m.seat) refl) s u at at_u)
      where
        by_take : (own : m.seat ≡ 32 + n) (seat : SeatState) → get_elem? c.seats m.seat ≡ some seat → (taken_link seat.program ≡ []) ⊎ IsTake seat.program → Old (h ++ found_by c m n) (ticked p c m) (views_after p c vs m)
        by_take own seat at (inl none_) = subst (λ g. Old g (ticked p c m) (views_after p c vs m)) (sym (found_none seat at (ap (filter (λ j. j == n)) none_)))
            (quiet_tick own (λ x at_x. ap (λ (y : SeatState). taken_link y.program) (some-injective x seat (sym at_x ∙ at)) ∙ none_))
        by_take own seat at (inr t) = by_view (get_elem? vs m.seat) refl
          where
            by_view : (x : Option View) → get_elem? vs m.seat ≡ x → Old (h ++ found_by c m n) (ticked p c m) (views_after p c vs m)
            by_view none e = absurd (beside c.seats vs m.seat seat sound.each at e)
            by_view (some v) e = let y = took_tick own lasting seat at t v e in subst (λ l. Old (h ++ l) (ticked p c m) (views_after p c vs m)) (sym (found_some seat at t y.0 (t.answers m.answer (answered seat at)))) y.1

        near : m.seat ≡ 32 + n → (x : Option SeatState) → get_elem? c.seats m.seat ≡ x → Old (h ++ found_by c m n) (ticked p c m) (views_after p c vs m)
        near own none e = subst (λ g. Old g (ticked p c m) (views_after p c vs m)) (sym (found_nobody e)) (quiet_tick own (λ x at_x. absurd (some-ne-none x (sym at_x ∙ e))))
        near own (some seat) e = by_take own seat e (takes_or_not seat.program)

        far : m.seat ≢ 32 + n → (x : Option SeatState) → get_elem? c.seats m.seat ≡ x → Old (h ++ found_by c m n) (ticked p c m) (views_after p c vs m)
        far apart none e = subst (λ g. Old g (ticked p c m) (views_after p c vs m)) (sym (found_nobody e)) (other_tick apart)
        far apart (some seat) e = subst (λ g. Old g (ticked p c m) (views_after p c vs m)) (sym (found_none seat e (others seat e apart))) (other_tick apart)
