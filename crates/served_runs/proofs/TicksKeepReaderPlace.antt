-- A tick keeps where the reader of a link stands, by what the link gave.
use Rattle.std.proofs.Common.{◌≡◌, ◌≢◌, ℕ, ◌+◌, ◌-◌, ◌<◌, ◌==◌, eq-eqb, eqb-true, ◌||◌, Bool, true, false, cond, List, [], ◌∷◌, ◌++◌, length, filter, set, get_or, get_or-set_same, get_or-set_other, append-nil, ◌⊎◌, inl, inr, ⊎_elim, refl, sym, ap, ◌∙◌, subst, arith}
use mathlib.Core.Option.{Option, none, some}
use lib.ListN.{get_elem?}
use Rattle.atomic_table.proofs.Lists.{at_set}
use Rattle.sock_words.specs.declared.plain.Plan.{Plan}
use Rattle.sock_io.specs.declared.link.Put.{Put}
use Rattle.sock_io.specs.declared.link.Ready.{Ready}
use Rattle.sock_model.specs.SocketTableLayout.{open_index}
use Rattle.sock_model.specs.UnplacedMessages.{HeadedBytes}
use Rattle.sock_model.specs.ChainLawReads.{message, link_home}
use Rattle.seat_programs.specs.Asides.{Step, Found, TakeBytes, Taking, Bytes}
use Rattle.seat_programs.specs.FoundAndChangedAside.{at_last, found_in, calls_after, more_given}
use Rattle.seat_programs.specs.TableSteps.{OnName, LoadOpen}
use Rattle.seat_programs.specs.LoopHeads.{Retry, Reads}
use Rattle.seat_programs.specs.Programs.{Program, Do, Rest, TakeMessage, TakeHome, PutHome, PutBytes, AskReady, Write, Aside, Round, Retries}
use Rattle.seat_programs.specs.ReaderProgram.{read, reader}
use Rattle.seat_programs.specs.Cores.{Core, SeatState, found_at, waiting_at, with_seat, resolved, next_step}
use Rattle.seat_programs.specs.StepTables.{word_of}
use Rattle.seat_programs.specs.Ticks.{Answer, OfPut, OfReady, OfTake, Moment, taken, with_message, with_link, with_put, with_ready, with_found, step_with, tick_with, ticked}
use Rattle.calm_runs.specs.send_causes.specs.Below.programs_allowed.specs.program_steps.proofs.TickCases.{ticks_first}
use Rattle.calm_runs.specs.send_causes.specs.Below.run_theorems.specs.Heard.{taken_link, bytes_found}
use Rattle.calm_runs.specs.send_causes.specs.Below.call_stories.specs.LinkReadingLists.{gave_in}
use Rattle.calm_runs.specs.send_causes.specs.Below.accept_counts.proofs.ReadingsAtTicks.{IsTake}
use Rattle.served_runs.proofs.ReadingsOver.{Goes, is_last, goes_first, goes_next, begins_reading}
use Rattle.calm_runs.specs.send_causes.specs.Below.call_causes.proofs.HandledTicks.{take_of, taken_first}
use Rattle.seat_programs.specs.LoopRounds.{first_step}
use Rattle.sock_words.specs.PackedWords.{NO_SOCKET}

-- ## What is taken

-- none of link k
abbrev NoneOf : ℕ → List ℕ → Type 0
NoneOf k ls = filter (λ j. j == k) ls ≡ []

apart : (k l : ℕ) → NoneOf k (l ∷ []) → l ≢ k
apart k l none_ same = by (sym (ap (λ b. cond b (l ∷ []) []) (eq-eqb l k same)) ∙ none_)
  where
    by : l ∷ [] ≡ [] → ⊥
    by e = cc

module _ (p : Plan) (k : ℕ) (c : Core) (m : Moment) where
  -- the seat's tick is its first step
  pub tick_is : (seat : SeatState) → get_elem? c.seats m.seat ≡ some seat → ticked p c m ≡ step_with p m.seat seat c m.answer (first_step seat.program)
  tick_is seat at = ap (λ (o : Option SeatState). elim o as (λ o. Core) [ none ↦ c | some seat ↦ tick_with p m.seat seat c m.answer seat.program ]) at ∙ ticks_first p m.seat seat c m.answer seat.program

  -- ## Where no bytes of the link are taken

  module _ (seat : SeatState) where
    letter_gave : (q : ℕ) (o : Option HeadedBytes) (next : HeadedBytes → Program) → gave_in (with_message p m.seat seat c q o next) k ≡ gave_in c k
    letter_gave q none next = refl
    letter_gave q (some letter) next = refl

    link_gave : (l : ℕ) (o : Option (List ℕ × ℕ)) (next : ℕ → Program) → gave_in (with_link p m.seat seat c l o next) k ≡ gave_in c k
    link_gave l none next = refl
    link_gave l (some home) next = refl

    put_gave : (bytes : List ℕ) (answer : Answer) (next : Put → Program) → gave_in (with_put p m.seat seat c bytes answer next) k ≡ gave_in c k
    put_gave bytes (OfPut answer) next = refl
    put_gave bytes other next = refl

    ready_gave : (answer : Answer) (next : Ready → Program) → gave_in (with_ready p m.seat seat c answer next) k ≡ gave_in c k
    ready_gave (OfReady answer) next = refl
    ready_gave other next = refl

    found_gave : (step : Step) (o : Option (Found step)) (next : Found step → Program) → ((found : Found step) → get_or (calls_after step found c.calls).gave k [] ≡ gave_in c k) → gave_in (with_found p m.seat seat c step o next) k ≡ gave_in c k
    found_gave step none next same = refl
    found_gave step (some found) next same = same found

    other_link : (l : ℕ) → l ≢ k → (found : Taking) → get_or (more_given l found c.calls).gave k [] ≡ gave_in c k
    other_link l far (Bytes bytes) = get_or-set_other c.calls.gave l k (get_or c.calls.gave l [] ++ bytes) [] (λ e. far (sym e))
    other_link l far _ = refl

    aside_gave : (step : Step) (next : Found step → Program) → NoneOf k (take_of (Aside step next)) → gave_in (step_with p m.seat seat c m.answer (Aside step next)) k ≡ gave_in c k
    aside_gave (TakeBytes l room) next none_ = found_gave (TakeBytes l room) (found_in (TakeBytes l room) c.calls (taken m.answer)) next (other_link l (apart k l none_))
    aside_gave other next none_ = found_gave other (found_in other c.calls (taken m.answer)) next (λ found. refl)

    step_gave : (x : Program) → NoneOf k (take_of x) → gave_in (step_with p m.seat seat c m.answer x) k ≡ gave_in c k
    step_gave (Aside step next) none_ = aside_gave step next none_
    step_gave (TakeMessage q next) none_ = letter_gave q (message (λ home. home) c.homes q) (λ letter. next letter.0 letter.1)
    step_gave (TakeHome l next) none_ = link_gave l (link_home (λ home. home) p c.homes l) next
    step_gave (PutBytes l asked bytes next) none_ = put_gave bytes m.answer next
    step_gave (AskReady l next) none_ = ready_gave m.answer next
    step_gave _ none_ = refl

  -- it gave what it had given
  pub gave_same : ((seat : SeatState) → get_elem? c.seats m.seat ≡ some seat → NoneOf k (taken_link seat.program)) → gave_in (ticked p c m) k ≡ gave_in c k
  gave_same others = by_seat (get_elem? c.seats m.seat) refl
    where
      by_seat : (o : Option SeatState) → get_elem? c.seats m.seat ≡ o → gave_in (ticked p c m) k ≡ gave_in c k
      by_seat none e = ap (λ (o : Option SeatState). gave_in (elim o as (λ o. Core) [ none ↦ c | some seat ↦ tick_with p m.seat seat c m.answer seat.program ]) k) e
      by_seat (some seat) e = ap (λ d. gave_in d k) (tick_is seat e) ∙ step_gave seat (first_step seat.program) (ap (filter (λ j. j == k)) (sym (taken_first seat.program)) ∙ others seat e)

  -- ## Where some are taken

  -- the core behind a take that found this
  abbrev pub took_so : SeatState → (Taking → Program) → Taking → Core
  took_so seat next found = with_seat m.seat (next found) seat.hand c.words c.homes (record c { calls = more_given k found c.calls })

  pub gave_more : (seat : SeatState) (next : Taking → Program) (found : Taking) → k < length c.calls.gave → gave_in (took_so seat next found) k ≡ gave_in c k ++ bytes_found found
  gave_more seat next (Bytes bytes) low = get_or-set_same c.calls.gave k (get_or c.calls.gave k [] ++ bytes) [] low
  gave_more seat next _ low = sym (append-nil (gave_in c k))

-- ## Where its reader stands

module _ (p : Plan) (calls : List ℕ) (k o : ℕ) where
  abbrev pub Word : Core → ℕ
  Word c = get_or c.words (open_index p o) 0

  -- it waits for the word of its `open`, found none of a socket, or is at work; by what the link gave, and whether a take found its end
  abbrev pub Stands : List ℕ → Bool → ℕ → Program → Type 0
  Stands g last w program = ((program ≡ reader calls k o) × (g ≡ []) × (last ≡ false)) ⊎ (((program ≡ Rest) × (w ≡ NO_SOCKET)) ⊎ Goes k g last program)

  abbrev pub HasReader : List ℕ → Bool → ℕ → Core → Type 0
  HasReader g last w c = (seat : SeatState) → get_elem? c.seats (32 + k) ≡ some seat → Stands g last w seat.program

  word_on : (g : List ℕ) (last : Bool) (w w' : ℕ) → (w ≢ 0 → w' ≡ w) → (program : Program) → Stands g last w program → Stands g last w' program
  word_on g last w w' stays program (inl x) = inl x
  word_on g last w w' stays program (inr (inl x)) = inr (inl (x.0, stays (λ z. let e = x.1 in omega (arith, e, z)) ∙ x.1))
  word_on g last w w' stays program (inr (inr x)) = inr (inr x)

  pub reader_word : (g : List ℕ) (last : Bool) (w w' : ℕ) (c : Core) → (w ≢ 0 → w' ≡ w) → HasReader g last w c → HasReader g last w' c
  reader_word g last w w' c stays h seat at = word_on g last w w' stays seat.program (h seat at)

  -- behind the word of the `open`
  abbrev reads_then : ℕ → Program
  reads_then word = cond (word == NO_SOCKET) Rest (Round (Reads (record { ids = length calls; link = k; id = word - 1; rest = []; total = 0; kept = [] })) (read calls))

  by_word : (w : ℕ) → Stands [] false w (cond (w == 0) (reader calls k o) (reads_then w))
  by_word w = by (w == 0)
    where
      by_socket : (b : Bool) → (w == NO_SOCKET) ≡ b → Stands [] false w (cond b Rest (Round (Reads (record { ids = length calls; link = k; id = w - 1; rest = []; total = 0; kept = [] })) (read calls)))
      by_socket true e = inr (inl (refl, eqb-true w NO_SOCKET e))
      by_socket false e = inr (inr (begins_reading k calls (length calls) (w - 1)))

      by : (b : Bool) → Stands [] false w (cond b (reader calls k o) (reads_then w))
      by true = inl (refl, refl, refl)
      by false = by_socket (w == NO_SOCKET) refl

  -- what is said before the next step makes no difference
  word_next : (w : ℕ) (ws : List Retry) → Stands [] false w (next_step (resolved ws (cond (w == 0) (reader calls k o) (reads_then w))))
  word_next w ws = by (w == 0) (by_word w)
    where
      by_socket : (b : Bool) → Stands [] false w (cond b Rest (Round (Reads (record { ids = length calls; link = k; id = w - 1; rest = []; total = 0; kept = [] })) (read calls)))
          → Stands [] false w (next_step (resolved ws (cond b Rest (Round (Reads (record { ids = length calls; link = k; id = w - 1; rest = []; total = 0; kept = [] })) (read calls)))))
      by_socket true s = s
      by_socket false s = s

      by : (b : Bool) → Stands [] false w (cond b (reader calls k o) (reads_then w)) → Stands [] false w (next_step (resolved ws (cond b (reader calls k o) (reads_then w))))
      by true s = s
      by false s = by_socket (w == NO_SOCKET) s

  module _ (c : Core) (m : Moment) (own : m.seat ≡ 32 + k) (seat : SeatState) (at : get_elem? c.seats m.seat ≡ some seat) (g : List ℕ) (last : Bool) (before : HasReader g last (Word c) c) where
    set_own : (h : List ℕ) (late : Bool) (x : SeatState) → Stands h late (Word c) x.program → (s : SeatState) → get_elem? (set c.seats m.seat x) (32 + k) ≡ some s → Stands h late (Word c) s.program
    set_own h late x t s at_s = ⊎_elim (λ a. subst (λ (y : SeatState). Stands h late (Word c) y.program) a.1 t) (λ a. absurd (a.0 (sym own))) (at_set c.seats m.seat (32 + k) x s at_s)

    -- its step aside
    beside : (step : Step) (next : Found step → Program) → ((found : Found step) → Goes k g last (next found)) → (x : Option (Found step)) → HasReader g last (Word c) (with_found p m.seat seat c step x next)
    beside step next x none = before
    beside step next x (some found) = λ s at_s. set_own g last _ (inr (inr (goes_next k g last _ (next found) (x found)))) s at_s

    -- where it takes no bytes
    own_step : (x : Program) → take_of x ≡ [] → Goes k g last x → HasReader g last (Word c) (step_with p m.seat seat c m.answer x)
    own_step (Aside (TakeBytes l room) next) none_ x = absurd (let z : l ∷ [] ≡ [] = none_ in cc)
    own_step (Aside step next) none_ x = beside step next x (found_in step c.calls (taken m.answer))
    own_step (Do call next) none_ x = λ s at_s. set_own g last _ (inr (inr (goes_next k g last (waiting_at c.calls.waiting m.seat) (next (found_at c.words (word_of p call))) (x (found_at c.words (word_of p call)))))) s at_s
    own_step (TakeMessage q next) none_ x = absurd x
    own_step (TakeHome l next) none_ x = absurd x
    own_step (PutHome l n after) none_ x = absurd x
    own_step (PutBytes l asked bytes next) none_ x = absurd x
    own_step (AskReady l next) none_ x = absurd x
    own_step (Write w after) none_ x = absurd x
    own_step (Retries requests after) none_ x = absurd x
    own_step _ none_ x = before

    abbrev loads : ℕ → Program
    loads word = cond (word == 0) (reader calls k o) (reads_then word)

    loads_own : g ≡ [] → last ≡ false → HasReader g last (Word c) (step_with p m.seat seat c m.answer (Do (OnName (LoadOpen o)) loads))
    loads_own none_ early = λ s at_s. set_own g last _ (subst (λ h. Stands h last (Word c) (next_step (resolved (waiting_at c.calls.waiting m.seat) (loads (Word c))))) (sym none_)
        (subst (λ b. Stands [] b (Word c) (next_step (resolved (waiting_at c.calls.waiting m.seat) (loads (Word c))))) (sym early) (word_next (Word c) (waiting_at c.calls.waiting m.seat)))) s at_s

    by_stand : Stands g last (Word c) seat.program → taken_link seat.program ≡ [] → HasReader g last (Word c) (step_with p m.seat seat c m.answer (first_step seat.program))
    by_stand (inl x) none_ = subst (λ y. HasReader g last (Word c) (step_with p m.seat seat c m.answer (first_step y))) (sym x.0) (loads_own x.1 x.2)
    by_stand (inr (inl x)) none_ = subst (λ y. HasReader g last (Word c) (step_with p m.seat seat c m.answer (first_step y))) (sym x.0) before
    by_stand (inr (inr x)) none_ = own_step (first_step seat.program) (sym (taken_first seat.program) ∙ none_) (goes_first k g last seat.program x)

    stands : Stands g last (Word c) seat.program
    stands = before seat (sym (ap (get_elem? c.seats) own) ∙ at)

    pub reader_goes : taken_link seat.program ≡ [] → HasReader g last (Word c) (ticked p c m)
    reader_goes none_ = subst (HasReader g last (Word c)) (sym (tick_is p k c m seat at)) (by_stand stands none_)

    -- ## Where it takes some

    -- it does so of its own link, where no take found the end yet
    pub record Takes (found : Taking) : Type 0 where
      pub next : Taking → Program
      pub after : ticked p c m ≡ took_so p k c m seat next found
      pub link : taken_link seat.program ≡ k ∷ []
      pub time : last ≡ false
      pub reader : HasReader (g ++ bytes_found found) (last || is_last found) (Word c) (ticked p c m)

    taken_stand : (t : IsTake seat.program) → Goes k g last (Aside (TakeBytes t.link t.room) t.next)
    taken_stand t = by stands
      where
        by : Stands g last (Word c) seat.program → Goes k g last (Aside (TakeBytes t.link t.room) t.next)
        by (inl x) = absurd (no_load (first_step (reader calls k o)) refl (sym (ap first_step x.0) ∙ t.first))
          where
            no_load : (program : Program) → Do (OnName (LoadOpen o)) loads ≡ program → program ≡ Aside (TakeBytes t.link t.room) t.next → ⊥
            no_load program e f = let z : Do (OnName (LoadOpen o)) loads ≡ Aside (TakeBytes t.link t.room) t.next = e ∙ f in cc
        by (inr (inl x)) = absurd (let z : Rest ≡ Aside (TakeBytes t.link t.room) t.next = sym (ap first_step x.0) ∙ t.first in cc)
        by (inr (inr x)) = subst (Goes k g last) t.first (goes_first k g last seat.program x)

    pub reader_takes : IsTake seat.program → (a : Taking) → m.answer ≡ OfTake a → Takes (at_last c.calls.ending a)
    reader_takes t a said = record {
      next = t.next;
      after = after;
      link = t.takes ∙ ap (λ l. l ∷ []) own_link;
      time = x.1;
      reader = subst (HasReader (g ++ bytes_found found) (last || is_last found) (Word c)) (sym after)
          (λ s at_s. set_own (g ++ bytes_found found) (last || is_last found) _ (inr (inr (goes_next k (g ++ bytes_found found) (last || is_last found) (waiting_at (more_given k found c.calls).waiting m.seat) (t.next found) (x.2 found)))) s at_s);
    }
      where
        found : Taking
        found = at_last c.calls.ending a

        x : Goes k g last (Aside (TakeBytes t.link t.room) t.next)
        x = taken_stand t

        own_link : t.link ≡ k
        own_link = x.0

        after : ticked p c m ≡ took_so p k c m seat t.next found
        after = tick_is p k c m seat at ∙ (ap (step_with p m.seat seat c m.answer) t.first ∙ (ap (λ (y : Answer). step_with p m.seat seat c y (Aside (TakeBytes t.link t.room) t.next)) said
            ∙ ap (λ l. with_seat m.seat (t.next found) seat.hand c.words c.homes (record c { calls = more_given l found c.calls })) own_link))
