-- The reader of a link waits for the word of its own `open`, and once that is stored it never loads one again.
use Rattle.std.proofs.Common.{◌≡◌, ◌≢◌, ℕ, ◌-◌, ◌<◌, ◌⊎◌, inl, inr, ⊎_elim, ◌==◌, Bool, true, false, cond, eq-eqb, nat_lt, List, [], ◌∷◌, length, get_or, set, get_or-set_other, get_or-set_same, refl, sym, ap, ◌∙◌, subst, arith}
use Rattle.std.proofs.lemmas.Bool.{true≢false}
use Rattle.std.specs.Prelude.{IsTrue}
use mathlib.Core.Logic.{dite}
use mathlib.Core.Option.{Option, some, none, some-ne-none}
use native.Mathlib.Decide.{ℕ_discrete}
use lib.ListN.{get_elem?}
use Rattle.atomic_table.proofs.Lists.{at_set}
use Rattle.sock_words.specs.declared.plain.Plan.{Plan}
use Rattle.sock_model.specs.declared.home.Home.{Home}
use Rattle.sock_model.specs.declared.view.View.{View}
use Rattle.sock_model.specs.SocketTableLayout.{open_index}
use Rattle.seat_programs.specs.TableSteps.{TableStep, OnName, LoadOpen, StoreOpen}
use Rattle.seat_programs.specs.LoopHeads.{Head, Exit, Opens, Reads}
use Rattle.seat_programs.specs.Programs.{Program, Do, Rest, Round}
use Rattle.seat_programs.specs.ReaderProgram.{read, reader}
use Rattle.seat_programs.specs.Cores.{Calls, Core, SeatState, found_at, words_after, hand_after, resolved, next_step, waiting_at, with_seat, stepped}
use Rattle.seat_programs.specs.StepTables.{word_of, word_after}
use Rattle.seat_programs.specs.Ticks.{Moment, ticked, run, IsAnswered, AreAnswered}
use Rattle.seat_programs.specs.StepTables.{May}
use Rattle.seat_programs.specs.StepViews.{Knows}
use Rattle.sock_runs.specs.program_steps.specs.SoundSeats.{Sound, IsFitting, AreFitting, views_after}
use Rattle.sock_runs.specs.program_steps.proofs.AtCalls.{AtCalls, every_exit}
use Rattle.program_walks.proofs.Records.{stores, loads, awaits, opens_same}
use Rattle.sock_runs.proofs.NotesOfSteps.{bears}
use Rattle.program_walks.proofs.Through.{Passes, Follows, any_end, through_any_failed, at_calls_passes, at_calls_follow, comes_follows}
use Rattle.program_walks.proofs.ThroughCalls.{through_reading, through_head, through_next}
use Rattle.sock_runs.specs.program_steps.proofs.TickCases.{ComesNext, tick_keeps_marks}
use Rattle.sock_runs.proofs.LinkTicks.{RetriesGo}
use Rattle.sock_runs.proofs.TicksKeepSeatsSound.{sound_ticks}
use Rattle.seat_programs.specs.LoopRounds.{first_step}
use Rattle.sock_words.specs.PackedWords.{NO_SOCKET}

-- ## Programs that load no word of an `open`

abbrev pub NoLoad : Unit {0} → TableStep → (ℕ → Program) → (Unit {0} → ℕ → Type 0) → Type 0
NoLoad s (OnName (LoadOpen o)) next behind = ⊥
NoLoad s call next behind = (found : ℕ) → behind tt found

abbrev pub NoWait : (head : Head) → (Exit head → Type 0) → Type 0
NoWait (Opens o) behind = ⊥
NoWait head behind = every_exit head behind

abbrev pub NoOpens : Program → Type 0
NoOpens program = AtCalls (Unit {0}) NoLoad NoWait tt program

no_opens_passes : Passes NoOpens
no_opens_passes = at_calls_passes (Unit {0}) NoLoad NoWait tt plain looped
  where
    plain : (call : TableStep) (next : ℕ → Program) → stores call ≡ none → bears call ≡ none → loads call ≡ none → ((found : ℕ) → NoOpens (next found)) → NoOpens (Do call next)
    plain (OnName (LoadOpen o)) next s b l r = absurd (some-ne-none o l)
    plain call next s b l r = r

    looped : (head : Head) → awaits head ≡ none → (next : Exit head → Program) → ((exit : Exit head) → NoOpens (next exit)) → NoOpens (Round head next)
    looped (Opens o) l next r = absurd (some-ne-none o l)
    looped head l next r = r

no_opens_follow : Follows NoOpens
no_opens_follow = at_calls_follow (Unit {0}) NoLoad NoWait tt left
  where
    left : (head : Head) (next : Exit head → Program) → NoOpens (Round head next) → (exit : Exit head) → NoOpens (next exit)
    left (Opens o) next r = absurd r
    left head next r = r

first_none : (program : Program) → NoOpens program → NoOpens (first_step program)
first_none program x = through_head NoOpens no_opens_passes (λ o exits y. absurd y) no_opens_follow program x

next_none : (ws : List Rattle.seat_programs.specs.LoopHeads.Retry) (program : Program) → NoOpens program → NoOpens (next_step (resolved ws program))
next_none ws program x = through_next NoOpens no_opens_passes no_opens_follow ws program x

behind_none : (call : TableStep) (next : ℕ → Program) → NoOpens (Do call next) → (found : ℕ) → NoOpens (next found)
behind_none (OnName (LoadOpen o)) next x found = absurd x
behind_none call next x found = x found

-- ## Words of operations

-- what is stored there isn't 0
pub stored_some : (p : Plan) (v : View) (w : ℕ) → (w ≡ NO_SOCKET) ⊎ (IsTrue (nat_lt 0 w) × Knows p v (w - 1)) → w ≡ 0 → ⊥
stored_some p v w (inl e) z = let y : 18446744073709551615 ≡ 0 = sym e ∙ z in omega (arith, y)
stored_some p v w (inr k) z = let y : IsTrue (nat_lt 0 0) = subst (λ x. IsTrue (nat_lt 0 x)) z k.0 in true≢false (sym y)

-- a word that was stored isn't 0 again
pub stays_stored : (p : Plan) (c : Core) (v : View) (o : ℕ) → o < p.operations → length c.words ≡ Rattle.sock_model.specs.SocketTableLayout.all_words p → (call : TableStep) → May p v call → get_or c.words (open_index p o) 0 ≢ 0
    → get_or (words_after c.words (word_of p call) (word_after call (found_at c.words (word_of p call)))) (open_index p o) 0 ≢ 0
stays_stored p c v o inside sized (OnName (StoreOpen n w)) may some_ = dite (ℕ_discrete n o)
    (λ e. λ z. let same : get_or (set c.words (open_index p n) w) (open_index p o) 0 ≡ w = ap (λ k. get_or (set c.words (open_index p n) w) (open_index p k) 0) (sym e) ∙ get_or-set_same c.words (open_index p n) w 0 (omega (arith, inside, e, sized)) in
    stored_some p v w may.1 (sym same ∙ z))
    (λ far. λ z. some_ (sym (get_or-set_other c.words (open_index p n) (open_index p o) w 0 (λ e. far (omega (arith, e)))) ∙ z))
stays_stored p c v o inside sized call may some_ = by_none call may refl
  where
    by_none : (call : TableStep) → May p v call → stores call ≡ none → get_or (words_after c.words (word_of p call) (word_after call (found_at c.words (word_of p call)))) (open_index p o) 0 ≢ 0
    by_none call may none_ = λ z. some_ (sym (opens_same p c.words v o inside call may none_) ∙ z)

-- ## The seat of a reader

-- seat j has still to find the word of operation o, which is that of link n, or found it
abbrev pub AtReader : Plan → List ℕ → ℕ → ℕ → ℕ → Core → Type 0
AtReader p calls j n o c = (seat : SeatState) → get_elem? c.seats j ≡ some seat → (seat.program ≡ reader calls n o) ⊎ ((get_or c.words (open_index p o) 0 ≢ 0) × NoOpens seat.program)

module _ (p : Plan) (calls : List ℕ) (j n o : ℕ) (inside : o < p.operations) where
  abbrev behind : ℕ → Program
  behind word = cond (word == NO_SOCKET) Rest (Round (Reads (record { ids = length calls; link = n; id = word - 1; rest = []; total = 0; kept = [] })) (read calls))

  abbrev first : ℕ → Program
  first word = cond (word == 0) (reader calls n o) (behind word)

  load_is : (call : TableStep) (next : ℕ → Program) (program : Program) → program ≡ reader calls n o → first_step program ≡ Do call next → (call ≡ OnName (LoadOpen o)) × (next ≡ first)
  load_is call next program e is = let x : Do (OnName (LoadOpen o)) first ≡ Do call next = sym (ap first_step e) ∙ is in (cc, cc)

  module _ (c : Core) (vs : List View) (m : Moment) (sound : Sound p c vs) (answered : IsAnswered c m) (fitting : IsFitting p c m) (before : AtReader p calls j n o c) where
    abbrev word' : TableStep → ℕ
    word' x = get_or (words_after c.words (word_of p x) (word_after x (found_at c.words (word_of p x)))) (open_index p o) 0

    abbrev G : TableStep → (ℕ → Program) → Type 0
    G x f = (next_step (resolved (waiting_at c.calls.waiting m.seat) (f (found_at c.words (word_of p x)))) ≡ reader calls n o) ⊎ ((word' x ≢ 0) × NoOpens (next_step (resolved (waiting_at c.calls.waiting m.seat) (f (found_at c.words (word_of p x))))))

    on_call : (seat : SeatState) (v : View) (call : TableStep) (next : ℕ → Program) → get_elem? c.seats m.seat ≡ some seat → first_step seat.program ≡ Do call next → May p v call → AtReader p calls j n o (stepped p m.seat seat call next c)
    on_call seat v call next at_seat is may s at = ⊎_elim
        (λ a. subst (λ (x : SeatState). (x.program ≡ reader calls n o) ⊎ ((word' call ≢ 0) × NoOpens x.program)) a.1 (own (before seat (ap (get_elem? c.seats) a.0 ∙ at_seat))))
        (λ a. ⊎_elim (λ e. inl e) (λ x. inr (stays_stored p c v o inside sound.lawful.references.sized call may x.0, x.1)) (before s a.1))
        (at_set c.seats m.seat j seat' s at)
      where
        seat' : SeatState
        seat' = record { program = next_step (resolved (waiting_at c.calls.waiting m.seat) (next (found_at c.words (word_of p call)))); hand = hand_after p call c.homes seat.hand }

        loaded : May p v (OnName (LoadOpen o)) → G (OnName (LoadOpen o)) first
        loaded may = by_word (get_or c.words (open_index p o) 0 == 0) refl
          where
            by_word : (b : Bool) → (get_or c.words (open_index p o) 0 == 0) ≡ b → (next_step (resolved (waiting_at c.calls.waiting m.seat) (cond b (reader calls n o) (behind (get_or c.words (open_index p o) 0)))) ≡ reader calls n o)
                ⊎ ((word' (OnName (LoadOpen o)) ≢ 0) × NoOpens (next_step (resolved (waiting_at c.calls.waiting m.seat) (cond b (reader calls n o) (behind (get_or c.words (open_index p o) 0))))))
            by_word true e = inl refl
            by_word false e = inr (
              stays_stored p c v o inside sound.lawful.references.sized (OnName (LoadOpen o)) may (λ z. true≢false (sym (eq-eqb (get_or c.words (open_index p o) 0) 0 z) ∙ e)),
              next_none (waiting_at c.calls.waiting m.seat) (behind (get_or c.words (open_index p o) 0)) (through_reading any_end NoOpens no_opens_passes.reads (λ how e. through_any_failed NoOpens no_opens_passes how.code) tt calls n (get_or c.words (open_index p o) 0)),
            )

        own : (seat.program ≡ reader calls n o) ⊎ ((get_or c.words (open_index p o) 0 ≢ 0) × NoOpens seat.program) → G call next
        own (inl e) = let x = load_is call next seat.program e is in subst (λ y. G y next) (sym x.0) (subst (λ f. G (OnName (LoadOpen o)) f) (sym x.1) (loaded (subst (May p v) x.0 may)))
        own (inr x) = inr (
          stays_stored p c v o inside sound.lawful.references.sized call may x.0,
          next_none (waiting_at c.calls.waiting m.seat) (next (found_at c.words (word_of p call))) (behind_none call next (subst NoOpens is (first_none seat.program x.1)) (found_at c.words (word_of p call))),
        )

    on_other : (seat : SeatState) (program : Program) (hand : List Home) (hs : List (Option Home)) (a : Calls) → get_elem? c.seats m.seat ≡ some seat → ComesNext p (first_step seat.program) program → AtReader p calls j n o (with_seat m.seat program hand c.words hs (record c { calls = a }))
    on_other seat program hand hs a at_seat comes s at = ⊎_elim
        (λ y. subst (λ (x : SeatState). (x.program ≡ reader calls n o) ⊎ ((get_or c.words (open_index p o) 0 ≢ 0) × NoOpens x.program)) y.1 (own (before seat (ap (get_elem? c.seats) y.0 ∙ at_seat))))
        (λ y. before s y.1) (at_set c.seats m.seat j seat' s at)
      where
        seat' : SeatState
        seat' = record { program = next_step (resolved (waiting_at a.waiting m.seat) program); hand = hand }

        own : (seat.program ≡ reader calls n o) ⊎ ((get_or c.words (open_index p o) 0 ≢ 0) × NoOpens seat.program) → (seat'.program ≡ reader calls n o) ⊎ ((get_or c.words (open_index p o) 0 ≢ 0) × NoOpens seat'.program)
        own (inl e) = absurd (subst (λ x. ComesNext p (first_step x) program) e comes)
        own (inr x) = inr (x.0, next_none (waiting_at a.waiting m.seat) program (comes_follows NoOpens no_opens_follow p (first_step seat.program) program comes (first_none seat.program x.1)))

    reader_ticks : AtReader p calls j n o (ticked p c m)
    reader_ticks = tick_keeps_marks p c vs m sound answered fitting (λ d ws. AtReader p calls j n o d) before
        (λ seat v call next at_seat at_view is goes. on_call seat v call next at_seat is goes.0)
        (λ seat v program rights hand hs a at_seat at_view comes. on_other seat program hand hs a at_seat comes)

  -- over every run
  pub run_reader : RetriesGo p → (c : Core) (vs : List View) (moments : List Moment) → Sound p c vs → AreAnswered p c moments → AreFitting p c moments → AtReader p calls j n o c → AtReader p calls j n o (run p c moments)
  run_reader go c vs [] sound answered fitting r = r
  run_reader go c vs (m ∷ ms) sound answered fitting r = run_reader go (ticked p c m) (views_after p c vs m) ms (sound_ticks p go c vs m sound answered.0 fitting.0) answered.1 fitting.1
      (reader_ticks c vs m sound answered.0 fitting.0 r)

  module _ (c : Core) (seat : SeatState) (at : get_elem? c.seats j ≡ some seat) (r : AtReader p calls j n o c) where
    -- it loads the word of its own `open` alone
    pub loads_own : (x : ℕ) (next : ℕ → Program) → first_step seat.program ≡ Do (OnName (LoadOpen x)) next → x ≡ o
    loads_own x next is = ⊎_elim (λ e. let y = load_is (OnName (LoadOpen x)) next seat.program e is in let z : OnName (LoadOpen x) ≡ OnName (LoadOpen o) = y.0 in cc) (λ y. absurd (subst NoOpens is (first_none seat.program y.1))) (r seat at)

    -- and waits for it alone
    pub waits_own : (x : ℕ) (next : ℕ → Program) → seat.program ≡ Round (Opens x) next → x ≡ o
    waits_own x next is = ⊎_elim (λ e. opened (sym e ∙ is)) (λ y. absurd (subst NoOpens is y.1)) (r seat at)
      where
        opened : reader calls n o ≡ Round (Opens x) next → x ≡ o
        opened e = let y : Round (Opens o) behind ≡ Round (Opens x) next = e in cc

    -- another step comes behind it
    pub steps_behind : (call : TableStep) (next : ℕ → Program) → first_step seat.program ≡ Do call next → loads call ≡ none → get_or c.words (open_index p o) 0 ≢ 0
    steps_behind call next is none_ = ⊎_elim (λ e. let y = load_is call next seat.program e is in absurd (some-ne-none o (sym (ap loads y.0) ∙ none_))) (λ y. y.0) (r seat at)
