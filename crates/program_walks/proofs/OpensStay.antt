-- The word of an `open` stays once it is stored; and how the seats of the readers begin.
use Rattle.std.proofs.Common.{◌≡◌, ◌≢◌, ℕ, zero, suc, ◌+◌, ◌-◌, ◌<◌, ◌≤◌, inl, List, [], ◌∷◌, ◌++◌, length, replicate, get_or, get_or-set_other, refl, sym, ap, ◌∙◌, subst, arith}
use Rattle.std.proofs.lemmas.Bool.{true≢false}
use Rattle.std.proofs.lemmas.List.{length-replicate}
use mathlib.Core.Logic.{dite}
use mathlib.Core.Option.{some, some-injective, some-ne-none}
use native.Mathlib.Decide.{ℕ_discrete}
use lib.ListN.{get_elem?}
use Rattle.sock_words.specs.declared.plain.Plan.{Plan}
use Rattle.sock_model.specs.declared.view.View.{View}
use Rattle.sock_model.specs.SocketTableLayout.{open_index}
use Rattle.seat_programs.specs.corr_core.specs.declared.marks.Plan.{Plan as IdPlan}
use Rattle.seat_programs.specs.TableSteps.{TableStep, OnName, StoreOpen}
use Rattle.seat_programs.specs.Programs.{Program, Do, Rest}
use Rattle.seat_programs.specs.ReaderProgram.{reader}
use Rattle.seat_programs.specs.Cores.{Core, SeatState, resolved, next_step, stepped}
use Rattle.seat_programs.specs.Ticks.{Moment, ticked, run, IsAnswered, AreAnswered}
use Rattle.seat_programs.specs.ScriptSetupToEnding.{beginning, readers_from, all_programs}
use Rattle.seat_programs.specs.StepTables.{May}
use Rattle.sock_runs.specs.program_steps.specs.SoundSeats.{Sound, IsFitting, AreFitting, views_after}
use Rattle.program_walks.proofs.Records.{Records, opens_same}
use Rattle.program_walks.proofs.Recorded.{Recorded, recorded_ticks}
use Rattle.program_walks.proofs.Through.{records_passes, records_opens, records_follow}
use Rattle.program_walks.proofs.ThroughCalls.{through_first}
use Rattle.sock_runs.specs.program_steps.proofs.TickCases.{tick_keeps_marks}
use Rattle.sock_runs.proofs.LinkTicks.{RetriesGo}
use Rattle.sock_runs.proofs.TicksKeepSeatsSound.{sound_ticks}
use Rattle.program_walks.proofs.OpenedLivesRecorded.{mapped}
use Rattle.program_walks.proofs.ReaderSeats.{AtReader}
use Rattle.seat_programs.specs.LoopRounds.{first_step}

module _ (p : Plan) (Q : ℕ → ℕ → Type 0) (o : ℕ) (inside : o < p.operations) where
  abbrev pub Word : Core → ℕ
  Word c = get_or c.words (open_index p o) 0

  word_ticks : (c : Core) (vs : List View) (m : Moment) → Sound p c vs → IsAnswered c m → IsFitting p c m → Recorded p Q c vs → Word c ≢ 0 → Word (ticked p c m) ≡ Word c
  word_ticks c vs m sound answered fitting r some_ = tick_keeps_marks p c vs m sound answered fitting (λ d ws. Word d ≡ Word c) refl
      (λ seat v call next at_seat at_view is goes. by_call seat v call next at_seat is goes.0) (λ seat v program rights hand hs a at_seat at_view comes. refl)
    where
      by_call : (seat : SeatState) (v : View) (call : TableStep) (next : ℕ → Program) → get_elem? c.seats m.seat ≡ some seat → first_step seat.program ≡ Do call next → May p v call → Word (stepped p m.seat seat call next c) ≡ Word c
      by_call seat v (OnName (StoreOpen n w)) next at_seat is may = let mine : Records (r.left m.seat) (Do (OnName (StoreOpen n w)) next) = subst (Records (r.left m.seat)) is
          (through_first (Records (r.left m.seat)) (records_passes (r.left m.seat)) (records_opens (r.left m.seat)) (records_follow (r.left m.seat)) seat.program (r.records m.seat seat at_seat)) in dite (ℕ_discrete n o)
          (λ e. absurd (true≢false (sym (ap (r.left m.seat) (sym e) ∙ mine.0) ∙ r.once o inside some_ m.seat)))
          (λ far. get_or-set_other c.words (open_index p n) (open_index p o) w 0 (λ e. far (omega (arith, e))))
      by_call seat v call next at_seat is may = opens_same p c.words v o inside call may refl

  -- over every run
  pub run_word : RetriesGo p → (c : Core) (vs : List View) (moments : List Moment) → Sound p c vs → AreAnswered p c moments → AreFitting p c moments → Recorded p Q c vs → Word c ≢ 0 → Word (run p c moments) ≡ Word c
  run_word go c vs [] sound answered fitting r some_ = refl
  run_word go c vs (m ∷ ms) sound answered fitting r some_ = let e = word_ticks c vs m sound answered.0 fitting.0 r some_ in
      run_word go (ticked p c m) (views_after p c vs m) ms (sound_ticks p go c vs m sound answered.0 fitting.0) answered.1 fitting.1 (recorded_ticks p Q c vs m sound answered.0 fitting.0 r) (λ z. some_ (sym e ∙ z)) ∙ e

-- ## Where readers begin

at_behind : {A : Type 0} (xs ys : List A) (j i : ℕ) → j ≡ length xs + i → get_elem? (xs ++ ys) j ≡ get_elem? ys i
at_behind [] ys j i e = ap (get_elem? ys) (let z : j ≡ i = omega (arith, e) in z)
at_behind (x ∷ xs) ys zero i e = absurd (let z : ⊥ = omega (arith, e) in z)
at_behind (x ∷ xs) ys (suc j) i e = at_behind xs ys j i (omega (arith, e))

reader_at : (calls os : List ℕ) (k n o : ℕ) → get_elem? os n ≡ some o → get_elem? (readers_from calls k os) n ≡ some (reader calls (k + n) o)
reader_at calls [] k n o at = absurd (some-ne-none o (sym at))
reader_at calls (x ∷ xs) k zero o at = ap some (ap (reader calls k) (some-injective x o at) ∙ ap (λ y. reader calls y o) (let z : k ≡ k + 0 = omega arith in z))
reader_at calls (x ∷ xs) k (suc n) o at = reader_at calls xs (k + 1) n o at ∙ ap (λ y. some (reader calls y o)) (let z : k + 1 + n ≡ k + suc n = omega arith in z)

reader_there : (clients : List Program) (calls os : List ℕ) (n o : ℕ) → length clients ≤ 32 → get_elem? os n ≡ some o → get_elem? (all_programs clients (readers_from calls 0 os)) (32 + n) ≡ some (reader calls n o)
reader_there clients calls os n o few at = at_behind clients (replicate (32 - length clients) Rest ++ readers_from calls 0 os) (32 + n) (32 - length clients + n) (omega (arith, few))
    ∙ at_behind (replicate (32 - length clients) Rest) (readers_from calls 0 os) (32 - length clients + n) n (let l = length-replicate (32 - length clients) Rest in omega (arith, l))
    ∙ reader_at calls os 0 n o at ∙ ap (λ y. some (reader calls y o)) (let z : 0 + n ≡ n = omega arith in z)

-- each reader stands before the word of its `open`
pub readers_begin : (p : Plan) (q : IdPlan) (clients : List Program) (calls os : List ℕ) → length clients ≤ 32 → (n o : ℕ) → get_elem? os n ≡ some o → AtReader p calls (32 + n) n o (beginning p q (all_programs clients (readers_from calls 0 os)))
readers_begin p q clients calls os few n o at seat there = let a = mapped (λ (program : Program). record { program = next_step (resolved [] program); hand = [] }) (all_programs clients (readers_from calls 0 os)) (32 + n) seat there in
    let same : a.0 ≡ reader calls n o = some-injective a.0 (reader calls n o) (sym a.1 ∙ reader_there clients calls os n o few at) in
    inl (ap (λ (s : SeatState). s.program) (sym a.2) ∙ ap (λ (x : Program). next_step (resolved [] x)) same)
