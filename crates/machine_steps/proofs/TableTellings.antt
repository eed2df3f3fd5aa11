-- What a tick of a reader answers.
use Rattle.std.proofs.Common.{◌≡◌, refl, ℕ, Bool, true, false, is_some, Option, Some, None, IfSome, Result, Ok, Err, IfOk, ap, sym, ◌∙◌, subst}
use mathlib.Core.Option as core
use Rattle.sock_words.specs.declared.kind.Kind.{Kind}
use Rattle.sock_words.specs.declared.kind.Kind.TheVariants.{R1}
use Rattle.seat_programs.specs.Asides as asides
use Rattle.seat_programs.specs.Asides.{Taking}
use Rattle.seat_programs.specs.FoundAndChangedAside.{found_in}
use Rattle.seat_programs.specs.TableSteps as calls
use Rattle.seat_programs.specs.StepTables.{word_of}
use Rattle.seat_programs.specs.Cores.{found_at}
use Rattle.seat_programs.specs.LoopHeads.{Locks, Joins, Opens}
use Rattle.seat_programs.specs.Writings as heads
use Rattle.seat_programs.specs.Programs.{Program, Write, Round}
use Rattle.seat_programs.specs.Ticks.{Unasked, OfTake, is_nothing}
use Rattle.call_slots.specs.CallSlotSteps.{word_found}
use Rattle.seat_states.specs.ProgramStepsOfMachine.{First, OfTable, OfAside, first_in, step_as, kind_of_first}
use Rattle.reader_points.specs.declared.point.ReadPoint.{ReadPoint}
use Rattle.reader_points.specs.declared.point.ReadPoint.TheVariants as points
use Rattle.reader_points.specs.ReaderPoints.{Context, point_program, TakesBytes}
use Rattle.call_points.specs.declared.aside.Aside as code
use Rattle.call_points.specs.AsideCodeSteps as aside_steps
use Rattle.seat_states.specs.declared.point.Step.{Step}
use Rattle.seat_states.specs.declared.point.Step.TheVariants as firsts
use Rattle.client_seats.specs.ClientSeatState.{SeatData, around, seat_program, asked_or_nothing}
use Rattle.machine_model.specs.declared.tick.On.{On}
use Rattle.machine_model.specs.declared.tick.On.TheVariants as on
use Rattle.machine_model.specs.declared.tick.Tick.{Tick}
use Rattle.machine_model.specs.declared.tick.Tick.TheVariants.{Moved, Waits}
use Rattle.machine_model.specs.Machines.{TableState, table_sizes}
use Rattle.machine_model.specs.MachineRuns.{IsWaitingFor}
use Rattle.machine_model.specs.MachineSteps.{IsNext, Makes, beside}
use Rattle.machine_model.specs.TickAnswersOfStep.{Tells, StepTold, is_waiting, waits_by}
use Rattle.machine_model.proofs.FirstSteps.{IsBare}
use Rattle.machine_model.proofs.Tellings.{words_of, waits_for, moved, kind_first, call_waits, aside_waits}
use Rattle.machine_steps.proofs.TableReads.{reads_bytes}

module _ (t : TableState) (program : Program) where
  -- whether a step waits that found this word
  pub waits_call : (call : calls.TableStep) (found : ℕ) → first_in program ≡ Some (OfTable call) → found ≡ found_at t.words (word_of t.plan call) → is_waiting t Unasked program ≡ waits_by program found
  waits_call call found first f = call_waits t.plan (words_of t) program call first ∙ ap (waits_by program) (sym f)

  pub waits_aside : (step : asides.Step) (found : ℕ) → first_in program ≡ Some (OfAside step) → found_in step (beside t) core.none ≡ word_found step found → is_waiting t Unasked program ≡ waits_by program found
  waits_aside step found first f = aside_waits t.plan (words_of t) program step found first f

  pub word_waits : (o : Option On) (on_ : On) (found : ℕ) → is_waiting t Unasked program ≡ waits_by program found → is_some o ≡ waits_by program found → IfSome o (IsWaitingFor program) → o ≡ Some on_ → Tells t program Unasked (Waits on_)
  word_waits o on_ found waits awaited for e = (waits ∙ sym awaited ∙ ap is_some e, waits_for program o on_ e for)

  pub word_moves : (o : Option On) (first : First) (kind : Kind) (found : ℕ) → is_waiting t Unasked program ≡ waits_by program found → is_some o ≡ waits_by program found → first_in program ≡ Some first → kind ≡ kind_of_first first → o ≡ None → Tells t program Unasked (Moved kind)
  word_moves o first kind found waits awaited next is e = (kind_first program first kind next is, waits ∙ sym awaited ∙ ap is_some e)

-- whoever takes a call out of its home moves
pub call_moves : (t : TableState) (program : Program) (i : ℕ) (kind : Kind) → first_in program ≡ Some (OfAside (asides.TakeCall i)) → kind ≡ kind_of_first (OfAside (asides.TakeCall i)) → IsBare program → Tells t program Unasked (Moved kind)
call_moves t program i kind next is bare = (kind_first program (OfAside (asides.TakeCall i)) kind next is, still program bare)
  where
    still : (x : Program) → IsBare x → is_waiting t Unasked x ≡ false
    still (Write w after) b = absurd b
    still (Round head next) b = absurd b
    still _ b = refl

-- whoever puts a call home or takes it out moves
abbrev pub MovesCall : asides.Step → Type 0
MovesCall (asides.PutCall i asked) = Unit {0}
MovesCall (asides.TakeCall i) = Unit {0}
MovesCall other = ⊥

abbrev MovesFirst : Option First → Type 0
MovesFirst (Some (OfAside step)) = MovesCall step
MovesFirst other = ⊥

pub still_aside : (t : TableState) (program : Program) (step : asides.Step) → first_in program ≡ Some (OfAside step) → MovesCall step → is_waiting t Unasked program ≡ false
still_aside t program step first h = still program (subst MovesFirst (sym first) h)
  where
    still : (x : Program) → MovesFirst (first_in x) → is_waiting t Unasked x ≡ false
    still (Write (heads.Reversing h top at after) then_) m = absurd m
    still (Round (Locks i sought None) next) m = absurd m
    still (Round (Joins id) next) m = absurd m
    still (Round (Opens o) next) m = absurd m
    still _ m = refl

-- so the tick of such a step moves
pub moved_aside : {old fresh : TableState} {i : ℕ} {seat seat' : SeatData} {kind : Kind} {step : code.Aside} (is : code.Aside) → MovesCall (aside_steps.step_of (asked_or_nothing seat.call) is) → step ≡ is → IsNext old seat (firsts.Aside step)
    → kind ≡ kind_of_first (step_as (around (table_sizes old) seat) (firsts.Aside step)) → Makes old fresh i seat seat' (firsts.Aside is) Unasked → StepTold old fresh i seat seat' (firsts.Aside step) (Moved kind)
moved_aside {old} {fresh} {i} {seat} {seat'} {kind} {step} is moves e next kind_is makes = moved kind (firsts.Aside is) Unasked (ap firsts.Aside e) next kind_is makes
    (still_aside old (seat_program (table_sizes old) seat) (aside_steps.step_of (asked_or_nothing seat.call) is) (subst (λ (s : code.Aside). IsNext old seat (firsts.Aside s)) e next) moves)

-- what a step aside tells, as one of the whole step
pub told_aside : (old fresh : TableState) (seat seat' : SeatData) (step : Step) (s : code.Aside) {E : Type 0} (r : Result Tick E) → step ≡ firsts.Aside s → IfOk r (λ tick. (i : ℕ) → StepTold old fresh i seat seat' (firsts.Aside s) tick) → (i : ℕ) → IfOk r (λ tick. StepTold old fresh i seat seat' step tick)
told_aside old fresh seat seat' step s (Ok tick) e h i = subst (λ (x : Step). StepTold old fresh i seat seat' x tick) (sym e) (h i)
told_aside old fresh seat seat' step s (Err x) e h i = tt

-- ## A take

by_cases : (b : Bool) (A : Type 0) → (b ≡ true → A) → (b ≡ false → A) → A
by_cases true A f g = f refl
by_cases false A f g = g refl

tells_by : (t : TableState) (program : Program) (k n : ℕ) (taking : Taking) (tick : Tick) → first_in program ≡ Some (OfAside (asides.TakeBytes k n)) → is_waiting t (OfTake taking) program ≡ is_nothing t.ending (OfTake taking) → IsWaitingFor program (on.In k) →
    (is_nothing t.ending (OfTake taking) ≡ true → tick ≡ Waits (on.In k)) → (is_nothing t.ending (OfTake taking) ≡ false → tick ≡ Moved R1) → Tells t program (OfTake taking) tick
tells_by t program k n taking tick first waits for waited moved = by_cases (is_nothing t.ending (OfTake taking)) (Tells t program (OfTake taking) tick)
    (λ b. subst (λ (x : Tick). Tells t program (OfTake taking) x) (sym (waited b)) (waits ∙ b, for))
    (λ b. subst (λ (x : Tick). Tells t program (OfTake taking) x) (sym (moved b)) (kind_first program (OfAside (asides.TakeBytes k n)) R1 first refl, waits ∙ b))

-- whoever takes bytes of a link waits for that link
abbrev TakesOf : Option First → Program → TableState → Taking → Type 0
TakesOf (Some (OfAside (asides.TakeBytes k n))) program t taking = (is_waiting t (OfTake taking) program ≡ is_nothing t.ending (OfTake taking)) × IsWaitingFor program (on.In k)
TakesOf other program t taking = Unit {0}

takes_of : (a : Context) (p : ReadPoint) (t : TableState) (taking : Taking) → TakesBytes p → TakesOf (first_in (point_program a p)) (point_program a p) t taking
takes_of a (points.Take r) t taking takes = (refl, refl)
takes_of a (points.Discard link total) t taking takes = (refl, refl)
takes_of a _ t taking takes = absurd takes

pub take_tells : (a : Context) (p : ReadPoint) (t : TableState) (k n : ℕ) (taking : Taking) (tick : Tick) → first_in (point_program a p) ≡ Some (OfAside (asides.TakeBytes k n)) → (is_nothing t.ending (OfTake taking) ≡ true → tick ≡ Waits (on.In k)) → (is_nothing t.ending (OfTake taking) ≡ false → tick ≡ Moved R1) →
    Tells t (point_program a p) (OfTake taking) tick
take_tells a p t k n taking tick first waited moved =
    let of = subst (λ (o : Option First). TakesOf o (point_program a p) t taking) first (takes_of a p t taking (reads_bytes a p k n first).0) in
    tells_by t (point_program a p) k n taking tick first of.0 of.1 waited moved
