-- A step aside of the sockets: what it finds, and how a seat goes on.
use Rattle.std.proofs.Common.{◌≡◌, refl, ℕ, false, [], Some, ap, sym, ◌∙◌, subst}
use mathlib.Core.Option as core
use Rattle.corr_core.specs.declared.marks.Plan.{Plan as IdPlan}
use Rattle.sock_message.specs.Asked.{Asked}
use Rattle.seat_programs.specs.Asides as asides
use Rattle.seat_programs.specs.Asides.{Step, Found, Bytes}
use Rattle.seat_programs.specs.FoundAndChangedAside.{calls_after}
use Rattle.seat_programs.specs.Cores.{Calls}
use Rattle.seat_programs.specs.Programs.{Program, Aside}
use Rattle.seat_programs.specs.Ticks.{Unasked}
use Rattle.call_slots.specs.CallSlotState.{SlotState, calls_with}
use Rattle.call_slots.specs.CallSlotSteps as slots
use Rattle.call_slots.specs.CallSlotSteps.{word_found}
use Rattle.call_points.specs.declared.aside.Aside as code
use Rattle.call_points.specs.declared.aside.Aside.TheVariants as steps
use Rattle.call_points.specs.AsideCodeSteps as aside_steps
use Rattle.call_points.specs.AsideCodeSteps.{after_word, after_call, word_behind, with_word}
use Rattle.call_points.specs.declared.deciding.DecideStep.TheVariants as decides
use Rattle.seat_states.specs.declared.point.RetryStep.TheVariants as retries
use Rattle.seat_states.specs.declared.point.Step.TheVariants as firsts
use Rattle.seat_states.specs.declared.point.Point.{Point}
use Rattle.seat_states.specs.declared.point.Point.TheVariants as points
use Rattle.seat_states.specs.ProgramAtPoint.{Context, point_program, GoesByWord, TakesCall}
use Rattle.seat_states.specs.ProgramStepsOfMachine.{OfAside, first_in}
use Rattle.client_seats.specs.ClientSeatState.{SeatData, seat_program, asked_or_nothing}
use Rattle.machine_model.specs.MachineSteps.{IsOnWord, FitsSlots, IsNext, Goes, Makes}
use Rattle.machine_model.specs.Machines.{TableState, table_sizes}
use Rattle.machine_model.proofs.FirstSteps.{IsBare, bare_first, after_first, step_is}
use Rattle.machine_model.proofs.PointFacts.{GoesAside, goes_aside}
use Rattle.machine_steps.proofs.SeatBehindEachStep.{makes_along, next_along}
use Rattle.seat_programs.specs.LoopRounds.{first_step}

-- ## A word that is found

-- the step finds a word: neither a call nor bytes
abbrev pub FindsWord : Step → Type 0
FindsWord (asides.TakeCall i) = ⊥
FindsWord (asides.TakeBytes k room) = ⊥
FindsWord other = Unit {0}

pub finds_word : (asked : Asked) (step : code.Aside) → IsOnWord step → FindsWord (aside_steps.step_of asked step)
finds_word asked (steps.TakeCall i) h = h
finds_word asked (steps.TakeBytes k room) h = h
finds_word asked _ h = tt

-- and its slot or operation is one of the table's
pub slots_fit : (t : TableState) (step : code.Aside) → IsOnWord step → FitsSlots t step → slots.StepFits t.ids step
slots_fit t (steps.PutCall i) on fits = absurd on
slots_fit t (steps.TakeCall i) on fits = absurd on
slots_fit t (steps.TakeBytes k room) on fits = absurd on
slots_fit t _ on fits = fits

-- the word as the programs have it
record IsWord (step : Step) (word : ℕ) : Type 0 where
  found : Found step
  is : word_found step word ≡ core.some found
  behind : (next : Found step → Program) → with_word step next word ≡ next found

word_is : (step : Step) (word : ℕ) → FindsWord step → IsWord step word
word_is (asides.TakeCall i) word h = absurd h
word_is (asides.TakeBytes k room) word h = absurd h
word_is _ word h = record { found = word; is = refl; behind = λ next. refl }

-- how a program goes on behind a first step that found this word
pub record GoesOnBy (program : Program) (step : Step) (word : ℕ) : Type 0 where
  pub next : Found step → Program
  pub is : first_step program ≡ Aside step next
  pub found : Found step
  pub found_is : word_found step word ≡ core.some found
  pub behind : after_word program word ≡ next found

pub behind_aside : (program : Program) (step : Step) (word : ℕ) → first_in program ≡ Some (OfAside step) → FindsWord step → GoesOnBy program step word
behind_aside program step word e h = let x = step_is program (OfAside step) e in let w = word_is step word h in record {
  next = x.0;
  is = x.1;
  found = w.found;
  found_is = w.is;
  behind = after_first program word ∙ ap (λ (y : Program). word_behind y word) x.1 ∙ w.behind x.0;
}

-- ## A call that is taken

pub bare_call : (a : Context) (p : Point) → TakesCall p → IsBare (point_program a p)
bare_call a (points.Decide c after (decides.Take w)) takes = tt
bare_call a (points.Retry r (retries.TakeCall w)) takes = tt
bare_call a _ takes = absurd takes

-- how a program goes on behind it
pub record GoesOnWith (program : Program) (i : ℕ) (asked : Asked) : Type 0 where
  pub next : Asked → Program
  pub is : first_step program ≡ Aside (asides.TakeCall i) next
  pub behind : after_call program asked ≡ next asked

pub behind_call : (a : Context) (p : Point) (i : ℕ) (asked : Asked) → TakesCall p → first_in (point_program a p) ≡ Some (OfAside (asides.TakeCall i)) → GoesOnWith (point_program a p) i asked
behind_call a p i asked takes e = let x = step_is (point_program a p) (OfAside (asides.TakeCall i)) e in record {
  next = x.0;
  is = x.1;
  behind = ap (λ (y : Program). after_call y asked) (sym (bare_first (point_program a p) (bare_call a p takes)) ∙ x.1);
}

-- ## Which step of a point it is

by_word : (step : Step) (p : Point) → FindsWord step → GoesAside step p → GoesByWord p
by_word (asides.TakeCall i) p h f = absurd h
by_word (asides.TakeBytes k room) p h f = absurd h
by_word _ p h f = f

pub goes_by_word : (a : Context) (p : Point) (step : Step) → first_in (point_program a p) ≡ Some (OfAside step) → FindsWord step → GoesByWord p
goes_by_word a p step e h = by_word step p h (goes_aside a p step e)

pub takes_call : (a : Context) (p : Point) (i : ℕ) → first_in (point_program a p) ≡ Some (OfAside (asides.TakeCall i)) → TakesCall p
takes_call a p i e = goes_aside a p (asides.TakeCall i) e

pub takes_none : (a : Context) (p : Point) (k n : ℕ) → first_in (point_program a p) ≡ Some (OfAside (asides.TakeBytes k n)) → ⊥
takes_none a p k n e = goes_aside a p (asides.TakeBytes k n) e

-- ## The sizes of the table stay

plan_after : (step : Step) (found : Found step) (a : Calls) → (calls_after step found a).plan ≡ a.plan
plan_after (asides.TakeBytes k room) (Bytes bytes) a = refl
plan_after (asides.TakeBytes k room) asides.Nothing a = refl
plan_after (asides.TakeBytes k room) asides.NoMore a = refl
plan_after (asides.TakeBytes k room) asides.AtEnd a = refl
plan_after (asides.TakeBytes k room) asides.Closed a = refl
plan_after (asides.TakeBytes k room) asides.Broken a = refl
plan_after _ found a = refl

plan_behind : (step : Step) (found : core.Option (Found step)) (a : Calls) → (slots.calls_behind step found a).plan ≡ a.plan
plan_behind step core.none a = refl
plan_behind step (core.some found) a = plan_after step found a

pub same_ids : (s s' : SlotState) (step : Step) (found : core.Option (Found step)) → slots.Makes s step found s' → s'.plan ≡ s.plan
same_ids s s' step found m = ap (λ (c : Calls). c.plan) (m.changes [] [] false) ∙ plan_behind step found (calls_with s [] [] false)

-- so do the slots that a table counts
pub slots_kept : {n : ℕ} {s s' : SlotState} {step : Step} {found : core.Option (Found step)} → n ≡ s.plan.slots → slots.Makes s step found s' → n ≡ s'.plan.slots
slots_kept {n} {s} {s'} {step} {found} e m = e ∙ ap (λ (p : IdPlan). p.slots) (sym (same_ids s s' step found m))

-- ## A step that found a word is made

pub made_aside : {t u fresh : TableState} {i : ℕ} {seat seat' : SeatData} (step : code.Aside) (word : ℕ) → t ≡ u → IsNext u seat (firsts.Aside step) → FindsWord (aside_steps.step_of (asked_or_nothing seat.call) step)
    → slots.Makes t.ids (aside_steps.step_of (asked_or_nothing seat.call) step) (word_found (aside_steps.step_of (asked_or_nothing seat.call) step) word) fresh.ids → Goes t fresh seat seat' (after_word (seat_program (table_sizes t) seat) word)
    → fresh.words ≡ t.words → fresh.letters ≡ t.letters → fresh.links ≡ t.links → fresh.ends ≡ t.ends → Makes u fresh i seat seat' (firsts.Aside step) Unasked
made_aside {t} {u} {fresh} {i} {seat} {seat'} step word e n finds makes goes words letters links ends =
    let aside = aside_steps.step_of (asked_or_nothing seat.call) step in
    let next = behind_aside (seat_program (table_sizes t) seat) aside word (next_along seat (firsts.Aside step) e n) finds in
    makes_along e (
      refl,
      record {
        next = next.next;
        is = next.is;
        found = next.found;
        ids = subst (λ (f : core.Option (Found aside)). slots.Makes t.ids aside f fresh.ids) next.found_is makes;
        goes = subst (Goes t fresh seat seat') next.behind goes;
        words = words;
        letters = letters;
        links = links;
        ends = ends;
      },
    )
