-- What each of the two tables relies on of the other, the other's rule gives.
use Rattle.std.proofs.Common.{◌≡◌, ℕ, ◌<◌, ◌≤◌, List, refl, sym, ap, subst, arith}
use mathlib.Core.Option.{some}
use lib.ListN.{get_elem?}
use Rattle.sock_words.specs.declared.plain.Plan.{Plan}
use Rattle.sock_model.specs.declared.view.View.{View}
use Rattle.seat_programs.specs.corr_core.specs.declared.marks.Plan.{Plan as IdPlan}
use Rattle.seat_programs.specs.Asides.{Step, Found, MakeId, LoadIdWord, LockId, PostId, UnlockId, EndId, TakeCall, TakeBytes}
use Rattle.seat_programs.specs.TableSteps.{TableStep, OnSlot, FindLink, LoadCode}
use Rattle.seat_programs.specs.Programs.{Program, Do, Write, Aside, Round}
use Rattle.seat_programs.specs.Cores.{Core, found_at}
use Rattle.seat_programs.specs.StepTables.{word_of}
use Rattle.seat_programs.specs.FoundAndChangedAside.{found_in, call_at, at_last}
use Rattle.seat_programs.specs.SendAndWritePrograms.{block}
use Rattle.seat_programs.specs.LoopRounds.{round, first_step}
use Rattle.seat_programs.specs.Ticks.{Answer, Moment, IsAnswer, IsAnswered, taken}
use Rattle.programs_allowed.specs.program_steps.specs.IdWordFits.{FitsFound}
use Rattle.seat_programs.specs.StepTables.{May}
use Rattle.programs_allowed.specs.program_steps.specs.ProgramGoesOn.{GoesOn}
use Rattle.programs_allowed.specs.program_steps.specs.SoundSeats.{state, Sound, FitsBeside, IsFitting}
use Rattle.programs_allowed.specs.program_steps.specs.TicksLeftAtMost.{IsSlot, IsCountedStep, IsCountedAt, IsCounted}
use Rattle.programs_allowed.specs.program_steps.proofs.TickCases as cases
use Rattle.programs_allowed.specs.program_steps.proofs.TickCases.{elem_there}
use Rattle.programs_allowed.specs.sock_runs.proofs.Founds.{finds}
use Rattle.programs_allowed.specs.id_runs.specs.HeldIdTokens.{IdView, MayId}
use Rattle.programs_allowed.specs.id_runs.specs.Goes.{FindsId, IdGoesOn, SoundIds, FitsSock, FitsFirst, IsFittingIds}
use Rattle.programs_allowed.specs.id_runs.proofs.AsideStepsKeepRule.{finds_ids, call_there}
use Rattle.programs_allowed.specs.id_runs.proofs.IdLoopRounds.{ids_round}
use Rattle.programs_allowed.specs.id_runs.proofs.IdPrograms.{block_goes}

-- what a step may find by the rule of the ids fits
fits_found : (p : Plan) (q : IdPlan) (u : IdView) (step : Step) (found : Found step) → MayId p q u step → FindsId p q u step found → FitsFound p step found
fits_found p q u (TakeCall i) found may f = f.0
fits_found p q u (LoadIdWord i) found may f = λ some_. let r = f.0 some_ in omega (arith, r)
fits_found p q u (LockId i from) found may f = λ some_. let r = f.0 some_ in omega (arith, r)
fits_found p q u (PostId i from e) found may f = λ some_. let r = f.0 some_ in omega (arith, r)
fits_found p q u (UnlockId i from advance) found may f = let m = may.1 in let longer = f m.0 m.1 m.2 m.3 m.4 m.5 m.6 in let a = longer.range_is in let b = longer.attempt_is in let room = m.8 in omega (arith, a, b, room)
fits_found p q u _ found may f = tt

module _ (p : Plan) (q : IdPlan) (narrow : q.slots ≤ 65536) (c : Core) (us : List IdView) (ids : SoundIds p q c us) (m : Moment) where
  -- the first step of a round is one that the view allows
  goes_first : (u : IdView) (program : Program) → IdGoesOn p q u program → IdGoesOn p q u (first_step program)
  goes_first u (Write w after) g = block_goes p q narrow u w after g
  goes_first u (Round head next) g = ids_round p q u head next g
  goes_first u _ g = g

  beside : (u : IdView) → get_elem? us m.seat ≡ some u → (program : Program) → IdGoesOn p q u program → FitsBeside p c m.answer program
  beside u at (Aside step next) g = λ found is. fits_found p q u step found g.0 (finds_ids p q c.calls ids.plan us ids.rule m.seat u at (ids.real m.seat u at) (ids.called, ids.placed) ids.homes step (taken m.answer) found is g.0)
  beside u at _ g = tt

  -- what steps aside find is as the table of the sockets relies on
  pub is_fitting : IsFitting p c m
  is_fitting seat at = let v = elem_there c.seats us m.seat seat ids.each at in beside v.0 v.1 (first_step seat.program) (goes_first v.0 seat.program (ids.seats m.seat seat v.0 at v.1))

  -- ## What is counted

  is_slot : (i : ℕ) → i < q.slots → IsSlot c i
  is_slot i inside = (subst (λ (r : IdPlan). i < r.slots) (sym ids.plan) inside, (let sized = ids.rule.sized in omega (arith, sized, inside)))

  counted_step : (u : IdView) (step : Step) → MayId p q u step → IsCountedStep c step
  counted_step u (MakeId i range) may = (is_slot i may.0, may.2, may.3)
  counted_step u (LockId i from) may = (is_slot i may.0, may.1)
  counted_step u (PostId i from e) may = (is_slot i may.0, may.3, may.1)
  counted_step u (UnlockId i from advance) may = let m = may.1 in let longer = m.7 in let a = longer.range_is in let b = longer.attempt_is in let s = longer.state_is in let room = m.8 in (is_slot i may.0, omega (arith, s), omega (arith, a, b, room))
  counted_step u (EndId i) may = is_slot i may.0
  counted_step u _ may = tt

  -- the step finds something
  finds_some : (u : IdView) → get_elem? us m.seat ≡ some u → (step : Step) (next : Found step → Program) → MayId p q u step → IsAnswer (Aside step next) m.answer → (found : Found step) × (found_in step c.calls (taken m.answer) ≡ some found)
  finds_some u at (TakeCall i) next may a = let t = call_there p q c.calls ids.plan us ids.rule m.seat u at (ids.real m.seat u at) i may.0 may.1 in (t.0, ap call_at t.1)
  finds_some u at (TakeBytes k room) next may a = (at_last c.calls.ending a.0, ap (λ (x : Answer). found_in (TakeBytes k room) c.calls (taken x)) a.1)
  finds_some u at _ next may a = (_, refl)

  counted : (u : IdView) → get_elem? us m.seat ≡ some u → (program : Program) → IdGoesOn p q u program → IsAnswer program m.answer → IsCountedAt c m.answer program
  counted u at (Aside step next) g a = (finds_some u at step next g.0 a, counted_step u step g.0)
  counted u at _ g a = tt

  -- each step aside finds something, and what it is to change it may change
  pub is_counted : IsAnswered c m → IsCounted c m
  is_counted answered seat at = let v = elem_there c.seats us m.seat seat ids.each at in
      counted v.0 v.1 (first_step seat.program) (goes_first v.0 seat.program (ids.seats m.seat seat v.0 at v.1)) (cases.answer_begins seat.program m.answer (answered seat at))

-- ## What the ids rely on

module _ (p : Plan) (q : IdPlan) (c : Core) (vs : List View) (us : List IdView) (sound : Sound p c vs) (ids : SoundIds p q c us) (m : Moment) where
  fits_call : (v : View) → get_elem? vs m.seat ≡ some v → (call : TableStep) → May p v call → FitsSock call (found_at c.words (word_of p call))
  fits_call v at (OnSlot (FindLink i h)) may = let f = finds p (state c vs) sound.lawful m.seat v at sound.limits.slots (OnSlot (FindLink i h)) may in let low = f.0 in let links = sound.limits.links in omega (arith, low, links)
  fits_call v at (OnSlot (LoadCode i h)) may = ids.codes i may.0
  fits_call v at _ may = tt

  fits_step : (v : View) → get_elem? vs m.seat ≡ some v → (program : Program) → GoesOn p v program → FitsFirst p c program
  fits_step v at (Do call next) g = fits_call v at call g.0
  fits_step v at _ g = tt

  fits_first : (v : View) → get_elem? vs m.seat ≡ some v → (program : Program) → GoesOn p v (first_step program) → FitsFirst p c (first_step program)
  fits_first v at (Write w after) g = fits_step v at (block w after) g
  fits_first v at (Round head next) g = fits_step v at (round head next) g
  fits_first v at (Do call next) g = fits_step v at (Do call next) g
  fits_first v at _ g = tt

  -- the numbers of links and the codes that steps on the sockets find are as the ids rely on
  pub is_fitting_ids : IsFittingIds p c m
  is_fitting_ids seat at = let v = elem_there c.seats vs m.seat seat sound.each at in
      fits_first v.0 v.1 seat.program (cases.goes_first p v.0 seat.program (sound.seats m.seat seat v.0 at v.1).goes_on)
