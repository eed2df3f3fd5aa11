-- The seats as they lie in memory.
use Rattle.std.proofs.Common.{◌≡◌, refl, ℕ, ◌<◌, ◌≤◌, Bool, List, [], ◌∷◌, map, length, slice_set, slice_index_or, Option, Some, None, option_map, IfSome, IfNone, ap, sym, ◌∙◌, arith, subst}
use Rattle.std.proofs.lemmas.List.{map-set, length-map}
use Rattle.std.proofs.Math.Seq.{map-set_same}
use Rattle.atomic_table.proofs.Lists.{at_map, at_index}
use mathlib.Core.Option as core
use lib.ListN.{get_elem?}
use Rattle.seat_states.specs.declared.point.Step.{Step}
use Rattle.seat_states.specs.ProgramAtPoint.{point_program}
use Rattle.seat_states.specs.ProgramStepsOfMachine.{step_as, first_in}
use Rattle.machine_model.specs.declared.tick.Tick.{Tick}
use Rattle.client_seats.specs.declared.seat.Seat.{Seat}
use Rattle.client_seats.specs.ClientSeatState.{SeatData, seat_data, seat_program, around}
use Rattle.reader_seats.specs.ReaderState.{ReaderData}
use Rattle.machine_model.specs.Machines.{MachineState, TableState, table_sizes}
use Rattle.machine_model.specs.MachineSteps.{NextIs, HasNoStep, IsFitStep, ReadyAt, StepFits}
use Rattle.machine_model.specs.TickAnswersOfStep.{StepTold, TickTold}
use Rattle.machine_model.specs.Driving.{AsksNone, IsPlain, BeganEnding}
use Rattle.corr_core.proofs.NoteSums.{at_length}

same_some : {A : Type 0} {a b : A} → core.some a ≡ core.some b → a ≡ b
same_some e = cc

-- the tables with these seats
abbrev pub view_of : TableState → List Seat → List ReaderData → List ℕ → Bool → MachineState
view_of t items readers opens short = record { table = t; seats = map seat_data items; readers = readers; opens = opens; short = short }

module _ (t : TableState) (items : List Seat) (readers : List ReaderData) (opens : List ℕ) (short : Bool) (i j : ℕ) (there : j ≡ i) where
  pub seat_there : (x : Seat) → j < length items → x ≡ slice_index_or items j x → get_elem? (map seat_data items) i ≡ core.some (seat_data x)
  seat_there x h e = subst (λ (k : ℕ). get_elem? (map seat_data items) k ≡ core.some (seat_data x)) there (at_map seat_data items j x (at_index items j x h e))

  pub seat_within : (s : SeatData) → get_elem? (map seat_data items) i ≡ core.some s → j < length items
  seat_within s e = let h = at_length (map seat_data items) i s e in omega (arith, length-map items seat_data)

  -- the next step of the seat that lies there
  pub named : (x : Seat) (o : Option Step) → j < length items → x ≡ slice_index_or items j x → (option_map (step_as (around (table_sizes t) (seat_data x))) o ≡ first_in (point_program (around (table_sizes t) (seat_data x)) x.point)) → IfSome o (λ step. NextIs (view_of t items readers opens short) i step)
  named x None h e first = tt
  named x (Some step) h e first = record { seat = seat_data x; at = seat_there x h e; is = sym first }

  pub unnamed : (x : Seat) (o : Option Step) → j < length items → x ≡ slice_index_or items j x → (option_map (step_as (around (table_sizes t) (seat_data x))) o ≡ first_in (point_program (around (table_sizes t) (seat_data x)) x.point)) → IfNone o (HasNoStep (view_of t items readers opens short) i)
  unnamed x (Some step) h e first = tt
  unnamed x None h e first = λ seat at. subst (λ (s : SeatData). first_in (seat_program (table_sizes t) s) ≡ None) (same_some (sym (seat_there x h e) ∙ at)) (sym first)

  pub past : length items ≤ j → HasNoStep (view_of t items readers opens short) i
  past h seat at = absurd (let inside = seat_within seat at in omega arith)

  module _ (x y : Seat) (is : x ≡ slice_index_or items j x) (same : seat_data y ≡ seat_data x) (step : Step) (n : NextIs (view_of t items readers opens short) i step) where
    within : j < length items
    within = seat_within n.seat n.at

    lies : seat_data y ≡ n.seat
    lies = same ∙ same_some (sym (seat_there x within is) ∙ n.at)

    pub fit_here : ReadyAt (view_of t items readers opens short) i → StepFits (view_of t items readers opens short) i step → IsFitStep t (seat_data y) step
    fit_here ready fits = let f = fits n.seat n.at in subst (λ (s : SeatData). IsFitStep t s step) (sym lies) (record { next = n.is; ready = ready n.seat n.at; stand = f.0; fits = f.1 })

    pub plain_here : i ≡ 0 → IsPlain (view_of t items readers opens short) → AsksNone (seat_program (table_sizes t) (seat_data y))
    plain_here first plain = subst (λ (s : SeatData). AsksNone (seat_program (table_sizes t) s)) (sym lies) ((plain n.seat (subst (λ k. get_elem? (map seat_data items) k ≡ core.some n.seat) first n.at)).0)

    pub told_here : {t' : TableState} (z : Seat) {tick : Tick} → StepTold t t' i (seat_data y) (seat_data z) step tick → TickTold (view_of t items readers opens short) (view_of t' (slice_set items j z) readers opens short) i step tick
    told_here {t'} z {tick} h = record {
      seats = record {
        one = n.seat;
        at = n.at;
        one' = seat_data z;
        all = map-set seat_data items j z ∙ ap (λ k. slice_set (map seat_data items) k (seat_data z)) there;
        told = subst (λ (s : SeatData). StepTold t t' i s (seat_data z) step tick) lies h;
      };
      readers = refl;
      opens = refl;
      short = refl;
    }

-- the seat gets room, and nothing else
pub with_room : (items : List Seat) (j : ℕ) (x y : Seat) → x ≡ slice_index_or items j x → seat_data y ≡ seat_data x → map seat_data (slice_set items j y) ≡ map seat_data items
with_room items j x y e h = map-set_same seat_data items j y x (h ∙ ap seat_data e)

-- the tables as they lie in memory
pub next_in : {m n : MachineState} {i : ℕ} {step : Step} → n ≡ m → NextIs m i step → NextIs n i step
next_in {m} {n} {i} {step} e h = subst (λ (x : MachineState). NextIs x i step) (sym e) h

pub told_along : {m n fresh : MachineState} {i : ℕ} {step : Step} {tick : Tick} → m ≡ n → TickTold m fresh i step tick → TickTold n fresh i step tick
told_along {m} {n} {fresh} {i} {step} {tick} e h = subst (λ (x : MachineState). TickTold x fresh i step tick) e h

pub began_along : {m n fresh : MachineState} → m ≡ n → BeganEnding m fresh → BeganEnding n fresh
began_along {m} {n} {fresh} e w = subst (λ (x : MachineState). BeganEnding x fresh) e w
