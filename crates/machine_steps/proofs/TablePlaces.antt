-- The readers as they lie in memory, and what a step of one makes of a machine.
use Rattle.std.proofs.Common.{◌≡◌, ℕ, ◌<◌, ◌≤◌, List, map, length, slice_set, slice_index_or, Option, Some, None, option_map, IfSome, IfNone, ap, ap₂, sym, ◌∙◌, arith, subst}
use Rattle.std.proofs.Math.ListN.{length-set, length-map}
use Rattle.atomic_table.proofs.Lists.{at_index}
use mathlib.Core.Option as core
use lib.ListN.{get_elem?}
use Rattle.seat_states.specs.ProgramStepsOfMachine.{first_in}
use Rattle.reader_points.specs.declared.point.ReadStep.{ReadStep}
use Rattle.reader_points.specs.ReaderCodeSteps.{step_as}
use Rattle.reader_seats.specs.ReaderState.{ReaderData, reader_program}
use Rattle.machine_model.specs.declared.tick.Tick.{Tick}
use Rattle.seat_states.specs.declared.point.Step.{Step}
use Rattle.client_seats.specs.ClientSeatFollowing.{IsPrepared}
use Rattle.client_seats.specs.ClientSeatState.{SeatData}
use Rattle.machine_model.specs.Machines.{MachineState, TableState, machine_sizes, table_of}
use Rattle.machine_model.specs.MachineSteps.{MayStand, PreparedAt}
use Rattle.machine_model.specs.TickAnswersOfStep.{TickTold}
use Rattle.machine_model.specs.ReadingSteps.{NextReadIs, HasNoRead, IsFitRead, ReadFits, ReadTold, TickRead}
use Rattle.corr_core.proofs.NoteSums.{at_length}

module _ (m : MachineState) (k j : ℕ) (there : j ≡ k) where
  pub reader_there : (x : ReaderData) → j < length m.readers → x ≡ slice_index_or m.readers j x → get_elem? m.readers k ≡ core.some x
  reader_there x h e = subst (λ (i : ℕ). get_elem? m.readers i ≡ core.some x) there (at_index m.readers j x h e)

  pub reader_within : (x : ReaderData) → get_elem? m.readers k ≡ core.some x → j < length m.readers
  reader_within x e = let h = at_length m.readers k x e in omega (arith, h, there)

  -- the next step of the reader that lies there
  pub read_named : (x : ReaderData) (o : Option ReadStep) → j < length m.readers → x ≡ slice_index_or m.readers j x → option_map (step_as x.asked) o ≡ first_in (reader_program m.calls x) → IfSome o (λ step. NextReadIs m k step)
  read_named x None h e first = tt
  read_named x (Some step) h e first = record { reader = x; at = reader_there x h e; is = sym first }

  pub read_unnamed : (x : ReaderData) (o : Option ReadStep) → j < length m.readers → x ≡ slice_index_or m.readers j x → option_map (step_as x.asked) o ≡ first_in (reader_program m.calls x) → IfNone o (HasNoRead m k)
  read_unnamed x (Some step) h e first = tt
  read_unnamed x None h e first = λ reader at. subst (λ (r : ReaderData). first_in (reader_program m.calls r) ≡ None) (core.some-injective x reader (sym (reader_there x h e) ∙ at)) (sym first)

  pub read_past : length m.readers ≤ j → HasNoRead m k
  read_past h reader at = absurd (let inside = reader_within reader at in omega (arith, h, inside))

  module _ (x : ReaderData) (is : x ≡ slice_index_or m.readers j x) (step : ReadStep) (n : NextReadIs m k step) where
    within : j < length m.readers
    within = reader_within n.reader n.at

    lies : x ≡ n.reader
    lies = core.some-injective x n.reader (sym (reader_there x within is) ∙ n.at)

    pub fit_here : ReadFits m k step → IsFitRead (table_of m) x step
    fit_here fits = let f = fits n.reader n.at in subst (λ (r : ReaderData). IsFitRead (table_of m) r step) (sym lies) (record { calls = f.0; next = n.is; fits = f.1 })

    pub read_told : (fresh : MachineState) (i : ℕ) (z : ReaderData) {tick : Tick} → fresh.readers ≡ slice_set m.readers j z → fresh.seats ≡ m.seats → fresh.opens ≡ m.opens → fresh.short ≡ m.short → ReadTold (table_of m) (table_of fresh) i x z step tick → TickRead m fresh i k step tick
    read_told fresh i z {tick} readers seats opens short h = record {
      readers = record {
        one = n.reader;
        at = n.at;
        one' = z;
        all = readers ∙ ap (λ n. slice_set m.readers n z) there;
        told = subst (λ (r : ReaderData). ReadTold (table_of m) (table_of fresh) i r z step tick) lies h;
      };
      seats = seats;
      opens = opens;
      short = short;
    }

-- as many as before
pub same_many : {A B : Type 0} (f : A → B) (items : List A) (j : ℕ) (z : A) → length (map f (slice_set items j z)) ≡ length (map f items)
same_many f items j z = length-map (slice_set items j z) f ∙ length-set items j z ∙ sym (length-map items f)

-- the tables as they lie in memory
pub read_in : {m n : MachineState} {k : ℕ} {step : ReadStep} → n ≡ m → NextReadIs m k step → NextReadIs n k step
read_in {m} {n} {k} {step} e h = subst (λ (x : MachineState). NextReadIs x k step) (sym e) h

pub read_along : {m n fresh : MachineState} {i k : ℕ} {step : ReadStep} {tick : Tick} → m ≡ n → TickRead m fresh i k step tick → TickRead n fresh i k step tick
read_along {m} {n} {fresh} {i} {k} {step} {tick} e h = subst (λ (x : MachineState). TickRead x fresh i k step tick) e h

-- ## The seat of a client, beside the tables as they were

-- the machine with these tables and seats
abbrev pub machine_with : MachineState → TableState → List SeatData → MachineState
machine_with m t seats = record m { table = t; seats = seats }

pub prepared_at : (m : MachineState) (t : TableState) (seats : List SeatData) (i : ℕ) (seat seat' : SeatData) → t ≡ table_of m → seats ≡ slice_set m.seats i seat' → get_elem? m.seats i ≡ core.some seat → IsPrepared (machine_sizes m) seat seat' → MayStand seat' → PreparedAt m (machine_with m t seats) i
prepared_at m t seats i seat seat' tables written at prepared stand = record {
  seat = seat;
  at = at;
  seat' = seat';
  is = ap₂ (λ (x : TableState) (ss : List SeatData). machine_with m x ss) tables written;
  prepared = prepared;
  stand = stand;
}

pub prepared_along : {m n fresh : MachineState} {i : ℕ} → m ≡ n → PreparedAt m fresh i → PreparedAt n fresh i
prepared_along {m} {n} {fresh} {i} e h = subst (λ (x : MachineState). PreparedAt x fresh i) e h

-- what the tick of a client's step answers
pub tick_as : {m fresh : MachineState} {i : ℕ} {step : Step} {tick own : Tick} → tick ≡ own → TickTold m fresh i step own → TickTold m fresh i step tick
tick_as {m} {fresh} {i} {step} {tick} {own} e h = subst (λ (x : Tick). TickTold m fresh i step x) (sym e) h
