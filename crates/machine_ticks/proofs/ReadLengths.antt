-- A step of a reader leaves as many of all as there were, and asks no link to take more.
use Rattle.std.proofs.Common.{◌≡◌, ◌≢◌, ℕ, [], length, slice_set, ap, ◌∙◌}
use Rattle.std.proofs.Math.ListN.{length-set}
use Rattle.sock_io.specs.declared.link.Ready.TheVariants as ready
use Rattle.seat_programs.specs.Asides as asides
use Rattle.seat_programs.specs.Asides.{TakeBytes}
use Rattle.seat_programs.specs.Programs.{Program}
use Rattle.seat_programs.specs.Cores.{resolved}
use Rattle.seat_programs.specs.Ticks.{Answer, OfReady}
use Rattle.seat_states.specs.ProgramStepsOfMachine.{First, OfTable, OfAside}
use Rattle.reader_seats.specs.ReaderState.{ReaderData}
use Rattle.reader_seats.specs.ReaderGoesOn.{GoesOn}
use Rattle.machine_model.specs.Machines.{MachineState, HasSizes, table_of}
use Rattle.machine_model.specs.MachineSteps.{AsMany}
use Rattle.machine_model.specs.ReadingSteps.{SameTables, MadeRead}
use Rattle.machine_model.proofs.MachineLengths.{length_said, length_holders, length_outs, many_same, sizes_stay}

-- no link is asked to take more
pub read_prompt : (old fresh : MachineState) (i : ℕ) (reader reader' : ReaderData) (first : First) (answer : Answer) → MadeRead (table_of old) (table_of fresh) i reader reader' first answer → answer ≢ OfReady ready.NotYet
read_prompt old fresh i reader reader' (OfTable call) answer w yet = let e = w.0 in cc
read_prompt old fresh i reader reader' (OfAside step) answer w yet = by_step step w yet
  where
    by_step : (step : asides.Step) → MadeRead (table_of old) (table_of fresh) i reader reader' (OfAside step) answer → answer ≢ OfReady ready.NotYet
    by_step (TakeBytes k room) w yet = let e = w.1 in cc
    by_step _ w yet = let e = w.0 in cc
read_prompt old fresh i reader reader' _ answer w yet = absurd w

-- ## Sizes

module _ (old fresh : MachineState) (i : ℕ) (reader reader' : ReaderData) where
  said_many : (next : Program) → GoesOn old.calls next reader' old.outcomes fresh.outcomes → length fresh.outcomes ≡ length old.outcomes
  said_many next goes = ap length goes.told ∙ length_said (resolved [] next) old.outcomes

  pub read_many : (first : First) (answer : Answer) → MadeRead (table_of old) (table_of fresh) i reader reader' first answer → AsMany (table_of old) (table_of fresh)
  read_many (OfTable call) answer w = record {
    letters = ap length w.1.same.letters;
    holders = ap length w.1.holders ∙ length_holders i call old.links.holders;
    nexts = ap length w.1.same.nexts;
    outs = length_outs call old.links.outs fresh.links.outs w.1.outs;
    inns = ap length w.1.inns;
    outcomes = said_many _ w.1.goes;
  }
  read_many (OfAside step) answer w = by_step step w
    where
      by_step : (step : asides.Step) → MadeRead (table_of old) (table_of fresh) i reader reader' (OfAside step) answer → AsMany (table_of old) (table_of fresh)
      by_step (TakeBytes k room) w = let t = w.2 in record {
        letters = ap length t.same.letters;
        holders = ap length t.holders;
        nexts = ap length t.same.nexts;
        outs = ap length t.outs;
        inns = ap length t.from.inns_are ∙ length-set old.links.inns k t.from.inn';
        outcomes = said_many _ t.goes;
      }
      by_step _ w = many_same (ap length w.1.same.letters) w.1.links (said_many _ w.1.goes)
  read_many _ answer w = absurd w

  pub read_same : (first : First) (answer : Answer) → MadeRead (table_of old) (table_of fresh) i reader reader' first answer → SameTables (table_of old) (table_of fresh)
  read_same (OfTable call) answer w = w.1.same
  read_same (OfAside step) answer w = by_step step w
    where
      by_step : (step : asides.Step) → MadeRead (table_of old) (table_of fresh) i reader reader' (OfAside step) answer → SameTables (table_of old) (table_of fresh)
      by_step (TakeBytes k room) w = w.2.same
      by_step _ w = w.1.same
  read_same _ answer w = absurd w

-- the tables have the sizes that their plans say
pub read_sizes : (old fresh : MachineState) (k : ℕ) (reader' : ReaderData) → HasSizes old → AsMany (table_of old) (table_of fresh) → SameTables (table_of old) (table_of fresh) → length fresh.ends ≡ length old.ends → fresh.readers ≡ slice_set old.readers k reader' → fresh.seats ≡ old.seats
    → fresh.opens ≡ old.opens → HasSizes fresh
read_sizes old fresh k reader' h many same ends readers seats opens = sizes_stay old fresh h many same.plan same.id_plan same.calls ends (ap length seats) (ap length readers ∙ length-set old.readers k reader') opens
