-- The steps of a reader's code as those of its program.
use Rattle.seat_programs.specs.Asides as asides
use Rattle.seat_programs.specs.Asides.{Found, Taking}
use Rattle.seat_programs.specs.Programs.{Program, Aside, Round, Rest}
use Rattle.seat_programs.specs.LoopRounds.{round}
use Rattle.sock_message.specs.Asked.{Asked}
use Rattle.call_points.specs.AsideCodeSteps as aside_steps
use Rattle.seat_states.specs.ProgramStepsOfMachine.{First, OfTable, OfAside, step_of}
use Rattle.reader_points.specs.declared.point.ReadStep.{ReadStep}
use Rattle.reader_points.specs.declared.point.ReadStep.TheVariants as steps

-- with this call in hand
abbrev pub step_as : Asked → ReadStep → First
step_as asked (steps.Table call) = OfTable (step_of call)
step_as asked (steps.Aside step) = OfAside (aside_steps.step_of asked step)

-- behind a take
abbrev pub with_taken : (step : asides.Step) → (Found step → Program) → Taking → Program
with_taken (asides.TakeBytes k room) next taking = next taking
with_taken other next taking = Rest

abbrev pub taken_behind : Program → Taking → Program
taken_behind (Aside step next) taking = with_taken step next taking
taken_behind other taking = other

abbrev pub after_taking : Program → Taking → Program
after_taking (Round head next) taking = taken_behind (round head next) taking
after_taking other taking = other
