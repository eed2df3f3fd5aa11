-- The view of each seat allows its step on the table of the sockets.
use Rattle.std.proofs.Common.{◌≡◌, List}
use mathlib.Core.Option.{some}
use lib.ListN.{get_elem?}
use Rattle.sock_words.specs.declared.plain.Plan.{Plan}
use Rattle.sock_model.specs.declared.view.View.{View}
use Rattle.seat_programs.specs.Programs.{Program, Do, Write, Round}
use Rattle.seat_programs.specs.SendAndWritePrograms.{block}
use Rattle.seat_programs.specs.LoopRounds.{round, first_step}
use Rattle.seat_programs.specs.Cores.{Core}
use Rattle.seat_programs.specs.Ticks.{Moment}
use Rattle.story_steps.specs.Below.programs_allowed.specs.program_steps.specs.ProgramGoesOn.{GoesOn}
use Rattle.story_steps.specs.Below.programs_allowed.specs.program_steps.specs.SoundSeats.{Sound}
use Rattle.story_steps.specs.Below.programs_allowed.specs.program_steps.proofs.TickCases as cases
use Rattle.story_steps.specs.Below.programs_allowed.specs.program_steps.proofs.TickCases.{elem_there}
use Rattle.story_ticks.proofs.TicksKeepCallStory.{AllowsDo}

module _ (p : Plan) where
  step_allows : (v : View) (program : Program) → GoesOn p v program → AllowsDo p program
  step_allows v (Do call next) g = (v, g.0)
  step_allows v _ g = tt

  first_allows : (v : View) (program : Program) → GoesOn p v (first_step program) → AllowsDo p (first_step program)
  first_allows v (Write w after) g = step_allows v (block w after) g
  first_allows v (Round head next) g = step_allows v (round head next) g
  first_allows v (Do call next) g = step_allows v (Do call next) g
  first_allows v _ g = tt

  pub allows : (c : Core) (vs : List View) (m : Moment) → Sound p c vs → (seat : Rattle.seat_programs.specs.Cores.SeatState) → get_elem? c.seats m.seat ≡ some seat → AllowsDo p (first_step seat.program)
  allows c vs m sound seat at = let v = elem_there c.seats vs m.seat seat sound.each at in
      first_allows v.0 seat.program (cases.goes_first p v.0 seat.program (sound.seats m.seat seat v.0 at v.1).goes_on)
