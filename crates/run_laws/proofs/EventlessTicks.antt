-- Where a tick leaves all as it is, its event is none.
use Rattle.std.proofs.Common.{◌≡◌, ℕ, List, refl}
use Rattle.sock_words.specs.declared.plain.Plan.{Plan}
use Rattle.sock_model.specs.declared.view.View.{View}
use Rattle.seat_programs.specs.Programs.{Program, Do, PutBytes, AskReady}
use Rattle.seat_programs.specs.Ticks.{Answer}
use Rattle.programs_allowed.specs.program_steps.proofs.TickCases.{IsStill}
use Rattle.run_laws.specs.World.{Nothing}
use Rattle.run_laws.specs.Seen.{next_event}

pub still_nothing : (p : Plan) (seat : ℕ) (words : List ℕ) (v : View) (answer : Answer) (first : Program) → IsStill first → next_event p seat words v answer first ≡ Nothing
still_nothing p seat words v answer (Do call next) still = absurd still
still_nothing p seat words v answer (PutBytes k asked bytes next) still = absurd still
still_nothing p seat words v answer (AskReady k next) still = absurd still
still_nothing p seat words v answer _ still = refl
