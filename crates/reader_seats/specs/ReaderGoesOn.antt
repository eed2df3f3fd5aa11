-- How a reader goes on behind a step.
use Rattle.std.specs.Prelude.{ℕ, ◌≡◌, List, [], take, Option}
use Rattle.sock_words.specs.declared.outcome.Outcome.{Outcome}
use Rattle.sock_io.specs.declared.link.Take.{Take}
use Rattle.sock_io.specs.declared.link.Take.TheVariants as takes
use Rattle.seat_programs.specs.Asides.{Taking, Bytes, Nothing, AtEnd, Closed, Broken}
use Rattle.seat_programs.specs.Cores.{resolved, still_waiting, said, next_step}
use Rattle.seat_programs.specs.Programs.{Program}
use Rattle.reader_seats.specs.ReaderState.{ReaderData, reader_program}

-- it goes on with this program, over these calls: what comes before its next step is said, and it keeps no retry
pub record GoesOn (calls : List ℕ) (next : Program) (reader : ReaderData) (old new : List (Option Outcome)) : Type 0 where
  pub program : reader_program calls reader ≡ next_step (resolved [] next)
  pub told : new ≡ said (resolved [] next) old
  pub waiting : still_waiting [] next ≡ []

-- what a take found, by what the link answered and gave into the room
abbrev pub taking_of : List ℕ → Take → Taking
taking_of room (takes.Took n) = Bytes (take n room)
taking_of room takes.Empty = Nothing
taking_of room takes.End = AtEnd
taking_of room takes.Closed = Closed
taking_of room takes.Failed = Broken
