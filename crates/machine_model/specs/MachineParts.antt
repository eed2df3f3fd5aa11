-- The parts of a machine before its first step.
use Rattle.std.specs.Prelude.{ℕ, ◌≡◌, false, List, [], map, fold, replicate, Option, None}
use Rattle.std.specs.List.{AllByRecursion}
use Rattle.sock_words.specs.declared.plain.Plan.{Plan}
use Rattle.sock_words.specs.declared.outcome.Outcome.{Outcome}
use Rattle.corr_core.specs.declared.marks.Plan.{Plan as IdPlan}
use Rattle.seat_programs.specs.declared.task.Task.{Task}
use Rattle.seat_programs.specs.declared.task.Sizes.{Sizes}
use Rattle.seat_programs.specs.Programs.{Program}
use Rattle.seat_programs.specs.Cores.{said, next_step, resolved}
use Rattle.seat_programs.specs.ScriptSetupToEnding.{opening_words, opening_calls, programs, readers_from, sizes_of}
use Rattle.call_slots.specs.CallSlotState.{SlotState, calls_with}
use Rattle.reader_seats.specs.ReaderState.{ReaderData, reader_program}
use Rattle.machine_model.specs.declared.home_message.HomeMessage.{HomeMessage}
use Rattle.client_seats.specs.ClientSeatState.{SeatData, seat_program}

-- each seat is before the first step of its client, and keeps no retry
abbrev pub AreBegun : Sizes → List SeatData → List (List Task) → Type 0
AreBegun sizes seats clients = (map (seat_program sizes) seats ≡ map (λ (program : Program). next_step (resolved [] program)) (programs sizes clients)) × AllByRecursion (λ (s : SeatData). s.waiting ≡ []) seats

-- and each reader is before the first step of its own
abbrev pub AreReading : List ℕ → List ℕ → List ReaderData → Type 0
AreReading calls opens readers = map (reader_program calls) readers ≡ readers_from calls 0 opens

-- what these programs say before their first steps, on top of this
abbrev pub said_first : List (Option Outcome) → List Program → List (Option Outcome)
said_first os programs = fold (λ (us : List (Option Outcome)) (program : Program). said (resolved [] program) us) os programs

-- the parts of a machine of these clients, and of the readers of links with these `open`s: no message and no link is away from home, no
-- message has a place, and no id was made
pub record AreParts (p : Plan) (q : IdPlan) (clients : List (List Task)) (calls opens : List ℕ) (ws : List ℕ) (letters : List (Option HomeMessage)) (hs : List (Option ℕ)) (ns : List ℕ) (ids : SlotState) (ss : List SeatData) (rs : List ReaderData) (os : List (Option Outcome)) : Type 0 where
  pub words_are : ws ≡ opening_words p
  pub letters_are : letters ≡ replicate p.requests None
  pub holders_are : hs ≡ replicate p.links None
  pub nexts_are : ns ≡ replicate p.links 0
  pub ids_are : (links : ℕ) → calls_with ids (replicate q.seats []) (replicate links []) false ≡ opening_calls q links
  pub seats_are : AreBegun (sizes_of p q) ss clients
  pub readers_are : AreReading calls opens rs
  pub outcomes_are : os ≡ said_first (replicate p.operations None) (programs (sizes_of p q) clients)
