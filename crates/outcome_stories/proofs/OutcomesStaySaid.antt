-- An outcome that was said stays said, so no step is made for its operation any more.
use Rattle.std.proofs.Common.{◌≡◌, ℕ, ◌<◌, inl, inr, List, [], ◌∷◌, length, sym, ◌∙◌, subst}
use Rattle.std.specs.Prelude.{Option, Some, None, slice_get}
use mathlib.Core.Logic.{dite}
use mathlib.Core.Option as core
use native.Mathlib.Decide.{ℕ_discrete}
use lib.ListN.{get_elem?, set}
use Rattle.sock_words.specs.declared.plain.Plan.{Plan}
use Rattle.sock_words.specs.declared.outcome.Outcome.{Outcome}
use Rattle.seat_programs.specs.sock_io.specs.declared.link.Put.{Put}
use Rattle.seat_programs.specs.sock_io.specs.declared.link.Ready.{Ready}
use Rattle.sock_model.specs.declared.home.Home.{Home}
use Rattle.sock_model.specs.UnplacedMessages.{HeadedBytes}
use Rattle.sock_model.specs.ChainLawReads.{message, link_home}
use Rattle.seat_programs.specs.declared.task.Task.{Task}
use Rattle.seat_programs.specs.Asides.{Step, Found}
use Rattle.seat_programs.specs.FoundAndChangedAside.{found_in, calls_after}
use Rattle.seat_programs.specs.TableSteps.{TableStep}
use Rattle.seat_programs.specs.Cores.{Core, SeatState, resolved, said, waiting_at, found_at}
use Rattle.seat_programs.specs.StepTables.{word_of}
use Rattle.seat_programs.specs.SlotFreedByDrop.{MadeIn}
use Rattle.seat_programs.specs.Programs.{Program, Do, Say, Sent, TakeMessage, TakeHome, PutHome, PutBytes, AskReady, Write, Aside, Round}
use Rattle.seat_programs.specs.LoopRounds.{round}
use Rattle.seat_programs.specs.SendAndWritePrograms.{block}
use Rattle.seat_programs.specs.Ticks.{Answer, OfPut, OfReady, Moment, ticked, run, taken, step_with, tick_with, with_message, with_link, with_put, with_ready, with_found}
use Rattle.outcome_stories.proofs.Members.{get_within, get_set_here, get_set_else}

-- operation o has an outcome
abbrev pub IsSaidOf : List (Option Outcome) → ℕ → Type 0
IsSaidOf os o = (x : Outcome) × (slice_get os o ≡ Some (Some x))

set_keeps : (os : List (Option Outcome)) (n o : ℕ) (x : Outcome) → IsSaidOf os o → IsSaidOf (set os n (Some x)) o
set_keeps os n o x t = dite (ℕ_discrete n o)
    (λ e. (x, subst (λ z. slice_get (set os n (Some x)) z ≡ Some (Some x)) e (get_set_here os n (Some x) (subst (λ z. z < length os) (sym e) (get_within os o (Some t.0) t.1)))))
    (λ ne. (t.0, get_set_else os n o (Some x) ne ∙ t.1))

pub said_keeps : (q : Program) (os : List (Option Outcome)) (o : ℕ) → IsSaidOf os o → IsSaidOf (said q os) o
said_keeps (Say n x next) os o t = said_keeps next (set os n (Some x)) o (set_keeps os n o x t)
said_keeps (Sent n next) os o t = said_keeps next os o t
said_keeps _ os o t = t

module _ (p : Plan) (i : ℕ) (seat : SeatState) (c : Core) (o : ℕ) (t : IsSaidOf c.outcomes o) where
  message_said : (q : ℕ) (x : core.Option HeadedBytes) (next : HeadedBytes → Program) → IsSaidOf (with_message p i seat c q x next).outcomes o
  message_said q core.none next = t
  message_said q (core.some letter) next = said_keeps (resolved (waiting_at c.calls.waiting i) (next letter)) c.outcomes o t

  link_said : (k : ℕ) (x : core.Option (List ℕ × ℕ)) (next : ℕ → Program) → IsSaidOf (with_link p i seat c k x next).outcomes o
  link_said k core.none next = t
  link_said k (core.some home) next = said_keeps (resolved (waiting_at c.calls.waiting i) (next home.1)) c.outcomes o t

  put_said : (bytes : List ℕ) (answer : Answer) (next : Put → Program) → IsSaidOf (with_put p i seat c bytes answer next).outcomes o
  put_said bytes (OfPut answer) next = said_keeps (resolved (waiting_at c.calls.waiting i) (next answer)) c.outcomes o t
  put_said bytes _ next = t

  ready_said : (answer : Answer) (next : Ready → Program) → IsSaidOf (with_ready p i seat c answer next).outcomes o
  ready_said (OfReady answer) next = said_keeps (resolved (waiting_at c.calls.waiting i) (next answer)) c.outcomes o t
  ready_said _ next = t

  found_said : (step : Step) (x : core.Option (Found step)) (next : Found step → Program) → IsSaidOf (with_found p i seat c step x next).outcomes o
  found_said step core.none next = t
  found_said step (core.some found) next = said_keeps (resolved (waiting_at (calls_after step found c.calls).waiting i) (next found)) c.outcomes o t

  step_said : (answer : Answer) (program : Program) → IsSaidOf (step_with p i seat c answer program).outcomes o
  step_said answer (Do call next) = said_keeps (resolved (waiting_at c.calls.waiting i) (next (found_at c.words (word_of p call)))) c.outcomes o t
  step_said answer (TakeMessage q next) = message_said q (message (λ (home : Home). home) c.homes q) (λ letter. next letter.0 letter.1)
  step_said answer (TakeHome k next) = link_said k (link_home (λ (home : Home). home) p c.homes k) next
  step_said answer (PutHome k n after) = said_keeps (resolved (waiting_at c.calls.waiting i) after) c.outcomes o t
  step_said answer (PutBytes k asked bytes next) = put_said bytes answer next
  step_said answer (AskReady k next) = ready_said answer next
  step_said answer (Aside step next) = found_said step (found_in step c.calls (taken answer)) next
  step_said answer _ = t

  tick_said : (answer : Answer) (program : Program) → IsSaidOf (tick_with p i seat c answer program).outcomes o
  tick_said answer (Write w after) = step_said answer (block w after)
  tick_said answer (Round head next) = step_said answer (round head next)
  tick_said answer program = step_said answer program

pub ticked_said : (p : Plan) (c : Core) (m : Moment) (o : ℕ) → IsSaidOf c.outcomes o → IsSaidOf (ticked p c m).outcomes o
ticked_said p c m o t = by_seat (get_elem? c.seats m.seat)
  where
    by_seat : (x : core.Option SeatState) → IsSaidOf (elim x as (λ y. Core) [ core.none ↦ c | core.some seat ↦ tick_with p m.seat seat c m.answer seat.program ]).outcomes o
    by_seat core.none = t
    by_seat (core.some seat) = tick_said p m.seat seat c o t m.answer seat.program

pub run_said : (p : Plan) (c : Core) (ms : List Moment) (o : ℕ) → IsSaidOf c.outcomes o → IsSaidOf (run p c ms).outcomes o
run_said p c [] o t = t
run_said p c (m ∷ ms) o t = run_said p (ticked p c m) ms o (ticked_said p c m o t)

unsaid_none : (x : Option (Option Outcome)) (y : Outcome) → x ≡ Some None → x ≡ Some (Some y) → ⊥
unsaid_none x y e f = cc

-- no step is made for it then
pub made_unsaid : (p : Plan) (clients : List (List Task)) (c : Core) (ms : List Moment) (i o : ℕ) (call : TableStep) (found : ℕ) → MadeIn p clients c ms i o call found → IsSaidOf c.outcomes o → ⊥
made_unsaid p clients c [] i o call found made t = made
made_unsaid p clients c (m ∷ ms) i o call found (inl made) t = unsaid_none (slice_get c.outcomes o) t.0 made.at.unsaid t.1
made_unsaid p clients c (m ∷ ms) i o call found (inr made) t = made_unsaid p clients (ticked p c m) ms i o call found made (ticked_said p c m o t)
