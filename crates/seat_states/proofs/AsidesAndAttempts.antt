-- Steps aside of the sockets, and attempts with their message in hand.
use Rattle.std.proofs.Common.{◌≡◌, ℕ, Some, option_map, refl, ap, subst}
use Rattle.sock_words.specs.declared.socket_id.SocketId.{SocketId}
use Rattle.seat_programs.specs.Asides.{Step}
use Rattle.seat_programs.specs.CallAndRetryPrograms.{attempt}
use Rattle.seat_programs.specs.Programs.{Program, Aside, Round}
use Rattle.seat_programs.specs.LoopRounds.{round}
use Rattle.id_points.specs.IdsAndAttemptNumbers.{id_of, number_of}
use Rattle.call_points.specs.AsideCodeSteps.{aside_of, aside_in}
use Rattle.seat_states.specs.declared.point.Attempt.{Attempt}
use Rattle.seat_states.specs.declared.point.AttemptStep.TheVariants as attempts
use Rattle.seat_states.specs.ProgramAtPoint.{Context, IsFramed, attempt_program, client_on, with_frame}
use Rattle.seat_states.specs.ProgramStepsOfMachine.{OfAside, first_of, first_in}

of_aside : (p : Program) (s : Step) → aside_of p ≡ Some s → first_of p ≡ Some (OfAside s)
of_aside (Aside step next) s e = ap (option_map OfAside) e
of_aside _ s e = absurd (cc)

-- the first step of a program that is one aside
pub in_aside : (p : Program) (s : Step) → aside_in p ≡ Some s → first_in p ≡ Some (OfAside s)
in_aside (Round head next) s e = of_aside (round head next) s e
in_aside (Aside step next) s e = of_aside (Aside step next) s e
in_aside _ s e = absurd (cc)

-- an attempt with its message in hand is that of the programs
pub attempts_as : (a : Context) (t : Attempt) (socket : SocketId) → IsFramed a t →
    attempt_program a t socket attempts.AddRef ≡ attempt a.sizes.requests a.asked (id_of t.id) (number_of t.number) socket.0 (client_on a)
attempts_as a t socket f = rw (f.message, f.parts, f.operation) refl

-- the message of the first attempt is made behind the word of its call
pub begins_as : (a : Context) (t : Attempt) (socket : SocketId) → t.operation ≡ a.asked.operation → number_of t.number ≡ 0 →
    attempt_program (with_frame (id_of t.id) 0 a) t socket attempts.AddRef ≡ attempt a.sizes.requests a.asked (id_of t.id) 0 socket.0 (client_on a)
begins_as a t socket o n =
    let f : IsFramed (with_frame (id_of t.id) (number_of t.number) a) t = record { operation = o; message = refl; parts = refl } in
    let P : ℕ → Type 0 = λ k. attempt_program (with_frame (id_of t.id) k a) t socket attempts.AddRef ≡ attempt a.sizes.requests a.asked (id_of t.id) k socket.0 (client_on a) in
    subst P n (attempts_as (with_frame (id_of t.id) (number_of t.number) a) t socket f)
