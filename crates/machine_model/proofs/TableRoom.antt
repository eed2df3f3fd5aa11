-- A seat that asks no link, makes no step aside of the sockets and holds no life wants no room.
use Rattle.std.proofs.Common.{◌≡◌, refl, ℕ, ◌<◌, ◌⊎◌, inl, inr, ⊎_elim, Some, vec_len, vec_capacity, sym, subst}
use Rattle.sock_words.specs.declared.socket_id.SocketId.{SocketId}
use Rattle.seat_programs.specs.TableSteps.{TableStep}
use Rattle.seat_programs.specs.Programs.{Program, Do, Say, Sent, Rest, Retries}
use Rattle.call_points.specs.AsideCodeSteps.{after_word}
use Rattle.seat_states.specs.declared.point.Step.{Step}
use Rattle.seat_states.specs.declared.point.Next.{Next}
use Rattle.seat_states.specs.declared.point.Next.TheVariants as nexts
use Rattle.seat_states.specs.ProgramAtPoint.{Context, next_program}
use Rattle.seat_states.specs.ProgramStepsOfMachine.{First, OfTable, step_as, first_in}
use Rattle.client_seats.specs.declared.seat.Seat.{Seat}
use Rattle.client_seats.specs.ClientSeatState.{SeatData, seat_data, around, seat_program}
use Rattle.client_seats.specs.ClientSeatFollowing.{HasRoom}
use Rattle.machine_model.specs.Machines.{TableState, table_sizes}
use Rattle.machine_model.specs.MachineSteps.{IsNext}
use Rattle.machine_model.specs.Driving.{PutsNone, AsksNone}
use Rattle.machine_model.proofs.FirstSteps.{same_some}

pub after_none : (program : Program) (found : ℕ) → AsksNone program → AsksNone (after_word program found)
after_none (Do call next) found x = x.1 found
after_none (Say o outcome next) found x = x
after_none (Sent o next) found x = x
after_none (Retries requests after) found x = x
after_none Rest found x = tt
after_none _ found x = absurd x

-- a step on a word, or a message that goes home
abbrev pub IsCall : First → Type 0
IsCall (OfTable call) = Unit {0}
IsCall other = ⊥

-- it makes no other
pub only_calls : (program : Program) (first : First) → first_in program ≡ Some first → AsksNone program → IsCall first
only_calls (Do call next) first e x = subst IsCall (same_some e) tt
only_calls (Say o outcome next) first e x = cc
only_calls (Sent o next) first e x = cc
only_calls (Retries requests after) first e x = cc
only_calls Rest first e x = cc
only_calls _ first e x = absurd x

-- so one that makes another step has what the others need
pub needs : {R : Type 0} (t : TableState) (seat : SeatData) {step : Step} (is : Step) → (IsCall (step_as (around (table_sizes t) seat) is) → ⊥) → step ≡ is → IsNext t seat step → R ⊎ AsksNone (seat_program (table_sizes t) seat) → R
needs {R} t seat {step} is other e next = ⊎_elim (λ room. room)
    (λ plain. absurd (other (only_calls (seat_program (table_sizes t) seat) (step_as (around (table_sizes t) seat) is) (subst (λ (x : Step). IsNext t seat x) e next) plain)))

-- and that is none of a message
pub puts_none : (program : Program) (call : TableStep) → first_in program ≡ Some (OfTable call) → AsksNone program → PutsNone call
puts_none (Do own next) call e x = let same : own ≡ call = cc in subst PutsNone same x.0
puts_none (Say o outcome next) call e x = cc
puts_none (Sent o next) call e x = cc
puts_none (Retries requests after) call e x = cc
puts_none Rest call e x = cc
puts_none _ call e x = absurd x

no_hold : (a : Context) (program : Program) (found : ℕ) (n : Next) → AsksNone program → next_program a n ≡ after_word program found → (o name : ℕ) (id : SocketId) → n ≡ nexts.Held o name id → ⊥
no_hold a program found n plain is o name id held =
    let says : AsksNone (next_program a (nexts.Held o name id)) = subst (λ (m : Next). AsksNone (next_program a m)) held (subst AsksNone (sym is) (after_none program found plain)) in says.0 refl

-- so there is room for a life where one comes to be held
pub room_for : (t : TableState) (place : Seat) (a : Context) (n : Next) (found : ℕ) → HasRoom place ⊎ AsksNone (seat_program (table_sizes t) (seat_data place)) → next_program a n ≡ after_word (seat_program (table_sizes t) (seat_data place)) found →
    (o name : ℕ) (id : SocketId) → n ≡ nexts.Held o name id → vec_len place.held < vec_capacity place.held
room_for t place a n found (inl room) is o name id held = room.0
room_for t place a n found (inr plain) is o name id held = absurd (no_hold a (seat_program (table_sizes t) (seat_data place)) found n plain is o name id held)
