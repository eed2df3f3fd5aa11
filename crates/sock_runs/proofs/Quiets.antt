-- Ticks keep how many seats there are, and a seat that has no step left has none behind them.
use Rattle.std.proofs.Common.{◌≡◌, ◌≢◌, ℕ, List, [], ◌∷◌, length, length-set, set, refl, sym, ap, ◌∙◌, ⊎_elim}
use Rattle.std.proofs.lemmas.Option.{none-some}
use Rattle.std.specs.Prelude as std
use Rattle.std.specs.Prelude.{None}
use mathlib.Core.Logic.{dite}
use mathlib.Core.Option.{Option, some, none}
use native.Mathlib.Decide.{ℕ_discrete}
use lib.ListN.{get_elem?}
use Rattle.atomic_table.proofs.Lists.{at_set}
use Rattle.sock_words.specs.declared.kind.Kind.{Kind}
use Rattle.sock_words.specs.declared.plain.Plan.{Plan}
use Rattle.seat_programs.specs.sock_io.specs.declared.link.Put.{Put}
use Rattle.seat_programs.specs.sock_io.specs.declared.link.Ready.{Ready}
use Rattle.sock_model.specs.declared.home.Home.{Home}
use Rattle.sock_model.specs.UnplacedMessages.{HeadedBytes}
use Rattle.sock_model.specs.ChainLawReads.{message, link_home}
use Rattle.seat_programs.specs.StepTables.{kind_of}
use Rattle.seat_programs.specs.Programs.{Program, Do, TakeMessage, TakeHome, PutHome, PutBytes, AskReady, Write, Aside, Round}
use Rattle.seat_programs.specs.Asides.{Step, Found, kind_aside}
use Rattle.seat_programs.specs.FoundAndChangedAside.{found_in}
use Rattle.seat_programs.specs.LoopRounds.{round, kind_of_round}
use Rattle.seat_programs.specs.SendAndWritePrograms.{block}
use Rattle.seat_programs.specs.Cores.{Core, SeatState}
use Rattle.seat_programs.specs.Ticks.{Answer, OfPut, OfReady, Moment, with_message, with_link, with_put, with_ready, with_found, taken, step_with, tick_with, ticked, run}
use Rattle.seat_programs.specs.ScheduledRuns.{kind_in, IsAtRest}

-- what is said of the seats, whatever state one seat has
module _ (p : Plan) (c : Core) (i : ℕ) (seat : SeatState) (P : List SeatState → Type 0) (same : P c.seats) where
  abbrev Changes : Type 0
  Changes = (new : SeatState) → P (set c.seats i new)

  message_keeps : Changes → (q : ℕ) (x : Option HeadedBytes) (next : HeadedBytes → Program) → P (with_message p i seat c q x next).seats
  message_keeps change q none next = same
  message_keeps change q (some letter) next = change _

  home_keeps : Changes → (k : ℕ) (x : Option (List ℕ × ℕ)) (next : ℕ → Program) → P (with_link p i seat c k x next).seats
  home_keeps change k none next = same
  home_keeps change k (some home) next = change _

  put_keeps : Changes → (bytes : List ℕ) (answer : Answer) (next : Put → Program) → P (with_put p i seat c bytes answer next).seats
  put_keeps change bytes (OfPut answer) next = change _
  put_keeps change bytes _ next = same

  ready_keeps : Changes → (answer : Answer) (next : Ready → Program) → P (with_ready p i seat c answer next).seats
  ready_keeps change (OfReady answer) next = change _
  ready_keeps change _ next = same

  found_keeps : Changes → (step : Step) (x : Option (Found step)) (next : Found step → Program) → P (with_found p i seat c step x next).seats
  found_keeps change step none next = same
  found_keeps change step (some found) next = change _

  step_keeps : Changes → (answer : Answer) (program : Program) → P (step_with p i seat c answer program).seats
  step_keeps change answer (Do call next) = change _
  step_keeps change answer (TakeMessage q next) = message_keeps change q (message (λ (home : Home). home) c.homes q) (λ letter. next letter.0 letter.1)
  step_keeps change answer (TakeHome k next) = home_keeps change k (link_home (λ (home : Home). home) p c.homes k) next
  step_keeps change answer (PutHome k n after) = change _
  step_keeps change answer (PutBytes k asked bytes next) = put_keeps change bytes answer next
  step_keeps change answer (AskReady k next) = ready_keeps change answer next
  step_keeps change answer (Aside step next) = found_keeps change step (found_in step c.calls (taken answer)) next
  step_keeps change answer _ = same

  -- where it has a step left
  tick_keeps : (answer : Answer) (program : Program) → (kind_in program ≢ None → Changes) → P (tick_with p i seat c answer program).seats
  tick_keeps answer (Write w after) change = step_keeps (change (λ e. none-some _ (sym e))) answer (block w after)
  tick_keeps answer (Round head next) change = step_keeps (change (λ e. none-some (kind_of_round head) (sym e))) answer (round head next)
  tick_keeps answer (Aside step next) change = step_keeps (change (λ e. none-some (kind_aside step) (sym e))) answer (Aside step next)
  tick_keeps answer (Do call next) change = step_keeps (change (λ e. none-some (kind_of call) (sym e))) answer (Do call next)
  tick_keeps answer (TakeMessage q next) change = step_keeps (change (λ e. none-some _ (sym e))) answer (TakeMessage q next)
  tick_keeps answer (TakeHome k next) change = step_keeps (change (λ e. none-some _ (sym e))) answer (TakeHome k next)
  tick_keeps answer (PutHome k n after) change = step_keeps (change (λ e. none-some _ (sym e))) answer (PutHome k n after)
  tick_keeps answer (PutBytes k asked bytes next) change = step_keeps (change (λ e. none-some _ (sym e))) answer (PutBytes k asked bytes next)
  tick_keeps answer (AskReady k next) change = step_keeps (change (λ e. none-some _ (sym e))) answer (AskReady k next)
  tick_keeps answer _ change = same

-- of a tick of any seat
ticked_keeps : (p : Plan) (c : Core) (m : Moment) (P : List SeatState → Type 0) → P c.seats → ((seat new : SeatState) → get_elem? c.seats m.seat ≡ some seat → kind_in seat.program ≢ None → P (set c.seats m.seat new)) → P (ticked p c m).seats
ticked_keeps p c m P same change = by_seat (get_elem? c.seats m.seat) refl
  where
    by_seat : (q : Option SeatState) → get_elem? c.seats m.seat ≡ q → P (elim q as (λ o. Core) [ none ↦ c | some seat ↦ tick_with p m.seat seat c m.answer seat.program ]).seats
    by_seat none at = same
    by_seat (some seat) at = tick_keeps p c m.seat seat P same m.answer seat.program (λ moves new. change seat new at moves)

-- ## How many seats

pub ticked_seats : (p : Plan) (c : Core) (m : Moment) → length (ticked p c m).seats ≡ length c.seats
ticked_seats p c m = ticked_keeps p c m (λ (seats : List SeatState). length seats ≡ length c.seats) refl (λ seat new at moves. length-set c.seats m.seat new)

-- the seats stay as many
pub run_seats : (p : Plan) (c : Core) (moments : List Moment) → length (run p c moments).seats ≡ length c.seats
run_seats p c [] = refl
run_seats p c (m ∷ moments) = run_seats p (ticked p c m) moments ∙ ticked_seats p c m

-- ## A seat at rest

-- the seat at this place has no step left
abbrev RestsIn : ℕ → List SeatState → Type 0
RestsIn i seats = elim (get_elem? seats i) as (λ o. std.Option Kind) [ none ↦ None | some seat ↦ kind_in seat.program ] ≡ None

pub ticked_rests : (p : Plan) (c : Core) (m : Moment) (i : ℕ) → IsAtRest c i → IsAtRest (ticked p c m) i
ticked_rests p c m i rest = ticked_keeps p c m (RestsIn i) rest (λ seat new at moves. dite (ℕ_discrete i m.seat)
    (λ is. absurd (moves (sym (ap (λ (o : Option SeatState). elim o as (λ o. std.Option Kind) [ none ↦ None | some s ↦ kind_in s.program ]) (ap (get_elem? c.seats) is ∙ at)) ∙ rest)))
    (λ far. by_place seat new far (get_elem? (set c.seats m.seat new) i) refl))
  where
    by_place : (seat new : SeatState) → i ≢ m.seat → (q : Option SeatState) → get_elem? (set c.seats m.seat new) i ≡ q → elim q as (λ o. std.Option Kind) [ none ↦ None | some s ↦ kind_in s.program ] ≡ None
    by_place seat new far none at = refl
    by_place seat new far (some s) at = ⊎_elim (λ a. absurd (far a.0)) (λ a. sym (ap (λ (o : Option SeatState). elim o as (λ o. std.Option Kind) [ none ↦ None | some s ↦ kind_in s.program ]) a.1) ∙ rest) (at_set c.seats m.seat i new s at)

pub run_rests : (p : Plan) (c : Core) (moments : List Moment) (i : ℕ) → IsAtRest c i → IsAtRest (run p c moments) i
run_rests p c [] i rest = rest
run_rests p c (m ∷ moments) i rest = run_rests p (ticked p c m) moments i (ticked_rests p c m i rest)
