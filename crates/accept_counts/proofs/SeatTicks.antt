-- A tick of a seat changes no other seat.
use Rattle.std.proofs.Common.{◌≡◌, ℕ, ◌⊎◌, inl, inr, ◌&&◌, Bool, true, false, List, refl, sym, ap, subst}
use Rattle.std.specs.Prelude as std
use Rattle.std.specs.Prelude.{slice_set}
use mathlib.Core.Option.{Option, some, none}
use lib.ListN.{get_elem?}
use Rattle.sock_words.specs.declared.plain.Plan.{Plan}
use Rattle.sock_words.specs.declared.outcome.Outcome.{Outcome}
use Rattle.sock_io.specs.declared.link.Put.{Put}
use Rattle.sock_io.specs.declared.link.Ready.{Ready}
use Rattle.sock_model.specs.UnplacedMessages.{HeadedBytes}
use Rattle.sock_model.specs.ChainLawReads.{message, link_home}
use Rattle.seat_programs.specs.Asides.{Step, Found}
use Rattle.seat_programs.specs.FoundAndChangedAside.{found_in}
use Rattle.seat_programs.specs.Cores.{Core, SeatState}
use Rattle.seat_programs.specs.Programs.{Program, Do, TakeMessage, TakeHome, PutHome, PutBytes, AskReady, Aside}
use Rattle.seat_programs.specs.Ticks.{Answer, OfPut, OfReady, Moment, taken, ticked, step_with, tick_with, with_message, with_link, with_put, with_ready, with_found}
use Rattle.outcome_causes.specs.program_steps.proofs.TickCases.{ticks_first}
use Rattle.seat_programs.specs.LoopRounds.{first_step}

module _ (p : Plan) (i : ℕ) (seat : SeatState) (c : Core) where
  -- a tick of seat i changes no other seat
  abbrev pub Own : Core → Type 0
  Own d = (d.seats ≡ c.seats) ⊎ ((s : SeatState) × (d.seats ≡ slice_set c.seats i s))

  own_message : (q : ℕ) (o : Option HeadedBytes) (next : HeadedBytes → Program) → Own (with_message p i seat c q o next)
  own_message q none next = inl refl
  own_message q (some letter) next = inr (_, refl)

  own_link : (k : ℕ) (o : Option (List ℕ × ℕ)) (next : ℕ → Program) → Own (with_link p i seat c k o next)
  own_link k none next = inl refl
  own_link k (some home) next = inr (_, refl)

  own_put : (bytes : List ℕ) (answer : Answer) (next : Put → Program) → Own (with_put p i seat c bytes answer next)
  own_put bytes (OfPut put) next = inr (_, refl)
  own_put bytes _ next = inl refl

  own_ready : (answer : Answer) (next : Ready → Program) → Own (with_ready p i seat c answer next)
  own_ready (OfReady ready) next = inr (_, refl)
  own_ready _ next = inl refl

  own_found : (step : Step) (o : Option (Found step)) (next : Found step → Program) → Own (with_found p i seat c step o next)
  own_found step none next = inl refl
  own_found step (some found) next = inr (_, refl)

  own_step : (answer : Answer) (program : Program) → Own (step_with p i seat c answer program)
  own_step answer (Do call next) = inr (_, refl)
  own_step answer (TakeMessage q next) = own_message q (message (λ home. home) c.homes q) _
  own_step answer (TakeHome k next) = own_link k (link_home (λ home. home) p c.homes k) next
  own_step answer (PutHome k n after) = inr (_, refl)
  own_step answer (PutBytes k asked bytes next) = own_put bytes answer next
  own_step answer (AskReady k next) = own_ready answer next
  own_step answer (Aside step next) = own_found step (found_in step c.calls (taken answer)) next
  own_step answer _ = inl refl

  pub own_tick : (answer : Answer) → Own (tick_with p i seat c answer seat.program)
  own_tick answer = subst Own (sym (ticks_first p i seat c answer seat.program)) (own_step answer (first_step seat.program))

pub tick_none : (p : Plan) (c : Core) (m : Moment) → get_elem? c.seats m.seat ≡ none → ticked p c m ≡ c
tick_none p c m e = ap (λ (o : Option SeatState). elim o as (λ o. Core) [ none ↦ c | some seat ↦ tick_with p m.seat seat c m.answer seat.program ]) e

pub tick_some : (p : Plan) (c : Core) (m : Moment) (seat : SeatState) → get_elem? c.seats m.seat ≡ some seat → ticked p c m ≡ tick_with p m.seat seat c m.answer seat.program
tick_some p c m seat e = ap (λ (o : Option SeatState). elim o as (λ o. Core) [ none ↦ c | some seat ↦ tick_with p m.seat seat c m.answer seat.program ]) e

-- what an operation said before it says no later
pub never_later : (x : std.Option (std.Option Outcome)) → ((elim x as (λ x. Bool) [ std.None ↦ false | std.Some x ↦ elim x as (λ y. Bool) [ std.None ↦ true | std.Some outcome ↦ false ] ])
    && (elim x as (λ x. Bool) [ std.None ↦ false | std.Some x ↦ elim x as (λ y. Bool) [ std.None ↦ false | std.Some outcome ↦ true ] ])) ≡ false
never_later std.None = refl
never_later (std.Some std.None) = refl
never_later (std.Some (std.Some outcome)) = refl
