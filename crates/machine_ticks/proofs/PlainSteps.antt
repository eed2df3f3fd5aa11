-- Seats that have no step left, and steps of seat 0, which asks no link, holds no life and calls nothing.
use Rattle.std.proofs.Common.{◌≡◌, refl, ℕ, zero, suc, ◌+◌, ◌<◌, ◌≤◌, ◌==◌, cond, Bool, true, false, List, [], ◌∷◌, length, Option, Some, None, option_map, ap, ap₂, sym, ◌∙◌, arith, subst}
use Rattle.atomic_table.proofs.Lists.{set_here}
use mathlib.Core.Option as core
use lib.ListN.{get_elem?}
use Rattle.chain_steps.proofs.TicketLists.{at_some}
use Rattle.sock_words.specs.declared.kind.Kind.{Kind}
use Rattle.seat_programs.specs.declared.task.Sizes.{Sizes}
use Rattle.seat_programs.specs.TableSteps as calls
use Rattle.seat_programs.specs.LoopHeads.{Retry}
use Rattle.seat_programs.specs.Programs.{Program, Do, Say, Sent, Rest, Retries, LAST_GENERATION}
use Rattle.seat_programs.specs.SendAndWritePrograms.{freed, tell_drop, one_more, passed_telling}
use Rattle.seat_programs.specs.Cores.{Core, SeatState, found_at, next_step, resolved, still_waiting}
use Rattle.seat_programs.specs.StepTables.{word_of}
use Rattle.seat_programs.specs.Ticks.{quiet}
use Rattle.seat_programs.specs.ScheduledRuns.{kind_in, IsAtRest}
use Rattle.call_points.specs.AsideCodeSteps.{after_word}
use Rattle.seat_states.specs.declared.point.WriteStep.TheVariants as writes
use Rattle.seat_states.specs.declared.point.CallStep.TheVariants as begins
use Rattle.seat_states.specs.declared.point.AttemptStep.TheVariants as attempts
use Rattle.seat_states.specs.declared.point.RetryStep.TheVariants as retries
use Rattle.seat_states.specs.declared.point.Step.{Step}
use Rattle.seat_states.specs.declared.point.Author.{Author}
use Rattle.seat_states.specs.declared.point.Point.{Point}
use Rattle.seat_states.specs.declared.point.Point.TheVariants as points
use Rattle.seat_states.specs.ProgramAtPoint.{Context, point_program, heading_by, holder_of, tell, written_program, HasInHand, HasLinkAt, TellsCodeAt, framed}
use Rattle.seat_states.specs.ProgramStepsOfMachine.{First, OfTable, step_as, first_in, kind_of_first}
use Rattle.client_seats.specs.ClientSeatState.{SeatData, around, seat_program}
use Rattle.reader_seats.specs.ReaderState.{ReaderData, reader_program}
use Rattle.machine_model.specs.declared.tick.Tick.{Tick}
use Rattle.machine_model.specs.declared.tick.Tick.TheVariants.{Idle}
use Rattle.machine_model.specs.MachineLinks.{Given, AgreesGave, StayPaced}
use Rattle.machine_model.specs.Machines.{MachineState, READERS, IsMachine, table_of, machine_sizes, core_with}
use Rattle.machine_model.specs.MachineSteps.{ReadyAt, StandsAt, NextIs, HasNoStep, SameBase, MadeFirst}
use Rattle.machine_model.specs.ReadingSteps.{HasNoRead}
use Rattle.machine_model.specs.TickAnswersOfStep.{TickTold}
use Rattle.machine_model.specs.Driving.{AsksNone, IsPlain, TickedFirst, Leaves}
use Rattle.machine_ticks.proofs.Advancing.{is_paced, base}
use Rattle.machine_ticks.proofs.MachineStepFitting.{client_next, client_may}
use Rattle.machine_model.proofs.MachineLengths.{is_sized, few_seats}
use Rattle.machine_ticks.proofs.JoiningRuns.{rests}
use Rattle.machine_ticks.proofs.Shapes.{paced_call}
use Rattle.machine_ticks.proofs.RestingTicks.{Rests, beyond_rests}
use Rattle.machine_rules.proofs.Seatings.{seat_at, read_at}
use Rattle.machine_model.proofs.TableRoom.{IsCall, after_none, only_calls}
use Rattle.machine_model.proofs.Tellings.{kind_is}
use Rattle.machine_rules.proofs.Ticked.{gives_same, quiet_by}
use Rattle.corr_core.proofs.NoteSums.{at_length}
use Rattle.sock_words.specs.PackedWords.{ticket_request, ticket_generation}

-- ## Without a step left

-- a program without a first step has none left
rests_in : (program : Program) → first_in program ≡ None → kind_in program ≡ None
rests_in program e = kind_is program ∙ ap (option_map kind_of_first) e

kind_at : (c : Core) (i : ℕ) (s : SeatState) → get_elem? c.seats i ≡ core.some s → kind_in s.program ≡ None → IsAtRest c i
kind_at c i s at none_ = ap (λ (o : core.Option SeatState). elim o as (λ x. Option Kind) [ core.none ↦ None | core.some s ↦ kind_in s.program ]) at ∙ none_

pub no_step_rests : (m : MachineState) (i : ℕ) → i < length m.seats → HasNoStep m i → Rests m i
no_step_rests m i inside none_ took gave = let s = at_some m.seats i inside in kind_at (core_with m took gave) i _ (seat_at m took i s.0 s.1) (rests_in (seat_program (machine_sizes m) s.0) (none_ s.0 s.1))

-- the same of a reader
pub no_read_rests : (m : MachineState) (k : ℕ) → length m.seats ≤ READERS → HasNoRead m k → Rests m (READERS + k)
no_read_rests m k few none_ = by (get_elem? m.readers k) refl
  where
    by : (q : core.Option ReaderData) → get_elem? m.readers k ≡ q → Rests m (READERS + k)
    by core.none e = beyond_rests m (READERS + k) few (let past = beyond m.readers k e in omega (arith, past))
      where
        beyond : (rs : List ReaderData) (j : ℕ) → get_elem? rs j ≡ core.none → length rs ≤ j
        beyond [] j e = omega arith
        beyond (r ∷ rs) zero e = absurd (core.some-ne-none r e)
        beyond (r ∷ rs) (suc j) e = let h = beyond rs j e in omega (arith, h)
    by (core.some reader) e = λ took gave. kind_at (core_with m took gave) (READERS + k) _ (read_at m took k reader few e) (rests_in (reader_program m.calls reader) (none_ reader e))

-- ## Seat 0

-- what follows its first step asks no link either, and keeps no retry
resolved_none : (program : Program) → AsksNone program → AsksNone (next_step (resolved [] program)) × (still_waiting [] program ≡ [])
resolved_none (Do call after) x = (x, refl)
resolved_none (Say o outcome after) x = resolved_none after x.1
resolved_none (Sent o after) x = resolved_none after x
resolved_none (Retries requests after) x = resolved_none after x
resolved_none Rest x = (tt, refl)
resolved_none _ x = absurd x

none_either : (b : Bool) (x y : Program) → (AsksNone x → ⊥) → (AsksNone y → ⊥) → AsksNone (cond b x y) → ⊥
none_either true x y f g h = f h
none_either false x y f g h = g h

freed_asks : (now : ℕ) (next : Program) → (AsksNone next → ⊥) → AsksNone (freed now next) → ⊥
freed_asks now next f = none_either (ticket_generation now == LAST_GENERATION) next (Do (calls.OnChain (calls.FreeRequest (ticket_request now) (ticket_generation now))) (λ _. next)) f (λ x. f (x.1 0))

-- what it needs is in hand, and it stands
plain_stands : (a : Context) (p : Point) → AsksNone (point_program a p) → HasInHand a p × (framed p a ≡ a) × HasLinkAt p × TellsCodeAt p
plain_stands a (points.Call begins.LoadName) x = (tt, refl, tt, tt)
plain_stands a (points.Call (begins.ClaimId i socket)) x = absurd x
plain_stands a (points.Call (begins.PutCall i socket)) x = absurd x
plain_stands a (points.Call (begins.MakeId i socket)) x = absurd x
plain_stands a (points.Call (begins.StoreCall id socket)) x = absurd x
plain_stands a (points.Attempt t socket attempts.AddRef) x = (tt, refl, tt, tt)
plain_stands a (points.Attempt t socket attempts.FindLink) x = (tt, refl, tt, tt)
plain_stands a (points.Attempt t socket (attempts.StoreAt k)) x = absurd x
plain_stands a (points.Retry r (retries.Lock at)) x = (tt, refl, tt, tt)
plain_stands a (points.Retry r (retries.TakeCall w)) x = (tt, refl, tt, tt)
plain_stands a (points.Retry r (retries.PutCall w)) x = absurd x
plain_stands a (points.Retry r (retries.Unlock w advance)) x = absurd x
plain_stands a (points.Retry r retries.LoadName) x = absurd (x.1 0)
plain_stands a (points.Write w (writes.DropPlace c n)) x = absurd (dropped c.author (x.1 0))
  where
    told : (author : Author) (next : Program) → (AsksNone next → ⊥) → AsksNone (tell_drop (heading_by author a.left_parts) n next) → ⊥
    told author next f = none_either ((heading_by author a.left_parts).owner == 0) next _ f (λ y. y)

    dropped : (author : Author) → AsksNone (passed_telling (one_more (holder_of w.holder)) c.ticket.0 (tell author a.left_parts n) (written_program a w)) → ⊥
    dropped author = none_either (c.ticket.0 == w.holder.last.0) _ _ (freed_asks c.ticket.0 _ (told author _ (λ y. y))) (λ y. freed_asks c.ticket.0 _ (told author _ (λ z. z)) (y.1 0))
plain_stands a (points.Write w writes.EmptyHead) x = (tt, refl, tt, tt)
plain_stands a (points.Write w writes.PutHome) x = (tt, refl, tt, tt)
plain_stands a (points.Write w _) x = (tt, refl, tt, tt)
plain_stands a _ x = (tt, refl, tt, tt)

module _ (m : MachineState) (plain : IsPlain m) where
  pub plain_ready : ReadyAt m 0
  plain_ready seat at = let h = plain_stands (around (machine_sizes m) seat) seat.point (plain seat at).0 in record { hand = h.0; frame = h.1 }

  pub plain_at : StandsAt m 0
  plain_at seat at = let h = plain_stands (around (machine_sizes m) seat) seat.point (plain seat at).0 in record { link = h.2; told = h.3 }

module _ (m fresh : MachineState) (room : ℕ) (step : Step) (tick : Tick) (is : IsMachine m room) (enough : m.short ≡ false) (n : NextIs m 0 step) (w : TickTold m fresh 0 step tick) (plain : IsPlain m) where
  abbrev program : Program
  program = seat_program (machine_sizes m) w.one

  abbrev first : First
  first = step_as (around (machine_sizes m) w.one) step

  next : first_in program ≡ Some first
  next = client_next m room is enough 0 w.one w.at step n

  is_call : IsCall first
  is_call = only_calls program first next (plain w.one w.at).0

  -- what follows
  abbrev StaysPlain : SeatData → Type 0
  StaysPlain seat = AsksNone (seat_program (machine_sizes m) seat) × (seat.waiting ≡ [])

  by_first : (f : First) → IsCall f → MadeFirst (table_of m) (table_of fresh) 0 w.one w.one' step f w.told.answer → StaysPlain w.one' × (fresh.ends ≡ m.ends) × StayPaced m.links.outs fresh.links × ((gave : Given) → AgreesGave m.links gave → AgreesGave fresh.links gave)
  by_first (OfTable call) c x =
      let goes = x.1.goes in let found : ℕ = found_at m.words (word_of m.plan call) in let none_ = (plain w.one w.at).1 in
      let r = resolved_none (after_word program found) (after_none program found (plain w.one w.at).0) in (
        (
          subst AsksNone (sym (goes.program ∙ ap (λ (ws : List Retry). next_step (resolved ws (after_word program found))) none_)) r.0,
          goes.waiting ∙ ap (λ (ws : List Retry). still_waiting ws (after_word program found)) none_ ∙ r.1,
        ),
        x.1.ends,
        λ k pacing h. paced_call m.links fresh.links k pacing h call x.1.outs,
        λ gave agrees. gives_same m.links fresh.links gave goes.base.inns agrees,
      )
  by_first _ c x = absurd c

  stays_plain : IsPlain fresh
  stays_plain seat at =
      let same : w.one' ≡ seat = core.some-injective w.one' seat (sym (set_here m.seats 0 w.one' (at_length m.seats 0 w.one w.at)) ∙ sym (ap (λ (ss : List SeatData). get_elem? ss 0) w.all) ∙ at) in
      let b : SameBase (table_of m) (table_of fresh) = base m fresh room 0 step tick is enough n w in
      let stays = (by_first first is_call w.told.makes.is).0 in (
        subst (λ (z : Sizes). AsksNone (seat_program z seat)) (sym (ap₂ (λ p q. (record { slots = p.slots; requests = p.requests; ids = q.slots })) b.plan b.id_plan)) (subst (λ (s : SeatData). AsksNone (seat_program (machine_sizes m) s)) same stays.0),
        ap (λ (s : SeatData). s.waiting) (sym same) ∙ stays.1,
      )

  -- a tick of seat 0, in which no link is asked
  pub first_told : TickedFirst m fresh
  first_told = (
    stays_plain,
    (by_first first is_call w.told.makes.is).1,
    (by_first first is_call w.told.makes.is).2,
    λ took gave agrees agrees_gave. let q = quiet_by m fresh 0 w.one w.one' w.at w.all w.readers (few_seats m is.sizes) (is_sized m is.sizes) (is_paced m room is enough 0 w.one w.at) took agrees gave agrees_gave step w.told.answer is_call next
        (client_may m room is enough 0 w.one w.at step n) w.told.makes.is in
        (q.0, (by_first first is_call w.told.makes.is).3 gave agrees_gave, q.1),
  )

-- without a step left it makes none
pub idle_first : (m : MachineState) → Rests m 0 → IsPlain m → TickedFirst m m
idle_first m rest plain = (plain, refl, λ k pacing h. h, λ took gave agrees agrees_gave. (agrees, agrees_gave, sym (rests m.plan (core_with m took gave) (quiet 0) (rest took gave))))

-- nor does it leave less
pub idle_leaves : (m : MachineState) → Leaves Idle m m
idle_leaves m n lasts = lasts
