-- Programs that ask no link; the machine of which the ending begins; and what a tick's answer says.
use Rattle.std.proofs.Common.{◌≡◌, refl, ℕ, ◌+◌, ◌-◌, ◌*◌, ◌%◌, ◌==◌, ◌&&◌, ◌<◌, ◌≤◌, nat_le, ⊎_elim, Bool, true, false, cond, List, [], ◌∷◌, length, slice_set, Option, Result, Ok, Err, OnOk, ap, sym, ◌∙◌, arith, subst}
use Rattle.std.proofs.Props.{props}
use Rattle.std.proofs.Math.Logic.{∥∥₁_elim}
use Rattle.std.proofs.Math.ListN.{length-set}
use Rattle.std.proofs.lemmas.Bool.{true≢false}
use Rattle.atomic_table.proofs.Lists.{at_set, set_here}
use Rattle.chain_steps.proofs.TicketLists.{at_some}
use mathlib.Core.Option as core
use lib.ListN.{get_elem?}
use Rattle.sock_words.specs.PackedWords.{socket_id_version, socket_id_slot, vref_version, vref_nref, NO_SOCKET}
use Rattle.sock_words.specs.declared.kind.Kind.{Kind}
use Rattle.sock_words.specs.declared.outcome.Outcome.{Outcome}
use Rattle.sock_words.specs.declared.plain.Plan.{Plan}
use Rattle.corr_core.specs.declared.marks.Plan.{Plan as IdPlan}
use Rattle.corr_core.proofs.NoteSums.{at_length}
use Rattle.sock_model.specs.declared.home.Home.{Home}
use Rattle.seat_programs.specs.LoopHeads.{Retry}
use Rattle.seat_programs.specs.Programs.{Program, Do, Say, Sent, Rest, Retries, LAST_VERSION, recycle, release, add_reference, set_failed, end_open}
use Rattle.seat_programs.specs.ClientProgram.{ending_of}
use Rattle.seat_programs.specs.Cores.{Core, SeatState, resolved, said, next_step, with_seat}
use Rattle.seat_programs.specs.Ticks.{Answer, waits_at, waits}
use Rattle.seat_programs.specs.ScheduledRuns.{IsAtRest}
use Rattle.seat_programs.specs.ScriptSetupToEnding.{is_ending}
use Rattle.machine_model.specs.program_steps.specs.ProgramGoesOn.{GoesOn}
use Rattle.machine_model.specs.program_steps.specs.TicksLeftAtMost.{Lasts}
use Rattle.machine_model.specs.program_steps.specs.SoundSeats.{Sound, IsAhead}
use Rattle.machine_model.specs.sock_runs.proofs.AllowedNextSteps.{view_there}
use Rattle.machine_model.specs.sock_runs.proofs.SoundAlongRuns.{seat_ahead, seat_rests}
use Rattle.machine_model.specs.sock_runs.proofs.HeldLinksByRights.{held_in_hand}
use Rattle.machine_model.specs.id_runs.specs.Goes.{SoundIds}
use Rattle.machine_model.specs.id_runs.proofs.IdRuleOpening.{ending_ids, told_ids}
use Rattle.machine_model.specs.run_theorems.specs.Below.programs_allowed.proofs.AllowedRunOpening.{ending_resolved, ending_sound, told_sound}
use Rattle.machine_model.specs.run_theorems.specs.Below.programs_allowed.proofs.LastingTicksOfRuns.{ending_lasts, told_lasts}
use Rattle.client_seats.specs.ClientSeatState.{SeatData, seat_program}
use Rattle.machine_model.specs.declared.tick.Tick.{Tick}
use Rattle.machine_model.specs.declared.tick.Tick.TheVariants as ticks
use Rattle.machine_model.specs.MachineLinks.{Taken, Given, Agrees, AgreesGave, IsPaced, homes_of, hand_of}
use Rattle.machine_model.specs.Machines.{MachineState, IsMachine, IsSoundMachine, HasSizes, KeepsClosed, ArePaced, MOST_LEFT, READERS, machine_sizes, core_with, ending_by, table_of}
use Rattle.machine_model.specs.MachineSteps.{Goes}
use Rattle.machine_model.specs.MachineRuns.{Ticked, Led}
use Rattle.machine_model.specs.Driving.{LastsAtMost, Leaves, IsLast, IsOther, AsksNone, IsPlain, FirstRests, BeganEnding, told_ending}
use Rattle.machine_ticks.specs.machine_rules.proofs.LinkChanges.{none_changes}
use Rattle.machine_ticks.specs.machine_rules.proofs.HandsAndHomes.{HasNone, hand_none}
use Rattle.machine_model.proofs.MachineLengths.{many_same, sizes_but, sizes_stay}
use Rattle.sock_core.proofs.LeadingTicks.{Passed, led_none, led_more, led_here, led_waits, led_idle}
use Rattle.machine_ticks.specs.machine_rules.proofs.Paces.{calm_paced, ending_calm}
use Rattle.machine_ticks.proofs.RestingTicks.{Rests, rest_anyhow, idle_core}
use Rattle.sock_core.proofs.Rounding.{IsStill, fewer_left}
use Rattle.machine_ticks.specs.machine_rules.proofs.Seatings.{seat_at, client_set}
use Rattle.machine_ticks.specs.machine_rules.proofs.HolderOfLink.{none_of, nothing_held}

-- ## Programs that ask no link

either : (b : Bool) (x y : Program) → AsksNone x → AsksNone y → AsksNone (cond b x y)
either true x y a b = a
either false x y a b = b

recycle_none : (i from : ℕ) (next : Bool → Program) → ((b : Bool) → AsksNone (next b)) → AsksNone (recycle i from next)
recycle_none i from next after = (
  tt,
  λ found. either (found == from) _ _
      (tt, λ k. (tt, λ a. (tt, λ b. (tt, λ d. either (nat_le (vref_version from + 1) LAST_VERSION) _ _ (tt, λ e. after true) (after true))))) (after false),
)

release_none : (i : ℕ) (next : Bool → Program) → ((b : Bool) → AsksNone (next b)) → AsksNone (release i next)
release_none i next after = (tt, λ found. either ((vref_version found % 2 == 1) && (vref_nref found == 1)) _ _ (recycle_none i (found - 1) next after) (after false))

address_none : (id : ℕ) (held : Program) (gone : ℕ → Program) → AsksNone held → ((found : ℕ) → AsksNone (gone found)) → AsksNone (add_reference id held gone)
address_none id held gone h after = (tt, λ found. either (vref_version found == socket_id_version id) _ _ h (release_none (socket_id_slot id) (λ b. gone found) (λ b. after found)))

set_failed_none : (id code : ℕ) (next : ℕ → Program) → ((found : ℕ) → AsksNone (next found)) → AsksNone (set_failed id code next)
set_failed_none id code next after = (tt, λ found. either (vref_version found % 2 == 0) _ _ (tt, λ a. (tt, λ b. after found)) (after found))

end_none : (o : ℕ) (next : Program) → AsksNone next → AsksNone (end_open o next)
end_none o next x = (
  tt,
  λ word. either (word == 0) _ _ x (either (word == NO_SOCKET) _ _ x
      (address_none (word - 1) (set_failed (word - 1) 1014 (λ found. release (socket_id_slot (word - 1)) (λ b. next))) (λ found. next)
      (set_failed_none (word - 1) 1014 (λ found. release (socket_id_slot (word - 1)) (λ b. next)) (λ found. release_none (socket_id_slot (word - 1)) (λ b. next) (λ b. x))) (λ found. x))),
)

ending_none : (os : List ℕ) → AsksNone (ending_of os)
ending_none [] = tt
ending_none (o ∷ os) = end_none o (ending_of os) (ending_none os)

next_ending : (os : List ℕ) → next_step (ending_of os) ≡ ending_of os
next_ending [] = refl
next_ending (o ∷ os) = refl

ending_says : (w : List Retry) (opens : List ℕ) (os : List (Option Outcome)) → os ≡ said (resolved w (ending_of opens)) os
ending_says w [] os = refl
ending_says w (o ∷ opens) os = refl

-- ## A machine by its core

-- the core of a machine and its plans, of which both rules hold with these views
sound_as : (fresh : MachineState) (p : Plan) (q : IdPlan) (c : Core) (took : Taken) (gave : Given) → fresh.plan ≡ p → fresh.ids.plan ≡ q → core_with fresh took gave ≡ c → (old : MachineState) (s : IsSoundMachine old) →
    Agrees fresh.links took → AgreesGave fresh.links gave → IsAhead c → Sound p c s.views → SoundIds p q c s.id_views → (left : ℕ) → Lasts p c s.views left → left + 20 * length fresh.opens < MOST_LEFT → IsSoundMachine fresh
sound_as fresh p q c took gave plan id_plan core old s agrees agrees_gave ahead sound ids left lasts bounded = record {
  took = took;
  gave = gave;
  agrees = agrees;
  agrees_gave = agrees_gave;
  ahead = subst IsAhead (sym core) ahead;
  views = s.views;
  sound = subst (λ (x : Plan). Sound x (core_with fresh took gave) s.views) (sym plan) (subst (λ (x : Core). Sound p x s.views) (sym core) sound);
  id_views = s.id_views;
  ids = subst (λ (x : Plan). SoundIds x fresh.ids.plan (core_with fresh took gave) s.id_views) (sym plan)
      (subst (λ (x : IdPlan). SoundIds p x (core_with fresh took gave) s.id_views) (sym id_plan) (subst (λ (x : Core). SoundIds p q x s.id_views) (sym core) ids));
  few = s.few;
  left = left;
  lasts = subst (λ (x : Plan). Lasts x (core_with fresh took gave) s.views left) (sym plan) (subst (λ (x : Core). Lasts p x s.views left) (sym core) lasts);
  bounded = bounded;
}

-- ## Seat 0

-- a seat without a step left has no link in hand
rests_none : (m : MachineState) → length m.links.holders ≡ m.plan.links → ∥ IsSoundMachine m ∥₁ → (i : ℕ) (seat : SeatData) → get_elem? m.seats i ≡ core.some seat → Rests m i → HasNone m.links i
rests_none m many sound i seat at rest = ∥∥₁_elim sound (hlevel props) by_sound
  where
    by_sound : IsSoundMachine m → HasNone m.links i
    by_sound s = let there = seat_at m s.took i seat at in
        let v = view_there (core_with m s.took s.gave).seats s.views i _ s.sound.each there (get_elem? s.views i) refl in let old = s.sound.seats i _ v.0 there v.1 in
        let nothing = subst (GoesOn m.plan v.0) (seat_rests (core_with m s.took s.gave) s.ahead i (rest s.took s.gave) _ there) old.goes_on in
        none_of m.links s.took i m.plan.links many (nothing_held _ v.0.hands nothing.hands (held_in_hand _ v.0.rights v.0.hands nothing.quiet.rights old.hand))

-- ## The ending begins

module _ (old fresh : MachineState) (room : ℕ) (is : IsMachine old room) (enough : old.short ≡ false) (rest : FirstRests old) (w : BeganEnding old fresh) where
  abbrev begun : MachineState
  begun = record old { opens = []; seats = slice_set old.seats 0 w.seat' }

  many : length begun.seats ≡ length old.seats
  many = length-set old.seats 0 w.seat'

  own_waiting : w.seat.waiting ≡ []
  own_waiting = rest.1 w.seat w.at

  holders : length old.links.holders ≡ old.plan.links
  holders = ∥∥₁_elim is.sizes (hlevel props) (λ h. h.holders_are)

  few : length old.seats ≤ READERS
  few = ∥∥₁_elim is.sizes (hlevel props) (λ h. h.few_seats)

  free : HasNone old.links 0
  free = rests_none old holders (is.sound enough) 0 w.seat w.at rest.0

  goes : Goes (table_of old) (table_of begun) w.seat w.seat' (ending_of old.opens)
  goes = record {
    base = record { plans = record { plan = refl; id_plan = refl; calls = refl; ending = refl }; inns = refl };
    program = w.program ∙ next_ending old.opens ∙ sym (ending_resolved w.seat.waiting old.opens).0;
    waiting = w.waiting ∙ sym (ending_resolved w.seat.waiting old.opens).1;
    told = ending_says w.seat.waiting old.opens old.outcomes;
  }

  begun_core : (took : Taken) (gave : Given) → core_with begun took gave ≡ ending_by old.opens (core_with old took gave)
  begun_core took gave =
      client_set old begun 0 w.seat w.seat' (ending_of old.opens) took took gave (hand_of old.links old.plan.links took 0) (homes_of old.links old.plan old.letters took) old.words w.at refl refl few goes refl
      (none_changes old.plan 0 old.links old.links old.letters old.letters took _ refl refl)
      ∙ ap (λ (x : List Home). with_seat 0 (ending_of old.opens) x old.words (homes_of old.links old.plan old.letters took) (core_with old took gave)) (hand_none old.links took old.plan.links 0 free)

  pub began_core : (took : Taken) (gave : Given) → core_with fresh took gave ≡ ending_by old.opens (core_with old took gave)
  began_core took gave = ap (λ (m : MachineState). core_with m took gave) w.is ∙ begun_core took gave

  begun_sizes : HasSizes old → HasSizes begun
  begun_sizes h = sizes_but old begun h (many_same refl refl refl) refl refl refl refl many refl tt (omega arith)

  begun_sound : HasSizes old → IsSoundMachine old → IsSoundMachine begun
  begun_sound h s = let c = core_with old s.took s.gave in let b = s.bounded in let narrow = h.few_slots in
      sound_as begun old.plan old.ids.plan (ending_by old.opens c) s.took s.gave refl refl (begun_core s.took s.gave) old s s.agrees s.agrees_gave
      (seat_ahead c 0 (ending_of old.opens) [] c.words c.homes s.ahead)
      (ending_sound old.plan c s.views old.opens h.opens_are s.ahead (rest.0 s.took s.gave) s.sound)
      (ending_ids old.plan old.ids.plan (omega (arith, narrow)) h.operations_are c s.id_views old.opens (λ seat at. seat_rests c s.ahead 0 (rest.0 s.took s.gave) seat at) s.ids)
      (s.left + 20 * length old.opens) (ending_lasts old.plan c s.views old.opens s.left s.lasts) (omega (arith, b))

  begun_paced : ArePaced (machine_sizes old) old.links old.seats → ArePaced (machine_sizes begun) begun.links begun.seats
  begun_paced paced j s there = ⊎_elim
      (λ t. subst (λ (x : SeatData). IsPaced old.links.outs (seat_program (machine_sizes old) x)) t.1 (subst (IsPaced old.links.outs) (sym w.program) (calm_paced old.links.outs _ (ending_calm old.opens))))
      (λ t. paced j s t.1)
      (at_set old.seats 0 j w.seat' s there)

  begun_closed : KeepsClosed old → KeepsClosed begun
  begun_closed h = record { done = h.done; held = λ k j own past. h.held k j own (omega (arith, many, past)) }

  pub began_keeps : IsMachine fresh room
  began_keeps = subst (λ (m : MachineState). IsMachine m room) (sym w.is) (record {
    sizes = ∥∥₁_elim is.sizes (hlevel props) (λ h. ∣ begun_sizes h ∣₁);
    has_room = is.has_room;
    sound = λ _. ∥∥₁_elim is.sizes (hlevel props) (λ h. ∥∥₁_elim (is.sound enough) (hlevel props) (λ s. ∣ begun_sound h s ∣₁));
    paced = λ _. ∥∥₁_elim (is.paced enough) (hlevel props) (λ paced. ∣ begun_paced paced ∣₁);
    closed = λ _. begun_closed (is.closed enough);
    called = is.called;
  })

  pub began_plain : IsPlain fresh
  began_plain = subst IsPlain (sym w.is) (λ seat at.
      let same : w.seat' ≡ seat = core.some-injective w.seat' seat (sym (set_here old.seats 0 w.seat' (at_length old.seats 0 w.seat w.at)) ∙ at) in (
        subst (λ (s : SeatData). AsksNone (seat_program (machine_sizes old) s)) same (subst AsksNone (sym (w.program ∙ next_ending old.opens)) (ending_none old.opens)),
        ap (λ (s : SeatData). s.waiting) (sym same) ∙ w.waiting ∙ own_waiting,
      ))

-- ## The run is ending

told_machine : (m : MachineState) → IsSoundMachine m → IsSoundMachine (told_ending m)
told_machine m s = let c = core_with m s.took s.gave in
    sound_as (told_ending m) m.plan m.ids.plan (is_ending c) s.took s.gave refl refl refl m s s.agrees s.agrees_gave s.ahead (told_sound m.plan c s.views s.sound) (told_ids m.plan m.ids.plan c s.id_views s.ids) s.left (told_lasts m.plan c s.views s.left s.lasts) s.bounded

told_sizes : (m : MachineState) → HasSizes m → HasSizes (told_ending m)
told_sizes m h = sizes_stay m (told_ending m) h (many_same refl refl refl) refl refl refl refl refl refl refl

pub ending_keeps : (m : MachineState) (room : ℕ) → IsMachine m room → IsMachine (told_ending m) room
ending_keeps m room is = record {
  sizes = ∥∥₁_elim is.sizes (hlevel props) (λ h. ∣ told_sizes m h ∣₁);
  has_room = is.has_room;
  sound = λ enough. ∥∥₁_elim (is.sound enough) (hlevel props) (λ s. ∣ told_machine m s ∣₁);
  paced = is.paced;
  closed = λ enough. let h = is.closed enough in record { done = h.done; held = h.held };
  called = is.called;
}

-- ## By a tick's answer

-- so many ticks that move are left at most
pub lasts_most : (m : MachineState) (room : ℕ) → IsMachine m room → m.short ≡ false → LastsAtMost m (MOST_LEFT - 1)
lasts_most m room is enough = (enough, ∥∥₁_elim (is.sound enough) (hlevel props) (λ s. let h = s.bounded in ∣ (s, omega (arith, h)) ∣₁))

-- what stands in an `Ok`
pub in_ok : {E : Type 0} (a b : Bool) → (let r : Result Bool E = Ok a in r) ≡ Ok b → a ≡ b
in_ok a b e = cc

-- what follows from an answer
pub on_ok : {T E P Q : Type 0} (r : Result T E) → (P → Q) → OnOk r P → OnOk r Q
on_ok (Ok x) f h = f h
on_ok (Err e) f h = tt

-- ## Seat 0 doesn't wait

waits_none : (p : Plan) (c : Core) (answer : Answer) (program : Program) → AsksNone program → waits_at p c answer program ≡ false
waits_none p c answer (Do call after) x = refl
waits_none p c answer (Say o outcome after) x = refl
waits_none p c answer (Sent o after) x = refl
waits_none p c answer Rest x = refl
waits_none p c answer (Retries requests after) x = refl
waits_none p c answer _ x = absurd x

plain_waits : (m : MachineState) → IsPlain m → 0 < length m.seats → (took : Taken) (gave : Given) (i : ℕ) (answer : Answer) → i ≡ 0 → waits m.plan (core_with m took gave) (record { seat = i; answer = answer }) ≡ false
plain_waits m plain some_ took gave i answer zero_ = subst (λ j. waits m.plan (core_with m took gave) (record { seat = j; answer = answer }) ≡ false) (sym zero_)
    (by_first (at_some m.seats 0 some_))
  where
    by_first : (s : SeatData) × (get_elem? m.seats 0 ≡ core.some s) → waits m.plan (core_with m took gave) (record { seat = 0; answer = answer }) ≡ false
    by_first first = ap (λ (o : core.Option SeatState). elim o as (λ o. Bool) [ core.none ↦ false | core.some s ↦ waits_at m.plan (core_with m took gave) answer s.program ]) (seat_at m took 0 first.0 first.1)
        ∙ waits_none m.plan (core_with m took gave) answer (seat_program (machine_sizes m) first.0) (plain first.0 first.1).0

-- where a tick of it didn't move it has no step left
pub plain_rests : (a b : MachineState) (tick : Tick) (n : ℕ) → IsPlain a → ∥ HasSizes a ∥₁ → LastsAtMost a n → IsStill tick → Ticked a b 0 tick → Rests b 0
plain_rests a b (ticks.Moved kind) n plain sizes lasts still t took gave = absurd (still kind refl)
plain_rests a b (ticks.Waits what) n plain sizes lasts still t took gave = ∥∥₁_elim sizes (hlevel props) (λ h. ∥∥₁_elim lasts.1 (hlevel props) (λ s. let w = t.2 s.0.took s.0.gave s.0.agrees s.0.agrees_gave in
    absurd (true≢false (sym w.is.0 ∙ plain_waits a plain h.some_seat s.0.took s.0.gave w.moment.seat w.moment.answer w.is_of))))
plain_rests a b ticks.Idle n plain sizes lasts still t took gave = ∥∥₁_elim lasts.1 (hlevel props) (λ s. let w = t.2 s.0.took s.0.gave s.0.agrees s.0.agrees_gave in
    rest_anyhow b w.follows.later took w.follows.later_gave gave 0 (subst (λ (d : Core). IsAtRest d 0) (sym (idle_core a b 0 s.0.took s.0.gave w)) (subst (IsAtRest (core_with a s.0.took s.0.gave)) w.is_of w.is)))

-- ## Up to a step of a kind

pub record PassedSoFar (m fresh : MachineState) (seat : ℕ) (kind : Kind) (count : ℕ) : Type 0 where
  pub passed : Passed m fresh seat kind
  pub rest : FirstRests fresh
  pub below : count < MOST_LEFT
  pub left : LastsAtMost fresh (MOST_LEFT - 1 - count)

pub passed_none : (m : MachineState) (seat : ℕ) (kind : Kind) → FirstRests m → LastsAtMost m (MOST_LEFT - 1) → PassedSoFar m m seat kind 0
passed_none m seat kind rest left = record { passed = led_none m seat kind; rest = rest; below = omega arith; left = left }

module _ (a b c : MachineState) (seat : ℕ) (kind : Kind) (count : ℕ) (so_far : PassedSoFar a b seat kind count) where
  pub passed_more : (tick : Tick) → IsOther tick kind → Ticked b c seat tick → Leaves tick b c → FirstRests c → PassedSoFar a c seat kind (count + 1)
  passed_more (ticks.Moved found) other t leaves rest = let f = fewer_left b c count leaves so_far.left in record { passed = led_more a b c seat kind found so_far.passed t other; rest = rest; below = f.0; left = f.1 }
  passed_more (ticks.Waits what) other t leaves rest = absurd other
  passed_more ticks.Idle other t leaves rest = absurd other

  pub passed_last : (tick : Tick) → IsLast tick kind → Ticked b c seat tick → Led a c seat kind
  passed_last (ticks.Moved found) last t = led_here a b c seat kind so_far.passed (subst (λ (k : Kind). Ticked b c seat (ticks.Moved k)) last t)
  passed_last (ticks.Waits what) last t = led_waits a b c seat kind what so_far.passed t
  passed_last ticks.Idle last t = led_idle a b c seat kind so_far.passed t
