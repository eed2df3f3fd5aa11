-- A step of a client leaves as many of all as there were, and the tables keep their sizes.
use Rattle.std.proofs.Common.{◌≡◌, refl, ℕ, ◌+◌, ◌<◌, ◌≤◌, List, length, slice_set, Option, Some, None, ap, sym, subst, ◌∙◌, arith}
use Rattle.std.proofs.Props.{props}
use Rattle.std.proofs.Math.Logic.{∥∥₁_elim}
use Rattle.std.proofs.Math.ListN.{length-set}
use Rattle.std.specs.List.{AllByRecursion}
use Rattle.corr_core.specs.declared.marks.Plan as marks
use Rattle.sock_words.specs.declared.outcome.Outcome.{Outcome}
use Rattle.sock_words.specs.declared.plain.Plan.{Plan}
use Rattle.sock_io.specs.LinkHalves.{OutState}
use Rattle.seat_programs.specs.TableSteps as calls
use Rattle.seat_programs.specs.Programs.{Program, Say, Sent}
use Rattle.seat_programs.specs.Cores.{resolved, said}
use Rattle.seat_programs.specs.Ticks.{Answer}
use Rattle.seat_states.specs.declared.point.Step.{Step}
use Rattle.seat_states.specs.declared.point.Step.TheVariants as firsts
use Rattle.seat_states.specs.ProgramStepsOfMachine.{First, OfTable, OfAside, OfMessage, OfLink, OfHome}
use Rattle.seat_states.specs.ProgramStepsOfMachine as kinds
use Rattle.client_seats.specs.ClientSeatState.{SeatData}
use Rattle.machine_model.specs.declared.home_message.HomeMessage.{HomeMessage}
use Rattle.machine_model.specs.MachineLinks.{LinksData}
use Rattle.machine_model.specs.Machines.{MachineState, TableState, READERS, HasSizes, table_of, IsSized}
use Rattle.machine_model.specs.MachineSteps.{AsMany, LinkAsked, OutsAfter, LettersAfter, SameBase, Goes, MadeFirst, holders_after}

pub length_said : (p : Program) (os : List (Option Outcome)) → length (said p os) ≡ length os
length_said (Say o outcome next) os = length_said next (slice_set os o (Some outcome)) ∙ length-set os o (Some outcome)
length_said (Sent o next) os = length_said next os
length_said _ os = refl

pub length_holders : (i : ℕ) (call : calls.TableStep) (holders : List (Option ℕ)) → length (holders_after i call holders) ≡ length holders
length_holders i (calls.OnLink (calls.TakeLink k)) holders = length-set holders k (Some i)
length_holders i (calls.OnLink (calls.PutLink k)) holders = length-set holders k None
length_holders i _ holders = refl

length_letters : (seat : SeatData) (step : Step) (old fresh : List (Option HomeMessage)) → LettersAfter seat step old fresh → length fresh ≡ length old
length_letters seat (firsts.PutMessage q author) old fresh h = ap length h.fresh_are ∙ length-set old q (Some h.letter)
length_letters seat _ old fresh h = ap length h

pub length_outs : (call : calls.TableStep) (old fresh : List OutState) → OutsAfter call old fresh → length fresh ≡ length old
length_outs (calls.OnLink (calls.FinishLink k)) old fresh o = ap length o.3 ∙ length-set old k o.1
length_outs _ old fresh o = ap length o

-- where the links stay
pub many_same : {old fresh : TableState} → length fresh.letters ≡ length old.letters → fresh.links ≡ old.links → length fresh.outcomes ≡ length old.outcomes → AsMany old fresh
many_same letters links outcomes = record {
  letters = letters;
  holders = ap (λ (l : LinksData). length l.holders) links;
  nexts = ap (λ (l : LinksData). length l.nexts) links;
  outs = ap (λ (l : LinksData). length l.outs) links;
  inns = ap (λ (l : LinksData). length l.inns) links;
  outcomes = outcomes;
}

module _ (old fresh : MachineState) (i : ℕ) (place seat' : SeatData) (step : Step) where
  told_as_many : (next : Program) → Goes (table_of old) (table_of fresh) place seat' next → length fresh.outcomes ≡ length old.outcomes
  told_as_many next goes = ap length goes.told ∙ length_said (resolved place.waiting next) old.outcomes

  asked_many : {k : ℕ} {next : Program} {HasAnswered : OutState → OutState → Type 0} → LinkAsked (table_of old) (table_of fresh) i place seat' k next HasAnswered → AsMany (table_of old) (table_of fresh)
  asked_many {k} w = record {
    letters = ap length w.letters;
    holders = ap length w.holders;
    nexts = ap length w.nexts;
    outs = ap length w.asked.outs_are ∙ length-set old.links.outs k w.asked.out';
    inns = ap length w.goes.base.inns;
    outcomes = told_as_many _ w.goes;
  }

  pub as_many : (first : First) (answer : Answer) → MadeFirst (table_of old) (table_of fresh) i place seat' step first answer → AsMany (table_of old) (table_of fresh)
  as_many (OfTable call) answer w = record {
    letters = length_letters place step old.letters fresh.letters w.1.letters;
    holders = ap length w.1.holders ∙ length_holders i call old.links.holders;
    nexts = ap length w.1.nexts;
    outs = length_outs call old.links.outs fresh.links.outs w.1.outs;
    inns = ap length w.1.goes.base.inns;
    outcomes = told_as_many _ w.1.goes;
  }
  as_many (OfAside aside) answer w = many_same (ap length w.1.letters) w.1.links (told_as_many _ w.1.goes)
  as_many (OfMessage q) answer w = many_same (ap length w.1.letters ∙ length-set old.letters q None) w.1.links (told_as_many _ w.1.goes)
  as_many (OfLink k) answer w = record {
    letters = ap length w.1.letters;
    holders = ap (λ (l : LinksData). length l.holders) w.1.links ∙ length-set old.links.holders k (Some i);
    nexts = ap (λ (l : LinksData). length l.nexts) w.1.links;
    outs = ap (λ (l : LinksData). length l.outs) w.1.links;
    inns = ap length w.1.goes.base.inns;
    outcomes = told_as_many _ w.1.goes;
  }
  as_many (OfHome k n) answer w = record {
    letters = ap length w.1.letters;
    holders = ap (λ (l : LinksData). length l.holders) w.1.links ∙ length-set old.links.holders k None;
    nexts = ap (λ (l : LinksData). length l.nexts) w.1.links ∙ length-set old.links.nexts k n;
    outs = ap (λ (l : LinksData). length l.outs) w.1.links;
    inns = ap length w.1.goes.base.inns;
    outcomes = told_as_many _ w.1.goes;
  }
  as_many (kinds.OfPut k asked bytes) answer w = asked_many w.2
  as_many (kinds.OfReady k) answer w = asked_many w.2

-- so the tables have the sizes that their plans say, whatever `open`s the ending goes over
pub sizes_but : (old fresh : MachineState) → HasSizes old → AsMany (table_of old) (table_of fresh) → fresh.plan ≡ old.plan → fresh.ids.plan ≡ old.ids.plan → fresh.calls ≡ old.calls → length fresh.ends ≡ length old.ends → length fresh.seats ≡ length old.seats
    → length fresh.readers ≡ length old.readers → AllByRecursion (λ o. o < fresh.plan.operations) fresh.opens → length fresh.opens ≤ 32 → HasSizes fresh
sizes_but old fresh h many plan id_plan calls ends seats readers opens few_opens = record {
  tables = record {
    letters_are = many.letters ∙ h.letters_are ∙ sym (ap (λ (p : Plan). p.requests) plan);
    holders_are = many.holders ∙ h.holders_are ∙ links;
    nexts_are = many.nexts ∙ h.nexts_are ∙ links;
    outs_are = many.outs ∙ h.outs_are ∙ links;
    inns_are = many.inns ∙ h.inns_are ∙ links;
  };
  ends_are = ends ∙ h.ends_are ∙ links;
  seats_are = seats ∙ h.seats_are ∙ sym (ap (λ (p : Plan). p.seats) plan);
  some_seat = subst (λ (n : ℕ). 0 < n) (sym seats) h.some_seat;
  few_seats = subst (λ (n : ℕ). n ≤ READERS) (sym seats) h.few_seats;
  readers_are = readers ∙ h.readers_are ∙ links;
  few_readers = subst (λ (n : ℕ). n ≤ 32) (sym readers) h.few_readers;
  slots_are = ap length calls ∙ h.slots_are ∙ sym (ap (λ (q : marks.Plan). q.slots) id_plan);
  few_slots = subst (λ (q : marks.Plan). q.slots ≤ 4096) (sym id_plan) h.few_slots;
  operations_are = ap (λ (q : marks.Plan). q.operations) id_plan ∙ h.operations_are ∙ sym (ap (λ (p : Plan). p.operations) plan);
  calls_are = subst (λ (q : marks.Plan). AllByRecursion (λ o. o < q.operations) fresh.calls) (sym id_plan) (subst (λ (os : List ℕ). AllByRecursion (λ o. o < old.ids.plan.operations) os) (sym calls) h.calls_are);
  id_seats_are = ap (λ (q : marks.Plan). q.seats) id_plan ∙ h.id_seats_are ∙ ap (λ (n : ℕ). READERS + n) (sym readers);
  opens_are = opens;
  few_opens = few_opens;
  few_outcomes = subst (λ (n : ℕ). n ≤ 4096) (sym many.outcomes) h.few_outcomes;
}
  where
    links : old.plan.links ≡ fresh.plan.links
    links = sym (ap (λ (p : Plan). p.links) plan)

pub sizes_stay : (old fresh : MachineState) → HasSizes old → AsMany (table_of old) (table_of fresh) → fresh.plan ≡ old.plan → fresh.ids.plan ≡ old.ids.plan → fresh.calls ≡ old.calls → length fresh.ends ≡ length old.ends → length fresh.seats ≡ length old.seats
    → length fresh.readers ≡ length old.readers → fresh.opens ≡ old.opens → HasSizes fresh
sizes_stay old fresh h many plan id_plan calls ends seats readers opens = sizes_but old fresh h many plan id_plan calls ends seats readers
    (subst (λ (p : Plan). AllByRecursion (λ o. o < p.operations) fresh.opens) (sym plan) (subst (λ (os : List ℕ). AllByRecursion (λ o. o < old.plan.operations) os) (sym opens) h.opens_are))
    (subst (λ (os : List ℕ). length os ≤ 32) (sym opens) h.few_opens)

-- behind a step of seat i
pub sizes_kept : (old fresh : MachineState) (i : ℕ) (seat' : SeatData) → HasSizes old → AsMany (table_of old) (table_of fresh) → SameBase (table_of old) (table_of fresh) → length fresh.ends ≡ length old.ends → fresh.seats ≡ slice_set old.seats i seat' → fresh.readers ≡ old.readers
    → fresh.opens ≡ old.opens → HasSizes fresh
sizes_kept old fresh i seat' h many base ends seats readers opens = sizes_stay old fresh h many base.plan base.id_plan base.calls ends (ap length seats ∙ length-set old.seats i seat') (ap length readers) opens

-- ## The sizes of a machine

module _ (m : MachineState) (sizes : ∥ HasSizes m ∥₁) where
  pub is_sized : IsSized (table_of m)
  is_sized = ∥∥₁_elim sizes (hlevel props) (λ h. h.tables)

  pub few_seats : length m.seats ≤ READERS
  few_seats = ∥∥₁_elim sizes (hlevel props) (λ h. h.few_seats)

  pub some_seat : 0 < length m.seats
  some_seat = ∥∥₁_elim sizes (hlevel props) (λ h. h.some_seat)

  pub few_slots : m.ids.plan.slots ≤ 4096
  few_slots = ∥∥₁_elim sizes (hlevel props) (λ h. h.few_slots)

  pub few_calls : length m.calls ≤ 4096
  few_calls = ∥∥₁_elim sizes (hlevel props) (λ h. let a = h.slots_are in let b = h.few_slots in omega (arith, a, b))

  pub operations_are : m.ids.plan.operations ≡ m.plan.operations
  operations_are = ∥∥₁_elim sizes (hlevel props) (λ h. h.operations_are)
