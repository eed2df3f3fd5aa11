-- A run begins with both rules, the ending does, and so does what follows it.
use Rattle.std.proofs.Common.{◌≡◌, ℕ, ◌+◌, ◌<◌, ◌≤◌, List, [], length, arith}
use Rattle.std.specs.List.{AllByRecursion}
use Rattle.sock_words.specs.declared.plain.Plan.{Plan}
use Rattle.sock_model.specs.declared.home.Home.TheVariants.{Empty, Link, Message}
use Rattle.sock_model.specs.declared.view.View.{View}
use Rattle.sock_model.specs.LawfulSockets.{PlanFits}
use Rattle.seat_programs.specs.corr_core.specs.declared.marks.Plan.{Plan as IdPlan}
use Rattle.seat_programs.specs.declared.task.Task.{Task}
use Rattle.seat_programs.specs.Programs.{Program}
use Rattle.seat_programs.specs.ClientProgram.{ending_of}
use Rattle.seat_programs.specs.Cores.{Core, with_seat}
use Rattle.seat_programs.specs.ScheduledRuns.{IsAtRest}
use Rattle.seat_programs.specs.ScriptSetupToEnding.{opening_words, opening_homes, sizes_of, programs, readers_from, all_programs, is_ending}
use Rattle.seat_programs.specs.Explained.{AreTasks}
use Rattle.programs_allowed.specs.program_steps.specs.SoundSeats.{IsWithinLimits, IsAhead}
use Rattle.programs_allowed.specs.sock_runs.proofs.SoundAlongRuns.{seat_rests}
use Rattle.programs_allowed.specs.SeatOpenings.{opening_views, all_seats}
use Rattle.programs_allowed.proofs.WordsAtBeginning.{unused, no_message}
use Rattle.programs_allowed.specs.program_steps.specs.TicksLeftAtMost.{MOST_TICKS}
use Rattle.programs_allowed.specs.runs_end.proofs.Bounded.{IsBounded}
use Rattle.programs_allowed.proofs.LastingTicksOfRuns.{length_all, length_seats, opening_bounded}
use Rattle.programs_allowed.proofs.AllowedRunOpening.{begun_core, opens_sound, ending_sound, told_sound}
use Rattle.programs_allowed.specs.id_runs.specs.Goes.{FitsOwner, HomesFit, CodesFit}
use Rattle.programs_allowed.specs.id_runs.proofs.IdRuleOpening.{all_go, begins_ids, first_views, ending_ids, told_ids}
use Rattle.joint_runs.proofs.BothTablesSound.{BothSound}

-- the two tables are made for these clients, calls and `open` operations
pub record AreFor (p : Plan) (q : IdPlan) (clients : List (List Task)) (calls opens : List ℕ) : Type 0 where
  pub are : AreTasks p clients
  pub limits : IsWithinLimits p
  pub plan : PlanFits p
  pub few_clients : length clients ≤ 32
  pub few_opens : length opens ≤ 32
  pub opens_in : AllByRecursion (λ o. o < p.operations) opens
  pub calls_in : AllByRecursion (λ o. o < q.operations) calls
  -- an id slot for each call, and a seat for each client and reader
  pub slots : length calls ≡ q.slots
  pub few_slots : q.slots ≤ 4096
  pub operations : q.operations ≡ p.operations
  pub seats : q.seats ≡ 32 + length opens

module _ (p : Plan) (q : IdPlan) (clients : List (List Task)) (calls opens : List ℕ) (f : AreFor p q clients calls opens) where
  abbrev all : List Program
  all = all_programs (programs (sizes_of p q) clients) (readers_from calls 0 opens)

  pub narrow : q.slots ≤ 65536
  narrow = let few = f.few_slots in omega (arith, few)

  length_is : length all ≡ q.seats
  length_is = let is = f.seats in omega (arith, is, length_all p q clients calls opens f.few_clients)

  codes : CodesFit p (opening_words p)
  codes i inside = let z = (unused p).codes i inside in omega (arith, z)

  owners : HomesFit (FitsOwner q) (opening_homes p)
  owners i (Message heading bytes) at = absurd (no_message p i heading bytes at)
  owners i (Link k took next done) at = tt
  owners i Empty at = tt

  pub opens_both : BothSound p q (begun_core p q clients calls opens) (opening_views p (all_seats clients (length opens)))
  opens_both = record {
    sockets = opens_sound p q clients calls opens f.are f.limits f.plan (let few = f.few_opens in omega (arith, few, length_seats p q clients calls opens f.few_clients)) f.opens_in;
    id_views = first_views q.seats;
    ids = begins_ids p q narrow f.operations all (let are = f.are in all_go p q narrow f.operations clients calls opens are.fit f.calls_in f.slots) length_is codes owners;
  }

  -- and at most so many ticks are left
  pub opens_bounded : IsBounded p MOST_TICKS (begun_core p q clients calls opens) (opening_views p (all_seats clients (length opens)))
  opens_bounded = opening_bounded p q clients calls opens f.are f.limits f.few_slots f.few_clients f.few_opens (let few = f.few_slots in let is = f.slots in omega (arith, few, is)) f.opens_in

  -- where seat 0 has no step left it may make the ending
  pub ending_both : (c : Core) (vs : List View) → IsAhead c → IsAtRest c 0 → BothSound p q c vs → BothSound p q (with_seat 0 (ending_of opens) [] c.words c.homes c) vs
  ending_both c vs ahead idle b = record {
    sockets = ending_sound p c vs opens f.opens_in ahead idle b.sockets;
    id_views = b.id_views;
    ids = ending_ids p q narrow f.operations c b.id_views opens (λ seat at. seat_rests c ahead 0 idle seat at) b.ids;
  }

-- behind the ending the readers are told
pub told_both : (p : Plan) (q : IdPlan) (c : Core) (vs : List View) → BothSound p q c vs → BothSound p q (is_ending c) vs
told_both p q c vs b = record { sockets = told_sound p c vs b.sockets; id_views = b.id_views; ids = told_ids p q c b.id_views b.ids }
