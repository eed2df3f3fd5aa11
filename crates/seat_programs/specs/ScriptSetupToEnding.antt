-- The run of a script: how it begins, its setup, its schedule, the rounds until no client has a step left, and the ending.
use Rattle.std.specs.Prelude.{ℕ, zero, suc, ◌≡◌, ◌⊎◌, ◌+◌, ◌-◌, ◌*◌, Bool, true, false, not, List, [], ◌∷◌, ◌++◌, map, flat_map, fold, length, replicate, slice_index, None}
use Rattle.std.specs.List.{AllByRecursion, list_any}
use mathlib.Core.Option as core
use Rattle.sock_model.specs.sock_words.specs.declared.plain.Plan.{Plan}
use Rattle.sock_model.specs.sock_words.specs.declared.place_word.PlaceWord.{PlaceWord}
use Rattle.sock_model.specs.sock_words.specs.PackedWords.{vref_unused}
use Rattle.sock_model.specs.declared.home.Home.{Home}
use Rattle.sock_model.specs.declared.home.Home.TheVariants.{Link}
use Rattle.sock_model.specs.SocketTableLayout.{all_words, place_index}
use Rattle.sock_message.specs.brpc_model.specs.Items.{Item, Call, Expire, Join}
use Rattle.sock_message.specs.brpc_model.specs.Operations.{Turn, Ticks, clients, link_names}
use Rattle.sock_message.specs.brpc_model.specs.DrawnSeatsAndScripts.{sim_seats}
use Rattle.sock_message.specs.brpc_model.specs.Report.{Report}
use Rattle.sock_message.specs.brpc_model.specs.PlaceWords.{IsReportOf}
use Rattle.seat_programs.specs.Programs.{Program, Rest}
use Rattle.seat_programs.specs.ReaderProgram.{reader}
use Rattle.corr_core.specs.declared.marks.Plan.{Plan as IdPlan}
use Rattle.seat_programs.specs.declared.task.Task.{Task}
use Rattle.seat_programs.specs.declared.task.Sizes.{Sizes}
use Rattle.seat_programs.specs.Tasks.{tasks, opens, calls, plan_of, id_plan_of}
use Rattle.seat_programs.specs.ClientProgram.{client_from, ending_of}
use Rattle.seat_programs.specs.Cores.{Calls, Core, resolved, said, next_step, with_seat, lies_at, link_place}
use Rattle.seat_programs.specs.Ticks.{Moment, quiet, seats_of, ticked, run, waits, AreAnswered, IsAlwaysReady, broken_in}
use Rattle.seat_programs.specs.ScheduledRuns.{IsAtRest, IsSettled, from_to, rounds, Scheduled}

-- ## Which scripts

-- an operation that a tick can't make yet
abbrev pub is_later : Item → Bool
is_later (Call call) = true
is_later (Expire client number) = true
is_later (Join client number) = true
is_later other = false

-- the script has no call, and nothing on calls
abbrev pub is_callless : List Item → Bool
is_callless script = not (list_any is_later script)

-- ## How a run begins

-- a slot's words: it is free, at the first version, without references
abbrev pub free_slot : ℕ → List ℕ
free_slot first = 0 ∷ vref_unused first ∷ 0 ∷ 0 ∷ 0 ∷ 0 ∷ []

abbrev pub free_slots : ℕ → ℕ → List ℕ
free_slots first zero = []
free_slots first (suc n) = free_slot first ++ free_slots first n

abbrev pub opening_words : Plan → List ℕ
opening_words p = free_slots p.first p.slots ++ replicate (all_words p - 6 * p.slots) 0

-- each link is at home, and took nothing
abbrev pub new_links : ℕ → ℕ → List (core.Option Home)
new_links k zero = []
new_links k (suc n) = core.some (Link k [] 0 false) ∷ new_links (k + 1) n

abbrev pub opening_homes : Plan → List (core.Option Home)
opening_homes p = replicate p.requests core.none ++ new_links 0 p.links

-- how many slots and requests a table has
abbrev pub sizes_of : Plan → IdPlan → Sizes
sizes_of p q = record { slots = p.slots; requests = p.requests; ids = q.slots }

-- the programs of these clients, over a table of these sizes
abbrev pub programs : Sizes → List (List Task) → List Program
programs sizes clients = map (client_from sizes []) clients

-- the table of ids: each slot is free, at the first version 1
abbrev pub opening_ids : ℕ → List ℕ
opening_ids zero = []
opening_ids (suc n) = 0 ∷ 274877906944 ∷ opening_ids n

abbrev pub opening_calls : IdPlan → ℕ → Calls
opening_calls q links = record {
  plan = q;
  words = opening_ids q.slots ++ replicate (2 * q.operations) 0;
  homes = replicate q.slots (core.some None);
  waiting = replicate q.seats [];
  gave = replicate links [];
  ending = false;
}

-- the seats have these programs
abbrev pub beginning : Plan → IdPlan → List Program → Core
beginning p q programs = record {
  words = opening_words p;
  homes = opening_homes p;
  seats = map (λ (program : Program). record { program = next_step (resolved [] program); hand = [] }) programs;
  outcomes = fold (λ os program. said (resolved [] program) os) (replicate p.operations None) programs;
  calls = opening_calls q p.links;
}

-- the readers of the links, of which the next has this number; each link has the number of its `open`
abbrev pub readers_from : List ℕ → ℕ → List ℕ → List Program
readers_from calls k [] = []
readers_from calls k (o ∷ os) = reader calls k o ∷ readers_from calls (k + 1) os

-- the seats of clients stand before those of the readers, which begin at 32
abbrev pub all_programs : List Program → List Program → List Program
all_programs clients readers = clients ++ (replicate (32 - length clients) Rest ++ readers)

-- the tasks of so many clients from this one on
abbrev pub tasks_from : List Item → ℕ → ℕ → List (List Task)
tasks_from script client zero = []
tasks_from script client (suc n) = tasks script client ∷ tasks_from script (client + 1) n

-- those of the setup, which is seat 0's, and of each client c, which is seat c
abbrev pub all_tasks : List Item → List (List Task)
all_tasks script = tasks_from script 0 (clients script + 1)

abbrev pub opened : List Item → Core
opened script = beginning (plan_of script) (id_plan_of script)
    (all_programs (programs (sizes_of (plan_of script) (id_plan_of script)) (all_tasks script)) (readers_from (calls script) 0 (opens script)))

-- ## How it goes on

-- seat 0 begins the ending
abbrev pub ending : List Item → Core → Core
ending script c = with_seat 0 (ending_of (opens script)) [] c.words c.homes c

-- and behind it the run is ending, so that a reading ends where nothing more is there
abbrev pub is_ending : Core → Core
is_ending c = record c { calls = record c.calls { ending = true } }

-- the core behind so many ticks of the setup, which asks no link
abbrev pub set_up : List Item → ℕ → Core
set_up script n = run (plan_of script) (opened script) (replicate n (quiet 0))

-- behind these ticks of the clients
abbrev pub played : List Item → ℕ → List Moment → Core
played script n moments = run (plan_of script) (set_up script n) moments

-- the schedule of one tick each of the seats that `sim` draws
abbrev pub drawn_turns : List Item → ℕ → List Turn
drawn_turns script seed = map (λ i. Ticks i 1) (sim_seats script seed)

-- the core in which the run of the script by these lines of a schedule ends, over links that are always ready in time
pub record IsRunOf (script : List Item) (turns : List Turn) (end_ : Core) : Type 0 where
  -- the setup takes so many ticks of seat 0
  pub setup : ℕ
  pub is_set_up : IsAtRest (set_up script setup) 0
  -- the schedule makes these ticks
  pub scheduled : List Moment
  pub by_schedule : Scheduled (plan_of script) (set_up script setup) turns scheduled
  -- so many rounds more, and no seat has a step left
  pub more : ℕ
  pub later : List Moment
  pub in_rounds : seats_of later ≡ rounds more (clients script)
  pub is_settled : IsSettled (played script setup (scheduled ++ later))
  -- whoever asked its link was answered
  pub answered : AreAnswered (plan_of script) (set_up script setup) (scheduled ++ later)
  pub always_ready : AllByRecursion IsAlwaysReady (scheduled ++ later)
  -- the ending takes so many ticks of seat 0
  pub last : ℕ
  pub is_end : end_ ≡ run (plan_of script) (ending script (played script setup (scheduled ++ later))) (replicate last (quiet 0))
  pub is_ended : IsSettled end_

-- ## With calls

-- the seats that `settle` ticks in a round: the clients, and then the readers
abbrev pub round_of : List Item → List ℕ
round_of script = from_to 1 (clients script) ++ from_to 32 (length (link_names script))

-- no tick of these moves: each seat waits, or has no step left
abbrev pub AreStill : Plan → Core → List Moment → Type 0
AreStill p c [] = Unit {0}
AreStill p c (m ∷ ms) = (IsAtRest c m.seat ⊎ (waits p c m ≡ true)) × AreStill p (ticked p c m) ms

-- these are rounds, one after another, and each moves something
abbrev pub EachMoves : List Item → Core → List (List Moment) → Type 0
EachMoves script c [] = Unit {0}
EachMoves script c (now ∷ later) = (seats_of now ≡ round_of script) × (AreStill (plan_of script) c now → ⊥) × EachMoves script (run (plan_of script) c now) later

-- the ticks of rounds, one after another
abbrev pub ticks_of : List (List Moment) → List Moment
ticks_of parts = flat_map (λ part. part) parts

-- rounds up to the first that moves nothing
pub record Settles (script : List Item) (c : Core) (moments : List Moment) : Type 0 where
  -- the rounds that move something
  pub moving : List (List Moment)
  pub each_moves : EachMoves script c moving
  -- and the one that moves nothing
  pub last : List Moment
  pub one_more : seats_of last ≡ round_of script
  pub still : AreStill (plan_of script) (run (plan_of script) c (ticks_of moving)) last
  pub all : moments ≡ ticks_of moving ++ last

-- the core in which the run of a script ends by these lines of a schedule: rounds up to the first that moves nothing, the ending, and such rounds again
pub record IsRunWithCalls (script : List Item) (turns : List Turn) (end_ : Core) : Type 0 where
  pub setup : ℕ
  pub is_set_up : IsAtRest (set_up script setup) 0
  pub scheduled : List Moment
  pub by_schedule : Scheduled (plan_of script) (set_up script setup) turns scheduled
  pub later : List Moment
  pub settles : Settles script (played script setup scheduled) later
  pub answered : AreAnswered (plan_of script) (set_up script setup) (scheduled ++ later)
  pub last : ℕ
  pub ended : Core
  pub is_ended : ended ≡ is_ending (run (plan_of script) (ending script (played script setup (scheduled ++ later))) (replicate last (quiet 0)))
  pub is_over : IsAtRest ended 0
  pub final : List Moment
  pub settles_again : Settles script ended final
  pub answered_again : AreAnswered (plan_of script) ended final
  pub always_ready : AllByRecursion IsAlwaysReady (scheduled ++ later ++ final)
  pub is_end : end_ ≡ run (plan_of script) ended final

-- the links that were asked in the run and answered that they failed, one after another
abbrev pub broken_of : {script : List Item} {turns : List Turn} {end_ : Core} → IsRunOf script turns end_ → List ℕ
broken_of {script} r = broken_in (plan_of script) (set_up script r.setup) (r.scheduled ++ r.later)

-- ## What a run leaves

-- the place words, eight for each operation
abbrev pub place_words : Plan → List ℕ → List PlaceWord
place_words p words = map (λ l. record { 0 = slice_index words (place_index p l) }) (from_to 0 (8 * p.operations))

-- what the links at home took, as many as there are
abbrev pub taken_by : Home → List ℕ
taken_by (Link k took next done) = took
taken_by other = []

abbrev pub took_at_home : Plan → List (core.Option Home) → List (List ℕ)
took_at_home p homes = map (λ k. flat_map taken_by (lies_at homes (link_place p k))) (from_to 0 p.links)

-- what is reported of the core in which a run ends, where this is said of what its links took
abbrev pub Reports : List Item → Core → List (List ℕ) → Report → Type 0
Reports script core took report = let p = plan_of script in IsReportOf script core.outcomes (place_words p core.words) took report
