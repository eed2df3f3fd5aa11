-- A whole run of a script: all seats are sound from its first tick to its last, and behind the ending no life is alive, where each client ends.
use Rattle.std.proofs.Common.{◌≡◌, ℕ, zero, suc, ◌+◌, ◌-◌, ◌<◌, ◌≤◌, ◌==◌, Bool, true, false, cond, eqb-true, List, [], ◌∷◌, ◌++◌, length, replicate, refl, sym, ap, ◌∙◌, subst, arith}
use Rattle.std.specs.Prelude as std
use Rattle.std.specs.Prelude.{None, Some, option_map}
use Rattle.std.specs.List.{filter_map, cons_option}
use Rattle.std.proofs.lemmas.Bool.{true≢false}
use mathlib.Core.Option.{some, some-injective, some-ne-none}
use lib.ListN.{get_elem?}
use Rattle.sock_words.specs.declared.plain.Plan.{Plan}
use Rattle.seat_programs.specs.brpc_model.specs.Items.{Item, Open, is_open}
use Rattle.seat_programs.specs.brpc_model.specs.LinePlaceFaults.{names}
use Rattle.seat_programs.specs.brpc_model.specs.Operations.{Turn, clients}
use Rattle.sock_model.specs.declared.view.View.{View}
use Rattle.seat_programs.specs.declared.task.Op.{Op}
use Rattle.seat_programs.specs.declared.task.Task.{Task}
use Rattle.seat_programs.specs.Tasks.{Numbered, numbered, of_client, op_of, task_of, tasks, opens, calls, plan_of, id_plan_of}
use Rattle.seat_programs.specs.Programs.{Rest}
use Rattle.seat_programs.specs.ClientProgram.{ending_of}
use Rattle.seat_programs.specs.Cores.{Core}
use Rattle.seat_programs.specs.Ticks.{Moment, quiet, run, AreAnswered}
use Rattle.seat_programs.specs.ScheduledRuns.{IsAtRest, IsSettled}
use Rattle.seat_programs.specs.ScriptSetupToEnding.{sizes_of, programs, readers_from, all_programs, tasks_from, all_tasks, opened, ending, is_ending, set_up, played, IsRunWithCalls}
use Rattle.seat_programs.specs.Explained.{AreTasks}
use Rattle.sock_runs.specs.program_steps.specs.SoundSeats.{Sound, IsAhead, AllRest, AreFitting, AllFailed, IsOver, views_along}
use Rattle.sock_runs.proofs.HandTicks.{AtHome}
use Rattle.sock_runs.proofs.LinkTicks.{RetriesGo}
use Rattle.sock_runs.proofs.SoundAlongRuns.{run_sound, seat_ahead, seat_rests, run_ahead, beginning_ahead, settled_rests}
use Rattle.sock_runs.proofs.Unasked.{quiet_answered}
use Rattle.sock_runs.proofs.Quiets.{run_rests}
use Rattle.sock_runs.proofs.FailedLivesEnded.{is_over, links_home}
use Rattle.program_walks.proofs.Recorded.{Recorded, run_recorded}
use Rattle.program_walks.proofs.Rested.{IsPast, recorded_ending, recorded_on, rested_failed}
use Rattle.program_walks.proofs.OpenedLivesRecorded.{opens_in, or_cases, own_opens, own_is, beginning_recorded, others_still}
use Rattle.seat_programs.specs.corr_core.proofs.NoteSums.{at_length}

-- ## The operations of an ending

behind : (q : std.Option ℕ) (os : List ℕ) (o : ℕ) → (n : ℕ) × (get_elem? os n ≡ some o) → (n : ℕ) × (get_elem? (cons_option q os) n ≡ some o)
behind None os o x = x
behind (Some m) os o x = (suc x.0, x.1)

listed_head : (all : List Numbered) (names : List (List ℕ)) (x : Numbered) (o : ℕ) (item : Item) (others : List Task) (os : List ℕ) → (opens_in others o ≡ true → (n : ℕ) × (get_elem? os n ≡ some o))
    → opens_in (cons_option (option_map (λ (op : Op). record { number = x.number; op = op }) (op_of all names x item)) others) o ≡ true → (n : ℕ) × (get_elem? (cons_option (cond (is_open item) (Some x.number) None) os) n ≡ some o)
listed_head all names x o (Open name shape) others os more there = or_cases (x.number == o) (opens_in others o) ((n : ℕ) × (get_elem? (x.number ∷ os) n ≡ some o)) (λ here. (0, ap some (eqb-true x.number o here))) (λ y. let m = more y in (suc m.0, m.1)) there
listed_head all names x o item others os more there = more there

abbrev opens_of : List Numbered → List ℕ
opens_of l = filter_map (λ (n : Numbered). cond (is_open n.op.item) (Some n.number) None) l

listed_on : (all : List Numbered) (ns : List (List ℕ)) (client o : ℕ) (x : Numbered) (xs : List Numbered) → (opens_in (filter_map (task_of all ns) (of_client client xs)) o ≡ true → (n : ℕ) × (get_elem? (opens_of xs) n ≡ some o))
    → (b : Bool) → opens_in (filter_map (task_of all ns) (cond b (x ∷ of_client client xs) (of_client client xs))) o ≡ true → (n : ℕ) × (get_elem? (opens_of (x ∷ xs)) n ≡ some o)
listed_on all ns client o x xs more true there = listed_head all ns x o x.op.item (filter_map (task_of all ns) (of_client client xs)) (opens_of xs) more there
listed_on all ns client o x xs more false there = behind (cond (is_open x.op.item) (Some x.number) None) (opens_of xs) o (more there)

listed : (all : List Numbered) (ns : List (List ℕ)) (client o : ℕ) (l : List Numbered) → opens_in (filter_map (task_of all ns) (of_client client l)) o ≡ true → (n : ℕ) × (get_elem? (opens_of l) n ≡ some o)
listed all ns client o [] there = absurd (true≢false (sym there))
listed all ns client o (x ∷ xs) there = listed_on all ns client o x xs (λ more. listed all ns client o xs more) (x.op.client == client) there

tasks_at : (script : List Item) (client n j : ℕ) (ts : List Task) → get_elem? (tasks_from script client n) j ≡ some ts → (k : ℕ) × (tasks script k ≡ ts)
tasks_at script client zero j ts at = absurd (some-ne-none ts (sym at))
tasks_at script client (suc n) zero ts at = (client, some-injective (tasks script client) ts at)
tasks_at script client (suc n) (suc j) ts at = tasks_at script (client + 1) n j ts at

tasks_many : (script : List Item) (client n : ℕ) → length (tasks_from script client n) ≡ n
tasks_many script client zero = refl
tasks_many script client (suc n) = omega (arith, tasks_many script (client + 1) n)

-- operation o is an `open`, and j a client or the setup
abbrev pub IsListed : List Item → ℕ → ℕ → Type 0
IsListed script j o = (j ≤ clients script) × ((n : ℕ) × (get_elem? (opens script) n ≡ some o))

-- what a client opens is among the operations of the ending
own_listed : (script : List Item) (are : AreTasks (plan_of script) (all_tasks script)) (j o : ℕ) → own_opens (plan_of script) (all_tasks script) are j o ≡ true → IsListed script j o
own_listed script are j o there = let x = own_is (plan_of script) (all_tasks script) are j o there in let t = tasks_at script 0 (clients script + 1) j x.0 x.1 in
    (omega (arith, at_length (all_tasks script) j x.0 x.1, tasks_many script 0 (clients script + 1)), listed (numbered script) (names script) t.0 o (numbered script) (ap (λ l. opens_in l o) t.1 ∙ x.2))

-- ## The run

-- the core before the ending, the one in which seat 0 begins it, and the one in which seat 0 has made it
abbrev pub rested_of : (script : List Item) (turns : List Turn) (core : Core) → IsRunWithCalls script turns core → Core
rested_of script turns core is = played script is.setup (is.scheduled ++ is.later)

abbrev pub closing_of : (script : List Item) (turns : List Turn) (core : Core) → IsRunWithCalls script turns core → Core
closing_of script turns core is = ending script (played script is.setup (is.scheduled ++ is.later))

-- the views before the ending, of a run that begins with these
abbrev pub views_played : (script : List Item) (turns : List Turn) (core : Core) → IsRunWithCalls script turns core → List View → List View
views_played script turns core is vs = let p = plan_of script in
    views_along p (set_up script is.setup) (views_along p (opened script) vs (replicate is.setup (quiet 0))) (is.scheduled ++ is.later)

-- where seat 0 has made it
abbrev pub views_closed : (script : List Item) (turns : List Turn) (core : Core) → IsRunWithCalls script turns core → List View → List View
views_closed script turns core is vs = views_along (plan_of script) (closing_of script turns core is) (views_played script turns core is vs) (replicate is.last (quiet 0))

-- and at its end
abbrev pub views_ended : (script : List Item) (turns : List Turn) (core : Core) → IsRunWithCalls script turns core → List View → List View
views_ended script turns core is vs = views_along (plan_of script) is.ended (views_closed script turns core is vs) is.final

-- what steps aside find is as the rule of the ids says, in each part of the run
pub record AreFittingIn (script : List Item) (turns : List Turn) (core : Core) (is : IsRunWithCalls script turns core) : Type 0 where
  pub of_setup : AreFitting (plan_of script) (opened script) (replicate is.setup (quiet 0))
  pub of_played : AreFitting (plan_of script) (set_up script is.setup) (is.scheduled ++ is.later)
  pub of_closing : AreFitting (plan_of script) (closing_of script turns core is) (replicate is.last (quiet 0))
  pub of_final : AreFitting (plan_of script) is.ended is.final

-- the views of a beginning are sound and have no marks, and the ending may follow where seat 0 is at rest
pub record Begins (script : List Item) (vs : List View) : Type 0 where
  pub sound : Sound (plan_of script) (opened script) vs
  pub blank : (j : ℕ) (v : View) → get_elem? vs j ≡ some v → v.marks ≡ []
  pub ends : (c : Core) (ws : List View) → Sound (plan_of script) c ws → IsAhead c → IsAtRest c 0 → Sound (plan_of script) (ending script c) ws

-- who owes a call ends it, so that no seat has a step left at the end; and the reader of each link has found the life of its link failed, or failed it. A client may
-- make a life while the run is ending, behind a `join`, and it is its reader that fails it.
pub record IsOwed (script : List Item) (turns : List Turn) (core : Core) (is : IsRunWithCalls script turns core) : Type 0 where
  pub after : IsSettled core
  pub past : (o n : ℕ) → get_elem? (opens script) n ≡ some o → IsPast (plan_of script) core o

-- the run is ending, which the seats don't see
sound_ending : (p : Plan) (c : Core) (ws : List View) → Sound p c ws → Sound p (is_ending c) ws
sound_ending p c ws s = record { limits = s.limits; lawful = s.lawful; each = s.each; homes = s.homes; labels = s.labels; waiting = s.waiting; seats = s.seats }

module _ (script : List Item) (are : AreTasks (plan_of script) (all_tasks script)) (vs : List View) (begins : Begins script vs) (go : RetriesGo (plan_of script)) (turns : List Turn) (core : Core) (is : IsRunWithCalls script turns core)
    (fitting : AreFittingIn script turns core is) where
  abbrev p : Plan
  p = plan_of script

  abbrev moments : List Moment
  moments = is.scheduled ++ is.later

  abbrev rested : Core
  rested = played script is.setup (is.scheduled ++ is.later)

  abbrev closing : Core
  closing = ending script (played script is.setup (is.scheduled ++ is.later))

  abbrev closed : Core
  closed = run (plan_of script) (ending script (played script is.setup (is.scheduled ++ is.later))) (replicate is.last (quiet 0))

  -- seat 0 has made the ending
  closed_idle : IsAtRest closed 0
  closed_idle = subst (λ c. IsAtRest c 0) is.is_ended is.is_over

  -- neither the setup nor the ending asks a link
  pub set_up_answered : AreAnswered p (opened script) (replicate is.setup (quiet 0))
  set_up_answered = quiet_answered p (opened script) 0 is.setup is.is_set_up

  pub end_answered : AreAnswered p closing (replicate is.last (quiet 0))
  end_answered = quiet_answered p closing 0 is.last closed_idle

  opening_ahead : IsAhead (opened script)
  opening_ahead = beginning_ahead (plan_of script) (id_plan_of script) (all_programs (programs (sizes_of (plan_of script) (id_plan_of script)) (all_tasks script)) (readers_from (calls script) 0 (opens script)))

  pub set_up_sound : Sound p (set_up script is.setup) (views_along p (opened script) vs (replicate is.setup (quiet 0)))
  set_up_sound = run_sound p go (opened script) vs (replicate is.setup (quiet 0)) begins.sound set_up_answered fitting.of_setup

  pub played_sound : Sound p rested (views_played script turns core is vs)
  played_sound = run_sound p go (set_up script is.setup) (views_along p (opened script) vs (replicate is.setup (quiet 0))) moments set_up_sound is.answered fitting.of_played

  pub rested_ahead : IsAhead rested
  rested_ahead = run_ahead p (set_up script is.setup) moments (run_ahead p (opened script) (replicate is.setup (quiet 0)) opening_ahead)

  -- seat 0 is at rest before the ending
  pub rested_idle : IsAtRest rested 0
  rested_idle = run_rests p (set_up script is.setup) (is.scheduled ++ is.later) 0 is.is_set_up

  pub closing_sound : Sound p closing (views_played script turns core is vs)
  closing_sound = begins.ends rested (views_played script turns core is vs) played_sound rested_ahead rested_idle

  -- where seat 0 has made the ending, and the run is ending
  pub closed_sound : Sound p is.ended (views_closed script turns core is vs)
  closed_sound = subst (λ c. Sound p c (views_closed script turns core is vs)) (sym is.is_ended)
      (sound_ending p closed (views_closed script turns core is vs) (run_sound p go closing (views_played script turns core is vs) (replicate is.last (quiet 0)) closing_sound end_answered fitting.of_closing))

  -- all seats are sound at the end
  pub ended_sound : Sound p core (views_ended script turns core is vs)
  ended_sound = subst (λ c. Sound p c (views_ended script turns core is vs)) (sym is.is_end) (run_sound p go is.ended (views_closed script turns core is vs) is.final closed_sound is.answered_again fitting.of_final)

  closing_ahead : IsAhead closing
  closing_ahead = seat_ahead rested 0 (ending_of (opens script)) [] rested.words rested.homes rested_ahead

  pub closed_ahead : IsAhead is.ended
  closed_ahead = subst IsAhead (sym is.is_ended) (run_ahead p closing (replicate is.last (quiet 0)) closing_ahead)

  pub ended_ahead : IsAhead core
  ended_ahead = subst IsAhead (sym is.is_end) (run_ahead p is.ended is.final closed_ahead)

  -- seat 0 is at rest at the end
  pub ended_idle : IsAtRest core 0
  ended_idle = subst (λ c. IsAtRest c 0) (sym is.is_end) (run_rests p is.ended is.final 0 is.is_over)

  -- ## What is recorded

  pub recorded_opened : Recorded p (IsListed script) (opened script) vs
  recorded_opened = beginning_recorded p (all_tasks script) are (id_plan_of script) (replicate (32 - length (programs (sizes_of (plan_of script) (id_plan_of script)) (all_tasks script))) Rest ++ readers_from (calls script) 0 (opens script))
      (others_still (32 - length (programs (sizes_of (plan_of script) (id_plan_of script)) (all_tasks script))) (calls script) (opens script) 0) (IsListed script) (own_listed script are) vs begins.blank

  pub recorded_set_up : Recorded p (IsListed script) (set_up script is.setup) (views_along p (opened script) vs (replicate is.setup (quiet 0)))
  recorded_set_up = run_recorded p go (IsListed script) (opened script) vs (replicate is.setup (quiet 0)) begins.sound set_up_answered fitting.of_setup recorded_opened

  recorded : Recorded p (IsListed script) rested (views_played script turns core is vs)
  recorded = run_recorded p go (IsListed script) (set_up script is.setup) (views_along p (opened script) vs (replicate is.setup (quiet 0))) moments set_up_sound is.answered fitting.of_played recorded_set_up

  pub recorded_closing : Recorded p (IsListed script) closing (views_played script turns core is vs)
  recorded_closing = recorded_ending p (opens script) (IsListed script) rested (views_played script turns core is vs) recorded (λ seat at. seat_rests rested rested_ahead 0 rested_idle seat at)

  pub recorded_closed : Recorded p (IsListed script) is.ended (views_closed script turns core is vs)
  recorded_closed = subst (λ c. Recorded p (IsListed script) c (views_closed script turns core is vs)) (sym is.is_ended) (recorded_on p (IsListed script) closed (views_closed script turns core is vs)
      (run_recorded p go (IsListed script) closing (views_played script turns core is vs) (replicate is.last (quiet 0)) closing_sound end_answered fitting.of_closing recorded_closing))

  -- each life that was made stands in the word of an `open`
  pub recorded_end : Recorded p (IsListed script) core (views_ended script turns core is vs)
  recorded_end = subst (λ c. Recorded p (IsListed script) c (views_ended script turns core is vs)) (sym is.is_end)
      (run_recorded p go (IsListed script) is.ended (views_closed script turns core is vs) is.final closed_sound is.answered_again fitting.of_final recorded_closed)

  -- ## Where each call is ended

  module _ (owed : IsOwed script turns core is) where
    -- nothing is left to do
    pub end_rests : AllRest core
    end_rests = settled_rests core ended_ahead owed.after

    -- every life was failed
    pub end_failed : AllFailed p core (views_ended script turns core is vs)
    end_failed = rested_failed p (IsListed script) core (views_ended script turns core is vs) ended_sound recorded_end end_rests (λ j o x. owed.past o x.1.0 x.1.1)

    pub end_over : (i : ℕ) → i < p.slots → IsOver core.words i
    end_over = is_over p core (views_ended script turns core is vs) ended_sound end_rests end_failed

    -- each link is at home
    pub all_homes : (k : ℕ) → k < p.links → AtHome p core.homes k
    all_homes = links_home p core (views_ended script turns core is vs) ended_sound end_rests
