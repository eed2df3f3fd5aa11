-- In a whole run with calls both tables are sound at each moment, and each tick finds what each table relies on.
use Rattle.std.proofs.Common.{ℕ, zero, suc, ◌+◌, ◌*◌, ◌<◌, List, [], ◌∷◌, ◌++◌, length, replicate, sym, subst, arith}
use Rattle.std.specs.List.{AllByRecursion}
use Rattle.sock_words.specs.declared.plain.Plan.{Plan}
use Rattle.sock_model.specs.declared.view.View.{View}
use Rattle.seat_programs.specs.corr_core.specs.declared.marks.Plan.{Plan as IdPlan}
use Rattle.seat_programs.specs.brpc_model.specs.Items.{Item}
use Rattle.seat_programs.specs.brpc_model.specs.Operations.{Turn}
use Rattle.seat_programs.specs.Tasks.{opens, calls, plan_of, id_plan_of}
use Rattle.seat_programs.specs.Cores.{Core}
use Rattle.seat_programs.specs.Ticks.{Moment, AreAnswered, IsAlwaysReady, quiet, run}
use Rattle.seat_programs.specs.ScheduledRuns.{IsAtRest}
use Rattle.seat_programs.specs.ScriptSetupToEnding.{sizes_of, programs, readers_from, all_programs, all_tasks, opened, set_up, played, IsRunWithCalls}
use Rattle.programs_allowed.specs.program_steps.specs.SoundSeats.{IsAhead, views_along}
use Rattle.programs_allowed.specs.sock_runs.proofs.SoundAlongRuns.{run_ahead, beginning_ahead}
use Rattle.programs_allowed.specs.sock_runs.proofs.Unasked.{quiet_answered}
use Rattle.programs_allowed.specs.sock_runs.proofs.Quiets.{run_rests}
use Rattle.programs_allowed.specs.program_walks.proofs.WholeScriptSound.{closing_of, views_played, views_closed, views_ended, AreFittingIn, Begins}
use Rattle.programs_allowed.specs.SeatOpenings.{opening_views, all_seats}
use Rattle.programs_allowed.proofs.FreshSeatsAtStart.{opening_blank}
use Rattle.programs_allowed.proofs.AllowedRunOpening.{ending_sound}
use Rattle.programs_allowed.specs.program_steps.specs.TicksLeftAtMost.{MOST_TICKS, MOST_PAID}
use Rattle.programs_allowed.specs.runs_end.proofs.Bounded.{IsBounded}
use Rattle.programs_allowed.proofs.LastingTicksOfRuns.{ending_bounded, told_bounded}
use Rattle.joint_runs.proofs.BothTablesSound.{BothSound, AreBoth, AreBounded, joint_along, behind_both, bounded_along, behind_bounded, are_fitting}
use Rattle.joint_runs.proofs.StartsWithBothRules.{AreFor, narrow, opens_both, opens_bounded, ending_both, told_both}

-- the tables of a script are made for it
abbrev pub AreMade : List Item → Type 0
AreMade script = AreFor (plan_of script) (id_plan_of script) (all_tasks script) (calls script) (opens script)

-- the views as a run of the script begins
abbrev pub first_views : List Item → List View
first_views script = opening_views (plan_of script) (all_seats (all_tasks script) (length (opens script)))

pub begins : (script : List Item) → AreMade script → Begins script (first_views script)
begins script made = record {
  sound = (opens_both (plan_of script) (id_plan_of script) (all_tasks script) (calls script) (opens script) made).sockets;
  blank = opening_blank (plan_of script) (all_seats (all_tasks script) (length (opens script)));
  ends = λ c ws sound ahead idle. ending_sound (plan_of script) c ws (opens script) made.opens_in ahead idle sound;
}

-- what is said of all of a list is said of its parts
halves : {A : Type 0} (P : A → Type 0) (xs ys : List A) → AllByRecursion P (xs ++ ys) → AllByRecursion P xs × AllByRecursion P ys
halves P [] ys all = (tt, all)
halves P (x ∷ xs) ys all = let rest = halves P xs ys all.1 in ((all.0, rest.0), rest.1)

module _ (script : List Item) (turns : List Turn) (end_ : Core) (r : IsRunWithCalls script turns end_) where
  abbrev p : Plan
  p = plan_of script

  abbrev q : IdPlan
  q = id_plan_of script

  -- the setup, what is done up to the ending, and the ending
  abbrev setting : List Moment
  setting = replicate r.setup (quiet 0)

  abbrev playing : List Moment
  playing = r.scheduled ++ r.later

  abbrev ending_ : List Moment
  ending_ = replicate r.last (quiet 0)

  -- the core and the views at the ending, and the views behind the setup and behind the ending
  abbrev closing_core : Core
  closing_core = closing_of script turns end_ r

  abbrev views_set_up : List View
  views_set_up = views_along p (opened script) (first_views script) setting

  abbrev views_closing : List View
  views_closing = views_played script turns end_ r (first_views script)

  abbrev views_last : List View
  views_last = views_closed script turns end_ r (first_views script)

  -- what is so along the setup and the clients and readers up to the ending, along the ending and what follows it, and at the end
  pub record AlongRun (Early Late : Core → List View → List Moment → Type 0) (Ended : Core → List View → Type 0) : Type 0 where
    pub setup : Early (opened script) (first_views script) setting
    pub clients : Early (set_up script r.setup) views_set_up playing
    pub closing : Late closing_core views_closing ending_
    pub final : Late r.ended views_last r.final
    pub over : Ended end_ (views_ended script turns end_ r (first_views script))

  abbrev pub IsSoundRun : Type 0
  IsSoundRun = AlongRun (AreBoth p q) (AreBoth p q) (BothSound p q)

  -- so many ticks are left, with so many more where seat 0 makes the ending
  abbrev most : ℕ
  most = MOST_TICKS + 20 * length (opens script)

  abbrev pub IsBoundedRun : Type 0
  IsBoundedRun = AlongRun (AreBounded p MOST_TICKS) (AreBounded p most) (IsBounded p most)

  pub are_fitting_in : IsSoundRun → AreFittingIn script turns end_ r
  are_fitting_in s = record {
    of_setup = are_fitting p q (opened script) (first_views script) setting s.setup;
    of_played = are_fitting p q (set_up script r.setup) views_set_up playing s.clients;
    of_closing = are_fitting p q closing_core views_closing ending_ s.closing;
    of_final = are_fitting p q r.ended views_last r.final s.final;
  }

  -- from stretch to stretch, by what is so behind each
  module _ (Early Late : Core → List View → List Moment → Type 0) (At Ended : Core → List View → Type 0) (behind : (c : Core) (vs : List View) (moments : List Moment) → Early c vs moments → At (run p c moments) (views_along p c vs moments))
      (behind_late : (c : Core) (vs : List View) (moments : List Moment) → Late c vs moments → Ended (run p c moments) (views_along p c vs moments)) where
    along_run : Early (opened script) (first_views script) setting → (At (set_up script r.setup) views_set_up → Early (set_up script r.setup) views_set_up playing) → (At (played script r.setup playing) views_closing → Late closing_core views_closing ending_)
        → (Ended (run p closing_core ending_) views_last → Late r.ended views_last r.final) → AlongRun Early Late Ended
    along_run setup plays closes ends =
        let clients = plays (behind (opened script) (first_views script) setting setup) in
        let closing = closes (behind (set_up script r.setup) views_set_up playing clients) in
        let final = ends (behind_late closing_core views_closing ending_ closing) in record {
          setup = setup;
          clients = clients;
          closing = closing;
          final = final;
          over = subst (λ c. Ended c (views_ended script turns end_ r (first_views script))) (sym r.is_end) (behind_late r.ended views_last r.final final);
        }

  setting_answered : AreAnswered p (opened script) setting
  setting_answered = quiet_answered p (opened script) 0 r.setup r.is_set_up

  ending_answered : AreAnswered p closing_core ending_
  ending_answered = quiet_answered p closing_core 0 r.last (subst (λ c. IsAtRest c 0) r.is_ended r.is_over)

  module _ (made : AreMade script) where
    along : (c : Core) (vs : List View) (moments : List Moment) → BothSound p q c vs → AreAnswered p c moments → AreBoth p q c vs moments
    along = joint_along p q (narrow p q (all_tasks script) (calls script) (opens script) made) made.operations

    -- no seat has an outcome to say before its next step
    ahead : IsAhead (played script r.setup playing)
    ahead = run_ahead p (set_up script r.setup) playing (run_ahead p (opened script) setting
        (beginning_ahead p q (all_programs (programs (sizes_of p q) (all_tasks script)) (readers_from (calls script) 0 (opens script)))))

    -- seat 0 is at rest behind the setup, and stays so
    idle : IsAtRest (played script r.setup playing) 0
    idle = run_rests p (set_up script r.setup) playing 0 r.is_set_up

    pub joint_runs : IsSoundRun
    joint_runs = along_run (AreBoth p q) (AreBoth p q) (BothSound p q) (BothSound p q) (behind_both p q) (behind_both p q)
        (along (opened script) (first_views script) setting (opens_both p q (all_tasks script) (calls script) (opens script) made) setting_answered)
        (λ both. along (set_up script r.setup) views_set_up playing both r.answered)
        (λ both. along closing_core views_closing ending_ (ending_both p q (all_tasks script) (calls script) (opens script) made (played script r.setup playing) views_closing ahead idle both) ending_answered)
        (λ both. along r.ended views_last r.final (subst (λ c. BothSound p q c views_last) (sym r.is_ended) (told_both p q (run p closing_core ending_) views_last both)) r.answered_again)

  -- ## How many ticks are left

  module _ (made : AreMade script) (s : IsSoundRun) where
    -- the ticks of the setup and of the ending ask no link
    quiet_prompt : (n : ℕ) → AllByRecursion IsAlwaysReady (replicate n (quiet 0))
    quiet_prompt zero = tt
    quiet_prompt (suc n) = ((λ e. absurd (cc)), quiet_prompt n)

    prompt_parts : AllByRecursion IsAlwaysReady playing × AllByRecursion IsAlwaysReady r.final
    prompt_parts = halves IsAlwaysReady playing r.final r.always_ready

    small : most < MOST_PAID
    small = let few = made.few_opens in omega (arith, few)

    -- no run has more ticks that move, and each seat has few messages accepted all along
    pub joint_bounded : IsBoundedRun
    joint_bounded = along_run (AreBounded p MOST_TICKS) (AreBounded p most) (IsBounded p MOST_TICKS) (IsBounded p most) (behind_bounded p q MOST_TICKS) (behind_bounded p q most)
        (bounded_along p q MOST_TICKS (omega arith) (opened script) (first_views script) setting s.setup setting_answered (quiet_prompt r.setup) (opens_bounded p q (all_tasks script) (calls script) (opens script) made))
        (bounded_along p q MOST_TICKS (omega arith) (set_up script r.setup) views_set_up playing s.clients r.answered prompt_parts.0)
        (λ b. bounded_along p q most small closing_core views_closing ending_ s.closing ending_answered (quiet_prompt r.last) (ending_bounded p MOST_TICKS (played script r.setup playing) views_closing (opens script) b))
        (λ b. bounded_along p q most small r.ended views_last r.final s.final r.answered_again prompt_parts.1 (subst (λ c. IsBounded p most c views_last) (sym r.is_ended) (told_bounded p most (run p closing_core ending_) views_last b)))
