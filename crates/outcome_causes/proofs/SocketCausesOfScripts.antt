-- The run of a script with calls tells why each of its tasks but those on calls has its outcome, and what its links accepted.
use Rattle.std.proofs.Common.{true, false, ◌≡◌, ℕ, zero, suc, ◌+◌, ◌<◌, arith, ◌⊎◌, inl, inr, ◌++◌, List, [], ◌∷◌, length, replicate, ⊎_elim, refl, sym, ap, ◌∙◌, subst}
use Rattle.std.specs.Prelude.{Contains, ◌&&◌, Bool, Option, Some, None, option_map, slice_get}
use Rattle.std.specs.List.{AllByRecursion, filter_map, cons_option}
use mathlib.Core.Option.{some}
use lib.ListN.{get_elem?}
use Rattle.sock_words.specs.declared.plain.Plan.{Plan}
use Rattle.sock_model.specs.declared.view.View.{View}
use Rattle.brpc_model.specs.Items.{Item, Open, Send, Call, Expire, Join, Hold, Drop, Fail}
use Rattle.brpc_model.specs.Operations.{Turn}
use Rattle.seat_programs.specs.declared.task.Op.{Op}
use Rattle.seat_programs.specs.declared.task.Task.{Task}
use Rattle.seat_programs.specs.Cores.{Core}
use Rattle.seat_programs.specs.Ticks.{quiet, run}
use Rattle.seat_programs.specs.Tasks.{Numbered, numbered, of_client, op_of, task_of, opens, calls, plan_of, id_plan_of}
use Rattle.seat_programs.specs.ScriptSetupToEnding.{tasks_from, all_tasks, opened, set_up, played, IsRunWithCalls}
use Rattle.seat_programs.specs.SlotFreedByDrop.{MadeIn}
use Rattle.seat_programs.specs.Explained.{AreTasks, TaskFits}
use Rattle.brpc_model.specs.LinePlaceFaults.{names}
use Rattle.brpc_model.specs.Operations.{clients}
use Rattle.outcome_ticks.specs.program_steps.specs.SoundSeats.{Sound, views_along}
use Rattle.outcome_ticks.specs.sock_runs.proofs.LinkTicks.{RetriesGo}
use Rattle.outcome_ticks.specs.sock_runs.proofs.SoundAlongRuns.{seat_rests}
use Rattle.outcome_ticks.specs.program_walks.proofs.WholeScriptSound.{Begins, AreFittingIn, IsOwed, closing_of, rested_of, views_played, views_closed, views_ended, set_up_answered, end_answered, rested_ahead, rested_idle, closing_sound, closed_sound, ended_sound, end_rests}
use Rattle.sock_model.specs.LinksInSlots.{Failed}
use Rattle.outcome_ticks.specs.program_steps.specs.SoundSeats.{state}
use Rattle.outcome_ticks.specs.outcome_stories.specs.OperationStories.{Event, In}
use Rattle.outcome_ticks.specs.outcome_stories.specs.LinkLosses.{lost_in}
use Rattle.outcome_ticks.specs.outcome_stories.specs.PlainTasks.{told_tasks_of, OwnsCall}
use Rattle.outcome_ticks.specs.outcome_stories.specs.TaskCauses.{ToldTasks, DropsMade}
use Rattle.outcome_ticks.specs.outcome_stories.specs.KeptStory.{Story}
use Rattle.outcome_causes.proofs.Begin.{start_story}
use Rattle.outcome_causes.proofs.Final.{at_there}
use Rattle.outcome_causes.proofs.ExplainedOpenings.{are_seats, all_explained}
use Rattle.outcome_causes.proofs.RunsKeepStory.{IsStoried, Goes, setup_runs, seats_run, set_up_over, ending_story, is_ending_story}
use Rattle.sock_words.specs.declared.outcome.Outcome.{Outcome}
use Rattle.seat_programs.specs.Cores.{resolved, waiting_at}
use Rattle.seat_programs.specs.ClientProgram.{ending_of}
use Rattle.outcome_ticks.specs.outcome_stories.specs.Facts.{before_ending, is_told, is_said_late}
use Rattle.outcome_ticks.proofs.BrokenLinksAdded.{good_more}
use Rattle.outcome_ticks.proofs.EventsOfGoodStory.{event}
use Rattle.outcome_ticks.specs.outcome_stories.proofs.Members.{all_in, in_left, in_right, get_there}
use Rattle.outcome_ticks.proofs.TableTasksDistinct.{fits_of}
use Rattle.outcome_ticks.specs.outcome_stories.proofs.OutcomesStaySaid.{IsSaidOf, said_keeps, run_said, made_unsaid}
use Rattle.seat_programs.specs.ExplainedCalls.{Order}
use Rattle.outcome_ticks.specs.outcome_stories.proofs.Delivered.{orders_of}
use Rattle.outcome_causes.proofs.WhyOfEachOutcome.{Timely}
use Rattle.outcome_causes.proofs.CausesToldByStory.{Tells, told_so, told_tasks, drops_told}

-- ## Calls know their numbers

own_call : (all : List Numbered) (ns : List (List ℕ)) (n : Numbered) (item : Item) (more : List Task) → AllByRecursion (λ (t : Task). OwnsCall t.number t.op) more
    → AllByRecursion (λ (t : Task). OwnsCall t.number t.op) (cons_option (option_map (λ (op : Op). record { number = n.number; op = op }) (op_of all ns n item)) more)
own_call all ns n (Open name shape) more h = (tt, h)
own_call all ns n (Send name bytes) more h = (tt, h)
own_call all ns n (Call call) more h = (refl, h)
own_call all ns n (Expire c i) more h = (tt, h)
own_call all ns n (Join c i) more h = (tt, h)
own_call all ns n (Hold name) more h = (tt, h)
own_call all ns n (Drop name) more h = (tt, h)
own_call all ns n (Fail name code) more h = (tt, h)
own_call all ns n _ more h = h

own_all : (all : List Numbered) (ns : List (List ℕ)) (l : List Numbered) → AllByRecursion (λ (t : Task). OwnsCall t.number t.op) (filter_map (task_of all ns) l)
own_all all ns [] = tt
own_all all ns (n ∷ l) = own_call all ns n n.op.item (filter_map (task_of all ns) l) (own_all all ns l)

pub own_from : (script : List Item) (client n : ℕ) → AllByRecursion (AllByRecursion (λ (t : Task). OwnsCall t.number t.op)) (tasks_from script client n)
own_from script client zero = tt
own_from script client (suc n) = (own_all (numbered script) (names script) (of_client client (numbered script)), own_from script (client + 1) n)

-- ## Its stories

module _ (script : List Item) (are : AreTasks (plan_of script) (all_tasks script)) (vs : List View) (begins : Begins script vs) where
  seats_told : AreTasks (plan_of script) (told_tasks_of script)
  seats_told = are_seats (plan_of script) (all_tasks script) are (length (opens script))

  -- at first nothing has happened
  pub story_opened : ((i : ℕ) (v : View) → get_elem? vs i ≡ some v → v.lists ≡ [] ∷ []) → Story (plan_of script) (told_tasks_of script) false (opened script) vs [] []
  story_opened fresh = start_story (plan_of script) (id_plan_of script) (told_tasks_of script) seats_told _ (all_explained (plan_of script) (all_tasks script) are (length (opens script)) (id_plan_of script) (own_from script 0 (clients script + 1)) (calls script) (opens script) refl) vs fresh begins.sound

  module _ (go : RetriesGo (plan_of script)) (turns : List Turn) (core : Core) (is : IsRunWithCalls script turns core) (fitting : AreFittingIn script turns core is) (es : List Event) (lost : List ℕ) where
    -- seat 0 begins the ending
    pub story_closing : Sound (plan_of script) (rested_of script turns core is) (views_played script turns core is vs) → Story (plan_of script) (told_tasks_of script) true (rested_of script turns core is) (views_played script turns core is vs) es lost
        → Story (plan_of script) (told_tasks_of script) true (closing_of script turns core is) (views_played script turns core is vs) es lost
    story_closing sound story = let c : Core = rested_of script turns core is in
        let seat = at_there c.seats 0 (omega (arith, story.each, seats_told.some_)) in let v = at_there (views_played script turns core is vs) 0 (omega (arith, sound.each, story.each, seats_told.some_)) in
        ending_story (plan_of script) (told_tasks_of script) seats_told c (views_played script turns core is vs) es lost (opens script) sound story seat.0 v.0 seat.1
        (seat_rests c (rested_ahead script are vs begins go turns core is fitting) 0 (rested_idle script are vs begins go turns core is fitting) seat.0 seat.1) v.1

    -- and has made it
    pub story_ended : Story (plan_of script) (told_tasks_of script) true (run (plan_of script) (closing_of script turns core is) (replicate is.last (quiet 0))) (views_closed script turns core is vs) es lost
        → Story (plan_of script) (told_tasks_of script) true is.ended (views_closed script turns core is vs) es lost
    story_ended story = subst (λ c. Story (plan_of script) (told_tasks_of script) true c (views_closed script turns core is vs) es lost) (sym is.is_ended)
        (is_ending_story (plan_of script) (told_tasks_of script) seats_told (run (plan_of script) (closing_of script turns core is) (replicate is.last (quiet 0))) (views_closed script turns core is vs) es lost story)

-- ## The run

-- the links that were lost in a run: they answered that they failed, or readers or the ending closed their sockets
abbrev pub lost_of_run : (script : List Item) (turns : List Turn) (core : Core) → IsRunWithCalls script turns core → List ℕ
lost_of_run script turns core is = let p = plan_of script in lost_in p (opened script) (replicate is.setup (quiet 0))
    ++ (lost_in p (set_up script is.setup) (is.scheduled ++ is.later) ++ (lost_in p (closing_of script turns core is) (replicate is.last (quiet 0)) ++ lost_in p is.ended is.final))

-- a step that a client made behind the setup
abbrev pub MadeInRun : (script : List Item) (turns : List Turn) (core : Core) → IsRunWithCalls script turns core → ℕ → ℕ → Rattle.seat_programs.specs.TableSteps.TableStep → ℕ → Type 0
MadeInRun script turns core is i o call found = let p = plan_of script in let cs = told_tasks_of script in MadeIn p cs (set_up script is.setup) (is.scheduled ++ is.later) i o call found
    ⊎ (MadeIn p cs (closing_of script turns core is) (replicate is.last (quiet 0)) i o call found ⊎ MadeIn p cs is.ended is.final i o call found)

-- the views of a beginning, of which each keeps one list of accepted messages, so far empty
module _ (script : List Item) (are : AreTasks (plan_of script) (all_tasks script)) (vs : List View) (begins : Begins script vs) (fresh : (i : ℕ) (v : View) → get_elem? vs i ≡ some v → v.lists ≡ [] ∷ []) (go : RetriesGo (plan_of script))
    (turns : List Turn) (core : Core) (is : IsRunWithCalls script turns core) (fitting : AreFittingIn script turns core is) where
  abbrev p : Plan
  p = plan_of script

  abbrev cs : List (List Task)
  cs = told_tasks_of script

  pub seats : AreTasks (plan_of script) (told_tasks_of script)
  seats = are_seats (plan_of script) (all_tasks script) are (length (opens script))

  pub first : IsStoried (plan_of script) (told_tasks_of script) seats false (opened script) vs
  first = record { events = []; lost = []; sound = begins.sound; story = story_opened script are vs begins fresh }

  abbrev pub views_set : List View
  views_set = views_along (plan_of script) (opened script) vs (replicate is.setup (quiet 0))

  pub set_up_told : (g : Goes (plan_of script) (told_tasks_of script) seats false (replicate is.setup (quiet 0)) (opened script) vs first) × ((e : Event) → In e g.after.events → e.client ≡ 0)
  unfolding first
  set_up_told = setup_runs (plan_of script) (told_tasks_of script) seats go is.setup (opened script) vs (set_up_answered script are vs begins go turns core is fitting) fitting.of_setup first (λ e m. absurd m)

  pub over : (s : IsStoried (plan_of script) (told_tasks_of script) seats true (set_up script is.setup) views_set) × (s.events ≡ set_up_told.0.after.events) × (s.lost ≡ set_up_told.0.after.lost)
  over = set_up_over (plan_of script) (told_tasks_of script) seats (set_up script is.setup) views_set set_up_told.0.after is.is_set_up

  pub played_told : Goes (plan_of script) (told_tasks_of script) seats true (is.scheduled ++ is.later) (set_up script is.setup) views_set over.0
  played_told = seats_run (plan_of script) (told_tasks_of script) seats go (is.scheduled ++ is.later) (set_up script is.setup) views_set is.answered fitting.of_played over.0

  -- seat 0 begins the ending
  pub closing_told : IsStoried (plan_of script) (told_tasks_of script) seats true (closing_of script turns core is) (views_played script turns core is vs)
  closing_told = let t = played_told.after in record {
    events = t.events;
    lost = t.lost;
    sound = closing_sound script are vs begins go turns core is fitting;
    story = story_closing script are vs begins go turns core is fitting t.events t.lost t.sound t.story;
  }

  closed_told : Goes (plan_of script) (told_tasks_of script) seats true (replicate is.last (quiet 0)) (closing_of script turns core is) (views_played script turns core is vs) closing_told
  closed_told = seats_run (plan_of script) (told_tasks_of script) seats go (replicate is.last (quiet 0)) (closing_of script turns core is) (views_played script turns core is vs) (end_answered script are vs begins go turns core is fitting) fitting.of_closing closing_told

  -- and has made it
  pub ended_told : IsStoried (plan_of script) (told_tasks_of script) seats true is.ended (views_closed script turns core is vs)
  ended_told = let t = closed_told.after in record {
    events = t.events;
    lost = t.lost;
    sound = closed_sound script are vs begins go turns core is fitting;
    story = story_ended script are vs begins go turns core is fitting t.events t.lost t.story;
  }

  pub final_told : Goes (plan_of script) (told_tasks_of script) seats true is.final is.ended (views_closed script turns core is vs) ended_told
  final_told = seats_run (plan_of script) (told_tasks_of script) seats go is.final is.ended (views_closed script turns core is vs) is.answered_again fitting.of_final ended_told

  abbrev pub lost_one : List ℕ
  lost_one = lost_in (plan_of script) (opened script) (replicate is.setup (quiet 0))

  abbrev pub lost_two : List ℕ
  lost_two = lost_in (plan_of script) (set_up script is.setup) (is.scheduled ++ is.later)

  abbrev lost_three : List ℕ
  lost_three = lost_in (plan_of script) (closing_of script turns core is) (replicate is.last (quiet 0))

  abbrev lost_four : List ℕ
  lost_four = lost_in (plan_of script) is.ended is.final

  -- each link that was lost was so in a tick of the run
  pub lost_where : (k : ℕ) → In k final_told.after.lost → In k (lost_of_run script turns core is)
  unfolding first closing_told ended_told
  lost_where k m = ⊎_elim
      (λ d. ⊎_elim
      (λ b. ⊎_elim
      (λ a. ⊎_elim (λ z. absurd z) (λ z. in_left lost_one (lost_two ++ (lost_three ++ lost_four)) k z) (set_up_told.0.losses k (subst (In k) over.2 a)))
      (λ a. in_right lost_one (lost_two ++ (lost_three ++ lost_four)) k (in_left lost_two (lost_three ++ lost_four) k a)) (played_told.losses k b))
      (λ b. in_right lost_one (lost_two ++ (lost_three ++ lost_four)) k (in_right lost_two (lost_three ++ lost_four) k (in_left lost_three lost_four k b))) (closed_told.losses k d))
      (λ d. in_right lost_one (lost_two ++ (lost_three ++ lost_four)) k (in_right lost_two (lost_three ++ lost_four) k (in_right lost_three lost_four k d))) (final_told.losses k m)

  -- and each step of the story was made by the setup, or in a tick behind it
  made_where : (e : Event) → In e final_told.after.events → (e.client ≡ 0) ⊎ MadeInRun script turns core is e.client e.number e.entry.call e.entry.found
  unfolding closing_told ended_told
  made_where e m = ⊎_elim
      (λ d. ⊎_elim
      (λ b. ⊎_elim (λ a. inl (set_up_told.1 e (subst (In e) over.1 a))) (λ a. inr (inl a)) (played_told.made e b))
      (λ b. inr (inr (inl b))) (closed_told.made e d))
      (λ d. inr (inr (inr d))) (final_told.made e m)

  -- ## What was done before the ending

  abbrev pub lost_before : List ℕ
  lost_before = lost_one ++ lost_two

  pub before_within : (k : ℕ) → In k played_told.after.lost → In k lost_before
  unfolding first
  before_within k m = ⊎_elim (λ a. ⊎_elim (λ z. absurd z) (λ z. in_left lost_one lost_two k z) (set_up_told.0.losses k (subst (In k) over.2 a))) (λ a. in_right lost_one lost_two k a) (played_told.losses k m)

  abbrev pub late : ℕ → Type 0
  late o = is_said_late script turns core is o ≡ true

  closing_said : (o : ℕ) → IsSaidOf (before_ending script turns core is).outcomes o → IsSaidOf (closing_of script turns core is).outcomes o
  closing_said o t = let c : Core = before_ending script turns core is in said_keeps (resolved (waiting_at c.calls.waiting 0) (ending_of (opens script))) c.outcomes o t

  ended_said : (o : ℕ) → IsSaidOf (before_ending script turns core is).outcomes o → IsSaidOf is.ended.outcomes o
  ended_said o t = subst (λ (d : Core). IsSaidOf d.outcomes o) (sym is.is_ended) (run_said (plan_of script) (closing_of script turns core is) (replicate is.last (quiet 0)) o (closing_said o t))

  -- an operation that is told in the end, and wasn't before the ending, is a late one
  said_late : (o : ℕ) → o < (plan_of script).operations → IsSaidOf core.outcomes o → (IsSaidOf (before_ending script turns core is).outcomes o → ⊥) → late o
  said_late o low said_ unsaid = let c : Core = before_ending script turns core is in let x = get_there c.outcomes o (omega (arith, low, played_told.after.story.sized)) in by x.0 x.1
    where
      by : (x : Option Outcome) → slice_get (before_ending script turns core is).outcomes o ≡ Some x → late o
      by (Some y) e = absurd (unsaid (y, e))
      by None e = ap (λ z. (elim z as (λ x. Bool) [ None ↦ false | Some x ↦ elim x as (λ y. Bool) [ None ↦ true | Some outcome ↦ false ] ]) && is_told script turns core is core o) e
          ∙ ap (λ z. elim z as (λ x. Bool) [ None ↦ false | Some x ↦ elim x as (λ y. Bool) [ None ↦ false | Some outcome ↦ true ] ]) said_.1

  pub timely : Timely (plan_of script) (told_tasks_of script) core.outcomes final_told.after.events lost_before late
  unfolding closing_told ended_told
  timely = record {
    story = played_told.after.events;
    good = good_more (plan_of script) (told_tasks_of script) played_told.after.lost lost_before before_within played_told.after.events played_told.after.story.good;
    part = λ e m. final_told.kept e (closed_told.kept e m);
    either = λ c t a o said_ call found m. let low = (all_in (TaskFits (plan_of script)) a.0 t (fits_of (plan_of script) (told_tasks_of script) seats c a.0 a.1) a.2).0 in ⊎_elim
        (λ d. ⊎_elim (λ b. inl b)
        (λ b. inr (said_late t.number low (o, said_) (λ s. made_unsaid (plan_of script) (told_tasks_of script) (closing_of script turns core is) (replicate is.last (quiet 0)) c t.number call found b (closing_said t.number s))))
        (closed_told.made (event c t.number call found) d))
        (λ d. inr (said_late t.number low (o, said_) (λ s. made_unsaid (plan_of script) (told_tasks_of script) is.ended is.final c t.number call found d (ended_said t.number s))))
        (final_told.made (event c t.number call found) m);
  }

  module _ (owed : IsOwed script turns core is) where
    pub story_end : Story (plan_of script) (told_tasks_of script) true core (views_ended script turns core is vs) final_told.after.events final_told.after.lost
    story_end = subst (λ c. Story (plan_of script) (told_tasks_of script) true c (views_ended script turns core is vs) final_told.after.events final_told.after.lost) (sym is.is_end) final_told.after.story

    -- what the links accepted, and how many messages each took whole
    abbrev pub orders : ℕ → Order
    orders = orders_of (plan_of script) core (views_ended script turns core is vs) (ended_sound script are vs begins go turns core is fitting).lawful

    -- whatever the schedule, each task of the script but those on calls has its outcome, or its message was accepted, and each outcome its cause
    pub run_told : ToldTasks (told_tasks_of script) core.outcomes (plan_of script) orders (lost_of_run script turns core is) lost_before late
    run_told = told_tasks (plan_of script) (told_tasks_of script) seats true core (views_ended script turns core is vs) final_told.after.events final_told.after.lost (lost_of_run script turns core is) lost_where
        (ended_sound script are vs begins go turns core is fitting) story_end (end_rests script are vs begins go turns core is fitting owed) lost_before late timely

    -- and each drop was answered `freed` or `kept` by what its own steps did
    pub run_drops : DropsMade (told_tasks_of script) core.outcomes (MadeInRun script turns core is)
    run_drops = drops_told (plan_of script) (told_tasks_of script) seats true core (views_ended script turns core is vs) final_told.after.events final_told.after.lost (lost_of_run script turns core is) lost_where
        (ended_sound script are vs begins go turns core is fitting) story_end (end_rests script are vs begins go turns core is fitting owed) lost_before late timely (MadeInRun script turns core is) made_where

    -- and each link that failed before the ending did so by a cause that counts
    pub run_tells : Tells (plan_of script) (told_tasks_of script) seats true core (views_ended script turns core is vs) final_told.after.events final_told.after.lost (lost_of_run script turns core is) lost_where
        (ended_sound script are vs begins go turns core is fitting) story_end (end_rests script are vs begins go turns core is fitting owed) lost_before late timely
    run_tells = told_so (plan_of script) (told_tasks_of script) seats true core (views_ended script turns core is vs) final_told.after.events final_told.after.lost (lost_of_run script turns core is) lost_where
        (ended_sound script are vs begins go turns core is fitting) story_end (end_rests script are vs begins go turns core is fitting owed) lost_before late timely

    -- a link whose life was failed before the ending was so by an operation that counts, or was lost by then
    pub failed_early : (k : ℕ) → Failed (plan_of script) (state (played script is.setup (is.scheduled ++ is.later)) (views_played script turns core is vs)) k → Contains lost_before k ⊎ ((fail : ℕ) × Contains run_tells.tells.fails (fail, k))
    unfolding timely
    failed_early k f = let t = played_told.after in let tie = t.story.links f.slot f.life.inside f.version k in
        run_tells.early f.slot f.version k (omega (arith, tie, f.life.given))
        (⊎_elim (λ was. inl was) (λ lost. inr (lost.0, before_within lost.0 lost.1, lost.2)) (t.story.lost f.slot f.life.inside f.version f.failed))
