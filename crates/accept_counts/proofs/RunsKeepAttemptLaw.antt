-- A whole run keeps the law of attempts.
use Rattle.std.proofs.Common.{◌≡◌, ℕ, zero, suc, ◌+◌, ◌≤◌, List, [], ◌∷◌, ◌++◌, length, map, replicate, refl, sym, ap, ◌∙◌, subst, arith}
use Rattle.std.specs.List.{AllByRecursion}
use Rattle.std.proofs.lemmas.List.{length-map}
use Rattle.std.proofs.Common.{length-set}
use mathlib.Core.Option.{some}
use lib.ListN.{get_elem?}
use Rattle.atomic_table.proofs.Lists.{set_again}
use Rattle.sock_words.specs.declared.plain.Plan.{Plan}
use Rattle.sock_model.specs.declared.view.View.{View}
use Rattle.seat_programs.specs.brpc_model.specs.Items.{Item}
use Rattle.seat_programs.specs.brpc_model.specs.Operations.{Turn, clients}
use Rattle.corr_core.specs.declared.marks.Plan.{Plan as IdPlan}
use Rattle.call_causes.specs.Below.id_runs.specs.HeldIdTokens.{IdView}
use Rattle.call_causes.specs.Below.id_runs.specs.Goes.{SoundIds}
use Rattle.sock_message.specs.Asked.{Asked}
use Rattle.seat_programs.specs.declared.task.Op.{Op}
use Rattle.seat_programs.specs.declared.task.Op.TheVariants as ops
use Rattle.call_causes.specs.Below.outcome_stories.specs.OperationStories.{In}
use Rattle.call_causes.specs.Below.outcome_stories.proofs.Members.{all_in, all_of}
use Rattle.outcome_causes.proofs.MessagesOfTasks.{in_of_at}
use Rattle.accept_counts.proofs.ProgramsAtBeginning.{all_begin}
use Rattle.seat_programs.specs.declared.task.Sizes.{Sizes}
use Rattle.seat_programs.specs.declared.task.Task.{Task}
use Rattle.seat_programs.specs.Programs.{Program, Say, Sent, Keep, Retries}
use Rattle.seat_programs.specs.ClientProgram.{client_from, ending_of}
use Rattle.seat_programs.specs.Cores.{Core, SeatState, resolved, next_step}
use Rattle.seat_programs.specs.Ticks.{Moment, AreAnswered, quiet, ticked, run}
use Rattle.seat_programs.specs.Tasks.{opens, calls, plan_of, id_plan_of}
use Rattle.seat_programs.specs.ScriptSetupToEnding.{sizes_of, programs, readers_from, all_programs, all_tasks, beginning, opened, set_up, is_ending, IsRunWithCalls}
use Rattle.seat_programs.specs.Explained.{AreTasks}
use Rattle.outcome_causes.specs.program_steps.specs.SoundSeats.{Sound, AreFitting, views_after, views_along}
use Rattle.outcome_causes.specs.program_steps.proofs.TickCases.{elem_there}
use Rattle.outcome_causes.specs.sock_runs.proofs.LinkTicks.{RetriesGo}
use Rattle.outcome_causes.specs.sock_runs.proofs.TicksKeepSeatsSound.{sound_ticks}
use Rattle.outcome_causes.specs.program_walks.proofs.OpenedLivesRecorded.{mapped}
use Rattle.outcome_causes.specs.program_walks.proofs.WholeScriptSound.{Begins, AreFittingIn, closing_of, rested_of, views_played, views_closed, views_ended, set_up_answered, end_answered, set_up_sound, closing_sound, closed_sound}
use Rattle.label_runs.specs.AttemptLabelsLeft.{Trial, Idle, Labels}
use Rattle.label_runs.proofs.OperationsKeepKnown.{OpCalls}
use Rattle.label_runs.proofs.ProgramsKeepAttempts.{client_goes, ending_goes, reader_goes}
use Rattle.call_causes.specs.Below.outcome_stories.specs.PlainTasks.{told_tasks_of, OwnsCall}
use Rattle.outcome_causes.proofs.Final.{at_there}
use Rattle.outcome_causes.proofs.SocketCausesOfScripts.{own_from, seats, closing_told}
use Rattle.outcome_causes.proofs.Begin.{no_call}
use Rattle.accept_counts.specs.AttemptCounts.{of_trial, of_retry, of_claim, of_entry, of_view, times_of, ClaimFits, EntryFits, TrialFits, LabelLaw, AreLabelled}
use Rattle.accept_counts.proofs.TicksKeepAttemptLaw.{moves, label_ticks}
use Rattle.sock_words.specs.Totals.{total}

-- at the beginning no seat has a retry, and no home a call
pub none_waits : (id n m : ℕ) → total (total (of_retry id n)) (replicate m []) ≡ 0
none_waits id n zero = refl
none_waits id n (suc m) = let r = none_waits id n m in omega (arith, r)

module _ (p : Plan) (q : IdPlan) (narrow : q.slots ≤ 65536) (is_call : Asked → Type 0) (ids : ℕ → ℕ) where
  abbrev pub Lawful_ : Core → List View → Type 0
  Lawful_ c vs = (ts : List Trial) × LabelLaw is_call ids p q c vs ts

  -- so do ticks one after another
  pub run_labels : RetriesGo p → (ms : List Moment) (c : Core) (vs : List View) → Sound p c vs → AreAnswered p c ms → AreFitting p c ms → AreLabelled ids p q c ms → Lawful_ c vs → Lawful_ (run p c ms) (views_along p c vs ms)
  run_labels go [] c vs sound answered fitting are law = law
  run_labels go (m ∷ ms) c vs sound answered fitting are law = run_labels go ms (ticked p c m) (views_after p c vs m) (sound_ticks p go c vs m sound answered.0 fitting.0) answered.1 fitting.1 are.3
      (let next = label_ticks p q narrow is_call ids c vs law.0 law.1 are.0.0 are.0.1 sound m answered.0 are.1 are.2 in (next.0, next.1))

  pub behind_ids : (ms : List Moment) (c : Core) → AreLabelled ids p q c ms → (us : List IdView) × SoundIds p q (run p c ms) us
  behind_ids [] c are = are
  behind_ids (m ∷ ms) c are = behind_ids ms (ticked p c m) are.3

  -- ## How a run begins

  idle_stays : (x : Program) → Labels is_call Idle x → Labels is_call Idle (next_step (resolved [] x))
  idle_stays (Say o outcome next) g = idle_stays next g
  idle_stays (Sent o next) g = idle_stays next g
  idle_stays (Keep r next) g = absurd (let e = g.0 in cc)
  idle_stays (Retries n after) g = idle_stays after g
  idle_stays _ g = g

  pub total_none : {A : Type 0} (g : A → ℕ) (l : List A) → ((i : ℕ) (a : A) → get_elem? l i ≡ some a → g a ≡ 0) → total g l ≡ 0
  total_none g [] all = refl
  total_none g (x ∷ l) all = omega (arith, all 0 x refl, total_none g l (λ i a e. all (suc i) a e))

  all_idle : (xs : List Program) (i : ℕ) (t : Trial) → get_elem? (map (λ (x : Program). Idle) xs) i ≡ some t → t ≡ Idle
  all_idle xs i t e = sym (mapped (λ (x : Program). Idle) xs i t e).2

  -- a view without claims, and with one list, so far empty
  abbrev pub IsBare : View → Type 0
  IsBare v = (v.claims ≡ []) × (v.lists ≡ [] ∷ [])

  pub bare_count : (id n : ℕ) (v : View) → IsBare v → of_view id n v ≡ 0
  bare_count id n v bare = let a : total (of_claim id n) v.claims ≡ 0 = ap (total (of_claim id n)) bare.0 in
      let b : total (total (of_entry id n)) v.lists ≡ 0 = ap (total (total (of_entry id n))) bare.1 in omega (arith, a, b)

  none_at : (xs : List Program) (vs : List View) → ((i : ℕ) (v : View) → get_elem? vs i ≡ some v → IsBare v) → (id n : ℕ) → times_of id n (beginning p q xs) vs (map (λ (x : Program). Idle) xs) ≡ 0
  none_at xs vs bare id n = let a = total_none (of_trial id n) (map (λ (x : Program). Idle) xs) (λ i t e. ap (of_trial id n) (all_idle xs i t e)) in let b = none_waits id n q.seats in
      let d = total_none (of_view id n) vs (λ i v e. bare_count id n v (bare i v e)) in omega (arith, a, b, d)

  -- no attempt stands anywhere
  pub begins_labels : (xs : List Program) → ((i : ℕ) (x : Program) → get_elem? xs i ≡ some x → Labels is_call Idle x) → (vs : List View) → ((i : ℕ) (v : View) → get_elem? vs i ≡ some v → IsBare v) → (ts : List Trial) × LabelLaw is_call ids p q (beginning p q xs) vs ts × ((id n : ℕ) → times_of id n (beginning p q xs) vs ts ≡ 0)
  begins_labels xs goes vs bare = (
    map (λ (x : Program). Idle) xs,
    record {
      once = λ id n. let z = none_at xs vs bare id n in omega (arith, z);
      made = λ id n some_. absurd (let z = none_at xs vs bare id n in omega (arith, z, some_));
      views = λ j v e. let b = bare j v e in (subst (AllByRecursion (ClaimFits is_call ids p)) (sym b.0) tt, subst (AllByRecursion (AllByRecursion (EntryFits is_call ids p))) (sym b.1) (tt, tt));
      trials = λ j t e. subst (TrialFits ids) (sym (all_idle xs j t e)) tt;
      calls = λ k asked e. absurd (no_call q.slots k asked e);
      each = length-map xs (λ (x : Program). Idle) ∙ sym (length-map xs (λ (x : Program). record { program = next_step (resolved [] x); hand = [] }));
      programs = λ j seat t es et. let x = mapped (λ (x : Program). record { program = next_step (resolved [] x); hand = [] }) xs j seat es in
          subst (λ (s : SeatState). Labels is_call t s.program) x.2 (subst (λ y. Labels is_call y (next_step (resolved [] x.0))) (sym (all_idle xs j t et)) (idle_stays x.0 (goes j x.0 x.1)));
    },
    none_at xs vs bare,
  )

pub programs_go : (is_call : Asked → Type 0) (sizes : Sizes) (cs : List (List Task)) → ((i : ℕ) (ts : List Task) → get_elem? cs i ≡ some ts → AllByRecursion (λ (t : Task). OpCalls is_call t.op) ts) → (calls os : List ℕ) (i : ℕ) (x : Program) → get_elem? (all_programs (programs sizes cs) (readers_from calls 0 os)) i ≡ some x → Labels is_call Idle x
programs_go is_call sizes cs asks calls os i x e = all_begin (Labels is_call Idle) tt calls (λ k o. reader_goes is_call calls k o) (programs sizes cs) os i x
    (λ a. let t = mapped (client_from sizes []) cs i x a in subst (Labels is_call Idle) t.2 (client_goes is_call sizes [] t.0 (asks i t.0 t.1))) e

-- at words are the operations' own in all of a run
pub record AreLabelledIn (ids : ℕ → ℕ) (script : List Item) (turns : List Turn) (core : Core) (is : IsRunWithCalls script turns core) : Type 0 where
  pub of_setup : AreLabelled ids (plan_of script) (id_plan_of script) (opened script) (replicate is.setup (quiet 0))
  pub of_played : AreLabelled ids (plan_of script) (id_plan_of script) (set_up script is.setup) (is.scheduled ++ is.later)
  pub of_closing : AreLabelled ids (plan_of script) (id_plan_of script) (closing_of script turns core is) (replicate is.last (quiet 0))
  pub of_final : AreLabelled ids (plan_of script) (id_plan_of script) is.ended is.final

-- a task of the script asks for this call
abbrev pub IsCallOf : List Item → Asked → Type 0
IsCallOf script asked = (i : ℕ) × (ts : List Task) × (t : Task) × (get_elem? (all_tasks script) i ≡ some ts) × In t ts × (t.op ≡ ops.Call asked) × (asked.operation ≡ t.number)

-- the calls of a client's tasks are those of the script
pub asked_by : (script : List Item) (i : ℕ) (ts : List Task) → get_elem? (all_tasks script) i ≡ some ts → AllByRecursion (λ (t : Task). OpCalls (IsCallOf script) t.op) ts
asked_by script i ts at = all_of (λ (t : Task). OpCalls (IsCallOf script) t.op) ts of_task
  where
    of_task : (t : Task) → In t ts → OpCalls (IsCallOf script) t.op
    of_task t m = of_op t.op refl
      where
        of_op : (o : Op) → t.op ≡ o → OpCalls (IsCallOf script) o
        of_op (ops.Call asked) is = (i, ts, t, at, m, is, subst (OwnsCall t.number) is (all_in (λ (u : Task). OwnsCall u.number u.op) ts t (all_in (AllByRecursion (λ (u : Task). OwnsCall u.number u.op)) (all_tasks script) ts (own_from script 0 (clients script + 1)) (in_of_at (all_tasks script) i ts at)) m))
        of_op _ is = tt

module _ (script : List Item) (are : AreTasks (plan_of script) (all_tasks script)) (vs : List View) (begins : Begins script vs) (go : RetriesGo (plan_of script)) (turns : List Turn) (core : Core) (is : IsRunWithCalls script turns core)
    (fitting : AreFittingIn script turns core is) (narrow : (id_plan_of script).slots ≤ 65536) (bare : (i : ℕ) (v : View) → get_elem? vs i ≡ some v → (v.claims ≡ []) × (v.lists ≡ [] ∷ [])) (ids : ℕ → ℕ) (labelled : AreLabelledIn ids script turns core is) where
  abbrev pub Law : Core → List View → Type 0
  Law c ws = (ts : List Trial) × LabelLaw (IsCallOf script) ids (plan_of script) (id_plan_of script) c ws ts

  pub first : Law (opened script) vs
  first = let l = begins_labels (plan_of script) (id_plan_of script) narrow (IsCallOf script) ids (all_programs (programs (sizes_of (plan_of script) (id_plan_of script)) (all_tasks script)) (readers_from (calls script) 0 (opens script)))
      (programs_go (IsCallOf script) (sizes_of (plan_of script) (id_plan_of script)) (all_tasks script) (asked_by script) (calls script) (opens script)) vs bare in (l.0, l.1)

  pub set_up_law : Law (set_up script is.setup) (views_along (plan_of script) (opened script) vs (replicate is.setup (quiet 0)))
  set_up_law = run_labels (plan_of script) (id_plan_of script) narrow (IsCallOf script) ids go (replicate is.setup (quiet 0)) (opened script) vs begins.sound (set_up_answered script are vs begins go turns core is fitting) fitting.of_setup labelled.of_setup first

  pub played_law : Law (rested_of script turns core is) (views_played script turns core is vs)
  played_law = run_labels (plan_of script) (id_plan_of script) narrow (IsCallOf script) ids go (is.scheduled ++ is.later) (set_up script is.setup) (views_along (plan_of script) (opened script) vs (replicate is.setup (quiet 0)))
      (set_up_sound script are vs begins go turns core is fitting) is.answered fitting.of_played labelled.of_played set_up_law

  fresh : (i : ℕ) (v : View) → get_elem? vs i ≡ some v → v.lists ≡ [] ∷ []
  fresh i v e = (bare i v e).1

  -- seat 0 begins the ending
  pub closing_law : Law (closing_of script turns core is) (views_played script turns core is vs)
  closing_law = let c : Core = rested_of script turns core is in let ws : List View = views_played script turns core is vs in
      let long : length (closing_of script turns core is).seats ≡ length (told_tasks_of script) = (closing_told script are vs begins fresh go turns core is fitting).story.each in
      let some_ = (seats script are vs begins fresh go turns core is fitting).some_ in
      let same : length (closing_of script turns core is).seats ≡ length (rested_of script turns core is).seats = length-set (rested_of script turns core is).seats 0 _ in
      let beside = (closing_sound script are vs begins go turns core is fitting).each in
      let seat = at_there (rested_of script turns core is).seats 0 (omega (arith, long, some_, same)) in let v = at_there (views_played script turns core is vs) 0 (omega (arith, beside, long, some_)) in
      let law = played_law in let us = behind_ids (plan_of script) (id_plan_of script) narrow (IsCallOf script) ids (is.scheduled ++ is.later) (set_up script is.setup) labelled.of_played in
      let t = elem_there (rested_of script turns core is).seats law.0 0 seat.0 law.1.each seat.1 in
      subst (λ xs. Law (closing_of script turns core is) xs) (set_again (views_played script turns core is vs) 0 v.0 v.1)
      (let next = moves (plan_of script) (id_plan_of script) narrow (IsCallOf script) ids (rested_of script turns core is) (views_played script turns core is vs) law.0 law.1 us.0 us.1 0 seat.0 v.0 t.0 seat.1 v.1 t.1 (ending_of (opens script)) [] (rested_of script turns core is).homes v.0 v.0.rights refl
      (ending_goes (IsCallOf script) (opens script)) in (next.0, next.1))

  on_law : (c : Core) (ws : List View) → Law c ws → Law (is_ending c) ws
  on_law c ws law = (law.0, record { once = law.1.once; made = law.1.made; views = law.1.views; trials = law.1.trials; calls = law.1.calls; each = law.1.each; programs = law.1.programs })

  pub closed_law : Law is.ended (views_closed script turns core is vs)
  closed_law = subst (λ c. Law c (views_closed script turns core is vs)) (sym is.is_ended)
      (on_law (run (plan_of script) (closing_of script turns core is) (replicate is.last (quiet 0))) (views_closed script turns core is vs)
      (run_labels (plan_of script) (id_plan_of script) narrow (IsCallOf script) ids go (replicate is.last (quiet 0)) (closing_of script turns core is) (views_played script turns core is vs) (closing_sound script are vs begins go turns core is fitting)
      (end_answered script are vs begins go turns core is fitting) fitting.of_closing labelled.of_closing closing_law))

  -- at the end each attempt stands in one place at most
  pub end_law : Law core (views_ended script turns core is vs)
  end_law = subst (λ c. Law c (views_ended script turns core is vs)) (sym is.is_end)
      (run_labels (plan_of script) (id_plan_of script) narrow (IsCallOf script) ids go is.final is.ended (views_closed script turns core is vs) (closed_sound script are vs begins go turns core is fitting) is.answered_again fitting.of_final labelled.of_final closed_law)
