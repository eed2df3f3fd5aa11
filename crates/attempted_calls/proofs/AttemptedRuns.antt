-- In a whole run no attempt stands anywhere that is above the number of times that its call was advanced.
use Rattle.std.proofs.Common.{◌≡◌, ◌≢◌, ℕ, ◌+◌, ◌<◌, ◌≤◌, ◌⊎◌, inl, inr, ⊎_elim, cond, eq-eqb, List, [], ◌∷◌, ◌++◌, length, length-set, replicate, refl, sym, ap, ◌∙◌, subst, arith}
use Rattle.atomic_table.proofs.Lists.{set_again}
use mathlib.Core.Option.{some}
use lib.ListN.{get_elem?}
use Rattle.sock_words.specs.declared.plain.Plan.{Plan}
use Rattle.sock_model.specs.declared.view.View.{View}
use Rattle.seat_programs.specs.brpc_model.specs.Items.{Item}
use Rattle.seat_programs.specs.brpc_model.specs.Operations.{Turn}
use Rattle.corr_core.specs.IdSlotWord.{Parts}
use Rattle.corr_core.specs.declared.marks.Plan.{Plan as IdPlan}
use Rattle.own_decisions.specs.Below.id_runs.specs.HeldIdTokens.{IdView}
use Rattle.own_decisions.specs.Below.id_runs.specs.Goes.{SoundIds, IsFittingIds}
use Rattle.own_decisions.specs.Below.id_runs.proofs.IdRuleOpening.{unused}
use Rattle.sock_message.specs.Asked.{Asked}
use Rattle.seat_programs.specs.ClientProgram.{ending_of}
use Rattle.seat_programs.specs.Cores.{Core}
use Rattle.seat_programs.specs.Ticks.{Moment, IsAnswered, AreAnswered, quiet, ticked, run}
use Rattle.seat_programs.specs.Tasks.{opens, calls, plan_of, id_plan_of}
use Rattle.seat_programs.specs.ScriptSetupToEnding.{sizes_of, programs, readers_from, all_programs, all_tasks, opened, set_up, is_ending, IsRunWithCalls}
use Rattle.seat_programs.specs.Explained.{AreTasks}
use Rattle.own_decisions.specs.Below.programs_allowed.specs.program_steps.specs.SoundSeats.{Sound, AreFitting, views_after, views_along}
use Rattle.own_decisions.specs.Below.programs_allowed.specs.program_steps.proofs.TickCases.{elem_there}
use Rattle.own_decisions.specs.Below.programs_allowed.specs.sock_runs.proofs.LinkTicks.{RetriesGo}
use Rattle.own_decisions.specs.Below.programs_allowed.specs.sock_runs.proofs.TicksKeepSeatsSound.{sound_ticks}
use Rattle.own_decisions.specs.Below.programs_allowed.specs.program_walks.proofs.WholeScriptSound.{Begins, AreFittingIn, closing_of, rested_of, views_played, views_closed, views_ended, set_up_answered, end_answered, set_up_sound, closing_sound, closed_sound}
use Rattle.own_decisions.specs.Below.outcome_stories.specs.PlainTasks.{told_tasks_of}
use Rattle.own_decisions.specs.Below.outcome_causes.proofs.Final.{at_there}
use Rattle.own_decisions.specs.Below.outcome_causes.proofs.SocketCausesOfScripts.{seats, closing_told}
use Rattle.own_decisions.specs.Below.call_stories.specs.LinkReadingLists.{times, advanced_at, attempts_of_run}
use Rattle.own_decisions.specs.Below.label_runs.specs.AttemptLabelsLeft.{Trial}
use Rattle.own_decisions.specs.Below.label_runs.proofs.ProgramsKeepAttempts.{ending_goes}
use Rattle.own_decisions.specs.accept_counts.specs.AttemptCounts.{times_of, word_of_id, WasNow, LabelLaw, StoresOwn, AreLabelled}
use Rattle.own_decisions.specs.accept_counts.proofs.TicksKeepAttemptLaw.{moves, label_ticks}
use Rattle.own_decisions.specs.accept_counts.proofs.RunsKeepAttemptLaw.{AreLabelledIn, IsCallOf, behind_ids, programs_go, begins_labels, asked_by}
use Rattle.attempted_calls.proofs.AttemptedWords.{Rise, is_new, is_same, is_more}
use Rattle.attempted_calls.proofs.AttemptedIds.{AdvancesId, AreRising, AreRisingIn}
use Rattle.own_decisions.specs.Below.call_causes.proofs.RunOfCallStory.{times_append}
use Rattle.sock_words.specs.PackedWords.{call_id, id_slot, id_first}
use Rattle.own_decisions.specs.Below.outcome_stories.specs.Facts.{shown_in}

times_one : (o : ℕ) (ns : List ℕ) → ns ≡ o ∷ [] → times o ns ≡ 1
times_one o ns e = ap (times o) e ∙ ap (λ b. cond b 1 0 + 0) (eq-eqb o o refl)

module _ (p : Plan) (q : IdPlan) (narrow : q.slots ≤ 65536) (is_call : Asked → Type 0) (ids : ℕ → ℕ) (single : (o x : ℕ) → ids o ≢ 0 → ids o ≡ ids x → o ≡ x) where
  -- attempt n of the id isn't above the number of times that its call was advanced; so o is that of operation o
  abbrev pub IsWithin : (ℕ → ℕ) → ℕ → ℕ → Type 0
  IsWithin so id n = (n ≡ 0) ⊎ ((o : ℕ) × (ids o ≡ id) × (n ≤ so o))

  -- so is each attempt to which an id has come, and each that stands anywhere
  pub record Counted (so : ℕ → ℕ) (c : Core) (vs : List View) : Type 0 where
    pub trials : List Trial
    pub law : LabelLaw is_call ids p q c vs trials
    pub words : (i : ℕ) → i < q.slots → 0 < (word_of_id c.calls.words i).state → IsWithin so (call_id i (word_of_id c.calls.words i).first) (word_of_id c.calls.words i).attempt
    pub stands : (id n : ℕ) → 0 < times_of id n c vs trials → IsWithin so id n

  more_within : (so more : ℕ → ℕ) → ((o : ℕ) → so o ≤ more o) → (id n : ℕ) → IsWithin so id n → IsWithin more id n
  more_within so more up id n (inl z) = inl z
  more_within so more up id n (inr x) = inr (x.0, x.1, (let a = x.2 in let b = up x.0 in omega (arith, a, b)))

  less_within : (so : ℕ → ℕ) (id n k : ℕ) → k ≤ n → IsWithin so id n → IsWithin so id k
  less_within so id n k less (inl z) = inl (omega (arith, z, less))
  less_within so id n k less (inr x) = inr (x.0, x.1, (let a = x.2 in omega (arith, a, less)))

  pub counted_on : (so more : ℕ → ℕ) (c : Core) (vs : List View) → ((o : ℕ) → so o ≤ more o) → Counted so c vs → Counted more c vs
  counted_on so more c vs up k = record {
    trials = k.trials;
    law = k.law;
    words = λ i low live. more_within so more up (call_id i (word_of_id c.calls.words i).first) (word_of_id c.calls.words i).attempt (k.words i low live);
    stands = λ id n some_. more_within so more up id n (k.stands id n some_);
  }

  -- ## A tick

  module _ (so more : ℕ → ℕ) (c : Core) (m : Moment) (up : (o : ℕ) → so o + times o (advanced_at c m) ≤ more o) where
    grown : (o : ℕ) → so o ≤ more o
    grown o = let a = up o in omega (arith, a)

    risen_within : (i : ℕ) (old new : Parts) → (0 < old.state → IsWithin so (call_id i old.first) old.attempt) → Rise old new (Unit {0}) (AdvancesId ids c m (call_id i old.first)) → IsWithin more (call_id i new.first) new.attempt
    risen_within i old new had (is_new n z) = inl z
    risen_within i old new had (is_same first live same) = subst (λ f. IsWithin more (call_id i f) new.attempt) (sym first) (subst (IsWithin more (call_id i old.first)) (sym same) (more_within so more grown (call_id i old.first) old.attempt (had live)))
    risen_within i old new had (is_more first live one a) = subst (λ f. IsWithin more (call_id i f) new.attempt) (sym first) (subst (IsWithin more (call_id i old.first)) (sym one)
        (inr (
          a.0,
          a.2,
          (let most = up a.0 in let once = times_one a.0 (advanced_at c m) a.3 in ⊎_elim (λ z. omega (arith, z, most, once))
              (λ x. let same : a.0 ≡ x.0 = single a.0 x.0 a.1 (a.2 ∙ sym x.1) in let few : old.attempt ≤ so a.0 = subst (λ o. old.attempt ≤ so o) (sym same) x.2 in omega (arith, few, most, once)) (had live)),
        )))

  id_of : (id first slot : ℕ) → slot ≡ id_slot id → first ≡ id_first id → call_id slot first ≡ id
  id_of id first slot s f = ap (λ x. call_id x first) s ∙ ap (call_id (id_slot id)) f ∙ (let z : call_id (id_slot id) (id_first id) ≡ id = omega arith in z)

  one_tick : (so more : ℕ → ℕ) (c : Core) (vs : List View) (us : List IdView) (real : SoundIds p q c us) → Sound p c vs → (m : Moment) → IsAnswered c m → IsFittingIds p c m → StoresOwn ids c m
      → ((i : ℕ) → i < q.slots → 0 < (word_of_id (ticked p c m).calls.words i).state → Rise (word_of_id c.calls.words i) (word_of_id (ticked p c m).calls.words i) (Unit {0}) (AdvancesId ids c m (call_id i (word_of_id c.calls.words i).first)))
      → ((o : ℕ) → so o + times o (advanced_at c m) ≤ more o) → Counted so c vs → Counted more (ticked p c m) (views_after p c vs m)
  one_tick so more c vs us real sound m answered fits own rises up k = let next = label_ticks p q narrow is_call ids c vs k.trials k.law us real sound m answered fits own in record {
    trials = next.0;
    law = next.1;
    words = words_now;
    stands = λ id n some_. ⊎_elim (λ old. more_within so more (grown so more c m up) id n (k.stands id n old)) (now id n) (next.2 id n some_);
  }
    where
      words_now : (i : ℕ) → i < q.slots → 0 < (word_of_id (ticked p c m).calls.words i).state → IsWithin more (call_id i (word_of_id (ticked p c m).calls.words i).first) (word_of_id (ticked p c m).calls.words i).attempt
      words_now i low live = risen_within so more c m up i (word_of_id c.calls.words i) (word_of_id (ticked p c m).calls.words i) (k.words i low) (rises i low live)

      now : (id n : ℕ) → WasNow q (ticked p c m).calls.words id n → IsWithin more id n
      now id n w = let x = w.1 in less_within more id (word_of_id (ticked p c m).calls.words (id_slot id)).attempt n x.2
          (subst (λ y. IsWithin more y (word_of_id (ticked p c m).calls.words (id_slot id)).attempt) (id_of id (word_of_id (ticked p c m).calls.words (id_slot id)).first (id_slot id) refl x.0) (words_now (id_slot id) w.0 x.1))

  -- ticks one after another
  pub run_counted : RetriesGo p → (ms : List Moment) (so more : ℕ → ℕ) (c : Core) (vs : List View) → Sound p c vs → AreAnswered p c ms → AreFitting p c ms → AreLabelled ids p q c ms → AreRising ids p q c ms
      → ((o : ℕ) → so o + times o (shown_in advanced_at p c ms) ≤ more o) → Counted so c vs → Counted more (run p c ms) (views_along p c vs ms)
  run_counted go [] so more c vs sound answered fitting are rising up k = counted_on so more c vs (λ o. (let z = up o in omega (arith, z))) k
  run_counted go (m ∷ ms) so more c vs sound answered fitting are rising up k = run_counted go ms (λ o. so o + times o (advanced_at c m)) more (ticked p c m) (views_after p c vs m) (sound_ticks p go c vs m sound answered.0 fitting.0) answered.1 fitting.1 are.3 rising.1
      (λ o. (let z = up o in let y = times_append o (advanced_at c m) (shown_in advanced_at p (ticked p c m) ms) in omega (arith, z, y)))
      (one_tick so (λ o. so o + times o (advanced_at c m)) c vs are.0.0 are.0.1 sound m answered.0 are.1 are.2 rising.0 (λ o. omega arith) k)

-- ## A whole run

module _ (script : List Item) (are : AreTasks (plan_of script) (all_tasks script)) (vs : List View) (begins : Begins script vs) (go : RetriesGo (plan_of script)) (turns : List Turn) (core : Core) (is : IsRunWithCalls script turns core)
    (fitting : AreFittingIn script turns core is) (narrow : (id_plan_of script).slots ≤ 65536) (bare : (i : ℕ) (v : View) → get_elem? vs i ≡ some v → (v.claims ≡ []) × (v.lists ≡ [] ∷ []))
    (ids : ℕ → ℕ) (single : (o x : ℕ) → ids o ≢ 0 → ids o ≡ ids x → o ≡ x) (labelled : AreLabelledIn ids script turns core is) (rising : AreRisingIn ids script turns core is) where
  abbrev Keeps : (ℕ → ℕ) → Core → List View → Type 0
  Keeps so c ws = Counted (plan_of script) (id_plan_of script) narrow (IsCallOf script) ids single so c ws

  -- how often the call of an operation was advanced behind each part of the run
  abbrev since_setup : ℕ → ℕ
  since_setup o = times o (shown_in advanced_at (plan_of script) (opened script) (replicate is.setup (quiet 0)))

  abbrev since_clients : ℕ → ℕ
  since_clients o = since_setup o + times o (shown_in advanced_at (plan_of script) (set_up script is.setup) (is.scheduled ++ is.later))

  abbrev since_closing : ℕ → ℕ
  since_closing o = since_clients o + times o (shown_in advanced_at (plan_of script) (closing_of script turns core is) (replicate is.last (quiet 0)))

  first : Keeps (λ o. 0) (opened script) vs
  first = let l = begins_labels (plan_of script) (id_plan_of script) narrow (IsCallOf script) ids (all_programs (programs (sizes_of (plan_of script) (id_plan_of script)) (all_tasks script)) (readers_from (calls script) 0 (opens script)))
      (programs_go (IsCallOf script) (sizes_of (plan_of script) (id_plan_of script)) (all_tasks script) (asked_by script) (calls script) (opens script)) vs bare in record {
        trials = l.0;
        law = l.1;
        words = λ i low live. absurd (let free : (word_of_id (opened script).calls.words i).state ≡ 0 = ap (λ (w : Parts). w.state) ((unused (id_plan_of script)).ids i low) in omega (arith, free, live));
        stands = λ id n some_. absurd (let none_ = l.2 id n in omega (arith, none_, some_));
      }

  set_up_counted : Keeps since_setup (set_up script is.setup) (views_along (plan_of script) (opened script) vs (replicate is.setup (quiet 0)))
  set_up_counted = run_counted (plan_of script) (id_plan_of script) narrow (IsCallOf script) ids single go (replicate is.setup (quiet 0)) (λ o. 0) since_setup (opened script) vs begins.sound (set_up_answered script are vs begins go turns core is fitting) fitting.of_setup labelled.of_setup rising.of_setup
      (λ o. omega arith) first

  pub played_counted : Keeps since_clients (rested_of script turns core is) (views_played script turns core is vs)
  played_counted = run_counted (plan_of script) (id_plan_of script) narrow (IsCallOf script) ids single go (is.scheduled ++ is.later) since_setup since_clients (set_up script is.setup) (views_along (plan_of script) (opened script) vs (replicate is.setup (quiet 0)))
      (set_up_sound script are vs begins go turns core is fitting) is.answered fitting.of_played labelled.of_played rising.of_played (λ o. omega arith) set_up_counted

  fresh : (i : ℕ) (v : View) → get_elem? vs i ≡ some v → v.lists ≡ [] ∷ []
  fresh i v e = (bare i v e).1

  -- seat 0 begins the ending
  closing_counted : Keeps since_clients (closing_of script turns core is) (views_played script turns core is vs)
  closing_counted = let k = played_counted in
      let long : length (closing_of script turns core is).seats ≡ length (told_tasks_of script) = (closing_told script are vs begins fresh go turns core is fitting).story.each in
      let some_ = (seats script are vs begins fresh go turns core is fitting).some_ in
      let same : length (closing_of script turns core is).seats ≡ length (rested_of script turns core is).seats = length-set (rested_of script turns core is).seats 0 _ in
      let beside = (closing_sound script are vs begins go turns core is fitting).each in
      let seat = at_there (rested_of script turns core is).seats 0 (omega (arith, long, some_, same)) in let v = at_there (views_played script turns core is vs) 0 (omega (arith, beside, long, some_)) in
      let us = behind_ids (plan_of script) (id_plan_of script) narrow (IsCallOf script) ids (is.scheduled ++ is.later) (set_up script is.setup) labelled.of_played in
      let t = elem_there (rested_of script turns core is).seats k.trials 0 seat.0 k.law.each seat.1 in
      subst (λ xs. Keeps since_clients (closing_of script turns core is) xs) (set_again (views_played script turns core is vs) 0 v.0 v.1)
      (let next = moves (plan_of script) (id_plan_of script) narrow (IsCallOf script) ids (rested_of script turns core is) (views_played script turns core is vs) k.trials k.law us.0 us.1 0 seat.0 v.0 t.0 seat.1 v.1 t.1 (ending_of (opens script)) [] (rested_of script turns core is).homes v.0 v.0.rights refl
      (ending_goes (IsCallOf script) (opens script)) in record {
        trials = next.0;
        law = next.1;
        words = k.words;
        stands = λ id n there. ⊎_elim (λ old. k.stands id n old)
            (λ now. let w = now.1 in less_within (plan_of script) (id_plan_of script) narrow (IsCallOf script) ids single since_clients id (word_of_id (rested_of script turns core is).calls.words (id_slot id)).attempt n w.2
            (subst (λ y. IsWithin (plan_of script) (id_plan_of script) narrow (IsCallOf script) ids single since_clients y (word_of_id (rested_of script turns core is).calls.words (id_slot id)).attempt)
            (id_of (plan_of script) (id_plan_of script) narrow (IsCallOf script) ids single id (word_of_id (rested_of script turns core is).calls.words (id_slot id)).first (id_slot id) refl w.0) (k.words (id_slot id) now.0 w.1))) (next.2 id n there);
      })

  on_counted : (so : ℕ → ℕ) (c : Core) (ws : List View) → Keeps so c ws → Keeps so (is_ending c) ws
  on_counted so c ws k = record { trials = k.trials; law = record { once = k.law.once; made = k.law.made; views = k.law.views; trials = k.law.trials; calls = k.law.calls; each = k.law.each; programs = k.law.programs }; words = k.words; stands = k.stands }

  closed_counted : Keeps since_closing is.ended (views_closed script turns core is vs)
  closed_counted = subst (λ c. Keeps since_closing c (views_closed script turns core is vs)) (sym is.is_ended)
      (on_counted since_closing (run (plan_of script) (closing_of script turns core is) (replicate is.last (quiet 0))) (views_closed script turns core is vs)
      (run_counted (plan_of script) (id_plan_of script) narrow (IsCallOf script) ids single go (replicate is.last (quiet 0)) since_clients since_closing (closing_of script turns core is) (views_played script turns core is vs) (closing_sound script are vs begins go turns core is fitting)
      (end_answered script are vs begins go turns core is fitting) fitting.of_closing labelled.of_closing rising.of_closing (λ o. omega arith) closing_counted))

  -- at the end no attempt that stands anywhere is above the last of its call
  pub end_counted : Keeps (attempts_of_run script turns core is) core (views_ended script turns core is vs)
  end_counted = subst (λ c. Keeps (attempts_of_run script turns core is) c (views_ended script turns core is vs)) (sym is.is_end)
      (run_counted (plan_of script) (id_plan_of script) narrow (IsCallOf script) ids single go is.final since_closing (attempts_of_run script turns core is) is.ended (views_closed script turns core is vs) (closed_sound script are vs begins go turns core is fitting) is.answered_again fitting.of_final labelled.of_final rising.of_final
      all_parts closed_counted)
    where
      all_parts : (o : ℕ) → since_closing o + times o (shown_in advanced_at (plan_of script) is.ended is.final) ≤ attempts_of_run script turns core is o
      all_parts o = let p : Plan = plan_of script in
          let one : List ℕ = shown_in advanced_at (plan_of script) (opened script) (replicate is.setup (quiet 0)) in let two : List ℕ = shown_in advanced_at (plan_of script) (set_up script is.setup) (is.scheduled ++ is.later) in
          let three : List ℕ = shown_in advanced_at (plan_of script) (closing_of script turns core is) (replicate is.last (quiet 0)) in let four : List ℕ = shown_in advanced_at (plan_of script) is.ended is.final in
          let a = times_append o one (two ++ (three ++ four)) in let b = times_append o two (three ++ four) in let c = times_append o three four in omega (arith, a, b, c)
