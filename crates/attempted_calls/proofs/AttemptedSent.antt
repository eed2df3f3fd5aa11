-- Each message that a link accepted is that of a `send` of which nothing is said, or of an attempt that was made of a call with an id.
use Rattle.std.proofs.Common.{◌≡◌, ◌≢◌, ℕ, ◌+◌, ◌<◌, ◌≤◌, ◌⊎◌, inl, inr, ⊎_elim, true, false, cond, ne_eqb, List, [], ◌∷◌, length, sym, ap, ◌∙◌, subst, arith}
use Rattle.std.specs.List.{AllByRecursion}
use Rattle.sock_words.specs.declared.plain.Plan.{Plan}
use Rattle.sock_model.specs.declared.chain.Entry.{Entry}
use Rattle.sock_model.specs.declared.chain.Heading.{Heading}
use Rattle.sock_model.specs.declared.view.View.{View}
use Rattle.own_decisions.specs.Below.slot_steps.proofs.SlotWeightSums.{term_le}
use Rattle.seat_programs.specs.brpc_model.specs.Items.{Item}
use Rattle.seat_programs.specs.brpc_model.specs.Operations.{Turn}
use Rattle.corr_core.specs.declared.marks.Plan.{Plan as IdPlan}
use Rattle.sock_message.specs.Asked.{Asked, name_of, frame_of}
use Rattle.seat_programs.specs.declared.task.Op.TheVariants as ops
use Rattle.seat_programs.specs.declared.task.Task.{Task}
use Rattle.seat_programs.specs.Cores.{Core}
use Rattle.seat_programs.specs.Tasks.{opens, plan_of, id_plan_of}
use Rattle.seat_programs.specs.ScriptSetupToEnding.{all_tasks, IsRunWithCalls}
use Rattle.seat_programs.specs.Explained.{AreTasks, IsTask, Made}
use Rattle.seat_programs.specs.ExplainedCalls.{Accepted, Fixed, IsSent, OfSend, OfCall}
use Rattle.own_decisions.specs.Below.programs_allowed.specs.program_steps.specs.SoundSeats.{Sound, AllRest}
use Rattle.own_decisions.specs.Below.programs_allowed.specs.program_walks.proofs.WholeScriptSound.{views_ended, ended_sound, end_rests, IsOwed}
use Rattle.own_decisions.specs.Below.outcome_stories.specs.StoryStepCauses.{Asks}
use Rattle.own_decisions.specs.Below.outcome_stories.specs.KeptStory.{is_of_send, IsSpoken, Story}
use Rattle.own_decisions.specs.Below.outcome_stories.specs.PlainTasks.{told_tasks_of}
use Rattle.own_decisions.specs.Below.outcome_stories.specs.OperationStories.{Event}
use Rattle.own_decisions.specs.Below.outcome_stories.specs.TaskCauses as causes
use Rattle.own_decisions.specs.Below.outcome_stories.proofs.Delivered.{orders_of}
use Rattle.own_decisions.specs.Below.outcome_ticks.proofs.Lifted.{task_up, made_up}
use Rattle.own_decisions.specs.Below.outcome_stories.proofs.Members.{in_contains}
use Rattle.own_decisions.specs.Below.outcome_causes.proofs.MessagesOfTasks.{each_made, message_of, number_of}
use Rattle.own_decisions.specs.Below.outcome_causes.proofs.SocketCausesOfScripts.{seats, final_told, story_end, run_told}
use Rattle.own_decisions.specs.Below.outcome_stories.proofs.SendersOfLogEntries.{HasSent, all_sent}
use Rattle.own_decisions.specs.Below.joint_runs.proofs.RunsOfBothTables.{AreMade}
use Rattle.own_decisions.specs.Below.script_facts.proofs.ReadScriptFacts.{InRange}
use Rattle.own_decisions.specs.Below.script_facts.proofs.Targets.{AreThere}
use Rattle.own_decisions.specs.Below.call_owing.specs.LivesOfLinks.{ClosesInRun}
use Rattle.own_decisions.specs.Below.call_stories.specs.LinkReadingLists.{attempts_of_run}
use Rattle.own_decisions.specs.Below.label_runs.specs.AttemptLabelsLeft.{Trial}
use Rattle.own_decisions.specs.accept_counts.specs.AttemptCounts.{pair_of, of_heading, of_entry, of_view, times_of, LabelLaw}
use Rattle.own_decisions.specs.accept_counts.proofs.Apart as apart
use Rattle.own_decisions.specs.accept_counts.proofs.EarlyClosedSockets.{first_fresh}
use Rattle.own_decisions.specs.accept_counts.proofs.RunsKeepAttemptLaw.{AreLabelledIn, IsCallOf}
use Rattle.own_decisions.specs.sent_once.proofs.SocketOperationsTold.{owed, orders_of_run, narrow, opening_bare}
use Rattle.attempted_calls.proofs.AttemptedIds.{AreRisingIn}
use Rattle.attempted_calls.proofs.AttemptedRuns.{IsWithin, end_counted}
use Rattle.attempted_calls.proofs.AttemptedCalls.{AreStored, single, shows}
use Rattle.own_decisions.proofs.OwnDecisionsTicks.{pair_self}
use Rattle.own_decisions.specs.accept_counts.proofs.Grounds.{setting, grounds}
use Rattle.own_decisions.specs.Below.programs_allowed.specs.program_walks.proofs.Recorded.{either_bool}
use Rattle.own_decisions.specs.Below.owned_ids.proofs.OpensStored.{place_at}
use Rattle.sock_words.specs.Totals.{total}

-- ## Accepted messages

module _ (p : Plan) (q : IdPlan) (is_call : Asked → Type 0) (ids : ℕ → ℕ) (clients : List (List Task)) (are : AreTasks p clients) (c : Core) (vs : List View) (es : List Event) (lost : List ℕ) (sound : Sound p c vs) (story : Story p clients true c vs es lost) (settled : AllRest c)
    (ts : List Trial) (law : LabelLaw is_call ids p q c vs ts) (P : ℕ → ℕ → Type 0) (stands : (id n : ℕ) → 0 < times_of id n c vs ts → P id n) where
  own_heading : (w : Heading) → w.owner ≢ 0 → of_heading w.owner w.label.attempt w ≡ 1
  own_heading w some_ = ap (λ z. cond z 0 (pair_of w.owner w.label.attempt w.owner w.label.attempt)) (ne_eqb w.owner 0 some_) ∙ pair_self w.owner w.label.attempt

  -- the attempt of an accepted message stands there
  stands_there : (i n : ℕ) (e : Entry) → HasSent vs i n e → is_of_send e ≡ false → P e.heading.owner e.heading.label.attempt
  stands_there i n e h not_ = let f = apart.of_call_fits p q is_call ids clients are c vs es lost sound story settled ts law i n e h not_ in
      let one : of_entry e.heading.owner e.heading.label.attempt e ≡ 1 = own_heading e.heading f.0 in
      let here = term_le (of_entry e.heading.owner e.heading.label.attempt) h.made n e h.stands in
      let listed : total (total (of_entry e.heading.owner e.heading.label.attempt)) h.view.lists ≡ total (of_entry e.heading.owner e.heading.label.attempt) h.made + 0 = ap (total (total (of_entry e.heading.owner e.heading.label.attempt))) h.lists in
      let view = term_le (of_view e.heading.owner e.heading.label.attempt) vs i h.view h.here in
      stands e.heading.owner e.heading.label.attempt (omega (arith, one, here, listed, view))

  -- so of each message of a call
  pub all_stand : (k : ℕ) → AllByRecursion (λ (a : Accepted). IsSpoken clients a.operation → (ids a.operation ≢ 0) × P (ids a.operation) a.attempt) (orders_of p c vs sound.lawful k).accepted
  all_stand k = all_sent p c vs sound.lawful (each_made p clients are true c vs es lost sound story settled) (λ (a : Accepted). IsSpoken clients a.operation → (ids a.operation ≢ 0) × P (ids a.operation) a.attempt) k
      (λ i n e h link. ⊎_elim
      (λ is. λ spoken. let x = message_of p clients are true c vs es lost sound story settled i n e h is in absurd (spoken i x.task x.asks (sym (number_of p clients are true c vs es lost sound story settled i e x))))
      (λ not_. λ spoken. let f = apart.of_call_fits p q is_call ids clients are c vs es lost sound story settled ts law i n e h not_ in ((λ z. f.0 (sym f.1 ∙ z)), subst (λ y. P y e.heading.label.attempt) (sym f.1) (stands_there i n e h not_)))
      (either_bool (is_of_send e)))

-- ## Lists

four : {A : Type 0} (P Q R S T : A → Type 0) → ((x : A) → P x → Q x → R x → S x → T x) → (xs : List A) → AllByRecursion P xs → AllByRecursion Q xs → AllByRecursion R xs → AllByRecursion S xs → AllByRecursion T xs
four P Q R S T f [] a b c d = tt
four P Q R S T f (x ∷ xs) a b c d = (f x a.0 b.0 c.0 d.0, four P Q R S T f xs a.1 b.1 c.1 d.1)

-- link k is that of a life of the name to which the attempt of a call goes
abbrev pub IsNamedOn : List Item → Core → ℕ → Accepted → Type 0
IsNamedOn script core k a = (client : ℕ) (t : Task) (asked : Asked) → IsTask (all_tasks script) core.outcomes client t → t.number ≡ a.operation → t.op ≡ ops.Call asked → (slot version : ℕ) × Made (all_tasks script) core.outcomes (name_of asked a.attempt) k slot version

-- ## A whole run

module _ (script : List Item) (made : AreMade script) (there : AreThere script) (range : AllByRecursion InRange script) (turns : List Turn) (core : Core) (is : IsRunWithCalls script turns core) (closes : ClosesInRun script turns core is)
    (ids : ℕ → ℕ) (labelled : AreLabelledIn ids script turns core is) (rising : AreRisingIn ids script turns core is) (stored : AreStored ids script core)
    (named : (k : ℕ) → k < (plan_of script).links → AllByRecursion (λ (a : Accepted). IsSpoken (told_tasks_of script) a.operation → IsNamedOn script core k a) (orders_of_run script made turns core is closes k).accepted) where
  open setting script use {p, vs}
  open grounds script made turns core is use {begins, goes, fits}

  abbrev owes : IsOwed script turns core is
  owes = owed script made turns core is closes

  abbrev one_each : (o x : ℕ) → ids o ≢ 0 → ids o ≡ ids x → o ≡ x
  one_each = single script made there range turns core is ids stored

  abbrev IsKind : Accepted → Type 0
  IsKind a = ((asked : Asked) × IsCallOf script asked × (asked.operation ≡ a.operation) × (a.attempt ≤ 6) × (a.bytes ≡ frame_of asked (ids a.operation) a.attempt)) ⊎ ((d : ℕ) × (t : Task) × Asks (told_tasks_of script) d t × (t.number ≡ a.operation))

  abbrev IsMade : Accepted → Type 0
  IsMade a = IsSpoken (told_tasks_of script) a.operation → (ids a.operation ≢ 0) × IsWithin (plan_of script) (id_plan_of script) (narrow script made turns core is closes) (IsCallOf script) ids (single script made there range turns core is ids stored) (attempts_of_run script turns core is) (ids a.operation) a.attempt

  module _ (fixed : Fixed) (gave : ℕ → List ℕ) where
    abbrev Sent : ℕ → Accepted → Type 0
    Sent k a = IsSent (plan_of script) (all_tasks script) core.outcomes fixed gave (orders_of_run script made turns core is closes) (attempts_of_run script turns core is) k a

    few_attempts : (o n : ℕ) → ids o ≢ 0 → IsWithin (plan_of script) (id_plan_of script) (narrow script made turns core is closes) (IsCallOf script) ids (single script made there range turns core is ids stored) (attempts_of_run script turns core is) (ids o) n → n ≤ attempts_of_run script turns core is o
    few_attempts o n some_ (inl none_) = omega (arith, none_)
    few_attempts o n some_ (inr x) = let same : o ≡ x.0 = single script made there range turns core is ids stored o x.0 some_ (sym x.1) in subst (λ y. n ≤ attempts_of_run script turns core is y) (sym same) x.2

    lift : (k : ℕ) (a : Accepted) → causes.IsSent (told_tasks_of script) core.outcomes k a ⊎ IsSpoken (told_tasks_of script) a.operation → IsKind a → IsMade a → (IsSpoken (told_tasks_of script) a.operation → IsNamedOn script core k a) → Sent k a
    lift k a (inl s) kind made_ name = OfSend s.client s.task s.name s.slot s.version (task_up (all_tasks script) (length (opens script)) core.outcomes s.client s.task s.is) s.numbered s.op s.first
        (made_up (all_tasks script) (length (opens script)) core.outcomes s.name k s.slot s.version s.life) s.untold
    lift k a (inr spoken) (inr t) made_ name = absurd (spoken t.0 t.1 t.2 t.3)
    lift k a (inr spoken) (inl x) made_ name = let w = x.1 in let m = made_ spoken in let o = shows script made there range turns core is ids stored closes a.operation m.0 in
        let task : IsTask (all_tasks script) core.outcomes w.0 w.2 = (w.1, place_at (all_tasks script) w.0 w.1 w.3, in_contains w.1 w.2 w.4) in let number : w.2.number ≡ a.operation = sym w.6 ∙ x.2 in
        let life = name spoken w.0 w.2 x.0 task number w.5 in
        OfCall w.0 w.2 x.0 o.0 (ids a.operation) life.0 life.1 task number w.5 o.1 o.2 (few_attempts a.operation a.attempt m.0 m.1) x.4 life.2

    -- what each link accepted
    pub run_attempted : (k : ℕ) → k < (plan_of script).links → AllByRecursion (IsSent (plan_of script) (all_tasks script) core.outcomes fixed gave (orders_of_run script made turns core is closes) (attempts_of_run script turns core is) k) (orders_of_run script made turns core is closes k).accepted
    run_attempted k low = let n = narrow script made turns core is closes in
        let counted = end_counted script made.are vs begins goes turns core is fits n (opening_bare script) ids one_each labelled rising in
        let sound = ended_sound script made.are vs begins goes turns core is fits in let rests = end_rests script made.are vs begins goes turns core is fits owes in
        let tells = run_told script made.are vs begins (first_fresh script) goes turns core is fits owes in
        four (λ (a : Accepted). causes.IsSent (told_tasks_of script) core.outcomes k a ⊎ IsSpoken (told_tasks_of script) a.operation) IsKind IsMade (λ (a : Accepted). IsSpoken (told_tasks_of script) a.operation → IsNamedOn script core k a) (Sent k) (lift k) (orders_of_run script made turns core is closes k).accepted
        (tells.sent k low)
        (apart.all_kinds (plan_of script) (id_plan_of script) (IsCallOf script) ids (told_tasks_of script) (seats script made.are vs begins (first_fresh script) goes turns core is fits) core (views_ended script turns core is vs)
        (final_told script made.are vs begins (first_fresh script) goes turns core is fits).after.events (final_told script made.are vs begins (first_fresh script) goes turns core is fits).after.lost sound
        (story_end script made.are vs begins (first_fresh script) goes turns core is fits owes) rests counted.trials counted.law k)
        (all_stand (plan_of script) (id_plan_of script) (IsCallOf script) ids (told_tasks_of script) (seats script made.are vs begins (first_fresh script) goes turns core is fits) core (views_ended script turns core is vs)
        (final_told script made.are vs begins (first_fresh script) goes turns core is fits).after.events (final_told script made.are vs begins (first_fresh script) goes turns core is fits).after.lost sound
        (story_end script made.are vs begins (first_fresh script) goes turns core is fits owes) rests counted.trials counted.law
        (IsWithin (plan_of script) (id_plan_of script) n (IsCallOf script) ids one_each (attempts_of_run script turns core is)) counted.stands k)
        (named k low)
