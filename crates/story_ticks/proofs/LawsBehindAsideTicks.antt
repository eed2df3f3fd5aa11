-- A tick that makes a step aside keeps the laws of the id slots, of the ids and of the tasks, with all that is said in it.
use Rattle.std.proofs.Common.{◌≡◌, ◌≢◌, ℕ, ◌<◌, ◌≤◌, inl, inr, List, [], ◌∷◌, ◌++◌, length, get_or, set, Some, refl, sym, ap, ◌∙◌, subst}
use Rattle.sock_words.specs.declared.plain.Plan.{Plan}
use Rattle.sock_model.specs.SocketTableLayout.{code_index}
use Rattle.corr_core.specs.declared.marks.Plan.{Plan as IdPlan}
use Rattle.seat_programs.specs.id_rule.specs.LawfulIdTable.{all_words}
use Rattle.sock_message.specs.Asked.{Asked}
use Rattle.seat_programs.specs.declared.task.Task.{Task}
use Rattle.seat_programs.specs.LoopHeads.{Retry}
use Rattle.seat_programs.specs.Asides.{Step, MakeId, Found}
use Rattle.seat_programs.specs.Programs.{Program, Say, Sent, Aside, Keep, Retries}
use Rattle.seat_programs.specs.Cores.{resolved, said, next_step}
use Rattle.sock_words.specs.declared.outcome.Outcome.{Outcome}
use Rattle.story_steps.specs.Below.joint_runs.specs.Below.sock_steps.proofs.Maps.{set_twice}
use Rattle.story_steps.specs.call_stories.specs.Scenes.{Birth, Saying, Scene, IsOver, IsOther, StaysWithin, Later}
use Rattle.story_steps.specs.call_stories.specs.Says.{Claims, Mark, IsNextSaid, SaidBy, MayAside, Moves, Shows, SaysOn}
use Rattle.story_steps.specs.call_stories.specs.CallStories.{At, word_at, SlotFits, SlotsLaw, BirthsLaw, TasksLaw, ClaimsLaw, ReadsLaw, IsBehind, KnowsStep, mark_after}
use Rattle.story_steps.specs.call_stories.proofs.LastingCallStories.{here_later}
use Rattle.story_steps.proofs.Births.{IsMake}
use Rattle.story_steps.proofs.BirthTicks as birth_ticks
use Rattle.story_steps.proofs.LaterHappenings.{made_of, home_before, ats_still, later}
use Rattle.story_steps.proofs.AttemptsBehindAsides.{few_still, advanced_still, attempts_still, unmade_still}
use Rattle.story_steps.proofs.MarkMoves.{moves}
use Rattle.story_steps.proofs.WaitingErrorCauses as errors
use Rattle.story_steps.proofs.IdSlotMarksStay.{slots_after}
use Rattle.story_steps.proofs.NumberedTasks.{AreNumbered}
use Rattle.story_ticks.proofs.SayingKeepsStory.{put_at, other_call}
use Rattle.story_ticks.proofs.TaskTicks.{changed}
use Rattle.story_ticks.proofs.TaskSteps.{changes}
use Rattle.story_ticks.proofs.SaidBeforeNextStep.{sayings_of, AreFewTries, KeepsFew, IsKept, chain, said_first}
use Rattle.story_steps.specs.call_stories.specs.Below.outcome_stories.specs.OperationStories.{In}

-- what was said stays said
pub sayings_keep : (x : Program) (ss : List Saying) (s : Saying) → In s ss → In s (sayings_of x ss)
sayings_keep (Say o outcome next) ss s there = sayings_keep next ((record { number = o; outcome = outcome }) ∷ ss) s (inr there)
sayings_keep (Sent o next) ss s there = sayings_keep next ss s there
sayings_keep _ ss s there = there

pub overs_keep : (x : Program) (ss : List Saying) (a b : Saying) → IsOver a b ss → IsOver a b (sayings_of x ss)
overs_keep (Say o outcome next) ss a b there = overs_keep next ((record { number = o; outcome = outcome }) ∷ ss) a b (inr there)
overs_keep (Sent o next) ss a b there = overs_keep next ss a b there
overs_keep _ ss a b there = there

-- what is said next is said directly behind this
next_over : (w : Scene) (o : ℕ) (outcome : Outcome) (x : Program) (ss : List Saying) → ((a b : Saying) → IsOver a b (sayings_of x ((record { number = o; outcome = outcome }) ∷ ss)) → IsOver a b w.sayings) → IsNextSaid w o outcome x
next_over w o outcome (Say t y next) ss all = all (record { number = t; outcome = y }) (record { number = o; outcome = outcome }) (overs_keep next ((record { number = t; outcome = y }) ∷ (record { number = o; outcome = outcome }) ∷ ss) (record { number = t; outcome = y }) (record { number = o; outcome = outcome }) (inl (refl, refl)))
next_over w o outcome _ ss all = tt

-- what a program that is resolved says is among the sayings with its own
pub said_all : (w : Scene) (x : Program) (ws : List Retry) (ss : List Saying) → ((s : Saying) → In s (sayings_of (resolved ws x) ss) → In s w.sayings) → ((a b : Saying) → IsOver a b (sayings_of (resolved ws x) ss) → IsOver a b w.sayings) → SaidBy w (resolved ws x)
said_all w (Say o outcome next) ws ss all overs = (
  (all (record { number = o; outcome = outcome }) (sayings_keep (resolved ws next) ((record { number = o; outcome = outcome }) ∷ ss) (record { number = o; outcome = outcome }) (inl refl)), next_over w o outcome (resolved ws next) ss overs),
  said_all w next ws ((record { number = o; outcome = outcome }) ∷ ss) all overs,
)
said_all w (Sent o next) ws ss all overs = said_all w next ws ss all overs
said_all w (Keep r next) ws ss all overs = said_all w next (ws ++ r ∷ []) ss all overs
said_all w (Retries n after) [] ss all overs = said_all w after [] ss all overs
said_all w (Retries n after) (r ∷ ws) ss all overs = tt
said_all w _ ws ss all overs = tt

module _ (p : Plan) (q : IdPlan) (clients : List (List Task)) (gives : ℕ → List ℕ) (numbered : AreNumbered p q clients gives) (w w' : Scene) (ms : List Mark) (j : ℕ) (m : Mark) (at : At ms j m) (plan : w.core.calls.plan ≡ q) (sized : length w.core.calls.words ≡ all_words q) (low : (k : ℕ) → k < q.slots → (word_at w k).first ≤ 67108856)
    (slots : SlotsLaw q w ms) (births : BirthsLaw p q clients gives w) (tasks : TasksLaw p q clients gives w w.core.outcomes w.sayings ms) (claims : ClaimsLaw p q clients gives w ms) (reads : ReadsLaw p q clients gives w ms)
    (step : Step) (found : Found step) (b : IsBehind p q clients gives w w' m step found) (knows : KnowsStep p q clients gives w step found) (same : w'.core.words ≡ w.core.words) (room : StaysWithin p q clients gives w') where
  fits : SlotFits q w m.slot
  fits = slots.fits j m at

  -- the call for which an id is made has none yet
  fresh : (s : Step) (n : Found s) → MayAside p q clients gives w m s → (c : Birth) (i : ℕ) (asked : Asked) → IsMake s i → In c w.births → m.slot ≡ Claims i (Some asked) → asked.operation ≢ c.asked.operation
  fresh (MakeId k range) n may c i asked is there slot = λ e.
      let z : Claims i (Some asked) ≡ Claims k (Some may.0) = sym slot ∙ may.3 in
      let one : asked ≡ may.0 = cc in
      other_call p q clients gives numbered w births w.core.outcomes w.sayings ms tasks j m at may.1 may.2 may.5 may.9 may.8 c there (may.7 ∙ (ap (λ (a : Asked). a.operation) (sym one) ∙ e))
  fresh _ n may c i asked is there slot = absurd is

  module _ (may : MayAside p q clients gives w m step) where
    pub is_later : Later p q clients gives w w'
    is_later = later p q clients gives w w' m plan sized fits births low step found b knows may same room (fresh step found may)

    pub new_births : Shows p q clients gives w' step found → BirthsLaw p q clients gives w'
    new_births shows = let made = made_of p q clients gives w w' m plan sized fits births low step found b knows may in record {
      born = birth_ticks.born p q clients gives w w' m plan sized fits births low step found b knows may made (fresh step found may);
      alive = birth_ticks.alive p q clients gives w w' m plan sized fits births low step found b knows may made (fresh step found may);
      apart = birth_ticks.apart p q clients gives w w' m plan sized fits births low step found b knows may made (fresh step found may);
      homes = birth_ticks.homes p q clients gives w w' m plan sized fits births low step found b knows may made (fresh step found may) (home_before p q clients gives w w' m plan sized fits births low step found b knows may);
      errors = errors.errors p q clients gives w w' m plan sized fits births is_later step found b knows shows;
      attempts = attempts_still p q clients gives w w' m plan sized fits births low step found b knows may made (fresh step found may);
      few = few_still p q clients gives w w' m plan sized fits births low step found b knows may made (fresh step found may);
      advanced = advanced_still p q clients gives w w' m plan sized fits births low step found b knows may made (fresh step found may);
      ats = ats_still p q clients gives w w' m plan sized fits births low step found b knows may;
      unmade = unmade_still p q clients gives w w' m plan sized fits births low step found b knows may made (fresh step found may);
      codes = λ i inside some_. subst (λ ws. IsOther p q clients gives (get_or ws (code_index i) 0)) (sym same) (births.codes i inside (subst (λ ws. get_or ws (code_index i) 0 ≢ 0) same some_));
    }

    pub is_moved : Moves p q clients gives w' m step found (mark_after p q clients gives step found m)
    is_moved = moves p q clients gives w w' ms w.core.outcomes w.sayings j m plan sized fits births low at tasks claims reads is_later step found b knows may

    pub new_tasks : TasksLaw p q clients gives w' w.core.outcomes w.sayings (set ms j (mark_after p q clients gives step found m))
    new_tasks = changed p q clients gives numbered w w' births w.core.outcomes w.sayings ms tasks j m at is_later (mark_after p q clients gives step found m)
        (changes p q clients gives numbered w w' births w.core.outcomes w.sayings ms tasks j m at is_later plan sized fits low step found b knows may)

    pub new_slots : SlotsLaw q w' (set ms j (mark_after p q clients gives step found m))
    new_slots = slots_after p q clients gives w w' ms j m plan sized slots at step found b knows may

  -- ## The tick

  module _ (next : Found step → Program) (says : SaysOn p q clients gives w m (Aside step next)) (ws : List Retry) (few : AreFewTries ws) (keeps : KeepsFew (next found)) (told : w'.core.outcomes ≡ said (resolved ws (next found)) w.core.outcomes) (sayings : w'.sayings ≡ sayings_of (resolved ws (next found)) w.sayings) where
    abbrev moved : Mark
    moved = mark_after p q clients gives step found m

    all_said : SaidBy w' (resolved ws (next found))
    all_said = said_all w' (next found) ws w.sayings (λ s there. subst (In s) (sym sayings) there) (λ a b there. subst (IsOver a b) (sym sayings) there)

    -- the scene is as late as itself
    here : Later p q clients gives w' w'
    here = here_later p q clients gives w' room (is_later says.0).apart

    goes_on : Shows p q clients gives w' step found × SaysOn p q clients gives w' (mark_after p q clients gives step found m) (next found)
    goes_on = says.1 found w' (mark_after p q clients gives step found m) (is_later says.0) (said_first w' ws (next found) all_said) (is_moved says.0)

    -- the laws behind the tick, with the mark that is left once all is said
    pub record AfterTick : Type 0 where
      pub mark : Mark
      pub kept : IsKept p q clients gives (mark_after p q clients gives step found m) mark
      pub slots_law : SlotsLaw q w' (set ms j (mark_after p q clients gives step found m))
      pub births_law : BirthsLaw p q clients gives w'
      pub tasks_law : TasksLaw p q clients gives w' w'.core.outcomes w'.sayings (set ms j mark)
      pub says_on : SaysOn p q clients gives w' mark (next_step (resolved ws (next found)))

    pub aside_ticks : AfterTick
    aside_ticks =
        let law = new_births says.0 goes_on.0 in
        let m1 : Mark = mark_after p q clients gives step found m in
        let r = chain p q clients gives numbered w' law here j (next found) ws w.core.outcomes w.sayings (set ms j m1) m1 (put_at ms j m m1 at) (new_tasks says.0) goes_on.1 few keeps all_said in record {
          mark = r.0;
          kept = r.1;
          slots_law = new_slots says.0;
          births_law = law;
          tasks_law = subst (λ os. TasksLaw p q clients gives w' os w'.sayings (set ms j r.0)) (sym told)
              (subst (λ ss. TasksLaw p q clients gives w' (said (resolved ws (next found)) w.core.outcomes) ss (set ms j r.0)) (sym sayings)
              (subst (TasksLaw p q clients gives w' (said (resolved ws (next found)) w.core.outcomes) (sayings_of (resolved ws (next found)) w.sayings)) (set_twice ms j m1 r.0) r.2));
          says_on = r.3;
        }
