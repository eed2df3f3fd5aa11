-- The laws of the tasks hold behind a step aside, which says nothing.
use Rattle.std.proofs.Common.{◌≡◌, ◌≢◌, ℕ, ◌<◌, ◌≤◌, ◌⊎◌, inl, inr, ⊎_elim, List, [], ◌∷◌, get_or, set, Option, sym, ap, ◌∙◌, arith}
use Rattle.atomic_table.proofs.Lists.{at_set}
use Rattle.sock_words.specs.declared.plain.Plan.{Plan}
use Rattle.sock_words.specs.declared.outcome.Outcome.{Outcome}
use Rattle.corr_core.specs.declared.marks.Plan.{Plan as IdPlan}
use Rattle.seat_programs.specs.id_rule.specs.LawfulIdTable.{call_index}
use Rattle.seat_programs.specs.declared.task.Op.TheVariants as ops
use Rattle.seat_programs.specs.declared.task.Task.{Task}
use Rattle.story_steps.specs.call_stories.specs.Scenes.{Birth, Saying, Scene, Begun, AreTold, Later}
use Rattle.story_steps.specs.call_stories.specs.Says.{Mark}
use Rattle.story_steps.specs.call_stories.specs.CallStories.{At, HasPassed, IsCurrent, BirthsLaw, undo, ahead, IsUntold, IsBegunBy, IsOwed, AreQuiet, TasksLaw}
use Rattle.story_steps.specs.call_stories.proofs.LastingCallStories.{own_on, are_told_on, ended_on}
use Rattle.story_steps.proofs.NumberedTasks.{AreNumbered}
use Rattle.story_ticks.proofs.SayingKeepsStory.{put_at, at_either, still_at}
use Rattle.story_steps.specs.call_stories.specs.Below.outcome_stories.specs.OperationStories.{In}

module _ (p : Plan) (q : IdPlan) (clients : List (List Task)) (gives : ℕ → List ℕ) (numbered : AreNumbered p q clients gives) (w w' : Scene) (births : BirthsLaw p q clients gives w) (os : List (Option Outcome)) (ss : List Saying) (ms : List Mark) (law : TasksLaw p q clients gives w os ss ms) (j : ℕ) (m : Mark) (at : At ms j m) (l : Later p q clients gives w w') where
  pub quiet_on : (c : ℕ) (ts : List Task) → AreQuiet p q clients gives w os c ts → AreQuiet p q clients gives w' os c ts
  quiet_on c [] all = tt
  quiet_on c (t ∷ ts) all = (λ n bytes op. ⊎_elim (λ none_. inl none_) (λ x. inr (x.0, l.said t.number x.0 x.1, own_on p q clients gives w w' l c ts t.op x.0 x.2)) (all.0 n bytes op), quiet_on c ts all.1)

  -- an id that was just made, of whose call nothing is said
  pub record IsNew (m' : Mark) (c : Birth) : Type 0 where
    pub task : Task
    pub begun : IsBegunBy p q clients gives m' c task
    pub untold : IsUntold p q clients gives os c.asked.operation
    pub now : IsCurrent w' c
    pub range : 2 ≤ c.asked.range

  -- a call whose word was just stored
  pub record IsStored (m' : Mark) (o : ℕ) : Type 0 where
    pub birth : Birth
    pub there : In birth w'.births
    pub id : birth.id ≡ get_or w'.core.calls.words (call_index q o) 0
    pub operation : birth.asked.operation ≡ o
    pub task : Task
    pub done : In task m'.done
    pub op : task.op ≡ ops.Call birth.asked
    pub number : task.number ≡ o

  -- what a step of the seat makes of its mark, and of the ids
  pub record Change (m' : Mark) : Type 0 where
    pub client : m'.client ≡ m.client
    pub placed : undo p q clients gives m'.done m'.todo ≡ undo p q clients gives m.done m.todo
    pub told : AreTold p q clients gives w' m'.client m'.done
    pub quiet : AreQuiet p q clients gives w' os m'.client m'.done
    pub done : (t : Task) → In t m.done → In t m'.done
    pub begun : (c : Birth) (u : Task) → In c w.births → IsBegunBy p q clients gives m c u → IsBegunBy p q clients gives m' c u
    pub born : (c : Birth) → In c w'.births → In c w.births ⊎ IsNew m' c
    pub made : (c : Birth) → m'.makes ≡ c ∷ [] → In c w'.births
    pub called : (o : ℕ) → o < q.operations → Begun p q clients gives w' o → (Begun p q clients gives w o × (get_or w'.core.calls.words (call_index q o) 0 ≡ get_or w.core.calls.words (call_index q o) 0)) ⊎ IsStored m' o
    pub fresh : (u : Task) → In u (ahead p q clients gives m'.makes m'.todo) → In u (ahead p q clients gives m.makes m.todo)
    pub owes : (c : Birth) → m'.owes ≡ c ∷ [] → (m.owes ≡ c ∷ []) ⊎ (In c w.births × IsCurrent w c × HasPassed w' c)
    pub owed_still : (c : Birth) → m.owes ≡ c ∷ [] → m'.owes ≡ c ∷ []
    pub passed : (c : Birth) → In c w.births → HasPassed w' c → HasPassed w c ⊎ (m'.owes ≡ c ∷ [])
    pub current : (c : Birth) → In c w.births → IsCurrent w' c → IsCurrent w c
    pub passed_on : (c : Birth) → In c w.births → HasPassed w c → HasPassed w' c

  module _ (m' : Mark) (ch : Change m') where
    either : (P : ℕ → Mark → Type 0) → P j m' → ((k : ℕ) (n : Mark) → k ≢ j → At ms k n → P k n) → (k : ℕ) (n : Mark) → At (set ms j m') k n → P k n
    either P own other = at_either p q clients gives numbered w births os ss ms law j m at P m' own other

    still : (P : Mark → Type 0) → (P m → P m') → (k : ℕ) (n : Mark) → At ms k n → P n → (n' : Mark) × At (set ms j m') k n' × P n'
    still P own = still_at p q clients gives numbered w births os ss ms law j m at m' P own

    -- what has passed isn't current
    not_both : (c : Birth) → In c w.births → IsCurrent w c → HasPassed w c → ⊥
    not_both c there now over = let two = (births.born c there).1 in let one = now.0 in omega (arith, one, over, two)

    still_there : (c : Birth) → In c w.births → In c w'.births
    still_there c there = l.born c.id c.asked there

    untold_old : (c : Birth) → In c w.births → IsCurrent w' c ⊎ IsOwed p q clients gives (set ms j m') c → IsUntold p q clients gives os c.asked.operation
    untold_old c there (inl now) = law.untold c there (inl (ch.current c there now))
    untold_old c there (inr owed) = ⊎_elim
        (λ x. ⊎_elim (λ y. law.untold c there (inr (j, m, at, y))) (λ y. law.untold c there (inl y.1)) (ch.owes c (ap (λ (z : Mark). z.owes) x.1 ∙ owed.3)))
        (λ x. law.untold c there (inr (owed.0, owed.1, x.1, owed.3))) (at_set ms j owed.0 m' owed.1 owed.2)

    ended_old : (c : Birth) → In c w.births → HasPassed w' c → ((x : Outcome) × In (record { number = c.asked.operation; outcome = x }) w'.sayings × Rattle.story_steps.specs.call_stories.specs.Scenes.WhyEnded p q clients gives w' c x) ⊎ IsOwed p q clients gives (set ms j m') c
    ended_old c there over = ⊎_elim
        (λ before. ⊎_elim (λ x. inl (x.0, l.said c.asked.operation x.0 x.1, ended_on p q clients gives w w' l c x.0 x.2)) (λ x. let y = still (λ n. n.owes ≡ c ∷ []) (ch.owed_still c) x.0 x.1 x.2 x.3 in inr (x.0, y.0, y.1, y.2)) (law.ended c there before))
        (λ owes. inr (j, m', put_at ms j m m' at, owes)) (ch.passed c there over)

    once : (k i : ℕ) (x y : Mark) (c : Birth) → At (set ms j m') k x → At (set ms j m') i y → x.owes ≡ c ∷ [] → y.owes ≡ c ∷ [] → k ≡ i
    once k i x y c e f is now = ⊎_elim
        (λ a. ⊎_elim (λ b. a.0 ∙ sym b.0) (λ b. a.0 ∙ beside i y b.1 now (ap (λ (z : Mark). z.owes) a.1 ∙ is)) (at_set ms j i m' y f))
        (λ a. ⊎_elim (λ b. sym (b.0 ∙ beside k x a.1 is (ap (λ (z : Mark). z.owes) b.1 ∙ now))) (λ b. law.owed_once k i x y c a.1 b.1 is now) (at_set ms j i m' y f)) (at_set ms j k m' x e)
      where
        beside : (i : ℕ) (y : Mark) → At ms i y → y.owes ≡ c ∷ [] → m'.owes ≡ c ∷ [] → j ≡ i
        beside i y there now own = ⊎_elim (λ z. law.owed_once j i m y c at there z now) (λ z. absurd (not_both c z.0 z.1 (law.owed i y c there now).1)) (ch.owes c own)

    pub changed : TasksLaw p q clients gives w' os ss (set ms j m')
    changed = record {
      once = law.once;
      client = either (λ k n. n.client ≡ k) (ch.client ∙ law.client j m at) (λ k n ne there. law.client k n there);
      placed = either (λ k n. undo p q clients gives n.done n.todo ≡ get_or clients k []) (ch.placed ∙ law.placed j m at) (λ k n ne there. law.placed k n there);
      told = either (λ k n. AreTold p q clients gives w' n.client n.done) ch.told (λ k n ne there. are_told_on p q clients gives w w' l n.client n.done (law.told k n there));
      quiet = either (λ k n. AreQuiet p q clients gives w' os n.client n.done) ch.quiet (λ k n ne there. quiet_on n.client n.done (law.quiet k n there));
      begun = λ c there. ⊎_elim (λ old. let x = law.begun c old in let y = still (λ n. IsBegunBy p q clients gives n c x.2) (ch.begun c x.2 old) x.0 x.1 x.3 x.4 in (x.0, y.0, x.2, y.1, y.2)) (λ new. (j, m', new.task, put_at ms j m m' at, new.begun)) (ch.born c there);
      made = λ k n c there is. either (λ k n. (c : Birth) → n.makes ≡ c ∷ [] → In c w'.births) ch.made (λ k n ne there c is. still_there c (law.made k n c there is)) k n there c is;
      called = λ o inside begun. ⊎_elim
          (λ old. let x = law.called o inside old.0 in let y = still (λ n. In x.6 n.done) (ch.done x.6) x.4 x.5 x.7 x.8 in (x.0, still_there x.0 x.1, x.2 ∙ sym old.1, x.3, x.4, y.0, x.6, y.1, y.2, x.9, x.10))
          (λ new. (new.birth, new.there, new.id, new.operation, j, m', new.task, put_at ms j m m' at, new.done, new.op, new.number)) (ch.called o inside begun);
      said = law.said;
      outcomes = law.outcomes;
      fresh = λ k n u there. either (λ k n. In u (ahead p q clients gives n.makes n.todo) → IsUntold p q clients gives os u.number) (λ x. law.fresh j m u at (ch.fresh u x)) (λ k n ne there x. law.fresh k n u there x) k n there;
      untold = λ c there x. ⊎_elim (λ old. untold_old c old x) (λ new. new.untold) (ch.born c there);
      ended = λ c there over. ⊎_elim (λ old. ended_old c old over) (λ new. absurd (let one = new.now.0 in let two = new.range in omega (arith, one, two, over))) (ch.born c there);
      owed = λ k n c there is. either (λ k n. (c : Birth) → n.owes ≡ c ∷ [] → In c w'.births × HasPassed w' c)
          (λ c is. ⊎_elim (λ y. let z = law.owed j m c at y in (still_there c z.0, ch.passed_on c z.0 z.1)) (λ y. (still_there c y.0, y.2)) (ch.owes c is))
          (λ k n ne there c is. let z = law.owed k n c there is in (still_there c z.0, ch.passed_on c z.0 z.1)) k n there c is;
      owed_once = once;
    }
