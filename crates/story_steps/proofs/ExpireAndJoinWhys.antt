-- Where a run has ended: why each `expire` and `join` has its outcome, and each call that found no socket, was answered, or was ended by an `expire` or a compressed response.
use Rattle.std.proofs.Common.{◌≡◌, ℕ, ◌+◌, ◌<◌, ◌⊎◌, inl, inr, ⊎_elim, List, [], ◌∷◌, get_or, Contains, refl, sym, ap, ◌∙◌, subst, arith}
use Rattle.std.specs.List.{AllByRecursion}
use Rattle.sock_words.specs.declared.plain.Plan.{Plan}
use Rattle.sock_words.specs.declared.outcome.Outcome.{Outcome}
use Rattle.sock_words.specs.declared.outcome.Outcome.TheVariants as outcomes
use Rattle.corr_core.specs.declared.marks.Plan.{Plan as IdPlan}
use Rattle.sock_message.specs.Asked.{Asked}
use Rattle.seat_programs.specs.declared.task.Op.{Op}
use Rattle.seat_programs.specs.declared.task.Op.TheVariants as ops
use Rattle.seat_programs.specs.declared.task.Task.{Task}
use Rattle.seat_programs.specs.Explained.{IsTask, Became}
use Rattle.seat_programs.specs.ExplainedCalls.{Fixed, Order, HasBegun, MayNotHaveBegun, WhyJoin, WhyExpire}
use Rattle.call_stories.specs.LinkReadingLists.{gave_in}
use Rattle.call_stories.specs.Scenes.{Scene, IsErrorCode, WhyEnded, WhyOwn, HasBegunIn, HasNotBegunIn, ToldOf, was_said, was_sent, was_begun, AreTold}
use Rattle.call_stories.specs.Says.{Mark}
use Rattle.call_stories.specs.CallStories.{undo, QuietOf, AreQuiet}
use Rattle.story_steps.proofs.BirthTicks.{in_all}
use Rattle.story_steps.proofs.StoryAtRunEnd.{HasEnded, ended_call, one_outcome, contains_in, listed_or, undo_done}
use Rattle.seat_programs.specs.brpc_model.specs.Why.{IsPosted}
use Rattle.call_stories.specs.Below.outcome_stories.specs.OperationStories.{In}

-- tasks stand in the order of their numbers
abbrev pub AreAscending : List Task → Type 0
AreAscending [] = Unit {0}
AreAscending (t ∷ ts) = AllByRecursion (λ (u : Task). t.number < u.number) ts × AreAscending ts

pub in_contains : {A : Type 0} (xs : List A) (x : A) → In x xs → Contains xs x
in_contains [] x there = absurd there
in_contains (y ∷ ys) x (inl same) = (0, omega arith, sym same)
in_contains (y ∷ ys) x (inr there) = let r = in_contains ys x there in (r.0 + 1, (let z = r.1 in omega (arith, z)), subst (λ n. Rattle.std.specs.Prelude.slice_index_or (y ∷ ys) n x ≡ x) (let z : Rattle.std.proofs.Common.suc r.0 ≡ r.0 + 1 = omega arith in z) r.2)

module _ (p : Plan) (q : IdPlan) (clients : List (List Task)) (gives : ℕ → List ℕ) (ascending : (c : ℕ) → AreAscending (get_or clients c [])) where
  pub ascending_undo : (done todo : List Task) → AreAscending (undo p q clients gives done todo) → AreAscending todo × ((d t : Task) → In d done → In t todo → d.number < t.number)
  ascending_undo [] todo all = (all, λ d t there here. absurd there)
  ascending_undo (e ∷ done) todo all = let r = ascending_undo done (e ∷ todo) all in (r.0.1, λ d t there here. by_place d t there here r.0.0 r.1)
    where
      by_place : (d t : Task) → In d (e ∷ done) → In t todo → AllByRecursion (λ (u : Task). e.number < u.number) todo → ((d t : Task) → In d done → In t (e ∷ todo) → d.number < t.number) → d.number < t.number
      by_place d t (inl same) here first rest = subst (λ (x : Task). x.number < t.number) (sym same) (in_all (λ (u : Task). e.number < u.number) todo first t here)
      by_place d t (inr there) here first rest = rest d t there (inr here)

  module _ (w : Scene) (ms : List Mark) (e : HasEnded p q clients gives w ms) where
    -- a task that is done, with those before it
    pub record IsDone (c : ℕ) (t : Task) : Type 0 where
      pub before : List Task
      pub told : ToldOf p q clients gives w c before t
      pub quiet : QuietOf p q clients gives w w.core.outcomes c before t
      pub less : (d : Task) → In d before → d.number < t.number
      pub all : (d : Task) → IsTask clients w.core.outcomes c d → d.number < t.number → In d before

    -- among these, of which those of `rest` come later
    find : (c : ℕ) (done rest : List Task) (t : Task) → AreAscending (undo p q clients gives done rest) → AreTold p q clients gives w c done → AreQuiet p q clients gives w w.core.outcomes c done → In t done → ((d : Task) → IsTask clients w.core.outcomes c d → In d done ⊎ In d rest) → IsDone c t
    find c [] rest t sorted told quiet there all = absurd there
    find c (u ∷ us) rest t sorted told quiet (inr there) all = find c us (u ∷ rest) t sorted told.1 quiet.1 there (λ d is. ⊎_elim (λ x. ⊎_elim (λ same. inr (inl same)) (λ y. inl y) x) (λ y. inr (inr y)) (all d is))
    find c (u ∷ us) rest t sorted told quiet (inl same) all = let order = ascending_undo us (u ∷ rest) sorted in record {
      before = us;
      told = subst (ToldOf p q clients gives w c us) (sym same) told.0;
      quiet = subst (QuietOf p q clients gives w w.core.outcomes c us) (sym same) quiet.0;
      less = λ d there. subst (λ (x : Task). d.number < x.number) (sym same) (order.1 d u there (inl refl));
      all = λ d is low. ⊎_elim (λ x. ⊎_elim (λ s. absurd (let z : d.number ≡ t.number = ap (λ (y : Task). y.number) (s ∙ sym same) in omega (arith, z, low))) (λ y. y) x)
          (λ y. absurd (let z = in_all (λ (v : Task). u.number < v.number) rest order.0.0 d y in let k : u.number ≡ t.number = ap (λ (v : Task). v.number) (sym same) in omega (arith, z, k, low))) (all d is);
    }

    pub is_done : (c : ℕ) (t : Task) → IsTask clients w.core.outcomes c t → IsDone c t
    is_done c t is =
        let s = e.seated c is.0 is.1 in
        let n : Mark = s.0 in
        let tasks_are : undo p q clients gives s.0.done s.0.todo ≡ is.0 = e.tasks.placed c s.0 s.1 ∙ listed_or clients c is.0 is.1 in
        let place : (d : Task) → IsTask clients w.core.outcomes c d → In d s.0.done ⊎ In d s.0.todo = λ d x. undo_done p q clients gives s.0.done s.0.todo d (subst (In d) (sym (e.tasks.placed c s.0 s.1 ∙ listed_or clients c x.0 x.1)) (contains_in x.0 d x.2.0 x.2.1 x.2.2)) in
        find c s.0.done s.0.todo t (subst AreAscending (sym (e.tasks.placed c s.0 s.1)) (ascending c)) (subst (λ k. AreTold p q clients gives w k s.0.done) (e.tasks.client c s.0 s.1) (e.tasks.told c s.0 s.1)) (subst (λ k. AreQuiet p q clients gives w w.core.outcomes k s.0.done) (e.tasks.client c s.0 s.1) (e.tasks.quiet c s.0 s.1))
        (⊎_elim (λ x. x) (λ x. absurd (subst (In t) (e.idle c s.0 s.1).0 x)) (place t is)) place

    -- ## What is said of another call

    module _ (fixed : Fixed) (orders : ℕ → Order) where
      has_begun : (c : ℕ) (t : Task) (o : ℕ) (d : IsDone c t) → HasBegunIn p q clients gives w c d.before o → HasBegun p clients w.core.outcomes fixed (gave_in w.core) orders c t.number o
      has_begun c t o d h = (
        h.0,
        h.1,
        (h.4.0, h.4.1, in_contains h.4.0 h.1 h.4.2),
        h.6,
        (λ none_. let x = ended_call p q clients gives w ms e (record { id = h.2; asked = h.3 }) h.8 in
            let same = one_outcome p q clients gives w ms e o x.0 outcomes.Unopened (subst (λ n. Became clients w.core.outcomes n x.0) h.7 x.1) none_ in
            subst (WhyEnded p q clients gives w (record { id = h.2; asked = h.3 })) same x.2),
        (λ same. subst (λ n. n < t.number) h.6 (d.less h.1 (h.9 same))),
      )

      not_begun : (c : ℕ) (t : Task) (o : ℕ) (d : IsDone c t) → HasNotBegunIn p q clients gives w d.before o → MayNotHaveBegun p clients w.core.outcomes fixed (gave_in w.core) orders c t.number o
      not_begun c t o d h = λ task is number low. e.tasks.said o outcomes.Unopened (h task (d.all task is (subst (λ n. n < t.number) (sym number) low)) number)

      -- ## Causes

      pub posted : (code : ℕ) → IsErrorCode p q clients gives code → IsPosted code
      posted code (inl is) = inl (in_contains (1008 ∷ 1009 ∷ 1014 ∷ 2002 ∷ 3001 ∷ []) code (inl is))
      posted code (inr (inl is)) = inl (in_contains (1008 ∷ 1009 ∷ 1014 ∷ 2002 ∷ 3001 ∷ []) code (inr (inl is)))
      posted code (inr (inr (inl is))) = inl (in_contains (1008 ∷ 1009 ∷ 1014 ∷ 2002 ∷ 3001 ∷ []) code (inr (inr (inl is))))
      posted code (inr (inr (inr (inl is)))) = inl (in_contains (1008 ∷ 1009 ∷ 1014 ∷ 2002 ∷ 3001 ∷ []) code (inr (inr (inr (inl is.0)))))
      posted code (inr (inr (inr (inr (inl is))))) = inl (in_contains (1008 ∷ 1009 ∷ 1014 ∷ 2002 ∷ 3001 ∷ []) code (inr (inr (inr (inr (inl is))))))
      posted code (inr (inr (inr (inr (inr is))))) = inr (is.0, is.1)

      module _ (last : ℕ → ℕ) (c : ℕ) (t : Task) (is : IsTask clients w.core.outcomes c t) where
        join_by : (o : ℕ) (d : IsDone c t) (x : Outcome) → WhyOwn p q clients gives w c d.before (ops.Join o) x → WhyJoin p clients w.core.outcomes fixed (gave_in w.core) orders last c t.number o x
        join_by o d outcomes.Joined why = has_begun c t o d why
        join_by o d outcomes.NotBegun why = not_begun c t o d why
        join_by o d _ why = absurd why

        expire_by : (o : ℕ) (d : IsDone c t) (x : Outcome) → WhyOwn p q clients gives w c d.before (ops.Expire o) x → WhyExpire p clients w.core.outcomes fixed (gave_in w.core) orders last c t.number o x
        expire_by o d outcomes.Expired why = (why.0, e.tasks.said o (outcomes.CallFailed why.0 1008) why.1)
        expire_by o d outcomes.Queued why = has_begun c t o d why
        expire_by o d outcomes.Late why = has_begun c t o d why
        expire_by o d (outcomes.Crowded a b) why = (has_begun c t o d why.0, posted a why.1, posted b why.2)
        expire_by o d outcomes.NotBegun why = not_begun c t o d why
        expire_by o d _ why = absurd why

        -- why the task's own outcome is as it is, where the task sends nothing and begins no call
        own_why : (op : Op) (x : Outcome) → t.op ≡ op → ((n : ℕ) (bytes : List ℕ) → ops.Send n bytes ≡ op → ⊥) → ((a : Asked) → ops.Call a ≡ op → ⊥) → Became clients w.core.outcomes t.number x → (d : IsDone c t) × WhyOwn p q clients gives w c d.before op x
        own_why op x is_op sends calls_ has = let d = is_done c t is in (d, by_told d d.told)
          where
            by_told : (d : IsDone c t) → ToldOf p q clients gives w c d.before t → WhyOwn p q clients gives w c d.before op x
            by_told d (was_said y s why just) = subst (λ z. WhyOwn p q clients gives w c d.before z x) is_op (subst (WhyOwn p q clients gives w c d.before t.op) (one_outcome p q clients gives w ms e t.number y x (e.tasks.said t.number y s) has) why)
            by_told d (was_sent n bytes sent named) = absurd (sends n bytes (sym sent ∙ is_op))
            by_told d (was_begun id a call own born begun named) = absurd (calls_ a (sym call ∙ is_op))

        -- why each `join`, and each `expire`, has its outcome
        pub why_join : (o : ℕ) (x : Outcome) → t.op ≡ ops.Join o → Became clients w.core.outcomes t.number x → WhyJoin p clients w.core.outcomes fixed (gave_in w.core) orders last c t.number o x
        why_join o x op has = let r = own_why (ops.Join o) x op (λ n bytes z. cc) (λ a z. cc) has in join_by o r.0 x r.1

        pub why_expire : (o : ℕ) (x : Outcome) → t.op ≡ ops.Expire o → Became clients w.core.outcomes t.number x → WhyExpire p clients w.core.outcomes fixed (gave_in w.core) orders last c t.number o x
        why_expire o x op has = let r = own_why (ops.Expire o) x op (λ n bytes z. cc) (λ a z. cc) has in expire_by o r.0 x r.1
