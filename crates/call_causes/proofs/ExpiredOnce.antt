-- Where a run has ended: an `expire` ended a call once at most, since it said the call's outcome itself, and nothing is said twice of a call.
use Rattle.std.proofs.Common.{◌≡◌, ℕ, inl, inr, List, [], ◌∷◌, get_or, refl, sym, ap, ◌∙◌, subst}
use Rattle.sock_words.specs.declared.plain.Plan.{Plan}
use Rattle.sock_words.specs.declared.outcome.Outcome.TheVariants as outcomes
use Rattle.corr_core.specs.declared.marks.Plan.{Plan as IdPlan}
use Rattle.seat_programs.specs.declared.task.Op.TheVariants as ops
use Rattle.seat_programs.specs.declared.task.Task.{Task}
use Rattle.seat_programs.specs.Explained.{IsTask, Became}
use Rattle.story_ticks.specs.call_stories.specs.Scenes.{Saying, Scene, IsFirst, IsOver, IsJust, ToldOf, was_said, was_sent, was_begun}
use Rattle.story_ticks.specs.call_stories.specs.Says.{Mark}
use Rattle.story_ticks.specs.call_stories.specs.CallStories.{AreOnce}
use Rattle.story_ticks.specs.story_steps.proofs.StoryAtRunEnd.{HasEnded, one_outcome}
use Rattle.story_ticks.specs.story_steps.proofs.ExpireAndJoinWhys.{AreAscending, is_done}
use Rattle.story_ticks.specs.Below.outcome_stories.specs.OperationStories.{In}

module _ (p : Plan) (q : IdPlan) (clients : List (List Task)) (gives : ℕ → List ℕ) where
  first_in : (y : Saying) (ss : List Saying) → IsFirst y ss → In y ss
  first_in y [] is = absurd is
  first_in y (z ∷ zs) is = inl (sym is)

  -- the one below is in the list
  below : (x y : Saying) (ss : List Saying) → IsOver x y ss → In y ss
  below x y [] there = absurd there
  below x y (s ∷ ss) (inl here) = inr (first_in y ss here.1)
  below x y (s ∷ ss) (inr there) = inr (below x y ss there)

  -- no other of its number is behind the first
  not_behind : (x y z : Saying) (ss : List Saying) → AreOnce p q clients gives ss → IsFirst y ss → IsOver x z ss → y.number ≡ z.number → ⊥
  not_behind x y z [] once first over same = first
  not_behind x y z (s ∷ ss) once first (inl here) same = once.0 z.outcome (subst (λ n. In (record { number = n; outcome = z.outcome }) ss) (sym same ∙ sym (ap (λ (v : Saying). v.number) first)) (first_in z ss here.1))
  not_behind x y z (s ∷ ss) once first (inr there) same = once.0 z.outcome (subst (λ n. In (record { number = n; outcome = z.outcome }) ss) (sym same ∙ sym (ap (λ (v : Saying). v.number) first)) (below x z ss there))

  -- where both are said directly behind what was said of one operation, they are the same
  one_over : (a b x y : Saying) (ss : List Saying) → AreOnce p q clients gives ss → IsOver a x ss → IsOver b y ss → x.number ≡ y.number → a ≡ b
  one_over a b x y [] once over also same = absurd over
  one_over a b x y (s ∷ ss) once (inl here) (inl there) same = sym here.0 ∙ there.0
  one_over a b x y (s ∷ ss) once (inl here) (inr there) same = absurd (not_behind b x y ss once.1 here.1 there same)
  one_over a b x y (s ∷ ss) once (inr here) (inl there) same = absurd (not_behind a y x ss once.1 there.1 here (sym same))
  one_over a b x y (s ∷ ss) once (inr here) (inr there) same = one_over a b x y ss once.1 here there same

  module _ (ascending : (c : ℕ) → AreAscending (get_or clients c [])) (w : Scene) (ms : List Mark) (e : HasEnded p q clients gives w ms) where
    -- an `expire` of operation o that ended it
    ends_it : (c : ℕ) (t : Task) (o : ℕ) → IsTask clients w.core.outcomes c t → t.op ≡ ops.Expire o → Became clients w.core.outcomes t.number outcomes.Expired → (id : ℕ) × IsOver (record { number = t.number; outcome = outcomes.Expired }) (record { number = o; outcome = outcomes.CallFailed id 1008 }) w.sayings
    ends_it c t o is op has = let d = is_done p q clients gives ascending w ms e c t is in by_told d.before d.told
      where
        by_told : (before : List Task) → ToldOf p q clients gives w c before t → (id : ℕ) × IsOver (record { number = t.number; outcome = outcomes.Expired }) (record { number = o; outcome = outcomes.CallFailed id 1008 }) w.sayings
        by_told before (was_said y s why just) =
            let j = subst (IsJust p q clients gives w t.number t.op) (one_outcome p q clients gives w ms e t.number y outcomes.Expired (e.tasks.said t.number y s) has) just in
            let same : ops.Expire j.0 ≡ ops.Expire o = sym j.2 ∙ op in let number : j.0 ≡ o = cc in
            (j.1, subst (λ n. IsOver (record { number = t.number; outcome = outcomes.Expired }) (record { number = n; outcome = outcomes.CallFailed j.1 1008 }) w.sayings) number j.3)
        by_told before (was_sent n bytes sent named) = absurd (let z : ops.Send n bytes ≡ ops.Expire o = sym sent ∙ op in cc)
        by_told before (was_begun id a call own born begun named) = absurd (let z : ops.Call a ≡ ops.Expire o = sym call ∙ op in cc)

    pub expired_once : (c d : ℕ) (t u : Task) (o : ℕ) → IsTask clients w.core.outcomes c t → IsTask clients w.core.outcomes d u → t.op ≡ ops.Expire o → u.op ≡ ops.Expire o → Became clients w.core.outcomes t.number outcomes.Expired → Became clients w.core.outcomes u.number outcomes.Expired → t.number ≡ u.number
    expired_once c d t u o is_t is_u op_t op_u has_t has_u =
        let x = ends_it c t o is_t op_t has_t in let y = ends_it d u o is_u op_u has_u in
        ap (λ (s : Saying). s.number) (one_over (record { number = t.number; outcome = outcomes.Expired }) (record { number = u.number; outcome = outcomes.Expired }) (record { number = o; outcome = outcomes.CallFailed x.0 1008 }) (record { number = o; outcome = outcomes.CallFailed y.0 1008 }) w.sayings e.tasks.once x.1 y.1 refl)
