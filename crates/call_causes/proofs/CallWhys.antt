-- Where a run has ended: why each call has its outcome, of a failed one as far as it is told without its sockets.
use Rattle.std.proofs.Common.{◌≡◌, ◌≢◌, ℕ, ◌+◌, ◌<◌, ◌⊎◌, inl, inr, ⊎_elim, ◌||◌, true, false, eqb, eqb-true, List, [], ◌∷◌, get_or, Option, None, Some, refl, sym, ap, ◌∙◌, subst, arith}
use Rattle.std.specs.Prelude.{pos}
use Rattle.sock_words.specs.declared.plain.Plan.{Plan}
use Rattle.sock_words.specs.declared.outcome.Outcome.{Outcome}
use Rattle.sock_words.specs.declared.outcome.Outcome.TheVariants as outcomes
use Rattle.sock_words.specs.ErrorCodes.{is_final}
use Rattle.seat_programs.specs.brpc_model.specs.Frame.{Frame}
use Rattle.seat_programs.specs.brpc_model.specs.LinkFailureCauses.{HasFault}
use Rattle.corr_core.specs.declared.marks.Plan.{Plan as IdPlan}
use Rattle.sock_message.specs.Asked.{Asked, name_of}
use Rattle.seat_programs.specs.declared.task.Op.{Op}
use Rattle.seat_programs.specs.declared.task.Op.TheVariants as ops
use Rattle.seat_programs.specs.declared.task.Task.{Task}
use Rattle.seat_programs.specs.Explained.{IsTask, Became, OpensNone}
use Rattle.seat_programs.specs.ExplainedCalls.{Fixed, Order, FoundNone, Seeks, IsExpiredWith}
use Rattle.story_ticks.specs.call_stories.specs.LinkReadingLists.{gave_in, times}
use Rattle.story_ticks.specs.call_stories.specs.Target.{IsOnCalls, FailedInPart, ByExpiry, ByCompression, ByFrameFault, ByFail, ByReading, BySocketOrRequests, WhyCallInPart, WhyInPart}
use Rattle.story_ticks.specs.call_stories.specs.Scenes.{Scene, IsOther, IsOpened, SeeksName, IsTaskOf, HasNoneOf, NoneFound, FailedIn, by_expiry, by_compression, by_other, WhyEnded, WhyOwn, ToldOf, was_said, was_sent, was_begun}
use Rattle.story_ticks.specs.call_stories.specs.Says.{Mark}
use Rattle.story_ticks.specs.call_stories.proofs.PostLoopCauses.{or_cases}
use Rattle.story_ticks.specs.story_steps.proofs.StoryAtRunEnd.{HasEnded, ended_call, one_outcome, call_of, answered, contains_in}
use Rattle.story_ticks.specs.story_steps.proofs.ExpireAndJoinWhys.{AreAscending, IsDone, is_done, in_contains, why_expire, why_join}
use Rattle.seat_programs.specs.brpc_model.specs.Why.{HasCode}
use Rattle.story_ticks.specs.Below.outcome_stories.specs.OperationStories.{In}

module _ (p : Plan) (q : IdPlan) (clients : List (List Task)) (gives : ℕ → List ℕ) (ascending : (c : ℕ) → AreAscending (get_or clients c [])) (w : Scene) (ms : List Mark) (e : HasEnded p q clients gives w ms) where
  -- where an operation found a name without a socket, those of its client before it found so too
  pub names_found_none : (c : ℕ) (t u : Task) (n : ℕ) → IsTask clients w.core.outcomes c t → IsTask clients w.core.outcomes c u → SeeksName n t.op → Became clients w.core.outcomes t.number outcomes.Unopened → u.number < t.number → SeeksName n u.op → Became clients w.core.outcomes u.number outcomes.Unopened
  names_found_none c t u n is us sought has low seeks = let d = is_done p q clients gives ascending w ms e c t is in by_told d d.told
    where
      by_own : (d : IsDone p q clients gives ascending w ms e c t) (op : Op) → SeeksName n op → WhyOwn p q clients gives w c d.before op outcomes.Unopened → NoneFound p q clients gives w d.before n
      by_own d (ops.Open m k) s why = absurd s
      by_own d (ops.Expire o) s why = absurd s
      by_own d (ops.Join o) s why = absurd s
      by_own d (ops.Drop m) s why = absurd s
      by_own d _ s why = subst (NoneFound p q clients gives w d.before) s why

      by_told : (d : IsDone p q clients gives ascending w ms e c t) → ToldOf p q clients gives w c d.before t → Became clients w.core.outcomes u.number outcomes.Unopened
      by_told d (was_said y s why just) = e.tasks.said u.number outcomes.Unopened (((by_own d t.op sought (subst (WhyOwn p q clients gives w c d.before t.op) (one_outcome p q clients gives w ms e t.number y outcomes.Unopened (e.tasks.said t.number y s) has) why)).own u (d.all u us low)).1 seeks)
      by_told d (was_sent m bytes sent named) = ⊎_elim
          (λ none_. absurd (let z : Some (Some outcomes.Unopened) ≡ Some None = sym has ∙ none_ in cc))
          (λ x. e.tasks.said u.number outcomes.Unopened (((by_own d t.op sought (subst (WhyOwn p q clients gives w c d.before t.op) (one_outcome p q clients gives w ms e t.number x.0 outcomes.Unopened (e.tasks.said t.number x.0 x.1) has) x.2)).own u (d.all u us low)).1 seeks))
          (d.quiet m bytes sent)
      by_told d (was_begun id a call own born begun named) = let x = ended_call p q clients gives w ms e (record { id = id; asked = a }) born in
          absurd (subst (WhyEnded p q clients gives w (record { id = id; asked = a })) (one_outcome p q clients gives w ms e a.operation x.0 outcomes.Unopened x.1 (subst (λ o. Became clients w.core.outcomes o outcomes.Unopened) own has)) x.2)

module _ (p : Plan) (q : IdPlan) (clients : List (List Task)) (gives : ℕ → List ℕ) (ascending : (c : ℕ) → AreAscending (get_or clients c [])) (w : Scene) (ms : List Mark) (e : HasEnded p q clients gives w ms) (fixed : Fixed) (orders : ℕ → Order) (as_given : (k : ℕ) → gave_in w.core k ≡ gives k) (last : ℕ → ℕ) (counts : (o : ℕ) → times o w.advances ≡ last o) where
  abbrev os : List (Option Outcome)
  os = w.core.outcomes

  is_task : (c : ℕ) (t : Task) → IsTask clients w.core.outcomes c t → IsTaskOf p q clients gives c t
  is_task c t is = (is.0, is.1, contains_in is.0 t is.2.0 is.2.1 is.2.2)

  opens_none : (n : ℕ) (t : Task) → HasNoneOf p q clients gives w n t → OpensNone clients w.core.outcomes n t
  opens_none n t h k slot version op became = let x = h k op in x.2 (subst IsOpened (one_outcome p q clients gives w ms e t.number (outcomes.Opened slot version k) x.0 became (e.tasks.said t.number x.0 x.1)) tt)

  seeks : (n : ℕ) (op : Op) → Seeks p clients w.core.outcomes fixed (gave_in w.core) orders n op → SeeksName n op
  seeks n (ops.Open m k) s = absurd s
  seeks n (ops.Expire t) s = absurd s
  seeks n (ops.Join t) s = absurd s
  seeks n (ops.Drop m) s = absurd s
  seeks n _ s = s

  found_none : (c : ℕ) (t : Task) (d : IsDone p q clients gives ascending w ms e c t) (n : ℕ) → NoneFound p q clients gives w d.before n → FoundNone p clients w.core.outcomes fixed (gave_in w.core) orders c t.number n
  found_none c t d n f = record {
    setup = λ u is. opens_none n u (f.setup u (is_task 0 u is));
    own = λ u is low. let x = f.own u (d.all u is low) in (opens_none n u x.0, (λ s. e.tasks.said u.number outcomes.Unopened (x.1 (seeks n u.op s))));
  }

  pub expired_with : (asked : Asked) (o : ℕ) (x : Outcome) (client : ℕ) (t : Task) → o ≡ asked.operation → IsTaskOf p q clients gives client t → t.op ≡ ops.Expire asked.operation → In (record { number = t.number; outcome = x }) w.sayings → IsExpiredWith p clients w.core.outcomes fixed (gave_in w.core) orders o x
  expired_with asked o x client t own is op said = (client, t, (is.0, is.1, in_contains is.0 t is.2), op ∙ ap (λ n. ops.Expire n) (sym own), e.tasks.said t.number x said)

  other_by : (asked : Asked) (o id code : ℕ) → o ≡ asked.operation → IsOther p q clients gives code → (is_final code ≡ true) ⊎ (last o + 2 ≡ asked.range) → FailedInPart p clients w.core.outcomes fixed (gave_in w.core) orders last o asked id code
  other_by asked o id code own other by_last = by_code other
    where
      -- a code that isn't final is that of the last attempt that might be
      used : (is_final code ≡ true → ⊥) → last o + 2 ≡ asked.range
      used open_ = ⊎_elim (λ final. absurd (open_ final)) (λ u. u) by_last

      not_final : (n : ℕ) → is_final n ≡ false → code ≡ n → is_final code ≡ true → ⊥
      not_final n open_ is final = let z : false ≡ true = sym open_ ∙ (ap is_final (sym is) ∙ final) in cc

      one_of : (n : ℕ) → is_final n ≡ true → (n ≡ 1008) ⊎ ((n ≡ 1014) ⊎ ((n ≡ 2001) ⊎ (n ≡ 2002)))
      one_of n final = ⊎_elim (λ a. inl (eqb-true n 1008 a)) (λ a. inr (⊎_elim (λ b. inl (eqb-true n 1014 b)) (λ b. inr (⊎_elim (λ c. inl (eqb-true n 2001 c)) (λ c. inr (eqb-true n 2002 c)) (or_cases (eqb n 2001) (eqb n 2002) b))) (or_cases (eqb n 1014) (eqb n 2001 || eqb n 2002) a))) (or_cases (eqb n 1008) (eqb n 1014 || (eqb n 2001 || eqb n 2002)) final)

      by_code : IsOther p q clients gives code → FailedInPart p clients w.core.outcomes fixed (gave_in w.core) orders last o asked id code
      by_code (inl is) = BySocketOrRequests (used (not_final 1009 refl is)) (in_contains (1009 ∷ 3001 ∷ []) code (inl is))
      by_code (inr (inl is)) = ByReading is
      by_code (inr (inr (inl is))) = ByFrameFault is.0 is.1.0 is.1.1 (subst HasFault (sym (as_given is.1.0)) is.1.2)
      by_code (inr (inr (inr (inl is)))) = BySocketOrRequests (used (not_final 3001 refl is)) (in_contains (1009 ∷ 3001 ∷ []) code (inr (inl is)))
      by_code (inr (inr (inr (inr is)))) = let low = is.0 in let high = is.1 in let f = is.2 in let t = f.3 in
          ByFail (used (λ final. ⊎_elim (λ a. omega (arith, low, a)) (⊎_elim (λ a. omega (arith, low, a)) (⊎_elim (λ a. omega (arith, high, a)) (λ a. omega (arith, high, a)))) (one_of code final))) is.0 is.1 f.0 f.1 f.2 (t.0, t.1, in_contains t.0 f.1 t.2) f.4

  failed_by : (asked : Asked) (o id code : ℕ) → o ≡ asked.operation → FailedIn p q clients gives w id asked code → FailedInPart p clients w.core.outcomes fixed (gave_in w.core) orders last o asked id code
  failed_by asked o id code own (by_expiry is x) = ByExpiry is (⊎_elim (λ s. inl (expired_with asked o outcomes.Expired x.0 x.1 own x.2 x.3 s)) (λ s. inr (expired_with asked o outcomes.Queued x.0 x.1 own x.2 x.3 s)) x.4)
  failed_by asked o id code own (by_compression is x) = ByCompression is (answered p q clients gives w ms e fixed orders id asked (λ frame. frame.meta.compress_type ≢ pos 0) x)
  failed_by asked o id code own (by_other n x there ended by_last on) = other_by asked o id code own x (⊎_elim (λ final. inl final) (λ u. inr (ap (λ k. k + 2) (ap last own ∙ (sym (counts asked.operation) ∙ ended.2)) ∙ u)) by_last)

  ended_by : (c o id : ℕ) (asked : Asked) (x : Outcome) → o ≡ asked.operation → WhyEnded p q clients gives w (record { id = id; asked = asked }) x → WhyCallInPart p clients w.core.outcomes fixed (gave_in w.core) orders last c o asked x
  ended_by c o id asked (outcomes.Answered i payload attachment) own why = subst (λ n. WhyCallInPart p clients w.core.outcomes fixed (gave_in w.core) orders last c o asked (outcomes.Answered n payload attachment)) (sym why.0)
      (answered p q clients gives w ms e fixed orders id asked (λ (frame : Frame). HasCode (pos 0) frame × (frame.payload ≡ payload) × (frame.attachment ≡ attachment)) why.1)
  ended_by c o id asked (outcomes.Peer i code) own why = subst (λ n. WhyCallInPart p clients w.core.outcomes fixed (gave_in w.core) orders last c o asked (outcomes.Peer n code)) (sym why.0) (answered p q clients gives w ms e fixed orders id asked (HasCode code) why.1, why.2)
  ended_by c o id asked (outcomes.CallFailed i code) own why = subst (λ n. FailedInPart p clients w.core.outcomes fixed (gave_in w.core) orders last o asked n code) (sym why.0) (failed_by asked o id code own why.1)
  ended_by c o id asked _ own why = absurd why

  own_by : (c : ℕ) (t : Task) (d : IsDone p q clients gives ascending w ms e c t) (asked : Asked) (x : Outcome) → WhyOwn p q clients gives w c d.before (ops.Call asked) x → WhyCallInPart p clients w.core.outcomes fixed (gave_in w.core) orders last c t.number asked x
  own_by c t d asked outcomes.Unopened why = found_none c t d (name_of asked 0) why
  own_by c t d asked _ why = absurd why

  -- why each call has its outcome
  pub why_call : (c : ℕ) (t : Task) (asked : Asked) (x : Outcome) → IsTask clients w.core.outcomes c t → t.op ≡ ops.Call asked → Became clients w.core.outcomes t.number x → WhyCallInPart p clients w.core.outcomes fixed (gave_in w.core) orders last c t.number asked x
  why_call c t asked x is op has = let d = is_done p q clients gives ascending w ms e c t is in by_told d d.told
    where
      by_told : (d : IsDone p q clients gives ascending w ms e c t) → ToldOf p q clients gives w c d.before t → WhyCallInPart p clients w.core.outcomes fixed (gave_in w.core) orders last c t.number asked x
      by_told d (was_said y s why just) = own_by c t d asked x (subst (λ o. WhyOwn p q clients gives w c d.before o x) op (subst (WhyOwn p q clients gives w c d.before t.op) (one_outcome p q clients gives w ms e t.number y x (e.tasks.said t.number y s) has) why))
      by_told d (was_sent n bytes sent named) = absurd (let z : ops.Send n bytes ≡ ops.Call asked = sym sent ∙ op in cc)
      by_told d (was_begun id a call own born begun named) = ⊎_elim
          (λ z. own_call z.0 z.1)
          (λ z. ended_by c t.number z.0 asked x z.3 z.2)
          (call_of p q clients gives w ms e c t asked x is op has)
        where
          -- of a call that had an id nothing else is said
          own_call : (before : List Task) → WhyOwn p q clients gives w c before (ops.Call asked) x → WhyCallInPart p clients w.core.outcomes fixed (gave_in w.core) orders last c t.number asked x
          own_call before why = by_outcome x why has
            where
              ends : (y : Outcome) × Became clients w.core.outcomes a.operation y × WhyEnded p q clients gives w (record { id = id; asked = a }) y
              ends = Rattle.story_ticks.specs.story_steps.proofs.StoryAtRunEnd.ended_call p q clients gives w ms e (record { id = id; asked = a }) born

              by_outcome : (y : Outcome) → WhyOwn p q clients gives w c before (ops.Call asked) y → Became clients w.core.outcomes t.number y → WhyCallInPart p clients w.core.outcomes fixed (gave_in w.core) orders last c t.number asked x
              by_outcome outcomes.Unopened why has = absurd (subst (WhyEnded p q clients gives w (record { id = id; asked = a })) (one_outcome p q clients gives w ms e a.operation ends.0 outcomes.Unopened ends.1 (subst (λ o. Became clients w.core.outcomes o outcomes.Unopened) own has)) ends.2)
              by_outcome _ why has = absurd why

  -- why each task on calls has its outcome
  pub why : (c : ℕ) (t : Task) (x : Outcome) → IsTask clients w.core.outcomes c t → IsOnCalls t.op → Became clients w.core.outcomes t.number x → WhyInPart p clients w.core.outcomes fixed (gave_in w.core) orders last c t.number t.op x
  why c t x is on has = by_op t.op refl on
    where
      by_op : (op : Op) → t.op ≡ op → IsOnCalls op → WhyInPart p clients w.core.outcomes fixed (gave_in w.core) orders last c t.number op x
      by_op (ops.Call asked) e on = why_call c t asked x is e has
      by_op (ops.Expire o) op on = why_expire p q clients gives ascending w ms e fixed orders last c t is o x op has
      by_op (ops.Join o) op on = why_join p q clients gives ascending w ms e fixed orders last c t is o x op has
      by_op _ op on = absurd on
