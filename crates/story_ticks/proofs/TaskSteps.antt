-- Each step aside changes its seat, the ids and the words of calls so that the laws of the tasks are kept.
use Rattle.std.proofs.Common.{◌≡◌, ◌≢◌, ℕ, ◌+◌, ◌<◌, ◌≤◌, ◌⊎◌, inl, inr, ⊎_elim, Bool, true, false, cond, eqb, List, [], ◌∷◌, ◌++◌, length, get_or, set, get_or-set_other, Option, None, refl, sym, ap, ◌∙◌, subst, arith}
use mathlib.Core.Logic.{dite}
use native.Mathlib.Decide.{ℕ_discrete}
use Rattle.sock_words.specs.declared.plain.Plan.{Plan}
use Rattle.sock_words.specs.declared.outcome.Outcome.{Outcome}
use Rattle.corr_core.specs.IdSlotWord.{Parts, parts, made_word, posted_word, unlocked_word, free_word}
use Rattle.corr_core.specs.declared.marks.Plan.{Plan as IdPlan}
use Rattle.seat_programs.specs.id_rule.specs.LawfulIdTable.{tag_index, id_index, call_index, at_index, all_words}
use Rattle.sock_message.specs.Asked.{Asked}
use Rattle.seat_programs.specs.declared.task.Op.TheVariants as ops
use Rattle.seat_programs.specs.declared.task.Task.{Task}
use Rattle.seat_programs.specs.Asides.{Step, ClaimId, PutCall, MakeId, StoreCall, StoreAt, LockId, PostId, UnlockId, EndId, FreeId, TakeCall, TakeBytes, Bytes, Found}
use Rattle.seat_programs.specs.Asides as asides
use Rattle.seat_programs.specs.PostPrograms.{packed}
use Rattle.story_steps.specs.call_stories.specs.Scenes.{Birth, Saying, Scene, AreTold, was_begun, Later}
use Rattle.story_steps.specs.call_stories.specs.Says.{shape_of, with_attempt, unlocked_by, Slot, NoSlot, Claims, Locked, Holds, Leaves, Mark, with_slot, with_owed, with_made, with_done, MayAside}
use Rattle.story_steps.specs.call_stories.specs.CallStories.{At, word_at, SlotFits, HasPassed, IsCurrent, BirthsLaw, undo, ahead, tasks_behind, IsUntold, AreQuiet, TasksLaw, IsBehind, KnowsStep, put_of, born_by, ended_of, stored_by, mark_after}
use Rattle.story_steps.specs.call_stories.proofs.LastingCallStories.{are_told_on}
use Rattle.story_steps.proofs.Births.{Turn, keeps, ends, makes, IsMake, IsEnd, turn, current_before, passed_still}
use Rattle.story_steps.proofs.BirthTicks.{two_of}
use Rattle.story_steps.proofs.LaterHappenings.{stored_is}
use Rattle.story_steps.proofs.NumberedTasks.{AreNumbered}
use Rattle.story_ticks.proofs.SayingKeepsStory.{in_ahead}
use Rattle.story_ticks.proofs.TaskTicks.{IsNew, Change, quiet_on}
use Rattle.story_steps.specs.call_stories.specs.Below.outcome_stories.specs.OperationStories.{In}
use Rattle.sock_words.specs.PackedWords.{call_id, id_slot, id_first, bit}

-- a step stores the word of this call
abbrev IsStore : Step → ℕ → Type 0
IsStore (StoreCall o id) k = o ≡ k
IsStore other k = ⊥

-- the mark is the same, but for its slot, its link and its bytes
abbrev pub IsLike : Mark → Mark → Type 0
IsLike m m' = m' ≡ record m { slot = m'.slot; link = m'.link; bytes = m'.bytes }

like_cond : (m x y : Mark) (b : Bool) → IsLike m x → IsLike m y → IsLike m (cond b x y)
like_cond m x y true a c = a
like_cond m x y false a c = c

module _ (p : Plan) (q : IdPlan) (clients : List (List Task)) (gives : ℕ → List ℕ) (numbered : AreNumbered p q clients gives) (w w' : Scene) (births : BirthsLaw p q clients gives w) (os : List (Option Outcome)) (ss : List Saying) (ms : List Mark) (law : TasksLaw p q clients gives w os ss ms) (j : ℕ) (m : Mark) (at : At ms j m) (l : Later p q clients gives w w')
    (plan : w.core.calls.plan ≡ q) (sized : length w.core.calls.words ≡ all_words q) (fits : SlotFits q w m.slot) (low : (k : ℕ) → k < q.slots → (word_at w k).first ≤ 67108856) where
  abbrev Behind : (step : Step) → Found step → Type 0
  Behind step found = IsBehind p q clients gives w w' m step found

  abbrev Changes : Mark → Type 0
  Changes m' = Change p q clients gives numbered w w' births os ss ms law j m at l m'

  -- ## Words of calls

  abbrev CallsSame : Step → Type 0
  CallsSame step = (o : ℕ) → o < q.operations → (IsStore step o → ⊥) → get_or w'.core.calls.words (call_index q o) 0 ≡ get_or w.core.calls.words (call_index q o) 0

  one_word : (x v o : ℕ) → w'.core.calls.words ≡ set w.core.calls.words x v → call_index q o ≢ x → get_or w'.core.calls.words (call_index q o) 0 ≡ get_or w.core.calls.words (call_index q o) 0
  one_word x v o words ne = ap (λ ws. get_or ws (call_index q o) 0) words ∙ get_or-set_other w.core.calls.words x (call_index q o) v 0 ne

  no_word : (o : ℕ) → w'.core.calls.words ≡ w.core.calls.words → get_or w'.core.calls.words (call_index q o) 0 ≡ get_or w.core.calls.words (call_index q o) 0
  no_word o words = ap (λ ws. get_or ws (call_index q o) 0) words

  calls_same : (step : Step) (found : Found step) → Behind step found → KnowsStep p q clients gives w step found → CallsSame step
  calls_same (ClaimId i) found b knows o inside none_ = one_word (tag_index i) 1 o b.words (let z = knows.0 in λ e. omega (arith, z, e))
  calls_same (MakeId i range) found b knows o inside none_ = one_word (id_index i) (packed (made_word (parts found).first range)) o b.words (λ e. omega (arith, e))
  calls_same (StoreCall u id) found b knows o inside none_ = one_word (call_index q u) id o (b.words ∙ ap (λ (r : IdPlan). set w.core.calls.words (call_index r u) id) plan) (λ e. none_ (omega (arith, e)))
  calls_same (StoreAt u x) found b knows o inside none_ = one_word (at_index q u) x o (b.words ∙ ap (λ (r : IdPlan). set w.core.calls.words (at_index r u) x) plan) (λ e. omega (arith, e))
  calls_same (LockId i from) found b knows o inside none_ = one_word (id_index i) (cond (eqb found from) (packed (posted_word (parts from) 0)) found) o b.words (λ e. omega (arith, e))
  calls_same (PostId i from e) found b knows o inside none_ = one_word (id_index i) (cond (eqb found from) (packed (posted_word (parts from) e)) found) o b.words (λ z. omega (arith, z))
  calls_same (UnlockId i from advance) found b knows o inside none_ = one_word (id_index i) (cond (eqb found from) (packed (unlocked_word (parts from) (bit advance))) found) o b.words (λ e. omega (arith, e))
  calls_same (EndId i) found b knows o inside none_ = one_word (id_index i) (packed (free_word ((parts found).first + (parts found).range))) o b.words (λ e. omega (arith, e))
  calls_same (FreeId i) found b knows o inside none_ = one_word (tag_index i) 0 o b.words (λ e. omega (arith, knows, e))
  calls_same (TakeBytes k room) (Bytes bytes) b knows o inside none_ = no_word o b.words
  calls_same (TakeBytes k room) asides.Nothing b knows o inside none_ = no_word o b.words
  calls_same (TakeBytes k room) asides.NoMore b knows o inside none_ = no_word o b.words
  calls_same (TakeBytes k room) asides.AtEnd b knows o inside none_ = no_word o b.words
  calls_same (TakeBytes k room) asides.Closed b knows o inside none_ = no_word o b.words
  calls_same (TakeBytes k room) asides.Broken b knows o inside none_ = no_word o b.words
  calls_same _ found b knows o inside none_ = no_word o b.words

  module _ (step : Step) (found : Found step) (b : Behind step found) (knows : KnowsStep p q clients gives w step found) (may : MayAside p q clients gives w m step) where
    -- ## Ranges

    turns : (c : Birth) → In c w.births → Turn (IsMake step (id_slot c.id)) (IsEnd step (id_slot c.id)) (word_at w (id_slot c.id)) (word_at w' (id_slot c.id))
    turns c there = turn p q clients gives w w' m plan sized fits step found b knows may (id_slot c.id) (births.born c there).0

    -- what has passed had, or the step ended it
    passed_or : (c : Birth) → In c w.births → HasPassed w' c → HasPassed w c ⊎ (IsCurrent w c × IsEnd step (id_slot c.id))
    passed_or c there over = ⊎_elim (λ before. inl before) (λ now. by_turn now (turns c there)) (births.born c there).3
      where
        by_turn : IsCurrent w c → Turn (IsMake step (id_slot c.id)) (IsEnd step (id_slot c.id)) (word_at w (id_slot c.id)) (word_at w' (id_slot c.id)) → HasPassed w c ⊎ (IsCurrent w c × IsEnd step (id_slot c.id))
        by_turn now (keeps first range on back) = absurd (let one = now.0 in let two = (births.born c there).1 in omega (arith, one, two, first, over))
        by_turn now (ends it first none_) = inr (now, it)
        by_turn now (makes it free first one) = absurd (let live = now.1 in omega (arith, live, free))

    current_still : (c : Birth) → In c w.births → IsCurrent w' c → IsCurrent w c
    current_still c there now = let x = births.born c there in current_before p q clients gives w w' m plan sized fits (IsMake step (id_slot c.id)) (IsEnd step (id_slot c.id)) c x.1 x.3 (turns c there) now

    over_still : (c : Birth) → In c w.births → HasPassed w c → HasPassed w' c
    over_still c there over = passed_still p q clients gives w w' m plan sized fits (IsMake step (id_slot c.id)) (IsEnd step (id_slot c.id)) c (turns c there) over

    told_still : AreTold p q clients gives w' m.client m.done
    told_still = are_told_on p q clients gives w w' l m.client m.done (law.told j m at)

    quiet_still : AreQuiet p q clients gives w' os m.client m.done
    quiet_still = quiet_on p q clients gives numbered w w' births os ss ms law j m at l m.client m.done (law.quiet j m at)

    -- ## A step that is no seat's but for its slot

    pub plain : (m' : Mark) → IsLike m m' → w'.births ≡ w.births → ((k : ℕ) → IsEnd step k → ⊥) → ((o : ℕ) → IsStore step o → ⊥) → Changes m'
    plain m' like same none_ stored = let same_client = ap (λ (x : Mark). x.client) like in let same_done = ap (λ (x : Mark). x.done) like in let same_todo = ap (λ (x : Mark). x.todo) like in
        let same_makes = ap (λ (x : Mark). x.makes) like in let same_owes = ap (λ (x : Mark). x.owes) like in record {
          client = same_client;
          placed = ap (λ d. undo p q clients gives d m'.todo) same_done ∙ ap (undo p q clients gives m.done) same_todo;
          told = subst (λ c. AreTold p q clients gives w' c m'.done) (sym same_client) (subst (AreTold p q clients gives w' m.client) (sym same_done) told_still);
          quiet = subst (λ c. AreQuiet p q clients gives w' os c m'.done) (sym same_client) (subst (AreQuiet p q clients gives w' os m.client) (sym same_done) quiet_still);
          done = λ t x. subst (In t) (sym same_done) x;
          begun = λ c u _ x. (x.0, x.1, ⊎_elim (λ d. inl (subst (In u) (sym same_done) d)) (λ y. inr (y.0, same_todo ∙ y.1, same_makes ∙ y.2)) x.2);
          born = λ c x. inl (subst (In c) same x);
          made = λ c is. subst (In c) (sym same) (law.made j m c at (sym same_makes ∙ is));
          called = λ o inside begun. let z = calls_same step found b knows o inside (stored o) in inl ((λ e. begun (z ∙ e)), z);
          fresh = λ u x. subst (λ bs. In u (ahead p q clients gives bs m.todo)) same_makes (subst (λ ts. In u (ahead p q clients gives m'.makes ts)) same_todo x);
          owes = λ c is. inl (sym same_owes ∙ is);
          owed_still = λ c is. same_owes ∙ is;
          passed = λ c there over. ⊎_elim (λ before. inl before) (λ x. absurd (none_ (id_slot c.id) x.1)) (passed_or c there over);
          current = current_still;
          passed_on = over_still;
        }

  -- ## The call's word is stored

  stores : (o id : ℕ) (found : ℕ) (b : Behind (StoreCall o id) found) (knows : KnowsStep p q clients gives w (StoreCall o id) found) (may : MayAside p q clients gives w m (StoreCall o id)) → Changes (with_done may.1 may.2 (with_made [] m))
  stores o id found b knows may = record {
    client = refl;
    placed = ap (undo p q clients gives m.done) (sym may.4);
    told = (was_begun may.0.id may.0.asked may.5 may.6 (l.born may.0.id may.0.asked may.9) (λ e. knows.1 (sym word ∙ (ap (λ n. get_or w'.core.calls.words (call_index q n) 0) (may.7 ∙ sym may.6) ∙ e))) (l.named (Rattle.sock_message.specs.Asked.name_of may.0.asked 0) may.10), told_still (StoreCall o id) found b knows may);
    quiet = (λ n bytes sent. absurd (let z : ops.Send n bytes ≡ ops.Call may.0.asked = sym sent ∙ may.5 in cc), quiet_still (StoreCall o id) found b knows may);
    done = λ t x. inr x;
    begun = λ c u _ x. (x.0, x.1, ⊎_elim (λ d. inl (inr d)) (λ y. inl (inl (let z : may.1 ∷ may.2 ≡ u ∷ y.0 = sym may.4 ∙ y.1 in let e : u ≡ may.1 = cc in e))) x.2);
    born = λ c x. inl (subst (In c) b.births x);
    made = λ c is. absurd (let z : [] ≡ c ∷ [] = is in cc);
    called = λ k inside begun. dite (ℕ_discrete o k)
        (λ same. inr (record { birth = may.0; there = l.born may.0.id may.0.asked may.9; id = sym may.8 ∙ (sym word ∙ ap (λ n. get_or w'.core.calls.words (call_index q n) 0) same); operation = sym may.7 ∙ same; task = may.1; done = inl refl; op = may.5; number = may.6 ∙ (sym may.7 ∙ same) }))
        (λ ne. let z = calls_same (StoreCall o id) found b knows k inside ne in inl ((λ e. begun (z ∙ e)), z));
    fresh = λ u x. subst (λ bs. In u (ahead p q clients gives bs m.todo)) (sym may.3) (subst (λ ts. In u (tasks_behind p q clients gives ts)) (sym may.4) x);
    owes = λ c is. inl is;
    owed_still = λ c is. is;
    passed = λ c there over. ⊎_elim (λ before. inl before) (λ x. absurd x.1) (passed_or (StoreCall o id) found b knows may c there over);
    current = current_still (StoreCall o id) found b knows may;
    passed_on = over_still (StoreCall o id) found b knows may;
  }
    where
      word : get_or w'.core.calls.words (call_index q o) 0 ≡ id
      word = stored_is p q clients gives w w' m plan sized fits births low o id knows.0 b.words

  -- ## A range ends

  finishes : (i : ℕ) (found : ℕ) (b : Behind (EndId i) found) (knows : KnowsStep p q clients gives w (EndId i) found) (may : MayAside p q clients gives w m (EndId i)) → Changes (with_owed (record { id = call_id i may.0; asked = may.2 } ∷ []) (with_slot (Leaves i) m))
  finishes i found b knows may = record {
    client = refl;
    placed = refl;
    told = told_still (EndId i) found b knows may;
    quiet = quiet_still (EndId i) found b knows may;
    done = λ t x. x;
    begun = λ c u _ x. x;
    born = λ c x. inl (subst (In c) b.births x);
    made = λ c is. subst (In c) (sym b.births) (law.made j m c at is);
    called = λ o inside begun. let z = calls_same (EndId i) found b knows o inside (λ x. x) in inl ((λ e. begun (z ∙ e)), z);
    fresh = λ u x. x;
    owes = λ c is. inr (subst (λ y. In y w.births × IsCurrent w y × HasPassed w' y) (let e : record { id = call_id i may.0; asked = may.2 } ≡ c = cc in e) (may.4, now, over));
    owed_still = λ c is. absurd (let z : [] ≡ c ∷ [] = sym may.5 ∙ is in cc);
    passed = λ c there past. ⊎_elim (λ before. inl before) (λ x. inr (ap (λ y. y ∷ []) (same_birth c there x.0 x.1))) (passed_or (EndId i) found b knows may c there past);
    current = current_still (EndId i) found b knows may;
    passed_on = over_still (EndId i) found b knows may;
  }
    where
      held : SlotFits q w (Holds i may.0 may.1 may.2)
      held = subst (SlotFits q w) may.3 fits

      small : may.0 ≤ 67108856
      small = subst (λ n. n ≤ 67108856) held.3 (low i held.0)

      slot_is : id_slot (call_id i may.0) ≡ i
      slot_is = omega (arith, small)

      first_is : id_first (call_id i may.0) ≡ may.0
      first_is = omega (arith, small)

      now : IsCurrent w (record { id = call_id i may.0; asked = may.2 })
      now = let x = births.born (record { id = call_id i may.0; asked = may.2 }) may.4 in ⊎_elim (λ past. absurd (let two = x.1 in let first = held.3 in let z : id_first (call_id i may.0) + may.2.range ≤ (word_at w i).first = subst (λ n. id_first (call_id i may.0) + may.2.range ≤ (word_at w n).first) slot_is past in omega (arith, two, first, first_is, z))) (λ y. y) x.3

      over : HasPassed w' (record { id = call_id i may.0; asked = may.2 })
      over = by_turn (turns (EndId i) found b knows may (record { id = call_id i may.0; asked = may.2 }) may.4)
        where
          ended : (word_at w' i).first ≡ (word_at w i).first + (word_at w i).range
          ended = let x = Rattle.story_steps.specs.call_stories.proofs.Effects.word_is p q clients gives w w' m plan i held.0 sized (packed (free_word ((parts found).first + (parts found).range))) b.words ∙ Rattle.story_steps.specs.Below.id_runs.proofs.AsidesKeepingIdRule.parts_packed (free_word ((parts found).first + (parts found).range)) (omega arith) (omega arith) (omega arith) (omega arith) (omega arith) (omega arith) in
              ap (λ (y : Parts). y.first) x ∙ ap (λ (y : Parts). y.first + y.range) knows.1

          by_turn : Turn (IsMake (EndId i) (id_slot (call_id i may.0))) (IsEnd (EndId i) (id_slot (call_id i may.0))) (word_at w (id_slot (call_id i may.0))) (word_at w' (id_slot (call_id i may.0))) → HasPassed w' (record { id = call_id i may.0; asked = may.2 })
          by_turn t = subst (λ n. id_first (call_id i may.0) + may.2.range ≤ (word_at w' n).first) (sym slot_is)
              (let one = held.3 in let range : (word_at w i).range ≡ may.2.range = subst (λ n. (word_at w n).range ≡ may.2.range) slot_is now.2 in omega (arith, ended, one, range, first_is))

      same_birth : (c : Birth) → In c w.births → IsCurrent w c → i ≡ id_slot c.id → record { id = call_id i may.0; asked = may.2 } ≡ c
      same_birth c there is here =
          let first : (word_at w i).first ≡ id_first c.id = subst (λ n. (word_at w n).first ≡ id_first c.id) (sym here) is.0 in
          let one = held.3 in
          let id : call_id i may.0 ≡ c.id = omega (arith, first, one, here) in
          let two = (births.born c there).1 in let other = (births.born (record { id = call_id i may.0; asked = may.2 }) may.4).1 in
          ⊎_elim (λ e. e) (λ z. absurd (⊎_elim (λ t. ⊎_elim (λ s. omega (arith, s, id, other)) (λ s. omega (arith, s, id, two)) t.0) (λ t. ⊎_elim (λ s. omega (arith, s, id, two)) (λ s. omega (arith, s, id, other)) t.0) z))
          (two_of w.births births.apart (record { id = call_id i may.0; asked = may.2 }) c may.4 there)

  -- ## An id is made

  module _ (i range : ℕ) (found : ℕ) (b : Behind (MakeId i range) found) (knows : KnowsStep p q clients gives w (MakeId i range) found) (may : MayAside p q clients gives w m (MakeId i range)) where
    abbrev new : Birth
    new = record { id = call_id i (parts found).first; asked = may.0 }

    abbrev made_mark : Mark
    made_mark = with_made (record { id = call_id i (parts found).first; asked = may.0 } ∷ []) (with_slot NoSlot m)

    births_are : w'.births ≡ record { id = call_id i (parts found).first; asked = may.0 } ∷ w.births
    births_are = b.births ∙ ap (λ s. born_by p q clients gives (call_id i (parts found).first) (put_of p q clients gives s) ++ w.births) may.3

    slot_is : id_slot (call_id i (parts found).first) ≡ i
    slot_is = let small = knows.1 in omega (arith, small)

    first_is : id_first (call_id i (parts found).first) ≡ (parts found).first
    first_is = let small = knows.1 in omega (arith, small)

    word : word_at w' i ≡ made_word (parts found).first range
    word = Rattle.story_steps.specs.call_stories.proofs.Effects.word_is p q clients gives w w' m plan i knows.0.0 sized (packed (made_word (parts found).first range)) b.words
        ∙ Rattle.story_steps.specs.Below.id_runs.proofs.AsidesKeepingIdRule.parts_packed (made_word (parts found).first range) (omega arith) (let z = knows.2 in omega (arith, z)) knows.3 (omega arith) (omega arith) (omega arith)

    is_new : IsNew p q clients gives numbered w w' births os ss ms law j m at l made_mark (record { id = call_id i (parts found).first; asked = may.0 })
    is_new = record {
      task = may.1;
      begun = (may.6, may.7, inr (may.2, may.5, refl));
      untold = subst (IsUntold p q clients gives os) may.7 (law.fresh j m may.1 at (subst (λ bs. In may.1 (ahead p q clients gives bs m.todo)) (sym may.8) (subst (In may.1) (sym may.5) (inl refl))));
      now = subst (λ n. ((word_at w' n).first ≡ id_first (call_id i (parts found).first)) × (0 < (word_at w' n).state) × ((word_at w' n).range ≡ may.0.range)) (sym slot_is)
          (ap (λ (x : Parts). x.first) word ∙ sym first_is, subst (λ (x : Parts). 0 < x.state) (sym word) (omega arith), ap (λ (x : Parts). x.range) word ∙ may.4);
      range = subst (λ n. 2 ≤ n) may.4 knows.2;
    }

    news : Changes made_mark
    news = record {
      client = refl;
      placed = refl;
      told = told_still (MakeId i range) found b knows may;
      quiet = quiet_still (MakeId i range) found b knows may;
      done = λ t x. x;
      begun = λ c u _ x. (x.0, x.1, ⊎_elim (λ d. inl d) (λ y. absurd (let z : c ∷ [] ≡ [] = sym y.2 ∙ may.8 in cc)) x.2);
      born = λ c x. ⊎_elim (λ same. inr (subst (IsNew p q clients gives numbered w w' births os ss ms law j m at l made_mark) (sym same) is_new)) (λ old. inl old) (subst (In c) births_are x);
      made = λ c is. subst (In c) (sym births_are) (inl (let e : c ≡ record { id = call_id i (parts found).first; asked = may.0 } = cc in e));
      called = λ o inside begun. let z = calls_same (MakeId i range) found b knows o inside (λ x. x) in inl ((λ e. begun (z ∙ e)), z);
      fresh = λ u x. subst (λ bs. In u (ahead p q clients gives bs m.todo)) (sym may.8) (in_ahead p q clients gives (record { id = call_id i (parts found).first; asked = may.0 } ∷ []) m.todo u x);
      owes = λ c is. inl is;
      owed_still = λ c is. is;
      passed = λ c there over. ⊎_elim (λ before. inl before) (λ x. absurd x.1) (passed_or (MakeId i range) found b knows may c there over);
      current = current_still (MakeId i range) found b knows may;
      passed_on = over_still (MakeId i range) found b knows may;
    }

  -- ## Each step

  pub changes : (step : Step) (found : Found step) → Behind step found → KnowsStep p q clients gives w step found → MayAside p q clients gives w m step → Changes (mark_after p q clients gives step found m)
  changes (ClaimId i) found b knows may = plain (ClaimId i) found b knows may (cond (eqb found 0) (with_slot (Claims i None) m) m) (like_cond m (with_slot (Claims i None) m) m (eqb found 0) refl refl) b.births (λ k x. x) (λ o x. x)
  changes (PutCall i asked) found b knows may = let s : Slot = Rattle.story_steps.specs.call_stories.specs.Says.put_in asked m.slot in plain (PutCall i asked) found b knows may (with_slot s m) refl b.births (λ k x. x) (λ o x. x)
  changes (MakeId i range) found b knows may = subst Changes (sym (ap (λ s. with_made (born_by p q clients gives (call_id i (parts found).first) (put_of p q clients gives s)) (with_slot NoSlot m)) may.3)) (news i range found b knows may)
  changes (StoreCall o id) found b knows may = subst Changes (sym (ap (λ ts. stored_by p q clients gives ts m) may.4)) (stores o id found b knows may)
  changes (LockId i from) found b knows may = let x : Mark = with_slot (Locked i (parts from).first (shape_of (parts from))) m in
      plain (LockId i from) found b knows may (cond (eqb found from) x m) (like_cond m x m (eqb found from) refl refl) b.births (λ k x. x) (λ o x. x)
  changes (PostId i from e) found b knows may = let x : Mark = with_slot (Locked i (parts from).first (shape_of (parts from))) m in let y : Mark = cond (eqb (parts from).state 1) x m in
      plain (PostId i from e) found b knows may (cond (eqb found from) y m) (like_cond m y m (eqb found from) (like_cond m x m (eqb (parts from).state 1) refl refl) refl) b.births (λ k x. x) (λ o x. x)
  changes (UnlockId i from advance) found b knows may = let x : Mark = with_slot NoSlot m in let z : Mark = with_slot (Rattle.story_steps.specs.call_stories.specs.Says.with_attempt (parts (Rattle.story_steps.specs.call_stories.specs.Says.unlocked_by from advance)).attempt m.slot) m in let y : Mark = cond (eqb (parts from).oldest 0) x z in
      plain (UnlockId i from advance) found b knows may (cond (eqb found from) y m) (like_cond m y m (eqb found from) (like_cond m x z (eqb (parts from).oldest 0) refl refl) refl) b.births (λ k x. x) (λ o x. x)
  changes (EndId i) found b knows may = subst Changes (sym (ap (λ s. with_owed (ended_of p q clients gives s) (with_slot (Leaves i) m)) may.3)) (finishes i found b knows may)
  changes (FreeId i) found b knows may = plain (FreeId i) found b knows may (with_slot NoSlot m) refl b.births (λ k x. x) (λ o x. x)
  changes (TakeCall i) found b knows may = let s : Slot = Rattle.story_steps.specs.call_stories.specs.Says.taken_out found m.slot in plain (TakeCall i) found b knows may (with_slot s m) refl b.births (λ k x. x) (λ o x. x)
  changes (TakeBytes k room) (Bytes bytes) b knows may = plain (TakeBytes k room) (Bytes bytes) b knows may (Rattle.story_steps.specs.call_stories.specs.Says.with_bytes (m.bytes ++ bytes) m) refl b.births (λ k x. x) (λ o x. x)
  changes step found b knows may = plain step found b knows may m refl b.births (λ k x. x) (λ o x. x)
