-- Each id slot is claimed for one call, and no call claims two: so there is room for each call, also behind a step aside.
use Rattle.std.proofs.Common.{◌≡◌, ◌≢◌, ℕ, zero, suc, ◌+◌, ◌<◌, ◌≤◌, ◌⊎◌, inl, inr, ⊎_elim, Bool, true, false, cond, eqb, List, [], ◌∷◌, ◌++◌, length, get_or, set, Option, None, refl, sym, ap, ◌∙◌, subst, arith}
use mathlib.Core.Logic.{dite}
use native.Mathlib.Decide.{ℕ_discrete}
use Rattle.sock_words.specs.declared.plain.Plan.{Plan}
use Rattle.sock_words.specs.declared.outcome.Outcome.{Outcome}
use Rattle.corr_core.specs.IdSlotWord.{parts, made_word, posted_word, unlocked_word, free_word}
use Rattle.corr_core.specs.declared.marks.Plan.{Plan as IdPlan}
use Rattle.seat_programs.specs.id_rule.specs.LawfulIdTable.{all_words}
use Rattle.sock_message.specs.Asked.{Asked}
use Rattle.seat_programs.specs.declared.task.Op.TheVariants as ops
use Rattle.seat_programs.specs.declared.task.Task.{Task}
use Rattle.seat_programs.specs.Asides.{Step, ClaimId, PutCall, MakeId, StoreCall, LoadCall, StoreAt, LoadAt, LoadIdWord, LockId, PostId, UnlockId, EndId, FreeId, TakeCall, TakeBytes, Bytes, Found}
use Rattle.seat_programs.specs.Asides as asides
use Rattle.seat_programs.specs.PostPrograms.{packed}
use Rattle.story_steps.specs.call_stories.specs.Scenes.{Birth, Saying, Claim, Scene, IsClaimed, IsTaskOf, HasRoom}
use Rattle.story_steps.specs.call_stories.specs.Says.{with_attempt, unlocked_by, shape_of, Slot, NoSlot, Claims, Locked, Leaves, Mark, with_slot, put_in, taken_out, IsVacant, MayAside}
use Rattle.story_steps.specs.call_stories.specs.CallStories.{At, tag_at, SlotFits, BirthsLaw, TasksLaw, ClaimsLaw, tasks_behind, ahead, unclaimed, IsBehind, KnowsStep, put_of, born_by, claimed_by, stored_by, mark_after}
use Rattle.story_steps.specs.call_stories.proofs.Effects.{Touches, beside, tag_stays, tag_is}
use Rattle.story_steps.proofs.Births.{tests}
use Rattle.story_steps.proofs.BirthTicks.{in_all}
use Rattle.story_steps.proofs.MarkMoves.{free_unclaimed}
use Rattle.story_steps.proofs.NumberedTasks.{AllDistinct, AreNumbered}
use Rattle.story_ticks.proofs.SayingKeepsStory.{at_either, is_todo, distinct_at}
use Rattle.story_steps.specs.call_stories.specs.Below.outcome_stories.specs.OperationStories.{In}
use Rattle.sock_words.specs.PackedWords.{call_id, bit}

-- ## Counting

-- a list without one that is in it, once
taken_from : (xs : List ℕ) (x : ℕ) → In x xs → (ys : List ℕ) × (length xs ≡ suc (length ys)) × ((y : ℕ) → In y xs → y ≢ x → In y ys)
taken_from [] x there = absurd there
taken_from (z ∷ xs) x (inl same) = (xs, refl, λ y at ne. ⊎_elim (λ e. absurd (ne (e ∙ sym same))) (λ r. r) at)
taken_from (z ∷ xs) x (inr there) = let r = taken_from xs x there in (z ∷ r.0, ap suc r.1, λ y at ne. ⊎_elim (λ e. inl e) (λ s. inr (r.2 y s ne)) at)

-- a list has as many numbers as there are below n, where each of these has one of its own there
at_least : (n : ℕ) (xs : List ℕ) (F : ℕ → ℕ → Type 0) → ((i : ℕ) → i < n → (o : ℕ) × F i o × In o xs) → ((i k o : ℕ) → F i o → F k o → i ≡ k) → n ≤ length xs
at_least zero xs F has one = omega arith
at_least (suc n) xs F has one =
    let h = has n (omega arith) in
    let r = taken_from xs h.0 h.2 in
    let few : n ≤ length r.0 = at_least n r.0 F (λ i low. let g = has i (omega (arith, low)) in (g.0, g.1, r.2 g.0 g.2 (λ e. let z = one i n h.0 (subst (F i) e g.1) h.1 in omega (arith, z, low)))) one in
    let more = r.1 in omega (arith, few, more)

module _ (p : Plan) (q : IdPlan) (clients : List (List Task)) (gives : ℕ → List ℕ) where
  -- there is an id slot for each call
  pub record HaveSlots : Type 0 where
    pub calls : List ℕ
    pub many : length calls ≡ q.slots
    pub listed : (c : ℕ) (t : Task) (asked : Asked) → IsTaskOf p q clients gives c t → t.op ≡ ops.Call asked → In t.number calls

  pub has_room : HaveSlots → (w : Scene) (ms : List Mark) → ClaimsLaw p q clients gives w ms → HasRoom p q clients gives w
  has_room h w ms law c t asked is op others =
      let r = taken_from h.calls t.number (h.listed c t asked is op) in
      let few : q.slots ≤ length r.0 = at_least q.slots r.0 (IsClaimed w)
      (λ i low. let g = others i low in let x = law.calls (record { slot = i; operation = g.0 }) g.1 in (g.0, g.1, r.2 g.0 (subst (λ n. In n h.calls) x.5 (h.listed x.0 x.1 x.2 x.3 x.4)) g.2))
      (λ i k o a b. ap (λ (y : Claim). y.slot) (law.once (record { slot = i; operation = o }) (record { slot = k; operation = o }) a b refl)) in
      let more = r.1 in let many = h.many in omega (arith, few, more, many)

  in_tasks_behind : (todo : List Task) (t : Task) → In t (tasks_behind p q clients gives todo) → In t todo
  in_tasks_behind [] t there = there
  in_tasks_behind (u ∷ us) t there = inr there

  in_ahead : (bs : List Birth) (todo : List Task) (t : Task) → In t (ahead p q clients gives bs todo) → In t todo
  in_ahead [] todo t there = there
  in_ahead (b ∷ bs) todo t there = in_tasks_behind todo t there

  pub in_unclaimed : (s : Slot) (bs : List Birth) (todo : List Task) (t : Task) → In t (unclaimed p q clients gives s bs todo) → In t todo
  in_unclaimed (Claims i c) bs todo t there = in_tasks_behind todo t there
  in_unclaimed _ bs todo t there = in_ahead bs todo t there

module _ (p : Plan) (q : IdPlan) (clients : List (List Task)) (gives : ℕ → List ℕ) (numbered : AreNumbered p q clients gives) (w w' : Scene) (ms : List Mark) (j : ℕ) (m : Mark) (at : At ms j m) (plan : w.core.calls.plan ≡ q) (sized : length w.core.calls.words ≡ all_words q) (fits : SlotFits q w m.slot) (births : BirthsLaw p q clients gives w)
    (os : List (Option Outcome)) (ss : List Saying) (tasks : TasksLaw p q clients gives w os ss ms) (claims : ClaimsLaw p q clients gives w ms) where
  abbrev Behind : (step : Step) → Found step → Type 0
  Behind step found = IsBehind p q clients gives w w' m step found

  abbrev Knows : (step : Step) → Found step → Type 0
  Knows step found = KnowsStep p q clients gives w step found

  abbrev May : Step → Type 0
  May step = MayAside p q clients gives w m step

  -- the step claims the slot
  abbrev IsNewAt : (step : Step) → Found step → ℕ → Type 0
  IsNewAt (ClaimId i) found k = (i ≡ k) × (found ≡ 0)
  IsNewAt other found k = ⊥

  words_tag : (k : ℕ) → w'.core.calls.words ≡ w.core.calls.words → tag_at w' k ≢ 0 → tag_at w k ≢ 0
  words_tag k same some_ e = some_ (ap (λ ws. get_or ws (Rattle.seat_programs.specs.id_rule.specs.LawfulIdTable.tag_index k) 0) same ∙ e)

  word_tag : (i k v : ℕ) → i ≡ k → i < q.slots → w'.core.calls.words ≡ set w.core.calls.words (Rattle.seat_programs.specs.id_rule.specs.LawfulIdTable.id_index i) v → tag_at w' k ≢ 0 → tag_at w k ≢ 0
  word_tag i k v here inside words some_ e = some_ (subst (λ n. tag_at w' n ≡ tag_at w n) here (tag_stays p q clients gives w w' m plan i inside sized v words) ∙ e)

  touched_tag : (step : Step) (found : Found step) → Behind step found → Knows step found → (k : ℕ) → Touches step k → tag_at w' k ≢ 0 → (tag_at w k ≢ 0) ⊎ IsNewAt step found k
  touched_tag (ClaimId i) found b knows k here some_ = dite (ℕ_discrete found 0) (λ z. inr (here, z)) (λ ne. inl (subst (λ n. tag_at w n ≢ 0) here (λ e. ne (knows.1 ∙ e))))
  touched_tag (PutCall i asked) found b knows k here some_ = inl (words_tag k b.words some_)
  touched_tag (MakeId i range) found b knows k here some_ = inl (word_tag i k (packed (made_word (parts found).first range)) here knows.0.0 b.words some_)
  touched_tag (LockId i from) found b knows k here some_ = inl (word_tag i k (cond (eqb found from) (packed (posted_word (parts from) 0)) found) here knows.0.0 b.words some_)
  touched_tag (PostId i from e) found b knows k here some_ = inl (word_tag i k (cond (eqb found from) (packed (posted_word (parts from) e)) found) here knows.0.0 b.words some_)
  touched_tag (UnlockId i from advance) found b knows k here some_ = inl (word_tag i k (cond (eqb found from) (packed (unlocked_word (parts from) (bit advance))) found) here knows.0.0 b.words some_)
  touched_tag (EndId i) found b knows k here some_ = inl (word_tag i k (packed (free_word ((parts found).first + (parts found).range))) here knows.0 b.words some_)
  touched_tag (FreeId i) found b knows k here some_ = absurd (some_ (subst (λ n. tag_at w' n ≡ 0) here (tag_is p q clients gives w w' m plan i knows sized 0 b.words)))
  touched_tag (TakeCall i) found b knows k here some_ = inl (words_tag k b.words some_)
  touched_tag _ found b knows k t some_ = absurd t

  -- a slot that is taken was, or the step claims it
  tag_before : (step : Step) (found : Found step) → Behind step found → Knows step found → (k : ℕ) → k < q.slots → tag_at w' k ≢ 0 → (tag_at w k ≢ 0) ⊎ IsNewAt step found k
  tag_before step found b knows k low some_ = ⊎_elim (λ t. touched_tag step found b knows k t some_) (λ n. inl (λ e. some_ ((beside p q clients gives w w' m plan step found b k low n).tag ∙ e))) (tests p q clients gives w w' m plan sized fits step k)

  -- ## A step that claims nothing

  -- what isn't claimed then wasn't before
  abbrev NoMore : Mark → Type 0
  NoMore m' = (u : Task) → In u (unclaimed p q clients gives m'.slot m'.makes m'.todo) → In u (unclaimed p q clients gives m.slot m.makes m.todo)

  same_claims : (step : Step) (found : Found step) → Behind step found → Knows step found → ((k : ℕ) → IsNewAt step found k → ⊥) → w'.claims ≡ w.claims → (m' : Mark) → NoMore m' → ClaimsLaw p q clients gives w' (set ms j m')
  same_claims step found b knows none_ same m' less = record {
    taken = λ i inside some_. let x = claims.taken i inside (⊎_elim (λ y. y) (λ y. absurd (none_ i y)) (tag_before step found b knows i inside some_)) in (x.0, subst (In (record { slot = i; operation = x.0 })) (sym same) x.1);
    calls = λ c there. claims.calls c (subst (In c) same there);
    once = λ a c x y e. claims.once a c (subst (In a) same x) (subst (In c) same y) e;
    free = λ k n t there. at_either p q clients gives numbered w births os ss ms tasks j m at (λ k n. In t (unclaimed p q clients gives n.slot n.makes n.todo) → (i : ℕ) → IsClaimed w' i t.number → ⊥) m'
        (λ x i c. claims.free j m t at (less t x) i (subst (In (record { slot = i; operation = t.number })) same c))
        (λ k n ne there x i c. claims.free k n t there x i (subst (In (record { slot = i; operation = t.number })) same c)) k n there;
  }

  put_less : (s : Slot) (asked : Asked) (bs : List Birth) (todo : List Task) (u : Task) → In u (unclaimed p q clients gives (put_in asked s) bs todo) → In u (unclaimed p q clients gives s bs todo)
  put_less NoSlot asked bs todo u x = x
  put_less _ asked bs todo u x = x

  taken_less : (s : Slot) (asked : Asked) (bs : List Birth) (todo : List Task) (u : Task) → In u (unclaimed p q clients gives (taken_out asked s) bs todo) → In u (unclaimed p q clients gives s bs todo)
  taken_less NoSlot asked bs todo u x = x
  taken_less _ asked bs todo u x = x

  -- a seat that holds no id has claimed nothing
  vacant_less : (s : Slot) (bs : List Birth) (todo : List Task) (u : Task) → IsVacant s → In u (ahead p q clients gives bs todo) → In u (unclaimed p q clients gives s bs todo)
  vacant_less NoSlot bs todo u v x = x
  vacant_less (Leaves i) bs todo u v x = x
  vacant_less _ bs todo u v x = absurd v

  tested : (c : Bool) (s t : Slot) (bs : List Birth) (todo : List Task) (u : Task) → (In u (unclaimed p q clients gives t bs todo) → In u (unclaimed p q clients gives s bs todo)) → (n : Mark) → n.slot ≡ s → n.makes ≡ bs → n.todo ≡ todo
      → In u (unclaimed p q clients gives (cond c (with_slot t n) n).slot (cond c (with_slot t n) n).makes (cond c (with_slot t n) n).todo) → In u (unclaimed p q clients gives s bs todo)
  tested true s t bs todo u less n a b c x = less (subst (λ ys. In u (unclaimed p q clients gives t bs ys)) c (subst (λ xs. In u (unclaimed p q clients gives t xs n.todo)) b x))
  tested false s t bs todo u less n a b c x = subst (λ ys. In u (unclaimed p q clients gives s bs ys)) c (subst (λ xs. In u (unclaimed p q clients gives s xs n.todo)) b (subst (λ r. In u (unclaimed p q clients gives r n.makes n.todo)) a x))

  -- ## The claim

  claims_it : (i found : ℕ) → Behind (ClaimId i) found → Knows (ClaimId i) found → May (ClaimId i) → (c : Bool) → eqb found 0 ≡ c → w'.claims ≡ cond c (claimed_by p q clients gives i m.todo ++ w.claims) w.claims → ClaimsLaw p q clients gives w' (set ms j (cond c (with_slot (Claims i None) m) m))
  claims_it i found b knows may false missed are = record {
    taken = λ k inside some_. let x = claims.taken k inside (⊎_elim (λ y. y) (λ y. absurd (let z : false ≡ true = sym missed ∙ Rattle.std.proofs.Common.eq-eqb found 0 y.1 in cc)) (tag_before (ClaimId i) found b knows k inside some_)) in (x.0, subst (In (record { slot = k; operation = x.0 })) (sym are) x.1);
    calls = λ c there. claims.calls c (subst (In c) are there);
    once = λ a c x y e. claims.once a c (subst (In a) are x) (subst (In c) are y) e;
    free = λ k n t there. at_either p q clients gives numbered w births os ss ms tasks j m at (λ k n. In t (unclaimed p q clients gives n.slot n.makes n.todo) → (i : ℕ) → IsClaimed w' i t.number → ⊥) m
        (λ x k c. claims.free j m t at x k (subst (In (record { slot = k; operation = t.number })) are c))
        (λ k n ne there x i c. claims.free k n t there x i (subst (In (record { slot = i; operation = t.number })) are c)) k n there;
  }
  claims_it i found b knows may true hit are = record {
    taken = λ k inside some_. ⊎_elim (λ y. let x = claims.taken k inside y in (x.0, subst (In (record { slot = k; operation = x.0 })) (sym list) (inr x.1))) (λ y. (may.1.number, subst (In (record { slot = k; operation = may.1.number })) (sym list) (inl (let e : k ≡ i = sym y.0 in λ z. record { slot = e z; operation = may.1.number }))))
        (tag_before (ClaimId i) found b knows k inside some_);
    calls = λ c there. of_place c (subst (In c) list there);
    once = λ a c x y e. both a c (subst (In a) list x) (subst (In c) list y) e;
    free = λ k n u there. at_either p q clients gives numbered w births os ss ms tasks j m at (λ k n. In u (unclaimed p q clients gives n.slot n.makes n.todo) → (l : ℕ) → IsClaimed w' l u.number → ⊥) (with_slot (Claims i None) m)
        (λ x l c. let y : In u may.2 = subst (λ us. In u (tasks_behind p q clients gives us)) may.4 x in none_claimed u j m at (subst (In u) (sym may.4) (inr y)) (free_unclaimed p q clients gives m.slot m.makes m.todo u may.0.0 may.0.2 (subst (In u) (sym may.4) (inr y))) (in_all (λ (v : Task). may.1.number ≢ v.number) may.2 (subst AllDistinct may.4 own.0).0 u y) l (subst (In (record { slot = l; operation = u.number })) list c))
        (λ k n ne there x l c. none_claimed u k n there (in_unclaimed p q clients gives n.slot n.makes n.todo u x) x (λ same. ne (sym (numbered.apart j k may.1 u (is_todo p q clients gives numbered w births os ss ms tasks j m at j m may.1 at here) (is_todo p q clients gives numbered w births os ss ms tasks j m at k n u there (in_unclaimed p q clients gives n.slot n.makes n.todo u x)) same))) l (subst (In (record { slot = l; operation = u.number })) list c)) k n there;
  }
    where
      here : In may.1 m.todo
      here = subst (In may.1) (sym may.4) (inl refl)

      own : AllDistinct m.todo × ((d u : Task) → In d m.done → In u m.todo → d.number ≢ u.number)
      own = distinct_at p q clients gives numbered w births os ss ms tasks j m at j m at

      list : w'.claims ≡ (record { slot = i; operation = may.1.number }) ∷ w.claims
      list = are ∙ ap (λ us. claimed_by p q clients gives i us ++ w.claims) may.4

      -- the task was not claimed before
      was_free : (k : ℕ) → IsClaimed w k may.1.number → ⊥
      was_free k c = claims.free j m may.1 at (free_unclaimed p q clients gives m.slot m.makes m.todo may.1 may.0.0 may.0.2 here) k c

      none_claimed : (u : Task) (k : ℕ) (n : Mark) → At ms k n → In u n.todo → In u (unclaimed p q clients gives n.slot n.makes n.todo) → may.1.number ≢ u.number → (l : ℕ) → In (record { slot = l; operation = u.number }) ((record { slot = i; operation = may.1.number }) ∷ w.claims) → ⊥
      none_claimed u k n there todo x ne l (inl same) = ne (sym (ap (λ (y : Claim). y.operation) same))
      none_claimed u k n there todo x ne l (inr c) = claims.free k n u there x l c

      of_place : (c : Claim) → In c ((record { slot = i; operation = may.1.number }) ∷ w.claims) → (client : ℕ) × (t : Task) × (asked : Asked) × IsTaskOf p q clients gives client t × (t.op ≡ ops.Call asked) × (t.number ≡ c.operation)
      of_place c (inl same) = (m.client, may.1, may.3, may.7, may.5, sym (ap (λ (y : Claim). y.operation) same))
      of_place c (inr there) = claims.calls c there

      both : (a c : Claim) → In a ((record { slot = i; operation = may.1.number }) ∷ w.claims) → In c ((record { slot = i; operation = may.1.number }) ∷ w.claims) → a.operation ≡ c.operation → a ≡ c
      both a c (inl x) (inl y) e = x ∙ sym y
      both a c (inl x) (inr y) e = absurd (was_free c.slot (subst (λ n. In (record { slot = c.slot; operation = n }) w.claims) (sym e ∙ ap (λ (z : Claim). z.operation) x) y))
      both a c (inr x) (inl y) e = absurd (was_free a.slot (subst (λ n. In (record { slot = a.slot; operation = n }) w.claims) (e ∙ ap (λ (z : Claim). z.operation) y) x))
      both a c (inr x) (inr y) e = claims.once a c x y e

  -- ## Each step

  pub claims_after_step : (step : Step) (found : Found step) → Behind step found → Knows step found → May step → ClaimsLaw p q clients gives w' (set ms j (mark_after p q clients gives step found m))
  claims_after_step (ClaimId i) found b knows may = claims_it i found b knows may (eqb found 0) refl b.claims
  claims_after_step (PutCall i asked) found b knows may = same_claims (PutCall i asked) found b knows (λ k x. x) b.claims (mark_after p q clients gives (PutCall i asked) found m) (λ u x. put_less m.slot asked m.makes m.todo u x)
  claims_after_step (MakeId i range) found b knows may = same_claims (MakeId i range) found b knows (λ k x. x) b.claims (mark_after p q clients gives (MakeId i range) found m)
      (λ u x. subst (λ s. In u (unclaimed p q clients gives s m.makes m.todo)) (sym may.3) (subst (λ s. In u (ahead p q clients gives (born_by p q clients gives (call_id i (parts found).first) (put_of p q clients gives s)) m.todo)) may.3 x))
  claims_after_step (StoreCall o id) found b knows may = same_claims (StoreCall o id) found b knows (λ k x. x) b.claims (mark_after p q clients gives (StoreCall o id) found m) (λ u x. stored u (subst (λ us. In u (unclaimed p q clients gives (stored_by p q clients gives us m).slot (stored_by p q clients gives us m).makes (stored_by p q clients gives us m).todo)) may.4 x))
    where
      by_slot : (s : Slot) (u : Task) → In u (unclaimed p q clients gives s [] may.2) → In u (unclaimed p q clients gives s (may.0 ∷ []) (may.1 ∷ may.2))
      by_slot (Claims k c) u x = in_tasks_behind p q clients gives may.2 u x
      by_slot _ u x = x

      stored : (u : Task) → In u (unclaimed p q clients gives m.slot [] may.2) → In u (unclaimed p q clients gives m.slot m.makes m.todo)
      stored u x = subst (λ ys. In u (unclaimed p q clients gives m.slot m.makes ys)) (sym may.4) (subst (λ bs. In u (unclaimed p q clients gives m.slot bs (may.1 ∷ may.2))) (sym may.3) (by_slot m.slot u x))
  claims_after_step (LoadCall o) found b knows may = same_claims (LoadCall o) found b knows (λ k x. x) b.claims m (λ u x. x)
  claims_after_step (StoreAt o v) found b knows may = same_claims (StoreAt o v) found b knows (λ k x. x) b.claims m (λ u x. x)
  claims_after_step (LoadAt o) found b knows may = same_claims (LoadAt o) found b knows (λ k x. x) b.claims m (λ u x. x)
  claims_after_step (LoadIdWord i) found b knows may = same_claims (LoadIdWord i) found b knows (λ k x. x) b.claims m (λ u x. x)
  claims_after_step (LockId i from) found b knows may = same_claims (LockId i from) found b knows (λ k x. x) b.claims (mark_after p q clients gives (LockId i from) found m)
      (λ u x. tested (eqb found from) m.slot (Locked i (parts from).first (shape_of (parts from))) m.makes m.todo u (λ y. vacant_less m.slot m.makes m.todo u may.0 y) m refl refl refl x)
  claims_after_step (PostId i from e) found b knows may = same_claims (PostId i from e) found b knows (λ k x. x) b.claims (mark_after p q clients gives (PostId i from e) found m) (λ u x. by_found (eqb found from) u x)
    where
      by_found : (c : Bool) (u : Task) → In u (unclaimed p q clients gives (cond c (cond (eqb (parts from).state 1) (with_slot (Locked i (parts from).first (shape_of (parts from))) m) m) m).slot (cond c (cond (eqb (parts from).state 1) (with_slot (Locked i (parts from).first (shape_of (parts from))) m) m) m).makes (cond c (cond (eqb (parts from).state 1) (with_slot (Locked i (parts from).first (shape_of (parts from))) m) m) m).todo)
          → In u (unclaimed p q clients gives m.slot m.makes m.todo)
      by_found true u x = tested (eqb (parts from).state 1) m.slot (Locked i (parts from).first (shape_of (parts from))) m.makes m.todo u (λ y. vacant_less m.slot m.makes m.todo u may.0 y) m refl refl refl x
      by_found false u x = x
  claims_after_step (UnlockId i from advance) found b knows may = same_claims (UnlockId i from advance) found b knows (λ k x. x) b.claims (mark_after p q clients gives (UnlockId i from advance) found m) (λ u x. by_found (eqb found from) u x)
    where
      opened : (u : Task) → In u (ahead p q clients gives m.makes m.todo) → In u (unclaimed p q clients gives m.slot m.makes m.todo)
      opened u y = subst (λ s. In u (unclaimed p q clients gives s m.makes m.todo)) (sym may.2) y

      attempt_less : (n : ℕ) (s : Slot) (u : Task) → In u (unclaimed p q clients gives (with_attempt n s) m.makes m.todo) → In u (unclaimed p q clients gives s m.makes m.todo)
      attempt_less n NoSlot u x = x
      attempt_less n _ u x = x

      by_oldest : (c : Bool) (u : Task) → In u (unclaimed p q clients gives (cond c (with_slot NoSlot m) (with_slot (with_attempt (parts (unlocked_by from advance)).attempt m.slot) m)).slot (cond c (with_slot NoSlot m) (with_slot (with_attempt (parts (unlocked_by from advance)).attempt m.slot) m)).makes (cond c (with_slot NoSlot m) (with_slot (with_attempt (parts (unlocked_by from advance)).attempt m.slot) m)).todo) → In u (unclaimed p q clients gives m.slot m.makes m.todo)
      by_oldest true u x = opened u x
      by_oldest false u x = attempt_less (parts (unlocked_by from advance)).attempt m.slot u x

      by_found : (c : Bool) (u : Task) → In u (unclaimed p q clients gives (cond c (cond (eqb (parts from).oldest 0) (with_slot NoSlot m) (with_slot (with_attempt (parts (unlocked_by from advance)).attempt m.slot) m)) m).slot (cond c (cond (eqb (parts from).oldest 0) (with_slot NoSlot m) (with_slot (with_attempt (parts (unlocked_by from advance)).attempt m.slot) m)) m).makes (cond c (cond (eqb (parts from).oldest 0) (with_slot NoSlot m) (with_slot (with_attempt (parts (unlocked_by from advance)).attempt m.slot) m)) m).todo) → In u (unclaimed p q clients gives m.slot m.makes m.todo)
      by_found true u x = by_oldest (eqb (parts from).oldest 0) u x
      by_found false u x = x
  claims_after_step (EndId i) found b knows may = same_claims (EndId i) found b knows (λ k x. x) b.claims (mark_after p q clients gives (EndId i) found m) (λ u x. subst (λ s. In u (unclaimed p q clients gives s m.makes m.todo)) (sym may.3) x)
  claims_after_step (FreeId i) found b knows may = same_claims (FreeId i) found b knows (λ k x. x) b.claims (mark_after p q clients gives (FreeId i) found m) (λ u x. subst (λ s. In u (unclaimed p q clients gives s m.makes m.todo)) (sym may) x)
  claims_after_step (TakeCall i) found b knows may = same_claims (TakeCall i) found b knows (λ k x. x) b.claims (mark_after p q clients gives (TakeCall i) found m) (λ u x. taken_less m.slot found m.makes m.todo u x)
  claims_after_step (TakeBytes l room) (Bytes bytes) b knows may = same_claims (TakeBytes l room) (Bytes bytes) b knows (λ k x. x) b.claims (mark_after p q clients gives (TakeBytes l room) (Bytes bytes) m) (λ u x. x)
  claims_after_step (TakeBytes l room) asides.Nothing b knows may = same_claims (TakeBytes l room) asides.Nothing b knows (λ k x. x) b.claims m (λ u x. x)
  claims_after_step (TakeBytes l room) asides.NoMore b knows may = same_claims (TakeBytes l room) asides.NoMore b knows (λ k x. x) b.claims m (λ u x. x)
  claims_after_step (TakeBytes l room) asides.AtEnd b knows may = same_claims (TakeBytes l room) asides.AtEnd b knows (λ k x. x) b.claims m (λ u x. x)
  claims_after_step (TakeBytes l room) asides.Closed b knows may = same_claims (TakeBytes l room) asides.Closed b knows (λ k x. x) b.claims m (λ u x. x)
  claims_after_step (TakeBytes l room) asides.Broken b knows may = same_claims (TakeBytes l room) asides.Broken b knows (λ k x. x) b.claims m (λ u x. x)
