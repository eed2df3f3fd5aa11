-- Behind a step aside the ids that were made still are where they were, or have passed.
use Rattle.std.proofs.Common.{◌≡◌, ℕ, ◌+◌, ◌<◌, ◌≤◌, ◌⊎◌, inl, inr, ⊎_elim, Bool, true, false, cond, eqb, eqb-true, List, length, get_or, set, refl, sym, ap, ◌∙◌, subst, arith}
use mathlib.Core.Logic.{dite}
use native.Mathlib.Decide.{ℕ_discrete}
use Rattle.sock_words.specs.declared.plain.Plan.{Plan}
use Rattle.corr_core.specs.IdSlotWord.{Parts, parts, made_word, posted_word, unlocked_word, free_word}
use Rattle.corr_core.specs.declared.marks.Plan.{Plan as IdPlan}
use Rattle.seat_programs.specs.id_rule.specs.LawfulIdTable.{id_index, all_words}
use Rattle.seat_programs.specs.declared.task.Task.{Task}
use Rattle.seat_programs.specs.Asides.{Step, ClaimId, PutCall, MakeId, LockId, PostId, UnlockId, EndId, FreeId, TakeCall, Found}
use Rattle.seat_programs.specs.PostPrograms.{packed}
use Rattle.call_stories.specs.Below.id_runs.proofs.AsidesKeepingIdRule.{parts_packed}
use Rattle.call_stories.specs.Scenes.{Birth, Scene}
use Rattle.call_stories.specs.Says.{Mark, MayAside}
use Rattle.call_stories.specs.CallStories.{word_at, SlotFits, HasPassed, IsCurrent, IsBehind, KnowsStep}
use Rattle.call_stories.proofs.PostLoopCauses.{locked_parts}
use Rattle.call_stories.proofs.Effects.{Touches, beside, word_is, word_stays}
use Rattle.story_steps.proofs.IdSlotsBehindAsides.{queued_parts}
use Rattle.sock_words.specs.PackedWords.{id_slot, id_first, bit}

-- how the word of a slot changes: the range stays, or the step ends it, or makes one
pub data Turn (Made Ended : Type 0) (old new : Parts) : Type 0 where
  keeps : new.first ≡ old.first → new.range ≡ old.range → (0 < old.state → 0 < new.state) → (0 < new.state → 0 < old.state) → Turn Made Ended old new
  ends : Ended → new.first ≡ old.first + old.range → new.state ≡ 0 → Turn Made Ended old new
  makes : Made → old.state ≡ 0 → new.first ≡ old.first → new.state ≡ 1 → Turn Made Ended old new

abbrev pub IsMake : Step → ℕ → Type 0
IsMake (MakeId i range) k = i ≡ k
IsMake other k = ⊥

abbrev pub IsEnd : Step → ℕ → Type 0
IsEnd (EndId i) k = i ≡ k
IsEnd other k = ⊥

same_turn : (M E : Type 0) (old new : Parts) → new ≡ old → Turn M E old new
same_turn M E old new is = keeps (ap (λ (x : Parts). x.first) is) (ap (λ (x : Parts). x.range) is) (λ z. subst (λ (x : Parts). 0 < x.state) (sym is) z) (λ z. subst (λ (x : Parts). 0 < x.state) is z)

module _ (p : Plan) (q : IdPlan) (clients : List (List Task)) (gives : ℕ → List ℕ) (w w' : Scene) (m : Mark) (plan : w.core.calls.plan ≡ q) (sized : length w.core.calls.words ≡ all_words q) (fits : SlotFits q w m.slot) where
  abbrev Behind : (step : Step) → Found step → Type 0
  Behind step found = IsBehind p q clients gives w w' m step found

  abbrev TurnAt : Step → ℕ → Type 0
  TurnAt step k = Turn (IsMake step k) (IsEnd step k) (word_at w k) (word_at w' k)

  words_turn : (step : Step) (k : ℕ) → w'.core.calls.words ≡ w.core.calls.words → TurnAt step k
  words_turn step k words = same_turn (IsMake step k) (IsEnd step k) (word_at w k) (word_at w' k) (ap (λ ws. parts (get_or ws (id_index k) 0)) words)

  -- an exchange that leaves the first version and the range
  keeps_turn : (step : Step) (i v : ℕ) → i < q.slots → w'.core.calls.words ≡ set w.core.calls.words (id_index i) v → (parts v).first ≡ (word_at w i).first → (parts v).range ≡ (word_at w i).range → 0 < (parts v).state → 0 < (word_at w i).state → TurnAt step i
  keeps_turn step i v inside words first range now before = let x = word_is p q clients gives w w' m plan i inside sized v words in
      keeps (ap (λ (y : Parts). y.first) x ∙ first) (ap (λ (y : Parts). y.range) x ∙ range) (λ _. subst (λ (y : Parts). 0 < y.state) (sym x) now) (λ _. before)

  missed : (step : Step) (i found : ℕ) → i < q.slots → parts found ≡ word_at w i → w'.core.calls.words ≡ set w.core.calls.words (id_index i) found → TurnAt step i
  missed step i found inside is words = same_turn (IsMake step i) (IsEnd step i) (word_at w i) (word_at w' i) (word_is p q clients gives w w' m plan i inside sized found words ∙ is)

  locked_turn : (step : Step) (i from e found : ℕ) → found ≡ from → (parts from).state ≡ 1 → i < q.slots → parts found ≡ word_at w i → w'.core.calls.words ≡ set w.core.calls.words (id_index i) (packed (posted_word (parts from) e)) → TurnAt step i
  locked_turn step i from e found same one inside is words = let x = locked_parts p q clients gives from e one in let y : parts from ≡ word_at w i = ap parts (sym same) ∙ is in
      keeps_turn step i (packed (posted_word (parts from) e)) inside words (ap (λ (z : Parts). z.first) x ∙ ap (λ (z : Parts). z.first) y) (ap (λ (z : Parts). z.range) x ∙ ap (λ (z : Parts). z.range) y)
      (subst (λ (z : Parts). 0 < z.state) (sym x) (omega arith)) (subst (λ (z : Parts). 0 < z.state) y (omega (arith, one)))

  touched : (step : Step) (found : Found step) → Behind step found → KnowsStep p q clients gives w step found → MayAside p q clients gives w m step → (k : ℕ) → k < q.slots → Touches step k → TurnAt step k
  touched (ClaimId i) found b knows may k low t = subst (TurnAt (ClaimId i)) t (same_turn (IsMake (ClaimId i) i) (IsEnd (ClaimId i) i) (word_at w i) (word_at w' i) (word_stays p q clients gives w w' m plan i knows.0 sized 1 b.words))
  touched (PutCall i asked) found b knows may k low t = words_turn (PutCall i asked) k b.words
  touched (MakeId i range) found b knows may k low t = subst (TurnAt (MakeId i range)) t (
      let free = (subst (SlotFits q w) may.3 fits).2 in
      let x = word_is p q clients gives w w' m plan i knows.0.0 sized (packed (made_word (parts found).first range)) b.words ∙ parts_packed (made_word (parts found).first range) (omega arith) (let z = knows.2 in omega (arith, z)) knows.3 (omega arith) (omega arith) (omega arith) in
      makes refl free (ap (λ (y : Parts). y.first) x ∙ ap (λ (y : Parts). y.first) knows.0.1) (ap (λ (y : Parts). y.state) x)
      )
  touched (LockId i from) found b knows may k low t = subst (TurnAt (LockId i from)) t (by_found (eqb found from) refl b.words)
    where
      by_found : (c : Bool) → eqb found from ≡ c → w'.core.calls.words ≡ set w.core.calls.words (id_index i) (cond c (packed (posted_word (parts from) 0)) found) → TurnAt (LockId i from) i
      by_found true hit words = locked_turn (LockId i from) i from 0 found (eqb-true found from hit) knows.1 knows.0.0 knows.0.1 words
      by_found false hit words = missed (LockId i from) i found knows.0.0 knows.0.1 words
  touched (PostId i from e) found b knows may k low t = subst (TurnAt (PostId i from e)) t (by_found (eqb found from) refl b.words)
    where
      by_found : (c : Bool) → eqb found from ≡ c → w'.core.calls.words ≡ set w.core.calls.words (id_index i) (cond c (packed (posted_word (parts from) e)) found) → TurnAt (PostId i from e) i
      by_found true hit words = ⊎_elim (λ one. locked_turn (PostId i from e) i from e found (eqb-true found from hit) one knows.0.0 knows.0.1 words)
          (λ two. let x = queued_parts p q clients gives w w' m plan sized from e two.0 knows.2 in let y : parts from ≡ word_at w i = ap parts (sym (eqb-true found from hit)) ∙ knows.0.1 in
          keeps_turn (PostId i from e) i (packed (posted_word (parts from) e)) knows.0.0 words (x.0 ∙ ap (λ (z : Parts). z.first) y) (x.1 ∙ ap (λ (z : Parts). z.range) y) (let s = x.2 in omega (arith, s)) (subst (λ (z : Parts). 0 < z.state) y (let s = two.0 in omega (arith, s)))) knows.1
      by_found false hit words = missed (PostId i from e) i found knows.0.0 knows.0.1 words
  touched (UnlockId i from advance) found b knows may k low t = subst (TurnAt (UnlockId i from advance)) t (by_found (eqb found from) refl b.words)
    where
      state_fits : (c : Bool) → (cond c 1 2 < 4) × (0 < cond c 1 2)
      state_fits true = (omega arith, omega arith)
      state_fits false = (omega arith, omega arith)

      by_found : (c : Bool) → eqb found from ≡ c → w'.core.calls.words ≡ set w.core.calls.words (id_index i) (cond c (packed (unlocked_word (parts from) (bit advance))) found) → TurnAt (UnlockId i from advance) i
      by_found true hit words = let y : parts from ≡ word_at w i = ap parts (sym (eqb-true found from hit)) ∙ knows.0.1 in
          let x = parts_packed (unlocked_word (parts from) (bit advance)) (state_fits (eqb (parts from).oldest 0)).0 (omega arith) (omega arith) (let z = knows.2 in omega (arith, z)) (omega arith) (omega arith) in
          keeps_turn (UnlockId i from advance) i (packed (unlocked_word (parts from) (bit advance))) knows.0.0 words (ap (λ (z : Parts). z.first) x ∙ ap (λ (z : Parts). z.first) y) (ap (λ (z : Parts). z.range) x ∙ ap (λ (z : Parts). z.range) y)
          (subst (λ (z : Parts). 0 < z.state) (sym x) (state_fits (eqb (parts from).oldest 0)).1) (subst (λ (z : Parts). 0 < z.state) y (let s = knows.1 in omega (arith, s)))
      by_found false hit words = missed (UnlockId i from advance) i found knows.0.0 knows.0.1 words
  touched (EndId i) found b knows may k low t = subst (TurnAt (EndId i)) t (
      let x = word_is p q clients gives w w' m plan i knows.0 sized (packed (free_word ((parts found).first + (parts found).range))) b.words ∙ parts_packed (free_word ((parts found).first + (parts found).range)) (omega arith) (omega arith) (omega arith) (omega arith) (omega arith) (omega arith) in
      ends refl (ap (λ (y : Parts). y.first) x ∙ ap (λ (y : Parts). y.first + y.range) knows.1) (ap (λ (y : Parts). y.state) x)
      )
  touched (FreeId i) found b knows may k low t = subst (TurnAt (FreeId i)) t (same_turn (IsMake (FreeId i) i) (IsEnd (FreeId i) i) (word_at w i) (word_at w' i) (word_stays p q clients gives w w' m plan i knows sized 0 b.words))
  touched (TakeCall i) found b knows may k low t = words_turn (TakeCall i) k b.words
  touched _ found b knows may k low t = absurd t

  -- whether a step is made at the slot
  pub tests : (step : Step) (k : ℕ) → Touches step k ⊎ (Touches step k → ⊥)
  tests (ClaimId i) k = dite (ℕ_discrete i k) (λ e. inl e) (λ n. inr n)
  tests (PutCall i asked) k = dite (ℕ_discrete i k) (λ e. inl e) (λ n. inr n)
  tests (MakeId i range) k = dite (ℕ_discrete i k) (λ e. inl e) (λ n. inr n)
  tests (LockId i from) k = dite (ℕ_discrete i k) (λ e. inl e) (λ n. inr n)
  tests (PostId i from e) k = dite (ℕ_discrete i k) (λ e. inl e) (λ n. inr n)
  tests (UnlockId i from advance) k = dite (ℕ_discrete i k) (λ e. inl e) (λ n. inr n)
  tests (EndId i) k = dite (ℕ_discrete i k) (λ e. inl e) (λ n. inr n)
  tests (FreeId i) k = dite (ℕ_discrete i k) (λ e. inl e) (λ n. inr n)
  tests (TakeCall i) k = dite (ℕ_discrete i k) (λ e. inl e) (λ n. inr n)
  tests _ k = inr (λ x. x)

  pub turn : (step : Step) (found : Found step) → Behind step found → KnowsStep p q clients gives w step found → MayAside p q clients gives w m step → (k : ℕ) → k < q.slots → TurnAt step k
  turn step found b knows may k low = ⊎_elim (λ t. touched step found b knows may k low t) (λ n. same_turn (IsMake step k) (IsEnd step k) (word_at w k) (word_at w' k) (beside p q clients gives w w' m plan step found b k low n).word) (tests step k)

  -- ## Ids that were made before

  abbrev IsThere : Scene → Birth → Type 0
  IsThere v b = HasPassed v b ⊎ IsCurrent v b

  pub there_still : (M E : Type 0) (b : Birth) → Turn M E (word_at w (id_slot b.id)) (word_at w' (id_slot b.id)) → IsThere w b → IsThere w' b
  there_still M E b (keeps first range on back) (inl passed) = inl (subst (λ n. id_first b.id + b.asked.range ≤ n) (sym first) passed)
  there_still M E b (keeps first range on back) (inr is) = inr (first ∙ is.0, on is.1, range ∙ is.2)
  there_still M E b (ends over first none_) (inl passed) = inl (omega (arith, first, passed))
  there_still M E b (ends over first none_) (inr is) = let x = is.0 in let y = is.2 in inl (omega (arith, first, x, y))
  there_still M E b (makes made free first one) (inl passed) = inl (subst (λ n. id_first b.id + b.asked.range ≤ n) (sym first) passed)
  there_still M E b (makes made free first one) (inr is) = absurd (let x = is.1 in omega (arith, x, free))

  -- what has passed has
  pub passed_still : (M E : Type 0) (b : Birth) → Turn M E (word_at w (id_slot b.id)) (word_at w' (id_slot b.id)) → HasPassed w b → HasPassed w' b
  passed_still M E b (keeps first range on back) passed = subst (λ n. id_first b.id + b.asked.range ≤ n) (sym first) passed
  passed_still M E b (ends over first none_) passed = omega (arith, first, passed)
  passed_still M E b (makes made free first one) passed = subst (λ n. id_first b.id + b.asked.range ≤ n) (sym first) passed

  -- what is current was, where no range is made in its slot
  pub current_before : (M E : Type 0) (b : Birth) → 2 ≤ b.asked.range → HasPassed w b ⊎ IsCurrent w b → Turn M E (word_at w (id_slot b.id)) (word_at w' (id_slot b.id)) → IsCurrent w' b → IsCurrent w b
  current_before M E b some_ (inr is) t now = is
  current_before M E b some_ (inl passed) (keeps first range on back) now = absurd (let x = now.0 in omega (arith, x, first, passed, some_))
  current_before M E b some_ (inl passed) (ends over first none_) now = absurd (let x = now.1 in omega (arith, x, none_))
  current_before M E b some_ (inl passed) (makes made free first one) now = absurd (let x = now.0 in omega (arith, x, first, passed, some_))
