-- Behind a step aside each error that waits has its cause.
use Rattle.std.proofs.Common.{◌≡◌, ◌≢◌, ℕ, ◌+◌, ◌<◌, ◌≤◌, ⊎_elim, Bool, true, false, cond, eqb, eqb-true, List, length, get_or, set, refl, sym, ap, ◌∙◌, subst, arith}
use Rattle.sock_words.specs.declared.plain.Plan.{Plan}
use Rattle.corr_core.specs.IdSlotWord.{Parts, parts, made_word, locked_word, posted_word, unlocked_word, free_word}
use Rattle.corr_core.specs.declared.marks.Plan.{Plan as IdPlan}
use Rattle.seat_programs.specs.id_rule.specs.LawfulIdTable.{id_index, all_words}
use Rattle.seat_programs.specs.declared.task.Task.{Task}
use Rattle.seat_programs.specs.Asides.{Step, ClaimId, PutCall, MakeId, LockId, PostId, UnlockId, EndId, FreeId, TakeCall, Found}
use Rattle.seat_programs.specs.PostPrograms.{packed}
use Rattle.call_stories.specs.Below.id_runs.proofs.AsidesKeepingIdRule.{parts_packed}
use Rattle.call_stories.specs.Scenes.{Scene, CauseOf, Later}
use Rattle.call_stories.specs.Says.{Mark, Shows}
use Rattle.call_stories.specs.CallStories.{word_at, SlotFits, BirthsLaw, IsBehind, KnowsStep}
use Rattle.call_stories.proofs.LastingCallStories.{cause_on}
use Rattle.call_stories.proofs.PostLoopCauses.{locked_parts}
use Rattle.call_stories.proofs.Effects.{Touches, beside, word_is, word_stays}
use Rattle.story_steps.proofs.Births.{tests}
use Rattle.sock_words.specs.PackedWords.{call_id, bit}

module _ (p : Plan) (q : IdPlan) (clients : List (List Task)) (gives : ℕ → List ℕ) where
  -- each error of the word, which is that of slot i, has its cause
  abbrev pub HasCauses : Scene → ℕ → Parts → Type 0
  HasCauses v i x = 0 < x.state → (x.oldest ≢ 0 → CauseOf p q clients gives v (call_id i x.first) x.oldest) × (x.second ≢ 0 → CauseOf p q clients gives v (call_id i x.first) x.second)

  no_errors : (v : Scene) (i : ℕ) (x : Parts) → x.oldest ≡ 0 → x.second ≡ 0 → HasCauses v i x
  no_errors v i x o s = λ _. ((λ ne. absurd (ne o)), (λ ne. absurd (ne s)))

  module _ (w w' : Scene) (m : Mark) (plan : w.core.calls.plan ≡ q) (sized : length w.core.calls.words ≡ all_words q) (fits : SlotFits q w m.slot) (law : BirthsLaw p q clients gives w) (l : Later p q clients gives w w') where
    -- those of a word that was there still have
    before : (i : ℕ) → i < q.slots → HasCauses w' i (word_at w i)
    before i inside = λ live. let e = law.errors i inside live in ((λ ne. cause_on p q clients gives w w' l (call_id i (word_at w i).first) (word_at w i).oldest (e.0 ne)), (λ ne. cause_on p q clients gives w w' l (call_id i (word_at w i).first) (word_at w i).second (e.1 ne)))

    found_causes : (i found : ℕ) → i < q.slots → parts found ≡ word_at w i → HasCauses w' i (parts found)
    found_causes i found inside is = subst (HasCauses w' i) (sym is) (before i inside)

    -- an open id that is locked has none more, and an error that is queued has its cause
    queues : (i from e : ℕ) → (parts from).state ≡ 2 → (parts from).second ≡ 0 → e < 32768 → HasCauses w' i (parts from) → CauseOf p q clients gives w' (call_id i (parts from).first) e → HasCauses w' i (parts (packed (posted_word (parts from) e)))
    queues i from e two none_ few old cause = by_state (eqb (parts from).state 1) refl
      where
        live : 0 < (parts from).state
        live = omega (arith, two)

        by_oldest : (c : Bool) → eqb (parts from).oldest 0 ≡ c → HasCauses w' i (parts (packed record { first = (parts from).first; state = 2; range = (parts from).range; attempt = (parts from).attempt; oldest = cond c e (parts from).oldest; second = cond c 0 e }))
        by_oldest true is = subst (HasCauses w' i) (sym (parts_packed record { first = (parts from).first; state = 2; range = (parts from).range; attempt = (parts from).attempt; oldest = e; second = 0 } (omega arith) (omega arith) (omega arith) (omega arith) few (omega arith))) (λ _. ((λ _. cause), (λ ne. absurd (ne refl))))
        by_oldest false is = subst (HasCauses w' i) (sym (parts_packed record { first = (parts from).first; state = 2; range = (parts from).range; attempt = (parts from).attempt; oldest = (parts from).oldest; second = e } (omega arith) (omega arith) (omega arith) (omega arith) (omega arith) few)) (λ _. ((old live).0, (λ _. cause)))

        by_state : (b : Bool) → eqb (parts from).state 1 ≡ b → HasCauses w' i (parts (packed (cond b (locked_word (parts from)) record { first = (parts from).first; state = 2; range = (parts from).range; attempt = (parts from).attempt; oldest = cond (eqb (parts from).oldest 0) e (parts from).oldest; second = cond (eqb (parts from).oldest 0) 0 e })))
        by_state true is = absurd (let z = eqb-true (parts from).state 1 is in omega (arith, z, two))
        by_state false is = by_oldest (eqb (parts from).oldest 0) refl

    locks : (i from e : ℕ) → (parts from).state ≡ 1 → HasCauses w' i (parts from) → HasCauses w' i (parts (packed (posted_word (parts from) e)))
    locks i from e one old = subst (HasCauses w' i) (sym (locked_parts p q clients gives from e one)) (λ _. old (omega (arith, one)))

    pops : (i from : ℕ) (advance : Bool) → (parts from).state ≡ 2 → (parts from).attempt + bit advance ≤ 6 → HasCauses w' i (parts from) → HasCauses w' i (parts (packed (unlocked_word (parts from) (bit advance))))
    pops i from advance two few old = subst (HasCauses w' i) (sym (parts_packed (unlocked_word (parts from) (bit advance)) (state_fits (eqb (parts from).oldest 0)) (omega arith) (omega arith) (omega (arith, few)) (omega arith) (omega arith))) (λ _. ((old (omega (arith, two))).1, (λ ne. absurd (ne refl))))
      where
        state_fits : (c : Bool) → cond c 1 2 < 4
        state_fits true = omega arith
        state_fits false = omega arith

    touched : (step : Step) (found : Found step) → IsBehind p q clients gives w w' m step found → KnowsStep p q clients gives w step found → Shows p q clients gives w' step found → (k : ℕ) → k < q.slots → Touches step k → HasCauses w' k (word_at w' k)
    touched (ClaimId i) found b knows shows k low t = subst (λ n. HasCauses w' n (word_at w' n)) t (subst (HasCauses w' i) (sym (word_stays p q clients gives w w' m plan i knows.0 sized 1 b.words)) (before i knows.0))
    touched (PutCall i asked) found b knows shows k low t = subst (HasCauses w' k) (sym (ap (λ ws. parts (get_or ws (id_index k) 0)) b.words)) (before k low)
    touched (MakeId i range) found b knows shows k low t = subst (λ n. HasCauses w' n (word_at w' n)) t (
        let x = word_is p q clients gives w w' m plan i knows.0.0 sized (packed (made_word (parts found).first range)) b.words ∙ parts_packed (made_word (parts found).first range) (omega arith) (let z = knows.2 in omega (arith, z)) knows.3 (omega arith) (omega arith) (omega arith) in
        subst (HasCauses w' i) (sym x) (no_errors w' i (made_word (parts found).first range) refl refl)
        )
    touched (LockId i from) found b knows shows k low t = subst (λ n. HasCauses w' n (word_at w' n)) t (by_found (eqb found from) refl b.words)
      where
        by_found : (c : Bool) → eqb found from ≡ c → w'.core.calls.words ≡ set w.core.calls.words (id_index i) (cond c (packed (posted_word (parts from) 0)) found) → HasCauses w' i (word_at w' i)
        by_found true hit words = subst (HasCauses w' i) (sym (word_is p q clients gives w w' m plan i knows.0.0 sized (packed (posted_word (parts from) 0)) words)) (locks i from 0 knows.1 (subst (λ n. HasCauses w' i (parts n)) (eqb-true found from hit) (found_causes i found knows.0.0 knows.0.1)))
        by_found false hit words = subst (HasCauses w' i) (sym (word_is p q clients gives w w' m plan i knows.0.0 sized found words)) (found_causes i found knows.0.0 knows.0.1)
    touched (PostId i from e) found b knows shows k low t = subst (λ n. HasCauses w' n (word_at w' n)) t (by_found (eqb found from) refl b.words)
      where
        by_found : (c : Bool) → eqb found from ≡ c → w'.core.calls.words ≡ set w.core.calls.words (id_index i) (cond c (packed (posted_word (parts from) e)) found) → HasCauses w' i (word_at w' i)
        by_found true hit words = let same = eqb-true found from hit in let old = subst (λ n. HasCauses w' i (parts n)) same (found_causes i found knows.0.0 knows.0.1) in
            subst (HasCauses w' i) (sym (word_is p q clients gives w w' m plan i knows.0.0 sized (packed (posted_word (parts from) e)) words))
            (⊎_elim (λ one. locks i from e one old) (λ two. queues i from e two.0 two.1 knows.2 old (shows same (let z = two.0 in λ one. omega (arith, one, z)))) knows.1)
        by_found false hit words = subst (HasCauses w' i) (sym (word_is p q clients gives w w' m plan i knows.0.0 sized found words)) (found_causes i found knows.0.0 knows.0.1)
    touched (UnlockId i from advance) found b knows shows k low t = subst (λ n. HasCauses w' n (word_at w' n)) t (by_found (eqb found from) refl b.words)
      where
        by_found : (c : Bool) → eqb found from ≡ c → w'.core.calls.words ≡ set w.core.calls.words (id_index i) (cond c (packed (unlocked_word (parts from) (bit advance))) found) → HasCauses w' i (word_at w' i)
        by_found true hit words = subst (HasCauses w' i) (sym (word_is p q clients gives w w' m plan i knows.0.0 sized (packed (unlocked_word (parts from) (bit advance))) words))
            (pops i from advance knows.1 knows.2 (subst (λ n. HasCauses w' i (parts n)) (eqb-true found from hit) (found_causes i found knows.0.0 knows.0.1)))
        by_found false hit words = subst (HasCauses w' i) (sym (word_is p q clients gives w w' m plan i knows.0.0 sized found words)) (found_causes i found knows.0.0 knows.0.1)
    touched (EndId i) found b knows shows k low t = subst (λ n. HasCauses w' n (word_at w' n)) t (
        let x = word_is p q clients gives w w' m plan i knows.0 sized (packed (free_word ((parts found).first + (parts found).range))) b.words ∙ parts_packed (free_word ((parts found).first + (parts found).range)) (omega arith) (omega arith) (omega arith) (omega arith) (omega arith) (omega arith) in
        subst (HasCauses w' i) (sym x) (no_errors w' i (free_word ((parts found).first + (parts found).range)) refl refl)
        )
    touched (FreeId i) found b knows shows k low t = subst (λ n. HasCauses w' n (word_at w' n)) t (subst (HasCauses w' i) (sym (word_stays p q clients gives w w' m plan i knows sized 0 b.words)) (before i knows))
    touched (TakeCall i) found b knows shows k low t = subst (HasCauses w' k) (sym (ap (λ ws. parts (get_or ws (id_index k) 0)) b.words)) (before k low)
    touched _ found b knows shows k low t = absurd t

    pub errors : (step : Step) (found : Found step) → IsBehind p q clients gives w w' m step found → KnowsStep p q clients gives w step found → Shows p q clients gives w' step found → (k : ℕ) → k < q.slots → HasCauses w' k (word_at w' k)
    errors step found b knows shows k low = ⊎_elim (λ t. touched step found b knows shows k low t) (λ n. subst (HasCauses w' k) (sym (beside p q clients gives w w' m plan step found b k low n).word) (before k low)) (tests p q clients gives w w' m plan sized fits step k)
