-- The attempt of each id that was made is how often it was advanced, behind a step aside of any seat.
use Rattle.std.proofs.Common.{◌≡◌, ◌≢◌, ℕ, ◌+◌, ◌<◌, ◌≤◌, ◌⊎◌, inl, inr, ⊎_elim, Bool, true, false, cond, eqb, eqb-true, eq-eqb, ne_eqb, List, [], ◌∷◌, ◌++◌, length, set, Some, refl, sym, ap, ◌∙◌, subst, arith}
use mathlib.Core.Option as core
use mathlib.Core.Logic.{dite}
use native.Mathlib.Decide.{ℕ_discrete}
use Rattle.sock_words.specs.declared.plain.Plan.{Plan}
use Rattle.corr_core.specs.IdSlotWord.{Parts, parts, error_of, posted_word, unlocked_word, free_word}
use Rattle.corr_core.specs.declared.marks.Plan.{Plan as IdPlan}
use Rattle.seat_programs.specs.id_rule.specs.LawfulIdTable.{id_index, all_words}
use Rattle.sock_message.specs.Asked.{Asked}
use Rattle.seat_programs.specs.declared.task.Task.{Task}
use Rattle.seat_programs.specs.Asides.{Step, ClaimId, PutCall, MakeId, StoreAt, LockId, PostId, UnlockId, EndId, FreeId, TakeCall, Found}
use Rattle.seat_programs.specs.FoundAndChangedAside.{call_at}
use Rattle.seat_programs.specs.PostPrograms.{packed}
use Rattle.call_stories.specs.Below.id_runs.proofs.AsidesKeepingIdRule.{parts_packed}
use Rattle.call_stories.specs.LinkReadingLists.{times}
use Rattle.call_stories.specs.PostsOfRun.{posts_by}
use Rattle.call_stories.specs.Scenes.{Birth, Scene, EndedAt, MayAdvance}
use Rattle.call_stories.specs.Says.{Claims, Locked, Mark, MayAside}
use Rattle.call_stories.specs.CallStories.{word_at, LiesAt, SlotFits, IsCurrent, BirthsLaw, IsBehind, KnowsStep}
use Rattle.call_stories.proofs.PostLoopCauses.{locked_parts, id_back}
use Rattle.call_stories.proofs.Effects.{Touches, beside, word_is, word_stays}
use Rattle.story_steps.proofs.IdSlotsBehindAsides.{queued_parts}
use Rattle.story_steps.proofs.Births.{IsMake, IsEnd, turn, tests, passed_still, current_before}
use Rattle.story_steps.proofs.BirthTicks.{two_of, Made, no_more, one_more, born_still}
use Rattle.call_stories.specs.Below.outcome_stories.specs.OperationStories.{In}
use Rattle.sock_words.specs.PackedWords.{call_id, id_slot, id_first, bit}

-- one of the list is one of a longer one
pub in_behind : {A : Type 0} (x : A) (xs ys : List A) → In x ys → In x (xs ++ ys)
in_behind x [] ys there = there
in_behind x (y ∷ xs) ys there = inr (in_behind x xs ys there)

pub in_front : {A : Type 0} (x : A) (xs ys : List A) → In x xs → In x (xs ++ ys)
in_front x [] ys there = absurd there
in_front x (z ∷ xs) ys (inl same) = inl same
in_front x (z ∷ xs) ys (inr there) = inr (in_front x xs ys there)

-- ## Counting

times_same : (o : ℕ) (ns : List ℕ) → times o (o ∷ ns) ≡ 1 + times o ns
times_same o ns = ap (λ b. cond b 1 0 + times o ns) (eq-eqb o o refl)

times_other : (o n : ℕ) (ns : List ℕ) → n ≢ o → times o (n ∷ ns) ≡ times o ns
times_other o n ns ne = ap (λ b. cond b 1 0 + times o ns) (ne_eqb n o ne) ∙ (let z : 0 + times o ns ≡ times o ns = omega arith in z)

module _ (p : Plan) (q : IdPlan) (clients : List (List Task)) (gives : ℕ → List ℕ) (w w' : Scene) (m : Mark) (plan : w.core.calls.plan ≡ q) (sized : length w.core.calls.words ≡ all_words q) (fits : SlotFits q w m.slot) (law : BirthsLaw p q clients gives w)
    (low : (k : ℕ) → k < q.slots → (word_at w k).first ≤ 67108856) where
  abbrev Behind : (step : Step) → Found step → Type 0
  Behind step found = IsBehind p q clients gives w w' m step found

  -- the step advances the attempt of the id of this slot
  abbrev IsAdvance : (step : Step) → Found step → ℕ → Type 0
  IsAdvance (UnlockId i from true) found k = (i ≡ k) × (found ≡ from)
  IsAdvance other found k = ⊥

  -- ## The attempt of a slot

  abbrev Same : ℕ → Type 0
  Same k = (word_at w' k).attempt ≡ (word_at w k).attempt

  by_word : (i k v : ℕ) → i ≡ k → i < q.slots → w'.core.calls.words ≡ set w.core.calls.words (id_index i) v → (parts v).attempt ≡ (word_at w i).attempt → Same k
  by_word i k v here inside words same = subst Same here (ap (λ (x : Parts). x.attempt) (word_is p q clients gives w w' m plan i inside sized v words) ∙ same)

  missed : (i k found : ℕ) → i ≡ k → i < q.slots → w'.core.calls.words ≡ set w.core.calls.words (id_index i) found → parts found ≡ word_at w i → Same k
  missed i k found here inside words is = by_word i k found here inside words (ap (λ (x : Parts). x.attempt) is)

  no_words : (k : ℕ) → w'.core.calls.words ≡ w.core.calls.words → Same k
  no_words k words = ap (λ ws. (parts (Rattle.std.proofs.Common.get_or ws (id_index k) 0)).attempt) words

  unlocked_attempt : (from n : ℕ) → (parts from).attempt + n ≤ 6 → (parts (packed (unlocked_word (parts from) n))).attempt ≡ (parts from).attempt + n
  unlocked_attempt from n few = ap (λ (x : Parts). x.attempt) (parts_packed (unlocked_word (parts from) n) (state_fits (eqb (parts from).oldest 0)) (omega arith) (omega arith) (omega (arith, few)) (omega arith) (omega arith))
    where
      state_fits : (c : Bool) → cond c 1 2 < 4
      state_fits true = omega arith
      state_fits false = omega arith

  touched : (step : Step) (found : Found step) → Behind step found → KnowsStep p q clients gives w step found → (k : ℕ) → Touches step k → 0 < (word_at w' k).state → (IsMake step k → ⊥) → (IsAdvance step found k → ⊥) → Same k
  touched (ClaimId i) found b knows k here live none_ still = subst Same here (ap (λ (x : Parts). x.attempt) (word_stays p q clients gives w w' m plan i knows.0 sized 1 b.words))
  touched (PutCall i asked) found b knows k here live none_ still = no_words k b.words
  touched (MakeId i range) found b knows k here live none_ still = absurd (none_ here)
  touched (LockId i from) found b knows k here live none_ still = by_found (eqb found from) refl b.words
    where
      by_found : (c : Bool) → eqb found from ≡ c → w'.core.calls.words ≡ set w.core.calls.words (id_index i) (cond c (packed (posted_word (parts from) 0)) found) → Same k
      by_found true hit words = by_word i k (packed (posted_word (parts from) 0)) here knows.0.0 words (ap (λ (x : Parts). x.attempt) (locked_parts p q clients gives from 0 knows.1) ∙ ap (λ (x : Parts). x.attempt) (ap parts (sym (eqb-true found from hit)) ∙ knows.0.1))
      by_found false hit words = missed i k found here knows.0.0 words knows.0.1
  touched (PostId i from e) found b knows k here live none_ still = by_found (eqb found from) refl b.words
    where
      by_found : (c : Bool) → eqb found from ≡ c → w'.core.calls.words ≡ set w.core.calls.words (id_index i) (cond c (packed (posted_word (parts from) e)) found) → Same k
      by_found true hit words = let is : parts from ≡ word_at w i = ap parts (sym (eqb-true found from hit)) ∙ knows.0.1 in ⊎_elim
          (λ one. by_word i k (packed (posted_word (parts from) e)) here knows.0.0 words (ap (λ (x : Parts). x.attempt) (locked_parts p q clients gives from e one) ∙ ap (λ (x : Parts). x.attempt) is))
          (λ two. by_word i k (packed (posted_word (parts from) e)) here knows.0.0 words ((queued_parts p q clients gives w w' m plan sized from e two.0 knows.2).3 ∙ ap (λ (x : Parts). x.attempt) is)) knows.1
      by_found false hit words = missed i k found here knows.0.0 words knows.0.1
  touched (UnlockId i from true) found b knows k here live none_ still = by_found (eqb found from) refl b.words
    where
      by_found : (c : Bool) → eqb found from ≡ c → w'.core.calls.words ≡ set w.core.calls.words (id_index i) (cond c (packed (unlocked_word (parts from) (bit true))) found) → Same k
      by_found true hit words = absurd (still (here, eqb-true found from hit))
      by_found false hit words = missed i k found here knows.0.0 words knows.0.1
  touched (UnlockId i from false) found b knows k here live none_ still = by_found (eqb found from) refl b.words
    where
      by_found : (c : Bool) → eqb found from ≡ c → w'.core.calls.words ≡ set w.core.calls.words (id_index i) (cond c (packed (unlocked_word (parts from) (bit false))) found) → Same k
      by_found true hit words = by_word i k (packed (unlocked_word (parts from) (bit false))) here knows.0.0 words (unlocked_attempt from (bit false) knows.2 ∙ ((let z : (parts from).attempt + 0 ≡ (parts from).attempt = omega arith in z) ∙ ap (λ (x : Parts). x.attempt) (ap parts (sym (eqb-true found from hit)) ∙ knows.0.1)))
      by_found false hit words = missed i k found here knows.0.0 words knows.0.1
  touched (EndId i) found b knows k here live none_ still = absurd (let v : ℕ = packed (free_word ((parts found).first + (parts found).range)) in
      let x = word_is p q clients gives w w' m plan i knows.0 sized (packed (free_word ((parts found).first + (parts found).range))) b.words ∙ parts_packed (free_word ((parts found).first + (parts found).range)) (omega arith) (omega arith) (omega arith) (omega arith) (omega arith) (omega arith) in
      let zero_ : (word_at w' i).state ≡ 0 = ap (λ (y : Parts). y.state) x in let y : (word_at w' k).state ≡ 0 = subst (λ n. (word_at w' n).state ≡ 0) here zero_ in omega (arith, y, live))
  touched (FreeId i) found b knows k here live none_ still = subst Same here (ap (λ (x : Parts). x.attempt) (word_stays p q clients gives w w' m plan i knows sized 0 b.words))
  touched (TakeCall i) found b knows k here live none_ still = no_words k b.words
  touched _ found b knows k t live none_ still = absurd t

  attempt_same : (step : Step) (found : Found step) → Behind step found → KnowsStep p q clients gives w step found → (k : ℕ) → k < q.slots → 0 < (word_at w' k).state → (IsMake step k → ⊥) → (IsAdvance step found k → ⊥) → Same k
  attempt_same step found b knows k inside live none_ still = ⊎_elim (λ t. touched step found b knows k t live none_ still) (λ n. ap (λ (x : Parts). x.attempt) (beside p q clients gives w w' m plan step found b k inside n).word) (tests p q clients gives w w' m plan sized fits step k)

  -- ## Whether the step advances an attempt

  data Advance (step : Step) (found : Found step) : Type 0 where
    none_more : w'.advances ≡ w.advances → ((k : ℕ) → IsAdvance step found k → ⊥) → Advance step found
    one_more_at : (i : ℕ) (asked : Asked) → i < q.slots → LiesAt w i asked → 0 < (word_at w i).state → (word_at w' i).attempt ≡ (word_at w i).attempt + 1 → w'.advances ≡ asked.operation ∷ w.advances → ((k : ℕ) → IsAdvance step found k → i ≡ k) → ((k : ℕ) → IsMake step k → ⊥) → IsAdvance step found i → Advance step found

  advance_of_step : (step : Step) (found : Found step) → Behind step found → KnowsStep p q clients gives w step found → Advance step found
  advance_of_step (UnlockId i from true) found b knows = by_found (eqb found from) refl b.words b.advances
    where
      by_found : (c : Bool) → eqb found from ≡ c → w'.core.calls.words ≡ set w.core.calls.words (id_index i) (cond c (packed (unlocked_word (parts from) (bit true))) found)
          → w'.advances ≡ cond c (Rattle.call_stories.specs.Below.outcome_stories.specs.Facts.called_at w.core.calls i) [] ++ w.advances → Advance (UnlockId i from true) found
      by_found true hit words more = let same = eqb-true found from hit in let is : parts from ≡ word_at w i = ap parts (sym same) ∙ knows.0.1 in
          one_more_at i knows.3.0 knows.0.0 knows.3.1 (let z : (word_at w i).state ≡ 2 = ap (λ (x : Parts). x.state) (sym is) ∙ knows.1 in omega (arith, z))
          (ap (λ (x : Parts). x.attempt) (word_is p q clients gives w w' m plan i knows.0.0 sized (packed (unlocked_word (parts from) (bit true))) words) ∙ (unlocked_attempt from (bit true) knows.2 ∙ ap (λ (x : Parts). x.attempt + 1) is))
          (more ∙ ap (λ h. (elim (call_at h) as (λ o. List ℕ) [ core.none ↦ [] | core.some asked ↦ asked.operation ∷ [] ]) ++ w.advances) knows.3.1)
          (λ k x. x.0) (λ k x. x) (refl, same)
      by_found false hit words more = none_more more (λ k x. let z : false ≡ true = sym hit ∙ eq-eqb found from x.1 in cc)
  advance_of_step (UnlockId i from false) found b knows = none_more b.advances (λ k x. x)
  advance_of_step (StoreAt o x) found b knows = none_more b.advances (λ k x. x)
  advance_of_step _ found b knows = none_more b.advances (λ k x. x)

  -- an exchange that advances an attempt leaves the range another, and has its error
  advance_has : (step : Step) (found : Found step) → KnowsStep p q clients gives w step found → MayAside p q clients gives w m step → (k : ℕ) → IsAdvance step found k → ((word_at w k).attempt + 3 ≤ (word_at w k).range) × MayAdvance p q clients gives w (call_id k (word_at w k).first) (word_at w k).attempt
  advance_has (UnlockId i from true) found knows may k at = subst (λ n. ((word_at w n).attempt + 3 ≤ (word_at w n).range) × MayAdvance p q clients gives w (call_id n (word_at w n).first) (word_at w n).attempt) at.0 (
    subst (λ (x : Parts). x.attempt + 3 ≤ x.range) (ap parts (sym at.1) ∙ knows.0.1) (let z = knows.4 in omega (arith, z)),
    (let held : SlotFits q w (Locked i may.0 may.1) = subst (SlotFits q w) may.2 fits in subst (λ f. MayAdvance p q clients gives w (call_id i f) (word_at w i).attempt) (sym held.3) (subst (MayAdvance p q clients gives w (call_id i may.0)) (sym held.5) (may.3 refl))),
  )
  advance_has (UnlockId i from false) found knows may k at = absurd at
  advance_has _ found knows may k at = absurd at

  -- the call that lies at a home whose id lives
  at_home : (i : ℕ) (asked : Asked) → i < q.slots → 0 < (word_at w i).state → LiesAt w i asked → In (record { id = call_id i (word_at w i).first; asked = asked }) w.births
  at_home i asked inside live lies = law.homes i asked inside live lies

  in_place : (i first : ℕ) → first ≤ 67108856 → (id_slot (call_id i first) ≡ i) × (id_first (call_id i first) ≡ first)
  in_place i first small = (omega (arith, small), omega (arith, small))

  id_at : (c : Birth) (i : ℕ) → IsCurrent w c → id_slot c.id ≡ i → c.id ≡ call_id i (word_at w i).first
  id_at c i now here = sym (id_back c.id) ∙ (ap (λ n. call_id n (id_first c.id)) here ∙ ap (call_id i) (sym now.0 ∙ ap (λ n. (word_at w n).first) here))

  -- it is that of the range
  own_call : (c : Birth) (i : ℕ) (asked : Asked) → In c w.births → IsCurrent w c → id_slot c.id ≡ i → i < q.slots → 0 < (word_at w i).state → LiesAt w i asked → asked.operation ≡ c.asked.operation
  own_call c i asked there now here inside live lies =
      let id_is : c.id ≡ call_id i (word_at w i).first = id_at c i now here in
      let two = (law.born c there).1 in ⊎_elim
      (λ same. ap (λ (x : Birth). x.asked.operation) (sym same))
      (λ apart. absurd (⊎_elim (λ a. ⊎_elim (λ x. omega (arith, x, id_is, two)) (λ x. let y = (law.born (record { id = call_id i (word_at w i).first; asked = asked }) (at_home i asked inside live lies)).1 in omega (arith, x, id_is, y)) a.0)
      (λ a. ⊎_elim (λ x. let y = (law.born (record { id = call_id i (word_at w i).first; asked = asked }) (at_home i asked inside live lies)).1 in omega (arith, x, id_is, y)) (λ x. omega (arith, x, id_is, two)) a.0) apart))
      (two_of w.births law.apart c (record { id = call_id i (word_at w i).first; asked = asked }) there (at_home i asked inside live lies))

  -- and of no other id
  other_call : (c : Birth) (i : ℕ) (asked : Asked) → In c w.births → (IsCurrent w c → id_slot c.id ≡ i → ⊥) → i < q.slots → 0 < (word_at w i).state → LiesAt w i asked → asked.operation ≢ c.asked.operation
  other_call c i asked there other inside live lies same =
      let home : Birth = record { id = call_id i (word_at w i).first; asked = asked } in
      let at = in_place i (word_at w i).first (low i inside) in
      ⊎_elim
      (λ e. let slot : id_slot c.id ≡ i = ap (λ (x : Birth). id_slot x.id) e ∙ at.0 in let y = (law.born c there).3 in ⊎_elim
      (λ over. let z : id_first c.id + c.asked.range ≤ (word_at w i).first = subst (λ n. id_first c.id + c.asked.range ≤ (word_at w n).first) slot over in
      let f : id_first c.id ≡ (word_at w i).first = ap (λ (x : Birth). id_first x.id) e ∙ at.1 in let two = (law.born c there).1 in absurd (omega (arith, z, f, two)))
      (λ now. absurd (other now slot)) y)
      (λ apart. ⊎_elim (λ a. absurd (a.1 (sym same))) (λ a. absurd (a.1 same)) apart)
      (two_of w.births law.apart c (record { id = call_id i (word_at w i).first; asked = asked }) there (at_home i asked inside live lies))

  -- so an id is another than that of the home, or it is there
  is_other : (c : Birth) → In c w.births → (i : ℕ) (asked : Asked) → i < q.slots → 0 < (word_at w i).state → LiesAt w i asked → (asked.operation ≢ c.asked.operation) ⊎ (IsCurrent w c × (id_slot c.id ≡ i) × (asked.operation ≡ c.asked.operation))
  is_other c there i asked inside live lies = ⊎_elim
      (λ over. inl (other_call c i asked there (λ now slot. let first = now.0 in let two = (law.born c there).1 in omega (arith, over, first, two)) inside live lies))
      (λ now. dite (ℕ_discrete i (id_slot c.id)) (λ here. inr (now, sym here, own_call c i asked there now (sym here) inside live lies)) (λ ne. inl (other_call c i asked there (λ _ slot. ne (sym slot)) inside live lies))) (law.born c there).3

  module _ (step : Step) (found : Found step) (b : Behind step found) (knows : KnowsStep p q clients gives w step found) (may : MayAside p q clients gives w m step) (made : Made p q clients gives w w' m plan sized fits law low step found b knows may)
      (fresh : (c : Birth) (i : ℕ) (asked : Asked) → IsMake step i → In c w.births → m.slot ≡ Claims i (Some asked) → asked.operation ≢ c.asked.operation) where
    still_born : (c : Birth) → In c w.births → In c w'.births
    still_born c there = born_still p q clients gives w w' m plan sized fits law low step found b knows may made fresh c.id c.asked there

    -- no call comes further once its range has ended
    pub ended_still : (c : Birth) (n : ℕ) → EndedAt p q clients gives w c n → EndedAt p q clients gives w' c n
    ended_still c n u = (
      still_born c u.0,
      passed_still p q clients gives w w' m plan sized fits (IsMake step (id_slot c.id)) (IsEnd step (id_slot c.id)) c (turn p q clients gives w w' m plan sized fits step found b knows may (id_slot c.id) (law.born c u.0).0) u.1,
      by_advance (advance_of_step step found b knows),
    )
      where
        by_advance : Advance step found → times c.asked.operation w'.advances ≡ n
        by_advance (none_more same none_) = ap (times c.asked.operation) same ∙ u.2
        by_advance (one_more_at i asked inside lies live more same only none_ has_) = ap (times c.asked.operation) same
            ∙ (times_other c.asked.operation asked.operation w.advances (other_call c i asked u.0 (λ now slot. let over = u.1 in let first = now.0 in let two = (law.born c u.0).1 in omega (arith, over, first, two)) inside live lies) ∙ u.2)

    -- of a call without an id none was advanced
    pub unmade_still : (o : ℕ) → ((c : Birth) → In c w'.births → c.asked.operation ≢ o) → times o w'.advances ≡ 0
    unmade_still o all = by_advance (advance_of_step step found b knows)
      where
        before : times o w.advances ≡ 0
        before = law.unmade o (λ c there. all c (still_born c there))

        by_advance : Advance step found → times o w'.advances ≡ 0
        by_advance (none_more same none_) = ap (times o) same ∙ before
        by_advance (one_more_at i asked inside lies live more same only none_ has_) = ap (times o) same ∙ (times_other o asked.operation w.advances (all (record { id = call_id i (word_at w i).first; asked = asked }) (still_born (record { id = call_id i (word_at w i).first; asked = asked }) (at_home i asked inside live lies))) ∙ before)

    old_attempt : (c : Birth) → In c w.births → (IsMake step (id_slot c.id) → ⊥) → IsCurrent w' c → (word_at w' (id_slot c.id)).attempt ≡ times c.asked.operation w'.advances
    old_attempt c there not_made now = by_advance (advance_of_step step found b knows)
      where
        k : ℕ
        k = id_slot c.id

        inside_k : id_slot c.id < q.slots
        inside_k = (law.born c there).0

        was : IsCurrent w c
        was = let x = law.born c there in current_before p q clients gives w w' m plan sized fits (IsMake step (id_slot c.id)) (IsEnd step (id_slot c.id)) c x.1 x.3 (turn p q clients gives w w' m plan sized fits step found b knows may (id_slot c.id) x.0) now

        by_advance : Advance step found → (word_at w' (id_slot c.id)).attempt ≡ times c.asked.operation w'.advances
        by_advance (none_more same none_) = attempt_same step found b knows (id_slot c.id) inside_k now.1 not_made (none_ (id_slot c.id)) ∙ (law.attempts c there was ∙ ap (times c.asked.operation) (sym same))
        by_advance (one_more_at i asked inside lies live more same only none_ has_) = dite (ℕ_discrete i (id_slot c.id))
            (λ here. let op = own_call c i asked there was (sym here) inside live lies in
            subst (λ n. (word_at w' n).attempt ≡ (word_at w n).attempt + 1) here more ∙ (ap (λ n. n + 1) (law.attempts c there was) ∙ ((let z : times c.asked.operation w.advances + 1 ≡ 1 + times c.asked.operation w.advances = omega arith in z)
            ∙ (sym (times_same c.asked.operation w.advances) ∙ (ap (λ n. times c.asked.operation (n ∷ w.advances)) (sym op) ∙ ap (times c.asked.operation) (sym same))))))
            (λ ne. attempt_same step found b knows (id_slot c.id) inside_k now.1 not_made (λ x. ne (only (id_slot c.id) x)) ∙ (law.attempts c there was
            ∙ (sym (times_other c.asked.operation asked.operation w.advances (other_call c i asked there (λ _ slot. ne (sym slot)) inside live lies)) ∙ ap (times c.asked.operation) (sym same))))

    -- a call whose id was just made was never advanced
    none_yet : (i : ℕ) (asked : Asked) → IsMake step i → m.slot ≡ Claims i (Some asked) → times asked.operation w'.advances ≡ 0
    none_yet i asked is_make slot = by_advance (advance_of_step step found b knows)
      where
        by_advance : Advance step found → times asked.operation w'.advances ≡ 0
        by_advance (none_more same none_) = ap (times asked.operation) same ∙ law.unmade asked.operation (λ d in_. λ e. fresh d i asked is_make in_ slot (sym e))
        by_advance (one_more_at k a in_ at_ live more same only none_ has_) = absurd (none_ i is_make)

    -- an advance leaves the range another attempt
    few_old : (c : Birth) → In c w.births → times c.asked.operation w'.advances + 2 ≤ c.asked.range
    few_old c there = by_advance (advance_of_step step found b knows)
      where
        by_advance : Advance step found → times c.asked.operation w'.advances + 2 ≤ c.asked.range
        by_advance (none_more same none_) = subst (λ ns. times c.asked.operation ns + 2 ≤ c.asked.range) (sym same) (law.few c there)
        by_advance (one_more_at i asked inside lies live more same only none_ has_) = subst (λ ns. times c.asked.operation ns + 2 ≤ c.asked.range) (sym same) (⊎_elim
            (λ ne. subst (λ n. n + 2 ≤ c.asked.range) (sym (times_other c.asked.operation asked.operation w.advances ne)) (law.few c there))
            (λ y. subst (λ n. times c.asked.operation (n ∷ w.advances) + 2 ≤ c.asked.range) (sym y.2) (
            let room : (word_at w (id_slot c.id)).attempt + 3 ≤ (word_at w (id_slot c.id)).range = subst (λ n. (word_at w n).attempt + 3 ≤ (word_at w n).range) (sym y.1) (advance_has step found knows may i has_).0 in
            let count = law.attempts c there y.0 in let range = y.0.2 in let once = times_same c.asked.operation w.advances in omega (arith, room, count, range, once)
            ))
            (is_other c there i asked inside live lies))

    pub few_still : (c : Birth) → In c w'.births → times c.asked.operation w'.advances + 2 ≤ c.asked.range
    few_still c there = by_made made
      where
        by_made : Made p q clients gives w w' m plan sized fits law low step found b knows may → times c.asked.operation w'.advances + 2 ≤ c.asked.range
        by_made (no_more same none_) = few_old c (subst (In c) same there)
        by_made (one_more i asked is_make inside slot same free word range lies others) = by_place (subst (In c) same there)
          where
            by_place : In c ((record { id = call_id i (word_at w i).first; asked = asked }) ∷ w.births) → times c.asked.operation w'.advances + 2 ≤ c.asked.range
            by_place (inl new) = subst (λ (x : Birth). times x.asked.operation w'.advances + 2 ≤ x.asked.range) (sym new) (let none_ = none_yet i asked is_make slot in let two = range.0 in omega (arith, none_, two))
            by_place (inr old) = few_old c old

    -- each advance has its error
    advance_later : (id n : ℕ) → MayAdvance p q clients gives w id n → MayAdvance p q clients gives w' id n
    advance_later id n a = (a.0, subst (In (record { id = id; error = error_of a.0 n })) (sym b.posts) (in_behind (record { id = id; error = error_of a.0 n }) (posts_by step found) w.posts a.1), a.2)

    advanced_old : (c : Birth) → In c w.births → (n : ℕ) → n < times c.asked.operation w'.advances → MayAdvance p q clients gives w' c.id n
    advanced_old c there n less = advance_later c.id n (by_advance (advance_of_step step found b knows))
      where
        by_advance : Advance step found → MayAdvance p q clients gives w c.id n
        by_advance (none_more same none_) = law.advanced c there n (subst (λ ns. n < times c.asked.operation ns) same less)
        by_advance (one_more_at i asked inside lies live more same only none_ has_) = ⊎_elim
            (λ ne. law.advanced c there n (subst (λ k. n < k) (ap (times c.asked.operation) same ∙ times_other c.asked.operation asked.operation w.advances ne) less))
            (λ y. dite (ℕ_discrete n (times c.asked.operation w.advances))
            (λ here. subst (MayAdvance p q clients gives w c.id) (ap (λ k. (word_at w k).attempt) (sym y.1) ∙ (law.attempts c there y.0 ∙ sym here))
            (subst (λ id. MayAdvance p q clients gives w id (word_at w i).attempt) (sym (id_at c i y.0 y.1)) (advance_has step found knows may i has_).1))
            (λ ne. law.advanced c there n (let once : times c.asked.operation w'.advances ≡ 1 + times c.asked.operation w.advances = ap (times c.asked.operation) same ∙ (ap (λ k. times c.asked.operation (k ∷ w.advances)) y.2 ∙ times_same c.asked.operation w.advances) in omega (arith, less, once, ne))))
            (is_other c there i asked inside live lies)

    pub advanced_still : (c : Birth) → In c w'.births → (n : ℕ) → n < times c.asked.operation w'.advances → MayAdvance p q clients gives w' c.id n
    advanced_still c there n less = by_made made
      where
        by_made : Made p q clients gives w w' m plan sized fits law low step found b knows may → MayAdvance p q clients gives w' c.id n
        by_made (no_more same none_) = advanced_old c (subst (In c) same there) n less
        by_made (one_more i asked is_make inside slot same free word range lies others) = by_place (subst (In c) same there)
          where
            by_place : In c ((record { id = call_id i (word_at w i).first; asked = asked }) ∷ w.births) → MayAdvance p q clients gives w' c.id n
            by_place (inl new) = absurd (let none_ = none_yet i asked is_make slot in let z : n < times asked.operation w'.advances = subst (λ (x : Birth). n < times x.asked.operation w'.advances) new less in omega (arith, none_, z))
            by_place (inr old) = advanced_old c old n less

    -- the attempt is how often it was advanced
    pub attempts_still : (c : Birth) → In c w'.births → IsCurrent w' c → (word_at w' (id_slot c.id)).attempt ≡ times c.asked.operation w'.advances
    attempts_still c there now = by_made made
      where
        by_made : Made p q clients gives w w' m plan sized fits law low step found b knows may → (word_at w' (id_slot c.id)).attempt ≡ times c.asked.operation w'.advances
        by_made (no_more same none_) = old_attempt c (subst (In c) same there) (none_ (id_slot c.id)) now
        by_made (one_more i asked is_make inside slot same free word range lies others) = by_place (subst (In c) same there)
          where
            by_place : In c ((record { id = call_id i (word_at w i).first; asked = asked }) ∷ w.births) → (word_at w' (id_slot c.id)).attempt ≡ times c.asked.operation w'.advances
            by_place (inl new) =
                let at = in_place i (word_at w i).first (low i inside) in
                let slot_is : id_slot c.id ≡ i = ap (λ (x : Birth). id_slot x.id) new ∙ at.0 in
                let op_is : c.asked.operation ≡ asked.operation = ap (λ (x : Birth). x.asked.operation) new in
                ap (λ n. (word_at w' n).attempt) slot_is ∙ (ap (λ (x : Parts). x.attempt) word ∙ sym (ap (λ n. times n w'.advances) op_is ∙ none_yet i asked is_make slot))
            by_place (inr old) = old_attempt c old (λ is. absurd (let x = law.born c old in let z = current_before p q clients gives w w' m plan sized fits (IsMake step (id_slot c.id)) (IsEnd step (id_slot c.id)) c x.1 x.3 (turn p q clients gives w w' m plan sized fits step found b knows may (id_slot c.id) x.0) now in
                let live = z.1 in let same_slot : i ≡ id_slot c.id = one_make step i (id_slot c.id) is_make is in let free' : (word_at w (id_slot c.id)).state ≡ 0 = subst (λ n. (word_at w n).state ≡ 0) same_slot free in omega (arith, live, free'))) now
              where
                one_make : (s : Step) (i k : ℕ) → IsMake s i → IsMake s k → i ≡ k
                one_make (MakeId j range) i k a b = sym a ∙ b
                one_make _ i k a b = absurd a
