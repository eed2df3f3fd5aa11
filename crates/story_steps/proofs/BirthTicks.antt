-- The law of the ids that were made holds behind a step aside, as far as it speaks of no errors.
use Rattle.std.proofs.Common.{◌≡◌, ◌≢◌, ℕ, ◌+◌, ◌<◌, ◌≤◌, ◌⊎◌, inl, inr, ⊎_elim, List, [], ◌∷◌, length, Some, refl, sym, ap, ◌∙◌, subst, arith}
use Rattle.std.specs.List.{AllByRecursion}
use mathlib.Core.Logic.{dite}
use native.Mathlib.Decide.{ℕ_discrete}
use Rattle.sock_words.specs.declared.plain.Plan.{Plan}
use Rattle.corr_core.specs.IdSlotWord.{Parts, made_word}
use Rattle.corr_core.specs.declared.marks.Plan.{Plan as IdPlan}
use Rattle.seat_programs.specs.id_rule.specs.LawfulIdTable.{all_words}
use Rattle.sock_message.specs.Asked.{Asked}
use Rattle.seat_programs.specs.declared.task.Task.{Task}
use Rattle.seat_programs.specs.Asides.{Step, Found}
use Rattle.call_stories.specs.Scenes.{Birth, Scene, IsBorn}
use Rattle.call_stories.specs.Says.{Claims, Mark, MayAside}
use Rattle.call_stories.specs.CallStories.{word_at, LiesAt, SlotFits, HasPassed, IsCurrent, AreApart, AllApart, BirthsLaw, IsBehind, KnowsStep}
use Rattle.call_stories.proofs.Effects.{SameAt}
use Rattle.story_steps.proofs.Births.{Turn, keeps, ends, makes, IsMake, IsEnd, turn, there_still}
use Rattle.call_stories.specs.Below.outcome_stories.specs.OperationStories.{In}
use Rattle.sock_words.specs.PackedWords.{call_id, id_slot, id_first}

-- ## Ids apart

pub all_in : {A : Type 0} (P : A → Type 0) (xs : List A) → ((x : A) → In x xs → P x) → AllByRecursion P xs
all_in P [] all = tt
all_in P (x ∷ xs) all = (all x (inl refl), all_in P xs (λ y there. all y (inr there)))

pub in_all : {A : Type 0} (P : A → Type 0) (xs : List A) → AllByRecursion P xs → (x : A) → In x xs → P x
in_all P [] all x there = absurd there
in_all P (y ∷ ys) all x (inl same) = subst P (sym same) all.0
in_all P (y ∷ ys) all x (inr there) = in_all P ys all.1 x there

-- any two of them are the same, or apart
pub two_of : (bs : List Birth) → AllApart bs → (a b : Birth) → In a bs → In b bs → (a ≡ b) ⊎ (AreApart a b ⊎ AreApart b a)
two_of [] all a b x y = absurd x
two_of (c ∷ cs) all a b (inl x) (inl y) = inl (x ∙ sym y)
two_of (c ∷ cs) all a b (inl x) (inr y) = inr (inl (subst (λ z. AreApart z b) (sym x) (in_all (AreApart c) cs all.0 b y)))
two_of (c ∷ cs) all a b (inr x) (inl y) = inr (inr (subst (λ z. AreApart z a) (sym y) (in_all (AreApart c) cs all.0 a x)))
two_of (c ∷ cs) all a b (inr x) (inr y) = two_of cs all.1 a b x y

pub one_call : (bs : List Birth) → AllApart bs → ((b : Birth) → In b bs → 2 ≤ b.asked.range) → (id : ℕ) (a c : Asked) → In (record { id = id; asked = a }) bs → In (record { id = id; asked = c }) bs → a ≡ c
one_call bs all some_ id a c x y = ⊎_elim (λ same. ap (λ (b : Birth). b.asked) same) (λ z. absurd (let u = some_ (record { id = id; asked = a }) x in let v = some_ (record { id = id; asked = c }) y in
    ⊎_elim (λ t. ⊎_elim (λ s. omega (arith, s, u)) (λ s. omega (arith, s, v)) t.0) (λ t. ⊎_elim (λ s. omega (arith, s, v)) (λ s. omega (arith, s, u)) t.0) z))
    (two_of bs all (record { id = id; asked = a }) (record { id = id; asked = c }) x y)

module _ (p : Plan) (q : IdPlan) (clients : List (List Task)) (gives : ℕ → List ℕ) (w w' : Scene) (m : Mark) (plan : w.core.calls.plan ≡ q) (sized : length w.core.calls.words ≡ all_words q) (fits : SlotFits q w m.slot) (law : BirthsLaw p q clients gives w)
    (low : (k : ℕ) → k < q.slots → (word_at w k).first ≤ 67108856) (step : Step) (found : Found step) (b : IsBehind p q clients gives w w' m step found) (knows : KnowsStep p q clients gives w step found) (may : MayAside p q clients gives w m step) where
  -- whether the step made an id
  pub data Made : Type 0 where
    no_more : w'.births ≡ w.births → ((k : ℕ) → IsMake step k → ⊥) → Made
    one_more : (i : ℕ) (asked : Asked) → IsMake step i → i < q.slots → m.slot ≡ Claims i (Some asked) → w'.births ≡ (record { id = call_id i (word_at w i).first; asked = asked }) ∷ w.births → (word_at w i).state ≡ 0 → word_at w' i ≡ made_word (word_at w i).first asked.range
        → (2 ≤ asked.range) × (asked.range ≤ 8) → ((a : Asked) → LiesAt w' i a → a ≡ asked) → ((k : ℕ) → k < q.slots → i ≢ k → SameAt p q clients gives k w w') → Made

  module _ (made : Made) (fresh : (c : Birth) (i : ℕ) (asked : Asked) → IsMake step i → In c w.births → m.slot ≡ Claims i (Some asked) → asked.operation ≢ c.asked.operation) where
    turns : (k : ℕ) → k < q.slots → Turn (IsMake step k) (IsEnd step k) (word_at w k) (word_at w' k)
    turns k inside = turn p q clients gives w w' m plan sized fits step found b knows may k inside

    slot_of : (i first : ℕ) → first ≤ 67108856 → (id_slot (call_id i first) ≡ i) × (id_first (call_id i first) ≡ first)
    slot_of i first small = (omega (arith, small), omega (arith, small))

    abbrev IsFitting : Birth → Type 0
    IsFitting c = (id_slot c.id < q.slots) × (2 ≤ c.asked.range) × (c.asked.range ≤ 8) × (HasPassed w' c ⊎ IsCurrent w' c)

    old_fits : (c : Birth) → In c w.births → IsFitting c
    old_fits c there = let x = law.born c there in (x.0, x.1, x.2, there_still p q clients gives w w' m plan sized fits (IsMake step (id_slot c.id)) (IsEnd step (id_slot c.id)) c (turns (id_slot c.id) x.0) x.3)

    pub born : (c : Birth) → In c w'.births → IsFitting c
    born c there = by_made made
      where
        by_made : Made → IsFitting c
        by_made (no_more same none_) = old_fits c (subst (In c) same there)
        by_made (one_more i asked is_make inside slot same free word range lies others) = by_place (subst (In c) same there)
          where
            by_place : In c ((record { id = call_id i (word_at w i).first; asked = asked }) ∷ w.births) → IsFitting c
            by_place (inl new) = let s = slot_of i (word_at w i).first (low i inside) in subst IsFitting (sym new) (
              subst (λ n. n < q.slots) (sym s.0) inside,
              range.0,
              range.1,
              inr (subst (λ n. ((word_at w' n).first ≡ id_first (call_id i (word_at w i).first)) × (0 < (word_at w' n).state) × ((word_at w' n).range ≡ asked.range)) (sym s.0)
                  (ap (λ (x : Parts). x.first) word ∙ sym s.1, subst (λ (x : Parts). 0 < x.state) (sym word) (omega arith), ap (λ (x : Parts). x.range) word)),
            )
            by_place (inr old) = old_fits c old

    -- what was born is
    pub born_still : (id : ℕ) (asked : Asked) → IsBorn w id asked → IsBorn w' id asked
    born_still id asked there = by_made made
      where
        by_made : Made → IsBorn w' id asked
        by_made (no_more same none_) = subst (In (record { id = id; asked = asked })) (sym same) there
        by_made (one_more i a is_make inside slot same free word range lies others) = subst (In (record { id = id; asked = asked })) (sym same) (inr there)

    pub alive : (k : ℕ) → k < q.slots → 0 < (word_at w' k).state → (asked : Asked) × IsBorn w' (call_id k (word_at w' k).first) asked
    alive k inside live = by_made made
      where
        kept : (word_at w' k).first ≡ (word_at w k).first → 0 < (word_at w k).state → (asked : Asked) × IsBorn w' (call_id k (word_at w' k).first) asked
        kept first before = let x = law.alive k inside before in (x.0, subst (λ n. IsBorn w' (call_id k n) x.0) (sym first) (born_still (call_id k (word_at w k).first) x.0 x.1))

        by_turn : ((IsMake step k) → ⊥) → Turn (IsMake step k) (IsEnd step k) (word_at w k) (word_at w' k) → (asked : Asked) × IsBorn w' (call_id k (word_at w' k).first) asked
        by_turn none_ (keeps first range on back) = kept first (back live)
        by_turn none_ (ends it first over) = absurd (omega (arith, live, over))
        by_turn none_ (makes is free first one) = absurd (none_ is)

        by_made : Made → (asked : Asked) × IsBorn w' (call_id k (word_at w' k).first) asked
        by_made (no_more same none_) = by_turn (none_ k) (turns k inside)
        by_made (one_more i asked is_make low_ slot same free word range lies others) = dite (ℕ_discrete i k)
            (λ here. subst (λ n. (a : Asked) × IsBorn w' (call_id n (word_at w' n).first) a) here
            (asked, subst (λ n. IsBorn w' (call_id i n) asked) (sym (ap (λ (x : Parts). x.first) word)) (subst (In (record { id = call_id i (word_at w i).first; asked = asked })) (sym same) (inl refl))))
            (λ ne. let x = others k inside ne in kept (ap (λ (y : Parts). y.first) x.word) (subst (λ (y : Parts). 0 < y.state) x.word live))

    pub apart : AllApart w'.births
    apart = by_made made
      where
        by_made : Made → AllApart w'.births
        by_made (no_more same none_) = subst AllApart (sym same) law.apart
        by_made (one_more i asked is_make inside slot same free word range lies others) = subst AllApart (sym same) (all_in (AreApart (record { id = call_id i (word_at w i).first; asked = asked })) w.births each, law.apart)
          where
            spaced : (c : Birth) → In c w.births → (call_id i (word_at w i).first + asked.range ≤ c.id) ⊎ (c.id + c.asked.range ≤ call_id i (word_at w i).first)
            spaced c there = let x = law.born c there in let own = low i inside in let other = low (id_slot c.id) x.0 in
                dite (ℕ_discrete (id_slot c.id) i)
                (λ here. inr (⊎_elim (λ passed. let z : id_first c.id + c.asked.range ≤ (word_at w i).first = subst (λ n. id_first c.id + c.asked.range ≤ (word_at w n).first) here passed in omega (arith, z, here))
                (λ now. absurd (let z : 0 < (word_at w i).state = subst (λ n. 0 < (word_at w n).state) here now.1 in omega (arith, z, free))) x.3))
                (λ ne. let high : id_first c.id + c.asked.range ≤ 67108864 = ⊎_elim (λ passed. omega (arith, passed, other)) (λ now. let z = now.0 in let r = x.2 in omega (arith, z, other, r)) x.3 in let r = range.1 in
                Rattle.std.proofs.Common.⊎_elim (λ less. inr (omega (arith, less, high))) (λ more. inl (omega (arith, more, own, r))) (sides (id_slot c.id) i ne))
              where
                sides : (x y : ℕ) → x ≢ y → (x + 1 ≤ y) ⊎ (y + 1 ≤ x)
                sides x y ne = by_test (Rattle.std.proofs.Common.ltb x y) refl
                  where
                    by_test : (t : Rattle.std.proofs.Common.Bool) → Rattle.std.proofs.Common.ltb x y ≡ t → (x + 1 ≤ y) ⊎ (y + 1 ≤ x)
                    by_test Rattle.std.proofs.Common.true is = inl (let z = Rattle.std.proofs.Common.ltb-true x y is in omega (arith, z))
                    by_test Rattle.std.proofs.Common.false is = inr (let z = Rattle.std.proofs.Common.ltb-false x y is in omega (arith, z, ne))

            each : (c : Birth) → In c w.births → AreApart (record { id = call_id i (word_at w i).first; asked = asked }) c
            each c there = (spaced c there, fresh c i asked is_make there slot)

    -- ## What lies at home

    pub homes : ((k : ℕ) (a : Asked) → k < q.slots → LiesAt w' k a → LiesAt w k a ⊎ (0 < (word_at w k).state → IsBorn w (call_id k (word_at w k).first) a)) → (k : ℕ) (a : Asked) → k < q.slots → 0 < (word_at w' k).state → LiesAt w' k a → IsBorn w' (call_id k (word_at w' k).first) a
    homes before k a inside live there = by_made made
      where
        kept : (word_at w' k).first ≡ (word_at w k).first → 0 < (word_at w k).state → IsBorn w' (call_id k (word_at w' k).first) a
        kept first now = subst (λ n. IsBorn w' (call_id k n) a) (sym first) (born_still (call_id k (word_at w k).first) a (⊎_elim (λ lies. law.homes k a inside now lies) (λ f. f now) (before k a inside there)))

        by_turn : ((IsMake step k) → ⊥) → Turn (IsMake step k) (IsEnd step k) (word_at w k) (word_at w' k) → IsBorn w' (call_id k (word_at w' k).first) a
        by_turn none_ (keeps first range on back) = kept first (back live)
        by_turn none_ (ends it first over) = absurd (omega (arith, live, over))
        by_turn none_ (makes is free first one) = absurd (none_ is)

        by_made : Made → IsBorn w' (call_id k (word_at w' k).first) a
        by_made (no_more same none_) = by_turn (none_ k) (turns k inside)
        by_made (one_more i asked is_make low_ slot same free word range lies others) = dite (ℕ_discrete i k)
            (λ here. let is : a ≡ asked = lies a (subst (λ n. LiesAt w' n a) (sym here) there) in
            subst (λ n. IsBorn w' (call_id n (word_at w' n).first) a) here (subst (λ n. IsBorn w' (call_id i n) a) (sym (ap (λ (x : Parts). x.first) word)) (subst (λ c. IsBorn w' (call_id i (word_at w i).first) c) (sym is) (subst (In (record { id = call_id i (word_at w i).first; asked = asked })) (sym same) (inl refl)))))
            (λ ne. let x = others k inside ne in kept (ap (λ (y : Parts). y.first) x.word) (subst (λ (y : Parts). 0 < y.state) x.word live))
