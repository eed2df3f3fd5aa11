-- How many entries of the log have a weight: those that the lists of all views have.
use Rattle.std.proofs.Common.{◌≡◌, ◌≢◌, ℕ, zero, suc, ◌+◌, ◌<◌, ◌≤◌, eqb, cond, eq-eqb, ne_eqb, List, [], ◌∷◌, length, map, refl, sym, ap, ◌∙◌, arith}
use mathlib.Core.Logic.{dite}
use mathlib.Core.Option.{some}
use native.Mathlib.Decide.{ℕ_discrete}
use lib.ListN.{get_elem?}
use Rattle.sock_model.specs.declared.chain.Entry.{Entry}
use Rattle.sock_model.specs.Entries.{on}
use Rattle.sock_model.specs.Authors.{pick, Authored}
use Rattle.chain_core.specs.slot_steps.proofs.SlotWeightSums.{total_parts}
use Rattle.chain_core.specs.sock_steps.proofs.Positions.{spread, spread_parts, spread_has}
use Rattle.sock_rule.proofs.LastSeatOfSockets.{none_of}
use Rattle.sock_words.specs.Totals.{total}

module _ (h : Entry → ℕ) where
  -- what the entry x of author b adds to the weight of author a
  adds : ℕ → Entry → ℕ → ℕ
  adds b x a = cond (eqb b a) (h x) 0

  adds_own : (b : ℕ) (x : Entry) → adds b x b ≡ h x
  unfolding adds
  adds_own b x = ap (λ t. cond t (h x) 0) (eq-eqb b b refl)

  -- the weight of an author's entries
  weight : List ℕ → List Entry → ℕ → ℕ
  weight by log a = total h (pick a by log)

  weight_more : (b : ℕ) (bs : List ℕ) (x : Entry) (xs : List Entry) (a : ℕ) → weight (b ∷ bs) (x ∷ xs) a ≡ adds b x a + weight bs xs a
  unfolding adds weight
  weight_more b bs x xs a = dite (ℕ_discrete b a)
      (λ y. let q = ap (λ t. total h (cond t (x ∷ pick a bs xs) (pick a bs xs))) (eq-eqb b a y) in let k = ap (λ t. cond t (h x) 0) (eq-eqb b a y) in omega arith)
      (λ n. let q = ap (λ t. total h (cond t (x ∷ pick a bs xs) (pick a bs xs))) (ne_eqb b a n) in let k = ap (λ t. cond t (h x) 0) (ne_eqb b a n) in omega arith)

  -- all entries are those of the authors that views keep
  by_names : (names : ℕ → List ℕ) (n : ℕ) (by : List ℕ) (log : List Entry) → length by ≡ length log → ((q a : ℕ) → get_elem? by q ≡ some a → (id : ℕ) × (i : ℕ) × (id < n) × (get_elem? (names id) i ≡ some a)) → total h log ≤ spread names n (weight by log)
  by_names names n [] [] long named = omega arith
  by_names names n [] (x ∷ xs) long named = absurd (omega arith)
  by_names names n (b ∷ bs) [] long named = absurd (omega arith)
  by_names names n (b ∷ bs) (x ∷ xs) long named = let here = named zero b refl in
      omega (arith, by_names names n bs xs (omega arith) (λ q a e. named (suc q) a e), spread_parts names n (weight (b ∷ bs) (x ∷ xs)) (adds b x) (weight bs xs) (weight_more b bs x xs), spread_has names n (adds b x) here.0 here.1 b here.2 here.3, adds_own b x)

  lists_weight : (by : List ℕ) (log : List Entry) (names : List ℕ) → total (total h) (map (λ a. pick a by log) names) ≡ total (weight by log) names
  unfolding weight
  lists_weight by log [] = refl
  lists_weight by log (a ∷ names) = omega (arith, lists_weight by log names)

  views_weight : {V : Type 0} (lists : V → List (List Entry)) (views : List V) (by : List ℕ) (log : List Entry) (names : ℕ → List ℕ)
      → ((id : ℕ) (v : V) → get_elem? views id ≡ some v → lists v ≡ map (λ a. pick a by log) (names id)) → total (λ v. total (total h) (lists v)) views ≡ spread names (length views) (weight by log)
  unfolding spread
  views_weight lists [] by log names are = refl
  views_weight lists (v ∷ vs) by log names are = omega (arith, views_weight lists vs by log (λ i. names (suc i)) (λ id u g. are (suc id) u g), ap (total (total h)) (are zero v refl), lists_weight by log (names zero))

  -- what the log weighs, the lists of all views weigh at least
  pub log_weight : {V : Type 0} (lists : V → List (List Entry)) (views : List V) (log : List Entry) → Authored lists views log → total h log ≤ total (λ v. total (total h) (lists v)) views
  log_weight lists views log a = omega (arith, by_names a.names (length views) a.by log a.long (λ q b e. a.named q b e), views_weight lists views a.by log a.names (λ id v g. a.lists_are id v g))

  -- ## Lists of different authors

  adds_once : (b : ℕ) (x : Entry) (names : List ℕ) → ((i k a : ℕ) → get_elem? names i ≡ some a → get_elem? names k ≡ some a → i ≡ k) → total (adds b x) names ≤ h x
  unfolding adds
  adds_once b x [] apart = omega arith
  adds_once b x (n ∷ ns) apart = dite (ℕ_discrete b n)
      (λ e. let rest = none_of (adds b x) ns (λ i a g. ap (λ t. cond t (h x) 0) (ne_eqb b a (λ q. (let z = apart zero (suc i) n refl (g ∙ ap (λ (y : ℕ). some y) (sym q ∙ e)) in omega arith)))) in let k = ap (λ t. cond t (h x) 0) (eq-eqb b n e) in omega arith)
      (λ ne. let k = ap (λ t. cond t (h x) 0) (ne_eqb b n ne) in omega (arith, adds_once b x ns (λ i j a g f. (let z = apart (suc i) (suc j) a g f in omega arith))))

  names_less : (names by : List ℕ) (log : List Entry) → length by ≡ length log → ((i k a : ℕ) → get_elem? names i ≡ some a → get_elem? names k ≡ some a → i ≡ k) → total (weight by log) names ≤ total h log
  unfolding weight
  names_less names [] log e apart = omega (arith, none_of (weight [] log) names (λ i a g. refl))
  names_less names (b ∷ bs) [] e apart = absurd (omega arith)
  names_less names (b ∷ bs) (x ∷ xs) e apart = omega (arith, names_less names bs xs (omega arith) apart, total_parts (weight (b ∷ bs) (x ∷ xs)) (adds b x) (weight bs xs) (weight_more b bs x xs) names, adds_once b x names apart)

  -- what lists of different authors weigh, the log weighs at least
  pub names_weight : (names by : List ℕ) (log : List Entry) → length by ≡ length log → ((i k a : ℕ) → get_elem? names i ≡ some a → get_elem? names k ≡ some a → i ≡ k) → total (total h) (map (λ a. pick a by log) names) ≤ total h log
  names_weight names by log long apart = omega (arith, lists_weight by log names, names_less names by log long apart)

  -- ## The chain of a link

  pub on_weight : (k : ℕ) (log : List Entry) → total h (on k log) ≤ total h log
  on_weight k [] = omega arith
  on_weight k (x ∷ xs) = let r = on_weight k xs in dite (ℕ_discrete x.link k)
      (λ e. let q = ap (λ t. total h (cond t (x ∷ on k xs) (on k xs))) (eq-eqb x.link k e) in omega arith)
      (λ n. let q = ap (λ t. total h (cond t (x ∷ on k xs) (on k xs))) (ne_eqb x.link k n) in omega arith)

  -- those of two links stand apart
  pub on_both : (k m : ℕ) (log : List Entry) → k ≢ m → total h (on k log) + total h (on m log) ≤ total h log
  on_both k m [] apart = omega arith
  on_both k m (x ∷ xs) apart = let r = on_both k m xs apart in dite (ℕ_discrete x.link k)
      (λ e. let q = ap (λ t. total h (cond t (x ∷ on k xs) (on k xs))) (eq-eqb x.link k e) in let z = ap (λ t. total h (cond t (x ∷ on m xs) (on m xs))) (ne_eqb x.link m (λ f. apart (sym e ∙ f))) in omega arith)
      (λ n. let q = ap (λ t. total h (cond t (x ∷ on k xs) (on k xs))) (ne_eqb x.link k n) in dite (ℕ_discrete x.link m)
      (λ e. let z = ap (λ t. total h (cond t (x ∷ on m xs) (on m xs))) (eq-eqb x.link m e) in omega arith)
      (λ f. let z = ap (λ t. total h (cond t (x ∷ on m xs) (on m xs))) (ne_eqb x.link m f) in omega arith))

  -- where one entry at most has a weight, and no more than 1
  pub one_at_most : (log : List Entry) → ((i j : ℕ) (a b : Entry) → get_elem? log i ≡ some a → get_elem? log j ≡ some b → 0 < h a → 0 < h b → i ≡ j) → ((x : Entry) → h x ≤ 1) → total h log ≤ 1
  one_at_most [] one small = omega arith
  one_at_most (x ∷ xs) one small = dite (ℕ_discrete (h x) 0)
      (λ none. omega (arith, one_at_most xs (λ i j a b f g p q. (let z = one (suc i) (suc j) a b f g p q in omega arith)) small))
      (λ some_. let rest = none_of h xs (λ i a g. dite (ℕ_discrete (h a) 0) (λ e. e) (λ ne. absurd (let z = one zero (suc i) x a refl g (omega arith) (omega arith) in omega arith))) in omega (arith, small x))
