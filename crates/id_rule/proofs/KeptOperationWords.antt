-- Words of operations, seats that are made and joined, and the table at its start.
use Rattle.std.proofs.Common.{◌≡◌, ◌≢◌, ℕ, ◌*◌, ◌<◌, ◌≤◌, ⊎_elim, Bool, true, false, cond, eq-eqb, ne_eqb, List, get_or, set, length-set, get_or-set_same, get_or-set_other, sym, refl, ap, ◌∙◌, subst, arith}
use Rattle.std.specs.Prelude.{Option as Maybe}
use Rattle.std.specs.List.{flat_map}
use mathlib.Core.Logic.{dite}
use mathlib.Core.Option.{none, some}
use native.Mathlib.Decide.{ℕ_discrete}
use lib.ListN.{get_elem?}
use Rattle.atomic_table.specs.Table.{State, Me, step, keeps, stepped, Allows}
use Rattle.atomic_table.proofs.Lists.{at_set}
use Rattle.corr_core.specs.IdSlotWord.{parts}
use Rattle.corr_core.specs.IdSlotLaw.{Each, SlotLaw}
use Rattle.corr_core.specs.declared.marks.Plan.{Plan}
use Rattle.corr_core.specs.declared.marks.Kept.{Kept}
use Rattle.corr_core.specs.declared.marks.View.{View}
use Rattle.corr_core.proofs.NoteSums.{Inserted, total_insert, each_insert, each_map, gather_more, total_set, pair-same}
use Rattle.corr_core.proofs.Gather.{gather_same}
use Rattle.corr_core.specs.IdTableLayout.{tag_index, id_index, all_words}
use Rattle.id_rule.specs.LawfulIdTable.{KeptFits, kept_in, is_stored, tokens_of, notes_of, tokens_in, notes_in, share_of, local, Lawful, with_kept}
use Rattle.id_rule.specs.IdPlays.{store_told, load_told, found_view}
use Rattle.sock_words.specs.Totals.{total}

-- a step on the word of an operation leaves what is read of each slot
module _ {C : Type 0} (p : Plan) (id : ℕ) (me : Me (Maybe C) (View C)) (x : ℕ) (high : 2 * p.slots ≤ x) (inside : x < all_words p) (real : 0 < me.0.share) (s : State (Maybe C) (View C)) (law : Lawful p s) (here : get_elem? s.views id ≡ some me.0) where
  abbrev ks : List Kept
  ks = flat_map kept_in s.views

  low : ℕ
  low = 2 * p.slots

  module _ (w : View C) (n : ℕ) (share : w.share ≡ me.0.share) (tokens : w.tokens ≡ me.0.tokens) (notes : w.notes ≡ me.0.notes) where
    abbrev ks' : List Kept
    ks' = flat_map kept_in (set s.views id w)

    -- the words that are not 0 stay so, and what stands in them is known
    kept_law : Each (KeptFits (2 * p.slots) (set s.words x n) ks') ks' → ((y : ℕ) → 2 * p.slots ≤ y → get_or (set s.words x n) y 0 ≢ 0 → 0 < total (is_stored y (get_or (set s.words x n) y 0)) ks') → Lawful p (stepped s x n id me.1 w keeps)
    kept_law fits by = record {
      sized = length-set s.words x n ∙ law.sized;
      slots = λ j jl. let path : local s j ≡ local (stepped s x n id me.1 w keeps) j = λ z. record {
        tag = sym (get_or-set_other s.words x (tag_index j) n 0 (λ q. omega arith)) z;
        word = parts (sym (get_or-set_other s.words x (id_index j) n 0 (λ q. omega arith)) z);
        home = get_elem? s.homes j;
        tokens = sym (gather_same (tokens_in j) s.views id me.0 w here (ap (tokens_of j) tokens)) z;
        notes = sym (gather_same (notes_in j) s.views id me.0 w here (ap (notes_of j) notes)) z;
      } in subst SlotLaw path (law.slots j jl);
      kept_fits = fits;
      kept_by = by;
      shares = let t = total_set share_of s.views id me.0 w here in let z = law.shares in omega arith;
      bare = λ j u g none_left. ⊎_elim (λ t. let e = ap share_of t.1 in absurd (omega arith)) (λ t. law.bare j u t.1 none_left) (at_set s.views id j w u g);
    }

  fits_more : (ws' : List ℕ) (ks₁ ks₂ : List Kept) (k : Kept) → Inserted ks₁ ks₂ k → ((y : ℕ) → get_or s.words y 0 ≢ 0 → get_or ws' y 0 ≢ 0) → (u : Kept) → KeptFits (2 * p.slots) s.words ks₁ u → KeptFits (2 * p.slots) ws' ks₂ u
  fits_more ws' ks₁ ks₂ k i stays u h = (h.0, h.1, stays u.place h.2, (let a = h.3 in omega (arith, total_insert i (is_stored u.place u.word))))

  -- T1
  pub stores_law : (n : ℕ) → n ≢ 0 → Lawful p (stepped s x n id me.1 (with_kept x true n me.0) keeps)
  stores_law n some_word =
      let w : View C = with_kept x true n me.0 in let k : Kept = record { place = x; own = true; word = n } in let i = gather_more kept_in s.views id me.0 w k here refl in
      let ws' : List ℕ = set s.words x n in let ks₂ : List Kept = flat_map kept_in (set s.views id w) in
      let here_word : get_or ws' x 0 ≡ n = get_or-set_same s.words x n 0 (let e = law.sized in omega arith) in
      let stays : (y : ℕ) → get_or s.words y 0 ≢ 0 → get_or ws' y 0 ≢ 0 = λ y nz z. dite (ℕ_discrete y x) (λ e. some_word (sym here_word ∙ (ap (λ q. get_or ws' q 0) (sym e) ∙ z))) (λ ne. nz (sym (get_or-set_other s.words x y n 0 ne) ∙ z)) in
      let one : 0 < total (is_stored x n) ks₂ = (let u = pair-same x n in omega (arith, total_insert i (is_stored x n))) in
      kept_law w n refl refl refl
      (each_insert (KeptFits (2 * p.slots) ws' ks₂) i (each_map (KeptFits (2 * p.slots) s.words ks) (KeptFits (2 * p.slots) ws' ks₂) ks (fits_more ws' ks ks₂ k i stays) law.kept_fits) (high, some_word, (λ z. some_word (sym here_word ∙ z)), one))
      (λ y le nz. dite (ℕ_discrete y x)
      (λ e. subst (λ (q : ℕ). 0 < total (is_stored q (get_or ws' q 0)) ks₂) (sym e) (subst (λ (q : ℕ). 0 < total (is_stored x q) ks₂) (sym here_word) one))
      (λ ne. let same : get_or ws' y 0 ≡ get_or s.words y 0 = get_or-set_other s.words x y n 0 ne in subst (λ (q : ℕ). 0 < total (is_stored y q) ks₂) (sym same) (let a = law.kept_by y le (λ z. nz (same ∙ z)) in omega (arith, total_insert i (is_stored y (get_or s.words y 0))))))

  -- T2
  pub finds_law : Lawful p (stepped s x (get_or s.words x 0) id me.1 (found_view x (get_or s.words x 0) me.0) keeps)
  finds_law =
      let n : ℕ = get_or s.words x 0 in let ws' : List ℕ = set s.words x n in
      let same : (y : ℕ) → get_or ws' y 0 ≡ get_or s.words y 0 = λ y. dite (ℕ_discrete y x) (λ e. ap (λ q. get_or ws' q 0) e ∙ (get_or-set_same s.words x n 0 (let e = law.sized in omega arith) ∙ ap (λ q. get_or s.words q 0) (sym e))) (λ ne. get_or-set_other s.words x y n 0 ne) in
      let H : Bool → Type 0 = λ b. Lawful p (stepped s x n id me.1 (cond b me.0 (with_kept x false n me.0)) keeps) in
      dite (ℕ_discrete n 0)
      (λ z. let kk : flat_map kept_in (set s.views id me.0) ≡ ks = gather_same kept_in s.views id me.0 me.0 here refl in
      subst H (sym (eq-eqb n 0 z)) (kept_law me.0 n refl refl refl
      (subst (λ (q : List Kept). Each (KeptFits (2 * p.slots) ws' q) q) (sym kk) (each_map (KeptFits (2 * p.slots) s.words ks) (KeptFits (2 * p.slots) ws' ks) ks (λ u h. (h.0, h.1, (λ y. h.2 (sym (same u.place) ∙ y)), h.3)) law.kept_fits))
      (λ y le nz. subst (λ (q : List Kept). 0 < total (is_stored y (get_or ws' y 0)) q) (sym kk) (subst (λ (q : ℕ). 0 < total (is_stored y q) ks) (sym (same y)) (law.kept_by y le (λ k. nz (same y ∙ k)))))))
      (λ some_word. let w : View C = with_kept x false n me.0 in let k : Kept = record { place = x; own = false; word = n } in let i = gather_more kept_in s.views id me.0 w k here refl in let ks₂ : List Kept = flat_map kept_in (set s.views id w) in
      subst H (sym (ne_eqb n 0 some_word)) (kept_law w n refl refl refl
      (each_insert (KeptFits (2 * p.slots) ws' ks₂) i (each_map (KeptFits (2 * p.slots) s.words ks) (KeptFits (2 * p.slots) ws' ks₂) ks (fits_more ws' ks ks₂ k i (λ y nz z. nz (sym (same y) ∙ z))) law.kept_fits)
      (high, some_word, (λ z. some_word (sym (same x) ∙ z)), (let a = law.kept_by x high some_word in omega (arith, total_insert i (is_stored x n)))))
      (λ y le nz. subst (λ (q : ℕ). 0 < total (is_stored y q) ks₂) (sym (same y)) (let a = law.kept_by y le (λ k. nz (same y ∙ k)) in omega (arith, total_insert i (is_stored y (get_or s.words y 0)))))))

module _ {C : Type 0} (p : Plan) (slots id : ℕ) (me : Me (Maybe C) (View C)) (x : ℕ) (high : 2 * p.slots ≤ x) (inside : x < all_words p) (real : 0 < me.0.share) where
  pub storing : (n : ℕ) → n ≢ 0 → Allows (Lawful p) slots id me x (λ _. n) (λ _. store_told (step slots x n 0 none) me n)
  storing n some_word s law long here fits = (with_kept x true n me.0, keeps, tt, stores_law p id me x high inside real s law here n some_word, refl)

  pub loading : Allows (Lawful p) slots id me x (λ n. n) (load_told (step slots x 0 0 none) me)
  loading s law long here fits = (found_view x (get_or s.words x 0) me.0, keeps, tt, finds_law p id me x high inside real s law here, refl)
