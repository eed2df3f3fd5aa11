-- A seat that is split off, one that is taken in, and the table at its start.
use Rattle.std.proofs.Common.{◌≡◌, ◌≢◌, ℕ, zero, suc, ◌+◌, ◌*◌, ◌<◌, ◌≤◌, ⊎_elim, true, false, cond, eqb, List, [], ◌∷◌, ◌++◌, map, None, get_or, set, replicate, sym, refl, ap, ◌∙◌, subst, arith}
use Rattle.std.specs.Prelude.{Option as Maybe}
use Rattle.std.specs.List.{flat_map}
use mathlib.Core.Option.{none, some, some-injective, some-ne-none}
use lib.ListN.{get_elem?}
use mathlib.Core.Logic.{dite}
use native.Mathlib.Decide.{ℕ_discrete}
use Rattle.atomic_table.specs.Table.{Joins, Splits, opening}
use Rattle.atomic_table.specs.declared.shared.Seat.{Seat}
use Rattle.atomic_table.proofs.Lists.{at_set, at_snoc}
use Rattle.corr_core.specs.IdSlotWord.{parts, free_word}
use Rattle.corr_core.specs.IdSlotLaw.{is_made, Each, Local, SlotLaw, vacant}
use Rattle.corr_core.specs.declared.marks.Plan.{Plan}
use Rattle.corr_core.specs.declared.marks.Note.{Note}
use Rattle.corr_core.specs.declared.marks.Noted.{Noted}
use Rattle.corr_core.specs.declared.marks.Kept.{Kept}
use Rattle.corr_core.specs.declared.marks.View.{View}
use Rattle.corr_core.proofs.NoteSums.{each_map, total_set}
use Rattle.corr_core.proofs.Gather.{gather_same}
use Rattle.corr_core.proofs.Shuffles.{shuffled, total_flat, each_of, each_in, each_both, flat_snoc}
use Rattle.corr_id.specs.SeatBehindIdCalls.{is_saw}
use Rattle.corr_id.specs.IdTableSeat.{Stays}
use Rattle.corr_id.specs.Ruled.{FreshBehind, Known, Ruled}
use Rattle.corr_core.specs.IdTableLayout.{tag_index, id_index}
use Rattle.id_rule.specs.LawfulIdTable.{KeptFits, kept_in, is_stored, tokens_of, notes_of, tokens_in, notes_in, share_of, local, IsBare, Lawful, Unused, first_view, spent, newcomer, lighter, joined}
use Rattle.sock_words.specs.PackedWords.{id_slot, id_first}
use Rattle.sock_words.specs.Totals.{total}

pub total_append : {A : Type 0} (g : A → ℕ) (l m : List A) → total g (l ++ m) ≡ total g l + total g m
total_append g [] m = omega arith
total_append g (x ∷ xs) m = omega (arith, total_append g xs m)

at_else : {A : Type 0} (l : List A) (i j : ℕ) (a b : A) → ¬ (j ≡ i) → get_elem? (set l i a) j ≡ some b → get_elem? l j ≡ some b
at_else l i j a b ne e = ⊎_elim (λ t. absurd (ne t.0)) (λ t. t.1) (at_set l i j a b e)

-- an exchange of a word leaves the slots in hand, whether it exchanged or not
pub exchange_stays : {C : Type 0} (s t : Seat (Maybe C) (View C)) (found from : ℕ) → t.table_id ≡ s.table_id → t.id ≡ s.id → (found ≡ from → t.me.1 ≡ s.me.1) → (found ≢ from → t.me.1 ≡ s.me.1) → Stays s t
exchange_stays s t found from same one hit miss = (same, one, dite (ℕ_discrete found from) hit miss)

module _ {C : Type 0} where
  pub notes_append : (i : ℕ) (a b : List (Noted C)) → notes_of i (a ++ b) ≡ notes_of i a ++ notes_of i b
  notes_append i [] b = refl
  notes_append i (x ∷ xs) b = let r = notes_append i xs b in
      elim (eqb x.slot i) as (λ z. cond z (x.note ∷ notes_of i (xs ++ b)) (notes_of i (xs ++ b)) ≡ cond z (x.note ∷ notes_of i xs) (notes_of i xs) ++ notes_of i b) [ true ↦ ap (λ l. x.note ∷ l) r | false ↦ r ]

  total_at : {A : Type 0} (f : View C → List A) (g : A → ℕ) (vs : List (View C)) (id other : ℕ) (v w u e : View C) → get_elem? vs id ≡ some v → get_elem? (set vs id u) other ≡ some w → f u ≡ f v ++ f w → f e ≡ [] → total g (flat_map f (set (set vs id u) other e)) ≡ total g (flat_map f vs)
  total_at f g vs id other v w u e at at' both none_left =
      let h : View C → ℕ = λ y. total g (f y) in let a = total_set h vs id v u at in let b = total_set h (set vs id u) other w e at' in
      let c : h u ≡ h v + h w = ap (total g) both ∙ total_append g (f v) (f w) in let d : h e ≡ 0 = ap (total g) none_left in
      let x = total_flat f g vs in let y = total_flat f g (set (set vs id u) other e) in omega arith

  each_at : {A : Type 0} (f : View C → List A) (P : A → Type 0) (vs : List (View C)) (id other : ℕ) (v w u e : View C) → get_elem? vs id ≡ some v → ¬ (other ≡ id) → get_elem? vs other ≡ some w → f u ≡ f v ++ f w → f e ≡ [] → Each P (flat_map f vs) → Each P (flat_map f (set (set vs id u) other e))
  each_at f P vs id other v w u e at ne at' both none_left h = each_in f P (set (set vs id u) other e) (λ j y g. ⊎_elim
      (λ t. subst (λ (q : View C). Each P (f q)) t.1 (subst (Each P) (sym none_left) tt))
      (λ t. ⊎_elim
      (λ q. subst (λ (z : View C). Each P (f z)) q.1 (subst (Each P) (sym both) (each_both f P (f v) (f w) (each_of f P vs id v h at) (each_of f P vs other w h at'))))
      (λ q. each_of f P vs j y h q.1) (at_set vs id j u y t.1))
      (at_set (set vs id u) other j e y g))

  joining_law : (p : Plan) (id other : ℕ) (v w : View C) → w.tokens ≡ [] → Joins (Lawful p) id v other w (joined v w) spent
  joining_law p id other v w idle s law at ne at' =
      let u : View C = joined v w in let vs : List (View C) = set (set s.views id u) other spent in let there = at_else s.views id other u w ne at' in
      let kept_total : (g : Kept → ℕ) → total g (flat_map kept_in vs) ≡ total g (flat_map kept_in s.views) = λ g. total_at kept_in g s.views id other v w u spent at at' refl refl in record {
        sized = law.sized;
        slots = λ j jl.
            let tokens : flat_map (tokens_in j) vs ≡ flat_map (tokens_in j) s.views = gather_same (tokens_in j) (set s.views id u) other w spent at' (sym (ap (tokens_of j) idle)) ∙ gather_same (tokens_in j) s.views id v u at refl in
            let k = shuffled (flat_map (notes_in j) s.views) (flat_map (notes_in j) vs) (λ g. total_at (notes_in j) g s.views id other v w u spent at at' (notes_append j v.notes w.notes) refl)
            (λ P. each_at (notes_in j) P s.views id other v w u spent at ne there (notes_append j v.notes w.notes) refl) (local s j) refl (law.slots j jl) in
            let path : record { tag = (local s j).tag; word = (local s j).word; home = (local s j).home; tokens = (local s j).tokens; notes = flat_map (notes_in j) vs } ≡ local (record { words = s.words; homes = s.homes; views = vs }) j =
            λ z. record { tag = (local s j).tag; word = (local s j).word; home = (local s j).home; tokens = sym tokens z; notes = flat_map (notes_in j) vs } in subst SlotLaw path k;
        kept_fits = each_at kept_in (KeptFits (2 * p.slots) s.words (flat_map kept_in vs)) s.views id other v w u spent at ne there refl refl
            (each_map (KeptFits (2 * p.slots) s.words (flat_map kept_in s.views)) (KeptFits (2 * p.slots) s.words (flat_map kept_in vs)) (flat_map kept_in s.views)
            (λ k h. (h.0, h.1, h.2, (let z = h.3 in let y = kept_total (is_stored k.place k.word) in omega arith))) law.kept_fits);
        kept_by = λ x le n. let a = law.kept_by x le n in let y = kept_total (is_stored x (get_or s.words x 0)) in omega arith;
        shares = let a = total_set share_of s.views id v u at in let b = total_set share_of (set s.views id u) other w spent at' in let c = law.shares in omega arith;
        bare = λ j y g none_left. ⊎_elim
            (λ t. subst IsBare t.1 record { no_tokens = refl; no_notes = refl; no_kept = refl })
            (λ t. ⊎_elim
            (λ q. let e : v.share + w.share ≡ 0 = ap share_of q.1 ∙ none_left in let a = law.bare id v at (omega arith) in let b = law.bare other w there (omega arith) in
            subst IsBare q.1 record { no_tokens = a.no_tokens; no_notes = (λ z. a.no_notes z ++ b.no_notes z); no_kept = (λ z. a.no_kept z ++ b.no_kept z) })
            (λ q. law.bare j y q.1 none_left) (at_set s.views id j u y t.1))
            (at_set (set s.views id u) other j spent y g);
      }

  -- the same is known together
  joining_known : (vs : List (View C)) (id other : ℕ) (v w : View C) → get_elem? vs id ≡ some v → get_elem? (set vs id (joined v w)) other ≡ some w → Known vs → Known (set (set vs id (joined v w)) other spent)
  joining_known vs id other v w at at' k =
      let noted : (i : ℕ) (g : Note C → ℕ) → total g (flat_map (notes_in i) (set (set vs id (joined v w)) other spent)) ≡ total g (flat_map (notes_in i) vs) = λ i g. total_at (notes_in i) g vs id other v w (joined v w) spent at at' (notes_append i v.notes w.notes) refl in record {
        named = λ x n even h. (
            let a = total_at kept_in (is_stored x n) vs id other v w (joined v w) spent at at' refl refl in let b = noted (id_slot n) (is_made (id_first n)) in
            let c = k.named x n even (omega (arith, a, h)) in omega (arith, b, c)
            );
        in_turn = λ i word h. k.in_turn i word (let a = noted i (is_saw word) in omega (arith, a, h));
      }

  pub joining : (p : Plan) (id other : ℕ) (v w : View C) → w.tokens ≡ [] → Joins (Ruled p) id v other w (joined v w) spent
  joining p id other v w idle s r at ne at' = record {
    lawful = joining_law p id other v w idle s r.lawful at ne at';
    fresh = λ j jl. subst (Each (FreshBehind (local s j).word)) (sym (gather_same (tokens_in j) (set s.views id (joined v w)) other w spent at' (sym (ap (tokens_of j) idle)) ∙ gather_same (tokens_in j) s.views id v (joined v w) at refl)) (r.fresh j jl);
    known = joining_known s.views id other v w at at' r.known;
  }

  splitting_law : (p : Plan) (id : ℕ) (v : View C) → 2 ≤ v.share → Splits (Lawful p) id v (lighter v) newcomer
  splitting_law p id v two s law at =
      let u : View C = lighter v in let vs : List (View C) = set s.views id u ++ newcomer ∷ [] in
      let kept : flat_map kept_in vs ≡ flat_map kept_in s.views = flat_snoc kept_in (set s.views id u) newcomer refl ∙ gather_same kept_in s.views id v u at refl in record {
        sized = law.sized;
        slots = λ j jl. let path : local s j ≡ local (record { words = s.words; homes = s.homes; views = vs }) j = λ z. record {
          tag = (local s j).tag;
          word = (local s j).word;
          home = (local s j).home;
          tokens = sym (flat_snoc (tokens_in j) (set s.views id u) newcomer refl ∙ gather_same (tokens_in j) s.views id v u at refl) z;
          notes = sym (flat_snoc (notes_in j) (set s.views id u) newcomer refl ∙ gather_same (notes_in j) s.views id v u at refl) z;
        } in subst SlotLaw path (law.slots j jl);
        kept_fits = subst (λ (q : List Kept). Each (KeptFits (2 * p.slots) s.words q) q) (sym kept) law.kept_fits;
        kept_by = λ x le n. subst (λ (q : List Kept). 0 < total (is_stored x (get_or s.words x 0)) q) (sym kept) (law.kept_by x le n);
        shares = let a = total_set share_of s.views id v u at in let c = law.shares in omega (arith, total_append share_of (set s.views id u) (newcomer ∷ []));
        bare = λ j y g none_left. ⊎_elim
            (λ t. ⊎_elim (λ q. let e = ap share_of q.1 in absurd (omega arith)) (λ q. law.bare j y q.1 none_left) (at_set s.views id j u y t))
            (λ t. let e = ap share_of t in absurd (omega arith)) (at_snoc (set s.views id u) newcomer y j g);
      }

  splitting_known : (vs : List (View C)) (id : ℕ) (v : View C) → get_elem? vs id ≡ some v → Known vs → Known (set vs id (lighter v) ++ newcomer ∷ [])
  splitting_known vs id v at k =
      let noted : (i : ℕ) → flat_map (notes_in i) (set vs id (lighter v) ++ newcomer ∷ []) ≡ flat_map (notes_in i) vs = λ i. flat_snoc (notes_in i) (set vs id (lighter v)) newcomer refl ∙ gather_same (notes_in i) vs id v (lighter v) at refl in
      let kept : flat_map kept_in (set vs id (lighter v) ++ newcomer ∷ []) ≡ flat_map kept_in vs = flat_snoc kept_in (set vs id (lighter v)) newcomer refl ∙ gather_same kept_in vs id v (lighter v) at refl in record {
        named = λ x n even h. subst (λ (l : List (Note C)). 0 < total (is_made (id_first n)) l) (sym (noted (id_slot n))) (k.named x n even (subst (λ (l : List Kept). 0 < total (is_stored x n) l) kept h));
        in_turn = λ i word h. k.in_turn i word (subst (λ (l : List (Note C)). 0 < total (is_saw word) l) (noted i) h);
      }

  pub splitting : (p : Plan) (id : ℕ) (v : View C) → 2 ≤ v.share → Splits (Ruled p) id v (lighter v) newcomer
  splitting p id v two s r at = record {
    lawful = splitting_law p id v two s r.lawful at;
    fresh = λ j jl. subst (Each (FreshBehind (local s j).word)) (sym (flat_snoc (tokens_in j) (set s.views id (lighter v)) newcomer refl ∙ gather_same (tokens_in j) s.views id v (lighter v) at refl)) (r.fresh j jl);
    known = splitting_known s.views id v at r.known;
  }

  all_none : (n i : ℕ) → i < n → get_elem? (map some (replicate {A = Maybe C} n None)) i ≡ some (some None)
  all_none zero i h = absurd (omega arith)
  all_none (suc n) zero h = refl
  all_none (suc n) (suc i) h = all_none n i (omega arith)

  opening_lawful : (p : Plan) (ws : List ℕ) → Unused p ws → 1 ≤ p.seats → Lawful p (opening ws (replicate {A = Maybe C} p.slots None) (first_view p))
  opening_lawful p ws u some_seat = record {
    sized = u.sized;
    slots = λ i il. let l : Local C = record { tag = get_or ws (tag_index i) 0; word = parts (get_or ws (id_index i) 0); home = get_elem? (map some (replicate {A = Maybe C} p.slots None)) i; tokens = []; notes = [] } in
        let is : l.word ≡ free_word 1 = u.ids i il in let first : l.word.first ≡ 1 = ap (λ (y : Rattle.corr_core.specs.IdSlotWord.Parts). y.first) is in let state : l.word.state ≡ 0 = ap (λ (y : Rattle.corr_core.specs.IdSlotWord.Parts). y.state) is in
        let tag : l.tag ≡ 0 = u.tags i il in
        let k : SlotLaw l = record {
          b = λ g. none;
          first_some = omega arith;
          first_low = omega arith;
          story = record { fits = tt; births = λ g x e. absurd (some-ne-none x (sym e)); apart = λ g k x y e u lt. absurd (some-ne-none x (sym e)); made = λ g. refl; ended_past = λ g lt. refl; ended_not = λ g le. refl; attempt_once = λ g n. omega arith; one_by_one = λ g n some_. absurd (omega arith); unborn = λ g z. refl; ended_at = λ g n m some_ lt. refl };
          now = record { not_later = omega arith; is_born = λ z. absurd (omega arith); was_locked = λ z. absurd (omega arith); advanced = λ z. absurd (omega arith); oldest_by = λ z n. absurd (omega arith); second_by = λ z n. absurd (omega arith) };
          stands = vacant refl tag state (omega arith) (all_none p.slots i il);
          used = λ z. absurd (omega arith);
        } in k;
    kept_fits = tt;
    kept_by = λ x le n. absurd (n (u.rest x le));
    shares = omega arith;
    bare = λ id v e none_left. first_bare id v e none_left;
  } where
    first_bare : (id : ℕ) (v : View C) → get_elem? (first_view {C = C} p ∷ []) id ≡ some v → v.share ≡ 0 → IsBare v
    first_bare zero v e z = let q = ap share_of (some-injective (first_view p) v e) in absurd (omega arith)
    first_bare (suc id) v e z = absurd (some-ne-none v (sym e))

  pub opening_law : (p : Plan) (ws : List ℕ) → Unused p ws → 1 ≤ p.seats → Ruled p (opening ws (replicate {A = Maybe C} p.slots None) (first_view p))
  opening_law p ws u some_seat = record { lawful = opening_lawful p ws u some_seat; fresh = λ i il. tt; known = record { named = λ x n even h. absurd (omega (arith, h)); in_turn = λ i w h. absurd (omega (arith, h)) } }
