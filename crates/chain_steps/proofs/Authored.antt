-- The lists of accepted entries, where a seat accepts one, takes in another seat, or is made.
use Rattle.std.proofs.Common.{◌≡◌, ◌≢◌, ℕ, zero, suc, ◌+◌, ◌<◌, ◌⊎◌, eqb, cond, eq-eqb, ne_eqb, true, false, List, [], ◌∷◌, ◌++◌, length, length-append, length-set, map, set, sym, refl, ap, ◌∙◌, subst, inl, inr, ⊎_elim, arith}
use Rattle.std.proofs.lemmas.List.{map-append}
use mathlib.Core.Logic.{dite}
use mathlib.Core.Option.{some, some-injective, some-ne-none}
use native.Mathlib.Decide.{ℕ_discrete}
use lib.ListN.{get_elem?}
use Rattle.sock_model.specs.declared.chain.Entry.{Entry}
use Rattle.sock_model.specs.Authors.{pick, Authored}
use Rattle.chain_steps.proofs.TicketLists.{at_set, at_snoc, old, new, at_longer, at_length}

pub pick_hit : (a : ℕ) (by : List ℕ) (log : List Entry) (e : Entry) → length by ≡ length log → pick a (by ++ a ∷ []) (log ++ e ∷ []) ≡ pick a by log ++ e ∷ []
pick_hit a [] [] e h = ap (λ b. cond b (e ∷ []) []) (eq-eqb a a refl)
pick_hit a [] (x ∷ xs) e h = absurd (omega arith)
pick_hit a (b ∷ bs) [] e h = absurd (omega arith)
pick_hit a (b ∷ bs) (x ∷ xs) e h = let r = pick_hit a bs xs e (omega arith) in
    elim (eqb b a) as (λ q. cond q (x ∷ pick a (bs ++ a ∷ []) (xs ++ e ∷ [])) (pick a (bs ++ a ∷ []) (xs ++ e ∷ [])) ≡ cond q (x ∷ pick a bs xs) (pick a bs xs) ++ e ∷ []) [ true ↦ ap (λ l. x ∷ l) r | false ↦ r ]

pub pick_miss : (a b : ℕ) (by : List ℕ) (log : List Entry) (e : Entry) → b ≢ a → length by ≡ length log → pick a (by ++ b ∷ []) (log ++ e ∷ []) ≡ pick a by log
pick_miss a b [] [] e ne h = ap (λ q. cond q (e ∷ []) []) (ne_eqb b a ne)
pick_miss a b [] (x ∷ xs) e ne h = absurd (omega arith)
pick_miss a b (c ∷ cs) [] e ne h = absurd (omega arith)
pick_miss a b (c ∷ cs) (x ∷ xs) e ne h = let r = pick_miss a b cs xs e ne (omega arith) in
    elim (eqb c a) as (λ q. cond q (x ∷ pick a (cs ++ b ∷ []) (xs ++ e ∷ [])) (pick a (cs ++ b ∷ []) (xs ++ e ∷ [])) ≡ cond q (x ∷ pick a cs xs) (pick a cs xs)) [ true ↦ ap (λ l. x ∷ l) r | false ↦ r ]

map_same : {A B : Type 0} (f g : A → B) (l : List A) → ((i : ℕ) (a : A) → get_elem? l i ≡ some a → f a ≡ g a) → map f l ≡ map g l
map_same f g [] h = refl
map_same f g (x ∷ xs) h = λ w. h zero x refl w ∷ map_same f g xs (λ i a e. h (suc i) a e) w

-- a view with an own list has an author
own_name : {B : Type 0} (f : ℕ → B) (names : List ℕ) (l : B) (ls : List B) → l ∷ ls ≡ map f names → (a : ℕ) × (rest : List ℕ) × (names ≡ a ∷ rest) × (l ≡ f a) × (ls ≡ map f rest)
own_name f [] l ls e = let z : l ∷ ls ≡ [] = e in cc
own_name f (a ∷ rest) l ls e = let z : l ∷ ls ≡ f a ∷ map f rest = e in (a, rest, refl, cc, cc)

module _ {V : Type 0} (lists : V → List (List Entry)) where
  -- C2: the seat id, whose own list is l, accepts e
  pub accepts : (views : List V) (log : List Entry) (id : ℕ) (v w : V) (e : Entry) (l : List Entry) (ls : List (List Entry)) → Authored lists views log → get_elem? views id ≡ some v
      → lists v ≡ l ∷ ls → lists w ≡ (l ++ e ∷ []) ∷ ls → Authored lists (set views id w) (log ++ e ∷ [])
  accepts views log id v w e l ls h at own grown =
      let t = own_name (λ a. pick a h.by log) (h.names id) l ls (sym own ∙ h.lists_are id v at) in
      let first : get_elem? (h.names id) zero ≡ some t.0 = ap (λ (y : List ℕ). get_elem? y zero) t.2 in
      let others : (j i b : ℕ) → get_elem? (h.names j) i ≡ some b → (j ≡ id → i ≢ zero) → pick b (h.by ++ t.0 ∷ []) (log ++ e ∷ []) ≡ pick b h.by log =
      λ j i b g ne. pick_miss b t.0 h.by log e (λ q. let z = h.apart id zero j i t.0 first (g ∙ ap (λ (y : ℕ). some y) (sym q)) in ne (sym z.0) (sym z.1)) h.long in
      record {
        by = h.by ++ t.0 ∷ [];
        names = h.names;
        bound = h.bound;
        long = (let z = h.long in omega (arith, length-append h.by (t.0 ∷ []), length-append log (e ∷ [])));
        lists_are = λ j u g. ⊎_elim
            (λ r. let here : (pick t.0 (h.by ++ t.0 ∷ []) (log ++ e ∷ [])) ∷ map (λ b. pick b (h.by ++ t.0 ∷ []) (log ++ e ∷ [])) t.1 ≡ (l ++ e ∷ []) ∷ ls = λ k.
            (pick_hit t.0 h.by log e h.long ∙ ap (λ (y : List Entry). y ++ e ∷ []) (sym t.3)) k
            ∷ (map_same (λ b. pick b (h.by ++ t.0 ∷ []) (log ++ e ∷ [])) (λ b. pick b h.by log) t.1 (λ i b q. others id (suc i) b (ap (λ (y : List ℕ). get_elem? y (suc i)) t.2 ∙ q) (λ y z. omega arith)) ∙ sym t.4) k in
            ap lists (sym r.1) ∙ (grown ∙ (sym here ∙ (ap (map (λ b. pick b (h.by ++ t.0 ∷ []) (log ++ e ∷ []))) (sym t.2) ∙ ap (λ (y : ℕ). map (λ b. pick b (h.by ++ t.0 ∷ []) (log ++ e ∷ [])) (h.names y)) (sym r.0)))))
            (λ r. h.lists_are j u r.1 ∙ sym (map_same (λ b. pick b (h.by ++ t.0 ∷ []) (log ++ e ∷ [])) (λ b. pick b h.by log) (h.names j) (λ i b q. others j i b q (λ y. absurd (r.0 y)))))
            (at_set views id j w u g);
        apart = h.apart;
        bounded = h.bounded;
        named = λ p b g. let long : length (set views id w) ≡ length views = length-set views id w in elim (at_snoc h.by t.0 p b g) [
          | old o z ↦ (let k = h.named p b o in (k.0, k.1, omega arith, k.3))
          | new o z ↦ (id, zero, (let y = at_length views id v at in omega arith), first ∙ ap (λ (y : ℕ). some y) z)
        ];
      }

at_append : {A : Type 0} (xs ys : List A) (i : ℕ) (a : A) → get_elem? (xs ++ ys) i ≡ some a → (get_elem? xs i ≡ some a) ⊎ ((k : ℕ) × (i ≡ length xs + k) × (get_elem? ys k ≡ some a))
at_append [] ys i a e = inr (i, omega arith, e)
at_append (x ∷ xs) ys zero a e = inl e
at_append (x ∷ xs) ys (suc i) a e = ⊎_elim (λ t. inl t) (λ t. let n = t.1 in inr (t.0, omega arith, t.2)) (at_append xs ys i a e)

at_behind : {A : Type 0} (xs ys : List A) (k : ℕ) (a : A) → get_elem? ys k ≡ some a → get_elem? (xs ++ ys) (length xs + k) ≡ some a
at_behind [] ys k a e = subst (λ y. get_elem? ys y ≡ some a) (omega arith) e
at_behind (x ∷ xs) ys k a e = let n : suc (length xs + k) ≡ length (x ∷ xs) + k = omega arith in subst (λ y. get_elem? (x ∷ xs ++ ys) y ≡ some a) n (at_behind xs ys k a e)

-- the names of the seats once id has taken in other
merged : (ℕ → List ℕ) → ℕ → ℕ → ℕ → List ℕ
merged names id other j = cond (eqb j id) (names id ++ names other) (cond (eqb j other) [] (names j))

merged_id : (names : ℕ → List ℕ) (id other j : ℕ) → j ≡ id → merged names id other j ≡ names id ++ names other
unfolding merged
merged_id names id other j e = ap (λ b. cond b (names id ++ names other) (cond (eqb j other) [] (names j))) (eq-eqb j id e)

merged_other : (names : ℕ → List ℕ) (id other j : ℕ) → j ≢ id → j ≡ other → merged names id other j ≡ []
unfolding merged
merged_other names id other j ne e = ap (λ b. cond b (names id ++ names other) (cond (eqb j other) [] (names j))) (ne_eqb j id ne) ∙ ap (λ b. cond b [] (names j)) (eq-eqb j other e)

merged_else : (names : ℕ → List ℕ) (id other j : ℕ) → j ≢ id → j ≢ other → merged names id other j ≡ names j
unfolding merged
merged_else names id other j ne e = ap (λ b. cond b (names id ++ names other) (cond (eqb j other) [] (names j))) (ne_eqb j id ne) ∙ ap (λ b. cond b [] (names j)) (ne_eqb j other e)

-- where a name stood before: its old view and place, and how the new ones come from them
pub record Origin (names : ℕ → List ℕ) (id other j i a : ℕ) : Type 0 where
  pub view : ℕ
  pub place : ℕ
  pub stood : get_elem? (names view) place ≡ some a
  pub from_other : view ≡ other → (j ≡ id) × (i ≡ length (names id) + place)
  pub from_else : view ≢ other → (j ≡ view) × (i ≡ place)

origin : (names : ℕ → List ℕ) (id other : ℕ) → other ≢ id → (j i a : ℕ) → get_elem? (merged names id other j) i ≡ some a → Origin names id other j i a
origin names id other apart j i a g = dite (ℕ_discrete j id)
    (λ e. let g' : get_elem? (names id ++ names other) i ≡ some a = subst (λ l. get_elem? l i ≡ some a) (merged_id names id other j e) g in
    ⊎_elim (λ s. record { view = id; place = i; stood = s; from_other = λ q. absurd (apart (sym q)); from_else = λ q. (e, refl) })
    (λ t. record { view = other; place = t.0; stood = t.2; from_other = λ q. (e, t.1); from_else = λ q. absurd (q refl) })
    (at_append (names id) (names other) i a g'))
    (λ ne. dite (ℕ_discrete j other)
    (λ e. absurd (some-ne-none a (sym (subst (λ l. get_elem? l i ≡ some a) (merged_other names id other j ne e) g))))
    (λ far. record { view = j; place = i; stood = subst (λ l. get_elem? l i ≡ some a) (merged_else names id other j ne far) g; from_other = λ q. absurd (far q); from_else = λ q. (refl, refl) }))

origin_same : (names : ℕ → List ℕ) (id other j i k l a b : ℕ) (x : Origin names id other j i a) (y : Origin names id other k l b) → x.view ≡ y.view → x.place ≡ y.place → (j ≡ k) × (i ≡ l)
origin_same names id other j i k l a b x y v p = dite (ℕ_discrete x.view other)
    (λ e. let s = x.from_other e in let t = y.from_other (sym v ∙ e) in (s.0 ∙ sym t.0, s.1 ∙ (ap (λ n. length (names id) + n) p ∙ sym t.1)))
    (λ ne. let s = x.from_else ne in let t = y.from_else (λ q. ne (v ∙ q)) in (s.0 ∙ (v ∙ sym t.0), s.1 ∙ (p ∙ sym t.1)))

module _ {V : Type 0} (lists : V → List (List Entry)) where
  -- a seat takes in another
  pub takes_in : (views : List V) (log : List Entry) (id other : ℕ) (v w both spent : V) → Authored lists views log → get_elem? views id ≡ some v → other ≢ id → get_elem? (set views id both) other ≡ some w
      → lists both ≡ lists v ++ lists w → lists spent ≡ [] → Authored lists (set (set views id both) other spent) log
  takes_in views log id other v w both spent h at ne at' joined none = record {
    by = h.by;
    names = merged h.names id other;
    bound = h.bound;
    long = h.long;
    lists_are = λ j u g. ⊎_elim
        (λ r. ap lists (sym r.1) ∙ (none ∙ sym (ap (map (λ a. pick a h.by log)) (merged_other h.names id other j (λ q. ne (sym r.0 ∙ q)) r.0))))
        (λ r. ⊎_elim
        (λ q. let old : get_elem? views other ≡ some w = ⊎_elim (λ z. absurd (ne z.0)) (λ z. z.1) (at_set views id other both w at') in
        ap lists (sym q.1) ∙ (joined ∙ ((λ k. h.lists_are id v at k ++ h.lists_are other w old k) ∙ (sym (map-append (λ a. pick a h.by log) (h.names id) (h.names other)) ∙ sym (ap (map (λ a. pick a h.by log)) (merged_id h.names id other j q.0))))))
        (λ q. h.lists_are j u q.1 ∙ sym (ap (map (λ a. pick a h.by log)) (merged_else h.names id other j q.0 r.0)))
        (at_set views id j both u r.1))
        (at_set (set views id both) other j spent u g);
    apart = λ j i k l a g g'. let x = origin h.names id other ne j i a g in let y = origin h.names id other ne k l a g' in
        let s = h.apart x.view x.place y.view y.place a x.stood y.stood in origin_same h.names id other j i k l a a x y s.0 s.1;
    bounded = λ j i a g. let x = origin h.names id other ne j i a g in h.bounded x.view x.place a x.stood;
    named = λ p a g. let k = h.named p a g in
        let long : length (set (set views id both) other spent) ≡ length views = length-set (set views id both) other spent ∙ length-set views id both in
        let here : id < length views = at_length views id v at in
        dite (ℕ_discrete k.0 other)
        (λ e. (
          id,
          length (h.names id) + k.1,
          omega arith,
          subst (λ l. get_elem? l (length (h.names id) + k.1) ≡ some a) (sym (merged_id h.names id other id refl)) (at_behind (h.names id) (h.names other) k.1 a (subst (λ y. get_elem? (h.names y) k.1 ≡ some a) e k.3)),
        ))
        (λ far. dite (ℕ_discrete k.0 id)
        (λ e. (id, k.1, omega arith, subst (λ l. get_elem? l k.1 ≡ some a) (sym (merged_id h.names id other id refl)) (at_longer (h.names id) (h.names other) k.1 a (subst (λ y. get_elem? (h.names y) k.1 ≡ some a) e k.3))))
        (λ other'. let b = k.2 in (k.0, k.1, omega arith, subst (λ l. get_elem? l k.1 ≡ some a) (sym (merged_else h.names id other k.0 other' far)) k.3)));
  }

pick_none : (a : ℕ) (by : List ℕ) (log : List Entry) → ((p : ℕ) → ¬ (get_elem? by p ≡ some a)) → pick a by log ≡ []
pick_none a [] log h = refl
pick_none a (b ∷ bs) [] h = refl
pick_none a (b ∷ bs) (e ∷ es) h = ap (λ q. cond q (e ∷ pick a bs es) (pick a bs es)) (ne_eqb b a (λ q. h zero (ap (λ (y : ℕ). some y) q))) ∙ pick_none a bs es (λ p. h (suc p))

with_new : (ℕ → List ℕ) → ℕ → ℕ → ℕ → List ℕ
with_new names n a j = cond (eqb j n) (a ∷ []) (names j)

with_new_here : (names : ℕ → List ℕ) (n a j : ℕ) → j ≡ n → with_new names n a j ≡ a ∷ []
unfolding with_new
with_new_here names n a j e = ap (λ b. cond b (a ∷ []) (names j)) (eq-eqb j n e)

with_new_else : (names : ℕ → List ℕ) (n a j : ℕ) → j ≢ n → with_new names n a j ≡ names j
unfolding with_new
with_new_else names n a j e = ap (λ b. cond b (a ∷ []) (names j)) (ne_eqb j n e)

only_one : (a b i : ℕ) → get_elem? (a ∷ []) i ≡ some b → (i ≡ zero) × (a ≡ b)
only_one a b zero e = (refl, some-injective a b e)
only_one a b (suc i) e = absurd (some-ne-none b (sym e))

module _ {V : Type 0} (lists : V → List (List Entry)) where
  -- a seat without entries is made beside the seat id
  pub makes : (views : List V) (log : List Entry) (id : ℕ) (v left right : V) → Authored lists views log → get_elem? views id ≡ some v → lists left ≡ lists v → lists right ≡ [] ∷ []
      → Authored lists (set views id left ++ right ∷ []) log
  makes views log id v left right h at same empty =
      let n : ℕ = length views in
      let old_long : length (set views id left) ≡ length views = length-set views id left in
      let fresh : pick h.bound h.by log ≡ [] = pick_none h.bound h.by log (λ p e. let k = h.named p h.bound e in let b = h.bounded k.0 k.1 h.bound k.3 in absurd (omega arith)) in
      let names' : ℕ → List ℕ = with_new h.names (length views) h.bound in record {
        by = h.by;
        names = with_new h.names (length views) h.bound;
        bound = suc h.bound;
        long = h.long;
        lists_are = λ j u g. elim (at_snoc (set views id left) right j u g) [
          | old o z ↦ ⊎_elim
              (λ r. ap lists (sym r.1) ∙ (same ∙ (h.lists_are id v at ∙ (ap (λ y. map (λ a. pick a h.by log) (h.names y)) (sym r.0) ∙ ap (map (λ a. pick a h.by log)) (sym (with_new_else h.names (length views) h.bound j (omega arith)))))))
              (λ r. h.lists_are j u r.1 ∙ ap (map (λ a. pick a h.by log)) (sym (with_new_else h.names (length views) h.bound j (omega arith))))
              (at_set views id j left u o)
          | new o z ↦ ap lists (sym z) ∙ (empty ∙ ((λ k. sym fresh k ∷ []) ∙ ap (map (λ a. pick a h.by log)) (sym (with_new_here h.names (length views) h.bound j (o ∙ old_long)))))
        ];
        apart = λ j i k l a g g'. dite (ℕ_discrete j (length views))
            (λ e. let x = only_one h.bound a i (subst (λ y. get_elem? y i ≡ some a) (with_new_here h.names (length views) h.bound j e) g) in dite (ℕ_discrete k (length views))
            (λ f. let y = only_one h.bound a l (subst (λ y. get_elem? y l ≡ some a) (with_new_here h.names (length views) h.bound k f) g') in (e ∙ sym f, x.0 ∙ sym y.0))
            (λ f. let b = h.bounded k l a (subst (λ y. get_elem? y l ≡ some a) (with_new_else h.names (length views) h.bound k f) g') in let z = x.1 in absurd (omega arith)))
            (λ e. let x = subst (λ y. get_elem? y i ≡ some a) (with_new_else h.names (length views) h.bound j e) g in dite (ℕ_discrete k (length views))
            (λ f. let y = only_one h.bound a l (subst (λ y. get_elem? y l ≡ some a) (with_new_here h.names (length views) h.bound k f) g') in let b = h.bounded j i a x in let z = y.1 in absurd (omega arith))
            (λ f. h.apart j i k l a x (subst (λ y. get_elem? y l ≡ some a) (with_new_else h.names (length views) h.bound k f) g')));
        bounded = λ j i a g. dite (ℕ_discrete j (length views))
            (λ e. let x = only_one h.bound a i (subst (λ y. get_elem? y i ≡ some a) (with_new_here h.names (length views) h.bound j e) g) in let z = x.1 in omega arith)
            (λ e. let b = h.bounded j i a (subst (λ y. get_elem? y i ≡ some a) (with_new_else h.names (length views) h.bound j e) g) in omega arith);
        named = λ p a g. let k = h.named p a g in let b = k.2 in
            (k.0, k.1, omega (arith, length-append (set views id left) (right ∷ [])), subst (λ y. get_elem? y k.1 ≡ some a) (sym (with_new_else h.names (length views) h.bound k.0 (omega arith))) k.3);
      }

  -- a step that leaves the lists of its seat
  pub keeps_lists : (views : List V) (log : List Entry) (id : ℕ) (v w : V) → Authored lists views log → get_elem? views id ≡ some v → lists w ≡ lists v → Authored lists (set views id w) log
  keeps_lists views log id v w h at same = record {
    by = h.by;
    names = h.names;
    bound = h.bound;
    long = h.long;
    lists_are = λ j u g. ⊎_elim (λ r. ap lists (sym r.1) ∙ (same ∙ (h.lists_are id v at ∙ ap (λ y. map (λ a. pick a h.by log) (h.names y)) (sym r.0)))) (λ r. h.lists_are j u r.1) (at_set views id j w u g);
    apart = h.apart;
    bounded = h.bounded;
    named = λ p a g. let k = h.named p a g in let b = k.2 in let long : length (set views id w) ≡ length views = length-set views id w in (k.0, k.1, omega arith, k.3);
  }
