-- The whole rule of a new table, where a seat is split in two, and where two are joined.
use Rattle.std.proofs.Common.{◌≡◌, ℕ, zero, suc, ◌+◌, ◌<◌, ◌≤◌, ◌⊎◌, List, [], ◌∷◌, ◌++◌, length, length-append, set, refl, sym, ap, ◌∙◌, subst, inl, inr, ⊎_elim, arith}
use mathlib.Core.Option.{Option, some, some-injective, some-ne-none}
use lib.ListN.{get_elem?}
use Rattle.atomic_table.specs.Table.{State}
use Rattle.atomic_table.proofs.Lists.{at_set, at_snoc}
use Rattle.sock_model.specs.sock_words.specs.declared.plain.Plan.{Plan}
use Rattle.sock_model.specs.declared.chain.Entry.{Entry}
use Rattle.sock_model.specs.declared.home.Home.{Home}
use Rattle.sock_model.specs.declared.view.View.{View}
use Rattle.sock_model.specs.MarkWeights.{only, is_ref}
use Rattle.sock_model.specs.Marks.{about}
use Rattle.sock_model.specs.ViewsOfSplitSeats.{newcomer, spent, joined, IsBare, first_view}
use Rattle.sock_model.specs.LawfulSockets.{Lawful}
use Rattle.sock_model.specs.Rule.{FoundWords, MOST_ACCEPTED, AreShort, lists_of, Rule}
use Rattle.slot_steps.proofs.SlotWeightSums.{total-set, total-append, total_bound}
use Rattle.sock_steps.proofs.Reseat.{splitting_law, joining_law}
use Rattle.sock_model.specs.sock_words.specs.Totals.{total}

at_append : {A : Type 0} (xs ys : List A) (i : ℕ) (a : A) → get_elem? (xs ++ ys) i ≡ some a → (get_elem? xs i ≡ some a) ⊎ ((k : ℕ) × (get_elem? ys k ≡ some a))
at_append [] ys i a e = inr (i, e)
at_append (x ∷ xs) ys zero a e = inl e
at_append (x ∷ xs) ys (suc i) a e = at_append xs ys i a e

no_found : (p : Plan) (ws : List ℕ) (v : View) → v.found ≡ [] → FoundWords p ws v
no_found p ws v none_ n x e = absurd (some-ne-none x (sym (subst (λ (l : List ℕ). get_elem? l n ≡ some x) none_ e)))

one_empty : (v : View) → v.lists ≡ [] ∷ [] → AreShort v
one_empty v is n l e = empty_at n l (subst (λ (ls : List (List Entry)). get_elem? ls n ≡ some l) is e)
  where
    empty_at : (n : ℕ) (l : List Entry) → get_elem? ([] ∷ []) n ≡ some l → length l ≤ MOST_ACCEPTED
    empty_at zero l e = let a = ap length (some-injective [] l e) in omega arith
    empty_at (suc n) l e = absurd (some-ne-none l (sym e))

one_view : (v u : View) (i : ℕ) → get_elem? (v ∷ []) i ≡ some u → v ≡ u
one_view v u zero e = some-injective v u e
one_view v u (suc i) e = absurd (some-ne-none u (sym e))

-- a seat that found and accepted nothing yet
pub record IsFresh (p : Plan) (v : View) : Type 0 where
  pub plan : v.plan ≡ p
  pub found : v.found ≡ []
  pub lists : v.lists ≡ [] ∷ []

-- what is lawful with such seats, of which there are no more than the table has, is the whole rule
pub fresh_rule : {S : Type 0} {shows : S → Home} {p : Plan} {s : State S View} → Lawful shows p s → ((id : ℕ) (v : View) → get_elem? s.views id ≡ some v → IsFresh p v) → length s.views ≤ p.seats → p.seats ≤ 64 → Rule shows p s
fresh_rule {S} {shows} {p} {s} o fresh seats few = record {
  lawful = o;
  plans = λ id v e. inl (fresh id v e).plan;
  found_words = λ id v e. no_found p s.words v (fresh id v e).found;
  few_messages = record {
    few_seats = few;
    few_lists = omega (arith, total_bound lists_of 1 s.views (λ id v e. let a = ap length (fresh id v e).lists in omega arith));
    short = λ id v e. one_empty v (fresh id v e).lists;
  };
}

-- a new table, whose first seat has all passes
pub opening_rule : {S : Type 0} (shows : S → Home) (p : Plan) (ws : List ℕ) (hs : List (Option S)) → 1 ≤ p.seats → p.seats ≤ 64 → Lawful shows p record { words = ws; homes = hs; views = first_view p ∷ [] } → Rule shows p record { words = ws; homes = hs; views = first_view p ∷ [] }
opening_rule shows p ws hs some_ few o = fresh_rule o (λ id v e. subst (IsFresh p) (one_view (first_view p) v id e) record { plan = refl; found = refl; lists = refl }) (omega arith) few

-- a seat gives away some of its passes to a new one, as long as the table has another seat
pub splitting_rule : {S : Type 0} {shows : S → Home} {p : Plan} {s : State S View} (r : Rule shows p s) (id : ℕ) (v : View) → get_elem? s.views id ≡ some v → v.plan ≡ p → (mine its : List ℕ) (some_ more : ℕ)
    → ((k : ℕ) → total (only k) mine + total (only k) its ≤ total (only k) v.passes) → some_ + more + 1 ≤ v.spare → total lists_of s.views < p.seats
    → Rule shows p record { words = s.words; homes = s.homes; views = set s.views id (record v { passes = mine; spare = some_ }) ++ newcomer p its more ∷ [] }
splitting_rule {S} {shows} {p} {s} r id v here plan mine its some_ more passes room another = let left : View = record v { passes = mine; spare = some_ } in let right : View = newcomer p its more in
    let first : List View = set s.views id (record v { passes = mine; spare = some_ }) in
    record {
      lawful = splitting_law shows p s r.lawful id v here p mine its some_ more passes room (sym plan);
      plans = λ j u g. ⊎_elim (λ a. ⊎_elim (λ y. inl (ap (λ (z : View). z.plan) (sym y.1) ∙ plan)) (λ y. r.plans j u y.1) (at_set s.views id j left u a)) (λ e. inl (ap (λ (z : View). z.plan) (sym e))) (at_snoc first right u j g);
      found_words = λ j u g. ⊎_elim (λ a. ⊎_elim (λ y. subst (FoundWords p s.words) y.1 (λ n x e. r.found_words id v here n x e)) (λ y. r.found_words j u y.1) (at_set s.views id j left u a))
          (λ e. subst (FoundWords p s.words) e (no_found p s.words right refl)) (at_snoc first right u j g);
      few_messages = record {
        few_seats = r.few_messages.few_seats;
        few_lists = omega (arith, total-append lists_of first (right ∷ []), total-set lists_of s.views id v left here);
        short = λ j u g. ⊎_elim (λ a. ⊎_elim (λ y. subst AreShort y.1 (λ n l e. r.few_messages.short id v here n l e)) (λ y. r.few_messages.short j u y.1) (at_set s.views id j left u a))
            (λ e. subst AreShort e (one_empty right refl)) (at_snoc first right u j g);
      };
    }

-- a seat takes in another one, which has no reference, claim, entry, right or link in hand; its notes and lists are kept
pub joining_rule : {S : Type 0} {shows : S → Home} {p : Plan} {s : State S View} (r : Rule shows p s) (id other : ℕ) (v w : View) → get_elem? s.views id ≡ some v → v.plan ≡ p → ¬ (other ≡ id) → get_elem? (set s.views id (joined v w)) other ≡ some w
    → IsBare w → ((i : ℕ) → i < p.slots → total is_ref (about i w.marks) ≡ 0) → Rule shows p record { words = s.words; homes = s.homes; views = set (set s.views id (joined v w)) other spent }
joining_rule {S} {shows} {p} {s} r id other v w here plan ne there bare idle = let both : View = joined v w in let vs : List View = set s.views id (joined v w) in
    let its : get_elem? s.views other ≡ some w = ⊎_elim (λ y. absurd (ne y.0)) (λ y. y.1) (at_set s.views id other both w there) in
    let found : FoundWords p s.words (joined v w) = λ n x e. ⊎_elim (λ a. r.found_words id v here n x a) (λ a. r.found_words other w its a.0 x a.1) (at_append v.found w.found n x e) in
    let short : AreShort (joined v w) = λ n l e. ⊎_elim (λ a. r.few_messages.short id v here n l a) (λ a. r.few_messages.short other w its a.0 l a.1) (at_append v.lists w.lists n l e) in
    record {
      lawful = joining_law shows p s r.lawful id other v w here ne there bare idle;
      plans = λ j u g. ⊎_elim (λ a. inr (sym a.1)) (λ a. ⊎_elim (λ y. inl (ap (λ (z : View). z.plan) (sym y.1) ∙ plan)) (λ y. r.plans j u y.1) (at_set s.views id j both u a.1)) (at_set vs other j spent u g);
      found_words = λ j u g. ⊎_elim (λ a. subst (FoundWords p s.words) a.1 (no_found p s.words spent refl)) (λ a. ⊎_elim (λ y. subst (FoundWords p s.words) y.1 found) (λ y. r.found_words j u y.1) (at_set s.views id j both u a.1)) (at_set vs other j spent u g);
      few_messages = record {
        few_seats = r.few_messages.few_seats;
        few_lists = (let a = r.few_messages.few_lists in omega (arith, total-set lists_of s.views id v both here, total-set lists_of vs other w spent there, length-append v.lists w.lists));
        short = λ j u g. ⊎_elim (λ a. subst AreShort a.1 (λ n l e. absurd (some-ne-none l (sym e)))) (λ a. ⊎_elim (λ y. subst AreShort y.1 short) (λ y. r.few_messages.short j u y.1) (at_set s.views id j both u a.1)) (at_set vs other j spent u g);
      };
    }
