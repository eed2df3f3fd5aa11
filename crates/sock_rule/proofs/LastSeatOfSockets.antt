-- What the rule says of the words and of the one seat that stands for all.
use Rattle.std.proofs.Common.{◌≡◌, ℕ, zero, suc, ◌+◌, ◌-◌, ◌%◌, ◌<◌, ◌≤◌, ⊎_elim, eqb, List, [], ◌∷◌, ◌++◌, length, map, refl, sym, ap, ◌∙◌, subst, arith}
use mathlib.Core.Logic.{dite}
use mathlib.Core.Option.{some, some-injective, some-ne-none}
use native.Mathlib.Decide.{ℕ_discrete}
use lib.ListN.{get_elem?}
use Rattle.atomic_table.specs.Table.{State}
use Rattle.atomic_table.proofs.Lists.{at_map}
use Rattle.sock_words.specs.declared.plain.Plan.{Plan}
use Rattle.sock_model.specs.declared.home.Home.{Home}
use Rattle.sock_model.specs.declared.marks.Mark.{Mark}
use Rattle.sock_model.specs.declared.view.View.{View}
use Rattle.sock_model.specs.MarkWeights.{tally, life, is_busy, is_ref, is_claimed, is_any_coding, is_coding, is_zero, is_tried, is_known, is_born, is_saw, is_failer, is_freer, is_stored, is_told, is_linked, is_met}
use Rattle.sock_model.specs.Marks.{about}
use Rattle.sock_model.specs.SocketSlotLaw.{live, count, SlotLaw}
use Rattle.sock_model.specs.References.{slot_facts}
use Rattle.sock_model.specs.SlotRows.{marks_of}
use Rattle.sock_model.specs.declared.marks.Mark.TheVariants.{Coding}
use Rattle.chain_core.specs.slot_steps.proofs.RuleNumbers.{only_le, live_le, live_is, life-in, life-high, life_is, life_le}
use Rattle.chain_core.specs.slot_steps.proofs.SlotWeightSums.{total_mono}
use Rattle.chain_core.specs.slot_steps.proofs.SlotLawClauses as clauses
use Rattle.sock_rule.specs.OnTable.{share_of, put_in, IsIdle, OnTable}
use Rattle.sock_rule.specs.ClosingWordsAndNotes.{IsAtRest, Closing, Ordered}
use Rattle.sock_model.specs.declared.chain.Entry.{Entry}
use Rattle.sock_model.specs.Authors.{pick}
use Rattle.chain_core.specs.chain_steps.proofs.TicketLists.{at_some}
use Rattle.std.specs.List.{filter, flat_map}
use Rattle.sock_model.specs.declared.chain.Claim.{Claim}
use Rattle.sock_model.specs.ChainLawReads.{claims_of}
use Rattle.chain_core.specs.sock_steps.proofs.Positions.{full_log}
use Rattle.sock_words.specs.Totals.{total}

pub two_terms : {A : Type 0} (g : A → ℕ) (vs : List A) (i j : ℕ) (v u : A) → get_elem? vs i ≡ some v → get_elem? vs j ≡ some u → ¬ (j ≡ i) → g v + g u ≤ total g vs
two_terms g [] i j v u e f ne = absurd (some-ne-none v (sym e))
two_terms g (x ∷ xs) zero zero v u e f ne = absurd (ne refl)
two_terms g (x ∷ xs) zero (suc j) v u e f ne = let a = ap g (some-injective x v e) in let b = term g xs j u f in omega arith
  where
    term : {A : Type 0} (g : A → ℕ) (vs : List A) (i : ℕ) (v : A) → get_elem? vs i ≡ some v → g v ≤ total g vs
    term g [] i v e = absurd (some-ne-none v (sym e))
    term g (x ∷ xs) zero v e = let a = ap g (some-injective x v e) in omega arith
    term g (x ∷ xs) (suc i) v e = let a : g v ≤ total g xs = term g xs i v e in omega arith
two_terms g (x ∷ xs) (suc i) zero v u e f ne = let a = ap g (some-injective x u f) in let b = term g xs i v e in omega arith
  where
    term : {A : Type 0} (g : A → ℕ) (vs : List A) (i : ℕ) (v : A) → get_elem? vs i ≡ some v → g v ≤ total g vs
    term g [] i v e = absurd (some-ne-none v (sym e))
    term g (x ∷ xs) zero v e = let a = ap g (some-injective x v e) in omega arith
    term g (x ∷ xs) (suc i) v e = let a : g v ≤ total g xs = term g xs i v e in omega arith
two_terms g (x ∷ xs) (suc i) (suc j) v u e f ne = let a = two_terms g xs i j v u e f (λ q. ne (ap suc q)) in omega arith

-- where no other has any, the sum is that of one
pub none_of : {A : Type 0} (g : A → ℕ) (vs : List A) → ((j : ℕ) (u : A) → get_elem? vs j ≡ some u → g u ≡ 0) → total g vs ≡ 0
none_of g [] h = refl
none_of g (x ∷ xs) h = let a = h zero x refl in let b = none_of g xs (λ j u e. h (suc j) u e) in omega arith

pub only_one : {A : Type 0} (g : A → ℕ) (vs : List A) (i : ℕ) (v : A) → get_elem? vs i ≡ some v → ((j : ℕ) (u : A) → get_elem? vs j ≡ some u → ¬ (j ≡ i) → g u ≡ 0) → total g vs ≡ g v
only_one g [] i v e h = absurd (some-ne-none v (sym e))
only_one g (x ∷ xs) zero v e h = let a = ap g (some-injective x v e) in let b = none_of g xs (λ j u f. h (suc j) u f (λ q. omega arith)) in omega arith
only_one g (x ∷ xs) (suc i) v e h = let a = h zero x refl (λ q. omega arith) in let b = only_one g xs i v e (λ j u f n. h (suc j) u f (λ q. n (omega arith))) in omega arith

-- the sum over the marks of all seats is the sum over the seats
tally_is : (f : Mark → ℕ) (i : ℕ) (vs : List View) → tally f (map (λ (u : View). about i u.marks) vs) ≡ total (marks_of f i) vs
tally_is f i [] = refl
tally_is f i (x ∷ xs) = let a = tally_is f i xs in omega arith

module _ {S : Type 0} {shows : S → Home} {rose : S → ℕ} {p : Plan} (s : State S View) (t : OnTable shows rose p s) (id : ℕ) (v : View) (here : get_elem? s.views id ≡ some v) (all : v.share ≡ p.seats) where
  pub others : (j : ℕ) (u : View) → get_elem? s.views j ≡ some u → ¬ (j ≡ id) → IsIdle u
  others j u e ne = let a = two_terms share_of s.views id j v u here e ne in let b = t.shares in t.idle j u e (omega arith)

  pub counts : (f : Mark → ℕ) (i : ℕ) → count f (slot_facts s i) ≡ marks_of f i v
  counts f i = tally_is f i s.views ∙ only_one (marks_of f i) s.views id v here (λ j u e ne. ap (λ es. total f (about i es)) (others j u e ne).marks)

  pub put_is : (x w : ℕ) → total (put_in x w) s.views ≡ put_in x w v
  put_is x w = only_one (put_in x w) s.views id v here (λ j u e ne. (others j u e ne).stores x w)

  module _ (rest : IsAtRest p v) (free : (i : ℕ) → i < p.slots → marks_of is_ref i v ≡ 0) where
    module _ (i : ℕ) (il : i < p.slots) where
      law : SlotLaw p.first (live (slot_facts s i)) (slot_facts s i)
      law = t.rule.lawful.references.slots i il

      lives_le : live (slot_facts s i) ≤ 1
      lives_le = live_le (slot_facts s i).tag (slot_facts s i).version _

      even_ : (slot_facts s i).version % 2 ≡ 0
      even_ = dite (ℕ_discrete ((slot_facts s i).version % 2) 0) (λ e. e) (λ ne.
          let odd : (slot_facts s i).version % 2 ≡ 1 = omega arith in let z = law.zero_noted odd in let c = law.counted in let r = counts is_ref i in let f = free i il in
          let le = lives_le in
          dite (ℕ_discrete (live (slot_facts s i)) 0)
          (λ none_. let n = rest.no_zero i (slot_facts s i).version il in let q = counts (is_zero (slot_facts s i).version) i in let zz = z (omega arith) in absurd (omega arith))
          (λ some_. let d = live_is (slot_facts s i).tag (slot_facts s i).version (tally is_busy (slot_facts s i).marks) (omega arith) in let d1 = d.1 in absurd (omega arith)))

      failed_is : (h : ℕ) → marks_of (is_failer h) i v ≡ life p.first h (slot_facts s i).version
      failed_is h = sym (counts (is_failer h) i) ∙ law.failed h

      ended_is : (h : ℕ) → marks_of (is_freer h) i v ≡ life p.first h ((slot_facts s i).version - 1)
      ended_is h = sym (counts (is_freer h) i) ∙ law.ended h

      born_is : (h : ℕ) → marks_of (is_born h) i v ≡ life p.first h ((slot_facts s i).version + live (slot_facts s i))
      born_is h = sym (counts (is_born h) i) ∙ law.born h

      born_life : (h : ℕ) → 0 < marks_of (is_born h) i v → (p.first ≤ h) × (h % 2 ≡ 0)
      born_life h b = let a = life_is p.first h ((slot_facts s i).version + live (slot_facts s i)) (omega (arith, born_is h)) in (a.0, a.2)

    pub closing : Closing p v s.words
    closing = record {
      found_was = λ n x e. omega (arith, t.found_was id v here n x e, put_is x.place x.word);
      stored = t.stored;
      put = λ x w. t.put x w ∙ put_is x w;
      met = t.met id v here;
      even = λ i il. even_ i il;
      one_or_none = λ i il. omega (arith, (law i il).counted, counts is_ref i, free i il, lives_le i il);
      one_where_live = λ i il. let w : ℕ = (slot_facts s i).version in let n : ℕ = live (slot_facts s i) in let known = born_is i il (slot_facts s i).version in
          let c = (law i il).counted in let r = counts is_ref i in let none_ = free i il in let le = lives_le i il in let e = even_ i il in let b = (law i il).begun in
          dite (ℕ_discrete (live (slot_facts s i)) 0)
          (λ zero_. let h = life-high p.first w (w + n) (omega arith) in omega arith)
          (λ some_. let h = life-in p.first w (w + n) b (omega arith) e in omega arith);
      born_once = λ i h il. omega (arith, born_is i il h, life_le p.first h ((slot_facts s i).version + live (slot_facts s i)));
      born_life = λ i h il b. born_life i il h b;
      failed_once = λ i h il b lt. let a = born_life i il h b in failed_is i il h ∙ life-in p.first h (slot_facts s i).version a.0 lt a.1;
      not_failed = λ i h il le. failed_is i il h ∙ life-high p.first h (slot_facts s i).version le;
      coded = λ i h il. let k = ((law i il).codes id (about i v.marks) (at_map (λ (u : View). about i u.marks) s.views id v here)).0 h in let a = rest.uncoding i il in
          let le = total_mono (is_coding h) is_any_coding (coding_any h) (about i v.marks) in omega arith;
      ended_once = λ i h il b lt. let a = born_life i il h b in let a1 = a.1 in let e = even_ i il in ended_is i il h ∙ life-in p.first h ((slot_facts s i).version - 1) a.0 (omega arith) a.1;
      not_ended = λ i h il le. ended_is i il h ∙ life-high p.first h ((slot_facts s i).version - 1) (omega arith);
      dead_failed = λ i h w il k sw lt. sym (counts (is_failer h) i) ∙ clauses.dead_failed p.first (slot_facts s i) (law i il) h w (omega (arith, counts (is_known h) i)) (omega (arith, counts (is_saw w) i)) lt;
      told_stored = λ i h c il td. let a = (law i il).told h c (omega (arith, counts (is_told h c) i)) in omega (arith, counts (is_stored h c) i);
      met_linked = λ i h k il m. let a = (law i il).met h k (omega (arith, counts (is_met h k) i)) in omega (arith, counts (is_linked h k) i);
      full = λ i il tr. ⊎_elim (λ a. absurd (omega (arith, counts is_claimed i, rest.unclaimed i il))) (λ a. omega (arith, counts (is_born p.first) i))
          (clauses.taken_for p.first (slot_facts s i) (law i il) t.rule.lawful.fits.even (omega (arith, counts is_tried i)));
    }
      where
        coding_any : (h : ℕ) (m : Mark) → is_coding h m ≤ is_any_coding m
        coding_any h (Coding k) = only_le h k
        coding_any h _ = omega arith

-- ## The order of messages

pub none_flat : {A B : Type 0} (f : A → List B) (l : List A) → ((i : ℕ) (a : A) → get_elem? l i ≡ some a → f a ≡ []) → flat_map f l ≡ []
none_flat f [] h = refl
none_flat f (x ∷ xs) h = ap (λ y. y ++ flat_map f xs) (h 0 x refl) ∙ none_flat f xs (λ i a e. h (suc i) a e)

names_none : (f : ℕ → List Entry) (ns : List ℕ) (i a : ℕ) → [] ≡ map f ns → get_elem? ns i ≡ some a → ⊥
names_none f [] i a e g = some-ne-none a (sym g)
names_none f (n ∷ ns) i a e g = let z : 0 ≡ suc (length (map f ns)) = ap {A = List (List Entry)} length e in omega arith

pub ordered : {S : Type 0} {shows : S → Home} {rose : S → ℕ} {p : Plan} (s : State S View) (t : OnTable shows rose p s) (id : ℕ) (v : View) (here : get_elem? s.views id ≡ some v) (all : v.share ≡ p.seats) → v.claims ≡ [] → Ordered p v.found v.lists
ordered {p = p} s t id v here all bare = let a = t.rule.lawful.authors in record {
  log = t.rule.lawful.log;
  by = a.by;
  long = a.long;
  names = a.names id;
  lists_are = a.lists_are id v here;
  apart = λ i k c e f. (a.apart id i id k c e f).1;
  named = λ q c e. let n = a.named q c e in dite (ℕ_discrete n.0 id)
      (λ same. (n.1, subst (λ (y : ℕ). get_elem? (a.names y) n.1 ≡ some c) same n.3))
      (λ other. let u = at_some s.views n.0 n.2 in let idle = others s t id v here all n.0 u.0 u.1 other in absurd (names_none (λ c. pick c a.by t.rule.lawful.log) (a.names n.0) n.1 c (sym idle.lists ∙ a.lists_are n.0 u.0 u.1) n.3));
  full = λ tried. full_log t.rule id v here tried (λ q ql. none_flat (claims_of q) s.views (λ j u e. dite (ℕ_discrete j id)
      (λ same. let w : v ≡ u = some-injective v u (sym here ∙ (ap (get_elem? s.views) (sym same) ∙ e)) in ap (claims_of q) (sym w) ∙ ap (filter (λ (c : Claim). eqb c.request q)) bare)
      (λ other. ap (filter (λ (c : Claim). eqb c.request q)) (others s t id v here all j u e other).claims)));
}

-- it is the order that the rule keeps
pub ordered_log : {S : Type 0} {shows : S → Home} {rose : S → ℕ} {p : Plan} (s : State S View) (t : OnTable shows rose p s) (id : ℕ) (v : View) (here : get_elem? s.views id ≡ some v) (all : v.share ≡ p.seats) (bare : v.claims ≡ []) → (ordered s t id v here all bare).log ≡ t.rule.lawful.log
unfolding ordered
ordered_log s t id v here all bare = refl
