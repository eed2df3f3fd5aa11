-- A step on a word of one slot leaves the law of each other slot as it was.
use Rattle.std.proofs.Common.{◌≡◌, ℕ, ◌+◌, ◌-◌, ◌*◌, ◌/◌, ◌%◌, ◌<◌, ◌≤◌, ◌≢◌, List, [], ◌∷◌, map, length, get_or, set, sym, refl, ap, ◌∙◌, subst, arith, cond, eq-eqb, ne_eqb, length-set, get_or-set_other, get_or-set_same}
use mathlib.Core.Logic.{dite}
use mathlib.Core.Option.{some}
use native.Mathlib.Decide.{ℕ_discrete}
use lib.ListN.{get_elem?}
use lib.Seq.{map-set}
use Rattle.atomic_table.specs.Table.{State, Act, stepped}
use Rattle.atomic_table.proofs.Lists.{at_map, set_again}
use Rattle.sock_model.specs.declared.marks.Mark.{Mark}
use Rattle.sock_model.specs.declared.marks.SlotMark.{SlotMark}
use Rattle.sock_model.specs.declared.view.View.{View}
use Rattle.sock_model.specs.sock_words.specs.declared.plain.Plan.{Plan}
use Rattle.sock_model.specs.MarkWeights.{tally, only, is_born, uses}
use Rattle.sock_model.specs.Marks.{about, without, without_at, without_pass}
use Rattle.sock_model.specs.SocketTableLayout.{tag_index, ref_index, link_index, code_index, name_index, open_index}
use Rattle.sock_model.specs.SocketSlotLaw.{SlotFacts, live, SlotLaw}
use Rattle.sock_model.specs.References.{spare, sayers, OnlyMarks, Stores, uses_of, uses_link, slot_facts, Names, References}
use Rattle.slot_steps.proofs.SlotWeightSums.{total-set}
use Rattle.slot_steps.proofs.RuleNumbers.{only-else}
use Rattle.sock_model.specs.sock_words.specs.PackedWords.{vref_version, vref_nref}
use Rattle.sock_model.specs.sock_words.specs.Totals.{total}

-- the two removals are one
pub about-without : (i : ℕ) (g : Mark → ℕ) (es : List SlotMark) → about i (without_at i g es) ≡ without g (about i es)
about-without i g [] = refl
about-without i g (e ∷ es) = let ih = about-without i g es in dite (ℕ_discrete e.slot i)
    (λ y. let q = eq-eqb e.slot i y in dite (ℕ_discrete (g e.mark) 0) (λ y'. let r = eq-eqb (g e.mark) 0 y' in simp (q, r, ih)) (λ n. let r = ne_eqb (g e.mark) 0 n in simp (q, r)))
    (λ n. let q = ne_eqb e.slot i n in simp (q, ih))

pub about-without_else : (i j : ℕ) (g : Mark → ℕ) (es : List SlotMark) → i ≢ j → about i (without_at j g es) ≡ about i es
about-without_else i j g [] n = refl
about-without_else i j g (e ∷ es) n = let ih = about-without_else i j g es n in dite (ℕ_discrete e.slot j)
    (λ y. let q = eq-eqb e.slot j y in let o = ne_eqb e.slot i (λ y'. n (sym y' ∙ y)) in dite (ℕ_discrete (g e.mark) 0) (λ y'. let r = eq-eqb (g e.mark) 0 y' in simp (q, r, o, ih)) (λ k. let r = ne_eqb (g e.mark) 0 k in simp (q, r, o)))
    (λ k. let q = ne_eqb e.slot j k in simp (q, ih))

module _ {S : Type 0} (s : State S View) (id : ℕ) (v : View) (here : get_elem? s.views id ≡ some v) (c : List (ℕ × S)) (w : View) (a : Act S) where
  marks_at : (x : ℕ) → map (λ (u : View). about x u.marks) (set s.views id w) ≡ set (map (λ (u : View). about x u.marks) s.views) id (about x w.marks)
  marks_at x = map-set (λ (u : View). about x u.marks) s.views id w

  marks_same : (x : ℕ) → about x w.marks ≡ about x v.marks → map (λ (u : View). about x u.marks) (set s.views id w) ≡ map (λ (u : View). about x u.marks) s.views
  marks_same x e = let f : View → List Mark = λ u. about x u.marks in marks_at x ∙ (ap (set (map f s.views) id) e ∙ set_again (map f s.views) id (f v) (at_map f s.views id v here))

  -- the word i becomes n
  pub apart : (i n x : ℕ) → tag_index x ≢ i → ref_index x ≢ i → link_index x ≢ i → code_index x ≢ i → about x w.marks ≡ about x v.marks → slot_facts (stepped s i n id c w a) x ≡ slot_facts s x
  apart i n x n₀ n₁ n₂ n₄ e = let e₀ = get_or-set_other s.words i (tag_index x) n 0 n₀ in let e₁ = get_or-set_other s.words i (ref_index x) n 0 n₁ in
      let e₂ = get_or-set_other s.words i (link_index x) n 0 n₂ in let e₄ = get_or-set_other s.words i (code_index x) n 0 n₄ in let e₅ = marks_same x e in
      λ q. record { tag = e₀ q; version = vref_version (e₁ q); nref = vref_nref (e₁ q); link = e₂ q; code = e₄ q; marks = e₅ q }

  pub at_ref : (i n : ℕ) → ref_index i < length s.words
      → slot_facts (stepped s (ref_index i) n id c w a) i ≡ record (slot_facts s i) { version = vref_version n; nref = vref_nref n; marks = set (slot_facts s i).marks id (about i w.marks) }
  at_ref i n long = let e₀ = get_or-set_other s.words (ref_index i) (tag_index i) n 0 (λ e. omega arith) in let e₁ = get_or-set_same s.words (ref_index i) n 0 long in
      let e₂ = get_or-set_other s.words (ref_index i) (link_index i) n 0 (λ e. omega arith) in let e₄ = get_or-set_other s.words (ref_index i) (code_index i) n 0 (λ e. omega arith) in let e₅ = marks_at i in
      λ q. record { tag = e₀ q; version = vref_version (e₁ q); nref = vref_nref (e₁ q); link = e₂ q; code = e₄ q; marks = e₅ q }

  pub at_tag : (i n : ℕ) → tag_index i < length s.words
      → slot_facts (stepped s (tag_index i) n id c w a) i ≡ record (slot_facts s i) { tag = n; marks = set (slot_facts s i).marks id (about i w.marks) }
  at_tag i n long = let e₁ = get_or-set_other s.words (tag_index i) (ref_index i) n 0 (λ e. omega arith) in let e₀ = get_or-set_same s.words (tag_index i) n 0 long in
      let e₂ = get_or-set_other s.words (tag_index i) (link_index i) n 0 (λ e. omega arith) in let e₄ = get_or-set_other s.words (tag_index i) (code_index i) n 0 (λ e. omega arith) in let e₅ = marks_at i in
      λ q. record { tag = e₀ q; version = vref_version (e₁ q); nref = vref_nref (e₁ q); link = e₂ q; code = e₄ q; marks = e₅ q }

module _ {S : Type 0} (s : State S View) (id : ℕ) (v : View) (here : get_elem? s.views id ≡ some v) (c : List (ℕ × S)) (w : View) (a : Act S) where
  pub at_link : (i n : ℕ) → link_index i < length s.words
      → slot_facts (stepped s (link_index i) n id c w a) i ≡ record (slot_facts s i) { link = n; marks = set (slot_facts s i).marks id (about i w.marks) }
  at_link i n long = let x : ℕ = link_index i in let e₀ = get_or-set_other s.words x (tag_index i) n 0 (λ e. omega arith) in let e₁ = get_or-set_other s.words x (ref_index i) n 0 (λ e. omega arith) in
      let e₂ = get_or-set_same s.words x n 0 long in let e₄ = get_or-set_other s.words x (code_index i) n 0 (λ e. omega arith) in let e₅ = marks_at s id v here c w a i in
      λ q. record { tag = e₀ q; version = vref_version (e₁ q); nref = vref_nref (e₁ q); link = e₂ q; code = e₄ q; marks = e₅ q }

  pub at_code : (i n : ℕ) → code_index i < length s.words
      → slot_facts (stepped s (code_index i) n id c w a) i ≡ record (slot_facts s i) { code = n; marks = set (slot_facts s i).marks id (about i w.marks) }
  at_code i n long = let x : ℕ = code_index i in let e₀ = get_or-set_other s.words x (tag_index i) n 0 (λ e. omega arith) in let e₁ = get_or-set_other s.words x (ref_index i) n 0 (λ e. omega arith) in
      let e₂ = get_or-set_other s.words x (link_index i) n 0 (λ e. omega arith) in let e₄ = get_or-set_same s.words x n 0 long in let e₅ = marks_at s id v here c w a i in
      λ q. record { tag = e₀ q; version = vref_version (e₁ q); nref = vref_nref (e₁ q); link = e₂ q; code = e₄ q; marks = e₅ q }

  -- a word that is none of the slot's tag, reference, link and code
  pub at_else : (i x n : ℕ) → tag_index i ≢ x → ref_index i ≢ x → link_index i ≢ x → code_index i ≢ x → slot_facts (stepped s x n id c w a) i ≡ record (slot_facts s i) { marks = set (slot_facts s i).marks id (about i w.marks) }
  at_else i x n n₀ n₁ n₂ n₄ = let e₀ = get_or-set_other s.words x (tag_index i) n 0 n₀ in let e₁ = get_or-set_other s.words x (ref_index i) n 0 n₁ in
      let e₂ = get_or-set_other s.words x (link_index i) n 0 n₂ in let e₄ = get_or-set_other s.words x (code_index i) n 0 n₄ in let e₅ = marks_at s id v here c w a i in
      λ q. record { tag = e₀ q; version = vref_version (e₁ q); nref = vref_nref (e₁ q); link = e₂ q; code = e₄ q; marks = e₅ q }

-- the links that this seat has do not grow when a mark goes
pub uses-without : (k i : ℕ) (g : Mark → ℕ) (es : List SlotMark) → total (uses_link k) (without_at i g es) ≤ total (uses_link k) es
uses-without k i g [] = omega arith
uses-without k i g (e ∷ es) = let ih = uses-without k i g es in dite (ℕ_discrete e.slot i)
    (λ y. let q = eq-eqb e.slot i y in dite (ℕ_discrete (g e.mark) 0) (λ y'. let r = eq-eqb (g e.mark) 0 y' in simp (q, r) (omega arith)) (λ n. let r = ne_eqb (g e.mark) 0 n in simp (q, r) (omega arith)))
    (λ n. let q = ne_eqb e.slot i n in simp q (omega arith))

pub passes-without : (k x : ℕ) (ps : List ℕ) → 0 < total (only k) ps → total (only x) (without_pass k ps) + only x k ≡ total (only x) ps
passes-without k x [] h = absurd (omega arith)
passes-without k x (p ∷ ps) h = dite (ℕ_discrete p k)
    (λ y. let q = eq-eqb p k y in let same : only x p ≡ only x k = ap (only x) y in simp q (omega arith))
    (λ n. let q = ne_eqb p k n in let ih = passes-without k x ps (omega (arith, only-else k p n)) in simp q (omega arith))

-- one mark of the kind g about slot i is taken out
pub mark-taken : (f : Mark → ℕ) (i : ℕ) (g : Mark → ℕ) (e : Mark) (es : List SlotMark) → ((x : Mark) → 0 < g x → x ≡ e) → 0 < total g (about i es) → total (λ (y : SlotMark). f y.mark) (without_at i g es) + f e ≡ total (λ (y : SlotMark). f y.mark) es
mark-taken f i g e [] one h = absurd (omega arith)
mark-taken f i g e (x ∷ xs) one h = dite (ℕ_discrete x.slot i)
    (λ y. let q = eq-eqb x.slot i y in let h' : 0 < total g (x.mark ∷ about i xs) = subst (λ b. 0 < total g (cond b (x.mark ∷ about i xs) (about i xs))) q h in dite (ℕ_discrete (g x.mark) 0)
    (λ y'. let r = eq-eqb (g x.mark) 0 y' in let ih = mark-taken f i g e xs one (omega arith) in simp (q, r) (omega arith))
    (λ n. let r = ne_eqb (g x.mark) 0 n in let same : f x.mark ≡ f e = ap f (one x.mark (omega arith)) in simp (q, r) (omega arith)))
    (λ n. let q = ne_eqb x.slot i n in let h' : 0 < total g (about i xs) = subst (λ b. 0 < total g (cond b (x.mark ∷ about i xs) (about i xs))) q h in let ih = mark-taken f i g e xs one h' in simp q (omega arith))

pub uses-taken : (k i : ℕ) (g : Mark → ℕ) (e : Mark) (es : List SlotMark) → ((x : Mark) → 0 < g x → x ≡ e) → 0 < total g (about i es) → total (uses_link k) (without_at i g es) + uses k e ≡ total (uses_link k) es
uses-taken k = mark-taken (uses k)

module _ {S : Type 0} (p : Plan) (s : State S View) (law : References p s) (id : ℕ) (v : View) (here : get_elem? s.views id ≡ some v) (c : List (ℕ × S)) (w : View) (a : Act S) (i : ℕ) (inside : i < p.slots)
    (else_ : (x : ℕ) → x ≢ i → about x w.marks ≡ about x v.marks) (links : (k : ℕ) → uses_of k w ≤ uses_of k v) (still : OnlyMarks v w) where
  -- the word k of slot i becomes n
  pub slot_step : (k n : ℕ) → k < 6 → ((h : ℕ) → total (is_born h) (about i v.marks) ≤ total (is_born h) (about i w.marks))
      → (let t = stepped s (6 * i + k) n id c w a in SlotLaw p.first (live (slot_facts t i)) (slot_facts t i)) → References p (stepped s (6 * i + k) n id c w a)
  slot_step k n small grows now = let t : State S View = stepped s (6 * i + k) n id c w a in let sized = law.sized in
      let frame : (x : ℕ) → x ≢ i → slot_facts t x ≡ slot_facts s x = λ x ne. apart s id v here c w a (6 * i + k) n x (λ e. ne (omega arith)) (λ e. ne (omega arith)) (λ e. ne (omega arith)) (λ e. ne (omega arith)) (else_ x ne) in
      let f : View → List Mark = λ u. about i u.marks in
      let born : (h : ℕ) (x : ℕ) → tally (is_born h) (slot_facts s x).marks ≤ tally (is_born h) (slot_facts t x).marks = λ h x. dite (ℕ_discrete x i)
      (λ e. subst (λ (y : ℕ). tally (is_born h) (slot_facts s y).marks ≤ tally (is_born h) (slot_facts t y).marks) (sym e)
      (let d = total-set (total (is_born h)) (map f s.views) id (f v) (f w) (at_map f s.views id v here) in let g = grows h in let q = ap (tally (is_born h)) (marks_at s id v here c w a i) in omega arith))
      (λ ne. let q = ap (λ (l : SlotFacts). tally (is_born h) l.marks) (frame x ne) in omega arith) in
      let named : (word : ℕ) → Names p s word → Names p t word = λ word o ne. let r = o ne in (r.0, omega (arith, r.1, born ((word - 1) / 4294967296) ((word - 1) % 4294967296))) in
      let said : (y : ℕ) → get_or t.words y 0 ≡ get_or s.words y 0 → Stores s y → Stores t y = λ y e o. subst (λ (z : ℕ). z ≢ 0 → 0 < total (sayers y z) t.views) (sym e)
      (λ ne. let z : ℕ = get_or s.words y 0 in omega (arith, o ne, total-set (sayers y z) s.views id v w here, ap (sayers y z) still)) in
      record {
        sized = length-set s.words (6 * i + k) n ∙ sized;
        seat_limit = omega (arith, law.seat_limit, length-set s.views id w, total-set spare s.views id v w here, ap spare still);
        slots = λ x l. dite (ℕ_discrete x i) (λ e. subst (λ (y : ℕ). SlotLaw p.first (live (slot_facts t y)) (slot_facts t y)) (sym e) now) (λ ne. subst (λ (y : SlotFacts). SlotLaw p.first (live y) y) (sym (frame x ne)) (law.slots x l));
        links = λ x. omega (arith, total-set (uses_of x) s.views id v w here, law.links x, links x);
        named = record {
          names = λ x l. let e = get_or-set_other s.words (6 * i + k) (name_index p x) n 0 (λ e. omega arith) in subst (Names p t) (sym e) (named (get_or s.words (name_index p x) 0) (law.named.names x l));
          opens = λ x l. let e = get_or-set_other s.words (6 * i + k) (open_index p x) n 0 (λ e. omega arith) in
              subst (λ (y : ℕ). y ≢ 18446744073709551615 → Names p t y) (sym e) (λ ne. named (get_or s.words (open_index p x) 0) (law.named.opens x l ne));
          names_by = λ x l. said (name_index p x) (get_or-set_other s.words (6 * i + k) (name_index p x) n 0 (λ e. omega arith)) (law.named.names_by x l);
          opens_by = λ x l. said (open_index p x) (get_or-set_other s.words (6 * i + k) (open_index p x) n 0 (λ e. omega arith)) (law.named.opens_by x l);
        };
      }
