-- Lives, links and slots, where one seat's view changes.
use Rattle.std.proofs.Common.{◌≡◌, ◌≢◌, ℕ, zero, suc, ◌+◌, ◌-◌, ◌<◌, ◌≤◌, ◌⊎◌, List, [], ◌∷◌, map, set, refl, sym, ap, ◌∙◌, inl, inr, ⊎_elim, eq-eqb, ne_eqb, arith}
use mathlib.Core.Logic.{dite}
use native.Mathlib.Decide.{dec_le, ℕ_discrete}
use mathlib.Core.Option.{Option, some, some-injective, some-ne-none}
use lib.ListN.{get_elem?}
use lib.Seq.{map-set}
use Rattle.atomic_table.specs.Table.{State}
use Rattle.atomic_table.proofs.Lists.{at_map}
use Rattle.sock_model.specs.declared.marks.Mark.{Mark}
use Rattle.sock_model.specs.declared.marks.Mark.TheVariants.{Claimed, Linked}
use Rattle.sock_model.specs.declared.marks.SlotMark.{SlotMark}
use Rattle.sock_model.specs.sock_words.specs.declared.plain.Plan.{Plan}
use Rattle.sock_model.specs.declared.view.View.{View}
use Rattle.sock_model.specs.MarkWeights.{tally, is_waiting, only, pair, uses, is_stage, is_busy, is_ref, is_hold, is_failer, is_freer, is_linked, is_met}
use Rattle.sock_model.specs.Marks.{about}
use Rattle.sock_model.specs.SocketSlotLaw.{SlotFacts, count}
use Rattle.sock_model.specs.References.{uses_of, uses_link, slot_facts, References}
use Rattle.sock_model.specs.SlotRows.{marks_of}
use Rattle.sock_model.specs.ChainLawReads.{waits_link, waits_of}
use Rattle.sock_model.specs.LinksInSlots.{HoldsLink, Given, Lives, Failed}
use Rattle.slot_steps.proofs.SlotWeightSums.{total-set, term_le, total_mono}
use Rattle.slot_steps.proofs.ReferenceStepsKeepSlot.{hold_ref}
use Rattle.slot_steps.proofs.RuleNumbers.{only-at, pair_is, pair_le, life-in, life-high, live-busy, live_le}
use Rattle.sock_steps.proofs.Steady.{Steady}
use Rattle.sock_model.specs.sock_words.specs.Totals.{total}

module _ {S : Type 0} (s : State S View) (id : ℕ) (v w : View) (here : get_elem? s.views id ≡ some v) (ws : List ℕ) (hs : List (Option S)) where
  abbrev after : State S View
  after = record { words = ws; homes = hs; views = set s.views id w }

  -- what the change of a view does to a count
  pub counts : (f : Mark → ℕ) (j : ℕ) → count f (slot_facts after j) + marks_of f j v ≡ count f (slot_facts s j) + marks_of f j w
  counts f j = let g : View → List Mark = λ u. about j u.marks in
      let q = ap (tally f) (map-set g s.views id w) in let d = total-set (total f) (map g s.views) id (g v) (g w) (at_map g s.views id v here) in omega arith

  -- a life that was given a link stays so, and one that failed
  pub given_more : (p : Plan) → ((j h k : ℕ) → marks_of (is_linked h k) j v ≤ marks_of (is_linked h k) j w) → (j h k : ℕ) → Given p s j h k → Given p after j h k
  given_more p more j h k g = let a = g.given in record { inside = g.inside; given = omega (arith, counts (is_linked h k) j, more j h k) }

  pub failed_more : (p : Plan) → ((j h k : ℕ) → marks_of (is_linked h k) j v ≤ marks_of (is_linked h k) j w) → ((j h : ℕ) → marks_of (is_failer h) j v ≤ marks_of (is_failer h) j w) → (k : ℕ) → Failed p s k → Failed p after k
  failed_more p more fails k g = let a = g.failed in record { slot = g.slot; version = g.version; life = given_more p more g.slot g.version k g.life; failed = omega (arith, counts (is_failer g.version) g.slot, fails g.slot g.version) }

-- what a seat has of a slot counts there
pub own_count : {S : Type 0} (s : State S View) (id : ℕ) (v : View) → get_elem? s.views id ≡ some v → (f : Mark → ℕ) (j : ℕ) → marks_of f j v ≤ count f (slot_facts s j)
own_count s id v here f j = let g : View → List Mark = λ u. about j u.marks in term_le (total f) (map g s.views) id (g v) (at_map g s.views id v here)

module _ {S : Type 0} (p : Plan) (s : State S View) (id : ℕ) (v w : View) (here : get_elem? s.views id ≡ some v) (ws : List ℕ) (hs : List (Option S)) (st : Steady v w) where
  abbrev then_ : State S View
  then_ = record { words = ws; homes = hs; views = set s.views id w }

  pub given_to : (j h k : ℕ) → Given p s j h k → Given p then_ j h k
  given_to j h k g = let a = g.given in record { inside = g.inside; given = omega (arith, counts s id v w here ws hs (is_linked h k) j, st.given j h k) }

  pub given_from : (j h k : ℕ) → Given p then_ j h k → Given p s j h k
  given_from j h k g = let a = g.given in record { inside = g.inside; given = omega (arith, counts s id v w here ws hs (is_linked h k) j, st.given j h k) }

  pub lives_to : (j h k : ℕ) → Lives p s j h k → Lives p then_ j h k
  lives_to j h k g = let a = g.unended in record { life = given_to j h k g.life; unended = omega (arith, counts s id v w here ws hs (is_freer h) j, st.ended j h) }

  pub lives_from : (j h k : ℕ) → Lives p then_ j h k → Lives p s j h k
  lives_from j h k g = let a = g.unended in record { life = given_from j h k g.life; unended = omega (arith, counts s id v w here ws hs (is_freer h) j, st.ended j h) }

  pub failed_to : (k : ℕ) → Failed p s k → Failed p then_ k
  failed_to k g = let a = g.failed in record { slot = g.slot; version = g.version; life = given_to g.slot g.version k g.life; failed = omega (arith, counts s id v w here ws hs (is_failer g.version) g.slot, st.failed g.slot g.version) }

-- what the law of a slot says of the life that a link has there
module _ {S : Type 0} (p : Plan) (s : State S View) (law : References p s) where
  -- a slot that is claimed or recycled has none
  pub busy_idle : (j h k : ℕ) → 0 < count is_busy (slot_facts s j) → Lives p s j h k → ⊥
  busy_idle j h k b g = let l : SlotFacts = slot_facts s j in let q = law.slots j g.life.inside in let lv = live-busy l.tag l.version (count is_busy l) b in let even = q.busy_even b in
      let low = q.link_low h k g.life.given in let e = q.link_even h k g.life.given in let f = q.link_begun h k g.life.given in
      let one = life-in p.first h (l.version - 1) f (omega arith) e in let u = g.unended in omega (arith, q.ended h, one)

  -- its version is the slot's last
  pub last_life : (j h k : ℕ) → Lives p s j h k → (slot_facts s j).version ≤ h + 1
  last_life j h k g = let l : SlotFacts = slot_facts s j in let q = law.slots j g.life.inside in let e = q.link_even h k g.life.given in let f = q.link_begun h k g.life.given in
      let u = g.unended in dite (dec_le l.version (h + 1)) (λ y. y) (λ n. absurd (omega (arith, q.ended h, life-in p.first h (l.version - 1) f (omega arith) e)))

  -- and the slot has its link
  pub link_there : (j h k : ℕ) → Lives p s j h k → (slot_facts s j).link ≡ k
  link_there j h k g = let q = law.slots j g.life.inside in let a = last_life j h k g in q.link_is h k g.life.given (omega arith)

  -- two links in one slot are one
  pub one_link : (j g h k l : ℕ) → Lives p s j g k → Lives p s j h l → k ≡ l
  one_link j g h k l a b = sym (link_there j g k a) ∙ link_there j h l b

  -- whoever holds a life and met its link keeps it in its slot
  pub holder_lives : (id : ℕ) (v : View) (j h k : ℕ) → get_elem? s.views id ≡ some v → HoldsLink p v j h k → Lives p s j h k
  holder_lives id v j h k here x = let l : SlotFacts = slot_facts s j in let q = law.slots j x.inside in let held : 0 < count (is_hold h) l = (let a = x.held in omega (arith, own_count s id v here (is_hold h) j)) in
      let met : 0 < count (is_met h k) l = (let a = x.met in omega (arith, own_count s id v here (is_met h k) j)) in let t = q.held h held in let t₀ = t.0 in let t₁ = t.1 in
      let le = live_le l.tag l.version (count is_busy l) in record {
        life = record { inside = x.inside; given = q.met h k met };
        unended = omega (arith, q.ended h, life-high p.first h (l.version - 1) (omega arith));
      }

  -- a slot that is in use has one reference at least for each that a seat holds
  pub held_nref : (id : ℕ) (v : View) (j h : ℕ) → get_elem? s.views id ≡ some v → j < p.slots → 0 < marks_of (is_hold h) j v → 0 < (slot_facts s j).nref
  held_nref id v j h here jl x = let q = law.slots j jl in omega (arith, q.counted, own_count s id v here is_ref j, total_mono (is_hold h) is_ref (hold_ref h) (about j v.marks))

-- two marks of different slots, or of different kinds, that use a link count as two
module _ (k i j : ℕ) (f g : Mark → ℕ) (fits : (x : Mark) → (f x ≤ uses k x) × (g x ≤ uses k x)) (both : i ≡ j → (x : Mark) → f x + g x ≤ uses k x) where
  uses_both : (es : List SlotMark) → total f (about i es) + total g (about j es) ≤ total (uses_link k) es
  uses_both [] = omega arith
  uses_both (e ∷ es) = let ih = uses_both es in let b = fits e.mark in let b₀ = b.0 in let b₁ = b.1 in dite (ℕ_discrete e.slot i)
      (λ y. let q = eq-eqb e.slot i y in dite (ℕ_discrete e.slot j)
      (λ z. let r = eq-eqb e.slot j z in let c = both (sym y ∙ z) e.mark in simp (q, r) (omega arith))
      (λ n. let r = ne_eqb e.slot j n in simp (q, r) (omega arith)))
      (λ m. let q = ne_eqb e.slot i m in dite (ℕ_discrete e.slot j)
      (λ z. let r = eq-eqb e.slot j z in simp (q, r) (omega arith))
      (λ n. let r = ne_eqb e.slot j n in simp (q, r) (omega arith)))

  pub both_used : (vs : List View) → tally f (map (λ (u : View). about i u.marks) vs) + tally g (map (λ (u : View). about j u.marks) vs) ≤ total (uses_of k) vs
  both_used [] = omega arith
  both_used (v ∷ vs) = omega (arith, both_used vs, uses_both v.marks)

linked_uses : (h k : ℕ) (x : Mark) → is_linked h k x ≤ uses k x
linked_uses h k (Linked a b) = pair_only' h k a b
  where
    pair_only' : (h k a b : ℕ) → pair h k a b ≤ only k b
    pair_only' h k a b = dite (ℕ_discrete (pair h k a b) 0) (λ z. omega arith) (λ n. let t = pair_is h k a b (omega arith) in omega (arith, pair_le h k a b, only-at k b t.1))
linked_uses h k _ = omega arith

linked_two : (g h k : ℕ) → g ≢ h → (x : Mark) → is_linked g k x + is_linked h k x ≤ uses k x
linked_two g h k ne (Linked a b) = dite (ℕ_discrete (pair g k a b) 0) (λ z. omega (arith, linked_uses h k (Linked a b)))
    (λ n. dite (ℕ_discrete (pair h k a b) 0) (λ z. omega (arith, linked_uses g k (Linked a b))) (λ m. absurd (ne (sym (pair_is g k a b (omega arith)).0 ∙ (pair_is h k a b (omega arith)).0))))
linked_two g h k ne _ = omega arith

stage_uses : (n k : ℕ) (x : Mark) → is_stage (suc n) k x ≤ uses k x
stage_uses n k (Claimed zero b) = dite (ℕ_discrete (pair (suc n) k zero b) 0) (λ z. omega arith) (λ m. let t = pair_is (suc n) k zero b (omega arith) in let t₀ = t.0 in absurd (omega arith))
stage_uses n k (Claimed (suc a) b) = dite (ℕ_discrete (pair (suc n) k (suc a) b) 0) (λ z. omega arith) (λ m. let t = pair_is (suc n) k (suc a) b (omega arith) in omega (arith, pair_le (suc n) k (suc a) b, only-at k b t.1))
stage_uses n k _ = omega arith

stage_linked : (n h k : ℕ) (x : Mark) → is_stage (suc n) k x + is_linked h k x ≤ uses k x
stage_linked n h k (Claimed a b) = omega (arith, stage_uses n k (Claimed a b))
stage_linked n h k (Linked a b) = omega (arith, linked_uses h k (Linked a b))
stage_linked n h k _ = omega arith

module _ {S : Type 0} (p : Plan) (s : State S View) (law : References p s) where
  -- a link is given to one life
  pub given_once : (i j g h k : ℕ) → Given p s i g k → Given p s j h k → (i ≡ j) × (g ≡ h)
  given_once i j g h k a b = let x = a.given in let y = b.given in let few = law.links k in
      let far : (i ≢ j) ⊎ (g ≢ h) → ⊥ = λ ne. let t = both_used k i j (is_linked g k) (is_linked h k) (λ z. (linked_uses g k z, linked_uses h k z))
      (λ same z. ⊎_elim (λ q. absurd (q same)) (λ q. linked_two g h k q z) ne) s.views in absurd (omega arith) in
      (dite (ℕ_discrete i j) (λ q. q) (λ n. absurd (far (inl n))), dite (ℕ_discrete g h) (λ q. q) (λ n. absurd (far (inr n))))

  -- and a link that is claimed to none
  pub claimed_unborn : (i n k : ℕ) → 0 < count (is_stage (suc n) k) (slot_facts s i) → (j h : ℕ) → ¬ Given p s j h k
  claimed_unborn i n k x j h b = let y = b.given in let few = law.links k in
      let t = both_used k i j (is_stage (suc n) k) (is_linked h k) (λ z. (stage_uses n k z, linked_uses h k z)) (λ same z. stage_linked n h k z) s.views in omega arith

-- of two seats
pub two_seats : {A : Type 0} (f : A → ℕ) (l : List A) (i j : ℕ) (a b : A) → i ≢ j → get_elem? l i ≡ some a → get_elem? l j ≡ some b → f a + f b ≤ total f l
two_seats f [] i j a b ne x y = absurd (some-ne-none a (sym x))
two_seats f (c ∷ cs) zero zero a b ne x y = absurd (ne refl)
two_seats f (c ∷ cs) zero (suc j) a b ne x y = omega (arith, ap f (some-injective c a x), term_le f cs j b y)
two_seats f (c ∷ cs) (suc i) zero a b ne x y = omega (arith, ap f (some-injective c b y), term_le f cs i a x)
two_seats f (c ∷ cs) (suc i) (suc j) a b ne x y = omega (arith, two_seats f cs i j a b (λ q. ne (ap suc q)) x y)

-- a link that has a life waits for none
module _ (j h k : ℕ) where
  waits_linked : (x : Mark) → (is_waiting k x + is_linked h k x ≤ uses k x) × (is_waiting k x ≤ uses k x)
  waits_linked (Claimed zero b) = (omega arith, omega arith)
  waits_linked (Claimed (suc a) b) = (omega arith, omega arith)
  waits_linked (Linked a b) = (omega (arith, linked_uses h k (Linked a b)), omega arith)
  waits_linked _ = (omega arith, omega arith)

  waits_marks : (es : List SlotMark) → total (waits_link k) es + total (is_linked h k) (about j es) ≤ total (uses_link k) es
  waits_marks [] = omega arith
  waits_marks (e ∷ es) = let ih = waits_marks es in let b = waits_linked e.mark in let b₀ = b.0 in let b₁ = b.1 in dite (ℕ_discrete e.slot j)
      (λ y. let q = eq-eqb e.slot j y in simp q (omega arith)) (λ n. let q = ne_eqb e.slot j n in simp q (omega arith))

  waits_views : (vs : List View) → total (waits_of k) vs + tally (is_linked h k) (map (λ (u : View). about j u.marks) vs) ≤ total (uses_of k) vs
  waits_views [] = omega arith
  waits_views (v ∷ vs) = omega (arith, waits_views vs, waits_marks v.marks)

pub given_unwaited : {S : Type 0} (p : Plan) (s : State S View) → References p s → (j h k : ℕ) → Given p s j h k → total (waits_of k) s.views ≡ 0
given_unwaited p s law j h k b = let x = b.given in let few = law.links k in let t = waits_views j h k s.views in omega arith

pub waiters_once : {S : Type 0} (p : Plan) (s : State S View) → References p s → (k : ℕ) → total (waits_of k) s.views ≤ 1
waiters_once p s law k = let few = law.links k in let t = waits_views 0 0 k s.views in omega arith
