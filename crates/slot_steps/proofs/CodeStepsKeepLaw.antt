-- Each step on a link word or a code word keeps the law of its slot.
use Rattle.std.proofs.Common.{◌≡◌, ℕ, suc, ◌+◌, ◌-◌, ◌%◌, ◌<◌, ◌≤◌, ◌≢◌, List, [], ◌∷◌, set, sym, refl, ap, ◌∙◌, subst, arith}
use mathlib.Core.Logic.{dite}
use mathlib.Core.Option.{some}
use native.Mathlib.Decide.{ℕ_discrete}
use lib.ListN.{get_elem?}
use Rattle.sock_model.specs.declared.marks.Mark.{Mark}
use Rattle.sock_model.specs.declared.marks.Mark.TheVariants.{Claimed, Coding, Known, Saw, Stored, Told, Met}
use Rattle.sock_model.specs.MarkWeights.{tally, pair, life, is_claimed, is_recycling, is_busy, is_ref, is_any_coding, is_tried, is_stage, is_recycled, is_hold, is_zero, is_coding, is_known, is_born, is_saw, is_failer, is_freer, is_coded, is_stored, is_told, is_linked, is_met}
use Rattle.sock_model.specs.Marks.{without}
use Rattle.sock_model.specs.SocketSlotLaw.{SlotFacts, live, Each, KeepsCodes, SlotLaw}
use Rattle.slot_steps.proofs.SlotWeightSums.{taken_as, tally_mono, each_set}
use Rattle.slot_steps.proofs.RuleNumbers.{only-else, only_is, pair_is, pair-at, life_le, pair_le, pair_only, live_is}
use Rattle.slot_steps.proofs.ReferenceStepsKeepSlot.{moved, own, few_with, keeps_idle, busy_is, alive_le, keeps_notes, stage_is}
use Rattle.sock_model.specs.sock_words.specs.Totals.{total}

stage_le : (n k : ℕ) (x : Mark) → is_stage n k x ≤ is_claimed x
stage_le n k (Claimed a b) = pair_le n k a b
stage_le n k _ = omega arith

pub coding_as : (h : ℕ) (x : Mark) → 0 < is_coding h x → x ≡ Coding h
coding_as h (Coding k) p = ap Coding (only_is h k p)
coding_as h _ p = absurd (omega arith)

stored_coded : (h c : ℕ) (x : Mark) → is_stored h c x ≤ is_coded h x
stored_coded h c (Stored k d) = pair_only h c k d
stored_coded h c _ = omega arith

-- what holds of each seat holds of all
tally_each : (f g k : Mark → ℕ) (ms : List (List Mark)) → Each ms (λ m. total f m ≡ total g m + total k m) → tally f ms ≡ tally g ms + tally k ms
tally_each f g k [] all = omega arith
tally_each f g k (m ∷ ms) all = let a = all 0 m refl in let b = tally_each f g k ms (λ j u e. all (suc j) u e) in omega arith

module _ (first : ℕ) (l : SlotFacts) (law : SlotLaw first (live l) l) (j : ℕ) (m : List Mark) (here : get_elem? l.marks j ≡ some m) where
  -- the claim goes on to its next stage, with the link or the code that is stored
  pub keeps_stage : (a k b k' link' code' : ℕ) → 0 < total (is_stage a k) m → (1 ≤ b → link' ≡ k') → (3 ≤ b → code' ≡ 0)
      → SlotLaw first (live l) record l { link = link'; code = code'; marks = set l.marks j (Claimed b k' ∷ without (is_stage a k) m) }
  keeps_stage a k b k' link' code' there is_link is_code = let v : ℕ = l.version in let lv : ℕ = live l in let u : List Mark = without (is_stage a k) m in let w : List Mark = Claimed b k' ∷ u in
      let by = moved first l law j m here w in let mine = own first l law j m here in
      let rest : (f : Mark → ℕ) → total f u + f (Claimed a k) ≡ total f m = taken_as (is_stage a k) (Claimed a k) m (stage_is a k) there in
      let parts = busy_is first l law j m here in let once = law.busy_once in let claimed : 0 < tally is_claimed l.marks = omega (arith, rest is_claimed, mine is_claimed) in
      let even = law.busy_even (omega arith) in let le = alive_le first l law j m here in
      let still : lv ≡ 0 = dite (ℕ_discrete lv 0) (λ e. e) (λ n. absurd (omega (arith, (live_is l.tag v (tally is_busy l.marks) (omega arith)).3))) in
      keeps_idle first l law j m here l.tag link' code' w (λ f n. let x = n.0 a k in let y = n.0 b k' in omega (arith, rest f)) still even law.tagged (omega (arith, by is_busy, rest is_busy)) (λ p. law.busy_taken (omega arith)) law.free_low (λ p. law.claimed_low claimed)
      (λ x p. law.recycled x (omega (arith, by (is_recycled x), rest (is_recycled x)))) (λ p. omega (arith, by is_claimed, rest is_claimed))
      (λ n x p. dite (ℕ_discrete (pair n x b k') 0)
      (λ e. absurd (omega (arith, by (is_stage n x), rest (is_stage n x), by is_claimed, rest is_claimed, tally_mono (is_stage n x) is_claimed (stage_le n x) (set l.marks j u), moved first l law j m here u (is_stage n x), moved first l law j m here u is_claimed)))
      (λ ne. let t = pair_is n x b k' (omega arith) in let t₀ = t.0 in ((λ r. is_link (omega arith) ∙ t.1), λ r. is_code (omega arith))))
      (λ h x p q. absurd (omega (arith, law.link_low h x p, law.link_even h x p, by is_recycling, rest is_recycling))) (λ p. absurd (omega (arith, by is_recycling, rest is_recycling)))

  -- whoever failed the life stores its code
  pub keeps_coded : (h c : ℕ) → 0 < total (is_coding h) m → c ≢ 0 → SlotLaw first (live l) record l { code = c; marks = set l.marks j (Stored h c ∷ Told h c ∷ without (is_coding h) m) }
  keeps_coded h c there some_ = let v : ℕ = l.version in let lv : ℕ = live l in let u : List Mark = without (is_coding h) m in let w : List Mark = Stored h c ∷ Told h c ∷ u in
      let by = moved first l law j m here w in let mine = own first l law j m here in
      let rest : (f : Mark → ℕ) → total f u + f (Coding h) ≡ total f m = taken_as (is_coding h) (Coding h) m (coding_as h) there in
      let beside = (law.codes j m here).1 h there in let b₀ = beside.0 in let b₁ = beside.1 in let at = law.held h (omega (arith, mine (is_hold h))) in let at₀ : h + 1 ≡ v + lv = at.0 in let at₁ = at.1 in
      let low : h + 1 ≤ v = law.saw (h + 1) (omega (arith, mine (is_saw (h + 1)))) in let still : lv ≡ 0 = omega arith in let is : h + 1 ≡ v = omega arith in let less : h < v = omega arith in
      let once = law.coding_once in let odd : v % 2 ≡ 1 = omega arith in let parts = busy_is first l law j m here in
      let not_yet : (d : ℕ) → tally (is_stored h d) l.marks ≡ 0 = λ d. let t = tally_each (is_failer h) (is_coding h) (is_coded h) l.marks (λ i x e. (law.codes i x e).0 h) in
      omega (arith, t, law.failed h, life_le first h v, mine (is_coding h), tally_mono (is_stored h d) (is_coded h) (stored_coded h d) l.marks) in
      let idle : tally is_busy l.marks ≡ 0 = dite (ℕ_discrete (tally is_busy l.marks) 0) (λ e. e) (λ n. absurd (omega (arith, law.busy_even (omega arith)))) in record {
        tag = record {
          tagged = law.tagged;
          busy_once = omega (arith, by is_busy, rest is_busy, law.busy_once);
          busy_taken = λ p. law.busy_taken (omega (arith, by is_busy, rest is_busy));
          busy_even = λ p. law.busy_even (omega (arith, by is_busy, rest is_busy));
          free_even = law.free_even;
          free_low = law.free_low;
          claimed_low = λ p. law.claimed_low (omega (arith, by is_claimed, rest is_claimed));
          recycled = λ x p. law.recycled x (omega (arith, by (is_recycled x), rest (is_recycled x)));
          taken_by = λ p. omega (arith, by is_claimed, rest is_claimed, by is_tried, rest is_tried, law.taken_by);
          staged = λ n k p. absurd (omega (arith, by (is_stage n k), rest (is_stage n k), tally_mono (is_stage n k) is_claimed (stage_le n k) l.marks));
        };
        word = record {
          counted = omega (arith, by is_ref, rest is_ref, law.counted);
          few = few_with first l law j m here w (let k = law.few j m here in omega (arith, rest is_ref));
          begun = law.begun;
          top = law.top;
          held = λ g p. law.held g (omega (arith, by (is_hold g), rest (is_hold g)));
          saw = λ x p. law.saw x (omega (arith, by (is_saw x), rest (is_saw x)));
          zero_noted = λ p q. omega (arith, by (is_zero v), rest (is_zero v), law.zero_noted p q);
          known = λ g p. law.known g (omega (arith, by (is_known g), rest (is_known g)));
          born = λ g. omega (arith, by (is_born g), rest (is_born g), law.born g);
          failed = λ g. omega (arith, by (is_failer g), rest (is_failer g), law.failed g);
          ended = λ g. omega (arith, by (is_freer g), rest (is_freer g), law.ended g);
        };
        code = record {
          codes = each_set KeepsCodes l.marks j w law.codes (
            (λ g. omega (arith, (law.codes j m here).0 g, rest (is_failer g), rest (is_coding g), rest (is_coded g))),
            (λ g p. let t = (law.codes j m here).1 g (omega (arith, rest (is_coding g))) in let t₀ = t.0 in let t₁ = t.1 in (omega (arith, rest (is_hold g)), omega (arith, rest (is_saw (g + 1))))),
          );
          coding_once = omega (arith, by is_any_coding, rest is_any_coding);
          coding_odd = λ p. odd;
          code_none = λ p. absurd (omega (arith, by is_any_coding, rest is_any_coding, once));
          code_is = λ g d p. dite (ℕ_discrete (pair g d h c) 0)
              (λ e. let q : 0 < tally (is_stored g d) l.marks = omega (arith, by (is_stored g d), rest (is_stored g d)) in let t = law.code_is g d q in
              (t.0, t.1, λ x. absurd (let same : g ≡ h = omega arith in let no = subst (λ (y : ℕ). tally (is_stored y d) l.marks ≡ 0) (sym same) (not_yet d) in omega arith)))
              (λ n. let t = pair_is g d h c (omega arith) in let t₀ = t.0 in let t₁ : c ≡ d = t.1 in ((λ x. some_ (t₁ ∙ x)), omega arith, λ x. t₁));
          code_even = λ g d p. dite (ℕ_discrete (pair g d h c) 0) (λ e. law.code_even g d (omega (arith, by (is_stored g d), rest (is_stored g d)))) (λ n. let t = (pair_is g d h c (omega arith)).0 in omega arith);
          code_by = λ p q. let e : h ≡ v - 1 = omega arith in omega (arith, by (is_stored (v - 1) c), rest (is_stored (v - 1) c), pair-at (v - 1) c h c e refl);
          told = λ g d p. dite (ℕ_discrete (pair g d h c) 0)
              (λ e. omega (arith, by (is_stored g d), rest (is_stored g d), law.told g d (omega (arith, by (is_told g d), rest (is_told g d)))))
              (λ n. omega (arith, by (is_stored g d), rest (is_stored g d)));
        };
        link = record {
          link_low = λ g k p. law.link_low g k (omega (arith, by (is_linked g k), rest (is_linked g k)));
          link_even = λ g k p. law.link_even g k (omega (arith, by (is_linked g k), rest (is_linked g k)));
          link_begun = λ g k p. law.link_begun g k (omega (arith, by (is_linked g k), rest (is_linked g k)));
          met = λ g k p. omega (arith, by (is_linked g k), rest (is_linked g k), law.met g k (omega (arith, by (is_met g k), rest (is_met g k))));
          link_is = λ g k p q. law.link_is g k (omega (arith, by (is_linked g k), rest (is_linked g k))) (omega (arith, by is_recycling, rest is_recycling));
          link_live = λ p. absurd (omega arith);
          link_odd = λ p. omega (arith, by (is_linked (v - 1) l.link), rest (is_linked (v - 1) l.link), law.link_odd p);
          link_last = λ p. absurd (omega (arith, by is_recycling, rest is_recycling));
        };
      }

  -- a holder finds the code
  pub keeps_found_code : (h : ℕ) → 0 < total (is_hold h) m → 0 < l.code → SlotLaw first (live l) record l { marks = set l.marks j (Told h l.code ∷ Saw (h + 1) ∷ m) }
  keeps_found_code h there some_ = let v : ℕ = l.version in let lv : ℕ = live l in let c : ℕ = l.code in let w : List Mark = Told h c ∷ Saw (h + 1) ∷ m in let by = moved first l law j m here w in let mine = own first l law j m here in
      let at = law.held h (omega (arith, mine (is_hold h))) in let at₀ : h + 1 ≡ v + lv = at.0 in let at₁ = at.1 in let le = alive_le first l law j m here in
      let still : lv ≡ 0 = dite (ℕ_discrete lv 0) (λ e. e) (λ n. absurd (omega (arith, law.code_none (omega arith)))) in let is : h + 1 ≡ v = omega arith in
      let found = law.code_by (omega arith) some_ in let e : v - 1 ≡ h = omega arith in let stored : 0 < tally (is_stored h c) l.marks = subst (λ (y : ℕ). 0 < tally (is_stored y c) l.marks) e found in
      keeps_notes first l law j m here w (λ f n. let a = n.1 (h + 1) in let b = n.3 h l.code in omega arith) (λ x. omega arith) (λ p. omega (arith, by is_tried))
      (λ x p. dite (ℕ_discrete (h + 1) x) (λ q. omega arith) (λ n. law.saw x (omega (arith, by (is_saw x), only-else x (h + 1) n))))
      (λ g p. law.known g (omega (arith, by (is_known g))))
      (λ g d p. dite (ℕ_discrete (pair g d h c) 0) (λ z. law.told g d (omega (arith, by (is_told g d))))
      (λ n. let t = pair_is g d h c (omega arith) in subst (λ (y : ℕ). 0 < tally (is_stored g y) l.marks) t.1 (subst (λ (y : ℕ). 0 < tally (is_stored y c) l.marks) t.0 stored)))
      (λ g k p. law.met g k (omega (arith, by (is_met g k))))

  -- an id that was found
  pub keeps_known : (h : ℕ) → life first h (l.version + live l) ≡ 1 → SlotLaw first (live l) record l { marks = set l.marks j (Known h ∷ m) }
  keeps_known h was_born = let by = moved first l law j m here (Known h ∷ m) in keeps_notes first l law j m here (Known h ∷ m) (λ f n. let a = n.2 h in omega arith) (λ v. omega arith) (λ p. omega (arith, by is_tried)) (λ v p. law.saw v (omega (arith, by (is_saw v))))
      (λ g p. dite (ℕ_discrete h g) (λ e. subst (λ (y : ℕ). life first y (l.version + live l) ≡ 1) e was_born) (λ n. law.known g (omega (arith, by (is_known g), only-else g h n))))
      (λ h c p. law.told h c (omega (arith, by (is_told h c)))) (λ h k p. law.met h k (omega (arith, by (is_met h k))))

  -- the link of a life was found
  pub keeps_met : (h k : ℕ) → 0 < tally (is_linked h k) l.marks → SlotLaw first (live l) record l { marks = set l.marks j (Met h k ∷ m) }
  keeps_met h k there = let by = moved first l law j m here (Met h k ∷ m) in keeps_notes first l law j m here (Met h k ∷ m) (λ f n. let a = n.4 h k in omega arith) (λ v. omega arith) (λ p. omega (arith, by is_tried)) (λ v p. law.saw v (omega (arith, by (is_saw v))))
      (λ h p. law.known h (omega (arith, by (is_known h)))) (λ h c p. law.told h c (omega (arith, by (is_told h c))))
      (λ g c p. dite (ℕ_discrete (pair g c h k) 0) (λ e. law.met g c (omega (arith, by (is_met g c))))
      (λ n. let t = pair_is g c h k (omega arith) in subst (λ y. 0 < tally (is_linked y c) l.marks) t.0 (subst (λ y. 0 < tally (is_linked h y) l.marks) t.1 there)))
