-- What a step on a slot leaves of its seat's view, and that each row of a step does.
use Rattle.std.proofs.Common.{◌≡◌, ◌≢◌, ℕ, ◌+◌, ◌-◌, ◌%◌, ◌<◌, ◌≤◌, Bool, List, [], ◌∷◌, refl, sym, ap, ◌∙◌, subst, arith, cond, eqb, ne_eqb}
use mathlib.Core.Logic.{dite}
use native.Mathlib.Decide.{ℕ_discrete}
use Rattle.sock_model.specs.declared.marks.Mark.{Mark}
use Rattle.sock_model.specs.declared.marks.Mark.TheVariants.{Claimed, Recycling, Hold, Probe, Zero, Coding, Tried, Known, Saw, Failer, Stored, Told, Freer, Met}
use Rattle.sock_model.specs.declared.marks.SlotMark.{SlotMark}
use Rattle.sock_model.specs.declared.view.View.{View}
use Rattle.sock_model.specs.MarkWeights.{only, is_failer, is_freer, is_linked, is_met, is_hold, is_zero, is_coding, is_stage, is_recycling, is_recycled, is_reset, is_waiting}
use Rattle.sock_model.specs.Marks.{about, at, without, without_at}
use Rattle.sock_model.specs.SlotRows.{marks_of, claimed, added, subbed, failed, recycled, freed, looked, linked, staged, coded, told_code, met, wrote, met_link}
use Rattle.sock_model.specs.ChainLawReads.{waits_link, waits_of}
use Rattle.slot_steps.proofs.SlotWeightSums.{taken_as, about-here, about-other}
use Rattle.slot_steps.proofs.OtherSlotsUntouched.{about-without, about-without_else, passes-without, mark-taken}
use Rattle.slot_steps.proofs.KeptByTagSteps.{conds}
use Rattle.slot_steps.proofs.CodeStepsKeepLaw.{coding_as}
use Rattle.slot_steps.proofs.ReferenceStepsKeepSlot.{IsRef, zero_is, stage_is, any_recycled}
use Rattle.sock_steps.proofs.SumsAsMarksChange.{either_way, Less, More, less_add, more_add, less_all, more_all, less_without, more_without, Quiet, quiet_linked, quiet_freer, quiet_failer, quiet_reset, waits-without}
use Rattle.sock_model.specs.sock_words.specs.PackedWords.{vref_version, vref_nref}
use Rattle.sock_model.specs.sock_words.specs.Totals.{total}

-- of lives, links and claims
pub record Steady (v w : View) : Type 0 where
  pub given : (j h k : ℕ) → marks_of (is_linked h k) j w ≡ marks_of (is_linked h k) j v
  pub ended : (j h : ℕ) → marks_of (is_freer h) j w ≡ marks_of (is_freer h) j v
  pub failed : (j h : ℕ) → marks_of (is_failer h) j v ≤ marks_of (is_failer h) j w
  pub met : (j h k : ℕ) → marks_of (is_met h k) j v ≤ marks_of (is_met h k) j w
  pub waits : (k : ℕ) → waits_of k w ≤ waits_of k v

-- no head is reset
abbrev pub NoReset : View → View → Type 0
NoReset v w = (j : ℕ) → marks_of is_reset j w ≤ marks_of is_reset j v

-- what it holds of lives, and of slots that it recycled
pub record Holds (v w : View) : Type 0 where
  pub hold : (j h : ℕ) → marks_of (is_hold h) j v ≤ marks_of (is_hold h) j w
  pub recycling : (j x : ℕ) → marks_of (is_recycled x) j v ≤ marks_of (is_recycled x) j w

-- the view w is v in all that the chains read: but for its marks, its passes and its stores
abbrev pub SameChain : View → View → Type 0
SameChain v w = let u : View = record v { marks = w.marks; passes = w.passes; stores = w.stores } in w ≡ u

NoFailer : (Mark → ℕ) → Type 0
NoFailer f = (h : ℕ) → f (Failer h) ≡ 0

module _ (v w : View) where
  -- a row that touches no claim
  quiet_row : ((f : Mark → ℕ) → Quiet f → ((h : ℕ) → f (Failer h) ≡ 0) → Less f v.marks w.marks) → ((f : Mark → ℕ) → Quiet f → More f v.marks w.marks)
      → ((h k : ℕ) → More (is_met h k) v.marks w.marks) → ((k : ℕ) → waits_of k w ≤ waits_of k v) → Steady v w × NoReset v w
  quiet_row less more met waits = (
    record {
      given = λ j h k. omega (arith, less (is_linked h k) (quiet_linked h k) (λ g. refl) j, more (is_linked h k) (quiet_linked h k) j);
      ended = λ j h. omega (arith, less (is_freer h) (quiet_freer h) (λ g. refl) j, more (is_freer h) (quiet_freer h) j);
      failed = λ j h. more (is_failer h) (quiet_failer h) j;
      met = λ j h k. met h k j;
      waits = waits;
    },
    less is_reset quiet_reset (λ g. refl),
  )

module _ (v : View) where
  abbrev old : List SlotMark
  old = v.marks

  -- A3
  pub added_steady : (i found : ℕ) (b : Bool) → Steady v (added i found b v) × NoReset v (added i found b v)
  added_steady i found b = let x : ℕ = vref_version found in let m : Mark = cond b (Hold x) Probe in
      quiet_row v (added i found b v)
      (λ f q n. less_add f old i m (at i (Saw x) ∷ v.marks) (either_way b (Hold x) Probe (λ y. f y ≡ 0) (q.hold x) q.probe) (less_add f old i (Saw x) old (q.saw x) (less_all f old)))
      (λ f q. more_add f old i m (at i (Saw x) ∷ v.marks) (more_add f old i (Saw x) old (more_all f old)))
      (λ h k. more_add (is_met h k) old i m (at i (Saw x) ∷ v.marks) (more_add (is_met h k) old i (Saw x) old (more_all (is_met h k) old)))
      (λ k. let z : is_waiting k m ≡ 0 = either_way b (Hold x) Probe (λ y. is_waiting k y ≡ 0) refl refl in omega arith)

  pub added_holds : (i found : ℕ) (b : Bool) → Holds v (added i found b v)
  added_holds i found b = let x : ℕ = vref_version found in let m : Mark = cond b (Hold x) Probe in let more : (f : Mark → ℕ) → More f v.marks (added i found b v).marks = λ f. more_add f old i m (at i (Saw x) ∷ v.marks) (more_add f old i (Saw x) old (more_all f old)) in
      record { hold = λ j h. more (is_hold h) j; recycling = λ j y. more (is_recycled y) j }

  -- A4
  module _ (i found : ℕ) (g : Mark → ℕ) (kind : (x : Mark) → 0 < g x → IsRef x) where
    sub_more : (f : Mark → ℕ) → f Probe ≡ 0 → ((h : ℕ) → f (Hold h) ≡ 0) → More f v.marks (subbed i found g v).marks
    sub_more f p h = let x : ℕ = vref_version found in let r : List SlotMark = without_at i g v.marks in let keep : More f old r = more_without f old i g (λ y q. (kind y q).1 f p h) in
        conds (eqb (x % 2) 1) (eqb (vref_nref found) 1) (at i (Zero x) ∷ r) r (λ es. More f old es) (more_add f old i (Zero x) r keep) keep

    pub subbed_steady : Steady v (subbed i found g v) × NoReset v (subbed i found g v)
    subbed_steady = let x : ℕ = vref_version found in let r : List SlotMark = without_at i g v.marks in
        quiet_row v (subbed i found g v)
        (λ f q n. let keep : Less f old r = less_without f old i g in conds (eqb (x % 2) 1) (eqb (vref_nref found) 1) (at i (Zero x) ∷ r) r (λ es. Less f old es) (less_add f old i (Zero x) r (q.zeros x) keep) keep)
        (λ f q. sub_more f q.probe q.hold)
        (λ h k. sub_more (is_met h k) refl (λ y. refl))
        (λ k. let le = waits-without k i g v.marks in conds (eqb (x % 2) 1) (eqb (vref_nref found) 1) (at i (Zero x) ∷ r) r (λ es. total (only k) v.passes + total (waits_link k) es ≤ waits_of k v) (omega arith) (omega arith))

    pub subbed_recycling : (j x : ℕ) → marks_of (is_recycled x) j v ≤ marks_of (is_recycled x) j (subbed i found g v)
    subbed_recycling j x = sub_more (is_recycled x) refl (λ y. refl) j

    -- the references to lives of another slot stay
    pub subbed_else : (j h : ℕ) → j ≢ i → marks_of (is_hold h) j v ≤ marks_of (is_hold h) j (subbed i found g v)
    subbed_else j h ne = let x : ℕ = vref_version found in let r : List SlotMark = without_at i g v.marks in let keep : total (is_hold h) (about j v.marks) ≤ total (is_hold h) (about j r) = (let q = ap (total (is_hold h)) (about-without_else j i g v.marks ne) in omega arith) in
        conds (eqb (x % 2) 1) (eqb (vref_nref found) 1) (at i (Zero x) ∷ r) r (λ es. total (is_hold h) (about j v.marks) ≤ total (is_hold h) (about j es)) (let q = ap (total (is_hold h)) (about-other j i (Zero x) r ne) in omega arith) keep

  -- A5
  pub failed_steady : (i found : ℕ) → Steady v (failed i found v) × NoReset v (failed i found v)
  failed_steady i found = let x : ℕ = vref_version found in let a : List SlotMark = at i (Hold x) ∷ at i (Coding x) ∷ at i (Failer x) ∷ at i (Saw (x + 1)) ∷ v.marks in let b : List SlotMark = at i (Saw x) ∷ v.marks in
      let more : (f : Mark → ℕ) → More f v.marks (failed i found v).marks = λ f. either_way (eqb (x % 2) 0) a b (λ es. More f old es)
      (more_add f old i (Hold x) (at i (Coding x) ∷ at i (Failer x) ∷ at i (Saw (x + 1)) ∷ v.marks) (more_add f old i (Coding x) (at i (Failer x) ∷ at i (Saw (x + 1)) ∷ v.marks) (more_add f old i (Failer x) (at i (Saw (x + 1)) ∷ v.marks) (more_add f old i (Saw (x + 1)) old (more_all f old)))))
      (more_add f old i (Saw x) old (more_all f old)) in
      quiet_row v (failed i found v)
      (λ f q n. either_way (eqb (x % 2) 0) a b (λ es. Less f old es)
      (less_add f old i (Hold x) (at i (Coding x) ∷ at i (Failer x) ∷ at i (Saw (x + 1)) ∷ v.marks) (q.hold x) (less_add f old i (Coding x) (at i (Failer x) ∷ at i (Saw (x + 1)) ∷ v.marks) (q.coding x) (less_add f old i (Failer x) (at i (Saw (x + 1)) ∷ v.marks) (n x) (less_add f old i (Saw (x + 1)) old (q.saw (x + 1)) (less_all f old)))))
      (less_add f old i (Saw x) old (q.saw x) (less_all f old)))
      (λ f q. more f) (λ h k. more (is_met h k))
      (λ k. either_way (eqb (x % 2) 0) a b (λ es. total (only k) v.passes + total (waits_link k) es ≤ waits_of k v) (omega arith) (omega arith))

  pub failed_holds : (i found : ℕ) → Holds v (failed i found v)
  failed_holds i found = let x : ℕ = vref_version found in let a : List SlotMark = at i (Hold x) ∷ at i (Coding x) ∷ at i (Failer x) ∷ at i (Saw (x + 1)) ∷ v.marks in let b : List SlotMark = at i (Saw x) ∷ v.marks in
      let more : (f : Mark → ℕ) → More f v.marks (failed i found v).marks = λ f. either_way (eqb (x % 2) 0) a b (λ es. More f old es)
      (more_add f old i (Hold x) (at i (Coding x) ∷ at i (Failer x) ∷ at i (Saw (x + 1)) ∷ v.marks) (more_add f old i (Coding x) (at i (Failer x) ∷ at i (Saw (x + 1)) ∷ v.marks) (more_add f old i (Failer x) (at i (Saw (x + 1)) ∷ v.marks) (more_add f old i (Saw (x + 1)) old (more_all f old)))))
      (more_add f old i (Saw x) old (more_all f old)) in
      record { hold = λ j h. more (is_hold h) j; recycling = λ j y. more (is_recycled y) j }

  -- a mark that is quiet, at most: A8, S2, S5 and S6
  note_steady : (i : ℕ) (m : Mark) (es : List SlotMark) → ((f : Mark → ℕ) → Quiet f → f m ≡ 0) → ((k : ℕ) → is_waiting k m ≡ 0) → (w : View) → w.marks ≡ at i m ∷ v.marks → w.passes ≡ v.passes → Steady v w × NoReset v w
  note_steady i m es none_ idle w is passes = quiet_row v w
      (λ f q n. subst (λ y. Less f old y) (sym is) (less_add f old i m old (none_ f q) (less_all f old)))
      (λ f q. subst (λ y. More f old y) (sym is) (more_add f old i m old (more_all f old)))
      (λ h k. subst (λ y. More (is_met h k) old y) (sym is) (more_add (is_met h k) old i m old (more_all (is_met h k) old)))
      (λ k. let z = idle k in let a = ap (total (waits_link k)) is in let b = ap (total (only k)) passes in omega arith)

  note_holds : (i : ℕ) (m : Mark) (w : View) → w.marks ≡ at i m ∷ v.marks → Holds v w
  note_holds i m w is = record {
    hold = λ j h. subst (λ y. total (is_hold h) (about j v.marks) ≤ total (is_hold h) (about j y)) (sym is) (more_add (is_hold h) old i m old (more_all (is_hold h) old) j);
    recycling = λ j x. subst (λ y. total (is_recycled x) (about j v.marks) ≤ total (is_recycled x) (about j y)) (sym is) (more_add (is_recycled x) old i m old (more_all (is_recycled x) old) j);
  }

  pub looked_steady : (i found : ℕ) → (Steady v (looked i found v) × NoReset v (looked i found v)) × Holds v (looked i found v)
  looked_steady i found = (note_steady i (Saw (vref_version found)) [] (λ f q. q.saw (vref_version found)) (λ k. refl) (looked i found v) refl refl, note_holds i (Saw (vref_version found)) (looked i found v) refl)

  pub met_steady : (i h : ℕ) → (Steady v (met i h v) × NoReset v (met i h v)) × Holds v (met i h v)
  met_steady i h = (note_steady i (Known h) [] (λ f q. q.known h) (λ k. refl) (met i h v) refl refl, note_holds i (Known h) (met i h v) refl)

  pub met_link_steady : (i h k : ℕ) → (Steady v (met_link i h k v) × NoReset v (met_link i h k v)) × Holds v (met_link i h k v)
  met_link_steady i h k = (note_steady i (Met h k) [] (λ f q. q.met h k) (λ x. refl) (met_link i h k v) refl refl, note_holds i (Met h k) (met_link i h k v) refl)

  -- A1
  pub claimed_steady : (i found : ℕ) → (Steady v (claimed i found v) × NoReset v (claimed i found v)) × Holds v (claimed i found v)
  claimed_steady i found = let b : Bool = eqb found 0 in let m : Mark = cond b (Claimed 0 0) Tried in
      let less : (f : Mark → ℕ) → f (Claimed 0 0) ≡ 0 → f Tried ≡ 0 → Less f v.marks (claimed i found v).marks = λ f p q. less_add f old i m old (either_way b (Claimed 0 0) Tried (λ y. f y ≡ 0) p q) (less_all f old) in
      let more : (f : Mark → ℕ) → More f v.marks (claimed i found v).marks = λ f. more_add f old i m old (more_all f old) in (
        (
          record {
            given = λ j h k. omega (arith, less (is_linked h k) refl refl j, more (is_linked h k) j);
            ended = λ j h. omega (arith, less (is_freer h) refl refl j, more (is_freer h) j);
            failed = λ j h. more (is_failer h) j;
            met = λ j h k. more (is_met h k) j;
            waits = λ k. let z : is_waiting k m ≡ 0 = either_way b (Claimed 0 0) Tried (λ y. is_waiting k y ≡ 0) refl refl in omega arith;
          },
          less is_reset refl refl,
        ),
        record { hold = λ j h. more (is_hold h) j; recycling = λ j x. more (is_recycled x) j },
      )

  -- a mark goes, and quiet ones come: A6 lost, A7
  drop_steady : (i : ℕ) (g : Mark → ℕ) → ((f : Mark → ℕ) → Quiet f → (x : Mark) → 0 < g x → f x ≡ 0) → ((h k : ℕ) (x : Mark) → 0 < g x → is_met h k x ≡ 0) → (w : View) → w.marks ≡ without_at i g v.marks → w.passes ≡ v.passes → Steady v w × NoReset v w
  drop_steady i g quiet unmet w is passes = quiet_row v w
      (λ f q n. subst (λ y. Less f old y) (sym is) (less_without f old i g))
      (λ f q. subst (λ y. More f old y) (sym is) (more_without f old i g (quiet f q)))
      (λ h k. subst (λ y. More (is_met h k) old y) (sym is) (more_without (is_met h k) old i g (unmet h k)))
      (λ k. let z = waits-without k i g v.marks in let a = ap (total (waits_link k)) is in let b = ap (total (only k)) passes in omega arith)

  pub freed_steady : (i : ℕ) → (Steady v (freed i v) × NoReset v (freed i v)) × ((j h : ℕ) → marks_of (is_hold h) j v ≤ marks_of (is_hold h) j (freed i v))
  freed_steady i = (
    drop_steady i is_recycling (λ f q x p. let y = any_recycled x p in ap f y.1 ∙ q.recycling y.0) (λ h k x p. let y = any_recycled x p in ap (is_met h k) y.1) (freed i v) refl refl,
    λ j h. more_without (is_hold h) old i is_recycling (λ x p. let y = any_recycled x p in ap (is_hold h) y.1) j,
  )

  pub lost_steady : (i from found : ℕ) → found ≢ from → (Steady v (recycled i from found v) × NoReset v (recycled i from found v)) × Holds v (recycled i from found v)
  lost_steady i from found miss = let x : ℕ = vref_version from in let r : List SlotMark = without_at i (is_zero x) v.marks in let a : List SlotMark = at i (Recycling (x + 1)) ∷ at i (Freer (x - 1)) ∷ r in
      let is : (recycled i from found v).marks ≡ without_at i (is_zero x) v.marks = ap (λ b. cond b a r) (ne_eqb found from miss) in
      let more : (f : Mark → ℕ) → f (Zero x) ≡ 0 → More f v.marks (recycled i from found v).marks = λ f z. subst (λ y. More f old y) (sym is) (more_without f old i (is_zero x) (λ y p. ap f (zero_is x y p) ∙ z)) in (
        drop_steady i (is_zero x) (λ f q y p. ap f (zero_is x y p) ∙ q.zeros x) (λ h k y p. ap (is_met h k) (zero_is x y p)) (recycled i from found v) is refl,
        record { hold = λ j h. more (is_hold h) refl j; recycling = λ j y. more (is_recycled y) refl j },
      )

  -- S4 of a code
  pub coded_steady : (i h c : ℕ) → (Steady v (coded i h c v) × NoReset v (coded i h c v)) × Holds v (coded i h c v)
  coded_steady i h c = let r : List SlotMark = without_at i (is_coding h) v.marks in
      let more : (f : Mark → ℕ) → f (Coding h) ≡ 0 → More f v.marks (coded i h c v).marks = λ f z. more_add f old i (Stored h c) (at i (Told h c) ∷ r) (more_add f old i (Told h c) r (more_without f old i (is_coding h) (λ y p. ap f (coding_as h y p) ∙ z))) in (
        quiet_row v (coded i h c v)
            (λ f q n. less_add f old i (Stored h c) (at i (Told h c) ∷ r) (q.stored h c) (less_add f old i (Told h c) r (q.told h c) (less_without f old i (is_coding h))))
            (λ f q. more f (q.coding h)) (λ g k. more (is_met g k) refl) (λ k. omega (arith, waits-without k i (is_coding h) v.marks)),
        record { hold = λ j g. more (is_hold g) refl j; recycling = λ j x. more (is_recycled x) refl j },
      )

  -- S5 of a code
  pub told_steady : (i h c : ℕ) → (Steady v (told_code i h c v) × NoReset v (told_code i h c v)) × Holds v (told_code i h c v)
  told_steady i h c = let b : List SlotMark = at i (Saw (h + 1)) ∷ v.marks in
      let more : (f : Mark → ℕ) → More f v.marks (told_code i h c v).marks = λ f. more_add f old i (Told h c) b (more_add f old i (Saw (h + 1)) old (more_all f old)) in (
        quiet_row v (told_code i h c v)
            (λ f q n. less_add f old i (Told h c) b (q.told h c) (less_add f old i (Saw (h + 1)) old (q.saw (h + 1)) (less_all f old)))
            (λ f q. more f) (λ g k. more (is_met g k)) (λ k. omega arith),
        record { hold = λ j g. more (is_hold g) j; recycling = λ j x. more (is_recycled x) j },
      )

  -- S6 and S7 change no mark
  pub wrote_steady : (x word : ℕ) → (Steady v (wrote x word v) × NoReset v (wrote x word v)) × Holds v (wrote x word v)
  wrote_steady x word = (
    (record { given = λ j h k. refl; ended = λ j h. refl; failed = λ j h. omega arith; met = λ j h k. omega arith; waits = λ k. omega arith }, λ j. omega arith),
    record { hold = λ j h. omega arith; recycling = λ j y. omega arith },
  )

-- a claim with a link
pub waits-taken : (k i : ℕ) (g : Mark → ℕ) (e : Mark) (es : List SlotMark) → ((x : Mark) → 0 < g x → x ≡ e) → 0 < total g (about i es) → total (waits_link k) (without_at i g es) + is_waiting k e ≡ total (waits_link k) es
waits-taken k = mark-taken (is_waiting k)

module _ (v : View) (i a k b : ℕ) (there : 0 < marks_of (is_stage a k) i v) where
  abbrev rest : List SlotMark
  rest = without_at i (is_stage a k) v.marks

  -- a claim goes from one stage to another
  stage_less : (f : Mark → ℕ) → f (Claimed b k) ≡ 0 → Less f v.marks (at i (Claimed b k) ∷ rest)
  stage_less f z = less_add f v.marks i (Claimed b k) rest z (less_without f v.marks i (is_stage a k))

  stage_more : (f : Mark → ℕ) → f (Claimed a k) ≡ 0 → More f v.marks (at i (Claimed b k) ∷ rest)
  stage_more f z = more_add f v.marks i (Claimed b k) rest (more_without f v.marks i (is_stage a k) (λ x p. ap f (stage_is a k x p) ∙ z))

  pub staged_steady : ((x : ℕ) → is_waiting x (Claimed b k) ≡ is_waiting x (Claimed a k)) → Steady v (staged i a k b v) × Holds v (staged i a k b v)
  staged_steady same = (
    record {
      given = λ j h l. omega (arith, stage_less (is_linked h l) refl j, stage_more (is_linked h l) refl j);
      ended = λ j h. omega (arith, stage_less (is_freer h) refl j, stage_more (is_freer h) refl j);
      failed = λ j h. stage_more (is_failer h) refl j;
      met = λ j h l. stage_more (is_met h l) refl j;
      waits = λ x. omega (arith, waits-taken x i (is_stage a k) (Claimed a k) v.marks (stage_is a k) there, same x);
    },
    record { hold = λ j h. stage_more (is_hold h) refl j; recycling = λ j x. stage_more (is_recycled x) refl j },
  )

  -- S4 of 0, for a claim whose head was reset before
  pub staged_reset : is_reset (Claimed b k) ≡ is_reset (Claimed a k) → NoReset v (staged i a k b v)
  staged_reset same j = dite (ℕ_discrete j i)
      (λ e. let q : total is_reset (about j (at i (Claimed b k) ∷ rest)) ≡ total is_reset (Claimed b k ∷ without (is_stage a k) (about j v.marks)) = ap (λ y. total is_reset (about y (at i (Claimed b k) ∷ rest))) e ∙ (ap (total is_reset) (about-here i (Claimed b k) rest) ∙ (ap (λ y. total is_reset (Claimed b k ∷ y)) (about-without i (is_stage a k) v.marks) ∙ ap (λ y. total is_reset (Claimed b k ∷ without (is_stage a k) (about y v.marks))) (sym e))) in
      let t = taken_as (is_stage a k) (Claimed a k) (about j v.marks) (stage_is a k) (subst (λ y. 0 < total (is_stage a k) (about y v.marks)) (sym e) there) is_reset in omega arith)
      (λ n. let q = ap (total is_reset) (about-other j i (Claimed b k) rest n) in let t = less_without is_reset v.marks i (is_stage a k) j in omega arith)

  -- S3: the head of this slot alone
  pub staged_else : (j : ℕ) → j ≢ i → marks_of is_reset j (staged i a k b v) ≤ marks_of is_reset j v
  staged_else j n = let q = ap (total is_reset) (about-other j i (Claimed b k) rest n) in let t = less_without is_reset v.marks i (is_stage a k) j in omega arith

-- S1
pub linked_steady : (v : View) (i k : ℕ) → 0 < marks_of (is_stage 0 0) i v → 0 < total (only k) v.passes → (Steady v (linked i k v) × NoReset v (linked i k v)) × Holds v (linked i k v)
linked_steady v i k there pass = let old : List SlotMark = v.marks in let r : List SlotMark = without_at i (is_stage 0 0) v.marks in
    let less : (f : Mark → ℕ) → f (Claimed 1 k) ≡ 0 → Less f v.marks (linked i k v).marks = λ f z. less_add f old i (Claimed 1 k) r z (less_without f old i (is_stage 0 0)) in
    let more : (f : Mark → ℕ) → f (Claimed 0 0) ≡ 0 → More f v.marks (linked i k v).marks = λ f z. more_add f old i (Claimed 1 k) r (more_without f old i (is_stage 0 0) (λ x p. ap f (stage_is 0 0 x p) ∙ z)) in (
      (
        record {
          given = λ j h l. omega (arith, less (is_linked h l) refl j, more (is_linked h l) refl j);
          ended = λ j h. omega (arith, less (is_freer h) refl j, more (is_freer h) refl j);
          failed = λ j h. more (is_failer h) refl j;
          met = λ j h l. more (is_met h l) refl j;
          waits = λ x. omega (arith, passes-without k x v.passes pass, waits-without x i (is_stage 0 0) v.marks);
        },
        less is_reset refl,
      ),
      record { hold = λ j h. more (is_hold h) refl j; recycling = λ j x. more (is_recycled x) refl j },
    )
