-- Each step by what its seat has before and behind it, so that programs are read without their views.
use Rattle.std.proofs.Common.{◌≡◌, ◌≢◌, ℕ, ◌+◌, ◌-◌, ◌%◌, ◌<◌, ◌≤◌, ◌⊎◌, Bool, true, false, not, ◌&&◌, ◌||◌, List, [], ◌∷◌, length, map, filter, refl, sym, ap, ap₂, ◌∙◌, subst, inl, inr, arith, cond, eqb, ltb, eq-eqb, ne_eqb, eqb-true, le-ltb, lt-ltb}
use Rattle.std.proofs.lemmas.Bool.{cond-true, cond-false}
use mathlib.Core.List.{cons-ne-nil, head-eq_of_cons-eq, tail-eq_of_cons-eq}
use mathlib.Core.Logic.{dite}
use native.Mathlib.Decide.{ℕ_discrete}
use Rattle.sock_words.specs.declared.plain.Plan.{Plan}
use Rattle.sock_words.specs.PackedWords.{socket_id_version, socket_id_slot, vref_version, vref_nref, NO_SOCKET}
use Rattle.sock_model.specs.declared.chain.Entry.{Entry}
use Rattle.sock_model.specs.declared.marks.Mark.{Mark}
use Rattle.sock_model.specs.declared.marks.Mark.TheVariants.{Claimed, Recycling, Hold, Probe, Zero, Coding, Tried, Known, Born, Saw, Failer, Stored, Told, Freer, Linked, Met}
use Rattle.sock_model.specs.declared.marks.SlotMark.{SlotMark}
use Rattle.sock_model.specs.declared.view.View.{View}
use Rattle.sock_model.specs.declared.view.Hand.{Hand}
use Rattle.sock_model.specs.MarkWeights.{only, is_ref, is_probe, is_hold, is_zero, is_any_coding, is_coding, is_stage, is_recycled, is_recycling, is_busy, is_known, is_met}
use Rattle.sock_model.specs.Marks.{about, at, without, without_at, without_pass}
use Rattle.sock_model.specs.SlotRows.{marks_of, back, subbed, freed, wrote}
use Rattle.sock_model.specs.SocketTableLayout.{name_index, open_index}
use Rattle.sock_model.specs.ChainRows.{with_hand, without_hand, spent_hand}
use Rattle.seat_programs.specs.TableSteps.{OnSlot, OnName, OnLink, ClaimSlot, CreateLife, AddRef, SubRef, SetOdd, Recycle, FreeSlot, StoreLink, LoadLink, ResetHead, ClearCode, StoreCode, StoreName, LoadName, StoreOpen, LoadOpen, TakeLink, FinishLink, PutLink}
use Rattle.seat_programs.specs.Programs.{Program, Do, LAST_VERSION}
use Rattle.seat_programs.specs.ClientProgram.{HeldLife}
use Rattle.seat_programs.specs.StepsOfNames.{is_id, found_id}
use Rattle.seat_programs.specs.StepViews.{Knows}
use Rattle.seat_programs.specs.StepsOfSlots.{even_version}
use Rattle.program_walks.specs.program_steps.specs.ProgramGoesOn.{GoesOn}
use Rattle.slot_steps.proofs.SlotWeightSums.{total_mono, taken_as, about-other}
use Rattle.slot_steps.proofs.SlotWeightSums as sums
use Rattle.slot_steps.proofs.RuleNumbers.{only-same, only-else, pair-same}
use Rattle.slot_steps.proofs.OtherSlotsUntouched.{about-without, about-without_else, passes-without}
use Rattle.slot_steps.proofs.ReferenceStepsKeepSlot.{probe_is, hold_is, zero_is, stage_is, any_recycled, recycled_le, busy-parts}
use Rattle.slot_steps.proofs.CodeStepsKeepLaw.{coding_as}
use Rattle.program_walks.specs.program_steps.specs.WhatSeatHas.{Has, OfTokens}
use Rattle.program_walks.specs.program_steps.proofs.AllowedRounds.{about_top}
use Rattle.programs_allowed.proofs.WeighingWhatSeatHas.{becomes, marked, kept, probes, codings, refs_few, keeps_rights, still, at_slot, no_links, tokens}
use Rattle.sock_words.specs.Totals.{total}

-- ## Marks that come and go

-- a note more
pub noted : {lists : List (List Entry)} {s : ℕ} {t : List Mark} {held : List HeldLife} {passes links : List ℕ} {v : View} → Has lists s t held passes links v → (m : Mark) → ((f : Mark → ℕ) → OfTokens f → f m ≡ 0)
    → Has lists s t held passes links (record v { marks = at s m ∷ v.marks })
noted {lists} {s} {t} {held} {passes} {links} {v} a m z = marked a (at s m ∷ v.marks) t (λ j n. about-other j s m v.marks n) (λ f o. omega (arith, about_top f s m v.marks, z f o))

-- a token more
pub given : {lists : List (List Entry)} {s : ℕ} {t : List Mark} {held : List HeldLife} {passes links : List ℕ} {v : View} → Has lists s t held passes links v → (m : Mark) → Has lists s (m ∷ t) held passes links (record v { marks = at s m ∷ v.marks })
given {lists} {s} {t} {held} {passes} {links} {v} a m = marked a (at s m ∷ v.marks) (m ∷ t) (λ j n. about-other j s m v.marks n) (λ f o. omega (arith, about_top f s m v.marks))

-- a token less
pub gone : {lists : List (List Entry)} {s : ℕ} {t : List Mark} {held : List HeldLife} {passes links : List ℕ} {v : View} (e : Mark) → Has lists s (e ∷ t) held passes links v → (g : Mark → ℕ) → ((x : Mark) → 0 < g x → x ≡ e) → 0 < marks_of g s v
    → Has lists s t held passes links (record v { marks = without_at s g v.marks })
gone {lists} {s} {t} {held} {passes} {links} {v} e a g one there = marked a (without_at s g v.marks) t (λ j n. about-without_else j s g v.marks n)
    (λ f o. omega (arith, ap (total f) (about-without s g v.marks), taken_as g e (about s v.marks) one there f))

-- the token that stands first is there
pub first : {lists : List (List Entry)} {s : ℕ} {t : List Mark} {held : List HeldLife} {passes links : List ℕ} {v : View} (e : Mark) → Has lists s (e ∷ t) held passes links v → (g : Mark → ℕ) → OfTokens g → g e ≡ 1 → 0 < marks_of g s v
first e a g o one = omega (arith, a.here g o, one)

-- ## A slot is claimed

module _ (p : Plan) {lists : List (List Entry)} {s : ℕ} {t : List Mark} {held : List HeldLife} {passes links : List ℕ} {v : View} (a : Has lists s t held passes links v) where
  claim_branch : (b : Bool) (x y : Program) → ((w : View) → Has lists s (Claimed 0 0 ∷ t) held passes links w → GoesOn p w x) → ((w : View) → Has lists s t held passes links w → GoesOn p w y)
      → GoesOn p (record v { marks = at s (cond b (Claimed 0 0) Tried) ∷ v.marks }) (cond b x y)
  claim_branch true x y won lost = won (record v { marks = at s (Claimed 0 0) ∷ v.marks }) (given a (Claimed 0 0))
  claim_branch false x y won lost = lost (record v { marks = at s Tried ∷ v.marks }) (noted a Tried (λ f o. o.tried))

  pub claims : s < p.slots → (x y : Program) → ((w : View) → Has lists s (Claimed 0 0 ∷ t) held passes links w → GoesOn p w x) → ((w : View) → Has lists s t held passes links w → GoesOn p w y)
      → GoesOn p v (Do (OnSlot (ClaimSlot s)) (λ found. cond (eqb found 0) x y))
  claims inside x y won lost = (inside, λ found hand e. claim_branch (eqb found 0) x y won lost)

-- ## A claimed slot

pub stores_link : (p : Plan) {lists : List (List Entry)} {s k : ℕ} {t : List Mark} {held : List HeldLife} {passes links : List ℕ} {v : View} → Has lists s (Claimed 0 0 ∷ t) held (k ∷ passes) links v → s < p.slots → (next : ℕ → Program)
    → ((w : View) (found : ℕ) → Has lists s (Claimed 1 k ∷ t) held passes links w → GoesOn p w (next found)) → GoesOn p v (Do (OnSlot (StoreLink s k)) next)
stores_link p {lists} {s} {k} {t} {held} {passes} {links} {v} a inside next goes = (
  (inside, there, pass),
  λ found hand e. goes w found (becomes a w (Claimed 1 k ∷ t) passes links
      (λ j n. about-other j s (Claimed 1 k) (without_at s (is_stage 0 0) v.marks) n ∙ about-without_else j s (is_stage 0 0) v.marks n)
      (λ f o. omega (arith, about_top f s (Claimed 1 k) (without_at s (is_stage 0 0) v.marks), ap (total f) (about-without s (is_stage 0 0) v.marks), taken_as (is_stage 0 0) (Claimed 0 0) (about s v.marks) (stage_is 0 0) there f))
      (λ x. omega (arith, a.passes_are x, passes-without k x v.passes pass)) a.hands_are (still a w refl refl refl refl)),
)
  where
    w : View
    w = record v { marks = at s (Claimed 1 k) ∷ without_at s (is_stage 0 0) v.marks; passes = without_pass k v.passes }

    there : 0 < marks_of (is_stage 0 0) s v
    there = first (Claimed 0 0) a (is_stage 0 0) (tokens (is_stage 0 0) refl) (pair-same 0 0)

    pass : 0 < total (only k) v.passes
    pass = omega (arith, a.passes_are k, only-same k)

module _ (p : Plan) {lists : List (List Entry)} {s k : ℕ} {t : List Mark} {held : List HeldLife} {passes links : List ℕ} {v : View} where
  pub resets : Has lists s (Claimed 1 k ∷ t) held passes links v → s < p.slots → (next : ℕ → Program)
      → ((w : View) (found : ℕ) → Has lists s (Claimed 2 k ∷ t) held passes links w → GoesOn p w (next found)) → GoesOn p v (Do (OnSlot (ResetHead s k)) next)
  resets a inside next goes = let there = first (Claimed 1 k) a (is_stage 1 k) (tokens (is_stage 1 k) refl) (pair-same 1 k) in
      ((inside, there), λ found hand e. goes (record v { marks = at s (Claimed 2 k) ∷ without_at s (is_stage 1 k) v.marks }) found (given (gone (Claimed 1 k) a (is_stage 1 k) (stage_is 1 k) there) (Claimed 2 k)))

  pub wipes : Has lists s (Claimed 2 k ∷ t) held passes links v → s < p.slots → (next : ℕ → Program)
      → ((w : View) (found : ℕ) → Has lists s (Claimed 3 k ∷ t) held passes links w → GoesOn p w (next found)) → GoesOn p v (Do (OnSlot (ClearCode s k)) next)
  wipes a inside next goes = let there = first (Claimed 2 k) a (is_stage 2 k) (tokens (is_stage 2 k) refl) (pair-same 2 k) in
      ((inside, there), λ found hand e. goes (record v { marks = at s (Claimed 3 k) ∷ without_at s (is_stage 2 k) v.marks }) found (given (gone (Claimed 2 k) a (is_stage 2 k) (stage_is 2 k) there) (Claimed 3 k)))

  pub bears : Has lists s (Claimed 3 k ∷ t) held passes links v → s < p.slots → (next : ℕ → Program)
      → ((w : View) (found : ℕ) → Has lists s t held passes links w → 0 < marks_of (is_known (vref_version found)) s w → GoesOn p w (next found)) → GoesOn p v (Do (OnSlot (CreateLife s k)) next)
  bears a inside next goes = let there = first (Claimed 3 k) a (is_stage 3 k) (tokens (is_stage 3 k) refl) (pair-same 3 k) in (
    (inside, there),
    λ found hand e. let h : ℕ = vref_version found in let es : List SlotMark = at s (Born h) ∷ at s (Linked h k) ∷ without_at s (is_stage 3 k) v.marks in
        goes (record v { marks = at s (Known h) ∷ es }) found
        (noted (noted (noted (gone (Claimed 3 k) a (is_stage 3 k) (stage_is 3 k) there) (Linked h k) (λ f o. o.linked h k)) (Born h) (λ f o. o.born h)) (Known h) (λ f o. o.known h))
        (omega (arith, about_top (is_known h) s (Known h) es, only-same h)),
  )

-- ## A reference

module _ (p : Plan) {lists : List (List Entry)} {s : ℕ} {t : List Mark} {held : List HeldLife} {passes links : List ℕ} {v : View} where
  add_branch : Has lists s t held passes links v → (b : Bool) (w h : ℕ) → (b ≡ true → w ≡ h) → (x y : Program)
      → ((u : View) → Has lists s (Hold h ∷ t) held passes links u → GoesOn p u x) → ((u : View) → Has lists s (Probe ∷ t) held passes links u → GoesOn p u y)
      → GoesOn p (record v { marks = at s (cond b (Hold w) Probe) ∷ at s (Saw w) ∷ v.marks }) (cond b x y)
  add_branch a true w h is x y held_ gone_ = held_ (record v { marks = at s (Hold w) ∷ at s (Saw w) ∷ v.marks }) (subst (λ z. Has lists s (Hold z ∷ t) held passes links (record v { marks = at s (Hold w) ∷ at s (Saw w) ∷ v.marks })) (is refl) (given (noted a (Saw w) (λ f o. o.saw w)) (Hold w)))
  add_branch a false w h is x y held_ gone_ = gone_ (record v { marks = at s Probe ∷ at s (Saw w) ∷ v.marks }) (given (noted a (Saw w) (λ f o. o.saw w)) Probe)

  pub adds : Has lists s t held passes links v → (id : ℕ) → socket_id_slot id ≡ s → Knows p v id → total is_ref t + length held < 65540 → (x : Program) (y : ℕ → Program)
      → ((u : View) → Has lists s (Hold (socket_id_version id) ∷ t) held passes links u → GoesOn p u x) → ((u : View) (found : ℕ) → Has lists s (Probe ∷ t) held passes links u → GoesOn p u (y found))
      → GoesOn p v (Do (OnSlot (AddRef id)) (λ found. cond (eqb (vref_version found) (socket_id_version id)) x (y found)))
  adds a id is knows few x y held_ gone_ = (
    (knows, subst (λ i. marks_of is_ref i v < 65540) (sym is) (omega (arith, refs_few a))),
    λ found hand e. let h : ℕ = socket_id_version id in let w : ℕ = vref_version found in let b : Bool = eqb w h in
        subst (λ i. GoesOn p (record v { marks = at i (cond b (Hold w) Probe) ∷ at i (Saw w) ∷ v.marks }) (cond b x (y found))) (sym is)
        (add_branch a b w h (eqb-true w h) x (y found) held_ (λ u. gone_ u found)),
  )

-- what goes first of a seat's references to a slot
abbrev pub GoesFirst : Mark → List Mark → Type 0
GoesFirst e t = (e ≡ Probe) ⊎ ((h : ℕ) × (e ≡ Hold h) × (total is_probe t ≡ 0))

module _ (p : Plan) {lists : List (List Entry)} {s : ℕ} {t : List Mark} {held : List HeldLife} {passes links : List ℕ} (v : View) where
  sub_branch : (g : Mark → ℕ) → Has lists s t held passes links (record v { marks = without_at s g v.marks }) → (b c : Bool) (w : ℕ) (z : Program)
      → (b ≡ true → c ≡ true → (u : View) → Has lists s (Zero w ∷ t) held passes links u → GoesOn p u z) → ((b && c) ≡ false → (u : View) → Has lists s t held passes links u → GoesOn p u z)
      → GoesOn p (record v { marks = cond b (cond c (at s (Zero w) ∷ without_at s g v.marks) (without_at s g v.marks)) (without_at s g v.marks) }) z
  sub_branch g a true true w z last more = last refl refl (record v { marks = at s (Zero w) ∷ without_at s g v.marks }) (given a (Zero w))
  sub_branch g a true false w z last more = more refl (record v { marks = without_at s g v.marks }) a
  sub_branch g a false c w z last more = more refl (record v { marks = without_at s g v.marks }) a

module _ (p : Plan) {lists : List (List Entry)} {s : ℕ} {t : List Mark} {held : List HeldLife} {passes links : List ℕ} {v : View} where
  -- which weight the row takes
  back_probe : (found : ℕ) → Has lists s (Probe ∷ t) held passes links v → back s found v ≡ is_probe
  back_probe found a = cond-true (ltb 0 (marks_of is_probe s v)) is_probe (is_hold (vref_version found - vref_version found % 2)) (lt-ltb 0 (marks_of is_probe s v) (omega (arith, probes a)))

  back_hold : (found h : ℕ) → Has lists s (Hold h ∷ t) held passes links v → total is_probe t ≡ 0 → even_version found ≡ h → back s found v ≡ is_hold h
  back_hold found h a z e = cond-false (ltb 0 (marks_of is_probe s v)) is_probe (is_hold (vref_version found - vref_version found % 2)) (le-ltb 0 (marks_of is_probe s v) (omega (arith, probes a, z))) ∙ ap is_hold e

  pub subs : (e : Mark) → Has lists s (e ∷ t) held passes links v → GoesFirst e t → total is_any_coding t ≡ 0 → s < p.slots → (next : ℕ → Program)
      → ((found : ℕ) (u : View) → vref_version found % 2 ≡ 1 → vref_nref found ≡ 1 → total is_ref t < vref_nref found → vref_version found < 4294967295 → Has lists s (Zero (vref_version found) ∷ t) held passes links u → GoesOn p u (next found))
      → ((found : ℕ) (u : View) → ((eqb (vref_version found % 2) 1) && (eqb (vref_nref found) 1)) ≡ false → Has lists s t held passes links u → GoesOn p u (next found))
      → GoesOn p v (Do (OnSlot (SubRef s)) next)
  subs e a (inl is) idle inside next last more = let b : Has lists s (Probe ∷ t) held passes links v = subst (λ x. Has lists s (x ∷ t) held passes links v) is a in
      let there = first Probe b is_probe (tokens is_probe refl) refl in let refs = b.here is_ref (tokens is_ref refl) in (
        (inside, omega arith, omega (arith, codings b), keeps_rights b s),
        λ found hand f. let own = f.0 in
            subst (λ g. GoesOn p (subbed s found g v) (next found)) (sym (back_probe found b))
            (sub_branch p v is_probe (gone Probe b is_probe probe_is there) (eqb (vref_version found % 2) 1) (eqb (vref_nref found) 1) (vref_version found) (next found)
            (λ odd one u. last found u (eqb-true _ 1 odd) (eqb-true _ 1 one) (omega arith) f.2) (λ no_ u. more found u no_)),
      )
  subs e a (inr is) idle inside next last more = let h : ℕ = is.0 in let b : Has lists s (Hold h ∷ t) held passes links v = subst (λ x. Has lists s (x ∷ t) held passes links v) is.1 a in
      let there = first (Hold h) b (is_hold h) (tokens (is_hold h) refl) (only-same h) in let refs = b.here is_ref (tokens is_ref refl) in (
        (inside, omega arith, omega (arith, codings b), keeps_rights b s),
        λ found hand f. let own = f.0 in
            subst (λ g. GoesOn p (subbed s found g v) (next found)) (sym (back_hold found h b is.2 (f.1 h there)))
            (sub_branch p v (is_hold h) (gone (Hold h) b (is_hold h) (hold_is h) there) (eqb (vref_version found % 2) 1) (eqb (vref_nref found) 1) (vref_version found) (next found)
            (λ odd one u. last found u (eqb-true _ 1 odd) (eqb-true _ 1 one) (omega arith) f.2) (λ no_ u. more found u no_)),
      )

-- ## A life is failed

module _ (p : Plan) {lists : List (List Entry)} {s h : ℕ} {t : List Mark} {held : List HeldLife} {passes links : List ℕ} {v : View} where
  fail_branch : Has lists s (Hold h ∷ t) held passes links v → (b : Bool) (w : ℕ) → (b ≡ true → w ≡ h) → (x y : Program)
      → ((u : View) → Has lists s (Coding h ∷ Hold h ∷ Hold h ∷ t) held passes links u → GoesOn p u x) → ((u : View) → Has lists s (Hold h ∷ t) held passes links u → GoesOn p u y)
      → GoesOn p (record v { marks = cond b (at s (Hold w) ∷ at s (Coding w) ∷ at s (Failer w) ∷ at s (Saw (w + 1)) ∷ v.marks) (at s (Saw w) ∷ v.marks) }) (cond b x y)
  fail_branch a true w is x y first_ again = let us : List SlotMark = at s (Failer w) ∷ at s (Saw (w + 1)) ∷ v.marks in let u : View = record v { marks = at s (Hold w) ∷ at s (Coding w) ∷ us } in
      let b = noted (noted a (Saw (w + 1)) (λ f o. o.saw (w + 1))) (Failer w) (λ f o. o.failer w) in
      first_ u (subst (λ z. Has lists s (Coding z ∷ Hold z ∷ Hold h ∷ t) held passes links u) (is refl)
      (marked b (at s (Hold w) ∷ at s (Coding w) ∷ us) (Coding w ∷ Hold w ∷ Hold h ∷ t) (λ j n. about-other j s (Hold w) (at s (Coding w) ∷ us) n ∙ about-other j s (Coding w) us n)
      (λ f o. omega (arith, about_top f s (Hold w) (at s (Coding w) ∷ us), about_top f s (Coding w) us))))
  fail_branch a false w is x y first_ again = again (record v { marks = at s (Saw w) ∷ v.marks }) (noted a (Saw w) (λ f o. o.saw w))

  pub sets_odd : Has lists s (Hold h ∷ t) held passes links v → s < p.slots → total is_ref t + length held < 65539 → (x y : ℕ → Program)
      → ((u : View) (found : ℕ) → Has lists s (Coding h ∷ Hold h ∷ Hold h ∷ t) held passes links u → GoesOn p u (x found)) → ((u : View) (found : ℕ) → Has lists s (Hold h ∷ t) held passes links u → GoesOn p u (y found))
      → GoesOn p v (Do (OnSlot (SetOdd s)) (λ found. cond (eqb (vref_version found % 2) 0) (x found) (y found)))
  sets_odd a inside few x y first_ again = let there = first (Hold h) a (is_hold h) (tokens (is_hold h) refl) (only-same h) in (
    (inside, (h, there), omega (arith, refs_few a)),
    λ found hand f. let same = f h there in
        fail_branch a (eqb (vref_version found % 2) 0) (vref_version found) (λ e. let even = eqb-true (vref_version found % 2) 0 e in omega arith) (x found) (y found) (λ u. first_ u found) (λ u. again u found),
  )

  pub stores_code : (c : ℕ) → c ≢ 0 → Has lists s (Coding h ∷ t) held passes links v → s < p.slots → (next : ℕ → Program)
      → ((u : View) (found : ℕ) → Has lists s t held passes links u → GoesOn p u (next found)) → GoesOn p v (Do (OnSlot (StoreCode s h c)) next)
  stores_code c some_ a inside next goes = let there = first (Coding h) a (is_coding h) (tokens (is_coding h) refl) (only-same h) in (
    (inside, there, some_),
    λ found hand e. goes (record v { marks = at s (Stored h c) ∷ at s (Told h c) ∷ without_at s (is_coding h) v.marks }) found
        (noted (noted (gone (Coding h) a (is_coding h) (coding_as h) there) (Told h c) (λ f o. o.told h c)) (Stored h c) (λ f o. o.stored h c)),
  )

-- ## A slot is recycled

module _ (p : Plan) {lists : List (List Entry)} {s : ℕ} {t : List Mark} {held : List HeldLife} {passes links : List ℕ} where
  recycle_branch : (v : View) (b : Bool) (w : ℕ) → Has lists s t held passes links (record v { marks = without_at s (is_zero w) v.marks }) → (x y : Program)
      → ((u : View) → Has lists s (Recycling (w + 1) ∷ t) held passes links u → GoesOn p u x) → ((u : View) → Has lists s t held passes links u → GoesOn p u y)
      → GoesOn p (record v { marks = cond b (at s (Recycling (w + 1)) ∷ at s (Freer (w - 1)) ∷ without_at s (is_zero w) v.marks) (without_at s (is_zero w) v.marks) }) (cond b x y)
  recycle_branch v true w a x y won lost = won (record v { marks = at s (Recycling (w + 1)) ∷ at s (Freer (w - 1)) ∷ without_at s (is_zero w) v.marks }) (given (noted a (Freer (w - 1)) (λ f o. o.freer (w - 1))) (Recycling (w + 1)))
  recycle_branch v false w a x y won lost = lost (record v { marks = without_at s (is_zero w) v.marks }) a

  pub recycles : {v : View} (from : ℕ) → Has lists s (Zero (vref_version from) ∷ t) held passes links v → s < p.slots → vref_version from % 2 ≡ 1 → vref_nref from ≡ 0 → vref_version from < 4294967295 → (x y : Program)
      → ((u : View) → Has lists s (Recycling (vref_version from + 1) ∷ t) held passes links u → GoesOn p u x) → ((u : View) → Has lists s t held passes links u → GoesOn p u y)
      → GoesOn p v (Do (OnSlot (Recycle s from)) (λ found. cond (eqb found from) x y))
  recycles {v} from a inside odd none_ low x y won lost = let w : ℕ = vref_version from in let there = first (Zero w) a (is_zero w) (tokens (is_zero w) refl) (only-same w) in
      ((inside, there, odd, none_, low), λ found hand e. recycle_branch v (eqb found from) w (gone (Zero w) a (is_zero w) (zero_is w) there) x y won lost)

  pub loads_link : {v : View} (w : ℕ) → Has lists s (Recycling w ∷ t) held passes links v → s < p.slots → (next : ℕ → Program)
      → ((u : View) (k : ℕ) → k < p.links → total (only k) u.passes ≡ 0 → 0 < marks_of (is_met (w - 2) k) s u → Has lists s (Recycling w ∷ t) held passes links u → GoesOn p u (next k))
      → GoesOn p v (Do (OnSlot (LoadLink s w)) next)
  loads_link {v} w a inside next goes = (
    (inside, first (Recycling w) a (is_recycled w) (tokens (is_recycled w) refl) (only-same w)),
    λ k hand f.
        goes (record v { marks = at s (Met (w - 2) k) ∷ v.marks }) k f.0 f.1 (omega (arith, about_top (is_met (w - 2) k) s (Met (w - 2) k) v.marks, pair-same (w - 2) k)) (noted a (Met (w - 2) k) (λ f o. o.met (w - 2) k)),
  )

  -- of the one slot that it recycled
  recycling_is : {v : View} (w : ℕ) → Has lists s (Recycling w ∷ t) held passes links v → marks_of is_busy s v ≤ 1 → (f : Mark → ℕ) → total f (without is_recycling (about s v.marks)) + f (Recycling w) ≡ marks_of f s v
  recycling_is {v} w a once f = let ms : List Mark = about s v.marks in let there : 0 < total (is_recycled w) ms = first (Recycling w) a (is_recycled w) (tokens (is_recycled w) refl) (only-same w) in
      let more : (x : Mark) → is_recycling x ≤ is_busy x = λ x. omega (arith, busy-parts x) in
      let q = sums.taken is_recycling ms (omega (arith, there, total_mono (is_recycled w) is_recycling (recycled_le w) ms)) in let y = any_recycled q.0 q.1 in
      let same : y.0 ≡ w = by_cases q.0 y.0 y.1 ms there once (q.2 (is_recycled w)) (q.2 is_busy) in
      let e : f q.0 ≡ f (Recycling w) = ap f (y.1 ∙ ap Recycling same) in omega (arith, q.2 f)
    where
      by_cases : (m : Mark) (y : ℕ) → m ≡ Recycling y → (ms : List Mark) → 0 < total (is_recycled w) ms → total is_busy ms ≤ 1
          → total (is_recycled w) (without is_recycling ms) + is_recycled w m ≡ total (is_recycled w) ms → total is_busy (without is_recycling ms) + is_busy m ≡ total is_busy ms → y ≡ w
      by_cases m y e ms there once one two = dite (ℕ_discrete y w) (λ q. q) (λ n. absurd (let here : is_recycled w m ≡ 0 = ap (is_recycled w) e ∙ only-else w y n in let busy : is_busy m ≡ 1 = ap is_busy e in
          omega (arith, here, busy, there, once, one, two, total_mono (is_recycled w) is_busy (λ x. omega (arith, recycled_le w x, busy-parts x)) (without is_recycling ms))))

module _ (p : Plan) {lists : List (List Entry)} {s : ℕ} {t : List Mark} {held : List HeldLife} {passes : List ℕ} where
  pub frees : {v : View} (w : ℕ) → Has lists s (Recycling w ∷ t) held passes [] v → w ≤ LAST_VERSION → s < p.slots → (next : ℕ → Program)
      → ((u : View) (found : ℕ) → Has lists s t held passes [] u → GoesOn p u (next found)) → GoesOn p v (Do (OnSlot (FreeSlot s)) next)
  frees {v} w a low inside next goes = (
    (inside, (w, first (Recycling w) a (is_recycled w) (tokens (is_recycled w) refl) (only-same w), low), no_links v.hands a.hands_are),
    λ found hand once.
        goes (freed s v) found (marked a (without_at s is_recycling v.marks) t (λ j n. about-without_else j s is_recycling v.marks n)
        (λ f o. omega (arith, ap (total f) (about-without s is_recycling v.marks), recycling_is p w a once f))),
  )

-- ## A link in hand

-- which its pass, or the end of its life, lets the seat take
module _ (p : Plan) {lists : List (List Entry)} {s k : ℕ} {t : List Mark} {held : List HeldLife} {passes : List ℕ} {v : View} where
  pub takes_last : (w : ℕ) → Has lists s (Recycling w ∷ t) held passes [] v → s < p.slots → k < p.links → total (only k) v.passes ≡ 0 → 0 < marks_of (is_met (w - 2) k) s v → (next : ℕ → Program)
      → ((u : View) (found : ℕ) → Has lists s (Recycling w ∷ t) held passes (k ∷ []) u → GoesOn p u (next found)) → GoesOn p v (Do (OnLink (TakeLink k)) next)
  takes_last w a inside small spent there next goes = (
    (small, no_links v.hands a.hands_are, inr (s, w, inside, first (Recycling w) a (is_recycled w) (tokens (is_recycled w) refl) (only-same w), there), a.quiet.rights),
    λ found hand is.
        subst (λ u. GoesOn p u (next found)) (sym (cond-false (ltb 0 (total (only hand.link) v.passes)) (spent_hand v hand) (with_hand v hand) (le-ltb 0 _ (omega (arith, spent, ap (λ x. total (only x) v.passes) is)))))
        (goes (with_hand v hand) found (becomes a (with_hand v hand) (Recycling w ∷ t) passes (k ∷ []) (λ j n. refl) (λ f o. refl) a.passes_are (λ i. is i ∷ a.hands_are i) (still a (with_hand v hand) refl refl refl refl))),
  )

  pub takes_own : Has lists s t held (k ∷ passes) [] v → k < p.links → (next : ℕ → Program)
      → ((u : View) (found : ℕ) → Has lists s t held passes (k ∷ []) u → GoesOn p u (next found)) → GoesOn p v (Do (OnLink (TakeLink k)) next)
  takes_own a small next goes = let pass : 0 < total (only k) v.passes = omega (arith, a.passes_are k, only-same k) in (
    (small, no_links v.hands a.hands_are, inl pass, a.quiet.rights),
    λ found hand is. let own : 0 < total (only hand.link) v.passes = subst (λ x. 0 < total (only x) v.passes) (sym is) pass in
        subst (λ u. GoesOn p u (next found)) (sym (cond-true (ltb 0 (total (only hand.link) v.passes)) (spent_hand v hand) (with_hand v hand) (lt-ltb 0 _ own)))
        (goes (spent_hand v hand) found (becomes a (spent_hand v hand) t passes (k ∷ []) (λ j n. refl) (λ f o. refl)
        (λ x. omega (arith, a.passes_are x, passes-without hand.link x v.passes own, ap (only x) is)) (λ i. is i ∷ a.hands_are i) (still a (spent_hand v hand) refl refl refl refl))),
  )

module _ (p : Plan) {lists : List (List Entry)} {s k : ℕ} {t : List Mark} {held : List HeldLife} {passes : List ℕ} {v : View} where
  pub finishes : Has lists s t held passes (k ∷ []) v → k < p.links → (next : ℕ → Program) → ((found : ℕ) → GoesOn p v (next found)) → GoesOn p v (Do (OnLink (FinishLink k)) next)
  finishes a small next goes = ((small, a.hands_are, a.quiet.rights), λ found hand e. goes found)

  pub puts : Has lists s t held passes (k ∷ []) v → k < p.links → (next : ℕ → Program) → ((u : View) (found : ℕ) → Has lists s t held passes [] u → GoesOn p u (next found)) → GoesOn p v (Do (OnLink (PutLink k)) next)
  puts a small next goes = ((small, a.hands_are, a.quiet.rights), λ found hand e. goes (without_hand v k) found (becomes a (without_hand v k) t passes [] (λ j n. refl) (λ f o. refl) a.passes_are (emptied v.hands a.hands_are) (still a (without_hand v k) refl refl refl refl)))
    where
      none_left : (hs : List Hand) → map (λ (h : Hand). h.link) hs ≡ [] → map (λ (h : Hand). h.link) (filter (λ (x : Hand). not (eqb x.link k)) hs) ≡ []
      none_left [] e = refl
      none_left (h ∷ hs) e = absurd (cons-ne-nil _ _ e)

      emptied : (hs : List Hand) → map (λ (h : Hand). h.link) hs ≡ k ∷ [] → map (λ (h : Hand). h.link) (filter (λ (x : Hand). not (eqb x.link k)) hs) ≡ []
      emptied [] e = absurd (cons-ne-nil _ _ (sym e))
      emptied (h ∷ hs) e = let q = eq-eqb h.link k (head-eq_of_cons-eq e) in simp q (none_left hs (tail-eq_of_cons-eq e))

-- ## Names

-- where the word is none of an id nothing was found
found_branch : (p : Plan) {lists : List (List Entry)} {s : ℕ} {held : List HeldLife} {passes links : List ℕ} {v : View} → Has lists s [] held passes links v → (word : ℕ) → (b : Bool) → (b ≡ false → word ≢ NO_SOCKET) → (is_id word ≡ true → socket_id_slot (word - 1) < p.slots)
    → b ≡ eqb word 0 → (x y : Program) → (GoesOn p v x) → ((u : View) → Knows p u (word - 1) → Has lists (socket_id_slot (word - 1)) [] held passes links u → GoesOn p u y) → GoesOn p (found_id word v) (cond b x y)
found_branch p {v = v} a word true some_ inside is x y none_ one = subst (λ u. GoesOn p u x) (sym (cond-false (is_id word) _ v (ap not (ap (λ b. b || eqb word NO_SOCKET) (sym is))))) none_
found_branch p {held = held} {passes = passes} {links = links} {v = v} a word false some_ inside is x y none_ one =
    let id_is : is_id word ≡ true = ap not (ap (λ b. b || eqb word NO_SOCKET) (sym is) ∙ ne_eqb word NO_SOCKET (some_ refl)) in let i : ℕ = socket_id_slot (word - 1) in let h : ℕ = socket_id_version (word - 1) in
    let u : View = record v { marks = at i (Known h) ∷ v.marks } in
    subst (λ u. GoesOn p u y) (sym (cond-true (is_id word) u v id_is))
    (one u (inside id_is, omega (arith, about_top (is_known h) i (Known h) v.marks, only-same h)) (noted (at_slot a i) (Known h) (λ f o. o.known h)))

module _ (p : Plan) {lists : List (List Entry)} {s : ℕ} {held : List HeldLife} {passes links : List ℕ} {v : View} (a : Has lists s [] held passes links v) where
  pub loads_name : (n : ℕ) → n < p.names → (x : Program) (y : ℕ → Program) → GoesOn p v x
      → ((word : ℕ) (u : View) → Knows p u (word - 1) → Has lists (socket_id_slot (word - 1)) [] held passes links u → GoesOn p u (y word)) → GoesOn p v (Do (OnName (LoadName n)) (λ word. cond (eqb word 0) x (y word)))
  loads_name n inside x y none_ one = (inside, λ word hand f. found_branch p a word (eqb word 0) (λ e. f.1) f.0 refl x (y word) none_ (one word))

  pub ends_branch : (word : ℕ) (b c : Bool) → b ≡ eqb word 0 → c ≡ eqb word NO_SOCKET → (is_id word ≡ true → socket_id_slot (word - 1) < p.slots) → (x y : Program) → GoesOn p v x
      → ((u : View) → Knows p u (word - 1) → Has lists (socket_id_slot (word - 1)) [] held passes links u → GoesOn p u y) → GoesOn p (found_id word v) (cond b x (cond c x y))
  ends_branch word true c is is₁ inside x y none_ one = subst (λ u. GoesOn p u x) (sym (cond-false (is_id word) _ v (ap not (ap (λ b. b || eqb word NO_SOCKET) (sym is))))) none_
  ends_branch word false true is is₁ inside x y none_ one = subst (λ u. GoesOn p u x) (sym (cond-false (is_id word) _ v (ap not (ap₂ (λ b c. b || c) (sym is) (sym is₁))))) none_
  ends_branch word false false is is₁ inside x y none_ one =
      let id_is : is_id word ≡ true = ap not (ap₂ (λ b c. b || c) (sym is) (sym is₁)) in let i : ℕ = socket_id_slot (word - 1) in let h : ℕ = socket_id_version (word - 1) in
      let u : View = record v { marks = at i (Known h) ∷ v.marks } in
      subst (λ u. GoesOn p u y) (sym (cond-true (is_id word) u v id_is))
      (one u (inside id_is, omega (arith, about_top (is_known h) i (Known h) v.marks, only-same h)) (noted (at_slot a i) (Known h) (λ f o. o.known h)))

  pub loads_open : (o : ℕ) → o < p.operations → (x : Program) (y : ℕ → Program) → GoesOn p v x
      → ((word : ℕ) (u : View) → Knows p u (word - 1) → Has lists (socket_id_slot (word - 1)) [] held passes links u → GoesOn p u (y word)) → GoesOn p v (Do (OnName (LoadOpen o)) (λ word. cond (eqb word 0) x (cond (eqb word NO_SOCKET) x (y word))))
  loads_open o inside x y none_ one = (inside, λ word hand f. ends_branch word (eqb word 0) (eqb word NO_SOCKET) refl refl f x (y word) none_ (one word))

module _ (p : Plan) {lists : List (List Entry)} {s : ℕ} {t : List Mark} {held : List HeldLife} {passes links : List ℕ} {v : View} (a : Has lists s t held passes links v) where
  pub stores_open : (o word : ℕ) → o < p.operations → (word ≡ NO_SOCKET) ⊎ ((ltb 0 word ≡ true) × Knows p v (word - 1)) → (next : ℕ → Program)
      → ((u : View) (found : ℕ) → ((id : ℕ) → Knows p v id → Knows p u id) → Has lists s t held passes links u → GoesOn p u (next found)) → GoesOn p v (Do (OnName (StoreOpen o word)) next)
  stores_open o word inside names next goes = ((inside, names), λ found hand e. goes (wrote (open_index p o) word v) found (λ id k. k) (kept a (wrote (open_index p o) word v) refl a.passes_are refl (still a (wrote (open_index p o) word v) refl refl refl refl)))

  pub stores_name : (n word : ℕ) → n < p.names → ltb 0 word ≡ true → Knows p v (word - 1) → (next : ℕ → Program)
      → ((u : View) (found : ℕ) → Has lists s t held passes links u → GoesOn p u (next found)) → GoesOn p v (Do (OnName (StoreName n word)) next)
  stores_name n word inside some_ knows next goes = ((inside, some_, knows), λ found hand e. goes (wrote (name_index p n) word v) found (kept a (wrote (name_index p n) word v) refl a.passes_are refl (still a (wrote (name_index p n) word v) refl refl refl refl)))
