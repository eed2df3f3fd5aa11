-- The parts of operations are allowed from what the seat has, where what follows is.
use Rattle.std.proofs.Common.{◌≡◌, ◌≢◌, ℕ, zero, suc, ◌+◌, ◌-◌, ◌%◌, ◌<◌, ◌≤◌, Bool, true, false, ◌&&◌, List, [], ◌∷◌, length, refl, sym, ap, ◌∙◌, subst, inl, inr, arith, cond, eqb, leb, lt-ltb, leb-true, leb-false, eq-eqb}
use Rattle.std.proofs.lemmas.Bool.{cond-true, cond-false, cond_both, and_from}
use Rattle.sock_words.specs.declared.plain.Plan.{Plan}
use Rattle.sock_words.specs.declared.outcome.Outcome.TheVariants.{Opened, SlotsFull}
use Rattle.sock_words.specs.PackedWords.{socket_id, socket_id_version, socket_id_slot, vref_version, vref_nref, NO_SOCKET}
use Rattle.sock_model.specs.declared.chain.Entry.{Entry}
use Rattle.sock_model.specs.declared.marks.Mark.{Mark}
use Rattle.sock_model.specs.declared.marks.Mark.TheVariants.{Claimed, Hold, Probe, Zero}
use Rattle.sock_model.specs.declared.view.View.{View}
use Rattle.sock_model.specs.MarkWeights.{is_known}
use Rattle.sock_model.specs.SlotRows.{marks_of}
use Rattle.seat_programs.specs.TableSteps.{OnSlot, OnName, OnLink, CreateLife, SubRef, FreeSlot, LoadLink, ResetHead, ClearCode, StoreCode, StoreName, StoreOpen, TakeLink, FinishLink, PutLink}
use Rattle.seat_programs.specs.Programs.{Program, Do, Say, LAST_VERSION, recycle, release, add_reference, find_socket, set_failed, no_socket, make_socket, open_from}
use Rattle.seat_programs.specs.ClientProgram.{HeldLife}
use Rattle.seat_programs.specs.StepViews.{Knows}
use Rattle.program_walks.specs.program_steps.specs.ProgramGoesOn.{GoesOn}
use Rattle.program_walks.specs.program_steps.specs.WhatSeatHas.{Has}
use Rattle.programs_allowed.proofs.WeighingWhatSeatHas.{at_slot, retiring}
use Rattle.programs_allowed.proofs.AllowedProgramSteps.{GoesFirst, claims, stores_link, resets, wipes, bears, adds, subs, sets_odd, stores_code, recycles, loads_link, frees, takes_last, takes_own, finishes, puts, loads_name, stores_open, stores_name}

-- between its operations a seat holds these lives, and has these passes at least
abbrev pub Ready : List (List Entry) → List HeldLife → List ℕ → View → Type 0
Ready lists held passes v = Has lists 0 [] held passes [] v

module _ (p : Plan) {lists : List (List Entry)} {held : List HeldLife} {passes : List ℕ} where
  -- ## A reference given back

  pub recycle_goes : (s from : ℕ) {v : View} → Has lists s (Zero (vref_version from) ∷ []) held passes [] v → s < p.slots → vref_version from % 2 ≡ 1 → vref_nref from ≡ 0 → vref_version from < 4294967295 → (next : Bool → Program)
      → ((b : Bool) (w : View) → Ready lists held passes w → GoesOn p w (next b)) → GoesOn p v (recycle s from next)
  recycle_goes s from a inside odd none_ low next goes = let w : ℕ = vref_version from + 1 in
      let end_ : Program = cond (leb w LAST_VERSION) (Do (OnSlot (FreeSlot s)) (λ _. next true)) (next true) in let put : ℕ → ℕ → Program = λ k x. Do (OnLink (PutLink k)) (λ _. end_) in
      let finish : ℕ → ℕ → Program = λ k x. Do (OnLink (FinishLink k)) (put k) in let take : ℕ → Program = λ k. Do (OnLink (TakeLink k)) (finish k) in
      recycles p from a inside odd none_ low (Do (OnSlot (LoadLink s w)) take) (next false)
      (λ u₁ b₁. loads_link p w b₁ inside take (λ u₂ k small spent there b₂. takes_last p w b₂ inside small spent there (finish k) (λ u₃ x b₃. finishes p b₃ small (put k) (λ y. puts p b₃ small (λ _. end_) (λ u₄ z b₄.
      cond_both (leb w LAST_VERSION) (Do (OnSlot (FreeSlot s)) (λ _. next true)) (next true) (GoesOn p u₄)
      (λ fits. frees p w b₄ (leb-true w LAST_VERSION fits) inside (λ _. next true) (λ u₅ f b₅. goes true u₅ (at_slot b₅ 0)))
      (λ late. goes true u₄ (at_slot (retiring w (leb-false w LAST_VERSION late) b₄) 0)))))))
      (λ u b. goes false u (at_slot b 0))

  pub release_goes : (s : ℕ) (e : Mark) {v : View} → Has lists s (e ∷ []) held passes [] v → GoesFirst e [] → s < p.slots → (next : Bool → Program)
      → ((b : Bool) (w : View) → Ready lists held passes w → GoesOn p w (next b)) → GoesOn p v (release s next)
  release_goes s e a back inside next goes = subs p e a back refl inside (λ found. cond (eqb (vref_version found % 2) 1 && eqb (vref_nref found) 1) (recycle s (found - 1) next) (next false))
      (λ found u odd one many low b. let same : vref_version found ≡ vref_version (found - 1) = omega (arith, one) in
      subst (GoesOn p u) (sym (cond-true _ (recycle s (found - 1) next) (next false) (and_from _ _ (eq-eqb _ 1 odd) (eq-eqb _ 1 one))))
      (recycle_goes s (found - 1) (subst (λ w. Has lists s (Zero w ∷ []) held passes [] u) same b) inside (ap (λ w. w % 2) (sym same) ∙ odd) (omega (arith, one)) (omega (arith, one, low)) next goes))
      (λ found u no_ b. subst (GoesOn p u) (sym (cond-false _ (recycle s (found - 1) next) (next false) no_)) (goes false u (at_slot b 0)))

  -- ## A life addressed

  pub address_goes : (id : ℕ) {v : View} → Has lists (socket_id_slot id) [] held passes [] v → Knows p v id → length held ≤ 4096 → (x : Program) (y : ℕ → Program)
      → ((u : View) → Has lists (socket_id_slot id) (Hold (socket_id_version id) ∷ []) held passes [] u → GoesOn p u x) → ((u : View) (found : ℕ) → Ready lists held passes u → GoesOn p u (y found))
      → GoesOn p v (add_reference id x y)
  address_goes id a knows few x y holds_ gone_ = adds p a id refl knows (omega (arith, few)) x (λ found. release (socket_id_slot id) (λ _. y found)) holds_
      (λ u found b. release_goes (socket_id_slot id) Probe b (inl refl) knows.0 (λ _. y found) (λ c w. gone_ w found))

  pub reach_goes : (name : ℕ) {v : View} → name < p.names → Ready lists held passes v → length held ≤ 4096 → (x : Program) (y z : ℕ → Program) → GoesOn p v x
      → ((id : ℕ) (u : View) → socket_id_slot id < p.slots → Has lists (socket_id_slot id) (Hold (socket_id_version id) ∷ []) held passes [] u → GoesOn p u (y id)) → ((u : View) (found : ℕ) → Ready lists held passes u → GoesOn p u (z found))
      → GoesOn p v (find_socket name x y z)
  reach_goes name inside a few x y z none_ holds_ gone_ = loads_name p a name inside x (λ word. add_reference (word - 1) (y (word - 1)) z) none_
      (λ word u knows b. address_goes (word - 1) b knows few (y (word - 1)) z (λ w. holds_ (word - 1) w knows.0) gone_)

  -- ## A held life failed

  pub set_failed_goes : (id code : ℕ) {v : View} → code ≢ 0 → Has lists (socket_id_slot id) (Hold (socket_id_version id) ∷ []) held passes [] v → socket_id_slot id < p.slots → length held ≤ 4096 → (next : ℕ → Program)
      → ((u : View) (found : ℕ) → Has lists (socket_id_slot id) (Hold (socket_id_version id) ∷ []) held passes [] u → GoesOn p u (next found)) → GoesOn p v (set_failed id code next)
  set_failed_goes id code some_ a inside few next goes = let i : ℕ = socket_id_slot id in let h : ℕ = socket_id_version id in
      sets_odd p a inside (omega (arith, few)) (λ found. Do (OnSlot (StoreCode i h code)) (λ _. Do (OnSlot (SubRef i)) (λ _. next found))) next
      (λ u found b. stores_code p code some_ b inside (λ _. Do (OnSlot (SubRef i)) (λ _. next found)) (λ u₁ x b₁. subs p (Hold h) b₁ (inr (h, refl, refl)) refl inside (λ _. next found)
      (λ y u₂ odd one many low b₂. absurd (omega (arith, one, many))) (λ y u₂ no_ b₂. goes u₂ found b₂)))
      goes

-- ## A socket opened

module _ (p : Plan) {lists : List (List Entry)} {held : List HeldLife} {passes : List ℕ} (o name k : ℕ) (mine : o < p.operations) (named : name < p.names) (small : k < p.links) (next : Program)
    (goes : (u : View) → Ready lists held passes u → GoesOn p u next) where
  no_socket_goes : {v : View} → Ready lists held (k ∷ passes) v → GoesOn p v (no_socket o k next)
  no_socket_goes a = let said_ : ℕ → Program = λ _. Say o SlotsFull next in let store : ℕ → Program = λ _. Do (OnName (StoreOpen o NO_SOCKET)) said_ in
      let put : ℕ → Program = λ _. Do (OnLink (PutLink k)) store in let finish : ℕ → Program = λ _. Do (OnLink (FinishLink k)) put in
      takes_own p a small finish (λ u₁ x b₁. finishes p b₁ small put (λ y. puts p b₁ small store (λ u₂ z b₂. stores_open p b₂ o NO_SOCKET mine (inl refl) said_ (λ u₃ f same b₃. goes u₃ b₃))))

  make_socket_goes : (i : ℕ) {v : View} → i < p.slots → p.slots ≤ 256 → Has lists i (Claimed 0 0 ∷ []) held (k ∷ passes) [] v → GoesOn p v (make_socket o name k i next)
  make_socket_goes i inside few a =
      let named_ : ℕ → ℕ → Program = λ found _. Do (OnName (StoreName name (socket_id (vref_version found) i + 1))) (λ _. Say o (Opened i (vref_version found) k) next) in
      let born : ℕ → Program = λ found. Do (OnName (StoreOpen o (socket_id (vref_version found) i + 1))) (named_ found) in
      let wiped : ℕ → Program = λ _. Do (OnSlot (CreateLife i k)) born in let reset : ℕ → Program = λ _. Do (OnSlot (ClearCode i k)) wiped in let linked : ℕ → Program = λ _. Do (OnSlot (ResetHead i k)) reset in
      stores_link p a inside linked (λ u₁ x b₁. resets p b₁ inside reset (λ u₂ y b₂. wipes p b₂ inside wiped (λ u₃ z b₃. bears p b₃ inside born (λ u₄ found b₄ known.
      let h : ℕ = vref_version found in let word : ℕ = socket_id h i + 1 in
      let slot_is : socket_id_slot (word - 1) ≡ i = omega (arith, inside, few) in let version_is : socket_id_version (word - 1) ≡ h = omega (arith, inside, few) in
      let knows : Knows p u₄ (word - 1) = (omega (arith, slot_is, inside), subst (λ g. 0 < marks_of (is_known g) (socket_id_slot (word - 1)) u₄) (sym version_is) (subst (λ j. 0 < marks_of (is_known h) j u₄) (sym slot_is) known)) in
      let some_ = lt-ltb 0 word (omega arith) in
      stores_open p b₄ o word mine (inr (some_, knows)) (named_ found) (λ u₅ f same b₅. stores_name p b₅ name word named some_ (same (word - 1) knows) (λ _. Say o (Opened i h k) next) (λ u₆ g b₆. goes u₆ (at_slot b₆ 0)))))))

  pub open_goes : (more i : ℕ) {v : View} → i + more ≤ p.slots → p.slots ≤ 256 → Ready lists held (k ∷ passes) v → GoesOn p v (open_from more i o name k next)
  open_goes zero i fits few a = no_socket_goes a
  open_goes (suc more) i fits few a = claims p (at_slot a i) (omega (arith, fits)) (make_socket o name k i next) (open_from more (i + 1) o name k next)
      (λ u b. make_socket_goes i (omega (arith, fits)) few b) (λ u b. open_goes more (i + 1) (omega (arith, fits)) few (at_slot b 0))
