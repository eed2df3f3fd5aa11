-- What a step does to the code of a failed slot: it stays, or it is stored just then.
use Rattle.std.proofs.Common.{◌≡◌, ◌≢◌, ℕ, ◌+◌, ◌*◌, ◌%◌, ◌<◌, ◌≤◌, ◌⊎◌, inl, inr, Bool, true, false, cond, eqb, List, bit_or, get_or, set, get_or-set_other, get_or-set_same, refl, sym, ap, ◌∙◌, arith}
use mathlib.Core.Logic.{dite}
use mathlib.Core.Option.{Option, some}
use native.Mathlib.Decide.{ℕ_discrete}
use lib.ListN.{get_elem?}
use Rattle.atomic_table.proofs.Lists.{at_map}
use Rattle.sock_words.specs.PackedWords.{socket_id_slot, vref_version}
use Rattle.sock_words.specs.declared.plain.Plan.{Plan}
use Rattle.sock_model.specs.declared.marks.Mark.{Mark}
use Rattle.sock_model.specs.declared.marks.Mark.TheVariants.{Coding}
use Rattle.sock_model.specs.declared.view.View.{View}
use Rattle.sock_model.specs.SocketTableLayout.{ref_index, code_index}
use Rattle.sock_model.specs.Marks.{about}
use Rattle.sock_model.specs.References.{slot_facts}
use Rattle.sock_model.specs.SlotRows.{marks_of}
use Rattle.sock_model.specs.SocketSlotLaw.{KeepsCodes, live}
use Rattle.sock_model.specs.MarkWeights.{is_hold, is_coding, is_any_coding}
use Rattle.accept_counts.specs.Below.slot_steps.proofs.RuleNumbers.{or-odd, only_le}
use Rattle.accept_counts.specs.Below.slot_steps.proofs.SlotWeightSums.{total_mono}
use Rattle.accept_counts.specs.Below.sock_steps.proofs.LifeLinkSlotPlaces.{own_count}
use Rattle.seat_programs.specs.TableSteps.{TableStep, OnSlot, CreateLife, AddRef, SubRef, SetOdd, Recycle, ClearCode, StoreCode, LookWord, LoadCode}
use Rattle.seat_programs.specs.Cores.{Core, found_at, words_after}
use Rattle.seat_programs.specs.TableWords.{TableWord, RefOf, CodeOf, index_of}
use Rattle.seat_programs.specs.StepTables.{word_of, word_after, hand_at, May, Finds}
use Rattle.accept_counts.specs.Below.programs_allowed.specs.program_steps.specs.SoundSeats.{state, Sound}
use Rattle.accept_counts.specs.Below.programs_allowed.specs.program_steps.proofs.SlotWordBounds.{law, lives_le}
use Rattle.accept_counts.specs.Below.programs_allowed.specs.program_steps.proofs.WordFrame.{load_leaves, word_stays}
use Rattle.accept_counts.specs.Below.programs_allowed.specs.sock_runs.proofs.Founds.{finds}

abbrev pub version_in : List ℕ → ℕ → ℕ
version_in ws j = vref_version (get_or ws (ref_index j) 0)

abbrev pub code_in : List ℕ → ℕ → ℕ
code_in ws j = get_or ws (code_index j) 0

coding_any : (h : ℕ) (x : Mark) → is_coding h x ≤ is_any_coding x
coding_any h (Coding k) = only_le h k
coding_any h _ = omega arith

module _ (p : Plan) (c : Core) (vs : List View) (sound : Sound p c vs) (i : ℕ) (v : View) (at : get_elem? vs i ≡ some v) where
  -- the version of a slot of which the seat holds a life
  pub held_version : (j h : ℕ) → j < p.slots → 0 < marks_of (is_hold h) j v → (h + 1 ≡ version_in c.words j + live (slot_facts (state c vs) j)) × (h % 2 ≡ 0)
  held_version j h inside held = (law p (state c vs) sound.lawful.references j inside).held h (let k = own_count (state c vs) i v at (is_hold h) j in omega (arith, k, held))

  -- a slot whose code the seat is to store has failed
  pub coding_version : (j h : ℕ) → j < p.slots → 0 < marks_of (is_coding h) j v → version_in c.words j ≡ h + 1
  coding_version j h inside coding = let l = law p (state c vs) sound.lawful.references j inside in
      let keeps : KeepsCodes (about j v.marks) = l.codes i (about j v.marks) (at_map (λ (u : View). about j u.marks) vs i v at) in
      let held = held_version j h inside (keeps.1 h coding).0 in let any = total_mono (is_coding h) is_any_coding (coding_any h) (about j v.marks) in
      let odd = l.coding_odd (let k = own_count (state c vs) i v at is_any_coding j in omega (arith, k, any, coding)) in let le = lives_le p (state c vs) sound.lawful.references j inside in
      let a = held.0 in let b = held.1 in omega (arith, a, b, odd, le)

  -- a live slot has none
  pub live_none : (j : ℕ) → j < p.slots → 0 < live (slot_facts (state c vs) j) → code_in c.words j ≡ 0
  live_none j inside alive = (law p (state c vs) sound.lawful.references j inside).code_none (omega (arith, alive))

  -- ## A step

  module _ (j h : ℕ) (inside : j < p.slots) (even : h % 2 ≡ 0) where
    abbrev WasSo : List ℕ → Type 0
    WasSo ws = (version_in c.words j ≡ h + 1) × (code_in ws j ≡ code_in c.words j)

    abbrev IsNew : TableStep → List ℕ → Type 0
    IsNew call ws = (g d : ℕ) × (call ≡ OnSlot (StoreCode j g d)) × (version_in c.words j ≡ h + 1) × (code_in ws j ≡ d)

    -- behind the step the slot's life of version h has failed, with a code
    abbrev Kept : TableStep → List ℕ → Type 0
    Kept call ws = version_in ws j ≡ h + 1 → code_in ws j ≢ 0 → WasSo ws ⊎ IsNew call ws

    left : (call : TableStep) (ws : List ℕ) → get_or ws (ref_index j) 0 ≡ get_or c.words (ref_index j) 0 → code_in ws j ≡ code_in c.words j → Kept call ws
    left call ws ref code version some_ = inl (sym (ap vref_version ref) ∙ version, code)

    loaded : (call : TableStep) (o : Option TableWord) → Kept call (words_after c.words (index_of p o) (found_at c.words (index_of p o)))
    loaded call o = let e = load_leaves p c.words o in left call (words_after c.words (index_of p o) (found_at c.words (index_of p o))) (ap (λ ws. get_or ws (ref_index j) 0) e) (ap (λ ws. code_in ws j) e)

    -- the reference word of a slot, where the step makes no slot with a code fail
    on_ref : (call : TableStep) (n w : ℕ) → (n ≡ j → vref_version w ≡ h + 1 → code_in c.words j ≢ 0 → version_in c.words n ≡ h + 1) → Kept call (set c.words (ref_index n) w)
    on_ref call n w before version some_ = let code : code_in (set c.words (ref_index n) w) j ≡ code_in c.words j = get_or-set_other c.words (ref_index n) (code_index j) w 0 (λ e. omega (arith, e)) in
        dite (ℕ_discrete n j)
        (λ same. let here : get_or (set c.words (ref_index n) w) (ref_index j) 0 ≡ w = ap (λ k. get_or (set c.words (ref_index n) w) (ref_index k) 0) (sym same) ∙ get_or-set_same c.words (ref_index n) w 0 (omega (arith, inside, same, sound.lawful.references.sized)) in
        inl (ap (version_in c.words) (sym same) ∙ before same (sym (ap vref_version here) ∙ version) (λ z. some_ (code ∙ z)), code))
        (λ far. left call (set c.words (ref_index n) w) (get_or-set_other c.words (ref_index n) (ref_index j) w 0 (λ e. far (omega (arith, e)))) code version some_)

    on_code : (call : TableStep) (n w : ℕ) → (n ≡ j → w ≢ 0 → version_in c.words j ≡ h + 1 → IsNew call (set c.words (code_index n) w)) → Kept call (set c.words (code_index n) w)
    on_code call n w new version some_ = dite (ℕ_discrete n j)
        (λ same. let here : code_in (set c.words (code_index n) w) j ≡ w = ap (λ k. code_in (set c.words (code_index n) w) k) (sym same) ∙ get_or-set_same c.words (code_index n) w 0 (omega (arith, inside, same, sound.lawful.references.sized)) in
        inr (new same (λ z. some_ (here ∙ z)) (sym (ap vref_version (get_or-set_other c.words (code_index n) (ref_index j) w 0 (λ e. omega (arith, e)))) ∙ version)))
        (λ far. left call (set c.words (code_index n) w) (get_or-set_other c.words (code_index n) (ref_index j) w 0 (λ e. omega (arith, e))) (get_or-set_other c.words (code_index n) (code_index j) w 0 (λ e. far (omega (arith, e)))) version some_)

    found : (call : TableStep) → May p v call → Finds p v call (found_at c.words (word_of p call)) (hand_at p c.words c.homes call)
    found call may = finds p (state c vs) sound.lawful i v at sound.limits.slots call may

    -- a slot that fails is live before, and has no code then
    odd_before : (n : ℕ) → May p v (OnSlot (SetOdd n)) → n ≡ j → vref_version (bit_or (get_or c.words (ref_index n) 0) 4294967296) ≡ h + 1 → code_in c.words j ≢ 0 → version_in c.words n ≡ h + 1
    odd_before n may same version some_ = dite (ℕ_discrete (version_in c.words n % 2) 0)
        (λ is. let m = may.1 in let held = held_version n m.0 may.0 m.1 in let le = lives_le p (state c vs) sound.lawful.references n may.0 in
        absurd (some_ (ap (code_in c.words) (sym same) ∙ live_none n may.0 (let a = held.0 in let b = held.1 in omega (arith, a, b, is, le)))))
        (λ no_. sym (ap vref_version (or-odd (get_or c.words (ref_index n) 0) (omega (arith, no_)))) ∙ version)

    recycled_before : (n from : ℕ) → vref_version from % 2 ≡ 1 → vref_version (word_after (OnSlot (Recycle n from)) (get_or c.words (ref_index n) 0)) ≡ h + 1 → version_in c.words n ≡ h + 1
    recycled_before n from odd version = by (eqb (get_or c.words (ref_index n) 0) from) version
      where
        by : (b : Bool) → vref_version (cond b ((vref_version from + 1) * 4294967296) (get_or c.words (ref_index n) 0)) ≡ h + 1 → version_in c.words n ≡ h + 1
        by true e = absurd (omega (arith, e, odd, even))
        by false e = e

    pub code_stays : (call : TableStep) → May p v call → version_in (words_after c.words (word_of p call) (word_after call (found_at c.words (word_of p call)))) j ≡ h + 1 → code_in (words_after c.words (word_of p call) (word_after call (found_at c.words (word_of p call)))) j ≢ 0
        → ((version_in c.words j ≡ h + 1) × (code_in (words_after c.words (word_of p call) (word_after call (found_at c.words (word_of p call)))) j ≡ code_in c.words j))
        ⊎ ((g d : ℕ) × (call ≡ OnSlot (StoreCode j g d)) × (version_in c.words j ≡ h + 1) × (code_in (words_after c.words (word_of p call) (word_after call (found_at c.words (word_of p call)))) j ≡ d))
    code_stays (OnSlot (CreateLife n k)) may = on_ref (OnSlot (CreateLife n k)) n _ (λ same version some_. let f = (found (OnSlot (CreateLife n k)) may).0 in omega (arith, f, version))
    code_stays (OnSlot (AddRef id)) may = on_ref (OnSlot (AddRef id)) (socket_id_slot id) _ (λ same version some_. let f = found (OnSlot (AddRef id)) may in omega (arith, f, version))
    code_stays (OnSlot (SubRef n)) may = on_ref (OnSlot (SubRef n)) n _ (λ same version some_. let f = (found (OnSlot (SubRef n)) may).0 in let m = may.1 in omega (arith, f, m, version))
    code_stays (OnSlot (SetOdd n)) may = on_ref (OnSlot (SetOdd n)) n _ (λ same version some_. odd_before n may same version some_)
    code_stays (OnSlot (Recycle n from)) may = on_ref (OnSlot (Recycle n from)) n _ (λ same version some_. recycled_before n from may.2 version)
    code_stays (OnSlot (ClearCode n k)) may = on_code (OnSlot (ClearCode n k)) n 0 (λ same some_ version. absurd (some_ refl))
    code_stays (OnSlot (StoreCode n g d)) may = on_code (OnSlot (StoreCode n g d)) n d (λ same some_ version. (g, d, ap (λ z. OnSlot (StoreCode z g d)) same, version, ap (λ z. code_in (set c.words (code_index n) d) z) (sym same) ∙ get_or-set_same c.words (code_index n) d 0 (let a = may.0 in omega (arith, a, sound.lawful.references.sized))))
    code_stays (OnSlot (LookWord id)) may = loaded (OnSlot (LookWord id)) (some (RefOf (socket_id_slot id)))
    code_stays (OnSlot (LoadCode n g)) may = loaded (OnSlot (LoadCode n g)) (some (CodeOf n))
    code_stays call may = left call (words_after c.words (word_of p call) (word_after call (found_at c.words (word_of p call))))
        (word_stays p c.words v call may (word_after call (found_at c.words (word_of p call))) (RefOf j) inside (omega arith) refl) (word_stays p c.words v call may (word_after call (found_at c.words (word_of p call))) (CodeOf j) inside (omega arith) refl)
