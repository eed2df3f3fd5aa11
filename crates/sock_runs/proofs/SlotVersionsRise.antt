-- A slot's version never goes back, and is past where a seat set it odd, or found another version than that of a life that it knows; who looks at a life that it holds finds its version there.
use Rattle.std.proofs.Common.{◌≡◌, ◌≢◌, ℕ, ◌+◌, ◌-◌, ◌*◌, ◌/◌, ◌%◌, ◌<◌, ◌≤◌, Bool, true, false, cond, eqb, eqb-true, List, bit_or, get_or, set, get_or-set_other, get_or-set_same, refl, sym, ap, ◌∙◌, arith}
use mathlib.Core.Logic.{dite}
use mathlib.Core.Option.{some}
use native.Mathlib.Decide.{ℕ_discrete}
use lib.ListN.{get_elem?}
use Rattle.sock_words.specs.PackedWords.{socket_id_version, socket_id_slot, vref_version}
use Rattle.sock_words.specs.declared.plain.Plan.{Plan}
use Rattle.sock_model.specs.declared.view.View.{View}
use Rattle.sock_model.specs.SocketTableLayout.{ref_index}
use Rattle.sock_model.specs.MarkWeights.{is_born, is_known}
use Rattle.sock_model.specs.SocketSlotLaw.{count, live}
use Rattle.sock_model.specs.References.{slot_facts}
use Rattle.sock_steps.specs.slot_steps.proofs.RuleNumbers.{life_is, or-even, or-odd}
use Rattle.sock_steps.proofs.LifeLinkSlotPlaces.{own_count}
use Rattle.seat_programs.specs.TableSteps.{TableStep, OnSlot, CreateLife, AddRef, SubRef, SetOdd, Recycle, LookWord}
use Rattle.seat_programs.specs.Cores.{Core, found_at, words_after}
use Rattle.seat_programs.specs.TableWords.{RefOf}
use Rattle.seat_programs.specs.StepTables.{word_of, word_after, hand_at, May, Finds}
use Rattle.program_steps.proofs.WordFrame.{load_leaves, word_stays}
use Rattle.program_steps.specs.SoundSeats.{state, Sound}
use Rattle.program_steps.proofs.SlotWordBounds.{law, lives_le}
use Rattle.sock_runs.proofs.Founds.{finds}

module _ (p : Plan) (c : Core) (vs : List View) (sound : Sound p c vs) (i : ℕ) (v : View) (at : get_elem? vs i ≡ some v) where
  abbrev pub version : ℕ → ℕ
  version j = vref_version (get_or c.words (ref_index j) 0)

  abbrev pub after : TableStep → List ℕ
  after call = words_after c.words (word_of p call) (word_after call (found_at c.words (word_of p call)))

  abbrev pub version_after : TableStep → ℕ → ℕ
  version_after call j = vref_version (get_or (after call) (ref_index j) 0)

  abbrev GoesOn : TableStep → ℕ → Type 0
  GoesOn call j = version j ≤ version_after call j

  found : (call : TableStep) → May p v call → Finds p v call (found_at c.words (word_of p call)) (hand_at p c.words c.homes call)
  found call may = finds p (state c vs) sound.lawful i v at sound.limits.slots call may

  -- another word
  other : (j x w : ℕ) → x ≢ ref_index j → vref_version (get_or c.words (ref_index j) 0) ≤ vref_version (get_or (set c.words x w) (ref_index j) 0)
  other j x w far = let e = ap vref_version (get_or-set_other c.words x (ref_index j) w 0 (λ e. far (sym e))) in omega (arith, e)

  -- this word, or another slot's
  own : (j n w : ℕ) → j < p.slots → vref_version (get_or c.words (ref_index n) 0) ≤ vref_version w → vref_version (get_or c.words (ref_index j) 0) ≤ vref_version (get_or (set c.words (ref_index n) w) (ref_index j) 0)
  own j n w inside le = dite (ℕ_discrete j n)
      (λ e. let same : get_or (set c.words (ref_index n) w) (ref_index j) 0 ≡ w = ap (λ k. get_or (set c.words (ref_index n) w) (ref_index k) 0) e ∙ get_or-set_same c.words (ref_index n) w 0 (omega (arith, inside, e, sound.lawful.references.sized)) in
      let a = ap vref_version same in let b = ap (λ k. vref_version (get_or c.words (ref_index k) 0)) e in omega (arith, le, a, b))
      (λ far. other j (ref_index n) w (λ e. far (omega (arith, e))))

  set_version : (w : ℕ) → vref_version w ≤ vref_version (bit_or w 4294967296)
  set_version w = dite (ℕ_discrete (w / 4294967296 % 2) 0) (λ even. let e = ap vref_version (or-even w even) in omega (arith, e)) (λ no_. let e = ap vref_version (or-odd w (omega (arith, no_))) in omega (arith, e))

  recycled_version : (w from : ℕ) → vref_version w ≤ vref_version (cond (eqb w from) ((vref_version from + 1) * 4294967296) w)
  recycled_version w from = by_hit (eqb w from) refl
    where
      by_hit : (b : Bool) → eqb w from ≡ b → vref_version w ≤ vref_version (cond b ((vref_version from + 1) * 4294967296) w)
      by_hit true e = let same = eqb-true w from e in omega (arith, same)
      by_hit false e = omega arith

  -- a version never goes back
  pub versions_on : (call : TableStep) → May p v call → (j : ℕ) → j < p.slots → GoesOn call j
  versions_on (OnSlot (CreateLife n k)) may j inside = let f = (found (OnSlot (CreateLife n k)) may).0 in own j n (get_or c.words (ref_index n) 0 + 1) inside (omega (arith, f))
  versions_on (OnSlot (AddRef id)) may j inside = let f = found (OnSlot (AddRef id)) may in own j (socket_id_slot id) (get_or c.words (ref_index (socket_id_slot id)) 0 + 1) inside (omega (arith, f))
  versions_on (OnSlot (SubRef n)) may j inside = let f = (found (OnSlot (SubRef n)) may).0 in let m = may.1 in own j n (get_or c.words (ref_index n) 0 - 1) inside (omega (arith, f, m))
  versions_on (OnSlot (SetOdd n)) may j inside = own j n (bit_or (get_or c.words (ref_index n) 0) 4294967296) inside (set_version (get_or c.words (ref_index n) 0))
  versions_on (OnSlot (Recycle n from)) may j inside = own j n (word_after (OnSlot (Recycle n from)) (get_or c.words (ref_index n) 0)) inside (recycled_version (get_or c.words (ref_index n) 0) from)
  versions_on (OnSlot (LookWord id)) may j inside = let e = ap (λ l. vref_version (get_or l (ref_index j) 0)) (load_leaves p c.words (some (RefOf (socket_id_slot id)))) in omega (arith, e)
  versions_on call may j inside = let e = ap vref_version (word_stays p c.words v call may (word_after call (found_at c.words (word_of p call))) (RefOf j) inside (omega arith) refl) in omega (arith, e)

  -- a life that was made is no later one than the slot's
  pub born_low : (j h : ℕ) → j < p.slots → 0 < count (is_born h) (slot_facts (state c vs) j) → (h ≤ version j) × (h % 2 ≡ 0)
  born_low j h inside born = let l = law p (state c vs) sound.lawful.references j inside in let t = life_is p.first h ((slot_facts (state c vs) j).version + live (slot_facts (state c vs) j)) (omega (arith, born, l.born h)) in
      let t₁ = t.1 in let le = lives_le p (state c vs) sound.lawful.references j inside in (omega (arith, t₁, le), t.2)

  -- whoever sets a slot odd leaves each life made there behind
  pub odd_past : (j h : ℕ) → j < p.slots → 0 < count (is_born h) (slot_facts (state c vs) j) → h < version_after (OnSlot (SetOdd j)) j
  odd_past j h inside born = let b = born_low j h inside born in let low = b.0 in let even = b.1 in let w : ℕ = get_or c.words (ref_index j) 0 in
      let same = ap vref_version (get_or-set_same c.words (ref_index j) (bit_or (get_or c.words (ref_index j) 0) 4294967296) 0 (omega (arith, inside, sound.lawful.references.sized))) in
      dite (ℕ_discrete (get_or c.words (ref_index j) 0 / 4294967296 % 2) 0)
      (λ is. let e = ap vref_version (or-even (get_or c.words (ref_index j) 0) is) in omega (arith, e, same, low))
      (λ no_. let e = ap vref_version (or-odd (get_or c.words (ref_index j) 0) (omega (arith, no_))) in omega (arith, e, same, low, even, no_))

  -- who finds another version than that of a life that it knows finds a later one
  pub other_past : (id : ℕ) → May p v (OnSlot (AddRef id)) → version (socket_id_slot id) ≢ socket_id_version id → socket_id_version id < version_after (OnSlot (AddRef id)) (socket_id_slot id)
  other_past id may far = let j : ℕ = socket_id_slot id in let h : ℕ = socket_id_version id in let l = law p (state c vs) sound.lawful.references (socket_id_slot id) may.0.0 in
      let some_ : 0 < count (is_known (socket_id_version id)) (slot_facts (state c vs) (socket_id_slot id)) = (let m = may.0.1 in omega (arith, m, own_count (state c vs) i v at (is_known (socket_id_version id)) (socket_id_slot id))) in
      let t = life_is p.first (socket_id_version id) ((slot_facts (state c vs) (socket_id_slot id)).version + live (slot_facts (state c vs) (socket_id_slot id))) (omega (arith, l.known (socket_id_version id) some_)) in
      let t₁ = t.1 in let le = lives_le p (state c vs) sound.lawful.references (socket_id_slot id) may.0.0 in let on = versions_on (OnSlot (AddRef id)) may (socket_id_slot id) may.0.0 in omega (arith, t₁, le, on, far)

  -- who looks at a life that it holds finds its version, where it finds an even one
  pub look_holds : (id : ℕ) → May p v (OnSlot (LookWord id)) → version (socket_id_slot id) % 2 ≡ 0 → version (socket_id_slot id) ≡ socket_id_version id
  look_holds id may even = let f = (found (OnSlot (LookWord id)) may).0 (socket_id_version id) may.2 in omega (arith, f, even)
