-- Steps on the words of slots keep the rule.
use Rattle.std.proofs.Common.{◌≡◌, ℕ, ◌+◌, ◌-◌, ◌*◌, ◌%◌, ◌^◌, ◌<◌, eqb, eqb-true, eq-eqb, ne_eqb, cond, Bool, [], get_or, set, sym, subst, arith}
use mathlib.Core.Logic.{dite}
use mathlib.Core.Option.{some}
use native.Mathlib.Decide.{ℕ_discrete}
use lib.ListN.{get_elem?}
use Rattle.atomic_table.specs.Table.{State, stepped, keeps}
use Rattle.sock_words.specs.PackedWords.{socket_id_version, socket_id_slot, vref_version, vref_nref}
use Rattle.sock_words.specs.declared.plain.Plan.{Plan}
use Rattle.sock_model.specs.declared.home.Home.{Home}
use Rattle.sock_model.specs.declared.view.View.{View}
use Rattle.sock_model.specs.MarkWeights.{is_ref, is_known}
use Rattle.sock_model.specs.SocketTableLayout.{ref_index}
use Rattle.sock_model.specs.SlotRows.{marks_of, gave_birth, added, back, subbed, recycled}
use Rattle.sock_model.specs.LawfulSockets.{Lawful}
use Rattle.sock_steps.proofs.SlotSteps.{claim_law, add_law, sub_law, set_odd_law, recycle_lost_law, free_law, link_law, meet_last_law, wipe_law, code_law}
use Rattle.sock_steps.proofs.LifeLinkSlotPlaces.{own_count}
use Rattle.sock_steps.proofs.Birth.{birth_law, reset_law}
use Rattle.sock_steps.proofs.EndOfSlotLife.{recycle_law}
use Rattle.seat_programs.specs.TableSteps.{TableStep, OnSlot, ClaimSlot, CreateLife, AddRef, SubRef, SetOdd, Recycle, FreeSlot, StoreLink, LoadLink, ResetHead, ClearCode, StoreCode}
use Rattle.seat_programs.specs.StepTables.{word_of, word_after}
use Rattle.seat_programs.specs.Cores.{found_at, words_after}
use Rattle.seat_programs.specs.StepTables.{row, hand_at}
use Rattle.seat_programs.specs.StepTables.{May}
use Rattle.program_steps.proofs.SlotWordBounds.{fits, has_room, law}

-- the rule holds behind a step of seat i, which has this view, on one word
abbrev pub KeepsWord : Plan → State Home View → ℕ → View → TableStep → Type 0
KeepsWord p s i v call = let found = found_at s.words (word_of p call) in
    Lawful (λ home. home) p record { words = words_after s.words (word_of p call) (word_after call found); homes = s.homes; views = set s.views i (row p call found (hand_at p s.words s.homes call) v) }

module _ (p : Plan) (s : State Home View) (o : Lawful (λ home. home) p s) (i : ℕ) (v : View) (at : get_elem? s.views i ≡ some v) where
  pub claims : (j : ℕ) → May p v (OnSlot (ClaimSlot j)) → KeepsWord p s i v (OnSlot (ClaimSlot j))
  claims j may = claim_law (λ home. home) p s o i v at j may

  pub adds : (id : ℕ) → May p v (OnSlot (AddRef id)) → KeepsWord p s i v (OnSlot (AddRef id))
  adds id may = let j : ℕ = socket_id_slot id in let inside = may.0.0 in let found : ℕ = get_or s.words (ref_index j) 0 in let room = has_room p s o.references j inside in
      let is : (get_or s.words (ref_index (socket_id_slot id)) 0 + 1) % 2 ^ 64 ≡ get_or s.words (ref_index (socket_id_slot id)) 0 + 1 = omega (arith, room, fits p s o.references j inside) in
      let is_life : Bool = eqb (vref_version found) (socket_id_version id) in
      subst (λ n. Lawful (λ home. home) p (stepped s (ref_index j) n i [] (added j found is_life v) keeps)) is
      (add_law (λ home. home) p s o i v at j inside (fits p s o.references j inside) is_life
      (λ e. subst (λ h. 0 < marks_of (is_known h) j v) (sym (eqb-true (vref_version found) (socket_id_version id) e)) may.0.1) may.1)

  pub bears : (j k : ℕ) → May p v (OnSlot (CreateLife j k)) → KeepsWord p s i v (OnSlot (CreateLife j k))
  bears j k may = let found : ℕ = get_or s.words (ref_index j) 0 in let room = has_room p s o.references j may.0 in
      let is : (get_or s.words (ref_index j) 0 + 1) % 2 ^ 64 ≡ get_or s.words (ref_index j) 0 + 1 = omega (arith, room, fits p s o.references j may.0) in
      subst (λ n. Lawful (λ home. home) p (stepped s (ref_index j) n i [] (gave_birth j found k v) keeps)) is
      (birth_law (λ home. home) p s o i v at j may.0 (fits p s o.references j may.0) k may.1)

  -- a reference that the seat has is counted
  pub some_counted : (j : ℕ) → j < p.slots → 0 < marks_of is_ref j v → 0 < vref_nref (get_or s.words (ref_index j) 0)
  some_counted j inside there = omega (arith, (law p s o.references j inside).counted, own_count s i v at is_ref j)

  pub subs : (j : ℕ) → May p v (OnSlot (SubRef j)) → KeepsWord p s i v (OnSlot (SubRef j))
  subs j may = let found : ℕ = get_or s.words (ref_index j) 0 in
      let is : (get_or s.words (ref_index j) 0 + (2 ^ 64 - 1)) % 2 ^ 64 ≡ get_or s.words (ref_index j) 0 - 1 = omega (arith, some_counted j may.0 may.1, fits p s o.references j may.0) in
      subst (λ n. Lawful (λ home. home) p (stepped s (ref_index j) n i [] (subbed j found (back j found v) v) keeps)) is
      (sub_law (λ home. home) p s o i v at j may.0 (fits p s o.references j may.0) may.1 may.2 may.3)

  pub fails : (j : ℕ) → May p v (OnSlot (SetOdd j)) → KeepsWord p s i v (OnSlot (SetOdd j))
  fails j may = set_odd_law (λ home. home) p s o i v at j may.0 (fits p s o.references j may.0) may.1.0 may.1.1 may.2

  pub recycles : (j from : ℕ) → May p v (OnSlot (Recycle j from)) → KeepsWord p s i v (OnSlot (Recycle j from))
  recycles j from may = let found : ℕ = get_or s.words (ref_index j) 0 in
      let P : Bool → Type 0 = λ b. Lawful (λ home. home) p (stepped s (ref_index j) (cond b ((vref_version from + 1) * 4294967296) found) i [] (recycled j from found v) keeps) in
      dite (ℕ_discrete found from)
      (λ e. subst P (sym (eq-eqb found from e)) (recycle_law (λ home. home) p s o i v at j may.0 (fits p s o.references j may.0) from e may.2 may.3 may.1))
      (λ ne. subst P (sym (ne_eqb found from ne)) (recycle_lost_law (λ home. home) p s o i v at j may.0 (fits p s o.references j may.0) from ne may.3 may.1))

  pub frees : (j : ℕ) → May p v (OnSlot (FreeSlot j)) → KeepsWord p s i v (OnSlot (FreeSlot j))
  frees j may = free_law (λ home. home) p s o i v at j may.0 may.1.0 may.1.1 may.1.2 may.2

  pub links : (j k : ℕ) → May p v (OnSlot (StoreLink j k)) → KeepsWord p s i v (OnSlot (StoreLink j k))
  links j k may = link_law (λ home. home) p s o i v at j may.0 k may.1 may.2

  pub meets : (j w : ℕ) → May p v (OnSlot (LoadLink j w)) → KeepsWord p s i v (OnSlot (LoadLink j w))
  meets j w may = meet_last_law (λ home. home) p s o i v at j may.0 w may.1

  pub resets : (j k : ℕ) → May p v (OnSlot (ResetHead j k)) → KeepsWord p s i v (OnSlot (ResetHead j k))
  resets j k may = reset_law (λ home. home) p s o i v at j may.0 k may.1

  pub wipes : (j k : ℕ) → May p v (OnSlot (ClearCode j k)) → KeepsWord p s i v (OnSlot (ClearCode j k))
  wipes j k may = wipe_law (λ home. home) p s o i v at j may.0 k may.1

  pub codes : (j h d : ℕ) → May p v (OnSlot (StoreCode j h d)) → KeepsWord p s i v (OnSlot (StoreCode j h d))
  codes j h d may = code_law (λ home. home) p s o i v at j may.0 h d may.1 may.2
