-- What a step finds is as the rule has it.
use Rattle.std.proofs.Common.{◌≡◌, ◌≢◌, ℕ, ◌+◌, ◌-◌, ◌%◌, ◌<◌, ◌≤◌, [], get_or, sym, ap, arith}
use mathlib.Core.Option.{some}
use lib.ListN.{get_elem?}
use Rattle.atomic_table.specs.Table.{State, keeps}
use Rattle.sock_words.specs.PackedWords.{socket_id_slot, socket_id_version, vref_version, vref_nref, NO_SOCKET}
use Rattle.sock_words.specs.declared.plain.Plan.{Plan}
use Rattle.sock_model.specs.declared.home.Home.{Home}
use Rattle.sock_model.specs.declared.marks.Mark.{Mark}
use Rattle.sock_model.specs.declared.marks.Mark.TheVariants.{Claimed}
use Rattle.sock_model.specs.declared.view.View.{View}
use Rattle.sock_model.specs.declared.view.Hand.{Hand}
use Rattle.sock_model.specs.MarkWeights.{only, is_ref, is_hold, is_saw, is_claimed, is_busy, is_recycling, is_recycled, is_stage}
use Rattle.sock_model.specs.Marks.{about}
use Rattle.sock_model.specs.SocketTableLayout.{ref_index, link_index, name_index, open_index, request_index}
use Rattle.sock_model.specs.RequestStates.{Phase, free_phase, claimed_phase, used_phase, retired_phase}
use Rattle.sock_model.specs.SlotRows.{marks_of}
use Rattle.sock_model.specs.SocketSlotLaw.{count}
use Rattle.sock_model.specs.References.{slot_facts}
use Rattle.sock_model.specs.ChainLawReads.{waits_of, memory, tokens}
use Rattle.sock_model.specs.LawfulSockets.{Lawful}
use Rattle.sock_steps.specs.slot_steps.proofs.SlotWeightSums.{term_le, total_mono, tally_mono}
use Rattle.sock_steps.specs.slot_steps.proofs.RuleNumbers.{pair_le}
use Rattle.sock_steps.specs.slot_steps.proofs.ReferenceStepsKeepSlot.{recycled_le}
use Rattle.sock_steps.specs.slot_steps.proofs.KeptByTagSteps.{life_found}
use Rattle.sock_steps.proofs.LifeLinkSlotPlaces.{own_count, given_unwaited}
use Rattle.seat_programs.specs.TableSteps.{TableStep, OnSlot, OnName, OnChain, OnLink, CreateLife, AddRef, SubRef, SetOdd, FreeSlot, LoadLink, LoadName, LoadOpen, TakeLink, LookWord, FindLink, ClaimRequest}
use Rattle.seat_programs.specs.StepTables.{word_of}
use Rattle.seat_programs.specs.Cores.{found_at}
use Rattle.seat_programs.specs.StepTables.{hand_at}
use Rattle.seat_programs.specs.StepTables.{May, Finds}
use Rattle.seat_programs.specs.StepsOfNames.{FindsId}
use Rattle.seat_programs.specs.StepsOfSlots.{IsOfHeld, FindsFailed}
use Rattle.program_steps.proofs.SlotWordBounds.{law, fits, has_room, next_version}
use Rattle.program_steps.proofs.LifeIdWords.{id_some, id_socket}
use Rattle.sock_runs.proofs.HandTicks.{found_hand}
use Rattle.sock_runs.proofs.ChainTicks.{held_link_in, held_link_is}
use Rattle.sock_words.specs.Totals.{total}

stage_claimed : (n k : ℕ) (x : Mark) → is_stage n k x ≤ is_claimed x
stage_claimed n k (Claimed a b) = pair_le n k a b
stage_claimed n k _ = omega arith

claimed_busy : (x : Mark) → is_claimed x ≤ is_busy x
claimed_busy (Claimed a b) = omega arith
claimed_busy _ = omega arith

module _ (p : Plan) (s : State Home View) (o : Lawful (λ home. home) p s) (i : ℕ) (v : View) (at : get_elem? s.views i ≡ some v) where
  -- a claimed slot has an even version, with which it may be given again
  births : (j k : ℕ) → May p v (OnSlot (CreateLife j k)) → (vref_version (get_or s.words (ref_index j) 0) % 2 ≡ 0) × (vref_version (get_or s.words (ref_index j) 0) ≤ 4294967292)
  births j k may = let l = law p s o.references j may.0 in let there = total_mono (is_stage 3 k) is_claimed (stage_claimed 3 k) (about j v.marks) in
      let claimed : 0 < count is_claimed (slot_facts s j) = omega (arith, there, own_count s i v at is_claimed j, may.1) in
      (l.busy_even (omega (arith, claimed, tally_mono is_claimed is_busy claimed_busy (slot_facts s j).marks)), l.claimed_low claimed)

  -- the life that the seat holds is that of the word
  of_held : (j : ℕ) → j < p.slots → IsOfHeld v j (get_or s.words (ref_index j) 0)
  of_held j inside h there = sym (life_found p s o.references i v at [] keeps j inside (fits p s o.references j inside) h there)

  -- and where the seat saw it failed, the word says so
  failed_found : (j : ℕ) → j < p.slots → FindsFailed v j (get_or s.words (ref_index j) 0)
  failed_found j inside h there saw = let l = law p s o.references j inside in
      let here = l.held h (omega (arith, there, own_count s i v at (is_hold h) j)) in
      let seen = l.saw (h + 1) (omega (arith, saw, own_count s i v at (is_saw (h + 1)) j)) in omega (arith, here, seen)

  -- the link of a slot that is being recycled is one of the table
  link_in : (j w : ℕ) → j < p.slots → 0 < marks_of (is_recycled w) j v → get_or s.words (link_index j) 0 < p.links
  link_in j w inside there = let l = law p s o.references j inside in let f = slot_facts s j in
      let recycling : 0 < count is_recycling (slot_facts s j) = omega (arith, own_count s i v at (is_recycled w) j, tally_mono (is_recycled w) is_recycling (recycled_le w) (slot_facts s j).marks, there) in
      o.in_slots.small j ((slot_facts s j).version - 2) (get_or s.words (link_index j) 0) record { inside = inside; given = l.link_last recycling }

  -- whose pass was spent
  link_unwaited : (j w : ℕ) → j < p.slots → 0 < marks_of (is_recycled w) j v → total (only (get_or s.words (link_index j) 0)) v.passes ≡ 0
  link_unwaited j w inside there = let l = law p s o.references j inside in let f = slot_facts s j in let k : ℕ = get_or s.words (link_index j) 0 in
      let recycling : 0 < count is_recycling (slot_facts s j) = omega (arith, own_count s i v at (is_recycled w) j, tally_mono (is_recycled w) is_recycling (recycled_le w) (slot_facts s j).marks, there) in
      omega (arith, given_unwaited p s o.references j ((slot_facts s j).version - 2) k record { inside = inside; given = l.link_last recycling }, term_le (waits_of k) s.views i v at)

  -- the references that the seat has are counted
  refs_counted : (j : ℕ) → j < p.slots → marks_of is_ref j v ≤ vref_nref (get_or s.words (ref_index j) 0)
  refs_counted j inside = omega (arith, (law p s o.references j inside).counted, own_count s i v at is_ref j)

  -- one seat at most claims or recycles a slot, and once
  busy_once : (j : ℕ) → j < p.slots → marks_of is_busy j v ≤ 1
  busy_once j inside = omega (arith, (law p s o.references j inside).busy_once, own_count s i v at is_busy j)

  -- a name never has the word of an `open` that got no slot
  named : p.slots ≤ 256 → (n : ℕ) → n < p.names → FindsId p (get_or s.words (name_index p n) 0) × (get_or s.words (name_index p n) 0 ≢ NO_SOCKET)
  named few n inside = let found : ℕ = get_or s.words (name_index p n) 0 in (
    λ is. (o.references.named.names n inside (id_some found is)).0,
    λ e. let e' : get_or s.words (name_index p n) 0 ≡ 18446744073709551615 = e in let a = (o.references.named.names n inside (λ z. omega (arith, e', z))).0 in omega (arith, a, e', few),
  )

  -- a request's word is twice its generation, and one more where it is taken
  request_small : (q : ℕ) → q < p.requests → get_or s.words (request_index p q) 0 < 281474976710656
  request_small q inside = let u = o.chains.in_use q inside in by_phase u.generation u.times u.small u.phase
    where
      by_phase : (g n : ℕ) → g < 140737488355328 → Phase (memory p o.slot s.words) (tokens s.views) o.log o.freed q g n → get_or s.words (request_index p q) 0 < 281474976710656
      by_phase g n small (free_phase x) = omega (arith, small, x.word)
      by_phase g n small (claimed_phase x) = omega (arith, small, x.word)
      by_phase g n small (used_phase x) = let l = o.chains.live x.link x.place x.entry x.late x.here in let a = l.0 in
          let is : get_or s.words (request_index p x.entry.request) 0 ≡ get_or s.words (request_index p q) 0 = ap (λ z. get_or s.words (request_index p z) 0) x.request_is in omega (arith, small, a, is, x.generation_is)
      by_phase g n small (retired_phase x) = omega (arith, small, x.word)

  pub finds : p.slots ≤ 256 → (call : TableStep) → May p v call → Finds p v call (found_at s.words (word_of p call)) (hand_at p s.words s.homes call)
  finds few (OnSlot (CreateLife j k)) may = let b = births j k may in (has_room p s o.references j may.0, b.0, b.1)
  finds few (OnSlot (AddRef id)) may = has_room p s o.references (socket_id_slot id) may.0.0
  finds few (OnSlot (SubRef j)) may = (refs_counted j may.0, of_held j may.0, next_version p s o.references j may.0)
  finds few (OnSlot (SetOdd j)) may = of_held j may.0
  finds few (OnSlot (FreeSlot j)) may = busy_once j may.0
  finds few (OnSlot (LoadLink j w)) may = (link_in j w may.0 may.1, link_unwaited j w may.0 may.1)
  finds few (OnName (LoadName n)) may = named few n may
  finds few (OnName (LoadOpen n)) may = λ is. let found : ℕ = get_or s.words (open_index p n) 0 in (o.references.named.opens n may (id_socket found is) (id_some found is)).0
  finds few (OnLink (TakeLink k)) may = ap (λ (h : Hand). h.link) (found_hand p s o i v at k may)
  finds few (OnSlot (LookWord id)) may = (of_held (socket_id_slot id) may.0, failed_found (socket_id_slot id) may.0)
  finds few (OnSlot (FindLink j h)) may = (held_link_in p s o i v at j h may, held_link_is p s o i v at j h may)
  finds few (OnChain (ClaimRequest id q)) may = (
    (held_link_in p s o i v at (socket_id_slot id) (socket_id_version id) may.1, held_link_is p s o i v at (socket_id_slot id) (socket_id_version id) may.1),
    request_small q may.0,
  )
  finds few _ may = tt
