-- What a step finds, as the rule of the sockets has it.
use Rattle.std.proofs.Common.{◌≡◌, ◌≢◌, ℕ, Bool, ◌+◌, ◌-◌, ◌<◌, ◌≤◌, List, refl, subst, arith}
use Rattle.std.specs.Prelude.{slice_index}
use mathlib.Core.Option.{some}
use mathlib.Core.Logic.{dite}
use native.Mathlib.Decide.{ℕ_discrete}
use lib.ListN.{get_elem?}
use Rattle.sock_words.specs.PackedWords.{socket_id_version, socket_id_slot, vref_version}
use Rattle.sock_words.specs.declared.plain.Plan.{Plan}
use Rattle.sock_model.specs.declared.marks.Mark.{Mark}
use Rattle.sock_model.specs.declared.marks.Mark.TheVariants.{Claimed}
use Rattle.sock_model.specs.declared.view.View.{View}
use Rattle.sock_model.specs.MarkWeights.{is_busy, is_stage, is_hold, is_known, is_linked}
use Rattle.sock_model.specs.SocketTableLayout.{link_index}
use Rattle.sock_model.specs.Marks.{about}
use Rattle.sock_model.specs.SocketSlotLaw.{SlotLaw, live, count}
use Rattle.sock_model.specs.References.{slot_facts}
use Rattle.sock_model.specs.SlotRows.{marks_of}
use Rattle.sock_model.specs.LawfulSockets.{Lawful}
use Rattle.outcome_stories.specs.program_steps.specs.slot_steps.proofs.SlotWeightSums.{total_mono}
use Rattle.outcome_stories.specs.program_steps.specs.slot_steps.proofs.RuleNumbers.{live_le, life_is, life-in, pair_le}
use Rattle.outcome_stories.specs.program_steps.specs.sock_steps.proofs.LifeLinkSlotPlaces.{own_count}
use Rattle.seat_programs.specs.TableSteps.{TableStep, OnSlot, OnName, ClaimSlot, CreateLife, AddRef, SetOdd, LoadName, LookWord, FindLink}
use Rattle.seat_programs.specs.Cores.{Core, found_at}
use Rattle.seat_programs.specs.StepTables.{word_of}
use Rattle.seat_programs.specs.declared.task.Task.{Task}
use Rattle.seat_programs.specs.StepTables.{May}
use Rattle.outcome_stories.specs.program_steps.specs.SoundSeats.{state}
use Rattle.outcome_stories.specs.OperationStories.{Entry, Event}
use Rattle.outcome_stories.specs.Explains.{holds}
use Rattle.outcome_stories.specs.StoryStepCauses.{OddAt, WasFailed, WasGiven, FoundCause}
use Rattle.outcome_stories.specs.KeptStory.{Story}

stage_busy : (a k : ℕ) (x : Mark) → is_stage a k x ≤ is_busy x
stage_busy a k (Claimed n l) = pair_le a k n l
stage_busy a k _ = omega arith

module _ (p : Plan) (clients : List (List Task)) (c : Core) (vs : List View) (lawful : Lawful (λ home. home) p (state c vs)) (es : List Event) (broken : List ℕ) (over : Bool) (story : Story p clients over c vs es broken) (i : ℕ) (v : View) (here : get_elem? vs i ≡ some v) where
  law : (j : ℕ) → j < p.slots → SlotLaw p.first (live (slot_facts (state c vs) j)) (slot_facts (state c vs) j)
  law j l = lawful.references.slots j l

  lives_le : (j : ℕ) → live (slot_facts (state c vs) j) ≤ 1
  lives_le j = live_le (slot_facts (state c vs) j).tag (slot_facts (state c vs) j).version (count is_busy (slot_facts (state c vs) j))

  known_failed : (j h : ℕ) → j < p.slots → 0 < marks_of (is_known h) j v → (slot_facts (state c vs) j).version ≢ h → WasFailed broken es j h
  known_failed j h inside known ne = let o = law j inside in let k = own_count (state c vs) i v here (is_known h) j in
      let l = life_is p.first h ((slot_facts (state c vs) j).version + live (slot_facts (state c vs) j)) (omega (arith, o.known h (omega arith))) in
      let l₀ = l.0 in let l₁ = l.1 in let le = lives_le j in
      let a = life-in p.first h (slot_facts (state c vs) j).version l₀ (omega arith) l.2 in
      story.lost j inside h (omega (arith, o.failed h, a))

  pub odd_failed : (j h : ℕ) → j < p.slots → 0 < marks_of (is_hold h) j v → (found : ℕ) → vref_version found ≡ (slot_facts (state c vs) j).version → OddAt broken es j h found
  odd_failed j h inside held found at = let o = law j inside in let k = own_count (state c vs) i v here (is_hold h) j in let t = o.held h (omega arith) in let t₀ = t.0 in let t₁ = t.1 in let le = lives_le j in
      let begun = o.begun in let even = lawful.fits.even in
      ((λ e. omega arith), λ odd. let a = life-in p.first h (slot_facts (state c vs) j).version (omega arith) (omega arith) t₁ in story.lost j inside h (omega (arith, o.failed h, a)))

  -- the link in the slot of a life that is held is the one with which it was made
  pub held_given : (j h : ℕ) → j < p.slots → 0 < marks_of (is_hold h) j v → WasGiven es j h (slice_index c.words (link_index j))
  held_given j h inside held = let o = law j inside in let k = own_count (state c vs) i v here (is_hold h) j in let t = o.held h (omega arith) in let t₀ = t.0 in let t₁ = t.1 in let le = lives_le j in
      let link : ℕ = (slot_facts (state c vs) j).link in
      let tie = story.links j inside h link in
      dite (ℕ_discrete (slot_facts (state c vs) j).version h)
      (λ same. let g : 0 < count (is_linked h link) (slot_facts (state c vs) j) = subst (λ z. 0 < count (is_linked z link) (slot_facts (state c vs) j)) same (o.link_live (omega (arith, t₀, same))) in omega (arith, tie, g))
      (λ far. let e : (slot_facts (state c vs) j).version - 1 ≡ h = omega (arith, t₀, far, le) in
      let g : 0 < count (is_linked h link) (slot_facts (state c vs) j) = subst (λ z. 0 < count (is_linked z link) (slot_facts (state c vs) j)) e (o.link_odd (omega (arith, t₀, t₁, far, le))) in omega (arith, tie, g))

  -- a step of seat i means what it found
  pub means_of : (trace : List Entry) → ((j h : ℕ) → holds j h trace ≤ marks_of (is_hold h) j v) → (call : TableStep) → May p v call → FoundCause p broken es trace call (found_at c.words (word_of p call))
  means_of trace hold (OnName (LoadName n)) may = story.named n may
  means_of trace hold (OnSlot (CreateLife j k)) may = let o = law j may.0 in let a = own_count (state c vs) i v here is_busy j in let b : marks_of (is_stage 3 k) j v ≤ marks_of is_busy j v = total_mono (is_stage 3 k) is_busy (stage_busy 3 k) (about j v.marks) in
      let s = may.1 in (may.0, o.busy_even (omega arith), o.begun)
  means_of trace hold (OnSlot (AddRef id)) may = λ ne. known_failed (socket_id_slot id) (socket_id_version id) may.0.0 may.0.1 ne
  means_of trace hold (OnSlot (SetOdd j)) may = λ h held. let le = hold j h in odd_failed j h may.0 (omega (arith, le, held)) (found_at c.words (word_of p (OnSlot (SetOdd j)))) refl
  means_of trace hold (OnSlot (LookWord id)) may = λ held odd. let le = hold (socket_id_slot id) (socket_id_version id) in
      (odd_failed (socket_id_slot id) (socket_id_version id) may.0 (omega (arith, le, held)) (found_at c.words (word_of p (OnSlot (LookWord id)))) refl).1 odd
  means_of trace hold (OnSlot (FindLink j h)) may = held_given j h may.0 may.1
  means_of trace hold (OnSlot (ClaimSlot j)) may = tt
  means_of trace hold _ may = tt
