-- What holds of the marks of a view, and with marks more or less that a step puts and takes away, holds behind the step.
use Rattle.std.proofs.Common.{◌≡◌, ℕ, ◌+◌, ◌-◌, ◌%◌, ◌<◌, ◌==◌, Bool, true, false, cond, List, ◌∷◌, refl, ap, arith}
use Rattle.std.proofs.lemmas.Bool.{true≢false}
use Rattle.sock_words.specs.PackedWords.{socket_id_version, socket_id_slot, vref_version}
use Rattle.sock_words.specs.declared.plain.Plan.{Plan}
use Rattle.sock_model.specs.declared.marks.Mark.{Mark}
use Rattle.sock_model.specs.declared.marks.Mark.TheVariants.{Claimed, Recycling, Hold, Probe, Zero, Coding, Tried, Known, Born, Saw, Failer, Stored, Told, Freer, Linked, Met}
use Rattle.sock_model.specs.declared.marks.SlotMark.{SlotMark}
use Rattle.sock_model.specs.declared.view.View.{View}
use Rattle.sock_model.specs.declared.view.Hand.{Hand}
use Rattle.sock_model.specs.MarkWeights.{is_stage, is_recycling, is_zero, is_coding}
use Rattle.sock_model.specs.Marks.{at, without_at}
use Rattle.sock_steps.specs.slot_steps.proofs.ReferenceStepsKeepSlot.{stage_is, any_recycled, zero_is}
use Rattle.sock_steps.proofs.SumsAsMarksChange.{either_way}
use Rattle.seat_programs.specs.TableSteps.{TableStep, OnSlot, ClaimSlot, CreateLife, AddRef, SubRef, SetOdd, Recycle, FreeSlot, StoreLink, ResetHead, ClearCode, StoreCode}
use Rattle.seat_programs.specs.StepTables.{row}
use Rattle.program_steps.proofs.Leaves.{noting_marks}

-- the marks that steps take away, but for those of references
abbrev pub is_taken : Mark → Bool
is_taken (Claimed n k) = true
is_taken (Zero w) = true
is_taken (Coding k) = true
is_taken (Recycling w) = true
is_taken other = false

-- the marks that a birth alone puts
abbrev pub is_of_birth : Mark → Bool
is_of_birth (Born h) = true
is_of_birth (Linked h k) = true
is_of_birth other = false

-- whether a step makes a life, or gives a reference back
abbrev pub bears_or_gives : TableStep → Bool
bears_or_gives (OnSlot (CreateLife i k)) = true
bears_or_gives (OnSlot (SubRef i)) = true
bears_or_gives other = false

coding_taken : (k : ℕ) (x : Mark) → 0 < is_coding k x → is_taken x ≡ true
coding_taken k (Coding w) some_ = refl
coding_taken k _ some_ = absurd (omega arith)

module _ (p : Plan) (v : View) (found : ℕ) (hand : Hand) (Q : List SlotMark → Type 0) (same : Q v.marks) (put : (i : ℕ) (m : Mark) (es : List SlotMark) → is_of_birth m ≡ false → Q es → Q (at i m ∷ es))
    (take_ : (i : ℕ) (g : Mark → ℕ) → ((x : Mark) → 0 < g x → is_taken x ≡ true) → Q (without_at i g v.marks)) where
  out : (i n k : ℕ) → Q (without_at i (is_stage n k) v.marks)
  out i n k = take_ i (is_stage n k) (λ x some_. ap is_taken (stage_is n k x some_))

  -- behind all others
  pub marks_way : (call : TableStep) → bears_or_gives call ≡ false → Q (row p call found hand v).marks
  marks_way (OnSlot (CreateLife i k)) other = absurd (true≢false other)
  marks_way (OnSlot (SubRef i)) other = absurd (true≢false other)
  marks_way (OnSlot (ClaimSlot i)) other = put i (cond (found == 0) (Claimed 0 0) Tried) v.marks (either_way (found == 0) (Claimed 0 0) Tried (λ m. is_of_birth m ≡ false) refl refl) same
  marks_way (OnSlot (AddRef id)) other = let i : ℕ = socket_id_slot id in let g : ℕ = vref_version found in let own : Bool = vref_version found == socket_id_version id in
      put i (cond own (Hold g) Probe) (at i (Saw g) ∷ v.marks) (either_way own (Hold g) Probe (λ m. is_of_birth m ≡ false) refl refl) (put i (Saw g) v.marks refl same)
  marks_way (OnSlot (SetOdd i)) other = let w : ℕ = vref_version found in let saw : List SlotMark = at i (Saw (w + 1)) ∷ v.marks in let failer : List SlotMark = at i (Failer w) ∷ at i (Saw (w + 1)) ∷ v.marks in
      either_way (w % 2 == 0) (at i (Hold w) ∷ at i (Coding w) ∷ failer) (at i (Saw w) ∷ v.marks) Q
      (put i (Hold w) (at i (Coding w) ∷ failer) refl (put i (Coding w) failer refl (put i (Failer w) saw refl (put i (Saw (w + 1)) v.marks refl same)))) (put i (Saw w) v.marks refl same)
  marks_way (OnSlot (Recycle i from)) other = let w : ℕ = vref_version from in let left : List SlotMark = without_at i (is_zero w) v.marks in let zero_out = take_ i (is_zero w) (λ x some_. ap is_taken (zero_is w x some_)) in
      either_way (found == from) (at i (Recycling (w + 1)) ∷ at i (Freer (w - 1)) ∷ left) left Q (put i (Recycling (w + 1)) (at i (Freer (w - 1)) ∷ left) refl (put i (Freer (w - 1)) left refl zero_out)) zero_out
  marks_way (OnSlot (FreeSlot i)) other = take_ i is_recycling (λ x some_. ap is_taken (any_recycled x some_).1)
  marks_way (OnSlot (StoreLink i k)) other = put i (Claimed 1 k) (without_at i (is_stage 0 0) v.marks) refl (out i 0 0)
  marks_way (OnSlot (ResetHead i k)) other = put i (Claimed 2 k) (without_at i (is_stage 1 k) v.marks) refl (out i 1 k)
  marks_way (OnSlot (ClearCode i k)) other = put i (Claimed 3 k) (without_at i (is_stage 2 k) v.marks) refl (out i 2 k)
  marks_way (OnSlot (StoreCode i g c)) other = let left : List SlotMark = without_at i (is_coding g) v.marks in put i (Stored g c) (at i (Told g c) ∷ left) refl (put i (Told g c) left refl (take_ i (is_coding g) (coding_taken g)))
  marks_way call other = noting_marks p v found hand Q same (λ i w. put i (Saw w) v.marks refl same) (λ i g k. put i (Met g k) v.marks refl same) (λ i g c w. put i (Told g c) (at i (Saw w) ∷ v.marks) refl (put i (Saw w) v.marks refl same))
      (λ i g. put i (Known g) v.marks refl same) call refl
