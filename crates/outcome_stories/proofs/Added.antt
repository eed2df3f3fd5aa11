-- What a step adds to the marks of its seat that stay.
use Rattle.std.proofs.Common.{◌≡◌, ℕ, ◌+◌, ◌-◌, ◌%◌, ◌<◌, Bool, true, false, cond, eqb, List, ◌∷◌, refl, ap, ◌∙◌, arith, nat_lt}
use Rattle.sock_words.specs.declared.plain.Plan.{Plan}
use Rattle.sock_words.specs.PackedWords.{socket_id_version, socket_id_slot, vref_version, vref_nref}
use Rattle.sock_model.specs.declared.marks.Mark.{Mark}
use Rattle.sock_model.specs.declared.marks.Mark.TheVariants.{Claimed, Recycling, Hold, Probe, Zero, Coding, Tried, Known, Born, Saw, Failer, Stored, Told, Freer, Linked, Met}
use Rattle.sock_model.specs.declared.marks.SlotMark.{SlotMark}
use Rattle.sock_model.specs.declared.view.View.{View}
use Rattle.sock_model.specs.declared.view.Hand.{Hand}
use Rattle.sock_model.specs.MarkWeights.{is_probe, is_hold, is_stage, is_recycling, is_zero, is_coding, is_born, is_failer, is_linked, is_tried}
use Rattle.sock_model.specs.Marks.{about, at, without_at}
use Rattle.sock_model.specs.SlotRows.{marks_of, back, subbed, recycled}
use Rattle.program_walks.specs.slot_steps.proofs.ReferenceStepsKeepSlot.{zero_is, hold_is, probe_is, stage_is, any_recycled}
use Rattle.program_walks.specs.sock_steps.proofs.SumsAsMarksChange.{less_without, more_without}
use Rattle.seat_programs.specs.TableSteps.{TableStep, OnSlot, ClaimSlot, CreateLife, AddRef, SubRef, SetOdd, Recycle, FreeSlot, StoreLink, ResetHead, ClearCode, StoreCode}
use Rattle.seat_programs.specs.StepTables.{row}
use Rattle.program_walks.specs.program_steps.proofs.Leaves.{is_noting, noting_marks}
use Rattle.outcome_stories.specs.OperationStories.{adds}
use Rattle.outcome_stories.proofs.Tests.{split}
use Rattle.sock_words.specs.Totals.{total}

-- a weight of no mark but Tried, Born, Linked and Failer
pub record IsNote (f : Mark → ℕ) : Type 0 where
  pub claimed : (a k : ℕ) → f (Claimed a k) ≡ 0
  pub stored : (h c : ℕ) → f (Stored h c) ≡ 0
  pub told : (h c : ℕ) → f (Told h c) ≡ 0
  pub met : (h k : ℕ) → f (Met h k) ≡ 0
  pub recycling : (w : ℕ) → f (Recycling w) ≡ 0
  pub hold : (h : ℕ) → f (Hold h) ≡ 0
  pub probe : f Probe ≡ 0
  pub zeros : (w : ℕ) → f (Zero w) ≡ 0
  pub coding : (h : ℕ) → f (Coding h) ≡ 0
  pub known : (h : ℕ) → f (Known h) ≡ 0
  pub saw : (w : ℕ) → f (Saw w) ≡ 0
  pub freer : (h : ℕ) → f (Freer h) ≡ 0

pub born_note : (h : ℕ) → IsNote (is_born h)
born_note h = record { claimed = λ a k. refl; recycling = λ w. refl; hold = λ g. refl; probe = refl; zeros = λ w. refl; coding = λ g. refl; known = λ g. refl; saw = λ w. refl; stored = λ g c. refl; told = λ g c. refl; freer = λ g. refl; met = λ g k. refl }

pub failer_note : (h : ℕ) → IsNote (is_failer h)
failer_note h = record { claimed = λ a k. refl; recycling = λ w. refl; hold = λ g. refl; probe = refl; zeros = λ w. refl; coding = λ g. refl; known = λ g. refl; saw = λ w. refl; stored = λ g c. refl; told = λ g c. refl; freer = λ g. refl; met = λ g k. refl }

pub linked_note : (h k : ℕ) → IsNote (is_linked h k)
linked_note h k = record { claimed = λ a l. refl; recycling = λ w. refl; hold = λ g. refl; probe = refl; zeros = λ w. refl; coding = λ g. refl; known = λ g. refl; saw = λ w. refl; stored = λ g c. refl; told = λ g c. refl; freer = λ g. refl; met = λ g l. refl }

pub tried_note : IsNote is_tried
tried_note = record { claimed = λ a k. refl; recycling = λ w. refl; hold = λ g. refl; probe = refl; zeros = λ w. refl; coding = λ g. refl; known = λ g. refl; saw = λ w. refl; stored = λ g c. refl; told = λ g c. refl; freer = λ g. refl; met = λ g k. refl }

pub coding_is : (h : ℕ) (x : Mark) → 0 < is_coding h x → (g : ℕ) × (x ≡ Coding g)
coding_is h (Coding k) p = (k, refl)
coding_is h _ p = absurd (omega arith)

more_or_not : (f : Mark → ℕ) (m : Mark) (xs : List Mark) (b : Bool) → total f (cond b (m ∷ xs) xs) ≡ cond b (f m) 0 + total f xs
more_or_not f m xs true = refl
more_or_not f m xs false = omega arith

neither : (b : Bool) → cond {A = ℕ} b 0 0 ≡ 0
neither true = refl
neither false = refl

module _ (f : Mark → ℕ) (note : IsNote f) (j : ℕ) where
  abbrev sum : List SlotMark → ℕ
  sum es = total f (about j es)

  put : (i : ℕ) (m : Mark) (es : List SlotMark) → sum (at i m ∷ es) ≡ cond (eqb i j) (f m) 0 + sum es
  put i m es = more_or_not f m (about j es) (eqb i j)

  quiet : (i : ℕ) (m : Mark) (es : List SlotMark) → f m ≡ 0 → sum (at i m ∷ es) ≡ sum es
  quiet i m es z = let a = put i m es in let b = split (eqb i j) (f m) 0 (λ n. n ≡ 0) z refl in omega arith

  gone : (i : ℕ) (g : Mark → ℕ) (es : List SlotMark) → ((x : Mark) → 0 < g x → f x ≡ 0) → sum (without_at i g es) ≡ sum es
  gone i g es z = let a = less_without f es i g j in let b = more_without f es i g z j in omega arith

  stage_none : (a k : ℕ) (x : Mark) → 0 < is_stage a k x → f x ≡ 0
  stage_none a k x p = ap f (stage_is a k x p) ∙ note.claimed a k

  subbed_same : (i found : ℕ) (v : View) → marks_of f j (subbed i found (back i found v) v) ≡ marks_of f j v
  subbed_same i found v = let w : ℕ = vref_version found in
      let P : (Mark → ℕ) → Type 0 = λ g. marks_of f j (subbed i found g v) ≡ marks_of f j v in
      let by : (g : Mark → ℕ) → ((x : Mark) → 0 < g x → f x ≡ 0) → P g = λ g none_. let less : List SlotMark = without_at i g v.marks in let same = gone i g v.marks none_ in
      split (eqb (w % 2) 1) (cond (eqb (vref_nref found) 1) (at i (Zero w) ∷ less) less) less (λ es. sum es ≡ sum v.marks)
      (split (eqb (vref_nref found) 1) (at i (Zero w) ∷ less) less (λ es. sum es ≡ sum v.marks) (quiet i (Zero w) less (note.zeros w) ∙ same) same) same in
      split (nat_lt 0 (marks_of is_probe i v)) is_probe (is_hold (w - w % 2)) P (by is_probe (λ x q. ap f (probe_is x q) ∙ note.probe)) (by (is_hold (w - w % 2)) (λ x q. ap f (hold_is (w - w % 2) x q) ∙ note.hold (w - w % 2)))

  recycled_same : (i from found : ℕ) (v : View) → marks_of f j (recycled i from found v) ≡ marks_of f j v
  recycled_same i from found v = let w : ℕ = vref_version from in let less : List SlotMark = without_at i (is_zero w) v.marks in
      let same = gone i (is_zero w) v.marks (λ x q. ap f (zero_is w x q) ∙ note.zeros w) in
      split (eqb found from) (at i (Recycling (w + 1)) ∷ at i (Freer (w - 1)) ∷ less) less (λ es. sum es ≡ sum v.marks)
      (quiet i (Recycling (w + 1)) (at i (Freer (w - 1)) ∷ less) (note.recycling (w + 1)) ∙ (quiet i (Freer (w - 1)) less (note.freer (w - 1)) ∙ same)) same

  noting_same : (p : Plan) (call : TableStep) (found : ℕ) (hand : Hand) (v : View) → is_noting call ≡ true → marks_of f j (row p call found hand v) ≡ marks_of f j v
  noting_same p call found hand v = noting_marks p v found hand (λ es. sum es ≡ sum v.marks) refl (λ i w. quiet i (Saw w) v.marks (note.saw w)) (λ i h k. quiet i (Met h k) v.marks (note.met h k))
      (λ i h c w. quiet i (Told h c) (at i (Saw w) ∷ v.marks) (note.told h c) ∙ quiet i (Saw w) v.marks (note.saw w)) (λ i h. quiet i (Known h) v.marks (note.known h)) call

  pub row_adds : (p : Plan) (call : TableStep) (found : ℕ) (hand : Hand) (v : View) → marks_of f j (row p call found hand v) ≡ marks_of f j v + adds f j call found
  row_adds p (OnSlot (ClaimSlot i)) found hand v = let a = put i (cond (eqb found 0) (Claimed 0 0) Tried) v.marks in
      let b : f (cond (eqb found 0) (Claimed 0 0) Tried) ≡ cond (eqb found 0) 0 (f Tried) = tried_or (eqb found 0) in
      let c = ap (λ n. cond (eqb i j) n 0) b in omega arith
    where
      tried_or : (b : Bool) → f (cond b (Claimed 0 0) Tried) ≡ cond b 0 (f Tried)
      tried_or true = note.claimed 0 0
      tried_or false = refl
  row_adds p (OnSlot (CreateLife i k)) found hand v = let h : ℕ = vref_version found in let less : List SlotMark = without_at i (is_stage 3 k) v.marks in
      let a = quiet i (Known h) (at i (Born h) ∷ at i (Linked h k) ∷ less) (note.known h) in let b = put i (Born h) (at i (Linked h k) ∷ less) in let c = put i (Linked h k) less in
      let e = both (eqb i j) (f (Born h)) (f (Linked h k)) in let d = gone i (is_stage 3 k) v.marks (stage_none 3 k) in omega arith
    where
      both : (b : Bool) (m n : ℕ) → cond b (m + n) 0 ≡ cond b m 0 + cond b n 0
      both true m n = refl
      both false m n = refl
  row_adds p (OnSlot (AddRef id)) found hand v = let i : ℕ = socket_id_slot id in let w : ℕ = vref_version found in let b : Bool = eqb (vref_version found) (socket_id_version id) in
      let z : f (cond b (Hold w) Probe) ≡ 0 = split b (Hold w) Probe (λ m. f m ≡ 0) (note.hold w) note.probe in
      let a = quiet i (cond b (Hold w) Probe) (at i (Saw w) ∷ v.marks) z in let c = quiet i (Saw w) v.marks (note.saw w) in omega arith
  row_adds p (OnSlot (SubRef i)) found hand v = let a = subbed_same i found v in omega arith
  row_adds p (OnSlot (SetOdd i)) found hand v = let w : ℕ = vref_version found in
      let P : Bool → Type 0 = λ b. sum (cond b (at i (Hold w) ∷ at i (Coding w) ∷ at i (Failer w) ∷ at i (Saw (w + 1)) ∷ v.marks) (at i (Saw w) ∷ v.marks)) ≡ sum v.marks + cond (eqb i j) (cond b (f (Failer w)) 0) 0 in
      either_way P (eqb (w % 2) 0)
      (let a = quiet i (Hold w) (at i (Coding w) ∷ at i (Failer w) ∷ at i (Saw (w + 1)) ∷ v.marks) (note.hold w) in let b = quiet i (Coding w) (at i (Failer w) ∷ at i (Saw (w + 1)) ∷ v.marks) (note.coding w) in
      let c = put i (Failer w) (at i (Saw (w + 1)) ∷ v.marks) in let d = quiet i (Saw (w + 1)) v.marks (note.saw (w + 1)) in omega arith)
      (let a = quiet i (Saw w) v.marks (note.saw w) in let z = neither (eqb i j) in omega arith)
    where
      either_way : (P : Bool → Type 0) (b : Bool) → P true → P false → P b
      either_way P true x y = x
      either_way P false x y = y
  row_adds p (OnSlot (Recycle i from)) found hand v = let a = recycled_same i from found v in omega arith
  row_adds p (OnSlot (FreeSlot i)) found hand v = let a = gone i is_recycling v.marks (λ x q. let r = any_recycled x q in ap f r.1 ∙ note.recycling r.0) in omega arith
  row_adds p (OnSlot (StoreLink i k)) found hand v = let a = quiet i (Claimed 1 k) (without_at i (is_stage 0 0) v.marks) (note.claimed 1 k) in let b = gone i (is_stage 0 0) v.marks (stage_none 0 0) in omega arith
  row_adds p (OnSlot (ResetHead i k)) found hand v = let a = quiet i (Claimed 2 k) (without_at i (is_stage 1 k) v.marks) (note.claimed 2 k) in let b = gone i (is_stage 1 k) v.marks (stage_none 1 k) in omega arith
  row_adds p (OnSlot (ClearCode i k)) found hand v = let a = quiet i (Claimed 3 k) (without_at i (is_stage 2 k) v.marks) (note.claimed 3 k) in let b = gone i (is_stage 2 k) v.marks (stage_none 2 k) in omega arith
  row_adds p (OnSlot (StoreCode i h c)) found hand v = let a = quiet i (Stored h c) (at i (Told h c) ∷ without_at i (is_coding h) v.marks) (note.stored h c) in let b = quiet i (Told h c) (without_at i (is_coding h) v.marks) (note.told h c) in
      let d = gone i (is_coding h) v.marks (λ x q. let r = coding_is h x q in ap f r.1 ∙ note.coding r.0) in omega arith
  row_adds p call found hand v = let a = noting_same p call found hand v refl in omega arith
