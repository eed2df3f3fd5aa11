-- A seat holds the references that its operation took.
use Rattle.std.proofs.Common.{◌≡◌, ℕ, ◌+◌, ◌-◌, ◌%◌, ◌<◌, ◌≤◌, Bool, true, false, cond, eqb, eq-eqb, ne_eqb, List, [], ◌∷◌, sym, refl, ap, arith}
use Rattle.std.proofs.lemmas.Bool.{true≢false}
use mathlib.Core.Logic.{dite}
use native.Mathlib.Decide.{ℕ_discrete}
use Rattle.sock_words.specs.declared.plain.Plan.{Plan}
use Rattle.sock_words.specs.PackedWords.{socket_id_version, socket_id_slot, vref_version, vref_nref}
use Rattle.sock_model.specs.declared.marks.Mark.{Mark}
use Rattle.sock_model.specs.declared.marks.Mark.TheVariants.{Hold, Probe, Zero, Coding, Known, Born, Saw, Failer, Linked}
use Rattle.sock_model.specs.declared.marks.SlotMark.{SlotMark}
use Rattle.sock_model.specs.declared.view.View.{View}
use Rattle.sock_model.specs.declared.view.Hand.{Hand}
use Rattle.sock_model.specs.MarkWeights.{is_hold, is_stage, only}
use Rattle.sock_model.specs.Marks.{about, at, without, without_at}
use Rattle.sock_model.specs.SlotRows.{marks_of, back, subbed}
use Rattle.program_walks.specs.slot_steps.proofs.RuleNumbers.{only-at, only-else}
use Rattle.program_walks.specs.slot_steps.proofs.OtherSlotsUntouched.{about-without, about-without_else}
use Rattle.program_walks.specs.slot_steps.proofs.ReferenceStepsKeepSlot.{stage_is}
use Rattle.program_walks.specs.sock_steps.proofs.SumsAsMarksChange.{More, more_all, more_add, more_without}
use Rattle.seat_programs.specs.TableSteps.{TableStep, OnSlot, ClaimSlot, CreateLife, AddRef, SubRef, SetOdd, Recycle, FreeSlot, StoreLink, LoadLink}
use Rattle.seat_programs.specs.StepTables.{row}
use Rattle.program_walks.specs.program_steps.proofs.Marking.{is_taken, marks_way}
use Rattle.outcome_stories.specs.Explains.{holds_behind}
use Rattle.outcome_stories.proofs.Tests.{split}
use Rattle.sock_words.specs.Totals.{total}

only_one : (h k : ℕ) → only h k ≤ 1
only_one h k = dite (ℕ_discrete k h) (λ e. let a = only-at h k e in omega arith) (λ n. let a = only-else h k n in omega arith)

module _ (h : ℕ) where
  abbrev f : Mark → ℕ
  f = is_hold h

  none_taken : (x : Mark) → is_taken x ≡ true → f x ≡ 0
  none_taken (Hold k) is = absurd (true≢false (sym is))
  none_taken _ is = refl

  hold_one : (x : Mark) → f x ≤ 1
  hold_one (Hold k) = only_one h k
  hold_one _ = omega arith

  -- where one mark goes, one reference goes at most
  one_less : (g : Mark → ℕ) (ms : List Mark) → total f ms ≤ total f (without g ms) + 1
  one_less g [] = omega arith
  one_less g (x ∷ xs) = let ih = one_less g xs in let one = hold_one x in
      split (eqb (g x) 0) (x ∷ without g xs) xs (λ ys. total f (x ∷ xs) ≤ total f ys + 1) (omega arith) (omega arith)

  module _ (v : View) where
    abbrev Kept : List SlotMark → Type 0
    Kept es = More f v.marks es

    kept_all : Kept v.marks
    kept_all = more_all f v.marks

    kept_add : (i : ℕ) (m : Mark) (es : List SlotMark) → Kept es → Kept (at i m ∷ es)
    kept_add i m es k = more_add f v.marks i m es k

    kept_without : (i : ℕ) (g : Mark → ℕ) → ((x : Mark) → 0 < g x → f x ≡ 0) → Kept (without_at i g v.marks)
    kept_without i g z = more_without f v.marks i g z

    -- steps that take no reference and give none back
    abbrev IsStill : TableStep → Type 0
    IsStill (OnSlot (AddRef id)) = ⊥
    IsStill (OnSlot (SubRef i)) = ⊥
    IsStill (OnSlot (SetOdd i)) = ⊥
    IsStill other = Unit {0}

    row_keeps : (p : Plan) (call : TableStep) (found : ℕ) (hand : Hand) → IsStill call → Kept (row p call found hand v).marks
    row_keeps p (OnSlot (AddRef id)) found hand still = absurd still
    row_keeps p (OnSlot (SubRef i)) found hand still = absurd still
    row_keeps p (OnSlot (SetOdd i)) found hand still = absurd still
    row_keeps p (OnSlot (CreateLife i k)) found hand still = let w : ℕ = vref_version found in let less : List SlotMark = without_at i (is_stage 3 k) v.marks in
        kept_add i (Known w) (at i (Born w) ∷ at i (Linked w k) ∷ less) (kept_add i (Born w) (at i (Linked w k) ∷ less) (kept_add i (Linked w k) less (kept_without i (is_stage 3 k) (λ x q. ap f (stage_is 3 k x q)))))
    row_keeps p call found hand still = marks_way p v found hand Kept kept_all (λ i m es other k. kept_add i m es k) (λ i g taken. kept_without i g (λ x q. none_taken x (taken x q))) call refl

  module _ (i : ℕ) (v : View) where
    abbrev sum : List SlotMark → ℕ
    sum es = total f (about i es)

    put : (j : ℕ) (m : Mark) (es : List SlotMark) → sum (at j m ∷ es) ≡ cond (eqb j i) (f m) 0 + sum es
    put j m es = by (eqb j i)
      where
        by : (b : Bool) → total f (cond b (m ∷ about i es) (about i es)) ≡ cond b (f m) 0 + total f (about i es)
        by true = refl
        by false = omega arith

    -- a reference is taken back
    sub_row : (j found n : ℕ) (g : Mark → ℕ) → n ≤ marks_of f i v → cond (eqb j i) (n - 1) n ≤ marks_of f i (subbed j found g v)
    sub_row j found n g le = let w : ℕ = vref_version found in let less : List SlotMark = without_at j g v.marks in
        let rest : cond (eqb j i) (n - 1) n ≤ sum less = dite (ℕ_discrete j i)
        (λ same. let a : cond (eqb j i) (n - 1) n ≡ n - 1 = ap (λ b. cond b (n - 1) n) (eq-eqb j i same) in
        let b : sum (without_at i g v.marks) ≡ total f (without g (about i v.marks)) = ap (total f) (about-without i g v.marks) in
        let c = one_less g (about i v.marks) in let d : sum less ≡ sum (without_at i g v.marks) = ap (λ z. sum (without_at z g v.marks)) same in omega arith)
        (λ far. let a : cond (eqb j i) (n - 1) n ≡ n = ap (λ b. cond b (n - 1) n) (ne_eqb j i far) in
        let b : sum less ≡ sum v.marks = ap (total f) (about-without_else i j g v.marks (λ e. far (sym e))) in omega arith) in
        let zero_ = put j (Zero w) less in
        split (eqb (w % 2) 1) (cond (eqb (vref_nref found) 1) (at j (Zero w) ∷ less) less) less (λ es. cond (eqb j i) (n - 1) n ≤ sum es)
        (split (eqb (vref_nref found) 1) (at j (Zero w) ∷ less) less (λ es. cond (eqb j i) (n - 1) n ≤ sum es) (omega arith) rest) rest

    odd_row : (p : Plan) (j found n : ℕ) (hand : Hand) → n ≤ marks_of f i v → (j ≡ i → 0 < n → vref_version found % 2 ≡ 0 → vref_version found ≡ h) → holds_behind i h (OnSlot (SetOdd j)) found n ≤ marks_of f i (row p (OnSlot (SetOdd j)) found hand v)
    odd_row p j found n hand le odd = let w : ℕ = vref_version found in let more : List SlotMark = at j (Hold w) ∷ at j (Coding w) ∷ at j (Failer w) ∷ at j (Saw (w + 1)) ∷ v.marks in
        let inner : ℕ = cond (eqb n 0) 0 (n + 1) in
        let a = put j (Hold w) (at j (Coding w) ∷ at j (Failer w) ∷ at j (Saw (w + 1)) ∷ v.marks) in let b = put j (Coding w) (at j (Failer w) ∷ at j (Saw (w + 1)) ∷ v.marks) in
        let c = put j (Failer w) (at j (Saw (w + 1)) ∷ v.marks) in let d = put j (Saw (w + 1)) v.marks in let e = put j (Saw w) v.marks in
        dite (ℕ_discrete j i)
        (λ same. let q : cond (eqb j i) (cond (eqb (w % 2) 0) inner n) n ≡ cond (eqb (w % 2) 0) inner n = ap (λ z. cond z (cond (eqb (w % 2) 0) inner n) n) (eq-eqb j i same) in
        let r : cond (eqb j i) (f (Hold w)) 0 ≡ f (Hold w) = ap (λ z. cond z (f (Hold w)) 0) (eq-eqb j i same) in
        dite (ℕ_discrete (w % 2) 0)
        (λ even. let s : cond (eqb (w % 2) 0) inner n ≡ inner = ap (λ z. cond z inner n) (eq-eqb (w % 2) 0 even) in
        let t : sum (cond (eqb (w % 2) 0) more (at j (Saw w) ∷ v.marks)) ≡ sum more = ap (λ z. sum (cond z more (at j (Saw w) ∷ v.marks))) (eq-eqb (w % 2) 0 even) in
        dite (ℕ_discrete n 0)
        (λ none_. let u : inner ≡ 0 = ap (λ z. cond z 0 (n + 1)) (eq-eqb n 0 none_) in omega arith)
        (λ some_. let u : inner ≡ n + 1 = ap (λ z. cond z 0 (n + 1)) (ne_eqb n 0 some_) in let x : f (Hold w) ≡ 1 = only-at h w (odd same (omega arith) even) in omega arith))
        (λ far. let s : cond (eqb (w % 2) 0) inner n ≡ n = ap (λ z. cond z inner n) (ne_eqb (w % 2) 0 far) in
        let t : sum (cond (eqb (w % 2) 0) more (at j (Saw w) ∷ v.marks)) ≡ sum (at j (Saw w) ∷ v.marks) = ap (λ z. sum (cond z more (at j (Saw w) ∷ v.marks))) (ne_eqb (w % 2) 0 far) in omega arith))
        (λ far. let q : cond (eqb j i) (cond (eqb (w % 2) 0) inner n) n ≡ n = ap (λ z. cond z (cond (eqb (w % 2) 0) inner n) n) (ne_eqb j i far) in
        split (eqb (w % 2) 0) more (at j (Saw w) ∷ v.marks) (λ es. cond (eqb j i) (cond (eqb (w % 2) 0) inner n) n ≤ sum es) (omega arith) (omega arith))

    add_row : (p : Plan) (id found n : ℕ) (hand : Hand) → n ≤ marks_of f i v → holds_behind i h (OnSlot (AddRef id)) found n ≤ marks_of f i (row p (OnSlot (AddRef id)) found hand v)
    add_row p id found n hand le = let s : ℕ = socket_id_slot id in let w : ℕ = vref_version found in let b : Bool = eqb (vref_version found) (socket_id_version id) in
        let a = put s (cond b (Hold w) Probe) (at s (Saw w) ∷ v.marks) in let c = put s (Saw w) v.marks in
        let d : f (cond b (Hold w) Probe) ≡ cond b (f (Hold w)) 0 = either b w in
        let e : cond (eqb s i) (f (cond b (Hold w) Probe)) 0 ≡ cond (eqb s i) (cond b (f (Hold w)) 0) 0 = ap (λ z. cond (eqb s i) z 0) d in omega arith
      where
        either : (b : Bool) (w : ℕ) → f (cond b (Hold w) Probe) ≡ cond b (f (Hold w)) 0
        either true w = refl
        either false w = refl

    -- the seat holds as many references behind a step as the operation has then
    pub holds_row : (p : Plan) (call : TableStep) (found n : ℕ) (hand : Hand) → n ≤ marks_of f i v → (call ≡ OnSlot (SetOdd i) → 0 < n → vref_version found % 2 ≡ 0 → vref_version found ≡ h)
        → holds_behind i h call found n ≤ marks_of f i (row p call found hand v)
    holds_row p (OnSlot (AddRef id)) found n hand le odd = add_row p id found n hand le
    holds_row p (OnSlot (SetOdd j)) found n hand le odd = odd_row p j found n hand le (λ e. odd (ap (λ j. OnSlot (SetOdd j)) e))
    holds_row p (OnSlot (SubRef j)) found n hand le odd = sub_row j found n (back j found v) le
    holds_row p (OnSlot (ClaimSlot j)) found n hand le odd = let k = row_keeps v p (OnSlot (ClaimSlot j)) found hand tt i in omega arith
    holds_row p (OnSlot (CreateLife j l)) found n hand le odd = let k = row_keeps v p (OnSlot (CreateLife j l)) found hand tt i in omega arith
    holds_row p (OnSlot (Recycle j from)) found n hand le odd = let k = row_keeps v p (OnSlot (Recycle j from)) found hand tt i in omega arith
    holds_row p (OnSlot (FreeSlot j)) found n hand le odd = let k = row_keeps v p (OnSlot (FreeSlot j)) found hand tt i in omega arith
    holds_row p (OnSlot (StoreLink j l)) found n hand le odd = let k = row_keeps v p (OnSlot (StoreLink j l)) found hand tt i in omega arith
    holds_row p (OnSlot (LoadLink j w)) found n hand le odd = let k = row_keeps v p (OnSlot (LoadLink j w)) found hand tt i in omega arith
    holds_row p call found n hand le odd = let k = row_keeps v p call found hand tt i in omega (arith, le, k)
