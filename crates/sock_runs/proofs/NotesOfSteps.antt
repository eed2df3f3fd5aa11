-- Which notes a step makes: each note of a view stays, and a life is noted as made by its birth alone.
use Rattle.std.proofs.Common.{◌≡◌, ℕ, ◌-◌, ◌%◌, ◌<◌, ◌≤◌, ◌==◌, ◌⊎◌, inl, inr, Bool, true, false, cond, nat_lt, List, ◌∷◌, refl, sym, ap, arith}
use Rattle.std.proofs.lemmas.Bool.{true≢false}
use mathlib.Core.Logic.{dite}
use mathlib.Core.Option.{Option, some, none, some-ne-none}
use native.Mathlib.Decide.{ℕ_discrete}
use Rattle.sock_words.specs.declared.plain.Plan.{Plan}
use Rattle.sock_model.specs.declared.marks.Mark.{Mark}
use Rattle.sock_model.specs.declared.marks.Mark.TheVariants.{Hold, Probe, Zero, Known, Born, Failer, Linked}
use Rattle.sock_model.specs.declared.marks.SlotMark.{SlotMark}
use Rattle.sock_model.specs.declared.view.View.{View}
use Rattle.sock_model.specs.declared.view.Hand.{Hand}
use Rattle.sock_model.specs.MarkWeights.{is_born, is_failer, is_stage, is_hold, is_probe}
use Rattle.sock_model.specs.Marks.{at, without_at}
use Rattle.sock_model.specs.SlotRows.{marks_of, back}
use Rattle.sock_steps.specs.slot_steps.proofs.SlotWeightSums.{about-other}
use Rattle.sock_steps.specs.slot_steps.proofs.RuleNumbers.{only-else}
use Rattle.sock_steps.specs.slot_steps.proofs.ReferenceStepsKeepSlot.{stage_is, hold_is, probe_is}
use Rattle.sock_steps.proofs.SumsAsMarksChange.{either_way, Less, More, less_add, less_all, less_without, more_add, more_all, more_without}
use Rattle.seat_programs.specs.TableSteps.{TableStep, OnSlot, CreateLife, SubRef}
use Rattle.seat_programs.specs.StepTables.{row}
use Rattle.program_steps.proofs.Marking.{is_taken, is_of_birth, marks_way}
use Rattle.sock_words.specs.PackedWords.{vref_version, vref_nref}
use Rattle.sock_words.specs.Totals.{total}

-- the slot in which a step makes a life
abbrev pub bears : TableStep → Option ℕ
bears (OnSlot (CreateLife i k)) = some i
bears _ = none

-- the marks that a step may take away
abbrev pub may_go : Mark → Bool
may_go (Hold k) = true
may_go Probe = true
may_go other = is_taken other

goes : (x : Mark) → is_taken x ≡ true → may_go x ≡ true
goes (Hold k) is = refl
goes Probe is = refl
goes _ is = is

-- a weight that no such mark has
abbrev pub IsKept : (Mark → ℕ) → Type 0
IsKept f = (x : Mark) → may_go x ≡ true → f x ≡ 0

-- a weight that only marks of a birth have
abbrev pub IsOfBirth : (Mark → ℕ) → Type 0
IsOfBirth f = (m : Mark) → is_of_birth m ≡ false → f m ≡ 0

module _ (p : Plan) (v : View) (found : ℕ) (hand : Hand) where
  module _ (f : Mark → ℕ) (none_ : IsKept f) where
    abbrev Stay : List SlotMark → Type 0
    Stay new = More f v.marks new

    add : (i : ℕ) (m : Mark) (new : List SlotMark) → More f v.marks new → More f v.marks (at i m ∷ new)
    add i m new stay = more_add f v.marks i m new stay

    same : More f v.marks v.marks
    same = more_all f v.marks

    drop : (i : ℕ) (g : Mark → ℕ) → ((x : Mark) → 0 < g x → f x ≡ 0) → More f v.marks (without_at i g v.marks)
    drop i g z = more_without f v.marks i g z

    back_out : (i : ℕ) → More f v.marks (without_at i (back i found v) v.marks)
    back_out i = let w : ℕ = vref_version found in either_way (nat_lt 0 (marks_of is_probe i v)) is_probe (is_hold (w - w % 2)) (λ (g : Mark → ℕ). More f v.marks (without_at i g v.marks))
        (drop i is_probe (λ x q. none_ x (ap may_go (probe_is x q)))) (drop i (is_hold (w - w % 2)) (λ x q. none_ x (ap may_go (hold_is (w - w % 2) x q))))

    -- what was noted stays
    pub notes_stay : (call : TableStep) → More f v.marks (row p call found hand v).marks
    notes_stay (OnSlot (CreateLife i k)) = let g : ℕ = vref_version found in let left : List SlotMark = without_at i (is_stage 3 k) v.marks in
        add i (Known g) (at i (Born g) ∷ at i (Linked g k) ∷ left) (add i (Born g) (at i (Linked g k) ∷ left) (add i (Linked g k) left (drop i (is_stage 3 k) (λ x q. none_ x (ap may_go (stage_is 3 k x q))))))
    notes_stay (OnSlot (SubRef i)) = let w : ℕ = vref_version found in let left : List SlotMark = without_at i (back i found v) v.marks in
        either_way (w % 2 == 1) (cond (vref_nref found == 1) (at i (Zero w) ∷ left) left) left Stay (either_way (vref_nref found == 1) (at i (Zero w) ∷ left) left Stay (add i (Zero w) left (back_out i)) (back_out i)) (back_out i)
    notes_stay call = marks_way p v found hand Stay same (λ i m new other stay. add i m new stay) (λ i g taken. drop i g (λ x q. none_ x (goes x (taken x q)))) call refl

  module _ (f : Mark → ℕ) (none_ : IsOfBirth f) where
    abbrev Fewer : List SlotMark → Type 0
    Fewer new = Less f v.marks new

    as_many : Less f v.marks v.marks
    as_many = less_all f v.marks

    -- a step that makes no life notes none
    pub births_note : (call : TableStep) → bears call ≡ none → Less f v.marks (row p call found hand v).marks
    births_note (OnSlot (CreateLife i k)) no_birth = absurd (some-ne-none i no_birth)
    births_note (OnSlot (SubRef i)) no_birth = let w : ℕ = vref_version found in let left : List SlotMark = without_at i (back i found v) v.marks in let fewer = less_without f v.marks i (back i found v) in
        either_way (w % 2 == 1) (cond (vref_nref found == 1) (at i (Zero w) ∷ left) left) left Fewer
        (either_way (vref_nref found == 1) (at i (Zero w) ∷ left) left Fewer (less_add f v.marks i (Zero w) left (none_ (Zero w) refl) fewer) fewer) fewer
    births_note call no_birth = marks_way p v found hand Fewer as_many (λ i m new other fewer. less_add f v.marks i m new (none_ m other) fewer) (λ i g taken. less_without f v.marks i g) call refl

  module _ (h : ℕ) where
    failer_kept : IsKept (is_failer h)
    failer_kept (Failer k) goes_ = absurd (true≢false (sym goes_))
    failer_kept _ goes_ = refl

    -- who failed a life stays noted
    pub failers_stay : (call : TableStep) → More (is_failer h) v.marks (row p call found hand v).marks
    failers_stay call = notes_stay (is_failer h) failer_kept call

    of_birth : IsOfBirth (is_born h)
    of_birth (Born k) other = absurd (true≢false other)
    of_birth _ other = refl

    -- a step that makes no life notes none
    pub births_only : (call : TableStep) → bears call ≡ none → Less (is_born h) v.marks (row p call found hand v).marks
    births_only call no_birth = births_note (is_born h) of_birth call no_birth

    -- and a birth notes one life
    pub birth_notes : (i k : ℕ) (j : ℕ) → ((j ≡ i) × (h ≡ vref_version found)) ⊎ (marks_of (is_born h) j (row p (OnSlot (CreateLife i k)) found hand v) ≤ marks_of (is_born h) j v)
    birth_notes i k j = let g : ℕ = vref_version found in let left : List SlotMark = without_at i (is_stage 3 k) v.marks in
        dite (ℕ_discrete h g) (λ same. dite (ℕ_discrete j i) (λ here. inl (here, same))
        (λ far. inr (omega (arith, ap (total (is_born h)) (about-other j i (Known g) (at i (Born g) ∷ at i (Linked g k) ∷ left) far), ap (total (is_born h)) (about-other j i (Born g) (at i (Linked g k) ∷ left) far), ap (total (is_born h)) (about-other j i (Linked g k) left far), less_without (is_born h) v.marks i (is_stage 3 k) j))))
        (λ other. inr (less_add (is_born h) v.marks i (Known g) (at i (Born g) ∷ at i (Linked g k) ∷ left) refl (less_add (is_born h) v.marks i (Born g) (at i (Linked g k) ∷ left) (only-else h g (λ e. other (sym e))) (less_add (is_born h) v.marks i (Linked g k) left refl (less_without (is_born h) v.marks i (is_stage 3 k)))) j))
