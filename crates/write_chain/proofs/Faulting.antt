-- Notes of faults: where they stand, and what a seat notes that takes a link in hand.
use Rattle.std.proofs.Common.{◌≡◌, ℕ, zero, suc, ◌<◌, ◌≤◌, eq-eqb, ne_eqb, List, [], ◌∷◌, refl, sym, ap, ◌∙◌, subst, arith}
use mathlib.Core.Logic.{dite}
use native.Mathlib.Decide.{ℕ_discrete}
use Rattle.sock_io.specs.FaultCauses.{Rose}
use Rattle.sock_io.specs.LinkHalves.{OutState}
use Rattle.sock_words.specs.PackedWords.{socket_id_slot}
use Rattle.sock_model.specs.declared.chain.Right.{Right}
use Rattle.sock_model.specs.declared.marks.Mark.{Mark}
use Rattle.sock_model.specs.declared.marks.SlotMark.{SlotMark}
use Rattle.sock_model.specs.declared.view.View.{View}
use Rattle.sock_model.specs.Marks.{about}
use Rattle.sock_rule.specs.MarksComeAndGo.{Became}
use Rattle.sock_rule.specs.LinkFaultNotes.{fault, is_fault, faults_link, faults_of, noting_fault, fault_found}
use Rattle.sock_rule.proofs.MarksComeAndGo.{stays, adds_mark}
use Rattle.sock_table.specs.ReferenceAnswers.{CodeOf}
use Rattle.write_chain.specs.NotingWhileWriting.{faulted, Noted, nothing, finding}
use Rattle.sock_words.specs.Totals.{total}

-- a note of a fault is one of some slot
fault_slot : (k : ℕ) (es : List SlotMark) → 0 < total (faults_link k) es → (j : ℕ) × (0 < total (is_fault k) (about j es))
fault_slot k [] some_ = absurd (omega arith)
fault_slot k (e ∷ es) some_ = dite (ℕ_discrete (faults_link k e) 0)
    (λ none_. let w = fault_slot k es (omega arith) in let there = w.1 in (
      w.0,
      dite (ℕ_discrete e.slot w.0) (λ y. let q = eq-eqb e.slot w.0 y in simp q (omega arith)) (λ n. let q = ne_eqb e.slot w.0 n in simp q there),
    ))
    (λ here. (e.slot, (let q = eq-eqb e.slot e.slot refl in simp q (omega arith))))

pub slot_fault : (k j : ℕ) (es : List SlotMark) → total (is_fault k) (about j es) ≤ total (faults_link k) es
slot_fault k j [] = omega arith
slot_fault k j (e ∷ es) = let ih = slot_fault k j es in dite (ℕ_discrete e.slot j) (λ y. let q = eq-eqb e.slot j y in simp q (omega arith)) (λ n. let q = ne_eqb e.slot j n in simp q (omega arith))

-- where none came, one that is there was there
pub became_faults : (k i : ℕ) (v w : View) (adds drops : List Mark) → Became i v w adds drops → total (is_fault k) adds ≡ 0 → 0 < faults_of k w → 0 < faults_of k v
became_faults k i v w adds drops b none_ some_ = let f = fault_slot k w.marks some_ in let le = slot_fault k f.0 v.marks in let there = f.1 in
    dite (ℕ_discrete f.0 i)
    (λ e. let at : 0 < total (is_fault k) (about i w.marks) = subst (λ (j : ℕ). 0 < total (is_fault k) (about j w.marks)) e there in let x = b.here (is_fault k) in omega (arith, slot_fault k i v.marks))
    (λ ne. let x = ap (total (is_fault k)) (b.elsewhere f.0 ne) in omega arith)

-- the code was read
pub code_faults : (k c id : ℕ) (v w : View) → CodeOf c id v w → 0 < faults_of k w → 0 < faults_of k v
code_faults k c id v w code some_ = dite (ℕ_discrete c 0) (λ e. subst (λ (y : View). 0 < faults_of k y) (code.none_yet e) some_) (λ ne. became_faults k (socket_id_slot id) v w _ _ (code.told ne) refl some_)

-- ## A link comes into hand

-- what is noted where its half has n faults
pub found_marks : ℕ → ℕ → List Mark
found_marks zero k = []
found_marks (suc n) k = fault k ∷ []

pub found_noted : {O : Type 0} {state : O → OutState} {L : ℕ → Type 0} {h : ℕ} (n k : ℕ) → Noted state L h (found_marks n k)
unfolding found_marks
found_noted zero k = nothing
found_noted (suc n) k = finding (fault k) [] (faulted k) nothing

pub found_became : (n i k : ℕ) (v : View) → Became i v (fault_found n i k v) (found_marks n k) []
unfolding found_marks
found_became zero i k v = stays i v
found_became (suc n) i k v = adds_mark i (fault k) v

pub found_rights : (n i k : ℕ) (v : View) (rs : List Right) → record (fault_found n i k (record v { rights = rs })) { rights = v.rights } ≡ fault_found n i k v
found_rights zero i k v rs = refl
found_rights (suc n) i k v rs = refl

-- ## A fault comes

-- the seat noted it in this slot
pub fault_noted : (slot i k l : ℕ) (v w : View) → slot ≡ i → l ≡ k → w ≡ noting_fault slot l v → Became i v w (fault k ∷ []) []
fault_noted slot i k l v w at same is = subst (λ (y : View). Became i v y (fault k ∷ []) []) (sym (is ∙ (λ q. noting_fault (at q) (same q) v))) (adds_mark i (fault k) v)

-- a count that rose isn't 0
pub rose_some : (before now : ℕ) → Rose before now → 0 < now
rose_some before now rose = grind arith
