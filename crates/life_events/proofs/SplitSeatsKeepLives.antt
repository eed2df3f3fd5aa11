-- Splitting a seat and joining two change nothing of lives and of who holds them.
use Rattle.std.proofs.Common.{◌≡◌, ℕ, zero, suc, ◌+◌, ◌<◌, List, [], ◌∷◌, ◌++◌, map, set, get_or, refl, sym, ap, ◌∙◌, arith}
use Rattle.std.proofs.lemmas.List.{map-append}
use mathlib.Core.Logic.{dite}
use mathlib.Core.Option.{some}
use native.Mathlib.Decide.{ℕ_discrete}
use lib.ListN.{get_elem?}
use Rattle.sock_model.specs.declared.marks.Mark.{Mark}
use Rattle.sock_model.specs.declared.view.View.{View}
use Rattle.sock_model.specs.MarkWeights.{is_ref, is_hold, is_born, is_failer, is_freer}
use Rattle.sock_model.specs.Marks.{about}
use Rattle.sock_model.specs.SlotRows.{marks_of}
use Rattle.sock_model.specs.ViewsOfSplitSeats.{spent, joined}
use Rattle.sock_model.specs.PlainReferences.{Life, Plain, plain}
use Rattle.slot_steps.proofs.SlotWeightSums.{total-append, total-set, total_mono}
use Rattle.slot_steps.proofs.ReferenceStepsKeepSlot.{hold_ref}
use Rattle.slot_steps.proofs.SplitSeatsKeepSlot.{about-append}
use Rattle.life_events.proofs.ReadingsOfViews.{own_holds, seat_after, other_after}
use Rattle.sock_words.specs.Totals.{total}

-- the same lives, and the same holders of each, in so many slots
pub record SameLives (slots : ℕ) (before after : Plain) : Type 0 where
  pub births : (l : Life) → l.slot < slots → after.births l ≡ before.births l
  pub fails : (l : Life) → l.slot < slots → after.fails l ≡ before.fails l
  pub ends : (l : Life) → l.slot < slots → after.ends l ≡ before.ends l
  pub holds : (seat : ℕ) (l : Life) → l.slot < slots → after.holds seat l ≡ before.holds seat l

no_more : (xs : List ℕ) (i : ℕ) → get_or (xs ++ 0 ∷ []) i 0 ≡ get_or xs i 0
no_more [] zero = refl
no_more [] (suc i) = refl
no_more (x ∷ xs) zero = refl
no_more (x ∷ xs) (suc i) = no_more xs i

-- a seat without marks beside the others
pub one_more_seat : (slots : ℕ) (views : List View) (v : View) → v.marks ≡ [] → SameLives slots (plain views) (plain (views ++ v ∷ []))
one_more_seat slots views v none_ = record {
  births = λ l inside. same (is_born l.version) l.slot;
  fails = λ l inside. same (is_failer l.version) l.slot;
  ends = λ l inside. same (is_freer l.version) l.slot;
  holds = λ seat l inside. let g : View → ℕ = marks_of (is_hold l.version) l.slot in
      ap (λ (xs : List ℕ). get_or xs seat 0) (map-append g views (v ∷ []) ∙ ap (λ (n : ℕ). map g views ++ n ∷ []) (nothing (is_hold l.version) l.slot)) ∙ no_more (map g views) seat;
}
  where
    nothing : (f : Mark → ℕ) (j : ℕ) → marks_of f j v ≡ 0
    nothing f j = ap (λ es. total f (about j es)) none_

    same : (f : Mark → ℕ) (j : ℕ) → total (marks_of f j) (views ++ v ∷ []) ≡ total (marks_of f j) views
    same f j = omega (arith, total-append (marks_of f j) views (v ∷ []), nothing f j)

-- a seat takes in one that has no references
pub joined_seats : (slots : ℕ) (views : List View) (id other : ℕ) (v w : View) → get_elem? views id ≡ some v → ¬ (other ≡ id) → get_elem? (set views id (joined v w)) other ≡ some w → ((i : ℕ) → i < slots → total is_ref (about i w.marks) ≡ 0)
    → SameLives slots (plain views) (plain (set (set views id (joined v w)) other spent))
joined_seats slots views id other v w here ne there idle = record {
  births = λ l inside. same (is_born l.version) l.slot;
  fails = λ l inside. same (is_failer l.version) l.slot;
  ends = λ l inside. same (is_freer l.version) l.slot;
  holds = λ seat l inside. dite (ℕ_discrete seat other)
      (λ e. ap (λ (x : ℕ). (plain after).holds x l) e ∙ (seat_after first other w spent there l ∙ (sym (unheld l inside) ∙ (sym (own_holds first other w there l) ∙ (other_after views id v both here other ne l ∙ ap (λ (x : ℕ). (plain views).holds x l) (sym e))))))
      (λ n. other_after first other w spent there seat n l ∙ dite (ℕ_discrete seat id)
      (λ e. ap (λ (x : ℕ). (plain first).holds x l) e ∙ (seat_after views id v both here l ∙ (kept l inside ∙ (sym (own_holds views id v here l) ∙ ap (λ (x : ℕ). (plain views).holds x l) (sym e)))))
      (λ m. other_after views id v both here seat m l));
}
  where
    both : View
    both = joined v w

    first : List View
    first = set views id (joined v w)

    after : List View
    after = set first other spent

    sum : (f : Mark → ℕ) (j : ℕ) → marks_of f j (joined v w) ≡ marks_of f j v + marks_of f j w
    sum f j = ap (total f) (about-append j v.marks w.marks) ∙ total-append f (about j v.marks) (about j w.marks)

    same : (f : Mark → ℕ) (j : ℕ) → total (marks_of f j) after ≡ total (marks_of f j) views
    same f j = omega (arith, total-set (marks_of f j) views id v both here, total-set (marks_of f j) first other w spent there, sum f j)

    unheld : (l : Life) → l.slot < slots → marks_of (is_hold l.version) l.slot w ≡ 0
    unheld l inside = omega (arith, idle l.slot inside, total_mono (is_hold l.version) is_ref (hold_ref l.version) (about l.slot w.marks))

    kept : (l : Life) → l.slot < slots → marks_of (is_hold l.version) l.slot both ≡ marks_of (is_hold l.version) l.slot v
    kept l inside = omega (arith, sum (is_hold l.version) l.slot, unheld l inside)
