-- Which notes of links a step makes: each stays, and a life's link is noted by its birth alone.
use Rattle.std.proofs.Common.{◌≡◌, ℕ, ◌≤◌, ◌⊎◌, inl, inr, List, ◌∷◌, refl, sym, ap, arith}
use Rattle.std.proofs.lemmas.Bool.{true≢false}
use mathlib.Core.Logic.{dite}
use mathlib.Core.Option.{none}
use native.Mathlib.Decide.{ℕ_discrete}
use Rattle.sock_words.specs.declared.plain.Plan.{Plan}
use Rattle.sock_model.specs.declared.marks.Mark.TheVariants.{Known, Born, Linked}
use Rattle.sock_model.specs.declared.marks.SlotMark.{SlotMark}
use Rattle.sock_model.specs.declared.view.View.{View}
use Rattle.sock_model.specs.declared.view.Hand.{Hand}
use Rattle.sock_model.specs.MarkWeights.{pair, is_linked, is_stage}
use Rattle.sock_model.specs.Marks.{at, without_at}
use Rattle.sock_model.specs.SlotRows.{marks_of}
use Rattle.sock_steps.specs.slot_steps.proofs.SlotWeightSums.{about-other}
use Rattle.sock_steps.specs.slot_steps.proofs.RuleNumbers.{pair_is}
use Rattle.sock_steps.proofs.SumsAsMarksChange.{Less, More, less_add, less_without}
use Rattle.seat_programs.specs.TableSteps.{TableStep, OnSlot, CreateLife}
use Rattle.seat_programs.specs.StepTables.{row}
use Rattle.sock_runs.proofs.NotesOfSteps.{bears, IsKept, IsOfBirth, notes_stay, births_note}
use Rattle.sock_words.specs.PackedWords.{vref_version}
use Rattle.sock_words.specs.Totals.{total}

-- of two other numbers
no_pair : (a b x y : ℕ) → ((x ≡ a) × (y ≡ b) → ⊥) → pair a b x y ≡ 0
no_pair a b x y other = dite (ℕ_discrete (pair a b x y) 0) (λ z. z) (λ some_. absurd (other (pair_is a b x y (omega (arith, some_)))))

module _ (p : Plan) (v : View) (found : ℕ) (hand : Hand) where
  module _ (h l : ℕ) where
    link_kept : IsKept (is_linked h l)
    link_kept (Linked g k) goes = absurd (true≢false (sym goes))
    link_kept _ goes = refl

    -- which link a life was given stays noted
    pub links_stay : (call : TableStep) → More (is_linked h l) v.marks (row p call found hand v).marks
    links_stay call = notes_stay p v found hand (is_linked h l) link_kept call

    of_birth : IsOfBirth (is_linked h l)
    of_birth (Linked g k) other = absurd (true≢false other)
    of_birth _ other = refl

    -- a step that makes no life notes none
    pub links_only : (call : TableStep) → bears call ≡ none → Less (is_linked h l) v.marks (row p call found hand v).marks
    links_only call no_birth = births_note p v found hand (is_linked h l) of_birth call no_birth

    -- and a birth notes one
    pub birth_links : (i k : ℕ) (j : ℕ) → ((j ≡ i) × (h ≡ vref_version found) × (l ≡ k)) ⊎ (marks_of (is_linked h l) j (row p (OnSlot (CreateLife i k)) found hand v) ≤ marks_of (is_linked h l) j v)
    birth_links i k j = let g : ℕ = vref_version found in let left : List SlotMark = without_at i (is_stage 3 k) v.marks in
        let far : is_linked h l (Linked g k) ≡ 0 → marks_of (is_linked h l) j (row p (OnSlot (CreateLife i k)) found hand v) ≤ marks_of (is_linked h l) j v =
        λ none_. less_add (is_linked h l) v.marks i (Known g) (at i (Born g) ∷ at i (Linked g k) ∷ left) refl (less_add (is_linked h l) v.marks i (Born g) (at i (Linked g k) ∷ left) refl (less_add (is_linked h l) v.marks i (Linked g k) left none_ (less_without (is_linked h l) v.marks i (is_stage 3 k)))) j in
        dite (ℕ_discrete h g)
        (λ same. dite (ℕ_discrete l k)
        (λ is. dite (ℕ_discrete j i) (λ here. inl (here, same, is))
        (λ other. inr (omega (arith, ap (total (is_linked h l)) (about-other j i (Known g) (at i (Born g) ∷ at i (Linked g k) ∷ left) other), ap (total (is_linked h l)) (about-other j i (Born g) (at i (Linked g k) ∷ left) other), ap (total (is_linked h l)) (about-other j i (Linked g k) left other), less_without (is_linked h l) v.marks i (is_stage 3 k) j))))
        (λ no_. inr (far (no_pair h l g k (λ e. no_ (sym e.1))))))
        (λ no_. inr (far (no_pair h l g k (λ e. no_ (sym e.0)))))
