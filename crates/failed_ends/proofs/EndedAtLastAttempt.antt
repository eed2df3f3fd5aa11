-- The attempt at which the id of a call ended is the last one of the call.
use Rattle.std.proofs.Common.{◌≡◌, ℕ, ◌<◌, ◌≤◌, inl, inr, List, sym, ap, ◌∙◌, arith}
use mathlib.Core.Logic.{dite}
use mathlib.Core.Option.{some, some-injective}
use native.Mathlib.Decide.{ℕ_discrete, dec_lt}
use lib.ListN.{get_elem?}
use Rattle.corr_core.specs.IdSlotLaw.{is_attempt, is_ended_at}
use Rattle.corr_core.specs.declared.marks.Kept.{Kept}
use Rattle.corr_core.specs.declared.marks.Note.TheVariants.{Made}
use Rattle.corr_core.specs.declared.marks.Noted.{Noted}
use Rattle.corr_core.specs.declared.marks.Plan.{Plan}
use Rattle.corr_core.proofs.NoteSums.{only-at, total_some}
use Rattle.corr_id.specs.id_rule.specs.LawfulIdTable.{notes_of}
use Rattle.corr_id.specs.ClosingIdLists.{Closing}
use Rattle.sock_message.specs.Asked.{Asked}
use Rattle.failed_reasons.specs.call_whys.specs.call_places.specs.ClientNotesCounted.{makes}
use Rattle.failed_reasons.specs.call_whys.specs.call_places.proofs.IdsOfRetries.{IsIdOf}
use Rattle.failed_reasons.specs.call_whys.specs.call_places.proofs.NoteWeights.{two_terms, noted_at}
use Rattle.failed_reasons.specs.call_whys.specs.call_told.specs.Least.{is_made_for}
use Rattle.failed_reasons.specs.attempts_told.specs.CountedAttempts.{last_attempt}
use Rattle.failed_reasons.specs.attempts_told.proofs.Last.{one_reached}
use Rattle.failed_ends.proofs.Single.{made_note}
use Rattle.sock_words.specs.Totals.{total}

same_first : (f g r s : ℕ) (a b : Asked) → Made f r a ≡ Made g s b → f ≡ g
same_first f g r s a b e = cc

-- an id that was made for an operation is the one that is known, where one was made for it at most
pub one_made : (slots : ℕ) (notes : List (Noted Asked)) (o id : ℕ) (its : IsIdOf slots notes o id) → total (makes o) notes ≤ 1 → (slot first : ℕ) → 0 < total (is_made_for first o) (notes_of slot notes) → (slot ≡ its.slot) × (first ≡ its.first)
one_made slots notes o id its once slot first some_ =
    let n = total_some (is_made_for first o) (notes_of slot notes) some_ in let m = made_note first o n.1 n.3 in
    let x = noted_at slot notes n.0 (Made first m.0 m.1) (n.2 ∙ ap some m.2) in
    let y = noted_at its.slot notes its.place (Made its.first its.range its.asked) its.made in
    dite (ℕ_discrete x.0 y.0)
    (λ e. (let same = some-injective _ _ (sym x.1 ∙ (ap (get_elem? notes) e ∙ y.1)) in
    (ap (λ (z : Noted Asked). z.slot) same, same_first first its.first m.0 its.range m.1 its.asked (ap (λ (z : Noted Asked). z.note) same))))
    (λ ne. absurd (let two = two_terms (makes o) notes x.0 y.0 _ _ x.1 y.1 ne in let c = only-at o m.1.operation m.3 in let d = only-at o its.asked.operation its.operation in omega (arith, two, c, d, once)))

module _ (q : Plan) (notes : List (Noted Asked)) (kept : List Kept) (words : List ℕ) (closed : Closing q notes kept words) where
  -- it advanced to none behind
  pub ended_last : (o id n : ℕ) (its : IsIdOf q.slots notes o id) → total (makes o) notes ≤ 1 → 0 < total (is_ended_at its.first n) (notes_of its.slot notes) → last_attempt notes o ≤ n
  ended_last o id n its once over = dite (dec_lt n (last_attempt notes o))
      (λ less. elim (one_reached o notes notes) [
        | inl none_ ↦ absurd (omega (arith, less, none_))
        | inr r ↦ absurd (let last = last_attempt notes o in
            let same = one_made q.slots notes o id its once r.slot r.first r.made in
            let none_ = closed.ended_at its.slot its.first n last its.inside over less in
            let here : total (is_attempt r.first last) (notes_of r.slot notes) ≡ total (is_attempt its.first last) (notes_of its.slot notes) = λ i. total (is_attempt (same.1 i) last) (notes_of (same.0 i) notes) in
            let some_ = r.noted in omega (arith, none_, here, some_))
      ])
      (λ ge. omega (arith, ge))
