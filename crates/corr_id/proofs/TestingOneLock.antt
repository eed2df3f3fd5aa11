-- What the tests rest on: who has nothing, and who has one lock.
use Rattle.std.proofs.Common.{◌≡◌, ◌≢◌, ℕ, ◌<◌, List, [], ◌∷◌, length, get_or, sym, ap, ◌∙◌, subst, zero, suc, arith}
use Rattle.std.specs.Prelude.{Option as Maybe}
use mathlib.Core.Logic.{dite}
use native.Mathlib.Decide.{ℕ_discrete}
use Rattle.atomic_table.specs.Seated.{TableId}
use Rattle.atomic_table.specs.declared.shared.Seat.{Seat}
use Rattle.corr_core.specs.declared.marks.Token.{Token}
use Rattle.corr_core.specs.declared.marks.Noted.{Noted}
use Rattle.corr_core.specs.declared.marks.View.{View}
use Rattle.id_rule.specs.LawfulIdTable.{tokens_in, newcomer}
use Rattle.corr_id.specs.SeatBehindIdCalls.{Became, Did, Quiet}
use Rattle.corr_id.specs.IdTableOpening.{AreNew}
use Rattle.corr_id.specs.IdTableSeat.{Sits, Stays, IsFree}

module _ {C : Type 0} where
  abbrev pub FreeBut : ℕ → View C → Type 0
  FreeBut i v = (j : ℕ) → j ≢ i → tokens_in j v ≡ []

  pub sits_on : (z : TableId) (s t : Seat (Maybe C) (View C)) → Stays s t → t.me.0.share ≡ s.me.0.share → Sits z s → Sits z t
  sits_on z s t k e h = (k.0 ∙ h.0, subst (λ (n : ℕ). 0 < n) (sym e) h.1)

  pub quiet_free : (v w : View C) → Quiet v w → IsFree v → IsFree w
  quiet_free v w q h = λ j. q.tokens j ∙ h j

  pub did_free : (i : ℕ) (v w : View C) (es : List (Noted C)) → Did i v w [] es → FreeBut i v → IsFree w
  did_free i v w es d h = λ j. dite (ℕ_discrete j i) (λ e. ap (λ y. tokens_in y w) e ∙ d.tokens) (λ n. d.others j n ∙ h j n)

  pub became_free : (i : ℕ) (v w : View C) (es : List (Noted C)) → Became i v w [] es → FreeBut i v → IsFree w
  became_free i v w es d h = λ j. dite (ℕ_discrete j i) (λ e. ap (λ y. tokens_in y w) e ∙ d.tokens) (λ n. d.others j n ∙ h j n)

  pub did_but : (i k : ℕ) (v w : View C) (ts : List (Token C)) (es : List (Noted C)) → k ≡ i → Did i v w ts es → FreeBut i v → FreeBut k w
  did_but i k v w ts es e d h = λ j n. let n' = (λ (q : j ≡ i). n (q ∙ sym e)) in d.others j n' ∙ h j n'

  pub quiet_but : (i : ℕ) (v w : View C) → Quiet v w → FreeBut i v → FreeBut i w
  quiet_but i v w q h = λ j n. q.tokens j ∙ h j n

  pub new_sits : (z : TableId) (s : Seat (Maybe C) (View C)) → (s.table_id ≡ z) × (s.me ≡ (newcomer, [])) → Sits z s × IsFree s.me.0
  new_sits z s h = ((h.0, subst (λ (n : ℕ). 0 < n) (sym (ap (λ m. m.0.share) h.1)) (omega arith)), (λ j. ap (λ m. tokens_in j m.0) h.1))

  pub new_at : (z : TableId) (ss : List (Seat (Maybe C) (View C))) (i : ℕ) (x : Seat (Maybe C) (View C)) → AreNew z ss → i < length ss → x ≡ get_or ss i x → Sits z x × IsFree x.me.0
  new_at z [] i x h lt e = absurd (omega arith)
  new_at z (s ∷ ss) zero x h lt e = new_sits z x (subst (λ y. (y.table_id ≡ z) × (y.me ≡ (newcomer, []))) (sym e) h.0)
  new_at z (s ∷ ss) (suc i) x h lt e = new_at z ss i x h.1 (omega arith) e
