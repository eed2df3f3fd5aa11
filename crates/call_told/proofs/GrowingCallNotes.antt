-- What a seat noted it has noted still, what it keeps in mind it keeps, and the words that it stored itself are counted.
use Rattle.std.proofs.Common.{◌≡◌, ℕ, ◌+◌, ◌≤◌, Bool, cond, List, ap, arith}
use Rattle.std.specs.Prelude.{Option as Maybe}
use Rattle.corr_core.specs.IdSlotLaw.{only}
use Rattle.corr_core.specs.declared.marks.Kept.{Kept}
use Rattle.corr_core.specs.declared.marks.Note.{Note}
use Rattle.corr_core.specs.declared.marks.Noted.{Noted}
use Rattle.corr_core.specs.declared.marks.Token.{Token}
use Rattle.corr_core.specs.declared.marks.View.{View}
use Rattle.id_rule.specs.LawfulIdTable.{notes_of, with_kept}
use Rattle.sock_message.specs.Asked.{Asked}
use Rattle.corr_id.specs.declared.posts.Posted.{Posted}
use Rattle.corr_id.specs.declared.posts.Posted.TheVariants.{Locked as HasLock, Queued as IsQueued}
use Rattle.corr_id.specs.SeatBehindIdCalls.{Became, Did, Quiet}
use Rattle.corr_id.specs.PostAnswers.{PostOk}
use Rattle.corr_id.proofs.TokensOfIdCalls.{became_grows}
use Rattle.sock_words.specs.Totals.{total}

-- 1 where it is a word of this place that the seat stored itself
abbrev pub own_at : ℕ → Kept → ℕ
own_at x k = cond k.own (only x k.place) 0

-- a later view of the same seat, which stored at most n words more at this place
pub record Grows (x n : ℕ) (v w : View Asked) : Type 0 where
  pub notes : (j : ℕ) (g : Note Asked → ℕ) → total g (notes_of j v.notes) ≤ total g (notes_of j w.notes)
  pub kept : (g : Kept → ℕ) → total g v.kept ≤ total g w.kept
  pub own : total (own_at x) w.kept ≤ n + total (own_at x) v.kept

module _ (x : ℕ) where
  pub grows_same : (n : ℕ) (v w : View Asked) → w ≡ v → Grows x n v w
  grows_same n v w e = record {
    notes = λ j g. (let a = ap (λ (y : View Asked). total g (notes_of j y.notes)) e in omega arith);
    kept = λ g. (let a = ap (λ (y : View Asked). total g y.kept) e in omega arith);
    own = (let a = ap (λ (y : View Asked). total (own_at x) y.kept) e in omega arith);
  }

  pub grows_then : (m n k : ℕ) (u v w : View Asked) → m + n ≤ k → Grows x m u v → Grows x n v w → Grows x k u w
  grows_then m n k u v w le a b = record {
    notes = λ j g. (let c = a.notes j g in let d = b.notes j g in omega arith);
    kept = λ g. (let c = a.kept g in let d = b.kept g in omega arith);
    own = (let c = a.own in let d = b.own in omega arith);
  }

  -- nothing is kept in mind more
  pub grows_notes : (v w : View Asked) → ((j : ℕ) (g : Note Asked → ℕ) → total g (notes_of j v.notes) ≤ total g (notes_of j w.notes)) → w.kept ≡ v.kept → Grows x 0 v w
  grows_notes v w notes e = record { notes = notes; kept = λ g. (let a = ap (total g) e in omega arith); own = (let a = ap (total (own_at x)) e in omega arith) }

  pub quiet_grows : (v w : View Asked) → Quiet v w → Grows x 0 v w
  quiet_grows v w q = grows_notes v w q.grows q.kept

  pub did_grows : (i : ℕ) (v w : View Asked) (ts : List (Token Asked)) (es : List (Noted Asked)) → Did i v w ts es → Grows x 0 v w
  did_grows i v w ts es d = grows_notes v w d.grows d.kept

  pub ended_grows : (i : ℕ) (v w : View Asked) (ts : List (Token Asked)) (ns : List (Noted Asked)) → Became i v w ts ns → Grows x 0 v w
  ended_grows i v w ts ns b = grows_notes v w (became_grows i v w ts ns b) b.kept

  pub post_grows : (slots : ℕ) (v w : View Asked) (id code : ℕ) (attempt : Maybe ℕ) (answer : Posted Asked) → PostOk slots v w id code attempt answer → Grows x 0 v w
  post_grows slots v w id code attempt (HasLock k) p = did_grows k.slot v w _ _ p.4.1.did
  post_grows slots v w id code attempt IsQueued p = did_grows _ v w _ _ p.0
  post_grows slots v w id code attempt _ p = quiet_grows v w p.0

  -- one word more is kept in mind
  pub kept_grows : (n : ℕ) (v w : View Asked) (place : ℕ) (own : Bool) (word : ℕ) → w ≡ with_kept place own word v → own_at x (record { place = place; own = own; word = word }) ≤ n → Grows x n v w
  kept_grows n v w place own word e few = record {
    notes = λ j g. (let a = ap (λ (y : View Asked). total g (notes_of j y.notes)) e in omega arith);
    kept = λ g. (let a = ap (λ (y : View Asked). total g y.kept) e in omega arith);
    own = (let a = ap (λ (y : View Asked). total (own_at x) y.kept) e in omega arith);
  }
