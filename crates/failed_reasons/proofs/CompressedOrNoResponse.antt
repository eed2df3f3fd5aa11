-- A call that whoever read the links ended with a code: by a response that is compressed, or with a code of a link that gave none.
use Rattle.std.proofs.Common.{◌≡◌, ℕ, ◌<◌, ◌⊎◌, inl, inr, zero, suc, true, false, List, Some, None, pos, negsuc, refl, sym, ap, ◌∙◌, subst, arith}
use Rattle.std.specs.Prelude.{◌≢◌, ℤ, Option, IsSome}
use mathlib.Core.Option.{some}
use lib.ListN.{get_elem?}
use Rattle.sock_words.specs.ErrorCodes.{ERESPONSE}
use Rattle.sock_words.specs.declared.outcome.Outcome.{Outcome}
use Rattle.sock_words.specs.declared.outcome.Outcome.TheVariants.{CallFailed}
use Rattle.sock_words.specs.declared.plain.Plan.{Plan}
use Rattle.sock_message.specs.brpc_model.specs.Frame.{Frame}
use Rattle.sock_message.specs.brpc_model.specs.Meta.{ResponseMeta}
use Rattle.sock_message.specs.brpc_model.specs.ResponseOutcome.{by_code as outcome_of_code, outcome_by, ending_of}
use Rattle.seat_programs.specs.declared.task.Op.TheVariants as ops
use Rattle.seat_programs.specs.declared.task.Task.{Task}
use Rattle.seat_programs.specs.Explained.{IsTask}
use Rattle.seat_programs.specs.ExplainedCalls.{Fixed, Order, IsAnsweredBy, FailedBy, ByCompression}
use Rattle.corr_core.specs.IdSlotWord.{Parts, parts}
use Rattle.corr_core.specs.declared.marks.Kept.{Kept}
use Rattle.corr_core.specs.declared.marks.Note.TheVariants.{Made, Locker}
use Rattle.corr_core.specs.declared.marks.Plan as id_plan
use Rattle.corr_core.specs.declared.marks.View.{View}
use Rattle.corr_id.specs.id_rule.specs.LawfulIdTable.{notes_of}
use Rattle.corr_id.specs.ClosingIdLists.{Closing}
use Rattle.corr_id.proofs.LockRangeLengths.{lock_range}
use Rattle.sock_message.specs.Asked.{Asked}
use Rattle.attempts_told.specs.Below.RpcClient.Told.{Told}
use Rattle.attempts_told.specs.Below.RpcReader.ReaderBooks.{id_of}
use Rattle.attempts_told.specs.call_whys.specs.call_told.specs.TellersOfCallEnds.{IsGivenResponse, IsLossCode, EndedBy, by_code, by_response, ToldFrom}
use Rattle.attempts_told.specs.call_whys.specs.call_told.proofs.ToldAnswers.{noted_place}

-- ## By a response

-- an outcome with a code is none of a response that can be read
pub is_no_answer : (id ended code : ℕ) (f : Frame) (z : ℤ) → outcome_of_code id f z ≡ CallFailed ended code → ⊥
is_no_answer id ended code f (pos zero) e = cc
is_no_answer id ended code f (pos (suc n)) e = cc
is_no_answer id ended code f (negsuc n) e = cc

-- so the response is compressed
pub record IsUnread (id ended code : ℕ) (f : Frame) : Type 0 where
  pub compressed : f.meta.compress_type ≢ pos 0
  pub code_is : code ≡ ERESPONSE
  pub id_is : id ≡ ended

pub unread : (id ended code : ℕ) (f : Frame) → IsSome f.meta.response → ending_of id f ≡ CallFailed ended code → IsUnread id ended code f
unread id ended code f responds e = by f.meta.compress_type f.meta.response refl responds e
  where
    code_of : CallFailed id ERESPONSE ≡ CallFailed ended code → code ≡ ERESPONSE
    code_of h = let a : ERESPONSE ≡ code = cc in sym a

    id_is : CallFailed id ERESPONSE ≡ CallFailed ended code → id ≡ ended
    id_is h = cc

    by : (z : ℤ) (o : Option ResponseMeta) → f.meta.compress_type ≡ z → IsSome o → outcome_by id f z o ≡ CallFailed ended code → IsUnread id ended code f
    by (pos zero) (Some r) is some_ h = absurd (is_no_answer id ended code f r.code h)
    by (pos zero) None is some_ h = let k : false ≡ true = some_ in absurd (cc)
    by (pos (suc n)) o is some_ h = record { compressed = λ zero_. (let k : pos (suc n) ≡ pos 0 = sym is ∙ zero_ in cc); code_is = code_of h; id_is = id_is h }
    by (negsuc n) o is some_ h = record { compressed = λ zero_. (let k : negsuc n ≡ pos 0 = sym is ∙ zero_ in cc); code_is = code_of h; id_is = id_is h }

-- ## What was told behind the reading

module _ (p : Plan) (q : id_plan.Plan) (clients : List (List Task)) (outcomes : List (Option Outcome)) (fixed : Fixed) (gave : ℕ → List ℕ) (orders : ℕ → Order) (v : View Asked) (kept : List Kept) (words : List ℕ) (closing : Closing q v.notes kept words)
    -- the call that was made with these versions is a task that asks for as many
    (asks : (i j f r : ℕ) (asked : Asked) → i < q.slots → get_elem? (notes_of i v.notes) j ≡ some (Made f r asked) → (d : ℕ) × IsTask clients outcomes d record { number = asked.operation; op = ops.Call asked } × (r ≡ asked.range))
    (x : Told) (t : ToldFrom q.slots p.links gave v x) where
  -- what the task of its call asks for
  pub record IsCallOf : Type 0 where
    pub client : ℕ
    pub asked : Asked
    pub task : IsTask clients outcomes client record { number = x.number; op = ops.Call asked }
    pub versions : t.word.range ≡ asked.range

  pub call_of : IsCallOf
  call_of =
      let h = t.lock in let o : Parts = parts h.word in
      let first : t.word.first ≡ o.first = ap (λ (y : Parts). y.first) h.word_is in
      let range : t.word.range ≡ o.range = ap (λ (y : Parts). y.range) h.word_is in
      let at = noted_place t.slot (Locker t.word.first t.call) v.notes h.locked.0 h.locked.1 in
      let locked : get_elem? (notes_of t.slot v.notes) at.0 ≡ some (Locker o.first t.call) = at.1 ∙ ap (λ (f : ℕ). some (Locker f t.call)) first in
      let was = h.was_open in
      let m = lock_range q v.notes kept words closing t.slot h.word at.0 t.call t.inside h.found (omega (arith, was)) locked in
      let w = asks t.slot m.0 o.first o.range t.call t.inside m.1 in
      record { client = w.0; asked = t.call; task = subst (λ (n : ℕ). IsTask clients outcomes w.0 record { number = n; op = ops.Call t.call }) (sym t.number) w.1; versions = range ∙ w.2 }

  -- a compressed response to it, which a link gave, is why it failed, whatever its last attempt was
  by_compression : (id code : ℕ) (f : Frame) → IsGivenResponse p.links gave t.slot t.word f → IsUnread (id_of t.slot t.word) id code f → (n : ℕ) → FailedBy p clients outcomes fixed gave orders call_of.client x.number call_of.asked id code n
  by_compression id code f given is n =
      let c = call_of in let low = given.below in let r = c.versions in
      let answered : IsAnsweredBy p clients outcomes fixed gave orders c.asked (id_of t.slot t.word) (λ (frame : Frame). frame.meta.compress_type ≢ pos 0) =
      (given.given.link, given.given.place, f, given.given.whole, (given.given.responds, given.behind, omega (arith, low, r)), is.compressed) in
      ByCompression is.code_is (subst (λ (i : ℕ). IsAnsweredBy p clients outcomes fixed gave orders c.asked i (λ (frame : Frame). frame.meta.compress_type ≢ pos 0)) is.id_is answered)

  -- else its code is one of a link that gave no response
  pub failed_behind : (id code : ℕ) → x.outcome ≡ CallFailed id code → ((n : ℕ) → FailedBy p clients outcomes fixed gave orders call_of.client x.number call_of.asked id code n) ⊎ IsLossCode code
  failed_behind id code is = by t.by
    where
      same_code : (i k : ℕ) → CallFailed i k ≡ CallFailed id code → k ≡ code
      same_code i k e = cc

      by : EndedBy p.links gave t.slot t.word x.outcome → ((n : ℕ) → FailedBy p clients outcomes fixed gave orders call_of.client x.number call_of.asked id code n) ⊎ IsLossCode code
      by (by_code k loss e) = inr (subst IsLossCode (same_code (id_of t.slot t.word) k (sym e ∙ is)) loss)
      by (by_response f given e) = inl (by_compression id code f given (unread (id_of t.slot t.word) id code f given.given.responds (sym e ∙ is)))
