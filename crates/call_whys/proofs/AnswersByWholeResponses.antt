-- A call whose outcome is an answer has it by a whole response of one of its own versions, which a link gave.
use Rattle.std.proofs.Common.{◌≡◌, ◌+◌, ℕ, List, Option, ap, sym, subst, arith}
use Rattle.std.specs.Prelude.{ℤ, pos, ◌≢◌}
use Rattle.sock_words.specs.declared.outcome.Outcome.{Outcome}
use Rattle.sock_words.specs.declared.outcome.Outcome.TheVariants.{Answered, Peer}
use Rattle.sock_words.specs.declared.plain.Plan.{Plan}
use Rattle.brpc_model.specs.Frame.{Frame}
use Rattle.brpc_model.specs.Items.{Item, Call, CallLine}
use Rattle.sock_message.specs.Asked.{Asked}
use Rattle.seat_programs.specs.declared.task.Task.{Task}
use Rattle.seat_programs.specs.ExplainedCalls.{Fixed, Order, IsAnsweredBy, WhyCall}
use Rattle.expire_told.specs.call_told.specs.TellersOfCallEnds.{IsAnswer, HasAnswer}
use Rattle.brpc_model.specs.Why.{HasCode}

-- the line of a call
line_of : Item → CallLine → CallLine
line_of (Call call) other = call
line_of item other = other

same_line : (a b : CallLine) → Call a ≡ Call b → a ≡ b
unfolding line_of
same_line a b e = ap (λ (item : Item). line_of item a) e

module _ (p : Plan) (clients : List (List Task)) (outcomes : List (Option Outcome)) (fixed : Fixed) (gave : ℕ → List ℕ) (orders : ℕ → Order) (asked : Asked) (call : CallLine) (versions : asked.range ≡ call.retry + 2) where
  abbrev IsAnsweredHere : ℕ → (Frame → Type 0) → Type 0
  IsAnsweredHere id P = IsAnsweredBy p clients outcomes fixed gave orders asked id P

  -- a response to the call's line is one to what was asked, which has as many versions
  answered_by : (id : ℕ) (code : ℤ) (f : Frame) → IsAnswer p.links gave call id code f → (P : Frame → Type 0) → P f → IsAnsweredHere id P
  answered_by id code f a P holds =
      let r = a.response in
      let last = r.2 in
      (a.given.link, a.given.place, f, a.given.whole, (r.0, r.1, omega arith), holds)

  pub answered : (id : ℕ) (payload attachment : List ℕ) → HasAnswer p.links gave (Call call) (Answered id payload attachment) → IsAnsweredHere id (λ (f : Frame). HasCode (pos 0) f × (f.payload ≡ payload) × (f.attachment ≡ attachment))
  answered id payload attachment h =
      let f = h.2 in
      let a : IsAnswer p.links gave call id (pos 0) f = subst (λ (c : CallLine). IsAnswer p.links gave c id (pos 0) f) (sym (same_line call h.0 h.1)) h.3 in
      answered_by id (pos 0) f a (λ (f : Frame). HasCode (pos 0) f × (f.payload ≡ payload) × (f.attachment ≡ attachment)) (a.coded, h.4, h.5)

  pub peer : (id : ℕ) (code : ℤ) → HasAnswer p.links gave (Call call) (Peer id code) → IsAnsweredHere id (λ (f : Frame). HasCode code f) × (code ≢ pos 0)
  peer id code h =
      let f = h.2 in
      let a : IsAnswer p.links gave call id code f = subst (λ (c : CallLine). IsAnswer p.links gave c id code f) (sym (same_line call h.0 h.1)) h.3 in
      (answered_by id code f a (λ (f : Frame). HasCode code f) a.coded, h.4)

  -- so that is why it was answered, whatever its last attempt was
  module _ (last : ℕ → ℕ) (c o : ℕ) where
    pub why_answered : (id : ℕ) (payload attachment : List ℕ) → HasAnswer p.links gave (Call call) (Answered id payload attachment) → WhyCall p clients outcomes fixed gave orders last c o asked (Answered id payload attachment)
    why_answered id payload attachment h = answered id payload attachment h

    pub why_peer : (id : ℕ) (code : ℤ) → HasAnswer p.links gave (Call call) (Peer id code) → WhyCall p clients outcomes fixed gave orders last c o asked (Peer id code)
    why_peer id code h = peer id code h
