-- Each call of a script that was answered has that from a whole response of one of its own versions, which a link gave.
use Rattle.std.proofs.Common.{◌≡◌, ◌+◌, ℕ, List, length, Option, Some, refl, sym, ap, subst}
use Rattle.std.specs.Prelude.{ℤ}
use Rattle.sock_words.specs.declared.outcome.Outcome.{Outcome}
use Rattle.sock_words.specs.declared.outcome.Outcome.TheVariants.{Answered, Peer}
use Rattle.sock_words.specs.declared.plain.Plan.{Plan}
use Rattle.brpc_model.specs.Items.{Item, Call, CallLine}
use Rattle.brpc_model.specs.ReturnedLink.{LinkEnd}
use Rattle.brpc_model.specs.Operations.{operations}
use Rattle.brpc_model.specs.LinePlaceFaults.{names}
use Rattle.sock_message.specs.Asked.{Asked}
use Rattle.seat_programs.specs.declared.task.Op.{Op}
use Rattle.seat_programs.specs.declared.task.Op.TheVariants as ops
use Rattle.seat_programs.specs.ScriptSetupToEnding.{all_tasks}
use Rattle.seat_programs.specs.Tasks.{Numbered, numbered, op_of}
use Rattle.seat_programs.specs.Explained.{IsTask, Became}
use Rattle.seat_programs.specs.ExplainedCalls.{Fixed, Order, WhyCall}
use Rattle.expire_told.specs.call_places.specs.script_facts.proofs.TaskLemmas.{numbers_at, IsTaskOf, task_is}
use Rattle.expire_told.specs.call_told.specs.TellersOfCallEnds.{HasAnswer, AreAnsweredBy}
use Rattle.call_whys.proofs.AnswersByWholeResponses.{why_answered, why_peer}

-- ## The line of a call

range_in : Option Op → ℕ
range_in (Some (ops.Call asked)) = asked.range
range_in other = 0

-- it may be tried as often as its line tells
pub record IsLine (item : Item) (asked : Asked) : Type 0 where
  pub call : CallLine
  pub is : item ≡ Call call
  pub versions : asked.range ≡ call.retry + 2

line_by : (all : List Numbered) (ns : List (List ℕ)) (n : Numbered) (asked : Asked) (item : Item) → op_of all ns n item ≡ Some (ops.Call asked) → IsLine item asked
unfolding range_in
line_by all ns n asked (Call call) e = record { call = call; is = refl; versions = sym (ap range_in e) }
line_by all ns n asked other e = absurd (cc)

module _ (script : List Item) (outcomes : List (Option Outcome)) where
  line_of : (c o : ℕ) (asked : Asked) (t : IsTaskOf script c record { number = o; op = ops.Call asked }) → IsLine t.operation.item asked
  line_of c o asked t = line_by (numbered script) (names script) (numbers_at script o t.operation) asked t.operation.item t.asks

  module _ (p : Plan) (fixed : Fixed) (orders : ℕ → Order) (last : ℕ → ℕ) (ends : List LinkEnd) (as_many : p.links ≡ length ends) (a : AreAnsweredBy (operations script) outcomes ends) (c o : ℕ) (asked : Asked) (is : IsTask (all_tasks script) outcomes c record { number = o; op = ops.Call asked }) where
    -- the outcome is an answer to a call with so many versions
    pub record HasLine (by : Outcome) : Type 0 where
      pub call : CallLine
      pub versions : asked.range ≡ call.retry + 2
      pub answer : HasAnswer p.links a.gave (Call call) by

    has_line : (by : Outcome) → Became (all_tasks script) outcomes o by → HasLine by
    has_line by became =
        let t = task_is script outcomes c record { number = o; op = ops.Call asked } is in
        let l = line_of c o asked t in
        let h = a.each o by became t.operation t.there in
        record { call = l.call; versions = l.versions; answer = subst (λ n. HasAnswer n a.gave (Call l.call) by) (sym as_many) (subst (λ (item : Item). HasAnswer (length ends) a.gave item by) l.is h) }

    pub call_answered : (id : ℕ) (payload attachment : List ℕ) → Became (all_tasks script) outcomes o (Answered id payload attachment) → WhyCall p (all_tasks script) outcomes fixed a.gave orders last c o asked (Answered id payload attachment)
    call_answered id payload attachment became = let l = has_line (Answered id payload attachment) became in why_answered p (all_tasks script) outcomes fixed a.gave orders asked l.call l.versions last c o id payload attachment l.answer

    pub call_peer : (id : ℕ) (code : ℤ) → Became (all_tasks script) outcomes o (Peer id code) → WhyCall p (all_tasks script) outcomes fixed a.gave orders last c o asked (Peer id code)
    call_peer id code became = let l = has_line (Peer id code) became in why_peer p (all_tasks script) outcomes fixed a.gave orders asked l.call l.versions last c o id code l.answer
