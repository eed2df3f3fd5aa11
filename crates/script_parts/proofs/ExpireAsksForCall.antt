-- Each `expire` of a script asks for a call; and what whoever read the links keeps in mind.
use Rattle.std.proofs.Common.{◌≡◌, ℕ, true, false, List, Option, Some, Ok, sym, ap, ◌∙◌, subst}
use Rattle.std.specs.Prelude.{slice_get}
use Rattle.sock_words.specs.declared.outcome.Outcome.{Outcome}
use Rattle.brpc_model.specs.Items.{Item, Call, Expire, is_call}
use Rattle.brpc_model.specs.Operations.{Operation, operations}
use Rattle.brpc_model.specs.LinePlaceFaults.{names}
use Rattle.brpc_model.specs.Script.{script_of}
use Rattle.sock_message.specs.Asked.{Asked}
use Rattle.seat_programs.specs.declared.task.Op.{Op}
use Rattle.seat_programs.specs.declared.task.Op.TheVariants as ops
use Rattle.seat_programs.specs.declared.task.Task.{Task}
use Rattle.seat_programs.specs.ScriptSetupToEnding.{all_tasks}
use Rattle.seat_programs.specs.Tasks.{Numbered, numbered, number_of, op_of, asked_of}
use Rattle.seat_programs.specs.Explained.{IsTask}
use Rattle.callless_fits.specs.sock_deeds.specs.script_facts.proofs.FilteredLists.{Has, some_is}
use Rattle.callless_fits.specs.sock_deeds.specs.script_facts.proofs.OperationNumbering.{are_from}
use Rattle.callless_fits.specs.sock_deeds.specs.script_facts.proofs.Targets.{IsTarget, expired, are_there}
use Rattle.callless_fits.specs.sock_deeds.specs.script_facts.proofs.TaskLemmas.{numbers_at, task_is, expire_asks}
use Rattle.calls_done.specs.call_whys.specs.expire_told.specs.ExpireOutcomesSaid.{AreOfCalls}

-- ## Which operations are calls

pub call_op : (ns : List Numbered) (all : List (List ℕ)) (x : Numbered) (item : Item) (op : Op) → is_call item ≡ true → op_of ns all x item ≡ Some op → (asked : Asked) × (op ≡ ops.Call asked)
call_op ns all x (Call call) op is e = (asked_of all x.number call, sym (some_is (ops.Call (asked_of all x.number call)) op e))
call_op ns all x other op is e = let k : false ≡ true = is in absurd (cc)

-- what an operation of a script asks for is a call, where its item is one of these, and names a call of the script
pub asks_calls : (script : List Item) (outcomes : List (Option Outcome)) (item_of : ℕ → ℕ → Item) (op_for : ℕ → Op)
    → ((all : List Numbered) (ns : List (List ℕ)) (x : Numbered) (item : Item) (n : ℕ) → op_of all ns x item ≡ Some (op_for n) → (c i : ℕ) × (item ≡ item_of c i) × (n ≡ number_of all c i))
    → ((c k : ℕ) → Has script (item_of c k) → IsTarget script c k (number_of (numbered script) c k))
    → (c d : ℕ) (t u : Task) → IsTask (all_tasks script) outcomes c t → t.op ≡ op_for u.number → IsTask (all_tasks script) outcomes d u → (asked : Asked) × (u.op ≡ ops.Call asked)
asks_calls script outcomes item_of op_for asks named c d t u is op also =
    let v = task_is script outcomes c t is in let w = task_is script outcomes d u also in
    let m = asks (numbered script) (names script) (numbers_at script t.number v.operation) v.operation.item u.number (v.asks ∙ ap Some op) in
    let target = named m.0 m.1 (subst (Has script) m.2 (are_from 0 1 script t.number v.operation v.there).there) in
    let same : w.operation ≡ target.call = some_is w.operation target.call (sym w.there ∙ (ap (slice_get (operations script)) m.3 ∙ target.there)) in
    call_op (numbered script) (names script) (numbers_at script u.number w.operation) w.operation.item u.op (ap (λ (o : Operation). is_call o.item) same ∙ target.is) w.asks

-- what an `expire` asks for
pub expire_calls : (bytes : List ℕ) (script : List Item) → script_of bytes ≡ Ok script → (outcomes : List (Option Outcome)) → AreOfCalls (all_tasks script) outcomes
expire_calls bytes script reads outcomes = asks_calls script outcomes (λ c i. Expire c i) (λ n. ops.Expire n) expire_asks (expired script (are_there bytes script reads))
