-- Why each call of a script failed, why each attempt of one behind the first was made, and why each `expire` has its outcome.
use Rattle.std.proofs.Common.{◌≡◌, ℕ, ◌≤◌, true, false, List, Option, Some, Ok, sym, ap, ◌∙◌, subst}
use Rattle.sock_words.specs.declared.outcome.Outcome.{Outcome}
use Rattle.sock_words.specs.declared.outcome.Outcome.TheVariants.{CallFailed}
use Rattle.brpc_model.specs.Items.{Item}
use Rattle.brpc_model.specs.LinePlaceFaults.{names}
use Rattle.brpc_model.specs.Script.{script_of}
use Rattle.seat_programs.specs.declared.task.Op.TheVariants as ops
use Rattle.seat_programs.specs.declared.task.Task.{Task}
use Rattle.seat_programs.specs.ScriptSetupToEnding.{all_tasks}
use Rattle.seat_programs.specs.Tasks.{numbered}
use Rattle.seat_programs.specs.Explained.{IsTask}
use Rattle.callless_fits.specs.sock_deeds.specs.script_facts.proofs.FilteredLists.{all_at}
use Rattle.callless_fits.specs.sock_deeds.specs.script_facts.proofs.OperationNumbering.{are_from}
use Rattle.callless_fits.specs.sock_deeds.specs.script_facts.proofs.ScriptSizes.{is_counted}
use Rattle.callless_fits.specs.sock_deeds.specs.script_facts.proofs.TaskLemmas.{numbers_at, task_is, fail_asks}
use Rattle.callless_fits.specs.sock_deeds.specs.script_facts.proofs.ReadScriptFacts.{InRange}
use Rattle.rpc_client.specs.declared.acting.Told.{Told}
use Rattle.calls_done.specs.call_whys.specs.call_told.specs.TellersOfCallEnds.{is_end_of_call, IsOwn}

-- ## Codes of a script

-- a `fail` of a script has a code that users may give
pub fails_within : (bytes : List ℕ) (script : List Item) → script_of bytes ≡ Ok script → (outcomes : List (Option Outcome)) (client : ℕ) (t : Task) (name code : ℕ) → IsTask (all_tasks script) outcomes client t → t.op ≡ ops.Fail name code → (1500 ≤ code) × (code ≤ 1999)
fails_within bytes script reads outcomes client t name code is op =
    let v = task_is script outcomes client t is in
    let asks = fail_asks (numbered script) (names script) (numbers_at script t.number v.operation) v.operation.item name code (v.asks ∙ ap Some op) in
    let ranged : InRange v.operation.item = all_at InRange script v.operation.item (is_counted bytes script reads).in_range (are_from 0 1 script t.number v.operation v.there).there in
    subst InRange asks.1 ranged

-- ## What is told

first_of : Outcome → ℕ
first_of (CallFailed id code) = id
first_of other = 0

code_in : Outcome → ℕ
code_in (CallFailed id code) = code
code_in other = 0

pub same_failure : (i c id code : ℕ) → CallFailed i c ≡ CallFailed id code → (i ≡ id) × (c ≡ code)
unfolding first_of code_in
same_failure i c id code e = (ap first_of e, ap code_in e)

-- a client tells no call of its own to have failed
pub not_own : (id code : ℕ) (x : Told) → x.outcome ≡ CallFailed id code → IsOwn x → ⊥
not_own id code x outcome told_of = let k : true ≡ false = sym (ap is_end_of_call outcome) ∙ told_of in absurd (cc)
