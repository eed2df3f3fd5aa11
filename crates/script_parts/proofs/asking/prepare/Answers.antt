use Rattle.std.proofs.Common.{ap, sym, ◌∙◌, ◌+◌, length, map, arith}
use Rattle.std.proofs.lemmas.List.{length-map}
use Rattle.brpc_model.specs.Operations.{clients}
use Rattle.corr_core.specs.declared.marks.Plan.{Plan}
use Rattle.callless_fits.specs.sock_deeds.specs.script_facts.proofs.ScriptSizes.{keeps_limits}
use Rattle.callless_fits.specs.sock_deeds.specs.script_facts.proofs.TaskLemmas.{tasks_length}
use Rattle.script_parts.proofs.SortNumberBounds.{front_of}
use Rattle.script_parts.proofs.asking.prepare.Goals as goal

pub plan-requires : goal.plan-requires
plan-requires g c = keeps_limits c.requires.script.0 c.args.script.now c.requires.script.1

pub id_plan-requires : goal.id_plan-requires
id_plan-requires g c = keeps_limits c.requires.script.0 c.args.script.now c.requires.script.1

pub remove-setup-requires : goal.remove-setup-requires
remove-setup-requires g c =
    let n = ap length c.in_ok-clients.ensures ∙ tasks_length c.args.script.now 0 (clients c.args.script.now + 1) in
    let k = length-map c.in_ok-clients.clients.items (λ v. v.items) in let l = c.in_ok-clients.clients.ok.0 in omega (arith, n, k, l)

pub returns : goal.returns
returns g c =
    let n = ap length c.in_ok-clients.ensures ∙ tasks_length c.args.script.now 0 (clients c.args.script.now + 1) in
    let k = length-map c.in_ok-clients.clients.items (λ v. v.items) in record {
      plan = c.plan.ensures;
      slots = ap (λ (p : Plan). p.slots) c.id_plan.ensures;
      tasks = sym (ap (map (λ v. v.items)) (front_of c.in_ok-clients.clients.items c.remove-setup.new.self.items c.remove-setup.result (omega (arith, n, k)) c.remove-setup.ensures.value c.remove-setup.ensures.by_index.2)) ∙ c.in_ok-clients.ensures;
      opens_are = c.in_ok-opens.ensures.items ∙ c.opens.ensures;
      calls_are = c.in_ok-calls.ensures.items ∙ c.calls.ensures;
      halves = c.in_ok-halves.ensures;
    }
