use Rattle.std.proofs.Common.{◌+◌, arith, length, map, unwrap_or, ap, sym, subst, ◌∙◌}
use Rattle.brpc_model.specs.Limits.{KeepsLimits}
use Rattle.script_facts.proofs.ScriptSizes.{link_count, operation_count}
use Rattle.script_items.specs.LineMeaning.{item}
use Rattle.seat_programs.specs.Tasks.{plan_of}
use Rattle.script_lang.specs.declared.counts.Counts.{Counts}
use Rattle.script_lang.proofs.Plans.{plan_is}
use Rattle.script_lang.proofs.script.Script.plan.Goals as goal

pub overflow_cast-result-2 : goal.overflow_cast-result-2
overflow_cast-result-2 c =
    let limits = subst KeepsLimits (sym c.self.view_is) c.requires in
    omega (arith, ap (λ (k : Counts). k.links) c.self.invariant.1, link_count (map item c.self.inside.lines.items), limits.links)

pub overflow_cast-result-5 : goal.overflow_cast-result-5
overflow_cast-result-5 c =
    let limits = subst KeepsLimits (sym c.self.view_is) c.requires in
    omega (arith, ap (λ (k : Counts). k.operations) c.self.invariant.1, operation_count 0 1 (map item c.self.inside.lines.items), limits.operations)

pub returns : goal.returns
returns c =
    let script = map item c.self.inside.lines.items in
    let counts = c.self.invariant.1 in
    plan_is script
    (c.unwrap_or.ensures ∙ ap (λ (k : Counts). unwrap_or k.slots 31) counts)
    (ap (λ (k : Counts). k.links) counts ∙ sym (link_count script))
    (c.unwrap_or-2.ensures ∙ ap (λ (k : Counts). unwrap_or k.requests 4096) counts)
    (c.len.ensures ∙ ap length c.self.invariant.0)
    (ap (λ (k : Counts). k.operations) counts ∙ sym (operation_count 0 1 script))
    (ap (λ (k : Counts). k.clients + 1) counts)
    (c.unwrap_or-3.ensures ∙ ap (λ (k : Counts). unwrap_or k.first 0) counts)
    ∙ ap plan_of c.self.view_is
