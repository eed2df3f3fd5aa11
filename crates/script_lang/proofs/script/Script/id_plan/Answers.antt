use Rattle.std.proofs.Common.{ℕ, ◌+◌, arith, map, ap, sym, subst, ◌∙◌}
use Rattle.brpc_model.specs.Limits.{KeepsLimits}
use Rattle.script_facts.proofs.ScriptSizes.{link_count, operation_count}
use Rattle.script_items.specs.LineMeaning.{item}
use Rattle.seat_programs.specs.Tasks.{id_plan_of}
use Rattle.script_lang.specs.declared.counts.Counts.{Counts}
use Rattle.script_lang.proofs.Judged.{calls_few}
use Rattle.script_lang.proofs.Plans.{call_count, id_plan_is}
use Rattle.script_lang.proofs.script.Script.id_plan.Goals as goal

pub overflow_cast-result : goal.overflow_cast-result
overflow_cast-result c =
    let script = map item c.self.inside.lines.items in
    let limits = subst KeepsLimits (sym c.self.view_is) c.requires in
    omega (arith, ap (λ (k : Counts). k.calls) c.self.invariant.1, calls_few script, operation_count 0 1 script, limits.operations)

pub overflow_cast-result-2 : goal.overflow_cast-result-2
overflow_cast-result-2 c =
    let limits = subst KeepsLimits (sym c.self.view_is) c.requires in
    omega (arith, ap (λ (k : Counts). k.operations) c.self.invariant.1, operation_count 0 1 (map item c.self.inside.lines.items), limits.operations)

pub overflow_cast-result-3 : goal.overflow_cast-result-3
overflow_cast-result-3 c =
    let limits = subst KeepsLimits (sym c.self.view_is) c.requires in
    omega (arith, ap (λ (k : Counts). k.links) c.self.invariant.1, link_count (map item c.self.inside.lines.items), limits.links)

pub overflow_add-result : goal.overflow_add-result
overflow_add-result c =
    let limits = subst KeepsLimits (sym c.self.view_is) c.requires in
    omega (arith, ap (λ (k : Counts). k.links) c.self.invariant.1, link_count (map item c.self.inside.lines.items), limits.links)

pub returns : goal.returns
returns c =
    let script = map item c.self.inside.lines.items in
    let counts = c.self.invariant.1 in
    id_plan_is script
    (ap (λ (k : Counts). k.calls) counts ∙ sym (call_count script))
    (ap (λ (k : Counts). k.operations) counts ∙ sym (operation_count 0 1 script))
    (ap (λ (k : Counts). 32 + k.links) counts ∙ ap (λ (n : ℕ). 32 + n) (sym (link_count script)))
    ∙ ap id_plan_of c.self.view_is
