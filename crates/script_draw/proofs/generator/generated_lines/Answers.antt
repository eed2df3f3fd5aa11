use Rattle.std.proofs.Common.{◌++◌, ◌∷◌, [], ◌+◌, map, ap, ◌∙◌}
use Rattle.brpc_model.specs.DrawnSeatsAndScripts.{gen_operations}
use Rattle.std.proofs.lemmas.List.{map-append}
use Rattle.script_items.specs.LineMeaning.{item}
use Rattle.script_items.specs.declared.line.Line.TheVariants as lines
use Rattle.script_draw.proofs.DrawLemmas.{client_placed}
use Rattle.script_draw.proofs.generator.generated_lines.Goals as goal

pub loop-before-preserved : goal.loop-before-preserved
loop-before-preserved c =
    let old = c.loop-before.lines.items in
    let grown = ap (map item) c.in_ok-push.ensures.items ∙ map-append item old (lines.Client ∷ []) in
    client_placed (map item old) _ _ c.loop-before.draws.state c.push_operations.new.draws.state c.args.clients c.loop-before.before c.args.ops
    c.loop-before-test.true
    (c.in_ok-push_operations.ensures.lines ∙ ap (λ l. l ++ gen_operations c.args.ops (c.loop-before.before + 1) 1 c.loop-before.draws.state) grown)
    c.in_ok-push_operations.ensures.draws
    c.loop-before.invariant
