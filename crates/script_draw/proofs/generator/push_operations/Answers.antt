use Rattle.std.proofs.Common.{◌∷◌, [], map, ap, ◌∙◌}
use Rattle.std.proofs.lemmas.List.{map-append}
use Rattle.script_items.specs.LineMeaning.{item}
use Rattle.script_draw.proofs.DrawLemmas.{operation_placed, operation_drawn}
use Rattle.script_draw.proofs.generator.push_operations.Goals as goal

pub loop-before-preserved : goal.loop-before-preserved
loop-before-preserved c =
    let i = c.loop-before.invariant in
    let old = c.loop-before.lines.items in
    let line = c.in_ok-operation_line.field-0 in
    let grown = ap (map item) c.in_ok-push.ensures.items ∙ map-append item old (line ∷ []) in
    record {
      all = operation_placed (map item old) _ _ (item line) c.in_ok-bytes.bytes.items c.size_of_operation.result c.loop-before.draws.state c.bytes.new.self.state c.args.ops c.loop-before.before c.args.client
          c.loop-before-test.true grown c.in_ok-operation_line.ensures c.in_ok-bytes.ensures.bytes c.size_of_operation.ensures c.in_ok-bytes.ensures.state i.all;
      behind = operation_drawn c.size_of_operation.result c.loop-before.draws.state c.bytes.new.self.state _ c.args.ops c.loop-before.before c.args.client
          c.loop-before-test.true c.size_of_operation.ensures c.in_ok-bytes.ensures.state i.behind;
    }
