use Rattle.std.proofs.Common.{map, take, ap, sym, ◌∙◌, arith}
use Rattle.brpc_model.specs.Items.{mentioned}
use Rattle.brpc_model.specs.LinePlaceFaults as model
use Rattle.brpc_model.proofs.GrowingLineByLine.{names_more}
use Rattle.script_items.specs.LineMeaning.{item}
use Rattle.script_lang.specs.declared.counts.Counts.{Counts}
use Rattle.script_lang.specs.CountedLines.{counts_of, counted}
use Rattle.script_lang.specs.OperationNumbers.{numbers_of, numbers_behind}
use Rattle.script_lang.proofs.CountedScript.{front_counted}
use Rattle.script_lang.proofs.Judged.{counts_more}
use Rattle.script_lang.proofs.LineSteps.{line_more}
use Rattle.script_lang.proofs.Noted.{numbers_more}
use Rattle.script_lang.proofs.script.found_of.Goals as goal

pub overflow_cast-counts : goal.overflow_cast-counts
overflow_cast-counts c =
    let within = front_counted c.args.lines.now c.loop-line.line-index c.loop-line.counts c.requires c.loop-line.invariant.counts in
    omega (arith, within.operations)

pub add-requires : goal.add-requires
add-requires c =
    let within = front_counted c.args.lines.now c.loop-line.line-index c.loop-line.counts c.requires c.loop-line.invariant.counts in
    omega (arith, within.operations)

pub with-counts-requires : goal.with-counts-requires
with-counts-requires c = front_counted c.args.lines.now c.loop-line.line-index c.loop-line.counts c.requires c.loop-line.invariant.counts

pub loop-line-preserved : goal.loop-line-preserved
loop-line-preserved c =
    let lines = c.args.lines.now in
    let i = c.loop-line.line-index in
    let here = item c.line-item.result in
    let before = map item (take i lines) in
    let more = sym (line_more lines i c.line-item.result c.loop-line-test.true c.line-item.is) in
    record {
      names = c.in_ok-add_mentioned.ensures ∙ ap (λ ns. model.with_names ns (mentioned here)) c.loop-line.invariant.names ∙ sym (names_more before here) ∙ ap model.names more;
      counts = c.with-counts.ensures ∙ ap (λ k. counted k here) c.loop-line.invariant.counts ∙ sym (counts_more before here) ∙ ap counts_of more;
      numbers = c.in_ok-add.ensures ∙ ap (λ ns. numbers_behind ns c.loop-line.counts.operations here) c.loop-line.invariant.numbers
          ∙ ap (λ (k : Counts). numbers_behind (numbers_of before) k.operations here) c.loop-line.invariant.counts
          ∙ sym (numbers_more before here) ∙ ap numbers_of more;
    }
