use Rattle.std.proofs.Common.{arith, ◌∙◌}
use Rattle.std.proofs.lemmas.Grind.{common_steps}
use Rattle.script_links.proofs.LinkNumbering.{asked_more, asked_whole, asked_front}
use Rattle.script_links.proofs.links.open_links.Goals as goal

pub returns-in_err-open_line-clause-front : goal.returns-in_err-open_line-clause-front
returns-in_err-open_line-clause-front g c = asked_front c.args.mode c.args.lines.now c.loop-line.line-index _ (c.in_err-open_line.ensures.refused ∙ c.loop-line.invariant.asked)

pub loop-line-preserved : goal.loop-line-preserved
loop-line-preserved g c =
    let i = c.loop-line.invariant in
    let step = c.in_ok-open_line.ensures in record {
      opened = step.opened;
      asked = asked_more c.args.mode c.args.lines.now c.loop-line.line-index c.line-item.result _ _ c.loop-line-test.true c.line-item.is i.asked step.asked;
      offers = λ tell. step.offers tell (i.offers tell);
      ends = step.ends i.ends;
      fresh = step.fresh i.fresh;
      unfinished = step.unfinished i.unfinished;
      unclosed = step.unclosed i.unclosed;
      prompt_each = λ always_ready loop. step.prompt_each (i.always_ready ∙ always_ready) loop (i.prompt_each always_ready loop);
      count = grind (arith, common_steps);
      back = step.back ∙ i.back;
      always_ready = step.always_ready ∙ i.always_ready;
      connections = (step.connections.0 ∙ i.connections.0, step.connections.1 ∙ i.connections.1);
      later = omega (arith, step.cause.later, i.later);
      kept = step.cause.kept (λ e. absurd (cc)) ∙ i.kept;
    }

pub returns-clause-asked : goal.returns-clause-asked
returns-clause-asked g c = asked_whole c.args.mode c.args.lines.now c.loop-line.line-index _ c.loop-line-test.false c.loop-line.invariant.asked
