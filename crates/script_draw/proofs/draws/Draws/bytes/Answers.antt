use Rattle.std.proofs.Common.{◌%◌, ◌++◌, ◌∷◌, [], map, ap, sym, ◌∙◌}
use Rattle.brpc_model.specs.DrawnSeatsAndScripts.{drawn, drawn_state, draws}
use Rattle.script_draw.proofs.DrawLemmas.{behind_more, bytes_more}
use Rattle.script_draw.proofs.draws.Draws.bytes.Goals as goal

pub loop-preserved : goal.loop-preserved
loop-preserved c =
    let seed = c.args.self.now.state in
    let n = c.loop.counter in
    let i = c.loop.invariant in
    record {
      drawn = c.in_ok-push.ensures.items ∙ ap (λ xs. xs ++ c.byte-byte.result ∷ []) i.drawn
          ∙ ap (λ b. map (λ d. d % 256) (draws n seed) ++ b ∷ []) (c.byte-byte.ensures.number ∙ ap (λ s. drawn s % 256) i.behind) ∙ sym (bytes_more n seed);
      behind = c.byte-byte.ensures.state ∙ ap drawn_state i.behind ∙ sym (behind_more n seed);
    }
