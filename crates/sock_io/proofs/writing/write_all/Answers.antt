use Rattle.std.proofs.Common.{◌++◌, take, ap, ◌∙◌}
use Rattle.sock_io.proofs.GrowingBytes.{front_grows, Appends-append}
use Rattle.sock_io.proofs.writing.write_all.Goals as goal

pub loop-rest-preserved : goal.loop-rest-preserved
loop-rest-preserved g c =
    let i = c.loop-rest.invariant in
    let n = c.in_ok-count.count in
    record {
      written = i.written ++ take n c.loop-rest.rest.now;
      split = ap (λ x. (i.written ++ take n c.loop-rest.rest.now) ++ x) c.from_place-rest.ensures ∙ front_grows i.written c.loop-rest.rest.now c.args.text.now n i.split;
      held = Appends-append _ _ _ i.written (take n c.loop-rest.rest.now) i.held c.in_ok-count.ensures.bytes;
      kept = c.in_ok-count.ensures.cause.kept ∙ i.kept;
    }
