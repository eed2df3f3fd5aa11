use Rattle.std.proofs.Common.{◌++◌, take, ap, ◌∙◌, subst}
use Rattle.sock_io.specs.LinkHalves.{IsPutCount, taken_of}
use Rattle.std.specs.Io.KnownBytes.{append_known}
use Rattle.serve_port.proofs.PutPieceByPiece.{known_more, put_more}
use Rattle.serve_port.proofs.putting.put_all.Goals as goal

pub puts-preserved-in-Took : goal.puts-preserved-in-Took
puts-preserved-in-Took g c = let i = c.puts.invariant in let n = c.in-Took.count in let piece = c.first_piece.result.now in let e = c.put.ensures in
    let few = subst (IsPutCount piece) c.in-Took.is e.count in record {
      can_go = tt;
      is_finite = tt;
      part = i.part ++ take n piece;
      begins = put_more i.part c.puts.bytes.items _ _ piece n _ i.begins c.first_piece.ensures.front few.1 c.recycle_front.ensures.items;
      took = known_more _ _ _ i.part (take n piece) i.took (e.took ∙ ap (λ r. append_known (g.O.Out.state c.puts.out).took (taken_of piece r)) c.in-Took.is);
      finished = e.finished ∙ i.finished;
      kept = e.kept (λ failed. absurd (cc)) ∙ i.kept;
    }
