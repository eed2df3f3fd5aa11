use Rattle.std.proofs.Common.{[], ◌++◌, refl}
use Rattle.brpc_model.specs.Reply.{replies}
use Rattle.serve_port.proofs.PutPieceByPiece.{known_none}
use Rattle.serve_port.proofs.answering.answer.Goals as goal

pub returns-in_default : goal.returns-in_default
returns-in_default g c = record { part = []; left = replies (c.args.conn.now.bytes ++ c.args.piece.now); begins = refl; took = known_none (g.O.Out.state c.args.out.now).took; finished = refl; goes = refl }
