use Rattle.prpc_frame.proofs.Encoded.{one_frame}
use Rattle.prpc_frame.proofs.encoding.begins_with_one_frame.Goals as goal

pub returns : goal.returns
returns c = one_frame
