use Rattle.std.proofs.Common.{[], refl, rules}
use Rattle.sock_io.proofs.mem_link.NoPeerPeer.serve.Goals as goal

-- nothing moves
pub returns : goal.returns
returns c = (([], [], search rules), refl, refl)
