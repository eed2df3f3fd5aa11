use Rattle.std.proofs.Common.{arith}
use Rattle.rpc_meta.specs.MetaMeaning.{meaning}
use Rattle.rpc_meta.proofs.RoundTrip.{round_trip}
use Rattle.rpc_meta.proofs.meta.RpcMeta.spell_to.Goals as goal

pub returns-clause-reads_back : goal.returns-clause-reads_back
returns-clause-reads_back c = round_trip (meaning c.args.self.now) c.spell_meta.ensures.fits (omega (arith, c.requires.room, c.requires.sizes.all))
