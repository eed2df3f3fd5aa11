use Rattle.std.proofs.Common.{refl}
use Rattle.brpc_eng.proofs.ServeCommandEnding.{port_whole}
use Rattle.brpc_eng.proofs.serve.serve.Goals as goal

pub returns-in-Ok-clause-served : goal.returns-in-Ok-clause-served
returns-in-Ok-clause-served g c =
    port_whole c.args.doors.now.connections _ _ c.requires.unused.0.0 c.requires.unused.0.1 c.requires.unused.1 c.requires.unused.2 _ _ _ refl refl refl refl c.in-Ok.frames c.in-Ok.ensures.serves c.write_served.ensures
