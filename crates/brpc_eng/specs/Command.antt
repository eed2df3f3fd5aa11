-- What the words of the command line mean.
use Rattle.brpc_eng.specs.CommandWords as model
use Rattle.brpc_eng.specs.declared.commands.Command.{Command}
use Rattle.brpc_eng.specs.declared.commands.Command.TheVariants as command
use Rattle.brpc_eng.specs.declared.commands.Waiting.{Waiting}
use Rattle.brpc_eng.specs.declared.commands.Waiting.TheVariants as waiting

-- the command that is asked for
abbrev pub meaning : Command → model.Command
meaning command.Replay = model.Replay
meaning (command.Sim seed) = model.Sim seed
meaning (command.Run port) = model.Run port
meaning (command.Gen draw) = model.Gen draw.seed draw.clients draw.operations
meaning (command.Load draw) = model.Load draw.seed draw.clients draw.operations
meaning command.Frames = model.Frames
meaning (command.Serve doors) = model.Serve doors.port doors.connections

-- one that may wait
abbrev pub waiting_meaning : Waiting → model.Command
waiting_meaning (waiting.Run port) = model.Run port
waiting_meaning (waiting.Serve doors) = model.Serve doors.port doors.connections
