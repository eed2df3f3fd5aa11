use Rattle.std.proofs.Common.{◌∙◌, map, string_bytes}
use Rattle.brpc_eng.proofs.Replays.{asked_is}
use Rattle.brpc_eng.proofs.commands.asks_to_wait.Goals as goal

pub returns : goal.returns
returns c = c.is_some.ensures ∙ asked_is (map string_bytes c.args.words.now) c.read_waiting.result c.read_waiting.ensures.some c.read_waiting.ensures.none
