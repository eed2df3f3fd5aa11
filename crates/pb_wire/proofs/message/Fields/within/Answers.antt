use Rattle.std.proofs.Common.{slice_range}
use Rattle.pb_wire.proofs.MessageFields.{message_is_read}
use Rattle.pb_wire.proofs.message.Fields.within.Goals as goal

pub returns-clause-spelled : goal.returns-clause-spelled
returns-clause-spelled c = λ fs. message_is_read c.args.from (slice_range c.args.bytes.now c.args.from c.args.to) fs
