use Rattle.std.proofs.Common.{refl}
use Rattle.call_writes.specs.Draining.{of_send, of_call}
use Rattle.call_writes.proofs.draining.tell_dropped.Goals as goal

pub returns-then-msg-eq0-clause-told : goal.returns-then-msg-eq0-clause-told
returns-then-msg-eq0-clause-told g c = of_send c.if-msg-eq0.true refl

pub returns-clause-told : goal.returns-clause-told
returns-clause-told g c = of_call c.if-msg-eq0.false c.post_error.ensures.posted
