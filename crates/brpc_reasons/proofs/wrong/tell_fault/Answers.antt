use Rattle.std.proofs.Common.{ap, sym}
use Rattle.frame_print.proofs.SuccessiveTextWriting.{as_text}
use Rattle.brpc_reasons.specs.WrongWords as model
use Rattle.brpc_reasons.specs.WrongWordsMeaning.{meaning}
use Rattle.brpc_reasons.specs.declared.wrong.WordsFault.{WordsFault}
use Rattle.brpc_reasons.proofs.wrong.tell_fault.Goals as goal

pub returns-in-TooMany : goal.returns-in-TooMany
returns-in-TooMany g c = as_text _ _ _ _ _ c.tell_too_many.ensures (ap (λ (f : WordsFault). model.fault_text (meaning f)) (sym c.in-TooMany.is))

pub returns-in-TooMuch : goal.returns-in-TooMuch
returns-in-TooMuch g c = as_text _ _ _ _ _ c.tell_too_much.ensures (ap (λ (f : WordsFault). model.fault_text (meaning f)) (sym c.in-TooMuch.is))
