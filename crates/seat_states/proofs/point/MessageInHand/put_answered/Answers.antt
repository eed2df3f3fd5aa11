use Rattle.std.proofs.Common.{refl, sym, ◌∙◌}
use Rattle.seat_states.proofs.ProgramBehindSteps.{took_all, took_part}
use Rattle.seat_states.proofs.point.MessageInHand.put_answered.Goals as goal

pub returns-then-whole : goal.returns-then-whole
returns-then-whole c a w asked e =
    let f = rw c.in-Took.is at e in
    rw c.in-Took.is (took_all a w c.args.self asked c.in-Took.field-0 (sym f ∙ c.if-whole.true))

pub returns-else-whole : goal.returns-else-whole
returns-else-whole c a w asked e =
    let f = rw c.in-Took.is at e in
    rw c.in-Took.is (took_part a w c.args.self asked c.in-Took.field-0 (sym f ∙ c.if-whole.false))

pub returns-in-Again : goal.returns-in-Again
returns-in-Again c a w asked e = rw c.in-Again.is refl

pub returns-in-Failed : goal.returns-in-Failed
returns-in-Failed c a w asked e = rw c.in-Failed.is refl
