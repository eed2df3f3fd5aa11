use Rattle.std.proofs.Common.{sym, subst}
use Rattle.corr_core.specs.IdSlotWord.{parts}
use Rattle.corr_id.specs.LocksByAttempt.{IsOutside, IsWithin}
use Rattle.corr_id.proofs.attempts.is_outside.Goals as goal

pub returns-then-attempt-clause-out : goal.returns-then-attempt-clause-out
returns-then-attempt-clause-out c hit = subst (λ b. IsOutside b (parts c.args.word.0) c.args.version) (sym c.if-attempt.true) (c.lacks_attempt.ensures.lacks hit)

pub returns-then-attempt-clause-within : goal.returns-then-attempt-clause-within
returns-then-attempt-clause-within c miss = subst (λ b. IsWithin b (parts c.args.word.0) c.args.version) (sym c.if-attempt.true) (c.lacks_attempt.ensures.has miss)

pub returns-else-attempt-clause-out : goal.returns-else-attempt-clause-out
returns-else-attempt-clause-out c hit = subst (λ b. IsOutside b (parts c.args.word.0) c.args.version) (sym c.if-attempt.false) (c.is_out_of.ensures.out hit)

pub returns-else-attempt-clause-within : goal.returns-else-attempt-clause-within
returns-else-attempt-clause-within c miss = subst (λ b. IsWithin b (parts c.args.word.0) c.args.version) (sym c.if-attempt.false) (c.is_out_of.ensures.within miss)
