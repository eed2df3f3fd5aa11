use Rattle.std.proofs.Common.{ℕ, ◌+◌, ap}
use Rattle.call_errors.specs.ClientBooks.{stand_of}
use Rattle.call_errors.proofs.Deciding.{advanced_by}
use Rattle.call_errors.proofs.handling.advance.Goals as goal

pub returns-clause-advanced : goal.returns-clause-advanced
returns-clause-advanced c = advanced_by c.args.lock c.unlock-answer.result (stand_of c.args.calls.now) c.unlock-answer.new.seat.me.0 _ c.push_back_reserved.new.self.items c.unlock-answer.ensures.unlocked c.id.ensures (ap (λ (n : ℕ). n + 1) c.attempt.ensures) c.push_back_reserved.ensures.items
