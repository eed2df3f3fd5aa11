use Rattle.std.proofs.Common.{ℕ, sym, subst}
use Rattle.corr_id.specs.declared.unlocks.Unlocked.TheVariants.{Open, Next}
use Rattle.call_errors.specs.ClientBooks.{stand_of, LetGo}
use Rattle.call_errors.specs.Handling.{ends, waits, goes_on}
use Rattle.call_errors.proofs.Deciding.{starves_before, starves_here, advanced_from, let_go_then}
use Rattle.call_errors.proofs.handling.+handle.Goals as goal

pub returns-then-calls-clause-decided : goal.returns-then-calls-clause-decided
returns-then-calls-clause-decided t c = starves_before c.args.lock (stand_of c.args.calls.now) (stand_of c.end_call.new.calls) c.args.code c.args.attempt c.if-calls.true c.end_call.ensures.ended

pub returns-then-is_err-clause-decided : goal.returns-then-is_err-clause-decided
returns-then-is_err-clause-decided t c = starves_here c.args.lock (stand_of c.args.calls.now) (stand_of c.end_call-then-is_err.new.calls) c.args.code c.args.attempt c.reserve.new.self.items (sym c.in-Retry.ensures) c.reserve.ensures.items c.end_call-then-is_err.ensures.ended

pub returns-in-End-clause-decided : goal.returns-in-End-clause-decided
returns-in-End-clause-decided t c = ends (stand_of c.args.calls.now) c.args.lock c.args.code c.args.attempt (stand_of c.end_call-in-End.new.calls) c.if-calls.false (sym c.in-End.ensures) c.end_call-in-End.ensures.ended

pub returns-in-Open-clause-decided : goal.returns-in-Open-clause-decided
returns-in-Open-clause-decided t c = let s = stand_of c.args.calls.now in let w = stand_of c.advance.new.calls in
    waits s c.args.lock c.args.code c.args.attempt w c.if-calls.false (sym c.in-Retry.ensures) (advanced_from c.args.lock s w Open c.reserve.new.self.items c.reserve.ensures.items c.in-Open.ensures.advanced)

pub returns-in-Next-clause-let_go : goal.returns-in-Next-clause-let_go
returns-in-Next-clause-let_go t c = let u = c.in-Next.ensures.advanced.unlocked in let v = c.advance.new.calls.seat.me.0 in let w = c.handle.new.calls.seat.me.0 in
    let_go_then c.args.lock.slot c.args.calls.now.seat.me.0 v w _ _ u.3 (subst (λ (i : ℕ). LetGo i v w) u.0 c.handle.ensures.let_go)

pub returns-in-Next-clause-decided : goal.returns-in-Next-clause-decided
returns-in-Next-clause-decided t c = let s = stand_of c.args.calls.now in let u = stand_of c.advance.new.calls in
    goes_on s c.args.lock c.args.code c.args.attempt (stand_of c.handle.new.calls) u c.in-Next.next c.in-Next.handed c.in-Next.of c.if-calls.false (sym c.in-Retry.ensures)
    (advanced_from c.args.lock s u (Next c.in-Next.next c.in-Next.handed c.in-Next.of) c.reserve.new.self.items c.reserve.ensures.items c.in-Next.ensures.advanced) c.handle.ensures.decided
