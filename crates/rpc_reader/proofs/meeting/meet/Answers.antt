use Rattle.std.proofs.Common.{ℕ, Bool, ap, refl, sym, ◌∙◌, subst}
use Rattle.corr_core.specs.IdSlotWord.{parts}
use Rattle.corr_core.specs.IdRangeVersions.{is_early}
use Rattle.rpc_reader.specs.ReaderBooks.{books}
use Rattle.rpc_reader.specs.Met.{KeptIf}
use Rattle.rpc_reader.proofs.FramesMetInTurn.{lacked}
use Rattle.rpc_reader.proofs.meeting.meet.Goals as goal

pub returns-else-is_early-clause-met : goal.returns-else-is_early-clause-met
returns-else-is_early-clause-met g c = let f = c.args.frame in let b = books c.args.calls.now in let word = c.in-Err.gone.found in
    let late = ap (λ (v : ℕ). is_early v (parts word)) (sym c.version.ensures) ∙ (sym c.is_early.ensures ∙ c.if-is_early.false) in
    lacked c.args.ids.now.plan.slots word f b (record b { view = c.lock_attempt.new.seat.me.0 }) (sym c.is_asked.ensures ∙ c.if-not-is_asked.false) c.in-Err.ensures.gone c.in-Err.ensures.gone_now refl
    (subst (λ (y : Bool). KeptIf y f b.early b.starved b.early b.starved) (sym late) (refl, refl))
