use Rattle.std.proofs.Common.{⊎_elim}
use Rattle.corr_core.specs.IdSlotWord.{parts}
use Rattle.corr_id.proofs.TokensOfIdCalls.{noted_now, now_quiet, made_still, advanced_still, lacks_behind}
use Rattle.corr_id.proofs.table.IdTable.ends_soon.Goals as goal

pub returns-then-lacks_id-clause-gone : goal.returns-then-lacks_id-clause-gone
returns-then-lacks_id-clause-gone g c = λ e. let at = c.args.at in let v = c.looks.seat.me.0 in let w = c.load_id_word.new.seat.me.0 in let n = c.load_id_word.result in (
  n,
  now_quiet at n c.args.seat.now.me.0 v w c.looks.invariant.quiet (noted_now at n v w c.load_id_word.ensures.saw),
  c.lacks_id.ensures.lacks c.if-lacks_id.true,
)

pub returns-then-lacks_id-clause-ended : goal.returns-then-lacks_id-clause-ended
returns-then-lacks_id-clause-ended g c = λ e known. let at = c.args.at in let u = c.args.seat.now.me.0 in let v = c.looks.seat.me.0 in let w = c.load_id_word.new.seat.me.0 in let n = c.load_id_word.result in let own = c.args.own in let q = c.looks.invariant.quiet in let found = c.load_id_word.ensures in (
  n,
  now_quiet at n u v w q (noted_now at n v w found.saw),
  lacks_behind own (parts n) (⊎_elim (λ made. found.behind own (made_still at own u v q made)) (λ more. found.advanced own (advanced_still at own u v q more)) known) (c.lacks_id.ensures.lacks c.if-lacks_id.true),
)
