use Rattle.std.proofs.Common.{inr, ⊎_elim}
use Rattle.corr_core.specs.IdSlotWord.{parts}
use Rattle.corr_id.proofs.TokensOfIdCalls.{found_noted, found_before, noted_now, now_quiet, made_still, advanced_still, lacks_behind}
use Rattle.corr_id.proofs.table.IdTable.join.Goals as goal

pub returns-then-lacks_id-clause-gone : goal.returns-then-lacks_id-clause-gone
returns-then-lacks_id-clause-gone g c = rw (← c.in-Some.ensures.some.0, ← c.version-own.ensures) (inr (
  c.load_id_word.result,
  found_noted c.in-Some.at c.load_id_word.result c.looks.seat.me.0 c.load_id_word.new.seat.me.0 c.load_id_word.ensures.saw,
  c.lacks_id.ensures.lacks c.if-lacks_id.true,
))

pub returns-then-lacks_id-clause-gone_now : goal.returns-then-lacks_id-clause-gone_now
returns-then-lacks_id-clause-gone_now g c = rw (← c.in-Some.ensures.some.0, ← c.version-own.ensures) (λ inside. let at = c.in-Some.at in let v = c.looks.seat.me.0 in let w = c.load_id_word.new.seat.me.0 in let n = c.load_id_word.result in (
  n,
  now_quiet at n c.args.seat.now.me.0 v w c.looks.invariant.quiet (noted_now at n v w c.load_id_word.ensures.saw),
  c.lacks_id.ensures.lacks c.if-lacks_id.true,
))

pub returns-then-lacks_id-clause-ended : goal.returns-then-lacks_id-clause-ended
returns-then-lacks_id-clause-ended g c = rw (← c.in-Some.ensures.some.0, ← c.version-own.ensures) (λ inside known. let at = c.in-Some.at in let u = c.args.seat.now.me.0 in let v = c.looks.seat.me.0 in let w = c.load_id_word.new.seat.me.0 in let n = c.load_id_word.result in let own = c.version-own.result in let q = c.looks.invariant.quiet in let found = c.load_id_word.ensures in (
  n,
  now_quiet at n u v w q (noted_now at n v w found.saw),
  lacks_behind own (parts n) (⊎_elim (λ made. found.behind own (made_still at own u v q made)) (λ more. found.advanced own (advanced_still at own u v q more)) known) (c.lacks_id.ensures.lacks c.if-lacks_id.true),
))

pub returns-then-ends_soon-clause-gone : goal.returns-then-ends_soon-clause-gone
returns-then-ends_soon-clause-gone g c = rw (← c.in-Some.ensures.some.0, ← c.version-own.ensures) (let found = c.ends_soon.ensures.gone c.if-ends_soon.true in inr (
  found.0,
  found_before c.in-Some.at found.0 c.args.seat.now.me.0 c.ends_soon.new.seat.me.0 found.1,
  found.2,
))

pub returns-then-ends_soon-clause-gone_now : goal.returns-then-ends_soon-clause-gone_now
returns-then-ends_soon-clause-gone_now g c = rw (← c.in-Some.ensures.some.0, ← c.version-own.ensures) (λ inside. c.ends_soon.ensures.gone c.if-ends_soon.true)

pub returns-then-ends_soon-clause-ended : goal.returns-then-ends_soon-clause-ended
returns-then-ends_soon-clause-ended g c = rw (← c.in-Some.ensures.some.0, ← c.version-own.ensures) (λ inside known. c.ends_soon.ensures.ended c.if-ends_soon.true known)
