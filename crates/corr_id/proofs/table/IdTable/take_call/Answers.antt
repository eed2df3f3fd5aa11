use Rattle.corr_core.specs.IdSlotWord.{parts}
use Rattle.corr_core.specs.declared.marks.Hand.TheVariants.{Full}
use Rattle.corr_core.specs.declared.marks.Token.TheVariants.{Locked}
use Rattle.corr_id.proofs.table.IdTable.take_call.Goals as goal

pub unreachable-requires : goal.unreachable-requires
unreachable-requires g c = let w = parts c.args.word.0 in let x = c.requires.lock.0 in c.in_default.not-Some x (c.move_call-found.ensures.moved (Locked w.first w.range w.attempt x w.oldest w.second (Full x)) c.requires.lock.1).0

pub returns-clause-taken : goal.returns-clause-taken
returns-clause-taken g c = λ x has. let w = parts c.args.word.0 in let m = c.move_call-found.ensures.moved (Locked w.first w.range w.attempt x w.oldest w.second (Full x)) has in let p = c.in-Some.is in let q = m.0 in (cc (p, q), m.1)
