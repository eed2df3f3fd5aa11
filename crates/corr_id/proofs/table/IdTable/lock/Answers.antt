use Rattle.std.proofs.Common.{inl, inr, refl}
use Rattle.std.proofs.lemmas.Result.{IfErr-weaker}
use Rattle.corr_id.proofs.table.IdTable.lock.Goals as goal

pub returns-clause-ended : goal.returns-clause-ended
returns-clause-ended g c = IfErr-weaker c.lock_within.result _ _ (λ e ends inside made. ends inside (inl made)) (c.lock_within.ensures.ended refl)

pub returns-clause-advanced : goal.returns-clause-advanced
returns-clause-advanced g c = IfErr-weaker c.lock_within.result _ _ (λ e ends inside advanced. ends inside (inr advanced)) (c.lock_within.ensures.ended refl)
