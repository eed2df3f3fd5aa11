use Rattle.corr_id.proofs.BeginningOfIdTable.{Begun}
use Rattle.corr_id.proofs.opening.new_words.Given as goal

abbrev pub invariant-loop-slot : goal.invariant-loop-slot
invariant-loop-slot l = Begun l.fn.plan l.slot l.words.items
