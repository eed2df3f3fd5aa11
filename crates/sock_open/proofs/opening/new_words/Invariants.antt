use Rattle.sock_open.proofs.NewTableWords.{Begun}
use Rattle.sock_open.proofs.opening.new_words.Given as goal

abbrev pub invariant-loop-slot : goal.invariant-loop-slot
invariant-loop-slot l = Begun l.plan l.slot l.words.items
