use Rattle.std.proofs.Common.{length}
use Rattle.script_lang.proofs.Sofar.{Sofar}
use Rattle.script_lang.proofs.read.read_script.Given as goal

abbrev pub invariant-loop-rest : goal.invariant-loop-rest
invariant-loop-rest l = Sofar l.bytes l.rest l.reader

abbrev pub decreases-loop-rest : goal.decreases-loop-rest
decreases-loop-rest l = length l.rest
