use Rattle.std.proofs.Common.{[]}
use Rattle.prpc_frame.proofs.cutter.Cutter.new.Given as goal

abbrev pub ghost-of : goal.ghost-of
ghost-of a = []
