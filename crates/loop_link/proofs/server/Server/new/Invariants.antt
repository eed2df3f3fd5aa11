use Rattle.std.proofs.Common.{[]}
use Rattle.loop_link.proofs.server.Server.new.Given as goal

abbrev pub ghost-of : goal.ghost-of
ghost-of a = []
