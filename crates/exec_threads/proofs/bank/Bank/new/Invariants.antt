use Rattle.std.proofs.Common.{[]}
use Rattle.exec_threads.proofs.bank.Bank.new.Given as goal

abbrev pub ghost-of : goal.ghost-of
ghost-of a = []
