use Rattle.std.proofs.Common.{◌++◌, ◌∷◌, []}
use Rattle.exec_threads.proofs.bank.BankRunner.run.Given as goal

abbrev pub ghost-of : goal.ghost-of
ghost-of a = a.by.now.0.now.list ++ a.by.now.1.now ∷ []
