use Rattle.std.proofs.Common.{map, ap, sym, ◌∙◌}
use Rattle.exec_script.specs.Accounting.{book_after}
use Rattle.exec_threads.specs.TasksOfLines.{most_lines, run_of_task}
use Rattle.exec_threads.proofs.bank.Bank.new.Goals as goal

pub invariant_of-result : goal.invariant_of-result
invariant_of-result c = c.in_ok-accounts.ensures ∙ ap (λ l. book_after most_lines (map run_of_task l)) (sym c.of.ensures)
