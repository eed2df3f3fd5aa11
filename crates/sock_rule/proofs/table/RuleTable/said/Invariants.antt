use Rattle.sock_rule.proofs.table.RuleTable.said.Given as goal

abbrev pub ghost-of : goal.ghost-of
ghost-of g a = a.by.now.list
