use Rattle.std.proofs.Common.{◌≡◌, ◌++◌, drop}
use Rattle.exec_script.specs.Endings.{balances_text}
use Rattle.exec_script.proofs.ending.push_balances.Given as goal

abbrev pub invariant-loop-balance : goal.invariant-loop-balance
invariant-loop-balance l = record {
  account : l.account ≡ l.balance-index;
  text : l.text.items ++ balances_text l.account (drop l.balance-index l.balances) ≡ l.initial.text.items ++ balances_text 0 l.balances;
}
