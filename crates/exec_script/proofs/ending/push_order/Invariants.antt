use Rattle.std.proofs.Common.{◌≡◌, ℕ, ◌++◌, drop, decimal}
use Rattle.std.specs.Prelude.{flat_map}
use Rattle.sock_words.specs.PrintedWords.{word}
use Rattle.exec_script.proofs.ending.push_order.Given as goal

abbrev pub invariant-loop-line : goal.invariant-loop-line
invariant-loop-line l = record {
  text : l.text.items ++ flat_map (λ (line : ℕ). word (decimal line)) (drop l.line-index l.order) ≡ l.initial.text.items ++ flat_map (λ (line : ℕ). word (decimal line)) l.order;
}
