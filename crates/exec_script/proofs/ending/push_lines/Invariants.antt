use Rattle.std.proofs.Common.{◌≡◌, ◌++◌, drop}
use Rattle.exec_script.specs.Endings.{lines_text}
use Rattle.exec_script.proofs.ending.push_lines.Given as goal

abbrev pub invariant-loop-answer : goal.invariant-loop-answer
invariant-loop-answer l = record {
  before : l.before ≡ l.answer-index;
  text : l.text.items ++ lines_text l.told l.before (drop l.answer-index l.answers) ≡ l.initial.text.items ++ lines_text l.told 0 l.answers;
}
