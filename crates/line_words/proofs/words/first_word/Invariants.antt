use Rattle.std.proofs.Common.{◌≡◌, ◌≤◌, length}
use Rattle.brpc_model.specs.Text.{words}
use Rattle.line_words.proofs.words.first_word.Given as goal

abbrev pub invariant-loop-word : goal.invariant-loop-word
invariant-loop-word l = record {
  left : words l.rest ≡ words l.line;
  within : length l.rest ≤ length l.line;
}

abbrev pub decreases-loop-word : goal.decreases-loop-word
decreases-loop-word l = length l.rest
