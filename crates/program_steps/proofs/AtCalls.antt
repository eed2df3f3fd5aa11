-- Properties of programs that ask something of steps on words and of loops alone, and hold behind each other step.
use Rattle.std.proofs.Common.{ℕ}
use Rattle.seat_programs.specs.TableSteps.{TableStep}
use Rattle.seat_programs.specs.LoopHeads.{Head, Exit}
use Rattle.seat_programs.specs.Programs.{Program}
use Rattle.program_steps.specs.AtSteps.{Asks, AtSteps, asks_words}

-- what holds of a program at its end; what is asked of a step, by what is known before it and by what holds behind
-- it; and what is asked of a loop
module _ {S : Type 0} (rest : Type 0) (calls : S → TableStep → (ℕ → Program) → (S → ℕ → Type 0) → Type 0) (loops : (head : Head) → (Exit head → Type 0) → Type 0) where
  abbrev pub asks_calls : Asks S
  asks_calls = asks_words (λ s. s) rest calls loops

  abbrev pub AtCalls : S → Program → Type 0
  AtCalls = AtSteps asks_calls

-- it asks nothing of loops
abbrev pub every_exit : (head : Head) → (Exit head → Type 0) → Type 0
every_exit head behind = (exit : Exit head) → behind exit
