-- An answer is one with the same number.
use Rattle.std.proofs.Common.{◌≡◌, ℕ, List, sym, subst}
use Rattle.brpc_eng.specs.ProgramAnswers.{Input, Output, Links}
use Rattle.brpc_further.specs.FurtherAnswers.{FurtherAnswers, FurtherAnswersAlone}

pub answered : (words : List (List ℕ)) (input : Input) (out : Output) (links : Links) (status number : ℕ) → status ≡ number → FurtherAnswers words input out links number → FurtherAnswers words input out links status
answered words input out links status number s a = let P : ℕ → Type 0 = λ n. FurtherAnswers words input out links n in subst P (sym s) a

pub answered_alone : (words : List (List ℕ)) (input : Input) (out : Output) (links : Links) (status number : ℕ) → status ≡ number → FurtherAnswersAlone words input out links number → FurtherAnswersAlone words input out links status
answered_alone words input out links status number s a = let P : ℕ → Type 0 = λ n. FurtherAnswersAlone words input out links n in subst P (sym s) a
