-- What `brpc` answers, told the usage text, is an answer of the whole program.
use Rattle.std.proofs.Common.{◌≡◌, ℕ, List, subst}
use Rattle.brpc_eng.specs.ProgramAnswers.{Input, Output, Links, Answers, AnswersAlone}
use Rattle.brpc_further.specs.FurtherAnswers.{usage_text, FurtherAnswers, OfBrpc, FurtherAnswersAlone, OfBrpcAlone}

pub of_brpc : (usage : List ℕ) (words : List (List ℕ)) (input : Input) (out : Output) (links : Links) (status : ℕ) → usage ≡ usage_text → Answers usage words input out links status → FurtherAnswers words input out links status
of_brpc usage words input out links status is a = let P : List ℕ → Type 0 = λ u. Answers u words input out links status in OfBrpc (subst P is a)

pub of_brpc_alone : (usage : List ℕ) (words : List (List ℕ)) (input : Input) (out : Output) (links : Links) (status : ℕ) → usage ≡ usage_text → AnswersAlone usage words input out links status → FurtherAnswersAlone words input out links status
of_brpc_alone usage words input out links status is a = let P : List ℕ → Type 0 = λ u. AnswersAlone u words input out links status in OfBrpcAlone (subst P is a)
