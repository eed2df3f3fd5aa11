-- The answers of the whole program: those of the commands of `brpc_eng`, and beside them a case for each further command. There is none yet.
use Rattle.std.specs.Prelude.{ℕ, Bool, List, codes}
use Rattle.brpc_eng.specs.CommandWords.{asks_to_wait}
use Rattle.brpc_eng.specs.ProgramAnswers.{Input, Output, Links, AnswersAlone, Answers}

-- what is printed where the words ask for no command: the form of each, the further ones last
abbrev pub usage_text : List ℕ
usage_text = codes "usage: replay | sim SEED | run [PORT] | gen SEED CLIENTS OPS | load SEED CLIENTS OPS | frames | serve PORT N\n"

-- the words ask for a command that may wait for ever
abbrev pub may_wait : List (List ℕ) → Bool
may_wait words = asks_to_wait words

-- how a command ends that waits for nobody, and what words are told that ask for none
pub data FurtherAnswersAlone (words : List (List ℕ)) (input : Input) (out : Output) (links : Links) (status : ℕ) : Type 0 where
  OfBrpcAlone : AnswersAlone usage_text words input out links status → FurtherAnswersAlone words input out links status

-- why the program ends with a status
pub data FurtherAnswers (words : List (List ℕ)) (input : Input) (out : Output) (links : Links) (status : ℕ) : Type 0 where
  OfBrpc : Answers usage_text words input out links status → FurtherAnswers words input out links status
