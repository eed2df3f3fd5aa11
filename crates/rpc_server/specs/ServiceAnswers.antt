-- What an answer of a service means.
use Rattle.std.specs.Prelude.{◌≡◌, ℕ, ◌+◌, ◌≤◌, List, length, codes}
use Rattle.brpc_model.specs.Frame.{body_limit}
use Rattle.brpc_model.specs.Reply as model
use Rattle.rpc_server.specs.declared.service.Answer.{Answer}
use Rattle.rpc_server.specs.declared.service.Answer.TheVariants.{Gives, Refuses}
use Rattle.rpc_server.specs.declared.service.Refusal.{Refusal}
use Rattle.rpc_server.specs.declared.service.Refusal.TheVariants.{BadRequest, NoService, NoMethod}

-- its code, as bRPC has it: ENOSERVICE, ENOMETHOD, EREQUEST
abbrev pub code_of : Refusal → ℕ
code_of NoService = 1001
code_of NoMethod = 1002
code_of BadRequest = 1003

abbrev pub text_of : Refusal → List ℕ
text_of NoService = codes "no service"
text_of NoMethod = codes "no method"
text_of BadRequest = codes "bad request"

abbrev pub meant : Answer → model.Answer
meant (Gives payload attachment) = model.Gives payload.items attachment.items
meant (Refuses refusal) = model.Refuses (code_of refusal) (text_of refusal)

abbrev pub IsAnswer : model.Answer → Answer → Type 0
IsAnswer a answer = meant answer ≡ a

-- what it gives is no larger than the body of a frame may be
abbrev pub IsSmall : Answer → Type 0
IsSmall (Gives payload attachment) = length payload.items + length attachment.items ≤ body_limit
IsSmall (Refuses refusal) = Unit {0}
