-- Where nothing went wrong: what a run with calls owes then besides.
use Rattle.std.specs.Prelude.{ℕ, ◌≡◌, ◌+◌, ◌⊎◌, List, slice_get, Option, Some, Contains}
use Rattle.sock_words.specs.declared.outcome.Outcome.{Outcome}
use Rattle.sock_words.specs.declared.outcome.Outcome.TheVariants.{Unopened}
use Rattle.brpc_model.specs.Items.{Item, Send, Call, Expire, CallLine}
use Rattle.brpc_model.specs.Operations.{Operation, operations}
use Rattle.brpc_model.specs.Meta.{ResponseMeta}
use Rattle.brpc_model.specs.Frame.{Frame}
use Rattle.brpc_model.specs.Reply.{reply}
use Rattle.brpc_model.specs.MessageOfLabel.{request_frame}
use Rattle.brpc_model.specs.Complete.{IsServed, Gives}
use Rattle.seat_programs.specs.ExplainedCalls.{Fixed}

-- the call with this outcome was answered by the reply to its own request
abbrev pub HasReply : CallLine → Outcome → Type 0
HasReply call outcome = (id : ℕ) × (frame : Frame) × (r : ResponseMeta) × (reply (request_frame call (id + 1)) ≡ Some frame) × (frame.meta.response ≡ Some r) × Gives id r.code frame outcome

pub record IsCalm (script : List Item) (outcomes : List (Option Outcome)) (fixed : Fixed) : Type 0 where
  -- no reading ended early, no `send` had a step while the run was ending, and no link became a socket's then
  pub none_early : (k : ℕ) → Contains fixed.early k → ⊥
  pub none_late : (o : ℕ) (op : Operation) (name bytes : List ℕ) → slice_get (operations script) o ≡ Some op → op.item ≡ Send name bytes → Contains fixed.late o → ⊥
  pub no_late_link : (k : ℕ) → Contains fixed.late_links k → ⊥
  -- each call whose first name is served, and that no `expire` names, has its reply, or its name had no socket yet
  pub calls : (i : ℕ) (op : Operation) (call : CallLine) (name : List ℕ) (outcome : Outcome) → slice_get (operations script) i ≡ Some op → op.item ≡ Call call → slice_get outcomes i ≡ Some (Some outcome) →
      slice_get call.names 0 ≡ Some name → IsServed script name → (Contains script (Expire op.client op.number) → ⊥) → HasReply call outcome ⊎ (outcome ≡ Unopened)
