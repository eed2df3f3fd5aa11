-- The socket of a reader's link: how the reader learns it, and how it is set failed.
use Rattle.std.specs.Prelude.{ℕ, ◌⊎◌, Option, Some, None}
use Rattle.sock_words.specs.declared.plain.Plan.{Plan}
use Rattle.sock_words.specs.declared.socket_id.SocketId.{SocketId}
use Rattle.sock_words.specs.declared.outcome.Outcome.{Outcome}
use Rattle.sock_model.specs.declared.view.View.{View}
use Rattle.sock_table.specs.ReferenceAnswers.{Held, GoneFrom, NoneLater}
use Rattle.sock_table.specs.NamesStoredAndFound.{NotedAs}
use Rattle.sock_table.specs.declared.finding.Noted.TheVariants as noted
use Rattle.rpc_client.specs.FailOutcomes.{SetBy}
use Rattle.rpc_client.specs.SendingOutcomes.{Returned}

-- what was noted for the `open`: a socket, or that it got none
abbrev pub OpenedBy : Plan → ℕ → Option SocketId → View → View → Type 0
OpenedBy p operation (Some id) v w = NotedAs p operation (noted.Id id) v w
OpenedBy p operation None v w = NotedAs p operation noted.Nothing v w

-- with a reference that was got by the id and is given back, its life was failed, or found failed
pub record SetOnce (id code : ℕ) (v w : View) : Type 0 where
  pub has : View
  pub held : Held id v has
  pub live : NoneLater id v
  pub by : Outcome
  pub set : View
  pub set_by : SetBy id code by has set
  pub returned : Returned id set w

-- or the id was gone
abbrev pub FailedBy : ℕ → ℕ → View → View → Type 0
FailedBy id code v w = ((found : ℕ) × GoneFrom id found v w) ⊎ SetOnce id code v w
