-- What becomes of a `fail`.
use Rattle.std.specs.Prelude.{ℕ, Bool}
use Rattle.sock_words.specs.declared.plain.Plan.{Plan}
use Rattle.sock_words.specs.declared.outcome.Outcome.{Outcome}
use Rattle.sock_words.specs.declared.outcome.Outcome.TheVariants as outcome
use Rattle.sock_words.specs.PackedWords.{socket_id_version, socket_id_slot}
use Rattle.sock_model.specs.declared.marks.Mark.TheVariants.{Hold}
use Rattle.sock_model.specs.declared.view.View.{View}
use Rattle.sock_table.specs.ReferenceCalls.{GaveBack}
use Rattle.sock_table.specs.ReferenceAnswers as answers
use Rattle.sock_table.specs.declared.refs.SockRef.{SockRef}
use Rattle.rpc_client.specs.declared.reaching.Reached.TheVariants as reached
use Rattle.rpc_client.specs.ReachingByName.{ReachedBy}

-- this seat's step failed the life of the id, and stored the code; or it had been failed
abbrev pub SetBy : ℕ → ℕ → Outcome → View → View → Type 0
SetBy id code outcome.Failed v w = answers.FailedBy id code v w
SetBy id code (outcome.Already found) v w = answers.FoundFailed id found.0 v w
SetBy id code _ v w = ⊥

-- with a reference that was got by the name and is given back
pub record TriedTo (p : Plan) (n code : ℕ) (by : Outcome) (v w : View) : Type 0 where
  pub sock : SockRef
  pub has : View
  pub reached_it : ReachedBy p n (reached.Here sock) v has
  pub set : View
  pub set_by : SetBy sock.id.0 code by has set
  pub ended : Bool
  pub back : GaveBack (socket_id_slot sock.id.0) set w (Hold (socket_id_version sock.id.0)) ended

abbrev pub FailedBy : Plan → ℕ → ℕ → Outcome → View → View → Type 0
FailedBy p n code outcome.Unopened v w = ReachedBy p n reached.Unopened v w
FailedBy p n code (outcome.Gone found) v w = ReachedBy p n (reached.Gone found) v w
FailedBy p n code outcome.Failed v w = TriedTo p n code outcome.Failed v w
FailedBy p n code (outcome.Already found) v w = TriedTo p n code (outcome.Already found) v w
FailedBy p n code _ v w = ⊥
