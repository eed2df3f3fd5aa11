-- To what a name leads.
use Rattle.std.specs.Prelude.{ℕ, Some, None}
use Rattle.sock_words.specs.declared.plain.Plan.{Plan}
use Rattle.sock_words.specs.declared.socket_id.SocketId.{SocketId}
use Rattle.sock_model.specs.declared.view.View.{View}
use Rattle.sock_table.specs.NamesStoredAndFound.{Found}
use Rattle.sock_table.specs.ReferenceAnswers.{Held, GoneFrom, NoneLater}
use Rattle.rpc_client.specs.declared.reaching.Reached.{Reached}
use Rattle.rpc_client.specs.declared.reaching.Reached.TheVariants.{Unopened, Gone, Here}
use Rattle.rpc_client.specs.SeatBetweenOperations.{SameRefs, OneMore}

-- the word of the name that was read was 0; or the word of its id's slot has a later version; or it has the id's, and the seat has a reference to that life
abbrev pub ReachedBy : Plan → ℕ → Reached → View → View → Type 0
ReachedBy p n Unopened v w = Found p n None v w
ReachedBy p n (Gone found) v w = (id : SocketId) × (u : View) × Found p n (Some id) v u × GoneFrom id.0 found.0 u w
ReachedBy p n (Here sock) v w = (u : View) × Found p n (Some sock.id) v u × Held sock.id.0 u w × NoneLater sock.id.0 u

-- what it has of references then
abbrev pub RefsBy : Reached → View → View → Type 0
RefsBy Unopened v w = SameRefs v w
RefsBy (Gone found) v w = SameRefs v w
RefsBy (Here sock) v w = OneMore sock.id.0 v w
