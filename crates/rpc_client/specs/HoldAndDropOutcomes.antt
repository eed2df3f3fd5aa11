-- The references that a client keeps.
use Rattle.std.specs.Prelude.{◌≡◌, ℕ, ◌<◌, ◌==◌, Bool, true, false, List, [], ◌∷◌, ◌++◌, Option, Some, None, All, position}
use Rattle.std.specs.List.{remove}
use mathlib.Core.Option.{some}
use lib.ListN.{get_elem?}
use Rattle.sock_words.specs.declared.plain.Plan.{Plan}
use Rattle.sock_words.specs.declared.socket_id.SocketId.{SocketId}
use Rattle.sock_words.specs.declared.outcome.Outcome.{Outcome}
use Rattle.sock_words.specs.declared.outcome.Outcome.TheVariants as outcome
use Rattle.sock_words.specs.PackedWords.{socket_id_version, socket_id_slot}
use Rattle.sock_model.specs.declared.marks.Mark.TheVariants.{Hold}
use Rattle.sock_model.specs.declared.view.View.{View}
use Rattle.sock_model.specs.MarkWeights.{only, pair, is_ref, is_hold}
use Rattle.sock_model.specs.SlotRows.{marks_of}
use Rattle.sock_table.specs.ReferenceCalls.{GaveBack}
use Rattle.rpc_client.specs.declared.holding.Held.{Held}
use Rattle.rpc_client.specs.declared.reaching.Reached.TheVariants as reached
use Rattle.rpc_client.specs.ReachingByName.{ReachedBy}
use Rattle.sock_words.specs.Totals.{total}

abbrev pub is_there : ℕ → Held → ℕ
is_there i x = only i (socket_id_slot x.id.0)

abbrev pub is_life : ℕ → ℕ → Held → ℕ
is_life i h x = pair i h (socket_id_slot x.id.0) (socket_id_version x.id.0)

-- the seat's references are those of the list, as often as they stand there
pub record IsHolder (p : Plan) (held : List Held) (v : View) : Type 0 where
  pub refs : (i : ℕ) → marks_of is_ref i v ≡ total (is_there i) held
  pub lives : (i h : ℕ) → marks_of (is_hold h) i v ≡ total (is_life i h) held
  pub inside : All (λ (x : Held). socket_id_slot x.id.0 < p.slots) held

-- a `hold`: `held` exactly where the seat has the reference, which stands at the end of the list then
abbrev pub HeldBy : Plan → ℕ → Outcome → List Held → View → List Held → View → Type 0
HeldBy p n outcome.Unopened h v k w = (k ≡ h) × ReachedBy p n reached.Unopened v w
HeldBy p n (outcome.Gone found) h v k w = (k ≡ h) × ReachedBy p n (reached.Gone found) v w
HeldBy p n outcome.Held h v k w = (id : SocketId) × (k ≡ h ++ record { name = n; id = id } ∷ []) × ReachedBy p n (reached.Here record { id = id }) v w
HeldBy p n _ h v k w = ⊥

-- the reference at this place was given back, and with it the life ended or not
pub record GaveOne (at : ℕ) (ended : Bool) (h : List Held) (v : View) (k : List Held) (w : View) : Type 0 where
  pub held : Held
  pub there : get_elem? h at ≡ some held
  pub left : k ≡ remove h at
  pub back : GaveBack (socket_id_slot held.id.0) v w (Hold (socket_id_version held.id.0)) ended

-- what is told of a reference that was given back, by whether its slot came free
abbrev pub given_as : Bool → Outcome
given_as true = outcome.Freed
given_as false = outcome.Kept

abbrev pub GivenBy : ℕ → Outcome → List Held → View → List Held → View → Type 0
GivenBy at outcome.Freed h v k w = GaveOne at true h v k w
GivenBy at outcome.Kept h v k w = GaveOne at false h v k w
GivenBy at _ h v k w = ⊥

-- the place of the first reference that was got by this name
abbrev pub place_in : ℕ → List Held → Option ℕ
place_in n h = position (λ (x : Held). x.name == n) h

-- a `drop`: `not held` exactly where the list has none of this name
abbrev pub DroppedBy : ℕ → Outcome → List Held → View → List Held → View → Type 0
DroppedBy n outcome.NotHeld h v k w = (place_in n h ≡ None) × (k ≡ h) × (w ≡ v)
DroppedBy n outcome.Freed h v k w = (at : ℕ) × (place_in n h ≡ Some at) × GaveOne at true h v k w
DroppedBy n outcome.Kept h v k w = (at : ℕ) × (place_in n h ≡ Some at) × GaveOne at false h v k w
DroppedBy n _ h v k w = ⊥
