-- What the calls of whoever sends a message leave.
use Rattle.std.specs.Prelude.{◌≡◌, ◌≢◌, ℕ, ◌/◌, ◌%◌, ◌<◌, ◌≤◌, List, [], ◌∷◌, length}
use Rattle.atomic_table.specs.Table.{Me, rest}
use Rattle.sock_words.specs.declared.plain.Plan.{Plan}
use Rattle.sock_model.specs.declared.chain.Claim.{Claim}
use Rattle.sock_model.specs.declared.chain.Heading.{Heading}
use Rattle.sock_model.specs.declared.view.View.{View}
use Rattle.sock_model.specs.SocketTableLayout.{request_index}
use Rattle.sock_model.specs.ChainStepConditions.{MayExchange}
use Rattle.sock_model.specs.ChainRows.{with_claim, fresh_claim, filled_claim, queued, righted}
use Rattle.sock_model.specs.Rule.{MOST_ACCEPTED, noting}
use Rattle.sock_model.specs.MessageLabels.{blank}
use Rattle.sock_words.specs.PackedWords.{IDLE}

-- C1: where the word was even the request is claimed, and its home is out with the seat
abbrev pub Asked : {S : Type 0} → Plan → ℕ → ℕ → Me S View → Me S View → Type 0
Asked {S} p at found m n = (found % 2 ≡ 0 → (y : S) × (found / 2 < 140737488355328) × (n ≡ (with_claim m.0 (fresh_claim 0 at found blank []), (at, y) ∷ m.1))) × (found % 2 ≢ 0 → n ≡ (noting (request_index p at) m.0, m.1))

-- the seat's one claim is c
abbrev pub Claims : Claim → View → Type 0
Claims c v = v.claims ≡ c ∷ []

-- the slot that was taken last is this one
abbrev pub OnTop : {S : Type 0} → ℕ → Me S View → Type 0
OnTop {S} at m = (y : S) × (m.1 ≡ (at, y) ∷ rest m.1)

-- the claim c with the message in its home, and for link k
abbrev pub filled_for : Claim → ℕ → Heading → List ℕ → Claim
filled_for c k heading bytes = filled_claim (record c { link = k }) heading bytes

-- C2: the exchange may be made, and the seat's own list has room
pub record MaySwap (p : Plan) (v : View) (i own : ℕ) : Type 0 where
  pub exchange : MayExchange p v i own
  pub room : length exchange.made < MOST_ACCEPTED

-- it found a busy head, or an idle one
abbrev pub Swapped : {S : Type 0} → Claim → ℕ → Me S View → Me S View → Type 0
Swapped c found m n = (n.1 ≡ m.1) × (found < IDLE → n.0 ≡ queued m.0 c found) × (IDLE ≤ found → (sent : List ℕ) × (places : ℕ) × (n.0 ≡ righted m.0 c found sent places))
