-- Where the messages lie that have no place yet.
use Rattle.std.specs.Prelude.{◌≡◌, ℕ, ◌<◌, ◌≤◌, ◌⊎◌, true, List, [], ◌∷◌}
use mathlib.Core.Option.{Option, some}
use lib.ListN.{get_elem?}
use Rattle.sock_model.specs.declared.chain.Heading.{Heading}
use Rattle.sock_model.specs.declared.chain.Entry.{Entry}
use Rattle.sock_model.specs.declared.chain.Stage.TheVariants.{Writes}
use Rattle.sock_model.specs.declared.chain.Right.{Right}
use Rattle.sock_model.specs.declared.chain.Claim.{Claim}
use Rattle.sock_model.specs.Entries.{ticket, on}
use Rattle.sock_model.specs.ChainTokens.{Tokens}

abbrev pub HeadedBytes : Type 0
HeadedBytes = Heading × List ℕ

-- the holder of the right to write link k has the message of e in hand
pub record InHand (t : Tokens) (k : ℕ) (e : Entry) : Type 0 where
  -- the right
  pub right : Right
  -- which one seat has
  pub has : t.rights k ≡ right ∷ []
  -- and which writes this entry next
  pub stage : right.stage ≡ Writes (ticket e)
  -- took the message out of its home
  pub taken : right.taken ≡ true

-- message has what the home of a request holds
pub record Messages (links requests : ℕ) (message : ℕ → Option HeadedBytes) (t : Tokens) (log : List Entry) (places : ℕ → ℕ) : Type 0 where
  -- a filled claim's message is at home
  pub claimed : (r : ℕ) (c : Claim) → r < requests → t.claims r ≡ c ∷ [] → c.filled ≡ true → message r ≡ some (c.heading, c.bytes)
  -- what is in hand is the message of the first entry without a place
  pub taken_writes : (k : ℕ) (r : Right) → k < links → t.rights k ≡ r ∷ [] → r.taken ≡ true → (now : ℕ) × (r.stage ≡ Writes now)
  -- and the right knows its label and its bytes
  pub in_hand : (k : ℕ) (r : Right) (e : Entry) → k < links → t.rights k ≡ r ∷ [] → r.taken ≡ true → get_elem? (on k log) (places k) ≡ some e → (r.heading ≡ e.heading) × (r.bytes ≡ e.bytes)
  -- a message without a place is at home, or in hand of whoever writes it
  pub waiting : (k i : ℕ) (e : Entry) → places k ≤ i → get_elem? (on k log) i ≡ some e → (message e.request ≡ some (e.heading, e.bytes)) ⊎ InHand t k e
