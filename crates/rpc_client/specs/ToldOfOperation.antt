-- What is told of an operation, and what a client gives back in the end.
use Rattle.std.specs.Prelude.{◌≡◌, ℕ, zero, suc, Bool, true, false, List, [], ◌∷◌, Option, Some, None}
use mathlib.Core.Option.{some}
use lib.ListN.{get_elem?}
use Rattle.sock_words.specs.declared.outcome.Outcome.{Outcome}
use Rattle.sock_words.specs.declared.outcome.Outcome.TheVariants as outcome
use Rattle.sock_model.specs.declared.view.View.{View}
use Rattle.rpc_client.specs.declared.acting.Told.{Told}
use Rattle.rpc_client.specs.declared.holding.Held.{Held}
use Rattle.rpc_client.specs.SendingOutcomes.{Returned}

-- what is told of an operation: nothing of a send that was accepted
abbrev pub telling : ℕ → Option Outcome → List Told
telling number None = []
telling number (Some by) = record { number = number; outcome = by } ∷ []

-- the operation opened its name, or found it
abbrev pub finds_name : Option Outcome → Bool
finds_name None = true
finds_name (Some (outcome.Opened slot version link)) = true
finds_name (Some (outcome.Gone found)) = true
finds_name (Some outcome.Full) = true
finds_name (Some outcome.Held) = true
finds_name (Some outcome.Failed) = true
finds_name (Some (outcome.Already found)) = true
finds_name (Some _) = false

-- the first n references of the list were given back, the oldest first
abbrev pub GaveFirst : List Held → ℕ → View → View → Type 0
GaveFirst held zero v w = w ≡ v
GaveFirst held (suc n) v w = (u : View) × (x : Held) × GaveFirst held n v u × (get_elem? held n ≡ some x) × Returned x.id.0 u w
