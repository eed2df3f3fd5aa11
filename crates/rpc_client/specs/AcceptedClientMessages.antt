-- The messages of a client that were accepted.
use Rattle.std.specs.Prelude.{◌≡◌, ℕ, ◌≤◌, List, ◌∷◌, length}
use Rattle.sock_model.specs.declared.chain.Entry.{Entry}
use Rattle.sock_model.specs.declared.view.View.{View}

-- its own list of accepted messages stands first, and has at most n
pub record OwnList (n : ℕ) (v : View) : Type 0 where
  pub made : List Entry
  pub taken_in : List (List Entry)
  pub lists : v.lists ≡ made ∷ taken_in
  pub few : length made ≤ n
