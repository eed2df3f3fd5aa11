-- The rule by what the table was told once, and what the steps tell that take a link, where the ways of the links are said with them.
use Rattle.std.specs.Prelude.{◌≡◌, ℕ, List, ◌∷◌}
use Rattle.atomic_table.specs.Table.{State, Me, Step, rest}
use Rattle.sock_io.specs.declared.link.Out.{Ghosts}
use Rattle.sock_model.specs.declared.home.Home.{Home}
use Rattle.sock_model.specs.declared.view.View.{View}
use Rattle.sock_rule.specs.declared.key.TableKey.{TableKey}
use Rattle.sock_rule.specs.declared.homes.LinkHome.{LinkHome}
use Rattle.sock_rule.specs.declared.homes.SockHome.{SockHome}
use Rattle.sock_rule.specs.declared.homes.SockHome.TheVariants.{Link}
use Rattle.sock_rule.specs.Shows.{shows_in, rose, SaidWays}
use Rattle.sock_rule.specs.OnTable.{OnTable, opener}
use Rattle.sock_rule.specs.SocketPlays.{take_last_told, spend_told}
use Rattle.sock_rule.specs.ChainPlays.{take_own_told}

abbrev pub shows_by : {O : Type 0} {g : Ghosts O} → TableKey → SockHome O g → Home
shows_by key = shows_in key.plan key.ways.list

abbrev pub OnKey : {O : Type 0} {g : Ghosts O} → TableKey → State (SockHome O g) View → Type 0
OnKey {O} {g} key = OnTable (shows_by {O = O} {g = g} key) (rose {O = O} {g = g}) key.plan

abbrev pub opener_by : TableKey → View
opener_by key = opener key.plan

module _ {O : Type 0} {g : Ghosts O} where
  abbrev pub take_own_said : Step (SockHome O g) → Me (SockHome O g) View → ℕ → Me (SockHome O g) View → Type 0
  take_own_said st m found n = (ways : List (List ℕ)) → SaidWays ways st.said → take_own_told (shows_in m.0.plan ways) rose st m found n

  abbrev pub take_last_said : Step (SockHome O g) → Me (SockHome O g) View → ℕ → Me (SockHome O g) View → Type 0
  take_last_said st m found n = (ways : List (List ℕ)) → SaidWays ways st.said → take_last_told (shows_in m.0.plan ways) rose st m found n

  abbrev pub spend_said : Step (SockHome O g) → Me (SockHome O g) View → ℕ → Me (SockHome O g) View → Type 0
  spend_said st m found n = (ways : List (List ℕ)) → SaidWays ways st.said → spend_told (shows_in m.0.plan ways) rose st m found n

  -- a link lies in the home that the seat has in hand first, which is this one
  abbrev pub LinkOnTop : ℕ → Me (SockHome O g) View → Type 0
  LinkOnTop slot m = (h : LinkHome O g) × (m.1 ≡ (slot, Link h) ∷ rest m.1)
