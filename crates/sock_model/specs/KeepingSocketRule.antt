-- What is asked of a step on one word: that the rule of the sockets holds after it, whatever the state was before.
use Rattle.std.specs.Prelude.{◌≡◌, ℕ, [], slice_index}
use mathlib.Core.Option.{some}
use lib.ListN.{get_elem?}
use Rattle.atomic_table.specs.Table.{State, stepped, keeps}
use Rattle.sock_words.specs.declared.plain.Plan.{Plan}
use Rattle.sock_model.specs.declared.home.Home.{Home}
use Rattle.sock_model.specs.declared.view.View.{View}
use Rattle.sock_model.specs.LawfulSockets.{Lawful}

-- the rule holds of s once the word at place x is `next` and the view of seat id is w
abbrev pub LawfulAfter : Plan → State Home View → (x next id : ℕ) → View → Type 0
LawfulAfter p s x next id w = Lawful (λ home. home) p (stepped s x next id [] w keeps)

-- in every state that meets the rule, where the view v of a seat allows the step and the word at the place is `found`
abbrev pub WhereLawful : (may : Plan → View → Type 0) → (place : Plan → ℕ) → (found : ℕ) → ((p : Plan) (s : State Home View) (id : ℕ) (v : View) → may p v → Type 0) → Type 0
WhereLawful may place found After = (p : Plan) (s : State Home View) (id : ℕ) (v : View) → Lawful (λ home. home) p s → get_elem? s.views id ≡ some v → (m : may p v) → slice_index s.words (place p) ≡ found → After p s id v m

-- the rule still holds there once that word is `next` and the seat's view has become its row
abbrev pub KeepsRule : (may : Plan → View → Type 0) → (place : Plan → ℕ) → (found next : ℕ) → (row : (p : Plan) (v : View) → may p v → View) → Type 0
KeepsRule may place found next row = WhereLawful may place found (λ p s id v m. LawfulAfter p s (place p) next id (row p v m))
