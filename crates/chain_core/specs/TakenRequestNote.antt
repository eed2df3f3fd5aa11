-- What a seat notes where it found a request taken.
use Rattle.std.specs.Prelude.{◌≡◌, ℕ, ◌<◌, [], slice_index}
use mathlib.Core.Option.{some}
use lib.ListN.{get_elem?}
use Rattle.atomic_table.specs.Table.{State, stepped, keeps}
use Rattle.sock_words.specs.declared.plain.Plan.{Plan}
use Rattle.sock_model.specs.declared.home.Home.{Home}
use Rattle.sock_model.specs.declared.view.View.{View}
use Rattle.sock_model.specs.SocketTableLayout.{request_index}
use Rattle.sock_model.specs.Rule.{Rule, noting}

-- in every state that meets the whole rule, where a seat of this table found this word of request r, the rule still holds with its note
abbrev pub NotesTaken : (r found next : ℕ) → Type 0
NotesTaken r found next = (p : Plan) (s : State Home View) (id : ℕ) (v : View) → Rule (λ home. home) p s → get_elem? s.views id ≡ some v → v.plan ≡ p → r < p.requests → slice_index s.words (request_index p r) ≡ found
    → Rule (λ home. home) p (stepped s (request_index p r) next id [] (noting (request_index p r) v) keeps)
