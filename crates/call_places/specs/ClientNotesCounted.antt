-- What the closed table of ids has of the seats of the clients.
use Rattle.std.specs.Prelude.{ℕ, ◌≤◌, List}
use Rattle.corr_core.specs.IdSlotLaw.{only}
use Rattle.corr_core.specs.declared.marks.Note.{Note}
use Rattle.corr_core.specs.declared.marks.Note.TheVariants.{Made}
use Rattle.corr_core.specs.declared.marks.Noted.{Noted}
use Rattle.corr_core.specs.declared.marks.View.{View}
use Rattle.id_rule.specs.LawfulIdTable.{notes_of}
use Rattle.sock_message.specs.Asked.{Asked}
use Rattle.sock_words.specs.Totals.{total}

-- 1 for a note that the id of this operation's call was made
abbrev pub makes_for : ℕ → Note Asked → ℕ
makes_for o (Made f r asked) = only o asked.operation
makes_for o _ = 0

abbrev pub makes : ℕ → Noted Asked → ℕ
makes o n = makes_for o n.note

-- these notes are at least those of these seats, of which each id was made
pub record HaveNotesOf (views : List (View Asked)) (notes : List (Noted Asked)) : Type 0 where
  pub all : (i : ℕ) (f : Note Asked → ℕ) → total (λ (v : View Asked). total f (notes_of i v.notes)) views ≤ total f (notes_of i notes)
  pub made : (o : ℕ) → total (makes o) notes ≤ total (λ (v : View Asked). total (makes o) v.notes) views
