-- A seat of a table.
use Rattle.std.specs.Prelude.{◌≡◌, ℕ, ◌<◌, [], Option}
use Rattle.atomic_table.specs.Seated.{TableId}
use Rattle.atomic_table.specs.declared.shared.Seat.{Seat}
use Rattle.corr_core.specs.declared.marks.View.{View}
use Rattle.id_rule.specs.LawfulIdTable.{tokens_in}

module _ {C : Type 0} where
  -- it is one of this table, and stands for some
  abbrev pub Sits : TableId → Seat (Option C) (View C) → Type 0
  Sits z s = (s.table_id ≡ z) × (0 < s.me.0.share)

  -- it is the same seat, with the same slots in hand
  abbrev pub Stays : Seat (Option C) (View C) → Seat (Option C) (View C) → Type 0
  Stays s t = (t.table_id ≡ s.table_id) × (t.id ≡ s.id) × (t.me.1 ≡ s.me.1)

  -- it has no lock, and nothing else of any slot
  abbrev pub IsFree : View C → Type 0
  IsFree v = (j : ℕ) → tokens_in j v ≡ []
