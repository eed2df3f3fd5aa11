-- A new table with its seats.
use Rattle.std.specs.Prelude.{◌≡◌, List, [], Option}
use Rattle.atomic_table.specs.Seated.{TableId}
use Rattle.atomic_table.specs.declared.shared.Seat.{Seat}
use Rattle.corr_core.specs.IdSlotLaw.{Each}
use Rattle.corr_core.specs.declared.marks.View.{View}
use Rattle.id_rule.specs.LawfulIdTable.{newcomer}

-- each is of this table, holds nothing and noted nothing, and stands for itself
abbrev pub AreNew : {C : Type 0} → TableId → List (Seat (Option C) (View C)) → Type 0
AreNew z = Each (λ s. (s.table_id ≡ z) × (s.me ≡ (newcomer, [])))
