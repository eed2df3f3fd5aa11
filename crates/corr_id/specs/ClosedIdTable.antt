-- The seats that are handed in at the end, and the words that come back.
use Rattle.std.specs.Prelude.{◌≡◌, ℕ, ◌<◌, List, [], Option, map, slice_index}
use Rattle.corr_core.specs.IdSlotLaw.{Each}
use Rattle.atomic_table.specs.Seated.{TableId}
use Rattle.atomic_table.specs.declared.shared.Seat.{Seat}
use Rattle.sock_words.specs.declared.id_word.IdWord.{IdWord}
use Rattle.corr_core.specs.declared.marks.View.{View}
use Rattle.corr_core.specs.IdTableLayout.{id_index}
use Rattle.corr_id.specs.IdTableSeat.{IsFree}

-- each is of this table, and holds no slot and no lock
abbrev pub AllOf : {C : Type 0} → TableId → List (Seat (Option C) (View C)) → Type 0
AllOf z = Each (λ s. (s.table_id ≡ z) × (s.me.1 ≡ []) × IsFree s.me.0)

-- the first n are the id words of their slots
abbrev pub AreIdWords : ℕ → List IdWord → List ℕ → Type 0
AreIdWords n xs ws = (j : ℕ) → j < n → slice_index (map (λ (w : IdWord). w.0) xs) j ≡ slice_index ws (id_index j)
