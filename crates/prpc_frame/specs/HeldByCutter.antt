-- What a contract sees of a cutter.
use Rattle.std.specs.Prelude.{ℕ, Bool, false, if◌then◌else◌, List, [], ◌++◌, length, refl}
use Rattle.std.specs.Coded.{Coded, code_by, coded×, coded_list, coded_ℕ, coded_bool}

-- the bytes that were fed and neither given in a frame nor let go, and whether it has answered their fault
pub record Held : Type 0 where
  pub bytes : List ℕ
  pub told : Bool

-- it is stored as the pair of its fields
abbrev pub held_code : Coded Held
held_code = code_by (List ℕ × Bool) (coded× (coded_list coded_ℕ) coded_bool) (λ h. (h.bytes, h.told)) (λ p. record { bytes = p.0; told = p.1 }) (λ _. refl)

abbrev pub unfed : Held
unfed = record { bytes = []; told = false }

-- the bytes of a fault that was answered are let go
abbrev pub held_count : Held → ℕ
held_count h = if h.told then 0 else length h.bytes

-- fed with a piece: behind such a fault nothing is kept
abbrev pub with_piece : Held → List ℕ → Held
with_piece h piece = if h.told then h else record { bytes = h.bytes ++ piece; told = false }
