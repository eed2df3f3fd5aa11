-- What a contract sees of a connection.
use Rattle.std.specs.Prelude.{ℕ, Bool, false, List, [], refl}
use Rattle.std.specs.Coded.{Coded, code_by, coded×, coded_list, coded_ℕ, coded_bool}

-- the bytes of the frame that isn't whole yet, or of what is no frame; how many replies were made; and whether it has answered a frame's fault
pub record Held : Type 0 where
  pub bytes : List ℕ
  pub made : ℕ
  pub told : Bool

-- it is stored as its fields in a row
abbrev pub held_code : Coded Held
held_code = code_by (List ℕ × (ℕ × Bool)) (coded× (coded_list coded_ℕ) (coded× coded_ℕ coded_bool)) (λ h. (h.bytes, (h.made, h.told))) (λ p. record { bytes = p.0; made = p.1.0; told = p.1.1 }) (λ _. refl)

abbrev pub unused : Held
unused = record { bytes = []; made = 0; told = false }
