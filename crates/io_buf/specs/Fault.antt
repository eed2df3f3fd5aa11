-- Why a cut was refused.
use Rattle.std.specs.Prelude.{◌≡◌, ℕ, ◌<◌, ◌≤◌}
use Rattle.io_buf.specs.declared.fault.CutFault.{CutFault}
use Rattle.io_buf.specs.declared.fault.CutFault.TheVariants.{Short, NoMemory}

-- n bytes were asked for, of `len`: too many, or there was no memory
abbrev pub IsCauseOf : ℕ → ℕ → CutFault → Type 0
IsCauseOf len n (Short have) = (len < n) × (have ≡ len)
IsCauseOf len n NoMemory = n ≤ len
