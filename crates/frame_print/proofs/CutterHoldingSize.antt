-- How many bytes a cutter holds that has answered no fault.
use Rattle.std.proofs.Common.{◌≡◌, ℕ, false, List, length, Result, Ok, Err, OnOk, ap, ◌∙◌}
use Rattle.std.specs.Prelude.{if◌then◌else◌, ◌++◌, is_err}
use Rattle.sock_words.specs.declared.memory.NoMemory.{NoMemory}
use Rattle.prpc_frame.specs.HeldByCutter.{Held, held_count, with_piece}

pub held_untold : (h : Held) → h.told ≡ false → held_count h ≡ length h.bytes
held_untold h e = ap (λ b. if b then 0 else length h.bytes) e

pub fed_untold : (r : Result (Unit {0}) NoMemory) (old new : Held) (piece : List ℕ) → is_err r ≡ false → old.told ≡ false → OnOk r (new ≡ with_piece old piece) → new.told ≡ false
fed_untold (Ok u) old new piece ok e h =
    ap (λ (h : Held). h.told) h ∙ ap (λ b. let h : Held = if b then old else record { bytes = old.bytes ++ piece; told = false } in h.told) e
fed_untold (Err x) old new piece ok e h = absurd (cc)
