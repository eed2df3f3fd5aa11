-- The ids of a seat's notes: of the lives that it failed, each with its code, and of those that it ended.
use Rattle.std.specs.Prelude.{ℕ, ◌+◌, List, [], ◌∷◌, ◌++◌}
use Rattle.sock_model.specs.declared.marks.Mark.{Mark}
use Rattle.sock_model.specs.declared.marks.Mark.TheVariants.{Stored, Freer}
use Rattle.sock_model.specs.declared.marks.SlotMark.{SlotMark}
use Rattle.sock_words.specs.PackedWords.{socket_id}

abbrev pub fail_of : ℕ → Mark → List (ℕ × ℕ)
fail_of i (Stored h c) = (socket_id h i, c) ∷ []
fail_of i _ = []

abbrev pub free_of : ℕ → Mark → List ℕ
free_of i (Freer h) = socket_id h i ∷ []
free_of i _ = []

-- the latest first
abbrev pub fails : List SlotMark → List (ℕ × ℕ)
fails [] = []
fails (e ∷ es) = fail_of e.slot e.mark ++ fails es

abbrev pub frees : List SlotMark → List ℕ
frees [] = []
frees (e ∷ es) = free_of e.slot e.mark ++ frees es
