-- The marks of one slot, and how marks and notes come and go.
use Rattle.std.specs.Prelude.{ℕ, ◌%◌, List, [], ◌∷◌, cond, ◌==◌}
use Rattle.sock_model.specs.declared.marks.Mark.{Mark}
use Rattle.sock_model.specs.declared.marks.Mark.TheVariants.{Zero}
use Rattle.sock_model.specs.declared.marks.SlotMark.{SlotMark}
use Rattle.sock_model.specs.declared.view.StoredWord.{StoredWord}
use Rattle.sock_model.specs.MarkWeights.{only}

-- the marks of one slot
abbrev pub about : ℕ → List SlotMark → List Mark
about i [] = []
about i (e ∷ es) = cond (e.slot == i) (e.mark ∷ about i es) (about i es)

abbrev pub at : ℕ → Mark → SlotMark
at i m = record { slot = i; mark = m }

-- without the first mark that has a weight
abbrev pub without : (Mark → ℕ) → List Mark → List Mark
without g [] = []
without g (m ∷ ms) = cond (g m == 0) (m ∷ without g ms) ms

-- without the first entry of slot i whose mark has a weight
abbrev pub without_at : ℕ → (Mark → ℕ) → List SlotMark → List SlotMark
without_at i g [] = []
without_at i g (e ∷ es) = cond (e.slot == i) (cond (g e.mark == 0) (e ∷ without_at i g es) es) (e ∷ without_at i g es)

-- whoever takes nref from 1 to 0 at an odd version has its one exchange left
unfoldable pub dropped : ℕ → ℕ → List Mark → List Mark
dropped v r ms = cond (v % 2 == 1) (cond (r == 1) (Zero v ∷ ms) ms) ms

-- without the first k
abbrev pub without_pass : ℕ → List ℕ → List ℕ
without_pass k [] = []
without_pass k (x ∷ xs) = cond (x == k) xs (x ∷ without_pass k xs)

-- the word that a seat stored last at a place, or 0
abbrev pub latest : ℕ → List StoredWord → ℕ
latest x [] = 0
latest x (n ∷ ns) = cond (n.place == x) n.word (latest x ns)

-- 1 where the seat's last word for the place x is w
abbrev pub says : ℕ → ℕ → List StoredWord → ℕ
says x w ns = only w (latest x ns)

-- a note is added to the first list
abbrev pub noted : StoredWord → List (List StoredWord) → List (List StoredWord)
noted n [] = (n ∷ []) ∷ []
noted n (ns ∷ rest) = (n ∷ ns) ∷ rest
