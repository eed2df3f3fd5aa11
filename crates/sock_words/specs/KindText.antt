-- The names of the kinds of step, as a script writes them.
use Rattle.std.specs.Prelude.{ℕ, List, [], ◌∷◌, Bool, map, bytes_eq, codes}
use Rattle.std.specs.List.{list_any}
use Rattle.sock_words.specs.declared.kind.Kind.{Kind}
use Rattle.sock_words.specs.declared.kind.Kind.TheVariants.{A1, A2, A3, A4, A5, A6, A7, A8, S1, S2, S3, S4, S5, S6, S7, C1, C2, C3, C4, C5, C6, C7, C8, P1, M1, M2, L1, L2, W1, W2, W3, R1, I1, I2, I3, I4, I5, I6, I7, I8, T1, T2, K1, K2}

-- the name of a kind
abbrev pub kind_text : Kind → List ℕ
kind_text A1 = codes "A1"
kind_text A2 = codes "A2"
kind_text A3 = codes "A3"
kind_text A4 = codes "A4"
kind_text A5 = codes "A5"
kind_text A6 = codes "A6"
kind_text A7 = codes "A7"
kind_text A8 = codes "A8"
kind_text S1 = codes "S1"
kind_text S2 = codes "S2"
kind_text S3 = codes "S3"
kind_text S4 = codes "S4"
kind_text S5 = codes "S5"
kind_text S6 = codes "S6"
kind_text S7 = codes "S7"
kind_text C1 = codes "C1"
kind_text C2 = codes "C2"
kind_text C3 = codes "C3"
kind_text C4 = codes "C4"
kind_text C5 = codes "C5"
kind_text C6 = codes "C6"
kind_text C7 = codes "C7"
kind_text C8 = codes "C8"
kind_text P1 = codes "P1"
kind_text M1 = codes "M1"
kind_text M2 = codes "M2"
kind_text L1 = codes "L1"
kind_text L2 = codes "L2"
kind_text W1 = codes "W1"
kind_text W2 = codes "W2"
kind_text W3 = codes "W3"
kind_text R1 = codes "R1"
kind_text I1 = codes "I1"
kind_text I2 = codes "I2"
kind_text I3 = codes "I3"
kind_text I4 = codes "I4"
kind_text I5 = codes "I5"
kind_text I6 = codes "I6"
kind_text I7 = codes "I7"
kind_text I8 = codes "I8"
kind_text T1 = codes "T1"
kind_text T2 = codes "T2"
kind_text K1 = codes "K1"
kind_text K2 = codes "K2"

-- every kind
abbrev pub kinds : List Kind
kinds = A1 ∷ A2 ∷ A3 ∷ A4 ∷ A5 ∷ A6 ∷ A7 ∷ A8 ∷ S1 ∷ S2 ∷ S3 ∷ S4 ∷ S5 ∷ S6 ∷ S7 ∷ C1 ∷ C2 ∷ C3 ∷ C4 ∷ C5 ∷ C6 ∷ C7 ∷ C8 ∷ P1 ∷ M1 ∷ M2 ∷ L1 ∷ L2 ∷ W1 ∷ W2 ∷ W3 ∷ R1 ∷ I1 ∷ I2 ∷ I3 ∷ I4 ∷ I5 ∷ I6 ∷ I7 ∷ I8 ∷ T1 ∷ T2 ∷ K1 ∷ K2 ∷ []

-- whether some kind has this name
unfoldable pub is_kind_name : List ℕ → Bool
is_kind_name text = list_any (bytes_eq text) (map kind_text kinds)
