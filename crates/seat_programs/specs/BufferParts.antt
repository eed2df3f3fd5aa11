-- What is put next of a message, by the parts of which its buffer was made.
use Rattle.std.specs.Prelude.{ℕ, ◌-◌, ◌%◌, List, [], ◌∷◌, take, min, nat_lt, if◌then◌else◌}

-- how many bytes the piece has at most behind so many: up to the end of the part, or of a block of 8,192 in it
abbrev pub room_of_part : List ℕ → ℕ → ℕ
room_of_part [] taken = 8192 - taken % 8192
room_of_part (n ∷ ns) taken = if nat_lt taken n then min (n - taken) (8192 - taken % 8192) else room_of_part ns (taken - n)

abbrev pub part : List ℕ → List ℕ → ℕ → List ℕ
part parts left taken = take (room_of_part parts taken) left
