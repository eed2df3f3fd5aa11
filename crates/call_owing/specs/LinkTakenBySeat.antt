-- The link whose bytes a seat takes.
use Rattle.std.specs.Prelude.{ℕ, List, [], ◌∷◌}
use Rattle.seat_programs.specs.Asides.{TakeBytes}
use Rattle.seat_programs.specs.LoopHeads.{Reads, Discards}
use Rattle.seat_programs.specs.Programs.{Program, Aside, Round}

-- the link of which the next step takes bytes, if it takes some
abbrev pub taken_link : Program → List ℕ
taken_link (Aside (TakeBytes k room) next) = k ∷ []
taken_link (Round (Reads r) next) = r.link ∷ []
taken_link (Round (Discards k total) next) = k ∷ []
taken_link other = []
