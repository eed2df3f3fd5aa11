-- The words of the command line.
use Rattle.std.specs.Prelude.{ℕ, List, [], map, drop, string_bytes, Result, Ok, Err, String}
use Rattle.std.specs.declared.alloc.Global.{Global}
use Rattle.std.specs.Vec.Iter.{into_iter_items}
use Rattle.std.specs.declared.vec.IntoIter.{IntoIter}
use Rattle.std.specs.declared.io.Error.{Error}

-- the arguments with which the program was started, its name first; none where they can't be had as text
abbrev pub arguments : Result (IntoIter (String Global) Global) Error → List (String Global)
arguments (Ok args) = into_iter_items args
arguments (Err error) = []

-- those behind the name, as bytes
abbrev pub words_behind : Result (IntoIter (String Global) Global) Error → List (List ℕ)
words_behind args = map string_bytes (drop 1 (arguments args))
