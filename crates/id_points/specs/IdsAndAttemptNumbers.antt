-- What the ids of calls and the numbers of attempts stand for.
use Rattle.std.specs.Prelude.{ℕ, ◌%◌}
use Rattle.id_points.specs.declared.call_id.CallId.{CallId}
use Rattle.id_points.specs.declared.call_id.AttemptNumber.{AttemptNumber}
use Rattle.sock_words.specs.PackedWords.{call_id}

abbrev pub id_of : CallId → ℕ
id_of id = call_id id.slot (id.first % 67108864)

abbrev pub number_of : AttemptNumber → ℕ
number_of n = n.0 % 8
