-- The words that are ids of lives.
use Rattle.std.proofs.Common.{◌≡◌, ◌≢◌, ℕ, true, arith}
use Rattle.std.proofs.lemmas.Bool.Decides.{nat_tests}
use Rattle.seat_programs.specs.StepsOfNames.{is_id}
use Rattle.sock_words.specs.PackedWords.{NO_SOCKET}

pub id_some : (w : ℕ) → is_id w ≡ true → w ≢ 0
id_some w h = grind (arith, nat_tests)

pub id_socket : (w : ℕ) → is_id w ≡ true → w ≢ NO_SOCKET
id_socket w h = grind (arith, nat_tests)
