-- The place word of a message that stands at a place of a link.
use Rattle.std.proofs.Common.{◌≡◌, ℕ, suc, ◌+◌, ◌*◌, ◌/◌, ◌^◌, ◌<◌, Bool, true, false, arith}
use Rattle.std.proofs.lemmas.Bool.Decides.{nat_tests}
use Rattle.sock_words.specs.PackedWords.{IsPlaceWord, place_word}

-- it tells this place
pub is_place : (dropped : Bool) (k i : ℕ) → k < 65536 → i < 4294967295 → IsPlaceWord (place_word dropped k i) dropped k i
is_place true k i low few =
    let w : ℕ = 9223372036854775808 + (k * 4294967296 + suc i) in
    let one : w / 2 ^ 63 ≡ 1 = omega (arith, low, few) in
    record { dropped_is = grind (arith, nat_tests, one); link_is = omega (arith, low, few); position_is = omega (arith, low, few); has_position = omega (arith, low, few) }
is_place false k i low few =
    let w : ℕ = k * 4294967296 + suc i in
    let one : w / 2 ^ 63 ≡ 0 = omega (arith, low, few) in
    record { dropped_is = grind (arith, nat_tests, one); link_is = omega (arith, low, few); position_is = omega (arith, low, few); has_position = omega (arith, low, few) }
