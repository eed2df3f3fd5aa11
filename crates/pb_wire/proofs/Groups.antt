-- The bytes of a varint: how many are followed by another, the sum of their groups, and the shortest ones.
use Rattle.std.proofs.Common.{◌≡◌, ℕ, zero, suc, ◌≤◌, ◌<◌, ◌+◌, ◌-◌, ◌*◌, ◌/◌, ◌%◌, ◌^◌, min, true, false, if◌then◌else◌, List, [], ◌∷◌, ◌++◌, length, get_or, take, drop, ap, sym, ◌∙◌, arith, ⊎_elim, append_assoc}
use Rattle.std.proofs.Math.Nat.{mod-add-mod, pow-suc}
use Rattle.std.proofs.Math.ListN.{set}
use Rattle.std.proofs.lemmas.List.{drop_more, take_more_set}
use Rattle.std.proofs.lemmas.List.Sums.{prefix_len_is, prefix_len_stops}
use Rattle.std.proofs.lemmas.Nat.{mul-mod_first, div_below}
use Rattle.std.proofs.lemmas.Bool.{cases_lt, false≢true, lt-ltb, le-ltb}
use Rattle.std.specs.List.{prefix_len}
use Rattle.brpc_model.specs.Wire.{goes_on, low_first, varint_up_to}

-- ## How many bytes are followed

at_least : (bytes : List ℕ) (i : ℕ) → i ≤ length bytes → ((k : ℕ) → k < i → goes_on (get_or bytes k 0) ≡ true) → i ≤ prefix_len goes_on bytes
at_least bytes i h each =
    ⊎_elim (λ short.
    let stops = prefix_len_stops goes_on bytes 0 (omega (arith, short, h)) in
    absurd (false≢true (sym stops ∙ each (prefix_len goes_on bytes) short)))
    (λ enough. enough) (cases_lt (prefix_len goes_on bytes) i)

-- a count of bytes that are followed stops at ten, at a byte that isn't followed, or at the end
pub followed : (most : ℕ) (bytes : List ℕ) (i : ℕ) → i ≤ length bytes → i ≤ most → ((k : ℕ) → k < i → goes_on (get_or bytes k 0) ≡ true) →
    (i < most → i < length bytes → goes_on (get_or bytes i 0) ≡ false) → i ≡ min most (prefix_len goes_on bytes)
followed most bytes i h m each stop =
    ⊎_elim (λ short.
    let e = prefix_len_is goes_on bytes i 0 h each (stop short) in
    omega (arith, e, short))
    (λ full.
    let a = at_least bytes i h each in
    omega (arith, a, full, m)) (cases_lt i most)

-- ## The sum of groups

one_group : (m b x : ℕ) → ((x % m * 128) % m + b % 128) % m ≡ (b % 128 + 128 * x) % m
one_group m b x =
    ap (λ y. (y + b % 128) % m) (mul-mod_first x 128 m)
    ∙ mod-add-mod (x * 128) m (b % 128)
    ∙ (let e : x * 128 + b % 128 ≡ b % 128 + 128 * x = omega arith in ap (λ y. y % m) e)

pub more_groups : (m : ℕ) (bytes : List ℕ) (i : ℕ) → i < length bytes →
    ((low_first (drop (i + 1) bytes) % m * 128) % m + get_or bytes i 0 % 128) % m ≡ low_first (drop i bytes) % m
more_groups m bytes i h =
    one_group m (get_or bytes i 0) (low_first (drop (i + 1) bytes))
    ∙ ap (λ l. low_first l % m) (sym (drop_more bytes i 0 h))

-- ## The shortest varint

first_of_more : (room n : ℕ) → 128 ≤ n → n < 128 ^ suc room →
    (0 < room) × (n / 128 < 128 ^ room) × (varint_up_to (suc room) n ≡ (n % 128 + 128) ∷ varint_up_to room (n / 128))
first_of_more room n more fits =
    let below : n / 128 < 128 ^ room = div_below n 128 (128 ^ room) (omega arith) (rw (← pow-suc 128 room) fits) in (
      at_least_one room below,
      below,
      ap (λ b. if b then n ∷ [] else (n % 128 + 128) ∷ varint_up_to room (n / 128)) (le-ltb n 128 more),
    )
  where
    at_least_one : (r : ℕ) → n / 128 < 128 ^ r → 0 < r
    at_least_one zero h = absurd (omega (arith, h, more))
    at_least_one (suc r) h = omega arith

-- a byte is written that is followed by another
pub spell_more : (most size n : ℕ) → size < most → 128 ≤ n → n < 128 ^ (most - size) →
    (size + 1 < most) × (n / 128 < 128 ^ (most - (size + 1)))
    × ((bytes : List ℕ) → size < length bytes → take (size + 1) (set bytes size (n % 128 + 128)) ++ varint_up_to (most - (size + 1)) (n / 128) ≡ take size bytes ++ varint_up_to (most - size) n)
spell_more most size n short more fits =
    let e : most - size ≡ suc (most - (size + 1)) = omega arith in
    let step = first_of_more (most - (size + 1)) n more (rw (← e) fits) in (
      omega (arith, step.0),
      step.1,
      λ bytes h.
          ap (λ l. l ++ varint_up_to (most - (size + 1)) (n / 128)) (take_more_set bytes size (n % 128 + 128) h)
          ∙ append_assoc (take size bytes) ((n % 128 + 128) ∷ []) (varint_up_to (most - (size + 1)) (n / 128))
          ∙ ap (λ l. take size bytes ++ l) (sym step.2)
          ∙ ap (λ room. take size bytes ++ varint_up_to room n) (sym e),
    )

-- the last byte is written
pub spell_last : (most size n : ℕ) (bytes : List ℕ) → size < most → n < 128 → size < length bytes →
    take (size + 1) (set bytes size n) ≡ take size bytes ++ varint_up_to (most - size) n
spell_last most size n bytes short last h =
    let e : most - size ≡ suc (most - (size + 1)) = omega arith in
    take_more_set bytes size n h
    ∙ ap (λ b. take size bytes ++ (if b then n ∷ [] else (n % 128 + 128) ∷ varint_up_to (most - (size + 1)) (n / 128))) (sym (lt-ltb n 128 last))
    ∙ ap (λ room. take size bytes ++ varint_up_to room n) (sym e)

-- ten bytes are enough for a number of 64 bits
pub ten_are_enough : (n : ℕ) → n < 2 ^ 64 → n < 128 ^ 10
ten_are_enough n h = omega (arith, h)

-- a byte is counted that is followed by another
pub counted_more : (most size n : ℕ) → size < most → 128 ≤ n → n < 128 ^ (most - size) →
    (size + 1 < most) × (n / 128 < 128 ^ (most - (size + 1))) × (length (varint_up_to (most - size) n) ≡ 1 + length (varint_up_to (most - (size + 1)) (n / 128)))
counted_more most size n short more fits =
    let e : most - size ≡ suc (most - (size + 1)) = omega arith in
    let step = first_of_more (most - (size + 1)) n more (rw (← e) fits) in
    (omega (arith, step.0), step.1, omega (arith, ap (λ room. length (varint_up_to room n)) e, ap length step.2))

-- the last byte is counted
pub counted_last : (most size n : ℕ) → size < most → n < 128 → length (varint_up_to (most - size) n) ≡ 1
counted_last most size n short last =
    let e : most - size ≡ suc (most - (size + 1)) = omega arith in
    ap (λ room. length (varint_up_to room n)) e
    ∙ ap (λ b. length (if b then n ∷ [] else (n % 128 + 128) ∷ varint_up_to (most - (size + 1)) (n / 128))) (lt-ltb n 128 last)
