-- A varint is read exactly where the bytes spell one.
use Rattle.std.proofs.Common.{◌≡◌, ◌≢◌, ℕ, suc, ◌<◌, ◌≤◌, ◌+◌, ◌-◌, ◌%◌, ◌^◌, ◌==◌, nat_le, Bool, true, false, if◌then◌else◌, List, [], ◌∷◌, ◌++◌, length, get_or, take, drop, slice_range, Result, Ok, Err, IfOk, refl, ap, sym, ◌∙◌, subst, ⊎_elim, arith}
use Rattle.std.proofs.lemmas.List.{length-take, length-drop, take-append-drop, length-take-le, take_more, take_at, append_assoc, length-append}
use Rattle.std.proofs.lemmas.List.Sums.{prefix_len_stops, prefix_len-le-length}
use Rattle.std.proofs.lemmas.List.Elements.{All-cons, All-nil, All-head, All-tail}
use Rattle.std.proofs.lemmas.Bool.{le-leb, lt-leb, leb-false}
use Rattle.std.proofs.lemmas.Bool.Decides.{leb_tells, eqb_tells}
use Rattle.std.proofs.lemmas.Grind.{common_steps}
use Rattle.std.specs.List.{All, prefix_len}
use Rattle.brpc_model.specs.Wire.{WireFault, Truncated, LongVarint, Wire, Front, goes_on, low_first, varint}
use Rattle.pb_wire.specs.declared.fault.WireFault as declared
use Rattle.pb_wire.specs.WireCallAnswers.{varint_front}
use Rattle.pb_wire.specs.Form.{IsVarint}

-- the varint, by how many bytes are followed
abbrev varint_by : ℕ → List ℕ → ℕ → Wire (Front ℕ)
varint_by at bytes more =
    if nat_le 10 more then Err (LongVarint at)
    else if more == length bytes then Err (Truncated at)
    else Ok (record { value = low_first (take (more + 1) bytes) % 2 ^ 64; size = more + 1 })

varint_is : (at : ℕ) (bytes : List ℕ) → varint at bytes ≡ varint_by at bytes (prefix_len goes_on bytes)
varint_is at bytes = ap (varint_by at bytes) (length-take-le (prefix_len goes_on bytes) bytes (prefix_len-le-length goes_on bytes))

followed_all : (bytes : List ℕ) → All (λ b. 128 ≤ b) (take (prefix_len goes_on bytes) bytes)
followed_all [] = All-nil (λ b. 128 ≤ b)
followed_all (b ∷ bytes) =
    ⊎_elim (λ (y : (goes_on b ≡ true) × (128 ≤ b)). rw (y.0, one_more) (All-cons (λ b. 128 ≤ b) b (take (prefix_len goes_on bytes) bytes) y.1 (followed_all bytes))) (λ (n : (goes_on b ≡ false) × (b < 128)). rw n.0 (All-nil (λ b. 128 ≤ b))) (leb_tells 128 b)
  where
    one_more : 1 + prefix_len goes_on bytes ≡ suc (prefix_len goes_on bytes)
    one_more = omega arith

-- where bytes end that are followed and a byte that isn't
followed_count : (front : List ℕ) (last : ℕ) (more : List ℕ) → All (λ b. 128 ≤ b) front → last < 128 → prefix_len goes_on (front ++ last ∷ more) ≡ length front
followed_count [] last more h k = rw (lt-leb 128 last k) refl
followed_count (b ∷ front) last more h k = rw (le-leb 128 b (All-head (λ b. 128 ≤ b) b front h)) (ap (λ n. 1 + n) (followed_count front last more (All-tail (λ b. 128 ≤ b) b front h) k) ∙ one_more)
  where
    one_more : 1 + length front ≡ suc (length front)
    one_more = omega arith

abbrev value_in : Wire (Front ℕ) → ℕ
value_in (Ok f) = f.value
value_in (Err x) = 0

abbrev size_in : Wire (Front ℕ) → ℕ
size_in (Ok f) = f.size
size_in (Err x) = 0

-- what a reading that isn't a fault says
record Made (bytes : List ℕ) (more : ℕ) (f : Front ℕ) : Type 0 where
  few : more < 10
  inside : more < length bytes
  value : f.value ≡ low_first (take (more + 1) bytes) % 2 ^ 64
  size : f.size ≡ more + 1

made : (at : ℕ) (bytes : List ℕ) (more : ℕ) (f : Front ℕ) → more ≤ length bytes → varint_by at bytes more ≡ Ok f → Made bytes more f
made at bytes more f h e =
    ⊎_elim (λ (long : (nat_le 10 more ≡ true) × (10 ≤ more)). absurd (no_fault _ (ap (λ b. if b then Err (LongVarint at) else short (more == length bytes)) (sym long.0) ∙ e)))
    (λ (few : (nat_le 10 more ≡ false) × (more < 10)).
    let e2 : short (more == length bytes) ≡ Ok f = ap (λ b. if b then Err (LongVarint at) else short (more == length bytes)) (sym few.0) ∙ e in
    ⊎_elim (λ (all : ((more == length bytes) ≡ true) × (more ≡ length bytes)). absurd (no_fault _ (ap short (sym all.0) ∙ e2)))
    (λ (some : ((more == length bytes) ≡ false) × (more ≢ length bytes)).
    let e3 : Ok found ≡ Ok f = ap short (sym some.0) ∙ e2 in
    record { few = few.1; inside = omega (arith, h, some.1); value = sym (ap value_in e3); size = sym (ap size_in e3) })
    (eqb_tells more (length bytes)))
    (leb_tells 10 more)
  where
    found : Front ℕ
    found = record { value = low_first (take (more + 1) bytes) % 2 ^ 64; size = more + 1 }

    short : Bool → Wire (Front ℕ)
    short b = if b then Err (Truncated at) else Ok found

    no_fault : (x : WireFault) → Err x ≡ Ok f → ⊥
    no_fault x e = cc

-- what is read is a varint
pub read_form : (at : ℕ) (bytes : List ℕ) (f : Front ℕ) → varint at bytes ≡ Ok f → (f.size ≤ length bytes) × IsVarint (take f.size bytes) f.value
read_form at bytes f e =
    let p = prefix_len goes_on bytes in
    let m = made at bytes p f (prefix_len-le-length goes_on bytes) (sym (varint_is at bytes) ∙ e) in
    let spelled = form bytes p m.few m.inside (followed_all bytes) (leb-false 128 (get_or bytes p 0) (prefix_len_stops goes_on bytes 0 m.inside)) in
    let P : ℕ → Type 0 = λ n. IsVarint (take n bytes) f.value in
    let Q : ℕ → Type 0 = λ v. IsVarint (take (p + 1) bytes) v in
    (omega (arith, m.size, m.inside), subst P (sym m.size) (subst Q (sym m.value) spelled))
  where
    form : (bytes : List ℕ) (more : ℕ) → more < 10 → more < length bytes → All (λ b. 128 ≤ b) (take more bytes) → get_or bytes more 0 < 128 →
        IsVarint (take (more + 1) bytes) (low_first (take (more + 1) bytes) % 2 ^ 64)
    form bytes more few inside h k = record {
      front = take more bytes;
      last = get_or bytes more 0;
      parts = take_more bytes more 0 inside;
      followed = h;
      ends = k;
      few = let e : length (take (more + 1) bytes) ≡ more + 1 = length-take-le (more + 1) bytes (omega (arith, inside)) in omega (arith, e, few);
      number = refl;
    }

-- a varint is read, whatever follows it
pub form_read : (at : ℕ) (spelled more : List ℕ) (n : ℕ) → IsVarint spelled n → varint at (spelled ++ more) ≡ Ok (record { value = n; size = length spelled })
form_read at spelled more n v =
    let joined : spelled ++ more ≡ v.front ++ v.last ∷ more = ap (λ l. l ++ more) v.parts ∙ append_assoc v.front (v.last ∷ []) more in
    let count : prefix_len goes_on (spelled ++ more) ≡ length v.front = ap (prefix_len goes_on) joined ∙ followed_count v.front v.last more v.followed v.ends in
    let size : length spelled ≡ length v.front + 1 = ap length v.parts ∙ length-append v.front (v.last ∷ []) in
    let total = length-append spelled more in
    varint_is at (spelled ++ more)
    ∙ ap (varint_by at (spelled ++ more)) count
    ∙ ap (λ b. if b then Err (LongVarint at) else if length v.front == length (spelled ++ more) then Err (Truncated at) else Ok (record { value = low_first (take (length v.front + 1) (spelled ++ more)) % 2 ^ 64; size = length v.front + 1 }))
    (lt-leb 10 (length v.front) (omega (arith, size, v.few)))
    ∙ ap (λ b. if b then Err (Truncated at) else Ok (record { value = low_first (take (length v.front + 1) (spelled ++ more)) % 2 ^ 64; size = length v.front + 1 }))
    (apart (length v.front) (length (spelled ++ more)) (omega (arith, total, size)))
    ∙ ap (λ s. Ok (record { value = low_first (take s (spelled ++ more)) % 2 ^ 64; size = s })) (sym size)
    ∙ ap (λ l. Ok (record { value = low_first l % 2 ^ 64; size = length spelled })) (take_at spelled more (length spelled) refl)
    ∙ ap (λ v. Ok (record { value = v; size = length spelled })) (sym v.number)
  where
    apart : (a b : ℕ) → a < b → (a == b) ≡ false
    apart a b h = grind (arith, common_steps)

-- ## What a call answers

-- what is answered is a varint
pub answer_form : (bytes : List ℕ) (at : ℕ) (r : Result (ℕ × ℕ) declared.WireFault) → varint_front at r ≡ varint at (drop at bytes) → IfOk r (λ r. IsVarint (slice_range bytes at r.1) r.0)
answer_form bytes at (Ok r) e = (read_form at (drop at bytes) (record { value = r.0; size = r.1 - at }) (sym e)).1
answer_form bytes at (Err x) e = tt

-- and each varint is answered
pub form_answer : (bytes : List ℕ) (at : ℕ) (r : Result (ℕ × ℕ) declared.WireFault) → varint_front at r ≡ varint at (drop at bytes) → IfOk r (λ r. at < r.1) →
    (n to : ℕ) → at ≤ to → to ≤ length bytes → IsVarint (slice_range bytes at to) n → r ≡ Ok (n, to)
form_answer bytes at r e later n to h k v = same r (e ∙ read) later
  where
    read : varint at (drop at bytes) ≡ Ok (record { value = n; size = to - at })
    read =
        let size : length (slice_range bytes at to) ≡ to - at = simp (length-take, length-drop) (omega arith) in
        ap (λ l. varint at l) (sym (take-append-drop (to - at) (drop at bytes)))
        ∙ form_read at (slice_range bytes at to) (drop (to - at) (drop at bytes)) n v
        ∙ ap (λ s. Ok (record { value = n; size = s })) size

    same : (r : Result (ℕ × ℕ) declared.WireFault) → varint_front at r ≡ Ok (record { value = n; size = to - at }) → IfOk r (λ r. at < r.1) → r ≡ Ok (n, to)
    same (Ok (m, next)) e later =
        let number : m ≡ n = ap value_in e in
        let size : next - at ≡ to - at = ap size_in e in
        let place : next ≡ to = omega (arith, size, later, h) in
        ap (λ m. Ok (m, next)) number ∙ ap (λ p. Ok (n, p)) place
    same (Err x) e later = absurd (cc)
