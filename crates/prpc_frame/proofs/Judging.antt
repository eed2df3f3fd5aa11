-- How bytes are judged, case by case, and that more bytes behind them change nothing of what was told.
use Rattle.std.proofs.Common.{◌≡◌, ℕ, ◌+◌, ◌<◌, ◌≤◌, ◌==◌, Bool, true, false, not, ◌&&◌, List, [], ◌∷◌, ◌++◌, length, take, drop, refl, ap, sym, ◌∙◌, arith, length-append, length-drop}
use Rattle.std.proofs.lemmas.Bool.{lt-ltb, le-ltb, eq-eqb, eqb-true, eqb-false}
use Rattle.std.proofs.lemmas.Bool.Decides.{nat_tests}
use Rattle.std.proofs.lemmas.List.{take-append-le, drop-append-le}
use Rattle.std.proofs.lemmas.List.Sums.{common_prefix_len-le}
use Rattle.std.specs.List.{common_prefix_len}
use Rattle.rpc_meta.specs.brpc_model.specs.Meta.{read_meta}
use Rattle.rpc_meta.specs.brpc_model.specs.Frame.{NoneYet, Faulty, BadMagic, TooBig, MetaOver, judged, body_judged, matching, magic, body_limit}
use Rattle.prpc_frame.specs.Header.{magic_wrong, body_size, meta_size, inside_of}

-- ## The cases

pub told_wrong : (bytes : List ℕ) → magic_wrong bytes ≡ true → judged bytes ≡ Faulty (BadMagic (matching bytes))
told_wrong bytes w = rw w refl

pub told_short : (bytes : List ℕ) → magic_wrong bytes ≡ false → length bytes < 12 → judged bytes ≡ NoneYet
told_short bytes w s = rw (w, lt-ltb (length bytes) 12 s) refl

pub told_big : (bytes : List ℕ) → magic_wrong bytes ≡ false → 12 ≤ length bytes → body_limit < body_size bytes → judged bytes ≡ Faulty (TooBig (body_size bytes))
told_big bytes w s b = rw (w, le-ltb (length bytes) 12 s, lt-ltb body_limit (body_size bytes) b) refl

pub told_over : (bytes : List ℕ) → magic_wrong bytes ≡ false → 12 ≤ length bytes → body_size bytes ≤ body_limit → body_size bytes < meta_size bytes →
    judged bytes ≡ Faulty (MetaOver (meta_size bytes) (body_size bytes))
told_over bytes w s b m = rw (w, le-ltb (length bytes) 12 s, le-ltb body_limit (body_size bytes) b, lt-ltb (body_size bytes) (meta_size bytes) m) refl

pub told_lacking : (bytes : List ℕ) → magic_wrong bytes ≡ false → 12 ≤ length bytes → body_size bytes ≤ body_limit → meta_size bytes ≤ body_size bytes →
    length bytes < 12 + body_size bytes → judged bytes ≡ NoneYet
told_lacking bytes w s b m l =
    rw (w, le-ltb (length bytes) 12 s, le-ltb body_limit (body_size bytes) b, le-ltb (body_size bytes) (meta_size bytes) m, lt-ltb (length bytes) (12 + body_size bytes) l) refl

pub told_whole : (bytes : List ℕ) → magic_wrong bytes ≡ false → 12 ≤ length bytes → body_size bytes ≤ body_limit → meta_size bytes ≤ body_size bytes →
    12 + body_size bytes ≤ length bytes →
    judged bytes ≡ body_judged (read_meta (take (meta_size bytes) (inside_of (body_size bytes) bytes))) (drop (meta_size bytes) (inside_of (body_size bytes) bytes)) (body_size bytes)
told_whole bytes w s b m l =
    rw (w, le-ltb (length bytes) 12 s, le-ltb body_limit (body_size bytes) b, le-ltb (body_size bytes) (meta_size bytes) m, le-ltb (length bytes) (12 + body_size bytes) l) refl

-- ## More bytes behind them

prefix_more_step : (e : ℕ → ℕ → Bool) (x y : ℕ) (p xs ys : List ℕ) (b : Bool) → e x y ≡ b →
    (common_prefix_len e p xs < length xs → common_prefix_len e p (xs ++ ys) ≡ common_prefix_len e p xs) →
    common_prefix_len e (x ∷ p) (y ∷ xs) < length (y ∷ xs) → common_prefix_len e (x ∷ p) (y ∷ (xs ++ ys)) ≡ common_prefix_len e (x ∷ p) (y ∷ xs)
prefix_more_step e x y p xs ys true t ih h =
    let g : common_prefix_len e (x ∷ p) (y ∷ xs) ≡ 1 + common_prefix_len e p xs = rw t refl in
    rw t (ap (λ (n : ℕ). 1 + n) (ih (omega (arith, h, g))))
prefix_more_step e x y p xs ys false t ih h = rw t refl

prefix_more : (e : ℕ → ℕ → Bool) (p xs ys : List ℕ) → common_prefix_len e p xs < length xs → common_prefix_len e p (xs ++ ys) ≡ common_prefix_len e p xs
prefix_more e [] xs ys h = refl
prefix_more e (x ∷ p) [] ys h = absurd (omega (arith, h))
prefix_more e (x ∷ p) (y ∷ xs) ys h = prefix_more_step e x y p xs ys (e x y) refl (prefix_more e p xs ys) h

prefix_all_step : (e : ℕ → ℕ → Bool) (x y : ℕ) (p xs ys : List ℕ) (b : Bool) → e x y ≡ b →
    (common_prefix_len e p xs ≡ length p → common_prefix_len e p (xs ++ ys) ≡ length p) →
    common_prefix_len e (x ∷ p) (y ∷ xs) ≡ length (x ∷ p) → common_prefix_len e (x ∷ p) (y ∷ (xs ++ ys)) ≡ length (x ∷ p)
prefix_all_step e x y p xs ys true t ih h =
    let g : common_prefix_len e (x ∷ p) (y ∷ xs) ≡ 1 + common_prefix_len e p xs = rw t refl in
    let k : common_prefix_len e p (xs ++ ys) ≡ length p = ih (omega (arith, h, g)) in
    rw t (omega (arith, k))
prefix_all_step e x y p xs ys false t ih h =
    let g : common_prefix_len e (x ∷ p) (y ∷ xs) ≡ 0 = rw t refl in
    absurd (omega (arith, h, g))

prefix_all : (e : ℕ → ℕ → Bool) (p xs ys : List ℕ) → common_prefix_len e p xs ≡ length p → common_prefix_len e p (xs ++ ys) ≡ length p
prefix_all e [] xs ys h = refl
prefix_all e (x ∷ p) [] ys h = absurd (omega (arith, h))
prefix_all e (x ∷ p) (y ∷ xs) ys h = prefix_all_step e x y p xs ys (e x y) refl (prefix_all e p xs ys) h

both : (a b : Bool) → (not a && not b) ≡ true → (a ≡ false) × (b ≡ false)
both true b h = absurd (cc)
both false true h = absurd (cc)
both false false h = (refl, refl)

first : (a b : Bool) → (not a && not b) ≡ false → b ≡ false → a ≡ true
first true b h k = refl
first false true h k = absurd (cc)
first false false h k = absurd (cc)

differs : (a b : Bool) → a ≡ false → b ≡ false → (not a && not b) ≡ true
differs a b h k = rw (h, k) refl

pub no_eqb : (a b : ℕ) → (a ≡ b → ⊥) → (a == b) ≡ false
no_eqb a b h = grind (arith, nat_tests)

pub wrong_when : (bytes : List ℕ) → (matching bytes ≡ 4 → ⊥) → (matching bytes ≡ length bytes → ⊥) → magic_wrong bytes ≡ true
wrong_when bytes f n = differs (matching bytes == 4) (matching bytes == length bytes) (no_eqb (matching bytes) 4 f) (no_eqb (matching bytes) (length bytes) n)

pub right_at_4 : (bytes : List ℕ) → matching bytes ≡ 4 → magic_wrong bytes ≡ false
right_at_4 bytes e = rw (eq-eqb (matching bytes) 4 e) refl

neither : (a b : Bool) → b ≡ true → (not a && not b) ≡ false
neither true b e = refl
neither false b e = rw e refl

pub right_at_end : (bytes : List ℕ) → matching bytes ≡ length bytes → magic_wrong bytes ≡ false
right_at_end bytes e = neither (matching bytes == 4) (matching bytes == length bytes) (eq-eqb (matching bytes) (length bytes) e)

pub same_match : (bytes more : List ℕ) → magic_wrong bytes ≡ true → matching (bytes ++ more) ≡ matching bytes
same_match bytes more w =
    let k = both (matching bytes == 4) (matching bytes == length bytes) w in
    let n = eqb-false (matching bytes) (length bytes) k.1 in
    let le = common_prefix_len-le (λ (a b : ℕ). a == b) magic bytes in
    prefix_more (λ (a b : ℕ). a == b) magic bytes more (omega (arith, n, le.1))

pub still_wrong : (bytes more : List ℕ) → magic_wrong bytes ≡ true → magic_wrong (bytes ++ more) ≡ true
still_wrong bytes more w =
    let k = both (matching bytes == 4) (matching bytes == length bytes) w in
    let same = same_match bytes more w in
    let n = eqb-false (matching bytes) (length bytes) k.1 in
    let f = eqb-false (matching bytes) 4 k.0 in
    let le = common_prefix_len-le (λ (a b : ℕ). a == b) magic bytes in
    let size = length-append bytes more in
    differs (matching (bytes ++ more) == 4) (matching (bytes ++ more) == length (bytes ++ more))
    (no_eqb (matching (bytes ++ more)) 4 (λ e. f (sym same ∙ e)))
    (no_eqb (matching (bytes ++ more)) (length (bytes ++ more)) (λ e. omega (arith, same, n, le.1, size, e)))

pub still_right : (bytes more : List ℕ) → magic_wrong bytes ≡ false → 12 ≤ length bytes → magic_wrong (bytes ++ more) ≡ false
still_right bytes more w s =
    let le = common_prefix_len-le (λ (a b : ℕ). a == b) magic bytes in
    let four : matching bytes ≤ 4 = le.0 in
    let t = first (matching bytes == 4) (matching bytes == length bytes) w (no_eqb (matching bytes) (length bytes) (λ e. omega (arith, four, s, e))) in
    let whole : matching (bytes ++ more) ≡ 4 = prefix_all (λ (a b : ℕ). a == b) magic bytes more (eqb-true (matching bytes) 4 t) in
    rw (eq-eqb (matching (bytes ++ more)) 4 whole) refl

pub same_word : (n : ℕ) (bytes more : List ℕ) → n + 4 ≤ length bytes → take 4 (drop n (bytes ++ more)) ≡ take 4 (drop n bytes)
same_word n bytes more h =
    ap (λ (l : List ℕ). take 4 l) (drop-append-le n bytes more (omega arith))
    ∙ take-append-le 4 (drop n bytes) more (omega (arith, length-drop n bytes))

pub same_inside : (body : ℕ) (bytes more : List ℕ) → 12 + body ≤ length bytes → inside_of body (bytes ++ more) ≡ inside_of body bytes
same_inside body bytes more h =
    ap (λ (l : List ℕ). take body l) (drop-append-le 12 bytes more (omega arith))
    ∙ take-append-le body (drop 12 bytes) more (omega (arith, length-drop 12 bytes))
