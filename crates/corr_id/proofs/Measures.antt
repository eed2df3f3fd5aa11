-- Each unlocking exchange leaves fewer to be made.
use Rattle.std.proofs.Common.{◌≡◌, ◌≢◌, ℕ, ◌+◌, ◌-◌, ◌*◌, ◌/◌, ◌%◌, ◌<◌, ◌≤◌, ◌⊎◌, inl, inr, ⊎_elim, Bool, true, false, cond, eqb, eq-eqb, ne_eqb, Some, None, sym, refl, ap, ◌∙◌, arith}
use Rattle.std.specs.Prelude.{Option as Maybe, IfSome, not, ◌&&◌}
use mathlib.Core.Logic.{dite}
use native.Mathlib.Decide.{ℕ_discrete}
use Rattle.corr_core.specs.IdSlotWord.{Parts, parts, unlocked_word, code_of, attempt_of}
use Rattle.id_rule.specs.IdPlays.{Longer}
use Rattle.corr_id.specs.Ruled.{IsFresh}
use Rattle.corr_id.specs.SeatBehindIdCalls.{error_in}
use Rattle.corr_id.specs.PostAnswers.{IsTimely}
use Rattle.corr_id.specs.Unlocks.{stale, some_error, exchanges_left}
use Rattle.sock_words.specs.PackedWords.{bit}

-- a word is made of its parts
low_is : (x : ℕ) → x ≡ x / 32768 * 32768 + x % 32768
low_is x = omega arith

pub word_of : (x : ℕ) → x ≡ (parts x).first * 274877906944 + ((parts x).state * 68719476736 + (((parts x).range - 1) * 8589934592 + ((parts x).attempt * 1073741824 + ((parts x).oldest * 32768 + (parts x).second))))
word_of x = omega arith

pub same_word : (x y : ℕ) → (parts x).first ≡ (parts y).first → (parts x).state ≡ (parts y).state → (parts x).range ≡ (parts y).range → (parts x).attempt ≡ (parts y).attempt → (parts x).oldest ≡ (parts y).oldest → (parts x).second ≡ (parts y).second → x ≡ y
same_word x y a b c d e f = word_of x ∙ ((λ z. a z * 274877906944 + (b z * 68719476736 + ((c z - 1) * 8589934592 + (d z * 1073741824 + (e z * 32768 + f z))))) ∙ sym (word_of y))

bit_le : (b : Bool) → cond {A = ℕ} b 1 0 ≤ 1
bit_le true = omega arith
bit_le false = omega arith

stale_le : (a e : ℕ) → stale a e ≤ 1
stale_le a e = bit_le (not (eqb e 0) && (not (eqb (attempt_of e) 7) && not (eqb (attempt_of e) a)))

stale_none : (a e : ℕ) → e ≡ 0 → stale a e ≡ 0
stale_none a e z = ap (λ b. cond {A = ℕ} (not b && (not (eqb (attempt_of e) 7) && not (eqb (attempt_of e) a))) 1 0) (eq-eqb e 0 z)

and_false : (b : Bool) → (b && false) ≡ false
and_false true = refl
and_false false = refl

stale_fresh : (a e : ℕ) → IsFresh a e → stale a e ≡ 0
stale_fresh a e h = ⊎_elim
    (λ z. ap (λ b. cond {A = ℕ} (not (eqb e 0) && (not b && not (eqb (attempt_of e) a))) 1 0) (eq-eqb (attempt_of e) 7 z) ∙ ap (λ b. cond {A = ℕ} b 1 0) (and_false (not (eqb e 0))))
    (λ z. ap (λ b. cond {A = ℕ} (not (eqb e 0) && (not (eqb (attempt_of e) 7) && not b)) 1 0) (eq-eqb (attempt_of e) a z)
    ∙ (ap (λ b. cond {A = ℕ} (not (eqb e 0) && b) 1 0) (and_false (not (eqb (attempt_of e) 7))) ∙ ap (λ b. cond {A = ℕ} b 1 0) (and_false (not (eqb e 0)))))
    h

stale_other : (a e : ℕ) → e ≢ 0 → attempt_of e ≢ 7 → attempt_of e ≢ a → stale a e ≡ 1
stale_other a e nz n7 na = λ k. cond {A = ℕ} (not (ne_eqb e 0 nz k) && (not (ne_eqb (attempt_of e) 7 n7 k) && not (ne_eqb (attempt_of e) a na k))) 1 0

some_none : (e : ℕ) → e ≡ 0 → some_error e ≡ 0
some_none e z = ap (λ b. cond {A = ℕ} b 0 1) (eq-eqb e 0 z)

some_some : (e : ℕ) → e ≢ 0 → some_error e ≡ 1
some_some e n = ap (λ b. cond {A = ℕ} b 0 1) (ne_eqb e 0 n)

-- the attempt of an error that is handed out is the current one
pub timely : (r : Maybe ℕ) (e a : ℕ) → e ≢ 0 → error_in (code_of e) r ≡ e → IfSome r (λ n. n ≢ 7) → stale a e ≡ 0 → IsTimely r a
timely None e a nz is one z = tt
timely (Some n) e a nz is one z = let same : attempt_of e ≡ n = omega arith in dite (ℕ_discrete n a)
    (λ q. q)
    (λ q. let k = stale_other a e nz (λ y. one (sym same ∙ y)) (λ y. q (sym same ∙ y)) in absurd (omega arith))

less_first : (t a b c d f : ℕ) → a ≡ 0 → b ≡ 0 → c ≡ 0 → d ≡ 0 → f ≡ 1 → (g h x y : ℕ) → g ≡ 0 → h ≡ 0 → (x ≡ 0) ⊎ (x ≡ 1) → 100 * t + 3 * (g + h) + (2 - (f + x)) < 100 * t + 3 * (a + b) + (2 - (c + d))
less_first t a b c d f za zb zc zd of g h x y zg zh wh = ⊎_elim (λ z. omega arith) (λ z. omega arith) wh

-- an exchange that found another word
pub lost_less : (x y : ℕ) (step : Bool) → y ≢ x → (parts x).state ≡ 2 → ((parts x).oldest ≡ 0 → (parts x).second ≡ 0) → Longer (parts x).first (parts x).range (parts x).attempt (parts x).oldest (parts x).second (parts y)
    → ((parts x).oldest ≡ 0 → (parts y).oldest ≢ 0 → IsFresh (parts y).attempt (parts y).oldest) × ((parts x).second ≡ 0 → (parts y).second ≢ 0 → IsFresh (parts y).attempt (parts y).second) → exchanges_left (parts y) step < exchanges_left (parts x) step
lost_less x y step ne two order l fresh =
    let w : Parts = parts x in let q : Parts = parts y in
    let equal : q.oldest ≡ w.oldest → q.second ≡ w.second → ⊥ = λ a b. ne (same_word y x (sym l.first_is) (l.state_is ∙ sym two) (sym l.range_is) (sym l.attempt_is) a b) in
    dite (ℕ_discrete w.oldest 0)
    (λ z. let zs : w.second ≡ 0 = order z in
    let nz : q.oldest ≢ 0 = (λ k. equal (k ∙ sym z) (l.begins.2 k ∙ sym zs)) in
    let a = stale_none w.attempt w.oldest z in let b = stale_none w.attempt w.second zs in let c = some_none w.oldest z in let d = some_none w.second zs in let e = stale_fresh q.attempt q.oldest (fresh.0 z nz) in let f = some_some q.oldest nz in
    dite (ℕ_discrete q.second 0)
    (λ k. let g = stale_none q.attempt q.second k in let h = some_none q.second k in
    less_first (bit step) (stale w.attempt w.oldest) (stale w.attempt w.second) (some_error w.oldest) (some_error w.second) (some_error q.oldest) a b c d f (stale q.attempt q.oldest) (stale q.attempt q.second) (some_error q.second) 0 e g (inl h))
    (λ k. let g = stale_fresh q.attempt q.second (fresh.1 zs k) in let h = some_some q.second k in
    less_first (bit step) (stale w.attempt w.oldest) (stale w.attempt w.second) (some_error w.oldest) (some_error w.second) (some_error q.oldest) a b c d f (stale q.attempt q.oldest) (stale q.attempt q.second) (some_error q.second) 0 e g (inr h)))
    (λ nz. let same : q.oldest ≡ w.oldest = l.begins.0 nz in dite (ℕ_discrete w.second 0)
    (λ zs. let ns : q.second ≢ 0 = (λ k. equal same (k ∙ sym zs)) in
    let a : stale q.attempt q.oldest ≡ stale w.attempt w.oldest = (λ k. stale (sym l.attempt_is k) (same k)) in let b = stale_none w.attempt w.second zs in let c = stale_fresh q.attempt q.second (fresh.1 zs ns) in
    let d = some_some w.oldest nz in let e = some_none w.second zs in let f = some_some q.oldest (λ k. nz (sym same ∙ k)) in let g = some_some q.second ns in
    less_next (bit step) (stale w.attempt w.oldest) (stale w.attempt w.second) (some_error w.oldest) (some_error w.second) (stale q.attempt q.oldest) (stale q.attempt q.second) (some_error q.oldest) (some_error q.second) a b c d e f g)
    (λ ns. absurd (equal same (l.begins.1 ns))))
  where
    less_next : (t a b c d e f g h : ℕ) → e ≡ a → b ≡ 0 → f ≡ 0 → c ≡ 1 → d ≡ 0 → g ≡ 1 → h ≡ 1 → 100 * t + 3 * (e + f) + (2 - (g + h)) < 100 * t + 3 * (a + b) + (2 - (c + d))
    less_next t a b c d e f g h p0 p1 p2 p3 p4 p5 p6 = omega arith

-- an exchange that took out a stale error
pub won_less : (w q : Parts) (step : Bool) → q ≡ unlocked_word w (bit step) → w.oldest ≢ 0 → stale q.attempt w.oldest ≡ 1 → exchanges_left q false < exchanges_left w step
won_less w q step is nz old =
    let att : q.attempt ≡ w.attempt + bit step = ap (λ (y : Parts). y.attempt) is in let first : q.oldest ≡ w.second = ap (λ (y : Parts). y.oldest) is in let none_ : q.second ≡ 0 = ap (λ (y : Parts). y.second) is in
    by step att (stale w.attempt w.oldest) (stale w.attempt w.second) (some_error w.oldest) (some_error w.second) (stale q.attempt q.oldest) (stale q.attempt q.second) (some_error q.oldest) (some_error q.second)
    (some_some w.oldest nz) (stale_none q.attempt q.second none_) (some_none q.second none_) (stale_le q.attempt q.oldest) (ap some_error first) (bit_some w.second)
    (λ same. ((λ k. stale (sym same k) w.oldest) ∙ old, (λ k. stale (same k) (first k))))
  where
    bit_some : (e : ℕ) → some_error e ≤ 1
    bit_some e = dite (ℕ_discrete e 0) (λ z. let k = some_none e z in omega arith) (λ n. let k = some_some e n in omega arith)

    by : (step : Bool) → q.attempt ≡ w.attempt + bit step → (a b c d e f g h : ℕ) → c ≡ 1 → f ≡ 0 → h ≡ 0 → e ≤ 1 → g ≡ d → d ≤ 1 → (q.attempt ≡ w.attempt → (a ≡ 1) × (e ≡ b)) → 100 * 0 + 3 * (e + f) + (2 - (g + h)) < 100 * bit step + 3 * (a + b) + (2 - (c + d))
    by true att a b c d e f g h p0 p1 p2 p3 p4 p5 k = omega arith
    by false att a b c d e f g h p0 p1 p2 p3 p4 p5 k = let y = k (omega arith) in let y0 = y.0 in let y1 = y.1 in omega arith
