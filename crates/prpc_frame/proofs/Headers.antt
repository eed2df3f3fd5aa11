-- The first twelve bytes tell what all bytes tell.
use Rattle.std.proofs.Common.{◌≡◌, ℕ, zero, suc, ◌+◌, ◌<◌, ◌≤◌, ◌==◌, true, false, List, [], ◌∷◌, ◌++◌, length, take, drop, Some, refl, ap, sym, ◌∙◌, arith, length-append, zero-add, subst}
use Rattle.std.proofs.Math.Seq.{drop-length}
use Rattle.std.specs.Prelude.{slice_index_or}
use Rattle.std.proofs.lemmas.Bool.{eq-eqb}
use Rattle.std.proofs.lemmas.List.{append-nil}
use Rattle.std.proofs.lemmas.List.Sums.{common_prefix_len-drop_yes, common_prefix_len-drop_no}
use Rattle.std.specs.List.{common_prefix_len}
use Rattle.rpc_meta.specs.brpc_model.specs.Frame.{Judged, NoneYet, Faulty, BadMagic, TooBig, MetaOver, judged, body_judged, matching, magic, high_first, body_limit}
use Rattle.rpc_meta.specs.brpc_model.specs.Meta.{read_meta}
use Rattle.prpc_frame.specs.FrameMeaning.{IsFault}
use Rattle.prpc_frame.specs.Header.{magic_wrong, body_size, meta_size, inside_of, IsWhole}
use Rattle.prpc_frame.specs.declared.fault.FrameFault.TheVariants as frame_
use Rattle.prpc_frame.proofs.Judging.{told_wrong, told_short, told_big, told_over, told_lacking, told_whole, still_wrong, still_right, same_match, same_word, no_eqb, wrong_when, right_at_4, right_at_end}

pub split_front : (k : ℕ) (l : List ℕ) → take k l ++ drop (length (take k l)) l ≡ l
split_front zero l = refl
split_front (suc k) [] = refl
split_front (suc k) (x ∷ l) = ap (λ (r : List ℕ). x ∷ r) (split_front k l)

pub bad_magic : (front more : List ℕ) (at : ℕ) → magic_wrong front ≡ true → at ≡ matching front → IsFault (judged (front ++ more)) (frame_.BadMagic at)
bad_magic front more at w e =
    ap (λ (j : Judged). Some j) (sym (told_wrong (front ++ more) (still_wrong front more w) ∙ ap (λ (n : ℕ). Faulty (BadMagic n)) (same_match front more w ∙ sym e)))

pub short : (front more : List ℕ) → magic_wrong front ≡ false → length front < 12 → length more ≡ 0 → judged (front ++ more) ≡ NoneYet
short front [] w h n = ap judged (append-nil front) ∙ told_short front w h
short front (b ∷ more) w h n = absurd (omega (arith, n))

body_same : (front more : List ℕ) → 12 ≤ length front → body_size (front ++ more) ≡ body_size front
body_same front more h = ap (λ (l : List ℕ). high_first l) (same_word 4 front more (omega arith))

meta_same : (front more : List ℕ) → 12 ≤ length front → meta_size (front ++ more) ≡ meta_size front
meta_same front more h = ap (λ (l : List ℕ). high_first l) (same_word 8 front more (omega arith))

longer : (front more : List ℕ) → 12 ≤ length front → 12 ≤ length (front ++ more)
longer front more h = omega (arith, length-append front more)

pub too_big : (front more : List ℕ) → magic_wrong front ≡ false → 12 ≤ length front → body_limit < body_size front → IsFault (judged (front ++ more)) (frame_.TooBig (body_size front))
too_big front more w h b =
    let bs = body_same front more h in
    ap (λ (j : Judged). Some j) (sym (told_big (front ++ more) (still_right front more w h) (longer front more h) (omega (arith, bs, b)) ∙ ap (λ (n : ℕ). Faulty (TooBig n)) bs))

pub meta_over : (front more : List ℕ) → magic_wrong front ≡ false → 12 ≤ length front → body_size front ≤ body_limit → body_size front < meta_size front →
    IsFault (judged (front ++ more)) (frame_.MetaOver (meta_size front) (body_size front))
meta_over front more w h b m =
    let bs = body_same front more h in
    let ms = meta_same front more h in
    ap (λ (j : Judged). Some j) (sym (told_over (front ++ more) (still_right front more w h) (longer front more h) (omega (arith, bs, b)) (omega (arith, bs, ms, m))
    ∙ ap (λ (n : ℕ). Faulty (MetaOver n (body_size (front ++ more)))) ms ∙ ap (λ (n : ℕ). Faulty (MetaOver (meta_size front) n)) bs))

pub lacking : (front more : List ℕ) → magic_wrong front ≡ false → 12 ≤ length front → body_size front ≤ body_limit → meta_size front ≤ body_size front →
    length front + length more < 12 + body_size front → judged (front ++ more) ≡ NoneYet
lacking front more w h b m l =
    let bs = body_same front more h in
    let ms = meta_same front more h in
    let size = length-append front more in
    told_lacking (front ++ more) (still_right front more w h) (longer front more h) (omega (arith, bs, b)) (omega (arith, bs, ms, m)) (omega (arith, bs, size, l))

whole_same : (bytes : List ℕ) (m k b c : ℕ) → m ≡ k → b ≡ c →
    body_judged (read_meta (take m (inside_of b bytes))) (drop m (inside_of b bytes)) b ≡ body_judged (read_meta (take k (inside_of c bytes))) (drop k (inside_of c bytes)) c
whole_same bytes m k b c p q =
    ap (λ (x : ℕ). body_judged (read_meta (take x (inside_of b bytes))) (drop x (inside_of b bytes)) b) p
    ∙ ap (λ (x : ℕ). body_judged (read_meta (take k (inside_of x bytes))) (drop k (inside_of x bytes)) x) q

pub whole : (front more : List ℕ) → magic_wrong front ≡ false → 12 ≤ length front → body_size front ≤ body_limit → meta_size front ≤ body_size front →
    12 + body_size front ≤ length front + length more → IsWhole (front ++ more) (meta_size front) (body_size front)
whole front more w h b m l =
    let bs = body_same front more h in
    let ms = meta_same front more h in
    let size = length-append front more in
    record {
      there = omega (arith, size, l);
      fits = m;
      size = sym bs;
      means = told_whole (front ++ more) (still_right front more w h) (longer front more h) (omega (arith, bs, b)) (omega (arith, bs, ms, m)) (omega (arith, bs, size, l))
          ∙ whole_same (front ++ more) (meta_size (front ++ more)) (meta_size front) (body_size (front ++ more)) (body_size front) ms bs;
    }

-- ## The magic, byte by byte

no_prefix : (p : List ℕ) → common_prefix_len (λ (a b : ℕ). a == b) p [] ≡ 0
no_prefix [] = refl
no_prefix (x ∷ p) = refl

-- the first bytes up to this place are those of the magic
pub record Matches (front : List ℕ) (at : ℕ) : Type 0 where
  pub at_most : at ≤ 4
  pub within : at ≤ length front
  pub rest : matching front ≡ at + common_prefix_len (λ (a b : ℕ). a == b) (drop at magic) (drop at front)

pub matches_none : (front : List ℕ) → Matches front 0
matches_none front = record { at_most = omega arith; within = omega arith; rest = sym (zero-add (matching front)) }

pub matches_one : (front : List ℕ) (at c d : ℕ) → Matches front at → at < 4 → at < length front → slice_index_or magic at c ≡ slice_index_or front at d → Matches front (at + 1)
matches_one front at c d k four there same = record {
  at_most = omega arith;
  within = omega arith;
  rest = let step = common_prefix_len-drop_yes (λ (a b : ℕ). a == b) magic front at c d four there (eq-eqb (slice_index_or magic at c) (slice_index_or front at d) same) in omega (arith, k.rest, step);
}

pub differs_at : (front : List ℕ) (at c d : ℕ) → Matches front at → at < 4 → at < length front → (slice_index_or magic at c ≡ slice_index_or front at d → ⊥) → (magic_wrong front ≡ true) × (at ≡ matching front)
differs_at front at c d k four there other =
    let step = common_prefix_len-drop_no (λ (a b : ℕ). a == b) magic front at c d four there (no_eqb (slice_index_or magic at c) (slice_index_or front at d) other) in
    let is : matching front ≡ at = omega (arith, k.rest, step) in
    (wrong_when front (λ e. omega (arith, is, e)) (λ e. omega (arith, is, e)), sym is)

pub matches_four : (front : List ℕ) (at : ℕ) → Matches front at → 4 ≤ at → magic_wrong front ≡ false
matches_four front at k h =
    let four : at ≡ 4 = omega (arith, k.at_most) in
    let P : ℕ → Type 0 = λ n. matching front ≡ n + common_prefix_len (λ (a b : ℕ). a == b) (drop n magic) (drop n front) in
    let e : matching front ≡ 4 + 0 = subst P four k.rest in
    right_at_4 front e

pub matches_end : (front : List ℕ) (at : ℕ) → Matches front at → length front ≤ at → magic_wrong front ≡ false
matches_end front at k h =
    let end : at ≡ length front = omega (arith, k.within) in
    let none : drop at front ≡ [] = ap (λ (n : ℕ). drop n front) end ∙ drop-length front in
    let last : common_prefix_len (λ (a b : ℕ). a == b) (drop at magic) (drop at front) ≡ 0 = ap (λ (l : List ℕ). common_prefix_len (λ (a b : ℕ). a == b) (drop at magic) l) none ∙ no_prefix (drop at magic) in
    right_at_end front (omega (arith, k.rest, last, end))
