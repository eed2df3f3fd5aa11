-- The first kept response of a range.
use Rattle.std.proofs.Common.{◌≡◌, ℕ, suc, ◌+◌, ◌<◌, ◌≤◌, ◌==◌, ◌&&◌, Bool, true, false, List, [], ◌∷◌, length, drop, map, get_or, refl, ap, ◌∙◌, arith, drop-cons}
use Rattle.std.proofs.lemmas.Bool.Decides.{nat_tests}
use Rattle.std.proofs.Math.ListN.{drop_of_length-le}
use Rattle.brpc_model.specs.Frame as model
use Rattle.prpc_frame.specs.FrameMeaning.{frame_of}
use Rattle.prpc_frame.specs.declared.frame.Frame.{Frame}
use Rattle.seat_programs.specs.ReaderProgram.{kept_for, slot_in}
use Rattle.reader_points.specs.KeptResponses.{is_kept_of, IsFirstKept}
use Rattle.sock_words.specs.PackedWords.{id_slot}

-- those of a range among these
abbrev pub kept_of : ℕ → ℕ → List Frame → List model.Frame
kept_of id range kept = kept_for id range (map frame_of kept)

skip_one : (id range : ℕ) (x : Frame) (xs : List Frame) → is_kept_of id range (frame_of x) ≡ false → kept_of id range (x ∷ xs) ≡ kept_of id range xs
skip_one id range x xs e = rw e refl

keep_one : (id range : ℕ) (x : Frame) (xs : List Frame) → is_kept_of id range (frame_of x) ≡ true → kept_of id range (x ∷ xs) ≡ frame_of x ∷ kept_of id range xs
keep_one id range x xs e = rw e refl

both : (b c : Bool) → (b && c) ≡ true → b ≡ true
both true c e = refl
both false c e = absurd (cc)

front : (kept : List Frame) (i : ℕ) (x : Frame) → get_or kept i x ≡ x → i < length kept → drop i kept ≡ x ∷ drop (i + 1) kept
front kept i x is within =
    let n : suc i ≡ i + 1 = omega arith in
    drop-cons kept i x within ∙ ap (λ y. y ∷ drop (suc i) kept) is ∙ ap (λ m. x ∷ drop m kept) n

-- past one that is none of the range
pub next_kept : (id range : ℕ) (kept : List Frame) (i : ℕ) (x : Frame) → kept_of id range kept ≡ kept_of id range (drop i kept) → get_or kept i x ≡ x → i < length kept → is_kept_of id range (frame_of x) ≡ false →
    kept_of id range kept ≡ kept_of id range (drop (i + 1) kept)
next_kept id range kept i x same is within e = same ∙ ap (kept_of id range) (front kept i x is within) ∙ skip_one id range x (drop (i + 1) kept) e

pub none_kept : (id range : ℕ) (kept : List Frame) (i : ℕ) → kept_of id range kept ≡ kept_of id range (drop i kept) → length kept ≤ i → kept_of id range kept ≡ []
none_kept id range kept i same past = same ∙ ap (kept_of id range) (drop_of_length-le kept past)

pub first_at : (id range : ℕ) (kept : List Frame) (i : ℕ) (x : Frame) → kept_of id range kept ≡ kept_of id range (drop i kept) → get_or kept i x ≡ x → i < length kept → is_kept_of id range (frame_of x) ≡ true →
    IsFirstKept id range kept i
first_at id range kept i x same is within e = record {
  frame = x;
  others = kept_of id range (drop (i + 1) kept);
  within = within;
  is = is;
  slot = let h : (slot_in (frame_of x) == id_slot id) ≡ true = both (slot_in (frame_of x) == id_slot id) _ e in grind (arith, nat_tests, h);
  first = same ∙ ap (kept_of id range) (front kept i x is within) ∙ keep_one id range x (drop (i + 1) kept) e;
}
