-- The bytes of the first of some frames, found by the sizes in their headers.
use Rattle.std.proofs.Common.{◌≡◌, ℕ, zero, suc, ◌+◌, ◌-◌, ◌<◌, ◌≤◌, ◌^◌, false, List, [], ◌∷◌, ◌++◌, length, take, drop, Option, None, Some, refl, ap, sym, ◌∙◌, arith, append_assoc, append-nil, length-append, length-drop}
use Rattle.std.specs.Prelude.{flat_map}
use Rattle.std.specs.Int.{w32, to_be_bytes}
use Rattle.std.proofs.Math.Seq.{take-append_seam, take-append-add, drop-append_seam, take-add, take-length}
use Rattle.std.proofs.lemmas.Bool.{leb-false}
use Rattle.std.proofs.lemmas.List.{drop-drop}
use Rattle.std.proofs.lemmas.Grind.{flat_map-append}
use Rattle.brpc_model.specs.Spelling.{meta_bytes}
use Rattle.brpc_model.specs.Frame.{Frame, frame_bytes, framed, high_first}
use Rattle.brpc_model.specs.ServedForTakenBytes.{first_of}
use Rattle.prpc_frame.proofs.Encoded.{number}
use Rattle.loop_link.specs.ServingFedBytes.{is_reached, first_left}

-- ## A header

abbrev laid : ℕ → ℕ → List ℕ → List ℕ
laid body meta behind = 80 ∷ 82 ∷ 80 ∷ 67 ∷ (to_be_bytes w32 body ++ (to_be_bytes w32 meta ++ behind))

laid_out : (m p a more : List ℕ) → framed m p a ++ more ≡ laid (length m + length p + length a) (length m) (m ++ (p ++ a) ++ more)
laid_out m p a more = simp append_assoc

laid_size : (body meta : ℕ) (behind : List ℕ) → length (laid body meta behind) ≡ 12 + length behind
laid_size body meta behind = omega arith

framed_size : (m p a : List ℕ) → length (framed m p a) ≡ 12 + (length m + length p + length a)
framed_size m p a =
    let whole : length (framed m p a ++ []) ≡ length (laid (length m + length p + length a) (length m) (m ++ (p ++ a) ++ [])) = ap length (laid_out m p a []) in
    omega (arith, whole, laid_size (length m + length p + length a) (length m) (m ++ (p ++ a) ++ []), length-append (framed m p a) [], length-append (m ++ (p ++ a)) [], length-append m (p ++ a), length-append p a)

-- the header in front tells how long the frame is
body_told : (f : Frame) (rest : List ℕ) → length (frame_bytes f ++ rest) < 2 ^ 32 → 12 + high_first (take 4 (drop 4 (frame_bytes f ++ rest))) ≡ length (frame_bytes f)
body_told f rest small =
    let size : length (frame_bytes f) ≡ 12 + (length (meta_bytes f.meta) + length f.payload + length f.attachment) = framed_size (meta_bytes f.meta) f.payload f.attachment in
    let told : high_first (take 4 (drop 4 (frame_bytes f ++ rest))) ≡ length (meta_bytes f.meta) + length f.payload + length f.attachment =
    ap (λ l. high_first (take 4 (drop 4 l))) (laid_out (meta_bytes f.meta) f.payload f.attachment rest)
    ∙ number (length (meta_bytes f.meta) + length f.payload + length f.attachment) (omega (arith, small, size, length-append (frame_bytes f) rest)) in
    omega (arith, told, size)

take_all : (n : ℕ) (l : List Frame) → length l ≤ n → take n l ≡ l
take_all zero [] h = refl
take_all zero (x ∷ l) h = absurd (omega (arith, h))
take_all (suc n) [] h = refl
take_all (suc n) (x ∷ l) h = ap (λ (r : List Frame). x ∷ r) (take_all n l (omega (arith, h)))

-- ## The frames so far

-- whatever frames the bytes are, the first `at` bytes are those of the first `k`
abbrev pub Fronts : List ℕ → ℕ → ℕ → Type 0
Fronts bytes at k = (frames : List Frame) → length bytes < 2 ^ 32 → bytes ≡ flat_map frame_bytes frames →
    (first : List Frame) × (rest : List Frame) × (frames ≡ first ++ rest) × (length first ≡ k) × (take at bytes ≡ flat_map frame_bytes first) × (drop at bytes ≡ flat_map frame_bytes rest)

pub fronts_none : (bytes : List ℕ) → Fronts bytes 0 0
fronts_none bytes frames small e = ([], frames, refl, refl, refl, e)

some_bytes : (f : Frame) (fs : List Frame) → 12 ≤ length (flat_map frame_bytes (f ∷ fs))
some_bytes f fs = omega (arith, length-append (frame_bytes f) (flat_map frame_bytes fs), framed_size (meta_bytes f.meta) f.payload f.attachment)

-- one more
pub fronts_next : (bytes : List ℕ) (at k size : ℕ) → Fronts bytes at k → at + 12 ≤ length bytes → size ≡ high_first (take 4 (drop 4 (drop at bytes))) → Fronts bytes (at + (12 + size)) (k + 1)
fronts_next bytes at k size so_far room told frames small e = by (so_far frames small e)
  where
    by : ((first : List Frame) × (rest : List Frame) × (frames ≡ first ++ rest) × (length first ≡ k) × (take at bytes ≡ flat_map frame_bytes first) × (drop at bytes ≡ flat_map frame_bytes rest)) →
        (first : List Frame) × (rest : List Frame) × (frames ≡ first ++ rest) × (length first ≡ k + 1) × (take (at + (12 + size)) bytes ≡ flat_map frame_bytes first) × (drop (at + (12 + size)) bytes ≡ flat_map frame_bytes rest)
    by (first, [], split, count, front, behind) = absurd (omega (arith, room, ap length behind, length-drop at bytes))
    by (first, f ∷ fs, split, count, front, behind) =
        let less : length (frame_bytes f ++ flat_map frame_bytes fs) < 2 ^ 32 = omega (arith, small, ap length behind, length-drop at bytes) in
        let long : 12 + size ≡ length (frame_bytes f) = ap (λ n. 12 + n) (told ∙ ap (λ l. high_first (take 4 (drop 4 l))) behind) ∙ body_told f (flat_map frame_bytes fs) less in (
          first ++ f ∷ [],
          fs,
          split ∙ sym (append_assoc first (f ∷ []) fs),
          omega (arith, count, length-append first (f ∷ [])),
          take-add at (12 + size) bytes ∙ ap (λ l. l ++ take (12 + size) (drop at bytes)) front
              ∙ ap (λ l. flat_map frame_bytes first ++ l) (ap (λ l. take (12 + size) l) behind ∙ ap (λ n. take n (frame_bytes f ++ flat_map frame_bytes fs)) long ∙ take-append_seam (frame_bytes f) (flat_map frame_bytes fs) ∙ sym (append-nil (frame_bytes f)))
              ∙ sym (flat_map-append frame_bytes first (f ∷ [])),
          sym (drop-drop (12 + size) at bytes) ∙ ap (λ l. drop (12 + size) l) behind ∙ ap (λ n. drop n (frame_bytes f ++ flat_map frame_bytes fs)) long ∙ drop-append_seam (frame_bytes f) (flat_map frame_bytes fs),
        )

-- the bytes go on with the frame whose header stands there
pub fronts_whole : (bytes : List ℕ) (at k size : ℕ) → Fronts bytes at k → at + 12 ≤ length bytes → size ≡ high_first (take 4 (drop 4 (drop at bytes))) → (frames : List Frame) → length bytes < 2 ^ 32 → bytes ≡ flat_map frame_bytes frames → at + (12 + size) ≤ length bytes
fronts_whole bytes at k size so_far room told frames small e = by (so_far frames small e)
  where
    by : ((first : List Frame) × (rest : List Frame) × (frames ≡ first ++ rest) × (length first ≡ k) × (take at bytes ≡ flat_map frame_bytes first) × (drop at bytes ≡ flat_map frame_bytes rest)) → at + (12 + size) ≤ length bytes
    by (first, [], split, count, front, behind) = absurd (omega (arith, room, ap length behind, length-drop at bytes))
    by (first, f ∷ fs, split, count, front, behind) =
        let less : length (frame_bytes f ++ flat_map frame_bytes fs) < 2 ^ 32 = omega (arith, small, ap length behind, length-drop at bytes) in
        let long : 12 + size ≡ length (frame_bytes f) = ap (λ n. 12 + n) (told ∙ ap (λ l. high_first (take 4 (drop 4 l))) behind) ∙ body_told f (flat_map frame_bytes fs) less in
        omega (arith, room, long, ap length behind, length-drop at bytes, length-append (frame_bytes f) (flat_map frame_bytes fs))

-- where all that are asked for were passed
pub fronts_all : (bytes : List ℕ) (at k count : ℕ) → Fronts bytes at k → k ≡ count → (frames : List Frame) → length bytes < 2 ^ 32 → bytes ≡ flat_map frame_bytes frames → take at bytes ≡ flat_map frame_bytes (take count frames)
fronts_all bytes at k count so_far all frames small e =
    let x = so_far frames small e in
    x.4 ∙ ap (flat_map frame_bytes) (sym (ap (take count) x.2 ∙ ap (λ n. take n (x.0 ++ x.1)) (sym all ∙ sym x.3) ∙ take-append_seam x.0 x.1))

-- where there are no more
pub fronts_end : (bytes : List ℕ) (at k count : ℕ) → Fronts bytes at k → k ≤ count → length bytes < at + 12 → (frames : List Frame) → length bytes < 2 ^ 32 → bytes ≡ flat_map frame_bytes frames → take at bytes ≡ flat_map frame_bytes (take count frames)
fronts_end bytes at k count so_far few short frames small e = by (so_far frames small e)
  where
    by : ((first : List Frame) × (rest : List Frame) × (frames ≡ first ++ rest) × (length first ≡ k) × (take at bytes ≡ flat_map frame_bytes first) × (drop at bytes ≡ flat_map frame_bytes rest)) → take at bytes ≡ flat_map frame_bytes (take count frames)
    by (first, [], split, len, front, behind) =
        front ∙ ap (flat_map frame_bytes) (sym (ap (take count) (split ∙ append-nil first) ∙ take_all count first (omega (arith, few, len))))
    by (first, f ∷ fs, split, len, front, behind) = absurd (omega (arith, short, some_bytes f fs, ap length behind, length-drop at bytes))

-- what is read of a slice from a place on
pub slice_rest : (bytes : List ℕ) (at : ℕ) → take (length bytes - at) (drop at bytes) ≡ drop at bytes
slice_rest bytes at = ap (λ n. take n (drop at bytes)) (sym (length-drop at bytes)) ∙ take-length (drop at bytes)

-- ## The responses that are still given

pub offered_more : (end : Option ℕ) (before frames : List Frame) → is_reached end (length before) ≡ false →
    flat_map frame_bytes (first_of end before) ++ flat_map frame_bytes (first_left end (length before) frames) ≡ flat_map frame_bytes (first_of end (before ++ frames))
offered_more None before frames h = sym (flat_map-append frame_bytes before frames)
offered_more (Some most) before frames h =
    let less : length before < most = leb-false most (length before) h in
    let more : most ≡ length before + (most - length before) = omega (arith, less) in
    ap (λ l. flat_map frame_bytes l ++ flat_map frame_bytes (take (most - length before) frames)) (take_all most before (omega (arith, less)))
    ∙ sym (flat_map-append frame_bytes before (take (most - length before) frames))
    ∙ ap (flat_map frame_bytes) (sym (ap (λ n. take n (before ++ frames)) more ∙ take-append-add before frames (most - length before)))
