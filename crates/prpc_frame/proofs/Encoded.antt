-- A frame's bytes are judged as that frame, whatever stands behind them.
use Rattle.std.proofs.Common.{◌≡◌, ℕ, ◌+◌, ◌-◌, ◌<◌, ◌≤◌, ◌^◌, ℤ, pos, List, [], ◌∷◌, ◌++◌, length, take, drop, Result, Ok, refl, ap, sym, ◌∙◌, arith, append_assoc, length-append}
use Rattle.std.specs.Int.{w32, to_be_bytes, from_be_bytes}
use Rattle.std.proofs.lemmas.Nat.{from_be_bytes-to_be_bytes_4}
use Rattle.std.proofs.lemmas.Bool.{le-ltb}
use Rattle.std.proofs.Math.Seq.{take-append_seam, drop-append_seam}
use Rattle.rpc_meta.specs.brpc_model.specs.Meta as metas
use Rattle.rpc_meta.specs.brpc_model.specs.Meta.{Meta, read_meta}
use Rattle.rpc_meta.specs.brpc_model.specs.Frame.{Frame, IsFrame, Begins, judged, body_judged, with_attachment, high_first, framed, body_limit}
use Rattle.prpc_frame.specs.Header.{body_size, meta_size}
use Rattle.prpc_frame.proofs.Judging.{told_whole, right_at_4}

word : (a b c d : ℕ) → high_first (a ∷ b ∷ c ∷ d ∷ []) ≡ from_be_bytes w32 (a ∷ b ∷ c ∷ d ∷ [])
word a b c d = omega arith

pub number : (n : ℕ) → n < 2 ^ 32 → high_first (to_be_bytes w32 n) ≡ n
number n h = word _ _ _ _ ∙ from_be_bytes-to_be_bytes_4 n h

-- the bytes of a frame and of what stands behind, with the header's sizes as numbers
abbrev laid : ℕ → ℕ → List ℕ → List ℕ
laid body meta behind = 80 ∷ 82 ∷ 80 ∷ 67 ∷ (to_be_bytes w32 body ++ (to_be_bytes w32 meta ++ behind))

laid_out : (m p a more : List ℕ) → framed m p a ++ more ≡ laid (length m + length p + length a) (length m) (m ++ (p ++ a) ++ more)
laid_out m p a more = simp append_assoc

judged_laid : (body meta : ℕ) (behind : List ℕ) → body ≤ body_limit → meta ≤ body → body ≤ length behind →
    judged (laid body meta behind) ≡ body_judged (read_meta (take meta (take body behind))) (drop meta (take body behind)) body
judged_laid body meta behind small fits there =
    let b : body_size (laid body meta behind) ≡ body = number body (omega (arith, small)) in
    let m : meta_size (laid body meta behind) ≡ meta = number meta (omega (arith, small, fits)) in
    let size : length (laid body meta behind) ≡ 12 + length behind = omega arith in
    told_whole (laid body meta behind) (right_at_4 (laid body meta behind) refl) (omega (arith, size)) (omega (arith, b, small)) (omega (arith, b, m, fits)) (omega (arith, b, size, there))
    ∙ ap (λ (x : ℕ). body_judged (read_meta (take x (take (body_size (laid body meta behind)) behind))) (drop x (take (body_size (laid body meta behind)) behind)) (body_size (laid body meta behind))) m
    ∙ ap (λ (x : ℕ). body_judged (read_meta (take meta (take x behind))) (drop meta (take x behind)) x) b

attached : (m : Meta) (p a : List ℕ) (body : ℕ) → m.attachment_size ≡ pos (length a) →
    with_attachment m m.attachment_size (p ++ a) body ≡ Begins (record { meta = m; payload = p; attachment = a }) body
attached m p a body s =
    let size = length-append p a in
    let at : length (p ++ a) - length a ≡ length p = omega (arith, size) in
    ap (λ (z : ℤ). with_attachment m z (p ++ a) body) s
    ∙ (rw (le-ltb (length (p ++ a)) (length a) (omega (arith, size))) refl)
    ∙ ap (λ (n : ℕ). Begins (record { meta = m; payload = take n (p ++ a); attachment = drop n (p ++ a) }) body) at
    ∙ ap (λ (l : List ℕ). Begins (record { meta = m; payload = l; attachment = drop (length p) (p ++ a) }) body) (take-append_seam p a)
    ∙ ap (λ (l : List ℕ). Begins (record { meta = m; payload = p; attachment = l }) body) (drop-append_seam p a)

framed_judged : (s p a more : List ℕ) (m : Meta) → read_meta s ≡ Ok m → m.attachment_size ≡ pos (length a) → length s + length p + length a ≤ body_limit →
    judged (framed s p a ++ more) ≡ Begins (record { meta = m; payload = p; attachment = a }) (length s + length p + length a)
framed_judged s p a more m e sized small =
    let body : ℕ = length s + length p + length a in
    let all : length (s ++ (p ++ a)) ≡ length s + length p + length a = omega (arith, length-append s (p ++ a), length-append p a) in
    let inside : take (length s + length p + length a) (s ++ (p ++ a) ++ more) ≡ s ++ (p ++ a) = ap (λ (n : ℕ). take n (s ++ (p ++ a) ++ more)) (sym all) ∙ take-append_seam (s ++ (p ++ a)) more in
    ap judged (laid_out s p a more)
    ∙ judged_laid (length s + length p + length a) (length s) (s ++ (p ++ a) ++ more) small (omega arith) (omega (arith, length-append (s ++ (p ++ a)) more, all))
    ∙ ap (λ (l : List ℕ). body_judged (read_meta (take (length s) l)) (drop (length s) l) (length s + length p + length a)) inside
    ∙ ap (λ (l : List ℕ). body_judged (read_meta l) (drop (length s) (s ++ (p ++ a))) (length s + length p + length a)) (take-append_seam s (p ++ a))
    ∙ ap (λ (l : List ℕ). body_judged (read_meta s) l (length s + length p + length a)) (drop-append_seam s (p ++ a))
    ∙ ap (λ (r : Result Meta metas.MetaFault). body_judged r (p ++ a) (length s + length p + length a)) e
    ∙ attached m p a (length s + length p + length a) sized

framed_size : (s p a : List ℕ) → length (framed s p a) ≡ 12 + (length s + length p + length a)
framed_size s p a = omega (arith, length-append (s ++ p) a, length-append s p, ap length (short_form s p a))
  where
    short_form : (s p a : List ℕ) → framed s p a ≡ laid (length s + length p + length a) (length s) ((s ++ p) ++ a)
    short_form s p a = simp append_assoc

-- whatever stands behind it, a frame is judged as that frame
pub frame_judged : (bytes more : List ℕ) (f : Frame) → IsFrame bytes f → judged (bytes ++ more) ≡ Begins f (length bytes - 12)
frame_judged bytes more f i =
    let size : length i.spelled + length f.payload + length f.attachment ≡ length bytes - 12 = omega (arith, ap length i.made, framed_size i.spelled f.payload f.attachment) in
    ap (λ (l : List ℕ). judged (l ++ more)) i.made
    ∙ framed_judged i.spelled f.payload f.attachment more f.meta i.means i.sized i.small
    ∙ ap (λ (n : ℕ). Begins f n) size

frame_long : (bytes : List ℕ) (f : Frame) → IsFrame bytes f → 12 ≤ length bytes
frame_long bytes f i = omega (arith, ap length i.made, framed_size i.spelled f.payload f.attachment)

pub one_frame : (bytes others more rest : List ℕ) (f g : Frame) → IsFrame bytes f → IsFrame others g → bytes ++ more ≡ others ++ rest → (bytes ≡ others) × (f ≡ g)
one_frame bytes others more rest f g i k e =
    let same : Begins f (length bytes - 12) ≡ Begins g (length others - 12) = sym (frame_judged bytes more f i) ∙ ap judged e ∙ frame_judged others rest g k in
    let sizes : length bytes - 12 ≡ length others - 12 = cc in
    let long : length bytes ≡ length others = omega (arith, sizes, frame_long bytes f i, frame_long others g k) in
    (sym (take-append_seam bytes more) ∙ ap (λ (l : List ℕ). take (length bytes) l) e ∙ ap (λ (n : ℕ). take n (others ++ rest)) long ∙ take-append_seam others rest, cc)
