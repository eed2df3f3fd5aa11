-- A stream goes on behind its first frame as any stream does: the bound on the number of frames says nothing.
use Rattle.std.proofs.Common.{◌≡◌, ℕ, zero, suc, ◌<◌, ◌+◌, ◌-◌, List, [], ◌∷◌, length, drop, refl, ap, arith, length-drop}
use Rattle.brpc_model.specs.Frame.{Judged, NoneYet, Faulty, Begins, judged}
use Rattle.brpc_model.specs.FrameStream.{Stream, with_frame, goes_on, stream_up_to, stream_from}

goes_on_same : (at : ℕ) (bytes : List ℕ) (j : Judged) (f g : ℕ → Stream) → ((body : ℕ) → f body ≡ g body) → goes_on at bytes j f ≡ goes_on at bytes j g
goes_on_same at bytes NoneYet f g h = refl
goes_on_same at bytes (Faulty fault) f g h = refl
goes_on_same at bytes (Begins frame body) f g h = ap (with_frame frame) (h body)

shorter : (b : ℕ) (bytes : List ℕ) (body n : ℕ) → length (b ∷ bytes) < suc n → length (drop (12 + body) (b ∷ bytes)) < n
shorter b bytes body n h = let e : length (drop (12 + body) (b ∷ bytes)) ≡ length (b ∷ bytes) - (12 + body) = length-drop (12 + body) (b ∷ bytes) in omega (arith, e, h)

pub enough : (n m at : ℕ) (bytes : List ℕ) → length bytes < n → length bytes < m → stream_up_to n at bytes ≡ stream_up_to m at bytes
enough zero m at bytes h k = absurd (omega (arith, h))
enough (suc n) zero at bytes h k = absurd (omega (arith, k))
enough (suc n) (suc m) at [] h k = refl
enough (suc n) (suc m) at (b ∷ bytes) h k = goes_on_same at (b ∷ bytes) (judged (b ∷ bytes))
    (λ body. stream_up_to n (at + (12 + body)) (drop (12 + body) (b ∷ bytes))) (λ body. stream_up_to m (at + (12 + body)) (drop (12 + body) (b ∷ bytes)))
    (λ body. enough n m (at + (12 + body)) (drop (12 + body) (b ∷ bytes)) (shorter b bytes body n h) (shorter b bytes body m k))

pub stream_goes_on : (at : ℕ) (bytes : List ℕ) →
    stream_from at bytes ≡ goes_on at bytes (judged bytes) (λ body. stream_from (at + (12 + body)) (drop (12 + body) bytes))
stream_goes_on at [] = refl
stream_goes_on at (b ∷ bytes) = goes_on_same at (b ∷ bytes) (judged (b ∷ bytes))
    (λ body. stream_up_to (length (b ∷ bytes)) (at + (12 + body)) (drop (12 + body) (b ∷ bytes))) (λ body. stream_from (at + (12 + body)) (drop (12 + body) (b ∷ bytes)))
    (λ body. enough (length (b ∷ bytes)) (suc (length (drop (12 + body) (b ∷ bytes)))) (at + (12 + body)) (drop (12 + body) (b ∷ bytes))
    (shorter b bytes body (length (b ∷ bytes)) (omega arith)) (omega arith))
