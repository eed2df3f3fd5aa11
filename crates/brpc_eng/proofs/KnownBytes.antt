-- Known bytes that grow piece by piece.
use Rattle.std.proofs.Common.{◌≡◌, ℕ, ◌≤◌, ◌+◌, List, ◌++◌, length, take, drop, Option, Some, None, refl, ap, sym, ◌∙◌, append_assoc, Result, Ok, Err, IfOk, OnOk, IfSome, ◌<◌, arith, length-append, length-take, length-drop}
use Rattle.std.specs.Io.KnownBytes.{append_known, Consumes}
use Rattle.std.proofs.Math.Seq.{take-add}
use Rattle.std.proofs.lemmas.List.{take-take}

pub append_known-append : (o : Option (List ℕ)) (a b : List ℕ) → append_known (append_known o a) b ≡ append_known o (a ++ b)
append_known-append None a b = refl
append_known-append (Some xs) a b = ap Some (append_assoc xs a b)

pub took_grows : (o p q : Option (List ℕ)) (done piece : List ℕ) → p ≡ append_known o done → q ≡ append_known p piece → q ≡ append_known o (done ++ piece)
took_grows o p q done piece e f = f ∙ ap (λ x. append_known x piece) e ∙ append_known-append o done piece

pub Consumes-append : (o p q : Option (List ℕ)) (a b : List ℕ) → Consumes o p a → Consumes p q b → Consumes o q (a ++ b)
Consumes-append None p q a b e f = tt
Consumes-append (Some xs) None q a b e f = absurd e
Consumes-append (Some xs) (Some ys) None a b e f = absurd f
Consumes-append (Some xs) (Some ys) (Some zs) a b e f = e ∙ ap (λ x. a ++ x) f ∙ sym (append_assoc a b zs)

pub ok_map : {T E : Type 0} (r : Result T E) (P Q : T → Type 0) → ((x : T) → P x → Q x) → IfOk r P → IfOk r Q
ok_map (Ok x) P Q f h = f x h
ok_map (Err e) P Q f h = tt

pub on_ok_map : {T E : Type 0} (r : Result T E) (P Q : Type 0) → (P → Q) → OnOk r P → OnOk r Q
on_ok_map (Ok x) P Q f h = f h
on_ok_map (Err e) P Q f h = tt

pub consumed_length : (o p : Option (List ℕ)) (bs : List ℕ) (n : ℕ) → Consumes o p bs → n < length bs → IfSome o (λ input. n < length input)
consumed_length None p bs n e h = tt
consumed_length (Some xs) None bs n e h = absurd e
consumed_length (Some xs) (Some ys) bs n e h = omega (arith, h, ap length e ∙ length-append bs ys)

-- one more piece of a list that is known from its front
pub front_more : (o p q : Option (List ℕ)) (bytes piece : List ℕ) (at n most : ℕ) → p ≡ append_known o (take at bytes) → piece ≡ take most (drop at bytes) → n ≤ length piece →
    q ≡ append_known p (take n piece) → q ≡ append_known o (take (at + n) bytes)
front_more o p q bytes piece at n most e cut within f =
    let few : n ≤ most = omega (arith, within, ap length cut ∙ length-take most (drop at bytes)) in
    let first : take n piece ≡ take n (drop at bytes) = ap (take n) cut ∙ take-take n most (drop at bytes) few in
    took_grows o p q (take at bytes) (take n (drop at bytes)) e (f ∙ ap (append_known p) first) ∙ ap (append_known o) (sym (take-add at n bytes))

-- a piece of what stands behind a place ends within the whole
pub within_piece : (bytes piece : List ℕ) (at n most : ℕ) → piece ≡ take most (drop at bytes) → n ≤ length piece → at ≤ length bytes → at + n ≤ length bytes
within_piece bytes piece at n most cut within low = omega (arith, within, ap length cut ∙ length-take most (drop at bytes), length-drop at bytes, low)
