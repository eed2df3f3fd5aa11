-- Links of one kind among those that were asked for.
use Rattle.std.proofs.Common.{◌≡◌, ◌≢◌, ℕ, ◌+◌, ◌&&◌, if◌then◌else◌, Bool, true, false, List, [], ◌∷◌, ◌++◌, length, length-append, refl, ap, ◌∙◌, sym, subst, arith}
use Rattle.sock_io.specs.declared.link.LinkSpec.{LinkSpec}
use Rattle.prog_link.specs.AnyKindLinker.{Kind, InMemory, OverRings, OverTcp, is_kind, kind_asked, are_kind, count_kind}

-- of no links none is of a kind, and none of another
pub none_counted : (k : Kind) (specs : List LinkSpec) → specs ≡ [] → count_kind k specs ≡ 0
none_counted k specs none = ap (count_kind k) none

pub none_other : (k : Kind) (specs : List LinkSpec) → specs ≡ [] → are_kind k specs ≡ true
none_other k specs none = ap (are_kind k) none

pub alike_none : (k : Kind) (specs : List LinkSpec) → length specs ≡ 0 → are_kind k specs ≡ true
alike_none k [] e = refl
alike_none k (s ∷ more) e = absurd (omega (arith, e))

-- ## Kinds

itself : (k : Kind) → is_kind k k ≡ true
itself InMemory = refl
itself OverRings = refl
itself OverTcp = refl

same_kind : (j k : Kind) → is_kind j k ≡ true → j ≡ k
same_kind InMemory InMemory e = refl
same_kind InMemory OverRings e = absurd (cc)
same_kind InMemory OverTcp e = absurd (cc)
same_kind OverRings InMemory e = absurd (cc)
same_kind OverRings OverRings e = refl
same_kind OverRings OverTcp e = absurd (cc)
same_kind OverTcp InMemory e = absurd (cc)
same_kind OverTcp OverRings e = absurd (cc)
same_kind OverTcp OverTcp e = refl

both : (a b : Bool) → a && b ≡ true → (a ≡ true) × (b ≡ true)
both true b e = (refl, e)
both false b e = absurd (cc)

-- some links of one kind are of another one exactly where the two kinds are the same
pub alike_where : (j k : Kind) (specs : List LinkSpec) → are_kind j specs ≡ true → length specs ≢ 0 → is_kind j k ≡ are_kind k specs
alike_where j k [] all some = absurd (some refl)
alike_where j k (s ∷ more) all some = by (is_kind j k) refl (is_kind k (kind_asked s.mode)) refl
  where
    first : j ≡ kind_asked s.mode
    first = same_kind j (kind_asked s.mode) (both (is_kind j (kind_asked s.mode)) (are_kind j more) all).0

    by : (b : Bool) → is_kind j k ≡ b → (c : Bool) → is_kind k (kind_asked s.mode) ≡ c → is_kind j k ≡ are_kind k (s ∷ more)
    by true e c f = e ∙ sym (subst (λ i. are_kind i (s ∷ more) ≡ true) (same_kind j k e) all)
    by false e false f = e ∙ sym (ap (λ x. x && are_kind k more) f)
    by false e true f = absurd (let same : k ≡ j = same_kind k (kind_asked s.mode) f ∙ sym first in let x : true ≡ false = sym (ap (is_kind j) same ∙ itself j) ∙ e in cc)

pub all_counted : (k : Kind) (specs : List LinkSpec) → are_kind k specs ≡ true → count_kind k specs ≡ length specs
all_counted k [] all = refl
all_counted k (s ∷ more) all =
    let x = both (is_kind k (kind_asked s.mode)) (are_kind k more) all in let rest = all_counted k more x.1 in
    ap (λ b. (if b then 1 else 0) + count_kind k more) x.0 ∙ omega (arith, rest)

-- a link of the kind of all others has the number of its kind's next one
pub numbered : (k kind : Kind) (specs : List LinkSpec) (own all : ℕ) → length specs ≡ all → own ≡ count_kind k specs → are_kind kind specs ≡ true → kind ≡ k → own ≡ all
numbered k kind specs own all long counted alike is = counted ∙ all_counted k specs (subst (λ i. are_kind i specs ≡ true) is alike) ∙ long

-- ## One more

pub one_longer : {A : Type 0} (xs more : List A) (x : A) → more ≡ xs ++ x ∷ [] → length more ≡ length xs + 1
one_longer xs more x e = let n = length-append xs (x ∷ []) in let m = ap length e in omega arith

module _ (specs more : List LinkSpec) (s : LinkSpec) (is : more ≡ specs ++ s ∷ []) where
  pub alike_more : are_kind (kind_asked s.mode) specs ≡ true → are_kind (kind_asked s.mode) more ≡ true
  alike_more all = ap (are_kind (kind_asked s.mode)) is ∙ behind specs all
    where
      behind : (xs : List LinkSpec) → are_kind (kind_asked s.mode) xs ≡ true → are_kind (kind_asked s.mode) (xs ++ s ∷ []) ≡ true
      behind [] h = ap (λ b. b && true) (itself (kind_asked s.mode))
      behind (x ∷ xs) h = let y = both (is_kind (kind_asked s.mode) (kind_asked x.mode)) (are_kind (kind_asked s.mode) xs) h in ap (λ b. b && are_kind (kind_asked s.mode) (xs ++ s ∷ [])) y.0 ∙ behind xs y.1

  pub counted_more : (k : Kind) (was now : ℕ) → was ≡ count_kind k specs → now ≡ was + (if is_kind k (kind_asked s.mode) then 1 else 0) → now ≡ count_kind k more
  counted_more k was now w n = n ∙ ap (λ x. x + (if is_kind k (kind_asked s.mode) then 1 else 0)) w ∙ sym (ap (count_kind k) is ∙ behind specs)
    where
      behind : (xs : List LinkSpec) → count_kind k (xs ++ s ∷ []) ≡ count_kind k xs + (if is_kind k (kind_asked s.mode) then 1 else 0)
      behind [] = omega arith
      behind (x ∷ xs) = let rest = behind xs in omega arith
