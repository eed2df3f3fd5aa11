-- What links gave whose other ends were inside this process and told in the end what they offered.
use Rattle.std.specs.Prelude.{ℕ, ◌≡◌, ◌⊎◌, if◌then◌else◌, Bool, true, List, [], ◌∷◌, ◌++◌, Some}
use Rattle.brpc_model.specs.ReturnedLink.{LinkEnd}
use Rattle.brpc_model.specs.ServedForTakenBytes.{given_for}
use Rattle.sock_io.specs.declared.link.LinkSpec.{LinkSpec}
use Rattle.sock_io.specs.declared.link.Mode.{Mode}

-- what the other end that was asked for gives for these bytes: the server the replies, up to the number that is given
abbrev pub offered_for : LinkSpec → List ℕ → List ℕ
offered_for spec took = if spec.shape.serve then given_for spec.shape took else []

-- the reading half answered its end or its closing
abbrev pub WasReadOut : LinkEnd → Type 0
WasReadOut e = (e.gave_end ≡ true) ⊎ (e.closed ≡ Some true)

-- Then it gave that for all that the link took, as far as it tells both; and where it answered its end, also for all
-- that might follow. However its reading ended, it gave a front of what is offered for a front of what the link took.
pub record GaveOffer (spec : LinkSpec) (e : LinkEnd) : Type 0 where
  pub all : (took gave : List ℕ) → e.took ≡ Some took → e.gave ≡ Some gave → WasReadOut e → gave ≡ offered_for spec took
  pub last : (took gave : List ℕ) → e.took ≡ Some took → e.gave ≡ Some gave → e.gave_end ≡ true → (more : List ℕ) → gave ≡ offered_for spec (took ++ more)
  pub front : (took gave : List ℕ) → e.took ≡ Some took → e.gave ≡ Some gave → (fed left rest : List ℕ) × (took ≡ fed ++ left) × (gave ++ rest ≡ offered_for spec fed)

-- so each link of which this was asked, in modes that tell
abbrev pub GaveOffers : (Mode → Bool) → List LinkSpec → List LinkEnd → Type 0
GaveOffers tells_in [] [] = Unit {0}
GaveOffers tells_in (s ∷ ss) (e ∷ es) = (tells_in s.mode ≡ true → GaveOffer s e) × GaveOffers tells_in ss es
GaveOffers tells_in [] (e ∷ es) = ⊥
GaveOffers tells_in (s ∷ ss) [] = ⊥
