-- Links whose other ends offer what belongs to them, and whose puts are answered by their shapes.
use Rattle.std.specs.Prelude.{ℕ, ◌≡◌, ◌≢◌, Bool, true, List, slice_get, Option, Some, None}
use mathlib.Core.Option as core
use lib.ListN.{get_elem?}
use Rattle.sock_io.specs.declared.link.LinkSpec.{LinkSpec}
use Rattle.sock_io.specs.declared.link.Mode.{Mode}
use Rattle.sock_io.specs.declared.link.Mode.TheVariants as mode
use Rattle.sock_io.specs.LinkHalves.{OutState, InState, Offer, IsServed, new_pacing}
use Rattle.sock_io.specs.PutAnswers.{Pacing}

-- each writing half tells what it took, and each reading half what it gave and what its other end offers; and links in memory answer each put as the
-- shape says that was asked for
abbrev pub TellOffers : {A B : Type 0} → (Mode → Bool) → (A → OutState) → (B → InState) → Type 0
TellOffers {A} {B} goes out_state in_state = ((out : A) → (out_state out).took ≢ None) × ((inn : B) → ((in_state inn).gave_bytes ≢ None) × ((in_state inn).offer ≢ None)) × (goes mode.Loop ≡ true)

-- a reading half tells what it gave, and what its other end offers, which was asked to be the server or not and to give its end after so many
-- responses
pub record OffersAsAsked (inn : InState) (serve : Bool) (end : Option ℕ) : Type 0 where
  pub gave : List ℕ
  pub gave_is : inn.gave_bytes ≡ Some gave
  pub offer : Offer
  pub offer_is : inn.offer ≡ Some offer
  pub serves : offer.serve ≡ serve
  pub ends : offer.end ≡ end

-- link k tells what it took and gave, and what its other end offers; and what it was offered belongs to it
pub record IsOffered (outs : List OutState) (inns : List InState) (k : ℕ) (serve : Bool) (end : Option ℕ) : Type 0 where
  pub out : OutState
  pub out_at : get_elem? outs k ≡ core.some out
  pub inn : InState
  pub inn_at : get_elem? inns k ≡ core.some inn
  pub took : List ℕ
  pub took_is : out.took ≡ Some took
  pub tells : OffersAsAsked inn serve end
  pub open tells use *
  pub served : IsServed took out.finished gave offer

-- link k tells what it took; and its puts go so, each of which is answered as its shape says
pub record TellsPacing (outs : List OutState) (k : ℕ) (pacing : Pacing) : Type 0 where
  pub out : OutState
  pub out_at : get_elem? outs k ≡ core.some out
  pub took : List ℕ
  pub took_is : out.took ≡ Some took
  pub pacing_is : out.pacing ≡ Some pacing

-- Link k tells what it took, gave and is offered, and is offered what belongs to it, by what was asked of it; and in a mode whose links go by their
-- shapes, it answers each put as the shape says that was asked for
abbrev pub IsAsAsked : (Mode → Bool) → List OutState → List InState → ℕ → LinkSpec → Type 0
IsAsAsked goes outs inns k spec = IsOffered outs inns k spec.shape.serve spec.shape.end × (goes spec.mode ≡ true → TellsPacing outs k (new_pacing spec))

-- each link of which this was asked
abbrev pub AreAsked : (Mode → Bool) → List LinkSpec → List OutState → List InState → Type 0
AreAsked goes specs outs inns = (k : ℕ) (spec : LinkSpec) → slice_get specs k ≡ Some spec → IsAsAsked goes outs inns k spec
