-- What the links that are given back tell of the answers.
use Rattle.std.proofs.Common.{◌≡◌, ℕ, List, [], map, Some, None, refl, sym, ◌∙◌}
use Rattle.std.specs.Prelude.{Option, option_map, slice_get, IfSome}
use Rattle.std.proofs.lemmas.Option.{slice_get-map}
use Rattle.brpc_model.specs.ReturnedLink.{LinkEnd}
use Rattle.sock_io.specs.declared.link.Ends.{Ends}
use Rattle.sock_io.specs.LinkHalves.{OutState, InState, end_of}
use Rattle.call_told.proofs.ListElementsByPlace.{some_same}

-- an element of a list that was mapped
pub mapped : {A B : Type 0} (f : A → B) (xs : List A) (k : ℕ) (y : B) → slice_get (map f xs) k ≡ Some y → (x : A) × (slice_get xs k ≡ Some x) × (f x ≡ y)
mapped {A} {B} f xs k y at = by (slice_get xs k) refl (sym (slice_get-map f xs k) ∙ at)
  where
    by : (o : Option A) → slice_get xs k ≡ o → option_map f o ≡ Some y → (x : A) × (slice_get xs k ≡ Some x) × (f x ≡ y)
    by None e h = absurd (cc)
    by (Some x) e h = (x, e, some_same (f x) y h)

module _ {O I P : Type 0} (out : O → OutState) (inn : I → InState) where
  abbrev pub end_at : Ends O I P → LinkEnd
  end_at e = end_of (out e.out) (inn e.inn)

  -- the link gave nothing so far
  abbrev pub IsSilent : Ends O I P → Type 0
  IsSilent e = ((inn e.inn).gave ≡ 0) × IfSome (inn e.inn).gave_bytes (λ bytes. bytes ≡ [])
