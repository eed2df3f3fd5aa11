-- What a link in memory offers belongs to what it took and gave, behind a put.
use Rattle.std.proofs.Common.{◌≡◌, ℕ, List, ◌++◌, Some, sym, subst}
use Rattle.sock_io.specs.declared.link.Put.{Put}
use Rattle.sock_io.specs.LinkHalves.{IsServed, PutStep, taken_of}
use Rattle.sock_io.specs.ShapeOfPuts.{ShapedState, shaped_out}
use Rattle.sock_io.proofs.HalvesKeepOffers.{served_put}
use Rattle.loop_link.specs.ServingFedBytes.{LoopInState, offer_of}

some_same : {A : Type 0} (a b : A) → Some a ≡ Some b → a ≡ b
some_same a b e = cc

abbrev pub Serves : ShapedState → LoopInState → Type 0
Serves out i = IsServed out.taken out.inner.finished i.half.given (offer_of i)

module _ (out out' : ShapedState) (i : LoopInState) where
  pub put_took : (piece : List ℕ) (result : Put) → PutStep (shaped_out out) (shaped_out out') piece result → out'.taken ≡ out.taken ++ taken_of piece result
  put_took piece result step = some_same out'.taken (out.taken ++ taken_of piece result) step.took

  pub serves_put : (piece : List ℕ) (result : Put) → PutStep (shaped_out out) (shaped_out out') piece result → Serves out i → Serves out' i
  serves_put piece result step s = subst (λ (t : List ℕ). IsServed t out'.inner.finished i.half.given (offer_of i)) (sym (put_took piece result step))
      (served_put (shaped_out out) (shaped_out out') out.taken i.half.given (offer_of i) piece result step s)
