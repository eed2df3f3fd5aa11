-- Links that are opened one after another.
use Rattle.std.proofs.Common.{◌≡◌, Bool, List, [], ◌∷◌, ◌++◌, sym, subst}
use Rattle.sock_io.specs.declared.link.Ends.{Ends}
use Rattle.sock_io.specs.declared.link.LinkSpec.{LinkSpec}
use Rattle.sock_io.specs.declared.link.Mode.{Mode}
use Rattle.sock_io.specs.LinkHalves.{OutState, InState}
use Rattle.sock_io.specs.Peer.{PeerState}
use Rattle.script_links.specs.OpenedLinkEnds.{IsOpened, AreOpened}

module _ {O I P : Type 0} (tells_in : Mode → Bool) (out : O → OutState) (peer : P → PeerState) (inn : I → InState) where
  abbrev Are : List LinkSpec → List (Ends O I P) → Type 0
  Are = AreOpened tells_in out peer inn

  pub none_opened : (specs : List LinkSpec) (ends : List (Ends O I P)) → specs ≡ [] → ends ≡ [] → Are specs ends
  none_opened specs ends s e = subst (λ (ss : List LinkSpec). Are ss ends) (sym s) (subst (Are []) (sym e) tt)

  one_more : (specs : List LinkSpec) (old : List (Ends O I P)) (spec : LinkSpec) (x : Ends O I P) → Are specs old → IsOpened tells_in out peer inn spec x → Are (specs ++ spec ∷ []) (old ++ x ∷ [])
  one_more [] [] spec x a one = (one, tt)
  one_more (s ∷ ss) (e ∷ es) spec x a one = (a.0, one_more ss es spec x a.1 one)
  one_more [] (e ∷ es) spec x a one = absurd a
  one_more (s ∷ ss) [] spec x a one = absurd a

  pub opened_with : (specs more : List LinkSpec) (old new : List (Ends O I P)) (spec : LinkSpec) (x : Ends O I P) → more ≡ specs ++ spec ∷ [] → new ≡ old ++ x ∷ [] → IsOpened tells_in out peer inn spec x → Are specs old → Are more new
  opened_with specs more old new spec x s e one a = subst (λ (ss : List LinkSpec). Are ss new) (sym s) (subst (Are (specs ++ spec ∷ [])) (sym e) (one_more specs old spec x a one))
