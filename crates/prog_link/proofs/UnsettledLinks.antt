-- Links that settle, and such as have nothing to settle.
use Rattle.std.proofs.Common.{◌≡◌, ◌≢◌, ℕ, Bool, true, List, Option, Some, None, refl, ap, subst}
use Rattle.std.specs.Prelude.{IfSome}
use Rattle.sock_io.specs.declared.ending.Ending.TheVariants as ending
use Rattle.sock_io.specs.LinkHalves.{OutState, Offer, IsServed, IsSettled, offered_by}
use Rattle.loop_link.specs.ServingFedBytes.{LoopInState, Settled, loop_in, offer_of}
use Rattle.loop_link.proofs.LinkOffersStay.{settles}
use Rattle.ring_link.proofs.RingEndFindings.{settled_still}
use Rattle.prog_link.specs.declared.prog_in.ProgIn.{ProgIn}
use Rattle.prog_link.specs.declared.prog_in.ProgIn.TheVariants as inn
use Rattle.prog_link.specs.AnyLinkHalves.{prog_in}

none_offered : (o : Offer) → None ≡ Some o → ⊥
none_offered o e = cc

-- a link over rings was offered what belongs to all that it took, where that is known; over TCP it never is
pub settled_other : (out : OutState) (i : ProgIn) → ((half : LoopInState) → i ≡ inn.Loop half → ⊥) → IsSettled out (prog_in i) (prog_in i)
settled_other out (inn.Loop half) other = absurd (other half refl)
settled_other out (inn.Ring half) other = settled_still out half
settled_other out (inn.Tcp half) other = λ o took gave is. absurd (none_offered o is)

-- a link in memory was offered what belongs to all that its writing half took, where that is told
pub settled_loop : (out : OutState) (took : List ℕ) (finished : Bool) (old new : LoopInState) → IfSome out.took (λ t. took ≡ t) → IfSome out.took (λ _. finished ≡ out.finished) → (IsServed took finished old.half.given (offer_of old) → Settled took finished new)
    → new.half.given ≡ old.half.given → IsSettled out (loop_in old) (loop_in new)
settled_loop out took finished old new takes ends settled same o t gave offer_is took_is gave_is s =
    let took_all : took ≡ t = subst (λ (x : Option (List ℕ)). IfSome x (λ l. took ≡ l)) took_is takes in
    let ended : finished ≡ out.finished = subst (λ (x : Option (List ℕ)). IfSome x (λ _. finished ≡ out.finished)) took_is ends in
    subst (λ (f : Bool). IsServed t f gave o → (o' : Offer) × (Some (offer_of new) ≡ Some o') × IsServed t f gave o' × (offered_by o' t ≡ offered_by o' o'.fed) × (f ≡ true → o'.ending ≢ ending.Open)) ended
    (settles took finished old new settled same o t gave offer_is (ap Some took_all) gave_is) s
