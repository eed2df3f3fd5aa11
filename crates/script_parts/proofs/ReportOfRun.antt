-- The report of what a run left, and the links of a run as they are given back.
use Rattle.std.proofs.Common.{◌≡◌, ℕ, zero, suc, List, [], ◌∷◌, length, map, replicate, IfSome, Result, Ok, Err, IfOk, OnOk, refl, ap, subst, arith}
use Rattle.sock_io.specs.declared.link.Ends.{Ends}
use Rattle.sock_io.specs.LinkHalves.{OutState, InState}
use Rattle.brpc_model.specs.ReturnedLink.{LinkEnd}
use Rattle.brpc_model.specs.PlaceWords.{took_at, AreTold}
use Rattle.callless_fits.specs.sock_deeds.specs.script_facts.proofs.Flat.{at_map}
use Rattle.call_run.specs.link_crew.specs.declared.beside.Rest.{Rest}
use Rattle.script_parts.specs.HalvesApartAndTogether.{AreTaken, joined}
use Rattle.script_parts.proofs.LinksUntilParting.{end_at}

pub long_replicate : {A : Type 0} (n : ℕ) (x : A) → length (replicate n x) ≡ n
long_replicate zero x = refl
long_replicate (suc n) x = ap suc (long_replicate n x)

module _ {O I P : Type 0} (out : O → OutState) (inn : I → InState) where
  abbrev pub out_at : Ends O I P → OutState
  out_at e = out e.out

  -- what is said of the writing halves is said of the links
  pub told_of : (ends : List (Ends O I P)) (took : List (List ℕ)) → AreTaken out_at ends took → AreTold (map (end_at out inn) ends) took
  told_of ends took h k e at = let w = at_map (end_at out inn) ends k e at in subst (λ (l : LinkEnd). IfSome l.took (λ bytes. took_at took k ≡ bytes)) w.2 (h k w.0 w.1)

  -- ## The halves that are put together

  pub joined_outs : (outs : List O) (rests : List (Rest I P)) → length outs ≡ length rests → map (λ (e : Ends O I P). e.out) (joined outs rests) ≡ outs
  joined_outs [] rests same = refl
  joined_outs (o ∷ os) [] same = absurd (omega arith)
  joined_outs (o ∷ os) (r ∷ rs) same = ap (λ l. o ∷ l) (joined_outs os rs (omega arith))

-- ## Results

-- what is known of a value that was handed on
pub if_moved : {T E F : Type 0} (Q R : T → Type 0) (r : Result T E) (f : Result T F) → IfOk r (λ t. f ≡ Ok t) → IfOk f Q → ((t : T) → Q t → R t) → IfOk r R
if_moved Q R (Ok t) f e h go = go t (subst (λ x. IfOk x Q) e h)
if_moved Q R (Err x) f e h go = tt

pub on_ok : {T E : Type 0} (r : Result T E) (P : Type 0) → P → OnOk r P
on_ok (Ok t) P p = p
on_ok (Err x) P p = tt
