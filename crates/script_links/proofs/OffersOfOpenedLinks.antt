-- Links that are opened one after another are offered what belongs to them, as their lines ask.
use Rattle.std.proofs.Common.{◌≡◌, ◌≢◌, ℕ, zero, suc, Bool, true, List, [], ◌∷◌, ◌++◌, length, map, slice_get, Option, Some, None, IfSome, ap, sym, subst, refl, ◌∙◌, arith}
use Rattle.std.proofs.lemmas.List.{length-map}
use lib.ListN.{get_elem?}
use Rattle.brpc_model.specs.Items.{Item, Shape, Open}
use Rattle.brpc_model.specs.Operations.{link_names, link_shapes}
use Rattle.sock_io.specs.declared.link.LinkSpec.{LinkSpec}
use Rattle.sock_io.specs.declared.link.Mode.{Mode}
use Rattle.sock_io.specs.LinkHalves.{OutState, InState, Offer, IsServed, IsNewOffer, IsFresh, new_pacing}
use Rattle.script_links.specs.LinksGivenBack.{spec_of, specs_of}
use Rattle.script_links.specs.OfferedLinks.{IsOffered, IsAsAsked, AreAsked}
use Rattle.script_links.proofs.LinkNumbering.{map_more}
use Rattle.script_links.proofs.ShapesOfOpenedLinks.{told_none, new_paced, paced_elsewhere}

-- what is told is there
told_there : {A : Type 0} (o : Option A) → o ≢ None → (x : A) × (o ≡ Some x)
told_there None told = absurd (told refl)
told_there (Some x) told = (x, refl)

-- a link that was opened just now is offered what belongs to it
new_offered : (out : OutState) (inn : InState) (number : ℕ) (spec : LinkSpec) → IsFresh out inn number → IfSome inn.offer (λ o. IsNewOffer spec o) → out.took ≢ None → inn.gave_bytes ≢ None → inn.offer ≢ None → IsOffered (out ∷ []) (inn ∷ []) 0 spec.shape.serve spec.shape.end
new_offered out inn number spec fresh new took gave offers =
    let o = told_there inn.offer offers in
    let is = subst (λ (x : Option Offer). IfSome x (λ o. IsNewOffer spec o)) o.1 new in record {
      out = out;
      out_at = refl;
      inn = inn;
      inn_at = refl;
      took = [];
      took_is = told_none out.took took fresh.unused.took;
      tells = record {
        gave = [];
        gave_is = told_none inn.gave_bytes gave fresh.unused.gave_bytes;
        offer = o.0;
        offer_is = o.1;
        serves = is.serve;
        ends = is.end;
      };
      served = subst (λ (finished : Bool). IsServed [] finished [] o.0) (sym fresh.unused.finished) is.served;
    }

-- the same halves, elsewhere in other lists
elsewhere : (outs outs' : List OutState) (inns inns' : List InState) (k k' : ℕ) (serve : Bool) (end : Option ℕ) → get_elem? outs' k' ≡ get_elem? outs k → get_elem? inns' k' ≡ get_elem? inns k → IsOffered outs inns k serve end → IsOffered outs' inns' k' serve end
elsewhere outs outs' inns inns' k k' serve end outs_are inns_are h = record {
  out = h.out;
  out_at = outs_are ∙ h.out_at;
  inn = h.inn;
  inn_at = inns_are ∙ h.inn_at;
  took = h.took;
  took_is = h.took_is;
  tells = h.tells;
  served = h.served;
}

-- as it was asked, elsewhere
asked_elsewhere : (goes : Mode → Bool) (outs outs' : List OutState) (inns inns' : List InState) (k k' : ℕ) (spec : LinkSpec) → get_elem? outs' k' ≡ get_elem? outs k → get_elem? inns' k' ≡ get_elem? inns k → IsAsAsked goes outs inns k spec → IsAsAsked goes outs' inns' k' spec
asked_elsewhere goes outs outs' inns inns' k k' spec outs_are inns_are h = (elsewhere outs outs' inns inns' k k' spec.shape.serve spec.shape.end outs_are inns_are h.0, λ by_shape. paced_elsewhere outs outs' k k' (new_pacing spec) outs_are (h.1 by_shape))

-- one link more
module _ (goes : Mode → Bool) (spec : LinkSpec) (out : OutState) (inn : InState) (one : IsAsAsked goes (out ∷ []) (inn ∷ []) 0 spec) where
  asked_push : (specs : List LinkSpec) (outs : List OutState) (inns : List InState) → length specs ≡ length outs → length specs ≡ length inns → AreAsked goes specs outs inns → AreAsked goes (specs ++ spec ∷ []) (outs ++ out ∷ []) (inns ++ inn ∷ [])
  asked_push [] [] [] m n h zero other at = let same : spec ≡ other = cc in subst (IsAsAsked goes (out ∷ []) (inn ∷ []) 0) same one
  asked_push [] [] [] m n h (suc k) other at = absurd (cc)
  asked_push [] (o ∷ os) inns m n h k other at = absurd (omega (arith, m))
  asked_push [] [] (i ∷ is) m n h k other at = absurd (omega (arith, n))
  asked_push (s ∷ ss) [] inns m n h k other at = absurd (omega (arith, m))
  asked_push (s ∷ ss) (o ∷ os) [] m n h k other at = absurd (omega (arith, n))
  asked_push (s ∷ ss) (o ∷ os) (i ∷ is) m n h zero other at = asked_elsewhere goes (o ∷ os) (o ∷ (os ++ out ∷ [])) (i ∷ is) (i ∷ (is ++ inn ∷ [])) 0 0 other refl refl (h zero other at)
  asked_push (s ∷ ss) (o ∷ os) (i ∷ is) m n h (suc k) other at = asked_elsewhere goes (os ++ out ∷ []) (o ∷ (os ++ out ∷ [])) (is ++ inn ∷ []) (i ∷ (is ++ inn ∷ [])) k (suc k) other refl refl
      (asked_push ss os is (omega (arith, m)) (omega (arith, n)) (λ j s at. asked_elsewhere goes (o ∷ os) os (i ∷ is) is (suc j) j s refl refl (h (suc j) s at)) k other at)

pub asked_with : {A : Type 0} (goes : Mode → Bool) (out_of : A → OutState) (inn_of : A → InState) (specs more : List LinkSpec) (old new : List A) (x : A) (number : ℕ) (spec : LinkSpec) → length specs ≡ length old → more ≡ specs ++ spec ∷ [] → new ≡ old ++ x ∷ [] →
    IsFresh (out_of x) (inn_of x) number → IfSome (inn_of x).offer (λ o. IsNewOffer spec o) → (goes spec.mode ≡ true → (out_of x).pacing ≡ Some (new_pacing spec)) → (out_of x).took ≢ None → (inn_of x).gave_bytes ≢ None → (inn_of x).offer ≢ None →
    AreAsked goes specs (map out_of old) (map inn_of old) → AreAsked goes more (map out_of new) (map inn_of new)
asked_with goes out_of inn_of specs more old new x number spec many asked push fresh offer shaped took gave offers h =
    subst (λ ss. AreAsked goes ss (map out_of new) (map inn_of new)) (sym asked)
    (subst (λ os. AreAsked goes (specs ++ spec ∷ []) os (map inn_of new)) (sym (ap (map out_of) push ∙ map_more out_of old x))
    (subst (λ is. AreAsked goes (specs ++ spec ∷ []) (map out_of old ++ out_of x ∷ []) is) (sym (ap (map inn_of) push ∙ map_more inn_of old x))
    (asked_push goes spec (out_of x) (inn_of x) (new_offered (out_of x) (inn_of x) number spec fresh offer took gave offers, λ by_shape. new_paced (out_of x) (new_pacing spec) took fresh.unused.took (shaped by_shape)) specs (map out_of old) (map inn_of old)
    (many ∙ sym (length-map old out_of)) (many ∙ sym (length-map old inn_of)) h)))

-- nothing is asked of no links
pub none_asked : (goes : Mode → Bool) (specs : List LinkSpec) (outs : List OutState) (inns : List InState) → specs ≡ [] → AreAsked goes specs outs inns
none_asked goes [] outs inns none_ k spec at = absurd (cc)
none_asked goes (s ∷ ss) outs inns none_ k spec at = absurd (cc)

-- what is asked of the link of an `open`
pub asked_at : (mode : Mode) (script : List Item) (k : ℕ) (shape : Shape) → slice_get (link_shapes script) k ≡ Some shape → slice_get (specs_of mode script) k ≡ Some (spec_of mode shape)
asked_at mode [] k shape at = absurd (cc)
asked_at mode (Open name other ∷ items) zero shape at = let same : other ≡ shape = cc in ap (λ s. Some (spec_of mode s)) same
asked_at mode (Open name other ∷ items) (suc k) shape at = asked_at mode items k shape at
asked_at mode (item ∷ items) k shape at = asked_at mode items k shape at

-- each name of a link has a shape
pub shapes_many : (script : List Item) → length (link_shapes script) ≡ length (link_names script)
shapes_many [] = refl
shapes_many (Open name shape ∷ items) = ap suc (shapes_many items)
shapes_many (item ∷ items) = shapes_many items
