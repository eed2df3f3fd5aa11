-- Where nothing went wrong, and no link gave anything, no reading of a link ended early.
use Rattle.std.proofs.Common.{◌≡◌, ℕ, suc, ◌<◌, Bool, true, false, List, [], ◌∷◌, length, slice_get, Some, inl, inr, Contains, refl, ap, sym, ◌∙◌, arith}
use Rattle.brpc_model.specs.Items.{Item, Shape, Open}
use Rattle.brpc_model.specs.Operations.{link_names, link_shapes}
use Rattle.brpc_model.specs.ReturnedLink.{LinkEnd}
use Rattle.brpc_model.specs.LinkFailureCauses.{HasFault}
use Rattle.brpc_model.specs.Complete.{IsUntroubled, IsSilentUnserved}
use Rattle.seat_programs.specs.Cores.{Core}
use Rattle.sock_deeds.specs.report_fits.specs.ScriptLinkEnds.{EndsEarly, AreEndsOf}
use Rattle.sock_deeds.specs.script_facts.proofs.FilteredLists.{within, all_at}
use Rattle.sock_deeds.specs.SocketsTold.{fixed_by}
use Rattle.callless_fits.specs.WholeCalllessReport.{IsSilentServed, AreSilentServed}

-- each link has a shape
shapes_many : (script : List Item) → length (link_shapes script) ≡ length (link_names script)
shapes_many [] = refl
shapes_many (Open name shape ∷ items) = ap suc (shapes_many items)
shapes_many (other ∷ items) = shapes_many items

-- no byte is no fault
no_fault : (bytes : List ℕ) → length bytes ≡ 0 → HasFault bytes → ⊥
no_fault [] none_ (start, fault, e) = cc
no_fault (b ∷ bytes) none_ fault = omega (arith, none_)

module _ (script : List Item) (core : Core) (broken early : List ℕ) (fails : List (ℕ × ℕ)) (gave : ℕ → List ℕ) (ends : List LinkEnd) (given : AreEndsOf script core (fixed_by broken early fails) gave ends)
    (calm : IsUntroubled script ends) (silent : AreSilentServed script ends) where
  silent_at : (k : ℕ) (e : LinkEnd) → slice_get ends k ≡ Some e → (shape : Shape) → slice_get (link_shapes script) k ≡ Some shape → (e.gave_count ≡ 0) × (e.gave_end ≡ false)
  silent_at k e at shape is = by_shape shape.serve refl
    where
      there : slice_get (link_shapes script) e.link ≡ Some shape
      there = ap (slice_get (link_shapes script)) (given.each k e at).numbered ∙ is

      by_shape : (b : Bool) → shape.serve ≡ b → (e.gave_count ≡ 0) × (e.gave_end ≡ false)
      by_shape true s = all_at (IsSilentServed script) ends e silent (k, at) shape there s
      by_shape false s = all_at (IsSilentUnserved script) ends e calm.unserved (k, at) shape there s

  not_early : (k : ℕ) (e : LinkEnd) → slice_get ends k ≡ Some e → (e.gave_count ≡ 0) × (e.gave_end ≡ false) → EndsEarly (gave k) e → ⊥
  not_early k e at (none_, on) (inl end_) = (let no : true ≡ false = sym end_ ∙ on in cc)
  not_early k e at (none_, on) (inr (inl fault)) = no_fault (gave k) ((given.each k e at).counted ∙ none_) fault
  not_early k e at (none_, on) (inr (inr (inl most))) = omega (arith, none_, most)
  not_early k e at (none_, on) (inr (inr (inr failed))) = (let put = all_at (λ (x : LinkEnd). (x.put_faults ≡ 0) × (x.take_faults ≡ 0)) ends e calm.put (k, at) in omega (arith, put.1, failed))

  pub none_early : (k : ℕ) → k < length (link_names script) → Contains early k → ⊥
  none_early k low there =
      let e = within ends k (omega (arith, low, given.as_many)) in
      let shape = within (link_shapes script) k (omega (arith, low, shapes_many script)) in
      not_early k e.0 e.1 (silent_at k e.0 e.1 shape.0 shape.1) ((given.each k e.0 e.1).early there)
