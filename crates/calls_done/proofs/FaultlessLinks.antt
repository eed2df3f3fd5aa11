-- The links of a run in which nothing went wrong: the reading of none ended early, and none gave a fault.
use Rattle.std.proofs.Common.{◌≡◌, ℕ, zero, suc, ◌<◌, inl, inr, Bool, true, false, List, [], ◌∷◌, length, slice_get, Some, refl, sym, ap, ◌∙◌, subst, arith}
use Rattle.std.proofs.lemmas.List.{nil_from_length}
use Rattle.std.specs.Prelude.{IsTrue, Contains}
use Rattle.brpc_model.specs.LinkFailureCauses.{HasFault, reading_limit}
use Rattle.brpc_model.specs.Complete.{IsSilentUnserved, IsUntroubled}
use Rattle.brpc_model.specs.Items.{Item, Shape, Open}
use Rattle.brpc_model.specs.ReturnedLink.{LinkEnd}
use Rattle.brpc_model.specs.Operations.{link_names, link_shapes}
use Rattle.callless_fits.specs.sock_deeds.specs.report_fits.specs.ScriptLinkEnds.{IsEndOf, EndsEarly}
use Rattle.callless_fits.specs.sock_deeds.specs.script_facts.proofs.FilteredLists.{Has, all_at, has_later, contains_from, some_is, within}
use Rattle.seat_programs.specs.Tasks.{plan_of}
use Rattle.callless_fits.specs.sock_deeds.specs.SocketsTold.{fixed_by}
use Rattle.calls_done.proofs.KnownCallRun.{Known}
use Rattle.calls_done.specs.OwedToCalls.{IsUnsent, GivesWell, GaveFew}
use Rattle.callless_fits.proofs.EverySendPlaced.{run_of, links}

-- ## The shape of a link

pub shape_at : (items : List Item) (k : ℕ) (name : List ℕ) → slice_get (link_names items) k ≡ Some name → (shape : Shape) × (slice_get (link_shapes items) k ≡ Some shape) × Has items (Open name shape)
shape_at [] k name e = absurd (cc)
shape_at (Open n s ∷ items) zero name e = (s, refl, (zero, ap (λ (x : List ℕ). Some (Open x s)) (some_is n name e)))
shape_at (Open n s ∷ items) (suc k) name e = let x = shape_at items k name e in (x.0, x.1, has_later (Open n s) items (Open name x.0) x.2)
shape_at (item ∷ items) k name e = let x = shape_at items k name e in (x.0, x.1, has_later item items (Open name x.0) x.2)

-- each link has one
pub shapes_many : (items : List Item) → length (link_shapes items) ≡ length (link_names items)
shapes_many [] = refl
shapes_many (Open n s ∷ items) = ap suc (shapes_many items)
shapes_many (item ∷ items) = shapes_many items

pub no_fault_none : HasFault [] → ⊥
no_fault_none (start, fault, e) = cc

module _ (s : Known) (untroubled : IsUntroubled s.run.script s.run.ends) where
  -- ## Links

  pub record LinkAt (k : ℕ) : Type 0 where
    pub end : LinkEnd
    pub at : slice_get s.run.ends k ≡ Some end
    pub is : IsEndOf (plan_of s.run.script) s.run.core (fixed_by s.run.broken s.run.early s.run.fails) s.run.gave k end
    pub name : List ℕ
    pub named : slice_get (link_names s.run.script) k ≡ Some name
    pub shape : Shape
    pub shaped : slice_get (link_shapes s.run.script) k ≡ Some shape
    pub opened : Contains s.run.script (Open name shape)

  pub link_at : (k : ℕ) → k < links s.run → LinkAt k
  link_at k low = let e = within s.run.ends k (let m = s.run.given.as_many in omega (arith, low, m)) in let n = within (link_names s.run.script) k low in let x = shape_at s.run.script k n.0 n.1 in
      record { end = e.0; at = e.1; is = s.run.given.each k e.0 e.1; name = n.0; named = n.1; shape = x.0; shaped = x.1; opened = contains_from s.run.script (Open n.0 x.0) x.2 }

  unfailed : (k : ℕ) (l : LinkAt k) → (l.end.put_faults ≡ 0) × (l.end.take_faults ≡ 0)
  unfailed k l = all_at (λ (x : LinkEnd). (x.put_faults ≡ 0) × (x.take_faults ≡ 0)) s.run.ends l.end untroubled.put (k, l.at)

  -- a link without the server gave nothing, and no end
  quiet : (k : ℕ) (l : LinkAt k) → l.shape.serve ≡ false → (l.end.gave_count ≡ 0) × (l.end.gave_end ≡ false)
  quiet k l none_ = all_at (IsSilentUnserved s.run.script) s.run.ends l.end untroubled.unserved (k, l.at) l.shape (ap (slice_get (link_shapes s.run.script)) l.is.numbered ∙ l.shaped) none_

  pub unserved : (k : ℕ) (l : LinkAt k) → l.shape.serve ≡ false → s.run.gave k ≡ []
  unserved k l none_ = let counted = l.is.counted in let zero_ = (quiet k l none_).0 in nil_from_length (s.run.gave k) (omega (arith, counted, zero_))

  -- no `send` names a link with the server
  pub unsent : (k : ℕ) (l : LinkAt k) → IsTrue l.shape.serve → IsUnsent (run_of s.run) k
  unsent k l serves name bytes there named = untroubled.no_stray name bytes there (l.shape, subst (λ n. Contains s.run.script (Open n l.shape)) (some_is l.name name (sym l.named ∙ named)) l.opened, serves)

  -- so each link gave no fault
  pub faultless : GivesWell (run_of s.run) → (k : ℕ) → LinkAt k → HasFault (s.run.gave k) → ⊥
  faultless well k l = by l.shape.serve refl
    where
      by : (b : Bool) → l.shape.serve ≡ b → HasFault (s.run.gave k) → ⊥
      by true serves = (well k l.shape l.shaped serves (unsent k l serves)).faultless
      by false none_ = λ fault. no_fault_none (subst HasFault (unserved k l none_) fault)

  -- ended early
  pub none_early : GivesWell (run_of s.run) → GaveFew s.run.script s.run.ends → (k : ℕ) → k < links s.run → Contains s.run.early k → ⊥
  none_early well bounds k low early = by (link_at k low) (let l = link_at k low in l.is.early early)
    where
      by_count : (l : LinkAt k) → (l.end.gave_end ≡ true → ⊥) → l.end.gave_count < reading_limit → EndsEarly (s.run.gave k) l.end → ⊥
      by_count l endless few (inl ended) = endless ended
      by_count l endless few (inr (inl fault)) = faultless well k l fault
      by_count l endless few (inr (inr (inl most))) = let z : ⊥ = omega (arith, most, few) in z
      by_count l endless few (inr (inr (inr failed))) = let f = (unfailed k l).1 in let z : ⊥ = omega (arith, failed, f) in z

      by_server : (l : LinkAt k) (b : Bool) → l.shape.serve ≡ b → EndsEarly (s.run.gave k) l.end → ⊥
      by_server l true serves = by_count l ((well k l.shape l.shaped serves (unsent k l serves)).goes_on (untroubled.no_end l.name l.shape l.opened) l.end l.at) (bounds k l.end l.shape l.at l.shaped serves)
      by_server l false none_ = let u = quiet k l none_ in by_count l (λ ended. let z : false ≡ true = sym u.1 ∙ ended in cc) (let z = u.0 in omega (arith, z))

      by : (l : LinkAt k) → EndsEarly (s.run.gave k) l.end → ⊥
      by l = by_server l l.shape.serve refl
