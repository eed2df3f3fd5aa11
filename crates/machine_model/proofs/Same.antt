-- The table of a machine and its links stay as they were.
use Rattle.std.proofs.Common.{◌≡◌, ℕ, inl, inr, Bool, true, List, length, get_or, refl, sym, ap, ◌∙◌, subst, ⊎_elim, arith}
use Rattle.std.proofs.lemmas.Option.{same_Some, slice_get_within, slice_get-get_or}
use Rattle.std.specs.Prelude.{Option, slice_get, Some, None, option_map}
use Rattle.brpc_model.specs.ReturnedLink.{LinkEnd}
use Rattle.machine_model.specs.Machines.{MachineState}
use Rattle.machine_model.specs.MachineRuns.{SameLink, SameTable, SameLinks}

pub same_table_none : (m : MachineState) → SameTable m m
same_table_none m = record { plans = record { plan = refl; id_plan = refl; calls = refl; ending = refl }; opens = refl }

pub same_table_join : (a b c : MachineState) → SameTable a b → SameTable b c → SameTable a c
same_table_join a b c h o = record { plans = record { plan = o.plan ∙ h.plan; id_plan = o.id_plan ∙ h.id_plan; calls = o.calls ∙ h.calls; ending = o.ending ∙ h.ending }; opens = o.opens ∙ h.opens }

pub same_link_none : (e : LinkEnd) → SameLink e e
same_link_none e = record { link = refl; later = omega arith; more = omega arith; later_takes = omega arith; gave_end = λ h. h; closed = inl refl }

-- what a reading half answered once stays
closed_twice : (o : Option Bool) → option_map (λ _. true) (option_map (λ (b : Bool). true) o) ≡ option_map (λ _. true) o
closed_twice None = refl
closed_twice (Some b) = refl

pub same_link_join : (x y z : LinkEnd) → SameLink x y → SameLink y z → SameLink x z
same_link_join x y z h o = record {
  link = o.link ∙ h.link;
  later = let first = h.later in let second = o.later in omega (arith, first, second);
  more = let first = h.more in let second = o.more in omega (arith, first, second);
  later_takes = let first = h.later_takes in let second = o.later_takes in omega (arith, first, second);
  gave_end = λ e. o.gave_end (h.gave_end e);
  closed = ⊎_elim
      (λ e. ⊎_elim (λ f. inl (e ∙ f)) (λ f. inr (e ∙ f)) h.closed)
      (λ e. ⊎_elim (λ f. inr (e ∙ ap (option_map (λ _. true)) f)) (λ f. inr (e ∙ ap (option_map (λ _. true)) f ∙ closed_twice x.closed)) h.closed)
      o.closed;
}

-- a link stood there before
pub stood_before : (old new : List LinkEnd) (k : ℕ) (e : LinkEnd) → length new ≡ length old → slice_get new k ≡ Some e → (x : LinkEnd) × (slice_get old k ≡ Some x)
stood_before old new k e many at = let inside = slice_get_within new k e at in (get_or old k e, slice_get-get_or old k e (omega (arith, many, inside)))

pub same_links_none : (m : MachineState) → SameLinks m m
same_links_none m = record { as_many = refl; each = λ k x y at also. subst (SameLink x) (same_Some x y (sym at ∙ also)) (same_link_none x); always_ready = λ h. h; tell = λ h. h }

pub same_links_join : (a b c : MachineState) → SameLinks a b → SameLinks b c → SameLinks a c
same_links_join a b c h o = record {
  as_many = o.as_many ∙ h.as_many;
  each = λ k x z at also. let y = stood_before b.ends c.ends k z o.as_many also in same_link_join x y.0 z (h.each k x y.0 at y.1) (o.each k y.0 z y.1 also);
  always_ready = λ always_ready. o.always_ready (h.always_ready always_ready);
  tell = λ tell. o.tell (h.tell tell);
}

pub both_join : (a b c : MachineState) → SameTable a b × SameLinks a b → SameTable b c × SameLinks b c → SameTable a c × SameLinks a c
both_join a b c h o = (same_table_join a b c h.0 o.0, same_links_join a b c h.1 o.1)
