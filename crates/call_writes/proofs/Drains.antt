-- A seat that writes until the head is empty, with calls.
use Rattle.std.proofs.Common.{◌≡◌, ◌⊎◌, ℕ, inl, inr, refl, sym, ap, subst}
use Rattle.sock_io.specs.LinkHalves.{OutState}
use Rattle.sock_words.specs.declared.plain.Plan.{Plan}
use Rattle.sock_model.specs.declared.view.View.{View}
use Rattle.write_chain.specs.NotingWhileWriting.{Wrote}
use Rattle.write_chain.proofs.NotingWhileWriting.{wrote_rights, wrote_then, drop_then}
use Rattle.write_chain.proofs.Dropping.{code_before}
use Rattle.call_errors.specs.rpc_client.specs.SeatBetweenOperations.{SameRefs}
use Rattle.call_errors.specs.rpc_client.specs.SendingOutcomes.{WroteAll}
use Rattle.call_errors.specs.rpc_client.proofs.WritingUntilHeadEmpty.{all_none, all_wrote, all_dropped, all_then, all_refs}
use Rattle.call_errors.specs.ClientBooks.{CallStand}
use Rattle.call_writes.specs.Draining.{DroppedOne, DroppedAll, none, one_more, Drained}

module _ {O : Type 0} {state : O → OutState} (p : Plan) (slots id : ℕ) where
  pub drained_none : (v : View) (s : CallStand) → Drained state p slots id v s v s
  drained_none v s = record { last = v; dropped = none; wrote = wrote_rights v v refl }

  -- nothing was dropped
  pub drained_wrote : (v w : View) (s : CallStand) → Wrote state id v w → Drained state p slots id v s w s
  drained_wrote v w s a = record { last = v; dropped = none; wrote = a }

  -- the seat had written before
  one_after : (u v w : View) (s t : CallStand) → Wrote state id u v → DroppedOne state p slots id v s w t → DroppedOne state p slots id u s w t
  one_after u v w s t a one = record {
    msg = one.msg;
    code = one.code;
    wrote = drop_then p one.msg u v w a one.wrote;
    dead = one.dead;
    code_is = code_before one.code id u v w a one.code_is;
    told = one.told;
  }

  all_after : (u v : View) (s : CallStand) (w : View) (t : CallStand) → Wrote state id u v → DroppedAll state p slots id v s w t → ((w ≡ v) × (t ≡ s)) ⊎ DroppedAll state p slots id u s w t
  all_after u v s _ _ a none = inl (refl, refl)
  all_after u v s _ _ a (one_more x r w t more one) = elim (all_after u v s x r a more) [
    | inl same ↦ inr (one_more u s w t none (one_after u v w s t a (subst (λ (y : View). DroppedOne state p slots id y s w t) same.0 (subst (λ (y : CallStand). DroppedOne state p slots id x y w t) same.1 one))))
    | inr all ↦ inr (one_more x r w t all one)
  ]

  pub drained_after : (u v w : View) (s t : CallStand) → Wrote state id u v → Drained state p slots id v s w t → Drained state p slots id u s w t
  drained_after u v w s t a d = elim (all_after u v s d.last t a d.dropped) [
    | inl same ↦ record { last = u; dropped = subst (λ (y : CallStand). DroppedAll state p slots id u s u y) (sym same.1) none; wrote = wrote_then u v w a (subst (λ (y : View). Wrote state id y w) same.0 d.wrote) }
    | inr all ↦ record { last = d.last; dropped = all; wrote = d.wrote }
  ]

  -- of sockets alone
  all_wrote_all : (v : View) (s : CallStand) (w : View) (t : CallStand) → DroppedAll state p slots id v s w t → WroteAll state p id v w
  all_wrote_all v s _ _ none = all_none p id v
  all_wrote_all v s _ _ (one_more x r w t more one) = all_then p id v x w (all_wrote_all v s x r more) (all_dropped p id one.msg x w one.wrote)

  pub drained_all : (v w : View) (s t : CallStand) → Drained state p slots id v s w t → WroteAll state p id v w
  drained_all v w s t d = all_then p id v d.last w (all_wrote_all v s d.last t d.dropped) (all_wrote p id d.last w d.wrote)

  -- all else that the seat has is as it was, but for notes
  pub drained_refs : (v w : View) (s t : CallStand) → Drained state p slots id v s w t → SameRefs v w
  drained_refs v w s t d = all_refs p id v w (drained_all v w s t d)

  pub drained_same : (v w : View) (s t : CallStand) → Drained state p slots id v s w t → (w.claims ≡ v.claims) × (w.loose ≡ v.loose) × (w.share ≡ v.share) × (w.lists ≡ v.lists) × (w.found ≡ v.found)
  drained_same v w s t d = let e = (drained_all v w s t d).became.others in (ap (λ (y : View). y.claims) e, ap (λ (y : View). y.loose) e, ap (λ (y : View). y.share) e, ap (λ (y : View). y.lists) e, ap (λ (y : View). y.found) e)
