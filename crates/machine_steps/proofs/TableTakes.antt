-- What a take makes of its link, as it would be given back.
use Rattle.std.proofs.Common.{◌≡◌, ◌≢◌, refl, ℕ, ◌+◌, ◌<◌, ◌⊎◌, inl, inr, ⊎_elim, Bool, true, false, List, [], ◌∷◌, ◌++◌, map, length, min, take, slice_set, slice_index_or, Option, Some, None, IfSome, option_map, ap, sym, ◌∙◌, subst, arith, append_assoc}
use Rattle.std.specs.Io.KnownBytes.{append_known}
use Rattle.std.proofs.lemmas.List.{map-set, length-append, length-take, take_min}
use Rattle.std.proofs.Math.Seq.{take-append_seam}
use Rattle.atomic_table.proofs.Lists.{at_map, at_index}
use mathlib.Core.Option as core
use lib.ListN.{get_elem?}
use Rattle.brpc_model.specs.ReturnedLink.{LinkEnd, TakeTook}
use Rattle.sock_io.specs.declared.ending.Ending.TheVariants as ending
use Rattle.sock_io.specs.declared.link.Take.{Take}
use Rattle.sock_io.specs.declared.link.Take.TheVariants as takes
use Rattle.sock_io.specs.FaultCauses.{Rose}
use Rattle.sock_io.specs.LinkHalves.{OutState, InState, Offer, IsServed, IsSettled, FillsRoom, OfferTaken, OffersKept, OffersTaken, TakeStep, SettleStep, given_of, offered_by, of_take, more_told, end_of}
use Rattle.sock_io.proofs.HalvesKeepOffers.{served_take, gave_offered, gave_to_end}
use Rattle.machine_model.specs.run_theorems.specs.Heard.{answer_of, bytes_found}
use Rattle.machine_model.specs.run_theorems.specs.OfferedAtTakes.{GaveSo}
use Rattle.seat_programs.specs.Asides.{Closed}
use Rattle.seat_programs.specs.Ticks.{FitsTake}
use Rattle.reader_seats.specs.ReaderGoesOn.{taking_of}
use Rattle.machine_model.specs.MachineLinks.{is_done}
use Rattle.machine_model.specs.Machines.{TableState}
use Rattle.machine_model.specs.ReadingSteps.{OffersOn, TakenFrom}
use Rattle.machine_model.specs.MachineRuns.{SameLink, ShowsTaking}

-- ## What a take gave

given_as : (room : List ℕ) (answer : Take) → bytes_found (taking_of room answer) ≡ given_of room answer
given_as room (takes.Took n) = refl
given_as room _ = refl

module _ (inn inn' : InState) (room : List ℕ) where
  count_is : (answer : Take) → TakeStep inn inn' room answer → inn'.gave ≡ inn.gave + length (bytes_found (taking_of room answer))
  count_is (takes.Took n) step = let all = length-take n room in let most = step.count in let a = step.gave in omega (arith, all, most.1, a)
  count_is _ step = step.gave

  fits_is : (answer : Take) → TakeStep inn inn' room answer → FitsTake (length room) (taking_of room answer)
  fits_is (takes.Took n) step = let all = length-take n room in let most = step.count in (omega (arith, all, most.0, most.1), omega (arith, all, most.1))
  fits_is _ step = tt

  answer_is : (answer : Take) → TakeStep inn inn' room answer → of_take answer ∷ [] ≡ answer_of (taking_of room answer)
  answer_is (takes.Took n) step = let all = length-take n room in let most = step.count in ap (λ m. TakeTook m ∷ []) (let e : n ≡ length (take n room) = omega (arith, all, most.1) in e)
  answer_is _ step = refl

  gave_end : (answer : Take) → TakeStep inn inn' room answer → inn.gave_end ≡ true → inn'.gave_end ≡ true
  gave_end takes.End step e = step.end.0 refl
  gave_end _ step e = step.end.1 (λ x. cc) ∙ e

  closed_is : (answer : Take) → TakeStep inn inn' room answer → (inn'.closed ≡ inn.closed) ⊎ (inn'.closed ≡ option_map (λ _. true) inn.closed)
  closed_is takes.Closed step = inr (step.closed.0 refl)
  closed_is _ step = inl (step.closed.1 (λ x. cc))

  some_fault : Rose inn.faults inn'.faults → 0 < inn'.faults
  some_fault rose = omega (arith, rose)

  is_closed : (o : Option Bool) → IfSome (option_map (λ _. true) o) (λ closed. closed ≡ true)
  is_closed None = tt
  is_closed (Some closed) = refl

  shows_is : (out : OutState) (answer : Take) → TakeStep inn inn' room answer → ShowsTaking (taking_of room answer) (end_of out inn')
  shows_is out (takes.Took n) step = tt
  shows_is out takes.Empty step = tt
  shows_is out takes.End step = step.end.0 refl
  shows_is out takes.Closed step = subst (λ o. IfSome o (λ closed. closed ≡ true)) (sym (step.closed.0 refl)) (is_closed inn.closed)
  shows_is out takes.Failed step = some_fault (step.failed refl)

  is_take : (answer : Take) → taking_of room answer ≡ Closed → answer ≡ takes.Closed
  is_take takes.Closed e = refl
  is_take _ e = cc

-- ## What was offered

-- as many bytes as the room takes, which stand in front of what waits, are the ones that a room of this size takes of it
front_taken : (room rest waiting : List ℕ) (n : ℕ) → n ≡ min (length room) (length waiting) → take n room ++ rest ≡ waiting → take n room ≡ take (length room) waiting
front_taken room rest waiting n fills front =
    let many : length (take n room) ≡ n = let all = length-take n room in omega (arith, all, fills) in
    sym (take-append_seam (take n room) rest) ∙ ap (λ m. take m (take n room ++ rest)) many ∙ ap (take n) front ∙ ap (λ m. take m waiting) fills ∙ take_min (length room) waiting

-- a link that isn't known to end isn't finished
not_finished : (finished : Bool) (o : Offer) → (finished ≡ true → o.ending ≢ ending.Open) → o.ending ≡ ending.Open → finished ≡ false
not_finished true o known open_ = absurd (known refl open_)
not_finished false o known open_ = refl

-- a take finds as much of what waits as its room takes, and one that finds nothing more tells that all was given
gave_so : (room took gave : List ℕ) (finished : Bool) (o o' : Offer) (answer : Take) → FillsRoom (Some o) room answer → OfferTaken o o' (given_of room answer) answer → IsServed took finished gave o → offered_by o took ≡ offered_by o o.fed
    → (finished ≡ true → o.ending ≢ ending.Open) → GaveSo o.serve o.end took finished gave (length room) (taking_of room answer)
gave_so room took gave finished o o' (takes.Took n) fills t s all known = (o.waiting, s.offered ∙ sym all, front_taken room o'.waiting o.waiting n fills t.waiting)
gave_so room took gave finished o o' takes.Empty fills t s all known = (gave_offered took gave finished o s (t.empty refl).0 ∙ sym all, not_finished finished o known (t.empty refl).1)
gave_so room took gave finished o o' takes.End fills t s all known = gave_to_end took gave finished o s (t.end refl).0 (t.end refl).1
gave_so room took gave finished o o' takes.Closed fills t s all known = gave_offered took gave finished o s (t.closed refl).0 ∙ sym all
gave_so room took gave finished o o' takes.Failed fills t s all known = tt

same_offer : {o o' : Offer} → Some o ≡ Some o' → o ≡ o'
same_offer e = cc

module _ (out : OutState) (inn mid inn' : InState) (room : List ℕ) (answer : Take) (settled : SettleStep out inn mid) (all : IsSettled out inn mid) (taken : TakeStep mid inn' room answer) where
  -- a link that was offered what belongs to it is offered it behind a settling and a take
  offers_on : (before : Offer) (took gave : List ℕ) → inn.offer ≡ Some before → out.took ≡ Some took → inn.gave_bytes ≡ Some gave → IsServed took out.finished gave before → OffersOn took out.finished gave before inn' (length room) (taking_of room answer)
  offers_on before took gave offer_is took_is gave_is s = by (all before took gave offer_is took_is gave_is s) (subst (λ o. OffersKept o mid.offer) offer_is settled.offer)
    where
      by : ((o : Offer) × (mid.offer ≡ Some o) × IsServed took out.finished gave o × (offered_by o took ≡ offered_by o o.fed) × (out.finished ≡ true → o.ending ≢ ending.Open)) → ((o : Offer) × (mid.offer ≡ Some o) × (o.serve ≡ before.serve) × (o.end ≡ before.end))
          → OffersOn took out.finished gave before inn' (length room) (taking_of room answer)
      by (o, o_is, served, whole, known) (x, x_is, serve, end) =
          let same : x ≡ o = same_offer (sym x_is ∙ o_is) in
          let serve_is : o.serve ≡ before.serve = ap (λ (y : Offer). y.serve) (sym same) ∙ serve in
          let end_is : o.end ≡ before.end = ap (λ (y : Offer). y.end) (sym same) ∙ end in
          let t : (y : Offer) × (inn'.offer ≡ Some y) × OfferTaken o y (given_of room answer) answer = subst (λ q. OffersTaken q inn'.offer (given_of room answer) answer) o_is taken.offer in record {
            offer = t.0;
            is = t.1;
            serve = ap (λ (y : Offer). y.serve) t.2.same ∙ serve_is;
            end = ap (λ (y : Offer). y.end) t.2.same ∙ end_is;
            served = subst (λ l. IsServed took out.finished (gave ++ l) t.0) (sym (given_as room answer)) (served_take took gave (given_of room answer) out.finished o t.0 answer t.2 served);
            all = subst (λ b. GaveSo b before.end took out.finished gave (length room) (taking_of room answer)) serve_is
                (subst (λ n. GaveSo o.serve n took out.finished gave (length room) (taking_of room answer)) end_is (gave_so room took gave out.finished o t.0 answer (subst (λ q. FillsRoom q room answer) o_is taken.fills) t.2 served whole known));
          }

-- ## Behind a settling

-- a link whose other end settled, and that gave then
pub same_taken : (out out' : OutState) (inn mid inn' : InState) (room : List ℕ) (answer : Take) → out' ≡ out → SettleStep out inn mid → TakeStep mid inn' room answer → SameLink (end_of out inn) (end_of out' inn')
same_taken out out' inn mid inn' room answer e s t = record {
  link = ap (λ (o : OutState). o.link) e;
  later = let f = ap (λ (o : OutState). o.faults) e in omega (arith, f);
  more = let a = ap (λ (i : InState). i.gave) s.same in let b = t.gave in omega (arith, a, b);
  later_takes = let a = ap (λ (i : InState). i.faults) s.same in let b = t.later in omega (arith, a, b);
  gave_end = λ g. gave_end mid inn' room answer t (ap (λ (i : InState). i.gave_end) s.same ∙ g);
  closed = ⊎_elim
      (λ c. inl (c ∙ ap (λ (i : InState). i.closed) s.same))
      (λ c. inr (c ∙ ap (λ (i : InState). option_map (λ _. true) i.closed) s.same))
      (closed_is mid inn' room answer t);
}

module _ {A : Type 0} (fo : A → OutState) (fi : A → InState) (old fresh : TableState) (items : List A) (j k n : ℕ) (x mid y : A) (there : j ≡ k) (inside : k < length items) (is : x ≡ slice_index_or items j x)
    (outs : old.links.outs ≡ map fo items) (inns : old.links.inns ≡ map fi items) (ends : old.ends ≡ map (λ (e : A). end_of (fo e) (fi e)) items) (room : List ℕ) (answer : Take) (roomy : length room ≡ n)
    (same_mid : fo mid ≡ fo x) (settled : SettleStep (fo x) (fi x) (fi mid)) (all : IsSettled (fo x) (fi x) (fi mid)) (same_out : fo y ≡ fo mid) (taken : TakeStep (fi mid) (fi y) room answer) where
  at_place : get_elem? items j ≡ core.some x
  at_place = at_index items j x (omega (arith, there, inside)) is

  at_by : {B : Type 0} (f : A → B) → get_elem? (map f items) k ≡ core.some (f x)
  at_by f = subst (λ i. get_elem? (map f items) i ≡ core.some (f x)) there (at_map f items j x at_place)

  set_by : {B : Type 0} (f : A → B) → map f (slice_set items j y) ≡ slice_set (map f items) k (f y)
  set_by f = map-set f items j y ∙ ap (λ i. slice_set (map f items) i (f y)) there

  done_is : is_done old.links k ≡ (fo x).finished
  done_is = ap (λ (os : List OutState). elim (get_elem? os k) as (λ o. Bool) [ core.none ↦ false | core.some out ↦ out.finished ]) outs
      ∙ ap (λ (o : core.Option OutState). elim o as (λ o. Bool) [ core.none ↦ false | core.some out ↦ out.finished ]) (at_by fo)

  pub taken_from : fresh.links.inns ≡ map fi (slice_set items j y) → fresh.ends ≡ map (λ (e : A). end_of (fo e) (fi e)) (slice_set items j y) → TakenFrom old fresh k n (taking_of room answer)
  taken_from inns' ends' = record {
    inn = fi x;
    at = ap (λ (is : List InState). get_elem? is k) inns ∙ at_by fi;
    inn' = fi y;
    inns_are = inns' ∙ set_by fi ∙ ap (λ (is : List InState). slice_set is k (fi y)) (sym inns);
    gave = let a = ap (λ (i : InState). i.gave) settled.same in let b = count_is (fi mid) (fi y) room answer taken in omega (arith, a, b);
    bytes = taken.bytes ∙ ap (append_known (fi mid).gave_bytes) (sym (given_as room answer)) ∙ ap (λ (i : InState). append_known i.gave_bytes (bytes_found (taking_of room answer))) settled.same;
    fits = subst (λ (m : ℕ). FitsTake m (taking_of room answer)) roomy (fits_is (fi mid) (fi y) room answer taken);
    before = end_of (fo x) (fi x);
    end_at = ap (λ (es : List LinkEnd). get_elem? es k) ends ∙ at_by (λ (e : A). end_of (fo e) (fi e));
    behind = end_of (fo y) (fi y);
    ends_are = ends' ∙ set_by (λ (e : A). end_of (fo e) (fi e)) ∙ ap (λ (es : List LinkEnd). slice_set es k (end_of (fo y) (fi y))) (sym ends);
    same = same_taken (fo x) (fo y) (fi x) (fi mid) (fi y) room answer (same_out ∙ same_mid) settled taken;
    answers = ap (λ (o : OutState). o.answers) (same_out ∙ same_mid);
    takes = taken.takes ∙ ap (more_told (fi mid).takes) (answer_is (fi mid) (fi y) room answer taken) ∙ ap (λ (i : InState). more_told i.takes (answer_of (taking_of room answer))) settled.same;
    faults = ap (λ (o : OutState). o.faults) (same_out ∙ same_mid);
    shows = shows_is (fi mid) (fi y) room (fo y) answer taken;
    closes = λ e none_. taken.only_closing (is_take (fi mid) (fi y) room answer e) (sym taken.closing ∙ none_);
    closing = ⊎_elim (λ c. inl (taken.closing ∙ c)) (λ c. inr (done_is ∙ c.0, taken.closing ∙ c.1)) settled.closing;
    offers = λ out before took gave out_at offer_is took_is gave_is s.
        let same : fo x ≡ out = core.some-injective (fo x) out (sym (ap (λ (os : List OutState). get_elem? os k) outs ∙ at_by fo) ∙ out_at) in
        subst (λ (m : ℕ). OffersOn took out.finished gave before (fi y) m (taking_of room answer)) roomy
        (subst (λ (o : OutState). OffersOn took o.finished gave before (fi y) (length room) (taking_of room answer)) same
        (offers_on (fo x) (fi x) (fi mid) (fi y) room answer settled all taken before took gave offer_is (ap (λ (o : OutState). o.took) same ∙ took_is) gave_is (subst (λ (o : OutState). IsServed took o.finished gave before) (sym same) s)));
  }
