-- A link that is asked: what its answer makes of the writing halves, and of the links as they would be given back.
use Rattle.std.proofs.Common.{◌≡◌, refl, ℕ, ◌<◌, List, [], ◌∷◌, zero, suc, map, length, slice_set, slice_index_or, inl, ap, ◌∙◌, arith, subst}
use Rattle.std.proofs.lemmas.List.{map-set}
use Rattle.atomic_table.proofs.Lists.{at_map, at_index}
use mathlib.Core.Option.{some}
use lib.ListN.{get_elem?}
use Rattle.brpc_model.specs.ReturnedLink.{LinkEnd}
use Rattle.sock_io.specs.LinkHalves.{OutState, InState, SameOut, PutStep, FinishStep, end_of}
use Rattle.sock_io.specs.declared.link.Put.{Put}
use Rattle.machine_model.specs.MachineRuns.{SameLink}
use Rattle.machine_model.specs.MachineSteps.{AskedAt}
use Rattle.corr_core.proofs.NoteSums.{at_length}

-- the reading half stays
pub same_link : (out out' : OutState) (inn : InState) → SameOut out out' → SameLink (end_of out inn) (end_of out' inn)
same_link out out' inn s = record { link = s.link; later = s.later; more = omega arith; later_takes = omega arith; gave_end = λ e. e; closed = inl refl }

-- a writing half that is ended is given back as it was
pub end_kept : (out out' : OutState) (inn : InState) → FinishStep out out' → end_of out' inn ≡ end_of out inn
end_kept out out' inn h = λ k. record { link = h.same.link k; took = h.took k; put_faults = h.faults k; gave = inn.gave_bytes; gave_count = inn.gave; take_faults = inn.faults; gave_end = inn.gave_end; closed = inn.closed; answers = h.answers k; takes = inn.takes }

module _ {A : Type 0} (f : A → OutState) (items : List A) (j k : ℕ) (x : A) (there : j ≡ k) (inside : k < length items) (is : x ≡ slice_index_or items j x) where
  at_place : get_elem? items j ≡ some (slice_index_or items j x)
  at_place = at_index items j x (omega (arith, there, inside)) is ∙ ap some is

  pub out_at : get_elem? (map f items) k ≡ some (f (slice_index_or items j x))
  out_at = subst (λ i. get_elem? (map f items) i ≡ some (f (slice_index_or items j x))) there (at_map f items j (slice_index_or items j x) at_place)

pub outs_set : {A : Type 0} (f : A → OutState) (items : List A) (j k : ℕ) (y : A) → j ≡ k → map f (slice_set items j y) ≡ slice_set (map f items) k (f y)
outs_set f items j k y there = map-set f items j y ∙ ap (λ i. slice_set (map f items) i (f y)) there

module _ {A : Type 0} (f : A → OutState) (e : A → LinkEnd) (items : List A) (j k : ℕ) (x y : A) (there : j ≡ k) (inside : k < length items) (is : x ≡ slice_index_or items j x) where
  pub asked : (HasAnswered : OutState → OutState → Type 0) → HasAnswered (f (slice_index_or items j x)) (f y) → SameLink (e (slice_index_or items j x)) (e y) → (e y).put_faults ≡ (f y).faults → (e y).takes ≡ (e (slice_index_or items j x)).takes → ((a : A) → (e a).answers ≡ (f a).answers) →
      AskedAt (map f items) (map f (slice_set items j y)) (map e items) (map e (slice_set items j y)) k HasAnswered
  asked HasAnswered h same faults taken told = record {
    out = f (slice_index_or items j x);
    at = out_at f items j k x there inside is;
    out' = f y;
    outs_are = outs_set f items j k y there;
    answered = h;
    before = e (slice_index_or items j x);
    end_at = subst (λ i. get_elem? (map e items) i ≡ some (e (slice_index_or items j x))) there (at_map e items j (slice_index_or items j x) (at_place f items j k x there inside is));
    behind = e y;
    ends_are = map-set e items j y ∙ ap (λ i. slice_set (map e items) i (e y)) there;
    same = same;
    faults = faults;
    told_before = told (slice_index_or items j x);
    told = told y;
    takes = taken;
  }

-- what lies at a place is known
pub at_there : {A : Type 0} (items : List A) (j k : ℕ) (x y : A) → j ≡ k → get_elem? items k ≡ some y → slice_index_or items j x ≡ y
at_there items j k x y there at = ap (λ i. slice_index_or items i x) there ∙ found items k at
  where
    found : (l : List _) (i : ℕ) → get_elem? l i ≡ some y → slice_index_or l i x ≡ y
    found [] i e = cc
    found (z ∷ l) zero e = cc
    found (z ∷ l) (suc i) e = found l i e

-- and so is what is read off it
pub there_in : {A B : Type 0} (f : A → B) (items : List A) (j k : ℕ) (x : A) (y : B) → j ≡ k → get_elem? (map f items) k ≡ some y → f (slice_index_or items j x) ≡ y
there_in f items j k x y there at = ap (λ i. f (slice_index_or items i x)) there ∙ found items k at
  where
    found : (l : List _) (i : ℕ) → get_elem? (map f l) i ≡ some y → f (slice_index_or l i x) ≡ y
    found [] i e = cc
    found (z ∷ l) zero e = cc
    found (z ∷ l) (suc i) e = found l i e

pub inside_list : {A : Type 0} (l : List A) (i : ℕ) (a : A) → get_elem? l i ≡ some a → i < length l
inside_list l i a e = at_length l i a e

-- a put of what is next of the message
pub put_of : {out out' : OutState} {bytes piece : List ℕ} {answer put : Put} → bytes ≡ piece → answer ≡ put → PutStep out out' bytes answer → PutStep out out' piece put
put_of {out} {out'} {bytes} {piece} {answer} {put} e f h = subst (λ (a : Put). PutStep out out' piece a) f (subst (λ (bs : List ℕ). PutStep out out' bs answer) e h)
