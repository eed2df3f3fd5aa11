-- Sums over all notes of a seat, whatever their slot; and sums over parts of lists.
use Rattle.std.proofs.Common.{◌≡◌, ◌≢◌, ℕ, zero, suc, ◌+◌, ◌≤◌, Bool, true, false, cond, eqb, ne_eqb, List, [], ◌∷◌, refl, sym, ap, ◌∙◌, arith}
use Rattle.std.specs.List.{flat_map}
use mathlib.Core.Logic.{dite}
use mathlib.Core.Option.{some, some-injective, some-ne-none}
use native.Mathlib.Decide.{ℕ_discrete}
use lib.ListN.{get_elem?}
use Rattle.corr_core.specs.declared.marks.Note.{Note}
use Rattle.corr_core.specs.declared.marks.Noted.{Noted}
use Rattle.corr_core.specs.declared.marks.Token.{Token}
use Rattle.corr_core.specs.declared.marks.View.{View}
use Rattle.id_rule.specs.LawfulIdTable.{notes_of}
use Rattle.corr_id.specs.SeatBehindIdCalls.{Became, Did, Quiet, is_event, events}
use Rattle.corr_id.proofs.IdSeatSplits.{total_append}
use Rattle.sock_words.specs.Totals.{total}

-- ## All notes

-- a weight that only events have
module _ {C : Type 0} (W : Noted C → ℕ) (silent : (n : Noted C) → is_event n.note ≡ false → W n ≡ 0) where
  event_or_not : (n : Noted C) (ns : List (Noted C)) → total W (events ns) ≡ total W ns → (b : Bool) → is_event n.note ≡ b → total W (cond b (n ∷ events ns) (events ns)) ≡ total W (n ∷ ns)
  event_or_not n ns r true e = omega arith
  event_or_not n ns r false e = let z = silent n e in omega arith

  pub events_all : (ns : List (Noted C)) → total W (events ns) ≡ total W ns
  events_all [] = refl
  events_all (n ∷ ns) = event_or_not n ns (events_all ns) (is_event n.note) refl

  pub quiet_all : (v w : View C) → Quiet v w → total W w.notes ≡ total W v.notes
  quiet_all v w q = let a = events_all w.notes in let b = events_all v.notes in let c = ap (total W) q.events_same in omega arith

  pub did_all : (i : ℕ) (v w : View C) (ts : List (Token C)) (es : List (Noted C)) → Did i v w ts es → total W w.notes ≡ total W es + total W v.notes
  did_all i v w ts es d = let a = events_all w.notes in let b = events_all v.notes in let c = ap (total W) d.added in let e = total_append W es (events v.notes) in omega arith

module _ {C : Type 0} where
  pub became_all : (W : Noted C → ℕ) (i : ℕ) (v w : View C) (ts : List (Token C)) (ns : List (Noted C)) → Became i v w ts ns → total W w.notes ≡ total W ns + total W v.notes
  became_all W i v w ts ns b = let c = ap (total W) b.notes in let e = total_append W ns v.notes in omega arith

  -- where a slot's note stands among all
  pub noted_at : (i : ℕ) (ns : List (Noted C)) (k : ℕ) (x : Note C) → get_elem? (notes_of i ns) k ≡ some x → (m : ℕ) × (get_elem? ns m ≡ some (record { slot = i; note = x }))
  noted_at i [] k x e = absurd (some-ne-none x (sym e))
  noted_at i (n ∷ ns) k x e = by (eqb n.slot i) refl e (noted_at i ns)
    where
      same : eqb n.slot i ≡ true → n.slot ≡ i
      same t = dite (ℕ_discrete n.slot i) (λ e. e) (λ ne. absurd (let f = sym (ne_eqb n.slot i ne) ∙ t in cc))

      here : (j : ℕ) → n.slot ≡ i → get_elem? (n.note ∷ notes_of i ns) j ≡ some x → ((j : ℕ) (y : Note C) → get_elem? (notes_of i ns) j ≡ some y → (m : ℕ) × (get_elem? ns m ≡ some (record { slot = i; note = y }))) → (m : ℕ) × (get_elem? (n ∷ ns) m ≡ some (record { slot = i; note = x }))
      here zero s e later = (zero, (let q = some-injective n.note x e in λ z. some (record { slot = s z; note = q z })))
      here (suc j) s e later = let r = later j x e in (suc r.0, r.1)

      by : (b : Bool) → eqb n.slot i ≡ b → get_elem? (cond b (n.note ∷ notes_of i ns) (notes_of i ns)) k ≡ some x → ((j : ℕ) (y : Note C) → get_elem? (notes_of i ns) j ≡ some y → (m : ℕ) × (get_elem? ns m ≡ some (record { slot = i; note = y }))) → (m : ℕ) × (get_elem? (n ∷ ns) m ≡ some (record { slot = i; note = x }))
      by true t e later = here k (same t) e later
      by false t e later = let r = later k x e in (suc r.0, r.1)

-- ## Parts of lists

module _ {A : Type 0} where
  pub term : (g : A → ℕ) (xs : List A) (i : ℕ) (x : A) → get_elem? xs i ≡ some x → g x ≤ total g xs
  term g [] i x e = absurd (some-ne-none x (sym e))
  term g (y ∷ ys) zero x e = let a = ap g (some-injective y x e) in omega arith
  term g (y ∷ ys) (suc i) x e = let a : g x ≤ total g ys = term g ys i x e in omega arith

  pub two_terms : (g : A → ℕ) (xs : List A) (i j : ℕ) (x y : A) → get_elem? xs i ≡ some x → get_elem? xs j ≡ some y → i ≢ j → g x + g y ≤ total g xs
  two_terms g [] i j x y e f n = absurd (some-ne-none x (sym e))
  two_terms g (z ∷ zs) zero zero x y e f n = absurd (n refl)
  two_terms g (z ∷ zs) zero (suc j) x y e f n = let a = ap g (some-injective z x e) in let b = term g zs j y f in omega arith
  two_terms g (z ∷ zs) (suc i) zero x y e f n = let a = ap g (some-injective z y f) in let b = term g zs i x e in omega arith
  two_terms g (z ∷ zs) (suc i) (suc j) x y e f n = let a = two_terms g zs i j x y e f (λ q. n (ap suc q)) in omega arith

  -- of each member as much at most
  pub each_less : (f g : A → ℕ) (xs : List A) → ((i : ℕ) (x : A) → get_elem? xs i ≡ some x → f x ≤ g x) → total f xs ≤ total g xs
  each_less f g [] h = omega arith
  each_less f g (x ∷ xs) h = let a = h zero x refl in let b = each_less f g xs (λ i y e. h (suc i) y e) in omega arith

  pub all_zero : (f : A → ℕ) (xs : List A) → ((i : ℕ) (x : A) → get_elem? xs i ≡ some x → f x ≡ 0) → total f xs ≡ 0
  all_zero f [] h = refl
  all_zero f (x ∷ xs) h = let a = h zero x refl in let b = all_zero f xs (λ i y e. h (suc i) y e) in omega arith

  pub flat_total : {B : Type 0} (g : B → ℕ) (f : A → List B) (xs : List A) → total g (flat_map f xs) ≡ total (λ x. total g (f x)) xs
  flat_total g f [] = refl
  flat_total g f (x ∷ xs) = let a = total_append g (f x) (flat_map f xs) in let b = flat_total g f xs in omega arith

  pub total_sum : (f g : A → ℕ) (xs : List A) → total (λ x. f x + g x) xs ≡ total f xs + total g xs
  total_sum f g [] = refl
  total_sum f g (x ∷ xs) = let a = total_sum f g xs in omega arith
