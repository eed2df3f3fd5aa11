-- What comes next of a reader of fields, and what is then left.
use Rattle.std.proofs.Common.{◌≡◌, ℕ, zero, suc, ◌<◌, ◌≤◌, ◌+◌, ◌-◌, List, [], ◌∷◌, length, take, drop, slice_range, Option, Some, None, Ok, Err, refl, ap, sym, ◌∙◌, arith, length-drop}
use Rattle.std.proofs.lemmas.List.{take-take, drop-drop, length-take}
use Rattle.brpc_model.specs.Wire as wire
use Rattle.brpc_model.specs.Wire.{WireFault, Wire, ◌>>=◌, Front, field, fields_with, fields_up_to}
use Rattle.brpc_model.proofs.Fields.{enough, field_takes}
use Rattle.pb_wire.specs.declared.values.Value.{Value}
use Rattle.pb_wire.specs.declared.values.Value.TheVariants.{Varint, Eight, Span, Four}
use Rattle.pb_wire.specs.declared.values.Field.{Field}
use Rattle.pb_wire.specs.WireCallAnswers.{value_in, field_in, IsBefore}
use Rattle.pb_wire.specs.FieldReader.{Reading, rest, first_field, unless_met, ahead, behind, sizeless, left_with, left, in_front}

-- ## Places

-- what is dropped of the first ones is what is dropped, as far as they went
pub drop_of_take : (s n : ℕ) (xs : List ℕ) → drop s (take n xs) ≡ take (n - s) (drop s xs)
drop_of_take zero n xs = let e : n - zero ≡ n = omega arith in ap (λ k. take k xs) (sym e)
drop_of_take (suc s) zero xs = let e : zero - suc s ≡ zero = omega arith in rw e refl
drop_of_take (suc s) (suc n) [] = let e : take (suc n - suc s) [] ≡ [] = nothing (suc n - suc s) in sym e
  where
    nothing : (k : ℕ) → take {A = ℕ} k [] ≡ []
    nothing zero = refl
    nothing (suc k) = refl
drop_of_take (suc s) (suc n) (x ∷ xs) = let e : suc n - suc s ≡ n - s = omega arith in drop_of_take s n xs ∙ ap (λ k. take k (drop s xs)) (sym e)

-- what is left behind a place is what is left from it on
pub rest_from : (bytes : List ℕ) (at size end : ℕ) → drop size (slice_range bytes at end) ≡ slice_range bytes (at + size) end
rest_from bytes at size end =
    let e : (end - at) - size ≡ end - (at + size) = omega arith in
    drop_of_take size (end - at) (drop at bytes)
    ∙ ap (λ l. take ((end - at) - size) l) (drop-drop size at bytes)
    ∙ ap (λ k. take k (drop (at + size) bytes)) e

-- the bytes up to the message's end, from a place on
pub upto_end : (bytes : List ℕ) (at end : ℕ) → drop at (take end bytes) ≡ slice_range bytes at end
upto_end bytes at end = drop_of_take at end bytes

-- a value before the end is the same in all bytes
pub value_upto : (bytes : List ℕ) (end : ℕ) (v : Value) → IsBefore end v → value_in (take end bytes) v ≡ value_in bytes v
value_upto bytes end (Varint n) h = refl
value_upto bytes end (Eight n) h = refl
value_upto bytes end (Four n) h = refl
value_upto bytes end (Span from to) h =
    ap (wire.Span from) (ap (λ l. take (to - from) l) (upto_end bytes from end) ∙ take-take (to - from) (end - from) (drop from bytes) (omega (arith, h.0, h.1)))

-- ## A field in front

bind_same : {A B : Type 0} (r : Wire A) (g h : A → Wire B) → ((a : A) → g a ≡ h a) → r >>= g ≡ r >>= h
bind_same (Ok a) g h k = k a
bind_same (Err x) g h k = refl

shorter : (b : ℕ) (bytes : List ℕ) (size : ℕ) → 1 ≤ size → length (drop size (b ∷ bytes)) ≤ length bytes
shorter b bytes size one = let e : length (drop size (b ∷ bytes)) ≡ length (b ∷ bytes) - size = length-drop size (b ∷ bytes) in omega (arith, e, one)

-- the fields of a message are its first one and those behind it
pub fields_go_on : {A : Type 0} (inner : wire.Field → Wire A) (at : ℕ) (bytes : List ℕ) (f : Front wire.Field) → field at bytes ≡ Ok f →
    fields_with inner at bytes ≡ inner f.value >>= (λ first. fields_with inner (at + f.size) (drop f.size bytes) >>= (λ rest. Ok (first ∷ rest)))
fields_go_on inner at [] f e = absurd (cc)
fields_go_on {A} inner at (b ∷ bytes) f e =
    let size = shorter b bytes f.size (field_takes at (b ∷ bytes) f e) in
    ap (λ r. r >>= (λ f. inner f.value >>= (λ first. fields_up_to inner (length bytes) (at + f.size) (drop f.size (b ∷ bytes)) >>= (λ rest. Ok (first ∷ rest))))) e
    ∙ ap (λ r. inner f.value >>= (λ first. r >>= (λ rest. Ok (first ∷ rest))))
    (enough inner (length bytes) (length (drop f.size (b ∷ bytes))) (at + f.size) (drop f.size (b ∷ bytes)) size (omega arith))

fields_fail : {A : Type 0} (inner : wire.Field → Wire A) (at : ℕ) (bytes : List ℕ) (x : WireFault) → 0 < length bytes → field at bytes ≡ Err x → fields_with inner at bytes ≡ Err x
fields_fail inner at [] x h e = absurd (omega (arith, h))
fields_fail inner at (b ∷ bytes) x h e =
    ap (λ r. r >>= (λ f. inner f.value >>= (λ first. fields_up_to inner (length bytes) (at + f.size) (drop f.size (b ∷ bytes)) >>= (λ rest. Ok (first ∷ rest))))) e

first_of_some : (at : ℕ) (bytes : List ℕ) → 0 < length bytes → first_field at bytes ≡ field at bytes >>= (λ f. Ok (Some f))
first_of_some at [] h = absurd (omega (arith, h))
first_of_some at (b ∷ bytes) h = refl

-- a reader that met no fault
abbrev pub reading : List ℕ → ℕ → ℕ → Reading
reading bytes at end = record { bytes = bytes; at = at; end = end; fault = None }

some_left : (bytes : List ℕ) (at end : ℕ) → at < end → end ≤ length bytes → 0 < length (slice_range bytes at end)
some_left bytes at end h k = simp (length-take, length-drop) (omega arith)

ahead_is : (bytes : List ℕ) (at end : ℕ) (r : Wire (Front wire.Field)) → at < end → end ≤ length bytes → r ≡ field at (drop at (take end bytes)) →
    ahead (reading bytes at end) ≡ r >>= (λ f. Ok (Some f))
ahead_is bytes at end r h k e =
    first_of_some at (slice_range bytes at end) (some_left bytes at end h k)
    ∙ ap (λ l. field at l >>= (λ f. Ok (Some f))) (sym (upto_end bytes at end))
    ∙ ap (λ r. r >>= (λ f. Ok (Some f))) (sym e)

before_later : (v : Value) (place end : ℕ) → place ≤ end → IsBefore place v → IsBefore end v
before_later (Varint n) place end h b = tt
before_later (Eight n) place end h b = tt
before_later (Four n) place end h b = tt
before_later (Span from to) place end h b = (b.0, omega (arith, h, b.1))

-- a field of these bytes that ends before the place next
abbrev pub front : List ℕ → ℕ → ℕ → Field → Wire (Front wire.Field)
front bytes at next f = Ok (record { value = field_in bytes f; size = next - at })

front_upto : (bytes : List ℕ) (at end next : ℕ) (f : Field) → next ≤ end → IsBefore next f.value →
    front (take end bytes) at next f ≡ front bytes at next f
front_upto bytes at end next f h b =
    ap (λ v. Ok (record { value = record { number = f.number; value = v }; size = next - at })) (value_upto bytes end f.value (before_later f.value next end h b))

-- what a reading of the next field answers
pub record Next (bytes : List ℕ) (at end next : ℕ) (f : Field) : Type 0 where
  pub later : at < next
  pub inside : next ≤ end
  pub short : end ≤ length bytes
  pub span : IsBefore next f.value
  pub read : front (take end bytes) at next f ≡ field at (drop at (take end bytes))

pub ahead_next : (bytes : List ℕ) (at end next : ℕ) (f : Field) → Next bytes at end next f →
    ahead (reading bytes at end) ≡ Ok (Some (record { value = field_in bytes f; size = next - at }))
ahead_next bytes at end next f n =
    ahead_is bytes at end (Ok (record { value = field_in bytes f; size = next - at })) (omega (arith, n.later, n.inside)) n.short
    (sym (front_upto bytes at end next f n.inside n.span) ∙ n.read)

pub behind_next : (bytes : List ℕ) (at end next : ℕ) (f : Field) → Next bytes at end next f →
    reading bytes next end ≡ behind (reading bytes at end) (ahead (reading bytes at end))
behind_next bytes at end next f n =
    let place : next ≡ at + (next - at) = omega (arith, n.later) in
    ap (λ a. reading bytes a end) place ∙ ap (λ r. behind (reading bytes at end) r) (sym (ahead_next bytes at end next f n))

pub left_next : (bytes : List ℕ) (at end next : ℕ) (f : Field) → Next bytes at end next f →
    left (reading bytes at end) ≡ in_front (Ok (Some (field_in bytes f))) (left (reading bytes next end))
left_next bytes at end next f n =
    let place : at + (next - at) ≡ next = omega (arith, n.later) in
    let e = ap (λ l. field at l) (sym (upto_end bytes at end)) ∙ sym n.read ∙ front_upto bytes at end next f n.inside n.span in
    fields_go_on (λ f. Ok f) at (slice_range bytes at end) (record { value = field_in bytes f; size = next - at }) e
    ∙ ap (λ l. fields_with (λ f. Ok f) (at + (next - at)) l >>= (λ fs. Ok (field_in bytes f ∷ fs))) (rest_from bytes at (next - at) end)
    ∙ ap (λ p. fields_with (λ f. Ok f) p (slice_range bytes p end) >>= (λ fs. Ok (field_in bytes f ∷ fs))) place

-- ## A fault in front

-- what a reading that fails answers
pub record Fails (bytes : List ℕ) (at end : ℕ) (x : WireFault) : Type 0 where
  pub inside : at < end
  pub short : end ≤ length bytes
  pub read : Err x ≡ field at (drop at (take end bytes))

pub ahead_fails : (bytes : List ℕ) (at end : ℕ) (x : WireFault) → Fails bytes at end x → ahead (reading bytes at end) ≡ Err x
ahead_fails bytes at end x n = ahead_is bytes at end (Err x) n.inside n.short n.read

pub left_fails : (bytes : List ℕ) (at end : ℕ) (x : WireFault) → Fails bytes at end x → left (reading bytes at end) ≡ Err x
left_fails bytes at end x n =
    fields_fail (λ f. Ok f) at (slice_range bytes at end) x (some_left bytes at end n.inside n.short) (ap (λ l. field at l) (sym (upto_end bytes at end)) ∙ sym n.read)

-- ## A message whose fields are read on, as by a reader of the messages inside it

-- what was answered next
abbrev Answered : ℕ → List ℕ → Wire (Option wire.Field) → Type 0
Answered at bytes answer = ◌≡◌ {A = Wire (Option wire.Field)} answer (sizeless (first_field at bytes))

record Found (at : ℕ) (bytes : List ℕ) (f : wire.Field) : Type 0 where
  front : Front wire.Field
  first : first_field at bytes ≡ Ok (Some front)
  read : field at bytes ≡ Ok front
  value : front.value ≡ f

found_by : (f : wire.Field) (r : Wire (Front wire.Field)) → ◌≡◌ {A = Wire (Option wire.Field)} (Ok (Some f)) (sizeless (r >>= (λ f. Ok (Some f)))) →
    (front : Front wire.Field) × (r ≡ Ok front) × (front.value ≡ f)
found_by f (Ok front) e = (front, refl, cc)
found_by f (Err x) e = absurd (cc)

found : (at : ℕ) (bytes : List ℕ) (f : wire.Field) → Answered at bytes (Ok (Some f)) → Found at bytes f
found at [] f e = absurd (cc)
found at (b ∷ bytes) f e =
    let r = found_by f (field at (b ∷ bytes)) e in
    record { front = r.0; first = ap (λ r. r >>= (λ f. Ok (Some f))) r.1; read = r.1; value = r.2 }

end_by : (r : Wire (Front wire.Field)) → ◌≡◌ {A = Wire (Option wire.Field)} (Ok None) (sizeless (r >>= (λ f. Ok (Some f)))) → ⊥
end_by (Ok front) e = cc
end_by (Err x) e = cc

fault_by : (x : WireFault) (r : Wire (Front wire.Field)) → ◌≡◌ {A = Wire (Option wire.Field)} (Err x) (sizeless (r >>= (λ f. Ok (Some f)))) → r ≡ Err x
fault_by x (Ok front) e = absurd (cc)
fault_by x (Err y) e = cc

-- behind a field that was answered the rest is read on
pub read_on : {A : Type 0} (inner : wire.Field → Wire A) (r new : Reading) (f : wire.Field) → ◌≡◌ {A = Wire (Option wire.Field)} (Ok (Some f)) (sizeless (ahead r)) → new ≡ behind r (ahead r) →
    left_with inner r ≡ inner f >>= (λ first. left_with inner new >>= (λ rest. Ok (first ∷ rest)))
read_on {A} inner r new f e n = unmet r.bytes r.at r.end r.fault e n
  where
    going : Reading → wire.Field → Wire (List A)
    going new f = inner f >>= (λ first. left_with inner new >>= (λ rest. Ok (first ∷ rest)))

    unmet : (bytes : List ℕ) (at end : ℕ) (m : Option WireFault) → ◌≡◌ {A = Wire (Option wire.Field)} (Ok (Some f)) (sizeless (ahead (record { bytes = bytes; at = at; end = end; fault = m }))) →
        new ≡ behind (record { bytes = bytes; at = at; end = end; fault = m }) (ahead (record { bytes = bytes; at = at; end = end; fault = m })) →
        left_with inner (record { bytes = bytes; at = at; end = end; fault = m }) ≡ going new f
    unmet bytes at end None e n =
        let g = found at (slice_range bytes at end) f e in
        fields_go_on inner at (slice_range bytes at end) g.front g.read
        ∙ ap (λ l. inner g.front.value >>= (λ first. fields_with inner (at + g.front.size) l >>= (λ rest. Ok (first ∷ rest)))) (rest_from bytes at g.front.size end)
        ∙ ap (λ r. going r g.front.value) (sym (n ∙ ap (behind (reading bytes at end)) g.first))
        ∙ ap (going new) g.value
    unmet bytes at end (Some x) e n = absurd (cc)

-- at the end nothing is left
pub read_end : {A : Type 0} (inner : wire.Field → Wire A) (r : Reading) → ◌≡◌ {A = Wire (Option wire.Field)} (Ok None) (sizeless (ahead r)) → left_with inner r ≡ Ok []
read_end {A} inner r e = unmet r.at (rest r) r.fault e
  where
    unmet : (at : ℕ) (bytes : List ℕ) (m : Option WireFault) → ◌≡◌ {A = Wire (Option wire.Field)} (Ok None) (sizeless (unless_met m (first_field at bytes))) → unless_met m (fields_with inner at bytes) ≡ Ok []
    unmet at [] None e = refl
    unmet at (b ∷ bytes) None e = absurd (end_by (field at (b ∷ bytes)) e)
    unmet at bytes (Some x) e = absurd (cc)

-- a fault is all that is left
pub read_fault : {A : Type 0} (inner : wire.Field → Wire A) (r : Reading) (x : WireFault) → ◌≡◌ {A = Wire (Option wire.Field)} (Err x) (sizeless (ahead r)) → left_with inner r ≡ Err x
read_fault {A} inner r x e = unmet r.at (rest r) r.fault e
  where
    unmet : (at : ℕ) (bytes : List ℕ) (m : Option WireFault) → ◌≡◌ {A = Wire (Option wire.Field)} (Err x) (sizeless (unless_met m (first_field at bytes))) → unless_met m (fields_with inner at bytes) ≡ Err x
    unmet at [] None e = absurd (cc)
    unmet at (b ∷ bytes) None e = fields_fail inner at (b ∷ bytes) x (omega arith) (fault_by x (field at (b ∷ bytes)) e)
    unmet at bytes (Some y) e = let q : y ≡ x = cc in ap (λ y. Err y) q
