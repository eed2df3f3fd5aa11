use Rattle.std.proofs.Common.{◌≡◌, ◌+◌, ◌-◌, ◌<◌, ◌≤◌, List, ℕ, Option, Some, None, Ok, Err, option_map, length, take, drop, slice_range, refl, ap, sym, ◌∙◌, subst, arith}
use Rattle.std.proofs.lemmas.List.{length-take}
use Rattle.brpc_model.specs.Wire as wire
use Rattle.pb_wire.specs.declared.fault.WireFault.{WireFault}
use Rattle.pb_wire.specs.declared.values.Field.{Field}
use Rattle.pb_wire.specs.WireCallAnswers.{fault_of, field_in, IsBefore}
use Rattle.pb_wire.specs.FieldReader.{Reading, ahead, behind, sizeless, left, in_front}
use Rattle.pb_wire.specs.Form.{IsField}
use Rattle.pb_wire.proofs.FieldReadings.{reading, front, Next, ahead_next, behind_next, left_next, Fails, ahead_fails, left_fails}
use Rattle.pb_wire.proofs.ReadingForms.{each_form, spelled_form}
use Rattle.pb_wire.proofs.message.Fields.next.Goals as goal

-- the reader's value, where it met no fault
no_fault : (bytes : List ℕ) (at end : ℕ) (o : Option WireFault) (r : Reading) → o ≡ None → record { bytes = bytes; at = at; end = end; fault = option_map fault_of o } ≡ r → reading bytes at end ≡ r
no_fault bytes at end o r e h = ap (λ (o : Option WireFault). record { bytes = bytes; at = at; end = end; fault = option_map fault_of o }) (sym e) ∙ h

is_next : (bytes : List ℕ) (at end next : ℕ) (f : Field) → at ≤ end → end ≤ length bytes → at < next → next ≤ length (take end bytes) → IsBefore next f.value →
    front (take end bytes) at next f ≡ wire.field at (drop at (take end bytes)) → Next bytes at end next f
is_next bytes at end next f h k later n b e =
    record { later = later; inside = omega (arith, n, length-take end bytes); short = k; span = b; read = e }

fails_at : (bytes : List ℕ) (at end : ℕ) (x : wire.WireFault) → at ≤ end → end ≤ length bytes → (at ≡ end → ⊥) →
    Err x ≡ wire.field at (drop at (take end bytes)) → Fails bytes at end x
fails_at bytes at end x h k u e = record { inside = omega (arith, h, u); short = k; read = e }

pub returns-in-Ok-clause-exact : goal.returns-in-Ok-clause-exact
returns-in-Ok-clause-exact c =
    let s = c.self.inside in
    let n = is_next s.bytes.now s.at s.end c.in-Ok.next c.in-Ok.field c.self.invariant.0 c.self.invariant.1 c.in-Ok.ensures.within.0 c.in-Ok.ensures.within.1 c.in-Ok.ensures.within.2 c.in-Ok.ensures.exact in
    let P : Reading → Type 0 = λ r. Ok (Some (field_in r.bytes c.in-Ok.field)) ≡ sizeless (ahead r) in
    subst P (no_fault s.bytes.now s.at s.end s.fault c.args.self.now c.in_default.is c.self.view_is) (ap sizeless (sym (ahead_next s.bytes.now s.at s.end c.in-Ok.next c.in-Ok.field n)))

pub returns-in-Ok-clause-place : goal.returns-in-Ok-clause-place
returns-in-Ok-clause-place c =
    let s = c.self.inside in
    let n = is_next s.bytes.now s.at s.end c.in-Ok.next c.in-Ok.field c.self.invariant.0 c.self.invariant.1 c.in-Ok.ensures.within.0 c.in-Ok.ensures.within.1 c.in-Ok.ensures.within.2 c.in-Ok.ensures.exact in
    let P : Reading → Type 0 = λ r. reading s.bytes.now c.in-Ok.next s.end ≡ behind r (ahead r) in
    sym (no_fault s.bytes.now c.in-Ok.next s.end s.fault _ c.in_default.is refl)
    ∙ subst P (no_fault s.bytes.now s.at s.end s.fault c.args.self.now c.in_default.is c.self.view_is) (behind_next s.bytes.now s.at s.end c.in-Ok.next c.in-Ok.field n)

pub returns-in-Ok-clause-rest : goal.returns-in-Ok-clause-rest
returns-in-Ok-clause-rest c =
    let s = c.self.inside in
    let n = is_next s.bytes.now s.at s.end c.in-Ok.next c.in-Ok.field c.self.invariant.0 c.self.invariant.1 c.in-Ok.ensures.within.0 c.in-Ok.ensures.within.1 c.in-Ok.ensures.within.2 c.in-Ok.ensures.exact in
    let P : Reading → Type 0 = λ r. left r ≡ in_front (Ok (Some (field_in r.bytes c.in-Ok.field))) (left (reading s.bytes.now c.in-Ok.next s.end)) in
    subst P (no_fault s.bytes.now s.at s.end s.fault c.args.self.now c.in_default.is c.self.view_is) (left_next s.bytes.now s.at s.end c.in-Ok.next c.in-Ok.field n)
    ∙ ap (λ r. in_front (Ok (Some (field_in c.args.self.now.bytes c.in-Ok.field))) (left r)) (no_fault s.bytes.now c.in-Ok.next s.end s.fault _ c.in_default.is refl)

pub returns-in-Err-clause-exact : goal.returns-in-Err-clause-exact
returns-in-Err-clause-exact c =
    let s = c.self.inside in
    let n = fails_at s.bytes.now s.at s.end (fault_of c.in-Err.fault) c.self.invariant.0 c.self.invariant.1 c.if-self.false c.in-Err.ensures.exact in
    let P : Reading → Type 0 = λ r. Err (fault_of c.in-Err.fault) ≡ sizeless (ahead r) in
    subst P (no_fault s.bytes.now s.at s.end s.fault c.args.self.now c.in_default.is c.self.view_is) (ap sizeless (sym (ahead_fails s.bytes.now s.at s.end (fault_of c.in-Err.fault) n)))

pub returns-in-Err-clause-place : goal.returns-in-Err-clause-place
returns-in-Err-clause-place c =
    let s = c.self.inside in
    let n = fails_at s.bytes.now s.at s.end (fault_of c.in-Err.fault) c.self.invariant.0 c.self.invariant.1 c.if-self.false c.in-Err.ensures.exact in
    let P : Reading → Type 0 = λ r. record { bytes = s.bytes.now; at = s.at; end = s.end; fault = Some (fault_of c.in-Err.fault) } ≡ behind r (ahead r) in
    subst P (no_fault s.bytes.now s.at s.end s.fault c.args.self.now c.in_default.is c.self.view_is) (ap (λ r. behind (reading s.bytes.now s.at s.end) r) (sym (ahead_fails s.bytes.now s.at s.end (fault_of c.in-Err.fault) n)))

pub returns-in-Err-clause-rest : goal.returns-in-Err-clause-rest
returns-in-Err-clause-rest c =
    let s = c.self.inside in
    let n = fails_at s.bytes.now s.at s.end (fault_of c.in-Err.fault) c.self.invariant.0 c.self.invariant.1 c.if-self.false c.in-Err.ensures.exact in
    let P : Reading → Type 0 = λ r. left r ≡ Err (fault_of c.in-Err.fault) in
    subst P (no_fault s.bytes.now s.at s.end s.fault c.args.self.now c.in_default.is c.self.view_is) (left_fails s.bytes.now s.at s.end (fault_of c.in-Err.fault) n)

-- the message ends within the bytes
ends_inside : (bytes : List ℕ) (at end : ℕ) (o : Option WireFault) (r : Reading) → end ≤ length bytes → record { bytes = bytes; at = at; end = end; fault = option_map fault_of o } ≡ r → r.end ≤ length r.bytes
ends_inside bytes at end o r h e = let P : Reading → Type 0 = λ r. r.end ≤ length r.bytes in subst P e h

no_field : (x : wire.WireFault) (f : wire.Field) → ◌≡◌ {A = wire.Wire (Option wire.Field)} (Err x) (Ok (Some f)) → ⊥
no_field x f e = cc

pub returns-in-Ok-clause-spelled : goal.returns-in-Ok-clause-spelled
returns-in-Ok-clause-spelled c =
    let s = c.self.inside in
    let n = is_next s.bytes.now s.at s.end c.in-Ok.next c.in-Ok.field c.self.invariant.0 c.self.invariant.1 c.in-Ok.ensures.within.0 c.in-Ok.ensures.within.1 c.in-Ok.ensures.within.2 c.in-Ok.ensures.exact in
    let P : Reading → Type 0 = λ r. IsField r.at (slice_range r.bytes r.at c.in-Ok.next) (field_in r.bytes c.in-Ok.field) in
    let place : s.at + (c.in-Ok.next - s.at) ≡ c.in-Ok.next = omega (arith, c.in-Ok.ensures.within.0) in
    let Q : ℕ → Type 0 = λ next. IsField s.at (slice_range s.bytes.now s.at next) (field_in s.bytes.now c.in-Ok.field) in
    let spelled = spelled_form (reading s.bytes.now s.at s.end) (record { value = field_in s.bytes.now c.in-Ok.field; size = c.in-Ok.next - s.at }) (ahead_next s.bytes.now s.at s.end c.in-Ok.next c.in-Ok.field n) in
    subst P (no_fault s.bytes.now s.at s.end s.fault c.args.self.now c.in_default.is c.self.view_is) (subst Q place spelled)

pub returns-in-Ok-clause-each : goal.returns-in-Ok-clause-each
returns-in-Ok-clause-each c = λ f to met h k i.
    let s = c.self.inside in
    let r = c.args.self.now in
    let e = each_form r f to met (ends_inside s.bytes.now s.at s.end s.fault r c.self.invariant.1 c.self.view_is) h k i in
    let place : c.in-Ok.next ≡ r.at + (to - r.at) = ap (λ (r : Reading). r.at) (returns-in-Ok-clause-place c ∙ ap (behind r) e) in
    (returns-in-Ok-clause-exact c ∙ ap sizeless e, omega (arith, place, h))

pub returns-in-Err-clause-each : goal.returns-in-Err-clause-each
returns-in-Err-clause-each c = λ f to met h k i.
    let s = c.self.inside in
    let r = c.args.self.now in
    let e = each_form r f to met (ends_inside s.bytes.now s.at s.end s.fault r c.self.invariant.1 c.self.view_is) h k i in
    absurd (no_field (fault_of c.in-Err.fault) f (returns-in-Err-clause-exact c ∙ ap sizeless e))
