-- What is gathered of a field in front and of the fields behind it is what is gathered of them all.
use Rattle.std.proofs.Common.{◌≡◌, ℕ, List, ◌∷◌, fold, Option, Some, Ok, Err, refl, ap, sym, ◌∙◌}
use Rattle.pb_wire.specs.brpc_model.specs.Wire.{Wire, ◌>>=◌, Field}
use Rattle.pb_wire.specs.brpc_model.specs.Meta.{Part, part_of}
use Rattle.pb_wire.specs.declared.values as declared
use Rattle.pb_wire.specs.WireCallAnswers.{field_in, answer_in}
use Rattle.pb_wire.specs.FieldReader.{Reading, ahead, behind, sizeless, left_with, left, in_front}
use Rattle.pb_wire.proofs.FieldReadings.{read_on}
use Rattle.rpc_meta.specs.Gathered.{Gathered, part_added}

-- what is added first, and then the rest
pub folded_front : {A S : Type 0} (step : S → A → S) (s : S) (a : A) (r : Wire (List A)) →
    (r >>= (λ rest. Ok (a ∷ rest))) >>= (λ l. Ok (fold step s l)) ≡ r >>= (λ rest. Ok (fold step (step s a) rest))
folded_front step s a (Ok rest) = refl
folded_front step s a (Err x) = refl

-- a field is added to what was gathered
pub field_step : {S : Type 0} (step : S → Field → S) (s new_s : S) (old new : Reading) (bytes : List ℕ) (field : Option declared.Field.Field) (f : declared.Field.Field) (whole : Wire S) →
    old.bytes ≡ bytes → left old ≡ in_front (answer_in old.bytes (Ok field)) (left new) → field ≡ Some f → new_s ≡ step s (field_in bytes f) →
    left old >>= (λ fs. Ok (fold step s fs)) ≡ whole → left new >>= (λ fs. Ok (fold step new_s fs)) ≡ whole
field_step {S} step s new_s old new bytes field f whole same rest is added so_far =
    ap (λ (t : S). left new >>= (λ fs. Ok (fold step t fs))) (added ∙ ap (λ b. step s (field_in b f)) (sym same))
    ∙ sym (folded_front step s (field_in old.bytes f) (left new))
    ∙ ap (λ r. r >>= (λ fs. Ok (fold step s fs))) (sym (rest ∙ ap (λ (o : Option declared.Field.Field). in_front (answer_in old.bytes (Ok o)) (left new)) is))
    ∙ so_far

-- a reading goes over these bytes, and the fields so far and those that are left are the whole
abbrev pub Gathers : {S : Type 0} → (S → Field → S) → S → Reading → List ℕ → Wire S → Type 0
Gathers step s reading bytes all = record {
  whole : reading.bytes ≡ bytes;
  so_far : left reading >>= (λ fs. Ok (fold step s fs)) ≡ all;
}

-- the parts of a message are its fields, read on
abbrev pub part : Field → Wire Part
part f = part_of f.number f.value

part_front : (g new_g : Gathered) (r : Wire Part) (rest : Wire (List Part)) → Ok new_g ≡ r >>= (λ p. Ok (part_added g p)) →
    (r >>= (λ first. rest >>= (λ rest. Ok (first ∷ rest)))) >>= (λ ps. Ok (fold part_added g ps)) ≡ rest >>= (λ ps. Ok (fold part_added new_g ps))
part_front g new_g (Ok p) rest e =
    let q : part_added g p ≡ new_g = sym (same new_g (part_added g p) e) in
    folded_front part_added g p rest ∙ ap (λ t. rest >>= (λ ps. Ok (fold part_added t ps))) q
  where
    same : (a b : Gathered) → ◌≡◌ {A = Wire Gathered} (Ok a) (Ok b) → a ≡ b
    same a b e = cc
part_front g new_g (Err x) rest e = absurd (cc)

-- a part is added to what was gathered
pub part_step : (g new_g : Gathered) (old new : Reading) (bytes : List ℕ) (field : Option declared.Field.Field) (f : declared.Field.Field) (whole : Wire Gathered) →
    old.bytes ≡ bytes → answer_in old.bytes (Ok field) ≡ sizeless (ahead old) → new ≡ behind old (ahead old) → field ≡ Some f →
    Ok new_g ≡ part (field_in bytes f) >>= (λ p. Ok (part_added g p)) →
    left_with part old >>= (λ ps. Ok (fold part_added g ps)) ≡ whole → left_with part new >>= (λ ps. Ok (fold part_added new_g ps)) ≡ whole
part_step g new_g old new bytes field f whole same answered moved is added so_far =
    sym (part_front g new_g (part (field_in old.bytes f)) (left_with part new) (added ∙ ap (λ b. part (field_in b f) >>= (λ p. Ok (part_added g p))) (sym same)))
    ∙ ap (λ r. r >>= (λ ps. Ok (fold part_added g ps)))
    (sym (read_on part old new (field_in old.bytes f) (sym (ap (λ (o : Option declared.Field.Field). answer_in old.bytes (Ok o)) is) ∙ answered) moved))
    ∙ so_far
