-- A reader of fields: where it stands, what comes next, and what is left.
use Rattle.std.specs.Prelude.{ℕ, ◌+◌, List, [], ◌∷◌, Ok, Err, Option, Some, None, option_map, slice_range}
use Rattle.brpc_model.specs.Wire.{WireFault, Wire, ◌>>=◌, Front, Field, field, fields_with}

-- where a reader of fields stands
pub record Reading : Type 0 where
  -- the bytes in which places are counted
  pub bytes : List ℕ
  -- the place of the next field
  pub at : ℕ
  -- the place where the message ends
  pub end : ℕ
  -- the fault that was met
  pub fault : Option WireFault

-- the bytes from the next field to the message's end
abbrev pub rest : Reading → List ℕ
rest r = slice_range r.bytes r.at r.end

-- the field at the front of these bytes, or none where there are no bytes
abbrev pub first_field : ℕ → List ℕ → Wire (Option (Front Field))
first_field at [] = Ok None
first_field at (b ∷ bytes) = field at (b ∷ bytes) >>= (λ f. Ok (Some f))

-- a fault that was met stays
abbrev pub unless_met : {A : Type 0} → Option WireFault → Wire A → Wire A
unless_met None read = read
unless_met (Some fault) read = Err fault

-- the next field with its size, none at the message's end, or the fault
abbrev pub ahead : Reading → Wire (Option (Front Field))
ahead r = unless_met r.fault (first_field r.at (rest r))

-- where the reader stands behind what came next
abbrev pub behind : Reading → Wire (Option (Front Field)) → Reading
behind r (Ok None) = r
behind r (Ok (Some f)) = record r { at = r.at + f.size }
behind r (Err fault) = record r { fault = Some fault }

-- a field without its size
abbrev pub sizeless : Wire (Option (Front Field)) → Wire (Option Field)
sizeless front = front >>= (λ f. Ok (option_map (λ (f : Front Field). f.value) f))

-- the fields that are left, each read on by `inner`
abbrev pub left_with : {A : Type 0} → (Field → Wire A) → Reading → Wire (List A)
left_with inner r = unless_met r.fault (fields_with inner r.at (rest r))

-- the fields that are left
abbrev pub left : Reading → Wire (List Field)
left r = left_with (λ f. Ok f) r

-- what was answered next, in front of the fields that are left
abbrev pub in_front : Wire (Option Field) → Wire (List Field) → Wire (List Field)
in_front (Ok None) fs = Ok []
in_front (Ok (Some f)) fs = fs >>= (λ fs. Ok (f ∷ fs))
in_front (Err fault) fs = Err fault
