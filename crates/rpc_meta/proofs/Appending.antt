-- One append behind another.
use Rattle.std.proofs.Common.{◌≡◌, ℕ, ◌+◌, ◌*◌, ◌^◌, ◌<◌, ◌≤◌, List, ◌++◌, length, take, Option, Some, None, Result, Ok, Err, refl, ap, sym, ◌∙◌, append_assoc, arith}
use Rattle.std.specs.Prelude.{IfSome, IfNone, unwrap_or}
use Rattle.std.proofs.lemmas.List.{take_at, take-take, length-append}
use Rattle.pb_wire.specs.brpc_model.specs.Wire.{varint_bytes}
use Rattle.pb_wire.specs.brpc_model.specs.Spelling.{bytes_field}
use Rattle.rpc_meta.specs.MetaWriting.{Appends}

-- what stood in front of a piece stays, where all of it stays
pub kept : (first old new piece : List ℕ) → old ≡ first ++ piece → take (length old) new ≡ old → take (length first) new ≡ first
kept first old new piece e h =
    let long = ap length e ∙ length-append first piece in
    sym (take-take (length first) (length old) new (omega (arith, long)))
    ∙ ap (take (length first)) (h ∙ e)
    ∙ take_at first piece (length first) refl

-- a piece behind what was appended
pub behind : {E : Type 0} (first old new piece more : List ℕ) (r : Result (Unit {0}) E) → old ≡ first ++ piece → Appends old more r new → Appends first (piece ++ more) r new
behind first old new piece more (Ok u) e h = h ∙ ap (λ l. l ++ more) e ∙ append_assoc first piece more
behind first old new piece more (Err x) e h = kept first old new piece e h

-- fields behind their number and their length
pub headed : {E : Type 0} (number size : ℕ) (first old new fields : List ℕ) (r : Result (Unit {0}) E) → size ≡ length fields → old ≡ first ++ (varint_bytes (number * 8 + 2) ++ varint_bytes size) →
    Appends old fields r new → Appends first (bytes_field number fields) r new
headed number size first old new fields r same e h =
    let head = e ∙ ap (λ (n : ℕ). first ++ (varint_bytes (number * 8 + 2) ++ varint_bytes n)) same in
    behind first old new (varint_bytes (number * 8 + 2) ++ varint_bytes (length fields)) fields r head h

-- the same by a size that may be past what 64 bits hold: then no list that short has the fields
pub headed_by : {E : Type 0} (number size most : ℕ) (first old new fields : List ℕ) (r : Result (Unit {0}) E) (o : Option ℕ) → IfSome o (λ n. n ≡ length fields) → IfNone o (2 ^ 64 ≤ length fields) → size ≡ unwrap_or o most →
    old ≡ first ++ (varint_bytes (number * 8 + 2) ++ varint_bytes size) → Appends old fields r new → length new < 2 ^ 64 → Appends first (bytes_field number fields) r new
headed_by number size most first old new fields r (Some n) known none is e h few = headed number size first old new fields r (is ∙ known) e h
headed_by number size most first old new fields (Ok u) None known none is e h few = absurd (omega (arith, none, few, ap length h, length-append old fields))
headed_by number size most first old new fields (Err x) None known none is e h few = kept first old new (varint_bytes (number * 8 + 2) ++ varint_bytes size) e h

-- two pieces are one
pub joined : (first old new piece more : List ℕ) → old ≡ first ++ piece → new ≡ old ++ more → new ≡ first ++ (piece ++ more)
joined first old new piece more e h = h ∙ ap (λ l. l ++ more) e ∙ append_assoc first piece more

-- where there is room for two pieces there is for the first
pub room_for : (old piece more : List ℕ) (most : ℕ) → length old + length (piece ++ more) ≤ most → length old + length piece ≤ most
room_for old piece more most h = omega (arith, h, length-append piece more)

-- and for the second behind it
pub room_behind : (old new piece more : List ℕ) (most : ℕ) → new ≡ old ++ piece → length old + length (piece ++ more) ≤ most → length new + length more ≤ most
room_behind old new piece more most e h = omega (arith, h, ap length e, length-append old piece, length-append piece more)
