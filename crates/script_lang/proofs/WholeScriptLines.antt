-- What the lines are together.
use Rattle.std.proofs.Common.{◌≡◌, ℕ, ◌+◌, Bool, not, ◌&&◌, List, map, Option, Some, None, Ok, Err, option_map, refl, ap, sym, ◌∙◌}
use Rattle.std.specs.List.{find, list_any, position}
use Rattle.brpc_model.specs.Items.{Item, Expire, Join}
use Rattle.brpc_model.specs.Script.{Faulty, items, is_lost, is_unserved, may_hang, says, fault_at, whole}
use Rattle.script_items.specs.LineMeaning.{item}
use Rattle.script_lang.specs.declared.reader.Reader.{Reader}
use Rattle.script_lang.specs.declared.uses.CallUse.{CallUse}
use Rattle.script_lang.specs.OperationNumbers.{Numbers, numbers_of, has_call}
use Rattle.script_lang.specs.CallsUsedByLines.{uses_from, use_of}
use Rattle.script_lang.specs.KnownLines.{Knows}
use Rattle.script_lang.proofs.OperationOfClientIndex.{called_are}
use Rattle.script_lang.proofs.LineOf.{passes, position_is}

-- the fault in this line, or what comes else
abbrev pub fault_in : Option ℕ → ℕ → Faulty (List Item) → Faulty (List Item)
fault_in None kind other = other
fault_in (Some line) kind other = Err (line, kind)

fault_at_place : (place : Option ℕ) (kind : ℕ) (other : Faulty (List Item)) → fault_at place kind other ≡ fault_in (option_map (λ p. p + 1) place) kind other
fault_at_place None kind other = refl
fault_at_place (Some place) kind other = refl

-- a call that isn't there
abbrev pub is_absent : Numbers → CallUse → Bool
is_absent numbers used = not (has_call numbers used.target.client used.target.number)

lost_by_use : (script : List Item) (line : ℕ) (item : Item) → is_lost script item ≡ passes (is_absent (numbers_of script)) (use_of line item)
lost_by_use script line (Expire client number) = ap not (sym (called_are script client number))
lost_by_use script line (Join client number) = ap not (sym (called_are script client number))
lost_by_use script line _ = refl

-- a call that is waited for where a link has no server
abbrev pub is_hanging : Bool → CallUse → Bool
is_hanging unserved used = used.waits && unserved

hanging_by_use : (script : List Item) (line : ℕ) (item : Item) → may_hang script item ≡ passes (is_hanging (list_any is_unserved script)) (use_of line item)
hanging_by_use script line (Join client number) = refl
hanging_by_use script line _ = refl

-- the script, or its first fault
pub whole_is : (reader : Reader) (said : List (Option Item)) → Knows reader said → (lost hanging : Option ℕ) →
    lost ≡ option_map (λ u. u.line) (find (is_absent reader.numbering) reader.uses.items) →
    hanging ≡ option_map (λ u. u.line) (find (is_hanging reader.counts.unserved) reader.uses.items) →
    whole (Ok said) ≡ fault_in lost 10 (fault_in hanging 11 (Ok (map item reader.lines.items)))
whole_is reader said knows lost hanging lost_is hanging_is =
    let script = items said in
    let first : option_map (λ p. p + 1) (position (says (is_lost script)) said) ≡ lost =
    position_is (is_lost script) (is_absent (numbers_of script)) (lost_by_use script) said
    ∙ ap (λ numbers. option_map (λ u. u.line) (find (is_absent numbers) (uses_from 1 said))) (sym knows.numbering)
    ∙ ap (λ us. option_map (λ u. u.line) (find (is_absent reader.numbering) us)) (sym knows.uses) ∙ sym lost_is in
    let second : option_map (λ p. p + 1) (position (says (may_hang script)) said) ≡ hanging =
    position_is (may_hang script) (is_hanging (list_any is_unserved script)) (hanging_by_use script) said
    ∙ ap (λ c. option_map (λ u. u.line) (find (is_hanging c.unserved) (uses_from 1 said))) (sym knows.counts)
    ∙ ap (λ us. option_map (λ u. u.line) (find (is_hanging reader.counts.unserved) us)) (sym knows.uses) ∙ sym hanging_is in
    fault_at_place (position (says (is_lost script)) said) 10 (fault_at (position (says (may_hang script)) said) 11 (Ok script))
    ∙ ap (λ l. fault_in l 10 (fault_at (position (says (may_hang script)) said) 11 (Ok script))) first
    ∙ ap (fault_in lost 10) (fault_at_place (position (says (may_hang script)) said) 11 (Ok script) ∙ ap (λ h. fault_in h 11 (Ok script)) second
    ∙ ap (λ is. fault_in hanging 11 (Ok is)) (sym knows.lines))
