-- The counts of a script that is read from some bytes, and of its front.
use Rattle.std.proofs.Common.{◌≡◌, ℕ, ◌≤◌, Bool, cond, List, [], ◌∷◌, ◌++◌, length, map, take, drop, nat_lt, count_by, Ok, ap, sym, ◌∙◌, subst, arith}
use Rattle.std.proofs.lemmas.List.{take-append-drop, take-map}
use Rattle.std.proofs.lemmas.List.Sums.{sum_by-append}
use Rattle.brpc_model.specs.Items.{Item, is_client, is_open, is_operation, is_turn, mentioned}
use Rattle.brpc_model.specs.LinePlaceFaults.{names, with_names}
use Rattle.brpc_model.specs.Script.{script_of}
use Rattle.script_facts.proofs.FilteredLists.{or_parts}
use Rattle.script_facts.proofs.ReadScriptFacts.{IsPlaced, by_lines}
use Rattle.script_items.specs.declared.line.Line.{Line}
use Rattle.script_items.specs.LineMeaning.{item}
use Rattle.script_lang.specs.declared.counts.Counts.{Counts}
use Rattle.script_lang.specs.CountedLines.{counts_of, is_one_too_many, IsWithinLimits}
use Rattle.script_lang.proofs.Judged.{counts_more, too_many, still_within, calls_few}

-- the counts of these items are at most their limits
abbrev AreWithin : List Item → Type 0
AreWithin items = IsWithinLimits (counts_of items)

one_more : (before : List Item) (item : Item) → AreWithin before → IsPlaced before item → AreWithin (before ++ item ∷ [])
one_more before item within placed =
    let room = or_parts (is_one_too_many (counts_of before) item) (nat_lt 64 (length (with_names (names before) (mentioned item)))) (sym (too_many before item) ∙ placed.few) in
    subst IsWithinLimits (sym (counts_more before item)) (still_within (counts_of before) item within room.0)

pub within_limits : (bytes : List ℕ) (script : List Item) → script_of bytes ≡ Ok script → AreWithin script
within_limits bytes script e = by_lines AreWithin (record { clients = omega arith; links = omega arith; operations = omega arith; calls = omega arith; turns = omega arith }) one_more bytes script e

-- ## The front of a script

front_few : (test : Item → Bool) (n : ℕ) (items : List Item) → count_by test (take n items) ≤ count_by test items
front_few test n items = omega (arith, sum_by-append (λ i. cond (test i) 1 0) (take n items) (drop n items), ap (count_by test) (take-append-drop n items))

front_within : (n : ℕ) (script : List Item) → AreWithin script → AreWithin (take n script)
front_within n script within = record {
  clients = omega (arith, front_few is_client n script, within.clients);
  links = omega (arith, front_few is_open n script, within.links);
  operations = omega (arith, front_few is_operation n script, within.operations);
  calls = calls_few (take n script);
  turns = omega (arith, front_few is_turn n script, within.turns);
}

pub front_counted : (lines : List Line) (n : ℕ) (counts : Counts) → (bytes : List ℕ) × (script_of bytes ≡ Ok (map item lines)) → counts ≡ counts_of (map item (take n lines)) → IsWithinLimits counts
front_counted lines n counts read is =
    let within = front_within n (map item lines) (within_limits read.0 (map item lines) read.1) in
    subst IsWithinLimits (sym is) (subst AreWithin (take-map item n lines) within)
