-- How a line at its place is judged, and what is known behind it.
use Rattle.std.proofs.Common.{◌≡◌, ℕ, ◌+◌, Bool, false, ◌||◌, nat_lt, List, [], ◌∷◌, ◌++◌, length, map, Option, Some, None, Ok, Err, option_to_list, ap, sym, ◌∙◌, subst, if◌then◌else◌, arith, append-nil}
use Rattle.std.proofs.lemmas.List.{length-append, map-append}
use Rattle.brpc_model.specs.LinePartReads.{Reads, ◌>>=◌}
use Rattle.brpc_model.specs.ScriptLineFaults.{line_item}
use Rattle.brpc_model.specs.Items.{Item, mentioned}
use Rattle.brpc_model.specs.LinePlaceFaults.{names, with_names, is_held, held_behind, is_misplaced, is_too_many, is_unpaired, at_its_place}
use Rattle.brpc_model.specs.Script.{items, one_more, with_line}
use Rattle.brpc_model.proofs.GrowingLineByLine.{names_more, is_held_more, items_some, items_none}
use Rattle.script_items.specs.declared.line.Line.{Line}
use Rattle.script_items.specs.LineMeaning.{item}
use Rattle.script_lang.specs.declared.counts.Counts.{Counts}
use Rattle.script_lang.specs.declared.reader.Reader.{Reader}
use Rattle.script_lang.specs.CountedLines.{counts_of, counted, is_one_too_many, stands_wrong, IsWithinLimits}
use Rattle.script_lang.specs.OperationNumbers.{numbers_of, numbers_behind}
use Rattle.script_lang.specs.CallsUsedByLines.{uses_from, use_of}
use Rattle.script_lang.specs.KnownLines.{Knows, Keeps, HasNames}
use Rattle.script_lang.proofs.Judged.{counts_more, wrong_place, too_many, still_within}
use Rattle.script_lang.proofs.Noted.{numbers_more}
use Rattle.script_lang.proofs.LineOf.{uses_more}

-- ## The judgement

-- a line by the three tests
abbrev pub judgement : Item → Bool → Bool → Bool → Reads (Option Item)
judgement item misplaced many unpaired = if misplaced then Err 8 else if many then Err 9 else if unpaired then Err 12 else Ok (Some item)

pub judged : (reader : Reader) (before : List Item) (item : Item) → HasNames reader before item → (misplaced many unpaired : Bool) →
    stands_wrong reader.counts item ≡ misplaced → (is_one_too_many reader.counts item || nat_lt 64 (length reader.names)) ≡ many → is_unpaired before item ≡ unpaired →
    at_its_place before (Some item) ≡ judgement item misplaced many unpaired
judged reader before item has misplaced many unpaired is_misplaced_so is_many is_unpaired_so =
    let first : is_misplaced before item ≡ misplaced = wrong_place before item ∙ ap (λ c. stands_wrong c item) (sym has.counts) ∙ is_misplaced_so in
    let second : is_too_many before item ≡ many =
    too_many before item ∙ ap (λ c. is_one_too_many c item || nat_lt 64 (length (with_names (names before) (mentioned item)))) (sym has.counts)
    ∙ ap (λ ns. is_one_too_many reader.counts item || nat_lt 64 (length ns)) (sym has.names) ∙ is_many in
    ap (λ b. judgement item b (is_too_many before item) (is_unpaired before item)) first
    ∙ ap (λ b. judgement item misplaced b (is_unpaired before item)) second
    ∙ ap (λ b. judgement item misplaced many b) is_unpaired_so

-- ## What is known behind one more line

-- the line was empty or a comment
pub skipped : (old : Reader) (said : List (Option Item)) → Knows old said → Knows (record old { count = old.count + 1 }) (said ++ None ∷ [])
skipped old said knows =
    let same = items_none said in
    record {
      count = ap (λ n. n + 1) knows.count ∙ sym (length-append said (None ∷ []));
      lines = knows.lines ∙ sym same;
      counts = knows.counts ∙ ap counts_of (sym same);
      limits = knows.limits;
      names = knows.names ∙ ap names (sym same);
      held = λ name. ap (λ is. is_held is name) same ∙ knows.held name;
      numbering = knows.numbering ∙ ap numbers_of (sym same);
      uses = knows.uses ∙ sym (uses_more 1 said None ∙ append-nil (uses_from 1 said));
    }

-- the line said something, and its names were added first
pub grown : (old new : Reader) (said : List (Option Item)) (line : Line) (ns : List (List ℕ)) → Knows old said → ns ≡ with_names old.names (mentioned (item line)) →
    is_one_too_many old.counts (item line) ≡ false → Keeps (record old { names = ns }) new line → Knows new (said ++ Some (item line) ∷ [])
grown old new said line ns knows named room keeps =
    let i = item line in
    let same = items_some said i in
    let P : Counts → Type 0 = IsWithinLimits in
    let number : old.count + 1 ≡ 1 + length said = omega (arith, knows.count) in
    record {
      count = keeps.count ∙ ap (λ n. n + 1) knows.count ∙ sym (length-append said (Some i ∷ []));
      lines = ap (map item) keeps.lines ∙ map-append item old.lines.items (line ∷ []) ∙ ap (λ is. is ++ i ∷ []) knows.lines ∙ sym same;
      counts = keeps.counts ∙ ap (λ c. counted c i) knows.counts ∙ sym (counts_more (items said) i) ∙ ap counts_of (sym same);
      limits = subst P (sym keeps.counts) (still_within old.counts i knows.limits room);
      names = keeps.names ∙ named ∙ ap (λ ms. with_names ms (mentioned i)) knows.names ∙ sym (names_more (items said) i) ∙ ap names (sym same);
      held = λ name. ap (λ is. is_held is name) same ∙ is_held_more (items said) i name ∙ ap (λ b. held_behind name b i) (knows.held name) ∙ sym (keeps.held name);
      numbering = keeps.numbering ∙ ap (λ ns. numbers_behind ns old.counts.operations i) knows.numbering
          ∙ ap (λ (c : Counts). numbers_behind (numbers_of (items said)) c.operations i) knows.counts
          ∙ sym (numbers_more (items said) i) ∙ ap numbers_of (sym same);
      uses = keeps.uses ∙ ap (λ us. us ++ option_to_list (use_of (old.count + 1) i)) knows.uses
          ∙ ap (λ k. uses_from 1 said ++ option_to_list (use_of k i)) number ∙ sym (uses_more 1 said (Some i));
    }

-- a line that says nothing
pub line_none : (said : List (Option Item)) (line : List ℕ) → line_item (items said) line ≡ Ok None → with_line (Ok said) line ≡ Ok (said ++ None ∷ [])
line_none said line e = ap (λ r. one_more said (r >>= at_its_place (items said))) e
