-- What a reader knows of the lines so far, and what it answers to the next.
use Rattle.std.specs.Prelude.{◌≡◌, ⊤, ℕ, ◌+◌, List, [], ◌∷◌, ◌++◌, length, map, bytes_eq, Option, Some, None, Result, Ok, Err, option_to_list}
use Rattle.std.specs.List.{list_any}
use Rattle.brpc_model.specs.Items.{Item, mentioned}
use Rattle.brpc_model.specs.LinePlaceFaults.{names, with_names, is_held, held_behind, at_its_place}
use Rattle.brpc_model.specs.Script.{Faulty, items}
use Rattle.script_items.specs.declared.line.Line.{Line}
use Rattle.script_items.specs.LineMeaning.{item}
use Rattle.script_lang.specs.declared.error.ScriptError.{ScriptError}
use Rattle.script_lang.specs.declared.error.ScriptError.TheVariants.{Fault, NoMemory}
use Rattle.script_lang.specs.declared.reader.Reader.{Reader}
use Rattle.script_lang.specs.CountedLines.{counts_of, counted, IsWithinLimits}
use Rattle.script_lang.specs.OperationNumbers.{numbers_of, numbers_behind}
use Rattle.script_lang.specs.CallsUsedByLines.{uses_from, use_of}

-- the lines so far said this, or nothing where they were comments or empty
pub record Knows (reader : Reader) (said : List (Option Item)) : Type 0 where
  pub count : reader.count ≡ length said
  pub lines : map item reader.lines.items ≡ items said
  pub counts : reader.counts ≡ counts_of (items said)
  pub limits : IsWithinLimits reader.counts
  pub names : reader.names ≡ names (items said)
  pub held : (name : List ℕ) → is_held (items said) name ≡ list_any (bytes_eq name) reader.held
  pub numbering : reader.numbering ≡ numbers_of (items said)
  pub uses : reader.uses.items ≡ uses_from 1 said

-- before the next line is judged its names are added
pub record HasNames (reader : Reader) (before : List Item) (item : Item) : Type 0 where
  pub counts : reader.counts ≡ counts_of before
  pub names : reader.names ≡ with_names (names before) (mentioned item)
  pub held : (name : List ℕ) → is_held before name ≡ list_any (bytes_eq name) reader.held

-- the kind of the fault that a line has at its place
abbrev pub FaultIs : List Item → Item → Option ℕ → Type 0
FaultIs before item None = at_its_place before (Some item) ≡ Ok (Some item)
FaultIs before item (Some kind) = at_its_place before (Some item) ≡ Err kind

-- what one more line says was noted; its names were there before, and the line itself isn't kept yet
pub record Notes (old new : Reader) (item : Item) : Type 0 where
  pub count : new.count ≡ old.count + 1
  pub lines : new.lines ≡ old.lines
  pub counts : new.counts ≡ counted old.counts item
  pub names : new.names ≡ old.names
  pub held : (name : List ℕ) → list_any (bytes_eq name) new.held ≡ held_behind name (list_any (bytes_eq name) old.held) item
  pub numbering : new.numbering ≡ numbers_behind old.numbering old.counts.operations item
  pub uses : new.uses.items ≡ old.uses.items ++ option_to_list (use_of (old.count + 1) item)

-- one more line was kept; its names were there before
pub record Keeps (old new : Reader) (line : Line) : Type 0 where
  pub count : new.count ≡ old.count + 1
  pub lines : new.lines.items ≡ old.lines.items ++ line ∷ []
  pub counts : new.counts ≡ counted old.counts (item line)
  pub names : new.names ≡ old.names
  pub held : (name : List ℕ) → list_any (bytes_eq name) new.held ≡ held_behind name (list_any (bytes_eq name) old.held) (item line)
  pub numbering : new.numbering ≡ numbers_behind old.numbering old.counts.operations (item line)
  pub uses : new.uses.items ≡ old.uses.items ++ option_to_list (use_of (old.count + 1) (item line))

-- the answer to one more line, where these are all lines with it, or the fault
abbrev pub LineIs : Faulty (List (Option Item)) → Result (Unit {0}) ScriptError → Reader → Type 0
LineIs said (Ok done) reader = (more : List (Option Item)) × (said ≡ Ok more) × Knows reader more
LineIs said (Err (Fault line kind)) reader = said ≡ Err (line, kind)
LineIs said (Err NoMemory) reader = ⊤

-- how a line that says this behind these is judged
abbrev pub JudgedIs : List (Option Item) → Item → Result (Unit {0}) ScriptError → Type 0
JudgedIs said item (Ok done) = at_its_place (items said) (Some item) ≡ Ok (Some item)
JudgedIs said item (Err (Fault line kind)) = (at_its_place (items said) (Some item) ≡ Err kind) × (line ≡ length said + 1)
JudgedIs said item (Err NoMemory) = ⊤

-- the answer to a line that says this behind these
abbrev pub PlaceIs : List (Option Item) → Item → Result (Unit {0}) ScriptError → Reader → Type 0
PlaceIs said item (Ok done) reader = (at_its_place (items said) (Some item) ≡ Ok (Some item)) × Knows reader (said ++ Some item ∷ [])
PlaceIs said item (Err (Fault line kind)) reader = (at_its_place (items said) (Some item) ≡ Err kind) × (line ≡ length said + 1)
PlaceIs said item (Err NoMemory) reader = ⊤

-- the answer to all lines, where this is the script or its fault
abbrev pub WholeIs : Faulty (List Item) → Result (List Item) ScriptError → Type 0
WholeIs script (Ok items) = script ≡ Ok items
WholeIs script (Err (Fault line kind)) = script ≡ Err (line, kind)
WholeIs script (Err NoMemory) = ⊤
