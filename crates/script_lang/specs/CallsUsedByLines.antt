-- The calls that lines name, each with the number of its line.
use Rattle.std.specs.Prelude.{ℕ, ◌+◌, true, false, List, [], ◌∷◌, ◌++◌, Option, Some, None, option_and_then, option_to_list}
use Rattle.brpc_model.specs.Items.{Item, Expire, Join}
use Rattle.script_lang.specs.declared.uses.CallUse.{CallUse}

-- the call that an item on this line names
abbrev pub use_of : ℕ → Item → Option CallUse
use_of line (Expire client number) = Some (record { target = record { client = client; number = number }; line = line; waits = false })
use_of line (Join client number) = Some (record { target = record { client = client; number = number }; line = line; waits = true })
use_of line other = None

-- the calls that lines name, the first of which has this number
abbrev pub uses_from : ℕ → List (Option Item) → List CallUse
uses_from line [] = []
uses_from line (said ∷ more) = option_to_list (option_and_then (use_of line) said) ++ uses_from (line + 1) more
