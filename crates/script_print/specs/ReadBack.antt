-- What is printed is the same script.
use Rattle.std.specs.Prelude.{◌≡◌, ℕ, List, Ok}
use Rattle.brpc_model.specs.Items.{Item}
use Rattle.brpc_model.specs.LinePlaceFaults.{names}
use Rattle.brpc_model.specs.Operations.{operations, link_names, clients, slots, requests, first_version, schedule}
use Rattle.brpc_model.specs.Script.{script_of}
use Rattle.brpc_model.specs.ScriptText.{printed_items, script_text}

-- the items are a script: some bytes are read as them
abbrev pub IsScript : List Item → Type 0
IsScript items = (bytes : List ℕ) × (script_of bytes ≡ Ok items)

-- both have the same operations, links, clients, names, sizes and schedule
pub record IsSameScript (a b : List Item) : Type 0 where
  pub operations_same : operations a ≡ operations b
  pub links_same : link_names a ≡ link_names b
  pub clients_same : clients a ≡ clients b
  pub names_same : names a ≡ names b
  pub sizes_same : (slots a ≡ slots b) × (requests a ≡ requests b) × (first_version a ≡ first_version b)
  pub schedule_same : schedule a ≡ schedule b

-- the text that is printed of the items is read as what was printed, and that is the same script
pub record IsReadBack (items : List Item) : Type 0 where
  pub read : script_of (script_text items) ≡ Ok (printed_items items)
  pub same : IsSameScript (printed_items items) items
