-- What a reader of a part of a line answers, where a definition says how the part reads.
use Rattle.std.specs.Prelude.{◌≡◌, ℕ, ⊤, min, List, count_by, Result, Ok, Err}
use Rattle.brpc_model.specs.LinePartReads.{Reads}
use Rattle.brpc_model.specs.Items.{Item, is_client, is_open}
use Rattle.script_items.specs.declared.fault.LineFault.{LineFault}
use Rattle.script_items.specs.declared.fault.LineFault.TheVariants.{Kind, NoMemory}

-- the part has a fault of this kind; want of memory may come whatever the part is
abbrev pub Faults : {B : Type 0} → LineFault → Reads B → Type 0
Faults (Kind k) read = read ≡ Err k
Faults NoMemory read = ⊤

-- the answer says what was read, or the kind of the fault
abbrev pub Answers : {A B : Type 0} → (A → B) → Result A LineFault → Reads B → Type 0
Answers says (Ok a) read = read ≡ Ok (says a)
Answers says (Err fault) read = Faults fault read

-- this is said for any items before that have so many clients and links
abbrev pub Behind : ℕ → ℕ → (List Item → Type 0) → Type 0
Behind clients links Says = (before : List Item) → count_by is_client before ≡ clients → count_by is_open before ≡ links → Says before

-- of two faults in one line the one of the lower kind
abbrev pub lower_of : LineFault → LineFault → LineFault
lower_of (Kind j) (Kind k) = Kind (min j k)
lower_of (Kind j) NoMemory = NoMemory
lower_of NoMemory other = NoMemory

-- two answers side by side
abbrev pub both_of : {A B : Type 0} → Result A LineFault → Result B LineFault → Result (A × B) LineFault
both_of (Ok a) (Ok b) = Ok (a, b)
both_of (Ok a) (Err fault) = Err fault
both_of (Err fault) (Ok b) = Err fault
both_of (Err one) (Err other) = Err (lower_of one other)
