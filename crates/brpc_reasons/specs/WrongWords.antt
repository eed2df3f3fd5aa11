-- What is wrong with words that are no command, and how it is said.
use Rattle.std.specs.Prelude.{ℕ, ◌*◌, nat_lt, if◌then◌else◌, List, [], ◌∷◌, codes, decimal, Option, Some, None, option_and_then, is_some, flat_map}
use Rattle.brpc_model.specs.NumberInRange.{number}
use Rattle.brpc_reasons.specs.SentencePieces.{shown}
use Rattle.brpc_reasons.specs.CommandForms.{name, lowest, highest, range_text, form_text, form_of, nearest}
use Rattle.brpc_reasons.specs.declared.forms.Parameter.{Parameter}
use Rattle.brpc_reasons.specs.declared.forms.Parameter.TheVariants as parameter
use Rattle.brpc_reasons.specs.declared.forms.Form.{Form}
use Rattle.brpc_reasons.specs.declared.forms.Form.TheVariants as form

pub data Fault : Type 0 where
  -- there is no word
  NoWord : Fault
  -- the first is no command
  NoCommand : List ℕ → Fault
  -- the command lacks this one
  Missing : Form → Parameter → Fault
  -- this one isn't a number in its range
  Wrong : Form → Parameter → List ℕ → Fault
  -- this one is too many
  TooMany : Form → List ℕ → Fault
  -- so many clients with so many operations each are too many operations
  TooMuch : Form → ℕ → ℕ → Fault

-- ## What is wrong

-- the first fault, from the left, of words behind the name of a command that takes these
abbrev pub first_wrong : Form → List Parameter → List (List ℕ) → Option Fault
first_wrong f [] [] = None
first_wrong f [] (word ∷ more) = Some (TooMany f word)
first_wrong f (p ∷ ps) [] = Some (Missing f p)
first_wrong f (p ∷ ps) (word ∷ more) = if is_some (number (lowest p) (highest p) word) then first_wrong f ps more else Some (Wrong f p word)

-- more than 4,092 operations in all
abbrev pub too_much : Form → List (List ℕ) → Option Fault
too_much f (seed ∷ clients ∷ operations ∷ more) =
    option_and_then (λ c. option_and_then (λ o. if nat_lt 4092 (c * o) then Some (TooMuch f c o) else None) (number 1 4092 operations)) (number 1 31 clients)
too_much f other = None

-- the first of these, else the second
abbrev pub first_or : Option Fault → Option Fault → Option Fault
first_or (Some fault) other = Some fault
first_or None other = other

-- what is wrong behind `gen` or `load`
abbrev pub drawn : Form → List (List ℕ) → Option Fault
drawn f words = first_or (first_wrong f (parameter.Seed ∷ parameter.Clients ∷ parameter.Operations ∷ []) words) (too_much f words)

-- behind `run`, which may stand alone
abbrev pub run_wrong : List (List ℕ) → Option Fault
run_wrong [] = None
run_wrong (word ∷ more) = first_wrong form.Run (parameter.Port ∷ []) (word ∷ more)

-- behind the name of a command
abbrev pub behind : Form → List (List ℕ) → Option Fault
behind form.Replay words = first_wrong form.Replay [] words
behind form.Sim words = first_wrong form.Sim (parameter.Seed ∷ []) words
behind form.Run words = run_wrong words
behind form.Gen words = drawn form.Gen words
behind form.Load words = drawn form.Load words
behind form.Frames words = first_wrong form.Frames [] words
behind form.Serve words = first_wrong form.Serve (parameter.Port ∷ parameter.Connections ∷ []) words

-- of a command, or of none of this name
abbrev pub of_form : List ℕ → List (List ℕ) → Option Form → Option Fault
of_form word more None = Some (NoCommand word)
of_form word more (Some f) = behind f more

-- what is wrong with the words of the command line
abbrev pub words_fault : List (List ℕ) → Option Fault
words_fault [] = Some NoWord
words_fault (word ∷ more) = of_form word more (form_of word)

-- ## How it is said

-- the parts of a sentence, one behind another
abbrev pub sentence : List (List ℕ) → List ℕ
sentence parts = flat_map (λ part. part) parts

abbrev pub near_text : List ℕ → Option Form → List ℕ
near_text word (Some f) = sentence (codes "brpc: there is no command " ∷ shown word ∷ codes "; the nearest form is " ∷ form_text f ∷ codes "\n" ∷ [])
near_text word None = sentence (codes "brpc: there is no command " ∷ shown word ∷ codes "; there are replay, sim, run, gen, load, frames and serve\n" ∷ [])

abbrev pub no_command_text : List ℕ → List ℕ
no_command_text word = near_text word (nearest word)

abbrev pub missing_text : Form → Parameter → List ℕ
missing_text f p = sentence (codes "brpc: " ∷ name p ∷ codes " is missing, " ∷ range_text p ∷ codes "; the form is " ∷ form_text f ∷ codes "\n" ∷ [])

abbrev pub wrong_text : Form → Parameter → List ℕ → List ℕ
wrong_text f p word = sentence (codes "brpc: " ∷ name p ∷ codes " is " ∷ range_text p ∷ codes ", and not " ∷ shown word ∷ codes "; the form is " ∷ form_text f ∷ codes "\n" ∷ [])

abbrev pub too_many_text : Form → List ℕ → List ℕ
too_many_text f word = sentence (codes "brpc: " ∷ shown word ∷ codes " is one word too many; the form is " ∷ form_text f ∷ codes "\n" ∷ [])

abbrev pub too_much_text : Form → ℕ → ℕ → List ℕ
too_much_text f clients operations = sentence (codes "brpc: CLIENTS times OPS is at most 4092, and not " ∷ decimal clients ∷ codes " times " ∷ decimal operations ∷ codes "; the form is " ∷ form_text f ∷ codes "\n" ∷ [])

abbrev pub fault_text : Fault → List ℕ
fault_text NoWord = codes "brpc: no command is given; there are replay, sim, run, gen, load, frames and serve\n"
fault_text (NoCommand word) = no_command_text word
fault_text (Missing f p) = missing_text f p
fault_text (Wrong f p word) = wrong_text f p word
fault_text (TooMany f word) = too_many_text f word
fault_text (TooMuch f clients operations) = too_much_text f clients operations

abbrev pub told : Option Fault → List ℕ
told None = []
told (Some fault) = fault_text fault

-- what is said of the words: which is wrong, and the form that is nearest; nothing where they are a command
abbrev pub words_text : List (List ℕ) → List ℕ
words_text words = told (words_fault words)
