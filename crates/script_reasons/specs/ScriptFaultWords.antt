-- What is wrong with a script, and how it is said.
use Rattle.std.specs.Prelude.{ℕ, Bool, ◌-◌, ◌==◌, ◌&&◌, bytes_eq, nat_le, if◌then◌else◌, List, [], ◌∷◌, codes, decimal, Result, Ok, Err}
use Rattle.std.specs.Str.Lines.{lines}
use Rattle.brpc_model.specs.Script.{Faulty, script_of}
use Rattle.brpc_model.specs.Items.{Item}
use Rattle.brpc_model.specs.Text.{words}
use Rattle.brpc_reasons.specs.SentencePieces.{shown}
use Rattle.brpc_reasons.specs.WrongWords.{sentence}

-- the line or the word of this number, from 1 on; nothing where there are fewer
abbrev pub numbered : ℕ → List (List ℕ) → List ℕ
numbered n [] = []
numbered n (text ∷ more) = if nat_le n 1 then text else numbered (n - 1) more

-- the word of this number in a line
abbrev pub word_of : ℕ → List ℕ → List ℕ
word_of n line = numbered n (words line)

-- a line that opens a link
abbrev pub opens : List ℕ → Bool
opens line = bytes_eq (word_of 1 line) (codes "open")

-- the name in the line that opens the link of this number, from 0 on; nothing where there are fewer
abbrev pub opened_name : ℕ → List (List ℕ) → List ℕ
opened_name number [] = []
opened_name number (line ∷ more) =
    if opens line then (if number == 0 then word_of 2 line else opened_name (number - 1) more)
    else opened_name number more

-- ## What a fault is

-- what a kind of fault means
abbrev pub kind_text : ℕ → List ℕ
kind_text kind =
    if kind == 1 then codes "a byte that is neither a space nor a printable ASCII character"
    else if kind == 2 then codes "an unknown first word"
    else if kind == 3 then codes "a wrong number of words, an unknown option or one given twice"
    else if kind == 4 then codes "a number that is malformed or out of its range, or a seat that the script doesn't have"
    else if kind == 5 then codes "bad hexadecimal"
    else if kind == 6 then codes "a length out of its limits"
    else if kind == 7 then codes "a malformed name, service, method or kind of step"
    else if kind == 8 then codes "a line at a wrong place"
    else if kind == 9 then codes "too many clients, operations, links, names or schedule lines"
    else if kind == 10 then codes "no such call in the script"
    else if kind == 11 then codes "a join in a script in which an open lacks serve"
    else if kind == 12 then codes "a drop of a name that is not held, or a second hold without a drop"
    else codes "a fault"

-- ## Which form is nearest: by the first two letters of a line's first word

abbrev pub form_by : ℕ → ℕ → List ℕ
form_by a b =
    if (a == 115) && (b == 108) then codes "; the form is slots N, from 1 to 31\n"
    else if (a == 114) && (b == 101) then codes "; the form is requests N, from 1 to 4096\n"
    else if (a == 102) && (b == 105) then codes "; the form is first V, an even number from 0 to 4294967292\n"
    else if (a == 111) && (b == 112) then codes "; the form is open NAME [piece=1..65536] [again=2..65536] [fail=1..65536] [serve] [end=0..65536]\n"
    else if (a == 99) && (b == 108) then codes "; the form is client\n"
    else if (a == 115) && (b == 101) then codes "; the form is send NAME HEX\n"
    else if (a == 99) && (b == 97) then codes "; the form is call NAME[,NAME] SERVICE.METHOD HEX [att=HEX] [retry=0..6]\n"
    else if (a == 101) && (b == 120) then codes "; the form is expire C.I\n"
    else if (a == 106) && (b == 111) then codes "; the form is join C.I\n"
    else if (a == 102) && (b == 97) then codes "; the form is fail NAME CODE, from 1500 to 1999\n"
    else if (a == 104) && (b == 111) then codes "; the form is hold NAME\n"
    else if (a == 100) && (b == 114) then codes "; the form is drop NAME\n"
    else if (a == 115) && (b == 99) then codes "; the form is sched\n"
    else if (a == 116) && (b == 105) then codes "; the form is tick SEAT N, from 1 to 65536\n"
    else if (a == 116) && (b == 111) then codes "; the form is to SEAT KIND\n"
    else codes "; a line begins with slots, requests, first, open, client, send, call, expire, join, fail, hold, drop, sched, tick and to\n"

-- the form that is nearest to a first word
abbrev pub nearest_form : List ℕ → List ℕ
nearest_form (a ∷ b ∷ more) = form_by a b
nearest_form other = codes "; a line begins with slots, requests, first, open, client, send, call, expire, join, fail, hold, drop, sched, tick and to\n"

-- ## Which word it is, counted from 1; 0 where it is no word alone, or one of several

-- a bad number
abbrev pub number_place : ℕ → ℕ → ℕ
number_place a b =
    if (a == 115) && (b == 108) then 2
    else if (a == 114) && (b == 101) then 2
    else if (a == 102) && (b == 105) then 2
    else if (a == 101) && (b == 120) then 2
    else if (a == 106) && (b == 111) then 2
    else if (a == 102) && (b == 97) then 3
    else if (a == 116) && (b == 111) then 2
    else 0

-- bad bytes
abbrev pub bytes_place : ℕ → ℕ → ℕ
bytes_place a b = if (a == 115) && (b == 101) then 3 else 0

-- a bad name, or a bad kind of step
abbrev pub name_place : ℕ → ℕ → ℕ
name_place a b =
    if (a == 111) && (b == 112) then 2
    else if (a == 115) && (b == 101) then 2
    else if (a == 102) && (b == 97) then 2
    else if (a == 104) && (b == 111) then 2
    else if (a == 100) && (b == 114) then 2
    else if (a == 116) && (b == 111) then 3
    else 0

abbrev pub place_by : ℕ → ℕ → ℕ → ℕ
place_by kind a b =
    if kind == 2 then 1
    else if kind == 4 then number_place a b
    else if kind == 5 then bytes_place a b
    else if kind == 6 then bytes_place a b
    else if kind == 7 then name_place a b
    else if kind == 10 then 2
    else if kind == 12 then 2
    else 0

-- the word at fault by the kind of the fault and the line's first word
abbrev pub place_of : ℕ → List ℕ → ℕ
place_of kind (a ∷ b ∷ more) = place_by kind a b
place_of kind other = if kind == 2 then 1 else 0

-- the word of a line that has a fault of this kind; nothing where no word alone has it
abbrev pub faulty_word : ℕ → List ℕ → List ℕ
faulty_word kind line = if place_of kind (word_of 1 line) == 0 then [] else word_of (place_of kind (word_of 1 line)) line

-- ## How it is said

-- a line that has a fault as a whole
abbrev pub whole_text : ℕ → List ℕ → List ℕ → List ℕ → List ℕ
whole_text number line what form = sentence (codes "brpc: line " ∷ decimal number ∷ codes " of the script, " ∷ shown line ∷ codes ": " ∷ what ∷ form ∷ [])

-- a line of which this word has it
abbrev pub at_word_text : ℕ → List ℕ → List ℕ → List ℕ → List ℕ → List ℕ
at_word_text number line word what form = sentence (codes "brpc: line " ∷ decimal number ∷ codes " of the script, " ∷ shown line ∷ codes ", at " ∷ shown word ∷ codes ": " ∷ what ∷ form ∷ [])

-- by the word, where there is one
abbrev pub line_text : ℕ → List ℕ → List ℕ → List ℕ → List ℕ → List ℕ
line_text number line [] what form = whole_text number line what form
line_text number line (b ∷ word) what form = at_word_text number line (b ∷ word) what form

-- where it isn't known
abbrev pub unknown_text : List ℕ
unknown_text = codes "brpc: the script is faulty\n"

abbrev pub fault_text : ℕ → ℕ → List ℕ → List ℕ
fault_text number kind line = line_text number line (faulty_word kind line) (kind_text kind) (nearest_form (word_of 1 line))

abbrev pub told : List ℕ → Faulty (List Item) → List ℕ
told bytes (Ok script) = unknown_text
told bytes (Err fault) = fault_text fault.0 fault.1 (numbered fault.0 (lines bytes))

-- what is said of these bytes, which are no script
abbrev pub script_text : List ℕ → List ℕ
script_text bytes = told bytes (script_of bytes)
