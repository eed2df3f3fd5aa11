-- The forms of the commands.
use Rattle.std.specs.Prelude.{ℕ, ◌==◌, if◌then◌else◌, List, [], ◌∷◌, codes, bytes_eq, Option, Some, None}
use Rattle.brpc_reasons.specs.declared.forms.Parameter.{Parameter}
use Rattle.brpc_reasons.specs.declared.forms.Parameter.TheVariants as parameter
use Rattle.brpc_reasons.specs.declared.forms.Form.{Form}
use Rattle.brpc_reasons.specs.declared.forms.Form.TheVariants as form

-- how a word behind a command's name is called
abbrev pub name : Parameter → List ℕ
name parameter.Seed = codes "SEED"
name parameter.Port = codes "PORT"
name parameter.Clients = codes "CLIENTS"
name parameter.Operations = codes "OPS"
name parameter.Connections = codes "N"

-- the numbers that it may be: from this
abbrev pub lowest : Parameter → ℕ
lowest parameter.Seed = 0
lowest parameter.Port = 1
lowest parameter.Clients = 1
lowest parameter.Operations = 1
lowest parameter.Connections = 1

-- to this
abbrev pub highest : Parameter → ℕ
highest parameter.Seed = 4294967295
highest parameter.Port = 65535
highest parameter.Clients = 31
highest parameter.Operations = 4092
highest parameter.Connections = 31

-- in words
abbrev pub range_text : Parameter → List ℕ
range_text parameter.Seed = codes "a number from 0 to 4294967295"
range_text parameter.Port = codes "a number from 1 to 65535"
range_text parameter.Clients = codes "a number from 1 to 31"
range_text parameter.Operations = codes "a number from 1 to 4092"
range_text parameter.Connections = codes "a number from 1 to 31"

-- the form of a command
abbrev pub form_text : Form → List ℕ
form_text form.Replay = codes "replay"
form_text form.Sim = codes "sim SEED"
form_text form.Run = codes "run [PORT]"
form_text form.Gen = codes "gen SEED CLIENTS OPS"
form_text form.Load = codes "load SEED CLIENTS OPS"
form_text form.Frames = codes "frames"
form_text form.Serve = codes "serve PORT N"

-- the command of a name
abbrev pub form_of : List ℕ → Option Form
form_of word =
    if bytes_eq word (codes "replay") then Some form.Replay
    else if bytes_eq word (codes "sim") then Some form.Sim
    else if bytes_eq word (codes "run") then Some form.Run
    else if bytes_eq word (codes "gen") then Some form.Gen
    else if bytes_eq word (codes "load") then Some form.Load
    else if bytes_eq word (codes "frames") then Some form.Frames
    else if bytes_eq word (codes "serve") then Some form.Serve
    else None

-- of two commands the second, where the word goes on by this byte
abbrev pub second_by : ℕ → Form → Form → List ℕ → Form
second_by byte first second [] = first
second_by byte first second (b ∷ more) = if b == byte then second else first

-- the command whose name has the longest beginning in common with a word, where they have one
abbrev pub nearest : List ℕ → Option Form
nearest [] = None
nearest (b ∷ more) =
    if b == 115 then Some (second_by 101 form.Sim form.Serve more)
    else if b == 114 then Some (second_by 101 form.Run form.Replay more)
    else if b == 103 then Some form.Gen
    else if b == 108 then Some form.Load
    else if b == 102 then Some form.Frames
    else None
