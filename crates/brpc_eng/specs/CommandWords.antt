-- The words of the command line: which of the commands they ask for.
use Rattle.std.specs.Prelude.{ℕ, Bool, true, false, ◌*◌, nat_le, if◌then◌else◌, List, [], ◌∷◌, codes, bytes_eq, Option, Some, None, option_map, option_and_then, unwrap_or}
use Rattle.brpc_model.specs.NumberInRange.{number}

-- what the program is asked to do
pub data Command : Type 0 where
  -- to read a script and to run it by its own schedule
  Replay : Command
  -- the same with a schedule drawn from a seed
  Sim : ℕ → Command
  -- to run a script on threads, with links over rings, or over TCP to a port
  Run : Option ℕ → Command
  -- to print the script that a seed gives for so many clients with so many operations each
  Gen : ℕ → ℕ → ℕ → Command
  -- to run that script and to print a summary
  Load : ℕ → ℕ → ℕ → Command
  -- to print the frames of the input
  Frames : Command
  -- to accept so many connections at a port, and to serve them
  Serve : ℕ → ℕ → Command

-- a command of no further words
abbrev pub alone : Command → List (List ℕ) → Option Command
alone command [] = Some command
alone command more = None

-- `sim SEED`
abbrev pub sim_of : List (List ℕ) → Option Command
sim_of (seed ∷ []) = option_map (λ n. Sim n) (number 0 4294967295 seed)
sim_of other = None

-- `run` and `run PORT`
abbrev pub run_of : List (List ℕ) → Option Command
run_of [] = Some (Run None)
run_of (port ∷ []) = option_map (λ n. Run (Some n)) (number 1 65535 port)
run_of other = None

-- so many clients with so many operations each, at most 4,092 in all
abbrev pub in_all : (ℕ → ℕ → ℕ → Command) → ℕ → ℕ → ℕ → Option Command
in_all make seed clients count = if nat_le (clients * count) 4092 then Some (make seed clients count) else None

-- `SEED CLIENTS OPS` behind `gen` or `load`
abbrev pub drawn_of : (ℕ → ℕ → ℕ → Command) → List (List ℕ) → Option Command
drawn_of make (seed ∷ clients ∷ count ∷ []) =
    option_and_then (λ s. option_and_then (λ c. option_and_then (in_all make s c) (number 1 4092 count)) (number 1 31 clients)) (number 0 4294967295 seed)
drawn_of make other = None

-- `serve PORT N`
abbrev pub serve_of : List (List ℕ) → Option Command
serve_of (port ∷ count ∷ []) = option_and_then (λ p. option_map (λ n. Serve p n) (number 1 31 count)) (number 1 65535 port)
serve_of other = None

-- the command that the words ask for, where they have the form of one
abbrev pub command_of : List (List ℕ) → Option Command
command_of [] = None
command_of (word ∷ more) =
    if bytes_eq word (codes "replay") then alone Replay more
    else if bytes_eq word (codes "sim") then sim_of more
    else if bytes_eq word (codes "run") then run_of more
    else if bytes_eq word (codes "gen") then drawn_of (λ s c n. Gen s c n) more
    else if bytes_eq word (codes "load") then drawn_of (λ s c n. Load s c n) more
    else if bytes_eq word (codes "frames") then alone Frames more
    else if bytes_eq word (codes "serve") then serve_of more
    else None

-- ## Commands that wait

-- a command that may wait for ever: `run` for its clients, `serve` for its connections
abbrev pub waits : Command → Bool
waits (Run port) = true
waits (Serve port count) = true
waits other = false

-- the words ask for such a command
abbrev pub asks_to_wait : List (List ℕ) → Bool
asks_to_wait words = unwrap_or (option_map waits (command_of words)) false
