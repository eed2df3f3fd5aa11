-- The options of the lines that have some.
use Rattle.std.specs.Prelude.{◌≡◌, ℕ, List, [], ◌∷◌, codes, Option, Some, Ok}
use Rattle.brpc_model.specs.Text.{number_in}
use Rattle.brpc_model.specs.LinePartReads.{Reads, ◌<*>◌}
use Rattle.script_items.specs.declared.options.Command.{Command}
use Rattle.script_items.specs.declared.options.Command.TheVariants.{Open, Call}

-- the keys of the options that have a value
abbrev pub keys_of : Command → List (List ℕ)
keys_of Open = codes "piece=" ∷ codes "again=" ∷ codes "fail=" ∷ codes "end=" ∷ []
keys_of Call = codes "att=" ∷ codes "retry=" ∷ []

-- the options that are one word
abbrev pub plain_of : Command → List (List ℕ)
plain_of Open = codes "serve" ∷ []
plain_of Call = []

-- there are two values or more
abbrev pub IsRepeated : List (List ℕ) → Type 0
IsRepeated values = (one other : List ℕ) × (more : List (List ℕ)) × (values ≡ one ∷ other ∷ more)

-- a number of responses
abbrev pub end_in : List ℕ → Reads (Option ℕ)
end_in w = Ok (λ n. Some n) <*> number_in 0 65536 w
