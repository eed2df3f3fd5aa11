-- The bodies of a call.
use Rattle.std.specs.Prelude.{ℕ, List, [], codes, Ok}
use Rattle.brpc_model.specs.Text.{hex_in}
use Rattle.brpc_model.specs.LinePartReads.{Reads, ◌<*>◌, values_of, option_in}
use Rattle.brpc_model.specs.ScriptLineFaults.{bodies_in}

-- the payload and the attachment, from the payload's word and the options
abbrev pub bodies_of : List ℕ → List (List ℕ) → Reads (List ℕ × List ℕ)
bodies_of payload options = bodies_in (Ok (λ p a. (p, a)) <*> hex_in payload <*> option_in hex_in [] (values_of (codes "att=") options))
