-- The label of the message of a call's attempt, and what stands with a claim that has no message yet.
use Rattle.std.specs.Prelude.{ℕ, ◌+◌, ◌*◌, []}
use Rattle.sock_words.specs.declared.plain.Label.{Label}
use Rattle.sock_model.specs.declared.chain.Heading.{Heading}

-- the label of an attempt of the call that is this operation of the script
abbrev pub attempt_label : ℕ → ℕ → Label
attempt_label operation n = record { client = 0; operation = operation; attempt = n; place = 8 * operation + n }

-- the heading of a claim that has no message yet
abbrev pub blank : Heading
blank = record { label = record { client = 0; operation = 0; attempt = 0; place = 0 }; owner = 0; parts = [] }
