-- How the bytes of a message lie: few in place, or in blocks.
use Rattle.std.specs.Prelude.{ℕ, ◌≤◌, List, drop, length}
use Rattle.sock_message.specs.InsideMessages.{LiesInBlocks, LiesBehind}
use Rattle.sock_message.specs.declared.message.Body.{Body}
use Rattle.sock_message.specs.declared.message.Body.TheVariants.{Few, Blocks}

-- its bytes
abbrev pub body_bytes : Body → List ℕ
body_bytes (Few few) = few
body_bytes (Blocks buf) = buf.value.items

-- no part of it was taken yet
abbrev pub LiesWhole : Body → Type 0
LiesWhole (Few few) = length few ≤ 40
LiesWhole (Blocks buf) = LiesInBlocks buf.value

-- what is left where a link took so many bytes: those that lie in place stay there
abbrev pub left_of : ℕ → Body → List ℕ
left_of taken (Few few) = drop taken few
left_of taken (Blocks buf) = buf.value.items

-- it is what is left where a link took so many bytes
abbrev pub IsLeftOf : ℕ → Body → Type 0
IsLeftOf taken (Few few) = (length few ≤ 40) × (taken ≤ length few)
IsLeftOf taken (Blocks buf) = LiesBehind taken buf.value
