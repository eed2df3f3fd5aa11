-- Where whoever writes a link stands in its loops (bRPC's socket.cpp, `KeepWrite`).
use Rattle.std.specs.Prelude.{ℕ, Bool, List}
use Rattle.sock_model.specs.declared.chain.Heading.{Heading}

-- the life that the seat holds, its link, the ticket of the last message that it has to write, and how many of the link's messages have places
pub record Holder : Type 0 where
  pub id : ℕ
  pub link : ℕ
  pub last : ℕ
  pub places : ℕ

pub data Writing : Type 0 where
  -- the message of this ticket is in hand: its heading, what the link hasn't taken of it, how many bytes it took, and whether the link
  -- has answered since its last put that it takes more
  Puts : Holder → ℕ → Heading → List ℕ → ℕ → Bool → Writing
  -- the same, and the link took nothing of the last put for want of a place
  Waits : Holder → ℕ → Heading → List ℕ → ℕ → Writing
  -- all messages up to the last have their places
  Empties : Holder → Writing
  -- the walk that began at the ticket `top` has come to `at`, whose successor is `after`: top, at, after
  Reversing : Holder → ℕ → ℕ → ℕ → Writing
