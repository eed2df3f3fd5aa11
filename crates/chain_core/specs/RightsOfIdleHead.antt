-- What a seat has after its exchange found an idle head.
use Rattle.std.specs.Prelude.{◌≡◌, ℕ, List}
use mathlib.Core.Option.{some}
use Rattle.sock_model.specs.SocketTableLayout.{head_index}
use Rattle.sock_model.specs.ChainLawReads.{link_home}
use Rattle.sock_model.specs.ChainRows.{righted}
use Rattle.sock_model.specs.KeepingSocketRule.{LawfulAfter, WhereLawful}
use Rattle.chain_core.specs.RequestStepConditions.{MaySwap}

-- the link of its claim is at home, and the rule holds with the right of the seat, which knows what the link took and how many of its messages have places
abbrev pub TakesRight : (i own found next : ℕ) → Type 0
TakesRight i own found next = WhereLawful (MaySwap i own) (λ p. head_index i) found
    (λ p s id v m. (sent : List ℕ) × (places : ℕ) × (link_home (λ home. home) p s.homes m.claim.link ≡ some (sent, places)) × LawfulAfter p s (head_index i) next id (righted v m.claim found sent places))
