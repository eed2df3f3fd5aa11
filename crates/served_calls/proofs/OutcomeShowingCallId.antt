-- The outcome that shows the id of a call, and what is told of a link in two ways.
use Rattle.std.proofs.Common.{◌≡◌, ℕ, true, false, List, slice_get, option_and_then, Option, Some, None, IfSome, refl, ◌∙◌}
use Rattle.std.specs.Prelude.{IsSome}
use Rattle.sock_words.specs.declared.outcome.Outcome.{Outcome}
use Rattle.brpc_model.specs.MessageOfLabel.{id_at, shown_id}

pub outcome_there : (os : List Outcome) (i id : ℕ) → id_at os i ≡ Some id → (x : Outcome) × (slice_get os i ≡ Some x) × (shown_id x ≡ Some id)
outcome_there os i id shows = by (slice_get os i) refl shows
  where
    by : (o : Option Outcome) → slice_get os i ≡ o → option_and_then shown_id o ≡ Some id → (x : Outcome) × (slice_get os i ≡ Some x) × (shown_id x ≡ Some id)
    by None at e = absurd (cc)
    by (Some x) at e = (x, at, e)

-- what is told both ways is the same
pub both_told : (o : Option (List ℕ)) (a b : List ℕ) → IsSome o → IfSome o (λ bytes. a ≡ bytes) → IfSome o (λ bytes. bytes ≡ b) → a ≡ b
both_told None a b some_ e f = absurd (let z : false ≡ true = some_ in cc)
both_told (Some x) a b some_ e f = e ∙ f
