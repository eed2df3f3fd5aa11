-- What is changed one behind the other.
use Rattle.std.proofs.Common.{◌≡◌, ◌≢◌, ℕ, ◌+◌, ◌≤◌, List, length, get_or, ◌∙◌, arith}
use Rattle.std.proofs.Math.ListN.{set}
use Rattle.std.proofs.lemmas.List.{get_or-set_other}

module _ {E : Type 0} where
  -- those from a place on are as they were
  pub record StandFrom (i : ℕ) (old now : List E) : Type 0 where
    pub sized : length now ≡ length old
    pub each : (k : ℕ) (d : E) → i ≤ k → get_or now k d ≡ get_or old k d

  pub stand_next : (i : ℕ) (old now : List E) (v : E) → StandFrom i old now → length (set now i v) ≡ length now → StandFrom (i + 1) old (set now i v)
  stand_next i old now v s e = record {
    sized = e ∙ s.sized;
    each = λ k d le. let other : k ≢ i = (λ (same : k ≡ i). omega arith) in get_or-set_other now i k v d other ∙ s.each k d (omega arith);
  }
