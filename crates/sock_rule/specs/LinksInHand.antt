-- Links in hand.
use Rattle.std.specs.Prelude.{ℕ, ◌-◌, ◌<◌, List}
use Rattle.sock_model.specs.declared.view.View.{View}
use Rattle.sock_model.specs.declared.view.Hand.{Hand}
use Rattle.sock_model.specs.MarkWeights.{is_recycled, is_met}
use Rattle.sock_model.specs.SlotRows.{marks_of}

abbrev pub hand_of : ℕ → List ℕ → ℕ → Hand
hand_of k took next = record { link = k; took = took; next = next }

-- the seat recycled slot i, and found that the link of the life that ended is k
pub record Recycles (i k : ℕ) (v : View) : Type 0 where
  pub version : ℕ
  pub recycled : 0 < marks_of (is_recycled version) i v
  pub met : 0 < marks_of (is_met (version - 2) k) i v
