-- The names of the kinds of step.
use Rattle.std.proofs.Common.{◌≡◌, ℕ, List, false, ap, sym, if◌then◌else◌, Ok, Err}
use Rattle.sock_words.specs.KindText.{is_kind_name}
use Rattle.brpc_model.specs.ScriptLineFaults.{kind_in}

-- a word that is no kind's name is a fault
pub no_kind : (w : List ℕ) → false ≡ is_kind_name w → kind_in w ≡ Err 7
unfolding is_kind_name
no_kind w unknown = ap (λ b. if b then Ok w else Err 7) (sym unknown)
