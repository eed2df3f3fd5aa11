-- The seats of a table of ids, of which one takes in the others.
use Rattle.std.proofs.Common.{◌≡◌, ℕ, ◌≤◌, List, [], ◌∷◌, ◌++◌, sym, ap, ◌∙◌, subst, arith}
use Rattle.atomic_table.specs.Seated.{TableId}
use Rattle.corr_id.specs.ClosedIdTable.{AllOf}
use Rattle.corr_id.specs.IdTableSeat.{IsFree}
use Rattle.rpc_reader.specs.ReaderIdSeat.{IsOpen, Rests}
use Rattle.rpc_reader.proofs.Locks.{open_still}
use Rattle.call_run.specs.CrewOfRun.{AreLeft}
use Rattle.script_parts.specs.SeatsOfIdTable.{IdSeat}
use Rattle.sock_words.specs.Totals.{total}

abbrev pub share_of : IdSeat → ℕ
share_of s = s.me.0.share

-- each may be taken in
pub all_of : (z : TableId) (seats : List IdSeat) → AreLeft z seats → AllOf z seats
all_of z [] h = tt
all_of z (s ∷ ss) h = ((h.0.0.sits.0, h.0.1, h.0.0.free), all_of z ss h.1)

-- ## The one that took in all

pub joined_open : (z : TableId) (all : List IdSeat) (s : IdSeat) → (s.table_id ≡ z) × (s.me.1 ≡ []) × IsFree s.me.0 → s.me.0.share ≡ total share_of all → 1 ≤ total share_of all → IsOpen z s
joined_open z all s is share some_ = record { sits = (is.0, omega (arith, share, some_)); free = is.2 }

-- the table is closed with the seat that is left of the one that took in all
module _ (z : TableId) (new left : IdSeat) (whole : Rests new left) (done more : List IdSeat) (none_ : done ≡ []) (pushed : more ≡ done ++ left ∷ []) where
  alone : more ≡ left ∷ []
  alone = pushed ∙ ap (λ (l : List IdSeat). l ++ left ∷ []) none_

  pub rested_left : IsOpen z new → new.me.1 ≡ [] → AllOf z more
  rested_left open_ slots = let o = open_still z new left open_ whole in subst (AllOf z) (sym alone) ((o.sits.0, whole.stays.2 ∙ slots, o.free), tt)

  pub rested_all : total share_of more ≡ share_of new
  rested_all = let a = ap (total share_of) alone in let b = whole.share in omega arith
