-- That the end of each call that began is told.
use Rattle.std.specs.Prelude.{◌≡◌, ℕ, ◌<◌, ◌≤◌, List}
use mathlib.Core.Option.{some}
use lib.ListN.{get_elem?}
use Rattle.corr_core.specs.IdSlotLaw.{pair}
use Rattle.corr_core.specs.declared.marks.Note.{Note}
use Rattle.corr_core.specs.declared.marks.Note.TheVariants.{Made, Locker}
use Rattle.corr_core.specs.declared.marks.Plan.{Plan}
use Rattle.corr_core.specs.declared.marks.View.{View}
use Rattle.id_rule.specs.LawfulIdTable.{call_index, notes_of, is_stored}
use Rattle.sock_message.specs.Asked.{Asked}
use Rattle.call_deeds.specs.Below.RpcClient.Told.{Told}
use Rattle.call_told.specs.ToldOnce.{ends_of, told_ends}
use Rattle.sock_words.specs.PackedWords.{id_slot, id_first}
use Rattle.sock_words.specs.Totals.{total}

-- 1 where the range with this first version was made for the call that is this operation
abbrev pub is_made_for : ℕ → ℕ → Note Asked → ℕ
is_made_for first operation (Made f range call) = pair first operation f call.operation
is_made_for first operation _ = 0

-- and where it was locked with such a call as its content
abbrev pub is_locked_for : ℕ → ℕ → Note Asked → ℕ
is_locked_for first operation (Locker f call) = pair first operation f call.operation
is_locked_for first operation _ = 0

-- the seat made the id for the call that is this operation, and stored it where the operation's word is
pub record HasBegun (q : Plan) (operation id : ℕ) (v : View Asked) : Type 0 where
  pub inside : id_slot id < q.slots
  pub made : 0 < total (is_made_for (id_first id) operation) (notes_of (id_slot id) v.notes)
  pub stored : 0 < total (is_stored (call_index q operation) id) v.kept

-- by one of these it is told what became of this operation
pub record IsToldIn (operation : ℕ) (tellers : List (List Told)) : Type 0 where
  pub teller : ℕ
  pub place : ℕ
  pub told : List Told
  pub one : Told
  pub by : get_elem? tellers teller ≡ some told
  pub at : get_elem? told place ≡ some one
  pub number : one.number ≡ operation

-- and that is the end of the call with this id
pub record IsEndTold (operation id : ℕ) (tellers : List (List Told)) : Type 0 where
  pub its : IsToldIn operation tellers
  pub open its use *
  pub is_end : ends_of id its.one.outcome ≡ 1

-- of each call that one of these seats began the end is told, over all that tell of calls: with its operation's number
abbrev pub ToldLeast : Plan → List (View Asked) → List (List Told) → Type 0
ToldLeast q seats tellers = (k : ℕ) (v : View Asked) (operation id : ℕ) → get_elem? seats k ≡ some v → HasBegun q operation id v → (1 ≤ total (told_ends id) tellers) × IsEndTold operation id tellers
