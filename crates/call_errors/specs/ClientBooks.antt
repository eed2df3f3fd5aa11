-- What a client knows of calls: by its seat, and by its own books.
use Rattle.std.specs.Prelude.{◌≡◌, ◌≢◌, ℕ, Bool, true, List, [], ◌∷◌, ◌++◌}
use Rattle.atomic_table.specs.Seated.{TableId}
use Rattle.corr_core.specs.declared.marks.View.{View}
use Rattle.corr_id.specs.id_rule.specs.LawfulIdTable.{tokens_in}
use Rattle.corr_id.specs.IdTableSeat.{Sits, Stays, IsFree}
use Rattle.sock_message.specs.Asked.{Asked}
use Rattle.rpc_client.specs.declared.acting.Told.{Told}
use Rattle.call_errors.specs.declared.seats.CallSeat.{CallSeat}
use Rattle.call_errors.specs.declared.retries.Retry.{Retry}

-- the retries that wait, the oldest first; what it told; and whether memory was wanting, so that it ends each call whose error it gets
pub record Books : Type 0 where
  pub retries : List Retry
  pub told : List Told
  pub starved : Bool

abbrev pub books_of : CallSeat → Books
books_of c = record { retries = c.retries.items; told = c.told.items; starved = c.starved }

pub record CallStand : Type 0 where
  pub view : View Asked
  pub books : Books

abbrev pub stand_of : CallSeat → CallStand
stand_of c = record { view = c.seat.me.0; books = books_of c }

-- its seat of the ids is one of this table, and has no lock
abbrev pub HasNoLock : TableId → CallSeat → Type 0
HasNoLock z c = Sits z c.seat × IsFree c.seat.me.0

-- behind a step it is the same seat, and has no lock again
pub record KeepsSeat (z : TableId) (c d : CallSeat) : Type 0 where
  pub stays : Stays c.seat d.seat
  pub ids : HasNoLock z d

-- memory is wanting from here on
abbrev pub starving : Books → Books
starving b = record { retries = b.retries; told = b.told; starved = true }

-- a retry waits behind the others
abbrev pub keeping : Retry → Books → Books
keeping r b = record { retries = b.retries ++ r ∷ []; told = b.told; starved = b.starved }

-- what was told of one call more; where no memory was there for it, memory is wanting
pub data Tells (x : Told) (b c : Books) : Type 0 where
  told : c ≡ record { retries = b.retries; told = b.told ++ x ∷ []; starved = b.starved } → Tells x b c
  lost : c ≡ starving b → Tells x b c

-- of this slot the seat has nothing in hand any more, and of the others what it had
pub record LetGo (i : ℕ) (v w : View Asked) : Type 0 where
  pub nothing : tokens_in i w ≡ []
  pub others : (j : ℕ) → j ≢ i → tokens_in j w ≡ tokens_in j v
