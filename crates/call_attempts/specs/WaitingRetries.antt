-- What becomes of a retry that waited, and of all of them.
use Rattle.std.specs.Prelude.{◌≡◌, ℕ, ◌<◌, ◌≤◌, ◌⊎◌, false, true, Option as Maybe, Some, None, List, [], ◌∷◌}
use Rattle.sock_io.specs.LinkHalves.{OutState}
use Rattle.sock_words.specs.ErrorCodes.{EFAILEDSOCKET, EINTERNAL}
use Rattle.sock_words.specs.declared.plain.Plan.{Plan}
use Rattle.sock_words.specs.declared.socket_id.SocketId.{SocketId}
use Rattle.sock_rule.specs.declared.homes.Letter.{Letter}
use Rattle.sock_table.specs.NamesStoredAndFound.{Found}
use Rattle.corr_core.specs.IdSlotWord.{parts}
use Rattle.corr_core.specs.declared.marks.Plan as id_plan
use Rattle.corr_core.specs.declared.marks.View as id_view
use Rattle.corr_id.specs.declared.calls.IdLock.{IdLock}
use Rattle.corr_id.specs.declared.unlocks.Unlocked.TheVariants.{Open, Next}
use Rattle.corr_id.specs.Unlocks.{UnlockOk}
use Rattle.sock_message.specs.Asked.{Asked, name_of}
use Rattle.call_errors.specs.declared.retries.Retry.{Retry}
use Rattle.call_errors.specs.ClientBooks.{Books}
use Rattle.call_errors.specs.LockingByVersion.{GotBy, GoneBy}
use Rattle.call_errors.specs.CallEndsWithCode.{EndedWith}
use Rattle.call_errors.specs.Handling.{Decided}
use Rattle.call_attempts.specs.ClientAtBothTables.{Both, wanting}
use Rattle.call_attempts.specs.AttemptLetters.{letter_for}
use Rattle.call_attempts.specs.Attempting.{PostedOf, AttemptedBy}

-- the tables lack the name or the operation, which no call does that a client of these tables begins
abbrev pub IsStray : Plan → id_plan.Plan → ℕ → ℕ → Type 0
IsStray p q name operation = (p.names ≤ name) ⊎ ((p.operations ≤ operation) ⊎ (q.operations ≤ operation))

abbrev pub IsAtHome : Plan → id_plan.Plan → ℕ → ℕ → Type 0
IsAtHome p q name operation = (name < p.names) × (operation < p.operations) × (operation < q.operations)

-- the oldest retry was taken out, or there was none
abbrev pub TookNext : Maybe Retry → Books → Books → Type 0
TookNext None b c = (b.retries ≡ []) × (b.starved ≡ false) × (c ≡ b)
TookNext (Some r) b c = (b.retries ≡ r ∷ c.retries) × (b.starved ≡ false) × (c ≡ record { retries = c.retries; told = b.told; starved = b.starved })

-- the retries without the oldest
abbrev pub without_oldest : List Retry → Both → Both
without_oldest rest s = record { socks = s.socks; calls = record { view = s.calls.view; books = record { retries = rest; told = s.calls.books.told; starved = s.calls.books.starved } } }

module _ {O : Type 0} (state : O → OutState) (p : Plan) (q : id_plan.Plan) where
  -- an attempt goes to the socket of its name; where there is none that is posted to the call
  pub data WentTo (name : ℕ) (msg : Letter) (s t : Both) : Type 0 where
    stray : IsStray p q name msg.label.operation → t.socks ≡ s.socks → PostedOf q msg EFAILEDSOCKET s t → WentTo name msg s t
    unopened : Found p name None s.socks t.socks → PostedOf q msg EFAILEDSOCKET s t → WentTo name msg s t
    to_socket : (socket : SocketId) (u : Both) → Found p name (Some socket) s.socks u.socks → u.calls ≡ s.calls → AttemptedBy state p q socket msg u t → WentTo name msg s t

  module _ (r : Retry) where
    -- the call had ended, and nothing was done
    pub record HadEnded (s t : Both) : Type 0 where
      pub gone : GoneBy q.slots r.id s.calls.view t.calls.view
      pub books : t.calls.books ≡ s.calls.books
      pub socks : t.socks ≡ s.socks

    -- the call's id was locked
    pub record Locked (k : IdLock Asked) (s t : Both) : Type 0 where
      pub got : GotBy q.slots r.id k s.calls.view t.calls.view
      pub books : t.calls.books ≡ s.calls.books
      pub socks : t.socks ≡ s.socks

    -- and unlocked, with another error that waited, which is handled: the retry is spent
    pub record Overtaken (k : IdLock Asked) (s t : Both) : Type 0 where
      pub next : IdLock Asked
      pub code : ℕ
      pub attempt : Maybe ℕ
      pub view : id_view.View Asked
      pub unlocked : UnlockOk s.calls.view view k.slot (parts k.word.0) k.content false (Next next code attempt)
      pub decided : Decided (record { view = view; books = s.calls.books }) next code attempt t.calls
      pub socks : t.socks ≡ s.socks

    -- or it is open, and its attempt goes to its name
    pub record WentAgain (k : IdLock Asked) (s t : Both) : Type 0 where
      pub view : id_view.View Asked
      pub unlocked : UnlockOk s.calls.view view k.slot (parts k.word.0) k.content false Open
      pub went : WentTo (name_of k.content r.attempt) (letter_for k.content r.id r.attempt r.low) (record { socks = s.socks; calls = record { view = view; books = s.calls.books } }) t

    pub data RetriedBy (s t : Both) : Type 0 where
      had_ended : HadEnded s t → RetriedBy s t
      overtaken : (k : IdLock Asked) (u : Both) → Locked k s u → Overtaken k u t → RetriedBy s t
      went_again : (k : IdLock Asked) (u : Both) → Locked k s u → WentAgain k u t → RetriedBy s t

    -- there was no memory for its frame: the call, whose id is locked, ends by that
    pub record GaveUp (s t : Both) : Type 0 where
      pub lock : IdLock Asked
      pub at : Both
      pub locked : Locked lock s at
      pub ended : EndedWith lock EINTERNAL (wanting at.calls) t.calls
      pub socks : t.socks ≡ at.socks

  -- the retries that waited were made, the oldest first, so far
  pub data Retried (s : Both) : Both → Type 0 where
    none_yet : Retried s s
    one_more : (u t : Both) (r : Retry) (rest : List Retry) → Retried s u → u.calls.books.retries ≡ r ∷ rest → u.calls.books.starved ≡ false → RetriedBy r (without_oldest rest u) t → Retried s t

  -- until none waits
  pub record RetriedAll (s t : Both) : Type 0 where
    pub retried : Retried s t
    pub none_waits : t.calls.books.retries ≡ []
    pub fed : t.calls.books.starved ≡ false

  -- or memory was wanting: for a frame; or before the next one, as an error was handled, or since so many messages of the seat are accepted that there is no room in its list for one more
  pub data RanOut (sent : ℕ) (s t : Both) : Type 0 where
    for_frame : (u : Both) (r : Retry) (rest : List Retry) → Retried s u → u.calls.books.retries ≡ r ∷ rest → u.calls.books.starved ≡ false → GaveUp r (without_oldest rest u) t → RanOut sent s t
    before_next : (u : Both) → Retried s u → (u.calls.books.starved ≡ true) ⊎ (33554431 ≤ sent) → t ≡ record { socks = u.socks; calls = wanting u.calls } → RanOut sent s t
