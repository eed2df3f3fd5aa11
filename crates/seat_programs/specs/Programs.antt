-- The program of each operation: a tree of steps, which goes on by the word that each step found.
use Rattle.std.specs.Prelude.{ℕ, zero, suc, ◌+◌, ◌-◌, ◌%◌, ◌==◌, ◌&&◌, Bool, true, false, List, nat_le, if◌then◌else◌}
use Rattle.sock_model.specs.sock_words.specs.ErrorCodes.{EEOF}
use Rattle.sock_model.specs.sock_words.specs.PackedWords.{socket_id, socket_id_version, socket_id_slot, vref_version, vref_nref, NO_SOCKET}
use Rattle.sock_model.specs.sock_words.specs.declared.outcome.Outcome.{Outcome}
use Rattle.sock_model.specs.sock_words.specs.declared.outcome.Outcome.TheVariants.{Opened, SlotsFull, Unopened, Gone, Held, Freed, Kept, Failed, Already}
use Rattle.sock_io.specs.declared.link.Put.{Put}
use Rattle.sock_io.specs.declared.link.Ready.{Ready}
use Rattle.sock_model.specs.declared.chain.Heading.{Heading}
use Rattle.seat_programs.specs.Writings.{Writing}
use Rattle.seat_programs.specs.Asides.{Step, Found}
use Rattle.seat_programs.specs.LoopHeads.{Head, Exit, Retry}
use Rattle.seat_programs.specs.TableSteps.{TableStep, OnSlot, OnName, OnLink, ClaimSlot, CreateLife, AddRef, SubRef, SetOdd, Recycle, FreeSlot, StoreLink, LoadLink, ResetHead, ClearCode, StoreCode, StoreName, LoadName, StoreOpen, LoadOpen, TakeLink, FinishLink, PutLink}

-- what a seat has still to do: a step, and what follows by the word found; an operation's outcome, which takes no step; or nothing.
-- Whoever writes a link also makes steps that find more than a word: a message out of its home, which is that of the request; the link out
-- of its home, where what follows is told how many of its messages have places, and home again with that number; a put into the link in hand,
-- which has answered before or not that it takes more, and the question whether it does, where what follows is told what it answers. And it
-- comes to the heads of loops. Of an operation whose message was accepted nothing is said: its place word tells the outcome.
-- Steps on ids and at reading halves stand aside of the table of the sockets, as do the loops made of them. A retry is kept, which takes no
-- step; and where the retries that the seat keeps are to be tried, over a table of so many requests, the oldest goes first.
pub data Program : Type 0 where
  Do : TableStep → (ℕ → Program) → Program
  Say : ℕ → Outcome → Program → Program
  Sent : ℕ → Program → Program
  Rest : Program
  TakeMessage : ℕ → (Heading → List ℕ → Program) → Program
  TakeHome : ℕ → (ℕ → Program) → Program
  PutHome : ℕ → ℕ → Program → Program
  PutBytes : ℕ → Bool → List ℕ → (Put → Program) → Program
  AskReady : ℕ → (Ready → Program) → Program
  Write : Writing → Program → Program
  Aside : (step : Step) → (Found step → Program) → Program
  Round : (head : Head) → (Exit head → Program) → Program
  Keep : Retry → Program → Program
  Retries : ℕ → Program → Program

-- ## Words

-- the last version that a slot may be given again with
abbrev pub LAST_VERSION : ℕ
LAST_VERSION = 4294967292

-- the last generation of a request, which isn't given back then
abbrev pub LAST_GENERATION : ℕ
LAST_GENERATION = 140737488355327

-- ## Parts that operations share

-- whoever took the number of references to 0 at an odd version tries one exchange from that word; who wins ends the
-- link's writing half, and frees the slot unless its versions are used up. What follows is told whether it won (bRPC's versioned_ref_with_id.h,
-- `Dereference`; memory_management.md).
abbrev pub recycle : ℕ → ℕ → (Bool → Program) → Program
recycle i from next = Do (OnSlot (Recycle i from)) (λ found.
    if found == from then
    Do (OnSlot (LoadLink i (vref_version from + 1))) (λ k. Do (OnLink (TakeLink k)) (λ _. Do (OnLink (FinishLink k)) (λ _. Do (OnLink (PutLink k)) (λ _.
    if nat_le (vref_version from + 1) LAST_VERSION then Do (OnSlot (FreeSlot i)) (λ _. next true) else next true))))
    else next false)

-- a reference, or a 1 that was added to the word of another version, is taken back
abbrev pub release : ℕ → (Bool → Program) → Program
release i next = Do (OnSlot (SubRef i)) (λ found.
    if (vref_version found % 2 == 1) && (vref_nref found == 1) then recycle i (found - 1) next
    else next false)

-- a reference to the life of this id, or what follows by the word of another version, which got its 1 back (versioned_ref_with_id.h, `Address`)
abbrev pub add_reference : ℕ → Program → (ℕ → Program) → Program
add_reference id held gone = Do (OnSlot (AddRef id)) (λ found.
    if vref_version found == socket_id_version id then held else release (socket_id_slot id) (λ _. gone found))

-- the id under a name, and a reference to its life
abbrev pub find_socket : ℕ → Program → (ℕ → Program) → (ℕ → Program) → Program
find_socket name unopened held gone = Do (OnName (LoadName name)) (λ word.
    if word == 0 then unopened else add_reference (word - 1) (held (word - 1)) gone)

-- a held life is set failed with a code: the first one that does so stores the code and takes back the reference that
-- creation made. What follows is told the word that was found (socket.cpp, `SetFailed`; versioned_ref_with_id.h).
abbrev pub set_failed : ℕ → ℕ → (ℕ → Program) → Program
set_failed id code next = let i = socket_id_slot id in Do (OnSlot (SetOdd i)) (λ found.
    if vref_version found % 2 == 0 then Do (OnSlot (StoreCode i (socket_id_version id) code)) (λ _. Do (OnSlot (SubRef i)) (λ _. next found)) else next found)

-- ## Operations

-- a link that no socket got: its writing half is ended, and the word of its `open` says so
abbrev pub no_socket : ℕ → ℕ → Program → Program
no_socket o k next = Do (OnLink (TakeLink k)) (λ _. Do (OnLink (FinishLink k)) (λ _. Do (OnLink (PutLink k)) (λ _. Do (OnName (StoreOpen o NO_SOCKET)) (λ _. Say o SlotsFull next))))

-- a claimed slot becomes a socket with link k (versioned_ref_with_id.h, `Create`)
abbrev pub make_socket : ℕ → ℕ → ℕ → ℕ → Program → Program
make_socket o name k i next = Do (OnSlot (StoreLink i k)) (λ _. Do (OnSlot (ResetHead i k)) (λ _. Do (OnSlot (ClearCode i k)) (λ _. Do (OnSlot (CreateLife i k)) (λ found.
    let word = socket_id (vref_version found) i + 1 in
    Do (OnName (StoreOpen o word)) (λ _. Do (OnName (StoreName name word)) (λ _. Say o (Opened i (vref_version found) k) next))))))

-- `open`, with so many slots from slot i on left to try
abbrev pub open_from : ℕ → ℕ → ℕ → ℕ → ℕ → Program → Program
open_from zero i o name k next = no_socket o k next
open_from (suc more) i o name k next = Do (OnSlot (ClaimSlot i)) (λ found. if found == 0 then make_socket o name k i next else open_from more (i + 1) o name k next)

-- `fail NAME CODE`: the outcome tells whether this step failed the life
abbrev pub fail_outcome : ℕ → Outcome
fail_outcome found = if vref_version found % 2 == 0 then Failed else Already (record { 0 = found })

abbrev pub fail : ℕ → ℕ → ℕ → Program → Program
fail o name code next = find_socket name (Say o Unopened next)
    (λ id. set_failed id code (λ found. release (socket_id_slot id) (λ _. Say o (fail_outcome found) next)))
    (λ found. Say o (Gone (record { 0 = found })) next)

-- `hold NAME`: what follows is told the id of the life that is held, where one is
abbrev pub hold : ℕ → ℕ → (ℕ → Program) → Program → Program
hold o name held next = find_socket name (Say o Unopened next) (λ id. Say o Held (held id)) (λ found. Say o (Gone (record { 0 = found })) next)

-- `drop NAME` of a life that is held
abbrev pub drop_held : ℕ → ℕ → Program → Program
drop_held o id next = release (socket_id_slot id) (λ freed. Say o (if freed then Freed else Kept) next)

-- ## The ending

-- the socket of an `open` that got one is set failed with 1014 where it is still live
abbrev pub end_open : ℕ → Program → Program
end_open o next = Do (OnName (LoadOpen o)) (λ word.
    if (word == 0) then next else if word == NO_SOCKET then next else
    add_reference (word - 1) (set_failed (word - 1) EEOF (λ _. release (socket_id_slot (word - 1)) (λ _. next))) (λ _. next))
