-- The heads of loops on ids and at reading halves, and how each loop ends.
use Rattle.std.specs.Prelude.{ℕ, Bool, List, Option}
use Rattle.sock_message.specs.brpc_model.specs.Frame.{Frame}
use Rattle.sock_message.specs.Asked.{Asked}

-- what is sought in an id slot: the range with this first version, or the one that has this version behind its first
pub data Sought : Type 0 where
  First : ℕ → Sought
  Version : ℕ → Sought

-- where the reader of a link stands: how many id slots there are, the link, its socket, the bytes behind the last whole frame, how many bytes came, and the responses
-- that it keeps
pub record Reading : Type 0 where
  pub ids : ℕ
  pub link : ℕ
  pub id : ℕ
  pub rest : List ℕ
  pub total : ℕ
  pub kept : List Frame

pub data Head : Type 0 where
  -- an error is posted to the id from this word: id, error, word
  Posts : ℕ → ℕ → ℕ → Head
  -- a lock is given back from this word: id slot, word, whether the attempt advances
  Unlocks : ℕ → ℕ → Bool → Head
  -- an error is decided on: id, call, word, error
  Decides : ℕ → Asked → ℕ → ℕ → Head
  -- an id is to be locked, from this word where one was found: id slot, what is sought, word
  Locks : ℕ → Sought → Option ℕ → Head
  -- the end of a range is waited for: id
  Joins : ℕ → Head
  -- the word of an `open` is waited for
  Opens : ℕ → Head
  Reads : Reading → Head
  -- behind a frame fault: link, how many bytes came
  Discards : ℕ → ℕ → Head

-- how a post ends
pub data Posting : Type 0 where
  -- the range has ended, or another attempt is current, or two errors are queued
  WasGone : Posting
  WasStale : Posting
  WasCrowded : ℕ → ℕ → Posting
  WasQueued : Posting
  -- the id is locked, and has this word
  HasLocked : ℕ → Posting

-- how an unlocking ends: the id is open, or stays locked with this word, and this error was taken out
pub data Unlocking : Type 0 where
  IsOpen : ℕ → Unlocking
  HasNext : ℕ → ℕ → Unlocking

-- how a decision ends: the call of this operation ended with this code, or its id is open again, and its next attempt is to be tried
pub data Deciding : Type 0 where
  HasEnded : ℕ → ℕ → Deciding
  GoesOn : Deciding

-- a retry that waits: the call's id, the attempt that is to be tried
pub record Retry : Type 0 where
  pub id : ℕ
  pub attempt : ℕ

-- how a locking ends: the word that was found isn't one that was sought, or the id is locked and has this word
pub data Locking : Type 0 where
  NotThere : ℕ → Locking
  Has : ℕ → Locking

-- how a reading ends: with its code, whether the link was closed, whether a frame fault ended it, and where it stood
pub record Ended : Type 0 where
  pub code : ℕ
  pub closed : Bool
  pub fault : Bool
  pub reading : Reading

abbrev pub Exit : Head → Type 0
Exit (Posts id e w) = Posting
Exit (Unlocks i w advance) = Unlocking
Exit (Decides id asked w e) = Deciding
Exit (Locks i sought w) = Locking
Exit (Joins id) = ℕ
Exit (Opens o) = ℕ
Exit (Reads r) = Ended
Exit (Discards k total) = ℕ
