-- How a loop on a call id goes on behind a step, as the programs have it: it has ended, or makes one more round.
use Rattle.std.specs.Prelude.{ℕ, Option, option_map}
use Rattle.seat_programs.specs.LoopHeads.{Sought, First, Version, Posts, Unlocks, Locks, Posting, WasGone, WasStale, WasCrowded, WasQueued, HasLocked, Unlocking, IsOpen, HasNext, Locking, NotThere, Has}
use Rattle.seat_programs.specs.Programs.{Program, Round}
use Rattle.sock_words.specs.declared.id_word.IdWord.{IdWord}
use Rattle.id_points.specs.declared.posting.PostTurn.{PostTurn}
use Rattle.id_points.specs.declared.posting.PostTurn.TheVariants as posts
use Rattle.id_points.specs.declared.unlocking.UnlockTurn.{UnlockTurn}
use Rattle.id_points.specs.declared.unlocking.UnlockTurn.TheVariants as unlocks
use Rattle.id_points.specs.declared.locking.LockTurn.{LockTurn}
use Rattle.id_points.specs.declared.locking.LockTurn.TheVariants as locks
use Rattle.id_points.specs.declared.locking.Sought as sought

-- a post of error e to this id
abbrev pub post_on : ℕ → ℕ → (Posting → Program) → PostTurn → Program
post_on id e k posts.Gone = k WasGone
post_on id e k posts.Stale = k WasStale
post_on id e k (posts.Crowded a b) = k (WasCrowded a b)
post_on id e k posts.Queued = k WasQueued
post_on id e k (posts.Locked word) = k (HasLocked word.0)
post_on id e k (posts.Again from) = Round (Posts id e from.0) k

-- a lock given back in this slot
abbrev pub unlock_on : ℕ → (Unlocking → Program) → UnlockTurn → Program
unlock_on i k (unlocks.Open word) = k (IsOpen word.0)
unlock_on i k (unlocks.Next word e) = k (HasNext word.0 e.0)
unlock_on i k (unlocks.Again from advance) = Round (Unlocks i from.0 advance) k

-- what is sought, as the programs have it
abbrev pub sought_as : sought.Sought → Sought
sought_as (sought.TheVariants.First first) = First first
sought_as (sought.TheVariants.Version version) = Version version

-- the word from which a lock is tried
abbrev pub word_of : Option IdWord → Option ℕ
word_of from = option_map (λ (w : IdWord). w.0) from

-- a lock sought in this slot
abbrev pub lock_on : ℕ → Sought → (Locking → Program) → LockTurn → Program
lock_on i s k (locks.NotThere word) = k (NotThere word.0)
lock_on i s k (locks.Has word) = k (Has word.0)
lock_on i s k (locks.Again from) = Round (Locks i s (word_of from)) k
