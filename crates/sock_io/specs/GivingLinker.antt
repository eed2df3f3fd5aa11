-- A linker in memory whose links give stated bytes or none, by what callers see of it.
use Rattle.std.specs.Prelude.{ℕ, ◌&&◌, nat_le, Bool, true, false, if◌then◌else◌, List, ◌++◌, length}
use Rattle.sock_io.specs.declared.ending.Ending.TheVariants as ending
use Rattle.sock_io.specs.declared.give_in.GiveIn.{GiveIn}
use Rattle.sock_io.specs.LinkHalves.{InState}
use Rattle.sock_io.specs.MemoryLinker.{MemLinksState}
use Rattle.sock_io.specs.LinksInMemory.{MemInState, closing, empty_in, is_open, mem_in}

-- what a reading half gave, what waits to be taken and what comes behind
abbrev pub given_half : GiveIn → MemInState
given_half i = i.inner

-- whether the stated bytes are still to come
abbrev pub still_to_come : GiveIn → Bool
still_to_come i = i.waits

-- such a half as a reading half, whose other end offers nothing that it would tell
abbrev pub give_in : GiveIn → InState
give_in i = mem_in i.inner

-- a half of a link: the bytes are to come
abbrev pub before_bytes : GiveIn
before_bytes = record { inner = empty_in ending.Open; waits = true }

-- a half of a connection: the bytes wait, and behind them stands the end
abbrev pub bytes_and_end : List ℕ → GiveIn
bytes_and_end bytes = record { inner = record (empty_in ending.Ended) { waiting = bytes }; waits = false }

-- where so many bytes were taken as are asked for, and the half is open, the bytes come, once
abbrev pub with_bytes : (due : Bool) → List ℕ → GiveIn → GiveIn
with_bytes due bytes i = if i.waits && due && is_open i.inner.ending then record { inner = record i.inner { waiting = i.inner.waiting ++ bytes }; waits = false } else i

-- once the link was finished the other end closes its half, and no bytes are to come any more
abbrev pub with_closing : (finished : Bool) → GiveIn → GiveIn
with_closing finished i = if finished then record { inner = record i.inner { ending = closing i.inner.ending }; waits = false } else i

-- what a half is, once it was settled over a link that took these bytes
abbrev pub settled_in : (after : ℕ) (bytes took : List ℕ) (finished : Bool) → GiveIn → GiveIn
settled_in after bytes took finished i = with_closing finished (with_bytes (nat_le after (length took)) bytes i)

-- its links, the put from which on they fail where it isn't asked for, after how many bytes that a link took its stated bytes come, and these
pub record GiveLinkerState : Type 0 where
  pub links : MemLinksState
  pub fail_put : ℕ
  pub after : ℕ
  pub bytes : List ℕ
