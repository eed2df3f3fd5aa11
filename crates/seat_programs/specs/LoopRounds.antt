-- One round of each loop aside of the sockets' table.
use Rattle.std.specs.Prelude.{ℕ}
use Rattle.sock_model.specs.sock_words.specs.declared.kind.Kind.{Kind}
use Rattle.sock_model.specs.sock_words.specs.declared.kind.Kind.TheVariants.{I3, I4, I5, I6, I7, K1, S7, R1}
use Rattle.std.specs.Prelude.{Option, Some, None, if◌then◌else◌}
use Rattle.corr_core.specs.IdSlotWord.{parts}
use Rattle.corr_core.specs.EndedByRangeOrAttempt.{ends_call}
use Rattle.seat_programs.specs.LoopHeads.{Head, Exit, Posts, Unlocks, Decides, Locks, Joins, Opens, Reads, Discards}
use Rattle.seat_programs.specs.Programs.{Program, Write, Round}
use Rattle.seat_programs.specs.SendAndWritePrograms.{block}
use Rattle.seat_programs.specs.PostPrograms.{posts_round, unlocks_round, decides_round, locks_round, joins_round}
use Rattle.seat_programs.specs.ReaderProgram.{opens_round, reads_round, discards_round}

abbrev pub round : (head : Head) → (Exit head → Program) → Program
round (Posts id e w) k = posts_round id e w k
round (Unlocks i w advance) k = unlocks_round i w advance k
round (Decides id asked w e) k = decides_round id asked w e k
round (Locks i sought w) k = locks_round i sought w k
round (Joins id) k = joins_round id k
round (Opens o) k = opens_round o k
round (Reads r) k = reads_round r k
round (Discards l total) k = discards_round l total k

-- the program from its first step on: at the head of a loop it is that of the next round
abbrev pub first_step : Program → Program
first_step (Write w after) = block w after
first_step (Round head next) = round head next
first_step other = other

-- the kind of its first step
abbrev pub kind_of_lock : Option ℕ → Kind
kind_of_lock (Some w) = I3
kind_of_lock None = I7

abbrev pub kind_of_round : Head → Kind
kind_of_round (Posts id e w) = I4
kind_of_round (Unlocks i w advance) = I5
kind_of_round (Decides id asked w e) = if ends_call (parts w) e then I6 else K1
kind_of_round (Locks i sought w) = kind_of_lock w
kind_of_round (Joins id) = I7
kind_of_round (Opens o) = S7
kind_of_round (Reads r) = R1
kind_of_round (Discards k total) = R1
