-- Programs that begin nothing.
use Rattle.std.specs.Prelude.{ℕ, ◌≡◌, true}
use Rattle.corr_core.specs.IdSlotWord.{parts}
use Rattle.corr_core.specs.EndedByRangeOrAttempt.{ends_call}
use Rattle.sock_message.specs.Asked.{Asked}
use Rattle.seat_programs.specs.Asides.{Found, PutCall, TakeCall}
use Rattle.seat_programs.specs.TableSteps.{OnSlot, CreateLife}
use Rattle.seat_programs.specs.LoopHeads.{Posts, Decides, Locks, Opens, Reads, Discards, Posting, HasEnded, Locking, Ended}
use Rattle.sock_words.specs.ErrorCodes.{is_final}
use Rattle.seat_programs.specs.Programs.{Program, Do, Say, Rest, Aside, Round}

-- where the calls at home are of these operations: the program makes no life, puts no call home, ends each call on which it decides, and says outcomes of these operations alone
module _ (S : ℕ → Type 0) where
  abbrev pub IsCalm : Program → Type 0
  IsCalm (Do (OnSlot (CreateLife i k)) next) = ⊥
  IsCalm (Do call next) = (found : ℕ) → IsCalm (next found)
  IsCalm (Say o outcome next) = S o × IsCalm next
  IsCalm (Aside (PutCall i asked) next) = ⊥
  IsCalm (Aside (TakeCall i) next) = (asked : Asked) → S asked.operation → IsCalm (next asked)
  IsCalm (Aside step next) = (found : Found step) → IsCalm (next found)
  IsCalm (Round (Posts id e w) next) = (exit : Posting) → IsCalm (next exit)
  IsCalm (Round (Decides id asked w e) next) = (ends_call (parts w) e ≡ true) × S asked.operation × ((code : ℕ) → IsCalm (next (HasEnded asked.operation code)))
  IsCalm (Round (Locks i sought w) next) = (exit : Locking) → IsCalm (next exit)
  IsCalm (Round (Opens o) next) = (word : ℕ) → IsCalm (next word)
  IsCalm (Round (Reads r) next) = (how : Ended) → is_final how.code ≡ true → IsCalm (next how)
  IsCalm (Round (Discards k total) next) = (n : ℕ) → IsCalm (next n)
  IsCalm Rest = Unit {0}
  IsCalm other = ⊥
