-- A call ends with a code.
use Rattle.std.specs.Prelude.{ℕ, []}
use Rattle.corr_core.specs.IdSlotWord.{parts}
use Rattle.corr_core.specs.declared.marks.Note.TheVariants.{Ended}
use Rattle.sock_words.specs.declared.outcome.Outcome.TheVariants.{CallFailed}
use Rattle.sock_message.specs.Asked.{Asked}
use Rattle.corr_id.specs.declared.calls.IdLock.{IdLock}
use Rattle.corr_id.specs.SeatBehindIdCalls.{Became, one}
use Rattle.rpc_client.specs.declared.acting.Told.{Told}
use Rattle.call_errors.specs.ClientBooks.{CallStand, Tells}
use Rattle.call_errors.specs.LockingByVersion.{id_in}

-- the outcome of the call whose id is locked
abbrev pub failed : IdLock Asked → ℕ → Told
failed k code = record { number = k.content.operation; outcome = CallFailed (id_in k) code }

-- the range of the lock ended, and that is told
pub record EndedWith (k : IdLock Asked) (code : ℕ) (s t : CallStand) : Type 0 where
  pub ended : Became k.slot s.view t.view [] (one k.slot (Ended (parts k.word.0).first (parts k.word.0).attempt))
  pub tells : Tells (failed k code) s.books t.books
