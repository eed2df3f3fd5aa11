-- Ids that are made, locked and let go.
use Rattle.std.proofs.Common.{◌≡◌, ◌≢◌, ℕ, ◌+◌, ◌^◌, ◌<◌, ◌≤◌, ap, ◌∙◌, subst, sym, arith}
use Rattle.std.specs.Prelude.{Option as Maybe, true}
use mathlib.Core.Logic.{dite}
use native.Mathlib.Decide.{ℕ_discrete}
use Rattle.atomic_table.specs.Seated.{TableId}
use Rattle.atomic_table.specs.declared.shared.Seat.{Seat}
use Rattle.corr_core.specs.IdSlotWord.{Parts, parts}
use Rattle.corr_core.specs.declared.marks.Hand.TheVariants.{Empty}
use Rattle.corr_core.specs.IdSlotLaw.{LAST}
use Rattle.corr_core.specs.declared.marks.View.{View}
use Rattle.id_rule.specs.LawfulIdTable.{tokens_in, with_kept}
use Rattle.corr_id.specs.IdTableSeat.{Sits, Stays, IsFree}
use Rattle.corr_id.specs.SeatBehindIdCalls.{GotLock, MadeAs, Locks, Did, advance_note}
use Rattle.corr_id.proofs.TestingOneLock.{FreeBut, did_free, did_but, sits_on}
use Rattle.corr_id.specs.declared.calls.IdLock.{IdLock}
use Rattle.sock_message.specs.Asked.{Asked}
use Rattle.call_errors.specs.ClientBooks.{LetGo}
use Rattle.call_attempts.proofs.LeftByAttempt.{kept_free}
use Rattle.sock_words.specs.PackedWords.{id_slot, id_first}

-- no id is 0, and there is room for the versions of its attempts
pub id_some : (id : ℕ) → 1 ≤ id_first id → id ≢ 0
id_some id le e = omega arith

pub id_short : (id n : ℕ) → id_slot id < 65536 → n ≤ 6 → id + n + 1 < 2 ^ 64
id_short id n s l = omega arith

pub made_free : (slots id r : ℕ) (c : Asked) (v w : View Asked) → MadeAs v w slots id r c → IsFree v → IsFree w
made_free slots id r c v w m free = did_free (id_slot id) v w _ m.did (λ j n. free j)

-- its number was noted then
pub noted_free : (z : TableId) (s t u : Seat (Maybe Asked) (View Asked)) (slots id r x word : ℕ) (c : Asked) → Sits z s → IsFree s.me.0 → Stays s t → MadeAs s.me.0 t.me.0 slots id r c → Stays t u → u.me.0 ≡ with_kept x true word t.me.0 → Sits z u × IsFree u.me.0
noted_free z s t u slots id r x word c sits free st m tu e = kept_free z t u x true word (sits_on z s t st m.did.share sits) (made_free slots id r c s.me.0 t.me.0 m free) tu e

-- while a lock is in hand, there is nothing else
pub locked_but : (i word : ℕ) (k : Parts) (c : Asked) (v w : View Asked) → GotLock i v w word k c → IsFree v → FreeBut i w
locked_but i word k c v w g free = λ j n. g.did.others j n ∙ free j

pub let_go_free : (i : ℕ) (v w : View Asked) → LetGo i v w → FreeBut i v → IsFree w
let_go_free i v w l but = λ j. dite (ℕ_discrete j i) (λ e. ap (λ y. tokens_in y w) e ∙ l.nothing) (λ n. l.others j n ∙ but j n)

-- the version of a range that is locked fits an at word
pub version_low : (version first range : ℕ) → first ≤ LAST → range ≤ 8 → version < first + range → version < 67108864
version_low version first range a b lt = omega arith

-- the lock that is handed out instead of an open id
pub next_locks : (slots i : ℕ) (k : IdLock Asked) (c : Asked) (w : View Asked) → i < slots → k.slot ≡ i → k.content ≡ c → Locks i w (parts k.word.0) c Empty → (k.slot < slots) × Locks k.slot w (parts k.word.0) k.content Empty
next_locks slots i k c w lt slot content l = subst (λ (j : ℕ). (j < slots) × Locks j w (parts k.word.0) k.content Empty) (sym slot) (lt, subst (λ (d : Asked). Locks i w (parts k.word.0) d Empty) (sym content) l)

-- and of the others the seat has nothing still
pub next_but : (i : ℕ) (k : IdLock Asked) (c : Asked) (p : Parts) (u w : View Asked) → k.slot ≡ i → Did i u w (tokens_in i w) (advance_note i p (parts k.word.0)) → FreeBut i u → FreeBut k.slot w
next_but i k c p u w slot d but = did_but i k.slot u w _ _ slot d but
