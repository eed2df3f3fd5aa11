-- Programs that store each life that they make in the word of an operation of their own, and the words that they leave alone.
use Rattle.std.proofs.Common.{◌≡◌, ℕ, ◌+◌, ◌<◌, ◌==◌, ◌&&◌, not, Bool, true, List, get_or, refl, sym, ap, arith}
use mathlib.Core.Option.{Option, some, none, some-ne-none}
use Rattle.sock_words.specs.PackedWords.{socket_id, vref_version}
use Rattle.sock_words.specs.declared.plain.Plan.{Plan}
use Rattle.sock_model.specs.declared.view.View.{View}
use Rattle.sock_model.specs.SocketTableLayout.{open_index}
use Rattle.seat_programs.specs.TableSteps.{TableStep, OnSlot, OnName, CreateLife, StoreOpen, LoadOpen}
use Rattle.seat_programs.specs.LoopHeads.{Head, Retry, Opens}
use Rattle.seat_programs.specs.Programs.{Program, Do, Say, Sent, Write, Round, Keep, Retries}
use Rattle.seat_programs.specs.TableWords.{OpenOf}
use Rattle.seat_programs.specs.StepTables.{word_of, word_after}
use Rattle.seat_programs.specs.Cores.{found_at, words_after, next_step, resolved}
use Rattle.seat_programs.specs.StepTables.{May}
use Rattle.sock_runs.specs.program_steps.proofs.WordFrame.{load_leaves, word_stays}
use Rattle.sock_runs.specs.program_steps.proofs.AtCalls.{AtCalls, every_exit}
use Rattle.seat_programs.specs.LoopRounds.{first_step}

-- ## What a program stores in the words of operations

-- the operation, and the word
abbrev pub stores : TableStep → Option (ℕ × ℕ)
stores (OnName (StoreOpen o w)) = some (o, w)
stores _ = none

abbrev pub next_stores : Program → Option (ℕ × ℕ)
next_stores (Do call next) = stores call
next_stores _ = none

-- the `open` whose word a step loads, and for which a loop waits
abbrev pub loads : TableStep → Option ℕ
loads (OnName (LoadOpen o)) = some o
loads _ = none

abbrev pub awaits : Head → Option ℕ
awaits (Opens o) = some o
awaits _ = none

-- the operations of `left` but this one
abbrev pub but : ℕ → (ℕ → Bool) → ℕ → Bool
but o left x = left x && not (x == o)

-- it stores only words of the operations of `left`, each at most once, and of each life that it makes at once
abbrev pub RecordsAt : (ℕ → Bool) → TableStep → (ℕ → Program) → ((ℕ → Bool) → ℕ → Type 0) → Type 0
RecordsAt left (OnSlot (CreateLife i k)) next behind = (found : ℕ) → ((o : ℕ) × (next_stores (next found) ≡ some (o, socket_id (vref_version found) i + 1))) × behind left found
RecordsAt left (OnName (StoreOpen o w)) next behind = (left o ≡ true) × ((found : ℕ) → behind (but o left) found)
RecordsAt left call next behind = (found : ℕ) → behind left found

abbrev pub Records : (ℕ → Bool) → Program → Type 0
Records left program = AtCalls (Unit {0}) RecordsAt every_exit left program

pub next_stored : (ws : List Retry) (program : Program) (x : ℕ × ℕ) → next_stores program ≡ some x → next_stores (next_step (resolved ws program)) ≡ some x
next_stored ws (Say o outcome next) x e = absurd (some-ne-none x (sym e))
next_stored ws (Sent o next) x e = absurd (some-ne-none x (sym e))
next_stored ws (Keep r next) x e = absurd (some-ne-none x (sym e))
next_stored ws (Retries requests after) x e = absurd (some-ne-none x (sym e))
next_stored ws (Do call next) x e = e
next_stored ws _ x e = absurd (some-ne-none x (sym e))

-- who stores next isn't at the head of a loop
pub first_stored : (program : Program) (x : ℕ × ℕ) → next_stores program ≡ some x → next_stores (first_step program) ≡ some x
first_stored (Write w after) x e = absurd (some-ne-none x (sym e))
first_stored (Round head next) x e = absurd (some-ne-none x (sym e))
first_stored _ x e = e

-- ## Words of operations

-- a step that stores in none leaves them all
pub opens_same : (p : Plan) (ws : List ℕ) (v : View) (o : ℕ) → o < p.operations → (call : TableStep) → May p v call → stores call ≡ none
    → get_or (words_after ws (word_of p call) (word_after call (found_at ws (word_of p call)))) (open_index p o) 0 ≡ get_or ws (open_index p o) 0
opens_same p ws v o inside (OnName (StoreOpen n w)) may none_ = absurd (some-ne-none (n, w) none_)
opens_same p ws v o inside (OnName (LoadOpen n)) may none_ = ap (λ l. get_or l (open_index p o) 0) (load_leaves p ws (some (OpenOf n)))
opens_same p ws v o inside call may none_ = word_stays p ws v call may (word_after call (found_at ws (word_of p call))) (OpenOf o) inside (omega arith) refl
