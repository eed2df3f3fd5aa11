-- What a post says, by its answer.
use Rattle.std.specs.Prelude.{◌≡◌, ◌≢◌, ℕ, ◌<◌, ◌≤◌, ◌⊎◌, Some, None}
use Rattle.std.specs.Prelude.{Option as Maybe}
use Rattle.corr_core.specs.IdSlotWord.{parts, code_of}
use Rattle.corr_core.specs.declared.marks.Note.TheVariants.{Queued}
use Rattle.corr_core.specs.declared.marks.View.{View}
use Rattle.corr_id.specs.declared.posts.Posted.{Posted}
use Rattle.corr_id.specs.declared.posts.Posted.TheVariants.{Locked as HasLock, Queued as IsQueued, Gone, Stale, Crowded}
use Rattle.id_rule.specs.LawfulIdTable.{tokens_in}
use Rattle.corr_id.specs.SeatBehindIdCalls.{one, Quiet, Did, GotLock, HasId, LacksId, Found, FoundNow, FoundUpTo, LockedNow, error_in}
use Rattle.sock_words.specs.PackedWords.{id_slot, id_first}

-- another attempt is current
abbrev pub IsStale : Maybe ℕ → ℕ → Type 0
IsStale None current = ⊥
IsStale (Some n) current = n ≢ current

abbrev pub IsTimely : Maybe ℕ → ℕ → Type 0
IsTimely None current = Unit {0}
IsTimely (Some n) current = n ≡ current

module _ {C : Type 0} (slots : ℕ) (u w : View C) (id code : ℕ) (attempt : Maybe ℕ) where
  -- the word that was found had the id locked, with room for the error; and none that the seat found there had a later range
  abbrev pub WasQueued : ℕ → Type 0
  WasQueued word = Found (id_slot id) word w × HasId (parts word) (id_first id) × ((parts word).state ≡ 2) × ((parts word).second ≡ 0) × IsTimely attempt (parts word).attempt × FoundUpTo (id_slot id) (id_first id) w

  -- or it had two errors queued, with these codes
  abbrev pub WasCrowded : ℕ → ℕ → ℕ → Type 0
  WasCrowded first second word =
      Found (id_slot id) word w × HasId (parts word) (id_first id) × ((parts word).state ≡ 2) × ((parts word).second ≢ 0) × IsTimely attempt (parts word).attempt × (code_of (parts word).oldest ≡ first) × (code_of (parts word).second ≡ second)

  abbrev pub PostOk : Posted C → Type 0
  PostOk (HasLock k) = (k.slot ≡ id_slot id) × (k.slot < slots) × ((parts k.word.0).first ≡ id_first id) × IsTimely attempt (parts k.word.0).attempt × ((word : ℕ) × GotLock k.slot u w word (parts k.word.0) k.content)
  PostOk IsQueued = Did (id_slot id) u w (tokens_in (id_slot id) u) (one (id_slot id) (Queued (id_first id) (error_in code attempt))) × ((word : ℕ) × WasQueued word)
  PostOk (Gone found) = Quiet u w × (((slots ≤ id_slot id) × (found ≡ 0)) ⊎ (Found (id_slot id) found w × LacksId (parts found) (id_first id)))
  PostOk (Stale current) = Quiet u w × IsStale attempt current × ((word : ℕ) × Found (id_slot id) word w × HasId (parts word) (id_first id) × ((parts word).attempt ≡ current))
  PostOk (Crowded first second) = Quiet u w × ((word : ℕ) × WasCrowded first second word)

  -- the word of which the answer tells is one that this call found
  abbrev pub PostedNow : Posted C → Type 0
  PostedNow (HasLock k) = LockedNow k.slot u w (parts k.word.0)
  PostedNow IsQueued = (word : ℕ) × FoundNow (id_slot id) word u w × WasQueued word
  PostedNow (Gone found) = id_slot id < slots → FoundNow (id_slot id) found u w
  PostedNow (Stale current) = (word : ℕ) × FoundNow (id_slot id) word u w × HasId (parts word) (id_first id) × ((parts word).attempt ≡ current)
  PostedNow (Crowded first second) = (word : ℕ) × FoundNow (id_slot id) word u w × WasCrowded first second word
