-- What a step aside of the sockets finds, and what it changes there.
use Rattle.std.specs.Prelude.{ℕ, ◌+◌, ◌==◌, Bool, true, if◌then◌else◌, [], ◌++◌, slice_index, slice_index_or, slice_set}
use Rattle.std.specs.Prelude as std
use mathlib.Core.Option.{Option, some, none}
use lib.ListN.{get_elem?}
use Rattle.corr_core.specs.IdSlotWord.{parts, made_word, posted_word, unlocked_word, free_word}
use Rattle.id_rule.specs.LawfulIdTable.{tag_index, id_index, call_index, at_index}
use Rattle.sock_message.specs.Asked.{Asked}
use Rattle.seat_programs.specs.Asides.{Step, ClaimId, PutCall, MakeId, StoreCall, LoadCall, StoreAt, LoadAt, LoadIdWord, LockId, PostId, UnlockId, EndId, FreeId, TakeCall, TakeBytes, Found, Taking, Bytes, Nothing, NoMore}
use Rattle.seat_programs.specs.PostPrograms.{packed}
use Rattle.seat_programs.specs.Cores.{Calls}
use Rattle.sock_model.specs.sock_words.specs.PackedWords.{bit}

-- what lies at the home of a call
abbrev pub call_at : Option (Option (std.Option Asked)) → Option Asked
call_at (some (some (std.Some asked))) = some asked
call_at other = none

-- where the run is ending, what isn't there won't come
abbrev pub at_last : Bool → Taking → Taking
at_last true Nothing = NoMore
at_last ending t = t

abbrev pub taking_in : Bool → Option Taking → Option Taking
taking_in ending none = none
taking_in ending (some t) = some (at_last ending t)

abbrev pub tag_at : Calls → ℕ → Option ℕ
tag_at a i = some (slice_index a.words (tag_index i))

abbrev pub word_at : Calls → ℕ → Option ℕ
word_at a i = some (slice_index a.words (id_index i))

-- what the step finds, where its link was answered this
abbrev pub found_in : (step : Step) → Calls → Option Taking → Option (Found step)
found_in (ClaimId i) a t = tag_at a i
found_in (PutCall i asked) a t = tag_at a i
found_in (MakeId i range) a t = word_at a i
found_in (StoreCall o id) a t = some (slice_index a.words (call_index a.plan o))
found_in (LoadCall o) a t = some (slice_index a.words (call_index a.plan o))
found_in (StoreAt o w) a t = some (slice_index a.words (at_index a.plan o))
found_in (LoadAt o) a t = some (slice_index a.words (at_index a.plan o))
found_in (LoadIdWord i) a t = word_at a i
found_in (LockId i from) a t = word_at a i
found_in (PostId i from e) a t = word_at a i
found_in (UnlockId i from advance) a t = word_at a i
found_in (EndId i) a t = word_at a i
found_in (FreeId i) a t = tag_at a i
found_in (TakeCall i) a t = call_at (get_elem? a.homes i)
found_in (TakeBytes k room) a t = taking_in a.ending t

-- one word of the table of ids becomes this
abbrev pub with_word : ℕ → ℕ → Calls → Calls
with_word x w a = record a { words = slice_set a.words x w }

-- where it was the one expected
abbrev pub exchanged : ℕ → ℕ → ℕ → ℕ → Calls → Calls
exchanged i from found w a = with_word (id_index i) (if found == from then w else found) a

abbrev pub more_given : ℕ → Taking → Calls → Calls
more_given k (Bytes bytes) a = record a { gave = slice_set a.gave k (slice_index_or a.gave k [] ++ bytes) }
more_given k other a = a

-- what the step changes, by what it found
abbrev pub calls_after : (step : Step) → Found step → Calls → Calls
calls_after (ClaimId i) found a = with_word (tag_index i) 1 a
calls_after (PutCall i asked) found a = record a { homes = slice_set a.homes i (some (std.Some asked)) }
calls_after (MakeId i range) found a = with_word (id_index i) (packed (made_word (parts found).first range)) a
calls_after (StoreCall o id) found a = with_word (call_index a.plan o) id a
calls_after (LoadCall o) found a = a
calls_after (StoreAt o w) found a = with_word (at_index a.plan o) w a
calls_after (LoadAt o) found a = a
calls_after (LoadIdWord i) found a = a
calls_after (LockId i from) found a = exchanged i from found (packed (posted_word (parts from) 0)) a
calls_after (PostId i from e) found a = exchanged i from found (packed (posted_word (parts from) e)) a
calls_after (UnlockId i from advance) found a = exchanged i from found (packed (unlocked_word (parts from) (bit advance))) a
calls_after (EndId i) found a = with_word (id_index i) (packed (free_word ((parts found).first + (parts found).range))) a
calls_after (FreeId i) found a = with_word (tag_index i) 0 a
calls_after (TakeCall i) found a = record a { homes = slice_set a.homes i (some std.None) }
calls_after (TakeBytes k room) found a = more_given k found a
