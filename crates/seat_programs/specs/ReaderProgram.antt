-- The program of the reader of a link (bRPC's baidu_std.md for frames and correlation ids, bthread_id.md for who ends a call).
use Rattle.std.specs.Prelude.{ℕ, ◌+◌, ◌-◌, ◌==◌, ◌&&◌, Bool, true, false, List, [], ◌∷◌, ◌++◌, length, drop, filter, nat_lt, min, if◌then◌else◌, Option, Some, None}
use Rattle.sock_model.specs.sock_words.specs.ErrorCodes.{EEOF, ERESPONSE}
use Rattle.sock_model.specs.sock_words.specs.PackedWords.{socket_id_slot, at_word_first, at_word_slot, at_word_link, at_word_attempt, call_id, id_slot, id_first, NO_SOCKET}
use Rattle.corr_core.specs.IdSlotWord.{parts, error_of}
use Rattle.corr_core.specs.IdRangeVersions.{is_early}
use Rattle.sock_message.specs.brpc_model.specs.Meta.{ResponseMeta}
use Rattle.sock_message.specs.brpc_model.specs.Frame.{Frame}
use Rattle.sock_message.specs.brpc_model.specs.ResponseOutcome.{ending_of}
use Rattle.sock_message.specs.brpc_model.specs.FrameStream as streams
use Rattle.seat_programs.specs.TableSteps.{OnName, LoadOpen}
use Rattle.seat_programs.specs.Asides.{LoadAt, TakeCall, TakeBytes, Taking, Bytes, Nothing, Closed}
use Rattle.seat_programs.specs.LoopHeads.{Version, Reading, Locks, Opens, Reads, Discards, Posting, HasLocked, Locking, NotThere, Has, Ended}
use Rattle.seat_programs.specs.Programs.{Program, Do, Say, Rest, Aside, Round, add_reference, release, set_failed}
use Rattle.seat_programs.specs.PostPrograms.{post_with, decided, decide, end_id}

-- ## Responses

abbrev pub LIMIT : ℕ
LIMIT = 16777216

-- the frame has a response
abbrev pub has_response : Option ResponseMeta → Bool
has_response (Some r) = true
has_response None = false

abbrev pub slot_in : Frame → ℕ
slot_in frame = id_slot frame.meta.correlation_id

abbrev pub version_in : Frame → ℕ
version_in frame = id_first frame.meta.correlation_id

-- the call in hand ends with a response
abbrev pub answer : Frame → ℕ → Program → Program
answer frame first next = let i = slot_in frame in let id = call_id i first in
    Aside (TakeCall i) (λ asked. end_id i (Say asked.operation (ending_of id frame) next))

abbrev pub answered : Frame → List Frame → (List Frame → Program) → Locking → Program
answered frame kept k (NotThere found) = k (if is_early (version_in frame) (parts found) then kept ++ frame ∷ [] else kept)
answered frame kept k (Has word) = answer frame (parts word).first (k kept)

-- whole frames, one after another, over so many id slots
abbrev pub responses : ℕ → List Frame → List Frame → (List Frame → Program) → Program
responses ids [] kept k = k kept
responses ids (f ∷ fs) kept k =
    if has_response f.meta.response && nat_lt (slot_in f) ids
    then Round (Locks (slot_in f) (Version (version_in f)) None) (answered f kept (λ kept'. responses ids fs kept' k))
    else responses ids fs kept k

-- ## Reading

-- the last bytes, so many of them
abbrev pub last_of : ℕ → List ℕ → List ℕ
last_of n bytes = drop (length bytes - n) bytes

abbrev pub ended_by : ℕ → Bool → Bool → Reading → Ended
ended_by code closed fault r = record { code = code; closed = closed; fault = fault; reading = r }

-- behind the frames of the bytes: a rest, so that the reading goes on below its limit, or a fault
abbrev pub read_on : Reading → List ℕ → streams.Ending → (Ended → Program) → Program
read_on r bytes (streams.Rest n) k = let r' = record r { rest = last_of n bytes } in
    if nat_lt r.total LIMIT then Round (Reads r') k else k (ended_by EEOF false false r')
read_on r bytes (streams.Fault at fault) k = k (ended_by ERESPONSE false true r)

abbrev pub took_bytes : Reading → List ℕ → (Ended → Program) → Program
took_bytes r bytes k = let all = r.rest ++ bytes in let s = streams.stream all in
    responses r.ids s.frames r.kept (λ kept. read_on (record { ids = r.ids; link = r.link; id = r.id; rest = r.rest; total = r.total + length bytes; kept = kept }) all s.ending k)

abbrev pub took : Reading → (Ended → Program) → Taking → Program
took r k (Bytes bytes) = took_bytes r bytes k
took r k Nothing = Round (Reads r) k
took r k Closed = k (ended_by EEOF true false r)
took r k other = k (ended_by EEOF false false r)

abbrev pub room_of : ℕ → ℕ
room_of total = min 4096 (LIMIT - total)

abbrev pub reads_round : Reading → (Ended → Program) → Program
reads_round r k = Aside (TakeBytes r.link (room_of r.total)) (took r k)

abbrev pub discarded : ℕ → ℕ → (ℕ → Program) → Taking → Program
discarded k total next (Bytes bytes) = let n = total + length bytes in if nat_lt n LIMIT then Round (Discards k n) next else next n
discarded k total next Nothing = Round (Discards k total) next
discarded k total next other = next total

abbrev pub discards_round : ℕ → ℕ → (ℕ → Program) → Program
discards_round k total next = Aside (TakeBytes k (room_of total)) (discarded k total next)

abbrev pub opens_round : ℕ → (ℕ → Program) → Program
opens_round o k = Do (OnName (LoadOpen o)) (λ word. if word == 0 then Round (Opens o) k else k word)

-- ## The end of a reading

-- the first kept response of a version of the id, where the word has this range
abbrev pub kept_for : ℕ → ℕ → List Frame → List Frame
kept_for id range kept = filter (λ (f : Frame). (slot_in f == id_slot id) && (nat_lt id f.meta.correlation_id && nat_lt f.meta.correlation_id (id + range))) kept

abbrev pub ends_with : ℕ → ℕ → ℕ → List Frame → Program → Program
ends_with id e word [] next = decide id word e (decided id next)
ends_with id e word (f ∷ fs) next = answer f (id_first id) next

abbrev pub posted_last : ℕ → ℕ → List Frame → Program → Posting → Program
posted_last id e kept next (HasLocked word) = ends_with id e word (kept_for id (parts word).range kept) next
posted_last id e kept next other = next

-- the error is posted to the id in each call's at word that names the link
abbrev pub post_each : List ℕ → ℕ → ℕ → List Frame → Program → Program
post_each [] k code kept next = next
post_each (o ∷ os) k code kept next = Aside (LoadAt o) (λ w. let rest = post_each os k code kept next in
    if w == 0 then rest else if at_word_link w == k
    then (let id = call_id (at_word_slot w) (at_word_first w) in let e = error_of code (at_word_attempt w) in post_with id e (posted_last id e kept rest))
    else rest)

-- behind the posts, what comes after a frame fault is thrown away
abbrev pub thrown_away : Ended → Program
thrown_away how = if how.fault && nat_lt how.reading.total LIMIT then Round (Discards how.reading.link how.reading.total) (λ _. Rest) else Rest

abbrev pub read : List ℕ → Ended → Program
read calls how = let last = post_each calls how.reading.link how.code how.reading.kept (thrown_away how) in
    if how.closed then last
    else add_reference how.reading.id (set_failed how.reading.id how.code (λ _. release (socket_id_slot how.reading.id) (λ _. last))) (λ _. last)

-- ## The reader of link k, whose `open` is operation o

abbrev pub reader : List ℕ → ℕ → ℕ → Program
reader calls k o = Round (Opens o) (λ word. if word == NO_SOCKET then Rest
    else Round (Reads (record { ids = length calls; link = k; id = word - 1; rest = []; total = 0; kept = [] })) (read calls))
