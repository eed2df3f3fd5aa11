-- The programs on calls: a call with its first attempt, a retry, `expire`, `join` (bRPC's bthread_id.md: `bthread_id_create_ranged`,
-- `bthread_id_join`; baidu_std.md for the frame).
use Rattle.std.specs.Prelude.{ℕ, zero, suc, ◌+◌, ◌-◌, ◌*◌, ◌/◌, ◌%◌, ◌==◌, List, None, false, if◌then◌else◌}
use Rattle.sock_model.specs.sock_words.specs.ErrorCodes.{EFAILEDSOCKET, EREQUESTS, ERPCTIMEDOUT}
use Rattle.sock_model.specs.sock_words.specs.PackedWords.{socket_id_version, socket_id_slot, vref_version, at_word, call_id, id_slot, id_first}
use Rattle.sock_model.specs.sock_words.specs.declared.outcome.Outcome.{Outcome}
use Rattle.sock_model.specs.sock_words.specs.declared.outcome.Outcome.TheVariants.{Unopened, Expired, Queued, Late, Crowded, Joined, NotBegun}
use Rattle.corr_core.specs.IdSlotWord.{parts, error_of}
use Rattle.corr_core.specs.EndedByRangeOrAttempt.{WHOLE}
use Rattle.sock_model.specs.declared.chain.Heading.{Heading}
use Rattle.sock_model.specs.MessageLabels.{attempt_label}
use Rattle.sock_message.specs.Asked.{Asked, name_of, frame_of, parts_of}
use Rattle.seat_programs.specs.TableSteps.{OnSlot, OnName, OnChain, LookWord, FindLink, ClaimRequest, LoadName}
use Rattle.seat_programs.specs.Asides.{ClaimId, PutCall, MakeId, StoreCall, LoadCall, StoreAt, TakeCall}
use Rattle.seat_programs.specs.LoopHeads.{First, Unlocks, Locks, Joins, Posting, WasGone, WasStale, WasCrowded, WasQueued, HasLocked, Unlocking, IsOpen, HasNext, Locking, NotThere, Has}
use Rattle.seat_programs.specs.Programs.{Program, Do, Say, Aside, Round, add_reference, release}
use Rattle.seat_programs.specs.PostPrograms.{post, post_with, posted, decide, decided}
use Rattle.seat_programs.specs.SendAndWritePrograms.{accept}

-- ## A message over a held life

-- the first free of so many requests from q on is claimed; what follows where none is, and where the message is accepted and written
abbrev pub claims_from : ℕ → ℕ → ℕ → Heading → List ℕ → Program → Program → Program
claims_from zero q id heading bytes full accepted = full
claims_from (suc more) q id heading bytes full accepted = Do (OnChain (ClaimRequest id q)) (λ found.
    if found % 2 == 0 then accept id q (found / 2) heading bytes accepted else claims_from more (q + 1) id heading bytes full accepted)

-- ## Attempts

-- what stands with its message: it is put by the parts of its frame, the header with the meta before the payload and the attachment
abbrev pub heading_for : Asked → ℕ → ℕ → Heading
heading_for asked id n = record { label = attempt_label asked.operation n; owner = id; parts = parts_of asked id n }

-- an attempt over the socket with this id
abbrev pub attempt : ℕ → Asked → ℕ → ℕ → ℕ → Program → Program
attempt requests asked id n socket next = let i = socket_id_slot socket in
    add_reference socket (Do (OnSlot (FindLink i (socket_id_version socket))) (λ k. Aside (StoreAt asked.operation (at_word (id_first id) (id_slot id) k n)) (λ _. Do (OnSlot (LookWord socket)) (λ found.
    if vref_version found % 2 == 0
    then claims_from requests 0 socket (heading_for asked id n) (frame_of asked id n) (post id EREQUESTS n (release i (λ _. next))) (release i (λ _. next))
    else post id EFAILEDSOCKET n (release i (λ _. next))))))
    (λ _. post id EFAILEDSOCKET n next)

-- ## Operations

-- the call with an id
abbrev pub begin_call : ℕ → ℕ → ℕ → Asked → Program → Program
begin_call requests socket i asked next = Aside (PutCall i asked) (λ _. Aside (MakeId i asked.range) (λ found.
    let id = call_id i (parts found).first in Aside (StoreCall asked.operation id) (λ _. attempt requests asked id 0 socket next)))

-- the first free of so many id slots from i on is claimed
abbrev pub claim_id : ℕ → ℕ → ℕ → ℕ → Asked → Program → Program
claim_id zero i requests socket asked next = next
claim_id (suc more) i requests socket asked next = Aside (ClaimId i) (λ found.
    if found == 0 then begin_call requests socket i asked next else claim_id more (i + 1) requests socket asked next)

abbrev pub call : ℕ → ℕ → Asked → Program → Program
call requests ids asked next = Do (OnName (LoadName (name_of asked 0))) (λ word.
    if word == 0 then Say asked.operation Unopened next else claim_id ids 0 requests (word - 1) asked next)

-- a retry that waited
abbrev pub tried_again : ℕ → ℕ → ℕ → Asked → Program → Unlocking → Program
tried_again requests id n asked next (IsOpen w) = Do (OnName (LoadName (name_of asked n))) (λ word.
    if word == 0 then post id EFAILEDSOCKET n next else attempt requests asked id n (word - 1) next)
tried_again requests id n asked next (HasNext w e) = decide id w e (decided id next)

abbrev pub retry_locked : ℕ → ℕ → ℕ → Program → Locking → Program
retry_locked requests id n next (NotThere w) = next
retry_locked requests id n next (Has w) = Aside (TakeCall (id_slot id)) (λ asked. Aside (PutCall (id_slot id) asked) (λ _.
    Round (Unlocks (id_slot id) w false) (tried_again requests id n asked next)))

abbrev pub retry : ℕ → ℕ → ℕ → Program → Program
retry requests id n next = Round (Locks (id_slot id) (First (id_first id)) None) (retry_locked requests id n next)

-- `expire` of the call that is operation t
abbrev pub expire_outcome : Posting → Outcome
expire_outcome WasGone = Late
expire_outcome WasStale = Late
expire_outcome (WasCrowded a b) = Crowded a b
expire_outcome WasQueued = Queued
expire_outcome (HasLocked w) = Expired

abbrev pub expire : ℕ → ℕ → Program → Program
expire o t next = Aside (LoadCall t) (λ id. if id == 0 then Say o NotBegun next else
    let e = error_of ERPCTIMEDOUT WHOLE in post_with id e (λ how. posted id e (Say o (expire_outcome how) next) how))

abbrev pub join : ℕ → ℕ → Program → Program
join o t next = Aside (LoadCall t) (λ id. if id == 0 then Say o NotBegun next else Round (Joins id) (λ _. Say o Joined next))
