-- The program of a `send`, and of whoever writes a link: each loop unrolled by one round.
use Rattle.std.specs.Prelude.{ℕ, zero, suc, ◌+◌, ◌*◌, ◌/◌, ◌%◌, ◌==◌, true, false, List, [], length, drop, nat_lt, nat_le, if◌then◌else◌}
use Rattle.sock_model.specs.sock_words.specs.ErrorCodes.{EFAILEDSOCKET}
use Rattle.sock_model.specs.sock_words.specs.PackedWords.{socket_id_version, socket_id_slot, vref_version, ticket_request, ticket_generation, IDLE, UNCONNECTED}
use Rattle.sock_model.specs.sock_words.specs.declared.outcome.Outcome.TheVariants.{Unopened, Gone, Full}
use Rattle.sock_io.specs.declared.link.Put.{Put}
use Rattle.sock_io.specs.declared.link.Put.TheVariants as puts
use Rattle.sock_io.specs.declared.link.Ready.{Ready}
use Rattle.sock_io.specs.declared.link.Ready.TheVariants as asks
use Rattle.sock_model.specs.declared.chain.Heading.{Heading}
use Rattle.sock_model.specs.Entries.{ticket_of}
use Rattle.seat_programs.specs.TableSteps.{OnSlot, OnChain, OnPlace, OnMessage, LookWord, FindLink, LoadCode, ClaimRequest, PutMessage, Unconnect, SwapHead, Connect, EmptyHead, ReadNext, ReverseNext, FreeRequest, StorePlace, DropPlace}
use Rattle.seat_programs.specs.Writings.{Holder, Writing, Puts, Waits, Empties, Reversing}
use Rattle.seat_programs.specs.BufferParts.{part}
use Rattle.seat_programs.specs.Programs.{Program, Do, Say, Sent, TakeMessage, TakeHome, PutHome, PutBytes, AskReady, Write, LAST_GENERATION, find_socket, release, set_failed}
use Rattle.seat_programs.specs.PostPrograms.{post}

-- ## Writing

-- the request of a message that has its place is given back, but for one of the last generation
abbrev pub freed : ℕ → Program → Program
freed now next = if ticket_generation now == LAST_GENERATION then next else Do (OnChain (FreeRequest (ticket_request now) (ticket_generation now))) (λ _. next)

-- one place more was given
abbrev pub one_more : Holder → Holder
one_more h = record h { places = h.places + 1 }

-- the message of ticket `now` has its place, and what is told of it comes first: the head is tried next, or the message that follows is taken
abbrev pub passed_telling : Holder → ℕ → (Program → Program) → Program → Program
passed_telling h now tells after = if now == h.last then freed now (tells (Write (Empties h) after))
    else Do (OnChain (ReadNext (ticket_request now))) (λ next. freed now (tells (TakeMessage (ticket_request next) (λ heading bytes. Write (Puts h next heading bytes 0 false) after))))

abbrev pub passed : Holder → ℕ → Program → Program
passed h now after = passed_telling h now (λ next. next) after

-- the call whose message was dropped is posted the code, or 1009 where none was stored yet
abbrev pub tell_drop : Heading → ℕ → Program → Program
tell_drop heading code next = if heading.owner == 0 then next else post heading.owner (if code == 0 then EFAILEDSOCKET else code) heading.label.attempt next

abbrev pub placed : Holder → ℕ → Heading → Program → Program
placed h now heading after = Do (OnPlace (StorePlace heading.label.place h.link h.places)) (λ _. passed (one_more h) now after)

abbrev pub dropped : Holder → ℕ → Heading → Program → Program
dropped h now heading after = Do (OnSlot (LoadCode (socket_id_slot h.id) (socket_id_version h.id))) (λ code. Do (OnPlace (DropPlace heading.label.place h.link h.places)) (λ _. passed_telling (one_more h) now (tell_drop heading code) after))

-- a failed link sets its socket failed
abbrev pub link_failed : Holder → Program → Program
link_failed h next = set_failed h.id EFAILEDSOCKET (λ _. next)

-- what follows a put into the link
abbrev pub put_answered : Holder → ℕ → Heading → List ℕ → ℕ → Program → Put → Program
put_answered h now heading left taken after (puts.Took n) =
    if nat_le (length left) n then placed h now heading after else Write (Puts h now heading (drop n left) (taken + n) false) after
put_answered h now heading left taken after puts.Again = Write (Waits h now heading left taken) after
put_answered h now heading left taken after puts.Failed = link_failed h (Write (Puts h now heading left taken false) after)

-- and the question after a put that was answered `Again`
abbrev pub ready_answered : Holder → ℕ → Heading → List ℕ → ℕ → Program → Ready → Program
ready_answered h now heading left taken after asks.Now = Write (Puts h now heading left taken true) after
ready_answered h now heading left taken after asks.NotYet = Write (Waits h now heading left taken) after
ready_answered h now heading left taken after asks.Failed = link_failed h (Write (Puts h now heading left taken false) after)

-- one round from the head of a loop. A look comes before each put; what a failed socket still has is dropped (bRPC's socket.cpp, `KeepWrite`,
-- `IsWriteComplete`, `ReleaseAllFailedWriteRequests`; io.md).
abbrev pub block : Writing → Program → Program
block (Puts h now heading left taken asked) after = Do (OnSlot (LookWord h.id)) (λ found.
    if vref_version found % 2 == 0 then PutBytes h.link asked (part heading.parts left taken) (put_answered h now heading left taken after)
    else dropped h now heading after)
block (Waits h now heading left taken) after = AskReady h.link (ready_answered h now heading left taken after)
block (Empties h) after = PutHome h.link h.places (Do (OnChain (EmptyHead (socket_id_slot h.id) h.last)) (λ found.
    if found == h.last then after else TakeHome h.link (λ places. Write (Reversing (record h { places = places }) found found 0) after)))
block (Reversing h top at after) then_ = Do (OnChain (ReadNext (ticket_request at))) (λ found.
    if found == UNCONNECTED then Write (Reversing h top at after) then_
    else Do (OnChain (ReverseNext (ticket_request at) after)) (λ _.
    if found == h.last then TakeMessage (ticket_request at) (λ heading bytes. Write (Puts (record h { last = top }) at heading bytes 0 false) then_)
    else Write (Reversing h top found at) then_))

-- ## Sending

-- the first look and the one put behind it (socket.cpp, `StartWrite`: the caller writes once in place); where the socket was found failed, the loop begins with a look of its own
abbrev pub first_put : Holder → ℕ → Heading → List ℕ → Program → Program
first_put h now heading bytes after = Do (OnSlot (LookWord h.id)) (λ found.
    if vref_version found % 2 == 0 then PutBytes h.link false (part heading.parts bytes 0) (put_answered h now heading bytes 0 after)
    else Write (Puts h now heading bytes 0 false) after)

-- whoever found an idle head writes the link until the head is idle again
abbrev pub write_link : ℕ → ℕ → ℕ → Program → Program
write_link id q own after = Do (OnSlot (FindLink (socket_id_slot id) (socket_id_version id))) (λ k. TakeHome k (λ places. TakeMessage q (λ heading bytes.
    first_put (record { id = id; link = k; last = own; places = places }) own heading bytes after)))

-- what stands with the message of operation o: its place word is the first of the operation's eight
abbrev pub heading_of : ℕ → Heading
heading_of o = record { label = record { client = 0; operation = o; attempt = 0; place = 8 * o }; owner = 0; parts = [] }

-- the message is accepted with request q, whose generation is g: the head is exchanged (socket.cpp, `StartWrite`)
abbrev pub accept : ℕ → ℕ → ℕ → Heading → List ℕ → Program → Program
accept id q g heading bytes after = let own = ticket_of q g in Do (OnMessage (PutMessage q heading bytes)) (λ _. Do (OnChain (Unconnect q)) (λ _. Do (OnChain (SwapHead (socket_id_slot id) own)) (λ found.
    if nat_lt found IDLE then Do (OnChain (Connect q found)) (λ _. after) else write_link id q own after)))

-- the first free of so many requests from q on is claimed
abbrev pub claim_from : ℕ → ℕ → ℕ → ℕ → List ℕ → Program → Program
claim_from zero q o id bytes next = release (socket_id_slot id) (λ _. Say o Full next)
claim_from (suc more) q o id bytes next = Do (OnChain (ClaimRequest id q)) (λ found.
    if found % 2 == 0 then accept id q (found / 2) (heading_of o) bytes (release (socket_id_slot id) (λ _. Sent o next))
    else claim_from more (q + 1) o id bytes next)

-- the life of this id is held: a look comes before a request is claimed
abbrev pub start : ℕ → ℕ → ℕ → List ℕ → Program → Program
start requests o id bytes next = Do (OnSlot (LookWord id)) (λ found.
    if vref_version found % 2 == 0 then claim_from requests 0 o id bytes next
    else release (socket_id_slot id) (λ _. Say o (Gone (record { 0 = found })) next))

-- `send NAME BYTES`, of a table of so many requests
abbrev pub send : ℕ → ℕ → ℕ → List ℕ → Program → Program
send requests o name bytes next = find_socket name (Say o Unopened next) (λ id. start requests o id bytes next) (λ found. Say o (Gone (record { 0 = found })) next)
