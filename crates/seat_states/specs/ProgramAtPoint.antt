-- What a seat has still to do, by the point at which it stands: the programs of the operations from each of their steps on.
use Rattle.std.specs.Prelude.{ℕ, ◌≡◌, IsTrue, ◌+◌, ◌-◌, ◌*◌, ◌/◌, ◌%◌, ◌==◌, ◌||◌, not, ◌<◌, ◌≤◌, Bool, true, false, nat_lt, nat_le, if◌then◌else◌, List, [], ◌∷◌, ◌++◌, length, drop, Option, Some, None}
use Rattle.sock_words.specs.ErrorCodes.{EEOF, EFAILEDSOCKET, EREQUESTS}
use Rattle.sock_words.specs.PackedWords.{socket_id, socket_id_version, socket_id_slot, vref_version, at_word, ticket_request, ticket_generation, IDLE, NO_SOCKET, id_slot, id_first, call_id}
use Rattle.sock_words.specs.declared.plain.Label.{Label}
use Rattle.sock_words.specs.declared.socket_id.SocketId.{SocketId}
use Rattle.sock_words.specs.declared.ticket.Ticket.{Ticket}
use Rattle.sock_words.specs.declared.outcome.Outcome.{Outcome}
use Rattle.sock_words.specs.declared.outcome.Outcome.TheVariants.{Opened, SlotsFull, Unopened, Gone, Full, Held, Freed, Kept, CallFailed, Expired, Joined}
use Rattle.sock_io.specs.declared.link.Put.{Put}
use Rattle.sock_io.specs.declared.link.Put.TheVariants as puts
use Rattle.sock_io.specs.declared.link.Ready.{Ready}
use Rattle.sock_model.specs.declared.chain.Heading.{Heading}
use Rattle.seat_programs.specs.BufferParts.{part}
use Rattle.seat_programs.specs.sock_message.specs.Asked.{Asked, name_of, frame_of, parts_of}
use Rattle.seat_programs.specs.Asides as asides
use Rattle.seat_programs.specs.LoopHeads.{Posting, HasLocked, IsOpen, Has, Joins, Unlocks}
use Rattle.seat_programs.specs.PostPrograms.{post, posted, decide, decided}
use Rattle.seat_programs.specs.CallAndRetryPrograms.{claims_from, attempt, begin_call, claim_id, call, retry_locked, tried_again, expire_outcome, expire, join}
use Rattle.seat_programs.specs.declared.task.Sizes.{Sizes}
use Rattle.seat_programs.specs.TableSteps as calls
use Rattle.seat_programs.specs.Writings as heads
use Rattle.seat_programs.specs.Programs.{Program, Do, Say, Sent, Rest, Aside, Round, Keep, TakeMessage, TakeHome, PutHome, PutBytes, AskReady, Write, LAST_VERSION, recycle, release, add_reference, set_failed, no_socket, make_socket, open_from, fail_outcome, fail, hold, end_open}
use Rattle.seat_programs.specs.SendAndWritePrograms.{block, one_more, freed, passed, passed_telling, tell_drop, put_answered, first_put, write_link, accept, start, send}
use Rattle.seat_programs.specs.ClientProgram.{HeldLife}
use Rattle.seat_states.specs.declared.point.Opening.{Opening}
use Rattle.seat_states.specs.declared.point.OpenStep.{OpenStep}
use Rattle.seat_states.specs.declared.point.OpenStep.TheVariants as opens
use Rattle.seat_states.specs.declared.point.Aim.{Aim}
use Rattle.seat_states.specs.declared.point.Aim.TheVariants as aims
use Rattle.seat_states.specs.declared.point.SeekStep.{SeekStep}
use Rattle.seat_states.specs.declared.point.SeekStep.TheVariants as seeks
use Rattle.seat_states.specs.declared.point.Failing.{Failing}
use Rattle.seat_states.specs.declared.point.FailStep.{FailStep}
use Rattle.seat_states.specs.declared.point.FailStep.TheVariants as fails
use Rattle.seat_states.specs.declared.point.Continuation.{Continuation}
use Rattle.seat_states.specs.declared.point.Continuation.TheVariants as thens
use Rattle.seat_states.specs.declared.point.Released.{Released}
use Rattle.seat_states.specs.declared.point.Released.TheVariants as turns
use Rattle.seat_states.specs.declared.point.ReleaseStep.{ReleaseStep}
use Rattle.seat_states.specs.declared.point.ReleaseStep.TheVariants as releases
use Rattle.corr_core.specs.IdSlotWord.{parts, error_of}
use Rattle.id_points.specs.IdsAndAttemptNumbers.{id_of, number_of}
use Rattle.id_points.specs.declared.locking.Sought.TheVariants.{First}
use Rattle.call_points.specs.CallIdPoints.{post_program, decide_program, lock_program}
use Rattle.call_points.specs.CallIdPoints as decides
use Rattle.call_points.specs.declared.deciding.DecideStep.{DecideStep}
use Rattle.call_points.specs.declared.deciding.DecideStep.TheVariants as decide_steps
use Rattle.call_points.specs.declared.locking.Locker.{Locker}
use Rattle.call_points.specs.declared.deciding.OnCall.{OnCall}
use Rattle.call_points.specs.declared.word_step.WordStep.TheVariants as id_steps
use Rattle.seat_states.specs.declared.point.Attempt.{Attempt}
use Rattle.seat_states.specs.declared.calling.Calling.{Calling}
use Rattle.seat_states.specs.declared.point.Author.{Author}
use Rattle.seat_states.specs.declared.point.Author.TheVariants as authors
use Rattle.seat_states.specs.declared.point.AfterStep.{AfterStep}
use Rattle.seat_states.specs.declared.point.AfterStep.TheVariants as afters
use Rattle.seat_states.specs.declared.point.CallStep.{CallStep}
use Rattle.seat_states.specs.declared.point.CallStep.TheVariants as begins
use Rattle.seat_states.specs.declared.point.AttemptStep.{AttemptStep}
use Rattle.seat_states.specs.declared.point.AttemptStep.TheVariants as attempts
use Rattle.seat_states.specs.declared.point.RetryStep.{RetryStep}
use Rattle.seat_states.specs.declared.point.RetryStep.TheVariants as retries
use Rattle.seat_states.specs.declared.point.Retrying.{Retrying}
use Rattle.seat_states.specs.declared.point.JoinStep.{JoinStep}
use Rattle.seat_states.specs.declared.point.JoinStep.TheVariants as joins
use Rattle.seat_states.specs.declared.point.Sending.{Sending}
use Rattle.seat_states.specs.declared.point.SendStep.{SendStep}
use Rattle.seat_states.specs.declared.point.SendStep.TheVariants as sends
use Rattle.seat_states.specs.declared.point.Holder.{Holder}
use Rattle.seat_states.specs.declared.point.Writer.{Writer}
use Rattle.seat_states.specs.declared.point.MessageInHand.{MessageInHand}
use Rattle.seat_states.specs.declared.point.WriteStep.{WriteStep}
use Rattle.seat_states.specs.declared.point.WriteStep.TheVariants as writes
use Rattle.seat_states.specs.declared.point.Point.{Point}
use Rattle.seat_states.specs.declared.point.Point.TheVariants as points
use Rattle.seat_states.specs.declared.point.Next.{Next}
use Rattle.seat_states.specs.declared.point.Next.TheVariants as nexts

-- what stands round a point: how many slots, requests and ids there are, how the client goes on by what it holds, how the ending
-- goes on, what is held now, the message that the seat is to send with the lengths of its parts, the call in its hand, and of the
-- message that it writes what the link hasn't taken, how many bytes it took, and the lengths of its parts
pub record Context : Type 0 where
  pub sizes : Sizes
  pub goes_on : List HeldLife → Program
  pub ends : Program
  pub held : List HeldLife
  pub message : List ℕ
  pub parts : List ℕ
  pub asked : Asked
  pub left : List ℕ
  pub taken : ℕ
  pub left_parts : List ℕ

-- what stands with a message by who sent it; that of an attempt is put by the parts of its frame
abbrev pub parts_by : Author → List ℕ → List ℕ
parts_by (authors.Send o) parts = []
parts_by (authors.Attempt t) parts = parts

abbrev pub place_by : Author → ℕ
place_by (authors.Send o) = 8 * o
place_by (authors.Attempt t) = 8 * t.operation + (number_of t.number)

abbrev pub operation_by : Author → ℕ
operation_by (authors.Send o) = o
operation_by (authors.Attempt t) = t.operation

abbrev pub attempt_by : Author → ℕ
attempt_by (authors.Send o) = 0
attempt_by (authors.Attempt t) = number_of t.number

abbrev pub owner_by : Author → ℕ
owner_by (authors.Send o) = 0
owner_by (authors.Attempt t) = id_of t.id

abbrev pub label_by : Author → Label
label_by author = record { client = 0; operation = operation_by author; attempt = attempt_by author; place = place_by author }

abbrev pub heading_by : Author → List ℕ → Heading
heading_by author ps = record { label = label_by author; owner = owner_by author; parts = parts_by author ps }

-- what follows the release of a life that was set failed, where this word was found
abbrev pub failed_then : Option ℕ → ℕ → Continuation
failed_then (Some o) found = thens.Failed o (record { 0 = found })
failed_then None found = thens.Ended

-- what follows where another version was found
abbrev pub gone_then : Aim → ℕ → Continuation
gone_then (aims.Hold o name) found = thens.Gone o (record { 0 = found })
gone_then (aims.Send o name) found = thens.Gone o (record { 0 = found })
gone_then (aims.Fail o name code) found = thens.Gone o (record { 0 = found })
gone_then (aims.End o) found = thens.Ended

-- the word that was loaded is the id of a life
abbrev pub has_life : Aim → ℕ → Bool
has_life (aims.End o) word = not ((word == 0) || (word == NO_SOCKET))
has_life other word = not (word == 0)

-- whoever locks the id of a retry's call
abbrev pub locker_of : Retrying → Locker
locker_of r = record { slot = id_slot (id_of r.attempt.id); sought = First (id_first (id_of r.attempt.id)) }

-- whoever writes, as the programs have it
abbrev pub holder_of : Holder → heads.Holder
holder_of h = record { id = h.id.0; link = h.link; last = h.last.0; places = h.places }

-- an error of an attempt
abbrev pub error_by : Attempt → ℕ → OnCall
error_by t code_ = record { id = t.id; error = record { 0 = error_of code_ (number_of t.number) } }

-- behind a message that was accepted the life is given back
abbrev pub sent_then : Author → Continuation
sent_then (authors.Send o) = thens.Sent o
sent_then (authors.Attempt t) = thens.GaveBack

-- the call whose message was dropped is told, and then follows this
abbrev pub told : Option OnCall → Program → Program
told None next = next
told (Some c) next = post_program c (posted (id_of c.id) c.error.0 next) id_steps.Read

-- what is told of a message that is dropped with this code
abbrev pub tell : Author → List ℕ → ℕ → Program → Program
tell author parts c next = tell_drop (heading_by author parts) c next

-- ## Releasing: what follows is told whether the slot was recycled

abbrev pub free_on : ℕ → (Bool → Program) → Program
free_on i k = Do (calls.OnSlot (calls.FreeSlot i)) (λ _. k true)

abbrev pub put_on : ℕ → (Bool → Program) → ℕ → ℕ → Program
put_on i k w l = Do (calls.OnLink (calls.PutLink l)) (λ _. if nat_le w LAST_VERSION then free_on i k else k true)

abbrev pub finish_on : ℕ → (Bool → Program) → ℕ → ℕ → Program
finish_on i k w l = Do (calls.OnLink (calls.FinishLink l)) (λ _. put_on i k w l)

abbrev pub take_on : ℕ → (Bool → Program) → ℕ → ℕ → Program
take_on i k w l = Do (calls.OnLink (calls.TakeLink l)) (λ _. finish_on i k w l)

abbrev pub release_on : ℕ → (Bool → Program) → ReleaseStep → Program
release_on i k releases.SubRef = release i k
release_on i k (releases.Recycle from) = recycle i from.0 k
release_on i k (releases.LoadLink w) = Do (calls.OnSlot (calls.LoadLink i w)) (λ l. take_on i k w l)
release_on i k (releases.TakeLink w l) = take_on i k w l
release_on i k (releases.FinishLink w l) = finish_on i k w l
release_on i k (releases.PutLink w l) = put_on i k w l
release_on i k releases.FreeSlot = free_on i k

-- behind a step of it
abbrev pub released_on : ℕ → (Bool → Program) → Released → Program
released_on i k (turns.Step at) = release_on i k at
released_on i k (turns.Done freed) = k freed

module _ (a : Context) where
  abbrev pub client_on : Program
  client_on = a.goes_on a.held

  -- what follows a release, told whether it recycled the slot
  abbrev pub then_program : Continuation → Bool → Program
  then_program (thens.Gone o found) freed = Say o (Gone found) client_on
  then_program (thens.Failed o found) freed = Say o (fail_outcome found.0) client_on
  then_program (thens.Dropped o) freed = Say o (if freed then Freed else Kept) client_on
  then_program (thens.Full o) freed = Say o Full client_on
  then_program (thens.Sent o) freed = Sent o client_on
  then_program thens.GaveBack freed = client_on
  then_program (thens.Unreached t) freed = post (id_of t.id) EFAILEDSOCKET (number_of t.number) client_on
  then_program thens.Ended freed = a.ends

  -- ## Releasing

  abbrev pub release_program : ℕ → Continuation → ReleaseStep → Program
  release_program i t = release_on i (then_program t)

  -- ## Failing

  abbrev pub failed_program : Failing → ℕ → Program
  failed_program f found = release (socket_id_slot f.id.0) (then_program (failed_then f.operation found))

  abbrev pub fail_program : Failing → FailStep → Program
  fail_program f fails.SetOdd = set_failed f.id.0 f.code (failed_program f)
  fail_program f (fails.StoreCode found) = Do (calls.OnSlot (calls.StoreCode (socket_id_slot f.id.0) (socket_id_version f.id.0) f.code)) (λ _. Do (calls.OnSlot (calls.SubRef (socket_id_slot f.id.0))) (λ _. failed_program f found.0))
  fail_program f (fails.ReleaseFirst found) = Do (calls.OnSlot (calls.SubRef (socket_id_slot f.id.0))) (λ _. failed_program f found.0)

  -- ## Sending

  abbrev pub sent_program : Author → ℕ → Program
  sent_program author id = release (socket_id_slot id) (then_program (sent_then author))

  -- where each request was found taken
  abbrev pub full_program : Author → ℕ → Program
  full_program (authors.Send o) id = release (socket_id_slot id) (then_program (thens.Full o))
  full_program (authors.Attempt t) id = post (id_of t.id) EREQUESTS (number_of t.number) (release (socket_id_slot id) (then_program thens.GaveBack))

  abbrev pub connect_program : Sending → ℕ → ℕ → Program
  connect_program s q before = Do (calls.OnChain (calls.Connect q before)) (λ _. sent_program s.author s.id.0)

  abbrev pub swap_program : Sending → ℕ → ℕ → Program
  swap_program s q own = Do (calls.OnChain (calls.SwapHead (socket_id_slot s.id.0) own)) (λ found.
      if nat_lt found IDLE then connect_program s q found else write_link s.id.0 q own (sent_program s.author s.id.0))

  abbrev pub unconnect_program : Sending → ℕ → ℕ → Program
  unconnect_program s q own = Do (calls.OnChain (calls.Unconnect q)) (λ _. swap_program s q own)

  -- the message of request q is taken, with the link in hand
  abbrev pub first_program : Sending → ℕ → ℕ → ℕ → ℕ → Program
  first_program s q own k places = TakeMessage q (λ heading bytes. first_put (record { id = s.id.0; link = k; last = own; places = places }) own heading bytes (sent_program s.author s.id.0))

  -- so many requests from this one on are tried
  abbrev pub claims_program : Sending → ℕ → ℕ → Program
  claims_program s more q = claims_from more q s.id.0 (heading_by s.author a.parts) a.message (full_program s.author s.id.0) (sent_program s.author s.id.0)

  -- where the life was found failed
  abbrev pub failed_look : Author → ℕ → ℕ → Program
  failed_look (authors.Send o) id found = release (socket_id_slot id) (then_program (thens.Gone o (record { 0 = found })))
  failed_look (authors.Attempt t) id found = post (id_of t.id) EFAILEDSOCKET (number_of t.number) (release (socket_id_slot id) (then_program thens.GaveBack))

  -- the life is held, and its word is looked at
  abbrev pub look_program : Author → ℕ → Program
  look_program (authors.Send o) id = start a.sizes.requests o id a.message client_on
  look_program (authors.Attempt t) id = Do (calls.OnSlot (calls.LookWord id)) (λ found.
      if vref_version found % 2 == 0
      then claims_from a.sizes.requests 0 id (heading_by (authors.Attempt t) a.parts) a.message (full_program (authors.Attempt t) id) (sent_program (authors.Attempt t) id)
      else failed_look (authors.Attempt t) id found)

  abbrev pub send_program : Sending → SendStep → Program
  send_program s sends.Look = look_program s.author s.id.0
  send_program s (sends.Claim q) = Do (calls.OnChain (calls.ClaimRequest s.id.0 q)) (λ found.
      if found % 2 == 0 then accept s.id.0 q (found / 2) (heading_by s.author a.parts) a.message (sent_program s.author s.id.0)
      else claims_program s (a.sizes.requests - (q + 1)) (q + 1))
  send_program s (sends.PutMessage q own) = Do (calls.OnMessage (calls.PutMessage q (heading_by s.author a.parts) a.message)) (λ _. unconnect_program s q own.0)
  send_program s (sends.Unconnect q own) = unconnect_program s q own.0
  send_program s (sends.SwapHead q own) = swap_program s q own.0
  send_program s (sends.Connect q before) = connect_program s q before.0
  send_program s (sends.FindLink q own) = write_link s.id.0 q own.0 (sent_program s.author s.id.0)
  send_program s (sends.TakeHome q own k) = TakeHome k (λ places. first_program s q own.0 k places)
  send_program s (sends.TakeMessage q own k places) = first_program s q own.0 k places

  -- ## Writing

  module _ (w : Writer) where
    -- behind the loops
    abbrev pub written_program : Program
    written_program = sent_program w.author w.holder.id.0

    abbrev pub puts_program : MessageInHand → Bool → Program
    puts_program c asked = Write (heads.Puts (holder_of w.holder) c.ticket.0 (heading_by c.author a.left_parts) a.left a.taken asked) written_program

    -- a piece is put
    abbrev pub put_piece : MessageInHand → Bool → Program
    put_piece c asked = PutBytes w.holder.link asked (part (parts_by c.author a.left_parts) a.left a.taken) (put_answered (holder_of w.holder) c.ticket.0 (heading_by c.author a.left_parts) a.left a.taken written_program)

    -- the first look: where the life was found failed, the loop begins with a look of its own
    abbrev pub first_look : MessageInHand → Program
    first_look c = Do (calls.OnSlot (calls.LookWord w.holder.id.0)) (λ found. if vref_version found % 2 == 0 then put_piece c false else puts_program c false)

    abbrev pub give_program : MessageInHand → Program
    give_program c = Do (calls.OnSlot (calls.SubRef (socket_id_slot w.holder.id.0))) (λ _. puts_program c false)

    abbrev pub drop_program : MessageInHand → ℕ → Program
    drop_program c n = Do (calls.OnPlace (calls.DropPlace (place_by c.author) w.holder.link w.holder.places)) (λ _. passed_telling (one_more (holder_of w.holder)) c.ticket.0 (tell c.author a.left_parts n) written_program)

    -- a message is taken, with which the holder goes on
    abbrev pub next_message : heads.Holder → ℕ → Program
    next_message h ticket = TakeMessage (ticket_request ticket) (λ heading bytes. Write (heads.Puts h ticket heading bytes 0 false) written_program)

    -- what follows the giving back of a request: the message of the next ticket, or the head
    abbrev pub freed_program : Option Ticket → Program
    freed_program None = Write (heads.Empties (holder_of w.holder)) written_program
    freed_program (Some next) = next_message (holder_of w.holder) next.0

    -- and first the call of a dropped message is told
    abbrev pub behind_drop : Option OnCall → Option Ticket → Program
    behind_drop c next = told c (freed_program next)

    abbrev pub taken_again : ℕ → Program
    taken_again found = TakeHome w.holder.link (λ places. Write (heads.Reversing (record (holder_of w.holder) { places = places }) found found 0) written_program)

    abbrev pub walk_program : ℕ → ℕ → ℕ → Program
    walk_program top at after = Write (heads.Reversing (holder_of w.holder) top at after) written_program

    abbrev pub first_of_walk : ℕ → ℕ → Program
    first_of_walk top at = next_message (record (holder_of w.holder) { last = top }) at

    abbrev pub write_program : WriteStep → Program
    write_program (writes.FirstLook c) = first_look c
    write_program (writes.Look c asked) = puts_program c asked
    write_program (writes.Put c asked) = put_piece c asked
    write_program (writes.Ask c) = Write (heads.Waits (holder_of w.holder) c.ticket.0 (heading_by c.author a.left_parts) a.left a.taken) written_program
    write_program (writes.SetOdd c) = set_failed w.holder.id.0 EFAILEDSOCKET (λ _. puts_program c false)
    write_program (writes.StoreCode c) = Do (calls.OnSlot (calls.StoreCode (socket_id_slot w.holder.id.0) (socket_id_version w.holder.id.0) EFAILEDSOCKET)) (λ _. give_program c)
    write_program (writes.ReleaseFirst c) = give_program c
    write_program (writes.StorePlace c) = Do (calls.OnPlace (calls.StorePlace (place_by c.author) w.holder.link w.holder.places)) (λ _. passed (one_more (holder_of w.holder)) c.ticket.0 written_program)
    write_program (writes.LoadCode c) = Do (calls.OnSlot (calls.LoadCode (socket_id_slot w.holder.id.0) (socket_id_version w.holder.id.0))) (λ n. drop_program c n)
    write_program (writes.DropPlace c n) = drop_program c n
    write_program (writes.ReadNext now c) = Do (calls.OnChain (calls.ReadNext (ticket_request now.0))) (λ next. freed now.0 (told c (next_message (holder_of w.holder) next)))
    write_program (writes.Free now next c) = Do (calls.OnChain (calls.FreeRequest (ticket_request now.0) (ticket_generation now.0))) (λ _. behind_drop c next)
    write_program (writes.TakeMessage next) = next_message (holder_of w.holder) next.0
    write_program writes.PutHome = Write (heads.Empties (holder_of w.holder)) written_program
    write_program writes.EmptyHead = Do (calls.OnChain (calls.EmptyHead (socket_id_slot w.holder.id.0) w.holder.last.0)) (λ found. if found == w.holder.last.0 then written_program else taken_again found)
    write_program (writes.TakeHome found) = taken_again found.0
    write_program (writes.Reversing top at after) = walk_program top.0 at.0 after.0
    write_program (writes.ReverseNext top at after before) = Do (calls.OnChain (calls.ReverseNext (ticket_request at.0) after.0)) (λ _.
        if before.0 == w.holder.last.0 then first_of_walk top.0 at.0 else walk_program top.0 before.0 at.0)
    write_program (writes.TakeFirst top at) = first_of_walk top.0 at.0

  -- ## The way to a life

  -- without a life under the name
  abbrev pub unopened_program : Aim → Program
  unopened_program (aims.Hold o name) = Say o Unopened client_on
  unopened_program (aims.Send o name) = Say o Unopened client_on
  unopened_program (aims.Fail o name code) = Say o Unopened client_on
  unopened_program (aims.End o) = a.ends

  -- with a reference to the life
  abbrev pub reached_program : Aim → SocketId → Program
  reached_program (aims.Hold o name) id = Say o Held (a.goes_on (a.held ++ (record { name = name; id = id.0 }) ∷ []))
  reached_program (aims.Send o name) id = send_program (record { author = authors.Send o; id = id }) sends.Look
  reached_program (aims.Fail o name code) id = fail_program (record { id = id; code = code; operation = Some o }) fails.SetOdd
  reached_program (aims.End o) id = fail_program (record { id = id; code = EEOF; operation = None }) fails.SetOdd

  abbrev pub seek_program : Aim → SeekStep → Program
  seek_program (aims.Hold o name) seeks.Load = hold o name (λ id. a.goes_on (a.held ++ (record { name = name; id = id }) ∷ [])) client_on
  seek_program (aims.Send o name) seeks.Load = send a.sizes.requests o name a.message client_on
  seek_program (aims.Fail o name code) seeks.Load = fail o name code client_on
  seek_program (aims.End o) seeks.Load = end_open o a.ends
  seek_program aim (seeks.AddRef id) = add_reference id.0 (reached_program aim id) (λ found. then_program (gone_then aim found) false)

  -- ## Opening

  abbrev pub name_program : Opening → ℕ → ℕ → Program
  name_program g i v = Do (calls.OnName (calls.StoreName g.name (socket_id v i + 1))) (λ _. Say g.operation (Opened i v g.link) client_on)

  abbrev pub told_program : Opening → ℕ → ℕ → Program
  told_program g i v = Do (calls.OnName (calls.StoreOpen g.operation (socket_id v i + 1))) (λ _. name_program g i v)

  abbrev pub birth_program : Opening → ℕ → Program
  birth_program g i = Do (calls.OnSlot (calls.CreateLife i g.link)) (λ found. told_program g i (vref_version found))

  abbrev pub wipe_program : Opening → ℕ → Program
  wipe_program g i = Do (calls.OnSlot (calls.ClearCode i g.link)) (λ _. birth_program g i)

  abbrev pub reset_program : Opening → ℕ → Program
  reset_program g i = Do (calls.OnSlot (calls.ResetHead i g.link)) (λ _. wipe_program g i)

  abbrev pub none_program : Opening → Program
  none_program g = Do (calls.OnName (calls.StoreOpen g.operation NO_SOCKET)) (λ _. Say g.operation SlotsFull client_on)

  abbrev pub unused_program : Opening → Program
  unused_program g = Do (calls.OnLink (calls.PutLink g.link)) (λ _. none_program g)

  abbrev pub open_program : Opening → OpenStep → Program
  open_program g (opens.Claim i) = Do (calls.OnSlot (calls.ClaimSlot i)) (λ found.
      if found == 0 then make_socket g.operation g.name g.link i client_on else open_from (a.sizes.slots - (i + 1)) (i + 1) g.operation g.name g.link client_on)
  open_program g (opens.StoreLink i) = make_socket g.operation g.name g.link i client_on
  open_program g (opens.ResetHead i) = reset_program g i
  open_program g (opens.ClearCode i) = wipe_program g i
  open_program g (opens.CreateLife i) = birth_program g i
  open_program g (opens.StoreOpen i v) = told_program g i v
  open_program g (opens.StoreName i v) = name_program g i v
  open_program g opens.TakeLink = no_socket g.operation g.link client_on
  open_program g opens.FinishLink = Do (calls.OnLink (calls.FinishLink g.link)) (λ _. unused_program g)
  open_program g opens.PutLink = unused_program g
  open_program g opens.StoreNone = none_program g

  -- ## Behind an error

  abbrev pub after_program : AfterStep → Program
  after_program (afters.Attempt None) = client_on
  after_program (afters.Attempt (Some i)) = release i (then_program thens.GaveBack)
  after_program (afters.Expire o) = Say o Expired client_on
  after_program (afters.Drop w next) = freed_program w next

  -- behind one that was refused or queued; an `expire` tells so
  abbrev pub refused_program : AfterStep → Outcome → Program
  refused_program (afters.Expire o) outcome = Say o outcome client_on
  refused_program after outcome = after_program after

  -- behind a post, by how it ended
  abbrev pub posted_program : OnCall → AfterStep → Posting → Program
  posted_program c (afters.Expire o) how = posted (id_of c.id) c.error.0 (Say o (expire_outcome how) client_on) how
  posted_program c after how = posted (id_of c.id) c.error.0 (after_program after) how

  -- ## Attempts

  abbrev pub at_program : Attempt → SocketId → ℕ → Program
  at_program t socket k = Aside (asides.StoreAt t.operation (at_word (id_first (id_of t.id)) (id_slot (id_of t.id)) k (number_of t.number))) (λ _. look_program (authors.Attempt t) socket.0)

  abbrev pub find_program : Attempt → SocketId → Program
  find_program t socket = Do (calls.OnSlot (calls.FindLink (socket_id_slot socket.0) (socket_id_version socket.0))) (λ k. at_program t socket k)

  abbrev pub attempt_program : Attempt → SocketId → AttemptStep → Program
  attempt_program t socket attempts.AddRef = add_reference socket.0 (find_program t socket) (λ found. then_program (thens.Unreached t) false)
  attempt_program t socket attempts.FindLink = find_program t socket
  attempt_program t socket (attempts.StoreAt k) = at_program t socket k

  -- ## Calls

  abbrev pub make_program : ℕ → ℕ → Program
  make_program socket i = Aside (asides.MakeId i a.asked.range) (λ found. let id = call_id i (parts found).first in Aside (asides.StoreCall a.asked.operation id) (λ _. attempt a.sizes.requests a.asked id 0 socket client_on))

  abbrev pub call_program : CallStep → Program
  call_program begins.LoadName = call a.sizes.requests a.sizes.ids a.asked client_on
  call_program (begins.ClaimId i socket) = Aside (asides.ClaimId i) (λ found.
      if found == 0 then begin_call a.sizes.requests socket.0 i a.asked client_on else claim_id (a.sizes.ids - (i + 1)) (i + 1) a.sizes.requests socket.0 a.asked client_on)
  call_program (begins.PutCall i socket) = begin_call a.sizes.requests socket.0 i a.asked client_on
  call_program (begins.MakeId i socket) = make_program socket.0 i
  call_program (begins.StoreCall id socket) = Aside (asides.StoreCall a.asked.operation (id_of id)) (λ _. attempt a.sizes.requests a.asked (id_of id) 0 socket.0 client_on)

  -- ## Retries

  -- the lock is given back, and then the word of the name is loaded
  abbrev pub unlock_again : Retrying → ℕ → Bool → Program
  unlock_again r w advance = Round (Unlocks (id_slot (id_of r.attempt.id)) w advance) (tried_again a.sizes.requests (id_of r.attempt.id) (number_of r.attempt.number) a.asked client_on)

  abbrev pub retry_program : Retrying → RetryStep → Program
  retry_program r (retries.Lock at) = lock_program (locker_of r) (retry_locked a.sizes.requests (id_of r.attempt.id) (number_of r.attempt.number) client_on) at
  retry_program r (retries.TakeCall w) = retry_locked a.sizes.requests (id_of r.attempt.id) (number_of r.attempt.number) client_on (Has w.0)
  retry_program r (retries.PutCall w) = Aside (asides.PutCall (id_slot (id_of r.attempt.id)) a.asked) (λ _. unlock_again r w.0 false)
  retry_program r (retries.Unlock w advance) = unlock_again r w.0 advance
  retry_program r retries.LoadName = tried_again a.sizes.requests (id_of r.attempt.id) (number_of r.attempt.number) a.asked client_on (IsOpen 0)

  -- ## Waiting for an end

  abbrev pub join_program : ℕ → JoinStep → Program
  join_program o (joins.LoadCall t) = join o t client_on
  join_program o (joins.Wait id) = Round (Joins (id_of id)) (λ _. Say o Joined client_on)

  -- ## Points

  -- from a point on
  abbrev pub point_program : Point → Program
  point_program points.Rest = Rest
  point_program (points.Open g at) = open_program g at
  point_program (points.Seek aim at) = seek_program aim at
  point_program (points.Fail f at) = fail_program f at
  point_program (points.Release i t at) = release_program i t at
  point_program (points.Send s at) = send_program s at
  point_program (points.Write w at) = write_program w at
  point_program (points.Call at) = call_program at
  point_program (points.Attempt t socket at) = attempt_program t socket at
  point_program (points.Post c after at) = post_program c (posted_program c after) at
  point_program (points.Decide c after at) = decide_program c a.asked (decided (id_of c.id) (after_program after)) at
  point_program (points.Retry r at) = retry_program r at
  point_program (points.Expire o t) = expire o t client_on
  point_program (points.Join o at) = join_program o at

  -- behind a step
  abbrev pub next_program : Next → Program
  next_program (nexts.Point point) = point_program point
  next_program (nexts.Said o outcome) = Say o outcome client_on
  next_program (nexts.Sent o) = Sent o client_on
  next_program (nexts.Held o name id) = Say o Held (a.goes_on (a.held ++ (record { name = name; id = id.0 }) ∷ []))
  next_program nexts.GaveBack = client_on
  next_program nexts.Ended = a.ends
  next_program (nexts.CallEnded o id c after) = Say o (CallFailed (id_of id) c) (after_program after)
  next_program (nexts.Kept id n after) = Keep (record { id = id_of id; attempt = number_of n }) (after_program after)
  next_program (nexts.KeptWith c n word after) = Keep (record { id = (id_of c.id); attempt = number_of n }) (decide (id_of c.id) word.0 c.error.0 (decided (id_of c.id) (after_program after)))

-- ## What follows a step

-- with the message of an attempt
abbrev pub with_frame : ℕ → ℕ → Context → Context
with_frame id n a = record a { message = frame_of a.asked id n; parts = parts_of a.asked id n }

-- with a call in hand
abbrev pub with_asked : Asked → Context → Context
with_asked asked a = record a { asked = asked }

-- the seat makes the message of its first attempt behind this step
abbrev pub framed : Point → Context → Context
framed (points.Call (begins.StoreCall id socket)) a = with_frame (id_of id) 0 a
framed other a = a

-- with the message of this author
abbrev pub after_message : Program → Author → List ℕ → List ℕ → Program
after_message (TakeMessage q next) author parts bytes = next (heading_by author parts) bytes
after_message other author parts bytes = other

-- with the link, of whose messages so many have places
abbrev pub after_link : Program → ℕ → Program
after_link (TakeHome k next) places = next places
after_link other places = other

-- where the link is home again: that is the first step of a round
abbrev pub home_behind : Program → Program
home_behind (PutHome k n after) = after
home_behind other = other

abbrev pub after_home : Program → Program
after_home (Write w after) = home_behind (block w after)
after_home other = other

-- and where the link answered
abbrev pub after_put : Program → Put → Program
after_put (PutBytes k asked bytes next) answer = next answer
after_put other answer = other

abbrev pub ready_behind : Program → Ready → Program
ready_behind (AskReady k next) answer = next answer
ready_behind other answer = other

abbrev pub after_ready : Program → Ready → Program
after_ready (Write w after) answer = ready_behind (block w after) answer
after_ready other answer = other

-- what stands round a point then
abbrev pub with_message : List ℕ → List ℕ → Context → Context
with_message parts bytes a = record a { left = bytes; taken = 0; left_parts = parts }

abbrev pub with_put : Put → Context → Context
with_put (puts.Took n) a = record a { left = drop n a.left; taken = a.taken + n }
with_put other a = a

-- a call is taken out of its home; a retry makes its message then
abbrev pub taken_with : Point → Asked → Context → Context
taken_with (points.Retry r at) asked a = with_frame (id_of r.attempt.id) (number_of r.attempt.number) (with_asked asked a)
taken_with other asked a = with_asked asked a

-- the name of a retry's attempt
abbrev pub IsNextName : Asked → Point → ℕ → Type 0
IsNextName asked (points.Retry r at) name = name ≡ name_of asked (number_of r.attempt.number)
IsNextName asked other name = Unit {0}

-- ## Links in hand

-- the link in hand at a release, and behind a step of one
abbrev pub release_link : ReleaseStep → Option ℕ
release_link (releases.FinishLink w k) = Some k
release_link (releases.PutLink w k) = Some k
release_link other = None

abbrev pub released_link : Released → Option ℕ
released_link (turns.Step at) = release_link at
released_link (turns.Done freed) = None

-- the link in hand without a right to write it, at a point
abbrev pub link_at : Point → Option ℕ
link_at (points.Open g opens.FinishLink) = Some g.link
link_at (points.Open g opens.PutLink) = Some g.link
link_at (points.Release i t at) = release_link at
link_at other = None

-- and behind a step
abbrev pub link_behind : Next → Option ℕ
link_behind (nexts.Point point) = link_at point
link_behind other = None

-- and behind the next step of a release
abbrev pub release_left : ReleaseStep → Option ℕ
release_left (releases.TakeLink w k) = Some k
release_left (releases.FinishLink w k) = Some k
release_left other = None

-- and behind the next step of a point
abbrev pub link_left : Point → Option ℕ
link_left (points.Open g opens.TakeLink) = Some g.link
link_left (points.Open g opens.FinishLink) = Some g.link
link_left (points.Release i t at) = release_left at
link_left other = None

-- ## What a table has

-- a slot that is tried is one of so many
abbrev pub IsOneOf : ℕ → OpenStep → Type 0
IsOneOf slots (opens.Claim i) = i < slots
IsOneOf slots other = Unit {0}

-- and a request
abbrev pub IsOneOfRequests : ℕ → SendStep → Type 0
IsOneOfRequests requests (sends.Claim q) = q < requests
IsOneOfRequests requests other = Unit {0}

-- one more place has room in a place word
abbrev pub HasPlaceLeft : Writer → WriteStep → Type 0
HasPlaceLeft w (writes.StorePlace c) = w.holder.places < 4294967295
HasPlaceLeft w (writes.DropPlace c n) = w.holder.places < 4294967295
HasPlaceLeft w other = Unit {0}

-- an id slot that is tried is one of so many
abbrev pub IsOneOfIds : ℕ → CallStep → Type 0
IsOneOfIds ids (begins.ClaimId i socket) = i < ids
IsOneOfIds ids other = Unit {0}

-- what is known of the call in hand
pub record IsCalling (a : Context) (c : Calling) : Type 0 where
  pub operation : c.operation ≡ a.asked.operation
  pub name : c.name ≡ name_of a.asked 0
  pub range : c.range ≡ a.asked.range

-- a link fits an at word
abbrev pub HasLink : AttemptStep → Type 0
HasLink (attempts.StoreAt k) = k < 65535
HasLink other = Unit {0}

abbrev pub HasLinkAt : Point → Type 0
HasLinkAt (points.Attempt t socket at) = HasLink at
HasLinkAt other = Unit {0}

abbrev pub MayFindAt : AttemptStep → ℕ → Type 0
MayFindAt attempts.FindLink found = found < 65535
MayFindAt other found = Unit {0}

-- a lock is tried from an open word alone, and an advance has an attempt left
abbrev pub MayLock : RetryStep → Type 0
MayLock (retries.Lock at) = decides.IsOpen at
MayLock (retries.Unlock w advance) = IsTrue advance → (parts w.0).attempt < 7
MayLock other = Unit {0}

abbrev pub IsWithin : Sizes → Point → Type 0
IsWithin sizes (points.Open g at) = IsOneOf sizes.slots at
IsWithin sizes (points.Send s at) = (sizes.requests ≤ 4096) × IsOneOfRequests sizes.requests at
IsWithin sizes (points.Write w at) = HasPlaceLeft w at
IsWithin sizes other = Unit {0}

-- the code of a dropped message fits an error
abbrev pub TellsCode : WriteStep → Type 0
TellsCode (writes.DropPlace c n) = n < 4096
TellsCode other = Unit {0}

abbrev pub TellsCodeAt : Point → Type 0
TellsCodeAt (points.Write w at) = TellsCode at
TellsCodeAt other = Unit {0}

-- and what the table of the ids has to say
abbrev pub IsWithinIds : Sizes → Point → Type 0
IsWithinIds sizes (points.Call at) = (sizes.ids ≤ 4096) × IsOneOfIds sizes.ids at
IsWithinIds sizes (points.Decide c after at) = decides.MayStand at
IsWithinIds sizes (points.Retry r at) = MayLock at
IsWithinIds sizes other = Unit {0}

-- ## Words found

-- a slot is recycled to a version that there is, and its link is one of the table's
abbrev pub MayFindIn : ReleaseStep → ℕ → Type 0
MayFindIn (releases.Recycle from) found = vref_version from.0 < 4294967295
MayFindIn (releases.LoadLink w) found = found < 256
MayFindIn other found = Unit {0}

-- a request's word has a generation below 2^47
abbrev pub MayFindOf : SendStep → ℕ → Type 0
MayFindOf (sends.Claim q) found = found < 281474976710656
MayFindOf (sends.FindLink q own) found = found < 256
MayFindOf other found = Unit {0}

-- the word of a call has its id
abbrev pub MayFindId : ℕ → Type 0
MayFindId found = (id_slot found < 65536) × (id_first found < 67108864)

abbrev pub MayFindJoined : JoinStep → ℕ → Type 0
MayFindJoined (joins.LoadCall t) found = MayFindId found
MayFindJoined other found = Unit {0}

abbrev pub MayFindWriting : WriteStep → ℕ → Type 0
MayFindWriting (writes.LoadCode c) found = found < 4096
MayFindWriting other found = Unit {0}

abbrev pub MayFind : Point → ℕ → Type 0
MayFind (points.Release i t at) found = MayFindIn at found
MayFind (points.Send s at) found = MayFindOf at found
MayFind other found = Unit {0}

-- which the table of the ids has to say, or which the ids need of the sockets
abbrev pub MayFindAside : Point → ℕ → Type 0
MayFindAside (points.Write w at) found = MayFindWriting at found
MayFindAside (points.Attempt t socket at) found = MayFindAt at found
MayFindAside (points.Expire o t) found = MayFindId found
MayFindAside (points.Join o at) found = MayFindJoined at found
MayFindAside other found = Unit {0}

-- a post that has no lock
abbrev pub IsRefused : Posting → Type 0
IsRefused (HasLocked word) = ⊥
IsRefused other = Unit {0}

-- ## What a point has in hand

-- the message in hand is that of this attempt of the call in hand
pub record IsFramed (a : Context) (t : Attempt) : Type 0 where
  pub operation : t.operation ≡ a.asked.operation
  pub message : a.message ≡ frame_of a.asked (id_of t.id) (number_of t.number)
  pub parts : a.parts ≡ parts_of a.asked (id_of t.id) (number_of t.number)

-- a retry that has taken its call has its message too, and knows its name
abbrev pub HasRetry : Context → Retrying → RetryStep → Type 0
HasRetry a r (retries.Lock at) = Unit {0}
HasRetry a r (retries.TakeCall w) = Unit {0}
HasRetry a r other = IsFramed a r.attempt × (r.name ≡ name_of a.asked (number_of r.attempt.number))

abbrev pub HasInHand : Context → Point → Type 0
HasInHand a (points.Retry r at) = HasRetry a r at
HasInHand a other = Unit {0}

-- ## Which step comes next

-- one on a word, or a message into its home
abbrev pub SendsByWord : SendStep → Type 0
SendsByWord (sends.TakeHome q own k) = ⊥
SendsByWord (sends.TakeMessage q own k places) = ⊥
SendsByWord other = Unit {0}

abbrev pub WritesByWord : WriteStep → Type 0
WritesByWord (writes.Put c asked) = ⊥
WritesByWord (writes.Ask c) = ⊥
WritesByWord (writes.TakeMessage next) = ⊥
WritesByWord writes.PutHome = ⊥
WritesByWord (writes.TakeHome found) = ⊥
WritesByWord (writes.TakeFirst top at) = ⊥
WritesByWord other = Unit {0}

abbrev pub RetriesByWord : RetryStep → Type 0
RetriesByWord (retries.TakeCall w) = ⊥
RetriesByWord other = Unit {0}

abbrev pub GoesByWord : Point → Type 0
GoesByWord points.Rest = ⊥
GoesByWord (points.Send s at) = SendsByWord at
GoesByWord (points.Write w at) = WritesByWord at
GoesByWord (points.Decide c after at) = decides.GoesByWord at
GoesByWord (points.Retry r at) = RetriesByWord at
GoesByWord other = Unit {0}

-- what a point wants of the rules, over a table of these sizes, to go on by the word that its step found
pub record MayNext (sizes : Sizes) (p : Point) (found : ℕ) : Type 0 where
  pub within : IsWithin sizes p
  pub ids : IsWithinIds sizes p
  pub word : MayFind p found
  pub aside : MayFindAside p found
  pub link : HasLinkAt p
  pub told : TellsCodeAt p
  pub step : GoesByWord p

-- a call is taken out of its home
abbrev pub DecidesByCall : DecideStep → Type 0
DecidesByCall (decide_steps.Take w) = Unit {0}
DecidesByCall other = ⊥

abbrev pub RetriesByCall : RetryStep → Type 0
RetriesByCall (retries.TakeCall w) = Unit {0}
RetriesByCall other = ⊥

abbrev pub TakesCall : Point → Type 0
TakesCall (points.Decide c after at) = DecidesByCall at
TakesCall (points.Retry r at) = RetriesByCall at
TakesCall other = ⊥

-- the message of a request is taken
abbrev pub TakesMessage : Point → Type 0
TakesMessage (points.Send s (sends.TakeMessage q own k places)) = Unit {0}
TakesMessage (points.Write w (writes.TakeMessage next)) = Unit {0}
TakesMessage (points.Write w (writes.TakeFirst top at)) = Unit {0}
TakesMessage other = ⊥

-- a link is taken to be written
abbrev pub TakesLink : Point → Type 0
TakesLink (points.Send s (sends.TakeHome q own k)) = Unit {0}
TakesLink (points.Write w (writes.TakeHome found)) = Unit {0}
TakesLink other = ⊥

-- it goes home, a piece is put, or the link is asked
abbrev pub PutsHome : Point → Type 0
PutsHome (points.Write w writes.PutHome) = Unit {0}
PutsHome other = ⊥

abbrev pub PutsPiece : Point → Type 0
PutsPiece (points.Write w (writes.Put c asked)) = Unit {0}
PutsPiece other = ⊥

abbrev pub Asks : Point → Type 0
Asks (points.Write w (writes.Ask c)) = Unit {0}
Asks other = ⊥

-- the link took all that was left
abbrev pub is_whole : List ℕ → Put → Bool
is_whole left (puts.Took n) = nat_le (length left) n
is_whole left other = false
