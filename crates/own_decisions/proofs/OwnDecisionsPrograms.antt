-- The programs of clients, readers and the ending keep to what they try and post.
use Rattle.std.proofs.Common.{◌≡◌, ◌≢◌, ℕ, zero, suc, ◌+◌, ◌-◌, ◌/◌, ◌%◌, ◌≤◌, ◌⊎◌, ◌==◌, ◌&&◌, inl, inr, Bool, true, false, cond, eqb, nat_lt, nat_le, List, [], ◌∷◌, ◌++◌, length, drop, refl, sym, ap, ◌∙◌, subst, arith}
use Rattle.std.proofs.lemmas.Bool.{true≢false}
use Rattle.seat_programs.specs.brpc_model.specs.Frame.{Frame}
use Rattle.sock_words.specs.PackedWords.{socket_id_slot, socket_id_version, vref_version, at_word, at_word_first, at_word_slot, at_word_link, at_word_attempt, ticket_generation, ticket_request, IDLE, UNCONNECTED, call_id, id_slot, id_first, NO_SOCKET}
use Rattle.sock_words.specs.declared.outcome.Outcome.TheVariants as outcomes
use Rattle.sock_io.specs.declared.link.Put.{Put}
use Rattle.sock_io.specs.declared.link.Put.TheVariants as puts
use Rattle.sock_io.specs.declared.link.Ready.{Ready}
use Rattle.sock_io.specs.declared.link.Ready.TheVariants as asks
use Rattle.sock_message.specs.Asked.{Asked, frame_of}
use Rattle.sock_model.specs.declared.chain.Heading.{Heading}
use Rattle.sock_model.specs.Entries.{ticket_of}
use Rattle.corr_core.specs.IdSlotWord.{parts, error_of, attempt_of}
use Rattle.corr_core.specs.EndedByRangeOrAttempt.{WHOLE}
use Rattle.seat_programs.specs.declared.task.Op.{Op}
use Rattle.seat_programs.specs.declared.task.Op.TheVariants as ops
use Rattle.seat_programs.specs.declared.task.Sizes.{Sizes}
use Rattle.seat_programs.specs.declared.task.Task.{Task}
use Rattle.seat_programs.specs.Asides.{StoreAt}
use Rattle.seat_programs.specs.CallAndRetryPrograms.{claims_from, heading_for, attempt, begin_call, claim_id, call, tried_again, retry_locked, retry, expire_outcome, expire, join}
use Rattle.seat_programs.specs.TableSteps.{TableStep, OnSlot, OnChain, OnMessage, PutMessage, FreeRequest, ReadNext, FindLink, LookWord, ReverseNext, Connect}
use Rattle.seat_programs.specs.ClientProgram.{HeldLife, held_under, without_name, operation, client_from, ending_of}
use Rattle.seat_programs.specs.LoopHeads.{First, Posts, Joins, Reads, Discards, Posting, HasLocked, Unlocking, IsOpen, HasNext, Locking, NotThere, Has, Ended}
use Rattle.seat_programs.specs.BufferParts.{part}
use Rattle.seat_programs.specs.PostPrograms.{post_with, posted, post, decided}
use Rattle.seat_programs.specs.Programs.{Program, Do, Say, Sent, Rest, TakeMessage, TakeHome, PutBytes, Write, Aside, Round, LAST_GENERATION, release}
use Rattle.seat_programs.specs.ReaderProgram.{kept_for, ends_with, posted_last, post_each, thrown_away, read, reader, LIMIT}
use Rattle.seat_programs.specs.SendAndWritePrograms.{freed as given_back, one_more, passed_telling, tell_drop, placed, dropped, put_answered, ready_answered, block, first_put, accept, write_link, heading_of, claim_from, start, send}
use Rattle.seat_programs.specs.Writings.{Holder, Writing, Puts, Waits, Empties, Reversing}
use Rattle.sent_once.specs.Below.programs_allowed.specs.program_walks.proofs.Through.{PassesWords, PassesFails, is_of_message, others_plain, others_failing, others_make, through_release, through_address, through_reach, through_set_failed, through_fail, through_hold}
use Rattle.sent_once.specs.Below.programs_allowed.specs.program_walks.proofs.ThroughSends.{through_ended}
use Rattle.sent_once.specs.Below.programs_allowed.specs.program_walks.proofs.ThroughCalls.{through_read_end}
use Rattle.sent_once.specs.Below.programs_allowed.specs.program_walks.proofs.ThroughClients.{through_open, through_back, through_drop_of}
use Rattle.sent_once.specs.Below.label_runs.specs.AttemptLabelsLeft.{LeavesLock}
use Rattle.own_decisions.proofs.OwnDecisionsStands.{Stand, Calm, Trying, Past, Posted, Eases, behind_message, MayPut, LeavesStand, locked_stand, posted_stand, Aims}
use Rattle.sent_once.specs.Below.label_runs.proofs.LoopsOfKnownSeats.{id_back, not_equal}
use Rattle.own_decisions.proofs.OwnDecisionsLoops.{way, next_is, post_with_goes, posted_goes, post_goes, decide_goes, decided_goes, answer_goes}

-- ## Parts on sockets

-- where no message is put, steps on words leave it
module _ (t : Stand) where
  others : (call : TableStep) (next : ℕ → Program) → is_of_message call ≡ false → ((found : ℕ) → Aims t (next found)) → Aims t (Do call next)
  others (OnMessage (PutMessage q heading bytes)) next is r = absurd (true≢false is)
  others call next is r = (tt, λ found _. (t, inl refl, r found))

  words : PassesWords (Aims t)
  words = record { step = others_plain (Aims t) others; say = λ o outcome next r. r }

  fails : (code : ℕ) → PassesFails (Aims t) code
  fails = through_set_failed (Aims t) words (others_failing (Aims t) others)

-- ## Writing

freed_goes : (s : Stand) (now : ℕ) (next : Program) → Aims s next → Aims s (given_back now next)
freed_goes s now next goes = way s (ticket_generation now == LAST_GENERATION) next (Do (OnChain (FreeRequest (ticket_request now) (ticket_generation now))) (λ _. next)) (λ _. goes) (λ _. (tt, λ _ _. (s, inl refl, goes)))

passed_goes : (s : Stand) (h : Holder) (now : ℕ) (tells : Program → Program) (after : Program) → ((x : Program) → Aims Calm x → Aims s (tells x)) → Aims Calm after → Aims s (passed_telling h now tells after)
passed_goes s h now tells after told goes = way s (now == h.last) (given_back now (tells (Write (Empties h) after)))
    (Do (OnChain (ReadNext (ticket_request now))) (λ next. given_back now (tells (TakeMessage (ticket_request next) (λ heading bytes. Write (Puts h next heading bytes 0 false) after)))))
    (λ _. freed_goes s now (tells (Write (Empties h) after)) (told (Write (Empties h) after) (tt, goes)))
    (λ _. (tt, λ next _. (s, inl refl, freed_goes s now (tells (TakeMessage (ticket_request next) (λ heading bytes. Write (Puts h next heading bytes 0 false) after))) (told (TakeMessage (ticket_request next) (λ heading bytes. Write (Puts h next heading bytes 0 false) after)) (λ heading bytes. (refl, goes))))))

-- a message without an owner is nobody's, and the attempt of any other is behind
tell_goes : (s : Stand) (heading : Heading) (code : ℕ) (x : Program) → s ≡ behind_message heading → Aims Calm x → Aims s (tell_drop heading code x)
tell_goes s heading code x is goes = by (eqb heading.owner 0) is
  where
    by : (b : Bool) → s ≡ cond b Calm (Past heading.owner heading.label.attempt) → Aims s (cond b x (post heading.owner (cond (eqb code 0) 1009 code) heading.label.attempt x))
    by true same = subst (λ z. Aims z x) (sym same) goes
    by false same = post_goes s heading.owner (cond (eqb code 0) 1009 code) heading.label.attempt x (inl (sym same)) goes

put_goes : (s : Stand) (h : Holder) (now : ℕ) (heading : Heading) (left : List ℕ) (taken : ℕ) (after : Program) → s ≡ behind_message heading → Aims Calm after → (answer : Put) → Aims s (put_answered h now heading left taken after answer)
put_goes s h now heading left taken after is goes (puts.Took n) = way s (nat_le (length left) n) (placed h now heading after) (Write (Puts h now heading (drop n left) (taken + n) false) after)
    (λ _. (tt, λ _ _. (Calm, inr (inl refl), passed_goes Calm (one_more h) now (λ x. x) after (λ x goes. goes) goes))) (λ _. (is, goes))
put_goes s h now heading left taken after is goes puts.Again = (is, goes)
put_goes s h now heading left taken after is goes puts.Failed = fails s 1009 h.id (λ _. Write (Puts h now heading left taken false) after) (λ _. (is, goes))

pub block_goes : (s : Stand) (w : Writing) (after : Program) → Aims s (Write w after) → Aims s (block w after)
block_goes s (Puts h now heading left taken asked) after g = (
  tt,
  λ found _. (
    s,
    inl refl,
    way s (vref_version found % 2 == 0) (PutBytes h.link asked (part heading.parts left taken) (put_answered h now heading left taken after)) (dropped h now heading after)
        (λ _. put_goes s h now heading left taken after g.0 g.1)
        (λ _. (tt, λ code _. (s, inl refl, (tt, λ _ _. (s, inl refl, passed_goes s (one_more h) now (tell_drop heading code) after (λ x goes. tell_goes s heading code x g.0 goes) g.1))))),
  ),
)
block_goes s (Waits h now heading left taken) after g = ready_goes
  where
    ready_goes : (answer : Ready) → Aims s (ready_answered h now heading left taken after answer)
    ready_goes asks.Now = (g.0, g.1)
    ready_goes asks.NotYet = (g.0, g.1)
    ready_goes asks.Failed = fails s 1009 h.id (λ _. Write (Puts h now heading left taken false) after) (λ _. (g.0, g.1))
block_goes s (Empties h) after g = (tt, λ found _. (Calm, inl refl, way Calm (found == h.last) after (TakeHome h.link (λ places. Write (Reversing (record h { places = places }) found found 0) after)) (λ _. g.1) (λ _. λ places. (tt, g.1))))
block_goes s (Reversing h top at after) then_ g = (
  tt,
  λ found _. (
    Calm,
    inr (inl refl),
    way Calm (found == UNCONNECTED) (Write (Reversing h top at after) then_)
        (Do (OnChain (ReverseNext (ticket_request at) after)) (λ _. cond (found == h.last) (TakeMessage (ticket_request at) (λ heading bytes. Write (Puts (record h { last = top }) at heading bytes 0 false) then_)) (Write (Reversing h top found at) then_)))
        (λ _. (tt, g.1))
        (λ _. (tt, λ _ _. (Calm, inl refl, way Calm (found == h.last) (TakeMessage (ticket_request at) (λ heading bytes. Write (Puts (record h { last = top }) at heading bytes 0 false) then_)) (Write (Reversing h top found at) then_) (λ _. λ heading bytes. (refl, g.1)) (λ _. (tt, g.1))))),
  ),
)

first_goes : (s : Stand) (h : Holder) (now : ℕ) (heading : Heading) (bytes : List ℕ) (after : Program) → s ≡ behind_message heading → Aims Calm after → Aims s (first_put h now heading bytes after)
first_goes s h now heading bytes after is g = (
  tt,
  λ found _. (
    s,
    inl refl,
    way s (vref_version found % 2 == 0) (PutBytes h.link false (part heading.parts bytes 0) (put_answered h now heading bytes 0 after)) (Write (Puts h now heading bytes 0 false) after)
        (λ _. put_goes s h now heading bytes 0 after is g) (λ _. (is, g)),
  ),
)

write_goes : (id q own : ℕ) (after : Program) → Aims Calm after → Aims Calm (write_link id q own after)
write_goes id q own after g = (tt, λ k _. (Calm, inl refl, λ places. λ heading bytes. first_goes (behind_message heading) (record { id = id; link = k; last = own; places = places }) own heading bytes after refl g))

-- ## Messages

accept_goes : (s : Stand) (id q g : ℕ) (heading : Heading) (bytes : List ℕ) (after : Program) → MayPut s (OnMessage (PutMessage q heading bytes)) → Aims Calm after → Aims s (accept id q g heading bytes after)
accept_goes s id q g heading bytes after may goes = (
  may,
  λ _ _. (Calm, inr (inl refl), (tt, λ _ _. (Calm, inl refl, (tt, λ found _. (Calm, inl refl, swapped found))))),
)
  where
    swapped : (found : ℕ) → Aims Calm (cond (nat_lt found IDLE) (Do (OnChain (Connect q found)) (λ _. after)) (write_link id q (ticket_of q g) after))
    swapped found = way Calm (nat_lt found IDLE) (Do (OnChain (Connect q found)) (λ _. after)) (write_link id q (ticket_of q g) after) (λ _. (words Calm).step (OnChain (Connect q found)) (λ _. after) refl (λ _. goes)) (λ _. write_goes id q (ticket_of q g) after goes)

claims_goes : (s : Stand) (more q id : ℕ) (heading : Heading) (bytes : List ℕ) (full accepted : Program) → (heading.owner ≡ 0) ⊎ (s ≡ Past heading.owner heading.label.attempt) → Aims s full → Aims Calm accepted → Aims s (claims_from more q id heading bytes full accepted)
claims_goes s zero q id heading bytes full accepted may none_ goes = none_
claims_goes s (suc more) q id heading bytes full accepted may none_ goes = (
  tt,
  λ found _. (
    s,
    inl refl,
    way s (found % 2 == 0) (accept id q (found / 2) heading bytes accepted) (claims_from more (q + 1) id heading bytes full accepted)
        (λ _. accept_goes s id q (found / 2) heading bytes accepted may goes) (λ _. claims_goes s more (q + 1) id heading bytes full accepted may none_ goes),
  ),
)

-- ## Attempts

module _ (requests : ℕ) (asked : Asked) (id n socket : ℕ) (next : Program) (few : n ≤ 6) (goes : Aims Calm next) where
  refused_goes : (code : ℕ) → Aims (Past id n) (post id code n (release (socket_id_slot socket) (λ _. next)))
  refused_goes code = post_goes (Past id n) id code n (release (socket_id_slot socket) (λ _. next)) (inl refl) (through_release (Aims Calm) (words Calm) (socket_id_slot socket) (λ _. next) (λ _. goes))

  looks_goes : (heading : Heading) (bytes : List ℕ) → (heading.owner ≡ 0) ⊎ (Past id n ≡ Past heading.owner heading.label.attempt) → Aims (Past id n) (Do (OnSlot (LookWord socket)) (λ found. cond (eqb (vref_version found % 2) 0)
      (claims_from requests 0 socket heading bytes (post id 3001 n (release (socket_id_slot socket) (λ _. next))) (release (socket_id_slot socket) (λ _. next))) (post id 1009 n (release (socket_id_slot socket) (λ _. next)))))
  looks_goes heading bytes may = (
    tt,
    λ found _. (
      Past id n,
      inl refl,
      way (Past id n) (eqb (vref_version found % 2) 0) (claims_from requests 0 socket heading bytes (post id 3001 n (release (socket_id_slot socket) (λ _. next))) (release (socket_id_slot socket) (λ _. next)))
          (post id 1009 n (release (socket_id_slot socket) (λ _. next)))
          (λ _. claims_goes (Past id n) requests 0 socket heading bytes (post id 3001 n (release (socket_id_slot socket) (λ _. next))) (release (socket_id_slot socket) (λ _. next)) may (refused_goes 3001) (through_release (Aims Calm) (words Calm) (socket_id_slot socket) (λ _. next) (λ _. goes)))
          (λ _. refused_goes 1009),
    ),
  )

  pub attempt_goes : Aims (Trying id n) (attempt requests asked id n socket next)
  attempt_goes = through_address (Aims (Trying id n)) (words (Trying id n)) socket (Do (OnSlot (FindLink (socket_id_slot socket) (socket_id_version socket))) (λ k. Aside (StoreAt asked.operation (at_word (id_first id) (id_slot id) k n)) (λ _. Do (OnSlot (LookWord socket)) (λ found. cond (eqb (vref_version found % 2) 0)
      (claims_from requests 0 socket (heading_for asked id n) (frame_of asked id n) (post id 3001 n (release (socket_id_slot socket) (λ _. next))) (release (socket_id_slot socket) (λ _. next))) (post id 1009 n (release (socket_id_slot socket) (λ _. next)))))))
      (λ _. post id 1009 n next)
      (tt, λ k low. (Trying id n, inl refl, (tt, λ _ _. (Past id n, (id, n, k, refl, refl, low, few, refl), looks_goes (heading_for asked id n) (frame_of asked id n) (inr refl)))))
      (λ _. post_goes (Trying id n) id 1009 n next (inr (inr (id, n, refl, refl))) goes)

-- ## Calls

begin_goes : (requests socket i : ℕ) (asked : Asked) (next : Program) → Aims Calm next → Aims Calm (begin_call requests socket i asked next)
begin_goes requests socket i asked next goes = (
  tt,
  λ _ _. (
    Calm,
    inl refl,
    (
      tt,
      λ found _. (
        Trying (call_id i (parts found).first) 0,
        refl,
        (tt, λ _ _. (Trying (call_id i (parts found).first) 0, inl refl, attempt_goes requests asked (call_id i (parts found).first) 0 socket next (omega arith) goes)),
      ),
    ),
  ),
)

claim_goes : (more i requests socket : ℕ) (asked : Asked) (next : Program) → Aims Calm next → Aims Calm (claim_id more i requests socket asked next)
claim_goes zero i requests socket asked next goes = goes
claim_goes (suc more) i requests socket asked next goes = (
  tt,
  λ found _. (
    Calm,
    inl refl,
    way Calm (eqb found 0) (begin_call requests socket i asked next) (claim_id more (i + 1) requests socket asked next) (λ _. begin_goes requests socket i asked next goes) (λ _. claim_goes more (i + 1) requests socket asked next goes),
  ),
)

call_goes : (requests ids : ℕ) (asked : Asked) (next : Program) → Aims Calm next → Aims Calm (call requests ids asked next)
call_goes requests ids asked next goes = (
  tt,
  λ word _. (Calm, inl refl, way Calm (eqb word 0) (Say asked.operation outcomes.Unopened next) (claim_id ids 0 requests (word - 1) asked next) (λ _. goes) (λ _. claim_goes ids 0 requests (word - 1) asked next goes)),
)

-- ## Retries

module _ (requests id n : ℕ) (next : Program) (few : n ≤ 6) (goes : Aims Calm next) where
  tried_goes : (asked : Asked) (exit : Unlocking) → ((w e : ℕ) → exit ≡ HasNext w e → ((parts w).first ≡ id_first id) × (attempt_of e ≡ WHOLE)) → Aims (Trying id n) (tried_again requests id n asked next exit)
  tried_goes asked (IsOpen w) first = (
    tt,
    λ word _. (
      Trying id n,
      inl refl,
      way (Trying id n) (eqb word 0) (post id 1009 n next) (attempt requests asked id n (word - 1) next) (λ _. post_goes (Trying id n) id 1009 n next (inr (inr (id, n, refl, refl))) goes) (λ _. attempt_goes requests asked id n (word - 1) next few goes),
    ),
  )
  tried_goes asked (HasNext w e) first = decide_goes (Trying id n) Calm id w e (decided id next) (inr (inl refl)) (first w e refl).0 (inl (first w e refl).1) (decided_goes id next goes)

  locked_goes : (exit : Locking) → LeavesLock (First (id_first id)) exit → Aims (locked_stand exit (Trying id n)) (retry_locked requests id n next exit)
  locked_goes (NotThere w) l = goes
  locked_goes (Has w) l = (
    tt,
    λ asked _. (
      Trying id n,
      inl refl,
      (
        tt,
        λ _ _. (
          Trying id n,
          inl refl,
          ((n, ap (λ x. Trying x n) (sym (ap (call_id (id_slot id)) l ∙ id_back id))), λ exit m. tried_goes asked exit (λ x e is. (let y = next_is (parts w).first exit m.1 x e is in (y.0 ∙ l, y.1)))),
        ),
      ),
    ),
  )

  pub retry_goes : Aims (Trying id n) (retry requests id n next)
  retry_goes = (tt, locked_goes)

-- ## The other operations on calls

expired_goes : (id o : ℕ) (next : Program) → Aims Calm next → (how : Posting) → LeavesStand (Posts id (error_of 1008 7) 0) how → Aims (posted_stand id (error_of 1008 7) how) (posted id (error_of 1008 7) (Say o (expire_outcome how) next) how)
expired_goes id o next goes how l = posted_goes id (error_of 1008 7) (Say o (expire_outcome how) next) goes how l

expire_goes : (o t : ℕ) (next : Program) → Aims Calm next → Aims Calm (expire o t next)
expire_goes o t next goes = (
  tt,
  λ id _. (
    Calm,
    inl refl,
    way Calm (eqb id 0) (Say o outcomes.NotBegun next) (post_with id (error_of 1008 7) (λ how. posted id (error_of 1008 7) (Say o (expire_outcome how) next) how))
        (λ _. goes)
        (λ _. post_with_goes Calm Calm id (error_of 1008 7) (λ how. posted id (error_of 1008 7) (Say o (expire_outcome how) next) how) (inl refl) (inl (omega arith)) (λ how l. expired_goes id o next goes how l)),
  ),
)

join_goes : (o t : ℕ) (next : Program) → Aims Calm next → Aims Calm (join o t next)
join_goes o t next goes = (tt, λ id _. (Calm, inl refl, way Calm (eqb id 0) (Say o outcomes.NotBegun next) (Round (Joins id) (λ _. Say o outcomes.Joined next)) (λ _. goes) (λ _. (tt, λ _ _. goes))))

-- ## Clients

claim_from_goes : (more q o id : ℕ) (bytes : List ℕ) (next : Program) → Aims Calm next → Aims Calm (claim_from more q o id bytes next)
claim_from_goes zero q o id bytes next goes = through_release (Aims Calm) (words Calm) (socket_id_slot id) (λ _. Say o outcomes.Full next) (λ _. goes)
claim_from_goes (suc more) q o id bytes next goes = (
  tt,
  λ found _. (
    Calm,
    inl refl,
    way Calm (found % 2 == 0) (accept id q (found / 2) (heading_of o) bytes (release (socket_id_slot id) (λ _. Sent o next))) (claim_from more (q + 1) o id bytes next)
        (λ _. accept_goes Calm id q (found / 2) (heading_of o) bytes (release (socket_id_slot id) (λ _. Sent o next)) (inl refl) (through_release (Aims Calm) (words Calm) (socket_id_slot id) (λ _. Sent o next) (λ _. goes)))
        (λ _. claim_from_goes more (q + 1) o id bytes next goes),
  ),
)

send_goes : (requests o name : ℕ) (bytes : List ℕ) (next : Program) → Aims Calm next → Aims Calm (send requests o name bytes next)
send_goes requests o name bytes next goes = through_reach (Aims Calm) (words Calm) name (Say o outcomes.Unopened next) (λ id. start requests o id bytes next) (λ found. Say o (outcomes.Gone (record { 0 = found })) next) goes
    (λ id. (
      tt,
      λ found _. (
        Calm,
        inl refl,
        way Calm (vref_version found % 2 == 0) (claim_from requests 0 o id bytes next) (release (socket_id_slot id) (λ _. Say o (outcomes.Gone (record { 0 = found })) next))
            (λ _. claim_from_goes requests 0 o id bytes next goes) (λ _. through_release (Aims Calm) (words Calm) (socket_id_slot id) (λ _. Say o (outcomes.Gone (record { 0 = found })) next) (λ _. goes)),
      ),
    ))
    (λ found. goes)

operation_goes : (sizes : Sizes) (held : List HeldLife) (o : ℕ) (next : List HeldLife → Program) (op : Op) → ((hs : List HeldLife) → Aims Calm (next hs)) → Aims Calm (operation sizes held o next op)
operation_goes sizes held o next (ops.Open name k) goes = through_open (Aims Calm) (words Calm) (others_make (Aims Calm) (others Calm)) sizes.slots 0 o name k (next held) (goes held)
operation_goes sizes held o next (ops.Send name bytes) goes = send_goes sizes.requests o name bytes (next held) (goes held)
operation_goes sizes held o next (ops.Call asked) goes = call_goes sizes.requests sizes.ids asked (next held) (goes held)
operation_goes sizes held o next (ops.Expire t) goes = expire_goes o t (next held) (goes held)
operation_goes sizes held o next (ops.Join t) goes = join_goes o t (next held) (goes held)
operation_goes sizes held o next (ops.Hold name) goes = through_hold (Aims Calm) (words Calm) o name (λ id. next (held ++ (record { name = name; id = id }) ∷ [])) (next held) (λ id. goes (held ++ (record { name = name; id = id }) ∷ [])) (goes held)
operation_goes sizes held o next (ops.Drop name) goes = through_drop_of (Aims Calm) (words Calm) o (held_under name held) (next (without_name name held)) (goes (without_name name held))
operation_goes sizes held o next (ops.Fail name code) goes = through_fail (Aims Calm) (words Calm) o name code (next held) (fails Calm code) (goes held)

pub client_goes : (sizes : Sizes) (held : List HeldLife) (ts : List Task) → Aims Calm (client_from sizes held ts)
client_goes sizes held [] = through_back (Aims Calm) (words Calm) tt held
client_goes sizes held (t ∷ ts) = operation_goes sizes held t.number (λ held'. client_from sizes held' ts) t.op (λ hs. client_goes sizes hs ts)

-- ## The ending

pub ending_goes : (os : List ℕ) → Aims Calm (ending_of os)
ending_goes [] = tt
ending_goes (o ∷ os) = (tt, λ word _. (Calm, inl refl, through_ended (Aims Calm) (words Calm) (fails Calm 1014) word (ending_of os) (ending_goes os)))

-- ## Readers

ends_goes : (id e w : ℕ) (kept : List Frame) (next : Program) → (parts w).first ≡ id_first id → Aims Calm next → Aims (Posted id e) (ends_with id e w kept next)
ends_goes id e w [] next first goes = decide_goes (Posted id e) (Posted id e) id w e (decided id next) (inl refl) first (inr refl) (decided_goes id next goes)
ends_goes id e w (f ∷ fs) next first goes = answer_goes (Posted id e) f (id_first id) next goes

last_goes : (id e : ℕ) (kept : List Frame) (next : Program) → Aims Calm next → (exit : Posting) → LeavesStand (Posts id e 0) exit → Aims (posted_stand id e exit) (posted_last id e kept next exit)
last_goes id e kept next goes (HasLocked w) l = ends_goes id e w (kept_for id (parts w).range kept) next l goes
last_goes id e kept next goes _ l = goes

-- behind an at word that was loaded
abbrev Loaded : ℕ → Program → Type 0
Loaded w x = (u : Stand) × (Eases Calm u ⊎ ((w ≢ 0) × (u ≡ Past (call_id (at_word_slot w) (at_word_first w)) (at_word_attempt w)))) × Aims u x

each_goes : (os : List ℕ) (k code : ℕ) (kept : List Frame) (next : Program) → Aims Calm next → Aims Calm (post_each os k code kept next)
each_goes [] k code kept next goes = goes
each_goes (o ∷ os) k code kept next goes = (tt, λ w _. by (each_goes os k code kept next goes) w (eqb w 0) refl (eqb (at_word_link w) k))
  where
    by : Aims Calm (post_each os k code kept next) → (w : ℕ) (z : Bool) → eqb w 0 ≡ z → (s : Bool) → Loaded w (cond z (post_each os k code kept next) (cond s (post_with (call_id (at_word_slot w) (at_word_first w)) (error_of code (at_word_attempt w))
        (posted_last (call_id (at_word_slot w) (at_word_first w)) (error_of code (at_word_attempt w)) kept (post_each os k code kept next))) (post_each os k code kept next)))
    by more w true none_ s = (Calm, inl (inl refl), more)
    by more w false some_ true = (
      Past (call_id (at_word_slot w) (at_word_first w)) (at_word_attempt w),
      inr (not_equal w 0 some_, refl),
      post_with_goes (Past (call_id (at_word_slot w) (at_word_first w)) (at_word_attempt w)) (Past (call_id (at_word_slot w) (at_word_first w)) (at_word_attempt w)) (call_id (at_word_slot w) (at_word_first w)) (error_of code (at_word_attempt w))
          (posted_last (call_id (at_word_slot w) (at_word_first w)) (error_of code (at_word_attempt w)) kept (post_each os k code kept next)) (inl refl) (inr (code, at_word_attempt w, refl, refl))
          (last_goes (call_id (at_word_slot w) (at_word_first w)) (error_of code (at_word_attempt w)) kept (post_each os k code kept next) more),
    )
    by more w false some_ false = (Calm, inl (inl refl), more)

thrown_goes : (how : Ended) → Aims Calm (thrown_away how)
thrown_goes how = way Calm (how.fault && nat_lt how.reading.total LIMIT) (Round (Discards how.reading.link how.reading.total) (λ _. Rest)) Rest (λ _. (tt, λ _ _. tt)) (λ _. tt)

read_goes : (calls : List ℕ) (how : Ended) → Aims Calm (read calls how)
read_goes calls how = through_read_end (Aims Calm) (words Calm) calls how (fails Calm how.code) (each_goes calls how.reading.link how.code how.reading.kept (thrown_away how) (thrown_goes how))

pub reader_goes : (calls : List ℕ) (k o : ℕ) → Aims Calm (reader calls k o)
reader_goes calls k o = (tt, λ word _. way Calm (word == NO_SOCKET) Rest (Round (Reads (record { ids = length calls; link = k; id = word - 1; rest = []; total = 0; kept = [] })) (read calls)) (λ _. tt) (λ _. (tt, λ how _. read_goes calls how)))
