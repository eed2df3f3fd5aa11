-- Where a program goes on behind each step.
use Rattle.std.proofs.lemmas.Bool.Decides.{nat_tests}
use Rattle.sock_words.specs.declared.vref.Vref.{Vref}
use Rattle.std.proofs.Math.Path.{fun_ext}
use Rattle.std.proofs.Common.{ap, zero, suc, if◌then◌else◌, List, Option, Some, None, ◌≢◌, ◌≡◌, refl, ℕ, ◌+◌, ◌-◌, ◌/◌, ◌%◌, ◌==◌, ◌||◌, Bool, true, false, not, nat_le, length, sym, arith}
use Rattle.sock_words.specs.declared.ticket.Ticket.{Ticket}
use Rattle.sock_words.specs.PackedWords.{socket_id_slot, socket_id_version, vref_version, ticket, ticket_request, NO_SOCKET}
use Rattle.sock_io.specs.declared.link.Put.TheVariants as puts
use Rattle.sock_model.specs.Entries.{ticket_of}
use Rattle.sock_words.specs.declared.outcome.Outcome.TheVariants.{Full, Expired}
use Rattle.seat_programs.specs.TableSteps.{OnChain, ClaimRequest}
use Rattle.seat_programs.specs.LoopHeads.{Posting, HasLocked}
use Rattle.seat_programs.specs.PostPrograms.{post, posted}
use Rattle.seat_programs.specs.sock_message.specs.Asked.{Asked}
use Rattle.seat_programs.specs.CallAndRetryPrograms.{claims_from, expire_outcome}
use Rattle.seat_programs.specs.SendAndWritePrograms.{claim_from, heading_of, accept, one_more, freed, passed_telling}
use Rattle.seat_programs.specs.Writings as heads
use Rattle.seat_programs.specs.Programs.{Program, Do, Say, Sent, TakeMessage, Write, release}
use Rattle.id_points.specs.IdsAndAttemptNumbers.{id_of, number_of}
use Rattle.call_points.specs.declared.deciding.OnCall.{OnCall}
use Rattle.call_points.specs.declared.word_step.WordStep.TheVariants as id_steps
use Rattle.seat_states.specs.declared.point.Attempt.{Attempt}
use Rattle.seat_states.specs.declared.point.AttemptStep.TheVariants as attempts
use Rattle.seat_states.specs.declared.point.Author.{Author}
use Rattle.seat_states.specs.declared.point.Author.TheVariants as authors
use Rattle.seat_states.specs.declared.point.AfterStep.{AfterStep}
use Rattle.seat_states.specs.declared.point.AfterStep.TheVariants as afters
use Rattle.seat_states.specs.declared.point.Next.TheVariants as nexts
use Rattle.seat_states.specs.declared.point.Point.TheVariants as points
use Rattle.seat_states.specs.declared.point.Continuation.TheVariants as thens
use Rattle.seat_states.specs.declared.point.Opening.{Opening}
use Rattle.seat_states.specs.declared.point.OpenStep.TheVariants as opens
use Rattle.seat_states.specs.declared.point.Aim.{Aim}
use Rattle.seat_states.specs.declared.point.Aim.TheVariants as aims
use Rattle.seat_states.specs.declared.point.SeekStep.TheVariants as seeks
use Rattle.seat_states.specs.declared.point.ReleaseStep.TheVariants as releases
use Rattle.sock_words.specs.declared.socket_id.SocketId.{SocketId}
use Rattle.seat_states.specs.declared.point.Sending.{Sending}
use Rattle.seat_states.specs.declared.point.SendStep.TheVariants as sends
use Rattle.seat_states.specs.declared.point.Writer.{Writer}
use Rattle.seat_states.specs.declared.point.MessageInHand.{MessageInHand}
use Rattle.seat_states.specs.declared.point.WriteStep.{WriteStep}
use Rattle.seat_states.specs.declared.point.WriteStep.TheVariants as writes
use Rattle.call_points.specs.AsideCodeSteps.{after_word}
use Rattle.seat_states.specs.ProgramAtPoint.{Context, client_on, holder_of, error_by, told, failed_look, look_program, claims_program, sent_program, written_program, behind_drop, after_program, refused_program, posted_program, with_asked, next_program, unopened_program, attempt_program, IsRefused, release_on, open_program, seek_program, release_program, send_program, write_program, then_program, gone_then, has_life, after_put, with_put}

-- a claimed slot gets its link, and then its head
pub links : (a : Context) (g : Opening) (i found : ℕ) → open_program a g (opens.ResetHead i) ≡ after_word (open_program a g (opens.StoreLink i)) found
links a g i found = refl

-- a link that no socket got is taken, and then its half is ended
pub takes : (a : Context) (g : Opening) (found : ℕ) → open_program a g opens.FinishLink ≡ after_word (open_program a g opens.TakeLink) found
takes a g found = refl

not_true : (b : Bool) → not b ≡ true → b ≡ false
not_true true h = sym h
not_true false h = refl

or_false : (b c : Bool) → (b || c) ≡ false → (b ≡ false) × (c ≡ false)
or_false true c h = cc
or_false false c h = (refl, h)

-- where the word is the id of a life, this life is addressed
pub seeks_life : (a : Context) (aim : Aim) (found : ℕ) → has_life aim found ≡ true → seek_program a aim (seeks.AddRef (record { 0 = found - 1 })) ≡ after_word (seek_program a aim seeks.Load) found
seeks_life a (aims.Hold o name) found h = rw (not_true (found == 0) h) refl
seeks_life a (aims.Send o name) found h = rw (not_true (found == 0) h) refl
seeks_life a (aims.Fail o name code) found h = rw (not_true (found == 0) h) refl
seeks_life a (aims.End o) found h =
    let e = or_false (found == 0) (found == NO_SOCKET) (not_true _ h) in
    rw (e.0, e.1) refl

-- what was added to the word of another version is taken back
pub seeks_gone : (a : Context) (aim : Aim) (i found : ℕ) → release_program a i (gone_then aim found) releases.SubRef ≡ release i (λ _. then_program a (gone_then aim found) false)
seeks_gone a (aims.Hold o name) i found = refl
seeks_gone a _ i found = refl

-- who wins the exchange loads the link of the slot
pub recycles : (i : ℕ) (k : Bool → Program) (from : Vref) (found : ℕ) → found ≡ from.0 → release_on i k (releases.LoadLink (vref_version from.0 + 1)) ≡ after_word (release_on i k (releases.Recycle from)) found
recycles i k from found h =
    let e : (found == from.0) ≡ true = grind (arith, nat_tests) in
    rw e refl

-- the life is addressed where the version is its own
pub seeks_reached : (a : Context) (aim : Aim) (id : SocketId) (found : ℕ) → vref_version found ≢ socket_id_version id.0 → release_program a (socket_id_slot id.0) (gone_then aim found) releases.SubRef ≡ after_word (seek_program a aim (seeks.AddRef id)) found
seeks_reached a aim id found h =
    let e : (vref_version found == socket_id_version id.0) ≡ false = grind (arith, nat_tests) in
    rw e (seeks_gone a aim (socket_id_slot id.0) found)

-- ## Sending

-- an odd version isn't even
pub odd_version : (version : ℕ) → version % 2 ≡ 1 → (version % 2 == 0) ≡ false
odd_version version h = rw h refl

-- a `send` goes over its requests as an attempt does
sends_claims : (more q o id : ℕ) (bytes : List ℕ) (next : Program) →
    claim_from more q o id bytes next ≡ claims_from more q id (heading_of o) bytes (release (socket_id_slot id) (λ _. Say o Full next)) (release (socket_id_slot id) (λ _. Sent o next))
sends_claims zero q o id bytes next = refl
sends_claims (suc more) q o id bytes next =
    let full = release (socket_id_slot id) (λ _. Say o Full next) in
    let sent = release (socket_id_slot id) (λ _. Sent o next) in
    ap (λ g. let p : Program = Do (OnChain (ClaimRequest id q)) g in p) (fun_ext (λ found.
    ap (λ p. let r : Program = if found % 2 == 0 then accept id q (found / 2) (heading_of o) bytes sent else p in r) (sends_claims more (q + 1) o id bytes next)))

-- behind a look that found the life live, the first request is tried
looks_live : (a : Context) (author : Author) (id : SocketId) (found : ℕ) → (vref_version found % 2 == 0) ≡ true →
    claims_program a (record { author = author; id = id }) a.sizes.requests 0 ≡ after_word (look_program a author id.0) found
looks_live a (authors.Send o) id found e = rw e (sym (sends_claims a.sizes.requests 0 o id.0 a.message (client_on a)))
looks_live a (authors.Attempt t) id found e = rw e refl

pub looks_on : (a : Context) (s : Sending) (requests found : ℕ) → a.sizes.requests ≡ requests → (vref_version found % 2 == 0) ≡ true → claims_program a s (requests - 0) 0 ≡ after_word (look_program a s.author s.id.0) found
looks_on a s requests found same e =
    let n : requests - 0 ≡ a.sizes.requests = omega (arith, same) in
    rw n (looks_live a s.author s.id found e)

-- and behind one that found it failed
looks_dead : (a : Context) (author : Author) (id found : ℕ) → (vref_version found % 2 == 0) ≡ false → failed_look a author id found ≡ after_word (look_program a author id) found
looks_dead a (authors.Send o) id found e = rw e refl
looks_dead a (authors.Attempt t) id found e = rw e refl

pub looks_failed : (a : Context) (s : Sending) (found : ℕ) → vref_version found % 2 ≡ 1 → failed_look a s.author s.id.0 found ≡ after_word (look_program a s.author s.id.0) found
looks_failed a s found odd = looks_dead a s.author s.id.0 found (odd_version (vref_version found) odd)

-- a request that was free is claimed, in the generation that its word had
pub claims : (a : Context) (s : Sending) (q found : ℕ) (own : Ticket) → found % 2 ≡ 0 → own.0 ≡ ticket false (found / 2) q → send_program a s (sends.PutMessage q own) ≡ after_word (send_program a s (sends.Claim q)) found
claims a s q found own even is =
    let e : (found % 2 == 0) ≡ true = rw even refl in
    let f : own.0 ≡ ticket_of q (found / 2) = omega (arith, is) in
    rw (e, f) refl

-- ## Writing

-- a put that took all that was left
pub took_all : (a : Context) (w : Writer) (c : MessageInHand) (asked : Bool) (n : ℕ) → nat_le (length a.left) n ≡ true → write_program (with_put (puts.Took n) a) w (writes.StorePlace c) ≡ after_put (write_program a w (writes.Put c asked)) (puts.Took n)
took_all a w c asked n e = rw e refl

-- and one that took a part
pub took_part : (a : Context) (w : Writer) (c : MessageInHand) (asked : Bool) (n : ℕ) → nat_le (length a.left) n ≡ false → write_program (with_put (puts.Took n) a) w (writes.Look c false) ≡ after_put (write_program a w (writes.Put c asked)) (puts.Took n)
took_part a w c asked n e = rw e refl

-- a step that goes by a test
pub writes_by : (a : Context) (w : Writer) (b : Bool) (x y : WriteStep) → next_program a (nexts.Point (points.Write w (if b then x else y))) ≡ (if b then write_program a w x else write_program a w y)
writes_by a w true x y = refl
writes_by a w false x y = refl

-- a message has its place, and is the last or not
pub passes : (a : Context) (w v : Writer) (now : Ticket) (c : Option OnCall) (last : Bool) → holder_of v.holder ≡ one_more (holder_of w.holder) → v.author ≡ w.author → (now.0 == w.holder.last.0) ≡ last →
    (if last then freed now.0 (behind_drop a v c None) else write_program a v (writes.ReadNext now c)) ≡ passed_telling (one_more (holder_of w.holder)) now.0 (told c) (written_program a w)
passes a w v now c is_last h author e =
    let id : v.holder.id.0 ≡ w.holder.id.0 = ap (λ (h : heads.Holder). h.id) h in
    let link : v.holder.link ≡ w.holder.link = ap (λ (h : heads.Holder). h.link) h in
    let last : v.holder.last.0 ≡ w.holder.last.0 = ap (λ (h : heads.Holder). h.last) h in
    let places : v.holder.places ≡ w.holder.places + 1 = ap (λ (h : heads.Holder). h.places) h in
    rw (id, link, last, places, author, e) refl

-- ## Behind an error

-- an attempt tells its call of an error
pub posts : (a : Context) (t : Attempt) (n : ℕ) (slot : Option ℕ) → next_program a (nexts.Point (points.Post (error_by t n) (afters.Attempt slot) id_steps.Read)) ≡ post (id_of t.id) n (number_of t.number) (after_program a (afters.Attempt slot))
posts a t n slot = refl

-- a post that has no lock
refuses : (id e : ℕ) (next : Program) (how : Posting) → IsRefused how → next ≡ posted id e next how
refuses id e next (HasLocked w) r = absurd r
refuses id e next _ r = refl

-- an `expire` that ended its call tells that
pub expires : (a : Context) (after : AfterStep) → refused_program a after Expired ≡ after_program a after
expires a (afters.Expire o) = refl
expires a after = refl

pub refused : (a : Context) (c : OnCall) (after : AfterStep) (how : Posting) → IsRefused how → refused_program a after (expire_outcome how) ≡ posted_program a c after how
refused a c (afters.Attempt slot) how r = refuses (id_of c.id) c.error.0 (after_program a (afters.Attempt slot)) how r
refused a c (afters.Expire o) how r = refuses (id_of c.id) c.error.0 (Say o (expire_outcome how) (client_on a)) how r
refused a c (afters.Drop w next) how r = refuses (id_of c.id) c.error.0 (after_program a (afters.Drop w next)) how r

-- what follows an error is the same with another call in hand
sent_asked : (a : Context) (asked : Asked) (author : Author) (id : ℕ) → sent_program (with_asked asked a) author id ≡ sent_program a author id
sent_asked a asked (authors.Send o) id = refl
sent_asked a asked (authors.Attempt t) id = refl

pub after_asked : (a : Context) (asked : Asked) (after : AfterStep) → after_program (with_asked asked a) after ≡ after_program a after
after_asked a asked (afters.Attempt None) = refl
after_asked a asked (afters.Attempt (Some i)) = refl
after_asked a asked (afters.Expire o) = refl
after_asked a asked (afters.Drop w None) = ap (λ p. let r : Program = Write (heads.Empties (holder_of w.holder)) p in r) (sent_asked a asked w.author w.holder.id.0)
after_asked a asked (afters.Drop w (Some next)) =
    ap (λ p. let r : Program = TakeMessage (ticket_request next.0) (λ heading bytes. Write (heads.Puts (holder_of w.holder) next.0 heading bytes 0 false) p) in r) (sent_asked a asked w.author w.holder.id.0)

-- ## The way to a life

none_of : (b c : Bool) (p q : Program) → (b || c) ≡ true → p ≡ (if b then p else if c then p else q)
none_of true c p q e = refl
none_of false true p q e = refl
none_of false false p q e = absurd (cc)

not_false : (b : Bool) → not b ≡ false → b ≡ true
not_false true h = refl
not_false false h = sym h

-- the word is the id of no life
pub seeks_none : (a : Context) (aim : Aim) (found : ℕ) → has_life aim found ≡ false → unopened_program a aim ≡ after_word (seek_program a aim seeks.Load) found
seeks_none a (aims.Hold o name) found h = rw (not_false (found == 0) h) refl
seeks_none a (aims.Send o name) found h = rw (not_false (found == 0) h) refl
seeks_none a (aims.Fail o name code) found h = rw (not_false (found == 0) h) refl
seeks_none a (aims.End o) found h = none_of (found == 0) (found == NO_SOCKET) a.ends _ (not_false _ h)

-- an attempt found another version than that of its socket
pub attempts_gone : (a : Context) (t : Attempt) (socket : SocketId) (found : ℕ) → vref_version found ≢ socket_id_version socket.0 →
    release_program a (socket_id_slot socket.0) (thens.Unreached t) releases.SubRef ≡ after_word (attempt_program a t socket attempts.AddRef) found
attempts_gone a t socket found h =
    let e : (vref_version found == socket_id_version socket.0) ≡ false = grind (arith, nat_tests) in
    rw e refl
