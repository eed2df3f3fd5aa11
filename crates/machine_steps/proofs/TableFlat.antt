-- Behind a step on a word no call has ended, and no retry is kept.
use Rattle.std.proofs.Common.{◌≡◌, refl, ℕ, zero, suc, ◌+◌, ◌-◌, ◌/◌, ◌%◌, ◌==◌, ◌&&◌, Bool, true, false, nat_lt, nat_le, if◌then◌else◌, List, Option, Some, None, sym, subst}
use Rattle.corr_core.specs.IdSlotWord.{parts, code_of}
use Rattle.corr_core.specs.EndedByRangeOrAttempt.{ends_call}
use Rattle.sock_words.specs.PackedWords.{socket_id_version, socket_id_slot, vref_version, vref_nref, ticket_request, ticket_generation, id_slot, IDLE, UNCONNECTED}
use Rattle.sock_words.specs.declared.socket_id.SocketId.{SocketId}
use Rattle.sock_words.specs.declared.outcome.Outcome.{Outcome}
use Rattle.sock_words.specs.declared.outcome.Outcome.TheVariants.{CallFailed, Unopened, Failed, Already}
use Rattle.sock_message.specs.Asked.{Asked}
use Rattle.sock_model.specs.declared.chain.Heading.{Heading}
use Rattle.id_points.specs.IdsAndAttemptNumbers.{id_of, number_of}
use Rattle.seat_programs.specs.Asides.{PutCall}
use Rattle.seat_programs.specs.LoopHeads.{HasEnded, Unlocks}
use Rattle.seat_programs.specs.PostPrograms.{post, end_id, unlocked, decided}
use Rattle.seat_programs.specs.CallAndRetryPrograms.{claims_from, attempt, claim_id}
use Rattle.seat_programs.specs.TableSteps as calls
use Rattle.seat_programs.specs.ClientProgram.{HeldLife}
use Rattle.seat_programs.specs.Writings as heads
use Rattle.seat_programs.specs.Programs.{Program, Do, TakeMessage, Say, Rest, Aside, Round, Keep, Write, LAST_VERSION, LAST_GENERATION, recycle, release, make_socket, open_from}
use Rattle.seat_programs.specs.SendAndWritePrograms.{one_more, freed, passed_telling, tell_drop, dropped, write_link, accept, claim_from}
use Rattle.call_points.specs.AsideCodeSteps.{after_word}
use Rattle.call_points.specs.declared.deciding.OnCall.{OnCall}
use Rattle.call_points.specs.declared.deciding.DecideStep.TheVariants as decides
use Rattle.call_points.specs.declared.word_step.WordStep.TheVariants as id_steps
use Rattle.seat_states.specs.declared.point.OpenStep.TheVariants as opens
use Rattle.seat_states.specs.declared.point.SeekStep.TheVariants as seeks
use Rattle.seat_states.specs.declared.point.Aim.TheVariants as aims
use Rattle.seat_states.specs.declared.point.FailStep.TheVariants as fails
use Rattle.seat_states.specs.declared.point.ReleaseStep.TheVariants as releases
use Rattle.seat_states.specs.declared.point.SendStep.TheVariants as sends
use Rattle.seat_states.specs.declared.point.WriteStep.TheVariants as writes
use Rattle.seat_states.specs.declared.point.Author.{Author}
use Rattle.seat_states.specs.declared.point.Author.TheVariants as authors
use Rattle.seat_states.specs.declared.point.CallStep.TheVariants as begins
use Rattle.seat_states.specs.declared.point.AttemptStep.TheVariants as attempts
use Rattle.seat_states.specs.declared.point.RetryStep.TheVariants as retries
use Rattle.seat_states.specs.declared.point.JoinStep.TheVariants as joins
use Rattle.seat_states.specs.declared.point.Point.{Point}
use Rattle.seat_states.specs.declared.point.Point.TheVariants as points
use Rattle.seat_states.specs.declared.point.Continuation.{Continuation}
use Rattle.seat_states.specs.declared.point.Continuation.TheVariants as thens
use Rattle.seat_states.specs.declared.point.ReleaseStep.{ReleaseStep}
use Rattle.seat_states.specs.declared.point.Aim.{Aim}
use Rattle.seat_states.specs.declared.point.Writer.{Writer}
use Rattle.seat_states.specs.declared.point.Next.{Next}
use Rattle.seat_states.specs.declared.point.Next.TheVariants as nexts
use Rattle.sock_words.specs.declared.ticket.Ticket.{Ticket}
use Rattle.seat_states.specs.declared.calling.Calling.{Calling}
use Rattle.seat_states.specs.declared.point.Attempt.{Attempt}
use Rattle.seat_states.specs.ProgramAtPoint.{Context, IsCalling, HasInHand, IsFramed, framed, point_program, next_program, then_program, gone_then, holder_of, heading_by, has_life, reached_program, unopened_program, seek_program, failed_program, fail_program, release_on, free_on, sent_program, full_program, claims_program, connect_program, look_program, failed_look, write_program, written_program, puts_program, put_piece, next_message, freed_program, told, tell, taken_again, walk_program, first_of_walk, find_program, after_program}
use Rattle.seat_states.specs.ProgramStepsOfMachine.{First, OfTable, first_of, first_in}
use Rattle.seat_states.proofs.ProgramBehindSteps.{seeks_life, seeks_none}
use Rattle.client_seats.specs.ClientSeatFollowing.{IsFlat}

-- it doesn't tell that a call ended, and keeps no retry
abbrev NoEnd : Program → Type 0
NoEnd (Say o (CallFailed id code) next) = ⊥
NoEnd (Keep r next) = ⊥
NoEnd other = Unit {0}

next_flat : (a : Context) (n : Next) → NoEnd (next_program a n) → IsFlat n
next_flat a (nexts.CallEnded o id c after) h = h
next_flat a (nexts.Kept id n after) h = h
next_flat a (nexts.KeptWith c n word after) h = h
next_flat a _ h = tt

either_none : (t : Bool) (x y : Program) → NoEnd x → NoEnd y → NoEnd (if t then x else y)
either_none true x y f g = f
either_none false x y f g = g

says_either : (o : ℕ) (t : Bool) (x y : Outcome) (next : Program) → NoEnd (Say o x next) → NoEnd (Say o y next) → NoEnd (Say o (if t then x else y) next)
says_either o true x y next f g = f
says_either o false x y next f g = g

by_cases : (t : Bool) (A : Type 0) → (t ≡ true → A) → (t ≡ false → A) → A
by_cases true A f g = f refl
by_cases false A f g = g refl

-- ## Loops, each of which may have no round left

opens_none : (more i o name k : ℕ) → NoEnd (open_from more i o name k Rest)
opens_none zero i o name k = tt
opens_none (suc more) i o name k = tt

claims_none : (more q id : ℕ) (heading : Heading) (bytes : List ℕ) (full accepted : Program) → NoEnd full → NoEnd (claims_from more q id heading bytes full accepted)
claims_none zero q id heading bytes full accepted h = h
claims_none (suc more) q id heading bytes full accepted h = tt

claim_none : (more q o id : ℕ) (bytes : List ℕ) → NoEnd (claim_from more q o id bytes Rest)
claim_none zero q o id bytes = tt
claim_none (suc more) q o id bytes = tt

ids_none : (more i requests socket : ℕ) (asked : Asked) → NoEnd (claim_id more i requests socket asked Rest)
ids_none zero i requests socket asked = tt
ids_none (suc more) i requests socket asked = tt

-- ## Messages that have their places

freed_none : (now : ℕ) (next : Program) → NoEnd next → NoEnd (freed now next)
freed_none now next h = either_none (ticket_generation now == LAST_GENERATION) next (Do (calls.OnChain (calls.FreeRequest (ticket_request now) (ticket_generation now))) (λ _. next)) h tt

tell_none : (heading : Heading) (code : ℕ) (next : Program) → NoEnd next → NoEnd (tell_drop heading code next)
tell_none heading code next h = either_none (heading.owner == 0) next (post heading.owner (if code == 0 then 1009 else code) heading.label.attempt next) h tt

passed_none : (h : heads.Holder) (now : ℕ) (tells : Program → Program) (after : Program) → ((next : Program) → NoEnd next → NoEnd (tells next)) → NoEnd (passed_telling h now tells after)
passed_none h now tells after told_ = either_none (now == h.last) (freed now (tells (Write (heads.Empties h) after)))
    (Do (calls.OnChain (calls.ReadNext (ticket_request now))) (λ next. freed now (tells (TakeMessage (ticket_request next) (λ heading bytes. Write (heads.Puts h next heading bytes 0 false) after)))))
    (freed_none now (tells (Write (heads.Empties h) after)) (told_ (Write (heads.Empties h) after) tt)) tt

told_none : (c : Option OnCall) (next : Program) → NoEnd next → NoEnd (told c next)
told_none None next h = h
told_none (Some c) next h = tt

-- ## Giving back

release_none : (i : ℕ) (k : Bool → Program) → ((freed : Bool) → NoEnd (k freed)) → (at : ReleaseStep) (found : ℕ) → NoEnd (after_word (release_on i k at) found)
release_none i k h releases.SubRef found = either_none ((vref_version found % 2 == 1) && (vref_nref found == 1)) (recycle i (found - 1) k) (k false) tt (h false)
release_none i k h (releases.Recycle from) found = either_none (found == from.0) (release_on i k (releases.LoadLink (vref_version from.0 + 1))) (k false) tt (h false)
release_none i k h (releases.LoadLink w) found = tt
release_none i k h (releases.TakeLink w l) found = tt
release_none i k h (releases.FinishLink w l) found = tt
release_none i k h (releases.PutLink w l) found = either_none (nat_le w LAST_VERSION) (free_on i k) (k true) tt (h true)
release_none i k h releases.FreeSlot found = h true

-- ## Points

-- where nothing is left to do behind the operation
abbrev pub bare : Context → Context
bare a = record a { goes_on = λ (hs : List HeldLife). Rest; ends = Rest }

module _ (a : Context) where
  abbrev b : Context
  b = bare a

  then_none : (t : Continuation) (freed : Bool) → NoEnd (then_program b t freed)
  then_none (thens.Failed o found) freed = says_either o (vref_version found.0 % 2 == 0) Failed (Already (record { 0 = found.0 })) Rest tt tt
  then_none (thens.Dropped o) true = tt
  then_none (thens.Dropped o) false = tt
  then_none _ freed = tt

  reached_none : (aim : Aim) (id : SocketId) → NoEnd (reached_program b aim id)
  reached_none (aims.Hold o n) id = tt
  reached_none _ id = tt

  unopened_none : (aim : Aim) → NoEnd (unopened_program b aim)
  unopened_none (aims.Hold o n) = tt
  unopened_none _ = tt

  added_none : (aim : Aim) (id : SocketId) → NoEnd (seek_program b aim (seeks.AddRef id))
  added_none (aims.Hold o n) id = tt
  added_none _ id = tt

  seek_none : (aim : Aim) (found : ℕ) → NoEnd (after_word (seek_program b aim seeks.Load) found)
  seek_none aim found = by_cases (has_life aim found) (NoEnd (after_word (seek_program b aim seeks.Load) found))
      (λ e. subst NoEnd (seeks_life b aim found e) (added_none aim (record { 0 = found - 1 })))
      (λ e. subst NoEnd (seeks_none b aim found e) (unopened_none aim))

  full_none : (author : Author) (id : ℕ) → NoEnd (full_program b author id)
  full_none (authors.Send o) id = tt
  full_none (authors.Attempt t) id = tt

  look_none : (author : Author) (id found : ℕ) → NoEnd (after_word (look_program b author id) found)
  look_none (authors.Send o) id found = either_none (vref_version found % 2 == 0) (claim_from a.sizes.requests 0 o id a.message Rest) (failed_look b (authors.Send o) id found) (claim_none a.sizes.requests 0 o id a.message) tt
  look_none (authors.Attempt t) id found = either_none (vref_version found % 2 == 0)
      (claims_from a.sizes.requests 0 id (heading_by (authors.Attempt t) a.parts) a.message (full_program b (authors.Attempt t) id) (sent_program b (authors.Attempt t) id)) (failed_look b (authors.Attempt t) id found)
      (claims_none a.sizes.requests 0 id (heading_by (authors.Attempt t) a.parts) a.message (full_program b (authors.Attempt t) id) (sent_program b (authors.Attempt t) id) tt) tt

  free_none : (w : Writer) (next : Option Ticket) → NoEnd (freed_program b w next)
  free_none w None = tt
  free_none w (Some next) = tt

-- behind a first step on a word
abbrev EndsNone : Option First → Context → Point → ℕ → Type 0
EndsNone (Some (OfTable call)) a p found = NoEnd (after_word (point_program (bare a) p) found)
EndsNone other a p found = Unit {0}

look_ends : (a : Context) (p : Point) (author : Author) (id found : ℕ) → NoEnd (after_word (point_program (bare a) p) found) → EndsNone (first_in (look_program a author id)) a p found
look_ends a p (authors.Send o) id found h = h
look_ends a p (authors.Attempt t) id found h = h

judge_ends : (a : Context) (p : Point) (found : ℕ) (ends : Bool) (x y : Program) → EndsNone (first_of x) a p found → EndsNone (first_of y) a p found → EndsNone (first_of (if ends then x else y)) a p found
judge_ends a p found true x y f g = f
judge_ends a p found false x y f g = g

-- the last clause is of all points behind which nothing can be told
ends_none : (a : Context) (p : Point) (found : ℕ) → EndsNone (first_in (point_program a p)) a p found
ends_none a (points.Open g (opens.Claim i)) found = either_none (found == 0) (make_socket g.operation g.name g.link i Rest) (open_from (a.sizes.slots - (i + 1)) (i + 1) g.operation g.name g.link Rest) tt (opens_none (a.sizes.slots - (i + 1)) (i + 1) g.operation g.name g.link)
ends_none a (points.Seek (aims.Hold o n) seeks.Load) found = seek_none a (aims.Hold o n) found
ends_none a (points.Seek aim seeks.Load) found = seek_none a aim found
ends_none a (points.Seek aim (seeks.AddRef id)) found = either_none (vref_version found == socket_id_version id.0) (reached_program (bare a) aim id) (release (socket_id_slot id.0) (λ _. then_program (bare a) (gone_then aim found) false)) (reached_none a aim id) tt
ends_none a (points.Fail f fails.SetOdd) found = either_none (vref_version found % 2 == 0) (fail_program (bare a) f (fails.StoreCode (record { 0 = found }))) (failed_program (bare a) f found) tt tt
ends_none a (points.Release i t releases.SubRef) found = release_none i (then_program (bare a) t) (then_none a t) releases.SubRef found
ends_none a (points.Release i t (releases.Recycle w)) found = release_none i (then_program (bare a) t) (then_none a t) (releases.Recycle w) found
ends_none a (points.Release i t (releases.PutLink w k)) found = release_none i (then_program (bare a) t) (then_none a t) (releases.PutLink w k) found
ends_none a (points.Release i t releases.FreeSlot) found = release_none i (then_program (bare a) t) (then_none a t) releases.FreeSlot found
ends_none a (points.Send s sends.Look) found = look_ends a (points.Send s sends.Look) s.author s.id.0 found (look_none a s.author s.id.0 found)
ends_none a (points.Send s (sends.Claim q)) found = either_none (found % 2 == 0) (accept s.id.0 q (found / 2) (heading_by s.author a.parts) a.message (sent_program (bare a) s.author s.id.0)) (claims_program (bare a) s (a.sizes.requests - (q + 1)) (q + 1)) tt (claims_none (a.sizes.requests - (q + 1)) (q + 1) s.id.0 (heading_by s.author a.parts) a.message (full_program (bare a) s.author s.id.0) (sent_program (bare a) s.author s.id.0) (full_none a s.author s.id.0))
ends_none a (points.Send s (sends.SwapHead q own)) found = either_none (nat_lt found IDLE) (connect_program (bare a) s q found) (write_link s.id.0 q own.0 (sent_program (bare a) s.author s.id.0)) tt tt
ends_none a (points.Write w (writes.FirstLook m)) found = either_none (vref_version found % 2 == 0) (put_piece (bare a) w m false) (puts_program (bare a) w m false) tt tt
ends_none a (points.Write w (writes.Look m asked)) found = either_none (vref_version found % 2 == 0) (put_piece (bare a) w m asked) (dropped (holder_of w.holder) m.ticket.0 (heading_by m.author a.left_parts) (written_program (bare a) w)) tt tt
ends_none a (points.Write w (writes.SetOdd m)) found = either_none (vref_version found % 2 == 0) (write_program (bare a) w (writes.StoreCode m)) (puts_program (bare a) w m false) tt tt
ends_none a (points.Write w (writes.StorePlace m)) found = passed_none (one_more (holder_of w.holder)) m.ticket.0 (λ next. next) (written_program (bare a) w) (λ next h. h)
ends_none a (points.Write w (writes.DropPlace m n)) found = passed_none (one_more (holder_of w.holder)) m.ticket.0 (tell m.author a.left_parts n) (written_program (bare a) w) (λ next h. tell_none (heading_by m.author a.left_parts) n next h)
ends_none a (points.Write w (writes.ReadNext now c)) found = freed_none now.0 (told c (next_message (bare a) w (holder_of w.holder) found)) (told_none c (next_message (bare a) w (holder_of w.holder) found) tt)
ends_none a (points.Write w (writes.Free now next c)) found = told_none c (freed_program (bare a) w next) (free_none a w next)
ends_none a (points.Write w writes.EmptyHead) found = either_none (found == w.holder.last.0) (written_program (bare a) w) (taken_again (bare a) w found) tt tt
ends_none a (points.Write w (writes.Reversing top at after)) found = either_none (found == UNCONNECTED) (walk_program (bare a) w top.0 at.0 after.0) (Do (calls.OnChain (calls.ReverseNext (ticket_request at.0) after.0)) (λ _. if found == w.holder.last.0 then first_of_walk (bare a) w top.0 at.0 else walk_program (bare a) w top.0 found at.0)) tt tt
ends_none a (points.Write w (writes.ReverseNext top at after before)) found = either_none (before.0 == w.holder.last.0) (first_of_walk (bare a) w top.0 at.0) (walk_program (bare a) w top.0 before.0 at.0) tt tt
ends_none a (points.Call begins.LoadName) found = either_none (found == 0) (Say a.asked.operation Unopened Rest) (claim_id a.sizes.ids 0 a.sizes.requests (found - 1) a.asked Rest) tt (ids_none a.sizes.ids 0 a.sizes.requests (found - 1) a.asked)
ends_none a (points.Attempt t socket attempts.AddRef) found = either_none (vref_version found == socket_id_version socket.0) (find_program (bare a) t socket) (release (socket_id_slot socket.0) (λ _. then_program (bare a) (thens.Unreached t) false)) tt tt
ends_none a (points.Post c after id_steps.Read) found = tt
ends_none a (points.Decide c after (decides.Judge w)) found = judge_ends a (points.Decide c after (decides.Judge w)) found (ends_call (parts w.0) c.error.0) (end_id (id_slot (id_of c.id)) (decided (id_of c.id) (after_program a after) (HasEnded a.asked.operation (code_of c.error.0)))) (Aside (PutCall (id_slot (id_of c.id)) a.asked) (λ _. Round (Unlocks (id_slot (id_of c.id)) w.0 true) (unlocked (record { id = id_of c.id; attempt = (parts w.0).attempt + 1 }) (decided (id_of c.id) (after_program a after))))) tt tt
ends_none a (points.Retry r (retries.Lock id_steps.Read)) found = tt
ends_none a (points.Retry r retries.LoadName) found = either_none (found == 0) (post (id_of r.attempt.id) 1009 (number_of r.attempt.number) Rest) (attempt a.sizes.requests a.asked (id_of r.attempt.id) (number_of r.attempt.number) (found - 1) Rest) tt tt
ends_none a (points.Join o (joins.LoadCall t)) found = tt
ends_none a p found = tt

-- ## What follows

bare_calling : (a : Context) (c : Calling) → IsCalling a c → IsCalling (bare a) c
bare_calling a c h = record { operation = h.operation; name = h.name; range = h.range }

bare_framed : (a : Context) (t : Attempt) → IsFramed a t → IsFramed (bare a) t
bare_framed a t h = record { operation = h.operation; message = h.message; parts = h.parts }

bare_hand : (a : Context) (p : Point) → HasInHand a p → HasInHand (bare a) p
bare_hand a (points.Retry r (retries.Lock at)) h = tt
bare_hand a (points.Retry r (retries.TakeCall w)) h = tt
bare_hand a (points.Retry r (retries.PutCall w)) h = (bare_framed a r.attempt h.0, h.1)
bare_hand a (points.Retry r (retries.Unlock w advance)) h = (bare_framed a r.attempt h.0, h.1)
bare_hand a (points.Retry r retries.LoadName) h = (bare_framed a r.attempt h.0, h.1)
bare_hand a _ h = tt

-- a step on a word makes no frame
pub no_frame : (a : Context) (p : Point) (call : calls.TableStep) → first_in (point_program a p) ≡ Some (OfTable call) → (other : Context) → framed p other ≡ other
no_frame a (points.Call (begins.StoreCall id socket)) call e other = cc
no_frame a _ call e other = refl

pub flat_behind : (a : Context) (p : Point) (call : calls.TableStep) (found : ℕ) (n : Next) (calling : Calling) → first_in (point_program a p) ≡ Some (OfTable call) → IsCalling a calling → HasInHand a p →
    ((other : Context) → other.sizes ≡ a.sizes → IsCalling other calling → HasInHand other p → next_program (framed p other) n ≡ after_word (point_program other p) found) → IsFlat n
flat_behind a p call found n calling e asks hand behind =
    let is : next_program (framed p (bare a)) n ≡ after_word (point_program (bare a) p) found = behind (bare a) refl (bare_calling a calling asks) (bare_hand a p hand) in
    let none_ : NoEnd (after_word (point_program (bare a) p) found) = subst (λ (o : Option First). EndsNone o a p found) e (ends_none a p found) in
    next_flat (bare a) n (subst (λ (x : Context). NoEnd (next_program x n)) (no_frame a p call e (bare a)) (subst NoEnd (sym is) none_))
