-- Whoever writes a link knows how it answered last, behind each of its steps.
use Rattle.std.proofs.Common.{◌≡◌, refl, ℕ, zero, suc, ◌+◌, ◌-◌, ◌%◌, ◌==◌, ◌&&◌, ◌⊎◌, inl, inr, ⊎_elim, not, nat_lt, nat_le, if◌then◌else◌, Bool, true, false, List, [], ◌∷◌, ◌++◌, length, Option, Some, None, ap, sym, ◌∙◌, subst}
use Rattle.std.proofs.lemmas.Bool.{true≢false}
use Rattle.sock_steps.proofs.SumsAsMarksChange.{either_way}
use Rattle.sock_words.specs.PackedWords.{socket_id_version, vref_version, vref_nref, ticket_request, ticket_generation, IDLE, UNCONNECTED, id_slot, id_first, NO_SOCKET, bit}
use Rattle.sock_words.specs.declared.socket_id.SocketId.{SocketId}
use Rattle.sock_words.specs.declared.ticket.Ticket.{Ticket}
use Rattle.sock_io.specs.declared.link.Put.{Put}
use Rattle.sock_io.specs.declared.link.Put.TheVariants as puts
use Rattle.sock_io.specs.declared.link.Ready.{Ready}
use Rattle.sock_io.specs.declared.link.Ready.TheVariants as asks
use Rattle.sock_io.specs.LinkHalves.{OutState}
use Rattle.sock_message.specs.Asked.{Asked}
use Rattle.sock_model.specs.declared.chain.Heading.{Heading}
use Rattle.corr_core.specs.IdSlotWord.{parts, code_of, posted_word, unlocked_word}
use Rattle.corr_core.specs.IdSlotLaw.{LAST}
use Rattle.corr_core.specs.EndedByRangeOrAttempt.{ends_call}
use Rattle.seat_programs.specs.Asides as asides
use Rattle.seat_programs.specs.Asides.{Step, Found}
use Rattle.seat_programs.specs.TableSteps as calls
use Rattle.seat_programs.specs.Writings as heads
use Rattle.seat_programs.specs.Programs.{Program, Do, PutBytes, Write, Aside, Round, Keep, LAST_VERSION, LAST_GENERATION, open_from}
use Rattle.seat_programs.specs.SendAndWritePrograms.{block, freed, passed_telling, tell_drop, claim_from}
use Rattle.seat_programs.specs.CallAndRetryPrograms.{claims_from, claim_id, tried_again, retry_locked}
use Rattle.seat_programs.specs.PostPrograms.{packed, is_first, is_stale, is_full, is_sought, judged, posted, decided, popped, unlocked, decide, locking}
use Rattle.seat_programs.specs.LoopRounds.{round, first_step}
use Rattle.seat_programs.specs.ClientProgram.{HeldLife, operation, give_back, client_from, ending_of, drop_of, held_under, without_name}
use Rattle.seat_programs.specs.Cores.{resolved, next_step}
use Rattle.seat_programs.specs.LoopHeads.{Retry, Sought, Unlocks, Posting, WasGone, WasStale, WasCrowded, WasQueued, HasLocked, Unlocking, IsOpen, HasNext, Deciding, GoesOn, Locking, NotThere, Has}
use Rattle.seat_programs.specs.declared.task.Op.TheVariants as ops
use Rattle.seat_programs.specs.declared.task.Op.{Op}
use Rattle.seat_programs.specs.declared.task.Sizes.{Sizes}
use Rattle.seat_programs.specs.declared.task.Task.{Task}
use Rattle.id_points.specs.IdsAndAttemptNumbers.{id_of, number_of}
use Rattle.id_points.specs.CallIdLoopTurns.{sought_as}
use Rattle.call_points.specs.CallIdPoints.{retry_of}
use Rattle.call_points.specs.AsideCodeSteps.{with_word, word_behind, after_word, after_call}
use Rattle.call_points.specs.declared.deciding.OnCall.{OnCall}
use Rattle.call_points.specs.declared.deciding.DecideStep.TheVariants as decides
use Rattle.call_points.specs.declared.word_step.WordStep.TheVariants as id_steps
use Rattle.seat_states.specs.declared.point.OpenStep.TheVariants as opens
use Rattle.seat_states.specs.declared.point.Aim.{Aim}
use Rattle.seat_states.specs.declared.point.Aim.TheVariants as aims
use Rattle.seat_states.specs.declared.point.SeekStep.TheVariants as seeks
use Rattle.seat_states.specs.declared.point.FailStep.TheVariants as fails
use Rattle.seat_states.specs.declared.point.Continuation.{Continuation}
use Rattle.seat_states.specs.declared.point.Continuation.TheVariants as thens
use Rattle.seat_states.specs.declared.point.ReleaseStep.TheVariants as releases
use Rattle.seat_states.specs.declared.point.SendStep.TheVariants as sends
use Rattle.seat_states.specs.declared.point.Writer.{Writer}
use Rattle.seat_states.specs.declared.point.WriteStep.TheVariants as writes
use Rattle.seat_states.specs.declared.point.Author.{Author}
use Rattle.seat_states.specs.declared.point.Author.TheVariants as authors
use Rattle.seat_states.specs.declared.point.AfterStep.{AfterStep}
use Rattle.seat_states.specs.declared.point.AfterStep.TheVariants as afters
use Rattle.seat_states.specs.declared.point.CallStep.TheVariants as begins
use Rattle.seat_states.specs.declared.point.AttemptStep.TheVariants as attempts
use Rattle.seat_states.specs.declared.point.RetryStep.TheVariants as retries
use Rattle.seat_states.specs.declared.point.JoinStep.TheVariants as joins
use Rattle.seat_states.specs.declared.point.Point.{Point}
use Rattle.seat_states.specs.declared.point.Point.TheVariants as points
use Rattle.seat_states.specs.ProgramAtPoint.{Context, heading_by, locker_of, client_on, then_program, point_program, reached_program, full_program, freed_program, after_program, posted_program, look_program, told, tell, GoesByWord, TakesCall, TakesMessage, TakesLink, PutsHome, PutsPiece, Asks, after_message, after_link, after_home, after_put, after_ready}
use Rattle.seat_states.specs.ProgramStepsOfMachine.{OfTable, first_of, first_in}
use Rattle.seat_states.specs.ProgramStepsOfMachine as kinds
use Rattle.client_seats.specs.ClientSeatState.{SeatData, around}
use Rattle.machine_model.specs.MachineLinks.{IsClear, WasRefused, IsPaced}

-- a program before which no link need have answered anything
abbrev pub IsCalm : Program → Type 0
IsCalm (Write (heads.Puts h now heading left taken asked) after) = asked ≡ false
IsCalm (Write (heads.Waits h now heading left taken) after) = ⊥
IsCalm (PutBytes k asked bytes next) = asked ≡ false
IsCalm other = Unit {0}

pub calm_paced : (outs : List OutState) (program : Program) → IsCalm program → IsPaced outs program
calm_paced outs (Write (heads.Puts h now heading left taken asked) after) calm = λ e. absurd (true≢false (sym e ∙ calm))
calm_paced outs (Write (heads.Waits h now heading left taken) after) calm = absurd calm
calm_paced outs (Write (heads.Empties h) after) calm = tt
calm_paced outs (Write (heads.Reversing h top at after) then_) calm = tt
calm_paced outs (PutBytes k asked bytes next) calm = λ e. absurd (true≢false (sym e ∙ calm))
calm_paced outs _ calm = tt

-- so behind what is said before its next step, whatever retries wait
abbrev pub Calm : Program → Type 0
Calm program = (w : List Retry) → IsCalm (next_step (resolved w program))

-- ## Clients

abbrev CalmAlone : Program → Type 0
CalmAlone program = IsCalm (next_step (resolved [] program))

open_alone : (n i o name k : ℕ) (next : Program) → CalmAlone (open_from n i o name k next)
open_alone zero i o name k next = tt
open_alone (suc n) i o name k next = tt

drop_calm : (o : ℕ) (id : Option ℕ) (next : Program) → CalmAlone next → CalmAlone (drop_of o id next)
drop_calm o None next calm = calm
drop_calm o (Some id) next calm = tt

give_calm : (held : List HeldLife) → Calm (give_back held)
give_calm [] w = tt
give_calm (h ∷ hs) w = tt

pub client_calm : (sizes : Sizes) (held : List HeldLife) (w : List Retry) (tasks : List Task) → IsCalm (next_step (resolved w (client_from sizes held tasks)))
client_calm sizes held (r ∷ w) [] = tt
client_calm sizes held (r ∷ w) (t ∷ ts) = tt
client_calm sizes held [] [] = give_calm held []
client_calm sizes held [] (t ∷ ts) = by_op t.op (λ hs. client_calm sizes hs [] ts)
  where
    by_op : (op : Op) → ((hs : List HeldLife) → CalmAlone (client_from sizes hs ts)) → CalmAlone (operation sizes held t.number (λ held'. client_from sizes held' ts) op)
    by_op (ops.Open name k) later = open_alone sizes.slots 0 t.number name k (client_from sizes held ts)
    by_op (ops.Drop name) later = drop_calm t.number (held_under name held) (client_from sizes (without_name name held) ts) (later (without_name name held))
    by_op _ later = tt

pub ending_calm : (os : List ℕ) → IsCalm (next_step (ending_of os))
ending_calm [] = tt
ending_calm (o ∷ os) = tt

-- how a seat goes on behind its task, and how the ending does
pub goes_calm : (sizes : Sizes) (seat : SeatData) (held : List HeldLife) → Calm ((around sizes seat).goes_on held)
goes_calm sizes seat held w = either_way seat.leaving (give_back held) (client_from sizes held seat.tasks) (λ x. IsCalm (next_step (resolved w x))) (give_calm held w) (client_calm sizes held w seat.tasks)

pub ends_calm : (sizes : Sizes) (seat : SeatData) → Calm (around sizes seat).ends
ends_calm sizes seat w = by seat.ending
  where
    by : (os : List ℕ) → IsCalm (next_step (resolved w (ending_of os)))
    by [] = tt
    by (o ∷ os) = tt

-- ## Behind a step on a word, of the sockets or of the ids

open_calm : (n i o name k : ℕ) (next : Program) → Calm (open_from n i o name k next)
open_calm zero i o name k next w = tt
open_calm (suc n) i o name k next w = tt

keep_calm : (r : Retry) (next : Program) → Calm next → Calm (Keep r next)
keep_calm r next calm w = calm (w ++ r ∷ [])

freed_calm : (now : ℕ) (next : Program) → Calm next → Calm (freed now next)
freed_calm now next calm = either_way (ticket_generation now == LAST_GENERATION) next (Do (calls.OnChain (calls.FreeRequest (ticket_request now) (ticket_generation now))) (λ _. next)) Calm calm (λ w. tt)

tell_calm : (heading : Heading) (code : ℕ) (next : Program) → Calm next → Calm (tell_drop heading code next)
tell_calm heading code next calm = either_way (heading.owner == 0) next _ Calm calm (λ w. tt)

told_calm : (c : Option OnCall) (next : Program) → Calm next → Calm (told c next)
told_calm None next calm = calm
told_calm (Some c) next calm = λ w. tt

passed_calm : (h : heads.Holder) (now : ℕ) (tells : Program → Program) (after : Program) → ((x : Program) → Calm x → Calm (tells x)) → Calm (passed_telling h now tells after)
passed_calm h now tells after calm = either_way (now == h.last) (freed now (tells (Write (heads.Empties h) after))) _ Calm (freed_calm now (tells (Write (heads.Empties h) after)) (calm (Write (heads.Empties h) after) (λ w. tt))) (λ w. tt)

claims_calm : (n q id : ℕ) (heading : Heading) (bytes : List ℕ) (full accepted : Program) → Calm full → Calm (claims_from n q id heading bytes full accepted)
claims_calm zero q id heading bytes full accepted calm = calm
claims_calm (suc n) q id heading bytes full accepted calm = λ w. tt

claim_calm : (n q o id : ℕ) (bytes : List ℕ) (next : Program) → Calm (claim_from n q o id bytes next)
claim_calm zero q o id bytes next w = tt
claim_calm (suc n) q o id bytes next w = tt

ids_calm : (n i requests socket : ℕ) (asked : Asked) (next : Program) → Calm next → Calm (claim_id n i requests socket asked next)
ids_calm zero i requests socket asked next calm = calm
ids_calm (suc n) i requests socket asked next calm = λ w. tt

-- an error that is posted, or a lock that is given back or tried
judged_calm : (id e found : ℕ) (k : Posting → Program) → ((how : Posting) → Calm (k how)) → Calm (judged id e found k)
judged_calm id e found k calm = either_way (not (is_first (id_first id) (parts found))) _ _ Calm (calm WasGone)
    (either_way (is_stale e (parts found)) _ _ Calm (calm WasStale)
    (either_way (is_full (parts found)) _ _ Calm (calm (WasCrowded (code_of (parts found).oldest) (code_of (parts found).second))) (λ w. tt)))

posts_calm : (id e from found : ℕ) (k : Posting → Program) → ((how : Posting) → Calm (k how)) →
    Calm (if found == from then (if (parts from).state == 1 then k (HasLocked (packed (posted_word (parts from) e))) else k WasQueued) else judged id e found k)
posts_calm id e from found k calm = either_way (found == from) _ _ Calm
    (either_way ((parts from).state == 1) _ _ Calm (calm (HasLocked (packed (posted_word (parts from) e)))) (calm WasQueued))
    (judged_calm id e found k calm)

popped_calm : (i oldest after : ℕ) (k : Unlocking → Program) → ((how : Unlocking) → Calm (k how)) → Calm (popped i oldest after k)
popped_calm i oldest after k calm = either_way (oldest == 0) _ _ Calm (calm (IsOpen after)) (either_way (is_stale oldest (parts after)) _ _ Calm (λ w. tt) (calm (HasNext after oldest)))

unlocks_calm : (i from found : ℕ) (advance : Bool) (k : Unlocking → Program) → ((how : Unlocking) → Calm (k how)) →
    Calm (if found == from then popped i (parts from).oldest (packed (unlocked_word (parts from) (bit advance))) k else Round (Unlocks i found advance) k)
unlocks_calm i from found advance k calm = either_way (found == from) _ _ Calm (popped_calm i (parts from).oldest (packed (unlocked_word (parts from) (bit advance))) k calm) (λ w. tt)

locking_calm : (i : ℕ) (sought : Sought) (found : ℕ) (k : Locking → Program) → ((how : Locking) → Calm (k how)) → Calm (locking i sought found k)
locking_calm i sought found k calm = either_way (not (is_sought sought (parts found))) _ _ Calm (calm (NotThere found)) (either_way ((parts found).state == 1) _ _ Calm (λ w. tt) (λ w. tt))

-- what follows a step on a word, or on a call, is calm, whatever was found; and a point with a step of another kind goes by no word
abbrev pub CalmStep : Point → Program → Type 0
CalmStep p (Do call next) = (found : ℕ) → Calm (next found)
CalmStep p (Aside step next) = (found : Found step) → Calm (next found)
CalmStep p other = GoesByWord p → ⊥

-- a look before a put
abbrev pub Looks : Point → Type 0
Looks (points.Write w (writes.Look c asked)) = Unit {0}
Looks other = ⊥

-- it is calm there; or a look was made, and the put that follows is paced as the look was
abbrev pub Behind : Context → List Retry → Point → Program → Type 0
Behind a w p next = IsCalm (next_step (resolved w next)) ⊎ (((outs : List OutState) → IsPaced outs (point_program a p) → IsPaced outs (next_step (resolved w next))) × ((id : ℕ) × (first_in (point_program a p) ≡ Some (OfTable (calls.OnSlot (calls.LookWord id))))))

-- a look is no step on the ids
not_aside : {call : calls.TableStep} {k : ℕ → Program} {step : Step} {next : Found step → Program} → Do call k ≡ Aside step next → ⊥
not_aside {call} {k} {step} {next} e = let f : first_of (Do call k) ≡ first_of (Aside step next) = ap first_of e in cc

no_look : (a : Context) (p : Point) (step : Step) (next : Found step → Program) → Looks p → first_step (point_program a p) ≡ Aside step next → ⊥
no_look a (points.Write w (writes.Look c asked)) step next looks is = not_aside is
no_look a _ step next looks is = absurd looks

module _ (a : Context) (on : (hs : List HeldLife) → Calm (a.goes_on hs)) (ends : Calm a.ends) where
  then_calm : (t : Continuation) (b : Bool) → Calm (then_program a t b)
  then_calm (thens.Unreached t) b = λ w. tt
  then_calm thens.Ended b = ends
  then_calm _ b = on a.held

  reached_calm : (aim : Aim) (id : SocketId) → Calm (reached_program a aim id)
  reached_calm (aims.Hold o name) id = on _
  reached_calm (aims.Send o name) id = λ w. tt
  reached_calm (aims.Fail o name code) id = λ w. tt
  reached_calm (aims.End o) id = λ w. tt

  full_calm : (author : Author) (id : ℕ) → Calm (full_program a author id)
  full_calm (authors.Send o) id = λ w. tt
  full_calm (authors.Attempt t) id = λ w. tt

  written_calm : (w : Writer) (next : Option Ticket) → Calm (freed_program a w next)
  written_calm w None = λ _. tt
  written_calm w (Some next) = λ _. tt

  after_calm : (after : AfterStep) → Calm (after_program a after)
  after_calm (afters.Attempt None) = on a.held
  after_calm (afters.Attempt (Some i)) = λ w. tt
  after_calm (afters.Expire o) = on a.held
  after_calm (afters.Drop w next) = written_calm w next

  posted_calm : (id e : ℕ) (next : Program) → Calm next → (how : Posting) → Calm (posted id e next how)
  posted_calm id e next calm (HasLocked word) = λ w. tt
  posted_calm id e next calm _ = calm

  post_calm : (c : OnCall) (after : AfterStep) (how : Posting) → Calm (posted_program a c after how)
  post_calm c (afters.Expire o) how = posted_calm (id_of c.id) c.error.0 _ (on a.held) how
  post_calm c (afters.Attempt i) how = posted_calm (id_of c.id) c.error.0 _ (after_calm (afters.Attempt i)) how
  post_calm c (afters.Drop w next) how = posted_calm (id_of c.id) c.error.0 _ (after_calm (afters.Drop w next)) how

  again_calm : (requests id n : ℕ) (asked : Asked) (next : Program) (how : Unlocking) → Calm (tried_again requests id n asked next how)
  again_calm requests id n asked next (IsOpen word) = λ w. tt
  again_calm requests id n asked next (HasNext word e) = λ w. tt

  locked_calm : (requests id n : ℕ) (next : Program) → Calm next → (how : Locking) → Calm (retry_locked requests id n next how)
  locked_calm requests id n next calm (NotThere word) = calm
  locked_calm requests id n next calm (Has word) = λ w. tt

  unlocked_calm : (r : Retry) (k : Deciding → Program) → Calm (k GoesOn) → (how : Unlocking) → Calm (unlocked r k how)
  unlocked_calm r k calm (IsOpen word) = keep_calm r (k GoesOn) calm
  unlocked_calm r k calm (HasNext word e) = keep_calm r (decide r.id word e k) (λ w. tt)

  look_calm : (p : Point) (author : Author) (id : ℕ) → CalmStep p (first_step (look_program a author id))
  look_calm p (authors.Send o) id = λ found. either_way (vref_version found % 2 == 0) _ _ Calm (claim_calm a.sizes.requests 0 o id a.message (client_on a)) (λ w. tt)
  look_calm p (authors.Attempt t) id = λ found. either_way (vref_version found % 2 == 0) _ _ Calm (claims_calm a.sizes.requests 0 id _ a.message _ _ (full_calm (authors.Attempt t) id)) (λ w. tt)

  -- the last clause is of all points behind which one step follows, whatever was found
  step_calm : (p : Point) → CalmStep p (first_step (point_program a p)) ⊎ Looks p
  step_calm points.Rest = inl (λ goes. goes)
  step_calm (points.Open g (opens.Claim i)) = inl (λ found. either_way (found == 0) _ _ Calm (λ w. tt) (open_calm (a.sizes.slots - (i + 1)) (i + 1) g.operation g.name g.link (client_on a)))
  step_calm (points.Open g (opens.StoreName i v)) = inl (λ found. on a.held)
  step_calm (points.Open g opens.StoreNone) = inl (λ found. on a.held)
  step_calm (points.Seek (aims.End o) seeks.Load) = inl (λ found. either_way (found == 0) _ _ Calm ends (either_way (found == NO_SOCKET) _ _ Calm ends (λ w. tt)))
  step_calm (points.Seek aim seeks.Load) = inl (λ found. either_way (found == 0) _ _ Calm (on a.held) (λ w. tt))
  step_calm (points.Seek aim (seeks.AddRef id)) = inl (λ found. either_way (vref_version found == socket_id_version id.0) _ _ Calm (reached_calm aim id) (λ w. tt))
  step_calm (points.Fail f fails.SetOdd) = inl (λ found. either_way (vref_version found % 2 == 0) _ _ Calm (λ w. tt) (λ w. tt))
  step_calm (points.Release i t releases.SubRef) = inl (λ found. either_way ((vref_version found % 2 == 1) && (vref_nref found == 1)) _ _ Calm (λ w. tt) (then_calm t false))
  step_calm (points.Release i t (releases.Recycle x)) = inl (λ found. either_way (found == x.0) _ _ Calm (λ w. tt) (then_calm t false))
  step_calm (points.Release i t (releases.PutLink x k)) = inl (λ found. either_way (nat_le x LAST_VERSION) _ _ Calm (λ w. tt) (then_calm t true))
  step_calm (points.Release i t releases.FreeSlot) = inl (λ found. then_calm t true)
  step_calm (points.Send s sends.Look) = inl (look_calm (points.Send s sends.Look) s.author s.id.0)
  step_calm (points.Send s (sends.Claim q)) = inl (λ found. either_way (found % 2 == 0) _ _ Calm (λ w. tt) (claims_calm (a.sizes.requests - (q + 1)) (q + 1) s.id.0 _ a.message _ _ (full_calm s.author s.id.0)))
  step_calm (points.Send s (sends.SwapHead q own)) = inl (λ found. either_way (nat_lt found IDLE) _ _ Calm (λ w. tt) (λ w. tt))
  step_calm (points.Send s (sends.TakeHome q own k)) = inl (λ goes. goes)
  step_calm (points.Send s (sends.TakeMessage q own k n)) = inl (λ goes. goes)
  step_calm (points.Write w (writes.FirstLook c)) = inl (λ found. either_way (vref_version found % 2 == 0) _ _ Calm (λ _. refl) (λ _. refl))
  step_calm (points.Write w (writes.Look c asked)) = inr tt
  step_calm (points.Write w (writes.SetOdd c)) = inl (λ found. either_way (vref_version found % 2 == 0) _ _ Calm (λ _. tt) (λ _. refl))
  step_calm (points.Write w (writes.StoreCode c)) = inl (λ found _. tt)
  step_calm (points.Write w (writes.ReleaseFirst c)) = inl (λ found _. refl)
  step_calm (points.Write w (writes.StorePlace c)) = inl (λ found. passed_calm _ c.ticket.0 (λ x. x) _ (λ x calm. calm))
  step_calm (points.Write w (writes.LoadCode c)) = inl (λ found _. tt)
  step_calm (points.Write w (writes.DropPlace c n)) = inl (λ found. passed_calm _ c.ticket.0 (tell c.author a.left_parts n) _ (λ x calm. tell_calm (heading_by c.author a.left_parts) n x calm))
  step_calm (points.Write w (writes.ReadNext now c)) = inl (λ found. freed_calm now.0 _ (told_calm c _ (λ _. tt)))
  step_calm (points.Write w (writes.Free now next c)) = inl (λ found. told_calm c (freed_program a w next) (written_calm w next))
  step_calm (points.Write w writes.EmptyHead) = inl (λ found. either_way (found == w.holder.last.0) _ _ Calm (λ _. tt) (λ _. tt))
  step_calm (points.Write w (writes.Reversing top at after)) = inl (λ found. either_way (found == UNCONNECTED) _ _ Calm (λ _. tt) (λ _. tt))
  step_calm (points.Write w (writes.ReverseNext top at after before)) = inl (λ found. either_way (before.0 == w.holder.last.0) _ _ Calm (λ _. tt) (λ _. tt))
  step_calm (points.Write w at) = inl (λ goes. goes)
  step_calm (points.Call begins.LoadName) = inl (λ found. either_way (found == 0) _ _ Calm (on a.held) (ids_calm a.sizes.ids 0 a.sizes.requests (found - 1) a.asked (client_on a) (on a.held)))
  step_calm (points.Call (begins.ClaimId i socket)) = inl (λ found. either_way (found == 0) _ _ Calm (λ w. tt) (ids_calm (a.sizes.ids - (i + 1)) (i + 1) a.sizes.requests socket.0 a.asked (client_on a) (on a.held)))
  step_calm (points.Attempt t socket attempts.AddRef) = inl (λ found. either_way (vref_version found == socket_id_version socket.0) _ _ Calm (λ w. tt) (λ w. tt))
  step_calm (points.Post c after id_steps.Read) = inl (λ found. judged_calm (id_of c.id) c.error.0 found (posted_program a c after) (post_calm c after))
  step_calm (points.Post c after (id_steps.Exchange from)) = inl (λ found. posts_calm (id_of c.id) c.error.0 from.0 found (posted_program a c after) (post_calm c after))
  step_calm (points.Decide c after (decides.Judge x)) = inl (either_way (ends_call (parts x.0) c.error.0) _ _ (CalmStep (points.Decide c after (decides.Judge x))) (λ found. either_way (nat_le ((parts found).first + (parts found).range) LAST) _ _ Calm (λ w. tt) (after_calm after)) (λ found w. tt))
  step_calm (points.Decide c after (decides.Free o)) = inl (λ found. after_calm after)
  step_calm (points.Decide c after (decides.Unlock from advance n)) = inl (λ found. unlocks_calm (id_slot (id_of c.id)) from.0 found advance (unlocked (retry_of c (number_of n)) (decided (id_of c.id) (after_program a after))) (unlocked_calm (retry_of c (number_of n)) (decided (id_of c.id) (after_program a after)) (after_calm after)))
  step_calm (points.Retry r (retries.Lock id_steps.Read)) = inl (λ found. locking_calm (id_slot (id_of r.attempt.id)) (sought_as (locker_of r).sought) found (retry_locked a.sizes.requests (id_of r.attempt.id) (number_of r.attempt.number) (client_on a)) (locked_calm a.sizes.requests (id_of r.attempt.id) (number_of r.attempt.number) (client_on a) (on a.held)))
  step_calm (points.Retry r (retries.Lock (id_steps.Exchange from))) = inl (λ found. either_way (found == from.0) _ _ Calm (λ w. tt) (locking_calm (id_slot (id_of r.attempt.id)) (sought_as (locker_of r).sought) found (retry_locked a.sizes.requests (id_of r.attempt.id) (number_of r.attempt.number) (client_on a)) (locked_calm a.sizes.requests (id_of r.attempt.id) (number_of r.attempt.number) (client_on a) (on a.held))))
  step_calm (points.Retry r (retries.Unlock x advance)) = inl (λ found. unlocks_calm (id_slot (id_of r.attempt.id)) x.0 found advance (tried_again a.sizes.requests (id_of r.attempt.id) (number_of r.attempt.number) a.asked (client_on a)) (again_calm a.sizes.requests (id_of r.attempt.id) (number_of r.attempt.number) a.asked (client_on a)))
  step_calm (points.Retry r retries.LoadName) = inl (λ found. either_way (found == 0) _ _ Calm (λ w. tt) (λ w. tt))
  step_calm (points.Expire o t) = inl (λ found. either_way (found == 0) _ _ Calm (on a.held) (λ w. tt))
  step_calm (points.Join o (joins.LoadCall t)) = inl (λ found. either_way (found == 0) _ _ Calm (on a.held) (λ w. tt))
  step_calm (points.Join o (joins.Wait id)) = inl (λ found. either_way (is_first (id_first (id_of id)) (parts found)) _ _ Calm (λ w. tt) (on a.held))
  step_calm p = inl (λ found w. tt)

  -- behind a step on a word
  aside_calm : (step : Step) (next : Found step → Program) (found : ℕ) → ((x : Found step) → Calm (next x)) → Calm (with_word step next found)
  aside_calm (asides.TakeCall i) next found calm = λ w. tt
  aside_calm (asides.TakeBytes k room) next found calm = λ w. tt
  aside_calm _ next found calm = calm found

  word_calm : (p : Point) (program : Program) (found : ℕ) → GoesByWord p → CalmStep p program → Calm (word_behind program found)
  word_calm p (Do call next) found goes calm = calm found
  word_calm p (Aside step next) found goes calm = aside_calm step next found calm
  word_calm p _ found goes calm = absurd (calm goes)

  step_word : (p : Point) (program : Program) (found : ℕ) → GoesByWord p → CalmStep p (first_step program) → Calm (after_word program found)
  step_word p (Write w after) found goes calm = word_calm p (block w after) found goes calm
  step_word p (Round head next) found goes calm = word_calm p (round head next) found goes calm
  step_word p (Do call next) found goes calm = calm found
  step_word p (Aside step next) found goes calm = aside_calm step next found calm
  step_word p _ found goes calm = absurd (calm goes)

  looks_behind : (w : List Retry) (p : Point) (found : ℕ) → Looks p → ((outs : List OutState) → IsPaced outs (point_program a p) → IsPaced outs (next_step (resolved w (after_word (point_program a p) found)))) × ((id : ℕ) × (first_in (point_program a p) ≡ Some (OfTable (calls.OnSlot (calls.LookWord id)))))
  looks_behind w (points.Write x (writes.Look c asked)) found looks = ((λ outs paced. either_way (vref_version found % 2 == 0) _ _ (λ y. IsPaced outs (next_step (resolved w y))) paced tt), (x.holder.id.0, refl))
  looks_behind w _ found looks = absurd looks

  pub behind_word : (w : List Retry) (p : Point) (found : ℕ) → GoesByWord p → Behind a w p (after_word (point_program a p) found)
  behind_word w p found goes = ⊎_elim (λ calm. inl (step_word p (point_program a p) found goes calm w)) (λ looks. inr (looks_behind w p found looks)) (step_calm p)

  -- behind one on the ids it is calm
  pub behind_aside : (p : Point) (step : Step) (next : Found step → Program) → first_step (point_program a p) ≡ Aside step next → (found : Found step) → Calm (next found)
  behind_aside p step next is = ⊎_elim (λ calm. subst (CalmStep p) is calm) (λ looks. absurd (no_look a p step next looks is)) (step_calm p)

  -- and where a call was taken out of its home
  pub behind_call : (w : List Retry) (p : Point) (asked : Asked) → TakesCall p → IsCalm (next_step (resolved w (after_call (point_program a p) asked)))
  behind_call w (points.Decide c after (decides.Take x)) asked takes = tt
  behind_call w (points.Retry r (retries.TakeCall x)) asked takes = tt
  behind_call w _ asked takes = absurd takes

-- ## Behind the others

pub behind_message : (a : Context) (w : List Retry) (p : Point) (author : Author) (ps bytes : List ℕ) → TakesMessage p → IsCalm (next_step (resolved w (after_message (point_program a p) author ps bytes)))
behind_message a w (points.Send s (sends.TakeMessage q own k n)) author ps bytes takes = tt
behind_message a w (points.Write x (writes.TakeMessage next)) author ps bytes takes = refl
behind_message a w (points.Write x (writes.TakeFirst top at)) author ps bytes takes = refl
behind_message a w _ author ps bytes takes = absurd takes

pub behind_link : (a : Context) (w : List Retry) (p : Point) (n : ℕ) → TakesLink p → IsCalm (next_step (resolved w (after_link (point_program a p) n)))
behind_link a w (points.Send s (sends.TakeHome q own k)) n takes = tt
behind_link a w (points.Write x (writes.TakeHome found)) n takes = tt
behind_link a w _ n takes = absurd takes

pub behind_home : (a : Context) (w : List Retry) (p : Point) → PutsHome p → IsCalm (next_step (resolved w (after_home (point_program a p))))
behind_home a w (points.Write x writes.PutHome) goes = tt
behind_home a w _ goes = absurd goes

pub behind_put : (a : Context) (ws : List Retry) (p : Point) (outs : List OutState) (k : ℕ) (asked : Bool) (bytes : List ℕ) (put : Put) → PutsPiece p → first_in (point_program a p) ≡ Some (kinds.OfPut k asked bytes) → (put ≡ puts.Again → WasRefused outs k) →
    IsPaced outs (next_step (resolved ws (after_put (point_program a p) put)))
behind_put a ws (points.Write w (writes.Put c b)) outs k asked bytes (puts.Took n) goes e refused = either_way (nat_le (length a.left) n) _ _ (λ x. IsPaced outs (next_step (resolved ws x))) tt (λ f. absurd (true≢false (sym f)))
behind_put a ws (points.Write w (writes.Put c b)) outs k asked bytes puts.Again goes e refused = let h : k ≡ w.holder.link = cc in subst (WasRefused outs) h (refused refl)
behind_put a ws (points.Write w (writes.Put c b)) outs k asked bytes puts.Failed goes e refused = tt
behind_put a ws _ outs k asked bytes put goes e refused = absurd goes

pub behind_ready : (a : Context) (ws : List Retry) (p : Point) (outs outs' : List OutState) (k : ℕ) (ready : Ready) → Asks p → first_in (point_program a p) ≡ Some (kinds.OfReady k) → IsPaced outs (point_program a p) →
    (ready ≡ asks.Now → WasRefused outs k → IsClear outs' k) → (ready ≡ asks.NotYet → WasRefused outs k → WasRefused outs' k) → IsPaced outs' (next_step (resolved ws (after_ready (point_program a p) ready)))
behind_ready a ws (points.Write w (writes.Ask c)) outs outs' k asks.Now goes e paced now yet = λ f. let h : w.holder.link ≡ k = cc in subst (IsClear outs') (sym h) (now refl (subst (WasRefused outs) h paced))
behind_ready a ws (points.Write w (writes.Ask c)) outs outs' k asks.NotYet goes e paced now yet = let h : w.holder.link ≡ k = cc in subst (WasRefused outs') (sym h) (yet refl (subst (WasRefused outs) h paced))
behind_ready a ws (points.Write w (writes.Ask c)) outs outs' k asks.Failed goes e paced now yet = tt
behind_ready a ws _ outs outs' k ready goes e paced now yet = absurd goes
