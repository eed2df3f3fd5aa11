-- Why a client posts an error to a call, and where the error comes from by which a call ended or was tried again.
use Rattle.std.specs.Prelude.{◌≡◌, ◌≢◌, ℕ, ◌+◌, ◌<◌, ◌≤◌, ◌⊎◌, List, Some, None}
use Rattle.std.specs.Prelude.{Option as Maybe}
use mathlib.Core.Option.{some}
use lib.ListN.{get_elem?}
use Rattle.sock_io.specs.declared.link.Out.{Ghosts}
use Rattle.sock_io.specs.LinkHalves.{OutState}
use Rattle.sock_words.specs.ErrorCodes.{ERPCTIMEDOUT}
use Rattle.sock_words.specs.PackedWords.{socket_id_slot, id_slot, id_first}
use Rattle.sock_words.specs.declared.outcome.Outcome.{Outcome}
use Rattle.sock_words.specs.declared.outcome.Outcome.TheVariants as outcome
use Rattle.sock_words.specs.declared.plain.Plan.{Plan}
use Rattle.sock_model.specs.declared.chain.Heading.{Heading}
use Rattle.sock_model.specs.declared.marks.Mark.{Mark}
use Rattle.sock_model.specs.declared.marks.Mark.TheVariants.{Hold}
use Rattle.sock_model.specs.declared.view.View as sock_view
use Rattle.sock_model.specs.SlotRows.{marks_of}
use Rattle.attempts_told.specs.Below.SockRule.OnTable.{put_in}
use Rattle.seat_programs.specs.declared.task.Op.TheVariants as ops
use Rattle.seat_programs.specs.declared.task.Task.{Task}
use Rattle.corr_core.specs.IdSlotWord.{parts}
use Rattle.corr_core.specs.IdSlotLaw.{pair, is_ended_at}
use Rattle.corr_core.specs.declared.marks.Kept.{Kept}
use Rattle.corr_core.specs.declared.marks.Plan as id_plan
use Rattle.corr_core.specs.declared.marks.View.{View}
use Rattle.corr_id.specs.id_rule.specs.LawfulIdTable.{call_index, notes_of}
use Rattle.sock_message.specs.Asked.{Asked}
use Rattle.corr_id.specs.declared.calls.IdLock.{IdLock}
use Rattle.corr_id.specs.declared.posts.Posted.{Posted}
use Rattle.corr_id.specs.declared.posts.Posted.TheVariants.{Locked as HasLock, Queued as IsQueued}
use Rattle.corr_id.specs.SeatBehindIdCalls.{Found, error_in}
use Rattle.corr_id.specs.PostAnswers.{IsTimely}
use Rattle.call_table.specs.declared.errors.Decision.TheVariants as decisions
use Rattle.attempts_told.specs.Below.RpcClient.Told.{Told}
use Rattle.attempts_told.specs.Below.CallErrors.ClientBooks.{CallStand}
use Rattle.attempts_told.specs.Below.CallErrors.LockingByVersion.{id_in}
use Rattle.attempts_told.specs.Below.CallErrors.CallEndsWithCode.{failed}
use Rattle.attempts_told.specs.Below.CallErrors.Handling.{decision}
use Rattle.attempts_told.specs.Below.CallErrors.ExpireAndJoinOutcomes.{TimedOut}
use Rattle.attempts_told.specs.Below.CallWrites.Draining.{DroppedOne}
use Rattle.attempts_told.specs.call_whys.specs.call_told.specs.Least.{is_locked_for}
use Rattle.attempts_told.specs.call_whys.specs.call_places.specs.DeedsOfCallClient.{Deed}
use Rattle.failed_reasons.specs.Missed.{missed_in, id_of, IsBacked, attempt_of, socks_behind}
use Rattle.sock_words.specs.Totals.{total}

-- the post locked the id, or its error was queued there
abbrev pub Counts : Posted Asked → Type 0
Counts (HasLock k) = Unit {0}
Counts IsQueued = Unit {0}
Counts other = ⊥

-- the seat keeps this word of the place in mind
abbrev pub KeepsWord : ℕ → ℕ → View Asked → Type 0
KeepsWord place word v = 0 < total (λ (k : Kept). pair place word k.place k.word) v.kept

-- a word was found of the id that is locked, with as many versions
pub record IsSeen (v : View Asked) (k : IdLock Asked) : Type 0 where
  pub word : ℕ
  pub found : Found k.slot word v
  pub taken : 0 < (parts word).state
  pub first_is : (parts word).first ≡ (parts k.word.0).first
  pub range_is : (parts word).range ≡ (parts k.word.0).range

-- a seat noted that it dropped a message with which this stands
abbrev pub HasHeading : Heading → sock_view.View → Type 0
HasHeading h v = (k : ℕ) × (get_elem? v.drops k ≡ some h)

-- what a seat noted of sockets, but for its references, the words that it stored, and what it dropped are there still
pub record StillHas (v w : sock_view.View) : Type 0 where
  pub marks : (f : Mark → ℕ) → ((h : ℕ) → f (Hold h) ≡ 0) → (i : ℕ) → marks_of f i v ≤ marks_of f i w
  pub puts : (x n : ℕ) → put_in x n v ≤ put_in x n w
  pub drops : (h : Heading) → HasHeading h v → HasHeading h w

module _ {O : Type 0} {g : Ghosts O} (state : O → OutState) (p : Plan) (q : id_plan.Plan) (ds : List (Deed g state p q)) where
  -- the seat has still, behind one of these deeds, what it had here
  pub record IsBehind (v : sock_view.View) : Type 0 where
    pub index : ℕ
    pub deed : Deed g state p q
    pub there : get_elem? ds index ≡ some deed
    pub still : StillHas v (socks_behind deed)

  -- by one of these deeds a message of attempt n of the call with this id was dropped, with this code of its socket's life
  pub record WasDropped (id code n : ℕ) : Type 0 where
    pub life : ℕ
    pub before : sock_view.View
    pub calls : CallStand
    pub after : sock_view.View
    pub calls_after : CallStand
    pub drop : DroppedOne state p q.slots life before calls after calls_after
    pub behind : IsBehind after
    pub inside : socket_id_slot life < p.slots
    pub call : drop.msg.owner ≢ 0
    pub owner : id ≡ drop.msg.owner
    pub code_is : code ≡ drop.code
    pub attempt_is : n ≡ drop.msg.label.attempt

-- a client was asked for these operations, says these outcomes of them, and did these deeds
module _ {O : Type 0} {g : Ghosts O} (state : O → OutState) (p : Plan) (q : id_plan.Plan) (xs : List Task) (Says : ℕ → Outcome → Type 0) (ds : List (Deed g state p q)) where
  -- the error with this code was posted to the call with this id, for the attempt or for the whole call: by an `expire`; since the attempt, one of the client's deeds, came to nothing; or since its message was dropped, with the code of the socket's life
  pub data Reason (v : View Asked) (id code : ℕ) (attempt : Maybe ℕ) : Type 0 where
    timed_out : (i : ℕ) (x : Task) (operation : ℕ) (by : Outcome) (s t : CallStand) (h : TimedOut q operation by s t) → get_elem? xs i ≡ some x → x.op ≡ ops.Expire operation → Says x.number by → (by ≡ outcome.Expired) ⊎ (by ≡ outcome.Queued) → KeepsWord (call_index q operation) id v
        → id ≡ h.id → code ≡ ERPCTIMEDOUT → attempt ≡ None → Reason v id code attempt
    missed : (i : ℕ) (d : Deed g state p q) → get_elem? ds i ≡ some d → missed_in d ≡ Some code → IsBacked v d → id ≡ id_of d → attempt ≡ Some (attempt_of d) → Reason v id code attempt
    dropped : (n : ℕ) → WasDropped state p q ds id code n → attempt ≡ Some n → Reason v id code attempt

  -- an error that is queued for the id with this first version in slot i is one that the client had a reason to post
  pub record QueuedFor (v : View Asked) (i first e : ℕ) : Type 0 where
    pub id : ℕ
    pub code : ℕ
    pub attempt : Maybe ℕ
    pub slot_is : id_slot id ≡ i
    pub first_is : id_first id ≡ first
    pub error_is : error_in code attempt ≡ e
    pub reason : Reason v id code attempt

  -- the error of a lock: the client posted it, or it was handed out of a locked word that the client found
  pub data Origin (v : View Asked) (k : IdLock Asked) (code : ℕ) (attempt : Maybe ℕ) : Type 0 where
    posted_so : Reason v (id_in k) code attempt → Origin v k code attempt
    handed_out : (word : ℕ) → Found k.slot word v → (parts word).state ≡ 2 → (parts word).first ≡ (parts k.word.0).first → (parts word).oldest ≡ error_in code attempt → (parts word).oldest ≢ 0 → Origin v k code attempt

  -- the error of a lock is for its current attempt or for the whole call; and the seat had locked the id with a call of the operation whose end it tells
  pub record Cause (v : View Asked) (k : IdLock Asked) (code : ℕ) (attempt : Maybe ℕ) : Type 0 where
    pub inside : k.slot < q.slots
    pub seen : IsSeen v k
    pub locked : 0 < total (is_locked_for (parts k.word.0).first k.content.operation) (notes_of k.slot v.notes)
    pub timely : IsTimely attempt (parts k.word.0).attempt
    pub origin : Origin v k code attempt

  -- what is told is the end of the call of a lock, with an error that ended it, at the attempt of the lock
  pub record IsCaused (v : View Asked) (x : Told) : Type 0 where
    pub lock : IdLock Asked
    pub code : ℕ
    pub attempt : Maybe ℕ
    pub is : x ≡ failed lock code
    pub ends : decision lock code attempt ≡ decisions.End
    pub cause : Cause v lock code attempt
    pub over : 0 < total (is_ended_at (parts lock.word.0).first (parts lock.word.0).attempt) (notes_of lock.slot v.notes)

  -- the id with this first version in slot i advanced to attempt n: for an error that left it retries, which a lock at the attempt before had
  pub record AdvancedFor (v : View Asked) (i first n : ℕ) : Type 0 where
    pub lock : IdLock Asked
    pub code : ℕ
    pub attempt : Maybe ℕ
    pub slot_is : lock.slot ≡ i
    pub first_is : (parts lock.word.0).first ≡ first
    pub next : n ≡ (parts lock.word.0).attempt + 1
    pub goes_on : decision lock code attempt ≡ decisions.Retry
    pub cause : Cause v lock code attempt
