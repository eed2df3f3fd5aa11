-- Why clients post errors: they were refused an attempt that they tried, or dropped a message.
use Rattle.std.specs.Prelude.{ℕ, ◌≡◌, ◌≢◌, ◌+◌, ◌%◌, ◌<◌, ◌≤◌, ◌⊎◌, ◌==◌, if◌then◌else◌, Bool, true, false, nat_le, List, [], ◌∷◌, ◌++◌, length, map, replicate}
use Rattle.std.specs.List.{AllByRecursion}
use Rattle.sock_words.specs.ErrorCodes.{EEOF, EFAILEDSOCKET, EREQUESTS, ERESPONSE, ERPCTIMEDOUT}
use mathlib.Core.Option.{some}
use lib.ListN.{get_elem?}
use Rattle.sock_words.specs.declared.plain.Plan.{Plan}
use Rattle.sock_words.specs.PackedWords.{at_word, socket_id_slot, socket_id_version, vref_version, call_id, id_slot, id_first}
use Rattle.sock_model.specs.declared.chain.Heading.{Heading}
use Rattle.seat_programs.specs.brpc_model.specs.Items.{Item}
use Rattle.seat_programs.specs.brpc_model.specs.Operations.{Turn}
use Rattle.corr_core.specs.IdSlotWord.{parts, error_of}
use Rattle.sock_message.specs.Asked.{Asked, name_of}
use Rattle.seat_programs.specs.Asides.{Step, Found, PutCall, StoreAt, PostId}
use Rattle.seat_programs.specs.TableSteps.{TableStep, OnSlot, OnName, OnChain, OnPlace, AddRef, LoadName, LookWord, LoadCode, ClaimRequest, DropPlace}
use Rattle.seat_programs.specs.LoopHeads.{Head, Exit, Retry, Posts, Unlocks, Locks, Reads}
use Rattle.seat_programs.specs.Writings.{Holder, Writing, Puts}
use Rattle.seat_programs.specs.Programs.{Program, Do, Write, Aside}
use Rattle.seat_programs.specs.Cores.{Core, SeatState, found_at, waiting_at}
use Rattle.seat_programs.specs.StepTables.{word_of}
use Rattle.seat_programs.specs.Ticks.{Moment, quiet, ticked}
use Rattle.seat_programs.specs.Tasks.{plan_of}
use Rattle.seat_programs.specs.ScriptSetupToEnding.{opened, ending, set_up, played, IsRunWithCalls}
use Rattle.outcome_causes.specs.program_steps.specs.AtSteps.{Asks, AtSteps}
use Rattle.call_causes.specs.Below.outcome_stories.specs.OperationStories.{In}
use Rattle.call_causes.specs.Below.id_runs.specs.Goes.{FitsSock}
use Rattle.label_runs.specs.AttemptLabelsLeft.{Trial, Idle, Tries, Sends, put_behind, Kept, unlocks_trial, locked_trial, LeavesLabel, MayPut, AsideMove, FindsLabel, AtLabel}
use Rattle.corr_core.specs.declared.marks.Plan.{Plan as IdPlan}
use Rattle.corr_core.specs.EndedByRangeOrAttempt.{WHOLE}
use Rattle.sock_model.specs.declared.view.View.{View}
use Rattle.call_causes.specs.call_stories.specs.PostsOfRun.{Post}
use Rattle.accept_counts.specs.AttemptCounts.{times_of, WasMade, TrialFits}
use Rattle.seat_programs.specs.LoopRounds.{first_step}

-- ## What a seat did

-- a step on the table of the sockets with the word that it found, a call that was put into its home, or a round that was begun from the head of a loop of writing; or it
-- found no socket under this name as it tried an attempt of a call: the name, the operation, its id, and the attempt
pub data Deed : Type 0 where
  DidStep : TableStep → ℕ → Deed
  DidPut : Asked → Deed
  DidRound : Writing → Deed
  DidMiss : ℕ → ℕ → ℕ → ℕ → Deed

-- an error that a seat is going to post: it was refused an attempt (id, attempt, code), or dropped a message, where it found this code of the socket
pub data Charge : Type 0 where
  NoCharge : Charge
  IsRefused : ℕ → ℕ → ℕ → Charge
  HasDropped : Heading → ℕ → Charge

-- the attempt that a seat tries, the error that it is going to post, and what it did for them, the latest first
pub record Doing : Type 0 where
  pub trial : Trial
  pub charge : Charge
  pub deeds : List Deed

abbrev pub idle : Doing
idle = record { trial = Idle; charge = NoCharge; deeds = [] }

-- at the head of a loop of writing
abbrev pub begins : Writing → Doing
begins w = record { trial = Idle; charge = NoCharge; deeds = DidRound w ∷ [] }

-- ## Refusals

-- each of so many requests was found taken
abbrev pub FoundTaken : ℕ → List Deed → Type 0
FoundTaken requests deeds = (q : ℕ) → q < requests → (id found : ℕ) × In (DidStep (OnChain (ClaimRequest id q)) found) deeds × (found % 2 ≡ 1)

-- the life that the name had was found to be of another version, or failed; or, of a retry of operation o, the name had none
pub data FoundLost (o name n : ℕ) (deeds : List Deed) : Type 0 where
  WasOther : (id found : ℕ) → In (DidStep (OnName (LoadName name)) (id + 1)) deeds → In (DidStep (OnSlot (AddRef id)) found) deeds → vref_version found ≢ socket_id_version id → FoundLost o name n deeds
  WasOdd : (id found : ℕ) → In (DidStep (OnName (LoadName name)) (id + 1)) deeds → In (DidStep (OnSlot (LookWord id)) found) deeds → vref_version found % 2 ≡ 1 → FoundLost o name n deeds
  WasNone : (id : ℕ) → 0 < n → In (DidMiss name o id n) deeds → FoundLost o name n deeds

-- attempt n of the call was refused with the code, over a table of so many requests
abbrev pub WhyRefused : ℕ → Asked → ℕ → ℕ → List Deed → Type 0
WhyRefused requests asked n code deeds = ((code ≡ EREQUESTS) × FoundTaken requests deeds) ⊎ ((code ≡ EFAILEDSOCKET) × FoundLost asked.operation (name_of asked n) n deeds)

-- where the words that it finds are right, the program stores the at word of attempt n of the call with this id, as one of operation o
abbrev pub WouldStore : ℕ → ℕ → ℕ → Program → Type 0
WouldStore o id n (Do call next) = (found : ℕ) × FitsSock call found × WouldStore o id n (next found)
WouldStore o id n (Aside (StoreAt x w) next) = (k : ℕ) × (x ≡ o) × (w ≡ at_word (id_first id) (id_slot id) k n) × (k < 65535)
WouldStore o id n other = ⊥

-- the seat tries attempt n of the call with this id, which is operation o
abbrev pub IsTrying : Trial → ℕ → ℕ → ℕ → Program → Type 0
IsTrying t o id n program = (t ≡ Sends o id n) ⊎ ((t ≡ Tries id n) × WouldStore o id n program)

-- what the seat did with the last step of attempt n of the call with this id, which is operation o
abbrev pub IsLast : TableStep → (ℕ → Program) → ℕ → ℕ → ℕ → ℕ → Deed → Type 0
IsLast call next found o id n deed = (deed ≡ DidStep call found) ⊎ ((name : ℕ) × (call ≡ OnName (LoadName name)) × (found ≡ 0) × (deed ≡ DidMiss name o id n) × WouldStore o id n (Do call next))

-- of so many requests; these are the calls; and a seat reads a link, or is a client's
module _ (requests : ℕ) (is_call : Asked → Type 0) (reads : Bool) where
  -- the step is the last of a refused attempt
  pub record Refuses (call : TableStep) (next : ℕ → Program) (found : ℕ) (s u : Doing) : Type 0 where
    pub id : ℕ
    pub attempt : ℕ
    pub code : ℕ
    pub asked : Asked
    pub called : is_call asked
    pub trying : IsTrying s.trial asked.operation id attempt (Do call next)
    pub few : attempt ≤ 6
    pub still : put_behind s.trial call ≡ s.trial
    pub put : In (DidPut asked) s.deeds
    pub deed : Deed
    pub last : IsLast call next found asked.operation id attempt deed
    pub why : WhyRefused requests asked attempt code (deed ∷ s.deeds)
    pub gives_up : u.trial ≡ Idle
    pub charge : u.charge ≡ IsRefused id attempt code
    pub deeds : u.deeds ≡ deed ∷ s.deeds

  -- the step drops a message, behind a look at the code of the socket
  pub record Drops (call : TableStep) (found : ℕ) (s u : Doing) : Type 0 where
    pub holder : Holder
    pub now : ℕ
    pub heading : Heading
    pub left : List ℕ
    pub taken : ℕ
    pub asked : Bool
    pub code : ℕ
    pub is : call ≡ OnPlace (DropPlace heading.label.place holder.link holder.places)
    pub round : In (DidRound (Puts holder now heading left taken asked)) s.deeds
    pub load : In (DidStep (OnSlot (LoadCode (socket_id_slot holder.id) (socket_id_version holder.id))) code) s.deeds
    pub gives_up : u.trial ≡ Idle
    pub charge : u.charge ≡ HasDropped heading code
    pub deeds : u.deeds ≡ DidStep call found ∷ s.deeds

  -- the error stays to be posted, and what was done for it is known; or both are forgotten
  abbrev pub Remembers : List Deed → Doing → Doing → Type 0
  Remembers deeds s u = ((u.charge ≡ s.charge) × (u.deeds ≡ deeds)) ⊎ ((u.charge ≡ NoCharge) × (u.deeds ≡ []))

  abbrev pub Moves : TableStep → (ℕ → Program) → ℕ → Doing → Doing → Type 0
  Moves call next found s u = (Kept (put_behind s.trial call) u.trial × Remembers (DidStep call found ∷ s.deeds) s u) ⊎ (Refuses call next found s u ⊎ Drops call found s u)

  -- ## Posts

  abbrev pub IsReaders : ℕ → Type 0
  IsReaders e = (n : ℕ) × ((e ≡ error_of EEOF n) ⊎ (e ≡ error_of ERESPONSE n))

  -- the error that a seat with the charge posts to the id
  abbrev pub IsChargeOf : Charge → ℕ → ℕ → Type 0
  IsChargeOf NoCharge id e = ⊥
  IsChargeOf (IsRefused i n code) id e = (i ≡ id) × (e ≡ error_of code n)
  IsChargeOf (HasDropped heading code) id e = (heading.owner ≢ 0) × (heading.owner ≡ id) × (e ≡ error_of (if code == 0 then EFAILEDSOCKET else code) heading.label.attempt)

  -- a reader posts how its link ended, a client that a call expired, or what it is charged with
  abbrev pub IsPostOf : Charge → ℕ → ℕ → Type 0
  IsPostOf due id e = ((reads ≡ true) × IsReaders e) ⊎ (((reads ≡ false) × (e ≡ error_of ERPCTIMEDOUT WHOLE)) ⊎ ((reads ≡ false) × IsChargeOf due id e))

  abbrev pub MayPost : Charge → Step → Type 0
  MayPost due (PostId i from e) = IsPostOf due (call_id i (parts from).first) e
  MayPost due other = Unit {0}

  abbrev pub did_aside : Step → List Deed → List Deed
  did_aside (PutCall i asked) deeds = DidPut asked ∷ deeds
  did_aside other deeds = deeds

  -- ## Loops

  abbrev pub AtCharge : Charge → Head → Type 0
  AtCharge due (Posts id e w) = IsPostOf due id e
  AtCharge due (Unlocks i w advance) = due ≡ NoCharge
  AtCharge due other = Unit {0}

  -- a reading ends with one of these codes
  abbrev pub LeavesCode : (head : Head) → Exit head → Type 0
  LeavesCode (Reads r) exit = (exit.code ≡ EEOF) ⊎ (exit.code ≡ ERESPONSE)
  LeavesCode other exit = Unit {0}

  abbrev pub doing_behind : (head : Head) → Exit head → Doing → Doing
  doing_behind (Unlocks i w advance) exit s = record { trial = unlocks_trial i w advance s.trial; charge = NoCharge; deeds = s.deeds }
  doing_behind (Locks i sought w) exit s = record { trial = locked_trial exit s.trial; charge = NoCharge; deeds = [] }
  doing_behind head exit s = idle

  -- ## Programs

  abbrev charges_asks : Asks Doing
  charges_asks = record {
    rest = λ s. Unit {0};
    word = λ s call next behind. MayPut is_call s.trial call × ((found : ℕ) → FitsSock call found → (u : Doing) × Moves call next found s u × behind u found);
    said = λ s behind. behind s;
    moved = λ s behind. behind idle;
    written = λ s behind. (reads ≡ false) × behind idle;
    beside = λ s step next behind. MayPost s.charge step × ((found : Found step) → FindsLabel is_call step found → (u : Doing) × (AsideMove is_call step found s.trial u.trial × Remembers (did_aside step s.deeds) s u) × behind u found);
    loop = λ s head behind. (AtLabel is_call head × AtCharge s.charge head) × ((exit : Exit head) → LeavesLabel head exit → LeavesCode head exit → behind (doing_behind head exit s) exit);
    kept = λ s r behind. (s.trial ≡ Tries r.id r.attempt) × (r.attempt ≤ 6) × (0 < r.attempt) × behind idle;
    tried = λ s many behind. (reads ≡ false) × (many ≡ requests) × behind idle;
  }

  -- the program keeps to its attempts, as `Labels` has it, and posts what it is charged with
  abbrev pub Charges : Doing → Program → Type 0
  Charges s program = AtSteps charges_asks s program

-- ## What was done in a run

module _ (p : Plan) where
  -- the seat did this in the tick
  abbrev pub DidAt : Core → Moment → ℕ → Deed → Type 0
  DidAt c m seat (DidStep call found) = (m.seat ≡ seat) × (s : SeatState) × (next : ℕ → Program) × (get_elem? c.seats seat ≡ some s) × (first_step s.program ≡ Do call next) × (found ≡ found_at c.words (word_of p call))
  DidAt c m seat (DidPut asked) = (m.seat ≡ seat) × (s : SeatState) × (i : ℕ) × (next : ℕ → Program) × (get_elem? c.seats seat ≡ some s) × (first_step s.program ≡ Aside (PutCall i asked) next)
  DidAt c m seat (DidMiss name o id n) = (m.seat ≡ seat) × (s : SeatState) × (next : ℕ → Program) × (get_elem? c.seats seat ≡ some s) × (first_step s.program ≡ Do (OnName (LoadName name)) next) × (found_at c.words (word_of p (OnName (LoadName name))) ≡ 0) × WouldStore o id n (first_step s.program)
  DidAt c m seat (DidRound w) = (m.seat ≡ seat) × (s : SeatState) × (after : Program) × (get_elem? c.seats seat ≡ some s) × (s.program ≡ Write w after)

  -- in one of these ticks
  abbrev pub DidIn : Core → List Moment → ℕ → Deed → Type 0
  DidIn c [] seat deed = ⊥
  DidIn c (m ∷ ms) seat deed = DidAt c m seat deed ⊎ DidIn (ticked p c m) ms seat deed

module _ (script : List Item) (turns : List Turn) (end_ : Core) (is : IsRunWithCalls script turns end_) where
  -- before the run was ending: in the setup, by the clients, as seat 0 closed what was opened; and behind that
  abbrev pub DidEarly : ℕ → Deed → Type 0
  DidEarly seat deed = let p = plan_of script in DidIn p (opened script) (replicate is.setup (quiet 0)) seat deed ⊎ DidIn p (set_up script is.setup) (is.scheduled ++ is.later) seat deed

  abbrev pub DidClosing : ℕ → Deed → Type 0
  DidClosing seat deed = DidIn (plan_of script) (ending script (played script is.setup (is.scheduled ++ is.later))) (replicate is.last (quiet 0)) seat deed

  abbrev pub DidLate : ℕ → Deed → Type 0
  DidLate seat deed = DidIn (plan_of script) is.ended is.final seat deed

  -- in the whole run
  abbrev pub DidInRun : ℕ → Deed → Type 0
  DidInRun seat deed = DidEarly seat deed ⊎ (DidClosing seat deed ⊎ DidLate seat deed)

  -- a seat of a client, which retried operation o before the run was ending, found nothing under the name for attempt n
  abbrev pub FoundNothing : ℕ → ℕ → ℕ → Type 0
  FoundNothing o n name = (0 < n) × (seat id : ℕ) × (seat < 32) × DidEarly seat (DidMiss name o id n)

-- ## Attempts that would be stored

-- each attempt that would store an at word in the tick, had it found the right words, is of its operation's own call
abbrev pub WouldOwn : (ℕ → ℕ) → Core → Moment → Type 0
WouldOwn ids c m = (seat : SeatState) → get_elem? c.seats m.seat ≡ some seat → (o id n : ℕ) → n ≤ 6 → id_slot id < 65536 → WouldStore o id n (first_step seat.program) → ids o ≡ id

abbrev pub AllWouldOwn : (ℕ → ℕ) → Plan → Core → List Moment → Type 0
AllWouldOwn ids p c [] = Unit {0}
AllWouldOwn ids p c (m ∷ ms) = WouldOwn ids c m × AllWouldOwn ids p (ticked p c m) ms

-- in all of a run
pub record RunWouldOwn (ids : ℕ → ℕ) (script : List Item) (turns : List Turn) (core : Core) (is : IsRunWithCalls script turns core) : Type 0 where
  pub of_setup : AllWouldOwn ids (plan_of script) (opened script) (replicate is.setup (quiet 0))
  pub of_played : AllWouldOwn ids (plan_of script) (set_up script is.setup) (is.scheduled ++ is.later)
  pub of_closing : AllWouldOwn ids (plan_of script) (ending script (played script is.setup (is.scheduled ++ is.later))) (replicate is.last (quiet 0))
  pub of_final : AllWouldOwn ids (plan_of script) is.ended is.final

-- ## The kinds of posts

-- attempt n of the call with this id was refused with the code
pub record IsRefusal (requests : ℕ) (is_call : Asked → Type 0) (ids : ℕ → ℕ) (id n code : ℕ) (deeds : List Deed) : Type 0 where
  pub asked : Asked
  pub called : is_call asked
  pub own : ids asked.operation ≡ id
  pub few : n ≤ 6
  pub put : In (DidPut asked) deeds
  pub why : WhyRefused requests asked n code deeds

-- the message was dropped, and this code was found of its socket
pub record IsDrop (heading : Heading) (code : ℕ) (deeds : List Deed) : Type 0 where
  pub holder : Holder
  pub now : ℕ
  pub left : List ℕ
  pub taken : ℕ
  pub asked : Bool
  pub found : ℕ
  pub round : In (DidRound (Puts holder now heading left taken asked)) deeds
  pub load : In (DidStep (OnSlot (LoadCode (socket_id_slot holder.id) (socket_id_version holder.id))) code) deeds
  pub drop : In (DidStep (OnPlace (DropPlace heading.label.place holder.link holder.places)) found) deeds

-- why seat j posted the error: Did tells what each seat did, and Gone of which attempts nothing is left
pub data PostKind (requests : ℕ) (is_call : Asked → Type 0) (ids : ℕ → ℕ) (Did : ℕ → Deed → Type 0) (Gone : ℕ → ℕ → Type 0) (j : ℕ) (x : Post) : Type 0 where
  -- the readers' seats begin at 32
  ByReader : (n : ℕ) → 32 ≤ j → (x.error ≡ error_of EEOF n) ⊎ (x.error ≡ error_of ERESPONSE n) → PostKind requests is_call ids Did Gone j x
  ByExpiry : j < 32 → x.error ≡ error_of ERPCTIMEDOUT WHOLE → PostKind requests is_call ids Did Gone j x
  ByRefusal : (n code : ℕ) (deeds : List Deed) → j < 32 → AllByRecursion (Did j) deeds → IsRefusal requests is_call ids x.id n code deeds → Gone x.id n → x.error ≡ error_of code n → PostKind requests is_call ids Did Gone j x
  ByDrop : (heading : Heading) (code : ℕ) (deeds : List Deed) → j < 32 → AllByRecursion (Did j) deeds → IsDrop heading code deeds → heading.owner ≢ 0 → heading.owner ≡ x.id
      → x.error ≡ error_of (if code == 0 then EFAILEDSOCKET else code) heading.label.attempt → PostKind requests is_call ids Did Gone j x

-- ## The law

abbrev pub trial_in : Doing → Trial
trial_in s = s.trial

module _ (requests : ℕ) (is_call : Asked → Type 0) (ids : ℕ → ℕ) (p : Plan) (q : IdPlan) where
  -- the attempt was made, and stands nowhere: no seat tries it, no retry waits for it, and no link accepted it
  abbrev pub IsSpent : Core → List View → List Doing → ℕ → ℕ → Type 0
  IsSpent c vs ss id n = (times_of id n c vs (map trial_in ss) ≡ 0) × WasMade q c.calls.words id n

  abbrev pub ChargeFits : Core → List View → List Doing → Charge → List Deed → Type 0
  ChargeFits c vs ss NoCharge deeds = Unit {0}
  ChargeFits c vs ss (IsRefused id n code) deeds = IsRefusal requests is_call ids id n code deeds × IsSpent c vs ss id n
  ChargeFits c vs ss (HasDropped heading code) deeds = IsDrop heading code deeds

  -- each seat has a reason for each error that it is going to post; Did tells what each did so far
  pub record ChargeLaw (Did : ℕ → Deed → Type 0) (c : Core) (vs : List View) (ss : List Doing) : Type 0 where
    pub once : (id n : ℕ) → times_of id n c vs (map trial_in ss) ≤ 1
    pub made : (id n : ℕ) → 0 < times_of id n c vs (map trial_in ss) → WasMade q c.calls.words id n
    pub each : length ss ≡ length c.seats
    -- a retry that waits is no first attempt
    pub later : (i : ℕ) → AllByRecursion (λ (r : Retry). 0 < r.attempt) (waiting_at c.calls.waiting i)
    pub trials : (j : ℕ) (s : Doing) → get_elem? ss j ≡ some s → TrialFits ids s.trial
    pub did : (j : ℕ) (s : Doing) → get_elem? ss j ≡ some s → AllByRecursion (Did j) s.deeds
    pub due : (j : ℕ) (s : Doing) → get_elem? ss j ≡ some s → ChargeFits c vs ss s.charge s.deeds
    pub programs : (j : ℕ) (seat : SeatState) (s : Doing) → get_elem? c.seats j ≡ some seat → get_elem? ss j ≡ some s → Charges requests is_call (nat_le 32 j) s seat.program
