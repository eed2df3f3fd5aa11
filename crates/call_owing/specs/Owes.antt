-- A program in which a seat does what it owes.
use Rattle.std.specs.Prelude.{ℕ, ◌≡◌, ◌+◌, ◌-◌, ◌≤◌, ◌⊎◌, ◌==◌, Bool, true, false, if◌then◌else◌, List, [], ◌∷◌, Option, Some, None}
use Rattle.sock_io.specs.declared.link.Put.{Put}
use Rattle.sock_io.specs.declared.link.Ready.{Ready}
use Rattle.sock_model.specs.declared.chain.Heading.{Heading}
use Rattle.corr_core.specs.IdSlotWord.{parts, attempt_of}
use Rattle.corr_core.specs.EndedByRangeOrAttempt.{ends_call}
use Rattle.seat_programs.specs.Asides.{Found}
use Rattle.seat_programs.specs.LoopHeads.{Head, Exit, Sought, First, Posts, Unlocks, Decides, Locks, Joins, Opens, Reads, Posting, HasLocked, Unlocking, IsOpen, HasNext, Locking, NotThere, Has}
use Rattle.seat_programs.specs.Programs.{Program, Do, Say, Sent, Rest, TakeMessage, TakeHome, PutHome, PutBytes, AskReady, Write, Aside, Round, Keep, Retries}
use Rattle.sock_words.specs.ErrorCodes.{is_final}
use Rattle.seat_programs.specs.PostPrograms.{is_stale, IsSoughtWord}
use Rattle.seat_programs.specs.Writings.{Writing, Puts, Waits}
use Rattle.call_owing.specs.Owing.{Duty, Free, Trying, Telling, Owing, Among, with_duty, freed, with_left, with_keeps, with_dead, KnowsError, KnowsOwner, MayCall, CallMove, FindsCall, AsideMove, MayOwe, FindsOwe}
use Rattle.sock_words.specs.PackedWords.{call_id, id_slot, id_first, NO_SOCKET, bit}

-- v is u, but for more that it knows
pub record Further (u v : Owing) : Type 0 where
  pub duty : v.duty ≡ u.duty
  pub knows : (id n : ℕ) → Among id n u.knows → Among id n v.knows
  pub keeps : v.keeps ≡ u.keeps
  pub link : v.link ≡ u.link
  pub left : v.left ≡ u.left
  pub dead : v.dead ≡ u.dead

abbrev pub IsFree : Owing → Type 0
IsFree u = u.duty ≡ Free

-- whoever waits for others keeps no retry meanwhile
abbrev pub IsIdle : Owing → Type 0
IsIdle u = (u.duty ≡ Free) × (u.keeps ≡ false)

abbrev pub KnowsWriting : Owing → Writing → Type 0
KnowsWriting u (Puts h now heading left taken asked) = KnowsOwner u heading
KnowsWriting u (Waits h now heading left taken) = KnowsOwner u heading
KnowsWriting u other = Unit {0}

-- the seat's duty, if it has one, is the error that it posts
abbrev pub PostsOwn : ℕ → ℕ → Duty → Type 0
PostsOwn id e Free = Unit {0}
PostsOwn id e (Telling i n) = (i ≡ id) × (attempt_of e ≡ n)
PostsOwn id e other = ⊥

-- an error in hand is known, and is of the current attempt
abbrev pub IsDue : Owing → ℕ → ℕ → ℕ → Type 0
IsDue u id w e = KnowsError u id e × (is_stale e (parts w) ≡ false) × ((parts w).first ≡ id_first id)

-- a seat that has the lock either tries that attempt, and then the error is for the whole call, or has no duty
abbrev pub MayDecide : ℕ → ℕ → ℕ → Duty → Type 0
MayDecide id w e Free = Unit {0}
MayDecide id w e (Trying i n) = (i ≡ id) × (attempt_of e ≡ 7)
MayDecide id w e other = ⊥

-- it may keep a retry, or the error ends the call
abbrev pub MayAdvance : Owing → ℕ → ℕ → Type 0
MayAdvance u w e = (u.keeps ≡ true) ⊎ (ends_call (parts w) e ≡ true)

-- a retry seeks its own range
abbrev pub MaySeek : ℕ → Sought → Duty → Type 0
MaySeek i sought Free = Unit {0}
MaySeek i sought (Trying id n) = (id_slot id ≡ i) × (sought ≡ First (id_first id))
MaySeek i sought other = ⊥

abbrev pub FoundRange : ℕ → ℕ → Duty → Type 0
FoundRange i w (Trying id n) = ((parts w).first ≡ id_first id) × ((parts w).attempt ≡ n)
FoundRange i w other = Unit {0}

module _ (life : ℕ → Option ℕ) where
  abbrev pub AtOwe : Owing → Head → Type 0
  AtOwe u (Posts id e w) = PostsOwn id e u.duty × KnowsError u id e × ((parts w).first ≡ id_first id) × (is_stale e (parts w) ≡ false)
  AtOwe u (Unlocks i w true) = IsFree u × Among (call_id i (parts w).first) (parts w).attempt u.knows
  AtOwe u (Unlocks i w false) = u.duty ≡ Trying (call_id i (parts w).first) (parts w).attempt
  AtOwe u (Decides id asked w e) = MayDecide id w e u.duty × IsDue u id w e × MayAdvance u w e
  AtOwe u (Locks i sought w) = MaySeek i sought u.duty × IsSoughtWord sought w
  AtOwe u (Joins id) = IsIdle u × (u.left ≡ [])
  AtOwe u (Opens o) = ((k : ℕ) × (u.link ≡ k ∷ [])) × IsIdle u
  AtOwe u (Reads r) = IsFree u × (u.link ≡ r.link ∷ []) × (life r.link ≡ Some r.id)
  AtOwe u other = Unit {0}

  abbrev pub LeavesUnlocks : ℕ → ℕ → Unlocking → Owing → Owing → Type 0
  LeavesUnlocks id n (IsOpen w) u v = Further (with_duty (Trying id n) u) v × (n ≤ 6)
  LeavesUnlocks id n (HasNext w e) u v = Further (with_duty (Trying id n) u) v × (attempt_of e ≡ 7) × ((parts w).first ≡ id_first id) × (n ≤ 6)

  abbrev pub LeavesPosts : ℕ → ℕ → Posting → Owing → Owing → Type 0
  LeavesPosts id e (HasLocked w) u v = (v ≡ freed u) × ((parts w).first ≡ id_first id) × (is_stale e (parts w) ≡ false)
  LeavesPosts id e other u v = v ≡ freed u

  abbrev pub LeavesLocks : ℕ → Locking → Owing → Owing → Type 0
  LeavesLocks i (NotThere w) u v = v ≡ freed u
  LeavesLocks i (Has w) u v = (v ≡ u) × FoundRange i w u.duty

  -- a reader learns the life of its link, or that there is none
  abbrev pub LeavesOpens : ℕ → Owing → Owing → Type 0
  LeavesOpens word u v = ((k : ℕ) (ks : List ℕ) → u.link ≡ k ∷ ks → life k ≡ (if word == NO_SOCKET then None else Some (word - 1))) × (v ≡ (if word == NO_SOCKET then with_left [] u else u))

  abbrev pub LeavesOwe : (head : Head) → Exit head → Owing → Owing → Type 0
  LeavesOwe (Posts id e w) exit u v = LeavesPosts id e exit u v
  LeavesOwe (Unlocks i w advance) exit u v = LeavesUnlocks (call_id i (parts w).first) ((parts w).attempt + bit advance) exit u v
  LeavesOwe (Reads r) exit u v = Further (if exit.closed then with_dead u else u) v × (exit.reading.link ≡ r.link) × (exit.reading.id ≡ r.id) × (is_final exit.code ≡ true)
  LeavesOwe (Locks i sought w) exit u v = LeavesLocks i exit u v
  LeavesOwe (Opens o) exit u v = LeavesOpens exit u v
  LeavesOwe (Decides id asked w e) exit u v = Further (freed u) v
  LeavesOwe other exit u v = v ≡ u

  -- a reader ends where it found that the life of its link is failed, if there is one
  abbrev pub FoundFailed : Owing → Type 0
  FoundFailed u = (k s : ℕ) → u.link ≡ k ∷ [] → life k ≡ Some s → u.dead ≡ true

  abbrev pub OwesOn : Owing → Program → Type 0
  OwesOn u (Do call next) = MayCall u call × ((found : ℕ) → FindsCall life u call found → (v : Owing) × CallMove life call found u v × OwesOn v (next found))
  OwesOn u (Say o outcome next) = OwesOn u next
  OwesOn u (Sent o next) = OwesOn u next
  OwesOn u Rest = IsFree u × (u.left ≡ []) × (u.keeps ≡ false) × FoundFailed u
  OwesOn u (TakeMessage r next) = (heading : Heading) (bytes : List ℕ) (v : Owing) → Further u v → KnowsOwner v heading → OwesOn v (next heading bytes)
  OwesOn u (TakeHome k next) = (n : ℕ) → OwesOn u (next n)
  OwesOn u (PutHome k n after) = OwesOn u after
  OwesOn u (PutBytes k asked bytes next) = (answer : Put) → OwesOn u (next answer)
  OwesOn u (AskReady k next) = (answer : Ready) → OwesOn u (next answer)
  OwesOn u (Write w after) = IsFree u × (u.keeps ≡ true) × KnowsWriting u w × ((v : Owing) → Further u v → OwesOn v after)
  OwesOn u (Aside step next) = MayOwe u step × ((found : Found step) → FindsOwe u step found → (v : Owing) × AsideMove step found u v × OwesOn v (next found))
  OwesOn u (Round head next) = AtOwe u head × ((exit : Exit head) (v : Owing) → LeavesOwe head exit u v → OwesOn v (next exit))
  OwesOn u (Keep r next) = (u.duty ≡ Trying r.id r.attempt) × (u.keeps ≡ true) × (r.attempt ≤ 6) × OwesOn (freed u) next
  OwesOn u (Retries requests after) = IsFree u × (b : Bool) × ((v : Owing) → Further u v → OwesOn (with_keeps b v) after)
