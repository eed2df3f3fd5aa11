-- What a seat owes to a call: marks without words of their own, and how each step may change them.
use Rattle.std.specs.Prelude.{ℕ, ◌≡◌, ◌≢◌, ◌+◌, ◌-◌, ◌%◌, ◌<◌, ◌≤◌, ◌⊎◌, ◌==◌, Bool, true, false, if◌then◌else◌, List, [], ◌∷◌, Option, Some, None}
use Rattle.sock_words.specs.PackedWords.{socket_id_version, socket_id_slot, vref_version, at_word, at_word_first, at_word_slot, at_word_link, at_word_attempt, call_id, id_slot, id_first, NO_SOCKET, bit}
use Rattle.corr_core.specs.IdSlotWord.{Parts, parts, attempt_of}
use Rattle.seat_programs.specs.TableSteps.{TableStep, OnSlot, OnName, OnMessage, AddRef, SetOdd, LookWord, FindLink, LoadOpen, PutMessage}
use Rattle.seat_programs.specs.Asides.{Step, MakeId, StoreAt, LoadAt, LoadIdWord, LockId, PostId, UnlockId, EndId, TakeBytes, Taking, Closed, Found}
use Rattle.seat_programs.specs.PostPrograms.{is_first}
use Rattle.sock_model.specs.declared.chain.Heading.{Heading}

-- ## Marks

-- of an attempt n of the call with this id. Trying: its word isn't stored yet. Linked: the link of the life that the seat holds was found. Looking: its word names the link,
-- and a look at the life follows, in this operation. Telling: an error of it is to be posted.
pub data Duty : Type 0 where
  Free : Duty
  Trying : ℕ → ℕ → Duty
  Linked : ℕ → ℕ → ℕ → Duty
  Looking : ℕ → ℕ → ℕ → ℕ → Duty
  Telling : ℕ → ℕ → Duty

-- the duty of a seat; of which attempts it knows that their word is stored, or that an error of theirs is on its way; whether it may keep retries;
-- and of a reader its link, the operations whose at words it has still to load, and whether it found the life of its link failed
pub record Owing : Type 0 where
  pub duty : Duty
  pub knows : List (ℕ × ℕ)
  pub keeps : Bool
  pub link : List ℕ
  pub left : List ℕ
  pub dead : Bool

abbrev pub Among : ℕ → ℕ → List (ℕ × ℕ) → Type 0
Among id n [] = ⊥
Among id n (x ∷ xs) = ((x.0 ≡ id) × (x.1 ≡ n)) ⊎ Among id n xs

abbrev pub InList : ℕ → List ℕ → Type 0
InList o [] = ⊥
InList o (x ∷ xs) = (x ≡ o) ⊎ InList o xs

-- the duty is to this attempt of this id
abbrev pub DutyTo : ℕ → ℕ → Duty → Type 0
DutyTo id n Free = ⊥
DutyTo id n (Trying i m) = (i ≡ id) × (m ≡ n)
DutyTo id n (Linked i m k) = (i ≡ id) × (m ≡ n)
DutyTo id n (Looking i m k o) = (i ≡ id) × (m ≡ n)
DutyTo id n (Telling i m) = (i ≡ id) × (m ≡ n)

-- the attempt whose word isn't stored yet
abbrev pub duty_tokens : Duty → List (ℕ × ℕ)
duty_tokens (Trying id n) = (id, n) ∷ []
duty_tokens (Linked id n k) = (id, n) ∷ []
duty_tokens other = []

abbrev pub with_duty : Duty → Owing → Owing
with_duty d u = record { duty = d; knows = u.knows; keeps = u.keeps; link = u.link; left = u.left; dead = u.dead }

abbrev pub freed : Owing → Owing
freed u = with_duty Free u

abbrev pub with_known : ℕ → ℕ → Owing → Owing
with_known id n u = record { duty = u.duty; knows = (id, n) ∷ u.knows; keeps = u.keeps; link = u.link; left = u.left; dead = u.dead }

abbrev pub with_left : List ℕ → Owing → Owing
with_left os u = record { duty = u.duty; knows = u.knows; keeps = u.keeps; link = u.link; left = os; dead = u.dead }

abbrev pub with_keeps : Bool → Owing → Owing
with_keeps b u = record { duty = u.duty; knows = u.knows; keeps = b; link = u.link; left = u.left; dead = u.dead }

abbrev pub with_dead : Owing → Owing
with_dead u = record { duty = u.duty; knows = u.knows; keeps = u.keeps; link = u.link; left = u.left; dead = true }

-- an error that is for the whole call, or for an attempt whose word is stored
abbrev pub KnowsError : Owing → ℕ → ℕ → Type 0
KnowsError u id e = (attempt_of e ≡ 7) ⊎ Among id (attempt_of e) u.knows

-- of an error that was taken out, where it isn't for the whole call
abbrev pub with_error : ℕ → ℕ → Owing → Owing
with_error id e u = if e == 0 then u else if attempt_of e == 7 then u else with_known id (attempt_of e) u

-- ## Steps on the table of the sockets

-- the word isn't that of the open id at this attempt
abbrev pub IsOpenAt : ℕ → ℕ → Parts → Type 0
IsOpenAt id n w = (w.first ≡ id_first id) × (w.state ≡ 1) × (w.attempt ≡ n)

-- `life k` is the id of the socket that gets link k, if one ever does
module _ (life : ℕ → Option ℕ) where
  pub data CallMove (call : TableStep) (found : ℕ) (u v : Owing) : Type 0 where
    stays : v ≡ u → CallMove call found u v
    -- the seat gives the attempt up: an error follows
    tells : (id n : ℕ) → u.duty ≡ Trying id n → v ≡ with_known id n (with_duty (Telling id n) u) → CallMove call found u v
    tells_late : (id n k o : ℕ) → u.duty ≡ Looking id n k o → v ≡ with_duty (Telling id n) u → CallMove call found u v
    links : (id n i h : ℕ) → call ≡ OnSlot (FindLink i h) → u.duty ≡ Trying id n → v ≡ with_duty (Linked id n found) u → CallMove call found u v
    -- the life was found live behind the store of the at word: the reader of its link will come upon that word
    looks : (id n k o s : ℕ) → call ≡ OnSlot (LookWord s) → life k ≡ Some s → u.duty ≡ Looking id n k o → vref_version found % 2 ≡ 0 → v ≡ freed u → CallMove call found u v
    -- a reader fails its life, or finds that it isn't there any more, or that there is none
    fails : (k s : ℕ) → call ≡ OnSlot (SetOdd (socket_id_slot s)) → u.link ≡ k ∷ [] → life k ≡ Some s → v ≡ with_dead u → CallMove call found u v
    gone : (k s : ℕ) → call ≡ OnSlot (AddRef s) → u.link ≡ k ∷ [] → life k ≡ Some s → vref_version found ≢ socket_id_version s → v ≡ with_dead u → CallMove call found u v
    unused : (k o : ℕ) → call ≡ OnName (LoadOpen o) → u.link ≡ k ∷ [] → life k ≡ None → v ≡ with_left [] u → CallMove call found u v

  -- what the table of the sockets says of what is found: the link of a life that the seat holds, and the word of the `open` of a reader's link
  abbrev pub HasLink : Duty → ℕ → ℕ → ℕ → Type 0
  HasLink d i h found = (id n s : ℕ) → d ≡ Trying id n → socket_id_slot s ≡ i → socket_id_version s ≡ h → life found ≡ Some s

  abbrev pub IsLifeOf : List ℕ → ℕ → Type 0
  IsLifeOf [] found = Unit {0}
  IsLifeOf (k ∷ ks) found = life k ≡ (if found == NO_SOCKET then None else Some (found - 1))

  abbrev pub FindsCall : Owing → TableStep → ℕ → Type 0
  FindsCall u (OnSlot (FindLink i h)) found = (found < 65535) × HasLink u.duty i h found
  FindsCall u (OnName (LoadOpen o)) found = found ≢ 0 → IsLifeOf u.link found
  FindsCall u other found = Unit {0}

-- the message of a call is one of an attempt whose word is stored
abbrev pub KnowsOwner : Owing → Heading → Type 0
KnowsOwner u heading = heading.owner ≢ 0 → Among heading.owner heading.label.attempt u.knows × (heading.label.attempt ≤ 6)

abbrev pub MayCall : Owing → TableStep → Type 0
MayCall u (OnMessage (PutMessage q heading bytes)) = KnowsOwner u heading
MayCall u other = Unit {0}

-- ## Steps aside

-- the at word found: a reader that is to post is one that owes
abbrev pub loaded : ℕ → ℕ → List ℕ → Owing → Owing
loaded k found os u = if found == 0 then with_left os u else if at_word_link found == k
    then with_known (call_id (at_word_slot found) (at_word_first found)) (at_word_attempt found) (with_duty (Telling (call_id (at_word_slot found) (at_word_first found)) (at_word_attempt found)) (with_left os u))
    else with_left os u

-- whoever looks at the word of the id that it owes an error may find that the id isn't open at that attempt
pub data Posting (i found : ℕ) (won : Bool) (u v : Owing) : Type 0 where
  posts_on : v ≡ u → Posting i found won u v
  leaves : (id n : ℕ) → u.duty ≡ Telling id n → id_slot id ≡ i → (IsOpenAt id n (parts found) → won ≡ true) → v ≡ freed u → Posting i found won u v
  -- a retry whose range has ended
  has_ended : (id n : ℕ) → u.duty ≡ Trying id n → id_slot id ≡ i → is_first (id_first id) (parts found) ≡ false → v ≡ freed u → Posting i found won u v

-- behind an exchange that gave a lock back: with an advance the seat has the next attempt to try
abbrev pub unlocked_by : ℕ → ℕ → Bool → Owing → Owing
unlocked_by i from advance u = let id = call_id i (parts from).first in with_error id (parts from).oldest (if advance then with_duty (Trying id ((parts from).attempt + 1)) u else u)

pub data Ending (i found : ℕ) (u v : Owing) : Type 0 where
  ends_other : v ≡ u → Ending i found u v
  ends_own : (id n : ℕ) → u.duty ≡ Trying id n → id_slot id ≡ i → v ≡ freed u → Ending i found u v

pub data Taken (k : ℕ) (found : Taking) (u v : Owing) : Type 0 where
  takes : v ≡ u → Taken k found u v
  closes : found ≡ Closed → u.link ≡ k ∷ [] → v ≡ with_dead u → Taken k found u v

abbrev pub AsideMove : (step : Step) → Found step → Owing → Owing → Type 0
AsideMove (MakeId i range) found u v = v ≡ with_duty (Trying (call_id i (parts found).first) 0) u
AsideMove (StoreAt o w) found u v = (id n k : ℕ) × (u.duty ≡ Linked id n k) × (w ≡ at_word (id_first id) (id_slot id) k n) × (k < 65535) × (n ≤ 6) × (v ≡ with_known id n (with_duty (Looking id n k o) u))
AsideMove (LoadAt o) found u v = (k : ℕ) × (os : List ℕ) × (u.link ≡ k ∷ []) × (u.left ≡ o ∷ os) × (v ≡ loaded k found os u)
AsideMove (LoadIdWord i) found u v = Posting i found false u v
AsideMove (LockId i from) found u v = Posting i found false u v
AsideMove (PostId i from e) found u v = Posting i found (found == from) u v
AsideMove (UnlockId i from advance) found u v = v ≡ (if found == from then unlocked_by i from advance u else u)
AsideMove (EndId i) found u v = Ending i found u v
AsideMove (TakeBytes k room) found u v = Taken k found u v
AsideMove other found u v = v ≡ u

-- what the seat has to be before
abbrev pub MayUnlock : ℕ → ℕ → Bool → Owing → Type 0
MayUnlock i from true u = (u.duty ≡ Free) × Among (call_id i (parts from).first) (parts from).attempt u.knows
MayUnlock i from false u = u.duty ≡ Trying (call_id i (parts from).first) (parts from).attempt

abbrev pub MayOwe : Owing → Step → Type 0
MayOwe u (MakeId i range) = u.duty ≡ Free
MayOwe u (LoadAt o) = (u.duty ≡ Free) × (u.dead ≡ true)
MayOwe u (PostId i from e) = KnowsError u (call_id i (parts from).first) e
MayOwe u (UnlockId i from advance) = MayUnlock i from advance u
MayOwe u other = Unit {0}

-- what it may find. Whoever has the lock finds it with more errors at most, and no error of the attempt that it is to try. A retry finds its range at its attempt.
abbrev pub FindsUnlock : ℕ → Bool → ℕ → Type 0
FindsUnlock from advance found = ((parts from).first < 4294967296) × ((parts from).attempt + bit advance ≤ 6)
    × (found ≢ from → ((parts found).first ≡ (parts from).first) × ((parts found).attempt ≡ (parts from).attempt))
    × (found ≡ from → (parts from).oldest ≢ 0 → attempt_of (parts from).oldest ≢ (parts from).attempt + bit advance)

abbrev pub FindsOwe : Owing → (step : Step) → Found step → Type 0
FindsOwe u (UnlockId i from advance) found = FindsUnlock from advance found
FindsOwe u (LockId i from) found = found ≡ from → (id n : ℕ) → u.duty ≡ Trying id n → id_slot id ≡ i → (parts found).first ≡ id_first id → (parts found).attempt ≡ n
FindsOwe u other found = Unit {0}
