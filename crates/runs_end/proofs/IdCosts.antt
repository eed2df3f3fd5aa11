-- What a round of a loop on ids costs: its first step falls by more than it costs, whatever it finds, but where it waits.
use Rattle.std.proofs.Common.{◌≡◌, ℕ, ◌+◌, ◌≤◌, Bool, true, false, not, ◌&&◌, refl, ap₂, arith, cond, eqb, eq-eqb, eqb-true, leb, Some, None}
use Rattle.std.proofs.lemmas.Bool.{true≢false}
use Rattle.std.specs.Prelude as std
use Rattle.sock_words.specs.declared.plain.Plan.{Plan}
use Rattle.sock_model.specs.declared.view.View.{View}
use Rattle.seat_programs.specs.corr_core.specs.IdSlotWord.{parts, code_of, error_of, posted_word, unlocked_word}
use Rattle.seat_programs.specs.corr_core.specs.IdSlotLaw.{LAST}
use Rattle.seat_programs.specs.corr_core.specs.EndedByRangeOrAttempt.{ends_call}
use Rattle.seat_programs.specs.sock_message.specs.Asked.{Asked}
use Rattle.seat_programs.specs.Asides.{Step, Found, LoadIdWord, LockId, PostId, UnlockId, FreeId, PutCall}
use Rattle.seat_programs.specs.LoopHeads.{Retry, Sought, Posts, Unlocks, Decides, Locks, Joins, Opens, Posting, WasGone, WasStale, WasCrowded, WasQueued, HasLocked, Unlocking, IsOpen, HasNext, Deciding, HasEnded, Locking, NotThere, Has}
use Rattle.seat_programs.specs.LoopHeads as heads
use Rattle.seat_programs.specs.Programs.{Program, Say, Sent, Rest, TakeMessage, PutBytes, AskReady, Aside, Round, Retries}
use Rattle.seat_programs.specs.PostPrograms.{packed, is_first, is_sought, is_stale, is_full, judged, posted, post, popped, end_id, decide, unlocked, decides_round, decided, locking}
use Rattle.sock_runs.specs.program_steps.specs.IdWordFits.{FitsWord, FitsPosting, FitsUnlocking, FitsLocking}
use Rattle.sock_runs.specs.program_steps.specs.TicksLeftAtMost.{LastsFor, fresh, fresh_at, left_word, STALE, CHANGE, DECISION, ERROR, POST, attempt_cost, advance_gain, aside_cost, aside_gain, unlocking_gain}
use Rattle.sock_words.specs.PackedWords.{id_slot, id_first, bit}

-- who has at most so many steps left has at most more
pub lasts_more : (p : Plan) (v : View) (program : Program) (m n : ℕ) → m ≤ n → LastsFor p v program m → LastsFor p v program n
lasts_more p v (Say o outcome next) m n le l = lasts_more p v next m n le l
lasts_more p v (Sent o next) m n le l = lasts_more p v next m n le l
lasts_more p v Rest m n le l = tt
lasts_more p v (TakeMessage q next) m n le l = λ heading bytes some_. let a = l heading bytes some_ in let b = a.1 in (a.0, omega (arith, le, b), a.2)
lasts_more p v (PutBytes k asked bytes next) m n le l = λ answer fits. let a = l answer fits in let b = a.1 in (a.0, omega (arith, le, b), a.2)
lasts_more p v (AskReady k next) m n le l = λ answer always_ready. let a = l answer always_ready in let b = a.1 in (a.0, omega (arith, le, b), a.2)
lasts_more p v (Aside step next) m n le l = λ found fits. let a = l found fits in let b = a.1 in (a.0, omega (arith, le, b), a.2)
lasts_more p v (Round (Opens o) next) m n le l = let a = l.1 in (l.0, omega (arith, le, a), l.2)
lasts_more p v (Retries requests after) m n le l = λ u. lasts_more p u after m n le (l u)
lasts_more p v _ m n le l = let a = l.1 in (l.0, omega (arith, le, a), l.2)

-- the word is the one that the head expects
pub one_fresh : (i w : ℕ) → fresh_at (i, w) (i, w) ≡ STALE
one_fresh i w = ap₂ (λ (a b : Bool). cond (a && b) STALE 0) (eq-eqb i i refl) (eq-eqb w w refl)

module _ (p : Plan) (v : View) where
  -- behind a step that found this, with so many steps left before
  abbrev pub Falls : (step : Step) → (Found step → Program) → ℕ → Found step → Type 0
  Falls step next n found = (m : ℕ) × (m + aside_cost p step found ≤ n + aside_gain p step found + fresh (left_word step found) (next found)) × LastsFor p v (next found) m

  -- however a loop is left, so many steps follow at most
  abbrev pub Leave : {A : Type 0} → (A → Type 0) → (A → Program) → ℕ → Type 0
  Leave {A} Fits k m = (exit : A) → Fits exit → LastsFor p v (k exit) (m + 0)

  -- ## Posting

  -- by a word that is there
  pub judged_lasts : (id e found : ℕ) (k : Posting → Program) (m n : ℕ) → Leave FitsPosting k m → CHANGE + ERROR + m + 1 ≤ n
      → (x : ℕ) × (x + 1 ≤ n + fresh (Some (id_slot id, found)) (judged id e found k)) × LastsFor p v (judged id e found k) x
  judged_lasts id e found k m n leave room = by_word (not (is_first (id_first id) (parts found))) (is_stale e (parts found)) (is_full (parts found))
    where
      by_word : (a b c : Bool)
          → (x : ℕ) × (x + 1 ≤ n + fresh (Some (id_slot id, found)) (cond a (k WasGone) (cond b (k WasStale) (cond c (k (WasCrowded (code_of (parts found).oldest) (code_of (parts found).second))) (Round (Posts id e found) k)))))
          × LastsFor p v (cond a (k WasGone) (cond b (k WasStale) (cond c (k (WasCrowded (code_of (parts found).oldest) (code_of (parts found).second))) (Round (Posts id e found) k)))) x
      by_word true b c = (m + 0, omega (arith, room), leave WasGone tt)
      by_word false true c = (m + 0, omega (arith, room), leave WasStale tt)
      by_word false false true = let w : Posting = WasCrowded (code_of (parts found).oldest) (code_of (parts found).second) in (m + 0, omega (arith, room), leave w tt)
      by_word false false false = (STALE + CHANGE + ERROR + m, omega (arith, room, one_fresh (id_slot id) found), (m, omega arith, leave))

  pub posts_fall : (id e from : ℕ) (k : Posting → Program) (n : ℕ) → ((parts from).state ≡ 1 → FitsPosting (HasLocked (packed (posted_word (parts from) e)))) → LastsFor p v (Round (Posts id e from) k) n → (found : ℕ)
      → Falls (PostId (id_slot id) from e) (λ found. cond (eqb found from) (cond (eqb (parts from).state 1) (k (HasLocked (packed (posted_word (parts from) e)))) (k WasQueued)) (judged id e found k)) n found
  posts_fall id e from k n fits l found = by_word (eqb found from) (eqb (parts from).state 1) refl l.0 l.1 l.2
    where
      by_word : (b s : Bool) → eqb (parts from).state 1 ≡ s → (m : ℕ) → STALE + CHANGE + ERROR + m ≤ n → Leave FitsPosting k m
          → (x : ℕ) × (x + cond b (cond s (STALE + CHANGE) (STALE + CHANGE + ERROR)) 1 ≤ n + 0 + fresh (cond b None (Some (id_slot id, found))) (cond b (cond s (k (HasLocked (packed (posted_word (parts from) e)))) (k WasQueued)) (judged id e found k)))
          × LastsFor p v (cond b (cond s (k (HasLocked (packed (posted_word (parts from) e)))) (k WasQueued)) (judged id e found k)) x
      by_word true true one m room leave = (m + 0, omega (arith, room), leave (HasLocked (packed (posted_word (parts from) e))) (fits (eqb-true (parts from).state 1 one)))
      by_word true false one m room leave = (m + 0, omega (arith, room), leave WasQueued tt)
      by_word false s one m room leave = let x = judged_lasts id e found k m n leave (omega (arith, room)) in let le = x.1 in (x.0, omega (arith, le), x.2)

  -- ## Deciding

  pub decide_lasts : (id w e : ℕ) (k : Deciding → Program) (m n : ℕ) → ((exit : Deciding) → LastsFor p v (k exit) (m + 0)) → ERROR + m ≤ n → LastsFor p v (decide id w e k) n
  decide_lasts id w e k m n leave room = λ asked fits. (DECISION + m, omega (arith, room), (m, omega arith, λ exit _. leave exit))

  pub end_lasts : (i : ℕ) (next : Program) (m n : ℕ) → LastsFor p v next m → CHANGE + 1 + m ≤ n → LastsFor p v (end_id i next) n
  end_lasts i next m n l room = λ found _. (m + 1, omega (arith, room), by_last (leb ((parts found).first + (parts found).range) LAST))
    where
      by_last : (b : Bool) → LastsFor p v (cond b (Aside (FreeId i) (λ _. next)) next) (m + 1)
      by_last true = λ _ _. (m, omega arith, l)
      by_last false = lasts_more p v next m (m + 1) (omega arith) l

  unlocked_lasts : (r : Retry) (k : Deciding → Program) (m : ℕ) → ((exit : Deciding) → LastsFor p v (k exit) (m + 0)) → (exit : Unlocking) → LastsFor p v (unlocked r k exit) (m + (unlocking_gain exit + attempt_cost p.requests))
  unlocked_lasts r k m leave (IsOpen word) = (m + 0, omega arith, leave heads.GoesOn)
  unlocked_lasts r k m leave (HasNext word e) = (ERROR + m, omega arith, decide_lasts r.id word e k m (ERROR + m) leave (omega arith))

  pub decides_lasts : (id : ℕ) (asked : Asked) (word e : ℕ) (k : Deciding → Program) (n : ℕ) → LastsFor p v (Round (Decides id asked word e) k) n → LastsFor p v (decides_round id asked word e k) n
  decides_lasts id asked word e k n l = by_end (ends_call (parts word) e) l.0 l.1 (λ exit. l.2 exit tt)
    where
      by_end : (b : Bool) (m : ℕ) → DECISION + m ≤ n → ((exit : Deciding) → LastsFor p v (k exit) (m + 0))
          → LastsFor p v (cond b (end_id (id_slot id) (k (HasEnded asked.operation (code_of e)))) (Aside (PutCall (id_slot id) asked) (λ _. Round (Unlocks (id_slot id) word true) (unlocked (record { id = id; attempt = (parts word).attempt + 1 }) k)))) n
      by_end true m room leave = end_lasts (id_slot id) (k (HasEnded asked.operation (code_of e))) (m + 0) n (leave (HasEnded asked.operation (code_of e))) (omega (arith, room))
      by_end false m room leave = λ _ _. (STALE + CHANGE + m, omega (arith, room), (m, omega arith, λ exit _. unlocked_lasts (record { id = id; attempt = (parts word).attempt + 1 }) k m leave exit))

  -- ## Giving a lock back

  pub unlocks_fall : (i from : ℕ) (advance : Bool) (k : Unlocking → Program) (n : ℕ) → FitsWord (packed (unlocked_word (parts from) (bit advance))) → LastsFor p v (Round (Unlocks i from advance) k) n → (found : ℕ)
      → Falls (UnlockId i from advance) (λ found. cond (eqb found from) (popped i (parts from).oldest (packed (unlocked_word (parts from) (bit advance))) k) (Round (Unlocks i found advance) k)) n found
  unlocks_fall i from advance k n fits l found = by_word (eqb found from) (eqb (parts from).oldest 0) (is_stale (parts from).oldest (parts (packed (unlocked_word (parts from) (bit advance))))) l.0 l.1 l.2
    where
      by_word : (b o s : Bool) (m : ℕ) → STALE + CHANGE + m ≤ n → ((exit : Unlocking) → FitsUnlocking exit → LastsFor p v (k exit) (m + (unlocking_gain exit + advance_gain p advance)))
          → (x : ℕ) × (x + cond b (STALE + CHANGE) 1 ≤ n + cond b (cond o 0 ERROR + advance_gain p advance) 0
          + fresh (cond b None (Some (i, found))) (cond b (cond o (k (IsOpen (packed (unlocked_word (parts from) (bit advance))))) (cond s (Round (Unlocks i (packed (unlocked_word (parts from) (bit advance))) false) k) (k (HasNext (packed (unlocked_word (parts from) (bit advance))) (parts from).oldest)))) (Round (Unlocks i found advance) k)))
          × LastsFor p v (cond b (cond o (k (IsOpen (packed (unlocked_word (parts from) (bit advance))))) (cond s (Round (Unlocks i (packed (unlocked_word (parts from) (bit advance))) false) k) (k (HasNext (packed (unlocked_word (parts from) (bit advance))) (parts from).oldest))))
          (Round (Unlocks i found advance) k)) x
      by_word true true s m room leave = let gain : ℕ = advance_gain p advance in (m + (0 + gain), omega (arith, room), leave (IsOpen (packed (unlocked_word (parts from) (bit advance)))) tt)
      by_word true false true m room leave = let gain : ℕ = advance_gain p advance in
          (STALE + CHANGE + (m + gain), omega (arith, room), (m + gain, omega arith, λ exit f. lasts_more p v (k exit) (m + (unlocking_gain exit + gain)) (m + gain + (unlocking_gain exit + 0)) (omega arith) (leave exit f)))
      by_word true false false m room leave = let gain : ℕ = advance_gain p advance in (m + (ERROR + gain), omega (arith, room), leave (HasNext (packed (unlocked_word (parts from) (bit advance))) (parts from).oldest) fits)
      by_word false o s m room leave = (STALE + CHANGE + m, omega (arith, room, one_fresh i found), (m, omega arith, leave))

  -- ## Getting a lock

  locking_lasts : (i : ℕ) (sought : Sought) (found : ℕ) (k : Locking → Program) (m n : ℕ) → Leave FitsLocking k m → STALE + CHANGE + m ≤ n
      → (x : ℕ) × (x + 1 ≤ n + fresh (Some (i, found)) (locking i sought found k)) × LastsFor p v (locking i sought found k) x
  locking_lasts i sought found k m n leave room = by_word (not (is_sought sought (parts found))) (eqb (parts found).state 1)
    where
      by_word : (a b : Bool) → (x : ℕ) × (x + 1 ≤ n + fresh (Some (i, found)) (cond a (k (NotThere found)) (cond b (Round (Locks i sought (std.Some found)) k) (Round (Locks i sought std.None) k))))
          × LastsFor p v (cond a (k (NotThere found)) (cond b (Round (Locks i sought (std.Some found)) k) (Round (Locks i sought std.None) k))) x
      by_word true b = (m + 0, omega (arith, room), leave (NotThere found) tt)
      by_word false true = (STALE + CHANGE + m, omega (arith, room, one_fresh i found), (m, omega arith, leave))
      by_word false false = (CHANGE + 1 + m, omega (arith, room), (m, omega arith, leave))

  -- by a load, where it doesn't wait
  pub locks_fall : (i : ℕ) (sought : Sought) (k : Locking → Program) (n : ℕ) → LastsFor p v (Round (Locks i sought std.None) k) n → (found : ℕ) → (is_sought sought (parts found) && not (eqb (parts found).state 1)) ≡ false
      → Falls (LoadIdWord i) (λ found. locking i sought found k) n found
  locks_fall i sought k n l found moves = by_word (is_sought sought (parts found)) (eqb (parts found).state 1) moves l.0 l.1 l.2
    where
      by_word : (a b : Bool) → (a && not b) ≡ false → (m : ℕ) → CHANGE + 1 + m ≤ n → Leave FitsLocking k m
          → (x : ℕ) × (x + 1 ≤ n + 0 + fresh (Some (i, found)) (cond (not a) (k (NotThere found)) (cond b (Round (Locks i sought (std.Some found)) k) (Round (Locks i sought std.None) k))))
          × LastsFor p v (cond (not a) (k (NotThere found)) (cond b (Round (Locks i sought (std.Some found)) k) (Round (Locks i sought std.None) k))) x
      by_word false b moves m room leave = (m + 0, omega (arith, room), leave (NotThere found) tt)
      by_word true true moves m room leave = (STALE + CHANGE + m, omega (arith, room, one_fresh i found), (m, omega arith, leave))
      by_word true false moves m room leave = absurd (true≢false moves)

  pub tries_fall : (i : ℕ) (sought : Sought) (from : ℕ) (k : Locking → Program) (n : ℕ) → FitsLocking (Has (packed (posted_word (parts from) 0))) → LastsFor p v (Round (Locks i sought (std.Some from)) k) n → (found : ℕ)
      → Falls (LockId i from) (λ found. cond (eqb found from) (k (Has (packed (posted_word (parts from) 0)))) (locking i sought found k)) n found
  tries_fall i sought from k n fits l found = by_word (eqb found from) l.0 l.1 l.2
    where
      by_word : (b : Bool) (m : ℕ) → STALE + CHANGE + m ≤ n → Leave FitsLocking k m
          → (x : ℕ) × (x + cond b (STALE + CHANGE) 1 ≤ n + 0 + fresh (cond b None (Some (i, found))) (cond b (k (Has (packed (posted_word (parts from) 0)))) (locking i sought found k)))
          × LastsFor p v (cond b (k (Has (packed (posted_word (parts from) 0)))) (locking i sought found k)) x
      by_word true m room leave = (m + 0, omega (arith, room), leave (Has (packed (posted_word (parts from) 0))) fits)
      by_word false m room leave = let x = locking_lasts i sought found k m n leave room in let le = x.1 in (x.0, omega (arith, le), x.2)

  -- ## Waiting for an end

  pub joins_fall : (id : ℕ) (k : ℕ → Program) (n : ℕ) → LastsFor p v (Round (Joins id) k) n → (found : ℕ) → is_first (id_first id) (parts found) ≡ false
      → Falls (LoadIdWord (id_slot id)) (λ found. cond (is_first (id_first id) (parts found)) (Round (Joins id) k) (k found)) n found
  joins_fall id k n l found moves = by_word (is_first (id_first id) (parts found)) moves l.0 l.1 l.2
    where
      by_word : (b : Bool) → b ≡ false → (m : ℕ) → 1 + m ≤ n → ((w : ℕ) → Unit {0} → LastsFor p v (k w) (m + 0)) → (x : ℕ) × (x + 1 ≤ n + 0 + fresh (Some (id_slot id, found)) (cond b (Round (Joins id) k) (k found))) × LastsFor p v (cond b (Round (Joins id) k) (k found)) x
      by_word true moves m room leave = absurd (true≢false moves)
      by_word false moves m room leave = (m + 0, omega (arith, room), leave found tt)

  -- ## A post

  pub posted_lasts : (id e : ℕ) (next : Program) (m : ℕ) → LastsFor p v next m → Leave FitsPosting (posted id e next) (ERROR + m)
  posted_lasts id e next m l (HasLocked word) f = decide_lasts id word e (decided id next) m (ERROR + m + 0) decided_last (omega arith)
    where
      decided_last : (exit : Deciding) → LastsFor p v (decided id next exit) (m + 0)
      decided_last (HasEnded o code) = lasts_more p v next m (m + 0) (omega arith) l
      decided_last heads.GoesOn = lasts_more p v next m (m + 0) (omega arith) l
  posted_lasts id e next m l _ f = lasts_more p v next m (ERROR + m + 0) (omega arith) l

  pub post_lasts : (id code attempt : ℕ) (next : Program) (m n : ℕ) → LastsFor p v next m → POST + m ≤ n → LastsFor p v (post id code attempt next) n
  post_lasts id code attempt next m n l room = let e : ℕ = error_of code attempt in λ found fits.
      let x = judged_lasts id e found (posted id e next) (ERROR + m) n (posted_lasts id e next m l) (omega (arith, room)) in let le = x.1 in (x.0, omega (arith, le), x.2)
