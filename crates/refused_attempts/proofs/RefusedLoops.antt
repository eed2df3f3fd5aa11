-- One round of each loop posts what the seat is charged with.
use Rattle.std.proofs.Common.{◌≡◌, ℕ, ◌+◌, ◌<◌, ◌≤◌, inl, inr, not, Bool, true, false, cond, eqb, eqb-true, leb, List, [], Option, Some, None, refl, sym, ap, ◌∙◌, subst, arith}
use Rattle.seat_programs.specs.brpc_model.specs.Frame.{Frame}
use Rattle.seat_programs.specs.brpc_model.specs.ResponseOutcome.{ending_of}
use Rattle.corr_core.specs.IdSlotWord.{Parts, parts, posted_word, unlocked_word, code_of}
use Rattle.corr_core.specs.IdSlotLaw.{LAST}
use Rattle.corr_core.specs.EndedByRangeOrAttempt.{ends_call}
use Rattle.sock_message.specs.Asked.{Asked}
use Rattle.seat_programs.specs.Asides.{UnlockId, FreeId, Taking, PutCall}
use Rattle.seat_programs.specs.TableSteps.{TableStep}
use Rattle.seat_programs.specs.LoopHeads.{Head, Exit, Sought, Version, Reading, Posts, Unlocks, Decides, Locks, Joins, Opens, Reads, Discards, Retry, Posting, WasGone, WasStale, WasCrowded, WasQueued, HasLocked, Unlocking, IsOpen, HasNext, Deciding, HasEnded, GoesOn, Locking, NotThere, Has, Ended}
use Rattle.seat_programs.specs.PostPrograms.{packed, is_first, is_sought, is_stale, is_full, judged, posted, post_with, popped, end_id, decide, decided, unlocked, locking, IsSoughtWord}
use Rattle.seat_programs.specs.Programs.{Program, Say, Aside, Round}
use Rattle.seat_programs.specs.ReaderProgram.{answer, took, discarded, slot_in}
use Rattle.seat_programs.specs.LoopRounds.{round}
use Rattle.attempted_calls.specs.Below.programs_allowed.specs.program_walks.proofs.ThroughLoops.{through_took, through_discarded}
use Rattle.attempted_calls.specs.Below.label_runs.specs.AttemptLabelsLeft.{Trial, Idle, Tries, Kept, LeavesLabel, LeavesLock, LeavesUnlock, unlocks_trial, unlocked_trial, locked_trial, FindsLabel}
use Rattle.attempted_calls.specs.Below.label_runs.proofs.ProgramsKeepAttempts.{hit_is, miss_is, found_is}
use Rattle.attempted_calls.specs.Below.label_runs.proofs.LoopsOfKnownSeats.{first_as, id_back, not_true, not_equal, and_left, locked_parts, none_left, word_got}
use Rattle.attempted_calls.specs.accept_counts.specs.RefusedOrDropped.{Deed, NoCharge, Doing, idle, Moves, Remembers, IsPostOf, Charges, LeavesCode}
use Rattle.attempted_calls.specs.accept_counts.proofs.IdWordsGoForward.{unlocked_is}
use Rattle.sock_words.specs.PackedWords.{id_slot, id_first, call_id, bit}

-- a seat that tries, or none, and has nothing to post
abbrev pub bare : Trial → List Deed → Doing
bare t deeds = record { trial = t; charge = NoCharge; deeds = deeds }

module _ (requests : ℕ) (is_call : Asked → Type 0) (reads : Bool) where
  abbrev pub Goes : Doing → Program → Type 0
  Goes s x = Charges requests is_call reads s x

  pub way : (s : Doing) (b : Bool) (x y : Program) → (b ≡ true → Goes s x) → (b ≡ false → Goes s y) → Goes s (cond b x y)
  way s true x y f g = f refl
  way s false x y f g = g refl

  -- behind a step on the sockets, and behind one aside that leaves the attempt
  abbrev pub Steps : TableStep → (ℕ → Program) → ℕ → Doing → Program → Type 0
  Steps call next found s x = (u : Doing) × Moves requests is_call reads call next found s u × Goes u x

  abbrev pub Asides : List Deed → Doing → Program → Type 0
  Asides deeds s x = (u : Doing) × (Kept s.trial u.trial × Remembers requests is_call reads deeds s u) × Goes u x

  pub step_way : (call : TableStep) (next : ℕ → Program) (found : ℕ) (s : Doing) (b : Bool) (x y : Program) → (b ≡ true → Steps call next found s x) → (b ≡ false → Steps call next found s y) → Steps call next found s (cond b x y)
  step_way call next found s true x y f g = f refl
  step_way call next found s false x y f g = g refl

  pub aside_way : (deeds : List Deed) (s : Doing) (b : Bool) (x y : Program) → (b ≡ true → Asides deeds s x) → (b ≡ false → Asides deeds s y) → Asides deeds s (cond b x y)
  aside_way deeds s true x y f g = f refl
  aside_way deeds s false x y f g = g refl

  -- the seat forgets what it did, or remembers
  pub forgets : (call : TableStep) (next : ℕ → Program) (found : ℕ) (s : Doing) (x : Program) → Goes idle x → Steps call next found s x
  forgets call next found s x g = (idle, inl (inr refl, inr (refl, refl)), g)

  pub let_go : (deeds : List Deed) (s : Doing) (x : Program) → Goes idle x → Asides deeds s x
  let_go deeds s x g = (idle, (inr refl, inr (refl, refl)), g)

  -- ## Posting

  judged_goes : (s : Doing) (id e found : ℕ) (k : Posting → Program) → IsPostOf requests is_call reads s.charge id e → ((exit : Posting) → LeavesLabel (Posts id e found) exit → Goes idle (k exit)) → Asides s.deeds s (judged id e found k)
  judged_goes s id e found k posts goes = let two : Program = cond (is_full (parts found)) (k (WasCrowded (code_of (parts found).oldest) (code_of (parts found).second))) (Round (Posts id e found) k) in
      aside_way s.deeds s (not (is_first (id_first id) (parts found))) (k WasGone) (cond (is_stale e (parts found)) (k WasStale) two) (λ _. let_go s.deeds s (k WasGone) (goes WasGone tt))
      (λ here. aside_way s.deeds s (is_stale e (parts found)) (k WasStale) two (λ _. let_go s.deeds s (k WasStale) (goes WasStale tt))
      (λ _. aside_way s.deeds s (is_full (parts found)) (k (WasCrowded (code_of (parts found).oldest) (code_of (parts found).second))) (Round (Posts id e found) k)
      (λ _. let_go s.deeds s (k (WasCrowded (code_of (parts found).oldest) (code_of (parts found).second))) (goes (WasCrowded (code_of (parts found).oldest) (code_of (parts found).second)) tt))
      (λ _. (
        s,
        (inl refl, inl (refl, refl)),
        (
          (eqb-true (parts found).first (id_first id) (and_left (eqb (parts found).first (id_first id)) (not (eqb (parts found).state 0)) (not_true (is_first (id_first id) (parts found)) here)), posts),
          λ exit l _. goes exit l,
        ),
      ))))

  pub post_with_goes : (s : Doing) (id e : ℕ) (k : Posting → Program) → IsPostOf requests is_call reads s.charge id e → ((exit : Posting) → LeavesLabel (Posts id e 0) exit → Goes idle (k exit)) → Goes s (post_with id e k)
  post_with_goes s id e k posts goes = (tt, λ found _. judged_goes s id e found k posts goes)

  posts_goes : (s : Doing) (id e from : ℕ) (k : Posting → Program) → (parts from).first ≡ id_first id → IsPostOf requests is_call reads s.charge id e → ((exit : Posting) → LeavesLabel (Posts id e from) exit → Goes idle (k exit)) → Goes s (round (Posts id e from) k)
  posts_goes s id e from k first posts goes = (
    subst (λ x. IsPostOf requests is_call reads s.charge x e) (sym (ap (call_id (id_slot id)) first ∙ id_back id)) posts,
    λ found _. aside_way s.deeds s (eqb found from) (cond (eqb (parts from).state 1) (k (HasLocked (packed (posted_word (parts from) e)))) (k WasQueued)) (judged id e found k)
        (λ _. let_go s.deeds s (cond (eqb (parts from).state 1) (k (HasLocked (packed (posted_word (parts from) e)))) (k WasQueued)) (way idle (eqb (parts from).state 1) (k (HasLocked (packed (posted_word (parts from) e)))) (k WasQueued)
        (λ one. goes (HasLocked (packed (posted_word (parts from) e))) (ap (λ (w : Parts). w.first) (locked_parts from e (eqb-true (parts from).state 1 one)) ∙ first)) (λ _. goes WasQueued tt)))
        (λ _. judged_goes s id e found k posts goes),
  )

  -- ## Deciding

  pub decide_goes : (s : Doing) (id w e : ℕ) (k : Deciding → Program) → (parts w).first ≡ id_first id → ((exit : Deciding) → Goes idle (k exit)) → Goes s (decide id w e k)
  decide_goes s id w e k first goes = (tt, λ asked call. let_go s.deeds s (Round (Decides id asked w e) k) (((first, call), tt), λ exit _ _. goes exit))

  pub end_goes : (s : Doing) (i : ℕ) (next : Program) → Goes idle next → Goes s (end_id i next)
  end_goes s i next goes = (
    tt,
    λ found _. let_go s.deeds s (cond (leb ((parts found).first + (parts found).range) LAST) (Aside (FreeId i) (λ _. next)) next)
        (way idle (leb ((parts found).first + (parts found).range) LAST) (Aside (FreeId i) (λ _. next)) next (λ _. (tt, λ _ _. let_go [] idle next goes)) (λ _. goes)),
  )

  unlocked_goes : (r : Retry) (k : Deciding → Program) → ((exit : Deciding) → Goes idle (k exit)) → (exit : Unlocking) → r.attempt ≤ 6 → 0 < r.attempt → ((w e : ℕ) → exit ≡ HasNext w e → (parts w).first ≡ id_first r.id) → (s : Doing) → s.trial ≡ Tries r.id r.attempt → Goes s (unlocked r k exit)
  unlocked_goes r k goes (IsOpen w) few some_ first s is = (is, few, some_, goes GoesOn)
  unlocked_goes r k goes (HasNext w e) few some_ first s is = (is, few, some_, decide_goes idle r.id w e k (first w e refl) goes)

  decides_goes : (s : Doing) (id : ℕ) (asked : Asked) (w e : ℕ) (k : Deciding → Program) → (parts w).first ≡ id_first id → is_call asked → ((exit : Deciding) → Goes idle (k exit)) → Goes s (round (Decides id asked w e) k)
  decides_goes s id asked w e k first call goes = way s (ends_call (parts w) e) (end_id (id_slot id) (k (HasEnded asked.operation (code_of e))))
      (Aside (PutCall (id_slot id) asked) (λ _. Round (Unlocks (id_slot id) w true) (unlocked (record { id = id; attempt = (parts w).attempt + 1 }) k)))
      (λ _. end_goes s (id_slot id) (k (HasEnded asked.operation (code_of e))) (goes (HasEnded asked.operation (code_of e))))
      (λ _. (
        tt,
        λ _ _. (
          idle,
          ((inr refl, call), inr (refl, refl)),
          (
            (tt, refl),
            λ exit l _. unlocked_goes (record { id = id; attempt = (parts w).attempt + 1 }) k goes exit l.0 (omega arith) (λ x y is. next_first exit x y is l.1 ∙ first) (bare (Tries (call_id (id_slot id) (parts w).first) ((parts w).attempt + 1)) [])
                (ap (λ x. Tries x ((parts w).attempt + 1)) (ap (call_id (id_slot id)) first ∙ id_back id)),
          ),
        ),
      ))
    where
      next_first : (exit : Unlocking) (x y : ℕ) → exit ≡ HasNext x y → LeavesUnlock (parts w).first exit → (parts x).first ≡ (parts w).first
      next_first exit x y is l = subst (LeavesUnlock (parts w).first) is l

  pub decided_goes : (id : ℕ) (next : Program) → Goes idle next → (exit : Deciding) → Goes idle (decided id next exit)
  decided_goes id next goes (HasEnded o c) = goes
  decided_goes id next goes GoesOn = goes

  pub posted_goes : (id e : ℕ) (next : Program) → Goes idle next → (exit : Posting) → LeavesLabel (Posts id e 0) exit → Goes idle (posted id e next exit)
  posted_goes id e next goes (HasLocked w) l = decide_goes idle id w e (decided id next) l (decided_goes id next goes)
  posted_goes id e next goes _ l = goes

  -- ## Giving a lock back

  module _ (t : Trial) (ds : List Deed) (i from : ℕ) (advance : Bool) (k : Unlocking → Program) (goes : (exit : Unlocking) → LeavesLabel (Unlocks i from advance) exit → Goes (bare (unlocks_trial i from advance t) ds) (k exit)) where
    abbrev after : ℕ
    after = packed (unlocked_word (parts from) (bit advance))

    pops : (low : (parts from).attempt + bit advance ≤ 6) → Goes (bare (unlocks_trial i from advance t) ds) (popped i (parts from).oldest after k)
    pops low = let first : (parts after).first ≡ (parts from).first = ap (λ (w : Parts). w.first) (unlocked_is from advance low) in let s : Doing = bare (unlocks_trial i from advance t) ds in
        way (bare (unlocks_trial i from advance t) ds) (eqb (parts from).oldest 0) (k (IsOpen after)) (cond (is_stale (parts from).oldest (parts after)) (Round (Unlocks i after false) k) (k (HasNext after (parts from).oldest)))
        (λ _. goes (IsOpen after) (low, tt))
        (λ _. way (bare (unlocks_trial i from advance t) ds) (is_stale (parts from).oldest (parts after)) (Round (Unlocks i after false) k) (k (HasNext after (parts from).oldest))
        (λ _. ((tt, refl), λ exit l _. goes exit (low, first_as (parts after).first (parts from).first first exit l.1)))
        (λ _. goes (HasNext after (parts from).oldest) (low, first)))

    unlocks_goes : Goes (bare t ds) (round (Unlocks i from advance) k)
    unlocks_goes = (tt, λ found f. by found f (eqb found from) refl)
      where
        by : (found : ℕ) → FindsLabel is_call (UnlockId i from advance) found → (b : Bool) → eqb found from ≡ b
            → (u : Doing) × ((u.trial ≡ unlocked_trial i from advance found t) × Remembers requests is_call reads ds (bare t ds) u) × Goes u (cond b (popped i (parts from).oldest after k) (Round (Unlocks i found advance) k))
        by found f true hit = (bare (unlocks_trial i from advance t) ds, (hit_is t i from advance found hit, inl (refl, refl)), pops f.1)
        by found f false miss = let same = f.2 (not_equal found from miss) in (
          bare t ds,
          (miss_is t i from advance found miss, inl (refl, refl)),
          ((tt, refl), λ exit l _. subst (λ x. Goes (bare x ds) (k exit)) (found_is t i from found advance same.0 same.1) (goes exit (f.1, first_as (parts found).first (parts from).first same.0 exit l.1))),
        )

  -- ## Locks

  locking_goes : (s : Doing) (i : ℕ) (sought : Sought) (found : ℕ) (w : Option ℕ) (k : Locking → Program) → ((exit : Locking) → LeavesLabel (Locks i sought w) exit → Goes (bare (locked_trial exit s.trial) []) (k exit)) → Asides s.deeds s (locking i sought found k)
  locking_goes s i sought found w k goes = by (is_sought sought (parts found)) refl
    where
      by : (b : Bool) → is_sought sought (parts found) ≡ b → Asides s.deeds s (cond (not b) (k (NotThere found)) (cond (eqb (parts found).state 1) (Round (Locks i sought (Some found)) k) (Round (Locks i sought None) k)))
      by true here = (
        bare s.trial [],
        (inl refl, inr (refl, refl)),
        way (bare s.trial []) (eqb (parts found).state 1) (Round (Locks i sought (Some found)) k) (Round (Locks i sought None) k) (λ one. (((here, eqb-true (parts found).state 1 one), tt), λ exit l _. goes exit (as_any exit l))) (λ _. ((tt, tt), λ exit l _. goes exit (as_any exit l))),
      )
        where
          as_any : (exit : Locking) → LeavesLock sought exit → LeavesLock sought exit
          as_any exit l = l
      by false here = let_go s.deeds s (k (NotThere found)) (goes (NotThere found) (none_left sought found))

  locks_goes : (s : Doing) (i : ℕ) (sought : Sought) (from : Option ℕ) (k : Locking → Program) → IsSoughtWord sought from → ((exit : Locking) → LeavesLabel (Locks i sought from) exit → Goes (bare (locked_trial exit s.trial) []) (k exit)) → Goes s (round (Locks i sought from) k)
  locks_goes s i sought None k at goes = (tt, λ found _. locking_goes s i sought found None k goes)
  locks_goes s i sought (Some from) k at goes = (tt, λ found _. by found (eqb found from))
    where
      by : (found : ℕ) (b : Bool) → Asides s.deeds s (cond b (k (Has (packed (posted_word (parts from) 0)))) (locking i sought found k))
      by found true = (bare s.trial [], (inl refl, inr (refl, refl)), goes (Has (packed (posted_word (parts from) 0))) (word_got sought from at))
      by found false = locking_goes s i sought found (Some from) k goes

  -- ## Reading

  pub answer_goes : (s : Doing) (frame : Frame) (first : ℕ) (next : Program) → Goes idle next → Goes s (answer frame first next)
  answer_goes s frame first next goes = (tt, λ asked _. let_go s.deeds s (end_id (slot_in frame) (Say asked.operation (ending_of (call_id (slot_in frame) first) frame) next)) (end_goes idle (slot_in frame) (Say asked.operation (ending_of (call_id (slot_in frame) first) frame) next) goes))

  seeks : (i v : ℕ) (k : Locking → Program) → ((exit : Locking) → Goes idle (k exit)) → Goes idle (Round (Locks i (Version v) None) k)
  seeks i v k goes = ((tt, tt), λ exit l _. exits exit)
    where
      exits : (exit : Locking) → Goes (bare (locked_trial exit Idle) []) (k exit)
      exits (NotThere w) = goes (NotThere w)
      exits (Has w) = goes (Has w)

  took_goes : (r : Reading) (k : Ended → Program) → ((exit : Ended) → LeavesCode requests is_call reads (Reads r) exit → Goes idle (k exit)) → (t : Taking) → Goes idle (took r k t)
  took_goes r = through_took (λ exit. LeavesCode requests is_call reads (Reads r) exit) (Goes idle) seeks (answer_goes idle) (λ r k goes. ((tt, tt), λ exit _. goes exit)) (λ closed fault r. inl refl) (λ r. inr refl) r

  discarded_goes : (l total : ℕ) (k : ℕ → Program) → ((exit : ℕ) → Goes idle (k exit)) → (t : Taking) → Goes idle (discarded l total k t)
  discarded_goes = through_discarded (Goes idle) (λ l total k goes. ((tt, tt), λ exit _ _. goes exit))

  joins_goes : (s : Doing) (id : ℕ) (k : ℕ → Program) → ((exit : ℕ) → Goes idle (k exit)) → Goes s (round (Joins id) k)
  joins_goes s id k goes = (tt, λ found _. let_go s.deeds s (cond (is_first (id_first id) (parts found)) (Round (Joins id) k) (k found)) (way idle (is_first (id_first id) (parts found)) (Round (Joins id) k) (k found) (λ _. ((tt, tt), λ exit _ _. goes exit)) (λ _. goes found)))

  opens_goes : (s : Doing) (o : ℕ) (k : ℕ → Program) → ((exit : ℕ) → Goes idle (k exit)) → Goes s (round (Opens o) k)
  opens_goes s o k goes = (
    tt,
    λ word _. (
      idle,
      inl (inr refl, inr (refl, refl)),
      way idle (eqb word 0) (Round (Opens o) k) (k word) (λ _. ((tt, tt), λ exit _ _. goes exit)) (λ _. goes word),
    ),
  )

  -- one round of each loop
  pub charges_round : (s : Doing) (head : Head) (k : Exit head → Program) → Goes s (Round head k) → Goes s (round head k)
  charges_round s (Posts id e from) k g = posts_goes s id e from k g.0.0 g.0.1 (λ exit l. g.1 exit l tt)
  charges_round s (Unlocks i from advance) k g = subst (λ c. Goes (record { trial = s.trial; charge = c; deeds = s.deeds }) (round (Unlocks i from advance) k)) (sym g.0.1)
      (unlocks_goes s.trial s.deeds i from advance k (λ exit l. g.1 exit l tt))
  charges_round s (Decides id asked word e) k g = decides_goes s id asked word e k g.0.0.0 g.0.0.1 (λ exit. g.1 exit tt tt)
  charges_round s (Locks i sought from) k g = locks_goes s i sought from k g.0.0 (λ exit l. g.1 exit l tt)
  charges_round s (Joins id) k g = joins_goes s id k (λ exit. g.1 exit tt tt)
  charges_round s (Opens o) k g = opens_goes s o k (λ exit. g.1 exit tt tt)
  charges_round s (Reads r) k g = (tt, λ found _. let_go s.deeds s (took r k found) (took_goes r k (λ exit c. g.1 exit tt c) found))
  charges_round s (Discards l total) k g = (tt, λ found _. let_go s.deeds s (discarded l total k found) (discarded_goes l total k (λ exit. g.1 exit tt tt) found))
