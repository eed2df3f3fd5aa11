-- Programs and loops of seats where something is known of the seat that each step may give up: what the parts of a program keep, whatever it is.
use Rattle.std.proofs.Common.{◌≡◌, ℕ, ◌+◌, ◌<◌, ◌≤◌, ◌⊎◌, inl, inr, ◌&&◌, not, Bool, true, false, cond, eqb, eqb-true, eq-eqb, leb, nat_lt, List, [], ◌∷◌, ◌++◌, Option, Some, None, length, refl, sym, ap, ◌∙◌, subst, ⊎_elim, arith}
use Rattle.brpc_model.specs.Frame.{Frame}
use Rattle.brpc_model.specs.FrameStream as streams
use Rattle.brpc_model.specs.ResponseOutcome.{ending_of}
use Rattle.sock_words.specs.declared.outcome.Outcome.TheVariants.{CallFailed}
use Rattle.sock_io.specs.declared.link.Put.{Put}
use Rattle.sock_io.specs.declared.link.Ready.{Ready}
use Rattle.sock_model.specs.declared.chain.Heading.{Heading}
use Rattle.corr_core.specs.IdSlotWord.{Parts, parts, locked_word, posted_word, unlocked_word, code_of}
use Rattle.corr_core.specs.IdSlotLaw.{LAST}
use Rattle.corr_core.specs.EndedByRangeOrAttempt.{ends_call}
use Rattle.corr_core.specs.IdRangeVersions.{is_early}
use Rattle.id_runs.proofs.AsidesKeepingIdRule.{parts_packed}
use Rattle.seat_programs.specs.sock_message.specs.Asked.{Asked}
use Rattle.seat_programs.specs.Asides.{Step, Found, MakeId, StoreCall, StoreAt, UnlockId, PutCall, LoadIdWord, PostId, LockId, EndId, FreeId, TakeCall, TakeBytes, Taking, Bytes, Nothing, Closed}
use Rattle.seat_programs.specs.TableSteps.{TableStep, OnName, OnChain, OnMessage, ClaimRequest, PutMessage, LoadOpen}
use Rattle.seat_programs.specs.LoopHeads.{Head, Exit, Sought, First, Version, Reading, Posts, Unlocks, Decides, Locks, Joins, Opens, Reads, Discards, Posting, WasGone, WasStale, WasCrowded, WasQueued, HasLocked, Unlocking, IsOpen, HasNext, Deciding, HasEnded, GoesOn, Locking, NotThere, Has, Ended}
use Rattle.seat_programs.specs.PostPrograms.{packed, is_first, is_sought, is_stale, is_full, judged, posted, post_with, post, popped, end_id, decide, decided, unlocked, locking, IsSoughtWord}
use Rattle.seat_programs.specs.Programs.{Program, Do, Say, Sent, Rest, TakeMessage, TakeHome, PutHome, PutBytes, AskReady, Write, Aside, Round, Keep, Retries}
use Rattle.seat_programs.specs.ReaderProgram.{answer, answered, responses, read_on, took, discarded, last_of, room_of, slot_in, version_in, has_response, ended_by as how_ended, LIMIT}
use Rattle.seat_programs.specs.LoopRounds.{round}
use Rattle.seat_programs.specs.SendAndWritePrograms.{heading_of}
use Rattle.label_runs.specs.AttemptLabelsLeft.{FindsLabel, AtLabel, LeavesLabel, LeavesUnlock, LeavesLock}
pub use Rattle.id_runs.proofs.IdLoopRounds.{not_true, not_equal, and_left}
use Rattle.sock_words.specs.PackedWords.{call_id, id_slot, id_first, bit}

-- ## Numbers

pub id_back : (id : ℕ) → call_id (id_slot id) (id_first id) ≡ id
id_back id = omega arith

-- the word of an id that was found open, once it is locked
pub locked_parts : (w e : ℕ) → (parts w).state ≡ 1 → parts (packed (posted_word (parts w) e)) ≡ locked_word (parts w)
locked_parts w e one = ap (λ x. parts (packed x)) (ap (λ b. cond b (locked_word (parts w)) record { first = (parts w).first; state = 2; range = (parts w).range; attempt = (parts w).attempt; oldest = cond (eqb (parts w).oldest 0) e (parts w).oldest; second = cond (eqb (parts w).oldest 0) 0 e }) (eq-eqb (parts w).state 1 one))
    ∙ parts_packed (locked_word (parts w)) (omega arith) (omega arith) (omega arith) (omega arith) (omega arith) (omega arith)

-- ## What is known of a seat

-- a step on the sockets that leaves what is known as it is
abbrev pub is_plain : TableStep → Bool
is_plain (OnMessage (PutMessage q heading bytes)) = false
is_plain (OnChain (ClaimRequest s q)) = false
is_plain call = true

-- a step aside by which nothing comes to be known
abbrev pub is_plain_aside : Step → Bool
is_plain_aside (PutCall i asked) = false
is_plain_aside (MakeId i range) = false
is_plain_aside (StoreCall o id) = false
is_plain_aside (StoreAt o w) = false
is_plain_aside (UnlockId i from advance) = false
is_plain_aside step = true

-- of a seat of which `lost` says that nothing is known
module _ {K : Type 0} (lost : K) where
  abbrev pub Stays : K → K → Type 0
  Stays t u = (u ≡ t) ⊎ (u ≡ lost)

  -- behind a lock that is given back, and behind one that was sought, what was known may be so
  abbrev pub behind : (ℕ → ℕ → Bool → K → K) → (Locking → K → K) → (head : Head) → Exit head → K → K
  behind unlocked locked (Unlocks i w advance) exit t = unlocked i w advance t
  behind unlocked locked (Locks i sought w) exit t = locked exit t
  behind unlocked locked head exit t = lost

-- G holds behind a step that asks nothing; of the others, it holds before them
module _ {K : Type 0} (lost : K) (G : K → Program → Type 0) where
  abbrev pub HoldsBehind : K → Program → Type 0
  HoldsBehind t (Say o outcome next) = G t next
  HoldsBehind t (Sent o next) = G t next
  HoldsBehind t Rest = Unit {0}
  HoldsBehind t (TakeMessage q next) = (heading : Heading) (bytes : List ℕ) → G lost (next heading bytes)
  HoldsBehind t (TakeHome k next) = (places : ℕ) → G lost (next places)
  HoldsBehind t (PutHome k n after) = G lost after
  HoldsBehind t (PutBytes k asked bytes next) = (answer : Put) → G lost (next answer)
  HoldsBehind t (AskReady k next) = (answer : Ready) → G lost (next answer)
  HoldsBehind t (Write w after) = G lost after
  HoldsBehind t (Retries requests after) = G lost after
  HoldsBehind t other = G t other

module _ {K : Type 0} (lost : K) (unlocked_behind : ℕ → ℕ → Bool → K → K) (locked_behind : Locking → K → K) (is_call : Asked → Type 0) (G : K → Program → Type 0) where
  -- each step keeps G
  pub record Tracks : Type 0 where
    pub step : (t : K) (call : TableStep) (next : ℕ → Program) → is_plain call ≡ true → ((found : ℕ) → G t (next found)) → G t (Do call next)
    pub looks : (t : K) (call : TableStep) (next : ℕ → Program) → is_plain call ≡ true → ((found : ℕ) → G lost (next found)) → G t (Do call next)
    pub claim : (s q : ℕ) (next : ℕ → Program) → ((found : ℕ) → G lost (next found)) → G lost (Do (OnChain (ClaimRequest s q)) next)
    pub send : (q o : ℕ) (bytes : List ℕ) (next : ℕ → Program) → ((found : ℕ) → G lost (next found)) → G lost (Do (OnMessage (PutMessage q (heading_of o) bytes)) next)
    pub passes : (t : K) (program : Program) → HoldsBehind lost G t program → G t program
    pub aside : (t : K) (step : Step) (next : Found step → Program) → is_plain_aside step ≡ true → ((found : Found step) → FindsLabel is_call step found → (u : K) × Stays lost t u × G u (next found)) → G t (Aside step next)
    pub puts_call : (t : K) (i : ℕ) (asked : Asked) (next : ℕ → Program) → is_call asked → ((found : ℕ) → G lost (next found)) → G t (Aside (PutCall i asked) next)
    pub unlock : (t : K) (i from : ℕ) (advance : Bool) (next : ℕ → Program)
        → ((found : ℕ) → FindsLabel is_call (UnlockId i from advance) found → ((eqb found from ≡ true) × G (unlocked_behind i from advance t) (next found)) ⊎ ((eqb found from ≡ false) × G t (next found))) → G t (Aside (UnlockId i from advance) next)
    pub round : (t : K) (head : Head) (next : Exit head → Program) → AtLabel is_call head → ((exit : Exit head) → LeavesLabel head exit → G (behind lost unlocked_behind locked_behind head exit t) (next exit)) → G t (Round head next)
    pub keep : (id w : ℕ) (next : Program) → (parts w).first ≡ id_first id → (parts w).attempt + 1 ≤ 6 → G lost next → G (unlocked_behind (id_slot id) w true lost) (Keep (record { id = id; attempt = (parts w).attempt + 1 }) next)
    -- a lock that is given back again
    pub again : (t : K) (i from found : ℕ) (b : Bool) → (parts found).first ≡ (parts from).first → (parts found).attempt ≡ (parts from).attempt → unlocked_behind i from b t ≡ unlocked_behind i found b t
    pub unmoved : (t : K) (i w : ℕ) → unlocked_behind i w false t ≡ t
    pub locking : (exit : Locking) (t : K) → Stays lost t (locked_behind exit t)

-- how the seeking of a lock ends: there is none, or the word is got
pub none_left : (sought : Sought) (found : ℕ) → LeavesLock sought (NotThere found)
none_left (First f) found = tt
none_left (Version v) found = tt

pub word_got : (sought : Sought) (from : ℕ) → IsSoughtWord sought (Some from) → LeavesLock sought (Has (packed (posted_word (parts from) 0)))
word_got (First f) from at = ap (λ (w : Parts). w.first) (locked_parts from 0 at.1) ∙ eqb-true (parts from).first f (and_left (eqb (parts from).first f) (not (eqb (parts from).state 0)) at.0)
word_got (Version v) from at = tt

pub first_as : (x y : ℕ) → x ≡ y → (exit : Unlocking) → LeavesUnlock x exit → LeavesUnlock y exit
first_as x y e (HasNext w error) l = l ∙ e
first_as x y e (IsOpen w) l = tt

module _ {K : Type 0} {lost : K} {unlocked_behind : ℕ → ℕ → Bool → K → K} {locked_behind : Locking → K → K} {is_call : Asked → Type 0} {G : K → Program → Type 0} (g : Tracks lost unlocked_behind locked_behind is_call G) where
  pub way : (t : K) (b : Bool) (x y : Program) → (b ≡ true → G t x) → (b ≡ false → G t y) → G t (cond b x y)
  way t true x y f h = f refl
  way t false x y f h = h refl

  -- a step aside that gives up what is known
  pub gives_up : (t : K) (step : Step) (next : Found step → Program) → is_plain_aside step ≡ true → ((found : Found step) → FindsLabel is_call step found → G lost (next found)) → G t (Aside step next)
  gives_up t step next plain goes = g.aside t step next plain (λ found f. (lost, inr refl, goes found f))

  -- ## Posting

  judged_goes : (id e found : ℕ) (k : Posting → Program) → ((exit : Posting) → LeavesLabel (Posts id e found) exit → G lost (k exit)) → G lost (judged id e found k)
  judged_goes id e found k goes = let two : Program = cond (is_full (parts found)) (k (WasCrowded (code_of (parts found).oldest) (code_of (parts found).second))) (Round (Posts id e found) k) in
      way lost (not (is_first (id_first id) (parts found))) (k WasGone) (cond (is_stale e (parts found)) (k WasStale) two) (λ _. goes WasGone tt)
      (λ here. way lost (is_stale e (parts found)) (k WasStale) two (λ _. goes WasStale tt)
      (λ _. way lost (is_full (parts found)) (k (WasCrowded (code_of (parts found).oldest) (code_of (parts found).second))) (Round (Posts id e found) k) (λ _. goes (WasCrowded (code_of (parts found).oldest) (code_of (parts found).second)) tt)
      (λ _. g.round lost (Posts id e found) k (eqb-true (parts found).first (id_first id) (and_left (eqb (parts found).first (id_first id)) (not (eqb (parts found).state 0)) (not_true (is_first (id_first id) (parts found)) here))) goes)))

  pub post_with_goes : (t : K) (id e : ℕ) (k : Posting → Program) → ((exit : Posting) → LeavesLabel (Posts id e 0) exit → G lost (k exit)) → G t (post_with id e k)
  post_with_goes t id e k goes = gives_up t (LoadIdWord (id_slot id)) _ refl (λ found _. judged_goes id e found k goes)

  posts_goes : (t : K) (id e from : ℕ) (k : Posting → Program) → (parts from).first ≡ id_first id → ((exit : Posting) → LeavesLabel (Posts id e from) exit → G lost (k exit)) → G t (round (Posts id e from) k)
  posts_goes t id e from k first goes = gives_up t (PostId (id_slot id) from e) _ refl (λ found _.
      way lost (eqb found from) (cond (eqb (parts from).state 1) (k (HasLocked (packed (posted_word (parts from) e)))) (k WasQueued)) (judged id e found k)
      (λ _. way lost (eqb (parts from).state 1) (k (HasLocked (packed (posted_word (parts from) e)))) (k WasQueued)
      (λ one. goes (HasLocked (packed (posted_word (parts from) e))) (ap (λ (w : Parts). w.first) (locked_parts from e (eqb-true (parts from).state 1 one)) ∙ first)) (λ _. goes WasQueued tt))
      (λ _. judged_goes id e found k goes))

  -- ## Deciding

  pub decide_goes : (t : K) (id w e : ℕ) (k : Deciding → Program) → (parts w).first ≡ id_first id → ((exit : Deciding) → G lost (k exit)) → G t (decide id w e k)
  decide_goes t id w e k first goes = gives_up t (TakeCall (id_slot id)) _ refl (λ asked call. g.round lost (Decides id asked w e) k (first, call) (λ exit _. goes exit))

  pub end_goes : (t : K) (i : ℕ) (next : Program) → G lost next → G t (end_id i next)
  end_goes t i next goes = gives_up t (EndId i) _ refl (λ found _. way lost (leb ((parts found).first + (parts found).range) LAST) (Aside (FreeId i) (λ _. next)) next (λ _. gives_up lost (FreeId i) (λ _. next) refl (λ _ _. goes)) (λ _. goes))

  unlocked_goes : (id w : ℕ) (k : Deciding → Program) → (parts w).first ≡ id_first id → ((exit : Deciding) → G lost (k exit)) → (exit : Unlocking) → LeavesLabel (Unlocks (id_slot id) w true) exit → G (unlocked_behind (id_slot id) w true lost) (unlocked (record { id = id; attempt = (parts w).attempt + 1 }) k exit)
  unlocked_goes id w k first goes (IsOpen x) l = g.keep id w (k GoesOn) first l.0 (goes GoesOn)
  unlocked_goes id w k first goes (HasNext x e) l = g.keep id w (decide id x e k) first l.0 (decide_goes lost id x e k (l.1 ∙ first) goes)

  decides_goes : (t : K) (id : ℕ) (asked : Asked) (w e : ℕ) (k : Deciding → Program) → (parts w).first ≡ id_first id → is_call asked → ((exit : Deciding) → G lost (k exit)) → G t (round (Decides id asked w e) k)
  decides_goes t id asked w e k first call goes = way t (ends_call (parts w) e) (end_id (id_slot id) (k (HasEnded asked.operation (code_of e))))
      (Aside (PutCall (id_slot id) asked) (λ _. Round (Unlocks (id_slot id) w true) (unlocked (record { id = id; attempt = (parts w).attempt + 1 }) k)))
      (λ _. end_goes t (id_slot id) (k (HasEnded asked.operation (code_of e))) (goes (HasEnded asked.operation (code_of e))))
      (λ _. g.puts_call t (id_slot id) asked _ call (λ _. g.round lost (Unlocks (id_slot id) w true) (unlocked (record { id = id; attempt = (parts w).attempt + 1 }) k) tt (unlocked_goes id w k first goes)))

  pub decided_goes : (id : ℕ) (next : Program) → G lost next → (exit : Deciding) → G lost (decided id next exit)
  decided_goes id next goes (HasEnded o c) = g.passes lost (Say o (CallFailed id c) next) goes
  decided_goes id next goes GoesOn = goes

  pub posted_goes : (id e : ℕ) (next : Program) → G lost next → (exit : Posting) → LeavesLabel (Posts id e 0) exit → G lost (posted id e next exit)
  posted_goes id e next goes (HasLocked w) l = decide_goes lost id w e (decided id next) l (decided_goes id next goes)
  posted_goes id e next goes _ l = goes

  pub post_goes : (t : K) (id c n : ℕ) (next : Program) → G lost next → G t (post id c n next)
  post_goes t id c n next goes = post_with_goes t id _ (posted id _ next) (posted_goes id _ next goes)

  -- ## Giving a lock back

  state_fits : (b : Bool) → cond b 1 2 < 4
  state_fits true = omega arith
  state_fits false = omega arith

  word_after : (from : ℕ) (advance : Bool) → (parts from).attempt + bit advance ≤ 6 → parts (packed (unlocked_word (parts from) (bit advance))) ≡ unlocked_word (parts from) (bit advance)
  word_after from advance low = parts_packed (unlocked_word (parts from) (bit advance)) (state_fits (eqb (parts from).oldest 0)) (omega arith) (omega arith) (omega (arith, low)) (omega arith) (omega arith)

  module _ (t : K) (i from : ℕ) (advance : Bool) (k : Unlocking → Program) (goes : (exit : Unlocking) → LeavesLabel (Unlocks i from advance) exit → G (unlocked_behind i from advance t) (k exit)) where
    abbrev after : ℕ
    after = packed (unlocked_word (parts from) (bit advance))

    abbrev now : K
    now = unlocked_behind i from advance t

    pops : (low : (parts from).attempt + bit advance ≤ 6) → G (unlocked_behind i from advance t) (popped i (parts from).oldest after k)
    pops low = let first : (parts after).first ≡ (parts from).first = ap (λ (w : Parts). w.first) (word_after from advance low) in
        way now (eqb (parts from).oldest 0) (k (IsOpen after)) (cond (is_stale (parts from).oldest (parts after)) (Round (Unlocks i after false) k) (k (HasNext after (parts from).oldest)))
        (λ _. goes (IsOpen after) (low, tt))
        (λ _. way now (is_stale (parts from).oldest (parts after)) (Round (Unlocks i after false) k) (k (HasNext after (parts from).oldest))
        (λ _. g.round now (Unlocks i after false) k tt (λ exit l. subst (λ x. G x (k exit)) (sym (g.unmoved now i after)) (goes exit (low, first_as (parts after).first (parts from).first first exit l.1))))
        (λ _. goes (HasNext after (parts from).oldest) (low, first)))

    unlocks_goes : G t (round (Unlocks i from advance) k)
    unlocks_goes = g.unlock t i from advance _ (λ found f. by found f (eqb found from) refl)
      where
        by : (found : ℕ) → FindsLabel is_call (UnlockId i from advance) found → (b : Bool) → eqb found from ≡ b
            → ((eqb found from ≡ true) × G (unlocked_behind i from advance t) (cond b (popped i (parts from).oldest after k) (Round (Unlocks i found advance) k))) ⊎ ((eqb found from ≡ false) × G t (cond b (popped i (parts from).oldest after k) (Round (Unlocks i found advance) k)))
        by found f true hit = inl (hit, pops f.1)
        by found f false miss = let same = f.2 (not_equal found from miss) in
            inr (miss, g.round t (Unlocks i found advance) k tt (λ exit l. subst (λ x. G x (k exit)) (g.again t i from found advance same.0 same.1) (goes exit (f.1, first_as (parts found).first (parts from).first same.0 exit l.1))))

  -- ## Locks

  locking_goes : (t : K) (i : ℕ) (sought : Sought) (found : ℕ) (w : Option ℕ) (k : Locking → Program) → ((exit : Locking) → LeavesLabel (Locks i sought w) exit → G (locked_behind exit t) (k exit))
      → (u : K) × Stays lost t u × G u (locking i sought found k)
  locking_goes t i sought found w k goes = by (is_sought sought (parts found)) refl
    where
      by : (b : Bool) → is_sought sought (parts found) ≡ b → (u : K) × Stays lost t u
          × G u (cond (not b) (k (NotThere found)) (cond (eqb (parts found).state 1) (Round (Locks i sought (Some found)) k) (Round (Locks i sought None) k)))
      by true here = (
        t,
        inl refl,
        way t (eqb (parts found).state 1) (Round (Locks i sought (Some found)) k) (Round (Locks i sought None) k) (λ one. g.round t (Locks i sought (Some found)) k (here, eqb-true (parts found).state 1 one) goes) (λ _. g.round t (Locks i sought None) k tt goes),
      )
      by false here = (locked_behind (NotThere found) t, g.locking (NotThere found) t, goes (NotThere found) (none_left sought found))

  locks_goes : (t : K) (i : ℕ) (sought : Sought) (from : Option ℕ) (k : Locking → Program) → IsSoughtWord sought from
      → ((exit : Locking) → LeavesLabel (Locks i sought from) exit → G (locked_behind exit t) (k exit)) → G t (round (Locks i sought from) k)
  locks_goes t i sought None k at goes = g.aside t (LoadIdWord i) _ refl (λ found _. locking_goes t i sought found None k goes)
  locks_goes t i sought (Some from) k at goes = g.aside t (LockId i from) _ refl (λ found _. by found (eqb found from))
    where
      by : (found : ℕ) (b : Bool) → (u : K) × Stays lost t u × G u (cond b (k (Has (packed (posted_word (parts from) 0)))) (locking i sought found k))
      by found true = let w : Locking = Has (packed (posted_word (parts from) 0)) in (locked_behind w t, g.locking w t, goes w (word_got sought from at))
      by found false = locking_goes t i sought found (Some from) k goes

  -- ## Reading

  pub answer_goes : (t : K) (frame : Frame) (first : ℕ) (next : Program) → G lost next → G t (answer frame first next)
  answer_goes t frame first next goes = gives_up t (TakeCall (slot_in frame)) _ refl (λ asked _. end_goes lost (slot_in frame) (Say asked.operation (ending_of (call_id (slot_in frame) first) frame) next) (g.passes lost (Say asked.operation (ending_of (call_id (slot_in frame) first) frame) next) goes))

  responses_goes : (ids : ℕ) (fs kept : List Frame) (k : List Frame → Program) → ((kept' : List Frame) → G lost (k kept')) → G lost (responses ids fs kept k)
  responses_goes ids [] kept k goes = goes kept
  responses_goes ids (f ∷ fs) kept k goes = way lost (has_response f.meta.response && nat_lt (slot_in f) ids)
      (Round (Locks (slot_in f) (Version (version_in f)) None) (answered f kept (λ kept'. responses ids fs kept' k))) (responses ids fs kept k)
      (λ _. g.round lost (Locks (slot_in f) (Version (version_in f)) None) (answered f kept (λ kept'. responses ids fs kept' k)) tt
      (λ exit l. subst (λ x. G x (answered f kept (λ kept'. responses ids fs kept' k) exit)) (sym (⊎_elim (λ e. e) (λ e. e) (g.locking exit lost))) (exits (λ kept'. responses_goes ids fs kept' k goes) exit)))
      (λ _. responses_goes ids fs kept k goes)
    where
      exits : ((kept' : List Frame) → G lost (responses ids fs kept' k)) → (exit : Locking) → G lost (answered f kept (λ kept'. responses ids fs kept' k) exit)
      exits later (NotThere w) = later (cond (is_early (version_in f) (parts w)) (kept ++ f ∷ []) kept)
      exits later (Has w) = answer_goes lost f (parts w).first (responses ids fs kept k) (later kept)

  took_goes : (r : Reading) (k : Ended → Program) → ((exit : Ended) → G lost (k exit)) → (t : Taking) → G lost (took r k t)
  took_goes r k goes (Bytes bytes) = let s = streams.stream (r.rest ++ bytes) in
      responses_goes r.ids s.frames r.kept (λ kept. read_on (record { ids = r.ids; link = r.link; id = r.id; rest = r.rest; total = r.total + length bytes; kept = kept }) (r.rest ++ bytes) s.ending k)
      (λ kept. by_ending (record { ids = r.ids; link = r.link; id = r.id; rest = r.rest; total = r.total + length bytes; kept = kept }) (r.rest ++ bytes) s.ending)
    where
      by_ending : (r' : Reading) (bytes : List ℕ) (s : streams.Ending) → G lost (read_on r' bytes s k)
      by_ending r' bytes (streams.Rest n) = let x : Reading = record r' { rest = last_of n bytes } in way lost (nat_lt r'.total LIMIT) (Round (Reads x) k) (k (how_ended 1014 false false x)) (λ _. g.round lost (Reads x) k tt (λ exit _. goes exit)) (λ _. goes (how_ended 1014 false false x))
      by_ending r' bytes (streams.Fault at_ fault) = goes (how_ended 2002 false true r')
  took_goes r k goes Nothing = g.round lost (Reads r) k tt (λ exit _. goes exit)
  took_goes r k goes Closed = goes (how_ended 1014 true false r)
  took_goes r k goes _ = goes (how_ended 1014 false false r)

  discarded_goes : (l total : ℕ) (k : ℕ → Program) → ((exit : ℕ) → G lost (k exit)) → (t : Taking) → G lost (discarded l total k t)
  discarded_goes l total k goes (Bytes bytes) = way lost (nat_lt (total + length bytes) LIMIT) (Round (Discards l (total + length bytes)) k) (k (total + length bytes)) (λ _. g.round lost (Discards l (total + length bytes)) k tt (λ exit _. goes exit)) (λ _. goes (total + length bytes))
  discarded_goes l total k goes Nothing = g.round lost (Discards l total) k tt (λ exit _. goes exit)
  discarded_goes l total k goes _ = goes total

  -- one round of each loop
  pub round_goes : (t : K) (head : Head) (k : Exit head → Program) → AtLabel is_call head → ((exit : Exit head) → LeavesLabel head exit → G (behind lost unlocked_behind locked_behind head exit t) (k exit)) → G t (round head k)
  round_goes t (Posts id e from) k at goes = posts_goes t id e from k at goes
  round_goes t (Unlocks i from advance) k at goes = unlocks_goes t i from advance k goes
  round_goes t (Decides id asked word e) k at goes = decides_goes t id asked word e k at.0 at.1 (λ exit. goes exit tt)
  round_goes t (Locks i sought from) k at goes = locks_goes t i sought from k at goes
  round_goes t (Joins id) k at goes = gives_up t (LoadIdWord (id_slot id)) _ refl (λ found _. way lost (is_first (id_first id) (parts found)) (Round (Joins id) k) (k found) (λ _. g.round lost (Joins id) k tt goes) (λ _. goes found tt))
  round_goes t (Opens o) k at goes = g.looks t (OnName (LoadOpen o)) _ refl (λ word. way lost (eqb word 0) (Round (Opens o) k) (k word) (λ _. g.round lost (Opens o) k tt goes) (λ _. goes word tt))
  round_goes t (Reads r) k at goes = gives_up t (TakeBytes r.link (room_of r.total)) _ refl (λ found _. took_goes r k (λ exit. goes exit tt) found)
  round_goes t (Discards l total) k at goes = gives_up t (TakeBytes l (room_of total)) _ refl (λ found _. discarded_goes l total k (λ exit. goes exit tt) found)
