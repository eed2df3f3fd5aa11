-- One round of each loop keeps to what its seat tries and posts.
use Rattle.std.proofs.Common.{◌≡◌, ◌≢◌, ℕ, ◌+◌, ◌≤◌, ◌⊎◌, inl, inr, not, Bool, true, false, cond, eqb, eqb-true, leb, Option, Some, None, refl, sym, ap, ◌∙◌, subst}
use Rattle.seat_programs.specs.brpc_model.specs.Frame.{Frame}
use Rattle.seat_programs.specs.brpc_model.specs.ResponseOutcome.{ending_of}
use Rattle.corr_core.specs.IdSlotWord.{Parts, parts, posted_word, unlocked_word, code_of, attempt_of, error_of}
use Rattle.corr_core.specs.IdSlotLaw.{LAST}
use Rattle.corr_core.specs.EndedByRangeOrAttempt.{WHOLE, ends_call}
use Rattle.sock_message.specs.Asked.{Asked}
use Rattle.seat_programs.specs.Asides.{FreeId, UnlockId, Taking, PutCall}
use Rattle.seat_programs.specs.LoopHeads.{Head, Exit, Sought, Version, Reading, Posts, Unlocks, Decides, Locks, Joins, Opens, Reads, Discards, Retry, Posting, WasGone, WasStale, WasCrowded, WasQueued, HasLocked, Unlocking, IsOpen, HasNext, Deciding, HasEnded, GoesOn, Locking, NotThere, Has, Ended}
use Rattle.seat_programs.specs.PostPrograms.{packed, is_first, is_sought, is_stale, is_full, judged, posted, post_with, post, popped, end_id, decide, decided, unlocked, locking, IsSoughtWord}
use Rattle.seat_programs.specs.Programs.{Program, Say, Aside, Round}
use Rattle.seat_programs.specs.ReaderProgram.{answer, took, discarded, slot_in}
use Rattle.seat_programs.specs.LoopRounds.{round}
use Rattle.sent_once.specs.Below.programs_allowed.specs.program_walks.proofs.ThroughLoops.{through_took, through_discarded}
use Rattle.sent_once.specs.Below.label_runs.proofs.LoopsOfKnownSeats.{id_back, not_true, not_equal, and_left, locked_parts, none_left, word_got}
use Rattle.own_decisions.proofs.OwnDecisionsStands.{Stand, Calm, Trying, Past, Posted, Eases, MayPost, MayDecide, IsTryingAt, FindsAside, unlocked_stand, unlocks_stand, posted_stand, locked_stand, LeavesUnlock, LeavesStand, Aims}
use Rattle.sent_once.specs.accept_counts.proofs.IdWordsGoForward.{unlocked_is}
use Rattle.sock_words.specs.PackedWords.{id_slot, id_first, call_id, bit}

pub way : (s : Stand) (b : Bool) (x y : Program) → (b ≡ true → Aims s x) → (b ≡ false → Aims s y) → Aims s (cond b x y)
way s true x y f g = f refl
way s false x y f g = g refl

-- behind a step that leaves what the seat tries
abbrev pub Eased : Stand → Program → Type 0
Eased s x = (u : Stand) × Eases s u × Aims u x

eased_way : (s : Stand) (b : Bool) (x y : Program) → (b ≡ true → Eased s x) → (b ≡ false → Eased s y) → Eased s (cond b x y)
eased_way s true x y f g = f refl
eased_way s false x y f g = g refl

calms : (s : Stand) (x : Program) → Aims Calm x → Eased s x
calms s x g = (Calm, inr (inl refl), g)

-- ## Posting

judged_goes : (s : Stand) (id e found : ℕ) (k : Posting → Program) → MayPost s id e → ((exit : Posting) → LeavesStand (Posts id e found) exit → Aims (posted_stand id e exit) (k exit)) → Eased s (judged id e found k)
judged_goes s id e found k may goes = let two : Program = cond (is_full (parts found)) (k (WasCrowded (code_of (parts found).oldest) (code_of (parts found).second))) (Round (Posts id e found) k) in
    eased_way s (not (is_first (id_first id) (parts found))) (k WasGone) (cond (is_stale e (parts found)) (k WasStale) two) (λ _. calms s (k WasGone) (goes WasGone tt))
    (λ here. eased_way s (is_stale e (parts found)) (k WasStale) two (λ _. calms s (k WasStale) (goes WasStale tt))
    (λ _. eased_way s (is_full (parts found)) (k (WasCrowded (code_of (parts found).oldest) (code_of (parts found).second))) (Round (Posts id e found) k)
    (λ _. calms s (k (WasCrowded (code_of (parts found).oldest) (code_of (parts found).second))) (goes (WasCrowded (code_of (parts found).oldest) (code_of (parts found).second)) tt))
    (λ _. (
      s,
      inl refl,
      (
        (eqb-true (parts found).first (id_first id) (and_left (eqb (parts found).first (id_first id)) (not (eqb (parts found).state 0)) (not_true (is_first (id_first id) (parts found)) here)), may),
        goes,
      ),
    ))))

pub post_with_goes : (s u : Stand) (id e : ℕ) (k : Posting → Program) → Eases s u → MayPost u id e → ((exit : Posting) → LeavesStand (Posts id e 0) exit → Aims (posted_stand id e exit) (k exit)) → Aims s (post_with id e k)
post_with_goes s u id e k (inl same) may goes = (tt, λ found _. judged_goes s id e found k (subst (λ x. MayPost x id e) same may) goes)
post_with_goes s u id e k (inr (inl calm)) may goes = (tt, λ found _. by found (judged_goes Calm id e found k (subst (λ x. MayPost x id e) calm may) goes))
  where
    by : (found : ℕ) → Eased Calm (judged id e found k) → Eased s (judged id e found k)
    by found x = (x.0, inr (inl (calmed x.0 x.1)), x.2)
      where
        calmed : (y : Stand) → Eases Calm y → y ≡ Calm
        calmed y (inl z) = z
        calmed y (inr (inl z)) = z
        calmed y (inr (inr z)) = z.3 ∙ absurd (let w = z.2 in cc)
post_with_goes s u id e k (inr (inr past)) may goes = (tt, λ found _. by found (judged_goes (Past past.0 past.1) id e found k (subst (λ x. MayPost x id e) past.3 may) goes))
  where
    by : (found : ℕ) → Eased (Past past.0 past.1) (judged id e found k) → Eased s (judged id e found k)
    by found x = (x.0, eased x.0 x.1, x.2)
      where
        eased : (y : Stand) → Eases (Past past.0 past.1) y → Eases s y
        eased y (inl z) = inr (inr (past.0, past.1, past.2, z))
        eased y (inr (inl z)) = inr (inl z)
        eased y (inr (inr z)) = absurd (let w = z.2 in cc)

posts_goes : (s : Stand) (id e from : ℕ) (k : Posting → Program) → (parts from).first ≡ id_first id → MayPost s id e → ((exit : Posting) → LeavesStand (Posts id e from) exit → Aims (posted_stand id e exit) (k exit)) → Aims s (round (Posts id e from) k)
posts_goes s id e from k first may goes = (subst (λ x. MayPost s x e) (sym same) may, λ found _. by found (eqb found from) refl)
  where
    same : call_id (id_slot id) (parts from).first ≡ id
    same = ap (call_id (id_slot id)) first ∙ id_back id

    by_state : (found : ℕ) → found ≡ from → (b : Bool) → eqb (parts from).state 1 ≡ b
        → (u : Stand) × (Eases s u ⊎ ((found ≡ from) × (u ≡ Posted (call_id (id_slot id) (parts from).first) e))) × Aims u (cond b (k (HasLocked (packed (posted_word (parts from) e)))) (k WasQueued))
    by_state found hit true one = (
      Posted (call_id (id_slot id) (parts from).first) e,
      inr (hit, refl),
      subst (λ x. Aims (Posted x e) (k (HasLocked (packed (posted_word (parts from) e))))) (sym same)
          (goes (HasLocked (packed (posted_word (parts from) e))) (ap (λ (w : Parts). w.first) (locked_parts from e (eqb-true (parts from).state 1 one)) ∙ first)),
    )
    by_state found hit false other = (Calm, inl (inr (inl refl)), goes WasQueued tt)

    by : (found : ℕ) (b : Bool) → eqb found from ≡ b → (u : Stand) × (Eases s u ⊎ ((found ≡ from) × (u ≡ Posted (call_id (id_slot id) (parts from).first) e)))
        × Aims u (cond b (cond (eqb (parts from).state 1) (k (HasLocked (packed (posted_word (parts from) e)))) (k WasQueued)) (judged id e found k))
    by found true hit = by_state found (eqb-true found from hit) (eqb (parts from).state 1) refl
    by found false miss = let x = judged_goes s id e found k may goes in (x.0, inl x.1, x.2)

-- ## Deciding

pub decide_goes : (s u : Stand) (id w e : ℕ) (k : Deciding → Program) → Eases s u → (parts w).first ≡ id_first id → MayDecide u id e → ((exit : Deciding) → Aims Calm (k exit)) → Aims s (decide id w e k)
decide_goes s u id w e k eases first may goes = (tt, λ asked _. (u, eases, ((first, may), λ exit _. goes exit)))

pub end_goes : (s : Stand) (i : ℕ) (next : Program) → Aims Calm next → Aims s (end_id i next)
end_goes s i next goes = (tt, λ found _. (Calm, inr (inl refl), way Calm (leb ((parts found).first + (parts found).range) LAST) (Aside (FreeId i) (λ _. next)) next (λ _. (tt, λ _ _. (Calm, inl refl, goes))) (λ _. goes)))

unlocked_goes : (r : Retry) (k : Deciding → Program) → ((exit : Deciding) → Aims Calm (k exit)) → (exit : Unlocking) → r.attempt ≤ 6 → ((w e : ℕ) → exit ≡ HasNext w e → ((parts w).first ≡ id_first r.id) × (attempt_of e ≡ WHOLE)) → (s : Stand) → s ≡ Trying r.id r.attempt → Aims s (unlocked r k exit)
unlocked_goes r k goes (IsOpen w) few next s is = (is, few, goes GoesOn)
unlocked_goes r k goes (HasNext w e) few next s is = (is, few, decide_goes Calm Calm r.id w e k (inl refl) (next w e refl).0 (inl (next w e refl).1) goes)

pub next_is : (first : ℕ) (exit : Unlocking) → LeavesUnlock first exit → (w e : ℕ) → exit ≡ HasNext w e → ((parts w).first ≡ first) × (attempt_of e ≡ WHOLE)
next_is first exit l w e is = subst (LeavesUnlock first) is l

decides_goes : (s : Stand) (id : ℕ) (asked : Asked) (w e : ℕ) (k : Deciding → Program) → (parts w).first ≡ id_first id → ((exit : Deciding) → Aims Calm (k exit)) → Aims s (round (Decides id asked w e) k)
decides_goes s id asked w e k first goes = way s (ends_call (parts w) e) (end_id (id_slot id) (k (HasEnded asked.operation (code_of e))))
    (Aside (PutCall (id_slot id) asked) (λ _. Round (Unlocks (id_slot id) w true) (unlocked (record { id = id; attempt = (parts w).attempt + 1 }) k)))
    (λ _. end_goes s (id_slot id) (k (HasEnded asked.operation (code_of e))) (goes (HasEnded asked.operation (code_of e))))
    (λ _. (tt, λ _ _. calms s (Round (Unlocks (id_slot id) w true) (unlocked (record { id = id; attempt = (parts w).attempt + 1 }) k)) (tt, tries)))
  where
    tries : (exit : Unlocking) → LeavesStand (Unlocks (id_slot id) w true) exit → Aims (Trying (call_id (id_slot id) (parts w).first) ((parts w).attempt + 1)) (unlocked (record { id = id; attempt = (parts w).attempt + 1 }) k exit)
    tries exit l = unlocked_goes (record { id = id; attempt = (parts w).attempt + 1 }) k goes exit l.0 (λ x y is. (let n = next_is (parts w).first exit l.1 x y is in (n.0 ∙ first, n.1))) (Trying (call_id (id_slot id) (parts w).first) ((parts w).attempt + 1))
        (ap (λ x. Trying x ((parts w).attempt + 1)) (ap (call_id (id_slot id)) first ∙ id_back id))

pub decided_goes : (id : ℕ) (next : Program) → Aims Calm next → (exit : Deciding) → Aims Calm (decided id next exit)
decided_goes id next goes (HasEnded o c) = goes
decided_goes id next goes GoesOn = goes

pub posted_goes : (id e : ℕ) (next : Program) → Aims Calm next → (exit : Posting) → LeavesStand (Posts id e 0) exit → Aims (posted_stand id e exit) (posted id e next exit)
posted_goes id e next goes (HasLocked w) l = decide_goes (Posted id e) (Posted id e) id w e (decided id next) (inl refl) l (inr refl) (decided_goes id next goes)
posted_goes id e next goes _ l = goes

pub post_goes : (s : Stand) (id c n : ℕ) (next : Program) → Eases s (Past id n) → Aims Calm next → Aims s (post id c n next)
post_goes s id c n next eases goes = post_with_goes s (Past id n) id (error_of c n) (posted id (error_of c n) next) eases (inr (c, n, refl, refl)) (posted_goes id (error_of c n) next goes)

-- ## Giving a lock back

module _ (s : Stand) (i from : ℕ) (advance : Bool) (k : Unlocking → Program) (trying : advance ≡ false → IsTryingAt s i (parts from).first) (goes : (exit : Unlocking) → LeavesStand (Unlocks i from advance) exit → Aims (unlocks_stand i from advance s) (k exit)) where
  abbrev after : ℕ
  after = packed (unlocked_word (parts from) (bit advance))

  may : (b : Bool) → (b ≡ false → IsTryingAt s i (parts from).first) → Rattle.own_decisions.proofs.OwnDecisionsStands.MayAside s (UnlockId i from b)
  may true t = tt
  may false t = t refl

  at_head : (b : Bool) (found : ℕ) → (parts found).first ≡ (parts from).first → (b ≡ false → IsTryingAt s i (parts from).first) → Rattle.own_decisions.proofs.OwnDecisionsStands.AtStand s (Unlocks i found b)
  at_head true found same t = tt
  at_head false found same t = let x = t refl in (x.0, x.1 ∙ ap (λ f. Trying (call_id i f) x.0) (sym same))

  -- what is tried behind the exchange is of the range
  trying_on : (b : Bool) (w : ℕ) → (parts w).first ≡ (parts from).first → (b ≡ false → IsTryingAt s i (parts from).first) → IsTryingAt (unlocks_stand i from b s) i (parts w).first
  trying_on true w same t = ((parts from).attempt + 1, ap (λ f. Trying (call_id i f) ((parts from).attempt + 1)) (sym same))
  trying_on false w same t = let x = t refl in (x.0, x.1 ∙ ap (λ f. Trying (call_id i f) x.0) (sym same))

  hit_is : (b : Bool) (found : ℕ) → eqb found from ≡ true → unlocks_stand i from b s ≡ unlocked_stand i from b found s
  hit_is true found hit = sym (ap (λ z. cond z (Trying (call_id i (parts from).first) ((parts from).attempt + 1)) s) hit)
  hit_is false found hit = refl

  miss_is : (b : Bool) (found : ℕ) → eqb found from ≡ false → s ≡ unlocked_stand i from b found s
  miss_is true found miss = sym (ap (λ z. cond z (Trying (call_id i (parts from).first) ((parts from).attempt + 1)) s) miss)
  miss_is false found miss = refl

  found_is : (b : Bool) (found : ℕ) → (parts found).first ≡ (parts from).first → (parts found).attempt ≡ (parts from).attempt → unlocks_stand i from b s ≡ unlocks_stand i found b s
  found_is true found f a = ap (λ x. Trying (call_id i x) ((parts from).attempt + 1)) (sym f) ∙ ap (λ x. Trying (call_id i (parts found).first) (x + 1)) (sym a)
  found_is false found f a = refl

  first_as : (x y : ℕ) → x ≡ y → (exit : Unlocking) → LeavesUnlock x exit → LeavesUnlock y exit
  first_as x y e (HasNext w error) l = (l.0 ∙ e, l.1)
  first_as x y e (IsOpen w) l = tt

  pops : (low : (parts from).attempt + bit advance ≤ 6) → ((parts from).oldest ≢ 0 → is_stale (parts from).oldest (unlocked_word (parts from) (bit advance)) ≡ false → attempt_of (parts from).oldest ≡ WHOLE) → Aims (unlocks_stand i from advance s) (popped i (parts from).oldest after k)
  pops low whole = let is = unlocked_is from advance low in let first : (parts after).first ≡ (parts from).first = ap (λ (w : Parts). w.first) (unlocked_is from advance low) in
      way (unlocks_stand i from advance s) (eqb (parts from).oldest 0) (k (IsOpen after)) (cond (is_stale (parts from).oldest (parts after)) (Round (Unlocks i after false) k) (k (HasNext after (parts from).oldest)))
      (λ _. goes (IsOpen after) (low, tt))
      (λ some_. way (unlocks_stand i from advance s) (is_stale (parts from).oldest (parts after)) (Round (Unlocks i after false) k) (k (HasNext after (parts from).oldest))
      (λ _. (trying_on advance after first trying, λ exit l. goes exit (low, first_as (parts after).first (parts from).first first exit l.1)))
      (λ fresh. goes (HasNext after (parts from).oldest) (low, (first, whole (not_equal (parts from).oldest 0 some_) (ap (is_stale (parts from).oldest) (sym is) ∙ fresh)))))

  unlocks_goes : Aims s (round (Unlocks i from advance) k)
  unlocks_goes = (may advance trying, λ found f. by found f (eqb found from) refl)
    where
      by : (found : ℕ) → FindsAside (UnlockId i from advance) found → (b : Bool) → eqb found from ≡ b → (u : Stand) × (u ≡ unlocked_stand i from advance found s) × Aims u (cond b (popped i (parts from).oldest after k) (Round (Unlocks i found advance) k))
      by found f true hit = (unlocks_stand i from advance s, hit_is advance found hit, pops f.1 (f.3 (eqb-true found from hit)))
      by found f false miss = let same = f.2 (not_equal found from miss) in (
        s,
        miss_is advance found miss,
        (at_head advance found same.0 trying, λ exit l. subst (λ x. Aims x (k exit)) (found_is advance found same.0 same.1) (goes exit (f.1, first_as (parts found).first (parts from).first same.0 exit l.1))),
      )

-- ## Locks

locking_goes : (s : Stand) (i : ℕ) (sought : Sought) (found : ℕ) (w : Option ℕ) (k : Locking → Program) → ((exit : Locking) → LeavesStand (Locks i sought w) exit → Aims (locked_stand exit s) (k exit)) → Eased s (locking i sought found k)
locking_goes s i sought found w k goes = by (is_sought sought (parts found)) refl
  where
    by : (b : Bool) → is_sought sought (parts found) ≡ b → Eased s (cond (not b) (k (NotThere found)) (cond (eqb (parts found).state 1) (Round (Locks i sought (Some found)) k) (Round (Locks i sought None) k)))
    by true here = (s, inl refl, way s (eqb (parts found).state 1) (Round (Locks i sought (Some found)) k) (Round (Locks i sought None) k) (λ one. ((here, eqb-true (parts found).state 1 one), goes)) (λ _. (tt, goes)))
    by false here = calms s (k (NotThere found)) (goes (NotThere found) (none_left sought found))

locks_goes : (s : Stand) (i : ℕ) (sought : Sought) (from : Option ℕ) (k : Locking → Program) → IsSoughtWord sought from → ((exit : Locking) → LeavesStand (Locks i sought from) exit → Aims (locked_stand exit s) (k exit)) → Aims s (round (Locks i sought from) k)
locks_goes s i sought None k at goes = (tt, λ found _. locking_goes s i sought found None k goes)
locks_goes s i sought (Some from) k at goes = (tt, λ found _. by found (eqb found from))
  where
    by : (found : ℕ) (b : Bool) → Eased s (cond b (k (Has (packed (posted_word (parts from) 0)))) (locking i sought found k))
    by found true = (s, inl refl, goes (Has (packed (posted_word (parts from) 0))) (word_got sought from at))
    by found false = locking_goes s i sought found (Some from) k goes

-- ## Reading

pub answer_goes : (s : Stand) (frame : Frame) (first : ℕ) (next : Program) → Aims Calm next → Aims s (answer frame first next)
answer_goes s frame first next goes = (tt, λ asked _. (Calm, inr (inl refl), end_goes Calm (slot_in frame) (Say asked.operation (ending_of (call_id (slot_in frame) first) frame) next) goes))

sought : (i v : ℕ) (k : Locking → Program) → ((exit : Locking) → Aims Calm (k exit)) → Aims Calm (Round (Locks i (Version v) None) k)
sought i v k goes = (tt, exits)
  where
    exits : (exit : Locking) → LeavesStand (Locks i (Version v) None) exit → Aims (locked_stand exit Calm) (k exit)
    exits (NotThere w) l = goes (NotThere w)
    exits (Has w) l = goes (Has w)

took_goes : (r : Reading) (k : Ended → Program) → ((exit : Ended) → Unit {0} → Aims Calm (k exit)) → (t : Taking) → Aims Calm (took r k t)
took_goes = through_took (λ how. Unit {0}) (Aims Calm) sought (answer_goes Calm) (λ r k goes. (tt, goes)) (λ closed fault r. tt) (λ r. tt)

discarded_goes : (l total : ℕ) (k : ℕ → Program) → ((exit : ℕ) → Aims Calm (k exit)) → (t : Taking) → Aims Calm (discarded l total k t)
discarded_goes = through_discarded (Aims Calm) (λ l total k goes. (tt, λ exit _. goes exit))

-- one round of each loop
pub aims_round : (s : Stand) (head : Head) (k : Exit head → Program) → Aims s (Round head k) → Aims s (round head k)
aims_round s (Posts id e from) k g = posts_goes s id e from k g.0.0 g.0.1 g.1
aims_round s (Unlocks i from true) k g = unlocks_goes s i from true k (λ e. absurd (cc)) g.1
aims_round s (Unlocks i from false) k g = unlocks_goes s i from false k (λ _. g.0) g.1
aims_round s (Decides id asked word e) k g = decides_goes s id asked word e k g.0.0 (λ exit. g.1 exit tt)
aims_round s (Locks i sought from) k g = locks_goes s i sought from k g.0 g.1
aims_round s (Joins id) k g = (tt, λ found _. (Calm, inr (inl refl), way Calm (is_first (id_first id) (parts found)) (Round (Joins id) k) (k found) (λ _. (tt, g.1)) (λ _. g.1 found tt)))
aims_round s (Opens o) k g = (tt, λ word _. (Calm, inr (inl refl), way Calm (eqb word 0) (Round (Opens o) k) (k word) (λ _. (tt, g.1)) (λ _. g.1 word tt)))
aims_round s (Reads r) k g = (tt, λ found _. (Calm, inr (inl refl), took_goes r k g.1 found))
aims_round s (Discards l total) k g = (tt, λ found _. (Calm, inr (inl refl), discarded_goes l total k (λ exit. g.1 exit tt) found))
