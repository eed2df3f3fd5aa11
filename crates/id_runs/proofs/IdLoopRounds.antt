-- From the head of each loop on ids one round goes on, whatever it finds.
use Rattle.std.proofs.Common.{◌≡◌, ◌≢◌, ℕ, zero, suc, ◌+◌, ◌-◌, ◌*◌, ◌<◌, inl, inr, ◌==◌, ◌&&◌, ◌||◌, not, Bool, true, false, cond, eqb, eqb-true, eq-eqb, ne_eqb, leb, nat_lt, List, [], ◌∷◌, ◌++◌, Some, None, length, refl, sym, ap, ◌∙◌, subst, arith}
use Rattle.std.specs.Prelude.{Option}
use Rattle.sock_words.specs.declared.plain.Plan.{Plan}
use Rattle.sock_words.specs.ErrorCodes.{is_final}
use Rattle.corr_core.specs.IdSlotWord.{Parts, parts, locked_word, posted_word, unlocked_word, code_of, attempt_of}
use Rattle.corr_core.specs.IdSlotLaw.{LAST}
use Rattle.corr_core.specs.declared.marks.Plan.{Plan as IdPlan}
use Rattle.corr_core.specs.declared.marks.Hand.TheVariants.{Empty, Full}
use Rattle.corr_core.specs.declared.marks.Token.{Token}
use Rattle.corr_core.specs.declared.marks.Token.TheVariants.{Locked, Leaving}
use Rattle.corr_core.specs.declared.marks.Note.TheVariants.{Queued, Saw, Attempt, Ended}
use Rattle.corr_core.specs.EndedByRangeOrAttempt.{ends_call}
use Rattle.corr_core.specs.IdRangeVersions.{is_early}
use Rattle.id_rule.specs.LawfulIdTable.{tokens_of, without, with_token, no_token, with_note}
use Rattle.id_rule.specs.IdPlays.{with_hand, Longer, popped_view, advanced_view}
use Rattle.seat_programs.specs.brpc_model.specs.Frame.{Frame}
use Rattle.seat_programs.specs.brpc_model.specs.FrameStream as streams
use Rattle.seat_programs.specs.brpc_model.specs.ResponseOutcome.{ending_of}
use Rattle.seat_programs.specs.sock_message.specs.Asked.{Asked}
use Rattle.seat_programs.specs.Asides.{PutCall, FreeId, Taking, Bytes, Nothing, Closed}
use Rattle.seat_programs.specs.LoopHeads.{Head, Exit, Retry, Sought, First, Version, Reading, Posts, Unlocks, Decides, Locks, Joins, Opens, Reads, Discards, Posting, WasGone, WasStale, WasCrowded, WasQueued, HasLocked, Unlocking, IsOpen, HasNext, Deciding, HasEnded, GoesOn, Locking, NotThere, Has, Ended as Over}
use Rattle.seat_programs.specs.Programs.{Program, Say, Aside, Round}
use Rattle.seat_programs.specs.PostPrograms.{packed, is_first, is_sought, is_stale, is_full, judged, posted, post_with, post, popped, end_id, decide, decided, unlocked, locking}
use Rattle.seat_programs.specs.ReaderProgram.{answer, answered, responses, read_on, took, discarded, last_of, slot_in, version_in, has_response, ended_by as how_ended, LIMIT}
use Rattle.seat_programs.specs.LoopRounds.{round}
use Rattle.id_runs.specs.HeldIdTokens.{IdView, one, by_token, unlocked_by, ended_by, locked_by, HasOne}
use Rattle.id_runs.specs.Goes.{EndsReading, HasRoom, IsIdWord, IsError, IsPostable, IsLocked, IsFree, AtHead, LeavesPost, LeavesUnlock, LeavesLock, FitsRetryId, IdGoesOn}
use Rattle.id_runs.proofs.AsidesKeepingIdRule.{parts_packed}
use Rattle.sock_words.specs.PackedWords.{id_slot, id_first, call_id, bit}

-- ## One token

pub tokens_one : (i : ℕ) (t : Token Asked) → tokens_of i (one i t) ≡ t ∷ []
tokens_one i t = ap (λ b. cond b (t ∷ []) []) (eq-eqb i i refl)

pub without_one : (i : ℕ) (t : Token Asked) → without i (one i t) ≡ []
without_one i t = ap (λ b. cond b [] (one i t)) (eq-eqb i i refl)

module _ (i : ℕ) (t : Token Asked) (u : IdView) (is : u.tokens ≡ one i t) where
  pub has_one : HasOne i t u
  has_one = ap (tokens_of i) is ∙ tokens_one i t

  pub other_one : (t' : Token Asked) → (with_token i t' u).tokens ≡ one i t'
  other_one t' = ap (λ hs. record { slot = i; token = t' } ∷ hs) (ap (without i) is ∙ without_one i t)

  pub none_left : (no_token i u).tokens ≡ []
  none_left = ap (without i) is ∙ without_one i t

pub first_one : (i : ℕ) (t : Token Asked) (u : IdView) → u.tokens ≡ [] → (with_token i t u).tokens ≡ one i t
first_one i t u none_ = ap (λ hs. record { slot = i; token = t } ∷ without i hs) none_

cond_tokens : (b : Bool) (v w : IdView) → w.tokens ≡ v.tokens → (cond b v w).tokens ≡ v.tokens
cond_tokens true v w e = refl
cond_tokens false v w e = e

-- ## Words of a lock

-- the word once it is locked
locked_longer : (w : ℕ) → ((parts w).oldest ≡ 0 → (parts w).second ≡ 0) → HasRoom w → Longer (parts w).first (parts w).range (parts w).attempt 0 0 (parts (packed (locked_word (parts w))))
locked_longer w second room = subst (Longer (parts w).first (parts w).range (parts w).attempt 0 0) (sym (parts_packed (locked_word (parts w)) (omega arith) (omega arith) (omega arith) (omega arith) (omega arith) (omega arith)))
    record { first_is = refl; state_is = refl; range_is = refl; attempt_is = refl; begins = ((λ n. absurd (n refl)), (λ n. absurd (n refl)), second) }

posted_is : (w e : ℕ) → (parts w).state ≡ 1 → posted_word (parts w) e ≡ locked_word (parts w)
posted_is w e one = ap (λ b. cond b (locked_word (parts w)) record { first = (parts w).first; state = 2; range = (parts w).range; attempt = (parts w).attempt; oldest = cond (eqb (parts w).oldest 0) e (parts w).oldest; second = cond (eqb (parts w).oldest 0) 0 e }) (eq-eqb (parts w).state 1 one)

-- the lock of whoever found this word open
got_lock : (i w e : ℕ) (c : Asked) (u : IdView) → u.tokens ≡ [] → (parts w).state ≡ 1 → IsIdWord w → IsLocked i 0 (packed (posted_word (parts w) e)) (locked_by i w c u)
got_lock i w e c u none_ one is = let room = is.0 (omega (arith, one)) in record {
  f = (parts w).first;
  rg = (parts w).range;
  att = (parts w).attempt;
  o = 0;
  s = 0;
  c = c;
  tokens = first_one i (Locked (parts w).first (parts w).range (parts w).attempt c 0 0 (Full c)) u none_;
  word_is = subst (λ x. Longer (parts w).first (parts w).range (parts w).attempt 0 0 (parts (packed x))) (sym (posted_is w e one)) (locked_longer w (is.2 (omega (arith, one))) room);
  room = omega (arith, room);
}

-- ## Ways

module _ (p : Plan) (q : IdPlan) where
  pub way : (u : IdView) (b : Bool) (x y : Program) → (b ≡ true → IdGoesOn p q u x) → (b ≡ false → IdGoesOn p q u y) → IdGoesOn p q u (cond b x y)
  way u true x y f g = f refl
  way u false x y f g = g refl

  pub both_ways : (b : Bool) (u v : IdView) (x y : Program) → (b ≡ true → IdGoesOn p q u x) → (b ≡ false → IdGoesOn p q v y) → IdGoesOn p q (cond b u v) (cond b x y)
  both_ways true u v x y f g = f refl
  both_ways false u v x y f g = g refl

pub not_true : (b : Bool) → not b ≡ false → b ≡ true
not_true true e = refl
not_true false e = cc

not_zero : (n : ℕ) → not (eqb n 0) ≡ true → 0 < n
not_zero zero e = let z : false ≡ true = e in cc
not_zero (suc n) e = omega arith

pub and_left : (a b : Bool) → (a && b) ≡ true → a ≡ true
and_left true b e = refl
and_left false b e = e

pub and_right : (a b : Bool) → (a && b) ≡ true → b ≡ true
and_right true b e = e
and_right false b e = cc

nand_right : (a b : Bool) → (a && b) ≡ false → a ≡ true → b ≡ false
nand_right true b e z = e
nand_right false b e z = cc

not_false : (b : Bool) → not b ≡ false → (eqb_ : b ≡ true → ⊥) → ⊥
not_false true e f = f refl
not_false false e f = let z : true ≡ false = e in cc

pub not_equal : (a b : ℕ) → eqb a b ≡ false → a ≢ b
not_equal a b e same = let z : true ≡ false = sym (eq-eqb a b same) ∙ e in cc

or_right : (a b : Bool) → (a || b) ≡ false → b ≡ false
or_right true b e = cc
or_right false b e = e

zero_of : (n : ℕ) → not (eqb n 0) ≡ false → n ≡ 0
zero_of n e = eqb-true n 0 (not_true (eqb n 0) e)

-- by the state of a word: an id that isn't free is open or locked
state_of : (w s : ℕ) → s ≡ (parts w).state → 0 < s → s ≢ 1 → (parts w).state < 3 → s ≡ 2
state_of w s e some_ not_one small = omega (arith, e, some_, not_one, small)

module _ (p : Plan) (q : IdPlan) where
  abbrev Goes : IdView → Program → Type 0
  Goes u x = IdGoesOn p q u x

  -- ## Posting

  judged_goes : (u : IdView) (id e found : ℕ) (k : Posting → Program) → IsFree u → id_slot id < q.slots → IsError e → IsIdWord found
      → ((exit : Posting) (v : IdView) → LeavesPost (id_slot id) exit v → Goes v (k exit)) → Goes u (judged id e found k)
  judged_goes u id e found k free inside error word goes =
      let w : Parts = parts found in
      let two : Program = cond (is_full (parts found)) (k (WasCrowded (code_of (parts found).oldest) (code_of (parts found).second))) (Round (Posts id e found) k) in
      let one_ : Program = cond (is_stale e (parts found)) (k WasStale) two in
      way p q u (not (is_first (id_first id) (parts found))) (k WasGone) one_ (λ _. goes WasGone u free)
      (λ here. let there : is_first (id_first id) (parts found) ≡ true = not_true (is_first (id_first id) (parts found)) here in
      let some_ : 0 < (parts found).state = not_zero (parts found).state (and_right (eqb (parts found).first (id_first id)) (not (eqb (parts found).state 0)) there) in
      way p q u (is_stale e (parts found)) (k WasStale) two (λ _. goes WasStale u free)
      (λ _. way p q u (is_full (parts found)) (k (WasCrowded (code_of (parts found).oldest) (code_of (parts found).second))) (Round (Posts id e found) k) (λ _. goes (WasCrowded (code_of (parts found).oldest) (code_of (parts found).second)) u free)
      (λ more. ((free, inside, postable some_ more (eqb (parts found).state 1) refl, error), goes))))
    where
      postable : 0 < (parts found).state → is_full (parts found) ≡ false → (b : Bool) → eqb (parts found).state 1 ≡ b → IsPostable (parts found)
      postable some_ more true is = inl (eqb-true (parts found).state 1 is)
      postable some_ more false is = let two : (parts found).state ≡ 2 = (let ne = not_equal (parts found).state 1 is in let small = word.1 in omega arith) in
          inr (two, zero_of (parts found).second (nand_right (eqb (parts found).state 2) (not (eqb (parts found).second 0)) more (eq-eqb (parts found).state 2 two)))

  posts_goes : (u : IdView) (id e from : ℕ) (k : Posting → Program) → AtHead p q u (Posts id e from) → ((exit : Posting) (v : IdView) → LeavesPost (id_slot id) exit v → Goes v (k exit)) → Goes u (round (Posts id e from) k)
  posts_goes u id e from k at goes = let i : ℕ = id_slot id in (
    (at.1, at.2, at.3.0, at.3.1),
    λ found c f. both_ways p q (eqb found from) (cond (eqb (parts from).state 1) (locked_by (id_slot id) found c u) (with_note (id_slot id) (Queued (parts found).first e) u)) (with_note (id_slot id) (Saw found) u)
        (cond (eqb (parts from).state 1) (k (HasLocked (packed (posted_word (parts from) e)))) (k WasQueued)) (judged id e found k)
        (λ hit. let same : found ≡ from = eqb-true found from hit in
        both_ways p q (eqb (parts from).state 1) (locked_by (id_slot id) found c u) (with_note (id_slot id) (Queued (parts found).first e) u) (k (HasLocked (packed (posted_word (parts from) e)))) (k WasQueued)
        (λ one. let state = eqb-true (parts from).state 1 one in goes (HasLocked (packed (posted_word (parts from) e))) (locked_by (id_slot id) found c u)
        (subst (λ w. IsLocked (id_slot id) 0 (packed (posted_word (parts from) e)) (locked_by (id_slot id) w c u)) (sym same) (got_lock (id_slot id) from e c u at.0 state (subst IsIdWord same f))))
        (λ _. goes WasQueued (with_note (id_slot id) (Queued (parts found).first e) u) at.0))
        (λ _. judged_goes (with_note (id_slot id) (Saw found) u) id e found k at.0 at.1 at.3 f goes),
  )

  -- ## Getting a lock

  sought_taken : (sought : Sought) (w : Parts) → is_sought sought w ≡ true → 0 < w.state
  sought_taken (First first) w e = not_zero w.state (and_right (eqb w.first first) (not (eqb w.state 0)) e)
  sought_taken (Version v) w e = not_zero w.state (and_left (not (eqb w.state 0)) (nat_lt w.first v && nat_lt v (w.first + w.range)) e)

  locking_goes : (u : IdView) (i : ℕ) (sought : Sought) (found : ℕ) (k : Locking → Program) → IsFree u → i < q.slots → ((exit : Locking) (v : IdView) → LeavesLock i exit v → Goes v (k exit)) → Goes u (locking i sought found k)
  locking_goes u i sought found k free inside goes = let two : Program = cond (eqb (parts found).state 1) (Round (Locks i sought (Some found)) k) (Round (Locks i sought None) k) in
      way p q u (not (is_sought sought (parts found))) (k (NotThere found)) two (λ _. goes (NotThere found) u free)
      (λ _. way p q u (eqb (parts found).state 1) (Round (Locks i sought (Some found)) k) (Round (Locks i sought None) k)
      (λ e. ((free, inside, eqb-true (parts found).state 1 e), goes)) (λ _. ((free, inside, tt), goes)))

  locks_goes : (u : IdView) (i : ℕ) (sought : Sought) (from : Option ℕ) (k : Locking → Program) → AtHead p q u (Locks i sought from) → ((exit : Locking) (v : IdView) → LeavesLock i exit v → Goes v (k exit)) → Goes u (round (Locks i sought from) k)
  locks_goes u i sought None k at goes = (at.1, λ found c f. locking_goes (with_note i (Saw found) u) i sought found k at.0 at.1 goes)
  locks_goes u i sought (Some from) k at goes = (
    (at.1, at.2),
    λ found c f. both_ways p q (eqb found from) (locked_by i found c u) (with_note i (Saw found) u) (k (Has (packed (posted_word (parts from) 0)))) (locking i sought found k)
        (λ hit. let same : found ≡ from = eqb-true found from hit in goes (Has (packed (posted_word (parts from) 0))) (locked_by i found c u)
        (subst (λ w. IsLocked i 0 (packed (posted_word (parts from) 0)) (locked_by i w c u)) (sym same) (got_lock i from 0 c u at.0 at.2 (subst IsIdWord same f))))
        (λ _. locking_goes (with_note i (Saw found) u) i sought found k at.0 at.1 goes),
  )

  -- ## Deciding

  -- the call of a lock is taken out of its home, and decided on
  pub decide_goes : (u : IdView) (id word e : ℕ) (k : Deciding → Program) → id_slot id < q.slots → IsLocked (id_slot id) 0 word u → ((exit : Deciding) (v : IdView) → IsFree v → Goes v (k exit)) → Goes u (decide id word e k)
  decide_goes u id word e k inside l goes = let t : Token Asked = Locked l.f l.rg l.att l.c l.o l.s (Full l.c) in let has = has_one (id_slot id) t u l.tokens in (
    (inside, (t, l.c, has, refl)),
    λ asked c f. let same : l.c ≡ asked = f.1 l.f l.rg l.att l.o l.s l.c has in
        subst (λ ts. Goes (by_token ts (λ t. with_token (id_slot id) (with_hand t Empty) u) u) (Round (Decides id asked word e) k)) (sym has)
        ((inside, record { f = l.f; rg = l.rg; att = l.att; o = l.o; s = l.s; tokens = other_one (id_slot id) t u l.tokens (Locked l.f l.rg l.att l.c l.o l.s Empty) ∙ ap (λ a. one (id_slot id) (Locked l.f l.rg l.att a l.o l.s Empty)) same; word_is = l.word_is; room = (let r = l.room in omega (arith, r)) }, f.0), goes),
  )

  -- the range in hand ends
  pub end_goes : (u : IdView) (i : ℕ) (f rg att o s : ℕ) (c : Asked) (next : Program) → i < q.slots → u.tokens ≡ one i (Locked f rg att c o s Empty) → ((v : IdView) → IsFree v → Goes v next) → Goes u (end_id i next)
  end_goes u i f rg att o s c next inside is goes = let t : Token Asked = Locked f rg att c o s Empty in let has = has_one i t u is in (
    (inside, (f, rg, att, o, s, c, has)),
    λ found d _. subst (λ ts. Goes (by_token ts (ended_by i found u) u) (cond (leb ((parts found).first + (parts found).range) LAST) (Aside (FreeId i) (λ _. next)) next)) (sym has)
        (ended (leb ((parts found).first + (parts found).range) LAST)),
  )
    where
      ended : (b : Bool) → Goes (with_note i (Ended f att) (cond b (with_token i Leaving u) (no_token i u))) (cond b (Aside (FreeId i) (λ _. next)) next)
      ended true = let w : IdView = with_token i Leaving u in let now : w.tokens ≡ one i Leaving = other_one i (Locked f rg att c o s Empty) u is Leaving in
          ((inside, ap (tokens_of i) now ∙ tokens_one i Leaving), λ found d _. goes (no_token i (with_note i (Ended f att) w)) (ap (without i) now ∙ without_one i Leaving))
      ended false = goes (with_note i (Ended f att) (no_token i u)) (none_left i (Locked f rg att c o s Empty) u is)

  unlocked_goes : (r : Retry) (k : Deciding → Program) → FitsRetryId q r → ((exit : Deciding) (v : IdView) → IsFree v → Goes v (k exit)) → (exit : Unlocking) (v : IdView) → LeavesUnlock (id_slot r.id) exit v → Goes v (unlocked r k exit)
  unlocked_goes r k fits goes (IsOpen w) v free = (fits, goes GoesOn v free)
  unlocked_goes r k fits goes (HasNext w e) v l = (fits, decide_goes v r.id w e k fits.0 l goes)

  decides_goes : (u : IdView) (id : ℕ) (asked : Asked) (word e : ℕ) (k : Deciding → Program) → AtHead p q u (Decides id asked word e) → ((exit : Deciding) (v : IdView) → IsFree v → Goes v (k exit)) → Goes u (round (Decides id asked word e) k)
  decides_goes u id asked word e k at goes = let l = at.1 in let i : ℕ = id_slot id in let t : Token Asked = Locked l.f l.rg l.att asked l.o l.s Empty in let has = has_one (id_slot id) t u l.tokens in
      way p q u (ends_call (parts word) e) (end_id (id_slot id) (k (HasEnded asked.operation (code_of e))))
      (Aside (PutCall (id_slot id) asked) (λ _. Round (Unlocks (id_slot id) word true) (unlocked (record { id = id; attempt = (parts word).attempt + 1 }) k)))
      (λ _. end_goes u (id_slot id) l.f l.rg l.att l.o l.s asked (k (HasEnded asked.operation (code_of e))) at.0 l.tokens (λ v free. goes (HasEnded asked.operation (code_of e)) v free))
      (λ no. let left = not_equal ((parts word).attempt + 2) (parts word).range (or_right (is_final (code_of e)) ((parts word).attempt + 2 == (parts word).range) (or_right (attempt_of e == 7) (is_final (code_of e) || ((parts word).attempt + 2 == (parts word).range)) no)) in (
        (at.0, inr (l.f, l.rg, l.att, l.o, l.s, has), at.2),
        λ found c _. subst (λ ts. Goes (by_token ts (λ t. with_token (id_slot id) (with_hand t (Full asked)) u) u) (Round (Unlocks (id_slot id) word true) (unlocked (record { id = id; attempt = (parts word).attempt + 1 }) k))) (sym has)
            ((at.0, record { f = l.f; rg = l.rg; att = l.att; o = l.o; s = l.s; c = asked; tokens = other_one (id_slot id) t u l.tokens (Locked l.f l.rg l.att asked l.o l.s (Full asked)); word_is = l.word_is; room = (let r = l.room in let g = l.word_is.range_is in let h = l.word_is.attempt_is in omega (arith, r, g, h, left)) }), unlocked_goes (record { id = id; attempt = (parts word).attempt + 1 }) k (at.0, (let r = l.room in let g = l.word_is.range_is in let h = l.word_is.attempt_is in omega (arith, r, g, h, left))) goes),
      ))

  -- what follows a post goes on
  pub posted_goes : (id e : ℕ) (next : Program) → id_slot id < q.slots → ((v : IdView) → IsFree v → Goes v next) → (exit : Posting) (v : IdView) → LeavesPost (id_slot id) exit v → Goes v (posted id e next exit)
  posted_goes id e next inside goes (HasLocked w) v l = decide_goes v id w e (decided id next) inside l (decided_goes id next goes)
    where
      decided_goes : (id : ℕ) (next : Program) → ((v : IdView) → IsFree v → Goes v next) → (exit : Deciding) (v : IdView) → IsFree v → Goes v (decided id next exit)
      decided_goes id next goes (HasEnded o code) v free = goes v free
      decided_goes id next goes GoesOn v free = goes v free
  posted_goes id e next inside goes _ v free = goes v free

  pub post_with_goes : (u : IdView) (id e : ℕ) (k : Posting → Program) → IsFree u → id_slot id < q.slots → IsError e → ((exit : Posting) (v : IdView) → LeavesPost (id_slot id) exit v → Goes v (k exit)) → Goes u (post_with id e k)
  post_with_goes u id e k free inside error goes = (inside, λ found c f. judged_goes (with_note (id_slot id) (Saw found) u) id e found k free inside error f goes)

  pub post_goes : (u : IdView) (id code attempt : ℕ) (next : Program) → IsFree u → id_slot id < q.slots → 0 < code → code < 4096 → attempt < 8 → ((v : IdView) → IsFree v → Goes v next) → Goes u (post id code attempt next)
  post_goes u id code attempt next free inside some_ small one_of goes = let e : ℕ = code * 8 + attempt in
      post_with_goes u id e (posted id e next) free inside ((λ z. omega (arith, z, some_)), omega (arith, small, one_of)) (posted_goes id e next inside goes)

  -- ## Giving a lock back

  module _ (u : IdView) (i from : ℕ) (advance : Bool) (k : Unlocking → Program) (inside : i < q.slots) (l : IsLocked i (bit advance) from u) (goes : (exit : Unlocking) (v : IdView) → LeavesUnlock i exit v → Goes v (k exit)) where
    abbrev more : ℕ
    more = bit advance

    abbrev after : ℕ
    after = packed (unlocked_word (parts from) (bit advance))

    abbrev t : Token Asked
    t = Locked l.f l.rg l.att l.c l.o l.s (Full l.c)

    has : HasOne i (Locked l.f l.rg l.att l.c l.o l.s (Full l.c)) u
    has = has_one i (Locked l.f l.rg l.att l.c l.o l.s (Full l.c)) u l.tokens

    state_fits : (b : Bool) → cond b 1 2 < 4
    state_fits true = omega arith
    state_fits false = omega arith

    word_after : parts (packed (unlocked_word (parts from) (bit advance))) ≡ unlocked_word (parts from) (bit advance)
    word_after = parts_packed (unlocked_word (parts from) (bit advance)) (state_fits (eqb (parts from).oldest 0)) (omega arith) (omega arith) (let r = l.room in let g = l.word_is.range_is in let h = l.word_is.attempt_is in omega (arith, r, g, h)) (omega arith) (omega arith)

    -- an error was taken out
    popped_lock : (parts from).oldest ≢ 0 → (v : IdView) → v.tokens ≡ one i (Locked l.f l.rg ((parts from).attempt + bit advance) l.c (parts from).second 0 (Full l.c)) → IsLocked i 0 (packed (unlocked_word (parts from) (bit advance))) v
    popped_lock some_ v is = record {
      f = l.f;
      rg = l.rg;
      att = (parts from).attempt + bit advance;
      o = (parts from).second;
      s = 0;
      c = l.c;
      tokens = is;
      word_is = subst (Longer l.f l.rg ((parts from).attempt + bit advance) (parts from).second 0) (sym word_after)
          record { first_is = l.word_is.first_is; state_is = ap (λ b. cond b 1 2) (ne_eqb (parts from).oldest 0 some_); range_is = l.word_is.range_is; attempt_is = refl; begins = ((λ n. refl), (λ n. absurd (n refl)), (λ z. refl)) };
      room = (let r = l.room in let h = l.word_is.attempt_is in omega (arith, r, h));
    }

    -- the exchange found the word that was expected
    won : (v : IdView) (b : Bool) → eqb (parts from).oldest 0 ≡ b → v.tokens ≡ (cond b (no_token i u) (with_token i (Locked l.f l.rg ((parts from).attempt + bit advance) l.c (parts from).second 0 (Full l.c)) u)).tokens
        → Goes v (cond b (k (IsOpen (packed (unlocked_word (parts from) (bit advance))))) (cond (is_stale (parts from).oldest (parts (packed (unlocked_word (parts from) (bit advance))))) (Round (Unlocks i (packed (unlocked_word (parts from) (bit advance))) false) k) (k (HasNext (packed (unlocked_word (parts from) (bit advance))) (parts from).oldest))))
    won v true is same = goes (IsOpen (packed (unlocked_word (parts from) (bit advance)))) v (same ∙ none_left i (Locked l.f l.rg l.att l.c l.o l.s (Full l.c)) u l.tokens)
    won v false is same = let lock = popped_lock (not_equal (parts from).oldest 0 is) v (same ∙ other_one i (Locked l.f l.rg l.att l.c l.o l.s (Full l.c)) u l.tokens (Locked l.f l.rg ((parts from).attempt + bit advance) l.c (parts from).second 0 (Full l.c))) in
        way p q v (is_stale (parts from).oldest (parts (packed (unlocked_word (parts from) (bit advance))))) (Round (Unlocks i (packed (unlocked_word (parts from) (bit advance))) false) k) (k (HasNext (packed (unlocked_word (parts from) (bit advance))) (parts from).oldest))
        (λ _. ((inside, lock), goes)) (λ _. goes (HasNext (packed (unlocked_word (parts from) (bit advance))) (parts from).oldest) v lock)

    -- it found another one, with more errors
    lost : (found : ℕ) → Longer l.f l.rg l.att (parts found).oldest (parts found).second (parts found) → Goes (with_token i (Locked l.f l.rg l.att l.c (parts found).oldest (parts found).second (Full l.c)) u) (Round (Unlocks i found advance) k)
    lost found longer = ((inside, record { f = l.f; rg = l.rg; att = l.att; o = (parts found).oldest; s = (parts found).second; c = l.c; tokens = other_one i (Locked l.f l.rg l.att l.c l.o l.s (Full l.c)) u l.tokens (Locked l.f l.rg l.att l.c (parts found).oldest (parts found).second (Full l.c)); word_is = longer; room = l.room }), goes)

    unlocks_goes : Goes u (round (Unlocks i from advance) k)
    unlocks_goes = (
      (inside, (l.f, l.rg, l.att, l.o, l.s, l.c, has, l.word_is, l.room)),
      λ found c f. subst (λ ts. Goes (by_token ts (unlocked_by i from (bit advance) found u) u)
          (cond (eqb found from) (popped i (parts from).oldest (packed (unlocked_word (parts from) (bit advance))) k) (Round (Unlocks i found advance) k))) (sym has)
          (both_ways p q (eqb found from) (advanced_view i l.f (parts from).attempt ((parts from).attempt + bit advance) (popped_view i l.f l.rg ((parts from).attempt + bit advance) l.c (parts found).oldest (parts found).second u))
          (with_token i (Locked l.f l.rg l.att l.c (parts found).oldest (parts found).second (Full l.c)) u) (popped i (parts from).oldest (packed (unlocked_word (parts from) (bit advance))) k) (Round (Unlocks i found advance) k)
          (λ hit. let same : found ≡ from = eqb-true found from hit in subst (λ n. Goes (advanced_view i l.f (parts from).attempt ((parts from).attempt + bit advance) (popped_view i l.f l.rg ((parts from).attempt + bit advance) l.c (parts n).oldest (parts n).second u)) (popped i (parts from).oldest (packed (unlocked_word (parts from) (bit advance))) k)) (sym same)
          (won (advanced_view i l.f (parts from).attempt ((parts from).attempt + bit advance) (popped_view i l.f l.rg ((parts from).attempt + bit advance) l.c (parts from).oldest (parts from).second u)) (eqb (parts from).oldest 0) refl
          (let x : IdView = popped_view i l.f l.rg ((parts from).attempt + bit advance) l.c (parts from).oldest (parts from).second u in cond_tokens (eqb (parts from).attempt ((parts from).attempt + bit advance)) x (with_note i (Attempt l.f ((parts from).attempt + bit advance)) x) refl)))
          (λ _. lost found (f l.f l.rg l.att l.o l.s l.c has))),
    )

  -- ## Waiting and reading

  joins_goes : (u : IdView) (id : ℕ) (k : ℕ → Program) → AtHead p q u (Joins id) → ((exit : ℕ) (v : IdView) → IsFree v → Goes v (k exit)) → Goes u (round (Joins id) k)
  joins_goes u id k at goes = (at.1, λ found c f. way p q (with_note (id_slot id) (Saw found) u) (is_first (id_first id) (parts found)) (Round (Joins id) k) (k found) (λ _. (at, goes)) (λ _. goes found (with_note (id_slot id) (Saw found) u) at.0))

  opens_goes : (u : IdView) (o : ℕ) (k : ℕ → Program) → IsFree u → ((exit : ℕ) (v : IdView) → IsFree v → Goes v (k exit)) → Goes u (round (Opens o) k)
  opens_goes u o k free goes = λ word _. way p q u (eqb word 0) (Round (Opens o) k) (k word) (λ _. (free, goes)) (λ _. goes word u free)

  -- the call of a lock ends with a response
  pub answer_goes : (u : IdView) (frame : Frame) (first word : ℕ) (next : Program) → slot_in frame < q.slots → IsLocked (slot_in frame) 0 word u → ((v : IdView) → IsFree v → Goes v next) → Goes u (answer frame first next)
  answer_goes u frame first word next inside l goes = let t : Token Asked = Locked l.f l.rg l.att l.c l.o l.s (Full l.c) in let has = has_one (slot_in frame) t u l.tokens in (
    (inside, (t, l.c, has, refl)),
    λ asked c f. subst (λ ts. Goes (by_token ts (λ t. with_token (slot_in frame) (with_hand t Empty) u) u) (end_id (slot_in frame) (Say asked.operation (ending_of (call_id (slot_in frame) first) frame) next))) (sym has)
        (end_goes (with_token (slot_in frame) (Locked l.f l.rg l.att l.c l.o l.s Empty) u) (slot_in frame) l.f l.rg l.att l.o l.s l.c (Say asked.operation (ending_of (call_id (slot_in frame) first) frame) next) inside
        (other_one (slot_in frame) t u l.tokens (Locked l.f l.rg l.att l.c l.o l.s Empty)) goes),
  )

  answered_goes : (frame : Frame) (kept : List Frame) (k : List Frame → Program) → slot_in frame < q.slots → ((kept' : List Frame) (v : IdView) → IsFree v → Goes v (k kept')) → (exit : Locking) (v : IdView) → LeavesLock (slot_in frame) exit v → Goes v (answered frame kept k exit)
  answered_goes frame kept k inside goes (NotThere found) v free = goes (cond (is_early (version_in frame) (parts found)) (kept ++ frame ∷ []) kept) v free
  answered_goes frame kept k inside goes (Has word) v l = answer_goes v frame (parts word).first word (k kept) inside l (goes kept)

  responses_goes : (ids : ℕ) → ids ≡ q.slots → (u : IdView) (fs kept : List Frame) (k : List Frame → Program) → IsFree u → ((kept' : List Frame) (v : IdView) → IsFree v → Goes v (k kept')) → Goes u (responses ids fs kept k)
  responses_goes ids all u [] kept k free goes = goes kept u free
  responses_goes ids all u (f ∷ fs) kept k free goes = way p q u (has_response f.meta.response && nat_lt (slot_in f) ids)
      (Round (Locks (slot_in f) (Version (version_in f)) None) (answered f kept (λ kept'. responses ids fs kept' k))) (responses ids fs kept k)
      (λ here. let low = Rattle.std.proofs.Common.ltb-true (slot_in f) ids (and_right (has_response f.meta.response) (nat_lt (slot_in f) ids) here) in let inside : slot_in f < q.slots = subst (λ n. slot_in f < n) all low in
      ((free, inside, tt), answered_goes f kept (λ kept'. responses ids fs kept' k) inside (λ kept' v free'. responses_goes ids all v fs kept' k free' goes)))
      (λ _. responses_goes ids all u fs kept k free goes)

  read_goes : (u : IdView) (r : Reading) (bytes : List ℕ) (s : streams.Ending) (k : Over → Program) → IsFree u → r.ids ≡ q.slots → ((exit : Over) (v : IdView) → EndsReading exit v → Goes v (k exit)) → Goes u (read_on r bytes s k)
  read_goes u r bytes (streams.Rest n) k free all goes = let r' : Reading = record r { rest = last_of n bytes } in
      way p q u (nat_lt r.total LIMIT) (Round (Reads r') k) (k (how_ended 1014 false false r')) (λ _. ((free, all), goes)) (λ _. goes (how_ended 1014 false false r') u (free, (omega arith, omega arith)))
  read_goes u r bytes (streams.Fault at fault) k free all goes = goes (how_ended 2002 false true r) u (free, (omega arith, omega arith))

  took_goes : (u : IdView) (r : Reading) (k : Over → Program) → IsFree u → r.ids ≡ q.slots → ((exit : Over) (v : IdView) → EndsReading exit v → Goes v (k exit)) → (t : Taking) → Goes u (took r k t)
  took_goes u r k free all goes (Bytes bytes) = let s = streams.stream (r.rest ++ bytes) in let r' : List Frame → Reading = λ kept. record { ids = r.ids; link = r.link; id = r.id; rest = r.rest; total = r.total + length bytes; kept = kept } in
      responses_goes r.ids all u s.frames r.kept (λ kept. read_on (r' kept) (r.rest ++ bytes) s.ending k) free (λ kept v free'. read_goes v (r' kept) (r.rest ++ bytes) s.ending k free' all goes)
  took_goes u r k free all goes Nothing = ((free, all), goes)
  took_goes u r k free all goes Closed = goes (how_ended 1014 true false r) u (free, (omega arith, omega arith))
  took_goes u r k free all goes _ = goes (how_ended 1014 false false r) u (free, (omega arith, omega arith))

  discarded_goes : (u : IdView) (l total : ℕ) (k : ℕ → Program) → IsFree u → ((exit : ℕ) (v : IdView) → IsFree v → Goes v (k exit)) → (t : Taking) → Goes u (discarded l total k t)
  discarded_goes u l total k free goes (Bytes bytes) = way p q u (nat_lt (total + length bytes) LIMIT) (Round (Discards l (total + length bytes)) k) (k (total + length bytes)) (λ _. (free, goes)) (λ _. goes (total + length bytes) u free)
  discarded_goes u l total k free goes Nothing = (free, goes)
  discarded_goes u l total k free goes _ = goes total u free

  -- one round of each loop
  pub ids_round : (u : IdView) (head : Head) (k : Exit head → Program) → Goes u (Round head k) → Goes u (round head k)
  ids_round u (Posts id e from) k g = posts_goes u id e from k g.0 g.1
  ids_round u (Unlocks i from advance) k g = unlocks_goes u i from advance k g.0.0 g.0.1 g.1
  ids_round u (Decides id asked word e) k g = decides_goes u id asked word e k g.0 g.1
  ids_round u (Locks i sought from) k g = locks_goes u i sought from k g.0 g.1
  ids_round u (Joins id) k g = joins_goes u id k g.0 g.1
  ids_round u (Opens o) k g = opens_goes u o k g.0 g.1
  ids_round u (Reads r) k g = (tt, λ t c f. took_goes u r k g.0.0 g.0.1 g.1 t)
  ids_round u (Discards l total) k g = (tt, λ t c f. discarded_goes u l total k g.0 g.1 t)
