-- What stands aside of the sockets passes: whatever its steps find that is as the rule of the ids says, the view allows what follows.
use Rattle.std.proofs.Common.{◌≡◌, ◌≢◌, ℕ, zero, suc, ◌+◌, ◌-◌, ◌<◌, ◌≤◌, ◌==◌, ◌&&◌, ◌||◌, not, Bool, true, false, List, [], ◌∷◌, ◌++◌, length, refl, sym, subst, arith, cond, eqb, eqb-true, eq-eqb, nat_lt, Some, None}
use Rattle.std.proofs.lemmas.Bool.{not-false, eqb-false, and_parts, or_parts}
use Rattle.sock_words.specs.declared.plain.Plan.{Plan}
use Rattle.sock_words.specs.ErrorCodes.{is_final}
use Rattle.sock_model.specs.declared.chain.Heading.{Heading}
use Rattle.sock_model.specs.declared.view.View.{View}
use Rattle.seat_programs.specs.corr_core.specs.IdSlotWord.{Parts, parts, posted_word, locked_word, unlocked_word, code_of, error_of}
use Rattle.seat_programs.specs.corr_core.specs.IdRangeVersions.{is_early}
use Rattle.seat_programs.specs.corr_core.specs.EndedByRangeOrAttempt.{ends_call}
use Rattle.seat_programs.specs.brpc_model.specs.Frame.{Frame}
use Rattle.seat_programs.specs.brpc_model.specs.FrameStream as streams
use Rattle.seat_programs.specs.brpc_model.specs.ResponseOutcome.{ending_of}
use Rattle.seat_programs.specs.Asides.{Taking, Bytes, Nothing, Closed, FreeId}
use Rattle.seat_programs.specs.LoopHeads.{Head, Exit, Retry, Sought, Version, Reading, Posts, Unlocks, Decides, Locks, Joins, Opens, Reads, Discards, Posting, WasGone, WasStale, WasCrowded, WasQueued, HasLocked, Unlocking, IsOpen, HasNext, Deciding, HasEnded, GoesOn as OpenAgain, Locking, NotThere, Has, Ended}
use Rattle.seat_programs.specs.Programs.{Program, Say, Aside, Round}
use Rattle.seat_programs.specs.PostPrograms.{packed, is_first, is_sought, is_stale, is_full, judged, post_with, post, posted, popped, end_id, decide, decided, unlocked, locking}
use Rattle.seat_programs.specs.ReaderProgram.{answer, answered, responses, read_on, took, last_of, slot_in, version_in, has_response, LIMIT}
use Rattle.seat_programs.specs.LoopRounds.{round}
use Rattle.seat_programs.specs.SendAndWritePrograms.{tell_drop}
use Rattle.seat_programs.specs.StepsOfNames.{found_id}
use Rattle.seat_programs.specs.StepsOfNames.{FindsId}
use Rattle.program_steps.specs.IdWordFits.{FitsMore, FitsWord, FitsTaken, FitsPosting, FitsUnlocking, FitsLocking, FitsEnded, FitsRetry}
use Rattle.program_steps.specs.ProgramGoesOn.{GoesOn}
use Rattle.sock_words.specs.PackedWords.{id_slot, id_first, bit}

-- ## Words

pub packed_attempt : (w : Parts) → w.range ≤ 8 → w.attempt < 8 → w.oldest < 32768 → w.second < 32768 → ((parts (packed w)).attempt ≡ w.attempt)
packed_attempt w r a o s = omega arith

pub packed_range : (w : Parts) → 1 ≤ w.range → w.range ≤ 8 → w.attempt < 8 → w.oldest < 32768 → w.second < 32768 → ((parts (packed w)).range ≡ w.range)
packed_range w r1 r a o s = omega arith

fits_packed : (w : Parts) → w.attempt + 2 ≤ w.range → w.range ≤ 8 → w.oldest < 32768 → w.second < 32768 → FitsWord (packed w)
fits_packed w f r o s = omega (arith, f, packed_attempt w r (omega (arith, f, r)) o s, packed_range w (omega (arith, f)) r (omega (arith, f, r)) o s)

locked_fits : (from : ℕ) → FitsWord from → FitsWord (packed (locked_word (parts from)))
locked_fits from f = fits_packed (locked_word (parts from)) (omega (arith, f)) (omega arith) (omega arith) (omega arith)

pub posted_fits : (from e : ℕ) → (parts from).state ≡ 1 → FitsWord from → FitsWord (packed (posted_word (parts from) e))
posted_fits from e one f = subst (λ b. FitsWord (packed (cond b (locked_word (parts from)) record { first = (parts from).first; state = 2; range = (parts from).range; attempt = (parts from).attempt; oldest = cond (eqb (parts from).oldest 0) e (parts from).oldest; second = cond (eqb (parts from).oldest 0) 0 e })))
    (sym (eq-eqb (parts from).state 1 one)) (locked_fits from f)

small_cond : (b : Bool) (n : ℕ) → n < 32768 → cond b 0 n < 32768
small_cond true n s = omega arith
small_cond false n s = s

none_cond : (b : Bool) → cond b 0 0 < 32768
none_cond true = omega arith
none_cond false = omega arith

pub got_fits : (from : ℕ) → FitsWord from → FitsWord (packed (posted_word (parts from) 0))
got_fits from f = by_state (eqb (parts from).state 1)
  where
    by_state : (b : Bool) → FitsWord (packed (cond b (locked_word (parts from)) record { first = (parts from).first; state = 2; range = (parts from).range; attempt = (parts from).attempt; oldest = cond (eqb (parts from).oldest 0) 0 (parts from).oldest; second = cond (eqb (parts from).oldest 0) 0 0 }))
    by_state true = locked_fits from f
    by_state false = fits_packed record { first = (parts from).first; state = 2; range = (parts from).range; attempt = (parts from).attempt; oldest = cond (eqb (parts from).oldest 0) 0 (parts from).oldest; second = cond (eqb (parts from).oldest 0) 0 0 }
        (omega (arith, f)) (omega arith) (small_cond (eqb (parts from).oldest 0) (parts from).oldest (omega arith)) (none_cond (eqb (parts from).oldest 0))

pub unlocked_fits : (from more : ℕ) → FitsMore more from → FitsWord (packed (unlocked_word (parts from) more))
unlocked_fits from more f = fits_packed (unlocked_word (parts from) more) (omega (arith, f)) (omega arith) (omega arith) (omega arith)

-- ## Ways

pub way : (p : Plan) (v : View) (b : Bool) (x y : Program) → (b ≡ true → GoesOn p v x) → (b ≡ false → GoesOn p v y) → GoesOn p v (cond b x y)
way p v true x y f g = f refl
way p v false x y f g = g refl

not_zero : (n : ℕ) → not (eqb n 0) ≡ true → 0 < n
not_zero zero e = let z : false ≡ true = e in cc
not_zero (suc n) e = omega arith

first_taken : (first : ℕ) (w : Parts) → is_first first w ≡ true → 0 < w.state
first_taken first w e = not_zero w.state (and_parts (eqb w.first first) (not (eqb w.state 0)) e).1

-- ## Loops

module _ (p : Plan) (v : View) where
  abbrev pub Goes : {A : Type 0} → (A → Type 0) → (A → Program) → Type 0
  Goes {A} Fits k = (exit : A) → Fits exit → GoesOn p v (k exit)

  judged_goes : (id e found : ℕ) (k : Posting → Program) → FitsTaken found → Goes FitsPosting k → GoesOn p v (judged id e found k)
  judged_goes id e found k f goes =
      let two : Program = cond (is_full (parts found)) (k (WasCrowded (code_of (parts found).oldest) (code_of (parts found).second))) (Round (Posts id e found) k) in
      let one : Program = cond (is_stale e (parts found)) (k WasStale) two in
      way p v (not (is_first (id_first id) (parts found))) (k WasGone) one (λ _. goes WasGone tt)
      (λ here. way p v (is_stale e (parts found)) (k WasStale) two (λ _. goes WasStale tt)
      (λ _. way p v (is_full (parts found)) (k (WasCrowded (code_of (parts found).oldest) (code_of (parts found).second))) (Round (Posts id e found) k) (λ _. goes (WasCrowded (code_of (parts found).oldest) (code_of (parts found).second)) tt)
      (λ _. ((f (first_taken (id_first id) (parts found) (not-false (is_first (id_first id) (parts found)) here)), tt), goes))))

  end_goes : (i : ℕ) (next : Program) → GoesOn p v next → GoesOn p v (end_id i next)
  end_goes i next goes = λ found _. way p v (Rattle.std.proofs.Common.leb ((parts found).first + (parts found).range) Rattle.seat_programs.specs.corr_core.specs.IdSlotLaw.LAST) (Aside (FreeId i) (λ _. next)) next (λ _. λ _ _. goes) (λ _. goes)

  -- the call is taken out of its home, and decided on
  pub decide_goes : (id word e : ℕ) (k : Deciding → Program) → FitsWord word → ((exit : Deciding) → GoesOn p v (k exit)) → GoesOn p v (decide id word e k)
  decide_goes id word e k f goes = λ asked fits. (((fits, f), tt), λ exit _. goes exit)

  pub decided_goes : (id : ℕ) (next : Program) → GoesOn p v next → (exit : Deciding) → GoesOn p v (decided id next exit)
  decided_goes id next goes (HasEnded o code) = goes
  decided_goes id next goes OpenAgain = goes

  pub posted_goes : (id e : ℕ) (next : Program) → GoesOn p v next → Goes FitsPosting (posted id e next)
  posted_goes id e next goes (HasLocked word) f = decide_goes id word e (decided id next) f (decided_goes id next goes)
  posted_goes id e next goes _ f = goes

  pub post_with_goes : (id e : ℕ) (k : Posting → Program) → Goes FitsPosting k → GoesOn p v (post_with id e k)
  post_with_goes id e k goes = λ found fits. judged_goes id e found k fits goes

  -- an error of a call is posted, and what follows goes on
  pub post_goes : (id code attempt : ℕ) (next : Program) → GoesOn p v next → GoesOn p v (post id code attempt next)
  post_goes id code attempt next goes = let e : ℕ = error_of code attempt in λ found fits. judged_goes id e found (posted id e next) fits (posted_goes id e next goes)

  pub tell_goes : (heading : Heading) (code : ℕ) (next : Program) → GoesOn p v next → GoesOn p v (tell_drop heading code next)
  tell_goes heading code next goes = let c : ℕ = cond (eqb code 0) 1009 code in way p v (eqb heading.owner 0) next (post heading.owner c heading.label.attempt next) (λ _. goes) (λ _. post_goes heading.owner c heading.label.attempt next goes)

  popped_goes : (i oldest after : ℕ) (k : Unlocking → Program) → FitsWord after → Goes FitsUnlocking k → GoesOn p v (popped i oldest after k)
  popped_goes i oldest after k f goes = let two : Program = cond (is_stale oldest (parts after)) (Round (Unlocks i after false) k) (k (HasNext after oldest)) in
      way p v (eqb oldest 0) (k (IsOpen after)) two (λ _. goes (IsOpen after) tt)
      (λ _. way p v (is_stale oldest (parts after)) (Round (Unlocks i after false) k) (k (HasNext after oldest)) (λ _. ((f, tt), goes)) (λ _. goes (HasNext after oldest) f))

  locking_goes : v.loose ≡ [] → (i : ℕ) (sought : Sought) (found : ℕ) (k : Locking → Program) → FitsTaken found → Goes FitsLocking k → GoesOn p v (locking i sought found k)
  locking_goes loose i sought found k f goes = let two : Program = cond (eqb (parts found).state 1) (Round (Locks i sought (Some found)) k) (Round (Locks i sought None) k) in
      way p v (not (is_sought sought (parts found))) (k (NotThere found)) two (λ _. goes (NotThere found) tt)
      (λ _. way p v (eqb (parts found).state 1) (Round (Locks i sought (Some found)) k) (Round (Locks i sought None) k)
      (λ e. let one = eqb-true (parts found).state 1 e in ((f (omega arith), loose), goes)) (λ _. ((tt, loose), goes)))

  unlocked_goes : (r : Retry) (k : Deciding → Program) → FitsRetry r → ((exit : Deciding) → GoesOn p v (k exit)) → Goes FitsUnlocking (unlocked r k)
  unlocked_goes r k few goes (IsOpen word) f = (few, goes OpenAgain)
  unlocked_goes r k few goes (HasNext word e) f = (few, decide_goes r.id word e k f goes)

  pub answer_goes : (frame : Frame) (first : ℕ) (next : Program) → GoesOn p v next → GoesOn p v (answer frame first next)
  answer_goes frame first next goes = λ asked _. end_goes (slot_in frame) (Say asked.operation (ending_of (Rattle.sock_words.specs.PackedWords.call_id (slot_in frame) first) frame) next) goes

  answered_goes : (frame : Frame) (kept : List Frame) (k : List Frame → Program) → ((kept' : List Frame) → GoesOn p v (k kept')) → Goes FitsLocking (answered frame kept k)
  answered_goes frame kept k goes (NotThere found) f = goes (cond (is_early (version_in frame) (parts found)) (kept ++ frame ∷ []) kept)
  answered_goes frame kept k goes (Has word) f = answer_goes frame (parts word).first (k kept) (goes kept)

  responses_goes : v.loose ≡ [] → (ids : ℕ) (fs kept : List Frame) (k : List Frame → Program) → ((kept' : List Frame) → GoesOn p v (k kept')) → GoesOn p v (responses ids fs kept k)
  responses_goes loose ids [] kept k goes = goes kept
  responses_goes loose ids (f ∷ fs) kept k goes = way p v (has_response f.meta.response && nat_lt (slot_in f) ids)
      (Round (Locks (slot_in f) (Version (version_in f)) None) (answered f kept (λ kept'. responses ids fs kept' k))) (responses ids fs kept k)
      (λ _. ((tt, loose), answered_goes f kept (λ kept'. responses ids fs kept' k) (λ kept'. responses_goes loose ids fs kept' k goes))) (λ _. responses_goes loose ids fs kept k goes)

  read_goes : v.loose ≡ [] → (r : Reading) (bytes : List ℕ) (s : streams.Ending) (k : Ended → Program) → ((exit : Ended) → FitsEnded r.id exit → GoesOn p v (k exit)) → GoesOn p v (read_on r bytes s k)
  read_goes loose r bytes (streams.Rest n) k goes = let r' : Reading = record r { rest = last_of n bytes } in
      way p v (nat_lt r.total LIMIT) (Round (Reads r') k) (k (Rattle.seat_programs.specs.ReaderProgram.ended_by 1014 false false r')) (λ _. ((tt, loose), goes)) (λ _. goes (Rattle.seat_programs.specs.ReaderProgram.ended_by 1014 false false r') (refl, λ z. absurd (omega (arith, z))))
  read_goes loose r bytes (streams.Fault at fault) k goes = goes (Rattle.seat_programs.specs.ReaderProgram.ended_by 2002 false true r) (refl, λ z. absurd (omega (arith, z)))

  took_goes : v.loose ≡ [] → (r : Reading) (k : Ended → Program) → ((exit : Ended) → FitsEnded r.id exit → GoesOn p v (k exit)) → (t : Taking) → GoesOn p v (took r k t)
  took_goes loose r k goes (Bytes bytes) = let s = streams.stream (r.rest ++ bytes) in
      responses_goes loose r.ids s.frames r.kept (λ kept. read_on (record { ids = r.ids; link = r.link; id = r.id; rest = r.rest; total = r.total + length bytes; kept = kept }) (r.rest ++ bytes) s.ending k)
      (λ kept. read_goes loose (record { ids = r.ids; link = r.link; id = r.id; rest = r.rest; total = r.total + length bytes; kept = kept }) (r.rest ++ bytes) s.ending k goes)
  took_goes loose r k goes Nothing = ((tt, loose), goes)
  took_goes loose r k goes Closed = goes (Rattle.seat_programs.specs.ReaderProgram.ended_by 1014 true false r) (refl, λ z. absurd (omega (arith, z)))
  took_goes loose r k goes _ = goes (Rattle.seat_programs.specs.ReaderProgram.ended_by 1014 false false r) (refl, λ z. absurd (omega (arith, z)))

  discarded_goes : v.loose ≡ [] → (l total : ℕ) (k : ℕ → Program) → ((exit : ℕ) → GoesOn p v (k exit)) → (t : Taking) → GoesOn p v (Rattle.seat_programs.specs.ReaderProgram.discarded l total k t)
  discarded_goes loose l total k goes (Bytes bytes) = way p v (nat_lt (total + length bytes) LIMIT) (Round (Discards l (total + length bytes)) k) (k (total + length bytes)) (λ _. ((tt, loose), λ exit _. goes exit)) (λ _. goes (total + length bytes))
  discarded_goes loose l total k goes Nothing = ((tt, loose), λ exit _. goes exit)
  discarded_goes loose l total k goes _ = goes total

  opens_goes : v.loose ≡ [] → (o word : ℕ) (k : ℕ → Program) → o < p.operations → ((w : ℕ) → w ≢ 0 → FindsId p w → GoesOn p (found_id w v) (k w)) → FindsId p word → (b : Bool) → eqb word 0 ≡ b → GoesOn p (found_id word v) (cond b (Round (Opens o) k) (k word))
  opens_goes loose o word k inside goes f true e = subst (λ w. GoesOn p (found_id w v) (Round (Opens o) k)) (sym (eqb-true word 0 e)) ((inside, loose), goes)
  opens_goes loose o word k inside goes f false e = goes word (eqb-false word 0 e) f

  -- one round of each loop
  pub goes_round : (head : Head) (k : Exit head → Program) → GoesOn p v (Round head k) → GoesOn p v (round head k)
  goes_round (Posts id e from) k g = λ found fits.
      let here : Program = cond (eqb (parts from).state 1) (k (HasLocked (packed (posted_word (parts from) e)))) (k WasQueued) in
      way p v (eqb found from) here (judged id e found k)
      (λ _. way p v (eqb (parts from).state 1) (k (HasLocked (packed (posted_word (parts from) e)))) (k WasQueued)
      (λ s. g.1 (HasLocked (packed (posted_word (parts from) e))) (posted_fits from e (eqb-true (parts from).state 1 s) g.0.0)) (λ _. g.1 WasQueued tt))
      (λ _. judged_goes id e found k fits g.1)
  goes_round (Unlocks i from advance) k g = λ found fits.
      let after : ℕ = packed (unlocked_word (parts from) (bit advance)) in
      way p v (eqb found from) (popped i (parts from).oldest (packed (unlocked_word (parts from) (bit advance))) k) (Round (Unlocks i found advance) k)
      (λ _. popped_goes i (parts from).oldest (packed (unlocked_word (parts from) (bit advance))) k (unlocked_fits from (bit advance) g.0.0) g.1)
      (λ _. ((fits, tt), g.1))
  goes_round (Decides id asked word e) k g =
      way p v (ends_call (parts word) e) (end_id (id_slot id) (k (HasEnded asked.operation (code_of e))))
      (Aside (Rattle.seat_programs.specs.Asides.PutCall (id_slot id) asked) (λ _. Round (Unlocks (id_slot id) word true) (unlocked (record { id = id; attempt = (parts word).attempt + 1 }) k)))
      (λ _. end_goes (id_slot id) (k (HasEnded asked.operation (code_of e))) (g.1 (HasEnded asked.operation (code_of e)) tt))
      (λ no. λ _ _. let left = eqb-false ((parts word).attempt + 2) (parts word).range (or_parts (is_final (code_of e)) ((parts word).attempt + 2 == (parts word).range) (or_parts (Rattle.seat_programs.specs.corr_core.specs.IdSlotWord.attempt_of e == 7) (is_final (code_of e) || ((parts word).attempt + 2 == (parts word).range)) no).1).1 in
      (((let f = g.0.0.1 in omega arith), tt), unlocked_goes (record { id = id; attempt = (parts word).attempt + 1 }) k (let f = g.0.0.1 in omega arith) (λ exit. g.1 exit tt)))
  goes_round (Locks i sought None) k g = λ found fits. locking_goes g.0.1 i sought found k fits g.1
  goes_round (Locks i sought (Some from)) k g = λ found fits.
      way p v (eqb found from) (k (Has (packed (posted_word (parts from) 0)))) (locking i sought found k)
      (λ _. g.1 (Has (packed (posted_word (parts from) 0))) (got_fits from g.0.0))
      (λ _. locking_goes g.0.1 i sought found k fits g.1)
  goes_round (Joins id) k g = λ found fits. way p v (is_first (id_first id) (parts found)) (Round (Joins id) k) (k found) (λ _. ((tt, g.0.1), g.1)) (λ _. g.1 found tt)
  goes_round (Opens o) k g = (g.0.0, λ word hand f. opens_goes g.0.1 o word k g.0.0 g.1 f (eqb word 0) refl)
  goes_round (Reads r) k g = λ t fits. took_goes g.0.1 r k g.1 t
  goes_round (Discards l total) k g = λ t fits. discarded_goes g.0.1 l total k (λ exit. g.1 exit tt) t
