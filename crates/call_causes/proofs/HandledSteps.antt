-- Each step of the reader of a link goes on with what it has handled.
use Rattle.std.proofs.Common.{◌≡◌, ℕ, ◌+◌, ◌-◌, ◌<◌, ◌≤◌, ◌==◌, inl, ◌&&◌, not, Bool, true, false, cond, eqb-true, nat_le, nat_lt, List, [], ◌∷◌, ◌++◌, length, append_assoc, append-nil, Option, None, Some, refl, sym, ap, ◌∙◌, subst}
use Rattle.std.proofs.lemmas.Bool.{true≢false}
use Rattle.sock_words.specs.declared.outcome.Outcome.{Outcome}
use Rattle.sock_words.specs.ErrorCodes.{is_final}
use Rattle.corr_core.specs.IdSlotWord.{parts, posted_word}
use Rattle.corr_core.specs.IdSlotLaw.{LAST}
use Rattle.corr_core.specs.IdRangeVersions.{has_version, is_early}
use Rattle.seat_programs.specs.brpc_model.specs.Frame.{Frame}
use Rattle.seat_programs.specs.brpc_model.specs.FrameStream as streams
use Rattle.seat_programs.specs.brpc_model.specs.LinkFailureCauses.{HasFault}
use Rattle.seat_programs.specs.brpc_model.specs.ResponseOutcome.{ending_of}
use Rattle.seat_programs.specs.Asides.{Step, Found, LoadIdWord, LockId, PostId, EndId, FreeId, TakeBytes, Taking, Bytes, Nothing, NoMore, AtEnd, Closed, Broken}
use Rattle.seat_programs.specs.LoopHeads.{Retry, Version, Reading, Locks, Reads, Locking, NotThere, Has, Ended}
use Rattle.seat_programs.specs.Programs.{Program, Do, Say, Rest, TakeMessage, TakeHome, PutHome, PutBytes, AskReady, Aside, Round}
use Rattle.seat_programs.specs.PostPrograms.{packed, end_id, locking}
use Rattle.seat_programs.specs.ReaderProgram.{LIMIT, slot_in, version_in, has_response, answer, answered, responses, last_of, ended_by, read_on, took, read, reader}
use Rattle.seat_programs.specs.Cores.{resolved, next_step}
use Rattle.story_ticks.specs.call_stories.proofs.StreamFramesStay.{frames_behind_rest, frames_before_fault, faults_follow}
use Rattle.call_causes.proofs.HandledResponses.{Goes, AllFrom, all_on, Sit, word_of, frames_in, IsResp, Bounded, Done, Waits, Later, Over, Frozen, IsAt, Mid, mid_on, at_on, over_on, frozen_on, mid_next, mid_same, mid_over, early_done, done_on, gone_by, bounded_by, gone_behind, bounded_on}
use Rattle.call_causes.proofs.HandledStates.{After, after_read, after_first, after_next, after_map}
use Rattle.seat_programs.specs.LoopRounds.{first_step}
use Rattle.story_ticks.specs.Below.outcome_stories.specs.OperationStories.{In}
use Rattle.sock_words.specs.PackedWords.{call_id, NO_SOCKET}

abbrev pub bytes_in : Taking → List ℕ
bytes_in (Bytes bytes) = bytes
bytes_in other = []

-- what a step finds
abbrev pub Finds : Sit → Sit → (step : Step) → Found step → Type 0
Finds s t (LoadIdWord i) found = parts found ≡ word_of s i
Finds s t (LockId i from) found = parts found ≡ word_of s i
Finds s t (PostId i from e) found = (parts found ≡ word_of s i) × ((word_of s i).first ≤ 67108856)
Finds s t (EndId i) found = (word_of t i).first ≡ (word_of s i).first + (word_of s i).range
Finds s t step found = Unit {0}

module _ (k ids : ℕ) where
  -- behind a take: the rest of the frames waits
  pub record Took (s t : Sit) (tk : Taking) : Type 0 where
    pub words : (i : ℕ) → i < ids → Goes (word_of s i) (word_of t i)
    pub soon : (x : ℕ × ℕ) → In x s.soon → In x t.soon
    pub bytes : t.bytes ≡ s.bytes ++ bytes_in tk
    pub waits : (fs : List Frame) → frames_in t.bytes ≡ frames_in s.bytes ++ fs → AllFrom (Waits k ids t) (length (frames_in s.bytes)) fs

  module _ (St : Sit → Program → Type 0) where
    -- how the seat stands behind a step that leads from one situation to another
    abbrev pub Onward : Sit → Sit → List Retry → Program → Type 0
    Onward s t ws (Do call next) = (found : ℕ) → Later k ids s t → St t (next_step (resolved ws (next found)))
    Onward s t ws (Aside (TakeBytes l room) next) = (tk : Taking) → Took s t tk → St t (next_step (resolved ws (next tk)))
    Onward s t ws (Aside step next) = (found : Found step) → Later k ids s t → Finds s t step found → St t (next_step (resolved ws (next found)))
    Onward s t ws (TakeMessage q next) = ⊥
    Onward s t ws (TakeHome l next) = ⊥
    Onward s t ws (PutHome l n after) = ⊥
    Onward s t ws (PutBytes l asked bytes next) = ⊥
    Onward s t ws (AskReady l next) = ⊥
    Onward s t ws other = Unit {0}

  -- ## Behind the end of a reading

  abbrev pub IsOver : Sit → Program → Type 0
  IsOver s x = (kept : List Frame) × Over k ids s kept × After (Frozen k ids s) kept x

  module _ (s t : Sit) (ws : List Retry) (kept : List Frame) (ov : Over k ids s kept) where
    over_later : Later k ids s t → (x : Program) → After (Frozen k ids s) kept x → IsOver t (next_step (resolved ws x))
    over_later l x a = (kept, over_on k ids s t l kept ov, after_next (Frozen k ids t) kept ws x (after_map (Frozen k ids s) (Frozen k ids t) kept (frozen_on k ids s t l) x a))

    -- bytes that come bring no frames any more
    no_more : Frozen k ids s → (tk : Taking) → Took s t tk → frames_in t.bytes ≡ frames_in s.bytes
    no_more frozen tk l = ap frames_in l.bytes ∙ frozen (bytes_in tk)

    over_took : (frozen : Frozen k ids s) (tk : Taking) (l : Took s t tk) (x : Program) → After (Frozen k ids s) kept x → IsOver t (next_step (resolved ws x))
    over_took frozen tk l x a = (
      kept,
      subst (AllFrom (Done k ids t kept) 0) (sym (no_more frozen tk l)) (all_on (Done k ids s kept) (Done k ids mid kept) (done_on k ids s mid (record { words = l.words; soon = l.soon; bytes = refl }) kept) 0 (frames_in s.bytes) ov),
      after_next (Frozen k ids t) kept ws x (after_map (Frozen k ids s) (Frozen k ids t) kept (λ z more. ap (λ b. frames_in (b ++ more)) l.bytes ∙ (ap frames_in (append_assoc s.bytes (bytes_in tk) more) ∙ (z (bytes_in tk ++ more) ∙ sym (no_more frozen tk l)))) x a),
    )
      where
        mid : Sit
        mid = record { words = t.words; soon = t.soon; bytes = s.bytes }

    -- so it stands where that is enough
    module _ (St : Sit → Program → Type 0) (enough : frames_in t.bytes ≡ frames_in s.bytes → ((x : ℕ × ℕ) → In x s.soon → In x t.soon) → (x : Program) → IsOver t x → St t x) where
      over_aside : (step : Step) (next : Found step → Program) → After (Frozen k ids s) kept (Aside step next) → Onward St s t ws (Aside step next)
      over_aside (TakeBytes l room) next a = λ tk took_. enough (no_more a.0 tk took_) took_.soon (next_step (resolved ws (next tk))) (over_took a.0 tk took_ (next tk) (a.1 tk))
      over_aside step next a = λ found l f. enough (ap frames_in l.bytes) l.soon (next_step (resolved ws (next found))) (over_later l (next found) (a.1 found))

      pub over_onward : (x : Program) → After (Frozen k ids s) kept x → Onward St s t ws x
      over_onward (Do call next) a = λ found l. enough (ap frames_in l.bytes) l.soon (next_step (resolved ws (next found))) (over_later l (next found) (a found))
      over_onward (Aside step next) a = over_aside step next a
      over_onward (TakeMessage q next) a = a
      over_onward (TakeHome l next) a = a
      over_onward (PutHome l n after) a = a
      over_onward (PutBytes l asked bytes next) a = a
      over_onward (AskReady l next) a = a
      over_onward other a = tt

-- the reader of link k, whose `open` is operation o
module _ (k ids : ℕ) (calls : List ℕ) (o : ℕ) (many : length calls ≡ ids) where
  -- ## Where it stands

  -- behind the frames of a piece
  abbrev pub behind : Reading → List ℕ → List Frame → Program
  behind r bytes kept = read_on (record { ids = r.ids; link = r.link; id = r.id; rest = r.rest; total = r.total + length bytes; kept = kept }) (r.rest ++ bytes) (streams.stream (r.rest ++ bytes)).ending (read calls)

  abbrev pub go : Reading → List ℕ → List Frame → List Frame → Program
  go r bytes fs kept = responses r.ids fs kept (behind r bytes)

  -- a word from which an id is to be locked has the version
  abbrev pub Sought' : Frame → Option ℕ → Type 0
  Sought' f None = Unit {0}
  Sought' f (Some from) = has_version (version_in f) (parts from) ≡ true

  pub data State (s : Sit) (x : Program) : Type 0 where
    waiting : x ≡ reader calls k o → s.bytes ≡ [] → State s x
    reading : (r : Reading) → x ≡ Round (Reads r) (read calls) → IsAt k ids s r → State s x
    seeking : (r : Reading) (bytes : List ℕ) (before : List Frame) (f : Frame) (fs kept : List Frame) (w : Option ℕ) → x ≡ Round (Locks (slot_in f) (Version (version_in f)) w) (answered f kept (λ kept'. responses r.ids fs kept' (behind r bytes)))
        → IsResp k ids f → Sought' f w → Mid k ids s r bytes before (f ∷ fs) kept → State s x
    taking : (r : Reading) (bytes : List ℕ) (before : List Frame) (f : Frame) (fs kept : List Frame) (first : ℕ) → x ≡ answer f first (go r bytes fs kept) → IsResp k ids f → Bounded k ids s f → Mid k ids s r bytes before (f ∷ fs) kept → State s x
    ending_ : (r : Reading) (bytes : List ℕ) (before : List Frame) (f : Frame) (fs kept : List Frame) (n : ℕ) (outcome : Outcome) → x ≡ end_id (slot_in f) (Say n outcome (go r bytes fs kept)) → IsResp k ids f → Bounded k ids s f → Mid k ids s r bytes before (f ∷ fs) kept → State s x
    freeing : (r : Reading) (bytes : List ℕ) (before fs kept : List Frame) (i n : ℕ) (outcome : Outcome) → x ≡ Aside (FreeId i) (λ _. Say n outcome (go r bytes fs kept)) → Mid k ids s r bytes before fs kept → State s x
    over : (kept : List Frame) → Over k ids s kept → After (Frozen k ids s) kept x → State s x

  pub state_on : (s t : Sit) → Later k ids s t → (x : Program) → State s x → State t x
  state_on s t l x (waiting is none_) = waiting is (l.bytes ∙ none_)
  state_on s t l x (reading r is at) = reading r is (at_on k ids s t l r at)
  state_on s t l x (seeking r bytes before f fs kept w is resp sought mid) = seeking r bytes before f fs kept w is resp sought (mid_on k ids s t l r bytes before (f ∷ fs) kept mid)
  state_on s t l x (taking r bytes before f fs kept first is resp b mid) = taking r bytes before f fs kept first is resp (bounded_on k ids s t l f resp b) (mid_on k ids s t l r bytes before (f ∷ fs) kept mid)
  state_on s t l x (ending_ r bytes before f fs kept n outcome is resp b mid) = ending_ r bytes before f fs kept n outcome is resp (bounded_on k ids s t l f resp b) (mid_on k ids s t l r bytes before (f ∷ fs) kept mid)
  state_on s t l x (freeing r bytes before fs kept i n outcome is mid) = freeing r bytes before fs kept i n outcome is (mid_on k ids s t l r bytes before fs kept mid)
  state_on s t l x (over kept ov a) = over kept (over_on k ids s t l kept ov) (after_map (Frozen k ids s) (Frozen k ids t) kept (frozen_on k ids s t l) x a)

  -- ## Behind the frames of a piece

  by_test : (P : Program → Type 0) (b : Bool) (x y : Program) → (b ≡ true → P x) → (b ≡ false → P y) → P (cond b x y)
  by_test P true x y f g = f refl
  by_test P false x y f g = g refl

  -- the reading is over
  over_read : (s : Sit) (ws : List Retry) (how : Ended) → is_final how.code ≡ true → Over k ids s how.reading.kept → (how.fault ≡ true → Frozen k ids s) → State s (next_step (resolved ws (read calls how)))
  over_read s ws how final ov faulty = over how.reading.kept ov (after_next (Frozen k ids s) how.reading.kept ws (read calls how) (after_read (Frozen k ids s) calls how final faulty))

  enter : (s : Sit) (r : Reading) (bytes : List ℕ) (fs before kept : List Frame) → Mid k ids s r bytes before fs kept → (ws : List Retry) → State s (next_step (resolved ws (go r bytes fs kept)))
  enter s r bytes [] before kept m ws = by_end (streams.stream (r.rest ++ bytes)).ending refl
    where
      r' : Reading
      r' = record { ids = r.ids; link = r.link; id = r.id; rest = r.rest; total = r.total + length bytes; kept = kept }

      rest' : ℕ → Reading
      rest' n = record { ids = r.ids; link = r.link; id = r.id; rest = last_of n (r.rest ++ bytes); total = r.total + length bytes; kept = kept }

      all_frames : frames_in s.bytes ≡ m.base ++ frames_in (r.rest ++ bytes)
      all_frames = ap frames_in (sym (append-nil s.bytes)) ∙ (m.tail [] ∙ ap (λ l. m.base ++ frames_in l) (append-nil (r.rest ++ bytes)))

      at : (n : ℕ) → (streams.stream (r.rest ++ bytes)).ending ≡ streams.Rest n → IsAt k ids s (rest' n)
      at n is = record {
        link = m.link;
        ids_are = m.ids_are;
        tail = λ more. m.tail more ∙ (ap (λ l. m.base ++ l) (frames_behind_rest (r.rest ++ bytes) more n is) ∙ (sym (append_assoc m.base (frames_in (r.rest ++ bytes)) (frames_in (last_of n (r.rest ++ bytes) ++ more)))
            ∙ ap (λ l. l ++ frames_in (last_of n (r.rest ++ bytes) ++ more)) (sym all_frames)));
        fault = λ more x. m.fault more (faults_follow (r.rest ++ bytes) more n is x);
        handled = mid_over k ids s r bytes before kept m;
      }

      by_end : (e : streams.Ending) → (streams.stream (r.rest ++ bytes)).ending ≡ e → State s (next_step (resolved ws (read_on r' (r.rest ++ bytes) e (read calls))))
      by_end (streams.Rest n) is = by_test (λ x. State s (next_step (resolved ws x))) (nat_lt (r.total + length bytes) LIMIT) (Round (Reads (rest' n)) (read calls)) (read calls (ended_by 1014 false false (rest' n)))
          (λ _. reading (rest' n) refl (at n is)) (λ _. over_read s ws (ended_by 1014 false false (rest' n)) refl (mid_over k ids s r bytes before kept m) (λ e. absurd (true≢false (sym e))))
      by_end (streams.Fault place fault) is = over_read s ws (ended_by 2002 false true r') refl (mid_over k ids s r bytes before kept m)
          (λ _ more. frames_before_fault s.bytes more (subst HasFault (append-nil s.bytes) (m.fault [] (subst HasFault (sym (append-nil (r.rest ++ bytes))) (place, fault, is)))))
  enter s r bytes (f ∷ fs) before kept m ws = by_test (λ x. State s (next_step (resolved ws x))) (has_response f.meta.response && nat_lt (slot_in f) r.ids)
      (Round (Locks (slot_in f) (Version (version_in f)) None) (answered f kept (λ kept'. responses r.ids fs kept' (behind r bytes)))) (go r bytes fs kept)
      (λ is. seeking r bytes before f fs kept None refl (own is) tt m)
      (λ no_. enter s r bytes fs (before ++ f ∷ []) kept (mid_same k ids s r bytes before f fs kept m (λ is. absurd (true≢false (sym is ∙ (ap (λ n. has_response f.meta.response && nat_lt (slot_in f) n) (sym m.ids_are) ∙ no_))))) ws)
    where
      own : (has_response f.meta.response && nat_lt (slot_in f) r.ids) ≡ true → IsResp k ids f
      own is = ap (λ n. has_response f.meta.response && nat_lt (slot_in f) n) (sym m.ids_are) ∙ is

  -- ## A step

  abbrev Goes' : Sit → Sit → List Retry → Program → Type 0
  Goes' s t ws x = Onward k ids State s t ws x

  -- whoever waits for the word of its `open`
  waiting_onward : (s t : Sit) (ws : List Retry) → s.bytes ≡ [] → Goes' s t ws (first_step (reader calls k o))
  waiting_onward s t ws none_ = λ word l. by_test (λ x. State t (next_step (resolved ws x))) (word == 0) (reader calls k o) (cond (word == NO_SOCKET) Rest (Round (Reads (start word)) (read calls))) (λ _. waiting refl (l.bytes ∙ none_))
      (λ _. by_test (λ x. State t (next_step (resolved ws x))) (word == NO_SOCKET) Rest (Round (Reads (start word)) (read calls)) (λ _. over [] (empty (l.bytes ∙ none_)) tt) (λ _. reading (start word) refl (begins word (l.bytes ∙ none_))))
    where
      start : ℕ → Reading
      start word = record { ids = length calls; link = k; id = word - 1; rest = []; total = 0; kept = [] }

      empty : t.bytes ≡ [] → Over k ids t []
      empty e = subst (λ b. AllFrom (Done k ids t []) 0 (frames_in b)) (sym e) tt

      begins : (word : ℕ) → t.bytes ≡ [] → IsAt k ids t (start word)
      begins word e = record {
        link = refl;
        ids_are = many;
        tail = λ more. ap (λ b. frames_in (b ++ more)) e ∙ ap (λ b. frames_in b ++ frames_in more) (sym e);
        fault = λ more x. subst (λ b. HasFault (b ++ more)) (sym e) x;
        handled = empty e;
      }

  -- where a take gave nothing
  no_bytes : (s t : Sit) (tk : Taking) → bytes_in tk ≡ [] → Took k ids s t tk → Later k ids s t
  no_bytes s t tk none_ l = record { words = l.words; soon = l.soon; bytes = l.bytes ∙ (ap (λ b. s.bytes ++ b) none_ ∙ append-nil s.bytes) }

  reading_onward : (s t : Sit) (ws : List Retry) (r : Reading) → IsAt k ids s r → Goes' s t ws (first_step (Round (Reads r) (read calls)))
  reading_onward s t ws r at = by_take
    where
      mid : Sit
      mid = record { words = t.words; soon = t.soon; bytes = s.bytes }

      ends : (tk : Taking) → bytes_in tk ≡ [] → Took k ids s t tk → (closed : Bool) → State t (next_step (resolved ws (read calls (ended_by 1014 closed false r))))
      ends tk none_ l closed = over_read t ws (ended_by 1014 closed false r) refl (over_on k ids s t (no_bytes s t tk none_ l) r.kept at.handled) (λ e. absurd (true≢false (sym e)))

      by_take : (tk : Taking) → Took k ids s t tk → State t (next_step (resolved ws (took r (read calls) tk)))
      by_take (Bytes bytes) l = enter t r bytes (frames_in (r.rest ++ bytes)) (frames_in s.bytes) r.kept (record {
        link = at.link;
        ids_are = at.ids_are;
        whole = ap frames_in l.bytes ∙ at.tail bytes;
        handled = all_on (Done k ids s r.kept) (Done k ids mid r.kept) (done_on k ids s mid (record { words = l.words; soon = l.soon; bytes = refl }) r.kept) 0 (frames_in s.bytes) at.handled;
        waits = l.waits (frames_in (r.rest ++ bytes)) (ap frames_in l.bytes ∙ at.tail bytes);
        base = frames_in s.bytes;
        tail = λ more. ap (λ b. frames_in (b ++ more)) l.bytes ∙ (ap frames_in (append_assoc s.bytes bytes more) ∙ (at.tail (bytes ++ more) ∙ ap (λ b. frames_in s.bytes ++ frames_in b) (sym (append_assoc r.rest bytes more))));
        fault = λ more x. subst (λ b. HasFault (b ++ more)) (sym l.bytes) (subst HasFault (sym (append_assoc s.bytes bytes more)) (at.fault (bytes ++ more) (subst HasFault (append_assoc r.rest bytes more) x)));
      }) ws
      by_take Nothing l = reading r refl (at_on k ids s t (no_bytes s t Nothing refl l) r at)
      by_take NoMore l = ends NoMore refl l false
      by_take AtEnd l = ends AtEnd refl l false
      by_take Closed l = ends Closed refl l true
      by_take Broken l = ends Broken refl l false

  module _ (s : Sit) (ws : List Retry) (r : Reading) (bytes : List ℕ) (before : List Frame) (f : Frame) (fs kept : List Frame) (resp : IsResp k ids f) (m : Mid k ids s r bytes before (f ∷ fs) kept) where
    abbrev next_frame : Locking → Program
    next_frame = answered f kept (λ kept'. responses r.ids fs kept' (behind r bytes))

    not_there : (found : ℕ) → parts found ≡ word_of s (slot_in f) → has_version (version_in f) (parts found) ≡ false → (b : Bool) → is_early (version_in f) (parts found) ≡ b → State s (next_step (resolved ws (go r bytes fs (cond b (kept ++ f ∷ []) kept))))
    not_there found same none_ true early = enter s r bytes fs (before ++ f ∷ []) (kept ++ f ∷ []) (mid_next k ids s r bytes before f fs kept (f ∷ []) m (early_done k ids s f found (length before) kept same early m.waits.0)) ws
    not_there found same none_ false early = enter s r bytes fs (before ++ f ∷ []) kept (mid_same k ids s r bytes before f fs kept m (λ _. inl (gone_by k ids s f found same none_ early))) ws

    -- by the word found the id is locked next, or it has no range with the version
    found_word : (found : ℕ) → parts found ≡ word_of s (slot_in f) → State s (next_step (resolved ws (locking (slot_in f) (Version (version_in f)) found next_frame)))
    found_word found same = by_sought (has_version (version_in f) (parts found)) refl
      where
        by_sought : (b : Bool) → has_version (version_in f) (parts found) ≡ b
            → State s (next_step (resolved ws (cond (not b) (next_frame (NotThere found)) (cond ((parts found).state == 1) (Round (Locks (slot_in f) (Version (version_in f)) (Some found)) next_frame) (Round (Locks (slot_in f) (Version (version_in f)) None) next_frame)))))
        by_sought false none_ = not_there found same none_ (is_early (version_in f) (parts found)) refl
        by_sought true has = by_test (λ x. State s (next_step (resolved ws x))) ((parts found).state == 1) (Round (Locks (slot_in f) (Version (version_in f)) (Some found)) next_frame) (Round (Locks (slot_in f) (Version (version_in f)) None) next_frame)
            (λ _. seeking r bytes before f fs kept (Some found) refl resp has m) (λ _. seeking r bytes before f fs kept None refl resp tt m)

  seeking_onward : (s t : Sit) (ws : List Retry) (r : Reading) (bytes : List ℕ) (before : List Frame) (f : Frame) (fs kept : List Frame) (w : Option ℕ) → IsResp k ids f → Sought' f w → Mid k ids s r bytes before (f ∷ fs) kept
      → Goes' s t ws (first_step (Round (Locks (slot_in f) (Version (version_in f)) w) (answered f kept (λ kept'. responses r.ids fs kept' (behind r bytes)))))
  seeking_onward s t ws r bytes before f fs kept None resp sought m = λ found l same. state_on s t l (next_step (resolved ws (locking (slot_in f) (Version (version_in f)) found (answered f kept (λ kept'. responses r.ids fs kept' (behind r bytes)))))) (found_word s ws r bytes before f fs kept resp m found same)
  seeking_onward s t ws r bytes before f fs kept (Some from) resp sought m = λ found l same. by_hit found l same (found == from) refl
    where
      next : Locking → Program
      next = answered f kept (λ kept'. responses r.ids fs kept' (behind r bytes))

      by_hit : (found : ℕ) → Later k ids s t → parts found ≡ word_of s (slot_in f) → (b : Bool) → (found == from) ≡ b → State t (next_step (resolved ws (cond b (next (Has (packed (posted_word (parts from) 0)))) (locking (slot_in f) (Version (version_in f)) found next))))
      by_hit found l same true hit = taking r bytes before f fs kept (parts (packed (posted_word (parts from) 0))).first refl resp (bounded_on k ids s t l f resp (bounded_by k ids s f from (ap parts (sym (eqb-true found from hit)) ∙ same) sought)) (mid_on k ids s t l r bytes before (f ∷ fs) kept m)
      by_hit found l same false miss = state_on s t l (next_step (resolved ws (locking (slot_in f) (Version (version_in f)) found next))) (found_word s ws r bytes before f fs kept resp m found same)

  ending_onward : (s t : Sit) (ws : List Retry) (r : Reading) (bytes : List ℕ) (before : List Frame) (f : Frame) (fs kept : List Frame) (n : ℕ) (outcome : Outcome) → IsResp k ids f → Bounded k ids s f → Mid k ids s r bytes before (f ∷ fs) kept
      → Goes' s t ws (end_id (slot_in f) (Say n outcome (go r bytes fs kept)))
  ending_onward s t ws r bytes before f fs kept n outcome resp b m = λ found l same.
      let m' = mid_same k ids t r bytes before f fs kept (mid_on k ids s t l r bytes before (f ∷ fs) kept m) (λ _. inl (gone_behind k ids s t f b same)) in
      by_test (λ x. State t (next_step (resolved ws x))) (nat_le ((parts found).first + (parts found).range) LAST) (Aside (FreeId (slot_in f)) (λ _. Say n outcome (go r bytes fs kept))) (Say n outcome (go r bytes fs kept))
      (λ _. freeing r bytes (before ++ f ∷ []) fs kept (slot_in f) n outcome refl m') (λ _. enter t r bytes fs (before ++ f ∷ []) kept m' ws)

  -- each step of the reader leads on
  pub onward : (s t : Sit) (ws : List Retry) (x : Program) → State s x → Goes' s t ws (first_step x)
  onward s t ws x (waiting is none_) = subst (λ y. Goes' s t ws (first_step y)) (sym is) (waiting_onward s t ws none_)
  onward s t ws x (reading r is at) = subst (λ y. Goes' s t ws (first_step y)) (sym is) (reading_onward s t ws r at)
  onward s t ws x (seeking r bytes before f fs kept w is resp sought m) = subst (λ y. Goes' s t ws (first_step y)) (sym is) (seeking_onward s t ws r bytes before f fs kept w resp sought m)
  onward s t ws x (taking r bytes before f fs kept first is resp b m) = subst (λ y. Goes' s t ws (first_step y)) (sym is)
      (λ asked l _. ending_ r bytes before f fs kept asked.operation (ending_of (call_id (slot_in f) first) f) refl resp (bounded_on k ids s t l f resp b) (mid_on k ids s t l r bytes before (f ∷ fs) kept m))
  onward s t ws x (ending_ r bytes before f fs kept n outcome is resp b m) = subst (λ y. Goes' s t ws (first_step y)) (sym is) (ending_onward s t ws r bytes before f fs kept n outcome resp b m)
  onward s t ws x (freeing r bytes before fs kept i n outcome is m) = subst (λ y. Goes' s t ws (first_step y)) (sym is) (λ found l _. enter t r bytes fs before kept (mid_on k ids s t l r bytes before fs kept m) ws)
  onward s t ws x (over kept ov a) = over_onward k ids s t ws kept ov State (λ same soon y still. over still.0 still.1 still.2) (first_step x) (after_first (Frozen k ids s) kept x a)
