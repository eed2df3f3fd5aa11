-- Where the reader of a link stands in its program, and what it has handled there.
use Rattle.std.proofs.Common.{◌≡◌, ℕ, ◌+◌, ◌-◌, ◌%◌, ◌<◌, ◌==◌, ◌&&◌, ◌||◌, not, Bool, true, false, cond, nat_le, nat_lt, List, [], ◌∷◌, ◌++◌, length, None, Some, refl, sym, ap, ◌∙◌, subst, arith}
use Rattle.std.proofs.lemmas.Bool.{true≢false}
use Rattle.sock_words.specs.PackedWords.{socket_id_version, socket_id_slot, vref_version, vref_nref, at_word_first, at_word_slot, at_word_link, at_word_attempt, call_id, id_slot, id_first, bit}
use Rattle.sock_words.specs.ErrorCodes.{is_final}
use Rattle.corr_core.specs.IdSlotWord.{Parts, parts, posted_word, unlocked_word, code_of, attempt_of, error_of}
use Rattle.corr_core.specs.IdSlotLaw.{LAST}
use Rattle.corr_core.specs.EndedByRangeOrAttempt.{WHOLE, ends_call}
use Rattle.seat_programs.specs.TableSteps.{OnLink, OnSlot}
use Rattle.seat_programs.specs.brpc_model.specs.Frame.{Frame}
use Rattle.seat_programs.specs.brpc_model.specs.ResponseOutcome.{ending_of}
use Rattle.sock_message.specs.Asked.{Asked}
use Rattle.seat_programs.specs.Asides.{Step, Found, PostId, FreeId, TakeBytes, Taking, Bytes, Nothing}
use Rattle.seat_programs.specs.LoopHeads.{Head, Exit, Retry, Sought, Posts, Unlocks, Decides, Locks, Joins, Opens, Reads, Discards, Posting, WasGone, WasStale, WasCrowded, WasQueued, HasLocked, Unlocking, IsOpen, HasNext, Deciding, HasEnded, GoesOn, Locking, NotThere, Has, Ended}
use Rattle.seat_programs.specs.Programs.{Program, Do, Say, Sent, Rest, TakeMessage, TakeHome, PutHome, PutBytes, AskReady, Write, Aside, Round, Keep, Retries, LAST_VERSION, recycle, release, add_reference, set_failed}
use Rattle.seat_programs.specs.PostPrograms.{packed, is_first, is_sought, is_stale, is_full, judged, posts_round, post_with, popped, unlocks_round, end_id, decided, unlocked, locking}
use Rattle.seat_programs.specs.ReaderProgram.{LIMIT, slot_in, answer, discarded, kept_for, ends_with, posted_last, post_each, thrown_away, read}
use Rattle.seat_programs.specs.LoopRounds.{round, first_step}
use Rattle.seat_programs.specs.Cores.{resolved, next_step}

-- ## Behind the end of a reading

-- what follows a post of a reader that keeps these responses
abbrev pub posts_then : ℕ → ℕ → ℕ → List Frame → Program → ℕ → Program
posts_then id e from kept rest found = cond (found == from) (cond ((parts from).state == 1) (posted_last id e kept rest (HasLocked (packed (posted_word (parts from) e)))) (posted_last id e kept rest WasQueued)) (judged id e found (posted_last id e kept rest))

-- a final error ends a call whatever attempts are left
pub ends_final : (w : Parts) (e : ℕ) → is_final (code_of e) ≡ true → ends_call w e ≡ true
ends_final w e final = by (attempt_of e == WHOLE) (is_final (code_of e)) final
  where
    by : (a b : Bool) → b ≡ true → (a || (b || (w.attempt + 2 == w.range))) ≡ true
    by true b is = refl
    by false true is = refl
    by false false is = absurd (true≢false (sym is))

-- a reader that keeps these responses takes bytes only where F, posts errors that end calls, and decides on those of calls to which it keeps no response
module _ (F : Type 0) (kept : List Frame) where
  abbrev pub Posting' : (step : Step) → (Found step → Program) → Type 0
  Posting' (PostId i from e) next = (id : ℕ) × (rest : Program) × (i ≡ id_slot id) × (next ≡ posts_then id e from kept rest) × (is_final (code_of e) ≡ true)
  Posting' (TakeBytes l room) next = F
  Posting' other next = Unit {0}

  abbrev pub PostingAt : (head : Head) → (Exit head → Program) → Type 0
  PostingAt (Posts id e w) next = (rest : Program) × (next ≡ posted_last id e kept rest) × (is_final (code_of e) ≡ true)
  PostingAt (Decides id asked word e) next = (kept_for id (parts word).range kept ≡ []) × (is_final (code_of e) ≡ true)
  PostingAt (Reads r) next = ⊥
  PostingAt (Discards l total) next = F
  PostingAt other next = Unit {0}

  abbrev pub After : Program → Type 0
  After (Do call next) = (found : ℕ) → After (next found)
  After (Say o outcome next) = After next
  After (Sent o next) = After next
  After Rest = Unit {0}
  After (TakeMessage q next) = ⊥
  After (TakeHome l next) = ⊥
  After (PutHome l n after) = ⊥
  After (PutBytes l asked bytes next) = ⊥
  After (AskReady l next) = ⊥
  After (Write w after) = ⊥
  After (Aside step next) = Posting' step next × ((found : Found step) → After (next found))
  After (Round head next) = PostingAt head next × ((exit : Exit head) → After (next exit))
  After (Keep r next) = After next
  After (Retries requests after) = ⊥

  way : (b : Bool) (x y : Program) → (b ≡ true → After x) → (b ≡ false → After y) → After (cond b x y)
  way true x y f g = f refl
  way false x y f g = g refl

  both : (b : Bool) (x y : Program) → After x → After y → After (cond b x y)
  both true x y f g = f
  both false x y f g = g

  after_recycle : (i from : ℕ) (next : Bool → Program) → ((b : Bool) → After (next b)) → After (recycle i from next)
  after_recycle i from next a = λ found. both (found == from) (Do (OnSlot (Rattle.seat_programs.specs.TableSteps.LoadLink i (vref_version from + 1))) (λ k. Do (OnLink (Rattle.seat_programs.specs.TableSteps.TakeLink k)) (λ _. Do (OnLink (Rattle.seat_programs.specs.TableSteps.FinishLink k)) (λ _. Do (OnLink (Rattle.seat_programs.specs.TableSteps.PutLink k)) (λ _.
      cond (nat_le (vref_version from + 1) LAST_VERSION) (Do (OnSlot (Rattle.seat_programs.specs.TableSteps.FreeSlot i)) (λ _. next true)) (next true)))))) (next false)
      (λ k _ _ _. both (nat_le (vref_version from + 1) LAST_VERSION) (Do (OnSlot (Rattle.seat_programs.specs.TableSteps.FreeSlot i)) (λ _. next true)) (next true) (λ _. a true) (a true)) (a false)

  after_release : (i : ℕ) (next : Bool → Program) → ((b : Bool) → After (next b)) → After (release i next)
  after_release i next a = λ found. both ((vref_version found % 2 == 1) && (vref_nref found == 1)) (recycle i (found - 1) next) (next false) (after_recycle i (found - 1) next a) (a false)

  after_address : (id : ℕ) (held : Program) (gone : ℕ → Program) → After held → ((found : ℕ) → After (gone found)) → After (add_reference id held gone)
  after_address id held gone a b = λ found. both (vref_version found == socket_id_version id) held (release (socket_id_slot id) (λ _. gone found)) a (after_release (socket_id_slot id) (λ _. gone found) (λ _. b found))

  after_failed : (id code : ℕ) (next : ℕ → Program) → ((found : ℕ) → After (next found)) → After (set_failed id code next)
  after_failed id code next a = λ found. both (vref_version found % 2 == 0) (Do (OnSlot (Rattle.seat_programs.specs.TableSteps.StoreCode (socket_id_slot id) (socket_id_version id) code)) (λ _. Do (OnSlot (Rattle.seat_programs.specs.TableSteps.SubRef (socket_id_slot id))) (λ _. next found))) (next found) (λ _ _. a found) (a found)

  after_judged : (id e found : ℕ) (rest : Program) → is_final (code_of e) ≡ true → ((x : Posting) → After (posted_last id e kept rest x)) → After (judged id e found (posted_last id e kept rest))
  after_judged id e found rest final a = let k : Posting → Program = posted_last id e kept rest in
      let two : Program = cond (is_full (parts found)) (k (WasCrowded (code_of (parts found).oldest) (code_of (parts found).second))) (Round (Posts id e found) k) in
      both (not (is_first (id_first id) (parts found))) (k WasGone) (cond (is_stale e (parts found)) (k WasStale) two) (a WasGone)
      (both (is_stale e (parts found)) (k WasStale) two (a WasStale)
      (both (is_full (parts found)) (k (WasCrowded (code_of (parts found).oldest) (code_of (parts found).second))) (Round (Posts id e found) k) (a (WasCrowded (code_of (parts found).oldest) (code_of (parts found).second))) ((rest, refl, final), a)))

  after_posts : (id e from : ℕ) (rest : Program) → is_final (code_of e) ≡ true → ((x : Posting) → After (posted_last id e kept rest x)) → After (posts_round id e from (posted_last id e kept rest))
  after_posts id e from rest final a = (
    (id, rest, refl, refl, final),
    λ found. both (found == from) (cond ((parts from).state == 1) (posted_last id e kept rest (HasLocked (packed (posted_word (parts from) e)))) rest) (judged id e found (posted_last id e kept rest))
        (both ((parts from).state == 1) (posted_last id e kept rest (HasLocked (packed (posted_word (parts from) e)))) rest (a (HasLocked (packed (posted_word (parts from) e)))) (a WasQueued)) (after_judged id e found rest final a),
  )

  after_end : (i : ℕ) (next : Program) → After next → After (end_id i next)
  after_end i next a = (tt, λ found. both (nat_le ((parts found).first + (parts found).range) LAST) (Aside (FreeId i) (λ _. next)) next (tt, λ _. a) a)

  after_decided : (id : ℕ) (next : Program) → After next → (x : Deciding) → After (decided id next x)
  after_decided id next a (HasEnded o code) = a
  after_decided id next a GoesOn = a

  after_popped : (i oldest word : ℕ) (next : Unlocking → Program) → ((x : Unlocking) → After (next x)) → After (popped i oldest word next)
  after_popped i oldest word next a = both (oldest == 0) (next (IsOpen word)) (cond (is_stale oldest (parts word)) (Round (Unlocks i word false) next) (next (HasNext word oldest))) (a (IsOpen word))
      (both (is_stale oldest (parts word)) (Round (Unlocks i word false) next) (next (HasNext word oldest)) (tt, a) (a (HasNext word oldest)))

  after_unlocks : (i from : ℕ) (advance : Bool) (next : Unlocking → Program) → ((x : Unlocking) → After (next x)) → After (unlocks_round i from advance next)
  after_unlocks i from advance next a = (
    tt,
    λ found. both (found == from) (popped i (parts from).oldest (packed (unlocked_word (parts from) (bit advance))) next) (Round (Unlocks i found advance) next)
        (after_popped i (parts from).oldest (packed (unlocked_word (parts from) (bit advance))) next a) (tt, a),
  )

  after_decides : (id : ℕ) (asked : Asked) (word e : ℕ) (next : Deciding → Program) → is_final (code_of e) ≡ true → ((x : Deciding) → After (next x)) → After (round (Decides id asked word e) next)
  after_decides id asked word e next final a = subst (λ b. After (cond b (end_id (id_slot id) (next (HasEnded asked.operation (code_of e)))) (Aside (Rattle.seat_programs.specs.Asides.PutCall (id_slot id) asked) (λ _. Round (Unlocks (id_slot id) word true) (unlocked (record { id = id; attempt = (parts word).attempt + 1 }) next)))))
      (sym (ends_final (parts word) e final)) (after_end (id_slot id) (next (HasEnded asked.operation (code_of e))) (a (HasEnded asked.operation (code_of e))))

  after_answer : (f : Frame) (first : ℕ) (next : Program) → After next → After (answer f first next)
  after_answer f first next a = (tt, λ asked. after_end (slot_in f) (Say asked.operation (ending_of (call_id (slot_in f) first) f) next) a)

  after_ends : (id e word : ℕ) (l : List Frame) (next : Program) → kept_for id (parts word).range kept ≡ l → is_final (code_of e) ≡ true → After next → After (ends_with id e word l next)
  after_ends id e word [] next none_ final a = (tt, λ asked. ((none_, final), after_decided id next a))
  after_ends id e word (f ∷ fs) next none_ final a = after_answer f (id_first id) next a

  after_posted : (id e : ℕ) (next : Program) → is_final (code_of e) ≡ true → After next → (x : Posting) → After (posted_last id e kept next x)
  after_posted id e next final a (HasLocked word) = after_ends id e word (kept_for id (parts word).range kept) next refl final a
  after_posted id e next final a _ = a

  after_each : (os : List ℕ) (k code : ℕ) (next : Program) → is_final code ≡ true → After next → After (post_each os k code kept next)
  after_each [] k code next final a = a
  after_each (o ∷ os) k code next final a = (
    tt,
    λ w. let rest : Program = post_each os k code kept next in let id : ℕ = call_id (at_word_slot w) (at_word_first w) in let e : ℕ = error_of code (at_word_attempt w) in
        let final' : is_final (code_of (error_of code (at_word_attempt w))) ≡ true = ap is_final (code_back code (at_word_attempt w) (omega arith)) ∙ final in
        both (w == 0) rest (cond (at_word_link w == k) (post_with id e (posted_last id e kept rest)) rest) (after_each os k code next final a)
        (both (at_word_link w == k) (post_with id e (posted_last id e kept rest)) rest (tt, λ found. after_judged id e found rest final' (after_posted id e rest final' (after_each os k code next final a))) (after_each os k code next final a)),
  )
    where
      code_back : (c n : ℕ) → n < 8 → code_of (error_of c n) ≡ c
      code_back c n low = omega (arith, low)

pub after_read : (F : Type 0) (calls : List ℕ) (how : Ended) → is_final how.code ≡ true → (how.fault ≡ true → F) → After F how.reading.kept (read calls how)
after_read F calls how final faulty =
    let last : Program = post_each calls how.reading.link how.code how.reading.kept (thrown_away how) in
    let a : After F how.reading.kept last = after_each F how.reading.kept calls how.reading.link how.code (thrown_away how) final (by_fault how.fault refl) in
    both F how.reading.kept how.closed last (add_reference how.reading.id (set_failed how.reading.id how.code (λ _. release (socket_id_slot how.reading.id) (λ _. last))) (λ _. last)) a
    (after_address F how.reading.kept how.reading.id (set_failed how.reading.id how.code (λ _. release (socket_id_slot how.reading.id) (λ _. last))) (λ _. last)
    (after_failed F how.reading.kept how.reading.id how.code (λ _. release (socket_id_slot how.reading.id) (λ _. last)) (λ _. after_release F how.reading.kept (socket_id_slot how.reading.id) (λ _. last) (λ _. a))) (λ _. a))
  where
    by_fault : (b : Bool) → how.fault ≡ b → After F how.reading.kept (cond (b && nat_lt how.reading.total LIMIT) (Round (Discards how.reading.link how.reading.total) (λ _. Rest)) Rest)
    by_fault true is = both F how.reading.kept (nat_lt how.reading.total LIMIT) (Round (Discards how.reading.link how.reading.total) (λ _. Rest)) Rest (faulty is, λ _. tt) tt
    by_fault false is = tt

-- one round
pub after_first : (F : Type 0) (kept : List Frame) (program : Program) → After F kept program → After F kept (first_step program)
after_first F kept (Do call next) a = a
after_first F kept (Say o outcome next) a = a
after_first F kept (Sent o next) a = a
after_first F kept Rest a = a
after_first F kept (TakeMessage q next) a = absurd a
after_first F kept (TakeHome l next) a = absurd a
after_first F kept (PutHome l n after) a = absurd a
after_first F kept (PutBytes l asked bytes next) a = absurd a
after_first F kept (AskReady l next) a = absurd a
after_first F kept (Write w after) a = absurd a
after_first F kept (Aside step next) a = a
after_first F kept (Keep r next) a = a
after_first F kept (Retries requests after) a = absurd a
after_first F kept (Round (Posts id e w) next) a = subst (λ n. After F kept (posts_round id e w n)) (sym a.0.1) (after_posts F kept id e w a.0.0 a.0.2 (λ x. subst (λ n. After F kept (n x)) a.0.1 (a.1 x)))
after_first F kept (Round (Unlocks i w advance) next) a = after_unlocks F kept i w advance next a.1
after_first F kept (Round (Decides id asked w e) next) a = after_decides F kept id asked w e next a.0.1 a.1
after_first F kept (Round (Locks i sought None) next) a = (tt, λ found. after_locking F kept i sought found next a.1)
  where
    after_locking : (F : Type 0) (kept : List Frame) (i : ℕ) (sought : Sought) (found : ℕ) (next : Locking → Program) → ((x : Locking) → After F kept (next x)) → After F kept (locking i sought found next)
    after_locking F kept i sought found next a = both F kept (not (is_sought sought (parts found))) (next (NotThere found)) (cond ((parts found).state == 1) (Round (Locks i sought (Some found)) next) (Round (Locks i sought None) next)) (a (NotThere found))
        (both F kept ((parts found).state == 1) (Round (Locks i sought (Some found)) next) (Round (Locks i sought None) next) (tt, a) (tt, a))
after_first F kept (Round (Locks i sought (Some w)) next) a = (
  tt,
  λ found. both F kept (found == w) (next (Has (packed (posted_word (parts w) 0)))) (locking i sought found next) (a.1 (Has (packed (posted_word (parts w) 0))))
      (both F kept (not (is_sought sought (parts found))) (next (NotThere found)) (cond ((parts found).state == 1) (Round (Locks i sought (Some found)) next) (Round (Locks i sought None) next)) (a.1 (NotThere found))
      (both F kept ((parts found).state == 1) (Round (Locks i sought (Some found)) next) (Round (Locks i sought None) next) (tt, a.1) (tt, a.1))),
)
after_first F kept (Round (Joins id) next) a = (tt, λ found. both F kept (is_first (id_first id) (parts found)) (Round (Joins id) next) (next found) (tt, a.1) (a.1 found))
after_first F kept (Round (Opens o) next) a = λ word. both F kept (word == 0) (Round (Opens o) next) (next word) (tt, a.1) (a.1 word)
after_first F kept (Round (Reads r) next) a = absurd a.0
after_first F kept (Round (Discards l total) next) a = (a.0, after_discarded)
  where
    after_discarded : (t : Taking) → After F kept (discarded l total next t)
    after_discarded (Bytes bytes) = both F kept (nat_lt (total + length bytes) LIMIT) (Round (Discards l (total + length bytes)) next) (next (total + length bytes)) (a.0, a.1) (a.1 (total + length bytes))
    after_discarded Nothing = (a.0, a.1)
    after_discarded _ = a.1 total

-- what is said before the next step makes no difference
pub after_next : (F : Type 0) (kept : List Frame) (ws : List Retry) (program : Program) → After F kept program → After F kept (next_step (resolved ws program))
after_next F kept ws (Do call next) a = a
after_next F kept ws (Say o outcome next) a = after_next F kept ws next a
after_next F kept ws (Sent o next) a = after_next F kept ws next a
after_next F kept ws Rest a = a
after_next F kept ws (Aside step next) a = a
after_next F kept ws (Round head next) a = a
after_next F kept ws (Keep r next) a = after_next F kept (ws ++ r ∷ []) next a
after_next F kept ws _ a = absurd a

posting_map : (F G : Type 0) (kept : List Frame) → (F → G) → (step : Step) (next : Found step → Program) → Posting' F kept step next → Posting' G kept step next
posting_map F G kept on (PostId i from e) next x = x
posting_map F G kept on (TakeBytes l room) next x = on x
posting_map F G kept on other next x = tt

posting_at_map : (F G : Type 0) (kept : List Frame) → (F → G) → (head : Head) (next : Exit head → Program) → PostingAt F kept head next → PostingAt G kept head next
posting_at_map F G kept on (Posts id e w) next x = x
posting_at_map F G kept on (Decides id asked w e) next x = x
posting_at_map F G kept on (Reads r) next x = absurd x
posting_at_map F G kept on (Discards l total) next x = on x
posting_at_map F G kept on other next x = tt

pub after_map : (F G : Type 0) (kept : List Frame) → (F → G) → (program : Program) → After F kept program → After G kept program
after_map F G kept on (Do call next) a = λ found. after_map F G kept on (next found) (a found)
after_map F G kept on (Say o outcome next) a = after_map F G kept on next a
after_map F G kept on (Sent o next) a = after_map F G kept on next a
after_map F G kept on Rest a = tt
after_map F G kept on (TakeMessage q next) a = absurd a
after_map F G kept on (TakeHome l next) a = absurd a
after_map F G kept on (PutHome l n after) a = absurd a
after_map F G kept on (PutBytes l asked bytes next) a = absurd a
after_map F G kept on (AskReady l next) a = absurd a
after_map F G kept on (Write w after) a = absurd a
after_map F G kept on (Aside step next) a = (posting_map F G kept on step next a.0, λ found. after_map F G kept on (next found) (a.1 found))
after_map F G kept on (Round head next) a = (posting_at_map F G kept on head next a.0, λ exit. after_map F G kept on (next exit) (a.1 exit))
after_map F G kept on (Keep r next) a = after_map F G kept on next a
after_map F G kept on (Retries requests after) a = absurd a
