-- The ending and the readers are calm: a reader posts only errors that end their calls.
use Rattle.std.proofs.Common.{◌≡◌, ℕ, ◌+◌, ◌-◌, ◌%◌, ◌<◌, ◌==◌, ◌&&◌, not, nat_lt, nat_le, Bool, true, false, cond, List, [], ◌∷◌, ◌++◌, length, refl, ap, ◌∙◌, arith}
use Rattle.sock_words.specs.PackedWords.{socket_id_version, socket_id_slot, vref_version, vref_nref, at_word_first, at_word_slot, at_word_link, at_word_attempt, call_id, id_first, NO_SOCKET}
use Rattle.sock_words.specs.ErrorCodes.{is_final}
use Rattle.brpc_model.specs.Frame.{Frame}
use Rattle.brpc_model.specs.FrameStream as streams
use Rattle.brpc_model.specs.ResponseOutcome.{ending_of as outcome_of}
use Rattle.sock_steps.proofs.SumsAsMarksChange.{either_way}
use Rattle.corr_core.specs.IdSlotWord.{parts, posted_word, code_of, error_of}
use Rattle.corr_core.specs.IdSlotLaw.{LAST}
use Rattle.corr_core.specs.IdRangeVersions.{is_early}
use Rattle.seat_programs.specs.Asides.{Taking, Bytes, Nothing, Closed}
use Rattle.seat_programs.specs.ClientProgram.{ending_of}
use Rattle.seat_programs.specs.LoopHeads.{Reading, Sought, Posting, WasGone, WasStale, WasCrowded, WasQueued, HasLocked, Locking, NotThere, Has, Ended}
use Rattle.seat_programs.specs.PostPrograms.{packed, is_first, is_stale, is_full, is_sought, judged, posts_round, post_with, end_id, locking}
use Rattle.seat_programs.specs.Programs.{Program, Say, LAST_VERSION, recycle, release, add_reference, set_failed}
use Rattle.seat_programs.specs.ReaderProgram.{LIMIT, has_response, slot_in, version_in, answer, answered, responses, read_on, took, discarded, kept_for, ends_with, posted_last, post_each, thrown_away, read, reader}
use Rattle.send_causes.specs.Below.call_causes.proofs.HandledStates.{ends_final}
use Rattle.calm_runs.specs.CalmPrograms.{IsCalm}

module _ (S : ℕ → Type 0) where
  abbrev C : Program → Type 0
  C = IsCalm S

  -- ## Sockets

  calm_recycle : (i from : ℕ) (next : Bool → Program) → ((b : Bool) → C (next b)) → C (recycle i from next)
  calm_recycle i from next after = λ found. either_way (found == from) _ _ C
      (λ k. λ _. λ _. λ _. either_way (nat_le (vref_version from + 1) LAST_VERSION) _ _ C (λ _. after true) (after true))
      (after false)

  calm_release : (i : ℕ) (next : Bool → Program) → ((b : Bool) → C (next b)) → C (release i next)
  calm_release i next after = λ found. either_way ((vref_version found % 2 == 1) && (vref_nref found == 1)) _ _ C (calm_recycle i (found - 1) next after) (after false)

  calm_address : (id : ℕ) (held : Program) (gone : ℕ → Program) → C held → ((found : ℕ) → C (gone found)) → C (add_reference id held gone)
  calm_address id held gone h after = λ found. either_way (vref_version found == socket_id_version id) _ _ C h (calm_release (socket_id_slot id) (λ _. gone found) (λ _. after found))

  calm_set_failed : (id code : ℕ) (next : ℕ → Program) → ((found : ℕ) → C (next found)) → C (set_failed id code next)
  calm_set_failed id code next after = λ found. either_way (vref_version found % 2 == 0) _ _ C (λ _. λ _. after found) (after found)

  calm_failing : (id code : ℕ) (next : Program) → C next → C (add_reference id (set_failed id code (λ _. release (socket_id_slot id) (λ _. next))) (λ _. next))
  calm_failing id code next after = calm_address id _ _ (calm_set_failed id code _ (λ _. calm_release (socket_id_slot id) _ (λ _. after))) (λ _. after)

  pub ending_calm : (os : List ℕ) → C (ending_of os)
  ending_calm [] = tt
  ending_calm (o ∷ os) = λ word. either_way (word == 0) _ _ C (ending_calm os) (either_way (word == NO_SOCKET) _ _ C (ending_calm os) (calm_failing (word - 1) 1014 (ending_of os) (ending_calm os)))

  -- ## Ids

  pub calm_end_id : (i : ℕ) (next : Program) → C next → C (end_id i next)
  calm_end_id i next after = λ found. either_way (nat_le ((parts found).first + (parts found).range) LAST) _ _ C (λ _. after) after

  calm_answer : (frame : Frame) (first : ℕ) (next : Program) → C next → C (answer frame first next)
  calm_answer frame first next after = λ asked spoken. calm_end_id (slot_in frame) (Say asked.operation (outcome_of (call_id (slot_in frame) first) frame) next) (spoken, after)

  calm_answered : (frame : Frame) (kept : List Frame) (k : List Frame → Program) → ((kept : List Frame) → C (k kept)) → (exit : Locking) → C (answered frame kept k exit)
  calm_answered frame kept k after (NotThere found) = after (cond (is_early (version_in frame) (parts found)) (kept ++ frame ∷ []) kept)
  calm_answered frame kept k after (Has word) = calm_answer frame (parts word).first (k kept) (after kept)

  pub calm_judged : (id e found : ℕ) (k : Posting → Program) → ((x : Posting) → C (k x)) → C (judged id e found k)
  calm_judged id e found k after = either_way (not (is_first (id_first id) (parts found))) _ _ C (after WasGone)
      (either_way (is_stale e (parts found)) _ _ C (after WasStale)
      (either_way (is_full (parts found)) _ _ C (after (WasCrowded (code_of (parts found).oldest) (code_of (parts found).second))) after))

  pub calm_posts : (id e from : ℕ) (k : Posting → Program) → ((x : Posting) → C (k x)) → C (posts_round id e from k)
  calm_posts id e from k after = λ found. either_way (found == from) _ _ C
      (either_way ((parts from).state == 1) _ _ C (after (HasLocked (packed (posted_word (parts from) e)))) (after WasQueued)) (calm_judged id e found k after)

  calm_post_with : (id e : ℕ) (k : Posting → Program) → ((x : Posting) → C (k x)) → C (post_with id e k)
  calm_post_with id e k after = λ found. calm_judged id e found k after

  pub calm_locking : (i : ℕ) (sought : Sought) (found : ℕ) (k : Locking → Program) → ((x : Locking) → C (k x)) → C (locking i sought found k)
  calm_locking i sought found k after = either_way (not (is_sought sought (parts found))) _ _ C (after (NotThere found)) (either_way ((parts found).state == 1) _ _ C after after)

  -- ## Readers

  calm_responses : (ids : ℕ) (fs kept : List Frame) (k : List Frame → Program) → ((kept : List Frame) → C (k kept)) → C (responses ids fs kept k)
  calm_responses ids [] kept k after = after kept
  calm_responses ids (f ∷ fs) kept k after = either_way (has_response f.meta.response && nat_lt (slot_in f) ids) _ _ C
      (calm_answered f kept (λ kept'. responses ids fs kept' k) (λ kept'. calm_responses ids fs kept' k after)) (calm_responses ids fs kept k after)

  calm_on : (r : Reading) (bytes : List ℕ) (e : streams.Ending) (k : Ended → Program) → ((how : Ended) → is_final how.code ≡ true → C (k how)) → C (read_on r bytes e k)
  calm_on r bytes (streams.Rest n) k after = either_way (nat_lt r.total LIMIT) _ _ C after (after _ refl)
  calm_on r bytes (streams.Fault at fault) k after = after _ refl

  pub calm_took : (r : Reading) (k : Ended → Program) → ((how : Ended) → is_final how.code ≡ true → C (k how)) → (t : Taking) → C (took r k t)
  calm_took r k after (Bytes bytes) = let s = streams.stream (r.rest ++ bytes) in
      calm_responses r.ids s.frames r.kept _ (λ kept. calm_on (record { ids = r.ids; link = r.link; id = r.id; rest = r.rest; total = r.total + length bytes; kept = kept }) (r.rest ++ bytes) s.ending k after)
  calm_took r k after Nothing = after
  calm_took r k after Closed = after _ refl
  calm_took r k after _ = after _ refl

  pub calm_discarded : (k total : ℕ) (next : ℕ → Program) → ((n : ℕ) → C (next n)) → (t : Taking) → C (discarded k total next t)
  calm_discarded k total next after (Bytes bytes) = either_way (nat_lt (total + length bytes) LIMIT) _ _ C after (after (total + length bytes))
  calm_discarded k total next after Nothing = after
  calm_discarded k total next after _ = after total

  calm_ends : (id e word : ℕ) (l : List Frame) (next : Program) → is_final (code_of e) ≡ true → C next → C (ends_with id e word l next)
  calm_ends id e word [] next final after = λ asked spoken. (ends_final (parts word) e final, spoken, λ code. (spoken, after))
  calm_ends id e word (f ∷ fs) next final after = calm_answer f (id_first id) next after

  calm_posted : (id e : ℕ) (kept : List Frame) (next : Program) → is_final (code_of e) ≡ true → C next → (x : Posting) → C (posted_last id e kept next x)
  calm_posted id e kept next final after (HasLocked word) = calm_ends id e word (kept_for id (parts word).range kept) next final after
  calm_posted id e kept next final after _ = after

  calm_each : (os : List ℕ) (k code : ℕ) (kept : List Frame) (next : Program) → is_final code ≡ true → C next → C (post_each os k code kept next)
  calm_each [] k code kept next final after = after
  calm_each (o ∷ os) k code kept next final after = λ w. let rest : Program = post_each os k code kept next in let id : ℕ = call_id (at_word_slot w) (at_word_first w) in let e : ℕ = error_of code (at_word_attempt w) in
      let final' : is_final (code_of (error_of code (at_word_attempt w))) ≡ true = ap is_final (code_back code (at_word_attempt w) (omega arith)) ∙ final in
      either_way (w == 0) _ _ C (calm_each os k code kept next final after)
      (either_way (at_word_link w == k) _ _ C (calm_post_with id e (posted_last id e kept rest) (calm_posted id e kept rest final' (calm_each os k code kept next final after))) (calm_each os k code kept next final after))
    where
      code_back : (c n : ℕ) → n < 8 → code_of (error_of c n) ≡ c
      code_back c n low = omega (arith, low)

  calm_thrown : (how : Ended) → C (thrown_away how)
  calm_thrown how = either_way (how.fault && nat_lt how.reading.total LIMIT) _ _ C (λ _. tt) tt

  calm_read : (calls : List ℕ) (how : Ended) → is_final how.code ≡ true → C (read calls how)
  calm_read calls how final = let last = calm_each calls how.reading.link how.code how.reading.kept (thrown_away how) final (calm_thrown how) in
      either_way how.closed _ _ C last (calm_failing how.reading.id how.code _ last)

  pub reader_calm : (calls : List ℕ) (k o : ℕ) → C (reader calls k o)
  reader_calm calls k o = λ word. either_way (word == NO_SOCKET) _ _ C tt (calm_read calls)
