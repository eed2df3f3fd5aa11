-- What a reading costs: each byte pays for the steps that it may make, and each whole frame for those of its response.
use Rattle.std.proofs.Common.{◌≡◌, ◌≢◌, ℕ, zero, suc, ◌+◌, ◌-◌, ◌*◌, ◌<◌, ◌≤◌, Bool, true, false, ◌&&◌, List, [], ◌∷◌, ◌++◌, length, length-append, length-drop, drop, refl, arith, cond, nat_lt, None}
use Rattle.sock_words.specs.declared.plain.Plan.{Plan}
use Rattle.sock_model.specs.declared.view.View.{View}
use Rattle.seat_programs.specs.brpc_model.specs.Frame.{Frame, Judged, NoneYet, Faulty, Begins, judged}
use Rattle.seat_programs.specs.brpc_model.specs.FrameStream as streams
use Rattle.seat_programs.specs.brpc_model.specs.ResponseOutcome.{ending_of}
use Rattle.seat_programs.specs.corr_core.specs.IdSlotWord.{parts}
use Rattle.seat_programs.specs.corr_core.specs.IdRangeVersions.{is_early}
use Rattle.seat_programs.specs.Asides.{TakeBytes, Taking, Bytes, Nothing, Closed}
use Rattle.seat_programs.specs.LoopHeads.{Version, Reading, Locks, Reads, Discards, Locking, NotThere, Has, Ended}
use Rattle.seat_programs.specs.Programs.{Program, Say, Round}
use Rattle.seat_programs.specs.ReaderProgram.{LIMIT, answer, answered, responses, read_on, took, took_bytes, last_of, ended_by, room_of, discarded, slot_in, version_in, has_response}
use Rattle.sock_runs.specs.program_steps.specs.IdWordFits.{FitsEnded}
use Rattle.sock_runs.specs.program_steps.specs.TicksLeftAtMost.{LastsFor, CHANGE, FRAME}
use Rattle.runs_end.proofs.IdCosts.{lasts_more, end_lasts, Falls}
use Rattle.sock_words.specs.PackedWords.{call_id}

-- ## Takes

-- the bytes that are found are as many as there is room for at most
abbrev pub FitsRoom : ℕ → Taking → Type 0
FitsRoom room (Bytes bytes) = (0 < length bytes) × (length bytes ≤ room)
FitsRoom room other = Unit {0}

-- ## Streams

-- the bytes behind the last frame
abbrev pub rest_of : streams.Ending → ℕ
rest_of (streams.Rest n) = n
rest_of (streams.Fault at fault) = 0

few_on : (at : ℕ) (bytes : List ℕ) (j : Judged) (later : ℕ → streams.Stream) → 0 < length bytes → ((body : ℕ) → length (later body).frames + rest_of (later body).ending ≤ length (drop (12 + body) bytes))
    → length (streams.goes_on at bytes j later).frames + rest_of (streams.goes_on at bytes j later).ending ≤ length bytes
few_on at bytes NoneYet later some_ few = omega arith
few_on at bytes (Faulty fault) later some_ few = omega arith
few_on at bytes (Begins f body) later some_ few = let a = few body in omega (arith, a, some_, length-drop (12 + body) bytes)

few_up_to : (most at : ℕ) (bytes : List ℕ) → length (streams.stream_up_to most at bytes).frames + rest_of (streams.stream_up_to most at bytes).ending ≤ length bytes
few_up_to zero at bytes = omega arith
few_up_to (suc most) at [] = omega arith
few_up_to (suc most) at (b ∷ bs) = few_on at (b ∷ bs) (judged (b ∷ bs)) (λ body. streams.stream_up_to most (at + (12 + body)) (drop (12 + body) (b ∷ bs))) (omega arith) (λ body. few_up_to most (at + (12 + body)) (drop (12 + body) (b ∷ bs)))

-- each frame has a byte
frames_few : (bytes : List ℕ) → length (streams.stream bytes).frames + rest_of (streams.stream bytes).ending ≤ length bytes
frames_few bytes = few_up_to (suc (length bytes)) 0 bytes

-- ## Readings

module _ (p : Plan) (v : View) where
  pub answer_lasts : (frame : Frame) (first : ℕ) (next : Program) (m : ℕ) → LastsFor p v next m → LastsFor p v (answer frame first next) (CHANGE + 2 + m)
  answer_lasts frame first next m l = λ asked fits. (
    CHANGE + 1 + m,
    omega arith,
    end_lasts p v (slot_in frame) (Say asked.operation (ending_of (call_id (slot_in frame) first) frame) next) m (CHANGE + 1 + m) l (omega arith),
  )

  -- a response, where so many steps are left behind it
  response_lasts : (ids : ℕ) (f : Frame) (kept : List Frame) (later : List Frame → Program) (m : ℕ) → ((kept' : List Frame) → LastsFor p v (later kept') m)
      → LastsFor p v (cond (has_response f.meta.response && nat_lt (slot_in f) ids) (Round (Locks (slot_in f) (Version (version_in f)) None) (answered f kept later)) (later kept)) (FRAME + m)
  response_lasts ids f kept later m l = by_response (has_response f.meta.response && nat_lt (slot_in f) ids)
    where
      answered_last : (exit : Locking) → LastsFor p v (answered f kept later exit) (CHANGE + 2 + m + 0)
      answered_last (NotThere found) = let kept' : List Frame = cond (is_early (version_in f) (parts found)) (kept ++ f ∷ []) kept in lasts_more p v (later kept') m (CHANGE + 2 + m + 0) (omega arith) (l kept')
      answered_last (Has word) = lasts_more p v (answer f (parts word).first (later kept)) (CHANGE + 2 + m) (CHANGE + 2 + m + 0) (omega arith) (answer_lasts f (parts word).first (later kept) m (l kept))

      by_response : (b : Bool) → LastsFor p v (cond b (Round (Locks (slot_in f) (Version (version_in f)) None) (answered f kept later)) (later kept)) (FRAME + m)
      by_response true = (CHANGE + 2 + m, omega arith, λ exit _. answered_last exit)
      by_response false = lasts_more p v (later kept) m (FRAME + m) (omega arith) (l kept)

  pub responses_last : (ids : ℕ) (fs kept : List Frame) (k : List Frame → Program) (m : ℕ) → ((kept' : List Frame) → LastsFor p v (k kept') m) → LastsFor p v (responses ids fs kept k) (length fs * FRAME + m)
  responses_last ids [] kept k m l = lasts_more p v (k kept) m (0 * FRAME + m) (omega arith) (l kept)
  responses_last ids (f ∷ fs) kept k m l = lasts_more p v (responses ids (f ∷ fs) kept k) (FRAME + (length fs * FRAME + m)) (suc (length fs) * FRAME + m) (omega arith)
      (response_lasts ids f kept (λ kept'. responses ids fs kept' k) (length fs * FRAME + m) (λ kept'. responses_last ids fs kept' k m l))

  -- what a reading costs that has this number of bytes and this rest
  abbrev pub reading_cost : ℕ → ℕ → ℕ
  reading_cost total rest = (LIMIT - total) * (1 + FRAME) + rest * FRAME + 1

  read_lasts : (r : Reading) (bytes : List ℕ) (s : streams.Ending) (k : Ended → Program) (m : ℕ) → ((exit : Ended) → FitsEnded r.id exit → LastsFor p v (k exit) (m + 0)) → LastsFor p v (read_on r bytes s k) (reading_cost r.total (rest_of s) + m)
  read_lasts r bytes (streams.Rest n) k m l = let r' : Reading = record r { rest = last_of n bytes } in by_limit (nat_lt r.total LIMIT)
    where
      by_limit : (b : Bool) → LastsFor p v (cond b (Round (Reads (record r { rest = last_of n bytes })) k) (k (ended_by 1014 false false (record r { rest = last_of n bytes })))) (reading_cost r.total n + m)
      by_limit true = (m, omega (arith, length-drop (length bytes - n) bytes), l)
      by_limit false = let e : Ended = ended_by 1014 false false (record r { rest = last_of n bytes }) in lasts_more p v (k e) (m + 0) (reading_cost r.total n + m) (omega arith) (l e (refl, λ z. absurd (omega (arith, z))))
  read_lasts r bytes (streams.Fault at fault) k m l = let e : Ended = ended_by 2002 false true r in lasts_more p v (k e) (m + 0) (reading_cost r.total 0 + m) (omega arith) (l e (refl, λ z. absurd (omega (arith, z))))

  bytes_last : (r : Reading) (bytes : List ℕ) (k : Ended → Program) (m n : ℕ) → ((exit : Ended) → FitsEnded r.id exit → LastsFor p v (k exit) (m + 0)) → reading_cost r.total (length r.rest) + m ≤ n → 0 < length bytes → length bytes ≤ LIMIT - r.total
      → (x : ℕ) × (x + 1 ≤ n) × LastsFor p v (took_bytes r bytes k) x
  bytes_last r bytes k m n l room some_ few = let all : List ℕ = r.rest ++ bytes in let s : streams.Stream = streams.stream (r.rest ++ bytes) in (
    length s.frames * FRAME + (reading_cost (r.total + length bytes) (rest_of s.ending) + m),
    sums (length s.frames) (rest_of s.ending) (length (r.rest ++ bytes)) (length-append r.rest bytes) (frames_few (r.rest ++ bytes)),
    responses_last r.ids s.frames r.kept (λ kept. read_on (record { ids = r.ids; link = r.link; id = r.id; rest = r.rest; total = r.total + length bytes; kept = kept }) all s.ending k) (reading_cost (r.total + length bytes) (rest_of s.ending) + m)
        (λ kept. read_lasts (record { ids = r.ids; link = r.link; id = r.id; rest = r.rest; total = r.total + length bytes; kept = kept }) all s.ending k m l),
  )
    where
      sums : (f t a : ℕ) → a ≡ length r.rest + length bytes → f + t ≤ a → f * FRAME + (reading_cost (r.total + length bytes) t + m) + 1 ≤ n
      sums f t a is le = omega (arith, is, le, room, some_, few)

  -- a take that finds something, where it doesn't wait
  pub reads_fall : (r : Reading) (k : Ended → Program) (n : ℕ) → LastsFor p v (Round (Reads r) k) n → (t : Taking) → FitsRoom (room_of r.total) t → t ≢ Nothing → Falls p v (TakeBytes r.link (room_of r.total)) (took r k) n t
  reads_fall r k n l (Bytes bytes) fits moves = let few = fits.1 in let x = bytes_last r bytes k l.0 n l.2 l.1 fits.0 (omega (arith, few)) in let le = x.1 in (x.0, omega (arith, le), x.2)
  reads_fall r k n l Nothing fits moves = absurd (moves refl)
  reads_fall r k n l Closed fits moves = let room = l.1 in (l.0 + 0, omega (arith, room), l.2 (ended_by 1014 true false r) (refl, λ z. absurd (omega (arith, z))))
  reads_fall r k n l _ fits moves = let room = l.1 in (l.0 + 0, omega (arith, room), l.2 (ended_by 1014 false false r) (refl, λ z. absurd (omega (arith, z))))

  pub discards_fall : (j total : ℕ) (k : ℕ → Program) (n : ℕ) → LastsFor p v (Round (Discards j total) k) n → (t : Taking) → FitsRoom (room_of total) t → t ≢ Nothing → Falls p v (TakeBytes j (room_of total)) (discarded j total k) n t
  discards_fall j total k n l (Bytes bytes) fits moves = by_limit (nat_lt (total + length bytes) LIMIT) l.0 l.1 l.2
    where
      by_limit : (b : Bool) (m : ℕ) → LIMIT - total + 1 + m ≤ n → ((exit : ℕ) → Unit {0} → LastsFor p v (k exit) (m + 0))
          → (x : ℕ) × (x + 1 ≤ n + 0 + 0) × LastsFor p v (cond b (Round (Discards j (total + length bytes)) k) (k (total + length bytes))) x
      by_limit true m room leave = let some_ = fits.0 in let few = fits.1 in (LIMIT - (total + length bytes) + 1 + m, omega (arith, room, some_, few), (m, omega arith, leave))
      by_limit false m room leave = (m + 0, omega (arith, room), leave (total + length bytes) tt)
  discards_fall j total k n l Nothing fits moves = absurd (moves refl)
  discards_fall j total k n l _ fits moves = let room = l.1 in (l.0 + 0, omega (arith, room), l.2 total tt)
