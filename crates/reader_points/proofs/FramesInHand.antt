-- A reader goes through the frames of the bytes that it has in hand.
use Rattle.std.proofs.Common.{length-drop, None, nat_lt, append_assoc, ◌≡◌, ℕ, zero, suc, ◌+◌, ◌-◌, ◌≤◌, true, false, List, [], ◌∷◌, ◌++◌, length, drop, refl, ap, sym, ◌∙◌, arith}
use Rattle.std.proofs.Math.Path.{fun_ext}
use Rattle.std.specs.List.{AllByRecursion}
use Rattle.std.proofs.lemmas.List.{drop-drop}
use Rattle.brpc_model.specs.Frame.{Frame, FrameFault, Judged, NoneYet, Faulty, Begins, judged}
use Rattle.brpc_model.specs.FrameStream.{Stream, Ending, Rest, Fault, goes_on, stream_up_to, stream_from, stream}
use Rattle.prpc_frame.specs.StreamCuts.{Cut}
use Rattle.prpc_frame.proofs.StreamCuts.{stream_whole, stream_rest, stream_fault, frames_anywhere}
use Rattle.seat_programs.specs.Asides.{Bytes}
use Rattle.seat_programs.specs.LoopHeads.{Reading, Locks, Version}
use Rattle.seat_programs.specs.Programs.{Program, Round}
use Rattle.seat_programs.specs.ReaderProgram.{LIMIT, slot_in, version_in, answered, responses, read_on, read, last_of}
use Rattle.call_points.specs.declared.locking.Locker.{Locker}
use Rattle.call_points.specs.declared.word_step.WordStep.TheVariants as id_steps
use Rattle.reader_points.specs.declared.point.CloseStep.TheVariants as closes
use Rattle.reader_points.specs.declared.point.ReadPoint.TheVariants as points
use Rattle.reader_points.specs.ReaderCodeSteps.{after_taking}
use Rattle.reader_points.specs.declared.point.ByteCount.{ByteCount}
use Rattle.reader_points.specs.declared.point.Reader.{Reader}
use Rattle.reader_points.specs.CutsInHand.{is_asked}
use Rattle.reader_points.specs.ReaderPoints.{Context, count_of, reading_with, frames_program, point_program, with_held, with_frame, with_taking, IsLocker}

-- ## Frames that are no responses

abbrev pub IsSkipped : ℕ → Frame → Type 0
IsSkipped ids f = is_asked ids f ≡ false

pub skipped : (ids : ℕ) (fs gs kept : List Frame) (k : List Frame → Program) → AllByRecursion (IsSkipped ids) fs → responses ids (fs ++ gs) kept k ≡ responses ids gs kept k
skipped ids [] gs kept k all = refl
skipped ids (f ∷ fs) gs kept k all = rw all.0 (skipped ids fs gs kept k all.1)

-- ## The same end wherever a stream begins

abbrev SameEnd : ℕ → Ending → Ending → Type 0
SameEnd most (Rest n) (Rest m) = (n ≡ m) × (n ≤ most)
SameEnd most (Fault at f) (Fault at' g) = Unit {0}
SameEnd most e e' = ⊥

more_end : (most more : ℕ) (e e' : Ending) → most ≤ more → SameEnd most e e' → SameEnd more e e'
more_end most more (Rest n) (Rest m) le h = (h.0, omega (arith, le, h.1))
more_end most more (Rest n) (Fault at f) le h = absurd h
more_end most more (Fault at f) (Rest n) le h = absurd h
more_end most more (Fault at f) (Fault at' g) le h = tt

goes_end : (at at' : ℕ) (bytes : List ℕ) (j : Judged) (f g : ℕ → Stream) → ((body : ℕ) → SameEnd (length bytes) (f body).ending (g body).ending) → SameEnd (length bytes) (goes_on at bytes j f).ending (goes_on at' bytes j g).ending
goes_end at at' bytes NoneYet f g h = (refl, omega arith)
goes_end at at' bytes (Faulty fault) f g h = tt
goes_end at at' bytes (Begins frame body) f g h = h body

drop_short : (n : ℕ) (l : List ℕ) → length (drop n l) ≤ length l
drop_short n l = omega (arith, length-drop n l)

same_end : (n at at' : ℕ) (bytes : List ℕ) → SameEnd (length bytes) (stream_up_to n at bytes).ending (stream_up_to n at' bytes).ending
same_end zero at at' bytes = (refl, omega arith)
same_end (suc n) at at' bytes = goes_end at at' bytes (judged bytes) (λ body. stream_up_to n (at + (12 + body)) (drop (12 + body) bytes)) (λ body. stream_up_to n (at' + (12 + body)) (drop (12 + body) bytes))
    (λ body. more_end (length (drop (12 + body) bytes)) (length bytes) (stream_up_to n (at + (12 + body)) (drop (12 + body) bytes)).ending (stream_up_to n (at' + (12 + body)) (drop (12 + body) bytes)).ending (drop_short (12 + body) bytes) (same_end n (at + (12 + body)) (at' + (12 + body)) (drop (12 + body) bytes)))

-- ## The bytes that are left

-- these are the last of those
pub record IsLeft (old new : List ℕ) : Type 0 where
  pub fewer : length new ≤ length old
  pub last : drop (length old - length new) old ≡ new

pub left_all : (bytes : List ℕ) → IsLeft bytes bytes
left_all bytes = record {
  fewer = omega arith;
  last = let e : length bytes - length bytes ≡ 0 = omega arith in rw e refl;
}

pub left_more : (old mid new : List ℕ) (m : ℕ) → IsLeft old mid → m ≤ length mid → new ≡ drop m mid → IsLeft old new
left_more old mid new m l le e =
    let size : length new + m ≡ length mid = omega (arith, ap length e, length-drop m mid, le) in
    let n : length old - length new ≡ (length old - length mid) + m = omega (arith, size, l.fewer) in
    record {
      fewer = omega (arith, size, l.fewer);
      last = ap (λ n. drop n old) n ∙ sym (drop-drop m (length old - length mid) old) ∙ ap (λ x. drop m x) l.last ∙ sym e;
    }

last_left : (old new : List ℕ) (n : ℕ) → IsLeft old new → n ≤ length new → last_of n old ≡ last_of n new
last_left old new n l le =
    let e : length old - n ≡ (length old - length new) + (length new - n) = omega (arith, le, l.fewer) in
    ap (λ m. drop m old) e ∙ sym (drop-drop (length new - n) (length old - length new) old) ∙ ap (λ x. drop (length new - n) x) l.last

-- how a reading goes on behind its frames, whatever its rest was before
pub read_same : (a : Context) (r : Reader) (old new kept : _) (e e' : Ending) → IsLeft old new → SameEnd (length new) e e' →
    read_on (reading_with a r old kept) old e (read a.calls) ≡ read_on (reading_with a r new kept) new e' (read a.calls)
read_same a r old new kept (Rest n) (Rest m) l h =
    let f : last_of n old ≡ last_of m new = last_left old new n l h.1 ∙ ap (λ k. last_of k new) h.0 in
    rw f refl
read_same a r old new kept (Fault at f) (Fault at' g) l h = refl
read_same a r old new kept (Rest n) (Fault at f) l h = absurd h
read_same a r old new kept (Fault at f) (Rest n) l h = absurd h

-- ## What is cut

-- the frames of a stream are gone through
abbrev goes : Context → Reader → List ℕ → List Frame → Stream → Program
goes a r bytes kept s = responses (length a.calls) s.frames kept (λ kept'. read_on (reading_with a r bytes kept') bytes s.ending (read a.calls))

none_asked : (ids : ℕ) (fs kept : List Frame) (k : List Frame → Program) → AllByRecursion (IsSkipped ids) fs → responses ids fs kept k ≡ k kept
none_asked ids [] kept k all = refl
none_asked ids (f ∷ fs) kept k all = rw all.0 (none_asked ids fs kept k all.1)

last_all : (bytes : List ℕ) → last_of (length bytes) bytes ≡ bytes
last_all bytes = let e : length bytes - length bytes ≡ 0 = omega arith in rw e refl

module _ (a : Context) (r : Reader) (old new : List ℕ) (fs : List Frame) (cut : Cut old fs new) (left : IsLeft old new) (all : AllByRecursion (IsSkipped (length a.calls)) fs) where
  rest_behind : judged new ≡ NoneYet → frames_program a r old a.kept ≡ read_on (reading_with a r new a.kept) new (Rest (length new)) (read a.calls)
  rest_behind e = ap (goes a r old a.kept) (stream_rest old new fs cut e)
      ∙ none_asked (length a.calls) fs a.kept (λ kept. read_on (reading_with a r old kept) old (Rest (length new)) (read a.calls)) all
      ∙ read_same a r old new a.kept (Rest (length new)) (Rest (length new)) left (refl, omega arith)

  -- no more is whole: bytes are taken below the limit
  pub takes_more : judged new ≡ NoneYet → nat_lt (count_of r.total) LIMIT ≡ true → frames_program a r old a.kept ≡ point_program (with_held new a) (points.Take r)
  takes_more e few = rest_behind e ∙ rw (few, last_all new) refl

  -- and at the limit the reading has ended
  pub takes_none : judged new ≡ NoneYet → nat_lt (count_of r.total) LIMIT ≡ false → frames_program a r old a.kept ≡ point_program (with_held new a) (points.Close (record { reader = r; fault = false; next = 0 }) closes.AddRef)
  takes_none e many = rest_behind e ∙ rw many refl

  -- so it has behind a fault
  pub ends_in_fault : (f : FrameFault) → judged new ≡ Faulty f → frames_program a r old a.kept ≡ point_program (with_held new a) (points.Close (record { reader = r; fault = true; next = 0 }) closes.AddRef)
  ends_in_fault f e = ap (goes a r old a.kept) (stream_fault old new fs cut f e)
      ∙ none_asked (length a.calls) fs a.kept (λ kept. read_on (reading_with a r old kept) old (Fault cut.size f) (read a.calls)) all

-- a response is cut
module _ (a : Context) (r : Reader) (old new : List ℕ) (fs : List Frame) (f : Frame) (cut : Cut old (fs ++ f ∷ []) new) (left : IsLeft old new) (all : AllByRecursion (IsSkipped (length a.calls)) fs) (asked : is_asked (length a.calls) f ≡ true) where
  abbrev later : Stream
  later = stream_from cut.size new

  abbrev read_old : List Frame → Program
  read_old kept = read_on (reading_with a r old kept) old later.ending (read a.calls)

  same_later : (kept : List Frame) → responses (length a.calls) later.frames kept read_old ≡ frames_program a r new kept
  same_later kept = ap (λ gs. responses (length a.calls) gs kept read_old) (frames_anywhere cut.size new)
      ∙ ap (λ k. responses (length a.calls) (stream new).frames kept k) (fun_ext (λ kept'. read_same a r old new kept' later.ending (stream new).ending left (same_end (suc (length new)) cut.size 0 new)))

  split_frames : (fs ++ f ∷ []) ++ later.frames ≡ fs ++ f ∷ later.frames
  split_frames = append_assoc fs (f ∷ []) later.frames

  first_asked : responses (length a.calls) (f ∷ later.frames) a.kept read_old ≡ Round (Locks (slot_in f) (Version (version_in f)) None) (answered f a.kept (λ kept. responses (length a.calls) later.frames kept read_old))
  first_asked = rw asked refl

  pub locks_next : (l : Locker) → IsLocker f l → frames_program a r old a.kept ≡ point_program (with_held new (with_frame f a)) (points.Lock r l id_steps.Read)
  locks_next l is = ap (goes a r old a.kept) (stream_whole old new (fs ++ f ∷ []) cut)
      ∙ ap (λ gs. responses (length a.calls) gs a.kept read_old) split_frames
      ∙ skipped (length a.calls) fs (f ∷ later.frames) a.kept read_old all
      ∙ first_asked
      ∙ ap (λ g. let p : Program = Round (Locks (slot_in f) (Version (version_in f)) None) (answered f a.kept g) in p) (fun_ext same_later)
      ∙ rw (is.slot, is.sought) refl

-- ## Bytes are taken

-- the rest of before plays no part
read_rest : (q : Reading) (ops : List ℕ) (x y bytes : List ℕ) (e : Ending) → read_on (record q { rest = x }) bytes e (read ops) ≡ read_on (record q { rest = y }) bytes e (read ops)
read_rest q ops x y bytes (Rest n) = refl
read_rest q ops x y bytes (Fault at f) = refl

pub takes_bytes : (a : Context) (r : Reader) (total : ByteCount) (bytes : List ℕ) → count_of total ≡ count_of r.total + length bytes →
    frames_program (with_taking (Bytes bytes) a) (record r { total = total }) (a.held ++ bytes) a.kept ≡ after_taking (point_program a (points.Take r)) (Bytes bytes)
takes_bytes a r total bytes e =
    let s = stream (a.held ++ bytes) in
    let q : List Frame → Reading = λ kept. record { ids = length a.calls; link = r.link; id = r.socket.0; rest = a.held; total = count_of r.total + length bytes; kept = kept } in
    rw e (ap (λ k. responses (length a.calls) s.frames a.kept k) (fun_ext (λ kept. read_rest (q kept) a.calls (a.held ++ bytes) a.held (a.held ++ bytes) s.ending)))
