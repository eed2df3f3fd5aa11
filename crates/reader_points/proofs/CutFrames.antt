-- What a reader cuts out of its bytes: one frame behind another, up to the first response, the rest or a fault.
use Rattle.std.proofs.Common.{◌≡◌, ℕ, ◌+◌, Bool, true, false, nat_lt, List, [], ◌∷◌, ◌++◌, Option, Some, None, option_map, refl}
use Rattle.std.specs.List.{AllByRecursion}
use Rattle.brpc_model.specs.Frame as model
use Rattle.brpc_model.specs.Frame.{Judged, NoneYet, Faulty, judged}
use Rattle.prpc_frame.specs.CutterAnswers.{Cuts}
use Rattle.prpc_frame.specs.StreamCuts.{Cut}
use Rattle.prpc_frame.specs.FrameMeaning.{frame_of, fault_of, IsFault}
use Rattle.prpc_frame.specs.declared.frame.Frame.{Frame}
use Rattle.prpc_frame.specs.declared.fault.FrameFault.{FrameFault}
use Rattle.seat_programs.specs.ReaderProgram.{LIMIT}
use Rattle.call_points.specs.declared.locking.Locker.{Locker}
use Rattle.call_points.specs.declared.word_step.WordStep.TheVariants as id_steps
use Rattle.reader_points.specs.declared.cutting.Cut as code
use Rattle.reader_points.specs.declared.point.CloseStep.TheVariants as closes
use Rattle.reader_points.specs.declared.point.ReadPoint.TheVariants as points
use Rattle.reader_points.specs.declared.point.Reader.{Reader}
use Rattle.reader_points.specs.CutsInHand.{is_asked, GoesOnBehind}
use Rattle.reader_points.specs.ReaderPoints.{count_of, IsLocker}
use Rattle.reader_points.proofs.FramesInHand.{IsSkipped, IsLeft, left_more, takes_more, takes_none, ends_in_fault, locks_next}

-- one more that is no response
pub more_skipped : (ids : ℕ) (fs : List model.Frame) (f : model.Frame) → AllByRecursion (IsSkipped ids) fs → is_asked ids f ≡ false → AllByRecursion (IsSkipped ids) (fs ++ f ∷ [])
more_skipped ids [] f all none = (none, tt)
more_skipped ids (g ∷ fs) f all none = (all.0, more_skipped ids fs f all.1 none)

-- the bytes behind the frame that was cut
pub left_cut : (old mid new : List ℕ) (j : Judged) (f : model.Frame) → IsLeft old mid → Cuts j mid f new → IsLeft old new
left_cut old mid new j f left c = left_more old mid new (12 + c.body) left c.there c.rest

-- a fault is one of the bytes
faulty : (o : Option model.FrameFault) (j : Judged) → option_map (λ f. Faulty f) o ≡ Some j → (f : model.FrameFault) × (j ≡ Faulty f)
faulty None j e = absurd (cc)
faulty (Some f) j e = (f, cc)

module _ (r : Reader) (ids : ℕ) (old : List ℕ) (fs : List model.Frame) (all : AllByRecursion (IsSkipped ids) fs) where
  -- a response was cut
  pub goes_locked : (new : List ℕ) (f : Frame) (l : Locker) → Cut old (fs ++ frame_of f ∷ []) new → IsLeft old new → is_asked ids (frame_of f) ≡ true → IsLocker (frame_of f) l →
      GoesOnBehind r ids old new (record { frame = Some f; point = points.Lock r l id_steps.Read })
  goes_locked new f l cut left asked is = record {
    program = λ a n. locks_next a r old new fs (frame_of f) cut left (rw n all) (rw n asked) l is;
    hand = λ a. (refl, is);
  }

  goes_taking : (new : List ℕ) → Cut old fs new → IsLeft old new → judged new ≡ NoneYet → nat_lt (count_of r.total) LIMIT ≡ true → GoesOnBehind r ids old new (record { frame = None; point = points.Take r })
  goes_taking new cut left none few = record {
    program = λ a n. takes_more a r old new fs cut left (rw n all) none few;
    hand = λ a. (none, few);
  }

  goes_ended : (new : List ℕ) → Cut old fs new → IsLeft old new → judged new ≡ NoneYet → nat_lt (count_of r.total) LIMIT ≡ false →
      GoesOnBehind r ids old new (record { frame = None; point = points.Close (record { reader = r; fault = false; next = 0 }) closes.AddRef })
  goes_ended new cut left none many = record {
    program = λ a n. takes_none a r old new fs cut left (rw n all) none many;
    hand = λ a. tt;
  }

  goes_more_by : (new : List ℕ) (result : code.Cut) (b : Bool) → Cut old fs new → IsLeft old new → judged new ≡ NoneYet → nat_lt (count_of r.total) LIMIT ≡ b →
      (nat_lt (count_of r.total) LIMIT ≡ true → result ≡ record { frame = None; point = points.Take r }) →
      (nat_lt (count_of r.total) LIMIT ≡ false → result ≡ record { frame = None; point = points.Close (record { reader = r; fault = false; next = 0 }) closes.AddRef }) →
      GoesOnBehind r ids old new result
  goes_more_by new result true cut left none e below at_limit = rw (below e) (goes_taking new cut left none e)
  goes_more_by new result false cut left none e below at_limit = rw (at_limit e) (goes_ended new cut left none e)

  -- none is whole
  pub goes_more : (mid new : List ℕ) (result : code.Cut) → Cut old fs mid → IsLeft old mid → judged mid ≡ NoneYet → new ≡ mid →
      (nat_lt (count_of r.total) LIMIT ≡ true → result ≡ record { frame = None; point = points.Take r }) →
      (nat_lt (count_of r.total) LIMIT ≡ false → result ≡ record { frame = None; point = points.Close (record { reader = r; fault = false; next = 0 }) closes.AddRef }) →
      GoesOnBehind r ids old new result
  goes_more mid new result cut left none same below at_limit = rw same (goes_more_by mid result (nat_lt (count_of r.total) LIMIT) cut left none refl below at_limit)

  -- there is a fault
  pub goes_faulty : (mid new : List ℕ) (fault : FrameFault) (result : code.Cut) → Cut old fs mid → IsLeft old mid → IsFault (judged mid) fault → new ≡ mid →
      result ≡ record { frame = None; point = points.Close (record { reader = r; fault = true; next = 0 }) closes.AddRef } → GoesOnBehind r ids old new result
  goes_faulty mid new fault result cut left is same e =
      let f = faulty (fault_of fault) (judged mid) is in
      rw (same, e) (record {
        program = λ a n. ends_in_fault a r old mid fs cut left (rw n all) f.0 f.1;
        hand = λ a. tt;
      })
