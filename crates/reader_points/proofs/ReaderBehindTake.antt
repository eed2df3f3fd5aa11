-- A reader goes on by what a take found.
use Rattle.std.proofs.Common.{◌≡◌, ℕ, ◌+◌, true, false, nat_lt, length, refl, ap, sym, ◌∙◌}
use Rattle.seat_programs.specs.Asides.{Taking, Bytes, Nothing, NoMore, AtEnd, Closed, Broken}
use Rattle.seat_programs.specs.ReaderProgram.{LIMIT}
use Rattle.reader_points.specs.declared.point.ByteCount.{ByteCount}
use Rattle.reader_points.specs.declared.point.Reader.{Reader}
use Rattle.reader_points.specs.declared.point.CloseStep.TheVariants as closes
use Rattle.reader_points.specs.declared.point.ReadPoint.TheVariants as points
use Rattle.reader_points.specs.declared.point.ReadNext.TheVariants as nexts
use Rattle.reader_points.specs.declared.point.Taken.{Taken}
use Rattle.reader_points.specs.declared.point.Taken.TheVariants as takens
use Rattle.reader_points.specs.ReaderPoints.{Context, count_of, point_program, next_program, with_taking, IsTaken}
use Rattle.reader_points.specs.ReaderCodeSteps.{after_taking}
use Rattle.reader_points.proofs.FramesInHand.{takes_bytes}

module _ (a : Context) (r : Reader) where
  pub took_bytes : (total : ByteCount) (n : ℕ) (taking : Taking) → count_of total ≡ count_of r.total + n → IsTaken (takens.Bytes n) taking →
      next_program (with_taking taking a) (nexts.Frames (record r { total = total })) ≡ after_taking (point_program a (points.Take r)) taking
  took_bytes total n (Bytes bytes) e h = takes_bytes a r total bytes (e ∙ ap (λ m. count_of r.total + m) h)
  took_bytes total n _ e h = absurd h

  pub took_nothing : (taking : Taking) → IsTaken takens.Nothing taking → next_program (with_taking taking a) (nexts.Point (points.Take r)) ≡ after_taking (point_program a (points.Take r)) taking
  took_nothing Nothing h = refl
  took_nothing _ h = absurd h

  -- the reading has ended
  pub took_last : (taking : Taking) → IsTaken takens.Over taking →
      next_program (with_taking taking a) (nexts.Point (points.Close (record { reader = r; fault = false; next = 0 }) closes.AddRef)) ≡ after_taking (point_program a (points.Take r)) taking
  took_last (Bytes bytes) h = absurd h
  took_last Nothing h = absurd h
  took_last NoMore h = refl
  took_last AtEnd h = refl
  took_last Closed h = absurd h
  took_last Broken h = refl

  pub took_close : (taking : Taking) → IsTaken takens.Closed taking → next_program (with_taking taking a) (nexts.Posts (record { reader = r; fault = false; next = 0 })) ≡ after_taking (point_program a (points.Take r)) taking
  took_close Closed h = refl
  took_close _ h = absurd h

-- ## Behind a frame fault

-- nothing will come
abbrev pub IsOver : Taken → Type 0
IsOver takens.Over = Unit {0}
IsOver takens.Closed = Unit {0}
IsOver other = ⊥

module _ (a : Context) (link : ℕ) (before : ByteCount) where
  pub threw_bytes : (total : ByteCount) (n : ℕ) (taking : Taking) → count_of total ≡ count_of before + n → nat_lt (count_of total) LIMIT ≡ true → IsTaken (takens.Bytes n) taking →
      point_program a (points.Discard link total) ≡ after_taking (point_program a (points.Discard link before)) taking
  threw_bytes total n (Bytes bytes) e few h =
      let f : count_of total ≡ count_of before + length bytes = e ∙ ap (λ m. count_of before + m) h in
      let g : nat_lt (count_of before + length bytes) LIMIT ≡ true = sym (ap (λ m. nat_lt m LIMIT) f) ∙ few in
      rw (g, f) refl
  threw_bytes total n _ e few h = absurd h

  pub threw_all : (total : ByteCount) (n : ℕ) (taking : Taking) → count_of total ≡ count_of before + n → nat_lt (count_of total) LIMIT ≡ false → IsTaken (takens.Bytes n) taking →
      point_program a points.Rest ≡ after_taking (point_program a (points.Discard link before)) taking
  threw_all total n (Bytes bytes) e many h =
      let f : count_of total ≡ count_of before + length bytes = e ∙ ap (λ m. count_of before + m) h in
      let g : nat_lt (count_of before + length bytes) LIMIT ≡ false = sym (ap (λ m. nat_lt m LIMIT) f) ∙ many in
      rw g refl
  threw_all total n _ e many h = absurd h

  pub threw_nothing : (taking : Taking) → IsTaken takens.Nothing taking → point_program a (points.Discard link before) ≡ after_taking (point_program a (points.Discard link before)) taking
  threw_nothing Nothing h = refl
  threw_nothing _ h = absurd h

  pub threw_last : (taken : Taken) (taking : Taking) → IsOver taken → IsTaken taken taking → point_program a points.Rest ≡ after_taking (point_program a (points.Discard link before)) taking
  threw_last takens.Over NoMore o h = refl
  threw_last takens.Over AtEnd o h = refl
  threw_last takens.Over Broken o h = refl
  threw_last takens.Closed Closed o h = refl
  threw_last takens.Over (Bytes bytes) o h = absurd h
  threw_last takens.Over Nothing o h = absurd h
  threw_last takens.Over Closed o h = absurd h
  threw_last takens.Closed (Bytes bytes) o h = absurd h
  threw_last takens.Closed Nothing o h = absurd h
  threw_last takens.Closed NoMore o h = absurd h
  threw_last takens.Closed AtEnd o h = absurd h
  threw_last takens.Closed Broken o h = absurd h
  threw_last (takens.Bytes n) taking o h = absurd o
  threw_last takens.Nothing taking o h = absurd o
