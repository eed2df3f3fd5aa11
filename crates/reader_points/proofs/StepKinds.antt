-- Which steps of a reader find a word, and which a call.
use Rattle.std.proofs.Common.{◌≡◌, ℕ, ◌+◌, Bool, true, false, if◌then◌else◌, [], Option, Some, None, refl, sym, subst, ◌∙◌}
use Rattle.sock_message.specs.Asked.{Asked}
use Rattle.seat_programs.specs.Asides as steps_aside
use Rattle.sock_words.specs.declared.id_word.IdWord.{IdWord}
use Rattle.corr_core.specs.IdSlotWord.{parts, code_of}
use Rattle.corr_core.specs.EndedByRangeOrAttempt.{ends_call}
use Rattle.seat_programs.specs.LoopHeads.{Locking, Posting, HasEnded, Unlocks}
use Rattle.seat_programs.specs.PostPrograms.{end_id, unlocked}
use Rattle.seat_programs.specs.Programs.{Program, Round}
use Rattle.seat_programs.specs.Programs as programs
use Rattle.seat_states.specs.declared.point.ReleaseStep.TheVariants as releases
use Rattle.seat_states.specs.ProgramStepsOfMachine.{First, OfTable, OfAside, first_of, first_in}
use Rattle.reader_points.specs.declared.point.Closing.{Closing}
use Rattle.reader_points.specs.declared.point.CloseStep.{CloseStep}
use Rattle.reader_points.specs.declared.point.CloseStep.TheVariants as closes
use Rattle.reader_points.specs.declared.point.FailStep.TheVariants as fails
use Rattle.reader_points.specs.declared.point.ReadStep.{ReadStep}
use Rattle.reader_points.specs.ReaderCodeSteps.{step_as}
use Rattle.call_points.specs.CallIdPoints.{lock_program, post_program}
use Rattle.call_points.specs.AsideCodeSteps.{step_of, aside_in}
use Rattle.call_points.specs.declared.aside.Aside.{Aside}
use Rattle.call_points.specs.declared.aside.Aside.TheVariants as asides
use Rattle.call_points.specs.declared.ending.EndStep.TheVariants as ends
use Rattle.call_points.specs.declared.locking.Locker.{Locker}
use Rattle.call_points.specs.declared.word_step.WordStep.{WordStep}
use Rattle.call_points.specs.declared.word_step.WordStep.TheVariants as id_steps
use Rattle.id_points.specs.declared.call_id.CallId.{CallId}
use Rattle.id_points.specs.IdsAndAttemptNumbers.{id_of}
use Rattle.reader_points.specs.declared.point.AnswerStep.{AnswerStep}
use Rattle.reader_points.specs.declared.point.AnswerStep.TheVariants as answers
use Rattle.reader_points.specs.declared.point.Behind.{Behind}
use Rattle.reader_points.specs.declared.point.Lost.{Lost}
use Rattle.reader_points.specs.declared.point.Reader.{Reader}
use Rattle.reader_points.specs.declared.point.ReadPoint.{ReadPoint}
use Rattle.reader_points.specs.declared.point.ReadPoint.TheVariants as points
use Rattle.reader_points.specs.declared.point.ReadStep.TheVariants as steps
use Rattle.reader_points.specs.ReaderPoints.{Context, on_call, error_in, room_at, answer_program, close_program, fail_program, ended_call, point_program, NO_FRAME, GoesBy, GoesByWord, TakesBytes, TakesCall}
use Rattle.sock_words.specs.PackedWords.{id_slot}

-- a reader with nothing in hand
abbrev pub nowhere : Context
nowhere = record { calls = []; held = []; kept = []; frame = NO_FRAME; fresh = false; asked = record { operation = 0; names = []; service = []; method = []; payload = []; attachment = []; range = 0 } }

abbrev FindsWord : steps_aside.Step → Type 0
FindsWord (steps_aside.TakeCall i) = ⊥
FindsWord (steps_aside.TakeBytes k room) = ⊥
FindsWord other = Unit {0}

abbrev FindsIn : Option steps_aside.Step → Type 0
FindsIn None = ⊥
FindsIn (Some step) = FindsWord step

module _ (point : ReadPoint) (asked : Asked) where
  goes_by : (x : Aside) → FindsWord (step_of asked x) → GoesByWord point → GoesBy point (Some (steps.Aside x))
  goes_by (asides.TakeCall i) h g = absurd h
  goes_by (asides.TakeBytes k n) h g = absurd h
  goes_by _ h g = g

  takes_call : (x : Aside) (slot : ℕ) → Some (step_of asked x) ≡ Some (steps_aside.TakeCall slot) → TakesCall point → GoesBy point (Some (steps.Aside x))
  takes_call (asides.TakeCall i) slot e t = t
  takes_call _ slot e t = absurd (cc)

pub locks_by : (asked : Asked) (r : Reader) (l : Locker) (at : WordStep) (x : Aside) (k : Locking → Program) → Some (step_of asked x) ≡ aside_in (lock_program l k at) → GoesBy (points.Lock r l at) (Some (steps.Aside x))
locks_by asked r l id_steps.Read x k e = goes_by (points.Lock r l id_steps.Read) asked x (subst FindsIn (sym e) tt) tt
locks_by asked r l (id_steps.Exchange from) x k e = goes_by (points.Lock r l (id_steps.Exchange from)) asked x (subst FindsIn (sym e) tt) tt

pub posts_by : (asked : Asked) (l : Lost) (at : WordStep) (x : Aside) (k : Posting → Program) → Some (step_of asked x) ≡ aside_in (post_program (on_call l) k at) → GoesBy (points.Post l at) (Some (steps.Aside x))
posts_by asked l id_steps.Read x k e = goes_by (points.Post l id_steps.Read) asked x (subst FindsIn (sym e) tt) tt
posts_by asked l (id_steps.Exchange from) x k e = goes_by (points.Post l (id_steps.Exchange from)) asked x (subst FindsIn (sym e) tt) tt

pub answers_by : (a : Context) (b : Behind) (id : CallId) (at : AnswerStep) (x : Aside) → Some (step_of a.asked x) ≡ aside_in (answer_program a b (id_of id) at) → GoesBy (points.Answer b id at) (Some (steps.Aside x))
answers_by a b id answers.Take x e = takes_call (points.Answer b id answers.Take) a.asked x _ e tt
answers_by a b id (answers.End o ends.End) x e = goes_by (points.Answer b id (answers.End o ends.End)) a.asked x (subst FindsIn (sym e) tt) tt
answers_by a b id (answers.End o ends.Free) x e = goes_by (points.Answer b id (answers.End o ends.Free)) a.asked x (subst FindsIn (sym e) tt) tt

-- ## From the first step of the program

abbrev FirstFinds : First → Type 0
FirstFinds (OfTable call) = Unit {0}
FirstFinds (OfAside step) = FindsWord step
FirstFinds other = ⊥

abbrev FirstFindsIn : Option First → Type 0
FirstFindsIn None = ⊥
FirstFindsIn (Some first) = FirstFinds first

module _ (point : ReadPoint) (asked : Asked) where
  on_word : (step : ReadStep) → FirstFinds (step_as asked step) → GoesByWord point → GoesBy point (Some step)
  on_word (steps.Table call) h g = g
  on_word (steps.Aside x) h g = goes_by point asked x h g

  on_call_home : (step : ReadStep) (slot : ℕ) → Some (OfAside (steps_aside.TakeCall slot)) ≡ Some (step_as asked step) → TakesCall point → GoesBy point (Some step)
  on_call_home (steps.Table call) slot e t = absurd (cc)
  on_call_home (steps.Aside x) slot e t = let same : Some (step_of asked x) ≡ Some (steps_aside.TakeCall slot) = cc in takes_call point asked x slot same t

  takes_bytes : (x : Aside) (link n : ℕ) → Some (step_of asked x) ≡ Some (steps_aside.TakeBytes link n) → n ≡ room_at point → TakesBytes point → GoesBy point (Some (steps.Aside x))
  takes_bytes (asides.TakeBytes k m) link n e is t = let same : m ≡ n = cc in (t, same ∙ is)
  takes_bytes _ link n e is t = absurd (cc)

  on_bytes : (step : ReadStep) (link n : ℕ) → Some (OfAside (steps_aside.TakeBytes link n)) ≡ Some (step_as asked step) → n ≡ room_at point → TakesBytes point → GoesBy point (Some step)
  on_bytes (steps.Table call) link n e is t = absurd (cc)
  on_bytes (steps.Aside x) link n e is t = let same : Some (step_of asked x) ≡ Some (steps_aside.TakeBytes link n) = cc in takes_bytes x link n same is t

closes_by : (a : Context) (c : Closing) (at : CloseStep) → FirstFindsIn (first_in (close_program a c at))
closes_by a c (closes.Release releases.SubRef) = tt
closes_by a c (closes.Release (releases.Recycle from)) = tt
closes_by a c (closes.Release (releases.LoadLink w)) = tt
closes_by a c (closes.Release (releases.TakeLink w k)) = tt
closes_by a c (closes.Release (releases.FinishLink w k)) = tt
closes_by a c (closes.Release (releases.PutLink w k)) = tt
closes_by a c (closes.Release releases.FreeSlot) = tt
closes_by a c _ = tt

either : (b : Bool) (p q : Program) → FirstFindsIn (first_of p) → FirstFindsIn (first_of q) → FirstFindsIn (first_of (if b then p else q))
either true p q h k = h
either false p q h k = k

judges_by : (a : Context) (l : Lost) (word : IdWord) → FirstFindsIn (first_in (fail_program a l (fails.Judge word)))
judges_by a l word =
    let slot = id_slot (id_of l.id) in
    either (ends_call (parts word.0) (error_in l)) (end_id slot (ended_call a l (HasEnded a.asked.operation (code_of (error_in l)))))
    (programs.Aside (steps_aside.PutCall slot a.asked) (λ _. Round (Unlocks slot word.0 true) (unlocked (record { id = id_of l.id; attempt = (parts word.0).attempt + 1 }) (ended_call a l)))) tt tt

-- a point goes on as the first step of its program does
pub goes_by_first : (a : Context) (point : ReadPoint) (step : ReadStep) → first_in (point_program a point) ≡ Some (step_as a.asked step) → GoesBy point (Some step)
goes_by_first a points.Rest step e = absurd (cc)
goes_by_first a (points.Open link o) step e = on_word (points.Open link o) a.asked step (subst FirstFindsIn e tt) tt
goes_by_first a (points.Take r) step e = on_bytes (points.Take r) a.asked step r.link (room_at (points.Take r)) e refl tt
goes_by_first a (points.Lock r l id_steps.Read) step e = on_word (points.Lock r l id_steps.Read) a.asked step (subst FirstFindsIn e tt) tt
goes_by_first a (points.Lock r l (id_steps.Exchange from)) step e = on_word (points.Lock r l (id_steps.Exchange from)) a.asked step (subst FirstFindsIn e tt) tt
goes_by_first a (points.Answer b id answers.Take) step e = on_call_home (points.Answer b id answers.Take) a.asked step _ e tt
goes_by_first a (points.Answer b id (answers.End o ends.End)) step e = on_word (points.Answer b id (answers.End o ends.End)) a.asked step (subst FirstFindsIn e tt) tt
goes_by_first a (points.Answer b id (answers.End o ends.Free)) step e = on_word (points.Answer b id (answers.End o ends.Free)) a.asked step (subst FirstFindsIn e tt) tt
goes_by_first a (points.Close c at) step e = on_word (points.Close c at) a.asked step (subst FirstFindsIn e (closes_by a c at)) tt
goes_by_first a (points.Load c o) step e = on_word (points.Load c o) a.asked step (subst FirstFindsIn e tt) tt
goes_by_first a (points.Post l id_steps.Read) step e = on_word (points.Post l id_steps.Read) a.asked step (subst FirstFindsIn e tt) tt
goes_by_first a (points.Post l (id_steps.Exchange from)) step e = on_word (points.Post l (id_steps.Exchange from)) a.asked step (subst FirstFindsIn e tt) tt
goes_by_first a (points.Fail l (fails.Take word)) step e = on_call_home (points.Fail l (fails.Take word)) a.asked step _ e tt
goes_by_first a (points.Fail l (fails.Judge word)) step e = on_word (points.Fail l (fails.Judge word)) a.asked step (subst FirstFindsIn e (judges_by a l word)) tt
goes_by_first a (points.Fail l (fails.Free o)) step e = on_word (points.Fail l (fails.Free o)) a.asked step (subst FirstFindsIn e tt) tt
goes_by_first a (points.Discard link total) step e = on_bytes (points.Discard link total) a.asked step link (room_at (points.Discard link total)) e refl tt
