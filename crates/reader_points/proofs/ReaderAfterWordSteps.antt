-- Where a reader goes on behind a step on a word.
use Rattle.std.proofs.Common.{◌≢◌, ◌≡◌, ℕ, ◌+◌, ◌==◌, ◌&&◌, not, Bool, true, false, if◌then◌else◌, ◌∷◌, drop, refl, ap, sym, ◌∙◌, arith}
use Rattle.std.proofs.lemmas.Bool.Decides.{nat_tests}
use Rattle.sock_words.specs.PackedWords.{socket_id_version, vref_version, at_word_link, at_word_slot, at_word_first, at_word_attempt, call_id, id_slot}
use Rattle.corr_core.specs.IdSlotWord.{error_of}
use Rattle.sock_message.specs.Asked.{Asked}
use Rattle.seat_programs.specs.Asides.{TakeCall}
use Rattle.seat_programs.specs.Programs.{Program, Aside, Say}
use Rattle.brpc_model.specs.ResponseOutcome.{ending_of}
use Rattle.seat_programs.specs.PostPrograms.{end_id, post_with}
use Rattle.seat_programs.specs.ReaderProgram.{answer, slot_in, posted_last}
use Rattle.call_points.specs.AsideCodeSteps.{after_word, after_call}
use Rattle.call_points.specs.declared.ending.EndStep.TheVariants as ends
use Rattle.call_points.specs.declared.word_step.WordStep.TheVariants as id_steps
use Rattle.id_points.specs.IdsAndAttemptNumbers.{id_of, number_of}
use Rattle.seat_states.specs.declared.point.ReleaseStep.TheVariants as releases
use Rattle.reader_points.specs.declared.point.Behind.{Behind}
use Rattle.reader_points.specs.declared.point.Behind.TheVariants as behinds
use Rattle.reader_points.specs.declared.point.AnswerStep.TheVariants as answers
use Rattle.reader_points.specs.declared.point.CloseStep.TheVariants as closes
use Rattle.reader_points.specs.declared.point.Closing.{Closing}
use Rattle.reader_points.specs.declared.point.Lost.{Lost}
use Rattle.reader_points.specs.declared.point.ReadPoint.TheVariants as points
use Rattle.reader_points.specs.ReaderPoints.{Context, code_by, posts_program, close_program, load_program, behind_program, said_program, answer_program, point_program, with_asked}

module _ (a : Context) where
  -- ## The end of a call by a response

  -- the id is one of the response in hand
  pub answers_as : (b : Behind) (id first : ℕ) → id ≡ call_id (slot_in a.frame) first → id_slot id ≡ slot_in a.frame → answer_program a b id answers.Take ≡ answer a.frame first (behind_program a b)
  answers_as b id first is slot =
      ap (λ i. let p : Program = Aside (TakeCall i) (λ asked. end_id i (Say asked.operation (ending_of id a.frame) (behind_program a b))) in p) slot
      ∙ ap (λ n. let p : Program = Aside (TakeCall (slot_in a.frame)) (λ asked. end_id (slot_in a.frame) (Say asked.operation (ending_of n a.frame) (behind_program a b))) in p) is

  -- what follows is the same with another call in hand
  behind_asked : (asked : Asked) (b : Behind) → behind_program (with_asked asked a) b ≡ behind_program a b
  behind_asked asked (behinds.Frames r) = refl
  behind_asked asked (behinds.Posts c) = refl

  pub ends_asked : (asked : Asked) (b : Behind) (id o : ℕ) → asked.operation ≡ o → answer_program (with_asked asked a) b id (answers.End o ends.End) ≡ after_call (answer_program a b id answers.Take) asked
  ends_asked asked b id o e =
      ap (λ k. end_id (id_slot id) (Say o (ending_of id a.frame) k)) (behind_asked asked b)
      ∙ ap (λ m. end_id (id_slot id) (said_program a b id m)) (sym e)

  -- ## The end of a reading

  -- another version than that of its socket was found
  pub closes_gone : (c : Closing) (found : ℕ) → vref_version found ≢ socket_id_version c.reader.socket.0 → close_program a c (closes.Release releases.SubRef) ≡ after_word (close_program a c closes.AddRef) found
  closes_gone c found h =
      let e : (vref_version found == socket_id_version c.reader.socket.0) ≡ false = grind (arith, nat_tests) in
      rw e refl

  -- the next call is looked at
  pub loads_next : (c : Closing) (o : ℕ) → drop c.next a.calls ≡ o ∷ drop (c.next + 1) a.calls → load_program a (record c { next = c.next + 1 }) o ≡ posts_program a c
  loads_next c o e = rw e refl

  -- an at word names the link or doesn't
  named : (b c : Bool) (p q : Program) → (not b && c) ≡ true → q ≡ (if b then p else if c then q else p)
  named true c p q e = absurd (cc)
  named false true p q e = refl
  named false false p q e = absurd (cc)

  not_named : (b c : Bool) (p q : Program) → (not b && c) ≡ false → p ≡ (if b then p else if c then q else p)
  not_named true c p q e = refl
  not_named false true p q e = absurd (cc)
  not_named false false p q e = refl

  -- the post to the call with this id of the error of its attempt n
  abbrev posts_to : Closing → ℕ → ℕ → Program
  posts_to c id n = let e = error_of (code_by c.fault) n in post_with id e (posted_last id e a.kept (posts_program a c))

  pub loads_post : (c : Closing) (l : Lost) (o w : ℕ) → l.closing ≡ c → id_of l.id ≡ call_id (at_word_slot w) (at_word_first w) → number_of l.attempt ≡ at_word_attempt w
      → (not (w == 0) && (at_word_link w == c.reader.link)) ≡ true → point_program a (points.Post l id_steps.Read) ≡ after_word (load_program a c o) w
  loads_post c l o w closing id attempt e =
      ap (λ d. posts_to d (id_of l.id) (number_of l.attempt)) closing
      ∙ ap (λ i. posts_to c i (number_of l.attempt)) id
      ∙ ap (λ n. posts_to c (call_id (at_word_slot w) (at_word_first w)) n) attempt
      ∙ named (w == 0) (at_word_link w == c.reader.link) (posts_program a c) (posts_to c (call_id (at_word_slot w) (at_word_first w)) (at_word_attempt w)) e

  pub loads_none : (c : Closing) (o w : ℕ) → (not (w == 0) && (at_word_link w == c.reader.link)) ≡ false → posts_program a c ≡ after_word (load_program a c o) w
  loads_none c o w e = not_named (w == 0) (at_word_link w == c.reader.link) (posts_program a c) (posts_to c (call_id (at_word_slot w) (at_word_first w)) (at_word_attempt w)) e
