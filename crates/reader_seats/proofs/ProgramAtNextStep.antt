-- A program at its next step says nothing before it, and what follows something that is said.
use Rattle.std.proofs.Common.{◌≡◌, ℕ, List, [], Option, Some, refl, sym, ap, subst, ◌∙◌}
use Rattle.std.specs.Prelude.{slice_set}
use Rattle.sock_words.specs.declared.outcome.Outcome.{Outcome}
use Rattle.seat_programs.specs.Cores.{resolved, still_waiting, said, next_step}
use Rattle.seat_programs.specs.Programs.{Program, Say, Sent, Keep, Retries}
use Rattle.call_points.specs.declared.ending.EndStep.TheVariants as ends
use Rattle.call_points.specs.declared.word_step.WordStep.TheVariants as id_steps
use Rattle.seat_states.specs.declared.point.ReleaseStep.TheVariants as releases
use Rattle.reader_points.specs.declared.point.AnswerStep.TheVariants as answers
use Rattle.reader_points.specs.declared.point.CloseStep.TheVariants as closes
use Rattle.reader_points.specs.declared.point.FailStep.TheVariants as fails
use Rattle.reader_points.specs.declared.point.ReadPoint.{ReadPoint}
use Rattle.reader_points.specs.declared.point.ReadPoint.TheVariants as points
use Rattle.reader_points.specs.ReaderPoints.{Context, point_program}
use Rattle.reader_seats.specs.ReaderState.{ReaderData, around, reader_program}
use Rattle.reader_seats.specs.ReaderGoesOn.{GoesOn}

-- its next step comes first
pub record IsReached (program : Program) : Type 0 where
  pub resolved_same : resolved [] program ≡ program
  pub same : next_step program ≡ program
  pub silent : (os : List (Option Outcome)) → said program os ≡ os
  pub none_kept : still_waiting [] program ≡ []

abbrev HasStep : Program → Type 0
HasStep (Say o outcome next) = ⊥
HasStep (Sent o next) = ⊥
HasStep (Keep r next) = ⊥
HasStep (Retries requests after) = ⊥
HasStep other = Unit {0}

reached : (program : Program) → HasStep program → IsReached program
reached (Say o outcome next) h = absurd h
reached (Sent o next) h = absurd h
reached (Keep r next) h = absurd h
reached (Retries requests after) h = absurd h
reached other h = record { resolved_same = refl; same = refl; silent = λ os. refl; none_kept = refl }

has_step : (a : Context) (point : ReadPoint) → HasStep (point_program a point)
has_step a (points.Lock r l id_steps.Read) = tt
has_step a (points.Answer b id answers.Take) = tt
has_step a (points.Answer b id (answers.End o ends.End)) = tt
has_step a (points.Close c closes.AddRef) = tt
has_step a (points.Close c (closes.Release releases.SubRef)) = tt
has_step a (points.Post l id_steps.Read) = tt
has_step a (points.Fail l (fails.Take word)) = tt
has_step a other = tt

module _ (calls : List ℕ) (reader : ReaderData) (program : Program) (is : reader_program calls reader ≡ program) (os : List (Option Outcome)) where
  is_reached : IsReached program
  is_reached = subst IsReached is (reached (reader_program calls reader) (has_step (around calls reader) reader.point))

  resolved_is : reader_program calls reader ≡ next_step (resolved [] program)
  resolved_is = is ∙ sym is_reached.same ∙ ap next_step (sym is_reached.resolved_same)

  said_is : (us : List (Option Outcome)) → us ≡ said (resolved [] program) us
  said_is us = sym (is_reached.silent us) ∙ ap (λ p. said p us) (sym is_reached.resolved_same)

  -- it is at its next step
  pub goes_to : GoesOn calls program reader os os
  goes_to = record { program = resolved_is; told = said_is os; waiting = is_reached.none_kept }

  -- behind an outcome that is said
  pub goes_behind : (o : ℕ) (outcome : Outcome) → GoesOn calls (Say o outcome program) reader os (slice_set os o (Some outcome))
  goes_behind o outcome = record { program = resolved_is; told = said_is (slice_set os o (Some outcome)); waiting = is_reached.none_kept }

-- behind this outcome, which is the one that was told
pub says : (calls : List ℕ) (reader : ReaderData) (program : Program) (os us : List (Option Outcome)) (o : ℕ) (x y : Outcome) → reader_program calls reader ≡ program → x ≡ y → us ≡ slice_set os o (Some x) → GoesOn calls (Say o y program) reader os us
says calls reader program os us o x y is same told =
    let f : us ≡ slice_set os o (Some y) = told ∙ ap (λ z. slice_set os o (Some z)) same in
    subst (λ vs. GoesOn calls (Say o y program) reader os vs) (sym f) (goes_behind calls reader program is os o y)
