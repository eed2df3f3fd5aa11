-- A seat at a point is at a step, and says nothing before it.
use Rattle.std.proofs.Common.{◌≡◌, refl, sym, ap, ◌∙◌, ℕ, true, List, Option}
use Rattle.std.proofs.lemmas.Bool.{true≢false}
use Rattle.sock_words.specs.declared.outcome.Outcome.{Outcome}
use Rattle.seat_states.specs.declared.point.OpenStep.TheVariants as opens
use Rattle.seat_states.specs.declared.point.SeekStep.TheVariants as seeks
use Rattle.seat_states.specs.declared.point.Aim.TheVariants as aims
use Rattle.seat_states.specs.declared.point.FailStep.TheVariants as fails
use Rattle.seat_states.specs.declared.point.ReleaseStep.TheVariants as releases
use Rattle.seat_states.specs.declared.point.SendStep.TheVariants as sends
use Rattle.seat_states.specs.declared.point.WriteStep.TheVariants as writes
use Rattle.call_points.specs.declared.deciding.DecideStep.TheVariants as decides
use Rattle.call_points.specs.declared.word_step.WordStep.TheVariants as id_steps
use Rattle.seat_states.specs.declared.point.Author.{Author}
use Rattle.seat_states.specs.declared.point.Author.TheVariants as authors
use Rattle.seat_states.specs.declared.point.CallStep.TheVariants as begins
use Rattle.seat_states.specs.declared.point.AttemptStep.TheVariants as attempts
use Rattle.seat_states.specs.declared.point.RetryStep.TheVariants as retries
use Rattle.seat_states.specs.declared.point.JoinStep.TheVariants as joins
use Rattle.seat_states.specs.declared.point.Point.{Point}
use Rattle.seat_states.specs.declared.point.Point.TheVariants as points
use Rattle.seat_programs.specs.declared.task.Sizes.{Sizes}
use Rattle.seat_programs.specs.LoopHeads.{Retry}
use Rattle.seat_programs.specs.Programs.{Program, Say, Sent, Keep, Retries}
use Rattle.seat_programs.specs.Cores.{resolved, still_waiting, said, next_step}
use Rattle.seat_states.specs.program_steps.specs.SoundSeats.{is_begun}
use Rattle.seat_states.specs.ProgramAtPoint.{Context, point_program, look_program}
use Rattle.client_seats.specs.ClientSeatState.{SeatData, seat_program}
use Rattle.client_seats.specs.ClientSeatFollowing.{FollowsOn}

look_begun : (a : Context) (author : Author) (id : ℕ) → is_begun (look_program a author id) ≡ true
look_begun a (authors.Send o) id = refl
look_begun a (authors.Attempt t) id = refl

pub begun : (a : Context) (p : Point) → is_begun (point_program a p) ≡ true
begun a (points.Open g opens.TakeLink) = refl
begun a (points.Seek aim (seeks.AddRef id)) = refl
begun a (points.Seek (aims.End o) seeks.Load) = refl
begun a (points.Fail f fails.SetOdd) = refl
begun a (points.Release i t releases.SubRef) = refl
begun a (points.Send s sends.Look) = look_begun a s.author s.id.0
begun a (points.Write w writes.PutHome) = refl
begun a (points.Call begins.LoadName) = refl
begun a (points.Attempt t socket attempts.AddRef) = refl
begun a (points.Post c after id_steps.Read) = refl
begun a (points.Decide c after (decides.Take w)) = refl
begun a (points.Retry r (retries.Lock id_steps.Read)) = refl
begun a (points.Join o (joins.Wait id)) = refl
begun a _ = refl

-- ## Programs at a step

-- it takes no retry, keeps none, and says nothing
pub record AtStep (w : List Retry) (program : Program) : Type 0 where
  pub resolved_is : resolved w program ≡ program
  pub waiting_is : still_waiting w program ≡ w
  pub next_is : next_step program ≡ program
  pub said_is : (os : List (Option Outcome)) → said program os ≡ os

pub at_step : (w : List Retry) (program : Program) → is_begun program ≡ true → AtStep w program
at_step w (Say o outcome next) e = absurd (true≢false (sym e))
at_step w (Sent o next) e = absurd (true≢false (sym e))
at_step w (Keep r next) e = absurd (true≢false (sym e))
at_step w (Retries requests after) e = absurd (true≢false (sym e))
at_step w _ e = record { resolved_is = refl; waiting_is = refl; next_is = refl; said_is = λ os. refl }

-- a seat that comes to a point goes on with its program
pub follows_point : (sizes : Sizes) (old new : SeatData) (program : Program) (os : List (Option Outcome)) → is_begun program ≡ true → seat_program sizes new ≡ program → new.waiting ≡ old.waiting → FollowsOn sizes old new program os os
follows_point sizes old new program os begun is waiting = let at = at_step old.waiting program begun in record {
  next = is ∙ sym (ap next_step at.resolved_is ∙ at.next_is);
  waiting = waiting ∙ sym at.waiting_is;
  told = sym (ap (λ (p : Program). said p os) at.resolved_is ∙ at.said_is os);
}
