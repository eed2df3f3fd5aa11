-- At the end of a run its story has ended.
use Rattle.std.proofs.Common.{◌≡◌, ℕ, ◌<◌, ◌≤◌, List, [], ◌∷◌, length, slice_get, Some, None, zero, suc, sym, subst, arith}
use Rattle.sock_words.specs.declared.plain.Plan.{Plan}
use Rattle.corr_core.specs.declared.marks.Plan.{Plan as IdPlan}
use Rattle.seat_programs.specs.declared.task.Task.{Task}
use Rattle.story_steps.specs.Below.programs_allowed.specs.program_steps.specs.SoundSeats.{AllRest}
use Rattle.story_steps.specs.Below.programs_allowed.specs.program_steps.proofs.TickCases.{elem_there}
use Rattle.story_steps.specs.call_stories.specs.Scenes.{Scene}
use Rattle.story_steps.specs.call_stories.specs.Says.{Mark, SaysOn}
use Rattle.story_steps.specs.call_stories.specs.CallStories.{word_at, CallStory}
use Rattle.story_steps.proofs.StoryAtRunEnd.{HasEnded}
use Rattle.story_steps.specs.Below.owed_calls.proofs.LivesPastAtEnd.{at_some}

got_below : {A : Type 0} (l : List A) (i : ℕ) (a : A) → slice_get l i ≡ Some a → i < length l
got_below [] i a e = absurd (let z : None ≡ Some a = e in cc)
got_below (x ∷ xs) zero a e = omega arith
got_below (x ∷ xs) (suc i) a e = omega (arith, got_below xs i a e)

module _ (p : Plan) (q : IdPlan) (clients : List (List Task)) (gives : ℕ → List ℕ) where
  -- where no seat has anything left to do and no id is left
  pub has_ended : (w : Scene) (ms : List Mark) → CallStory p q clients gives w ms → AllRest w.core → ((i : ℕ) → i < q.slots → (word_at w i).state ≡ 0) → length clients ≤ length w.core.seats → HasEnded p q clients gives w ms
  has_ended w ms story rest free many = record {
    births = story.births;
    tasks = story.tasks;
    idle = λ j m at. let s = elem_there ms w.core.seats j m (sym story.each) at in let g = subst (SaysOn p q clients gives w m) (rest j s.0 s.1) (story.seats j s.0 m s.1 at) in (g.1, g.0.1);
    free = free;
    seated = λ c ts there. at_some ms c (let low = got_below clients c ts there in let each = story.each in omega (arith, low, each, many));
  }
