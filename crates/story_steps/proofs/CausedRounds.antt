-- From the head of each loop one round says of calls only what has its cause, and so does a program once its outcomes are said.
use Rattle.std.proofs.Common.{ℕ, inl, List, refl}
use Rattle.sock_words.specs.declared.plain.Plan.{Plan}
use Rattle.corr_core.specs.declared.marks.Plan.{Plan as IdPlan}
use Rattle.seat_programs.specs.declared.task.Task.{Task}
use Rattle.seat_programs.specs.LoopHeads.{Head, Exit, Posts, Unlocks, Decides, Locks, Joins, Opens, Reads, Discards}
use Rattle.seat_programs.specs.Programs.{Program, Round}
use Rattle.seat_programs.specs.LoopRounds.{round}
use Rattle.call_stories.specs.Decided.{Decision, decision_in}
use Rattle.call_stories.specs.Scenes.{Scene}
use Rattle.call_stories.specs.Says.{Mark, SaysOn}
use Rattle.call_stories.proofs.PostLoopCauses.{posts_says, unlocks_says, decides_says, locks_says, joins_says}
use Rattle.story_steps.proofs.ReadingCauses.{reads_says, discards_says, opens_says}
use Rattle.call_stories.specs.Below.outcome_stories.specs.OperationStories.{In}

module _ (p : Plan) (q : IdPlan) (clients : List (List Task)) (gives : ℕ → List ℕ) where
  -- where the error on which it decides is noted, if it decides on one
  pub round_says : (w : Scene) (m : Mark) (head : Head) (k : Exit head → Program) → ((d : Decision) → In d (decision_in (Round head k)) → In d w.decisions) → SaysOn p q clients gives w m (Round head k) → SaysOn p q clients gives w m (round head k)
  round_says w m (Posts id e word) k on g = posts_says p q clients gives w m id e word k g.0.0 g.0.1 g.0.2 g.1
  round_says w m (Unlocks i word advance) k on g = unlocks_says p q clients gives w m i word advance k g.0.0 g.0.1 g.0.2 (λ exit v m' l s lv. (g.1 exit v m' l s lv).1)
  round_says w m (Decides id asked word e) k on g = decides_says p q clients gives w m id asked word e k (on (record { id = id; asked = asked; error = e }) (inl refl)) g.0 (λ exit v m' l s lv. (g.1 exit v m' l s lv).1)
  round_says w m (Locks i sought word) k on g = locks_says p q clients gives w m i sought word k g.0.0 g.0.1 (λ exit v m' l s lv. (g.1 exit v m' l s lv).1)
  round_says w m (Joins id) k on g = joins_says p q clients gives w m id k g.0 (λ exit v l s. (g.1 exit v m l s refl).1)
  round_says w m (Opens o) k on g = opens_says p q clients gives w m o k g.0 (λ exit v l s. (g.1 exit v m l s refl).1)
  round_says w m (Reads r) k on g = reads_says p q clients gives w m r k g.0.0 g.0.1 (λ exit v m' l s lv. (g.1 exit v m' l s lv).1)
  round_says w m (Discards link total) k on g = discards_says p q clients gives w m link total k g.0.0 g.0.1 (λ exit v m' l s bytes is. (g.1 exit v m' l s (bytes, is)).1)
