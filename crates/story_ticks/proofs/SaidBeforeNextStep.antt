-- What a program says before its next step: the laws of the tasks hold behind it, and the next step goes on from the mark that is left.
use Rattle.std.proofs.Common.{◌≡◌, ℕ, ◌≤◌, inr, ⊎_elim, List, [], ◌∷◌, ◌++◌, set, Option, Some, refl, sym, ◌∙◌, subst}
use Rattle.std.specs.List.{AllByRecursion}
use Rattle.atomic_table.proofs.Lists.{set_again}
use Rattle.sock_words.specs.declared.plain.Plan.{Plan}
use Rattle.sock_words.specs.declared.outcome.Outcome.{Outcome}
use Rattle.corr_core.specs.declared.marks.Plan.{Plan as IdPlan}
use Rattle.seat_programs.specs.declared.task.Task.{Task}
use Rattle.seat_programs.specs.LoopHeads.{Retry}
use Rattle.seat_programs.specs.CallAndRetryPrograms.{retry}
use Rattle.seat_programs.specs.Programs.{Program, Do, Say, Sent, Rest, TakeMessage, TakeHome, PutHome, PutBytes, AskReady, Write, Aside, Round, Keep, Retries}
use Rattle.seat_programs.specs.Cores.{resolved, said, next_step}
use Rattle.story_steps.specs.Below.joint_runs.specs.Below.sock_steps.proofs.Maps.{set_twice}
use Rattle.story_steps.specs.call_stories.specs.Scenes.{Saying, Scene, Said, Later, was_said, was_sent}
use Rattle.story_steps.specs.call_stories.specs.Says.{Mark, with_done, with_owed, IsFree, IsNextSaid, SaidBy, SaysOn}
use Rattle.story_steps.specs.call_stories.specs.CallStories.{At, BirthsLaw, TasksLaw, unclaimed}
use Rattle.story_steps.specs.call_stories.proofs.LastingCallStories.{far}
use Rattle.story_steps.specs.call_stories.proofs.PostLoopCauses.{again_same}
use Rattle.story_steps.specs.call_stories.proofs.CausedCallPrograms.{again_on}
use Rattle.story_steps.proofs.CausesOfCallSayings.{retry_says}
use Rattle.story_ticks.proofs.Claiming.{in_unclaimed}
use Rattle.story_steps.proofs.MarkMoves.{free_unclaimed}
use Rattle.story_steps.proofs.NumberedTasks.{AreNumbered}
use Rattle.story_ticks.proofs.SayingKeepsStory.{put_at, say_own, sent_own}
use Rattle.story_ticks.proofs.SayingsOwed.{say_owed}
use Rattle.story_steps.specs.call_stories.specs.Below.outcome_stories.specs.OperationStories.{In}

-- what was said with that, the latest first
abbrev pub sayings_of : Program → List Saying → List Saying
sayings_of (Say o outcome next) ss = sayings_of next ((record { number = o; outcome = outcome }) ∷ ss)
sayings_of (Sent o next) ss = sayings_of next ss
sayings_of other ss = ss

abbrev pub AreFewTries : List Retry → Type 0
AreFewTries ws = AllByRecursion (λ (r : Retry). r.attempt ≤ 6) ws

more_tries : (ws : List Retry) (r : Retry) → AreFewTries ws → r.attempt ≤ 6 → AreFewTries (ws ++ r ∷ [])
more_tries [] r all one = (one, tt)
more_tries (w ∷ ws) r all one = (all.0, more_tries ws r all.1 one)

module _ (p : Plan) (q : IdPlan) (clients : List (List Task)) (gives : ℕ → List ℕ) where
  -- the mark is the same, but for tasks that are done and what is owed
  pub record IsKept (m m' : Mark) : Type 0 where
    pub client : m'.client ≡ m.client
    pub slot : m'.slot ≡ m.slot
    pub makes : m'.makes ≡ m.makes
    pub link : m'.link ≡ m.link
    pub bytes : m'.bytes ≡ m.bytes
    -- what isn't claimed then wasn't before
    pub unclaimed_still : (u : Task) → In u (unclaimed p q clients gives m'.slot m'.makes m'.todo) → In u (unclaimed p q clients gives m.slot m.makes m.todo)

-- the retries that a program keeps are of few attempts
abbrev pub KeepsFew : Program → Type 0
KeepsFew (Say o outcome next) = KeepsFew next
KeepsFew (Sent o next) = KeepsFew next
KeepsFew (Keep r next) = (r.attempt ≤ 6) × KeepsFew next
KeepsFew (Retries requests after) = KeepsFew after
KeepsFew other = Unit {0}

first_next : (w : Scene) (ws : List Retry) (o : ℕ) (outcome : Outcome) (x : Program) → IsNextSaid w o outcome (resolved ws x) → IsNextSaid w o outcome x
first_next w ws o outcome (Say t y next) s = s
first_next w ws o outcome _ s = tt

-- what is said before the retries are tried is said with what follows
pub said_first : (w : Scene) (ws : List Retry) (x : Program) → SaidBy w (resolved ws x) → SaidBy w x
said_first w ws (Say o outcome next) s = ((s.0.0, first_next w ws o outcome next s.0.1), said_first w ws next s.1)
said_first w ws (Sent o next) s = said_first w ws next s
said_first w ws (Keep r next) s = said_first w (ws ++ r ∷ []) next s
said_first w [] (Retries requests after) s = tt
said_first w (r ∷ ws) (Retries requests after) s = tt
said_first w ws _ s = tt

module _ (p : Plan) (q : IdPlan) (clients : List (List Task)) (gives : ℕ → List ℕ) (numbered : AreNumbered p q clients gives) (w : Scene) (births : BirthsLaw p q clients gives w) (here : Later p q clients gives w w) (j : ℕ) where
  abbrev pub Behind : Mark → List (Option Outcome) → List Saying → List Mark → Program → Type 0
  Behind m os ss ms x = (m' : Mark) × IsKept p q clients gives m m' × TasksLaw p q clients gives w (said x os) (sayings_of x ss) (set ms j m') × SaysOn p q clients gives w m' (next_step x)

  kept_same : (m : Mark) → IsKept p q clients gives m m
  kept_same m = record { client = refl; slot = refl; makes = refl; link = refl; bytes = refl; unclaimed_still = λ u x. x }

  module _ (os : List (Option Outcome)) (ss : List Saying) (ms : List Mark) (m : Mark) (at : At ms j m) (law : TasksLaw p q clients gives w os ss ms) where
    stays : (x : Program) → SaysOn p q clients gives w m x → (m' : Mark) × IsKept p q clients gives m m' × TasksLaw p q clients gives w os ss (set ms j m') × SaysOn p q clients gives w m' x
    stays x g = (m, kept_same m, subst (TasksLaw p q clients gives w os ss) (sym (set_again ms j m at)) law, g)

  kept_on : (m m' m'' : Mark) → IsKept p q clients gives m m' → IsKept p q clients gives m' m'' → IsKept p q clients gives m m''
  kept_on m m' m'' a b = record { client = b.client ∙ a.client; slot = b.slot ∙ a.slot; makes = b.makes ∙ a.makes; link = b.link ∙ a.link; bytes = b.bytes ∙ a.bytes; unclaimed_still = λ u x. a.unclaimed_still u (b.unclaimed_still u x) }

  -- behind one more saying
  behind : (ms : List Mark) (m m1 : Mark) (os : List (Option Outcome)) (ss : List Saying) (x : Program) → IsKept p q clients gives m m1 → Behind m1 os ss (set ms j m1) x → Behind m os ss ms x
  behind ms m m1 os ss x kept r = (r.0, kept_on m m1 r.0 kept r.1, subst (TasksLaw p q clients gives w (said x os) (sayings_of x ss)) (set_twice ms j m1 r.0) r.2, r.3)

  -- behind the task that was to be done
  own_still : (m : Mark) (t : Task) (ts : List Task) → m.todo ≡ t ∷ ts → IsFree m → (u : Task) → In u (unclaimed p q clients gives m.slot m.makes ts) → In u (unclaimed p q clients gives m.slot m.makes m.todo)
  own_still m t ts todo free u x = free_unclaimed p q clients gives m.slot m.makes m.todo u free.0 free.2 (subst (In u) (sym todo) (inr (in_unclaimed p q clients gives m.slot m.makes ts u x)))

  pub chain : (x : Program) (ws : List Retry) (os : List (Option Outcome)) (ss : List Saying) (ms : List Mark) (m : Mark) → At ms j m → TasksLaw p q clients gives w os ss ms → SaysOn p q clients gives w m x → AreFewTries ws → KeepsFew x → SaidBy w (resolved ws x) → Behind m os ss ms (resolved ws x)
  chain (Say o outcome next) ws os ss ms m at law g few keeps s = ⊎_elim
      (λ x. let t : Task = x.0 in let m1 : Mark = with_done x.0 x.1 m in let free = x.4 in
      let law1 = say_own p q clients gives numbered w births os ss ms law j m at x.0 x.1 x.2 free.1 free.2 (was_said outcome (subst (λ n. Said w n outcome) x.3 s.0.0) x.5.0 x.5.1) outcome (subst (λ n. Said w n outcome) x.3 s.0.0) x.5.0 in
      behind ms m m1 (set os o (Some outcome)) ((record { number = o; outcome = outcome }) ∷ ss) (resolved ws next) (record { client = refl; slot = refl; makes = refl; link = refl; bytes = refl; unclaimed_still = own_still m x.0 x.1 x.2 x.4 })
      (chain next ws (set os o (Some outcome)) ((record { number = o; outcome = outcome }) ∷ ss) (set ms j m1) m1 (put_at ms j m m1 at)
      (subst (λ n. TasksLaw p q clients gives w (set os n (Some outcome)) ((record { number = n; outcome = outcome }) ∷ ss) (set ms j m1)) (sym x.3) law1) x.6 few keeps s.1))
      (λ x. let m1 : Mark = with_owed [] m in
      let law1 = say_owed p q clients gives numbered w births os ss ms law j m at x.0 x.1 outcome (subst (λ n. Said w n outcome) x.2 s.0.0) x.4 in
      behind ms m m1 (set os o (Some outcome)) ((record { number = o; outcome = outcome }) ∷ ss) (resolved ws next) (record { client = refl; slot = refl; makes = refl; link = refl; bytes = refl; unclaimed_still = λ u y. y })
      (chain next ws (set os o (Some outcome)) ((record { number = o; outcome = outcome }) ∷ ss) (set ms j m1) m1 (put_at ms j m m1 at)
      (subst (λ n. TasksLaw p q clients gives w (set os n (Some outcome)) ((record { number = n; outcome = outcome }) ∷ ss) (set ms j m1)) (sym x.2) law1) x.5 few keeps s.1)) g
  chain (Sent o next) ws os ss ms m at law g few keeps s = let m1 : Mark = with_done g.0 g.1 m in let free = g.8 in
      behind ms m m1 os ss (resolved ws next) (record { client = refl; slot = refl; makes = refl; link = refl; bytes = refl; unclaimed_still = own_still m g.0 g.1 g.4 g.8 })
      (chain next ws os ss (set ms j m1) m1 (put_at ms j m m1 at) (sent_own p q clients gives numbered w births os ss ms law j m at g.0 g.1 g.4 free.1 free.2 (was_sent g.2 g.3 g.6 g.7)) g.9 few keeps s)
  chain (Keep r next) ws os ss ms m at law g few keeps s = chain next (ws ++ r ∷ []) os ss ms m at law g (more_tries ws r few keeps.0) keeps.1 s
  chain (Retries requests after) [] os ss ms m at law g few keeps s = chain after [] os ss ms m at law (g.1 w m here (said_first w [] after s) (again_same p q clients gives m m g.0 refl)) tt keeps s
  chain (Retries requests after) (r ∷ ws) os ss ms m at law g few keeps s = stays os ss ms m at law (retry requests r.id r.attempt (Retries requests after))
      (retry_says p q clients gives w m requests r (Retries requests after) g.0 few.0 (λ v m' l _ a. (subst IsFree (sym a.is) (a.vacant, g.0.1, g.0.2), λ v2 m2 l2 s2 a2. g.1 v2 m2 (far p q clients gives w v v2 l l2) s2 (again_on p q clients gives m m' m2 a a2))))
  chain (Do call next) ws os ss ms m at law g few keeps s = stays os ss ms m at law (Do call next) g
  chain Rest ws os ss ms m at law g few keeps s = stays os ss ms m at law Rest g
  chain (TakeMessage r next) ws os ss ms m at law g few keeps s = stays os ss ms m at law (TakeMessage r next) g
  chain (TakeHome k next) ws os ss ms m at law g few keeps s = stays os ss ms m at law (TakeHome k next) g
  chain (PutHome k n after) ws os ss ms m at law g few keeps s = stays os ss ms m at law (PutHome k n after) g
  chain (PutBytes k asked bytes next) ws os ss ms m at law g few keeps s = stays os ss ms m at law (PutBytes k asked bytes next) g
  chain (AskReady k next) ws os ss ms m at law g few keeps s = stays os ss ms m at law (AskReady k next) g
  chain (Write v after) ws os ss ms m at law g few keeps s = stays os ss ms m at law (Write v after) g
  chain (Aside step next) ws os ss ms m at law g few keeps s = stays os ss ms m at law (Aside step next) g
  chain (Round head next) ws os ss ms m at law g few keeps s = stays os ss ms m at law (Round head next) g
