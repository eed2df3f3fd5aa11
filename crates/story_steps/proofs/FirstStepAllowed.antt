-- The first step of a program that says of calls only what has its cause is one that it may make, whatever is noted of decisions.
use Rattle.std.proofs.Common.{ℕ, ◌+◌, inr, Bool, true, false, cond, List, sym, subst}
use Rattle.sock_words.specs.declared.plain.Plan.{Plan}
use Rattle.corr_core.specs.IdSlotWord.{parts, code_of}
use Rattle.corr_core.specs.declared.marks.Plan.{Plan as IdPlan}
use Rattle.corr_core.specs.EndedByRangeOrAttempt.{ends_call}
use Rattle.sock_message.specs.Asked.{Asked}
use Rattle.seat_programs.specs.declared.task.Task.{Task}
use Rattle.seat_programs.specs.Asides.{PutCall}
use Rattle.seat_programs.specs.LoopHeads.{Posts, Unlocks, Decides, Locks, Joins, Opens, Reads, Discards, Deciding, HasEnded}
use Rattle.seat_programs.specs.PostPrograms.{end_id, unlocked, decides_round}
use Rattle.seat_programs.specs.Programs.{Program, Write, Aside, Round}
use Rattle.seat_programs.specs.LoopRounds.{round, first_step}
use Rattle.seat_programs.specs.SendAndWritePrograms.{block}
use Rattle.call_stories.specs.Scenes.{Scene, IsBorn}
use Rattle.call_stories.specs.Says.{Mark, MayAside, AtHead, SaysOn}
use Rattle.call_stories.proofs.PostLoopCauses.{id_back}
use Rattle.call_stories.proofs.CausedCallPrograms.{block_says}
use Rattle.story_steps.proofs.CausedRounds.{round_says}
use Rattle.sock_words.specs.PackedWords.{id_slot, id_first}

module _ (p : Plan) (q : IdPlan) (clients : List (List Task)) (gives : ℕ → List ℕ) where
  abbrev pub MayFirst : Scene → Mark → Program → Type 0
  MayFirst w m (Aside step next) = MayAside p q clients gives w m step
  MayFirst w m other = Unit {0}

  may_here : (w : Scene) (m : Mark) (x : Program) → SaysOn p q clients gives w m x → MayFirst w m x
  may_here w m (Aside step next) says = says.0
  may_here w m _ says = tt

  -- the range ends, or its call goes back home
  may_decide : (w : Scene) (m : Mark) (id : ℕ) (asked : Asked) (word e : ℕ) (k : Deciding → Program) → AtHead p q clients gives w m (Decides id asked word e) → MayFirst w m (decides_round id asked word e k)
  may_decide w m id asked word e k at = by_end (ends_call (parts word) e)
    where
      by_end : (b : Bool) → MayFirst w m (cond b (end_id (id_slot id) (k (HasEnded asked.operation (code_of e)))) (Aside (PutCall (id_slot id) asked) (λ _. Round (Unlocks (id_slot id) word true) (unlocked (record { id = id; attempt = (parts word).attempt + 1 }) k))))
      by_end true = (id_first id, at.0.0, asked, at.0.1, subst (λ i. IsBorn w i asked) (sym (id_back id)) at.1, at.2)
      by_end false = inr (id_first id, at.0.0, at.0.1, subst (λ i. IsBorn w i asked) (sym (id_back id)) at.1)

  pub may_first : (w : Scene) (m : Mark) (x : Program) → SaysOn p q clients gives w m x → MayFirst w m (first_step x)
  may_first w m (Write x after) says = may_here w m (block x after) (block_says p q clients gives w m x after says)
  may_first w m (Round (Decides id asked word e) next) says = may_decide w m id asked word e next says.0
  may_first w m (Round (Posts id e word) next) says = may_here w m (round (Posts id e word) next) (round_says p q clients gives w m (Posts id e word) next (λ d there. absurd there) says)
  may_first w m (Round (Unlocks i word advance) next) says = may_here w m (round (Unlocks i word advance) next) (round_says p q clients gives w m (Unlocks i word advance) next (λ d there. absurd there) says)
  may_first w m (Round (Locks i sought word) next) says = may_here w m (round (Locks i sought word) next) (round_says p q clients gives w m (Locks i sought word) next (λ d there. absurd there) says)
  may_first w m (Round (Joins id) next) says = may_here w m (round (Joins id) next) (round_says p q clients gives w m (Joins id) next (λ d there. absurd there) says)
  may_first w m (Round (Opens o) next) says = may_here w m (round (Opens o) next) (round_says p q clients gives w m (Opens o) next (λ d there. absurd there) says)
  may_first w m (Round (Reads r) next) says = may_here w m (round (Reads r) next) (round_says p q clients gives w m (Reads r) next (λ d there. absurd there) says)
  may_first w m (Round (Discards k total) next) says = may_here w m (round (Discards k total) next) (round_says p q clients gives w m (Discards k total) next (λ d there. absurd there) says)
  may_first w m (Aside step next) says = says.0
  may_first w m _ says = tt
