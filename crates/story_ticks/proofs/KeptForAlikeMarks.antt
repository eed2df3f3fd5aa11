-- The laws of the id slots, of the claims and of the readings hold for marks that are the same but for tasks done and what is owed.
use Rattle.std.proofs.Common.{ℕ, ⊎_elim, List, set, refl, sym, ◌∙◌, subst}
use Rattle.atomic_table.proofs.Lists.{at_set}
use Rattle.sock_words.specs.declared.plain.Plan.{Plan}
use Rattle.corr_core.specs.declared.marks.Plan.{Plan as IdPlan}
use Rattle.seat_programs.specs.declared.task.Task.{Task}
use Rattle.story_steps.specs.call_stories.specs.Scenes.{Scene}
use Rattle.story_steps.specs.call_stories.specs.Says.{Mark}
use Rattle.story_steps.specs.call_stories.specs.CallStories.{At, InSlot, SlotFits, SlotsLaw, ClaimsLaw, ReadsLaw}
use Rattle.story_ticks.proofs.SaidBeforeNextStep.{IsKept}

module _ (p : Plan) (q : IdPlan) (clients : List (List Task)) (gives : ℕ → List ℕ) (w : Scene) (ms : List Mark) (j : ℕ) (m m' : Mark) (at : At ms j m) (kept : IsKept p q clients gives m m') where
  -- the mark of which one is kept
  back : (l : ℕ) (n : Mark) → At (set ms j m') l n → (o : Mark) × At ms l o × IsKept p q clients gives o n
  back l n there = ⊎_elim
      (λ x. (m, subst (λ k. At ms k m) (sym x.0) at, subst (IsKept p q clients gives m) x.1 kept))
      (λ x. (n, x.1, record { client = refl; slot = refl; makes = refl; link = refl; bytes = refl; unclaimed_still = λ u y. y })) (at_set ms j l m' n there)

  pub kept_slots : SlotsLaw q w ms → SlotsLaw q w (set ms j m')
  kept_slots law = record {
    fits = λ l n there. let b = back l n there in subst (SlotFits q w) (sym b.2.slot) (law.fits l b.0 b.1);
    single = λ k l i x y e f s t. let b = back k x e in let c = back l y f in law.single k l i b.0 c.0 b.1 c.1 (subst (InSlot i) b.2.slot s) (subst (InSlot i) c.2.slot t);
  }

  pub kept_claims : ClaimsLaw p q clients gives w ms → ClaimsLaw p q clients gives w (set ms j m')
  kept_claims law = record {
    taken = law.taken;
    calls = law.calls;
    once = law.once;
    free = λ l n t there x. let b = back l n there in law.free l b.0 t b.1 (b.2.unclaimed_still t x);
  }

  pub kept_reads : ReadsLaw p q clients gives w ms → ReadsLaw p q clients gives w (set ms j m')
  kept_reads law = record {
    bytes = λ l k n there own. let b = back l n there in law.bytes l k b.0 b.1 (sym b.2.link ∙ own) ∙ sym b.2.bytes;
    tied = λ l k n there own. let b = back l n there in law.tied l k b.0 b.1 (sym b.2.link ∙ own);
    inside = λ l k n there own. let b = back l n there in law.inside l k b.0 b.1 (sym b.2.link ∙ own);
  }
