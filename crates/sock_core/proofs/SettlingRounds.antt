-- The whole of a run behind its schedule: rounds up to one in which nothing moved, the ending by seat 0, and such rounds again.
use Rattle.std.proofs.Common.{◌≡◌, ℕ, List, ◌++◌, replicate, refl, sym, ap, ◌∙◌, subst}
use Rattle.sock_words.specs.declared.plain.Plan.{Plan}
use Rattle.seat_programs.specs.Cores.{Core}
use Rattle.seat_programs.specs.Ticks.{Answer, quiet, run, AreAnswered, broken_in}
use Rattle.seat_programs.specs.ScriptSetupToEnding.{is_ending}
use Rattle.machine_model.specs.run_theorems.specs.call_owing.specs.LivesOfLinks.{ClosesInTime}
use Rattle.machine_model.specs.run_theorems.specs.OfferedAtTakes.{AreOffered}
use Rattle.machine_model.specs.run_theorems.specs.ShapedPuts.{paced, AreShaped}
use Rattle.machine_model.specs.run_theorems.specs.Heard.{heard_in, taken_in}
use Rattle.machine_model.specs.MachineLinks.{LinksData, Taken, Given, Agrees, AgreesGave, AreAlwaysReady, TellClosing, IsOffering, IsShapedSo}
use Rattle.machine_model.specs.Machines.{MachineState, core_with, ending_by}
use Rattle.machine_model.specs.MachineRuns.{SameLinks, LinksShow, SettlesBy, PlayedWith, PlayedOn, RanFirst, SettledWith, Settled}
use Rattle.machine_model.specs.Driving.{told_ending}
use Rattle.machine_ticks.proofs.LinksBehindSteps.{links_kept}
use Rattle.machine_ticks.proofs.JoiningRuns.{shows_join, shows_on, prompt_append}
use Rattle.machine_model.proofs.Same.{same_links_join}

-- links that are told of the ending are the same
told_same : (m : MachineState) → SameLinks m (told_ending m)
told_same m = links_kept m (told_ending m) refl (λ always_ready. always_ready) (λ tell. tell)

module _ (a b c d f : MachineState) (played : PlayedOn a b) (plan : c.plan ≡ b.plan) (id_plan : c.ids.plan ≡ b.ids.plan) (links : c.links ≡ b.links) (ends : c.ends ≡ b.ends)
    (begins : (took : Taken) (gave : Given) → core_with c took gave ≡ ending_by b.opens (core_with b took gave)) (first : RanFirst c d) (final : PlayedOn (told_ending d) f) where
  abbrev told : MachineState
  told = told_ending d

  begun_same : SameLinks b c
  begun_same = links_kept b c ends (λ always_ready. subst AreAlwaysReady (sym links) always_ready) (λ tell. subst TellClosing (sym links) tell)

  ran_same : SameLinks b told
  ran_same = same_links_join b d told (same_links_join b c d begun_same first.same.1) (told_same d)

  abbrev plans : d.plan ≡ a.plan
  plans = first.same.0.plan ∙ plan ∙ played.0.plan

  module _ (took : Taken) (gave : Given) (x : PlayedWith a b took gave) where
    abbrev t : Taken
    t = x.follows.later

    abbrev g : Given
    g = x.follows.later_gave

    agreed : Agrees c.links t
    agreed = subst (λ (l : LinksData). Agrees l t) (sym links) x.follows.agrees

    agreed_gave : AgreesGave c.links g
    agreed_gave = subst (λ (l : LinksData). AgreesGave l g) (sym links) x.follows.agrees_gave

    abbrev rounded : Core
    rounded = run a.plan (core_with a took gave) x.moments

    -- the core from which the ending goes on
    begun : core_with c t g ≡ ending_by a.opens rounded
    begun = begins t g ∙ ap (λ (os : List ℕ). ending_by os (core_with b t g)) played.0.opens ∙ ap (ending_by a.opens) x.follows.core

    ended_is : core_with d t g ≡ run a.plan (ending_by a.opens rounded) (replicate first.steps (quiet 0))
    ended_is = (first.core t g agreed agreed_gave).2 ∙ ap (λ (p : Plan). run p (core_with c t g) (replicate first.steps (quiet 0))) (plan ∙ played.0.plan) ∙ ap (λ (e : Core). run a.plan e (replicate first.steps (quiet 0))) begun

    abbrev ended : Core
    ended = core_with told t g

    settled_with : PlayedWith told f t g → SettledWith a f took gave
    settled_with y = record {
      moments = x.moments;
      settles = x.is;
      answered = x.follows.answered;
      last = first.steps;
      ended = ended;
      is_ended = ap is_ending ended_is;
      is_over = first.still t g;
      final = y.moments;
      settles_again = subst (λ (p : Plan). SettlesBy p ended y.moments) plans y.is;
      answered_again = subst (λ (p : Plan). AreAnswered p ended y.moments) plans y.follows.answered;
      always_ready = λ always_ready. prompt_append x.moments y.moments (x.follows.always_ready always_ready) (y.follows.always_ready (ran_same.always_ready (played.1.always_ready always_ready)));
      closes = x.follows.closes;
      closes_again = λ tell. subst (λ (p : Plan). ClosesInTime p ended y.moments) plans (y.follows.closes (ran_same.tell (played.1.tell tell)));
      offers = λ k serve end h.
          let x' = x.follows.offers k serve end h in
          let began : IsOffering c.links k serve end = subst (λ (l : LinksData). IsOffering l k serve end) (sym links) x'.1 in
          let y' = y.follows.offers k serve end (first.offers t g agreed agreed_gave k serve end began) in
          (x'.0, subst (λ (p : Plan). AreOffered p k serve end ended y.moments) plans y'.0, y'.1);
      shapes = λ k shape so_far h.
          let said : List Answer = so_far ++ heard_in a.plan (core_with a took gave) x.moments k in
          let x' = x.follows.shapes k shape so_far h in
          let began : IsShapedSo c.links k shape said = subst (λ (l : LinksData). IsShapedSo l k shape said) (sym links) x'.1 in
          let y' = y.follows.shapes k shape said (first.shapes k (paced shape said) began) in
          (x'.0, subst (λ (p : Plan). AreShaped p k shape said ended y.moments) plans y'.0);
      so_far = y.follows.so_far;
      core = subst (λ (p : Plan). core_with f y.follows.later y.follows.later_gave ≡ run p ended y.moments) plans y.follows.core;
      shows = shows_join a told f (same_links_join a b told played.1 ran_same) final.1 (shows_on a b told (first.ends ∙ ends) x.follows.shows)
          (subst (λ (p : Plan). LinksShow told f (broken_in p ended y.moments) (heard_in p ended y.moments) (taken_in p ended y.moments)) plans y.follows.shows);
    }

  pub all_links : SameLinks a f
  all_links = same_links_join a b f played.1 (same_links_join b told f ran_same final.1)

  pub all_plans : (f.plan ≡ a.plan) × (f.ids.plan ≡ a.ids.plan)
  all_plans = (final.0.plan ∙ plans, final.0.id_plan ∙ first.same.0.id_plan ∙ id_plan ∙ played.0.id_plan)

  pub settles : Settled a f
  settles = record {
    plan = all_plans.0;
    id_plan = all_plans.1;
    links = all_links;
    settled = λ took gave agrees agrees_gave. let x = played.2 took gave agrees agrees_gave in
        settled_with took gave x (final.2 x.follows.later x.follows.later_gave (first.core x.follows.later x.follows.later_gave (agreed took gave x) (agreed_gave took gave x)).0
        (first.core x.follows.later x.follows.later_gave (agreed took gave x) (agreed_gave took gave x)).1);
  }

-- what stays where memory ran out behind the ending
pub settled_links : (a b c d f : MachineState) → SameLinks a b → c.links ≡ b.links → c.ends ≡ b.ends → SameLinks c d → SameLinks (told_ending d) f → SameLinks a f
settled_links a b c d f first links ends ran last =
    same_links_join a b f first (same_links_join b c f (links_kept b c ends (λ always_ready. subst AreAlwaysReady (sym links) always_ready) (λ tell. subst TellClosing (sym links) tell)) (same_links_join c d f ran (same_links_join d (told_ending d) f (told_same d) last)))
