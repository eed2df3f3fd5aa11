-- Where no seat has anything left to do, the story is that of a world.
use Rattle.std.proofs.Common.{◌≡◌, ◌≢◌, ℕ, ◌+◌, ◌%◌, ◌<◌, Bool, List, ⊎_elim, subst, arith}
use Rattle.std.specs.Prelude.{slice_index}
use Rattle.sock_words.specs.declared.plain.Plan.{Plan}
use Rattle.sock_model.specs.declared.view.View.{View}
use Rattle.sock_model.specs.SocketTableLayout.{request_index}
use Rattle.sock_model.specs.SocketSlotLaw.{SlotLaw, live}
use Rattle.sock_model.specs.References.{slot_facts}
use Rattle.outcome_ticks.specs.program_steps.specs.slot_steps.proofs.SlotLawClauses.{taken_for}
use Rattle.outcome_ticks.specs.program_steps.specs.slot_steps.proofs.RuleNumbers.{life_le}
use Rattle.seat_programs.specs.declared.task.Task.{Task}
use Rattle.seat_programs.specs.TableSteps.{OnChain, ClaimRequest}
use Rattle.seat_programs.specs.Cores.{Core}
use Rattle.seat_programs.specs.Explained.{AreTasks}
use Rattle.outcome_ticks.specs.program_steps.specs.ProgramGoesOn.{GoesOn, HasNothing}
use Rattle.outcome_ticks.specs.program_steps.specs.SoundSeats.{state, Sound, AllRest}
use Rattle.outcome_ticks.specs.outcome_stories.specs.OperationStories.{Event, In}
use Rattle.outcome_ticks.specs.outcome_stories.specs.Explains.{step}
use Rattle.outcome_ticks.specs.outcome_stories.specs.KeptStory.{StaysUsed, Story}
use Rattle.outcome_ticks.proofs.SendingExplained.{Within}
use Rattle.outcome_ticks.proofs.BrokenLinksAdded.{good_more}
use Rattle.outcome_ticks.proofs.EventsOfGoodStory.{event}
use Rattle.outcome_causes.proofs.Final.{at_there, idle, final}
use Rattle.outcome_causes.proofs.LivesByTask.{World}
use Rattle.outcome_ticks.specs.outcome_stories.proofs.Delivered.{orders_of, AreQuiet, requests_used}
use Rattle.seat_programs.specs.corr_core.proofs.NoteSums.{at_length}

-- no view has anything to do
pub quiet : (p : Plan) (c : Core) (vs : List View) → Sound p c vs → AllRest c → AreQuiet vs
quiet p c vs sound settled i v at = let seat = at_there c.seats i (omega (arith, at_length vs i v at, sound.each)) in
    let n : HasNothing v = subst (GoesOn p v) (settled i seat.0 seat.1) (sound.seats i seat.0 v seat.1 at).goes_on in n.quiet

-- links that were lost are among these
module _ (p : Plan) (clients : List (List Task)) (are : AreTasks p clients) (over : Bool) (c : Core) (vs : List View) (es : List Event) (failed broken : List ℕ) (within : Within failed broken) (sound : Sound p c vs) (story : Story p clients over c vs es failed) (settled : AllRest c) where
  law : (j : ℕ) → j < p.slots → SlotLaw p.first (live (slot_facts (state c vs) j)) (slot_facts (state c vs) j)
  law j l = sound.lawful.references.slots j l

  -- a request that was found claimed was used
  word_used : (q i u id found : ℕ) → In (event i u (OnChain (ClaimRequest id q)) found) es → found % 2 ≡ 1 → slice_index c.words (request_index p q) ≢ 0
  word_used q i u id found m odd = let x : StaysUsed p c.words (step (OnChain (ClaimRequest id q)) found) = story.used (event i u (OnChain (ClaimRequest id q)) found) m in let y = (x odd).1 in λ e. omega (arith, y, e)

  pub world_of : World p clients c.outcomes broken (orders_of p c vs sound.lawful) es
  world_of = record {
    are = are;
    few = sound.limits.slots;
    good = good_more p clients failed broken within es story.good;
    final = final p clients are over c vs es failed sound story settled;
    born_once = λ j l h. omega (arith, story.births j l h, (law j l).born h, life_le p.first h ((slot_facts (state c vs) j).version + live (slot_facts (state c vs) j)));
    failed_once = λ j l h. omega (arith, story.fails j l h, (law j l).failed h, life_le p.first h (slot_facts (state c vs) j).version);
    tried_born = λ j l t. let a = story.tries j l in
        ⊎_elim (λ claimed. let b = idle p clients are over c vs es failed sound story settled j in absurd (omega arith))
        (λ born. omega (arith, story.births j l p.first, born))
        (taken_for p.first (slot_facts (state c vs) j) (law j l) sound.lawful.fits.even (omega arith));
    full = λ h. requests_used p c vs sound.lawful (quiet p c vs sound settled) (λ q l. let x = h q l in word_used q x.0 x.1 x.2 x.3 x.4 x.5);
  }
