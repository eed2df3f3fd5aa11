-- What the story of the calls and the rule of the ids tell a reader of a step aside of any seat: id words go on, what is found is what is there, and bytes are taken of the seat's own link.
use Rattle.std.proofs.Common.{◌≡◌, ℕ, ◌+◌, ◌<◌, ◌≤◌, ◌⊎◌, inl, inr, cond, eqb, ne_eqb, List, ◌++◌, length, refl, ap, ◌∙◌, arith}
use Rattle.std.specs.Prelude.{slice_index}
use mathlib.Core.Option.{Option, some}
use lib.ListN.{get_elem?}
use Rattle.sock_words.specs.declared.plain.Plan.{Plan}
use Rattle.corr_core.specs.IdSlotWord.{Parts, parts, free_word}
use Rattle.corr_core.specs.declared.marks.Plan.{Plan as IdPlan}
use Rattle.seat_programs.specs.id_rule.specs.LawfulIdTable.{id_index, all_words}
use Rattle.seat_programs.specs.declared.task.Task.{Task}
use Rattle.seat_programs.specs.Asides.{Step, Found, LoadIdWord, LockId, PostId, EndId, TakeBytes, Taking}
use Rattle.seat_programs.specs.FoundAndChangedAside.{found_in, calls_after}
use Rattle.seat_programs.specs.PostPrograms.{packed}
use Rattle.seat_programs.specs.Programs.{Program, Aside}
use Rattle.seat_programs.specs.Cores.{Core}
use Rattle.story_ticks.specs.Below.id_runs.specs.HeldIdTokens.{IdView}
use Rattle.story_ticks.specs.Below.id_runs.specs.Goes.{IdGoesOn, SoundIds}
use Rattle.story_ticks.specs.Below.id_runs.proofs.AsidesKeepingIdRule.{parts_packed}
use Rattle.story_ticks.specs.call_stories.specs.LinkReadingLists.{advances_by}
use Rattle.story_ticks.specs.call_stories.specs.PostsOfRun.{posts_by}
use Rattle.story_ticks.specs.call_stories.specs.Scenes.{Scene}
use Rattle.story_ticks.specs.call_stories.specs.Says.{Mark, MayAside}
use Rattle.story_ticks.specs.call_stories.specs.CallStories.{At, word_at, IsBehind, KnowsStep, births_after, claims_after, ReadsLaw, CallStory}
use Rattle.story_ticks.specs.story_steps.proofs.Births.{Turn, keeps, ends, makes, IsMake, IsEnd, turn}
use Rattle.story_ticks.specs.call_stories.proofs.Effects.{word_is}
use Rattle.story_ticks.specs.call_stories.proofs.KnowingBeforeAsides.{is_sized, are_low, knows}
use Rattle.call_causes.proofs.HandledResponses.{bound, Goes}

bound_free : (w : Parts) → w.state ≡ 0 → bound w ≡ w.first
bound_free w e = ap (λ n. cond (eqb n 0) w.first (w.first + w.range)) e

bound_there : (w : Parts) → 0 < w.state → bound w ≡ w.first + w.range
bound_there w some_ = ap (λ b. cond b w.first (w.first + w.range)) (ne_eqb w.state 0 (λ e. omega (arith, some_, e)))

either_state : (w : Parts) → (w.state ≡ 0) ⊎ (0 < w.state)
either_state w = by w.state
  where
    by : (n : ℕ) → (n ≡ 0) ⊎ (0 < n)
    by Rattle.std.proofs.Common.zero = inl refl
    by (Rattle.std.proofs.Common.suc n) = inr (omega arith)

-- a turn of a word goes on
turn_goes : (M E : Type 0) (old new : Parts) → Turn M E old new → Goes old new
turn_goes M E old new (keeps first range on back) = by_state (either_state old)
  where
    by_state : (old.state ≡ 0) ⊎ (0 < old.state) → Goes old new
    by_state (inl free) = record {
      first = omega (arith, first);
      bound_is = (let a = bound_free old free in let b = new_free (either_state new) in omega (arith, a, b, first));
    }
      where
        new_free : (new.state ≡ 0) ⊎ (0 < new.state) → bound new ≡ new.first
        new_free (inl e) = bound_free new e
        new_free (inr some_) = absurd (let z = back some_ in omega (arith, z, free))
    by_state (inr some_) = record {
      first = omega (arith, first);
      bound_is = (let a = bound_there old some_ in let b = bound_there new (on some_) in omega (arith, a, b, first, range));
    }
turn_goes M E old new (ends is first over) = record {
  first = omega (arith, first);
  bound_is = (let b = bound_free new over in by_state b (either_state old));
}
  where
    by_state : bound new ≡ new.first → (old.state ≡ 0) ⊎ (0 < old.state) → bound old ≤ bound new
    by_state b (inl free) = let a = bound_free old free in omega (arith, a, b, first)
    by_state b (inr some_) = let a = bound_there old some_ in omega (arith, a, b, first)
turn_goes M E old new (makes is free first one) = record {
  first = omega (arith, first);
  bound_is = (let a = bound_free old free in let b = bound_there new (omega (arith, one)) in omega (arith, a, b, first));
}

-- the step takes bytes of the link of its seat, if it takes some
abbrev pub Tied : ℕ → Core → Step → Type 0
Tied i c (TakeBytes l room) = (i ≡ 32 + l) × (l < length c.calls.gave)
Tied i c other = Unit {0}

-- and finds the id word that is there
abbrev pub FindsWord : List ℕ → List ℕ → (step : Step) → Found step → Type 0
FindsWord ws ws' (LoadIdWord i) found = parts found ≡ parts (slice_index ws (id_index i))
FindsWord ws ws' (LockId i from) found = parts found ≡ parts (slice_index ws (id_index i))
FindsWord ws ws' (PostId i from e) found = (parts found ≡ parts (slice_index ws (id_index i))) × ((parts (slice_index ws (id_index i))).first ≤ 67108856)
FindsWord ws ws' (EndId i) found = (parts (slice_index ws' (id_index i))).first ≡ (parts (slice_index ws (id_index i))).first + (parts (slice_index ws (id_index i))).range
FindsWord ws ws' step found = Unit {0}

pub record Facts (q : IdPlan) (i : ℕ) (c : Core) (step : Step) (found : Found step) : Type 0 where
  pub goes : (j : ℕ) → j < q.slots → Goes (parts (slice_index c.calls.words (id_index j))) (parts (slice_index (calls_after step found c.calls).words (id_index j)))
  pub finds : FindsWord c.calls.words (calls_after step found c.calls).words step found
  pub tied : Tied i c step

module _ (p : Plan) (q : IdPlan) (clients : List (List Task)) (gives : ℕ → List ℕ) (w : Scene) where
  finds_word : (w' : Scene) (m : Mark) (low : (k : ℕ) → k < q.slots → (word_at w k).first ≤ 67108856) (plan : w.core.calls.plan ≡ q) (sized : length w.core.calls.words ≡ all_words q) (step : Step) (found : Found step) → IsBehind p q clients gives w w' m step found → KnowsStep p q clients gives w step found → FindsWord w.core.calls.words w'.core.calls.words step found
  finds_word w' m low plan sized (LoadIdWord i) found b kn = kn.0.1
  finds_word w' m low plan sized (LockId i from) found b kn = kn.0.1
  finds_word w' m low plan sized (EndId i) found b kn =
      let x = word_is p q clients gives w w' m plan i kn.0 sized (packed (free_word ((parts found).first + (parts found).range))) b.words ∙ parts_packed (free_word ((parts found).first + (parts found).range)) (omega arith) (omega arith) (omega arith) (omega arith) (omega arith) (omega arith) in
      ap (λ (y : Parts). y.first) x ∙ ap (λ (y : Parts). y.first + y.range) kn.1
  finds_word w' m low plan sized (PostId i from e) found b kn = (kn.0.1, low i kn.0.0)
  finds_word w' m low plan sized _ found b kn = tt

  tied_to : (ms : List Mark) (reads : ReadsLaw p q clients gives w ms) (i : ℕ) (m : Mark) (at : At ms i m) (step : Step) → MayAside p q clients gives w m step → Tied i w.core step
  tied_to ms reads i m at (TakeBytes l room) may = (reads.tied i l m at may, reads.inside i l m at may)
  tied_to ms reads i m at step may = tt

  module _ (ms : List Mark) (story : CallStory p q clients gives w ms) (us : List IdView) (ids : SoundIds p q w.core us) (i : ℕ) (u : IdView) (at_view : get_elem? us i ≡ some u) (m : Mark) (at : At ms i m)
      (step : Step) (next : Found step → Program) (t : Option Taking) (may : MayAside p q clients gives w m step) (go : IdGoesOn p q u (Aside step next)) (found : Found step) (is : found_in step w.core.calls t ≡ some found) where
    abbrev scene : Scene
    scene = record {
      core = record { words = w.core.words; homes = w.core.homes; seats = w.core.seats; outcomes = w.core.outcomes; calls = calls_after step found w.core.calls };
      claims = claims_after p q clients gives step found m w.claims;
      births = births_after p q clients gives step found m w.births;
      advances = advances_by step found w.core.calls ++ w.advances;
      posts = posts_by step found ++ w.posts;
      decisions = w.decisions;
      sayings = w.sayings;
    }

    pub facts : Facts q i w.core step found
    facts =
        let b : IsBehind p q clients gives w scene m step found = record { words = refl; homes = refl; gave = refl; births = refl; claims = refl; advances = refl; posts = refl; decided = λ d there. there; sayings = λ s there. there; overs = λ x y there. there } in
        let kn = knows p q clients gives w us ids ms i m at story.reads u at_view step t found is go.0 may in
        let sized = is_sized p q clients gives w us ids in
        record {
          goes = λ j low. turn_goes (IsMake step j) (IsEnd step j) (parts (slice_index w.core.calls.words (id_index j))) (parts (slice_index (calls_after step found w.core.calls).words (id_index j))) (turn p q clients gives w scene m ids.plan sized (story.slots.fits i m at) step found b kn may j low);
          finds = finds_word scene m (are_low p q clients gives w us ids) ids.plan sized step found b kn;
          tied = tied_to ms story.reads i m at step may;
        }
