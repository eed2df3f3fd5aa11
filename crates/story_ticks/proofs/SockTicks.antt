-- A tick that makes a step on the table of the sockets keeps the laws of the id slots, of the ids and of the tasks, with all that is said in it.
use Rattle.std.proofs.Common.{◌≡◌, ◌≢◌, ℕ, ◌+◌, ◌<◌, ◌≤◌, inl, inr, ⊎_elim, List, [], get_or, set, slice_get, Some, refl, sym, ap, ◌∙◌, subst}
use lib.ListN.{get_elem?}
use Rattle.atomic_table.proofs.Lists.{set_again}
use Rattle.sock_words.specs.PackedWords.{at_word_attempt, call_id, id_slot, id_first}
use Rattle.sock_words.specs.declared.plain.Plan.{Plan}
use Rattle.sock_model.specs.SocketTableLayout.{code_index}
use Rattle.seat_programs.specs.brpc_model.specs.FrameStream as streams
use Rattle.corr_core.specs.IdSlotWord.{Parts, parts}
use Rattle.corr_core.specs.declared.marks.Plan.{Plan as IdPlan}
use Rattle.seat_programs.specs.id_rule.specs.LawfulIdTable.{tag_index, id_index, call_index, at_index}
use Rattle.sock_message.specs.Asked.{Asked}
use Rattle.seat_programs.specs.declared.task.Task.{Task}
use Rattle.seat_programs.specs.LoopHeads.{Retry}
use Rattle.seat_programs.specs.Programs.{Program}
use Rattle.seat_programs.specs.Cores.{resolved, said, next_step}
use Rattle.story_steps.specs.call_stories.specs.LinkReadingLists.{times}
use Rattle.story_steps.specs.call_stories.specs.Decided.{Decision}
use Rattle.story_steps.specs.call_stories.specs.Scenes.{Birth, Scene, IsOver, IsBorn, IsOther, Named, StaysWithin, Later}
use Rattle.story_steps.specs.call_stories.specs.Says.{Mark, SaidBy, SaysOn}
use Rattle.story_steps.specs.call_stories.specs.CallStories.{At, word_at, HasPassed, IsCurrent, SlotsLaw, BirthsLaw, TasksLaw}
use Rattle.story_steps.specs.call_stories.proofs.LastingCallStories.{are_told_on, cause_on, advance_on, here_later}
use Rattle.story_steps.proofs.IdSlotsBehindAsides.{LikeAt, like_fits}
use Rattle.story_steps.proofs.BirthTicks.{one_call}
use Rattle.story_steps.proofs.NumberedTasks.{AreNumbered}
use Rattle.story_ticks.proofs.TaskTicks.{Change, quiet_on, changed}
use Rattle.story_ticks.proofs.SaidBeforeNextStep.{sayings_of, AreFewTries, KeepsFew, IsKept, chain, said_first}
use Rattle.story_ticks.proofs.LawsBehindAsideTicks.{sayings_keep, overs_keep, said_all}
use Rattle.story_steps.specs.call_stories.specs.Below.outcome_stories.specs.OperationStories.{In}

module _ (p : Plan) (q : IdPlan) (clients : List (List Task)) (gives : ℕ → List ℕ) (numbered : AreNumbered p q clients gives) (w w' : Scene) (ms : List Mark) (j : ℕ) (m : Mark) (at : At ms j m) (slots : SlotsLaw q w ms) (births : BirthsLaw p q clients gives w) (tasks : TasksLaw p q clients gives w w.core.outcomes w.sayings ms) (room : StaysWithin p q clients gives w') where
  -- the table of the ids is as it was; no name loses its socket, and each code of a socket is that of an error
  pub record IsBeside : Type 0 where
    pub words : w'.core.calls.words ≡ w.core.calls.words
    pub homes : w'.core.calls.homes ≡ w.core.calls.homes
    pub gave : w'.core.calls.gave ≡ w.core.calls.gave
    pub births_are : w'.births ≡ w.births
    pub claims_are : w'.claims ≡ w.claims
    pub advances_are : w'.advances ≡ w.advances
    pub posts_are : w'.posts ≡ w.posts
    pub decided : (d : Decision) → In d w.decisions → In d w'.decisions
    pub named : (n : ℕ) → Named p q clients gives w n → Named p q clients gives w' n
    pub codes : (i : ℕ) → i < p.slots → get_or w'.core.words (code_index i) 0 ≢ 0 → IsOther p q clients gives (get_or w'.core.words (code_index i) 0)

  module _ (b : IsBeside) (x : Program) (ws : List Retry) (few : AreFewTries ws) (keeps : KeepsFew x) (told : w'.core.outcomes ≡ said (resolved ws x) w.core.outcomes) (sayings : w'.sayings ≡ sayings_of (resolved ws x) w.sayings) where
    pub beside_later : Later p q clients gives w w'
    beside_later = record {
      said = λ o v s. subst (In (record { number = o; outcome = v })) (sym sayings) (sayings_keep (resolved ws x) w.sayings (record { number = o; outcome = v }) s);
      over = λ a c s. subst (IsOver a c) (sym sayings) (overs_keep (resolved ws x) w.sayings a c s);
      named = b.named;
      begun = λ o begun e. begun (ap (λ cs. get_or cs (call_index q o) 0) (sym b.words) ∙ e);
      born = λ id asked there. subst (In (record { id = id; asked = asked })) (sym b.births_are) there;
      came = λ k n f there. subst (λ g. slice_get (streams.stream (get_or g k [])).frames n ≡ Some f) (sym b.gave) there;
      claimed = λ i o there. subst (In (record { slot = i; operation = o })) (sym b.claims_are) there;
      posted = λ x there. subst (In x) (sym b.posts_are) there;
      decided = b.decided;
      ended = λ c n u. (subst (In c) (sym b.births_are) u.0, subst (λ ws. id_first c.id + c.asked.range ≤ (parts (get_or ws (id_index (id_slot c.id)) 0)).first) (sym b.words) u.1, ap (times c.asked.operation) b.advances_are ∙ u.2);
      within = room;
      apart = λ id a c s t. one_call w.births births.apart (λ y there. (births.born y there).1) id a c (subst (In (record { id = id; asked = a })) b.births_are s) (subst (In (record { id = id; asked = c })) b.births_are t);
    }

    word_same : (k : ℕ) → word_at w' k ≡ word_at w k
    word_same k = ap (λ cs. parts (get_or cs (id_index k) 0)) b.words

    like : (k : ℕ) → LikeAt q k w w'
    like k = record {
      tag = λ n e. n (ap (λ cs. get_or cs (tag_index k) 0) (sym b.words) ∙ e);
      first = ap (λ (y : Parts). y.first) (word_same k);
      range = ap (λ (y : Parts). y.range) (word_same k);
      state = ap (λ (y : Parts). y.state) (word_same k);
      attempt = ap (λ (y : Parts). y.attempt) (word_same k);
      home = λ asked lies. ap (λ hs. get_elem? hs k) (sym b.homes) ∙ lies;
    }

    pub beside_slots : SlotsLaw q w' ms
    beside_slots = record { fits = λ k n there. like_fits q w w' n.slot (λ i _ _. like i) (slots.fits k n there); single = slots.single }

    back_passed : (c : Birth) → HasPassed w' c → HasPassed w c
    back_passed c over = subst (λ (y : Parts). id_first c.id + c.asked.range ≤ y.first) (word_same (id_slot c.id)) over

    on_passed : (c : Birth) → HasPassed w c → HasPassed w' c
    on_passed c over = subst (λ (y : Parts). id_first c.id + c.asked.range ≤ y.first) (sym (word_same (id_slot c.id))) over

    back_current : (c : Birth) → IsCurrent w' c → IsCurrent w c
    back_current c now = subst (λ (y : Parts). (y.first ≡ id_first c.id) × (0 < y.state) × (y.range ≡ c.asked.range)) (word_same (id_slot c.id)) now

    on_current : (c : Birth) → IsCurrent w c → IsCurrent w' c
    on_current c now = subst (λ (y : Parts). (y.first ≡ id_first c.id) × (0 < y.state) × (y.range ≡ c.asked.range)) (sym (word_same (id_slot c.id))) now

    live : (k : ℕ) → 0 < (word_at w' k).state → 0 < (word_at w k).state
    live k now = subst (λ (y : Parts). 0 < y.state) (word_same k) now

    born_at : (k : ℕ) (a : Asked) → IsBorn w (call_id k (word_at w k).first) a → IsBorn w' (call_id k (word_at w' k).first) a
    born_at k a there = subst (λ (y : Parts). IsBorn w' (call_id k y.first) a) (sym (word_same k)) (beside_later.born (call_id k (word_at w k).first) a there)

    pub beside_births : BirthsLaw p q clients gives w'
    beside_births = record {
      born = λ c there. let y = births.born c (subst (In c) b.births_are there) in (y.0, y.1, y.2, ⊎_elim (λ over. inl (on_passed c over)) (λ now. inr (on_current c now)) y.3);
      alive = λ k inside now. let y = births.alive k inside (live k now) in (y.0, born_at k y.0 y.1);
      apart = subst Rattle.story_steps.specs.call_stories.specs.CallStories.AllApart (sym b.births_are) births.apart;
      homes = λ k a inside now lies. born_at k a (births.homes k a inside (live k now) ((like k).home a lies));
      errors = λ k inside. subst (λ (y : Parts). 0 < y.state → (y.oldest ≢ 0 → Rattle.story_steps.specs.call_stories.specs.Scenes.CauseOf p q clients gives w' (call_id k y.first) y.oldest) × (y.second ≢ 0 → Rattle.story_steps.specs.call_stories.specs.Scenes.CauseOf p q clients gives w' (call_id k y.first) y.second)) (sym (word_same k))
          (λ now. let e = births.errors k inside now in ((λ ne. cause_on p q clients gives w w' beside_later (call_id k (word_at w k).first) (word_at w k).oldest (e.0 ne)), (λ ne. cause_on p q clients gives w w' beside_later (call_id k (word_at w k).first) (word_at w k).second (e.1 ne))));
      attempts = λ c there now. ap (λ (y : Parts). y.attempt) (word_same (id_slot c.id)) ∙ (births.attempts c (subst (In c) b.births_are there) (back_current c now) ∙ ap (times c.asked.operation) (sym b.advances_are));
      few = λ c there. subst (λ ns. times c.asked.operation ns + 2 ≤ c.asked.range) (sym b.advances_are) (births.few c (subst (In c) b.births_are there));
      advanced = λ c there n less. advance_on p q clients gives w w' beside_later c.id n (births.advanced c (subst (In c) b.births_are there) n (subst (λ ns. n < times c.asked.operation ns) b.advances_are less));
      ats = λ o inside. subst (λ ws. at_word_attempt (get_or ws (at_index q o) 0) ≤ 6) (sym b.words) (births.ats o inside);
      unmade = λ o all. ap (times o) b.advances_are ∙ births.unmade o (λ c there. all c (subst (In c) (sym b.births_are) there));
      codes = b.codes;
    }

    unchanged : Change p q clients gives numbered w w' births w.core.outcomes w.sayings ms tasks j m at beside_later m
    unchanged = record {
      client = refl;
      placed = refl;
      told = are_told_on p q clients gives w w' beside_later m.client m.done (tasks.told j m at);
      quiet = quiet_on p q clients gives numbered w w' births w.core.outcomes w.sayings ms tasks j m at beside_later m.client m.done (tasks.quiet j m at);
      done = λ t there. there;
      begun = λ c u there y. y;
      born = λ c there. inl (subst (In c) b.births_are there);
      made = λ c is. subst (In c) (sym b.births_are) (tasks.made j m c at is);
      called = λ o inside begun. let z = ap (λ cs. get_or cs (call_index q o) 0) b.words in inl ((λ e. begun (z ∙ e)), z);
      fresh = λ u there. there;
      owes = λ c is. inl is;
      owed_still = λ c is. is;
      passed = λ c there over. inl (back_passed c over);
      current = λ c there now. back_current c now;
      passed_on = λ c there over. on_passed c over;
    }

    pub beside_tasks : TasksLaw p q clients gives w' w.core.outcomes w.sayings ms
    beside_tasks = subst (TasksLaw p q clients gives w' w.core.outcomes w.sayings) (set_again ms j m at) (changed p q clients gives numbered w w' births w.core.outcomes w.sayings ms tasks j m at beside_later m unchanged)

    -- what is said in the tick
    pub beside_said : SaidBy w' x
    beside_said = said_first w' ws x (said_all w' x ws w.sayings (λ s there. subst (In s) (sym sayings) there) (λ a b there. subst (IsOver a b) (sym sayings) there))

    here : Later p q clients gives w' w'
    here = here_later p q clients gives w' room beside_later.apart

    -- the laws behind the tick, with the mark that is left once all is said
    pub record AfterBeside : Type 0 where
      pub mark : Mark
      pub kept : IsKept p q clients gives m mark
      pub slots_law : SlotsLaw q w' ms
      pub births_law : BirthsLaw p q clients gives w'
      pub tasks_law : TasksLaw p q clients gives w' w'.core.outcomes w'.sayings (set ms j mark)
      pub says_on : SaysOn p q clients gives w' mark (next_step (resolved ws x))

    pub beside_ticks : SaysOn p q clients gives w' m x → AfterBeside
    beside_ticks says =
        let r = chain p q clients gives numbered w' beside_births here j x ws w.core.outcomes w.sayings ms m at beside_tasks says few keeps (said_all w' x ws w.sayings (λ s there. subst (In s) (sym sayings) there) (λ a b there. subst (IsOver a b) (sym sayings) there)) in record {
          mark = r.0;
          kept = r.1;
          slots_law = beside_slots;
          births_law = beside_births;
          tasks_law = subst (λ os. TasksLaw p q clients gives w' os w'.sayings (set ms j r.0)) (sym told) (subst (λ ss. TasksLaw p q clients gives w' (said (resolved ws x) w.core.outcomes) ss (set ms j r.0)) (sym sayings) r.2);
          says_on = r.3;
        }
