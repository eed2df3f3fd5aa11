-- In a whole run each response of link k that an id might have to which the link's reader posted an error stands among the soon ones.
use Rattle.std.proofs.Common.{◌≡◌, ℕ, zero, suc, ◌+◌, ◌<◌, ◌≤◌, ◌⊎◌, ⊎_elim, true, List, [], ◌∷◌, ◌++◌, length, replicate, slice_get, Some, append_assoc, get_or, refl, sym, ◌∙◌, subst, arith}
use Rattle.std.specs.List.{AllByRecursion}
use Rattle.std.proofs.lemmas.List.{length-map}
use mathlib.Core.Option.{some, some-injective, some-ne-none}
use lib.ListN.{get_elem?}
use Rattle.atomic_table.proofs.Lists.{at_set}
use Rattle.seat_programs.specs.brpc_model.specs.Items.{Item}
use Rattle.seat_programs.specs.brpc_model.specs.Operations.{Turn}
use Rattle.seat_programs.specs.brpc_model.specs.Frame.{Frame}
use Rattle.story_ticks.specs.Below.joint_runs.specs.Below.chain_steps.proofs.TicketLists.{at_some}
use Rattle.sock_words.specs.declared.outcome.Outcome.TheVariants as outcomes
use Rattle.sock_message.specs.Asked.{Asked}
use Rattle.seat_programs.specs.declared.task.Op.TheVariants as ops
use Rattle.seat_programs.specs.declared.task.Task.{Task}
use Rattle.seat_programs.specs.Explained.{IsTask, Became}
use Rattle.story_ticks.specs.Below.call_owing.specs.LivesOfLinks.{ClosesInRun}
use Rattle.seat_programs.specs.ClientProgram.{ending_of, client_from}
use Rattle.seat_programs.specs.Programs.{Program}
use Rattle.seat_programs.specs.ReaderProgram.{slot_in, version_in}
use Rattle.seat_programs.specs.Cores.{Core, SeatState, resolved, waiting_at, next_step}
use Rattle.seat_programs.specs.Ticks.{Moment, run}
use Rattle.seat_programs.specs.Tasks.{opens, calls, plan_of, id_plan_of}
use Rattle.seat_programs.specs.ScriptSetupToEnding.{sizes_of, programs, all_tasks, opened, ending, set_up, played, is_ending, IsRunWithCalls}
use Rattle.story_ticks.specs.Below.programs_allowed.specs.program_walks.proofs.OpensStay.{readers_begin}
use Rattle.story_ticks.specs.Below.programs_allowed.specs.program_walks.proofs.WholeScriptSound.{views_played, views_closed, views_ended}
use Rattle.story_ticks.specs.Below.programs_allowed.proofs.WordsAtBeginning as clients_begin
use Rattle.story_ticks.specs.Below.id_runs.specs.HeldIdTokens.{IdView}
use Rattle.story_ticks.specs.Below.id_runs.specs.Goes.{SoundIds}
use Rattle.story_ticks.specs.Below.joint_runs.proofs.BothTablesSound.{BothSound}
use Rattle.story_ticks.specs.Below.joint_runs.proofs.RunsOfBothTables.{AreMade, first_views, joint_runs}
use Rattle.story_ticks.specs.Below.call_owing.specs.Below.script_facts.proofs.ReadScriptFacts.{InRange}
use Rattle.story_ticks.specs.Below.call_owing.specs.Below.script_facts.proofs.Targets.{AreThere}
use Rattle.story_ticks.specs.call_stories.specs.LinkReadingLists.{advanced_at, gave_in, soon_at, soon_of_run}
use Rattle.story_ticks.specs.call_stories.specs.PostsOfRun.{Post, posted_at}
use Rattle.story_ticks.specs.call_stories.specs.Decided.{posted_by, Decision, decided_by, posted_behind, late_in}
use Rattle.story_ticks.specs.call_stories.specs.Scenes.{Scene, LeadsTo}
use Rattle.story_ticks.specs.call_stories.specs.Says.{Mark}
use Rattle.story_ticks.specs.story_steps.proofs.NumberedTasks.{AreNumbered}
use Rattle.story_ticks.proofs.Claiming.{HaveSlots}
use Rattle.story_ticks.proofs.ScriptTasksFitStory.{are_numbered, have_slots, begins}
use Rattle.story_ticks.specs.story_steps.proofs.StoryAtRunEnd.{HasEnded, call_of}
use Rattle.story_ticks.specs.call_stories.proofs.KnowingBeforeAsides.{are_low}
use Rattle.call_causes.proofs.WholeCallStory.{run_has_story, run_has_ended}
use Rattle.call_causes.proofs.RunOfCallStory as runs
use Rattle.story_ticks.proofs.RunFacts.{own_leads, run_facts, leadings}
use Rattle.story_ticks.specs.call_stories.proofs.RunTicks.{in_setup, in_clients, in_closing, parts}
use Rattle.call_causes.proofs.HandledResponses.{Sit, frames_in, IsResp}
use Rattle.call_causes.proofs.HandledSteps.{State, waiting}
use Rattle.call_causes.proofs.HandledTicks.{sit}
use Rattle.call_causes.proofs.HandledPosts.{Claims, Silence}
use Rattle.call_causes.proofs.HandledBehind.{IsBehind, behind_along, behind_claims, late_claims, late_behind}
use Rattle.call_causes.proofs.HandledRuns.{AreKnown, setup_known, played_known, Reads', reads_along, claims_along, posts_claim, silence_along, decides_silent}
use Rattle.story_ticks.specs.Below.outcome_stories.specs.OperationStories.{In}
use Rattle.sock_words.specs.PackedWords.{id_slot, id_first}
use Rattle.story_ticks.specs.Below.outcome_stories.specs.Facts.{shown_in, shown_in_run}

each_at : {A : Type 0} (P : A → Type 0) (xs : List A) → AllByRecursion P xs → (i : ℕ) (x : A) → get_elem? xs i ≡ some x → P x
each_at P [] all i x at = absurd (some-ne-none x (sym at))
each_at P (y ∷ ys) all zero x at = subst P (some-injective y x at) all.0
each_at P (y ∷ ys) all (suc i) x at = each_at P ys all.1 i x at

pub empty_at : (n k : ℕ) → get_or (replicate n []) k [] ≡ (let e : List ℕ = [] in e)
empty_at zero k = refl
empty_at (suc n) zero = refl
empty_at (suc n) (suc k) = empty_at n k

module _ (script : List Item) (made : AreMade script) (there : AreThere script) (range : AllByRecursion InRange script) (turns : List Turn) (core : Core) (is : IsRunWithCalls script turns core) where
  leads : LeadsTo (plan_of script) (id_plan_of script) (all_tasks script) (gave_in core) core
  leads = own_leads script core

  open run_facts script made turns core is use {set_up_ahead, ended_ahead, many_seats}
  open leadings script turns core is (gave_in core) leads use {set_up_leads, played_leads, closed_leads}

  numbered : AreNumbered (plan_of script) (id_plan_of script) (all_tasks script) (gave_in core)
  numbered = are_numbered script made there range (gave_in core)

  slots : HaveSlots (plan_of script) (id_plan_of script) (all_tasks script) (gave_in core)
  slots = have_slots script made there range (gave_in core)

  -- ## The ticks of each part

  open parts posted_at is use {setup as posts_in_setup}
  open parts advanced_at is use {setup as advanced_in_setup}

  abbrev closing : Core
  closing = ending script (played script is.setup (is.scheduled ++ is.later))

  pub known_setup : AreKnown (plan_of script) (id_plan_of script) (opened script) (in_setup is)
  known_setup = let s = runs.sound_run script made (gave_in core) (are_numbered script made there range (gave_in core)) (have_slots script made there range (gave_in core)) (begins script made there range (gave_in core)) turns core is leads in
      setup_known (plan_of script) (id_plan_of script) (all_tasks script) (gave_in core) (are_numbered script made there range (gave_in core)) (have_slots script made there range (gave_in core)) (runs.small script made (gave_in core) (are_numbered script made there range (gave_in core)) (have_slots script made there range (gave_in core)) (begins script made there range (gave_in core)) turns core is leads)
      is.setup [] [] (opened script) (first_views script) s.setup
      set_up_leads
      (let t = runs.first_tale script made (gave_in core) (are_numbered script made there range (gave_in core)) (have_slots script made there range (gave_in core)) (begins script made there range (gave_in core)) turns core is leads in t.0)

  pub known_clients : AreKnown (plan_of script) (id_plan_of script) (set_up script is.setup) (in_clients is)
  known_clients = let s = runs.sound_run script made (gave_in core) (are_numbered script made there range (gave_in core)) (have_slots script made there range (gave_in core)) (begins script made there range (gave_in core)) turns core is leads in
      played_known (plan_of script) (id_plan_of script) (all_tasks script) (gave_in core) (are_numbered script made there range (gave_in core)) (have_slots script made there range (gave_in core)) (runs.small script made (gave_in core) (are_numbered script made there range (gave_in core)) (have_slots script made there range (gave_in core)) (begins script made there range (gave_in core)) turns core is leads)
      (is.scheduled ++ is.later) posts_in_setup
      advanced_in_setup
      (set_up script is.setup) (runs.views_set_up script made (gave_in core) (are_numbered script made there range (gave_in core)) (have_slots script made there range (gave_in core)) (begins script made there range (gave_in core)) turns core is leads) s.clients
      set_up_ahead is.is_set_up
      played_leads
      (let t = runs.set_up_tale script made (gave_in core) (are_numbered script made there range (gave_in core)) (have_slots script made there range (gave_in core)) (begins script made there range (gave_in core)) turns core is leads in t.0)

  known_closing : AreKnown (plan_of script) (id_plan_of script) closing (in_closing is)
  known_closing = let s = runs.sound_run script made (gave_in core) (are_numbered script made there range (gave_in core)) (have_slots script made there range (gave_in core)) (begins script made there range (gave_in core)) turns core is leads in
      let told = runs.ending_tale script made (gave_in core) (are_numbered script made there range (gave_in core)) (have_slots script made there range (gave_in core)) (begins script made there range (gave_in core)) turns core is leads in let t = told.0 in
      setup_known (plan_of script) (id_plan_of script) (all_tasks script) (gave_in core) (are_numbered script made there range (gave_in core)) (have_slots script made there range (gave_in core)) (runs.small script made (gave_in core) (are_numbered script made there range (gave_in core)) (have_slots script made there range (gave_in core)) (begins script made there range (gave_in core)) turns core is leads)
      is.last t.0 t.1 closing (views_played script turns core is (first_views script)) s.closing
      closed_leads (t.0, t.1, t.2, (λ x y. y), λ n. refl)

  known_final : AreKnown (plan_of script) (id_plan_of script) is.ended is.final
  known_final = let s = runs.sound_run script made (gave_in core) (are_numbered script made there range (gave_in core)) (have_slots script made there range (gave_in core)) (begins script made there range (gave_in core)) turns core is leads in
      let told = runs.ended_tale script made (gave_in core) (are_numbered script made there range (gave_in core)) (have_slots script made there range (gave_in core)) (begins script made there range (gave_in core)) turns core is leads in let t = told.0 in
      played_known (plan_of script) (id_plan_of script) (all_tasks script) (gave_in core) (are_numbered script made there range (gave_in core)) (have_slots script made there range (gave_in core)) (runs.small script made (gave_in core) (are_numbered script made there range (gave_in core)) (have_slots script made there range (gave_in core)) (begins script made there range (gave_in core)) turns core is leads)
      is.final t.0 t.1 is.ended (views_closed script turns core is (first_views script)) s.final
      ended_ahead is.is_over
      (subst (LeadsTo (plan_of script) (id_plan_of script) (all_tasks script) (gave_in core)) is.is_end leads) (t.0, t.1, t.2, (λ x y. y), λ n. refl)

  module _ (k o : ℕ) (at : get_elem? (opens script) k ≡ some o) where
    -- ## Through the parts of the run

    abbrev soon_setup : List (ℕ × ℕ)
    soon_setup = shown_in (soon_at (plan_of script)) (plan_of script) (opened script) (in_setup is)

    abbrev soon_clients : List (ℕ × ℕ)
    soon_clients = shown_in (soon_at (plan_of script)) (plan_of script) (set_up script is.setup) (in_clients is)

    abbrev soon_closing : List (ℕ × ℕ)
    soon_closing = shown_in (soon_at (plan_of script)) (plan_of script) closing (in_closing is)

    abbrev soon_final : List (ℕ × ℕ)
    soon_final = shown_in (soon_at (plan_of script)) (plan_of script) is.ended is.final

    module _ (St : Sit → Program → Type 0) where
      abbrev Has : List (ℕ × ℕ) → Core → Type 0
      Has soon c = (seat : SeatState) → get_elem? c.seats (32 + k) ≡ some seat → St (sit k c soon) seat.program

      -- seat 0 begins the ending, and the readers are told
      begins_ending : (soon : List (ℕ × ℕ)) (c : Core) → Has soon c → Has soon (ending script c)
      begins_ending soon c h seat at = ⊎_elim (λ a. absurd (let z = a.0 in omega (arith, z))) (λ a. h seat a.1)
          (at_set c.seats 0 (32 + k) (record { program = next_step (resolved (waiting_at c.calls.waiting 0) (ending_of (opens script))); hand = [] }) seat at)

      is_told : (soon : List (ℕ × ℕ)) (c : Core) → Has soon c → Has soon (is_ending c)
      is_told soon c h = h

      module _ (on : (soon : List (ℕ × ℕ)) (c : Core) (ms : List Moment) → AreKnown (plan_of script) (id_plan_of script) c ms → Has soon c → Has (soon ++ shown_in (soon_at (plan_of script)) (plan_of script) c ms) (run (plan_of script) c ms)) where
        from_ended : (soon : List (ℕ × ℕ)) → Has soon is.ended → Has (soon ++ soon_final) core
        from_ended soon h = subst (Has (soon ++ soon_final)) (sym is.is_end) (on soon is.ended is.final known_final h)

        from_closing : (soon : List (ℕ × ℕ)) → Has soon closing → Has (soon ++ (soon_closing ++ soon_final)) core
        from_closing soon h = subst (λ l. Has l core) (append_assoc soon soon_closing soon_final) (from_ended (soon ++ soon_closing) (subst (Has (soon ++ soon_closing)) (sym is.is_ended) (is_told (soon ++ soon_closing) (run (plan_of script) closing (in_closing is)) (on soon closing (in_closing is) known_closing h))))

        from_played : (soon : List (ℕ × ℕ)) → Has soon (played script is.setup (is.scheduled ++ is.later)) → Has (soon ++ (soon_closing ++ soon_final)) core
        from_played soon h = from_closing soon (begins_ending soon (played script is.setup (is.scheduled ++ is.later)) h)

        from_set_up : (soon : List (ℕ × ℕ)) → Has soon (set_up script is.setup) → Has (soon ++ (soon_clients ++ (soon_closing ++ soon_final))) core
        from_set_up soon h = subst (λ l. Has l core) (append_assoc soon soon_clients (soon_closing ++ soon_final)) (from_played (soon ++ soon_clients) (on soon (set_up script is.setup) (in_clients is) known_clients h))

    -- ## Its reader

    abbrev many : length (calls script) ≡ (id_plan_of script).slots
    many = made.slots

    abbrev Reading : List (ℕ × ℕ) → Core → Type 0
    Reading soon c = Reads' (plan_of script) (id_plan_of script) k (calls script) o many soon c

    reads_first : Reading [] (opened script)
    reads_first seat at_seat = waiting
        (⊎_elim (λ e. e) (λ x. absurd (x.0 ((let u = clients_begin.unused (plan_of script) in u.opens) o (each_at (λ n. n < (plan_of script).operations) (opens script) made.opens_in k o at))))
        (readers_begin (plan_of script) (id_plan_of script) (programs (sizes_of (plan_of script) (id_plan_of script)) (all_tasks script)) (calls script) (opens script)
        (let l = length-map (all_tasks script) (client_from (sizes_of (plan_of script) (id_plan_of script)) []) in let f = made.few_clients in omega (arith, l, f)) k o at seat at_seat))
        (empty_at (plan_of script).links k)

    reads_on : (soon : List (ℕ × ℕ)) (c : Core) (ms : List Moment) → AreKnown (plan_of script) (id_plan_of script) c ms → Reading soon c → Reading (soon ++ shown_in (soon_at (plan_of script)) (plan_of script) c ms) (run (plan_of script) c ms)
    reads_on soon c ms known h = reads_along (plan_of script) (id_plan_of script) k (calls script) o many ms soon c known h

    reads_set_up : Reading soon_setup (set_up script is.setup)
    reads_set_up = reads_on [] (opened script) (in_setup is) known_setup reads_first

    -- what it has handled where the ending begins
    pub reads_played : Reading (soon_setup ++ soon_clients) (played script is.setup (is.scheduled ++ is.later))
    reads_played = reads_on soon_setup (set_up script is.setup) (in_clients is) known_clients reads_set_up

    reads_closing : Reading (soon_setup ++ soon_clients) closing
    reads_closing = begins_ending (State k (id_plan_of script).slots (calls script) o many) (soon_setup ++ soon_clients) (played script is.setup (is.scheduled ++ is.later)) reads_played

    reads_ended : Reading ((soon_setup ++ soon_clients) ++ soon_closing) is.ended
    reads_ended = subst (Reading ((soon_setup ++ soon_clients) ++ soon_closing)) (sym is.is_ended) (reads_on (soon_setup ++ soon_clients) closing (in_closing is) known_closing reads_closing)

    -- what each part of the run makes of it stands in the end
    module _ {A : Type 0} (show : Core → Moment → List A) (x : A) (St : Sit → Program → Type 0)
        (on : (soon : List (ℕ × ℕ)) (c : Core) (ms : List Moment) → AreKnown (plan_of script) (id_plan_of script) c ms → Has St soon c → Has St (soon ++ shown_in (soon_at (plan_of script)) (plan_of script) c ms) (run (plan_of script) c ms))
        (comes : (soon : List (ℕ × ℕ)) (c : Core) (ms : List Moment) → AreKnown (plan_of script) (id_plan_of script) c ms → Reading soon c → In x (shown_in show (plan_of script) c ms) → Has St (soon ++ shown_in (soon_at (plan_of script)) (plan_of script) c ms) (run (plan_of script) c ms)) where
      abbrev shown_setup : List A
      shown_setup = shown_in show (plan_of script) (opened script) (in_setup is)

      abbrev shown_clients : List A
      shown_clients = shown_in show (plan_of script) (set_up script is.setup) (in_clients is)

      abbrev shown_closing : List A
      shown_closing = shown_in show (plan_of script) closing (in_closing is)

      abbrev shown_final : List A
      shown_final = shown_in show (plan_of script) is.ended is.final

      abbrev Ended : Type 0
      Ended = Has St (soon_of_run script turns core is) core

      by_final : In x shown_final → Ended
      by_final a = subst (λ y. Has St y core) (append_assoc (soon_setup ++ soon_clients) soon_closing soon_final ∙ append_assoc soon_setup soon_clients (soon_closing ++ soon_final))
          (subst (Has St (((soon_setup ++ soon_clients) ++ soon_closing) ++ soon_final)) (sym is.is_end) (comes ((soon_setup ++ soon_clients) ++ soon_closing) is.ended is.final known_final reads_ended a))

      by_closing : In x shown_closing → Ended
      by_closing a = subst (λ y. Has St y core) (append_assoc (soon_setup ++ soon_clients) soon_closing soon_final ∙ append_assoc soon_setup soon_clients (soon_closing ++ soon_final))
          (from_ended St on ((soon_setup ++ soon_clients) ++ soon_closing) (subst (Has St ((soon_setup ++ soon_clients) ++ soon_closing)) (sym is.is_ended) (comes (soon_setup ++ soon_clients) closing (in_closing is) known_closing reads_closing a)))

      by_clients : In x shown_clients → Ended
      by_clients a = subst (λ y. Has St y core) (append_assoc soon_setup soon_clients (soon_closing ++ soon_final)) (from_played St on (soon_setup ++ soon_clients) (comes soon_setup (set_up script is.setup) (in_clients is) known_clients reads_set_up a))

      by_setup : In x shown_setup → Ended
      by_setup a = from_set_up St on soon_setup (comes [] (opened script) (in_setup is) known_setup reads_first a)

      in_the_end : In x (shown_in_run script turns core is show) → Ended
      in_the_end there = ⊎_elim by_setup
          (λ l. ⊎_elim by_clients (λ l. ⊎_elim by_closing by_final (runs.in_either x shown_closing shown_final l)) (runs.in_either x shown_clients (shown_closing ++ shown_final) l))
          (runs.in_either x shown_setup (shown_clients ++ (shown_closing ++ shown_final)) there)

    seat_there : (seat : SeatState) × (get_elem? core.seats (32 + k) ≡ some seat)
    seat_there = at_some core.seats (32 + k) (let seats = made.seats in let low = inside (opens script) k at in
        let l = many_seats in omega (arith, l, seats, low))
      where
        inside : (xs : List ℕ) (i : ℕ) → get_elem? xs i ≡ some o → i < length xs
        inside [] i e = absurd (some-ne-none o (sym e))
        inside (y ∷ ys) zero e = omega arith
        inside (y ∷ ys) (suc i) e = let z = inside ys i e in omega (arith, z)

    -- each response of link k that is of the id's slot and behind its first version is soon, where the reader of k posted to the id
    pub soon_of_readers : (x : Post) → In x (shown_in_run script turns core is (posted_by (32 + k))) → (n : ℕ) (f : Frame) → slice_get (frames_in (gave_in core k)) n ≡ Some f → IsResp k (id_plan_of script).slots f → slot_in f ≡ id_slot x.id → id_first x.id < version_in f → In (k, n) (soon_of_run script turns core is)
    soon_of_readers x posted n f frame resp slot behind = (in_the_end (posted_by (32 + k)) x (Claims k (id_plan_of script).slots (id_slot x.id) (id_first x.id))
        (λ soon c ms known h. claims_along (plan_of script) (id_plan_of script) k (calls script) o many x ms soon c known h)
        (λ soon c ms known h a. posts_claim (plan_of script) (id_plan_of script) k (calls script) o many x ms soon c known h a) posted seat_there.0 seat_there.1).1 n f frame resp slot behind

    -- link k gave no response to a call on whose error its reader decided
    pub silent_of_readers : (d : Decision) → In d (shown_in_run script turns core is (decided_by (32 + k))) → (n : ℕ) (f : Frame) → slice_get (frames_in (gave_in core k)) n ≡ Some f → IsResp k (id_plan_of script).slots f → slot_in f ≡ id_slot d.id → id_first d.id < version_in f → version_in f < id_first d.id + d.asked.range → ⊥
    silent_of_readers d decided n f frame resp slot low high = (in_the_end (decided_by (32 + k)) d (Silence k (id_plan_of script).slots (id_slot d.id) (id_first d.id) d.asked.range)
        (λ soon c ms known h. silence_along (plan_of script) (id_plan_of script) k (calls script) o many d ms soon c known h)
        (λ soon c ms known h a. decides_silent (plan_of script) (id_plan_of script) k (calls script) o many d ms soon c known h a) decided seat_there.0 seat_there.1).1 n f frame resp slot low high

    -- ## Behind its reading

    -- the error was posted, by whatever seat, behind a step of the reader that it makes only behind the end of its reading
    abbrev pub PostedLate : Post → Type 0
    PostedLate x = In x (posted_behind (32 + k) (plan_of script) (set_up script is.setup) (is.scheduled ++ is.later))
        ⊎ (In x (posted_behind (32 + k) (plan_of script) is.ended is.final)
        ⊎ ((late_in (32 + k) (plan_of script) (set_up script is.setup) (is.scheduled ++ is.later) ≡ true) × In x (shown_in posted_at (plan_of script) is.ended is.final)))

    module _ (x : Post) where
      abbrev Cl : Sit → Program → Type 0
      Cl = Claims k (id_plan_of script).slots (id_slot x.id) (id_first x.id)

      abbrev Behind : List (ℕ × ℕ) → Core → Type 0
      Behind soon c = IsBehind (plan_of script) (id_plan_of script) k (calls script) o many soon c

      on : (soon : List (ℕ × ℕ)) (c : Core) (ms : List Moment) → AreKnown (plan_of script) (id_plan_of script) c ms → Has Cl soon c → Has Cl (soon ++ shown_in (soon_at (plan_of script)) (plan_of script) c ms) (run (plan_of script) c ms)
      on soon c ms known h = claims_along (plan_of script) (id_plan_of script) k (calls script) o many x ms soon c known h

      in_final : Has Cl (((soon_setup ++ soon_clients) ++ soon_closing) ++ soon_final) (run (plan_of script) is.ended is.final) → Has Cl (soon_of_run script turns core is) core
      in_final h = subst (λ y. Has Cl y core) (append_assoc (soon_setup ++ soon_clients) soon_closing soon_final ∙ append_assoc soon_setup soon_clients (soon_closing ++ soon_final))
          (subst (Has Cl (((soon_setup ++ soon_clients) ++ soon_closing) ++ soon_final)) (sym is.is_end) h)

      behind_ended : late_in (32 + k) (plan_of script) (set_up script is.setup) (in_clients is) ≡ true → Behind ((soon_setup ++ soon_clients) ++ soon_closing) is.ended
      behind_ended late = subst (Behind ((soon_setup ++ soon_clients) ++ soon_closing)) (sym is.is_ended)
          (behind_along (plan_of script) (id_plan_of script) k (calls script) o many (in_closing is) (soon_setup ++ soon_clients) closing known_closing
          (λ seat at_seat. ⊎_elim (λ a. absurd (let z = a.0 in omega (arith, z))) (λ a. late_behind (plan_of script) (id_plan_of script) k (calls script) o many (in_clients is) soon_setup (set_up script is.setup) known_clients reads_set_up late seat a.1)
          (at_set (played script is.setup (is.scheduled ++ is.later)).seats 0 (32 + k) (let c = played script is.setup (is.scheduled ++ is.later) in record { program = next_step (resolved (waiting_at c.calls.waiting 0) (ending_of (opens script))); hand = [] }) seat at_seat)))

      late_claimed : PostedLate x → Has Cl (soon_of_run script turns core is) core
      late_claimed there = ⊎_elim
          (λ a. subst (λ y. Has Cl y core) (append_assoc soon_setup soon_clients (soon_closing ++ soon_final)) (from_played Cl on (soon_setup ++ soon_clients) (late_claims (plan_of script) (id_plan_of script) k (calls script) o many x (in_clients is) soon_setup (set_up script is.setup) known_clients reads_set_up a)))
          (λ l. ⊎_elim
          (λ a. in_final (late_claims (plan_of script) (id_plan_of script) k (calls script) o many x is.final ((soon_setup ++ soon_clients) ++ soon_closing) is.ended known_final reads_ended a))
          (λ a. in_final (behind_claims (plan_of script) (id_plan_of script) k (calls script) o many x is.final ((soon_setup ++ soon_clients) ++ soon_closing) is.ended known_final (behind_ended a.0) a.1)) l) there

    -- so each response of link k that is of the id's slot and behind its first version is soon
    pub soon_behind : (x : Post) → PostedLate x → (n : ℕ) (f : Frame) → slice_get (frames_in (gave_in core k)) n ≡ Some f → IsResp k (id_plan_of script).slots f → slot_in f ≡ id_slot x.id → id_first x.id < version_in f → In (k, n) (soon_of_run script turns core is)
    soon_behind x posted n f frame resp slot behind = (late_claimed x posted seat_there.0 seat_there.1).1 n f frame resp slot behind

  -- ## The ids of calls that failed

  module _ (closes : ClosesInRun script turns core is) where
    -- the versions of such a call are those of one id slot
    pub failed_inside : (client : ℕ) (t : Task) (asked : Asked) (id code : ℕ) → IsTask (all_tasks script) core.outcomes client t → t.op ≡ ops.Call asked → Became (all_tasks script) core.outcomes t.number (outcomes.CallFailed id code)
        → (id_slot id < (id_plan_of script).slots) × (id_first id + asked.range ≤ 67108856)
    failed_inside client t asked id code is_task op has = let h = run_has_story script made there range turns core is in let e = run_has_ended script made there range turns core is closes in
        subst (λ (d : Core). IsTask (all_tasks script) d.outcomes client t → Became (all_tasks script) d.outcomes t.number (outcomes.CallFailed id code) → (id_slot id < (id_plan_of script).slots) × (id_first id + asked.range ≤ 67108856)) h.is
        (λ is_task' has'. ⊎_elim (λ own. absurd own.1)
        (λ x. let same : id ≡ x.0 = x.2.0 in subst (λ i. (id_slot i < (id_plan_of script).slots) × (id_first i + asked.range ≤ 67108856)) (sym same) (of_birth h.scene h.marks e (subst (λ d. BothSound (plan_of script) (id_plan_of script) d (views_ended script turns core is (first_views script))) (sym h.is)
        (let s = joint_runs script turns core is made in s.over)).id_views (subst (λ d. BothSound (plan_of script) (id_plan_of script) d (views_ended script turns core is (first_views script))) (sym h.is) (let s = joint_runs script turns core is made in s.over)).ids x.0 x.1))
        (call_of (plan_of script) (id_plan_of script) (all_tasks script) (gave_in core) h.scene h.marks e client t asked (outcomes.CallFailed id code) is_task' op has')) is_task has
      where
        of_birth : (w : Scene) (ms : List Mark) → HasEnded (plan_of script) (id_plan_of script) (all_tasks script) (gave_in core) w ms → (us : List IdView) → SoundIds (plan_of script) (id_plan_of script) w.core us → (i : ℕ) → In (record { id = i; asked = asked }) w.births
            → (id_slot i < (id_plan_of script).slots) × (id_first i + asked.range ≤ 67108856)
        of_birth w ms e us ids i born = let b = e.births.born (record { id = i; asked = asked }) born in (
          b.0,
          ⊎_elim (λ passed. let low = are_low (plan_of script) (id_plan_of script) (all_tasks script) (gave_in core) w us ids (id_slot i) b.0 in omega (arith, passed, low))
              (λ now. absurd (let live = now.1 in let none_ = e.free (id_slot i) b.0 in omega (arith, live, none_))) b.3,
        )
