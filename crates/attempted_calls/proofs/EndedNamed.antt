-- In a whole run the at word of each attempt tells the link of a socket that was found under its name, and the message of the attempt is over that socket.
use Rattle.std.proofs.Common.{◌≡◌, ◌≢◌, ℕ, zero, suc, ◌≤◌, inl, inr, ⊎_elim, true, false, List, [], ◌∷◌, ◌++◌, length, map, replicate, refl, sym, ◌∙◌, subst, arith}
use Rattle.std.specs.List.{AllByRecursion}
use Rattle.std.specs.Prelude.{Bool}
use Rattle.std.proofs.lemmas.List.{length-map}
use mathlib.Core.Option.{some}
use lib.ListN.{get_elem?}
use Rattle.atomic_table.proofs.Lists.{set_again}
use Rattle.sock_words.specs.declared.plain.Plan.{Plan}
use Rattle.sock_model.specs.declared.view.View.{View}
use Rattle.seat_programs.specs.brpc_model.specs.Items.{Item}
use Rattle.seat_programs.specs.brpc_model.specs.Operations.{Turn}
use Rattle.corr_core.specs.declared.marks.Plan.{Plan as IdPlan}
use Rattle.sock_message.specs.Asked.{Asked}
use Rattle.seat_programs.specs.ClientProgram.{client_from, ending_of}
use Rattle.seat_programs.specs.Cores.{Core, SeatState, resolved, next_step}
use Rattle.seat_programs.specs.declared.task.Sizes.{Sizes}
use Rattle.seat_programs.specs.declared.task.Task.{Task}
use Rattle.seat_programs.specs.Programs.{Program}
use Rattle.seat_programs.specs.Ticks.{Moment, AreAnswered, quiet, ticked, run}
use Rattle.seat_programs.specs.Tasks.{opens, calls, plan_of, id_plan_of}
use Rattle.seat_programs.specs.ScriptSetupToEnding.{sizes_of, programs, readers_from, all_programs, all_tasks, beginning, opened, set_up, IsRunWithCalls}
use Rattle.seat_programs.specs.Explained.{AreTasks}
use Rattle.own_decisions.specs.Below.programs_allowed.specs.program_steps.specs.SoundSeats.{Sound, AreFitting, views_after, views_along}
use Rattle.own_decisions.specs.Below.programs_allowed.specs.program_steps.proofs.TickCases.{elem_there}
use Rattle.own_decisions.specs.Below.programs_allowed.specs.sock_runs.proofs.LinkTicks.{RetriesGo}
use Rattle.own_decisions.specs.Below.programs_allowed.specs.program_walks.proofs.OpenedLivesRecorded.{mapped}
use Rattle.own_decisions.specs.Below.programs_allowed.specs.sock_runs.proofs.TicksKeepSeatsSound.{sound_ticks}
use Rattle.own_decisions.specs.Below.programs_allowed.specs.program_walks.proofs.WholeScriptSound.{Begins, AreFittingIn, closing_of, rested_of, views_played, views_closed, views_ended, set_up_answered, end_answered, set_up_sound, played_sound, closing_sound, closed_sound}
use Rattle.own_decisions.specs.Below.outcome_stories.specs.KeptStory.{Story}
use Rattle.own_decisions.specs.Below.outcome_stories.specs.PlainTasks.{told_tasks_of}
use Rattle.own_decisions.specs.Below.outcome_stories.specs.OperationStories.{Event, In}
use Rattle.own_decisions.specs.Below.outcome_causes.proofs.Final.{at_there}
use Rattle.own_decisions.specs.Below.outcome_causes.proofs.PlainOutcomeCauses.{in_left, in_right, in_both}
use Rattle.own_decisions.specs.Below.outcome_causes.proofs.ExplainedOpenings.{are_seats}
use Rattle.own_decisions.specs.Below.outcome_causes.proofs.RunsKeepStory.{IsStoried, set_up_over, is_ending_story}
use Rattle.own_decisions.specs.Below.outcome_causes.proofs.SocketCausesOfScripts.{story_opened, story_closing}
use Rattle.own_decisions.specs.Below.outcome_causes.proofs.Begin.{no_call}
use Rattle.own_decisions.specs.Below.outcome_ticks.proofs.TicksKeepStory.{tick_story}
use Rattle.own_decisions.specs.Below.label_runs.proofs.OperationsKeepKnown.{OpCalls}
use Rattle.seat_programs.specs.id_rule.specs.LawfulIdTable.{at_index}
use Rattle.own_decisions.specs.Below.id_runs.proofs.IdRuleOpening.{unused}
use Rattle.own_decisions.specs.accept_counts.proofs.ProgramsAtBeginning.{all_begin}
use Rattle.own_decisions.specs.accept_counts.specs.AttemptCounts.{AreLabelled}
use Rattle.own_decisions.specs.accept_counts.specs.EndedCalls.{Load, loaded_at, loads_of_run, Store, stored_at, stores_of_run}
use Rattle.own_decisions.specs.Below.call_stories.proofs.RunTicks.{in_setup, in_clients, in_closing, parts}
use Rattle.own_decisions.specs.accept_counts.proofs.RunsKeepAttemptLaw.{AreLabelledIn, IsCallOf, behind_ids, asked_by}
use Rattle.attempted_calls.proofs.EndedTrails.{Trail, lost, Follows}
use Rattle.attempted_calls.proofs.EndedPrograms.{client_goes, ending_goes, reader_goes}
use Rattle.attempted_calls.proofs.EndedNames.{NameLaw, StoredFor, for_up, lost_true, resolves, moves, name_ticks, tick_loads}
use Rattle.own_decisions.specs.Below.outcome_stories.specs.Facts.{shown_in}

-- ## How a run begins

pub all_follow : (is_call : Asked → Type 0) (sizes : Sizes) (cs : List (List Task)) → ((i : ℕ) (ts : List Task) → get_elem? cs i ≡ some ts → AllByRecursion (λ (t : Task). OpCalls is_call t.op) ts) → (calls os : List ℕ) (i : ℕ) (x : Program) → get_elem? (all_programs (programs sizes cs) (readers_from calls 0 os)) i ≡ some x → Follows is_call lost x
all_follow is_call sizes cs asks calls os i x e = all_begin (Follows is_call lost) tt calls (λ k o. reader_goes is_call calls k o) (programs sizes cs) os i x
    (λ a. let t = mapped (client_from sizes []) cs i x a in subst (Follows is_call lost) t.2 (client_goes is_call sizes [] t.0 (asks i t.0 t.1))) e

module _ (p : Plan) (q : IdPlan) (is_call : Asked → Type 0) (seen : List Store) (es : List Event) where
  pub begins_named : (xs : List Program) → ((i : ℕ) (x : Program) → get_elem? xs i ≡ some x → Follows is_call lost x) → (vs : List View) → ((i : ℕ) (v : View) → get_elem? vs i ≡ some v → (v.claims ≡ []) × (v.lists ≡ [] ∷ []))
      → NameLaw is_call seen es (beginning p q xs) vs (map (λ (x : Program). lost) xs)
  begins_named xs goes vs bare = record {
    views = λ j v e. let b = bare j v e in (subst (AllByRecursion (Rattle.attempted_calls.proofs.EndedNames.ClaimOver is_call seen es)) (sym b.0) tt, subst (AllByRecursion (AllByRecursion (Rattle.attempted_calls.proofs.EndedNames.EntryOver is_call seen es))) (sym b.1) (tt, tt));
    trails = λ j v t ev et. subst (Rattle.attempted_calls.proofs.EndedNames.IsTrue is_call seen es v) (mapped (λ (x : Program). lost) xs j t et).2 (lost_true is_call seen es v);
    calls = λ k asked e. absurd (no_call q.slots k asked e);
    ats = λ o low some_. absurd (some_ ((let u = unused q in u.rest) (at_index q o) (omega arith)));
    each = length-map xs (λ (x : Program). lost) ∙ sym (length-map xs (λ (x : Program). record { program = next_step (resolved [] x); hand = [] }));
    programs = λ j seat t e et. let x = mapped (λ (x : Program). record { program = next_step (resolved [] x); hand = [] }) xs j seat e in let r = resolves is_call lost [] x.0 tt (goes j x.0 x.1) in
        subst (λ (s : SeatState). Follows is_call t s.program) x.2 (subst (λ y. Follows is_call y (next_step (resolved [] x.0))) (⊎_elim (λ a. a) (λ a. a) r.1 ∙ (mapped (λ (x : Program). lost) xs j t et).2) r.2);
  }

-- ## Ticks one after another

module _ (p : Plan) (q : IdPlan) (narrow : q.slots ≤ 65536) (is_call : Asked → Type 0) (seen : List Store) (cs : List (List Task)) (are : AreTasks p cs) (ids : ℕ → ℕ) where
  -- a story of a core, and what is known of the names of attempts
  pub record Named (over : Bool) (c : Core) (vs : List View) : Type 0 where
    pub events : List Event
    pub lost_links : List ℕ
    pub story : Story p cs over c vs events lost_links
    pub trails : List Trail
    pub law : NameLaw is_call seen events c vs trails

  -- behind these ticks; what they loaded is known
  pub record Behind (over : Bool) (before : List Event) (c : Core) (vs : List View) (ms : List Moment) : Type 0 where
    pub named : Named over (run p c ms) (views_along p c vs ms)
    pub up : (e : Event) → In e before → In e named.events
    pub loads : (l : Load) → In l (shown_in loaded_at p c ms) → l.word ≢ 0 → StoredFor is_call seen named.events l.operation l.word

  joined : (over : Bool) (before between : List Event) (c : Core) (vs : List View) (m : Moment) (ms : List Moment) → ((e : Event) → In e before → In e between) → ((l : Load) → In l (loaded_at c m) → l.word ≢ 0 → StoredFor is_call seen before l.operation l.word)
      → Behind over between (ticked p c m) (views_after p c vs m) ms → Behind over before c vs (m ∷ ms)
  joined over before between c vs m ms kept now r = record {
    named = record { events = r.named.events; lost_links = r.named.lost_links; story = r.named.story; trails = r.named.trails; law = r.named.law };
    up = λ e there. r.up e (kept e there);
    loads = λ l there some_. ⊎_elim
        (λ a. for_up is_call seen before r.named.events (λ e there. r.up e (kept e there)) l.operation l.word (now l a some_))
        (λ a. r.loads l a some_) (in_both (loaded_at c m) (shown_in loaded_at p (ticked p c m) ms) l there);
  }

  pub seats_named : RetriesGo p → (ms : List Moment) (c : Core) (vs : List View) → Sound p c vs → AreAnswered p c ms → AreFitting p c ms → AreLabelled ids p q c ms → ((x : Store) → In x (shown_in stored_at p c ms) → In x seen) → (t : Named true c vs) → Behind true t.events c vs ms
  seats_named go [] c vs sound answered fitting labelled stores t = record { named = t; up = λ e there. there; loads = λ l there. absurd there }
  seats_named go (m ∷ ms) c vs sound answered fitting labelled stores t = let g = tick_story p cs are true c vs t.events t.lost_links sound t.story m answered.0 (inl refl) in
      let now = λ (x : Store) (there : In x (stored_at c m)). stores x (in_left (stored_at c m) (shown_in stored_at p (ticked p c m) ms) x there) in
      let n = name_ticks p q narrow is_call seen cs true c vs t.events g.events t.lost_links sound t.story g.kept t.trails t.law labelled.0.0 labelled.0.1 m answered.0 labelled.1 now in
      joined true t.events g.events c vs m ms g.kept (tick_loads p q narrow is_call seen cs true c vs t.events g.events t.lost_links sound t.story g.kept t.trails t.law labelled.0.0 labelled.0.1 m answered.0 labelled.1 now)
      (seats_named go ms (ticked p c m) (views_after p c vs m) (sound_ticks p go c vs m sound answered.0 fitting.0) answered.1 fitting.1 labelled.3 (λ x there. stores x (in_right (stored_at c m) (shown_in stored_at p (ticked p c m) ms) x there))
      (record { events = g.events; lost_links = g.lost; story = g.told; trails = n.0; law = n.1 }))

  pub setup_named : RetriesGo p → (n : ℕ) (c : Core) (vs : List View) → Sound p c vs → AreAnswered p c (replicate n (quiet 0)) → AreFitting p c (replicate n (quiet 0)) → AreLabelled ids p q c (replicate n (quiet 0)) → ((x : Store) → In x (shown_in stored_at p c (replicate n (quiet 0))) → In x seen)
      → (t : Named false c vs) → ((e : Event) → In e t.events → e.client ≡ 0) → Behind false t.events c vs (replicate n (quiet 0))
  setup_named go zero c vs sound answered fitting labelled stores t alone = record { named = t; up = λ e there. there; loads = λ l there. absurd there }
  setup_named go (suc n) c vs sound answered fitting labelled stores t alone = let g = tick_story p cs are false c vs t.events t.lost_links sound t.story (quiet 0) answered.0 (inr (refl, alone)) in
      let now = λ (x : Store) (there : In x (stored_at c (quiet 0))). stores x (in_left (stored_at c (quiet 0)) (shown_in stored_at p (ticked p c (quiet 0)) (replicate n (quiet 0))) x there) in
      let n' = name_ticks p q narrow is_call seen cs false c vs t.events g.events t.lost_links sound t.story g.kept t.trails t.law labelled.0.0 labelled.0.1 (quiet 0) answered.0 labelled.1 now in
      joined false t.events g.events c vs (quiet 0) (replicate n (quiet 0)) g.kept (tick_loads p q narrow is_call seen cs false c vs t.events g.events t.lost_links sound t.story g.kept t.trails t.law labelled.0.0 labelled.0.1 (quiet 0) answered.0 labelled.1 now)
      (setup_named go n (ticked p c (quiet 0)) (views_after p c vs (quiet 0)) (sound_ticks p go c vs (quiet 0) sound answered.0 fitting.0) answered.1 fitting.1 labelled.3 (λ x there. stores x (in_right (stored_at c (quiet 0)) (shown_in stored_at p (ticked p c (quiet 0)) (replicate n (quiet 0))) x there))
      (record { events = g.events; lost_links = g.lost; story = g.told; trails = n'.0; law = n'.1 })
      (λ e m. ⊎_elim (λ o. alone e o) (λ o. o.0) (g.fresh e m)))

-- ## A whole run

module _ (script : List Item) (are : AreTasks (plan_of script) (all_tasks script)) (vs : List View) (begins : Begins script vs) (go : RetriesGo (plan_of script)) (turns : List Turn) (core : Core) (is : IsRunWithCalls script turns core)
    (fitting : AreFittingIn script turns core is) (narrow : (id_plan_of script).slots ≤ 65536) (bare : (i : ℕ) (v : View) → get_elem? vs i ≡ some v → (v.claims ≡ []) × (v.lists ≡ [] ∷ [])) (ids : ℕ → ℕ) (labelled : AreLabelledIn ids script turns core is) where
  abbrev p : Plan
  p = plan_of script

  abbrev q : IdPlan
  q = id_plan_of script

  fresh : (i : ℕ) (v : View) → get_elem? vs i ≡ some v → v.lists ≡ [] ∷ []
  fresh i v e = (bare i v e).1

  pub tasks_are : AreTasks (plan_of script) (told_tasks_of script)
  tasks_are = are_seats (plan_of script) (all_tasks script) are (length (opens script))

  abbrev Keeps : Bool → Core → List View → Type 0
  Keeps over c ws = Named (plan_of script) (id_plan_of script) narrow (IsCallOf script) (stores_of_run script turns core is) (told_tasks_of script) tasks_are ids over c ws

  abbrev After : Bool → List Event → Core → List View → List Moment → Type 0
  After over before c ws ms = Behind (plan_of script) (id_plan_of script) narrow (IsCallOf script) (stores_of_run script turns core is) (told_tasks_of script) tasks_are ids over before c ws ms

  open parts stored_at is use {setup as s₁, clients as s₂, closing as s₃, final as s₄}

  abbrev first : Keeps false (opened script) vs
  first = record {
    events = [];
    lost_links = [];
    story = story_opened script are vs begins fresh;
    trails = map (λ (x : Program). lost) (all_programs (programs (sizes_of (plan_of script) (id_plan_of script)) (all_tasks script)) (readers_from (calls script) 0 (opens script)));
    law = begins_named (plan_of script) (id_plan_of script) (IsCallOf script) (stores_of_run script turns core is) [] (all_programs (programs (sizes_of (plan_of script) (id_plan_of script)) (all_tasks script)) (readers_from (calls script) 0 (opens script)))
        (all_follow (IsCallOf script) (sizes_of (plan_of script) (id_plan_of script)) (all_tasks script) (asked_by script) (calls script) (opens script)) vs bare;
  }

  setup_part : After false [] (opened script) vs (in_setup is)
  setup_part = setup_named p q narrow (IsCallOf script) (stores_of_run script turns core is) (told_tasks_of script) tasks_are ids go is.setup (opened script) vs begins.sound (set_up_answered script are vs begins go turns core is fitting) fitting.of_setup labelled.of_setup
      (λ x there. in_left s₁ (s₂ ++ (s₃ ++ s₄)) x there) first (λ e m. absurd m)

  -- the setup is over
  record IsOn (before : List Event) (c : Core) (ws : List View) : Type 0 where
    named : Keeps true c ws
    up : (e : Event) → In e before → In e named.events

  over_part : IsOn setup_part.named.events (set_up script is.setup) (views_along (plan_of script) (opened script) vs (in_setup is))
  over_part = let k = setup_part.named in
      let t : IsStoried (plan_of script) (told_tasks_of script) tasks_are false (set_up script is.setup) (views_along (plan_of script) (opened script) vs (in_setup is)) = record { events = k.events; lost = k.lost_links; sound = set_up_sound script are vs begins go turns core is fitting; story = k.story } in
      let o = set_up_over (plan_of script) (told_tasks_of script) tasks_are (set_up script is.setup) (views_along (plan_of script) (opened script) vs (in_setup is)) t is.is_set_up in record {
        named = record { events = o.0.events; lost_links = o.0.lost; story = o.0.story; trails = k.trails; law = subst (λ es. NameLaw (IsCallOf script) (stores_of_run script turns core is) es (set_up script is.setup) (views_along (plan_of script) (opened script) vs (in_setup is)) k.trails) (sym o.1) k.law };
        up = λ e there. subst (In e) (sym o.1) there;
      }

  clients_part : After true over_part.named.events (set_up script is.setup) (views_along (plan_of script) (opened script) vs (in_setup is)) (in_clients is)
  clients_part = seats_named p q narrow (IsCallOf script) (stores_of_run script turns core is) (told_tasks_of script) tasks_are ids go (in_clients is) (set_up script is.setup) (views_along (plan_of script) (opened script) vs (in_setup is)) (set_up_sound script are vs begins go turns core is fitting) is.answered fitting.of_played labelled.of_played
      (λ x there. in_right s₁ (s₂ ++ (s₃ ++ s₄)) x (in_left s₂ (s₃ ++ s₄) x there)) over_part.named

  -- seat 0 begins the ending
  closing_on : IsOn clients_part.named.events (closing_of script turns core is) (views_played script turns core is vs)
  closing_on = let k = clients_part.named in let c : Core = rested_of script turns core is in let sound = played_sound script are vs begins go turns core is fitting in
      let some_ = tasks_are.some_ in let seat = at_there (rested_of script turns core is).seats 0 (omega (arith, k.story.each, some_)) in let v = at_there (views_played script turns core is vs) 0 (omega (arith, sound.each, k.story.each, some_)) in
      let t = elem_there (rested_of script turns core is).seats k.trails 0 seat.0 k.law.each seat.1 in
      let us = behind_ids p q narrow (IsCallOf script) ids (in_clients is) (set_up script is.setup) labelled.of_played in
      let n = subst (λ xs. (ts : List Trail) × NameLaw (IsCallOf script) (stores_of_run script turns core is) k.events (closing_of script turns core is) xs ts) (set_again (views_played script turns core is vs) 0 v.0 v.1)
      (moves p q narrow (IsCallOf script) (stores_of_run script turns core is) (told_tasks_of script) true (rested_of script turns core is) (views_played script turns core is vs) k.events k.events k.lost_links sound k.story (λ e m. m) k.trails k.law us.0 us.1 0 seat.0 v.0 t.0 seat.1 v.1 t.1
      (ending_of (opens script)) [] (rested_of script turns core is).homes v.0 v.0.rights refl (ending_goes (IsCallOf script) (opens script))) in record {
        named = record {
          events = k.events;
          lost_links = k.lost_links;
          story = story_closing script are vs begins go turns core is fitting k.events k.lost_links sound k.story;
          trails = n.0;
          law = n.1;
        };
        up = λ e there. there;
      }

  closing_part : After true closing_on.named.events (closing_of script turns core is) (views_played script turns core is vs) (in_closing is)
  closing_part = seats_named p q narrow (IsCallOf script) (stores_of_run script turns core is) (told_tasks_of script) tasks_are ids go (in_closing is) (closing_of script turns core is) (views_played script turns core is vs) (closing_sound script are vs begins go turns core is fitting)
      (end_answered script are vs begins go turns core is fitting) fitting.of_closing labelled.of_closing (λ x there. in_right s₁ (s₂ ++ (s₃ ++ s₄)) x (in_right s₂ (s₃ ++ s₄) x (in_left s₃ s₄ x there))) closing_on.named

  closed_on : IsOn closing_part.named.events is.ended (views_closed script turns core is vs)
  closed_on = subst (λ c. IsOn closing_part.named.events c (views_closed script turns core is vs)) (sym is.is_ended) (let k = closing_part.named in record {
    named = record {
      events = k.events;
      lost_links = k.lost_links;
      story = is_ending_story (plan_of script) (told_tasks_of script) tasks_are (run (plan_of script) (closing_of script turns core is) (in_closing is)) (views_closed script turns core is vs) k.events k.lost_links k.story;
      trails = k.trails;
      law = record { views = k.law.views; trails = k.law.trails; calls = k.law.calls; ats = k.law.ats; each = k.law.each; programs = k.law.programs };
    };
    up = λ e there. there;
  })

  final_part : After true closed_on.named.events is.ended (views_closed script turns core is vs) is.final
  final_part = seats_named p q narrow (IsCallOf script) (stores_of_run script turns core is) (told_tasks_of script) tasks_are ids go is.final is.ended (views_closed script turns core is vs) (closed_sound script are vs begins go turns core is fitting) is.answered_again fitting.of_final labelled.of_final
      (λ x there. in_right s₁ (s₂ ++ (s₃ ++ s₄)) x (in_right s₂ (s₃ ++ s₄) x (in_right s₃ s₄ x there))) closed_on.named

  abbrev For : List Event → Load → Type 0
  For es l = StoredFor (IsCallOf script) (stores_of_run script turns core is) es l.operation l.word

  abbrev on : (es fs : List Event) → ((e : Event) → In e es → In e fs) → (l : Load) → For es l → For fs l
  on es fs up l x = for_up (IsCallOf script) (stores_of_run script turns core is) es fs up l.operation l.word x

  -- what was loaded in each part
  of_played : (l : Load) → For clients_part.named.events l → For final_part.named.events l
  of_played l x = on closed_on.named.events final_part.named.events final_part.up l (on closing_part.named.events closed_on.named.events closed_on.up l (on closing_on.named.events closing_part.named.events closing_part.up l (on clients_part.named.events closing_on.named.events closing_on.up l x)))

  of_clients : (l : Load) → For over_part.named.events l → For final_part.named.events l
  of_clients l x = of_played l (on over_part.named.events clients_part.named.events clients_part.up l x)

  of_closing : (l : Load) → For closing_part.named.events l → For final_part.named.events l
  of_closing l x = on closed_on.named.events final_part.named.events final_part.up l (on closing_part.named.events closed_on.named.events closed_on.up l x)

  all_loaded : (l : Load) → In l (loads_of_run script turns core is) → l.word ≢ 0 → For final_part.named.events l
  all_loaded l there some_ = ⊎_elim
      (λ a. of_clients l (on setup_part.named.events over_part.named.events over_part.up l (setup_part.loads l a some_)))
      (λ b. ⊎_elim (λ a. of_played l (clients_part.loads l a some_))
      (λ b. ⊎_elim (λ a. of_closing l (closing_part.loads l a some_)) (λ a. final_part.loads l a some_)
      (in_both (shown_in loaded_at (plan_of script) (closing_of script turns core is) (in_closing is)) (shown_in loaded_at (plan_of script) is.ended is.final) l b))
      (in_both (shown_in loaded_at (plan_of script) (set_up script is.setup) (in_clients is)) (shown_in loaded_at (plan_of script) (closing_of script turns core is) (in_closing is) ++ shown_in loaded_at (plan_of script) is.ended is.final) l b))
      (in_both (shown_in loaded_at (plan_of script) (opened script) (in_setup is)) (shown_in loaded_at (plan_of script) (set_up script is.setup) (in_clients is) ++ (shown_in loaded_at (plan_of script) (closing_of script turns core is) (in_closing is) ++ shown_in loaded_at (plan_of script) is.ended is.final)) l there)

  -- so it is as the run ends, and each at word that was loaded in it is known
  pub record EndNamed (c : Core) : Type 0 where
    pub named : Keeps true c (views_ended script turns core is vs)
    pub loads : (l : Load) → In l (loads_of_run script turns core is) → l.word ≢ 0 → StoredFor (IsCallOf script) (stores_of_run script turns core is) named.events l.operation l.word

  pub end_named : EndNamed core
  end_named = subst EndNamed (sym is.is_end) (record { named = final_part.named; loads = all_loaded })
