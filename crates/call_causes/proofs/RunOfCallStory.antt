-- The story of the calls goes on along the ticks of a whole run, up to its end.
use Rattle.std.proofs.Common.{◌≡◌, ◌≢◌, ℕ, zero, suc, ◌+◌, ◌<◌, ◌≤◌, ◌⊎◌, inl, inr, ⊎_elim, cond, eqb, append_assoc, List, [], ◌∷◌, ◌++◌, length, replicate, refl, sym, ap, ◌∙◌, subst, arith}
use Rattle.std.proofs.lemmas.List.{append-nil}
use mathlib.Core.Option.{some}
use lib.ListN.{get_elem?}
use Rattle.sock_words.specs.declared.plain.Plan.{Plan}
use Rattle.sock_model.specs.declared.view.View.{View}
use Rattle.seat_programs.specs.brpc_model.specs.Items.{Item}
use Rattle.seat_programs.specs.brpc_model.specs.Operations.{Turn}
use Rattle.corr_core.specs.declared.marks.Plan.{Plan as IdPlan}
use Rattle.seat_programs.specs.declared.task.Task.{Task}
use Rattle.seat_programs.specs.Programs.{Program}
use Rattle.seat_programs.specs.ClientProgram.{ending_of}
use Rattle.seat_programs.specs.Cores.{Core, SeatState, with_seat}
use Rattle.seat_programs.specs.Ticks.{Moment, quiet, ticked, run}
use Rattle.seat_programs.specs.ScheduledRuns.{IsAtRest}
use Rattle.seat_programs.specs.Tasks.{opens, calls, plan_of, id_plan_of}
use Rattle.seat_programs.specs.ScriptSetupToEnding.{sizes_of, programs, readers_from, all_programs, all_tasks, opened, ending, set_up, played, is_ending, IsRunWithCalls}
use Rattle.story_ticks.specs.Below.programs_allowed.specs.program_steps.specs.SoundSeats.{IsAhead, views_after, views_along}
use Rattle.story_ticks.specs.Below.programs_allowed.specs.program_steps.proofs.TickCases.{elem_there}
use Rattle.story_ticks.specs.Below.programs_allowed.specs.sock_runs.proofs.SoundAlongRuns.{seat_rests, ticked_ahead}
use Rattle.story_ticks.specs.Below.programs_allowed.specs.sock_runs.proofs.Quiets.{ticked_rests, run_rests}
use Rattle.story_ticks.specs.Below.programs_allowed.specs.program_walks.proofs.WholeScriptSound.{views_played, views_closed}
use Rattle.story_ticks.specs.Below.joint_runs.proofs.BothTablesSound.{BothSound, AreBoth, behind_both}
use Rattle.story_ticks.specs.Below.joint_runs.proofs.RunsOfBothTables.{AreMade, first_views, IsSoundRun, joint_runs}
use Rattle.story_ticks.specs.Below.joint_runs.proofs.StartsWithBothRules.{narrow}
use Rattle.story_ticks.specs.call_stories.specs.LinkReadingLists.{times, advanced_at, attempts_of_run}
use Rattle.story_ticks.specs.call_stories.specs.PostsOfRun.{Post, posted_at, posts_of_run}
use Rattle.story_ticks.specs.call_stories.specs.Decided.{Decision, decided_at}
use Rattle.story_ticks.specs.call_stories.specs.Scenes.{Scene, LeadsTo}
use Rattle.story_ticks.specs.call_stories.proofs.LeadingBytesGiven.{run_leads}
use Rattle.story_ticks.specs.call_stories.specs.Says.{Mark, SaysOn}
use Rattle.story_ticks.specs.call_stories.specs.CallStories.{CallStory, HasStory, GoesOn}
use Rattle.story_ticks.specs.story_steps.proofs.ClientCauses.{ending_says}
use Rattle.story_ticks.specs.story_steps.proofs.NumberedTasks.{AreNumbered}
use Rattle.story_ticks.proofs.Claiming.{HaveSlots}
use Rattle.story_ticks.specs.story_steps.proofs.AttemptsBehindAsides.{in_behind, in_front}
use Rattle.story_ticks.proofs.SaidBeforeNextStep.{KeepsFew}
use Rattle.story_ticks.proofs.TicksKeepCallStory.{on_homes, told_story, story_lasts}
use Rattle.story_ticks.proofs.Allowing.{allows}
use Rattle.story_ticks.specs.call_stories.proofs.RunTicks.{parts}
use Rattle.story_ticks.proofs.RunFacts.{run_facts, leadings}
use Rattle.story_ticks.proofs.StoryOpening.{Begins, first_decided}
use Rattle.story_ticks.specs.Below.outcome_stories.specs.OperationStories.{In}
use Rattle.story_ticks.specs.Below.outcome_stories.specs.Facts.{shown_in, shown_in_run}

pub times_append : (o : ℕ) (xs ys : List ℕ) → times o (xs ++ ys) ≡ times o xs + times o ys
times_append o [] ys = omega arith
times_append o (x ∷ xs) ys = let z = times_append o xs ys in let b : ℕ = cond (eqb x o) 1 0 in ap (λ n. cond (eqb x o) 1 0 + n) z ∙ omega arith

times_assoc : (o : ℕ) (xs ys zs : List ℕ) → times o ((xs ++ ys) ++ zs) ≡ times o (xs ++ (ys ++ zs))
times_assoc o xs ys zs = let a = times_append o (xs ++ ys) zs in let b = times_append o xs ys in let c = times_append o xs (ys ++ zs) in let d = times_append o ys zs in omega (arith, a, b, c, d)

pub in_either : {A : Type 0} (x : A) (xs ys : List A) → In x (xs ++ ys) → In x xs ⊎ In x ys
in_either x [] ys there = inr there
in_either x (z ∷ xs) ys (inl same) = inl (inl same)
in_either x (z ∷ xs) ys (inr there) = ⊎_elim (λ a. inl (inr a)) (λ a. inr a) (in_either x xs ys there)

ending_few : (os : List ℕ) → KeepsFew (ending_of os)
ending_few [] = tt
ending_few (o ∷ os) = tt

module _ (p : Plan) (q : IdPlan) (clients : List (List Task)) (gives : ℕ → List ℕ) (numbered : AreNumbered p q clients gives) (slots : HaveSlots p q clients gives) (small : q.slots ≤ 65536) where
  -- the story of a core, up to which ids took no other errors than these, and the attempt of each call was advanced as often as it stands here
  abbrev pub Story : List Post → List ℕ → Core → Type 0
  Story posted shown c = (ps : List Post) × (ns : List ℕ) × HasStory p q clients gives ps ns c × ((x : Post) → In x ps → In x posted) × ((o : ℕ) → times o ns ≡ times o shown)

  -- and up to which seats decided on no other errors than these
  abbrev pub Told : List Decision → List Post → List ℕ → Core → Type 0
  Told decided posted shown c = (s : (ps : List Post) × (ns : List ℕ) × HasStory p q clients gives ps ns c × ((x : Post) → In x ps → In x posted) × ((o : ℕ) → times o ns ≡ times o shown)) × ((d : Decision) → In d s.2.scene.decisions → In d decided)

  retold : (ds es : List Decision) (x y : List Post) (a b : List ℕ) (c : Core) → ds ≡ es → x ≡ y → ((o : ℕ) → times o a ≡ times o b) → Told ds x a c → Told es y b c
  retold ds es x y a b c on are same h = ((h.0.0, h.0.1, h.0.2, (λ z there. subst (In z) are (h.0.3 z there)), λ o. h.0.4 o ∙ same o), λ d there. subst (In d) on (h.1 d there))

  told_tick : (decided : List Decision) (posted : List Post) (shown : List ℕ) (c : Core) (vs : List View) (m : Moment) → BothSound p q c vs → Rattle.story_ticks.specs.Below.joint_runs.proofs.BothTablesSound.FitsBoth p c m → (m.seat ≢ 0 → (seat : SeatState) → get_elem? c.seats 0 ≡ some seat → seat.program ≡ Rattle.seat_programs.specs.Programs.Rest) → LeadsTo p q clients gives (ticked p c m) → Told decided posted shown c
      → Told (decided ++ decided_at c m) (posted ++ posted_at c m) (shown ++ advanced_at c m) (ticked p c m)
  told_tick decided posted shown c vs m both fits over lead t =
      let h = t.0 in
      let k = story_lasts p q clients gives numbered slots small h.0 h.1 c both.id_views m both.ids fits.fitting_ids (let s = both.sockets in s.lawful.references.sized) (allows p c vs m both.sockets) over lead h.2 in (
        (
          posted_at c m ++ h.0,
          advanced_at c m ++ h.1,
          k.has,
          (λ x there. ⊎_elim (λ new. in_behind x posted (posted_at c m) new) (λ old. in_front x posted (posted_at c m) (h.3 x old)) (in_either x (posted_at c m) h.0 there)),
          λ o. let one = times_append o (advanced_at c m) h.1 in let two = h.4 o in let three = times_append o shown (advanced_at c m) in omega (arith, one, two, three),
        ),
        λ d there. ⊎_elim (λ new. in_behind d decided (decided_at c m) new) (λ old. in_front d decided (decided_at c m) (t.1 d old)) (in_either d (decided_at c m) h.2.scene.decisions (subst (In d) k.shown_decisions there)),
      )

  pub one_tick : (posted : List Post) (shown : List ℕ) (c : Core) (vs : List View) (m : Moment) → BothSound p q c vs → Rattle.story_ticks.specs.Below.joint_runs.proofs.BothTablesSound.FitsBoth p c m → (m.seat ≢ 0 → (seat : SeatState) → get_elem? c.seats 0 ≡ some seat → seat.program ≡ Rattle.seat_programs.specs.Programs.Rest) → LeadsTo p q clients gives (ticked p c m) → Story posted shown c → Story (posted ++ posted_at c m) (shown ++ advanced_at c m) (ticked p c m)
  one_tick posted shown c vs m both fits over lead h = (told_tick h.2.scene.decisions posted shown c vs m both fits over lead (h, λ d there. there)).0

  -- ticks of seat 0
  setup_told : (n : ℕ) (decided : List Decision) (posted : List Post) (shown : List ℕ) (c : Core) (vs : List View) → AreBoth p q c vs (replicate n (quiet 0)) → LeadsTo p q clients gives (run p c (replicate n (quiet 0))) → Told decided posted shown c
      → Told (decided ++ shown_in decided_at p c (replicate n (quiet 0))) (posted ++ shown_in posted_at p c (replicate n (quiet 0))) (shown ++ shown_in advanced_at p c (replicate n (quiet 0))) (run p c (replicate n (quiet 0)))
  setup_told zero decided posted shown c vs are lead h = retold decided (decided ++ []) posted (posted ++ []) shown (shown ++ []) c (sym (append-nil decided)) (sym (append-nil posted)) (λ o. let z : times o (shown ++ []) ≡ times o shown + 0 = times_append o shown [] in omega (arith, z)) h
  setup_told (suc n) decided posted shown c vs are lead h = retold ((decided ++ decided_at c (quiet 0)) ++ shown_in decided_at p (ticked p c (quiet 0)) (replicate n (quiet 0))) (decided ++ (decided_at c (quiet 0) ++ shown_in decided_at p (ticked p c (quiet 0)) (replicate n (quiet 0))))
      ((posted ++ posted_at c (quiet 0)) ++ shown_in posted_at p (ticked p c (quiet 0)) (replicate n (quiet 0))) (posted ++ (posted_at c (quiet 0) ++ shown_in posted_at p (ticked p c (quiet 0)) (replicate n (quiet 0)))) ((shown ++ advanced_at c (quiet 0)) ++ shown_in advanced_at p (ticked p c (quiet 0)) (replicate n (quiet 0))) (shown ++ (advanced_at c (quiet 0) ++ shown_in advanced_at p (ticked p c (quiet 0)) (replicate n (quiet 0)))) (run p (ticked p c (quiet 0)) (replicate n (quiet 0)))
      (append_assoc decided (decided_at c (quiet 0)) (shown_in decided_at p (ticked p c (quiet 0)) (replicate n (quiet 0)))) (append_assoc posted (posted_at c (quiet 0)) (shown_in posted_at p (ticked p c (quiet 0)) (replicate n (quiet 0)))) (λ o. times_assoc o shown (advanced_at c (quiet 0)) (shown_in advanced_at p (ticked p c (quiet 0)) (replicate n (quiet 0))))
      (setup_told n (decided ++ decided_at c (quiet 0)) (posted ++ posted_at c (quiet 0)) (shown ++ advanced_at c (quiet 0)) (ticked p c (quiet 0)) (views_after p c vs (quiet 0)) are.2 lead (told_tick decided posted shown c vs (quiet 0) are.0 are.1 (λ other. absurd (other refl)) (run_leads p q clients gives (replicate n (quiet 0)) (ticked p c (quiet 0)) lead) h))

  -- ticks behind seat 0, which has no step left
  played_told : (ms : List Moment) (decided : List Decision) (posted : List Post) (shown : List ℕ) (c : Core) (vs : List View) → AreBoth p q c vs ms → IsAhead c → IsAtRest c 0 → LeadsTo p q clients gives (run p c ms) → Told decided posted shown c → Told (decided ++ shown_in decided_at p c ms) (posted ++ shown_in posted_at p c ms) (shown ++ shown_in advanced_at p c ms) (run p c ms)
  played_told [] decided posted shown c vs are ahead rests lead h = retold decided (decided ++ []) posted (posted ++ []) shown (shown ++ []) c (sym (append-nil decided)) (sym (append-nil posted)) (λ o. let z : times o (shown ++ []) ≡ times o shown + 0 = times_append o shown [] in omega (arith, z)) h
  played_told (m ∷ ms) decided posted shown c vs are ahead rests lead h = retold ((decided ++ decided_at c m) ++ shown_in decided_at p (ticked p c m) ms) (decided ++ (decided_at c m ++ shown_in decided_at p (ticked p c m) ms))
      ((posted ++ posted_at c m) ++ shown_in posted_at p (ticked p c m) ms) (posted ++ (posted_at c m ++ shown_in posted_at p (ticked p c m) ms)) ((shown ++ advanced_at c m) ++ shown_in advanced_at p (ticked p c m) ms) (shown ++ (advanced_at c m ++ shown_in advanced_at p (ticked p c m) ms)) (run p (ticked p c m) ms)
      (append_assoc decided (decided_at c m) (shown_in decided_at p (ticked p c m) ms)) (append_assoc posted (posted_at c m) (shown_in posted_at p (ticked p c m) ms)) (λ o. times_assoc o shown (advanced_at c m) (shown_in advanced_at p (ticked p c m) ms))
      (played_told ms (decided ++ decided_at c m) (posted ++ posted_at c m) (shown ++ advanced_at c m) (ticked p c m) (views_after p c vs m) are.2 (ticked_ahead p c m ahead) (ticked_rests p c m 0 rests) lead (told_tick decided posted shown c vs m are.0 are.1 (λ _ seat at. seat_rests c ahead 0 rests seat at) (run_leads p q clients gives ms (ticked p c m) lead) h))

  -- a story that shows as much as the scene of one shows what that shows
  reshown : (ps : List Post) (ns : List ℕ) (c d : Core) (h : HasStory p q clients gives ps ns c) → GoesOn p q clients gives h.scene h.scene.decisions h.scene.posts h.scene.advances d → GoesOn p q clients gives h.scene h.scene.decisions ps ns d
  reshown ps ns c d h k = subst (λ xs. GoesOn p q clients gives h.scene h.scene.decisions xs ns d) h.shown_posts (subst (λ ks. GoesOn p q clients gives h.scene h.scene.decisions h.scene.posts ks d) h.shown k)

  -- behind a change that shows nothing
  told_still : (decided : List Decision) (posted : List Post) (shown : List ℕ) (c d : Core) (t : Told decided posted shown c) → (let s = t.0 in let h = s.2 in GoesOn p q clients gives h.scene h.scene.decisions s.0 s.1 d) → Told decided posted shown d
  told_still decided posted shown c d t k = let s = t.0 in ((s.0, s.1, k.has, s.3, s.4), λ e there. t.1 e (subst (In e) k.shown_decisions there))

  -- seat 0 begins the ending
  pub ending_lasts : (os : List ℕ) (ps : List Post) (ns : List ℕ) (c : Core) (vs : List View) → BothSound p q c vs → 0 < length c.seats → IsAhead c → IsAtRest c 0 → LeadsTo p q clients gives (with_seat 0 (ending_of os) [] c.words c.homes c) → (h : HasStory p q clients gives ps ns c) → GoesOn p q clients gives h.scene h.scene.decisions ps ns (with_seat 0 (ending_of os) [] c.words c.homes c)
  ending_lasts os ps ns c vs both some_ ahead rests lead h = reshown ps ns c (with_seat 0 (ending_of os) [] c.words c.homes c) h
      (subst (λ d. GoesOn p q clients gives h.scene h.scene.decisions h.scene.posts h.scene.advances (with_seat 0 (ending_of os) [] d.words d.homes d)) h.is
      (of_scene h.scene h.marks h.story (subst (λ d. BothSound p q d vs) (sym h.is) both) (subst (λ (d : Core). 0 < length d.seats) (sym h.is) some_) (subst IsAhead (sym h.is) ahead) (subst (λ d. IsAtRest d 0) (sym h.is) rests) (subst (λ d. LeadsTo p q clients gives (with_seat 0 (ending_of os) [] d.words d.homes d)) (sym h.is) lead)))
    where
      of_scene : (w : Scene) (ms : List Mark) → CallStory p q clients gives w ms → BothSound p q w.core vs → 0 < length w.core.seats → IsAhead w.core → IsAtRest w.core 0 → LeadsTo p q clients gives (with_seat 0 (ending_of os) [] w.core.words w.core.homes w.core) → GoesOn p q clients gives w w.decisions w.posts w.advances (with_seat 0 (ending_of os) [] w.core.words w.core.homes w.core)
      of_scene w ms story both some_ ahead rests lead =
          let s = first_there w.core.seats some_ in let ids = both.ids in let sockets = both.sockets in
          let u = elem_there w.core.seats both.id_views 0 s.0 ids.each s.1 in let m = elem_there w.core.seats ms 0 s.0 story.each s.1 in
          let idle = subst (SaysOn p q clients gives w m.0) (seat_rests w.core ahead 0 rests s.0 s.1) (story.seats 0 s.0 m.0 s.1 m.1) in
          on_homes p q clients gives numbered slots small w ms story both.id_views both.ids (sockets.lawful.references.sized) 0 s.0 s.1 u.0 u.1 m.0 m.1 (λ other. absurd (other refl)) (ending_of os) [] w.core.homes (ending_few os) lead
          (λ v l _. ending_says p q clients gives os v m.0 idle.0 idle.1)
        where
          first_there : (l : List SeatState) → 0 < length l → (x : SeatState) × (get_elem? l 0 ≡ some x)
          first_there [] less = absurd (omega (arith, less))
          first_there (x ∷ xs) less = (x, refl)

  ending_told : (os : List ℕ) (decided : List Decision) (posted : List Post) (shown : List ℕ) (c : Core) (vs : List View) → BothSound p q c vs → 0 < length c.seats → IsAhead c → IsAtRest c 0 → LeadsTo p q clients gives (with_seat 0 (ending_of os) [] c.words c.homes c) → Told decided posted shown c → Told decided posted shown (with_seat 0 (ending_of os) [] c.words c.homes c)
  ending_told os decided posted shown c vs both some_ ahead rests lead t = let h = t.0 in told_still decided posted shown c (with_seat 0 (ending_of os) [] c.words c.homes c) t (ending_lasts os h.0 h.1 c vs both some_ ahead rests lead h.2)

  pub ending_story : (os : List ℕ) (posted : List Post) (shown : List ℕ) (c : Core) (vs : List View) → BothSound p q c vs → 0 < length c.seats → IsAhead c → IsAtRest c 0 → LeadsTo p q clients gives (with_seat 0 (ending_of os) [] c.words c.homes c) → Story posted shown c → Story posted shown (with_seat 0 (ending_of os) [] c.words c.homes c)
  ending_story os posted shown c vs both some_ ahead rests lead h = (ending_told os h.2.scene.decisions posted shown c vs both some_ ahead rests lead (h, λ d there. there)).0

  -- the readers are told that the run is ending
  pub told_lasts : (ps : List Post) (ns : List ℕ) (c : Core) (vs : List View) → BothSound p q c vs → 0 < length c.seats → LeadsTo p q clients gives (is_ending c) → (h : HasStory p q clients gives ps ns c) → GoesOn p q clients gives h.scene h.scene.decisions ps ns (is_ending c)
  told_lasts ps ns c vs both some_ lead h = reshown ps ns c (is_ending c) h
      (subst (λ d. GoesOn p q clients gives h.scene h.scene.decisions h.scene.posts h.scene.advances (is_ending d)) h.is
      (of_scene h.scene h.marks h.story (subst (λ d. BothSound p q d vs) (sym h.is) both) (subst (λ (d : Core). 0 < length d.seats) (sym h.is) some_) (subst (λ d. LeadsTo p q clients gives (is_ending d)) (sym h.is) lead)))
    where
      of_scene : (w : Scene) (ms : List Mark) → CallStory p q clients gives w ms → BothSound p q w.core vs → 0 < length w.core.seats → LeadsTo p q clients gives (is_ending w.core) → GoesOn p q clients gives w w.decisions w.posts w.advances (is_ending w.core)
      of_scene w ms story both some_ lead =
          let s = first_there w.core.seats some_ in let ids = both.ids in let sockets = both.sockets in
          let u = elem_there w.core.seats both.id_views 0 s.0 ids.each s.1 in let m = elem_there w.core.seats ms 0 s.0 story.each s.1 in
          told_story p q clients gives numbered slots small w ms story both.id_views both.ids (sockets.lawful.references.sized) 0 s.0 s.1 u.0 u.1 m.0 m.1 (λ other. absurd (other refl)) lead
        where
          first_there : (l : List SeatState) → 0 < length l → (x : SeatState) × (get_elem? l 0 ≡ some x)
          first_there [] less = absurd (omega (arith, less))
          first_there (x ∷ xs) less = (x, refl)

  is_ending_told : (decided : List Decision) (posted : List Post) (shown : List ℕ) (c : Core) (vs : List View) → BothSound p q c vs → 0 < length c.seats → LeadsTo p q clients gives (is_ending c) → Told decided posted shown c → Told decided posted shown (is_ending c)
  is_ending_told decided posted shown c vs both some_ lead t = let h = t.0 in told_still decided posted shown c (is_ending c) t (told_lasts h.0 h.1 c vs both some_ lead h.2)

  pub told_on : (posted : List Post) (shown : List ℕ) (c : Core) (vs : List View) → BothSound p q c vs → 0 < length c.seats → LeadsTo p q clients gives (is_ending c) → Story posted shown c → Story posted shown (is_ending c)
  told_on posted shown c vs both some_ lead h = (is_ending_told h.2.scene.decisions posted shown c vs both some_ lead (h, λ d there. there)).0

-- ## A whole run

module _ (script : List Item) (made : AreMade script) (gives : ℕ → List ℕ) (numbered : AreNumbered (plan_of script) (id_plan_of script) (all_tasks script) gives) (slots : HaveSlots (plan_of script) (id_plan_of script) (all_tasks script) gives) (fit : Begins (plan_of script) (id_plan_of script) (all_tasks script) gives numbered slots (opens script))
    (turns : List Turn) (core : Core) (is : IsRunWithCalls script turns core) (leads : LeadsTo (plan_of script) (id_plan_of script) (all_tasks script) gives core) where
  abbrev pub Tale : List Decision → List Post → List ℕ → Core → Type 0
  Tale decided posted shown c = (s : (ps : List Post) × (ns : List ℕ) × HasStory (plan_of script) (id_plan_of script) (all_tasks script) gives ps ns c × ((x : Post) → In x ps → In x posted) × ((o : ℕ) → times o ns ≡ times o shown)) × ((d : Decision) → In d s.2.scene.decisions → In d decided)

  -- the calls whose attempts the ticks of each part of the run advance
  open parts advanced_at is use {setup as in_setup, clients as in_clients, closing as in_closing, final as in_final}
  -- and the errors that ids take in them
  open parts posted_at is use {setup as posts_in_setup, clients as posts_in_clients, closing as posts_in_closing, final as posts_in_final}
  -- and on which seats decide
  open parts decided_at is use {setup as decided_in_setup, clients as decided_in_clients, closing as decided_in_closing, final as decided_in_final}

  abbrev pub small : (id_plan_of script).slots ≤ 65536
  small = narrow (plan_of script) (id_plan_of script) (all_tasks script) (calls script) (opens script) made

  pub sound_run : IsSoundRun script turns core is
  sound_run = joint_runs script turns core is made

  abbrev all : List Program
  all = all_programs (programs (sizes_of (plan_of script) (id_plan_of script)) (all_tasks script)) (readers_from (calls script) 0 (opens script))

  open run_facts script made turns core is use {length_is, few_tries, set_up_ahead, played_ahead, ended_ahead, many_played, many_closed}
  open leadings script turns core is gives leads use {told_leads, closed_leads, ending_leads, played_leads, set_up_leads, opened_leads}

  abbrev pub views_set_up : List View
  views_set_up = views_along (plan_of script) (opened script) (first_views script) (replicate is.setup (quiet 0))

  pub first_tale : Tale [] [] [] (opened script)
  first_tale = let k = first_decided (plan_of script) (id_plan_of script) (all_tasks script) gives numbered slots (calls script) (opens script) fit made.seats length_is few_tries opened_leads in (([], [], k.0, (λ x there. there), λ o. refl), λ d there. subst (In d) k.1 there)

  pub set_up_tale : Tale decided_in_setup posts_in_setup in_setup (set_up script is.setup)
  set_up_tale = setup_told (plan_of script) (id_plan_of script) (all_tasks script) gives numbered slots small is.setup [] [] [] (opened script) (first_views script) (let s = sound_run in s.setup) set_up_leads first_tale

  played_tale : Tale (decided_in_setup ++ decided_in_clients) (posts_in_setup ++ posts_in_clients) (in_setup ++ in_clients) (played script is.setup (is.scheduled ++ is.later))
  played_tale = played_told (plan_of script) (id_plan_of script) (all_tasks script) gives numbered slots small (is.scheduled ++ is.later) decided_in_setup posts_in_setup in_setup (set_up script is.setup) views_set_up (let s = sound_run in s.clients) set_up_ahead is.is_set_up played_leads set_up_tale

  pub ending_tale : Tale (decided_in_setup ++ decided_in_clients) (posts_in_setup ++ posts_in_clients) (in_setup ++ in_clients) (ending script (played script is.setup (is.scheduled ++ is.later)))
  ending_tale = let s = sound_run in ending_told (plan_of script) (id_plan_of script) (all_tasks script) gives numbered slots small (opens script) (decided_in_setup ++ decided_in_clients) (posts_in_setup ++ posts_in_clients) (in_setup ++ in_clients) (played script is.setup (is.scheduled ++ is.later)) (views_along (plan_of script) (set_up script is.setup) views_set_up (is.scheduled ++ is.later))
      (behind_both (plan_of script) (id_plan_of script) (set_up script is.setup) views_set_up (is.scheduled ++ is.later) s.clients) (let seats = made.seats in omega (arith, many_played, seats)) played_ahead
      (run_rests (plan_of script) (set_up script is.setup) (is.scheduled ++ is.later) 0 is.is_set_up) ending_leads played_tale

  closed_tale : Tale ((decided_in_setup ++ decided_in_clients) ++ decided_in_closing) ((posts_in_setup ++ posts_in_clients) ++ posts_in_closing) ((in_setup ++ in_clients) ++ in_closing) (run (plan_of script) (ending script (played script is.setup (is.scheduled ++ is.later))) (replicate is.last (quiet 0)))
  closed_tale = setup_told (plan_of script) (id_plan_of script) (all_tasks script) gives numbered slots small is.last (decided_in_setup ++ decided_in_clients) (posts_in_setup ++ posts_in_clients) (in_setup ++ in_clients) (ending script (played script is.setup (is.scheduled ++ is.later))) (views_played script turns core is (first_views script)) (let s = sound_run in s.closing) closed_leads ending_tale

  pub ended_tale : Tale ((decided_in_setup ++ decided_in_clients) ++ decided_in_closing) ((posts_in_setup ++ posts_in_clients) ++ posts_in_closing) ((in_setup ++ in_clients) ++ in_closing) is.ended
  ended_tale = let s = sound_run in subst (Tale ((decided_in_setup ++ decided_in_clients) ++ decided_in_closing) ((posts_in_setup ++ posts_in_clients) ++ posts_in_closing) ((in_setup ++ in_clients) ++ in_closing)) (sym is.is_ended) (is_ending_told (plan_of script) (id_plan_of script) (all_tasks script) gives numbered slots small ((decided_in_setup ++ decided_in_clients) ++ decided_in_closing) ((posts_in_setup ++ posts_in_clients) ++ posts_in_closing) ((in_setup ++ in_clients) ++ in_closing) (run (plan_of script) (ending script (played script is.setup (is.scheduled ++ is.later))) (replicate is.last (quiet 0))) (views_closed script turns core is (first_views script))
      (behind_both (plan_of script) (id_plan_of script) (ending script (played script is.setup (is.scheduled ++ is.later))) (views_played script turns core is (first_views script)) (replicate is.last (quiet 0)) s.closing) (let seats = made.seats in omega (arith, many_closed, seats)) told_leads closed_tale)

  end_tale : Tale (((decided_in_setup ++ decided_in_clients) ++ decided_in_closing) ++ decided_in_final) (((posts_in_setup ++ posts_in_clients) ++ posts_in_closing) ++ posts_in_final) (((in_setup ++ in_clients) ++ in_closing) ++ in_final) core
  end_tale = subst (Tale (((decided_in_setup ++ decided_in_clients) ++ decided_in_closing) ++ decided_in_final) (((posts_in_setup ++ posts_in_clients) ++ posts_in_closing) ++ posts_in_final) (((in_setup ++ in_clients) ++ in_closing) ++ in_final)) (sym is.is_end) (played_told (plan_of script) (id_plan_of script) (all_tasks script) gives numbered slots small is.final ((decided_in_setup ++ decided_in_clients) ++ decided_in_closing) ((posts_in_setup ++ posts_in_clients) ++ posts_in_closing) ((in_setup ++ in_clients) ++ in_closing) is.ended (views_closed script turns core is (first_views script)) (let s = sound_run in s.final) ended_ahead is.is_over (subst (LeadsTo (plan_of script) (id_plan_of script) (all_tasks script) gives) is.is_end leads) ended_tale)

  -- at the end of a run its story is there, ids took no other errors than the run shows, the attempt of each call was advanced as often, and seats decided on no other errors
  pub run_told : (s : (ps : List Post) × (ns : List ℕ) × HasStory (plan_of script) (id_plan_of script) (all_tasks script) gives ps ns core × ((x : Post) → In x ps → In x (posts_of_run script turns core is)) × ((o : ℕ) → times o ns ≡ attempts_of_run script turns core is o)) × ((d : Decision) → In d s.2.scene.decisions → In d (shown_in_run script turns core is decided_at))
  run_told = let t = end_tale in let h = t.0 in (
    (h.0, h.1, h.2, (λ x there. subst (In x) (append_assoc (posts_in_setup ++ posts_in_clients) posts_in_closing posts_in_final ∙ append_assoc posts_in_setup posts_in_clients (posts_in_closing ++ posts_in_final)) (h.3 x there)), λ o. h.4 o ∙ (times_assoc o (in_setup ++ in_clients) in_closing in_final ∙ times_assoc o in_setup in_clients (in_closing ++ in_final))),
    λ d there. subst (In d) (append_assoc (decided_in_setup ++ decided_in_clients) decided_in_closing decided_in_final ∙ append_assoc decided_in_setup decided_in_clients (decided_in_closing ++ decided_in_final)) (t.1 d there),
  )
