-- What seats found missing lasts along the ticks of a run.
use Rattle.std.proofs.Common.{◌≡◌, ◌≢◌, ℕ, ◌≤◌, ⊎_elim, List, [], ◌∷◌, ◌++◌, get_or, refl, sym, ap, ◌∙◌, subst}
use mathlib.Core.Option.{some, some-ne-none}
use lib.ListN.{get_elem?}
use Rattle.sock_words.specs.declared.plain.Plan.{Plan}
use Rattle.corr_core.specs.declared.marks.Plan.{Plan as IdPlan}
use Rattle.sock_model.specs.declared.view.View.{View}
use Rattle.sock_model.specs.SocketTableLayout.{name_index}
use Rattle.sock_message.specs.Asked.{Asked}
use Rattle.seat_programs.specs.declared.task.Task.{Task}
use Rattle.seat_programs.specs.TableSteps.{OnName, LoadName}
use Rattle.seat_programs.specs.Cores.{Core, SeatState}
use Rattle.seat_programs.specs.Ticks.{Moment, AreAnswered, ticked, run}
use Rattle.dropped_calls.specs.Below.programs_allowed.specs.program_steps.specs.SoundSeats.{views_after}
use Rattle.dropped_calls.specs.Below.programs_allowed.specs.program_steps.proofs.TickCases.{elem_there}
use Rattle.dropped_calls.specs.Below.joint_runs.proofs.BothTablesSound.{AreBoth}
use Rattle.dropped_calls.specs.Below.call_stories.specs.LinkReadingLists.{advanced_at}
use Rattle.dropped_calls.specs.Below.call_stories.specs.PostsOfRun.{Post, posted_at}
use Rattle.dropped_calls.specs.Below.call_stories.specs.Scenes.{Scene, LeadsTo, Later}
use Rattle.dropped_calls.specs.Below.call_stories.specs.Decided.{Decision}
use Rattle.dropped_calls.specs.Below.call_stories.specs.CallStories.{HasStory, GoesOn}
use Rattle.dropped_calls.specs.Below.story_ticks.proofs.Allowing.{allows}
use Rattle.dropped_calls.specs.Below.story_ticks.proofs.Claiming.{HaveSlots}
use Rattle.dropped_calls.specs.Below.call_stories.proofs.LeadingBytesGiven.{run_leads}
use Rattle.dropped_calls.specs.Below.story_steps.proofs.NumberedTasks.{AreNumbered}
use Rattle.dropped_calls.specs.Below.story_ticks.proofs.TicksKeepCallStory.{IsSetUp, story_lasts}
use Rattle.dropped_calls.specs.accept_counts.specs.RefusedOrDropped.{DidMiss, WouldStore, DidAt, DidIn}
use Rattle.dropped_calls.specs.attempted_calls.proofs.AttemptedFacts.{IsOwn, facts}
use Rattle.dropped_calls.specs.attempted_calls.proofs.EndedNames.{follows_first}
use Rattle.dropped_calls.specs.attempted_calls.proofs.AttemptedOwn.{IsTrueOf, own_ticks}
use Rattle.dropped_calls.specs.attempted_calls.proofs.AttemptedStored.{Owns, AreSetUp, would_of}
use Rattle.send_causes.proofs.FoundNames.{Missed, missed_on, missed_here}
use Rattle.seat_programs.specs.LoopRounds.{first_step}

first_there : {A : Type 0} (xs : List A) (i : ℕ) (x : A) → get_elem? xs i ≡ some x → (y : A) × (get_elem? xs 0 ≡ some y)
first_there [] i x at = absurd (some-ne-none x (sym at))
first_there (y ∷ ys) i x at = (y, refl)

module _ (p : Plan) (q : IdPlan) (clients : List (List Task)) (gives : ℕ → List ℕ) (numbered : AreNumbered p q clients gives) (slots : HaveSlots p q clients gives) (small : q.slots ≤ 65536) where
  abbrev Missed_ : Scene → ℕ → ℕ → ℕ → Type 0
  Missed_ w j name o = Missed p q clients gives w j name o

  -- the story of a later core, in which what was missed so far still counts
  pub record Since (w : Scene) (c : Core) : Type 0 where
    pub posted : List Post
    pub shown : List ℕ
    pub story : HasStory p q clients gives posted shown c
    pub stays : (j name o : ℕ) → Missed p q clients gives w j name o → Missed p q clients gives story.scene j name o

  abbrev since : (w v : Scene) (c : Core) → Later p q clients gives w v → Since v c → Since w c
  since w v c l s = record { posted = s.posted; shown = s.shown; story = s.story; stays = λ j name o x. s.stays j name o (missed_on p q clients gives w v l j name o x) }

  -- and of a core later still
  pub then_since : (w : Scene) (c d : Core) (s : Since w c) → ((ps : List Post) (ns : List ℕ) (h : HasStory p q clients gives ps ns c) → Since h.scene d) → Since w d
  then_since w c d s on = let r = on s.posted s.shown s.story in record { posted = r.posted; shown = r.shown; story = r.story; stays = λ j name o x. r.stays j name o (s.stays j name o x) }

  -- behind a change after which what happened lasts
  pub since_change : (w : Scene) (ds : List Decision) (ps : List Post) (ns : List ℕ) (c : Core) → GoesOn p q clients gives w ds ps ns c → Since w c
  since_change w ds ps ns c g = record { posted = ps; shown = ns; story = g.has; stays = λ j name o x. missed_on p q clients gives w g.has.scene g.later j name o x }

  pub since_ticks : (ms : List Moment) (c : Core) (vs : List View) → AreBoth p q c vs ms → AreSetUp p c ms → LeadsTo p q clients gives (run p c ms) → (ps : List Post) (ns : List ℕ) (h : HasStory p q clients gives ps ns c) → Since h.scene (run p c ms)
  since_ticks [] c vs both over lead ps ns h = record { posted = ps; shown = ns; story = h; stays = λ j name o x. x }
  since_ticks (m ∷ ms) c vs both over lead ps ns h =
      let k = story_lasts p q clients gives numbered slots small ps ns c both.0.id_views m both.0.ids both.1.fitting_ids (let s = both.0.sockets in s.lawful.references.sized) (allows p c vs m both.0.sockets) over.0 (run_leads p q clients gives ms (ticked p c m) lead) h in
      since h.scene k.has.scene (run p (ticked p c m) ms) k.later (since_ticks ms (ticked p c m) (views_after p c vs m) both.2 over.1 lead (posted_at c m ++ ps) (advanced_at c m ++ ns) k.has)

  -- ## What is missed in these ticks

  module _ (is_call : Asked → Type 0) where
    abbrev Owns_ : Core → Type 0
    Owns_ c = Owns p q clients gives numbered slots small is_call c

    -- whoever would store an at word knows that its call has an id
    own_of : (c : Core) (k : Owns_ c) (j : ℕ) (seat : SeatState) → get_elem? c.seats j ≡ some seat → (o id n : ℕ) → WouldStore o id n (first_step seat.program) → (own : ℕ) × IsOwn q c o own
    own_of c k j seat at o id n would = let t = elem_there c.seats k.trails j seat k.law.each at in
        let w = would_of is_call t.0 (first_step seat.program) o id n (follows_first is_call t.0 seat.program (k.law.programs j seat t.0 at t.1)) would in (w.own, subst (IsTrueOf q c) w.knows (k.law.knows j t.0 t.1))

    missed_now : (c : Core) (k : Owns_ c) (m : Moment) → (m.seat ≢ 0 → IsSetUp c) → (j name o id n : ℕ) → j ≢ 0 → DidAt p c m j (DidMiss name o id n) → Missed_ k.story.scene j name o
    missed_now c k m over j name o id n other x =
        let h = k.story in let seat : SeatState = x.1 in let at : get_elem? h.scene.core.seats j ≡ some x.1 = ap (λ (d : Core). get_elem? d.seats j) h.is ∙ x.3 in
        let mark = elem_there h.scene.core.seats h.marks j x.1 h.story.each at in let first = first_there h.marks j mark.0 mark.1 in let own = own_of c k j x.1 x.3 o id n x.6 in
        missed_here p q clients gives numbered h.scene h.marks h.story (subst IsSetUp (sym h.is) (over (λ z. other (sym x.0 ∙ z)))) first.0 first.1 j mark.0 mark.1 x.1 at (OnName (LoadName name)) x.2 x.4 name o own.0
        (λ named. named.1 (ap (λ (d : Core). get_or d.words (name_index p name) 0) h.is ∙ x.5)) (subst (λ d. IsOwn q d o own.0) (sym h.is) own.1)

    -- the story behind these ticks, in which all counts that was missed before them and in them
    pub record Finds (w : Scene) (c : Core) (ms : List Moment) : Type 0 where
      pub later : Since w (run p c ms)
      pub missed : (j name o id n : ℕ) → j ≢ 0 → DidIn p c ms j (DidMiss name o id n) → Missed p q clients gives later.story.scene j name o

    pub find_along : (ms : List Moment) (c : Core) (vs : List View) → AreBoth p q c vs ms → AreAnswered p c ms → AreSetUp p c ms → LeadsTo p q clients gives (run p c ms) → (k : Owns p q clients gives numbered slots small is_call c) → Finds k.story.scene c ms
    find_along [] c vs both answered over lead k = record { later = record { posted = k.posted; shown = k.shown; story = k.story; stays = λ j name o x. x }; missed = λ j name o id n other x. absurd x }
    find_along (m ∷ ms) c vs both answered over lead k =
        let t = own_ticks p q small is_call c vs k.trails k.law both.0.id_views both.0.ids (facts p q clients gives k.posted k.shown c k.story) both.0.sockets m answered.0 both.1.fitting_ids in
        let l = story_lasts p q clients gives numbered slots small k.posted k.shown c both.0.id_views m both.0.ids both.1.fitting_ids (let s = both.0.sockets in s.lawful.references.sized) (allows p c vs m both.0.sockets) over.0 (run_leads p q clients gives ms (ticked p c m) lead) k.story in
        let next : Owns p q clients gives numbered slots small is_call (ticked p c m) = record { posted = posted_at c m ++ k.posted; shown = advanced_at c m ++ k.shown; story = l.has; trails = t.0; law = t.1 } in
        let r = find_along ms (ticked p c m) (views_after p c vs m) both.2 answered.1 over.1 lead next in record {
          later = since k.story.scene l.has.scene (run p (ticked p c m) ms) l.later r.later;
          missed = λ j name o id n other. ⊎_elim
              (λ now. r.later.stays j name o (missed_on p q clients gives k.story.scene l.has.scene l.later j name o (missed_now c k m over.0 j name o id n other now)))
              (λ later. r.missed j name o id n other later);
        }
