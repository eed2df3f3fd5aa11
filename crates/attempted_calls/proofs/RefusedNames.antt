-- A socket that was found under a name is that of a life that was made under it.
use Rattle.std.proofs.Common.{◌≡◌, ◌≢◌, ℕ, zero, suc, ◌+◌, ◌*◌, ◌<◌, inl, inr, ⊎_elim, Bool, true, false, List, [], ◌∷◌, replicate, refl, sym, ap, ◌∙◌, subst, arith}
use Rattle.std.specs.Prelude.{Option, Some}
use Rattle.sock_words.specs.declared.plain.Plan.{Plan}
use Rattle.sock_words.specs.declared.outcome.Outcome.{Outcome}
use Rattle.sock_words.specs.PackedWords.{socket_id, socket_id_slot, socket_id_version, vref_version}
use Rattle.sock_model.specs.declared.view.View.{View}
use Rattle.sock_model.specs.References.{slot_facts}
use Rattle.seat_programs.specs.TableSteps.{OnSlot, OnName, CreateLife, StoreName, LoadName}
use Rattle.seat_programs.specs.Cores.{Core}
use Rattle.seat_programs.specs.declared.task.Task.{Task}
use Rattle.seat_programs.specs.Programs.{Do}
use Rattle.seat_programs.specs.Ticks.{Moment, AreAnswered, quiet, ticked, run}
use Rattle.seat_programs.specs.Explained.{AreTasks, Made}
use Rattle.own_decisions.specs.Below.programs_allowed.specs.program_steps.specs.ProgramGoesOn.{GoesOn}
use Rattle.own_decisions.specs.Below.programs_allowed.specs.program_steps.specs.SoundSeats.{Sound, AllRest, AreFitting, state, views_after, views_along}
use Rattle.own_decisions.specs.Below.programs_allowed.specs.program_steps.proofs.TickCases.{goes_first, elem_there}
use Rattle.own_decisions.specs.Below.programs_allowed.specs.sock_runs.proofs.LinkTicks.{RetriesGo}
use Rattle.own_decisions.specs.Below.programs_allowed.specs.sock_runs.proofs.TicksKeepSeatsSound.{sound_ticks}
use Rattle.own_decisions.specs.Below.outcome_stories.specs.StoryStepCauses.{Asks}
use Rattle.own_decisions.specs.Below.outcome_stories.specs.Explains.{step}
use Rattle.own_decisions.specs.Below.outcome_stories.specs.KeptStory.{Story}
use Rattle.own_decisions.specs.Below.outcome_stories.specs.OperationStories.{Event, In, trace_of}
use Rattle.own_decisions.specs.Below.outcome_stories.proofs.Delivered.{orders_of}
use Rattle.own_decisions.specs.Below.outcome_ticks.proofs.EventsOfGoodStory.{event, cause_of, given_by, last_some}
use Rattle.own_decisions.specs.Below.outcome_causes.proofs.LivesByTask.{World, task_of, tells_of}
use Rattle.own_decisions.specs.Below.outcome_stories.proofs.Members.{from_trace, to_trace}
use Rattle.own_decisions.specs.Below.outcome_ticks.proofs.TicksKeepStory.{tick_story}
use Rattle.own_decisions.specs.Below.outcome_causes.proofs.Worlds.{world_of}
use Rattle.own_decisions.specs.accept_counts.specs.RefusedOrDropped.{Deed, DidStep, DidAt, DidIn}

-- ## What was found under names

-- the story has the step that stored what was found under a name
abbrev pub IsNamed : List Event → Deed → Type 0
IsNamed es (DidStep (OnName (LoadName n)) found) = found ≢ 0 → (client o before : ℕ) × In (event client o (OnName (StoreName n found)) before) es
IsNamed es other = Unit {0}

pub named_more : (es fs : List Event) → ((e : Event) → In e es → In e fs) → (d : Deed) → IsNamed es d → IsNamed fs d
named_more es fs part (DidStep (OnName (LoadName n)) found) x = λ some_. let y = x some_ in (y.0, y.1, y.2, part _ y.3)
named_more es fs part _ x = tt

module _ (p : Plan) (cs : List (List Task)) (are : AreTasks p cs) where
  -- what is found in a tick was stored before it
  named_now : (over : Bool) (c : Core) (vs : List View) (es : List Event) (lost : List ℕ) → Sound p c vs → Story p cs over c vs es lost → (m : Moment) (j : ℕ) (d : Deed) → DidAt p c m j d → IsNamed es d
  named_now over c vs es lost sound story m j (DidStep (OnName (LoadName n)) found) x = λ some_. let v = elem_there c.seats vs j x.1 sound.each x.3 in
      let g : GoesOn p v.0 (Do (OnName (LoadName n)) x.2) = subst (GoesOn p v.0) x.4 (goes_first p v.0 x.1.program (sound.seats j x.1 v.0 x.3 v.1).goes_on) in
      let same = x.5 ∙ story.named n g.0 in let s = last_some es n (λ z. some_ (same ∙ z)) in (s.0, s.1, s.2, subst (λ w. In (event s.0 s.1 (OnName (StoreName n w)) s.2) es) (sym same) s.3)
  named_now over c vs es lost sound story m j _ x = tt

  -- a story of a core, which has what was found under names so far
  pub record Named (over : Bool) (c : Core) (vs : List View) : Type 0 where
    pub events : List Event
    pub lost : List ℕ
    pub story : Story p cs over c vs events lost

  -- behind these ticks; nothing is lost of it
  pub record Then (over : Bool) (c : Core) (vs : List View) (ms : List Moment) (before : List Event) : Type 0 where
    pub after : Named over (run p c ms) (views_along p c vs ms)
    pub kept : (e : Event) → In e before → In e after.events
    pub named : (j : ℕ) (d : Deed) → DidIn p c ms j d → IsNamed after.events d

  pub seats_named : RetriesGo p → (ms : List Moment) (c : Core) (vs : List View) → Sound p c vs → AreAnswered p c ms → AreFitting p c ms → (t : Named true c vs) → Then true c vs ms t.events
  seats_named go [] c vs sound answered fitting t = record { after = t; kept = λ e m. m; named = λ j d x. absurd x }
  seats_named go (m ∷ ms) c vs sound answered fitting t = let g = tick_story p cs are true c vs t.events t.lost sound t.story m answered.0 (inl refl) in
      let r = seats_named go ms (ticked p c m) (views_after p c vs m) (sound_ticks p go c vs m sound answered.0 fitting.0) answered.1 fitting.1 (record { events = g.events; lost = g.lost; story = g.told }) in record {
        after = record { events = r.after.events; lost = r.after.lost; story = r.after.story };
        kept = λ e n. r.kept e (g.kept e n);
        named = λ j d. ⊎_elim (λ now. named_more t.events r.after.events (λ e n. r.kept e (g.kept e n)) d (named_now true c vs t.events t.lost sound t.story m j d now)) (λ later. r.named j d later);
      }

  pub setup_named : RetriesGo p → (n : ℕ) (c : Core) (vs : List View) → Sound p c vs → AreAnswered p c (replicate n (quiet 0)) → AreFitting p c (replicate n (quiet 0)) → (t : Named false c vs) → ((e : Event) → In e t.events → e.client ≡ 0) → Then false c vs (replicate n (quiet 0)) t.events
  setup_named go zero c vs sound answered fitting t alone = record { after = t; kept = λ e m. m; named = λ j d x. absurd x }
  setup_named go (suc n) c vs sound answered fitting t alone = let g = tick_story p cs are false c vs t.events t.lost sound t.story (quiet 0) answered.0 (inr (refl, alone)) in
      let r = setup_named go n (ticked p c (quiet 0)) (views_after p c vs (quiet 0)) (sound_ticks p go c vs (quiet 0) sound answered.0 fitting.0) answered.1 fitting.1 (record { events = g.events; lost = g.lost; story = g.told })
      (λ e m. ⊎_elim (λ o. alone e o) (λ o. o.0) (g.fresh e m)) in record {
        after = record { events = r.after.events; lost = r.after.lost; story = r.after.story };
        kept = λ e m. r.kept e (g.kept e m);
        named = λ j d. ⊎_elim (λ now. named_more t.events r.after.events (λ e m. r.kept e (g.kept e m)) d (named_now false c vs t.events t.lost sound t.story (quiet 0) j d now)) (λ later. r.named j d later);
      }

-- ## Lives of names

module _ (p : Plan) (clients : List (List Task)) (are : AreTasks p clients) (c : Core) (vs : List View) (es : List Event) (lost : List ℕ) (sound : Sound p c vs) (story : Story p clients true c vs es lost) (settled : AllRest c) where
  pub world : World p clients c.outcomes lost (orders_of p c vs sound.lawful) es
  world = world_of p clients are true c vs es lost lost (λ k m. m) sound story settled

  parts_of : (id v i : ℕ) → i < p.slots → id + 1 ≡ socket_id v i + 1 → (i ≡ socket_id_slot id) × (v ≡ socket_id_version id)
  parts_of id v i l e = let f = world.few in let q : id ≡ v * 4294967296 + i = omega arith in (omega arith, omega arith)

  -- of an earlier core of the run, and its story
  module _ (before : Core) (views : List View) (fs : List Event) (losses : List ℕ) (told : Story p clients true before views fs losses) (part : (e : Event) → In e fs → In e es) where
    -- a socket that was stored under a name by then is that of a life that was made under it, and had its link by then
    pub named_life : (n s : ℕ) → (client o found : ℕ) × In (event client o (OnName (StoreName n (s + 1))) found) fs → (k : ℕ) × Made clients c.outcomes n k (socket_id_slot s) (socket_id_version s) × (socket_id_slot s < p.slots) × (0 < Rattle.sock_model.specs.SocketSlotLaw.count (Rattle.sock_model.specs.MarkWeights.is_linked (socket_id_version s) k) (slot_facts (state before views) (socket_id_slot s)))
    named_life n s (client, o, found, m) = let b = cause_of p clients losses fs told.good (event client o (OnName (StoreName n (s + 1))) found) m in let f = b.cause.fits in let k : ℕ = f.0 in let i : ℕ = f.1 in let word : ℕ = f.2 in
        let birth : In (event client o (OnSlot (CreateLife i k)) word) fs = b.part (event client o (OnSlot (CreateLife i k)) word) (from_trace client o b.story (step (OnSlot (CreateLife i k)) word) f.4) in
        let means = (cause_of p clients losses fs told.good (event client o (OnSlot (CreateLife i k)) word) birth).cause.means in
        let t : Task = b.cause.task in let asks : Asks clients client t = b.cause.is in
        let tells = tells_of p clients c.outcomes lost (orders_of p c vs sound.lawful) es world client t asks (step (OnSlot (CreateLife i k)) word) (subst (λ z. In (step (OnSlot (CreateLife i k)) word) (trace_of client z es)) (sym b.cause.numbered) (to_trace es (event client o (OnSlot (CreateLife i k)) word) (part (event client o (OnSlot (CreateLife i k)) word) birth))) in
        let made : Made clients c.outcomes n k i (vref_version word) = record { client = client; task = t; is = task_of p clients c.outcomes lost (orders_of p c vs sound.lawful) es world client t asks; op = f.3; became = (world.final client t asks).became ∙ ap (λ (x : Option Outcome). Some x) tells } in
        let parts = parts_of s (vref_version word) i means.0 f.5 in let given = given_by fs client o word i (socket_id_version s) k birth parts.1 in let tie = told.links i means.0 (socket_id_version s) k in (
          k,
          subst (λ z. Made clients c.outcomes n k (socket_id_slot s) z) parts.1 (subst (λ z. Made clients c.outcomes n k z (vref_version word)) parts.0 made),
          subst (λ z. z < p.slots) parts.0 means.0,
          subst (λ z. 0 < Rattle.sock_model.specs.SocketSlotLaw.count (Rattle.sock_model.specs.MarkWeights.is_linked (socket_id_version s) k) (slot_facts (state before views) z)) parts.0 (omega (arith, given, tie)),
        )
