-- Ticks one after another keep the story: those of the setup, then those of all seats, and those behind the ending.
use Rattle.std.proofs.Common.{◌≡◌, ℕ, zero, suc, ◌⊎◌, Bool, true, false, List, [], ◌∷◌, replicate, inl, inr, ⊎_elim, refl, ap, ◌∙◌, sym, subst, arith}
use Rattle.std.specs.Prelude.{None}
use Rattle.std.specs.Prelude as std
use mathlib.Core.Option.{some, none}
use lib.ListN.{get_elem?}
use Rattle.atomic_table.proofs.Lists.{set_again}
use Rattle.sock_words.specs.declared.kind.Kind.{Kind}
use Rattle.sock_words.specs.declared.plain.Plan.{Plan}
use Rattle.sock_words.specs.declared.outcome.Outcome.{Outcome}
use Rattle.sock_model.specs.declared.view.View.{View}
use Rattle.seat_programs.specs.declared.task.Task.{Task}
use Rattle.seat_programs.specs.Programs.{Program, Say, Sent, Rest, Keep, Retries}
use Rattle.seat_programs.specs.ClientProgram.{ending_of}
use Rattle.seat_programs.specs.Cores.{Core, SeatState, with_seat}
use Rattle.seat_programs.specs.Ticks.{Moment, quiet, AreAnswered, ticked, run}
use Rattle.seat_programs.specs.ScheduledRuns.{kind_in, IsAtRest}
use Rattle.seat_programs.specs.ScriptSetupToEnding.{is_ending}
use Rattle.seat_programs.specs.SlotFreedByDrop.{MadeIn}
use Rattle.seat_programs.specs.Explained.{AreTasks}
use Rattle.outcome_ticks.specs.program_steps.specs.SoundSeats.{Sound, views_after, views_along, AreFitting}
use Rattle.outcome_ticks.specs.sock_runs.proofs.LinkTicks.{RetriesGo}
use Rattle.outcome_ticks.specs.sock_runs.proofs.TicksKeepSeatsSound.{sound_ticks}
use Rattle.outcome_ticks.specs.outcome_stories.specs.OperationStories.{Event, In}
use Rattle.outcome_ticks.specs.outcome_stories.specs.Explains.{Closing, ExplainsBy}
use Rattle.outcome_ticks.specs.outcome_stories.specs.LinkLosses.{lost_at, lost_in}
use Rattle.outcome_ticks.specs.outcome_stories.specs.KeptStory.{undo, AreMadeNow, of_sends, IsSpoken, SeatAt, SeatStory, Story, IsReady}
use Rattle.outcome_ticks.specs.outcome_stories.proofs.Members.{in_left, in_right}
use Rattle.outcome_ticks.proofs.SilentClosingSteps.{ending_explains}
use Rattle.outcome_ticks.proofs.SeatPartOfStory.{no_claims}
use Rattle.outcome_ticks.proofs.TicksKeepStory.{tick_story, get_of, moved}

-- a program that has said its outcomes and has no step left
pub at_end : (program : Program) → IsReady program → kind_in program ≡ None → program ≡ Rest
at_end (Say o outcome more) ready e = absurd ready
at_end (Sent o more) ready e = absurd ready
at_end Rest ready e = refl
at_end (Keep r next) ready e = absurd ready
at_end (Retries n after) ready e = absurd ready
at_end _ ready e = absurd (cc)

module _ (p : Plan) (clients : List (List Task)) (are : AreTasks p clients) where
  -- a core with views and a story, and the links that were lost
  pub record IsStoried (over : Bool) (c : Core) (views : List View) : Type 0 where
    pub events : List Event
    pub lost : List ℕ
    pub sound : Sound p c views
    pub story : Story p clients over c views events lost

  -- what ticks make of it: each link that was lost meanwhile was so in one of them, and each new step was made in one of them
  pub record Goes (over : Bool) (moments : List Moment) (c : Core) (views : List View) (t : IsStoried over c views) : Type 0 where
    pub after : IsStoried over (run p c moments) (views_along p c views moments)
    pub losses : (k : ℕ) → In k after.lost → In k t.lost ⊎ In k (lost_in p c moments)
    pub kept : (e : Event) → In e t.events → In e after.events
    pub made : (e : Event) → In e after.events → In e t.events ⊎ MadeIn p clients c moments e.client e.number e.entry.call e.entry.found

  module _ (retries_go : RetriesGo p) where
    -- a tick, and those behind it
    then_goes : (over : Bool) (x : Moment) (xs : List Moment) (c : Core) (views : List View) (t : IsStoried over c views) (next : IsStoried over (ticked p c x) (views_after p c views x))
        → ((k : ℕ) → In k next.lost → In k t.lost ⊎ In k (lost_at c x)) → ((e : Event) → In e t.events → In e next.events) → ((e : Event) → In e next.events → In e t.events ⊎ MadeIn p clients c (x ∷ xs) e.client e.number e.entry.call e.entry.found)
        → Goes over xs (ticked p c x) (views_after p c views x) next → Goes over (x ∷ xs) c views t
    then_goes over x xs c views t next losses kept made r = record {
      after = r.after;
      losses = λ k m. ⊎_elim (λ n. ⊎_elim (λ o. inl o) (λ o. inr (in_left (lost_at c x) (lost_in p (ticked p c x) xs) k o)) (losses k n)) (λ n. inr (in_right (lost_at c x) (lost_in p (ticked p c x) xs) k n)) (r.losses k m);
      kept = λ e m. r.kept e (kept e m);
      made = λ e m. ⊎_elim (λ n. made e n) (λ n. inr (inr n)) (r.made e m);
    }

    -- ticks of all seats, once the setup is over
    pub seats_run : (moments : List Moment) (c : Core) (views : List View) → AreAnswered p c moments → AreFitting p c moments → (t : IsStoried true c views) → Goes true moments c views t
    seats_run [] c views answered fitting t = record { after = t; losses = λ k m. inl m; kept = λ e m. m; made = λ e m. inl m }
    seats_run (x ∷ xs) c views answered fitting t = let g = tick_story p clients are true c views t.events t.lost t.sound t.story x answered.0 (inl refl) in
        let next : IsStoried true (ticked p c x) (views_after p c views x) = record { events = g.events; lost = g.lost; sound = sound_ticks p retries_go c views x t.sound answered.0 fitting.0; story = g.told } in
        then_goes true x xs c views t next g.losses g.kept (λ e m. ⊎_elim (λ o. inl o) (λ o. inr (inl o.1)) (g.fresh e m)) (seats_run xs (ticked p c x) (views_after p c views x) answered.1 fitting.1 next)

    -- ticks of the setup alone
    pub setup_runs : (n : ℕ) (c : Core) (views : List View) → AreAnswered p c (replicate n (quiet 0)) → AreFitting p c (replicate n (quiet 0)) → (t : IsStoried false c views) → ((e : Event) → In e t.events → e.client ≡ 0)
        → (g : Goes false (replicate n (quiet 0)) c views t) × ((e : Event) → In e g.after.events → e.client ≡ 0)
    unfolding then_goes
    setup_runs zero c views answered fitting t alone = (record { after = t; losses = λ k m. inl m; kept = λ e m. m; made = λ e m. inl m }, alone)
    setup_runs (suc n) c views answered fitting t alone = let x : Moment = quiet 0 in let g = tick_story p clients are false c views t.events t.lost t.sound t.story (quiet 0) answered.0 (inr (refl, alone)) in
        let next : IsStoried false (ticked p c (quiet 0)) (views_after p c views (quiet 0)) = record { events = g.events; lost = g.lost; sound = sound_ticks p retries_go c views (quiet 0) t.sound answered.0 fitting.0; story = g.told } in
        let r = setup_runs n (ticked p c (quiet 0)) (views_after p c views (quiet 0)) answered.1 fitting.1 next (λ e m. ⊎_elim (λ o. alone e o) (λ o. o.0) (g.fresh e m)) in
        (then_goes false (quiet 0) (replicate n (quiet 0)) c views t next g.losses g.kept (λ e m. ⊎_elim (λ o. inl o) (λ o. inr (inl o.1)) (g.fresh e m)) r.0, r.1)

  -- ## Where the setup is over

  rests : (over : Bool) (c : Core) (views : List View) (t : IsStoried over c views) → (k : ℕ) → IsAtRest c k → (seat : SeatState) → get_elem? c.seats k ≡ some seat → seat.program ≡ Rest
  rests over c views t k rest seat at = at_end seat.program (t.story.ready k seat at) (sym (ap (λ o. elim o as (λ o. std.Option Kind) [ none ↦ None | some x ↦ kind_in x.program ]) at) ∙ rest)

  -- seat 0 has no tasks left
  set_up_seat : (calls : ℕ → Type 0) (es : List Event) (lost : List ℕ) (os : List (std.Option Outcome)) (i : ℕ) (tasks : List Task) (program : Program) (v : View) → (i ≡ 0 → program ≡ Rest) → SeatStory p calls false es lost os i tasks program v → SeatStory p calls true es lost os i tasks program v
  set_up_seat calls es lost os i tasks program v rest y = record {
    way = y.way;
    trace = y.trace;
    done = y.done;
    todo = y.todo;
    at = record {
      set_up = λ e zero_. subst (ExplainsBy p.slots p.requests calls y.way lost y.done y.trace y.todo) (rest zero_) y.at.explains;
      closes = y.at.closes;
      traced = y.at.traced;
      all = y.at.all;
      became = y.at.became;
      unsaid = y.at.unsaid;
      kept = y.at.kept;
      past = y.at.past;
      explains = y.at.explains;
      holding = y.at.holding;
      linked = y.at.linked;
      claims = y.at.claims;
      made = y.at.made;
      lists = y.at.lists;
      are_made = y.at.are_made;
      of_calls = y.at.of_calls;
    };
  }

  pub set_up_over : (c : Core) (views : List View) (t : IsStoried false c views) → IsAtRest c 0 → (s : IsStoried true c views) × (s.events ≡ t.events) × (s.lost ≡ t.lost)
  set_up_over c views t rest = (
    record {
      events = t.events;
      lost = t.lost;
      sound = t.sound;
      story = record {
        sized = t.story.sized;
        each = t.story.each;
        ready = t.story.ready;
        good = t.story.good;
        births = t.story.births;
        links = t.story.links;
        fails = t.story.fails;
        lost = t.story.lost;
        tries = t.story.tries;
        named = t.story.named;
        used = t.story.used;
        spoken = t.story.spoken;
        seats = λ i tasks seat v a b d. set_up_seat (IsSpoken clients) t.events t.lost c.outcomes i tasks seat.program v (λ zero_. rests false c views t 0 rest seat (subst (λ z. get_elem? c.seats z ≡ some seat) zero_ b)) (t.story.seats i tasks seat v a b d);
      };
    },
    refl,
    refl,
  )

  -- ## The ending

  closing_at : (es : List Event) (lost : List ℕ) (os : List (std.Option Outcome)) (tasks : List Task) (v : View) (y : SeatStory p (IsSpoken clients) true es lost os 0 tasks Rest v) → y.todo ≡ [] → SeatAt p (IsSpoken clients) true es lost os 0 tasks Closing [] y.done [] Rest v
  closing_at es lost os tasks v y none_ = let s = y.at in record { set_up = λ e zero_. refl; closes = λ e. inl refl; traced = (refl, refl); all = s.all ∙ ap (undo y.done) none_; became = s.became; unsaid = tt; kept = s.kept; past = λ e m q. tt; explains = refl; holding = λ i h. omega arith; linked = λ i h k m. absurd m; claims = no_claims es v.claims; made = s.made; lists = s.lists; are_made = subst (λ ts. AreMadeNow es 0 y.done ts (of_sends s.made)) none_ s.are_made; of_calls = s.of_calls }

  -- seat 0 closes the sockets of these `open`s
  pub ending_story : (c : Core) (views : List View) (es : List Event) (lost : List ℕ) (os : List ℕ) → Sound p c views → Story p clients true c views es lost → (seat : SeatState) (v : View) → get_elem? c.seats 0 ≡ some seat → seat.program ≡ Rest → get_elem? views 0 ≡ some v
      → Story p clients true (with_seat 0 (ending_of os) [] c.words c.homes c) views es lost
  ending_story c views es lost os sound story seat v at rest here = let a = get_of c.seats clients 0 seat story.each at in
      let y : SeatStory p (IsSpoken clients) true es lost c.outcomes 0 a.0 Rest v = subst (λ q. SeatStory p (IsSpoken clients) true es lost c.outcomes 0 a.0 q v) rest (story.seats 0 a.0 seat v a.1 at here) in
      subst (λ us. Story p clients true (with_seat 0 (ending_of os) [] c.words c.homes c) us es lost) (set_again views 0 v here)
      (moved p clients are true c views es lost sound story 0 seat v a.0 at here a.1 c.calls story.spoken Closing [] y.done [] Rest (ending_of os) [] c.homes v.rights lost (λ k m. m)
      (ending_explains p.slots p.requests (IsSpoken clients) lost y.done [] os) (closing_at es lost c.outcomes a.0 v y (y.at.set_up refl refl)))

  -- and then what isn't there any more ends each reading
  pub is_ending_story : (c : Core) (views : List View) (es : List Event) (lost : List ℕ) → Story p clients true c views es lost → Story p clients true (is_ending c) views es lost
  is_ending_story c views es lost s = record { sized = s.sized; each = s.each; ready = s.ready; good = s.good; births = s.births; links = s.links; fails = s.fails; lost = s.lost; tries = s.tries; named = s.named; used = s.used; spoken = s.spoken; seats = s.seats }
