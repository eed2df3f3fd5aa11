-- What holds of a machine still holds behind a step.
use Rattle.std.proofs.Common.{◌≡◌, ◌≢◌, refl, ℕ, ◌+◌, ◌*◌, ◌<◌, ◌≤◌, ◌⊎◌, inl, inr, ⊎_elim, true, false, List, length, slice_set, Some, ap, ap₂, sym, ◌∙◌, arith, subst}
use Rattle.std.proofs.lemmas.Bool.{true≢false}
use Rattle.std.proofs.Props.{props}
use Rattle.std.proofs.Math.Logic.{∥∥₁_elim}
use Rattle.atomic_table.proofs.Lists.{at_set, set_here, set_else}
use mathlib.Core.Option as core
use lib.ListN.{get_elem?}
use Rattle.sock_words.specs.declared.plain.Plan.{Plan}
use Rattle.corr_core.specs.declared.marks.Plan.{Plan as IdPlan}
use Rattle.corr_core.proofs.NoteSums.{at_length}
use Rattle.sock_io.specs.declared.link.Put.{Put}
use Rattle.sock_io.specs.declared.link.Ready.{Ready}
use Rattle.sock_io.specs.declared.link.Ready.TheVariants as asks
use Rattle.sock_io.specs.LinkHalves.{OutState}
use Rattle.sock_model.specs.declared.view.View.{View}
use Rattle.seat_programs.specs.declared.task.Sizes.{Sizes}
use Rattle.seat_programs.specs.ClientProgram.{HeldLife}
use Rattle.seat_programs.specs.LoopHeads.{Retry}
use Rattle.seat_programs.specs.TableSteps as calls
use Rattle.seat_programs.specs.Writings as heads
use Rattle.seat_programs.specs.Programs.{Program, PutBytes, AskReady, Write}
use Rattle.seat_programs.specs.Cores.{Core, SeatState, found_at, next_step, resolved}
use Rattle.seat_programs.specs.StepTables.{word_of}
use Rattle.seat_programs.specs.Ticks.{Answer, Unasked, OfPut, OfReady, OfTake, Moment, ticked, waits}
use Rattle.seat_programs.specs.ScheduledRuns.{IsAtRest}
use Rattle.machine_model.specs.program_steps.specs.ProgramGoesOn.{GoesOn}
use Rattle.machine_model.specs.program_steps.specs.TicksLeftAtMost.{Lasts}
use Rattle.machine_model.specs.program_steps.specs.SoundSeats.{Sound, AreFew, HasLink, IsAhead, views_after}
use Rattle.machine_model.specs.sock_runs.proofs.AllowedNextSteps.{view_there}
use Rattle.machine_model.specs.sock_runs.proofs.SoundAlongRuns.{ticked_ahead}
use Rattle.machine_model.specs.sock_runs.proofs.LinkTicks.{link_asked_there}
use Rattle.machine_model.specs.sock_runs.proofs.FewAcceptedMessages.{few_lasts}
use Rattle.machine_model.specs.sock_runs.proofs.TicksOfWaitingSeats.{waits_still}
use Rattle.machine_model.specs.runs_end.proofs.HeadMoves.{calls_last}
use Rattle.machine_model.specs.run_theorems.specs.Below.programs_allowed.proofs.RetryAllowed.{retries_go}
use Rattle.machine_model.specs.id_runs.specs.HeldIdTokens.{IdView}
use Rattle.machine_model.specs.id_runs.specs.Goes.{SoundIds}
use Rattle.machine_model.specs.run_theorems.specs.Below.joint_runs.proofs.BothTablesSound.{BothSound, FitsBoth, fits_both, joint_ticks}
use Rattle.call_points.specs.AsideCodeSteps.{after_word}
use Rattle.seat_states.specs.ProgramAtPoint.{Context, after_put, after_ready}
use Rattle.seat_states.specs.ProgramStepsOfMachine.{First, OfTable, OfAside, OfMessage, OfLink, OfHome, first_in}
use Rattle.seat_states.specs.ProgramStepsOfMachine as kinds
use Rattle.seat_states.proofs.StepFacts as facts
use Rattle.client_seats.specs.ClientSeatState.{SeatData, around, seat_program}
use Rattle.machine_model.specs.MachineLinks.{LinksData, Taken, Given, Agrees, AgreesGave, IsPaced, holder_of}
use Rattle.machine_model.specs.Machines.{MachineState, IsSoundMachine, ArePaced, MOST_LEFT, table_of, machine_sizes, state_of, core_with, IsSized}
use Rattle.machine_model.specs.MachineSteps.{OutsAfter, SameBase, Goes, MadeFirst}
use Rattle.seat_states.specs.declared.point.Step.{Step}
use Rattle.machine_model.proofs.FirstSteps.{same_some}
use Rattle.machine_rules.proofs.HolderOfLink.{only_of}
use Rattle.machine_rules.proofs.Paces.{calm_paced, IsCalm, goes_calm, ends_calm, behind_word, behind_aside, behind_message, behind_link, behind_home, behind_put, behind_ready}
use Rattle.machine_rules.proofs.Seatings.{seat_at}
use Rattle.machine_rules.proofs.Ticked.{MayCall, MayMake, SteppedWith}

-- ## Who is paced by which link

-- a seat at a put, or before one, has the link in hand
abbrev IsWriter : LinksData → ℕ → Program → Type 0
IsWriter l j (Write (heads.Puts h now heading left taken asked) after) = holder_of l h.link ≡ Some j
IsWriter l j (Write (heads.Waits h now heading left taken) after) = holder_of l h.link ≡ Some j
IsWriter l j (PutBytes k asked bytes next) = holder_of l k ≡ Some j
IsWriter l j other = Unit {0}

writer_prop : (l : LinksData) (j : ℕ) (program : Program) → IsProp (IsWriter l j program)
writer_prop l j (Write (heads.Puts h now heading left taken asked) after) = hlevel props
writer_prop l j (Write (heads.Waits h now heading left taken) after) = hlevel props
writer_prop l j (Write (heads.Empties h) after) = hlevel props
writer_prop l j (Write (heads.Reversing h top at after) then_) = hlevel props
writer_prop l j (PutBytes k asked bytes next) = hlevel props
writer_prop l j _ = hlevel props

module _ (m : MachineState) (sized : IsSized (table_of m)) (s : IsSoundMachine m) (j : ℕ) (seat : SeatData) (at : get_elem? m.seats j ≡ core.some seat) where
  abbrev own : SeatState
  own = state_of m.plan m.links s.took (seat_program (machine_sizes m) seat) j

  abbrev before : Core
  before = core_with m s.took s.gave

  own_at : get_elem? before.seats j ≡ core.some own
  own_at = seat_at m s.took j seat at

  holds : (k : ℕ) → HasLink m.plan own k → holder_of m.links k ≡ Some j
  holds k has = (only_of m.links s.took j m.plan.links sized.holders_are k has.1.0 has.1.1 false has.1.2).1.0

  module _ (v : View) (at_view : get_elem? s.views j ≡ core.some v) where
    asked_there : (k : ℕ) (next : Ready → Program) → GoesOn m.plan v (AskReady k next) → HasLink m.plan own k
    asked_there k next goes = link_asked_there m.plan (retries_go m.plan s.sound.limits.requests) before s.views s.sound j own v own_at at_view k next goes

    writer_by : (program : Program) → GoesOn m.plan v program → IsWriter m.links j program
    writer_by (Write (heads.Puts h now heading left taken asked) after) goes = let r = goes.0.0 in let w = goes.0.1 in
        holds h.link (asked_there h.link (λ answer. Write (heads.Puts h now heading left taken asked) after) ((r, (w.one, w.link, w.away, w.hands)), λ answer. goes))
    writer_by (Write (heads.Waits h now heading left taken) after) goes = let r = goes.0.0 in let w = goes.0.1 in
        holds h.link (asked_there h.link (λ answer. Write (heads.Waits h now heading left taken) after) ((r, (w.one, w.link, w.away, w.hands)), λ answer. goes))
    writer_by (Write (heads.Empties h) after) goes = tt
    writer_by (Write (heads.Reversing h top place after) then_) goes = tt
    writer_by (PutBytes k asked bytes next) goes = holds k (asked_there k (λ answer. PutBytes k asked bytes next) ((goes.0.0, goes.0.1), λ answer. goes))
    writer_by _ goes = tt

  is_writer : IsWriter m.links j own.program
  is_writer = let v = view_there before.seats s.views j own s.sound.each own_at (get_elem? s.views j) refl in writer_by v.0 v.1 own.program (s.sound.seats j own v.0 own_at v.1).goes_on

-- a writer of another link stays paced
still_paced : (l : LinksData) (j : ℕ) (outs : List OutState) (k : ℕ) → holder_of l k ≢ Some j → ((x : ℕ) → x ≢ k → get_elem? outs x ≡ get_elem? l.outs x) → (program : Program) → IsWriter l j program → IsPaced l.outs program → IsPaced outs program
still_paced l j outs k differ kept (Write (heads.Puts h now heading left taken asked) after) writer paced = λ e out at. paced e out (sym (kept h.link (λ q. differ (ap (holder_of l) (sym q) ∙ writer))) ∙ at)
still_paced l j outs k differ kept (Write (heads.Waits h now heading left taken) after) writer paced = λ out at. paced out (sym (kept h.link (λ q. differ (ap (holder_of l) (sym q) ∙ writer))) ∙ at)
still_paced l j outs k differ kept (Write (heads.Empties h) after) writer paced = tt
still_paced l j outs k differ kept (Write (heads.Reversing h top place after) then_) writer paced = tt
still_paced l j outs k differ kept (PutBytes x asked bytes next) writer paced = λ e out at. paced e out (sym (kept x (λ q. differ (ap (holder_of l) (sym q) ∙ writer))) ∙ at)
still_paced l j outs k differ kept _ writer paced = tt

-- ## All are paced

-- no writing half changed but that of a link in hand of seat i
abbrev pub OutsKept : LinksData → ℕ → List OutState → Type 0
OutsKept l i outs = (outs ≡ l.outs) ⊎ ((k : ℕ) × (out' : OutState) × (holder_of l k ≡ Some i) × (outs ≡ slice_set l.outs k out'))

-- what a step on a word makes of the writing halves
pub kept_by : (p : Plan) (l : LinksData) (i : ℕ) (outs : List OutState) (call : calls.TableStep) → MayCall p l i call → OutsAfter call l.outs outs → OutsKept l i outs
kept_by p l i outs (calls.OnLink (calls.FinishLink k)) may after = inr (k, after.1, may.1.0, after.3)
kept_by p l i outs _ may after = inl after

looked : (l : LinksData) (outs : List OutState) (call : calls.TableStep) (id : ℕ) → call ≡ calls.OnSlot (calls.LookWord id) → OutsAfter call l.outs outs → outs ≡ l.outs
looked l outs call id e after = subst (λ (x : calls.TableStep). OutsAfter x l.outs outs) e after

module _ (old : MachineState) (sized : IsSized (table_of old)) (paced : ArePaced (machine_sizes old) old.links old.seats) (sound : ∥ IsSoundMachine old ∥₁) where
  -- whoever isn't the seat of the step stays paced
  other_paced : (i : ℕ) (outs : List OutState) → OutsKept old.links i outs → (j : ℕ) → j ≢ i → (s : SeatData) → get_elem? old.seats j ≡ core.some s → IsPaced outs (seat_program (machine_sizes old) s)
  other_paced i outs (inl same) j differ s there = subst (λ os. IsPaced os (seat_program (machine_sizes old) s)) (sym same) (paced j s there)
  other_paced i outs (inr w) j differ s there =
      still_paced old.links j outs w.0 (λ e. differ (sym (same_some (sym w.2 ∙ e))))
      (λ x q. ap (λ (os : List OutState). get_elem? os x) w.3 ∙ set_else old.links.outs w.0 x w.1 q)
      (seat_program (machine_sizes old) s) (∥∥₁_elim sound (writer_prop old.links j (seat_program (machine_sizes old) s)) (λ m. is_writer old sized m j s there)) (paced j s there)

  -- behind a step of a reader all clients do
  pub readers_paced : (fresh : MachineState) (i : ℕ) → length old.seats ≤ i → machine_sizes fresh ≡ machine_sizes old → fresh.seats ≡ old.seats → OutsKept old.links i fresh.links.outs → ArePaced (machine_sizes fresh) fresh.links fresh.seats
  readers_paced fresh i past sizes seats kept j s there = let here : get_elem? old.seats j ≡ core.some s = sym (ap (λ (ss : List SeatData). get_elem? ss j) seats) ∙ there in let low = at_length old.seats j s here in
      subst (λ (z : Sizes). IsPaced fresh.links.outs (seat_program z s)) (sym sizes) (other_paced i fresh.links.outs kept j (λ e. omega (arith, e, low, past)) s here)

  module _ (fresh : MachineState) (i : ℕ) (seat seat' : SeatData) (at : get_elem? old.seats i ≡ core.some seat) (seats : fresh.seats ≡ slice_set old.seats i seat') where
    abbrev program : Program
    program = seat_program (machine_sizes old) seat

    abbrev a : Context
    a = around (machine_sizes old) seat

    -- how it goes on behind its next step
    abbrev come : Program → Program
    come next = next_step (resolved seat.waiting next)

    all_paced : (next : Program) → Goes (table_of old) (table_of fresh) seat seat' next → OutsKept old.links i fresh.links.outs → IsPaced fresh.links.outs (come next) → ArePaced (machine_sizes fresh) fresh.links fresh.seats
    all_paced next goes kept own j s there = subst (λ (z : Sizes). IsPaced fresh.links.outs (seat_program z s)) (sym (same_sizes goes.base)) (⊎_elim
        (λ t. subst (λ (x : SeatData). IsPaced fresh.links.outs (seat_program (machine_sizes old) x)) t.1 (subst (IsPaced fresh.links.outs) (sym goes.program) own))
        (λ t. other_paced i fresh.links.outs kept j t.0 s t.1)
        (at_set old.seats i j seat' s (sym (ap (λ (ss : List SeatData). get_elem? ss j) seats) ∙ there)))
      where
        same_sizes : SameBase (table_of old) (table_of fresh) → machine_sizes fresh ≡ machine_sizes old
        same_sizes base = ap₂ (λ p q. (record { slots = p.slots; requests = p.requests; ids = q.slots })) base.plan base.id_plan

    same_call : {x y : calls.TableStep} → OfTable x ≡ OfTable y → x ≡ y
    same_call e = cc

    going : (hs : List HeldLife) (w : List Retry) → IsCalm (next_step (resolved w (a.goes_on hs)))
    going = goes_calm (machine_sizes old) seat

    ends : (w : List Retry) → IsCalm (next_step (resolved w a.ends))
    ends = ends_calm (machine_sizes old) seat

    -- what lies where it was written
    out_is : (k : ℕ) (o o' : OutState) → get_elem? old.links.outs k ≡ core.some o → fresh.links.outs ≡ slice_set old.links.outs k o' → (out : OutState) → get_elem? fresh.links.outs k ≡ core.some out → o' ≡ out
    out_is k o o' before are out there = core.some-injective o' out (sym (set_here old.links.outs k o' (at_length old.links.outs k o before)) ∙ sym (ap (λ (os : List OutState). get_elem? os k) are) ∙ there)

    pub made_paced : (step : Step) (first : First) (answer : Answer) → first_in program ≡ Some first → MayMake old.plan old.links i first → MadeFirst (table_of old) (table_of fresh) i seat seat' step first answer → ArePaced (machine_sizes fresh) fresh.links fresh.seats
    made_paced step (OfTable call) answer next may made = let w = made.1 in let found : ℕ = found_at old.words (word_of old.plan call) in
        all_paced (after_word program found) w.goes (kept_by old.plan old.links i fresh.links.outs call may w.outs) (⊎_elim
        (λ calm. calm_paced fresh.links.outs (come (after_word program found)) calm)
        (λ t. let e : call ≡ calls.OnSlot (calls.LookWord t.1.0) = same_call (same_some (sym next ∙ t.1.1)) in subst (λ os. IsPaced os (come (after_word program found))) (sym (looked old.links fresh.links.outs call t.1.0 e w.outs)) (t.0 old.links.outs (paced i seat at)))
        (behind_word a going ends seat.waiting seat.point found (facts.goes_by_word a seat.point call next)))
    made_paced step (OfAside aside) answer next may made = let w = made.1 in
        all_paced (w.next w.found) w.goes (inl (ap (λ (l : LinksData). l.outs) w.links)) (calm_paced fresh.links.outs _ (behind_aside a going ends seat.point aside w.next w.is w.found seat.waiting))
    made_paced step (OfMessage q) answer next may made = let w = made.1 in
        all_paced _ w.goes (inl (ap (λ (l : LinksData). l.outs) w.links)) (calm_paced fresh.links.outs _ (behind_message a seat.waiting seat.point w.letter.author _ _ (facts.takes_message a seat.point q next).0))
    made_paced step (OfLink k) answer next may made = let w = made.1 in
        all_paced _ w.goes (inl (ap (λ (l : LinksData). l.outs) w.links)) (calm_paced fresh.links.outs _ (behind_link a seat.waiting seat.point _ (facts.takes_link a seat.point k next).0))
    made_paced step (OfHome k n) answer next may made = let w = made.1 in
        all_paced _ w.goes (inl (ap (λ (l : LinksData). l.outs) w.links)) (calm_paced fresh.links.outs _ (behind_home a seat.waiting seat.point (facts.puts_home a seat.point k n next).0))
    made_paced step (kinds.OfPut k asked bytes) answer next may made = let put : Put = made.0 in let w = made.2 in let x = w.asked in
        all_paced (after_put program put) w.goes (inr (k, x.out', may.1.0, x.outs_are)) (behind_put a seat.waiting seat.point fresh.links.outs k asked bytes put (facts.puts_piece a seat.point k asked bytes next).0 next
        (λ again out there. subst (λ (o : OutState). o.again ≡ true) (out_is k x.out x.out' x.at x.outs_are out there) (x.answered.last.0 again)))
    made_paced step (kinds.OfReady k) answer next may made = let ready : Ready = made.0 in let w = made.2 in let x = w.asked in
        all_paced (after_ready program ready) w.goes (inr (k, x.out', may.1.0, x.outs_are)) (behind_ready a seat.waiting seat.point old.links.outs fresh.links.outs k ready (facts.asks a seat.point k next).0 next (paced i seat at)
        (λ now refused out there. subst (λ (o : OutState). o.clear ≡ true) (out_is k x.out x.out' x.at x.outs_are out there) (x.answered.now now (refused x.out x.at)))
        (λ yet refused out there. subst (λ (o : OutState). o.again ≡ true) (out_is k x.out x.out' x.at x.outs_are out there) (x.answered.again ∙ refused x.out x.at)))

-- ## A step

prompt_or : (answer : Answer) → (answer ≢ OfReady asks.NotYet) ⊎ (answer ≡ OfReady asks.NotYet)
prompt_or Unasked = inl (λ e. cc)
prompt_or (OfPut put) = inl (λ e. cc)
prompt_or (OfReady asks.Now) = inl (λ e. cc)
prompt_or (OfReady asks.NotYet) = inr refl
prompt_or (OfReady asks.Failed) = inl (λ e. cc)
prompt_or (OfTake taking) = inl (λ e. cc)

-- a machine whose core is this
pub remade : (fresh : MachineState) (p : Plan) (q : IdPlan) (c : Core) (later : Taken) (later_gave : Given) (views : List View) (id_views : List IdView) (left : ℕ) → fresh.plan ≡ p → fresh.ids.plan ≡ q → Agrees fresh.links later → AgreesGave fresh.links later_gave → core_with fresh later later_gave ≡ c →
    IsAhead c → Sound p c views → SoundIds p q c id_views → AreFew views → Lasts p c views left → left + 20 * length fresh.opens < MOST_LEFT → (m : IsSoundMachine fresh) × (m.left ≡ left)
remade fresh p q c later later_gave views id_views left plan id_plan agrees agrees_gave core ahead sound ids few lasts bounded = (
  record {
    took = later;
    gave = later_gave;
    agrees = agrees;
    agrees_gave = agrees_gave;
    ahead = subst IsAhead (sym core) ahead;
    views = views;
    sound = subst (λ (x : Plan). Sound x (core_with fresh later later_gave) views) (sym plan) (subst (λ (x : Core). Sound p x views) (sym core) sound);
    id_views = id_views;
    ids = subst (λ (x : Plan). SoundIds x fresh.ids.plan (core_with fresh later later_gave) id_views) (sym plan)
        (subst (λ (x : IdPlan). SoundIds p x (core_with fresh later later_gave) id_views) (sym id_plan) (subst (λ (x : Core). SoundIds p q x id_views) (sym core) ids));
    few = few;
    left = left;
    lasts = subst (λ (x : Plan). Lasts x (core_with fresh later later_gave) views left) (sym plan) (subst (λ (x : Core). Lasts p x views left) (sym core) lasts);
    bounded = bounded;
  },
  refl,
)

-- the machine is sound behind a tick, and has no more ticks left; it has fewer where the seat doesn't wait
pub record Keeps (old fresh : MachineState) (s : IsSoundMachine old) (m : Moment) : Type 0 where
  pub sound : IsSoundMachine fresh
  pub no_more : sound.left ≤ s.left
  pub fewer : waits old.plan (core_with old s.took s.gave) m ≡ false → sound.left < s.left

module _ (old fresh : MachineState) (i : ℕ) (answer : Answer) (plan : fresh.plan ≡ old.plan) (id_plan : fresh.ids.plan ≡ old.ids.plan) (opens : fresh.opens ≡ old.opens) (few_slots : old.ids.plan.slots ≤ 4096) (operations : old.ids.plan.operations ≡ old.plan.operations)
    (s : IsSoundMachine old) (tick : SteppedWith old fresh i answer s.took s.gave) where
  abbrev moment : Moment
  moment = record { seat = i; answer = answer }

  abbrev c : Core
  c = core_with old s.took s.gave

  many : length fresh.opens ≡ length old.opens
  many = ap length opens

  both : BothSound old.plan old.ids.plan c s.views
  both = record { sockets = s.sound; id_views = s.id_views; ids = s.ids }

  narrow : old.ids.plan.slots ≤ 65536
  narrow = omega (arith, few_slots)

  fits : FitsBoth old.plan c moment
  fits = fits_both old.plan old.ids.plan narrow operations c s.views moment both tick.answered

  still : waits old.plan c moment ≡ true → Keeps old fresh s moment
  still is = let r = remade fresh old.plan old.ids.plan c tick.later tick.later_gave s.views s.id_views s.left plan id_plan tick.agrees tick.agrees_gave (tick.core ∙ waits_still old.plan c s.views moment s.sound s.ahead tick.answered is) s.ahead s.sound s.ids s.few s.lasts (let b = s.bounded in omega (arith, b, many)) in let same = r.1 in record {
    sound = r.0;
    no_more = omega (arith, same);
    fewer = λ waits_not. absurd (true≢false (sym is ∙ waits_not));
  }

  moved : (k : ℕ) → k < s.left → Lasts old.plan (ticked old.plan c moment) (views_after old.plan c s.views moment) k → Keeps old fresh s moment
  moved k less lasts = let b = s.bounded in let next = joint_ticks old.plan old.ids.plan narrow operations c s.views moment both tick.answered in
      let r = remade fresh old.plan old.ids.plan (ticked old.plan c moment) tick.later tick.later_gave (views_after old.plan c s.views moment) next.id_views k plan id_plan tick.agrees tick.agrees_gave tick.core (ticked_ahead old.plan c moment s.ahead)
      next.sockets next.ids (few_lasts old.plan c s.views moment s.left s.sound tick.answered fits.fitting s.lasts (omega (arith, b)) s.few) lasts (omega (arith, less, b, many)) in let same = r.1 in record {
        sound = r.0;
        no_more = omega (arith, less, same);
        fewer = λ waits_not. omega (arith, less, same);
      }

  few_seats : length c.seats ≤ 64
  few_seats = let few = s.few.few_seats in let each = s.sound.each in omega (arith, few, each)

  pub step_keeps : (IsAtRest c i → ⊥) → (answer ≡ OfReady asks.NotYet → waits old.plan c moment ≡ true) → Keeps old fresh s moment
  step_keeps rests_not yet_waits = ⊎_elim
      (λ always_ready. ⊎_elim (λ t. ⊎_elim (λ rest. absurd (rests_not rest)) still t) (λ t. moved t.0 t.1 t.2)
      (calls_last old.plan (retries_go old.plan s.sound.limits.requests) c s.views moment s.left s.sound tick.answered always_ready fits.fitting fits.counted few_seats s.lasts))
      (λ yet. still (yet_waits yet))
      (prompt_or answer)
