-- A step of a seat is a tick of the machine, which stays one, and has one tick less left if the seat moved.
use Rattle.std.proofs.Common.{◌≡◌, refl, ℕ, ◌+◌, ◌*◌, ◌<◌, ◌≤◌, inl, Bool, true, false, [], ◌∷◌, append-nil, length, Option, Some, None, ap, ap₂, sym, ◌∙◌, arith, subst}
use Rattle.std.proofs.Props.{props}
use Rattle.std.proofs.Math.Logic.{∥∥₁_elim}
use Rattle.std.proofs.lemmas.Option.{none-some}
use mathlib.Core.Option as core
use lib.ListN.{get_elem?}
use Rattle.sock_words.specs.declared.kind.Kind.{Kind}
use Rattle.sock_words.specs.declared.plain.Plan.{Plan}
use Rattle.sock_io.specs.declared.link.Ready.TheVariants as asks
use Rattle.seat_programs.specs.Asides as asides
use Rattle.seat_programs.specs.LoopHeads.{Head, Exit, Locks}
use Rattle.seat_programs.specs.Writings as heads
use Rattle.seat_programs.specs.Programs.{Program, Write, Round}
use Rattle.seat_programs.specs.Cores.{Core, SeatState}
use Rattle.seat_programs.specs.Ticks.{Answer, Unasked, OfPut, OfReady, OfTake, Moment, waits_at, waits, broken_at}
use Rattle.seat_programs.specs.ScheduledRuns.{kind_in, next_kind, IsAtRest}
use Rattle.machine_model.specs.program_steps.specs.SoundSeats.{IsAhead}
use Rattle.machine_model.specs.sock_runs.proofs.SoundAlongRuns.{seat_rests}
use Rattle.machine_model.specs.run_theorems.specs.Heard.{heard_at}
use Rattle.call_points.specs.declared.aside.Aside.{Aside as AsideStep}
use Rattle.call_points.specs.declared.aside.Aside.TheVariants as code
use Rattle.call_points.specs.AsideCodeSteps as aside_steps
use Rattle.seat_states.specs.declared.point.Step.{Step}
use Rattle.seat_states.specs.declared.point.Step.TheVariants as firsts
use Rattle.seat_states.specs.ProgramStepsOfMachine.{First, OfTable, OfAside, step_as, first_in}
use Rattle.seat_states.specs.ProgramStepsOfMachine as kinds
use Rattle.client_seats.specs.ClientSeatState.{around, seat_program, asked_or_nothing}
use Rattle.reader_points.specs.declared.point.ReadStep.{ReadStep}
use Rattle.reader_points.specs.declared.point.ReadStep.TheVariants as steps
use Rattle.reader_points.specs.ReaderCodeSteps as reader_steps
use Rattle.reader_seats.specs.ReaderState.{reader_program}
use Rattle.machine_model.specs.declared.tick.Tick.{Tick}
use Rattle.machine_model.specs.declared.tick.Tick.TheVariants.{Moved, Waits, Idle}
use Rattle.machine_model.specs.MachineLinks.{LinksData, Taken, Given, Agrees, AgreesGave}
use Rattle.machine_model.specs.Machines.{MachineState, READERS, IsMachine, IsSoundMachine, HasSizes, KeepsClosed, AreCalled, ArePaced, table_of, machine_sizes, state_of, core_with, IsSized}
use Rattle.machine_model.specs.MachineSteps.{AsMany, NextIs, FitsSlots, SameBase, MadeFirst}
use Rattle.machine_model.specs.ReadingSteps.{SameTables, NextReadIs, MadeRead, TickRead}
use Rattle.machine_model.specs.TickAnswersOfStep.{TickTold, Tells, is_waiting}
use Rattle.machine_model.specs.MachineRuns.{SameTable, SameLinks, ShowFaults, TickIs, Follows, Ticked}
use Rattle.machine_model.specs.Driving.{Leaves}
use Rattle.machine_ticks.proofs.LinksBehindSteps.{AsksUnfinished, made_links, made_prompt, made_broken, made_told}
use Rattle.machine_rules.proofs.CallWords.{called_behind}
use Rattle.machine_ticks.proofs.ClosedWhereFinished.{made_closes, made_closed, read_links, read_closes, read_closed}
use Rattle.machine_ticks.proofs.Offering.{made_offers, made_offering, read_offers, read_offering}
use Rattle.machine_ticks.proofs.Shapes.{made_shapes, made_shaped, read_shapes, read_shaped}
use Rattle.machine_ticks.proofs.MachineStepFitting.{paced_prop, client_next, client_may, client_asks, client_takes, client_slots, reader_next, reader_may, reader_slots}
use Rattle.machine_ticks.proofs.JoiningRuns.{tells_as}
use Rattle.machine_rules.proofs.MachineKeeping.{OutsKept, Keeps, kept_by, readers_paced, made_paced, step_keeps}
use Rattle.machine_model.proofs.MachineLengths.{as_many, sizes_kept, is_sized, few_seats, few_slots, operations_are}
use Rattle.machine_model.proofs.PointFacts.{NoTake}
use Rattle.machine_ticks.proofs.ReadLengths.{read_prompt, read_many, read_same, read_sizes}
use Rattle.machine_rules.proofs.ReadTicks.{MayRead, reads_by}
use Rattle.machine_rules.proofs.Seatings.{seat_at, read_at}
use Rattle.machine_ticks.proofs.Takings.{made_taken, made_takes, read_broken, read_told, read_taken, read_takes}
use Rattle.machine_model.proofs.Tellings.{ready_waits}
use Rattle.machine_rules.proofs.Ticked.{MayMake, SteppedWith, steps_by}
use Rattle.corr_core.proofs.NoteSums.{at_length}

pub is_paced : (m : MachineState) (room : ℕ) → IsMachine m room → m.short ≡ false → ArePaced (machine_sizes m) m.links m.seats
is_paced m room is enough = ∥∥₁_elim (is.paced enough) (paced_prop (machine_sizes m) m.links m.seats) (λ p. p)

-- ## Waiting

module _ (m : MachineState) (took : Taken) (gave : Given) where
  -- who waits does so by the words, and by whether the run is ending
  head_waits : (head : Head) (next : Exit head → Program) (answer : Answer) → waits_at m.plan (core_with m took gave) answer (Round head next) ≡ is_waiting (table_of m) answer (Round head next)
  head_waits (Locks i sought None) next answer = refl
  head_waits (Locks i sought (Some w)) next answer = refl
  head_waits _ next answer = refl

  pub waits_alike : (program : Program) (answer : Answer) → waits_at m.plan (core_with m took gave) answer program ≡ is_waiting (table_of m) answer program
  waits_alike (Round head next) answer = head_waits head next answer
  waits_alike (Write (heads.Reversing h top at after) then_) answer = refl
  waits_alike (Write (heads.Puts h now heading left taken asked) after) answer = refl
  waits_alike (Write (heads.Empties h) after) answer = refl
  waits_alike (Write (heads.Waits h now heading left taken) after) Unasked = refl
  waits_alike (Write (heads.Waits h now heading left taken) after) (OfPut put) = refl
  waits_alike (Write (heads.Waits h now heading left taken) after) (OfReady asks.Now) = refl
  waits_alike (Write (heads.Waits h now heading left taken) after) (OfReady asks.NotYet) = refl
  waits_alike (Write (heads.Waits h now heading left taken) after) (OfReady asks.Failed) = refl
  waits_alike (Write (heads.Waits h now heading left taken) after) (OfTake taking) = refl
  waits_alike _ answer = refl

  module _ (i : ℕ) (program : Program) (own_at : get_elem? (core_with m took gave).seats i ≡ core.some (state_of m.plan m.links took program i)) (answer : Answer) where
    pub waits_as : waits m.plan (core_with m took gave) (record { seat = i; answer = answer }) ≡ is_waiting (table_of m) answer program
    waits_as = ap (λ (o : core.Option SeatState). elim o as (λ x. Bool) [ core.none ↦ false | core.some s ↦ waits_at m.plan (core_with m took gave) answer s.program ]) own_at ∙ waits_alike program answer

    kind_as : next_kind (core_with m took gave) i ≡ kind_in program
    kind_as = ap (λ (o : core.Option SeatState). elim o as (λ x. Option Kind) [ core.none ↦ None | core.some s ↦ kind_in s.program ]) own_at

    pub tick_is : (t : Tick) → Tells (table_of m) program answer t → TickIs m (core_with m took gave) (record { seat = i; answer = answer }) t
    tick_is (Moved kind) tells = (kind_as ∙ tells.0, waits_as ∙ tells.1)
    tick_is (Waits what) tells = (waits_as ∙ tells.0, (state_of m.plan m.links took program i, own_at, tells.1))
    tick_is Idle tells = absurd tells

    pub rests_not : (ahead : IsAhead (core_with m took gave)) (first : First) → first_in program ≡ Some first → IsAtRest (core_with m took gave) i → ⊥
    rests_not ahead first next rest = none-some first (ap first_in (sym (seat_rests (core_with m took gave) ahead i rest (state_of m.plan m.links took program i) own_at)) ∙ next)

-- ## A step of a seat, whoever has it

module _ (m fresh : MachineState) (room i : ℕ) (program : Program) (answer : Answer) (is : IsMachine m room) (enough : m.short ≡ false) (own_at : (took : Taken) (gave : Given) → get_elem? (core_with m took gave).seats i ≡ core.some (state_of m.plan m.links took program i)) where
  -- it is a tick
  ticks_by : SameTable m fresh → SameLinks m fresh → ((took : Taken) (gave : Given) → Agrees m.links took → AgreesGave m.links gave → Follows m fresh took gave (record { seat = i; answer = answer } ∷ [])) → (tick : Tick) → Tells (table_of m) program answer tick → Ticked m fresh i tick
  ticks_by table links follows tick tells = (
    table,
    links,
    λ took gave agrees agrees_gave. record {
      moment = record { seat = i; answer = answer };
      is_of = refl;
      is = tick_is m took gave i program (own_at took gave) answer tick tells;
      follows = follows took gave agrees agrees_gave;
    },
  )

  module _ (keeps : (s : IsSoundMachine m) → Keeps m fresh s (record { seat = i; answer = answer })) where
    -- the machine stays one
    keeps_by : ∥ HasSizes fresh ∥₁ → fresh.plan ≡ m.plan → ArePaced (machine_sizes fresh) fresh.links fresh.seats → KeepsClosed fresh → AreCalled fresh.ids → IsMachine fresh room
    keeps_by sizes same paced closed called = record {
      sizes = sizes;
      has_room = subst (λ (p : Plan). 8 * p.operations ≤ room) (sym same) is.has_room;
      sound = λ _. ∥∥₁_elim (is.sound enough) (hlevel props) (λ s. ∣ (keeps s).sound ∣₁);
      paced = λ _. ∣ paced ∣₁;
      closed = λ _. closed;
      called = λ _. called;
    }

    -- what such a tick leaves
    fewer_by : (s : IsSoundMachine m) → is_waiting (table_of m) answer program ≡ false → (keeps s).sound.left < s.left
    fewer_by s moves = (keeps s).fewer (waits_as m s.took s.gave i program (own_at s.took s.gave) answer ∙ moves)

    leaves_by : fresh.short ≡ m.short → (t : Tick) → Tells (table_of m) program answer t → Leaves t m fresh
    leaves_by same (Moved kind) tells = λ k lasts. (
      ∥∥₁_elim lasts.1 (hlevel props) (λ s. let a = fewer_by s.0 tells.1 in let b = s.1 in omega (arith, a, b)),
      (same ∙ lasts.0, ∥∥₁_elim lasts.1 (hlevel props) (λ s. let a = fewer_by s.0 tells.1 in let b = s.1 in ∣ ((keeps s.0).sound, omega (arith, a, b)) ∣₁)),
    )
    leaves_by same (Waits what) tells = λ k lasts. (same ∙ lasts.0, ∥∥₁_elim lasts.1 (hlevel props) (λ s. let kept = keeps s.0 in let a = kept.no_more in let b = s.1 in ∣ (kept.sound, omega (arith, a, b)) ∣₁))
    leaves_by same Idle tells = absurd tells

-- ## A step of a client

module _ (m fresh : MachineState) (room i : ℕ) (step : Step) (tick : Tick) (is : IsMachine m room) (enough : m.short ≡ false) (n : NextIs m i step) (w : TickTold m fresh i step tick) where
  abbrev answer : Answer
  answer = w.told.answer

  abbrev moment : Moment
  moment = record { seat = i; answer = answer }

  abbrev program : Program
  program = seat_program (machine_sizes m) w.one

  abbrev first : First
  first = step_as (around (machine_sizes m) w.one) step

  next : first_in program ≡ Some first
  next = client_next m room is enough i w.one w.at step n

  may : MayMake m.plan m.links i first
  may = client_may m room is enough i w.one w.at step n

  unfinished : AsksUnfinished m.links first
  unfinished = client_asks m room is enough i w.one w.at step n

  takes : (aside : asides.Step) → first ≡ OfAside aside → NoTake aside
  takes = client_takes m room is enough i w.one w.at step n

  paced : ArePaced (machine_sizes m) m.links m.seats
  paced = is_paced m room is enough

  made : MadeFirst (table_of m) (table_of fresh) i w.one w.one' step first answer
  made = w.told.makes.is

  base_by : (f : First) → MadeFirst (table_of m) (table_of fresh) i w.one w.one' step f answer → SameBase (table_of m) (table_of fresh)
  base_by (kinds.OfPut k asked bytes) x = x.2.goes.base
  base_by (kinds.OfReady k) x = x.2.goes.base
  base_by _ x = x.1.goes.base

  pub base : SameBase (table_of m) (table_of fresh)
  base = base_by first made

  stepped : (took : Taken) (gave : Given) → Agrees m.links took → AgreesGave m.links gave → SteppedWith m fresh i answer took gave
  stepped took gave agrees agrees_gave = steps_by m fresh i w.one w.one' w.at w.all w.readers (few_seats m is.sizes) (is_sized m is.sizes) (paced i w.one w.at) took agrees gave agrees_gave step answer next may takes made

  own_at : (took : Taken) (gave : Given) → get_elem? (core_with m took gave).seats i ≡ core.some (state_of m.plan m.links took program i)
  own_at took gave = seat_at m took i w.one w.at

  follows : (took : Taken) (gave : Given) → Agrees m.links took → AgreesGave m.links gave → Follows m fresh took gave (moment ∷ [])
  follows took gave agrees agrees_gave = let s = stepped took gave agrees agrees_gave in let c : Core = core_with m took gave in record {
    answered = (s.answered, tt);
    always_ready = λ always_ready. (made_prompt m fresh i w.one w.one' step first answer made always_ready, tt);
    closes = λ tell. made_closes m fresh i w.one w.one' step m.plan c first answer made;
    offers = λ k serve end h. (made_offers m fresh i w.one w.one' step m.plan k serve end c first answer made, made_offering m fresh i w.one w.one' step k serve end h first answer made);
    shapes = λ k shape so_far h.
        let z = is_sized m is.sizes in let own : SeatState = state_of m.plan m.links took program i in (
          made_shapes m fresh i w.one w.one' step k shape so_far h (is.closed enough) z.letters_are z.outs_are (few_seats m is.sizes) took gave agrees own (own_at took gave) first answer made next,
          made_shaped m fresh i w.one w.one' step k shape so_far h m.plan c own (own_at took gave) first answer made next,
        );
    so_far = s.so_far;
    core = s.core;
    shows = record {
      broken = subst (ShowFaults fresh) (sym (append-nil (broken_at c moment))) (made_broken m fresh i c (state_of m.plan m.links took program i) (own_at took gave) w.one w.one' step first answer made next unfinished);
      told = tells_as m fresh _ _ (λ k. sym (append-nil (heard_at c moment k))) (made_told m fresh i c (state_of m.plan m.links took program i) (own_at took gave) w.one w.one' step first answer made next);
      taken = made_taken m fresh i w.one w.one' step m.plan c first answer made s.answered;
      takes = made_takes m fresh i w.one w.one' step m.plan c first answer made s.answered;
    };
  }

  pub told_links : SameLinks m fresh
  told_links = made_links m fresh i w.one w.one' step first answer made

  pub told_table : SameTable m fresh
  told_table = record { plans = base.plans; opens = w.opens }

  -- it is a tick
  pub told_ticks : Ticked m fresh i tick
  told_ticks = ticks_by m fresh room i program answer is enough own_at told_table told_links follows tick w.told.tells

  yet_by : (f : First) → first_in program ≡ Some f → MadeFirst (table_of m) (table_of fresh) i w.one w.one' step f answer → answer ≡ OfReady asks.NotYet → (c : Core) → waits_at m.plan c answer program ≡ true
  yet_by (kinds.OfPut k asked bytes) at x e c = absurd (let f = x.1 in cc)
  yet_by (kinds.OfReady k) at x e c = ap (λ (o : Answer). waits_at m.plan c o program) e ∙ (ready_waits m.plan c (around (machine_sizes m) w.one) w.one.point k at).0
  yet_by _ at x e c = absurd (let f = x.0 in cc)

  keeps : (s : IsSoundMachine m) → Keeps m fresh s moment
  keeps s = step_keeps m fresh i answer base.plan base.id_plan w.opens (few_slots m is.sizes) (operations_are m is.sizes) s (stepped s.took s.gave s.agrees s.agrees_gave)
      (rests_not m s.took s.gave i program (own_at s.took s.gave) answer s.ahead first next)
      (λ e. ap (λ (o : core.Option SeatState). elim o as (λ x. Bool) [ core.none ↦ false | core.some x ↦ waits_at m.plan (core_with m s.took s.gave) answer x.program ]) (own_at s.took s.gave) ∙ yet_by first next made e (core_with m s.took s.gave))

  called_by : (x : Step) → first_in program ≡ Some (step_as (around (machine_sizes m) w.one) x) → MadeFirst (table_of m) (table_of fresh) i w.one w.one' x (step_as (around (machine_sizes m) w.one) x) answer → AreCalled fresh.ids
  called_by (firsts.Aside aside) at x = called_behind (table_of m) (asked_or_nothing w.one.call) aside x.1.found fresh.ids x.1.ids (client_slots m room is enough i w.one w.at aside at) (is.called enough)
  called_by (firsts.PutBytes k asked author) at x = subst AreCalled (sym x.2.ids) (is.called enough)
  called_by (firsts.AskReady k) at x = subst AreCalled (sym x.2.ids) (is.called enough)
  called_by _ at x = subst AreCalled (sym x.1.ids) (is.called enough)

  many : AsMany (table_of m) (table_of fresh)
  many = as_many m fresh i w.one w.one' step first answer made

  pub told_sizes : ∥ HasSizes fresh ∥₁
  told_sizes = ∥∥₁_elim is.sizes (hlevel props) (λ h. ∣ sizes_kept m fresh i w.one' h many base told_links.as_many w.all w.readers w.opens ∣₁)

  -- the machine stays one
  pub told_keeps : IsMachine fresh room
  told_keeps = keeps_by m fresh room i program answer is enough own_at keeps told_sizes base.plan
      (made_paced m (is_sized m is.sizes) paced (is.sound enough) fresh i w.one w.one' w.at w.all step first answer next may made)
      (made_closed m fresh i w.one w.one' step (is.closed enough) (at_length m.seats i w.one w.at) w.all w.readers first answer made) (called_by step next made)

  pub told_leaves : Leaves tick m fresh
  told_leaves = leaves_by m fresh room i program answer is enough own_at keeps w.short tick w.told.tells

  pub told_enough : fresh.short ≡ false
  told_enough = w.short ∙ enough

-- ## A step of a reader

module _ (m fresh : MachineState) (room k : ℕ) (step : ReadStep) (tick : Tick) (is : IsMachine m room) (enough : m.short ≡ false) (n : NextReadIs m k step) (w : TickRead m fresh (READERS + k) k step tick) where
  abbrev i : ℕ
  i = READERS + k

  abbrev given_answer : Answer
  given_answer = w.told.answer

  abbrev read_moment : Moment
  read_moment = record { seat = i; answer = given_answer }

  abbrev reading : Program
  reading = reader_program m.calls w.one

  abbrev begins : First
  begins = reader_steps.step_as w.one.asked step

  read_sized : IsSized (table_of m)
  read_sized = is_sized m is.sizes

  read_few : length m.seats ≤ READERS
  read_few = few_seats m is.sizes

  read_next : first_in reading ≡ Some begins
  read_next = reader_next m room is enough k w.one w.at step n

  read_may : (f : First) → first_in reading ≡ Some f → MayMake m.plan m.links i f
  read_may f at = reader_may m room is enough k w.one w.at f at

  read_paced : ArePaced (machine_sizes m) m.links m.seats
  read_paced = is_paced m room is enough

  read_made : MadeRead (table_of m) (table_of fresh) i w.one w.one' begins given_answer
  read_made = w.told.made

  same : SameTables (table_of m) (table_of fresh)
  same = read_same m fresh i w.one w.one' begins given_answer read_made

  read_stepped : (took : Taken) (gave : Given) → Agrees m.links took → AgreesGave m.links gave → SteppedWith m fresh i given_answer took gave
  read_stepped took gave agrees agrees_gave = reads_by m fresh k w.one w.one' w.at w.seats w.all read_few read_sized took agrees gave agrees_gave step given_answer read_next (by_first begins read_next read_made) read_made
    where
      by_first : (f : First) → first_in reading ≡ Some f → MadeRead (table_of m) (table_of fresh) i w.one w.one' f given_answer → MayRead m fresh k w.one w.one' w.at w.seats w.all read_few read_sized took agrees gave agrees_gave f
      by_first (OfTable call) at x = read_may (OfTable call) at
      by_first (OfAside (asides.TakeBytes j count)) at x = let f = x.2.from in let low = at_length m.links.inns j f.inn f.at in let many = read_sized.inns_are in omega (arith, low, many)
      by_first _ at x = tt

  read_own : (took : Taken) (gave : Given) → get_elem? (core_with m took gave).seats i ≡ core.some (state_of m.plan m.links took reading i)
  read_own took gave = read_at m took k w.one read_few w.at

  read_follows : (took : Taken) (gave : Given) → Agrees m.links took → AgreesGave m.links gave → Follows m fresh took gave (read_moment ∷ [])
  read_follows took gave agrees agrees_gave = let s = read_stepped took gave agrees agrees_gave in let c : Core = core_with m took gave in let own : SeatState = state_of m.plan m.links took reading i in record {
    answered = (s.answered, tt);
    always_ready = λ always_ready. (read_prompt m fresh i w.one w.one' begins given_answer read_made, tt);
    closes = λ tell. read_closes m fresh k w.one w.one' (is.closed enough) w.at w.seats read_sized.letters_are read_sized.inns_are read_few took gave tell begins given_answer read_made;
    offers = λ x serve end h. (
      read_offers m fresh k w.one w.one' x serve end h (is.closed enough) w.at read_sized.letters_are read_sized.inns_are read_few took gave agrees agrees_gave begins given_answer read_made,
      read_offering m fresh k w.one w.one' x serve end h begins given_answer read_made,
    );
    shapes = λ x shape so_far h. (
      read_shapes m fresh i w.one w.one' x shape so_far m.plan c own (read_own took gave) begins given_answer read_made read_next,
      read_shaped m fresh i w.one w.one' x shape so_far m.plan c own (read_own took gave) h begins given_answer read_made read_next,
    );
    so_far = s.so_far;
    core = s.core;
    shows = record {
      broken = read_broken m fresh i w.one w.one' m.plan c own (read_own took gave) begins given_answer read_made;
      told = read_told m fresh i w.one w.one' m.plan c own (read_own took gave) begins given_answer read_next read_made;
      taken = read_taken m fresh i w.one w.one' m.plan c own (read_own took gave) begins given_answer read_next read_made;
      takes = read_takes m fresh i w.one w.one' m.plan c own (read_own took gave) begins given_answer read_next read_made;
    };
  }

  pub read_links_stay : SameLinks m fresh
  read_links_stay = read_links m fresh k w.one w.one' begins given_answer read_made

  pub read_table : SameTable m fresh
  read_table = record { plans = same.plans; opens = w.opens }

  -- it is a tick
  pub read_ticks : Ticked m fresh i tick
  read_ticks = ticks_by m fresh room i reading given_answer is enough read_own read_table read_links_stay read_follows tick w.told.tells

  read_kept : (s : IsSoundMachine m) → Keeps m fresh s read_moment
  read_kept s = step_keeps m fresh i given_answer same.plan same.id_plan w.opens (few_slots m is.sizes) (operations_are m is.sizes) s (read_stepped s.took s.gave s.agrees s.agrees_gave)
      (rests_not m s.took s.gave i reading (read_own s.took s.gave) given_answer s.ahead begins read_next)
      (λ e. absurd (read_prompt m fresh i w.one w.one' begins given_answer read_made e))

  outs_by : (f : First) → first_in reading ≡ Some f → MadeRead (table_of m) (table_of fresh) i w.one w.one' f given_answer → OutsKept m.links i fresh.links.outs
  outs_by (OfTable call) at x = kept_by m.plan m.links i fresh.links.outs call (read_may (OfTable call) at) x.1.outs
  outs_by (OfAside aside) at x = by_step aside x
    where
      by_step : (aside : asides.Step) → MadeRead (table_of m) (table_of fresh) i w.one w.one' (OfAside aside) given_answer → OutsKept m.links i fresh.links.outs
      by_step (asides.TakeBytes j count) x = inl x.2.outs
      by_step _ x = inl (ap (λ (l : LinksData). l.outs) x.1.links)
  outs_by _ at x = absurd x

  read_called : (x : ReadStep) → first_in reading ≡ Some (reader_steps.step_as w.one.asked x) → MadeRead (table_of m) (table_of fresh) i w.one w.one' (reader_steps.step_as w.one.asked x) given_answer → AreCalled fresh.ids
  read_called (steps.Table call) at x = subst AreCalled (sym x.1.ids) (is.called enough)
  read_called (steps.Aside aside) at x = by_step aside at x
    where
      fits : (aside : AsideStep) → first_in reading ≡ Some (OfAside (aside_steps.step_of w.one.asked aside)) → FitsSlots (table_of m) aside
      fits aside at = reader_slots m room is enough k w.one w.at aside at

      by_step : (aside : AsideStep) → first_in reading ≡ Some (OfAside (aside_steps.step_of w.one.asked aside)) → MadeRead (table_of m) (table_of fresh) i w.one w.one' (OfAside (aside_steps.step_of w.one.asked aside)) given_answer → AreCalled fresh.ids
      by_step (code.TakeBytes j count) at x = subst AreCalled (sym x.2.ids) (is.called enough)
      by_step aside at x = called_behind (table_of m) w.one.asked aside x.1.found fresh.ids x.1.ids (fits aside at) (is.called enough)

  read_as_many : AsMany (table_of m) (table_of fresh)
  read_as_many = read_many m fresh i w.one w.one' begins given_answer read_made

  pub read_has_sizes : ∥ HasSizes fresh ∥₁
  read_has_sizes = ∥∥₁_elim is.sizes (hlevel props) (λ h. ∣ read_sizes m fresh k w.one' h read_as_many same read_links_stay.as_many w.all w.seats w.opens ∣₁)

  same_sizes : machine_sizes fresh ≡ machine_sizes m
  same_sizes = ap₂ (λ p q. (record { slots = p.slots; requests = p.requests; ids = q.slots })) same.plan same.id_plan

  -- the machine stays one
  pub read_keeps : IsMachine fresh room
  read_keeps = keeps_by m fresh room i reading given_answer is enough read_own read_kept read_has_sizes same.plan
      (readers_paced m read_sized read_paced (is.sound enough) fresh i (let f = read_few in omega (arith, f)) same_sizes w.seats (outs_by begins read_next read_made))
      (read_closed m fresh k w.one w.one' (is.closed enough) w.at w.seats w.all begins given_answer read_made) (read_called step read_next read_made)

  pub read_leaves : Leaves tick m fresh
  read_leaves = leaves_by m fresh room i reading given_answer is enough read_own read_kept w.short tick w.told.tells

  pub read_enough : fresh.short ≡ false
  read_enough = w.short ∙ enough
