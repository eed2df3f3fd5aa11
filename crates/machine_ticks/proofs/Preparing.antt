-- What is made in hand of a seat before its step changes nothing of a run; and a machine in which memory ran out.
use Rattle.std.proofs.Common.{◌≡◌, ◌≢◌, refl, ℕ, zero, suc, ◌+◌, ◌-◌, ◌*◌, ◌<◌, ◌≤◌, ⊎_elim, false, List, [], ◌∷◌, ◌++◌, map, length, replicate, slice_set, ap, ap₂, sym, ◌∙◌, arith, subst}
use Rattle.std.proofs.Props.{props}
use Rattle.std.proofs.Math.Logic.{∥∥₁_elim}
use Rattle.std.proofs.Math.ListN.{length-set}
use Rattle.std.proofs.lemmas.Bool.{true≢false}
use Rattle.atomic_table.proofs.Lists.{at_set, set_here, set_else}
use mathlib.Core.Option as core
use lib.ListN.{get_elem?}
use Rattle.sock_words.specs.declared.plain.Plan.{Plan}
use Rattle.seat_programs.specs.declared.task.Sizes.{Sizes}
use Rattle.seat_programs.specs.LoopHeads.{Retry}
use Rattle.seat_programs.specs.Programs.{Program}
use Rattle.seat_programs.specs.Cores.{Core, SeatState}
use Rattle.seat_programs.specs.Ticks.{Answer, Moment, AreAnswered, run, broken_in}
use Rattle.machine_model.specs.run_theorems.specs.call_owing.specs.LivesOfLinks.{ClosesInTime}
use Rattle.machine_model.specs.run_theorems.specs.OfferedAtTakes.{AreOffered}
use Rattle.machine_model.specs.run_theorems.specs.ShapedPuts.{AreShaped}
use Rattle.machine_model.specs.run_theorems.specs.Heard.{heard_in, taken_in}
use Rattle.call_slots.specs.CallSlotState.{calls_with}
use Rattle.client_seats.specs.ClientSeatState.{SeatData, seat_program}
use Rattle.reader_seats.specs.ReaderState.{ReaderData}
use Rattle.machine_model.specs.declared.tick.Tick.{Tick}
use Rattle.machine_model.specs.declared.tick.Tick.TheVariants.{Moved, Waits, Idle}
use Rattle.machine_model.specs.MachineLinks.{LinksData, Taken, Given, IsPaced, IsShapedSo}
use Rattle.machine_model.specs.Machines.{MachineState, READERS, IsMachine, IsSoundMachine, HasSizes, KeepsClosed, ArePaced, machine_sizes, table_of, between, resting, clients_with, readers_with, state_of, given_by, core_with}
use Rattle.machine_model.specs.ReadingSteps.{IsCutShort}
use Rattle.machine_model.specs.MachineRuns.{SameTable, SameLinks, LinksShow, TickIs, Follows, Ticked}
use Rattle.machine_model.specs.MachineSteps.{PreparedAt, IsReady, MayStand, ReadyAt, StandsAt}
use Rattle.machine_model.specs.Driving.{LastsAtMost, Leaves, FirstRests}
use Rattle.machine_model.proofs.Same.{same_table_none, same_links_none}
use Rattle.machine_rules.proofs.MachineKeeping.{remade}
use Rattle.machine_model.proofs.MachineLengths.{sizes_kept, sizes_stay}
use Rattle.machine_ticks.proofs.RestingTicks.{first_rests}
use Rattle.machine_rules.proofs.Seatings.{core_is}
use Rattle.corr_core.proofs.NoteSums.{at_length}

-- ## One core, by two machines

module _ (old new : MachineState) (ss : List SeatData) (same : (took : Taken) (gave : Given) → core_with (record old { seats = ss }) took gave ≡ core_with old took gave) where
  abbrev mid : MachineState
  mid = record old { seats = ss }

  shows_before : {failed : List ℕ} {heard got : ℕ → List Answer} → LinksShow mid new failed heard got → LinksShow old new failed heard got
  shows_before s = record {
    broken = s.broken;
    told = record { each = s.told.each; none_beyond = s.told.none_beyond };
    taken = s.taken;
    takes = record { each = s.takes.each; none_beyond = s.takes.none_beyond };
  }

  follows_before : (took : Taken) (gave : Given) (ms : List Moment) → Follows mid new took gave ms → Follows old new took gave ms
  follows_before took gave ms f = let e : core_with mid took gave ≡ core_with old took gave = same took gave in record {
    answered = subst (λ (c : Core). AreAnswered old.plan c ms) e f.answered;
    always_ready = f.always_ready;
    closes = λ tell. subst (λ (c : Core). ClosesInTime old.plan c ms) e (f.closes tell);
    offers = λ k serve end h. let x = f.offers k serve end h in (subst (λ (c : Core). AreOffered old.plan k serve end c ms) e x.0, x.1);
    shapes = λ k shape so_far h.
        let x = f.shapes k shape so_far h in
        (subst (λ (c : Core). AreShaped old.plan k shape so_far c ms) e x.0, subst (λ (c : Core). IsShapedSo new.links k shape (so_far ++ heard_in old.plan c ms k)) e x.1);
    so_far = f.so_far;
    core = f.core ∙ ap (λ (c : Core). run old.plan c ms) e;
    shows = subst (λ (c : Core). LinksShow old new (broken_in old.plan c ms) (heard_in old.plan c ms) (taken_in old.plan c ms)) e (shows_before f.shows);
  }

  is_before : (took : Taken) (gave : Given) (moment : Moment) (tick : Tick) → TickIs mid (core_with mid took gave) moment tick → TickIs old (core_with old took gave) moment tick
  is_before took gave moment (Moved kind) is = subst (λ (c : Core). TickIs old c moment (Moved kind)) (same took gave) is
  is_before took gave moment (Waits what) is = subst (λ (c : Core). TickIs old c moment (Waits what)) (same took gave) is
  is_before took gave moment Idle is = subst (λ (c : Core). TickIs old c moment Idle) (same took gave) is

  -- a tick of the one is one of the other
  pub ticked_before : (i : ℕ) (tick : Tick) → Ticked mid new i tick → Ticked old new i tick
  ticked_before i tick t = (
    record { plans = t.0.plans; opens = t.0.opens },
    record { as_many = t.1.as_many; each = t.1.each; always_ready = t.1.always_ready; tell = t.1.tell },
    λ took gave agrees agrees_gave. let w = t.2 took gave agrees agrees_gave in record { moment = w.moment; is_of = w.is_of; is = is_before took gave w.moment tick w.is; follows = follows_before took gave (w.moment ∷ []) w.follows },
  )

-- ## What was made in hand

module _ (seat seat' : SeatData) (waiting : seat'.waiting ≡ seat.waiting) where
  waiting_same : (seats : List SeatData) (i : ℕ) → get_elem? seats i ≡ core.some seat → map (λ (s : SeatData). s.waiting) (slice_set seats i seat') ≡ map (λ (s : SeatData). s.waiting) seats
  waiting_same [] i at = refl
  waiting_same (s ∷ seats) zero at = ap (λ (ws : List Retry). ws ∷ map (λ (s : SeatData). s.waiting) seats) (waiting ∙ ap (λ (x : SeatData). x.waiting) (sym (core.some-injective s seat at)))
  waiting_same (s ∷ seats) (suc i) at = ap (λ (ws : List (List Retry)). s.waiting ∷ ws) (waiting_same seats i at)

  module _ (p : Plan) (l : LinksData) (took : Taken) (sizes : Sizes) (program : seat_program sizes seat' ≡ seat_program sizes seat) where
    clients_same : (a : ℕ) (seats : List SeatData) (i : ℕ) → get_elem? seats i ≡ core.some seat → clients_with p l took sizes a (slice_set seats i seat') ≡ clients_with p l took sizes a seats
    clients_same a [] i at = refl
    clients_same a (s ∷ seats) zero at = ap (λ (x : Program). state_of p l took x a ∷ clients_with p l took sizes (a + 1) seats) (program ∙ ap (seat_program sizes) (sym (core.some-injective s seat at)))
    clients_same a (s ∷ seats) (suc i) at = ap (λ (ss : List SeatState). state_of p l took (seat_program sizes s) a ∷ ss) (clients_same (a + 1) seats i at)

module _ (old fresh : MachineState) (i : ℕ) (w : PreparedAt old fresh i) where
  abbrev made : MachineState
  made = record old { seats = slice_set old.seats i w.seat' }

  many : length (slice_set old.seats i w.seat') ≡ length old.seats
  many = length-set old.seats i w.seat'

  same_gap : between (slice_set old.seats i w.seat') ≡ between old.seats
  same_gap = ap (λ (n : ℕ). READERS - n) many

  prepared_core : (took : Taken) (gave : Given) → core_with made took gave ≡ core_with old took gave
  prepared_core took gave = core_is _ _ _ _ _ _ _ _ _ _ refl refl
      (ap₂ (λ (cs os : List SeatState). cs ++ os) (clients_same w.seat w.seat' w.prepared.waiting old.plan old.links took (machine_sizes old) w.prepared.program 0 old.seats i w.at)
      (ap (λ (n : ℕ). replicate n resting ++ readers_with old.plan old.links took old.calls READERS old.readers) same_gap))
      refl
      (ap (λ (ws : List (List Retry)). calls_with old.ids ws (given_by old.plan.links gave) old.ending)
      (ap₂ (λ (ws vs : List (List Retry)). ws ++ vs) (waiting_same w.seat w.seat' w.prepared.waiting old.seats i w.at) (ap (λ (n : ℕ). replicate n [] ++ map (λ (r : ReaderData). []) old.readers) same_gap)))

  -- a tick behind it is one of the machine before
  pub prepared_ticks : (new : MachineState) (tick : Tick) → Ticked fresh new i tick → Ticked old new i tick
  prepared_ticks new tick t = ticked_before old new (slice_set old.seats i w.seat') prepared_core i tick (subst (λ (m : MachineState). Ticked m new i tick) w.is t)

  made_table : SameTable old made
  made_table = let n = same_table_none old in record { plans = n.plans; opens = n.opens }

  made_links : SameLinks old made
  made_links = let n = same_links_none old in record { as_many = n.as_many; each = n.each; always_ready = n.always_ready; tell = n.tell }

  pub prepared_same : SameTable old fresh × SameLinks old fresh
  prepared_same = subst (λ (m : MachineState). SameTable old m × SameLinks old m) (sym w.is) (made_table, made_links)

  made_sizes : HasSizes old → HasSizes made
  made_sizes h = sizes_kept old made i w.seat' h (record { letters = refl; holders = refl; nexts = refl; outs = refl; inns = refl; outcomes = refl })
      (record { plans = made_table.plans; inns = refl }) refl refl refl refl

  made_sound : (s : IsSoundMachine old) → (m : IsSoundMachine made) × (m.left ≡ s.left)
  made_sound s = remade made old.plan old.ids.plan (core_with old s.took s.gave) s.took s.gave s.views s.id_views s.left refl refl s.agrees s.agrees_gave (prepared_core s.took s.gave) s.ahead s.sound s.ids s.few s.lasts s.bounded

  made_paced : ArePaced (machine_sizes old) old.links old.seats → ArePaced (machine_sizes old) old.links (slice_set old.seats i w.seat')
  made_paced paced j s there = ⊎_elim
      (λ t. subst (λ (x : SeatData). IsPaced old.links.outs (seat_program (machine_sizes old) x)) t.1 (subst (IsPaced old.links.outs) (sym w.prepared.program) (paced i w.seat w.at)))
      (λ t. paced j s t.1)
      (at_set old.seats i j w.seat' s there)

  made_closed : KeepsClosed old → KeepsClosed made
  made_closed h = record { done = h.done; held = λ k j own past. h.held k j own (let e = many in omega (arith, e, past)) }

  pub prepared_keeps : (room : ℕ) → IsMachine old room → IsMachine fresh room
  prepared_keeps room is = subst (λ (m : MachineState). IsMachine m room) (sym w.is) (record {
    sizes = ∥∥₁_elim is.sizes (hlevel props) (λ h. ∣ made_sizes h ∣₁);
    has_room = is.has_room;
    sound = λ enough. ∥∥₁_elim (is.sound enough) (hlevel props) (λ s. ∣ (made_sound s).0 ∣₁);
    paced = λ enough. ∥∥₁_elim (is.paced enough) (hlevel props) (λ p. ∣ made_paced p ∣₁);
    closed = λ enough. made_closed (is.closed enough);
    called = is.called;
  })

  pub prepared_enough : old.short ≡ false → fresh.short ≡ false
  prepared_enough enough = ap (λ (m : MachineState). m.short) w.is ∙ enough

  prepared_lasts : (n : ℕ) → LastsAtMost old n → LastsAtMost fresh n
  prepared_lasts n lasts = subst (λ (m : MachineState). LastsAtMost m n) (sym w.is) (lasts.0, ∥∥₁_elim lasts.1 (hlevel props) (λ s. let r = made_sound s.0 in let same = r.1 in let b = s.1 in ∣ (r.0, omega (arith, same, b)) ∣₁))

  -- nor has it more ticks left
  pub prepared_leaves : (new : MachineState) (tick : Tick) → Leaves tick fresh new → Leaves tick old new
  prepared_leaves new (Moved kind) leaves = λ n lasts. leaves n (prepared_lasts n lasts)
  prepared_leaves new (Waits what) leaves = λ n lasts. leaves n (prepared_lasts n lasts)
  prepared_leaves new Idle leaves = λ n lasts. leaves n (prepared_lasts n lasts)

  pub prepared_idle : Leaves Idle old fresh
  prepared_idle n lasts = prepared_lasts n lasts

  pub prepared_rests : 0 < length old.seats → i ≢ 0 → FirstRests old → FirstRests fresh
  prepared_rests some_ differ rest = subst FirstRests (sym w.is) (
    first_rests old made refl same some_ rest.0,
    λ seat at. rest.1 seat (sym same ∙ at),
  )
    where
      same : get_elem? (slice_set old.seats i w.seat') 0 ≡ get_elem? old.seats 0
      same = set_else old.seats i 0 w.seat' (λ e. differ (sym e))

  own_seat : (seat : SeatData) → get_elem? fresh.seats i ≡ core.some seat → w.seat' ≡ seat
  own_seat seat at = core.some-injective w.seat' seat (sym (set_here old.seats i w.seat' (at_length old.seats i w.seat w.at)) ∙ sym (ap (λ (m : MachineState). get_elem? m.seats i) w.is) ∙ at)

  -- what its next step needs is in hand, and its point stands
  pub prepared_ready : ReadyAt fresh i
  prepared_ready seat at = subst (λ (m : MachineState). IsReady (table_of m) seat) (sym w.is)
      (subst (λ (s : SeatData). IsReady (table_of made) s) (own_seat seat at) (record { hand = w.prepared.hand; frame = w.prepared.frame }))

  pub prepared_stands : StandsAt fresh i
  prepared_stands seat at = subst MayStand (own_seat seat at) w.stand

  pub prepared_inside : i < length old.seats → i < length fresh.seats
  prepared_inside inside = subst (λ (m : MachineState). i < length m.seats) (sym w.is) (let e = many in omega (arith, inside, e))

-- ## Where memory ran out

module _ (old fresh : MachineState) (w : IsCutShort old fresh) where
  cut_has_sizes : HasSizes old → HasSizes fresh
  cut_has_sizes h = sizes_stay old fresh h w.many w.plan w.id_plan w.calls w.as_many w.seats w.readers w.opens

  pub cut_sizes : ∥ HasSizes old ∥₁ → ∥ HasSizes fresh ∥₁
  cut_sizes sizes = ∥∥₁_elim sizes (hlevel props) (λ h. ∣ cut_has_sizes h ∣₁)

  pub cut_keeps : (room : ℕ) → IsMachine old room → IsMachine fresh room
  cut_keeps room is = record {
    sizes = cut_sizes is.sizes;
    has_room = subst (λ (p : Plan). 8 * p.operations ≤ room) (sym w.plan) is.has_room;
    sound = λ enough. absurd (true≢false (sym w.short ∙ enough));
    paced = λ enough. absurd (true≢false (sym w.short ∙ enough));
    closed = λ enough. absurd (true≢false (sym w.short ∙ enough));
    called = λ enough. absurd (true≢false (sym w.short ∙ enough));
  }

  pub cut_same : SameTable old fresh × SameLinks old fresh
  cut_same = (record { plans = w.plans; opens = w.opens }, record { as_many = w.as_many; each = w.each; always_ready = w.always_ready; tell = w.tell })
