-- A tick of a seat of the code: what was made in hand of it, and its step, or none, or that memory ran out.
use Rattle.std.proofs.Common.{◌≡◌, ◌≢◌, ℕ, ◌+◌, ◌<◌, false, List, length, Result, Ok, Err, ap, ap₂, sym, subst, ◌∙◌}
use Rattle.std.specs.Prelude.{IfOk, OnOk, OnErr}
use Rattle.atomic_table.proofs.Lists.{set_else}
use lib.ListN.{get_elem?}
use Rattle.client_seats.specs.ClientSeatState.{SeatData}
use Rattle.seat_states.specs.declared.point.Step.{Step}
use Rattle.reader_points.specs.declared.point.ReadStep.{ReadStep}
use Rattle.machine_model.specs.declared.tick.Tick.{Tick}
use Rattle.machine_model.specs.declared.tick.Tick.TheVariants.{Idle}
use Rattle.machine_model.specs.Machines.{MachineState, READERS, IsMachine, HasSizes, table_of, IsSized}
use Rattle.machine_model.specs.ReadingSteps.{NextReadIs, HasNoRead, ReadFits, TickRead, IsCutShort}
use Rattle.machine_model.specs.MachineRuns.{SameTable, SameLinks, Ticked}
use Rattle.machine_model.specs.MachineSteps.{NextIs, HasNoStep, StepFits, PreparedAt}
use Rattle.machine_model.specs.PassingOverTaken.{HasPassed}
use Rattle.machine_model.specs.TickAnswersOfStep.{TickTold}
use Rattle.machine_model.specs.Driving.{Leaves, WentOn, FirstRests}
use Rattle.machine_ticks.proofs.Advancing.{told_links, told_table, told_ticks, told_keeps, told_leaves, told_enough, read_links_stay, read_table, read_ticks, read_keeps, read_leaves, read_enough}
use Rattle.machine_ticks.proofs.MachineStepFitting.{step_fits, read_fits}
use Rattle.machine_model.proofs.MachineLengths.{is_sized, few_seats, some_seat}
use Rattle.machine_model.proofs.Same.{same_table_none, same_links_none, both_join}
use Rattle.machine_ticks.proofs.PlainSteps.{no_step_rests, no_read_rests, idle_leaves}
use Rattle.machine_ticks.proofs.Preparing.{prepared_ticks, prepared_same, prepared_keeps, prepared_enough, prepared_leaves, prepared_idle, prepared_rests, prepared_stands, prepared_inside, cut_keeps, cut_sizes, cut_same}
use Rattle.machine_ticks.proofs.RestingTicks.{first_rests, rest_ticks}

-- ## By a result

pub on_both : {T E : Type 0} (P : T → Type 0) (Q X : Type 0) (r : Result T E) → IfOk r P → OnErr r Q → ((t : T) → P t → X) → (Q → X) → X
on_both P Q X (Ok t) h k f g = f t h
on_both P Q X (Err e) h k f g = g k

pub if_ok : {T E : Type 0} (P R : T → Type 0) (r : Result T E) → IfOk r P → ((t : T) → P t → R t) → IfOk r R
if_ok P R (Ok t) h f = f t h
if_ok P R (Err e) h f = tt

pub then_ok : {T E : Type 0} (P : T → Type 0) (R : Type 0) (r : Result T E) → IfOk r P → ((t : T) → P t → R) → OnOk r R
then_ok P R (Ok t) h f = f t h
then_ok P R (Err e) h f = tt

-- a tick in which memory ran out
pub cut_on : {E : Type 0} (old new : MachineState) (i : ℕ) (r : Result Tick E) (e : E) → r ≡ Err e → IsCutShort old new → ∥ HasSizes old ∥₁ → WentOn old new i r
cut_on {E} old new i r e is_err w sizes = subst (λ (x : Result Tick E). WentOn old new i x) (sym is_err) (record { tick = tt; left = tt; enough = tt; same = cut_same old new w; sizes = cut_sizes old new w sizes })

-- the machine as it lies in memory
pub went_along : {E : Type 0} {m n new : MachineState} {i : ℕ} {r : Result Tick E} → m ≡ n → WentOn m new i r → WentOn n new i r
went_along {E} {m} {n} {new} {i} {r} e h = subst (λ (x : MachineState). WentOn x new i r) e h

pub rests_along : {E : Type 0} {m n : MachineState} {i : ℕ} {r : Result Tick E} → m ≡ n → WentOn m m i r → WentOn n n i r
rests_along {E} {m} {n} {i} {r} e h = subst (λ (x : MachineState). WentOn x x i r) e h

-- ## Seat 0 at rest

-- a machine whose seat 0 stays
still_rests : (a b : MachineState) → SameTable a b → get_elem? b.seats 0 ≡ get_elem? a.seats 0 → 0 < length a.seats → FirstRests a → FirstRests b
still_rests a b table same some_ rest = (
  first_rests a b (ap₂ (λ p q. (record { slots = p.slots; requests = p.requests; ids = q.slots })) table.plan table.id_plan) same some_ rest.0,
  λ seat at. rest.1 seat (sym same ∙ at),
)

-- a seat without a step left leaves all as it was
rests_on : {E : Type 0} (m : MachineState) (i : ℕ) (r : Result Tick E) → r ≡ Ok Idle → ∥ HasSizes m ∥₁ → m.short ≡ false → Ticked m m i Idle → WentOn m m i r
rests_on {E} m i r is_idle sizes enough ticks = subst (λ (x : Result Tick E). WentOn m m i x) (sym is_idle) (record { tick = ticks; left = idle_leaves m; enough = enough; same = (same_table_none m, same_links_none m); sizes = sizes })

-- ## A client

module _ (old mid : MachineState) (room i : ℕ) (is : IsMachine old room) (enough : old.short ≡ false) (inside : i < length old.seats) (p : PreparedAt old mid i) where
  mid_is : IsMachine mid room
  mid_is = prepared_keeps old mid i p room is

  mid_enough : mid.short ≡ false
  mid_enough = prepared_enough old mid i p enough

  pub client_sized : IsSized (table_of mid)
  client_sized = is_sized mid mid_is.sizes

  pub client_fits : (step : Step) → NextIs mid i step → StepFits mid i step
  client_fits step n = step_fits mid room mid_is mid_enough i step (prepared_stands old mid i p) n

  -- without a step left
  pub client_idle : {E : Type 0} (r : Result Tick E) → r ≡ Ok Idle → HasNoStep mid i → WentOn old mid i r
  client_idle {E} r is_idle none_ = subst (λ (x : Result Tick E). WentOn old mid i x) (sym is_idle) (record {
    tick = prepared_ticks old mid i p mid Idle (rest_ticks mid i (no_step_rests mid i (prepared_inside old mid i p inside) none_));
    left = prepared_idle old mid i p;
    enough = mid_enough;
    same = prepared_same old mid i p;
    sizes = mid_is.sizes;
  })

  pub idle_rests : i ≢ 0 → FirstRests old → FirstRests mid
  idle_rests differ rest = prepared_rests old mid i p (some_seat old is.sizes) differ rest

  module _ (new : MachineState) (step : Step) (n : NextIs mid i step) where
    module _ (tick : Tick) (w : TickTold mid new i step tick) where
      pub client_ticks : Ticked old new i tick
      client_ticks = prepared_ticks old mid i p new tick (told_ticks mid new room i step tick mid_is mid_enough n w)

      pub client_keeps : IsMachine new room
      client_keeps = told_keeps mid new room i step tick mid_is mid_enough n w

      pub client_leaves : Leaves tick old new
      client_leaves = prepared_leaves old mid i p new tick (told_leaves mid new room i step tick mid_is mid_enough n w)

      pub client_enough : new.short ≡ false
      client_enough = told_enough mid new room i step tick mid_is mid_enough n w

      pub client_same : SameTable old new × SameLinks old new
      client_same = both_join old mid new (prepared_same old mid i p) (told_table mid new room i step tick mid_is mid_enough n w, told_links mid new room i step tick mid_is mid_enough n w)

      pub client_rests : i ≢ 0 → FirstRests old → FirstRests new
      client_rests differ rest = still_rests mid new (told_table mid new room i step tick mid_is mid_enough n w)
          (ap (λ (ss : List SeatData). get_elem? ss 0) w.all ∙ set_else mid.seats i 0 w.one' (λ e. differ (sym e))) (some_seat mid mid_is.sizes) (idle_rests differ rest)

    module _ (w : IsCutShort mid new) where
      pub cut_client : IsMachine new room
      cut_client = cut_keeps mid new w room mid_is

      pub cut_client_same : SameTable old new × SameLinks old new
      cut_client_same = both_join old mid new (prepared_same old mid i p) (cut_same mid new w)

    -- by what the code answers
    module _ {E : Type 0} (r : Result Tick E) (ok : IfOk r (λ (tick : Tick). TickTold mid new i step tick)) (err : OnErr r (IsCutShort mid new)) where
      pub went_keeps : IsMachine new room
      went_keeps = on_both (λ (tick : Tick). TickTold mid new i step tick) (IsCutShort mid new) (IsMachine new room) r ok err client_keeps cut_client

      pub went_on : WentOn old new i r
      went_on = record {
        tick = if_ok (λ (tick : Tick). TickTold mid new i step tick) (λ (tick : Tick). Ticked old new i tick) r ok client_ticks;
        left = if_ok (λ (tick : Tick). TickTold mid new i step tick) (λ (tick : Tick). Leaves tick old new) r ok client_leaves;
        enough = then_ok (λ (tick : Tick). TickTold mid new i step tick) (new.short ≡ false) r ok client_enough;
        same = on_both (λ (tick : Tick). TickTold mid new i step tick) (IsCutShort mid new) (SameTable old new × SameLinks old new) r ok err client_same cut_client_same;
        sizes = went_keeps.sizes;
      }

      pub went_rests : OnOk r (i ≢ 0 → FirstRests old → FirstRests new)
      went_rests = then_ok (λ (tick : Tick). TickTold mid new i step tick) (i ≢ 0 → FirstRests old → FirstRests new) r ok client_rests

-- ## A client at rest, and one that passes over what is taken

module _ (old : MachineState) (i : ℕ) (inside : i < length old.seats) where
  pub rest_on : {E : Type 0} (r : Result Tick E) → r ≡ Ok Idle → ∥ HasSizes old ∥₁ → old.short ≡ false → HasNoStep old i → WentOn old old i r
  rest_on r is_idle sizes enough none_ = rests_on old i r is_idle sizes enough (rest_ticks old i (no_step_rests old i inside none_))

  module _ (room : ℕ) (is : IsMachine old room) (enough : old.short ≡ false) (new : MachineState) (tick : Tick) (h : HasPassed old new i tick) where
    pub passed_keeps : IsMachine new room
    passed_keeps = client_keeps old old room i is enough inside h.prepared new h.step h.next tick h.told

    pub passed_same : SameTable old new × SameLinks old new
    passed_same = client_same old old room i is enough inside h.prepared new h.step h.next tick h.told

    pub passed_on : {E : Type 0} (r : Result Tick E) → r ≡ Ok tick → WentOn old new i r
    passed_on {E} r is_tick = went_on old old room i is enough inside h.prepared new h.step h.next r
        (subst (λ (x : Result Tick E). IfOk x (λ (t : Tick). TickTold old new i h.step t)) (sym is_tick) h.told)
        (subst (λ (x : Result Tick E). OnErr x (IsCutShort old new)) (sym is_tick) tt)

    pub passed_rests : i ≢ 0 → FirstRests old → FirstRests new
    passed_rests = client_rests old old room i is enough inside h.prepared new h.step h.next tick h.told

-- ## A reader

module _ (old : MachineState) (room k : ℕ) (is : IsMachine old room) (enough : old.short ≡ false) where
  pub reader_sized : IsSized (table_of old)
  reader_sized = is_sized old is.sizes

  pub reader_fits : (step : ReadStep) → NextReadIs old k step → ReadFits old k step
  reader_fits step n = read_fits old room is enough k step n

  pub reader_idle : {E : Type 0} (r : Result Tick E) → r ≡ Ok Idle → HasNoRead old k → WentOn old old (READERS + k) r
  reader_idle r is_idle none_ = rests_on old (READERS + k) r is_idle is.sizes enough (rest_ticks old (READERS + k) (no_read_rests old k (few_seats old is.sizes) none_))

  module _ (new : MachineState) (step : ReadStep) (n : NextReadIs old k step) where
    reader_rests : (tick : Tick) → TickRead old new (READERS + k) k step tick → FirstRests old → FirstRests new
    reader_rests tick w rest = still_rests old new (read_table old new room k step tick is enough n w) (ap (λ (ss : List SeatData). get_elem? ss 0) w.seats) (some_seat old is.sizes) rest

    reader_same : (tick : Tick) → TickRead old new (READERS + k) k step tick → SameTable old new × SameLinks old new
    reader_same tick w = (read_table old new room k step tick is enough n w, read_links_stay old new room k step tick is enough n w)

    -- by what the code answers
    module _ {E : Type 0} (r : Result Tick E) (ok : IfOk r (λ (tick : Tick). TickRead old new (READERS + k) k step tick)) (err : OnErr r (IsCutShort old new)) where
      pub read_went_keeps : IsMachine new room
      read_went_keeps = on_both (λ (tick : Tick). TickRead old new (READERS + k) k step tick) (IsCutShort old new) (IsMachine new room) r ok err (λ tick w. read_keeps old new room k step tick is enough n w) (λ w. cut_keeps old new w room is)

      pub read_went_on : WentOn old new (READERS + k) r
      read_went_on = record {
        tick = if_ok (λ (tick : Tick). TickRead old new (READERS + k) k step tick) (λ (tick : Tick). Ticked old new (READERS + k) tick) r ok (λ tick w. read_ticks old new room k step tick is enough n w);
        left = if_ok (λ (tick : Tick). TickRead old new (READERS + k) k step tick) (λ (tick : Tick). Leaves tick old new) r ok (λ tick w. read_leaves old new room k step tick is enough n w);
        enough = then_ok (λ (tick : Tick). TickRead old new (READERS + k) k step tick) (new.short ≡ false) r ok (λ tick w. read_enough old new room k step tick is enough n w);
        same = on_both (λ (tick : Tick). TickRead old new (READERS + k) k step tick) (IsCutShort old new) (SameTable old new × SameLinks old new) r ok err reader_same (cut_same old new);
        sizes = read_went_keeps.sizes;
      }

      pub read_went_rests : OnOk r (FirstRests old → FirstRests new)
      read_went_rests = then_ok (λ (tick : Tick). TickRead old new (READERS + k) k step tick) (FirstRests old → FirstRests new) r ok reader_rests
