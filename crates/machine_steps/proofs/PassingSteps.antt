-- Passing over what is taken is a step of its seat.
use Rattle.std.proofs.Common.{◌≡◌, refl, ℕ, suc, ◌+◌, ◌-◌, ◌%◌, ◌==◌, ◌/◌, ◌<◌, Bool, false, if◌then◌else◌, List, map, length, slice_index, slice_index_or, slice_set, ap, sym, ◌∙◌, arith, subst}
use Rattle.std.proofs.lemmas.List.{set-get_or, map-set}
use Rattle.sock_words.specs.declared.kind.Kind.TheVariants.{C1, I1}
use Rattle.sock_words.specs.declared.socket_id.SocketId.{SocketId}
use Rattle.sock_model.specs.SocketTableLayout.{request_index}
use Rattle.seat_programs.specs.Programs.{Program}
use Rattle.seat_programs.specs.CallAndRetryPrograms.{begin_call, claim_id}
use Rattle.seat_programs.specs.SendAndWritePrograms.{accept}
use Rattle.seat_programs.specs.Cores.{resolved, still_waiting, next_step, said}
use Rattle.seat_programs.specs.Ticks.{Unasked}
use Rattle.call_points.specs.AsideCodeSteps.{after_word}
use Rattle.call_points.specs.declared.aside.Aside.TheVariants as code
use Rattle.seat_states.specs.declared.chain_step.ChainStep.TheVariants as chains
use Rattle.seat_states.specs.declared.table_step.TableStep.TheVariants as steps
use Rattle.seat_states.specs.declared.point.Sending.{Sending}
use Rattle.seat_states.specs.declared.point.CallStep.TheVariants as begins
use Rattle.seat_states.specs.declared.point.SendStep.TheVariants as sends
use Rattle.seat_states.specs.declared.point.Point.{Point}
use Rattle.seat_states.specs.declared.point.Point.TheVariants as points
use Rattle.seat_states.specs.declared.point.Step.{Step}
use Rattle.seat_states.specs.declared.point.Step.TheVariants as firsts
use Rattle.seat_states.specs.ProgramAtPoint.{Context, client_on, heading_by, sent_program, claims_program}
use Rattle.client_seats.specs.ClientSeatFollowing.{IsPrepared}
use Rattle.client_seats.specs.declared.seat.Seat.{Seat}
use Rattle.client_seats.specs.ClientSeatState.{SeatData, seat_data, around, seat_program}
use Rattle.reader_seats.specs.ReaderState.{ReaderData}
use Rattle.machine_model.specs.declared.tick.Tick.{Tick}
use Rattle.machine_model.specs.declared.tick.Tick.TheVariants.{Moved}
use Rattle.machine_model.specs.Machines.{MachineState, TableState, table_sizes}
use Rattle.machine_model.specs.PassingOverTaken.{PassesRequest, PassesSlot, HasPassed}
use Rattle.machine_model.specs.MachineSteps.{IsNext, NextIs, MayStand, Goes}
use Rattle.machine_model.specs.TickAnswersOfStep.{StepTold}
use Rattle.machine_steps.proofs.SeatMemoryPlaces.{view_of, seat_there, told_here, with_room}

-- the seat at another point
abbrev pub seat_at : SeatData → Point → SeatData
seat_at seat point = record seat { point = point }

-- a seat goes on to a step with nothing to say
module _ (t : TableState) (seat : SeatData) (p q : Point) (next : Program) (same : next ≡ seat_program (table_sizes t) (seat_at seat q))
    (bare : next_step (resolved seat.waiting (seat_program (table_sizes t) (seat_at seat q))) ≡ seat_program (table_sizes t) (seat_at seat q))
    (waits : still_waiting seat.waiting (seat_program (table_sizes t) (seat_at seat q)) ≡ seat.waiting)
    (silent : said (resolved seat.waiting (seat_program (table_sizes t) (seat_at seat q))) t.outcomes ≡ t.outcomes) where
  goes_to : Goes t t (seat_at seat p) (seat_at seat q) next
  goes_to = record {
    base = record { plans = record { plan = refl; id_plan = refl; calls = refl; ending = refl }; inns = refl };
    program = sym bare ∙ ap (λ x. next_step (resolved seat.waiting x)) (sym same);
    waiting = sym waits ∙ ap (still_waiting seat.waiting) (sym same);
    told = sym silent ∙ ap (λ x. said (resolved seat.waiting x) t.outcomes) (sym same);
  }

module _ (t : TableState) (seat : SeatData) (i : ℕ) where
  abbrev context : Context
  context = around (table_sizes t) seat

  -- a request that is taken
  module _ (s : Sending) (q : ℕ) (h : PassesRequest t q) where
    abbrev found : ℕ
    found = slice_index t.words (request_index t.plan q)

    abbrev at_request : Point
    at_request = points.Send s (sends.Claim q)

    abbrev behind_request : Point
    behind_request = points.Send s (sends.Claim (q + 1))

    odd : (found % 2 == 0) ≡ false
    odd = ap (λ n. n == 0) h.0

    fewer : t.plan.requests - (q + 1) ≡ suc (t.plan.requests - (q + 1 + 1))
    fewer = omega (arith, h.1)

    next_request : after_word (seat_program (table_sizes t) (seat_at seat at_request)) found ≡ seat_program (table_sizes t) (seat_at seat behind_request)
    next_request = ap (λ b. if b then accept s.id.0 q (found / 2) (heading_by s.author context.parts) context.message (sent_program context s.author s.id.0) else claims_program context s (t.plan.requests - (q + 1)) (q + 1)) odd
        ∙ ap (λ n. claims_program context s n (q + 1)) fewer

    pub request_passed : StepTold t t i (seat_at seat at_request) (seat_at seat behind_request) (firsts.Table (steps.Chain (chains.ClaimRequest s.id q))) (Moved C1)
    request_passed = record {
      answer = Unasked;
      makes = record {
        is = (
          refl,
          record {
            goes = goes_to t seat at_request behind_request _ next_request refl refl refl;
            words = sym (set-get_or t.words (request_index t.plan q) 0) ∙ ap (slice_set t.words (request_index t.plan q)) (sym (ap (λ b. if b then found + 1 else found) odd));
            letters = refl;
            holders = refl;
            nexts = refl;
            outs = refl;
            ids = refl;
            ends = refl;
          },
        );
      };
      tells = (refl, refl);
    }

  -- an id slot that is taken
  module _ (slot : ℕ) (socket : SocketId) (h : PassesSlot t slot) where
    abbrev at_slot : Point
    at_slot = points.Call (begins.ClaimId slot socket)

    abbrev behind_slot : Point
    behind_slot = points.Call (begins.ClaimId (slot + 1) socket)

    fewer_slots : t.ids.plan.slots - (slot + 1) ≡ suc (t.ids.plan.slots - (slot + 1 + 1))
    fewer_slots = omega (arith, h.1)

    next_slot : claim_id (t.ids.plan.slots - (slot + 1)) (slot + 1) t.plan.requests socket.0 context.asked (client_on context) ≡ seat_program (table_sizes t) (seat_at seat behind_slot)
    next_slot = ap (λ n. claim_id n (slot + 1) t.plan.requests socket.0 context.asked (client_on context)) fewer_slots

    pub slot_passed : StepTold t t i (seat_at seat at_slot) (seat_at seat behind_slot) (firsts.Aside (code.ClaimId slot)) (Moved I1)
    slot_passed = record {
      answer = Unasked;
      makes = record {
        is = (
          refl,
          record {
            next = λ found. if found == 0 then begin_call t.plan.requests socket.0 slot context.asked (client_on context) else claim_id (t.ids.plan.slots - (slot + 1)) (slot + 1) t.plan.requests socket.0 context.asked (client_on context);
            is = refl;
            found = 1;
            ids = h.0;
            goes = goes_to t seat at_slot behind_slot _ next_slot refl refl refl;
            words = refl;
            letters = refl;
            links = refl;
            ends = refl;
          },
        );
      };
      tells = (refl, refl);
    }

-- ## The seat as it lies in memory

module _ (t : TableState) (items : List Seat) (readers : List ReaderData) (opens : List ℕ) (short : Bool) (i j : ℕ) (there : j ≡ i) (x : Seat) (inside : j < length items) (is : x ≡ slice_index_or items j x) where
  abbrev before : MachineState
  before = view_of t items readers opens short

  abbrev behind : Seat → MachineState
  behind z = view_of t (slice_set items j z) readers opens short

  -- where it stays, so does the machine
  pub stays : behind x ≡ before
  stays = ap (λ (ss : List SeatData). record before { seats = ss }) (with_room items j x x is refl)

  passed : (z : Seat) (step : Step) (tick : Tick) → IsPrepared (table_sizes t) (seat_data x) (seat_data x) → MayStand (seat_data x) → IsNext t (seat_data x) step → StepTold t t i (seat_data x) (seat_data z) step tick → HasPassed before (behind z) i tick
  passed z step tick prepared stand next told =
      let at = seat_there t items readers opens short i j there x inside is in
      let n : NextIs before i step = record { seat = seat_data x; at = at; is = next } in
      record {
        prepared = record {
          seat = seat_data x;
          at = at;
          seat' = seat_data x;
          is = ap (λ (ss : List SeatData). record before { seats = ss }) (sym (with_room items j x x is refl) ∙ map-set seat_data items j x ∙ ap (λ k. slice_set (map seat_data items) k (seat_data x)) there);
          prepared = prepared;
          stand = stand;
        };
        step = step;
        next = n;
        told = told_here t items readers opens short i j there x x is refl step n z told;
      }

  module _ (s : Sending) (q : ℕ) (point : x.point ≡ points.Send s (sends.Claim q)) (h : PassesRequest t q) where
    of_request : seat_data x ≡ seat_at (seat_data x) (points.Send s (sends.Claim q))
    of_request = ap (seat_at (seat_data x)) point

    pub passed_request : (z : Seat) → seat_data z ≡ seat_at (seat_data x) (points.Send s (sends.Claim (q + 1))) → HasPassed before (behind z) i (Moved C1)
    passed_request z news = passed z (firsts.Table (steps.Chain (chains.ClaimRequest s.id q))) (Moved C1)
        (subst (λ (y : SeatData). IsPrepared (table_sizes t) y y) (sym of_request) (record { program = refl; waiting = refl; hand = tt; frame = refl; out = refl; ending = refl }))
        (subst MayStand (sym of_request) (record { link = tt; told = tt }))
        (subst (λ (y : SeatData). IsNext t y (firsts.Table (steps.Chain (chains.ClaimRequest s.id q)))) (sym of_request) refl)
        (subst (λ (y : SeatData). StepTold t t i y (seat_data z) (firsts.Table (steps.Chain (chains.ClaimRequest s.id q))) (Moved C1)) (sym of_request)
        (subst (λ (y : SeatData). StepTold t t i (seat_at (seat_data x) (points.Send s (sends.Claim q))) y (firsts.Table (steps.Chain (chains.ClaimRequest s.id q))) (Moved C1)) (sym news) (request_passed t (seat_data x) i s q h)))

  module _ (slot : ℕ) (socket : SocketId) (point : x.point ≡ points.Call (begins.ClaimId slot socket)) (h : PassesSlot t slot) where
    of_slot : seat_data x ≡ seat_at (seat_data x) (points.Call (begins.ClaimId slot socket))
    of_slot = ap (seat_at (seat_data x)) point

    pub passed_slot : (z : Seat) → seat_data z ≡ seat_at (seat_data x) (points.Call (begins.ClaimId (slot + 1) socket)) → HasPassed before (behind z) i (Moved I1)
    passed_slot z news = passed z (firsts.Aside (code.ClaimId slot)) (Moved I1)
        (subst (λ (y : SeatData). IsPrepared (table_sizes t) y y) (sym of_slot) (record { program = refl; waiting = refl; hand = tt; frame = refl; out = refl; ending = refl }))
        (subst MayStand (sym of_slot) (record { link = tt; told = tt }))
        (subst (λ (y : SeatData). IsNext t y (firsts.Aside (code.ClaimId slot))) (sym of_slot) refl)
        (subst (λ (y : SeatData). StepTold t t i y (seat_data z) (firsts.Aside (code.ClaimId slot)) (Moved I1)) (sym of_slot)
        (subst (λ (y : SeatData). StepTold t t i (seat_at (seat_data x) (points.Call (begins.ClaimId slot socket))) y (firsts.Aside (code.ClaimId slot)) (Moved I1)) (sym news) (slot_passed t (seat_data x) i slot socket h)))

-- the tables as they lie in memory
pub passed_along : {m n fresh : MachineState} {i : ℕ} {tick : Tick} → m ≡ n → HasPassed m fresh i tick → HasPassed n fresh i tick
passed_along {m} {n} {fresh} {i} {tick} e h = subst (λ (x : MachineState). HasPassed x fresh i tick) e h
