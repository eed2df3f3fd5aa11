-- What a step of a seat makes of the core: the seats of clients stand before those of readers.
use Rattle.std.proofs.Common.{◌≡◌, ◌≢◌, refl, ℕ, zero, suc, ◌+◌, ◌-◌, ◌<◌, ◌≤◌, List, [], ◌∷◌, ◌++◌, map, length, replicate, slice_set, slice_index_or, Option, ap, ap₂, sym, ◌∙◌, arith}
use Rattle.std.proofs.lemmas.List.{map-set, set-append_left}
use Rattle.std.proofs.Math.ListN.{length-map}
use mathlib.Core.Option as core
use lib.ListN.{get_elem?}
use Rattle.sock_words.specs.declared.plain.Plan.{Plan}
use Rattle.sock_words.specs.declared.outcome.Outcome.{Outcome}
use Rattle.sock_model.specs.declared.home.Home.{Home}
use Rattle.seat_programs.specs.declared.task.Sizes.{Sizes}
use Rattle.seat_programs.specs.LoopHeads.{Retry}
use Rattle.seat_programs.specs.Programs.{Program}
use Rattle.seat_programs.specs.Cores.{Calls, Core, SeatState, resolved, still_waiting, said, next_step, waiting_at, with_seat}
use Rattle.call_slots.specs.CallSlotState.{calls_with}
use Rattle.client_seats.specs.ClientSeatState.{SeatData, seat_program}
use Rattle.reader_seats.specs.ReaderState.{ReaderData, reader_program}
use Rattle.reader_seats.specs.ReaderGoesOn.{GoesOn}
use Rattle.machine_model.specs.MachineLinks.{LinksData, Taken, Given, homes_of, hand_of}
use Rattle.machine_model.specs.Machines.{MachineState, SameGivens, READERS, between, state_of, clients_with, readers_with, resting, seats_with, waiting_of, given_by, calls_of, core_with, machine_sizes, table_of}
use Rattle.machine_model.specs.MachineSteps.{Goes}
use Rattle.machine_rules.proofs.LinkChanges.{Changed}
use Rattle.machine_rules.proofs.RangeLists.{get-behind, set-behind}
use Rattle.corr_core.proofs.NoteSums.{at_length}

-- ## Records by their fields

seat_is : (a b : Program) (hs gs : List Home) → a ≡ b → hs ≡ gs → (let s : SeatState = record { program = a; hand = hs } in s) ≡ (record { program = b; hand = gs })
seat_is a b hs gs e f = λ k. record { program = e k; hand = f k }

pub core_is : (ws vs : List ℕ) (hs gs : List (core.Option Home)) (ss ts : List SeatState) (os us : List (Option Outcome)) (a b : Calls) → ws ≡ vs → hs ≡ gs → ss ≡ ts → os ≡ us → a ≡ b →
    (let c : Core = record { words = ws; homes = hs; seats = ss; outcomes = os; calls = a } in c) ≡ (record { words = vs; homes = gs; seats = ts; outcomes = us; calls = b })
core_is ws vs hs gs ss ts os us a b e f g h o = λ k. record { words = e k; homes = f k; seats = g k; outcomes = h k; calls = o k }

-- ## Lists

length-set' : {A : Type 0} (xs : List A) (i : ℕ) (x : A) → length (slice_set xs i x) ≡ length xs
length-set' [] i x = refl
length-set' (y ∷ xs) zero x = refl
length-set' (y ∷ xs) (suc i) x = ap suc (length-set' xs i x)

pub at_front : {A : Type 0} (xs ys : List A) (i : ℕ) (x : A) → get_elem? xs i ≡ core.some x → get_elem? (xs ++ ys) i ≡ core.some x
at_front [] ys i x e = absurd (core.some-ne-none x (sym e))
at_front (y ∷ xs) ys zero x e = e
at_front (y ∷ xs) ys (suc i) x e = at_front xs ys i x e

-- the retries of a seat that has some
pub index_front : (ws vs : List (List Retry)) (i : ℕ) (w : List Retry) → get_elem? ws i ≡ core.some w → slice_index_or (ws ++ vs) i [] ≡ w
index_front [] vs i w e = absurd (core.some-ne-none w (sym e))
index_front (x ∷ ws) vs zero w e = core.some-injective x w e
index_front (x ∷ ws) vs (suc i) w e = index_front ws vs i w e

-- ## The seats

module _ (p : Plan) (l l' : LinksData) (took later : Taken) where
  abbrev SameHand : ℕ → Type 0
  SameHand j = hand_of l' p.links later j ≡ hand_of l p.links took j

  clients_past : (sizes : Sizes) (a : ℕ) (seats : List SeatData) → ((j : ℕ) → a < j → SameHand j) → clients_with p l' later sizes (a + 1) seats ≡ clients_with p l took sizes (a + 1) seats
  clients_past sizes a [] same = refl
  clients_past sizes a (seat ∷ seats) same = ap₂ (λ (s : SeatState) ss. s ∷ ss) (seat_is _ _ _ _ refl (same (a + 1) (omega arith))) (clients_past sizes (a + 1) seats (λ j past. same j (omega (arith, past))))

  clients_set : (sizes : Sizes) (a : ℕ) (seats : List SeatData) (i : ℕ) (seat' : SeatData) (s : SeatState) → state_of p l' later (seat_program sizes seat') (a + i) ≡ s → ((j : ℕ) → j ≢ a + i → SameHand j) →
      clients_with p l' later sizes a (slice_set seats i seat') ≡ slice_set (clients_with p l took sizes a seats) i s
  clients_set sizes a [] i seat' s here same = refl
  clients_set sizes a (seat ∷ seats) zero seat' s here same = ap₂ (λ (s : SeatState) ss. s ∷ ss) (ap (state_of p l' later (seat_program sizes seat')) (omega arith) ∙ here) (clients_past sizes a seats (λ j past. same j (λ e. omega (arith, past, e))))
  clients_set sizes a (seat ∷ seats) (suc i) seat' s here same = ap₂ (λ (s : SeatState) ss. s ∷ ss) (seat_is _ _ _ _ refl (same a (λ e. omega (arith, e))))
      (clients_set sizes (a + 1) seats i seat' s (ap (state_of p l' later (seat_program sizes seat')) (omega arith) ∙ here) (λ j differ. same j (λ e. differ (omega (arith, e)))))

  clients_same : (sizes : Sizes) (a : ℕ) (seats : List SeatData) → ((j : ℕ) → a ≤ j → j < a + length seats → SameHand j) → clients_with p l' later sizes a seats ≡ clients_with p l took sizes a seats
  clients_same sizes a [] same = refl
  clients_same sizes a (seat ∷ seats) same = ap₂ (λ (s : SeatState) ss. s ∷ ss) (seat_is _ _ _ _ refl (same a (omega arith) (omega arith))) (clients_same sizes (a + 1) seats (λ j low high. same j (omega (arith, low)) (omega (arith, high))))

  readers_same : (calls : List ℕ) (a : ℕ) (readers : List ReaderData) → ((j : ℕ) → a ≤ j → SameHand j) → readers_with p l' later calls a readers ≡ readers_with p l took calls a readers
  readers_same calls a [] same = refl
  readers_same calls a (r ∷ rs) same = ap₂ (λ (s : SeatState) ss. s ∷ ss) (seat_is _ _ _ _ refl (same a (omega arith))) (readers_same calls (a + 1) rs (λ j past. same j (omega (arith, past))))

  readers_set : (calls : List ℕ) (a : ℕ) (readers : List ReaderData) (i : ℕ) (r' : ReaderData) (s : SeatState) → state_of p l' later (reader_program calls r') (a + i) ≡ s → ((j : ℕ) → a ≤ j → j ≢ a + i → SameHand j) →
      readers_with p l' later calls a (slice_set readers i r') ≡ slice_set (readers_with p l took calls a readers) i s
  readers_set calls a [] i r' s here same = refl
  readers_set calls a (r ∷ rs) zero r' s here same = ap₂ (λ (s : SeatState) ss. s ∷ ss) (ap (state_of p l' later (reader_program calls r')) (omega arith) ∙ here) (readers_same calls (a + 1) rs (λ j past. same j (omega (arith, past)) (λ e. omega (arith, past, e))))
  readers_set calls a (r ∷ rs) (suc i) r' s here same = ap₂ (λ (s : SeatState) ss. s ∷ ss) (seat_is _ _ _ _ refl (same a (omega arith) (λ e. omega (arith, e))))
      (readers_set calls (a + 1) rs i r' s (ap (state_of p l' later (reader_program calls r')) (omega arith) ∙ here) (λ j past differ. same j (omega (arith, past)) (λ e. differ (omega (arith, e)))))

-- a client's seat, as the core has it
pub client_at : (p : Plan) (l : LinksData) (took : Taken) (sizes : Sizes) (a : ℕ) (seats : List SeatData) (i : ℕ) (seat : SeatData) → get_elem? seats i ≡ core.some seat →
    get_elem? (clients_with p l took sizes a seats) i ≡ core.some (state_of p l took (seat_program sizes seat) (a + i))
client_at p l took sizes a [] i seat e = absurd (core.some-ne-none seat (sym e))
client_at p l took sizes a (x ∷ seats) zero seat e = ap core.some (ap₂ (λ j s. state_of p l took (seat_program sizes s) j) (omega arith) (core.some-injective x seat e))
client_at p l took sizes a (x ∷ seats) (suc i) seat e = client_at p l took sizes (a + 1) seats i seat e ∙ ap (λ j. core.some (state_of p l took (seat_program sizes seat) j)) (omega arith)

pub reader_at : (p : Plan) (l : LinksData) (took : Taken) (calls : List ℕ) (a : ℕ) (readers : List ReaderData) (i : ℕ) (reader : ReaderData) → get_elem? readers i ≡ core.some reader →
    get_elem? (readers_with p l took calls a readers) i ≡ core.some (state_of p l took (reader_program calls reader) (a + i))
reader_at p l took calls a [] i reader e = absurd (core.some-ne-none reader (sym e))
reader_at p l took calls a (x ∷ readers) zero reader e = ap core.some (ap₂ (λ j r. state_of p l took (reader_program calls r) j) (omega arith) (core.some-injective x reader e))
reader_at p l took calls a (x ∷ readers) (suc i) reader e = reader_at p l took calls (a + 1) readers i reader e ∙ ap (λ j. core.some (state_of p l took (reader_program calls reader) j)) (omega arith)

pub length_clients : (p : Plan) (l : LinksData) (took : Taken) (sizes : Sizes) (a : ℕ) (seats : List SeatData) → length (clients_with p l took sizes a seats) ≡ length seats
length_clients p l took sizes a [] = refl
length_clients p l took sizes a (seat ∷ seats) = ap suc (length_clients p l took sizes (a + 1) seats)

pub length_many : {A : Type 0} (n : ℕ) (x : A) → length (replicate n x) ≡ n
length_many zero x = refl
length_many (suc n) x = ap suc (length_many n x)

-- the seat of client i in the core
pub seat_at : (m : MachineState) (took : Taken) (i : ℕ) (seat : SeatData) → get_elem? m.seats i ≡ core.some seat → get_elem? (seats_with m took) i ≡ core.some (state_of m.plan m.links took (seat_program (machine_sizes m) seat) i)
seat_at m took i seat at = at_front (clients_with m.plan m.links took (machine_sizes m) 0 m.seats) _ i _ (client_at m.plan m.links took (machine_sizes m) 0 m.seats i seat at ∙ ap (λ (j : ℕ). core.some (state_of m.plan m.links took (seat_program (machine_sizes m) seat) j)) zero_more)
  where
    zero_more : 0 + i ≡ i
    zero_more = omega arith

-- and that of the reader of link k
pub read_at : (m : MachineState) (took : Taken) (k : ℕ) (reader : ReaderData) → length m.seats ≤ READERS → get_elem? m.readers k ≡ core.some reader →
    get_elem? (seats_with m took) (READERS + k) ≡ core.some (state_of m.plan m.links took (reader_program m.calls reader) (READERS + k))
read_at m took k reader few at =
    let clients : List SeatState = clients_with m.plan m.links took (machine_sizes m) 0 m.seats in
    let gap : List SeatState = replicate (between m.seats) resting in
    let readers : List SeatState = readers_with m.plan m.links took m.calls READERS m.readers in
    ap (get_elem? (clients ++ (gap ++ readers))) (let a = length_clients m.plan m.links took (machine_sizes m) 0 m.seats in omega (arith, few, a))
    ∙ get-behind clients (gap ++ readers) (between m.seats + k)
    ∙ ap (get_elem? (gap ++ readers)) (let b = length_many (between m.seats) resting in omega (arith, b))
    ∙ get-behind gap readers k
    ∙ reader_at m.plan m.links took m.calls READERS m.readers k reader at

-- ## A step of a client

module _ (old fresh : MachineState) (i : ℕ) (seat seat' : SeatData) (next : Program) (took later : Taken) (gave : Given) (hand : List Home) (homes : List (core.Option Home)) (words : List ℕ) (at : get_elem? old.seats i ≡ core.some seat) where
  -- what stands aside of the sockets, but for the retries
  abbrev pub calls_by : Calls
  calls_by = calls_with fresh.ids (waiting_of old.seats old.readers) (given_by old.plan.links gave) old.ending

  own_waiting : waiting_at (waiting_of old.seats old.readers) i ≡ seat.waiting
  own_waiting = index_front (map (λ (s : SeatData). s.waiting) old.seats) _ i seat.waiting (at_map old.seats i at)
    where
      at_map : (seats : List SeatData) (j : ℕ) → get_elem? seats j ≡ core.some seat → get_elem? (map (λ (s : SeatData). s.waiting) seats) j ≡ core.some seat.waiting
      at_map [] j e = absurd (core.some-ne-none seat (sym e))
      at_map (x ∷ seats) zero e = ap (λ (s : SeatData). core.some s.waiting) (core.some-injective x seat e)
      at_map (x ∷ seats) (suc j) e = at_map seats j e

  module _ (seats : fresh.seats ≡ slice_set old.seats i seat') (readers : fresh.readers ≡ old.readers) (few : length old.seats ≤ READERS) where
    abbrev set_here : List SeatData
    set_here = slice_set old.seats i seat'

    inside : i < length old.seats
    inside = at_length old.seats i seat at

    same_gap : between set_here ≡ between old.seats
    same_gap = ap (λ (n : ℕ). READERS - n) (length-set' old.seats i seat')

    waiting_set : waiting_of fresh.seats fresh.readers ≡ slice_set (waiting_of old.seats old.readers) i seat'.waiting
    waiting_set = ap₂ waiting_of seats readers
        ∙ ap₂ (λ (ws vs : List (List Retry)). ws ++ vs) (map-set (λ (s : SeatData). s.waiting) old.seats i seat') (ap (λ (n : ℕ). replicate n [] ++ map (λ (r : ReaderData). []) old.readers) same_gap)
        ∙ sym (set-append_left (map (λ (s : SeatData). s.waiting) old.seats) _ i seat'.waiting (let e = length-map old.seats (λ (s : SeatData). s.waiting) in omega (arith, e, inside)))

    -- the seat goes on, and the core is else as it was
    pub client_set : Goes (table_of old) (table_of fresh) seat seat' next → fresh.words ≡ words → Changed old.plan i old.links fresh.links old.letters fresh.letters took later hand homes →
        core_with fresh later gave ≡ with_seat i next hand words homes (record (core_with old took gave) { calls = calls_by })
    client_set goes words_are changed = core_is _ _ _ _ _ _ _ _ _ _ words_are
        (ap (λ (q : Plan). homes_of fresh.links q fresh.letters later) goes.base.plan ∙ changed.homes_are)
        (seats_are ∙ ap (λ (w : List Retry). slice_set (seats_with old took) i (record { program = next_step (resolved w next); hand = hand })) (sym own_waiting))
        (goes.told ∙ ap (λ (w : List Retry). said (resolved w next) old.outcomes) (sym own_waiting))
        calls_are
      where
        own : state_of old.plan fresh.links later (seat_program (machine_sizes old) seat') (0 + i) ≡ (record { program = next_step (resolved seat.waiting next); hand = hand })
        own = ap (λ (j : ℕ). state_of old.plan fresh.links later (seat_program (machine_sizes old) seat') j) zero_more ∙ seat_is _ _ _ _ goes.program changed.own
          where
            zero_more : 0 + i ≡ i
            zero_more = omega arith

        clients : clients_with fresh.plan fresh.links later (machine_sizes fresh) 0 fresh.seats ≡ slice_set (clients_with old.plan old.links took (machine_sizes old) 0 old.seats) i (record { program = next_step (resolved seat.waiting next); hand = hand })
        clients = ap₂ (λ (q : Plan) (sizes : Sizes). clients_with q fresh.links later sizes 0 fresh.seats) goes.base.plan (same_sizes goes.base.plan goes.base.id_plan)
            ∙ ap (clients_with old.plan fresh.links later (machine_sizes old) 0) seats
            ∙ clients_set old.plan old.links fresh.links took later (machine_sizes old) 0 old.seats i seat' _ own (λ j differ. changed.others j (λ e. differ (omega (arith, e))))
          where
            same_sizes : fresh.plan ≡ old.plan → fresh.ids.plan ≡ old.ids.plan → machine_sizes fresh ≡ machine_sizes old
            same_sizes e f = ap₂ (λ p q. (record { slots = p.slots; requests = p.requests; ids = q.slots })) e f

        others : replicate (between fresh.seats) resting ++ readers_with fresh.plan fresh.links later fresh.calls READERS fresh.readers ≡ replicate (between old.seats) resting ++ readers_with old.plan old.links took old.calls READERS old.readers
        others = ap₂ (λ (gap rs : List SeatState). gap ++ rs) (ap (λ (n : ℕ). replicate n resting) (ap between seats ∙ same_gap))
            (ap₂ (λ (q : Plan) (calls : List ℕ). readers_with q fresh.links later calls READERS fresh.readers) goes.base.plan goes.base.calls
            ∙ ap (readers_with old.plan fresh.links later old.calls READERS) readers
            ∙ readers_same old.plan old.links fresh.links took later old.calls READERS old.readers (λ j past. changed.others j (λ e. far j past e)))
          where
            far : (j : ℕ) → READERS ≤ j → j ≡ i → ⊥
            far j past e = omega (arith, past, e, inside, few)

        seats_are : seats_with fresh later ≡ slice_set (seats_with old took) i (record { program = next_step (resolved seat.waiting next); hand = hand })
        seats_are = ap₂ (λ (cs os : List SeatState). cs ++ os) clients others
            ∙ sym (set-append_left (clients_with old.plan old.links took (machine_sizes old) 0 old.seats) _ i _ (let e = length_clients old.plan old.links took (machine_sizes old) 0 old.seats in omega (arith, e, inside)))

        calls_are : calls_of fresh gave ≡ (record calls_by { waiting = slice_set (waiting_of old.seats old.readers) i (still_waiting (waiting_at (waiting_of old.seats old.readers) i) next) })
        calls_are = ap₂ (λ (ws : List (List Retry)) (q : Plan). calls_with fresh.ids ws (given_by q.links gave) fresh.ending) (waiting_set ∙ ap (slice_set (waiting_of old.seats old.readers) i) (goes.waiting ∙ ap (λ (w : List Retry). still_waiting w next) (sym own_waiting))) goes.base.plan
            ∙ ap (λ e. calls_with fresh.ids (slice_set (waiting_of old.seats old.readers) i (still_waiting (waiting_at (waiting_of old.seats old.readers) i) next)) (given_by old.plan.links gave) e) goes.base.ending

-- ## A step of a reader

-- no reader keeps a retry
abbrev no_retries : List Retry
no_retries = []

none_of : (n : ℕ) (readers : List ReaderData) (j : ℕ) → slice_index_or (replicate n no_retries ++ map (λ (r : ReaderData). no_retries) readers) j no_retries ≡ no_retries
none_of zero [] j = refl
none_of zero (r ∷ rs) zero = refl
none_of zero (r ∷ rs) (suc j) = none_of zero rs j
none_of (suc n) readers zero = refl
none_of (suc n) readers (suc j) = none_of n readers j

index_behind : (ws vs : List (List Retry)) (j : ℕ) → ((i : ℕ) → slice_index_or vs i [] ≡ []) → length ws ≤ j → slice_index_or (ws ++ vs) j [] ≡ []
index_behind [] vs j empty past = empty j
index_behind (w ∷ ws) vs zero empty past = absurd (omega (arith, past))
index_behind (w ∷ ws) vs (suc j) empty past = index_behind ws vs j empty (omega (arith, past))

set_empty : (ws : List (List Retry)) (j : ℕ) → slice_index_or ws j [] ≡ [] → slice_set ws j [] ≡ ws
set_empty [] j e = refl
set_empty (w ∷ ws) zero e = ap (λ (v : List Retry). v ∷ ws) (sym e)
set_empty (w ∷ ws) (suc j) e = ap (λ (vs : List (List Retry)). w ∷ vs) (set_empty ws j e)

as_many : (readers : List ReaderData) (k : ℕ) (r : ReaderData) → map (λ (x : ReaderData). no_retries) (slice_set readers k r) ≡ map (λ (x : ReaderData). no_retries) readers
as_many [] k r = refl
as_many (x ∷ readers) zero r = refl
as_many (x ∷ readers) (suc k) r = ap (λ (ws : List (List Retry)). [] ∷ ws) (as_many readers k r)

pub reader_waiting : (seats : List SeatData) (readers : List ReaderData) (k : ℕ) → length seats ≤ READERS → waiting_at (waiting_of seats readers) (READERS + k) ≡ []
reader_waiting seats readers k few = index_behind (map (λ (s : SeatData). s.waiting) seats) _ (READERS + k) (none_of (between seats) readers) (let e = length-map seats (λ (s : SeatData). s.waiting) in omega (arith, e, few))

-- what no step of a reader changes beside its own
pub record Stays (old fresh : MachineState) : Type 0 where
  pub plans : SameGivens (table_of old) (table_of fresh)
  pub open plans use *
  pub seats : fresh.seats ≡ old.seats

module _ (old fresh : MachineState) (k : ℕ) (reader reader' : ReaderData) (next : Program) (took later : Taken) (gave later_gave : Given) (hand : List Home) (homes : List (core.Option Home)) (words : List ℕ) (at : get_elem? old.readers k ≡ core.some reader)
    (stays : Stays old fresh) (readers : fresh.readers ≡ slice_set old.readers k reader') (few : length old.seats ≤ READERS) where
  abbrev pub calls_read : Calls
  calls_read = calls_with fresh.ids (waiting_of old.seats old.readers) (given_by old.plan.links later_gave) old.ending

  abbrev none_waits : waiting_at (waiting_of old.seats old.readers) (READERS + k) ≡ []
  none_waits = reader_waiting old.seats old.readers k few

  same_waiting : waiting_of fresh.seats fresh.readers ≡ waiting_of old.seats old.readers
  same_waiting = ap₂ waiting_of stays.seats readers ∙ ap (λ (ws : List (List Retry)). map (λ (s : SeatData). s.waiting) old.seats ++ (replicate (between old.seats) [] ++ ws)) (as_many old.readers k reader')

  -- the reader goes on, and the core is else as it was
  pub reader_set : GoesOn old.calls next reader' old.outcomes fresh.outcomes → fresh.words ≡ words → Changed old.plan (READERS + k) old.links fresh.links old.letters fresh.letters took later hand homes →
      core_with fresh later later_gave ≡ with_seat (READERS + k) next hand words homes (record (core_with old took gave) { calls = calls_read })
  reader_set goes words_are changed = core_is _ _ _ _ _ _ _ _ _ _ words_are
      (ap (λ (q : Plan). homes_of fresh.links q fresh.letters later) stays.plan ∙ changed.homes_are)
      (seats_are ∙ ap (λ (w : List Retry). slice_set (seats_with old took) (READERS + k) (record { program = next_step (resolved w next); hand = hand })) (sym none_waits))
      (goes.told ∙ ap (λ (w : List Retry). said (resolved w next) old.outcomes) (sym none_waits))
      calls_are
    where
      now : SeatState
      now = record { program = next_step (resolved [] next); hand = hand }

      same_sizes : fresh.plan ≡ old.plan → fresh.ids.plan ≡ old.ids.plan → machine_sizes fresh ≡ machine_sizes old
      same_sizes e f = ap₂ (λ p q. (record { slots = p.slots; requests = p.requests; ids = q.slots })) e f

      clients : clients_with fresh.plan fresh.links later (machine_sizes fresh) 0 fresh.seats ≡ clients_with old.plan old.links took (machine_sizes old) 0 old.seats
      clients = ap₂ (λ (q : Plan) (sizes : Sizes). clients_with q fresh.links later sizes 0 fresh.seats) stays.plan (same_sizes stays.plan stays.id_plan)
          ∙ ap (clients_with old.plan fresh.links later (machine_sizes old) 0) stays.seats
          ∙ clients_same old.plan old.links fresh.links took later (machine_sizes old) 0 old.seats (λ j low high. changed.others j (λ e. omega (arith, few, high, e)))

      own : state_of old.plan fresh.links later (reader_program old.calls reader') (READERS + k) ≡ now
      own = seat_is _ _ _ _ goes.program changed.own

      read : readers_with fresh.plan fresh.links later fresh.calls READERS fresh.readers ≡ slice_set (readers_with old.plan old.links took old.calls READERS old.readers) k now
      read = ap₂ (λ (q : Plan) (calls : List ℕ). readers_with q fresh.links later calls READERS fresh.readers) stays.plan stays.calls
          ∙ ap (readers_with old.plan fresh.links later old.calls READERS) readers
          ∙ readers_set old.plan old.links fresh.links took later old.calls READERS old.readers k reader' now own (λ j past differ. changed.others j differ)

      seats_are : seats_with fresh later ≡ slice_set (seats_with old took) (READERS + k) now
      seats_are = ap₂ (λ (cs os : List SeatState). cs ++ os) clients (ap₂ (λ (gap rs : List SeatState). gap ++ rs) (ap (λ (ss : List SeatData). replicate (between ss) resting) stays.seats) read)
          ∙ ap (λ (os : List SeatState). clients_with old.plan old.links took (machine_sizes old) 0 old.seats ++ os) (sym (set-behind (replicate (between old.seats) resting) _ k now))
          ∙ sym (set-behind (clients_with old.plan old.links took (machine_sizes old) 0 old.seats) _ (length (replicate (between old.seats) resting) + k) now)
          ∙ ap (λ (n : ℕ). slice_set (seats_with old took) n now) (let a = length_clients old.plan old.links took (machine_sizes old) 0 old.seats in let b = length_many (between old.seats) resting in omega (arith, a, b, few))

      calls_are : calls_of fresh later_gave ≡ (record calls_read { waiting = slice_set (waiting_of old.seats old.readers) (READERS + k) (still_waiting (waiting_at (waiting_of old.seats old.readers) (READERS + k)) next) })
      calls_are = ap₂ (λ (ws : List (List Retry)) (q : Plan). calls_with fresh.ids ws (given_by q.links later_gave) fresh.ending) (same_waiting ∙ sym (ap (slice_set (waiting_of old.seats old.readers) (READERS + k)) (ap (λ (w : List Retry). still_waiting w next) none_waits ∙ goes.waiting) ∙ set_empty (waiting_of old.seats old.readers) (READERS + k) none_waits)) stays.plan
          ∙ ap (λ e. calls_with fresh.ids (slice_set (waiting_of old.seats old.readers) (READERS + k) (still_waiting (waiting_at (waiting_of old.seats old.readers) (READERS + k)) next)) (given_by old.plan.links later_gave) e) stays.ending
