-- What is known of the seat that a tick moves: how it stands by a law of the seats, its view of ids, and what its next step may be.
use Rattle.std.proofs.Common.{◌≡◌, ℕ, ◌≤◌, Bool, true, false, List, ◌++◌, length, set, refl, subst}
use mathlib.Core.Option.{Option, some, none}
use lib.ListN.{get_elem?}
use Rattle.atomic_table.proofs.Lists.{set_again}
use Rattle.sock_words.specs.declared.plain.Plan.{Plan}
use Rattle.corr_core.specs.declared.marks.Plan.{Plan as IdPlan}
use Rattle.sock_io.specs.declared.link.Put.{Put}
use Rattle.sock_io.specs.declared.link.Ready.{Ready}
use Rattle.sock_model.specs.declared.chain.Heading.{Heading}
use Rattle.sock_model.specs.declared.chain.Right.{Right}
use Rattle.sock_model.specs.declared.home.Home.{Home}
use Rattle.sock_model.specs.declared.view.View.{View}
use Rattle.sock_model.specs.ChainRows.{taken_right}
use Rattle.seat_programs.specs.Asides.{Step, Found}
use Rattle.seat_programs.specs.FoundAndChangedAside.{found_in, calls_after}
use Rattle.seat_programs.specs.TableSteps.{TableStep}
use Rattle.seat_programs.specs.Programs.{Program, Do, TakeMessage, TakeHome, PutHome, PutBytes, AskReady, Write, Aside, Round}
use Rattle.seat_programs.specs.Cores.{Core, SeatState, found_at, lies_at, first_of, others_of, link_place, with_seat, stepped}
use Rattle.seat_programs.specs.StepTables.{word_of}
use Rattle.seat_programs.specs.Ticks.{Moment, IsAnswered, fed, with_places, onto_first, taken, ticked}
use Rattle.call_causes.specs.Below.id_runs.specs.HeldIdTokens.{IdView}
use Rattle.call_causes.specs.Below.id_runs.specs.Goes.{IdGoesOn, SoundIds}
use Rattle.call_causes.specs.Below.id_runs.proofs.IdLoopRounds.{ids_round}
use Rattle.call_causes.specs.Below.id_runs.proofs.IdPrograms as id_programs
use Rattle.seat_programs.specs.StepTables.{row, hand_at}
use Rattle.seat_programs.specs.StepsOfMessages.{took_message}
use Rattle.seat_programs.specs.StepsOfLinks.{link_away, link_home_again, took_bytes}
use Rattle.outcome_causes.specs.program_steps.specs.ProgramGoesOn.{GoesOn}
use Rattle.outcome_causes.specs.program_steps.specs.SoundSeats.{Sound, views_after}
use Rattle.outcome_causes.specs.program_steps.proofs.TickCases.{with_rights, right_rights, put_rights, tick_cases, elem_there}
use Rattle.seat_programs.specs.LoopRounds.{first_step}

pub ids_first : (p : Plan) (q : IdPlan) → q.slots ≤ 65536 → (u : IdView) (program : Program) → IdGoesOn p q u program → IdGoesOn p q u (first_step program)
ids_first p q narrow u (Write w after) g = id_programs.block_goes p q narrow u w after g
ids_first p q narrow u (Round head next) g = ids_round p q u head next g
ids_first p q narrow u _ g = g

module _ {T : Type 0} (L : T → Program → Type 0) (first : (t : T) (x : Program) → L t x → L t (first_step x)) (p : Plan) (q : IdPlan) (narrow : q.slots ≤ 65536) (c : Core) (ts : List T) (each : length ts ≡ length c.seats)
    (programs : (j : ℕ) (seat : SeatState) (t : T) → get_elem? c.seats j ≡ some seat → get_elem? ts j ≡ some t → L t seat.program) (us : List IdView) (ids : SoundIds p q c us) (i : ℕ) where
  pub record SeatFacts : Type 0 where
    pub stand_of : (seat : SeatState) → get_elem? c.seats i ≡ some seat → (t : T) × (get_elem? ts i ≡ some t)
    pub view_of : (seat : SeatState) → get_elem? c.seats i ≡ some seat → (u : IdView) × (get_elem? us i ≡ some u)
    pub first_as : (seat : SeatState) (at : get_elem? c.seats i ≡ some seat) (x : Program) → first_step seat.program ≡ x → L (stand_of seat at).0 x
    pub may_as : (seat : SeatState) (at : get_elem? c.seats i ≡ some seat) (x : Program) → first_step seat.program ≡ x → IdGoesOn p q (view_of seat at).0 x

  stands : (seat : SeatState) → get_elem? c.seats i ≡ some seat → (t : T) × (get_elem? ts i ≡ some t)
  stands seat at = elem_there c.seats ts i seat each at

  views : (seat : SeatState) → get_elem? c.seats i ≡ some seat → (u : IdView) × (get_elem? us i ≡ some u)
  views seat at = elem_there c.seats us i seat ids.each at

  pub seat_facts : SeatFacts
  seat_facts = record {
    stand_of = stands;
    view_of = views;
    first_as = λ seat at x is. let t = stands seat at in subst (L t.0) is (first t.0 seat.program (programs i seat t.0 at t.1));
    may_as = λ seat at x is. let u = views seat at in subst (IdGoesOn p q u.0) is (ids_first p q narrow u.0 seat.program (ids.seats i seat u.0 at u.1));
  }

-- Behind a move of a message or a link, or a question to a link, a seat stands at rest.
module _ {T : Type 0} (L : T → Program → Type 0) (rest : T) where
  pub record ComesToRest : Type 0 where
    pub message : (t : T) (q : ℕ) (next : Heading → List ℕ → Program) → L t (TakeMessage q next) → (heading : Heading) (bytes : List ℕ) → L rest (next heading bytes)
    pub home : (t : T) (k : ℕ) (next : ℕ → Program) → L t (TakeHome k next) → (places : ℕ) → L rest (next places)
    pub puts_home : (t : T) (k n : ℕ) (after : Program) → L t (PutHome k n after) → L rest after
    pub put : (t : T) (k : ℕ) (asked : Bool) (bytes : List ℕ) (next : Put → Program) → L t (PutBytes k asked bytes next) → (answer : Put) → L rest (next answer)
    pub ask : (t : T) (k : ℕ) (next : Ready → Program) → L t (AskReady k next) → (answer : Ready) → L rest (next answer)

-- a tick, where these are taken as one
module _ {T : Type 0} (L : T → Program → Type 0) (rest : T) (rests : ComesToRest L rest) (p : Plan) (c : Core) (vs : List View) (m : Moment) (sound : Sound p c vs) (answered : IsAnswered c m) (P : Core → List View → Type 0) (before : P c vs)
    (state : (seat : SeatState) (v : View) → get_elem? c.seats m.seat ≡ some seat → get_elem? vs m.seat ≡ some v → (x : Program) → first_step seat.program ≡ x → T)
    (first : (seat : SeatState) (v : View) (at : get_elem? c.seats m.seat ≡ some seat) (here : get_elem? vs m.seat ≡ some v) (x : Program) (is : first_step seat.program ≡ x) → L (state seat v at here x is) x)
    (moves : (seat : SeatState) (v : View) → get_elem? c.seats m.seat ≡ some seat → get_elem? vs m.seat ≡ some v → (x : Program) (hand : List Home) (hs : List (Option Home)) (w : View) (rights : List Right) → w ≡ with_rights v rights → L rest x
    → P (with_seat m.seat x hand c.words hs c) (set vs m.seat w))
    (step : (seat : SeatState) (v : View) (call : TableStep) (next : ℕ → Program) → get_elem? c.seats m.seat ≡ some seat → get_elem? vs m.seat ≡ some v → first_step seat.program ≡ Do call next → GoesOn p v (Do call next)
    → P (stepped p m.seat seat call next c) (set vs m.seat (row p call (found_at c.words (word_of p call)) (hand_at p c.words c.homes call) v)))
    (aside : (seat : SeatState) (v : View) (s : Step) (next : Found s → Program) (found : Found s) → get_elem? c.seats m.seat ≡ some seat → get_elem? vs m.seat ≡ some v → first_step seat.program ≡ Aside s next → GoesOn p v (Aside s next)
    → found_in s c.calls (taken m.answer) ≡ some found → P (with_seat m.seat (next found) seat.hand c.words c.homes (record c { calls = calls_after s found c.calls })) vs) where
  pub tick_moves : P (ticked p c m) (views_after p c vs m)
  tick_moves = tick_cases p c vs m sound answered P before step
      (λ seat v q next heading bytes at here is goes lies. let w = right_rights v v.rights (λ x. taken_right x heading bytes) in
      moves seat v at here (next heading bytes) seat.hand (set c.homes q none) (took_message heading bytes v) w.0 w.1 (rests.message (state seat v at here (TakeMessage q next) is) q next (first seat v at here (TakeMessage q next) is) heading bytes))
      (λ seat v k next took n at here is goes lies. let w = right_rights v v.rights (λ x. record x { at_home = false }) in
      moves seat v at here (next n) (lies_at c.homes (link_place p k) ++ seat.hand) (set c.homes (link_place p k) none) (link_away v) w.0 w.1 (rests.home (state seat v at here (TakeHome k next) is) k next (first seat v at here (TakeHome k next) is) n))
      (λ seat v k n after at here is goes. let w = right_rights v v.rights (λ x. record x { at_home = true }) in
      moves seat v at here after (others_of seat.hand) (set c.homes (link_place p k) (first_of (onto_first (with_places n) seat.hand))) (link_home_again v) w.0 w.1 (rests.puts_home (state seat v at here (PutHome k n after) is) k n after (first seat v at here (PutHome k n after) is)))
      (λ seat v k asked bytes next answer at here is goes answer_is fits. let w = put_rights v answer in
      moves seat v at here (next answer) (onto_first (fed bytes answer) seat.hand) c.homes (took_bytes answer v) w.0 w.1 (rests.put (state seat v at here (PutBytes k asked bytes next) is) k asked bytes next (first seat v at here (PutBytes k asked bytes next) is) answer))
      (λ seat v k next answer at here is goes answer_is. subst (λ xs. P (with_seat m.seat (next answer) seat.hand c.words c.homes c) xs) (set_again vs m.seat v here)
      (moves seat v at here (next answer) seat.hand c.homes v v.rights refl (rests.ask (state seat v at here (AskReady k next) is) k next (first seat v at here (AskReady k next) is) answer)))
      aside
