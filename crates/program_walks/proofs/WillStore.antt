-- A client that has an `open` to make stores its word, so where it is at rest that word isn't 0.
use Rattle.std.proofs.Common.{◌≡◌, ◌≢◌, ℕ, zero, suc, ◌+◌, ◌<◌, ◌⊎◌, inl, inr, ⊎_elim, ◌==◌, ◌&&◌, Bool, true, false, eqb, eq-eqb, eqb-true, List, [], ◌∷◌, get_or, set, get_or-set_same, refl, sym, ap, ◌∙◌, subst, arith}
use Rattle.std.proofs.lemmas.Bool.{true≢false}
use mathlib.Core.Option.{Option, some}
use lib.ListN.{get_elem?}
use Rattle.atomic_table.proofs.Lists.{at_set}
use Rattle.sock_words.specs.declared.plain.Plan.{Plan}
use Rattle.sock_model.specs.declared.home.Home.{Home}
use Rattle.sock_model.specs.declared.view.View.{View}
use Rattle.sock_model.specs.SocketTableLayout.{open_index}
use Rattle.sock_steps.proofs.SumsAsMarksChange.{either_way}
use Rattle.seat_programs.specs.declared.task.Op.{Op}
use Rattle.seat_programs.specs.declared.task.Op.TheVariants as ops
use Rattle.seat_programs.specs.declared.task.Task.{Task}
use Rattle.seat_programs.specs.declared.task.Sizes.{Sizes}
use Rattle.seat_programs.specs.TableSteps.{TableStep, OnName, StoreOpen}
use Rattle.seat_programs.specs.Programs.{Program, Do, Rest, open_from, make_socket}
use Rattle.seat_programs.specs.ClientProgram.{HeldLife, operation, client_from}
use Rattle.seat_programs.specs.Cores.{Calls, Core, SeatState, found_at, hand_after, resolved, next_step, waiting_at, with_seat, stepped}
use Rattle.seat_programs.specs.StepTables.{word_of}
use Rattle.seat_programs.specs.Ticks.{Moment, ticked, run, IsAnswered, AreAnswered}
use Rattle.seat_programs.specs.StepTables.{May}
use Rattle.sock_runs.specs.program_steps.specs.SoundSeats.{Sound, IsFitting, AreFitting, views_after}
use Rattle.sock_runs.specs.program_steps.proofs.AtCalls.{AtCalls, every_exit}
use Rattle.program_walks.proofs.Through.{Passes, PassesOpens, Follows, at_calls_passes, at_calls_follow, comes_follows}
use Rattle.program_walks.proofs.ThroughCalls.{through_first, through_next}
use Rattle.program_walks.proofs.ThroughClients.{through_any}
use Rattle.sock_runs.specs.program_steps.proofs.TickCases.{ComesNext, tick_keeps_marks}
use Rattle.sock_runs.proofs.LinkTicks.{RetriesGo}
use Rattle.sock_runs.proofs.TicksKeepSeatsSound.{sound_ticks}
use Rattle.program_walks.proofs.OpenedLivesRecorded.{is_opening, opens_in, or_cases, second_true}
use Rattle.program_walks.proofs.ReaderSeats.{stays_stored, stored_some}
use Rattle.seat_programs.specs.LoopRounds.{first_step}

abbrev pub WillStoreAt : ℕ → Unit {0} → TableStep → (ℕ → Program) → (Unit {0} → ℕ → Type 0) → Type 0
WillStoreAt o s (OnName (StoreOpen n w)) next behind = (n ≡ o) ⊎ ((found : ℕ) → behind tt found)
WillStoreAt o s call next behind = (found : ℕ) → behind tt found

abbrev pub WillStore : ℕ → Program → Type 0
WillStore o program = AtCalls ⊥ (WillStoreAt o) every_exit tt program

any_call : (o : ℕ) (call : TableStep) (next : ℕ → Program) → ((found : ℕ) → WillStore o (next found)) → WillStore o (Do call next)
any_call o (OnName (StoreOpen n w)) next r = inr r
any_call o call next r = r

pub will_passes : (o : ℕ) → Passes (WillStore o)
will_passes o = at_calls_passes ⊥ (WillStoreAt o) every_exit tt (λ call next s b l r. any_call o call next r) (λ head l next r. r)

will_opens : (o : ℕ) → PassesOpens (WillStore o)
will_opens o = record { load = λ n next r. r; wait = λ n next r. r }

pub will_follow : (o : ℕ) → Follows (WillStore o)
will_follow o = at_calls_follow ⊥ (WillStoreAt o) every_exit tt (λ head next r. r)

-- ## Clients

module _ (o : ℕ) where
  abbrev G : Program → Type 0
  G = WillStore o

  -- an `open` stores its word, whatever follows
  own_open : (more i name k : ℕ) (next : Program) → G (open_from more i o name k next)
  own_open zero i name k next = λ _ _ _. inl refl
  own_open (suc more) i name k next = λ found. either_way (found == 0) (make_socket o name k i next) (open_from more (i + 1) o name k next) (WillStore o) (λ _ _ _ _. inl refl) (own_open more (i + 1) name k next)

  other_open : (more i n name k : ℕ) (next : Program) → G next → G (open_from more i n name k next)
  other_open zero i n name k next after = λ _ _ _. inr (λ _. after)
  other_open (suc more) i n name k next after = λ found. either_way (found == 0) (make_socket n name k i next) (open_from more (i + 1) n name k next) (WillStore o) (λ _ _ _ _. inr (λ _ _. after)) (other_open more (i + 1) n name k next after)

  own_operation : (sizes : Sizes) (held : List HeldLife) (next : List HeldLife → Program) (op : Op) → is_opening op ≡ true → G (operation sizes held o next op)
  own_operation sizes held next (ops.Open name k) e = own_open sizes.slots 0 name k (next held)
  own_operation sizes held next _ e = absurd (true≢false (sym e))

  first_true : (a b : Bool) → (a && b) ≡ true → a ≡ true
  first_true true b e = refl
  first_true false b e = e

  pub will_client : (sizes : Sizes) (ts : List Task) (held : List HeldLife) → opens_in ts o ≡ true → G (client_from sizes held ts)
  will_client sizes [] held there = absurd (true≢false (sym there))
  will_client sizes (t ∷ ts) held there = or_cases (is_opening t.op && (t.number == o)) (opens_in ts o) (G (client_from sizes held (t ∷ ts)))
      (λ here. subst (λ n. G (operation sizes held n (λ h. client_from sizes h ts) t.op)) (sym (eqb-true t.number o (second_true (is_opening t.op) (t.number == o) here))) (own_operation sizes held (λ h. client_from sizes h ts) t.op (first_true (is_opening t.op) (t.number == o) here)))
      (λ later. let after : (h : List HeldLife) → G (client_from sizes h ts) = λ h. will_client sizes ts h later in
      -- any other operation leaves what is to be stored
      through_any G (will_passes o) sizes held t.number (λ h. client_from sizes h ts) t.op after (λ name k e. other_open sizes.slots 0 t.number name k (client_from sizes held ts) (after held))) there

-- ## Over a run

-- the word of operation o is stored, or seat j stores it
abbrev pub IsToStore : Plan → ℕ → ℕ → Core → Type 0
IsToStore p j o c = (get_or c.words (open_index p o) 0 ≢ 0) ⊎ ((seat : SeatState) → get_elem? c.seats j ≡ some seat → WillStore o seat.program)

module _ (p : Plan) (j o : ℕ) (inside : o < p.operations) where
  module _ (c : Core) (vs : List View) (m : Moment) (sound : Sound p c vs) (answered : IsAnswered c m) (fitting : IsFitting p c m) where
    on_call : (seat : SeatState) (v : View) (call : TableStep) (next : ℕ → Program) → get_elem? c.seats m.seat ≡ some seat → first_step seat.program ≡ Do call next → May p v call → IsToStore p j o c → IsToStore p j o (stepped p m.seat seat call next c)
    on_call seat v call next at_seat is may (inl some_) = inl (stays_stored p c v o inside sound.lawful.references.sized call may some_)
    on_call seat v call next at_seat is may (inr will) = by_call call may is
      where
        others : (call : TableStep) (next : ℕ → Program) → ((found : ℕ) → j ≡ m.seat → WillStore o (next found)) → (s : SeatState) → get_elem? (stepped p m.seat seat call next c).seats j ≡ some s → WillStore o s.program
        others call next goes s at = ⊎_elim
            (λ a. subst (λ (x : SeatState). WillStore o x.program) a.1 (through_next (WillStore o) (will_passes o) (will_follow o) (waiting_at c.calls.waiting m.seat) (next (found_at c.words (word_of p call))) (goes (found_at c.words (word_of p call)) a.0)))
            (λ a. will s a.1) (at_set c.seats m.seat j (record { program = next_step (resolved (waiting_at c.calls.waiting m.seat) (next (found_at c.words (word_of p call)))); hand = hand_after p call c.homes seat.hand }) s at)

        mine : (call : TableStep) → first_step seat.program ≡ Do call next → j ≡ m.seat → WillStore o (Do call next)
        mine call is e = subst (WillStore o) is (through_first (WillStore o) (will_passes o) (will_opens o) (will_follow o) seat.program (will seat (ap (get_elem? c.seats) e ∙ at_seat)))

        by_call : (call : TableStep) → May p v call → first_step seat.program ≡ Do call next → IsToStore p j o (stepped p m.seat seat call next c)
        by_call (OnName (StoreOpen n w)) may is = by_own (eqb n o) refl
          where
            by_own : (b : Bool) → (n == o) ≡ b → IsToStore p j o (stepped p m.seat seat (OnName (StoreOpen n w)) next c)
            by_own true e = let same = eqb-true n o e in inl (λ z. stored_some p v w may.1 (sym (ap (λ k. get_or (set c.words (open_index p n) w) (open_index p k) 0) (sym same) ∙ get_or-set_same c.words (open_index p n) w 0 (omega (arith, inside, same, sound.lawful.references.sized))) ∙ z))
            by_own false e = inr (others (OnName (StoreOpen n w)) next (λ found f. ⊎_elim (λ same. absurd (true≢false (sym (eq-eqb n o same) ∙ e))) (λ r. r found) (mine (OnName (StoreOpen n w)) is f)))
        by_call call may is = inr (others call next (λ found f. mine call is f found))

    on_other : (seat : SeatState) (program : Program) (hand : List Home) (hs : List (Option Home)) (a : Calls) → get_elem? c.seats m.seat ≡ some seat → ComesNext p (first_step seat.program) program → IsToStore p j o c
        → IsToStore p j o (with_seat m.seat program hand c.words hs (record c { calls = a }))
    on_other seat program hand hs a at_seat comes (inl some_) = inl some_
    on_other seat program hand hs a at_seat comes (inr will) = inr (λ s at. ⊎_elim
        (λ y. subst (λ (x : SeatState). WillStore o x.program) y.1 (through_next (WillStore o) (will_passes o) (will_follow o) (waiting_at a.waiting m.seat) program (comes_follows (WillStore o) (will_follow o) p (first_step seat.program) program comes
        (through_first (WillStore o) (will_passes o) (will_opens o) (will_follow o) seat.program (will seat (ap (get_elem? c.seats) y.0 ∙ at_seat))))))
        (λ y. will s y.1) (at_set c.seats m.seat j (record { program = next_step (resolved (waiting_at a.waiting m.seat) program); hand = hand }) s at))

    store_ticks : IsToStore p j o c → IsToStore p j o (ticked p c m)
    store_ticks before = tick_keeps_marks p c vs m sound answered fitting (λ d ws. IsToStore p j o d) before
        (λ seat v call next at_seat at_view is goes. on_call seat v call next at_seat is goes.0 before)
        (λ seat v program rights hand hs a at_seat at_view comes. on_other seat program hand hs a at_seat comes before)

  -- over every run
  pub run_stores : RetriesGo p → (c : Core) (vs : List View) (moments : List Moment) → Sound p c vs → AreAnswered p c moments → AreFitting p c moments → IsToStore p j o c → IsToStore p j o (run p c moments)
  run_stores go c vs [] sound answered fitting r = r
  run_stores go c vs (m ∷ ms) sound answered fitting r = run_stores go (ticked p c m) (views_after p c vs m) ms (sound_ticks p go c vs m sound answered.0 fitting.0) answered.1 fitting.1 (store_ticks c vs m sound answered.0 fitting.0 r)

  -- where that seat is at rest the word was stored
  pub rested_stored : (c : Core) (seat : SeatState) → get_elem? c.seats j ≡ some seat → seat.program ≡ Rest → IsToStore p j o c → get_or c.words (open_index p o) 0 ≢ 0
  rested_stored c seat at rest (inl some_) = some_
  rested_stored c seat at rest (inr will) = absurd (subst (WillStore o) rest (will seat at))
