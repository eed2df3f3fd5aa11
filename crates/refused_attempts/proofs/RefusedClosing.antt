-- While seat 0 closes what was opened, nobody posts an error.
use Rattle.std.proofs.Common.{◌≡◌, ℕ, zero, suc, ◌+◌, ◌-◌, ◌%◌, ◌==◌, ◌&&◌, ⊎_elim, Bool, true, false, cond, eqb, leb, List, [], ◌∷◌, replicate, set, refl, sym, subst}
use mathlib.Core.Option.{none, some, some-ne-none}
use lib.ListN.{get_elem?}
use Rattle.sock_words.specs.PackedWords.{socket_id_slot, socket_id_version, vref_version, vref_nref, NO_SOCKET}
use Rattle.sock_words.specs.declared.plain.Plan.{Plan}
use Rattle.seat_programs.specs.TableSteps.{OnSlot, OnLink, SubRef, StoreCode, LoadLink, TakeLink, FinishLink, PutLink, FreeSlot}
use Rattle.seat_programs.specs.ClientProgram.{ending_of}
use Rattle.seat_programs.specs.LoopHeads.{Retry}
use Rattle.seat_programs.specs.Programs.{Program, Do, Rest, LAST_VERSION, recycle, release, add_reference, set_failed}
use Rattle.seat_programs.specs.Cores.{Core, SeatState, resolved, next_step, waiting_at, found_at}
use Rattle.seat_programs.specs.StepTables.{word_of}
use Rattle.seat_programs.specs.Ticks.{quiet, ticked, tick_with}
use Rattle.attempted_calls.specs.Below.outcome_stories.specs.OperationStories.{In}
use Rattle.attempted_calls.specs.Below.outcome_causes.proofs.PlainOutcomeCauses.{in_both}
use Rattle.attempted_calls.specs.Below.call_stories.specs.PostsOfRun.{Post, posted_with, posted_at}
use Rattle.seat_programs.specs.LoopRounds.{first_step}
use Rattle.attempted_calls.specs.Below.outcome_stories.specs.Facts.{shown_in}

-- the program makes steps on the table of the sockets alone
abbrev pub OnSockets : Program → Type 0
OnSockets (Do call next) = (found : ℕ) → OnSockets (next found)
OnSockets Rest = Unit {0}
OnSockets other = ⊥

way : (b : Bool) (x y : Program) → OnSockets x → OnSockets y → OnSockets (cond b x y)
way true x y f g = f
way false x y f g = g

recycle_goes : (i from : ℕ) (next : Bool → Program) → ((b : Bool) → OnSockets (next b)) → OnSockets (recycle i from next)
recycle_goes i from next goes found = way (eqb found from)
    (Do (OnSlot (LoadLink i (vref_version from + 1))) (λ k. Do (OnLink (TakeLink k)) (λ _. Do (OnLink (FinishLink k)) (λ _. Do (OnLink (PutLink k)) (λ _. cond (leb (vref_version from + 1) LAST_VERSION) (Do (OnSlot (FreeSlot i)) (λ _. next true)) (next true))))))
    (next false) (λ k _ _ _. way (leb (vref_version from + 1) LAST_VERSION) (Do (OnSlot (FreeSlot i)) (λ _. next true)) (next true) (λ _. goes true) (goes true)) (goes false)

release_goes : (i : ℕ) (next : Bool → Program) → ((b : Bool) → OnSockets (next b)) → OnSockets (release i next)
release_goes i next goes found = way ((vref_version found % 2 == 1) && (vref_nref found == 1)) (recycle i (found - 1) next) (next false) (recycle_goes i (found - 1) next goes) (goes false)

address_goes : (id : ℕ) (held : Program) (gone : ℕ → Program) → OnSockets held → ((found : ℕ) → OnSockets (gone found)) → OnSockets (add_reference id held gone)
address_goes id held gone goes others found = way (vref_version found == socket_id_version id) held (release (socket_id_slot id) (λ _. gone found)) goes (release_goes (socket_id_slot id) (λ _. gone found) (λ _. others found))

set_failed_goes : (id code : ℕ) (next : ℕ → Program) → ((found : ℕ) → OnSockets (next found)) → OnSockets (set_failed id code next)
set_failed_goes id code next goes found = way (vref_version found % 2 == 0) (Do (OnSlot (StoreCode (socket_id_slot id) (socket_id_version id) code)) (λ _. Do (OnSlot (SubRef (socket_id_slot id))) (λ _. next found))) (next found) (λ _ _. goes found) (goes found)

pub ending_goes : (os : List ℕ) → OnSockets (ending_of os)
ending_goes [] = tt
ending_goes (o ∷ os) = λ word. way (word == 0) (ending_of os) (cond (word == NO_SOCKET) (ending_of os) (add_reference (word - 1) (set_failed (word - 1) 1014 (λ _. release (socket_id_slot (word - 1)) (λ _. ending_of os))) (λ _. ending_of os))) (ending_goes os)
    (way (word == NO_SOCKET) (ending_of os) (add_reference (word - 1) (set_failed (word - 1) 1014 (λ _. release (socket_id_slot (word - 1)) (λ _. ending_of os))) (λ _. ending_of os)) (ending_goes os)
    (address_goes (word - 1) (set_failed (word - 1) 1014 (λ _. release (socket_id_slot (word - 1)) (λ _. ending_of os))) (λ _. ending_of os)
    (set_failed_goes (word - 1) 1014 (λ _. release (socket_id_slot (word - 1)) (λ _. ending_of os)) (λ _. release_goes (socket_id_slot (word - 1)) (λ _. ending_of os) (λ _. ending_goes os))) (λ _. ending_goes os)))

-- it goes on by itself
pub alone : (ws : List Retry) (x : Program) → OnSockets x → next_step (resolved ws x) ≡ x
alone ws (Do call next) g = refl
alone ws Rest g = refl
alone ws _ g = absurd g

pub set_first : {A : Type 0} (xs : List A) (x y : A) → get_elem? xs 0 ≡ some x → get_elem? (set xs 0 y) 0 ≡ some y
set_first [] x y at = absurd (some-ne-none x (sym at))
set_first (z ∷ xs) x y at = refl

-- seat 0 makes such steps
abbrev pub MakesSteps : Core → Type 0
MakesSteps c = (seat : SeatState) × (get_elem? c.seats 0 ≡ some seat) × OnSockets seat.program

module _ (p : Plan) where
  pub tick_steps : (c : Core) → MakesSteps c → MakesSteps (ticked p c (quiet 0))
  tick_steps c s = subst (λ o. MakesSteps (elim o as (λ o. Core) [ none ↦ c | some seat ↦ tick_with p 0 seat c (quiet 0).answer seat.program ])) (sym s.1) (by s.0.program s.2)
    where
      by : (x : Program) → OnSockets x → MakesSteps (tick_with p 0 s.0 c (quiet 0).answer x)
      by (Do call next) g = let y : Program = next (found_at c.words (word_of p call)) in
          (_, set_first c.seats s.0 _ s.1, subst OnSockets (sym (alone (waiting_at c.calls.waiting 0) (next (found_at c.words (word_of p call))) (g (found_at c.words (word_of p call))))) (g (found_at c.words (word_of p call))))
      by Rest g = s
      by _ g = absurd g

  none_posted : (c : Core) → MakesSteps c → (x : Post) → In x (posted_at c (quiet 0)) → ⊥
  none_posted c s x at = by s.0.program s.2 (subst (λ o. In x (elim o as (λ o. List Post) [ none ↦ [] | some seat ↦ posted_with c.calls none (first_step seat.program) ])) s.1 at)
    where
      by : (y : Program) → OnSockets y → In x (posted_with c.calls none (first_step y)) → ⊥
      by (Do call next) g m = m
      by Rest g m = m
      by _ g m = absurd g

  pub none_closing : (n : ℕ) (c : Core) → MakesSteps c → (x : Post) → In x (shown_in posted_at p c (replicate n (quiet 0))) → ⊥
  none_closing zero c s x at = at
  none_closing (suc n) c s x at = ⊎_elim (none_posted c s x) (none_closing n (ticked p c (quiet 0)) (tick_steps c s) x) (in_both (posted_at c (quiet 0)) (shown_in posted_at p (ticked p c (quiet 0)) (replicate n (quiet 0))) x at)
