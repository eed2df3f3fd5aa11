-- Seats that look for no socket: seat 0 in the setup, and those that have no client.
use Rattle.std.proofs.Common.{◌≡◌, ◌≢◌, ℕ, zero, suc, ◌+◌, ◌-◌, ◌<◌, ◌≤◌, ◌==◌, ⊎_elim, Bool, true, false, cond, List, [], ◌∷◌, ◌++◌, length, replicate, set, slice_get, Some, refl, sym, ap, ◌∙◌, subst, arith}
use Rattle.std.proofs.lemmas.List.{length-map}
use Rattle.std.specs.Prelude as std
use Rattle.std.specs.List.{AllByRecursion}
use mathlib.Core.Option.{Option, none, some, some-injective}
use lib.ListN.{get_elem?}
use Rattle.sock_words.specs.declared.plain.Plan.{Plan}
use Rattle.corr_core.specs.declared.marks.Plan.{Plan as IdPlan}
use Rattle.sock_words.specs.declared.kind.Kind.{Kind}
use Rattle.seat_programs.specs.TableSteps.{TableStep, OnName, LoadName}
use Rattle.seat_programs.specs.ClientProgram.{operation, client_from}
use Rattle.seat_programs.specs.declared.task.Op.{Op}
use Rattle.seat_programs.specs.declared.task.Op.TheVariants as ops
use Rattle.seat_programs.specs.declared.task.Sizes.{Sizes}
use Rattle.seat_programs.specs.declared.task.Task.{Task}
use Rattle.seat_programs.specs.Programs.{Program, Do, Say, Rest, Retries, make_socket, open_from}
use Rattle.seat_programs.specs.Cores.{Core, SeatState, resolved, still_waiting, next_step, waiting_at, found_at}
use Rattle.seat_programs.specs.StepTables.{word_of}
use Rattle.seat_programs.specs.ScheduledRuns.{kind_in, next_kind, IsAtRest}
use Rattle.seat_programs.specs.ScriptSetupToEnding.{programs, all_programs, beginning}
use Rattle.seat_programs.specs.Ticks.{Moment, quiet, ticked, tick_with}
use Rattle.seat_programs.specs.Explained.{IsOpen}
use Rattle.dropped_calls.specs.Below.programs_allowed.specs.program_steps.specs.SoundSeats.{IsAhead}
use Rattle.dropped_calls.specs.Below.programs_allowed.specs.sock_runs.proofs.SoundAlongRuns.{seat_rests, ticked_ahead}
use Rattle.dropped_calls.specs.Below.programs_allowed.specs.program_walks.proofs.OpenedLivesRecorded.{mapped}
use Rattle.dropped_calls.specs.Below.programs_allowed.specs.sock_runs.proofs.Quiets.{ticked_rests}
use Rattle.dropped_calls.specs.accept_counts.specs.RefusedOrDropped.{DidMiss, DidIn}
use Rattle.dropped_calls.specs.refused_attempts.proofs.RefusedClosing.{set_first}
use Rattle.seat_programs.specs.LoopRounds.{first_step}

-- ## Programs that open sockets

abbrev IsOther : TableStep → Type 0
IsOther (OnName (LoadName n)) = ⊥
IsOther call = Unit {0}

-- the program looks for no socket, and keeps no retry
abbrev pub LooksForNone : Program → Type 0
LooksForNone (Do call next) = IsOther call × ((found : ℕ) → LooksForNone (next found))
LooksForNone (Say o outcome next) = LooksForNone next
LooksForNone Rest = Unit {0}
LooksForNone (Retries requests after) = LooksForNone after
LooksForNone other = ⊥

way : (b : Bool) (x y : Program) → LooksForNone x → LooksForNone y → LooksForNone (cond b x y)
way true x y f g = f
way false x y f g = g

open_goes : (slots i o name k : ℕ) (next : Program) → LooksForNone next → LooksForNone (open_from slots i o name k next)
open_goes zero i o name k next g = (tt, λ _. (tt, λ _. (tt, λ _. (tt, λ _. g))))
open_goes (suc more) i o name k next g = (tt, λ found. way (found == 0) (make_socket o name k i next) (open_from more (i + 1) o name k next) (tt, λ _. (tt, λ _. (tt, λ _. (tt, λ _. (tt, λ _. (tt, λ _. g)))))) (open_goes more (i + 1) o name k next g))

opens_go : (sizes : Sizes) (ts : List Task) → AllByRecursion (λ (t : Task). IsOpen t.op) ts → LooksForNone (client_from sizes [] ts)
opens_go sizes [] all = tt
opens_go sizes (t ∷ ts) all = by (opens_go sizes ts all.1) t.op all.0
  where
    by : LooksForNone (client_from sizes [] ts) → (op : Op) → IsOpen op → LooksForNone (operation sizes [] t.number (λ held'. client_from sizes held' ts) op)
    by rest (ops.Open name k) is = open_goes sizes.slots 0 t.number name k (client_from sizes [] ts) rest
    by rest _ is = absurd is

goes_on : (x : Program) → LooksForNone x → LooksForNone (next_step (resolved [] x))
goes_on (Say o outcome next) g = goes_on next g
goes_on (Retries requests after) g = goes_on after g
goes_on (Do call next) g = g
goes_on Rest g = tt
goes_on other g = absurd g

none_waits : (x : Program) → LooksForNone x → still_waiting [] x ≡ []
none_waits (Say o outcome next) g = none_waits next g
none_waits (Retries requests after) g = none_waits after g
none_waits (Do call next) g = refl
none_waits Rest g = refl
none_waits other g = absurd g

-- ## The setup

-- seat 0 looks for none
abbrev pub SetsUp : Core → Type 0
SetsUp c = ((seat : SeatState) → get_elem? c.seats 0 ≡ some seat → LooksForNone seat.program) × (waiting_at c.calls.waiting 0 ≡ [])

module _ (p : Plan) where
  first_waits : (ws : List (List Rattle.seat_programs.specs.LoopHeads.Retry)) → waiting_at (set ws 0 []) 0 ≡ []
  first_waits [] = refl
  first_waits (w ∷ ws) = refl

  tick_sets : (c : Core) → SetsUp c → SetsUp (ticked p c (quiet 0))
  tick_sets c s = by (get_elem? c.seats 0) refl
    where
      by_program : (seat : SeatState) → get_elem? c.seats 0 ≡ some seat → (x : Program) → LooksForNone x → SetsUp (tick_with p 0 seat c (quiet 0).answer x)
      by_program seat at (Do call next) g = let y : Program = next (found_at c.words (word_of p call)) in (
        (λ s' at'. subst (λ (z : SeatState). LooksForNone z.program) (some-injective _ s' (sym (set_first c.seats seat _ at) ∙ at')) (subst (λ ws. LooksForNone (next_step (resolved ws y))) (sym s.1) (goes_on y (g.1 (found_at c.words (word_of p call)))))),
        subst (λ l. waiting_at (set c.calls.waiting 0 l) 0 ≡ []) (sym (ap (λ ws. still_waiting ws y) s.1 ∙ none_waits y (g.1 (found_at c.words (word_of p call))))) (first_waits c.calls.waiting),
      )
      by_program seat at (Say o outcome next) g = s
      by_program seat at Rest g = s
      by_program seat at (Retries requests after) g = s
      by_program seat at other g = absurd g

      by : (x : Option SeatState) → get_elem? c.seats 0 ≡ x → SetsUp (elim x as (λ o. Core) [ none ↦ c | some seat ↦ tick_with p 0 seat c (quiet 0).answer seat.program ])
      by none e = s
      by (some seat) e = by_program seat e seat.program (s.0 seat e)

  looks : (x : Program) → LooksForNone x → (name : ℕ) (next : ℕ → Program) → first_step x ≡ Do (OnName (LoadName name)) next → ⊥
  looks (Do call then) g name next e = let z : call ≡ OnName (LoadName name) = cc in subst IsOther z g.0
  looks (Say o outcome then) g name next e = absurd cc
  looks Rest g name next e = absurd cc
  looks (Retries requests after) g name next e = absurd cc
  looks other g name next e = absurd g

  pub none_in_setup : (n : ℕ) (c : Core) → SetsUp c → (name o id k : ℕ) → DidIn p c (replicate n (quiet 0)) 0 (DidMiss name o id k) → ⊥
  none_in_setup zero c s name o id k x = x
  none_in_setup (suc n) c s name o id k x = ⊎_elim (λ now. looks now.1.program (s.0 now.1 now.3) name now.2 now.4) (λ later. none_in_setup n (ticked p c (quiet 0)) (tick_sets c s) name o id k later) x

  -- ## Other seats

  -- no other seat has a tick there
  pub none_beside : (n : ℕ) (c : Core) (j : ℕ) → j ≢ 0 → (name o id k : ℕ) → DidIn p c (replicate n (quiet 0)) j (DidMiss name o id k) → ⊥
  none_beside zero c j other name o id k x = x
  none_beside (suc n) c j other name o id k x = ⊎_elim (λ now. other (sym now.0)) (λ later. none_beside n (ticked p c (quiet 0)) j other name o id k later) x

  -- a seat that rests looks for none
  pub none_at_rest : (ms : List Moment) (c : Core) (j : ℕ) → IsAhead c → IsAtRest c j → (name o id k : ℕ) → DidIn p c ms j (DidMiss name o id k) → ⊥
  none_at_rest [] c j ahead rests name o id k x = x
  none_at_rest (m ∷ ms) c j ahead rests name o id k x = ⊎_elim
      (λ now. let e : Rest ≡ Do (OnName (LoadName name)) now.2 = ap first_step (sym (seat_rests c ahead j rests now.1 now.3)) ∙ now.4 in cc)
      (λ later. none_at_rest ms (ticked p c m) j (ticked_ahead p c m ahead) (ticked_rests p c m j rests) name o id k later) x

-- ## Where a run begins

none_first : (n : ℕ) → waiting_at (replicate n []) 0 ≡ []
none_first zero = refl
none_first (suc n) = refl

pub begins_setup : (p : Plan) (q : IdPlan) (sizes : Sizes) (cs : List (List Task)) (readers : List Program) → 0 < length cs → ((ts : List Task) → slice_get cs 0 ≡ Some ts → AllByRecursion (λ (t : Task). IsOpen t.op) ts) → SetsUp (beginning p q (all_programs (programs sizes cs) readers))
begins_setup p q sizes [] readers some_ opens = absurd (omega (arith, some_))
begins_setup p q sizes (ts ∷ cs) readers some_ opens = (
  (λ seat at. subst (λ (s : SeatState). LooksForNone s.program) (some-injective (record { program = next_step (resolved [] (client_from sizes [] ts)); hand = [] }) seat at) (goes_on (client_from sizes [] ts) (opens_go sizes ts (opens ts refl)))),
  none_first q.seats,
)

behind : (xs ys : List Program) (k : ℕ) (y : Program) → get_elem? (xs ++ ys) (length xs + k) ≡ some y → get_elem? ys k ≡ some y
behind [] ys k y at = subst (λ n. get_elem? ys n ≡ some y) (let z : 0 + k ≡ k = omega arith in z) at
behind (x ∷ xs) ys k y at = behind xs ys k y (subst (λ n. get_elem? (x ∷ (xs ++ ys)) n ≡ some y) (let z : suc (length xs) + k ≡ suc (length xs + k) = omega arith in z) at)

among : (n k : ℕ) (ys : List Program) (y : Program) → k < n → get_elem? (replicate n Rest ++ ys) k ≡ some y → y ≡ Rest
among zero k ys y low at = absurd (omega (arith, low))
among (suc n) zero ys y low at = sym (some-injective Rest y at)
among (suc n) (suc k) ys y low at = among n k ys y (omega (arith, low)) at

-- a seat that has neither a client nor a link rests
pub begins_at_rest : (p : Plan) (q : IdPlan) (sizes : Sizes) (cs : List (List Task)) (readers : List Program) (j : ℕ) → length cs ≤ j → j < 32 → IsAtRest (beginning p q (all_programs (programs sizes cs) readers)) j
begins_at_rest p q sizes cs readers j past low = by (get_elem? (beginning p q (all_programs (programs sizes cs) readers)).seats j) refl
  where
    long : length (programs sizes cs) ≡ length cs
    long = length-map cs (client_from sizes [])

    rest_at : (y : Program) → get_elem? (all_programs (programs sizes cs) readers) j ≡ some y → y ≡ Rest
    rest_at y at = among (32 - length (programs sizes cs)) (j - length (programs sizes cs)) readers y (omega (arith, long, past, low))
        (behind (programs sizes cs) (replicate (32 - length (programs sizes cs)) Rest ++ readers) (j - length (programs sizes cs)) y
        (subst (λ n. get_elem? (all_programs (programs sizes cs) readers) n ≡ some y) (let z : j ≡ length (programs sizes cs) + (j - length (programs sizes cs)) = omega (arith, long, past) in z) at))

    by : (x : Option SeatState) → get_elem? (beginning p q (all_programs (programs sizes cs) readers)).seats j ≡ x → next_kind (beginning p q (all_programs (programs sizes cs) readers)) j ≡ std.None
    by none e = ap (λ o. elim o as (λ o. std.Option Kind) [ none ↦ std.None | some s ↦ kind_in s.program ]) e
    by (some seat) e = let m = mapped (λ (program : Program). record { program = next_step (resolved [] program); hand = [] }) (all_programs (programs sizes cs) readers) j seat e in
        ap (λ o. elim o as (λ o. std.Option Kind) [ none ↦ std.None | some s ↦ kind_in s.program ]) e
        ∙ (ap (λ (s : SeatState). kind_in s.program) (sym m.2) ∙ ap (λ (x : Program). kind_in (next_step (resolved [] x))) (rest_at m.0 m.1))
