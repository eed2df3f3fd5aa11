-- Runs of all seats: by the lines of a schedule, and until nothing is left to do.
use Rattle.std.specs.Prelude.{ℕ, zero, suc, ◌≡◌, ◌≢◌, ◌+◌, ◌<◌, ◌⊎◌, true, false, List, [], ◌∷◌, ◌++◌, length, replicate, Option, Some, None}
use mathlib.Core.Option.{none, some}
use lib.ListN.{get_elem?}
use Rattle.sock_model.specs.sock_words.specs.declared.kind.Kind.{Kind}
use Rattle.sock_model.specs.sock_words.specs.declared.kind.Kind.TheVariants.{A8, C5, L1, L2, M2, W1, W2}
use Rattle.sock_model.specs.sock_words.specs.KindText.{kind_text}
use Rattle.sock_model.specs.sock_words.specs.declared.plain.Plan.{Plan}
use Rattle.sock_message.specs.brpc_model.specs.Operations.{Turn, Ticks, Until}
use Rattle.seat_programs.specs.StepTables.{kind_of}
use Rattle.seat_programs.specs.Writings.{Writing, Puts, Waits, Empties, Reversing}
use Rattle.seat_programs.specs.Programs.{Program, Do, TakeMessage, TakeHome, PutHome, PutBytes, AskReady, Write, Aside, Round}
use Rattle.seat_programs.specs.Asides.{kind_aside}
use Rattle.seat_programs.specs.LoopRounds.{kind_of_round}
use Rattle.seat_programs.specs.Cores.{Core}
use Rattle.seat_programs.specs.Ticks.{Moment, seats_of, ticked, run, waits}

-- ## The next step

-- the first step of a round
abbrev pub head_kind : Writing → Kind
head_kind (Puts h now heading left taken asked) = A8
head_kind (Waits h now heading left taken) = W2
head_kind (Empties h) = L2
head_kind (Reversing h top at after) = C5

abbrev pub kind_in : Program → Option Kind
kind_in (Do call next) = Some (kind_of call)
kind_in (TakeMessage q next) = Some M2
kind_in (TakeHome k next) = Some L1
kind_in (PutHome k n after) = Some L2
kind_in (PutBytes k asked bytes next) = Some W1
kind_in (AskReady k next) = Some W2
kind_in (Write w after) = Some (head_kind w)
kind_in (Aside step next) = Some (kind_aside step)
kind_in (Round head next) = Some (kind_of_round head)
kind_in other = None

-- the kind of the next step of seat i, where it has one
abbrev pub next_kind : Core → ℕ → Option Kind
next_kind c i = elim (get_elem? c.seats i) as (λ o. Option Kind) [ none ↦ None | some seat ↦ kind_in seat.program ]

-- the seat has no step left
abbrev pub IsAtRest : Core → ℕ → Type 0
IsAtRest c i = next_kind c i ≡ None

-- no seat has
abbrev pub IsSettled : Core → Type 0
IsSettled c = (i : ℕ) → i < length c.seats → IsAtRest c i

-- ## Lists of seats

abbrev pub from_to : ℕ → ℕ → List ℕ
from_to i zero = []
from_to i (suc n) = i ∷ from_to (i + 1) n

-- so many rounds of one tick for each client
abbrev pub rounds : ℕ → ℕ → List ℕ
rounds zero clients = []
rounds (suc n) clients = from_to 1 clients ++ rounds n clients

-- ## The lines of a schedule

module _ (p : Plan) where
  -- these ticks of seat i lead up to its first step of this kind, or to where it waits, or has no step left
  abbrev pub LeadsUpTo : ℕ → List ℕ → Core → List Moment → Type 0
  LeadsUpTo i kind c [] = IsAtRest c i
  LeadsUpTo i kind c (m ∷ ms) = (m.seat ≡ i) × (k : Kind) × (next_kind c i ≡ Some k)
      × (((waits p c m ≡ true ⊎ (kind_text k ≡ kind)) × (ms ≡ [])) ⊎ ((waits p c m ≡ false) × (kind_text k ≢ kind) × LeadsUpTo i kind (ticked p c m) ms))

  -- the ticks that a line of the schedule makes
  abbrev pub Turns : Core → Turn → List Moment → Type 0
  Turns c (Ticks i n) moments = seats_of moments ≡ replicate n i
  Turns c (Until i kind) moments = LeadsUpTo i kind c moments

  -- and all of its lines, one after another
  abbrev pub Scheduled : Core → List Turn → List Moment → Type 0
  Scheduled c [] moments = moments ≡ []
  Scheduled c (turn ∷ turns) moments = (now later : List Moment) × (moments ≡ now ++ later) × Turns c turn now × Scheduled (run p c now) turns later
