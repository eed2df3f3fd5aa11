-- What the links of a run with calls answered, by either half.
use Rattle.std.specs.Prelude.{ℕ, List, [], ◌∷◌, ◌++◌, map}
use mathlib.Core.Option.{some, none}
use lib.ListN.{get_elem?}
use Rattle.sock_words.specs.declared.plain.Plan.{Plan}
use Rattle.brpc_model.specs.Items.{Item}
use Rattle.brpc_model.specs.Operations.{Turn}
use Rattle.seat_programs.specs.Writings.{Waits}
use Rattle.seat_programs.specs.Asides.{TakeBytes}
use Rattle.seat_programs.specs.LoopHeads.{Reads, Discards}
use Rattle.seat_programs.specs.Programs.{Program, PutBytes, AskReady, Write, Aside, Round}
use Rattle.seat_programs.specs.Cores.{Core}
use Rattle.seat_programs.specs.Ticks.{Answer, Moment, ticked}
use Rattle.seat_programs.specs.Tasks.{plan_of}
use Rattle.seat_programs.specs.ScriptSetupToEnding.{IsRunWithCalls, set_up}

-- the link that the next step asks, if it asks one: to take bytes, whether it takes more, or for bytes
abbrev pub asked : Program → List ℕ
asked (PutBytes k put bytes next) = k ∷ []
asked (AskReady k next) = k ∷ []
asked (Write (Waits h now heading left taken) after) = h.link ∷ []
asked (Aside (TakeBytes k room) next) = k ∷ []
asked (Round (Reads r) next) = r.link ∷ []
asked (Round (Discards k total) next) = k ∷ []
asked other = []

-- the answers of a tick to so many questions of its step
abbrev pub said_at : (Program → List ℕ) → Core → Moment → List Answer
said_at asks c m = elim (get_elem? c.seats m.seat) as (λ o. List Answer) [ none ↦ [] | some seat ↦ map (λ (k : ℕ). m.answer) (asks seat.program) ]

-- and those of these ticks, one after another
abbrev pub said_in : (Program → List ℕ) → Plan → Core → List Moment → List Answer
said_in asks p c [] = []
said_in asks p c (m ∷ ms) = said_at asks c m ++ said_in asks p (ticked p c m) ms

-- what the link answered that a tick asked, if it asked one
abbrev pub told_at : Core → Moment → List Answer
told_at c m = said_at asked c m

-- and in these ticks, one after another
abbrev pub told_in : Plan → Core → List Moment → List Answer
told_in p c ms = said_in asked p c ms

-- what the links answered in the run before its ending, and behind it
abbrev pub before_ending : {script : List Item} {turns : List Turn} {end_ : Core} → IsRunWithCalls script turns end_ → List Answer
before_ending {script} r = told_in (plan_of script) (set_up script r.setup) (r.scheduled ++ r.later)

abbrev pub behind_ending : {script : List Item} {turns : List Turn} {end_ : Core} → IsRunWithCalls script turns end_ → List Answer
behind_ending {script} r = told_in (plan_of script) r.ended r.final
