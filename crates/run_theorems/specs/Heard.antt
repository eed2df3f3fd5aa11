-- What each link answered in ticks, and in a run: its writing half, and its reading half.
use Rattle.std.specs.Prelude.{ℕ, ◌==◌, List, [], ◌∷◌, ◌++◌, length, filter, flat_map}
use Rattle.sock_words.specs.declared.plain.Plan.{Plan}
use Rattle.brpc_model.specs.Items.{Item}
use Rattle.brpc_model.specs.ReturnedLink.{HalfAnswer, TakeAnswer, TakeTook, TakeEmpty, TakeEnd, TakeClosed, TakeFailed}
use Rattle.brpc_model.specs.Operations.{Turn}
use Rattle.sock_io.specs.LinkHalves.{of_put, of_ready}
use Rattle.seat_programs.specs.Asides.{Taking, Bytes, Nothing, NoMore, AtEnd, Closed, Broken}
use Rattle.seat_programs.specs.Cores.{Core}
use Rattle.seat_programs.specs.Ticks.{Answer, OfPut, OfReady, OfTake, Moment, asked_link}
use Rattle.seat_programs.specs.Tasks.{plan_of}
use Rattle.seat_programs.specs.ScriptSetupToEnding.{IsRunWithCalls, set_up}
use Rattle.run_theorems.specs.LinkAnswers.{said_at, said_in}
pub use Rattle.owed_calls.specs.call_owing.specs.LinkTakenBySeat.{taken_link}

-- ## Answers

-- an answer as a writing half tells it
abbrev pub half_of : Answer → List HalfAnswer
half_of (OfPut answer) = of_put answer ∷ []
half_of (OfReady answer) = of_ready answer ∷ []
half_of other = []

abbrev pub as_told : List Answer → List HalfAnswer
as_told answers = flat_map half_of answers

-- what a reading half answered to a take
abbrev pub take_of : Answer → List Taking
take_of (OfTake taking) = taking ∷ []
take_of other = []

abbrev pub as_taken : List Answer → List Taking
as_taken answers = flat_map take_of answers

-- ## Of each link

-- what the writing half of link k answered in a tick, if the tick asked it, and in these ticks, one after another
abbrev pub heard_at : Core → Moment → ℕ → List Answer
heard_at c m k = said_at (λ program. filter (λ j. j == k) (asked_link program)) c m

abbrev pub heard_in : Plan → Core → List Moment → ℕ → List Answer
heard_in p c ms k = said_in (λ program. filter (λ j. j == k) (asked_link program)) p c ms

-- and what its reading half answered
abbrev pub taken_at : Core → Moment → ℕ → List Answer
taken_at c m k = said_at (λ program. filter (λ j. j == k) (taken_link program)) c m

abbrev pub taken_in : Plan → Core → List Moment → ℕ → List Answer
taken_in p c ms k = said_in (λ program. filter (λ j. j == k) (taken_link program)) p c ms

-- ## In a run

-- what the halves answered in a run, before its ending and behind it
abbrev pub heard_of : {script : List Item} {turns : List Turn} {end_ : Core} → IsRunWithCalls script turns end_ → ℕ → List Answer
heard_of {script} r k = heard_in (plan_of script) (set_up script r.setup) (r.scheduled ++ r.later) k ++ heard_in (plan_of script) r.ended r.final k

abbrev pub taken_of : {script : List Item} {turns : List Turn} {end_ : Core} → IsRunWithCalls script turns end_ → ℕ → List Answer
taken_of {script} r k = taken_in (plan_of script) (set_up script r.setup) (r.scheduled ++ r.later) k ++ taken_in (plan_of script) r.ended r.final k

-- the takings that the reading half of link k answered
abbrev pub heard_takes : {script : List Item} {turns : List Turn} {end_ : Core} → IsRunWithCalls script turns end_ → ℕ → List Taking
heard_takes r k = as_taken (taken_of r k)

-- ## As a reading half tells them

-- no reading half answers that no more will come: the run makes that out of `Nothing`
abbrev pub answer_of : Taking → List TakeAnswer
answer_of (Bytes bytes) = TakeTook (length bytes) ∷ []
answer_of Nothing = TakeEmpty ∷ []
answer_of NoMore = []
answer_of AtEnd = TakeEnd ∷ []
answer_of Closed = TakeClosed ∷ []
answer_of Broken = TakeFailed ∷ []

-- the bytes that it gave
abbrev pub bytes_found : Taking → List ℕ
bytes_found (Bytes bytes) = bytes
bytes_found other = []

-- the answers without the bytes, and the bytes
abbrev pub take_answers : List Taking → List TakeAnswer
take_answers takings = flat_map answer_of takings

abbrev pub given_by : List Taking → List ℕ
given_by takings = flat_map bytes_found takings
