-- Which event of the plain model each step is, by what it found and by the view of the seat that makes it.
use Rattle.std.specs.Prelude.{ℕ, ◌-◌, ◌%◌, ◌==◌, nat_lt, if◌then◌else◌, List, [], ◌∷◌}
use mathlib.Core.Option.{none, some}
use lib.ListN.{get_elem?}
use Rattle.sock_words.specs.declared.plain.Plan.{Plan}
use Rattle.sock_words.specs.PackedWords.{socket_id_version, socket_id_slot, vref_version}
use Rattle.sock_model.specs.declared.view.View.{View}
use Rattle.sock_model.specs.MarkWeights.{is_probe}
use Rattle.sock_model.specs.SlotRows.{marks_of}
use Rattle.sock_model.specs.PlainReferences.{Life, life_at, Event, Nothing, Birth, Hold, Drop, Fail, End}
use Rattle.seat_programs.specs.TableSteps.{TableStep, OnSlot, CreateLife, AddRef, SubRef, SetOdd, Recycle}
use Rattle.seat_programs.specs.Programs.{Program, Do}
use Rattle.seat_programs.specs.Cores.{Core, found_at}
use Rattle.seat_programs.specs.StepTables.{word_of}
use Rattle.seat_programs.specs.Ticks.{Moment, ticked}
use Rattle.seat_programs.specs.StepsOfSlots.{even_version}
use Rattle.sock_runs.specs.program_steps.specs.SoundSeats.{views_after}
use Rattle.seat_programs.specs.LoopRounds.{first_step}

-- the life that an id names
abbrev pub life_of : ℕ → Life
life_of id = life_at (socket_id_slot id) (socket_id_version id)

-- the event of a step of this seat that found this word: a reference counts for the life of the id only where the word has its version, a seat that has to take back a 1 gives that first, the first step that sets a life failed is its failure, and the exchange that is won is its end
abbrev pub event_of : ℕ → TableStep → ℕ → View → Event
event_of seat (OnSlot (CreateLife i k)) found v = Birth (life_at i (vref_version found))
event_of seat (OnSlot (AddRef id)) found v = if vref_version found == socket_id_version id then Hold (life_of id) seat else Nothing
event_of seat (OnSlot (SubRef i)) found v = if nat_lt 0 (marks_of is_probe i v) then Nothing else Drop (life_at i (even_version found)) seat
event_of seat (OnSlot (SetOdd i)) found v = if vref_version found % 2 == 0 then Fail (life_at i (vref_version found)) seat else Nothing
event_of seat (OnSlot (Recycle i from)) found v = if found == from then End (life_at i (vref_version from - 1)) else Nothing
event_of seat other found v = Nothing

-- the event of what a seat does next: only steps on words are events
abbrev pub next_event : Plan → ℕ → Program → List ℕ → View → Event
next_event p seat (Do call next) ws v = event_of seat call (found_at ws (word_of p call)) v
next_event p seat other ws v = Nothing

-- the event of a tick; where there is no such seat nothing happens
abbrev pub event_at : Plan → Core → List View → Moment → Event
event_at p c views m = elim (get_elem? c.seats m.seat) as (λ o. Event) [
  | none ↦ Nothing
  | some seat ↦ elim (get_elem? views m.seat) as (λ o. Event) [ none ↦ Nothing | some v ↦ next_event p m.seat (first_step seat.program) c.words v ]
]

-- the events of ticks, one after another
abbrev pub events_of : Plan → Core → List View → List Moment → List Event
events_of p c views [] = []
events_of p c views (m ∷ moments) = event_at p c views m ∷ events_of p (ticked p c m) (views_after p c views m) moments
