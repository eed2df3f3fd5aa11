-- Which event each tick is, and how words, homes and views are read as the plain model.
use Rattle.std.specs.Prelude.{ℕ, ◌-◌, ◌%◌, ◌==◌, Bool, false, nat_lt, if◌then◌else◌, List, [], ◌∷◌, take}
use mathlib.Core.Option.{none, some}
use lib.ListN.{get_elem?}
use Rattle.sock_words.specs.declared.plain.Plan.{Plan}
use Rattle.sock_words.specs.PackedWords.{socket_id_version, vref_version, IDLE}
use Rattle.sock_io.specs.declared.link.Put.{Put}
use Rattle.sock_io.specs.declared.link.Put.TheVariants as puts
use Rattle.sock_io.specs.declared.link.Ready.{Ready}
use Rattle.sock_io.specs.declared.link.Ready.TheVariants as asks
use Rattle.sock_model.specs.declared.chain.Claim.{Claim}
use Rattle.sock_model.specs.declared.chain.Right.{Right}
use Rattle.sock_model.specs.declared.view.View.{View}
use Rattle.sock_model.specs.ChainRows.{entry_of}
use Rattle.sock_model.specs.PlainReferences.{life_at, plain}
use Rattle.sock_model.specs.SlotRows.{marks_of}
use Rattle.sock_model.specs.MarkWeights.{is_probe, is_linked}
use Rattle.seat_programs.specs.TableSteps.{TableStep, OnSlot, OnChain, OnPlace, CreateLife, AddRef, SubRef, SetOdd, Recycle, LookWord, ClaimRequest, SwapHead, FreeRequest, StorePlace, DropPlace}
use Rattle.seat_programs.specs.Programs.{Program, Do, PutBytes, AskReady}
use Rattle.seat_programs.specs.Cores.{Core, found_at}
use Rattle.seat_programs.specs.StepTables.{word_of}
use Rattle.seat_programs.specs.Ticks.{Answer, OfPut, OfReady, Moment, broken_at, ticked}
use Rattle.seat_programs.specs.StepsOfSlots.{even_version}
use Rattle.programs_allowed.specs.program_steps.specs.SoundSeats.{views_after}
use Rattle.message_events.specs.MessageStanding as standing
use Rattle.life_events.specs.LifeEventOfStep.{life_of}
use Rattle.run_laws.specs.World.{World, Event, Nothing, Birth, Hold, Drop, Fail, End, Accept, Take, Stop, Place, Dropped, Free, Becomes, stopped_after}
use Rattle.run_laws.specs.World as world
use Rattle.seat_programs.specs.LoopRounds.{first_step}
use Rattle.sock_words.specs.Totals.{total}

-- ## The event of a tick

-- the exchange of a head accepts the message of the seat's one claim, behind the ticket that it found
abbrev pub accept_event : ℕ → ℕ → List Claim → Event
accept_event seat found [] = Nothing
accept_event seat found (c ∷ cs) = Accept (entry_of c (if nat_lt found IDLE then found else found - IDLE)) seat

-- whoever writes a link stops it
abbrev pub stop_event : List Right → Event
stop_event [] = Nothing
stop_event (r ∷ rs) = Stop r.link

-- the event of a step of this seat that found this word
abbrev pub step_event : ℕ → TableStep → ℕ → View → Event
step_event seat (OnSlot (CreateLife i k)) found v = Birth (life_at i (vref_version found)) k
step_event seat (OnSlot (AddRef id)) found v = if vref_version found == socket_id_version id then Hold (life_of id) seat else Nothing
step_event seat (OnSlot (SubRef i)) found v = if nat_lt 0 (marks_of is_probe i v) then Nothing else Drop (life_at i (even_version found)) seat
step_event seat (OnSlot (SetOdd i)) found v = if vref_version found % 2 == 0 then Fail (life_at i (vref_version found)) seat else Nothing
step_event seat (OnSlot (Recycle i from)) found v = if found == from then End (life_at i (vref_version from - 1)) else Nothing
step_event seat (OnSlot (LookWord id)) found v = if vref_version found % 2 == 0 then Nothing else stop_event v.rights
step_event seat (OnChain (ClaimRequest id q)) found v = if found % 2 == 0 then world.Claim q else Nothing
step_event seat (OnChain (SwapHead i own)) found v = accept_event seat found v.claims
step_event seat (OnPlace (StorePlace l k n)) found v = Place k
step_event seat (OnPlace (DropPlace l k n)) found v = Dropped k
step_event seat (OnChain (FreeRequest q g)) found v = Free q
step_event seat other found v = Nothing

-- the event of a put, and of the question whether a link takes more
abbrev pub put_event : ℕ → List ℕ → Put → Event
put_event k bytes (puts.Took n) = Take k (take n bytes)
put_event k bytes puts.Again = Nothing
put_event k bytes puts.Failed = Stop k

abbrev pub ready_event : ℕ → Ready → Event
ready_event k asks.Failed = Stop k
ready_event k other = Nothing

abbrev pub answer_event : Program → Answer → Event
answer_event (PutBytes k asked bytes next) (OfPut answer) = put_event k bytes answer
answer_event (AskReady k next) (OfReady answer) = ready_event k answer
answer_event program answer = Nothing

-- the event of what a seat does next
abbrev pub next_event : Plan → ℕ → List ℕ → View → Answer → Program → Event
next_event p seat ws v answer (Do call next) = step_event seat call (found_at ws (word_of p call)) v
next_event p seat ws v answer other = answer_event other answer

-- the event of a tick; where there is no such seat nothing happens
abbrev pub event_at : Plan → Core → List View → Moment → Event
event_at p c views m = elim (get_elem? c.seats m.seat) as (λ o. Event) [
  | none ↦ Nothing
  | some seat ↦ elim (get_elem? views m.seat) as (λ o. Event) [ none ↦ Nothing | some v ↦ next_event p m.seat c.words v m.answer (first_step seat.program) ]
]

-- ## The reading

-- how often link k was given to each life
abbrev pub links_of : List View → world.Links
links_of views l k = total (marks_of (is_linked l.version k) l.slot) views

abbrev pub world_of : Plan → Core → List View → (ℕ → Bool) → World
world_of p c views stopped = record { lives = plain views; links = links_of views; messages = standing.messages p c views; stopped = stopped }

-- ## Runs

-- before any link is stopped
abbrev pub none_stopped : ℕ → Bool
none_stopped k = false

-- each of these ticks is its event or none, one after another
abbrev pub AreEvents : Plan → Core → List View → (ℕ → Bool) → List Moment → Type 0
AreEvents p c views stopped [] = Unit {0}
AreEvents p c views stopped (m ∷ ms) = let event = event_at p c views m in
    Becomes p (broken_at c m) (world_of p c views stopped) event (world_of p (ticked p c m) (views_after p c views m) (stopped_after event stopped))
    × AreEvents p (ticked p c m) (views_after p c views m) (stopped_after event stopped) ms

-- which links are stopped behind them
abbrev pub stopped_along : Plan → Core → List View → (ℕ → Bool) → List Moment → ℕ → Bool
stopped_along p c views stopped [] = stopped
stopped_along p c views stopped (m ∷ ms) = stopped_along p (ticked p c m) (views_after p c views m) (stopped_after (event_at p c views m) stopped) ms
