-- What ticks and whole runs of a machine make of its core.
use Rattle.std.specs.Prelude.{ℕ, zero, suc, ◌≡◌, ◌-◌, ◌≤◌, ◌<◌, ◌⊎◌, Bool, true, false, List, [], ◌∷◌, ◌++◌, length, option_map, slice_get, replicate, Option, Some, IfSome, Contains}
use Rattle.std.specs.List.{AllByRecursion}
use lib.ListN.{get_elem?}
use mathlib.Core.Option as core
use Rattle.sock_words.specs.declared.kind.Kind.{Kind}
use Rattle.sock_words.specs.declared.plain.Plan.{Plan}
use Rattle.sock_words.specs.declared.shape.Shape.{Shape}
use Rattle.sock_words.specs.KindText.{kind_text}
use Rattle.brpc_model.specs.ReturnedLink.{LinkEnd}
use Rattle.seat_programs.specs.Writings as heads
use Rattle.seat_programs.specs.Asides.{Taking, AtEnd, Closed, Broken}
use Rattle.seat_programs.specs.LoopHeads.{Sought, First, Version, Locks, Joins, Opens, Reads, Discards}
use Rattle.seat_programs.specs.Programs.{Program, Write, Round}
use Rattle.seat_programs.specs.Cores.{Core, SeatState}
use Rattle.seat_programs.specs.Ticks.{Answer, Moment, quiet, seats_of, run, waits, AreAnswered, IsAlwaysReady, broken_in}
use Rattle.seat_programs.specs.ScheduledRuns.{IsAtRest, LeadsUpTo, next_kind, from_to}
use Rattle.seat_programs.specs.ScriptSetupToEnding.{AreStill, is_ending}
use Rattle.sock_io.specs.LinkHalves.{more_told}
use Rattle.run_theorems.specs.call_owing.specs.LivesOfLinks.{ClosesInTime}
use Rattle.run_theorems.specs.OfferedAtTakes.{AreOffered}
use Rattle.run_theorems.specs.ShapedPuts.{AreShaped}
use Rattle.run_theorems.specs.Heard.{as_told, as_taken, take_answers, heard_in, taken_in}
use Rattle.machine_model.specs.declared.tick.On.{On}
use Rattle.machine_model.specs.declared.tick.On.TheVariants as on
use Rattle.machine_model.specs.declared.tick.Tick.{Tick}
use Rattle.machine_model.specs.declared.tick.Tick.TheVariants.{Moved, Waits, Idle}
use Rattle.machine_model.specs.MachineLinks.{Taken, Given, Agrees, AgreesGave, SoFar, AreAlwaysReady, TellClosing, IsOffering, StayOffered, IsShapedSo, StayPaced}
use Rattle.machine_model.specs.Machines.{MachineState, SameGivens, READERS, table_of, core_with, ending_by}
use Rattle.sock_words.specs.PackedWords.{call_id}

-- ## Links

-- the links stay those that they were: which they are, how many bytes they gave, and counts that never fall; what its reading half answered
-- once stays so
pub record SameLink (old new : LinkEnd) : Type 0 where
  pub link : new.link ≡ old.link
  pub later : old.put_faults ≤ new.put_faults
  pub more : old.gave_count ≤ new.gave_count
  pub later_takes : old.take_faults ≤ new.take_faults
  pub gave_end : old.gave_end ≡ true → new.gave_end ≡ true
  pub closed : (new.closed ≡ old.closed) ⊎ (new.closed ≡ option_map (λ _. true) old.closed)

pub record SameLinks (old new : MachineState) : Type 0 where
  pub as_many : length new.ends ≡ length old.ends
  pub each : (k : ℕ) (a b : LinkEnd) → slice_get old.ends k ≡ Some a → slice_get new.ends k ≡ Some b → SameLink a b
  pub always_ready : AreAlwaysReady old.links → AreAlwaysReady new.links
  pub tell : TellClosing old.links → TellClosing new.links

-- of each of these links the count of faults shows that it failed
abbrev pub ShowFaults : MachineState → List ℕ → Type 0
ShowFaults m broken = (k : ℕ) (e : LinkEnd) → Contains broken k → slice_get m.ends k ≡ Some e → 0 < e.put_faults

-- each link tells these answers behind those that it told before, and no other link was asked
pub record LinksTell (old new : MachineState) (heard : ℕ → List Answer) : Type 0 where
  pub each : (k : ℕ) (a b : LinkEnd) → slice_get old.ends k ≡ Some a → slice_get new.ends k ≡ Some b → b.answers ≡ more_told a.answers (as_told (heard k))
  pub none_beyond : (k : ℕ) → length old.ends ≤ k → heard k ≡ []

-- and so of what their reading halves answered
pub record TakesTell (old new : MachineState) (taken : ℕ → List Answer) : Type 0 where
  pub each : (k : ℕ) (a b : LinkEnd) → slice_get old.ends k ≡ Some a → slice_get new.ends k ≡ Some b → b.takes ≡ more_told a.takes (take_answers (as_taken (taken k)))
  pub none_beyond : (k : ℕ) → length old.ends ≤ k → taken k ≡ []

-- a link that gave its end, was closed or failed shows it
abbrev pub ShowsTaking : Taking → LinkEnd → Type 0
ShowsTaking AtEnd e = e.gave_end ≡ true
ShowsTaking Closed e = IfSome e.closed (λ closed. closed ≡ true)
ShowsTaking Broken e = 0 < e.take_faults
ShowsTaking other e = Unit {0}

-- each link shows what its reading half answered
abbrev pub ShowTakings : MachineState → (ℕ → List Answer) → Type 0
ShowTakings m taken = (k : ℕ) (e : LinkEnd) → slice_get m.ends k ≡ Some e → AllByRecursion (λ t. ShowsTaking t e) (as_taken (taken k))

-- those that failed show it, and each tells and shows what its halves answered
pub record LinksShow (old new : MachineState) (failed : List ℕ) (heard got : ℕ → List Answer) : Type 0 where
  pub broken : ShowFaults new failed
  pub told : LinksTell old new heard
  pub taken : ShowTakings new got
  pub takes : TakesTell old new got

-- ## The table

-- the sizes of the tables, what the ending goes over, and whether the run is ending
pub record SameTable (old new : MachineState) : Type 0 where
  pub plans : SameGivens (table_of old) (table_of new)
  pub open plans use *
  pub opens : new.opens ≡ old.opens

-- ## Ticks

-- the id by which a seat seeks its slot
abbrev pub sought_id : ℕ → Sought → ℕ
sought_id i (First first) = call_id i first
sought_id i (Version version) = call_id i version

abbrev pub IsWaitingFor : Program → On → Type 0
IsWaitingFor (Write (heads.Reversing h top at after) then_) (on.Next ticket) = at ≡ ticket
IsWaitingFor (Write (heads.Waits h now heading left taken) then_) (on.Out k) = h.link ≡ k
IsWaitingFor (Round (Locks i sought w) next) (on.Id id) = sought_id i sought ≡ id
IsWaitingFor (Round (Joins id) next) (on.Id other) = id ≡ other
IsWaitingFor (Round (Opens o) next) (on.Open other) = o ≡ other
IsWaitingFor (Round (Reads r) next) (on.In k) = r.link ≡ k
IsWaitingFor (Round (Discards k total) next) (on.In other) = k ≡ other
IsWaitingFor program on_ = ⊥

-- the seat waits for what this says
abbrev pub WaitsFor : Core → ℕ → On → Type 0
WaitsFor c i on_ = (seat : SeatState) × (get_elem? c.seats i ≡ core.some seat) × IsWaitingFor seat.program on_

-- what a tick of a seat answers where it was this moment
abbrev pub TickIs : MachineState → Core → Moment → Tick → Type 0
TickIs m c moment (Moved kind) = (next_kind c moment.seat ≡ Some kind) × (waits m.plan c moment ≡ false)
TickIs m c moment (Waits on_) = (waits m.plan c moment ≡ true) × WaitsFor c moment.seat on_
TickIs m c moment Idle = IsAtRest c moment.seat

-- a link that was offered what belongs to it tells so at each of these ticks, and is offered it behind them
abbrev pub KeepOffers : MachineState → MachineState → Core → List Moment → Type 0
KeepOffers old new c moments = (k : ℕ) (serve : Bool) (end : Option ℕ) → IsOffering old.links k serve end → AreOffered old.plan k serve end c moments × IsOffering new.links k serve end

-- a link whose puts go by a shape answers each put of these ticks by it, and those behind them go on so
abbrev pub KeepShapes : MachineState → MachineState → Core → List Moment → Type 0
KeepShapes old new c moments = (k : ℕ) (shape : Shape) (so_far : List Answer) → IsShapedSo old.links k shape so_far → AreShaped old.plan k shape so_far c moments × IsShapedSo new.links k shape (so_far ++ heard_in old.plan c moments k)

-- these ticks make the one machine of the other, where its links had taken and given this
pub record Follows (old new : MachineState) (took : Taken) (gave : Given) (moments : List Moment) : Type 0 where
  pub answered : AreAnswered old.plan (core_with old took gave) moments
  pub always_ready : AreAlwaysReady old.links → AllByRecursion IsAlwaysReady moments
  -- a link that tells whether its other end closed its half answers that it is closed only where it is finished
  pub closes : TellClosing old.links → ClosesInTime old.plan (core_with old took gave) moments
  pub offers : KeepOffers old new (core_with old took gave) moments
  pub shapes : KeepShapes old new (core_with old took gave) moments
  pub so_far : SoFar new.links
  pub open so_far use {took as later, gave as later_gave, agrees, agrees_gave}
  pub core : core_with new later later_gave ≡ run old.plan (core_with old took gave) moments
  pub shows : LinksShow old new (broken_in old.plan (core_with old took gave) moments) (heard_in old.plan (core_with old took gave) moments) (taken_in old.plan (core_with old took gave) moments)
  pub open shows use *

-- a tick of a seat
pub record TickedWith (old new : MachineState) (seat : ℕ) (tick : Tick) (took : Taken) (gave : Given) : Type 0 where
  pub moment : Moment
  pub is_of : moment.seat ≡ seat
  pub is : TickIs old (core_with old took gave) moment tick
  pub follows : Follows old new took gave (moment ∷ [])

-- the table and the links stay those that they were, and this holds whatever its links had taken and given
abbrev pub Made : MachineState → MachineState → (Taken → Given → Type 0) → Type 0
Made old new Has = SameTable old new × SameLinks old new × ((took : Taken) (gave : Given) → Agrees old.links took → AgreesGave old.links gave → Has took gave)

abbrev pub Ticked : MachineState → MachineState → ℕ → Tick → Type 0
Ticked old new seat tick = Made old new (TickedWith old new seat tick)

-- ## Runs

-- ticks, of which this holds, make the new machine of the old one
pub record MadeByTicks (Is : Plan → Core → List Moment → Type 0) (old new : MachineState) (took : Taken) (gave : Given) : Type 0 where
  pub moments : List Moment
  pub is : Is old.plan (core_with old took gave) moments
  pub follows : Follows old new took gave moments

-- ticks of these seats, one after another
abbrev pub RanWith : MachineState → MachineState → List ℕ → Taken → Given → Type 0
RanWith old new seats = MadeByTicks (λ p c ms. seats_of ms ≡ seats) old new

abbrev pub Ran : MachineState → MachineState → List ℕ → Type 0
Ran old new seats = Made old new (RanWith old new seats)

-- ticks of a seat that lead up to a step of this kind
abbrev pub LedWith : MachineState → MachineState → ℕ → Kind → Taken → Given → Type 0
LedWith old new seat kind = MadeByTicks (λ p. LeadsUpTo p seat (kind_text kind)) old new

abbrev pub Led : MachineState → MachineState → ℕ → Kind → Type 0
Led old new seat kind = Made old new (LedWith old new seat kind)

-- ## Rounds

-- the seats of a round: the clients, and then the readers
abbrev pub round_by : Plan → List ℕ
round_by p = from_to 1 (p.seats - 1) ++ from_to READERS p.links

-- a round in which nothing moved, or something did
pub record RoundWith (Is : Plan → Core → List Moment → Type 0) (old new : MachineState) (took : Taken) (gave : Given) : Type 0 where
  pub moments : List Moment
  pub are_of : seats_of moments ≡ round_by old.plan
  pub is : Is old.plan (core_with old took gave) moments
  pub follows : Follows old new took gave moments

abbrev pub Still : MachineState → MachineState → Type 0
Still old new = Made old new (RoundWith AreStill old new)

abbrev pub HasMoved : MachineState → MachineState → Type 0
HasMoved old new = Made old new (RoundWith (λ p c ms. AreStill p c ms → ⊥) old new)

-- so many rounds that moved something, and one that moved nothing
abbrev pub SettlesAfter : Plan → ℕ → Core → List Moment → Type 0
SettlesAfter p zero c ms = (seats_of ms ≡ round_by p) × AreStill p c ms
SettlesAfter p (suc n) c ms = (now later : List Moment) × (ms ≡ now ++ later) × (seats_of now ≡ round_by p) × (AreStill p c now → ⊥) × SettlesAfter p n (run p c now) later

-- rounds up to the first one that moved nothing
pub record SettlesBy (p : Plan) (c : Core) (moments : List Moment) : Type 0 where
  pub rounds : ℕ
  pub after : SettlesAfter p rounds c moments

abbrev pub PlayedWith : MachineState → MachineState → Taken → Given → Type 0
PlayedWith old new = MadeByTicks SettlesBy old new

abbrev pub PlayedOn : MachineState → MachineState → Type 0
PlayedOn old new = Made old new (PlayedWith old new)

-- seat 0 made so many ticks, in which it asked no link, and has none left
pub record RanFirst (old new : MachineState) : Type 0 where
  pub same : SameTable old new × SameLinks old new
  pub ends : new.ends ≡ old.ends
  pub steps : ℕ
  pub core : (took : Taken) (gave : Given) → Agrees old.links took → AgreesGave old.links gave → Agrees new.links took × AgreesGave new.links gave × (core_with new took gave ≡ run old.plan (core_with old took gave) (replicate steps (quiet 0)))
  pub offers : (took : Taken) (gave : Given) → Agrees old.links took → AgreesGave old.links gave → StayOffered old.links.outs old.links.inns new.links
  pub shapes : StayPaced old.links.outs new.links
  pub still : (took : Taken) (gave : Given) → IsAtRest (core_with new took gave) 0

-- rounds up to one that moved nothing, then the ending by seat 0, and such rounds again
pub record SettledWith (old new : MachineState) (took : Taken) (gave : Given) : Type 0 where
  pub moments : List Moment
  pub settles : SettlesBy old.plan (core_with old took gave) moments
  pub answered : AreAnswered old.plan (core_with old took gave) moments
  pub last : ℕ
  pub ended : Core
  pub is_ended : ended ≡ is_ending (run old.plan (ending_by old.opens (run old.plan (core_with old took gave) moments)) (replicate last (quiet 0)))
  pub is_over : IsAtRest ended 0
  pub final : List Moment
  pub settles_again : SettlesBy old.plan ended final
  pub answered_again : AreAnswered old.plan ended final
  pub always_ready : AreAlwaysReady old.links → AllByRecursion IsAlwaysReady (moments ++ final)
  pub closes : TellClosing old.links → ClosesInTime old.plan (core_with old took gave) moments
  pub closes_again : TellClosing old.links → ClosesInTime old.plan ended final
  pub offers : (k : ℕ) (serve : Bool) (end : Option ℕ) → IsOffering old.links k serve end → AreOffered old.plan k serve end (core_with old took gave) moments × AreOffered old.plan k serve end ended final × IsOffering new.links k serve end
  pub shapes : (k : ℕ) (shape : Shape) (so_far : List Answer) → IsShapedSo old.links k shape so_far → AreShaped old.plan k shape so_far (core_with old took gave) moments × AreShaped old.plan k shape (so_far ++ heard_in old.plan (core_with old took gave) moments k) ended final
  pub so_far : SoFar new.links
  pub open so_far use {took as later, gave as later_gave, agrees, agrees_gave}
  pub core : core_with new later later_gave ≡ run old.plan ended final
  pub shows : LinksShow old new (broken_in old.plan (core_with old took gave) moments ++ broken_in old.plan ended final) (λ k. heard_in old.plan (core_with old took gave) moments k ++ heard_in old.plan ended final k) (λ k. taken_in old.plan (core_with old took gave) moments k ++ taken_in old.plan ended final k)
  pub open shows use *

-- the ending goes over nothing more, and the run is ending
pub record Settled (old new : MachineState) : Type 0 where
  pub plan : new.plan ≡ old.plan
  pub id_plan : new.ids.plan ≡ old.ids.plan
  pub links : SameLinks old new
  pub settled : (took : Taken) (gave : Given) → Agrees old.links took → AgreesGave old.links gave → SettledWith old new took gave
