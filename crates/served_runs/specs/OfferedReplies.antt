-- What a link was given by its other end at each of its takes: with the built-in server some of the replies to what the link took, in their order, and where a take finds nothing there, all of them.
use Rattle.std.specs.Prelude.{ℕ, ◌≡◌, ◌⊎◌, Bool, true, if◌then◌else◌, List, [], ◌∷◌, ◌++◌, slice_get, Some}
use mathlib.Core.Option.{some}
use lib.ListN.{get_elem?}
use Rattle.sock_words.specs.declared.plain.Plan.{Plan}
use Rattle.sock_model.specs.declared.home.Home.{Home}
use Rattle.sock_model.specs.declared.home.Home.TheVariants.{Link}
use Rattle.brpc_model.specs.Items.{Item, Shape}
use Rattle.brpc_model.specs.Operations.{Turn, link_shapes}
use Rattle.brpc_model.specs.ServedForTakenBytes.{given_for}
use Rattle.seat_programs.specs.Asides.{TakeBytes, Taking, Bytes, Nothing, AtEnd, Closed}
use Rattle.seat_programs.specs.Programs.{Program, Aside}
use Rattle.seat_programs.specs.Cores.{Core, SeatState, link_place}
use Rattle.seat_programs.specs.Ticks.{Answer, OfTake, Moment, ticked}
use Rattle.seat_programs.specs.Tasks.{plan_of}
use Rattle.seat_programs.specs.ScriptSetupToEnding.{set_up, IsRunWithCalls}
use Rattle.calm_runs.specs.send_causes.specs.Below.call_owing.specs.LivesOfLinks.{InHand}
use Rattle.calm_runs.specs.send_causes.specs.Below.call_stories.specs.LinkReadingLists.{gave_in}
use Rattle.seat_programs.specs.LoopRounds.{first_step}

-- ## What a link took

-- the writing half of link k stands so, wherever it lies: at home, or in a seat's hand
abbrev pub Lies : Plan → Core → ℕ → Home → Type 0
Lies p c k x = (get_elem? c.homes (link_place p k) ≡ some (some x)) ⊎ ((j : ℕ) × (seat : SeatState) × (get_elem? c.seats j ≡ some seat) × InHand x seat.hand)

-- it took this so far
abbrev pub TookSoFar : Plan → Core → ℕ → List ℕ → Type 0
TookSoFar p c k took = (next : ℕ) × (done : Bool) × Lies p c k (Link k took next done)

-- it is finished
abbrev pub IsDone : Plan → Core → ℕ → Type 0
IsDone p c k = (took : List ℕ) (next : ℕ) (done : Bool) → Lies p c k (Link k took next done) → done ≡ true

-- ## What its other end gave

-- what belongs to what was taken: the replies with the server, and else nothing
abbrev pub offered_by : Shape → List ℕ → List ℕ
offered_by shape took = if shape.serve then given_for shape took else []

-- with these bytes more the link gave some of what belongs to what it took, in order
abbrev pub GavePart : Plan → Shape → Core → ℕ → List ℕ → Type 0
GavePart p shape c k bytes = (took : List ℕ) → TookSoFar p c k took → (more : List ℕ) × ((gave_in c k ++ bytes) ++ more ≡ offered_by shape took)

-- it gave what belongs to all that it took
abbrev pub GaveAll : Plan → Shape → Core → ℕ → Type 0
GaveAll p shape c k = (took : List ℕ) → TookSoFar p c k took → gave_in c k ≡ offered_by shape took

-- and that is all, whatever it takes besides
abbrev pub GaveLast : Plan → Shape → Core → ℕ → Type 0
GaveLast p shape c k = (took more : List ℕ) → TookSoFar p c k took → gave_in c k ≡ offered_by shape (took ++ more)

-- a take finds some of what belongs to what was taken; where it finds nothing, the other end has given all of that; behind its end nothing belongs to
-- what comes; and it closes only a link that is finished
abbrev pub IsOfferedSo : Plan → Shape → Core → ℕ → Taking → Type 0
IsOfferedSo p shape c k (Bytes bytes) = GavePart p shape c k bytes
IsOfferedSo p shape c k Nothing = GaveAll p shape c k
IsOfferedSo p shape c k AtEnd = GaveLast p shape c k
IsOfferedSo p shape c k Closed = GaveAll p shape c k × IsDone p c k
IsOfferedSo p shape c k other = Unit {0}

-- ## In a run

module _ (script : List Item) where
  abbrev pub OffersAt : Core → Answer → Program → Type 0
  OffersAt c answer (Aside (TakeBytes k room) next) = (shape : Shape) (taking : Taking) → slice_get (link_shapes script) k ≡ Some shape → answer ≡ OfTake taking → IsOfferedSo (plan_of script) shape c k taking
  OffersAt c answer other = Unit {0}

  -- of the link whose bytes the tick takes, if it takes some
  abbrev pub IsOffered : Core → Moment → Type 0
  IsOffered c m = (seat : SeatState) → get_elem? c.seats m.seat ≡ some seat → OffersAt c m.answer (first_step seat.program)

  -- of each of these ticks, one after another
  abbrev pub AreOffered : Core → List Moment → Type 0
  AreOffered c [] = Unit {0}
  AreOffered c (m ∷ ms) = IsOffered c m × AreOffered (ticked (plan_of script) c m) ms

-- the setup and the ending ask no link
pub record OffersInRun (script : List Item) (turns : List Turn) (core : Core) (is : IsRunWithCalls script turns core) : Type 0 where
  pub played : AreOffered script (set_up script is.setup) (is.scheduled ++ is.later)
  pub final : AreOffered script is.ended is.final
