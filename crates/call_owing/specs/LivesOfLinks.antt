-- The lives of links, by the words of their `open`s at the end of a run; and what a run says of a tick beside its two tables.
use Rattle.std.specs.Prelude.{ℕ, ◌≡◌, ◌≢◌, ◌-◌, ◌⊎◌, ◌==◌, true, if◌then◌else◌, List, [], ◌∷◌, ◌++◌, slice_index, Option, Some, None}
use mathlib.Core.Option as core
use lib.ListN.{get_elem?}
use Rattle.sock_words.specs.PackedWords.{at_word_first, at_word_slot, NO_SOCKET, call_id}
use Rattle.sock_model.specs.declared.home.Home.{Home}
use Rattle.sock_model.specs.declared.home.Home.TheVariants.{Link}
use Rattle.sock_words.specs.declared.plain.Plan.{Plan}
use Rattle.sock_model.specs.SocketTableLayout.{open_index}
use Rattle.corr_core.specs.declared.marks.Plan.{Plan as IdPlan}
use Rattle.seat_programs.specs.brpc_model.specs.Items.{Item}
use Rattle.seat_programs.specs.brpc_model.specs.Operations.{Turn}
use Rattle.seat_programs.specs.Tasks.{plan_of}
use Rattle.seat_programs.specs.ScriptSetupToEnding.{set_up, IsRunWithCalls}
use Rattle.seat_programs.specs.Asides.{StoreAt, TakeBytes, Closed}
use Rattle.seat_programs.specs.Programs.{Program, Aside}
use Rattle.seat_programs.specs.Cores.{Core, SeatState, link_place}
use Rattle.seat_programs.specs.Ticks.{Answer, Moment, taken, ticked}
use Rattle.joint_runs.specs.Below.id_runs.specs.HeldIdTokens.{IdView}
use Rattle.joint_runs.specs.Below.id_runs.specs.Goes.{SoundIds}
use Rattle.call_owing.specs.Owing.{Linked, Owing, InList}
use Rattle.call_owing.specs.SoundOwing.{at_of, FailedIn, SoundOwing}
use Rattle.seat_programs.specs.LoopRounds.{first_step}

-- the socket that a word of an `open` names
abbrev pub id_of : ℕ → Option ℕ
id_of w = if w == 0 then None else if w == NO_SOCKET then None else Some (w - 1)

-- the `open`s stand in order of their links
abbrev pub life_of : Plan → List ℕ → List ℕ → ℕ → Option ℕ
life_of p os ws k = elim (get_elem? os k) as (λ o. Option ℕ) [ core.none ↦ None | core.some o ↦ id_of (slice_index ws (open_index p o)) ]

module _ (q : IdPlan) (life : ℕ → Option ℕ) (calls : List ℕ) (c : Core) where
  -- the at word of an operation names no other id than its call's, and a link answers its reader that it is closed only where its life is past
  abbrev pub OthersFit : Owing → Answer → Program → Type 0
  OthersFit u answer (Aside (StoreAt o w) next) = InList o calls × ((id n k : ℕ) → u.duty ≡ Linked id n k → at_of q c o ≢ 0 → call_id (at_word_slot (at_of q c o)) (at_word_first (at_of q c o)) ≡ id)
  OthersFit u answer (Aside (TakeBytes k room) next) = taken answer ≡ core.some Closed → u.link ≡ k ∷ [] → FailedIn life c.words k
  OthersFit u answer other = Unit {0}

  abbrev pub IsSaying : Moment → Type 0
  IsSaying m = (us : List Owing) → SoundOwing q life calls c us → (seat : SeatState) (u : Owing) → get_elem? c.seats m.seat ≡ core.some seat → get_elem? us m.seat ≡ core.some u → OthersFit u m.answer (first_step seat.program)

-- at each of these ticks the ids are sound, and so it is said
abbrev pub AreSaying : Plan → IdPlan → (ℕ → Option ℕ) → List ℕ → Core → List Moment → Type 0
AreSaying p q life calls c [] = Unit {0}
AreSaying p q life calls c (m ∷ ms) = ((ws : List IdView) × SoundIds p q c ws) × IsSaying q life calls c m × AreSaying p q life calls (ticked p c m) ms

-- ## What links and words do by themselves

abbrev pub InHand : Home → List Home → Type 0
InHand x [] = ⊥
InHand x (y ∷ ys) = (y ≡ x) ⊎ InHand x ys

-- the writing half of link k is finished, wherever it lies, at home or in a seat's hand
abbrev pub IsFinished : Plan → Core → ℕ → Type 0
IsFinished p c k = (took : List ℕ) × (next : ℕ) × ((get_elem? c.homes (link_place p k) ≡ core.some (core.some (Link k took next true)))
    ⊎ ((j : ℕ) × (seat : SeatState) × (get_elem? c.seats j ≡ core.some seat) × InHand (Link k took next true) seat.hand))

abbrev pub ClosesAt : Plan → Core → Answer → Program → Type 0
ClosesAt p c answer (Aside (TakeBytes k room) next) = taken answer ≡ core.some Closed → IsFinished p c k
ClosesAt p c answer other = Unit {0}

-- at each of these ticks a link answers to a take that it is closed only where its writing half is finished: no other than the socket closes it. A link in memory, whose two
-- halves share one state, does so.
abbrev pub ClosesInTime : Plan → Core → List Moment → Type 0
ClosesInTime p c [] = Unit {0}
ClosesInTime p c (m ∷ ms) = ((seat : SeatState) → get_elem? c.seats m.seat ≡ core.some seat → ClosesAt p c m.answer (first_step seat.program)) × ClosesInTime p (ticked p c m) ms

-- the setup and the ending ask no link
pub record ClosesInRun (script : List Item) (turns : List Turn) (core : Core) (is : IsRunWithCalls script turns core) : Type 0 where
  pub played : ClosesInTime (plan_of script) (set_up script is.setup) (is.scheduled ++ is.later)
  pub final : ClosesInTime (plan_of script) is.ended is.final

-- an at word that is stored is a call's, and names the id that it named before, if it named one
abbrev pub KeepsAt : IdPlan → List ℕ → Core → Program → Type 0
KeepsAt q calls c (Aside (StoreAt o w) next) = InList o calls × (at_of q c o ≢ 0 → call_id (at_word_slot (at_of q c o)) (at_word_first (at_of q c o)) ≡ call_id (at_word_slot w) (at_word_first w))
KeepsAt q calls c other = Unit {0}

abbrev pub AreKept : Plan → IdPlan → List ℕ → Core → List Moment → Type 0
AreKept p q calls c [] = Unit {0}
AreKept p q calls c (m ∷ ms) = ((seat : SeatState) → get_elem? c.seats m.seat ≡ core.some seat → KeepsAt q calls c (first_step seat.program)) × AreKept p q calls (ticked p c m) ms
