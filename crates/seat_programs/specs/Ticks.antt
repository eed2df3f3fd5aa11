-- A tick of one seat: its next step, with what the link in its hand answers.
use Rattle.std.specs.Prelude.{ℕ, ◌≡◌, ◌≢◌, ◌<◌, ◌≤◌, ◌==◌, ◌&&◌, not, Bool, true, false, if◌then◌else◌, List, [], ◌∷◌, ◌++◌, length, take, map, fold, slice_index, slice_set}
use Rattle.std.specs.Prelude as std
use mathlib.Core.Option.{Option, some, none}
use lib.ListN.{get_elem?}
use Rattle.sock_model.specs.sock_words.specs.declared.plain.Plan.{Plan}
use Rattle.sock_io.specs.declared.link.Put.{Put}
use Rattle.sock_io.specs.declared.link.Put.TheVariants.{Took, Again, Failed}
use Rattle.sock_io.specs.declared.link.Ready.{Ready}
use Rattle.sock_io.specs.declared.link.Ready.TheVariants.{NotYet}
use Rattle.sock_io.specs.declared.link.Ready.TheVariants as ready
use Rattle.sock_model.specs.declared.home.Home.{Home}
use Rattle.sock_model.specs.declared.home.Home.TheVariants.{Link}
use Rattle.sock_model.specs.SocketTableLayout.{next_index}
use Rattle.sock_model.specs.UnplacedMessages.{HeadedBytes}
use Rattle.sock_model.specs.ChainLawReads.{message, link_home}
use Rattle.seat_programs.specs.Writings as heads
use Rattle.seat_programs.specs.Programs.{Program, Do, TakeMessage, TakeHome, PutHome, PutBytes, AskReady, Write, Aside, Round}
use Rattle.seat_programs.specs.Asides.{Step, Found, TakeBytes, Taking, Bytes, Nothing, NoMore}
use Rattle.seat_programs.specs.LoopHeads.{Head, Locks, Joins, Opens, Reads, Discards}
use Rattle.seat_programs.specs.PostPrograms.{is_first, is_sought}
use Rattle.seat_programs.specs.ReaderProgram.{room_of}
use Rattle.seat_programs.specs.LoopRounds.{round}
use Rattle.seat_programs.specs.FoundAndChangedAside.{found_in, calls_after}
use Rattle.sock_model.specs.SocketTableLayout.{open_index}
use Rattle.id_rule.specs.LawfulIdTable as ids
use Rattle.corr_core.specs.IdSlotWord.{parts}
use Rattle.seat_programs.specs.SendAndWritePrograms.{block}
use Rattle.seat_programs.specs.Cores.{Calls, Core, SeatState, lies_at, first_of, others_of, link_place, with_seat, stepped}
use Rattle.sock_model.specs.sock_words.specs.PackedWords.{ticket_request, UNCONNECTED, id_slot, id_first}

-- what a link answered in a tick, where it was asked
pub data Answer : Type 0 where
  Unasked : Answer
  OfPut : Put → Answer
  OfReady : Ready → Answer
  OfTake : Taking → Answer

-- a tick of a seat, with what the link in its hand answers
pub record Moment : Type 0 where
  pub seat : ℕ
  pub answer : Answer

-- a tick in which no link is asked
abbrev pub quiet : ℕ → Moment
quiet seat = record { seat = seat; answer = Unasked }

-- whose ticks these are
abbrev pub seats_of : List Moment → List ℕ
seats_of moments = map (λ (m : Moment). m.seat) moments

-- ## The link in hand

-- a put appends to what the link took; a put that failed or took nothing leaves it
abbrev pub fed : List ℕ → Put → Home → Home
fed bytes (Took n) (Link k took next done) = Link k (took ++ take n bytes) next done
fed bytes answer other = other

-- the link goes home with so many places
abbrev pub with_places : ℕ → Home → Home
with_places n (Link k took next done) = Link k took n done
with_places n other = other

abbrev pub onto_first : (Home → Home) → List Home → List Home
onto_first change [] = []
onto_first change (x ∷ xs) = change x ∷ xs

-- what a take was answered
abbrev pub taken : Answer → Option Taking
taken (OfTake t) = some t
taken other = none

-- ## A tick

module _ (p : Plan) (i : ℕ) (seat : SeatState) (c : Core) where
  -- the message of request q, where it is at home
  abbrev pub with_message : ℕ → Option HeadedBytes → (HeadedBytes → Program) → Core
  with_message q none next = c
  with_message q (some letter) next = with_seat i (next letter) seat.hand c.words (slice_set c.homes q none) c

  -- link k, where it is at home
  abbrev pub with_link : ℕ → Option (List ℕ × ℕ) → (ℕ → Program) → Core
  with_link k none next = c
  with_link k (some home) next = with_seat i (next home.1) (lies_at c.homes (link_place p k) ++ seat.hand) c.words (slice_set c.homes (link_place p k) none) c

  -- what a put was answered, and what the question was
  abbrev pub with_put : List ℕ → Answer → (Put → Program) → Core
  with_put bytes (OfPut answer) next = with_seat i (next answer) (onto_first (fed bytes answer) seat.hand) c.words c.homes c
  with_put bytes other next = c

  abbrev pub with_ready : Answer → (Ready → Program) → Core
  with_ready (OfReady answer) next = with_seat i (next answer) seat.hand c.words c.homes c
  with_ready other next = c

  -- a step aside of the sockets, which found this
  abbrev pub with_found : (step : Step) → Option (Found step) → (Found step → Program) → Core
  with_found step none next = c
  with_found step (some found) next = with_seat i (next found) seat.hand c.words c.homes (record c { calls = calls_after step found c.calls })

  -- the next step of a seat in this state, which isn't at the head of a loop
  abbrev pub step_with : Answer → Program → Core
  step_with answer (Do call next) = stepped p i seat call next c
  step_with answer (TakeMessage q next) = with_message q (message (λ home. home) c.homes q) (λ letter. next letter.0 letter.1)
  step_with answer (TakeHome k next) = with_link k (link_home (λ home. home) p c.homes k) next
  step_with answer (PutHome k n after) = with_seat i after (others_of seat.hand) c.words (slice_set c.homes (link_place p k) (first_of (onto_first (with_places n) seat.hand))) c
  step_with answer (PutBytes k asked bytes next) = with_put bytes answer next
  step_with answer (AskReady k next) = with_ready answer next
  step_with answer (Aside step next) = with_found step (found_in step c.calls (taken answer)) next
  step_with answer other = c

  -- at the head of a loop it is the first step of the next round
  abbrev pub tick_with : Answer → Program → Core
  tick_with answer (Write w after) = step_with answer (block w after)
  tick_with answer (Round head next) = step_with answer (round head next)
  tick_with answer other = step_with answer other

-- a tick of a seat; where there is no such seat nothing changes
abbrev pub ticked : Plan → Core → Moment → Core
ticked p c m = elim (get_elem? c.seats m.seat) as (λ o. Core) [ none ↦ c | some seat ↦ tick_with p m.seat seat c m.answer seat.program ]

-- ticks one after another
abbrev pub run : Plan → Core → List Moment → Core
run p c moments = fold (ticked p) c moments

-- ## What a link may answer

-- a link takes some of the bytes, or none; nothing for want of a place only where it hasn't answered that it takes more
abbrev pub FitsPut : Bool → List ℕ → Put → Type 0
FitsPut asked bytes (Took n) = (0 < n) × (n ≤ length bytes)
FitsPut asked bytes Again = asked ≡ false
FitsPut asked bytes other = Unit {0}

-- a take gives some bytes, as many as there is room for at most; that no more will come isn't answered: while the run is ending, it is what
-- the run makes of `Nothing`
abbrev pub FitsTake : ℕ → Taking → Type 0
FitsTake room (Bytes bytes) = (0 < length bytes) × (length bytes ≤ room)
FitsTake room NoMore = ⊥
FitsTake room other = Unit {0}

abbrev pub IsTaken : ℕ → Answer → Type 0
IsTaken room answer = (t : Taking) × (answer ≡ OfTake t) × FitsTake room t

-- a seat whose next step asks its link is answered
abbrev pub IsAnswer : Program → Answer → Type 0
IsAnswer (Aside (TakeBytes k room) next) answer = IsTaken room answer
IsAnswer (Round (Reads r) next) answer = IsTaken (room_of r.total) answer
IsAnswer (Round (Discards k total) next) answer = IsTaken (room_of total) answer
IsAnswer (PutBytes k asked bytes next) answer = (put : Put) × (answer ≡ OfPut put) × FitsPut asked bytes put
IsAnswer (AskReady k next) answer = (ready : Ready) × (answer ≡ OfReady ready)
IsAnswer (Write (heads.Waits h now heading left taken) after) answer = (ready : Ready) × (answer ≡ OfReady ready)
IsAnswer other answer = Unit {0}

abbrev pub IsAnswered : Core → Moment → Type 0
IsAnswered c m = (seat : SeatState) → get_elem? c.seats m.seat ≡ some seat → IsAnswer seat.program m.answer

abbrev pub AreAnswered : Plan → Core → List Moment → Type 0
AreAnswered p c [] = Unit {0}
AreAnswered p c (m ∷ ms) = IsAnswered c m × AreAnswered p (ticked p c m) ms

-- a prompt link never answers that it takes no more yet
abbrev pub IsAlwaysReady : Moment → Type 0
IsAlwaysReady m = m.answer ≢ OfReady NotYet

-- the link that the next step asks, if it asks one
abbrev pub asked_link : Program → List ℕ
asked_link (PutBytes k asked bytes next) = k ∷ []
asked_link (AskReady k next) = k ∷ []
asked_link (Write (heads.Waits h now heading left taken) after) = h.link ∷ []
asked_link other = []

abbrev pub is_refusal : Answer → Bool
is_refusal (OfPut Failed) = true
is_refusal (OfReady ready.Failed) = true
is_refusal other = false

-- the link that answered in a tick that it failed, if one did
abbrev pub broken_at : Core → Moment → List ℕ
broken_at c m = if is_refusal m.answer then elim (get_elem? c.seats m.seat) as (λ o. List ℕ) [ none ↦ [] | some seat ↦ asked_link seat.program ] else []

-- and in these ticks, one after another
abbrev pub broken_in : Plan → Core → List Moment → List ℕ
broken_in p c [] = []
broken_in p c (m ∷ ms) = broken_at c m ++ broken_in p (ticked p c m) ms

-- ## Waiting

-- the seat waits: for the next word of the entry to which its walk has come, or for its link to take more. Its tick changes nothing.
abbrev pub is_nothing : Bool → Answer → Bool
is_nothing ending (OfTake Nothing) = not ending
is_nothing ending other = false

-- for an id that another seat has locked, or, of a `join`, that hasn't ended, for the word of an `open`, or for more bytes
abbrev pub waits_in : Plan → List ℕ → Calls → Answer → Head → Bool
waits_in p ws a answer (Locks i sought std.None) = let w = parts (slice_index a.words (ids.id_index i)) in is_sought sought w && not (w.state == 1)
waits_in p ws a answer (Joins id) = is_first (id_first id) (parts (slice_index a.words (ids.id_index (id_slot id))))
waits_in p ws a answer (Opens o) = slice_index ws (open_index p o) == 0
waits_in p ws a answer (Reads r) = is_nothing a.ending answer
waits_in p ws a answer (Discards k total) = is_nothing a.ending answer
waits_in p ws a answer other = false

abbrev pub waits_at : Plan → Core → Answer → Program → Bool
waits_at p c answer (Write (heads.Reversing h top at after) then_) = slice_index c.words (next_index p (ticket_request at)) == UNCONNECTED
waits_at p c (OfReady NotYet) (Write (heads.Waits h now heading left taken) then_) = true
waits_at p c answer (Round head next) = waits_in p c.words c.calls answer head
waits_at p c answer other = false

abbrev pub waits : Plan → Core → Moment → Bool
waits p c m = elim (get_elem? c.seats m.seat) as (λ o. Bool) [ none ↦ false | some seat ↦ waits_at p c m.answer seat.program ]
