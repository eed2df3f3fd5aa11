-- All seats with their views: the rule holds of them, and each view allows what its seat has still to do.
use Rattle.std.specs.Prelude.{ℕ, ◌≡◌, ◌+◌, ◌*◌, ◌<◌, ◌≤◌, ◌≢◌, ◌%◌, ◌⊎◌, Bool, true, false, List, [], ◌∷◌, ◌++◌, length, take, set, slice_index}
use Rattle.std.specs.List.{AllByRecursion}
use mathlib.Core.Option.{Option, none, some}
use lib.ListN.{get_elem?}
use Rattle.atomic_table.specs.Table.{State}
use Rattle.sock_words.specs.declared.plain.Plan.{Plan}
use Rattle.sock_words.specs.PackedWords.{vref_version, vref_nref, IDLE, NO_SOCKET}
use Rattle.sock_model.specs.declared.chain.Heading.{Heading}
use Rattle.sock_model.specs.declared.chain.Right.{Right}
use Rattle.sock_model.specs.declared.home.Home.{Home}
use Rattle.sock_model.specs.declared.home.Home.TheVariants.{Link, Message}
use Rattle.sock_model.specs.declared.view.View.{View}
use Rattle.sock_model.specs.declared.view.Hand.{Hand}
use Rattle.sock_model.specs.LawfulSockets.{Lawful}
use Rattle.sock_model.specs.SocketTableLayout.{tag_index, ref_index}
use Rattle.sock_model.specs.Rule.{AreShort, lists_of}
use Rattle.sock_model.specs.SocketSlotLaw.{count}
use Rattle.sock_model.specs.MarkWeights.{is_born, is_failer, is_freer}
use Rattle.sock_model.specs.References.{slot_facts}
use Rattle.sock_model.specs.UnplacedMessages.{HeadedBytes}
use Rattle.sock_model.specs.ChainLawReads.{message, link_home}
use Rattle.seat_programs.specs.TableSteps.{TableStep, OnSlot, OnName, OnChain, OnPlace, OnLink, OnMessage, CreateLife, AddRef, SubRef, Recycle, LoadLink, LoadName, TakeLink, FinishLink, PutLink, FindLink, ClaimRequest, PutMessage, EmptyHead, FreeRequest, StorePlace, DropPlace}
use Rattle.seat_programs.specs.Programs.{Program, Do, TakeMessage, TakeHome, PutHome, PutBytes, Say, Sent, Keep, Retries, AskReady, Write, Aside, Round, Rest, LAST_VERSION, LAST_GENERATION}
use Rattle.seat_programs.specs.SendAndWritePrograms.{block}
use Rattle.seat_programs.specs.LoopRounds.{round, first_step}
use Rattle.seat_programs.specs.Asides.{Found}
use Rattle.seat_programs.specs.FoundAndChangedAside.{found_in}
use Rattle.program_steps.specs.IdWordFits.{FitsFound, FitsRetry}
use Rattle.seat_programs.specs.Cores.{Core, SeatState, found_at, link_place, waiting_at}
use Rattle.seat_programs.specs.StepTables.{word_of}
use Rattle.seat_programs.specs.Ticks.{Answer, OfPut, Moment, ticked, taken}
use Rattle.seat_programs.specs.StepTables.{row, hand_at}
use Rattle.seat_programs.specs.StepsOfMessages.{took_message}
use Rattle.seat_programs.specs.StepsOfLinks.{link_away, link_home_again, took_bytes}
use Rattle.program_steps.specs.ProgramGoesOn.{GoesOn}

-- the core as the rule sees it
abbrev pub state : Core → List View → State Home View
state c views = record { words = c.words; homes = c.homes; views = views }

-- ## One seat

-- the link in hand is the one that the view has there
abbrev pub AreInHand : List Home → List Hand → Type 0
AreInHand [] [] = Unit {0}
AreInHand (x ∷ xs) (h ∷ hs) = ((done : Bool) × (x ≡ Link h.link h.took h.next done)) × AreInHand xs hs
AreInHand xs hs = ⊥

-- a link in hand of whoever writes it: it isn't ended, and took what the right says
abbrev pub IsOfRight : Right → Home → Type 0
IsOfRight r x = (next : ℕ) × (x ≡ Link r.link (r.sent ++ take r.put r.bytes) next false)

-- the links in hand are those of the rights whose links aren't at home, and then those in hand without a right
abbrev pub AreHeld : List Home → List Right → List Hand → Type 0
AreHeld hand [] hands = AreInHand hand hands
AreHeld hand (r ∷ rs) hands = elim r.at_home as (λ b. Type 0) [
  | true ↦ AreHeld hand rs hands
  | false ↦ (x : Home) × (others : List Home) × (hand ≡ x ∷ others) × IsOfRight r x × AreHeld others rs hands
]

pub record SoundSeat (p : Plan) (seat : SeatState) (v : View) : Type 0 where
  pub hand : AreHeld seat.hand v.rights v.hands
  pub goes_on : GoesOn p v seat.program

-- ## All seats

-- the sizes of a table
pub record IsWithinLimits (p : Plan) : Type 0 where
  pub slots : p.slots ≤ 256
  pub links : p.links ≤ 256
  pub requests : p.requests ≤ 4096
  pub names : p.names ≤ 64
  pub operations : p.operations ≤ 4096
  pub first : p.first ≤ LAST_VERSION

-- a message at home has a place word of the table, and some byte
abbrev pub AreLabelled : Plan → List (Option Home) → Type 0
AreLabelled p homes = (i : ℕ) (heading : Heading) (bytes : List ℕ) → get_elem? homes i ≡ some (some (Message heading bytes)) → (heading.label.place < 8 * p.operations) × (bytes ≢ [])

pub record Sound (p : Plan) (c : Core) (views : List View) : Type 0 where
  pub limits : IsWithinLimits p
  pub lawful : Lawful (λ home. home) p (state c views)
  pub each : length views ≡ length c.seats
  pub homes : length c.homes ≡ p.requests + p.links
  pub labels : AreLabelled p c.homes
  -- a retry that waits is one of the attempts of a call
  pub waiting : (i : ℕ) → AllByRecursion FitsRetry (waiting_at c.calls.waiting i)
  pub seats : (i : ℕ) (seat : SeatState) (v : View) → get_elem? c.seats i ≡ some seat → get_elem? views i ≡ some v → SoundSeat p seat v

-- each client keeps one list of the messages that it had accepted, which isn't longer than it may be
pub record AreFew (views : List View) : Type 0 where
  pub few_seats : length views ≤ 64
  pub short : (i : ℕ) (v : View) → get_elem? views i ≡ some v → (lists_of v ≤ 1) × AreShort v

-- ## What a tick makes of the views

module _ (p : Plan) (i : ℕ) (c : Core) (views : List View) (v : View) where
  -- the message taken out of its home, where it was there
  abbrev pub views_with_message : Option HeadedBytes → List View
  views_with_message none = views
  views_with_message (some letter) = set views i (took_message letter.0 letter.1 v)

  -- and the link
  abbrev pub views_with_link : Option (List ℕ × ℕ) → List View
  views_with_link none = views
  views_with_link (some home) = set views i (link_away v)

  abbrev pub views_with_put : Answer → List View
  views_with_put (OfPut answer) = set views i (took_bytes answer v)
  views_with_put other = views

  abbrev pub views_with : Answer → Program → List View
  views_with answer (Do call next) = set views i (row p call (found_at c.words (word_of p call)) (hand_at p c.words c.homes call) v)
  views_with answer (TakeMessage q next) = views_with_message (message (λ home. home) c.homes q)
  views_with answer (TakeHome k next) = views_with_link (link_home (λ home. home) p c.homes k)
  views_with answer (PutHome k n after) = set views i (link_home_again v)
  views_with answer (PutBytes k asked bytes next) = views_with_put answer
  views_with answer other = views

  abbrev pub views_of : Answer → Program → List View
  views_of answer (Write w after) = views_with answer (block w after)
  views_of answer (Round head next) = views_with answer (round head next)
  views_of answer other = views_with answer other

-- the views after a tick
abbrev pub views_after : Plan → Core → List View → Moment → List View
views_after p c views m = elim (get_elem? c.seats m.seat) as (λ o. List View) [
  | none ↦ views
  | some seat ↦ elim (get_elem? views m.seat) as (λ o. List View) [ none ↦ views | some v ↦ views_of p m.seat c views v m.answer seat.program ]
]

-- and after ticks one after another
abbrev pub views_along : Plan → Core → List View → List Moment → List View
views_along p c views [] = views
views_along p c views (m ∷ ms) = views_along p (ticked p c m) (views_after p c views m) ms

-- ## What a machine relies on

-- a place word has room for so many places
abbrev pub MOST_PLACES : ℕ
MOST_PLACES = 4294967295

abbrev pub AllowsWord : TableStep → ℕ → Type 0
AllowsWord (OnSlot (CreateLife i k)) found = vref_nref found < 4294967295
AllowsWord (OnSlot (AddRef id)) found = vref_nref found < 4294967295
AllowsWord (OnSlot (SubRef i)) found = 0 < vref_nref found
AllowsWord (OnSlot (Recycle i from)) found = (vref_nref from ≡ 0) × (vref_version from % 2 ≡ 1) × (vref_version from < 4294967295)
AllowsWord (OnSlot (LoadLink i w)) found = found < 256
AllowsWord (OnName (LoadName n)) found = found ≢ NO_SOCKET
AllowsWord (OnSlot (FindLink i h)) found = found < 256
AllowsWord (OnChain (ClaimRequest id q)) found = found < 281474976710656
AllowsWord (OnChain (EmptyHead i last)) found = last < IDLE
AllowsWord (OnChain (FreeRequest q g)) found = g < LAST_GENERATION
AllowsWord (OnPlace (StorePlace l k n)) found = n < MOST_PLACES
AllowsWord (OnPlace (DropPlace l k n)) found = n < MOST_PLACES
AllowsWord other found = Unit {0}

abbrev pub AllowsMove : Plan → Core → TableStep → Type 0
AllowsMove p c (OnLink (TakeLink k)) = (k < p.links) × ((took : List ℕ) × (next : ℕ) × (done : Bool) × (get_elem? c.homes (link_place p k) ≡ some (some (Link k took next done))))
AllowsMove p c (OnLink (FinishLink k)) = k < p.links
AllowsMove p c (OnLink (PutLink k)) = k < p.links
AllowsMove p c (OnMessage (PutMessage q heading bytes)) = q < p.requests
AllowsMove p c other = Unit {0}

-- the word of the step is there, its count of references neither overflows nor falls below 0, an exchange is tried from a
-- word without references, and a link is taken from its home
abbrev pub Allows : Plan → Core → TableStep → Type 0
Allows p c call = ((x : ℕ) → word_of p call ≡ some x → x < length c.words) × AllowsWord call (found_at c.words (word_of p call)) × AllowsMove p c call

-- whoever puts a link home, or asks it, has it in hand
abbrev pub HasLink : Plan → SeatState → ℕ → Type 0
HasLink p seat k = (k < p.links) × ((took : List ℕ) × (next : ℕ) × (seat.hand ≡ Link k took next false ∷ []))

-- a message is at home, or a link
abbrev pub HasMessageAt : Plan → Core → ℕ → Type 0
HasMessageAt p c q = (q < p.requests) × ((heading : Heading) × (bytes : List ℕ) × (get_elem? c.homes q ≡ some (some (Message heading bytes))) × (heading.label.place < 8 * p.operations) × (bytes ≢ []))

abbrev pub HasLinkAt : Plan → Core → ℕ → Type 0
HasLinkAt p c k = (k < p.links) × ((took : List ℕ) × (next : ℕ) × (get_elem? c.homes (link_place p k) ≡ some (some (Link k took next false))))

-- the same of any step of a seat
abbrev pub AllowsStep : Plan → Core → SeatState → Program → Type 0
AllowsStep p c seat (Do call next) = Allows p c call
AllowsStep p c seat (TakeMessage q next) = HasMessageAt p c q
AllowsStep p c seat (TakeHome k next) = HasLinkAt p c k
AllowsStep p c seat (PutHome k n after) = HasLink p seat k
AllowsStep p c seat (PutBytes k asked bytes next) = HasLink p seat k × (bytes ≢ [])
AllowsStep p c seat (AskReady k next) = HasLink p seat k
AllowsStep p c seat other = Unit {0}

-- what a step aside finds is as the rule of the ids says
abbrev pub FitsBeside : Plan → Core → Answer → Program → Type 0
FitsBeside p c answer (Aside step next) = (found : Found step) → found_in step c.calls (taken answer) ≡ some found → FitsFound p step found
FitsBeside p c answer other = Unit {0}

abbrev pub IsFitting : Plan → Core → Moment → Type 0
IsFitting p c m = (seat : SeatState) → get_elem? c.seats m.seat ≡ some seat → FitsBeside p c m.answer (first_step seat.program)

abbrev pub AreFitting : Plan → Core → List Moment → Type 0
AreFitting p c [] = Unit {0}
AreFitting p c (m ∷ ms) = IsFitting p c m × AreFitting p (ticked p c m) ms

-- ## The end of a run

-- no seat has an outcome to say before its next step
abbrev pub is_begun : Program → Bool
is_begun (Say o outcome next) = false
is_begun (Sent o next) = false
is_begun (Keep r next) = false
is_begun (Retries requests after) = false
is_begun other = true

abbrev pub IsAhead : Core → Type 0
IsAhead c = (i : ℕ) (seat : SeatState) → get_elem? c.seats i ≡ some seat → is_begun seat.program ≡ true

-- no seat has anything left to do
abbrev pub AllRest : Core → Type 0
AllRest c = (i : ℕ) (seat : SeatState) → get_elem? c.seats i ≡ some seat → seat.program ≡ Rest

-- every life that was made was set failed
abbrev pub AllFailed : Plan → Core → List View → Type 0
AllFailed p c views = (i h : ℕ) → i < p.slots → 0 < count (is_born h) (slot_facts (state c views) i) → 0 < count (is_failer h) (slot_facts (state c views) i)

-- every life that was made has ended
abbrev pub AllEnded : Plan → Core → List View → Type 0
AllEnded p c views = (i h : ℕ) → i < p.slots → 0 < count (is_born h) (slot_facts (state c views) i) → 0 < count (is_freer h) (slot_facts (state c views) i)

-- nobody refers to the slot, its version is that of no failed life, and it is free unless its versions are used up
pub record IsOver (words : List ℕ) (i : ℕ) : Type 0 where
  pub unreferred : vref_nref (slice_index words (ref_index i)) ≡ 0
  pub even : vref_version (slice_index words (ref_index i)) % 2 ≡ 0
  pub free : (slice_index words (tag_index i) ≡ 0) ⊎ (LAST_VERSION < vref_version (slice_index words (ref_index i)))

-- the life of version h of slot i was made, and has not ended
pub record IsAlive (p : Plan) (c : Core) (views : List View) (i h : ℕ) : Type 0 where
  pub inside : i < p.slots
  pub born : 0 < count (is_born h) (slot_facts (state c views) i)
  pub not_ended : count (is_freer h) (slot_facts (state c views) i) ≡ 0
