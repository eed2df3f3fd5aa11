-- A tick of any seat keeps all seats sound.
use Rattle.std.proofs.Common.{◌≡◌, ◌≢◌, ℕ, ◌+◌, ◌*◌, ◌<◌, List, [], ◌∷◌, length, length-set, set, refl, sym, ◌∙◌, subst, ⊎_elim, arith}
use mathlib.Core.Option.{Option, some, none, some-injective, some-ne-none}
use lib.ListN.{get_elem?}
use Rattle.atomic_table.proofs.Lists.{at_set}
use Rattle.sock_words.specs.declared.plain.Plan.{Plan}
use Rattle.sock_model.specs.declared.chain.Heading.{Heading}
use Rattle.sock_model.specs.declared.home.Home.{Home}
use Rattle.sock_model.specs.declared.home.Home.TheVariants.{Link, Message}
use Rattle.sock_model.specs.declared.view.View.{View}
use Rattle.sock_model.specs.declared.view.Hand.{Hand}
use Rattle.sock_model.specs.LawfulSockets.{Lawful}
use Rattle.seat_programs.specs.TableSteps.{TableStep, OnSlot, OnName, OnChain, OnPlace, OnLink, OnMessage, ClaimSlot, CreateLife, AddRef, SubRef, SetOdd, Recycle, FreeSlot, StoreLink, LoadLink, ResetHead, ClearCode, StoreCode, StoreName, LoadName, StoreOpen, LoadOpen, TakeLink, FinishLink, PutLink, LookWord, FindLink, LoadCode, ClaimRequest, PutMessage, Unconnect, SwapHead, Connect, EmptyHead, ReadNext, ReverseNext, FreeRequest, StorePlace, DropPlace}
use Rattle.seat_programs.specs.Programs.{Program, Do}
use Rattle.seat_programs.specs.Cores.{Core, SeatState, found_at, words_after, homes_after, hand_after, first_of, stepped}
use Rattle.seat_programs.specs.StepTables.{word_of, word_after}
use Rattle.seat_programs.specs.Ticks.{Moment, IsAnswered, ticked}
use Rattle.seat_programs.specs.StepTables.{row, hand_at}
use Rattle.seat_programs.specs.StepTables.{May}
use Rattle.program_steps.specs.ProgramGoesOn.{GoesOn}
use Rattle.program_steps.specs.SoundSeats.{state, AreInHand, AreHeld, AreLabelled, Sound, views_after, IsFitting}
use Rattle.sock_runs.proofs.SlotTicks as slots
use Rattle.sock_runs.proofs.NameTicks as names
use Rattle.sock_runs.proofs.ChainTicks as chains
use Rattle.sock_runs.proofs.LinkTicks.{RetriesGo, reseats, steps_aside, takes_message, takes_home_shown, puts_home, puts_bytes, asks_ready, same_message}
use Rattle.sock_runs.proofs.HandTicks.{takes, finishes, puts}
use Rattle.sock_runs.proofs.HeldLinksByRights.{held_in_hand, keeps_held}
use Rattle.sock_runs.proofs.Founds.{finds}
use Rattle.program_steps.proofs.TickCases.{found_fits, tick_cases}

-- ## The view after a step

module _ (p : Plan) (c : Core) (vs : List View) (o : Lawful (λ home. home) p (state c vs)) (i : ℕ) (v : View) (at : get_elem? vs i ≡ some v) (hand : List Home) (held : AreHeld hand v.rights v.hands) (sized : length c.homes ≡ p.requests + p.links) where
  abbrev found : TableStep → ℕ
  found call = found_at c.words (word_of p call)

  abbrev after : TableStep → View
  after call = row p call (found_at c.words (word_of p call)) (hand_at p c.words c.homes call) v

  -- the rule holds behind the step
  keeps_rule : (call : TableStep) → May p v call → Lawful (λ home. home) p record { words = words_after c.words (word_of p call) (word_after call (found call)); homes = homes_after p call hand c.homes; views = set vs i (after call) }
  keeps_rule (OnSlot (ClaimSlot j)) may = slots.claims p (state c vs) o i v at j may
  keeps_rule (OnSlot (CreateLife j k)) may = slots.bears p (state c vs) o i v at j k may
  keeps_rule (OnSlot (AddRef id)) may = slots.adds p (state c vs) o i v at id may
  keeps_rule (OnSlot (SubRef j)) may = slots.subs p (state c vs) o i v at j may
  keeps_rule (OnSlot (SetOdd j)) may = slots.fails p (state c vs) o i v at j may
  keeps_rule (OnSlot (Recycle j from)) may = slots.recycles p (state c vs) o i v at j from may
  keeps_rule (OnSlot (FreeSlot j)) may = slots.frees p (state c vs) o i v at j may
  keeps_rule (OnSlot (StoreLink j k)) may = slots.links p (state c vs) o i v at j k may
  keeps_rule (OnSlot (LoadLink j w)) may = slots.meets p (state c vs) o i v at j w may
  keeps_rule (OnSlot (ResetHead j k)) may = slots.resets p (state c vs) o i v at j k may
  keeps_rule (OnSlot (ClearCode j k)) may = slots.wipes p (state c vs) o i v at j k may
  keeps_rule (OnSlot (StoreCode j h d)) may = slots.codes p (state c vs) o i v at j h d may
  keeps_rule (OnName (StoreName n w)) may = names.store_names p (state c vs) o i v at n w may
  keeps_rule (OnName (LoadName n)) may = names.load_names p (state c vs) o i v at n may
  keeps_rule (OnName (StoreOpen n w)) may = names.store_opens p (state c vs) o i v at n w may
  keeps_rule (OnName (LoadOpen n)) may = names.load_opens p (state c vs) o i v at n may
  keeps_rule (OnLink (TakeLink k)) may = takes p (state c vs) o i v at hand k may
  keeps_rule (OnLink (FinishLink k)) may = finishes p (state c vs) o i v at hand k
  keeps_rule (OnLink (PutLink k)) may = let k_in = may.0 in puts p (state c vs) o i v at hand k (omega arith) (held_in_hand hand v.rights v.hands may.2 held) may.1
  keeps_rule (OnSlot (LookWord id)) may = chains.looks p (state c vs) o i v at id may
  keeps_rule (OnSlot (FindLink j h)) may = chains.finds_link p (state c vs) o i v at j h may
  keeps_rule (OnSlot (LoadCode j h)) may = chains.loads_code p (state c vs) o i v at j h may
  keeps_rule (OnChain (ClaimRequest id q)) may = chains.claims_request p (state c vs) o i v at id q may
  keeps_rule (OnMessage (PutMessage q heading bytes)) may = let q_in = may.0 in chains.puts_message p (state c vs) o i v at hand q heading bytes (omega arith) may
  keeps_rule (OnChain (Unconnect q)) may = chains.unconnects p (state c vs) o i v at q may
  keeps_rule (OnChain (SwapHead j own)) may = chains.swaps_head p (state c vs) o i v at j own may
  keeps_rule (OnChain (Connect q before)) may = chains.connects p (state c vs) o i v at q before may
  keeps_rule (OnChain (EmptyHead j last)) may = chains.empties p (state c vs) o i v at j last may
  keeps_rule (OnChain (ReadNext q)) may = chains.reads_next p (state c vs) o i v at q may
  keeps_rule (OnChain (ReverseNext q value)) may = chains.turns_next p (state c vs) o i v at q value may
  keeps_rule (OnChain (FreeRequest q g)) may = chains.frees_request p (state c vs) o i v at q g may
  keeps_rule (OnPlace (StorePlace l k n)) may = chains.stores_place p (state c vs) o i v at l k n may
  keeps_rule (OnPlace (DropPlace l k n)) may = chains.drops_place p (state c vs) o i v at l k n may

-- ## All seats

pub homes_sized : (p : Plan) (call : TableStep) (hand : List Home) (hs : List (Option Home)) → length (homes_after p call hand hs) ≡ length hs
homes_sized p (OnLink (TakeLink k)) hand hs = length-set hs (p.requests + k) none
homes_sized p (OnLink (PutLink k)) hand hs = length-set hs (p.requests + k) (first_of hand)
homes_sized p (OnMessage (PutMessage q heading bytes)) hand hs = length-set hs q (some (Message heading bytes))
homes_sized p _ hand hs = refl

-- a message in hand is none of those that go home
first_link : (hand : List Home) (hands : List Hand) → AreInHand hand hands → (heading : Heading) (bytes : List ℕ) → first_of hand ≡ some (Message heading bytes) → ⊥
first_link [] hands are heading bytes e = some-ne-none (Message heading bytes) (sym e)
first_link (x ∷ xs) [] are heading bytes e = are
first_link (x ∷ xs) (h ∷ hs) are heading bytes e = let q : Link h.link h.took h.next are.0.0 ≡ Message heading bytes = sym are.0.1 ∙ some-injective x (Message heading bytes) e in cc

labels_stay : (p : Plan) (v : View) (call : TableStep) → May p v call → (hand : List Home) → AreHeld hand v.rights v.hands → (hs : List (Option Home)) → AreLabelled p hs → AreLabelled p (homes_after p call hand hs)
labels_stay p v (OnLink (TakeLink k)) may hand held hs labels i heading bytes at = ⊎_elim (λ a. absurd (some-ne-none (Message heading bytes) (sym a.1))) (λ a. labels i heading bytes a.1) (at_set hs (p.requests + k) i none (some (Message heading bytes)) at)
labels_stay p v (OnLink (PutLink k)) may hand held hs labels i heading bytes at = ⊎_elim (λ a. absurd (first_link hand v.hands (held_in_hand hand v.rights v.hands may.2 held) heading bytes a.1)) (λ a. labels i heading bytes a.1) (at_set hs (p.requests + k) i (first_of hand) (some (Message heading bytes)) at)
labels_stay p v (OnMessage (PutMessage q l cs)) may hand held hs labels i heading bytes at = ⊎_elim
    (λ a. let e : Message l cs ≡ Message heading bytes = some-injective (Message l cs) (Message heading bytes) a.1 in let q = same_message l cs heading bytes e in (subst (λ (z : Heading). z.label.place < 8 * p.operations) q.0 may.2, subst (λ (z : List ℕ). z ≢ []) q.1 may.3))
    (λ a. labels i heading bytes a.1) (at_set hs q i (some (Message l cs)) (some (Message heading bytes)) at)
labels_stay p v _ may hand held hs labels i heading bytes at = labels i heading bytes at

module _ (p : Plan) (retries_go : RetriesGo p) (c : Core) (vs : List View) (i : ℕ) (sound : Sound p c vs) where
  -- a step of the seat i
  pub step_sound : (seat : SeatState) (v : View) (call : TableStep) (next : ℕ → Program) → get_elem? c.seats i ≡ some seat → get_elem? vs i ≡ some v → GoesOn p v (Do call next)
      → Sound p (stepped p i seat call next c) (set vs i (row p call (found_at c.words (word_of p call)) (hand_at p c.words c.homes call) v))
  step_sound seat v call next at_seat at_view goes = let may = goes.0 in let old = sound.seats i seat v at_seat at_view in let found : ℕ = found_at c.words (word_of p call) in let hand : Hand = hand_at p c.words c.homes call in let w : View = row p call found hand v in
      reseats p retries_go c vs sound i seat v at_seat at_view (next found) (hand_after p call c.homes seat.hand) (words_after c.words (word_of p call) (word_after call found)) (homes_after p call seat.hand c.homes) w
      (keeps_rule p c vs sound.lawful i v at_view seat.hand old.hand sound.homes call may)
      (homes_sized p call seat.hand c.homes)
      (labels_stay p v call may seat.hand old.hand c.homes sound.labels)
      (keeps_held p c vs sound.lawful i v at_view seat.hand old.hand call may)
      (goes.1 found hand (finds p (state c vs) sound.lawful i v at_view sound.limits.slots call may))

-- a tick of any seat keeps all seats sound, where each retry may be tried, and what steps aside of the sockets find is as it should be
pub sound_ticks : (p : Plan) → RetriesGo p → (c : Core) (vs : List View) (m : Moment) → Sound p c vs → IsAnswered c m → IsFitting p c m → Sound p (ticked p c m) (views_after p c vs m)
sound_ticks p retries_go c vs m sound answered fitting = tick_cases p c vs m sound answered (Sound p) sound
    (λ seat v call next at_seat at_view is goes. step_sound p retries_go c vs m.seat sound seat v call next at_seat at_view goes)
    (λ seat v q next heading bytes at_seat at_view is goes here. takes_message p retries_go c vs sound m.seat seat v at_seat at_view q next heading bytes goes here)
    (λ seat v k next took n at_seat at_view is goes here. takes_home_shown p retries_go c vs sound m.seat seat v at_seat at_view k next took n goes here)
    (λ seat v k n after at_seat at_view is goes. puts_home p retries_go c vs sound m.seat seat v at_seat at_view k n after goes)
    (λ seat v k asked bytes next answer at_seat at_view is goes answer_is fits. puts_bytes p retries_go c vs sound m.seat seat v at_seat at_view k asked bytes next answer goes fits)
    (λ seat v k next answer at_seat at_view is goes answer_is. asks_ready p retries_go c vs sound m.seat seat v at_seat at_view k next answer goes)
    (λ seat v step next found at_seat at_view is goes found_is. steps_aside p retries_go c vs sound m.seat seat v at_seat at_view step next found goes (found_fits p c m fitting seat at_seat step next found is found_is))
