-- The next step of each seat is one that a machine may make: its word is there, no number leaves its range, and a link that it takes is at home.
use Rattle.std.proofs.Common.{◌≡◌, ℕ, ◌<◌, List, length, sym, subst, arith}
use mathlib.Core.Option.{Option, some, none}
use lib.ListN.{get_elem?}
use Rattle.sock_words.specs.declared.plain.Plan.{Plan}
use Rattle.sock_model.specs.declared.view.View.{View}
use Rattle.seat_programs.specs.TableSteps.{TableStep, OnSlot, OnName, OnChain, OnPlace, OnLink, OnMessage, CreateLife, AddRef, SubRef, Recycle, LoadLink, LoadName, TakeLink, FinishLink, PutLink, FindLink, ClaimRequest, PutMessage, EmptyHead, FreeRequest, StorePlace, DropPlace}
use Rattle.seat_programs.specs.Programs.{Program, Do, TakeMessage, TakeHome, PutHome, PutBytes, AskReady}
use Rattle.seat_programs.specs.Cores.{Core, SeatState, found_at}
use Rattle.seat_programs.specs.StepTables.{table_word, word_of, hand_at, May, Finds}
use Rattle.program_steps.proofs.WordFrame.{in_table}
use Rattle.program_steps.specs.ProgramGoesOn.{GoesOn}
use Rattle.program_steps.specs.SoundSeats.{state, Sound, AllowsWord, AllowsMove, Allows, AllowsStep, AreFew, MOST_PLACES}
use Rattle.sock_runs.proofs.HandTicks.{taking}
use Rattle.sock_runs.proofs.Founds.{finds}
use Rattle.sock_runs.proofs.ChainTicks.{word_inside, free_small}
use Rattle.sock_runs.proofs.LinkTicks.{RetriesGo, message_there, link_there, has_link, link_put_there, link_asked_there}
use Rattle.program_steps.proofs.TickCases.{beside, goes_first}
use Rattle.sock_runs.proofs.FewAcceptedMessages.{last_small, places_small}
use Rattle.seat_programs.specs.LoopRounds.{first_step}
use Rattle.sock_words.specs.PackedWords.{IDLE}

module _ (p : Plan) (c : Core) (vs : List View) (sound : Sound p c vs) (few : AreFew vs) (i : ℕ) (v : View) (at : get_elem? vs i ≡ some v) where
  abbrev found : TableStep → ℕ
  found call = found_at c.words (word_of p call)

  word_there : (call : TableStep) → May p v call → (x : ℕ) → word_of p call ≡ some x → x < length c.words
  word_there call may x e = subst (λ n. x < n) (sym sound.lawful.references.sized) (in_table p (table_word call) (word_inside p (state c vs) sound.lawful i v at call may) x e)

  allows_word : (call : TableStep) → May p v call → Finds p v call (found call) (hand_at p c.words c.homes call) → AllowsWord call (found call)
  allows_word (OnSlot (CreateLife j k)) may f = f.0
  allows_word (OnSlot (AddRef id)) may f = f
  allows_word (OnSlot (SubRef j)) may f = omega (arith, f.0, may.1)
  allows_word (OnSlot (Recycle j from)) may f = (may.3, may.2, may.4)
  allows_word (OnSlot (LoadLink j w)) may f = omega (arith, f.0, sound.limits.links)
  allows_word (OnName (LoadName n)) may f = f.1
  allows_word (OnSlot (FindLink j h)) may f = omega (arith, f.0, sound.limits.links)
  allows_word (OnChain (ClaimRequest id q)) may f = f.1
  allows_word (OnChain (EmptyHead j last)) may f = let x = may.1.0 in
      subst (λ n. n < IDLE) x.last_is (last_small p (state c vs) sound.lawful i v at x.mine.place x.mine.right x.mine.has)
  allows_word (OnPlace (StorePlace l k n)) may f = let x = may.0 in
      subst (λ m. m < MOST_PLACES) (sym may.4) (places_small p (state c vs) sound.lawful i v at x.mine.place x.mine.right x.mine.has few x.now x.stage)
  allows_word (OnPlace (DropPlace l k n)) may f = let x = may.0 in
      subst (λ m. m < MOST_PLACES) (sym may.4) (places_small p (state c vs) sound.lawful i v at x.mine.place x.mine.right x.mine.has few x.now x.stage)
  allows_word (OnChain (FreeRequest q g)) may f = free_small p (state c vs) sound.lawful i v at q g may
  allows_word _ may f = tt

  allows_move : (call : TableStep) → May p v call → AllowsMove p c call
  allows_move (OnLink (TakeLink k)) may = let h = (taking p (state c vs) sound.lawful i v at k may).0 in (may.0, (h.took, h.next, h.done, h.is))
  allows_move (OnLink (FinishLink k)) may = may.0
  allows_move (OnLink (PutLink k)) may = may.0
  allows_move (OnMessage (PutMessage q heading bytes)) may = may.0
  allows_move _ may = tt

  allows : (call : TableStep) → May p v call → Allows p c call
  allows call may = let f = finds p (state c vs) sound.lawful i v at sound.limits.slots call may in (word_there call may, allows_word call may f, allows_move call may)

-- the view of a seat
pub view_there : {A B : Type 0} (l : List A) (m : List B) (i : ℕ) (a : A) → length m ≡ length l → get_elem? l i ≡ some a → (q : Option B) → get_elem? m i ≡ q → (b : B) × (get_elem? m i ≡ some b)
view_there l m i a e at none none_ = absurd (beside l m i a e at none_)
view_there l m i a e at (some b) is = (b, is)

-- a step that the view allows is one that the machine may make
step_allowed : (p : Plan) → RetriesGo p → (c : Core) (vs : List View) (i : ℕ) (seat : SeatState) (v : View) → Sound p c vs → AreFew vs → get_elem? c.seats i ≡ some seat → get_elem? vs i ≡ some v → (program : Program) → GoesOn p v program → AllowsStep p c seat program
step_allowed p retries_go c vs i seat v sound few at at_view (Do call next) goes = allows p c vs sound few i v at_view call goes.0
step_allowed p retries_go c vs i seat v sound few at at_view (TakeMessage q next) goes = message_there p retries_go c vs sound i seat v at at_view q next goes
step_allowed p retries_go c vs i seat v sound few at at_view (TakeHome k next) goes = link_there p retries_go c vs sound i seat v at at_view k next goes
step_allowed p retries_go c vs i seat v sound few at at_view (PutHome k n after) goes = has_link p retries_go c vs sound i seat v at at_view k n after goes
step_allowed p retries_go c vs i seat v sound few at at_view (PutBytes k asked bytes next) goes = link_put_there p retries_go c vs sound i seat v at at_view k asked bytes next goes
step_allowed p retries_go c vs i seat v sound few at at_view (AskReady k next) goes = link_asked_there p retries_go c vs sound i seat v at at_view k next goes
step_allowed p retries_go c vs i seat v sound few at at_view _ goes = tt

-- each seat's next step is allowed, also where it is the first of a round
pub sound_allows : (p : Plan) → RetriesGo p → (c : Core) (vs : List View) (i : ℕ) (seat : SeatState) (v : View) → Sound p c vs → AreFew vs → get_elem? c.seats i ≡ some seat → get_elem? vs i ≡ some v → AllowsStep p c seat (first_step seat.program)
sound_allows p retries_go c vs i seat v sound few at at_view = step_allowed p retries_go c vs i seat v sound few at at_view (first_step seat.program) (goes_first p v seat.program (sound.seats i seat v at at_view).goes_on)
