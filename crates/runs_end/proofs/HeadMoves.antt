-- Each tick that moves leaves fewer: at the heads of the loops aside of the sockets, and of any seat.
use Rattle.std.proofs.Common.{◌≡◌, ◌≢◌, ℕ, ◌+◌, ◌<◌, ◌≤◌, ◌⊎◌, Bool, true, false, not, ◌&&◌, List, [], ◌∷◌, length, refl, sym, ap, ◌∙◌, subst, inl, inr, arith, cond, eqb, leb, Some, None}
use Rattle.std.proofs.lemmas.Bool.{true≢false}
use Rattle.std.specs.Prelude as std
use Rattle.std.specs.Prelude.{slice_index}
use mathlib.Core.Option.{Option, some, none}
use lib.ListN.{get_elem?}
use Rattle.sock_words.specs.declared.plain.Plan.{Plan}
use Rattle.sock_words.specs.declared.kind.Kind.{Kind}
use Rattle.seat_programs.specs.sock_io.specs.declared.link.Ready.TheVariants.{NotYet}
use Rattle.sock_model.specs.declared.view.View.{View}
use Rattle.sock_model.specs.declared.view.Hand.{Hand}
use Rattle.sock_model.specs.SocketTableLayout.{open_index}
use Rattle.seat_programs.specs.corr_core.specs.IdSlotWord.{parts, posted_word, unlocked_word, code_of}
use Rattle.seat_programs.specs.corr_core.specs.IdSlotLaw.{LAST}
use Rattle.seat_programs.specs.corr_core.specs.EndedByRangeOrAttempt.{ends_call}
use Rattle.seat_programs.specs.id_rule.specs.LawfulIdTable.{id_index}
use Rattle.seat_programs.specs.sock_message.specs.Asked.{Asked}
use Rattle.seat_programs.specs.TableSteps.{OnName, LoadOpen}
use Rattle.seat_programs.specs.Asides.{Step, Found, PutCall, LoadIdWord, LockId, PostId, UnlockId, EndId, FreeId, TakeBytes, Taking, Bytes, Nothing, NoMore}
use Rattle.seat_programs.specs.LoopHeads.{Head, Exit, Sought, Reading, Posts, Unlocks, Decides, Locks, Joins, Opens, Reads, Discards, Posting, WasQueued, HasLocked, Unlocking, Deciding, HasEnded, Locking, Has, Ended}
use Rattle.seat_programs.specs.FoundAndChangedAside.{found_in, at_last, taking_in}
use Rattle.seat_programs.specs.PostPrograms.{packed, judged, popped, locking, end_id, unlocked, is_sought, is_first}
use Rattle.seat_programs.specs.ReaderProgram.{took, discarded, room_of}
use Rattle.seat_programs.specs.Programs.{Program, Do, TakeMessage, TakeHome, PutHome, PutBytes, AskReady, Write, Aside, Round}
use Rattle.seat_programs.specs.Cores.{Core, SeatState}
use Rattle.seat_programs.specs.Ticks.{Answer, OfReady, OfTake, Moment, FitsTake, IsTaken, IsAnswer, IsAnswered, IsAlwaysReady, taken, with_found, step_with, tick_with, ticked, is_nothing, waits_at, waits}
use Rattle.seat_programs.specs.ScheduledRuns.{kind_in, IsAtRest}
use Rattle.seat_programs.specs.StepTables.{row, hand_at}
use Rattle.sock_runs.specs.program_steps.specs.ProgramGoesOn.{GoesOn}
use Rattle.sock_runs.specs.program_steps.specs.SoundSeats.{Sound, FitsBeside, IsFitting, views_with, views_of, views_after}
use Rattle.sock_runs.specs.program_steps.specs.TicksLeftAtMost.{STALE, accepted, expects, arriving, stale_cost, LastsFor, Lasts, IsCountedStep, IsCountedAt, IsCounted}
use Rattle.sock_runs.proofs.AllowedNextSteps.{view_there}
use Rattle.sock_runs.specs.program_steps.proofs.TickCases.{beside}
use Rattle.sock_runs.proofs.LinkTicks.{RetriesGo}
use Rattle.sock_runs.specs.program_steps.proofs.AsideStepsPass.{goes_round, posted_fits, got_fits, unlocked_fits}
use Rattle.runs_end.proofs.WalksLeft.{rights_few}
use Rattle.runs_end.proofs.IdCosts.{lasts_more, Falls, posts_fall, unlocks_fall, decides_lasts, locks_fall, tries_fall, joins_fall}
use Rattle.runs_end.proofs.ReadCosts.{FitsRoom, reads_fall, discards_fall}
use Rattle.runs_end.proofs.StepsLeaveFewer.{Fewer, found_steps, tick_moves}
use Rattle.runs_end.proofs.AsideMoves.{IsLate, any_moves}
use Rattle.seat_programs.specs.LoopRounds.{first_step}
use Rattle.sock_words.specs.PackedWords.{id_slot, id_first, bit}
use Rattle.sock_words.specs.Totals.{total}

-- ## Takes

-- what a take finds, where it doesn't wait
moved : (ending : Bool) (t : Taking) → is_nothing ending (OfTake t) ≡ false → at_last ending t ≢ Nothing
moved false Nothing off e = absurd (true≢false off)
moved true Nothing off e = cc
moved true _ off e = cc
moved false _ off e = cc

fits_last : (ending : Bool) (room : ℕ) (t : Taking) → FitsTake room t → FitsRoom room (at_last ending t)
fits_last ending room NoMore fits = absurd fits
fits_last true room (Bytes bytes) fits = fits
fits_last false room (Bytes bytes) fits = fits
fits_last true room _ fits = tt
fits_last false room _ fits = tt

-- ## A seat's tick

module _ (p : Plan) (go : RetriesGo p) (c : Core) (vs : List View) (n : ℕ) (lasts : Lasts p c vs n) (i : ℕ) (seat : SeatState) (v : View) (at_seat : get_elem? c.seats i ≡ some seat) (at_view : get_elem? vs i ≡ some v)
    (k : ℕ) (at_number : get_elem? lasts.numbers i ≡ some k) (few : length c.seats ≤ 64) (sound : Sound p c vs) (answer : Answer) where
  -- a step aside, by what it finds
  aside_moves : (paid : ℕ) → paid ≤ STALE → (step : Step) (next : Found step → Program) (found : Found step) → found_in step c.calls (taken answer) ≡ some found → IsCountedStep c step → FitsBeside p c answer (Aside step next)
      → IsLate step found paid (total (stale_cost c.calls.words) (expects seat.program)) → GoesOn p v (Aside step next) → Falls p v step next (k + paid) found
      → Fewer p n (step_with p i seat c answer (Aside step next)) (views_with p i c vs v answer (Aside step next))
  aside_moves paid small step next found is counted fitting late goes falls = subst (λ (x : Option (Found step)). Fewer p n (with_found p i seat c step x next) vs) (sym is)
      (any_moves p c vs n lasts i seat v at_seat at_view k at_number few paid small step next (taken answer) found is counted late (fitting found is) goes falls)

  -- whatever it is, where the seat expects no word
  plain_aside : (step : Step) (next : Found step → Program) → ((found : Found step) → IsLate step found 0 (total (stale_cost c.calls.words) (expects seat.program))) → IsCountedAt c answer (Aside step next) → FitsBeside p c answer (Aside step next)
      → GoesOn p v (Aside step next) → LastsFor p v (Aside step next) (k + 0) → Fewer p n (step_with p i seat c answer (Aside step next)) (views_with p i c vs v answer (Aside step next))
  plain_aside step next late counted fitting goes l = aside_moves 0 (omega arith) step next counted.0.0 counted.0.1 counted.1 fitting (late counted.0.0) goes (l counted.0.0 (fitting counted.0.0 counted.0.1))

  late_plain : (step : Step) (found : Found step) (old : ℕ) → IsLate step found 0 old
  late_plain (LockId j from) found old = λ _. omega arith
  late_plain (PostId j from e) found old = λ _. omega arith
  late_plain (UnlockId j from advance) found old = λ _. omega arith
  late_plain _ found old = refl

  any_aside : (step : Step) (next : Found step → Program) → IsCountedAt c answer (Aside step next) → FitsBeside p c answer (Aside step next) → GoesOn p v (Aside step next) → LastsFor p v (Aside step next) (k + 0)
      → Fewer p n (step_with p i seat c answer (Aside step next)) (views_with p i c vs v answer (Aside step next))
  any_aside step next = plain_aside step next (λ found. late_plain step found (total (stale_cost c.calls.words) (expects seat.program)))

  -- a seat whose exchange fails counted for another word
  late_of : (j from : ℕ) → eqb (slice_index c.calls.words (id_index j)) from ≡ false → expects seat.program ≡ (j, from) ∷ [] → STALE ≤ total (stale_cost c.calls.words) (expects seat.program)
  late_of j from lost at = subst (λ (xs : List (ℕ × ℕ)). STALE ≤ total (stale_cost c.calls.words) xs) (sym at) (omega (arith, ap (λ b. cond b 0 STALE) lost))

  -- ## The heads

  -- the seat is at rest or waits, or fewer are left behind its tick
  abbrev Moves : Program → Type 0
  Moves program = ((kind_in program ≡ None) ⊎ (waits_at p c answer program ≡ true)) ⊎ Fewer p n (tick_with p i seat c answer program) (views_of p i c vs v answer program)

  abbrev Counted : Program → Type 0
  Counted program = IsCountedAt c answer (first_step program) × FitsBeside p c answer (first_step program)

  posts_move : (id e from : ℕ) (next : Posting → Program) → seat.program ≡ Round (Posts id e from) next → GoesOn p v (Round (Posts id e from) next) → LastsFor p v (Round (Posts id e from) next) (k + STALE) → Counted (Round (Posts id e from) next) → Moves (Round (Posts id e from) next)
  posts_move id e from next at goes l counted =
      inr (aside_moves STALE (omega arith) (PostId (id_slot id) from e) (λ found. cond (eqb found from) (cond (eqb (parts from).state 1) (next (HasLocked (packed (posted_word (parts from) e)))) (next WasQueued)) (judged id e found next)) (slice_index c.calls.words (id_index (id_slot id))) refl counted.0.1 counted.1 (λ lost. late_of (id_slot id) from lost (ap expects at))
      (goes_round p v (Posts id e from) next goes) (posts_fall p v id e from next (k + STALE) (λ one. posted_fits from e one goes.0.0) l (slice_index c.calls.words (id_index (id_slot id)))))

  unlocks_move : (j from : ℕ) (advance : Bool) (next : Unlocking → Program) → seat.program ≡ Round (Unlocks j from advance) next → GoesOn p v (Round (Unlocks j from advance) next) → LastsFor p v (Round (Unlocks j from advance) next) (k + STALE) → Counted (Round (Unlocks j from advance) next)
      → Moves (Round (Unlocks j from advance) next)
  unlocks_move j from advance next at goes l counted =
      inr (aside_moves STALE (omega arith) (UnlockId j from advance) (λ found. cond (eqb found from) (popped j (parts from).oldest (packed (unlocked_word (parts from) (bit advance))) next) (Round (Unlocks j found advance) next)) (slice_index c.calls.words (id_index j)) refl counted.0.1 counted.1 (λ lost. late_of j from lost (ap expects at))
      (goes_round p v (Unlocks j from advance) next goes) (unlocks_fall p v j from advance next (k + STALE) (unlocked_fits from (bit advance) goes.0.0) l (slice_index c.calls.words (id_index j))))

  tries_move : (j : ℕ) (sought : Sought) (from : ℕ) (next : Locking → Program) → seat.program ≡ Round (Locks j sought (Some from)) next → GoesOn p v (Round (Locks j sought (Some from)) next) → LastsFor p v (Round (Locks j sought (Some from)) next) (k + STALE) → Counted (Round (Locks j sought (Some from)) next)
      → Moves (Round (Locks j sought (Some from)) next)
  tries_move j sought from next at goes l counted =
      inr (aside_moves STALE (omega arith) (LockId j from) (λ found. cond (eqb found from) (next (Has (packed (posted_word (parts from) 0)))) (locking j sought found next)) (slice_index c.calls.words (id_index j)) refl counted.0.1 counted.1 (λ lost. late_of j from lost (ap expects at))
      (goes_round p v (Locks j sought (Some from)) next goes) (tries_fall p v j sought from next (k + STALE) (got_fits from goes.0.0) l (slice_index c.calls.words (id_index j))))

  locks_move : (j : ℕ) (sought : Sought) (next : Locking → Program) → GoesOn p v (Round (Locks j sought None) next) → LastsFor p v (Round (Locks j sought None) next) (k + 0) → Counted (Round (Locks j sought None) next) → Moves (Round (Locks j sought None) next)
  locks_move j sought next goes l counted = by_word ((is_sought sought (parts (slice_index c.calls.words (id_index j)))) && not (eqb (parts (slice_index c.calls.words (id_index j))).state 1)) refl
    where
      by_word : (b : Bool) → ((is_sought sought (parts (slice_index c.calls.words (id_index j)))) && not (eqb (parts (slice_index c.calls.words (id_index j))).state 1)) ≡ b → Moves (Round (Locks j sought None) next)
      by_word true is = inl (inr is)
      by_word false is = inr (aside_moves 0 (omega arith) (LoadIdWord j) (λ found. locking j sought found next) (slice_index c.calls.words (id_index j)) refl counted.0.1 counted.1 refl
          (goes_round p v (Locks j sought None) next goes) (locks_fall p v j sought next (k + 0) l (slice_index c.calls.words (id_index j)) is))

  joins_move : (id : ℕ) (next : ℕ → Program) → GoesOn p v (Round (Joins id) next) → LastsFor p v (Round (Joins id) next) (k + 0) → Counted (Round (Joins id) next) → Moves (Round (Joins id) next)
  joins_move id next goes l counted = by_word (is_first (id_first id) (parts (slice_index c.calls.words (id_index (id_slot id))))) refl
    where
      by_word : (b : Bool) → is_first (id_first id) (parts (slice_index c.calls.words (id_index (id_slot id)))) ≡ b → Moves (Round (Joins id) next)
      by_word true is = inl (inr is)
      by_word false is = inr (aside_moves 0 (omega arith) (LoadIdWord (id_slot id)) (λ found. cond (is_first (id_first id) (parts found)) (Round (Joins id) next) (next found)) (slice_index c.calls.words (id_index (id_slot id))) refl counted.0.1 counted.1 refl
          (goes_round p v (Joins id) next goes) (joins_fall p v id next (k + 0) l (slice_index c.calls.words (id_index (id_slot id))) is))

  -- the two ways of a decision
  abbrev ends_by : ℕ → Asked → ℕ → (Deciding → Program) → Program
  ends_by id asked e next = end_id (id_slot id) (next (HasEnded asked.operation (code_of e)))

  abbrev again_by : ℕ → Asked → ℕ → (Deciding → Program) → Program
  again_by id asked word next = Aside (PutCall (id_slot id) asked) (λ _. Round (Unlocks (id_slot id) word true) (unlocked (record { id = id; attempt = (parts word).attempt + 1 }) next))

  either_moves : (id : ℕ) (asked : Asked) (word e : ℕ) (next : Deciding → Program) (b : Bool) → GoesOn p v (cond b (ends_by id asked e next) (again_by id asked word next)) → LastsFor p v (cond b (ends_by id asked e next) (again_by id asked word next)) (k + 0)
      → IsCountedAt c answer (cond b (ends_by id asked e next) (again_by id asked word next)) → FitsBeside p c answer (cond b (ends_by id asked e next) (again_by id asked word next))
      → Fewer p n (step_with p i seat c answer (cond b (ends_by id asked e next) (again_by id asked word next))) (views_with p i c vs v answer (cond b (ends_by id asked e next) (again_by id asked word next)))
  either_moves id asked word e next true goes l counted fitting = let ended : Program = next (HasEnded asked.operation (code_of e)) in
      any_aside (EndId (id_slot id)) (λ found. cond (leb ((parts found).first + (parts found).range) LAST) (Aside (FreeId (id_slot id)) (λ _. ended)) ended) counted fitting goes l
  either_moves id asked word e next false goes l counted fitting = any_aside (PutCall (id_slot id) asked) (λ _. Round (Unlocks (id_slot id) word true) (unlocked (record { id = id; attempt = (parts word).attempt + 1 }) next)) counted fitting goes l

  decides_move : (id : ℕ) (asked : Asked) (word e : ℕ) (next : Deciding → Program) → GoesOn p v (Round (Decides id asked word e) next) → LastsFor p v (Round (Decides id asked word e) next) (k + 0) → Counted (Round (Decides id asked word e) next) → Moves (Round (Decides id asked word e) next)
  decides_move id asked word e next goes l counted = inr (either_moves id asked word e next (ends_call (parts word) e) (goes_round p v (Decides id asked word e) next goes) (decides_lasts p v id asked word e next (k + 0) l) counted.0 counted.1)

  opens_move : (o : ℕ) (next : ℕ → Program) → GoesOn p v (Round (Opens o) next) → LastsFor p v (Round (Opens o) next) (k + 0) → Moves (Round (Opens o) next)
  opens_move o next goes l = by_word (eqb (slice_index c.words (open_index p o)) 0) refl
    where
      by_word : (b : Bool) → eqb (slice_index c.words (open_index p o)) 0 ≡ b → Moves (Round (Opens o) next)
      by_word true is = inl (inr is)
      by_word false is = let goes' = goes_round p v (Opens o) next goes in let room = l.1 in let found : ℕ = slice_index c.words (open_index p o) in let hand : Hand = hand_at p c.words c.homes (OnName (LoadOpen o)) in
          let w : View = row p (OnName (LoadOpen o)) (slice_index c.words (open_index p o)) (hand_at p c.words c.homes (OnName (LoadOpen o))) v in
          inr (found_steps p c vs n lasts i seat v at_seat at_view k at_number sound (OnName (LoadOpen o)) (λ word. cond (eqb word 0) (Round (Opens o) next) (next word)) 1 l.0 refl goes'.0 goes'
          (subst (λ b. LastsFor p w (cond b (Round (Opens o) next) (next found)) l.0) (sym is) (l.2 found w)) (omega (arith, room))
          (let z = rights_few (accepted vs) p v found hand (OnName (LoadOpen o)) goes'.0 refl in omega (arith, z)))

  reads_move : (r : Reading) (next : Ended → Program) → GoesOn p v (Round (Reads r) next) → LastsFor p v (Round (Reads r) next) (k + 0) → IsTaken (room_of r.total) answer → Counted (Round (Reads r) next) → Moves (Round (Reads r) next)
  reads_move r next goes l a counted = by_wait (is_nothing c.calls.ending answer) refl
    where
      by_wait : (b : Bool) → is_nothing c.calls.ending answer ≡ b → Moves (Round (Reads r) next)
      by_wait true is = inl (inr is)
      by_wait false is = let ending : Bool = c.calls.ending in inr (aside_moves 0 (omega arith) (TakeBytes r.link (room_of r.total)) (took r next) (at_last c.calls.ending a.0) (ap (λ (x : Answer). taking_in c.calls.ending (taken x)) a.1) counted.0.1 counted.1 refl
          (goes_round p v (Reads r) next goes) (reads_fall p v r next (k + 0) l (at_last c.calls.ending a.0) (fits_last c.calls.ending (room_of r.total) a.0 a.2) (moved c.calls.ending a.0 (ap (is_nothing c.calls.ending) (sym a.1) ∙ is))))

  discards_move : (j total : ℕ) (next : ℕ → Program) → GoesOn p v (Round (Discards j total) next) → LastsFor p v (Round (Discards j total) next) (k + 0) → IsTaken (room_of total) answer → Counted (Round (Discards j total) next) → Moves (Round (Discards j total) next)
  discards_move j total next goes l a counted = by_wait (is_nothing c.calls.ending answer) refl
    where
      by_wait : (b : Bool) → is_nothing c.calls.ending answer ≡ b → Moves (Round (Discards j total) next)
      by_wait true is = inl (inr is)
      by_wait false is = inr (aside_moves 0 (omega arith) (TakeBytes j (room_of total)) (discarded j total next) (at_last c.calls.ending a.0) (ap (λ (x : Answer). taking_in c.calls.ending (taken x)) a.1) counted.0.1 counted.1 refl
          (goes_round p v (Discards j total) next goes) (discards_fall p v j total next (k + 0) l (at_last c.calls.ending a.0) (fits_last c.calls.ending (room_of total) a.0 a.2) (moved c.calls.ending a.0 (ap (is_nothing c.calls.ending) (sym a.1) ∙ is))))

  head_moves : (head : Head) (next : Exit head → Program) → seat.program ≡ Round head next → GoesOn p v (Round head next) → LastsFor p v (Round head next) (k + arriving (Round head next)) → IsAnswer (Round head next) answer → Counted (Round head next) → Moves (Round head next)
  head_moves (Posts id e from) next at goes l a counted = posts_move id e from next at goes l counted
  head_moves (Unlocks j from advance) next at goes l a counted = unlocks_move j from advance next at goes l counted
  head_moves (Decides id asked word e) next at goes l a counted = decides_move id asked word e next goes l counted
  head_moves (Locks j sought (Some from)) next at goes l a counted = tries_move j sought from next at goes l counted
  head_moves (Locks j sought None) next at goes l a counted = locks_move j sought next goes l counted
  head_moves (Joins id) next at goes l a counted = joins_move id next goes l counted
  head_moves (Opens o) next at goes l a counted = opens_move o next goes l
  head_moves (Reads r) next at goes l a counted = reads_move r next goes l a counted
  head_moves (Discards j total) next at goes l a counted = discards_move j total next goes l a counted

  less_zero : (program : Program) → LastsFor p v program (k + 0) → LastsFor p v program k
  less_zero program l = lasts_more p v program (k + 0) k (omega arith) l

  module _ (always_ready : answer ≢ OfReady NotYet) where
    any_tick : (program : Program) → seat.program ≡ program → GoesOn p v program → LastsFor p v program (k + arriving program) → IsAnswer program answer → Counted program → Moves program
    any_tick (Round head next) at goes l a counted = head_moves head next at goes l a counted
    any_tick (Aside step next) at goes l a counted = inr (any_aside step next counted.0 counted.1 goes l)
    any_tick (Do call next) at goes l a counted = tick_moves p c vs n lasts i seat v at_seat at_view k at_number go sound answer always_ready (Do call next) tt goes (less_zero (Do call next) l) a
    any_tick (TakeMessage q next) at goes l a counted = tick_moves p c vs n lasts i seat v at_seat at_view k at_number go sound answer always_ready (TakeMessage q next) tt goes (less_zero (TakeMessage q next) l) a
    any_tick (TakeHome j next) at goes l a counted = tick_moves p c vs n lasts i seat v at_seat at_view k at_number go sound answer always_ready (TakeHome j next) tt goes (less_zero (TakeHome j next) l) a
    any_tick (PutHome j places after) at goes l a counted = tick_moves p c vs n lasts i seat v at_seat at_view k at_number go sound answer always_ready (PutHome j places after) tt goes (less_zero (PutHome j places after) l) a
    any_tick (PutBytes j asked bytes next) at goes l a counted = tick_moves p c vs n lasts i seat v at_seat at_view k at_number go sound answer always_ready (PutBytes j asked bytes next) tt goes (less_zero (PutBytes j asked bytes next) l) a
    any_tick (AskReady j next) at goes l a counted = tick_moves p c vs n lasts i seat v at_seat at_view k at_number go sound answer always_ready (AskReady j next) tt goes (less_zero (AskReady j next) l) a
    any_tick (Write w after) at goes l a counted = tick_moves p c vs n lasts i seat v at_seat at_view k at_number go sound answer always_ready (Write w after) tt goes (less_zero (Write w after) l) a
    any_tick _ at goes l a counted = inl (inl refl)

-- ## A tick of any seat

module _ (p : Plan) (go : RetriesGo p) (c : Core) (vs : List View) (m : Moment) (n : ℕ) (sound : Sound p c vs) (answered : IsAnswered c m) (always_ready : IsAlwaysReady m) (fitting : IsFitting p c m) (counted : IsCounted c m) (few : length c.seats ≤ 64) (lasts : Lasts p c vs n) where
  -- of a core and views behind the tick
  abbrev Behind : Option SeatState → Option View → Type 0
  Behind q o = ((elim q as (λ o. std.Option Kind) [ none ↦ None | some seat ↦ kind_in seat.program ] ≡ None) ⊎ (elim q as (λ o. Bool) [ none ↦ false | some seat ↦ waits_at p c m.answer seat.program ] ≡ true))
      ⊎ ((k : ℕ) × (k < n) × Lasts p (elim q as (λ o. Core) [ none ↦ c | some seat ↦ tick_with p m.seat seat c m.answer seat.program ])
      (elim q as (λ o. List View) [ none ↦ vs | some seat ↦ elim o as (λ o. List View) [ none ↦ vs | some v ↦ views_of p m.seat c vs v m.answer seat.program ] ]) k)

  by_view : (seat : SeatState) → get_elem? c.seats m.seat ≡ some seat → (o : Option View) → get_elem? vs m.seat ≡ o → Behind (some seat) o
  by_view seat at none none_ = absurd (beside c.seats vs m.seat seat sound.each at none_)
  by_view seat at (some v) at_view = let k = view_there c.seats lasts.numbers m.seat seat lasts.each at (get_elem? lasts.numbers m.seat) refl in
      any_tick p go c vs n lasts m.seat seat v at at_view k.0 k.1 few sound m.answer always_ready seat.program refl (sound.seats m.seat seat v at at_view).goes_on (lasts.seats m.seat seat v k.0 at at_view k.1) (answered seat at) (counted seat at, fitting seat at)

  by_seat : (q : Option SeatState) → get_elem? c.seats m.seat ≡ q → Behind q (get_elem? vs m.seat)
  by_seat none e = inl (inl refl)
  by_seat (some seat) e = by_view seat e (get_elem? vs m.seat) refl

-- a tick over a prompt link leaves fewer, unless its seat is at rest or waits
pub calls_last : (p : Plan) → RetriesGo p → (c : Core) (vs : List View) (m : Moment) (n : ℕ) → Sound p c vs → IsAnswered c m → IsAlwaysReady m → IsFitting p c m → IsCounted c m → length c.seats ≤ 64 → Lasts p c vs n
    → (IsAtRest c m.seat ⊎ (waits p c m ≡ true)) ⊎ ((k : ℕ) × (k < n) × Lasts p (ticked p c m) (views_after p c vs m) k)
calls_last p go c vs m n sound answered always_ready fitting counted few lasts = by_seat p go c vs m n sound answered always_ready fitting counted few lasts (get_elem? c.seats m.seat) refl
