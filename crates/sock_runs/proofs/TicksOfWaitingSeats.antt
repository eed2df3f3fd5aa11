-- A tick of a seat that waits changes nothing; and where all links are prompt and each seat is at rest or waits, none waits.
use Rattle.std.proofs.Common.{◌≡◌, ◌≢◌, ℕ, zero, suc, ◌-◌, ◌<◌, ◌≤◌, ◌⊎◌, Bool, true, false, not, ◌&&◌, List, [], ◌∷◌, length, set, refl, sym, ap, ap₂, ◌∙◌, subst, inl, inr, ⊎_elim, arith, cond, eqb, eqb-true}
use Rattle.std.proofs.lemmas.Bool.{true≢false, and_parts}
use Rattle.std.specs.Prelude.{slice_index}
use Rattle.std.specs.List.{filter}
use mathlib.Core.Option.{Option, some, none}
use mathlib.Core.List.{cons-ne-nil}
use lib.ListN.{get_elem?}
use lib.Seq.{set-get_or}
use Rattle.atomic_table.proofs.Lists.{set_again}
use Rattle.sock_words.specs.declared.plain.Plan.{Plan}
use Rattle.seat_programs.specs.sock_io.specs.declared.link.Ready.TheVariants.{NotYet}
use Rattle.sock_model.specs.declared.chain.Entry.{Entry}
use Rattle.sock_model.specs.declared.chain.Loose.{Loose}
use Rattle.sock_model.specs.declared.chain.Right.{Right}
use Rattle.sock_model.specs.declared.chain.Stage.TheVariants as stages
use Rattle.sock_model.specs.declared.view.View.{View}
use Rattle.sock_model.specs.SocketTableLayout.{next_index}
use Rattle.sock_model.specs.Entries.{on, nth}
use Rattle.sock_model.specs.ChainMemory.{Memory}
use Rattle.sock_model.specs.ChainTokens.{Tokens}
use Rattle.sock_model.specs.LinkWritingState.{Held, InStage, OnWalk, Waits}
use Rattle.sock_model.specs.Chains.{Chains}
use Rattle.sock_model.specs.ChainLawReads.{tokens, loose_at}
use Rattle.sock_steps.specs.chain_steps.proofs.TicketLists.{nth_some, at_some}
use Rattle.sock_steps.specs.chain_steps.proofs.UntouchedByChainSteps.{in_size}
use Rattle.sock_steps.specs.chain_steps.proofs.ChainHeadSteps.{held_of, slot_is}
use Rattle.sock_steps.proofs.Maps.{gather_nil}
use Rattle.sock_steps.proofs.RightSteps.{right_in, right_alone}
use Rattle.seat_programs.specs.Writings as heads
use Rattle.std.specs.Prelude as std
use Rattle.seat_programs.specs.corr_core.specs.IdSlotWord.{parts}
use Rattle.seat_programs.specs.corr_core.proofs.NoteSums.{at_length}
use Rattle.seat_programs.specs.id_rule.specs.LawfulIdTable.{id_index}
use Rattle.sock_model.specs.SocketTableLayout.{open_index}
use Rattle.seat_programs.specs.Asides.{Taking, Nothing}
use Rattle.seat_programs.specs.FoundAndChangedAside.{at_last, more_given}
use Rattle.seat_programs.specs.LoopHeads.{Head, Exit, Retry, Sought, Locks, Joins, Opens, Reads, Discards, Locking, NotThere, Posts, Unlocks, Decides}
use Rattle.seat_programs.specs.PostPrograms.{is_sought, locking}
use Rattle.seat_programs.specs.ReaderProgram.{took, discarded}
use Rattle.seat_programs.specs.Programs.{Program, Do, Say, Sent, TakeMessage, Write, Round, Keep, Retries}
use Rattle.seat_programs.specs.TableSteps.{OnChain, ReverseNext}
use Rattle.seat_programs.specs.Cores.{Core, SeatState, with_seat}
use Rattle.seat_programs.specs.Ticks.{Answer, OfReady, OfTake, Moment, tick_with, ticked, IsAnswered, IsAlwaysReady, waits_at, waits_in, waits}
use Rattle.seat_programs.specs.ScheduledRuns.{IsAtRest}
use Rattle.program_steps.specs.ProgramGoesOn.{GoesOn}
use Rattle.program_steps.specs.SoundSeats.{Sound, IsAhead, is_begun}
use Rattle.sock_runs.proofs.AllowedNextSteps.{view_there}
use Rattle.sock_runs.proofs.SoundAlongRuns.{seat_rests}
use Rattle.sock_words.specs.PackedWords.{ticket_request, UNCONNECTED, id_slot}

-- ## Its tick changes nothing

module _ (p : Plan) (i : ℕ) (seat : SeatState) (c : Core) where
  -- the seat has this program, and the core is else as it was
  abbrev with_program : Program → Core
  with_program program = record c { seats = set c.seats i (record { program = program; hand = seat.hand }) }

  -- a seat that comes to the program which it had keeps what waits with it
  again : (program : Program) → is_begun program ≡ true → with_seat i program seat.hand c.words c.homes c ≡ with_program program
  again (Say o outcome next) begun = absurd (true≢false (sym begun))
  again (Sent o next) begun = absurd (true≢false (sym begun))
  again (Keep r next) begun = absurd (true≢false (sym begun))
  again (Retries requests after) begun = absurd (true≢false (sym begun))
  again program begun = ap (λ (ws : List (List Retry)). record c { seats = set c.seats i (record { program = program; hand = seat.hand }); calls = record c.calls { waiting = ws } }) (set-get_or c.calls.waiting i [])

  walk_stays : (h : heads.Holder) (top place after : ℕ) (then_ : Program) (answer : Answer) → waits_at p c answer (Write (heads.Reversing h top place after) then_) ≡ true
      → tick_with p i seat c answer (Write (heads.Reversing h top place after) then_) ≡ with_program (Write (heads.Reversing h top place after) then_)
  walk_stays h top place after then_ answer is = let found : ℕ = slice_index c.words (next_index p (ticket_request place)) in
      ap₂ (λ (b : Bool) (ws : List ℕ). with_seat i (cond b (Write (heads.Reversing h top place after) then_) (Do (OnChain (ReverseNext (ticket_request place) after)) (λ _. cond (eqb found h.last)
      (TakeMessage (ticket_request place) (λ heading bytes. Write (heads.Puts (record h { last = top }) place heading bytes 0 false) then_)) (Write (heads.Reversing h top found place) then_)))) seat.hand ws c.homes c)
      is (set-get_or c.words (next_index p (ticket_request place)) 0) ∙ again (Write (heads.Reversing h top place after) then_) refl

  -- an id that is sought is locked
  locking_stays : (j : ℕ) (sought : Sought) (found : ℕ) (k : Locking → Program) → (is_sought sought (parts found) && not (eqb (parts found).state 1)) ≡ true → locking j sought found k ≡ Round (Locks j sought std.None) k
  locking_stays j sought found k is = let two : Bool → Program = λ b. cond b (Round (Locks j sought (std.Some found)) k) (Round (Locks j sought std.None) k) in
      ap (λ (b : Bool). cond (not b) (k (NotThere found)) (two (eqb (parts found).state 1))) (and_parts (is_sought sought (parts found)) (not (eqb (parts found).state 1)) is).0
      ∙ by_state (eqb (parts found).state 1) (and_parts (is_sought sought (parts found)) (not (eqb (parts found).state 1)) is).1
    where
      by_state : (b : Bool) → not b ≡ true → cond b (Round (Locks j sought (std.Some found)) k) (Round (Locks j sought std.None) k) ≡ Round (Locks j sought std.None) k
      by_state true is = absurd (true≢false (sym is))
      by_state false is = refl

  nothing_stays : not c.calls.ending ≡ true → at_last c.calls.ending Nothing ≡ Nothing
  nothing_stays is = by_ending c.calls.ending is
    where
      by_ending : (b : Bool) → not b ≡ true → at_last b Nothing ≡ Nothing
      by_ending true is = absurd (true≢false (sym is))
      by_ending false is = refl

  round_stays : (head : Head) (next : Exit head → Program) (answer : Answer) → waits_in p c.words c.calls answer head ≡ true → tick_with p i seat c answer (Round head next) ≡ with_program (Round head next)
  round_stays (Locks j sought std.None) next answer is = ap (λ (x : Program). with_seat i x seat.hand c.words c.homes c) (locking_stays j sought (slice_index c.calls.words (id_index j)) next is) ∙ again (Round (Locks j sought std.None) next) refl
  round_stays (Joins id) next answer is = let found : ℕ = slice_index c.calls.words (id_index (id_slot id)) in
      ap (λ (b : Bool). with_seat i (cond b (Round (Joins id) next) (next found)) seat.hand c.words c.homes c) is ∙ again (Round (Joins id) next) refl
  round_stays (Opens o) next answer is = let found : ℕ = slice_index c.words (open_index p o) in
      ap₂ (λ (b : Bool) (ws : List ℕ). with_seat i (cond b (Round (Opens o) next) (next found)) seat.hand ws c.homes c) is (set-get_or c.words (open_index p o) 0) ∙ again (Round (Opens o) next) refl
  round_stays (Reads r) next (OfTake Nothing) is = ap (λ (t : Taking). with_seat i (took r next t) seat.hand c.words c.homes (record c { calls = more_given r.link t c.calls })) (nothing_stays is) ∙ again (Round (Reads r) next) refl
  round_stays (Discards k total) next (OfTake Nothing) is = ap (λ (t : Taking). with_seat i (discarded k total next t) seat.hand c.words c.homes (record c { calls = more_given k t c.calls })) (nothing_stays is) ∙ again (Round (Discards k total) next) refl
  round_stays _ next answer is = absurd (true≢false (sym is))

  stays : (program : Program) (answer : Answer) → waits_at p c answer program ≡ true → tick_with p i seat c answer program ≡ with_program program
  stays (Write (heads.Reversing h top place after) then_) answer is = walk_stays h top place after then_ answer is
  stays (Write (heads.Waits h now heading left taken) after) (OfReady NotYet) is = again (Write (heads.Waits h now heading left taken) after) refl
  stays (Write (heads.Waits h now heading left taken) after) _ is = absurd (true≢false (sym is))
  stays (Round head next) answer is = round_stays head next answer is
  stays _ answer is = absurd (true≢false (sym is))

module _ (p : Plan) (c : Core) (m : Moment) where
  still_by : (q : Option SeatState) → get_elem? c.seats m.seat ≡ q → elim q as (λ o. Bool) [ none ↦ false | some seat ↦ waits_at p c m.answer seat.program ] ≡ true
      → elim q as (λ o. Core) [ none ↦ c | some seat ↦ tick_with p m.seat seat c m.answer seat.program ] ≡ c
  still_by none at is = absurd (true≢false (sym is))
  still_by (some seat) at is = stays p m.seat seat c seat.program m.answer is ∙ ap (λ seats. record c { seats = seats }) (set_again c.seats m.seat seat at)

pub still : (p : Plan) (c : Core) (m : Moment) → waits p c m ≡ true → ticked p c m ≡ c
still p c m is = still_by p c m (get_elem? c.seats m.seat) refl is

pub waits_still : (p : Plan) (c : Core) (vs : List View) (m : Moment) → Sound p c vs → IsAhead c → IsAnswered c m → waits p c m ≡ true → ticked p c m ≡ c
waits_still p c vs m sound ahead answered is = still p c m is

-- ## An entry for which a walk waits is loose

is_loose : (e : Entry) (x : ℕ) (l : List Loose) → Waits e x l → e.before < UNCONNECTED → x ≡ UNCONNECTED → l ≢ []
is_loose e x l (inl connected) small unconnected none_ = absurd (omega (arith, small, sym connected.0 ∙ unconnected))
is_loose e x l (inr loose) small unconnected none_ = cons-ne-nil _ _ (sym loose.1 ∙ none_)

module _ {links requests : ℕ} {m : Memory} {t : Tokens} {log : List Entry} {freed places : ℕ → ℕ} (s : Chains links requests m t log freed places) (k : ℕ) (r : Right) (kl : k < links) (has : t.rights k ≡ r ∷ []) (narrow : requests ≤ 65535) where
  -- a ticket isn't the mark of a next word that isn't connected
  before_small : (n : ℕ) → n ≤ length (on k log) → nth (on k log) n < UNCONNECTED
  before_small zero inside = omega arith
  before_small (suc n) inside = let e = nth_some (on k log) n (omega (arith, inside)) in let size = in_size s k n e.0 e.1 in omega (arith, e.2, size.1, size.2, narrow)

  pub walk_waits : (top place after : ℕ) → r.stage ≡ stages.Reversing top place after → m.next (ticket_request place) ≡ UNCONNECTED → t.loose (ticket_request place) ≢ []
  walk_waits top place after stage unconnected none_ =
      let h : Held m t (on k log) (freed k) (places k) r = (held_of s k r kl has).1 in let n = h.counts in let f = h.fits in
      let walk : OnWalk (on k log) n (freed k) (places k) top place after = subst (InStage m t (on k log) n (freed k) (places k)) stage h.stage_is in
      let some_left = walk.some_left in let all_freed = walk.all_freed in
      let j : ℕ = n.left - 1 in let is : suc (n.left - 1) ≡ n.left = omega (arith, some_left) in
      let a = nth_some (on k log) (n.left - 1) (omega (arith, some_left, f.2, f.3)) in let e : Entry = a.0 in let size = in_size s k (n.left - 1) a.0 a.1 in
      let slot : ticket_request place ≡ a.0.request = ap ticket_request (sym walk.at_is ∙ (ap (λ y. nth (on k log) y) (sym is) ∙ a.2)) ∙ slot_is a.0 (omega (arith, size.1, narrow)) in
      is_loose a.0 (m.next a.0.request) (t.loose a.0.request) ((h.points (n.left - 1) a.0 (omega (arith, all_freed.0, some_left)) a.1).unturned (omega (arith, some_left)) (omega (arith, some_left)))
      (omega (arith, before_small (n.left - 1) (omega (arith, f.2, f.3)), s.chained k (n.left - 1) a.0 a.1)) (ap m.next (sym slot) ∙ unconnected) (ap t.loose (sym slot) ∙ none_)

-- ## Where each seat is at rest or waits

-- a seat waits, whose link is prompt
abbrev WaitsPromptly : Plan → Core → ℕ → Type 0
WaitsPromptly p c i = (m : Moment) × (m.seat ≡ i) × IsAlwaysReady m × (waits p c m ≡ true)

-- a seat waits for an id, for an `open`, or for more bytes
abbrev pub StandsAside : Core → ℕ → Type 0
StandsAside c i = (seat : SeatState) × (get_elem? c.seats i ≡ some seat) × ((head : Head) × (next : Exit head → Program) × (seat.program ≡ Round head next))

module _ (p : Plan) (c : Core) (vs : List View) (sound : Sound p c vs) (ahead : IsAhead c) (each : (i : ℕ) → i < length c.seats → IsAtRest c i ⊎ WaitsPromptly p c i) where
  of_seat : (m : Moment) (j : ℕ) (seat : SeatState) → m.seat ≡ j → get_elem? c.seats j ≡ some seat → waits p c m ≡ true → waits_at p c m.answer seat.program ≡ true
  of_seat m j seat same at is = sym (ap (λ (o : Option SeatState). elim o as (λ o. Bool) [ none ↦ false | some seat ↦ waits_at p c m.answer seat.program ]) (ap (get_elem? c.seats) same ∙ at)) ∙ is

  -- who waits has none of its entries loose
  held_aside : (v : View) (head : Head) (next : Exit head → Program) (answer : Answer) → GoesOn p v (Round head next) → waits_in p c.words c.calls answer head ≡ true → v.loose ≡ []
  held_aside v (Posts id e w) next answer goes is = absurd (true≢false (sym is))
  held_aside v (Unlocks i w advance) next answer goes is = absurd (true≢false (sym is))
  held_aside v (Decides id asked w e) next answer goes is = absurd (true≢false (sym is))
  held_aside v _ next answer goes is = goes.0.1

  held_loose : (v : View) (program : Program) (answer : Answer) → GoesOn p v program → waits_at p c answer program ≡ true → v.loose ≡ []
  held_loose v (Write w after) answer goes is = goes.0.1.loose
  held_loose v (Round head next) answer goes is = held_aside v head next answer goes is
  held_loose v _ answer goes is = absurd (true≢false (sym is))

  no_loose : (j : ℕ) (v : View) → get_elem? vs j ≡ some v → v.loose ≡ []
  no_loose j v at = let seat = view_there vs c.seats j v (sym sound.each) at (get_elem? c.seats j) refl in let goes = (sound.seats j seat.0 v seat.1 at).goes_on in
      ⊎_elim (λ rest. (subst (GoesOn p v) (seat_rests c ahead j rest seat.0 seat.1) goes).quiet.loose)
      (λ w. held_loose v seat.0.program w.0.answer goes (of_seat w.0 j seat.0 w.1 seat.1 w.3))
      (each j (at_length c.seats j seat.0 seat.1))

  all_connected : (q : ℕ) → (tokens vs).loose q ≡ []
  all_connected q = gather_nil (loose_at q) vs (λ j v at. ap (filter (λ (x : Loose). eqb x.request q)) (no_loose j v at))

  -- so no writer waits
  waits_aside : (j : ℕ) (v : View) → get_elem? vs j ≡ some v → (program : Program) (answer : Answer) → GoesOn p v program → answer ≢ OfReady NotYet → waits_at p c answer program ≡ true → (head : Head) × (next : Exit head → Program) × (program ≡ Round head next)
  waits_aside j v at (Write (heads.Reversing h top place after) then_) answer goes always_ready is = let r : Right = goes.0.0 in let has = ap (λ (rs : List Right). get_elem? rs 0) goes.0.1.one in let o = sound.lawful in
      absurd (walk_waits o.chains r.link r (right_in o j 0 v r at has) (right_alone o j 0 v r at has) o.fits.narrow top place after goes.0.2.stage_is (eqb-true _ UNCONNECTED is) (all_connected (ticket_request place)))
  waits_aside j v at (Write (heads.Waits h now heading left taken) after) (OfReady NotYet) goes always_ready is = absurd (always_ready refl)
  waits_aside j v at (Write (heads.Waits h now heading left taken) after) _ goes always_ready is = absurd (true≢false (sym is))
  waits_aside j v at (Round head next) answer goes always_ready is = (head, next, refl)
  waits_aside j v at _ answer goes always_ready is = absurd (true≢false (sym is))

  settles : (i : ℕ) → i < length c.seats → IsAtRest c i ⊎ StandsAside c i
  settles i inside = ⊎_elim (λ rest. inl rest)
      (λ w. let seat = at_some c.seats i inside in let v = view_there c.seats vs i seat.0 sound.each seat.1 (get_elem? vs i) refl in
      inr (seat.0, seat.1, waits_aside i v.0 v.1 seat.0.program w.0.answer (sound.seats i seat.0 v.0 seat.1 v.1).goes_on w.2 (of_seat w.0 i seat.0 w.1 seat.1 w.3)))
      (each i inside)

-- where each seat is at rest or waits, and no link answers that it takes no more yet, no writer waits
pub still_settles : (p : Plan) (c : Core) (vs : List View) → Sound p c vs → IsAhead c → ((i : ℕ) → i < length c.seats → IsAtRest c i ⊎ ((m : Moment) × (m.seat ≡ i) × IsAlwaysReady m × (waits p c m ≡ true))) → (i : ℕ) → i < length c.seats → IsAtRest c i ⊎ StandsAside c i
still_settles p c vs sound ahead each = settles p c vs sound ahead each
