-- How a seat comes to a put: by its own look that found the life of the link live. And what a tick that fails a link or its socket leaves.
use Rattle.std.proofs.Common.{◌≡◌, ◌≢◌, ℕ, ◌%◌, ◌<◌, ◌++◌, ◌⊎◌, inl, inr, ⊎_elim, Bool, true, false, eqb, cond, ne_eqb, List, [], ◌∷◌, set, refl, sym, ap, ◌∙◌, subst, arith}
use Rattle.std.proofs.lemmas.Bool.{true≢false}
use mathlib.Core.List.{cons-ne-nil}
use mathlib.Core.Logic.{dite}
use mathlib.Core.Option.{Option, none, some, some-injective, some-ne-none}
use native.Mathlib.Decide.{ℕ_discrete}
use lib.ListN.{get_elem?}
use Rattle.atomic_table.proofs.Lists.{at_set, set_here}
use Rattle.atomic_table.specs.Table.{State}
use Rattle.chain_steps.proofs.TicketLists.{at_length}
use Rattle.sock_words.specs.declared.plain.Plan.{Plan}
use Rattle.sock_words.specs.PackedWords.{socket_id_version, socket_id_slot, vref_version, id_slot}
use Rattle.sock_io.specs.declared.link.Put.{Put}
use Rattle.sock_io.specs.declared.link.Put.TheVariants as puts
use Rattle.sock_io.specs.declared.link.Ready.{Ready}
use Rattle.sock_io.specs.declared.link.Ready.TheVariants as asks
use Rattle.sock_model.specs.declared.chain.Right.{Right}
use Rattle.sock_model.specs.declared.home.Home.{Home}
use Rattle.sock_model.specs.declared.view.View.{View}
use Rattle.sock_model.specs.declared.view.Hand.{Hand}
use Rattle.sock_model.specs.MarkWeights.{is_busy, is_hold, is_failer, is_linked}
use Rattle.sock_model.specs.LinksInSlots.{HoldsLink, Failed}
use Rattle.sock_model.specs.References.{slot_facts}
use Rattle.sock_model.specs.SocketSlotLaw.{count}
use Rattle.slot_steps.proofs.RuleNumbers.{live_le}
use Rattle.sock_steps.proofs.LifeLinkSlotPlaces.{own_count}
use Rattle.seat_programs.specs.TableSteps.{TableStep, OnSlot, SetOdd, LookWord, LoadCode}
use Rattle.seat_programs.specs.Writings.{Puts, Waits, Empties, Reversing}
use Rattle.seat_programs.specs.Programs.{Program, Do, Rest, TakeMessage, TakeHome, PutHome, PutBytes, AskReady, Write, Aside, Round}
use Rattle.corr_core.specs.IdSlotWord.{parts, code_of}
use Rattle.corr_core.specs.EndedByRangeOrAttempt.{ends_call}
use Rattle.seat_programs.specs.Asides.{PutCall}
use Rattle.seat_programs.specs.LoopHeads.{HasEnded, Posts, Unlocks, Decides, Locks, Joins, Opens, Reads, Discards}
use Rattle.seat_programs.specs.PostPrograms.{end_id, unlocked}
use Rattle.seat_programs.specs.FoundAndChangedAside.{calls_after}
use Rattle.std.specs.Prelude.{if◌then◌else◌, ◌+◌, Some, None}
use Rattle.seat_programs.specs.Cores.{Calls, Core, SeatState, resolved, waiting_at, words_after, homes_after, hand_after, found_at, next_step, with_seat, stepped, lies_at, first_of, others_of, link_place}
use Rattle.seat_programs.specs.StepTables.{word_of, word_after}
use Rattle.seat_programs.specs.Ticks.{Moment, fed, with_places, onto_first, ticked}
use Rattle.seat_programs.specs.StepTables.{row, hand_at}
use Rattle.seat_programs.specs.StepsOfMessages.{took_message}
use Rattle.seat_programs.specs.StepsOfLinks.{link_away, link_home_again, took_bytes}
use Rattle.seat_programs.specs.StepTables.{May}
use Rattle.programs_allowed.specs.program_steps.specs.ProgramGoesOn.{GoesOn}
use Rattle.programs_allowed.specs.program_steps.specs.SoundSeats.{Sound, state, views_after}
use Rattle.programs_allowed.specs.program_steps.proofs.TickCases.{with_rights, right_rights, put_rights, IsStill, untold, tick_does, tick_cases}
use Rattle.programs_allowed.specs.sock_runs.proofs.TicksKeepSeatsSound.{sound_ticks}
use Rattle.sock_model.specs.ChainRows.{taken_right}
use Rattle.outcome_stories.proofs.Added.{failer_note, linked_note, row_adds}
use Rattle.run_laws.specs.World.{Event, Stop, stopped_after}
use Rattle.run_laws.specs.Seen.{event_at}
use Rattle.run_laws.specs.LatePuts.{next_at, PutsInto, LooksLive, Looks, FailsSocket}
use Rattle.run_laws.proofs.Modes.{Mode, Unknown, Live, Dead, mode_behind, put_mode, ready_mode, Guarded, come_guarded}
use Rattle.run_laws.proofs.WrittenLinkLives.{live_unfailed, even_is, link_is, failed_stays}
use Rattle.run_laws.proofs.KeptBySeats.{IsGiven, Kept, mode, mode_guarded}
use Rattle.run_laws.proofs.Stops.{link_of, no_right, not_stopped, same_more, fails_even}
use Rattle.seat_programs.specs.LoopRounds.{first_step}

-- seat s is at a put into link k
abbrev pub AtPut : ℕ → ℕ → Core → Type 0
AtPut k s c = (x : SeatState) × (get_elem? c.seats s ≡ some x) × PutsInto k x.program

-- the life of link k was failed, or the link is stopped
abbrev pub IsGone : Plan → Core → List View → (ℕ → Bool) → ℕ → Type 0
IsGone p c views stopped k = Failed p (state c views) k ⊎ (stopped k ≡ true)

-- the seat came to its put by a look, and the link isn't gone
abbrev pub Arrived : Plan → Core → List View → (ℕ → Bool) → Moment → ℕ → ℕ → Type 0
Arrived p c views stopped m k s = (m.seat ≡ s) × Looks c m k × (IsGone p c views stopped k → ⊥)

-- ## Programs

pub guarded_put : (m : Mode) (k : ℕ) (program : Program) → Guarded m program → PutsInto k program → (j : ℕ) × (m ≡ Live j)
guarded_put m k (PutBytes l asked bytes next) g puts = (g.0, g.1)
guarded_put m k _ g puts = absurd puts

pub first_put : (k : ℕ) (program : Program) → PutsInto k program → first_step program ≡ program
first_put k (PutBytes l asked bytes next) puts = refl
first_put k _ puts = absurd puts

-- a step that puts is that of a seat at a put
pub put_first : (k : ℕ) (program : Program) → PutsInto k (first_step program) → PutsInto k program
put_first k (PutBytes l asked bytes next) puts = puts
put_first k (Write (Puts h now heading left taken asked) after) puts = absurd puts
put_first k (Write (Waits h now heading left taken) after) puts = absurd puts
put_first k (Write (Empties h) after) puts = absurd puts
put_first k (Write (Reversing h top at after) then_) puts = absurd puts
put_first k (Round (Posts id e w) next) puts = absurd puts
put_first k (Round (Unlocks i w advance) next) puts = absurd puts
put_first k (Round (Decides id asked w e) next) puts = by_end (ends_call (parts w) e) puts
  where
    by_end : (b : Bool) → PutsInto k (if b then end_id (id_slot id) (next (HasEnded asked.operation (code_of e)))
        else Aside (PutCall (id_slot id) asked) (λ _. Round (Unlocks (id_slot id) w true) (unlocked (record { id = id; attempt = (parts w).attempt + 1 }) next))) → ⊥
    by_end true h = h
    by_end false h = h
put_first k (Round (Locks i sought None) next) puts = absurd puts
put_first k (Round (Locks i sought (Some w)) next) puts = absurd puts
put_first k (Round (Joins id) next) puts = absurd puts
put_first k (Round (Opens o) next) puts = absurd puts
put_first k (Round (Reads r) next) puts = absurd puts
put_first k (Round (Discards l total) next) puts = absurd puts
put_first k _ puts = absurd puts

still_none : (k : ℕ) (program : Program) → IsStill program → PutsInto k program → ⊥
still_none k (PutBytes l asked bytes next) still puts = still
still_none k (Do call next) still puts = puts
still_none k (PutHome q n after) still puts = puts
still_none k (AskReady q next) still puts = puts
still_none k (Write w after) still puts = puts
still_none k _ still puts = puts

-- whoever puts has the right to write the link
pub put_right_of : (p : Plan) (w : View) (k : ℕ) (program : Program) → PutsInto k program → GoesOn p w program → (r : Right) × (w.rights ≡ r ∷ []) × (r.link ≡ k)
put_right_of p w k (PutBytes l asked bytes next) puts goes = let may = goes.0 in (may.0, may.1.0, may.1.1 ∙ puts)
put_right_of p w k _ puts goes = absurd puts

pub unknown_live : (j : ℕ) → Unknown ≡ Live j → ⊥
unknown_live j e = cc

-- only a look that found the version even leaves a seat free to put
live_look : (m : Mode) (call : TableStep) (found j : ℕ) → mode_behind m call found ≡ Live j → (id : ℕ) × (call ≡ OnSlot (LookWord id)) × (vref_version found % 2 ≡ 0)
live_look m (OnSlot (LookWord id)) found j e = (id, refl, dite (ℕ_discrete (vref_version found % 2) 0) (λ y. y) (λ n. absurd (dead (sym (ap (λ b. cond b (Live (socket_id_slot id)) Dead) (ne_eqb (vref_version found % 2) 0 n)) ∙ e))))
  where
    dead : Dead ≡ Live j → ⊥
    dead y = cc
live_look m (OnSlot (LoadCode i h)) found j e = absurd (by_mode m e)
  where
    by_mode : (n : Mode) → mode_behind n (OnSlot (LoadCode i h)) found ≡ Live j → ⊥
    by_mode Unknown y = cc
    by_mode _ y = cc
live_look m _ found j e = absurd (unknown_live j e)

put_live : (i : ℕ) (answer : Put) (j : ℕ) → put_mode i answer ≡ Live j → ⊥
put_live i (puts.Took n) j e = cc
put_live i _ j e = cc

ready_live : (i : ℕ) (answer : Ready) (j : ℕ) → ready_mode i answer ≡ Live j → ⊥
ready_live i asks.Now j e = cc
ready_live i _ j e = cc

-- ## A tick

module _ (p : Plan) (c : Core) (views : List View) (stopped : ℕ → Bool) (m : Moment) (kept : Kept p c views stopped) (answered : IsGiven p c m) where
  -- the program to which the seat comes
  abbrev come : Calls → Program → Program
  come a program = next_step (resolved (waiting_at a.waiting m.seat) program)

  pub next_is : (seat : SeatState) → get_elem? c.seats m.seat ≡ some seat → next_at c m ≡ first_step seat.program
  next_is seat at = ap (λ (o : Option SeatState). elim o as (λ o. Program) [ none ↦ Rest | some seat ↦ first_step seat.program ]) at

  -- a seat at a put was there before, or came to it by this tick
  abbrev Comes : Core → Type 0
  Comes d = (k s : ℕ) → AtPut k s d → ((m.seat ≢ s) × AtPut k s c) ⊎ Arrived p c views stopped m k s

  -- where the seat of the tick is at no put behind it
  comes_else : (a : Calls) (program : Program) (hand : List Home) (ws : List ℕ) (hs : List (Option Home)) → ((k : ℕ) → PutsInto k (come a program) → Arrived p c views stopped m k m.seat) → Comes (with_seat m.seat program hand ws hs (record c { calls = a }))
  comes_else a program hand ws hs own k s put = ⊎_elim
      (λ r. inr (subst (Arrived p c views stopped m k) (sym r.0) (own k (subst (λ (y : SeatState). PutsInto k y.program) (sym r.1) put.2))))
      (λ r. inl ((λ e. r.0 (sym e)), (put.0, r.1, put.2)))
      (at_set c.seats m.seat s (record { program = come a program; hand = hand }) put.0 put.1)

  comes_with : (a : Calls) (program : Program) (hand : List Home) (ws : List ℕ) (hs : List (Option Home)) (n : Mode) → Guarded n program → ((j : ℕ) → n ≡ Live j → ⊥) → Comes (with_seat m.seat program hand ws hs (record c { calls = a }))
  comes_with a program hand ws hs n g never = comes_else a program hand ws hs (λ k puts. let x = guarded_put n k (come a program) (come_guarded n (waiting_at a.waiting m.seat) program g) puts in absurd (never x.0 x.1))

  comes_never : (program : Program) (hand : List Home) (ws : List ℕ) (hs : List (Option Home)) (n : Mode) → Guarded n program → ((j : ℕ) → n ≡ Live j → ⊥) → Comes (with_seat m.seat program hand ws hs c)
  comes_never program hand ws hs n g never = comes_with c.calls program hand ws hs n g never

  comes_same : (k s : ℕ) → AtPut k s c → m.seat ≢ s → ((m.seat ≢ s) × AtPut k s c) ⊎ Arrived p c views stopped m k s
  comes_same k s put ne = inl (ne, put)

  module _ (seat : SeatState) (v : View) (at_seat : get_elem? c.seats m.seat ≡ some seat) (here : get_elem? views m.seat ≡ some v) where
    -- by a look
    module _ (id : ℕ) (next : ℕ → Program) (is : first_step seat.program ≡ Do (OnSlot (LookWord id)) next) (may : May p v (OnSlot (LookWord id)))
        (sound : Sound p (stepped p m.seat seat (OnSlot (LookWord id)) next c) (set views m.seat (row p (OnSlot (LookWord id)) (found_at c.words (word_of p (OnSlot (LookWord id)))) (hand_at p c.words c.homes (OnSlot (LookWord id))) v)))
        (even : vref_version (found_at c.words (word_of p (OnSlot (LookWord id)))) % 2 ≡ 0) where
      abbrev w : View
      w = row p (OnSlot (LookWord id)) (found_at c.words (word_of p (OnSlot (LookWord id)))) (hand_at p c.words c.homes (OnSlot (LookWord id))) v

      looks_arrived : (k : ℕ) → (q : Right) × (w.rights ≡ q ∷ []) × (q.link ≡ k) → Arrived p c views stopped m k m.seat
      looks_arrived l mine = ⊎_elim
          (λ idle. absurd (cons-ne-nil mine.0 [] (sym mine.1 ∙ no_right p c views stopped kept m.seat seat v at_seat here id next is may sound idle)))
          (λ x. let r : Right = x.0 in let one = x.1 in let link : r.link ≡ l = sym (link_of p c views stopped kept m.seat seat v at_seat here id next is may sound x.0 x.1 x.2 mine.0 mine.1) ∙ mine.2 in
          let holds : HoldsLink p v (socket_id_slot id) (socket_id_version id) l = subst (HoldsLink p v (socket_id_slot id) (socket_id_version id)) link x.2 in
          let version = even_is p (state c views) kept.sound.lawful m.seat v here (socket_id_slot id) (socket_id_version id) l holds even in (
            refl,
            (subst (LooksLive c.words l) (sym (next_is seat at_seat ∙ is)) (version, subst (λ z. z % 2 ≡ 0) version even, link_is p (state c views) kept.sound.lawful m.seat v here (socket_id_slot id) (socket_id_version id) l holds)),
            λ gone. ⊎_elim (λ f. live_unfailed p (state c views) kept.sound.lawful m.seat v here (socket_id_slot id) (socket_id_version id) l holds even f)
                (λ t. true≢false (sym t ∙ subst (λ z. stopped z ≡ false) link (not_stopped p c views stopped kept m.seat seat v at_seat here id next is may sound x.0 x.1 x.2 even (stopped x.0.link) refl))) gone,
          ))
          may.1

  -- a step on a word
  comes_step : (seat : SeatState) (v : View) (call : TableStep) (next : ℕ → Program) (at_seat : get_elem? c.seats m.seat ≡ some seat) (here : get_elem? views m.seat ≡ some v) (is : first_step seat.program ≡ Do call next) → May p v call
      → (sound : Sound p (stepped p m.seat seat call next c) (set views m.seat (row p call (found_at c.words (word_of p call)) (hand_at p c.words c.homes call) v)))
      → ((k : ℕ) → PutsInto k (come c.calls (next (found_at c.words (word_of p call)))) → (q : Right) × ((row p call (found_at c.words (word_of p call)) (hand_at p c.words c.homes call) v).rights ≡ q ∷ []) × (q.link ≡ k))
      → (k : ℕ) → PutsInto k (come c.calls (next (found_at c.words (word_of p call)))) → Arrived p c views stopped m k m.seat
  comes_step seat v call next at_seat here is may sound right k puts =
      let found : ℕ = found_at c.words (word_of p call) in let g = (mode_guarded p c views stopped kept m.seat seat v at_seat here (Do call next) is).1 found in
      let n : Mode = mode_behind (mode p c views stopped kept m.seat seat v at_seat here) call found in
      let x = guarded_put n k (come c.calls (next found)) (come_guarded n (waiting_at c.calls.waiting m.seat) (next found) g) puts in let y = live_look (mode p c views stopped kept m.seat seat v at_seat here) call found x.0 x.1 in
      by_look call y.0 y.1 is may sound y.2 (right k puts)
    where
      by_look : (call : TableStep) (id : ℕ) → call ≡ OnSlot (LookWord id) → (is : first_step seat.program ≡ Do call next) → May p v call
          → Sound p (stepped p m.seat seat call next c) (set views m.seat (row p call (found_at c.words (word_of p call)) (hand_at p c.words c.homes call) v))
          → vref_version (found_at c.words (word_of p call)) % 2 ≡ 0 → (q : Right) × ((row p call (found_at c.words (word_of p call)) (hand_at p c.words c.homes call) v).rights ≡ q ∷ []) × (q.link ≡ k) → Arrived p c views stopped m k m.seat
      by_look call id e = subst (λ (z : TableStep). (is : first_step seat.program ≡ Do z next) → May p v z → Sound p (stepped p m.seat seat z next c) (set views m.seat (row p z (found_at c.words (word_of p z)) (hand_at p c.words c.homes z) v))
          → vref_version (found_at c.words (word_of p z)) % 2 ≡ 0 → (q : Right) × ((row p z (found_at c.words (word_of p z)) (hand_at p c.words c.homes z) v).rights ≡ q ∷ []) × (q.link ≡ k) → Arrived p c views stopped m k m.seat) (sym e)
          (λ is may sound even mine. looks_arrived seat v at_seat here id next is may sound even k mine)

  -- whoever is at a put behind a tick was there before, or came to it by this tick
  pub comes_tick : Comes (ticked p c m)
  comes_tick = tick_does p c views m kept.sound answered.0 untold tt (λ v answer first still. refl) (λ e d us. Sound p d us → Comes d)
      (λ none_ sound k s put. comes_same k s put (λ e. some-ne-none put.0 (sym put.1 ∙ (ap (get_elem? c.seats) (sym e) ∙ none_))))
      (λ seat at_seat still sound k s put. comes_same k s put (λ e. let same : seat ≡ put.0 = some-injective seat put.0 (sym at_seat ∙ (ap (get_elem? c.seats) e ∙ put.1)) in
      let puts : PutsInto k seat.program = subst (λ (y : SeatState). PutsInto k y.program) (sym same) put.2 in still_none k seat.program (subst IsStill (first_put k seat.program puts) still) puts))
      (λ seat v call next at_seat here is goes sound. comes_else c.calls (next (found_at c.words (word_of p call))) (hand_after p call c.homes seat.hand) (words_after c.words (word_of p call) (word_after call (found_at c.words (word_of p call)))) (homes_after p call seat.hand c.homes)
      (λ k puts. comes_step seat v call next at_seat here is goes.0 sound
      (λ l puts'. let found : ℕ = found_at c.words (word_of p call) in let w : View = row p call found (hand_at p c.words c.homes call) v in
      put_right_of p w l (come c.calls (next found)) puts'
      (sound.seats m.seat (record { program = come c.calls (next found); hand = hand_after p call c.homes seat.hand }) w (set_here c.seats m.seat (record { program = come c.calls (next found); hand = hand_after p call c.homes seat.hand }) (at_length c.seats m.seat seat at_seat))
      (set_here views m.seat w (at_length views m.seat v here))).goes_on) k puts))
      (λ seat v q next heading bytes at_seat here is goes lies sound. let g = mode_guarded p c views stopped kept m.seat seat v at_seat here (TakeMessage q next) is in
      comes_never (next heading bytes) seat.hand c.words (set c.homes q none) Unknown (g.1 heading bytes) unknown_live)
      (λ seat v k next took n at_seat here is goes lies sound. let g = mode_guarded p c views stopped kept m.seat seat v at_seat here (TakeHome k next) is in
      comes_never (next n) (lies_at c.homes (link_place p k) ++ seat.hand) c.words (set c.homes (link_place p k) none) Unknown (g.1 n) unknown_live)
      (λ seat v k n after at_seat here is goes sound. let g = mode_guarded p c views stopped kept m.seat seat v at_seat here (PutHome k n after) is in
      comes_never after (others_of seat.hand) c.words (set c.homes (link_place p k) (first_of (onto_first (with_places n) seat.hand))) Unknown g.1 unknown_live)
      (λ seat v k asked bytes next answer at_seat here is goes answer_is fits sound. let g = mode_guarded p c views stopped kept m.seat seat v at_seat here (PutBytes k asked bytes next) is in
      comes_never (next answer) (onto_first (fed bytes answer) seat.hand) c.words c.homes (put_mode g.0 answer) (g.2 answer) (put_live g.0 answer))
      (λ seat v k next answer at_seat here is goes answer_is sound. let g = mode_guarded p c views stopped kept m.seat seat v at_seat here (AskReady k next) is in
      comes_never (next answer) seat.hand c.words c.homes (ready_mode g.0 answer) (g.2 answer) (ready_live g.0 answer))
      (λ seat v s next found at_seat here is goes found_is sound. let g = mode_guarded p c views stopped kept m.seat seat v at_seat here (Aside s next) is in
      comes_with (calls_after s found c.calls) (next found) seat.hand c.words c.homes Unknown (g.1 found) unknown_live)
      (sound_ticks p kept.retries_go c views m kept.sound answered.0 answered.1)

  -- ## Links that are gone

  failed_tick : (k : ℕ) → Failed p (state c views) k → Failed p (state (ticked p c m) (views_after p c views m)) k
  failed_tick k f = tick_cases p c views m kept.sound answered.0 (λ d us. Failed p (state d us) k) f
      (λ seat v call next at_seat here is goes. let found : ℕ = found_at c.words (word_of p call) in let hand : Hand = hand_at p c.words c.homes call in
      failed_stays (state c views) (words_after c.words (word_of p call) (word_after call found)) (homes_after p call seat.hand c.homes) m.seat v (row p call found hand v) here p k
      (λ j h. omega (arith, row_adds (is_failer h) (failer_note h) j p call found hand v)) (λ j h. omega (arith, row_adds (is_linked h k) (linked_note h k) j p call found hand v)) f)
      (λ seat v q next heading bytes at_seat here is goes lies. stays_with v (took_message heading bytes v) here c.words (set c.homes q none) (right_rights v v.rights (λ r. taken_right r heading bytes)))
      (λ seat v l next took n at_seat here is goes lies. stays_with v (link_away v) here c.words (set c.homes (link_place p l) none) (right_rights v v.rights (λ r. record r { at_home = false })))
      (λ seat v l n after at_seat here is goes. stays_with v (link_home_again v) here c.words (set c.homes (link_place p l) (first_of (onto_first (with_places n) seat.hand))) (right_rights v v.rights (λ r. record r { at_home = true })))
      (λ seat v l asked bytes next answer at_seat here is goes answer_is fits. stays_with v (took_bytes answer v) here c.words c.homes (put_rights v answer))
      (λ seat v l next answer at_seat here is goes answer_is. f)
      (λ seat v s next found at_seat here is goes found_is. f)
    where
      stays_with : (v w : View) → get_elem? views m.seat ≡ some v → (ws : List ℕ) (hs : List (Option Home)) → (rights : List Right) × (w ≡ with_rights v rights) → Failed p (record { words = ws; homes = hs; views = set views m.seat w }) k
      stays_with v w here ws hs x = let e : w.marks ≡ v.marks = ap (λ (u : View). u.marks) x.1 in
          failed_stays (state c views) ws hs m.seat v w here p k (λ j h. same_more (is_failer h) j v w e) (λ j h. same_more (is_linked h k) j v w e) f

  stopped_more : (k : ℕ) (e : Event) → stopped k ≡ true → stopped_after e stopped k ≡ true
  stopped_more k (Stop l) t = by_test (eqb k l)
    where
      by_test : (b : Bool) → cond b true (stopped k) ≡ true
      by_test true = refl
      by_test false = t
  stopped_more k _ t = t

  -- what is gone stays gone
  pub gone_tick : (k : ℕ) → IsGone p c views stopped k → IsGone p (ticked p c m) (views_after p c views m) (stopped_after (event_at p c views m) stopped) k
  gone_tick k gone = ⊎_elim (λ f. inl (failed_tick k f)) (λ t. inr (stopped_more k (event_at p c views m) t)) gone

  -- ## Ticks that fail a link or its socket

  -- a step that makes a version odd
  module _ (k : ℕ) where
    nothing_fails : (first : Program) → next_at c m ≡ first → (FailsSocket c.words k first → ⊥) → FailsSocket c.words k (next_at c m) → ⊥
    nothing_fails first is never fails = never (subst (FailsSocket c.words k) is fails)

    still_fails : (program : Program) → IsStill program → FailsSocket c.words k program → ⊥
    still_fails (Do call next) still fails = still
    still_fails _ still fails = fails

    odd_step : (seat : SeatState) (v : View) (call : TableStep) (next : ℕ → Program) (at_seat : get_elem? c.seats m.seat ≡ some seat) (here : get_elem? views m.seat ≡ some v) (is : first_step seat.program ≡ Do call next) → May p v call
        → Sound p (stepped p m.seat seat call next c) (set views m.seat (row p call (found_at c.words (word_of p call)) (hand_at p c.words c.homes call) v)) → FailsSocket c.words k (Do call next)
        → Failed p (state (stepped p m.seat seat call next c) (set views m.seat (row p call (found_at c.words (word_of p call)) (hand_at p c.words c.homes call) v))) k
    odd_step seat v (OnSlot (SetOdd j)) next at_seat here is may sound fails =
        let s : State Home View = state c views in let l = kept.sound.lawful.references.slots j may.0 in let even = fails.0 in let h : ℕ = may.1.0 in
        let held = l.held h (let a = may.1.1 in omega (arith, own_count s m.seat v here (is_hold h) j)) in let held₀ = held.0 in let held₁ = held.1 in
        let le = live_le (slot_facts s j).tag (slot_facts s j).version (count is_busy (slot_facts s j)) in let version : (slot_facts s j).version ≡ h = omega arith in
        let given : 0 < count (is_linked h k) (slot_facts s j) = subst (λ z. 0 < count (is_linked z k) (slot_facts s j)) version (subst (λ z. 0 < count (is_linked (slot_facts s j).version z) (slot_facts s j)) fails.1 (l.link_live (omega arith))) in
        fails_even p c views stopped kept m.seat seat v at_seat here j next is may sound h k (record { inside = may.0; given = given }) version even
    odd_step seat v call next at_seat here is may sound fails = absurd fails

    pub odd_tick : FailsSocket c.words k (next_at c m) → Failed p (state (ticked p c m) (views_after p c views m)) k
    odd_tick fails = tick_does p c views m kept.sound answered.0 untold tt (λ v answer first still. refl) (λ e d us. Sound p d us → Failed p (state d us) k)
        (λ none_ sound. absurd (nothing_fails Rest (ap (λ (o : Option SeatState). elim o as (λ o. Program) [ none ↦ Rest | some seat ↦ first_step seat.program ]) none_) (λ x. x) fails))
        (λ seat at_seat still sound. absurd (still_fails (first_step seat.program) still (subst (FailsSocket c.words k) (next_is seat at_seat) fails)))
        (λ seat v call next at_seat here is goes sound. odd_step seat v call next at_seat here is goes.0 sound (subst (FailsSocket c.words k) (next_is seat at_seat ∙ is) fails))
        (λ seat v q next heading bytes at_seat here is goes lies sound. absurd (nothing_fails (TakeMessage q next) (next_is seat at_seat ∙ is) (λ x. x) fails))
        (λ seat v l next took n at_seat here is goes lies sound. absurd (nothing_fails (TakeHome l next) (next_is seat at_seat ∙ is) (λ x. x) fails))
        (λ seat v l n after at_seat here is goes sound. absurd (nothing_fails (PutHome l n after) (next_is seat at_seat ∙ is) (λ x. x) fails))
        (λ seat v l asked bytes next answer at_seat here is goes answer_is fits sound. absurd (nothing_fails (PutBytes l asked bytes next) (next_is seat at_seat ∙ is) (λ x. x) fails))
        (λ seat v l next answer at_seat here is goes answer_is sound. absurd (nothing_fails (AskReady l next) (next_is seat at_seat ∙ is) (λ x. x) fails))
        (λ seat v s next found at_seat here is goes found_is sound. absurd (nothing_fails (Aside s next) (next_is seat at_seat ∙ is) (λ x. x) fails))
        (sound_ticks p kept.retries_go c views m kept.sound answered.0 answered.1)
