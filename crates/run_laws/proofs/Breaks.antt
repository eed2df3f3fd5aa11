-- A link that answers that it failed is stopped, and its seat is at no put then.
use Rattle.std.proofs.Common.{◌≡◌, ℕ, zero, suc, ◌⊎◌, inl, inr, ⊎_elim, Bool, true, false, cond, eq-eqb, List, [], ◌∷◌, refl, sym, ap, ◌∙◌, subst, arith}
use Rattle.corr_core.specs.IdSlotWord.{parts, code_of}
use Rattle.corr_core.specs.EndedByRangeOrAttempt.{ends_call}
use Rattle.seat_programs.specs.Asides.{PutCall}
use Rattle.seat_programs.specs.LoopHeads.{HasEnded, Unlocks, Decides, Locks}
use Rattle.seat_programs.specs.PostPrograms.{end_id, unlocked}
use Rattle.std.specs.Prelude.{Contains, if◌then◌else◌, ◌+◌, None}
use mathlib.Core.Option.{Option, none, some}
use lib.ListN.{get_elem?}
use Rattle.sock_words.specs.declared.plain.Plan.{Plan}
use Rattle.sock_io.specs.declared.link.Put.{Put}
use Rattle.sock_io.specs.declared.link.Put.TheVariants as puts
use Rattle.sock_io.specs.declared.link.Ready.{Ready}
use Rattle.sock_io.specs.declared.link.Ready.TheVariants as asks
use Rattle.sock_model.specs.declared.chain.Right.{Right}
use Rattle.sock_model.specs.declared.view.View.{View}
use Rattle.seat_programs.specs.TableSteps.{TableStep, OnSlot, SetOdd}
use Rattle.seat_programs.specs.Writings.{Puts, Waits, Empties, Reversing}
use Rattle.seat_programs.specs.Programs.{Program, Do, Say, Sent, Rest, TakeMessage, TakeHome, PutHome, PutBytes, AskReady, Write, Aside, Round, Keep, Retries}
use Rattle.seat_programs.specs.Cores.{Core, SeatState}
use Rattle.seat_programs.specs.Ticks.{OfPut, OfReady, Moment, ticked, asked_link, is_refusal, broken_at}
use Rattle.programs_allowed.specs.program_steps.specs.SoundSeats.{state, views_after}
use Rattle.programs_allowed.specs.program_steps.proofs.TickCases.{IsStill, tick_does, elem_there}
use Rattle.programs_allowed.specs.program_steps.specs.ProgramGoesOn.{GoesOn}
use Rattle.run_laws.specs.World.{Nothing, Stop, stopped_after}
use Rattle.run_laws.specs.Seen.{put_event, ready_event, next_event, event_at}
use Rattle.run_laws.specs.LatePuts.{Looks, LooksLive, Fails, FailsSocket, next_at}
use Rattle.run_laws.proofs.WrittenLinkLives.{one_writer}
use Rattle.run_laws.proofs.EventlessTicks.{still_nothing}
use Rattle.run_laws.proofs.KeptBySeats.{IsGiven, Kept}
use Rattle.run_laws.proofs.Arrives.{AtPut, IsGone, put_right_of, next_is, odd_tick}
use Rattle.seat_programs.specs.LoopRounds.{first_step}
use Rattle.sock_words.specs.PackedWords.{id_slot}

contains_one : (l k : ℕ) → Contains (l ∷ []) k → l ≡ k
contains_one l k (zero, low, is) = is
contains_one l k (suc n, low, is) = absurd (omega arith)

contains_none : (b : Bool) (k : ℕ) → Contains (cond b [] []) k → ⊥
contains_none true k (n, low, is) = omega arith
contains_none false k (n, low, is) = omega arith

pub asked_first : (program : Program) → asked_link (first_step program) ≡ asked_link program
asked_first (Write (Empties h) after) = refl
asked_first (Round (Decides id asked w e) next) = by_end (ends_call (parts w) e)
  where
    by_end : (b : Bool) → asked_link (if b then end_id (id_slot id) (next (HasEnded asked.operation (code_of e)))
        else Aside (PutCall (id_slot id) asked) (λ _. Round (Unlocks (id_slot id) w true) (unlocked (record { id = id; attempt = (parts w).attempt + 1 }) next))) ≡ []
    by_end true = refl
    by_end false = refl
asked_first (Round (Locks i sought None) next) = refl
asked_first _ = refl

still_asks : (program : Program) → IsStill program → asked_link program ≡ []
still_asks (PutBytes k asked bytes next) still = absurd still
still_asks (AskReady k next) still = absurd still
still_asks (Write w after) still = absurd still
still_asks _ still = refl

-- whoever asks a link has the right to write it
asked_right : (p : Plan) (v : View) (k : ℕ) (program : Program) → GoesOn p v program → (b : Bool) → Contains (cond b (asked_link program) []) k → IsStill program ⊎ ((r : Right) × (v.rights ≡ r ∷ []) × (r.link ≡ k))
asked_right p v k (PutBytes l asked bytes next) goes true there = let may = goes.0 in inr (may.0, may.1.0, may.1.1 ∙ contains_one l k there)
asked_right p v k (AskReady l next) goes true there = let may = goes.0 in inr (may.0, may.1.0, may.1.1 ∙ contains_one l k there)
asked_right p v k (Write (Waits h now heading left taken) after) goes true there = let at = goes.0 in let mine = at.1 in inr (at.0, mine.one, mine.link ∙ contains_one h.link k there)
asked_right p v k (Write (Puts h now heading left taken asked) after) goes true there = absurd (contains_none true k there)
asked_right p v k (Write (Empties h) after) goes true there = absurd (contains_none true k there)
asked_right p v k (Write (Reversing h top at after) then_) goes true there = absurd (contains_none true k there)
asked_right p v k (Do call next) goes true there = absurd (contains_none true k there)
asked_right p v k (Say o outcome next) goes true there = absurd (contains_none true k there)
asked_right p v k (Sent o next) goes true there = absurd (contains_none true k there)
asked_right p v k Rest goes true there = absurd (contains_none true k there)
asked_right p v k (TakeMessage q next) goes true there = absurd (contains_none true k there)
asked_right p v k (TakeHome q next) goes true there = absurd (contains_none true k there)
asked_right p v k (PutHome q n after) goes true there = absurd (contains_none true k there)
asked_right p v k (Aside s next) goes true there = absurd (contains_none true k there)
asked_right p v k (Round head next) goes true there = absurd (contains_none true k there)
asked_right p v k (Keep r next) goes true there = absurd (contains_none true k there)
asked_right p v k (Retries requests after) goes true there = absurd (contains_none true k there)
asked_right p v k _ goes false there = absurd (contains_none false k there)

module _ (p : Plan) (c : Core) (views : List View) (stopped : ℕ → Bool) (m : Moment) (kept : Kept p c views stopped) (answered : IsGiven p c m) (k : ℕ) where
  abbrev broken_by : Option SeatState → List ℕ
  broken_by o = cond (is_refusal m.answer) (elim o as (λ o. List ℕ) [ none ↦ [] | some seat ↦ asked_link seat.program ]) []

  broken_is : (seat : SeatState) (first : Program) → get_elem? c.seats m.seat ≡ some seat → first_step seat.program ≡ first → Contains (broken_at c m) k → Contains (cond (is_refusal m.answer) (asked_link first) []) k
  broken_is seat first at is there = subst (λ l. Contains (cond (is_refusal m.answer) l []) k) (sym (asked_first seat.program) ∙ ap asked_link is) (subst (λ o. Contains (broken_by o) k) at there)

  silent : (seat : SeatState) (first : Program) → get_elem? c.seats m.seat ≡ some seat → first_step seat.program ≡ first → asked_link first ≡ [] → Contains (broken_at c m) k → ⊥
  silent seat first at is none_ there = contains_none (is_refusal m.answer) k (subst (λ l. Contains (cond (is_refusal m.answer) l []) k) none_ (broken_is seat first at is there))

  stops_here : (l : ℕ) → l ≡ k → stopped_after (Stop l) stopped k ≡ true
  stops_here l e = ap (λ b. cond b true (stopped k)) (eq-eqb k l (sym e))

  put_stops : (l : ℕ) (bytes : List ℕ) (answer : Put) → Contains (cond (is_refusal (OfPut answer)) (l ∷ []) []) k → stopped_after (put_event l bytes answer) stopped k ≡ true
  put_stops l bytes (puts.Took n) there = absurd (contains_none false k there)
  put_stops l bytes puts.Again there = absurd (contains_none false k there)
  put_stops l bytes puts.Failed there = stops_here l (contains_one l k there)

  ready_stops : (l : ℕ) (answer : Ready) → Contains (cond (is_refusal (OfReady answer)) (l ∷ []) []) k → stopped_after (ready_event l answer) stopped k ≡ true
  ready_stops l asks.Now there = absurd (contains_none false k there)
  ready_stops l asks.NotYet there = absurd (contains_none false k there)
  ready_stops l asks.Failed there = stops_here l (contains_one l k there)

  pub break_stops : Contains (broken_at c m) k → stopped_after (event_at p c views m) stopped k ≡ true
  break_stops there = tick_does p c views m kept.sound answered.0 (next_event p m.seat c.words) Nothing (still_nothing p m.seat c.words) (λ e d us. stopped_after e stopped k ≡ true)
      (λ none_. absurd (contains_none (is_refusal m.answer) k (subst (λ o. Contains (broken_by o) k) none_ there)))
      (λ seat at_seat still. absurd (silent seat (first_step seat.program) at_seat refl (still_asks (first_step seat.program) still) there))
      (λ seat v call next at_seat here is goes. absurd (silent seat (Do call next) at_seat is refl there))
      (λ seat v q next heading bytes at_seat here is goes lies. absurd (silent seat (TakeMessage q next) at_seat is refl there))
      (λ seat v l next took n at_seat here is goes lies. absurd (silent seat (TakeHome l next) at_seat is refl there))
      (λ seat v l n after at_seat here is goes. absurd (silent seat (PutHome l n after) at_seat is refl there))
      (λ seat v l asked bytes next answer at_seat here is goes answer_is fits. put_stops l bytes answer (subst (λ a. Contains (cond (is_refusal a) (l ∷ []) []) k) answer_is (broken_is seat (PutBytes l asked bytes next) at_seat is there)))
      (λ seat v l next answer at_seat here is goes answer_is. ready_stops l answer (subst (λ a. Contains (cond (is_refusal a) (l ∷ []) []) k) answer_is (broken_is seat (AskReady l next) at_seat is there)))
      (λ seat v s next found at_seat here is goes found_is. absurd (silent seat (Aside s next) at_seat is refl there))

  -- behind a tick that fails the link or its socket it is gone
  pub fails_gone : Fails c m k → IsGone p (ticked p c m) (views_after p c views m) (stopped_after (event_at p c views m) stopped) k
  fails_gone fails = ⊎_elim (λ odd. inl (odd_tick p c views stopped m kept answered k odd)) (λ there. inr (break_stops there)) fails

  -- it is no look
  looks_no : (ws : List ℕ) (program : Program) → LooksLive ws k program → FailsSocket ws k program → ⊥
  looks_no ws (Do call next) looks fails = by_call call looks fails
    where
      by_call : (call : TableStep) → LooksLive ws k (Do call next) → FailsSocket ws k (Do call next) → ⊥
      by_call (OnSlot (SetOdd i)) looks fails = looks
      by_call _ looks fails = fails
  looks_no ws _ looks fails = fails

  looks_asks : (ws : List ℕ) (program : Program) → LooksLive ws k program → asked_link program ≡ []
  looks_asks ws (Do call next) looks = refl
  looks_asks ws (Write w after) looks = absurd looks
  looks_asks ws (PutBytes l asked bytes next) looks = absurd looks
  looks_asks ws (AskReady l next) looks = absurd looks
  looks_asks ws _ looks = refl

  pub look_fails_none : (seat : SeatState) → get_elem? c.seats m.seat ≡ some seat → Looks c m k → Fails c m k → ⊥
  look_fails_none seat at looks fails = let is = next_is p c views stopped m kept answered seat at in
      ⊎_elim (λ odd. looks_no c.words (next_at c m) looks odd) (λ there. silent seat (first_step seat.program) at refl (looks_asks c.words (first_step seat.program) (subst (LooksLive c.words k) is looks)) there) fails

  -- where the link answers that it failed, no other seat is at a put into it
  pub break_alone : (s : ℕ) → Contains (broken_at c m) k → AtPut k s c → m.seat ≡ s
  break_alone s there put = by_seat (get_elem? c.seats m.seat) refl
    where
      by_view : (seat : SeatState) (v : View) → get_elem? c.seats m.seat ≡ some seat → get_elem? views m.seat ≡ some v → (u : View) → get_elem? views s ≡ some u → m.seat ≡ s
      by_view seat v at here u other = let goes = (kept.sound.seats m.seat seat v at here).goes_on in let mine = put_right_of p u k put.0.program put.2 (kept.sound.seats s put.0 u put.1 other).goes_on in
          ⊎_elim (λ still. absurd (silent seat seat.program at (first_still seat.program still) (still_asks seat.program still) there))
          (λ r. one_writer p (state c views) kept.sound.lawful m.seat s v u r.0 mine.0 here other r.1 mine.1 (r.2 ∙ sym mine.2))
          (asked_right p v k seat.program goes (is_refusal m.answer) (subst (λ o. Contains (broken_by o) k) at there))
        where
          first_still : (program : Program) → IsStill program → first_step program ≡ program
          first_still (Write w after) still = absurd still
          first_still (Round head next) still = absurd still
          first_still _ still = refl

      view_at : (i : ℕ) (x : SeatState) → get_elem? c.seats i ≡ some x → (v : View) × (get_elem? views i ≡ some v)
      view_at i x at = elem_there c.seats views i x kept.sound.each at

      by_seat : (o : Option SeatState) → get_elem? c.seats m.seat ≡ o → m.seat ≡ s
      by_seat none none_ = absurd (contains_none (is_refusal m.answer) k (subst (λ o. Contains (broken_by o) k) none_ there))
      by_seat (some seat) at = let v = view_at m.seat seat at in let u = view_at s put.0 put.1 in by_view seat v.0 at v.1 u.0 u.1
