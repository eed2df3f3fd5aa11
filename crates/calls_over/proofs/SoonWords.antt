-- The words of ids go on with each tick, and an attempt to which an id has come is of a version of its range.
use Rattle.std.proofs.Common.{◌≡◌, ℕ, ◌+◌, ◌<◌, ◌≤◌, ◌==◌, cond, ne_eqb, Bool, true, false, List, refl, sym, ap, subst, arith}
use mathlib.Core.Option.{Option, none, some}
use lib.ListN.{get_elem?}
use Rattle.sock_words.specs.declared.plain.Plan.{Plan}
use Rattle.sock_io.specs.declared.link.Put.{Put}
use Rattle.sock_io.specs.declared.link.Ready.{Ready}
use Rattle.corr_core.specs.IdSlotWord.{Parts}
use Rattle.corr_core.specs.declared.marks.Plan.{Plan as IdPlan}
use Rattle.id_rule.specs.LawfulIdTable.{local}
use Rattle.id_runs.specs.HeldIdTokens.{IdView, id_state}
use Rattle.id_runs.specs.Goes.{SoundIds}
use Rattle.id_runs.proofs.AsideStepsKeepRule.{live_room}
use Rattle.sock_model.specs.UnplacedMessages.{HeadedBytes}
use Rattle.sock_model.specs.ChainLawReads.{message, link_home}
use Rattle.seat_programs.specs.Asides.{Step, Found}
use Rattle.seat_programs.specs.FoundAndChangedAside.{found_in}
use Rattle.seat_programs.specs.Programs.{Program, TakeMessage, TakeHome, PutBytes, AskReady, Aside}
use Rattle.seat_programs.specs.Cores.{Core, SeatState}
use Rattle.seat_programs.specs.Ticks.{Answer, OfPut, OfReady, Moment, taken, with_message, with_link, with_put, with_ready, with_found, step_with, tick_with, ticked}
use Rattle.served_fits.specs.Below.programs_allowed.specs.program_steps.proofs.TickCases.{ticks_first}
use Rattle.served_fits.specs.Below.call_owing.specs.SoundOwing.{id_word_of}
use Rattle.served_fits.specs.Below.call_causes.proofs.HandledResponses.{bound, Goes, goes_same}
use Rattle.served_fits.specs.Below.call_causes.proofs.HandledTicks.{Known}
use Rattle.seat_programs.specs.LoopRounds.{first_step}
use Rattle.sock_words.specs.PackedWords.{id_slot, id_first}

-- ## One range

bound_live : (w : Parts) → 0 < w.state → bound w ≡ w.first + w.range
bound_live w some_ = ap (λ b. cond b w.first (w.first + w.range)) (ne_eqb w.state 0 (λ e. omega (arith, some_, e)))

module _ (p : Plan) (q : IdPlan) (c : Core) (us : List IdView) (ids : SoundIds p q c us) where
  -- so an attempt of a range that has begun is below its end
  pub begun_below : (id n : ℕ) → id_slot id < q.slots → (id_word_of c (id_slot id)).first ≡ id_first id → 0 < (id_word_of c (id_slot id)).state → n ≤ (id_word_of c (id_slot id)).attempt → id_first id + n + 1 < bound (id_word_of c (id_slot id))
  begun_below id n low first some_ few = let room = live_room (local (id_state c.calls us) (id_slot id)) (ids.rule.slots (id_slot id) low) some_ in
      let b = bound_live (id_word_of c (id_slot id)) some_ in omega (arith, room, b, first, few)

  -- and no end is high
  pub bound_low : (i : ℕ) → i < q.slots → bound (id_word_of c i) ≤ 67108864
  bound_low i low = let first = (ids.rule.slots i low).first_low in by_state ((id_word_of c i).state == 0) first
    where
      by_state : (b : Bool) → (id_word_of c i).first ≤ 67108856 → cond b (id_word_of c i).first ((id_word_of c i).first + (id_word_of c i).range) ≤ 67108864
      by_state true first = omega (arith, first)
      by_state false first = let eight : (id_word_of c i).range ≤ 8 = omega arith in omega (arith, first, eight)

-- ## Ticks

module _ (p : Plan) (q : IdPlan) (c : Core) (m : Moment) (known : Known q c m) (i : ℕ) (low : i < q.slots) where
  abbrev On : Core → Type 0
  On d = Goes (id_word_of c i) (id_word_of d i)

  stays : On c
  stays = goes_same (id_word_of c i)

  module _ (seat : SeatState) (at : get_elem? c.seats m.seat ≡ some seat) where
    by_letter : (r : ℕ) (x : Option HeadedBytes) (next : HeadedBytes → Program) → On (with_message p m.seat seat c r x next)
    by_letter r none next = stays
    by_letter r (some letter) next = stays

    by_link : (k : ℕ) (x : Option (List ℕ × ℕ)) (next : ℕ → Program) → On (with_link p m.seat seat c k x next)
    by_link k none next = stays
    by_link k (some home) next = stays

    by_put : (bytes : List ℕ) (answer : Answer) (next : Put → Program) → On (with_put p m.seat seat c bytes answer next)
    by_put bytes (OfPut answer) next = stays
    by_put bytes _ next = stays

    by_ready : (answer : Answer) (next : Ready → Program) → On (with_ready p m.seat seat c answer next)
    by_ready (OfReady answer) next = stays
    by_ready _ next = stays

    by_found : (step : Step) (next : Found step → Program) → first_step seat.program ≡ Aside step next → (x : Option (Found step)) → found_in step c.calls (taken m.answer) ≡ x → On (with_found p m.seat seat c step x next)
    by_found step next first none is = stays
    by_found step next first (some found) is = (known.facts seat at step next (taken m.answer) found first is).goes i low

    by_first : (x : Program) → first_step seat.program ≡ x → On (step_with p m.seat seat c m.answer x)
    by_first (TakeMessage r next) first = by_letter r (message (λ home. home) c.homes r) (λ letter. next letter.0 letter.1)
    by_first (TakeHome k next) first = by_link k (link_home (λ home. home) p c.homes k) next
    by_first (PutBytes k asked bytes next) first = by_put bytes m.answer next
    by_first (AskReady k next) first = by_ready m.answer next
    by_first (Aside step next) first = by_found step next first (found_in step c.calls (taken m.answer)) refl
    by_first _ first = stays

  -- the word of each id goes on
  pub words_go : Goes (id_word_of c i) (id_word_of (ticked p c m) i)
  words_go = by_seat (get_elem? c.seats m.seat) refl
    where
      by_seat : (x : Option SeatState) → get_elem? c.seats m.seat ≡ x → On (elim x as (λ o. Core) [ none ↦ c | some seat ↦ tick_with p m.seat seat c m.answer seat.program ])
      by_seat none e = stays
      by_seat (some seat) e = subst On (sym (ticks_first p m.seat seat c m.answer seat.program)) (by_first seat e (first_step seat.program) refl)
