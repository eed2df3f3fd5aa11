-- While a run is ending each life that isn't past was made then: its link is one of those that became a socket's, and whoever looks at another life finds it failed.
use Rattle.std.proofs.Common.{◌≡◌, ℕ, ◌<◌, ◌≤◌, ◌⊎◌, List, [], ◌∷◌, get_or, inl, inr, ⊎_elim, refl, sym, ap, ◌∙◌, subst, arith}
use Rattle.std.specs.Prelude as std
use mathlib.Core.Option.{Option, none, some}
use lib.ListN.{get_elem?}
use Rattle.sock_words.specs.PackedWords.{socket_id_version, socket_id_slot, vref_version}
use Rattle.sock_words.specs.declared.plain.Plan.{Plan}
use Rattle.sock_model.specs.declared.view.Hand.{Hand}
use Rattle.sock_model.specs.declared.view.View.{View}
use Rattle.sock_model.specs.SocketTableLayout.{ref_index, link_index}
use Rattle.sock_model.specs.MarkWeights.{is_linked}
use Rattle.sock_model.specs.SlotRows.{marks_of}
use Rattle.ended_calls.specs.refused_attempts.specs.Below.sock_steps.proofs.LifeLinkSlotPlaces.{counts}
use Rattle.ended_calls.specs.refused_attempts.specs.Below.sock_steps.proofs.SumsAsMarksChange.{either_way}
use Rattle.corr_core.specs.IdSlotWord.{parts}
use Rattle.corr_core.specs.EndedByRangeOrAttempt.{ends_call}
use Rattle.seat_programs.specs.TableSteps.{TableStep, OnSlot, CreateLife}
use Rattle.seat_programs.specs.SlotFreedByDrop.{call_in}
use Rattle.seat_programs.specs.LoopHeads.{Head, Exit, Decides, Locks}
use Rattle.seat_programs.specs.Programs.{Program, Do, Write, Round}
use Rattle.seat_programs.specs.LoopRounds.{round, first_step}
use Rattle.seat_programs.specs.SendAndWritePrograms.{block}
use Rattle.seat_programs.specs.Writings.{Writing, Puts}
use Rattle.seat_programs.specs.Cores.{Core, SeatState, found_at, words_after, homes_after}
use Rattle.seat_programs.specs.StepTables.{word_of, word_after}
use Rattle.seat_programs.specs.Ticks.{Moment, IsAnswered, ticked}
use Rattle.seat_programs.specs.StepTables.{row, hand_at}
use Rattle.ended_calls.specs.refused_attempts.specs.Below.programs_allowed.specs.program_steps.specs.SoundSeats.{state, Sound, IsFitting, views_after}
use Rattle.ended_calls.specs.refused_attempts.specs.Below.programs_allowed.specs.program_steps.proofs.TickCases.{with_rights, tick_keeps_marks}
use Rattle.ended_calls.specs.refused_attempts.specs.Below.programs_allowed.specs.sock_runs.proofs.LinkNotes.{links_only, birth_links}
use Rattle.ended_calls.specs.refused_attempts.specs.Below.programs_allowed.specs.sock_runs.proofs.LinksStay.{IsGiven, finds_given}
use Rattle.ended_calls.specs.refused_attempts.specs.Below.programs_allowed.specs.sock_runs.proofs.SlotVersionsRise.{versions_on, look_holds}
use Rattle.ended_calls.specs.refused_attempts.specs.Below.outcome_stories.specs.Facts.{born_of, born_at}
use Rattle.ended_calls.specs.refused_attempts.specs.Below.outcome_stories.specs.OperationStories.{In}
use Rattle.dropped_calls.proofs.LateSeats.{Tells}

-- ## Births

-- the next step makes no life
abbrev IsBirthless : Program → Type 0
IsBirthless (Do (OnSlot (CreateLife i k)) next) = ⊥
IsBirthless other = Unit {0}

birthless_block : (w : Writing) (after : Program) → IsBirthless (block w after)
birthless_block (Puts h now heading left taken asked) after = tt
birthless_block _ after = tt

birthless_round : (head : Head) (next : Exit head → Program) → IsBirthless (round head next)
birthless_round (Decides id asked w e) next = either_way (ends_call (parts w) e) _ _ IsBirthless tt tt
birthless_round (Locks i sought (std.Some w)) next = tt
birthless_round (Locks i sought std.None) next = tt
birthless_round _ next = tt

-- where a seat's next step makes a life, the tick shows its link
begins_birth : (i k : ℕ) (next : ℕ → Program) (program : Program) → first_step program ≡ Do (OnSlot (CreateLife i k)) next → born_of (call_in program) ≡ k ∷ []
begins_birth i k next (Write w after) e = absurd (subst IsBirthless e (birthless_block w after))
begins_birth i k next (Round head exits) e = absurd (subst IsBirthless e (birthless_round head exits))
begins_birth i k next _ e = subst (λ q. born_of (call_in q) ≡ k ∷ []) (sym e) refl

birth_shown : (c : Core) (m : Moment) (seat : SeatState) (i k : ℕ) (next : ℕ → Program) → get_elem? c.seats m.seat ≡ some seat → first_step seat.program ≡ Do (OnSlot (CreateLife i k)) next → In k (born_at c m)
birth_shown c m seat i k next at is = subst (In k) (sym (ap (λ (o : Option SeatState). elim o as (λ o. List ℕ) [ none ↦ [] | some s ↦ born_of (call_in s.program) ]) at ∙ begins_birth i k next seat.program is)) (inl refl)

module _ (p : Plan) (base : Core) (L : ℕ → Type 0) where
  -- the life h of slot i was past at the base
  abbrev pub WasPast : ℕ → ℕ → Type 0
  WasPast i h = h < vref_version (get_or base.words (ref_index i) 0)

  pub record Lives (c : Core) (vs : List View) : Type 0 where
    pub later : (i : ℕ) → i < p.slots → vref_version (get_or base.words (ref_index i) 0) ≤ vref_version (get_or c.words (ref_index i) 0)
    -- each other life has such a link
    pub links : (i h k : ℕ) → i < p.slots → IsGiven c vs i h k → WasPast i h ⊎ L k

  pub lives_tell : (c : Core) (vs : List View) → Sound p c vs → Lives c vs → Tells p L WasPast c vs
  lives_tell c vs sound lives = record {
    live = λ j v id at may even old. let e = look_holds p c vs sound j v at id may even in let more = lives.later (socket_id_slot id) may.0 in omega (arith, e, more, old);
    given = λ j v id q at may new. ⊎_elim (λ old. absurd (new old)) (λ l. l)
        (lives.links (socket_id_slot id) (socket_id_version id) (get_or c.words (link_index (socket_id_slot id)) 0) may.1.0 (finds_given p c vs sound j v at (socket_id_slot id) (socket_id_version id) may.1));
  }

  -- a step notes a link of no other life than the one that it makes
  links_after : (v : View) (found : ℕ) (hand : Hand) (h k j : ℕ) (call : TableStep) → ((i l : ℕ) → call ≡ OnSlot (CreateLife i l) → L l) → L k ⊎ (marks_of (is_linked h k) j (row p call found hand v) ≤ marks_of (is_linked h k) j v)
  links_after v found hand h k j (OnSlot (CreateLife i l)) born = ⊎_elim (λ a. inl (subst L (sym a.2) (born i l refl))) (λ less. inr less) (birth_links p v found hand h k i l j)
  links_after v found hand h k j call born = inr (links_only p v found hand h k call refl j)

  pub lives_ticks : (c : Core) (vs : List View) (m : Moment) → Sound p c vs → IsAnswered c m → IsFitting p c m → ((k : ℕ) → In k (born_at c m) → L k) → Lives c vs → Lives (ticked p c m) (views_after p c vs m)
  lives_ticks c vs m sound answered fits born lives = tick_keeps_marks p c vs m sound answered fits Lives lives
      (λ seat v call next at_seat at_view is goes. record {
        later = λ i inside. let before = lives.later i inside in let on = versions_on p c vs sound m.seat v at_view call goes.0 i inside in omega (arith, before, on);
        links = λ i h k inside given. ⊎_elim (λ l. inr l)
            (λ less. lives.links i h k inside (let w : View = row p call (found_at c.words (word_of p call)) (hand_at p c.words c.homes call) v in
            let moved = counts (state c vs) m.seat v w at_view (words_after c.words (word_of p call) (word_after call (found_at c.words (word_of p call)))) (homes_after p call seat.hand c.homes) (is_linked h k) i in omega (arith, given, moved, less)))
            (links_after v (found_at c.words (word_of p call)) (hand_at p c.words c.homes call) h k i call (λ n l e. born l (birth_shown c m seat n l next at_seat (is ∙ ap (λ q. Do q next) e))));
      })
      (λ seat v program rights hand hs a at_seat at_view comes. record {
        later = lives.later;
        links = λ i h k inside given. lives.links i h k inside (let moved = counts (state c vs) m.seat v (with_rights v rights) at_view c.words hs (is_linked h k) i in omega (arith, given, moved));
      })
