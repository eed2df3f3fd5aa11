-- Where the ending begins each seat is at rest, or waits for the end of a range, for the word of an `open`, or for bytes; and no id is locked.
use Rattle.std.proofs.Common.{◌≡◌, ℕ, ◌<◌, ◌==◌, ◌⊎◌, inl, inr, ⊎_elim, not, eqb-true, eq-eqb, Bool, true, false, List, ◌++◌, length, get_or, replicate, sym, ap, ◌∙◌, subst}
use Rattle.std.proofs.lemmas.Bool.{true≢false, and_parts}
use Rattle.std.specs.Prelude.{None, Some}
use mathlib.Core.Option.{some, none, some-injective}
use lib.ListN.{get_elem?}
use Rattle.seat_programs.specs.brpc_model.specs.Items.{Item}
use Rattle.seat_programs.specs.brpc_model.specs.Operations.{Turn}
use Rattle.sock_model.specs.SocketTableLayout.{open_index}
use Rattle.corr_core.specs.IdSlotWord.{Parts}
use Rattle.corr_core.proofs.NoteSums.{at_length}
use Rattle.seat_programs.specs.Cores.{Core, SeatState}
use Rattle.seat_programs.specs.LoopHeads.{Head, Exit, Reading, Sought, First, Version, Locks, Joins, Opens, Reads, Discards}
use Rattle.seat_programs.specs.PostPrograms.{is_sought}
use Rattle.seat_programs.specs.Programs.{Program, Rest, Round}
use Rattle.seat_programs.specs.ScheduledRuns.{IsAtRest}
use Rattle.seat_programs.specs.ScriptSetupToEnding.{opened, set_up, played, IsRunWithCalls}
use Rattle.seat_programs.specs.Tasks.{plan_of, id_plan_of}
use Rattle.seat_programs.specs.Ticks.{Answer, Moment, IsAlwaysReady, quiet, waits, waits_at, waits_in}
use Rattle.outcome_causes.specs.program_steps.specs.SoundSeats.{views_along}
use Rattle.outcome_causes.specs.sock_runs.proofs.SoundAlongRuns.{seat_rests}
use Rattle.outcome_causes.specs.sock_runs.proofs.TicksOfWaitingSeats.{StandsAside}
use Rattle.outcome_causes.specs.program_walks.proofs.WholeScriptSound.{views_played, rested_ahead}
use Rattle.call_causes.specs.Below.id_runs.specs.HeldIdTokens.{IdView}
use Rattle.call_causes.specs.Below.id_runs.specs.Goes.{IdGoesOn}
use Rattle.call_causes.specs.Below.joint_runs.proofs.BothTablesSound.{BothSound, behind_both}
use Rattle.call_causes.specs.Below.joint_runs.proofs.RunsOfBothTables.{AreMade, first_views, joint_runs}
use Rattle.call_causes.specs.Below.call_owing.specs.SettledSeats as settled
use Rattle.call_causes.specs.Below.call_owing.specs.SoundOwing.{id_word_of}
use Rattle.call_causes.specs.Below.owing_ticks.proofs.AllSettled.{not_locked}
use Rattle.call_causes.specs.Below.call_owing.proofs.EndsStill.{view_of}
use Rattle.accept_counts.proofs.EarlyClosedSockets.{start, go, fitting}
use Rattle.accept_counts.proofs.RestsWithoutCalls.{still, aside}
use Rattle.accept_counts.proofs.Takeless.{NoTakes, TakesNone}
use Rattle.sock_words.specs.PackedWords.{id_first, id_slot}

-- a range that has ended isn't sought
not_sought : (sought : Sought) (w : Parts) → w.state ≡ 0 → is_sought sought w ≡ true → ⊥
not_sought (First first) w ended is = true≢false (sym (and_parts (w.first == first) (not (w.state == 0)) is).1 ∙ ap not (eq-eqb w.state 0 ended))
not_sought (Version v) w ended is = true≢false (sym (and_parts (not (w.state == 0)) _ is).0 ∙ ap not (eq-eqb w.state 0 ended))

-- where a seat stands that makes no step
pub data Stands (script : List Item) (c : Core) (program : Program) : Type 0 where
  resting : program ≡ Rest → Stands script c program
  joining : (id : ℕ) (next : ℕ → Program) → program ≡ Round (Joins id) next → id_slot id < (id_plan_of script).slots → is_sought (First (id_first id)) (id_word_of c (id_slot id)) ≡ true → Stands script c program
  opening : (o : ℕ) (next : ℕ → Program) → program ≡ Round (Opens o) next → get_or c.words (open_index (plan_of script) o) 0 ≡ 0 → Stands script c program
  reading : (r : Reading) (next : Exit (Reads r) → Program) → program ≡ Round (Reads r) next → Stands script c program
  discarding : (k total : ℕ) (next : ℕ → Program) → program ≡ Round (Discards k total) next → Stands script c program

module _ (script : List Item) (made : AreMade script) (turns : List Turn) (core : Core) (is : IsRunWithCalls script turns core) where
  -- where the ending begins
  abbrev rested : Core
  rested = played script is.setup (is.scheduled ++ is.later)

  rests : (i : ℕ) → IsAtRest rested i → settled.IsAtRest rested i
  rests i rest seat at = seat_rests rested (rested_ahead script made.are (first_views script) (start script made turns core is) (go script made turns core is) turns core is (fitting script made turns core is)) i rest seat at

  -- each seat is at rest, or waits aside of the sockets
  waits_aside : (i : ℕ) → i < length rested.seats → settled.IsAtRest rested i ⊎ settled.WaitsAside (plan_of script) rested i
  waits_aside i inside = ⊎_elim (λ rest. inl (rests i rest)) (λ w. by w (aside script made turns core is i inside)) (still script made turns core is i inside)
    where
      by : (m : Moment) × (m.seat ≡ i) × IsAlwaysReady m × (waits (plan_of script) rested m ≡ true) → IsAtRest rested i ⊎ StandsAside rested i
          → settled.IsAtRest rested i ⊎ settled.WaitsAside (plan_of script) rested i
      by w (inl rest) = inl (rests i rest)
      by w (inr s) = let waiting : waits_at (plan_of script) rested w.0.answer s.0.program ≡ true =
          sym (ap (λ o. elim o as (λ o. Bool) [ none ↦ false | some seat ↦ waits_at (plan_of script) rested w.0.answer seat.program ]) (ap (get_elem? rested.seats) w.1 ∙ s.1)) ∙ w.3 in
          inr (s.0, s.1, s.2.0, s.2.1, w.0.answer, s.2.2, sym (ap (waits_at (plan_of script) rested w.0.answer) s.2.2) ∙ waiting)

  pub both : BothSound (plan_of script) (id_plan_of script) (played script is.setup (is.scheduled ++ is.later)) (views_played script turns core is (first_views script))
  both = let runs = joint_runs script turns core is made in behind_both (plan_of script) (id_plan_of script) (set_up script is.setup) (views_along (plan_of script) (opened script) (first_views script) (replicate is.setup (quiet 0))) (is.scheduled ++ is.later) runs.clients

  -- no id is locked
  pub unlocked : (i : ℕ) → i < (id_plan_of script).slots → ((id_word_of (played script is.setup (is.scheduled ++ is.later)) i).state ≡ 0) ⊎ ((id_word_of (played script is.setup (is.scheduled ++ is.later)) i).state ≡ 1)
  unlocked = not_locked (plan_of script) (id_plan_of script) rested both.id_views both.ids waits_aside

  by_head : (u : IdView) (seat : SeatState) (head : Head) (next : Exit head → Program) (answer : Answer) → seat.program ≡ Round head next → IdGoesOn (plan_of script) (id_plan_of script) u (Round head next)
      → waits_in (plan_of script) rested.words rested.calls answer head ≡ true → Stands script rested seat.program
  by_head u seat (Joins id) next answer e g waits_ = joining id next e g.0.1 waits_
  by_head u seat (Opens o) next answer e g waits_ = opening o next e (eqb-true (get_or rested.words (open_index (plan_of script) o) 0) 0 waits_)
  by_head u seat (Reads r) next answer e g waits_ = reading r next e
  by_head u seat (Discards k total) next answer e g waits_ = discarding k total next e
  by_head u seat (Locks s sought None) next answer e g waits_ = let w : Parts = id_word_of rested s in absurd (⊎_elim
      (λ ended. not_sought sought (id_word_of rested s) ended (and_parts (is_sought sought (id_word_of rested s)) _ waits_).0)
      (λ open_. true≢false (sym (and_parts (is_sought sought (id_word_of rested s)) _ waits_).1 ∙ ap not (eq-eqb (id_word_of rested s).state 1 open_)))
      (unlocked s g.0.1))
  by_head u seat (Locks s sought (Some word)) next answer e g waits_ = absurd (true≢false (sym waits_))
  by_head u seat _ next answer e g waits_ = absurd (true≢false (sym waits_))

  pub stands : (j : ℕ) (seat : SeatState) → get_elem? (played script is.setup (is.scheduled ++ is.later)).seats j ≡ some seat → Stands script (played script is.setup (is.scheduled ++ is.later)) seat.program
  stands j seat at = ⊎_elim (λ rest. resting (rest seat at)) by_wait (waits_aside j (at_length rested.seats j seat at))
    where
      by_wait : settled.WaitsAside (plan_of script) rested j → Stands script rested seat.program
      by_wait w = let same : w.0 ≡ seat = some-injective w.0 seat (sym w.1 ∙ at) in let e = ap (λ (s : SeatState). s.program) (sym same) ∙ w.5 in
          let u = view_of rested.seats both.id_views j seat at both.ids.each in by_head u.0 seat w.2 w.3 w.4 e (subst (IdGoesOn (plan_of script) (id_plan_of script) u.0) e (both.ids.seats j seat u.0 at u.1)) w.6

  -- a client is at rest that waits for the end of no range but where J is so, and then no id is open
  module _ (J : Type 0) (over : J → (i : ℕ) → i < (id_plan_of script).slots → (id_word_of (played script is.setup (is.scheduled ++ is.later)) i).state ≡ 0) where
    waits_none : (program : Program) → NoTakes J program → Stands script rested program → program ≡ Rest
    waits_none program none_ (resting e) = e
    waits_none program none_ (joining id next e inside waits_) = let n : NoTakes J (Round (Joins id) next) = subst (NoTakes J) e none_ in absurd (not_sought (First (id_first id)) (id_word_of rested (id_slot id)) (over n.0 (id_slot id) inside) waits_)
    waits_none program none_ (opening o next e z) = absurd (let n : NoTakes J (Round (Opens o) next) = subst (NoTakes J) e none_ in n)
    waits_none program none_ (reading r next e) = absurd (let n : NoTakes J (Round (Reads r) next) = subst (NoTakes J) e none_ in n)
    waits_none program none_ (discarding k total next e) = absurd (let n : NoTakes J (Round (Discards k total) next) = subst (NoTakes J) e none_ in n)

    pub takeless_rests : (j : ℕ) → TakesNone J j (played script is.setup (is.scheduled ++ is.later)) → settled.IsAtRest (played script is.setup (is.scheduled ++ is.later)) j
    takeless_rests j none_ seat at = waits_none seat.program (none_ seat at) (stands j seat at)
