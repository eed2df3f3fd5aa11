-- A tick of a calm seat leaves it calm, and says only outcomes of calls. Where all seats are calm no link gets a socket, and no call is put home.
use Rattle.std.proofs.Common.{◌≡◌, ◌≢◌, ℕ, ◌+◌, ◌==◌, ◌⊎◌, inl, inr, ⊎_elim, Bool, true, cond, List, [], ◌∷◌, refl, sym, ap, ◌∙◌, subst}
use Rattle.std.specs.Prelude as std
use Rattle.std.specs.Prelude.{slice_get, slice_set}
use mathlib.Core.Logic.{dite}
use mathlib.Core.Option.{Option, some, none}
use native.Mathlib.Decide.{ℕ_discrete}
use lib.ListN.{get_elem?}
use Rattle.atomic_table.proofs.Lists.{at_set}
use Rattle.sock_words.specs.declared.plain.Plan.{Plan}
use Rattle.sock_words.specs.declared.outcome.Outcome.{Outcome}
use Rattle.sock_model.specs.declared.home.Home.{Home}
use Rattle.sock_steps.proofs.SumsAsMarksChange.{either_way}
use Rattle.corr_core.specs.IdSlotWord.{parts, posted_word, code_of}
use Rattle.sock_message.specs.Asked.{Asked}
use Rattle.seat_programs.specs.Asides.{Step, Found, PutCall, TakeCall, Taking}
use Rattle.seat_programs.specs.FoundAndChangedAside.{call_at, found_in}
use Rattle.seat_programs.specs.TableSteps.{TableStep, OnSlot, CreateLife}
use Rattle.seat_programs.specs.Cores.{Calls, Core, SeatState, resolved, said, next_step}
use Rattle.seat_programs.specs.SlotFreedByDrop.{call_in}
use Rattle.seat_programs.specs.LoopHeads.{Retry, Posts, Unlocks, Decides, Locks, Opens, Reads, Discards, HasEnded, Has}
use Rattle.seat_programs.specs.PostPrograms.{packed, end_id, unlocked}
use Rattle.seat_programs.specs.Programs.{Program, Do, Say, Rest, Aside, Round}
use Rattle.seat_programs.specs.Ticks.{Answer, Moment, taken, ticked, step_with, tick_with, with_found}
use Rattle.send_causes.specs.Below.programs_allowed.specs.program_steps.proofs.TickCases.{ticks_first}
use Rattle.send_causes.specs.Below.outcome_stories.specs.Facts.{born_at, born_of, put_at, put_by}
use Rattle.send_causes.specs.Below.story_ticks.proofs.SayingKeepsStory.{got_other}
use Rattle.send_causes.specs.Below.accept_counts.proofs.SeatTicks.{own_tick, tick_none, tick_some}
use Rattle.calm_runs.specs.CalmPrograms.{IsCalm}
use Rattle.calm_runs.proofs.CalmReaderPrograms.{calm_end_id, calm_posts, calm_locking, calm_took, calm_discarded}
use Rattle.seat_programs.specs.LoopRounds.{first_step}
use Rattle.sock_words.specs.PackedWords.{id_slot}

shows_none : (f : SeatState → List ℕ) (c : Core) (i : ℕ) → ((seat : SeatState) → get_elem? c.seats i ≡ some seat → f seat ≡ []) → elim (get_elem? c.seats i) as (λ o. List ℕ) [ none ↦ [] | some seat ↦ f seat ] ≡ []
shows_none f c i h = by (get_elem? c.seats i) refl
  where
    by : (o : Option SeatState) → get_elem? c.seats i ≡ o → elim o as (λ o. List ℕ) [ none ↦ [] | some seat ↦ f seat ] ≡ []
    by none e = refl
    by (some seat) e = h seat e

module _ (S : ℕ → Type 0) where
  abbrev C : Program → Type 0
  C = IsCalm S

  -- ## Steps of a calm program

  calm_first : (program : Program) → C program → C (first_step program)
  calm_first (Do call next) x = x
  calm_first (Say o outcome next) x = x
  calm_first (Aside step next) x = x
  calm_first Rest x = x
  calm_first (Round (Posts id e w) next) x = calm_posts S id e w next x
  calm_first (Round (Decides id asked w e) next) x = subst
      (λ b. C (cond b (end_id (id_slot id) (next (HasEnded asked.operation (code_of e)))) (Aside (PutCall (id_slot id) asked)
      (λ _. Round (Unlocks (id_slot id) w true) (unlocked (record { id = id; attempt = (parts w).attempt + 1 }) next)))))
      (sym x.0) (calm_end_id S (id_slot id) (next (HasEnded asked.operation (code_of e))) (x.2 (code_of e)))
  calm_first (Round (Locks i sought std.None) next) x = λ found. calm_locking S i sought found next x
  calm_first (Round (Locks i sought (std.Some from)) next) x = λ found. either_way (found == from) _ _ C (x (Has (packed (posted_word (parts from) 0)))) (calm_locking S i sought found next x)
  calm_first (Round (Opens o) next) x = λ word. either_way (word == 0) _ _ C x (x word)
  calm_first (Round (Reads r) next) x = λ t. calm_took S r next x t
  calm_first (Round (Discards k total) next) x = λ t. calm_discarded S k total next x t
  calm_first _ x = absurd x

  -- it stays calm behind what it says
  pub calm_next : (ws : List Retry) (program : Program) → C program → C (next_step (resolved ws program))
  calm_next ws (Say o outcome next) x = calm_next ws next x.1
  calm_next ws (Do call next) x = x
  calm_next ws (Aside step next) x = x
  calm_next ws (Round head next) x = x
  calm_next ws Rest x = x
  calm_next ws _ x = absurd x

  -- which is of calls alone
  pub unsaid : (n : ℕ) → (S n → ⊥) → (ws : List Retry) (program : Program) → C program → (os : List (std.Option Outcome)) → slice_get (said (resolved ws program) os) n ≡ slice_get os n
  unsaid n none_ ws (Say o outcome next) x os = unsaid n none_ ws next x.1 (slice_set os o (std.Some outcome)) ∙ got_other os o n (std.Some outcome) (λ e. none_ (subst S e x.0))
  unsaid n none_ ws (Do call next) x os = refl
  unsaid n none_ ws (Aside step next) x os = refl
  unsaid n none_ ws (Round head next) x os = refl
  unsaid n none_ ws Rest x os = refl
  unsaid n none_ ws _ x os = absurd x

  calm_found : (call : TableStep) (next : ℕ → Program) → C (Do call next) → (found : ℕ) → C (next found)
  calm_found (OnSlot (CreateLife i k)) next x = absurd x
  calm_found call next x = x

  -- the calls at home are these
  abbrev pub AreCalls : Calls → Type 0
  AreCalls a = (k : ℕ) (asked : Asked) → call_at (get_elem? a.homes k) ≡ some asked → S asked.operation

  calm_aside : (step : Step) (next : Found step → Program) → C (Aside step next) → (a : Calls) (t : Option Taking) → AreCalls a → (found : Found step) → found_in step a t ≡ some found → C (next found)
  calm_aside (PutCall i asked) next x a t are found at = absurd x
  calm_aside (TakeCall i) next x a t are found at = x found (are i found at)
  calm_aside step next x a t are found at = x found

  no_birth : (program : Program) → C program → born_of (call_in program) ≡ []
  no_birth (Do call next) x = none_born call next x
    where
      none_born : (call : TableStep) (next : ℕ → Program) → C (Do call next) → born_of (std.Some call) ≡ []
      none_born (OnSlot (CreateLife i k)) next x = absurd x
      none_born _ next x = refl
  no_birth (Say o outcome next) x = refl
  no_birth (Aside step next) x = refl
  no_birth (Round head next) x = refl
  no_birth Rest x = refl
  no_birth _ x = absurd x

  none_put : (program : Program) → C program → put_by program ≡ []
  none_put (Aside (PutCall i asked) next) x = absurd x
  none_put (Round (Decides id asked w e) next) x = ap (λ (b : Bool). cond b [] (asked.operation ∷ [])) x.0
  none_put _ x = refl

  -- ## Ticks of a calm seat

  module _ (p : Plan) (i : ℕ) (seat : SeatState) (c : Core) (are : AreCalls c.calls) where
    record Quietly (d : Core) : Type 0 where
      outcomes : (n : ℕ) → (S n → ⊥) → slice_get d.outcomes n ≡ slice_get c.outcomes n
      seats : (d.seats ≡ c.seats) ⊎ ((s : SeatState) × (d.seats ≡ slice_set c.seats i s) × C s.program)

    quiet_found : (step : Step) (o : Option (Found step)) (next : Found step → Program) → ((found : Found step) → o ≡ some found → C (next found)) → Quietly (with_found p i seat c step o next)
    quiet_found step none next x = record { outcomes = λ n none_. refl; seats = inl refl }
    quiet_found step (some found) next x = record { outcomes = λ n none_. unsaid n none_ _ (next found) (x found refl) c.outcomes; seats = inr (_, refl, calm_next _ (next found) (x found refl)) }

    quiet_step : (answer : Answer) (program : Program) → C program → Quietly (step_with p i seat c answer program)
    quiet_step answer (Do call next) x = let on = calm_found call next x in record { outcomes = λ n none_. unsaid n none_ _ (next _) (on _) c.outcomes; seats = inr (_, refl, calm_next _ (next _) (on _)) }
    quiet_step answer (Aside step next) x = quiet_found step (found_in step c.calls (taken answer)) next (calm_aside step next x c.calls (taken answer) are)
    quiet_step answer Rest x = record { outcomes = λ n none_. refl; seats = inl refl }
    quiet_step answer (Say o outcome next) x = record { outcomes = λ n none_. refl; seats = inl refl }
    quiet_step answer (Round head next) x = record { outcomes = λ n none_. refl; seats = inl refl }
    quiet_step answer _ x = absurd x

    quiet_tick : (answer : Answer) → C seat.program → Quietly (tick_with p i seat c answer seat.program)
    quiet_tick answer x = subst Quietly (sym (ticks_first p i seat c answer seat.program)) (quiet_step answer (first_step seat.program) (calm_first seat.program x))

  -- ## Ticks

  abbrev pub CalmAt : ℕ → Core → Type 0
  CalmAt j c = (s : SeatState) → get_elem? c.seats j ≡ some s → C s.program

  at_same : (j : ℕ) (c d : Core) → d.seats ≡ c.seats → CalmAt j c → CalmAt j d
  at_same j c d e x s at = x s (ap (λ (l : List SeatState). get_elem? l j) (sym e) ∙ at)

  calm_own : (p : Plan) (c : Core) (m : Moment) (j : ℕ) → AreCalls c.calls → CalmAt j c → (seat : SeatState) → get_elem? c.seats m.seat ≡ some seat → j ≡ m.seat → CalmAt j (tick_with p m.seat seat c m.answer seat.program)
  calm_own p c m j are x seat e same = let q = quiet_tick p m.seat seat c are m.answer (x seat (ap (get_elem? c.seats) same ∙ e)) in ⊎_elim
      (λ f. at_same j c (tick_with p m.seat seat c m.answer seat.program) f x)
      (λ f s at. ⊎_elim (λ a. subst (λ (y : SeatState). C y.program) a.1 f.2) (λ b. x s b.1) (at_set c.seats m.seat j f.0 s (ap (λ (l : List SeatState). get_elem? l j) (sym f.1) ∙ at)))
      q.seats

  calm_other : (p : Plan) (c : Core) (m : Moment) (j : ℕ) → CalmAt j c → (seat : SeatState) → j ≢ m.seat → CalmAt j (tick_with p m.seat seat c m.answer seat.program)
  calm_other p c m j x seat differ = ⊎_elim
      (λ f. at_same j c (tick_with p m.seat seat c m.answer seat.program) f x)
      (λ f s at. ⊎_elim (λ a. absurd (differ a.0)) (λ b. x s b.1) (at_set c.seats m.seat j f.0 s (ap (λ (l : List SeatState). get_elem? l j) (sym f.1) ∙ at)))
      (own_tick p m.seat seat c m.answer)

  pub calm_tick : (p : Plan) (c : Core) (m : Moment) (j : ℕ) → AreCalls c.calls → CalmAt j c → CalmAt j (ticked p c m)
  calm_tick p c m j are x = by (get_elem? c.seats m.seat) refl
    where
      by : (o : Option SeatState) → get_elem? c.seats m.seat ≡ o → CalmAt j (ticked p c m)
      by none e = subst (CalmAt j) (sym (tick_none p c m e)) x
      by (some seat) e = subst (CalmAt j) (sym (tick_some p c m seat e)) (dite (ℕ_discrete j m.seat) (λ same. calm_own p c m j are x seat e same) (λ differ. calm_other p c m j x seat differ))

  -- whatever calls are at home, a tick of another seat leaves it as it is
  pub calm_beside : (p : Plan) (c : Core) (m : Moment) (j : ℕ) → j ≢ m.seat → CalmAt j c → CalmAt j (ticked p c m)
  calm_beside p c m j differ x = by (get_elem? c.seats m.seat) refl
    where
      by : (o : Option SeatState) → get_elem? c.seats m.seat ≡ o → CalmAt j (ticked p c m)
      by none e = subst (CalmAt j) (sym (tick_none p c m e)) x
      by (some seat) e = subst (CalmAt j) (sym (tick_some p c m seat e)) (calm_other p c m j x seat differ)

  -- ## Where all seats are calm

  abbrev pub AllCalm : Core → Type 0
  AllCalm c = (j : ℕ) → CalmAt j c

  pub quiet_outcomes : (p : Plan) (c : Core) (m : Moment) → AreCalls c.calls → AllCalm c → (n : ℕ) → (S n → ⊥) → slice_get (ticked p c m).outcomes n ≡ slice_get c.outcomes n
  quiet_outcomes p c m are x n none_ = by (get_elem? c.seats m.seat) refl
    where
      by : (o : Option SeatState) → get_elem? c.seats m.seat ≡ o → slice_get (ticked p c m).outcomes n ≡ slice_get c.outcomes n
      by none e = ap (λ (d : Core). slice_get d.outcomes n) (tick_none p c m e)
      by (some seat) e = ap (λ (d : Core). slice_get d.outcomes n) (tick_some p c m seat e) ∙ (quiet_tick p m.seat seat c are m.answer (x m.seat seat e)).outcomes n none_

  pub none_born : (c : Core) (m : Moment) → AllCalm c → born_at c m ≡ []
  none_born c m x = shows_none (λ (s : SeatState). born_of (call_in s.program)) c m.seat (λ seat e. no_birth seat.program (x m.seat seat e))

  pub no_put : (c : Core) (m : Moment) → AllCalm c → put_at c m ≡ []
  no_put c m x = shows_none (λ (s : SeatState). put_by s.program) c m.seat (λ seat e. none_put seat.program (x m.seat seat e))

  -- a seat that goes on with a calm program
  pub calm_set : (c : Core) (i : ℕ) (ws : List Retry) (program : Program) (hand : List Home) (d : Core) → C program
      → d.seats ≡ slice_set c.seats i (record { program = next_step (resolved ws program); hand = hand }) → (j : ℕ) → (j ≢ i → CalmAt j c) → CalmAt j d
  calm_set c i ws program hand d x e j others s at = ⊎_elim
      (λ a. subst (λ (y : SeatState). C y.program) a.1 (calm_next ws program x)) (λ b. others b.0 s b.1)
      (at_set c.seats i j (record { program = next_step (resolved ws program); hand = hand }) s (ap (λ (l : List SeatState). get_elem? l j) (sym e) ∙ at))
