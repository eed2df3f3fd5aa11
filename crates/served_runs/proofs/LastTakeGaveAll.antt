-- Behind the take that found the end of a link, the link gave all that belongs to what it took, whatever it takes later.
use Rattle.std.proofs.Common.{◌≡◌, ◌≢◌, ℕ, ◌+◌, ◌<◌, ◌==◌, ◌||◌, Bool, true, false, cond, eq-eqb, List, [], ◌∷◌, ◌++◌, length, map, filter, append-nil, append_assoc, ◌⊎◌, inl, inr, ⊎_elim, refl, sym, ap, ◌∙◌, subst, arith}
use Rattle.std.proofs.lemmas.Bool.{true≢false}
use Rattle.std.specs.Prelude.{slice_get, Some}
use mathlib.Core.Logic.{dite}
use mathlib.Core.Option.{Option, none, some, some-injective, some-ne-none}
use native.Mathlib.Decide.{ℕ_discrete}
use lib.ListN.{get_elem?}
use Rattle.sock_model.specs.declared.view.View.{View}
use Rattle.brpc_model.specs.Items.{Item, Shape}
use Rattle.brpc_model.specs.Operations.{link_shapes}
use Rattle.seat_programs.specs.Asides.{TakeBytes, Taking, AtEnd}
use Rattle.seat_programs.specs.FoundAndChangedAside.{at_last}
use Rattle.seat_programs.specs.Programs.{Aside}
use Rattle.seat_programs.specs.Cores.{Core, SeatState}
use Rattle.seat_programs.specs.Tasks.{opens, calls, plan_of}
use Rattle.seat_programs.specs.Ticks.{Answer, OfTake, Moment, IsAnswered, AreAnswered, IsTaken, tick_with, ticked, run}
use Rattle.calm_runs.specs.send_causes.specs.Below.programs_allowed.specs.program_steps.specs.SoundSeats.{Sound, IsFitting, AreFitting, views_after}
use Rattle.calm_runs.specs.send_causes.specs.Below.programs_allowed.specs.sock_runs.proofs.LinkTicks.{RetriesGo}
use Rattle.calm_runs.specs.send_causes.specs.Below.programs_allowed.specs.program_walks.proofs.OpensStay.{run_word}
use Rattle.calm_runs.specs.send_causes.specs.Below.programs_allowed.specs.program_walks.proofs.Recorded.{Recorded, recorded_ticks}
use Rattle.calm_runs.specs.send_causes.specs.Below.programs_allowed.specs.sock_runs.proofs.TicksKeepSeatsSound.{sound_ticks}
use Rattle.calm_runs.specs.send_causes.specs.Below.outcome_stories.specs.OperationStories.{In}
use Rattle.calm_runs.specs.send_causes.specs.Below.outcome_causes.proofs.PlainOutcomeCauses.{in_both}
use Rattle.calm_runs.specs.send_causes.specs.Below.run_theorems.specs.Heard.{as_taken, taken_link, taken_at, taken_in, bytes_found}
use Rattle.calm_runs.specs.send_causes.specs.Below.run_theorems.proofs.HeardRuns.{taken_append}
use Rattle.calm_runs.specs.send_causes.specs.Below.run_theorems.proofs.RunLengths.{tick_long}
use Rattle.calm_runs.specs.send_causes.specs.Below.call_stories.specs.LinkReadingLists.{gave_in}
use Rattle.calm_runs.specs.send_causes.specs.Below.accept_counts.proofs.EarlyClosedSockets.{Any, ends_anyhow}
use Rattle.calm_runs.specs.send_causes.specs.Below.ended_calls.proofs.EndedTicks.{seats_else}
use Rattle.calm_runs.specs.send_causes.specs.Below.accept_counts.proofs.ReaderRuns.{keeps_ticks}
use Rattle.calm_runs.specs.send_causes.specs.Below.accept_counts.proofs.ReadingsAtTicks.{IsTake, takes_or_not, found_by}
use Rattle.served_runs.specs.OfferedReplies.{offered_by, GaveLast, IsOfferedSo, OffersAt, IsOffered, AreOffered}
use Rattle.served_runs.proofs.LinkPlacesAtTicks.{all_lay}
use Rattle.served_runs.proofs.ReadingsOver.{is_last}
use Rattle.served_runs.proofs.RunsKeepReaderPlace.{Kept, others_none}
use Rattle.served_runs.proofs.TicksKeepReaderPlace.{gave_same, gave_more, Word, HasReader, reader_word, reader_goes, reader_takes}

last_found : (b : Bool) → at_last b AtEnd ≡ AtEnd
last_found true = refl
last_found false = refl

or_true : (b : Bool) → (b || true) ≡ true
or_true true = refl
or_true false = refl

module _ (script : List Item) (k o : ℕ) (shape : Shape) where
  abbrev Reader : Bool → Core → Type 0
  Reader last c = HasReader (plan_of script) (calls script) k o (gave_in c k) last (Word (plan_of script) (calls script) k o c) c

  -- the link's reader, and whether a take found that its reading is over
  abbrev pub Reads : Core → Type 0
  Reads c = (last : Bool) × HasReader (plan_of script) (calls script) k o (gave_in c k) last (Word (plan_of script) (calls script) k o c) c

  -- it is over, behind the link's end
  abbrev pub Behind : Core → Type 0
  Behind c = HasReader (plan_of script) (calls script) k o (gave_in c k) true (Word (plan_of script) (calls script) k o c) c × GaveLast (plan_of script) shape c k

  -- ## A tick

  module _ (retries : RetriesGo (plan_of script)) (shape_is : slice_get (link_shapes script) k ≡ Some shape) (c : Core) (vs : List View) (m : Moment) (sound : Sound (plan_of script) c vs) (answered : IsAnswered c m) (fitting : IsFitting (plan_of script) c m)
      (offered : IsOffered script c m) (stays : Word (plan_of script) (calls script) k o c ≢ 0 → Word (plan_of script) (calls script) k o (ticked (plan_of script) c m) ≡ Word (plan_of script) (calls script) k o c) (low : k < length c.calls.gave)
      (others : (seat : SeatState) → get_elem? c.seats m.seat ≡ some seat → m.seat ≢ 32 + k → filter (λ j. j == k) (taken_link seat.program) ≡ []) where
    abbrev next : Core
    next = ticked (plan_of script) c m

    last_on : gave_in next k ≡ gave_in c k → GaveLast (plan_of script) shape c k → GaveLast (plan_of script) shape next k
    last_on same gave took more t = let l = all_lay (plan_of script) k retries c vs m sound answered fitting took t.0 t.1 t.2 in
        same ∙ (gave l.took (l.more ++ more) (l.next, l.done, l.lies) ∙ ap (offered_by shape) (sym (append_assoc l.took l.more more) ∙ ap (λ x. x ++ more) (sym l.took_is)))

    kept : (g : List ℕ) (last : Bool) → gave_in next k ≡ g → HasReader (plan_of script) (calls script) k o g last (Word (plan_of script) (calls script) k o c) next → Reader last next
    kept g last same reader = subst (λ g. HasReader (plan_of script) (calls script) k o g last (Word (plan_of script) (calls script) k o next) next) (sym same)
        (reader_word (plan_of script) (calls script) k o g last (Word (plan_of script) (calls script) k o c) (Word (plan_of script) (calls script) k o next) next stays reader)

    -- where none of its bytes are taken
    record Quiet (last : Bool) : Type 0 where
      same : gave_in next k ≡ gave_in c k
      reader : Reader last next

    -- by a take of its reader
    record Taken (last : Bool) : Type 0 where
      seat : SeatState
      at : get_elem? c.seats m.seat ≡ some seat
      take : IsTake seat.program
      told : IsTaken take.room m.answer
      link : taken_link seat.program ≡ k ∷ []
      time : last ≡ false
      gave : gave_in next k ≡ gave_in c k ++ bytes_found (at_last c.calls.ending told.0)
      reader : Reader (last || is_last (at_last c.calls.ending told.0)) next

    by_tick : (last : Bool) → Reader last c → (((seat : SeatState) → get_elem? c.seats m.seat ≡ some seat → filter (λ j. j == k) (taken_link seat.program) ≡ []) × Quiet last) ⊎ Taken last
    by_tick last r = dite (ℕ_discrete m.seat (32 + k)) (λ own. near own (get_elem? c.seats m.seat) refl)
        (λ far. inl ((λ seat at. others seat at far), record { same = gave_same (plan_of script) k c m (λ seat at. others seat at far); reader = kept (gave_in c k) last (gave_same (plan_of script) k c m (λ seat at. others seat at far)) (λ seat at. r seat (sym (seats_else (plan_of script) c m (32 + k) (λ e. far (sym e))) ∙ at)) }))
      where
        nobody : get_elem? c.seats m.seat ≡ none → ticked (plan_of script) c m ≡ c
        nobody e = ap (λ (x : Option SeatState). elim x as (λ o. Core) [ none ↦ c | some seat ↦ tick_with (plan_of script) m.seat seat c m.answer seat.program ]) e

        by_take : (own : m.seat ≡ 32 + k) (seat : SeatState) (at : get_elem? c.seats m.seat ≡ some seat) → (taken_link seat.program ≡ []) ⊎ IsTake seat.program
            → (((seat : SeatState) → get_elem? c.seats m.seat ≡ some seat → filter (λ j. j == k) (taken_link seat.program) ≡ []) × Quiet last) ⊎ Taken last
        by_take own seat at (inl none_) = let each : (s : SeatState) → get_elem? c.seats m.seat ≡ some s → filter (λ j. j == k) (taken_link s.program) ≡ [] = λ s at_s. subst (λ (x : SeatState). filter (λ j. j == k) (taken_link x.program) ≡ []) (some-injective seat s (sym at ∙ at_s)) (ap (filter (λ j. j == k)) none_) in
            inl (each, record { same = gave_same (plan_of script) k c m each; reader = kept (gave_in c k) last (gave_same (plan_of script) k c m each) (reader_goes (plan_of script) (calls script) k o c m own seat at (gave_in c k) last r none_) })
        by_take own seat at (inr t) = let told = t.answers m.answer (answered seat at) in let x = reader_takes (plan_of script) (calls script) k o c m own seat at (gave_in c k) last r t told.0 told.1 in
            let gave = ap (λ d. gave_in d k) x.after ∙ gave_more (plan_of script) k c m seat x.next (at_last c.calls.ending told.0) low in
            inr record { seat = seat; at = at; take = t; told = told; link = x.link; time = x.time; gave = gave; reader = kept (gave_in c k ++ bytes_found (at_last c.calls.ending told.0)) (last || is_last (at_last c.calls.ending told.0)) gave x.reader }

        near : m.seat ≡ 32 + k → (x : Option SeatState) → get_elem? c.seats m.seat ≡ x → (((seat : SeatState) → get_elem? c.seats m.seat ≡ some seat → filter (λ j. j == k) (taken_link seat.program) ≡ []) × Quiet last) ⊎ Taken last
        near own none e = let each : (s : SeatState) → get_elem? c.seats m.seat ≡ some s → filter (λ j. j == k) (taken_link s.program) ≡ [] = λ s at_s. absurd (some-ne-none s (sym at_s ∙ e)) in
            inl (each, record { same = gave_same (plan_of script) k c m each; reader = kept (gave_in c k) last (gave_same (plan_of script) k c m each) (λ seat at. r seat (sym (ap (λ (d : Core). get_elem? d.seats (32 + k)) (nobody e)) ∙ at)) })
        near own (some seat) e = by_take own seat e (takes_or_not seat.program)

    reads_tick : Reads c → Reads next
    reads_tick (last, r) = ⊎_elim (λ q. (last, (let x = q.1 in x.reader))) (λ t. (last || is_last (at_last c.calls.ending t.told.0), t.reader)) (by_tick last r)

    behind_tick : Behind c → Behind next
    behind_tick (r, gave) = ⊎_elim (λ q. let x = q.1 in (x.reader, last_on x.same gave)) (λ t. absurd (true≢false t.time)) (by_tick true r)

    -- the take that finds the end
    end_tick : In AtEnd (as_taken (taken_at c m k)) → Reads c → Behind next
    end_tick there (last, r) = ⊎_elim (λ q. absurd (none_there q.0)) (λ t. found t) (by_tick last r)
      where
        none_there : ((seat : SeatState) → get_elem? c.seats m.seat ≡ some seat → filter (λ j. j == k) (taken_link seat.program) ≡ []) → ⊥
        none_there each = by (get_elem? c.seats m.seat) refl there
          where
            by : (x : Option SeatState) → get_elem? c.seats m.seat ≡ x → In AtEnd (as_taken (elim x as (λ o. List Answer) [ none ↦ [] | some s ↦ map (λ (j : ℕ). m.answer) (filter (λ j. j == k) (taken_link s.program)) ])) → ⊥
            by none e z = z
            by (some seat) e z = subst (λ l. In AtEnd (as_taken (map (λ (j : ℕ). m.answer) l))) (each seat e) z

        found : Taken last → Behind next
        found t = (
          subst (λ b. Reader b next) (ap (λ a. last || is_last (at_last c.calls.ending a)) is_end ∙ (ap (λ a. last || is_last a) (last_found c.calls.ending) ∙ or_true last)) t.reader,
          last_on (t.gave ∙ (ap (λ a. gave_in c k ++ bytes_found (at_last c.calls.ending a)) is_end ∙ (ap (λ a. gave_in c k ++ bytes_found a) (last_found c.calls.ending) ∙ append-nil (gave_in c k)))) (subst (IsOfferedSo (plan_of script) shape c k) is_end offers),
        )
          where
            shown : In AtEnd (as_taken (m.answer ∷ []))
            shown = subst (λ b. In AtEnd (as_taken (map (λ (j : ℕ). m.answer) (cond b (k ∷ []) [])))) (eq-eqb k k refl) (subst (λ l. In AtEnd (as_taken (map (λ (j : ℕ). m.answer) (filter (λ j. j == k) l)))) t.link
                (subst (λ (x : Option SeatState). In AtEnd (as_taken (elim x as (λ o. List Answer) [ none ↦ [] | some s ↦ map (λ (j : ℕ). m.answer) (filter (λ j. j == k) (taken_link s.program)) ]))) t.at there))

            is_end : t.told.0 ≡ AtEnd
            is_end = one t.told.0 (subst (λ (x : Answer). In AtEnd (as_taken (x ∷ []))) t.told.1 shown)
              where
                one : (a : Taking) → In AtEnd (as_taken (OfTake a ∷ [])) → a ≡ AtEnd
                one a (inl e) = sym e
                one a (inr z) = absurd z

            own_link : t.take.link ≡ k
            own_link = let z : t.take.link ∷ [] ≡ k ∷ [] = sym t.take.takes ∙ t.link in cc

            offers : IsOfferedSo (plan_of script) shape c k t.told.0
            offers = (subst (λ l. OffersAt script c m.answer (Aside (TakeBytes l t.take.room) t.take.next)) own_link (subst (OffersAt script c m.answer) t.take.first (offered t.seat t.at))) shape t.told.0 shape_is t.told.1

  -- ## Ticks one after another

  module _ (in_os : (n l : ℕ) → get_elem? (opens script) n ≡ some l → l < (plan_of script).operations) (Q : ℕ → ℕ → Type 0) (go : RetriesGo (plan_of script)) (inside : o < (plan_of script).operations) (shape_is : slice_get (link_shapes script) k ≡ Some shape) where
    pub lasts_along : (ms : List Moment) (c : Core) (vs : List View) (h : ℕ → List Taking) → Sound (plan_of script) c vs → AreAnswered (plan_of script) c ms → AreFitting (plan_of script) c ms → Recorded (plan_of script) Q c vs → Kept script in_os c vs h → AreOffered script c ms
        → k < length c.calls.gave → Reads c → Reads (run (plan_of script) c ms) × (Behind c ⊎ In AtEnd (as_taken (taken_in (plan_of script) c ms k)) → Behind (run (plan_of script) c ms))
    lasts_along [] c vs h sound answered fitting recorded keeps offered low r = (r, λ x. ⊎_elim (λ b. b) (λ z. absurd z) x)
    lasts_along (m ∷ ms) c vs h sound answered fitting recorded keeps offered low r =
        let stays : Word (plan_of script) (calls script) k o c ≢ 0 → Word (plan_of script) (calls script) k o (ticked (plan_of script) c m) ≡ Word (plan_of script) (calls script) k o c = (λ some_. run_word (plan_of script) Q o inside go c vs (m ∷ []) sound (answered.0, tt) (fitting.0, tt) recorded some_) in
        let others : (seat : SeatState) → get_elem? c.seats m.seat ≡ some seat → m.seat ≢ 32 + k → filter (λ j. j == k) (taken_link seat.program) ≡ [] = (λ seat at far. others_none script in_os c vs h sound keeps m.seat seat at k far) in
        let rest = lasts_along ms (ticked (plan_of script) c m) (views_after (plan_of script) c vs m) (λ n. h n ++ found_by c m n) (sound_ticks (plan_of script) go c vs m sound answered.0 fitting.0) answered.1 fitting.1 (recorded_ticks (plan_of script) Q c vs m sound answered.0 fitting.0 recorded)
        (keeps_ticks (plan_of script) (calls script) (opens script) in_os Any (Unit {0}) ends_anyhow Q go c vs m h sound answered.0 fitting.0 recorded (λ e. tt) keeps) offered.1 (let long = (tick_long (plan_of script) m c).gave in omega (arith, long, low))
        (reads_tick go shape_is c vs m sound answered.0 fitting.0 offered.0 stays low others r) in (
          rest.0,
          λ x. ⊎_elim (λ b. rest.1 (inl (behind_tick go shape_is c vs m sound answered.0 fitting.0 offered.0 stays low others b)))
              (λ there. ⊎_elim (λ now. rest.1 (inl (end_tick go shape_is c vs m sound answered.0 fitting.0 offered.0 stays low others now r))) (λ later. rest.1 (inr later))
              (in_both (as_taken (taken_at c m k)) (as_taken (taken_in (plan_of script) (ticked (plan_of script) c m) ms k)) AtEnd (subst (In AtEnd) (taken_append (taken_at c m k) (taken_in (plan_of script) (ticked (plan_of script) c m) ms k)) there))) x,
        )
