-- Where the reading of a link is over, the link gave all that belongs to what it took; each tick keeps that.
use Rattle.std.proofs.Common.{◌≡◌, ◌≢◌, ℕ, ◌+◌, ◌<◌, ◌==◌, eq-eqb, ◌||◌, Bool, true, false, cond, List, [], ◌∷◌, ◌++◌, length, map, filter, append-nil, append_assoc, ◌⊎◌, inl, inr, ⊎_elim, refl, sym, ap, ◌∙◌, subst}
use Rattle.std.proofs.lemmas.Bool.{true≢false}
use Rattle.std.specs.Prelude.{slice_get, Some}
use mathlib.Core.Logic.{dite}
use mathlib.Core.Option.{Option, none, some, some-injective, some-ne-none}
use native.Mathlib.Decide.{ℕ_discrete}
use lib.ListN.{get_elem?}
use Rattle.sock_model.specs.declared.view.View.{View}
use Rattle.brpc_model.specs.Items.{Item, Shape}
use Rattle.brpc_model.specs.Operations.{link_shapes}
use Rattle.seat_programs.specs.Asides.{TakeBytes, Taking, Bytes, Nothing, NoMore, AtEnd, Closed, Broken}
use Rattle.seat_programs.specs.FoundAndChangedAside.{at_last}
use Rattle.seat_programs.specs.Programs.{Aside}
use Rattle.seat_programs.specs.Cores.{Core, SeatState}
use Rattle.seat_programs.specs.Tasks.{calls, plan_of}
use Rattle.seat_programs.specs.Ticks.{Answer, OfTake, Moment, IsAnswered, FitsTake, IsTaken, tick_with, ticked}
use Rattle.calm_runs.specs.send_causes.specs.Below.programs_allowed.specs.program_steps.specs.SoundSeats.{Sound, IsFitting}
use Rattle.calm_runs.specs.send_causes.specs.Below.programs_allowed.specs.sock_runs.proofs.LinkTicks.{RetriesGo}
use Rattle.calm_runs.specs.send_causes.specs.Below.outcome_stories.specs.OperationStories.{In}
use Rattle.calm_runs.specs.send_causes.specs.Below.call_owing.proofs.EndsStill.{run_ending}
use Rattle.calm_runs.specs.send_causes.specs.Below.run_theorems.specs.Heard.{as_taken, taken_link, taken_at, bytes_found}
use Rattle.calm_runs.specs.send_causes.specs.Below.call_stories.specs.LinkReadingLists.{gave_in}
use Rattle.calm_runs.specs.send_causes.specs.Below.ended_calls.proofs.EndedTicks.{seats_else}
use Rattle.calm_runs.specs.send_causes.specs.Below.accept_counts.proofs.ReadingsAtTicks.{IsTake, takes_or_not}
use Rattle.served_runs.specs.OfferedReplies.{IsDone, offered_by, GaveAll, GaveLast, IsOfferedSo, OffersAt, IsOffered}
use Rattle.served_runs.proofs.LinkPlacesAtTicks.{IsPut, AllLay, all_lay, done_quiet, done_on}
use Rattle.served_runs.proofs.ReadingsOver.{IsBad, is_last}
use Rattle.served_runs.proofs.TicksKeepReaderPlace.{gave_same, gave_more, Word, HasReader, reader_word, reader_goes, Takes, reader_takes}

module _ (script : List Item) (k o : ℕ) (shape : Shape) (Fails : Type 0) where
  -- the link gave all, and takes nothing more, or gets nothing more for it
  abbrev pub GaveFor : Core → Type 0
  GaveFor c = GaveLast (plan_of script) shape c k ⊎ (GaveAll (plan_of script) shape c k × (IsDone (plan_of script) c k ⊎ (c.calls.ending ≡ true)))

  -- how a reading is over: by what the link gave, since it failed, or since it gave all
  abbrev pub IsOverSo : Core → Type 0
  IsOverSo c = IsBad (gave_in c k) ⊎ (Fails ⊎ GaveFor c)

  pub record Holds (c : Core) : Type 0 where
    pub last : Bool
    pub reader : HasReader (plan_of script) (calls script) k o (gave_in c k) last (Word (plan_of script) (calls script) k o c) c
    pub over : last ≡ true → IsOverSo c

  -- ## What a tick keeps

  module _ (retries : RetriesGo (plan_of script)) (c : Core) (vs : List View) (m : Moment) (sound : Sound (plan_of script) c vs) (answered : IsAnswered c m) (fitting : IsFitting (plan_of script) c m) (quiet : c.calls.ending ≡ true → IsPut (plan_of script) k c m → ⊥)
      (same : gave_in (ticked (plan_of script) c m) k ≡ gave_in c k) where
    lay : AllLay (plan_of script) k c m (ticked (plan_of script) c m)
    lay = all_lay (plan_of script) k retries c vs m sound answered fitting

    last_on : GaveLast (plan_of script) shape c k → GaveLast (plan_of script) shape (ticked (plan_of script) c m) k
    last_on gave took more t = let l = lay took t.0 t.1 t.2 in same ∙ (gave l.took (l.more ++ more) (l.next, l.done, l.lies) ∙ ap (offered_by shape) (sym (append_assoc l.took l.more more) ∙ ap (λ x. x ++ more) (sym l.took_is)))

    all_on : (IsPut (plan_of script) k c m → ⊥) → GaveAll (plan_of script) shape c k → GaveAll (plan_of script) shape (ticked (plan_of script) c m) k
    all_on unput gave took t = let l = lay took t.0 t.1 t.2 in same ∙ (gave l.took (l.next, l.done, l.lies)
        ∙ ap (offered_by shape) (⊎_elim (λ e. sym (l.took_is ∙ (ap (λ x. l.took ++ x) e ∙ append-nil l.took))) (λ put. absurd (unput put)) l.put))

    gave_on : GaveFor c → GaveFor (ticked (plan_of script) c m)
    gave_on (inl gave) = inl (last_on gave)
    gave_on (inr (gave, inl done)) = inr (all_on (done_quiet (plan_of script) k retries c vs m sound done) gave, inl (done_on (plan_of script) k retries c vs m sound answered fitting done))
    gave_on (inr (gave, inr ending)) = inr (all_on (quiet ending) gave, inr (run_ending (plan_of script) c (m ∷ []) ∙ ending))

    over_on : IsOverSo c → IsOverSo (ticked (plan_of script) c m)
    over_on (inl bad) = inl (subst IsBad (sym same) bad)
    over_on (inr (inl fails)) = inr (inl fails)
    over_on (inr (inr gave)) = inr (inr (gave_on gave))

  -- ## A tick

  no_two : (l : ℕ) → l ∷ [] ≡ k ∷ [] → l ≡ k
  no_two l e = cc

  or_last : (last : Bool) (x : Bool) → last ≡ false → (last || x) ≡ true → x ≡ true
  or_last last x early e = sym (ap (λ b. b || x) early) ∙ e

  module _ (retries : RetriesGo (plan_of script)) (shape_is : slice_get (link_shapes script) k ≡ Some shape) (c : Core) (vs : List View) (m : Moment) (sound : Sound (plan_of script) c vs) (answered : IsAnswered c m) (fitting : IsFitting (plan_of script) c m)
      (offered : IsOffered script c m) (stays : Word (plan_of script) (calls script) k o c ≢ 0 → Word (plan_of script) (calls script) k o (ticked (plan_of script) c m) ≡ Word (plan_of script) (calls script) k o c) (low : k < length c.calls.gave)
      (others : (seat : SeatState) → get_elem? c.seats m.seat ≡ some seat → m.seat ≢ 32 + k → filter (λ j. j == k) (taken_link seat.program) ≡ []) (quiet : c.calls.ending ≡ true → IsPut (plan_of script) k c m → ⊥)
      (fails : In Broken (as_taken (taken_at c m k)) → Fails) (before : Holds c) where
    abbrev next : Core
    next = ticked (plan_of script) c m

    -- where no bytes of the link are taken
    kept : gave_in next k ≡ gave_in c k → HasReader (plan_of script) (calls script) k o (gave_in c k) before.last (Word (plan_of script) (calls script) k o c) next → Holds next
    kept same reader = record {
      last = before.last;
      reader = subst (λ g. HasReader (plan_of script) (calls script) k o g before.last (Word (plan_of script) (calls script) k o next) next) (sym same)
          (reader_word (plan_of script) (calls script) k o (gave_in c k) before.last (Word (plan_of script) (calls script) k o c) (Word (plan_of script) (calls script) k o next) next stays reader);
      over = λ e. over_on retries c vs m sound answered fitting quiet same (before.over e);
    }

    -- by its reader
    module _ (own : m.seat ≡ 32 + k) (seat : SeatState) (at : get_elem? c.seats m.seat ≡ some seat) where
      shown : taken_link seat.program ≡ k ∷ [] → m.answer ≡ OfTake Broken → In Broken (as_taken (taken_at c m k))
      shown link said = subst (λ (x : Option SeatState). In Broken (as_taken (elim x as (λ o. List Answer) [ none ↦ [] | some s ↦ map (λ (j : ℕ). m.answer) (filter (λ j. j == k) (taken_link s.program)) ]))) (sym at)
          (subst (λ l. In Broken (as_taken (map (λ (j : ℕ). m.answer) (filter (λ j. j == k) l)))) (sym link)
          (subst (λ b. In Broken (as_taken (map (λ (j : ℕ). m.answer) (cond b (k ∷ []) [])))) (sym (eq-eqb k k refl))
          (subst (λ (x : Answer). In Broken (as_taken (x ∷ []))) (sym said) (inl refl))))

      offers : (t : IsTake seat.program) → t.link ≡ k → (a : Taking) → m.answer ≡ OfTake a → IsOfferedSo (plan_of script) shape c k a
      offers t link a said = (subst (λ l. OffersAt script c m.answer (Aside (TakeBytes l t.room) t.next)) link (subst (OffersAt script c m.answer) t.first (offered seat at))) shape a shape_is said

      -- a take that ends the reading
      ends_so : (b : Bool) → c.calls.ending ≡ b → (a : Taking) → ((room : ℕ) → FitsTake room a → is_last (at_last b a) ≡ true → IsOfferedSo (plan_of script) shape c k a → (a ≡ Broken → Fails) → (Fails ⊎ GaveFor c) × (bytes_found (at_last b a) ≡ []))
      ends_so true ending (Bytes bytes) room fits e all broken = absurd (true≢false (sym e))
      ends_so false ending (Bytes bytes) room fits e all broken = absurd (true≢false (sym e))
      ends_so true ending Nothing room fits e all broken = (inr (inr (all, inr ending)), refl)
      ends_so false ending Nothing room fits e all broken = absurd (true≢false (sym e))
      ends_so true ending NoMore room fits e all broken = absurd fits
      ends_so false ending NoMore room fits e all broken = absurd fits
      ends_so true ending AtEnd room fits e all broken = (inr (inl all), refl)
      ends_so false ending AtEnd room fits e all broken = (inr (inl all), refl)
      ends_so true ending Closed room fits e all broken = (inr (inr (all.0, inl all.1)), refl)
      ends_so false ending Closed room fits e all broken = (inr (inr (all.0, inl all.1)), refl)
      ends_so true ending Broken room fits e all broken = (inl (broken refl), refl)
      ends_so false ending Broken room fits e all broken = (inl (broken refl), refl)

      module _ (t : IsTake seat.program) (told : IsTaken t.room m.answer) where
        found : Taking
        found = at_last c.calls.ending told.0

        took : Takes (plan_of script) (calls script) k o c m own seat at (gave_in c k) before.last before.reader (at_last c.calls.ending told.0)
        took = reader_takes (plan_of script) (calls script) k o c m own seat at (gave_in c k) before.last before.reader t told.0 told.1

        gave : gave_in next k ≡ gave_in c k ++ bytes_found (at_last c.calls.ending told.0)
        gave = ap (λ d. gave_in d k) took.after ∙ gave_more (plan_of script) k c m seat took.next (at_last c.calls.ending told.0) low

        over : (before.last || is_last (at_last c.calls.ending told.0)) ≡ true → IsOverSo next
        over e = let x = ends_so c.calls.ending refl told.0 t.room told.2 (or_last before.last (is_last (at_last c.calls.ending told.0)) took.time e) (offers t (no_two t.link (sym t.takes ∙ took.link)) told.0 told.1)
            (λ broken. fails (shown took.link (told.1 ∙ ap OfTake broken))) in
            over_on retries c vs m sound answered fitting quiet (gave ∙ (ap (λ l. gave_in c k ++ l) x.1 ∙ append-nil (gave_in c k))) (inr x.0)

        after_take : Holds next
        after_take = record {
          last = before.last || is_last (at_last c.calls.ending told.0);
          reader = subst (λ g. HasReader (plan_of script) (calls script) k o g (before.last || is_last (at_last c.calls.ending told.0)) (Word (plan_of script) (calls script) k o next) next) (sym gave)
              (reader_word (plan_of script) (calls script) k o (gave_in c k ++ bytes_found (at_last c.calls.ending told.0)) (before.last || is_last (at_last c.calls.ending told.0)) (Word (plan_of script) (calls script) k o c) (Word (plan_of script) (calls script) k o next) next stays took.reader);
          over = over;
        }

      own_tick : Holds next
      own_tick = ⊎_elim
          (λ none_. kept (gave_same (plan_of script) k c m (λ s at_s. subst (λ (x : SeatState). filter (λ j. j == k) (taken_link x.program) ≡ []) (some-injective seat s (sym at ∙ at_s)) (ap (filter (λ j. j == k)) none_)))
          (reader_goes (plan_of script) (calls script) k o c m own seat at (gave_in c k) before.last before.reader none_))
          (λ t. after_take t (t.answers m.answer (answered seat at))) (takes_or_not seat.program)

    pub holds_tick : Holds next
    holds_tick = dite (ℕ_discrete m.seat (32 + k)) (λ own. near own (get_elem? c.seats m.seat) refl)
        (λ far. kept (gave_same (plan_of script) k c m (λ seat at. others seat at far)) (λ seat at. before.reader seat (sym (seats_else (plan_of script) c m (32 + k) (λ e. far (sym e))) ∙ at)))
      where
        nobody : get_elem? c.seats m.seat ≡ none → ticked (plan_of script) c m ≡ c
        nobody e = ap (λ (x : Option SeatState). elim x as (λ o. Core) [ none ↦ c | some seat ↦ tick_with (plan_of script) m.seat seat c m.answer seat.program ]) e

        near : m.seat ≡ 32 + k → (x : Option SeatState) → get_elem? c.seats m.seat ≡ x → Holds next
        near own none e = kept (gave_same (plan_of script) k c m (λ s at_s. absurd (some-ne-none s (sym at_s ∙ e))))
            (λ seat at. before.reader seat (sym (ap (λ (d : Core). get_elem? d.seats (32 + k)) (nobody e)) ∙ at))
        near own (some seat) e = own_tick own seat e
