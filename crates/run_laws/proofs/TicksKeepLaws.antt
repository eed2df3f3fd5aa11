-- Ticks keep the laws, whatever their order and what links answer.
use Rattle.std.proofs.Common.{◌≡◌, ◌≢◌, ℕ, zero, suc, ◌-◌, ◌%◌, ⊎_elim, Bool, true, false, cond, eqb, nat_lt, List, [], ◌∷◌, take, sym, subst}
use Rattle.sock_words.specs.declared.plain.Plan.{Plan}
use Rattle.sock_words.specs.PackedWords.{socket_id_version, vref_version}
use Rattle.sock_io.specs.declared.link.Put.{Put}
use Rattle.sock_io.specs.declared.link.Put.TheVariants as puts
use Rattle.sock_io.specs.declared.link.Ready.{Ready}
use Rattle.sock_io.specs.declared.link.Ready.TheVariants as asks
use Rattle.sock_model.specs.declared.chain.Claim.{Claim}
use Rattle.sock_model.specs.declared.chain.Entry.{Entry}
use Rattle.sock_model.specs.declared.chain.Right.{Right}
use Rattle.sock_model.specs.declared.home.Home.{Home}
use Rattle.sock_model.specs.declared.view.View.{View}
use Rattle.sock_model.specs.SlotRows.{marks_of}
use Rattle.sock_model.specs.PlainReferences.{life_at, PlainLaw, plain}
use Rattle.sock_model.specs.MarkWeights.{is_probe}
use Rattle.seat_programs.specs.TableSteps.{TableStep, OnSlot, OnChain, AddRef, SubRef, SetOdd, Recycle, LookWord, ClaimRequest, SwapHead, OnPlace, StorePlace}
use Rattle.seat_programs.specs.Cores.{Core, found_at}
use Rattle.seat_programs.specs.StepTables.{word_of}
use Rattle.seat_programs.specs.Ticks.{Moment, ticked, run}
use Rattle.seat_programs.specs.StepTables.{May}
use Rattle.seat_programs.specs.StepsOfSlots.{even_version}
use Rattle.programs_allowed.specs.program_steps.specs.SoundSeats.{state, views_after, views_along}
use Rattle.programs_allowed.specs.program_steps.proofs.TickCases.{tick_does}
use Rattle.life_events.specs.LifeEventOfStep.{life_of}
use Rattle.life_events.proofs.LifeLaws.{plain_law}
use Rattle.message_events.specs.MessageModel.{Has, IsIn}
use Rattle.message_events.specs.MessageStanding.{messages}
use Rattle.run_laws.specs.World.{Event, Nothing, Hold, Drop, Fail, End, Accept, of_messages, stopped_after}
use Rattle.run_laws.specs.World as world
use Rattle.run_laws.specs.Seen.{accept_event, stop_event, step_event, put_event, ready_event, next_event, event_at, AreEvents, stopped_along}
use Rattle.run_laws.specs.Happening.{Happen}
use Rattle.run_laws.proofs.EventlessTicks.{still_nothing}
use Rattle.run_laws.proofs.KeptBySeats.{IsGiven, AreGiven, Kept}
use Rattle.run_laws.proofs.Stops.{kept_tick}
use Rattle.run_laws.proofs.Full.{AreFull, full_tick}
use Rattle.run_laws.proofs.TickEvents.{each_tick}

-- ## What runs keep

pub record Runs (p : Plan) (c : Core) (views : List View) (stopped : ℕ → Bool) : Type 0 where
  pub kept : Kept p c views stopped
  pub full : AreFull views
  pub some_bytes : (e : Entry) → Has (messages p c views).accepted e → e.bytes ≢ []

-- a message that a link accepts has some byte
abbrev IsSome : Event → Type 0
IsSome (Accept e seat) = e.bytes ≢ []
IsSome other = Unit {0}

some_if : (b : Bool) (x y : Event) → IsSome x → IsSome y → IsSome (cond b x y)
some_if true x y p q = p
some_if false x y p q = q

some_stop : (rs : List Right) → IsSome (stop_event rs)
some_stop [] = tt
some_stop (r ∷ rs) = tt

some_step : (p : Plan) (v : View) → ((c : Claim) (cs : List Claim) → v.claims ≡ c ∷ cs → c.filled ≡ true → c.bytes ≢ []) → (i : ℕ) (call : TableStep) (found : ℕ) → May p v call → IsSome (step_event i call found v)
some_step p v full i (OnSlot (AddRef id)) found may = some_if (eqb (vref_version found) (socket_id_version id)) (Hold (life_of id) i) Nothing tt tt
some_step p v full i (OnSlot (SubRef j)) found may = some_if (nat_lt 0 (marks_of is_probe j v)) Nothing (Drop (life_at j (even_version found)) i) tt tt
some_step p v full i (OnSlot (SetOdd j)) found may = some_if (eqb (vref_version found % 2) 0) (Fail (life_at j (vref_version found)) i) Nothing tt tt
some_step p v full i (OnSlot (Recycle j from)) found may = some_if (eqb found from) (End (life_at j (vref_version from - 1))) Nothing tt tt
some_step p v full i (OnSlot (LookWord id)) found may = some_if (eqb (vref_version found % 2) 0) Nothing (stop_event v.rights) tt (some_stop v.rights)
some_step p v full i (OnChain (ClaimRequest id q)) found may = some_if (eqb (found % 2) 0) (world.Claim q) Nothing tt tt
some_step p v full i (OnChain (SwapHead j own)) found may = let x = may.1 in subst (λ cs. IsSome (accept_event i found cs)) (sym x.claims) (full x.claim [] x.claims x.is_filled)
some_step p v full i (OnPlace (StorePlace l k n)) found may = tt
some_step p v full i _ found may = tt

some_put : (k : ℕ) (bytes : List ℕ) (answer : Put) → IsSome (put_event k bytes answer)
some_put k bytes (puts.Took n) = tt
some_put k bytes _ = tt

some_ready : (k : ℕ) (answer : Ready) → IsSome (ready_event k answer)
some_ready k asks.Now = tt
some_ready k _ = tt

module _ (p : Plan) (c : Core) (views : List View) (stopped : ℕ → Bool) (m : Moment) (runs : Runs p c views stopped) (answered : IsGiven p c m) where
  some_event : IsSome (event_at p c views m)
  some_event = tick_does p c views m runs.kept.sound answered.0 (next_event p m.seat c.words) Nothing (still_nothing p m.seat c.words) (λ e d us. IsSome e) (λ none_. tt) (λ seat at_seat still. tt)
      (λ seat v call next at_seat here is goes. some_step p v (runs.full m.seat v here) m.seat call (found_at c.words (word_of p call)) goes.0)
      (λ seat v q next heading bytes at_seat here is goes lies. tt) (λ seat v k next took n at_seat here is goes lies. tt) (λ seat v k n after at_seat here is goes. tt)
      (λ seat v k asked bytes next answer at_seat here is goes answer_is fits. some_put k bytes answer) (λ seat v k next answer at_seat here is goes answer_is. some_ready k answer) (λ seat v s next found at_seat here is goes found_is. tt)

  is_some : (e : Event) → IsSome e → (d : Entry) → IsIn (messages p c views) (of_messages e) d → d.bytes ≢ []
  is_some (Accept e seat) some_ d is = ⊎_elim (λ has. runs.some_bytes d has) (λ same. subst (λ (x : Entry). x.bytes ≢ []) (sym same) some_) is
  is_some _ some_ d is = runs.some_bytes d is

  runs_tick : Runs p (ticked p c m) (views_after p c views m) (stopped_after (event_at p c views m) stopped)
  runs_tick = record {
    kept = kept_tick p c views stopped m runs.kept answered;
    full = full_tick p c views m runs.kept.sound answered.0 runs.full;
    some_bytes = λ e has. is_some (event_at p c views m) some_event e (((each_tick p c views stopped m runs.kept answered runs.some_bytes).messages.accepted e).1 has);
  }

-- each tick of a run is its event, and all of this holds behind them
pub each_run : (p : Plan) (ms : List Moment) (c : Core) (views : List View) (stopped : ℕ → Bool) → Runs p c views stopped → AreGiven p c ms → AreEvents p c views stopped ms × Runs p (run p c ms) (views_along p c views ms) (stopped_along p c views stopped ms)
each_run p [] c views stopped runs answered = (tt, runs)
each_run p (m ∷ ms) c views stopped runs answered = let rest = each_run p ms (ticked p c m) (views_after p c views m) (stopped_after (event_at p c views m) stopped) (runs_tick p c views stopped m runs answered.0) answered.1 in
    ((each_tick p c views stopped m runs.kept answered.0 runs.some_bytes, rest.0), rest.1)

lives_along : (p : Plan) (ms : List Moment) (c : Core) (views : List View) (stopped : ℕ → Bool) → Runs p c views stopped → AreGiven p c ms → (n : ℕ) → PlainLaw p.slots (plain (views_along p c views (take n ms)))
lives_along p ms c views stopped runs answered zero = plain_law (λ (home : Home). home) p (state c views) runs.kept.sound.lawful
lives_along p [] c views stopped runs answered (suc n) = plain_law (λ (home : Home). home) p (state c views) runs.kept.sound.lawful
lives_along p (m ∷ ms) c views stopped runs answered (suc n) = lives_along p ms (ticked p c m) (views_after p c views m) (stopped_after (event_at p c views m) stopped) (runs_tick p c views stopped m runs answered.0) answered.1 n

-- these ticks, one after another: each is its event, and the laws of lives hold before and behind each
pub happen : (p : Plan) (ms : List Moment) (c : Core) (views : List View) (stopped : ℕ → Bool) → Runs p c views stopped → AreGiven p c ms → Happen p c views stopped ms
happen p ms c views stopped runs answered = record { events = (each_run p ms c views stopped runs answered).0; lives = lives_along p ms c views stopped runs answered }
