-- What a step of a reader makes of the tables, and what its tick answers.
use Rattle.std.proofs.Common.{◌≡◌, refl, ℕ, true, false, is_some, List, [], Option, Some, None, IfSome, sym, subst}
use mathlib.Core.Option as core
use Rattle.sock_words.specs.declared.kind.Kind.{Kind}
use Rattle.sock_words.specs.declared.kind.Kind.TheVariants.{K2, R1}
use Rattle.sock_words.specs.declared.outcome.Outcome.{Outcome}
use Rattle.sock_message.specs.Asked.{Asked}
use Rattle.seat_programs.specs.Asides as asides
use Rattle.seat_programs.specs.Asides.{Found, Taking}
use Rattle.seat_programs.specs.FoundAndChangedAside.{found_in, at_last}
use Rattle.seat_programs.specs.StepTables.{word_of, word_after}
use Rattle.seat_programs.specs.Cores.{found_at, words_after}
use Rattle.seat_programs.specs.Programs.{Program}
use Rattle.seat_programs.specs.Ticks.{Unasked, OfTake, is_nothing}
use Rattle.call_points.specs.declared.aside.Aside as code
use Rattle.call_points.specs.declared.aside.Aside.TheVariants as variants
use Rattle.call_points.specs.AsideCodeSteps as aside_steps
use Rattle.call_points.specs.AsideCodeSteps.{after_word, after_call}
use Rattle.call_slots.specs.CallSlotSteps as slots
use Rattle.call_slots.specs.CallSlotSteps.{word_found}
use Rattle.seat_states.specs.declared.table_step.TableStep.{TableStep}
use Rattle.seat_states.specs.ProgramStepsOfMachine.{OfTable, OfAside, step_of, kind_of_first}
use Rattle.reader_points.specs.declared.point.ReadPoint.{ReadPoint}
use Rattle.reader_points.specs.declared.point.ReadStep.{ReadStep}
use Rattle.reader_points.specs.declared.point.ReadStep.TheVariants as steps
use Rattle.reader_points.specs.ReaderPoints.{Context, point_program}
use Rattle.reader_points.specs.ReaderCodeSteps.{after_taking}
use Rattle.reader_seats.specs.ReaderState.{ReaderData, around, reader_program}
use Rattle.reader_seats.specs.ReaderGoesOn.{GoesOn}
use Rattle.machine_model.specs.declared.tick.On.{On}
use Rattle.machine_model.specs.declared.tick.On.TheVariants as on
use Rattle.machine_model.specs.declared.tick.Tick.{Tick}
use Rattle.machine_model.specs.declared.tick.Tick.TheVariants.{Moved, Waits}
use Rattle.machine_model.specs.Machines.{TableState}
use Rattle.machine_model.specs.ReadingSteps.{IsNextRead, SameTables, TakenFrom, AsideRead, MadeRead, ReadTold}
use Rattle.machine_model.specs.MachineRuns.{IsWaitingFor}
use Rattle.machine_model.specs.MachineSteps.{IsOnWord, OutsAfter, holders_after, beside}
use Rattle.machine_model.specs.TickAnswersOfStep.{Tells, waits_by}
use Rattle.machine_steps.proofs.TableAsides.{FindsWord, finds_word, behind_aside}
use Rattle.machine_steps.proofs.TableReads.{reads_call, bare_call, behind_call, behind_take}
use Rattle.machine_steps.proofs.TableTellings.{waits_call, waits_aside, word_waits, word_moves, call_moves, take_tells}

-- ## As it lies in memory

pub told_along : {t u fresh : TableState} {i : ℕ} {reader reader' : ReaderData} {step : ReadStep} {tick : Tick} → t ≡ u → ReadTold t fresh i reader reader' step tick → ReadTold u fresh i reader reader' step tick
told_along {t} {u} {fresh} {i} {reader} {reader'} {step} {tick} e h = subst (λ (x : TableState). ReadTold x fresh i reader reader' step tick) e h

pub step_along : {t fresh : TableState} {i : ℕ} {reader reader' : ReaderData} {step other : ReadStep} {tick : Tick} → step ≡ other → ReadTold t fresh i reader reader' step tick → ReadTold t fresh i reader reader' other tick
step_along {t} {fresh} {i} {reader} {reader'} {step} {other} {tick} e h = subst (λ (s : ReadStep). ReadTold t fresh i reader reader' s tick) e h

pub next_along : {t u : TableState} (reader : ReaderData) (step : ReadStep) → t ≡ u → IsNextRead u reader step → IsNextRead t reader step
next_along reader step e h = subst (λ (x : TableState). IsNextRead x reader step) (sym e) h

-- how a reader goes on, over the calls and the outcomes as they lie in memory
pub goes_as : (P : List ℕ → Program) (reader' : ReaderData) {calls calls' : List ℕ} {a b c d : List (Option Outcome)} → calls ≡ calls' → a ≡ b → d ≡ c → GoesOn calls (P calls) reader' a c → GoesOn calls' (P calls') reader' b d
goes_as P reader' {calls} {calls'} {a} {b} {c} {d} own before behind h = subst (λ (cs : List ℕ). GoesOn cs (P cs) reader' b d) own (subst (λ (os : List (Option Outcome)). GoesOn calls (P calls) reader' os d) before (subst (λ (os : List (Option Outcome)). GoesOn calls (P calls) reader' a os) (sym behind) h))

-- ## What it waits for

pub record Awaited (program : Program) (word : ℕ) (o : Option On) : Type 0 where
  pub waits : is_some o ≡ waits_by program word
  pub for_ : IfSome o (IsWaitingFor program)

pub awaited_at : (a : Context) (p q : ReadPoint) (word : ℕ) (o : Option On) → p ≡ q → ((x : Context) → is_some o ≡ waits_by (point_program x p) word) → ((x : Context) → IfSome o (IsWaitingFor (point_program x p))) → Awaited (point_program a q) word o
awaited_at a p q word o e waits for_ = subst (λ (x : ReadPoint). Awaited (point_program a x) word o) e (record { waits = waits a; for_ = for_ a })

module _ (t : TableState) (reader : ReaderData) (word : ℕ) (o : Option On) (awaited : Awaited (reader_program t.calls reader) word o) where
  abbrev program : Program
  program = reader_program t.calls reader

  call_waits : (call : TableStep) (on_ : On) → IsNextRead t reader (steps.Table call) → word ≡ found_at t.words (word_of t.plan (step_of call)) → o ≡ Some on_ → Tells t program Unasked (Waits on_)
  call_waits call on_ next f e = word_waits t program o on_ word (waits_call t program (step_of call) word next f) awaited.waits awaited.for_ e

  call_moves' : (call : TableStep) (kind : Kind) → IsNextRead t reader (steps.Table call) → word ≡ found_at t.words (word_of t.plan (step_of call)) → kind ≡ kind_of_first (OfTable (step_of call)) → o ≡ None → Tells t program Unasked (Moved kind)
  call_moves' call kind next f is e = word_moves t program o (OfTable (step_of call)) kind word (waits_call t program (step_of call) word next f) awaited.waits next is e

  aside_waits : (step : code.Aside) (on_ : On) → IsNextRead t reader (steps.Aside step) → found_in (aside_steps.step_of reader.asked step) (beside t) core.none ≡ word_found (aside_steps.step_of reader.asked step) word → o ≡ Some on_ → Tells t program Unasked (Waits on_)
  aside_waits step on_ next f e = word_waits t program o on_ word (waits_aside t program (aside_steps.step_of reader.asked step) word next f) awaited.waits awaited.for_ e

  aside_moves : (step : code.Aside) (kind : Kind) → IsNextRead t reader (steps.Aside step) → found_in (aside_steps.step_of reader.asked step) (beside t) core.none ≡ word_found (aside_steps.step_of reader.asked step) word → kind ≡ kind_of_first (OfAside (aside_steps.step_of reader.asked step)) → o ≡ None → Tells t program Unasked (Moved kind)
  aside_moves step kind next f is e = word_moves t program o (OfAside (aside_steps.step_of reader.asked step)) kind word (waits_aside t program (aside_steps.step_of reader.asked step) word next f) awaited.waits next is e

-- ## What a step makes

-- one on a word, or a move of a link
call_told : {old fresh : TableState} (i : ℕ) (reader reader' : ReaderData) (call : TableStep) (word : ℕ) (tick : Tick) → SameTables old fresh → word ≡ found_at old.words (word_of old.plan (step_of call)) → GoesOn old.calls (after_word (reader_program old.calls reader) word) reader' old.outcomes fresh.outcomes →
    fresh.words ≡ words_after old.words (word_of old.plan (step_of call)) (word_after (step_of call) (found_at old.words (word_of old.plan (step_of call)))) → fresh.links.holders ≡ holders_after i (step_of call) old.links.holders → OutsAfter (step_of call) old.links.outs fresh.links.outs → fresh.links.inns ≡ old.links.inns →
    fresh.ids ≡ old.ids → fresh.ends ≡ old.ends → Tells old (reader_program old.calls reader) Unasked tick → ReadTold old fresh i reader reader' (steps.Table call) tick
call_told {old} {fresh} i reader reader' call word tick same f goes words holders outs inns ids ends tells = record {
  answer = Unasked;
  made = (
    refl,
    record {
      same = same;
      goes = subst (λ (n : ℕ). GoesOn old.calls (after_word (reader_program old.calls reader) n) reader' old.outcomes fresh.outcomes) f goes;
      words = words;
      holders = holders;
      outs = outs;
      inns = inns;
      ids = ids;
      ends = ends;
    },
  );
  tells = tells;
}

module _ {old fresh : TableState} (i : ℕ) (reader reader' : ReaderData) (call : TableStep) (word : ℕ) (o : Option On) (awaited : Awaited (reader_program old.calls reader) word o) (next : IsNextRead old reader (steps.Table call)) (same : SameTables old fresh) (f : word ≡ found_at old.words (word_of old.plan (step_of call)))
    (goes : GoesOn old.calls (after_word (reader_program old.calls reader) word) reader' old.outcomes fresh.outcomes) (words : fresh.words ≡ words_after old.words (word_of old.plan (step_of call)) (word_after (step_of call) (found_at old.words (word_of old.plan (step_of call))))) (holders : fresh.links.holders ≡ holders_after i (step_of call) old.links.holders)
    (outs : OutsAfter (step_of call) old.links.outs fresh.links.outs) (inns : fresh.links.inns ≡ old.links.inns) (ids : fresh.ids ≡ old.ids) (ends : fresh.ends ≡ old.ends) where
  pub call_waited : (on_ : On) → o ≡ Some on_ → ReadTold old fresh i reader reader' (steps.Table call) (Waits on_)
  call_waited on_ e = call_told i reader reader' call word (Waits on_) same f goes words holders outs inns ids ends (call_waits old reader word o awaited call on_ next f e)

  pub call_moved : (kind : Kind) → kind ≡ kind_of_first (OfTable (step_of call)) → o ≡ None → ReadTold old fresh i reader reader' (steps.Table call) (Moved kind)
  call_moved kind is e = call_told i reader reader' call word (Moved kind) same f goes words holders outs inns ids ends (call_moves' old reader word o awaited call kind next f is e)

made_word : (old fresh : TableState) (i : ℕ) (reader reader' : ReaderData) (step : asides.Step) → FindsWord step → AsideRead old fresh i reader reader' step → MadeRead old fresh i reader reader' (OfAside step) Unasked
made_word old fresh i reader reader' (asides.TakeBytes k n) h made = absurd h
made_word old fresh i reader reader' _ h made = (refl, made)

-- one on the ids that finds a word
aside_told : {old fresh : TableState} (i : ℕ) (reader reader' : ReaderData) (step : code.Aside) (word : ℕ) (tick : Tick) → SameTables old fresh → IsOnWord step → IsNextRead old reader (steps.Aside step) → slots.Makes old.ids (aside_steps.step_of reader.asked step) (word_found (aside_steps.step_of reader.asked step) word) fresh.ids →
    GoesOn old.calls (after_word (reader_program old.calls reader) word) reader' old.outcomes fresh.outcomes → fresh.words ≡ old.words → fresh.links ≡ old.links → fresh.ends ≡ old.ends → Tells old (reader_program old.calls reader) Unasked tick → ReadTold old fresh i reader reader' (steps.Aside step) tick
aside_told {old} {fresh} i reader reader' step word tick same on_word next made goes words links ends tells =
    let aside = aside_steps.step_of reader.asked step in
    let x = behind_aside (reader_program old.calls reader) aside word next (finds_word reader.asked step on_word) in
    record {
      answer = Unasked;
      made = made_word old fresh i reader reader' aside (finds_word reader.asked step on_word) (record {
        same = same;
        next = x.next;
        is = x.is;
        found = x.found;
        ids = subst (λ (f : core.Option (Found aside)). slots.Makes old.ids aside f fresh.ids) x.found_is made;
        goes = subst (λ (p : Program). GoesOn old.calls p reader' old.outcomes fresh.outcomes) x.behind goes;
        words = words;
        links = links;
        ends = ends;
      });
      tells = tells;
    }

module _ {old fresh : TableState} (i : ℕ) (reader reader' : ReaderData) (step : code.Aside) (word : ℕ) (o : Option On) (awaited : Awaited (reader_program old.calls reader) word o) (on_word : IsOnWord step) (next : IsNextRead old reader (steps.Aside step)) (same : SameTables old fresh)
    (made : slots.Makes old.ids (aside_steps.step_of reader.asked step) (word_found (aside_steps.step_of reader.asked step) word) fresh.ids) (goes : GoesOn old.calls (after_word (reader_program old.calls reader) word) reader' old.outcomes fresh.outcomes) (words : fresh.words ≡ old.words) (links : fresh.links ≡ old.links) (ends : fresh.ends ≡ old.ends) where
  finds : found_in (aside_steps.step_of reader.asked step) (beside old) core.none ≡ word_found (aside_steps.step_of reader.asked step) word
  finds = made.finds [] [] old.ending core.none

  pub aside_waited : (on_ : On) → o ≡ Some on_ → ReadTold old fresh i reader reader' (steps.Aside step) (Waits on_)
  aside_waited on_ e = aside_told i reader reader' step word (Waits on_) same on_word next made goes words links ends (aside_waits old reader word o awaited step on_ next finds e)

  pub aside_moved : (kind : Kind) → kind ≡ kind_of_first (OfAside (aside_steps.step_of reader.asked step)) → o ≡ None → ReadTold old fresh i reader reader' (steps.Aside step) (Moved kind)
  aside_moved kind is e = aside_told i reader reader' step word (Moved kind) same on_word next made goes words links ends (aside_moves old reader word o awaited step kind next finds is e)

-- a call is taken out of its home
pub taken_told : {old fresh : TableState} (i : ℕ) (reader reader' : ReaderData) (slot : ℕ) (asked : Asked) → SameTables old fresh → IsNextRead old reader (steps.Aside (variants.TakeCall slot)) → slots.Makes old.ids (asides.TakeCall slot) (core.some asked) fresh.ids →
    GoesOn old.calls (after_call (reader_program old.calls reader) asked) reader' old.outcomes fresh.outcomes → fresh.words ≡ old.words → fresh.links ≡ old.links → fresh.ends ≡ old.ends → ReadTold old fresh i reader reader' (steps.Aside (variants.TakeCall slot)) (Moved K2)
taken_told {old} {fresh} i reader reader' slot asked same next made goes words links ends =
    let a = around old.calls reader in
    let x = behind_call a reader.point slot asked next in
    record {
      answer = Unasked;
      made = (
        refl,
        record {
          same = same;
          next = x.next;
          is = x.is;
          found = asked;
          ids = made;
          goes = subst (λ (p : Program). GoesOn old.calls p reader' old.outcomes fresh.outcomes) x.behind goes;
          words = words;
          links = links;
          ends = ends;
        },
      );
      tells = call_moves old (reader_program old.calls reader) slot K2 next refl (bare_call a reader.point (reads_call a reader.point slot next));
    }

-- bytes are taken
pub take_told : {old fresh : TableState} (i : ℕ) (reader reader' : ReaderData) (k n : ℕ) (taking : Taking) (tick : Tick) → SameTables old fresh → IsNextRead old reader (steps.Aside (variants.TakeBytes k n)) → TakenFrom old fresh k n taking →
    GoesOn old.calls (after_taking (reader_program old.calls reader) (at_last old.ending taking)) reader' old.outcomes fresh.outcomes → fresh.words ≡ old.words → fresh.ids ≡ old.ids → fresh.links.holders ≡ old.links.holders → fresh.links.outs ≡ old.links.outs →
    (is_nothing old.ending (OfTake taking) ≡ true → tick ≡ Waits (on.In k)) → (is_nothing old.ending (OfTake taking) ≡ false → tick ≡ Moved R1) → ReadTold old fresh i reader reader' (steps.Aside (variants.TakeBytes k n)) tick
take_told {old} {fresh} i reader reader' k n taking tick same next from goes words ids holders outs waited moved =
    let a = around old.calls reader in
    let x = behind_take a reader.point k n next in
    record {
      answer = OfTake taking;
      made = (
        taking,
        refl,
        record {
          same = same;
          next = x.next;
          is = x.is;
          goes = subst (λ (p : Program). GoesOn old.calls p reader' old.outcomes fresh.outcomes) (x.behind (at_last old.ending taking)) goes;
          from = from;
          ids = ids;
          words = words;
          holders = holders;
          outs = outs;
        },
      );
      tells = take_tells a reader.point old k n taking tick next waited moved;
    }
