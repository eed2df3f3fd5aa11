-- One step of a reader is a tick of it.
use Rattle.std.proofs.Common.{◌≡◌, ◌≢◌, refl, ℕ, zero, suc, ◌+◌, ◌<◌, ◌≤◌, ◌⊎◌, inl, inr, Bool, true, false, List, [], ◌∷◌, ◌++◌, map, length, slice_set, slice_index_or, Some, IfSome, ⊎_elim, ap, ap₂, sym, ◌∙◌, arith, subst, length-append}
use Rattle.std.proofs.lemmas.List.{append-nil}
use Rattle.std.specs.Io.KnownBytes.{append_known}
use Rattle.atomic_table.proofs.Lists.{at_set}
use mathlib.Core.Option as core
use lib.ListN.{get_elem?}
use Rattle.sock_io.specs.LinkHalves.{InState}
use Rattle.seat_programs.specs.Asides as asides
use Rattle.seat_programs.specs.Asides.{Taking, Bytes, Nothing, NoMore, AtEnd, Closed, Broken}
use Rattle.seat_programs.specs.FoundAndChangedAside.{at_last, more_given}
use Rattle.seat_programs.specs.TableSteps as calls
use Rattle.seat_programs.specs.Programs.{Program}
use Rattle.seat_programs.specs.ScheduledRuns.{from_to}
use Rattle.seat_programs.specs.Cores.{Calls, Core, SeatState, found_at, with_seat, hand_after, words_after, homes_after}
use Rattle.seat_programs.specs.StepTables.{word_of, word_after}
use Rattle.seat_programs.specs.Ticks.{Answer, Unasked, OfTake, IsAnswer, IsAnswered, tick_with, ticked}
use Rattle.call_points.specs.AsideCodeSteps as aside_steps
use Rattle.call_slots.specs.CallSlotState.{calls_with}
use Rattle.seat_states.specs.ProgramStepsOfMachine.{First, OfTable, OfAside, step_of, first_in}
use Rattle.reader_points.specs.declared.point.ReadStep.{ReadStep}
use Rattle.reader_points.specs.declared.point.ReadStep.TheVariants as steps
use Rattle.reader_points.specs.ReaderCodeSteps.{step_as}
use Rattle.reader_seats.specs.ReaderState.{ReaderData, reader_program}
use Rattle.machine_model.specs.MachineLinks.{LinksData, Taken, Given, Agrees, AgreesGave, homes_of, hand_of}
use Rattle.machine_model.specs.Machines.{MachineState, READERS, table_of, state_of, waiting_of, given_by, calls_of, core_with, IsSized}
use Rattle.machine_model.specs.ReadingSteps.{SameTables, TableStepRead, AsideRead, TakeRead, MadeRead}
use Rattle.machine_rules.proofs.LinkChanges.{none_changes}
use Rattle.machine_rules.proofs.RangeLists.{get-range, set-range}
use Rattle.machine_rules.proofs.Seatings.{Stays, reader_set, read_at}
use Rattle.machine_model.proofs.FirstSteps.{word_tick, aside_tick, AnswersFirst, answers_first}
use Rattle.machine_rules.proofs.Ticked.{MayCall, LettersBy, SteppedWith, later_at, call_changes, call_agrees, letters_by, gives_same, later_here, later_else, known_more, agrees_same}
use Rattle.machine_model.specs.run_theorems.specs.Heard.{bytes_found}

-- ## What links gave

more_length : (o : Taking) (n : ℕ) (bytes : List ℕ) → n ≡ length bytes → n + length (bytes_found o) ≡ length (bytes ++ bytes_found o)
more_length o n bytes e = let all = length-append bytes (bytes_found o) in omega (arith, e, all)

gives_set : (l l' : LinksData) (gave : Given) (k : ℕ) (inn inn' : InState) (bytes : List ℕ) → get_elem? l.inns k ≡ core.some inn → l'.inns ≡ slice_set l.inns k inn' → inn'.gave ≡ inn.gave + length bytes → inn'.gave_bytes ≡ append_known inn.gave_bytes bytes →
    AgreesGave l gave → AgreesGave l' (later_at k (gave k ++ bytes) gave)
gives_set l l' gave k inn inn' bytes at inns counted known agrees j x there = ⊎_elim
    (λ a. subst (λ n. (x.gave ≡ length (later_at k (gave k ++ bytes) gave n)) × IfSome x.gave_bytes (λ bs. bs ≡ later_at k (gave k ++ bytes) gave n)) (sym a.0) (subst (λ (y : InState). (y.gave ≡ length (later_at k (gave k ++ bytes) gave k)) × IfSome y.gave_bytes (λ bs. bs ≡ later_at k (gave k ++ bytes) gave k)) a.1 here))
    (λ a. subst (λ t. (x.gave ≡ length t) × IfSome x.gave_bytes (λ bs. bs ≡ t)) (sym (later_else k j (gave k ++ bytes) gave a.0)) (agrees j x a.1))
    (at_set l.inns k j inn' x (sym (ap (λ (is : List InState). get_elem? is j) inns) ∙ there))
  where
    before : (inn.gave ≡ length (gave k)) × IfSome inn.gave_bytes (λ bs. bs ≡ gave k)
    before = agrees k inn at

    here : (inn'.gave ≡ length (later_at k (gave k ++ bytes) gave k)) × IfSome inn'.gave_bytes (λ bs. bs ≡ later_at k (gave k ++ bytes) gave k)
    here = subst (λ t. (inn'.gave ≡ length t) × IfSome inn'.gave_bytes (λ bs. bs ≡ t)) (sym (later_here k (gave k ++ bytes) gave)) (
      (let all = length-append (gave k) bytes in let first = before.0 in omega (arith, counted, first, all)),
      subst (λ o. IfSome o (λ bs. bs ≡ gave k ++ bytes)) (sym known) (known_more inn.gave_bytes (gave k) bytes before.1),
    )

-- the list of what the links gave
pub given_at : (n k : ℕ) (gave : Given) → k < n → slice_index_or (given_by n gave) k [] ≡ gave k
given_at n k gave inside = at_index (given_by n gave) k (gave k) (get-range gave 0 n k inside ∙ ap (λ j. core.some (gave j)) (omega arith))
  where
    at_index : (xs : List (List ℕ)) (j : ℕ) (x : List ℕ) → get_elem? xs j ≡ core.some x → slice_index_or xs j [] ≡ x
    at_index [] j x e = absurd (core.some-ne-none x (sym e))
    at_index (y ∷ xs) zero x e = core.some-injective y x e
    at_index (y ∷ xs) (suc j) x e = at_index xs j x e

given_set : (n k : ℕ) (gave : Given) (bytes : List ℕ) → k < n → slice_set (given_by n gave) k (slice_index_or (given_by n gave) k [] ++ bytes) ≡ given_by n (later_at k (gave k ++ bytes) gave)
given_set n k gave bytes inside = set-range gave (later_at k (gave k ++ bytes) gave) 0 n k (slice_index_or (given_by n gave) k [] ++ bytes) inside
    (ap (later_at k (gave k ++ bytes) gave) (omega arith) ∙ later_here k (gave k ++ bytes) gave ∙ ap (λ (bs : List ℕ). bs ++ bytes) (sym (given_at n k gave inside)))
    (λ j a differ. sym (later_else k j (gave k ++ bytes) gave (λ e. differ (omega (arith, e)))))

-- a take that gave nothing leaves it
given_none : (n k : ℕ) (gave : Given) → given_by n (later_at k (gave k ++ []) gave) ≡ given_by n gave
given_none n k gave = ap (λ (g : Given). map g (from_to 0 n)) (λ x j. same j x)
  where
    same_or : (a b : ℕ) → (a ≡ b) ⊎ (a ≢ b)
    same_or zero zero = inl refl
    same_or zero (suc b) = inr (λ e. omega (arith, e))
    same_or (suc a) zero = inr (λ e. omega (arith, e))
    same_or (suc a) (suc b) = ⊎_elim (λ e. inl (ap suc e)) (λ differ. inr (λ e. differ (omega (arith, e)))) (same_or a b)

    same : (j : ℕ) → later_at k (gave k ++ []) gave j ≡ gave j
    same j = ⊎_elim (λ e. subst (λ x. later_at k (gave k ++ []) gave x ≡ gave x) (sym e) (later_here k (gave k ++ []) gave ∙ append-nil (gave k))) (λ differ. later_else k j (gave k ++ []) gave differ) (same_or j k)

-- what a take makes of what stands aside of the sockets
taken_calls : (a : Calls) (n k : ℕ) (gave : Given) (ending : Bool) (t : Taking) → a.gave ≡ given_by n gave → k < n → more_given k (at_last ending t) a ≡ (record a { gave = given_by n (later_at k (gave k ++ bytes_found t) gave) })
taken_calls a n k gave true (Bytes bytes) e inside = ap (λ g. record a { gave = slice_set g k (slice_index_or g k [] ++ bytes) }) e ∙ ap (λ g. record a { gave = g }) (given_set n k gave bytes inside)
taken_calls a n k gave false (Bytes bytes) e inside = ap (λ g. record a { gave = slice_set g k (slice_index_or g k [] ++ bytes) }) e ∙ ap (λ g. record a { gave = g }) (given_set n k gave bytes inside)
taken_calls a n k gave true Nothing e inside = ap (λ g. record a { gave = g }) (e ∙ sym (given_none n k gave))
taken_calls a n k gave false Nothing e inside = ap (λ g. record a { gave = g }) (e ∙ sym (given_none n k gave))
taken_calls a n k gave true NoMore e inside = ap (λ g. record a { gave = g }) (e ∙ sym (given_none n k gave))
taken_calls a n k gave false NoMore e inside = ap (λ g. record a { gave = g }) (e ∙ sym (given_none n k gave))
taken_calls a n k gave true AtEnd e inside = ap (λ g. record a { gave = g }) (e ∙ sym (given_none n k gave))
taken_calls a n k gave false AtEnd e inside = ap (λ g. record a { gave = g }) (e ∙ sym (given_none n k gave))
taken_calls a n k gave true Closed e inside = ap (λ g. record a { gave = g }) (e ∙ sym (given_none n k gave))
taken_calls a n k gave false Closed e inside = ap (λ g. record a { gave = g }) (e ∙ sym (given_none n k gave))
taken_calls a n k gave true Broken e inside = ap (λ g. record a { gave = g }) (e ∙ sym (given_none n k gave))
taken_calls a n k gave false Broken e inside = ap (λ g. record a { gave = g }) (e ∙ sym (given_none n k gave))

-- ## A step

module _ (old fresh : MachineState) (k : ℕ) (reader reader' : ReaderData) (at : get_elem? old.readers k ≡ core.some reader) (seats : fresh.seats ≡ old.seats) (readers : fresh.readers ≡ slice_set old.readers k reader') (few : length old.seats ≤ READERS) (sized : IsSized (table_of old))
    (took : Taken) (agrees : Agrees old.links took) (gave : Given) (agrees_gave : AgreesGave old.links gave) where
  abbrev program : Program
  program = reader_program old.calls reader

  abbrev i : ℕ
  i = READERS + k

  abbrev own : SeatState
  own = state_of old.plan old.links took program i

  abbrev before : Core
  before = core_with old took gave

  own_at : get_elem? before.seats i ≡ core.some own
  own_at = read_at old took k reader few at

  ticks : (answer : Answer) → ticked old.plan before (record { seat = i; answer = answer }) ≡ tick_with old.plan i own before answer program
  ticks answer = ap (λ (o : core.Option SeatState). elim o as (λ x. Core) [ core.none ↦ before | core.some s ↦ tick_with old.plan i s before answer s.program ]) own_at

  answers : (first : First) (answer : Answer) → first_in program ≡ Some first → AnswersFirst first answer → IsAnswered before (record { seat = i; answer = answer })
  answers first answer next fits s there = subst (λ (x : SeatState). IsAnswer x.program answer) (core.some-injective own s (sym own_at ∙ there)) (answers_first program first answer next fits)

  stays : SameTables (table_of old) (table_of fresh) → Stays old fresh
  stays same = record { plans = same.plans; seats = seats }

  call_steps : (call : calls.TableStep) → first_in program ≡ Some (OfTable call) → MayCall old.plan old.links i call → LettersBy call old.letters fresh.letters → TableStepRead (table_of old) (table_of fresh) i reader reader' call → SteppedWith old fresh i Unasked took gave
  call_steps call next may lettered w = record {
    so_far = record {
      took = took;
      gave = gave;
      agrees = call_agrees old.plan i old.letters sized.letters_are old.links fresh.links took sized.holders_are call w.outs agrees;
      agrees_gave = gives_same old.links fresh.links gave w.inns agrees_gave;
    };
    core = reader_set old fresh k reader reader' (aside_steps.after_word program (found_at old.words (word_of old.plan call))) took took gave gave (hand_after old.plan call before.homes own.hand) (homes_after old.plan call own.hand before.homes) (words_after before.words (word_of old.plan call) (word_after call (found_at before.words (word_of old.plan call)))) at (stays w.same) readers few w.goes w.words
        (call_changes old.plan i old.letters sized.letters_are old.links fresh.links took sized.holders_are call fresh.letters may lettered w.holders w.same.nexts w.outs w.inns)
        ∙ ap (λ ids. with_seat i (aside_steps.after_word program (found_at old.words (word_of old.plan call))) (hand_after old.plan call before.homes own.hand) (words_after before.words (word_of old.plan call) (word_after call (found_at before.words (word_of old.plan call)))) (homes_after old.plan call own.hand before.homes) (record before { calls = calls_with ids (waiting_of old.seats old.readers) (given_by old.plan.links gave) old.ending })) w.ids
        ∙ sym (ticks Unasked ∙ word_tick old.plan i own before program Unasked call next);
    answered = answers (OfTable call) Unasked next tt;
  }

  aside_reads : (step : asides.Step) → first_in program ≡ Some (OfAside step) → AnswersFirst (OfAside step) Unasked → AsideRead (table_of old) (table_of fresh) i reader reader' step → SteppedWith old fresh i Unasked took gave
  aside_reads step next fits w = record {
    so_far = record {
      took = took;
      gave = gave;
      agrees = agrees_same old.links fresh.links took (ap (λ (l : LinksData). l.outs) w.links) agrees;
      agrees_gave = gives_same old.links fresh.links gave (ap (λ (l : LinksData). l.inns) w.links) agrees_gave;
    };
    core = reader_set old fresh k reader reader' (w.next w.found) took took gave gave own.hand before.homes before.words at (stays w.same) readers few w.goes w.words
        (none_changes old.plan i old.links fresh.links old.letters fresh.letters took before.homes w.links (ap (λ ls. homes_of old.links old.plan ls took) w.same.letters))
        ∙ ap (λ (a : Calls). with_seat i (w.next w.found) own.hand before.words before.homes (record before { calls = a })) (w.ids.changes (waiting_of old.seats old.readers) (given_by old.plan.links gave) old.ending)
        ∙ sym (ticks Unasked ∙ aside_tick old.plan i own before program Unasked step w.next w.found w.is (w.ids.finds (waiting_of old.seats old.readers) (given_by old.plan.links gave) old.ending core.none));
    answered = answers (OfAside step) Unasked next fits;
  }

  take_reads : (j room : ℕ) (taking : Taking) → first_in program ≡ Some (OfAside (asides.TakeBytes j room)) → j < old.plan.links → TakeRead (table_of old) (table_of fresh) i reader reader' j room taking → SteppedWith old fresh i (OfTake taking) took gave
  take_reads j room taking next inside w = let f = w.from in let later : Given = later_at j (gave j ++ bytes_found taking) gave in record {
    so_far = record {
      took = took;
      gave = later;
      agrees = agrees_same old.links fresh.links took w.outs agrees;
      agrees_gave = gives_set old.links fresh.links gave j f.inn f.inn' (bytes_found taking) f.at f.inns_are f.gave f.bytes agrees_gave;
    };
    core = reader_set old fresh k reader reader' (w.next (at_last old.ending taking)) took took gave later own.hand before.homes before.words at (stays w.same) readers few w.goes w.words
        (record { own = ap (λ (l : LinksData). hand_of l old.plan.links took i) same_out; others = λ x differ. ap (λ (l : LinksData). hand_of l old.plan.links took x) same_out; homes_are = ap₂ (λ (l : LinksData) ls. homes_of l old.plan ls took) same_out w.same.letters })
        ∙ ap (λ (a : Calls). with_seat i (w.next (at_last old.ending taking)) own.hand before.words before.homes (record before { calls = a }))
        (ap (λ ids. calls_with ids (waiting_of old.seats old.readers) (given_by old.plan.links later) old.ending) w.ids ∙ sym (taken_calls (calls_of old gave) old.plan.links j gave old.ending taking refl inside))
        ∙ sym (ticks (OfTake taking) ∙ aside_tick old.plan i own before program (OfTake taking) (asides.TakeBytes j room) w.next (at_last old.ending taking) w.is refl);
    answered = answers (OfAside (asides.TakeBytes j room)) (OfTake taking) next (taking, refl, f.fits);
  }
    where
      -- but for its reading halves the links stay
      same_out : (let l : LinksData = record { holders = fresh.links.holders; nexts = fresh.links.nexts; outs = fresh.links.outs; inns = old.links.inns } in l) ≡ old.links
      same_out = λ x. record { holders = w.holders x; nexts = w.same.nexts x; outs = w.outs x; inns = old.links.inns }

  along : (answer answer' : Answer) → answer ≡ answer' → SteppedWith old fresh i answer' took gave → SteppedWith old fresh i answer took gave
  along answer answer' e s = subst (λ (a : Answer). SteppedWith old fresh i a took gave) (sym e) s

  -- what the next step of a reader may do
  abbrev pub MayRead : First → Type 0
  MayRead (OfTable call) = MayCall old.plan old.links i call
  MayRead (OfAside (asides.TakeBytes j room)) = j < old.plan.links
  MayRead other = Unit {0}

  asides_by : (step : asides.Step) (answer : Answer) → first_in program ≡ Some (OfAside step) → MayRead (OfAside step) → MadeRead (table_of old) (table_of fresh) i reader reader' (OfAside step) answer → SteppedWith old fresh i answer took gave
  asides_by (asides.TakeBytes j room) answer next may w = along answer (OfTake w.0) w.1 (take_reads j room w.0 next may w.2)
  asides_by _ answer next may w = along answer Unasked w.0 (aside_reads _ next tt w.1)

  pub reads_by : (step : ReadStep) (answer : Answer) → first_in program ≡ Some (step_as reader.asked step) → MayRead (step_as reader.asked step) → MadeRead (table_of old) (table_of fresh) i reader reader' (step_as reader.asked step) answer → SteppedWith old fresh i answer took gave
  reads_by (steps.Table call) answer next may w = along answer Unasked w.0 (call_steps (step_of call) next may (letters_by call old.letters fresh.letters w.1.same.letters) w.1)
  reads_by (steps.Aside step) answer next may w = asides_by (aside_steps.step_of reader.asked step) answer next may w
