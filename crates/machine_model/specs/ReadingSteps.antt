-- What one step of a reader makes of a machine, by its kind.
use Rattle.std.specs.Prelude.{ℕ, ◌≡◌, ◌≢◌, ◌+◌, ◌<◌, ◌≤◌, ◌⊎◌, Bool, true, false, List, ◌++◌, length, slice_get, slice_set, option_map, Some, None}
use Rattle.std.specs.Io.KnownBytes.{append_known}
use mathlib.Core.Option as core
use lib.ListN.{get_elem?}
use Rattle.brpc_model.specs.ReturnedLink.{LinkEnd}
use Rattle.sock_io.specs.LinkHalves.{OutState, InState, Offer, IsServed, more_told}
use Rattle.run_theorems.specs.Heard.{answer_of, bytes_found}
use Rattle.run_theorems.specs.OfferedAtTakes.{GaveSo}
use Rattle.seat_programs.specs.Asides as asides
use Rattle.seat_programs.specs.Asides.{Found, Taking, Closed}
use Rattle.seat_programs.specs.FoundAndChangedAside.{found_in, at_last}
use Rattle.seat_programs.specs.TableSteps as calls
use Rattle.seat_programs.specs.Programs.{Program}
use Rattle.seat_programs.specs.Programs as programs
use Rattle.seat_programs.specs.StepTables.{word_of, word_after}
use Rattle.seat_programs.specs.Cores.{found_at, words_after}
use Rattle.seat_programs.specs.Ticks.{Answer, Unasked, OfTake, FitsTake}
use Rattle.seat_states.specs.program_steps.specs.SoundSeats.{AllowsWord}
use Rattle.call_points.specs.AsideCodeSteps.{after_word}
use Rattle.call_slots.specs.CallSlotSteps as slots
use Rattle.call_slots.specs.CallSlotSteps.{word_found}
use Rattle.call_points.specs.AsideCodeSteps as aside_steps
use Rattle.seat_states.specs.ProgramStepsOfMachine.{First, OfTable, OfAside, first_in, step_of}
use Rattle.reader_points.specs.declared.point.ReadStep.{ReadStep}
use Rattle.reader_points.specs.declared.point.ReadStep.TheVariants as steps
use Rattle.reader_points.specs.ReaderPoints.{IsWithin, MayFind}
use Rattle.reader_points.specs.ReaderCodeSteps.{step_as}
use Rattle.reader_seats.specs.ReaderState.{ReaderData, reader_program}
use Rattle.reader_seats.specs.ReaderGoesOn.{GoesOn}
use Rattle.machine_model.specs.declared.tick.Tick.{Tick}
use Rattle.machine_model.specs.MachineLinks.{AreAlwaysReady, TellClosing, is_done}
use Rattle.machine_model.specs.Machines.{MachineState, TableState, SameGivens, table_of}
use Rattle.machine_model.specs.MachineRuns.{SameLink, ShowsTaking}
use Rattle.machine_model.specs.MachineSteps.{AsMany, OutsAfter, FitsSlots, IsOfLinks, holders_after, beside}
use Rattle.machine_model.specs.TickAnswersOfStep.{OneWent, Tells}
use Rattle.seat_programs.specs.LoopRounds.{first_step}

-- ## Before a step

abbrev pub IsNextRead : TableState → ReaderData → ReadStep → Type 0
IsNextRead t reader step = first_in (reader_program t.calls reader) ≡ Some (step_as reader.asked step)

-- of the reader of link k
pub record NextReadIs (m : MachineState) (k : ℕ) (step : ReadStep) : Type 0 where
  pub reader : ReaderData
  pub at : get_elem? m.readers k ≡ core.some reader
  pub is : IsNextRead (table_of m) reader step

abbrev pub HasNoRead : MachineState → ℕ → Type 0
HasNoRead m k = (reader : ReaderData) → get_elem? m.readers k ≡ core.some reader → first_in (reader_program m.calls reader) ≡ None

-- what the point of a reader leaves to the rules
pub record MayRead (reader : ReaderData) (found : ℕ) : Type 0 where
  pub within : IsWithin reader.point
  pub word : MayFind reader.point found

abbrev pub FitsRead : TableState → ReaderData → ReadStep → Type 0
FitsRead t reader (steps.Table call) = let found = found_at t.words (word_of t.plan (step_of call)) in
    ((x : ℕ) → word_of t.plan (step_of call) ≡ core.some x → x < length t.words) × AllowsWord (step_of call) found × IsOfLinks t.plan.links (step_of call) × MayRead reader found
FitsRead t reader (steps.Aside step) = let aside = aside_steps.step_of reader.asked step in FitsSlots t step × ((word : ℕ) → found_in aside (beside t) core.none ≡ word_found aside word → MayRead reader word)

-- the next step of a reader of few calls, which fits the tables
pub record IsFitRead (t : TableState) (reader : ReaderData) (step : ReadStep) : Type 0 where
  pub calls : length t.calls ≤ 4096
  pub next : IsNextRead t reader step
  pub fits : FitsRead t reader step

abbrev pub ReadFits : MachineState → ℕ → ReadStep → Type 0
ReadFits m k step = (reader : ReaderData) → get_elem? m.readers k ≡ core.some reader → (length m.calls ≤ 4096) × FitsRead (table_of m) reader step

-- ## What a step makes

-- what no step of a reader changes
pub record SameTables (old fresh : TableState) : Type 0 where
  pub plans : SameGivens old fresh
  pub open plans use *
  pub letters : fresh.letters ≡ old.letters
  pub nexts : fresh.links.nexts ≡ old.links.nexts

-- a link that took and gave these bytes was offered what belongs to it behind a take as well, which found as much of it as the room takes, or nothing more
-- where all was given
pub record OffersOn (took : List ℕ) (finished : Bool) (gave : List ℕ) (before : Offer) (inn : InState) (room : ℕ) (taking : Taking) : Type 0 where
  pub offer : Offer
  pub is : inn.offer ≡ Some offer
  pub serve : offer.serve ≡ before.serve
  pub end : offer.end ≡ before.end
  pub served : IsServed took finished (gave ++ bytes_found taking) offer
  pub all : GaveSo before.serve before.end took finished gave room taking

-- the reading half of link k gave this, and the link shows it
pub record TakenFrom (old fresh : TableState) (k room : ℕ) (taking : Taking) : Type 0 where
  pub inn : InState
  pub at : get_elem? old.links.inns k ≡ core.some inn
  pub inn' : InState
  pub inns_are : fresh.links.inns ≡ slice_set old.links.inns k inn'
  pub gave : inn'.gave ≡ inn.gave + length (bytes_found taking)
  pub bytes : inn'.gave_bytes ≡ append_known inn.gave_bytes (bytes_found taking)
  pub fits : FitsTake room taking
  pub before : LinkEnd
  pub end_at : get_elem? old.ends k ≡ core.some before
  pub behind : LinkEnd
  pub ends_are : fresh.ends ≡ slice_set old.ends k behind
  pub same : SameLink before behind
  pub answers : behind.answers ≡ before.answers
  pub takes : behind.takes ≡ more_told before.takes (answer_of taking)
  pub faults : behind.put_faults ≡ before.put_faults
  pub shows : ShowsTaking taking behind
  -- it answers that it is closed only where its other end closed its half, which comes only where its writing half is finished
  pub closes : taking ≡ Closed → inn'.closing ≢ Some false
  pub closing : (inn'.closing ≡ inn.closing) ⊎ ((is_done old.links k ≡ true) × (inn'.closing ≡ option_map (λ _. true) inn.closing))
  -- where it was offered what belongs to it
  pub offers : (out : OutState) (before : Offer) (took gave : List ℕ) → get_elem? old.links.outs k ≡ core.some out → inn.offer ≡ Some before → out.took ≡ Some took → inn.gave_bytes ≡ Some gave → IsServed took out.finished gave before →
      OffersOn took out.finished gave before inn' room taking

module _ (old fresh : TableState) (i : ℕ) (reader reader' : ReaderData) where
  abbrev pub read_program : Program
  read_program = reader_program old.calls reader

  abbrev pub ReadsOn : Program → Type 0
  ReadsOn next = GoesOn old.calls next reader' old.outcomes fresh.outcomes

  -- a step on a word, or a move of a link
  pub record TableStepRead (call : calls.TableStep) : Type 0 where
    pub same : SameTables old fresh
    pub goes : ReadsOn (after_word read_program (found_at old.words (word_of old.plan call)))
    pub words : fresh.words ≡ words_after old.words (word_of old.plan call) (word_after call (found_at old.words (word_of old.plan call)))
    pub holders : fresh.links.holders ≡ holders_after i call old.links.holders
    pub outs : OutsAfter call old.links.outs fresh.links.outs
    pub inns : fresh.links.inns ≡ old.links.inns
    pub ids : fresh.ids ≡ old.ids
    pub ends : fresh.ends ≡ old.ends

  -- one on the ids
  pub record AsideRead (step : asides.Step) : Type 0 where
    pub same : SameTables old fresh
    pub next : Found step → Program
    pub is : first_step read_program ≡ programs.Aside step next
    pub found : Found step
    pub ids : slots.Makes old.ids step (core.some found) fresh.ids
    pub goes : ReadsOn (next found)
    pub words : fresh.words ≡ old.words
    pub links : fresh.links ≡ old.links
    pub ends : fresh.ends ≡ old.ends

  -- and a take: what isn't there won't come where the run is ending
  pub record TakeRead (k room : ℕ) (taking : Taking) : Type 0 where
    pub same : SameTables old fresh
    pub next : Taking → Program
    pub is : first_step read_program ≡ programs.Aside (asides.TakeBytes k room) next
    pub goes : ReadsOn (next (at_last old.ending taking))
    pub from : TakenFrom old fresh k room taking
    pub ids : fresh.ids ≡ old.ids
    pub words : fresh.words ≡ old.words
    pub holders : fresh.links.holders ≡ old.links.holders
    pub outs : fresh.links.outs ≡ old.links.outs

  abbrev pub MadeRead : First → Answer → Type 0
  MadeRead (OfTable call) answer = (answer ≡ Unasked) × TableStepRead call
  MadeRead (OfAside (asides.TakeBytes k room)) answer = (taking : Taking) × (answer ≡ OfTake taking) × TakeRead k room taking
  MadeRead (OfAside step) answer = (answer ≡ Unasked) × AsideRead step
  MadeRead other answer = ⊥

-- the reader at seat i makes this step, and its tick answers this
pub record ReadTold (old fresh : TableState) (i : ℕ) (reader reader' : ReaderData) (step : ReadStep) (tick : Tick) : Type 0 where
  pub answer : Answer
  pub made : MadeRead old fresh i reader reader' (step_as reader.asked step) answer
  pub tells : Tells old (reader_program old.calls reader) answer tick

-- the reader of link k
pub record TickRead (old fresh : MachineState) (i k : ℕ) (step : ReadStep) (tick : Tick) : Type 0 where
  pub readers : OneWent old.readers fresh.readers k (λ reader reader'. ReadTold (table_of old) (table_of fresh) i reader reader' step tick)
  pub open readers use *
  pub seats : fresh.seats ≡ old.seats
  pub opens : fresh.opens ≡ old.opens
  pub short : fresh.short ≡ old.short

-- ## Where memory runs out

-- the tables keep their sizes, and the links are those that they were
pub record IsCutTable (old fresh : TableState) : Type 0 where
  pub plans : SameGivens old fresh
  pub open plans use *
  pub many : AsMany old fresh
  pub as_many : length fresh.ends ≡ length old.ends
  pub each : (k : ℕ) (a b : LinkEnd) → slice_get old.ends k ≡ Some a → slice_get fresh.ends k ≡ Some b → SameLink a b
  pub always_ready : AreAlwaysReady old.links → AreAlwaysReady fresh.links
  pub tell : TellClosing old.links → TellClosing fresh.links

-- and so does the machine
pub record IsCutShort (old fresh : MachineState) : Type 0 where
  pub short : fresh.short ≡ true
  pub table : IsCutTable (table_of old) (table_of fresh)
  pub open table use *
  pub opens : fresh.opens ≡ old.opens
  pub seats : length fresh.seats ≡ length old.seats
  pub readers : length fresh.readers ≡ length old.readers
