-- The run of a script ends with no seat that has a step left, and with the life of each link past.
use Rattle.std.proofs.Common.{◌≡◌, ◌≢◌, ℕ, zero, suc, ◌+◌, ◌-◌, ◌<◌, ◌≤◌, ◌⊎◌, ⊎_elim, true, List, [], ◌∷◌, ◌++◌, length, length-append, replicate, get_or, Option, Some, None, refl, sym, ap, ◌∙◌, subst, arith}
use Rattle.std.specs.List.{AllByRecursion}
use Rattle.std.proofs.lemmas.List.{length-map, length-replicate}
use mathlib.Core.Option.{Option as Maybe}
use mathlib.Core.Option.{none, some, some-injective}
use lib.ListN.{get_elem?}
use Rattle.sock_words.specs.PackedWords.{socket_id_slot}
use Rattle.sock_words.specs.declared.plain.Plan.{Plan}
use Rattle.seat_programs.specs.brpc_model.specs.Items.{Item}
use Rattle.seat_programs.specs.brpc_model.specs.Operations.{Turn, clients, link_names}
use Rattle.sock_model.specs.declared.view.View.{View}
use Rattle.sock_model.specs.SocketTableLayout.{open_index}
use Rattle.corr_core.specs.declared.marks.Plan.{Plan as IdPlan}
use Rattle.corr_core.proofs.NoteSums.{at_length}
use Rattle.seat_programs.specs.id_rule.specs.LawfulIdTable as ids
use Rattle.seat_programs.specs.declared.task.Task.{Task}
use Rattle.seat_programs.specs.Programs.{Program, Rest}
use Rattle.seat_programs.specs.Tasks.{opens, calls, plan_of, id_plan_of}
use Rattle.seat_programs.specs.ClientProgram.{client_from}
use Rattle.seat_programs.specs.Cores.{Core, SeatState, resolved, next_step}
use Rattle.seat_programs.specs.Ticks.{Moment, quiet, run, AreAnswered, IsAlwaysReady, waits}
use Rattle.seat_programs.specs.ScheduledRuns as runs
use Rattle.seat_programs.specs.ScriptSetupToEnding.{sizes_of, programs, readers_from, all_programs, tasks_from, all_tasks, opening_calls, opened, ending, is_ending, set_up, played, IsRunWithCalls}
use Rattle.seat_programs.specs.Explained.{AreTasks}
use Rattle.owned_ids.specs.Below.programs_allowed.specs.program_steps.specs.SoundSeats.{Sound, IsAhead, AreFitting, views_along}
use Rattle.owned_ids.specs.Below.programs_allowed.specs.sock_runs.proofs.LinkTicks.{RetriesGo}
use Rattle.owned_ids.specs.Below.programs_allowed.specs.sock_runs.proofs.SoundAlongRuns.{run_sound, seat_rests}
use Rattle.owned_ids.specs.Below.programs_allowed.specs.program_walks.proofs.Records.{next_stores}
use Rattle.owned_ids.specs.Below.programs_allowed.specs.program_walks.proofs.Recorded.{Recorded}
use Rattle.owned_ids.specs.Below.programs_allowed.specs.program_walks.proofs.Rested.{IsPast}
use Rattle.owned_ids.specs.Below.programs_allowed.specs.sock_runs.proofs.TicksOfWaitingSeats.{still_settles}
use Rattle.owned_ids.specs.Below.programs_allowed.specs.program_walks.proofs.ReaderSeats.{AtReader}
use Rattle.owned_ids.specs.Below.programs_allowed.specs.program_walks.proofs.OpensStay.{readers_begin}
use Rattle.owned_ids.specs.Below.programs_allowed.specs.program_walks.proofs.LinksRecorded.{Linked}
use Rattle.owned_ids.specs.Below.programs_allowed.specs.program_walks.proofs.LinksOpening.{OpensLink, OwnsLink, script_owns, others_give, beginning_linked}
use Rattle.owned_ids.specs.Below.programs_allowed.specs.program_walks.proofs.WholeScriptSound.{AreFittingIn, Begins, IsOwed, IsListed, views_closed, set_up_answered, end_answered, set_up_sound, rested_ahead, rested_idle, closing_sound, closed_sound, ended_ahead, recorded_opened, recorded_set_up, recorded_closing, recorded_closed}
use Rattle.owned_ids.specs.Below.id_runs.specs.HeldIdTokens.{IdView}
use Rattle.owned_ids.specs.Below.id_runs.specs.Goes.{SoundIds}
use Rattle.owned_ids.specs.call_owing.specs.Owing.{Owing}
use Rattle.owned_ids.specs.call_owing.specs.SoundOwing.{id_word_of, SoundOwing}
use Rattle.owned_ids.specs.call_owing.specs.LivesOfLinks.{id_of, life_of, AreSaying}
use Rattle.owned_ids.specs.call_owing.specs.SettledSeats as settled
use Rattle.owing_ticks.proofs.OwingRuns.{Reaches, id_is}
use Rattle.owed_calls.proofs.WholeOwing.{Parts, readers₆, many₂, many₆, linked_at_end, links_stand, owed_at_end}
use Rattle.owing_ticks.proofs.OwedAtBeginning.{owing_begins}
use Rattle.owed_calls.proofs.LivesPastAtEnd.{is_settled, lives_past, all_ranges_ended}

-- what a script is known to be: it has few clients and calls, and an operation for each `open` of a link; and its ids begin unused
pub record IsKnown (script : List Item) : Type 0 where
  pub narrow : (id_plan_of script).slots ≤ 65536
  pub few : length (all_tasks script) ≤ 32
  pub as_many : length (opens script) ≡ length (link_names script)
  pub in_script : (k o : ℕ) → get_elem? (opens script) k ≡ some o → o < (plan_of script).operations
  pub unused : ids.Unused (id_plan_of script) (opening_calls (id_plan_of script) (plan_of script).links).words

-- of its end: the ids are sound, each seat is at rest or waits while the run is ending, and a client at rest has made its `open`s
pub record IsAtEnd (script : List Item) (core : Core) : Type 0 where
  pub ids_end : (ws : List IdView) × SoundIds (plan_of script) (id_plan_of script) core ws
  pub still : (i : ℕ) → i < length core.seats → runs.IsAtRest core i ⊎ ((m : Moment) × (m.seat ≡ i) × IsAlwaysReady m × (waits (plan_of script) core m ≡ true))
  pub flag : core.calls.ending ≡ true
  pub stored : (n o : ℕ) → get_elem? (opens script) n ≡ some o → ((i : ℕ) → i < 32 → i < length core.seats → settled.IsAtRest core i) → get_or core.words (open_index (plan_of script) o) 0 ≢ 0

pub tasks_own : (script : List Item) (client n : ℕ) → AllByRecursion (AllByRecursion (λ (t : Task). OwnsLink (OpensLink (opens script)) t.number t.op)) (tasks_from script client n)
tasks_own script client zero = tt
tasks_own script client (suc n) = (script_owns script client, tasks_own script (client + 1) n)

some_place : (l : List ℕ) (k : ℕ) (o : ℕ) → get_elem? l k ≡ some o → k < length l
some_place l k o at = at_length l k o at

-- how many seats there are
pub opened_seats : (script : List Item) → length (all_tasks script) ≤ 32 → length (opened script).seats ≡ 32 + length (opens script)
opened_seats script few = let first : List Program = programs (sizes_of (plan_of script) (id_plan_of script)) (all_tasks script) in let l : length first ≡ length (all_tasks script) = length-map (all_tasks script) (client_from (sizes_of (plan_of script) (id_plan_of script)) []) in
    let made : Program → SeatState = λ program. record { program = next_step (resolved [] program); hand = [] } in let s = length-map (all_programs first (readers_from (calls script) 0 (opens script))) made in
    let a = length-append first (replicate (32 - length first) Rest ++ readers_from (calls script) 0 (opens script)) in let b = length-append (replicate (32 - length first) Rest) (readers_from (calls script) 0 (opens script)) in
    let r = length-replicate (32 - length first) Rest in let m = many_readers 0 (opens script) in omega (arith, s, a, b, r, l, m, few)
  where
    many_readers : (k : ℕ) (l : List ℕ) → length (readers_from (calls script) k l) ≡ length l
    many_readers k [] = refl
    many_readers k (o ∷ l) = let e = many_readers (k + 1) l in omega (arith, e)

module _ (script : List Item) (are : AreTasks (plan_of script) (all_tasks script)) (vs : List View) (begins : Begins script vs) (go : RetriesGo (plan_of script)) (turns : List Turn) (core : Core) (is : IsRunWithCalls script turns core)
    (fitting : AreFittingIn script turns core is) (known : IsKnown script) (end_ : IsAtEnd script core) where
  abbrev pub p : Plan
  p = plan_of script

  abbrev pub q : IdPlan
  q = id_plan_of script

  abbrev pub os : List ℕ
  os = opens script

  abbrev pub m₁ : List Moment
  m₁ = replicate is.setup (quiet 0)

  abbrev pub m₃ : List Moment
  m₃ = replicate is.last (quiet 0)

  abbrev pub c₅ : Core
  c₅ = is_ending (run (plan_of script) (ending script (played script is.setup (is.scheduled ++ is.later))) (replicate is.last (quiet 0)))

  abbrev pub c₆ : Core
  c₆ = run (plan_of script) c₅ is.final

  pub core_is : core ≡ c₆
  core_is = is.is_end ∙ ap (λ d. run (plan_of script) d is.final) is.is_ended

  pub many_seats : length (opened script).seats ≡ 32 + length (opens script)
  many_seats = opened_seats script known.few

  pub parts : Parts p q known.narrow refl (calls script) os known.in_script go (IsListed script) (opened script) vs m₁ (is.scheduled ++ is.later) m₃ is.final
  parts = record {
    first = record {
      sound = begins.sound;
      answered = set_up_answered script are vs begins go turns core is fitting;
      fits = fitting.of_setup;
      recorded = recorded_opened script are vs begins go turns core is fitting;
    };
    second = record {
      sound = set_up_sound script are vs begins go turns core is fitting;
      answered = is.answered;
      fits = fitting.of_played;
      recorded = recorded_set_up script are vs begins go turns core is fitting;
    };
    third = record {
      sound = closing_sound script are vs begins go turns core is fitting;
      answered = end_answered script are vs begins go turns core is fitting;
      fits = fitting.of_closing;
      recorded = recorded_closing script are vs begins go turns core is fitting;
    };
    last = record {
      sound = subst (λ d. Sound p d (views_closed script turns core is vs)) is.is_ended (closed_sound script are vs begins go turns core is fitting);
      answered = subst (λ d. AreAnswered p d is.final) is.is_ended is.answered_again;
      fits = subst (λ d. AreFitting p d is.final) is.is_ended fitting.of_final;
      recorded = subst (λ d. Recorded p (IsListed script) d (views_closed script turns core is vs)) is.is_ended (recorded_closed script are vs begins go turns core is fitting);
    };
    readers = readers_begin p q (programs (sizes_of p q) (all_tasks script)) (calls script) os (let l = length-map (all_tasks script) (client_from (sizes_of p q) []) in let f = known.few in omega (arith, l, f));
    many = many_seats;
  }

  abbrev pub v₆ : List View
  v₆ = views_along (plan_of script) c₅ (views_closed script turns core is vs) is.final

  pub sound₆ : Sound p c₆ v₆
  sound₆ = run_sound p go c₅ (views_closed script turns core is vs) is.final parts.last.sound parts.last.answered parts.last.fits

  pub ahead₆ : IsAhead c₆
  ahead₆ = subst IsAhead core_is (ended_ahead script are vs begins go turns core is fitting)

  pub still₆ : (i : ℕ) → i < length c₆.seats → runs.IsAtRest c₆ i ⊎ ((m : Moment) × (m.seat ≡ i) × IsAlwaysReady m × (waits p c₆ m ≡ true))
  still₆ = subst (λ d. (i : ℕ) → i < length d.seats → runs.IsAtRest d i ⊎ ((m : Moment) × (m.seat ≡ i) × IsAlwaysReady m × (waits (plan_of script) d m ≡ true))) core_is end_.still

  -- seat 0 is at rest before the ending
  rest₀ : (seat : SeatState) → get_elem? (played script is.setup (is.scheduled ++ is.later)).seats 0 ≡ some seat → seat.program ≡ Rest
  rest₀ seat at = seat_rests (played script is.setup (is.scheduled ++ is.later)) (rested_ahead script are vs begins go turns core is fitting) 0 (rested_idle script are vs begins go turns core is fitting) seat at

  linked₆ : Linked p (OpensLink os) c₆ v₆
  linked₆ = linked_at_end p q known.narrow refl (calls script) os known.in_script go (IsListed script) (opened script) vs m₁ (is.scheduled ++ is.later) m₃ is.final parts
      (beginning_linked (OpensLink os) p q (all_tasks script) (replicate (32 - length (programs (sizes_of p q) (all_tasks script))) Rest ++ readers_from (calls script) 0 os) (tasks_own script 0 (clients script + 1))
      (others_give (OpensLink os) (32 - length (programs (sizes_of p q) (all_tasks script))) (calls script) os 0) vs begins.blank) rest₀

  -- at the end no seat stores anything next
  none_stores : (j : ℕ) (seat : SeatState) → get_elem? c₆.seats j ≡ some seat → next_stores seat.program ≡ none
  none_stores j seat at = ⊎_elim (λ rest. ap next_stores (seat_rests c₆ ahead₆ j rest seat at))
      (λ s. ap (λ (x : SeatState). next_stores x.program) (some-injective seat s.0 (sym at ∙ s.1)) ∙ ap next_stores s.2.2)
      (still_settles p c₆ v₆ sound₆ ahead₆ still₆ j (at_length c₆.seats j seat at))

  -- the life of a link stands in the word of its `open`
  opened_at : (k s : ℕ) → life_of p os c₆.words k ≡ Some s → (o : ℕ) × (get_elem? os k ≡ some o) × (id_of (get_or c₆.words (open_index p o) 0) ≡ Some s)
  opened_at k s lives = by_open (get_elem? os k) refl lives
    where
      by_open : (x : Maybe ℕ) → get_elem? os k ≡ x → elim x as (λ x. Option ℕ) [ none ↦ None | some o ↦ id_of (get_or c₆.words (open_index p o) 0) ] ≡ Some s → (o : ℕ) × (get_elem? os k ≡ some o) × (id_of (get_or c₆.words (open_index p o) 0) ≡ Some s)
      by_open none at e = absurd (let z : None ≡ Some s = e in cc)
      by_open (some o) at e = (o, at, e)

  pub slots₆ : (k s : ℕ) → life_of p os c₆.words k ≡ Some s → socket_id_slot s < p.slots
  slots₆ k s lives = let x = opened_at k s lives in let named = id_is (get_or c₆.words (open_index p x.0) 0) s x.2 in let is_word = named.0 in
      let n = (sound₆.lawful.references.named.opens x.0 (known.in_script k x.0 x.1) named.1 (λ z. omega (arith, is_word, z))).0 in
      subst (λ y. socket_id_slot y < (plan_of script).slots) (let z : s + 1 - 1 ≡ s = omega arith in z) (subst (λ y. socket_id_slot (y - 1) < (plan_of script).slots) is_word n)

  alive : (k s : ℕ) → life_of p os c₆.words k ≡ Some s → k < length os
  alive k s lives = let x = opened_at k s lives in some_place os k x.0 x.1

  pub links₆ : (k s : ℕ) → life_of p os c₆.words k ≡ Some s → k < 65535
  links₆ k s lives = let a = alive k s lives in let few = sound₆.limits.links in let many = known.as_many in omega (arith, a, few, many)

  pub reach₆ : Reaches p q known.narrow refl (calls script) os c₆.words known.in_script slots₆ links₆ c₆ v₆
  reach₆ = record { stays = λ o inside some_. refl; given = links_stand p os c₆ v₆ sound₆ linked₆ none_stores }

  begun : (us : List Owing) × SoundOwing q (life_of p os c₆.words) (calls script) (opened script) us
  begun = owing_begins (life_of p os c₆.words) (calls script) (length os) p q (all_tasks script) os refl known.few (let many = known.as_many in omega (arith, many)) known.unused alive

  first_seat : (seat : SeatState) × (get_elem? (played script is.setup (is.scheduled ++ is.later)).seats 0 ≡ some seat)
  first_seat = some_first (played script is.setup (is.scheduled ++ is.later)).seats (let m = many₂ p q known.narrow refl (calls script) os known.in_script go (IsListed script) (opened script) vs m₁ (is.scheduled ++ is.later) m₃ is.final parts in omega (arith, m))
    where
      some_first : (l : List SeatState) → 0 < length l → (seat : SeatState) × (get_elem? l 0 ≡ some seat)
      some_first [] low = absurd (let z : ⊥ = omega (arith, low) in z)
      some_first (x ∷ xs) low = (x, refl)

  pub ids₆ : (ws : List IdView) × SoundIds p q c₆ ws
  ids₆ = subst (λ d. (ws : List IdView) × SoundIds (plan_of script) (id_plan_of script) d ws) core_is end_.ids_end

  pub flag₆ : c₆.calls.ending ≡ true
  flag₆ = ap (λ (d : Core). d.calls.ending) (sym core_is) ∙ end_.flag

  pub stored₆ : (n o : ℕ) → get_elem? os n ≡ some o → ((i : ℕ) → i < 32 → i < length c₆.seats → settled.IsAtRest c₆ i) → get_or c₆.words (open_index p o) 0 ≢ 0
  stored₆ = subst (λ d. (n o : ℕ) → get_elem? (opens script) n ≡ some o → ((i : ℕ) → i < 32 → i < length d.seats → settled.IsAtRest d i) → get_or d.words (open_index (plan_of script) o) 0 ≢ 0) core_is end_.stored

  -- where at each tick it is said what those who owe rely on
  module _ (says₁ : AreSaying p q (life_of p os c₆.words) (calls script) (opened script) m₁) (says₂ : AreSaying p q (life_of p os c₆.words) (calls script) (set_up script is.setup) (is.scheduled ++ is.later))
      (says₃ : AreSaying p q (life_of p os c₆.words) (calls script) (ending script (played script is.setup (is.scheduled ++ is.later))) m₃) (says₄ : AreSaying p q (life_of p os c₆.words) (calls script) c₅ is.final) where
    pub owed₆ : (us : List Owing) × SoundOwing q (life_of p os c₆.words) (calls script) c₆ us
    owed₆ = owed_at_end p q known.narrow refl (calls script) os known.in_script go (IsListed script) (opened script) vs m₁ (is.scheduled ++ is.later) m₃ is.final parts slots₆ links₆ reach₆
        says₁ says₂ says₃ says₄
        first_seat.0 first_seat.1 (rest₀ first_seat.0 first_seat.1) begun.0 begun.1

    readers_end : (n o : ℕ) → get_elem? os n ≡ some o → AtReader p (calls script) (32 + n) n o c₆
    readers_end = readers₆ p q known.narrow refl (calls script) os known.in_script go (IsListed script) (opened script) vs m₁ (is.scheduled ++ is.later) m₃ is.final parts

    many_end : length c₆.seats ≡ 32 + length os
    many_end = many₆ p q known.narrow refl (calls script) os known.in_script go (IsListed script) (opened script) vs m₁ (is.scheduled ++ is.later) m₃ is.final parts

    -- who owes a call ends it
    pub is_owed : IsOwed script turns core is
    is_owed = record {
      after = subst runs.IsSettled (sym core_is) (is_settled p q (calls script) os known.in_script c₆ v₆ sound₆ ahead₆ flag₆ still₆ owed₆.0 owed₆.1 ids₆.0 ids₆.1 readers_end many_end stored₆);
      past = λ o n at. subst (λ d. IsPast (plan_of script) d o) (sym core_is) (lives_past p q (calls script) os known.in_script c₆ v₆ sound₆ ahead₆ flag₆ still₆ owed₆.0 owed₆.1 ids₆.0 ids₆.1 readers_end many_end stored₆ o n at);
    }

    -- and each id range has ended
    pub ranges_end : (i : ℕ) → i < q.slots → (id_word_of core i).state ≡ 0
    ranges_end i inside = ap (λ (d : Core). (id_word_of d i).state) core_is ∙ all_ranges_ended p q (calls script) os known.in_script c₆ v₆ sound₆ ahead₆ flag₆ still₆ owed₆.0 owed₆.1 ids₆.0 ids₆.1 readers_end many_end i inside

    -- what each seat owes then, which is nothing
    pub owing_end : (us : List Owing) × SoundOwing q (life_of p os core.words) (calls script) core us
    owing_end = subst (λ (d : Core). (us : List Owing) × SoundOwing (id_plan_of script) (life_of (plan_of script) (opens script) d.words) (calls script) d us) (sym core_is) owed₆
