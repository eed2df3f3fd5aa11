-- What is owed to calls where the ending begins: whoever owes an open id its end is the reader of the link that the at word of its attempt names, which reads that link.
use Rattle.std.proofs.Common.{◌≡◌, ℕ, ◌+◌, ◌-◌, ◌<◌, ◌≤◌, false, List, [], ◌∷◌, ◌++◌, length, get_or, replicate, Option, Some, None, refl, sym, ap, ◌∙◌, subst, arith}
use Rattle.std.specs.List.{AllByRecursion}
use Rattle.std.proofs.lemmas.List.{length-map}
use Rattle.std.specs.Prelude.{true}
use mathlib.Core.Logic.{dite}
use native.Mathlib.Decide.{dec_le}
use mathlib.Core.Option.{Option as Maybe}
use mathlib.Core.Option.{none, some}
use lib.ListN.{get_elem?}
use Rattle.chain_steps.proofs.TicketLists.{at_some}
use Rattle.sock_words.specs.PackedWords.{at_word, socket_id, socket_id_slot, id_slot, id_first}
use Rattle.sock_model.specs.declared.view.View.{View}
use Rattle.sock_model.specs.SocketTableLayout.{open_index}
use Rattle.brpc_model.specs.Items.{Item}
use Rattle.brpc_model.specs.Frame.{Frame}
use Rattle.brpc_model.specs.Operations.{Turn, clients}
use Rattle.served_fits.specs.Below.script_facts.proofs.ReadScriptFacts.{InRange}
use Rattle.served_fits.specs.Below.script_facts.proofs.Targets.{AreThere}
use Rattle.seat_programs.specs.ClientProgram.{client_from}
use Rattle.seat_programs.specs.LoopHeads.{Exit, Reading, Joins, Opens, Reads, Discards}
use Rattle.seat_programs.specs.Programs.{Program, Rest, Round}
use Rattle.seat_programs.specs.ReaderProgram.{post_each, read, reader}
use Rattle.seat_programs.specs.Cores.{Core, SeatState}
use Rattle.seat_programs.specs.Ticks.{Moment, quiet}
use Rattle.seat_programs.specs.Tasks.{opens, calls, plan_of, id_plan_of}
use Rattle.seat_programs.specs.ScriptSetupToEnding.{sizes_of, programs, readers_from, all_tasks, opened, set_up, played, IsRunWithCalls}
use Rattle.served_fits.specs.Below.programs_allowed.specs.program_steps.specs.SoundSeats.{Sound, views_along}
use Rattle.served_fits.specs.Below.programs_allowed.specs.program_walks.proofs.LinksRecorded.{Linked, run_linked}
use Rattle.served_fits.specs.Below.programs_allowed.specs.sock_runs.proofs.LinksStay.{IsGiven}
use Rattle.served_fits.specs.Below.programs_allowed.specs.program_walks.proofs.LinksOpening.{OpensLink, others_give, beginning_linked}
use Rattle.served_fits.specs.Below.programs_allowed.specs.program_walks.proofs.OpensStay.{readers_begin}
use Rattle.served_fits.specs.Below.programs_allowed.specs.sock_runs.proofs.Quiets.{run_seats}
use Rattle.served_fits.specs.Below.programs_allowed.specs.program_walks.proofs.ReaderSeats.{AtReader, run_reader, waits_own}
use Rattle.served_fits.specs.Below.programs_allowed.specs.program_walks.proofs.Records.{next_stores}
use Rattle.served_fits.specs.Below.programs_allowed.specs.program_walks.proofs.WholeScriptSound.{IsListed, views_played, set_up_answered, set_up_sound, played_sound, recorded_opened, recorded_set_up}
use Rattle.served_fits.specs.Below.programs_allowed.proofs.WordsAtBeginning as clients_begin
use Rattle.served_fits.specs.Below.joint_runs.proofs.RunsOfBothTables.{AreMade, first_views, joint_runs}
use Rattle.served_fits.specs.Below.call_owing.specs.LivesOfLinks.{id_of, life_of, AreSaying, ClosesInRun}
use Rattle.served_fits.specs.Below.call_owing.specs.Owes.{OwesOn}
use Rattle.served_fits.specs.Below.call_owing.specs.Owing.{Free, Owing, InList, Among, DutyTo, with_dead}
use Rattle.served_fits.specs.Below.call_owing.specs.SoundOwing.{at_of, IsOpen, Owed, by_seat, by_retry, by_reader, retry_tokens, SoundOwing}
use Rattle.served_fits.specs.Below.owing_ticks.proofs.OwedAtBeginning.{owing_begins}
use Rattle.served_fits.specs.Below.call_owing.proofs.EndsStill.{view_of}
use Rattle.served_fits.specs.Below.owed_calls.proofs.OwedCallsAreEnded.{run_keeps, opens_apart, quiet_closes}
use Rattle.served_fits.specs.Below.owed_calls.proofs.NothingOwedAtEnd.{tasks_own, opened_seats}
use Rattle.served_fits.specs.Below.owing_ticks.proofs.OwingRuns.{Reaches, id_is, run_owing, reach_back}
use Rattle.served_fits.specs.Below.owed_calls.proofs.OwedPremisesAtTicks.{says_along}
use Rattle.served_fits.specs.Below.owed_calls.proofs.WholeOwing.{links_stand}
use Rattle.served_fits.specs.Below.owned_ids.proofs.WordsGiven.{Named, names_others, beginning_named, run_named}
use Rattle.served_fits.specs.Below.call_causes.proofs.HandledResponses.{Sit}
use Rattle.served_fits.specs.Below.call_causes.proofs.HandledSteps.{State, waiting, reading, seeking, taking, ending_, freeing, over}
use Rattle.served_fits.specs.Below.call_causes.proofs.HandledStates.{After}
use Rattle.served_fits.specs.Below.accept_counts.proofs.EarlyClosedSockets.{start, go, fitting, known, clients_take_none}
use Rattle.served_fits.specs.Below.accept_counts.proofs.Takeless.{NoTakes}
use Rattle.calls_over.proofs.AllHandledAtEnding.{reads_before}
use Rattle.served_fits.specs.Below.accept_counts.proofs.SeatsStandingAtEnding.{Stands, resting, joining, opening, discarding, stands}
use Rattle.served_fits.specs.Below.accept_counts.proofs.SeatsStandingAtEnding as still
use Rattle.served_fits.specs.Below.accept_counts.proofs.Grounds.{setting, stages}
use Rattle.corr_core.proofs.NoteSums.{at_length}

-- ## A reader keeps no retry

-- behind its posts it rests
posts_keep : (life : ℕ → Option ℕ) (os : List ℕ) (k code : ℕ) (kept : List Frame) (u : Owing) → OwesOn life u (post_each os k code kept Rest) → u.keeps ≡ false
posts_keep life [] k code kept u g = g.2
posts_keep life (o ∷ os) k code kept u g = let x = g.1 0 tt in ap (λ (v : Owing). v.keeps) (sym x.1.4) ∙ posts_keep life os k code kept x.0 x.2

reads_keep : (life : ℕ → Option ℕ) (calls : List ℕ) (r : Reading) (u : Owing) → OwesOn life u (Round (Reads r) (read calls)) → u.keeps ≡ false
reads_keep life calls r u g = posts_keep life calls r.link 1014 r.kept (with_dead u)
    (g.1 (record { code = 1014; closed = true; fault = false; reading = r }) (with_dead u) (record { duty = refl; knows = λ id n a. a; keeps = refl; link = refl; left = refl; dead = refl }, refl, refl, refl))

-- no seat stores a word next where it stands so
stores_nothing : (script : List Item) (c : Core) (program : Program) → Stands script c program → next_stores program ≡ none
stores_nothing script c program (resting e) = ap next_stores e
stores_nothing script c program (joining id next e inside waits_) = ap next_stores e
stores_nothing script c program (opening o next e z) = ap next_stores e
stores_nothing script c program (still.reading r next e) = ap next_stores e
stores_nothing script c program (discarding k total next e) = ap next_stores e

-- ## What each seat owes

module _ (script : List Item) (made : AreMade script) (turns : List Turn) (core : Core) (is : IsRunWithCalls script turns core) (closes : ClosesInRun script turns core is) where
  open setting script use {p, q, os, vs}

  abbrev m₁ : List Moment
  m₁ = replicate is.setup (quiet 0)

  abbrev m₂ : List Moment
  m₂ = is.scheduled ++ is.later

  open stages script turns core is use {rested}

  abbrev v₁ : List View
  v₁ = views_along (plan_of script) (opened script) (first_views script) (replicate is.setup (quiet 0))

  abbrev v₂ : List View
  v₂ = views_played script turns core is (first_views script)

  -- the lives of links, by the words of their `open`s where the ending begins
  abbrev pub lives_there : ℕ → Option ℕ
  lives_there = life_of (plan_of script) (opens script) (played script is.setup (is.scheduled ++ is.later)).words

  narrow : (id_plan_of script).slots ≤ 65536
  narrow = let k = known script made turns core is in k.narrow

  in_script : (k o : ℕ) → get_elem? (opens script) k ≡ some o → o < (plan_of script).operations
  in_script = let k = known script made turns core is in k.in_script

  sound₁ : Sound p (set_up script is.setup) v₁
  sound₁ = set_up_sound script made.are vs (start script made turns core is) (go script made turns core is) turns core is (fitting script made turns core is)

  sound₂ : Sound p rested v₂
  sound₂ = played_sound script made.are vs (start script made turns core is) (go script made turns core is) turns core is (fitting script made turns core is)

  readers₀ : (n o : ℕ) → get_elem? os n ≡ some o → AtReader p (calls script) (32 + n) n o (opened script)
  readers₀ = readers_begin p q (programs (sizes_of p q) (all_tasks script)) (calls script) os (let l = length-map (all_tasks script) (client_from (sizes_of p q) []) in let f = (let k = known script made turns core is in k.few) in omega (arith, l, f))

  readers₁ : (n o : ℕ) → get_elem? os n ≡ some o → AtReader p (calls script) (32 + n) n o (set_up script is.setup)
  readers₁ n o at = run_reader p (calls script) (32 + n) n o (in_script n o at) (go script made turns core is) (opened script) vs m₁ (let s = start script made turns core is in s.sound)
      (set_up_answered script made.are vs (start script made turns core is) (go script made turns core is) turns core is (fitting script made turns core is)) (let f = fitting script made turns core is in f.of_setup) (readers₀ n o at)

  readers₂ : (n o : ℕ) → get_elem? os n ≡ some o → AtReader p (calls script) (32 + n) n o rested
  readers₂ n o at = run_reader p (calls script) (32 + n) n o (in_script n o at) (go script made turns core is) (set_up script is.setup) v₁ m₂ sound₁ is.answered (let f = fitting script made turns core is in f.of_played) (readers₁ n o at)

  many₀ : length (opened script).seats ≡ 32 + length os
  many₀ = opened_seats script (let k = known script made turns core is in k.few)

  many₁ : length (set_up script is.setup).seats ≡ 32 + length os
  many₁ = run_seats p (opened script) m₁ ∙ many₀

  pub many : length (played script is.setup (is.scheduled ++ is.later)).seats ≡ 32 + length (opens script)
  many = run_seats p (set_up script is.setup) m₂ ∙ many₁

  -- ## What is known of links

  linked : Linked p (OpensLink os) rested v₂
  linked = let s = start script made turns core is in let g = go script made turns core is in let f = fitting script made turns core is in
      run_linked p g (OpensLink os) (IsListed script) (set_up script is.setup) v₁ m₂ sound₁ is.answered f.of_played (recorded_set_up script made.are vs s g turns core is f)
      (run_linked p g (OpensLink os) (IsListed script) (opened script) vs m₁ s.sound (set_up_answered script made.are vs s g turns core is f) f.of_setup (recorded_opened script made.are vs s g turns core is f)
      (beginning_linked (OpensLink os) p q (all_tasks script) (replicate (32 - length (programs (sizes_of p q) (all_tasks script))) Rest ++ readers_from (calls script) 0 os) (tasks_own script 0 (clients script + 1))
      (others_give (OpensLink os) (32 - length (programs (sizes_of p q) (all_tasks script))) (calls script) os 0) vs s.blank))

  -- each life that was given a link stands in the word of the link's `open`
  pub given_life : (i h k : ℕ) → i < (plan_of script).slots → IsGiven (played script is.setup (is.scheduled ++ is.later)) (views_played script turns core is (first_views script)) i h k → lives_there k ≡ Some (socket_id h i)
  given_life i h k inside given = links_stand p os rested v₂ sound₂ linked (λ j seat at. stores_nothing script rested seat.program (stands script made turns core is j seat at)) i h k inside given

  -- the life of a link stands in the word of its `open`
  pub opened_at : (k s : ℕ) → lives_there k ≡ Some s → (o : ℕ) × (get_elem? (opens script) k ≡ some o) × (id_of (get_or (played script is.setup (is.scheduled ++ is.later)).words (open_index (plan_of script) o) 0) ≡ Some s)
  opened_at k s lives = by_open (get_elem? os k) refl lives
    where
      by_open : (x : Maybe ℕ) → get_elem? os k ≡ x → elim x as (λ x. Option ℕ) [ none ↦ None | some o ↦ id_of (get_or rested.words (open_index p o) 0) ] ≡ Some s → (o : ℕ) × (get_elem? os k ≡ some o) × (id_of (get_or rested.words (open_index p o) 0) ≡ Some s)
      by_open none at e = absurd (let z : None ≡ Some s = e in cc)
      by_open (some o) at e = (o, at, e)

  slots : (k s : ℕ) → life_of p os rested.words k ≡ Some s → socket_id_slot s < p.slots
  slots k s lives = let x = opened_at k s lives in let named = id_is (get_or rested.words (open_index p x.0) 0) s x.2 in let is_word = named.0 in
      let n = (sound₂.lawful.references.named.opens x.0 (in_script k x.0 x.1) named.1 (λ z. omega (arith, is_word, z))).0 in
      subst (λ y. socket_id_slot y < (plan_of script).slots) (let z : s + 1 - 1 ≡ s = omega arith in z) (subst (λ y. socket_id_slot (y - 1) < (plan_of script).slots) is_word n)

  alive : (k s : ℕ) → life_of p os rested.words k ≡ Some s → k < length os
  alive k s lives = let x = opened_at k s lives in at_length os k x.0 x.1

  as_many : length os ≡ p.links
  as_many = let k = known script made turns core is in k.as_many

  links : (k s : ℕ) → life_of p os rested.words k ≡ Some s → k < 65535
  links k s lives = let a = alive k s lives in let few = sound₂.limits.links in let m = as_many in omega (arith, a, few, m)

  abbrev Reach : Core → List View → Type 0
  Reach c ws = Reaches p q narrow refl (calls script) os rested.words in_script slots links c ws

  reach₂ : Reach rested v₂
  reach₂ = record { stays = λ o inside some_. refl; given = given_life }

  reach₁ : Reach (set_up script is.setup) v₁
  reach₁ = let s = start script made turns core is in let g = go script made turns core is in let f = fitting script made turns core is in
      reach_back p q narrow refl (calls script) os rested.words in_script slots links g (IsListed script) (set_up script is.setup) v₁ m₂ sound₁ is.answered f.of_played (recorded_set_up script made.are vs s g turns core is f) reach₂

  -- ## What is owed

  named₀ : Named p (OpensLink os) (opened script) vs
  named₀ = let first = programs (sizes_of p q) (all_tasks script) in
      beginning_named p (OpensLink os) q (all_tasks script) (replicate (32 - length first) Rest ++ readers_from (calls script) 0 os) (tasks_own script 0 (clients script + 1)) (names_others (OpensLink os) (32 - length first) (calls script) os 0) vs
      (λ o inside. (let u = clients_begin.unused (plan_of script) in u.opens) o inside)

  named₁ : Named p (OpensLink os) (set_up script is.setup) v₁
  named₁ = let s = start script made turns core is in let g = go script made turns core is in let f = fitting script made turns core is in
      run_named p g (OpensLink os) (opened script) vs m₁ s.sound (set_up_answered script made.are vs s g turns core is f) f.of_setup named₀

  abbrev Says : Core → List Moment → Type 0
  Says c ms = AreSaying p q (life_of p os rested.words) (calls script) c ms

  says₁ : Says (opened script) m₁
  says₁ = let s = start script made turns core is in let g = go script made turns core is in let f = fitting script made turns core is in let runs = joint_runs script turns core is made in let kept = run_keeps script made turns core is in
      says_along p q narrow refl (calls script) os rested.words in_script slots links (opens_apart script) as_many g (IsListed script) (opened script) vs m₁ s.sound (set_up_answered script made.are vs s g turns core is f) f.of_setup
      (recorded_opened script made.are vs s g turns core is f) readers₀ many₀ named₀ runs.setup (quiet_closes p (opened script) is.setup) kept.of_setup reach₁

  says₂ : Says (set_up script is.setup) m₂
  says₂ = let s = start script made turns core is in let g = go script made turns core is in let f = fitting script made turns core is in let runs = joint_runs script turns core is made in let kept = run_keeps script made turns core is in
      says_along p q narrow refl (calls script) os rested.words in_script slots links (opens_apart script) as_many g (IsListed script) (set_up script is.setup) v₁ m₂ sound₁ is.answered f.of_played
      (recorded_set_up script made.are vs s g turns core is f) readers₁ many₁ named₁ runs.clients closes.played kept.of_played reach₂

  begun : (us : List Owing) × SoundOwing q (life_of p os rested.words) (calls script) (opened script) us
  begun = let k = known script made turns core is in
      owing_begins (life_of p os rested.words) (calls script) (length os) p q (all_tasks script) os refl k.few (let m = k.as_many in omega (arith, m)) k.unused alive

  pub owing : (us : List Owing) × SoundOwing (id_plan_of script) lives_there (calls script) (played script is.setup (is.scheduled ++ is.later)) us
  owing = let s = start script made turns core is in let g = go script made turns core is in let f = fitting script made turns core is in
      let o₁ = run_owing p q narrow refl (calls script) os rested.words in_script slots links g (IsListed script) (opened script) vs m₁ s.sound (set_up_answered script made.are vs s g turns core is f) f.of_setup
      (recorded_opened script made.are vs s g turns core is f) readers₀ many₀ says₁ reach₁ begun.0 begun.1 in
      run_owing p q narrow refl (calls script) os rested.words in_script slots links g (IsListed script) (set_up script is.setup) v₁ m₂ sound₁ is.answered f.of_played (recorded_set_up script made.are vs s g turns core is f) readers₁ many₁ says₂ reach₂ o₁.0 o₁.1

  -- ## Who owes

  module _ (there : AreThere script) (range : AllByRecursion InRange script) where
    -- who reads stands at its program
    pub reads_so : (k o : ℕ) (at : get_elem? (opens script) k ≡ some o) (seat : SeatState) → get_elem? (played script is.setup (is.scheduled ++ is.later)).seats (32 + k) ≡ some seat → (r : Reading) (next : Exit (Reads r) → Program) → seat.program ≡ Round (Reads r) next
        → (r' : Reading) × (seat.program ≡ Round (Reads r') (read (calls script))) × (r'.link ≡ k)
    reads_so k o at seat there_ r next e = by (reads_before script made there range turns core is k o at seat there_)
      where
        by : {s : Sit} {m : length (calls script) ≡ q.slots} → State k q.slots (calls script) o m s seat.program → (r' : Reading) × (seat.program ≡ Round (Reads r') (read (calls script))) × (r'.link ≡ k)
        by (waiting is' none_) = absurd (let z : reader (calls script) k o ≡ Round (Reads r) next = sym is' ∙ e in cc)
        by (reading r' is' at') = (r', is', at'.link)
        by (seeking r' bytes before f fs kept w is' resp sought mid) = absurd (let z = sym is' ∙ e in cc)
        by (taking r' bytes before f fs kept first is' resp b mid) = absurd (let z = sym is' ∙ e in cc)
        by (ending_ r' bytes before f fs kept n outcome is' resp b mid) = absurd (let z = sym is' ∙ e in cc)
        by (freeing r' bytes before fs kept i n outcome is' mid) = absurd (let z = sym is' ∙ e in cc)
        by {s} (over kept ov a) = absurd (subst (After _ kept) e a).0

    -- where no reader throws away what comes behind a frame fault
    abbrev pub NoneThrown : Type 0
    NoneThrown = (k o : ℕ) → get_elem? (opens script) k ≡ some o → (seat : SeatState) → get_elem? (played script is.setup (is.scheduled ++ is.later)).seats (32 + k) ≡ some seat → (l total : ℕ) (next : ℕ → Program) → seat.program ≡ Round (Discards l total) next → ⊥

    -- a seat that isn't a client's is that of the reader of a link
    reader_of : (j : ℕ) (seat : SeatState) → get_elem? rested.seats j ≡ some seat → (NoTakes (Unit {0}) seat.program → ⊥) → (k o : ℕ) × (get_elem? os k ≡ some o) × (get_elem? rested.seats (32 + k) ≡ some seat)
    reader_of j seat at takes = dite (dec_le 32 j) (λ high. let o = at_some os (j - 32) (let m = many in let low = at_length rested.seats j seat at in omega (arith, m, low, high)) in
        (j - 32, o.0, o.1, ap (get_elem? rested.seats) (let z : 32 + (j - 32) ≡ j = omega (arith, high) in z) ∙ at))
        (λ low. absurd (takes (clients_take_none script made turns core is j (omega (arith, low)) seat at)))

    module _ (none_thrown : NoneThrown) where
      abbrev us : List Owing
      us = owing.0

      sound : SoundOwing q lives_there (calls script) rested us
      sound = owing.1

      -- nobody has a duty, nor keeps a retry
      seat_free : (j : ℕ) (u : Owing) → get_elem? us j ≡ some u → (u.duty ≡ Free) × (u.keeps ≡ false)
      seat_free j u at = by (stands script made turns core is j seat.0 seat.1)
        where
          seat : (s : SeatState) × (get_elem? rested.seats j ≡ some s)
          seat = view_of us rested.seats j u at (sym sound.each)

          g : OwesOn lives_there u seat.0.program
          g = sound.seats j seat.0 u seat.1 at

          by_read : (k o : ℕ) × (get_elem? os k ≡ some o) × (get_elem? rested.seats (32 + k) ≡ some seat.0) → (r : Reading) (next : Exit (Reads r) → Program) → seat.0.program ≡ Round (Reads r) next → (u.duty ≡ Free) × (u.keeps ≡ false)
          by_read (k, o, opens_it, there_) r next e = let x = reads_so k o opens_it seat.0 there_ r next e in let h : OwesOn lives_there u (Round (Reads x.0) (read (calls script))) = subst (OwesOn lives_there u) x.1 g in
              (h.0.0, reads_keep lives_there (calls script) x.0 u h)

          by : Stands script rested seat.0.program → (u.duty ≡ Free) × (u.keeps ≡ false)
          by (resting e) = let r : OwesOn lives_there u Rest = subst (OwesOn lives_there u) e g in (r.0, r.2)
          by (joining id next e inside waits_) = let r : OwesOn lives_there u (Round (Joins id) next) = subst (OwesOn lives_there u) e g in r.0.0
          by (opening o next e z) = let r : OwesOn lives_there u (Round (Opens o) next) = subst (OwesOn lives_there u) e g in r.0.1
          by (still.reading r next e) = by_read (reader_of j seat.0 seat.1 (λ none_. let n : NoTakes (Unit {0}) (Round (Reads r) next) = subst (NoTakes (Unit {0})) e none_ in n)) r next e
          by (discarding l total next e) = let x = reader_of j seat.0 seat.1 (λ none_. let n : NoTakes (Unit {0}) (Round (Discards l total) next) = subst (NoTakes (Unit {0})) e none_ in n) in absurd (none_thrown x.0 x.1 x.2 seat.0 x.3 l total next e)

      -- an id at an attempt whose at word names a link, which its reader reads
      pub record IsRead (id n : ℕ) : Type 0 where
        pub operation : ℕ
        pub low : operation < (id_plan_of script).operations
        pub link : ℕ
        pub word : at_of (id_plan_of script) (played script is.setup (is.scheduled ++ is.later)) operation ≡ at_word (id_first id) (id_slot id) link n
        pub opening_ : ℕ
        pub opens_it : get_elem? (opens script) link ≡ some opening_
        pub seat : SeatState
        pub seat_there : get_elem? (played script is.setup (is.scheduled ++ is.later)).seats (32 + link) ≡ some seat
        pub reads : Reading
        pub next : Exit (Reads reads) → Program
        pub program : seat.program ≡ Round (Reads reads) next
        pub of_link : reads.link ≡ link

      by_owed : (id n : ℕ) → Owed q lives_there rested us id n → IsRead id n
      by_owed id n (by_seat j u at d) = absurd (subst (DutyTo id n) (seat_free j u at).0 d)
      by_owed id n (by_retry j u at w) = absurd (subst (λ x. Among id n (retry_tokens x)) (sound.law.kept j u at (seat_free j u at).1) w)
      by_owed id n (by_reader o k s j u inside lives word at link left) = by (stands script made turns core is (32 + k) seat.0 seat.1)
        where
          place : j ≡ 32 + k
          place = sound.law.tied j k [] u at link

          mine : get_elem? us (32 + k) ≡ some u
          mine = ap (get_elem? us) (sym place) ∙ at

          seat : (x : SeatState) × (get_elem? rested.seats (32 + k) ≡ some x)
          seat = view_of us rested.seats (32 + k) u mine (sym sound.each)

          g : OwesOn lives_there u seat.0.program
          g = sound.seats (32 + k) seat.0 u seat.1 mine

          own : (x : ℕ) × (get_elem? os k ≡ some x) × (id_of (get_or rested.words (open_index p x) 0) ≡ Some s)
          own = opened_at k s lives

          by : Stands script rested seat.0.program → IsRead id n
          by (resting e) = let r : OwesOn lives_there u Rest = subst (OwesOn lives_there u) e g in absurd (subst (InList o) r.1 left)
          by (joining i next e inside waits_) = let r : OwesOn lives_there u (Round (Joins i) next) = subst (OwesOn lives_there u) e g in absurd (subst (InList o) r.0.1 left)
          by (opening x next e z) = let same : x ≡ own.0 = waits_own p (calls script) (32 + k) k own.0 (in_script k own.0 own.1) rested seat.0 seat.1 (readers₂ k own.0 own.1) x next e in
              let word_is = (id_is (get_or rested.words (open_index p own.0) 0) s own.2).0 in let zero_ : get_or rested.words (open_index p own.0) 0 ≡ 0 = ap (λ m. get_or rested.words (open_index p m) 0) (sym same) ∙ z in absurd (let z : ⊥ = omega (arith, word_is, zero_) in z)
          by (still.reading r next e) = let x = reads_so k own.0 own.1 seat.0 seat.1 r next e in record { operation = o; low = inside; link = k; word = word; opening_ = own.0; opens_it = own.1; seat = seat.0; seat_there = seat.1; reads = x.0; next = read (calls script); program = x.1; of_link = x.2 }
          by (discarding l total next e) = absurd (none_thrown k own.0 own.1 seat.0 seat.1 l total next e)

      -- so it is with each open id
      pub open_read : (id n : ℕ) → id_slot id < (id_plan_of script).slots → IsOpen (played script is.setup (is.scheduled ++ is.later)) id n → IsRead id n
      open_read id n inside is_open = by_owed id n (sound.law.owed id n inside is_open)
