-- A reader's post is for an attempt that went to its link: the at word that it loaded tells the attempt of an operation's call, over the link of a life of the attempt's name.
use Rattle.std.proofs.Common.{◌≡◌, ◌≢◌, ℕ, ◌+◌, ◌<◌, ◌≤◌, ◌⊎◌, inl, inr, ⊎_elim, true, false, List, [], ◌∷◌, ◌++◌, length, replicate, Ok, refl, sym, ap, ◌∙◌, subst, arith}
use Rattle.std.proofs.lemmas.Bool.{true≢false}
use Rattle.std.specs.Prelude.{Contains, Some, slice_get}
use Rattle.std.specs.List.{AllByRecursion}
use mathlib.Core.Option.{Option, none, some}
use lib.ListN.{get_elem?}
use Rattle.sock_words.specs.declared.plain.Plan.{Plan}
use Rattle.sock_words.specs.PackedWords.{at_word, at_word_first, at_word_slot, at_word_link, at_word_attempt, call_id, id_slot, id_first}
use Rattle.corr_core.specs.IdSlotWord.{error_of}
use Rattle.corr_core.specs.declared.marks.Plan.{Plan as IdPlan}
use Rattle.seat_programs.specs.brpc_model.specs.Items.{Item}
use Rattle.seat_programs.specs.brpc_model.specs.Operations.{Turn}
use Rattle.seat_programs.specs.brpc_model.specs.Script.{script_of}
use Rattle.seat_programs.specs.brpc_model.specs.FrameStream.{stream}
use Rattle.sock_message.specs.Asked.{Asked, name_of}
use Rattle.seat_programs.specs.declared.task.Task.{Task}
use Rattle.seat_programs.specs.Asides.{StoreAt}
use Rattle.seat_programs.specs.Programs.{Program, Aside}
use Rattle.seat_programs.specs.Cores.{Core, SeatState}
use Rattle.seat_programs.specs.Ticks.{Moment, quiet, ticked}
use Rattle.seat_programs.specs.Tasks.{opens, plan_of, id_plan_of}
use Rattle.seat_programs.specs.ScriptSetupToEnding.{all_tasks, opened, set_up, IsRunWithCalls}
use Rattle.seat_programs.specs.Explained.{AreTasks, Made}
use Rattle.seat_programs.specs.ExplainedCalls.{Accepted, Fixed, StandsOn, MayBeOn, GaveFault}
use Rattle.refused_attempts.specs.attempted_calls.specs.Below.programs_allowed.specs.program_walks.proofs.WholeScriptSound.{closing_of, views_ended, ended_sound, end_rests}
use Rattle.refused_attempts.specs.attempted_calls.specs.Below.outcome_stories.specs.Explains.{is_plain}
use Rattle.refused_attempts.specs.attempted_calls.specs.Below.outcome_stories.specs.KeptStory.{IsSpoken}
use Rattle.refused_attempts.specs.attempted_calls.specs.Below.outcome_stories.specs.PlainTasks.{told_tasks_of}
use Rattle.refused_attempts.specs.attempted_calls.specs.Below.outcome_stories.specs.OperationStories.{In}
use Rattle.refused_attempts.specs.attempted_calls.specs.Below.outcome_ticks.proofs.Lifted.{up, made_up}
use Rattle.refused_attempts.specs.attempted_calls.specs.Below.outcome_stories.proofs.Members.{in_contains, contains_in}
use Rattle.refused_attempts.specs.attempted_calls.specs.Below.outcome_causes.proofs.PlainOutcomeCauses.{in_both}
use Rattle.refused_attempts.specs.attempted_calls.specs.Below.outcome_ticks.proofs.TableTasksDistinct.{one_task}
use Rattle.refused_attempts.specs.attempted_calls.specs.Below.joint_runs.proofs.RunsOfBothTables.{AreMade}
use Rattle.refused_attempts.specs.attempted_calls.specs.Below.call_owing.specs.LivesOfLinks.{ClosesInRun}
use Rattle.refused_attempts.specs.attempted_calls.specs.Below.run_theorems.proofs.GaveTakeByTake.{gave_heard}
use Rattle.refused_attempts.specs.attempted_calls.specs.Below.call_stories.specs.PostsOfRun.{Post}
use Rattle.refused_attempts.specs.attempted_calls.specs.accept_counts.specs.AttemptCounts.{AreLabelled}
use Rattle.refused_attempts.specs.attempted_calls.specs.accept_counts.specs.EndedCalls.{Store, stores_by, stored_at, stores_of_run, reader_posts_of_run, AreStoredOnce, EndedSo, IsEndPost}
use Rattle.refused_attempts.specs.attempted_calls.specs.accept_counts.proofs.Apart as apart
use Rattle.refused_attempts.specs.attempted_calls.specs.sent_once.proofs.OtherTasksBesideCalls.{gave_of_run}
use Rattle.refused_attempts.specs.attempted_calls.specs.accept_counts.proofs.RunsKeepAttemptLaw.{AreLabelledIn, IsCallOf, end_law}
use Rattle.refused_attempts.specs.attempted_calls.specs.sent_once.proofs.SocketOperationsTold.{owed, orders_of_run, narrow, opening_bare}
use Rattle.refused_attempts.specs.attempted_calls.proofs.EndedLives.{at_made, all_over}
use Rattle.refused_attempts.specs.attempted_calls.proofs.EndedNamed.{tasks_are, EndNamed, end_named}
use Rattle.refused_attempts.specs.attempted_calls.proofs.EndedNames.{StoredFor}
use Rattle.ended_calls.proofs.EndedWhole.{run_end_posts}
use Rattle.refused_attempts.specs.attempted_calls.specs.Below.call_stories.proofs.PostLoopCauses.{id_back}
use Rattle.refused_attempts.specs.attempted_calls.specs.accept_counts.proofs.Grounds.{setting, grounds}
use Rattle.refused_attempts.specs.attempted_calls.specs.Below.owned_ids.proofs.OpensStored.{place_at}
use Rattle.seat_programs.specs.LoopRounds.{first_step}
use Rattle.refused_attempts.specs.attempted_calls.specs.Below.outcome_stories.specs.Facts.{shown_in}

-- ## Numbers

-- the parts of an at word
module _ (f s k n : ℕ) (first : f < 4294967296) (slot : s < 65536) (link : k < 65535) (few : n ≤ 6) where
  word_link : at_word_link (at_word f s k n) ≡ k
  word_link = omega (arith, first, slot, link, few)

  word_attempt : at_word_attempt (at_word f s k n) ≡ n
  word_attempt = omega (arith, first, slot, link, few)

  word_slot : at_word_slot (at_word f s k n) ≡ s
  word_slot = omega (arith, first, slot, link, few)

  word_first : at_word_first (at_word f s k n) ≡ f
  word_first = omega (arith, first, slot, link, few)

-- ## Stores

module _ (ids : ℕ → ℕ) (p : Plan) (q : IdPlan) where
  -- the at word is that of the operation's own call
  abbrev IsOwn : Store → Type 0
  IsOwn x = (id n k : ℕ) → x.word ≡ at_word (id_first id) (id_slot id) k n → k < 65535 → n ≤ 6 → id_slot id < 65536 → (ids x.operation ≡ id) × (id ≢ 0)

  ticks_own : (ms : List Moment) (c : Core) → AreLabelled ids p q c ms → (x : Store) → In x (shown_in stored_at p c ms) → IsOwn x
  ticks_own [] c labelled x there = absurd there
  ticks_own (m ∷ ms) c labelled x there = ⊎_elim (λ a. by (get_elem? c.seats m.seat) refl a) (λ a. ticks_own ms (ticked p c m) labelled.3 x a) (in_both (stored_at c m) (shown_in stored_at p (ticked p c m) ms) x there)
    where
      by_program : (program : Program) (seat : SeatState) → get_elem? c.seats m.seat ≡ some seat → first_step seat.program ≡ program → In x (stores_by program) → IsOwn x
      by_program (Aside (StoreAt o w) next) seat at is (inl same) = subst IsOwn (sym same) (λ id n k e low few small. labelled.2 seat o w next at is id n k e low few small)
      by_program (Aside (StoreAt o w) next) seat at is (inr z) = absurd z
      by_program (Aside _ next) seat at is z = absurd z
      by_program _ seat at is z = absurd z

      by : (o : Option SeatState) → get_elem? c.seats m.seat ≡ o → In x (elim o as (λ o. List Store) [ none ↦ [] | some seat ↦ stores_by (first_step seat.program) ]) → IsOwn x
      by none e z = absurd z
      by (some seat) e z = by_program (first_step seat.program) seat e refl z

-- ## A whole run

module _ (script : List Item) (made : AreMade script) (turns : List Turn) (core : Core) (is : IsRunWithCalls script turns core) (closes : ClosesInRun script turns core is) (ids : ℕ → ℕ) (labelled : AreLabelledIn ids script turns core is) where
  open setting script use {vs}
  open grounds script made turns core is use {begins, goes, fits}

  pub own_store : (x : Store) → In x (stores_of_run script turns core is) → IsOwn ids (plan_of script) (id_plan_of script) x
  own_store x there = ⊎_elim (λ a. ticks_own ids (plan_of script) (id_plan_of script) (replicate is.setup (quiet 0)) (opened script) labelled.of_setup x a)
      (λ b. ⊎_elim (λ a. ticks_own ids (plan_of script) (id_plan_of script) (is.scheduled ++ is.later) (set_up script is.setup) labelled.of_played x a)
      (λ b. ⊎_elim (λ a. ticks_own ids (plan_of script) (id_plan_of script) (replicate is.last (quiet 0)) (closing_of script turns core is) labelled.of_closing x a) (λ a. ticks_own ids (plan_of script) (id_plan_of script) is.final is.ended labelled.of_final x a)
      (in_both (shown_in stored_at (plan_of script) (closing_of script turns core is) (replicate is.last (quiet 0))) (shown_in stored_at (plan_of script) is.ended is.final) x b))
      (in_both (shown_in stored_at (plan_of script) (set_up script is.setup) (is.scheduled ++ is.later)) (shown_in stored_at (plan_of script) (closing_of script turns core is) (replicate is.last (quiet 0)) ++ shown_in stored_at (plan_of script) is.ended is.final) x b))
      (in_both (shown_in stored_at (plan_of script) (opened script) (replicate is.setup (quiet 0)))
      (shown_in stored_at (plan_of script) (set_up script is.setup) (is.scheduled ++ is.later) ++ (shown_in stored_at (plan_of script) (closing_of script turns core is) (replicate is.last (quiet 0)) ++ shown_in stored_at (plan_of script) is.ended is.final)) x there)

  abbrev tasks : AreTasks (plan_of script) (told_tasks_of script)
  tasks = tasks_are script made.are vs begins goes turns core is fits (narrow script made turns core is closes) (opening_bare script) ids labelled

  pub ending : EndNamed script made.are vs begins goes turns core is fits (narrow script made turns core is closes) (opening_bare script) ids labelled core
  ending = end_named script made.are vs begins goes turns core is fits (narrow script made turns core is closes) (opening_bare script) ids labelled

  -- an at word that is loaded is that of an attempt of the operation's call, over a link of a life of its name
  pub record IsAttemptOn (o w : ℕ) : Type 0 where
    pub asked : Asked
    pub called : IsCallOf script asked
    pub operation : asked.operation ≡ o
    pub attempt : ℕ
    pub few : attempt ≤ 6
    pub some_ : ids o ≢ 0
    pub slot : id_slot (ids o) < 65536
    pub link : ℕ
    pub small : link < 65535
    pub word : w ≡ at_word (id_first (ids o)) (id_slot (ids o)) link attempt
    pub stored : In (record { operation = o; word = w }) (stores_of_run script turns core is)
    pub socket : ℕ
    pub version : ℕ
    pub life : Made (all_tasks script) core.outcomes (name_of asked attempt) link socket version

  pub of_load : (o w : ℕ) → StoredFor (IsCallOf script) (stores_of_run script turns core is) (let e = ending in e.named.events) o w → IsAttemptOn o w
  of_load o w x = let own = own_store (record { operation = o; word = w }) x.stored x.of.id x.of.attempt x.of.link x.of.word x.of.small x.of.few x.slot in
      let sound = ended_sound script made.are vs begins goes turns core is fits in let rests = end_rests script made.are vs begins goes turns core is fits (owed script made turns core is closes) in let e = ending in
      let l = at_made (plan_of script) (told_tasks_of script) tasks core (views_ended script turns core is vs) e.named.events e.named.lost_links sound e.named.story rests (IsCallOf script) (stores_of_run script turns core is) o w x in record {
        asked = x.of.asked;
        called = x.of.called;
        operation = x.of.operation;
        attempt = x.of.attempt;
        few = x.of.few;
        some_ = λ z. own.1 (sym own.0 ∙ z);
        slot = subst (λ i. id_slot i < 65536) (sym own.0) x.slot;
        link = x.of.link;
        small = x.of.small;
        word = x.of.word ∙ ap (λ i. at_word (id_first i) (id_slot i) x.of.link x.of.attempt) (sym own.0);
        stored = x.stored;
        socket = l.0;
        version = l.1;
        life = made_up (all_tasks script) (length (opens script)) core.outcomes (name_of x.of.asked x.of.attempt) x.of.link l.0 l.1 l.2;
      }

  -- ## Messages

  -- each message of a call that a link accepted has an at word that tells the link
  pub all_stored : (k : ℕ) → AllByRecursion (λ (a : Accepted). IsSpoken (told_tasks_of script) a.operation → In (record { operation = a.operation; word = at_word (id_first (ids a.operation)) (id_slot (ids a.operation)) k a.attempt }) (stores_of_run script turns core is)) (orders_of_run script made turns core is closes k).accepted
  all_stored k = let sound = ended_sound script made.are vs begins goes turns core is fits in let rests = end_rests script made.are vs begins goes turns core is fits (owed script made turns core is closes) in let e = ending in
      let law = end_law script made.are vs begins goes turns core is fits (narrow script made turns core is closes) (opening_bare script) ids labelled in
      all_over (plan_of script) (told_tasks_of script) tasks core (views_ended script turns core is vs) e.named.events e.named.lost_links sound e.named.story rests (IsCallOf script) (stores_of_run script turns core is) e.named.trails e.named.law ids
      (λ i n x h not_. (let f = apart.of_call_fits (plan_of script) (id_plan_of script) (IsCallOf script) ids (told_tasks_of script) tasks core (views_ended script turns core is vs) e.named.events e.named.lost_links sound e.named.story rests law.0 law.1 i n x h not_ in (f.0, f.1))) k

  pub at_place : (P : Accepted → Type 0) (xs : List Accepted) → AllByRecursion P xs → (i : ℕ) (a : Accepted) → slice_get xs i ≡ Some a → P a
  at_place P [] all i a e = absurd (cc)
  at_place P (x ∷ xs) all Rattle.std.proofs.Common.zero a e = let same : x ≡ a = cc in subst P same all.0
  at_place P (x ∷ xs) all (Rattle.std.proofs.Common.suc i) a e = at_place P xs all.1 i a e

  -- the operation of a call is no other task's
  pub spoken_call : (asked : Asked) → IsCallOf script asked → IsSpoken (told_tasks_of script) asked.operation
  spoken_call asked of d t asks e = let u = up (all_tasks script) (length (opens script)) d t asks in
      let same = (one_task (plan_of script) (all_tasks script) made.are of.0 d of.2 t (of.1, place_at (all_tasks script) of.0 of.1 of.3, of.4) u.0 (sym of.6 ∙ sym e)).1 in
      true≢false (sym u.1 ∙ (ap (λ (x : Task). is_plain x.op) (sym same) ∙ ap is_plain of.5))

  module _ (once : AreStoredOnce script turns core is) (fixed : Fixed) (gave : ℕ → List ℕ) where
    abbrev Stands : ℕ → ℕ → ℕ → Type 0
    Stands o n l = StandsOn (plan_of script) (all_tasks script) core.outcomes fixed gave (orders_of_run script made turns core is closes) o n l

    stands_stored : (o w : ℕ) → IsAttemptOn o w → (n l : ℕ) → Stands o n l → Contains (stores_of_run script turns core is) (record { operation = o; word = at_word (id_first (ids o)) (id_slot (ids o)) l n })
    stands_stored o w x n l s = let a : Accepted = s.1.1 in
        let here = at_place (λ (a : Accepted). IsSpoken (told_tasks_of script) a.operation → In (record { operation = a.operation; word = at_word (id_first (ids a.operation)) (id_slot (ids a.operation)) l a.attempt }) (stores_of_run script turns core is))
        (orders_of_run script made turns core is closes l).accepted (all_stored l) s.0 s.1.1 s.1.2 in
        let there : In (record { operation = a.operation; word = at_word (id_first (ids a.operation)) (id_slot (ids a.operation)) l a.attempt }) (stores_of_run script turns core is) = here (subst (λ z. IsSpoken (told_tasks_of script) z) (x.operation ∙ sym s.1.3) (spoken_call x.asked x.called)) in
        in_contains (stores_of_run script turns core is) (record { operation = o; word = at_word (id_first (ids o)) (id_slot (ids o)) l n })
        (subst (λ z. In (record { operation = o; word = at_word (id_first (ids o)) (id_slot (ids o)) l z }) (stores_of_run script turns core is)) s.1.4
        (subst (λ z. In (record { operation = z; word = at_word (id_first (ids z)) (id_slot (ids z)) l a.attempt }) (stores_of_run script turns core is)) s.1.3 there))

    -- where the attempt was accepted, it was by this link
    pub only_link : (o w : ℕ) (x : IsAttemptOn o w) (l : ℕ) → Stands o x.attempt l → l ≡ x.link
    only_link o w x l s =
        let sound = ended_sound script made.are vs begins goes turns core is fits in
        let low : l < 65535 = (let a = s.1.0 in let b = sound.limits in let c = b.links in omega (arith, a, c)) in
        let first : id_first (ids o) < 4294967296 = omega arith in
        let v : ℕ = at_word (id_first (ids o)) (id_slot (ids o)) l x.attempt in
        let n_v : at_word_attempt (at_word (id_first (ids o)) (id_slot (ids o)) l x.attempt) ≡ x.attempt = word_attempt (id_first (ids o)) (id_slot (ids o)) l x.attempt first x.slot low x.few in
        let n_w : at_word_attempt w ≡ x.attempt = ap at_word_attempt x.word ∙ word_attempt (id_first (ids o)) (id_slot (ids o)) x.link x.attempt first x.slot x.small x.few in
        let same : at_word (id_first (ids o)) (id_slot (ids o)) l x.attempt ≡ w = once o (at_word (id_first (ids o)) (id_slot (ids o)) l x.attempt) w (stands_stored o w x x.attempt l s) (in_contains (stores_of_run script turns core is) (record { operation = o; word = w }) x.stored) (n_v ∙ sym n_w) in
        sym (word_link (id_first (ids o)) (id_slot (ids o)) l x.attempt first x.slot low x.few) ∙ (ap at_word_link (same ∙ x.word) ∙ word_link (id_first (ids o)) (id_slot (ids o)) x.link x.attempt first x.slot x.small x.few)

    may_be_on : (o w : ℕ) (x : IsAttemptOn o w) → MayBeOn (plan_of script) (all_tasks script) core.outcomes fixed gave (orders_of_run script made turns core is closes) o x.attempt (name_of x.asked x.attempt) x.link
    may_be_on o w x = (x.socket, x.version, x.life, λ l s. only_link o w x l s)

    -- ## Posts

    -- a reader posted the error for attempt n of a call, whose operation's id is the post's: the reading of its link ended with the code, and the attempt may be on the link
    pub record IsReaderPost (code n : ℕ) (x : Post) : Type 0 where
      pub asked : Asked
      pub called : IsCallOf script asked
      pub id : x.id ≡ ids asked.operation
      pub some_ : ids asked.operation ≢ 0
      pub few : n ≤ 6
      pub link : ℕ
      pub inside : link < (plan_of script).links
      pub on : MayBeOn (plan_of script) (all_tasks script) core.outcomes fixed gave (orders_of_run script made turns core is closes) asked.operation n (name_of asked n) link
      pub ended : EndedSo script turns core is link code

    pub of_word : (k o w code : ℕ) (x : Post) → k < (plan_of script).links → IsEndPost script turns core is k o w code x → (c m : ℕ) → x.error ≡ error_of c m → m ≤ 7 → IsReaderPost c m x
    of_word k o w code x low post c m error few = let e = ending in
        let a = of_load o w (e.loads (record { seat = 32 + k; operation = o; word = w }) (contains_in (Rattle.refused_attempts.specs.attempted_calls.specs.accept_counts.specs.EndedCalls.loads_of_run script turns core is) (record { seat = 32 + k; operation = o; word = w }) post.loaded) post.some_) in
        let first : id_first (ids o) < 4294967296 = omega arith in
        let link : a.link ≡ k = sym (word_link (id_first (ids o)) (id_slot (ids o)) a.link a.attempt first a.slot a.small a.few) ∙ (sym (ap at_word_link a.word) ∙ post.link) in
        let n_w : at_word_attempt w ≡ a.attempt = ap at_word_attempt a.word ∙ word_attempt (id_first (ids o)) (id_slot (ids o)) a.link a.attempt first a.slot a.small a.few in
        let s_w : at_word_slot w ≡ id_slot (ids o) = ap at_word_slot a.word ∙ word_slot (id_first (ids o)) (id_slot (ids o)) a.link a.attempt first a.slot a.small a.few in
        let f_w : at_word_first w ≡ id_first (ids o) = ap at_word_first a.word ∙ word_first (id_first (ids o)) (id_slot (ids o)) a.link a.attempt first a.slot a.small a.few in
        let id : x.id ≡ ids o = post.id ∙ (ap (λ z. call_id z (at_word_first w)) s_w ∙ (ap (λ z. call_id (id_slot (ids o)) z) f_w ∙ id_back (ids o))) in
        let errors : error_of code a.attempt ≡ error_of c m = ap (λ z. error_of code z) (sym n_w) ∙ (sym post.error ∙ error) in let fewer = a.few in
        let code_is : code ≡ c = omega (arith, errors, few, fewer) in let n_is : a.attempt ≡ m = omega (arith, errors, few, fewer) in record {
          asked = a.asked;
          called = a.called;
          id = id ∙ ap ids (sym a.operation);
          some_ = λ z. a.some_ (ap ids (sym a.operation) ∙ z);
          few = (let f = a.few in omega (arith, f, n_is));
          link = k;
          inside = low;
          on = subst (λ z. MayBeOn (plan_of script) (all_tasks script) core.outcomes fixed gave (orders_of_run script made turns core is closes) z m (name_of a.asked m) k) (sym a.operation)
              (subst (λ z. MayBeOn (plan_of script) (all_tasks script) core.outcomes fixed gave (orders_of_run script made turns core is closes) o z (name_of a.asked z) k) n_is
              (subst (λ z. MayBeOn (plan_of script) (all_tasks script) core.outcomes fixed gave (orders_of_run script made turns core is closes) o a.attempt (name_of a.asked a.attempt) z) link (may_be_on o w a)));
          ended = subst (λ z. EndedSo script turns core is k z) code_is post.ended;
        }

    -- it is for the operation of the at word, on the reader's own link
    pub of_word_is : (k o w code : ℕ) (x : Post) (low : k < (plan_of script).links) (post : IsEndPost script turns core is k o w code x) (c m : ℕ) (error : x.error ≡ error_of c m) (few : m ≤ 7)
        → ((of_word k o w code x low post c m error few).link ≡ k) × ((of_word k o w code x low post c m error few).asked.operation ≡ o)
    unfolding of_word
    of_word_is k o w code x low post c m error few = let e = ending in
        let a = of_load o w (e.loads (record { seat = 32 + k; operation = o; word = w }) (contains_in (Rattle.refused_attempts.specs.attempted_calls.specs.accept_counts.specs.EndedCalls.loads_of_run script turns core is) (record { seat = 32 + k; operation = o; word = w }) post.loaded) post.some_) in (refl, a.operation)

    pub run_reader_post : (bytes : List ℕ) → script_of bytes ≡ Ok script → (x : Post) → In x (reader_posts_of_run script turns core is) → (code n : ℕ) → x.error ≡ error_of code n → n ≤ 7 → IsReaderPost code n x
    run_reader_post bytes reads x there code n error few = let p = run_end_posts script made turns core is bytes reads x there in of_word p.0 p.1 p.2 p.3 x p.4 p.5 code n error few

  -- where it posted 2002, its link gave a frame fault
  pub run_reader_fault : (once : AreStoredOnce script turns core is) (fixed : Fixed) (bytes : List ℕ) → script_of bytes ≡ Ok script → (x : Post) (n : ℕ) (r : IsReaderPost once fixed (gave_of_run script made turns core is closes) 2002 n x)
      → GaveFault (plan_of script) (all_tasks script) core.outcomes fixed (gave_of_run script made turns core is closes) (orders_of_run script made turns core is closes) r.link
  run_reader_fault once fixed bytes reads x n r = ⊎_elim (λ a. absurd (let e = a.0 in let z : ⊥ = omega (arith, e) in z))
      (λ b. (b.1.0, b.1.1, ap (λ l. (stream l).ending) (sym (gave_heard bytes script reads turns core is r.link r.inside)) ∙ b.1.2)) r.ended
