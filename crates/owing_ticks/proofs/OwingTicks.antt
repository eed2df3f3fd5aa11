-- A tick of any seat keeps what is owed, where both tables, the script and the links say what they should.
use Rattle.std.proofs.Common.{◌≡◌, ◌≢◌, ℕ, ◌<◌, ◌≤◌, inl, inr, ⊎_elim, Bool, true, false, List, [], ◌∷◌, ◌++◌, Some, length, set, get_or, get_or-set_other, refl, sym, ap, ◌∙◌, subst, arith}
use Rattle.std.specs.Prelude.{Option as Maybe}
use Rattle.std.specs.List.{AllByRecursion}
use mathlib.Core.Logic.{dite}
use native.Mathlib.Decide.{ℕ_discrete}
use mathlib.Core.Option.{Option, none, some, some-ne-none, some-injective}
use lib.ListN.{get_elem?}
use Rattle.atomic_table.proofs.Lists.{at_set}
use Rattle.sock_words.specs.declared.plain.Plan.{Plan}
use Rattle.sock_io.specs.declared.link.Put.{Put}
use Rattle.sock_io.specs.declared.link.Ready.{Ready}
use Rattle.sock_model.specs.declared.chain.Heading.{Heading}
use Rattle.sock_model.specs.declared.home.Home.{Home}
use Rattle.sock_model.specs.declared.home.Home.TheVariants.{Empty, Link, Message}
use Rattle.sock_model.specs.UnplacedMessages.{HeadedBytes}
use Rattle.sock_model.specs.ChainLawReads.{message, link_home}
use Rattle.corr_core.specs.IdSlotWord.{parts}
use Rattle.corr_core.specs.declared.marks.Plan.{Plan as IdPlan}
use Rattle.seat_programs.specs.id_rule.specs.LawfulIdTable as ids
use Rattle.seat_programs.specs.TableSteps.{TableStep, OnLink, OnMessage, TakeLink, PutLink, PutMessage}
use Rattle.seat_programs.specs.Asides.{Step, Found, ClaimId, PutCall, MakeId, StoreCall, LoadCall, StoreAt, LoadAt, LoadIdWord, LockId, PostId, UnlockId, EndId, FreeId, TakeCall, TakeBytes, Taking, Bytes, Nothing, NoMore, AtEnd, Closed, Broken}
use Rattle.seat_programs.specs.Programs.{Program, Do, TakeMessage, TakeHome, PutHome, PutBytes, AskReady, Write, Aside, Round}
use Rattle.seat_programs.specs.SendAndWritePrograms.{block}
use Rattle.seat_programs.specs.LoopRounds.{round, first_step}
use Rattle.seat_programs.specs.Cores.{Calls, Core, SeatState, homes_after, lies_at, first_of, others_of, link_place, waiting_at, with_seat, stepped}
use Rattle.seat_programs.specs.FoundAndChangedAside.{taking_in, at_last, more_given, found_in, calls_after}
use Rattle.seat_programs.specs.Ticks.{Answer, OfPut, OfReady, Moment, fed, with_places, onto_first, taken, with_message, with_link, with_put, with_ready, with_found, step_with, tick_with, ticked}
use Rattle.call_owing.specs.Below.id_runs.specs.HeldIdTokens.{IdView, MayId}
use Rattle.call_owing.specs.Below.id_runs.specs.Goes.{FindsId, IdGoesOn, SoundIds}
use Rattle.call_owing.specs.Below.id_runs.proofs.AsideStepsKeepRule.{finds_ids}
use Rattle.call_owing.specs.Below.id_runs.proofs.IdLoopRounds.{ids_round}
use Rattle.call_owing.specs.Below.id_runs.proofs.IdPrograms as idprograms
use Rattle.call_owing.specs.Owing.{Owing, FindsUnlock, Linked, takes, closes, Taken, MayCall, KnowsOwner}
use Rattle.call_owing.specs.Owes.{OwesOn}
use Rattle.call_owing.specs.SoundOwing.{Past, Failed, OwingLaw, SoundOwing}
use Rattle.call_owing.specs.OwingStepFits.{CallFits, HoldsNoMessage, StepFits, IsFittingOwing}
use Rattle.call_owing.proofs.QuietIdSteps.{marked, dead_marks}
use Rattle.owing_ticks.proofs.SeatRetriesBehindStep.{Few}
use Rattle.owing_ticks.proofs.TicksKeepOwing.{follows, call_ticks}
use Rattle.owing_ticks.proofs.OwedAsideTicks.{look_ticks, lock_ticks, post_ticks, unlock_ticks, end_ticks, make_ticks}
use Rattle.owing_ticks.proofs.AtTicks.{store_ticks, load_ticks}
use Rattle.owing_ticks.proofs.MoveTicks.{same_ticks, out_of_home, message_ticks}
use Rattle.call_owing.proofs.RetryFinds.{lock_finds, unlock_finds}
use Rattle.owing_ticks.proofs.IdFacts.{few_of, free_there, lock_low, lock_few, lock_two, lock_longer}
use Rattle.call_owing.proofs.OwingRounds.{owes_round}
use Rattle.call_owing.proofs.OwingPrograms.{block_goes}
use Rattle.call_owing.specs.Below.programs_allowed.specs.program_steps.proofs.TickCases.{elem_there}
pub use Rattle.call_owing.specs.Below.id_runs.proofs.TicksKeepIdRule.{message_there}
use Rattle.sock_words.specs.PackedWords.{id_slot, bit}

module _ (p : Plan) (q : IdPlan) (narrow : q.slots ≤ 65536) (same : q.operations ≡ p.operations) (life : ℕ → Maybe ℕ) (low_links : (k s : ℕ) → life k ≡ Some s → k < 65535) (calls : List ℕ) where
  module _ (c : Core) (us : List Owing) (sound : SoundOwing q life calls c us) (vs : List IdView) (known : SoundIds p q c vs) (i : ℕ) (seat : SeatState) (u : Owing) (at_seat : get_elem? c.seats i ≡ some seat) (at : get_elem? us i ≡ some u)
      (w : IdView) (at_view : get_elem? vs i ≡ some w) where
    abbrev Owed' : Core → Type 0
    Owed' c' = (us' : List Owing) × SoundOwing q life calls c' us'

    sized : length c.calls.words ≡ ids.all_words q
    sized = known.rule.sized

    few : AllByRecursion Few (waiting_at c.calls.waiting i)
    few = few_of q (waiting_at c.calls.waiting i) (known.waiting i)

    abbrev before : Owed' c
    before = (us, sound)

    -- ## Steps on the sockets

    letters_after : (call : TableStep) → MayCall u call → HoldsNoMessage seat.hand → (r : ℕ) (heading : Heading) (bytes : List ℕ) → get_elem? (homes_after p call seat.hand c.homes) r ≡ some (some (Message heading bytes)) → heading.owner ≢ 0
        → Past us heading.owner heading.label.attempt × (heading.label.attempt ≤ 6)
    letters_after (OnLink (TakeLink k)) may links r heading bytes e some_ = ⊎_elim (λ b. absurd (some-ne-none (Message heading bytes) (sym b.1))) (λ b. sound.law.letters r heading bytes b.1 some_) (at_set c.homes (link_place p k) r none (some (Message heading bytes)) e)
    letters_after (OnLink (PutLink k)) may links r heading bytes e some_ = ⊎_elim (λ b. absurd (links heading bytes b.1)) (λ b. sound.law.letters r heading bytes b.1 some_) (at_set c.homes (link_place p k) r (first_of seat.hand) (some (Message heading bytes)) e)
    letters_after (OnMessage (PutMessage t l cs)) may links r heading bytes e some_ = ⊎_elim
        (λ b. let z : Message l cs ≡ Message heading bytes = some-injective (Message l cs) (Message heading bytes) b.1 in let y : l ≡ heading = cc in let k : KnowsOwner u heading = subst (KnowsOwner u) y may in let x = k some_ in ((i, u, at, x.0), x.1))
        (λ b. sound.law.letters r heading bytes b.1 some_) (at_set c.homes t r (some (Message l cs)) (some (Message heading bytes)) e)
    letters_after _ may links r heading bytes e some_ = sound.law.letters r heading bytes e some_

    on_call : (call : TableStep) (next : ℕ → Program) → OwesOn life u (Do call next) → CallFits p life c u call → HoldsNoMessage seat.hand → Owed' (stepped p i seat call next c)
    on_call call next g fits links = call_ticks q life calls c us sound i seat u at_seat at p call next g fits.finds few record {
      failed = fits.failed;
      odd = fits.odd;
      other = fits.other;
      live = fits.live;
      letters = letters_after call g.0 links;
    }

    -- ## Steps aside

    abbrev Goes : (step : Step) → Found step → (Found step → Program) → Type 0
    Goes step found next = Owed' (with_seat i (next found) seat.hand c.words c.homes (record c { calls = calls_after step found c.calls }))

    -- a word that is no id word and no at word
    other_word : (x y : ℕ) → ((j : ℕ) → x ≢ ids.id_index j) → ((o : ℕ) → x ≢ ids.at_index q o) → (program : Program) → OwesOn life u program
        → Owed' (with_seat i program seat.hand c.words c.homes (record c { calls = record c.calls { words = set c.calls.words x y } }))
    other_word x y no_id no_at program g = follows q life calls c us sound i seat u at_seat at program seat.hand c.words c.homes (record c.calls { words = set c.calls.words x y }) u
        (Rattle.owing_ticks.proofs.OwedBehindIdSteps.still_keeps q narrow life calls c us i u sound.law at sized c.seats c.outcomes (record c.calls { words = set c.calls.words x y }) refl
        (λ j low. ap parts (get_or-set_other c.calls.words x (ids.id_index j) y 0 (λ e. no_id j (sym e)))) (λ o low. get_or-set_other c.calls.words x (ids.at_index q o) y 0 (λ e. no_at o (sym e)))) g few

    -- no word changes
    no_word : (a : Calls) → a.words ≡ c.calls.words → a.waiting ≡ c.calls.waiting → (program : Program) → OwesOn life u program → Owed' (with_seat i program seat.hand c.words c.homes (record c { calls = a }))
    no_word a words waits program g = follows q life calls c us sound i seat u at_seat at program seat.hand c.words c.homes a u
        (Rattle.owing_ticks.proofs.OwedBehindIdSteps.still_keeps q narrow life calls c us i u sound.law at sized c.seats c.outcomes a waits
        (λ j low. ap (λ l. parts (get_or l (ids.id_index j) 0)) words) (λ o low. ap (λ l. get_or l (ids.at_index q o) 0) words)) g (subst (λ (x : List (List Rattle.seat_programs.specs.LoopHeads.Retry)). AllByRecursion Few (waiting_at x i)) (sym waits) few)

    same_mark : (step : Step) (found : Found step) (next : Found step → Program) (v : Owing) → v ≡ u → OwesOn life v (next found) → OwesOn life u (next found)
    same_mark step found next v e g = subst (λ x. OwesOn life x (next found)) e g

    seen : (s : ℕ) → s < q.slots → (found : ℕ) → some (get_or c.calls.words (ids.id_index s) 0) ≡ some found → get_or c.calls.words (ids.id_index s) 0 ≡ found
    seen s inside found e = some-injective (get_or c.calls.words (ids.id_index s) 0) found e

    abbrev real : 0 < w.share
    real = known.real i w at_view

    more_words : (k : ℕ) (t : Taking) → ((more_given k t c.calls).words ≡ c.calls.words) × ((more_given k t c.calls).waiting ≡ c.calls.waiting)
    more_words k (Bytes bytes) = (refl, refl)
    more_words k _ = (refl, refl)

    -- an attempt that is linked is of an id of the table
    linked_slot : (id n k : ℕ) → u.duty ≡ Linked id n k → id_slot id < q.slots
    linked_slot id n k is = ⊎_elim (λ e. e.0) (λ a. a.0) (sound.law.current id n i (
      u,
      at,
      Rattle.call_owing.proofs.OwedMarkChanges.among_left id n (Rattle.call_owing.specs.Owing.duty_tokens u.duty) (Rattle.call_owing.specs.SoundOwing.retry_tokens (waiting_at c.calls.waiting i))
          (subst (λ (d : Rattle.call_owing.specs.Owing.Duty). Rattle.call_owing.specs.Owing.Among id n (Rattle.call_owing.specs.Owing.duty_tokens d)) (sym is) (inl (refl, refl))),
    ))

    takes_some : (k room : ℕ) (next : Taking → Program) → OwesOn life u (Aside (TakeBytes k room) next) → (found : Taking) → (found ≡ Closed → u.link ≡ k ∷ [] → Failed life c k) → Goes (TakeBytes k room) found next
    takes_some k room next g found closed = by_move (g.1 found tt).0 (g.1 found tt).1 (g.1 found tt).2
      where
        by_move : (v : Owing) → Taken k found u v → OwesOn life v (next found) → Goes (TakeBytes k room) found next
        by_move v (takes e) go = let m = more_words k found in no_word (more_given k found c.calls) m.0 m.1 (next found) (subst (λ x. OwesOn life x (next found)) e go)
        by_move v (closes is linked e) go = subst (λ (t : Taking). Owed' (with_seat i (next found) seat.hand c.words c.homes (record c { calls = more_given k t c.calls }))) (sym is)
            (follows q life calls c us sound i seat u at_seat at (next found) seat.hand c.words c.homes c.calls v
            (subst (λ x. OwingLaw q life calls (record { words = c.words; homes = c.homes; seats = c.seats; outcomes = c.outcomes; calls = c.calls }) (set us i x)) (sym e)
            (marked q life calls c us i u sound.law at c.words c.homes c.seats c.outcomes (Rattle.call_owing.specs.Owing.with_dead u)
            (dead_marks q life calls c us i u sound.law at c.words c.homes c.seats c.outcomes (λ l f. f) (λ r heading bytes x some_. sound.law.letters r heading bytes x some_) k linked (closed is linked)))) go few)

    unlocks_some : (s from : ℕ) (advance : Bool) (next : ℕ → Program) → OwesOn life u (Aside (UnlockId s from advance) next) → MayId p q w (UnlockId s from advance) → FindsId p q w (UnlockId s from advance) (get_or c.calls.words (ids.id_index s) 0)
        → Goes (UnlockId s from advance) (get_or c.calls.words (ids.id_index s) 0) next
    unlocks_some s from advance next g may finds = let m = may.1 in let found : ℕ = get_or c.calls.words (ids.id_index s) 0 in
        let low = lock_low q c.calls vs known.rule i w at_view real s may.0 m.0 m.1 m.2 m.3 m.4 m.5 m.6 from m.7 in
        let small = lock_few q c.calls vs known.rule i w at_view real s may.0 m.0 m.1 m.2 m.3 m.4 m.5 m.6 from m.7 (bit advance) m.8 in
        let two = lock_two q c.calls vs known.rule i w at_view real s may.0 m.0 m.1 m.2 m.3 m.4 m.5 m.6 from m.7 in
        let longer = lock_longer q c.calls vs known.rule i w at_view real s may.0 m.0 m.1 m.2 m.3 m.4 m.5 m.6 from m.7 finds in
        let f : FindsUnlock from advance (get_or c.calls.words (ids.id_index s) 0) = dite (ℕ_discrete (get_or c.calls.words (ids.id_index s) 0) from)
        (λ hit. unlock_finds q life calls c us i u sound.law at s from may.0 (ap parts (sym hit)) low (omega (arith, two)) (get_or c.calls.words (ids.id_index s) 0) advance g.0 small (λ _. longer))
        (λ miss. (low, small, (λ _. longer), λ hit. absurd (miss hit))) in
        unlock_ticks q narrow life calls c us sound i seat u at_seat at sized few s may.0 from advance next g f two

    on_ids : (step : Step) (next : Found step → Program) (answer : Answer) → OwesOn life u (Aside step next) → MayId p q w step → StepFits p q life calls c seat u answer (Aside step next)
        → (found : Found step) → found_in step c.calls (taken answer) ≡ some found → FindsId p q w step found → Goes step found next
    on_ids (ClaimId s) next answer g may fits found e finds = let r = g.1 found tt in other_word (ids.tag_index s) 1 (λ j e. omega (arith, e)) (λ o e. omega (arith, e)) (next found) (same_mark (ClaimId s) found next r.0 r.1 r.2)
    on_ids (PutCall s asked) next answer g may fits found e finds = let r = g.1 found tt in no_word (calls_after (PutCall s asked) found c.calls) refl refl (next found) (same_mark (PutCall s asked) found next r.0 r.1 r.2)
    on_ids (MakeId s range) next answer g may fits found e finds = let one = may.1 in subst (λ x. Goes (MakeId s range) x next) (seen s may.0 found e)
        (make_ticks q narrow life calls c us sound i seat u at_seat at sized few s may.0 range next g (free_there q c.calls vs known.rule i w at_view real s may.0 one.0 one.1 one.2)
        (let low = (known.rule.slots s may.0).first_low in omega (arith, low)) may.2 may.3)
    on_ids (StoreCall o id) next answer g may fits found e finds = let r = g.1 found tt in other_word (ids.call_index c.calls.plan o) id (λ j e. omega (arith, e)) (λ x e. omega (arith, e)) (next found) (same_mark (StoreCall o id) found next r.0 r.1 r.2)
    on_ids (LoadCall o) next answer g may fits found e finds = let r = g.1 found tt in no_word c.calls refl refl (next found) (same_mark (LoadCall o) found next r.0 r.1 r.2)
    on_ids (StoreAt o x) next answer g may fits found e finds = store_ticks q narrow life low_links calls c us sound i seat u at_seat at known.plan sized few o x found next g may.0 fits.0
        (λ id n k is. (linked_slot id n k is, fits.1 id n k is))
    on_ids (LoadAt o) next answer g may fits found e finds = subst (λ x. Goes (LoadAt o) x next) (ap (λ (r : IdPlan). get_or c.calls.words (ids.at_index r o) 0) (sym known.plan) ∙ some-injective (get_or c.calls.words (ids.at_index c.calls.plan o) 0) found e)
        (load_ticks q narrow life low_links calls c us sound i seat u at_seat at known.plan sized few o next g may)
    on_ids (LoadIdWord s) next answer g may fits found e finds = subst (λ x. Goes (LoadIdWord s) x next) (seen s may found e) (look_ticks q narrow life calls c us sound i seat u at_seat at sized few s may next g)
    on_ids (LockId s from) next answer g may fits found e finds = subst (λ x. Goes (LockId s from) x next) (seen s may.0 found e)
        (lock_ticks q narrow life calls c us sound i seat u at_seat at sized few s may.0 from next g may.1 (lock_finds q life calls c us i u sound.law at s from))
    on_ids (PostId s from x) next answer g may fits found e finds = subst (λ y. Goes (PostId s from x) y next) (seen s may.0 found e)
        (post_ticks q narrow life calls c us sound i seat u at_seat at sized few s may.0 from x next g may.3 (⊎_elim (λ one. inl one) (λ two. inr two.0) may.1))
    on_ids (UnlockId s from advance) next answer g may fits found e finds = subst (λ x. Goes (UnlockId s from advance) x next) (seen s may.0 found e)
        (unlocks_some s from advance next g may (subst (FindsId p q w (UnlockId s from advance)) (sym (seen s may.0 found e)) finds))
    on_ids (EndId s) next answer g may fits found e finds = subst (λ x. Goes (EndId s) x next) (seen s may.0 found e) (end_ticks q narrow life calls c us sound i seat u at_seat at sized few s may.0 next g)
    on_ids (FreeId s) next answer g may fits found e finds = let r = g.1 found tt in other_word (ids.tag_index s) 0 (λ j e. omega (arith, e)) (λ o e. omega (arith, e)) (next found) (same_mark (FreeId s) found next r.0 r.1 r.2)
    on_ids (TakeCall s) next answer g may fits found e finds = let r = g.1 found tt in no_word (calls_after (TakeCall s) found c.calls) refl refl (next found) (same_mark (TakeCall s) found next r.0 r.1 r.2)
    on_ids (TakeBytes k room) next answer g may fits found e finds = takes_some k room next g found (λ is. fits (closed_back c.calls.ending (taken answer) (e ∙ ap some is)))
      where
        closed_back : (b : Bool) (t : Option Taking) → taking_in b t ≡ some Closed → t ≡ some Closed
        closed_back b none e = absurd (some-ne-none Closed (sym e))
        closed_back b (some (Bytes bytes)) e = let z : Bytes bytes ≡ Closed = by_bytes b e in absurd cc
          where
            by_bytes : (b : Bool) → some (at_last b (Bytes bytes)) ≡ some Closed → Bytes bytes ≡ Closed
            by_bytes true e = some-injective (Bytes bytes) Closed e
            by_bytes false e = some-injective (Bytes bytes) Closed e
        closed_back b (some Closed) e = refl
        closed_back true (some Nothing) e = let z : NoMore ≡ Closed = some-injective NoMore Closed e in absurd cc
        closed_back false (some Nothing) e = let z : Nothing ≡ Closed = some-injective Nothing Closed e in absurd cc
        closed_back true (some NoMore) e = let z : NoMore ≡ Closed = some-injective NoMore Closed e in absurd cc
        closed_back false (some NoMore) e = let z : NoMore ≡ Closed = some-injective NoMore Closed e in absurd cc
        closed_back true (some AtEnd) e = let z : AtEnd ≡ Closed = some-injective AtEnd Closed e in absurd cc
        closed_back false (some AtEnd) e = let z : AtEnd ≡ Closed = some-injective AtEnd Closed e in absurd cc
        closed_back true (some Broken) e = let z : Broken ≡ Closed = some-injective Broken Closed e in absurd cc
        closed_back false (some Broken) e = let z : Broken ≡ Closed = some-injective Broken Closed e in absurd cc

    -- ## Any step

    no_message : (k : ℕ) (l : ℕ) (heading : Heading) (bytes : List ℕ) → get_elem? (set c.homes k none) l ≡ some (some (Message heading bytes)) → get_elem? c.homes l ≡ some (some (Message heading bytes))
    no_message k l heading bytes e = out_of_home q life calls c us sound i seat u at_seat at few k l heading bytes e

    on_aside : (step : Step) (next : Found step → Program) (answer : Answer) → OwesOn life u (Aside step next) → MayId p q w step → StepFits p q life calls c seat u answer (Aside step next) → (x : Option (Found step)) → found_in step c.calls (taken answer) ≡ x
        → Owed' (with_found p i seat c step x next)
    on_aside step next answer g may fits none is = before
    on_aside step next answer g may fits (some found) is = on_ids step next answer g may fits found is
        (finds_ids p q c.calls known.plan vs known.rule i w at_view real (known.called, known.placed) known.homes step (taken answer) found is may)

    by_letter : (r : ℕ) (next : Heading → List ℕ → Program) → OwesOn life u (TakeMessage r next) → (x : Option HeadedBytes) → message (λ (h : Home). h) c.homes r ≡ x → Owed' (with_message p i seat c r x (λ letter. next letter.0 letter.1))
    by_letter r next g none is = before
    by_letter r next g (some letter) is = message_ticks q life calls c us sound i seat u at_seat at few r next letter.0 letter.1 g (message_there (get_elem? c.homes r) letter is)

    by_link : (k : ℕ) (next : ℕ → Program) → OwesOn life u (TakeHome k next) → (x : Option (List ℕ × ℕ)) → Owed' (with_link p i seat c k x next)
    by_link k next g none = before
    by_link k next g (some home) = same_ticks q life calls c us sound i seat u at_seat at few (next home.1) (lies_at c.homes (link_place p k) ++ seat.hand) (set c.homes (link_place p k) none) (g home.1) (no_message (link_place p k))

    puts_home : (k n : ℕ) (after : Program) → OwesOn life u after → HoldsNoMessage seat.hand
        → Owed' (with_seat i after (others_of seat.hand) c.words (set c.homes (link_place p k) (first_of (onto_first (with_places n) seat.hand))) c)
    puts_home k n after g links = same_ticks q life calls c us sound i seat u at_seat at few after (others_of seat.hand) (set c.homes (link_place p k) (first_of (onto_first (with_places n) seat.hand))) g
        (λ r heading bytes e. ⊎_elim (λ b. absurd (placed seat.hand links heading bytes b.1)) (λ b. b.1) (at_set c.homes (link_place p k) r (first_of (onto_first (with_places n) seat.hand)) (some (Message heading bytes)) e))
      where
        placed : (hand : List Home) → HoldsNoMessage hand → (heading : Heading) (bytes : List ℕ) → first_of (onto_first (with_places n) hand) ≡ some (Message heading bytes) → ⊥
        placed [] no_ heading bytes e = some-ne-none (Message heading bytes) (sym e)
        placed (Message l cs ∷ xs) no_ heading bytes e = no_ l cs refl
        placed (Link l took m done ∷ xs) no_ heading bytes e = let z : Link l took n done ≡ Message heading bytes = some-injective (Link l took n done) (Message heading bytes) e in absurd cc
        placed (Empty ∷ xs) no_ heading bytes e = let z : Empty ≡ Message heading bytes = some-injective Empty (Message heading bytes) e in absurd cc

    same_homes : (program : Program) (hand : List Home) → OwesOn life u program → Owed' (with_seat i program hand c.words c.homes c)
    same_homes program hand g = same_ticks q life calls c us sound i seat u at_seat at few program hand c.homes g (λ r heading bytes e. e)

    by_put : (bytes : List ℕ) (next : Put → Program) → ((answer : Put) → OwesOn life u (next answer)) → (answer : Answer) → Owed' (with_put p i seat c bytes answer next)
    by_put bytes next g (OfPut answer) = same_homes (next answer) (onto_first (fed bytes answer) seat.hand) (g answer)
    by_put bytes next g _ = before

    by_ready : (next : Ready → Program) → ((answer : Ready) → OwesOn life u (next answer)) → (answer : Answer) → Owed' (with_ready p i seat c answer next)
    by_ready next g (OfReady answer) = same_homes (next answer) seat.hand (g answer)
    by_ready next g _ = before

    of_first : (answer : Answer) (program : Program) → OwesOn life u program → IdGoesOn p q w program → StepFits p q life calls c seat u answer program → Owed' (step_with p i seat c answer program)
    of_first answer (Do call next) g go fits = on_call call next g fits.0 fits.1
    of_first answer (TakeMessage r next) g go fits = by_letter r next g (message (λ (h : Home). h) c.homes r) refl
    of_first answer (TakeHome k next) g go fits = by_link k next g (link_home (λ (h : Home). h) p c.homes k)
    of_first answer (PutHome k n after) g go fits = puts_home k n after g fits
    of_first answer (PutBytes k asked bytes next) g go fits = by_put bytes next g answer
    of_first answer (AskReady k next) g go fits = by_ready next g answer
    of_first answer (Aside step next) g go fits = on_aside step next answer g go.0 fits (found_in step c.calls (taken answer)) refl
    of_first answer _ g go fits = before

    any_step : (answer : Answer) (program : Program) → OwesOn life u program → IdGoesOn p q w program → StepFits p q life calls c seat u answer (first_step program) → Owed' (tick_with p i seat c answer program)
    any_step answer (Write x after) g go fits = of_first answer (block x after) (block_goes life u x after g) (idprograms.block_goes p q narrow w x after go) fits
    any_step answer (Round head next) g go fits = of_first answer (round head next) (owes_round life u head next g) (ids_round p q w head next go) fits
    any_step answer (Do call next) g go fits = of_first answer (Do call next) g go fits
    any_step answer (TakeMessage r next) g go fits = of_first answer (TakeMessage r next) g go fits
    any_step answer (TakeHome k next) g go fits = of_first answer (TakeHome k next) g go fits
    any_step answer (PutHome k n after) g go fits = of_first answer (PutHome k n after) g go fits
    any_step answer (PutBytes k asked bytes next) g go fits = of_first answer (PutBytes k asked bytes next) g go fits
    any_step answer (AskReady k next) g go fits = of_first answer (AskReady k next) g go fits
    any_step answer (Aside step next) g go fits = of_first answer (Aside step next) g go fits
    any_step answer _ g go fits = before

  -- a tick of any seat keeps what is owed
  pub owing_ticks : (c : Core) (us : List Owing) (vs : List IdView) (m : Moment) → SoundOwing q life calls c us → SoundIds p q c vs → IsFittingOwing p q life calls c us m → (us' : List Owing) × SoundOwing q life calls (ticked p c m) us'
  owing_ticks c us vs m sound known fitting = by_seat (get_elem? c.seats m.seat) refl
    where
      by_seat : (x : Option SeatState) → get_elem? c.seats m.seat ≡ x → (us' : List Owing) × SoundOwing q life calls (elim x as (λ o. Core) [ none ↦ c | some seat ↦ tick_with p m.seat seat c m.answer seat.program ]) us'
      by_seat none e = (us, sound)
      by_seat (some seat) e = let u = elem_there c.seats us m.seat seat sound.each e in let w = elem_there c.seats vs m.seat seat known.each e in
          any_step c us sound vs known m.seat seat u.0 e u.1 w.0 w.1 m.answer seat.program (sound.seats m.seat seat u.0 e u.1) (known.seats m.seat seat w.0 e w.1) (fitting seat u.0 e u.1)
