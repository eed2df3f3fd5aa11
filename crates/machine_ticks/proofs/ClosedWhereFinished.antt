-- A link answers its reader that it is closed only where its writing half is finished, and each step keeps that it is.
use Rattle.std.proofs.Common.{◌≡◌, ◌≢◌, refl, ℕ, zero, suc, ◌+◌, ◌-◌, ◌<◌, ◌≤◌, ◌⊎◌, inl, inr, ⊎_elim, Bool, true, false, List, [], ◌∷◌, ◌++◌, flat_map, length, slice_set, slice_index_or, Option, Some, None, ap, sym, ◌∙◌, arith, subst}
use Rattle.std.specs.Prelude.{option_map}
use Rattle.std.proofs.lemmas.Option.{none-some}
use Rattle.std.proofs.Math.ListN.{length-set}
use mathlib.Core.Logic.{dite}
use native.Mathlib.Decide.{ℕ_discrete, dec_lt}
use mathlib.Core.Option as core
use lib.ListN.{get_elem?}
use Rattle.atomic_table.proofs.Lists.{at_set, set_here, set_else}
use Rattle.chain_steps.proofs.TicketLists.{at_some}
use Rattle.sock_words.specs.declared.plain.Plan.{Plan}
use Rattle.sock_io.specs.LinkHalves.{OutState, InState}
use Rattle.sock_model.specs.declared.home.Home.{Home}
use Rattle.sock_model.specs.declared.home.Home.TheVariants.{Link}
use Rattle.seat_programs.specs.Asides as asides
use Rattle.seat_programs.specs.Asides.{Taking, Closed}
use Rattle.seat_programs.specs.TableSteps as calls
use Rattle.seat_programs.specs.Programs.{Program}
use Rattle.seat_programs.specs.Cores.{Core, SeatState, link_place}
use Rattle.seat_programs.specs.Ticks.{Answer, Unasked, OfPut, OfReady, Moment, taken}
use Rattle.seat_programs.specs.ScheduledRuns.{from_to}
use Rattle.machine_model.specs.run_theorems.specs.OfferedAtTakes.{HasTaken}
use Rattle.machine_model.specs.run_theorems.specs.call_owing.specs.LivesOfLinks.{InHand, IsFinished, ClosesAt, ClosesInTime}
use Rattle.seat_states.specs.declared.point.Step.{Step}
use Rattle.seat_states.specs.ProgramStepsOfMachine.{First, OfTable, OfAside, OfMessage, OfLink, OfHome}
use Rattle.seat_states.specs.ProgramStepsOfMachine as kinds
use Rattle.reader_seats.specs.ReaderState.{ReaderData, reader_program}
use Rattle.client_seats.specs.ClientSeatState.{SeatData, seat_program}
use Rattle.machine_model.specs.MachineLinks.{LinksData, Taken, Given, ClosedAreDone, TellClosing, holder_of, is_done, link_with, in_hand}
use Rattle.machine_model.specs.Machines.{MachineState, KeepsClosed, READERS, machine_sizes, state_of, table_of, core_with}
use Rattle.machine_model.specs.MachineSteps.{OutsAfter, MadeFirst, holders_after}
use Rattle.machine_model.specs.ReadingSteps.{TakenFrom, MadeRead}
use Rattle.machine_model.specs.MachineRuns.{SameLinks}
use Rattle.machine_ticks.proofs.LinksBehindSteps.{links_kept, links_set, prompt_same, prompt_call, tell_same}
use Rattle.machine_rules.proofs.HandsAndHomes.{lies_home, own_link, home_at}
use Rattle.machine_ticks.proofs.JoiningRuns.{not_closed}
use Rattle.machine_rules.proofs.Seatings.{seat_at, read_at}
use Rattle.corr_core.proofs.NoteSums.{at_length}
use Rattle.seat_programs.specs.LoopRounds.{first_step}

-- ## Where a link lies that is finished

in_first : (x : Home) (xs ys : List Home) → InHand x xs → InHand x (xs ++ ys)
in_first x [] ys has = absurd has
in_first x (y ∷ xs) ys (inl e) = inl e
in_first x (y ∷ xs) ys (inr has) = inr (in_first x xs ys has)

in_second : (x : Home) (xs ys : List Home) → InHand x ys → InHand x (xs ++ ys)
in_second x [] ys has = has
in_second x (y ∷ xs) ys has = inr (in_second x xs ys has)

in_each : (f : ℕ → List Home) (a n k : ℕ) (x : Home) → a ≤ k → k < a + n → InHand x (f k) → InHand x (flat_map f (from_to a n))
in_each f a zero k x low high has = absurd (omega (arith, low, high))
in_each f a (suc n) k x low high has = dite (ℕ_discrete k a)
    (λ e. in_first x (f a) (flat_map f (from_to (a + 1) n)) (subst (λ j. InHand x (f j)) e has))
    (λ differ. in_second x (f a) (flat_map f (from_to (a + 1) n)) (in_each f (a + 1) n k x (omega (arith, low, differ)) (omega (arith, high)) has))

module _ (m : MachineState) (letters : length m.letters ≡ m.plan.requests) (few : length m.seats ≤ READERS) (kept : KeepsClosed m) (took : Taken) (gave : Given) (k : ℕ) (inside : k < m.plan.links) where
  abbrev c : Core
  c = core_with m took gave

  module _ (finished : Bool) (done : is_done m.links k ≡ finished) where
    abbrev link : Home
    link = Link k (took k) (slice_index_or m.links.nexts k 0) finished

    abbrev Lies : Type 0
    Lies = (get_elem? c.homes (link_place m.plan k) ≡ core.some (core.some link)) ⊎ ((j : ℕ) × (seat : SeatState) × (get_elem? c.seats j ≡ core.some seat) × InHand link seat.hand)

    is_link : link_with m.links took k ≡ link
    is_link = ap (Link k (took k) (slice_index_or m.links.nexts k 0)) done

    in_seat : (j : ℕ) (program : Program) → holder_of m.links k ≡ Some j → get_elem? c.seats j ≡ core.some (state_of m.plan m.links took program j) → Lies
    in_seat j program own at = inr (
      j,
      state_of m.plan m.links took program j,
      at,
      in_each (in_hand m.links took j) 0 m.plan.links k _ (omega arith) (omega (arith, inside)) (subst (InHand link) (sym (own_link m.links took j k own)) (inl is_link)),
    )

    in_hands : (j : ℕ) → holder_of m.links k ≡ Some j → Lies
    in_hands j own = dite (dec_lt j (length m.seats))
        (λ low. let s = at_some m.seats j low in in_seat j (seat_program (machine_sizes m) s.0) own (seat_at m took j s.0 s.1))
        (λ far. let reads = kept.held k j own (omega (arith, far)) in let more = reads.0 in let less = reads.1 in let r = at_some m.readers (j - READERS) (omega (arith, more, less)) in let e : READERS + (j - READERS) ≡ j = omega (arith, more) in
        in_seat j (reader_program m.calls r.0) own
        (subst (λ x. get_elem? c.seats x ≡ core.some (state_of m.plan m.links took (reader_program m.calls r.0) x)) e (read_at m took (j - READERS) r.0 few r.1)))

    by_holder : (o : Option ℕ) → holder_of m.links k ≡ o → Lies
    by_holder None free = inl (home_at m.plan m.letters letters m.links took k inside ∙ ap core.some (lies_home m.links took k free ∙ ap core.some is_link))
    by_holder (Some j) own = in_hands j own

    lies_there : Lies
    lies_there = by_holder (holder_of m.links k) refl

  -- a link that is finished lies so at home or in a hand
  pub finished_there : is_done m.links k ≡ true → IsFinished m.plan c k
  finished_there done = (took k, slice_index_or m.links.nexts k 0, lies_there true done)

  -- and each has taken what it took, and is finished where it is done
  pub taken_there : HasTaken m.plan k c (took k) (is_done m.links k)
  taken_there = (slice_index_or m.links.nexts k 0, lies_there (is_done m.links k) refl)

-- ## What is answered

-- a tick in which no link answered that it is closed
pub one_closes : (p : Plan) (c : Core) (m : Moment) → taken m.answer ≢ core.some Closed → ClosesInTime p c (m ∷ [])
one_closes p c m differ = (λ seat at. not_closed p c m.answer (first_step seat.program) differ, tt)

-- no client takes bytes of a link
asks_none : (answer other : Answer) → answer ≡ other → taken other ≡ core.none → taken answer ≢ core.some Closed
asks_none answer other e none_ is = core.some-ne-none Closed (sym is ∙ ap taken e ∙ none_)

module _ (old fresh : MachineState) (i : ℕ) (place seat' : SeatData) (step : Step) (p : Plan) (c : Core) where
  pub made_closes : (first : First) (answer : Answer) → MadeFirst (table_of old) (table_of fresh) i place seat' step first answer → ClosesInTime p c (record { seat = i; answer = answer } ∷ [])
  made_closes first answer w = one_closes p c (record { seat = i; answer = answer }) (by first w)
    where
      by : (first : First) → MadeFirst (table_of old) (table_of fresh) i place seat' step first answer → taken answer ≢ core.some Closed
      by (kinds.OfPut k asked bytes) w = asks_none answer (OfPut w.0) w.1 refl
      by (kinds.OfReady k) w = asks_none answer (OfReady w.0) w.1 refl
      by _ w = asks_none answer Unasked w.0 refl

-- the other end closed its half, where it tells that
is_closing : (o : Option Bool) → o ≢ None → o ≢ Some false → o ≡ Some true
is_closing None told open_ = absurd (told refl)
is_closing (Some false) told open_ = absurd (open_ refl)
is_closing (Some true) told open_ = refl

module _ (old fresh : MachineState) (k room : ℕ) (taking : Taking) (f : TakenFrom (table_of old) (table_of fresh) k room taking) where
  -- a take that was answered so found its link finished
  closed_done : ClosedAreDone old.links → TellClosing old.links → taking ≡ Closed → is_done old.links k ≡ true
  closed_done done tell is = ⊎_elim
      (λ same. done k f.inn f.at (is_closing f.inn.closing (tell k f.inn f.at) (λ e. f.closes is (same ∙ e))))
      (λ w. w.0)
      f.closing

  -- a half that is closing behind it was so, or the link is finished
  behind_done : ClosedAreDone old.links → f.inn'.closing ≡ Some true → is_done old.links k ≡ true
  behind_done done closing = ⊎_elim (λ same. done k f.inn f.at (sym same ∙ closing)) (λ w. w.0) f.closing

  behind_tells : TellClosing old.links → f.inn'.closing ≢ None
  behind_tells tell none_ = ⊎_elim (λ same. tell k f.inn f.at (sym same ∙ none_)) (λ w. tell k f.inn f.at (is_none f.inn.closing (sym w.1 ∙ none_))) f.closing
    where
      is_none : (o : Option Bool) → option_map (λ _. true) o ≡ None → o ≡ None
      is_none None e = refl
      is_none (Some b) e = absurd (none-some true (sym e))

  inn_or : (j : ℕ) (x : InState) → get_elem? fresh.links.inns j ≡ core.some x → ((j ≡ k) × (f.inn' ≡ x)) ⊎ ((j ≢ k) × (get_elem? old.links.inns j ≡ core.some x))
  inn_or j x at = at_set old.links.inns k j f.inn' x (sym (ap (λ (is : List InState). get_elem? is j) f.inns_are) ∙ at)

  take_tells : TellClosing old.links → TellClosing fresh.links
  take_tells tell j x at none_ = ⊎_elim (λ a. behind_tells tell (ap (λ (y : InState). y.closing) a.1 ∙ none_)) (λ a. tell j x a.1 none_) (inn_or j x at)

  take_done : ((j : ℕ) → is_done old.links j ≡ true → is_done fresh.links j ≡ true) → ClosedAreDone old.links → ClosedAreDone fresh.links
  take_done kept done j x at closing = kept j (⊎_elim
      (λ a. subst (λ n. is_done old.links n ≡ true) (sym a.0) (behind_done done (ap (λ (y : InState). y.closing) a.1 ∙ closing)))
      (λ a. done j x a.1 closing)
      (inn_or j x at))

-- ## What a step keeps

abbrev done_in : core.Option OutState → Bool
done_in o = elim o as (λ o. Bool) [ core.none ↦ false | core.some out ↦ out.finished ]

-- a link that is finished stays so
done_same : (l l' : LinksData) (j : ℕ) → l'.outs ≡ l.outs → is_done l j ≡ true → is_done l' j ≡ true
done_same l l' j same done = ap (λ (os : List OutState). done_in (get_elem? os j)) same ∙ done

done_set : (l l' : LinksData) (k j : ℕ) (out out' : OutState) → get_elem? l.outs k ≡ core.some out → l'.outs ≡ slice_set l.outs k out' → (out.finished ≡ true → out'.finished ≡ true) → is_done l j ≡ true → is_done l' j ≡ true
done_set l l' k j out out' at outs stays done = ap (λ (os : List OutState). done_in (get_elem? os j)) outs ∙ dite (ℕ_discrete j k)
    (λ e. ap (λ n. done_in (get_elem? (slice_set l.outs k out') n)) e ∙ ap done_in (set_here l.outs k out' (at_length l.outs k out at))
    ∙ stays (sym (ap done_in at) ∙ ap (λ n. done_in (get_elem? l.outs n)) (sym e) ∙ done))
    (λ differ. ap done_in (set_else l.outs k j out' differ) ∙ done)

done_call : (call : calls.TableStep) (l l' : LinksData) (j : ℕ) → OutsAfter call l.outs l'.outs → is_done l j ≡ true → is_done l' j ≡ true
done_call (calls.OnLink (calls.FinishLink k)) l l' j o = done_set l l' k j o.0 o.1 o.2 o.3 (λ e. o.4.finished)
done_call _ l l' j o = done_same l l' j o

-- who has a link in hand had it, or took it
holder_set : (hs : List (Option ℕ)) (k x : ℕ) (o : Option ℕ) (j : ℕ) → slice_index_or (slice_set hs k o) x None ≡ Some j → (slice_index_or hs x None ≡ Some j) ⊎ (o ≡ Some j)
holder_set [] k x o j e = inl e
holder_set (h ∷ hs) zero zero o j e = inr e
holder_set (h ∷ hs) zero (suc x) o j e = inl e
holder_set (h ∷ hs) (suc k) zero o j e = inl e
holder_set (h ∷ hs) (suc k) (suc x) o j e = holder_set hs k x o j e

abbrev HeldBefore : LinksData → ℕ → ℕ → ℕ → Type 0
HeldBefore l i k j = (holder_of l k ≡ Some j) ⊎ (j ≡ i)

same_holder : {i j : ℕ} → Some i ≡ Some j → j ≡ i
same_holder e = cc

module _ (l l' : LinksData) (i k j : ℕ) (own : holder_of l' k ≡ Some j) where
  held_same : l'.holders ≡ l.holders → HeldBefore l i k j
  held_same same = inl (sym (ap (λ (hs : List (Option ℕ)). slice_index_or hs k None) same) ∙ own)

  held_set : (x : ℕ) (o : Option ℕ) → l'.holders ≡ slice_set l.holders x o → (o ≡ Some j → j ≡ i) → HeldBefore l i k j
  held_set x o set is = ⊎_elim inl (λ e. inr (is e)) (holder_set l.holders x k o j (sym (ap (λ (hs : List (Option ℕ)). slice_index_or hs k None) set) ∙ own))

  held_taken : (x : ℕ) → l'.holders ≡ slice_set l.holders x (Some i) → HeldBefore l i k j
  held_taken x set = held_set x (Some i) set same_holder

  held_given : (x : ℕ) → l'.holders ≡ slice_set l.holders x None → HeldBefore l i k j
  held_given x set = held_set x None set (λ e. absurd (none-some j e))

  held_call : (call : calls.TableStep) → l'.holders ≡ holders_after i call l.holders → HeldBefore l i k j
  held_call (calls.OnLink (calls.TakeLink x)) set = held_taken x set
  held_call (calls.OnLink (calls.PutLink x)) set = held_given x set
  held_call _ same = held_same same

-- ## A step of a client

module _ (old fresh : MachineState) (i : ℕ) (place seat' : SeatData) (step : Step) (kept : KeepsClosed old) (inside : i < length old.seats) (seats : fresh.seats ≡ slice_set old.seats i seat') (readers : fresh.readers ≡ old.readers) where
  many : length fresh.seats ≡ length old.seats
  many = ap length seats ∙ length-set old.seats i seat'

  client_closed : fresh.links.inns ≡ old.links.inns → ((j : ℕ) → is_done old.links j ≡ true → is_done fresh.links j ≡ true) → ((k j : ℕ) → holder_of fresh.links k ≡ Some j → HeldBefore old.links i k j) → KeepsClosed fresh
  client_closed inns stays held = record {
    done = λ k x at closing. stays k (kept.done k x (sym (ap (λ (is : List InState). get_elem? is k) inns) ∙ at) closing);
    held = λ k j own past. ⊎_elim
        (λ before. subst (λ (rs : List ReaderData). (READERS ≤ j) × (j < READERS + length rs)) (sym readers) (kept.held k j before (omega (arith, many, past))))
        (λ e. absurd (omega (arith, many, past, e, inside)))
        (held k j own);
  }

  pub made_closed : (first : First) (answer : Answer) → MadeFirst (table_of old) (table_of fresh) i place seat' step first answer → KeepsClosed fresh
  made_closed (OfTable call) answer w = client_closed w.1.goes.base.inns (λ j. done_call call old.links fresh.links j w.1.outs) (λ k j own. held_call old.links fresh.links i k j own call w.1.holders)
  made_closed (OfAside aside) answer w = client_closed w.1.goes.base.inns (λ j. done_same old.links fresh.links j (ap (λ (l : LinksData). l.outs) w.1.links)) (λ k j own. held_same old.links fresh.links i k j own (ap (λ (l : LinksData). l.holders) w.1.links))
  made_closed (OfMessage q) answer w = client_closed w.1.goes.base.inns (λ j. done_same old.links fresh.links j (ap (λ (l : LinksData). l.outs) w.1.links)) (λ k j own. held_same old.links fresh.links i k j own (ap (λ (l : LinksData). l.holders) w.1.links))
  made_closed (OfLink x) answer w = client_closed w.1.goes.base.inns (λ j. done_same old.links fresh.links j (ap (λ (l : LinksData). l.outs) w.1.links)) (λ k j own. held_taken old.links fresh.links i k j own x (ap (λ (l : LinksData). l.holders) w.1.links))
  made_closed (OfHome x n) answer w = client_closed w.1.goes.base.inns (λ j. done_same old.links fresh.links j (ap (λ (l : LinksData). l.outs) w.1.links)) (λ k j own. held_given old.links fresh.links i k j own x (ap (λ (l : LinksData). l.holders) w.1.links))
  made_closed (kinds.OfPut x asked bytes) answer w = let a = w.2.asked in
      client_closed w.2.goes.base.inns (λ j. done_set old.links fresh.links x j a.out a.out' a.at a.outs_are (λ e. a.answered.finished ∙ e)) (λ k j own. held_same old.links fresh.links i k j own w.2.holders)
  made_closed (kinds.OfReady x) answer w = let a = w.2.asked in
      client_closed w.2.goes.base.inns (λ j. done_set old.links fresh.links x j a.out a.out' a.at a.outs_are (λ e. a.answered.finished ∙ e)) (λ k j own. held_same old.links fresh.links i k j own w.2.holders)

-- ## A step of a reader

module _ (old fresh : MachineState) (n : ℕ) (reader reader' : ReaderData) where
  abbrev i : ℕ
  i = READERS + n

  -- the links stay those that they were
  read_asides : (step : asides.Step) (answer : Answer) → MadeRead (table_of old) (table_of fresh) i reader reader' (OfAside step) answer → SameLinks old fresh
  read_asides (asides.TakeBytes k room) answer w = let t = w.2 in let f = t.from in links_set old fresh k f.before f.behind f.end_at f.ends_are f.same (prompt_same old.links fresh.links t.outs) (take_tells old fresh k room w.0 f)
  read_asides _ answer w = links_kept old fresh w.1.ends (prompt_same old.links fresh.links (ap (λ (l : LinksData). l.outs) w.1.links)) (tell_same old.links fresh.links (ap (λ (l : LinksData). l.inns) w.1.links))

  pub read_links : (first : First) (answer : Answer) → MadeRead (table_of old) (table_of fresh) i reader reader' first answer → SameLinks old fresh
  read_links (OfTable call) answer w = links_kept old fresh w.1.ends (prompt_call call old.links fresh.links w.1.outs) (tell_same old.links fresh.links w.1.inns)
  read_links (OfAside step) answer w = read_asides step answer w
  read_links _ answer w = absurd w

  module _ (kept : KeepsClosed old) (at : get_elem? old.readers n ≡ core.some reader) (seats : fresh.seats ≡ old.seats) where
    module _ (letters : length old.letters ≡ old.plan.requests) (inns_are : length old.links.inns ≡ old.plan.links) (few : length old.seats ≤ READERS) (took : Taken) (gave : Given) (tell : TellClosing old.links) where
      abbrev before : Core
      before = core_with old took gave

      abbrev program : Program
      program = reader_program old.calls reader

      -- the one seat whose tick it is
      at_own : (answer : Answer) → ClosesAt old.plan before answer (first_step program) → ClosesInTime old.plan before (record { seat = i; answer = answer } ∷ [])
      at_own answer closes = (λ seat there. subst (λ (s : SeatState). ClosesAt old.plan before answer (first_step s.program)) (core.some-injective _ seat (sym (read_at old took n reader few at) ∙ there)) closes, tt)

      closes_asides : (step : asides.Step) (answer : Answer) → MadeRead (table_of old) (table_of fresh) i reader reader' (OfAside step) answer → ClosesInTime old.plan before (record { seat = i; answer = answer } ∷ [])
      closes_asides (asides.TakeBytes k room) answer w = let t = w.2 in let f = t.from in at_own answer (subst (ClosesAt old.plan before answer) (sym t.is)
          (λ e. finished_there old letters few kept took gave k (let low = at_length old.links.inns k f.inn f.at in omega (arith, low, inns_are))
          (closed_done old fresh k room w.0 f kept.done tell (core.some-injective w.0 Closed (sym (ap taken w.1) ∙ e)))))
      closes_asides _ answer w = one_closes old.plan before (record { seat = i; answer = answer }) (asks_none answer Unasked w.0 refl)

      pub read_closes : (first : First) (answer : Answer) → MadeRead (table_of old) (table_of fresh) i reader reader' first answer → ClosesInTime old.plan before (record { seat = i; answer = answer } ∷ [])
      read_closes (OfTable call) answer w = one_closes old.plan before (record { seat = i; answer = answer }) (asks_none answer Unasked w.0 refl)
      read_closes (OfAside step) answer w = closes_asides step answer w
      read_closes _ answer w = absurd w

    module _ (readers : fresh.readers ≡ slice_set old.readers n reader') where
      reader_closed : ClosedAreDone fresh.links → ((k j : ℕ) → holder_of fresh.links k ≡ Some j → HeldBefore old.links i k j) → KeepsClosed fresh
      reader_closed done held = record {
        done = done;
        held = λ k j own past. let many = ap length readers ∙ length-set old.readers n reader' in let as_many = ap length seats in let low = at_length old.readers n reader at in ⊎_elim
            (λ before. let r = kept.held k j before (omega (arith, as_many, past)) in (r.0, (let less = r.1 in omega (arith, less, many))))
            (λ e. (omega (arith, e), omega (arith, e, low, many)))
            (held k j own);
      }

      closed_asides : (step : asides.Step) (answer : Answer) → MadeRead (table_of old) (table_of fresh) i reader reader' (OfAside step) answer → KeepsClosed fresh
      closed_asides (asides.TakeBytes k room) answer w = let t = w.2 in
          reader_closed (take_done old fresh k room w.0 t.from (λ j. done_same old.links fresh.links j t.outs) kept.done) (λ x j own. held_same old.links fresh.links i x j own t.holders)
      closed_asides _ answer w = reader_closed
          (subst ClosedAreDone (sym w.1.links) kept.done)
          (λ x j own. held_same old.links fresh.links i x j own (ap (λ (l : LinksData). l.holders) w.1.links))

      pub read_closed : (first : First) (answer : Answer) → MadeRead (table_of old) (table_of fresh) i reader reader' first answer → KeepsClosed fresh
      read_closed (OfTable call) answer w = reader_closed
          (λ k x there closing. done_call call old.links fresh.links k w.1.outs (kept.done k x (sym (ap (λ (is : List InState). get_elem? is k) w.1.inns) ∙ there) closing))
          (λ x j own. held_call old.links fresh.links i x j own call w.1.holders)
      read_closed (OfAside step) answer w = closed_asides step answer w
      read_closed _ answer w = absurd w
