-- Wherever a link lies behind a tick, it lay before it, took no less by then, and took more only by a put of its writer.
use Rattle.std.proofs.Common.{◌≡◌, ℕ, ◌⊎◌, inl, inr, ⊎_elim, Bool, true, false, List, [], ◌∷◌, ◌++◌, take, set, append-nil, refl, sym, ap, ◌∙◌, subst}
use Rattle.std.proofs.lemmas.Bool.{true≢false}
use mathlib.Core.Option.{Option, none, some, some-injective, some-ne-none}
use lib.ListN.{get_elem?}
use Rattle.atomic_table.proofs.Lists.{at_set}
use Rattle.sock_words.specs.declared.plain.Plan.{Plan}
use Rattle.sock_io.specs.declared.link.Put.{Put}
use Rattle.sock_io.specs.declared.link.Put.TheVariants.{Took, Again, Failed}
use Rattle.sock_model.specs.declared.home.Home.{Home}
use Rattle.sock_model.specs.declared.home.Home.TheVariants.{Empty, Link, Message}
use Rattle.sock_model.specs.declared.view.View.{View}
use Rattle.brpc_model.specs.Items.{Item}
use Rattle.seat_programs.specs.ClientProgram.{ending_of}
use Rattle.seat_programs.specs.ScriptSetupToEnding.{ending}
use Rattle.seat_programs.specs.Tasks.{opens, plan_of}
use Rattle.seat_programs.specs.TableSteps.{TableStep, OnLink, OnMessage, TakeLink, FinishLink, PutLink, PutMessage}
use Rattle.seat_programs.specs.Programs.{Program, PutBytes}
use Rattle.seat_programs.specs.FoundAndChangedAside.{calls_after}
use Rattle.seat_programs.specs.Cores.{Calls, Core, SeatState, found_at, words_after, with_seat, homes_after, hand_after, lies_at, first_of, others_of, finished, link_place, resolved, next_step, waiting_at}
use Rattle.seat_programs.specs.StepTables.{word_of, word_after}
use Rattle.seat_programs.specs.Ticks.{Moment, IsAnswered, fed, with_places, onto_first, ticked}
use Rattle.seat_programs.specs.StepTables.{May}
use Rattle.calm_runs.specs.send_causes.specs.Below.programs_allowed.specs.program_steps.specs.ProgramGoesOn.{GoesOn}
use Rattle.calm_runs.specs.send_causes.specs.Below.programs_allowed.specs.program_steps.specs.SoundSeats.{state, Sound, IsFitting, HasLink}
use Rattle.calm_runs.specs.send_causes.specs.Below.programs_allowed.specs.program_steps.proofs.TickCases.{tick_cases, goes_first}
use Rattle.calm_runs.specs.send_causes.specs.Below.programs_allowed.specs.sock_runs.proofs.HandTicks.{taking}
use Rattle.calm_runs.specs.send_causes.specs.Below.programs_allowed.specs.sock_runs.proofs.LinkTicks.{RetriesGo, link_there, has_link, link_put_there}
use Rattle.calm_runs.specs.send_causes.specs.Below.call_owing.specs.LivesOfLinks.{InHand}
use Rattle.calm_runs.specs.send_causes.specs.Below.call_owing.proofs.EndsStill.{view_of}
use Rattle.served_runs.specs.OfferedReplies.{Lies, IsDone}
use Rattle.seat_programs.specs.LoopRounds.{first_step}

-- ## In hand

one_hand : (x y : Home) → InHand x (y ∷ []) → y ≡ x
one_hand x y (inl e) = e
one_hand x y (inr z) = absurd z

in_two : (x : Home) (xs ys : List Home) → InHand x (xs ++ ys) → InHand x xs ⊎ InHand x ys
in_two x [] ys has = inr has
in_two x (y ∷ xs) ys (inl e) = inl (inl e)
in_two x (y ∷ xs) ys (inr has) = ⊎_elim (λ a. inl (inr a)) (λ b. inr b) (in_two x xs ys has)

in_others : (x : Home) (hand : List Home) → InHand x (others_of hand) → InHand x hand
in_others x [] has = absurd has
in_others x (y ∷ hand) has = inr has

in_first : (x : Home) (hand : List Home) → first_of hand ≡ some x → InHand x hand
in_first x [] e = absurd (some-ne-none x (sym e))
in_first x (y ∷ hand) e = inl (some-injective y x e)

at_its_place : (hs : List (Option Home)) (i : ℕ) (x : Home) → InHand x (lies_at hs i) → get_elem? hs i ≡ some (some x)
at_its_place hs i x has = by (get_elem? hs i) has
  where
    by : (o : Option (Option Home)) → InHand x (elim o as (λ o. List Home) [ none ↦ [] | some x ↦ elim x as (λ o. List Home) [ none ↦ [] | some y ↦ y ∷ [] ] ]) → o ≡ some (some x)
    by none has = absurd has
    by (some none) has = absurd has
    by (some (some y)) has = ap (λ z. some (some z)) (one_hand x y has)

-- ## A tick

module _ (p : Plan) (k : ℕ) where
  -- the seat's next step puts bytes into link k
  pub record IsPut (c : Core) (m : Moment) : Type 0 where
    pub seat : SeatState
    pub at : get_elem? c.seats m.seat ≡ some seat
    pub asked : Bool
    pub bytes : List ℕ
    pub next : Put → Program
    pub is : first_step seat.program ≡ PutBytes k asked bytes next

  -- where the link lies that took this, and is finished so, it lay before the tick
  pub record Lay (c : Core) (m : Moment) (took' : List ℕ) (done' : Bool) : Type 0 where
    pub took : List ℕ
    pub more : List ℕ
    pub next : ℕ
    pub done : Bool
    pub lies : Lies p c k (Link k took next done)
    pub took_is : took' ≡ took ++ more
    pub put : (more ≡ []) ⊎ IsPut c m
    pub finished_on : done ≡ true → done' ≡ true

  -- no more was taken
  still : (c : Core) (m : Moment) (took : List ℕ) (next : ℕ) (done : Bool) → Lies p c k (Link k took next done) → Lay c m took done
  still c m took next done lies = record { took = took; more = []; next = next; done = done; lies = lies; took_is = sym (append-nil took); put = inl refl; finished_on = λ e. e }

  abbrev pub AllLay : Core → Moment → Core → Type 0
  AllLay c m d = (took : List ℕ) (next : ℕ) (done : Bool) → Lies p d k (Link k took next done) → Lay c m took done

  module _ (retries : RetriesGo p) (c : Core) (vs : List View) (m : Moment) (sound : Sound p c vs) where
    module _ (seat : SeatState) (at_seat : get_elem? c.seats m.seat ≡ some seat) where
      in_hand : (took : List ℕ) (next : ℕ) (done : Bool) → InHand (Link k took next done) seat.hand → Lay c m took done
      in_hand took next done has = still c m took next done (inr (m.seat, seat, at_seat, has))

      at_home : (took : List ℕ) (next : ℕ) (done : Bool) → get_elem? c.homes (link_place p k) ≡ some (some (Link k took next done)) → Lay c m took done
      at_home took next done e = still c m took next done (inl e)

      -- by what is at home, and what the seat has in hand
      by_parts : (program : Program) (hand : List Home) (ws : List ℕ) (hs : List (Option Home)) (a : Calls)
          → ((took : List ℕ) (next : ℕ) (done : Bool) → get_elem? hs (link_place p k) ≡ some (some (Link k took next done)) → Lay c m took done)
          → ((took : List ℕ) (next : ℕ) (done : Bool) → InHand (Link k took next done) hand → Lay c m took done)
          → AllLay c m (with_seat m.seat program hand ws hs (record c { calls = a }))
      by_parts program hand ws hs a home held took next done (inl e) = home took next done e
      by_parts program hand ws hs a home held took next done (inr (j, s, at, has)) = ⊎_elim
          (λ x. held took next done (subst (λ (z : SeatState). InHand (Link k took next done) z.hand) (sym x.1) has))
          (λ x. still c m took next done (inr (j, s, x.1, has))) (at_set c.seats m.seat j _ s at)

      -- another home than that of the link, or one that is emptied
      home_set : (i : ℕ) (x : Option Home) (took : List ℕ) (next : ℕ) (done : Bool) → (link_place p k ≡ i → x ≡ some (Link k took next done) → Lay c m took done)
          → get_elem? (set c.homes i x) (link_place p k) ≡ some (some (Link k took next done)) → Lay c m took done
      home_set i x took next done own e = ⊎_elim (λ a. own a.0 a.1) (λ a. at_home took next done a.1) (at_set c.homes i (link_place p k) x (some (Link k took next done)) e)

      home_after : (call : TableStep) (took : List ℕ) (next : ℕ) (done : Bool) → get_elem? (homes_after p call seat.hand c.homes) (link_place p k) ≡ some (some (Link k took next done)) → Lay c m took done
      home_after (OnLink (TakeLink n)) took next done e = home_set (link_place p n) none took next done (λ i x. absurd (some-ne-none (Link k took next done) (sym x))) e
      home_after (OnLink (PutLink n)) took next done e = home_set (link_place p n) (first_of seat.hand) took next done (λ i x. in_hand took next done (in_first (Link k took next done) seat.hand x)) e
      home_after (OnMessage (PutMessage q heading bytes)) took next done e = home_set q (some (Message heading bytes)) took next done (λ i x. absurd (no_message (some-injective (Message heading bytes) (Link k took next done) x))) e
        where
          no_message : Message heading bytes ≡ Link k took next done → ⊥
          no_message x = cc
      home_after _ took next done e = at_home took next done e

      held_after : (v : View) → get_elem? vs m.seat ≡ some v → (call : TableStep) → May p v call → (took : List ℕ) (next : ℕ) (done : Bool) → InHand (Link k took next done) (hand_after p call c.homes seat.hand) → Lay c m took done
      held_after v at_view (OnLink (TakeLink n)) may took next done has = ⊎_elim
          (λ a. let e = at_its_place c.homes (link_place p n) (Link k took next done) a in let h = (taking p (state c vs) sound.lawful m.seat v at_view n may).0 in
          let x : Link n h.took h.next h.done ≡ Link k took next done = some-injective _ _ (some-injective _ _ (sym h.is ∙ e)) in let same : n ≡ k = cc in
          at_home took next done (subst (λ i. get_elem? c.homes (link_place p i) ≡ some (some (Link k took next done))) same e))
          (λ b. in_hand took next done b) (in_two (Link k took next done) (lies_at c.homes (link_place p n)) seat.hand has)
      held_after v at_view (OnLink (FinishLink n)) may took next done has = by seat.hand (λ t x y h. in_hand t x y h) has
        where
          ended : (x : Home) → finished x ≡ Link k took next done → (old : Bool) × (x ≡ Link k took next old) × (done ≡ true)
          ended (Link j t n d) e = (d, (cc), (cc))
          ended Empty e = absurd (let z : Empty ≡ Link k took next done = e in cc)
          ended (Message h b) e = absurd (let z : Message h b ≡ Link k took next done = e in cc)

          by : (hand : List Home) → ((t : List ℕ) (x : ℕ) (y : Bool) → InHand (Link k t x y) hand → Lay c m t y) → InHand (Link k took next done) (hand_after p (OnLink (FinishLink n)) c.homes hand) → Lay c m took done
          by [] old has = absurd has
          by (x ∷ xs) old (inl e) = let z = ended x e in let o = old took next z.0 (inl z.1) in
              record { took = o.took; more = o.more; next = o.next; done = o.done; lies = o.lies; took_is = o.took_is; put = o.put; finished_on = λ _. z.2 }
          by (x ∷ xs) old (inr h) = old took next done (inr h)
      held_after v at_view (OnLink (PutLink n)) may took next done has = in_hand took next done (in_others (Link k took next done) seat.hand has)
      held_after v at_view _ may took next done has = in_hand took next done has

    -- behind each step
    pub all_lay : IsAnswered c m → IsFitting p c m → AllLay c m (ticked p c m)
    all_lay answered fitting = tick_cases p c vs m sound answered (λ d ws. AllLay c m d) (λ took next done lies. still c m took next done lies)
        (λ seat v call next at_seat at_view is goes. by_parts seat at_seat (next (found_at c.words (word_of p call))) (hand_after p call c.homes seat.hand) (words_after c.words (word_of p call) (word_after call (found_at c.words (word_of p call)))) (homes_after p call seat.hand c.homes) c.calls (home_after seat at_seat call) (held_after seat at_seat v at_view call goes.0))
        (λ seat v q next heading bytes at_seat at_view is goes there. by_parts seat at_seat (next heading bytes) seat.hand c.words (set c.homes q none) c.calls
        (λ took next done e. home_set seat at_seat q none took next done (λ i x. absurd (some-ne-none (Link k took next done) (sym x))) e) (in_hand seat at_seat))
        (λ seat v n next took n' at_seat at_view is goes there. by_parts seat at_seat (next n') (lies_at c.homes (link_place p n) ++ seat.hand) c.words (set c.homes (link_place p n) none) c.calls
        (λ took next done e. home_set seat at_seat (link_place p n) none took next done (λ i x. absurd (some-ne-none (Link k took next done) (sym x))) e)
        (λ took next' done has. ⊎_elim
        (λ a. let e = at_its_place c.homes (link_place p n) (Link k took next' done) a in let h = (link_there p retries c vs sound m.seat seat v at_seat at_view n next goes).1 in
        let x : Link n h.0 h.1 false ≡ Link k took next' done = some-injective _ _ (some-injective _ _ (sym h.2 ∙ e)) in let same : n ≡ k = cc in
        at_home seat at_seat took next' done (subst (λ i. get_elem? c.homes (link_place p i) ≡ some (some (Link k took next' done))) same e))
        (λ b. in_hand seat at_seat took next' done b) (in_two (Link k took next' done) (lies_at c.homes (link_place p n)) seat.hand has)))
        (λ seat v n x after at_seat at_view is goes. by_parts seat at_seat after (others_of seat.hand) c.words (set c.homes (link_place p n) (first_of (onto_first (with_places x) seat.hand))) c.calls
        (λ took next done e. home_set seat at_seat (link_place p n) (first_of (onto_first (with_places x) seat.hand)) took next done
        (λ i y. puts_back seat at_seat n x (has_link p retries c vs sound m.seat seat v at_seat at_view n x after goes) took next done y) e)
        (λ took next done has. in_hand seat at_seat took next done (in_others (Link k took next done) seat.hand has)))
        (λ seat v n asked bytes next answer at_seat at_view is goes answer_is fits. by_parts seat at_seat (next answer) (onto_first (fed bytes answer) seat.hand) c.words c.homes c.calls (at_home seat at_seat)
        (λ took next' done has. puts seat at_seat n asked bytes next is answer (link_put_there p retries c vs sound m.seat seat v at_seat at_view n asked bytes next goes).0 took next' done has))
        (λ seat v n next answer at_seat at_view is goes answer_is. by_parts seat at_seat (next answer) seat.hand c.words c.homes c.calls (at_home seat at_seat) (in_hand seat at_seat))
        (λ seat v step next found at_seat at_view is goes found_is. by_parts seat at_seat (next found) seat.hand c.words c.homes (calls_after step found c.calls) (at_home seat at_seat) (in_hand seat at_seat))
      where
        puts_back : (seat : SeatState) → get_elem? c.seats m.seat ≡ some seat → (n x : ℕ) → HasLink p seat n → (took : List ℕ) (next : ℕ) (done : Bool) → first_of (onto_first (with_places x) seat.hand) ≡ some (Link k took next done) → Lay c m took done
        puts_back seat at_seat n x has took next done e = let old : seat.hand ≡ Link n has.1.0 has.1.1 false ∷ [] = has.1.2 in
            let y : Link n has.1.0 x false ≡ Link k took next done = some-injective _ _ (sym (ap (λ l. first_of (onto_first (with_places x) l)) old) ∙ e) in
            let same : n ≡ k = cc in let took_same : has.1.0 ≡ took = cc in let done_same : false ≡ done = cc in
            let h : Link n has.1.0 has.1.1 false ≡ Link k took has.1.1 done = cc in
            in_hand seat at_seat took has.1.1 done (subst (InHand (Link k took has.1.1 done)) (sym old) (inl h))

        puts : (seat : SeatState) → get_elem? c.seats m.seat ≡ some seat → (n : ℕ) (asked : Bool) (bytes : List ℕ) (next : Put → Program) → first_step seat.program ≡ PutBytes n asked bytes next → (answer : Put) → HasLink p seat n
            → (took : List ℕ) (next' : ℕ) (done : Bool) → InHand (Link k took next' done) (onto_first (fed bytes answer) seat.hand) → Lay c m took done
        puts seat at_seat n asked bytes next is answer has took next' done held =
            by answer (one_hand (Link k took next' done) (fed bytes answer (Link n has.1.0 has.1.1 false)) (subst (λ l. InHand (Link k took next' done) (onto_first (fed bytes answer) l)) old held))
          where
            old : seat.hand ≡ Link n has.1.0 has.1.1 false ∷ []
            old = has.1.2

            same_hand : Link n has.1.0 has.1.1 false ≡ Link k took next' done → Lay c m took done
            same_hand e = in_hand seat at_seat took next' done (subst (InHand (Link k took next' done)) (sym old) (inl e))

            by : (answer : Put) → fed bytes answer (Link n has.1.0 has.1.1 false) ≡ Link k took next' done → Lay c m took done
            by (Took l) e = let z : Link n (has.1.0 ++ take l bytes) has.1.1 false ≡ Link k took next' done = e in let same : n ≡ k = cc in let took_is : has.1.0 ++ take l bytes ≡ took = cc in let done_is : false ≡ done = cc in record {
              took = has.1.0;
              more = take l bytes;
              next = has.1.1;
              done = false;
              lies = inr (m.seat, seat, at_seat, subst (InHand (Link k has.1.0 has.1.1 false)) (sym old) (inl (ap (λ i. Link i has.1.0 has.1.1 false) same)));
              took_is = sym took_is;
              put = inr record { seat = seat; at = at_seat; asked = asked; bytes = bytes; next = next; is = is ∙ ap (λ i. PutBytes i asked bytes next) same };
              finished_on = λ z. absurd (true≢false (sym z));
            }
            by Again e = same_hand e
            by Failed e = same_hand e

    -- whoever puts bytes into a link has it in hand unfinished
    pub done_quiet : IsDone p c k → IsPut c m → ⊥
    done_quiet done put = let v = view_of c.seats vs m.seat put.seat put.at sound.each in
        let goes = subst (GoesOn p v.0) put.is (goes_first p v.0 put.seat.program (sound.seats m.seat put.seat v.0 put.at v.1).goes_on) in
        let has = (link_put_there p retries c vs sound m.seat put.seat v.0 put.at v.1 k put.asked put.bytes put.next goes).0 in
        true≢false (sym (done has.1.0 has.1.1 false (inr (m.seat, put.seat, put.at, subst (InHand (Link k has.1.0 has.1.1 false)) (sym has.1.2) (inl refl)))))

    -- a finished link stays so
    pub done_on : IsAnswered c m → IsFitting p c m → IsDone p c k → IsDone p (ticked p c m) k
    done_on answered fitting done took next done' lies = let l = all_lay answered fitting took next done' lies in l.finished_on (done l.took l.next l.done l.lies)

-- ## The ending

-- seat 0 begins it with nothing in hand
pub lies_before : (script : List Item) (k : ℕ) (c : Core) (x : Home) → Lies (plan_of script) (ending script c) k x → Lies (plan_of script) c k x
lies_before script k c x (inl e) = inl e
lies_before script k c x (inr (j, seat, there, has)) = ⊎_elim
    (λ a. absurd (none_held (record { program = next_step (resolved (waiting_at c.calls.waiting 0) (ending_of (opens script))); hand = [] }) seat a.1 refl has))
    (λ a. inr (j, seat, a.1, has)) (at_set c.seats 0 j (record { program = next_step (resolved (waiting_at c.calls.waiting 0) (ending_of (opens script))); hand = [] }) seat there)
  where
    none_held : (x₀ seat : SeatState) → x₀ ≡ seat → x₀.hand ≡ [] → InHand x seat.hand → ⊥
    none_held x₀ seat same none_ has = subst (InHand x) (ap (λ (s : SeatState). s.hand) (sym same) ∙ none_) has
