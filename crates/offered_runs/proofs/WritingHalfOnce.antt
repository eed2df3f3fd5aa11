-- The writing half of a link lies at one place at any moment of a run, at home or in a seat's hand.
use Rattle.std.proofs.Common.{◌≡◌, ◌≢◌, ℕ, zero, suc, ◌+◌, ◌≤◌, ◌==◌, ne_eqb, eq-eqb, Bool, true, false, cond, List, [], ◌∷◌, ◌++◌, map, set, ⊎_elim, inl, inr, refl, sym, ap, ◌∙◌, subst, arith}
use mathlib.Core.Logic.{dite}
use mathlib.Core.Option.{Option, none, some, some-injective}
use native.Mathlib.Decide.{ℕ_discrete}
use lib.ListN.{get_elem?}
use Rattle.atomic_table.proofs.Lists.{at_set, set_else}
use Rattle.sock_words.specs.declared.plain.Plan.{Plan}
use Rattle.sock_io.specs.declared.link.Put.{Put}
use Rattle.sock_io.specs.declared.link.Put.TheVariants.{Took, Again, Failed}
use Rattle.sock_model.specs.declared.home.Home.{Home}
use Rattle.sock_model.specs.declared.home.Home.TheVariants.{Empty, Link, Message}
use Rattle.sock_model.specs.declared.view.View.{View}
use Rattle.slot_steps.proofs.SlotWeightSums.{total-append, total-set, term_le}
use Rattle.sock_steps.proofs.LifeLinkSlotPlaces.{two_seats}
use Rattle.brpc_model.specs.Items.{Item}
use Rattle.seat_programs.specs.FoundAndChangedAside.{calls_after}
use Rattle.seat_programs.specs.TableSteps.{TableStep, OnLink, OnMessage, TakeLink, FinishLink, PutLink, PutMessage}
use Rattle.seat_programs.specs.ClientProgram.{ending_of}
use Rattle.seat_programs.specs.Cores.{Calls, Core, SeatState, found_at, words_after, with_seat, homes_after, hand_after, lies_at, first_of, others_of, finished, link_place, resolved, next_step, waiting_at}
use Rattle.seat_programs.specs.StepTables.{word_of, word_after}
use Rattle.seat_programs.specs.Programs.{Program}
use Rattle.seat_programs.specs.ScriptSetupToEnding.{sizes_of, programs, readers_from, all_programs, all_tasks, opened, ending}
use Rattle.seat_programs.specs.Tasks.{opens, calls, plan_of, id_plan_of}
use Rattle.seat_programs.specs.Ticks.{Moment, IsAnswered, AreAnswered, fed, with_places, onto_first, ticked, run}
use Rattle.seat_programs.specs.StepTables.{May}
use Rattle.served_sizes.specs.served_calls.specs.served_runs.specs.Below.programs_allowed.specs.program_steps.specs.SoundSeats.{state, Sound, IsFitting, AreFitting, views_after}
use Rattle.served_sizes.specs.served_calls.specs.served_runs.specs.Below.programs_allowed.specs.program_steps.proofs.TickCases.{tick_cases}
use Rattle.served_sizes.specs.served_calls.specs.served_runs.specs.Below.programs_allowed.specs.sock_runs.proofs.HandTicks.{taking}
use Rattle.served_sizes.specs.served_calls.specs.served_runs.specs.Below.programs_allowed.specs.sock_runs.proofs.LinkTicks.{RetriesGo, link_there}
use Rattle.served_sizes.specs.served_calls.specs.served_runs.specs.Below.programs_allowed.specs.sock_runs.proofs.TicksKeepSeatsSound.{sound_ticks}
use Rattle.served_sizes.specs.served_calls.specs.served_runs.specs.Below.call_owing.specs.LivesOfLinks.{InHand}
use Rattle.served_sizes.specs.served_calls.specs.served_runs.specs.OfferedReplies.{Lies}
use Rattle.sock_words.specs.Totals.{total}

-- ## How many

-- 1 where the home has link k
abbrev is_link : ℕ → Home → ℕ
is_link k (Link l took next done) = cond (l == k) 1 0
is_link k other = 0

-- how often a seat has it in hand
abbrev in_hand : ℕ → SeatState → ℕ
in_hand k seat = total (is_link k) seat.hand

-- what lies at a place
abbrev lies : Option (Option Home) → List Home
lies o = elim o as (λ o. List Home) [ none ↦ [] | some x ↦ elim x as (λ o. List Home) [ none ↦ [] | some y ↦ y ∷ [] ] ]

is_own : (k : ℕ) (took : List ℕ) (next : ℕ) (done : Bool) → is_link k (Link k took next done) ≡ 1
is_own k took next done = ap (λ b. cond b 1 0) (eq-eqb k k refl)

is_other : (k l : ℕ) (took : List ℕ) (next : ℕ) (done : Bool) → l ≢ k → is_link k (Link l took next done) ≡ 0
is_other k l took next done far = ap (λ b. cond b 1 0) (ne_eqb l k far)

one_most : (b : Bool) → cond b 1 0 ≤ 1
one_most true = omega arith
one_most false = omega arith

is_most : (k : ℕ) (x : Home) → is_link k x ≤ 1
is_most k (Link l took next done) = one_most (l == k)
is_most k Empty = omega arith
is_most k (Message h bytes) = omega arith

lies_most : (k : ℕ) (o : Option (Option Home)) → total (is_link k) (lies o) ≤ 1
lies_most k none = omega arith
lies_most k (some none) = omega arith
lies_most k (some (some x)) = omega (arith, is_most k x)

held : (k : ℕ) (took : List ℕ) (next : ℕ) (done : Bool) (hand : List Home) → InHand (Link k took next done) hand → 1 ≤ total (is_link k) hand
held k took next done [] has = absurd has
held k took next done (x ∷ xs) (inl e) = let one = ap (is_link k) e ∙ is_own k took next done in omega (arith, one)
held k took next done (x ∷ xs) (inr has) = omega (arith, held k took next done xs has)

-- two of one hand are one, where it has the link once
one_held : (k : ℕ) (took t : List ℕ) (next n : ℕ) (done d : Bool) (hand : List Home) → total (is_link k) hand ≤ 1 → InHand (Link k took next done) hand → InHand (Link k t n d) hand → Link k took next done ≡ Link k t n d
one_held k took t next n done d [] few has have = absurd has
one_held k took t next n done d (x ∷ xs) few (inl e) (inl f) = sym e ∙ f
one_held k took t next n done d (x ∷ xs) few (inl e) (inr have) = let one = ap (is_link k) e ∙ is_own k took next done in let more = held k t n d xs have in absurd (omega (arith, one, more, few))
one_held k took t next n done d (x ∷ xs) few (inr has) (inl f) = let one = ap (is_link k) f ∙ is_own k t n d in let more = held k took next done xs has in absurd (omega (arith, one, more, few))
one_held k took t next n done d (x ∷ xs) few (inr has) (inr have) = one_held k took t next n done d xs (omega (arith, few)) has have

-- ## Changes that leave the number

finished_same : (k : ℕ) (x : Home) → is_link k (finished x) ≡ is_link k x
finished_same k (Link l took next done) = refl
finished_same k Empty = refl
finished_same k (Message h bytes) = refl

placed_same : (k n : ℕ) (x : Home) → is_link k (with_places n x) ≡ is_link k x
placed_same k n (Link l took next done) = refl
placed_same k n Empty = refl
placed_same k n (Message h bytes) = refl

fed_same : (k : ℕ) (bytes : List ℕ) (answer : Put) (x : Home) → is_link k (fed bytes answer x) ≡ is_link k x
fed_same k bytes (Took n) (Link l took next done) = refl
fed_same k bytes (Took n) Empty = refl
fed_same k bytes (Took n) (Message h b) = refl
fed_same k bytes Again x = refl
fed_same k bytes Failed x = refl

onto_same : (k : ℕ) (change : Home → Home) → ((x : Home) → is_link k (change x) ≡ is_link k x) → (hand : List Home) → total (is_link k) (onto_first change hand) ≡ total (is_link k) hand
onto_same k change same [] = refl
onto_same k change same (x ∷ xs) = ap (λ n. n + total (is_link k) xs) (same x)

finish_same : (p : Plan) (k n : ℕ) (hs : List (Option Home)) (hand : List Home) → total (is_link k) (hand_after p (OnLink (FinishLink n)) hs hand) ≡ total (is_link k) hand
finish_same p k n hs [] = refl
finish_same p k n hs (x ∷ xs) = ap (λ m. m + total (is_link k) xs) (finished_same k x)

-- the first in hand and the others are what was in hand
split_same : (k : ℕ) (hand : List Home) → total (is_link k) (lies (some (first_of hand))) + total (is_link k) (others_of hand) ≡ total (is_link k) hand
split_same k [] = refl
split_same k (x ∷ xs) = omega arith

others_same : (change : Home → Home) (hand : List Home) → others_of (onto_first change hand) ≡ others_of hand
others_same change [] = refl
others_same change (x ∷ xs) = refl

-- ## Homes that are set

set_less : {A : Type 0} (f : A → ℕ) (l : List A) (j : ℕ) (y : A) → f y ≡ 0 → total f (set l j y) ≤ total f l
set_less f [] j y e = omega arith
set_less f (x ∷ xs) zero y e = omega (arith, e)
set_less f (x ∷ xs) (suc j) y e = omega (arith, set_less f xs j y e)

-- what lies there then is what is put there
set_there : (k i : ℕ) (hs : List (Option Home)) (y : Option Home) → total (is_link k) (lies_at (set hs i y) i) ≤ total (is_link k) (lies (some y))
set_there k i hs y = by (get_elem? (set hs i y) i) refl
  where
    by : (o : Option (Option Home)) → get_elem? (set hs i y) i ≡ o → total (is_link k) (lies o) ≤ total (is_link k) (lies (some y))
    by none at = omega arith
    by (some z) at = ⊎_elim (λ a. let e = ap (λ x. total (is_link k) (lies (some x))) a.1 in omega (arith, e)) (λ a. absurd (a.0 refl)) (at_set hs i i y z at)

module _ (p : Plan) (k : ℕ) where
  abbrev at_home : List (Option Home) → ℕ
  at_home hs = total (is_link k) (lies_at hs (link_place p k))

  -- in how many places link k lies
  abbrev pub links_of : Core → ℕ
  links_of c = at_home c.homes + total (in_hand k) c.seats

  -- it lies in no more than one
  abbrev pub IsOnce : Core → Type 0
  IsOnce c = links_of c ≤ 1

  set_here : (i : ℕ) (hs : List (Option Home)) (y : Option Home) → link_place p k ≡ i → at_home (set hs i y) ≤ total (is_link k) (lies (some y))
  set_here i hs y e = let there = set_there k i hs y in let same = ap (λ j. total (is_link k) (lies_at (set hs i y) j)) e in omega (arith, there, same)

  set_far : (i : ℕ) (hs : List (Option Home)) (y : Option Home) → link_place p k ≢ i → at_home (set hs i y) ≡ at_home hs
  set_far i hs y far = ap (λ o. total (is_link k) (lies o)) (set_else hs i (link_place p k) y far)

  -- another home, or one that is emptied
  set_other : (i : ℕ) (hs : List (Option Home)) (y : Option Home) → total (is_link k) (lies (some y)) ≡ 0 → at_home (set hs i y) ≤ at_home hs
  set_other i hs y e = dite (ℕ_discrete (link_place p k) i) (λ here. let s = set_here i hs y here in omega (arith, s, e)) (λ far. let s = set_far i hs y far in omega (arith, s))

  -- a link comes from its home into a hand
  taken_out : (n : ℕ) (hs : List (Option Home)) (hand : List Home) (took : List ℕ) (next : ℕ) (done : Bool) → get_elem? hs (link_place p n) ≡ some (some (Link n took next done))
      → at_home (set hs (link_place p n) none) + total (is_link k) (lies_at hs (link_place p n) ++ hand) ≤ at_home hs + total (is_link k) hand
  taken_out n hs hand took next done at = let both = total-append (is_link k) (lies_at hs (link_place p n)) hand in dite (ℕ_discrete n k)
      (λ own. let s = set_here (link_place p n) hs none (omega (arith, own)) in let same = ap (λ j. total (is_link k) (lies_at hs (link_place p j))) own in omega (arith, both, s, same))
      (λ far. let s = set_far (link_place p n) hs none (λ e. far (omega (arith, e))) in let zero_ = ap (λ o. total (is_link k) (lies o)) at in let other = is_other k n took next done far in omega (arith, both, s, zero_, other))

  -- and from a hand to its home
  put_back : (n : ℕ) (hs : List (Option Home)) (hand : List Home) (y : Option Home) → total (is_link k) (lies (some y)) + total (is_link k) (others_of hand) ≡ total (is_link k) hand
      → at_home (set hs (link_place p n) y) + total (is_link k) (others_of hand) ≤ at_home hs + total (is_link k) hand
  put_back n hs hand y parts = dite (ℕ_discrete (link_place p k) (link_place p n)) (λ here. let s = set_here (link_place p n) hs y here in omega (arith, s, parts)) (λ far. let s = set_far (link_place p n) hs y far in omega (arith, s, parts))

  -- ## A tick

  module _ (retries : RetriesGo p) (c : Core) (vs : List View) (m : Moment) (sound : Sound p c vs) where
    module _ (seat : SeatState) (at_seat : get_elem? c.seats m.seat ≡ some seat) where
      by_parts : (program : Program) (hand : List Home) (ws : List ℕ) (hs : List (Option Home)) (a : Calls) → at_home hs + total (is_link k) hand ≤ at_home c.homes + total (is_link k) seat.hand
          → links_of (with_seat m.seat program hand ws hs (record c { calls = a })) ≤ links_of c
      by_parts program hand ws hs a few = let t = total-set (in_hand k) c.seats m.seat seat (record { program = next_step (resolved (waiting_at a.waiting m.seat) program); hand = hand }) at_seat in omega (arith, few, t)

      by_call : (v : View) → get_elem? vs m.seat ≡ some v → (call : TableStep) → May p v call → at_home (homes_after p call seat.hand c.homes) + total (is_link k) (hand_after p call c.homes seat.hand) ≤ at_home c.homes + total (is_link k) seat.hand
      by_call v at_view (OnLink (TakeLink n)) may = let h = (taking p (state c vs) sound.lawful m.seat v at_view n may).0 in taken_out n c.homes seat.hand h.took h.next h.done h.is
      by_call v at_view (OnLink (FinishLink n)) may = let s = finish_same p k n c.homes seat.hand in omega (arith, s)
      by_call v at_view (OnLink (PutLink n)) may = put_back n c.homes seat.hand (first_of seat.hand) (split_same k seat.hand)
      by_call v at_view (OnMessage (PutMessage q heading bytes)) may = let s = set_other q c.homes (some (Message heading bytes)) refl in omega (arith, s)
      by_call v at_view _ may = omega arith

      puts_back : (n x : ℕ) → at_home (set c.homes (link_place p n) (first_of (onto_first (with_places x) seat.hand))) + total (is_link k) (others_of seat.hand) ≤ at_home c.homes + total (is_link k) seat.hand
      puts_back n x = put_back n c.homes seat.hand (first_of (onto_first (with_places x) seat.hand)) (ap (λ l. total (is_link k) (lies (some (first_of (onto_first (with_places x) seat.hand)))) + total (is_link k) l) (sym (others_same (with_places x) seat.hand))
          ∙ (split_same k (onto_first (with_places x) seat.hand) ∙ onto_same k (with_places x) (placed_same k x) seat.hand))

    no_more : IsAnswered c m → IsFitting p c m → links_of (ticked p c m) ≤ links_of c
    no_more answered fitting = tick_cases p c vs m sound answered (λ d ws. links_of d ≤ links_of c) (omega arith)
        (λ seat v call next at_seat at_view is goes. by_parts seat at_seat (next (found_at c.words (word_of p call))) (hand_after p call c.homes seat.hand) (words_after c.words (word_of p call) (word_after call (found_at c.words (word_of p call)))) (homes_after p call seat.hand c.homes) c.calls
        (by_call seat at_seat v at_view call goes.0))
        (λ seat v q next heading bytes at_seat at_view is goes there. by_parts seat at_seat (next heading bytes) seat.hand c.words (set c.homes q none) c.calls (let s = set_other q c.homes none refl in omega (arith, s)))
        (λ seat v n next took n' at_seat at_view is goes there. by_parts seat at_seat (next n') (lies_at c.homes (link_place p n) ++ seat.hand) c.words (set c.homes (link_place p n) none) c.calls
        (let h = (link_there p retries c vs sound m.seat seat v at_seat at_view n next goes).1 in taken_out n c.homes seat.hand h.0 h.1 false h.2))
        (λ seat v n x after at_seat at_view is goes. by_parts seat at_seat after (others_of seat.hand) c.words (set c.homes (link_place p n) (first_of (onto_first (with_places x) seat.hand))) c.calls (puts_back seat at_seat n x))
        (λ seat v n asked bytes next answer at_seat at_view is goes answer_is fits. by_parts seat at_seat (next answer) (onto_first (fed bytes answer) seat.hand) c.words c.homes c.calls (let s = onto_same k (fed bytes answer) (fed_same k bytes answer) seat.hand in omega (arith, s)))
        (λ seat v n next answer at_seat at_view is goes answer_is. by_parts seat at_seat (next answer) seat.hand c.words c.homes c.calls (omega arith))
        (λ seat v step next found at_seat at_view is goes found_is. by_parts seat at_seat (next found) seat.hand c.words c.homes (calls_after step found c.calls) (omega arith))

  pub once_tick : RetriesGo p → (c : Core) (vs : List View) (m : Moment) → Sound p c vs → IsAnswered c m → IsFitting p c m → IsOnce c → IsOnce (ticked p c m)
  once_tick retries c vs m sound answered fitting once = let few = no_more retries c vs m sound answered fitting in omega (arith, few, once)

  pub once_along : RetriesGo p → (ms : List Moment) (c : Core) (vs : List View) → Sound p c vs → AreAnswered p c ms → AreFitting p c ms → IsOnce c → IsOnce (run p c ms)
  once_along retries [] c vs sound answered fitting once = once
  once_along retries (m ∷ ms) c vs sound answered fitting once = once_along retries ms (ticked p c m) (views_after p c vs m) (sound_ticks p retries c vs m sound answered.0 fitting.0) answered.1 fitting.1 (once_tick retries c vs m sound answered.0 fitting.0 once)

  -- ## What lies there

  lies_home : (c : Core) (took : List ℕ) (next : ℕ) (done : Bool) → get_elem? c.homes (link_place p k) ≡ some (some (Link k took next done)) → at_home c.homes ≡ 1
  lies_home c took next done at = let e = ap (λ o. total (is_link k) (lies o)) at in let one = is_own k took next done in omega (arith, e, one)

  lies_held : (c : Core) (j : ℕ) (seat : SeatState) (took : List ℕ) (next : ℕ) (done : Bool) → get_elem? c.seats j ≡ some seat → InHand (Link k took next done) seat.hand → 1 ≤ total (in_hand k) c.seats
  lies_held c j seat took next done at has = let h = held k took next done seat.hand has in let t = term_le (in_hand k) c.seats j seat at in omega (arith, h, t)

  -- so it lies there as one thing
  pub one_link : (c : Core) (took t : List ℕ) (next n : ℕ) (done d : Bool) → IsOnce c → Lies p c k (Link k took next done) → Lies p c k (Link k t n d) → Link k took next done ≡ Link k t n d
  one_link c took t next n done d once (inl e) (inl f) = some-injective _ _ (some-injective _ _ (sym e ∙ f))
  one_link c took t next n done d once (inl e) (inr (j, seat, at, has)) = let a = lies_home c took next done e in let b = lies_held c j seat t n d at has in absurd (omega (arith, a, b, once))
  one_link c took t next n done d once (inr (j, seat, at, has)) (inl f) = let a = lies_home c t n d f in let b = lies_held c j seat took next done at has in absurd (omega (arith, a, b, once))
  one_link c took t next n done d once (inr (i, seat, at, has)) (inr (j, other, there, have)) = dite (ℕ_discrete i j)
      (λ own. let same : seat ≡ other = some-injective seat other (sym at ∙ (ap (get_elem? c.seats) own ∙ there)) in let few = term_le (in_hand k) c.seats i seat at in
      one_held k took t next n done d seat.hand (omega (arith, few, once)) has (subst (λ (s : SeatState). InHand (Link k t n d) s.hand) (sym same) have))
      (λ far. let both = two_seats (in_hand k) c.seats i j seat other far at there in let a = held k took next done seat.hand has in let b = held k t n d other.hand have in absurd (omega (arith, both, a, b, once)))

-- ## As a run begins, and as it is ending

none_held : (k : ℕ) (programs : List Program) → total (in_hand k) (map (λ (program : Program). record { program = next_step (resolved [] program); hand = [] }) programs) ≡ 0
none_held k [] = refl
none_held k (x ∷ xs) = omega (arith, none_held k xs)

pub once_opened : (script : List Item) (k : ℕ) → IsOnce (plan_of script) k (opened script)
once_opened script k = let home = lies_most k (get_elem? (opened script).homes (link_place (plan_of script) k)) in let hands = none_held k (all_programs (programs (sizes_of (plan_of script) (id_plan_of script)) (all_tasks script)) (readers_from (calls script) 0 (opens script))) in omega (arith, home, hands)

-- seat 0 begins the ending with nothing in hand
pub once_ending : (script : List Item) (k : ℕ) (c : Core) → IsOnce (plan_of script) k c → IsOnce (plan_of script) k (ending script c)
once_ending script k c once = let few = set_less (in_hand k) c.seats 0 (record { program = next_step (resolved (waiting_at c.calls.waiting 0) (ending_of (opens script))); hand = [] }) refl in omega (arith, few, once)
