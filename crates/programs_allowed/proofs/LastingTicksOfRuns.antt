-- How many ticks a run of clients and readers has at most, and its ending.
use Rattle.std.proofs.Common.{None, ◌≡◌, ℕ, zero, suc, ◌+◌, ◌-◌, ◌*◌, ◌<◌, ◌≤◌, eqb, eq-eqb, List, [], ◌∷◌, ◌++◌, length, length-append, length-set, map, set, replicate, refl, sym, ap, ◌∙◌, subst, arith}
use Rattle.std.proofs.lemmas.Bool.{cond-true}
use Rattle.std.proofs.lemmas.List.{length-map, length-replicate}
use Rattle.std.specs.Prelude.{slice_index}
use Rattle.std.specs.List.{AllByRecursion}
use mathlib.Core.Option as core
use mathlib.Core.Option.{some, some-injective, some-ne-none}
use lib.ListN.{get_elem?}
use Rattle.sock_words.specs.declared.plain.Plan.{Plan}
use Rattle.sock_model.specs.declared.chain.Entry.{Entry}
use Rattle.sock_model.specs.declared.chain.Right.{Right}
use Rattle.sock_model.specs.declared.view.View.{View}
use Rattle.corr_core.specs.IdSlotWord.{Parts, parts}
use Rattle.corr_core.specs.declared.marks.Plan.{Plan as IdPlan}
use Rattle.id_runs.specs.id_rule.specs.LawfulIdTable.{id_index}
use Rattle.seat_programs.specs.declared.task.Op.{Op}
use Rattle.seat_programs.specs.declared.task.Op.TheVariants as ops
use Rattle.seat_programs.specs.declared.task.Task.{Task}
use Rattle.seat_programs.specs.Programs.{Program, Rest}
use Rattle.seat_programs.specs.ClientProgram.{client_from, ending_of}
use Rattle.seat_programs.specs.Cores.{Core, SeatState, resolved, still_waiting, waiting_at, next_step, with_seat}
use Rattle.seat_programs.specs.ScriptSetupToEnding.{new_links, opening_homes, sizes_of, programs, readers_from, all_programs, is_ending}
use Rattle.seat_programs.specs.Explained.{OpFits, TaskFits, AreTasks}
use Rattle.slot_steps.proofs.SlotWeightSums.{total-append}
use Rattle.program_walks.specs.program_steps.specs.ProgramGoesOn.{GoesOn}
use Rattle.program_walks.specs.program_steps.specs.SoundSeats.{IsWithinLimits}
use Rattle.program_walks.specs.program_steps.specs.TicksLeftAtMost.{STALE, attempt_cost, home_weight, accepted, walk_left, entries, expects, arriving, stale_cost, id_left, ids_left, calls_left, LastsFor, Lasts, MOST_TICKS}
use Rattle.runs_end.proofs.IdCosts.{lasts_more}
use Rattle.runs_end.proofs.Costs.{Lasting, lasting_more}
use Rattle.runs_end.proofs.WalksLeft.{set_few}
use Rattle.runs_end.proofs.SeatCosts.{waiting_left, waiting_set, settled}
use Rattle.runs_end.proofs.IdsLeft.{all_stale}
use Rattle.program_walks.specs.sock_runs.proofs.SoundAlongRuns.{beginning_ahead, seat_ahead}
use Rattle.runs_end.proofs.Bounded.{IsBounded}
use Rattle.programs_allowed.proofs.FewSeatsAtStart.{opening_few}
use Rattle.id_runs.proofs.IdRuleOpening.{unused}
use Rattle.programs_allowed.specs.SeatOpenings.{client_view, opening_views, all_seats}
use Rattle.programs_allowed.proofs.OpCosts.{op_cost, task_cost, client_lasts, ending_of_lasts}
use Rattle.programs_allowed.proofs.ReaderCosts.{reader_cost, reader_lasts}
use Rattle.programs_allowed.proofs.AllowedRunOpening.{at_first, begun_core, opens_goes, ending_resolved}
use Rattle.sock_words.specs.Totals.{total}

-- ## A run begins

no_home : (n : ℕ) → total home_weight (replicate n core.none) ≡ 0
no_home zero = refl
no_home (suc n) = omega (arith, no_home n)

no_message : (k n : ℕ) → total home_weight (new_links k n) ≡ 0
no_message k zero = refl
no_message k (suc n) = omega (arith, no_message (k + 1) n)

homes_light : (p : Plan) → total home_weight (opening_homes p) ≡ 0
homes_light p = omega (arith, total-append home_weight (replicate p.requests core.none) (new_links 0 p.links), no_home p.requests, no_message 0 p.links)

no_rights : (p : Plan) (f : Right → ℕ) (clients : List (List Task)) → total (λ (v : View). total f v.rights) (map (client_view p) clients) ≡ 0
no_rights p f [] = refl
no_rights p f (ts ∷ clients) = omega (arith, no_rights p f clients)

no_walks : (p : Plan) (f : Right → ℕ) (clients : List (List Task)) → total (λ (v : View). total f v.rights) (opening_views p clients) ≡ 0
no_walks p f [] = refl
no_walks p f (ts ∷ clients) = omega (arith, no_rights p f clients)

no_entry : (p : Plan) (clients : List (List Task)) → total (λ (v : View). total (λ (l : List Entry). length l) v.lists) (map (client_view p) clients) ≡ 0
no_entry p [] = refl
no_entry p (ts ∷ clients) = omega (arith, no_entry p clients)

no_entries : (p : Plan) (clients : List (List Task)) → entries (opening_views p clients) ≡ 0
no_entries p [] = refl
no_entries p (ts ∷ clients) = omega (arith, no_entry p clients)

-- a free id has nothing left
free_left : (requests : ℕ) (w : Parts) → w.state ≡ 0 → id_left requests w ≡ 0
free_left requests w is = cond-true (eqb w.state 0) 0 _ (eq-eqb w.state 0 is)

no_ids : (requests : ℕ) (words : List ℕ) (n : ℕ) → ((i : ℕ) → i < n → (parts (slice_index words (id_index i))).state ≡ 0) → ids_left requests words n ≡ 0
no_ids requests words zero free = refl
no_ids requests words (suc n) free = let a = free_left requests (parts (slice_index words (id_index n))) (free n (omega arith)) in let b = no_ids requests words n (λ i inside. free i (omega (arith, inside))) in omega (arith, a, b)

none_wait : (p : Plan) (n : ℕ) → total (waiting_left p) (replicate n []) ≡ 0
none_wait p zero = refl
none_wait p (suc n) = let a = none_wait p n in omega (arith, a)

-- ## What the clients' tasks cost

product_few : (r a n : ℕ) → a ≤ n → r * a ≤ r * n
product_few zero a n small = omega arith
product_few (suc r) a n small = let b = product_few r a n small in omega (arith, b, small)

attempts_few : (requests range : ℕ) → requests ≤ 4096 → range ≤ 8 → (range - 2) * attempt_cost requests ≤ 111708210
attempts_few requests range few high = let a : attempt_cost requests ≤ 18618035 = omega (arith, few) in let b = product_few (range - 2) (attempt_cost requests) 18618035 a in omega (arith, b, high)

-- over so many id slots
task_few : (p : Plan) (ids : ℕ) → IsWithinLimits p → ids ≤ 4096 → (t : Task) → TaskFits p t → task_cost p ids t ≤ 131000000
task_few p ids limits few t fits = let requests = limits.requests in let slots = limits.slots in op_few requests slots t.op fits.1
  where
    op_few : p.requests ≤ 4096 → p.slots ≤ 256 → (op : Op) → OpFits p op → op_cost p ids op ≤ 131000000
    op_few requests slots (ops.Open name k) fits = omega (arith, slots)
    op_few requests slots (ops.Send name bytes) fits = let short = fits.2 in omega (arith, requests, short)
    op_few requests slots (ops.Call asked) fits = let high = fits.range_high in let a = attempts_few p.requests asked.range requests high in omega (arith, requests, few, a)
    op_few requests slots (ops.Expire t) fits = omega arith
    op_few requests slots (ops.Join t) fits = omega arith
    op_few requests slots (ops.Hold name) fits = omega arith
    op_few requests slots (ops.Drop name) fits = omega arith
    op_few requests slots (ops.Fail name code) fits = omega arith

tasks_few : (p : Plan) (ids : ℕ) → IsWithinLimits p → ids ≤ 4096 → (ts : List Task) → AllByRecursion (TaskFits p) ts → total (task_cost p ids) ts ≤ 131000000 * length ts
tasks_few p ids limits few [] fits = omega arith
tasks_few p ids limits few (t ∷ ts) fits = let a = task_few p ids limits few t fits.0 in let b = tasks_few p ids limits few ts fits.1 in omega (arith, a, b)

clients_few : (p : Plan) (ids : ℕ) → IsWithinLimits p → ids ≤ 4096 → (clients : List (List Task)) → AllByRecursion (AllByRecursion (TaskFits p)) clients → AllByRecursion (λ (ts : List Task). length ts ≤ 4096) clients
    → total (λ (k : ℕ). k) (map (total (task_cost p ids)) clients) ≤ 536576000000 * length clients
clients_few p ids limits few [] fits small = omega arith
clients_few p ids limits few (ts ∷ clients) fits small = let a = tasks_few p ids limits few ts fits.0 in let b = clients_few p ids limits few clients fits.1 small.1 in let c = small.0 in omega (arith, a, b, c)

-- and the readers
readers_few : (calls : ℕ) → calls ≤ 4096 → (n : ℕ) → total (λ (k : ℕ). k) (replicate n (reader_cost calls)) ≤ 4415000000 * n
readers_few calls few zero = omega arith
readers_few calls few (suc n) = let a = readers_few calls few n in omega (arith, few, a)

no_numbers : (n : ℕ) → total (λ (k : ℕ). k) (replicate n 0) ≡ 0
no_numbers zero = refl
no_numbers (suc n) = let a = no_numbers n in omega (arith, a)

-- ## The numbers of the seats

-- each of these programs lasts for the number beside it
abbrev AllLast : Plan → List Program → List ℕ → Type 0
AllLast p [] [] = Unit {0}
AllLast p [] (k ∷ ks) = ⊥
AllLast p (x ∷ xs) [] = ⊥
AllLast p (x ∷ xs) (k ∷ ks) = Lasting p x k × AllLast p xs ks

last_both : (p : Plan) (xs ys : List Program) (ks ls : List ℕ) → AllLast p xs ks → AllLast p ys ls → AllLast p (xs ++ ys) (ks ++ ls)
last_both p [] ys [] ls a b = b
last_both p [] ys (k ∷ ks) ls a b = absurd a
last_both p (x ∷ xs) ys [] ls a b = absurd a
last_both p (x ∷ xs) ys (k ∷ ks) ls a b = (a.0, last_both p xs ys ks ls a.1 b)

last_length : (p : Plan) (xs : List Program) (ks : List ℕ) → AllLast p xs ks → length ks ≡ length xs
last_length p [] [] a = refl
last_length p [] (k ∷ ks) a = absurd a
last_length p (x ∷ xs) [] a = absurd a
last_length p (x ∷ xs) (k ∷ ks) a = ap suc (last_length p xs ks a.1)

clients_last : (p : Plan) (q : IdPlan) (clients : List (List Task)) → AllByRecursion (AllByRecursion (TaskFits p)) clients → AllLast p (programs (sizes_of p q) clients) (map (total (task_cost p q.slots)) clients)
clients_last p q [] fits = tt
clients_last p q (ts ∷ clients) fits = (lasting_more p (client_from (sizes_of p q) [] ts) (total (task_cost p q.slots) ts + 7 * 0) (total (task_cost p q.slots) ts) (omega arith) (client_lasts p q ts fits.0 []), clients_last p q clients fits.1)

rests_last : (p : Plan) (n : ℕ) → AllLast p (replicate n Rest) (replicate n 0)
rests_last p zero = tt
rests_last p (suc n) = ((λ v. tt), rests_last p n)

readers_last : (p : Plan) (calls : List ℕ) (k : ℕ) (os : List ℕ) → AllLast p (readers_from calls k os) (replicate (length os) (reader_cost (length calls)))
readers_last p calls k [] = tt
readers_last p calls k (o ∷ os) = (reader_lasts p calls k o, readers_last p calls (k + 1) os)

-- a seat with its program before its first step
seat_number : (p : Plan) (v : View) (program : Program) (k : ℕ) → GoesOn p v program → Lasting p program k → LastsFor p v (at_first program).program (k + arriving (at_first program).program)
seat_number p v program k goes l = let s = settled p v [] None tt [] program k goes (l v) in let few = s.1 in
    lasts_more p v (next_step (resolved [] program)) (s.0 + arriving (next_step (resolved [] program))) (k + arriving (next_step (resolved [] program))) (omega (arith, few)) s.2

-- each seat is allowed its program, which lasts for its number
numbers_at : (p : Plan) (xs : List Program) (ks : List ℕ) → AllLast p xs ks → (views : List View) → ((i : ℕ) (x : Program) (v : View) → get_elem? xs i ≡ some x → get_elem? views i ≡ some v → GoesOn p v x)
    → (i : ℕ) (seat : SeatState) (v : View) (k : ℕ) → get_elem? (map at_first xs) i ≡ some seat → get_elem? views i ≡ some v → get_elem? ks i ≡ some k → LastsFor p v seat.program (k + arriving seat.program)
numbers_at p [] ks l views goes i seat v k e f g = absurd (some-ne-none seat (sym e))
numbers_at p (x ∷ xs) [] l views goes i seat v k e f g = absurd l
numbers_at p (x ∷ xs) (n ∷ ks) l [] goes i seat v k e f g = absurd (some-ne-none v (sym f))
numbers_at p (x ∷ xs) (n ∷ ks) l (u ∷ views) goes zero seat v k e f g = subst (λ (s : SeatState). LastsFor p v s.program (k + arriving s.program)) (some-injective (at_first x) seat e)
    (subst (λ m. LastsFor p v (at_first x).program (m + arriving (at_first x).program)) (some-injective n k g) (seat_number p v x n (goes zero x v refl f) l.0))
numbers_at p (x ∷ xs) (n ∷ ks) l (u ∷ views) goes (suc i) seat v k e f g = numbers_at p xs ks l.1 views (λ j. goes (suc j)) i seat v k e f g

module _ (p : Plan) (q : IdPlan) (clients : List (List Task)) (calls opens : List ℕ) where
  abbrev all : List Program
  all = all_programs (programs (sizes_of p q) clients) (readers_from calls 0 opens)

  -- the numbers of clients and readers, and of the seats between
  abbrev first_numbers : List ℕ
  first_numbers = map (total (task_cost p q.slots)) clients ++ (replicate (32 - length (programs (sizes_of p q) clients)) 0 ++ replicate (length opens) (reader_cost (length calls)))

  all_last : AllByRecursion (AllByRecursion (TaskFits p)) clients → AllLast p all first_numbers
  all_last fits = last_both p (programs (sizes_of p q) clients) (replicate (32 - length (programs (sizes_of p q) clients)) Rest ++ readers_from calls 0 opens) (map (total (task_cost p q.slots)) clients)
      (replicate (32 - length (programs (sizes_of p q) clients)) 0 ++ replicate (length opens) (reader_cost (length calls))) (clients_last p q clients fits)
      (last_both p (replicate (32 - length (programs (sizes_of p q) clients)) Rest) (readers_from calls 0 opens) (replicate (32 - length (programs (sizes_of p q) clients)) 0) (replicate (length opens) (reader_cost (length calls)))
      (rests_last p (32 - length (programs (sizes_of p q) clients))) (readers_last p calls 0 opens))

  numbers_sum : IsWithinLimits p → q.slots ≤ 4096 → AllByRecursion (AllByRecursion (TaskFits p)) clients → AllByRecursion (λ (ts : List Task). length ts ≤ 4096) clients → length calls ≤ 4096
      → total (λ (k : ℕ). k) first_numbers ≤ 536576000000 * length clients + 4415000000 * length opens
  numbers_sum limits ids fits few some_calls = let gap : ℕ = 32 - length (programs (sizes_of p q) clients) in
      omega (
        arith,
        total-append (λ (k : ℕ). k) (map (total (task_cost p q.slots)) clients) (replicate gap 0 ++ replicate (length opens) (reader_cost (length calls))),
        total-append (λ (k : ℕ). k) (replicate gap 0) (replicate (length opens) (reader_cost (length calls))),
        clients_few p q.slots limits ids clients fits few,
        no_numbers gap,
        readers_few (length calls) some_calls (length opens),
      )

  -- nothing is counted for calls
  calls_few : calls_left p (begun_core p q clients calls opens) ≤ STALE * length (map at_first all)
  calls_few = let ids = no_ids p.requests (begun_core p q clients calls opens).calls.words q.slots (λ i inside. ap (λ (w : Parts). w.state) ((unused q).ids i inside)) in
      let waits = none_wait p q.seats in let stale = all_stale (begun_core p q clients calls opens).calls.words (map at_first all) in omega (arith, ids, waits, stale)

  length_readers : (k : ℕ) (os : List ℕ) → length (readers_from calls k os) ≡ length os
  length_readers k [] = refl
  length_readers k (o ∷ os) = ap suc (length_readers (k + 1) os)

  -- how many seats there are
  pub length_all : length clients ≤ 32 → length all ≡ 32 + length opens
  length_all few = length-append (programs (sizes_of p q) clients) (replicate (32 - length (programs (sizes_of p q) clients)) Rest ++ readers_from calls 0 opens)
      ∙ (ap (λ m. length (programs (sizes_of p q) clients) + m) (length-append (replicate (32 - length (programs (sizes_of p q) clients)) Rest) (readers_from calls 0 opens))
      ∙ omega (arith, few, length-map clients (client_from (sizes_of p q) []), length-replicate {A = Program} (32 - length (programs (sizes_of p q) clients)) Rest, length_readers 0 opens))

  pub opening_lasts : AreTasks p clients → IsWithinLimits p → q.slots ≤ 4096 → length clients ≤ 32 → length opens ≤ 32 → length calls ≤ 4096 → AllByRecursion (λ o. o < p.operations) opens
      → Lasts p (begun_core p q clients calls opens) (opening_views p (all_seats clients (length opens))) MOST_TICKS
  opening_lasts are limits ids few_clients few_opens few_calls inside = let fit = are.fit in let small = are.few in let lasts = all_last fit in record {
    numbers = first_numbers;
    each = last_length p all first_numbers lasts ∙ sym (length-map all at_first);
    seats = numbers_at p all first_numbers lasts (opening_views p (all_seats clients (length opens))) (opens_goes p q clients calls opens are limits inside);
    sum = omega (
      arith,
      numbers_sum limits ids fit small few_calls,
      homes_light p,
      no_walks p (walk_left (accepted (opening_views p (all_seats clients (length opens))))) (all_seats clients (length opens)),
      no_entries p (all_seats clients (length opens)),
      calls_few,
      few_clients,
      few_opens,
      length-map all at_first,
      length_all few_clients,
    );
  }

  pub length_seats : length clients ≤ 32 → length (all_seats clients (length opens)) ≡ 32 + length opens
  length_seats few = length-append clients (replicate (32 - length clients) [] ++ replicate (length opens) [])
      ∙ (ap (λ m. length clients + m) (length-append (replicate (32 - length clients) []) (replicate (length opens) []))
      ∙ omega (arith, few, length-replicate {A = List Task} (32 - length clients) [], length-replicate {A = List Task} (length opens) []))

  -- a run begins with at most so many ticks
  pub opening_bounded : AreTasks p clients → IsWithinLimits p → q.slots ≤ 4096 → length clients ≤ 32 → length opens ≤ 32 → length calls ≤ 4096 → AllByRecursion (λ o. o < p.operations) opens
      → IsBounded p MOST_TICKS (begun_core p q clients calls opens) (opening_views p (all_seats clients (length opens)))
  opening_bounded are limits ids few_clients few_opens few_calls inside = record {
    ahead = beginning_ahead p q all;
    few_seats = omega (arith, few_opens, length-map all at_first, length_all few_clients);
    left = MOST_TICKS;
    lasts = opening_lasts are limits ids few_clients few_opens few_calls inside;
    within = omega arith;
    few = opening_few p (all_seats clients (length opens)) (omega (arith, few_opens, length_seats few_clients));
  }

-- ## The ending begins

first_is : {A : Type 0} (l : List A) (a b : A) → get_elem? (set l 0 a) 0 ≡ some b → a ≡ b
first_is [] a b e = absurd (some-ne-none b (sym e))
first_is (x ∷ xs) a b e = some-injective a b e

later : {A : Type 0} (l : List A) (a : A) (i : ℕ) (b : A) → get_elem? (set l 0 a) (suc i) ≡ some b → get_elem? l (suc i) ≡ some b
later [] a i b e = absurd (some-ne-none b (sym e))
later (x ∷ xs) a i b e = e

pub ending_lasts : (p : Plan) (c : Core) (vs : List View) (os : List ℕ) (n : ℕ) → Lasts p c vs n → Lasts p (with_seat 0 (ending_of os) [] c.words c.homes c) vs (n + 20 * length os)
ending_lasts p c vs os n lasts = record {
  numbers = set lasts.numbers 0 (12 * length os);
  each = length-set lasts.numbers 0 (12 * length os) ∙ (lasts.each ∙ sym (length-set c.seats 0 ending_seat));
  seats = by_place;
  sum = let a = lasts.sum in omega (arith, a, set_few (λ (k : ℕ). k) lasts.numbers 0 (12 * length os), stale, waits);
}
  where
    ending_seat : SeatState
    ending_seat = record { program = next_step (resolved (waiting_at c.calls.waiting 0) (ending_of os)); hand = [] }

    -- it expects no word
    expects_none : (os : List ℕ) → total (stale_cost c.calls.words) (expects (ending_of os)) ≡ 0
    expects_none [] = refl
    expects_none (o ∷ os) = refl

    stale : total (λ (s : SeatState). total (stale_cost c.calls.words) (expects s.program)) (set c.seats 0 ending_seat) ≤ total (λ (s : SeatState). total (stale_cost c.calls.words) (expects s.program)) c.seats
    stale = let a = set_few (λ (s : SeatState). total (stale_cost c.calls.words) (expects s.program)) c.seats 0 ending_seat in
        let b : total (stale_cost c.calls.words) (expects ending_seat.program) ≡ 0 = ap (λ x. total (stale_cost c.calls.words) (expects x)) (ending_resolved (waiting_at c.calls.waiting 0) os).0 ∙ expects_none os in omega (arith, a, b)

    waits : total (waiting_left p) (set c.calls.waiting 0 (still_waiting (waiting_at c.calls.waiting 0) (ending_of os))) ≤ total (waiting_left p) c.calls.waiting
    waits = let a = waiting_set p c.calls.waiting 0 (still_waiting (waiting_at c.calls.waiting 0) (ending_of os)) in
        let b : waiting_left p (still_waiting (waiting_at c.calls.waiting 0) (ending_of os)) ≡ waiting_left p (waiting_at c.calls.waiting 0) = ap (waiting_left p) (ending_resolved (waiting_at c.calls.waiting 0) os).1 in omega (arith, a, b)

    by_place : (i : ℕ) (seat : SeatState) (v : View) (k : ℕ) → get_elem? (set c.seats 0 ending_seat) i ≡ some seat → get_elem? vs i ≡ some v → get_elem? (set lasts.numbers 0 (12 * length os)) i ≡ some k → LastsFor p v seat.program (k + arriving seat.program)
    by_place zero seat v k e f g = subst (λ (s : SeatState). LastsFor p v s.program (k + arriving s.program)) (first_is c.seats ending_seat seat e)
        (subst (λ m. LastsFor p v ending_seat.program (m + arriving ending_seat.program)) (first_is lasts.numbers (12 * length os) k g)
        (subst (λ x. LastsFor p v x (12 * length os + arriving x)) (sym (ending_resolved (waiting_at c.calls.waiting 0) os).0)
        (lasts_more p v (ending_of os) (12 * length os) (12 * length os + arriving (ending_of os)) (omega arith) (ending_of_lasts p os v))))
    by_place (suc i) seat v k e f g = lasts.seats (suc i) seat v k (later c.seats ending_seat i seat e) f (later lasts.numbers (12 * length os) i k g)

-- behind the ending the readers are told, which changes nothing else
pub told_lasts : (p : Plan) (c : Core) (vs : List View) (n : ℕ) → Lasts p c vs n → Lasts p (is_ending c) vs n
told_lasts p c vs n lasts = record { numbers = lasts.numbers; each = lasts.each; seats = lasts.seats; sum = lasts.sum }

-- the ending begins with so many ticks more
pub ending_bounded : (p : Plan) (most : ℕ) (c : Core) (vs : List View) (os : List ℕ) → IsBounded p most c vs → IsBounded p (most + 20 * length os) (with_seat 0 (ending_of os) [] c.words c.homes c) vs
ending_bounded p most c vs os b = let within = b.within in let seats = b.few_seats in record {
  ahead = seat_ahead c 0 (ending_of os) [] c.words c.homes b.ahead;
  few_seats = omega (arith, seats, length-set c.seats 0 (record { program = next_step (resolved (waiting_at c.calls.waiting 0) (ending_of os)); hand = [] }));
  left = b.left + 20 * length os;
  lasts = ending_lasts p c vs os b.left b.lasts;
  within = omega (arith, within);
  few = b.few;
}

pub told_bounded : (p : Plan) (most : ℕ) (c : Core) (vs : List View) → IsBounded p most c vs → IsBounded p most (is_ending c) vs
told_bounded p most c vs b = record { ahead = b.ahead; few_seats = b.few_seats; left = b.left; lasts = told_lasts p c vs b.left b.lasts; within = b.within; few = b.few }
