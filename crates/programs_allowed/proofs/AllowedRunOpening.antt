-- A run begins with the rule, and every seat is allowed its program, the readers too; and so does the ending.
use Rattle.std.proofs.Common.{◌≡◌, ℕ, zero, suc, ◌+◌, ◌-◌, ◌<◌, ◌≤◌, true, false, List, [], ◌∷◌, ◌++◌, length, map, set, get_or, replicate, refl, sym, ap, ◌∙◌, subst, ⊎_elim, arith, append-nil, append_assoc, length-set}
use Rattle.std.proofs.lemmas.List.{length-map}
use Rattle.std.specs.List.{AllByRecursion}
use mathlib.Core.Option.{some, some-injective, some-ne-none}
use lib.ListN.{get_elem?}
use Rattle.atomic_table.specs.Table.{State}
use Rattle.atomic_table.proofs.Lists.{at_set}
use Rattle.sock_words.specs.declared.plain.Plan.{Plan}
use Rattle.sock_model.specs.declared.home.Home.{Home}
use Rattle.sock_model.specs.declared.view.View.{View}
use Rattle.sock_model.specs.MarkWeights.{only}
use Rattle.sock_model.specs.SocketTableLayout.{request_index, place_index}
use Rattle.sock_model.specs.ViewsOfSplitSeats.{newcomer, below}
use Rattle.sock_model.specs.LawfulSockets.{PlanFits, Lawful}
use Rattle.seat_programs.specs.declared.task.Task.{Task}
use Rattle.corr_core.specs.declared.marks.Plan.{Plan as IdPlan}
use Rattle.seat_programs.specs.Programs.{Program, Rest}
use Rattle.seat_programs.specs.LoopHeads.{Retry}
use Rattle.seat_programs.specs.ReaderProgram.{reader}
use Rattle.seat_programs.specs.ClientProgram.{client_from, ending_of}
use Rattle.seat_programs.specs.Cores.{Core, SeatState, resolved, still_waiting, waiting_at, next_step, with_seat}
use Rattle.seat_programs.specs.ScriptSetupToEnding.{opening_words, opening_homes, sizes_of, programs, readers_from, all_programs, beginning, is_ending}
use Rattle.seat_programs.specs.ScheduledRuns.{IsAtRest}
use Rattle.seat_programs.specs.Explained.{TaskFits, alternate, AreTasks}
use Rattle.program_walks.specs.program_steps.specs.ProgramGoesOn.{GoesOn, HasNothing}
use Rattle.program_walks.specs.program_steps.specs.SoundSeats.{AreInHand, AreHeld, SoundSeat, IsWithinLimits, Sound, IsAhead}
use Rattle.program_walks.specs.program_steps.specs.IdWordFits.{FitsRetry}
use Rattle.program_walks.specs.sock_runs.proofs.SoundAlongRuns.{seat_rests}
use Rattle.program_walks.specs.sock_runs.proofs.LinkTicks.{come_goes}
use Rattle.slot_steps.proofs.SlotWeightSums.{total-append}
use Rattle.program_walks.specs.sock_steps.proofs.Reseat.{opening_law, splitting_law}
use Rattle.programs_allowed.specs.SeatOpenings.{links_of, links_of_all, without_passes, client_view, opening_views, all_seats}
use Rattle.programs_allowed.proofs.WeighingWhatSeatHas.{has_nothing}
use Rattle.programs_allowed.proofs.OperationParts.{Ready}
use Rattle.programs_allowed.proofs.AllowedClients.{client_goes_on, ending_goes_on}
use Rattle.programs_allowed.proofs.RetryAllowed.{retries_go}
use Rattle.programs_allowed.proofs.ReaderAllowed.{reader_goes}
use Rattle.programs_allowed.proofs.WordsAtBeginning.{beyond, unused, at_home, length_homes, no_message}
use Rattle.programs_allowed.proofs.PassesOfClients.{total_without, without_append, enough}
use Rattle.sock_words.specs.Totals.{total}

-- ## The views of the seats

-- the core as the rule sees it, with these views
abbrev begun : Plan → List View → State Home View
begun p vs = record { words = opening_words p; homes = opening_homes p; views = vs }

-- seat 0 gives each client its passes
spread : (p : Plan) (passes : List ℕ) (more : ℕ) (done : List View) (clients : List (List Task)) → ((k : ℕ) → total (only k) (links_of_all clients) ≤ total (only k) passes) → length clients ≤ more
    → Lawful (λ home. home) p (begun p (newcomer p passes more ∷ done))
    → Lawful (λ home. home) p (begun p (newcomer p (without_passes (links_of_all clients) passes) (more - length clients) ∷ (done ++ map (client_view p) clients)))
spread p passes more done [] has few law = let q : more ≡ more - 0 = omega arith in subst (λ vs. Lawful (λ home. home) p (begun p (newcomer p passes (more - 0) ∷ vs))) (sym (append-nil done)) (subst (λ m. Lawful (λ home. home) p (begun p (newcomer p passes m ∷ done))) q law)
spread p passes more done (ts ∷ clients) has few law =
    let left : List ℕ = without_passes (links_of ts) passes in
    let mine : (k : ℕ) → total (only k) (links_of ts) ≤ total (only k) passes = λ k. omega (arith, has k, total-append (only k) (links_of ts) (links_of_all clients)) in
    let law' : Lawful (λ home. home) p (begun p (newcomer p left (more - 1) ∷ (done ++ client_view p ts ∷ []))) = splitting_law (λ home. home) p (begun p (newcomer p passes more ∷ done)) law 0 (newcomer p passes more) refl p left (links_of ts) (more - 1) 0
    (λ k. omega (arith, total_without (links_of ts) passes mine k)) (omega (arith, few)) refl in
    let goal = spread p left (more - 1) (done ++ client_view p ts ∷ []) clients (λ k. omega (arith, has k, total-append (only k) (links_of ts) (links_of_all clients), total_without (links_of ts) passes mine k)) (omega (arith, few)) law' in
    let spare_is : more - 1 - length clients ≡ more - suc (length clients) = omega arith in
    subst (λ vs. Lawful (λ home. home) p (begun p (newcomer p (without_passes (links_of ts ++ links_of_all clients) passes) (more - suc (length clients)) ∷ vs))) (append_assoc done (client_view p ts ∷ []) (map (client_view p) clients))
    (subst (λ ps. Lawful (λ home. home) p (begun p (newcomer p ps (more - suc (length clients)) ∷ ((done ++ client_view p ts ∷ []) ++ map (client_view p) clients)))) (sym (without_append (links_of ts) (links_of_all clients) passes))
    (subst (λ m. Lawful (λ home. home) p (begun p (newcomer p (without_passes (links_of_all clients) left) m ∷ ((done ++ client_view p ts ∷ []) ++ map (client_view p) clients)))) spare_is goal))

-- ## The seats behind the clients

-- seats without tasks open no link
links_more : (clients others : List (List Task)) → links_of_all others ≡ [] → links_of_all (clients ++ others) ≡ links_of_all clients
links_more [] others e = e
links_more (ts ∷ clients) others e = ap (λ ks. links_of ts ++ ks) (links_more clients others e)

no_links : (m n : ℕ) → links_of_all (replicate m [] ++ replicate n []) ≡ []
no_links zero zero = refl
no_links zero (suc n) = no_links zero n
no_links (suc m) n = no_links m n

-- ## The programs of the seats

-- a seat begins with this
new_ready : (p : Plan) (ks passes : List ℕ) (more : ℕ) → ((k : ℕ) → total (only k) ks ≤ total (only k) passes) → Ready ([] ∷ []) [] ks (newcomer p passes more)
new_ready p ks passes more has = record {
  rest = [];
  idle = record { refs = λ i. refl; zeros = λ i w. refl; codes = λ i. refl; claims = λ i. refl; retired = λ i w h. absurd (omega (arith, h)) };
  here = λ f o. refl;
  other = λ f o j n. refl;
  passes_are = has;
  hands_are = refl;
  lists_are = refl;
  quiet = record { claims = refl; loose = refl; rights = refl };
}

-- the seat with this program, before its first step
abbrev pub at_first : Program → SeatState
at_first program = record { program = next_step (resolved [] program); hand = [] }

-- the program is allowed with the passes of the links that these tasks open
abbrev Begins : Plan → Program → List Task → Type 0
Begins p program ts = (passes : List ℕ) (more : ℕ) → ((k : ℕ) → total (only k) (links_of ts) ≤ total (only k) passes) → GoesOn p (newcomer p passes more) program

seat_begins : (p : Plan) → p.requests ≤ 4096 → (program : Program) (ts : List Task) → Begins p program ts → (passes : List ℕ) (more : ℕ) → ((k : ℕ) → total (only k) (links_of ts) ≤ total (only k) passes) → SoundSeat p (at_first program) (newcomer p passes more)
seat_begins p requests program ts b passes more has = record { hand = tt; goes_on = come_goes p (retries_go p requests) (newcomer p passes more) [] program tt (b passes more has) }

client_begins : (p : Plan) (q : IdPlan) → p.slots ≤ 256 → p.requests ≤ 4096 → (ts : List Task) → AllByRecursion (TaskFits p) ts → length ts ≤ 4096 → ((n : ℕ) → alternate n false ts ≡ true) → Begins p (client_from (sizes_of p q) [] ts) ts
client_begins p q slots requests ts fit few rest passes more has = client_goes_on p q slots requests ts fit [] [] (λ n. false) (newcomer p passes more) tt (omega (arith, few)) rest (λ n. omega arith) (new_ready p (links_of ts) passes more has)

rest_begins : (p : Plan) → Begins p Rest []
rest_begins p passes more has = has_nothing (new_ready p [] passes more has)

reader_begins : (p : Plan) (calls : List ℕ) (k o : ℕ) → o < p.operations → Begins p (reader calls k o) []
reader_begins p calls k o inside passes more has = reader_goes p calls k o inside (new_ready p [] passes more has)

-- each of these programs begins with the tasks beside it
abbrev AllBegin : Plan → List Program → List (List Task) → Type 0
AllBegin p [] [] = Unit {0}
AllBegin p [] (ts ∷ tss) = ⊥
AllBegin p (x ∷ xs) [] = ⊥
AllBegin p (x ∷ xs) (ts ∷ tss) = Begins p x ts × AllBegin p xs tss

begun_at : (p : Plan) → p.requests ≤ 4096 → (xs : List Program) (tss : List (List Task)) → AllBegin p xs tss → (i : ℕ) (seat : SeatState) (v : View) → get_elem? (map at_first xs) i ≡ some seat → get_elem? (map (client_view p) tss) i ≡ some v → SoundSeat p seat v
begun_at p requests [] [] all i seat v e f = absurd (some-ne-none v (sym f))
begun_at p requests [] (ts ∷ tss) all i seat v e f = absurd all
begun_at p requests (x ∷ xs) [] all i seat v e f = absurd all
begun_at p requests (x ∷ xs) (ts ∷ tss) all zero seat v e f = subst (λ s. SoundSeat p s v) (some-injective (at_first x) seat e) (subst (SoundSeat p (at_first x)) (some-injective (client_view p ts) v f) (seat_begins p requests x ts all.0 (links_of ts) 0 (λ k. omega arith)))
begun_at p requests (x ∷ xs) (ts ∷ tss) all (suc i) seat v e f = begun_at p requests xs tss all.1 i seat v e f

goes_at : (p : Plan) (xs : List Program) (tss : List (List Task)) → AllBegin p xs tss → (i : ℕ) (x : Program) (v : View) → get_elem? xs i ≡ some x → get_elem? (map (client_view p) tss) i ≡ some v → GoesOn p v x
goes_at p [] [] all i y v e f = absurd (some-ne-none v (sym f))
goes_at p [] (ts ∷ tss) all i y v e f = absurd all
goes_at p (x ∷ xs) [] all i y v e f = absurd all
goes_at p (x ∷ xs) (ts ∷ tss) all zero y v e f = subst (GoesOn p v) (some-injective x y e) (subst (λ u. GoesOn p u x) (some-injective (client_view p ts) v f) (all.0 (links_of ts) 0 (λ k. omega arith)))
goes_at p (x ∷ xs) (ts ∷ tss) all (suc i) y v e f = goes_at p xs tss all.1 i y v e f

begin_both : (p : Plan) (xs ys : List Program) (tss uss : List (List Task)) → AllBegin p xs tss → AllBegin p ys uss → AllBegin p (xs ++ ys) (tss ++ uss)
begin_both p [] ys [] uss a b = b
begin_both p [] ys (x ∷ tss) uss a b = absurd a
begin_both p (x ∷ xs) ys [] uss a b = absurd a
begin_both p (x ∷ xs) ys (y ∷ tss) uss a b = (a.0, begin_both p xs ys tss uss a.1 b)

begin_length : (p : Plan) (xs : List Program) (tss : List (List Task)) → AllBegin p xs tss → length xs ≡ length tss
begin_length p [] [] a = refl
begin_length p [] (x ∷ tss) a = absurd a
begin_length p (x ∷ xs) [] a = absurd a
begin_length p (x ∷ xs) (y ∷ tss) a = ap suc (begin_length p xs tss a.1)

clients_begin : (p : Plan) (q : IdPlan) → p.slots ≤ 256 → p.requests ≤ 4096 → (clients : List (List Task)) → AllByRecursion (AllByRecursion (TaskFits p)) clients → AllByRecursion (λ (ts : List Task). length ts ≤ 4096) clients
    → ((n : ℕ) → AllByRecursion (λ (ts : List Task). alternate n false ts ≡ true) clients) → AllBegin p (programs (sizes_of p q) clients) clients
clients_begin p q slots requests [] fit few rest = tt
clients_begin p q slots requests (ts ∷ clients) fit few rest = (client_begins p q slots requests ts fit.0 few.0 (λ n. (rest n).0), clients_begin p q slots requests clients fit.1 few.1 (λ n. (rest n).1))

rests_begin : (p : Plan) (n : ℕ) → AllBegin p (replicate n Rest) (replicate n [])
rests_begin p zero = tt
rests_begin p (suc n) = (rest_begins p, rests_begin p n)

readers_begin : (p : Plan) (calls : List ℕ) (k : ℕ) (os : List ℕ) → AllByRecursion (λ o. o < p.operations) os → AllBegin p (readers_from calls k os) (replicate (length os) [])
readers_begin p calls k [] inside = tt
readers_begin p calls k (o ∷ os) inside = (reader_begins p calls k o inside.0, readers_begin p calls (k + 1) os inside.1)

-- ## A run begins

-- the seats behind the first, and their tasks
abbrev later_programs : Plan → IdPlan → List (List Task) → List ℕ → List ℕ → List Program
later_programs p q clients calls opens = programs (sizes_of p q) clients ++ (replicate (32 - suc (length (programs (sizes_of p q) clients))) Rest ++ readers_from calls 0 opens)

abbrev later_seats : List (List Task) → ℕ → List (List Task)
later_seats clients readers = clients ++ (replicate (32 - suc (length clients)) [] ++ replicate readers [])

later_begin : (p : Plan) (q : IdPlan) → p.slots ≤ 256 → p.requests ≤ 4096 → (clients : List (List Task)) (calls opens : List ℕ) → AllByRecursion (AllByRecursion (TaskFits p)) clients → AllByRecursion (λ (ts : List Task). length ts ≤ 4096) clients
    → ((n : ℕ) → AllByRecursion (λ (ts : List Task). alternate n false ts ≡ true) clients) → AllByRecursion (λ o. o < p.operations) opens → AllBegin p (later_programs p q clients calls opens) (later_seats clients (length opens))
later_begin p q slots requests clients calls opens fit few rest inside =
    let same : length (programs (sizes_of p q) clients) ≡ length clients = length-map clients (client_from (sizes_of p q) []) in
    begin_both p (programs (sizes_of p q) clients) (replicate (32 - suc (length (programs (sizes_of p q) clients))) Rest ++ readers_from calls 0 opens) clients (replicate (32 - suc (length clients)) [] ++ replicate (length opens) [])
    (clients_begin p q slots requests clients fit few rest)
    (begin_both p (replicate (32 - suc (length (programs (sizes_of p q) clients))) Rest) (readers_from calls 0 opens) (replicate (32 - suc (length clients)) []) (replicate (length opens) [])
    (subst (λ n. AllBegin p (replicate (32 - suc n) Rest) (replicate (32 - suc (length clients)) [])) (sym same) (rests_begin p (32 - suc (length clients))))
    (readers_begin p calls 0 opens inside))

-- no retry waits
none_wait : (n i : ℕ) → waiting_at (replicate n []) i ≡ []
none_wait zero i = refl
none_wait (suc n) zero = refl
none_wait (suc n) (suc i) = none_wait n i

-- with clients that have these tasks, over these calls and `open` operations
abbrev pub begun_core : Plan → IdPlan → List (List Task) → List ℕ → List ℕ → Core
begun_core p q clients calls opens = beginning p q (all_programs (programs (sizes_of p q) clients) (readers_from calls 0 opens))

-- the first seat has its own links, and the others theirs
module _ (p : Plan) (ts : List Task) (clients : List (List Task)) (readers : ℕ) (are : AreTasks p (ts ∷ clients)) where
  later_links : links_of_all (later_seats clients readers) ≡ links_of_all clients
  later_links = links_more clients (replicate (32 - suc (length clients)) [] ++ replicate readers []) (no_links (32 - suc (length clients)) readers)

  both_have : (k : ℕ) → total (only k) (links_of ts) + total (only k) (links_of_all (later_seats clients readers)) ≤ total (only k) (below p.links)
  both_have k = omega (arith, enough p (ts ∷ clients) are k, total-append (only k) (links_of ts) (links_of_all clients), ap (total (only k)) later_links)

  later_has : (k : ℕ) → total (only k) (links_of_all (later_seats clients readers)) ≤ total (only k) (below p.links)
  later_has k = omega (arith, both_have k)

  first_has : (k : ℕ) → total (only k) (links_of ts) ≤ total (only k) (without_passes (links_of_all (later_seats clients readers)) (below p.links))
  first_has k = omega (arith, both_have k, total_without (links_of_all (later_seats clients readers)) (below p.links) later_has k)

module _ (p : Plan) (q : IdPlan) (ts : List Task) (clients : List (List Task)) (calls opens : List ℕ) (are : AreTasks p (ts ∷ clients)) (limits : IsWithinLimits p) (inside : AllByRecursion (λ o. o < p.operations) opens) where
  first_begins : Begins p (client_from (sizes_of p q) [] ts) ts
  first_begins = let fit = are.fit in let small = are.few in client_begins p q limits.slots limits.requests ts fit.0 small.0 (λ n. (are.alternating n).0)

  others_begin : AllBegin p (later_programs p q clients calls opens) (later_seats clients (length opens))
  others_begin = let fit = are.fit in let small = are.few in later_begin p q limits.slots limits.requests clients calls opens fit.1 small.1 (λ n. (are.alternating n).1) inside

  abbrev first_view : View
  first_view = newcomer p (without_passes (links_of_all (later_seats clients (length opens))) (below p.links)) (511 - length (later_seats clients (length opens)))

  seats_sound : (i : ℕ) (seat : SeatState) (v : View) → get_elem? (map at_first (client_from (sizes_of p q) [] ts ∷ later_programs p q clients calls opens)) i ≡ some seat → get_elem? (opening_views p (ts ∷ later_seats clients (length opens))) i ≡ some v → SoundSeat p seat v
  seats_sound zero seat v e f = subst (λ s. SoundSeat p s v) (some-injective (at_first (client_from (sizes_of p q) [] ts)) seat e) (subst (SoundSeat p (at_first (client_from (sizes_of p q) [] ts))) (some-injective first_view v f)
      (seat_begins p limits.requests (client_from (sizes_of p q) [] ts) ts first_begins (without_passes (links_of_all (later_seats clients (length opens))) (below p.links)) (511 - length (later_seats clients (length opens))) (first_has p ts clients (length opens) are)))
  seats_sound (suc i) seat v e f = begun_at p limits.requests (later_programs p q clients calls opens) (later_seats clients (length opens)) others_begin i seat v e f

  seats_go : (i : ℕ) (x : Program) (v : View) → get_elem? (client_from (sizes_of p q) [] ts ∷ later_programs p q clients calls opens) i ≡ some x → get_elem? (opening_views p (ts ∷ later_seats clients (length opens))) i ≡ some v → GoesOn p v x
  seats_go zero x v e f = subst (GoesOn p v) (some-injective (client_from (sizes_of p q) [] ts) x e) (subst (λ u. GoesOn p u (client_from (sizes_of p q) [] ts)) (some-injective first_view v f)
      (first_begins (without_passes (links_of_all (later_seats clients (length opens))) (below p.links)) (511 - length (later_seats clients (length opens))) (first_has p ts clients (length opens) are)))
  seats_go (suc i) x v e f = goes_at p (later_programs p q clients calls opens) (later_seats clients (length opens)) others_begin i x v e f

-- each seat is allowed its program
pub opens_goes : (p : Plan) (q : IdPlan) (clients : List (List Task)) (calls opens : List ℕ) → AreTasks p clients → IsWithinLimits p → AllByRecursion (λ o. o < p.operations) opens → (i : ℕ) (x : Program) (v : View)
    → get_elem? (all_programs (programs (sizes_of p q) clients) (readers_from calls 0 opens)) i ≡ some x → get_elem? (opening_views p (all_seats clients (length opens))) i ≡ some v → GoesOn p v x
opens_goes p q [] calls opens are limits inside i x v e f = let z = are.some_ in absurd (omega (arith, z))
opens_goes p q (ts ∷ clients) calls opens are limits inside i x v e f = seats_go p q ts clients calls opens are limits inside i x v e f

-- and the rule holds
pub opens_sound : (p : Plan) (q : IdPlan) (clients : List (List Task)) (calls opens : List ℕ) → AreTasks p clients → IsWithinLimits p → PlanFits p → length (all_seats clients (length opens)) ≤ 512 → AllByRecursion (λ o. o < p.operations) opens
    → Sound p (begun_core p q clients calls opens) (opening_views p (all_seats clients (length opens)))
opens_sound p q [] calls opens are limits fits few inside = let z = are.some_ in absurd (omega (arith, z))
opens_sound p q (ts ∷ clients) calls opens are limits fits few inside = let later : List (List Task) = later_seats clients (length opens) in record {
  limits = limits;
  lawful = spread p (below p.links) 511 [] later (later_has p ts clients (length opens) are) (omega (arith, few)) (opening_law (λ home. home) p (opening_words p) (opening_homes p) (unused p) fits (limits.first)
      (λ r rl. beyond p (request_index p r) (omega arith)) (λ l ll. beyond p (place_index p l) (omega arith)) (at_home p));
  each = ap suc (length-map later (client_view p) ∙ sym (length-map (later_programs p q clients calls opens) at_first ∙ begin_length p (later_programs p q clients calls opens) later (others_begin p q ts clients calls opens are limits inside)));
  homes = length_homes p;
  labels = λ i heading bytes e. absurd (no_message p i heading bytes e);
  waiting = λ i. subst (AllByRecursion FitsRetry) (sym (none_wait q.seats i)) tt;
  seats = seats_sound p q ts clients calls opens are limits inside;
}

-- ## The ending begins

first_there : {A : Type 0} (l : List A) (a b : A) → get_elem? (set l 0 a) 0 ≡ some b → (x : A) × (get_elem? l 0 ≡ some x)
first_there [] a b e = absurd (some-ne-none b (sym e))
first_there (x ∷ xs) a b e = (x, refl)

-- the ending has no retry, and its first step comes at once
pub ending_resolved : (w : List Retry) (os : List ℕ) → (next_step (resolved w (ending_of os)) ≡ ending_of os) × (still_waiting w (ending_of os) ≡ w)
ending_resolved w [] = (refl, refl)
ending_resolved w (o ∷ os) = (refl, refl)

-- a list of lists in which one becomes what it was
again : {A : Type 0} (ws : List (List A)) (i j : ℕ) → get_or (set ws i (get_or ws i [])) j [] ≡ get_or ws j []
again [] i j = refl
again (w ∷ ws) zero zero = refl
again (w ∷ ws) zero (suc j) = refl
again (w ∷ ws) (suc i) zero = refl
again (w ∷ ws) (suc i) (suc j) = again ws i j

-- where seat 0 has no step left it may make the ending
pub ending_sound : (p : Plan) (c : Core) (views : List View) (os : List ℕ) → AllByRecursion (λ o. o < p.operations) os → IsAhead c → IsAtRest c 0 → Sound p c views
    → Sound p (with_seat 0 (ending_of os) [] c.words c.homes c) views
ending_sound p c views os all ahead idle sound = record {
  limits = sound.limits;
  lawful = sound.lawful;
  each = sound.each ∙ sym (length-set c.seats 0 ending_seat);
  homes = sound.homes;
  labels = sound.labels;
  waiting = λ i. subst (AllByRecursion FitsRetry) (sym (ap (λ w. waiting_at (set c.calls.waiting 0 w) i) (ending_resolved (waiting_at c.calls.waiting 0) os).1 ∙ again c.calls.waiting 0 i)) (sound.waiting i);
  seats = λ i seat v e f. ⊎_elim (λ t. subst (λ s. SoundSeat p s v) t.1 (new v (subst (λ j. get_elem? (set c.seats 0 ending_seat) j ≡ some seat) t.0 e) (subst (λ j. get_elem? views j ≡ some v) t.0 f)))
      (λ t. sound.seats i seat v t.1 f) (at_set c.seats 0 i ending_seat seat e);
}
  where
    ending_seat : SeatState
    ending_seat = record { program = next_step (resolved (waiting_at c.calls.waiting 0) (ending_of os)); hand = [] }

    new : (v : View) {seat : SeatState} → get_elem? (set c.seats 0 ending_seat) 0 ≡ some seat → get_elem? views 0 ≡ some v → SoundSeat p ending_seat v
    new v {seat} e f = let old = first_there c.seats ending_seat seat e in let was = sound.seats 0 old.0 v old.1 f in
        let nothing : HasNothing v = subst (GoesOn p v) (seat_rests c ahead 0 idle old.0 old.1) was.goes_on in record {
          hand = subst (λ rs. AreHeld [] rs v.hands) (sym nothing.quiet.rights) (subst (AreInHand []) (sym nothing.hands) tt);
          goes_on = subst (GoesOn p v) (sym (ending_resolved (waiting_at c.calls.waiting 0) os).0) (ending_goes_on p os all v nothing);
        }

-- behind the ending the readers are told, which changes nothing else
pub told_sound : (p : Plan) (c : Core) (views : List View) → Sound p c views → Sound p (is_ending c) views
told_sound p c views sound = record { limits = sound.limits; lawful = sound.lawful; each = sound.each; homes = sound.homes; labels = sound.labels; waiting = sound.waiting; seats = sound.seats }
