-- A run of clients with calls as a run of deeds at the table of sockets, with readers of links beside the clients.
use Rattle.std.proofs.Common.{◌≡◌, ◌≢◌, ℕ, zero, suc, ◌+◌, ◌<◌, ◌==◌, ◌&&◌, ◌||◌, true, false, Bool, if◌then◌else◌, inl, inr, Option, Some, None, List, [], ◌∷◌, ◌++◌, length, map, flat_map, slice_get, eq-eqb, refl, sym, ap, ◌∙◌, subst, arith}
use Rattle.std.proofs.lemmas.List.{length-map}
use Rattle.std.proofs.lemmas.Option.{none-some, same_Some}
use mathlib.Core.Logic.{dite}
use native.Mathlib.Decide.{ℕ_discrete}
use mathlib.Core.Option.{some, some-injective, some-ne-none}
use lib.ListN.{get_elem?}
use Rattle.atomic_table.specs.declared.shared.Seat.{Seat}
use Rattle.brpc_model.specs.Order.{EachBefore}
use Rattle.sock_io.specs.declared.link.Out.{Ghosts}
use Rattle.sock_io.specs.LinkHalves.{OutState}
use Rattle.sock_words.specs.declared.outcome.Outcome.{Outcome}
use Rattle.sock_words.specs.declared.outcome.Outcome.TheVariants as outcome
use Rattle.sock_words.specs.declared.plain.Plan.{Plan}
use Rattle.sock_words.specs.declared.place_word.PlaceWord.{PlaceWord}
use Rattle.sock_words.specs.declared.vref.Vref.{Vref}
use Rattle.sock_model.specs.declared.view.View.{View}
use Rattle.call_places.specs.Below.SockRule.SockHome.{SockHome}
use Rattle.seat_programs.specs.declared.task.Op.{Op}
use Rattle.seat_programs.specs.declared.task.Op.TheVariants as ops
use Rattle.seat_programs.specs.declared.task.Task.{Task}
use Rattle.seat_programs.specs.Explained.{AreTasks, IsTask, Became}
use Rattle.call_places.specs.outcome_stories.specs.OperationStories.{In}
use Rattle.call_places.specs.outcome_ticks.proofs.SeatPartOfStory.{Less}
use Rattle.call_places.specs.outcome_ticks.proofs.TableTasksDistinct.{one_task, sorted_of}
use Rattle.call_places.specs.script_facts.proofs.FilteredLists.{has_from, contains_from}
use Rattle.corr_core.specs.declared.marks.Plan as id_plan
use Rattle.corr_core.specs.declared.marks.View as id_view
use Rattle.sock_message.specs.Asked.{Asked}
use Rattle.call_places.specs.Below.RpcClient.Told.{Told}
use Rattle.call_places.specs.Below.CallClient.ClientRun.{MayMakeAll}
use Rattle.call_places.specs.Below.CallRun.Opening.{Opening}
use Rattle.call_places.specs.Below.CallRun.EndingOfSockets.{EndedBehind}
use Rattle.call_places.specs.Below.CallRun.Threads.{ids_of, opens_of, is_opened, opened_in, opening_in, openings, name_if, opened_names, Thread, IsThread, AreThreads, MayRun, AllMayRun, MayRunAll, RanWith}
use Rattle.call_places.specs.Below.CallRun.ReadersOfLinks.{LinkReader, AreReaders}
use Rattle.call_places.specs.sock_deeds.specs.Deeds.{waits, own_number, Deed}
use Rattle.call_places.specs.sock_deeds.specs.SocketTableRun.{IsOperation, IsFor, numbers_at, Seated, Ended, seat_of, ReaderSeat, sits_of, DeedRun}
use Rattle.call_places.specs.sock_deeds.proofs.WhyLivesFailed.{early}
use Rattle.call_places.specs.sock_deeds.proofs.Flats.{append_later}
use Rattle.call_places.specs.sock_deeds.proofs.ListPlaces.{to_slice, to_elem, map_there, map_back}
use Rattle.call_deeds.specs.ScriptsWithCalls.{HaveLinks, AllHaveLinks, Reports, AllLater}
use Rattle.call_deeds.specs.RetriedCalls.{all_asked}
use Rattle.call_deeds.proofs.OperationsAsDeeds.{IsSaid}
use Rattle.call_places.specs.sock_deeds.proofs.WaitingForNames.{Waited}
use Rattle.call_deeds.proofs.ReadersBesideClients.{early_links, OpensLink, ReadersSeated, readers_seated}
use Rattle.call_deeds.proofs.ClientAsSocketSeat.{FitsTasks, SaysAll, client_seated}
use Rattle.call_deeds.proofs.DeedsBesideOperations.{ended_behind}
use Rattle.call_deeds.proofs.LinksOfTasks.{call_at}
use Rattle.call_deeds.proofs.Ran.{Result, AreLater}
use Rattle.call_deeds.proofs.OperationsToldOnce.{all_results, task_at, result_of, said_at, said_of, unsaid_at, open_said}

-- ## Names that were opened

pub opened_there : (told : List Told) (i number slot version link : ℕ) → get_elem? told i ≡ some record { number = number; outcome = outcome.Opened slot version link } → opened_in number told ≡ true
opened_there [] i number slot version link e = absurd (some-ne-none _ (sym e))
opened_there (t ∷ ts) zero number slot version link e =
    let same = some-injective t record { number = number; outcome = outcome.Opened slot version link } e in
    ap (λ (x : Told). ((x.number == number) && is_opened x.outcome) || opened_in number ts) same ∙ ap (λ b. (b && true) || opened_in number ts) (eq-eqb number number refl)
opened_there (t ∷ ts) (suc i) number slot version link e = or_true ((t.number == number) && is_opened t.outcome) (opened_in number ts) (opened_there ts i number slot version link e)
  where
    or_true : (a b : Bool) → b ≡ true → (a || b) ≡ true
    or_true true b h = refl
    or_true false b h = h

pub names_there : (told : List Told) (ts : List Task) (k number n link : ℕ) → get_elem? ts k ≡ some record { number = number; op = ops.Open n link } → opened_in number told ≡ true → (i : ℕ) × (get_elem? (opened_names told (openings ts)) i ≡ some n)
names_there told [] k number n link e seen = absurd (some-ne-none _ (sym e))
names_there told (t ∷ ts) zero number n link e seen =
    let same = some-injective t record { number = number; op = ops.Open n link } e in
    (0, ap (λ (x : Task). get_elem? (opened_names told (opening_in x.number x.op ++ openings ts)) 0) same ∙ ap (λ b. get_elem? ((if b then n ∷ [] else []) ++ opened_names told (openings ts)) 0) seen)
names_there told (t ∷ ts) (suc k) number n link e seen = behind (opening_in t.number t.op) (names_there told ts k number n link e seen)
  where
    behind : (os : List Opening) → (i : ℕ) × (get_elem? (opened_names told (openings ts)) i ≡ some n) → (i : ℕ) × (get_elem? (opened_names told (os ++ openings ts)) i ≡ some n)
    behind [] w = w
    behind (o ∷ os) w = let r = behind os w in (length (name_if told o) + r.0, append_later (name_if told o) (opened_names told (os ++ openings ts)) r.0 n r.1)

-- ## The clients

abbrev told_items : {O : Type 0} {g : Ghosts O} → Thread g → List Told
told_items x = x.ended.outcomes.items

module _ {O : Type 0} (g : Ghosts O) (state : O → OutState) (p : Plan) (q : id_plan.Plan) (all : List (List Task)) (outcomes : List (Option Outcome)) (tasks_are : AreTasks p all) where
  in_at : (ts : List Task) (k : ℕ) (t : Task) → slice_get ts k ≡ Some t → In t ts
  in_at [] k t e = none-some t e
  in_at (u ∷ us) zero t e = inl (sym (same_Some u t e))
  in_at (u ∷ us) (suc k) t e = inr (in_at us k t e)

  pub same_task : (c d : ℕ) (t u : Task) → IsTask all outcomes c t → IsTask all outcomes d u → t.number ≡ u.number → (c ≡ d) × (t ≡ u)
  same_task c d t u a b e = let h = has_from a.0 t a.2 in let k = has_from b.0 u b.2 in one_task p all tasks_are c d t u (a.0, a.1, in_at a.0 h.0 t h.1) (b.0, b.1, in_at b.0 k.0 u k.1) e

  is_task : (c : ℕ) (ts : List Task) (k : ℕ) (t : Task) → slice_get all c ≡ Some ts → get_elem? ts k ≡ some t → IsTask all outcomes c t
  is_task c ts k t there at = (ts, there, contains_from ts t (k, to_slice ts k t at))

  -- the seat of a client, with what is known of its deeds
  abbrev SeatOf : ℕ → Thread g → Seated g state p → Type 0
  SeatOf c x y = Waited g state p (IsFor all outcomes c) x.names (flat_map numbers_at x.tasks) y

  -- the seats of these clients, from client c on
  pub record Dealt (c : ℕ) (xs : List (Thread g)) (seats : List (Seat (SockHome O g) View)) : Type 0 where
    pub ys : List (Seated g state p)
    pub seats_are : map seat_of ys ≡ seats
    pub each : (i : ℕ) (y : Seated g state p) → get_elem? ys i ≡ some y → (x : Thread g) × (get_elem? xs i ≡ some x) × SeatOf (c + i) x y
    pub there : (i : ℕ) (x : Thread g) → get_elem? xs i ≡ some x → (y : Seated g state p) × (get_elem? ys i ≡ some y) × SeatOf (c + i) x y

  -- what is said of a client's operations
  abbrev SaidOf : ℕ → Thread g → Type 0
  SaidOf c x = (first : ℕ) (th : IsThread state p q first x) → SaysAll g state p q all outcomes c first x th

  fits_tasks : (c : ℕ) (x : Thread g) (first passes : ℕ) (th : IsThread state p q first x) → slice_get all c ≡ Some x.tasks → MayMakeAll p q x.tasks passes → FitsTasks g state p q all outcomes c first x th
  fits_tasks c x first passes th there may k t at = (is_task c x.tasks k t there at, call_at p q x.tasks passes k t may at)

  deal_one : (c first : ℕ) (x : Thread g) (th : IsThread state p q first x) → slice_get all c ≡ Some x.tasks → MayRun p q x.tasks → HaveLinks first x.tasks → SaidOf c x → AreLater all outcomes (all_asked x th) → (y : Seated g state p) × (y.seat ≡ x.ended.seat) × SeatOf c x y
  deal_one c first x th there may links said later =
      client_seated g state p q all outcomes c first x th links (fits_tasks c x first (opens_of x.tasks) th there may.may) (said first th) later

  deal : (names : List ℕ) (c first : ℕ) (xs : List (Thread g)) (a : AreThreads state p q names first xs) → ((i : ℕ) (x : Thread g) → get_elem? xs i ≡ some x → (slice_get all (c + i) ≡ Some x.tasks) × SaidOf (c + i) x) → AllMayRun p q (map (λ (x : Thread g). x.tasks) xs) → AllHaveLinks first (map (λ (x : Thread g). x.tasks) xs)
      → AllLater all outcomes state p q names first xs a → Dealt c xs (map (λ (x : Thread g). x.ended.seat) xs)
  deal names c first [] a known may links later = record { ys = []; seats_are = refl; each = λ i y at. absurd (some-ne-none y (sym at)); there = λ i x at. absurd (some-ne-none x (sym at)) }
  deal names c first (x ∷ xs) a known may links later =
      let zero_is : c + 0 ≡ c = omega arith in
      let here = known 0 x refl in
      let one = deal_one c first x a.0 (subst (λ k. slice_get all k ≡ Some x.tasks) zero_is here.0) may.0 links.0 (subst (λ k. SaidOf k x) zero_is here.1) later.0 in
      let next : (i : ℕ) → c + suc i ≡ (c + 1) + i = λ i. omega arith in
      let rest = deal names (c + 1) (first + opens_of x.tasks) xs a.2 (λ i y at. subst (λ k. (slice_get all k ≡ Some y.tasks) × SaidOf k y) (next i) (known (suc i) y at)) may.1 links.1 later.1 in
      dealt one.0 one.1 (subst (λ k. SeatOf k x one.0) (sym zero_is) one.2) rest
    where
      dealt : (y : Seated g state p) → y.seat ≡ x.ended.seat → SeatOf (c + 0) x y → Dealt (c + 1) xs (map (λ (z : Thread g). z.ended.seat) xs) → Dealt c (x ∷ xs) (map (λ (z : Thread g). z.ended.seat) (x ∷ xs))
      dealt y seat is rest = record {
        ys = y ∷ rest.ys;
        seats_are = (λ i. seat i ∷ rest.seats_are i);
        each = each_of;
        there = there_of;
      }
        where
          each_of : (i : ℕ) (z : Seated g state p) → get_elem? (y ∷ rest.ys) i ≡ some z → (w : Thread g) × (get_elem? (x ∷ xs) i ≡ some w) × SeatOf (c + i) w z
          each_of zero z at = (x, refl, subst (SeatOf (c + 0) x) (some-injective y z at) is)
          each_of (suc i) z at = let r = rest.each i z at in let e : (c + 1) + i ≡ c + suc i = omega arith in (r.0, r.1, subst (λ k. SeatOf k r.0 z) e r.2)

          there_of : (i : ℕ) (w : Thread g) → get_elem? (x ∷ xs) i ≡ some w → (z : Seated g state p) × (get_elem? (y ∷ rest.ys) i ≡ some z) × SeatOf (c + i) w z
          there_of zero w at = (y, refl, subst (λ (v : Thread g). SeatOf (c + 0) v y) (some-injective x w at) is)
          there_of (suc i) w at = let r = rest.there i w at in let e : (c + 1) + i ≡ c + suc i = omega arith in (r.0, r.1, subst (λ k. SeatOf k w r.0) e r.2)

-- ## What is said of their operations

is_said : (clients : List (List Task)) (outcomes : List (Option Outcome)) (number : ℕ) (op : Op) (by : Option Outcome) → ((o : Outcome) → by ≡ Some o → Became clients outcomes number o) → (by ≡ None → (n : ℕ) (bytes : List ℕ) → op ≡ ops.Send n bytes → slice_get outcomes number ≡ Some None) → (by ≡ None → Became clients outcomes number outcome.Unopened → ⊥) → IsSaid clients outcomes number op by
is_said clients outcomes number (ops.Send n bytes) None said unsaid opened = unsaid refl n bytes refl
is_said clients outcomes number (ops.Send n bytes) (Some o) said unsaid opened = said o refl
is_said clients outcomes number (ops.Call asked) by said unsaid opened = (said, opened)
is_said clients outcomes number _ by said unsaid opened = said

-- ## The run

module _ {O : Type 0} {g : Ghosts O} {state : O → OutState} {p : Plan} {slots : ℕ} {setup : List Task} {clients : List (List Task)} {opens_ : List ℕ} {told ended : List (List Told)} {places : List PlaceWord} {vrefs : List Vref} {outs : List O} {ids : List (id_view.View Asked)} {beside : List (LinkReader g)}
    (run : RanWith g state beside p slots setup clients opens_ told ended places vrefs outs ids) (outcomes : List (Option Outcome)) (tasks : AreTasks p (setup ∷ clients)) (may : MayRunAll p (ids_of p slots) setup clients) (links : AllHaveLinks 0 (setup ∷ clients))
    (long : length outcomes ≡ p.operations) (reports : Reports (setup ∷ clients) outcomes told) (main_later : AreLater (setup ∷ clients) outcomes (all_asked run.ran.main run.ran.main_is))
    (others_later : AllLater (setup ∷ clients) outcomes state p (ids_of p slots) (opened_names run.ran.main.ended.outcomes.items (openings setup)) (opens_of setup) run.ran.others run.ran.others_are) where
  abbrev all : List (List Task)
  all = setup ∷ clients

  abbrev q : id_plan.Plan
  q = ids_of p slots

  abbrev names : List ℕ
  names = opened_names run.ran.main.ended.outcomes.items (openings setup)

  abbrev threads : List (Thread g)
  threads = run.ran.main ∷ run.ran.others

  abbrev SeatHere : ℕ → Thread g → Seated g state p → Type 0
  SeatHere c x y = SeatOf g state p q all outcomes tasks c x y

  tasks_all : map (λ (x : Thread g). x.tasks) threads ≡ all
  tasks_all i = run.ran.setup_asked i ∷ run.ran.asked i

  pub tasks_there : (c : ℕ) (x : Thread g) → get_elem? threads c ≡ some x → slice_get all c ≡ Some x.tasks
  tasks_there c x at = ap (λ l. slice_get l c) (sym tasks_all) ∙ to_slice (map (λ (x : Thread g). x.tasks) threads) c x.tasks (map_there (λ (x : Thread g). x.tasks) threads c x at)

  told_there : (c : ℕ) (x : Thread g) → get_elem? threads c ≡ some x → get_elem? told c ≡ some (told_items x)
  told_there c x at = ap (λ l. get_elem? l c) (sym run.ran.told_is) ∙ map_there told_items threads c x at

  names_at : (first : ℕ) (xs : List (Thread g)) → AreThreads state p q names first xs → (i : ℕ) (x : Thread g) → get_elem? xs i ≡ some x → (k : ℕ) × IsThread state p q k x × (x.names ≡ names)
  names_at first [] a i x at = absurd (some-ne-none x (sym at))
  names_at first (y ∷ ys) a zero x at = subst (λ (z : Thread g). (k : ℕ) × IsThread state p q k z × (z.names ≡ names)) (some-injective y x at) (first, a.0, a.1)
  names_at first (y ∷ ys) a (suc i) x at = names_at (first + opens_of y.tasks) ys a.2 i x at

  is_thread : (c : ℕ) (x : Thread g) → get_elem? threads c ≡ some x → (k : ℕ) × IsThread state p q k x
  is_thread zero x at = subst (λ (z : Thread g). (k : ℕ) × IsThread state p q k z) (some-injective run.ran.main x at) (0, run.ran.main_is)
  is_thread (suc i) x at = let w = names_at (opens_of setup) run.ran.others run.ran.others_are i x at in (w.0, w.1)

  sorted : (c : ℕ) (x : Thread g) → get_elem? threads c ≡ some x → EachBefore Less x.tasks
  sorted c x at = sorted_of p all tasks c x.tasks (tasks_there c x at)

  became_of : (c : ℕ) (x : Thread g) → get_elem? threads c ≡ some x → (first : ℕ) (th : IsThread state p q first x) (k : ℕ) (r : Result) (o : Outcome) → get_elem? (all_results x th) k ≡ some r → r.by ≡ Some o → Became all outcomes r.task.number o
  became_of c x at first th k r o here by = let w = said_at x th k r o here by in reports.said c w.0 (told_items x) record { number = r.task.number; outcome = o } (told_there c x at) w.1

  -- no client told of a send of which its own client told nothing
  unsaid_of : (c : ℕ) (x : Thread g) → get_elem? threads c ≡ some x → (first : ℕ) (th : IsThread state p q first x) (k : ℕ) (r : Result) → get_elem? (all_results x th) k ≡ some r → r.by ≡ None → (d i : ℕ) (ts : List Told) (t : Told) → get_elem? told d ≡ some ts → get_elem? ts i ≡ some t → t.number ≢ r.task.number
  unsaid_of c x at first th k r here none_ d i ts t dat iat same =
      let w = map_back told_items threads d ts (ap (λ l. get_elem? l d) run.ran.told_is ∙ dat) in
      let there : get_elem? (told_items w.0) i ≡ some t = ap (λ l. get_elem? l i) w.2 ∙ iat in
      dite (ℕ_discrete d c)
      (λ e. (let one : w.0 ≡ x = some-injective w.0 x (sym w.1 ∙ (ap (get_elem? threads) e ∙ at)) in unsaid_at x th (sorted c x at) k r here none_ i t (subst (λ (z : Thread g). get_elem? (told_items z) i ≡ some t) one there) same))
      (λ ne. (
      let v = is_thread d w.0 w.1 in
      let s = said_of w.0 v.1 i t there in
      let mine = is_task g state p q all outcomes tasks c x.tasks k r.task (tasks_there c x at) (task_at x th k r here) in
      let its = is_task g state p q all outcomes tasks d w.0.tasks s.0 s.1.task (tasks_there d w.0 w.1) (task_at w.0 v.1 s.0 s.1 s.2) in
      ne (same_task g state p q all outcomes tasks d c s.1.task r.task its mine (sym s.3 ∙ same)).0))

  says : (c : ℕ) (x : Thread g) → get_elem? threads c ≡ some x → SaidOf g state p q all outcomes tasks c x
  says c x at first th k r here = is_said all outcomes r.task.number r.task.op r.by (λ o by. became_of c x at first th k r o here by)
      (λ none_ n bytes op. reports.unsaid c r.task.number n bytes (subst (λ o. IsOperation all outcomes c r.task.number o) op (is_task g state p q all outcomes tasks c x.tasks k r.task (tasks_there c x at) (task_at x th k r here))) (unsaid_of c x at first th k r here none_))
      (λ none_ became. (let w = reports.unopened r.task.number became in unsaid_of c x at first th k r here none_ w.0 w.1 w.2 w.3 w.4 w.5 w.6))

  -- ## Seats

  pub main_seated : (y : Seated g state p) × (y.seat ≡ run.ran.main.ended.seat) × SeatHere 0 run.ran.main y
  main_seated =
      let x = run.ran.main in
      let setup_links = subst (HaveLinks 0) (sym run.ran.setup_asked) links.0 in
      let setup_may = subst (MayRun p q) (sym run.ran.setup_asked) may.setup_may in
      deal_one g state p q all outcomes tasks 0 0 x run.ran.main_is (tasks_there 0 x refl) setup_may setup_links (says 0 x refl) main_later

  pub others_dealt : Dealt g state p q all outcomes tasks 1 run.ran.others (map (λ (x : Thread g). x.ended.seat) run.ran.others)
  others_dealt = deal g state p q all outcomes tasks names 1 (opens_of setup) run.ran.others run.ran.others_are (λ i x at. others_known i x at) (subst (AllMayRun p q) (sym run.ran.asked) may.clients_may)
      (let none_ : 0 + opens_of setup ≡ opens_of setup = omega arith in subst (λ k. AllHaveLinks k (map (λ (x : Thread g). x.tasks) run.ran.others)) none_ (subst (AllHaveLinks (0 + opens_of setup)) (sym run.ran.asked) links.1)) others_later
    where
      others_known : (i : ℕ) (x : Thread g) → get_elem? run.ran.others i ≡ some x → (slice_get all (1 + i) ≡ Some x.tasks) × SaidOf g state p q all outcomes tasks (1 + i) x
      others_known i x at = let e : suc i ≡ 1 + i = omega arith in subst (λ k. (slice_get all k ≡ Some x.tasks) × SaidOf g state p q all outcomes tasks k x) e (tasks_there (suc i) x at, says (suc i) x at)

  abbrev seats : List (Seated g state p)
  seats = main_seated.0 ∷ others_dealt.ys

  pub each : (c : ℕ) (y : Seated g state p) → get_elem? seats c ≡ some y → (x : Thread g) × (get_elem? threads c ≡ some x) × SeatHere c x y
  each zero y at = (run.ran.main, refl, subst (SeatHere 0 run.ran.main) (some-injective main_seated.0 y at) main_seated.2)
  each (suc i) y at = let w = others_dealt.each i y at in let e : 1 + i ≡ suc i = omega arith in (w.0, w.1, subst (λ k. SeatHere k w.0 y) e w.2)

  pub there : (c : ℕ) (x : Thread g) → get_elem? threads c ≡ some x → (y : Seated g state p) × (get_elem? seats c ≡ some y) × SeatHere c x y
  there zero x at = (main_seated.0, refl, subst (λ (z : Thread g). SeatHere 0 z main_seated.0) (some-injective run.ran.main x at) main_seated.2)
  there (suc i) x at = let w = others_dealt.there i x at in let e : 1 + i ≡ suc i = omega arith in (w.0, w.1, subst (λ k. SeatHere k x w.0) e w.2)

  pub seats_are : map seat_of seats ≡ map (λ (x : Thread g). x.ended.seat) threads
  seats_are i = main_seated.1 i ∷ others_dealt.seats_are i

  -- and the one that ended the sockets behind them
  pub ended_all : (e : Ended g state p (map seat_of seats)) × (e.seat ∷ [] ≡ run.seats)
  ended_all = ended_behind g state p opens_ (map seat_of seats) run.seats (subst (λ (l : List (Seat (SockHome O g) View)). EndedBehind p opens_ l run.seats) (sym seats_are) run.ran.ending)

  -- ## What its deeds are done for

  pub seats_many : length seats ≡ length all
  seats_many =
      let a = length-map others_dealt.ys seat_of in
      let b = length-map run.ran.others (λ (x : Thread g). x.ended.seat) in
      let c = length-map run.ran.others (λ (x : Thread g). x.tasks) in
      let d = ap length others_dealt.seats_are in
      let e = ap length run.ran.asked in
      omega arith

  -- the setup's name is one that each other client waited for
  name_there : (number n link slot version : ℕ) → IsOperation all outcomes 0 number (ops.Open n link) → Became all outcomes number (outcome.Opened slot version link) → (i : ℕ) × (get_elem? names i ≡ some n)
  name_there number n link slot version is became =
      let x = run.ran.main in
      let th = run.ran.main_is in
      let t : Task = record { number = number; op = ops.Open n link } in
      let h = has_from is.0 t is.2 in
      let setup_is : setup ≡ is.0 = same_Some setup is.0 is.1 in
      let at : get_elem? setup h.0 ≡ some t = ap (λ l. get_elem? l h.0) setup_is ∙ to_elem is.0 h.0 t h.1 in
      let r = result_of x th h.0 t (ap (λ l. get_elem? l h.0) run.ran.setup_asked ∙ at) in
      let o = open_said x th h.0 n link r.0 r.1 (ap (λ (u : Task). u.op) r.2) in
      let said = said_at x th h.0 r.0 o.0 r.1 o.1 in
      let number_ : r.0.task.number ≡ number = ap (λ (u : Task). u.number) r.2 in
      let was = became_of 0 x refl 0 th h.0 r.0 o.0 r.1 o.1 in
      let same : o.0 ≡ outcome.Opened slot version link = same_Some o.0 (outcome.Opened slot version link) (same_Some (Some o.0) (Some (outcome.Opened slot version link)) (sym was ∙ (ap (slice_get outcomes) number_ ∙ became))) in
      let told_it : get_elem? (told_items x) said.0 ≡ some record { number = number; outcome = outcome.Opened slot version link } = said.1 ∙ (λ i. some record { number = number_ i; outcome = same i }) in
      names_there (told_items x) setup h.0 number n link at (opened_there (told_items x) said.0 number slot version link told_it)

  pub wait_at : (c : ℕ) (y : Seated g state p) → get_elem? seats c ≡ some y → 0 < c → (number n link slot version : ℕ) → IsOperation all outcomes 0 number (ops.Open n link) → Became all outcomes number (outcome.Opened slot version link)
      → (i : ℕ) × (d : Deed g state p) × (get_elem? y.deeds i ≡ some d) × (d.did ≡ waits n) × ((j m : ℕ) (e : Deed g state p) → get_elem? y.deeds j ≡ some e → own_number e.did ≡ Some m → i < j)
  wait_at zero y at some_ number n link slot version is became = absurd (omega arith)
  wait_at (suc c) y at some_ number n link slot version is became =
      let w = each (suc c) y at in
      let v = names_at (opens_of setup) run.ran.others run.ran.others_are c w.0 w.1 in
      let i = name_there number n link slot version is became in
      let f = w.2.first i.0 n (ap (λ l. get_elem? l i.0) v.2 ∙ i.1) in
      (i.0, f.0, f.1, f.2, f.3)

  -- what all clients and main did at the table of sockets, where these sat beside them
  abbrev deeds_beside : (readers : List (ReaderSeat g state p (setup ∷ clients) outcomes)) → map seat_of (map sits_of readers) ≡ map (λ (x : LinkReader g). x.seat) beside → DeedRun g state p (setup ∷ clients) outcomes places vrefs outs
  deeds_beside readers sit = record {
    tasks = tasks;
    long = long;
    seats = seats;
    readers = readers;
    ending = ended_all.0;
    left = map (λ (x : LinkReader g). x.seat) beside ++ run.seats;
    left_is = (λ i. sit i ++ ended_all.1 i);
    closed = run.closed;
    for_task = λ c k y d at dk. (each c y at).2.each k d dk;
    as_many = seats_many;
    numbered = λ c y ts at is. (let w = each c y at in w.2.numbered ∙ ap (flat_map numbers_at) (same_Some w.0.tasks ts (sym (tasks_there c w.0 w.1) ∙ is)));
    alone = reports.alone;
    waited = wait_at;
  }

  -- ## Readers

  -- these are the readers of the links, of which each is opened by one of the clients, by the operation of this number
  module _ (calls : List ℕ) (are : AreReaders p q calls 0 opens_ beside) (asked : (k o : ℕ) → get_elem? opens_ k ≡ some o → OpensLink (setup ∷ clients) outcomes k o) where
    pub read_beside : ReadersSeated state p q calls (setup ∷ clients) outcomes 0 opens_ beside are
    read_beside = readers_seated state p q calls (setup ∷ clients) outcomes 0 opens_ beside are (λ k o at. let e : k ≡ 0 + k = omega arith in subst (λ l. OpensLink (setup ∷ clients) outcomes l o) e (asked k o at))

    -- what they, all clients and main did
    abbrev pub deed_run_with : DeedRun g state p (setup ∷ clients) outcomes places vrefs outs
    deed_run_with = deeds_beside read_beside.seats read_beside.sit

    -- those whose reading ended early are told
    pub early_with : early deed_run_with ≡ early_links state p q calls 0 opens_ beside are
    early_with = read_beside.early
