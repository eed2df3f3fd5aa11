-- What the clients of a run know and told of calls: each tells the ends of calls that it had locked, one id at most is stored for an operation, and of each operation something has come.
use Rattle.std.proofs.Common.{◌≡◌, ◌≢◌, ℕ, zero, suc, ◌+◌, ◌≤◌, ◌<◌, List, [], ◌∷◌, map, refl, sym, ap, ◌∙◌, subst, arith}
use Rattle.std.specs.List.{AllByRecursion}
use mathlib.Core.Logic.{dite}
use mathlib.Core.Option.{some, some-injective, some-ne-none}
use native.Mathlib.Decide.{ℕ_discrete}
use lib.ListN.{get_elem?}
use Rattle.atomic_table.specs.Table.{Me}
use Rattle.atomic_table.specs.declared.shared.Seat.{Seat}
use Rattle.std.specs.Prelude.{Option}
use Rattle.brpc_model.specs.Order.{EachBefore}
use Rattle.sock_io.specs.declared.link.Out.{Ghosts}
use Rattle.sock_io.specs.LinkHalves.{OutState}
use Rattle.sock_words.specs.declared.plain.Plan.{Plan}
use Rattle.sock_model.specs.declared.view.View.{View}
use Rattle.call_run.specs.sock_rule.specs.declared.homes.SockHome.{SockHome}
use Rattle.seat_programs.specs.declared.task.Task.{Task}
use Rattle.seat_programs.specs.Explained.{Differ, HaveOwnLinks}
use Rattle.corr_core.specs.IdSlotLaw.{only}
use Rattle.corr_core.specs.declared.marks.Plan as id_plan
use Rattle.corr_core.specs.declared.marks.View as id_view
use Rattle.corr_core.proofs.NoteSums.{only-else, only_le, total_some}
use Rattle.id_rule.specs.LawfulIdTable.{call_index}
use Rattle.sock_message.specs.Asked.{Asked}
use Rattle.callless_fits.specs.sock_deeds.specs.script_facts.proofs.FilteredLists.{all_map, all_at as all_there}
use Rattle.rpc_client.specs.declared.acting.Told.{Told}
use Rattle.calls_done.specs.Below.CallErrors.ClientBooks.{Books}
use Rattle.call_run.specs.Threads.{opens_of, openings, opened_names, Thread, IsThread, AreThreads, AllRan}
use Rattle.calls_done.specs.call_whys.specs.call_told.proofs.Coming.{HasCome, run_come}
use Rattle.calls_done.specs.call_whys.specs.call_told.proofs.ToldCallEnds.{IsEndOf, AreEnds, IsEndIn, AreEndsIn}
use Rattle.calls_done.specs.call_whys.specs.call_told.proofs.GrowingCallNotes.{own_at}
use Rattle.calls_done.specs.call_whys.specs.call_told.proofs.Least.{TellEnds}
use Rattle.calls_done.specs.call_whys.specs.call_told.proofs.ClientTellingMoves.{Fits, is_task, run_moves}
use Rattle.callless_fits.specs.sock_deeds.proofs.ListPlaces.{to_slice}
use Rattle.sock_words.specs.Totals.{total}

-- ## Operations by their numbers

none_is : (o : ℕ) (ts : List Task) → AllByRecursion (λ (t : Task). t.number ≢ o) ts → total (is_task o) ts ≡ 0
none_is o [] h = refl
none_is o (t ∷ ts) h = let a = only-else o t.number h.0 in let b = none_is o ts h.1 in omega arith

-- a client has an operation once
one_is : (o : ℕ) (ts : List Task) → EachBefore (λ (a b : Task). (a.number < b.number) × HaveOwnLinks a.op b.op) ts → total (is_task o) ts ≤ 1
one_is o [] h = omega arith
one_is o (t ∷ ts) h = dite (ℕ_discrete t.number o)
    (λ e. let a = none_is o ts (all_map (λ (b : Task). (t.number < b.number) × HaveOwnLinks t.op b.op) (λ (b : Task). b.number ≢ o) (λ b less same. let l = less.0 in omega arith) ts h.0) in let b = only_le o t.number in omega arith)
    (λ n. let a = only-else o t.number n in let b = one_is o ts h.1 in omega arith)

-- and so have all together
each_none : (o : ℕ) (t : Task) → t.number ≡ o → (tss : List (List Task)) → AllByRecursion (λ (us : List Task). AllByRecursion (Differ t) us) tss → total (λ (ts : List Task). total (is_task o) ts) tss ≡ 0
each_none o t e [] h = refl
each_none o t e (us ∷ tss) h =
    let a = none_is o us (all_map (Differ t) (λ (b : Task). b.number ≢ o) (λ b d same. d.0 (e ∙ sym same)) us h.0) in let b = each_none o t e tss h.1 in omega arith

pub only_is : (a b : ℕ) → 0 < only a b → b ≡ a
only_is a b h = dite (ℕ_discrete b a) (λ e. e) (λ n. absurd (let z = only-else a b n in omega arith))

pub each_one : (o : ℕ) (tss : List (List Task)) → AllByRecursion (EachBefore (λ (a b : Task). (a.number < b.number) × HaveOwnLinks a.op b.op)) tss → EachBefore (λ (ts us : List Task). AllByRecursion (λ (t : Task). AllByRecursion (Differ t) us) ts) tss
    → total (λ (ts : List Task). total (is_task o) ts) tss ≤ 1
each_one o [] order differ = omega arith
each_one o (ts ∷ tss) order differ = dite (ℕ_discrete (total (is_task o) ts) 0)
    (λ z. let b = each_one o tss order.1 differ.1 in omega arith)
    (λ n. let w = total_some (is_task o) ts (omega arith) in let a = one_is o ts order.0 in
    let b = each_none o w.1 (only_is o w.1.number w.3) tss (all_map (λ (us : List Task). AllByRecursion (λ (t : Task). AllByRecursion (Differ t) us) ts) (λ (us : List Task). AllByRecursion (Differ w.1) us)
    (λ us h. all_there (λ (t : Task). AllByRecursion (Differ t) us) ts w.1 h (w.0, to_slice ts w.0 w.1 w.2)) tss differ.0) in omega arith)

-- ## Clients

module _ {O : Type 0} (g : Ghosts O) (state : O → OutState) (p : Plan) (q : id_plan.Plan) where
  abbrev ids_of_thread : Thread g → id_view.View Asked
  ids_of_thread x = x.ended.calls.seat.me.0

  pub thread_ends_in : (first : ℕ) (x : Thread g) → AllByRecursion Fits x.tasks → IsThread state p q first x → AreEndsIn q.slots (ids_of_thread x) x.ended.calls.told.items
  thread_ends_in first x fits t = (run_moves q 0 state p x.tasks x.began x.ended fits t.ran).ends (subst (AreEndsIn q.slots x.began.calls.seat.me.0) (sym (ap (λ (b : Books). b.told) t.nothing.books)) tt)

  thread_ends : (first : ℕ) (x : Thread g) → AllByRecursion Fits x.tasks → IsThread state p q first x → AreEnds (ids_of_thread x) x.ended.calls.told.items
  thread_ends first x fits t = all_map (IsEndIn q.slots (ids_of_thread x)) (IsEndOf (ids_of_thread x)) (λ y e. e.is) x.ended.calls.told.items (thread_ends_in first x fits t)

  thread_few : (o first : ℕ) (x : Thread g) → AllByRecursion Fits x.tasks → IsThread state p q first x → total (own_at (call_index q o)) (ids_of_thread x).kept ≤ total (is_task o) x.tasks
  thread_few o first x fits t =
      let a = (run_moves q o state p x.tasks x.began x.ended fits t.ran).grows.own in
      let b = ap (λ (m : Me (Option Asked) (id_view.View Asked)). total (own_at (call_index q o)) m.0.kept) t.ids in omega arith

  -- those of all
  module _ (P : Thread g → Type 0) (f : (first : ℕ) (x : Thread g) → AllByRecursion Fits x.tasks → IsThread state p q first x → P x) where
    all_threads : (names : List ℕ) (first : ℕ) (xs : List (Thread g)) → AllByRecursion (λ (x : Thread g). AllByRecursion Fits x.tasks) xs → AreThreads state p q names first xs → AllByRecursion P xs
    all_threads names first [] fits h = tt
    all_threads names first (x ∷ xs) fits h = (f first x fits.0 h.0, all_threads names (first + opens_of x.tasks) xs fits.1 h.2)

  tell_of : (xs : List (Thread g)) → AllByRecursion (λ (x : Thread g). AreEnds (ids_of_thread x) x.ended.calls.told.items) xs → TellEnds (map (λ (x : Thread g). x.ended.calls.told.items) xs) (map ids_of_thread xs)
  tell_of [] h = tt
  tell_of (x ∷ xs) h = (h.0, tell_of xs h.1)

  few_of : (o : ℕ) (xs : List (Thread g)) → AllByRecursion (λ (x : Thread g). total (own_at (call_index q o)) (ids_of_thread x).kept ≤ total (is_task o) x.tasks) xs
      → total (λ (v : id_view.View Asked). total (own_at (call_index q o)) v.kept) (map ids_of_thread xs) ≤ total (λ (ts : List Task). total (is_task o) ts) (map (λ (x : Thread g). x.tasks) xs)
  few_of o [] h = omega arith
  few_of o (x ∷ xs) h = let a = h.0 in let b = few_of o xs h.1 in omega arith

  fits_of : (xs : List (Thread g)) → AllByRecursion (AllByRecursion Fits) (map (λ (x : Thread g). x.tasks) xs) → AllByRecursion (λ (x : Thread g). AllByRecursion Fits x.tasks) xs
  fits_of [] h = tt
  fits_of (x ∷ xs) h = (h.0, fits_of xs h.1)

  -- one of them, with what it was asked for
  pub record IsOneOf (ids : List (id_view.View Asked)) (told : List (List Told)) (c : ℕ) (ts : List Task) : Type 0 where
    pub thread : Thread g
    pub first : ℕ
    pub tasks : thread.tasks ≡ ts
    pub is : IsThread state p q first thread
    pub fits : AllByRecursion Fits thread.tasks
    pub id_at : get_elem? ids c ≡ some (ids_of_thread thread)
    pub told_at : get_elem? told c ≡ some thread.ended.outcomes.items

  module _ (setup : List Task) (clients : List (List Task)) (opens : List ℕ) (told ended : List (List Told)) (seats : List (Seat (SockHome O g) View)) (ids : List (id_view.View Asked)) (r : AllRan g state p q setup clients opens told ended seats ids)
      (fits : AllByRecursion (AllByRecursion Fits) (setup ∷ clients)) where
    abbrev threads : List (Thread g)
    threads = r.main ∷ r.others

    tasks_are : map (λ (x : Thread g). x.tasks) threads ≡ setup ∷ clients
    tasks_are i = r.setup_asked i ∷ r.asked i

    all_fit : AllByRecursion (λ (x : Thread g). AllByRecursion Fits x.tasks) threads
    all_fit = fits_of threads (subst (AllByRecursion (AllByRecursion Fits)) (sym tasks_are) fits)

    each : (P : Thread g → Type 0) → ((first : ℕ) (x : Thread g) → AllByRecursion Fits x.tasks → IsThread state p q first x → P x) → AllByRecursion P threads
    each P f = (f 0 r.main all_fit.0 r.main_is, all_threads P f (opened_names r.main.ended.outcomes.items (openings setup)) (opens_of setup) r.others all_fit.1 r.others_are)

    pub tell : TellEnds ended ids
    tell = subst (TellEnds ended) r.ids_are (subst (λ (l : List (List Told)). TellEnds l (map ids_of_thread threads)) r.ended_is (tell_of threads (each (λ (x : Thread g). AreEnds (ids_of_thread x) x.ended.calls.told.items) thread_ends)))

    pub few : (o : ℕ) → total (λ (v : id_view.View Asked). total (own_at (call_index q o)) v.kept) ids ≤ total (λ (ts : List Task). total (is_task o) ts) (setup ∷ clients)
    few o =
        let a = few_of o threads (each (λ (x : Thread g). total (own_at (call_index q o)) (ids_of_thread x).kept ≤ total (is_task o) x.tasks) (thread_few o)) in
        let b = ap (total (λ (v : id_view.View Asked). total (own_at (call_index q o)) v.kept)) r.ids_are in
        let c = ap (total (λ (ts : List Task). total (is_task o) ts)) tasks_are in omega arith

    abbrev IsOne : Thread g → Type 0
    IsOne x = (first : ℕ) × AllByRecursion Fits x.tasks × IsThread state p q first x

    found_one : (xs : List (Thread g)) → AllByRecursion IsOne xs → (c : ℕ) (ts : List Task) → get_elem? (map (λ (x : Thread g). x.tasks) xs) c ≡ some ts
        → IsOneOf (map ids_of_thread xs) (map (λ (x : Thread g). x.ended.outcomes.items) xs) c ts
    found_one [] h c ts at = absurd (some-ne-none ts (sym at))
    found_one (x ∷ xs) h zero ts at = record { thread = x; first = h.0.0; tasks = some-injective x.tasks ts at; is = h.0.2; fits = h.0.1; id_at = refl; told_at = refl }
    found_one (x ∷ xs) h (suc c) ts at = let w = found_one xs h.1 c ts at in record { thread = w.thread; first = w.first; tasks = w.tasks; is = w.is; fits = w.fits; id_at = w.id_at; told_at = w.told_at }

    -- whoever was asked for these
    pub one_of : (c : ℕ) (ts : List Task) → get_elem? (setup ∷ clients) c ≡ some ts → IsOneOf ids told c ts
    one_of c ts at =
        subst (λ (l : List (List Told)). IsOneOf ids l c ts) r.told_is (subst (λ (l : List (id_view.View Asked)). IsOneOf l (map (λ (x : Thread g). x.ended.outcomes.items) threads) c ts) r.ids_are
        (found_one threads (each IsOne (λ first x f t. (first, f, t))) c ts (ap (λ (l : List (List Task)). get_elem? l c) tasks_are ∙ at)))

  -- what has come of one of its operations
  pub one_come : (ids : List (id_view.View Asked)) (told : List (List Told)) (c : ℕ) (ts : List Task) (x : IsOneOf ids told c ts) (j : ℕ) (t : Task) → get_elem? ts j ≡ some t → HasCome q t x.thread.ended.outcomes.items (ids_of_thread x.thread)
  one_come ids told c ts x j t at = run_come q state p x.thread.tasks x.thread.began x.thread.ended x.fits x.is.ran j t (ap (λ (l : List Task). get_elem? l j) x.tasks ∙ at)
