-- What the clients of a script ask for: each id that they make is that of a call of the script, with as many versions as it is tried, and one more.
use Rattle.std.proofs.Common.{◌≡◌, ℕ, zero, suc, ◌+◌, List, [], ◌∷◌, ◌++◌, map, Option, Some, refl, sym, ap, ◌∙◌, subst}
use Rattle.std.specs.Prelude.{slice_get}
use Rattle.std.specs.List.{AllByRecursion, flat_map}
use Rattle.atomic_table.specs.Table.{Me}
use Rattle.atomic_table.specs.declared.shared.Seat.{Seat}
use Rattle.sock_io.specs.declared.link.Out.{Ghosts}
use Rattle.sock_io.specs.LinkHalves.{OutState}
use Rattle.sock_words.specs.declared.plain.Plan.{Plan}
use Rattle.sock_model.specs.declared.view.View.{View}
use Rattle.call_run.specs.sock_rule.specs.declared.homes.SockHome.{SockHome}
use Rattle.seat_programs.specs.declared.task.Op.TheVariants as ops
use Rattle.seat_programs.specs.declared.task.Task.{Task}
use Rattle.seat_programs.specs.ScriptSetupToEnding.{all_tasks}
use Rattle.seat_programs.specs.Tasks.{numbered, tasks}
use Rattle.brpc_model.specs.Items.{Item}
use Rattle.brpc_model.specs.Operations.{Operation, operations}
use Rattle.brpc_model.specs.LinePlaceFaults.{names}
use Rattle.corr_core.specs.declared.marks.Noted.{Noted}
use Rattle.corr_core.specs.declared.marks.Plan as id_plan
use Rattle.corr_core.specs.declared.marks.View as id_view
use Rattle.sock_message.specs.Asked.{Asked}
use Rattle.rpc_client.specs.declared.acting.Told.{Told}
use Rattle.callless_fits.specs.sock_deeds.specs.script_facts.proofs.FilteredLists.{some_is}
use Rattle.callless_fits.specs.sock_deeds.specs.script_facts.proofs.TaskLemmas.{of_tasks, numbers_at, has_task, call_asks}
use Rattle.call_run.specs.call_client.proofs.ClientCallChanges.{AsksFor}
use Rattle.call_run.specs.Threads.{opens_of, openings, opened_names, Thread, IsThread, AreThreads, AllRan}
use Rattle.calls_done.specs.call_whys.specs.call_told.proofs.ListElementsByPlace.{all_both}
use Rattle.calls_done.specs.call_whys.specs.call_told.proofs.IdsMadeBySeats.{FitsMade, AllMade, SeatMade, run_made, all_made}
use Rattle.calls_done.specs.call_whys.specs.call_told.proofs.ToldAnswers.{IsAskedIn}
use Rattle.callless_fits.specs.sock_deeds.proofs.ListPlaces.{to_slice}

-- ## The calls of a script

-- a call of one of its clients is the operation of its number
script_asks : (script : List Item) (c : ℕ) (asked : Asked) → AsksFor (tasks script c) asked → IsAskedIn (operations script) asked.range asked
script_asks script c asked a op at =
    let t : Task = record { number = a.number; op = ops.Call asked } in
    let w = has_task script c t (a.place, to_slice (tasks script c) a.place t a.there) in
    let k = call_asks (numbered script) (names script) (numbers_at script a.number w.operation) w.operation.item asked w.asks in
    let number : asked.operation ≡ a.number = ap (λ (y : Asked). y.operation) k.2 in
    let same : w.operation ≡ op = some_is w.operation op (sym w.there ∙ (ap (slice_get (operations script)) (sym number) ∙ at)) in
    (k.0, sym (ap (λ (o : Operation). o.item) same) ∙ k.1, ap (λ (y : Asked). y.range) k.2)

-- this is known of each call among these
abbrev pub AskFor : (ℕ → Asked → Type 0) → List Task → Type 0
AskFor P ts = (asked : Asked) → AsksFor ts asked → P asked.range asked

pub all_by_place : {A : Type 0} (P : A → Type 0) (xs : List A) → ((k : ℕ) (x : A) → slice_get xs k ≡ Some x → P x) → AllByRecursion P xs
all_by_place P [] h = tt
all_by_place P (x ∷ xs) h = (h zero x refl, all_by_place P xs (λ k y e. h (suc k) y e))

-- each call of the script's clients is one of its operations
pub all_ask : (script : List Item) → AllByRecursion (AskFor (IsAskedIn (operations script))) (all_tasks script)
all_ask script = all_by_place (AskFor (IsAskedIn (operations script))) (all_tasks script) (λ c ts at. subst (AskFor (IsAskedIn (operations script))) (of_tasks script c ts at).1 (script_asks script c))

-- ## The ids of a run

module _ (Fits : ℕ → Asked → Type 0) where
  all_notes : (vs : List (id_view.View Asked)) → AllByRecursion (λ (v : id_view.View Asked). AllMade Fits v.notes) vs → AllMade Fits (flat_map (λ (v : id_view.View Asked). v.notes) vs)
  all_notes [] h = tt
  all_notes (v ∷ vs) h = all_both (λ (n : Noted Asked). FitsMade Fits n.note) v.notes (flat_map (λ (x : id_view.View Asked). x.notes) vs) h.0 (all_notes vs h.1)

  module _ {O : Type 0} {g : Ghosts O} (state : O → OutState) (p : Plan) (q : id_plan.Plan) where
    abbrev seat_of : Thread g → id_view.View Asked
    seat_of x = x.ended.calls.seat.me.0

    thread_made : (first : ℕ) (x : Thread g) → IsThread state p q first x → AskFor Fits x.tasks → AllMade Fits (seat_of x).notes
    thread_made first x t asks = all_made Fits (seat_of x).notes (run_made Fits x.began x.ended asks t.ran (subst (λ (m : Me (Option Asked) (id_view.View Asked)). SeatMade Fits m.0) (sym t.ids) tt))

    threads_made : (names : List ℕ) (first : ℕ) (xs : List (Thread g)) → AreThreads state p q names first xs → AllByRecursion (AskFor Fits) (map (λ (x : Thread g). x.tasks) xs) → AllByRecursion (λ (v : id_view.View Asked). AllMade Fits v.notes) (map seat_of xs)
    threads_made names first [] h a = tt
    threads_made names first (x ∷ xs) h a = (thread_made first x h.0 a.0, threads_made names (first + opens_of x.tasks) xs h.2 a.1)

    -- all that the clients noted, one behind the other
    pub ids_made : (setup : List Task) (clients : List (List Task)) (opens : List ℕ) (told ended : List (List Told)) (seats : List (Seat (SockHome O g) View)) (ids : List (id_view.View Asked)) → AllRan g state p q setup clients opens told ended seats ids → AllByRecursion (AskFor Fits) (setup ∷ clients)
        → AllMade Fits (flat_map (λ (v : id_view.View Asked). v.notes) ids)
    ids_made setup clients opens told ended seats ids r asks =
        let own = subst (AskFor Fits) (sym r.setup_asked) asks.0 in
        let others = subst (AllByRecursion (AskFor Fits)) (sym r.asked) asks.1 in
        all_notes ids (subst (AllByRecursion (λ (v : id_view.View Asked). AllMade Fits v.notes)) r.ids_are
        (thread_made 0 r.main r.main_is own, threads_made (opened_names r.main.ended.outcomes.items (openings setup)) (opens_of setup) r.others r.others_are others))

-- the same over seats
pub notes_of_seats : {S : Type 0} (view : S → id_view.View Asked) (ss : List S) → flat_map (λ (v : id_view.View Asked). v.notes) (map view ss) ≡ flat_map (λ (s : S). (view s).notes) ss
notes_of_seats view [] = refl
notes_of_seats view (s ∷ ss) = ap (λ (l : List (Noted Asked)). (view s).notes ++ l) (notes_of_seats view ss)
