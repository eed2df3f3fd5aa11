-- Each retry that the clients of a run made is one of a later attempt of a call that one of them asked for.
use Rattle.std.proofs.Common.{◌≡◌, ℕ, suc, ◌+◌, ◌≤◌, List, [], ◌∷◌, map, Option, refl, sym, ap, ◌∙◌, subst, arith}
use Rattle.std.specs.List.{AllByRecursion}
use mathlib.Core.Option.{some}
use lib.ListN.{get_elem?}
use Rattle.sock_io.specs.declared.link.Out.{Ghosts}
use Rattle.sock_io.specs.LinkHalves.{OutState}
use Rattle.sock_words.specs.declared.outcome.Outcome.{Outcome}
use Rattle.sock_words.specs.declared.plain.Plan.{Plan}
use Rattle.sock_words.specs.declared.place_word.PlaceWord.{PlaceWord}
use Rattle.sock_words.specs.declared.vref.Vref.{Vref}
use Rattle.corr_core.specs.declared.marks.Note.{Note}
use Rattle.corr_core.specs.declared.marks.Plan as id_plan
use Rattle.corr_core.specs.declared.marks.View.{View}
use Rattle.corr_core.proofs.NoteSums.{total_some}
use Rattle.corr_id.specs.ClosingIdLists.{Closing}
use Rattle.id_rule.specs.LawfulIdTable.{notes_of}
use Rattle.sock_message.specs.Asked.{Asked}
use Rattle.seat_programs.specs.declared.task.Op.TheVariants as ops
use Rattle.seat_programs.specs.declared.task.Task.{Task}
use Rattle.callless_fits.specs.sock_deeds.specs.script_facts.proofs.FilteredLists.{contains_from, all_at as all_there}
use Rattle.rpc_client.specs.declared.acting.Told.{Told}
use Rattle.call_run.specs.ReadersOfLinks.{LinkReader}
use Rattle.call_run.specs.Threads.{opens_of, opened_names, openings, ids_of, Thread, IsThread, AreThreads, RanWith}
use Rattle.calls_done.specs.call_whys.specs.call_told.proofs.ListElementsByPlace.{all_at}
use Rattle.calls_done.specs.call_whys.specs.call_told.proofs.IdsMadeBySeats.{AllMade, made_fits}
use Rattle.calls_done.specs.call_whys.specs.call_places.specs.ClientNotesCounted.{HaveNotesOf}
use Rattle.calls_done.specs.call_whys.specs.call_places.proofs.ClientPlaces.{Client}
use Rattle.calls_done.specs.call_whys.specs.call_places.proofs.CallPlaceOrders.{all as all_clients, all_are}
use Rattle.calls_done.specs.call_whys.specs.call_places.proofs.NoteWeights.{term}
use Rattle.calls_done.specs.call_whys.specs.call_deeds.specs.RetriedCalls.{Again, all_asked}
use Rattle.calls_done.specs.call_whys.specs.call_deeds.specs.ScriptsWithCalls.{AllLater}
use Rattle.calls_done.specs.call_whys.specs.call_deeds.proofs.Ran.{AreLater}
use Rattle.callless_fits.specs.sock_deeds.specs.SocketTableRun.{IsOperation}
use Rattle.script_parts.proofs.AskedByScriptClients.{AskFor, all_by_place}
use Rattle.script_parts.proofs.MayCall.{IsOwnTask}
use Rattle.script_parts.proofs.KnownRetries.{IsKnown, locks_with, lock_is, asked_known, asked_later}
use Rattle.callless_fits.specs.sock_deeds.proofs.ListPlaces.{map_back, to_slice, map_there}
use Rattle.sock_words.specs.Totals.{total}

-- one of the clients asked for this call
abbrev pub IsCallOf : List (List Task) → List (Option Outcome) → ℕ → Asked → Type 0
IsCallOf clients outcomes range asked = (c : ℕ) × IsOperation clients outcomes c asked.operation (ops.Call asked)

pub all_ask_for : (clients : List (List Task)) (outcomes : List (Option Outcome)) → AllByRecursion (AllByRecursion IsOwnTask) clients → AllByRecursion (AskFor (IsCallOf clients outcomes)) clients
all_ask_for clients outcomes owns = all_by_place (AskFor (IsCallOf clients outcomes)) clients (λ c ts at asked a. (
    let t : Task = record { number = a.number; op = ops.Call asked } in
    let there = to_slice ts a.place t a.there in
    let own : asked.operation ≡ a.number = all_there IsOwnTask ts t (all_there (AllByRecursion IsOwnTask) clients ts owns (c, at)) (a.place, there) in
    (c, subst (λ n. IsOperation clients outcomes c n (ops.Call asked)) (sym own) (ts, at, contains_from ts t (a.place, there)))))

-- a seat has the notes of all clients, and each id that was made is that of a call that one of them asked for
module _ {O : Type 0} {g : Ghosts O} {state : O → OutState} {readers : List (LinkReader g)} {p : Plan} {slots : ℕ} {setup : List Task} {clients : List (List Task)} {opens : List ℕ} {told ended : List (List Told)} {places : List PlaceWord} {vrefs : List Vref} {outs : List O} {ids : List (View Asked)}
    (ran : RanWith g state readers p slots setup clients opens told ended places vrefs outs ids) (v : View Asked) (words : List ℕ) (closing : Closing (ids_of p slots) v.notes v.kept words) (have : HaveNotesOf ids v.notes)
    (outcomes : List (Option Outcome)) (made : AllMade (IsCallOf (setup ∷ clients) outcomes) v.notes) where
  abbrev q : id_plan.Plan
  q = ids_of p slots

  abbrev all : List (List Task)
  all = setup ∷ clients

  abbrev threads : List (Thread g)
  threads = ran.ran.main ∷ ran.ran.others

  abbrev ids_seen : Thread g → View Asked
  ids_seen x = x.ended.calls.seat.me.0

  -- what a client noted is among all notes of ids
  abbrev IsAmong : Thread g → Type 0
  IsAmong x = (i : ℕ) (f : Note Asked → ℕ) → total f (notes_of i (ids_seen x).notes) ≤ total f (notes_of i v.notes)

  among : (c : ℕ) (x : Thread g) → get_elem? threads c ≡ some x → IsAmong x
  among c x at i f =
      let h = (subst (λ (vs : List (View Asked)). HaveNotesOf vs v.notes) (sym ran.ran.ids_are) have).all i f in
      let t = term (λ (u : View Asked). total f (notes_of i u.notes)) (map ids_seen threads) c (ids_seen x) (map_there ids_seen threads c x at) in omega arith

  is_call : (x : Thread g) → IsAmong x → (a : Again) → IsKnown slots (ids_seen x) a → (c : ℕ) × IsOperation all outcomes c a.asked.operation (ops.Call a.asked)
  is_call x within a k =
      let w = total_some (locks_with a.asked k.first) (notes_of k.slot v.notes) (let m = within k.slot (locks_with a.asked k.first) in let l = k.locked in omega arith) in
      let m = closing.locked_made k.slot k.first w.0 a.asked k.inside (w.2 ∙ ap some (lock_is a.asked k.first w.1 w.3)) in
      made_fits (IsCallOf all outcomes) k.slot v.notes made m.1 k.first m.0 a.asked m.2

  client_later : (first : ℕ) (x : Thread g) (th : IsThread state p q first x) → IsAmong x → AreLater all outcomes (all_asked x th)
  client_later first x th within i a at = let c = is_call x within a (all_at (IsKnown slots (ids_seen x)) (all_asked x th) i a (asked_known x th) at) in record { client = c.0; is = c.1; later = asked_later x th i a at }

  pub setup_later : AreLater all outcomes (all_asked ran.ran.main ran.ran.main_is)
  setup_later = client_later 0 ran.ran.main ran.ran.main_is (among 0 ran.ran.main refl)

  each_later : (names : List ℕ) (first : ℕ) (xs : List (Thread g)) (a : AreThreads state p q names first xs) → ((c : ℕ) (x : Thread g) → get_elem? xs c ≡ some x → IsAmong x) → AllLater all outcomes state p q names first xs a
  each_later names first [] a within = tt
  each_later names first (x ∷ xs) a within = (client_later first x a.0 (within 0 x refl), each_later names (first + opens_of x.tasks) xs a.2 (λ c y at. within (suc c) y at))

  pub others_later : AllLater all outcomes state p q (opened_names ran.ran.main.ended.outcomes.items (openings setup)) (opens_of setup) ran.ran.others ran.ran.others_are
  others_later = each_later (opened_names ran.ran.main.ended.outcomes.items (openings setup)) (opens_of setup) ran.ran.others ran.ran.others_are (λ c x at. among (suc c) x at)

  -- so is each of theirs, by the place of the client among all
  pub crew_later : (j : ℕ) (c : Client g state p q) → get_elem? (all_clients ran) j ≡ some c → AreLater all outcomes (all_asked c.thread c.is)
  crew_later j c at =
      let w = map_back (λ (x : Thread g). x) threads j c.thread (ap (λ (l : List (Thread g)). get_elem? l j) (sym (all_are ran (λ (x : Thread g). x))) ∙ map_there (λ (x : Client g state p q). x.thread) (all_clients ran) j c at) in
      client_later c.first c.thread c.is (subst IsAmong w.2 (among j w.0 w.1))
