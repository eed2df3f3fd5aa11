-- The place words of a run whose links were read beside its clients tell an order of each link, and each operation has an outcome or a place.
use Rattle.std.proofs.Common.{◌≡◌, ℕ, ◌≤◌, Ok, List, [], ◌∷◌, ◌++◌, map, length, Some, refl, sym, subst, arith}
use Rattle.std.specs.Prelude.{slice_get}
use Rattle.std.specs.List.{AllByRecursion, flat_map}
use mathlib.Core.Option.{some}
use lib.ListN.{get_elem?}
use Rattle.sock_io.specs.declared.link.Out.{Ghosts}
use Rattle.sock_io.specs.LinkHalves.{OutState}
use Rattle.sock_words.specs.declared.plain.Plan.{Plan}
use Rattle.sock_words.specs.declared.place_word.PlaceWord.{PlaceWord}
use Rattle.brpc_model.specs.Items.{Item}
use Rattle.brpc_model.specs.PlaceWords.{ArePlaces, HasEachOutcome}
use Rattle.brpc_model.specs.Script.{script_of}
use Rattle.corr_core.specs.declared.marks.Plan as id_plan
use Rattle.corr_core.specs.declared.marks.View.{View}
use Rattle.sock_message.specs.Asked.{Asked}
use Rattle.seat_programs.specs.Tasks.{plan_of, opens, calls}
use Rattle.seat_programs.specs.Explained.{AreTasks}
use Rattle.rpc_client.specs.declared.acting.Told.{Told}
use Rattle.rpc_reader.specs.ReaderBooks.{Books}
use Rattle.prpc_frame.specs.declared.frame.Frame.{Frame}
use Rattle.script_parts.specs.script_facts.proofs.ScriptSizes.{keeps_limits}
use Rattle.call_run.specs.Threads.{MayRunAll}
use Rattle.script_parts.specs.call_whys.specs.call_places.specs.ClientNotesCounted.{HaveNotesOf}
use Rattle.script_parts.specs.call_whys.specs.call_places.proofs.IdsOfRetries.{IdLaws, laws_of}
use Rattle.script_parts.specs.call_whys.specs.call_places.proofs.CallPlaceOrders.{are_places}
use Rattle.script_parts.specs.call_whys.specs.call_told.proofs.ToldBesideClients.{have_beside, least_beside}
use Rattle.script_parts.specs.call_whys.specs.call_told.specs.Least.{HasBegun, IsEndTold}
use Rattle.script_parts.specs.SeatsOfIdTable.{IdSeat}
use Rattle.script_parts.specs.ThreadScriptTold.{outcomes_of}
use Rattle.script_parts.proofs.Began.{tell}
use Rattle.script_parts.proofs.ScriptClientsTold.{balanced}
use Rattle.script_parts.proofs.EachOperationHasOutcome.{own_one, tasks_fit, IsTold, each_outcome}
use Rattle.script_parts.proofs.MayCall.{IsOwnTask, all_own, script_seats, seated_are, seated_may}
use Rattle.script_parts.proofs.SortNumberBounds.{few_operations}
use Rattle.script_parts.proofs.PlacedSends.{send_told}
use Rattle.script_parts.proofs.ReportShowsCallsOnce.{view_of}
use Rattle.script_threads.specs.ServedScriptTold.{seated_plan, seated_ids, begins_with, HasEnded, IsLeftByThreads}
use Rattle.script_threads.proofs.LeftByScriptThreads.{early_of, notes_of, kept_of}

module _ {O : Type 0} (g : Ghosts O) (out : O → OutState) (bytes : List ℕ) (script : List Item) (reads : script_of bytes ≡ Ok script) (told ended read : List (List Told)) (kept : List (List Frame)) (places : List PlaceWord) (seats behind : List IdSeat)
    (left : IsLeftByThreads g out script told ended read kept places seats behind) (last : List Told) (rest : HasEnded (seated_ids script) (calls script) (seats ++ behind) (flat_map (λ (fs : List Frame). fs) kept) last) where
  abbrev p : Plan
  p = seated_plan script

  abbrev q : id_plan.Plan
  q = seated_ids script

  abbrev ids : List (View Asked)
  ids = map view_of seats

  -- the seat that took in all
  abbrev main : Books
  main = begins_with (flat_map (λ (fs : List Frame). fs) kept) rest.main

  pub are : AreTasks p (left.setup ∷ left.clients)
  are = seated_are bytes script reads p.seats (left.setup ∷ left.clients) left.tasks

  pub may : MayRunAll p q left.setup left.clients
  may = seated_may bytes script reads p.seats (length (calls script)) left.setup left.clients left.tasks (let n = script_seats script left.setup left.clients left.tasks in omega arith)

  pub have : HaveNotesOf ids rest.last.view.notes
  have = have_beside p q (calls script) (opens script) left.readers left.readers_are seats main rest.last (notes_of left rest) rest.rest

  pub laws : IdLaws (length (calls script)) rest.last.view.notes
  laws = laws_of q rest.last.view.notes rest.last.view.kept rest.words rest.closing

  pub few : p.links ≤ 65536
  few = omega (arith, (keeps_limits bytes script reads).links)

  pub low : p.operations ≤ 65536
  low = omega (arith, few_operations bytes script reads (plan_of script) refl)

  pub left_places : ArePlaces places
  left_places = are_places left.ran are may rest.last.view.notes laws have few low

  -- ## What is told

  owns : AllByRecursion (AllByRecursion IsOwnTask) (left.setup ∷ left.clients)
  owns = subst (AllByRecursion (AllByRecursion IsOwnTask)) (sym left.tasks) (all_own script)

  -- a call that a client began, whoever ended it
  pub least : (k : ℕ) (v : View Asked) (operation id j : ℕ) → get_elem? ids k ≡ some v → HasBegun q operation id v → slice_get (calls script) j ≡ Some operation → IsEndTold operation id ((ended ++ read) ++ last ∷ [])
  least k v operation id j at begun listed =
      subst (λ (l : List Told). IsEndTold operation id ((ended ++ read) ++ l ∷ [])) (sym rest.told_is)
      (subst (λ (l : List (List Told)). IsEndTold operation id ((ended ++ l) ++ rest.last.told ∷ [])) left.read_is
      (least_beside p q (calls script) (opens script) left.readers left.readers_are seats main rest.last (notes_of left rest) rest.rest (early_of left) refl rest.words rest.closing ended (kept_of left rest) rest.calm
      (balanced out p q left.setup left.clients (opens script) told ended left.ran.seats ids left.ran.ran)
      (tell g out p q left.setup left.clients (opens script) told ended left.ran.seats ids left.ran.ran (tasks_fit (left.setup ∷ left.clients) owns))
      k v operation id j at begun (own_one g out p q left.setup left.clients (opens script) told ended left.ran.seats ids left.ran.ran owns p are operation) listed))

  abbrev pub left_told : IsTold g out script p q told (ended ++ read) places last
  left_told = record {
    setup = left.setup;
    clients = left.clients;
    tasks = left.tasks;
    opens = opens script;
    ended = ended;
    seats = left.ran.seats;
    ids = ids;
    ran = left.ran.ran;
    least = least;
    sent = send_told left.ran are may rest.last.view.notes laws have few low;
  }

  pub left_each : HasEachOutcome places (outcomes_of p.operations told (ended ++ read) last)
  left_each = each_outcome g out script p q told (ended ++ read) places last left_told
