-- What is told of sockets in a run of a script whose links were read beside its clients, over the links that were given back.
use Rattle.std.proofs.Common.{◌≡◌, ℕ, ◌+◌, ◌*◌, ◌<◌, ◌≤◌, inl, inr, List, [], ◌∷◌, ◌++◌, length, map, slice_get, Option, Some, Ok, Contains, refl, sym, ap, ◌∙◌, subst, arith}
use Rattle.std.specs.Prelude.{slice_index}
use Rattle.std.specs.Option.{ForSome}
use Rattle.std.specs.List.{AllByRecursion}
use Rattle.std.proofs.lemmas.List.{length-map}
use Rattle.std.proofs.lemmas.Option.{slice_get_within}
use mathlib.Core.Option.{some, some-injective}
use lib.ListN.{get_elem?}
use Rattle.sock_io.specs.declared.link.Out.{Ghosts}
use Rattle.sock_io.specs.declared.link.Ends.{Ends}
use Rattle.sock_io.specs.LinkHalves.{OutState, InState, end_of}
use Rattle.brpc_model.specs.Items.{Item}
use Rattle.brpc_model.specs.ReturnedLink.{LinkEnd}
use Rattle.brpc_model.specs.Operations.{operations}
use Rattle.brpc_model.specs.Script.{script_of}
use Rattle.seat_programs.specs.sock_model.specs.SocketTableLayout.{place_index}
use Rattle.seat_programs.specs.declared.task.Task.{Task}
use Rattle.seat_programs.specs.Cores.{Core}
use Rattle.seat_programs.specs.ScriptSetupToEnding.{all_tasks, place_words}
use Rattle.seat_programs.specs.Tasks.{plan_of, opens, calls}
use Rattle.seat_programs.specs.Explained.{AreTasks}
use Rattle.seat_programs.specs.ExplainedCalls.{Fixed, Order}
use Rattle.rpc_client.specs.declared.acting.Told.{Told}
use Rattle.call_run.specs.sock_rule.specs.ClosingWordsAndNotes.{PlacesDiffer}
use Rattle.call_run.specs.ReadersOfLinks.{LinkReader, AreReaders}
use Rattle.call_run.specs.Threads.{opens_of, openings, opened_names, MayRunAll}
use Rattle.script_parts.specs.report_fits.specs.ScriptLinkEnds.{EndsEarly, IsEndOf}
use Rattle.script_parts.specs.script_facts.proofs.Flat.{at_map}
use Rattle.script_parts.specs.call_whys.specs.call_places.specs.ClientNotesCounted.{HaveNotesOf}
use Rattle.script_parts.specs.call_whys.specs.call_places.proofs.IdsOfRetries.{IdLaws, laws_of}
use Rattle.script_parts.specs.call_whys.specs.call_places.proofs.CallPlaceOrders.{log_differs}
use Rattle.script_parts.specs.call_whys.specs.call_deeds.specs.RetriedCalls.{all_asked}
use Rattle.script_parts.specs.call_whys.specs.call_deeds.specs.ScriptsWithCalls.{AllHaveLinks, AllLater, Reports}
use Rattle.script_parts.specs.call_whys.specs.call_deeds.proofs.ReadersBesideClients.{OpensLink}
use Rattle.script_parts.specs.call_whys.specs.call_deeds.proofs.Ran.{AreLater}
use Rattle.script_parts.specs.call_whys.specs.call_deeds.proofs.RunsAsDeeds.{deed_run_with, early_with}
use Rattle.script_parts.specs.call_whys.specs.call_deeds.proofs.SocketsToldWithCalls.{told_of_run_with}
use Rattle.script_parts.specs.call_whys.specs.call_told.specs.TellersOfCallEnds.{ToldFrom, IsGiver, AreAnsweredBy}
use Rattle.script_parts.specs.call_whys.specs.call_told.proofs.ToldBesideClients.{gave_beside, gave_is, have_beside, told_from, rest_from, made_beside}
use Rattle.script_parts.specs.call_whys.specs.call_told.proofs.ListElementsByPlace.{all_at}
use Rattle.script_parts.specs.call_whys.specs.call_told.proofs.IdsMadeBySeats.{AllMade}
use Rattle.script_parts.specs.call_whys.specs.call_told.proofs.ToldByReaders.{each_read, readers_gave}
use Rattle.script_parts.specs.callless_fits.specs.sock_deeds.specs.SocketTableRun.{DeedRun}
use Rattle.script_parts.specs.callless_fits.specs.sock_deeds.specs.SocketsTold.{fixed_by, ToldSockets}
use Rattle.script_parts.specs.callless_fits.specs.sock_deeds.proofs.Breaking.{broken_noted}
use Rattle.script_parts.specs.callless_fits.specs.sock_deeds.proofs.WhyLivesFailed.{broken, early, all_fails}
use Rattle.script_parts.specs.callless_fits.specs.sock_deeds.proofs.OrdersOfDeeds.{took, ends as link_ends, took_home, orders}
use Rattle.script_parts.proofs.AskedByScriptClients.{ids_made, notes_of_seats}
use Rattle.script_parts.proofs.RetriesOfLaterAttempts.{IsCallOf, all_ask_for}
use Rattle.script_parts.proofs.RetriesOfLaterAttempts as laters
use Rattle.script_parts.proofs.ClientSocketsLinked.{script_linked}
use Rattle.script_parts.proofs.MayCall.{IsOwnTask, all_own, script_seats, seated_are, seated_may}
use Rattle.script_parts.proofs.SortNumberBounds.{few_operations}
use Rattle.script_parts.proofs.ReportShowsCallsOnce.{view_of}
use Rattle.script_parts.proofs.SocketsOfCallScript.{core_of, words_map, map_twice, if_told, nothing_there}
use Rattle.script_parts.proofs.Tellers.{split, only_one, IsEndTold, from_told}
use Rattle.script_parts.proofs.Tellers as tellers
use Rattle.script_threads.specs.SocketsOfReadLinks.{AreSocketsTold}
use Rattle.script_threads.specs.ServedScriptTold.{IsThreadsRun}
use Rattle.script_threads.proofs.Speaking.{parts_of}
use Rattle.script_threads.proofs.ReadingEndedEarly.{ShowsEarly, early_shown}
use Rattle.script_threads.proofs.LeftByScriptThreads.{early_of, notes_of}
use Rattle.script_threads.proofs.ScriptSocketsLinked.{opens_link}
use Rattle.script_threads.proofs.Widened.{still_told}
use Rattle.script_parts.specs.callless_fits.specs.sock_deeds.proofs.ListPlaces.{map_there, to_elem}

module _ (P : Type 0) {O I : Type 0} (g : Ghosts O) (out : O → OutState) (inn : I → InState) (bytes : List ℕ) (script : List Item) (reads : script_of bytes ≡ Ok script) (text : List ℕ) (links : List LinkEnd) (r : IsThreadsRun P g out inn script text links) where
  open parts_of r use {p, q, all, readers, main, last, outcomes}

  abbrev readers_are : AreReaders p q (calls script) 0 (opens script) readers
  readers_are = r.left.readers_are

  pub are : AreTasks p all
  are = seated_are bytes script reads p.seats all r.left.tasks

  pub may : MayRunAll p q r.left.setup r.left.clients
  may = seated_may bytes script reads p.seats (length (calls script)) r.left.setup r.left.clients r.left.tasks (let n = script_seats script r.left.setup r.left.clients r.left.tasks in omega arith)

  pub low : p.operations ≤ 65536
  low = omega (arith, few_operations bytes script reads (plan_of script) refl)

  pub have : HaveNotesOf (map view_of r.ids) last.notes
  have = have_beside p q (calls script) (opens script) readers readers_are r.ids main r.rest.last (notes_of r.left r.rest) r.rest.rest

  laws : IdLaws (length (calls script)) last.notes
  laws = laws_of q last.notes last.kept r.rest.words r.rest.closing

  pub differ : PlacesDiffer r.left.ran.closed.ordered.log
  differ = log_differs r.left.ran are may last.notes laws have

  -- ## What is told of calls that ended

  abbrev pub gave : ℕ → List ℕ
  gave = gave_beside p q (calls script) (opens script) readers readers_are

  -- by whoever tells from the notes of all
  from_all : (ts : List Told) (j : ℕ) (x : Told) → AllByRecursion (ToldFrom q.slots (length readers) gave last) ts → get_elem? ts j ≡ some x → IsEndTold q.slots last.notes x
  from_all ts j x told at = from_told q last r.rest.words r.rest.closing (length readers) gave x (all_at (ToldFrom q.slots (length readers) gave last) ts j x told at)

  read_told : (d j : ℕ) (ts : List Told) (x : Told) → get_elem? r.read d ≡ some ts → get_elem? ts j ≡ some x → IsEndTold q.slots last.notes x
  read_told d j ts x at there =
      let each = told_from p q (calls script) (opens script) readers readers_are r.ids main r.rest.last (notes_of r.left r.rest) r.rest.rest in
      from_all ts j x (all_at (AllByRecursion (ToldFrom q.slots (length readers) gave last)) r.read d ts (subst (AllByRecursion (AllByRecursion (ToldFrom q.slots (length readers) gave last))) r.left.read_is each) at) there

  last_told : (j : ℕ) (x : Told) → get_elem? r.last j ≡ some x → IsEndTold q.slots last.notes x
  last_told j x at =
      let t = rest_from p q (calls script) (opens script) readers readers_are r.ids main r.rest.last (notes_of r.left r.rest) r.rest.rest (early_of r.left) in
      let more : r.last ≡ t.more = r.rest.told_is ∙ t.told in
      from_all t.more j x t.each (ap (λ (l : List Told). get_elem? l j) (sym more) ∙ at)

  pub ended_told : (d j : ℕ) (ts : List Told) (x : Told) → get_elem? r.ended d ≡ some ts → get_elem? ts j ≡ some x → IsEndTold q.slots last.notes x
  ended_told d j ts x at there = (tellers.ended_told r.left.ran script r.left.tasks are last r.rest.words r.rest.closing have d j ts x at there).0

  pub end_told : (d j : ℕ) (ts : List Told) (x : Told) → get_elem? ((r.ended ++ r.read) ++ r.last ∷ []) d ≡ some ts → get_elem? ts j ≡ some x → IsEndTold q.slots last.notes x
  end_told d j ts x at there = elim (split (r.ended ++ r.read) (r.last ∷ []) d ts at) [
    | inl h ↦ elim (split r.ended r.read d ts h) [
      | inl own ↦ ended_told d j ts x own there
      | inr w ↦ read_told w.0 j ts x w.1 there
    ]
    | inr w ↦ last_told j x (ap (λ (l : List Told). get_elem? l j) (only_one r.last w.0 ts w.1) ∙ there)
  ]

  -- ## What is reported

  pub reports : Reports all outcomes r.told
  reports = tellers.reports r.left.ran script r.left.tasks are last.notes have (r.ended ++ r.read) r.last end_told

  pub long : length outcomes ≡ p.operations
  long = tellers.long r.left.ran script r.left.tasks are last.notes have (r.ended ++ r.read) r.last end_told

  pub made : AllMade (IsCallOf all outcomes) last.notes
  made =
      let owns = subst (AllByRecursion (AllByRecursion IsOwnTask)) (sym r.left.tasks) (all_own script) in
      made_beside p q (calls script) (opens script) readers readers_are r.ids main r.rest.last (notes_of r.left r.rest) r.rest.rest (IsCallOf all outcomes)
      (subst (AllMade (IsCallOf all outcomes)) (notes_of_seats view_of r.ids)
      (ids_made (IsCallOf all outcomes) out p q r.left.setup r.left.clients (opens script) r.told r.ended r.left.ran.seats (map view_of r.ids) r.left.ran.ran (all_ask_for all outcomes owns)))

  pub main_later : AreLater all outcomes (all_asked r.left.ran.ran.main r.left.ran.ran.main_is)
  main_later = laters.setup_later r.left.ran last r.rest.words r.rest.closing have outcomes made

  pub others_later : AllLater all outcomes out p q (opened_names r.left.ran.ran.main.ended.outcomes.items (openings r.left.setup)) (opens_of r.left.setup) r.left.ran.ran.others r.left.ran.ran.others_are
  others_later = laters.others_later r.left.ran last r.rest.words r.rest.closing have outcomes made

  pub linked : AllHaveLinks 0 all
  linked = subst (AllHaveLinks 0) (sym r.left.tasks) (script_linked script)

  -- the readers are those of the links that the clients opened
  pub asked : (k o : ℕ) → get_elem? (opens script) k ≡ some o → OpensLink all outcomes k o
  asked k o at = subst (λ (l : List (List Task)). OpensLink l outcomes k o) (sym r.left.tasks) (opens_link script outcomes k o at)

  -- ## The run

  abbrev pub run : DeedRun g out p all outcomes r.places r.left.vrefs r.left.outs
  run = deed_run_with r.left.ran outcomes are may linked long reports main_later others_later (calls script) readers_are asked

  -- what the closed table left
  abbrev pub core : Core
  core = core_of p r.left.ran.closed.words (took run differ) outcomes

  abbrev pub fixed : Fixed
  fixed = fixed_by (broken run) (early run) (all_fails run)

  pub tells : (given : ℕ → List ℕ) → ToldSockets p all outcomes fixed given (orders run differ) core
  tells given = told_of_run_with r.left.ran outcomes are may linked long reports main_later others_later (calls script) readers_are asked differ given low core record { words = refl; homes = refl }

  words : place_words p r.left.ran.closed.words ≡ r.places
  words = sym (words_map (λ l. slice_index r.left.ran.closed.words (place_index p l)) (8 * p.operations) 0 r.places r.left.ran.closed.sized.1
      (λ i low. (let w = r.left.ran.closed.placed i low in let z : i ≡ 0 + i = omega arith in (w.0, w.1, w.2 ∙ ap (λ l. slice_index r.left.ran.closed.words (place_index p l)) z))))

  -- ## The links as they were given back

  abbrev pub end_at : Ends O I P → LinkEnd
  end_at e = end_of (out e.out) (inn e.inn)

  abbrev out_at : Ends O I P → OutState
  out_at e = out e.out

  outs_are : map out_at r.ends ≡ map out r.left.outs
  outs_are = map_twice (λ (e : Ends O I P). e.out) out r.ends ∙ ap (map out) r.halves

  pub as_many : length r.ends ≡ p.links
  as_many = let a = length-map r.ends out_at in let b = length-map r.left.outs out in let c = ap length outs_are in let d = r.left.ran.closed.count in omega arith

  -- the link whose reading ended early shows it
  pub shown : (k : ℕ) (e : Ends O I P) → slice_get r.ends k ≡ Some e → Contains (early run) k → EndsEarly (gave k) (end_at e)
  shown k e at there =
      let is = early_with r.left.ran outcomes are may linked long reports main_later others_later (calls script) readers_are asked in
      let s = early_shown out p q (calls script) 0 (opens script) readers readers_are k (subst (λ (l : List ℕ). Contains l k) is there) in
      let place : s.place ≡ k = (let a = s.link_is in omega arith) in
      let half : s.reader.behind ≡ inn e.inn = some-injective s.reader.behind (inn e.inn) (
      sym (map_there (λ (x : LinkReader g). x.behind) readers s.place s.reader (to_elem readers s.place s.reader s.at))
      ∙ (ap (λ (l : List InState). get_elem? l s.place) r.halves_read ∙ (ap (get_elem? (map (λ (x : Ends O I P). inn x.inn) r.ends)) place ∙ map_there (λ (x : Ends O I P). inn x.inn) r.ends k e (to_elem r.ends k e at)))) in
      let bytes_ : readers_gave p q (calls script) readers (each_read p q (calls script) 0 (opens script) readers readers_are) s.place ≡ gave k =
      ap (λ (f : ℕ → List ℕ). f s.place) (sym (gave_is p q (calls script) (opens script) readers readers_are)) ∙ ap gave place in
      subst (λ (i : InState). ShowsEarly (gave k) i) half (subst (λ (l : List ℕ). ShowsEarly l s.reader.behind) bytes_ s.shows)

  module _ (given : ℕ → List ℕ) (is : given ≡ gave) where
    one_end : (k : ℕ) (e : Ends O I P) → slice_get r.ends k ≡ Some e → IsGiver given k (end_at e) → IsEndOf (plan_of script) core fixed given k (end_at e)
    one_end k e at giver =
        let inside : k < p.links = (let n = slice_get_within r.ends k e at in let l = as_many in omega arith) in
        let l = (link_ends run differ).1 k inside in
        let same : out l.out ≡ out e.out = some-injective (out l.out) (out e.out) (sym (map_there out r.left.outs k l.out l.there) ∙ (ap (λ (x : List OutState). get_elem? x k) (sym outs_are) ∙ map_there out_at r.ends k e (to_elem r.ends k e at))) in
        record {
          numbered = ap (λ (s : OutState). s.link) (sym same) ∙ l.own;
          took = if_told (out e.out).took (took run differ k) _ (subst (λ (o : Option (List ℕ)). ForSome o (λ bytes. bytes ≡ took run differ k)) (ap (λ (s : OutState). s.took) same) l.tells) (sym (took_home p (took run differ) k inside));
          counted = giver.counted;
          gives = giver.gives;
          failed = λ there. (let some_ = l.faulted (broken_noted run k there) in let c = ap (λ (s : OutState). s.faults) same in omega arith);
          early = λ there. subst (λ (f : ℕ → List ℕ). EndsEarly (f k) (end_at e)) (sym is) (shown k e at there);
          closed = λ there. absurd (nothing_there k there);
        }

    -- why each operation on sockets has its outcome, where it is told that the links gave what their readers met
    pub sockets_beside : (ends : List LinkEnd) → ends ≡ map end_at r.ends → ((k : ℕ) (e : LinkEnd) → slice_get ends k ≡ Some e → IsGiver given k e) → AreSocketsTold script outcomes r.places given ends
    sockets_beside ends back givers = record {
      core = core;
      words = words;
      broken = broken run;
      early = early run;
      fails = all_fails run;
      orders = orders run differ;
      tells = still_told (plan_of script) p.seats (all_tasks script) outcomes fixed given (orders run differ) core (subst (λ (l : List (List Task)). ToldSockets p l outcomes fixed given (orders run differ) core) r.left.tasks (tells given));
      ends_told = record {
        as_many = ap length back ∙ (length-map r.ends end_at ∙ as_many);
        each = λ k e at. (let w = at_map end_at r.ends k e (ap (λ (l : List LinkEnd). slice_get l k) (sym back) ∙ at) in subst (IsEndOf (plan_of script) core fixed given k) w.2 (one_end k w.0 w.1 (subst (IsGiver given k) (sym w.2) (givers k e at))));
      };
    }

    -- those are this run's
    sockets_are : (ends : List LinkEnd) (back : ends ≡ map end_at r.ends) (givers : (k : ℕ) (e : LinkEnd) → slice_get ends k ≡ Some e → IsGiver given k e) (Q : Fixed → (ℕ → List ℕ) → (ℕ → Order) → Type 0) → Q fixed given (orders run differ)
        → Q (fixed_by (sockets_beside ends back givers).broken (sockets_beside ends back givers).early (sockets_beside ends back givers).fails) given (sockets_beside ends back givers).orders
    unfolding sockets_beside
    sockets_are ends back givers Q q = q

  -- the same beside the answers over these links, which are by what the links gave; and what else is known of the run
  pub answered_sockets : (Q : Fixed → (ℕ → List ℕ) → (ℕ → Order) → Type 0) → ((given : ℕ → List ℕ) → given ≡ gave → Q fixed given (orders run differ)) → (a : AreAnsweredBy (operations script) outcomes (map end_at r.ends)) → a.gave ≡ gave
      → (b : AreAnsweredBy (operations script) outcomes links) × (s : AreSocketsTold script outcomes r.places b.gave links) × Q (fixed_by s.broken s.early s.fails) b.gave s.orders
  answered_sockets Q known a is = subst (λ (l : List LinkEnd). (b : AreAnsweredBy (operations script) outcomes l) × (s : AreSocketsTold script outcomes r.places b.gave l) × Q (fixed_by s.broken s.early s.fails) b.gave s.orders) (sym r.given_back)
      (a, sockets_beside a.gave is (map end_at r.ends) refl a.givers, sockets_are a.gave is (map end_at r.ends) refl a.givers Q (known a.gave is))
