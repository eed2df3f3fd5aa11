-- The place words that a run with calls leaves tell an order of each link.
use Rattle.std.proofs.Common.{◌≡◌, ℕ, zero, suc, ◌+◌, ◌*◌, ◌/◌, ◌%◌, ◌<◌, ◌≤◌, ◌⊎◌, inl, inr, ⊎_elim, Bool, true, false, eqb, List, [], ◌∷◌, ◌++◌, length, map, flat_map, slice_index, unwrap_or, option_map, Option, Some, None, refl, sym, ap, ◌∙◌, subst, arith}
use Rattle.std.specs.List.{AllByRecursion}
use Rattle.std.proofs.lemmas.List.{append-nil}
use Rattle.std.proofs.lemmas.Option.{slice_get_past}
use mathlib.Core.Logic.{dite}
use mathlib.Core.Option.{some, some-injective, some-ne-none}
use native.Mathlib.Decide.{dec_lt}
use lib.ListN.{get_elem?}
use Rattle.atomic_table.specs.declared.shared.Seat.{Seat}
use Rattle.sock_io.specs.declared.link.Out.{Ghosts}
use Rattle.sock_io.specs.LinkHalves.{OutState}
use Rattle.sock_words.specs.declared.outcome.Outcome.{Outcome}
use Rattle.sock_words.specs.declared.plain.Plan.{Plan}
use Rattle.sock_words.specs.declared.place_word.PlaceWord.{PlaceWord}
use Rattle.sock_words.specs.declared.vref.Vref.{Vref}
use Rattle.sock_words.specs.PackedWords.{no_place, HasPosition, IsPlaceWord, place_word}
use Rattle.brpc_model.specs.Operations.{Label}
use Rattle.brpc_model.specs.PlaceWords.{word_at, StandsAt, ArePlaces}
use Rattle.sock_model.specs.Authors.{pick}
use Rattle.sock_model.specs.declared.chain.Entry.{Entry}
use Rattle.sock_model.specs.declared.chain.Heading.{Heading}
use Rattle.sock_model.specs.declared.view.View as sock_view
use Rattle.sock_model.specs.Entries.{on}
use Rattle.sock_model.specs.SocketTableLayout.{place_index}
use Rattle.chain_steps.proofs.TicketLists.{distinct_filter}
use Rattle.call_run.specs.sock_rule.specs.ClosingWordsAndNotes.{PlacesDiffer}
use Rattle.call_run.specs.sock_rule.specs.declared.homes.SockHome.{SockHome}
use Rattle.sock_deeds.specs.report_fits.proofs.PlaceValues.{is_place}
use Rattle.seat_programs.specs.declared.task.Op.{Op}
use Rattle.seat_programs.specs.declared.task.Op.TheVariants as ops
use Rattle.seat_programs.specs.declared.task.Task.{Task}
use Rattle.seat_programs.specs.Explained.{AreTasks}
use Rattle.corr_core.specs.declared.marks.Kept.{Kept}
use Rattle.corr_core.specs.declared.marks.Note.{Note}
use Rattle.corr_core.specs.declared.marks.Noted.{Noted}
use Rattle.corr_core.specs.declared.marks.Plan as id_plan
use Rattle.corr_core.specs.declared.marks.View.{View}
use Rattle.corr_core.proofs.NoteSums.{only-at}
use Rattle.id_rule.specs.LawfulIdTable.{notes_of}
use Rattle.sock_message.specs.Asked.{Asked}
use Rattle.corr_id.specs.ClosingIdLists.{Closing}
use Rattle.call_run.specs.call_client.specs.rpc_client.specs.declared.acting.Told.{Told}
use Rattle.call_run.specs.call_client.specs.ClientBetweenOperations.{Stand, Acted}
use Rattle.call_run.specs.call_client.specs.ClientRun.{MayMakeAll}
use Rattle.call_run.specs.ReadersOfLinks.{LinkReader}
use Rattle.call_run.specs.Threads.{Thread, AreThreads, RanWith, AllMayRun, MayRunAll, ids_of, opens_of, opened_names, openings}
use Rattle.sock_deeds.proofs.PlacesOfEntries.{before, from_pick, from_on, on_there}
use Rattle.sock_deeds.proofs.Flats.{flat_there}
use Rattle.sock_deeds.proofs.ListPlaces.{map_back, place_low, place_there, map_there, to_slice}
use Rattle.sock_deeds.proofs.FewMessagesByPlace.{few_entries}
use Rattle.call_places.specs.ClientNotesCounted.{HaveNotesOf, makes}
use Rattle.call_places.specs.DeedsOfCallClient.{acted_entries, entries_of, own_entries}
use Rattle.call_places.proofs.NoteWeights.{term}
use Rattle.call_places.proofs.AcceptedMessageLists.{each_ended_lists}
use Rattle.call_places.proofs.OwnAcceptedMessages.{IsMade, own_list}
use Rattle.call_places.proofs.LabelPlaceIndices.{at_place}
use Rattle.call_places.proofs.TaskNumbers.{numbered, numbered_once}
use Rattle.call_places.proofs.IdsOfRetries.{IdLaws, laws_of}
use Rattle.call_places.proofs.ClientPlaces.{Client, total_map, view_of, tasks_of, deeds_of, own_of, made_once as once_made, once, inside}
use Rattle.call_places.proofs.Log as log
use Rattle.sock_words.specs.Totals.{total}

-- ## Behind the readers

module _ {O : Type 0} {g : Ghosts O} where
  -- readers have nothing but a list of their own, which is empty
  silent_lists : (rs : List (LinkReader g)) (seats : List (Seat (SockHome O g) sock_view.View)) → AllByRecursion (λ (x : LinkReader g). x.seat.me.0.lists ≡ [] ∷ []) rs
      → flat_map (λ (s : Seat (SockHome O g) sock_view.View). s.me.0.lists) (map (λ (x : LinkReader g). x.seat) rs ++ seats) ≡ map (λ (x : LinkReader g). []) rs ++ flat_map (λ (s : Seat (SockHome O g) sock_view.View). s.me.0.lists) seats
  silent_lists [] seats a = refl
  silent_lists (r ∷ rs) seats a =
      let rest : List (List Entry) = flat_map (λ (s : Seat (SockHome O g) sock_view.View). s.me.0.lists) (map (λ (x : LinkReader g). x.seat) rs ++ seats) in
      ap (λ l. l ++ rest) a.0 ∙ ap (λ (l : List (List Entry)). [] ∷ l) (silent_lists rs seats a.1)

module _ {X : Type 0} where
  none_listed : (f : List Entry → ℕ) (rs : List X) (ls : List (List Entry)) → f [] ≡ 0 → total f (map (λ (x : X). []) rs ++ ls) ≡ total f ls
  none_listed f [] ls e = refl
  none_listed f (r ∷ rs) ls e = let a = none_listed f rs ls e in omega arith

  -- a list that has an entry isn't one of theirs
  pub own_behind : (rs : List X) (ls : List (List Entry)) (k : ℕ) (l : List Entry) (m : ℕ) (e : Entry) → get_elem? (map (λ (x : X). []) rs ++ ls) k ≡ some l → get_elem? l m ≡ some e → (j : ℕ) × (get_elem? ls j ≡ some l)
  own_behind [] ls k l m e at there = (k, at)
  own_behind (r ∷ rs) ls zero l m e at there = absurd (some-ne-none e (sym there ∙ ap (λ (x : List Entry). get_elem? x m) (sym (some-injective [] l at))))
  own_behind (r ∷ rs) ls (suc k) l m e at there = own_behind rs ls k l m e at there

  behind_own : (rs : List X) (ls : List (List Entry)) (j : ℕ) → (k : ℕ) × (get_elem? (map (λ (x : X). []) rs ++ ls) k ≡ get_elem? ls j)
  behind_own [] ls j = (j, refl)
  behind_own (r ∷ rs) ls j = let n = behind_own rs ls j in (suc n.0, n.1)

-- the entry of a send that was accepted
send_entry : {O : Type 0} {g : Ghosts O} (state : O → OutState) (p : Plan) (q : id_plan.Plan) (number n : ℕ) (bytes : List ℕ) (op : Op) → op ≡ ops.Send n bytes → (by : Option Outcome) → by ≡ None → (s t : Stand g) (a : Acted state p q number op by s t)
    → (e : Entry) × (get_elem? (acted_entries state p q number op by s t a) 0 ≡ some e) × (e.heading.label.place ≡ 8 * number + 0) × (e.link < p.links)
send_entry state p q number n bytes (ops.Send m bs) is None untold s t a = let x = a.0.delivered.accepted in (x.entry, refl, ap (λ (h : Heading). h.label.place) x.heading_is, x.inside)
send_entry state p q number n bytes (ops.Send m bs) is (Some by) untold s t a = absurd (cc)
send_entry state p q number n bytes _ is by untold s t a = absurd (cc)

-- ## The clients of a run

module _ {O : Type 0} {g : Ghosts O} (state : O → OutState) (p : Plan) (q : id_plan.Plan) where
  pub clients_from : (names : List ℕ) (first : ℕ) (xs : List (Thread g)) → AreThreads state p q names first xs → List (Client g state p q)
  clients_from names first [] a = []
  clients_from names first (x ∷ xs) a = record { thread = x; first = first; is = a.0 } ∷ clients_from names (first + opens_of x.tasks) xs a.2

  threads_are : {B : Type 0} (f : Thread g → B) (names : List ℕ) (first : ℕ) (xs : List (Thread g)) (a : AreThreads state p q names first xs) → map (λ (c : Client g state p q). f c.thread) (clients_from names first xs a) ≡ map f xs
  unfolding clients_from
  threads_are f names first [] a = refl
  threads_are f names first (x ∷ xs) a = ap (λ l. f x ∷ l) (threads_are f names (first + opens_of x.tasks) xs a.2)

  others_lists : (names : List ℕ) (first : ℕ) (xs : List (Thread g)) (a : AreThreads state p q names first xs)
      → flat_map (λ (s : Seat (SockHome O g) sock_view.View). s.me.0.lists) (map (λ (x : Thread g). x.ended.seat) xs) ≡ map own_of (clients_from names first xs a)
  unfolding clients_from
  others_lists names first [] a = refl
  others_lists names first (x ∷ xs) a =
      let rest : List (List Entry) = flat_map (λ (s : Seat (SockHome O g) sock_view.View). s.me.0.lists) (map (λ (x : Thread g). x.ended.seat) xs) in
      ap (λ l. l ++ rest) (own_list x a.0) ∙ ap (λ l. own_entries x a.0 ∷ l) (others_lists names (first + opens_of x.tasks) xs a.2)

may_at : (p : Plan) (q : id_plan.Plan) (tss : List (List Task)) → AllMayRun p q tss → (j : ℕ) (ts : List Task) → get_elem? tss j ≡ some ts → (n : ℕ) × MayMakeAll p q ts n
may_at p q [] a j ts e = absurd (some-ne-none ts (sym e))
may_at p q (us ∷ tss) a zero ts e = subst (λ (x : List Task). (n : ℕ) × MayMakeAll p q x n) (some-injective us ts e) (opens_of us, a.0.may)
may_at p q (us ∷ tss) a (suc j) ts e = may_at p q tss a.1 j ts e

module _ {O : Type 0} {g : Ghosts O} {state : O → OutState} {readers : List (LinkReader g)} {p : Plan} {slots : ℕ} {setup : List Task} {clients : List (List Task)} {opens : List ℕ} {told ended : List (List Told)} {places : List PlaceWord} {vrefs : List Vref} {outs : List O} {ids : List (View Asked)}
    (run : RanWith g state readers p slots setup clients opens told ended places vrefs outs ids) where
  -- the setup's client and all others
  abbrev pub all : List (Client g state p (ids_of p slots))
  all = record { thread = run.ran.main; first = 0; is = run.ran.main_is } ∷ clients_from state p (ids_of p slots) (opened_names run.ran.main.ended.outcomes.items (openings setup)) (opens_of setup) run.ran.others run.ran.others_are

  -- what the proofs on a run speak of: the plan of its ids, the tasks of its clients with the setup's, and the clients
  pub record Crew : Type 0 where
    pub q : id_plan.Plan
    pub every : List (List Task)
    pub crew : List (Client g state p q)

  abbrev pub crew_of : Crew
  crew_of = record { q = ids_of p slots; every = setup ∷ clients; crew = all }

  pub all_are : {B : Type 0} (f : Thread g → B) → map (λ (c : Client g state p (ids_of p slots)). f c.thread) all ≡ map f (run.ran.main ∷ run.ran.others)
  all_are f = ap (λ l. f run.ran.main ∷ l) (threads_are state p (ids_of p slots) f (opened_names run.ran.main.ended.outcomes.items (openings setup)) (opens_of setup) run.ran.others run.ran.others_are)

  pub views_are : map view_of all ≡ ids
  views_are = all_are (λ (x : Thread g). x.ended.calls.seat.me.0) ∙ run.ran.ids_are

  -- what a client noted is among the notes
  pub noted_among : (notes : List (Noted Asked)) → HaveNotesOf ids notes → (j : ℕ) (c : Client g state p (ids_of p slots)) → get_elem? all j ≡ some c → (i : ℕ) (f : Note Asked → ℕ) → total f (notes_of i (view_of c).notes) ≤ total f (notes_of i notes)
  noted_among notes have j c at i f =
      let a = term (λ (v : View Asked). total f (notes_of i v.notes)) ids j (view_of c) (ap (λ (l : List (View Asked)). get_elem? l j) (sym views_are) ∙ map_there view_of all j c at) in
      let b = have.all i f in omega (arith, a, b)

  pub tasks_are : map tasks_of all ≡ setup ∷ clients
  tasks_are = all_are (λ (x : Thread g). x.tasks) ∙ (ap (λ (t : List Task). t ∷ map (λ (x : Thread g). x.tasks) run.ran.others) run.ran.setup_asked ∙ ap (λ l. setup ∷ l) run.ran.asked)

  -- each may make its operations, and no two of those have one number
  pub may_make : MayRunAll p (ids_of p slots) setup clients → (j : ℕ) (c : Client g state p (ids_of p slots)) → get_elem? all j ≡ some c → (n : ℕ) × MayMakeAll p (ids_of p slots) (tasks_of c) n
  may_make may j c at = may_at p (ids_of p slots) (setup ∷ clients) (may.setup_may, may.clients_may) j (tasks_of c) (ap (λ l. get_elem? l j) (sym tasks_are) ∙ map_there tasks_of all j c at)

  pub one_number : AreTasks p (setup ∷ clients) → (o : ℕ) → total (λ (c : Client g state p (ids_of p slots)). total (numbered o) (tasks_of c)) all ≤ 1
  one_number tasks o = let a = total_map (λ (ts : List Task). total (numbered o) ts) tasks_of all in let b = ap (total (λ (ts : List Task). total (numbered o) ts)) tasks_are in let d = numbered_once p (setup ∷ clients) tasks o in omega (arith, a, b, d)

  have_all : (notes : List (Noted Asked)) → HaveNotesOf ids notes → HaveNotesOf (map view_of all) notes
  have_all notes have = subst (λ (vs : List (View Asked)). HaveNotesOf vs notes) (sym views_are) have

  -- one id at most was made for an operation
  pub made_once : AreTasks p (setup ∷ clients) → MayRunAll p (ids_of p slots) setup clients → (notes : List (Noted Asked)) → HaveNotesOf ids notes → (o : ℕ) → total (makes o) notes ≤ 1
  made_once tasks may notes have o = once_made all notes (have_all notes have) (may_make may) (one_number tasks) o

  -- one list for each client, its own, behind one for each reader, which is empty: the seat that is left took in those of all clients, and ended the sockets without a list more
  pub lists_are : run.closed.view.lists ≡ map (λ (x : LinkReader g). []) readers ++ map own_of all
  lists_are =
      let f : Seat (SockHome O g) sock_view.View → List (List Entry) = λ s. s.me.0.lists in
      let rest : List (List Entry) = flat_map f (map (λ (x : Thread g). x.ended.seat) run.ran.others) in
      let end = run.ran.ending in
      let last : end.last.me.0.lists ≡ f run.ran.main.ended.seat ++ rest = each_ended_lists p opens end.joined end.last.me.0 end.failed ∙ end.took_in.lists in
      let mains : f run.ran.main.ended.seat ≡ own_entries run.ran.main run.ran.main_is ∷ [] = own_list run.ran.main run.ran.main_is in
      run.closed.lists ∙ (silent_lists readers run.seats run.silent ∙ ap (λ (l : List (List Entry)). map (λ (x : LinkReader g). []) readers ++ l) (ap (flat_map f) (sym end.alone) ∙ (append-nil (f end.last) ∙ (last
      ∙ (ap (λ l. l ++ rest) mains ∙ ap (λ l. own_entries run.ran.main run.ran.main_is ∷ l) (others_lists state p (ids_of p slots) (opened_names run.ran.main.ended.outcomes.items (openings setup)) (opens_of setup) run.ran.others run.ran.others_are))))))

  module _ (tasks : AreTasks p (setup ∷ clients)) (may : MayRunAll p (ids_of p slots) setup clients) (notes : List (Noted Asked)) (laws : IdLaws slots notes) (have : HaveNotesOf ids notes) where
    -- ## The log

    abbrev pub accepted : List Entry
    accepted = run.closed.ordered.log

    once_listed : (l : ℕ) → total (λ (es : List Entry). total (at_place l) es) run.closed.view.lists ≤ 1
    once_listed l =
        let a = ap (total (λ (es : List Entry). total (at_place l) es)) lists_are in let n = none_listed (λ (es : List Entry). total (at_place l) es) readers (map own_of all) refl in let b = total_map (λ (es : List Entry). total (at_place l) es) own_of all in
        let d = once all notes laws (have_all notes have) (may_make may) (one_number tasks) l in omega arith

    -- no two messages have one place index
    pub log_differs : PlacesDiffer accepted
    log_differs = log.places_differ p run.closed.view.found run.closed.view.lists run.closed.ordered once_listed

    -- and each has one of the plan
    low_place : (k : ℕ) (e : Entry) → get_elem? accepted k ≡ some e → e.heading.label.place < 8 * p.operations
    low_place k e at =
        let w = log.authored p run.closed.view.found run.closed.view.lists run.closed.ordered k e at in
        let m : ℕ = before w.author run.closed.ordered.by k in
        let own = own_behind readers (map own_of all) w.seat _ m e (ap (λ l. get_elem? l w.seat) (sym lists_are) ∙ w.list) w.place in
        let c = map_back own_of all own.0 _ own.1 in
        let here = term (at_place e.heading.label.place) (own_of c.0) m e (ap (λ l. get_elem? l m) c.2 ∙ w.place) in
        let one = only-at e.heading.label.place e.heading.label.place refl in
        inside all notes laws (have_all notes have) (may_make may) (one_number tasks) e.heading.label.place own.0 c.0 c.1 (omega arith)

    low_on : (k i : ℕ) (e : Entry) → get_elem? (on k accepted) i ≡ some e → e.heading.label.place < 8 * p.operations
    low_on k i e at = let w = from_on k accepted i e at in low_place w.0 e w.1

    few_on : (k : ℕ) → length (on k accepted) ≤ 8 * p.operations
    few_on k = few_entries (8 * p.operations) (on k accepted) (λ i j a b at bt same. distinct_filter (λ (x : Entry). x.heading.label.place) (λ (x : Entry). eqb x.link k) accepted log_differs i j a b at bt same) (low_on k)

    -- ## The words

    word_here : (n : ℕ) → n < 8 * p.operations → word_at places n ≡ slice_index run.closed.words (place_index p n)
    word_here n low = let r = run.closed.placed n low in ap (λ (o : Option PlaceWord). unwrap_or (option_map (λ (word : PlaceWord). word.0) o) no_place) (to_slice places n r.0 r.1) ∙ r.2

    word_beyond : (n : ℕ) → 8 * p.operations ≤ n → word_at places n ≡ no_place
    word_beyond n high = ap (λ (o : Option PlaceWord). unwrap_or (option_map (λ (word : PlaceWord). word.0) o) no_place) (slice_get_past places n (let e = run.closed.sized.1 in omega arith))

    -- a message with this place index stands at this position of this link
    pub record IsMessage (n k i : ℕ) : Type 0 where
      pub inside : k < p.links
      pub entry : Entry
      pub at : get_elem? (on k accepted) i ≡ some entry
      pub place : entry.heading.label.place ≡ n

    none_or_message : (n : ℕ) → (word_at places n ≡ no_place) ⊎ ((k i : ℕ) × IsMessage n k i)
    none_or_message n = dite (dec_lt n (8 * p.operations))
        (λ low. ⊎_elim (λ e. inl (word_here n low ∙ e)) (λ w. inr (w.link, w.position, record { inside = w.inside; entry = w.entry; at = w.there; place = w.own })) (run.closed.shown n low))
        (λ high. inl (word_beyond n (omega arith)))

    module _ (few : p.links ≤ 65536) (low : p.operations ≤ 65536) where
      -- and its word tells that
      tells : (n k i : ℕ) → IsMessage n k i → (b : Bool) × IsPlaceWord (word_at places n) b k i
      tells n k i m =
          let back = run.closed.outs_back k m.inside in
          let fifo = back.took_is.fifo log_differs in
          let here = low_on k i m.entry m.at in
          let position = place_low (on k accepted) i m.entry m.at in
          let most = few_on k in
          let word = word_here m.entry.heading.label.place here in
          subst (λ (x : ℕ). (b : Bool) × IsPlaceWord (word_at places x) b k i) m.place
          (dite (dec_lt i back.took_is.kept)
          (λ lt. by false (omega (arith, m.inside, few)) (omega (arith, position, most, low)) (word ∙ fifo.placed i m.entry m.at lt))
          (λ ge. by true (omega (arith, m.inside, few)) (omega (arith, position, most, low)) (word ∙ fifo.dropped i m.entry m.at (omega arith))))
        where
          by : (b : Bool) → k < 65536 → i < 4294967295 → word_at places m.entry.heading.label.place ≡ place_word b k i → (b : Bool) × IsPlaceWord (word_at places m.entry.heading.label.place) b k i
          by b small short e = (b, subst (λ (w : ℕ). IsPlaceWord w b k i) (sym e) (is_place b k i small short))

      -- a word that tells a position is that of a message there
      message_at : (label : Label) (k i : ℕ) → StandsAt places label k i → IsMessage (8 * label.operation + label.attempt) k i
      message_at label k i h = by_word (none_or_message (8 * label.operation + label.attempt))
        where
          by_word : (word_at places (8 * label.operation + label.attempt) ≡ no_place) ⊎ ((k i : ℕ) × IsMessage (8 * label.operation + label.attempt) k i) → IsMessage (8 * label.operation + label.attempt) k i
          by_word (inl e) = absurd (let z : HasPosition no_place = subst (λ (x : ℕ). HasPosition x) e h.told.accepted in omega (arith, z))
          by_word (inr w) =
              let t = tells (8 * label.operation + label.attempt) w.0 w.1 w.2 in
              let link : w.0 ≡ k = sym t.1.link_is ∙ h.told.link_is in
              let position : w.1 ≡ i = sym t.1.position_is ∙ h.told.position_is in
              subst (λ (x : ℕ). IsMessage (8 * label.operation + label.attempt) k x) position (subst (λ (x : ℕ). IsMessage (8 * label.operation + label.attempt) x w.1) link w.2)

      -- the label of a place index
      label_is : (a b : Label) → a.attempt < 8 → b.attempt < 8 → 8 * a.operation + a.attempt ≡ 8 * b.operation + b.attempt → a ≡ b
      label_is a b small less e =
          let operation : a.operation ≡ b.operation = omega (arith, small, less, e) in
          let attempt : a.attempt ≡ b.attempt = omega (arith, small, less, e) in
          λ z. record { operation = operation z; attempt = attempt z }

      -- the place words tell an order of each link
      pub are_places : ArePlaces places
      are_places = record {
        tell = λ n. ⊎_elim (λ e. inl e) (λ w. inr (tells n w.0 w.1 w.2).1.has_position) (none_or_message n);
        once = λ a b k i h u. (
            let x = message_at a k i h in
            let y = message_at b k i u in
            label_is a b h.attempt u.attempt (sym x.place ∙ (ap (λ (e : Entry). e.heading.label.place) (some-injective x.entry y.entry (sym x.at ∙ y.at)) ∙ y.place))
            );
        no_gap = λ a k i lower h less. (
            let x = message_at a k i h in
            let e = place_there (on k accepted) lower (let z = place_low (on k accepted) i x.entry x.at in omega (arith, z, less)) in
            below k lower e.0 x.inside e.1
            );
      }
        where
          below : (k lower : ℕ) (e : Entry) → k < p.links → get_elem? (on k accepted) lower ≡ some e → (b : Label) × StandsAt places b k lower
          below k lower e low_link at =
              let same : e.heading.label.place ≡ 8 * (e.heading.label.place / 8) + e.heading.label.place % 8 = omega arith in
              let t = tells (8 * (e.heading.label.place / 8) + e.heading.label.place % 8) k lower (record { inside = low_link; entry = e; at = at; place = same }) in
              (record { operation = e.heading.label.place / 8; attempt = e.heading.label.place % 8 }, record { attempt = omega arith; told = record { accepted = t.1.has_position; link_is = t.1.link_is; position_is = t.1.position_is } })

      -- ## Sends

      -- the message of a send that was accepted has a place
      pub send_placed : (j : ℕ) (c : Client g state p (ids_of p slots)) → get_elem? all j ≡ some c → (t : Task) (n : ℕ) (bytes : List ℕ) → t.op ≡ ops.Send n bytes → (m : IsMade g state p (ids_of p slots) (deeds_of c) c.thread.ended.outcomes.items t) → m.how.by ≡ None → HasPosition (word_at places (8 * t.number))
      send_placed j c at t n bytes is m untold =
          let e = send_entry state p (ids_of p slots) t.number n bytes t.op is m.how.by untold m.how.before m.how.after m.how.acted in
          let own = flat_there entries_of (deeds_of c) m.place _ 0 e.0 m.there e.1 in
          let seat = behind_own readers (map own_of all) j in
          let list = map_back (λ a. pick a run.closed.ordered.by accepted) run.closed.ordered.names seat.0 (own_of c) (ap (λ l. get_elem? l seat.0) (sym run.closed.ordered.lists_are ∙ lists_are) ∙ (seat.1 ∙ map_there own_of all j c at)) in
          let q = from_pick list.0 run.closed.ordered.by accepted own.0 e.0 (ap (λ l. get_elem? l own.0) list.2 ∙ own.1) in
          let i = on_there e.0.link accepted q.0 e.0 q.2 refl in
          (tells (8 * t.number) e.0.link i.0 (record { inside = e.3; entry = e.0; at = i.1; place = omega (arith, e.2) })).1.has_position

-- of a run behind which the table of ids was closed, over notes that have those of the clients' seats and no made id besides
pub closed_places : {O : Type 0} {g : Ghosts O} {state : O → OutState} {readers : List (LinkReader g)} {p : Plan} {slots : ℕ} {setup : List Task} {clients : List (List Task)} {opens : List ℕ} {told ended : List (List Told)} {places : List PlaceWord} {vrefs : List Vref} {outs : List O} {ids : List (View Asked)}
    → RanWith g state readers p slots setup clients opens told ended places vrefs outs ids → AreTasks p (setup ∷ clients) → MayRunAll p (ids_of p slots) setup clients → p.links ≤ 65536 → p.operations ≤ 65536
    → (notes : List (Noted Asked)) (kept : List Kept) (words : List ℕ) → Closing (ids_of p slots) notes kept words → HaveNotesOf ids notes → ArePlaces places
closed_places {p = p} {slots = slots} run tasks may few low notes kept words closing have = are_places run tasks may notes (laws_of (ids_of p slots) notes kept words closing) have few low
