-- What is told in a run whose links are read beside the clients: by the readers, and behind all by main, which ends the calls that are left.
use Rattle.std.proofs.Common.{◌≡◌, ℕ, ◌≤◌, false, List, [], ◌∷◌, ◌++◌, flat_map, length, map, Some, refl, sym, ap, ◌∙◌, subst, arith}
use Rattle.std.specs.Prelude.{Option, option_map, slice_get, IfSome}
use Rattle.std.specs.List.{AllByRecursion}
use Rattle.std.proofs.lemmas.List.{length-map}
use Rattle.std.proofs.lemmas.Option.{slice_get-map}
use mathlib.Core.Option.{some}
use lib.ListN.{get_elem?}
use Rattle.atomic_table.specs.declared.shared.Seat.{Seat}
use Rattle.brpc_model.specs.ReturnedLink.{LinkEnd}
use Rattle.brpc_model.specs.Operations.{Operation}
use Rattle.sock_words.specs.ErrorCodes.{EEOF}
use Rattle.sock_words.specs.declared.plain.Plan.{Plan}
use Rattle.sock_words.specs.declared.outcome.Outcome.{Outcome}
use Rattle.sock_io.specs.declared.link.Ends.{Ends}
use Rattle.sock_io.specs.declared.link.Out.{Ghosts}
use Rattle.sock_io.specs.LinkHalves.{OutState, InState}
use Rattle.prpc_frame.specs.declared.frame.Frame.{Frame}
use Rattle.corr_core.specs.declared.marks.Note.{Note}
use Rattle.corr_core.specs.declared.marks.Noted.{Noted}
use Rattle.corr_core.specs.declared.marks.Plan as ids
use Rattle.corr_core.specs.declared.marks.View.{View}
use Rattle.id_rule.specs.LawfulIdTable.{call_index, notes_of}
use Rattle.corr_id.specs.ClosingIdLists.{Closing}
use Rattle.corr_id.proofs.IdSeatSplits.{notes_append, total_append}
use Rattle.sock_message.specs.Asked.{Asked}
use Rattle.call_deeds.specs.Below.RpcClient.Told.{Told}
use Rattle.call_deeds.specs.Below.RpcReader.ReaderBooks.{Books}
use Rattle.call_deeds.specs.Below.RpcReader.CallsLeftAfterReading.{RestEnded}
use Rattle.call_deeds.specs.Below.CallRun.ReadersOfLinks.{LinkReader, nothing_read, IsReader, AreReaders}
use Rattle.call_deeds.specs.call_places.specs.ClientNotesCounted.{makes, HaveNotesOf}
use Rattle.call_deeds.specs.call_places.proofs.ClientPlaces.{total_map}
use Rattle.call_deeds.specs.call_places.proofs.Reader.{MadeNone, none_reads}
use Rattle.call_deeds.specs.call_places.proofs.Spans.{rest_reads}
use Rattle.call_deeds.specs.call_places.proofs.NoteWeights.{flat_total}
use Rattle.call_deeds.specs.call_places.specs.sock_deeds.proofs.Flats.{append_first}
use Rattle.call_told.specs.TellersOfCallEnds.{AreGiven, at_end, ToldFrom, TellsFrom, HaveAnswers, IsGiver, AreAnsweredBy}
use Rattle.call_told.specs.ToldOnce.{ToldOnce}
use Rattle.call_told.specs.Least.{HasBegun, IsEndTold}
use Rattle.call_told.proofs.ListElementsByPlace.{all_both, all_then, all_two, all_there, all_behind, all_mapped, of_mapped, all_flat}
use Rattle.call_told.proofs.NotesStay.{Later, NotesIn, later_in, in_then, all_in, told_in}
use Rattle.call_told.proofs.CallsEndedBehindLinks.{rest_later, rest_told}
use Rattle.call_told.proofs.IdsMadeBySeats.{AllMade, FitsMade, later_made, all_made, events_made}
use Rattle.call_told.proofs.ToldAnswers.{IsAskedIn, Answers, AllHave, told_answer, tells_answers}
use Rattle.call_told.proofs.Backs.{end_at, mapped}
use Rattle.call_told.proofs.GrowingCallNotes.{own_at}
use Rattle.call_told.proofs.Balance.{AreBalanced, balanced_both}
use Rattle.call_told.proofs.ToldOnce.{told_once}
use Rattle.call_told.proofs.Least.{TellEnds, tell_both, AllEnded, told_least}
use Rattle.call_told.proofs.ToldByReaders.{IsUnread, ReadBeside, AllRead, total_none, each_read, readers_gave, readers_told, told_gave, readers_none, readers_made, readers_own, readers_balanced, readers_tell}
use Rattle.sock_words.specs.Totals.{total}

-- ## Seats

abbrev pub IdSeat : Type 0
IdSeat = Seat (Option Asked) (View Asked)

abbrev pub view_of : IdSeat → View Asked
view_of s = s.me.0

flat_mapped : {A B C : Type 0} (f : A → B) (g : B → List C) (xs : List A) → flat_map (λ x. g (f x)) xs ≡ flat_map g (map f xs)
flat_mapped f g [] = refl
flat_mapped f g (x ∷ xs) = ap (λ l. g (f x) ++ l) (flat_mapped f g xs)

-- two lists put together, of which the second is mapped before
mapped_both : {A B C : Type 0} (f : B → C) (h : A → B) (ys : List B) (xs : List A) → map f (ys ++ map h xs) ≡ map f ys ++ map (λ x. f (h x)) xs
mapped_both f h [] [] = refl
mapped_both f h [] (x ∷ xs) = ap (λ l. f (h x) ∷ l) (mapped_both f h [] xs)
mapped_both f h (y ∷ ys) xs = ap (λ l. f y ∷ l) (mapped_both f h ys xs)

flat_notes : {X : Type 0} (i : ℕ) (f : Note Asked → ℕ) (h : X → List (Noted Asked)) (xs : List X) → total f (notes_of i (flat_map h xs)) ≡ total (λ (x : X). total f (notes_of i (h x))) xs
flat_notes i f h [] = refl
flat_notes i f h (x ∷ xs) =
    let a = ap (total f) (notes_append i (h x) (flat_map h xs)) in let b = total_append f (notes_of i (h x)) (notes_of i (flat_map h xs)) in let c = flat_notes i f h xs in omega arith

module _ {O : Type 0} {g : Ghosts O} (p : Plan) (q : ids.Plan) (calls opens : List ℕ) (readers : List (LinkReader g)) (are : AreReaders p q calls 0 opens readers) where
  abbrev pub told_beside : List (List Told)
  told_beside = map (λ (x : LinkReader g). x.books.told) readers

  abbrev pub seats_beside : List IdSeat
  seats_beside = map (λ (x : LinkReader g). x.ids) readers

  abbrev pub views_beside : List (View Asked)
  views_beside = map (λ (x : LinkReader g). x.ids.me.0) readers

  read_all : AllRead p q calls readers
  read_all = each_read p q calls 0 opens readers are

  pub beside : ReadBeside q.slots readers
  beside = readers_told p q calls readers read_all

  abbrev pub gave_beside : ℕ → List ℕ
  gave_beside = beside.gave

  -- each link what its reader met, and then what that threw away
  pub gave_is : gave_beside ≡ readers_gave p q calls readers (each_read p q calls 0 opens readers are)
  unfolding beside read_all
  gave_is = told_gave p q calls readers read_all

  -- what they keep are responses that links gave
  pub early_given : AreGiven (length readers) gave_beside (flat_map (λ (x : LinkReader g). x.books.early) readers)
  early_given = all_flat (λ (x : LinkReader g). x.books.early) _ readers
      (all_then (λ (x : LinkReader g). TellsFrom q.slots (length readers) gave_beside nothing_read x.books) (λ (x : LinkReader g). AreGiven (length readers) gave_beside x.books.early) readers (λ x t. t.early) beside.tells)

  module _ (clients : List IdSeat) (main last : Books) (notes : main.view.notes ≡ flat_map (λ (s : IdSeat). s.me.0.notes) (clients ++ seats_beside)) (rest : RestEnded q EEOF calls main last) where
    abbrev all_notes : List (Noted Asked)
    all_notes = flat_map (λ (s : IdSeat). s.me.0.notes) (clients ++ seats_beside)

    rest_is_later : Later main.view last.view
    rest_is_later = rest_later q EEOF calls main last (at_end refl) rest

    all_behind_in : NotesIn all_notes last.view.notes
    all_behind_in = subst (λ (l : List (Noted Asked)). NotesIn l last.view.notes) notes (later_in main.view last.view rest_is_later)

    readers_in : AllByRecursion (λ (x : LinkReader g). NotesIn x.books.view.notes last.view.notes) readers
    readers_in = all_two (λ (x : LinkReader g). NotesIn x.ids.me.0.notes all_notes) (λ (x : LinkReader g). IsReader p q calls x) (λ (x : LinkReader g). NotesIn x.books.view.notes last.view.notes) readers
        (λ x n is. subst (λ (v : View Asked). NotesIn v.notes last.view.notes) is.view_is (in_then x.ids.me.0.notes all_notes last.view.notes n all_behind_in))
        (of_mapped (λ (x : LinkReader g). x.ids) (λ (s : IdSeat). NotesIn s.me.0.notes all_notes) readers
        (all_behind (λ (s : IdSeat). NotesIn s.me.0.notes all_notes) clients seats_beside (all_in (λ (s : IdSeat). s.me.0.notes) (clients ++ seats_beside))))
        read_all

    -- what each reader told is the end of a call, by the notes of all
    pub told_from : AllByRecursion (λ (ts : List Told). AllByRecursion (ToldFrom q.slots (length readers) gave_beside last.view) ts) told_beside
    told_from = all_mapped (λ (x : LinkReader g). x.books.told) (λ (ts : List Told). AllByRecursion (ToldFrom q.slots (length readers) gave_beside last.view) ts) readers
        (all_two (λ (x : LinkReader g). TellsFrom q.slots (length readers) gave_beside nothing_read x.books) (λ (x : LinkReader g). NotesIn x.books.view.notes last.view.notes)
        (λ (x : LinkReader g). AllByRecursion (ToldFrom q.slots (length readers) gave_beside last.view) x.books.told) readers
        (λ x t n. subst (λ (ts : List Told). AllByRecursion (ToldFrom q.slots (length readers) gave_beside last.view) ts) (sym t.told)
        (all_then (ToldFrom q.slots (length readers) gave_beside x.books.view) (ToldFrom q.slots (length readers) gave_beside last.view) t.more (told_in q.slots (length readers) gave_beside x.books.view last.view n) t.each))
        beside.tells readers_in)

    -- and so is what main told behind them, which begins with the responses that they keep
    pub rest_from : main.early ≡ flat_map (λ (x : LinkReader g). x.books.early) readers → TellsFrom q.slots (length readers) gave_beside main last
    rest_from early = rest_told (length readers) gave_beside q EEOF calls main last (at_end refl) rest (subst (λ (l : List Frame). AreGiven (length readers) gave_beside l) (sym early) early_given)

    -- what is known of all ids that the clients made is known of all that were made
    pub made_beside : (Q : ℕ → Asked → Type 0) → AllMade Q (flat_map (λ (s : IdSeat). s.me.0.notes) clients) → AllMade Q last.view.notes
    made_beside Q made = all_made Q last.view.notes (later_made Q main.view last.view rest_is_later (events_made Q main.view.notes (subst (λ (l : List (Noted Asked)). AllMade Q l) (sym notes) of_all)))
      where
        of_readers : AllMade Q (flat_map (λ (s : IdSeat). s.me.0.notes) seats_beside)
        of_readers = subst (λ (l : List (Noted Asked)). AllMade Q l) (flat_mapped (λ (x : LinkReader g). x.ids) (λ (s : IdSeat). s.me.0.notes) readers)
            (all_flat (λ (x : LinkReader g). x.ids.me.0.notes) (λ (n : Noted Asked). FitsMade Q n.note) readers (readers_made p q calls readers read_all Q))

        of_both : (xs : List IdSeat) → AllMade Q (flat_map (λ (s : IdSeat). s.me.0.notes) xs) → AllMade Q (flat_map (λ (s : IdSeat). s.me.0.notes) (xs ++ seats_beside))
        of_both [] h = of_readers
        of_both (x ∷ xs) h = let k = parted x.me.0.notes (flat_map (λ (s : IdSeat). s.me.0.notes) xs) h in
            all_both (λ (n : Noted Asked). FitsMade Q n.note) x.me.0.notes (flat_map (λ (s : IdSeat). s.me.0.notes) (xs ++ seats_beside)) k.0 (of_both xs k.1)
          where
            parted : (ns ms : List (Noted Asked)) → AllMade Q (ns ++ ms) → AllMade Q ns × AllMade Q ms
            parted [] ms l = (tt, l)
            parted (n ∷ ns) ms l = let k = parted ns ms l.1 in ((l.0, k.0), k.1)

        of_all : AllMade Q all_notes
        of_all = of_both clients made

    -- the notes are at least those of the clients, who made all ids
    pub have_beside : HaveNotesOf (map view_of clients) last.view.notes
    have_beside = record {
      all = λ i f. (
          let a = total_map (λ (v : View Asked). total f (notes_of i v.notes)) view_of clients in
          let b = total_append (λ (s : IdSeat). total f (notes_of i s.me.0.notes)) clients seats_beside in
          let c = flat_notes i f (λ (s : IdSeat). s.me.0.notes) (clients ++ seats_beside) in
          let d = ap (λ (l : List (Noted Asked)). total f (notes_of i l)) notes in
          let e = (rest_reads none_reads EEOF q calls main last rest).grows i f in omega arith
          );
      made = λ o. (
          let a = total_map (λ (v : View Asked). total (makes o) v.notes) view_of clients in
          let b = total_append (λ (s : IdSeat). total (makes o) s.me.0.notes) clients seats_beside in
          let c = flat_total (makes o) (λ (s : IdSeat). s.me.0.notes) (clients ++ seats_beside) in
          let d = ap (total (makes o)) notes in
          let e = (rest_reads none_reads EEOF q calls main last rest).made o in
          let n = none_made o in omega arith
          );
    }
      where
        none_made : (o : ℕ) → total (λ (s : IdSeat). total (makes o) s.me.0.notes) seats_beside ≡ 0
        none_made o = total_none (λ (x : LinkReader g). x.ids) (λ (s : IdSeat). total (makes o) s.me.0.notes) readers
            (all_then (λ (x : LinkReader g). MadeNone nothing_read.view x.ids.me.0) (λ (x : LinkReader g). total (makes o) x.ids.me.0.notes ≡ 0) readers (λ x m. m.made o) (readers_none p q calls readers read_all))

    -- once the table of ids was closed
    module _ (early : main.early ≡ flat_map (λ (x : LinkReader g). x.books.early) readers) (none_told : main.told ≡ []) (words : List ℕ) (closing : Closing q last.view.notes last.view.kept words) where
      module _ (ops : List Operation) (made : AllMade (IsAskedIn ops) (flat_map (λ (s : IdSeat). s.me.0.notes) clients)) where
        -- each answer that a reader told comes from a response that a link gave
        pub readers_have : AllByRecursion (AllHave (length readers) gave_beside ops) told_beside
        readers_have = all_then (λ (ts : List Told). AllByRecursion (ToldFrom q.slots (length readers) gave_beside last.view) ts) (AllHave (length readers) gave_beside ops) told_beside
            (λ ts h. all_then (ToldFrom q.slots (length readers) gave_beside last.view) (Answers (length readers) gave_beside ops) ts
            (told_answer (length readers) gave_beside ops q last.view last.view.kept words closing (made_beside (IsAskedIn ops) made)) h)
            told_from

        -- and each that main told behind them
        pub rest_has : AllHave (length readers) gave_beside ops last.told
        rest_has = tells_answers (length readers) gave_beside ops q last.view last.view.kept words closing (made_beside (IsAskedIn ops) made) main last none_told refl (rest_from early)

        pub beside_answered : AllByRecursion (AllHave (length readers) gave_beside ops) (told_beside ++ last.told ∷ [])
        beside_answered = all_both (AllHave (length readers) gave_beside ops) told_beside (last.told ∷ []) readers_have (rest_has, tt)

      -- all that tell of ends: clients, readers, and main behind them
      module _ (ended : List (List Told)) (kept : main.view.kept ≡ flat_map (λ (s : IdSeat). s.me.0.kept) (clients ++ seats_beside)) (calm : last.starved ≡ false) (balanced : AreBalanced ended (map view_of clients)) where
        abbrev pub all_views : List (View Asked)
        all_views = map view_of clients ++ views_beside

        views_of : map view_of (clients ++ seats_beside) ≡ all_views
        views_of = mapped_both view_of (λ (x : LinkReader g). x.ids) clients readers

        balanced_beside : AreBalanced (ended ++ told_beside) all_views
        balanced_beside = balanced_both ended told_beside (map view_of clients) views_beside balanced (readers_balanced p q calls readers read_all)

        notes_are : main.view.notes ≡ flat_map (λ (v : View Asked). v.notes) all_views
        notes_are = notes ∙ (flat_mapped view_of (λ (v : View Asked). v.notes) (clients ++ seats_beside) ∙ ap (flat_map (λ (v : View Asked). v.notes)) views_of)

        -- no call is told twice
        pub once_beside : ToldOnce q.slots ((ended ++ told_beside) ++ last.told ∷ [])
        once_beside = told_once q calls EEOF (ended ++ told_beside) all_views main last last.view.kept words balanced_beside notes_are none_told rest calm closing

        module _ (tell : TellEnds ended (map view_of clients)) where
          -- main ended behind them what was left of calls
          pub ended_beside : AllEnded q calls EEOF (ended ++ told_beside) all_views main last words
          ended_beside = record {
            balanced = balanced_beside;
            tell = tell_both ended told_beside (map view_of clients) views_beside tell (readers_tell p q calls readers read_all);
            notes = notes_are;
            kept = kept ∙ (flat_mapped view_of (λ (v : View Asked). v.kept) (clients ++ seats_beside) ∙ ap (flat_map (λ (v : View Asked). v.kept)) views_of);
            none_told = none_told;
            rest = rest;
            calm = calm;
            closing = closing;
          }

          -- the end of each call that a client began is told
          pub least_beside : (k : ℕ) (v : View Asked) (operation id j : ℕ) → get_elem? (map view_of clients) k ≡ some v → HasBegun q operation id v → total (λ (w : View Asked). total (own_at (call_index q operation)) w.kept) (map view_of clients) ≤ 1 → slice_get calls j ≡ Some operation
              → IsEndTold operation id ((ended ++ told_beside) ++ last.told ∷ [])
          least_beside k v operation id j at begun few listed =
              let a = total_append (λ (w : View Asked). total (own_at (call_index q operation)) w.kept) (map view_of clients) views_beside in
              let b = readers_own p q calls readers read_all (call_index q operation) in
              (told_least q calls EEOF (ended ++ told_beside) all_views main last words ended_beside k v operation id (append_first (map view_of clients) views_beside k v at) begun (omega arith) j listed).1

  -- ## What the links that are given back tell of the answers

  module _ {I P : Type 0} (out : O → OutState) (inn : I → InState) (ends : List (Ends O I P)) (halves : map (λ (x : LinkReader g). x.behind) readers ≡ map (λ (e : Ends O I P). inn e.inn) ends) (unread : AllByRecursion IsUnread readers) where
    giver_beside : (k : ℕ) (y : LinkEnd) → slice_get (map (end_at out inn) ends) k ≡ Some y → IsGiver gave_beside k y
    giver_beside k y at =
        let m = mapped (end_at out inn) ends k y at in
        let half : slice_get (map (λ (e : Ends O I P). inn e.inn) ends) k ≡ Some (inn m.0.inn) = slice_get-map (λ (e : Ends O I P). inn e.inn) ends k ∙ ap (option_map (λ (e : Ends O I P). inn e.inn)) m.1 in
        let x = mapped (λ (x : LinkReader g). x.behind) readers k (inn m.0.inn) (ap (λ (l : List InState). slice_get l k) halves ∙ half) in
        let gives = subst (λ (s : InState). IfSome s.gave_bytes (λ bytes. bytes ≡ gave_beside k) × (length (gave_beside k) ≡ s.gave)) x.2 (beside.gives k x.0 x.1 (all_there IsUnread readers k x.0 unread x.1)) in
        subst (IsGiver gave_beside k) m.2 record { gives = gives.0; counted = gives.1 }

    pub answered_beside : (ops : List Operation) (outcomes : List (Option Outcome)) → HaveAnswers (length readers) gave_beside ops outcomes → AreAnsweredBy ops outcomes (map (end_at out inn) ends)
    answered_beside ops outcomes h = record {
      gave = gave_beside;
      givers = giver_beside;
      each = subst (λ (n : ℕ). HaveAnswers n gave_beside ops outcomes) (sym as_many) h;
    }
      where
        as_many : length (map (end_at out inn) ends) ≡ length readers
        as_many = length-map ends (end_at out inn) ∙ (sym (length-map ends (λ (e : Ends O I P). inn e.inn)) ∙ (ap length (sym halves) ∙ length-map readers (λ (x : LinkReader g). x.behind)))

    pub answered_gave : (ops : List Operation) (outcomes : List (Option Outcome)) (h : HaveAnswers (length readers) gave_beside ops outcomes) → (answered_beside ops outcomes h).gave ≡ gave_beside
    unfolding answered_beside
    answered_gave ops outcomes h = refl
