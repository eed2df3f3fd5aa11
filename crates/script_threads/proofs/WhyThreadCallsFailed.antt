-- Why each call of a script failed whose links were read beside its clients, and why each attempt of one behind the first was made.
use Rattle.std.proofs.Common.{◌≡◌, ℕ, suc, false, ◌+◌, ◌*◌, ◌<◌, ◌≤◌, ◌⊎◌, inl, inr, List, [], ◌∷◌, ◌++◌, length, map, replicate, slice_get, Contains, true, Some, None, Ok, refl, sym, ap, ◌∙◌, subst, arith}
use Rattle.std.specs.Prelude.{IfSome}
use Rattle.std.specs.List.{AllByRecursion, flat_map}
use Rattle.std.proofs.lemmas.List.{map-append, length-map}
use Rattle.std.proofs.lemmas.Option.{none-some, slice_get_within}
use mathlib.Core.Option.{some}
use lib.ListN.{get_elem?}
use Rattle.sock_io.specs.declared.link.Out.{Ghosts}
use Rattle.sock_io.specs.declared.link.Ends.{Ends}
use Rattle.sock_io.specs.LinkHalves.{OutState, InState, end_of}
use Rattle.sock_words.specs.ErrorCodes.{EEOF, ERESPONSE}
use Rattle.sock_words.specs.declared.outcome.Outcome.{Outcome}
use Rattle.sock_words.specs.declared.outcome.Outcome.TheVariants.{CallFailed}
use Rattle.brpc_model.specs.Items.{Item}
use Rattle.brpc_model.specs.ReturnedLink.{LinkEnd}
use Rattle.brpc_model.specs.Script.{script_of}
use Rattle.brpc_model.specs.LinkFailureCauses.{HasFault}
use Rattle.brpc_model.specs.Frame.{Frame}
use Rattle.brpc_model.specs.FrameStream.{stream}
use Rattle.prpc_frame.specs.declared.frame.Frame.{Frame as Answer}
use Rattle.corr_core.specs.IdSlotLaw.{is_ended}
use Rattle.corr_core.specs.IdSlotWord.{Parts, code_of}
use Rattle.corr_core.specs.declared.marks.Kept.{Kept}
use Rattle.corr_core.specs.declared.marks.Note.{Note}
use Rattle.corr_core.specs.declared.marks.Noted.{Noted}
use Rattle.corr_core.specs.declared.marks.View.{View}
use Rattle.script_parts.specs.id_rule.specs.LawfulIdTable.{at_index, notes_of as notes_in}
use Rattle.corr_core.proofs.NoteSums.{only-at}
use Rattle.corr_id.proofs.IdSeatSplits.{total_append}
use Rattle.sock_message.specs.Asked.{Asked, name_of}
use Rattle.seat_programs.specs.declared.task.Op.{Op}
use Rattle.seat_programs.specs.declared.task.Op.TheVariants as ops
use Rattle.seat_programs.specs.declared.task.Task.{Task}
use Rattle.seat_programs.specs.Tasks.{plan_of, opens, calls}
use Rattle.seat_programs.specs.Explained.{IsTask, Became}
use Rattle.seat_programs.specs.ExplainedCalls.{Fixed, Order, GaveFault, FailedBy, WhyAgain, WhyExpire}
use Rattle.rpc_client.specs.declared.acting.Told.{Told}
use Rattle.rpc_reader.specs.ReaderBooks.{id_of}
use Rattle.call_run.specs.ReadersOfLinks.{LinkReader, IsReader}
use Rattle.call_run.specs.Threads.{Thread}
use Rattle.script_parts.specs.script_facts.proofs.ScriptSizes.{keeps_limits}
use Rattle.script_parts.specs.report_fits.specs.ScriptLinkEnds.{EndsEarly}
use Rattle.script_parts.specs.call_whys.specs.call_deeds.proofs.RunsAsDeeds.{seats_are, read_beside, early_with}
use Rattle.script_parts.specs.call_whys.specs.call_places.proofs.IdsOfRetries.{IsIdOf, some_made}
use Rattle.script_parts.specs.call_whys.specs.call_places.proofs.NoteWeights.{term, flat_total}
use Rattle.script_parts.specs.call_whys.specs.call_places.proofs.ClientPlaces.{Client, view_of as ids_of}
use Rattle.script_parts.specs.call_whys.specs.call_places.proofs.CallPlaceOrders.{all as all_clients, views_are}
use Rattle.script_parts.specs.call_whys.specs.call_told.specs.TellersOfCallEnds.{IsGiven, AreGiven, IsOwn}
use Rattle.script_parts.specs.call_whys.specs.call_told.proofs.ToldBesideClients.{gave_is, early_given}
use Rattle.script_parts.specs.call_whys.specs.call_told.proofs.ListElementsByPlace.{all_at}
use Rattle.script_parts.specs.call_whys.specs.call_told.proofs.ToldByReaders.{AllRead, each_read, reader_gave}
use Rattle.script_parts.specs.call_whys.specs.call_told.proofs.RestingCallsEnded.{is_word}
use Rattle.script_parts.specs.call_whys.specs.expire_told.specs.ExpireOutcomesSaid.{WhyExpired}
use Rattle.script_parts.specs.callless_fits.specs.sock_deeds.specs.SocketTableRun.{IsOperation, seat_of, sits_of, DeedRun}
use Rattle.script_parts.specs.callless_fits.specs.sock_deeds.proofs.OrdersOfDeeds.{orders}
use Rattle.script_parts.specs.callless_fits.specs.sock_deeds.proofs.ListPlaces.{place_there, map_there, map_back, to_slice, to_elem}
use Rattle.script_parts.specs.callless_fits.specs.sock_deeds.proofs.WholeSocketDeeds.{log_accepted}
use Rattle.script_parts.specs.callless_fits.specs.sock_deeds.proofs.Flats.{flat_there}
use Rattle.script_parts.specs.callless_fits.specs.sock_deeds.proofs.FailedLifeCodes.{StoredByReader}
use Rattle.script_parts.specs.attempts_told.specs.CountedAttempts.{last_attempt}
use Rattle.script_parts.specs.failed_reasons.specs.CallsEndedByReading.{ReadingEnded, GaveNoResponse, EndedByReading, AtFault, AtEnd, AtFaultDrop, AtEndDrop, LeftOver, LeftAt}
use Rattle.script_parts.specs.failed_told.proofs.WhyAttemptedAgain.{again_with}
use Rattle.script_parts.specs.failed_ends.proofs.Alone.{NoResponse, told_alone, waits_alone}
use Rattle.script_parts.specs.failed_told.proofs.ByLinks.{IsPosted, LockOf, told_why, by_reader}
use Rattle.script_parts.specs.failed_reasons.proofs.FailedAttemptCodes.{IsReadCode}
use Rattle.script_parts.specs.failed_told.proofs.WhyMessagesDropped.{drops_with, expires_with}
use Rattle.script_parts.specs.failed_told.proofs.WhyClientCallsFailed.{TellsDrops, ends_with}
use Rattle.script_parts.specs.failed_reasons.proofs.CodesOfReadingEnds.{ReadEnded, reader_read, reader_posts, ToldBy, reader_tells}
use Rattle.script_parts.specs.failed_told.proofs.WhereLastAttemptWent.{left_at}
use Rattle.script_parts.specs.failed_reasons.proofs.LeftOver.{MoreNotes, IsLast, rest_last, over_last}
use Rattle.script_parts.specs.failed_told.proofs.LinkEnds.{EndedHere, DroppedHere, QueuedHere, told_on}
use Rattle.script_parts.specs.failed_reasons.proofs.ReaderPosts.{IsPost, rest_stays}
use Rattle.script_parts.specs.failed_reasons.proofs.Premises.{asked_so}
use Rattle.script_parts.specs.failed_ends.proofs.ReaderStores.{setter}
use Rattle.script_parts.specs.failed_reasons.proofs.ErrorsQueuedByReading.{notes_flat, rest_queues, readers_queue, queued_beside, others_beside}
use Rattle.script_parts.specs.failed_told.proofs.LinkSilentOnCall.{silent}
use Rattle.script_parts.specs.failed_reasons.proofs.Tells.{ToldEnd, IsPostFor, rest_step}
use Rattle.script_parts.specs.failed_ends.proofs.Unmet.{HasMet, has_asked, reader_waits, reader_ends, AnyMet, any_asked, any_at, HasTaken, rest_ends}
use Rattle.script_parts.specs.failed_reasons.proofs.NotedErrorsInViews.{Stays, queued_in}
use Rattle.script_parts.specs.call_whys.specs.call_told.proofs.EndedCallsUnanswered.{CodeEnd}
use Rattle.script_parts.specs.call_whys.specs.call_told.specs.ToldOnce.{ends_of}
use Rattle.rpc_reader.specs.PostingAtReadingEnd.{call_at}
use Rattle.sock_words.specs.PackedWords.{at_word_link}
use Rattle.std.proofs.lemmas.Nat.{div-add-mod'}
use Rattle.script_parts.specs.SeatsOfIdTable.{IdSeat}
use Rattle.script_parts.proofs.ScriptClientsTold as clients
use Rattle.script_parts.proofs.WhyScriptCallsFailed.{fails_within, same_failure, not_own}
use Rattle.script_parts.proofs.SortNumberBounds.{few_calls}
use Rattle.script_parts.proofs.ClientSayingsByNumber.{told_each, none_told}
use Rattle.script_parts.proofs.ReportShowsCallsOnce.{view_of, flat_mapped}
use Rattle.script_parts.proofs.SocketsOfCallScript.{map_twice}
use Rattle.script_parts.proofs.Tellers.{split, only_one, IsEndTold}
use Rattle.script_parts.proofs.Tellers as tellers
use Rattle.script_threads.specs.ServedScriptTold.{IsThreadsRun}
use Rattle.script_threads.proofs.Speaking.{parts_of}
use Rattle.script_threads.proofs.ReadingEndedEarly.{ShowsEarly, ShowsEnd, early_shown, reader_end, HasPlace, place_of}
use Rattle.script_threads.proofs.LeftByScriptThreads.{all_seats, early_of, notes_of}
use Rattle.script_threads.proofs.AttemptsOnThreads as attempts
use Rattle.script_threads.proofs.SocketsOfReadLinks as sockets
use Rattle.script_threads.proofs.ClientsTellingOperations as telling
use Rattle.script_threads.proofs.WideCalls.{failure_still, left_still, again_still, expire_still}
use Rattle.sock_words.specs.Totals.{total}

-- a frame that is kept early by one of these is among those of all
early_at : {O : Type 0} {g : Ghosts O} (xs : List (LinkReader g)) (j n : ℕ) (x : LinkReader g) (f : Answer) → get_elem? xs j ≡ some x → get_elem? x.books.early n ≡ some f → (m : ℕ) × (get_elem? (flat_map (λ (fs : List Answer). fs) (map (λ (y : LinkReader g). y.books.early) xs)) m ≡ some f)
early_at {g = g} xs j n x f e at = flat_there (λ (fs : List Answer). fs) (map (λ (y : LinkReader g). y.books.early) xs) j x.books.early n f (map_there (λ (y : LinkReader g). y.books.early) xs j x e) at

all_places : {A : Type 0} (Q : A → Type 0) (xs : List A) → ((j : ℕ) (x : A) → get_elem? xs j ≡ some x → Q x) → AllByRecursion Q xs
all_places Q [] h = tt
all_places Q (x ∷ xs) h = (h 0 x refl, all_places Q xs (λ j y at. h (suc j) y at))

module _ (P : Type 0) {O I : Type 0} (g : Ghosts O) (out : O → OutState) (inn : I → InState) (bytes : List ℕ) (script : List Item) (reads : script_of bytes ≡ Ok script) (text : List ℕ) (links : List LinkEnd) (r : IsThreadsRun P g out inn script text links) where
  open parts_of r use {p, q, all, readers, main, last, outcomes}

  abbrev slots : ℕ
  slots = length (calls script)

  abbrev notes : List (Noted Asked)
  notes = last.notes

  abbrev own_ids : List (View Asked)
  own_ids = map view_of r.ids

  abbrev drun : DeedRun g out p all outcomes r.places r.left.vrefs r.left.outs
  drun = sockets.run P g out inn bytes script reads text links r

  pub all_read : AllRead p q (calls script) readers
  all_read = each_read p q (calls script) 0 (opens script) readers r.left.readers_are

  -- ## Codes

  abbrev noted : View Asked → List (Noted Asked)
  noted v = v.notes

  -- the seat that took in all has what the clients noted, and the readers
  notes_are : r.rest.main.me.0.notes ≡ flat_map noted (own_ids ++ map (λ (x : LinkReader g). x.ids.me.0) readers)
  notes_are =
      let ids : LinkReader g → IdSeat = λ x. x.ids in
      notes_of r.left r.rest ∙ (flat_mapped view_of noted (all_seats r.left) ∙ ap (flat_map noted) (map-append view_of r.ids (map ids readers) ∙ ap (λ (l : List (View Asked)). own_ids ++ l) (sym (map_twice ids view_of readers))))

  -- whoever ended the calls that were left queued nothing
  rest_quiet : Stays main.view last
  rest_quiet = rest_stays EEOF q (calls script) main r.rest.last r.rest.rest

  -- what is noted as queued a client queued, or it has a code of whoever read the links
  pub others : (i first e : ℕ) → 0 < queued_in i first e notes → (0 < total (λ (v : View Asked). queued_in i first e v.notes) own_ids) ⊎ IsReadCode (code_of e)
  others = others_beside own_ids (map (λ (x : LinkReader g). x.ids.me.0) readers) r.rest.main.me.0 last notes_are (readers_queue p q (calls script) readers all_read) (rest_queues EEOF q (calls script) main r.rest.last r.rest.rest)

  -- ## Readers

  abbrev HasPlaceHere : ℕ → LinkReader g → Type 0
  HasPlaceHere j x = HasPlace p q (calls script) 0 (opens script) readers r.left.readers_are j x

  at_place : (j : ℕ) (x : LinkReader g) → get_elem? readers j ≡ some x → HasPlaceHere j x
  at_place = place_of p q (calls script) 0 (opens script) readers r.left.readers_are

  -- and what it met one of them did
  met_place : (j : ℕ) (x : LinkReader g) → get_elem? readers j ≡ some x → (h : HasPlaceHere j x) × ((f : Answer) → HasMet p q (calls script) x h.is f → AnyMet p q (calls script) readers all_read f)
  unfolding all_read
  met_place j x at = let h = at_place j x at in let m = any_at p q (calls script) readers all_read j x at in (record { is = m.is; link_is = h.link_is; operation = h.operation; gave_is = m.gave_is }, m.met)

  -- all notes of a reader are among those of all, and all words that it keeps in mind
  reader_notes : (j : ℕ) (x : LinkReader g) → get_elem? readers j ≡ some x → (slot : ℕ) (f : Note Asked → ℕ) → total f (notes_in slot x.ids.me.0.notes) ≤ total f (notes_in slot notes)
  reader_notes j x at slot f =
      let h : View Asked → ℕ = λ v. total f (notes_in slot v.notes) in let views : List (View Asked) = map (λ (y : LinkReader g). y.ids.me.0) readers in
      let a = term h views j x.ids.me.0 (map_there (λ (y : LinkReader g). y.ids.me.0) readers j x at) in
      let b = total_append h own_ids views in let c = notes_flat slot f (own_ids ++ views) in let d = ap (λ (l : List (Noted Asked)). total f (notes_in slot l)) notes_are in let e = rest_quiet.later.notes slot f in omega (arith, a, b, c, d, e)

  reader_keeps : (j : ℕ) (x : LinkReader g) → get_elem? readers j ≡ some x → (f : Kept → ℕ) → total f x.ids.me.0.kept ≤ total f last.kept
  reader_keeps j x at f =
      let h : View Asked → ℕ = λ v. total f v.kept in let seats_ : List IdSeat = map (λ (y : LinkReader g). y.ids) readers in
      let a = term h (map view_of seats_) j x.ids.me.0 (map_there view_of seats_ j x.ids (map_there (λ (y : LinkReader g). y.ids) readers j x at)) in
      let b = total_append h own_ids (map view_of seats_) in let c = flat_total f (λ (v : View Asked). v.kept) (own_ids ++ map view_of seats_) in
      let d = ap (total f) (telling.taken P g out inn bytes script reads text links r) in let e = rest_quiet.later.kept f in omega (arith, a, b, c, d, e)

  -- that it is a reader, and what it met one of them did
  abbrev pub AnyMetBy : ℕ → LinkReader g → Type 0
  AnyMetBy j y = (is : IsReader p q (calls script) y) × ((f : Answer) → HasMet p q (calls script) y is f → AnyMet p q (calls script) readers all_read f)

  -- whoever ends the calls that are left begins with the notes of each reader, and with the responses that it keeps
  has_taken : AllByRecursion (HasTaken p q (calls script) main) readers
  has_taken = all_places (HasTaken p q (calls script) main) readers (λ j x at. (
    (λ slot f. let w : View Asked → ℕ = λ v. total f (notes_in slot v.notes) in let views : List (View Asked) = map (λ (y : LinkReader g). y.ids.me.0) readers in
        let a = term w views j x.ids.me.0 (map_there (λ (y : LinkReader g). y.ids.me.0) readers j x at) in
        let b = total_append w own_ids views in let c = notes_flat slot f (own_ids ++ views) in let d = ap (λ (l : List (Noted Asked)). total f (notes_in slot l)) notes_are in
        let k = ap (λ (v : View Asked). total f (notes_in slot v.notes)) (at_place j x at).is.view_is in omega (arith, a, b, c, d, k)),
    (λ f n e. let w = early_at readers j n x f at e in (w.0, ap (λ (l : List (List Answer)). get_elem? (flat_map (λ (fs : List Answer). fs) l) w.0) (sym r.left.kept_is) ∙ w.1)),
  ))

  rest_calm : r.rest.last.starved ≡ true → ⊥
  rest_calm h = let z : true ≡ false = sym h ∙ r.rest.calm in absurd (cc)

  -- what it told with 1014
  pub rest_codes : AllByRecursion (CodeEnd q.slots (AnyMet p q (calls script) readers all_read) (any_asked p q (calls script) readers all_read) last) r.last
  rest_codes =
      let t = rest_ends p q (calls script) readers all_read main has_taken EEOF (calls script) r.rest.last rest_calm r.rest.rest in
      subst (AllByRecursion (CodeEnd q.slots (AnyMet p q (calls script) readers all_read) (any_asked p q (calls script) readers all_read) last)) (sym (r.rest.told_is ∙ t.told)) t.each

  -- so no link whose reading ended with 1014 gave a response of such a call
  pub rest_alone : (i id : ℕ) (x : Told) → get_elem? r.last i ≡ some x → x.outcome ≡ CallFailed id EEOF → (j : ℕ) (y : LinkReader g) → get_elem? readers j ≡ some y → (is : AnyMetBy j y) → ReadEnded p q (calls script) y is.0 EEOF → NoResponse q notes last.kept r.rest.words r.rest.closing id (reader_gave p q (calls script) y is.0)
  rest_alone i id x at outcome j y here is ended =
      told_alone q notes last.kept r.rest.words r.rest.closing p (calls script) y is.0 ended (λ slot f. let a = reader_notes j y here slot f in let b = ap (λ (v : View Asked). total f (notes_in slot v.notes)) is.0.view_is in omega (arith, a, b))
      (AnyMet p q (calls script) readers all_read) (any_asked p q (calls script) readers all_read) is.1 last (λ slot f. omega arith) id
      (all_at (CodeEnd q.slots (AnyMet p q (calls script) readers all_read) (any_asked p q (calls script) readers all_read) last) r.last i x rest_codes at id outcome)

  -- the link of a reader as it was given back
  record GivenBack (j : ℕ) (x : LinkReader g) : Type 0 where
    pub end : Ends O I P
    pub there : slice_get r.ends j ≡ Some end
    pub half : inn end.inn ≡ x.behind
    pub link : slice_get links j ≡ Some (end_of (out end.out) (inn end.inn))

  given_back : (j : ℕ) (x : LinkReader g) → get_elem? readers j ≡ some x → GivenBack j x
  given_back j x at =
      let f : Ends O I P → InState = λ e. inn e.inn in let h : Ends O I P → LinkEnd = λ e. end_of (out e.out) (inn e.inn) in
      let m = map_back f r.ends j x.behind (ap (λ (l : List InState). get_elem? l j) (sym r.halves_read) ∙ map_there (λ (y : LinkReader g). y.behind) readers j x at) in
      record { end = m.0; there = to_slice r.ends j m.0 m.1; half = m.2; link = ap (λ (l : List LinkEnd). slice_get l j) r.given_back ∙ to_slice (map h r.ends) j (h m.0) (map_there h r.ends j m.0 m.1) }

  bounds : (client number name code : ℕ) → IsOperation all outcomes client number (ops.Fail name code) → (1500 ≤ code) × (code ≤ 1999)
  bounds client number name code is = fails_within bytes script reads outcomes client record { number = number; op = ops.Fail name code } name code (subst (λ (l : List (List Task)). IsOperation l outcomes client number (ops.Fail name code)) r.left.tasks is) refl

  few_links : p.links < 65536
  few_links = let k = (keeps_limits bytes script reads).links in omega (arith, k)

  low_links : p.links ≤ 65536
  low_links = omega (arith, few_links)

  few_slots : slots ≤ 65536
  few_slots = let k = few_calls bytes script reads slots refl in omega (arith, k)

  as_many_readers : length readers ≡ p.links
  as_many_readers = let a = length-map readers (λ (x : LinkReader g). x.behind) in let b = length-map r.ends (λ (e : Ends O I P). inn e.inn) in let c = ap length r.halves_read in let d = sockets.as_many P g out inn bytes script reads text links r in omega (arith, a, b, c, d)

  few_readers : length readers ≤ p.links
  few_readers = let n = as_many_readers in omega (arith, n)

  -- ## Causes

  module _ (gave : ℕ → List ℕ) (is_gave : gave ≡ sockets.gave P g out inn bytes script reads text links r) where
    abbrev fixed_here : Fixed
    fixed_here = sockets.fixed P g out inn bytes script reads text links r

    abbrev orders_here : ℕ → Order
    orders_here = orders drun (sockets.differ P g out inn bytes script reads text links r)

    abbrev WhyRead : ℕ → ℕ → Asked → ℕ → ℕ → ℕ → Type 0
    WhyRead client number asked id code n = EndedByReading (plan_of script) all outcomes fixed_here gave orders_here links client number asked id code n

    abbrev FailedHere : ℕ → ℕ → Asked → ℕ → ℕ → Type 0
    FailedHere client number asked id code = FailedBy p all outcomes fixed_here gave orders_here client number asked id code (last_attempt notes number) ⊎ WhyRead client number asked id code (last_attempt notes number)

    seats : map seat_of drun.seats ≡ map (λ (x : Thread g). x.ended.seat) (r.left.ran.ran.main ∷ r.left.ran.ran.others)
    seats = seats_are r.left.ran outcomes (sockets.are P g out inn bytes script reads text links r) (sockets.may P g out inn bytes script reads text links r) (sockets.linked P g out inn bytes script reads text links r) (sockets.long P g out inn bytes script reads text links r) (sockets.reports P g out inn bytes script reads text links r)
        (sockets.main_later P g out inn bytes script reads text links r) (sockets.others_later P g out inn bytes script reads text links r)

    dropped : TellsDrops r.left.ran notes outcomes drun (sockets.differ P g out inn bytes script reads text links r) gave
    dropped = drops_with r.left.ran (sockets.are P g out inn bytes script reads text links r) (sockets.may P g out inn bytes script reads text links r) notes last.kept r.rest.words r.rest.closing (sockets.have P g out inn bytes script reads text links r) outcomes drun seats refl
        (sockets.differ P g out inn bytes script reads text links r) gave (sockets.low P g out inn bytes script reads text links r) low_links bounds

    -- ### By which link

    -- the reading of this link ended with this code
    abbrev Reads : ℕ → ℕ → Type 0
    Reads k code = ((code ≡ ERESPONSE) × HasFault (gave k)) ⊎ ((code ≡ EEOF) × ReadingEnded (plan_of script) all outcomes fixed_here gave orders_here links k)

    read_code : (k code : ℕ) → Reads k code → IsReadCode code
    read_code k code (inl f) = inr f.0
    read_code k code (inr e) = inl e.0

    -- what a reader's link gave
    its_bytes : (j : ℕ) (x : LinkReader g) (h : HasPlaceHere j x) → reader_gave p q (calls script) x h.is ≡ gave j
    its_bytes j x h = sym h.gave_is ∙ (ap (λ (f : ℕ → List ℕ). f j) (sym (gave_is p q (calls script) (opens script) readers r.left.readers_are)) ∙ ap (λ (f : ℕ → List ℕ). f j) (sym is_gave))

    its_link : (j : ℕ) (x : LinkReader g) → HasPlaceHere j x → x.link ≡ j
    its_link j x h = let l = h.link_is in omega (arith, l)

    read_by : (j : ℕ) (x : LinkReader g) → get_elem? readers j ≡ some x → (h : HasPlaceHere j x) (code : ℕ) → ReadEnded p q (calls script) x h.is code → Reads x.link code
    read_by j x at h code ended =
        let b = given_back j x at in let l = h.link_is in let link : j ≡ x.link = omega (arith, l) in
        let shows : ShowsEnd (gave j) x.behind code = subst (λ (bytes_ : List ℕ). ShowsEnd bytes_ x.behind code) (its_bytes j x h) (reader_end p q (calls script) x h.is code ended) in
        subst (λ (k : ℕ). Reads k code) link (elim shows [
          | inl f ↦ inl f
          | inr e ↦ inr (e.0, (end_of (out b.end.out) (inn b.end.inn), b.link, subst (λ (i : InState). IfSome i.closed (λ closed. closed ≡ true) ⊎ ShowsEarly (gave j) i) (sym b.half) e.1))
        ])

    -- these bytes have no response of the id; so a link that gave them gave none of its call
    abbrev NoResponseHere : ℕ → List ℕ → Type 0
    NoResponseHere id given = NoResponse q notes last.kept r.rest.words r.rest.closing id given

    abbrev GaveNone : Asked → ℕ → ℕ → Type 0
    GaveNone asked id k = GaveNoResponse (plan_of script) all outcomes fixed_here gave orders_here links asked id k

    gave_none : (number id : ℕ) → IsIdOf slots notes number id → (client : ℕ) (asked : Asked) → IsOperation all outcomes client number (ops.Call asked) → (k : ℕ) → NoResponseHere id (gave k) → GaveNone asked id k
    gave_none number id its client asked call k none_ = λ m frame given responds. silent r.left.ran (sockets.are P g out inn bytes script reads text links r) (sockets.may P g out inn bytes script reads text links r) notes last.kept r.rest.words r.rest.closing (sockets.have P g out inn bytes script reads text links r) outcomes (attempts.are_ids P g out inn bytes script reads text links r)
        number id its client asked call (gave k) none_ m frame given.1 responds.0 responds.1 responds.2

    -- the link that a word names gave no response of the call that the word names
    abbrev Alone : ℕ → Type 0
    Alone word = NoResponse q notes last.kept r.rest.words r.rest.closing (call_at word) (gave (at_word_link word))

    alone_by : (j : ℕ) (x : LinkReader g) (h : HasPlaceHere j x) (word id : ℕ) → at_word_link word ≡ x.link → id ≡ call_at word → NoResponse q notes last.kept r.rest.words r.rest.closing id (reader_gave p q (calls script) x h.is) → Alone word
    alone_by j x h word id link same none_ =
        let l = h.link_is in let at : j ≡ at_word_link word = omega (arith, l, link) in
        subst (λ (k : ℕ). NoResponse q notes last.kept r.rest.words r.rest.closing (call_at word) (gave k)) at
        (subst (λ (b : List ℕ). NoResponse q notes last.kept r.rest.words r.rest.closing (call_at word) b) (its_bytes j x h) (subst (λ (i : ℕ). NoResponse q notes last.kept r.rest.words r.rest.closing i (reader_gave p q (calls script) x h.is)) same none_))

    abbrev EndedLink : ℕ → Asked → ℕ → ℕ → Type 0
    EndedLink o asked id code = EndedHere r.left.ran (sockets.are P g out inn bytes script reads text links r) (sockets.may P g out inn bytes script reads text links r) notes last.kept r.rest.words r.rest.closing (sockets.have P g out inn bytes script reads text links r) (telling.keeps P g out inn bytes script reads text links r) outcomes
        (sockets.reports P g out inn bytes script reads text links r).said (telling.said_ended P g out inn bytes script reads text links r) (attempts.later P g out inn bytes script reads text links r) (attempts.are_ids P g out inn bytes script reads text links r).made drun seats refl (sockets.differ P g out inn bytes script reads text links r) gave (sockets.low P g out inn bytes script reads text links r) few_slots few_links bounds Reads Alone read_code o asked id code

    abbrev DroppedLink : ℕ → Asked → ℕ → Type 0
    DroppedLink o asked code = DroppedHere r.left.ran (sockets.are P g out inn bytes script reads text links r) (sockets.may P g out inn bytes script reads text links r) notes last.kept r.rest.words r.rest.closing (sockets.have P g out inn bytes script reads text links r) (telling.keeps P g out inn bytes script reads text links r) outcomes
        (sockets.reports P g out inn bytes script reads text links r).said (telling.said_ended P g out inn bytes script reads text links r) (attempts.later P g out inn bytes script reads text links r) (attempts.are_ids P g out inn bytes script reads text links r).made drun seats refl (sockets.differ P g out inn bytes script reads text links r) gave (sockets.low P g out inn bytes script reads text links r) few_slots few_links bounds Reads Alone read_code o asked code

    abbrev QueuedLink : ℕ → ℕ → ℕ → Type 0
    QueuedLink i first e = QueuedHere r.left.ran (sockets.are P g out inn bytes script reads text links r) (sockets.may P g out inn bytes script reads text links r) notes last.kept r.rest.words r.rest.closing (sockets.have P g out inn bytes script reads text links r) (telling.keeps P g out inn bytes script reads text links r) outcomes
        (sockets.reports P g out inn bytes script reads text links r).said (telling.said_ended P g out inn bytes script reads text links r) (attempts.later P g out inn bytes script reads text links r) (attempts.are_ids P g out inn bytes script reads text links r).made drun seats refl (sockets.differ P g out inn bytes script reads text links r) gave (sockets.low P g out inn bytes script reads text links r) few_slots few_links bounds Reads Alone read_code i first e

    -- a word that a reader found, with its link
    abbrev PostedLink : ℕ → ℕ → Type 0
    PostedLink word code = IsPosted r.left.ran (sockets.are P g out inn bytes script reads text links r) (sockets.may P g out inn bytes script reads text links r) notes last.kept r.rest.words r.rest.closing (sockets.have P g out inn bytes script reads text links r) (telling.keeps P g out inn bytes script reads text links r) outcomes
        drun seats refl (sockets.differ P g out inn bytes script reads text links r) gave (log_accepted drun (sockets.differ P g out inn bytes script reads text links r) (λ k. [])) few_slots few_links (asked_so r.left.ran (sockets.are P g out inn bytes script reads text links r) (sockets.may P g out inn bytes script reads text links r) notes last.kept r.rest.words r.rest.closing (sockets.have P g out inn bytes script reads text links r) outcomes (attempts.later P g out inn bytes script reads text links r)) Reads Alone word code

    posted_by : (j : ℕ) (x : LinkReader g) → get_elem? readers j ≡ some x → (h : HasPlaceHere j x) (code : ℕ) → ReadEnded p q (calls script) x h.is code → (word : ℕ) → IsPost q x.link x.ids.me.0 word → PostedLink word code
    posted_by j x at h code ended word post = record {
      operation = post.operation;
      found = (let a = reader_keeps j x at (is_word (at_index q post.operation) word) in let b = post.found in omega (arith, a, b));
      read = subst (λ (k : ℕ). Reads k code) (sym post.link_is) (read_by j x at h code ended);
    }

    book_notes : (j : ℕ) (x : LinkReader g) → get_elem? readers j ≡ some x → (h : HasPlaceHere j x) (slot : ℕ) (f : Note Asked → ℕ) → total f (notes_in slot x.books.view.notes) ≤ total f (notes_in slot notes)
    book_notes j x at h slot f = let a = reader_notes j x at slot f in let b = ap (λ (v : View Asked). total f (notes_in slot v.notes)) h.is.view_is in omega (arith, a, b)

    -- what the clients noted besides
    notes_besides : (j : ℕ) (x : LinkReader g) → get_elem? readers j ≡ some x → (h : HasPlaceHere j x) (slot : ℕ) (f : Note Asked → ℕ) → total f (notes_in slot x.books.view.notes) + total (λ (v : View Asked). total f (notes_in slot v.notes)) own_ids ≤ total f (notes_in slot notes)
    notes_besides j x at h slot f =
        let w : View Asked → ℕ = λ v. total f (notes_in slot v.notes) in let views : List (View Asked) = map (λ (y : LinkReader g). y.ids.me.0) readers in
        let a = term w views j x.ids.me.0 (map_there (λ (y : LinkReader g). y.ids.me.0) readers j x at) in
        let b = total_append w own_ids views in let c = notes_flat slot f (own_ids ++ views) in let d = ap (λ (l : List (Noted Asked)). total f (notes_in slot l)) notes_are in let e = rest_quiet.later.notes slot f in
        let k = ap (λ (v : View Asked). total f (notes_in slot v.notes)) h.is.view_is in omega (arith, a, b, c, d, e, k)

    -- what no client queued, a reader did, with the code of its reading
    queued_so : (i first e : ℕ) → 0 < queued_in i first e notes → (0 < total (λ (v : View Asked). queued_in i first e v.notes) own_ids) ⊎ QueuedLink i first e
    queued_so i first e_ there = elim (queued_beside own_ids (map (λ (x : LinkReader g). x.ids.me.0) readers) r.rest.main.me.0 last notes_are rest_quiet i first e_ there) [ inl own ↦ inl own | inr w ↦ inr (by w.0 w.1 w.2 w.3) ]
      where
        by : (j : ℕ) (v : View Asked) → get_elem? (map (λ (x : LinkReader g). x.ids.me.0) readers) j ≡ some v → 0 < queued_in i first e_ v.notes → QueuedLink i first e_
        by j v at some_ =
            let m = map_back (λ (x : LinkReader g). x.ids.me.0) readers j v at in let h = at_place j m.0 m.1 in
            let w = reader_posts p q (calls script) m.0 h.is i first e_ (subst (λ (y : View Asked). 0 < queued_in i first e_ y.notes) (sym m.2) some_) in let post = w.2 in
            record {
              word = post.word;
              code = w.0;
              posted = posted_by j m.0 m.1 h w.0 w.1 post.word post.post;
              slot_is = post.slot_is;
              first_is = post.first_is;
              error_is = post.error_is;
              alone = λ was e. alone_by j m.0 h post.word (i * 4294967296 + first) post.post.link_is (let whole = div-add-mod' (call_at post.word) 4294967296 in let a = post.slot_is in let b = post.first_is in omega (arith, whole, a, b))
                  (waits_alone q notes last.kept r.rest.words r.rest.closing p (calls script) m.0 h.is (subst (ReadEnded p q (calls script) m.0 h.is) e w.1) (book_notes j m.0 m.1 h) i first (let b = post.first_is in omega (arith, b))
                  (reader_waits p q (calls script) m.0 h.is i first e_ (subst (λ (y : View Asked). 0 < queued_in i first e_ y.notes) (sym m.2 ∙ h.is.view_is) some_)) (let z = notes_besides j m.0 m.1 h i (is_ended first) in omega (arith, z, was)));
            }

    -- in the words of what is told
    on_link : (client number : ℕ) (asked : Asked) → IsOperation all outcomes client number (ops.Call asked) → (id code : ℕ) → EndedLink number asked id code → WhyRead client number asked id code (last_attempt notes number)
    on_link client number asked call id code h = elim h.read [
      | inl f ↦ AtFault f.0 (at_word_link h.word) h.on f.1
      | inr e ↦ AtEnd e.0 (at_word_link h.word) (record { on = h.on; ended = e.1; lost = h.lost }) (gave_none number id h.its client asked call (at_word_link h.word)
          (subst (λ (i : ℕ). NoResponseHere i (gave (at_word_link h.word))) h.call_is (h.alone e.0)))
    ]

    -- the link of a reader whose reading ended early
    ended_early : (k : ℕ) → Contains fixed_here.early k → ReadingEnded (plan_of script) all outcomes fixed_here gave orders_here links k
    ended_early k early_ =
        let is = early_with r.left.ran outcomes (sockets.are P g out inn bytes script reads text links r) (sockets.may P g out inn bytes script reads text links r) (sockets.linked P g out inn bytes script reads text links r) (sockets.long P g out inn bytes script reads text links r) (sockets.reports P g out inn bytes script reads text links r)
        (sockets.main_later P g out inn bytes script reads text links r) (sockets.others_later P g out inn bytes script reads text links r) (calls script) r.left.readers_are (sockets.asked P g out inn bytes script reads text links r) in
        let s = early_shown out p q (calls script) 0 (opens script) readers r.left.readers_are k (subst (λ (l : List ℕ). Contains l k) is early_) in
        let place : s.place ≡ k = (let a = s.link_is in omega (arith, a)) in
        let b = given_back s.place s.reader (to_elem readers s.place s.reader s.at) in
        let e : LinkEnd = end_of (out b.end.out) (inn b.end.inn) in
        let shown : EndsEarly (sockets.gave P g out inn bytes script reads text links r k) e = sockets.shown P g out inn bytes script reads text links r k b.end (ap (slice_get r.ends) (sym place) ∙ b.there) early_ in
        (e, ap (slice_get links) (sym place) ∙ b.link, inr (subst (λ (f : ℕ → List ℕ). EndsEarly (f k) e) (sym is_gave) shown))

    -- each reader sits at the table of sockets
    sit : map seat_of (map sits_of drun.readers) ≡ map (λ (x : LinkReader g). x.seat) readers
    sit = (read_beside r.left.ran outcomes (sockets.are P g out inn bytes script reads text links r) (sockets.may P g out inn bytes script reads text links r) (sockets.linked P g out inn bytes script reads text links r) (sockets.long P g out inn bytes script reads text links r) (sockets.reports P g out inn bytes script reads text links r)
        (sockets.main_later P g out inn bytes script reads text links r) (sockets.others_later P g out inn bytes script reads text links r) (calls script) r.left.readers_are (sockets.asked P g out inn bytes script reads text links r)).sit

    -- where a reader set its link's socket failed with the code of a fault, the link gave one
    drop_fault : (k : ℕ) → StoredByReader drun k ERESPONSE → HasFault (gave k)
    drop_fault k f =
        let s = setter drun q (calls script) readers sit k ERESPONSE f in let h = at_place s.place s.reader s.there in
        let o = sockets.asked P g out inn bytes script reads text links r s.place s.reader.operation h.operation in
        let link : s.reader.link ≡ k = (let a = h.link_is in omega (arith, a)) ∙ s.opened h.is o.0 o.1 s.place o.2 in
        elim (subst (λ (l : ℕ). Reads l ERESPONSE) link (read_by s.place s.reader s.there h ERESPONSE (s.ended h.is))) [
          | inl fault ↦ fault.1
          | inr end ↦ absurd (let e = end.0 in omega (arith, e))
        ]

    on_drop : (client number : ℕ) (asked : Asked) (id code : ℕ) → IsReadCode code → DroppedLink number asked code → WhyRead client number asked id code (last_attempt notes number)
    on_drop client number asked id code read h = elim read [
      | inl e ↦ AtEndDrop e h.link (record { on = h.on; dropped = h.dropped; failing = h.failing; ended = ended_early h.link h.early })
      | inr e ↦ AtFaultDrop e h.link (record { on = h.on; dropped = h.dropped; failing = h.failing; ended = ended_early h.link h.early }) (drop_fault h.link (subst (StoredByReader drun h.link) e h.by))
    ]

    -- ### Calls that failed

    -- whose end a client told, who noted it
    ended_by : (c i : ℕ) (ts : List Told) (x : Told) → get_elem? r.ended c ≡ some ts → get_elem? ts i ≡ some x → (id code : ℕ) → x.outcome ≡ CallFailed id code → (slot first : ℕ) → id ≡ slot * 4294967296 + first → first < 4294967296
        → 0 < total (λ (v : View Asked). total (is_ended first) (notes_in slot v.notes)) own_ids
    ended_by c i ts x at there id code outcome slot first is low =
        tellers.own_noted r.left.ran script r.left.tasks (sockets.are P g out inn bytes script reads text links r) last r.rest.words r.rest.closing (sockets.have P g out inn bytes script reads text links r) slot first low c i ts x at there
        (ap (ends_of (slot * 4294967296 + first)) outcome ∙ only-at (slot * 4294967296 + first) id is)

    of_client : (c i : ℕ) (ts : List Told) (x : Told) → get_elem? r.ended c ≡ some ts → get_elem? ts i ≡ some x → (client number : ℕ) (asked : Asked) → IsOperation all outcomes client number (ops.Call asked) → (id code : ℕ) → x.number ≡ number → x.outcome ≡ CallFailed id code → FailedHere client number asked id code
    of_client c i ts x at there client n asked call id code number outcome =
        let own : IsOperation all outcomes client x.number (ops.Call asked) = subst (λ (m : ℕ). IsOperation all outcomes client m (ops.Call asked)) (sym number) call in
        let e = ends_with r.left.ran (sockets.are P g out inn bytes script reads text links r) (sockets.may P g out inn bytes script reads text links r) notes last.kept r.rest.words r.rest.closing (sockets.have P g out inn bytes script reads text links r) (telling.keeps P g out inn bytes script reads text links r) outcomes
        (sockets.reports P g out inn bytes script reads text links r).said (telling.said_ended P g out inn bytes script reads text links r) (attempts.later P g out inn bytes script reads text links r) others (attempts.are_ids P g out inn bytes script reads text links r).made (attempts.own P g out inn bytes script reads text links r) drun seats refl (sockets.differ P g out inn bytes script reads text links r) gave dropped c i ts x at there client asked own in
        let same = same_failure e.0 e.1 id code (sym e.2 ∙ outcome) in
        subst (λ (m : ℕ). FailedHere client m asked id code) number (elim e.3 [
          | inl f ↦ inl (subst (λ (m : ℕ). FailedBy p all outcomes fixed_here gave orders_here client x.number asked id m (last_attempt notes x.number)) same.1 (subst (λ (m : ℕ). FailedBy p all outcomes fixed_here gave orders_here client x.number asked m e.1 (last_attempt notes x.number)) same.0 f))
          | inr read ↦ inr (by_link own (subst IsReadCode same.1 read))
        ])
      where
        by_link : IsOperation all outcomes client x.number (ops.Call asked) → IsReadCode code → WhyRead client x.number asked id code (last_attempt notes x.number)
        by_link own read = elim (told_on r.left.ran (sockets.are P g out inn bytes script reads text links r) (sockets.may P g out inn bytes script reads text links r) notes last.kept r.rest.words r.rest.closing (sockets.have P g out inn bytes script reads text links r) (telling.keeps P g out inn bytes script reads text links r) outcomes
            (sockets.reports P g out inn bytes script reads text links r).said (telling.said_ended P g out inn bytes script reads text links r) (attempts.later P g out inn bytes script reads text links r) (attempts.are_ids P g out inn bytes script reads text links r).made drun seats refl (sockets.differ P g out inn bytes script reads text links r) gave (sockets.low P g out inn bytes script reads text links r) few_slots few_links bounds Reads Alone read_code queued_so
            c i ts x at there id code outcome (λ slot first e low. ended_by c i ts x at there id code outcome slot first e low) read client asked own) [
              | inl h ↦ on_link client x.number asked own id code h
              | inr h ↦ on_drop client x.number asked id code read h
            ]

    -- what is given by one of the links is given
    given_one : (j : ℕ) (x : LinkReader g) → get_elem? readers j ≡ some x → (h : HasPlaceHere j x) (f : Frame) → IsGiven 1 (λ k. reader_gave p q (calls script) x h.is) f → IsGiven (length readers) gave f
    given_one j x at h f s = record {
      link = j;
      place = s.place;
      whole = (slice_get_within readers j x (to_slice readers j x at), ap (λ (l : List ℕ). slice_get (stream l).frames s.place) (sym (its_bytes j x h)) ∙ s.whole.1);
      responds = s.responds;
    }

    of_reader : (c i : ℕ) (ts : List Told) (x : Told) → get_elem? r.read c ≡ some ts → get_elem? ts i ≡ some x → (client : ℕ) (asked : Asked) → IsOperation all outcomes client x.number (ops.Call asked) → (id code : ℕ) → x.outcome ≡ CallFailed id code → FailedHere client x.number asked id code
    of_reader c i ts x at there client asked call id code outcome =
        let m = map_back (λ (y : LinkReader g). y.books.told) readers c ts (ap (λ (l : List (List Told)). get_elem? l c) r.left.read_is ∙ at) in
        let h = at_place c m.0 m.1 in
        let Ended : Told → Type 0 = ToldBy p q (calls script) m.0 h.is (length readers) gave in
        let w : Ended x = all_at Ended m.0.books.told i x (reader_tells p q (calls script) m.0 h.is (length readers) gave (given_one c m.0 m.1 h)) (ap (λ (l : List Told). get_elem? l i) m.2 ∙ there) in
        by m.0 m.1 h (ap (λ (l : List Told). get_elem? l i) m.2 ∙ there) w.0 w.1 w.2
      where
        by : (y : LinkReader g) → get_elem? readers c ≡ some y → (h : HasPlaceHere c y) → get_elem? y.books.told i ≡ some x → (own : ℕ) → ReadEnded p q (calls script) y h.is own → ToldEnd q (length readers) gave own (IsPostFor q y.link) y.books.view x → FailedHere client x.number asked id code
        by y here h there_ own ended t =
            let view = h.is.view_is in
            let notes_ : (slot : ℕ) (f : Note Asked → ℕ) → total f (notes_in slot y.books.view.notes) ≤ total f (notes_in slot notes) = λ slot f. (let a = reader_notes c y here slot f in let b = ap (λ (v : View Asked). total f (notes_in slot v.notes)) view in omega (arith, a, b)) in
            elim (told_why r.left.ran (sockets.are P g out inn bytes script reads text links r) (sockets.may P g out inn bytes script reads text links r) notes last.kept r.rest.words r.rest.closing (sockets.have P g out inn bytes script reads text links r) (telling.keeps P g out inn bytes script reads text links r) outcomes
            drun seats refl (sockets.differ P g out inn bytes script reads text links r) gave (log_accepted drun (sockets.differ P g out inn bytes script reads text links r) (λ k. [])) few_slots few_links (asked_so r.left.ran (sockets.are P g out inn bytes script reads text links r) (sockets.may P g out inn bytes script reads text links r) notes last.kept r.rest.words r.rest.closing (sockets.have P g out inn bytes script reads text links r) outcomes (attempts.later P g out inn bytes script reads text links r)) Reads Alone
            (length readers) few_readers (attempts.are_ids P g out inn bytes script reads text links r).made own (IsPostFor q y.link) y.books.view notes_ x t id code outcome client asked call (last_attempt notes x.number)) [
              | inl f ↦ inl f
              | inr l ↦ inr (on_link client x.number asked call id code (subst (λ (i : ℕ). EndedLink x.number asked i code) l.2 (subst (EndedLink x.number asked (id_of l.1.slot l.1.word)) l.0
                  (by_reader r.left.ran (sockets.are P g out inn bytes script reads text links r) (sockets.may P g out inn bytes script reads text links r) notes last.kept r.rest.words r.rest.closing (sockets.have P g out inn bytes script reads text links r) (telling.keeps P g out inn bytes script reads text links r) outcomes
                  drun seats refl (sockets.differ P g out inn bytes script reads text links r) gave (log_accepted drun (sockets.differ P g out inn bytes script reads text links r) (λ k. [])) few_slots few_links (asked_so r.left.ran (sockets.are P g out inn bytes script reads text links r) (sockets.may P g out inn bytes script reads text links r) notes last.kept r.rest.words r.rest.closing (sockets.have P g out inn bytes script reads text links r) outcomes (attempts.later P g out inn bytes script reads text links r)) Reads Alone
                  y.link own y.books.view (λ word post. posted_by c y here h own ended word (subst (λ (v : View Asked). IsPost q y.link v word) (sym view) post)) x.number l.1 client asked call
                  (λ e. alone_by c y h l.1.known.0 id l.1.known.1.link_is (sym l.2 ∙ l.1.known.2)
                  (told_alone q notes last.kept r.rest.words r.rest.closing p (calls script) y h.is (subst (ReadEnded p q (calls script) y h.is) e ended) (book_notes c y here h) (HasMet p q (calls script) y h.is) (has_asked p q (calls script) y h.is) (λ f z. z) y.books.view (book_notes c y here h) id
                  (all_at (CodeEnd q.slots (HasMet p q (calls script) y h.is) (has_asked p q (calls script) y h.is) y.books.view) y.books.told i x (reader_ends p q (calls script) y h.is) there_ id (outcome ∙ ap (CallFailed id) (sym l.0 ∙ e)))))))))
            ]

    -- the range of a lock has its first version in the slot
    abbrev LowFirst : View Asked → ℕ → Parts → Type 0
    LowFirst v slot w = w.first < 4294967296

    -- the one that ended what was left told the rest
    rest_told : AllByRecursion (ToldEnd q (length readers) gave EEOF LowFirst last) r.last
    rest_told =
        let tells = (rest_step q (length readers) gave EEOF LowFirst (λ u v l slot w k. k) (λ v slot w k. k) (calls script) main r.rest.last r.rest.rest).tells
        (subst (λ (f : ℕ → List ℕ). AreGiven (length readers) f main.early) (sym is_gave) (subst (λ (l : List Answer). AreGiven (length readers) (sockets.gave P g out inn bytes script reads text links r) l) (sym (early_of r.left)) (early_given p q (calls script) (opens script) readers r.left.readers_are))) in
        subst (AllByRecursion (ToldEnd q (length readers) gave EEOF LowFirst last)) (sym (r.rest.told_is ∙ tells.told)) tells.each

    -- of a call that it ended with 1014 a link gave no response, unless its reading ended at a fault
    rest_gave : (i : ℕ) (x : Told) → get_elem? r.last i ≡ some x → (client : ℕ) (asked : Asked) → IsOperation all outcomes client x.number (ops.Call asked) → (id : ℕ) → x.outcome ≡ CallFailed id EEOF → IsIdOf slots notes x.number id
        → (k : ℕ) → k < (plan_of script).links → GaveFault (plan_of script) all outcomes fixed_here gave orders_here k ⊎ GaveNone asked id k
    rest_gave i x there client asked call id outcome its k inside =
        let y = place_there readers k (let n = as_many_readers in omega (arith, inside, n)) in let w = met_place k y.0 y.1 in let h = w.0 in
        elim (reader_read p q (calls script) y.0 h.is) [
          | inr none_ ↦ inr (λ m frame given responds. absurd (none-some frame (sym (ap (λ (l : List ℕ). slice_get (stream l).frames m) (sym (its_bytes k y.0 h) ∙ none_)) ∙ given.1)))
          | inl ended ↦ elim (read_by k y.0 y.1 h ended.0 ended.1) [
            | inl f ↦ inl (subst (λ (l : ℕ). HasFault (gave l)) (its_link k y.0 h) f.1)
            | inr e ↦ inr (gave_none x.number id its client asked call k (subst (NoResponseHere id) (its_bytes k y.0 h) (rest_alone i id x there outcome k y.0 y.1 (h.is, w.1) (subst (ReadEnded p q (calls script) y.0 h.is) e.0 ended.1))))
          ]
        ]

    abbrev RestLock : ℕ → Type 0
    RestLock o = LockOf r.left.ran (sockets.are P g out inn bytes script reads text links r) (sockets.may P g out inn bytes script reads text links r) notes last.kept r.rest.words r.rest.closing (sockets.have P g out inn bytes script reads text links r) (telling.keeps P g out inn bytes script reads text links r) outcomes
        drun seats refl (sockets.differ P g out inn bytes script reads text links r) gave (log_accepted drun (sockets.differ P g out inn bytes script reads text links r) (λ k. [])) few_slots few_links (asked_so r.left.ran (sockets.are P g out inn bytes script reads text links r) (sockets.may P g out inn bytes script reads text links r) notes last.kept r.rest.words r.rest.closing (sockets.have P g out inn bytes script reads text links r) outcomes (attempts.later P g out inn bytes script reads text links r)) Reads Alone o (LowFirst last)

    rest_id : (o id : ℕ) (l : RestLock o) → id_of l.slot l.word ≡ id → IsIdOf slots notes o id
    rest_id o id l same = record { slot = l.slot; first = l.word.first; inside = l.inside; low = l.known; id_is = sym same; range = l.word.range; asked = l.call; place = l.place; made = l.made; operation = l.number }

    -- whoever ends what is left begins with the notes of each client
    main_notes : (c : ℕ) (x : Client g out p q) → get_elem? (all_clients r.left.ran) c ≡ some x → MoreNotes (ids_of x).notes main.view.notes
    main_notes c x at slot f =
        let h : View Asked → ℕ = λ v. total f (notes_in slot v.notes) in let views : List (View Asked) = map (λ (y : LinkReader g). y.ids.me.0) readers in
        let a = term h own_ids c (ids_of x) (ap (λ (l : List (View Asked)). get_elem? l c) (sym (views_are r.left.ran)) ∙ map_there ids_of (all_clients r.left.ran) c x at) in
        let b = total_append h own_ids views in let d = notes_flat slot f (own_ids ++ views) in let e = ap (λ (l : List (Noted Asked)). total f (notes_in slot l)) notes_are in omega (arith, a, b, d, e)

    -- what it told are ends of ranges that hadn't ended before; and in their slots no later range had been found
    rest_lasts : AllByRecursion (IsLast q.slots main.view.notes notes) r.last
    rest_lasts = let t = rest_last q.slots q refl EEOF (calls script) main r.rest.last r.rest.rest in subst (AllByRecursion (IsLast q.slots main.view.notes notes)) (sym (r.rest.told_is ∙ t.told)) t.each

    -- where the last attempt of its call went
    left_here : (i : ℕ) (x : Told) → get_elem? r.last i ≡ some x → (client : ℕ) (asked : Asked) → IsOperation all outcomes client x.number (ops.Call asked) → (id code : ℕ) → x.outcome ≡ CallFailed id code → Became all outcomes x.number (CallFailed id code) → IsIdOf slots notes x.number id
        → LeftAt (plan_of script) all outcomes fixed_here gave orders_here client x.number asked (last_attempt notes x.number)
    left_here i x there client asked call id code outcome became its = left_still (plan_of script) p.seats all outcomes fixed_here gave orders_here client x.number asked (last_attempt notes x.number)
        (left_at r.left.ran (sockets.are P g out inn bytes script reads text links r) (sockets.may P g out inn bytes script reads text links r) notes last.kept r.rest.words r.rest.closing (sockets.have P g out inn bytes script reads text links r) outcomes
        (sockets.reports P g out inn bytes script reads text links r).said (attempts.later P g out inn bytes script reads text links r) (attempts.own P g out inn bytes script reads text links r) drun seats refl (sockets.differ P g out inn bytes script reads text links r) gave client x.number asked call id code became
        (over_last r.left.ran (sockets.are P g out inn bytes script reads text links r) (sockets.may P g out inn bytes script reads text links r) notes last.kept r.rest.words r.rest.closing (sockets.have P g out inn bytes script reads text links r) main.view.notes main_notes x.number id code x
        (all_at (IsLast q.slots main.view.notes notes) r.last i x rest_lasts there) outcome its)
        (some_made x.number id its))

    of_rest : (i : ℕ) (x : Told) → get_elem? r.last i ≡ some x → (client : ℕ) (asked : Asked) → IsOperation all outcomes client x.number (ops.Call asked) → (id code : ℕ) → x.outcome ≡ CallFailed id code → Became all outcomes x.number (CallFailed id code) → FailedHere client x.number asked id code
    of_rest i x there client asked call id code outcome became =
        elim (told_why r.left.ran (sockets.are P g out inn bytes script reads text links r) (sockets.may P g out inn bytes script reads text links r) notes last.kept r.rest.words r.rest.closing (sockets.have P g out inn bytes script reads text links r) (telling.keeps P g out inn bytes script reads text links r) outcomes
        drun seats refl (sockets.differ P g out inn bytes script reads text links r) gave (log_accepted drun (sockets.differ P g out inn bytes script reads text links r) (λ k. [])) few_slots few_links (asked_so r.left.ran (sockets.are P g out inn bytes script reads text links r) (sockets.may P g out inn bytes script reads text links r) notes last.kept r.rest.words r.rest.closing (sockets.have P g out inn bytes script reads text links r) outcomes (attempts.later P g out inn bytes script reads text links r)) Reads Alone
        (length readers) few_readers (attempts.are_ids P g out inn bytes script reads text links r).made EEOF LowFirst last (λ slot f. omega arith) x (all_at (ToldEnd q (length readers) gave EEOF LowFirst last) r.last i x rest_told there) id code outcome client asked call (last_attempt notes x.number)) [
          | inl f ↦ inl f
          | inr l ↦ inr (LeftOver (sym l.0) (left_here i x there client asked call id code outcome became (rest_id x.number id l.1 l.2)) (rest_gave i x there client asked call id (outcome ∙ ap (CallFailed id) (sym l.0)) (rest_id x.number id l.1 l.2)))
        ]

    failed_here : (client id code : ℕ) (t : Task) (asked : Asked) → IsTask all outcomes client t → t.op ≡ ops.Call asked → Became all outcomes t.number (CallFailed id code) → FailedHere client t.number asked id code
    failed_here client id code t asked is op became = elim (told_each (replicate (plan_of script).operations None) ((r.told ++ (r.ended ++ r.read)) ++ r.last ∷ []) t.number (CallFailed id code) became) [
      | inl none_ ↦ absurd (none_told (plan_of script).operations t.number (CallFailed id code) none_)
      | inr w ↦ by w.3.1 w.3.3 w.3.4 w.0 w.3.0 w.1 w.3.2
          (tellers.whose r.left.ran script r.left.tasks (sockets.are P g out inn bytes script reads text links r) notes (sockets.have P g out inn bytes script reads text links r) (r.ended ++ r.read) r.last (sockets.end_told P g out inn bytes script reads text links r) w.0 w.3.0 w.1 w.3.1 w.2 w.3.2)
    ]
      where
        call : IsOperation all outcomes client t.number (ops.Call asked)
        call = subst (λ (x : Op). IsTask all outcomes client record { number = t.number; op = x }) op is

        its_call : (x : Told) → x.number ≡ t.number → IsOperation all outcomes client x.number (ops.Call asked)
        its_call x number = subst (λ (m : ℕ). IsOperation all outcomes client m (ops.Call asked)) (sym number) call

        -- a client tells no call of its own to have failed
        own_told : (d j : ℕ) (ts : List Told) (x : Told) → get_elem? r.told d ≡ some ts → get_elem? ts j ≡ some x → IsOwn x
        own_told d j ts x at there = all_at IsOwn ts j x (all_at (λ (us : List Told). AllByRecursion IsOwn us) r.told d ts (clients.owns out p q r.left.setup r.left.clients (opens script) r.told r.ended r.left.ran.seats own_ids r.left.ran.ran) at) there

        by : (x : Told) → x.number ≡ t.number → x.outcome ≡ CallFailed id code → (d j : ℕ) (ts : List Told) → get_elem? ts j ≡ some x → (get_elem? r.told d ≡ some ts) ⊎ ((e : ℕ) × (get_elem? ((r.ended ++ r.read) ++ r.last ∷ []) e ≡ some ts) × IsEndTold slots notes x) → FailedHere client t.number asked id code
        by x number outcome d j ts there (inl at) = absurd (not_own id code x outcome (own_told d j ts x at there))
        by x number outcome d j ts there (inr over) = elim (split (r.ended ++ r.read) (r.last ∷ []) over.0 ts over.1) [
          | inl h ↦ elim (split r.ended r.read over.0 ts h) [
            | inl at ↦ of_client over.0 j ts x at there client t.number asked call id code number outcome
            | inr at ↦ subst (λ (m : ℕ). FailedHere client m asked id code) number (of_reader at.0 j ts x at.1 there client asked (its_call x number) id code outcome)
          ]
          | inr at ↦ subst (λ (m : ℕ). FailedHere client m asked id code) number (of_rest j x (ap (λ (l : List Told). get_elem? l j) (only_one r.last at.0 ts at.1) ∙ there) client asked (its_call x number) id code outcome (subst (λ (m : ℕ). Became all outcomes m (CallFailed id code)) (sym number) became))
        ]

    -- ### Over the tables without the readers' seats

    pub failed : (client id code : ℕ) (t : Task) (asked : Asked) → IsTask all outcomes client t → t.op ≡ ops.Call asked → Became all outcomes t.number (CallFailed id code)
        → FailedBy (plan_of script) all outcomes (sockets.fixed P g out inn bytes script reads text links r) gave (orders drun (sockets.differ P g out inn bytes script reads text links r)) client t.number asked id code (last_attempt notes t.number) ⊎ WhyRead client t.number asked id code (last_attempt notes t.number)
    failed client id code t asked is op became = elim (failed_here client id code t asked is op became) [
      | inl f ↦ inl (failure_still (plan_of script) p.seats all outcomes (sockets.fixed P g out inn bytes script reads text links r) gave (orders drun (sockets.differ P g out inn bytes script reads text links r)) client t.number asked id code (last_attempt notes t.number) f)
      | inr read ↦ inr read
    ]

    -- each attempt behind another
    pub again : (client : ℕ) (t : Task) (asked : Asked) → IsTask all outcomes client t → t.op ≡ ops.Call asked → (n : ℕ) → n < last_attempt notes t.number
        → WhyAgain (plan_of script) all outcomes (sockets.fixed P g out inn bytes script reads text links r) gave (orders drun (sockets.differ P g out inn bytes script reads text links r)) client t.number n (name_of asked n)
    again client t asked is op n less = again_still (plan_of script) p.seats all outcomes (sockets.fixed P g out inn bytes script reads text links r) gave (orders drun (sockets.differ P g out inn bytes script reads text links r)) client t.number n (name_of asked n)
        (again_with r.left.ran (sockets.are P g out inn bytes script reads text links r) (sockets.may P g out inn bytes script reads text links r) notes last.kept r.rest.words r.rest.closing (sockets.have P g out inn bytes script reads text links r) outcomes (sockets.reports P g out inn bytes script reads text links r).said (attempts.later P g out inn bytes script reads text links r) others (attempts.are_ids P g out inn bytes script reads text links r).made (attempts.own P g out inn bytes script reads text links r) drun seats refl (sockets.differ P g out inn bytes script reads text links r) gave dropped client t asked is op n less)

    -- each `expire`, and which codes were queued where it found no room
    pub expires : (client of : ℕ) (t : Task) (by : Outcome) → IsTask all outcomes client t → t.op ≡ ops.Expire of → Became all outcomes t.number by → WhyExpired p all outcomes (sockets.fixed P g out inn bytes script reads text links r) gave (orders drun (sockets.differ P g out inn bytes script reads text links r)) client t.number of by
        → WhyExpire (plan_of script) all outcomes (sockets.fixed P g out inn bytes script reads text links r) gave (orders drun (sockets.differ P g out inn bytes script reads text links r)) (last_attempt notes) client t.number of by
    expires client of t by is op became why = expire_still (plan_of script) p.seats all outcomes (sockets.fixed P g out inn bytes script reads text links r) gave (orders drun (sockets.differ P g out inn bytes script reads text links r)) (last_attempt notes) client t.number of by
        (expires_with r.left.ran (sockets.are P g out inn bytes script reads text links r) (sockets.may P g out inn bytes script reads text links r) notes last.kept r.rest.words r.rest.closing (sockets.have P g out inn bytes script reads text links r) outcomes drun seats refl (sockets.differ P g out inn bytes script reads text links r) gave
        (sockets.low P g out inn bytes script reads text links r) low_links bounds (telling.keeps P g out inn bytes script reads text links r) (sockets.reports P g out inn bytes script reads text links r).said (telling.said_ended P g out inn bytes script reads text links r) others (last_attempt notes) client of t by is op became why)
