-- Links with the server gave the replies to what they took.
use Rattle.std.proofs.Common.{◌≡◌, ◌⊎◌, inl, inr, ℕ, zero, suc, ◌+◌, ◌<◌, if◌then◌else◌, Bool, true, List, [], ◌∷◌, ◌++◌, map, flat_map, take, drop, slice_get, Ok, Option, Some, None, IfSome, IfOk, Result, Err, refl, sym, ap, ◌∙◌, subst, arith}
use Rattle.std.specs.Prelude.{IsSome, IsTrue, OnOk, slice_index_or}
use Rattle.std.specs.List.{AllByRecursion}
use Rattle.std.proofs.Math.Seq.{take-nil, drop-nil}
use Rattle.std.proofs.lemmas.Option.{slice_get_within}
use mathlib.Core.Option.{some}
use lib.ListN.{get_elem?}
use Rattle.brpc_model.specs.LinkFailureCauses.{reading_limit}
use Rattle.brpc_model.specs.Complete.{IsUntroubled, Completeness}
use Rattle.brpc_model.specs.Frame.{frame_bytes}
use Rattle.brpc_model.specs.Items.{Item, Shape}
use Rattle.brpc_model.specs.ReturnedLink.{LinkEnd}
use Rattle.brpc_model.specs.Operations.{link_shapes}
use Rattle.brpc_model.specs.Order.{IsCut}
use Rattle.brpc_model.specs.PlaceWords.{took_at}
use Rattle.brpc_model.specs.Reply.{reply_frames}
use Rattle.brpc_model.specs.Report.{LinkLine}
use Rattle.brpc_model.specs.Script.{script_of}
use Rattle.brpc_model.specs.ServedForTakenBytes.{first_of, given_for, GivesReplies, ServesAll}
use Rattle.corr_core.specs.declared.marks.Plan as id_plan
use Rattle.sock_words.specs.declared.outcome.Outcome.{Outcome}
use Rattle.sock_words.specs.declared.plain.Plan.{Plan}
use Rattle.sock_io.specs.declared.link.Ends.{Ends}
use Rattle.sock_io.specs.declared.link.LinkSpec.{LinkSpec}
use Rattle.sock_io.specs.declared.link.Mode.{Mode}
use Rattle.sock_io.specs.declared.link.Out.{Ghosts}
use Rattle.sock_io.specs.LinkHalves.{OutState, InState, end_of}
use Rattle.seat_programs.specs.sock_model.specs.declared.view.StoredWord.{StoredWord}
use Rattle.seat_programs.specs.sock_model.specs.SocketTableLayout.{open_index}
use Rattle.seat_programs.specs.declared.task.Op.TheVariants as ops
use Rattle.seat_programs.specs.declared.task.Task.{Task}
use Rattle.seat_programs.specs.ScriptSetupToEnding.{all_tasks, took_at_home}
use Rattle.seat_programs.specs.Tasks.{plan_of, opens, calls}
use Rattle.seat_programs.specs.Explained.{IsTask, Made}
use Rattle.seat_programs.specs.ExplainedCalls.{Accepted, Order, IsTaken, IsSent, OfSend, OfCall, bytes_of}
use Rattle.call_run.specs.ReadersOfLinks.{LinkReader, IsReader, AreReaders, nothing_read}
use Rattle.script_links.specs.LinksGivenBack.{spec_of, specs_of}
use Rattle.script_links.proofs.OffersOfOpenedLinks.{asked_at}
use Rattle.script_parts.specs.script_facts.proofs.Flat.{at_map}
use Rattle.script_parts.specs.script_facts.proofs.FilteredLists.{all_at, has_from, within}
use Rattle.script_parts.specs.call_whys.specs.call_told.proofs.Gains.{Gains, gains_none, gains_tell}
use Rattle.script_parts.specs.callless_fits.specs.sock_deeds.specs.SocketsTold.{fixed_by, IsAttempt}
use Rattle.script_parts.specs.callless_fits.specs.sock_deeds.specs.SocketTableRun.{DeedRun}
use Rattle.script_parts.specs.callless_fits.specs.sock_deeds.proofs.DeedsOfAllSeats.{All}
use Rattle.script_parts.specs.callless_fits.specs.sock_deeds.proofs.Flats.{append_first, flat_there}
use Rattle.script_parts.specs.callless_fits.specs.sock_deeds.proofs.GrowingSocketNotes.{HasFound}
use Rattle.script_parts.specs.callless_fits.specs.sock_deeds.proofs.ListPlaces.{map_there, to_elem}
use Rattle.script_parts.specs.callless_fits.specs.sock_deeds.proofs.DeedsForTasks.{fits}
use Rattle.script_parts.specs.calls_done.specs.OwedToCalls.{GaveFew}
use Rattle.served_sizes.proofs.FewBytesFromServer.{front_few}
use Rattle.script_parts.specs.served_told.specs.ServedLinksTelling.{TellBytes}
use Rattle.script_parts.specs.served_told.proofs.OwnRepliesTold.{own_replies}
use Rattle.script_threads.specs.GaveWhatWasOffered.{offered_for, WasReadOut, GaveOffer, GaveOffers}
use Rattle.script_threads.specs.ServedLinksOfReport.{run_of, IsShort, IsServedText}
use Rattle.script_threads.specs.ServedScriptTold.{HadGivenNone, IsThreadsRun, IsThreadsText}
use Rattle.script_threads.proofs.Speaking.{parts_of}
use Rattle.script_threads.proofs.ScriptRunDone.{GivesAll, GivesLast, text_complete}
use Rattle.script_threads.proofs.ScriptSocketsLinked.{opens_link}
use Rattle.script_threads.proofs.ReadOut.{ShowsOut, at_end, at_closing, at_failure, at_limit, read_or_none, found_none}
use Rattle.script_threads.proofs.ReportsOfThreads.{text_of, text_outcomes}
use Rattle.script_threads.proofs.Small.{text_small}
use Rattle.script_threads.proofs.SocketsOfReadLinks.{asked, run}
use Rattle.script_threads.proofs.UnopenedLinkOfReader.{none_made, one_opener}
use Rattle.sock_words.specs.PackedWords.{NO_SOCKET}

pub some_there : {A : Type 0} (o : Option A) → IsSome o → (x : A) × (o ≡ Some x)
some_there None told = absurd (cc)
some_there (Some x) told = (x, refl)

pub told_of : {A : Type 0} (P : A → Type 0) (o : Option A) (x : A) → o ≡ Some x → IfSome o P → P x
told_of {A} P o x is h = subst (λ (y : Option A). IfSome y P) is h

offers_at : (tells_in : Mode → Bool) (specs : List LinkSpec) (ends : List LinkEnd) → GaveOffers tells_in specs ends → (k : ℕ) (s : LinkSpec) (e : LinkEnd) → slice_get specs k ≡ Some s → slice_get ends k ≡ Some e → tells_in s.mode ≡ true → GaveOffer s e
offers_at tells_in [] ends h k s e at also told = absurd (cc)
offers_at tells_in (x ∷ xs) [] h k s e at also told = absurd h
offers_at tells_in (x ∷ xs) (y ∷ ys) h zero s e at also told =
    let spec : x ≡ s = cc in let end : y ≡ e = cc in
    subst (GaveOffer s) end (subst (λ (t : LinkSpec). GaveOffer t y) spec (h.0 (ap (λ (t : LinkSpec). tells_in t.mode) spec ∙ told)))
offers_at tells_in (x ∷ xs) (y ∷ ys) h (suc k) s e at also told = offers_at tells_in xs ys h.1 k s e at also told

serving : (shape : Shape) (mode : Mode) (took : List ℕ) → IsTrue shape.serve → offered_for (spec_of mode shape) took ≡ given_for shape took
serving shape mode took serve = λ i. if serve i then given_for shape took else []

-- a link whose reading half answered its end or its closing gave the replies to all that the report says it took
pub gives_at_end : {script : List Item} {text : List ℕ} {ends : List LinkEnd} (is : IsThreadsText script text ends) (tells_in : Mode → Bool) (mode : Mode) → tells_in mode ≡ true → GaveOffers tells_in (specs_of mode script) ends
    → (k : ℕ) (e : LinkEnd) (shape : Shape) (line : LinkLine) → slice_get ends k ≡ Some e → slice_get (link_shapes script) k ≡ Some shape → IsTrue shape.serve → IsSome e.took → IsSome e.gave → WasReadOut e → slice_get (run_of is).report.links k ≡ Some line
    → is.answered.gave k ≡ given_for shape line.took
gives_at_end {script} {text} {ends} is tells_in mode told gave k e shape line at shaped serve took_told gave_told out there =
    let took = some_there e.took took_told in
    let given = some_there e.gave gave_told in
    let offer = offers_at tells_in (specs_of mode script) ends gave k (spec_of mode shape) e (asked_at mode script k shape shaped) at told in
    let all : given.0 ≡ offered_for (spec_of mode shape) took.0 = offer.all took.0 given.0 took.1 given.1 out in
    let its : given.0 ≡ is.answered.gave k = told_of (λ (b : List ℕ). b ≡ is.answered.gave k) e.gave given.0 given.1 (is.answered.givers k e at).gives in
    let line_took : line.took ≡ took_at is.reported.took k = (is.reported.report.told.links k line there).took in
    let said : took_at is.reported.took k ≡ took.0 = told_of (λ (b : List ℕ). took_at is.reported.took k ≡ b) e.took took.0 took.1 (is.reported.told k e at) in
    sym its ∙ all ∙ serving shape mode took.0 serve ∙ ap (given_for shape) (sym (line_took ∙ said))

-- one that answered its end gave also what the server gives for all that might follow
gives_last : {script : List Item} {text : List ℕ} {ends : List LinkEnd} (is : IsThreadsText script text ends) (tells_in : Mode → Bool) (mode : Mode) → tells_in mode ≡ true → GaveOffers tells_in (specs_of mode script) ends → TellBytes script ends → GivesLast is
gives_last {script} {text} {ends} is tells_in mode told gave tells k e shape took at shaped serve took_ ended more =
    let given = some_there e.gave (tells k e shape at shaped serve).1 in
    let offer = offers_at tells_in (specs_of mode script) ends gave k (spec_of mode shape) e (asked_at mode script k shape shaped) at told in
    let its : given.0 ≡ is.answered.gave k = told_of (λ (b : List ℕ). b ≡ is.answered.gave k) e.gave given.0 given.1 (is.answered.givers k e at).gives in
    sym its ∙ offer.last took given.0 took_ given.1 ended more ∙ serving shape mode (took ++ more) serve

-- and however its reading ended, the front of what the server gives for a front of what it took
gives_front : {script : List Item} {text : List ℕ} {ends : List LinkEnd} (is : IsThreadsText script text ends) (tells_in : Mode → Bool) (mode : Mode) → tells_in mode ≡ true → GaveOffers tells_in (specs_of mode script) ends → TellBytes script ends
    → (k : ℕ) (e : LinkEnd) (shape : Shape) (took : List ℕ) → slice_get ends k ≡ Some e → slice_get (link_shapes script) k ≡ Some shape → IsTrue shape.serve → e.took ≡ Some took → (fed left rest : List ℕ) × (took ≡ fed ++ left) × (is.answered.gave k ++ rest ≡ given_for shape fed)
gives_front {script} {text} {ends} is tells_in mode told gave tells k e shape took at shaped serve took_ =
    let given = some_there e.gave (tells k e shape at shaped serve).1 in
    let offer = offers_at tells_in (specs_of mode script) ends gave k (spec_of mode shape) e (asked_at mode script k shape shaped) at told in
    let its : given.0 ≡ is.answered.gave k = told_of (λ (b : List ℕ). b ≡ is.answered.gave k) e.gave given.0 given.1 (is.answered.givers k e at).gives in
    let f = offer.front took given.0 took_ given.1 in
    (f.0, f.1, f.2, f.3, ap (λ (l : List ℕ). l ++ f.2) (sym its) ∙ f.4 ∙ serving shape mode f.0 serve)

-- ## What a link took that no message was accepted for

given_none : (end : Option ℕ) → flat_map frame_bytes (first_of end (reply_frames [])) ≡ []
given_none None = refl
given_none (Some zero) = refl
given_none (Some (suc n)) = refl

cut_none : (cut : List ℕ) (messages : List (List ℕ)) → messages ≡ [] → IsCut cut messages → cut ≡ []
cut_none cut [] none is = is
cut_none cut (x ∷ xs) none is = absurd (cc)

took_none : (o : Order) (took : List ℕ) → IsTaken o took → o.accepted ≡ [] → took ≡ []
took_none o took taken none =
    let front : take o.placed o.accepted ≡ [] = ap (take o.placed) none ∙ take-nil o.placed in
    let behind : map bytes_of (drop o.placed o.accepted) ≡ [] = ap (λ (l : List Accepted). map bytes_of (drop o.placed l)) none ∙ ap (map bytes_of) (drop-nil o.placed) in
    taken.took_is ∙ (λ i. flat_map bytes_of (front i) ++ cut_none taken.cut (map bytes_of (drop o.placed o.accepted)) behind taken.is_cut i)

-- ## Places in lists

both_heads : {A : Type 0} (x y : A) (xs ys : List A) → x ∷ xs ≡ y ∷ ys → (x ≡ y) × (xs ≡ ys)
both_heads x y xs ys e = (cc, cc)

no_cons : {A B : Type 0} (x : A) (xs : List A) → [] ≡ x ∷ xs → B
no_cons x xs e = absurd (cc)

both_at : {A B C : Type 0} (f : A → C) (h : B → C) (xs : List A) (ys : List B) (k : ℕ) (y : B) → map f xs ≡ map h ys → slice_get ys k ≡ Some y → (x : A) × (slice_get xs k ≡ Some x) × (f x ≡ h y)
both_at f h xs [] k y e at = absurd (cc)
both_at f h [] (z ∷ ys) k y e at = no_cons _ _ e
both_at f h (x ∷ xs) (z ∷ ys) zero y e at = let same : z ≡ y = cc in (x, refl, (both_heads (f x) (h z) (map f xs) (map h ys) e).0 ∙ ap h same)
both_at f h (x ∷ xs) (z ∷ ys) (suc k) y e at = both_at f h xs ys k y (both_heads (f x) (h z) (map f xs) (map h ys) e).1 at

each_at : {A : Type 0} (P : A → Type 0) (xs : List A) (k : ℕ) (x : A) → AllByRecursion P xs → slice_get xs k ≡ Some x → P x
each_at P [] k x h at = absurd (cc)
each_at P (y ∷ ys) zero x h at = let same : y ≡ x = cc in subst P same h.0
each_at P (y ∷ ys) (suc k) x h at = each_at P ys k x h.1 at

module _ {O : Type 0} {g : Ghosts O} (p : Plan) (q : id_plan.Plan) (cs : List ℕ) where
  reader_is : (link : ℕ) (os : List ℕ) (xs : List (LinkReader g)) → AreReaders p q cs link os xs → (k : ℕ) (x : LinkReader g) → slice_get xs k ≡ Some x → IsReader p q cs x × (get_elem? os k ≡ some x.operation)
  reader_is link [] [] a k x at = absurd (cc)
  reader_is link [] (y ∷ ys) a k x at = absurd a
  reader_is link (o ∷ os) [] a k x at = absurd (cc)
  reader_is link (o ∷ os) (y ∷ ys) a zero x at = let same : y ≡ x = cc in subst (λ (z : LinkReader g). IsReader p q cs z × (some o ≡ some z.operation)) same (a.0, ap some (sym a.2))
  reader_is link (o ∷ os) (y ∷ ys) a (suc k) x at = reader_is (link + 1) os ys a.3 k x at

-- what a reading half shows in the link that is given back
record EndShows (i : InState) (e : LinkEnd) : Type 0 where
  bytes : i.gave_bytes ≡ e.gave
  gave_end : i.gave_end ≡ e.gave_end
  closed : i.closed ≡ e.closed
  count : i.gave ≡ e.gave_count
  faults : i.faults ≡ e.take_faults

shown : (i : InState) (o : OutState) (h : InState) (e : LinkEnd) → i ≡ h → end_of o h ≡ e → EndShows i e
shown i o h e same is = record {
  bytes = ap (λ (s : InState). s.gave_bytes) same ∙ ap (λ (l : LinkEnd). l.gave) is;
  gave_end = ap (λ (s : InState). s.gave_end) same ∙ ap (λ (l : LinkEnd). l.gave_end) is;
  closed = ap (λ (s : InState). s.closed) same ∙ ap (λ (l : LinkEnd). l.closed) is;
  count = ap (λ (s : InState). s.gave) same ∙ ap (λ (l : LinkEnd). l.gave_count) is;
  faults = ap (λ (s : InState). s.faults) same ∙ ap (λ (l : LinkEnd). l.take_faults) is;
}

-- ## A run

module _ (P : Type 0) {O I : Type 0} (out : O → OutState) (inn : I → InState) (g : Ghosts O) (script : List Item) (text : List ℕ) (links : List LinkEnd) (r : IsThreadsRun P g out inn script text links) (bytes : List ℕ) (reads : script_of bytes ≡ Ok script) where
  abbrev is : IsThreadsText script text links
  is = text_of P out inn g script text links r bytes reads

  open parts_of r use {p, q, all, readers, outcomes}

  abbrev the_run : DeedRun g out p all outcomes r.places r.left.vrefs r.left.outs
  the_run = run P g out inn bytes script reads text links r

  -- its reader found that its `open` got no socket
  module _ (k : ℕ) (x : LinkReader g) (at : slice_get readers k ≡ Some x) (reader : IsReader p q (calls script) x) (opened : get_elem? (opens script) k ≡ some x.operation) (none : reader.ran.id ≡ None) where
    noted : HasFound record { place = open_index p x.operation; word = NO_SOCKET } (All the_run)
    noted =
        let y : StoredWord = record { place = open_index p x.operation; word = NO_SOCKET } in
        let here = found_none q x.link (calls script) x.before x.behind p x.operation reader.ran.id _ reader.ran.noted x.seat.me.0 nothing_read x.books none reader.ran.opened reader.ran.read in
        let seats = map (λ (z : LinkReader g). z.seat) readers ++ r.left.ran.seats in
        let place = append_first (map (λ (z : LinkReader g). z.seat) readers) r.left.ran.seats k x.seat (map_there (λ (z : LinkReader g). z.seat) readers k x (to_elem readers k x at)) in
        let w = flat_there (λ s. s.me.0.finds) seats k x.seat 0 y place here in
        (w.0, ap (λ (l : List StoredWord). get_elem? l w.0) r.left.ran.closed.finds ∙ w.1)

    -- so no `open` made one
    never_made : (n slot version : ℕ) → Made all outcomes n k slot version → ⊥
    never_made n slot version made =
        let its = opens_link script outcomes k x.operation opened in
        let one : made.task.number ≡ x.operation = one_opener script outcomes made.client its.0 made.task x.operation n its.1 k (subst (λ (l : List (List Task)). IsTask l outcomes made.client made.task) r.left.tasks made.is) made.op its.2 in
        let here = asked P g out inn bytes script reads text links r k x.operation opened in
        let low = (fits the_run here.0 record { number = x.operation; op = ops.Open here.1 k } here.2).0 in
        none_made the_run x.operation low noted n k slot version made one

    abbrev Sent_ : Accepted → Type 0
    Sent_ a = IsSent (plan_of script) (all_tasks script) is.outcomes (fixed_by is.sockets.broken is.sockets.early is.sockets.fails) is.answered.gave is.sockets.orders (λ n. 0) k a ⊎ IsAttempt (all_tasks script) is.outcomes k a

    made_for : (a : Accepted) → Sent_ a → (n slot version : ℕ) × Made (all_tasks script) is.outcomes n k slot version
    made_for a (inl (OfSend client t name slot version is_ number op attempt made none_)) = (name, slot, version, made)
    made_for a (inl (OfCall client t asked_ outcome id slot version is_ number op became shows few bytes_ made)) = (_, slot, version, made)
    made_for a (inr w) = (_, w.slot, w.version, w.made)

    none_sent : (accepted : List Accepted) → AllByRecursion Sent_ accepted → accepted ≡ []
    none_sent [] h = refl
    none_sent (a ∷ later) h =
        let m = made_for a h.0 in
        absurd (never_made m.0 m.1 m.2 (subst (λ (l : List (List Task)). Made l outcomes m.0 k m.1 m.2) (sym r.left.tasks)
        (subst (λ (os : List (Option Outcome)). Made (all_tasks script) os m.0 k m.1 m.2) (text_outcomes P out inn g script text links r bytes reads) m.3)))

    -- and it took nothing
    took_nothing : k < (plan_of script).links → slice_index_or (took_at_home (plan_of script) is.sockets.core.homes) k [] ≡ []
    took_nothing low = took_none (is.sockets.orders k) _ (is.sockets.tells.are_orders.taken k low) (none_sent (is.sockets.orders k).accepted (is.sockets.tells.sent (λ n. 0) k low))

  -- ## Replies

  module _ (tells_in : Mode → Bool) (mode : Mode) (told : tells_in mode ≡ true) (gave : GaveOffers tells_in (specs_of mode script) links) (tells : TellBytes script links) where
    module _ (k : ℕ) (shape : Shape) (line : LinkLine) (opened : slice_get (link_shapes script) k ≡ Some shape) (serves : IsTrue shape.serve) (there : slice_get (run_of is).report.links k ≡ Some line) (e : LinkEnd) (at : slice_get links k ≡ Some e) (quiet : e.take_faults ≡ 0) (few : e.gave_count < reading_limit) where
      own : IsSome e.took × IsSome e.gave × IsSome e.closed
      own = tells k e shape at opened serves

      out_of : WasReadOut e → is.answered.gave k ≡ given_for shape line.took
      out_of over = gives_at_end is tells_in mode told gave k e shape line at opened serves own.0 own.1 over there

      its_bytes : (given : List ℕ) → e.gave ≡ Some given → given ≡ is.answered.gave k
      its_bytes given g_ = told_of (λ (b : List ℕ). b ≡ is.answered.gave k) e.gave given g_ (is.answered.givers k e at).gives

      module _ (x : LinkReader g) (behind : EndShows x.behind e) (before : HadGivenNone x) where
        read_bytes_are : (bs : List ℕ) → Gains x.before x.behind bs → bs ≡ is.answered.gave k
        read_bytes_are bs gains =
            let given = some_there e.gave own.1 in
            let its : given.0 ≡ bs = told_of (λ (b : List ℕ). b ≡ bs) x.behind.gave_bytes given.0 (behind.bytes ∙ given.1) (gains_tell x.before x.behind bs gains before.1) in
            sym its ∙ its_bytes given.0 given.1

        by_showing : ShowsOut x.behind → is.answered.gave k ≡ given_for shape line.took
        by_showing (at_end ended) = out_of (inl (sym behind.gave_end ∙ ended))
        by_showing (at_closing closed) = out_of (inr (sym behind.closed ∙ closed (subst IsSome (sym behind.closed) own.2)))
        by_showing (at_failure failed) = absurd (let a = behind.faults in omega (arith, failed, a, quiet))
        by_showing (at_limit most) = absurd (let a = behind.count in omega (arith, most, a, few))

        by_reader : slice_get readers k ≡ Some x → (reader : IsReader p q (calls script) x) → get_elem? (opens script) k ≡ some x.operation → k < (plan_of script).links → is.answered.gave k ≡ given_for shape line.took
        by_reader here reader asks low = elim (read_or_none q x.link (calls script) x.before x.behind reader.ran.id reader.ran.noted x.seat.me.0 nothing_read x.books reader.ran.read) [
          | inl w ↦ nothing w.0 w.1
          | inr w ↦ by_showing w.2
        ]
          where
            nothing : reader.ran.id ≡ None → x.behind ≡ x.before → is.answered.gave k ≡ given_for shape line.took
            nothing none same =
                let took = some_there e.took own.0 in
                let home : took.0 ≡ [] = told_of (λ (b : List ℕ). b ≡ slice_index_or (took_at_home (plan_of script) is.sockets.core.homes) k []) e.took took.0 took.1 (is.sockets.ends_told.each k e at).took ∙ took_nothing k x here reader asks none low in
                let said : took_at is.reported.took k ≡ took.0 = told_of (λ (b : List ℕ). took_at is.reported.took k ≡ b) e.took took.0 took.1 (is.reported.told k e at) in
                let line_took : line.took ≡ [] = (is.reported.report.told.links k line there).took ∙ said ∙ home in
                sym (read_bytes_are [] (gains_none x.before x.behind same)) ∙ sym (ap (given_for shape) line_took ∙ given_none shape.end)

      -- it gave the replies to what it took
      replies_to_all : is.answered.gave k ≡ given_for shape line.took
      replies_to_all =
          let half = at_map (λ (h : Ends O I P). end_of (out h.out) (inn h.inn)) r.ends k e (ap (λ (l : List LinkEnd). slice_get l k) (sym r.given_back) ∙ at) in
          let x = both_at (λ (z : LinkReader g). z.behind) (λ (h : Ends O I P). inn h.inn) readers r.ends k half.0 r.halves_read half.1 in
          let reader = reader_is p q (calls script) 0 (opens script) readers r.left.readers_are k x.0 x.1 in
          let low : k < (plan_of script).links = (let n = slice_get_within links k e at in let m = is.sockets.ends_told.as_many in omega (arith, n, m)) in
          by_reader x.0 (shown x.0.behind (out half.0.out) (inn half.0.inn) e x.2 half.2) (each_at HadGivenNone readers k x.0 r.unread x.1) x.1 reader.0 reader.1 low

    -- each link with the server that became a socket's, and whose reading met no fault, gave the replies to what it took
    pub gives_replies : GivesReplies (run_of is)
    gives_replies k shape line s there =
        let e = s.read in
        let w = has_from links e.0 e.1 in
        let place : w.0 ≡ k = sym (is.sockets.ends_told.each w.0 e.0 w.1).numbered ∙ e.2 in
        let at : slice_get links k ≡ Some e.0 = ap (slice_get links) (sym place) ∙ w.1 in
        replies_to_all k shape line s.opened s.serves there e.0 at e.3.0 e.3.2

    -- and so did each of those in a run in which nothing went wrong
    gives_all : GaveFew script links → IsUntroubled script links → GivesAll is
    gives_all few untroubled k shape line opened serves there =
        let low = slice_get_within is.reported.report.report.links k line there in let lines = is.reported.report.told.line_each in let many = is.sockets.ends_told.as_many in
        let e = within links k (omega (arith, low, lines, many)) in
        let unfailed = all_at (λ (x : LinkEnd). (x.put_faults ≡ 0) × (x.take_faults ≡ 0)) links e.0 untroubled.put (k, e.1) in
        replies_to_all k shape line opened serves there e.0 e.1 unfailed.1 (few k e.0 shape e.1 opened serves)

    -- and to each call its own
    serves_all : ServesAll (run_of is)
    serves_all = (
      gives_replies,
      own_replies bytes script reads is.outcomes is.places text is.reported.took links (fixed_by is.sockets.broken is.sockets.early is.sockets.fails) is.answered.gave is.sockets.orders is.sockets.core is.sockets.words is.sockets.tells.are_orders is.sockets.ends_told is.attempts is.on_calls.versions is.reported.report is.reported.told
          (text_small P g out inn bytes script reads text links r) tells gives_replies,
    )

    -- which is less than is read at most
    few_all : IsShort script → IsUntroubled script links → GaveFew script links
    few_all short untroubled k e shape at shaped serve =
        let took = some_there e.took (tells k e shape at shaped serve).0 in
        let home : took.0 ≡ slice_index_or (took_at_home (plan_of script) is.sockets.core.homes) k [] = told_of (λ (b : List ℕ). b ≡ slice_index_or (took_at_home (plan_of script) is.sockets.core.homes) k []) e.took took.0 took.1 (is.sockets.ends_told.each k e at).took in
        let f = gives_front is tells_in mode told gave tells k e shape took.0 at shaped serve took.1 in
        let low : k < (plan_of script).links = (let n = slice_get_within links k e at in let m = is.sockets.ends_told.as_many in omega (arith, n, m)) in
        let counted = (is.sockets.ends_told.each k e at).counted in
        let less = front_few short.0 script short.1 is.outcomes (fixed_by is.sockets.broken is.sockets.early is.sockets.fails) is.answered.gave is.sockets.orders is.sockets.core is.sockets.tells.are_orders is.attempts.last is.attempts.few is.attempts.sent
        short.2 untroubled.few_attempts k low shape f.0 f.1 (is.answered.gave k) f.2 (sym home ∙ f.3) f.4 in
        omega (arith, less, counted)

    all_complete : IsShort script → Completeness (run_of is)
    all_complete short untroubled = let few = few_all short untroubled in text_complete P out inn g script text links r bytes reads tells (gives_last is tells_in mode told gave tells) (gives_all few) few untroubled

  -- all that a run over these links leaves
  pub served_text : (tells_in : Mode → Bool) (mode : Mode) → GaveOffers tells_in (specs_of mode script) links → IsServedText (tells_in mode ≡ true) script text links
  served_text tells_in mode gave = record { is = is; serves = λ told tells. serves_all tells_in mode told gave tells; complete = λ told tells short. all_complete tells_in mode told gave tells short }

-- ## What a run of a script leaves

pub served_if : (P : Type 0) {O I : Type 0} (out : O → OutState) (inn : I → InState) (g : Ghosts O) (bytes : List ℕ) (script : List Item) → script_of bytes ≡ Ok script → (links : List LinkEnd) (tells_in : Mode → Bool) (mode : Mode) {T E : Type 0} (items : T → List ℕ) (res : Result T E)
    → IfOk res (λ t. IsThreadsRun P g out inn script (items t) links) → OnOk res (GaveOffers tells_in (specs_of mode script) links) → IfOk res (λ t. IsServedText (tells_in mode ≡ true) script (items t) links)
served_if P out inn g bytes script reads links tells_in mode items (Ok t) h gave = served_text P out inn g script (items t) links h bytes reads tells_in mode gave
served_if P out inn g bytes script reads links tells_in mode items (Err e) h gave = tt
