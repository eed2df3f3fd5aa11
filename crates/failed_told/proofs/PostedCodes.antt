-- Whatever is queued in a word of an id has a code that is posted to calls; so have both errors of a crowded id, and an `expire` is told with that.
use Rattle.std.proofs.Common.{◌≡◌, ℕ, ◌<◌, ◌≤◌, inl, inr, List, [], ◌∷◌, length, map, None, refl, sym, ap, ◌∙◌, subst, arith}
use Rattle.std.specs.Prelude.{Option, Contains}
use Rattle.failed_ends.specs.call_whys.specs.call_places.specs.script_facts.proofs.FilteredLists.{contains_from}
use Rattle.sock_io.specs.declared.link.Out.{Ghosts}
use Rattle.sock_io.specs.LinkHalves.{OutState}
use Rattle.sock_words.specs.ErrorCodes.{EEOF, EFAILEDSOCKET, EREQUESTS, ERESPONSE, ERPCTIMEDOUT}
use Rattle.sock_words.specs.declared.outcome.Outcome.{Outcome}
use Rattle.sock_words.specs.declared.outcome.Outcome.TheVariants as outcome
use Rattle.sock_words.specs.declared.plain.Plan.{Plan}
use Rattle.sock_words.specs.declared.place_word.PlaceWord.{PlaceWord}
use Rattle.sock_words.specs.declared.vref.Vref.{Vref}
use Rattle.failed_ends.specs.Below.SockRule.ClosingWordsAndNotes.{PlacesDiffer}
use Rattle.seat_programs.specs.declared.task.Op.TheVariants as ops
use Rattle.seat_programs.specs.declared.task.Task.{Task}
use Rattle.seat_programs.specs.Explained.{AreTasks, IsTask, Became}
use Rattle.seat_programs.specs.ExplainedCalls.{WhyExpire, all_accepted}
use Rattle.corr_core.specs.IdSlotWord.{parts, code_of}
use Rattle.corr_core.specs.declared.marks.Kept.{Kept}
use Rattle.corr_core.specs.declared.marks.Noted.{Noted}
use Rattle.corr_core.specs.declared.marks.View.{View}
use Rattle.corr_id.specs.id_rule.specs.LawfulIdTable.{call_index, notes_of}
use Rattle.sock_message.specs.Asked.{Asked}
use Rattle.corr_id.specs.declared.posts.Posted.{Posted}
use Rattle.corr_id.specs.declared.posts.Posted.TheVariants.{Locked as HasLock, Crowded}
use Rattle.corr_id.specs.SeatBehindIdCalls.{is_saw}
use Rattle.corr_id.specs.ClosingIdLists.{Closing}
use Rattle.failed_ends.specs.Below.RpcClient.Told.{Told}
use Rattle.failed_ends.specs.Below.CallErrors.ClientBooks.{Books, CallStand}
use Rattle.failed_ends.specs.Below.CallErrors.PostedErrors.{PostedAs}
use Rattle.failed_ends.specs.Below.CallErrors.ExpireAndJoinOutcomes.{found_id, outcome_by, TimedOut}
use Rattle.failed_ends.specs.Below.CallRun.ReadersOfLinks.{LinkReader}
use Rattle.failed_ends.specs.Below.CallRun.Threads.{Thread, RanWith, MayRunAll, ids_of}
use Rattle.failed_ends.specs.call_whys.specs.call_places.specs.ClientNotesCounted.{HaveNotesOf}
use Rattle.failed_ends.specs.call_whys.specs.call_told.proofs.RestingCallsEnded.{is_word}
use Rattle.failed_ends.specs.call_whys.specs.call_places.specs.sock_deeds.specs.SocketTableRun.{IsOperation, seat_of, DeedRun}
use Rattle.failed_ends.specs.call_whys.specs.call_places.specs.sock_deeds.proofs.MessagesAcceptedByDeeds.{log}
use Rattle.failed_ends.specs.call_whys.specs.call_places.specs.sock_deeds.proofs.OrdersOfDeeds.{orders}
use Rattle.failed_ends.specs.call_whys.specs.call_places.specs.sock_deeds.proofs.WholeSocketDeeds.{laws_of}
use Rattle.failed_ends.specs.call_whys.specs.expire_told.specs.ExpireOutcomesSaid.{AreSaid, HaveKeptOf, WhyExpired}
use Rattle.failed_ends.specs.call_whys.specs.expire_told.proofs.ExpireOutcomeCauses.{IsMade, made_of, expire_made, found_maker}
use Rattle.failed_ends.specs.call_whys.specs.expire_told.proofs.ExpireEndedCall.{timed_out_word}
use Rattle.failed_told.proofs.DroppedAttempts.{drop_code}
use Rattle.failed_ends.proofs.Queued.{read_posted, WasDropCode, queued_code}
use Rattle.failed_ends.specs.failed_reasons.proofs.NotedErrorsInViews.{queued_in}
use Rattle.failed_ends.specs.call_whys.specs.call_places.proofs.CallPlaceOrders.{noted_among, crew_of}
use Rattle.failed_ends.specs.failed_reasons.proofs.FailedRunPremises.{OthersRead}
use Rattle.seat_programs.specs.brpc_model.specs.Why.{IsPosted}
use Rattle.sock_words.specs.PackedWords.{id_slot}
use Rattle.sock_words.specs.Totals.{total}

-- the codes of a crowded id
same_codes : (a b c d : ℕ) → outcome.Crowded a b ≡ outcome.Crowded c d → (c ≡ a) × (d ≡ b)
same_codes a b c d e = (cc, cc)

module _ {O : Type 0} {g : Ghosts O} {state : O → OutState} {readers : List (LinkReader g)} {p : Plan} {slots : ℕ} {setup : List Task} {clients : List (List Task)} {opens : List ℕ} {told ended : List (List Told)} {places : List PlaceWord} {vrefs : List Vref} {outs : List O} {ids : List (View Asked)}
    (run : RanWith g state readers p slots setup clients opens told ended places vrefs outs ids) (tasks : AreTasks p (setup ∷ clients)) (may : MayRunAll p (ids_of p slots) setup clients)
    (notes : List (Noted Asked)) (kept : List Kept) (words : List ℕ) (closing : Closing (ids_of p slots) notes kept words) (noted : HaveNotesOf ids notes) (keeps : HaveKeptOf ids kept)
    (outcomes : List (Option Outcome)) (said_own : AreSaid outcomes told) (said_ended : AreSaid outcomes ended) (others : OthersRead ids notes)
    (drun : DeedRun g state p (setup ∷ clients) outcomes places vrefs outs) (seats : map seat_of drun.seats ≡ map (λ (x : Thread g). x.ended.seat) (run.ran.main ∷ run.ran.others)) (logged : log drun ≡ run.closed.ordered.log) (differ : PlacesDiffer (log drun)) (gave : ℕ → List ℕ)
    (all_there : length (log drun) ≤ all_accepted p.links (orders drun differ)) (few : p.operations ≤ 65536) (few_links : p.links ≤ 65536)
    (bounds : (client number name code : ℕ) → IsOperation (setup ∷ clients) outcomes client number (ops.Fail name code) → (1500 ≤ code) × (code ≤ 1999)) where
  open crew_of run use {q, every}
  open laws_of drun differ gave use {fixed_here, orders_here}

  abbrev PostedHere : ℕ → Type 0
  PostedHere code = IsPosted code

  dropped_posted : (code : ℕ) → WasDropCode p every outcomes fixed_here gave orders_here run said_own notes others code → PostedHere code
  dropped_posted code d = elim (drop_code run tasks may notes kept words closing noted outcomes drun seats logged differ gave all_there few few_links bounds d.place d.client d.in_crew d.id code d.attempt d.drop) [
    | inl e ↦ inl (subst (λ (z : ℕ). Contains (ERPCTIMEDOUT ∷ EFAILEDSOCKET ∷ EEOF ∷ ERESPONSE ∷ EREQUESTS ∷ []) z) (sym e) (contains_from (ERPCTIMEDOUT ∷ EFAILEDSOCKET ∷ EEOF ∷ ERESPONSE ∷ EREQUESTS ∷ []) EFAILEDSOCKET (1, refl)))
    | inr o ↦ elim o [ inl b ↦ inr b | inr r ↦ read_posted p every outcomes fixed_here gave orders_here code r ]
  ]

  -- each error that was ever queued has a code that is posted
  pub queued_posted : (i f e : ℕ) → 0 < queued_in i f e notes → PostedHere (code_of e)
  queued_posted i f e there = elim (queued_code p every outcomes fixed_here gave orders_here run said_own notes others i f e there) [ inl posted ↦ posted | inr d ↦ dropped_posted (code_of e) d ]

  -- ## Crowded ids

  module _ (c of : ℕ) (t : Task) (a b : ℕ) (is : IsTask every outcomes c t) (op : t.op ≡ ops.Expire of) (became : Became every outcomes t.number (outcome.Crowded a b)) where
    m : IsMade run tasks may notes kept words closing noted keeps outcomes said_own said_ended c t
    m = made_of run tasks may notes kept words closing noted keeps outcomes said_own said_ended c t is

    h : TimedOut q of (outcome.Crowded a b) m.done.made.ready.calls m.done.after.has.calls
    h = expire_made run tasks may notes kept words closing noted keeps outcomes said_own said_ended c of t (outcome.Crowded a b) m op became

    inside : id_slot h.id < slots
    inside =
        let w = is_word (call_index q of) h.id in let x = timed_out_word q of (outcome.Crowded a b) m.done.made.ready.calls m.done.after.has.calls h in let y = (m.done.later of).1.grows.kept w in
        (found_maker run tasks may notes kept words closing noted keeps outcomes said_own said_ended of h.id c m.client m.at (omega (arith, x, y))).begun.inside

    -- a word that was found behind the post
    seen : (word : ℕ) (v : View Asked) (bs : Books) → m.done.after.has.calls ≡ record { view = v; books = bs } → 0 < total (is_saw word) (notes_of (id_slot h.id) v.notes) → 0 < total (is_saw word) (notes_of (id_slot h.id) notes)
    seen word v bs e found =
        let x = ap (λ (s : CallStand). total (is_saw word) (notes_of (id_slot h.id) s.view.notes)) e in let y = (m.done.later of).1.grows.notes (id_slot h.id) (is_saw word) in
        let z = noted_among run notes noted c m.client m.at (id_slot h.id) (is_saw word) in omega (arith, x, y, z, found)

    by_answer : (answer : Posted Asked) → outcome.Crowded a b ≡ outcome_by answer → PostedAs slots answer (found_id q of h.id m.done.made.ready.calls) h.id ERPCTIMEDOUT None m.done.after.has.calls → PostedHere a × PostedHere b
    by_answer (HasLock k) e x = absurd (cc)
    by_answer (Crowded first second) e x =
        let same = same_codes a b first second e in let word = x.post.1.0 in let was = x.post.1.1 in
        let saw = seen word x.view m.done.made.ready.calls.books x.handled was.0 in let taken : 0 < (parts word).state = (let s = was.2 in omega (arith, s)) in
        let oldest = closing.oldest_is (id_slot h.id) word inside saw taken (λ z. was.3 (closing.in_turn (id_slot h.id) word inside saw was.2 z)) in
        let younger = closing.second_is (id_slot h.id) word inside saw taken was.3 in (
          subst PostedHere (was.5 ∙ same.0) (queued_posted (id_slot h.id) (parts word).first (parts word).oldest oldest),
          subst PostedHere (was.6 ∙ same.1) (queued_posted (id_slot h.id) (parts word).first (parts word).second younger),
        )
    by_answer _ e x = absurd (cc)

    -- both codes of a crowded id are posted
    pub crowded_posted : PostedHere a × PostedHere b
    crowded_posted = by_answer h.answer h.by_answer h.posted

  -- so an `expire` has its outcome as is told of it
  pub expire_posted : (last : ℕ → ℕ) (c of : ℕ) (t : Task) (by : Outcome) → IsTask every outcomes c t → t.op ≡ ops.Expire of → Became every outcomes t.number by → WhyExpired p every outcomes fixed_here gave orders_here c t.number of by → WhyExpire p every outcomes fixed_here gave orders_here last c t.number of by
  expire_posted last c of t outcome.Expired is op became why = why
  expire_posted last c of t outcome.Queued is op became why = why
  expire_posted last c of t outcome.Late is op became why = why
  expire_posted last c of t (outcome.Crowded a b) is op became why = let posted = crowded_posted c of t a b is op became in (why, posted.0, posted.1)
  expire_posted last c of t outcome.NotBegun is op became why = why
  expire_posted last c of t _ is op became why = elim why [ ]
