-- Of a call that was left, and ended by whoever ends what is left: its range had not ended before, and no later one had been found in its slot.
use Rattle.std.proofs.Common.{◌≡◌, ℕ, ◌+◌, ◌*◌, ◌<◌, ◌≤◌, ◌⊎◌, inl, inr, Bool, cond, eq-eqb, List, [], ◌∷◌, ◌++◌, append-nil, append_assoc, Some, None, refl, sym, ap, ◌∙◌, subst, arith}
use Rattle.std.specs.Prelude.{Option, position}
use Rattle.std.specs.List.{AllByRecursion}
use mathlib.Core.Logic.{dite}
use mathlib.Core.Option.{some}
use native.Mathlib.Decide.{ℕ_discrete}
use lib.ListN.{get_elem?}
use Rattle.sock_io.specs.declared.link.Out.{Ghosts}
use Rattle.sock_io.specs.LinkHalves.{OutState}
use Rattle.sock_words.specs.declared.outcome.Outcome.{Outcome}
use Rattle.sock_words.specs.declared.outcome.Outcome.TheVariants.{CallFailed}
use Rattle.sock_words.specs.declared.plain.Plan as sizes
use Rattle.sock_words.specs.declared.place_word.PlaceWord.{PlaceWord}
use Rattle.sock_words.specs.declared.vref.Vref.{Vref}
use Rattle.seat_programs.specs.declared.task.Task.{Task}
use Rattle.seat_programs.specs.Explained.{AreTasks}
use Rattle.corr_core.specs.IdSlotWord.{Parts, parts}
use Rattle.corr_core.specs.IdSlotLaw.{is_ended}
use Rattle.corr_core.specs.declared.marks.Kept.{Kept}
use Rattle.corr_core.specs.declared.marks.Note.{Note}
use Rattle.corr_core.specs.declared.marks.Note.TheVariants.{Ended}
use Rattle.corr_core.specs.declared.marks.Noted.{Noted}
use Rattle.corr_core.specs.declared.marks.Plan.{Plan}
use Rattle.corr_core.specs.declared.marks.View.{View}
use Rattle.corr_core.proofs.NoteSums.{only-at, only-else}
use Rattle.corr_id.specs.id_rule.specs.LawfulIdTable.{notes_of}
use Rattle.sock_message.specs.Asked.{Asked}
use Rattle.corr_id.specs.SeatBehindIdCalls.{FoundUpTo, is_saw}
use Rattle.corr_id.specs.ClosingIdLists.{Closing}
use Rattle.attempts_told.specs.Below.PrpcFrame.FrameMeaning.{frame_of}
use Rattle.sock_message.specs.brpc_model.specs.ResponseOutcome.{ending_of}
use Rattle.attempts_told.specs.Below.RpcClient.Told.{Told}
use Rattle.attempts_told.specs.Below.RpcReader.ReaderBooks.{Books, EndedAs, ToldBy, id_of}
use Rattle.attempts_told.specs.Below.RpcReader.Met.{is_for}
use Rattle.attempts_told.specs.Below.RpcReader.PostingAtReadingEnd.{LostBy}
use Rattle.attempts_told.specs.Below.RpcReader.CallsLeftAfterReading.{HadEnded, EndedLast, OneEnded, RestEnded}
use Rattle.attempts_told.specs.Below.CallRun.ReadersOfLinks.{LinkReader}
use Rattle.attempts_told.specs.Below.CallRun.Threads.{RanWith, MayRunAll, ids_of}
use Rattle.attempts_told.specs.call_whys.specs.call_places.specs.ClientNotesCounted.{HaveNotesOf}
use Rattle.attempts_told.specs.call_whys.specs.call_places.proofs.IdsOfRetries.{IsIdOf, one_id}
use Rattle.attempts_told.specs.call_whys.specs.call_places.proofs.ClientPlaces.{Client, view_of}
use Rattle.attempts_told.specs.call_whys.specs.call_places.proofs.CallPlaceOrders.{all as all_clients, made_once}
use Rattle.attempts_told.specs.call_whys.specs.call_told.specs.Least.{is_made_for}
use Rattle.attempts_told.specs.call_whys.specs.call_told.specs.ToldOnce.{ends_of}
use Rattle.attempts_told.specs.call_whys.specs.call_told.proofs.ListElementsByPlace.{all_both, all_then}
use Rattle.attempts_told.specs.call_whys.specs.call_told.proofs.MetResponses.{one_goes, rest_goes}
use Rattle.attempts_told.specs.call_whys.specs.call_told.proofs.Tallies.{ending_is, version_low}
use Rattle.attempts_told.proofs.SendersWithCalls.{made_for_there}
use Rattle.sock_words.specs.PackedWords.{id_slot}
use Rattle.sock_words.specs.Totals.{total}

-- all notes of the one list are in the other
abbrev pub MoreNotes : List (Noted Asked) → List (Noted Asked) → Type 0
MoreNotes ns ms = (j : ℕ) (f : Note Asked → ℕ) → total f (notes_of j ns) ≤ total f (notes_of j ms)

-- an outcome that is the end of the call with this id shows it
ended_id : (k id code : ℕ) → ends_of k (CallFailed id code) ≡ 1 → id ≡ k
ended_id k id code is = dite (ℕ_discrete id k) (λ e. e) (λ n. absurd (let a = only-else k id n in omega (arith, a, is)))

module _ (slots : ℕ) where
  -- what is told is the end of a call: its range ended between the notes ns and the notes ms, and no word among ns has a later range
  pub record IsLast (ns ms : List (Noted Asked)) (x : Told) : Type 0 where
    pub slot : ℕ
    pub first : ℕ
    pub inside : slot < slots
    pub low : first < 4294967296
    pub is_end : ends_of (slot * 4294967296 + first) x.outcome ≡ 1
    pub noted : total (is_ended first) (notes_of slot ns) + 1 ≤ total (is_ended first) (notes_of slot ms)
    pub latest : (w : ℕ) → 0 < total (is_saw w) (notes_of slot ns) → (parts w).first ≤ first

  -- what is told more, by such notes
  pub record TellsLast (ts us : List Told) (ns ms : List (Noted Asked)) : Type 0 where
    pub more : List Told
    pub told : us ≡ ts ++ more
    pub each : AllByRecursion (IsLast ns ms) more

  last_none : (ts us : List Told) (ns ms : List (Noted Asked)) → us ≡ ts → TellsLast ts us ns ms
  last_none ts us ns ms e = record { more = []; told = e ∙ sym (append-nil ts); each = tt }

  last_wider : (ks ns ms ls : List (Noted Asked)) → MoreNotes ks ns → MoreNotes ms ls → (x : Told) → IsLast ns ms x → IsLast ks ls x
  last_wider ks ns ms ls from to x h = record {
    slot = h.slot;
    first = h.first;
    inside = h.inside;
    low = h.low;
    is_end = h.is_end;
    noted = (let a = from h.slot (is_ended h.first) in let b = to h.slot (is_ended h.first) in let c = h.noted in omega (arith, a, b, c));
    latest = λ w found. h.latest w (let a = from h.slot (is_saw w) in omega (arith, a, found));
  }

  last_then : (ts us vs : List Told) (ns ms ls : List (Noted Asked)) → MoreNotes ns ms → MoreNotes ms ls → TellsLast ts us ns ms → TellsLast us vs ms ls → TellsLast ts vs ns ls
  last_then ts us vs ns ms ls from to a b = record {
    more = a.more ++ b.more;
    told = b.told ∙ (ap (λ (l : List Told). l ++ b.more) a.told ∙ append_assoc ts a.more b.more);
    each = all_both (IsLast ns ls) a.more b.more (all_then (IsLast ns ms) (IsLast ns ls) a.more (last_wider ns ns ms ls (λ j f. omega arith) to) a.each) (all_then (IsLast ms ls) (IsLast ns ls) b.more (last_wider ns ms ls ls from (λ j f. omega arith)) b.each);
  }

  -- a range that was locked ended
  module _ (slot : ℕ) (inside : slot < slots) (w : Parts) (low : w.first < 4294967296) (call : Asked) (ns : List (Noted Asked)) (b b' : Books) (grows : MoreNotes ns b.view.notes) (latest : FoundUpTo slot w.first b.view) where
    ended_more : (by : Outcome) → EndedAs slot w call by b b' → total (is_ended w.first) (notes_of slot ns) + 1 ≤ total (is_ended w.first) (notes_of slot b'.view.notes)
    ended_more by e =
        let f : ℕ = w.first in let x : Note Asked = Ended f w.attempt in
        let a = ap (λ (l : List (Noted Asked)). total (is_ended f) (notes_of slot l)) e.ended.notes in
        let c = ap (λ (y : Bool). total (is_ended f) (cond y (x ∷ notes_of slot b.view.notes) (notes_of slot b.view.notes))) (eq-eqb slot slot refl) in
        let d = only-at f f refl in let g = grows slot (is_ended f) in omega (arith, a, c, d, g)

    as_last : (by : Outcome) → ends_of (id_of slot w) by ≡ 1 → EndedAs slot w call by b b' → TellsLast b.told b'.told ns b'.view.notes
    as_last by is e = told_by e.told
      where
        told_by : ToldBy call.operation by b.told b.starved b'.told b'.starved → TellsLast b.told b'.told ns b'.view.notes
        told_by (inl t) = record {
          more = record { number = call.operation; outcome = by } ∷ [];
          told = t.0;
          each = (record { slot = slot; first = w.first; inside = inside; low = low; is_end = is; noted = ended_more by e; latest = λ y found. latest y (let a = grows slot (is_saw y) in omega (arith, a, found)) }, tt);
        }
        told_by (inr t) = last_none b.told b'.told ns b'.view.notes t.0

    lost_last : (code : ℕ) (o : Option ℕ) → LostBy slot w call code o b b' → TellsLast b.told b'.told ns b'.view.notes
    lost_last code None l = as_last (CallFailed (id_of slot w) code) (only-at (id_of slot w) (id_of slot w) refl) l.0
    lost_last code (Some i) l = as_last (ending_of (id_of slot w) (frame_of l.0)) (ending_is (id_of slot w) (id_of slot w) (frame_of l.0) ∙ only-at (id_of slot w) (id_of slot w) refl) l.3

  id_last : (code id : ℕ) (b b' : Books) → HadEnded slots id b b' ⊎ EndedLast slots code id b b' → TellsLast b.told b'.told b.view.notes b'.view.notes
  id_last code id b b' (inl h) = last_none b.told b'.told b.view.notes b'.view.notes (ap (λ (x : Books). x.told) h.same)
  id_last code id b b' (inr l) = let u : Books = record b { view = l.locked } in
      lost_last (id_slot id) l.inside l.word (let a = l.range.0 in let c = version_low id in omega (arith, a, c)) l.call b.view.notes u b' l.got.did.grows l.got.latest code (position (is_for (id_slot id) l.word) b.early) l.lost

  one_last : (p : Plan) → p.slots ≡ slots → (code operation : ℕ) (b b' : Books) → OneEnded p code operation b b' → TellsLast b.told b'.told b.view.notes b'.view.notes
  one_last p is code operation b b' (inl n) = last_none b.told b'.told b.view.notes b'.view.notes (ap (λ (x : Books). x.told) n.same)
  one_last p is code operation b b' (inr n) = let u : Books = record b { view = n.seen } in
      subst (λ (ns : List (Noted Asked)). TellsLast b.told b'.told ns b'.view.notes) (ap (λ (v : View Asked). v.notes) n.kept) (id_last code n.id u b' (subst (λ (s : ℕ). HadEnded s n.id u b' ⊎ EndedLast s code n.id u b') is n.ends))

  -- of all calls that were left
  pub rest_last : (p : Plan) → p.slots ≡ slots → (code : ℕ) (os : List ℕ) (b b' : Books) → RestEnded p code os b b' → TellsLast b.told b'.told b.view.notes b'.view.notes
  rest_last p is code [] b b' h = last_none b.told b'.told b.view.notes b'.view.notes (ap (λ (x : Books). x.told) h)
  rest_last p is code (o ∷ os) b b' h =
      last_then b.told h.0.told b'.told b.view.notes h.0.view.notes b'.view.notes (one_goes slots code p is o b h.0 h.1).grows (rest_goes slots code p is os h.0 b' h.2).grows
      (one_last p is code o b h.0 h.1) (rest_last p is code os h.0 b' h.2)

-- ## The run

module _ {O : Type 0} {g : Ghosts O} {state : O → OutState} {readers : List (LinkReader g)} {p : sizes.Plan} {slots : ℕ} {setup : List Task} {clients : List (List Task)} {opens : List ℕ} {told ended : List (List Told)} {places : List PlaceWord} {vrefs : List Vref} {outs : List O} {ids : List (View Asked)}
    (run : RanWith g state readers p slots setup clients opens told ended places vrefs outs ids) (tasks : AreTasks p (setup ∷ clients)) (may : MayRunAll p (ids_of p slots) setup clients)
    (notes : List (Noted Asked)) (kept : List Kept) (words : List ℕ) (closing : Closing (ids_of p slots) notes kept words) (noted : HaveNotesOf ids notes)
    -- the notes with which whoever ends what is left begins have those of each client
    (ns : List (Noted Asked)) (have : (c : ℕ) (x : Client g state p (ids_of p slots)) → get_elem? (all_clients run) c ≡ some x → MoreNotes (view_of x).notes ns) where
  -- no client ended the range of the operation's call, or found a later one in its slot
  pub over_last : (o id code : ℕ) (x : Told) (h : IsLast slots ns notes x) → x.outcome ≡ CallFailed id code → IsIdOf slots notes o id → (slot first : ℕ) → slot < slots → first < 4294967296 → 0 < total (is_made_for first o) (notes_of slot notes)
      → (c : ℕ) (y : Client g state p (ids_of p slots)) → get_elem? (all_clients run) c ≡ some y → (total (is_ended first) (notes_of slot (view_of y).notes) ≡ 0) × FoundUpTo slot first (view_of y)
  over_last o id code x h is its slot first inside low made c y at =
      subst (λ (i : ℕ). (total (is_ended first) (notes_of i (view_of y).notes) ≡ 0) × FoundUpTo i first (view_of y)) slot_is
      (subst (λ (f : ℕ). (total (is_ended f) (notes_of h.slot (view_of y).notes) ≡ 0) × FoundUpTo h.slot f (view_of y)) first_is
      ((let a = have c y at h.slot (is_ended h.first) in let b = h.noted in let once = closing.ended_once h.slot h.first h.inside in omega (arith, a, b, once)), λ w found. h.latest w (let a = have c y at h.slot (is_saw w) in omega (arith, a, found))))
    where
      also : IsIdOf slots notes o (slot * 4294967296 + first)
      also = let m = made_for_there first o (notes_of slot notes) made in record { slot = slot; first = first; inside = inside; low = low; id_is = refl; range = m.0; asked = m.1; place = m.2; made = m.3; operation = m.4 }

      same : h.slot * 4294967296 + h.first ≡ slot * 4294967296 + first
      same = sym (ended_id (h.slot * 4294967296 + h.first) id code (sym (ap (ends_of (h.slot * 4294967296 + h.first)) is) ∙ h.is_end)) ∙ one_id slots notes o id (slot * 4294967296 + first) (made_once run tasks may notes noted o) its also

      slot_is : h.slot ≡ slot
      slot_is = let a = same in let b = h.low in omega (arith, a, b, low)

      first_is : h.first ≡ first
      first_is = let a = same in let b = h.low in omega (arith, a, b, low)
