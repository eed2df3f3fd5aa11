-- Why a client ended a call: since an `expire` of it was answered `expired` or `queued`; since its last attempt was lost; or by an error of whoever read the links.
use Rattle.std.proofs.Common.{◌≡◌, ℕ, ◌+◌, ◌<◌, ◌≤◌, ◌⊎◌, inl, inr, Bool, true, false, List, ◌∷◌, Some, refl, sym, ap, ◌∙◌, subst, arith}
use Rattle.std.specs.Prelude.{Option, ◌==◌, ◌||◌, if◌then◌else◌}
use Rattle.std.proofs.lemmas.Bool.{eqb-true}
use mathlib.Core.Option.{some}
use lib.ListN.{get_elem?}
use Rattle.failed_reasons.specs.call_whys.specs.call_places.specs.script_facts.proofs.FilteredLists.{contains_from}
use Rattle.sock_io.specs.declared.link.Out.{Ghosts}
use Rattle.sock_io.specs.LinkHalves.{OutState}
use Rattle.sock_words.specs.ErrorCodes.{ERPCTIMEDOUT, is_final}
use Rattle.sock_words.specs.declared.outcome.Outcome.{Outcome}
use Rattle.sock_words.specs.declared.outcome.Outcome.TheVariants as outcome
use Rattle.sock_words.specs.declared.plain.Plan.{Plan}
use Rattle.sock_words.specs.declared.place_word.PlaceWord.{PlaceWord}
use Rattle.sock_words.specs.declared.vref.Vref.{Vref}
use Rattle.seat_programs.specs.declared.task.Op.TheVariants as ops
use Rattle.seat_programs.specs.declared.task.Task.{Task}
use Rattle.seat_programs.specs.Explained.{AreTasks, IsTask, Became}
use Rattle.seat_programs.specs.ExplainedCalls.{Fixed, Order, IsExpiredWith, FailedBy, ByExpiry}
use Rattle.corr_core.specs.IdSlotWord.{Parts, parts}
use Rattle.corr_core.specs.declared.marks.Kept.{Kept}
use Rattle.corr_core.specs.declared.marks.Note.{Note}
use Rattle.corr_core.specs.declared.marks.Note.TheVariants.{Made, Locker}
use Rattle.corr_core.specs.declared.marks.Noted.{Noted}
use Rattle.corr_core.specs.declared.marks.View.{View}
use Rattle.corr_core.proofs.NoteSums.{only-at, total_some}
use Rattle.corr_id.specs.id_rule.specs.LawfulIdTable.{call_index, notes_of}
use Rattle.sock_message.specs.Asked.{Asked}
use Rattle.corr_id.specs.SeatBehindIdCalls.{is_saw}
use Rattle.corr_id.specs.ClosingIdLists.{Closing}
use Rattle.corr_id.specs.PostAnswers.{IsTimely}
use Rattle.corr_id.specs.declared.calls.IdLock.{IdLock}
use Rattle.corr_id.proofs.LockRangeLengths.{lock_range}
use Rattle.failed_reasons.specs.Below.RpcClient.Told.{Told}
use Rattle.call_table.specs.declared.errors.Decision.TheVariants as decisions
use Rattle.failed_reasons.specs.Below.CallErrors.LockingByVersion.{id_in}
use Rattle.failed_reasons.specs.Below.CallErrors.CallEndsWithCode.{failed}
use Rattle.failed_reasons.specs.Below.CallErrors.Handling.{decision}
use Rattle.failed_reasons.specs.Below.CallRun.ReadersOfLinks.{LinkReader}
use Rattle.failed_reasons.specs.Below.CallRun.Threads.{RanWith, MayRunAll, ids_of}
use Rattle.failed_reasons.specs.call_whys.specs.call_places.specs.ClientNotesCounted.{HaveNotesOf}
use Rattle.failed_reasons.specs.call_whys.specs.call_places.proofs.ClientPlaces.{Client, view_of, tasks_of, deeds_of}
use Rattle.failed_reasons.specs.call_whys.specs.call_places.proofs.CallPlaceOrders.{tasks_are, noted_among, crew_of}
use Rattle.failed_reasons.specs.call_whys.specs.call_told.specs.Least.{is_made_for, is_locked_for}
use Rattle.failed_reasons.specs.call_whys.specs.call_told.proofs.ToldCallEnds.{IsEndOf}
use Rattle.failed_reasons.specs.call_whys.specs.call_told.proofs.Least.{lock_of, end_number}
use Rattle.failed_reasons.specs.call_whys.specs.expire_told.specs.ExpireOutcomesSaid.{AreSaid, HaveKeptOf}
use Rattle.failed_reasons.specs.call_whys.specs.expire_told.proofs.ExpireOutcomeCauses.{found_maker}
use Rattle.failed_reasons.specs.Missed.{attempt_of}
use Rattle.failed_reasons.specs.ErrorReasons.{KeepsWord, Reason, timed_out, missed, dropped, IsCaused}
use Rattle.failed_ends.proofs.ClientEndsByErrors.{Says}
use Rattle.failed_reasons.proofs.FailedAttemptCodes.{IsMissCode, IsReadCode, deed_code}
use Rattle.failed_ends.proofs.Posters.{Poster, posted_by}
use Rattle.failed_reasons.specs.call_whys.specs.call_places.specs.sock_deeds.proofs.ListPlaces.{to_slice, map_there}
use Rattle.failed_reasons.proofs.FailedRunPremises.{OthersRead, MissedBy, DroppedBy}
use Rattle.sock_words.specs.PackedWords.{id_slot, id_first}
use Rattle.sock_words.specs.Totals.{total}

-- ## The last attempt

-- a decision to end is made of a truth
ends_true : (b : Bool) → (if b then decisions.End else decisions.Retry) ≡ decisions.End → b ≡ true
ends_true true e = refl
ends_true false e = let k : decisions.Retry ≡ decisions.End = e in absurd (cc)

either : (a b : Bool) → a ≡ false → (a || b) ≡ true → b ≡ true
either a b none_ e = subst (λ (x : Bool). (x || b) ≡ true) none_ e

-- an error for an attempt, with a code that leaves retries, ends a call at the last attempt of its range
pub last_one : (k : IdLock Asked) (code n : ℕ) → is_final code ≡ false → decision k code (Some n) ≡ decisions.End → (parts k.word.0).attempt + 2 ≡ (parts k.word.0).range
last_one k code n open_ e = let w : Parts = parts k.word.0 in eqb-true (w.attempt + 2) w.range (either (is_final code) (w.attempt + 2 == w.range) open_ (ends_true (is_final code || (w.attempt + 2 == w.range)) e))

-- ## The run

module _ {O : Type 0} {g : Ghosts O} {state : O → OutState} {readers : List (LinkReader g)} {p : Plan} {slots : ℕ} {setup : List Task} {clients : List (List Task)} {opens : List ℕ} {told ended : List (List Told)} {places : List PlaceWord} {vrefs : List Vref} {outs : List O} {ids : List (View Asked)}
    (run : RanWith g state readers p slots setup clients opens told ended places vrefs outs ids) (tasks : AreTasks p (setup ∷ clients)) (may : MayRunAll p (ids_of p slots) setup clients)
    (notes : List (Noted Asked)) (kept : List Kept) (words : List ℕ) (closing : Closing (ids_of p slots) notes kept words) (noted : HaveNotesOf ids notes) (keeps : HaveKeptOf ids kept)
    (outcomes : List (Option Outcome)) (said_own : AreSaid outcomes told) (said_ended : AreSaid outcomes ended) (others : OthersRead ids notes) where
  open crew_of run use {q, crew, every}

  abbrev PosterHere : ℕ → ℕ → Option ℕ → Type 0
  PosterHere id code attempt = Poster run outcomes said_own notes kept words closing noted others id code attempt

  inside_notes : (c : ℕ) (x : Client g state p q) → get_elem? crew c ≡ some x → (slot : ℕ) (f : Note Asked → ℕ) → total f (notes_of slot (view_of x).notes) ≤ total f (notes_of slot notes)
  inside_notes = noted_among run notes noted

  task_is : (d : ℕ) (y : Client g state p q) → get_elem? crew d ≡ some y → (i : ℕ) (t : Task) → get_elem? (tasks_of y) i ≡ some t → IsTask every outcomes d t
  task_is d y at i t there =
      let its : get_elem? every d ≡ some (tasks_of y) = ap (λ (l : List (List Task)). get_elem? l d) (sym (tasks_are run)) ∙ map_there tasks_of crew d y at in
      (tasks_of y, to_slice every d (tasks_of y) its, contains_from (tasks_of y) t (i, to_slice (tasks_of y) i t there))

  -- of an end that client c told, and had a cause for
  module _ (c : ℕ) (x : Client g state p q) (at : get_elem? crew c ≡ some x) (one : Told) (e : IsCaused state p q (tasks_of x) (Says run outcomes said_own) (deeds_of x) (view_of x) one) where
    abbrev pub lock : IdLock Asked
    lock = e.lock

    abbrev pub id : ℕ
    id = id_in e.lock

    abbrev pub operation : ℕ
    operation = e.lock.content.operation

    -- ## Its call

    told_end : IsEndOf (view_of x) (failed lock e.code)
    told_end = record { slot = lock.slot; first = (parts lock.word.0).first; low = (let l = lock.fits.low in omega (arith, l)); is_end = λ i. refl; locked = e.cause.locked }

    -- whoever keeps the id in mind where an operation's word is does so for its operation
    its_operation : (o d : ℕ) (y : Client g state p q) → get_elem? crew d ≡ some y → KeepsWord (call_index q o) id (view_of y) → operation ≡ o
    its_operation o d y there kept_ =
        let m = found_maker run tasks may notes kept words closing noted keeps outcomes said_own said_ended o id d y there kept_ in
        end_number q notes kept words closing o id (view_of x) (failed lock e.code) (inside_notes c x at) m.begun.inside
        (let a = inside_notes m.place m.client m.at (id_slot id) (is_made_for (id_first id) o) in let b = m.begun.made in omega (arith, a, b))
        told_end (let a = only-at id id refl in omega (arith, a))

    -- its id was made for what was asked, with as many versions as the lock has
    pub made_so : (call : Asked) × (j : ℕ) × (call.operation ≡ operation) × (get_elem? (notes_of lock.slot notes) j ≡ some (Made (parts lock.word.0).first (parts lock.word.0).range call))
    made_so =
        let s = e.cause.seen in let first = (parts lock.word.0).first in
        let n = total_some (is_locked_for first operation) (notes_of lock.slot notes) (let a = inside_notes c x at lock.slot (is_locked_for first operation) in let b = e.cause.locked in omega (arith, a, b)) in
        let l = lock_of first operation n.1 n.3 in
        let there : get_elem? (notes_of lock.slot notes) n.0 ≡ some (Locker (parts s.word).first l.0) = n.2 ∙ (ap some l.1 ∙ ap (λ (f : ℕ). some (Locker f l.0)) (sym s.first_is)) in
        let saw : 0 < total (is_saw s.word) (notes_of lock.slot notes) = (let a = inside_notes c x at lock.slot (is_saw s.word) in let b = s.found in omega (arith, a, b)) in
        let m = lock_range q notes kept words closing lock.slot s.word n.0 l.0 e.cause.inside saw s.taken there in
        (l.0, m.0, l.2, m.1 ∙ (λ i. some (Made (s.first_is i) (s.range_is i) l.0)))

    -- ## By an `expire`

    module _ (fixed : Fixed) (gave : ℕ → List ℕ) (orders : ℕ → Order) where
      -- one of its operation was answered `expired` or `queued`
      abbrev pub WasExpired : Type 0
      WasExpired = IsExpiredWith p every outcomes fixed gave orders operation outcome.Expired ⊎ IsExpiredWith p every outcomes fixed gave orders operation outcome.Queued

      expired_with : (o d i : ℕ) (y : Client g state p q) (t : Task) (by : Outcome) → get_elem? crew d ≡ some y → get_elem? (tasks_of y) i ≡ some t → t.op ≡ ops.Expire o → Became every outcomes t.number by → (by ≡ outcome.Expired) ⊎ (by ≡ outcome.Queued) → KeepsWord (call_index q o) id (view_of y) → WasExpired
      expired_with o d i y t by there task op became counts kept_ =
          let is = task_is d y there i t task in
          let its : t.op ≡ ops.Expire operation = op ∙ ap ops.Expire (sym (its_operation o d y there kept_)) in
          elim counts [
            | inl a ↦ inl (d, t, is, its, subst (λ (b : Outcome). Became every outcomes t.number b) a became)
            | inr a ↦ inr (d, t, is, its, subst (λ (b : Outcome). Became every outcomes t.number b) a became)
          ]

      -- ## Why it ended

      -- an error for an attempt is for the current one
      abbrev IsCurrent : ℕ → Type 0
      IsCurrent n = (e.attempt ≡ Some n) × (n ≡ (parts lock.word.0).attempt)

      -- its current attempt came to nothing
      pub record MissedLast : Type 0 where
        pub attempt : ℕ
        pub current : IsCurrent attempt
        pub by : MissedBy run id attempt e.code
        pub open by use *

      -- or its message was dropped
      pub record DroppedLast : Type 0 where
        pub attempt : ℕ
        pub current : IsCurrent attempt
        pub by : DroppedBy run id attempt e.code
        pub open by use *

      -- its time was out, its attempt came to nothing or was dropped, or whoever read the links ended it
      pub data Verdict : Type 0 where
        timed : e.code ≡ ERPCTIMEDOUT → WasExpired → Verdict
        lost : MissedLast → Verdict
        fell : DroppedLast → Verdict
        behind : IsReadCode e.code → Verdict

      is_current : (n : ℕ) → e.attempt ≡ Some n → IsCurrent n
      is_current n is = (is, subst (λ (a : Option ℕ). IsTimely a (parts lock.word.0).attempt) is e.cause.timely)

      by_reason : (w : PosterHere id e.code e.attempt) → Reason state p q (tasks_of w.client) (Says run outcomes said_own) (deeds_of w.client) (view_of w.client) id e.code e.attempt → Verdict
      by_reason w (timed_out i t o by s u h there is says counts kept_ a b z) = timed b (expired_with o w.place i w.client t by w.at there is says counts kept_)
      by_reason w (missed i d there is backed a z) = lost (record { attempt = attempt_of d; current = is_current (attempt_of d) z; by = record { one = record { place = w.place; client = w.client; in_crew = w.at; index = i; deed = d; there = there }; missed = is; backed = backed; id_is = a; attempt_is = refl } })
      by_reason w (dropped n d z) = fell (record { attempt = n; current = is_current n z; by = record { place = w.place; client = w.client; in_crew = w.at; drop = d } })

      pub verdict : Verdict
      verdict = elim (posted_by run outcomes said_own notes kept words closing noted others c x at lock e.code e.attempt e.cause) [ inl w ↦ by_reason w w.reason | inr loss ↦ behind loss ]

      -- so where its time was out, that is why it failed
      pub by_expiry : (client : ℕ) (asked : Asked) (n : ℕ) → e.code ≡ ERPCTIMEDOUT → WasExpired → FailedBy p every outcomes fixed gave orders client operation asked id e.code n
      by_expiry client asked n is was = ByExpiry is was

      -- ## The last attempt

      -- the call that was made with these versions is a task that asks for as many
      abbrev pub IsAskedSo : Type 0
      IsAskedSo = (i j f r : ℕ) (asked : Asked) → i < slots → get_elem? (notes_of i notes) j ≡ some (Made f r asked) → (d : ℕ) × IsTask every outcomes d record { number = asked.operation; op = ops.Call asked } × (r ≡ asked.range)

      -- what the task of its call asks for
      pub record AskedLast (n : ℕ) : Type 0 where
        pub client : ℕ
        pub asked : Asked
        pub task : IsTask every outcomes client record { number = operation; op = ops.Call asked }
        pub last : n + 2 ≡ asked.range

      open_code : IsMissCode e.code → is_final e.code ≡ false
      open_code (inl a) = ap is_final a
      open_code (inr a) = ap is_final a

      -- an attempt that came to nothing was the last one that the call may have
      pub last_attempt : IsAskedSo → (l : MissedLast) → AskedLast l.attempt
      last_attempt asks l =
          let m = made_so in let w = asks lock.slot m.1 (parts lock.word.0).first (parts lock.word.0).range m.0 e.cause.inside m.3 in
          let a = last_one lock e.code l.attempt (open_code (deed_code l.deed e.code l.missed)) (subst (λ (z : Option ℕ). decision lock e.code z ≡ decisions.End) l.current.0 e.ends) in let b = l.current.1 in let r = w.2 in
          record { client = w.0; asked = m.0; task = subst (λ (o : ℕ). IsTask every outcomes w.0 record { number = o; op = ops.Call m.0 }) m.2 w.1; last = omega (arith, a, b, r) }
