-- An error by which a client ended a call was posted by a client for a reason, or by whoever read the links behind them.
use Rattle.std.proofs.Common.{◌≡◌, ℕ, ◌+◌, ◌*◌, ◌<◌, ◌≤◌, ◌⊎◌, inl, inr, List, Some, None, refl, sym, ap, subst, arith}
use Rattle.std.specs.Prelude.{Option}
use Rattle.std.proofs.lemmas.Nat.{div-add-mod'}
use mathlib.Core.Option.{some}
use lib.ListN.{get_elem?}
use Rattle.sock_io.specs.declared.link.Out.{Ghosts}
use Rattle.sock_io.specs.LinkHalves.{OutState}
use Rattle.sock_words.specs.declared.outcome.Outcome.{Outcome}
use Rattle.sock_words.specs.declared.plain.Plan.{Plan}
use Rattle.sock_words.specs.declared.place_word.PlaceWord.{PlaceWord}
use Rattle.sock_words.specs.declared.vref.Vref.{Vref}
use Rattle.seat_programs.specs.declared.task.Task.{Task}
use Rattle.corr_core.specs.IdSlotWord.{parts, code_of}
use Rattle.corr_core.specs.declared.marks.Kept.{Kept}
use Rattle.corr_core.specs.declared.marks.Noted.{Noted}
use Rattle.corr_core.specs.declared.marks.Plan as id_plan
use Rattle.corr_core.specs.declared.marks.View.{View}
use Rattle.corr_core.proofs.NoteSums.{total_some}
use Rattle.sock_message.specs.Asked.{Asked}
use Rattle.corr_id.specs.SeatBehindIdCalls.{is_saw, error_in}
use Rattle.corr_id.specs.ClosingIdLists.{Closing}
use Rattle.corr_id.specs.PostAnswers.{IsTimely}
use Rattle.corr_id.specs.declared.calls.IdLock.{IdLock}
use Rattle.failed_reasons.specs.Below.RpcClient.Told.{Told}
use Rattle.failed_reasons.specs.Below.CallErrors.LockingByVersion.{id_in}
use Rattle.failed_reasons.specs.Below.CallRun.ReadersOfLinks.{LinkReader}
use Rattle.failed_reasons.specs.Below.CallRun.Threads.{RanWith, ids_of}
use Rattle.failed_reasons.specs.call_whys.specs.call_places.specs.ClientNotesCounted.{HaveNotesOf}
use Rattle.failed_reasons.specs.call_whys.specs.call_places.specs.DeedsOfCallClient.{Deed, operates, retries}
use Rattle.failed_reasons.specs.call_whys.specs.call_places.proofs.ClientPlaces.{Client, total_map, view_of, tasks_of, deeds_of}
use Rattle.failed_reasons.specs.call_whys.specs.call_places.proofs.CallPlaceOrders.{views_are, noted_among, crew_of}
use Rattle.failed_reasons.specs.call_whys.specs.expire_told.specs.ExpireOutcomesSaid.{AreSaid}
use Rattle.failed_reasons.specs.Missed.{attempt_of}
use Rattle.failed_reasons.specs.ErrorReasons.{Reason, timed_out, missed, dropped, posted_so, handed_out, Cause}
use Rattle.failed_ends.proofs.ClientEndsByErrors.{Says, queued_caused}
use Rattle.failed_reasons.proofs.FailedAttemptCodes.{IsReadCode}
use Rattle.failed_reasons.proofs.NotedErrorsInViews.{queued_in}
use Rattle.failed_reasons.proofs.FailedRunPremises.{OthersRead}
use Rattle.sock_words.specs.PackedWords.{id_slot, id_first}
use Rattle.sock_words.specs.Totals.{total}

-- ## Errors in words

-- an attempt that an error can be for
abbrev pub IsLow : Option ℕ → Type 0
IsLow None = Unit {0}
IsLow (Some n) = n ≤ 6

low_of : (attempt : Option ℕ) (n : ℕ) → n ≤ 6 → attempt ≡ Some n → IsLow attempt
low_of attempt n low e = subst IsLow (sym e) low

pub code_is : (code : ℕ) (attempt : Option ℕ) → IsLow attempt → code_of (error_in code attempt) ≡ code
code_is code None low = omega arith
code_is code (Some n) low = omega (arith, low)

-- an error tells its code and its attempt
pub one_error : (code other : ℕ) (a b : Option ℕ) → IsLow a → IsLow b → error_in code a ≡ error_in other b → (code ≡ other) × (a ≡ b)
one_error code other None None la lb e = (omega (arith, e), refl)
one_error code other (Some n) None la lb e = absurd (omega (arith, e, la))
one_error code other None (Some m) la lb e = absurd (omega (arith, e, lb))
one_error code other (Some n) (Some m) la lb e = (omega (arith, e, la, lb), ap Some (omega (arith, e, la, lb)))

pub timely_low : (attempt : Option ℕ) (n : ℕ) → n ≤ 6 → IsTimely attempt n → IsLow attempt
timely_low None n low t = tt
timely_low (Some m) n low t = omega (arith, low, t)

module _ {O : Type 0} {g : Ghosts O} {state : O → OutState} {p : Plan} {q : id_plan.Plan} where
  pub attempt_low : (d : Deed g state p q) → attempt_of d ≤ 6
  attempt_low (operates x by s t a) = omega arith
  attempt_low (retries r s t by) = r.low

  pub reason_low : {xs : List Task} {S : ℕ → Outcome → Type 0} {ds : List (Deed g state p q)} {v : View Asked} {id code : ℕ} {attempt : Option ℕ} → Reason state p q xs S ds v id code attempt → IsLow attempt
  reason_low {attempt = attempt} (timed_out i x operation by s t h there is says counts keeps a b c) = subst IsLow (sym c) tt
  reason_low {attempt = attempt} (missed i d there is backed a b) = low_of attempt (attempt_of d) (attempt_low d) b
  reason_low {attempt = attempt} (dropped n d z) = low_of attempt n (let a = d.attempt_is in let b = d.drop.msg.numbered in omega (arith, a, b)) z

-- ## The run

module _ {O : Type 0} {g : Ghosts O} {state : O → OutState} {readers : List (LinkReader g)} {p : Plan} {slots : ℕ} {setup : List Task} {clients : List (List Task)} {opens : List ℕ} {told ended : List (List Told)} {places : List PlaceWord} {vrefs : List Vref} {outs : List O} {ids : List (View Asked)}
    (run : RanWith g state readers p slots setup clients opens told ended places vrefs outs ids) (outcomes : List (Option Outcome)) (said : AreSaid outcomes told)
    (notes : List (Noted Asked)) (kept : List Kept) (words : List ℕ) (closing : Closing (ids_of p slots) notes kept words) (noted : HaveNotesOf ids notes) (others : OthersRead ids notes) where
  open crew_of run use {q, crew}

  -- a client had a reason to post this error
  pub record Poster (id code : ℕ) (attempt : Option ℕ) : Type 0 where
    pub place : ℕ
    pub client : Client g state p q
    pub at : get_elem? crew place ≡ some client
    pub reason : Reason state p q (tasks_of client) (Says run outcomes said) (deeds_of client) (view_of client) id code attempt

  -- an error that clients queued
  pub by_clients : (k : IdLock Asked) (code : ℕ) (attempt : Option ℕ) → IsLow attempt → 0 < total (λ (v : View Asked). queued_in k.slot (parts k.word.0).first (error_in code attempt) v.notes) ids → Poster (id_in k) code attempt
  by_clients k code attempt low own =
      let queues : View Asked → ℕ = λ v. queued_in k.slot (parts k.word.0).first (error_in code attempt) v.notes in
      let s = total_some (λ (y : Client g state p q). queues (view_of y)) crew (let b = total_map queues view_of crew in let d = ap (total queues) (views_are run) in omega (arith, own, b, d)) in
      let h = queued_caused run outcomes said s.0 s.1 s.2 k.slot (parts k.word.0).first (error_in code attempt) s.3 in
      let whole : id_slot h.id * 4294967296 + id_first h.id ≡ h.id = div-add-mod' h.id 4294967296 in
      let a = h.slot_is in let b = h.first_is in
      let same : h.id ≡ id_in k = omega (arith, whole, a, b) in
      let e = one_error h.code code h.attempt attempt (reason_low h.reason) low h.error_is in
      let R : ℕ → ℕ → Option ℕ → Type 0 = λ i z w. Reason state p q (tasks_of s.1) (Says run outcomes said) (deeds_of s.1) (view_of s.1) i z w in
      record {
        place = s.0;
        client = s.1;
        at = s.2;
        reason = subst (λ (i : ℕ). R i code attempt) same (subst (λ (z : ℕ). R h.id z attempt) e.0 (subst (λ (w : Option ℕ). R h.id h.code w) e.1 h.reason));
      }

  queued_by : (k : IdLock Asked) (code : ℕ) (attempt : Option ℕ) → IsLow attempt → 0 < queued_in k.slot (parts k.word.0).first (error_in code attempt) notes → Poster (id_in k) code attempt ⊎ IsReadCode code
  queued_by k code attempt low there = elim (others k.slot (parts k.word.0).first (error_in code attempt) there) [
    | inl own ↦ inl (by_clients k code attempt low own)
    | inr loss ↦ inr (subst IsReadCode (code_is code attempt low) loss)
  ]

  -- the error of a lock of a client
  pub posted_by : (c : ℕ) (x : Client g state p q) → get_elem? crew c ≡ some x → (k : IdLock Asked) (code : ℕ) (attempt : Option ℕ) → Cause state p q (tasks_of x) (Says run outcomes said) (deeds_of x) (view_of x) k code attempt → Poster (id_in k) code attempt ⊎ IsReadCode code
  posted_by c x at k code attempt cause = elim cause.origin [
    | posted_so reason ↦ inl (record { place = c; client = x; at = at; reason = reason })
    | handed_out word found locked first oldest some_ ↦ queued_by k code attempt (timely_low attempt (parts k.word.0).attempt (let a = k.fits.room in let b = k.fits.range_high in omega (arith, a, b)) cause.timely) (
        let here = noted_among run notes noted c x at k.slot (is_saw word) in
        let w = closing.oldest_is k.slot word cause.inside (omega (arith, here, found)) (omega (arith, locked)) some_ in
        let same : queued_in k.slot (parts word).first (parts word).oldest notes ≡ queued_in k.slot (parts k.word.0).first (error_in code attempt) notes = λ i. queued_in k.slot (first i) (oldest i) notes in omega (arith, w, same)
        )
  ]
