-- Why an id advanced to the next attempt: the attempt before it came to nothing, or its message was dropped.
use Rattle.std.proofs.Common.{◌≡◌, ℕ, ◌+◌, ◌*◌, ◌<◌, inl, inr, Bool, true, false, List, Some, None, refl, sym, ap, ◌∙◌, subst, arith}
use Rattle.std.specs.Prelude.{Option, ◌||◌, ◌==◌, if◌then◌else◌}
use Rattle.std.proofs.lemmas.Option.{none-some, same_Some}
use mathlib.Core.Option.{some}
use lib.ListN.{get_elem?}
use Rattle.sock_io.specs.declared.link.Out.{Ghosts}
use Rattle.sock_io.specs.LinkHalves.{OutState}
use Rattle.sock_words.specs.declared.outcome.Outcome.{Outcome}
use Rattle.sock_words.specs.declared.plain.Plan.{Plan}
use Rattle.sock_words.specs.declared.place_word.PlaceWord.{PlaceWord}
use Rattle.sock_words.specs.declared.vref.Vref.{Vref}
use Rattle.sock_words.specs.ErrorCodes.{is_final}
use Rattle.seat_programs.specs.declared.task.Task.{Task}
use Rattle.corr_core.specs.IdSlotWord.{Parts, parts}
use Rattle.corr_core.specs.declared.marks.Kept.{Kept}
use Rattle.corr_core.specs.declared.marks.Noted.{Noted}
use Rattle.corr_core.specs.declared.marks.View.{View}
use Rattle.sock_message.specs.Asked.{Asked}
use Rattle.corr_id.specs.ClosingIdLists.{Closing}
use Rattle.corr_id.specs.PostAnswers.{IsTimely}
use Rattle.corr_id.specs.declared.calls.IdLock.{IdLock}
use Rattle.call_table.specs.declared.errors.Decision.TheVariants as decisions
use Rattle.failed_reasons.specs.Below.RpcClient.Told.{Told}
use Rattle.failed_reasons.specs.Below.CallErrors.LockingByVersion.{id_in}
use Rattle.failed_reasons.specs.Below.CallErrors.Handling.{is_whole, decision}
use Rattle.failed_reasons.specs.Below.CallRun.ReadersOfLinks.{LinkReader}
use Rattle.failed_reasons.specs.Below.CallRun.Threads.{RanWith, ids_of}
use Rattle.failed_reasons.specs.call_whys.specs.call_places.specs.ClientNotesCounted.{HaveNotesOf}
use Rattle.failed_reasons.specs.call_whys.specs.call_places.proofs.ClientPlaces.{Client, view_of, tasks_of, deeds_of}
use Rattle.failed_reasons.specs.call_whys.specs.call_places.proofs.CallPlaceOrders.{crew_of}
use Rattle.failed_reasons.specs.call_whys.specs.expire_told.specs.ExpireOutcomesSaid.{AreSaid}
use Rattle.failed_reasons.specs.Missed.{attempt_of}
use Rattle.failed_reasons.specs.ErrorReasons.{WasDropped, Reason, timed_out, missed, dropped, AdvancedFor}
use Rattle.failed_ends.proofs.ClientEndsByErrors.{Says, advanced_caused}
use Rattle.failed_reasons.proofs.FailedAttemptCodes.{IsReadCode}
use Rattle.failed_ends.proofs.Posters.{Poster, posted_by}
use Rattle.failed_reasons.proofs.NotedErrorsInViews.{advanced_in}
use Rattle.failed_reasons.proofs.FailedRunPremises.{OthersRead, MissedBy, DroppedBy}

-- ## Errors that leave retries

-- a decision to retry is made of no truth
retry_false : (b : Bool) → (if b then decisions.End else decisions.Retry) ≡ decisions.Retry → b ≡ false
retry_false false e = refl
retry_false true e = let k : decisions.End ≡ decisions.Retry = e in absurd (cc)

neither : (a b : Bool) → (a || b) ≡ false → (a ≡ false) × (b ≡ false)
neither false b e = (refl, e)
neither true b e = let k : true ≡ false = e in absurd (cc)

-- such an error is for an attempt, and its code leaves retries
leaves_retries : (k : IdLock Asked) (code : ℕ) (attempt : Option ℕ) → decision k code attempt ≡ decisions.Retry → (is_whole attempt ≡ false) × (is_final code ≡ false)
leaves_retries k code attempt e =
    let w : Parts = parts k.word.0 in let last : Bool = w.attempt + 2 == w.range in
    let a = neither (is_whole attempt) (is_final code || last) (retry_false (is_whole attempt || (is_final code || last)) e) in (a.0, (neither (is_final code) last a.1).0)

its_attempt : (attempt : Option ℕ) → is_whole attempt ≡ false → (n : ℕ) × (attempt ≡ Some n)
its_attempt None e = let k : true ≡ false = e in absurd (cc)
its_attempt (Some n) e = (n, refl)

-- so it is none of whoever reads the links
not_read : (code : ℕ) → is_final code ≡ false → IsReadCode code → ⊥
not_read code leaves (inl e) = let k : true ≡ false = sym (ap is_final e) ∙ leaves in cc
not_read code leaves (inr e) = let k : true ≡ false = sym (ap is_final e) ∙ leaves in cc

-- ## The run

module _ {O : Type 0} {g : Ghosts O} {state : O → OutState} {readers : List (LinkReader g)} {p : Plan} {slots : ℕ} {setup : List Task} {clients : List (List Task)} {opens : List ℕ} {told ended : List (List Told)} {places : List PlaceWord} {vrefs : List Vref} {outs : List O} {ids : List (View Asked)}
    (run : RanWith g state readers p slots setup clients opens told ended places vrefs outs ids) (outcomes : List (Option Outcome)) (said : AreSaid outcomes told)
    (notes : List (Noted Asked)) (kept : List Kept) (words : List ℕ) (closing : Closing (ids_of p slots) notes kept words) (noted : HaveNotesOf ids notes) (others : OthersRead ids notes) where
  open crew_of run use {q, crew}

  -- the attempt came to nothing, or its message was dropped
  pub data WhyAdvanced (id n : ℕ) : Type 0 where
    by_miss : (code : ℕ) → MissedBy run id n code → WhyAdvanced id n
    by_drop : (code : ℕ) → DroppedBy run id n code → WhyAdvanced id n

  by_reason : (id code n : ℕ) (attempt : Option ℕ) → attempt ≡ Some n → (w : Poster run outcomes said notes kept words closing noted others id code attempt)
      → Reason state p q (tasks_of w.client) (Says run outcomes said) (deeds_of w.client) (view_of w.client) id code attempt → WhyAdvanced id n
  by_reason id code n attempt is w (timed_out i t o by s u h there has says counts keeps a b z) = absurd (none-some n (sym z ∙ is))
  by_reason id code n attempt is w (missed i d there has backed a z) =
      by_miss code (record { one = record { place = w.place; client = w.client; in_crew = w.at; index = i; deed = d; there = there }; missed = has; backed = backed; id_is = a; attempt_is = same_Some n (attempt_of d) (sym is ∙ z) })
  by_reason id code n attempt is w (dropped m d z) =
      by_drop code (record { place = w.place; client = w.client; in_crew = w.at; drop = subst (λ (y : ℕ). WasDropped state p q (deeds_of w.client) id code y) (sym (same_Some n m (sym is ∙ z))) d })

  -- the id with this first version in the slot, one of the table's, which a client noted to have advanced behind attempt n
  pub record IsAdvanced (i first n : ℕ) : Type 0 where
    pub inside : i < slots
    pub low : first < 4294967296
    pub why : WhyAdvanced (i * 4294967296 + first) n

  pub advance_why : (c : ℕ) (x : Client g state p q) → get_elem? crew c ≡ some x → (i first n : ℕ) → 0 < advanced_in i first (n + 1) (view_of x).notes → IsAdvanced i first n
  advance_why c x at i first n some_ = record {
    inside = subst (λ (s : ℕ). s < slots) a.slot_is a.cause.inside;
    low = (let l = a.lock.fits.low in let f = a.first_is in omega (arith, l, f));
    why = subst (λ (id : ℕ). WhyAdvanced id n) same_id (elim (posted_by run outcomes said notes kept words closing noted others c x at a.lock a.code a.attempt a.cause) [
      | inl w ↦ by_reason (id_in a.lock) a.code n a.attempt current w w.reason
      | inr read ↦ absurd (not_read a.code leaves.1 read)
    ]);
  }
    where
      a : AdvancedFor state p q (tasks_of x) (Says run outcomes said) (deeds_of x) (view_of x) i first (n + 1)
      a = advanced_caused run outcomes said c x at i first (n + 1) some_

      leaves : (is_whole a.attempt ≡ false) × (is_final a.code ≡ false)
      leaves = leaves_retries a.lock a.code a.attempt a.goes_on

      same_id : id_in a.lock ≡ i * 4294967296 + first
      same_id = let s = a.slot_is in let f = a.first_is in omega (arith, s, f)

      current : a.attempt ≡ Some n
      current =
          let m = its_attempt a.attempt leaves.0 in
          let timely : m.0 ≡ (parts a.lock.word.0).attempt = subst (λ (z : Option ℕ). IsTimely z (parts a.lock.word.0).attempt) m.1 a.cause.timely in
          let next = a.next in m.1 ∙ ap Some (omega (arith, timely, next))
