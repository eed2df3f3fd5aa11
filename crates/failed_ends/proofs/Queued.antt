-- Which codes are queued in the words of ids.
use Rattle.std.proofs.Common.{◌≡◌, ℕ, ◌<◌, ◌⊎◌, inl, inr, List, [], ◌∷◌, Some, refl, sym, ◌∙◌, subst, ap, arith}
use Rattle.std.specs.Prelude.{Option, Contains, slice_get}
use mathlib.Core.Option.{some}
use lib.ListN.{get_elem?}
use Rattle.failed_reasons.specs.call_whys.specs.call_places.specs.script_facts.proofs.FilteredLists.{contains_from}
use Rattle.sock_io.specs.declared.link.Out.{Ghosts}
use Rattle.sock_io.specs.LinkHalves.{OutState}
use Rattle.sock_words.specs.ErrorCodes.{EEOF, EFAILEDSOCKET, EREQUESTS, ERESPONSE, ERPCTIMEDOUT}
use Rattle.sock_words.specs.declared.outcome.Outcome.{Outcome}
use Rattle.sock_words.specs.declared.plain.Plan.{Plan}
use Rattle.sock_words.specs.declared.place_word.PlaceWord.{PlaceWord}
use Rattle.sock_words.specs.declared.vref.Vref.{Vref}
use Rattle.seat_programs.specs.declared.task.Task.{Task}
use Rattle.seat_programs.specs.ExplainedCalls.{Fixed, Order}
use Rattle.corr_core.specs.IdSlotWord.{code_of}
use Rattle.corr_core.specs.declared.marks.Noted.{Noted}
use Rattle.corr_core.specs.declared.marks.Plan as id_plan
use Rattle.corr_core.specs.declared.marks.View.{View}
use Rattle.corr_core.proofs.NoteSums.{total_some}
use Rattle.sock_message.specs.Asked.{Asked}
use Rattle.failed_reasons.specs.Below.RpcClient.Told.{Told}
use Rattle.failed_reasons.specs.Below.CallRun.ReadersOfLinks.{LinkReader}
use Rattle.failed_reasons.specs.Below.CallRun.Threads.{RanWith, ids_of}
use Rattle.failed_reasons.specs.call_whys.specs.call_places.specs.DeedsOfCallClient.{Deed}
use Rattle.failed_reasons.specs.call_whys.specs.call_places.proofs.ClientPlaces.{Client, total_map, view_of, deeds_of}
use Rattle.failed_reasons.specs.call_whys.specs.call_places.proofs.CallPlaceOrders.{all as all_clients, views_are}
use Rattle.failed_reasons.specs.call_whys.specs.expire_told.specs.ExpireOutcomesSaid.{AreSaid}
use Rattle.failed_reasons.specs.ErrorReasons.{WasDropped, Reason, timed_out, missed, dropped}
use Rattle.failed_ends.proofs.ClientEndsByErrors.{queued_caused}
use Rattle.failed_reasons.proofs.FailedAttemptCodes.{IsMissCode, IsReadCode, deed_code}
use Rattle.failed_ends.proofs.Posters.{reason_low, code_is}
use Rattle.failed_reasons.proofs.NotedErrorsInViews.{queued_in}
use Rattle.failed_reasons.proofs.FailedRunPremises.{OthersRead}
use Rattle.seat_programs.specs.brpc_model.specs.Why.{IsPosted}
use Rattle.sock_words.specs.Totals.{total}

module _ (p : Plan) (clients : List (List Task)) (outcomes : List (Option Outcome)) (fixed : Fixed) (gave : ℕ → List ℕ) (orders : ℕ → Order) where
  abbrev PostedHere : ℕ → Type 0
  PostedHere code = IsPosted code

  -- the codes besides those of `fail`s
  abbrev codes : List ℕ
  codes = ERPCTIMEDOUT ∷ EFAILEDSOCKET ∷ EEOF ∷ ERESPONSE ∷ EREQUESTS ∷ []

  listed : (i k code : ℕ) → slice_get codes i ≡ Some k → code ≡ k → PostedHere code
  listed i k code at same = inl (subst (λ (z : ℕ). Contains codes z) (sym same) (contains_from codes k (i, at)))

  pub read_posted : (code : ℕ) → IsReadCode code → PostedHere code
  read_posted code (inl e) = listed 2 EEOF code refl e
  read_posted code (inr e) = listed 3 ERESPONSE code refl e

  miss_posted : (code : ℕ) → IsMissCode code → PostedHere code
  miss_posted code (inl e) = listed 1 EFAILEDSOCKET code refl e
  miss_posted code (inr e) = listed 4 EREQUESTS code refl e

  reason_posted : {O : Type 0} {g : Ghosts O} {state : O → OutState} {q : id_plan.Plan} {xs : List Task} {S : ℕ → Outcome → Type 0} {ds : List (Deed g state p q)} {v : View Asked} {id code : ℕ} {attempt : Option ℕ} → Reason state p q xs S ds v id code attempt → PostedHere code ⊎ ((n : ℕ) × WasDropped state p q ds id code n)
  reason_posted {code = code} (timed_out i x operation by s t h there is says counts keeps a b c) = inl (listed 0 ERPCTIMEDOUT code refl b)
  reason_posted {code = code} (missed i d there is backed a b) = inl (miss_posted code (deed_code d code is))
  reason_posted {code = code} (dropped n d z) = inr (n, d)

  module _ {O : Type 0} {g : Ghosts O} {state : O → OutState} {readers : List (LinkReader g)} {slots : ℕ} {setup : List Task} {others_asked : List (List Task)} {opens : List ℕ} {told ended : List (List Told)} {places : List PlaceWord} {vrefs : List Vref} {outs : List O} {ids : List (View Asked)}
      (run : RanWith g state readers p slots setup others_asked opens told ended places vrefs outs ids) (said : AreSaid outcomes told) (notes : List (Noted Asked))
      (others : OthersRead ids notes) where
    -- a client dropped a message with this code
    pub record WasDropCode (code : ℕ) : Type 0 where
      pub place : ℕ
      pub client : Client g state p (ids_of p slots)
      pub in_crew : get_elem? (all_clients run) place ≡ some client
      pub id : ℕ
      pub attempt : ℕ
      pub drop : WasDropped state p (ids_of p slots) (deeds_of client) id code attempt

    -- each error that is queued has a code that is posted, or one with which a message was dropped
    pub queued_code : (i f e : ℕ) → 0 < queued_in i f e notes → PostedHere (code_of e) ⊎ WasDropCode (code_of e)
    queued_code i f e there = elim (others i f e there) [ inl own ↦ by own | inr read ↦ inl (read_posted (code_of e) read) ]
      where
        by : 0 < total (λ (v : View Asked). queued_in i f e v.notes) ids → PostedHere (code_of e) ⊎ WasDropCode (code_of e)
        by own =
            let queues : View Asked → ℕ = λ v. queued_in i f e v.notes in
            let crew : List (Client g state p (ids_of p slots)) = all_clients run in
            let s = total_some (λ (y : Client g state p (ids_of p slots)). queues (view_of y)) crew (let b = total_map queues view_of crew in let d = ap (total queues) (views_are run) in omega (arith, own, b, d)) in
            let h = queued_caused run outcomes said s.0 s.1 s.2 i f e s.3 in
            let same : h.code ≡ code_of e = sym (code_is h.code h.attempt (reason_low h.reason)) ∙ ap code_of h.error_is in
            subst (λ (z : ℕ). PostedHere z ⊎ WasDropCode z) same (elim (reason_posted h.reason) [
              | inl posted ↦ inl posted
              | inr w ↦ inr (record { place = s.0; client = s.1; in_crew = s.2; id = h.id; attempt = w.0; drop = w.1 })
            ])
