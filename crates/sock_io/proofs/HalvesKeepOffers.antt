-- What was offered to a link stays what belongs to it by each call of its halves; and a take that gave nothing tells that all of it was given.
use Rattle.std.proofs.Common.{◌≡◌, ℕ, Bool, true, List, [], ◌++◌, Option, None, Some, refl, ap, sym, ◌∙◌, subst, append_assoc, append-nil}
use Rattle.sock_io.specs.declared.ending.Ending.TheVariants as ending
use Rattle.sock_io.specs.declared.link.Put.{Put}
use Rattle.sock_io.specs.declared.link.Ready.{Ready}
use Rattle.sock_io.specs.declared.link.Take.{Take}
use Rattle.sock_io.specs.LinkHalves.{OutState, InState, Offer, IsServed, PutStep, ReadyStep, FinishStep, OfferTaken, offered_by, taken_of}
use Rattle.sock_io.specs.MeetingOnOneThread.{MeetStep, OffersFound}
use Rattle.sock_io.specs.Peer.{PeerState}

-- ## Calls of the halves

-- the link took more, and nothing where it is finished
served_more : (took more gave : List ℕ) (finished : Bool) (o : Offer) → (finished ≡ true → more ≡ []) → IsServed took finished gave o → IsServed (took ++ more) finished gave o
served_more took more gave finished o none s = record {
  left = s.left ++ more;
  begins = ap (λ l. l ++ more) s.begins ∙ append_assoc o.fed s.left more;
  offered = s.offered;
  ended = s.ended;
  closed = λ e. let x = s.closed e in (x.0, ap (λ l. l ++ more) x.1 ∙ none x.0);
}

served_later : (took gave : List ℕ) (finished later : Bool) (o : Offer) → (finished ≡ true → later ≡ true) → IsServed took finished gave o → IsServed took later gave o
served_later took gave finished later o stays s = record {
  left = s.left;
  begins = s.begins;
  offered = s.offered;
  ended = s.ended;
  closed = λ e. let x = s.closed e in (stays x.0, x.1);
}

module _ (old new : OutState) (took gave : List ℕ) (o : Offer) where
  pub served_put : (piece : List ℕ) (result : Put) → PutStep old new piece result → IsServed took old.finished gave o → IsServed (took ++ taken_of piece result) new.finished gave o
  served_put piece result step s = served_later (took ++ taken_of piece result) gave old.finished new.finished o (λ e. step.finished ∙ e)
      (served_more took (taken_of piece result) gave old.finished o (λ e. ap (taken_of piece) (step.ended e).0) s)

  pub served_ready : (result : Ready) → ReadyStep old new result → IsServed took old.finished gave o → IsServed took new.finished gave o
  served_ready result step = served_later took gave old.finished new.finished o (λ e. step.finished ∙ e)

  pub served_finish : FinishStep old new → IsServed took old.finished gave o → IsServed took new.finished gave o
  served_finish step = served_later took gave old.finished new.finished o (λ _. step.finished)

-- a take gives what waits in front
pub served_take : (took gave given : List ℕ) (finished : Bool) (o o' : Offer) (result : Take) → OfferTaken o o' given result → IsServed took finished gave o → IsServed took finished (gave ++ given) o'
served_take took gave given finished o o' result t s = subst (λ (x : Offer). IsServed took finished (gave ++ given) x) (sym t.same) record {
  left = s.left;
  begins = s.begins;
  offered = append_assoc gave given o'.waiting ∙ ap (λ l. gave ++ l) t.waiting ∙ s.offered;
  ended = s.ended;
  closed = s.closed;
}

-- ## What is compared

found_nothing : (out : OutState) (peer : PeerState) (inn : InState) (o : Option Offer) → OffersFound out peer inn o o
found_nothing out peer inn (Some o) = refl
found_nothing out peer inn None = tt

-- a link whose way isn't known finds nothing more
pub met_nothing : (out : OutState) (peer : PeerState) (inn : InState) → inn.way ≡ [] → MeetStep out peer inn inn
met_nothing out peer inn none = record { same = refl; offer = found_nothing out peer inn inn.offer; all = λ known. absurd (known none); front = λ known. absurd (known none) }

-- ## What was given

module _ (took gave : List ℕ) (finished : Bool) (o : Offer) (s : IsServed took finished gave o) (empty : o.waiting ≡ []) where
  -- all that is offered was given
  pub gave_offered : gave ≡ offered_by o o.fed
  gave_offered = sym (append-nil gave) ∙ ap (λ l. gave ++ l) (sym empty) ∙ s.offered

  -- behind the end that is what is offered for all bytes, whatever else is taken
  pub gave_to_end : o.ending ≡ ending.Ended → (more : List ℕ) → gave ≡ offered_by o (took ++ more)
  gave_to_end e more = gave_offered ∙ sym (s.ended e (s.left ++ more)) ∙ ap (offered_by o) (sym (append_assoc o.fed s.left more) ∙ ap (λ l. l ++ more) (sym s.begins))

  -- where it closed, what is offered for all that the link took
  pub gave_to_closing : o.ending ≡ ending.Closed → gave ≡ offered_by o took
  gave_to_closing e = gave_offered ∙ ap (offered_by o) (sym (s.begins ∙ ap (λ l. o.fed ++ l) (s.closed e).1 ∙ append-nil o.fed))
