-- What a link gave whose reading ended, and whose ends were compared.
use Rattle.std.proofs.Common.{◌≡◌, ◌⊎◌, inl, inr, ℕ, Bool, true, List, [], ◌∷◌, ◌++◌, Option, None, Some, option_map, refl, ap, sym, ◌∙◌, subst, append-nil}
use Rattle.sock_io.specs.declared.ending.Ending.TheVariants as ending
use Rattle.sock_io.specs.declared.link.Take.{Take}
use Rattle.sock_io.specs.declared.link.Take.TheVariants as take_
use Rattle.sock_io.specs.LinkHalves.{OutState, InState, Offer, IsServed, TakeStep, offered_by}
use Rattle.sock_io.specs.MeetingOnOneThread.{IsFound, OffersFound, MeetStep}
use Rattle.sock_io.specs.Peer.{PeerState}
use Rattle.rpc_reader.specs.declared.reading.How.TheVariants as how
use Rattle.rpc_reader.specs.ReaderBooks.{Books}
use Rattle.rpc_reader.specs.LinkReading.{ReadBy}
use Rattle.rpc_reader.specs.ReadingTakeByTake.{Took, Takes}

-- ## The reading

last_step : (xs : List Took) (x : Took) (s t : InState) → Takes (xs ++ x ∷ []) s t → (m : InState) × Takes xs s m × TakeStep m t x.room x.answer
last_step [] x s t (m, step, e) = (s, refl, subst (λ (n : InState). TakeStep s n x.room x.answer) (sym e) step)
last_step (y ∷ ys) x s t (m, step, more) = let r = last_step ys x m t more in (r.0, (m, step, r.1), r.2)

-- one that ended at the end of what was given
pub end_told : (slots : ℕ) (on : Bool) (s t : InState) (total : ℕ) (b b' : Books) → ReadBy slots on how.End s t total b b' → t.gave_end ≡ true
end_told slots on s t total b b' r = (last_step r.earlier r.last s t r.steps).2.end.0 r.ends.0

-- whether it was closed is told still
abbrev pub TellsClosed : InState → Type 0
TellsClosed s = (b : Bool) × (s.closed ≡ Some b)

one_tells : (s t : InState) (room : List ℕ) (a : Take) → TakeStep s t room a → TellsClosed s → TellsClosed t
one_tells s t room (take_.Took n) x c = (c.0, x.closed.1 (λ e. cc) ∙ c.1)
one_tells s t room take_.Empty x c = (c.0, x.closed.1 (λ e. cc) ∙ c.1)
one_tells s t room take_.End x c = (c.0, x.closed.1 (λ e. cc) ∙ c.1)
one_tells s t room take_.Closed x c = (true, x.closed.0 refl ∙ ap (option_map (λ _. true)) c.1)
one_tells s t room take_.Failed x c = (c.0, x.closed.1 (λ e. cc) ∙ c.1)

all_tell : (xs : List Took) (s t : InState) → Takes xs s t → TellsClosed s → TellsClosed t
all_tell [] s t e c = subst TellsClosed (sym e) c
all_tell (x ∷ xs) s t (m, step, more) c = all_tell xs m t more (one_tells s m x.room x.answer step c)

-- one that ended at the closing
pub closed_told : (slots : ℕ) (on : Bool) (s t : InState) (total : ℕ) (b b' : Books) → ReadBy slots on how.Closed s t total b b' → TellsClosed s → t.closed ≡ Some true
closed_told slots on s t total b b' r c = let l = last_step r.earlier r.last s t r.steps in l.2.closed.0 r.ends.0 ∙ ap (option_map (λ _. true)) (all_tell r.earlier s l.0 l.1 c).1

-- ## What it gave

module _ (took gave : List ℕ) (finished : Bool) (o : Offer) (s : IsServed took finished gave o) (none_ : o.waiting ≡ []) where
  so_far : gave ≡ offered_by o o.fed
  so_far = sym (append-nil gave) ∙ sym (ap (λ (w : List ℕ). gave ++ w) none_) ∙ s.offered

  at_end : o.ending ≡ ending.Ended → gave ≡ offered_by o took
  at_end e = so_far ∙ sym (s.ended e s.left) ∙ sym (ap (offered_by o) s.begins)

  at_closing : o.ending ≡ ending.Closed → gave ≡ offered_by o took
  at_closing e = so_far ∙ sym (ap (offered_by o) (s.begins ∙ ap (λ (l : List ℕ). o.fed ++ l) (s.closed e).1 ∙ append-nil o.fed))

found_of : (out : OutState) (peer : PeerState) (inn : InState) (before after : Option Offer) (o : Offer) → before ≡ None → after ≡ Some o → OffersFound out peer inn before after → IsFound out peer inn o
found_of out peer inn None None o n e f = absurd (no_offer e)
  where
    no_offer : None ≡ Some o → ⊥
    no_offer e = cc
found_of out peer inn None (Some p) o n e f = subst (λ (x : Offer). IsFound out peer inn x) (same e) f
  where
    same : Some p ≡ Some o → p ≡ o
    same e = cc
found_of out peer inn (Some p) after o n e f = absurd (no_none n)
  where
    no_none : Some p ≡ None → ⊥
    no_none e = cc

-- Where its offer became known by the comparison, and the reading half answered its end or its closing: it gave what the other end that was asked for gives
-- for all that the link took.
pub gave_all : (out : OutState) (peer : PeerState) (old new : InState) (o : Offer) (took gave : List ℕ) → MeetStep out peer old new → old.offer ≡ None → new.offer ≡ Some o → out.took ≡ Some took → old.gave_bytes ≡ Some gave
    → (old.gave_end ≡ true) ⊎ (old.closed ≡ Some true) → (gave ≡ offered_by o took) × (o.serve ≡ peer.serve) × (o.end ≡ peer.end)
gave_all out peer old new o took gave m unknown known t g (inl e) =
    let f = found_of out peer old old.offer new.offer o unknown known m.offer in let w = f.ended e in (at_end took gave out.finished o (f.served took gave t g) w.0 w.1, f.serve, f.end)
gave_all out peer old new o took gave m unknown known t g (inr e) =
    let f = found_of out peer old old.offer new.offer o unknown known m.offer in let w = f.closed e in (at_closing took gave out.finished o (f.served took gave t g) w.0 w.1, f.serve, f.end)
