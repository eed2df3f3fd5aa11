-- The ends of a link that was served and read are still those of one link, and its other end is what was asked for.
use Rattle.std.proofs.Common.{◌≡◌, ℕ, inl, inr, Bool, true, false, List, [], ◌∷◌, ◌++◌, None, Some, ap, sym, ◌∙◌}
use Rattle.std.specs.Prelude.{Option}
use Rattle.corr_core.specs.declared.marks.Plan as id_plan
use Rattle.sock_words.specs.declared.plain.Plan.{Plan}
use Rattle.sock_words.specs.declared.socket_id.SocketId.{SocketId}
use Rattle.sock_model.specs.declared.view.View.{View}
use Rattle.sock_io.specs.declared.link.LinkSpec.{LinkSpec}
use Rattle.sock_io.specs.declared.link.Take.{Take}
use Rattle.sock_io.specs.LinkHalves.{InState, OutState, Offer, OffersTaken, given_of}
use Rattle.sock_io.specs.MeetingOnOneThread.{AreEnds, IsAskedPeer}
use Rattle.sock_io.specs.Peer.{PeerState}
use Rattle.rpc_reader.specs.ReaderBooks.{Books}
use Rattle.rpc_reader.specs.ReaderRunFromOpen.{RanBy, ReadIf, ThrownIf}
use Rattle.rpc_reader.specs.ReadingTakeByTake.{Took, Takes}
use Rattle.rpc_reader.specs.Throwing.{ThrewAway}
use Rattle.link_crew.specs.ServingOtherEnd.{ServedToEnd}

-- bytes come the same way, and of what wasn't known to be offered nothing is known still
abbrev pub Stays : InState → InState → Type 0
Stays s t = (t.way ≡ s.way) × (s.offer ≡ None → t.offer ≡ None)

same_stays : (s t : InState) → t ≡ s → Stays s t
same_stays s t e = (ap (λ (i : InState). i.way) e, λ none. ap (λ (i : InState). i.offer) e ∙ none)

stays_on : (s m t : InState) → Stays s m → Stays m t → Stays s t
stays_on s m t a b = (b.0 ∙ a.0, λ none. b.1 (a.1 none))

none_known : (o : Offer) → Some o ≡ None → ⊥
none_known o e = cc

none_offered : (old new : Option Offer) (given : List ℕ) (a : Take) → OffersTaken old new given a → old ≡ None → new ≡ None
none_offered None new given a x none = x
none_offered (Some o) new given a x none = absurd (none_known o none)

takes_stay : (xs : List Took) (s t : InState) → Takes xs s t → Stays s t
takes_stay [] s t e = same_stays s t e
takes_stay (x ∷ xs) s t (m, step, more) = stays_on s m t (step.way, none_offered s.offer m.offer (given_of x.room x.answer) x.answer step.offer) (takes_stay xs m t more)

threw_stays : (ending : Bool) (total : ℕ) (s t : InState) → ThrewAway ending total s t → Stays s t
threw_stays ending total s t (inl e) = same_stays s t e.1
threw_stays ending total s t (inr x) = takes_stay (x.earlier ++ x.last ∷ []) s t x.steps

thrown_stays : (throws ending : Bool) (total : ℕ) (s t : InState) → ThrownIf throws ending total s t → Stays s t
thrown_stays true ending total s t x = threw_stays ending total s t x
thrown_stays false ending total s t e = same_stays s t e

module _ (q : id_plan.Plan) (link : ℕ) (calls : List ℕ) (ending short : Bool) (s t : InState) where
  if_stays : (id : Option SocketId) (v w : View) (b b' : Books) → ReadIf q link calls ending short s t id v w b b' → Stays s t
  if_stays None v w b b' x = same_stays s t x.1
  if_stays (Some id) v w b b' x = stays_on s x.between t (takes_stay (x.read.earlier ++ x.read.last ∷ []) s x.between x.read.steps) (thrown_stays _ ending x.total x.between t x.thrown)

  -- so where it was read
  pub read_stays : (p : Plan) (operation : ℕ) (v w : View) (b b' : Books) → RanBy q link calls ending short s t p operation v w b b' → Stays s t
  read_stays p operation v w b b' x = if_stays x.id x.noted w b b' x.read

module _ (short : Bool) (old new : PeerState) (x : ServedToEnd short old new) where
  -- a reading half whose way stays is at the end of the same way
  pub ends_stay : (out : OutState) (inn inn' : InState) → inn'.way ≡ inn.way → AreEnds out old inn → AreEnds out new inn'
  ends_stay out inn inn' way e = let w = x.moved.2.ways in (e.0 ∙ sym w.0, w.1 ∙ e.1 ∙ sym way)

  pub asked_stays : (spec : LinkSpec) → IsAskedPeer spec old → IsAskedPeer spec new
  asked_stays spec e present = let m = x.moved.2 in let a = e (sym m.present ∙ present) in (m.asked.0 ∙ a.0, m.asked.1 ∙ a.1)
