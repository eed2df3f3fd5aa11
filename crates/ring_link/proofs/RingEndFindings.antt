-- What comparing the ends of a link shows: what was offered to it belongs to what it took and gave.
use Rattle.std.proofs.Common.{◌≡◌, ◌≢◌, ◌⊎◌, inl, inr, ℕ, not, Bool, true, false, List, [], ◌∷◌, ◌++◌, Option, None, Some, refl, ap, sym, ◌∙◌, subst, append_assoc, append-nil}
use Rattle.sock_io.specs.declared.ending.Ending.{Ending}
use Rattle.sock_io.specs.declared.ending.Ending.TheVariants as ending
use Rattle.sock_io.specs.LinkHalves.{OutState, InState, Offer, IsServed, IsSettled, offered_by}
use Rattle.sock_io.specs.Peer.{PeerState, has_ended}
use Rattle.sock_io.specs.MeetingOnOneThread.{FindsAll, IsFound, OffersFound, IsFront, GaveFront, MeetStep}
use Rattle.loop_link.specs.ServingFedBytes.{LoopInState}
use Rattle.ring_link.specs.InsideRingLink.{InnerState, inner_offer, inner_gave, handed_on, offer_met, met_after}
use Rattle.ring_link.proofs.Repeating.{ended_open}
use Rattle.ring_link.specs.RingHalves.{ReaderState, WriterState, RingOutState, RingInState, RingPeerState, IsTakenOf, Repeats, ring_in, ring_peer, told_out}

-- ## What was offered

ended_closed : (e : Ending) → e ≡ ending.Ended → e ≡ ending.Closed → ⊥
ended_closed e n c = cc

not_ended : ending.Open ≡ ending.Ended → ⊥
not_ended e = cc

opens : has_ended ending.Open ≡ true → ⊥
opens e = cc

-- `wo`, `rp`: from the link to its other end; `wp`, `ri`: from that to the link
module _ (l : InnerState) (wo : WriterState) (rp : ReaderState) (wp : WriterState) (ri : ReaderState) (there : IsTakenOf rp wo) (back : IsTakenOf ri wp) (x : Repeats l rp wp) where
  begins : wo.bytes ≡ l.inn.peer.fed ++ ((x.served.left ++ x.rest) ++ there.left)
  begins = there.begins ∙ ap (λ (b : List ℕ). b ++ there.left) (x.took ∙ ap (λ (b : List ℕ). b ++ x.rest) x.served.begins ∙ append_assoc l.inn.peer.fed x.served.left x.rest)
      ∙ append_assoc l.inn.peer.fed (x.served.left ++ x.rest) there.left

  -- what was given so far stands first in what belongs to the bytes that were fed
  pub front_by : (peer : PeerState) → (inner_offer l).serve ≡ peer.serve → (inner_offer l).end ≡ peer.end → IsFront peer wo.bytes ri.bytes
  front_by peer serve end = record {
    offer = inner_offer l;
    serve = serve;
    end = end;
    left = (x.served.left ++ x.rest) ++ there.left;
    begins = begins;
    rest = back.left ++ (inner_offer l).waiting;
    offered = sym (append_assoc ri.bytes back.left (inner_offer l).waiting) ∙ ap (λ (b : List ℕ). b ++ (inner_offer l).waiting) (sym back.begins ∙ x.gave) ∙ x.served.offered;
  }

  -- ### With the mark taken

  module _ (mark : has_ended ri.ending ≡ true) where
    whole : (wp.ending ≡ ri.ending) × (back.left ≡ [])
    whole = back.marked (ended_open ri.ending mark)

    given : ri.bytes ≡ inner_gave l
    given = sym (back.begins ∙ ap (λ (b : List ℕ). ri.bytes ++ b) whole.1 ∙ append-nil ri.bytes) ∙ x.gave

    nothing_left : x.served.left ≡ [] → x.rest ≡ [] → there.left ≡ [] → (x.served.left ++ x.rest) ++ there.left ≡ []
    nothing_left a b c = ap (λ (t : List ℕ). (t ++ x.rest) ++ there.left) a ∙ ap (λ (t : List ℕ). t ++ there.left) b ∙ c

    by : (e : Ending) → wp.ending ≡ e → has_ended e ≡ true → IsServed wo.bytes (has_ended wo.ending) ri.bytes (handed_on l.inn e)
    by ending.Open is t = absurd (opens t)
    by ending.Ended is t = let f = x.ended is in record {
      left = (x.served.left ++ x.rest) ++ there.left;
      begins = begins;
      offered = append-nil ri.bytes ∙ given ∙ sym (append-nil (inner_gave l)) ∙ ap (λ (b : List ℕ). inner_gave l ++ b) (sym f.0) ∙ x.served.offered;
      ended = λ _. x.served.ended f.1;
      closed = λ c. absurd (ended_closed ending.Ended refl c);
    }
    by ending.Closed is t = let f = x.closed is in let s = x.served.closed f.1 in let n = there.marked (ended_open rp.ending f.3) in record {
      left = (x.served.left ++ x.rest) ++ there.left;
      begins = begins;
      offered = append-nil ri.bytes ∙ given ∙ sym (append-nil (inner_gave l)) ∙ ap (λ (b : List ℕ). inner_gave l ++ b) (sym f.0) ∙ x.served.offered;
      ended = λ c. absurd (ended_closed ending.Closed c refl);
      closed = λ _. (ap has_ended n.0 ∙ f.3, nothing_left s.1 f.2 n.1);
    }

    pub served_by : IsServed wo.bytes (has_ended wo.ending) ri.bytes (handed_on l.inn ri.ending)
    served_by = by ri.ending whole.0 mark

-- ## What the two comparisons leave

not_true : (b : Bool) → not b ≡ true → b ≡ false
not_true true e = absurd (opens e)
not_true false e = refl

module _ (r r' : ReaderState) (w w' : WriterState) (e : r' ≡ record r { seen = r'.seen }) (f : w' ≡ record w { places = w'.places }) where
  read_bytes : r'.bytes ≡ r.bytes
  read_bytes = ap (λ (x : ReaderState). x.bytes) e

  read_ending : r'.ending ≡ r.ending
  read_ending = ap (λ (x : ReaderState). x.ending) e

  wrote_bytes : w'.bytes ≡ w.bytes
  wrote_bytes = ap (λ (x : WriterState). x.bytes) f

  wrote_ending : w'.ending ≡ w.ending
  wrote_ending = ap (λ (x : WriterState). x.ending) f

  taken_before : IsTakenOf r' w' → IsTakenOf r w
  taken_before t = record {
    left = t.left;
    begins = sym wrote_bytes ∙ t.begins ∙ ap (λ (b : List ℕ). b ++ t.left) read_bytes;
    marked = λ n. let m = t.marked (λ o. n (sym read_ending ∙ o)) in (sym wrote_ending ∙ m.0 ∙ read_ending, m.1);
  }

some_same : {A : Type 0} (a b : A) → Some a ≡ Some b → a ≡ b
some_same a b e = cc

found_is : (out : RingOutState) (p : RingPeerState) (inn : RingInState) → IsServed out.writer.bytes (has_ended out.writer.ending) inn.reader.bytes (handed_on p.inner.inn inn.reader.ending)
    → (inn.gave_end ≡ true → inn.reader.ending ≡ ending.Ended) → (inn.closed ≡ true → inn.reader.ending ≡ ending.Closed) → IsFound (told_out out) (ring_peer p) (ring_in inn) (handed_on p.inner.inn inn.reader.ending)
found_is out p inn s ended closed = record {
  serve = refl;
  end = refl;
  served = λ took gave t g. subst (λ (b : List ℕ). IsServed b (has_ended out.writer.ending) gave (handed_on p.inner.inn inn.reader.ending)) (some_same out.writer.bytes took t)
      (subst (λ (b : List ℕ). IsServed out.writer.bytes (has_ended out.writer.ending) b (handed_on p.inner.inn inn.reader.ending)) (some_same inn.reader.bytes gave g) s);
  ended = λ e. (refl, ended e);
  closed = λ e. (refl, closed (some_same inn.closed true e));
}

still_found : (out : OutState) (peer : PeerState) (inn : InState) (o : Option Offer) → OffersFound out peer inn o o
still_found out peer inn None = tt
still_found out peer inn (Some o) = refl

-- with the mark taken and all handed on, it is known
found_whole : (whole : Bool) (e : Ending) (m : List LoopInState) (i : LoopInState) → whole ≡ true → has_ended e ≡ true → offer_met (met_after whole e m i) e ≢ None
found_whole whole ending.Open m i w t = absurd (opens t)
found_whole true ending.Ended [] i w t = λ n. cc
found_whole true ending.Closed [] i w t = λ n. cc
found_whole true ending.Ended (x ∷ m) i w t = λ n. cc
found_whole true ending.Closed (x ∷ m) i w t = λ n. cc
found_whole false e m i w t = absurd (opens w)

-- what is known behind it
found_after : (out : OutState) (peer : PeerState) (inn : InState) (fed : Bool) (e : Ending) (m : List LoopInState) (i : LoopInState) → (fed ≡ true → has_ended e ≡ true → IsFound out peer inn (handed_on i e))
    → OffersFound out peer inn (offer_met m e) (offer_met (met_after fed e m i) e)
found_after out peer inn fed e (x ∷ m) i f = still_found out peer inn (offer_met (x ∷ m) e)
found_after out peer inn fed ending.Open [] i f = tt
found_after out peer inn true ending.Ended [] i f = f refl refl
found_after out peer inn false ending.Ended [] i f = tt
found_after out peer inn true ending.Closed [] i f = f refl refl
found_after out peer inn false ending.Closed [] i f = tt

module _ (out : RingOutState) (p : RingPeerState) (inn : RingInState) (rp : ReaderState) (wo : WriterState) (ri : ReaderState) (wp : WriterState)
    (e1 : rp ≡ record p.reader { seen = rp.seen }) (e2 : wo ≡ record out.writer { places = wo.places }) (e3 : ri ≡ record inn.reader { seen = ri.seen }) (e4 : wp ≡ record p.writer { places = wp.places })
    (there : IsTakenOf rp wo) (back : IsTakenOf ri wp) (x : p.starved ≡ false → Repeats p.inner p.reader p.writer)
    (gave_end : inn.gave_end ≡ true → inn.reader.ending ≡ ending.Ended) (closed : inn.closed ≡ true → inn.reader.ending ≡ ending.Closed) where
  found : not p.starved ≡ true → has_ended inn.reader.ending ≡ true → IsFound (told_out out) (ring_peer p) (ring_in inn) (handed_on p.inner.inn inn.reader.ending)
  found fed mark = found_is out p inn
      (served_by p.inner out.writer p.reader p.writer inn.reader (taken_before p.reader rp out.writer wo e1 e2 there) (taken_before inn.reader ri p.writer wp e3 e4 back) (x (not_true p.starved fed)) mark) gave_end closed

  marked : (inn.gave_end ≡ true) ⊎ (Some inn.closed ≡ Some true) → has_ended inn.reader.ending ≡ true
  marked (inl e) = ap has_ended (gave_end e)
  marked (inr e) = ap has_ended (closed (some_same inn.closed true e))

  -- where memory wasn't wanting all is found once the mark was taken
  all_found : FindsAll (ring_peer p) (ring_in inn) (ring_in (record inn { reader = record inn.reader { seen = ri.seen }; met = met_after (not p.starved) inn.reader.ending inn.met p.inner.inn }))
  all_found known calm mark = found_whole (not p.starved) inn.reader.ending inn.met p.inner.inn (ap not calm) (marked mark)

  -- what was given so far is known even without the mark
  front : GaveFront (told_out out) (ring_peer p) (ring_in inn)
  front known calm took gave t g = subst (λ (b : List ℕ). IsFront (ring_peer p) b gave) (some_same out.writer.bytes took t)
      (subst (λ (b : List ℕ). IsFront (ring_peer p) out.writer.bytes b) (some_same inn.reader.bytes gave g)
      (front_by p.inner out.writer p.reader p.writer inn.reader (taken_before p.reader rp out.writer wo e1 e2 there) (taken_before inn.reader ri p.writer wp e3 e4 back) (x calm) (ring_peer p) refl refl))

  pub met_step : (inn' : RingInState) → inn' ≡ record inn { reader = ri; met = met_after (not p.starved) inn.reader.ending inn.met p.inner.inn } → MeetStep (told_out out) (ring_peer p) (ring_in inn) (ring_in inn')
  met_step inn' is = subst (λ (n : RingInState). MeetStep (told_out out) (ring_peer p) (ring_in inn) (ring_in n)) (sym (is ∙ ap (λ (r : ReaderState). record inn { reader = r; met = met_after (not p.starved) inn.reader.ending inn.met p.inner.inn }) e3))
      (record { same = refl; offer = found_after (told_out out) (ring_peer p) (ring_in inn) (not p.starved) inn.reader.ending inn.met p.inner.inn found; all = all_found; front = front })

-- ## A link that was compared is settled

module _ (o : Offer) (took gave : List ℕ) (finished : Bool) (s : IsServed took finished gave o) where
  all_ended : o.ending ≡ ending.Ended → offered_by o took ≡ offered_by o o.fed
  all_ended e = ap (offered_by o) s.begins ∙ s.ended e s.left

  all_closed : o.ending ≡ ending.Closed → offered_by o took ≡ offered_by o o.fed
  all_closed e = ap (offered_by o) (s.begins ∙ ap (λ (b : List ℕ). o.fed ++ b) (s.closed e).1 ∙ append-nil o.fed)

none_known : (o : Offer) → None ≡ Some o → ⊥
none_known o e = cc

settled_all : (m : List LoopInState) (e : Ending) (o : Offer) (took gave : List ℕ) (finished : Bool) → offer_met m e ≡ Some o → IsServed took finished gave o → offered_by o took ≡ offered_by o o.fed
settled_all [] e o took gave finished is s = absurd (none_known o is)
settled_all (i ∷ m) ending.Open o took gave finished is s = absurd (none_known o is)
settled_all (i ∷ m) ending.Ended o took gave finished is s = all_ended o took gave finished s (sym (ap (λ (y : Offer). y.ending) (some_same (handed_on i ending.Ended) o is)))
settled_all (i ∷ m) ending.Closed o took gave finished is s = all_closed o took gave finished s (sym (ap (λ (y : Offer). y.ending) (some_same (handed_on i ending.Closed) o is)))

-- and it is known to end
met_ends : (m : List LoopInState) (e : Ending) (o : Offer) → offer_met m e ≡ Some o → o.ending ≢ ending.Open
met_ends [] e o is open_ = absurd (none_known o is)
met_ends (i ∷ m) ending.Open o is open_ = absurd (none_known o is)
met_ends (i ∷ m) ending.Ended o is open_ = absurd (let z : ending.Ended ≡ ending.Open = ap (λ (y : Offer). y.ending) (some_same (handed_on i ending.Ended) o is) ∙ open_ in cc)
met_ends (i ∷ m) ending.Closed o is open_ = absurd (let z : ending.Closed ≡ ending.Open = ap (λ (y : Offer). y.ending) (some_same (handed_on i ending.Closed) o is) ∙ open_ in cc)

pub settled_still : (out : OutState) (inn : RingInState) → IsSettled out (ring_in inn) (ring_in inn)
settled_still out inn o took gave is t g s = (o, is, s, settled_all inn.met inn.reader.ending o took gave out.finished is s, λ _. met_ends inn.met inn.reader.ending o is)
