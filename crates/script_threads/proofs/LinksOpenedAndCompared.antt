-- The links of a run, from being opened to their ends being compared behind it: what each gave.
use Rattle.std.proofs.Common.{◌≡◌, ◌≢◌, ℕ, suc, ◌+◌, ◌<◌, if◌then◌else◌, Bool, true, false, List, [], ◌∷◌, ◌++◌, append-nil, length, map, take, drop, flat_map, get_or, Option, Some, None, inl, refl, sym, ap, ◌∙◌, subst, arith}
use Rattle.std.specs.Prelude.{All}
use Rattle.std.proofs.lemmas.List.{drop_all, take_all}
use Rattle.std.proofs.lemmas.List.Elements.{All-nil, All-cons}
use Rattle.brpc_model.specs.Frame.{frame_bytes}
use Rattle.brpc_model.specs.ReturnedLink.{LinkEnd}
use Rattle.brpc_model.specs.Reply.{reply_frames}
use Rattle.brpc_model.specs.ServedForTakenBytes.{first_of}
use Rattle.corr_core.specs.declared.marks.Plan as id_plan
use Rattle.seat_programs.specs.sock_model.specs.ViewsOfSplitSeats.{newcomer}
use Rattle.sock_words.specs.declared.plain.Plan.{Plan}
use Rattle.sock_io.specs.declared.link.Ends.{Ends}
use Rattle.sock_io.specs.declared.link.LinkSpec.{LinkSpec}
use Rattle.sock_io.specs.declared.link.Mode.{Mode}
use Rattle.sock_io.specs.declared.link.Out.{Ghosts}
use Rattle.sock_io.specs.LinkHalves.{OutState, InState, Offer, end_of, offered_by}
use Rattle.sock_io.specs.MeetingOnOneThread.{AreEnds, IsAskedPeer, IsFound, OffersFound, MeetStep}
use Rattle.sock_io.specs.Peer.{PeerState, IsNewPeer}
use Rattle.sock_io.proofs.HalvesKeepOffers.{gave_to_end}
use Rattle.script_links.specs.OpenedLinkEnds.{IsOpened, AreOpened}
use Rattle.call_run.specs.ReadersOfLinks.{LinkReader, nothing_read, IsReader, AreReaders, AllServed}
use Rattle.call_run.specs.link_crew.specs.ComparedLinkEnds.{HasMet}
use Rattle.call_run.specs.link_crew.specs.ServingOtherEnd.{ServedToEnd}
use Rattle.call_run.specs.link_crew.specs.declared.beside.Rest.{Rest}
use Rattle.call_run.specs.link_crew.proofs.WhatComparedLinksGave.{gave_all}
use Rattle.call_run.specs.link_crew.proofs.LinkWaysStay.{Stays, read_stays, ends_stay, asked_stays}
use Rattle.call_run.specs.sock_table.specs.ClosedSocketTable.{ways_of}
use Rattle.script_parts.specs.HalvesApartAndTogether.{rest_of, joined}
use Rattle.script_threads.specs.GaveWhatWasOffered.{offered_for, WasReadOut, GaveOffer, GaveOffers}

-- all of a list's places were written anew
pub all_written : {A : Type 0} (new old : List A) (len : ℕ) → length new ≡ length old → len ≡ length old → take len (new ++ drop (length new) old) ≡ new
all_written new old len long n =
    ap (λ l. take len (new ++ l)) (drop_all (length new) old (omega (arith, long))) ∙ ap (take len) (append-nil new) ∙ take_all len new (omega (arith, long, n))

heads : {A : Type 0} (x y : A) (xs ys : List A) → x ∷ xs ≡ y ∷ ys → (x ≡ y) × (xs ≡ ys)
heads x y xs ys e = (cc, cc)

no_more : {A B : Type 0} (x : A) (xs : List A) → [] ≡ x ∷ xs → B
no_more x xs e = absurd (cc)

no_less : {A B : Type 0} (x : A) (xs : List A) → x ∷ xs ≡ [] → B
no_less x xs e = absurd (cc)

there : {A : Type 0} (o : Option A) → o ≢ None → (x : A) × (o ≡ Some x)
there None some = absurd (some refl)
there (Some x) some = (x, refl)

-- Where its offer became known by the comparison, and the reading half answered its end: it gave what the other end gives for all that the link took, and for all that might follow.
gave_last : (out : OutState) (peer : PeerState) (old new : InState) (o : Offer) (took gave : List ℕ) → MeetStep out peer old new → old.offer ≡ None → new.offer ≡ Some o → out.took ≡ Some took → old.gave_bytes ≡ Some gave → old.gave_end ≡ true → (more : List ℕ) → gave ≡ offered_by o (took ++ more)
gave_last out peer old new o took gave m unknown known t g ended =
    let f : IsFound out peer old o = subst (OffersFound out peer old None) known (subst (λ (b : Option Offer). OffersFound out peer old b new.offer) unknown m.offer) in
    let w = f.ended ended in gave_to_end took gave out.finished o (f.served took gave t g) w.0 w.1

module _ {O I P : Type 0} (tells_in : Mode → Bool) (out : O → OutState) (peer : P → PeerState) (inn : I → InState) where
  -- ## Served and read

  -- the other end was what was asked for, and was served to its end without want of memory; and the ends are still those of one link
  pub record IsKept (spec : LinkSpec) (e : Ends O I P) : Type 0 where
    pub before : PeerState
    pub new : IsNewPeer before
    pub asked : IsAskedPeer spec before
    pub served : ServedToEnd false before (peer e.peer)
    pub one : AreEnds (out e.out) (peer e.peer) (inn e.inn)
    pub tells : tells_in spec.mode ≡ true → ((inn e.inn).way ≢ []) × ((inn e.inn).offer ≡ None) × (before.present ≡ true)

  abbrev pub AreKept : List LinkSpec → List (Ends O I P) → Type 0
  AreKept [] [] = Unit {0}
  AreKept (s ∷ ss) (e ∷ es) = IsKept s e × AreKept ss es
  AreKept [] (e ∷ es) = ⊥
  AreKept (s ∷ ss) [] = ⊥

  one_kept : (spec : LinkSpec) (e : Ends O I P) (o : O) (r : Rest I P) → IsOpened tells_in out peer inn spec e → (out o).way ≡ (out e.out).way → Stays (inn e.inn) (inn r.inn) → ServedToEnd false (peer e.peer) (peer r.peer) → IsKept spec (record { out = o; inn = r.inn; peer = r.peer })
  one_kept spec e o r opened way stays served = record {
    before = peer e.peer;
    new = opened.new;
    asked = opened.asked;
    served = served;
    one = ends_stay false (peer e.peer) (peer r.peer) served (out o) (inn e.inn) (inn r.inn) stays.0 (way ∙ opened.one.0, opened.one.1);
    tells = λ t. let w = opened.tells t in ((λ none. w.0 (sym stays.0 ∙ none)), stays.1 w.1, w.2);
  }

  module _ {g : Ghosts O} (p : Plan) (q : id_plan.Plan) (calls : List ℕ) where
    reader_stays : (x : LinkReader g) (s t : InState) → IsReader p q calls x → x.before ≡ s → x.behind ≡ t → Stays s t
    reader_stays x s t is e f = subst (λ (u : InState). Stays u t) e (subst (Stays x.before) f (read_stays q x.link calls false false x.before x.behind p x.operation (newcomer p [] is.spare) x.seat.me.0 nothing_read x.books is.ran))

    all_kept : (link : ℕ) (specs : List LinkSpec) (es : List (Ends O I P)) (os : List O) (rs : List (Rest I P)) (opens : List ℕ) (xs : List (LinkReader g)) → AreOpened tells_in out peer inn specs es → ways_of out os ≡ map (λ (e : Ends O I P). (out e.out).way) es
        → AreReaders p q calls link opens xs → map (λ (x : LinkReader g). x.before) xs ≡ map (λ (e : Ends O I P). inn e.inn) es → map (λ (x : LinkReader g). x.behind) xs ≡ map (λ (r : Rest I P). inn r.inn) rs
        → AllServed (map (λ (e : Ends O I P). peer e.peer) es) (map (λ (r : Rest I P). peer r.peer) rs) → AreKept specs (joined os rs)
    all_kept link [] [] [] rs opens xs a w read before behind served = tt
    all_kept link [] [] (o ∷ os) rs opens xs a w read before behind served = no_less _ _ w
    all_kept link [] (e ∷ es) os rs opens xs a w read before behind served = absurd a
    all_kept link (s ∷ ss) [] os rs opens xs a w read before behind served = absurd a
    all_kept link (s ∷ ss) (e ∷ es) [] rs opens xs a w read before behind served = no_more _ _ w
    all_kept link (s ∷ ss) (e ∷ es) (o ∷ os) [] opens xs a w read before behind served = absurd served
    all_kept link (s ∷ ss) (e ∷ es) (o ∷ os) (r ∷ rs) opens [] a w read before behind served = no_more _ _ before
    all_kept link (s ∷ ss) (e ∷ es) (o ∷ os) (r ∷ rs) [] (x ∷ xs) a w read before behind served = absurd read
    all_kept link (s ∷ ss) (e ∷ es) (o ∷ os) (r ∷ rs) (n ∷ ns) (x ∷ xs) a w read before behind served =
        let ways = heads (out o).way (out e.out).way (ways_of out os) (map (λ (e : Ends O I P). (out e.out).way) es) w in
        let front = heads x.before (inn e.inn) (map (λ (x : LinkReader g). x.before) xs) (map (λ (e : Ends O I P). inn e.inn) es) before in
        let back = heads x.behind (inn r.inn) (map (λ (x : LinkReader g). x.behind) xs) (map (λ (r : Rest I P). inn r.inn) rs) behind in (
          one_kept s e o r a.0 ways.0 (reader_stays x (inn e.inn) (inn r.inn) read.0 front.0 back.0) served.0,
          all_kept (link + 1) ss es os rs ns xs a.1 ways.1 read.3 front.1 back.1 served.1,
        )

    -- from the halves of the links that were opened to those that came back
    pub run_kept : (specs : List LinkSpec) (es : List (Ends O I P)) (outs os : List O) (rests rs : List (Rest I P)) (opens : List ℕ) (xs : List (LinkReader g)) → AreOpened tells_in out peer inn specs es → ways_of out os ≡ ways_of out outs → outs ≡ map (λ (e : Ends O I P). e.out) es → rests ≡ map rest_of es
        → AreReaders p q calls 0 opens xs → map (λ (x : LinkReader g). x.before) xs ≡ map (λ (r : Rest I P). inn r.inn) rests → map (λ (x : LinkReader g). x.behind) xs ≡ map (λ (r : Rest I P). inn r.inn) rs
        → AllServed (map (λ (r : Rest I P). peer r.peer) rests) (map (λ (r : Rest I P). peer r.peer) rs) → AreKept specs (joined os rs)
    run_kept specs es outs os rests rs opens xs opened ways outs_are rests_are read before behind served =
        all_kept 0 specs es os rs opens xs opened (ways ∙ ap (ways_of out) outs_are ∙ out_ways es) read (before ∙ ap (map (λ (r : Rest I P). inn r.inn)) rests_are ∙ rest_inns es) behind
        (subst (λ (l : List PeerState). AllServed l (map (λ (r : Rest I P). peer r.peer) rs)) (ap (map (λ (r : Rest I P). peer r.peer)) rests_are ∙ rest_peers es) served)
      where
        out_ways : (es : List (Ends O I P)) → ways_of out (map (λ (e : Ends O I P). e.out) es) ≡ map (λ (e : Ends O I P). (out e.out).way) es
        out_ways [] = refl
        out_ways (e ∷ es) = ap (λ l. (out e.out).way ∷ l) (out_ways es)

        rest_inns : (es : List (Ends O I P)) → map (λ (r : Rest I P). inn r.inn) (map rest_of es) ≡ map (λ (e : Ends O I P). inn e.inn) es
        rest_inns [] = refl
        rest_inns (e ∷ es) = ap (λ l. inn e.inn ∷ l) (rest_inns es)

        rest_peers : (es : List (Ends O I P)) → map (λ (r : Rest I P). peer r.peer) (map rest_of es) ≡ map (λ (e : Ends O I P). peer e.peer) es
        rest_peers [] = refl
        rest_peers (e ∷ es) = ap (λ l. peer e.peer ∷ l) (rest_peers es)

  -- so they may be compared
  pub kept_ends : (specs : List LinkSpec) (es : List (Ends O I P)) → AreKept specs es → All (λ (e : Ends O I P). AreEnds (out e.out) (peer e.peer) (inn e.inn)) es
  kept_ends [] [] a = All-nil (λ (e : Ends O I P). AreEnds (out e.out) (peer e.peer) (inn e.inn))
  kept_ends [] (e ∷ es) a = absurd a
  kept_ends (s ∷ ss) [] a = absurd a
  kept_ends (s ∷ ss) (e ∷ es) a = All-cons (λ (e : Ends O I P). AreEnds (out e.out) (peer e.peer) (inn e.inn)) e es a.0.one (kept_ends ss es a.1)

  -- ## Compared

  abbrev end_at : Ends O I P → LinkEnd
  end_at e = end_of (out e.out) (inn e.inn)

  same_offer : (spec : LinkSpec) (o : Offer) (took : List ℕ) → o.serve ≡ spec.shape.serve → o.end ≡ spec.shape.end → offered_by o took ≡ offered_for spec took
  same_offer spec o took s e = λ i. if s i then flat_map frame_bytes (first_of (e i) (reply_frames took)) else []

  -- the link as it is given back shows the same
  met_end : (e e' : Ends O I P) → HasMet out peer inn e e' → end_at e' ≡ end_at e
  met_end e e' m = λ i. end_of (m.out i) (m.inn.same i)

  module _ (spec : LinkSpec) (e e' : Ends O I P) (kept : IsKept spec e) (m : HasMet out peer inn e e') (told : tells_in spec.mode ≡ true) where
    -- its offer became known, and is what was asked for
    record HasOffer : Type 0 where
      offer : Offer
      known : (inn e'.inn).offer ≡ Some offer
      serve : offer.serve ≡ spec.shape.serve
      end : offer.end ≡ spec.shape.end

    calm : (peer e.peer).starved ≡ false
    calm = kept.served.calm refl ∙ kept.new.starved

    same_asked : ((peer e.peer).serve ≡ spec.shape.serve) × ((peer e.peer).end ≡ spec.shape.end)
    same_asked = let w = kept.tells told in asked_stays false kept.before (peer e.peer) kept.served spec kept.asked (kept.served.moved.2.present ∙ w.2)

    offer_of : (took given : List ℕ) → (out e.out).took ≡ Some took → (inn e.inn).gave_bytes ≡ Some given → WasReadOut (end_at e) → HasOffer
    offer_of took given t g mark =
        let w = kept.tells told in
        let o = there (inn e'.inn).offer (m.inn.all w.0 calm mark) in
        let a = gave_all (out e.out) (peer e.peer) (inn e.inn) (inn e'.inn) o.0 took given m.inn w.1 o.1 t g mark in
        record { offer = o.0; known = o.1; serve = a.1 ∙ same_asked.0; end = a.2 ∙ same_asked.1 }

    gave_offer : GaveOffer spec (end_at e)
    gave_offer = record {
      all = λ took given t g mark. (let o = offer_of took given t g mark in let w = kept.tells told in
          (gave_all (out e.out) (peer e.peer) (inn e.inn) (inn e'.inn) o.offer took given m.inn w.1 o.known t g mark).0 ∙ same_offer spec o.offer took o.serve o.end);
      last = λ took given t g ended more. (let o = offer_of took given t g (inl ended) in let w = kept.tells told in
          gave_last (out e.out) (peer e.peer) (inn e.inn) (inn e'.inn) o.offer took given m.inn w.1 o.known t g ended more ∙ same_offer spec o.offer (took ++ more) o.serve o.end);
      front = λ took given t g. (let w = kept.tells told in let f = m.inn.front w.0 calm took given t g in
          (f.offer.fed, f.left, f.rest, f.begins, f.offered ∙ same_offer spec f.offer f.offer.fed (f.serve ∙ same_asked.0) (f.end ∙ same_asked.1)));
    }

    one_gave : GaveOffer spec (end_at e')
    one_gave = subst (GaveOffer spec) (sym (met_end e e' m)) gave_offer

  pub all_gave : (specs : List LinkSpec) (es es' : List (Ends O I P)) → AreKept specs es → length es' ≡ length es → ((k : ℕ) (d : Ends O I P) → k < length es → HasMet out peer inn (get_or es k d) (get_or es' k d)) → GaveOffers tells_in specs (map end_at es')
  all_gave [] [] [] a n m = tt
  all_gave [] [] (f ∷ fs) a n m = absurd (omega arith)
  all_gave [] (e ∷ es) fs a n m = absurd a
  all_gave (s ∷ ss) [] fs a n m = absurd a
  all_gave (s ∷ ss) (e ∷ es) [] a n m = absurd (omega arith)
  all_gave (s ∷ ss) (e ∷ es) (f ∷ fs) a n m = (λ told. one_gave s e f a.0 (m 0 e (omega arith)) told, all_gave ss es fs a.1 (omega arith) (λ k d lt. m (suc k) d (omega arith)))

  pub met_ends : (es es' : List (Ends O I P)) → length es' ≡ length es → ((k : ℕ) (d : Ends O I P) → k < length es → HasMet out peer inn (get_or es k d) (get_or es' k d)) → map end_at es' ≡ map end_at es
  met_ends [] [] n m = refl
  met_ends [] (f ∷ fs) n m = absurd (omega arith)
  met_ends (e ∷ es) [] n m = absurd (omega arith)
  met_ends (e ∷ es) (f ∷ fs) n m = λ i. met_end e f (m 0 e (omega arith)) i ∷ met_ends es fs (omega arith) (λ k d lt. m (suc k) d (omega arith)) i
