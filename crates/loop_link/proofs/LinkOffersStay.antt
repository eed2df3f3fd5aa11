-- What was offered to a link stays what belongs to it: at its opening, by each call of its halves, and where it is settled.
use Rattle.std.proofs.Common.{◌≡◌, ◌≢◌, ℕ, zero, suc, ◌≤◌, ◌⊎◌, inl, inr, ◌&&◌, ◌||◌, Bool, true, false, cond, List, [], ◌∷◌, ◌++◌, length, min, take, drop, Option, None, Some, refl, ap, sym, ◌∙◌, subst, arith, append_assoc, append-nil, length-append}
use Rattle.std.specs.Prelude.{flat_map}
use Rattle.std.proofs.Math.Seq.{take-append_seam, drop-append_seam}
use Rattle.std.proofs.lemmas.Bool.{leb-true, le-leb}
use Rattle.std.proofs.lemmas.List.{append_cancel_left, take-append-le}
use Rattle.brpc_model.specs.Frame.{Frame, frame_bytes}
use Rattle.brpc_model.specs.FrameStream.{Stream, stream, is_fault}
use Rattle.brpc_model.specs.Reply.{reply_frames}
use Rattle.brpc_model.specs.ServedForTakenBytes.{first_of, given_for}
use Rattle.sock_io.specs.declared.ending.Ending.{Ending}
use Rattle.sock_io.specs.declared.ending.Ending.TheVariants as ending
use Rattle.sock_io.specs.declared.link.Take.{Take}
use Rattle.sock_io.specs.declared.link.Take.TheVariants as take_
use Rattle.sock_io.specs.declared.link.LinkSpec.{LinkSpec}
use Rattle.sock_io.specs.LinkHalves.{Offer, FillsRoom, TakeStep, OfferTaken, IsServed, IsNewOffer, given_of, offered_by, end_of}
use Rattle.sock_io.specs.ShapeOfPuts.{ShapedState, shaped_out}
use Rattle.brpc_model.specs.Items.{Shape}
use Rattle.sock_io.specs.LinksInMemory.{MemInState, closing, empty_in, is_closing, is_open, mem_in, take_answer}
use Rattle.sock_io.proofs.HalvesKeepOffers.{gave_to_end, gave_to_closing}
use Rattle.rpc_server.specs.Feeding.{has_fault}
use Rattle.loop_link.specs.ServingFedBytes.{LoopPeerState, LoopInState, offer_of, loop_in, first_ending, new_in, is_reached, replies_for, ends_for, offered_for, gives_end, is_ended, IsOver, IsSteady, HasTold, IsTold, ending_for, IsOffered, Answers, Settled, NewReplies, first_left}
use Rattle.loop_link.proofs.RepliesFollowingPieces.{fault_stays_whole, replies_begin}
use Rattle.loop_link.proofs.FrameFrontsBySize.{offered_more}

-- ## A new link

none_for : (end : Option ℕ) → replies_for end [] ≡ []
none_for None = refl
none_for (Some zero) = refl
none_for (Some (suc most)) = refl

nothing_offered : (serve : Bool) (end : Option ℕ) → [] ≡ cond serve (replies_for end []) []
nothing_offered true end = sym (none_for end)
nothing_offered false end = refl

first_ended : (serve reached : Bool) → is_ended (cond (serve && reached) ending.Ended ending.Open) ≡ (serve && (reached || false))
first_ended true true = refl
first_ended true false = refl
first_ended false reached = refl

not_closed : (b : Bool) → cond b ending.Ended ending.Open ≡ ending.Closed → ⊥
not_closed true e = cc
not_closed false e = cc

pub steady_new : (serve : Bool) (end : Option ℕ) → IsSteady (new_in serve end).peer (new_in serve end).half
steady_new serve end = first_ended serve (is_reached end 0)

-- ## A take

no_bytes : (l : List ℕ) → length l ≡ 0 → l ≡ []
no_bytes [] e = refl
no_bytes (x ∷ l) e = absurd (omega (arith, e))

-- what was taken stood in front
taken_front : (given got waiting given' waiting' : List ℕ) → Some given' ≡ Some (given ++ got) → given' ++ waiting' ≡ given ++ waiting → got ++ waiting' ≡ waiting
taken_front given got waiting given' waiting' more same = let e : given' ≡ given ++ got = cc in
    append_cancel_left given (got ++ waiting') waiting (sym (append_assoc given got waiting') ∙ ap (λ l. l ++ waiting') (sym e) ∙ same)

-- what stands behind the bytes, as a take that gave none tells it
abbrev behind : Take → Ending
behind take_.End = ending.Ended
behind take_.Closed = ending.Closed
behind other = ending.Open

behind_is : (e : Ending) (room : ℕ) → behind (take_answer [] e room) ≡ e
behind_is ending.Open room = refl
behind_is ending.Ended room = refl
behind_is ending.Closed room = refl

pauses : (waiting : List ℕ) (e : Ending) (room : ℕ) (result t : Take) → result ≡ take_answer waiting e room → ((n : ℕ) → t ≡ take_.Took n → ⊥) → result ≡ t → (waiting ≡ []) × (e ≡ behind t)
pauses [] e room result t is none same = (refl, sym (behind_is e room) ∙ ap behind (sym is ∙ same))
pauses (x ∷ waiting) e room result t is none same = absurd (none _ (sym same ∙ is))

offer_taken : (old new : LoopInState) (room : List ℕ) (result : Take) → TakeStep (mem_in old.half) (mem_in new.half) room result → result ≡ take_answer old.half.waiting old.half.ending (length room)
    → new.half.given ++ new.half.waiting ≡ old.half.given ++ old.half.waiting → new.half.ending ≡ old.half.ending → new.peer ≡ old.peer → OfferTaken (offer_of old) (offer_of new) (given_of room result) result
offer_taken old new room result step answer bytes ending_is peer = record {
  same = λ i. record { serve = (peer i).serve; end = (peer i).end; fed = (peer i).fed; waiting = new.half.waiting; ending = ending_is i };
  waiting = taken_front old.half.given (given_of room result) old.half.waiting new.half.given new.half.waiting step.bytes bytes;
  empty = pauses old.half.waiting old.half.ending (length room) result take_.Empty answer (λ n e. cc);
  end = pauses old.half.waiting old.half.ending (length room) result take_.End answer (λ n e. cc);
  closed = pauses old.half.waiting old.half.ending (length room) result take_.Closed answer (λ n e. cc);
}

-- a take that gives bytes gives as many as wait and the room takes
count_is : (waiting : List ℕ) (e : Ending) (size n : ℕ) → take_.Took n ≡ take_answer waiting e size → n ≡ min size (length waiting)
count_is [] ending.Open size n is = absurd (cc)
count_is [] ending.Ended size n is = absurd (cc)
count_is [] ending.Closed size n is = absurd (cc)
count_is (x ∷ waiting) e size n is = let count : n ≡ min (length (x ∷ waiting)) size = cc in omega (arith, count)

fills_room : (o : Offer) (room : List ℕ) (result : Take) → result ≡ take_answer o.waiting o.ending (length room) → FillsRoom (Some o) room result
fills_room o room (take_.Took n) is = count_is o.waiting o.ending (length room) n is
fills_room o room _ is = tt

-- a take of the half is one of the link
pub step_taken : (old new : LoopInState) (room room' : List ℕ) (result : Take) → length room' ≡ length room → TakeStep (mem_in old.half) (mem_in new.half) room' result → result ≡ take_answer old.half.waiting old.half.ending (length room)
    → new.half.given ++ new.half.waiting ≡ old.half.given ++ old.half.waiting → new.half.ending ≡ old.half.ending → new.peer ≡ old.peer → TakeStep (loop_in old) (loop_in new) room' result
step_taken old new room room' result long step answer bytes same peer = record {
  count = step.count;
  fills = fills_room (offer_of old) room' result (answer ∙ ap (take_answer old.half.waiting old.half.ending) (sym long));
  gave = step.gave;
  bytes = step.bytes;
  end = step.end;
  closed = step.closed;
  takes = step.takes;
  only_closing = step.only_closing;
  closing = step.closing;
  way = refl;
  offer = (offer_of new, refl, offer_taken old new room' result step (answer ∙ ap (take_answer old.half.waiting old.half.ending) (sym long)) bytes same peer);
  later = step.later;
  failed = step.failed;
  kept = step.kept;
}

-- ## Behind an end nothing is given

reached_more : (end : Option ℕ) (made more : ℕ) → is_reached end made ≡ true → made ≤ more → is_reached end more ≡ true
reached_more None made more h less = absurd (cc)
reached_more (Some most) made more h less = le-leb most more (let l = leb-true most made h in omega (arith, l, less))

first_more : (end : Option ℕ) (frames rest : List Frame) → is_reached end (length frames) ≡ true → first_of end (frames ++ rest) ≡ first_of end frames
first_more None frames rest h = absurd (cc)
first_more (Some most) frames rest h = take-append-le most frames rest (leb-true most (length frames) h)

or_left : (a b : Bool) → a ≡ true → (a || b) ≡ true
or_left a b e = ap (λ x. x || b) e

or_right : (a b : Bool) → b ≡ true → (a || b) ≡ true
or_right true b e = refl
or_right false b e = e

-- with more bytes it gives the same, and its end
end_stays : (end : Option ℕ) (bytes more : List ℕ) → ends_for end bytes ≡ true → (ends_for end (bytes ++ more) ≡ true) × (replies_for end (bytes ++ more) ≡ replies_for end bytes)
end_stays end bytes more h = by (is_reached end (length (reply_frames bytes))) refl h
  where
    x : (rest : List Frame) × (reply_frames (bytes ++ more) ≡ reply_frames bytes ++ rest)
    x = replies_begin bytes more

    longer : length (reply_frames bytes) ≤ length (reply_frames (bytes ++ more))
    longer = let e = x.1 in omega (arith, ap length e, length-append (reply_frames bytes) x.0)

    by : (b : Bool) → is_reached end (length (reply_frames bytes)) ≡ b → (b || has_fault bytes) ≡ true → (ends_for end (bytes ++ more) ≡ true) × (replies_for end (bytes ++ more) ≡ replies_for end bytes)
    by true e h = (
      or_left (is_reached end (length (reply_frames (bytes ++ more)))) (has_fault (bytes ++ more)) (reached_more end _ _ e longer),
      ap (flat_map frame_bytes) (ap (first_of end) x.1 ∙ first_more end (reply_frames bytes) x.0 e),
    )
    by false e h =
        let same : stream (bytes ++ more) ≡ stream bytes = fault_stays_whole bytes more h in (
          or_right (is_reached end (length (reply_frames (bytes ++ more)))) (has_fault (bytes ++ more)) (ap (λ (s : Stream). is_fault s.ending) same ∙ h),
          ap (λ (s : Stream). flat_map frame_bytes (first_of end (Rattle.std.specs.Prelude.filter_map Rattle.brpc_model.specs.Reply.reply s.frames))) same,
        )

gives_more : (serve : Bool) (end : Option ℕ) (bytes more : List ℕ) → (serve && ends_for end bytes) ≡ true →
    ((serve && ends_for end (bytes ++ more)) ≡ true) × (cond serve (replies_for end (bytes ++ more)) [] ≡ cond serve (replies_for end bytes) [])
gives_more false end bytes more h = absurd (cc)
gives_more true end bytes more h = end_stays end bytes more h

-- ## Answers

-- an other end that isn't the server takes all
unserved : (serve : Bool) (end : Option ℕ) (l m : List ℕ) → serve ≡ false → ((serve && ends_for end l) ≡ (serve && ends_for end m)) × (cond serve (replies_for end l) [] ≡ cond serve (replies_for end m) [])
unserved true end l m e = absurd (cc)
unserved false end l m e = (refl, refl)

-- an answer that leaves the half as it is
answers_same : (old new : LoopPeerState) (took : List ℕ) (inn : MemInState) → new.serve ≡ old.serve → new.end ≡ old.end → (IsSteady old inn → IsSteady new inn)
    → (IsOffered took inn old → ((new.fed ≡ took) ⊎ (is_ended inn.ending ≡ true)) × IsOffered took inn new) → Answers old took inn new inn
answers_same old new took inn serve end steady all = record { serve = serve; end = end; half = refl; closing = refl; idle = λ _. refl; shut = λ _. refl; steady = steady; all = all }

pub answers_idle : (old new : LoopPeerState) (took : List ℕ) (inn : MemInState) → old.serve ≡ false → new ≡ record old { fed = took } → Answers old took inn new inn
answers_idle old new took inn idle is = let same = unserved old.serve old.end old.fed took idle in
    subst (λ p. Answers old took inn p inn) (sym is) (answers_same old (record old { fed = took }) took inn refl refl (λ s. s ∙ same.0) (λ o. (
      inl refl,
      record {
        left = [];
        begins = sym (append-nil took);
        offered = o.offered ∙ same.1;
        ended = o.ended ∙ same.0;
        closed = λ e. refl;
      },
    )))

-- nothing is left to be fed
pub answers_over : (old : LoopPeerState) (took : List ℕ) (inn : MemInState) → IsOver old took inn → Answers old took inn old inn
answers_over old took inn over = answers_same old old took inn refl refl (λ s. s) (λ o. (by inn.ending refl o, o))
  where
    by : (e : Ending) → inn.ending ≡ e → IsOffered took inn old → (old.fed ≡ took) ⊎ (is_ended inn.ending ≡ true)
    by ending.Open is o =
        let none : o.left ≡ [] = no_bytes o.left (let few = over (ap is_open is) in let b = o.begins in omega (arith, few, ap length b, length-append old.fed o.left)) in
        inl (sym (o.begins ∙ ap (λ l. old.fed ++ l) none ∙ append-nil old.fed))
    by ending.Ended is o = inr (ap is_ended is)
    by ending.Closed is o = inl (sym (o.begins ∙ ap (λ l. old.fed ++ l) (o.closed is) ∙ append-nil old.fed))

ends_where : (b : Bool) → is_ended (ending_for b false) ≡ b
ends_where true = refl
ends_where false = refl

never_closed : (b : Bool) → ending_for b false ≡ ending.Closed → ⊥
never_closed true e = cc
never_closed false e = cc

open_not_ended : (e : Ending) → is_open e ≡ true → is_ended e ≡ false
open_not_ended ending.Open h = refl
open_not_ended ending.Ended h = absurd (cc)
open_not_ended ending.Closed h = absurd (cc)

left_false : (a b : Bool) → (a || b) ≡ false → a ≡ false
left_false true b e = absurd (cc)
left_false false b e = refl

-- the server answered what came behind the bytes that it was fed, and its end came where it belongs
pub answered : (took rest bytes tail server : List ℕ) (inn inn' : MemInState) (old new : LoopPeerState) (faulty : Bool) → old.serve ≡ true → is_open inn.ending ≡ true → IsOffered took inn old →
    rest ≡ drop (length old.fed) took → server ≡ old.fed → NewReplies server rest bytes → faulty ≡ has_fault (server ++ rest) →
    ((frames : List Frame) → bytes ≡ flat_map frame_bytes frames → tail ≡ flat_map frame_bytes (first_left old.end (length (reply_frames server)) frames)) →
    inn'.given ≡ inn.given → inn'.waiting ≡ inn.waiting ++ tail → inn'.ending ≡ ending_for (is_reached old.end (length (reply_frames (server ++ rest))) || faulty) false →
    new.serve ≡ old.serve → new.end ≡ old.end → new.fed ≡ server ++ rest → (new.fed ≡ took) × IsOffered took inn' new
answered took rest bytes tail server inn inn' old new faulty serves live o rest_is server_is replies fault tail_is given waiting ends same_serve same_end fed = (
  all,
  record {
    left = [];
    begins = sym all ∙ sym (append-nil new.fed);
    offered = offered ∙ sym now;
    ended = ap is_ended ends ∙ ends_where (is_reached old.end (length (reply_frames (server ++ rest))) || faulty) ∙ ap (λ b. is_reached old.end (length (reply_frames (server ++ rest))) || b) fault ∙ sym gives;
    closed = λ e. refl;
  },
)
  where
    all : new.fed ≡ took
    all = fed ∙ ap (λ l. l ++ rest) server_is ∙ ap (λ l. old.fed ++ l) (rest_is ∙ ap (drop (length old.fed)) o.begins ∙ drop-append_seam old.fed o.left) ∙ sym o.begins

    serves_now : new.serve ≡ true
    serves_now = same_serve ∙ serves

    gives : gives_end new new.fed ≡ ends_for old.end (server ++ rest)
    gives = ap (λ b. b && ends_for new.end new.fed) serves_now ∙ ap (λ x. ends_for x new.fed) same_end ∙ ap (ends_for old.end) fed

    now : offered_for new new.fed ≡ replies_for old.end (server ++ rest)
    now = ap (λ b. cond b (replies_for new.end new.fed) []) serves_now ∙ ap (λ x. replies_for x new.fed) same_end ∙ ap (replies_for old.end) fed

    not_yet : ends_for old.end old.fed ≡ false
    not_yet = sym (ap (λ b. b && ends_for old.end old.fed) serves) ∙ sym o.ended ∙ open_not_ended inn.ending live

    not_reached : is_reached old.end (length (reply_frames server)) ≡ false
    not_reached = ap (λ l. is_reached old.end (length (reply_frames l))) server_is ∙ left_false (is_reached old.end (length (reply_frames old.fed))) (has_fault old.fed) not_yet

    before : inn.given ++ inn.waiting ≡ replies_for old.end server
    before = o.offered ∙ ap (λ b. cond b (replies_for old.end old.fed) []) serves ∙ ap (replies_for old.end) (sym server_is)

    offered : inn'.given ++ inn'.waiting ≡ replies_for old.end (server ++ rest)
    offered =
        ap (λ l. l ++ inn'.waiting) given ∙ ap (λ l. inn.given ++ l) waiting ∙ sym (append_assoc inn.given inn.waiting tail)
        ∙ ap (λ l. l ++ tail) before ∙ ap (λ l. replies_for old.end server ++ l) (tail_is replies.0 replies.2)
        ∙ offered_more old.end (reply_frames server) replies.0 not_reached
        ∙ ap (λ l. flat_map frame_bytes (first_of old.end l)) (sym replies.1)

still_open : (e : Ending) (b : Bool) → is_open e ≡ true → is_closing (ending_for b false) ≡ is_closing e
still_open ending.Open true h = refl
still_open ending.Open false h = refl
still_open ending.Ended b h = absurd (cc)
still_open ending.Closed b h = absurd (cc)

pub answers_served : (old new : LoopPeerState) (took front rest server server' bytes tail : List ℕ) (inn mid inn' : MemInState) (end : Option ℕ) (given made : ℕ) (faulty : Bool) → old.serve ≡ true → is_open inn.ending ≡ true →
    front ≡ take (length old.fed) took → rest ≡ drop (length old.fed) took → (front ≡ old.fed → server ≡ front) → server' ≡ server ++ rest → NewReplies server rest bytes → faulty ≡ has_fault (server ++ rest) →
    end ≡ old.end → given ≡ length (reply_frames server) → made ≡ length (reply_frames server') →
    ((frames : List Frame) → bytes ≡ flat_map frame_bytes frames → tail ≡ flat_map frame_bytes (first_left end given frames)) →
    mid ≡ record inn { waiting = inn.waiting ++ tail } → inn' ≡ record mid { ending = ending_for (is_reached end made || faulty) false } → new ≡ record old { fed = server' } → Answers old took inn new inn'
answers_served old new took front rest server server' bytes tail inn mid inn' end given made faulty serves live front_is rest_is begun fed replies fault end_is given_is made_is tail_is mid_is inn_is new_is = record {
  serve = ap (λ (p : LoopPeerState). p.serve) new_is;
  end = ap (λ (p : LoopPeerState). p.end) new_is;
  half = inn_whole ∙ λ i. record inn { waiting = sym waits i; ending = sym ends i };
  closing = ap is_closing ends ∙ still_open inn.ending (is_reached end made || faulty) live;
  idle = λ e. let x : false ≡ true = sym e ∙ serves in absurd (cc);
  shut = λ e. let x : false ≡ true = sym e ∙ live in absurd (cc);
  steady = λ _. ap is_ended ends ∙ ends_where (is_reached end made || faulty) ∙ ap (λ x. is_reached x made || faulty) end_is ∙ ap (λ n. is_reached old.end n || faulty) (made_is ∙ ap (λ l. length (reply_frames l)) fed) ∙ ap (λ b. is_reached old.end (length (reply_frames (server ++ rest))) || b) fault ∙ sym gives;
  all = λ o. let x =
      answered took rest bytes tail server inn inn' old new faulty serves live o rest_is (begun (first_fed o) ∙ first_fed o) replies fault
      (λ frames are. tail_is frames are ∙ ap (λ x. flat_map frame_bytes (first_left x given frames)) end_is ∙ ap (λ n. flat_map frame_bytes (first_left old.end n frames)) given_is)
      (ap (λ (i : MemInState). i.given) inn_whole) waits
      (ends ∙ ap (λ x. ending_for (is_reached x made || faulty) false) end_is ∙ ap (λ n. ending_for (is_reached old.end n || faulty) false) (made_is ∙ ap (λ l. length (reply_frames l)) fed))
      (ap (λ (p : LoopPeerState). p.serve) new_is) (ap (λ (p : LoopPeerState). p.end) new_is) (ap (λ (p : LoopPeerState). p.fed) new_is ∙ fed) in (inl x.0, x.1);
}
  where
    gives : gives_end new new.fed ≡ ends_for old.end (server ++ rest)
    gives = ap (λ (p : LoopPeerState). gives_end p p.fed) new_is ∙ ap (λ b. b && ends_for old.end server') serves ∙ ap (ends_for old.end) fed

    inn_whole : inn' ≡ record inn { waiting = inn.waiting ++ tail; ending = ending_for (is_reached end made || faulty) false }
    inn_whole = inn_is ∙ ap (λ (i : MemInState). record i { ending = ending_for (is_reached end made || faulty) false }) mid_is

    waits : inn'.waiting ≡ inn.waiting ++ tail
    waits = ap (λ (i : MemInState). i.waiting) inn_whole

    ends : inn'.ending ≡ ending_for (is_reached end made || faulty) false
    ends = ap (λ (i : MemInState). i.ending) inn_whole

    first_fed : IsOffered took inn old → front ≡ old.fed
    first_fed o = front_is ∙ ap (take (length old.fed)) o.begins ∙ take-append_seam old.fed o.left

-- ## Settling

-- what callers see is what belongs to the link
served_is : (took : List ℕ) (finished : Bool) (half : MemInState) (peer : LoopPeerState) → IsSteady peer half → IsServed took finished half.given (offer_of (record { half = half; peer = peer })) → IsOffered took half peer
served_is took finished half peer steady s = record { left = s.left; begins = s.begins; offered = s.offered; ended = steady; closed = λ e. (s.closed e).1 }

is_served : (took : List ℕ) (finished : Bool) (half : MemInState) (peer : LoopPeerState) → IsOffered took half peer → (half.ending ≡ ending.Closed → finished ≡ true) → IsServed took finished half.given (offer_of (record { half = half; peer = peer }))
is_served took finished half peer o over = record {
  left = o.left;
  begins = o.begins;
  offered = o.offered;
  ended = λ e more. (gives_more peer.serve peer.end peer.fed more (sym o.ended ∙ ap is_ended e)).1;
  closed = λ e. (over e, o.closed e);
}

closing_ended : (e : Ending) → is_ended (closing e) ≡ is_ended e
closing_ended ending.Open = refl
closing_ended ending.Ended = refl
closing_ended ending.Closed = refl

closed_before : (e f : Ending) → is_closing e ≡ is_closing f → e ≡ ending.Closed → f ≡ ending.Closed
closed_before e ending.Open same is = absurd (let x : false ≡ true = sym same ∙ ap is_closing is in cc)
closed_before e ending.Ended same is = absurd (let x : false ≡ true = sym same ∙ ap is_closing is in cc)
closed_before e ending.Closed same is = refl

closes_where : (e : Ending) (b : Bool) → is_ended e ≡ b → (e ≡ ending.Closed → ⊥) → e ≡ ending_for b false
closes_where ending.Open b is shut = ap (λ x. ending_for x false) is
closes_where ending.Ended b is shut = ap (λ x. ending_for x false) is
closes_where ending.Closed b is shut = absurd (shut refl)

closed_where : (e : Ending) (b : Bool) → is_ended e ≡ b → closing e ≡ ending_for b true
closed_where ending.Open b is = ap (λ x. ending_for x true) is
closed_where ending.Ended b is = ap (λ x. ending_for x true) is
closed_where ending.Closed b is = ap (λ x. ending_for x true) is

-- all was fed, or the end stands behind what was
module _ (took : List ℕ) (half : MemInState) (peer : LoopPeerState) (o : IsOffered took half peer) where
  offers_all : (peer.fed ≡ took) ⊎ (is_ended half.ending ≡ true) → offered_for peer took ≡ offered_for peer peer.fed
  offers_all (inl fed) = ap (offered_for peer) (sym fed)
  offers_all (inr ended) = ap (offered_for peer) o.begins ∙ (gives_more peer.serve peer.end peer.fed o.left (sym o.ended ∙ ended)).1

  ended_all : (peer.fed ≡ took) ⊎ (is_ended half.ending ≡ true) → is_ended half.ending ≡ gives_end peer took
  ended_all (inl fed) = o.ended ∙ ap (gives_end peer) fed
  ended_all (inr ended) = ended ∙ sym (ap (gives_end peer) o.begins ∙ (gives_more peer.serve peer.end peer.fed o.left (sym o.ended ∙ ended)).0)

module _ (took : List ℕ) (finished : Bool) (half mid : MemInState) (peer new : LoopPeerState) (steady : IsSteady peer half) (a : Answers peer took half new mid) where
  abbrev Was : Type 0
  Was = IsServed took finished half.given (offer_of (record { half = half; peer = peer }))

  given : mid.given ≡ half.given
  given = ap (λ (i : MemInState). i.given) a.half

  -- the link isn't finished
  pub settled_open : finished ≡ false → Was → Settled took finished (record { half = mid; peer = new })
  settled_open open_ s = let x = a.all (served_is took finished half peer steady s) in
      let over : mid.ending ≡ ending.Closed → finished ≡ true = λ e. (s.closed (closed_before mid.ending half.ending a.closing e)).0 in record {
        offered = x.1.offered ∙ sym (offers_all took mid new x.1 x.0);
        ending = closes_where mid.ending (gives_end new took) (ended_all took mid new x.1 x.0) (λ e. let z : false ≡ true = sym open_ ∙ over e in cc) ∙ ap (ending_for (gives_end new took)) (sym open_);
        served = is_served took finished mid new x.1 over;
      }

  -- it is, and so the other end closes its half
  pub settled_closed : finished ≡ true → Was → Settled took finished (record { half = record mid { ending = closing mid.ending }; peer = new })
  settled_closed over s = let x = a.all (served_is took finished half peer steady s) in record {
    offered = x.1.offered ∙ sym (offers_all took mid new x.1 x.0);
    ending = closed_where mid.ending (gives_end new took) (ended_all took mid new x.1 x.0) ∙ ap (ending_for (gives_end new took)) (sym over);
    served = is_served took finished (record mid { ending = closing mid.ending }) new (closes x.1 x.0) (λ _. over);
  }
    where
      left : (o : IsOffered took mid new) → (new.fed ≡ took) ⊎ (is_ended mid.ending ≡ true) → closing mid.ending ≡ ending.Closed → o.left ≡ []
      left o (inl fed) e = no_bytes o.left (let b = o.begins in omega (arith, ap length fed, ap length b, length-append new.fed o.left))
      left o (inr ended) e = absurd (let z : true ≡ false = sym ended ∙ sym (closing_ended mid.ending) ∙ ap is_ended e in cc)

      closes : IsOffered took mid new → (new.fed ≡ took) ⊎ (is_ended mid.ending ≡ true) → IsOffered took (record mid { ending = closing mid.ending }) new
      closes o fed = record { left = o.left; begins = o.begins; offered = o.offered; ended = closing_ended mid.ending ∙ o.ended; closed = left o fed }

-- behind a link that was finished an end is known
known_to_end : (b finished : Bool) (e : Ending) → e ≡ ending_for b finished → finished ≡ true → e ≢ ending.Open
known_to_end true finished e is over open_ = absurd (let z : ending.Ended ≡ ending.Open = sym is ∙ open_ in cc)
known_to_end false true e is over open_ = absurd (let z : ending.Closed ≡ ending.Open = sym is ∙ open_ in cc)
known_to_end false false e is over open_ = absurd (cc)

pub settled_ends : (took : List ℕ) (finished : Bool) (i : LoopInState) → Settled took finished i → finished ≡ true → i.half.ending ≢ ending.Open
settled_ends took finished i s = known_to_end (gives_end i.peer took) finished i.half.ending s.ending

-- what callers see of a link that settled: it is served, all is offered that belongs to it, and where it was finished that is known to end
pub settles : (took : List ℕ) (finished : Bool) (old new : LoopInState) → (IsServed took finished old.half.given (offer_of old) → Settled took finished new) → new.half.given ≡ old.half.given
    → (o : Offer) (t gave : List ℕ) → Some (offer_of old) ≡ Some o → Some took ≡ Some t → Some old.half.given ≡ Some gave → IsServed t finished gave o
    → (o' : Offer) × (Some (offer_of new) ≡ Some o') × IsServed t finished gave o' × (offered_by o' t ≡ offered_by o' o'.fed) × (finished ≡ true → o'.ending ≢ ending.Open)
settles took finished old new settled same o t gave offer_is took_is gave_is s =
    let a : o ≡ offer_of old = cc in
    let b : t ≡ took = cc in
    let c : gave ≡ old.half.given = cc in
    let x : Settled took finished new = settled (subst (λ (y : Offer). IsServed took finished old.half.given y) a (subst (λ (l : List ℕ). IsServed l finished old.half.given o) b (subst (λ (l : List ℕ). IsServed t finished l o) c s))) in (
      offer_of new,
      refl,
      subst (λ (l : List ℕ). IsServed l finished gave (offer_of new)) (sym b) (subst (λ (l : List ℕ). IsServed took finished l (offer_of new)) (same ∙ sym c) x.served),
      ap (offered_by (offer_of new)) b ∙ sym x.offered ∙ x.served.offered,
      settled_ends took finished new x,
    )

-- ## A new link, as callers see it

served_new : (serve : Bool) (end : Option ℕ) → IsServed [] false [] (offer_of (new_in serve end))
served_new serve end = is_served [] false (empty_in (first_ending serve end)) (record { serve = serve; end = end; fed = [] })
    (record { left = []; begins = refl; offered = nothing_offered serve end; ended = steady_new serve end; closed = λ _. refl })
    (λ e. absurd (not_closed (serve && is_reached end 0) e))

pub new_offer : (spec : LinkSpec) (i : LoopInState) → i ≡ new_in spec.shape.serve spec.shape.end → IsNewOffer spec (offer_of i)
new_offer spec i is = subst (λ x. IsNewOffer spec (offer_of x)) (sym is) record { serve = refl; end = refl; served = served_new spec.shape.serve spec.shape.end }

-- ## A link that is given back

-- once its reading half told of the end or the closing, it gave all that the other end gives for what the link took
pub gave_all : (took : List ℕ) (finished : Bool) (half : MemInState) (peer : LoopPeerState) → IsSteady peer half → IsTold half → IsServed took finished half.given (offer_of (record { half = half; peer = peer })) → HasTold half → half.given ≡ offered_for peer took
gave_all took finished half peer steady told s t = by half.ending refl (told t)
  where
    by : (e : Ending) → half.ending ≡ e → (is_open half.ending ≡ false) × (half.waiting ≡ []) → half.given ≡ offered_for peer took
    by ending.Open is x = absurd (let z : true ≡ false = sym (ap is_open is) ∙ x.0 in cc)
    by ending.Ended is x = gave_to_end took half.given finished (offer_of (record { half = half; peer = peer })) s x.1 is [] ∙ ap (offered_for peer) (append-nil took)
    by ending.Closed is x = gave_to_closing took half.given finished (offer_of (record { half = half; peer = peer })) s x.1 is

told_end : (inn : MemInState) → (inn.gave_end ≡ true) ⊎ (Some inn.closed ≡ Some true) → HasTold inn
told_end inn (inl t) = inl t
told_end inn (inr t) = let e : inn.closed ≡ true = cc in inr e

-- with the server these are the replies to what it took, cut to the first N with `end=N`
pub gave_replies : (out : ShapedState) (finished : Bool) (half : MemInState) (peer : LoopPeerState) (shape : Shape) → IsSteady peer half → IsTold half → IsServed out.taken finished half.given (offer_of (record { half = half; peer = peer })) → peer.serve ≡ true → peer.end ≡ shape.end →
    ((end_of (shaped_out out) (loop_in (record { half = half; peer = peer }))).gave_end ≡ true) ⊎ ((end_of (shaped_out out) (loop_in (record { half = half; peer = peer }))).closed ≡ Some true) → half.given ≡ given_for shape out.taken
gave_replies out finished half peer shape steady told s serves end_is t =
    gave_all out.taken finished half peer steady told s (told_end half t) ∙ ap (λ b. cond b (replies_for peer.end out.taken) []) serves ∙ ap (λ x. replies_for x out.taken) end_is

-- without it there are none
pub gave_nothing : (took : List ℕ) (finished : Bool) (half : MemInState) (peer : LoopPeerState) → IsServed took finished half.given (offer_of (record { half = half; peer = peer })) → peer.serve ≡ false → half.given ≡ []
gave_nothing took finished half peer s idle =
    let none : half.given ++ half.waiting ≡ [] = s.offered ∙ ap (λ b. cond b (replies_for peer.end peer.fed) []) idle in
    no_bytes half.given (omega (arith, ap length none, length-append half.given half.waiting))
