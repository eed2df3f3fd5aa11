-- A connection that was fed piece by piece: its replies are those of all bytes, and behind a fault there are none.
use Rattle.std.proofs.Common.{◌≡◌, ℕ, zero, suc, ◌+◌, ◌<◌, Bool, true, false, nat_lt, List, [], ◌∷◌, ◌++◌, length, drop, refl, ap, sym, ◌∙◌, subst, arith, append_assoc, length-append, drop_of_length-le, Ok, Err}
use Rattle.std.specs.Prelude.{filter_map}
use Rattle.std.proofs.lemmas.Bool.{ltb-true, ltb-false}
use Rattle.std.proofs.lemmas.List.{drop-append-le}
use Rattle.std.proofs.lemmas.List.Elements.{filter_map-append}
use Rattle.brpc_model.specs.Frame.{Frame, Judged, NoneYet, Faulty, Begins, judged}
use Rattle.brpc_model.specs.FrameStream.{Stream, with_frame, goes_on, stream_up_to, stream_from, stream, is_fault}
use Rattle.brpc_model.specs.Reply.{reply, reply_frames, replies}
use Rattle.brpc_model.proofs.StreamBehindFirstFrame.{stream_goes_on}
use Rattle.prpc_frame.proofs.LastingStreamFacts.{stays, faulty}
use Rattle.rpc_server.specs.HeldByConnection.{Held}
use Rattle.rpc_server.specs.Feeding.{has_fault, Replied, Feeds}
use Rattle.rpc_server.specs.declared.conn.ConnFault.TheVariants as fault_
use Rattle.loop_link.specs.ServingFedBytes.{Follows, Goes, NewReplies}

-- ## Behind a fault

none_faulty : (n at : ℕ) → is_fault (stream_up_to n at []).ending ≡ true → ⊥
none_faulty zero at h = cc
none_faulty (suc n) at h = cc

-- a stream with a fault is the same with more bytes behind
fault_stays : (n at : ℕ) (bytes more : List ℕ) → is_fault (stream_up_to n at bytes).ending ≡ true → stream_from at (bytes ++ more) ≡ stream_up_to n at bytes
fault_stays zero at bytes more h = absurd (cc)
fault_stays (suc n) at bytes more h = by (λ body k. fault_stays n (at + (12 + body)) (drop (12 + body) bytes) more k) (judged bytes) refl h
  where
    later : ℕ → Stream
    later body = stream_up_to n (at + (12 + body)) (drop (12 + body) bytes)

    Stays : Type 0
    Stays = (body : ℕ) → is_fault (later body).ending ≡ true → stream_from (at + (12 + body)) (drop (12 + body) bytes ++ more) ≡ later body

    by_room : Stays → (f : Frame) (body : ℕ) → judged bytes ≡ Begins f body → is_fault (later body).ending ≡ true → (b : Bool) → nat_lt (length bytes) (12 + body) ≡ b → stream_from at (bytes ++ more) ≡ with_frame f (later body)
    by_room ih f body e k true r =
        let none : drop (12 + body) bytes ≡ [] = drop_of_length-le bytes (let l : length bytes < 12 + body = ltb-true (length bytes) (12 + body) r in omega (arith, l)) in
        absurd (none_faulty n (at + (12 + body)) (subst (λ l. is_fault (stream_up_to n (at + (12 + body)) l).ending ≡ true) none k))
    by_room ih f body e k false r =
        stream_goes_on at (bytes ++ more)
        ∙ ap (λ (j : Judged). goes_on at (bytes ++ more) j (λ body. stream_from (at + (12 + body)) (drop (12 + body) (bytes ++ more)))) (stays bytes more (λ no. let x : NoneYet ≡ Begins f body = sym no ∙ e in cc) ∙ e)
        ∙ ap (with_frame f) (ap (stream_from (at + (12 + body))) (drop-append-le (12 + body) bytes more (ltb-false (length bytes) (12 + body) r)) ∙ ih body k)

    by : Stays → (j : Judged) → judged bytes ≡ j → is_fault (goes_on at bytes j later).ending ≡ true → stream_from at (bytes ++ more) ≡ goes_on at bytes (judged bytes) later
    by ih NoneYet e k = absurd (cc)
    by ih (Faulty f) e k = faulty at bytes more f e ∙ sym (ap (λ j. goes_on at bytes j later) e)
    by ih (Begins f body) e k = by_room ih f body e k (nat_lt (length bytes) (12 + body)) refl ∙ sym (ap (λ j. goes_on at bytes j later) e)

pub fault_stays_whole : (bytes more : List ℕ) → has_fault bytes ≡ true → stream (bytes ++ more) ≡ stream bytes
fault_stays_whole bytes more h = fault_stays (suc (length bytes)) 0 bytes more h

-- ## With more bytes

-- the frames of some bytes are the first ones of more
frames_begin : (n at : ℕ) (bytes more : List ℕ) → (rest : List Frame) × ((stream_from at (bytes ++ more)).frames ≡ (stream_up_to n at bytes).frames ++ rest)
frames_begin zero at bytes more = ((stream_from at (bytes ++ more)).frames, refl)
frames_begin (suc n) at bytes more = by (λ body. frames_begin n (at + (12 + body)) (drop (12 + body) bytes) more) (judged bytes) refl
  where
    later : ℕ → Stream
    later body = stream_up_to n (at + (12 + body)) (drop (12 + body) bytes)

    Begun : List Frame → Type 0
    Begun frames = (rest : List Frame) × ((stream_from at (bytes ++ more)).frames ≡ frames ++ rest)

    Later : Type 0
    Later = (body : ℕ) → (rest : List Frame) × ((stream_from (at + (12 + body)) (drop (12 + body) bytes ++ more)).frames ≡ (later body).frames ++ rest)

    whole : (f : Frame) (body : ℕ) → judged bytes ≡ Begins f body → (stream_from at (bytes ++ more)).frames ≡ f ∷ (stream_from (at + (12 + body)) (drop (12 + body) (bytes ++ more))).frames
    whole f body e = ap (λ (s : Stream). s.frames) (stream_goes_on at (bytes ++ more)
        ∙ ap (λ (j : Judged). goes_on at (bytes ++ more) j (λ body. stream_from (at + (12 + body)) (drop (12 + body) (bytes ++ more)))) (stays bytes more (λ no. let x : NoneYet ≡ Begins f body = sym no ∙ e in cc) ∙ e))

    none_later : (k at : ℕ) → (stream_up_to k at []).frames ≡ []
    none_later zero at = refl
    none_later (suc k) at = refl

    by_room : Later → (f : Frame) (body : ℕ) → judged bytes ≡ Begins f body → (b : Bool) → nat_lt (length bytes) (12 + body) ≡ b → Begun (f ∷ (later body).frames)
    by_room ih f body e true r =
        let none : drop (12 + body) bytes ≡ [] = drop_of_length-le bytes (let l : length bytes < 12 + body = ltb-true (length bytes) (12 + body) r in omega (arith, l)) in
        let last : (later body).frames ≡ [] = ap (λ l. (stream_up_to n (at + (12 + body)) l).frames) none ∙ none_later n (at + (12 + body)) in
        let rest : List Frame = (stream_from (at + (12 + body)) (drop (12 + body) (bytes ++ more))).frames in
        (rest, whole f body e ∙ ap (λ l. f ∷ (l ++ rest)) (sym last))
    by_room ih f body e false r =
        ((ih body).0, whole f body e ∙ ap (λ l. f ∷ l) (ap (λ l. (stream_from (at + (12 + body)) l).frames) (drop-append-le (12 + body) bytes more (ltb-false (length bytes) (12 + body) r)) ∙ (ih body).1))

    by : Later → (j : Judged) → judged bytes ≡ j → Begun (goes_on at bytes (judged bytes) later).frames
    by ih NoneYet e = ((stream_from at (bytes ++ more)).frames, ap (λ (s : Stream). s.frames ++ (stream_from at (bytes ++ more)).frames) (sym (ap (λ j. goes_on at bytes j later) e)))
    by ih (Faulty f) e = ([], ap (λ (s : Stream). s.frames) (faulty at bytes more f e) ∙ ap (λ (s : Stream). s.frames ++ []) (sym (ap (λ j. goes_on at bytes j later) e)))
    by ih (Begins f body) e = subst Begun (sym (ap (λ j. (goes_on at bytes j later).frames) e)) (by_room ih f body e (nat_lt (length bytes) (12 + body)) refl)

-- and so are the replies
pub replies_begin : (bytes more : List ℕ) → (rest : List Frame) × (reply_frames (bytes ++ more) ≡ reply_frames bytes ++ rest)
replies_begin bytes more =
    let x = frames_begin (suc (length bytes)) 0 bytes more in
    (filter_map reply x.0, ap (filter_map reply) x.1 ∙ filter_map-append reply (stream bytes).frames x.0)

-- ## A piece

pub goes : (c c' : Held) (piece before now : List ℕ) → Feeds c piece before (Ok tt) c' now → Goes c piece c' before now false
goes c c' piece before now x = record { replied = x.0; fault = sym (ap is_fault x.1) }

pub goes_faulty : (c c' : Held) (piece before now : List ℕ) (fault : _) → Feeds c piece before (Err (fault_.Frame fault)) c' now → Goes c piece c' before now true
goes_faulty c c' piece before now fault x = record { replied = x.0; fault = sym (ap is_fault x.1.3) }

pub follows_next : (fed piece : List ℕ) (c c' : Held) (before now : List ℕ) → Follows fed c → Replied c piece c' before now → Follows (fed ++ piece) c'
follows_next fed piece c c' before now f r = record {
  made = omega (arith, r.counted, f.made, ap length (f.goes_on piece), length-append (reply_frames fed) (reply_frames (c.bytes ++ piece)));
  goes_on = λ more.
      ap reply_frames (append_assoc fed piece more) ∙ f.goes_on (piece ++ more) ∙ ap (λ l. reply_frames fed ++ l) (r.goes_on more)
      ∙ sym (append_assoc (reply_frames fed) (reply_frames (c.bytes ++ piece)) (reply_frames (c'.bytes ++ more)))
      ∙ ap (λ l. l ++ reply_frames (c'.bytes ++ more)) (sym (f.goes_on piece));
  faults = λ more. ap has_fault (append_assoc fed piece more) ∙ f.faults (piece ++ more) ∙ r.faults more;
}

pub new_replies : (fed piece : List ℕ) (c c' : Held) (before now : List ℕ) → Follows fed c → Replied c piece c' before now → before ≡ [] → NewReplies fed piece now
new_replies fed piece c c' before now f r none = (reply_frames (c.bytes ++ piece), f.goes_on piece, r.appended ∙ ap (λ l. l ++ replies (c.bytes ++ piece)) none)
