-- Frames in streams that are made of whole frames, and what each reply says.
use Rattle.std.proofs.Common.{◌≡◌, ℕ, zero, suc, ◌+◌, ◌-◌, ◌<◌, ◌≤◌, List, [], ◌∷◌, ◌++◌, length, take, drop, flat_map, filter_map, slice_get, Some, None, length-append, append-nil, append_assoc, drop_of_length-le, refl, sym, ap, ◌∙◌, subst, arith}
use Rattle.std.proofs.lemmas.Grind.{flat_map-append}
use Rattle.std.proofs.lemmas.List.Elements.{filter_map-append}
use Rattle.std.specs.List.{AllByRecursion}
use Rattle.std.specs.Prelude.{pos, IsSome}
use Rattle.brpc_model.specs.Frame.{Frame, IsFrame, frame_bytes}
use Rattle.brpc_model.specs.Reply.{Answer, Gives, Refuses, served, answered_by, reply}
use Rattle.brpc_model.specs.FrameStream.{Stream, Rest, stream, stream_from, goes_on}
use Rattle.brpc_model.proofs.StreamBehindFirstFrame.{stream_goes_on}
use Rattle.prpc_frame.proofs.Encoded.{frame_judged}
use Rattle.served_runs.specs.Below.script_facts.proofs.FilteredLists.{Has, some_is, has_later, has_filter_map}
use Rattle.sock_message.specs.Asked.{Asked}
use Rattle.seat_programs.specs.ReaderProgram.{last_of}
use Rattle.served_runs.specs.Below.call_stories.proofs.StreamFramesStay.{frames_behind_rest}
use Rattle.served_runs.specs.ServedLinks.{request_with}
use Rattle.served_runs.proofs.WholeFrameStreams.{IsPiece, pieces_end}

-- ## Lists

pub has_right : {A : Type 0} (xs ys : List A) (x : A) → Has ys x → Has (xs ++ ys) x
has_right [] ys x h = h
has_right (y ∷ xs) ys x h = has_later y (xs ++ ys) x (has_right xs ys x h)

-- the elements before a place stay where they are
pub take_at : {A : Type 0} (n : ℕ) (xs : List A) (i : ℕ) (x : A) → slice_get xs i ≡ Some x → i < n → slice_get (take n xs) i ≡ Some x
take_at zero xs i x e less = absurd (let z : ⊥ = omega (arith, less) in z)
take_at (suc n) [] i x e less = absurd (cc)
take_at (suc n) (y ∷ ys) zero x e less = e
take_at (suc n) (y ∷ ys) (suc i) x e less = take_at n ys i x e (omega (arith, less))

pub flat_long : {A : Type 0} (f : A → List ℕ) (xs : List A) (x : A) → Has xs x → length (f x) ≤ length (flat_map f xs)
flat_long f [] x h = absurd (let w : None ≡ Some x = h.1 in cc)
flat_long f (y ∷ ys) x (zero, e) = let l = length-append (f y) (flat_map f ys) in let same = ap (λ z. length (f z)) (some_is y x e) in omega (arith, l, same)
flat_long f (y ∷ ys) x (suc i, e) = let l = length-append (f y) (flat_map f ys) in let r = flat_long f ys x (i, e) in omega (arith, l, r)

-- ## Streams of whole frames

last_none : (bytes : List ℕ) → last_of 0 bytes ≡ []
last_none bytes = drop_of_length-le bytes (let z : length bytes ≤ length bytes - 0 = omega arith in z)

-- behind bytes that end in no rest, the frames of others follow
pub frames_then : (xs ys : List ℕ) → (stream xs).ending ≡ Rest 0 → (stream (xs ++ ys)).frames ≡ (stream xs).frames ++ (stream ys).frames
frames_then xs ys is = frames_behind_rest xs ys 0 is ∙ ap (λ l. (stream xs).frames ++ (stream (l ++ ys)).frames) (last_none xs)

-- a frame in front is the first
pub first_has : (bytes more : List ℕ) (f : Frame) → IsFrame bytes f → Has (stream (bytes ++ more)).frames f
first_has bytes more f is = (0, ap (λ (s : Stream). slice_get s.frames 0) (stream_goes_on 0 (bytes ++ more)) ∙ ap (λ j. slice_get (goes_on 0 (bytes ++ more) j (λ body. stream_from (0 + (12 + body)) (drop (12 + body) (bytes ++ more)))).frames 0) (frame_judged bytes more f is))

module _ {A : Type 0} (bytes_of : A → List ℕ) (Q : Frame → Type 0) where
  -- each of the frames is among those of the stream
  pub piece_has : (xs : List A) → AllByRecursion (λ x. IsPiece Q (bytes_of x)) xs → (x : A) (f : Frame) → Has xs x → IsFrame (bytes_of x) f → (more : List ℕ) → Has (stream (flat_map bytes_of xs ++ more)).frames f
  piece_has [] all x f h is more = absurd (let w : None ≡ Some x = h.1 in cc)
  piece_has (y ∷ ys) all x f (zero, e) is more = subst (λ l. Has (stream l).frames f) (sym (append_assoc (bytes_of y) (flat_map bytes_of ys) more)) (first_has (bytes_of y) (flat_map bytes_of ys ++ more) f (subst (λ z. IsFrame (bytes_of z) f) (sym (some_is y x e)) is))
  piece_has (y ∷ ys) all x f (suc i, e) is more = subst (λ l. Has (stream l).frames f) (sym (append_assoc (bytes_of y) (flat_map bytes_of ys) more))
      (subst (λ l. Has l f) (sym (frames_then (bytes_of y) (flat_map bytes_of ys ++ more) (subst (λ l. (stream l).ending ≡ Rest 0) (append-nil (bytes_of y)) (pieces_end bytes_of Q (y ∷ []) (all.0, tt) 0))))
      (has_right (stream (bytes_of y)).frames (stream (flat_map bytes_of ys ++ more)).frames f (piece_has ys all.1 x f (i, e) is more)))

-- ## Replies

some_bytes : (g : Frame) → 1 ≤ length (frame_bytes g)
some_bytes g = omega arith

-- a reply more makes what is given longer
pub reply_more : (fs gs : List Frame) (f g : Frame) → Has gs f → reply f ≡ Some g → length (flat_map frame_bytes (filter_map reply fs)) < length (flat_map frame_bytes (filter_map reply (fs ++ gs)))
reply_more fs gs f g there is = let a = ap (λ l. length (flat_map frame_bytes l)) (filter_map-append reply fs gs) in let b = ap length (flat_map-append frame_bytes (filter_map reply fs) (filter_map reply gs)) in
    let c = length-append (flat_map frame_bytes (filter_map reply fs)) (flat_map frame_bytes (filter_map reply gs)) in
    let d = flat_long frame_bytes (filter_map reply gs) g (has_filter_map reply gs f g there is) in let e = some_bytes g in omega (arith, a, b, c, d, e)

-- what each answer says
pub record SaysReply (id : ℕ) (g : Frame) : Type 0 where
  pub same_id : g.meta.correlation_id ≡ id
  pub uncompressed : g.meta.compress_type ≡ pos 0
  pub response : IsSome g.meta.response

answer_says : (id : ℕ) (a : Answer) → SaysReply id (answered_by id a)
answer_says id (Gives payload attachment) = record { same_id = refl; uncompressed = refl; response = refl }
answer_says id (Refuses code text) = record { same_id = refl; uncompressed = refl; response = refl }

-- the reply to a call's request
abbrev pub reply_to : Asked → ℕ → Frame
reply_to asked id = answered_by id (served (pos 0) (record { service = asked.service; method = asked.method; log_id = None }) asked.payload asked.attachment)

pub replies_so : (asked : Asked) (id : ℕ) → reply (request_with asked id) ≡ Some (reply_to asked id)
replies_so asked id = refl

pub reply_says : (asked : Asked) (id : ℕ) (g : Frame) → reply (request_with asked id) ≡ Some g → SaysReply id g
reply_says asked id g is = subst (SaysReply id) (some_is (reply_to asked id) g is) (answer_says id (served (pos 0) (record { service = asked.service; method = asked.method; log_id = None }) asked.payload asked.attachment))
