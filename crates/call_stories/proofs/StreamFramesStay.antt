-- Frames stay where more bytes come, and behind a rest those follow that begin with it.
use Rattle.std.proofs.Common.{append_assoc, ◌≡◌, ℕ, zero, suc, ◌+◌, ◌-◌, ◌<◌, ◌≤◌, not, ◌&&◌, Bool, true, false, cond, eqb, nat_lt, ltb-false, List, [], ◌∷◌, ◌++◌, length, take, drop, slice_get, Some, None, Result, Ok, Err, ℤ, pos, negsuc, refl, sym, ap, ◌∙◌, subst, arith, length-drop, drop-drop}
use lib.Seq.{drop-append-le}
use Rattle.seat_programs.specs.brpc_model.specs.Meta.{Meta, MetaFault, read_meta}
use Rattle.seat_programs.specs.brpc_model.specs.Frame.{Frame, FrameFault, BadMagic, TooBig, MetaOver, Judged, NoneYet, Faulty, Begins, high_first, matching, body_limit, with_attachment, body_judged, judged}
use Rattle.seat_programs.specs.brpc_model.specs.LinkFailureCauses.{HasFault}
use Rattle.prpc_frame.proofs.StreamCuts.{frames_anywhere}
use Rattle.prpc_frame.proofs.LastingStreamFacts.{stays, faulty}
use Rattle.seat_programs.specs.brpc_model.specs.FrameStream.{Ending, Stream, Rest, Fault, stream, goes_on, stream_up_to, stream_from}
use Rattle.seat_programs.specs.brpc_model.proofs.StreamBehindFirstFrame.{stream_goes_on}
use Rattle.seat_programs.specs.ReaderProgram.{last_of}

-- ## One judgement

-- the eight cases by what they test
abbrev judge : Bool → Bool → Judged → Judged → Judged → Bool → Bool → Bool → Judged → Judged
judge wrong short x y z big over more j = cond wrong x (cond short NoneYet (cond big y (cond over z (cond more NoneYet j))))

judge_begins : (wrong short : Bool) (x y z : FrameFault) (big over more : Bool) (j : Judged) (f : Frame) (n : ℕ) → judge wrong short (Faulty x) (Faulty y) (Faulty z) big over more j ≡ Begins f n → (short ≡ false) × (more ≡ false) × (j ≡ Begins f n)
judge_begins true short x y z big over more j f n e = absurd (let w : Faulty x ≡ Begins f n = e in cc)
judge_begins false true x y z big over more j f n e = absurd (let w : NoneYet ≡ Begins f n = e in cc)
judge_begins false false x y z true over more j f n e = absurd (let w : Faulty y ≡ Begins f n = e in cc)
judge_begins false false x y z false true more j f n e = absurd (let w : Faulty z ≡ Begins f n = e in cc)
judge_begins false false x y z false false true j f n e = absurd (let w : NoneYet ≡ Begins f n = e in cc)
judge_begins false false x y z false false false j f n e = (refl, refl, e)

-- the size of its body
with_size : (meta : Meta) (z : ℤ) (behind : List ℕ) (body n : ℕ) (f : Frame) → with_attachment meta z behind body ≡ Begins f n → body ≡ n
with_size meta (negsuc k) behind body n f e = absurd (cc)
with_size meta (pos k) behind body n f e = by_room (nat_lt (length behind) k) e
  where
    by_room : (b : Bool) → cond b (Faulty (Rattle.seat_programs.specs.brpc_model.specs.Frame.AttachOver (pos k) (length behind))) (Begins (record { meta = meta; payload = take (length behind - k) behind; attachment = drop (length behind - k) behind }) body) ≡ Begins f n → body ≡ n
    by_room true e = absurd (let w : Faulty (Rattle.seat_programs.specs.brpc_model.specs.Frame.AttachOver (pos k) (length behind)) ≡ Begins f n = e in cc)
    by_room false e = let w : Begins (record { meta = meta; payload = take (length behind - k) behind; attachment = drop (length behind - k) behind }) body ≡ Begins f n = e in cc

body_size : (r : Result Meta MetaFault) (behind : List ℕ) (body n : ℕ) (f : Frame) → body_judged r behind body ≡ Begins f n → body ≡ n
body_size (Err fault) behind body n f e = absurd (cc)
body_size (Ok meta) behind body n f e = with_size meta meta.attachment_size behind body n f e

abbrev body_of : List ℕ → ℕ
body_of bytes = high_first (take 4 (drop 4 bytes))

abbrev meta_of : List ℕ → ℕ
meta_of bytes = high_first (take 4 (drop 8 bytes))

abbrev inside_of : List ℕ → List ℕ
inside_of bytes = take (body_of bytes) (drop 12 bytes)

abbrev behind_of : List ℕ → Judged
behind_of bytes = body_judged (read_meta (take (meta_of bytes) (inside_of bytes))) (drop (meta_of bytes) (inside_of bytes)) (body_of bytes)

-- a frame that is there is there with its size
begins_facts : (xs : List ℕ) (f : Frame) (n : ℕ) → judged xs ≡ Begins f n → (12 ≤ length xs) × (body_of xs ≡ n) × (12 + n ≤ length xs)
begins_facts xs f n e =
    let w = judge_begins (not (eqb (matching xs) 4) && not (eqb (matching xs) (length xs))) (nat_lt (length xs) 12) (BadMagic (matching xs)) (TooBig (body_of xs)) (MetaOver (meta_of xs) (body_of xs)) (nat_lt body_limit (body_of xs)) (nat_lt (body_of xs) (meta_of xs)) (nat_lt (length xs) (12 + body_of xs)) (behind_of xs) f n e in
    let size = body_size (read_meta (take (meta_of xs) (inside_of xs))) (drop (meta_of xs) (inside_of xs)) (body_of xs) n f w.2 in
    let room = ltb-false (length xs) (12 + body_of xs) w.1 in
    (ltb-false (length xs) 12 w.0, size, omega (arith, room, size))

pub judged_more : (xs ys : List ℕ) (f : Frame) (n : ℕ) → judged xs ≡ Begins f n → judged (xs ++ ys) ≡ Begins f n
judged_more xs ys f n e = stays xs ys (λ none_. let w : NoneYet ≡ Begins f n = sym none_ ∙ e in cc) ∙ e

-- ## The whole stream

-- behind a frame, with more bytes
begins_more : (at : ℕ) (xs ys : List ℕ) (f : Frame) (body : ℕ) → judged xs ≡ Begins f body → (stream_from at (xs ++ ys)).frames ≡ f ∷ (stream_from (at + (12 + body)) (drop (12 + body) xs ++ ys)).frames
begins_more at xs ys f body e = ap (λ (s : Stream). s.frames) (stream_goes_on at (xs ++ ys)) ∙ (ap (λ j. (goes_on at (xs ++ ys) j (λ b. stream_from (at + (12 + b)) (drop (12 + b) (xs ++ ys)))).frames) (judged_more xs ys f body e)
    ∙ ap (λ l. f ∷ (stream_from (at + (12 + body)) l).frames) (drop-append-le (12 + body) xs ys (begins_facts xs f body e).2))

left_short : (xs : List ℕ) (f : Frame) (body n : ℕ) → judged xs ≡ Begins f body → length xs < suc n → length (drop (12 + body) xs) < n
left_short xs f body n e room = let l : length (drop (12 + body) xs) ≡ length xs - (12 + body) = length-drop (12 + body) xs in let b = (begins_facts xs f body e).2 in omega (arith, l, room, b)

-- the frames of some bytes are the first where more come
pub frames_stay : (n at : ℕ) (xs ys : List ℕ) (i : ℕ) (f : Frame) → length xs < n → slice_get (stream_up_to n at xs).frames i ≡ Some f → slice_get (stream_from at (xs ++ ys)).frames i ≡ Some f
frames_stay zero at xs ys i f room there = absurd (omega (arith, room))
frames_stay (suc n) at xs ys i f room there = by_judged (judged xs) refl there
    (λ body g is j in_later. frames_stay n (at + (12 + body)) (drop (12 + body) xs) ys j f (left_short xs g body n is room) in_later)
  where
    by_judged : (j : Judged) → judged xs ≡ j → slice_get (goes_on at xs j (λ body. stream_up_to n (at + (12 + body)) (drop (12 + body) xs))).frames i ≡ Some f
        → ((body : ℕ) (g : Frame) → judged xs ≡ Begins g body → (k : ℕ) → slice_get (stream_up_to n (at + (12 + body)) (drop (12 + body) xs)).frames k ≡ Some f → slice_get (stream_from (at + (12 + body)) (drop (12 + body) xs ++ ys)).frames k ≡ Some f)
        → slice_get (stream_from at (xs ++ ys)).frames i ≡ Some f
    by_judged NoneYet is there again = absurd (let w : None ≡ Some f = there in cc)
    by_judged (Faulty fault) is there again = absurd (let w : None ≡ Some f = there in cc)
    by_judged (Begins g body) is there again = subst (λ l. slice_get l i ≡ Some f) (sym (begins_more at xs ys g body is)) (by_place i there)
      where
        by_place : (k : ℕ) → slice_get (g ∷ (stream_up_to n (at + (12 + body)) (drop (12 + body) xs)).frames) k ≡ Some f → slice_get (g ∷ (stream_from (at + (12 + body)) (drop (12 + body) xs ++ ys)).frames) k ≡ Some f
        by_place zero there = there
        by_place (suc k) there = again body g is k there

rest_low : (n at : ℕ) (xs : List ℕ) (r : ℕ) → (stream_up_to n at xs).ending ≡ Rest r → r ≤ length xs
rest_low zero at xs r is = let w : length xs ≡ r = cc in omega (arith, w)
rest_low (suc n) at xs r is = by_judged (judged xs) is (λ body e. rest_low n (at + (12 + body)) (drop (12 + body) xs) r e)
  where
    by_judged : (j : Judged) → (goes_on at xs j (λ body. stream_up_to n (at + (12 + body)) (drop (12 + body) xs))).ending ≡ Rest r → ((body : ℕ) → (stream_up_to n (at + (12 + body)) (drop (12 + body) xs)).ending ≡ Rest r → r ≤ length (drop (12 + body) xs)) → r ≤ length xs
    by_judged NoneYet is again = let w : length xs ≡ r = cc in omega (arith, w)
    by_judged (Faulty fault) is again = absurd (let w : Fault at fault ≡ Rest r = is in cc)
    by_judged (Begins g body) is again = let l : length (drop (12 + body) xs) ≡ length xs - (12 + body) = length-drop (12 + body) xs in let low = again body is in omega (arith, l, low)

-- what is left behind the frames is the last of what stands behind the first
last_same : (xs : List ℕ) (r body : ℕ) (g : Frame) → judged xs ≡ Begins g body → r ≤ length (drop (12 + body) xs) → last_of r xs ≡ last_of r (drop (12 + body) xs)
last_same xs r body g e low = let l : length (drop (12 + body) xs) ≡ length xs - (12 + body) = length-drop (12 + body) xs in let b = (begins_facts xs g body e).2 in
    let k : length xs - r ≡ (12 + body) + (length (drop (12 + body) xs) - r) = omega (arith, l, b, low) in
    ap (λ m. drop m xs) k ∙ sym (drop-drop (length (drop (12 + body) xs) - r) (12 + body) xs)

-- ## Faults

abbrev pub IsFaulty : Ending → Type 0
IsFaulty e = (start : ℕ) × (fault : FrameFault) × (e ≡ Fault start fault)

-- a fault is one wherever the stream begins
ends_same : (at at' : ℕ) (bytes : List ℕ) (j : Judged) (g h : ℕ → Stream) → ((body : ℕ) → IsFaulty (g body).ending → IsFaulty (h body).ending) → IsFaulty (goes_on at bytes j g).ending → IsFaulty (goes_on at' bytes j h).ending
ends_same at at' bytes NoneYet g h all x = absurd (let w : Rest (length bytes) ≡ Fault x.0 x.1 = x.2 in cc)
ends_same at at' bytes (Faulty fault) g h all x = (at', fault, refl)
ends_same at at' bytes (Begins f body) g h all x = all body x

faulty_anywhere : (n at at' : ℕ) (bytes : List ℕ) → IsFaulty (stream_up_to n at bytes).ending → IsFaulty (stream_up_to n at' bytes).ending
faulty_anywhere zero at at' bytes x = x
faulty_anywhere (suc n) at at' bytes x = ends_same at at' bytes (judged bytes) (λ body. stream_up_to n (at + (12 + body)) (drop (12 + body) bytes)) (λ body. stream_up_to n (at' + (12 + body)) (drop (12 + body) bytes))
    (λ body y. faulty_anywhere n (at + (12 + body)) (at' + (12 + body)) (drop (12 + body) bytes) y) x

-- behind a frame, with more bytes
begins_ends : (at : ℕ) (xs ys : List ℕ) (f : Frame) (body : ℕ) → judged xs ≡ Begins f body → (stream_from at (xs ++ ys)).ending ≡ (stream_from (at + (12 + body)) (drop (12 + body) xs ++ ys)).ending
begins_ends at xs ys f body e = ap (λ (s : Stream). s.ending) (stream_goes_on at (xs ++ ys)) ∙ (ap (λ j. (goes_on at (xs ++ ys) j (λ b. stream_from (at + (12 + b)) (drop (12 + b) (xs ++ ys)))).ending) (judged_more xs ys f body e)
    ∙ ap (λ l. (stream_from (at + (12 + body)) l).ending) (drop-append-le (12 + body) xs ys (begins_facts xs f body e).2))

-- a fault stays where more bytes come
faults_stay : (n at : ℕ) (xs ys : List ℕ) → length xs < n → IsFaulty (stream_up_to n at xs).ending → IsFaulty (stream_from at (xs ++ ys)).ending
faults_stay zero at xs ys room x = absurd (omega (arith, room))
faults_stay (suc n) at xs ys room x = by_judged (judged xs) refl x (λ body g is later. faults_stay n (at + (12 + body)) (drop (12 + body) xs) ys (left_short xs g body n is room) later)
  where
    by_judged : (j : Judged) → judged xs ≡ j → IsFaulty (goes_on at xs j (λ body. stream_up_to n (at + (12 + body)) (drop (12 + body) xs))).ending
        → ((body : ℕ) (g : Frame) → judged xs ≡ Begins g body → IsFaulty (stream_up_to n (at + (12 + body)) (drop (12 + body) xs)).ending → IsFaulty (stream_from (at + (12 + body)) (drop (12 + body) xs ++ ys)).ending) → IsFaulty (stream_from at (xs ++ ys)).ending
    by_judged NoneYet is x again = absurd (let w : Rest (length xs) ≡ Fault x.0 x.1 = x.2 in cc)
    by_judged (Faulty fault) is x again = (at, fault, ap (λ (s : Stream). s.ending) (faulty at xs ys fault is))
    by_judged (Begins g body) is x again = subst IsFaulty (sym (begins_ends at xs ys g body is)) (again body g is x)

pub faults_more : (xs ys : List ℕ) → HasFault xs → HasFault (xs ++ ys)
faults_more xs ys x = faults_stay (suc (length xs)) 0 xs ys (omega arith) x

-- behind a rest a fault is one of the whole
faults_behind : (n at : ℕ) (xs ys : List ℕ) (r : ℕ) → length xs < n → (stream_up_to n at xs).ending ≡ Rest r → IsFaulty (stream_from 0 (last_of r xs ++ ys)).ending → IsFaulty (stream_from at (xs ++ ys)).ending
faults_behind zero at xs ys r room is x = absurd (omega (arith, room))
faults_behind (suc n) at xs ys r room is x = by_judged (judged xs) refl is
    (λ body g e later. faults_behind n (at + (12 + body)) (drop (12 + body) xs) ys r (left_short xs g body n e room) later
    (subst (λ l. IsFaulty (stream_from 0 (l ++ ys)).ending) (last_same xs r body g e (rest_low n (at + (12 + body)) (drop (12 + body) xs) r later)) x))
  where
    by_judged : (j : Judged) → judged xs ≡ j → (goes_on at xs j (λ body. stream_up_to n (at + (12 + body)) (drop (12 + body) xs))).ending ≡ Rest r
        → ((body : ℕ) (g : Frame) → judged xs ≡ Begins g body → (stream_up_to n (at + (12 + body)) (drop (12 + body) xs)).ending ≡ Rest r → IsFaulty (stream_from (at + (12 + body)) (drop (12 + body) xs ++ ys)).ending) → IsFaulty (stream_from at (xs ++ ys)).ending
    by_judged NoneYet e is again = let w : length xs ≡ r = cc in let all : length xs - r ≡ 0 = omega (arith, w) in
        faulty_anywhere (suc (length (xs ++ ys))) 0 at (xs ++ ys) (subst (λ l. IsFaulty (stream_from 0 (l ++ ys)).ending) (ap (λ m. drop m xs) all) x)
    by_judged (Faulty fault) e is again = absurd (let w : Fault at fault ≡ Rest r = is in cc)
    by_judged (Begins g body) e is again = subst IsFaulty (sym (begins_ends at xs ys g body e)) (again body g e is)

-- where a fault behind a rest is one of the whole, it is so with more bytes
pub tied_more : (rest whole bytes more : List ℕ) → ((ys : List ℕ) → HasFault (rest ++ ys) → HasFault (whole ++ ys)) → HasFault ((rest ++ bytes) ++ more) → HasFault ((whole ++ bytes) ++ more)
tied_more rest whole bytes more tied f = subst HasFault (sym (append_assoc whole bytes more)) (tied (bytes ++ more) (subst HasFault (append_assoc rest bytes more) f))

pub faults_follow : (xs ys : List ℕ) (r : ℕ) → (stream xs).ending ≡ Rest r → HasFault (last_of r xs ++ ys) → HasFault (xs ++ ys)
faults_follow xs ys r is x = faults_behind (suc (length xs)) 0 xs ys r (omega arith) is x

-- ## The frames as a whole

-- behind a rest they are those before it, and those that begin with it
frames_behind : (n at : ℕ) (xs ys : List ℕ) (r : ℕ) → length xs < n → (stream_up_to n at xs).ending ≡ Rest r → (stream_from at (xs ++ ys)).frames ≡ (stream_up_to n at xs).frames ++ (stream_from 0 (last_of r xs ++ ys)).frames
frames_behind zero at xs ys r room is = absurd (omega (arith, room))
frames_behind (suc n) at xs ys r room is = by_judged (judged xs) refl is
    (λ body g e later. frames_behind n (at + (12 + body)) (drop (12 + body) xs) ys r (left_short xs g body n e room) later
    ∙ ap (λ l. (stream_up_to n (at + (12 + body)) (drop (12 + body) xs)).frames ++ (stream_from 0 (l ++ ys)).frames) (sym (last_same xs r body g e (rest_low n (at + (12 + body)) (drop (12 + body) xs) r later))))
  where
    by_judged : (x : Judged) → judged xs ≡ x → (goes_on at xs x (λ body. stream_up_to n (at + (12 + body)) (drop (12 + body) xs))).ending ≡ Rest r
        → ((body : ℕ) (g : Frame) → judged xs ≡ Begins g body → (stream_up_to n (at + (12 + body)) (drop (12 + body) xs)).ending ≡ Rest r
        → (stream_from (at + (12 + body)) (drop (12 + body) xs ++ ys)).frames ≡ (stream_up_to n (at + (12 + body)) (drop (12 + body) xs)).frames ++ (stream_from 0 (last_of r xs ++ ys)).frames)
        → (stream_from at (xs ++ ys)).frames ≡ (goes_on at xs x (λ body. stream_up_to n (at + (12 + body)) (drop (12 + body) xs))).frames ++ (stream_from 0 (last_of r xs ++ ys)).frames
    by_judged NoneYet e is again = let w : length xs ≡ r = cc in let all : length xs - r ≡ 0 = omega (arith, w) in
        frames_anywhere at (xs ++ ys) ∙ ap (λ m. (stream_from 0 (drop m xs ++ ys)).frames) (sym all)
    by_judged (Faulty fault) e is again = absurd (let w : Fault at fault ≡ Rest r = is in cc)
    by_judged (Begins g body) e is again = begins_more at xs ys g body e ∙ ap (λ l. g ∷ l) (again body g e is)

pub frames_behind_rest : (xs ys : List ℕ) (r : ℕ) → (stream xs).ending ≡ Rest r → (stream (xs ++ ys)).frames ≡ (stream xs).frames ++ (stream (last_of r xs ++ ys)).frames
frames_behind_rest xs ys r is = frames_behind (suc (length xs)) 0 xs ys r (omega arith) is

at_behind : (fs gs : List Frame) (j : ℕ) (f : Frame) → slice_get gs j ≡ Some f → slice_get (fs ++ gs) (length fs + j) ≡ Some f
at_behind [] gs j f there = subst (λ k. slice_get gs k ≡ Some f) (let z : j ≡ 0 + j = omega arith in z) there
at_behind (x ∷ fs) gs j f there = subst (λ k. slice_get (x ∷ (fs ++ gs)) k ≡ Some f) (let z : suc (length fs + j) ≡ suc (length fs) + j = omega arith in z) (at_behind fs gs j f there)

-- each frame of the rest with what comes is one of the whole
pub frames_follow : (n at : ℕ) (xs ys : List ℕ) (r : ℕ) → length xs < n → (stream_up_to n at xs).ending ≡ Rest r → (j : ℕ) (f : Frame) → slice_get (stream_from 0 (last_of r xs ++ ys)).frames j ≡ Some f
    → slice_get (stream_from at (xs ++ ys)).frames (length (stream_up_to n at xs).frames + j) ≡ Some f
frames_follow n at xs ys r room is j f there = subst (λ l. slice_get l (length (stream_up_to n at xs).frames + j) ≡ Some f) (sym (frames_behind n at xs ys r room is)) (at_behind (stream_up_to n at xs).frames (stream_from 0 (last_of r xs ++ ys)).frames j f there)

-- behind a fault there are none
frames_before : (n at : ℕ) (xs ys : List ℕ) → length xs < n → IsFaulty (stream_up_to n at xs).ending → (stream_from at (xs ++ ys)).frames ≡ (stream_up_to n at xs).frames
frames_before zero at xs ys room x = absurd (omega (arith, room))
frames_before (suc n) at xs ys room x = by_judged (judged xs) refl x (λ body g is later. frames_before n (at + (12 + body)) (drop (12 + body) xs) ys (left_short xs g body n is room) later)
  where
    by_judged : (j : Judged) → judged xs ≡ j → IsFaulty (goes_on at xs j (λ body. stream_up_to n (at + (12 + body)) (drop (12 + body) xs))).ending
        → ((body : ℕ) (g : Frame) → judged xs ≡ Begins g body → IsFaulty (stream_up_to n (at + (12 + body)) (drop (12 + body) xs)).ending
        → (stream_from (at + (12 + body)) (drop (12 + body) xs ++ ys)).frames ≡ (stream_up_to n (at + (12 + body)) (drop (12 + body) xs)).frames)
        → (stream_from at (xs ++ ys)).frames ≡ (goes_on at xs j (λ body. stream_up_to n (at + (12 + body)) (drop (12 + body) xs))).frames
    by_judged NoneYet is x again = absurd (let w : Rest (length xs) ≡ Fault x.0 x.1 = x.2 in cc)
    by_judged (Faulty fault) is x again = ap (λ (s : Stream). s.frames) (faulty at xs ys fault is)
    by_judged (Begins g body) is x again = begins_more at xs ys g body is ∙ ap (λ l. g ∷ l) (again body g is x)

pub frames_before_fault : (xs ys : List ℕ) → HasFault xs → (stream (xs ++ ys)).frames ≡ (stream xs).frames
frames_before_fault xs ys x = frames_before (suc (length xs)) 0 xs ys (omega arith) x
