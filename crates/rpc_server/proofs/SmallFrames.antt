-- A frame with which some bytes begin is no larger than a frame may be.
use Rattle.std.proofs.Common.{◌≡◌, ℕ, ◌+◌, ◌-◌, ◌≤◌, Bool, true, false, List, length, take, drop, ℤ, pos, negsuc, Option, Some, Result, Ok, Err, refl, ap, subst, arith, length-take, length-drop}
use Rattle.std.specs.Prelude.{nat_lt, if◌then◌else◌}
use Rattle.std.proofs.lemmas.Bool.{ltb-false}
use Rattle.brpc_model.specs.Meta.{Meta, MetaFault, read_meta}
use Rattle.brpc_model.specs.Frame.{Frame, Judged, NoneYet, Faulty, Begins, BadMagic, TooBig, MetaOver, AttachOver, judged, body_judged, with_attachment, body_limit, matching}
use Rattle.prpc_frame.specs.Header.{magic_wrong, body_size, meta_size, inside_of}
use Rattle.prpc_frame.specs.FrameMeaning.{frame_of}
use Rattle.prpc_frame.specs.declared.frame.Frame as code_
use Rattle.prpc_frame.specs.CutterAnswers.{Answers}
use Rattle.rpc_server.specs.ReplySize.{IsBegun}

-- how many bytes a frame has behind its meta
abbrev pub load : Frame → ℕ
load f = length f.payload + length f.attachment

-- what begins is told past a test
past : (t : Bool) (x y : Judged) (f : Frame) (n : ℕ) → (x ≡ Begins f n → ⊥) → (if t then x else y) ≡ Begins f n → (t ≡ false) × (y ≡ Begins f n)
past true x y f n other e = absurd (other e)
past false x y f n other e = (refl, e)

attached : (m : Meta) (z : ℤ) (behind : List ℕ) (body : ℕ) (f : Frame) (n : ℕ) → with_attachment m z behind body ≡ Begins f n → (m ≡ f.meta) × (load f ≤ length behind)
attached m (negsuc k) behind body f n e = absurd (cc)
attached m (pos k) behind body f n e =
    let g : Frame = record { meta = m; payload = take (length behind - k) behind; attachment = drop (length behind - k) behind } in
    let s : g ≡ f = let h = (past (nat_lt (length behind) k) (Faulty (AttachOver (pos k) (length behind))) (Begins g body) f n (λ x. cc) e).1 in cc in
    subst (λ (x : Frame). (m ≡ x.meta) × (load x ≤ length behind)) s (refl, omega (arith, length-take (length behind - k) behind, length-drop (length behind - k) behind))

bodied : (r : Result Meta MetaFault) (behind : List ℕ) (body : ℕ) (f : Frame) (n : ℕ) → body_judged r behind body ≡ Begins f n → (r ≡ Ok f.meta) × (load f ≤ length behind)
bodied (Err fault) behind body f n e = absurd (cc)
bodied (Ok m) behind body f n e = let x = attached m m.attachment_size behind body f n e in (ap (λ (m : Meta). Ok m) x.0, x.1)

-- a frame with which some bytes begin has a meta that some of them spell
pub begun_from : (bytes : List ℕ) (f : Frame) (n : ℕ) → judged bytes ≡ Begins f n → (spelled : List ℕ) × (read_meta spelled ≡ Ok f.meta) × (length spelled + load f ≤ body_limit)
begun_from bytes f n e =
    let body = body_size bytes in
    let meta = meta_size bytes in
    let whole : Judged = body_judged (read_meta (take meta (inside_of body bytes))) (drop meta (inside_of body bytes)) body in
    let five : Judged = if nat_lt (length bytes) (12 + body) then NoneYet else whole in
    let four : Judged = if nat_lt body meta then Faulty (MetaOver meta body) else five in
    let three : Judged = if nat_lt body_limit body then Faulty (TooBig body) else four in
    let two : Judged = if nat_lt (length bytes) 12 then NoneYet else three in
    let a = past (magic_wrong bytes) (Faulty (BadMagic (matching bytes))) two f n (λ x. cc) e in
    let b = past (nat_lt (length bytes) 12) NoneYet three f n (λ x. cc) a.1 in
    let c = past (nat_lt body_limit body) (Faulty (TooBig body)) four f n (λ x. cc) b.1 in
    let d = past (nat_lt body meta) (Faulty (MetaOver meta body)) five f n (λ x. cc) c.1 in
    let w = past (nat_lt (length bytes) (12 + body)) NoneYet whole f n (λ x. cc) d.1 in
    let small : body ≤ body_limit = ltb-false body_limit body c.0 in
    let lies = bodied (read_meta (take meta (inside_of body bytes))) (drop meta (inside_of body bytes)) body f n w.1 in (
      take meta (inside_of body bytes),
      lies.0,
      omega (arith, small, lies.1, length-take meta (inside_of body bytes), length-drop meta (inside_of body bytes), length-take body (drop 12 bytes)),
    )

-- some bytes begin with the frame that a cutter gives
pub cut_begun : (bytes new : List ℕ) (there : Option code_.Frame) (f : code_.Frame) → there ≡ Some f → Answers (judged bytes) bytes (Ok there) new → IsBegun (frame_of f)
cut_begun bytes new there f is h =
    let P : Option code_.Frame → Type 0 = λ t. Answers (judged bytes) bytes (Ok t) new in
    let cut = subst P is h in (bytes, cut.body, cut.means)

-- and so it is small
pub begun_small : (f : code_.Frame) → IsBegun (frame_of f) → length f.payload.items + length f.attachment.items ≤ body_limit
begun_small f b = let x = begun_from b.0 (frame_of f) b.1 b.2 in omega (arith, x.2)
