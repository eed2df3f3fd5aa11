-- How the parts of a body make a frame or a fault.
use Rattle.std.proofs.Common.{◌≡◌, ℕ, ◌+◌, ◌-◌, ◌<◌, ◌≤◌, ℤ, pos, negsuc, List, [], length, take, drop, Some, Result, Ok, Err, IfSome, refl, ap, sym, ◌∙◌, subst, arith, length-take, length-drop}
use Rattle.std.proofs.lemmas.Bool.{lt-ltb, le-ltb}
use Rattle.std.proofs.lemmas.List.{drop-drop, drop-take, take-take, take-append-le, take-append-drop}
use Rattle.std.proofs.Math.Seq.{take-length, drop-length}
use Rattle.rpc_meta.specs.brpc_model.specs.Meta as metas
use Rattle.rpc_meta.specs.brpc_model.specs.Meta.{Meta, read_meta}
use Rattle.rpc_meta.specs.brpc_model.specs.Frame.{Judged, Faulty, Begins, AttachOver, body_judged, with_attachment}
use Rattle.rpc_meta.specs.MetaMeaning.{meaning}
use Rattle.rpc_meta.specs.Answer.{answer_as}
use Rattle.rpc_meta.specs.declared.fault.MetaFault.{MetaFault}
use Rattle.rpc_meta.specs.declared.fault.MetaFault.TheVariants as fault_
use Rattle.prpc_frame.specs.declared.fault.FrameFault.TheVariants as frame_
use Rattle.prpc_frame.specs.Header.{inside_of}
use Rattle.prpc_frame.specs.FrameMeaning.{IsFault}
use Rattle.prpc_frame.specs.Body.{MetaSays, AttachmentSays, BodySays}
use Rattle.prpc_frame.specs.declared.fault.FrameFault.{FrameFault}
use Rattle.prpc_frame.specs.declared.fault.NextFault.{NextFault}
use Rattle.prpc_frame.specs.declared.fault.NextFault.TheVariants as next_

-- the fault of a meta
pub meta_faulty : (fault : MetaFault) (read : Result Meta metas.MetaFault) (behind : List ℕ) (body : ℕ) → (fault ≡ fault_.NoMemory → ⊥) →
    IfSome (answer_as meaning (Err fault)) (λ r. r ≡ read) → IsFault (body_judged read behind body) (frame_.Meta fault)
meta_faulty (fault_.Wire w) read behind body n e = ap (λ (r : Result Meta metas.MetaFault). Some (body_judged r behind body)) e
meta_faulty fault_.NoService read behind body n e = ap (λ (r : Result Meta metas.MetaFault). Some (body_judged r behind body)) e
meta_faulty fault_.NoMethod read behind body n e = ap (λ (r : Result Meta metas.MetaFault). Some (body_judged r behind body)) e
meta_faulty fault_.Neither read behind body n e = ap (λ (r : Result Meta metas.MetaFault). Some (body_judged r behind body)) e
meta_faulty fault_.NoMemory read behind body n e = absurd (n refl)

pub front_of_inside : (meta body : ℕ) (bytes : List ℕ) → meta ≤ body → 12 + body ≤ length bytes → take meta (inside_of body bytes) ≡ take meta (drop 12 bytes)
front_of_inside meta body bytes h k =
    let size : length (take body (drop 12 bytes)) ≡ body = omega (arith, length-take body (drop 12 bytes), length-drop 12 bytes) in
    sym (take-append-le meta (take body (drop 12 bytes)) (drop body (drop 12 bytes)) (omega (arith, size)))
    ∙ ap (λ (l : List ℕ). take meta l) (take-append-drop body (drop 12 bytes))

pub behind_meta : (meta body : ℕ) (bytes : List ℕ) → drop (12 + meta) (take (12 + body) bytes) ≡ drop meta (inside_of body bytes)
behind_meta meta body bytes = sym (drop-drop meta 12 (take (12 + body) bytes)) ∙ ap (λ (l : List ℕ). drop meta l) (drop-take 12 body bytes)

pub behind_size : (meta body : ℕ) (bytes : List ℕ) → 12 + body ≤ length bytes → length (drop meta (inside_of body bytes)) ≡ body - meta
behind_size meta body bytes k = omega (arith, length-drop meta (take body (drop 12 bytes)), length-take body (drop 12 bytes), length-drop 12 bytes)

over : (m : Meta) (size : ℤ) (room : ℕ) (behind : List ℕ) (body : ℕ) → length behind ≡ room → ((n : ℕ) → size ≡ pos n → room < n) →
    with_attachment m size behind body ≡ Faulty (AttachOver size room)
over m (pos n) room behind body e h = let more : room < n = h n refl in rw (lt-ltb (length behind) n (omega (arith, e, more))) (ap (λ (r : ℕ). Faulty (AttachOver (pos n) r)) e)
over m (negsuc n) room behind body e h = ap (λ (r : ℕ). Faulty (AttachOver (negsuc n) r)) e

-- an attachment that doesn't fit behind the meta
pub attachment_over : (bytes : List ℕ) (meta body : ℕ) (m : Meta) → meta ≤ body → 12 + body ≤ length bytes → read_meta (take meta (drop 12 bytes)) ≡ Ok m →
    ((n : ℕ) → m.attachment_size ≡ pos n → body - meta < n) →
    IsFault (body_judged (read_meta (take meta (inside_of body bytes))) (drop meta (inside_of body bytes)) body) (frame_.AttachOver m.attachment_size (body - meta))
attachment_over bytes meta body m h k e n =
    let read : read_meta (take meta (inside_of body bytes)) ≡ Ok m = ap (λ (l : List ℕ). read_meta l) (front_of_inside meta body bytes h k) ∙ e in
    ap (λ (j : Judged). Some j) (sym (ap (λ (r : Result Meta metas.MetaFault). body_judged r (drop meta (inside_of body bytes)) body) read
    ∙ over m m.attachment_size (body - meta) (drop meta (inside_of body bytes)) body (behind_size meta body bytes k) n))

fits : (m : Meta) (size : ℤ) (n : ℕ) (behind : List ℕ) (body : ℕ) → size ≡ pos n → n ≤ length behind →
    with_attachment m size behind body ≡ Begins (record { meta = m; payload = take (length behind - n) behind; attachment = drop (length behind - n) behind }) body
fits m size n behind body e h =
    ap (λ (s : ℤ). with_attachment m s behind body) e ∙ (rw (le-ltb (length behind) n h) refl)

-- a frame
pub begins_with : (bytes : List ℕ) (meta body n : ℕ) (m : Meta) (rest : List ℕ) → meta ≤ body → 12 + body ≤ length bytes → read_meta (take meta (drop 12 bytes)) ≡ Ok m →
    m.attachment_size ≡ pos n → n ≤ body - meta → rest ≡ drop (12 + meta) (take (12 + body) bytes) →
    body_judged (read_meta (take meta (inside_of body bytes))) (drop meta (inside_of body bytes)) body
    ≡ Begins (record { meta = m; payload = take (body - meta - n) rest; attachment = drop (body - meta - n) rest }) body
begins_with bytes meta body n m rest h k e s room r =
    let read : read_meta (take meta (inside_of body bytes)) ≡ Ok m = ap (λ (l : List ℕ). read_meta l) (front_of_inside meta body bytes h k) ∙ e in
    let behind : drop meta (inside_of body bytes) ≡ rest = sym (r ∙ behind_meta meta body bytes) in
    let size : length rest ≡ body - meta = sym (ap length behind) ∙ behind_size meta body bytes k in
    ap (λ (r : Result Meta metas.MetaFault). body_judged r (drop meta (inside_of body bytes)) body) read
    ∙ ap (λ (l : List ℕ). with_attachment m m.attachment_size l body) behind
    ∙ fits m m.attachment_size n rest body s (omega (arith, size, room))
    ∙ ap (λ (z : ℕ). Begins (record { meta = m; payload = take (z - n) rest; attachment = drop (z - n) rest }) body) size

-- a frame without an attachment
pub begins_alone : (bytes : List ℕ) (meta body n : ℕ) (m : Meta) (rest none : List ℕ) → meta ≤ body → 12 + body ≤ length bytes → read_meta (take meta (drop 12 bytes)) ≡ Ok m →
    m.attachment_size ≡ pos n → n ≡ 0 → none ≡ [] → rest ≡ drop (12 + meta) (take (12 + body) bytes) →
    body_judged (read_meta (take meta (inside_of body bytes))) (drop meta (inside_of body bytes)) body ≡ Begins (record { meta = m; payload = rest; attachment = none }) body
begins_alone bytes meta body n m rest none h k e s zero empty r =
    let behind : drop meta (inside_of body bytes) ≡ rest = sym (r ∙ behind_meta meta body bytes) in
    let size : length rest ≡ body - meta = sym (ap length behind) ∙ behind_size meta body bytes k in
    let all : body - meta - n ≡ length rest = omega (arith, size, zero) in
    begins_with bytes meta body n m rest h k e s (omega (arith, zero)) r
    ∙ ap (λ (z : ℕ). Begins (record { meta = m; payload = take z rest; attachment = drop z rest }) body) all
    ∙ ap (λ (l : List ℕ). Begins (record { meta = m; payload = l; attachment = drop (length rest) rest }) body) (take-length rest)
    ∙ ap (λ (l : List ℕ). Begins (record { meta = m; payload = rest; attachment = l }) body) (drop-length rest ∙ sym empty)

-- the meta in the first piece is that behind the header
pub meta_lies : (items : List ℕ) (n size : ℕ) → 12 + size ≤ n → take size (drop 12 (take n items)) ≡ take size (drop 12 items)
meta_lies items n size fits =
    let split : n ≡ 12 + (n - 12) = omega (arith, fits) in
    ap (λ (m : ℕ). take size (drop 12 (take m items))) split ∙ ap (take size) (drop-take 12 (n - 12) items) ∙ take-take size (n - 12) (drop 12 items) (omega (arith, fits))

-- ## What a body answers

pub meta_err : (bytes : List ℕ) (meta body : ℕ) (fault : NextFault) → meta ≤ body → 12 + body ≤ length bytes → MetaSays bytes meta (Err fault) → BodySays bytes meta body (Err fault)
meta_err bytes meta body (next_.Frame x) h k says =
    let P : List ℕ → Type 0 = λ l. IsFault (body_judged (read_meta l) (drop meta (inside_of body bytes)) body) x in
    subst P (sym (front_of_inside meta body bytes h k)) (says (drop meta (inside_of body bytes)) body)
meta_err bytes meta body next_.NoMemory h k says = tt

pub attachment_err : (bytes : List ℕ) (meta body : ℕ) (m : Meta) (fault : FrameFault) → meta ≤ body → 12 + body ≤ length bytes → read_meta (take meta (drop 12 bytes)) ≡ Ok m →
    AttachmentSays m.attachment_size (body - meta) (Err fault) → BodySays bytes meta body (Err (next_.Frame fault))
attachment_err bytes meta body m fault h k e says =
    let P : FrameFault → Type 0 = λ x. IsFault (body_judged (read_meta (take meta (inside_of body bytes))) (drop meta (inside_of body bytes)) body) x in
    subst P (sym says.0) (attachment_over bytes meta body m h k e says.1)
