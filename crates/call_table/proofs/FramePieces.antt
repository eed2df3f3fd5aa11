-- In what pieces the frame of a call's attempt lies, and as which frame it is taken.
use Rattle.std.proofs.Common.{◌≡◌, ℕ, ◌+◌, ◌-◌, ◌≤◌, ◌<◌, List, ◌∷◌, ◌++◌, length, ◌∙◌, ap, refl, arith, length-append, IfOk}
use Rattle.std.specs.Prelude.{Result, Ok, Err}
use Rattle.std.specs.Int.{w32, to_be_bytes}
use Rattle.sock_message.specs.brpc_model.specs.Meta.{Meta}
use Rattle.sock_message.specs.brpc_model.specs.Spelling.{meta_bytes}
use Rattle.sock_message.specs.brpc_model.specs.Frame.{Frame, Begins, judged, magic, framed}
use Rattle.sock_message.specs.io_block.specs.declared.pool.TheConstants.{BLOCK_BYTES}
use Rattle.sock_message.specs.io_buf.specs.Buffer.{Buffer, block_sizes}
use Rattle.sock_message.specs.Asked.{Asked, meta_of, request_of, frame_of, head_of}

framed_size : (meta payload attachment : List ℕ) → length (framed meta payload attachment) ≡ 12 + (length meta + length payload + length attachment)
framed_size meta payload attachment = sums (to_be_bytes w32 (length meta + length payload + length attachment)) (to_be_bytes w32 (length meta)) refl refl
  where
    sums : (x y : List ℕ) → length x ≡ 4 → length y ≡ 4 → length (magic ++ x ++ y ++ meta ++ payload ++ attachment) ≡ 12 + (length meta + length payload + length attachment)
    sums x y p q = omega (arith, p, q, length-append (magic ++ x ++ y ++ meta ++ payload) attachment, length-append (magic ++ x ++ y ++ meta) payload, length-append (magic ++ x ++ y) meta, length-append (magic ++ x) y, length-append magic x)

-- what stands before its parts is the header and the meta
head_size : (asked : Asked) (id n : ℕ) → 12 + length (meta_bytes (meta_of asked id n)) ≡ head_of asked id n
head_size asked id n =
    let whole : length (frame_of asked id n) ≡ 12 + (length (meta_bytes (meta_of asked id n)) + length asked.payload + length asked.attachment) =
    framed_size (meta_bytes (meta_of asked id n)) asked.payload asked.attachment in
    omega (arith, whole)

-- a frame whose meta is that of an attempt, with the call's parts, is taken for the attempt's
pub taken_so : {E : Type 0} (r : Result Buffer E) (asked : Asked) (id n : ℕ) (m : Meta) (payload attachment : List ℕ) → m ≡ meta_of asked id n
    → payload ≡ asked.payload → attachment ≡ asked.attachment
    → IfOk r (λ b. (more : List ℕ) → judged (b.items ++ more) ≡ Begins (record { meta = m; payload = payload; attachment = attachment }) (length b.items - 12))
    → IfOk r (λ b. (more : List ℕ) → judged (b.items ++ more) ≡ Begins (request_of asked id n) (length b.items - 12))
taken_so (Err fault) asked id n m payload attachment is p a h = tt
taken_so (Ok b) asked id n m payload attachment is p a h = λ more.
    h more ∙ ap (λ (f : Frame). Begins f (length b.items - 12)) (same is p a)
  where
    same : m ≡ meta_of asked id n → payload ≡ asked.payload → attachment ≡ asked.attachment → record { meta = m; payload = payload; attachment = attachment } ≡ request_of asked id n
    same is p a = cc

-- header and meta of a frame with a short meta are one piece, before those of its parts
pub lies_so : {E : Type 0} (r : Result Buffer E) (asked : Asked) (id n : ℕ) (m : Meta) (payload attachment : List ℕ) → m ≡ meta_of asked id n → length (meta_bytes m) < 512
    → payload ≡ block_sizes (length asked.payload) → attachment ≡ block_sizes (length asked.attachment)
    → IfOk r (λ b. 12 + length (meta_bytes m) ≤ BLOCK_BYTES → b.sizes ≡ (12 + length (meta_bytes m)) ∷ payload ++ attachment)
    → IfOk r (λ b. b.sizes ≡ head_of asked id n ∷ block_sizes (length asked.payload) ++ block_sizes (length asked.attachment))
lies_so (Err fault) asked id n m payload attachment is short p a h = tt
lies_so (Ok b) asked id n m payload attachment is short p a h =
    h (omega (arith, short))
    ∙ ap (λ (s : ℕ). s ∷ payload ++ attachment) (ap (λ (m : Meta). 12 + length (meta_bytes m)) is ∙ head_size asked id n)
    ∙ ap (λ (l : List ℕ). head_of asked id n ∷ l ++ attachment) p
    ∙ ap (λ (l : List ℕ). head_of asked id n ∷ block_sizes (length asked.payload) ++ l) a
