-- How a message in blocks lies once a part of it was taken.
use Rattle.std.proofs.Common.{◌≡◌, ℕ, zero, suc, ◌+◌, ◌-◌, ◌%◌, ◌<◌, ◌≤◌, inl, inr, min, List, length, take, drop, get_or, arith, ap, sym, ◌∙◌, ◌^◌, length-drop}
use Rattle.std.proofs.lemmas.Bool.{cases_lt}
use Rattle.std.proofs.lemmas.List.{take_min}
use Rattle.io_buf.specs.io_block.specs.declared.pool.TheConstants.{BLOCK_BYTES}
use Rattle.io_buf.specs.Buffer.{Buffer, block_sizes, rest_sizes}
use Rattle.io_buf.proofs.ReferenceSizesAtEnds.{rest_sizes-less, rest_sizes-more, rest_sizes-zero, rest_sizes-rest_sizes, block_sizes-step}
use Rattle.sock_message.specs.InsideMessages.{LiesInBlocks, LiesBehind}
use Rattle.sock_message.specs.MessagePieces.{piece}

-- the size of the first piece, of what is left
abbrev size_behind : ℕ → ℕ → ℕ
size_behind taken left = get_or (rest_sizes taken (block_sizes (taken + left))) 0 0

size_behind-none : (taken left : ℕ) → 0 < left → taken ≡ 0 → size_behind taken left ≡ min (8192 - taken % 8192) left
size_behind-none taken left some none =
    let sizes = block_sizes (taken + left) in
    ap (λ (n : ℕ). get_or (rest_sizes n sizes) 0 0) none
    ∙ ap (λ (l : List ℕ). get_or l 0 0) (rest_sizes-zero sizes ∙ block_sizes-step (taken + left) (omega arith))
    ∙ omega arith

size_behind-part : (taken left : ℕ) → 0 < left → 0 < taken → taken < min (taken + left) BLOCK_BYTES → size_behind taken left ≡ min (8192 - taken % 8192) left
size_behind-part taken left some part less =
    let m = min (taken + left) BLOCK_BYTES in
    ap (λ (l : List ℕ). get_or (rest_sizes taken l) 0 0) (block_sizes-step (taken + left) (omega arith))
    ∙ ap (λ (l : List ℕ). get_or l 0 0) (rest_sizes-less taken m (block_sizes (taken + left - m)) part less)
    ∙ omega arith

-- a block that went whole changes nothing
size_behind-block : (taken left : ℕ) → 0 < left → BLOCK_BYTES ≤ taken → size_behind taken left ≡ size_behind (taken - BLOCK_BYTES) left
size_behind-block taken left some more =
    let m = min (taken + left) BLOCK_BYTES in
    let whole : m ≡ BLOCK_BYTES = omega arith in
    let rest : taken + left - BLOCK_BYTES ≡ taken - BLOCK_BYTES + left = omega arith in
    ap (λ (l : List ℕ). get_or (rest_sizes taken l) 0 0) (block_sizes-step (taken + left) (omega arith))
    ∙ ap (λ (l : List ℕ). get_or l 0 0) (rest_sizes-more taken m (block_sizes (taken + left - m)) (omega arith) (omega arith))
    ∙ ap (λ (n : ℕ). get_or (rest_sizes (taken - n) (block_sizes (taken + left - n))) 0 0) whole
    ∙ ap (λ (n : ℕ). get_or (rest_sizes (taken - BLOCK_BYTES) (block_sizes n)) 0 0) rest

-- the first piece of what is left reaches to the end of its block, or to that of the message
size_behind-is : (taken left : ℕ) → 0 < left → size_behind taken left ≡ min (8192 - taken % 8192) left
size_behind-is taken left some = by taken taken (omega arith)
  where
    by : (fuel taken : ℕ) → taken ≤ fuel → size_behind taken left ≡ min (8192 - taken % 8192) left
    by zero taken enough = size_behind-none taken left some (omega arith)
    by (suc fuel) taken enough =
        elim (cases_lt taken BLOCK_BYTES) [
          | inr more ↦ size_behind-block taken left some more ∙ by fuel (taken - BLOCK_BYTES) (omega arith) ∙ omega arith
          | inl less ↦
              elim (cases_lt 0 taken) [
                | inr none ↦ size_behind-none taken left some (omega arith)
                | inl part ↦ size_behind-part taken left some part (omega arith)
              ]
        ]

-- the buffer's first piece is what is put next
pub first_is_piece : (taken : ℕ) (buf : Buffer) → LiesBehind taken buf → 0 < length buf.items → take (get_or buf.sizes 0 0) buf.items ≡ piece buf.items taken
first_is_piece taken buf lies some =
    ap (λ (n : ℕ). take n buf.items) (ap (λ (l : List ℕ). get_or l 0 0) lies.sizes ∙ size_behind-is taken (length buf.items) some)
    ∙ take_min (8192 - taken % 8192) buf.items

-- a part that is taken leaves a message that lies so
pub LiesBehind-drop : (taken count : ℕ) (old new : Buffer) → LiesBehind taken old → count ≤ length old.items → new.items ≡ drop count old.items → new.sizes ≡ rest_sizes count old.sizes → LiesBehind (taken + count) new
LiesBehind-drop taken count old new lies fits items sizes =
    let whole : taken + length old.items ≡ taken + count + length new.items = omega (arith, ap length items, length-drop count old.items) in
    record {
      sizes =
          sizes
          ∙ ap (rest_sizes count) lies.sizes
          ∙ rest_sizes-rest_sizes count taken (block_sizes (taken + length old.items))
          ∙ ap (λ (n : ℕ). rest_sizes (taken + count) (block_sizes n)) whole;
      counted = omega (arith, lies.counted, whole);
    }

-- a message of which nothing was taken yet
pub LiesBehind-whole : (buf : Buffer) → LiesInBlocks buf → length buf.items < 2 ^ 64 → LiesBehind 0 buf
LiesBehind-whole buf lies counted =
    let same : length buf.items ≡ 0 + length buf.items = omega arith in
    record {
      sizes = lies ∙ ap block_sizes same ∙ sym (rest_sizes-zero (block_sizes (0 + length buf.items)));
      counted = omega (arith, counted);
    }
