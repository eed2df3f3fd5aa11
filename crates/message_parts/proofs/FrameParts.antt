-- How a frame in parts lies once a part of it was taken.
use Rattle.std.proofs.Common.{◌≡◌, ℕ, zero, suc, ◌+◌, ◌-◌, ◌%◌, ◌<◌, ◌≤◌, inl, inr, min, nat_lt, true, false, Bool, if◌then◌else◌, List, [], ◌∷◌, ◌++◌, length, take, drop, get_or, arith, ap, ◌∙◌, sym, append-nil, length-drop}
use Rattle.std.proofs.lemmas.Bool.{cases_lt, lt-ltb, le-ltb}
use Rattle.std.proofs.lemmas.List.{take_min}
use Rattle.io_buf.specs.io_block.specs.declared.pool.TheConstants.{BLOCK_BYTES}
use Rattle.io_buf.specs.Buffer.{Buffer, block_sizes, rest_sizes}
use Rattle.io_buf.proofs.ReferenceSizesAtEnds.{rest_sizes-less, rest_sizes-more, rest_sizes-zero, rest_sizes-rest_sizes, block_sizes-step, block_sizes-one}
use Rattle.seat_programs.specs.BufferParts.{room_of_part, part}
use Rattle.message_parts.specs.FramesByParts.{LiesInParts, LiesBehindIn, part_sizes, length_of}

-- ## A part in blocks, with others behind it

module _ (others : List ℕ) where
  -- the size of the first piece, of what is left
  abbrev first_of : ℕ → ℕ → ℕ
  first_of taken left = get_or (rest_sizes taken (block_sizes (taken + left) ++ others)) 0 0

  first_none : (taken left : ℕ) → 0 < left → taken ≡ 0 → first_of taken left ≡ min (8192 - taken % 8192) left
  first_none taken left some none =
      let sizes = block_sizes (taken + left) in
      ap (λ (n : ℕ). get_or (rest_sizes n (sizes ++ others)) 0 0) none
      ∙ ap (λ (l : List ℕ). get_or l 0 0) (rest_sizes-zero (sizes ++ others) ∙ ap (λ (l : List ℕ). l ++ others) (block_sizes-step (taken + left) (omega arith)))
      ∙ omega arith

  first_part : (taken left : ℕ) → 0 < left → 0 < taken → taken < min (taken + left) BLOCK_BYTES → first_of taken left ≡ min (8192 - taken % 8192) left
  first_part taken left some more less =
      let m = min (taken + left) BLOCK_BYTES in
      ap (λ (l : List ℕ). get_or (rest_sizes taken (l ++ others)) 0 0) (block_sizes-step (taken + left) (omega arith))
      ∙ ap (λ (l : List ℕ). get_or l 0 0) (rest_sizes-less taken m (block_sizes (taken + left - m) ++ others) more less)
      ∙ omega arith

  -- a block that went whole changes nothing
  first_block : (taken left : ℕ) → 0 < left → BLOCK_BYTES ≤ taken → first_of taken left ≡ first_of (taken - BLOCK_BYTES) left
  first_block taken left some more =
      let m = min (taken + left) BLOCK_BYTES in
      let whole : m ≡ BLOCK_BYTES = omega arith in
      let rest : taken + left - BLOCK_BYTES ≡ taken - BLOCK_BYTES + left = omega arith in
      ap (λ (l : List ℕ). get_or (rest_sizes taken (l ++ others)) 0 0) (block_sizes-step (taken + left) (omega arith))
      ∙ ap (λ (l : List ℕ). get_or l 0 0) (rest_sizes-more taken m (block_sizes (taken + left - m) ++ others) (omega arith) (omega arith))
      ∙ ap (λ (n : ℕ). get_or (rest_sizes (taken - n) (block_sizes (taken + left - n) ++ others)) 0 0) whole
      ∙ ap (λ (n : ℕ). get_or (rest_sizes (taken - BLOCK_BYTES) (block_sizes n ++ others)) 0 0) rest

  -- the first piece of what is left reaches to the end of its block, or to that of the part
  first_is : (taken left : ℕ) → 0 < left → first_of taken left ≡ min (8192 - taken % 8192) left
  first_is taken left some = by taken taken (omega arith)
    where
      by : (fuel taken : ℕ) → taken ≤ fuel → first_of taken left ≡ min (8192 - taken % 8192) left
      by zero taken enough = first_none taken left some (omega arith)
      by (suc fuel) taken enough =
          elim (cases_lt taken BLOCK_BYTES) [
            | inr more ↦ first_block taken left some more ∙ by fuel (taken - BLOCK_BYTES) (omega arith) ∙ omega arith
            | inl less ↦
                elim (cases_lt 0 taken) [
                  | inr none ↦ first_none taken left some (omega arith)
                  | inl more ↦ first_part taken left some more (omega arith)
                ]
          ]

  -- a part that went whole
  past_part : (taken n : ℕ) → n ≤ taken → rest_sizes taken (block_sizes n ++ others) ≡ rest_sizes (taken - n) others
  past_part taken n past = by n taken n (omega arith) past
    where
      by : (fuel taken n : ℕ) → n ≤ fuel → n ≤ taken → rest_sizes taken (block_sizes n ++ others) ≡ rest_sizes (taken - n) others
      by fuel taken zero enough past = let none : taken ≡ taken - 0 = omega arith in ap (λ (x : ℕ). rest_sizes x others) none
      by zero taken (suc n) enough past = absurd (omega (arith, enough))
      by (suc fuel) taken (suc n) enough past =
          let m = min (suc n) BLOCK_BYTES in
          ap (λ (l : List ℕ). rest_sizes taken (l ++ others)) (block_sizes-step (suc n) (omega arith))
          ∙ rest_sizes-more taken m (block_sizes (suc n - m) ++ others) (omega arith) (omega (arith, past))
          ∙ by fuel (taken - m) (suc n - m) (omega (arith, enough)) (omega (arith, past))
          ∙ ap (λ (x : ℕ). rest_sizes x others) (omega (arith, past))

-- ## All parts

-- the size of the first piece of what is left
size_in : (ps : List ℕ) (taken left : ℕ) → 0 < left → length_of ps ≤ taken + left → get_or (rest_sizes taken (part_sizes ps (taken + left))) 0 0 ≡ min (room_of_part ps taken) left
size_in [] taken left some within = ap (λ (l : List ℕ). get_or (rest_sizes taken l) 0 0) (sym (append-nil (block_sizes (taken + left)))) ∙ first_is [] taken left some
size_in (n ∷ ns) taken left some within = elim (cases_lt taken n) [
  | inl less ↦
      let fits : n + length_of ns ≤ taken + left = within in
      let there : nat_lt taken n ≡ true = lt-ltb taken n less in
      let more : n ≡ taken + (n - taken) = omega (arith, less) in
      ap (λ (x : ℕ). get_or (rest_sizes taken (block_sizes x ++ part_sizes ns (taken + left - n))) 0 0) more
      ∙ first_is (part_sizes ns (taken + left - n)) taken (n - taken) (omega (arith, less))
      ∙ omega (arith, fits, less)
      ∙ ap (λ (b : Bool). min (if b then min (n - taken) (8192 - taken % 8192) else room_of_part ns (taken - n)) left) (sym there)
  | inr past ↦
      let fits : n + length_of ns ≤ taken + left = within in
      let rest : taken + left - n ≡ taken - n + left = omega (arith, past) in
      let there : nat_lt taken n ≡ false = le-ltb taken n past in
      ap (λ (l : List ℕ). get_or l 0 0) (past_part (part_sizes ns (taken + left - n)) taken n past)
      ∙ ap (λ (x : ℕ). get_or (rest_sizes (taken - n) (part_sizes ns x)) 0 0) rest
      ∙ size_in ns (taken - n) left some (omega (arith, fits, past))
      ∙ ap (λ (b : Bool). min (if b then min (n - taken) (8192 - taken % 8192) else room_of_part ns (taken - n)) left) (sym there)
]

-- the buffer's first piece is what is put next
pub first_is_part : (ps : List ℕ) (taken : ℕ) (buf : Buffer) → LiesBehindIn ps taken buf → 0 < length buf.items → take (get_or buf.sizes 0 0) buf.items ≡ part ps buf.items taken
first_is_part ps taken buf lies some =
    ap (λ (n : ℕ). take n buf.items) (ap (λ (l : List ℕ). get_or l 0 0) lies.sizes ∙ size_in ps taken (length buf.items) some lies.parts)
    ∙ take_min (room_of_part ps taken) buf.items

-- a part that is taken leaves a frame that lies so
pub lies_dropped : (ps : List ℕ) (taken count : ℕ) (old new : Buffer) → LiesBehindIn ps taken old → count ≤ length old.items → new.items ≡ drop count old.items → new.sizes ≡ rest_sizes count old.sizes → LiesBehindIn ps (taken + count) new
lies_dropped ps taken count old new lies fits items sizes =
    let whole : taken + length old.items ≡ taken + count + length new.items = omega (arith, ap length items, length-drop count old.items) in
    record {
      sizes =
          sizes
          ∙ ap (rest_sizes count) lies.sizes
          ∙ rest_sizes-rest_sizes count taken (part_sizes ps (taken + length old.items))
          ∙ ap (λ (n : ℕ). rest_sizes (taken + count) (part_sizes ps n)) whole;
      parts = let within = lies.parts in omega (arith, within, whole);
      counted = let few = lies.counted in omega (arith, few, whole);
    }

-- nothing was taken yet
pub lies_whole : (ps : List ℕ) (buf : Buffer) → LiesInParts ps buf → length buf.items < 18446744073709551616 → LiesBehindIn ps 0 buf
lies_whole ps buf lies few =
    let all : length buf.items ≡ 0 + length buf.items = omega arith in
    let many : length_of ps ≤ length buf.items = lies.parts in
    record { sizes = lies.sizes ∙ sym (rest_sizes-zero (part_sizes ps (length buf.items))) ∙ ap (λ (n : ℕ). rest_sizes 0 (part_sizes ps n)) all; parts = omega (arith, many); counted = omega (arith, few) }

-- a header with the meta that is one piece, and then two bodies in blocks
pub lies_framed : (buf : Buffer) (head payload attachment : ℕ) → 0 < head → head ≤ BLOCK_BYTES → length buf.items ≡ head + (payload + attachment) → buf.sizes ≡ head ∷ block_sizes payload ++ block_sizes attachment → LiesInParts (head ∷ payload ∷ attachment ∷ []) buf
lies_framed buf head payload attachment some one many sizes =
    let gone : length buf.items - head - payload - attachment ≡ 0 = omega (arith, many) in
    let all : head + (payload + (attachment + 0)) ≤ length buf.items = omega (arith, many) in
    record {
      sizes = sizes ∙ sym (
          ap (λ (l : List ℕ). l ++ part_sizes (payload ∷ attachment ∷ []) (length buf.items - head)) (block_sizes-one head some one)
          ∙ ap (λ (n : ℕ). head ∷ block_sizes payload ++ (block_sizes attachment ++ block_sizes n)) gone
          ∙ ap (λ (l : List ℕ). head ∷ block_sizes payload ++ l) (append-nil (block_sizes attachment)));
      parts = all;
    }
