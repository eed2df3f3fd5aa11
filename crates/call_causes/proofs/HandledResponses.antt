-- Where the reader of a link stands with the frames that the link gave: each response that it handled is of a range that has begun or passed, or stands among the soon ones and is kept.
use Rattle.std.proofs.Common.{◌≡◌, ℕ, zero, suc, ◌+◌, ◌<◌, ◌≤◌, ◌⊎◌, inl, inr, ⊎_elim, ◌&&◌, not, Bool, true, false, cond, eqb, nat_le, nat_lt, ltb-true, ltb-false, leb-true, leb-false, List, [], ◌∷◌, ◌++◌, length, length-append, append_assoc, append-nil, slice_get, None, Some, refl, sym, ap, ◌∙◌, subst, arith}
use Rattle.std.specs.Prelude.{slice_index}
use Rattle.seat_programs.specs.brpc_model.specs.Frame.{Frame}
use Rattle.seat_programs.specs.brpc_model.specs.FrameStream as streams
use Rattle.seat_programs.specs.brpc_model.specs.LinkFailureCauses.{HasFault}
use Rattle.corr_core.specs.IdSlotWord.{Parts, parts}
use Rattle.corr_core.specs.IdRangeVersions.{has_version, is_early}
use Rattle.seat_programs.specs.id_rule.specs.LawfulIdTable.{id_index}
use Rattle.seat_programs.specs.LoopHeads.{Reading}
use Rattle.seat_programs.specs.ReaderProgram.{has_response, slot_in, version_in}
use Rattle.story_ticks.specs.Below.outcome_stories.specs.OperationStories.{In}

-- ## Words of id slots

-- no version that is made later is lower
abbrev pub bound : Parts → ℕ
bound w = cond (eqb w.state 0) w.first (w.first + w.range)

-- how a word goes on
pub record Goes (old new : Parts) : Type 0 where
  pub first : old.first ≤ new.first
  pub bound_is : bound old ≤ bound new

pub goes_same : (w : Parts) → Goes w w
goes_same w = record { first = omega arith; bound_is = omega arith }

pub goes_on : (u v w : Parts) → Goes u v → Goes v w → Goes u w
goes_on u v w a b = record { first = (let x = a.first in let y = b.first in omega (arith, x, y)); bound_is = (let x = a.bound_is in let y = b.bound_is in omega (arith, x, y)) }

pub early_is : (v found : ℕ) → is_early v (parts found) ≡ nat_le (bound (parts found)) v
early_is v found = by_state (eqb (parts found).state 0)
  where
    by_state : (b : Bool) → cond b (nat_le (parts found).first v) (nat_le ((parts found).first + (parts found).range) v) ≡ nat_le (cond b (parts found).first ((parts found).first + (parts found).range)) v
    by_state true = refl
    by_state false = refl

-- ## Lists by place

-- each of these frames, of which the first has place n
abbrev pub AllFrom : (ℕ → Frame → Type 0) → ℕ → List Frame → Type 0
AllFrom P n [] = Unit {0}
AllFrom P n (f ∷ fs) = P n f × AllFrom P (suc n) fs

pub all_on : (P Q : ℕ → Frame → Type 0) → ((n : ℕ) (f : Frame) → P n f → Q n f) → (n : ℕ) (fs : List Frame) → AllFrom P n fs → AllFrom Q n fs
all_on P Q on n [] all = tt
all_on P Q on n (f ∷ fs) all = (on n f all.0, all_on P Q on (suc n) fs all.1)

pub all_append : (P : ℕ → Frame → Type 0) (n : ℕ) (xs ys : List Frame) → AllFrom P n xs → AllFrom P (n + length xs) ys → AllFrom P n (xs ++ ys)
all_append P n [] ys a b = subst (λ k. AllFrom P k ys) (let z : n + 0 ≡ n = omega arith in z) b
all_append P n (x ∷ xs) ys a b = (a.0, all_append P (suc n) xs ys a.1 (subst (λ k. AllFrom P k ys) (let z : n + suc (length xs) ≡ suc n + length xs = omega arith in z) b))

pub all_at : (P : ℕ → Frame → Type 0) (n : ℕ) (fs : List Frame) → AllFrom P n fs → (j : ℕ) (f : Frame) → slice_get fs j ≡ Some f → P (n + j) f
all_at P n [] all j f there = absurd (let z : None ≡ Some f = there in cc)
all_at P n (x ∷ fs) all zero f there = let e : x ≡ f = cc in subst (λ k. P k f) (let z : n ≡ n + 0 = omega arith in z) (subst (P n) e all.0)
all_at P n (x ∷ fs) all (suc j) f there = subst (λ k. P k f) (let z : suc n + j ≡ n + suc j = omega arith in z) (all_at P (suc n) fs all.1 j f there)

pub in_more : {A : Type 0} (x : A) (xs ys : List A) → In x xs → In x (xs ++ ys)
in_more x [] ys there = absurd there
in_more x (z ∷ xs) ys (inl same) = inl same
in_more x (z ∷ xs) ys (inr there) = inr (in_more x xs ys there)

pub in_last : {A : Type 0} (x : A) (xs : List A) → In x (xs ++ x ∷ [])
in_last x [] = inl refl
in_last x (z ∷ xs) = inr (in_last x xs)

-- ## A link's frames

-- how the id words stand, which frames of links were soon so far, and what the link gave
pub record Sit : Type 0 where
  pub words : List ℕ
  pub soon : List (ℕ × ℕ)
  pub bytes : List ℕ

abbrev pub word_of : Sit → ℕ → Parts
word_of s i = parts (slice_index s.words (id_index i))

abbrev pub frames_in : List ℕ → List Frame
frames_in bytes = (streams.stream bytes).frames

-- of link k, in a table of so many ids
module _ (k ids : ℕ) where
  abbrev pub IsResp : Frame → Type 0
  IsResp f = (has_response f.meta.response && nat_lt (slot_in f) ids) ≡ true

  abbrev pub Gone : Sit → Frame → Type 0
  Gone s f = version_in f ≤ (word_of s (slot_in f)).first

  abbrev pub Bounded : Sit → Frame → Type 0
  Bounded s f = version_in f < bound (word_of s (slot_in f))

  -- a frame that was handled, and one that is to be
  abbrev pub Done : Sit → List Frame → ℕ → Frame → Type 0
  Done s kept n f = IsResp f → Gone s f ⊎ (In (k, n) s.soon × In f kept)

  abbrev pub Waits : Sit → ℕ → Frame → Type 0
  Waits s n f = IsResp f → In (k, n) s.soon ⊎ Bounded s f

  pub record Later (s t : Sit) : Type 0 where
    pub words : (i : ℕ) → i < ids → Goes (word_of s i) (word_of t i)
    pub soon : (x : ℕ × ℕ) → In x s.soon → In x t.soon
    pub bytes : t.bytes ≡ s.bytes

  and_right : (a b : Bool) → (a && b) ≡ true → b ≡ true
  and_right true b e = e
  and_right false b e = absurd (let z : false ≡ true = e in cc)

  pub slot_inside : (f : Frame) → IsResp f → slot_in f < ids
  slot_inside f is = ltb-true (slot_in f) ids (and_right (has_response f.meta.response) (nat_lt (slot_in f) ids) is)

  pub gone_on : (s t : Sit) → Later s t → (f : Frame) → IsResp f → Gone s f → Gone t f
  gone_on s t l f is g = let w = l.words (slot_in f) (slot_inside f is) in let x = w.first in omega (arith, g, x)

  pub bounded_on : (s t : Sit) → Later s t → (f : Frame) → IsResp f → Bounded s f → Bounded t f
  bounded_on s t l f is g = let w = l.words (slot_in f) (slot_inside f is) in let x = w.bound_is in omega (arith, g, x)

  pub done_on : (s t : Sit) → Later s t → (kept : List Frame) (n : ℕ) (f : Frame) → Done s kept n f → Done t kept n f
  done_on s t l kept n f d = λ is. ⊎_elim (λ g. inl (gone_on s t l f is g)) (λ x. inr (l.soon (k, n) x.0, x.1)) (d is)

  pub waits_on : (s t : Sit) → Later s t → (n : ℕ) (f : Frame) → Waits s n f → Waits t n f
  waits_on s t l n f d = λ is. ⊎_elim (λ x. inl (l.soon (k, n) x)) (λ g. inr (bounded_on s t l f is g)) (d is)

  pub done_more : (s : Sit) (kept more : List Frame) (n : ℕ) (f : Frame) → Done s kept n f → Done s (kept ++ more) n f
  done_more s kept more n f d = λ is. ⊎_elim (λ g. inl g) (λ x. inr (x.0, in_more f kept more x.1)) (d is)

  -- all frames were handled
  abbrev pub Over : Sit → List Frame → Type 0
  Over s kept = AllFrom (Done s kept) 0 (frames_in s.bytes)

  -- no frame comes more
  abbrev pub Frozen : Sit → Type 0
  Frozen s = (more : List ℕ) → frames_in (s.bytes ++ more) ≡ frames_in s.bytes

  -- where a reader begins a take
  pub record IsAt (s : Sit) (r : Reading) : Type 0 where
    pub link : r.link ≡ k
    pub ids_are : r.ids ≡ ids
    pub tail : (more : List ℕ) → frames_in (s.bytes ++ more) ≡ frames_in s.bytes ++ frames_in (r.rest ++ more)
    pub fault : (more : List ℕ) → HasFault (r.rest ++ more) → HasFault (s.bytes ++ more)
    pub handled : Over s r.kept

  -- where it handles the frames of a piece: these before, these to come
  pub record Mid (s : Sit) (r : Reading) (bytes : List ℕ) (before fs kept : List Frame) : Type 0 where
    pub link : r.link ≡ k
    pub ids_are : r.ids ≡ ids
    pub whole : frames_in s.bytes ≡ before ++ fs
    pub handled : AllFrom (Done s kept) 0 before
    pub waits : AllFrom (Waits s) (length before) fs
    pub base : List Frame
    pub tail : (more : List ℕ) → frames_in (s.bytes ++ more) ≡ base ++ frames_in ((r.rest ++ bytes) ++ more)
    pub fault : (more : List ℕ) → HasFault ((r.rest ++ bytes) ++ more) → HasFault (s.bytes ++ more)

  pub mid_on : (s t : Sit) (l : Later s t) (r : Reading) (bytes : List ℕ) (before fs kept : List Frame) → Mid s r bytes before fs kept → Mid t r bytes before fs kept
  mid_on s t l r bytes before fs kept m = record {
    link = m.link;
    ids_are = m.ids_are;
    whole = ap frames_in l.bytes ∙ m.whole;
    handled = all_on (Done s kept) (Done t kept) (done_on s t l kept) 0 before m.handled;
    waits = all_on (Waits s) (Waits t) (waits_on s t l) (length before) fs m.waits;
    base = m.base;
    tail = λ more. ap (λ b. frames_in (b ++ more)) l.bytes ∙ m.tail more;
    fault = λ more x. subst (λ b. HasFault (b ++ more)) (sym l.bytes) (m.fault more x);
  }

  pub at_on : (s t : Sit) (l : Later s t) (r : Reading) → IsAt s r → IsAt t r
  at_on s t l r a = record {
    link = a.link;
    ids_are = a.ids_are;
    tail = λ more. ap (λ b. frames_in (b ++ more)) l.bytes ∙ (a.tail more ∙ ap (λ b. frames_in b ++ frames_in (r.rest ++ more)) (sym l.bytes));
    fault = λ more x. subst (λ b. HasFault (b ++ more)) (sym l.bytes) (a.fault more x);
    handled = subst (λ b. AllFrom (Done t r.kept) 0 (frames_in b)) (sym l.bytes) (all_on (Done s r.kept) (Done t r.kept) (done_on s t l r.kept) 0 (frames_in s.bytes) a.handled);
  }

  pub over_on : (s t : Sit) (l : Later s t) (kept : List Frame) → Over s kept → Over t kept
  over_on s t l kept o = subst (λ b. AllFrom (Done t kept) 0 (frames_in b)) (sym l.bytes) (all_on (Done s kept) (Done t kept) (done_on s t l kept) 0 (frames_in s.bytes) o)

  pub frozen_on : (s t : Sit) → Later s t → Frozen s → Frozen t
  frozen_on s t l z = λ more. ap (λ b. frames_in (b ++ more)) l.bytes ∙ (z more ∙ ap frames_in (sym l.bytes))

  -- one more was handled, with these kept
  pub mid_next : (s : Sit) (r : Reading) (bytes : List ℕ) (before : List Frame) (f : Frame) (fs kept more : List Frame) → Mid s r bytes before (f ∷ fs) kept → Done s (kept ++ more) (length before) f → Mid s r bytes (before ++ f ∷ []) fs (kept ++ more)
  mid_next s r bytes before f fs kept more m d = record {
    link = m.link;
    ids_are = m.ids_are;
    whole = m.whole ∙ sym (append_assoc before (f ∷ []) fs);
    handled = all_append (Done s (kept ++ more)) 0 before (f ∷ []) (all_on (Done s kept) (Done s (kept ++ more)) (done_more s kept more) 0 before m.handled) (subst (λ n. Done s (kept ++ more) n f) (let z : length before ≡ 0 + length before = omega arith in z) d, tt);
    waits = subst (λ n. AllFrom (Waits s) n fs) (let z : suc (length before) ≡ length (before ++ f ∷ []) = (let y = length-append before (f ∷ []) in omega (arith, y)) in z) m.waits.1;
    base = m.base;
    tail = m.tail;
    fault = m.fault;
  }

  pub mid_same : (s : Sit) (r : Reading) (bytes : List ℕ) (before : List Frame) (f : Frame) (fs kept : List Frame) → Mid s r bytes before (f ∷ fs) kept → Done s kept (length before) f → Mid s r bytes (before ++ f ∷ []) fs kept
  mid_same s r bytes before f fs kept m d = subst (Mid s r bytes (before ++ f ∷ []) fs) (append-nil kept) (mid_next s r bytes before f fs kept [] m (subst (λ x. Done s x (length before) f) (sym (append-nil kept)) d))

  -- all were handled
  pub mid_over : (s : Sit) (r : Reading) (bytes : List ℕ) (before kept : List Frame) → Mid s r bytes before [] kept → Over s kept
  mid_over s r bytes before kept m = subst (AllFrom (Done s kept) 0) (sym (m.whole ∙ append-nil before)) m.handled

  -- ## By the word found

  -- by this word no range that was made has a higher version, and the reader keeps the frame
  pub early_done : (s : Sit) (f : Frame) (found n : ℕ) (kept : List Frame) → parts found ≡ word_of s (slot_in f) → is_early (version_in f) (parts found) ≡ true → Waits s n f → Done s (kept ++ f ∷ []) n f
  early_done s f found n kept same early w = λ is. ⊎_elim (λ x. inr (x, in_last f kept))
      (λ b. absurd (let z = leb-true (bound (parts found)) (version_in f) (sym (early_is (version_in f) found) ∙ early) in let y : bound (parts found) ≡ bound (word_of s (slot_in f)) = ap bound same in omega (arith, z, y, b))) (w is)

  -- no range of this word has the version, and none that is made later
  pub gone_by : (s : Sit) (f : Frame) (found : ℕ) → parts found ≡ word_of s (slot_in f) → has_version (version_in f) (parts found) ≡ false → is_early (version_in f) (parts found) ≡ false → Gone s f
  gone_by s f found same none_ late = subst (λ (w : Parts). version_in f ≤ w.first) same (by_state (eqb (parts found).state 0) none_ (sym (early_is (version_in f) found) ∙ late))
    where
      by_state : (b : Bool) → (not b && (nat_lt (parts found).first (version_in f) && nat_lt (version_in f) ((parts found).first + (parts found).range))) ≡ false → nat_le (cond b (parts found).first ((parts found).first + (parts found).range)) (version_in f) ≡ false → version_in f ≤ (parts found).first
      by_state true none_ late = let z = leb-false (parts found).first (version_in f) late in omega (arith, z)
      by_state false none_ late = by_first (leb-false ((parts found).first + (parts found).range) (version_in f) late) (nat_lt (parts found).first (version_in f)) refl none_
        where
          by_first : version_in f < (parts found).first + (parts found).range → (b : Bool) → nat_lt (parts found).first (version_in f) ≡ b → (b && nat_lt (version_in f) ((parts found).first + (parts found).range)) ≡ false → version_in f ≤ (parts found).first
          by_first z true low none_ = let y = ltb-false (version_in f) ((parts found).first + (parts found).range) none_ in absurd (omega (arith, y, z))
          by_first z false low none_ = let y = ltb-false (parts found).first (version_in f) low in omega (arith, y)

  -- the range of this word has it
  pub bounded_by : (s : Sit) (f : Frame) (found : ℕ) → parts found ≡ word_of s (slot_in f) → has_version (version_in f) (parts found) ≡ true → Bounded s f
  bounded_by s f found same has = subst (λ (w : Parts). version_in f < bound w) same (by_state (eqb (parts found).state 0) has)
    where
      by_state : (b : Bool) → (not b && (nat_lt (parts found).first (version_in f) && nat_lt (version_in f) ((parts found).first + (parts found).range))) ≡ true → version_in f < cond b (parts found).first ((parts found).first + (parts found).range)
      by_state true has = absurd (let z : false ≡ true = has in cc)
      by_state false has = ltb-true (version_in f) ((parts found).first + (parts found).range) (and_right (nat_lt (parts found).first (version_in f)) (nat_lt (version_in f) ((parts found).first + (parts found).range)) has)

  -- behind the end of the range that has it
  pub gone_behind : (s t : Sit) (f : Frame) → Bounded s f → (word_of t (slot_in f)).first ≡ (word_of s (slot_in f)).first + (word_of s (slot_in f)).range → Gone t f
  gone_behind s t f b is = subst (λ n. version_in f ≤ n) (sym is) (by_state (eqb (word_of s (slot_in f)).state 0) b)
    where
      by_state : (b : Bool) → version_in f < cond b (word_of s (slot_in f)).first ((word_of s (slot_in f)).first + (word_of s (slot_in f)).range) → version_in f ≤ (word_of s (slot_in f)).first + (word_of s (slot_in f)).range
      by_state true x = omega (arith, x)
      by_state false x = omega (arith, x)
