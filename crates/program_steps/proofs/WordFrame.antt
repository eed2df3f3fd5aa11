-- A step leaves each word of the table but its own, and a load leaves its own too.
use Rattle.std.proofs.Common.{◌≡◌, ◌≢◌, ℕ, ◌*◌, ◌<◌, ◌≤◌, ◌==◌, Bool, true, false, List, refl, sym, ap, subst, arith, eqb, eq-eqb, eqb-true, ne_eqb, true≢false, le-ltb, ◌∙◌, get_or, get_or-set_other}
use Rattle.std.specs.Prelude.{nat_lt, ◌&&◌, ◌||◌}
use mathlib.Core.Option.{Option, some, none, some-injective, some-ne-none}
use lib.Seq.{set-get_or}
use Rattle.sock_words.specs.declared.plain.Plan.{Plan}
use Rattle.sock_model.specs.declared.view.View.{View}
use Rattle.sock_model.specs.SocketTableLayout.{all_words}
use Rattle.seat_programs.specs.TableSteps.{TableStep, OnSlot, OnName, OnChain, OnPlace, OnLink, OnMessage, SlotStep, NameStep, ChainStep, PlaceStep, ClaimSlot, CreateLife, AddRef, SubRef, SetOdd, Recycle, FreeSlot, LookWord, StoreLink, LoadLink, FindLink, ResetHead, ClearCode, StoreCode, LoadCode, StoreName, LoadName, StoreOpen, LoadOpen, SwapHead, EmptyHead, StorePlace}
use Rattle.seat_programs.specs.TableWords.{TableWord, TagOf, RefOf, LinkOf, HeadOf, CodeOf, NameOf, OpenOf, RequestOf, NextOf, PlaceOf, index_in, index_of, IsIn}
use Rattle.seat_programs.specs.StepsOfSlots.{word_of_slot}
use Rattle.seat_programs.specs.StepsOfNames.{word_of_name}
use Rattle.seat_programs.specs.StepsOfChain.{word_of_chain}
use Rattle.seat_programs.specs.StepsOfPlaces.{word_of_place}
use Rattle.seat_programs.specs.StepTables.{May, table_word, word_of}
use Rattle.seat_programs.specs.Cores.{found_at, words_after}

-- ## Two words

-- the sorts of words, 10 of none
abbrev pub sort_of : TableWord → ℕ
sort_of (TagOf i) = 0
sort_of (RefOf i) = 1
sort_of (LinkOf i) = 2
sort_of (HeadOf i) = 3
sort_of (CodeOf i) = 4
sort_of (NameOf n) = 5
sort_of (OpenOf o) = 6
sort_of (RequestOf q) = 7
sort_of (NextOf q) = 8
sort_of (PlaceOf l) = 9

abbrev pub sort_in : Option TableWord → ℕ
sort_in none = 10
sort_in (some w) = sort_of w

-- those of slots stand first, then those of names and so on
abbrev pub level_of : TableWord → ℕ
level_of (NameOf n) = 1
level_of (OpenOf o) = 2
level_of (RequestOf q) = 3
level_of (NextOf q) = 4
level_of (PlaceOf l) = 5
level_of other = 0

-- where it stands before those of this level, it is one of the table
abbrev pub When : Bool → Type 0 → Type 0
When true says = says
When false says = Unit {0}

abbrev pub IsBelow : Plan → ℕ → TableWord → Type 0
IsBelow p n w = When (nat_lt (level_of w) n) (IsIn p w)

-- words at one index are one
pub same_word : (p : Plan) (w x : TableWord) → IsIn p w → IsBelow p (level_of w) x → index_in p w ≡ index_in p x → w ≡ x
same_word p (TagOf i) (TagOf j) inside below e = ap TagOf (omega (arith, e))
same_word p (RefOf i) (RefOf j) inside below e = ap RefOf (omega (arith, e))
same_word p (LinkOf i) (LinkOf j) inside below e = ap LinkOf (omega (arith, e))
same_word p (HeadOf i) (HeadOf j) inside below e = ap HeadOf (omega (arith, e))
same_word p (CodeOf i) (CodeOf j) inside below e = ap CodeOf (omega (arith, e))
same_word p (NameOf i) (NameOf j) inside below e = ap NameOf (omega (arith, e))
same_word p (OpenOf i) (OpenOf j) inside below e = ap OpenOf (omega (arith, e))
same_word p (RequestOf i) (RequestOf j) inside below e = ap RequestOf (omega (arith, e))
same_word p (NextOf i) (NextOf j) inside below e = ap NextOf (omega (arith, e))
same_word p (PlaceOf i) (PlaceOf j) inside below e = ap PlaceOf (omega (arith, e))
same_word p w x inside below e = absurd (omega (arith, e, inside, below))

-- words of other sorts are others
apart : (w x : TableWord) → eqb (sort_of x) (sort_of w) ≡ false → w ≢ x
apart w x other e = true≢false (sym (eq-eqb (sort_of x) (sort_of w) (ap sort_of (sym e))) ∙ other)

-- ## A step

module _ (p : Plan) (ws : List ℕ) where
  -- where it is on another word
  pub leaves_other : (o : Option TableWord) (v : ℕ) (w : TableWord) → IsIn p w → ((x : TableWord) → o ≡ some x → IsBelow p (level_of w) x × (w ≢ x)) → get_or (words_after ws (index_of p o) v) (index_in p w) 0 ≡ get_or ws (index_in p w) 0
  leaves_other none v w inside other = refl
  leaves_other (some x) v w inside other = get_or-set_other ws (index_in p x) (index_in p w) v 0 (λ e. let o = other x refl in o.1 (same_word p w x inside o.0 e))

  -- where its word is of another sort
  pub leaves : (o : Option TableWord) (v : ℕ) (w : TableWord) → IsIn p w → ((x : TableWord) → o ≡ some x → IsBelow p (level_of w) x) → eqb (sort_in o) (sort_of w) ≡ false → get_or (words_after ws (index_of p o) v) (index_in p w) 0 ≡ get_or ws (index_in p w) 0
  leaves o v w inside below other = leaves_other o v w inside (λ x e. (below x e, apart w x (subst (λ z. eqb (sort_in z) (sort_of w) ≡ false) e other)))

  -- where it stores what it found
  pub load_leaves : (o : Option TableWord) → words_after ws (index_of p o) (found_at ws (index_of p o)) ≡ ws
  load_leaves none = refl
  load_leaves (some x) = set-get_or ws (index_in p x) 0

-- ## What the view of a seat says of the word

-- a word of a slot, name or operation is one of the table
abbrev pub AreLow : Plan → Option TableWord → Type 0
AreLow p none = Unit {0}
AreLow p (some w) = IsBelow p 3 w

pub low_word : (p : Plan) (v : View) (call : TableStep) → May p v call → AreLow p (table_word call)
low_word p v (OnSlot (ClaimSlot i)) may = may
low_word p v (OnSlot (AddRef id)) may = may.0.0
low_word p v (OnName (LoadName n)) may = may
low_word p v (OnName (LoadOpen o)) may = may
low_word p v (OnSlot (CreateLife i k)) may = may.0
low_word p v (OnSlot (SubRef i)) may = may.0
low_word p v (OnSlot (SetOdd i)) may = may.0
low_word p v (OnSlot (Recycle i from)) may = may.0
low_word p v (OnSlot (FreeSlot i)) may = may.0
low_word p v (OnSlot (LookWord id)) may = may.0
low_word p v (OnSlot (StoreLink i k)) may = may.0
low_word p v (OnSlot (LoadLink i w)) may = may.0
low_word p v (OnSlot (FindLink i h)) may = may.0
low_word p v (OnSlot (ResetHead i k)) may = may.0
low_word p v (OnSlot (ClearCode i k)) may = may.0
low_word p v (OnSlot (StoreCode i h c)) may = may.0
low_word p v (OnSlot (LoadCode i h)) may = may.0
low_word p v (OnName (StoreName n w)) may = may.0
low_word p v (OnName (StoreOpen o w)) may = may.0
low_word p v (OnChain (SwapHead i own)) may = may.0
low_word p v (OnChain (EmptyHead i last)) may = may.0
low_word p v (OnPlace (StorePlace l k n)) may = tt
low_word p v call may = tt

-- ## The sort of a step's word

-- whether a step is on a word of this sort: the words of slots are of the sorts 0 to 4, those of names and operations 5 and 6, of the chain 3, 7 and
-- 8, of places 9. Of a sort that none of its family is on this is false whatever the step.
abbrev pub is_on : ℕ → TableStep → Bool
is_on n (OnSlot step) = nat_lt n 5 && eqb (sort_in (word_of_slot step)) n
is_on n (OnName step) = (nat_lt 4 n && nat_lt n 7) && eqb (sort_in (word_of_name step)) n
is_on n (OnChain step) = ((n == 3) || (nat_lt 6 n && nat_lt n 9)) && eqb (sort_in (word_of_chain step)) n
is_on n (OnPlace step) = (n == 9) && eqb (sort_in (word_of_place step)) n
is_on n other = false

slot_sort : (step : SlotStep) → nat_lt (sort_in (word_of_slot step)) 5 ≡ true
slot_sort (ClaimSlot i) = refl
slot_sort step = refl

name_sort : (step : NameStep) → (nat_lt 4 (sort_in (word_of_name step)) && nat_lt (sort_in (word_of_name step)) 7) ≡ true
name_sort (LoadName n) = refl
name_sort step = refl

chain_sort : (step : ChainStep) → ((sort_in (word_of_chain step) == 3) || (nat_lt 6 (sort_in (word_of_chain step)) && nat_lt (sort_in (word_of_chain step)) 9)) ≡ true
chain_sort (SwapHead i own) = refl
chain_sort step = refl

place_sort : (step : PlaceStep) → (sort_in (word_of_place step) == 9) ≡ true
place_sort (StorePlace l k n) = refl
place_sort step = refl

-- a sort of this range is another than n, where n isn't both in the range and that sort
inside_of : (range : ℕ → Bool) (sort n : ℕ) → range sort ≡ true → (range n && eqb sort n) ≡ false → eqb sort n ≡ false
inside_of range sort n within is = by_test (eqb sort n) refl
  where
    by_test : (b : Bool) → eqb sort n ≡ b → b ≡ false
    by_test false e = refl
    by_test true e = let in_ : range n ≡ true = subst (λ m. range m ≡ true) (eqb-true sort n e) within in sym (ap (λ b. range n && b) e ∙ ap (λ b. b && true) in_) ∙ is

-- so the word of a step that is on none of this sort is of another
pub of_other_sort : (n : ℕ) (call : TableStep) → is_on n call ≡ false → n ≢ 10 → eqb (sort_in (table_word call)) n ≡ false
of_other_sort n (OnSlot step) is some_ = inside_of (λ m. nat_lt m 5) (sort_in (word_of_slot step)) n (slot_sort step) is
of_other_sort n (OnName step) is some_ = inside_of (λ m. nat_lt 4 m && nat_lt m 7) (sort_in (word_of_name step)) n (name_sort step) is
of_other_sort n (OnChain step) is some_ = inside_of (λ m. (m == 3) || (nat_lt 6 m && nat_lt m 9)) (sort_in (word_of_chain step)) n (chain_sort step) is
of_other_sort n (OnPlace step) is some_ = inside_of (λ m. m == 9) (sort_in (word_of_place step)) n (place_sort step) is
of_other_sort n (OnLink step) is some_ = ne_eqb 10 n (λ e. some_ (sym e))
of_other_sort n (OnMessage step) is some_ = ne_eqb 10 n (λ e. some_ (sym e))

-- no word is of the sort of none
sort_is : (w : TableWord) → sort_of w ≢ 10
sort_is (TagOf i) e = omega (arith, e)
sort_is w e = omega (arith, e)

-- ## A word of a slot, a name, an operation or a request

weaken : (b : Bool) (says : Type 0) → says → When b says
weaken true says is = is
weaken false says is = tt

-- what is at none of these levels needn't be known
above : (n k : ℕ) (says : Type 0) → n ≤ k → When (nat_lt k n) says
above n k says high = subst (λ b. When b says) (sym (le-ltb k n high)) tt

lower : (p : Plan) (n : ℕ) → n ≤ 3 → (w : TableWord) → IsBelow p 3 w → IsBelow p n w
lower p n few (RequestOf q) low = above n 3 (q < p.requests) few
lower p n few (NextOf q) low = above n 4 (q < p.requests) (omega (arith, few))
lower p n few (PlaceOf l) low = above n 5 (l < 8 * p.operations) (omega (arith, few))
lower p n few w low = weaken (nat_lt (level_of w) n) (IsIn p w) low

low_in : (p : Plan) (n : ℕ) → n ≤ 3 → (o : Option TableWord) → AreLow p o → (x : TableWord) → o ≡ some x → IsBelow p n x
low_in p n few none low x e = absurd (some-ne-none x (sym e))
low_in p n few (some w) low x e = subst (λ y. IsBelow p n y) (some-injective w x e) (lower p n few w low)

-- a step that the view allows leaves it, where its own word is of another sort
pub word_stays : (p : Plan) (ws : List ℕ) (v : View) (call : TableStep) → May p v call → (stored : ℕ) (w : TableWord) → IsIn p w → level_of w ≤ 3 → is_on (sort_of w) call ≡ false
    → get_or (words_after ws (word_of p call) stored) (index_in p w) 0 ≡ get_or ws (index_in p w) 0
word_stays p ws v call may stored w inside few other = leaves p ws (table_word call) stored w inside (low_in p (level_of w) few (table_word call) (low_word p v call may)) (of_other_sort (sort_of w) call other (sort_is w))

-- ## A word that is one of the table

abbrev pub AreIn : Plan → Option TableWord → Type 0
AreIn p none = Unit {0}
AreIn p (some w) = IsIn p w

pub in_table : (p : Plan) (o : Option TableWord) → AreIn p o → (x : ℕ) → index_of p o ≡ some x → x < all_words p
in_table p none in_ x e = absurd (some-ne-none x (sym e))
in_table p (some w) in_ x e = subst (λ y. y < all_words p) (some-injective (index_in p w) x e) (index_inside w in_)
  where
    index_inside : (w : TableWord) → IsIn p w → index_in p w < all_words p
    index_inside (TagOf i) inside = omega (arith, inside)
    index_inside w inside = omega (arith, inside)

-- each other word is left
pub word_left : (p : Plan) (ws : List ℕ) (call : TableStep) → AreIn p (table_word call) → (stored : ℕ) (w : TableWord) → IsIn p w → is_on (sort_of w) call ≡ false
    → get_or (words_after ws (word_of p call) stored) (index_in p w) 0 ≡ get_or ws (index_in p w) 0
word_left p ws call in_ stored w inside other = leaves p ws (table_word call) stored w inside (below (table_word call) in_) (of_other_sort (sort_of w) call other (sort_is w))
  where
    below : (o : Option TableWord) → AreIn p o → (x : TableWord) → o ≡ some x → IsBelow p (level_of w) x
    below none in_ x e = absurd (some-ne-none x (sym e))
    below (some y) in_ x e = subst (IsBelow p (level_of w)) (some-injective y x e) (weaken (nat_lt (level_of y) (level_of w)) (IsIn p y) in_)
