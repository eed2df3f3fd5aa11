-- The rows that are gathered are the orders of the links.
use Rattle.std.proofs.Common.{◌≡◌, ◌≢◌, ℕ, zero, suc, ◌+◌, ◌*◌, ◌/◌, ◌%◌, ◌<◌, ◌≤◌, ◌⊎◌, inl, inr, ⊎_elim, List, [], ◌∷◌, length, get_or, map, max, slice_get, slice_set, Some, refl, ap, sym, ◌∙◌, subst, arith}
use Rattle.std.proofs.lemmas.Option.{slice_get-map, slice_get_within, same_Some}
use Rattle.std.proofs.lemmas.List.{length-map, map-set}
use Rattle.std.specs.Option.{option_map}
use Rattle.sock_words.specs.declared.place_word.PlaceWord.{PlaceWord}
use Rattle.sock_words.specs.PackedWords.{no_place, HasPosition, place_word_link, place_word_position}
use Rattle.brpc_model.specs.Operations.{Label}
use Rattle.script_report.specs.declared.links.ReportLabel.{ReportLabel}
use Rattle.script_report.specs.ReportLines.{label_of}
use Rattle.brpc_model.specs.PlaceWords.{word_at, Tells, StandsAt, IsOrder, ArePlaces}
use Rattle.script_report.specs.OrderRows.{label_at, IsPutAt, IsFiled, IsRow, AreRows}

-- ## Cases of two numbers

pub same_or_not : (a b : ℕ) → (a ≡ b) ⊎ (a ≢ b)
same_or_not zero zero = inl refl
same_or_not zero (suc b) = inr (λ e. omega arith)
same_or_not (suc a) zero = inr (λ e. omega arith)
same_or_not (suc a) (suc b) = ⊎_elim (λ e. inl (ap suc e)) (λ n. inr (λ e. n (omega arith))) (same_or_not a b)

-- ## Labels and numbers

parts_of : (n : ℕ) → 8 * (n / 8) + n % 8 ≡ n
parts_of n = omega arith

-- the label of a number stands where the word of that number tells
stands_by : (words : List PlaceWord) (n k p : ℕ) → Tells (word_at words n) k p → StandsAt words (label_of (label_at n)) k p
stands_by words n k p h = record { attempt = omega arith; told = subst (λ (m : ℕ). Tells (word_at words m) k p) (sym (parts_of n)) h }

-- the number of a label's word is that of the label
pub same_label : (b : Label) → b.attempt < 8 → label_of (label_at (8 * b.operation + b.attempt)) ≡ b
same_label b h =
    let op : (8 * b.operation + b.attempt) / 8 ≡ b.operation = omega arith in
    let att : (8 * b.operation + b.attempt) % 8 ≡ b.attempt = omega arith in
    ap (λ (o : ℕ). let l : Label = record { operation = o; attempt = (8 * b.operation + b.attempt) % 8 } in l) op ∙ ap (λ (a : ℕ). let l : Label = record { operation = b.operation; attempt = a } in l) att

-- no two words tell one position
once_numbers : (words : List PlaceWord) (a b k p : ℕ) → ArePlaces words → Tells (word_at words a) k p → Tells (word_at words b) k p → a ≡ b
once_numbers words a b k p h s t =
    let e : label_of (label_at a) ≡ label_of (label_at b) = h.once _ _ k p (stands_by words a k p s) (stands_by words b k p t) in
    sym (parts_of a) ∙ (ap (λ (l : Label). 8 * l.operation + l.attempt) e ∙ parts_of b)

no_position : (w : ℕ) → w ≡ no_place → HasPosition w → ⊥
no_position w e h = let z : HasPosition no_place = subst HasPosition e h in omega arith

-- a word that tells a position is one of the list
told_within : (words : List PlaceWord) (n k p : ℕ) → Tells (word_at words n) k p → n < length words
told_within [] n k p h = absurd (no_position no_place refl h.accepted)
told_within (w ∷ ws) zero k p h = omega arith
told_within (w ∷ ws) (suc n) k p h = let i : n < length ws = told_within ws n k p h in omega arith

-- ## One element replaced

pub get_same : {A : Type 0} (xs : List A) (i : ℕ) (y : A) → i < length xs → slice_get (slice_set xs i y) i ≡ Some y
get_same [] i y l = absurd (omega arith)
get_same (x ∷ xs) zero y l = refl
get_same (x ∷ xs) (suc i) y l = get_same xs i y (omega arith)

pub get_other : {A : Type 0} (xs : List A) (i j : ℕ) (y : A) → j ≢ i → slice_get (slice_set xs i y) j ≡ slice_get xs j
get_other [] i j y n = refl
get_other (x ∷ xs) zero zero y n = absurd (n refl)
get_other (x ∷ xs) zero (suc j) y n = refl
get_other (x ∷ xs) (suc i) zero y n = refl
get_other (x ∷ xs) (suc i) (suc j) y n = get_other xs i j y (λ e. n (ap suc e))

pub length_set : {A : Type 0} (xs : List A) (i : ℕ) (y : A) → length (slice_set xs i y) ≡ length xs
length_set [] i y = refl
length_set (x ∷ xs) zero y = refl
length_set (x ∷ xs) (suc i) y = let e : length (slice_set xs i y) ≡ length xs = length_set xs i y in omega arith

-- a label in the row of its link
pub some_filed : (word : ℕ) (label : ReportLabel) (rows : List (List ReportLabel)) (i : ℕ) (before after : List ReportLabel) → HasPosition word → i ≡ place_word_link word →
    slice_get rows i ≡ Some before → IsPutAt (place_word_position word) label before after → IsFiled word label rows (slice_set rows i after)
some_filed word label rows i before after has at was put = record {
  same_links = length_set rows i after;
  others = λ k apart. get_other rows i k after (λ e. apart has (e ∙ at));
  own = λ k row _ e found. (
    before,
    ap (slice_get rows) (e ∙ sym at) ∙ was,
    subst (λ (r : List ReportLabel). IsPutAt (place_word_position word) label before r) (same_Some after row (sym (get_same rows i after (slice_get_within rows i before was)) ∙ (ap (slice_get (slice_set rows i after)) (at ∙ sym e) ∙ found))) put,
  );
}

-- the word tells no position
pub none_told : (word : ℕ) (label : ReportLabel) (rows : List (List ReportLabel)) → (HasPosition word → ⊥) → IsFiled word label rows rows
none_told word label rows none = record {
  same_links = refl;
  others = λ k _. refl;
  own = λ k row has e found. absurd (none has);
}

-- there is no such link
pub none_filed : (word : ℕ) (label : ReportLabel) (rows : List (List ReportLabel)) (i : ℕ) → i ≡ place_word_link word → length rows ≤ i → IsFiled word label rows rows
none_filed word label rows i at past = record {
  same_links = refl;
  others = λ k _. refl;
  own = λ k row has e found. let w : k < length rows = slice_get_within rows k row found in absurd (omega (arith, e ∙ sym at));
}

-- ## Word by word

-- none is told by no words
pub no_rows : {A : Type 0} (words : List PlaceWord) (names : List A) (rows : List (List ReportLabel)) → rows ≡ map (λ _. []) names → AreRows words 0 rows
no_rows {A} words names rows e link row found = subst (λ (r : List ReportLabel). IsRow words 0 link r) (sym (is_empty names link row (ap (λ (rs : List (List ReportLabel)). slice_get rs link) (sym e) ∙ found)))
    (record { stands = λ n p low told. absurd (omega arith); reached = λ p low. absurd (omega arith) })
  where
    is_empty : (ns : List A) (k : ℕ) (r : List ReportLabel) → slice_get (map (λ _. []) ns) k ≡ Some r → r ≡ []
    is_empty [] k r f = absurd (cc)
    is_empty (n ∷ ns) zero r f = sym (same_Some [] r f)
    is_empty (n ∷ ns) (suc k) r f = is_empty ns k r f

-- of a link that the next word doesn't tell
row_same : (words : List PlaceWord) (n k : ℕ) (row : List ReportLabel) → ((p : ℕ) → Tells (word_at words n) k p → ⊥) → IsRow words n k row → IsRow words (n + 1) k row
row_same words n k row never h = record {
  stands = λ m p low told. ⊎_elim (λ (e : m ≡ n). absurd (never p (subst (λ (x : ℕ). Tells (word_at words x) k p) e told))) (λ (d : m ≢ n). h.stands m p (omega arith) told) (same_or_not m n);
  reached = h.reached;
}

-- of the link that it tells
row_more : (words : List PlaceWord) (n k p : ℕ) (before row : List ReportLabel) → ArePlaces words → Tells (word_at words n) k p → IsPutAt p (label_at n) before row → IsRow words n k before → IsRow words (n + 1) k row
row_more words n k p before row places told put h = record {
  stands = λ m q low there. ⊎_elim
      (λ (e : m ≡ n). let same : q ≡ p = sym there.position_is ∙ (ap (λ (x : ℕ). place_word_position (word_at words x)) e ∙ told.position_is) in
      ap (slice_get row) same ∙ (put.here ∙ ap (λ (x : ℕ). Some (label_at x)) (sym e)))
      (λ (d : m ≢ n). let was : slice_get before q ≡ Some (label_at m) = h.stands m q (omega arith) there in
      put.elsewhere q (λ e. d (once_numbers words m n k p places (subst (λ (x : ℕ). Tells (word_at words m) k x) e there) told)) (slice_get_within before q (label_at m) was) ∙ was)
      (same_or_not m n);
  reached = λ q low. ⊎_elim (λ (in_ : q < length before). h.reached q in_) (λ (out : length before ≤ q). (n, p, (let l : length row ≡ max (length before) (p + 1) = put.length_is in omega arith), told)) (below_or_not q (length before));
}
  where
    below_or_not : (a b : ℕ) → (a < b) ⊎ (b ≤ a)
    below_or_not a zero = inr (omega arith)
    below_or_not zero (suc b) = inl (omega arith)
    below_or_not (suc a) (suc b) = ⊎_elim (λ (l : a < b). inl (omega arith)) (λ (l : b ≤ a). inr (omega arith)) (below_or_not a b)

-- and of all links
pub rows_more : (words : List PlaceWord) (n word : ℕ) (old new : List (List ReportLabel)) → ArePlaces words → word ≡ word_at words n → IsFiled word (label_at n) old new → AreRows words n old → AreRows words (n + 1) new
rows_more words n word old new places is filed h k row found =
    ⊎_elim (λ (none : word ≡ no_place). unchanged (λ p t. no_position word none (subst HasPosition (sym is) t.accepted)) (λ has. absurd (no_position word none has)))
    (λ (has : HasPosition word). ⊎_elim
    (λ (e : k ≡ place_word_link word). let got = filed.own k row has e found in
    row_more words n k (place_word_position word) got.0 row places (subst (λ (w : ℕ). Tells w k (place_word_position word)) is (record { accepted = has; link_is = sym e; position_is = refl })) got.2 (h k got.0 got.1))
    (λ (d : k ≢ place_word_link word). unchanged (λ p t. d (sym t.link_is ∙ ap place_word_link (sym is))) (λ _. d))
    (same_or_not k (place_word_link word)))
    (subst (λ (w : ℕ). (w ≡ no_place) ⊎ HasPosition w) (sym is) (places.tell n))
  where
    unchanged : ((p : ℕ) → Tells (word_at words n) k p → ⊥) → (HasPosition word → k ≢ place_word_link word) → IsRow words (n + 1) k row
    unchanged never apart = row_same words n k row never (h k row (sym (filed.others k apart) ∙ found))

-- ## The order of a link

-- the label that stands at a position
found_label : (words : List PlaceWord) (k p : ℕ) (row : List ReportLabel) (label : Label) → IsRow words (length words) k row → StandsAt words label k p → slice_get (map label_of row) p ≡ Some label
found_label words k p row label h s =
    let n : ℕ = 8 * label.operation + label.attempt in
    let there : slice_get row p ≡ Some (label_at n) = h.stands n p (told_within words n k p s.told) s.told in
    slice_get-map label_of row p ∙ (ap (option_map label_of) there ∙ ap Some (same_label label s.attempt))

-- each position of the row has its label
each_stands : (words : List PlaceWord) (k p : ℕ) (row : List ReportLabel) → ArePlaces words → IsRow words (length words) k row → p < length row → (b : Label) × StandsAt words b k p
each_stands words k p row places h low =
    let last = h.reached p low in
    ⊎_elim (λ (e : p ≡ last.1). (label_of (label_at last.0), stands_by words last.0 k p (subst (λ (q : ℕ). Tells (word_at words last.0) k q) (sym e) last.3)))
    (λ (d : p ≢ last.1). places.no_gap (label_of (label_at last.0)) k last.1 p (stands_by words last.0 k last.1 last.3) (omega (arith, last.2)))
    (same_or_not p last.1)

pub row_is_order : (words : List PlaceWord) (k : ℕ) (row : List ReportLabel) → ArePlaces words → IsRow words (length words) k row → IsOrder words k (map label_of row)
row_is_order words k row places h p label = (to, λ s. found_label words k p row label h s)
  where
    to : slice_get (map label_of row) p ≡ Some label → StandsAt words label k p
    to e = let low : p < length (map label_of row) = slice_get_within (map label_of row) p label e in
        let some = each_stands words k p row places h (subst (λ (n : ℕ). p < n) (length-map row label_of) low) in
        subst (λ (l : Label). StandsAt words l k p) (same_Some some.0 label (sym (found_label words k p row some.0 h some.1) ∙ e)) some.1

-- ## Rows in vectors

-- a label was put into the vector of its link
pub filed_in : {V : Type 0} (f : V → List ReportLabel) (word : ℕ) (label : ReportLabel) (orders : List V) (i position : ℕ) (before after : V) → HasPosition word →
    i ≡ place_word_link word → position ≡ place_word_position word → slice_get orders i ≡ Some before → IsPutAt position label (f before) (f after) → IsFiled word label (map f orders) (map f (slice_set orders i after))
filed_in {V} f word label orders i position before after has at here was put =
    subst (λ (rows : List (List ReportLabel)). IsFiled word label (map f orders) rows) (sym (map-set f orders i after))
    (some_filed word label (map f orders) i (f before) (f after) has at (slice_get-map f orders i ∙ ap (option_map f) was) (subst (λ (p : ℕ). IsPutAt p label (f before) (f after)) here put))

pub filed_nowhere : {V : Type 0} (f : V → List ReportLabel) (word : ℕ) (label : ReportLabel) (orders : List V) (i : ℕ) → i ≡ place_word_link word → length orders ≤ i → IsFiled word label (map f orders) (map f orders)
filed_nowhere f word label orders i at past = none_filed word label (map f orders) i at (subst (λ (n : ℕ). n ≤ i) (sym (length-map orders f)) past)

-- the word of an item of the list
pub word_of_items : (words : List PlaceWord) (n : ℕ) (d : PlaceWord) → n < length words → (get_or words n d).0 ≡ word_at words n
word_of_items [] n d l = absurd (omega arith)
word_of_items (w ∷ ws) zero d l = refl
word_of_items (w ∷ ws) (suc n) d l = word_of_items ws n d (omega arith)

pub length_empty : {A : Type 0} (names : List A) (rows : List (List ReportLabel)) → rows ≡ map (λ _. []) names → length rows ≡ length names
length_empty names rows e = ap length e ∙ length-map names (λ _. [])

-- the next word's label was filed
pub next_filed : (words : List PlaceWord) (n index next : ℕ) (d : PlaceWord) (label : ReportLabel) (old new : List (List ReportLabel)) → ArePlaces words → n ≡ index → index < length words → next ≡ index + 1 →
    label ≡ label_at n → IsFiled (get_or words index d).0 label old new → AreRows words n old → AreRows words next new
next_filed words n index next d label old new places at low is_next is filed rows =
    subst (λ (m : ℕ). AreRows words m new) (ap (λ (x : ℕ). x + 1) at ∙ sym is_next)
    (rows_more words n (get_or words index d).0 old new places (word_of_items words index d low ∙ ap (word_at words) (sym at))
    (subst (λ (l : ReportLabel). IsFiled (get_or words index d).0 l old new) is filed) rows)
