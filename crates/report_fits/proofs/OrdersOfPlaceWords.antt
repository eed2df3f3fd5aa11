-- The orders of the links are those that the place words tell.
use Rattle.std.proofs.Common.{◌≡◌, ℕ, ◌+◌, ◌*◌, ◌<◌, ◌≤◌, ◌⊎◌, inl, inr, true, false, not, nat_le, List, length, map, count_by, slice_get, slice_index, unwrap_or, option_map, Option, Some, refl, ap, sym, ◌∙◌, subst, arith}
use Rattle.std.proofs.lemmas.List.{length-map}
use Rattle.std.proofs.lemmas.Bool.Decides.{nat_tests}
use Rattle.std.proofs.lemmas.Option.{slice_get_within, slice_get_past}
use Rattle.sock_words.specs.declared.plain.Plan.{Plan}
use Rattle.sock_words.specs.declared.place_word.PlaceWord.{PlaceWord}
use Rattle.sock_words.specs.PackedWords.{no_place, HasPosition, IsPlaceWord, place_word}
use Rattle.brpc_model.specs.Operations.{Label}
use Rattle.brpc_model.specs.Report.{LinkLine}
use Rattle.brpc_model.specs.PlaceWords.{word_at, word_of, StandsAt as Stands, IsOrder, is_placed, IsLineOf, ArePlaces}
use Rattle.seat_programs.specs.sock_model.specs.SocketTableLayout.{place_index}
use Rattle.seat_programs.specs.Cores.{Core}
use Rattle.seat_programs.specs.ScheduledRuns.{from_to}
use Rattle.seat_programs.specs.ScriptSetupToEnding.{place_words}
use Rattle.seat_programs.specs.ExplainedCalls.{Accepted, Order, AreOrders, StandsAt, label as number_of}
use Rattle.script_facts.proofs.FilteredLists.{within, some_is}
use Rattle.script_facts.proofs.Flat.{same_places, map_at, at_map, from_to_at, from_to_length, count_first}
use Rattle.report_fits.proofs.PlaceValues.{is_place}

-- ## The word of a number

word_here : (p : Plan) (ws : List ℕ) (n : ℕ) → n < 8 * p.operations → word_at (place_words p ws) n ≡ slice_index ws (place_index p n)
word_here p ws n low =
    let f : ℕ → PlaceWord = λ l. record { 0 = slice_index ws (place_index p l) } in
    let at : slice_get (map f (from_to 0 (8 * p.operations))) n ≡ Some (f n) = map_at f (from_to 0 (8 * p.operations)) n n (from_to_at 0 (8 * p.operations) n low ∙ ap Some (let same : 0 + n ≡ n = omega arith in same)) in
    ap (λ (o : Option PlaceWord). unwrap_or (option_map (λ (word : PlaceWord). word.0) o) no_place) at

word_beyond : (p : Plan) (ws : List ℕ) (n : ℕ) → 8 * p.operations ≤ n → word_at (place_words p ws) n ≡ no_place
word_beyond p ws n high =
    let f : ℕ → PlaceWord = λ l. record { 0 = slice_index ws (place_index p l) } in
    let long : length (map f (from_to 0 (8 * p.operations))) ≤ n = omega (arith, high, length-map (from_to 0 (8 * p.operations)) f, from_to_length 0 (8 * p.operations)) in
    ap (λ (o : Option PlaceWord). unwrap_or (option_map (λ (word : PlaceWord). word.0) o) no_place) (slice_get_past (map f (from_to 0 (8 * p.operations))) n long)

-- ## Labels

-- the label of a message that was accepted
abbrev pub label_of : Accepted → Label
label_of a = record { operation = a.operation; attempt = a.attempt }

-- a label of this number is that of the message
label_is : (label : Label) (a : Accepted) → label.attempt < 8 → a.attempt < 8 → 8 * label.operation + label.attempt ≡ number_of a → label_of a ≡ label
label_is label a low few e =
    let operation : a.operation ≡ label.operation = omega (arith, low, few, e) in
    let attempt : a.attempt ≡ label.attempt = omega (arith, low, few, e) in
    ap (λ (n : ℕ). let l : Label = record { operation = n; attempt = a.attempt } in l) operation ∙ ap (λ (n : ℕ). let l : Label = record { operation = label.operation; attempt = n } in l) attempt

-- ## Orders

module _ (p : Plan) (c : Core) (orders : ℕ → Order) (are : AreOrders p c orders) (links : p.links ≤ 65536)
    (inside : (k i : ℕ) (a : Accepted) → k < p.links → StandsAt orders k i a → (i < 4294967295) × (a.operation < p.operations) × (a.attempt < 8)) where
  abbrev Words : List PlaceWord
  Words = place_words p c.words

  -- the word of a message that was accepted
  pub word_is : (k i : ℕ) (a : Accepted) → k < p.links → StandsAt orders k i a → word_at Words (number_of a) ≡ place_word (nat_le (orders k).placed i) k i
  word_is k i a low at =
      let few = inside k i a low at in
      word_here p c.words (number_of a) (omega (arith, few.1, few.2)) ∙ are.written k i a low at

  pub parts : (k i : ℕ) (a : Accepted) → k < p.links → StandsAt orders k i a → IsPlaceWord (word_at Words (number_of a)) (nat_le (orders k).placed i) k i
  parts k i a low at =
      let few = inside k i a low at in
      let P : ℕ → Type 0 = λ w. IsPlaceWord w (nat_le (orders k).placed i) k i in
      subst P (sym (word_is k i a low at)) (is_place (nat_le (orders k).placed i) k i (omega (arith, low, links)) few.0)

  -- its label stands there
  pub stands : (k i : ℕ) (a : Accepted) → k < p.links → StandsAt orders k i a → Stands Words (label_of a) k i
  stands k i a low at =
      let v = parts k i a low at in
      record { attempt = (inside k i a low at).2; told = record { accepted = v.has_position; link_is = v.link_is; position_is = v.position_is } }

  -- a word that tells a position is that of a message
  abbrev pub IsAccepted : ℕ → Type 0
  IsAccepted n = (k i : ℕ) × (a : Accepted) × (k < p.links) × StandsAt orders k i a × (n ≡ number_of a)

  pub none_or_accepted : (n : ℕ) → (word_at Words n ≡ no_place) ⊎ IsAccepted n
  none_or_accepted n = elim (nat_le (8 * p.operations) n) as (λ b. nat_le (8 * p.operations) n ≡ b → (word_at Words n ≡ no_place) ⊎ IsAccepted n) [
    | true ↦ λ t. inl (word_beyond p c.words n (grind (arith, nat_tests)))
    | false ↦ λ t. let low : n < 8 * p.operations = grind (arith, nat_tests) in by_word low (are.alone n low)
  ] refl
    where
      by_word : n < 8 * p.operations → (slice_index c.words (place_index p n) ≡ 0) ⊎ IsAccepted n → (word_at Words n ≡ no_place) ⊎ IsAccepted n
      by_word low (inl e) = inl (word_here p c.words n low ∙ e)
      by_word low (inr w) = inr w

  pub accepted_at : (n : ℕ) → HasPosition (word_at Words n) → IsAccepted n
  accepted_at n has = by_word (none_or_accepted n)
    where
      by_word : (word_at Words n ≡ no_place) ⊎ IsAccepted n → IsAccepted n
      by_word (inl e) = let P : ℕ → Type 0 = λ x. HasPosition x in absurd (let h : HasPosition no_place = subst P e has in omega (arith, h))
      by_word (inr w) = w

  -- and what stands at a place is a message that was accepted there
  pub stands_back : (label : Label) (k i : ℕ) → Stands Words label k i → (k < p.links) × (a : Accepted) × StandsAt orders k i a × (label_of a ≡ label)
  stands_back label k i h =
      let w = accepted_at (8 * label.operation + label.attempt) h.told.accepted in
      let v = parts w.0 w.1 w.2 w.3 w.4 in
      let same : word_of Words label ≡ word_at Words (number_of w.2) = ap (word_at Words) w.5 in
      let P : ℕ → Type 0 = λ x. IsPlaceWord x (nat_le (orders w.0).placed w.1) w.0 w.1 in
      let u = subst P (sym same) v in
      let link : w.0 ≡ k = sym u.link_is ∙ h.told.link_is in
      let position : w.1 ≡ i = sym u.position_is ∙ h.told.position_is in
      let Q : ℕ → Type 0 = λ x. (x < p.links) × StandsAt orders x w.1 w.2 in
      let R : ℕ → Type 0 = λ x. StandsAt orders k x w.2 in
      let there = subst Q link (w.3, w.4) in
      (there.0, w.2, subst R position there.1, label_is label w.2 h.attempt (inside w.0 w.1 w.2 w.3 w.4).2 w.5)

  -- ## The line of a link

  pub is_order : (k : ℕ) → k < p.links → IsOrder Words k (map label_of (orders k).accepted)
  is_order k low i label = (
    λ e. (
        let w = at_map label_of (orders k).accepted i label e in
        let P : Label → Type 0 = λ x. Stands Words x k i in
        subst P w.2 (stands k i w.0 low w.1)
        ),
    λ h. (
        let w = stands_back label k i h in
        map_at label_of (orders k).accepted i w.1 w.2 ∙ ap Some w.3
        ),
  )

  pub order_is : (k : ℕ) (bytes : List ℕ) (line : LinkLine) → k < p.links → IsLineOf Words k bytes line → line.order ≡ map label_of (orders k).accepted
  order_is k bytes line low h =
      let own = is_order k low in
      same_places line.order (map label_of (orders k).accepted) (λ i l e. (own i l).1 ((h.order i l).0 e)) (λ i l e. (h.order i l).1 ((own i l).0 e))

  placed_at : (k : ℕ) → k < p.links → (i : ℕ) (label : Label) → slice_get (map label_of (orders k).accepted) i ≡ Some label → is_placed Words label ≡ not (nat_le (orders k).placed i)
  placed_at k low i label e =
      let w = at_map label_of (orders k).accepted i label e in
      let v = parts k i w.0 low w.1 in
      ap (is_placed Words) (sym w.2) ∙ ap not v.dropped_is

  pub placed_is : (k : ℕ) (bytes : List ℕ) (line : LinkLine) → k < p.links → IsLineOf Words k bytes line → line.placed ≡ (orders k).placed
  placed_is k bytes line low h =
      h.placed ∙ ap (count_by (is_placed Words)) (order_is k bytes line low h)
      ∙ count_first (is_placed Words) (map label_of (orders k).accepted) (orders k).placed (omega (arith, are.within k low, length-map (orders k).accepted label_of)) (placed_at k low)

  -- ## The words as they are printed

  pub are_places : ArePlaces Words
  are_places = record {
    tell = λ n. by_word n (none_or_accepted n);
    once = λ a b k i h g. (
        let v = stands_back a k i h in
        let w = stands_back b k i g in
        sym v.3 ∙ ap label_of (some_is v.1 w.1 (sym v.2 ∙ w.2)) ∙ w.3
        );
    no_gap = λ a k i lower h less. (
        let v = stands_back a k i h in
        let w = within (orders k).accepted lower (omega (arith, less, slice_get_within (orders k).accepted i v.1 v.2)) in
        (label_of w.0, stands k lower w.0 v.0 w.1)
        );
  }
    where
      by_word : (n : ℕ) → (word_at Words n ≡ no_place) ⊎ IsAccepted n → (word_at Words n ≡ no_place) ⊎ HasPosition (word_at Words n)
      by_word n (inl e) = inl e
      by_word n (inr w) =
          let P : ℕ → Type 0 = λ x. HasPosition (word_at Words x) in
          inr (subst P (sym w.5) (parts w.0 w.1 w.2 w.3 w.4).has_position)
