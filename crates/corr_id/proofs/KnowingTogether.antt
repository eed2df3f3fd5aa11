-- What each step adds to what the seats know together.
use Rattle.std.proofs.Common.{◌≡◌, ℕ, ◌+◌, ◌%◌, ◌≤◌, ◌<◌, ◌⊎◌, inl, inr, Bool, true, false, cond, List, [], ◌∷◌, ◌++◌, set, refl, ap, subst, arith}
use Rattle.std.specs.Prelude.{◌==◌}
use Rattle.std.specs.List.{flat_map}
use mathlib.Core.Logic.{dite}
use mathlib.Core.Option.{some}
use native.Mathlib.Decide.{ℕ_discrete}
use lib.ListN.{get_elem?}
use Rattle.atomic_table.proofs.Lists.{set_here}
use Rattle.corr_core.specs.IdSlotWord.{parts}
use Rattle.corr_core.specs.IdSlotLaw.{pair, is_made, Local, SlotLaw, vacant, retired, claimed, opened, locked, leaving}
use Rattle.corr_core.specs.declared.marks.Note.{Note}
use Rattle.corr_core.specs.declared.marks.Note.TheVariants.{Saw}
use Rattle.corr_core.specs.declared.marks.Noted.{Noted}
use Rattle.corr_core.specs.declared.marks.Kept.{Kept}
use Rattle.corr_core.specs.declared.marks.View.{View}
use Rattle.corr_core.proofs.NoteSums.{at_length, total_set, only-else, pair-else, pair-else_first}
use Rattle.corr_core.proofs.Shuffles.{total_flat}
use Rattle.id_rule.specs.LawfulIdTable.{is_stored, kept_in, notes_of, notes_in, with_note, with_kept}
use Rattle.id_rule.specs.IdPlays.{found_view}
use Rattle.corr_id.specs.SeatBehindIdCalls.{is_saw, one}
use Rattle.corr_id.specs.Ruled.{InTurn, Known}
use Rattle.corr_id.proofs.IdSeatSplits.{notes_append, total_append}
use Rattle.corr_id.proofs.LastSeatOfIds.{term}
use Rattle.corr_id.proofs.TokensOfIdCalls.{notes_grow}
use Rattle.sock_words.specs.PackedWords.{id_slot, id_first}
use Rattle.sock_words.specs.Totals.{total}

module _ {C : Type 0} where
  -- a locked word has its errors in turn
  pub turn_of : (l : Local C) → SlotLaw l → InTurn l.word
  turn_of l o two none_ = elim o.stands [
    | vacant t g z u k ↦ absurd (omega (arith, two, z))
    | retired t g z u k ↦ absurd (omega (arith, two, z))
    | claimed seen h t g z u k q ↦ absurd (omega (arith, two, z))
    | opened c t z v p q k ↦ absurd (omega (arith, two, z))
    | locked c f s h t z v b u y ↦ b.2 none_
    | leaving t g z u k ↦ absurd (omega (arith, two, z))
  ]

  -- a later view of a seat: what it stored at an operation is an id that it knows to be made, and the words that it found have their errors in turn
  pub record Adds (v w : View C) : Type 0 where
    pub grows : (j : ℕ) (g : Note C → ℕ) → total g (notes_of j v.notes) ≤ total g (notes_of j w.notes)
    pub stored : (x n : ℕ) → x % 2 ≡ 0 → 0 < total (is_stored x n) w.kept → (0 < total (is_stored x n) v.kept) ⊎ (0 < total (is_made (id_first n)) (notes_of (id_slot n) w.notes))
    pub saw : (j x : ℕ) → 0 < total (is_saw x) (notes_of j w.notes) → (0 < total (is_saw x) (notes_of j v.notes)) ⊎ InTurn (parts x)

  pub adds_then : (u v w : View C) → Adds u v → Adds v w → Adds u w
  adds_then u v w a b = record { grows = λ j g. (let x = a.grows j g in let y = b.grows j g in omega (arith, x, y)); stored = λ x n even h. stores x n even (b.stored x n even h); saw = λ j x h. saws j x (b.saw j x h) }
    where
      stores : (x n : ℕ) → x % 2 ≡ 0 → (0 < total (is_stored x n) v.kept) ⊎ (0 < total (is_made (id_first n)) (notes_of (id_slot n) w.notes)) → (0 < total (is_stored x n) u.kept) ⊎ (0 < total (is_made (id_first n)) (notes_of (id_slot n) w.notes))
      stores x n even (inl h) = still (a.stored x n even h)
        where
          still : (0 < total (is_stored x n) u.kept) ⊎ (0 < total (is_made (id_first n)) (notes_of (id_slot n) v.notes)) → (0 < total (is_stored x n) u.kept) ⊎ (0 < total (is_made (id_first n)) (notes_of (id_slot n) w.notes))
          still (inl k) = inl k
          still (inr k) = inr (let y = b.grows (id_slot n) (is_made (id_first n)) in omega (arith, y, k))
      stores x n even (inr h) = inr h

      saws : (j x : ℕ) → (0 < total (is_saw x) (notes_of j v.notes)) ⊎ InTurn (parts x) → (0 < total (is_saw x) (notes_of j u.notes)) ⊎ InTurn (parts x)
      saws j x (inl h) = a.saw j x h
      saws j x (inr h) = inr h

  -- these notes more
  adds_notes : (v w : View C) (ns : List (Noted C)) → w.kept ≡ v.kept → w.notes ≡ ns ++ v.notes → ((j x : ℕ) → 0 < total (is_saw x) (notes_of j ns) → InTurn (parts x)) → Adds v w
  adds_notes v w ns kept notes fit = record {
    grows = notes_grow v w ns notes;
    stored = λ x n even h. inl (subst (λ (l : List Kept). 0 < total (is_stored x n) l) kept h);
    saw = λ j x h. (
        let a = ap (λ l. total (is_saw x) (notes_of j l)) notes in let b = ap (total (is_saw x)) (notes_append j ns v.notes) in let c = total_append (is_saw x) (notes_of j ns) (notes_of j v.notes) in
        dite (ℕ_discrete (total (is_saw x) (notes_of j ns)) 0) (λ z. inl (omega (arith, a, b, c, z, h))) (λ z. inr (fit j x (omega (arith, z))))
        );
  }

  -- other tokens alone
  pub adds_none : (v w : View C) → w.kept ≡ v.kept → w.notes ≡ v.notes → Adds v w
  adds_none v w kept notes = adds_notes v w [] kept notes (λ j x h. absurd (omega (arith, h)))

  one_saw : (b : Bool) (n : Note C) (x : ℕ) → 0 < total (is_saw x) (cond b (n ∷ []) []) → 0 < is_saw x n
  one_saw true n x h = omega (arith, h)
  one_saw false n x h = absurd (omega (arith, h))

  -- a note more that is of no word
  pub adds_note : (i : ℕ) (n : Note C) (v : View C) → ((x : ℕ) → is_saw x n ≡ 0) → Adds v (with_note i n v)
  adds_note i n v silent = adds_notes v (with_note i n v) (one i n) refl refl (λ j x h. absurd (let a = one_saw (i == j) n x h in let b = silent x in omega (arith, a, b)))

  -- and one of a word
  pub adds_saw : (i word : ℕ) (v : View C) → InTurn (parts word) → Adds v (with_note i (Saw word) v)
  adds_saw i word v turn = adds_notes v (with_note i (Saw word) v) (one i (Saw word)) refl refl (λ j x h. dite (ℕ_discrete word x) (λ e. subst (λ (y : ℕ). InTurn (parts y)) e turn) (λ n. absurd (let a = one_saw (i == j) (Saw word) x h in let b = only-else x word n in omega (arith, a, b))))

  pub adds_either : (b : Bool) (v x y : View C) → Adds v x → Adds v y → Adds v (cond b x y)
  adds_either true v x y a b = a
  adds_either false v x y a b = b

  -- a word that is stored: where it is an operation's id, it was made
  pub adds_stored : (x n : ℕ) (v : View C) → (x % 2 ≡ 0 → 0 < total (is_made (id_first n)) (notes_of (id_slot n) v.notes)) → Adds v (with_kept x true n v)
  adds_stored x n v made = record { grows = λ j g. omega arith; stored = λ y m even h. by y m even h; saw = λ j y h. inl h }
    where
      by : (y m : ℕ) → y % 2 ≡ 0 → 0 < pair y m x n + total (is_stored y m) v.kept → (0 < total (is_stored y m) v.kept) ⊎ (0 < total (is_made (id_first m)) (notes_of (id_slot m) v.notes))
      by y m even h = dite (ℕ_discrete x y)
          (λ e. dite (ℕ_discrete n m)
          (λ f. inr (subst (λ (k : ℕ). 0 < total (is_made (id_first k)) (notes_of (id_slot k) v.notes)) f (made (omega (arith, e, even)))))
          (λ ne. inl (let a = pair-else y m x n ne in omega (arith, a, h))))
          (λ ne. inl (let a = pair-else_first y m x n ne in omega (arith, a, h)))

  pub adds_found : (x n : ℕ) (v : View C) → Adds v (found_view x n v)
  adds_found x n v = adds_either (n == 0) v v (with_kept x false n v) (adds_none v v refl refl) record { grows = λ j g. omega arith; stored = λ y m even h. inl (omega (arith, h)); saw = λ j y h. inl h }

  -- so it stays known
  pub adds_later : (vs : List (View C)) (id : ℕ) (v w : View C) → get_elem? vs id ≡ some v → Adds v w → Known vs → Known (set vs id w)
  adds_later vs id v w here a k = record { named = λ x n even h. names x n even h; in_turn = λ i x h. turns i x h }
    where
      there : get_elem? (set vs id w) id ≡ some w
      there = set_here vs id w (at_length vs id v here)

      names : (x n : ℕ) → x % 2 ≡ 0 → 0 < total (is_stored x n) (flat_map kept_in (set vs id w)) → 0 < total (is_made (id_first n)) (flat_map (notes_in (id_slot n)) (set vs id w))
      names x n even h = dite (ℕ_discrete (total (is_stored x n) w.kept) 0) (λ z. old (omega (arith, sf, sf', h, z, sums))) (λ nz. by (a.stored x n even (omega (arith, nz))))
        where
          sf : total (is_stored x n) (flat_map kept_in vs) ≡ total (λ (y : View C). total (is_stored x n) (kept_in y)) vs
          sf = total_flat kept_in (is_stored x n) vs

          sf' : total (is_stored x n) (flat_map kept_in (set vs id w)) ≡ total (λ (y : View C). total (is_stored x n) (kept_in y)) (set vs id w)
          sf' = total_flat kept_in (is_stored x n) (set vs id w)

          sums : total (λ (y : View C). total (is_stored x n) (kept_in y)) (set vs id w) + total (is_stored x n) v.kept ≡ total (λ (y : View C). total (is_stored x n) (kept_in y)) vs + total (is_stored x n) w.kept
          sums = total_set (λ (y : View C). total (is_stored x n) (kept_in y)) vs id v w here

          old : 0 < total (is_stored x n) (flat_map kept_in vs) → 0 < total (is_made (id_first n)) (flat_map (notes_in (id_slot n)) (set vs id w))
          old some_ =
              let m = k.named x n even some_ in let b = total_flat (notes_in (id_slot n)) (is_made (id_first n)) vs in let c = total_flat (notes_in (id_slot n)) (is_made (id_first n)) (set vs id w) in
              let d = total_set (λ (y : View C). total (is_made (id_first n)) (notes_in (id_slot n) y)) vs id v w here in let e = a.grows (id_slot n) (is_made (id_first n)) in omega (arith, m, b, c, d, e)

          by : (0 < total (is_stored x n) v.kept) ⊎ (0 < total (is_made (id_first n)) (notes_of (id_slot n) w.notes)) → 0 < total (is_made (id_first n)) (flat_map (notes_in (id_slot n)) (set vs id w))
          by (inl had) = old (let b = term (λ (y : View C). total (is_stored x n) (kept_in y)) vs id v here in omega (arith, b, sf, had))
          by (inr made) = let b = term (λ (y : View C). total (is_made (id_first n)) (notes_in (id_slot n) y)) (set vs id w) id w there in let c = total_flat (notes_in (id_slot n)) (is_made (id_first n)) (set vs id w) in omega (arith, b, c, made)

      turns : (i x : ℕ) → 0 < total (is_saw x) (flat_map (notes_in i) (set vs id w)) → InTurn (parts x)
      turns i x h = dite (ℕ_discrete (total (is_saw x) (notes_of i w.notes)) 0) (λ z. k.in_turn i x (omega (arith, sf, sf', sums, h, z))) (λ nz. by (a.saw i x (omega (arith, nz))))
        where
          sf : total (is_saw x) (flat_map (notes_in i) vs) ≡ total (λ (y : View C). total (is_saw x) (notes_in i y)) vs
          sf = total_flat (notes_in i) (is_saw x) vs

          sf' : total (is_saw x) (flat_map (notes_in i) (set vs id w)) ≡ total (λ (y : View C). total (is_saw x) (notes_in i y)) (set vs id w)
          sf' = total_flat (notes_in i) (is_saw x) (set vs id w)

          sums : total (λ (y : View C). total (is_saw x) (notes_in i y)) (set vs id w) + total (is_saw x) (notes_of i v.notes) ≡ total (λ (y : View C). total (is_saw x) (notes_in i y)) vs + total (is_saw x) (notes_of i w.notes)
          sums = total_set (λ (y : View C). total (is_saw x) (notes_in i y)) vs id v w here

          by : (0 < total (is_saw x) (notes_of i v.notes)) ⊎ InTurn (parts x) → InTurn (parts x)
          by (inl had) = k.in_turn i x (let b = term (λ (y : View C). total (is_saw x) (notes_in i y)) vs id v here in omega (arith, b, sf, had))
          by (inr turn) = turn
