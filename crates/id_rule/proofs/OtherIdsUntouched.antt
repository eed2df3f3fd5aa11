-- A step on one slot leaves the law of every other slot.
use Rattle.std.proofs.Common.{◌≡◌, ◌≢◌, ℕ, ◌*◌, ◌<◌, ◌≤◌, ⊎_elim, cond, eqb, eq-eqb, ne_eqb, List, [], ◌∷◌, length, get_or, set, length-set, get_or-set_same, get_or-set_other, sym, refl, ap, ◌∙◌, subst, arith}
use Rattle.std.specs.Prelude.{Option as Maybe}
use Rattle.std.specs.List.{flat_map}
use mathlib.Core.Logic.{dite}
use mathlib.Core.Option.{Option, some}
use native.Mathlib.Decide.{ℕ_discrete}
use lib.ListN.{get_elem?}
use Rattle.atomic_table.specs.Table.{State}
use Rattle.atomic_table.proofs.Lists.{at_set}
use Rattle.corr_core.specs.IdSlotWord.{parts}
use Rattle.corr_core.specs.IdSlotLaw.{Each, Local, SlotLaw, vacant, retired, claimed, opened, locked, leaving}
use Rattle.corr_core.specs.declared.marks.Plan.{Plan}
use Rattle.corr_core.specs.declared.marks.Token.{Token}
use Rattle.corr_core.specs.declared.marks.Note.{Note}
use Rattle.corr_core.specs.declared.marks.Held.{Held}
use Rattle.corr_core.specs.declared.marks.Kept.{Kept}
use Rattle.corr_core.specs.declared.marks.View.{View}
use Rattle.corr_core.proofs.NoteSums.{Inserted, each_map, gather_more, total_set}
use Rattle.corr_core.proofs.Gather.{gather_all, gather_none, gather_own, gather_same}
use Rattle.corr_core.specs.IdTableLayout.{tag_index, id_index}
use Rattle.id_rule.specs.LawfulIdTable.{KeptFits, kept_in, is_stored, tokens_of, notes_of, tokens_in, notes_in, share_of, local, Lawful, without, with_token, no_token, with_note}
use Rattle.sock_words.specs.Totals.{total}

module _ {C : Type 0} where
  without_here : (i : ℕ) (hs : List (Held C)) → tokens_of i (without i hs) ≡ []
  without_here i [] = refl
  without_here i (h ∷ hs) = dite (ℕ_discrete h.slot i)
      (λ e. ap (λ b. tokens_of i (cond b (without i hs) (h ∷ without i hs))) (eq-eqb h.slot i e) ∙ without_here i hs)
      (λ n. ap (λ b. tokens_of i (cond b (without i hs) (h ∷ without i hs))) (ne_eqb h.slot i n) ∙ (ap (λ b. cond b (h.token ∷ tokens_of i (without i hs)) (tokens_of i (without i hs))) (ne_eqb h.slot i n) ∙ without_here i hs))

  without_else : (i j : ℕ) (hs : List (Held C)) → j ≢ i → tokens_of j (without i hs) ≡ tokens_of j hs
  without_else i j [] ne = refl
  without_else i j (h ∷ hs) ne = let r = without_else i j hs ne in dite (ℕ_discrete h.slot i)
      (λ e. ap (λ b. tokens_of j (cond b (without i hs) (h ∷ without i hs))) (eq-eqb h.slot i e) ∙ (r ∙ sym (ap (λ b. cond b (h.token ∷ tokens_of j hs) (tokens_of j hs)) (ne_eqb h.slot j (λ q. ne (sym q ∙ e))))))
      (λ n. ap (λ b. tokens_of j (cond b (without i hs) (h ∷ without i hs))) (ne_eqb h.slot i n) ∙ ap (λ l. cond (eqb h.slot j) (h.token ∷ l) l) r)

  -- the view w is v but for slot i
  pub record Aside (i : ℕ) (v w : View C) : Type 0 where
    pub tokens : (j : ℕ) → j ≢ i → tokens_in j w ≡ tokens_in j v
    pub notes : (j : ℕ) → j ≢ i → notes_in j w ≡ notes_in j v
    pub kept : w.kept ≡ v.kept
    pub share : w.share ≡ v.share

  pub token_here : (i : ℕ) (t : Token C) (v : View C) → tokens_in i (with_token i t v) ≡ t ∷ []
  token_here i t v = ap (λ b. cond b (t ∷ tokens_of i (without i v.tokens)) (tokens_of i (without i v.tokens))) (eq-eqb i i refl) ∙ ap (λ l. t ∷ l) (without_here i v.tokens)

  pub drop_here : (i : ℕ) (v : View C) → tokens_in i (no_token i v) ≡ []
  drop_here i v = without_here i v.tokens

  pub note_here : (i : ℕ) (n : Note C) (v : View C) → notes_in i (with_note i n v) ≡ n ∷ notes_in i v
  note_here i n v = ap (λ b. cond b (n ∷ notes_of i v.notes) (notes_of i v.notes)) (eq-eqb i i refl)

  pub aside_token : (i : ℕ) (t : Token C) (v : View C) → Aside i v (with_token i t v)
  aside_token i t v = record {
    tokens = λ j ne. ap (λ b. cond b (t ∷ tokens_of j (without i v.tokens)) (tokens_of j (without i v.tokens))) (ne_eqb i j (λ q. ne (sym q))) ∙ without_else i j v.tokens ne;
    notes = λ j ne. refl;
    kept = refl;
    share = refl;
  }

  pub aside_drop : (i : ℕ) (v : View C) → Aside i v (no_token i v)
  aside_drop i v = record { tokens = λ j ne. without_else i j v.tokens ne; notes = λ j ne. refl; kept = refl; share = refl }

  pub aside_note : (i : ℕ) (n : Note C) (v : View C) → Aside i v (with_note i n v)
  aside_note i n v = record { tokens = λ j ne. refl; notes = λ j ne. ap (λ b. cond b (n ∷ notes_of j v.notes) (notes_of j v.notes)) (ne_eqb i j (λ q. ne (sym q))); kept = refl; share = refl }

  pub aside_both : (i : ℕ) (u v w : View C) → Aside i u v → Aside i v w → Aside i u w
  aside_both i u v w a b = record { tokens = λ j ne. b.tokens j ne ∙ a.tokens j ne; notes = λ j ne. b.notes j ne ∙ a.notes j ne; kept = b.kept ∙ a.kept; share = b.share ∙ a.share }

  few_stands : (l : Local C) (o : SlotLaw l) → length l.tokens ≤ 1
  few_stands l o = elim o.stands [
    | vacant t g s u h ↦ (let e = ap length t in omega arith)
    | retired t g s u h ↦ (let e = ap length t in omega arith)
    | claimed seen h t g s u k q ↦ (let e = ap length t in omega arith)
    | opened c t s v p q h ↦ (let e = ap length t in omega arith)
    | locked c p q h t s v z y k ↦ (let e = ap length t in omega arith)
    | leaving t g s u h ↦ (let e = ap length t in omega arith)
  ]

  module _ (p : Plan) (s : State (Maybe C) (View C)) (law : Lawful p s) (id : ℕ) (v : View C) (here : get_elem? s.views id ≡ some v) (real : 0 < v.share) (i : ℕ) (inside : i < p.slots) where
    pub few : length (flat_map (tokens_in i) s.views) ≤ 1
    few = few_stands (local s i) (law.slots i inside)

    -- a seat that has the token of a slot is the only one
    pub mine : (t : Token C) → tokens_in i v ≡ t ∷ [] → flat_map (tokens_in i) s.views ≡ t ∷ []
    mine t has = let e = ap length has in let f = few in gather_all (tokens_in i) s.views id v here (omega arith) ∙ has

    -- the tokens once the seat's are others, where it has all or there are none
    pub own_tokens : (w : View C) (t : Token C) → tokens_in i v ≡ t ∷ [] → flat_map (tokens_in i) (set s.views id w) ≡ tokens_in i w
    own_tokens w t has = gather_own (tokens_in i) s.views id v w here (mine t has ∙ sym has)

    pub first_tokens : (w : View C) → flat_map (tokens_in i) s.views ≡ [] → flat_map (tokens_in i) (set s.views id w) ≡ tokens_in i w
    first_tokens w none_yet = gather_own (tokens_in i) s.views id v w here (none_yet ∙ sym (gather_none (tokens_in i) s.views id v here none_yet))

    pub same_tokens : (w : View C) → tokens_in i w ≡ tokens_in i v → flat_map (tokens_in i) (set s.views id w) ≡ flat_map (tokens_in i) s.views
    same_tokens w e = gather_same (tokens_in i) s.views id v w here e

    pub same_notes : (w : View C) → notes_in i w ≡ notes_in i v → flat_map (notes_in i) (set s.views id w) ≡ flat_map (notes_in i) s.views
    same_notes w e = gather_same (notes_in i) s.views id v w here e

    pub more_notes : (w : View C) (x : Note C) → notes_in i w ≡ x ∷ notes_in i v → Inserted (flat_map (notes_in i) s.views) (flat_map (notes_in i) (set s.views id w)) x
    more_notes w x e = gather_more (notes_in i) s.views id v w x here e

    module _ (w : View C) (a : Aside i v w) (ws' : List ℕ) (hs' : List (Option (Maybe C))) where
      abbrev after : State (Maybe C) (View C)
      after = record { words = ws'; homes = hs'; views = set s.views id w }

      abbrev ks : List Kept
      ks = flat_map kept_in s.views

      same_kept : flat_map kept_in (set s.views id w) ≡ flat_map kept_in s.views
      same_kept = gather_same kept_in s.views id v w here a.kept

      high : ((x : ℕ) → x ≢ tag_index i → x ≢ id_index i → get_or ws' x 0 ≡ get_or s.words x 0) → (x : ℕ) → 2 * p.slots ≤ x → get_or ws' x 0 ≡ get_or s.words x 0
      high words x le = words x (λ q. omega arith) (λ q. omega arith)

      pub frame : length ws' ≡ length s.words → ((x : ℕ) → x ≢ tag_index i → x ≢ id_index i → get_or ws' x 0 ≡ get_or s.words x 0) → ((j : ℕ) → j ≢ i → get_elem? hs' j ≡ get_elem? s.homes j) → SlotLaw (local after i) → Lawful p after
      frame long words homes own = record {
        sized = long ∙ law.sized;
        slots = λ j jl. dite (ℕ_discrete j i)
            (λ e. subst (λ (y : ℕ). SlotLaw (local after y)) (sym e) own)
            (λ ne. let path : local s j ≡ local after j = λ z. record {
              tag = sym (words (tag_index j) (λ q. ne (omega arith)) (λ q. omega arith)) z;
              word = parts (sym (words (id_index j) (λ q. omega arith) (λ q. ne (omega arith))) z);
              home = sym (homes j ne) z;
              tokens = sym (gather_same (tokens_in j) s.views id v w here (a.tokens j ne)) z;
              notes = sym (gather_same (notes_in j) s.views id v w here (a.notes j ne)) z;
            } in subst SlotLaw path (law.slots j jl));
        kept_fits = subst (λ (k : List Kept). Each (KeptFits (2 * p.slots) ws' k) k) (sym same_kept) (each_map (KeptFits (2 * p.slots) s.words ks) (KeptFits (2 * p.slots) ws' ks) ks (λ k h. (h.0, h.1, (λ z. h.2 (sym (high words k.place h.0) ∙ z)), h.3)) law.kept_fits);
        kept_by = λ x le n. let e = high words x le in subst (λ (k : List Kept). 0 < total (is_stored x (get_or ws' x 0)) k) (sym same_kept) (subst (λ (y : ℕ). 0 < total (is_stored x y) ks) (sym e) (law.kept_by x le (λ z. n (e ∙ z))));
        shares = let t = total_set share_of s.views id v w here in let y = a.share in let z = law.shares in omega arith;
        bare = λ j u g none_left. ⊎_elim (λ t. let e = ap share_of t.1 in let y = a.share in absurd (omega arith)) (λ t. law.bare j u t.1 none_left) (at_set s.views id j w u g);
      }

    -- a step on the tag, or on the id word
    module _ (w : View C) (a : Aside i v w) (n : ℕ) (hs' : List (Option (Maybe C))) (homes : (j : ℕ) → j ≢ i → get_elem? hs' j ≡ get_elem? s.homes j) (h' : Option (Option (Maybe C))) (ts : List (Token C)) where
      pub on_tag : get_elem? hs' i ≡ h' → flat_map (tokens_in i) (set s.views id w) ≡ ts
          → SlotLaw record { tag = n; word = (local s i).word; home = h'; tokens = ts; notes = flat_map (notes_in i) (set s.views id w) } → Lawful p record { words = set s.words (tag_index i) n; homes = hs'; views = set s.views id w }
      on_tag home_is tokens_are own = frame w a (set s.words (tag_index i) n) hs' (length-set s.words (tag_index i) n) (λ x ne nq. get_or-set_other s.words (tag_index i) x n 0 ne) homes
          (let path : record { tag = n; word = (local s i).word; home = h'; tokens = ts; notes = flat_map (notes_in i) (set s.views id w) } ≡ local (after w a (set s.words (tag_index i) n) hs') i = λ z. record {
            tag = sym (get_or-set_same s.words (tag_index i) n 0 (let e = law.sized in omega arith)) z;
            word = parts (sym (get_or-set_other s.words (tag_index i) (id_index i) n 0 (λ q. omega arith)) z);
            home = sym home_is z;
            tokens = sym tokens_are z;
            notes = flat_map (notes_in i) (set s.views id w);
          } in subst SlotLaw path own)

      pub on_id : get_elem? hs' i ≡ h' → flat_map (tokens_in i) (set s.views id w) ≡ ts
          → SlotLaw record { tag = (local s i).tag; word = parts n; home = h'; tokens = ts; notes = flat_map (notes_in i) (set s.views id w) } → Lawful p record { words = set s.words (id_index i) n; homes = hs'; views = set s.views id w }
      on_id home_is tokens_are own = frame w a (set s.words (id_index i) n) hs' (length-set s.words (id_index i) n) (λ x ne nq. get_or-set_other s.words (id_index i) x n 0 nq) homes
          (let path : record { tag = (local s i).tag; word = parts n; home = h'; tokens = ts; notes = flat_map (notes_in i) (set s.views id w) } ≡ local (after w a (set s.words (id_index i) n) hs') i = λ z. record {
            tag = sym (get_or-set_other s.words (id_index i) (tag_index i) n 0 (λ q. omega arith)) z;
            word = parts (sym (get_or-set_same s.words (id_index i) n 0 (let e = law.sized in omega arith)) z);
            home = sym home_is z;
            tokens = sym tokens_are z;
            notes = flat_map (notes_in i) (set s.views id w);
          } in subst SlotLaw path own)
