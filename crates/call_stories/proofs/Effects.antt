-- What a step aside makes of the words and homes of the id slots: those of its own slot, and no others.
use Rattle.std.proofs.Common.{◌≡◌, ◌≢◌, ℕ, ◌+◌, ◌*◌, ◌<◌, cond, eqb, List, [], ◌∷◌, length, get_or, set, get_or-set_other, get_or-set_same, Option, None, Some, refl, sym, ap, ◌∙◌, arith}
use mathlib.Core.Option as core
use lib.ListN.{get_elem?}
use Rattle.atomic_table.proofs.Lists.{at_set}
use Rattle.std.proofs.Common.{⊎_elim}
use Rattle.sock_words.specs.declared.plain.Plan.{Plan}
use Rattle.corr_core.specs.IdSlotWord.{parts, made_word, posted_word, unlocked_word, free_word}
use Rattle.corr_core.specs.declared.marks.Plan.{Plan as IdPlan}
use Rattle.seat_programs.specs.id_rule.specs.LawfulIdTable.{tag_index, id_index, call_index, at_index, all_words}
use Rattle.sock_message.specs.Asked.{Asked}
use Rattle.seat_programs.specs.declared.task.Task.{Task}
use Rattle.seat_programs.specs.Asides.{Step, ClaimId, PutCall, MakeId, StoreCall, StoreAt, LockId, PostId, UnlockId, EndId, FreeId, TakeCall, TakeBytes, Bytes, Found}
use Rattle.seat_programs.specs.PostPrograms.{packed}
use Rattle.call_stories.specs.Scenes.{Scene}
use Rattle.call_stories.specs.Says.{Mark}
use Rattle.call_stories.specs.CallStories.{word_at, tag_at, LiesAt, IsBehind}
use Rattle.sock_words.specs.PackedWords.{bit}

-- the slot whose words or home a step changes
abbrev pub Touches : Step → ℕ → Type 0
Touches (ClaimId i) k = i ≡ k
Touches (PutCall i asked) k = i ≡ k
Touches (MakeId i range) k = i ≡ k
Touches (LockId i from) k = i ≡ k
Touches (PostId i from e) k = i ≡ k
Touches (UnlockId i from advance) k = i ≡ k
Touches (EndId i) k = i ≡ k
Touches (FreeId i) k = i ≡ k
Touches (TakeCall i) k = i ≡ k
Touches other k = ⊥

module _ (p : Plan) (q : IdPlan) (clients : List (List Task)) (gives : ℕ → List ℕ) where
  -- slot k has the same words, and the same lies at its home
  pub record SameAt (k : ℕ) (w w' : Scene) : Type 0 where
    pub tag : tag_at w' k ≡ tag_at w k
    pub word : word_at w' k ≡ word_at w k
    pub home : get_elem? w'.core.calls.homes k ≡ get_elem? w.core.calls.homes k

  -- the words of a table, read at a slot
  words_same : (ws : List ℕ) (x v k : ℕ) → x ≢ tag_index k → x ≢ id_index k → (get_or (set ws x v) (tag_index k) 0 ≡ get_or ws (tag_index k) 0) × (parts (get_or (set ws x v) (id_index k) 0) ≡ parts (get_or ws (id_index k) 0))
  words_same ws x v k a b = (get_or-set_other ws x (tag_index k) v 0 (λ e. a (sym e)), ap parts (get_or-set_other ws x (id_index k) v 0 (λ e. b (sym e))))

  home_same : {A : Type 0} (hs : List A) (i k : ℕ) (a : A) → i ≢ k → get_elem? (set hs i a) k ≡ get_elem? hs k
  home_same [] i k a ne = refl
  home_same (h ∷ hs) Rattle.std.proofs.Common.zero Rattle.std.proofs.Common.zero a ne = absurd (ne refl)
  home_same (h ∷ hs) Rattle.std.proofs.Common.zero (Rattle.std.proofs.Common.suc k) a ne = refl
  home_same (h ∷ hs) (Rattle.std.proofs.Common.suc i) Rattle.std.proofs.Common.zero a ne = refl
  home_same (h ∷ hs) (Rattle.std.proofs.Common.suc i) (Rattle.std.proofs.Common.suc k) a ne = home_same hs i k a (λ e. ne (omega (arith, e)))

  module _ (w w' : Scene) (m : Mark) (plan : w.core.calls.plan ≡ q) where
    by_words : (x v k : ℕ) → w'.core.calls.words ≡ set w.core.calls.words x v → w'.core.calls.homes ≡ w.core.calls.homes → x ≢ tag_index k → x ≢ id_index k → SameAt k w w'
    by_words x v k words homes a b = let z = words_same w.core.calls.words x v k a b in record {
      tag = ap (λ ws. get_or ws (tag_index k) 0) words ∙ z.0;
      word = ap (λ ws. parts (get_or ws (id_index k) 0)) words ∙ z.1;
      home = ap (λ hs. get_elem? hs k) homes;
    }

    by_homes : (i k : ℕ) (h : core.Option (Option Asked)) → w'.core.calls.words ≡ w.core.calls.words → w'.core.calls.homes ≡ set w.core.calls.homes i h → i ≢ k → SameAt k w w'
    by_homes i k h words homes ne = record {
      tag = ap (λ ws. get_or ws (tag_index k) 0) words;
      word = ap (λ ws. parts (get_or ws (id_index k) 0)) words;
      home = ap (λ hs. get_elem? hs k) homes ∙ home_same w.core.calls.homes i k h ne;
    }

    by_none : (k : ℕ) → w'.core.calls.words ≡ w.core.calls.words → w'.core.calls.homes ≡ w.core.calls.homes → SameAt k w w'
    by_none k words homes = record {
      tag = ap (λ ws. get_or ws (tag_index k) 0) words;
      word = ap (λ ws. parts (get_or ws (id_index k) 0)) words;
      home = ap (λ hs. get_elem? hs k) homes;
    }

    stored_beside : (k x : ℕ) → k < q.slots → x ≡ 2 * w.core.calls.plan.slots → (o : ℕ) → (x + 2 * o ≢ tag_index k) × (x + 2 * o ≢ id_index k) × (x + 2 * o + 1 ≢ tag_index k) × (x + 2 * o + 1 ≢ id_index k)
    stored_beside k x low is o = let same = ap (λ (r : IdPlan). r.slots) plan in ((λ e. omega (arith, low, is, same, e)), (λ e. omega (arith, low, is, same, e)), (λ e. omega (arith, low, is, same, e)), (λ e. omega (arith, low, is, same, e)))

    -- no other slot changes
    pub beside : (step : Step) (found : Found step) → IsBehind p q clients gives w w' m step found → (k : ℕ) → k < q.slots → (Touches step k → ⊥) → SameAt k w w'
    beside (ClaimId i) found b k low ne = by_words (tag_index i) 1 k b.words b.homes (λ e. ne (omega (arith, e))) (λ e. omega (arith, e))
    beside (PutCall i asked) found b k low ne = by_homes i k (core.some (Some asked)) b.words b.homes ne
    beside (MakeId i range) found b k low ne = by_words (id_index i) (packed (made_word (parts found).first range)) k b.words b.homes (λ e. omega (arith, e)) (λ e. ne (omega (arith, e)))
    beside (StoreCall o id) found b k low ne = let z = stored_beside k (2 * w.core.calls.plan.slots) low refl o in by_words (call_index w.core.calls.plan o) id k b.words b.homes z.0 z.1
    beside (StoreAt o x) found b k low ne = let z = stored_beside k (2 * w.core.calls.plan.slots) low refl o in by_words (at_index w.core.calls.plan o) x k b.words b.homes z.2 z.3
    beside (LockId i from) found b k low ne = by_words (id_index i) (cond (eqb found from) (packed (posted_word (parts from) 0)) found) k b.words b.homes (λ e. omega (arith, e)) (λ e. ne (omega (arith, e)))
    beside (PostId i from e) found b k low ne = by_words (id_index i) (cond (eqb found from) (packed (posted_word (parts from) e)) found) k b.words b.homes (λ e. omega (arith, e)) (λ e. ne (omega (arith, e)))
    beside (UnlockId i from advance) found b k low ne = by_words (id_index i) (cond (eqb found from) (packed (unlocked_word (parts from) (bit advance))) found) k b.words b.homes (λ e. omega (arith, e)) (λ e. ne (omega (arith, e)))
    beside (EndId i) found b k low ne = by_words (id_index i) (packed (free_word ((parts found).first + (parts found).range))) k b.words b.homes (λ e. omega (arith, e)) (λ e. ne (omega (arith, e)))
    beside (FreeId i) found b k low ne = by_words (tag_index i) 0 k b.words b.homes (λ e. ne (omega (arith, e))) (λ e. omega (arith, e))
    beside (TakeCall i) found b k low ne = by_homes i k (core.some None) b.words b.homes ne
    beside (TakeBytes l room) (Bytes bytes) b k low ne = by_none k b.words b.homes
    beside (TakeBytes l room) _ b k low ne = by_none k b.words b.homes
    beside _ found b k low ne = by_none k b.words b.homes

    -- ## At the slot itself

    module _ (i : ℕ) (inside : i < q.slots) (sized : length w.core.calls.words ≡ all_words q) where
      -- the id word becomes this one
      pub word_is : (v : ℕ) → w'.core.calls.words ≡ set w.core.calls.words (id_index i) v → word_at w' i ≡ parts v
      word_is v is = ap (λ ws. parts (get_or ws (id_index i) 0)) is ∙ ap parts (get_or-set_same w.core.calls.words (id_index i) v 0 (omega (arith, sized, inside)))

      pub tag_stays : (v : ℕ) → w'.core.calls.words ≡ set w.core.calls.words (id_index i) v → tag_at w' i ≡ tag_at w i
      tag_stays v is = ap (λ ws. get_or ws (tag_index i) 0) is ∙ get_or-set_other w.core.calls.words (id_index i) (tag_index i) v 0 (λ e. omega (arith, e))

      -- the tag becomes this
      pub tag_is : (v : ℕ) → w'.core.calls.words ≡ set w.core.calls.words (tag_index i) v → tag_at w' i ≡ v
      tag_is v is = ap (λ ws. get_or ws (tag_index i) 0) is ∙ get_or-set_same w.core.calls.words (tag_index i) v 0 (omega (arith, sized, inside))

      pub word_stays : (v : ℕ) → w'.core.calls.words ≡ set w.core.calls.words (tag_index i) v → word_at w' i ≡ word_at w i
      word_stays v is = ap (λ ws. parts (get_or ws (id_index i) 0)) is ∙ ap parts (get_or-set_other w.core.calls.words (tag_index i) (id_index i) v 0 (λ e. omega (arith, e)))

    -- what lies at a home that was filled, or emptied
    pub lies_is : (i : ℕ) (h : core.Option (Option Asked)) (asked : Asked) → w'.core.calls.homes ≡ set w.core.calls.homes i h → LiesAt w' i asked → h ≡ core.some (Some asked)
    lies_is i h asked is lies = ⊎_elim (λ b. b.1) (λ b. absurd (b.0 refl)) (at_set w.core.calls.homes i i h (core.some (Some asked)) (ap (λ hs. get_elem? hs i) (sym is) ∙ lies))
