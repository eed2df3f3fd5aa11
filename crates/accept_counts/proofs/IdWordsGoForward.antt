-- A step aside leaves made what was made: an id word only goes forward.
use Rattle.std.proofs.Common.{◌≡◌, ◌≢◌, ℕ, ◌+◌, ◌<◌, ◌≤◌, inl, inr, ⊎_elim, Bool, true, false, cond, eqb, eqb-true, eq-eqb, List, [], length, set, get_or, get_or-set_same, get_or-set_other, refl, sym, ap, ◌∙◌, subst, arith}
use mathlib.Core.Logic.{dite}
use native.Mathlib.Decide.{ℕ_discrete}
use mathlib.Core.Option.{Option, some, some-injective}
use lib.ListN.{get_elem?}
use Rattle.sock_words.specs.declared.plain.Plan.{Plan}
use Rattle.corr_core.specs.IdSlotWord.{Parts, parts, made_word, locked_word, posted_word, unlocked_word, free_word}
use Rattle.corr_core.specs.declared.marks.Plan.{Plan as IdPlan}
use Rattle.corr_core.specs.declared.marks.Hand.TheVariants.{Full}
use Rattle.corr_core.specs.declared.marks.Token.TheVariants.{Claimed}
use Rattle.seat_programs.specs.id_rule.specs.LawfulIdTable.{local, id_index, tag_index, call_index, at_index, all_words}
use Rattle.seat_programs.specs.id_rule.specs.IdPlays.{Longer}
use Rattle.seat_programs.specs.id_rule.proofs.AllowedIdSteps as allowed
use Rattle.call_causes.specs.Below.id_runs.specs.HeldIdTokens.{IdView, id_state, HasOne, MayId}
use Rattle.call_causes.specs.Below.id_runs.specs.Goes.{SoundIds, FindsId}
use Rattle.call_causes.specs.Below.id_runs.proofs.AsidesKeepingIdRule.{parts_packed}
use Rattle.sock_message.specs.Asked.{Asked}
use Rattle.seat_programs.specs.Asides.{Step, Found, ClaimId, MakeId, StoreCall, StoreAt, LockId, PostId, UnlockId, EndId, FreeId, TakeBytes, Taking, Bytes}
use Rattle.seat_programs.specs.FoundAndChangedAside.{found_in, calls_after}
use Rattle.seat_programs.specs.Cores.{Core}
use Rattle.seat_programs.specs.PostPrograms.{packed}
use Rattle.label_runs.specs.AttemptLabelsLeft.{FindsLabel}
use Rattle.accept_counts.specs.AttemptCounts.{word_of_id, WasMade, WasNow}
use Rattle.call_causes.specs.Below.owing_ticks.proofs.IdFacts.{claimed_free}
use Rattle.call_causes.specs.Below.call_owing.proofs.OneIdWordChanges.{Forward}
use Rattle.sock_words.specs.PackedWords.{call_id, id_slot, id_first, bit}

abbrev pub AnyCall : Asked → Type 0
AnyCall asked = Unit {0}

same_forward : (w w' : Parts) → w' ≡ w → Forward w w'
same_forward w w' e = inr (ap (λ (x : Parts). x.first) e, λ some_. (subst (λ (x : Parts). 0 < x.state) (sym e) some_, (let z : w'.attempt ≡ w.attempt = ap (λ (x : Parts). x.attempt) e in omega (arith, z))))

-- what was made stays so, where each id word goes forward
pub made_on : (q : IdPlan) (ws ws' : List ℕ) → ((j : ℕ) → j < q.slots → Forward (word_of_id ws j) (word_of_id ws' j)) → (id n : ℕ) → WasMade q ws id n → WasMade q ws' id n
made_on q ws ws' forward id n (low, inl ended) = (low, ⊎_elim (λ f. inl (omega (arith, ended, f))) (λ f. let z = f.0 in inl (omega (arith, ended, z))) (forward (id_slot id) low))
made_on q ws ws' forward id n (low, inr at) = (low, ⊎_elim (λ f. let z = at.0 in inl (omega (arith, z, f))) (λ f. let y = f.1 at.1 in let more = y.1 in let few = at.2 in inr (f.0 ∙ at.0, y.0, omega (arith, more, few))) (forward (id_slot id) low))

pub small_first : (b : Bool) (x y : ℕ) → x < 32768 → y < 32768 → cond b x y < 32768
small_first true x y a b = a
small_first false x y a b = b

pub state_fits : (b : Bool) → cond b 1 2 < 4
state_fits true = omega arith
state_fits false = omega arith

state_some : (b : Bool) → 0 < cond b 1 2
state_some true = omega arith
state_some false = omega arith

-- the words after posts and locks
posted_forward : (from e : ℕ) → e < 32768 → Forward (parts from) (parts (packed (posted_word (parts from) e)))
posted_forward from e small = by (eqb (parts from).state 1)
  where
    by : (b : Bool) → Forward (parts from) (parts (packed (cond b (locked_word (parts from)) record { first = (parts from).first; state = 2; range = (parts from).range; attempt = (parts from).attempt; oldest = cond (eqb (parts from).oldest 0) e (parts from).oldest; second = cond (eqb (parts from).oldest 0) 0 e })))
    by true = let is = parts_packed (locked_word (parts from)) (omega arith) (omega arith) (omega arith) (omega arith) (omega arith) (omega arith) in
        inr (ap (λ (w : Parts). w.first) is, λ some_. ((let z : (parts (packed (locked_word (parts from)))).state ≡ 2 = ap (λ (w : Parts). w.state) is in omega (arith, z)), (let z : (parts (packed (locked_word (parts from)))).attempt ≡ (parts from).attempt = ap (λ (w : Parts). w.attempt) is in omega (arith, z))))
    by false = let w : Parts = record { first = (parts from).first; state = 2; range = (parts from).range; attempt = (parts from).attempt; oldest = cond (eqb (parts from).oldest 0) e (parts from).oldest; second = cond (eqb (parts from).oldest 0) 0 e } in
        let is : parts (packed w) ≡ w = parts_packed w (omega arith) (omega arith) (omega arith) (omega arith) (small_first (eqb (parts from).oldest 0) e (parts from).oldest small (omega arith)) (small_first (eqb (parts from).oldest 0) 0 e (omega arith) small) in
        inr (ap (λ (x : Parts). x.first) is, λ some_. ((let z : (parts (packed w)).state ≡ 2 = ap (λ (x : Parts). x.state) is in omega (arith, z)), (let z : (parts (packed w)).attempt ≡ (parts from).attempt = ap (λ (x : Parts). x.attempt) is in omega (arith, z))))

pub unlocked_is : (from : ℕ) (advance : Bool) → (parts from).attempt + bit advance ≤ 6 → parts (packed (unlocked_word (parts from) (bit advance))) ≡ unlocked_word (parts from) (bit advance)
unlocked_is from advance few = parts_packed (unlocked_word (parts from) (bit advance)) (state_fits (eqb (parts from).oldest 0)) (omega arith) (omega arith) (omega (arith, few)) (omega arith) (omega arith)

unlocked_forward : (from : ℕ) (advance : Bool) → (parts from).attempt + bit advance ≤ 6 → Forward (parts from) (parts (packed (unlocked_word (parts from) (bit advance))))
unlocked_forward from advance few = let is = unlocked_is from advance few in let some_more = state_some (eqb (parts from).oldest 0) in
    inr (ap (λ (w : Parts). w.first) is, λ some_. (subst (λ (w : Parts). 0 < w.state) (sym is) some_more, subst (λ (w : Parts). (parts from).attempt ≤ w.attempt) (sym is) (omega arith)))

ended_forward : (found : ℕ) → Forward (parts found) (parts (packed (free_word ((parts found).first + (parts found).range))))
ended_forward found = let is = parts_packed (free_word ((parts found).first + (parts found).range)) (omega arith) (omega arith) (omega arith) (omega arith) (omega arith) (omega arith) in
    inl (subst (λ (w : Parts). (parts found).first < w.first) (sym is) (omega arith))

made_is : (first range : ℕ) → 2 ≤ range → range ≤ 8 → parts (packed (made_word first range)) ≡ made_word first range
made_is first range low high = parts_packed (made_word first range) (omega arith) (omega (arith, low)) high (omega arith) (omega arith) (omega arith)

made_forward : (found range : ℕ) → 2 ≤ range → range ≤ 8 → (parts found).state ≡ 0 → Forward (parts found) (parts (packed (made_word (parts found).first range)))
made_forward found range low high free = inr (ap (λ (w : Parts). w.first) (made_is (parts found).first range low high), λ some_. absurd (omega (arith, free, some_)))

module _ (p : Plan) (q : IdPlan) (c : Core) (us : List IdView) (ids : SoundIds p q c us) (i : ℕ) (u : IdView) (at : get_elem? us i ≡ some u) where
  abbrev Word : ℕ → ℕ
  Word s = get_or c.calls.words (id_index s) 0

  real : 0 < u.share
  real = ids.real i u at

  free_there : (s : ℕ) → s < q.slots → (seen : ℕ) (x : Asked) → HasOne s (Claimed seen (Full x)) u → (parts (Word s)).state ≡ 0
  free_there s inside seen x has = claimed_free (ids.rule.slots s inside).b (local (id_state c.calls us) s) seen (Full x) (ids.rule.slots s inside).stands
      (allowed.own q i (u, []) s inside real (id_state c.calls us) ids.rule at (Claimed seen (Full x)) has)

  -- what an unlocking relies on
  pub finds_label : (step : Step) (found : Found step) → MayId p q u step → FindsId p q u step found → FindsLabel AnyCall step found
  finds_label (UnlockId s from advance) found may f = let m = may.1 in let rg : ℕ = m.1 in let has = m.6 in let longer : Longer m.0 m.1 m.2 m.3 m.4 (parts from) = m.7 in let room = m.8 in
      let r = allowed.known q i (u, []) s may.0 real (id_state c.calls us) ids.rule at m.0 m.1 m.2 m.3 m.4 m.5 has in let low = r.live.low in (
        omega (arith, low, r.first_is, longer.first_is),
        (let high : (parts from).range ≤ 8 = omega arith in omega (arith, room, high, longer.range_is, longer.attempt_is)),
        λ _. let l = f m.0 m.1 m.2 m.3 m.4 m.5 has in (sym l.first_is ∙ longer.first_is, sym l.attempt_is ∙ longer.attempt_is),
      )
  finds_label _ found may f = tt

  -- ## Words

  sized : length c.calls.words ≡ all_words q
  sized = ids.rule.sized

  -- another word than an id's changes
  other_word : (x w j : ℕ) → id_index j ≢ x → Forward (word_of_id c.calls.words j) (word_of_id (set c.calls.words x w) j)
  other_word x w j ne = same_forward (word_of_id c.calls.words j) (word_of_id (set c.calls.words x w) j) (ap parts (get_or-set_other c.calls.words x (id_index j) w 0 ne))

  -- one id word becomes this
  one_word : (s w : ℕ) → s < q.slots → Forward (word_of_id c.calls.words s) (parts w) → (j : ℕ) → Forward (word_of_id c.calls.words j) (word_of_id (set c.calls.words (id_index s) w) j)
  one_word s w inside forward j = dite (ℕ_discrete j s)
      (λ e. subst (λ k. Forward (word_of_id c.calls.words k) (word_of_id (set c.calls.words (id_index s) w) k)) (sym e)
      (subst (λ x. Forward (word_of_id c.calls.words s) (parts x)) (sym (get_or-set_same c.calls.words (id_index s) w 0 (omega (arith, sized, inside)))) forward))
      (λ ne. other_word (id_index s) w j (λ e. ne (omega (arith, e))))

  -- an exchange of an id word
  exchanged_word : (s from w : ℕ) → s < q.slots → (Word s ≡ from → Forward (parts from) (parts w)) → (j : ℕ) → Forward (word_of_id c.calls.words j) (word_of_id (set c.calls.words (id_index s) (cond (eqb (Word s) from) w (Word s))) j)
  exchanged_word s from w inside forward j = by (eqb (Word s) from) refl
    where
      by : (b : Bool) → eqb (Word s) from ≡ b → Forward (word_of_id c.calls.words j) (word_of_id (set c.calls.words (id_index s) (cond b w (Word s))) j)
      by true hit = let same : Word s ≡ from = eqb-true (Word s) from hit in one_word s w inside (subst (λ x. Forward (parts x) (parts w)) (sym same) (forward same)) j
      by false miss = one_word s (Word s) inside (same_forward (parts (Word s)) (parts (Word s)) refl) j

  as_found : (s found : ℕ) (P : ℕ → Type 0) → some (Word s) ≡ some found → P (Word s) → P found
  as_found s found P e x = subst P (some-injective (Word s) found e) x

  -- each id word goes forward in a step that the seat may make
  pub words_forward : (step : Step) (t : Option Taking) (found : Found step) → found_in step c.calls t ≡ some found → MayId p q u step → FindsId p q u step found → (j : ℕ) → j < q.slots → Forward (word_of_id c.calls.words j) (word_of_id (calls_after step found c.calls).words j)
  words_forward (ClaimId k) t found is may f j low = other_word (tag_index k) 1 j (λ e. omega (arith, e))
  words_forward (MakeId k range) t found is may f j low = let m = may.1 in
      as_found k found (λ n. Forward (word_of_id c.calls.words j) (word_of_id (set c.calls.words (id_index k) (packed (made_word (parts n).first range))) j)) is
      (one_word k (packed (made_word (parts (Word k)).first range)) may.0 (made_forward (Word k) range may.2 may.3 (free_there k may.0 m.0 m.1 m.2)) j)
  words_forward (StoreCall o id) t found is may f j low = other_word (call_index c.calls.plan o) id j (subst (λ (r : IdPlan). id_index j ≢ call_index r o) (sym ids.plan) (λ e. omega (arith, e, low)))
  words_forward (StoreAt o w) t found is may f j low = other_word (at_index c.calls.plan o) w j (subst (λ (r : IdPlan). id_index j ≢ at_index r o) (sym ids.plan) (λ e. omega (arith, e, low)))
  words_forward (LockId k from) t found is may f j low = as_found k found (λ n. Forward (word_of_id c.calls.words j) (word_of_id (set c.calls.words (id_index k) (cond (eqb n from) (packed (posted_word (parts from) 0)) n)) j)) is
      (exchanged_word k from (packed (posted_word (parts from) 0)) may.0 (λ _. posted_forward from 0 (omega arith)) j)
  words_forward (PostId k from e) t found is may f j low = as_found k found (λ n. Forward (word_of_id c.calls.words j) (word_of_id (set c.calls.words (id_index k) (cond (eqb n from) (packed (posted_word (parts from) e)) n)) j)) is
      (exchanged_word k from (packed (posted_word (parts from) e)) may.0 (λ _. posted_forward from e may.3) j)
  words_forward (UnlockId k from advance) t found is may f j low = let l = finds_label (UnlockId k from advance) found may f in as_found k found
      (λ n. Forward (word_of_id c.calls.words j) (word_of_id (set c.calls.words (id_index k) (cond (eqb n from) (packed (unlocked_word (parts from) (bit advance))) n)) j)) is
      (exchanged_word k from (packed (unlocked_word (parts from) (bit advance))) may.0 (λ _. unlocked_forward from advance l.1) j)
  words_forward (EndId k) t found is may f j low = as_found k found (λ n. Forward (word_of_id c.calls.words j) (word_of_id (set c.calls.words (id_index k) (packed (free_word ((parts n).first + (parts n).range)))) j)) is
      (one_word k (packed (free_word ((parts (Word k)).first + (parts (Word k)).range))) may.0 (ended_forward (Word k)) j)
  words_forward (FreeId k) t found is may f j low = other_word (tag_index k) 0 j (λ e. omega (arith, e))
  words_forward (TakeBytes k room) t (Bytes bytes) is may f j low = same_forward (word_of_id c.calls.words j) (word_of_id c.calls.words j) refl
  words_forward (TakeBytes k room) t _ is may f j low = same_forward (word_of_id c.calls.words j) (word_of_id c.calls.words j) refl
  words_forward _ t found is may f j low = same_forward (word_of_id c.calls.words j) (word_of_id c.calls.words j) refl

  -- ## What is made by a step

  -- a new range begins with attempt 0, and none of it was made before
  pub makes_new : (k range found : ℕ) → some (Word k) ≡ some found → MayId p q u (MakeId k range) → FindsId p q u (MakeId k range) found
      → WasNow q (calls_after (MakeId k range) found c.calls).words (call_id k (parts found).first) 0 × ((m : ℕ) → WasMade q c.calls.words (call_id k (parts found).first) m → ⊥)
  makes_new k range found is may f = by found (some-injective (Word k) found is) f.1
    where
      by : (found : ℕ) → Word k ≡ found → (parts found).first ≤ 67108856
          → WasNow q (set c.calls.words (id_index k) (packed (made_word (parts found).first range))) (call_id k (parts found).first) 0 × ((m : ℕ) → WasMade q c.calls.words (call_id k (parts found).first) m → ⊥)
      by found e small = let id : ℕ = call_id k (parts found).first in let slot : id_slot (call_id k (parts found).first) ≡ k = omega (arith, small) in let first : id_first (call_id k (parts found).first) ≡ (parts found).first = omega (arith, small) in
          let inside : k < q.slots = may.0 in let new_word : parts (get_or (set c.calls.words (id_index k) (packed (made_word (parts found).first range))) (id_index k) 0) ≡ made_word (parts found).first range
          = ap parts (get_or-set_same c.calls.words (id_index k) (packed (made_word (parts found).first range)) 0 (omega (arith, sized, inside))) ∙ made_is (parts found).first range may.2 may.3 in (
            (
              subst (λ x. x < q.slots) (sym slot) inside,
              (subst (λ x. ((word_of_id (set c.calls.words (id_index k) (packed (made_word (parts found).first range))) x).first ≡ id_first (call_id k (parts found).first))
                  × (0 < (word_of_id (set c.calls.words (id_index k) (packed (made_word (parts found).first range))) x).state) × (0 ≤ (word_of_id (set c.calls.words (id_index k) (packed (made_word (parts found).first range))) x).attempt)) (sym slot)
                  (ap (λ (w : Parts). w.first) new_word ∙ sym first, subst (λ (w : Parts). 0 < w.state) (sym new_word) (omega arith), omega arith)),
            ),
            λ m was. let free = free_there k inside may.1.0 may.1.1 may.1.2 in let here : word_of_id c.calls.words (id_slot (call_id k (parts found).first)) ≡ parts (Word k) = ap (word_of_id c.calls.words) slot in
                let one : (word_of_id c.calls.words (id_slot (call_id k (parts found).first))).first ≡ (parts found).first = ap (λ (w : Parts). w.first) here ∙ ap (λ n. (parts n).first) e in
                let two : (word_of_id c.calls.words (id_slot (call_id k (parts found).first))).state ≡ 0 = ap (λ (w : Parts). w.state) here ∙ free in
                ⊎_elim (λ x. omega (arith, x, one, first)) (λ x. let some_ = x.1 in omega (arith, some_, two)) was.1,
          )

  -- an advance makes the next attempt, and it wasn't made before
  pub advances_new : (k from found : ℕ) → some (Word k) ≡ some found → found ≡ from → MayId p q u (UnlockId k from true) → FindsLabel AnyCall (UnlockId k from true) found
      → WasNow q (calls_after (UnlockId k from true) found c.calls).words (call_id k (parts from).first) ((parts from).attempt + 1) × (WasMade q c.calls.words (call_id k (parts from).first) ((parts from).attempt + 1) → ⊥)
  advances_new k from found is same may l = by (sym (some-injective (Word k) found is ∙ same)) found same
    where
      by : from ≡ Word k → (found : ℕ) → found ≡ from → WasNow q (set c.calls.words (id_index k) (cond (eqb found from) (packed (unlocked_word (parts from) 1)) found)) (call_id k (parts from).first) ((parts from).attempt + 1)
          × (WasMade q c.calls.words (call_id k (parts from).first) ((parts from).attempt + 1) → ⊥)
      by e found same = let low = l.0 in let few = l.1 in let inside : k < q.slots = may.0 in
          let slot : id_slot (call_id k (parts from).first) ≡ k = omega (arith, low) in let first : id_first (call_id k (parts from).first) ≡ (parts from).first = omega (arith, low) in
          let ws : List ℕ = set c.calls.words (id_index k) (cond (eqb found from) (packed (unlocked_word (parts from) 1)) found) in
          let new_word : parts (get_or (set c.calls.words (id_index k) (cond (eqb found from) (packed (unlocked_word (parts from) 1)) found)) (id_index k) 0) ≡ unlocked_word (parts from) 1
          = ap parts (get_or-set_same c.calls.words (id_index k) (cond (eqb found from) (packed (unlocked_word (parts from) 1)) found) 0 (omega (arith, sized, inside)) ∙ ap (λ b. cond b (packed (unlocked_word (parts from) 1)) found) (eq-eqb found from same)) ∙ unlocked_is from true few in
          let some_more = state_some (eqb (parts from).oldest 0) in (
            (
              subst (λ x. x < q.slots) (sym slot) inside,
              (subst (λ x. ((word_of_id (set c.calls.words (id_index k) (cond (eqb found from) (packed (unlocked_word (parts from) 1)) found)) x).first ≡ id_first (call_id k (parts from).first))
                  × (0 < (word_of_id (set c.calls.words (id_index k) (cond (eqb found from) (packed (unlocked_word (parts from) 1)) found)) x).state) × ((parts from).attempt + 1 ≤ (word_of_id (set c.calls.words (id_index k) (cond (eqb found from) (packed (unlocked_word (parts from) 1)) found)) x).attempt)) (sym slot)
                  (ap (λ (w : Parts). w.first) new_word ∙ sym first, subst (λ (w : Parts). 0 < w.state) (sym new_word) some_more, subst (λ (w : Parts). (parts from).attempt + 1 ≤ w.attempt) (sym new_word) (omega arith))),
            ),
            λ was. let here : word_of_id c.calls.words (id_slot (call_id k (parts from).first)) ≡ parts from = ap (word_of_id c.calls.words) slot ∙ ap parts (sym e) in
                let one : (word_of_id c.calls.words (id_slot (call_id k (parts from).first))).first ≡ (parts from).first = ap (λ (w : Parts). w.first) here in
                let two : (word_of_id c.calls.words (id_slot (call_id k (parts from).first))).attempt ≡ (parts from).attempt = ap (λ (w : Parts). w.attempt) here in
                ⊎_elim (λ x. omega (arith, x, one, first)) (λ x. let more = x.2 in omega (arith, more, two)) was.1,
          )
