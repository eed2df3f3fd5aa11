-- What a step on ids changes of a slot: only who has the slot ends or makes its range or moves its call, and every other step leaves the first version, whether a range is there, and the call.
use Rattle.std.proofs.Common.{◌≡◌, ◌≢◌, ℕ, zero, suc, ◌+◌, ◌*◌, ◌<◌, ◌≤◌, ◌⊎◌, inl, inr, ⊎_elim, ◌==◌, Bool, true, false, cond, eq-eqb, ne_eqb, List, [], ◌∷◌, length, length-append, get_or, set, get_or-set_other, get_or-set_same, refl, sym, ap, ◌∙◌, subst, arith}
use Rattle.std.specs.Prelude as std
use Rattle.std.specs.List.{flat_map}
use mathlib.Core.Logic.{dite}
use native.Mathlib.Decide.{ℕ_discrete}
use mathlib.Core.Option.{Option, none, some, some-injective, some-ne-none}
use lib.ListN.{get_elem?}
use Rattle.atomic_table.proofs.Lists.{set_else}
use Rattle.call_owing.specs.Below.chain_steps.proofs.TicketLists.{at_length}
use Rattle.sock_words.specs.declared.plain.Plan.{Plan}
use Rattle.corr_core.specs.IdSlotWord.{Parts, parts, made_word, locked_word, posted_word, unlocked_word, free_word}
use Rattle.corr_core.specs.IdSlotLaw.{Stands, HomeIs, vacant, retired, claimed, opened, locked, leaving}
use Rattle.corr_core.specs.declared.marks.Plan.{Plan as IdPlan}
use Rattle.corr_core.specs.declared.marks.Hand.{Hand}
use Rattle.corr_core.specs.declared.marks.Hand.TheVariants.{Empty, Out, Full}
use Rattle.corr_core.specs.declared.marks.Token.{Token}
use Rattle.corr_core.specs.declared.marks.Token.TheVariants.{Claimed, Locked}
use Rattle.seat_programs.specs.id_rule.specs.LawfulIdTable.{tag_index, id_index, call_index, at_index, local, tokens_in}
use Rattle.seat_programs.specs.id_rule.proofs.AllowedIdSteps as allowed
use Rattle.seat_programs.specs.sock_message.specs.Asked.{Asked}
use Rattle.seat_programs.specs.Asides.{Step, Found, ClaimId, PutCall, MakeId, StoreCall, StoreAt, LockId, PostId, UnlockId, EndId, FreeId, TakeCall, TakeBytes, Taking, Bytes}
use Rattle.seat_programs.specs.PostPrograms.{packed}
use Rattle.seat_programs.specs.FoundAndChangedAside.{found_in, calls_after, more_given}
use Rattle.seat_programs.specs.Cores.{Calls, Core}
use Rattle.call_owing.specs.Below.id_runs.specs.HeldIdTokens.{IdView, id_state, HasOne, MayId}
use Rattle.call_owing.specs.Below.id_runs.specs.Goes.{SoundIds, FindsId}
use Rattle.call_owing.specs.Below.id_runs.proofs.AsidesKeepingIdRule.{parts_packed}
use Rattle.call_owing.specs.SoundOwing.{id_word_of}
use Rattle.sock_words.specs.PackedWords.{bit}

-- ## Words

small_first : (b : Bool) (n m : ℕ) → n < 32768 → m < 32768 → cond b n m < 32768
small_first true n m x y = x
small_first false n m x y = y

-- a word that an error was posted to
pub posted_parts : (w e : ℕ) → e < 32768 → ((parts (packed (posted_word (parts w) e))).first ≡ (parts w).first) × ((parts (packed (posted_word (parts w) e))).state ≡ 2)
posted_parts w e small = by_state ((parts w).state == 1)
  where
    by_state : (b : Bool) → ((parts (packed (cond b (locked_word (parts w)) (record { first = (parts w).first; state = 2; range = (parts w).range; attempt = (parts w).attempt; oldest = cond ((parts w).oldest == 0) e (parts w).oldest; second = cond ((parts w).oldest == 0) 0 e })))).first ≡ (parts w).first) × ((parts (packed (cond b (locked_word (parts w)) (record { first = (parts w).first; state = 2; range = (parts w).range; attempt = (parts w).attempt; oldest = cond ((parts w).oldest == 0) e (parts w).oldest; second = cond ((parts w).oldest == 0) 0 e })))).state ≡ 2)
    by_state true = let is = parts_packed (locked_word (parts w)) (omega arith) (omega arith) (omega arith) (omega arith) (omega arith) (omega arith) in (ap (λ (x : Parts). x.first) is, ap (λ (x : Parts). x.state) is)
    by_state false = let is = parts_packed (record { first = (parts w).first; state = 2; range = (parts w).range; attempt = (parts w).attempt; oldest = cond ((parts w).oldest == 0) e (parts w).oldest; second = cond ((parts w).oldest == 0) 0 e }) (omega arith) (omega arith) (omega arith) (omega arith)
        (small_first ((parts w).oldest == 0) e (parts w).oldest small (omega arith)) (small_first ((parts w).oldest == 0) 0 e (omega arith) small) in (ap (λ (x : Parts). x.first) is, ap (λ (x : Parts). x.state) is)

-- and one whose lock was given back
pub unlocked_parts : (w more : ℕ) → (parts w).attempt + more < 8 → ((parts (packed (unlocked_word (parts w) more))).first ≡ (parts w).first) × ((parts (packed (unlocked_word (parts w) more))).state ≢ 0)
unlocked_parts w more few = let is = parts_packed (unlocked_word (parts w) more) (below ((parts w).oldest == 0)) (omega arith) (omega arith) (omega (arith, few)) (omega arith) (omega arith) in
    (ap (λ (x : Parts). x.first) is, λ z. above ((parts w).oldest == 0) (sym (ap (λ (x : Parts). x.state) is) ∙ z))
  where
    below : (b : Bool) → cond b 1 2 < 4
    below true = omega arith
    below false = omega arith

    above : (b : Bool) → cond {A = ℕ} b 1 2 ≡ 0 → ⊥
    above true e = omega (arith, e)
    above false e = omega (arith, e)

-- ## Two seats

module _ {A B : Type 0} (f : A → List B) where
  one_member : (l : List A) (k : ℕ) (b : A) (y : B) → get_elem? l k ≡ some b → f b ≡ y ∷ [] → 1 ≤ length (flat_map f l)
  one_member [] k b y at is = absurd (some-ne-none b (sym at))
  one_member (x ∷ xs) zero b y at is = let n = length-append (f x) (flat_map f xs) in let m = ap length (ap f (some-injective x b at) ∙ is) in omega (arith, n, m)
  one_member (x ∷ xs) (suc k) b y at is = let n = length-append (f x) (flat_map f xs) in let m = one_member xs k b y at is in omega (arith, n, m)

  pub two_members : (l : List A) (j k : ℕ) (a b : A) (x y : B) → get_elem? l j ≡ some a → get_elem? l k ≡ some b → j ≢ k → f a ≡ x ∷ [] → f b ≡ y ∷ [] → 2 ≤ length (flat_map f l)
  two_members [] j k a b x y at_j at_k far is_a is_b = absurd (some-ne-none a (sym at_j))
  two_members (z ∷ zs) zero zero a b x y at_j at_k far is_a is_b = absurd (far refl)
  two_members (z ∷ zs) zero (suc k) a b x y at_j at_k far is_a is_b = let n = length-append (f z) (flat_map f zs) in let m = ap length (ap f (some-injective z a at_j) ∙ is_a) in let o = one_member zs k b y at_k is_b in omega (arith, n, m, o)
  two_members (z ∷ zs) (suc j) zero a b x y at_j at_k far is_a is_b = let n = length-append (f z) (flat_map f zs) in let m = ap length (ap f (some-injective z b at_k) ∙ is_b) in let o = one_member zs j a x at_j is_a in omega (arith, n, m, o)
  two_members (z ∷ zs) (suc j) (suc k) a b x y at_j at_k far is_a is_b = let n = length-append (f z) (flat_map f zs) in let o = two_members zs j k a b x y at_j at_k (λ e. far (ap suc e)) is_a is_b in omega (arith, n, o)

-- ## Steps

module _ (p : Plan) (q : IdPlan) (c : Core) (ws : List IdView) (ids : SoundIds p q c ws) where
  -- no slot has tokens of two seats
  pub one_seat : (j k : ℕ) (v w : IdView) → get_elem? ws j ≡ some v → get_elem? ws k ≡ some w → (n : ℕ) → n < q.slots → (t s : Token Asked) → HasOne n t v → HasOne n s w → j ≡ k
  one_seat j k v w at_j at_k n inside t s has_j has_k = dite (ℕ_discrete j k) (λ e. e) (λ far. absurd (let two = two_members (tokens_in n) ws j k v w t s at_j at_k far has_j has_k in
      let one = ap length (allowed.own q k (w, []) n inside (ids.real k w at_k) (id_state c.calls ws) ids.rule at_k s has_k) in let z : ⊥ = omega (arith, two, one) in z))

  -- a slot whose tag is 0 has no range
  pub free_tag : (n : ℕ) → n < q.slots → get_or c.calls.words (tag_index n) 0 ≡ 0 → (id_word_of c n).state ≡ 0
  free_tag n inside tag = by_stands (ids.rule.slots n inside).stands
    where
      by_stands : Stands (ids.rule.slots n inside).b (local (id_state c.calls ws) n) → (id_word_of c n).state ≡ 0
      by_stands (vacant t g s x h) = s
      by_stands (retired t g s x h) = s
      by_stands (claimed seen h t g s x y z) = s
      by_stands (opened d t s l x y h) = let taken = l.taken in absurd (let z : ⊥ = omega (arith, tag, taken) in z)
      by_stands (locked d x y h t s l z w v) = let taken = l.taken in absurd (let e : ⊥ = omega (arith, tag, taken) in e)
      by_stands (leaving t g s x h) = s

  home_of : (h : Hand Asked) (x : Option (Option (std.Option Asked))) → HomeIs h x → (y : Option (std.Option Asked)) × (x ≡ some y)
  home_of Empty x e = (some std.None, e)
  home_of Out x e = (none, e)
  home_of (Full d) x e = (some (std.Some d), e)

  pub home_inside : (n : ℕ) → n < q.slots → n < length c.calls.homes
  home_inside n inside = let h = by_stands (ids.rule.slots n inside).stands in at_length c.calls.homes n h.0 h.1
    where
      by_stands : Stands (ids.rule.slots n inside).b (local (id_state c.calls ws) n) → (y : Option (std.Option Asked)) × (get_elem? c.calls.homes n ≡ some y)
      by_stands (vacant t g s x h) = home_of Empty (get_elem? c.calls.homes n) h
      by_stands (retired t g s x h) = home_of Empty (get_elem? c.calls.homes n) h
      by_stands (claimed seen h t g s x y z) = home_of h (get_elem? c.calls.homes n) z
      by_stands (opened d t s l x y h) = home_of (Full d) (get_elem? c.calls.homes n) h
      by_stands (locked d x y h t s l z w v) = home_of h (get_elem? c.calls.homes n) w
      by_stands (leaving t g s x h) = home_of Empty (get_elem? c.calls.homes n) h

  pub word_inside : (n : ℕ) → n < q.slots → id_index n < length c.calls.words
  word_inside n inside = let sized = ids.rule.sized in omega (arith, inside, sized)

  abbrev pub Then : Calls → Core
  Then a = record c { calls = a }

  -- the slot has the same first version, a range if it had one, and the same call
  pub record Keeps (a : Calls) (n : ℕ) : Type 0 where
    pub first : (id_word_of (Then a) n).first ≡ (id_word_of c n).first
    pub none_ : (id_word_of c n).state ≡ 0 → (id_word_of (Then a) n).state ≡ 0
    pub some_ : (id_word_of c n).state ≢ 0 → (id_word_of (Then a) n).state ≢ 0
    pub home : get_elem? a.homes n ≡ get_elem? c.calls.homes n

  keeps_by : (a : Calls) (n : ℕ) → id_word_of (Then a) n ≡ id_word_of c n → get_elem? a.homes n ≡ get_elem? c.calls.homes n → Keeps a n
  keeps_by a n word home = record { first = ap (λ (x : Parts). x.first) word; none_ = λ z. ap (λ (x : Parts). x.state) word ∙ z; some_ = λ s z. s (sym (ap (λ (x : Parts). x.state) word) ∙ z); home = home }

  -- another word
  other_word : (x w n : ℕ) → id_index n ≢ x → Keeps (record c.calls { words = set c.calls.words x w }) n
  other_word x w n far = keeps_by (record c.calls { words = set c.calls.words x w }) n (ap parts (get_or-set_other c.calls.words x (id_index n) w 0 (λ e. far (omega (arith, e))))) refl

  -- an exchange from this word, where what it makes of a range keeps it
  exchange : (m from found w n : ℕ) → n < q.slots → get_or c.calls.words (id_index m) 0 ≡ found → (found ≡ from → ((parts w).first ≡ (parts from).first) × ((parts w).state ≢ 0) × ((parts from).state ≢ 0)) → Keeps (record c.calls { words = set c.calls.words (id_index m) (cond (found == from) w found) }) n
  exchange m from found w n inside is hits = dite (ℕ_discrete n m)
      (λ here. dite (ℕ_discrete found from)
      (λ hit. let word : get_or (set c.calls.words (id_index m) (cond (found == from) w found)) (id_index n) 0 ≡ w = ap (λ x. get_or (set c.calls.words (id_index m) (cond (found == from) w found)) (id_index x) 0) here ∙ get_or-set_same c.calls.words (id_index m) (cond (found == from) w found) 0 (subst (λ x. id_index x < length c.calls.words) here (word_inside n inside))
      ∙ ap (λ b. cond b w found) (eq-eqb found from hit) in let h = hits hit in let old : get_or c.calls.words (id_index n) 0 ≡ from = ap (λ x. get_or c.calls.words (id_index x) 0) here ∙ is ∙ hit in
      record { first = ap (λ x. (parts x).first) word ∙ h.0 ∙ sym (ap (λ x. (parts x).first) old); none_ = λ z. absurd (h.2 (sym (ap (λ x. (parts x).state) old) ∙ z)); some_ = λ s z. h.1 (sym (ap (λ x. (parts x).state) word) ∙ z); home = refl })
      (λ miss. keeps_by (record c.calls { words = set c.calls.words (id_index m) (cond (found == from) w found) }) n (ap parts (ap (λ x. get_or (set c.calls.words (id_index m) (cond (found == from) w found)) (id_index x) 0) here
      ∙ get_or-set_same c.calls.words (id_index m) (cond (found == from) w found) 0 (subst (λ x. id_index x < length c.calls.words) here (word_inside n inside)) ∙ ap (λ b. cond b w found) (ne_eqb found from miss) ∙ sym is ∙ ap (λ x. get_or c.calls.words (id_index x) 0) (sym here))) refl))
      (λ far. other_word (id_index m) (cond (found == from) w found) n (λ e. far (let z : 2 * n + 1 ≡ 2 * m + 1 = e in omega (arith, z))))

  -- a step that ends or makes the range of this slot, or moves its call
  abbrev pub Acts : Step → ℕ → Type 0
  Acts (PutCall m asked) n = n ≡ m
  Acts (MakeId m range) n = n ≡ m
  Acts (EndId m) n = n ≡ m
  Acts (TakeCall m) n = n ≡ m
  Acts other n = ⊥

  given_same : (k : ℕ) (t : Taking) (n : ℕ) → Keeps (more_given k t c.calls) n
  given_same k (Bytes bytes) n = keeps_by (more_given k (Bytes bytes) c.calls) n refl refl
  given_same k _ n = keeps_by c.calls n refl refl

  module _ (u : IdView) where
    pub step_keeps : (step : Step) (t : Option Taking) (found : Found step) → MayId p q u step → FindsId p q u step found → found_in step c.calls t ≡ some found → (n : ℕ) → n < q.slots → Acts step n ⊎ Keeps (calls_after step found c.calls) n
    step_keeps (ClaimId m) t found may finds is n inside = inr (other_word (tag_index m) 1 n (λ e. let z : 2 * n + 1 ≡ 2 * m = e in omega (arith, z)))
    step_keeps (PutCall m asked) t found may finds is n inside = dite (ℕ_discrete n m) (λ e. inl e) (λ far. inr (keeps_by (calls_after (PutCall m asked) found c.calls) n refl (set_else c.calls.homes m n (some (std.Some asked)) far)))
    step_keeps (MakeId m range) t found may finds is n inside = dite (ℕ_discrete n m) (λ e. inl e) (λ far. inr (other_word (id_index m) (packed (made_word (parts found).first range)) n (λ e. far (let z : 2 * n + 1 ≡ 2 * m + 1 = e in omega (arith, z)))))
    step_keeps (StoreCall o id) t found may finds is n inside = inr (subst (λ (r : IdPlan). Keeps (record c.calls { words = set c.calls.words (call_index r o) id }) n) (sym ids.plan) (other_word (call_index q o) id n (λ e. let z : 2 * n + 1 ≡ 2 * q.slots + 2 * o = e in omega (arith, z))))
    step_keeps (StoreAt o w) t found may finds is n inside = inr (subst (λ (r : IdPlan). Keeps (record c.calls { words = set c.calls.words (at_index r o) w }) n) (sym ids.plan) (other_word (at_index q o) w n (λ e. let z : 2 * n + 1 ≡ 2 * q.slots + 2 * o + 1 = e in omega (arith, z, inside))))
    step_keeps (LockId m from) t found may finds is n inside = inr (exchange m from found (packed (posted_word (parts from) 0)) n inside (some-injective (get_or c.calls.words (id_index m) 0) found is)
        (λ hit. let w = posted_parts from 0 (omega arith) in let two = w.1 in let one = may.1 in (w.0, (λ z. omega (arith, z, two)), (λ z. omega (arith, z, one)))))
    step_keeps (PostId m from e) t found may finds is n inside = inr (exchange m from found (packed (posted_word (parts from) e)) n inside (some-injective (get_or c.calls.words (id_index m) 0) found is)
        (λ hit. let w = posted_parts from e may.3 in let two = w.1 in (w.0, (λ z. omega (arith, z, two)), (λ z. ⊎_elim (λ one. omega (arith, z, one)) (λ x. let y = x.0 in omega (arith, z, y)) may.1))))
    step_keeps (UnlockId m from advance) t found may finds is n inside = inr (exchange m from found (packed (unlocked_word (parts from) (bit advance))) n inside (some-injective (get_or c.calls.words (id_index m) 0) found is)
        (λ hit. let x = may.1 in let longer = x.7 in let g = longer.range_is in let h = longer.attempt_is in let s = longer.state_is in let room = x.8 in let high : (parts from).range ≤ 8 = omega arith in
        let w = unlocked_parts from (bit advance) (omega (arith, g, h, room, high)) in (w.0, w.1, (λ z. omega (arith, z, s)))))
    step_keeps (EndId m) t found may finds is n inside = dite (ℕ_discrete n m) (λ e. inl e) (λ far. inr (other_word (id_index m) (packed (free_word ((parts found).first + (parts found).range))) n (λ e. far (let z : 2 * n + 1 ≡ 2 * m + 1 = e in omega (arith, z)))))
    step_keeps (FreeId m) t found may finds is n inside = inr (other_word (tag_index m) 0 n (λ e. let z : 2 * n + 1 ≡ 2 * m = e in omega (arith, z)))
    step_keeps (TakeCall m) t found may finds is n inside = dite (ℕ_discrete n m) (λ e. inl e) (λ far. inr (keeps_by (calls_after (TakeCall m) found c.calls) n refl (set_else c.calls.homes m n (some std.None) far)))
    step_keeps (TakeBytes k room) t found may finds is n inside = inr (given_same k found n)
    step_keeps _ t found may finds is n inside = inr (keeps_by c.calls n refl refl)

    -- whose slot it is
    pub acts_token : (step : Step) → MayId p q u step → (n : ℕ) → Acts step n → (t : Token Asked) × HasOne n t u
    acts_token (PutCall m asked) may n e = subst (λ x. (t : Token Asked) × HasOne x t u) (sym e) (⊎_elim (λ x. (Claimed x.0 Empty, x.1)) (λ x. (Locked x.0 x.1 x.2 asked x.3 x.4 Empty, x.5)) may.1)
    acts_token (MakeId m range) may n e = let x = may.1 in subst (λ y. (t : Token Asked) × HasOne y t u) (sym e) (Claimed x.0 (Full x.1), x.2)
    acts_token (EndId m) may n e = let x = may.1 in subst (λ y. (t : Token Asked) × HasOne y t u) (sym e) (Locked x.0 x.1 x.2 x.5 x.3 x.4 Empty, x.6)
    acts_token (TakeCall m) may n e = let x = may.1 in subst (λ y. (t : Token Asked) × HasOne y t u) (sym e) (x.0, x.2)
    acts_token _ may n e = absurd e
