-- Each step aside of the sockets keeps the rule of the table of ids.
use Rattle.std.proofs.Common.{◌≡◌, ◌≢◌, ℕ, ◌+◌, ◌*◌, ◌<◌, ◌≤◌, ◌⊎◌, ⊎_elim, Bool, true, false, cond, eqb, eq-eqb, ne_eqb, List, [], ◌∷◌, Some, None, get_or, set, refl, sym, ap, ◌∙◌, subst, arith}
use Rattle.std.specs.Prelude.{Option as Maybe}
use Rattle.std.specs.List.{flat_map}
use mathlib.Core.Logic.{dite}
use mathlib.Core.Option.{some}
use native.Mathlib.Decide.{ℕ_discrete}
use lib.ListN.{get_elem?}
use lib.Seq.{set-get_or}
use Rattle.atomic_table.specs.Table.{State, Me, keeps, stepped}
use Rattle.atomic_table.proofs.Lists.{set_here, set_else}
use Rattle.sock_words.specs.declared.plain.Plan.{Plan}
use Rattle.corr_core.specs.IdSlotWord.{Parts, parts, made_word, locked_word, posted_word, unlocked_word, free_word}
use Rattle.corr_core.specs.IdSlotLaw.{Local, HomeIs, SlotLaw}
use Rattle.corr_core.specs.declared.marks.Plan.{Plan as IdPlan}
use Rattle.corr_core.specs.declared.marks.Hand.{Hand}
use Rattle.corr_core.specs.declared.marks.Hand.TheVariants.{Empty, Out, Full}
use Rattle.corr_core.specs.declared.marks.Token.{Token}
use Rattle.corr_core.specs.declared.marks.Token.TheVariants.{Claimed, Locked, Leaving}
use Rattle.corr_core.specs.declared.marks.Note.{Note}
use Rattle.corr_core.specs.declared.marks.Note.TheVariants.{Made, Queued, Attempt, Saw}
use Rattle.corr_core.proofs.NoteSums.{at_length}
use Rattle.corr_core.proofs.IdStepsKeepSlot.{queued_word, open_word, popped_word, reclaims, makes, claim_home}
use Rattle.id_rule.specs.LawfulIdTable.{tag_index, id_index, all_words, tokens_in, local, Lawful, with_token, no_token, with_note}
use Rattle.id_rule.specs.IdPlays.{hand_of, with_hand, value_of, claimed_view, popped_view, advanced_view, found_view, IsHome, LockFits, Longer}
use Rattle.id_rule.proofs.OtherIdsUntouched.{token_here, drop_here, note_here, aside_token, aside_drop, aside_note, aside_both, own_tokens}
use Rattle.id_rule.proofs.AllowedIdSteps as allowed
use Rattle.id_rule.proofs.KeptOperationWords as kept
use Rattle.seat_programs.specs.sock_message.specs.Asked.{Asked}
use Rattle.seat_programs.specs.Asides.{ClaimId, PutCall, MakeId, LockId, PostId, UnlockId, EndId, FreeId, TakeCall}
use Rattle.seat_programs.specs.PostPrograms.{packed}
use Rattle.seat_programs.specs.Cores.{Calls}
use Rattle.seat_programs.specs.FoundAndChangedAside.{calls_after}
use Rattle.id_runs.specs.HeldIdTokens.{IdView, id_state, by_token, made_by, unlocked_by, ended_by, locked_by, id_row, HasOne, HasCallAt, MayPut}
use Rattle.sock_words.specs.PackedWords.{bit}

-- ## Words

pub parts_packed : (w : Parts) → w.state < 4 → 1 ≤ w.range → w.range ≤ 8 → w.attempt < 8 → w.oldest < 32768 → w.second < 32768 → parts (packed w) ≡ w
parts_packed w s r1 r a o e =
    let f₁ : (parts (packed w)).first ≡ w.first = omega arith in let f₂ : (parts (packed w)).state ≡ w.state = omega arith in let f₃ : (parts (packed w)).range ≡ w.range = omega arith in
    let f₄ : (parts (packed w)).attempt ≡ w.attempt = omega arith in let f₅ : (parts (packed w)).oldest ≡ w.oldest = omega arith in let f₆ : (parts (packed w)).second ≡ w.second = omega arith in
    λ k. record { first = f₁ k; state = f₂ k; range = f₃ k; attempt = f₄ k; oldest = f₅ k; second = f₆ k }

-- ## Steps

module _ (p : Plan) (q : IdPlan) (a : Calls) (us : List IdView) (law : Lawful q (id_state a us)) (k : ℕ) (u : IdView) (at : get_elem? us k ≡ some u) (real : 0 < u.share) where
  abbrev me : Me (Maybe Asked) IdView
  me = (u, [])

  abbrev s : State (Maybe Asked) IdView
  s = id_state a us

  -- the rule holds once the table is this and the view that
  abbrev pub RuleOf : Calls → IdView → Type 0
  RuleOf a' w = Lawful q (id_state a' (set us k w))

  -- a step that leaves the words, shown as one that writes a word back
  still : (x : ℕ) (w : IdView) → Lawful q (stepped (id_state a us) x (get_or a.words x 0) k [] w keeps) → RuleOf a w
  still x w l = subst (λ ws. Lawful q record { words = ws; homes = a.homes; views = set us k w }) (set-get_or a.words x 0) l

  -- I1
  pub claims : (i : ℕ) → i < q.slots → RuleOf (calls_after (ClaimId i) (get_or a.words (tag_index i) 0) a) (claimed_view i (get_or a.words (tag_index i) 0) u)
  claims i inside = allowed.claims_law q k me i inside real (id_state a us) law at

  -- I7
  pub sees : (i : ℕ) → i < q.slots → RuleOf a (with_note i (Saw (get_or a.words (id_index i) 0)) u)
  sees i inside = still (id_index i) (with_note i (Saw (get_or a.words (id_index i) 0)) u) (allowed.sees_law q k me i inside real (id_state a us) law at)

  -- T1, T2
  pub stores : (x n : ℕ) → 2 * q.slots ≤ x → x < all_words q → n ≢ 0 → Lawful q (stepped (id_state a us) x n k [] (Rattle.id_rule.specs.LawfulIdTable.with_kept x true n u) keeps)
  stores x n high inside some_ = kept.stores_law q k me x high inside real (id_state a us) law at n some_

  pub finds : (x : ℕ) → 2 * q.slots ≤ x → x < all_words q → RuleOf a (found_view x (get_or a.words x 0) u)
  finds x high inside = still x (found_view x (get_or a.words x 0) u) (kept.finds_law q k me x high inside real (id_state a us) law at)

  module _ (i : ℕ) (inside : i < q.slots) where
    abbrev l : Local Asked
    l = local (id_state a us) i

    abbrev o : SlotLaw (local (id_state a us) i)
    o = law.slots i inside

    abbrev found : ℕ
    found = get_or a.words (id_index i) 0

    own : (t : Token Asked) → HasOne i t u → flat_map (tokens_in i) us ≡ t ∷ []
    own t has = allowed.own q k me i inside real (id_state a us) law at t has

    -- of its one token
    pub by_own : (t : Token Asked) (f : Token Asked → IdView) (a' : Calls) → HasOne i t u → RuleOf a' (f t) → RuleOf a' (by_token (tokens_in i u) f u)
    by_own t f a' has r = subst (λ ts. RuleOf a' (by_token ts f u)) (sym has) r

    -- K1
    home_goes : (t : Token Asked) (h : Hand Asked) (v : Maybe Asked) → HasOne i t u → IsHome (hand_of t) → HomeIs h (some (some v)) → Rattle.id_rule.specs.IdPlays.Fitting t h → RuleOf (record a { homes = set a.homes i (some v) }) (with_token i (with_hand t h) u)
    home_goes t h v has ready is fit = let now = own t has in let n = allowed.home_not_leaving q k me i inside real (id_state a us) law at t ready in
        let there : get_elem? a.homes i ≡ some (some (value_of (hand_of t))) = allowed.home_value q k me i inside real (id_state a us) law at (hand_of t) ready (local (id_state a us) i).home (allowed.token_home q k me i inside real (id_state a us) law at t now ready) in
        let w : IdView = with_token i (with_hand t h) u in
        subst (λ ws. Lawful q record { words = ws; homes = set a.homes i (some v); views = set us k (with_token i (with_hand t h) u) }) (set-get_or a.words (tag_index i) 0)
        (allowed.moved q k me i inside real (id_state a us) law at w (aside_token i (with_hand t h) u) (set a.homes i (some v)) (λ j ne. set_else a.homes i j (some v) ne) (some (some v)) (set_here a.homes i (some v) (at_length a.homes i (some (value_of (hand_of t))) there))
        (with_hand t h ∷ []) (own_tokens q (id_state a us) law k u at real i inside w t has ∙ token_here i (with_hand t h) u) refl
        (allowed.rehands q k me i inside real (id_state a us) law at t now n h (some (some v)) is fit))

    pub puts : (asked : Asked) → MayPut i asked u → RuleOf (calls_after (PutCall i asked) (get_or a.words (tag_index i) 0) a) (by_token (tokens_in i u) (λ t. with_token i (with_hand t (Full asked)) u) u)
    puts asked may = ⊎_elim
        (λ m. by_own (Claimed m.0 Empty) (λ t. with_token i (with_hand t (Full asked)) u) (record a { homes = set a.homes i (some (Some asked)) }) m.1 (home_goes (Claimed m.0 Empty) (Full asked) (Some asked) m.1 tt refl tt))
        (λ m. let t : Token Asked = Locked m.0 m.1 m.2 asked m.3 m.4 Empty in by_own t (λ t. with_token i (with_hand t (Full asked)) u) (record a { homes = set a.homes i (some (Some asked)) }) m.5 (home_goes t (Full asked) (Some asked) m.5 tt refl refl))
        may

    -- K2
    takes_from : (t : Token Asked) (c : Asked) → HasOne i t u → hand_of t ≡ Full c → RuleOf (record a { homes = set a.homes i (some None) }) (with_token i (with_hand t Empty) u)
    takes_from (Claimed f h) c has is = home_goes (Claimed f h) Empty None has (subst IsHome (sym is) tt) refl tt
    takes_from (Locked f rg att d x y h) c has is = home_goes (Locked f rg att d x y h) Empty None has (subst IsHome (sym is) tt) refl tt
    takes_from Leaving c has is = let e : Out ≡ Full c = is in cc

    pub takes : (asked : Asked) → HasCallAt i u → RuleOf (calls_after (TakeCall i) asked a) (by_token (tokens_in i u) (λ t. with_token i (with_hand t Empty) u) u)
    takes asked may = by_own may.0 (λ t. with_token i (with_hand t Empty) u) (record a { homes = set a.homes i (some None) }) may.2 (takes_from may.0 may.1 may.2 may.3)

    -- I2
    pub makes_id : (range seen : ℕ) (c : Asked) → HasOne i (Claimed seen (Full c)) u → 2 ≤ range → range ≤ 8 → RuleOf (calls_after (MakeId i range) (get_or a.words (id_index i) 0) a) (by_token (tokens_in i u) (made_by i range (get_or a.words (id_index i) 0) u) u)
    makes_id range seen c has low high =
        let t : Token Asked = Claimed seen (Full c) in let f : ℕ = (local (id_state a us) i).word.first in let n : ℕ = packed (made_word (parts (get_or a.words (id_index i) 0)).first range) in
        let w : IdView = with_note i (Made (parts (get_or a.words (id_index i) 0)).first range c) (no_token i u) in let v : IdView = no_token i u in let x : Note Asked = Made (parts (get_or a.words (id_index i) 0)).first range c in
        let claim = claim_home (local (id_state a us) i) (law.slots i inside) seen (Full c) (own t has) in
        let l' : Local Asked = record { tag = (local (id_state a us) i).tag; word = (local (id_state a us) i).word; home = (local (id_state a us) i).home; tokens = Claimed f (Full c) ∷ []; notes = (local (id_state a us) i).notes } in
        let o' : SlotLaw l' = reclaims (local (id_state a us) i) (law.slots i inside) seen (Full c) (own t has) f (Full c) (local (id_state a us) i).home (λ z. refl) claim.0 in
        let is : parts n ≡ made_word f range = parts_packed (made_word (parts (get_or a.words (id_index i) 0)).first range) (omega arith) (omega (arith, low)) high (omega arith) (omega arith) (omega arith) in
        by_own t (made_by i range (get_or a.words (id_index i) 0) u) (calls_after (MakeId i range) (get_or a.words (id_index i) 0) a) has
        (allowed.id_more q k me i inside real (id_state a us) law at w (aside_both i u v w (aside_drop i u) (aside_note i x v)) n [] (own_tokens q (id_state a us) law k u at real i inside w t has ∙ drop_here i u) x (note_here i x v)
        (λ ns j. subst (λ (y : Parts). SlotLaw record { tag = (local (id_state a us) i).tag; word = y; home = (local (id_state a us) i).home; tokens = []; notes = ns }) (sym is) (makes l' o' range c ns refl low high j)))

    -- I3 and I4 on an open id
    locks_from : (from e : ℕ) → found ≡ from → (parts from).state ≡ 1 → (c : Asked) × LockFits (parts from) × RuleOf (record a { words = set a.words (id_index i) (packed (posted_word (parts from) e)) }) (locked_by i found c u)
    locks_from from e hit one = let same : (local (id_state a us) i).word ≡ parts from = ap parts hit in
        let state : (local (id_state a us) i).word.state ≡ 1 = ap (λ (y : Parts). y.state) same ∙ one in
        let posted : posted_word (parts from) e ≡ locked_word (parts from) = ap (λ b. cond b (locked_word (parts from)) record { first = (parts from).first; state = 2; range = (parts from).range; attempt = (parts from).attempt; oldest = cond (eqb (parts from).oldest 0) e (parts from).oldest; second = cond (eqb (parts from).oldest 0) 0 e }) (eq-eqb (parts from).state 1 one) in
        let is : parts (packed (posted_word (parts from) e)) ≡ locked_word (local (id_state a us) i).word = ap (λ w. parts (packed w)) posted ∙ (parts_packed (locked_word (parts from)) (omega arith) (omega arith) (omega arith) (omega arith) (omega arith) (omega arith) ∙ ap locked_word (sym same)) in
        let r = allowed.locks_law q k me i inside real (id_state a us) law at (packed (posted_word (parts from) e)) state is in (r.0, subst LockFits same r.1, r.3)

    pub locks : (from : ℕ) → (parts from).state ≡ 1 → (c : Asked) × RuleOf (calls_after (LockId i from) (get_or a.words (id_index i) 0) a) (id_row q (LockId i from) (get_or a.words (id_index i) 0) c u)
    locks from one = let n : ℕ = get_or a.words (id_index i) 0 in
        let Rule : Asked → Bool → Type 0 = λ c b. RuleOf (record a { words = set a.words (id_index i) (cond b (packed (posted_word (parts from) 0)) n) }) (cond b (locked_by i n c u) (with_note i (Saw n) u)) in
        dite (ℕ_discrete n from)
        (λ hit. let r = locks_from from 0 hit one in (r.0, subst (Rule r.0) (sym (eq-eqb n from hit)) r.2))
        (λ miss. let c : Asked = record { operation = 0; names = []; service = []; method = []; payload = []; attachment = []; range = 0 } in (c, subst (Rule c) (sym (ne_eqb n from miss)) (allowed.sees_law q k me i inside real (id_state a us) law at)))

    pub posts : (from e : ℕ) → ((parts from).state ≡ 1) ⊎ (((parts from).state ≡ 2) × ((parts from).second ≡ 0)) → e ≢ 0 → e < 32768 → (c : Asked) × RuleOf (calls_after (PostId i from e) (get_or a.words (id_index i) 0) a) (id_row q (PostId i from e) (get_or a.words (id_index i) 0) c u)
    posts from e how some_ small = let n : ℕ = get_or a.words (id_index i) 0 in
        let none_yet : Asked = record { operation = 0; names = []; service = []; method = []; payload = []; attachment = []; range = 0 } in
        let Rule : Asked → Bool → Bool → Type 0 = λ c b d. RuleOf (record a { words = set a.words (id_index i) (cond b (packed (posted_word (parts from) e)) n) }) (cond b (cond d (locked_by i n c u) (with_note i (Queued (parts n).first e) u)) (with_note i (Saw n) u)) in
        dite (ℕ_discrete n from)
        (λ hit. ⊎_elim
        (λ one. let r = locks_from from e hit one in (r.0, subst (λ b. Rule r.0 b (eqb (parts from).state 1)) (sym (eq-eqb n from hit)) (subst (Rule r.0 true) (sym (eq-eqb (parts from).state 1 one)) r.2)))
        (λ two. (none_yet, subst (λ b. Rule none_yet b (eqb (parts from).state 1)) (sym (eq-eqb n from hit)) (subst (Rule none_yet true) (sym (ne_eqb (parts from).state 1 (λ z. omega (arith, z, two.0)))) (queues_from from e hit two.0 two.1 some_ small))))
        how)
        (λ miss. (none_yet, subst (λ b. Rule none_yet b (eqb (parts from).state 1)) (sym (ne_eqb n from miss)) (allowed.sees_law q k me i inside real (id_state a us) law at)))
      where
        small_first : (b : Bool) (n m : ℕ) → n < 32768 → m < 32768 → cond b n m < 32768
        small_first true n m x y = x
        small_first false n m x y = y

        queues_from : (from e : ℕ) → found ≡ from → (parts from).state ≡ 2 → (parts from).second ≡ 0 → e ≢ 0 → e < 32768 → RuleOf (record a { words = set a.words (id_index i) (packed (posted_word (parts from) e)) }) (with_note i (Queued (parts found).first e) u)
        queues_from from e hit two room some_ small = let same : (local (id_state a us) i).word ≡ parts from = ap parts hit in
            let w : Parts = record { first = (parts from).first; state = 2; range = (parts from).range; attempt = (parts from).attempt; oldest = cond (eqb (parts from).oldest 0) e (parts from).oldest; second = cond (eqb (parts from).oldest 0) 0 e } in
            let posted : posted_word (parts from) e ≡ w = ap (λ b. cond b (locked_word (parts from)) w) (ne_eqb (parts from).state 1 (λ z. omega (arith, z, two))) in
            let queued : w ≡ queued_word (parts from) e = λ j. record { first = (parts from).first; state = sym two j; range = (parts from).range; attempt = (parts from).attempt; oldest = cond (eqb (parts from).oldest 0) e (parts from).oldest; second = cond (eqb (parts from).oldest 0) 0 e } in
            let is : parts (packed (posted_word (parts from) e)) ≡ queued_word (local (id_state a us) i).word e = ap (λ y. parts (packed y)) posted
            ∙ (parts_packed w (omega arith) (omega arith) (omega arith) (omega arith) (small_first (eqb (parts from).oldest 0) e (parts from).oldest small (omega arith)) (small_first (eqb (parts from).oldest 0) 0 e (omega arith) small) ∙ (queued ∙ ap (λ y. queued_word y e) (sym same))) in
            allowed.queues_law q k me i inside real (id_state a us) law at (packed (posted_word (parts from) e)) e (ap (λ (y : Parts). y.state) same ∙ two) (ap (λ (y : Parts). y.second) same ∙ room) some_ is

    -- I8
    pub frees : HasOne i Leaving u → RuleOf (calls_after (FreeId i) (get_or a.words (tag_index i) 0) a) (no_token i u)
    frees has = allowed.frees_law q k me i inside real (id_state a us) law at has

    -- I6
    pub ends : (f rg att x y : ℕ) (c : Asked) → HasOne i (Locked f rg att c x y Empty) u → RuleOf (calls_after (EndId i) (get_or a.words (id_index i) 0) a) (by_token (tokens_in i u) (ended_by i (get_or a.words (id_index i) 0) u) u)
    ends f rg att x y c has = let t : Token Asked = Locked f rg att c x y Empty in let n : ℕ = packed (free_word ((parts (get_or a.words (id_index i) 0)).first + (parts (get_or a.words (id_index i) 0)).range)) in
        let is : parts n ≡ free_word ((local (id_state a us) i).word.first + (local (id_state a us) i).word.range) = parts_packed (free_word ((parts (get_or a.words (id_index i) 0)).first + (parts (get_or a.words (id_index i) 0)).range)) (omega arith) (omega arith) (omega arith) (omega arith) (omega arith) (omega arith) in
        by_own t (ended_by i (get_or a.words (id_index i) 0) u) (calls_after (EndId i) (get_or a.words (id_index i) 0) a) has
        (allowed.ends_law q k me i inside real (id_state a us) law at f rg att x y c has n is)

    -- I5
    module _ (f rg att x y : ℕ) (c : Asked) (has : HasOne i (Locked f rg att c x y (Full c)) u) where
      abbrev w₀ : Parts
      w₀ = (local (id_state a us) i).word

      opened_is : (w : Parts) (more : ℕ) → w.oldest ≡ 0 → w.second ≡ 0 → unlocked_word w more ≡ open_word w more
      opened_is w more z e = λ j. record { first = w.first; state = ap (λ b. cond b 1 2) (eq-eqb w.oldest 0 z) j; range = w.range; attempt = w.attempt + more; oldest = e j; second = 0 }

      popped_is : (w : Parts) (more : ℕ) → w.oldest ≢ 0 → unlocked_word w more ≡ popped_word w more
      popped_is w more n = λ j. record { first = w.first; state = ap (λ b. cond b 1 2) (ne_eqb w.oldest 0 n) j; range = w.range; attempt = w.attempt + more; oldest = w.second; second = 0 }

      state_fits : (b : Bool) → cond b 1 2 < 4
      state_fits true = omega arith
      state_fits false = omega arith

      opens : (from more : ℕ) → found ≡ from → (parts from).attempt + more + 2 ≤ (parts from).range → ((local (id_state a us) i).word.oldest ≡ 0 → parts (packed (unlocked_word (parts from) more)) ≡ open_word (local (id_state a us) i).word more) × ((local (id_state a us) i).word.oldest ≢ 0 → parts (packed (unlocked_word (parts from) more)) ≡ popped_word (local (id_state a us) i).word more)
      opens from more hit room = let same : (local (id_state a us) i).word ≡ parts from = ap parts hit in
          let is : parts (packed (unlocked_word (parts from) more)) ≡ unlocked_word (local (id_state a us) i).word more = parts_packed (unlocked_word (parts from) more) (state_fits (eqb (parts from).oldest 0)) (omega arith) (omega arith) (omega (arith, room)) (omega arith) (omega arith) ∙ ap (λ (w : Parts). unlocked_word w more) (sym same) in
          let known = allowed.known q k me i inside real (id_state a us) law at f rg att x y c has in
          ((λ z. is ∙ opened_is (local (id_state a us) i).word more z (known.begins.2 z)), (λ n. is ∙ popped_is (local (id_state a us) i).word more n))

      abbrev Row : ℕ → ℕ → Bool → Type 0
      Row from more b = RuleOf (record a { words = set a.words (id_index i) (cond b (packed (unlocked_word (parts from) more)) found) })
          (cond b (advanced_view i f (parts from).attempt ((parts from).attempt + more) (popped_view i f rg ((parts from).attempt + more) c (parts found).oldest (parts found).second u)) (with_token i (Locked f rg att c (parts found).oldest (parts found).second (Full c)) u))

      missed : (from more : ℕ) → found ≢ from → Row from more (eqb found from)
      missed from more miss = subst (Row from more) (sym (ne_eqb found from miss)) (allowed.relocks_law q k me i inside real (id_state a us) law at f rg att x y c has)

      plain : (from : ℕ) → (parts from).attempt + 2 ≤ (parts from).range → Row from 0 (eqb found from)
      plain from room = dite (ℕ_discrete found from)
          (λ hit. let same : (local (id_state a us) i).word.attempt ≡ (parts from).attempt = ap (λ n. (parts n).attempt) hit in let n : ℕ = packed (unlocked_word (parts from) 0) in
          let r = allowed.unlocks_law q k me i inside real (id_state a us) law at f rg att x y c has (packed (unlocked_word (parts from) 0)) (opens from 0 hit (omega (arith, room))) in
          let V : ℕ → IdView = λ m. popped_view i f rg m c (parts found).oldest (parts found).second u in
          subst (Row from 0) (sym (eq-eqb found from hit))
          (subst (λ b. RuleOf (record a { words = set a.words (id_index i) (packed (unlocked_word (parts from) 0)) }) (cond b (popped_view i f rg ((parts from).attempt + 0) c (parts found).oldest (parts found).second u) (with_note i (Attempt f ((parts from).attempt + 0)) (popped_view i f rg ((parts from).attempt + 0) c (parts found).oldest (parts found).second u))))
          (sym (eq-eqb (parts from).attempt ((parts from).attempt + 0) (omega arith)))
          (subst (λ m. RuleOf (record a { words = set a.words (id_index i) (packed (unlocked_word (parts from) 0)) }) (popped_view i f rg (m + 0) c (parts found).oldest (parts found).second u)) same r)))
          (λ miss. missed from 0 miss)

      advancing : (from : ℕ) → (parts from).attempt + 3 ≤ (parts from).range → Row from 1 (eqb found from)
      advancing from room = dite (ℕ_discrete found from)
          (λ hit. let same : (local (id_state a us) i).word.attempt ≡ (parts from).attempt = ap (λ n. (parts n).attempt) hit in let range : (local (id_state a us) i).word.range ≡ (parts from).range = ap (λ n. (parts n).range) hit in
          let r = allowed.advances_law q k me i inside real (id_state a us) law at f rg att x y c has (packed (unlocked_word (parts from) 1)) (omega (arith, same, range, room)) (opens from 1 hit (omega (arith, room))) in
          subst (Row from 1) (sym (eq-eqb found from hit))
          (subst (λ b. RuleOf (record a { words = set a.words (id_index i) (packed (unlocked_word (parts from) 1)) }) (cond b (popped_view i f rg ((parts from).attempt + 1) c (parts found).oldest (parts found).second u) (with_note i (Attempt f ((parts from).attempt + 1)) (popped_view i f rg ((parts from).attempt + 1) c (parts found).oldest (parts found).second u))))
          (sym (ne_eqb (parts from).attempt ((parts from).attempt + 1) (λ z. omega (arith, z))))
          (subst (λ m. RuleOf (record a { words = set a.words (id_index i) (packed (unlocked_word (parts from) 1)) }) (with_note i (Attempt f (m + 1)) (popped_view i f rg (m + 1) c (parts found).oldest (parts found).second u))) same r)))
          (λ miss. missed from 1 miss)

      of_advance : (from : ℕ) (advance : Bool) → (parts from).attempt + bit advance + 2 ≤ (parts from).range → Row from (bit advance) (eqb found from)
      of_advance from true room = advancing from (omega (arith, room))
      of_advance from false room = plain from (omega (arith, room))

      pub unlocks : (from : ℕ) (advance : Bool) → Longer f rg att x y (parts from) → att + bit advance + 2 ≤ rg
          → RuleOf (calls_after (UnlockId i from advance) (get_or a.words (id_index i) 0) a) (by_token (tokens_in i u) (unlocked_by i from (bit advance) (get_or a.words (id_index i) 0) u) u)
      unlocks from advance is room = by_own (Locked f rg att c x y (Full c)) (unlocked_by i from (bit advance) found u) (calls_after (UnlockId i from advance) found a) has (of_advance from advance (let g = is.range_is in let h = is.attempt_is in omega (arith, g, h, room)))
