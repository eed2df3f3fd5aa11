-- S3 and A2: a claimed slot's head is reset, and its life begins with the link that the claim has.
use Rattle.std.proofs.Common.{◌≡◌, ◌≢◌, ℕ, zero, suc, ◌+◌, ◌-◌, ◌%◌, ◌^◌, ◌<◌, ◌≤◌, ◌⊎◌, false, List, [], ◌∷◌, get_or, set, get_or-set_other, get_or-set_same, refl, sym, ap, ◌∙◌, subst, inl, inr, ⊎_elim, arith}
use mathlib.Core.Logic.{dite}
use mathlib.Core.Option.{Option, some, none, some-injective, some-ne-none}
use native.Mathlib.Decide.{ℕ_discrete}
use lib.ListN.{get_elem?}
use Rattle.atomic_table.specs.Table.{State, stepped, keeps}
use Rattle.atomic_table.proofs.Lists.{at_set}
use Rattle.sock_model.specs.declared.marks.Mark.{Mark}
use Rattle.sock_model.specs.declared.marks.Mark.TheVariants.{Claimed, Known, Born, Linked}
use Rattle.sock_model.specs.declared.marks.SlotMark.{SlotMark}
use Rattle.sock_model.specs.declared.home.Home.{Home}
use Rattle.sock_model.specs.declared.home.Home.TheVariants.{Link}
use Rattle.sock_model.specs.sock_words.specs.declared.plain.Plan.{Plan}
use Rattle.sock_model.specs.declared.view.View.{View}
use Rattle.sock_model.specs.MarkWeights.{only, pair, is_busy, is_stage, is_reset, is_recycled, is_hold, is_freer, is_failer, is_linked, is_met}
use Rattle.sock_model.specs.Marks.{about, at, without_at}
use Rattle.sock_model.specs.SocketTableLayout.{ref_index, head_index, request_index, next_index, place_index}
use Rattle.sock_model.specs.SocketSlotLaw.{count}
use Rattle.sock_model.specs.References.{slot_facts}
use Rattle.sock_model.specs.SlotRows.{marks_of, gave_birth, staged}
use Rattle.sock_model.specs.Entries.{on}
use Rattle.sock_model.specs.ChainLawReads.{rights_on, claims_of, loose_at, head_at, memory, tokens, link_at, link_home, took_of, waits_of, hands_of}
use Rattle.sock_model.specs.LinksInSlots.{Given, Lives, InSlots}
use Rattle.sock_model.specs.LinkHomes.{Unborn, Recycles, LinkHomes}
use Rattle.sock_model.specs.LawfulSockets.{Lawful}
use Rattle.slot_steps.proofs.SlotWeightSums.{total-set, term_le, total_mono, about-here, about-other}
use Rattle.slot_steps.proofs.RuleNumbers.{pair_le, only-same, pair-same, pair_is, life-high}
use Rattle.slot_steps.proofs.ReferenceStepsKeepSlot.{stage_is}
use Rattle.slot_steps.proofs.KeptByTagSteps.{birth_keeps}
use Rattle.slot_steps.proofs.Stored.{head_keeps}
use Rattle.chain_steps.proofs.UntouchedByChainSteps.{Changed, in_log}
use Rattle.chain_steps.proofs.Gather.{gather_same}
use Rattle.chain_steps.proofs.Settles.{comes_in}
use Rattle.sock_steps.proofs.SumsAsMarksChange.{Less, More, less_add, more_add, less_without, more_without}
use Rattle.sock_steps.proofs.Steady.{waits-taken, staged_steady, staged_else}
use Rattle.sock_steps.proofs.LifeLinkSlotPlaces.{counts, own_count, given_more, failed_more, busy_idle, claimed_unborn}
use Rattle.sock_steps.proofs.SlotFrame.{still_holds, ChainWords, head_is, whole_law, slot_frame}
use Rattle.sock_steps.proofs.SlotSteps.{low_words}
use Rattle.sock_steps.proofs.Maps.{put, put-here, put-at, put-else, is_none, no_members}
use Rattle.sock_model.specs.sock_words.specs.PackedWords.{vref_version, IDLE}
use Rattle.sock_model.specs.sock_words.specs.Totals.{total}

stage_busy : (n k : ℕ) (x : Mark) → is_stage n k x ≤ is_busy x
stage_busy n k (Claimed a b) = pair_le n k a b
stage_busy n k _ = omega arith

stage_reset : (n k : ℕ) (x : Mark) → is_stage (suc (suc n)) k x ≤ is_reset x
stage_reset n k (Claimed zero b) = dite (ℕ_discrete (pair (suc (suc n)) k zero b) 0) (λ z. omega arith) (λ m. let t = pair_is (suc (suc n)) k zero b (omega arith) in let t₀ = t.0 in absurd (omega arith))
stage_reset n k (Claimed (suc zero) b) = dite (ℕ_discrete (pair (suc (suc n)) k (suc zero) b) 0) (λ z. omega arith) (λ m. let t = pair_is (suc (suc n)) k (suc zero) b (omega arith) in let t₀ = t.0 in absurd (omega arith))
stage_reset n k (Claimed (suc (suc a)) b) = pair_le (suc (suc n)) k (suc (suc a)) b
stage_reset n k _ = omega arith

module _ {S : Type 0} (shows : S → Home) (p : Plan) (s : State S View) (o : Lawful shows p s) (id : ℕ) (v : View) (here : get_elem? s.views id ≡ some v) (i : ℕ) (inside : i < p.slots) where
  -- nothing lives in a slot that the seat has claimed
  claimed_idle : (n k : ℕ) → 0 < marks_of (is_stage n k) i v → (h l : ℕ) → ¬ Lives p s i h l
  claimed_idle n k there h l g = busy_idle p s o.references i h l (omega (arith, own_count s id v here is_busy i, total_mono (is_stage n k) is_busy (stage_busy n k) (about i v.marks))) g

  -- S3
  pub reset_law : (k : ℕ) → 0 < marks_of (is_stage 1 k) i v → Lawful shows p (stepped s (head_index i) IDLE id [] (staged i 1 k 2 v) keeps)
  reset_law k there = let w : View = staged i 1 k 2 v in let st = staged_steady v i 1 k 2 there (λ x. refl) in let sized = o.references.sized in
      slot_frame shows p s o id v w here (set s.words (head_index i) IDLE) refl st.0
      record {
        heads = λ l j e. let a = o.in_slots.lives l j e in get_or-set_other s.words (head_index i) (head_index j) IDLE 0 (λ q. let same : j ≡ i = omega arith in claimed_idle 1 k there a.0 l (subst (λ y. Lives p s y a.0 l) same a.1));
        nexts = λ r rl. get_or-set_other s.words (head_index i) (next_index p r) IDLE 0 (λ q. omega arith);
        requests = λ r rl. get_or-set_other s.words (head_index i) (request_index p r) IDLE 0 (λ q. omega arith);
        places = λ l ll. get_or-set_other s.words (head_index i) (place_index p l) IDLE 0 (λ q. omega arith);
      }
      (λ j jl h. dite (ℕ_discrete j i)
      (λ e. ap (λ y. get_or (set s.words (head_index i) IDLE) (head_index y) 0) e ∙ get_or-set_same s.words (head_index i) IDLE 0 (omega arith))
      (λ n. get_or-set_other s.words (head_index i) (head_index j) IDLE 0 (λ q. n (omega arith)) ∙ o.in_slots.reset j jl (omega (arith, counts s id v w here (set s.words (head_index i) IDLE) s.homes is_reset j, staged_else v i 1 k 2 there j n))))
      (still_holds p v w st.0.met st.1.hold refl (o.held id v here)) (inl st.1.recycling) (head_keeps p s o.references id v here [] keeps i inside k IDLE there)

  module _ (fits : get_or s.words (ref_index i) 0 < 18446744073709551616) (k : ℕ) (there : 0 < marks_of (is_stage 3 k) i v) where
    abbrev found : ℕ
    found = get_or s.words (ref_index i) 0

    abbrev h : ℕ
    h = vref_version found

    abbrev rest : List SlotMark
    rest = without_at i (is_stage 3 k) v.marks

    abbrev w : View
    w = gave_birth i found k v

    abbrev ws : List ℕ
    ws = set s.words (ref_index i) ((found + 1) % 2 ^ 64)

    abbrev t : State S View
    t = record { words = ws; homes = s.homes; views = set s.views id w }

    unborn : (j g : ℕ) → ¬ Given p s j g k
    unborn = claimed_unborn p s o.references i 2 k (omega (arith, own_count s id v here (is_stage 3 k) i))

    waits : 0 < total (waits_of k) s.views
    waits = omega (arith, term_le (waits_of k) s.views id v here, waits-taken k i (is_stage 3 k) (Claimed 3 k) v.marks (stage_is 3 k) there, only-same k)

    was_home : (k < p.links) × (link_at shows p s.homes k ≡ some (Link k [] 0 false))
    was_home = o.homes.waiting k waits

    no_slot : o.slot k ≡ none
    no_slot = is_none (o.slot k) (λ j e. let a = o.in_slots.lives k j e in unborn j a.0 a.1.life)

    no_entries : on k o.log ≡ []
    no_entries = no_members (on k o.log) (λ n e g. let a = in_log o.chains k n e g in let b = o.in_slots.entered a.0 e a.1 in unborn b.0 b.1 (subst (λ y. Given p s b.0 b.1 y) a.2 b.2))

    head_idle : get_or s.words (head_index i) 0 ≡ IDLE
    head_idle = o.in_slots.reset i inside (omega (arith, own_count s id v here is_reset i, total_mono (is_stage 3 k) is_reset (stage_reset 1 k) (about i v.marks)))

    -- the marks of the seat
    more : (f : Mark → ℕ) → f (Claimed 3 k) ≡ 0 → More f v.marks w.marks
    more f z = more_add f v.marks i (Known h) (at i (Born h) ∷ at i (Linked h k) ∷ rest) (more_add f v.marks i (Born h) (at i (Linked h k) ∷ rest) (more_add f v.marks i (Linked h k) rest (more_without f v.marks i (is_stage 3 k) (λ x q. ap f (stage_is 3 k x q) ∙ z))))

    less : (f : Mark → ℕ) → f (Known h) ≡ 0 → f (Born h) ≡ 0 → f (Linked h k) ≡ 0 → Less f v.marks w.marks
    less f a b c = less_add f v.marks i (Known h) (at i (Born h) ∷ at i (Linked h k) ∷ rest) a (less_add f v.marks i (Born h) (at i (Linked h k) ∷ rest) b (less_add f v.marks i (Linked h k) rest c (less_without f v.marks i (is_stage 3 k))))

    less_else : (f : Mark → ℕ) → f (Known h) ≡ 0 → f (Born h) ≡ 0 → (j : ℕ) → j ≢ i → marks_of f j w ≤ marks_of f j v
    less_else f a b j n = let q : total f (about j w.marks) ≡ total f (about j rest) = ap (total f) (about-other j i (Known h) (at i (Born h) ∷ at i (Linked h k) ∷ rest) n ∙ (about-other j i (Born h) (at i (Linked h k) ∷ rest) n ∙ about-other j i (Linked h k) rest n)) in omega (arith, less_without f v.marks i (is_stage 3 k) j)

    count_of : (f : Mark → ℕ) (j : ℕ) → count f (slot_facts t j) + marks_of f j v ≡ count f (slot_facts s j) + marks_of f j w
    count_of f j = counts s id v w here ws s.homes f j

    -- links of lives after the birth
    to : (j g l : ℕ) → Given p s j g l → Given p t j g l
    to = given_more s id v w here ws s.homes p (λ j g l. more (is_linked g l) refl j)

    other_pair : (g l : ℕ) → l ≢ k → is_linked g l (Linked h k) ≡ 0
    other_pair g l n = dite (ℕ_discrete (pair g l h k) 0) (λ z. z) (λ m. absurd (n (sym (pair_is g l h k (omega arith)).1)))

    from : (j g l : ℕ) → l ≢ k → Given p t j g l → Given p s j g l
    from j g l n b = let a = b.given in record { inside = b.inside; given = omega (arith, count_of (is_linked g l) j, less (is_linked g l) refl refl (other_pair g l n) j) }

    -- the new life is the link's one
    only_here : (j g : ℕ) → Given p t j g k → j ≡ i
    only_here j g b = let a = b.given in dite (ℕ_discrete j i) (λ e. e) (λ n. absurd (unborn j g record { inside = b.inside; given = omega (arith, count_of (is_linked g k) j, less_else (is_linked g k) refl refl j n) }))

    born : Lives p t i h k
    born = let law = o.references.slots i inside in record {
      life = record { inside = inside; given = omega (arith, count_of (is_linked h k) i, mine, pair-same h k, own_count s id v here (is_linked h k) i) };
      unended = omega (arith, count_of (is_freer h) i, less (is_freer h) refl refl refl i, law.ended h, life-high p.first h ((slot_facts s i).version - 1) (omega arith));
    }
      where
        mine : pair h k h k ≤ marks_of (is_linked h k) i w
        mine = let q : total (is_linked h k) (about i w.marks) ≡ 0 + (0 + (pair h k h k + total (is_linked h k) (about i rest))) = ap (total (is_linked h k)) (about-here i (Known h) (at i (Born h) ∷ at i (Linked h k) ∷ rest)) ∙ ap (total (is_linked h k)) (tail i) in omega arith
          where
            tail : (i : ℕ) → Known h ∷ about i (at i (Born h) ∷ at i (Linked h k) ∷ rest) ≡ Known h ∷ Born h ∷ Linked h k ∷ about i rest
            tail i = ap (λ y. Known h ∷ y) (about-here i (Born h) (at i (Linked h k) ∷ rest) ∙ ap (λ y. Born h ∷ y) (about-here i (Linked h k) rest))

    abbrev slot : ℕ → Option ℕ
    slot = put o.slot k (some i)

    has_slot : (l j : ℕ) → slot l ≡ some j → ((l ≡ k) × (j ≡ i)) ⊎ ((l ≢ k) × (o.slot l ≡ some j))
    has_slot l j e = dite (ℕ_discrete l k) (λ y. inl (y, some-injective j i (sym e ∙ put-at o.slot k l (some i) y))) (λ n. inr (n, sym (put-else o.slot k l (some i) n) ∙ e))

    slots_after : InSlots p t slot o.log
    slots_after = record {
      lives = λ l j e. ⊎_elim
          (λ y. (h, subst (λ x. Lives p t x h l) (sym y.1) (subst (λ x. Lives p t i h x) (sym y.0) born)))
          (λ y. let a = o.in_slots.lives l j y.1 in let u = a.1.unended in (a.0, record { life = to j a.0 l a.1.life; unended = omega (arith, count_of (is_freer a.0) j, less (is_freer a.0) refl refl refl j) })) (has_slot l j e);
      alone = λ j g l b. dite (ℕ_discrete l k)
          (λ y. put-at o.slot k l (some i) y ∙ ap (λ (x : ℕ). some x) (sym (only_here j g (subst (λ x. Given p t j g x) y b.life))))
          (λ n. put-else o.slot k l (some i) n ∙ o.in_slots.alone j g l record { life = from j g l n b.life; unended = (let u = b.unended in omega (arith, count_of (is_freer g) j, more (is_freer g) refl j)) });
      small = λ j g l b. dite (ℕ_discrete l k) (λ y. subst (λ x. x < p.links) (sym y) was_home.0) (λ n. o.in_slots.small j g l (from j g l n b));
      entered = λ q e g. let a = o.in_slots.entered q e g in (a.0, a.1, to a.0 a.1 e.link a.2);
      reset = λ j jl b. get_or-set_other s.words (ref_index i) (head_index j) ((found + 1) % 2 ^ 64) 0 (λ q. omega arith) ∙ o.in_slots.reset j jl (omega (arith, count_of is_reset j, less is_reset refl refl refl j));
    }

    waiters_less : (l : ℕ) → total (waits_of l) (set s.views id w) + only l k ≤ total (waits_of l) s.views
    waiters_less l = omega (arith, total-set (waits_of l) s.views id v w here, waits-taken l i (is_stage 3 k) (Claimed 3 k) v.marks (stage_is 3 k) there)

    handlers_same : (l : ℕ) → total (hands_of l) (set s.views id w) ≡ total (hands_of l) s.views
    handlers_same l = omega (arith, total-set (hands_of l) s.views id v w here)

    -- who has the link k in hand
    no_hand : (l : ℕ) → 0 < total (hands_of l) s.views → l ≢ k
    no_hand l b e = let a = (o.homes.hands l b).1 in let c = waits in omega (arith, ap (λ y. total (waits_of y) s.views) e)

    homes_after : LinkHomes shows p t slot
    homes_after = record {
      own = λ l x ll b. let a = o.homes.own l x ll b in dite (ℕ_discrete l k)
          (λ y. record { took = []; next = 0; done = false; is = some-injective x (Link l [] 0 false) (sym b ∙ (ap (link_at shows p s.homes) y ∙ (was_home.1 ∙ ap (λ z. some (Link z [] 0 false)) (sym y)))); «open» = λ j e. refl })
          (λ n. record { took = a.took; next = a.next; done = a.done; is = a.is; «open» = λ j e. a.«open» j (sym (put-else o.slot k l (some i) n) ∙ e) });
      idle = λ l j ll e none_. ⊎_elim (λ y. ([], 0, ap (link_home shows p s.homes) y.0 ∙ ap took_of was_home.1)) (λ y. o.homes.idle l j ll y.1 (sym (rights_same l) ∙ none_)) (has_slot l j e);
      busy = λ l r ll b. o.homes.busy l r ll (sym (rights_same l) ∙ b);
      waiting = λ l b. o.homes.waiting l (omega (arith, waiters_less l));
      outside = λ l ll e. let n : l ≢ k = λ y. some-ne-none i (sym (put-at o.slot k l (some i) y) ∙ e) in
          ⊎_elim (λ y. inl y) (λ y. inr (omega (arith, handlers_same l))) (o.homes.outside l ll (sym (put-else o.slot k l (some i) n) ∙ e));
      hands = λ l b. let b' : 0 < total (hands_of l) s.views = omega (arith, handlers_same l) in let a = o.homes.hands l b' in let z = a.1 in (put-else o.slot k l (some i) (no_hand l b') ∙ a.0, omega (arith, waiters_less l));
      hand_of = λ j l u g b. ⊎_elim
          (λ y. let bv : 0 < hands_of l v = omega (arith, ap (hands_of l) y.1) in let n = no_hand l (omega (arith, term_le (hands_of l) s.views id v here)) in
          carry l u n (λ a x. let q = ap (λ (z : View). marks_of (is_recycled x) a z) y.1 in omega (arith, more (is_recycled x) refl a)) (o.homes.hand_of id l v here bv))
          (λ y. carry l u (no_hand l (omega (arith, term_le (hands_of l) s.views j u y.1))) (λ a x. omega arith) (o.homes.hand_of j l u y.1 b)) (at_set s.views id j w u g);
    }
      where
        rights_same : (l : ℕ) → (tokens (set s.views id w)).rights l ≡ (tokens s.views).rights l
        rights_same l = gather_same (rights_on l) s.views id v w here refl

        carry : (l : ℕ) {v' : View} (u : View) → l ≢ k → ((a x : ℕ) → marks_of (is_recycled x) a v' ≤ marks_of (is_recycled x) a u) → Unborn shows p s l ⊎ Recycles shows p s v' l → Unborn shows p t l ⊎ Recycles shows p t u l
        carry l {v'} u n rec (inl a) = inl (λ j g b. a j g (from j g l n b))
        carry l {v'} u n rec (inr a) = let b = a.recycling in inr record { slot = a.slot; version = a.version; recycling = omega (arith, rec a.slot a.version); life = to a.slot (a.version - 2) l a.life }

    -- A2
    pub birth_law : Lawful shows p (stepped s (ref_index i) ((found + 1) % 2 ^ 64) id [] (gave_birth i found k v) keeps)
    birth_law = whole_law shows p s o id v w here ws refl slot (birth_keeps p s o.references id v here [] keeps i inside fits k there) slots_after
        (still_holds p v w (λ a b c. more (is_met b c) refl a) (λ a b. more (is_hold b) refl a) refl (o.held id v here))
        (comes_in o.chains k was_home.0 no_entries (ap (head_at s.words) no_slot) heads words.nexts words.requests (λ l ll. rights_same l)
        (λ r rl. gather_same (claims_of r) s.views id v w here refl) (λ r rl. gather_same (loose_at r) s.views id v w here refl))
        words.places (λ l ll. failed_more s id v w here ws s.homes p (λ j g x. more (is_linked g x) refl j) (λ j g. more (is_failer g) refl j) l) homes_after
      where
        words : ChainWords p o.slot s.words ws
        words = low_words shows p s o id v here (ref_index i) ((found + 1) % 2 ^ 64) (omega arith) (λ j jl e. omega arith)

        rights_same : (l : ℕ) → (tokens (set s.views id w)).rights l ≡ (tokens s.views).rights l
        rights_same l = gather_same (rights_on l) s.views id v w here refl

        heads : Changed p.links (memory p o.slot s.words).head (memory p slot ws).head k (some IDLE)
        heads = record {
          here = ap (head_at ws) (put-here o.slot k (some i)) ∙ ap (λ (y : ℕ). some y) (get_or-set_other s.words (ref_index i) (head_index i) ((found + 1) % 2 ^ 64) 0 (λ q. omega arith) ∙ head_idle);
          else = λ l ll n. ap (head_at ws) (put-else o.slot k l (some i) n) ∙ head_is (o.slot l) s.words ws (words.heads l);
        }
