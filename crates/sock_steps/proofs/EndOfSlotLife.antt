-- A6, won: the life of a slot ends, and its link leaves the slot.
use Rattle.std.proofs.Common.{◌≡◌, ◌≢◌, ℕ, ◌+◌, ◌-◌, ◌*◌, ◌%◌, ◌<◌, ◌≤◌, ◌⊎◌, List, [], ◌∷◌, get_or, set, get_or-set_other, eqb, eqb-true, eq-eqb, cond, refl, sym, ap, ◌∙◌, subst, inl, inr, ⊎_elim, arith}
use mathlib.Core.Logic.{dite}
use mathlib.Core.Option.{Option, some, none, some-injective, some-ne-none}
use native.Mathlib.Decide.{ℕ_discrete}
use lib.ListN.{get_elem?}
use Rattle.atomic_table.specs.Table.{State, stepped, keeps}
use Rattle.atomic_table.proofs.Lists.{at_set}
use Rattle.sock_model.specs.declared.marks.Mark.{Mark}
use Rattle.sock_model.specs.declared.marks.Mark.TheVariants.{Recycling, Zero, Freer}
use Rattle.sock_model.specs.declared.marks.SlotMark.{SlotMark}
use Rattle.sock_model.specs.declared.chain.Right.{Right}
use Rattle.sock_model.specs.declared.home.Home.{Home}
use Rattle.sock_model.specs.sock_words.specs.declared.plain.Plan.{Plan}
use Rattle.sock_model.specs.declared.view.View.{View}
use Rattle.sock_model.specs.MarkWeights.{only, is_busy, is_zero, is_reset, is_recycled, is_hold, is_freer, is_failer, is_linked, is_met}
use Rattle.sock_model.specs.Marks.{about, at, without_at}
use Rattle.sock_model.specs.SocketTableLayout.{ref_index, head_index}
use Rattle.sock_model.specs.SocketSlotLaw.{count}
use Rattle.sock_model.specs.References.{slot_facts, References}
use Rattle.sock_model.specs.SlotRows.{marks_of, recycled}
use Rattle.sock_model.specs.ChainLawReads.{rights_on, claims_of, loose_at, head_at, memory, tokens, link_at, waits_of, hands_of}
use Rattle.sock_model.specs.LinksInSlots.{Given, Lives, InSlots}
use Rattle.sock_model.specs.LinkHomes.{Unborn, Recycles, LinkHomes}
use Rattle.sock_model.specs.LawfulSockets.{Lawful}
use Rattle.slot_steps.proofs.SlotWeightSums.{total-set, about-here, about-other}
use Rattle.slot_steps.proofs.RuleNumbers.{only-same, life-high, live-odd}
use Rattle.slot_steps.proofs.ReferenceStepsKeepSlot.{zero_is}
use Rattle.slot_steps.proofs.KeptByTagSteps.{recycle_keeps}
use Rattle.chain_steps.proofs.TicketLists.{filter_at}
use Rattle.chain_steps.proofs.UntouchedByChainSteps.{Changed}
use Rattle.chain_steps.proofs.Gather.{gather_same}
use Rattle.chain_steps.proofs.Settles.{goes_out}
use Rattle.sock_steps.proofs.SumsAsMarksChange.{Less, More, less_add, more_add, less_without, more_without, waits-without}
use Rattle.sock_steps.proofs.LifeLinkSlotPlaces.{counts, own_count, given_more, failed_more, last_life, one_link, holder_lives, held_nref}
use Rattle.sock_steps.proofs.SlotFrame.{still_holds, ChainWords, head_is, whole_law}
use Rattle.sock_steps.proofs.SlotSteps.{low_words}
use Rattle.sock_steps.proofs.Maps.{put, put-here, put-at, put-else, no_members, gather_nil, took_some}
use Rattle.sock_model.specs.sock_words.specs.PackedWords.{vref_version, vref_nref}
use Rattle.sock_model.specs.sock_words.specs.Totals.{total}

module _ {S : Type 0} (shows : S → Home) (p : Plan) (s : State S View) (o : Lawful shows p s) where
  -- where nobody refers to a slot, nobody has the right to write its link
  pub unwritten : (i g k : ℕ) → Lives p s i g k → (slot_facts s i).nref ≡ 0 → (tokens s.views).rights k ≡ []
  unwritten i g k b idle = gather_nil (rights_on k) s.views (λ id u at_u. no_members (rights_on k u) (λ n r has.
      let a = filter_at (λ (x : Right). eqb x.link k) u.rights n r has in let link_is : r.link ≡ k = eqb-true r.link k a.2 in
      let c = o.held id u at_u a.0 r a.1 in let d = holder_lives p s o.references id u c.1 c.2 r.link at_u c.3 in
      let here : o.slot k ≡ some c.1 = o.in_slots.alone c.1 c.2 k (subst (λ y. Lives p s c.1 c.2 y) link_is d) in
      let same : i ≡ c.1 = some-injective i c.1 (sym (o.in_slots.alone i g k b) ∙ here) in
      let some_ = held_nref p s o.references id u c.1 c.2 at_u c.3.inside c.3.held in omega (arith, ap (λ y. (slot_facts s y).nref) same)))

module _ {S : Type 0} (shows : S → Home) (p : Plan) (s : State S View) (o : Lawful shows p s) (id : ℕ) (v : View) (here : get_elem? s.views id ≡ some v) (i : ℕ) (inside : i < p.slots)
    (fits : get_or s.words (ref_index i) 0 < 18446744073709551616) (from : ℕ) (hit : get_or s.words (ref_index i) 0 ≡ from) (odd : vref_version from % 2 ≡ 1) (last : vref_nref from ≡ 0) (there : 0 < marks_of (is_zero (vref_version from)) i v) where
  abbrev x : ℕ
  x = vref_version from

  abbrev g : ℕ
  g = x - 1

  abbrev k : ℕ
  k = (slot_facts s i).link

  abbrev rest : List SlotMark
  rest = without_at i (is_zero x) v.marks

  abbrev all : List SlotMark
  all = at i (Recycling (x + 1)) ∷ at i (Freer (x - 1)) ∷ rest

  abbrev w : View
  w = record v { marks = all }

  abbrev ws : List ℕ
  ws = set s.words (ref_index i) ((x + 1) * 4294967296)

  abbrev t : State S View
  t = record { words = ws; homes = s.homes; views = set s.views id w }

  version_is : (slot_facts s i).version ≡ x
  version_is = ap vref_version hit

  lives : Lives p s i g k
  lives = let law = o.references.slots i inside in let e = version_is in let q : (slot_facts s i).version - 1 ≡ g = omega arith in record {
    life = record { inside = inside; given = subst (λ y. 0 < count (is_linked y k) (slot_facts s i)) q (law.link_odd (ap (λ y. y % 2) version_is ∙ odd)) };
    unended = omega (arith, law.ended g, life-high p.first g ((slot_facts s i).version - 1) (omega arith));
  }

  in_slot : o.slot k ≡ some i
  in_slot = o.in_slots.alone i g k lives

  k_in : k < p.links
  k_in = o.in_slots.small i g k lives.life

  gone : (tokens s.views).rights k ≡ []
  gone = unwritten shows p s o i g k lives (ap vref_nref hit ∙ last)

  more : (f : Mark → ℕ) → f (Zero x) ≡ 0 → More f v.marks all
  more f z = more_add f v.marks i (Recycling (x + 1)) (at i (Freer (x - 1)) ∷ rest) (more_add f v.marks i (Freer (x - 1)) rest (more_without f v.marks i (is_zero x) (λ y q. ap f (zero_is x y q) ∙ z)))

  less : (f : Mark → ℕ) → f (Recycling (x + 1)) ≡ 0 → f (Freer (x - 1)) ≡ 0 → Less f v.marks all
  less f a b = less_add f v.marks i (Recycling (x + 1)) (at i (Freer (x - 1)) ∷ rest) a (less_add f v.marks i (Freer (x - 1)) rest b (less_without f v.marks i (is_zero x)))

  less_else : (f : Mark → ℕ) → (j : ℕ) → j ≢ i → marks_of f j w ≤ marks_of f j v
  less_else f j n = let q : total f (about j all) ≡ total f (about j rest) = ap (total f) (about-other j i (Recycling (x + 1)) (at i (Freer (x - 1)) ∷ rest) n ∙ about-other j i (Freer (x - 1)) rest n) in omega (arith, less_without f v.marks i (is_zero x) j)

  count_of : (f : Mark → ℕ) (j : ℕ) → count f (slot_facts t j) + marks_of f j v ≡ count f (slot_facts s j) + marks_of f j w
  count_of f j = counts s id v w here ws s.homes f j

  ended : 0 < count (is_freer g) (slot_facts t i)
  ended = let q : total (is_freer g) (about i all) ≡ 0 + (only g g + total (is_freer g) (about i rest)) = ap (total (is_freer g)) (about-here i (Recycling (x + 1)) (at i (Freer (x - 1)) ∷ rest) ∙ ap (λ (y : List Mark). Recycling (x + 1) ∷ y) (about-here i (Freer (x - 1)) rest)) in
      omega (arith, count_of (is_freer g) i, own_count s id v here (is_freer g) i, only-same g)

  to : (j h l : ℕ) → Given p s j h l → Given p t j h l
  to = given_more s id v w here ws s.homes p (λ j h l. more (is_linked h l) refl j)

  back : (j h l : ℕ) → Given p t j h l → Given p s j h l
  back j h l b = let a = b.given in record { inside = b.inside; given = omega (arith, count_of (is_linked h l) j, less (is_linked h l) refl refl j) }

  lives_back : (j h l : ℕ) → Lives p t j h l → Lives p s j h l
  lives_back j h l b = let u = b.unended in record { life = back j h l b.life; unended = omega (arith, count_of (is_freer h) j, more (is_freer h) refl j) }

  abbrev slot : ℕ → Option ℕ
  slot = put o.slot k none

  had_slot : (l j : ℕ) → slot l ≡ some j → (l ≢ k) × (o.slot l ≡ some j)
  had_slot l j e = let n : l ≢ k = λ y. some-ne-none j (sym e ∙ put-at o.slot k l none y) in (n, sym (put-else o.slot k l none n) ∙ e)

  -- of the slot i no life goes on
  none_lives : (h l : ℕ) → ¬ Lives p t i h l
  none_lives h l b = let a = lives_back i h l b in let law = o.references.slots i inside in let low = law.link_low h l a.life.given in let late = last_life p s o.references i h l a in let v_is = version_is in
      let no_life = live-odd (slot_facts s i).tag (slot_facts s i).version (count is_busy (slot_facts s i)) (ap (λ y. y % 2) version_is ∙ odd) in
      let same : h ≡ g = omega arith in let u = b.unended in omega (arith, ended, ap (λ y. count (is_freer y) (slot_facts t i)) same)

  slots_after : InSlots p t slot o.log
  slots_after = record {
    lives = λ l j e. let y = had_slot l j e in let a = o.in_slots.lives l j y.1 in let u = a.1.unended in
        let far : j ≢ i = λ q. y.0 (sym (one_link p s o.references i g a.0 k l lives (subst (λ z. Lives p s z a.0 l) q a.1))) in
        (a.0, record { life = to j a.0 l a.1.life; unended = omega (arith, count_of (is_freer a.0) j, less_else (is_freer a.0) j far) });
    alone = λ j h l b. dite (ℕ_discrete l k)
        (λ y. let q : some i ≡ some j = sym in_slot ∙ (ap o.slot (sym y) ∙ o.in_slots.alone j h l (lives_back j h l b)) in
        absurd (none_lives h l (subst (λ z. Lives p t z h l) (sym (some-injective i j q)) b)))
        (λ n. put-else o.slot k l none n ∙ o.in_slots.alone j h l (lives_back j h l b));
    small = λ j h l b. o.in_slots.small j h l (back j h l b);
    entered = λ q e c. let a = o.in_slots.entered q e c in (a.0, a.1, to a.0 a.1 e.link a.2);
    reset = λ j jl b. get_or-set_other s.words (ref_index i) (head_index j) ((x + 1) * 4294967296) 0 (λ q. omega arith) ∙ o.in_slots.reset j jl (omega (arith, count_of is_reset j, less is_reset refl refl j));
  }

  waiters_less : (l : ℕ) → total (waits_of l) (set s.views id w) ≤ total (waits_of l) s.views
  waiters_less l = omega (arith, total-set (waits_of l) s.views id v w here, waits-without l i (is_zero x) v.marks)

  handlers_same : (l : ℕ) → total (hands_of l) (set s.views id w) ≡ total (hands_of l) s.views
  handlers_same l = omega (arith, total-set (hands_of l) s.views id v w here)

  rights_same : (l : ℕ) → (tokens (set s.views id w)).rights l ≡ (tokens s.views).rights l
  rights_same l = gather_same (rights_on l) s.views id v w here refl

  homes_after : LinkHomes shows p t slot
  homes_after = record {
    own = λ l y ll b. let a = o.homes.own l y ll b in record { took = a.took; next = a.next; done = a.done; is = a.is; «open» = λ j e. a.«open» j (had_slot l j e).1 };
    idle = λ l j ll e none_. o.homes.idle l j ll (had_slot l j e).1 (sym (rights_same l) ∙ none_);
    busy = λ l r ll b. o.homes.busy l r ll (sym (rights_same l) ∙ b);
    waiting = λ l b. o.homes.waiting l (omega (arith, waiters_less l));
    outside = λ l ll e. dite (ℕ_discrete l k)
        (λ y. let a = o.homes.idle l i ll (ap o.slot y ∙ in_slot) (ap (tokens s.views).rights y ∙ gone) in inl (took_some (link_at shows p s.homes l) (a.0, a.1) a.2))
        (λ n. ⊎_elim (λ y. inl y) (λ y. inr (omega (arith, handlers_same l))) (o.homes.outside l ll (sym (put-else o.slot k l none n) ∙ e)));
    hands = λ l b. let a = o.homes.hands l (omega (arith, handlers_same l)) in let z = a.1 in
        (dite (ℕ_discrete l k) (λ y. put-at o.slot k l none y) (λ n. put-else o.slot k l none n ∙ a.0), omega (arith, waiters_less l));
    hand_of = λ j l u c b. ⊎_elim
        (λ y. carry l u (λ a z. let q = ap (λ (r : View). marks_of (is_recycled z) a r) y.1 in omega (arith, more (is_recycled z) refl a)) (o.homes.hand_of id l v here (omega (arith, ap (hands_of l) y.1))))
        (λ y. carry l u (λ a z. omega arith) (o.homes.hand_of j l u y.1 b)) (at_set s.views id j w u c);
  }
    where
      carry : (l : ℕ) {v' : View} (u : View) → ((a y : ℕ) → marks_of (is_recycled y) a v' ≤ marks_of (is_recycled y) a u) → Unborn shows p s l ⊎ Recycles shows p s v' l → Unborn shows p t l ⊎ Recycles shows p t u l
      carry l {v'} u rec (inl a) = inl (λ j h b. a j h (back j h l b))
      carry l {v'} u rec (inr a) = let b = a.recycling in inr record { slot = a.slot; version = a.version; recycling = omega (arith, rec a.slot a.version); life = to a.slot (a.version - 2) l a.life }

  won : References p t → Lawful shows p t
  won refs = whole_law shows p s o id v w here ws refl slot refs slots_after (still_holds p v w (λ a b l. more (is_met b l) refl a) (λ a b. more (is_hold b) refl a) refl (o.held id v here))
      (goes_out o.chains k k_in gone heads words.nexts words.requests (λ l ll. rights_same l) (λ r rl. gather_same (claims_of r) s.views id v w here refl) (λ r rl. gather_same (loose_at r) s.views id v w here refl))
      words.places (λ l ll. failed_more s id v w here ws s.homes p (λ j h y. more (is_linked h y) refl j) (λ j h. more (is_failer h) refl j) l) homes_after
    where
      words : ChainWords p o.slot s.words ws
      words = low_words shows p s o id v here (ref_index i) ((x + 1) * 4294967296) (omega arith) (λ j jl e. omega arith)

      heads : Changed p.links (memory p o.slot s.words).head (memory p slot ws).head k none
      heads = record {
        here = ap (head_at ws) (put-here o.slot k none);
        else = λ l ll n. ap (head_at ws) (put-else o.slot k l none n) ∙ head_is (o.slot l) s.words ws (words.heads l);
      }

  -- A6, won
  pub recycle_law : Lawful shows p (stepped s (ref_index i) ((x + 1) * 4294967296) id [] (recycled i from (get_or s.words (ref_index i) 0) v) keeps)
  recycle_law = let is : w ≡ recycled i from (get_or s.words (ref_index i) 0) v = ap (λ b. record v { marks = cond b all rest }) (sym (eq-eqb (get_or s.words (ref_index i) 0) from hit)) in
      let refs = recycle_keeps p s o.references id v here [] keeps i inside fits o.fits.even from hit odd last there in
      subst (λ (u : View). Lawful shows p (stepped s (ref_index i) ((x + 1) * 4294967296) id [] u keeps)) is
      (won (subst (λ (u : View). References p (stepped s (ref_index i) ((x + 1) * 4294967296) id [] u keeps)) (sym is) refs))
