-- L1 and L2 without a right: the link of a recycled slot, or of a pass that no life came of, is taken out of its home and put back.
use Rattle.std.proofs.Common.{◌≡◌, ◌≢◌, ℕ, zero, suc, ◌+◌, ◌-◌, ◌<◌, ◌≤◌, ◌⊎◌, not, cond, Bool, false, eqb, eqb-true, eq-eqb, ne_eqb, List, [], ◌∷◌, length, map, get_or, set, sym, refl, ap, ◌∙◌, subst, inl, inr, ⊎_elim, arith}
use Rattle.std.specs.List.{filter}
use mathlib.Core.Logic.{dite}
use mathlib.Core.Option.{Option, some, none, some-injective, some-ne-none}
use native.Mathlib.Decide.{ℕ_discrete}
use lib.ListN.{get_elem?}
use Rattle.atomic_table.specs.Table.{State}
use Rattle.atomic_table.proofs.Lists.{at_set, at_map, set_else}
use Rattle.sock_model.specs.declared.marks.Mark.{Mark}
use Rattle.sock_model.specs.declared.marks.Mark.TheVariants.{Recycling}
use Rattle.sock_model.specs.declared.chain.Right.{Right}
use Rattle.sock_model.specs.declared.chain.Claim.{Claim}
use Rattle.sock_model.specs.declared.chain.Loose.{Loose}
use Rattle.sock_model.specs.declared.home.Home.{Home}
use Rattle.sock_model.specs.declared.home.Home.TheVariants.{Empty, Link, Message}
use Rattle.sock_model.specs.sock_words.specs.declared.plain.Plan.{Plan}
use Rattle.sock_model.specs.declared.view.View.{View}
use Rattle.sock_model.specs.declared.view.Hand.{Hand}
use Rattle.sock_model.specs.MarkWeights.{only, is_hold, is_busy, is_recycling, is_recycled, is_met}
use Rattle.sock_model.specs.Marks.{about}
use Rattle.sock_model.specs.SocketTableLayout.{place_index}
use Rattle.sock_model.specs.SlotRows.{marks_of}
use Rattle.sock_model.specs.Entries.{on}
use Rattle.sock_model.specs.Deliveries.{HasTaken}
use Rattle.sock_model.specs.ChainLawReads.{letter_of, took_of, as_link, shown, message, link_at, link_home, rights_on, claims_of, loose_at, tokens, waits_of, carries, hands_of}
use Rattle.sock_model.specs.ChainRows.{with_hand, without_hand, spent_hand}
use Rattle.sock_model.specs.LinksInSlots.{Given, Lives}
use Rattle.sock_model.specs.LinkHomes.{IsOwn, Unborn, Recycles}
use Rattle.sock_model.specs.LawfulSockets.{Lawful}
use Rattle.slot_steps.proofs.SlotWeightSums.{total-set, term_le, total_mono, total_some}
use Rattle.slot_steps.proofs.RuleNumbers.{only-same, only-else}
use Rattle.slot_steps.proofs.ReferenceStepsKeepSlot.{recycled_le}
use Rattle.slot_steps.proofs.OtherSlotsUntouched.{passes-without}
use Rattle.chain_steps.proofs.TicketLists.{filter_at, at_length}
use Rattle.chain_steps.proofs.UntouchedByChainSteps.{Same, chains_frame}
use Rattle.chain_steps.proofs.Gather.{gather_same}
use Rattle.chain_steps.proofs.Authored.{keeps_lists}
use Rattle.chain_steps.proofs.ChainLettersStay.{messages_frame}
use Rattle.chain_steps.proofs.Delivers.{delivers_same, delivers_home}
use Rattle.sock_steps.proofs.Steady.{Steady}
use Rattle.sock_steps.proofs.LifeLinkSlotPlaces.{own_count, given_to, given_from, given_once, given_unwaited, waiters_once, busy_idle, holder_lives, two_seats}
use Rattle.sock_steps.proofs.ChainWordChanges.{beside_all}
use Rattle.sock_steps.proofs.ChainFrame.{SameSlots, steady_same, Carries, no_slot_of, chain_frame}
use Rattle.sock_steps.proofs.Maps.{set_at, is_none, no_members, gather_nil}
use Rattle.sock_model.specs.sock_words.specs.Totals.{total}

-- a home that has a link
pub link_value : {S : Type 0} (shows : S → Home) (h : Option (Option S)) (k : ℕ) (t : List ℕ) (n : ℕ) (d : Bool) → as_link (shown shows h) ≡ some (Link k t n d) → (y : S) × (h ≡ some (some y)) × (shows y ≡ Link k t n d)
link_value shows none k t n d e = absurd (some-ne-none (Link k t n d) (sym e))
link_value shows (some none) k t n d e = absurd (some-ne-none (Link k t n d) (sym e))
link_value shows (some (some y)) k t n d e = (y, refl, link_is (shows y) k t n d e)
  where
    link_is : (y : Home) (k : ℕ) (t : List ℕ) (n : ℕ) (d : Bool) → as_link (some y) ≡ some (Link k t n d) → y ≡ Link k t n d
    link_is Empty k t n d e = absurd (some-ne-none (Link k t n d) (sym e))
    link_is (Link a b c f) k t n d e = some-injective (Link a b c f) (Link k t n d) e
    link_is (Message a b) k t n d e = absurd (some-ne-none (Link k t n d) (sym e))

-- nobody has the right to write a link that is in no slot
pub no_rights : {S : Type 0} (shows : S → Home) (p : Plan) (s : State S View) (o : Lawful shows p s) (k : ℕ) → o.slot k ≡ none → (tokens s.views).rights k ≡ []
no_rights shows p s o k none_ = gather_nil (rights_on k) s.views (λ id u at_u. no_members (rights_on k u) (λ n r has.
    let a = filter_at (λ (x : Right). eqb x.link k) u.rights n r has in let link_is : r.link ≡ k = eqb-true r.link k a.2 in
    let c = o.held id u at_u a.0 r a.1 in let d = holder_lives p s o.references id u c.1 c.2 r.link at_u c.3 in
    some-ne-none c.1 (sym (o.in_slots.alone c.1 c.2 k (subst (λ y. Lives p s c.1 c.2 y) link_is d)) ∙ none_)))

module _ {S : Type 0} (shows : S → Home) (p : Plan) (s : State S View) (o : Lawful shows p s) (id : ℕ) (v w : View) (at : get_elem? s.views id ≡ some v) (same : SameSlots v w)
    (claims : w.claims ≡ v.claims) (loose : w.loose ≡ v.loose) (rights : w.rights ≡ v.rights) (lists : w.lists ≡ v.lists) (k : ℕ) (no_slot : o.slot k ≡ none) (z : Option S) (long : p.requests + k < length s.homes) where
  abbrev hs : List (Option S)
  hs = set s.homes (p.requests + k) z

  abbrev t : State S View
  t = record { words = s.words; homes = hs; views = set s.views id w }

  here : link_at shows p hs k ≡ as_link (shown shows (some z))
  here = ap (λ y. as_link (shown shows y)) (set_at s.homes (p.requests + k) z long)

  else_ : (j : ℕ) → j ≢ k → link_at shows p hs j ≡ link_at shows p s.homes j
  else_ j ne = ap (λ y. as_link (shown shows y)) (set_else s.homes (p.requests + k) (p.requests + j) z (λ q. ne (omega arith)))

  rt : (j : ℕ) → (tokens (set s.views id w)).rights j ≡ (tokens s.views).rights j
  rt j = gather_same (rights_on j) s.views id v w at (ap (λ (l : List Right). filter (λ (x : Right). eqb x.link j) l) rights)

  st : Steady v w
  st = steady_same v w same

  -- the link k is put into a hand that belongs to no right, or out of it
  pub hand_frame : ((j : ℕ) → j ≢ k → hands_of j w ≡ hands_of j v) → total (waits_of k) (set s.views id w) ≡ 0
      → ((x : Home) → as_link (shown shows (some z)) ≡ some x → IsOwn o.slot k x)
      → ((x : Home) × (as_link (shown shows (some z)) ≡ some x)) ⊎ (0 < total (hands_of k) (set s.views id w))
      → (0 < hands_of k w → Unborn shows p s k ⊎ Recycles shows p s w k) → Carries o w
      → ((took : List ℕ) (next : ℕ) → took_of (as_link (shown shows (some z))) ≡ some (took, next) → HasTaken (on k o.log) (o.places k) (o.kept k) took next)
      → Lawful shows p t
  hand_frame others idle own where_ whose mine took_is = let words = beside_all p o.slot s.words in
      let ms : Same p.requests (message shows s.homes) (message shows hs) = λ q ql. ap (λ y. letter_of (shown shows y)) (set_else s.homes (p.requests + k) q z (λ e. omega arith)) in
      let cl : Same p.requests (tokens s.views).claims (tokens (set s.views id w)).claims = λ r rl. gather_same (claims_of r) s.views id v w at (ap (λ (l : List Claim). filter (λ (x : Claim). eqb x.request r) l) claims) in
      let lo : Same p.requests (tokens s.views).loose (tokens (set s.views id w)).loose = λ r rl. gather_same (loose_at r) s.views id v w at (ap (λ (l : List Loose). filter (λ (x : Loose). eqb x.request r) l) loose) in
      chain_frame shows p s o id v w at s.words hs same words o.log o.freed o.places o.kept o.in_slots.entered
      (λ i r g. let x = o.held id v at i r (subst (λ l. get_elem? l i ≡ some r) rights g) in let h = x.3 in let a = h.held in let b = h.met in
      (x.0, x.1, x.2, record { inside = h.inside; held = omega (arith, ap (λ y. total (is_hold x.2) (about x.1 y)) same.marks); met = omega (arith, st.met x.1 x.2 r.link) }))
      mine (λ j e. (refl, refl, refl))
      (chains_frame o.chains (λ j jl. refl) (λ r rl. refl) (λ r rl. refl) (λ j jl. rt j) cl lo)
      (keeps_lists (λ (y : View). y.lists) s.views o.log id v w o.authors at lists)
      (messages_frame o.chains o.messages (tokens (set s.views id w)) (message shows hs) ms cl
      (λ j e jl u. record { right = u.right; has = rt j ∙ u.has; stage = u.stage; taken = u.taken }) (λ j r jl h f. (r, sym (rt j) ∙ h, f, refl, refl, refl)))
      (delivers_home (delivers_same o.delivered (tokens (set s.views id w)) (λ l. get_or s.words (place_index p l) 0) (λ l ll. refl) (λ j r jl h. (r, sym (rt j) ∙ h, refl, refl, refl)))
      (link_home shows p hs) (λ j took next jl h. dite (ℕ_discrete j k)
      (λ e. inr (subst (λ y. HasTaken (on y o.log) (o.places y) (o.kept y) took next) (sym e) (took_is took next (sym (ap took_of here) ∙ (ap (link_home shows p hs) (sym e) ∙ h)))))
      (λ ne. inl (sym (ap took_of (else_ j ne)) ∙ h))))
      record {
        own = λ j x jl h. dite (ℕ_discrete j k) (λ e. subst (λ y. IsOwn o.slot y x) (sym e) (own x (sym here ∙ (ap (link_at shows p hs) (sym e) ∙ h)))) (λ ne. o.homes.own j x jl (sym (else_ j ne) ∙ h));
        idle = λ j i jl sk h. let ne : j ≢ k = λ q. some-ne-none i (sym sk ∙ (ap o.slot q ∙ no_slot)) in let a = o.homes.idle j i jl sk (sym (rt j) ∙ h) in (a.0, a.1, ap took_of (else_ j ne) ∙ a.2);
        busy = λ j r jl h. let ne : j ≢ k = λ q. let y : r ∷ [] ≡ [] = sym h ∙ (rt j ∙ (ap (tokens s.views).rights q ∙ no_rights shows p s o k no_slot)) in cc in ap took_of (else_ j ne) ∙ o.homes.busy j r jl (sym (rt j) ∙ h);
        waiting = λ j h. let ne : j ≢ k = λ q. let y = ap (λ n. total (waits_of n) (set s.views id w)) q in omega arith in let a = o.homes.waiting j (omega (arith, waiters_less j)) in (a.0, else_ j ne ∙ a.1);
        outside = λ j jl e. dite (ℕ_discrete j k)
            (λ q. ⊎_elim (λ y. inl (y.0, ap (link_at shows p hs) q ∙ (here ∙ y.1))) (λ y. inr (subst (λ n. 0 < total (hands_of n) (set s.views id w)) (sym q) y)) where_)
            (λ ne. ⊎_elim (λ y. inl (y.0, else_ j ne ∙ y.1)) (λ y. inr (omega (arith, handlers_else j ne))) (o.homes.outside j jl e));
        hands = λ j h. dite (ℕ_discrete j k) (λ q. (ap o.slot q ∙ no_slot, ap (λ n. total (waits_of n) (set s.views id w)) q ∙ idle))
            (λ ne. let a = o.homes.hands j (omega (arith, handlers_else j ne)) in let y = a.1 in (a.0, omega (arith, waiters_less j)));
        hand_of = λ j l u g h. ⊎_elim
            (λ y. dite (ℕ_discrete l k)
            (λ q. subst (λ n. Unborn shows p t n ⊎ Recycles shows p t u n) (sym q) (carry k {v' = w} u (λ a x. let b = ap (λ (r : View). marks_of (is_recycled x) a r) y.1 in omega arith) (whose (let b : 0 < hands_of k u = subst (λ n. 0 < hands_of n u) q h in omega (arith, ap (hands_of k) y.1)))))
            (λ ne. carry l {v' = v} u (λ a x. let b = ap (λ (r : View). marks_of (is_recycled x) a r) y.1 in omega (arith, ap (λ m. total (is_recycled x) (about a m)) same.marks)) (o.homes.hand_of id l v at (omega (arith, ap (hands_of l) y.1, others l ne)))))
            (λ y. carry l {v' = u} u (λ a x. omega arith) (o.homes.hand_of j l u y.1 h)) (at_set s.views id j w u g);
      }
    where
      waiters_less : (j : ℕ) → total (waits_of j) (set s.views id w) ≤ total (waits_of j) s.views
      waiters_less j = omega (arith, total-set (waits_of j) s.views id v w at, st.waits j)

      handlers_else : (j : ℕ) → j ≢ k → total (hands_of j) (set s.views id w) ≡ total (hands_of j) s.views
      handlers_else j ne = omega (arith, total-set (hands_of j) s.views id v w at, others j ne)

      carry : (l : ℕ) {v' : View} (u : View) → ((a x : ℕ) → marks_of (is_recycled x) a v' ≤ marks_of (is_recycled x) a u) → Unborn shows p s l ⊎ Recycles shows p s v' l → Unborn shows p t l ⊎ Recycles shows p t u l
      carry l {v'} u more (inl a) = inl (λ j h g. a j h (given_from p s id v w at s.words hs st j h l g))
      carry l {v'} u more (inr a) = let b = a.recycling in inr record { slot = a.slot; version = a.version; recycling = omega (arith, more a.slot a.version); life = given_to p s id v w at s.words hs st a.slot (a.version - 2) l a.life }

-- of two slots, the one whose life had a link; the seat that is recycling it has the link, if it is in a hand
module _ {S : Type 0} (shows : S → Home) (p : Plan) (s : State S View) (o : Lawful shows p s) (id : ℕ) (v : View) (at : get_elem? s.views id ≡ some v) (i x k : ℕ) (inside : i < p.slots)
    (recycling : 0 < marks_of (is_recycled x) i v) (met : 0 < marks_of (is_met (x - 2) k) i v) (empty : hands_of k v ≡ 0) where
  busy_of : (u : View) (y : ℕ) → 0 < marks_of (is_recycled y) i u → 0 < marks_of is_busy i u
  busy_of u y h = omega (arith, total_mono (is_recycled y) is_recycling (recycled_le y) (about i u.marks), total_mono is_recycling is_busy recycling_busy (about i u.marks))
    where
      recycling_busy : (m : Mark) → is_recycling m ≤ is_busy m
      recycling_busy (Recycling w) = omega arith
      recycling_busy _ = omega arith

  life : Given p s i (x - 2) k
  life = record { inside = inside; given = (o.references.slots i inside).met (x - 2) k (omega (arith, own_count s id v at (is_met (x - 2) k) i)) }

  no_slot : o.slot k ≡ none
  no_slot = is_none (o.slot k) (λ j e. let a = o.in_slots.lives k j e in let q = given_once p s o.references i j (x - 2) a.0 k life a.1.life in
      busy_idle p s o.references i a.0 k (omega (arith, busy_of v x recycling, own_count s id v at is_busy i)) (subst (λ y. Lives p s y a.0 k) (sym q.0) a.1))

  unwaited : total (waits_of k) s.views ≡ 0
  unwaited = given_unwaited p s o.references i (x - 2) k life

  k_in : k < p.links
  k_in = o.in_slots.small i (x - 2) k life

  -- the link is at home
  at_home : (y : Home) × (link_at shows p s.homes k ≡ some y)
  at_home = ⊎_elim (λ y. y) (λ some_hand. let a = total_some (hands_of k) s.views some_hand in absurd (
      dite (ℕ_discrete a.0 id) (λ e. let q : v ≡ a.1 = some-injective v a.1 (sym at ∙ (ap (get_elem? s.views) (sym e) ∙ a.2)) in let b = a.3 in omega (arith, ap (hands_of k) q))
      (λ ne. ⊎_elim (λ (u : Unborn shows p s k). u i (x - 2) life) (λ (r : Recycles shows p s a.1 k). let q = given_once p s o.references i r.slot (x - 2) (r.version - 2) k life r.life in
      let there : 0 < marks_of (is_recycled r.version) i a.1 = subst (λ y. 0 < marks_of (is_recycled r.version) y a.1) (sym q.0) r.recycling in
      let f : View → List Mark = λ u. about i u.marks in
      let two = two_seats (total is_busy) (map f s.views) id a.0 (f v) (f a.1) (λ q. ne (sym q)) (at_map f s.views id v at) (at_map f s.views a.0 a.1 a.2) in
      omega (arith, two, busy_of v x recycling, busy_of a.1 r.version there, (o.references.slots i inside).busy_once)) (o.homes.hand_of a.0 k a.1 a.2 a.3))))
      (o.homes.outside k k_in no_slot)

  -- L1 of recycling
  pub take_last_law : (y : S) × (took : List ℕ) × (next : ℕ) × (done : Bool) × (get_elem? s.homes (p.requests + k) ≡ some (some y)) × (shows y ≡ Link k took next done)
      × ((z : Option S) → as_link (shown shows (some z)) ≡ none → Lawful shows p record { words = s.words; homes = set s.homes (p.requests + k) z; views = set s.views id (with_hand v record { link = k; took = took; next = next }) })
  take_last_law = let w = o.homes.own k at_home.0 k_in at_home.1 in let is : link_at shows p s.homes k ≡ some (Link k w.took w.next w.done) = at_home.1 ∙ ap (λ (y : Home). some y) w.is in
      let h = link_value shows (get_elem? s.homes (p.requests + k)) k w.took w.next w.done is in let hand : Hand = record { link = k; took = w.took; next = w.next } in
      let after : View = with_hand v record { link = k; took = w.took; next = w.next } in
      let same : SameSlots v (with_hand v record { link = k; took = w.took; next = w.next }) = record { plan = refl; marks = refl; passes = λ y. omega arith; spare = refl; stores = refl } in (
        h.0,
        w.took,
        w.next,
        w.done,
        h.1,
        h.2,
        λ z gone. hand_frame shows p s o id v (with_hand v record { link = k; took = w.took; next = w.next }) at same refl refl refl refl k no_slot z (at_length s.homes (p.requests + k) (some h.0) h.1)
            (λ j ne. omega (arith, only-else j k (λ q. ne (sym q)))) (omega (arith, unwaited, total-set (waits_of k) s.views id v (with_hand v record { link = k; took = w.took; next = w.next }) at))
            (λ y e. absurd (some-ne-none y (sym e ∙ gone))) (inr (omega (arith, only-same k, total-set (hands_of k) s.views id v (with_hand v record { link = k; took = w.took; next = w.next }) at)))
            (λ b. inr record { slot = i; version = x; recycling = recycling; life = life }) (carried_more o id v at hand no_slot (o.delivered.at_home k w.took w.next k_in (ap took_of is)))
            (λ took next e. absurd (some-ne-none (took, next) (sym e ∙ ap took_of gone))),
      )
    where
      carried_more : {S : Type 0} {shows : S → Home} {p : Plan} {s : State S View} (o : Lawful shows p s) (id : ℕ) (v : View) → get_elem? s.views id ≡ some v → (h : Hand) → o.slot h.link ≡ none → HasTaken (on h.link o.log) (o.places h.link) (o.kept h.link) h.took h.next → Carries o (with_hand v h)
      carried_more o id v at h none_ took zero g e = let q : h ≡ g = some-injective h g e in subst (λ (y : Hand). (o.slot y.link ≡ none) × HasTaken (on y.link o.log) (o.places y.link) (o.kept y.link) y.took y.next) q (none_, took)
      carried_more o id v at h none_ took (suc n) g e = (no_slot_of o id v at n g e, o.carried id n v g at e)

-- without the hands that have link k
hands_out : (k : ℕ) (l : List Hand) → total (carries k) (filter (λ (h : Hand). not (eqb h.link k)) l) ≡ 0
hands_out k [] = omega arith
hands_out k (x ∷ xs) = let ih = hands_out k xs in dite (ℕ_discrete x.link k)
    (λ e. let q = ap (λ b. total (carries k) (cond (not b) (x ∷ filter (λ (h : Hand). not (eqb h.link k)) xs) (filter (λ (h : Hand). not (eqb h.link k)) xs))) (eq-eqb x.link k e) in omega arith)
    (λ n. let q = ap (λ b. total (carries k) (cond (not b) (x ∷ filter (λ (h : Hand). not (eqb h.link k)) xs) (filter (λ (h : Hand). not (eqb h.link k)) xs))) (ne_eqb x.link k n) in omega (arith, only-else k x.link n))

hands_else : (k j : ℕ) (l : List Hand) → j ≢ k → total (carries j) (filter (λ (h : Hand). not (eqb h.link k)) l) ≡ total (carries j) l
hands_else k j [] ne = omega arith
hands_else k j (x ∷ xs) ne = let ih = hands_else k j xs ne in dite (ℕ_discrete x.link k)
    (λ e. let q = ap (λ b. total (carries j) (cond (not b) (x ∷ filter (λ (h : Hand). not (eqb h.link k)) xs) (filter (λ (h : Hand). not (eqb h.link k)) xs))) (eq-eqb x.link k e) in omega (arith, only-else j x.link (λ y. ne (sym y ∙ e))))
    (λ n. let q = ap (λ b. total (carries j) (cond (not b) (x ∷ filter (λ (h : Hand). not (eqb h.link k)) xs) (filter (λ (h : Hand). not (eqb h.link k)) xs))) (ne_eqb x.link k n) in omega arith)

module _ {S : Type 0} (shows : S → Home) (p : Plan) (s : State S View) (o : Lawful shows p s) (id : ℕ) (v : View) (at : get_elem? s.views id ≡ some v) where
  -- L2, of recycling and of a link that got no life: it comes home with what it took, finished or not
  pub put_hand_law : (n : ℕ) (h : Hand) → get_elem? v.hands n ≡ some h → (y : S) (done : Bool) → shows y ≡ Link h.link h.took h.next done → p.requests + h.link < length s.homes
      → Lawful shows p record { words = s.words; homes = set s.homes (p.requests + h.link) (some y); views = set s.views id (without_hand v h.link) }
  put_hand_law n h has y done sees long = let none_ = no_slot_of o id v at n h has in let k : ℕ = h.link in
      let held : 0 < total (hands_of h.link) s.views = omega (arith, term_le (hands_of h.link) s.views id v at, term_le (carries h.link) v.hands n h has, only-same h.link) in
      let is : as_link (shown shows (some (some y))) ≡ some (Link h.link h.took h.next done) = ap (λ q. as_link (some q)) sees in
      hand_frame shows p s o id v (without_hand v h.link) at record { plan = refl; marks = refl; passes = λ q. omega arith; spare = refl; stores = refl } refl refl refl refl h.link none_ (some y) long
      (λ j ne. hands_else h.link j v.hands ne) (omega (arith, (o.homes.hands h.link held).1, total-set (waits_of h.link) s.views id v (without_hand v h.link) at))
      (λ x e. record { took = h.took; next = h.next; done = done; is = some-injective x (Link h.link h.took h.next done) (sym e ∙ is); «open» = λ j q. absurd (some-ne-none j (sym q ∙ none_)) })
      (inl (Link h.link h.took h.next done, is)) (λ b. absurd (omega (arith, hands_out h.link v.hands)))
      (λ m g e. let a = filter_at (λ (x : Hand). not (eqb x.link h.link)) v.hands m g e in (no_slot_of o id v at a.0 g a.1, o.carried id a.0 v g at a.1))
      (λ took next e. let q : (h.took, h.next) ≡ (took, next) = some-injective (h.took, h.next) (took, next) (sym (ap took_of is) ∙ e) in
      subst (λ (r : List ℕ × ℕ). HasTaken (on h.link o.log) (o.places h.link) (o.kept h.link) r.0 r.1) q (o.carried id n v h at has))

  -- L1 of a pass that no life came of
  pub spend_law : (k : ℕ) → 0 < total (only k) v.passes → (y : S) × (get_elem? s.homes (p.requests + k) ≡ some (some y)) × (shows y ≡ Link k [] 0 false)
      × ((z : Option S) → as_link (shown shows (some z)) ≡ none → Lawful shows p record { words = s.words; homes = set s.homes (p.requests + k) z; views = set s.views id (spent_hand v record { link = k; took = []; next = 0 }) })
  spend_law k pass = let waits : 0 < total (waits_of k) s.views = omega (arith, term_le (waits_of k) s.views id v at) in let home = o.homes.waiting k waits in
      let unborn : (j h : ℕ) → ¬ Given p s j h k = λ j h g. omega (arith, given_unwaited p s o.references j h k g) in
      let none_ : o.slot k ≡ none = is_none (o.slot k) (λ j e. let a = o.in_slots.lives k j e in unborn j a.0 a.1.life) in
      let y = link_value shows (get_elem? s.homes (p.requests + k)) k [] 0 false home.1 in
      let after : View = spent_hand v record { link = k; took = []; next = 0 } in
      let same : SameSlots v (spent_hand v record { link = k; took = []; next = 0 }) = record { plan = refl; marks = refl; passes = λ q. omega (arith, passes-without k q v.passes pass); spare = refl; stores = refl } in (
        y.0,
        y.1,
        y.2,
        λ z gone. hand_frame shows p s o id v (spent_hand v record { link = k; took = []; next = 0 }) at same refl refl refl refl k none_ z (at_length s.homes (p.requests + k) (some y.0) y.1)
            (λ j ne. omega (arith, only-else j k (λ q. ne (sym q)))) (omega (arith, waiters_once p s o.references k, total-set (waits_of k) s.views id v (spent_hand v record { link = k; took = []; next = 0 }) at, passes-without k k v.passes pass, only-same k))
            (λ x e. absurd (some-ne-none x (sym e ∙ gone))) (inr (omega (arith, only-same k, total-set (hands_of k) s.views id v (spent_hand v record { link = k; took = []; next = 0 }) at)))
            (λ b. inl unborn) (more k none_ (o.delivered.at_home k [] 0 home.0 (ap took_of home.1)))
            (λ took next e. absurd (some-ne-none (took, next) (sym e ∙ ap took_of gone))),
      )
    where
      more : (k : ℕ) → o.slot k ≡ none → HasTaken (on k o.log) (o.places k) (o.kept k) [] 0 → Carries o (spent_hand v record { link = k; took = []; next = 0 })
      more k none_ took zero g e = let h : Hand = record { link = k; took = []; next = 0 } in let q : record { link = k; took = []; next = 0 } ≡ g = some-injective h g e in subst (λ (y : Hand). (o.slot y.link ≡ none) × HasTaken (on y.link o.log) (o.places y.link) (o.kept y.link) y.took y.next) q (none_, took)
      more k none_ took (suc n) g e = (no_slot_of o id v at n g e, o.carried id n v g at e)
