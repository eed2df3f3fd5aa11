-- A step on a word of a slot, or on a word that names a life, leaves the chains' part of the rule as it was.
use Rattle.std.proofs.Common.{◌≡◌, ℕ, ◌-◌, ◌*◌, ◌<◌, ◌≤◌, ◌⊎◌, List, get_or, set, refl, sym, ap, ◌∙◌, subst, inl, inr, ⊎_elim, arith}
use mathlib.Core.Option.{Option, some, none}
use lib.ListN.{get_elem?}
use Rattle.atomic_table.specs.Table.{State}
use Rattle.atomic_table.proofs.Lists.{at_set}
use Rattle.sock_model.specs.declared.home.Home.{Home}
use Rattle.sock_model.specs.sock_words.specs.declared.plain.Plan.{Plan}
use Rattle.sock_model.specs.declared.view.View.{View}
use Rattle.sock_model.specs.MarkWeights.{is_reset, is_recycled, is_hold, is_met}
use Rattle.sock_model.specs.SocketTableLayout.{head_index, request_index, next_index, place_index}
use Rattle.sock_model.specs.SocketSlotLaw.{count}
use Rattle.sock_model.specs.References.{slot_facts, References}
use Rattle.sock_model.specs.SlotRows.{marks_of}
use Rattle.sock_model.specs.ChainLawReads.{head_at, memory, rights_on, claims_of, loose_at, tokens, link_home, message, waits_of, hands_of}
use Rattle.sock_model.specs.declared.view.Hand.{Hand}
use Rattle.sock_model.specs.Entries.{on}
use Rattle.sock_model.specs.Chains.{Chains}
use Rattle.sock_model.specs.Authors.{Authored}
use Rattle.sock_model.specs.UnplacedMessages.{Messages}
use Rattle.sock_model.specs.Deliveries.{HasTaken, Delivered}
use Rattle.sock_model.specs.LinksInSlots.{HoldsRights, Failed, InSlots}
use Rattle.sock_model.specs.LinkHomes.{Unborn, Recycles, LinkHomes}
use Rattle.sock_model.specs.LawfulSockets.{Lawful}
use Rattle.slot_steps.proofs.SlotWeightSums.{total-set}
use Rattle.chain_steps.proofs.UntouchedByChainSteps.{chains_frame}
use Rattle.chain_steps.proofs.Gather.{gather_same}
use Rattle.chain_steps.proofs.Authored.{keeps_lists}
use Rattle.chain_steps.proofs.ChainLettersStay.{messages_frame}
use Rattle.chain_steps.proofs.Delivers.{delivers_same, delivers_failed}
use Rattle.sock_steps.proofs.Steady.{Steady, SameChain}
use Rattle.sock_steps.proofs.LifeLinkSlotPlaces.{given_to, given_from, lives_to, lives_from, failed_to}
use Rattle.sock_model.specs.sock_words.specs.PackedWords.{IDLE}
use Rattle.sock_model.specs.sock_words.specs.Totals.{total}

-- rights that stay, and lives that are held and known as before
pub still_holds : (p : Plan) (v w : View) → ((j h k : ℕ) → marks_of (is_met h k) j v ≤ marks_of (is_met h k) j w) → ((j h : ℕ) → marks_of (is_hold h) j v ≤ marks_of (is_hold h) j w) → w.rights ≡ v.rights → HoldsRights p v → HoldsRights p w
still_holds p v w known hold same a i r g = let x = a i r (subst (λ l. get_elem? l i ≡ some r) same g) in let y = x.3 in let b = y.held in let c = y.met in
    (x.0, x.1, x.2, record { inside = y.inside; held = omega (arith, hold x.1 x.2); met = omega (arith, known x.1 x.2 r.link) })

-- the words that the chains read
pub record ChainWords (p : Plan) (slot : ℕ → Option ℕ) (ws vs : List ℕ) : Type 0 where
  pub heads : (k j : ℕ) → slot k ≡ some j → get_or vs (head_index j) 0 ≡ get_or ws (head_index j) 0
  pub nexts : (r : ℕ) → r < p.requests → get_or vs (next_index p r) 0 ≡ get_or ws (next_index p r) 0
  pub requests : (r : ℕ) → r < p.requests → get_or vs (request_index p r) 0 ≡ get_or ws (request_index p r) 0
  pub places : (l : ℕ) → l < 8 * p.operations → get_or vs (place_index p l) 0 ≡ get_or ws (place_index p l) 0

pub head_is : (slot : Option ℕ) (ws vs : List ℕ) → ((j : ℕ) → slot ≡ some j → get_or vs (head_index j) 0 ≡ get_or ws (head_index j) 0) → head_at vs slot ≡ head_at ws slot
head_is none ws vs h = refl
head_is (some j) ws vs h = ap (λ (y : ℕ). some y) (h j refl)

-- the rule where no entry is new, and none is freed or gets a place
pub again : {S : Type 0} (shows : S → Home) (p : Plan) {s : State S View} (o : Lawful shows p s) (t : State S View) (slot : ℕ → Option ℕ) → References p t → InSlots p t slot o.log
    → ((id : ℕ) (u : View) → get_elem? t.views id ≡ some u → HoldsRights p u) → Chains p.links p.requests (memory p slot t.words) (tokens t.views) o.log o.freed o.places
    → Authored (λ (u : View). u.lists) t.views o.log → Messages p.links p.requests (message shows t.homes) (tokens t.views) o.log o.places
    → Delivered p.links (8 * p.operations) (λ l. get_or t.words (place_index p l) 0) (link_home shows p t.homes) (Failed p t) (tokens t.views) o.log o.places o.kept
    → ((id n : ℕ) (u : View) (h : Hand) → get_elem? t.views id ≡ some u → get_elem? u.hands n ≡ some h → HasTaken (on h.link o.log) (o.places h.link) (o.kept h.link) h.took h.next)
    → LinkHomes shows p t slot → Lawful shows p t
again shows p o t slot references in_slots held chains authors messages delivered carried homes = record { slot = slot; log = o.log; freed = o.freed; places = o.places; kept = o.kept; fits = o.fits; references = references; in_slots = in_slots; held = held; chains = chains; authors = authors; messages = messages; delivered = delivered; carried = carried; homes = homes }

-- where the links are, where no link moves and no right changes hands
pub homes_again : {S : Type 0} (shows : S → Home) (p : Plan) {s : State S View} (o : Lawful shows p s) (ws : List ℕ) (vs : List View) → ((k : ℕ) → (tokens vs).rights k ≡ (tokens s.views).rights k)
    → ((k : ℕ) → total (waits_of k) vs ≤ total (waits_of k) s.views) → ((k : ℕ) → total (hands_of k) vs ≡ total (hands_of k) s.views)
    → ((id k : ℕ) (u : View) → get_elem? vs id ≡ some u → 0 < hands_of k u → Unborn shows p record { words = ws; homes = s.homes; views = vs } k ⊎ Recycles shows p record { words = ws; homes = s.homes; views = vs } u k)
    → LinkHomes shows p record { words = ws; homes = s.homes; views = vs } o.slot
homes_again shows p o ws vs rights waits handed hand_of = record {
  own = o.homes.own;
  idle = λ k j kl sk h. o.homes.idle k j kl sk (sym (rights k) ∙ h);
  busy = λ k r kl h. o.homes.busy k r kl (sym (rights k) ∙ h);
  waiting = λ k h. o.homes.waiting k (omega (arith, waits k));
  outside = λ k kl e. ⊎_elim (λ y. inl y) (λ y. inr (omega (arith, handed k))) (o.homes.outside k kl e);
  hands = λ k h. let a = o.homes.hands k (omega (arith, handed k)) in let b = a.1 in (a.0, omega (arith, waits k));
  hand_of = hand_of;
}

module _ {S : Type 0} (shows : S → Home) (p : Plan) (s : State S View) (o : Lawful shows p s) (id : ℕ) (v w : View) (here : get_elem? s.views id ≡ some v) (ws : List ℕ) (same : SameChain v w) where
  abbrev t : State S View
  t = record { words = ws; homes = s.homes; views = set s.views id w }

  pub rights_stay : (k : ℕ) → (tokens (set s.views id w)).rights k ≡ (tokens s.views).rights k
  rights_stay k = gather_same (rights_on k) s.views id v w here (ap (rights_on k) same)

  pub claims_stay : (r : ℕ) → (tokens (set s.views id w)).claims r ≡ (tokens s.views).claims r
  claims_stay r = gather_same (claims_of r) s.views id v w here (ap (claims_of r) same)

  pub loose_stay : (r : ℕ) → (tokens (set s.views id w)).loose r ≡ (tokens s.views).loose r
  loose_stay r = gather_same (loose_at r) s.views id v w here (ap (loose_at r) same)

  held_stay : HoldsRights p w → (j : ℕ) (u : View) → get_elem? (set s.views id w) j ≡ some u → HoldsRights p u
  held_stay now j u g = ⊎_elim (λ y. subst (HoldsRights p) y.1 now) (λ y. o.held j u y.1) (at_set s.views id j w u g)

  -- the whole rule, from the words of slots and heads, and from where the links are
  pub whole_law : (slot : ℕ → Option ℕ) → References p t → InSlots p t slot o.log → HoldsRights p w → Chains p.links p.requests (memory p slot ws) (tokens (set s.views id w)) o.log o.freed o.places
      → ((l : ℕ) → l < 8 * p.operations → get_or ws (place_index p l) 0 ≡ get_or s.words (place_index p l) 0) → ((k : ℕ) → k < p.links → Failed p s k → Failed p t k) → LinkHomes shows p t slot → Lawful shows p t
  whole_law slot references in_slots held chains places fails homes = again shows p o t slot references in_slots (held_stay held) chains
      (keeps_lists (λ (y : View). y.lists) s.views o.log id v w o.authors here (ap (λ (y : View). y.lists) same))
      (messages_frame o.chains o.messages (tokens (set s.views id w)) (message shows s.homes) (λ r rl. refl) (λ r rl. claims_stay r)
      (λ k e kl u. record { right = u.right; has = rights_stay k ∙ u.has; stage = u.stage; taken = u.taken }) (λ k r kl h f. (r, sym (rights_stay k) ∙ h, f, refl, refl, refl)))
      (delivers_failed (delivers_same o.delivered (tokens (set s.views id w)) (λ l. get_or ws (place_index p l) 0) places (λ k r kl h. (r, sym (rights_stay k) ∙ h, refl, refl, refl))) (Failed p t) fails)
      (λ j n u h g e. ⊎_elim (λ y. o.carried id n v h here (subst (λ l. get_elem? l n ≡ some h) (ap (λ (z : View). z.hands) (sym y.1 ∙ same)) e)) (λ y. o.carried j n u h y.1 e) (at_set s.views id j w u g)) homes

  module _ (st : Steady v w) where
    handlers_stay : (k : ℕ) → total (hands_of k) (set s.views id w) ≡ total (hands_of k) s.views
    handlers_stay k = omega (arith, total-set (hands_of k) s.views id v w here, ap (hands_of k) same)

    waiters_less : (k : ℕ) → total (waits_of k) (set s.views id w) ≤ total (waits_of k) s.views
    waiters_less k = omega (arith, total-set (waits_of k) s.views id v w here, st.waits k)

    pub in_slots_stay : ((j : ℕ) → j < p.slots → 0 < count is_reset (slot_facts t j) → get_or ws (head_index j) 0 ≡ IDLE) → InSlots p t o.slot o.log
    in_slots_stay reset = record {
      lives = λ k j e. let a = o.in_slots.lives k j e in (a.0, lives_to p s id v w here ws s.homes st j a.0 k a.1);
      alone = λ j h k g. o.in_slots.alone j h k (lives_from p s id v w here ws s.homes st j h k g);
      small = λ j h k g. o.in_slots.small j h k (given_from p s id v w here ws s.homes st j h k g);
      entered = λ q e g. let a = o.in_slots.entered q e g in (a.0, a.1, given_to p s id v w here ws s.homes st a.0 a.1 e.link a.2);
      reset = reset;
    }

    homes_stay : ((j x : ℕ) → marks_of (is_recycled x) j v ≤ marks_of (is_recycled x) j w) ⊎ ((k : ℕ) → hands_of k w ≡ 0) → LinkHomes shows p t o.slot
    homes_stay hands = homes_again shows p o ws (set s.views id w) (λ k. rights_stay k) (λ k. waiters_less k) (λ k. handlers_stay k)
        (λ j k u g h. ⊎_elim
        (λ y. let hv : 0 < hands_of k v = omega (arith, ap (hands_of k) y.1, ap (hands_of k) same) in
        ⊎_elim (λ more. carry u (λ a x. let q = ap (λ (z : View). marks_of (is_recycled x) a z) y.1 in omega (arith, more a x)) (o.homes.hand_of id k v here hv))
        (λ none_. absurd (omega (arith, none_ k, ap (hands_of k) y.1))) hands)
        (λ y. carry u (λ a x. omega arith) (o.homes.hand_of j k u y.1 h)) (at_set s.views id j w u g))
      where
        carry : {k : ℕ} {v' : View} (u : View) → ((a x : ℕ) → marks_of (is_recycled x) a v' ≤ marks_of (is_recycled x) a u) → Unborn shows p s k ⊎ Recycles shows p s v' k → Unborn shows p t k ⊎ Recycles shows p t u k
        carry {k} {v'} u more (inl a) = inl (λ j h g. a j h (given_from p s id v w here ws s.homes st j h k g))
        carry {k} {v'} u more (inr a) = let b = a.recycling in inr record { slot = a.slot; version = a.version; recycling = omega (arith, more a.slot a.version); life = given_to p s id v w here ws s.homes st a.slot (a.version - 2) k a.life }

    -- the whole rule, from that of the slots
    pub slot_frame : ChainWords p o.slot s.words ws → ((j : ℕ) → j < p.slots → 0 < count is_reset (slot_facts t j) → get_or ws (head_index j) 0 ≡ IDLE) → HoldsRights p w
        → ((j x : ℕ) → marks_of (is_recycled x) j v ≤ marks_of (is_recycled x) j w) ⊎ ((k : ℕ) → hands_of k w ≡ 0) → References p t → Lawful shows p t
    slot_frame words reset held hands refs = whole_law o.slot refs (in_slots_stay reset) held
        (chains_frame o.chains (λ k kl. head_is (o.slot k) s.words ws (words.heads k)) words.nexts words.requests (λ k kl. rights_stay k) (λ r rl. claims_stay r) (λ r rl. loose_stay r))
        words.places (λ k kl. failed_to p s id v w here ws s.homes st k) (homes_stay hands)
