-- A step on a word or a home of the chains leaves the slots' part of the rule as it was.
use Rattle.std.proofs.Common.{cond, ◌≡◌, ◌≢◌, ℕ, zero, suc, ◌-◌, ◌*◌, ◌/◌, ◌%◌, ◌<◌, ◌≤◌, ◌⊎◌, List, [], ◌∷◌, map, length-set, get_or, set, sym, ap, ◌∙◌, subst, inl, inr, ⊎_elim, arith}
use mathlib.Core.Option.{Option, some, none}
use lib.ListN.{get_elem?}
use lib.Seq.{map-set}
use Rattle.atomic_table.specs.Table.{State}
use Rattle.atomic_table.proofs.Lists.{at_map, at_set, set_again}
use Rattle.sock_model.specs.declared.marks.Mark.{Mark}
use Rattle.sock_model.specs.declared.marks.Mark.TheVariants.{Claimed}
use Rattle.sock_model.specs.declared.chain.Entry.{Entry}
use Rattle.sock_model.specs.declared.chain.Right.{Right}
use Rattle.sock_model.specs.declared.home.Home.{Home}
use Rattle.sock_model.specs.sock_words.specs.declared.plain.Plan.{Plan}
use Rattle.sock_model.specs.declared.view.View.{View}
use Rattle.sock_model.specs.declared.view.Hand.{Hand}
use Rattle.sock_model.specs.Entries.{on}
use Rattle.sock_model.specs.MarkWeights.{only, is_linked, is_freer, is_failer, is_born, is_busy, is_reset, is_recycled, is_met}
use Rattle.sock_model.specs.Marks.{about, says}
use Rattle.sock_model.specs.SocketTableLayout.{name_index, open_index, place_index}
use Rattle.sock_model.specs.SocketSlotLaw.{SlotFacts, live, count, SlotLaw}
use Rattle.sock_model.specs.References.{uses_of, uses_link, sayers, spare, slot_facts, Names, Stores, References}
use Rattle.sock_model.specs.SlotRows.{marks_of}
use Rattle.sock_model.specs.Chains.{Chains}
use Rattle.sock_model.specs.Authors.{Authored}
use Rattle.sock_model.specs.UnplacedMessages.{Messages}
use Rattle.sock_model.specs.Deliveries.{HasTaken, Delivered}
use Rattle.sock_model.specs.ChainLawReads.{carries, memory, tokens, message, link_at, link_home, waits_link, waits_of, hands_of}
use Rattle.sock_model.specs.LinksInSlots.{HoldsRights, Given, Failed, InSlots}
use Rattle.sock_model.specs.LinkHomes.{IsOwn, Unborn, Recycles, LinkHomes}
use Rattle.sock_model.specs.LawfulSockets.{Lawful}
use Rattle.slot_steps.proofs.SlotWeightSums.{total-set, term_le, tally_mono}
use Rattle.slot_steps.proofs.RuleNumbers.{only-same}
use Rattle.chain_steps.proofs.Delivers.{delivers_failed}
use Rattle.sock_steps.proofs.Steady.{Steady}
use Rattle.sock_steps.proofs.LifeLinkSlotPlaces.{given_to, given_from, lives_to, lives_from, failed_to, busy_idle, one_link}
use Rattle.sock_steps.proofs.ChainWordChanges.{Beside}
use Rattle.sock_model.specs.sock_words.specs.PackedWords.{vref_version, vref_nref}
use Rattle.sock_model.specs.sock_words.specs.Totals.{total}

-- all that the slots read of a view
pub record SameSlots (v w : View) : Type 0 where
  pub plan : w.plan ≡ v.plan
  pub marks : w.marks ≡ v.marks
  pub passes : (k : ℕ) → total (only k) w.passes ≤ total (only k) v.passes
  pub spare : w.spare ≡ v.spare
  pub stores : w.stores ≡ v.stores

pub steady_same : (v w : View) → SameSlots v w → Steady v w
steady_same v w e = record {
  given = λ j h k. ap (λ y. total (is_linked h k) (about j y)) e.marks;
  ended = λ j h. ap (λ y. total (is_freer h) (about j y)) e.marks;
  failed = λ j h. omega (arith, ap (λ y. total (is_failer h) (about j y)) e.marks);
  met = λ j h k. omega (arith, ap (λ y. total (is_met h k) (about j y)) e.marks);
  waits = λ k. omega (arith, e.passes k, ap (total (waits_link k)) e.marks);
}

module _ {S : Type 0} {shows : S → Home} {p : Plan} {s : State S View} (o : Lawful shows p s) where
  pub slots_in : (k j : ℕ) → o.slot k ≡ some j → j < p.slots
  slots_in k j e = (o.in_slots.lives k j e).1.life.inside

  pub one_slot : (k l j : ℕ) → o.slot k ≡ some j → o.slot l ≡ some j → k ≡ l
  one_slot k l j e f = let a = o.in_slots.lives k j e in let b = o.in_slots.lives l j f in one_link p s o.references j a.0 b.0 k l a.1 b.1

  pub link_small : (k j : ℕ) → o.slot k ≡ some j → k < p.links
  link_small k j e = let a = o.in_slots.lives k j e in o.in_slots.small j a.0 k a.1.life

-- what the seat has in hand without a right is in no slot, and what it took is known
abbrev pub Carries : {S : Type 0} {shows : S → Home} {p : Plan} {s : State S View} → Lawful shows p s → View → Type 0
Carries o w = (n : ℕ) (h : Hand) → get_elem? w.hands n ≡ some h → (o.slot h.link ≡ none) × HasTaken (on h.link o.log) (o.places h.link) (o.kept h.link) h.took h.next

pub no_slot_of : {S : Type 0} {shows : S → Home} {p : Plan} {s : State S View} (o : Lawful shows p s) (id : ℕ) (v : View) → get_elem? s.views id ≡ some v → (n : ℕ) (h : Hand) → get_elem? v.hands n ≡ some h → o.slot h.link ≡ none
no_slot_of {s = s} o id v here n h g = (o.homes.hands h.link (omega (arith, term_le (hands_of h.link) s.views id v here, term_le (carries h.link) v.hands n h g, only-same h.link))).0

reset_busy : (x : Mark) → is_reset x ≤ is_busy x
reset_busy (Claimed zero b) = omega arith
reset_busy (Claimed (suc zero) b) = omega arith
reset_busy (Claimed (suc (suc a)) b) = omega arith
reset_busy _ = omega arith

module _ {S : Type 0} (shows : S → Home) (p : Plan) (s : State S View) (o : Lawful shows p s) (id : ℕ) (v w : View) (here : get_elem? s.views id ≡ some v) (ws : List ℕ) (hs : List (Option S)) (same : SameSlots v w) (beside : Beside p o.slot s.words ws) where
  abbrev t : State S View
  t = record { words = ws; homes = hs; views = set s.views id w }

  st : Steady v w
  st = steady_same v w same

  abbrev f : ℕ → View → List Mark
  f j u = about j u.marks

  marks_same : (j : ℕ) → map (f j) (set s.views id w) ≡ map (f j) s.views
  marks_same j = map-set (f j) s.views id w ∙ (ap (set (map (f j) s.views) id) (ap (about j) same.marks) ∙ set_again (map (f j) s.views) id (f j v) (at_map (f j) s.views id v here))

  local_same : (i : ℕ) → i < p.slots → slot_facts t i ≡ slot_facts s i
  local_same i l = let e₀ = beside.tags i l in let e₁ = beside.refs i l in let e₂ = beside.links i l in let e₄ = beside.codes i l in let e₅ = marks_same i in
      λ q. record { tag = e₀ q; version = vref_version (e₁ q); nref = vref_nref (e₁ q); link = e₂ q; code = e₄ q; marks = e₅ q }

  names_same : (word : ℕ) → Names p s word → Names p t word
  names_same word a ne = let r = a ne in (r.0, subst (λ (l : SlotFacts). 0 < count (is_born ((word - 1) / 4294967296)) l) (sym (local_same ((word - 1) % 4294967296) r.0)) r.1)

  stores_same : (x : ℕ) → get_or ws x 0 ≡ get_or s.words x 0 → Stores s x → Stores t x
  stores_same x e a = subst (λ (z : ℕ). z ≢ 0 → 0 < total (sayers x z) t.views) (sym e)
      (λ ne. let z : ℕ = get_or s.words x 0 in omega (arith, a ne, total-set (sayers x z) s.views id v w here, ap (λ y. total (says x z) y) same.stores))

  pub references_frame : References p t
  references_frame = let law = o.references in record {
    sized = beside.long ∙ law.sized;
    seat_limit = omega (arith, law.seat_limit, length-set s.views id w, total-set spare s.views id v w here, same.spare);
    slots = λ i l. subst (λ (y : SlotFacts). SlotLaw p.first (live y) y) (sym (local_same i l)) (law.slots i l);
    links = λ k. omega (arith, total-set (uses_of k) s.views id v w here, law.links k, same.passes k, ap (total (uses_link k)) same.marks);
    named = record {
      names = λ n l. subst (Names p t) (sym (beside.names n l)) (names_same (get_or s.words (name_index p n) 0) (law.named.names n l));
      opens = λ n l. subst (λ (y : ℕ). y ≢ 18446744073709551615 → Names p t y) (sym (beside.opens n l)) (λ ne. names_same (get_or s.words (open_index p n) 0) (law.named.opens n l ne));
      names_by = λ n l. stores_same (name_index p n) (beside.names n l) (law.named.names_by n l);
      opens_by = λ n l. stores_same (open_index p n) (beside.opens n l) (law.named.opens_by n l);
    };
  }

  slots_frame : (log : List Entry) → ((q : ℕ) (e : Entry) → get_elem? log q ≡ some e → (j : ℕ) × (h : ℕ) × Given p s j h e.link) → InSlots p t o.slot log
  slots_frame log entered = record {
    lives = λ k j e. let a = o.in_slots.lives k j e in (a.0, lives_to p s id v w here ws hs st j a.0 k a.1);
    alone = λ j h k g. o.in_slots.alone j h k (lives_from p s id v w here ws hs st j h k g);
    small = λ j h k g. o.in_slots.small j h k (given_from p s id v w here ws hs st j h k g);
    entered = λ q e g. let a = entered q e g in (a.0, a.1, given_to p s id v w here ws hs st a.0 a.1 e.link a.2);
    reset = λ j jl r. let r' : 0 < count is_reset (slot_facts s j) = subst (λ (l : SlotFacts). 0 < count is_reset l) (local_same j jl) r in
        beside.heads j jl (λ k e. let a = o.in_slots.lives k j e in busy_idle p s o.references j a.0 k (omega (arith, tally_mono is_reset is_busy reset_busy (slot_facts s j).marks)) a.1) ∙ o.in_slots.reset j jl r';
  }

  -- the homes of links, where no link moves but, perhaps, link k
  pub links_frame : ((k : ℕ) → 0 < total (waits_of k) s.views → link_at shows p hs k ≡ link_at shows p s.homes k)
      → ((k : ℕ) (x : Home) → k < p.links → link_at shows p hs k ≡ some x → IsOwn o.slot k x)
      → ((k j : ℕ) → k < p.links → o.slot k ≡ some j → (tokens (set s.views id w)).rights k ≡ [] → (took : List ℕ) × (next : ℕ) × (link_home shows p hs k ≡ some (took, next)))
      → ((k : ℕ) (r : Right) → k < p.links → (tokens (set s.views id w)).rights k ≡ r ∷ [] → link_home shows p hs k ≡ cond r.at_home (some (r.sent, r.places)) none)
      → ((k : ℕ) → k < p.links → o.slot k ≡ none → link_at shows p hs k ≡ link_at shows p s.homes k) → w.hands ≡ v.hands → LinkHomes shows p t o.slot
  links_frame wait own idle busy out hands = record {
    own = own;
    idle = idle;
    busy = busy;
    waiting = λ k h. let a = o.homes.waiting k (omega (arith, waiters_same k)) in (a.0, wait k (omega (arith, waiters_same k)) ∙ a.1);
    outside = λ k kl e. ⊎_elim (λ y. inl (y.0, out k kl e ∙ y.1)) (λ y. inr (omega (arith, handlers_same k))) (o.homes.outside k kl e);
    hands = λ k h. let a = o.homes.hands k (omega (arith, handlers_same k)) in let z = a.1 in (a.0, omega (arith, waiters_same k));
    hand_of = λ j k u g h. ⊎_elim
        (λ y. carry k u (λ a x. let q = ap (λ (z : View). marks_of (is_recycled x) a z) y.1 in omega (arith, ap (λ z. total (is_recycled x) (about a z)) same.marks)) (o.homes.hand_of id k v here (omega (arith, ap (hands_of k) y.1, ap (total (carries k)) hands))))
        (λ y. carry k u (λ a x. omega arith) (o.homes.hand_of j k u y.1 h)) (at_set s.views id j w u g);
  }
    where
      waiters_same : (k : ℕ) → total (waits_of k) (set s.views id w) ≤ total (waits_of k) s.views
      waiters_same k = omega (arith, total-set (waits_of k) s.views id v w here, same.passes k, ap (total (waits_link k)) same.marks)

      handlers_same : (k : ℕ) → total (hands_of k) (set s.views id w) ≡ total (hands_of k) s.views
      handlers_same k = omega (arith, total-set (hands_of k) s.views id v w here, ap (total (carries k)) hands)

      carry : (k : ℕ) {v' : View} (u : View) → ((a x : ℕ) → marks_of (is_recycled x) a v' ≤ marks_of (is_recycled x) a u) → Unborn shows p s k ⊎ Recycles shows p s v' k → Unborn shows p t k ⊎ Recycles shows p t u k
      carry k {v'} u more (inl a) = inl (λ j h g. a j h (given_from p s id v w here ws hs st j h k g))
      carry k {v'} u more (inr a) = let b = a.recycling in inr record { slot = a.slot; version = a.version; recycling = omega (arith, more a.slot a.version); life = given_to p s id v w here ws hs st a.slot (a.version - 2) k a.life }

  pub carried_same : w.hands ≡ v.hands → Carries o w
  carried_same e n h g = let g' : get_elem? v.hands n ≡ some h = subst (λ l. get_elem? l n ≡ some h) e g in (no_slot_of o id v here n h g', o.carried id n v h here g')

  -- the whole rule, from that of the chains
  pub chain_frame : (log : List Entry) (freed places kept : ℕ → ℕ) → ((q : ℕ) (e : Entry) → get_elem? log q ≡ some e → (j : ℕ) × (h : ℕ) × Given p s j h e.link) → HoldsRights p w → Carries o w → ((k : ℕ) → o.slot k ≡ none → (on k log ≡ on k o.log) × (places k ≡ o.places k) × (kept k ≡ o.kept k))
      → Chains p.links p.requests (memory p o.slot ws) (tokens (set s.views id w)) log freed places
      → Authored (λ (u : View). u.lists) (set s.views id w) log
      → Messages p.links p.requests (message shows hs) (tokens (set s.views id w)) log places
      → Delivered p.links (8 * p.operations) (λ l. get_or ws (place_index p l) 0) (link_home shows p hs) (Failed p s) (tokens (set s.views id w)) log places kept
      → LinkHomes shows p t o.slot → Lawful shows p t
  chain_frame log freed places kept entered held mine still chains authors messages delivered homes = record {
    slot = o.slot;
    log = log;
    freed = freed;
    places = places;
    kept = kept;
    fits = o.fits;
    references = references_frame;
    in_slots = slots_frame log entered;
    held = λ j u g. ⊎_elim (λ y. subst (HoldsRights p) y.1 held) (λ y. o.held j u y.1) (at_set s.views id j w u g);
    chains = chains;
    authors = authors;
    messages = messages;
    delivered = delivers_failed delivered (Failed p t) (λ k kl. failed_to p s id v w here ws hs st k);
    carried = λ j n u h g e. let a : (o.slot h.link ≡ none) × HasTaken (on h.link o.log) (o.places h.link) (o.kept h.link) h.took h.next = ⊎_elim (λ y. mine n h (subst (λ (z : View). get_elem? z.hands n ≡ some h) (sym y.1) e)) (λ y. (no_slot_of o j u y.1 n h e, o.carried j n u h y.1 e)) (at_set s.views id j w u g) in
        let b = still h.link a.0 in subst (λ c. HasTaken c (places h.link) (kept h.link) h.took h.next) (sym b.0) (subst (λ q. HasTaken (on h.link o.log) q (kept h.link) h.took h.next) (sym b.1) (subst (λ q. HasTaken (on h.link o.log) (o.places h.link) q h.took h.next) (sym b.2) a.1));
    homes = homes;
  }
