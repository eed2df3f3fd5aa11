-- A step by which one right of a seat becomes another one for the same link, or is given up.
use Rattle.std.proofs.Common.{◌≡◌, ◌≢◌, ℕ, zero, suc, ◌*◌, ◌<◌, ◌≤◌, eqb, not, cond, Bool, true, false, eq-eqb, ne_eqb, eqb-true, List, [], ◌∷◌, length, get_or, set, sym, refl, ap, ◌∙◌, subst, arith}
use Rattle.std.specs.List.{filter, flat_map}
use mathlib.Core.Logic.{dite}
use mathlib.Core.Option.{Option, none, some, some-injective, some-ne-none}
use native.Mathlib.Decide.{ℕ_discrete}
use lib.ListN.{get_elem?}
use Rattle.atomic_table.specs.Table.{State}
use Rattle.sock_model.specs.declared.chain.Right.{Right}
use Rattle.sock_model.specs.declared.chain.Stage.TheVariants.{Writes}
use Rattle.sock_model.specs.sock_words.specs.declared.plain.Plan.{Plan}
use Rattle.sock_model.specs.declared.view.View.{View}
use Rattle.sock_model.specs.declared.home.Home.{Home}
use Rattle.sock_model.specs.Entries.{ticket}
use Rattle.sock_model.specs.SocketTableLayout.{place_index}
use Rattle.sock_model.specs.Chains.{Chains}
use Rattle.sock_model.specs.UnplacedMessages.{Messages}
use Rattle.sock_model.specs.Deliveries.{Delivered}
use Rattle.sock_model.specs.ChainRows.{with_right, without_right}
use Rattle.sock_model.specs.ChainLawReads.{took_of, waits_of, memory, message, link_at, link_home, rights_on, claims_of, loose_at, tokens}
use Rattle.sock_model.specs.LinksInSlots.{HoldsLink, HoldsRights, Failed}
use Rattle.sock_model.specs.LinkHomes.{IsOwn}
use Rattle.sock_model.specs.LawfulSockets.{Lawful}
use Rattle.chain_steps.proofs.TicketLists.{at_length, filter_in, filter_at}
use Rattle.chain_steps.proofs.UntouchedByChainSteps.{Same, Changed, one_token, no_token}
use Rattle.chain_steps.proofs.Gather.{gather_all, gather_own, gather_same, nil_of}
use Rattle.chain_steps.proofs.FewRightsAndClaims.{few_rights}
use Rattle.chain_steps.proofs.Authored.{keeps_lists}
use Rattle.chain_steps.proofs.ChainLettersStay.{messages_frame}
use Rattle.chain_steps.proofs.Delivers.{delivers_same}
use Rattle.sock_steps.proofs.LifeLinkSlotPlaces.{holder_lives, given_unwaited}
use Rattle.sock_steps.proofs.ChainWordChanges.{Beside, beside_all}
use Rattle.sock_steps.proofs.ChainFrame.{SameSlots, carried_same, links_frame, chain_frame}
use Rattle.sock_model.specs.sock_words.specs.Totals.{total}

pub single : {A : Type 0} (l : List A) (i : ℕ) (a : A) → length l ≤ 1 → get_elem? l i ≡ some a → l ≡ a ∷ []
single [] i a h g = absurd (some-ne-none a (sym g))
single (x ∷ xs) zero a h g = λ k. some-injective x a g k ∷ nil_of xs (omega arith) k
single (x ∷ xs) (suc i) a h g = let b : i < length xs = at_length xs i a g in absurd (omega arith)

-- those that f gives the number k, or another, once those of k are left out
module _ {A : Type 0} (f : A → ℕ) where
  out_here_at : (k : ℕ) (x : A) (rest : List A) → filter (λ y. eqb (f y) k) rest ≡ [] → (b : Bool) → eqb (f x) k ≡ b → filter (λ y. eqb (f y) k) (cond (not b) (x ∷ rest) rest) ≡ []
  out_here_at k x rest h true e = h
  out_here_at k x rest h false e = ap (λ b. cond b (x ∷ filter (λ y. eqb (f y) k) rest) (filter (λ y. eqb (f y) k) rest)) e ∙ h

  pub out_here : (k : ℕ) (l : List A) → filter (λ y. eqb (f y) k) (filter (λ y. not (eqb (f y) k)) l) ≡ []
  out_here k [] = refl
  out_here k (x ∷ xs) = out_here_at k x (filter (λ y. not (eqb (f y) k)) xs) (out_here k xs) (eqb (f x) k) refl

  out_else_at : (k j : ℕ) (x : A) (rest all : List A) → j ≢ k → filter (λ y. eqb (f y) j) rest ≡ all → (b : Bool) → eqb (f x) k ≡ b → filter (λ y. eqb (f y) j) (cond (not b) (x ∷ rest) rest) ≡ cond (eqb (f x) j) (x ∷ all) all
  out_else_at k j x rest all ne h true e = h ∙ sym (ap (λ b. cond b (x ∷ all) all) (ne_eqb (f x) j (λ q. ne (sym q ∙ eqb-true (f x) k e))))
  out_else_at k j x rest all ne h false e = ap (λ l. cond (eqb (f x) j) (x ∷ l) l) h

  pub out_else : (k j : ℕ) (l : List A) → j ≢ k → filter (λ y. eqb (f y) j) (filter (λ y. not (eqb (f y) k)) l) ≡ filter (λ y. eqb (f y) j) l
  out_else k j [] ne = refl
  out_else k j (x ∷ xs) ne = out_else_at k j x (filter (λ y. not (eqb (f y) k)) xs) (filter (λ y. eqb (f y) j) xs) ne (out_else k j xs ne) (eqb (f x) k) refl

module _ {S : Type 0} {shows : S → Home} {p : Plan} {s : State S View} (o : Lawful shows p s) (id i : ℕ) (v : View) (r : Right) (at : get_elem? s.views id ≡ some v) (has : get_elem? v.rights i ≡ some r) where
  pub right_in : r.link < p.links
  right_in = (o.held id v at i r has).0

  -- the slot that its link is in
  pub right_slot : (j : ℕ) × (o.slot r.link ≡ some j)
  right_slot = let x = o.held id v at i r has in (x.1, o.in_slots.alone x.1 x.2 r.link (holder_lives p s o.references id v x.1 x.2 r.link at x.3))

  here_alone : (flat_map (rights_on r.link) s.views ≡ rights_on r.link v) × (rights_on r.link v ≡ r ∷ [])
  here_alone = let a = filter_in (λ (x : Right). eqb x.link r.link) v.rights i r has (eq-eqb r.link r.link refl) in
      let b : a.0 < length (rights_on r.link v) = at_length (rights_on r.link v) a.0 r a.1 in let c = few_rights o.chains r.link right_in in
      let e : flat_map (rights_on r.link) s.views ≡ rights_on r.link v = gather_all (rights_on r.link) s.views id v at (omega arith) in
      let f : length (flat_map (rights_on r.link) s.views) ≡ length (rights_on r.link v) = ap length e in
      (e, single (rights_on r.link v) a.0 r (omega arith) a.1)

  -- what a view has, all views have
  pub right_alone : (tokens s.views).rights r.link ≡ r ∷ []
  right_alone = here_alone.0 ∙ here_alone.1

  module _ (r' : Right) (link' : r'.link ≡ r.link) where
    pub rights_after : Changed p.links (tokens s.views).rights (tokens (set s.views id (with_right v r'))).rights r.link (r' ∷ [])
    rights_after = record {
      here = gather_own (rights_on r.link) s.views id v (with_right v r') at here_alone.0
          ∙ (ap (λ b. cond b (r' ∷ filter (λ (x : Right). eqb x.link r.link) (filter (λ (x : Right). not (eqb x.link r'.link)) v.rights)) (filter (λ (x : Right). eqb x.link r.link) (filter (λ (x : Right). not (eqb x.link r'.link)) v.rights))) (eq-eqb r'.link r.link link')
          ∙ ap (λ l. r' ∷ l) (ap (λ k. filter (λ (x : Right). eqb x.link k) (filter (λ (x : Right). not (eqb x.link r'.link)) v.rights)) (sym link') ∙ out_here (λ (x : Right). x.link) r'.link v.rights));
      else = λ j jl ne. gather_same (rights_on j) s.views id v (with_right v r') at
          (ap (λ b. cond b (r' ∷ filter (λ (x : Right). eqb x.link j) (filter (λ (x : Right). not (eqb x.link r'.link)) v.rights)) (filter (λ (x : Right). eqb x.link j) (filter (λ (x : Right). not (eqb x.link r'.link)) v.rights))) (ne_eqb r'.link j (λ q. ne (sym q ∙ link')))
          ∙ out_else (λ (x : Right). x.link) r'.link j v.rights (λ q. ne (q ∙ link')));
    }

    pub claims_after : Same p.requests (tokens s.views).claims (tokens (set s.views id (with_right v r'))).claims
    claims_after q ql = gather_same (claims_of q) s.views id v (with_right v r') at refl

    pub loose_after : Same p.requests (tokens s.views).loose (tokens (set s.views id (with_right v r'))).loose
    loose_after q ql = gather_same (loose_at q) s.views id v (with_right v r') at refl

    some_slot : o.slot r.link ≡ none → ⊥
    some_slot e = let x = right_slot in some-ne-none x.0 (sym x.1 ∙ e)

    held_after : HoldsRights p (with_right v r')
    held_after zero y e = let q : r' ≡ y = some-injective r' y e in let x = o.held id v at i r has in let link : r.link ≡ y.link = sym link' ∙ ap (λ (z : Right). z.link) q in let h = x.3 in
        (subst (λ z. z < p.links) link x.0, x.1, x.2, record { inside = h.inside; held = h.held; met = (let g : HoldsLink p v x.1 x.2 y.link = subst (λ z. HoldsLink p v x.1 x.2 z) link x.3 in g.met) })
    held_after (suc k) y e = let a = filter_at (λ (x : Right). not (eqb x.link r'.link)) v.rights k y e in let x = o.held id v at a.0 y a.1 in let h = x.3 in
        (x.0, x.1, x.2, record { inside = h.inside; held = h.held; met = h.met })

    pub same_slots : SameSlots v (with_right v r')
    same_slots = record { plan = refl; marks = refl; passes = λ y. omega arith; spare = refl; stores = refl }

    -- what every such step leaves, where no link moves; the rest is for each kind
    pub right_base : (ws : List ℕ) (hs : List (Option S)) (freed places kept : ℕ → ℕ) → ((k : ℕ) → k ≢ r.link → (places k ≡ o.places k) × (kept k ≡ o.kept k)) → Beside p o.slot s.words ws → ((k : ℕ) → link_at shows p hs k ≡ link_at shows p s.homes k)
        → Chains p.links p.requests (memory p o.slot ws) (tokens (set s.views id (with_right v r'))) o.log freed places
        → Messages p.links p.requests (message shows hs) (tokens (set s.views id (with_right v r'))) o.log places
        → Delivered p.links (8 * p.operations) (λ l. get_or ws (place_index p l) 0) (link_home shows p hs) (Failed p s) (tokens (set s.views id (with_right v r'))) o.log places kept
        → link_home shows p s.homes r.link ≡ cond r'.at_home (some (r'.sent, r'.places)) none
        → Lawful shows p record { words = ws; homes = hs; views = set s.views id (with_right v r') }
    right_base ws hs freed places kept else_ beside homes chains messages delivered home = chain_frame shows p s o id v (with_right v r') at ws hs same_slots beside o.log freed places kept o.in_slots.entered held_after (carried_same shows p s o id v (with_right v r') at ws hs same_slots beside refl)
        (λ k e. let b = else_ k (λ q. some_slot (ap o.slot (sym q) ∙ e)) in (refl, b.0, b.1)) chains
        (keeps_lists (λ (y : View). y.lists) s.views o.log id v (with_right v r') o.authors at refl) messages delivered
        (links_frame shows p s o id v (with_right v r') at ws hs same_slots beside (λ k h. homes k) (λ k x kl e. o.homes.own k x kl (sym (homes k) ∙ e))
        (λ j x jl sk h. dite (ℕ_discrete j r.link)
        (λ same. absurd (no_token ((tokens (set s.views id (with_right v r'))).rights r.link) r' rights_after.here (ap (tokens (set s.views id (with_right v r'))).rights (sym same) ∙ h)))
        (λ ne. let a = o.homes.idle j x jl sk (sym (rights_after.else j jl ne) ∙ h) in (a.0, a.1, ap took_of (homes j) ∙ a.2)))
        (λ j y jl h. dite (ℕ_discrete j r.link)
        (λ same. let q : r' ≡ y = one_token ((tokens (set s.views id (with_right v r'))).rights r.link) r' y rights_after.here (ap (tokens (set s.views id (with_right v r'))).rights (sym same) ∙ h) in
        ap took_of (homes j) ∙ (ap (link_home shows p s.homes) same ∙ (home ∙ ap (λ (x : Right). cond x.at_home (some (x.sent, x.places)) none) q)))
        (λ ne. ap took_of (homes j) ∙ o.homes.busy j y jl (sym (rights_after.else j jl ne) ∙ h)))
        (λ k kl e. homes k) refl)

    -- the same, where this link moves
    pub right_moves : (hs : List (Option S)) → ((k : ℕ) → k ≢ r.link → link_at shows p hs k ≡ link_at shows p s.homes k) → ((x : Home) → link_at shows p hs r.link ≡ some x → IsOwn o.slot r.link x)
        → Chains p.links p.requests (memory p o.slot s.words) (tokens (set s.views id (with_right v r'))) o.log o.freed o.places
        → Messages p.links p.requests (message shows hs) (tokens (set s.views id (with_right v r'))) o.log o.places
        → Delivered p.links (8 * p.operations) (λ l. get_or s.words (place_index p l) 0) (link_home shows p hs) (Failed p s) (tokens (set s.views id (with_right v r'))) o.log o.places o.kept
        → link_home shows p hs r.link ≡ cond r'.at_home (some (r'.sent, r'.places)) none
        → Lawful shows p record { words = s.words; homes = hs; views = set s.views id (with_right v r') }
    right_moves hs homes own chains messages delivered home = let x = right_slot in let life = o.in_slots.lives r.link x.0 x.1 in
        let unwaited : total (waits_of r.link) s.views ≡ 0 = given_unwaited p s o.references x.0 life.0 r.link life.1.life in
        chain_frame shows p s o id v (with_right v r') at s.words hs same_slots (beside_all p o.slot s.words) o.log o.freed o.places o.kept o.in_slots.entered held_after (carried_same shows p s o id v (with_right v r') at s.words hs same_slots (beside_all p o.slot s.words) refl) (λ k e. (refl, refl, refl)) chains
        (keeps_lists (λ (y : View). y.lists) s.views o.log id v (with_right v r') o.authors at refl) messages delivered
        (links_frame shows p s o id v (with_right v r') at s.words hs same_slots (beside_all p o.slot s.words) (λ k h. homes k (λ q. let z = ap (λ y. total (waits_of y) s.views) q in omega arith))
        (λ k y kl e. dite (ℕ_discrete k r.link) (λ same. subst (λ z. IsOwn o.slot z y) (sym same) (own y (sym (ap (link_at shows p hs) same) ∙ e))) (λ ne. o.homes.own k y kl (sym (homes k ne) ∙ e)))
        (λ j y jl sk h. dite (ℕ_discrete j r.link)
        (λ same. absurd (no_token ((tokens (set s.views id (with_right v r'))).rights r.link) r' rights_after.here (ap (tokens (set s.views id (with_right v r'))).rights (sym same) ∙ h)))
        (λ ne. let a = o.homes.idle j y jl sk (sym (rights_after.else j jl ne) ∙ h) in (a.0, a.1, ap took_of (homes j ne) ∙ a.2)))
        (λ j y jl h. dite (ℕ_discrete j r.link)
        (λ same. let q : r' ≡ y = one_token ((tokens (set s.views id (with_right v r'))).rights r.link) r' y rights_after.here (ap (tokens (set s.views id (with_right v r'))).rights (sym same) ∙ h) in
        ap (link_home shows p hs) same ∙ (home ∙ ap (λ (x : Right). cond x.at_home (some (x.sent, x.places)) none) q))
        (λ ne. ap took_of (homes j ne) ∙ o.homes.busy j y jl (sym (rights_after.else j jl ne) ∙ h)))
        (λ k kl e. homes k (λ q. some-ne-none x.0 (sym x.1 ∙ (ap o.slot (sym q) ∙ e)))) refl)

    -- all but the chains, where no message is in hand and nothing gets a place
    pub right_step : (ws : List ℕ) (freed : ℕ → ℕ) → r'.clean ≡ r.clean → r'.sent ≡ r.sent → r'.places ≡ r.places → r'.at_home ≡ r.at_home → r'.taken ≡ r.taken → ((now : ℕ) → r.stage ≢ Writes now) → Beside p o.slot s.words ws
        → Same (8 * p.operations) (λ l. get_or s.words (place_index p l) 0) (λ l. get_or ws (place_index p l) 0)
        → Chains p.links p.requests (memory p o.slot ws) (tokens (set s.views id (with_right v r'))) o.log freed o.places
        → Lawful shows p record { words = ws; homes = s.homes; views = set s.views id (with_right v r') }
    right_step ws freed clean sent count home hand stage long pl chains = right_base ws s.homes freed o.places o.kept (λ k ne. (refl, refl)) long (λ k. refl) chains
        (messages_frame o.chains o.messages (tokens (set s.views id (with_right v r'))) (message shows s.homes) (λ q ql. refl) claims_after
        (λ j e jl u. dite (ℕ_discrete j r.link)
        (λ same. let q : r ≡ u.right = one_token ((tokens s.views).rights r.link) r u.right right_alone (ap (tokens s.views).rights (sym same) ∙ u.has) in absurd (stage (ticket e) (ap (λ (y : Right). y.stage) q ∙ u.stage)))
        (λ ne. record { right = u.right; has = rights_after.else j jl ne ∙ u.has; stage = u.stage; taken = u.taken }))
        (λ j y jl h f. dite (ℕ_discrete j r.link)
        (λ same. let q : r' ≡ y = one_token ((tokens (set s.views id (with_right v r'))).rights r.link) r' y rights_after.here (ap (tokens (set s.views id (with_right v r'))).rights (sym same) ∙ h) in
        let w = o.messages.taken_writes j r jl (ap (tokens s.views).rights same ∙ right_alone) (sym hand ∙ (ap (λ (x : Right). x.taken) q ∙ f)) in absurd (stage w.0 w.1))
        (λ ne. (y, sym (rights_after.else j jl ne) ∙ h, f, refl, refl, refl))))
        (delivers_same o.delivered (tokens (set s.views id (with_right v r'))) (λ l. get_or ws (place_index p l) 0) pl
        (λ j y jl h. dite (ℕ_discrete j r.link)
        (λ same. let q : r' ≡ y = one_token ((tokens (set s.views id (with_right v r'))).rights r.link) r' y rights_after.here (ap (tokens (set s.views id (with_right v r'))).rights (sym same) ∙ h) in
        (r, ap (tokens s.views).rights same ∙ right_alone, ap (λ (z : Right). z.clean) (sym q) ∙ clean, ap (λ (z : Right). z.sent) (sym q) ∙ sent, ap (λ (z : Right). z.places) (sym q) ∙ count))
        (λ ne. (y, sym (rights_after.else j jl ne) ∙ h, refl, refl, refl))))
        (o.homes.busy r.link r right_in right_alone ∙ λ w. cond (sym home w) (some (sym sent w, sym count w)) none)

  -- the right goes, where its link is at home
  rights_gone : Changed p.links (tokens s.views).rights (tokens (set s.views id (without_right v r.link))).rights r.link []
  rights_gone = record {
    here = gather_own (rights_on r.link) s.views id v (without_right v r.link) at here_alone.0 ∙ out_here (λ (x : Right). x.link) r.link v.rights;
    else = λ j jl ne. gather_same (rights_on j) s.views id v (without_right v r.link) at (out_else (λ (x : Right). x.link) r.link j v.rights ne);
  }

  pub right_goes : (ws : List ℕ) → r.at_home ≡ true → ((now : ℕ) → r.stage ≢ Writes now) → Beside p o.slot s.words ws
      → Same (8 * p.operations) (λ l. get_or s.words (place_index p l) 0) (λ l. get_or ws (place_index p l) 0)
      → (Changed p.links (tokens s.views).rights (tokens (set s.views id (without_right v r.link))).rights r.link [] → Same p.requests (tokens s.views).claims (tokens (set s.views id (without_right v r.link))).claims
      → Same p.requests (tokens s.views).loose (tokens (set s.views id (without_right v r.link))).loose → Chains p.links p.requests (memory p o.slot ws) (tokens (set s.views id (without_right v r.link))) o.log o.freed o.places)
      → Lawful shows p record { words = ws; homes = s.homes; views = set s.views id (without_right v r.link) }
  right_goes ws home stage long pl chains =
      let claims : Same p.requests (tokens s.views).claims (tokens (set s.views id (without_right v r.link))).claims = λ q ql. gather_same (claims_of q) s.views id v (without_right v r.link) at refl in
      let loose : Same p.requests (tokens s.views).loose (tokens (set s.views id (without_right v r.link))).loose = λ q ql. gather_same (loose_at q) s.views id v (without_right v r.link) at refl in
      let gone : (j : ℕ) (y : Right) → j < p.links → (tokens (set s.views id (without_right v r.link))).rights j ≡ y ∷ [] → j ≢ r.link =
      λ j y jl h same. no_token ((tokens (set s.views id (without_right v r.link))).rights r.link) y (ap (tokens (set s.views id (without_right v r.link))).rights (sym same) ∙ h) rights_gone.here in
      let w : View = without_right v r.link in let same : SameSlots v (without_right v r.link) = record { plan = refl; marks = refl; passes = λ y. omega arith; spare = refl; stores = refl } in
      chain_frame shows p s o id v (without_right v r.link) at ws s.homes same long o.log o.freed o.places o.kept o.in_slots.entered
      (λ k y e. let a = filter_at (λ (z : Right). not (eqb z.link r.link)) v.rights k y e in let x = o.held id v at a.0 y a.1 in let h = x.3 in (x.0, x.1, x.2, record { inside = h.inside; held = h.held; met = h.met }))
      (carried_same shows p s o id v (without_right v r.link) at ws s.homes same long refl) (λ k e. (refl, refl, refl))
      (chains rights_gone claims loose)
      (keeps_lists (λ (y : View). y.lists) s.views o.log id v (without_right v r.link) o.authors at refl)
      (messages_frame o.chains o.messages (tokens (set s.views id (without_right v r.link))) (message shows s.homes) (λ q ql. refl) claims
      (λ j e jl u. dite (ℕ_discrete j r.link)
      (λ same. let q : r ≡ u.right = one_token ((tokens s.views).rights r.link) r u.right right_alone (ap (tokens s.views).rights (sym same) ∙ u.has) in absurd (stage (ticket e) (ap (λ (y : Right). y.stage) q ∙ u.stage)))
      (λ ne. record { right = u.right; has = rights_gone.else j jl ne ∙ u.has; stage = u.stage; taken = u.taken }))
      (λ j y jl h f. (y, sym (rights_gone.else j jl (gone j y jl h)) ∙ h, f, refl, refl, refl)))
      (delivers_same o.delivered (tokens (set s.views id (without_right v r.link))) (λ l. get_or ws (place_index p l) 0) pl
      (λ j y jl h. (y, sym (rights_gone.else j jl (gone j y jl h)) ∙ h, refl, refl, refl)))
      (links_frame shows p s o id v (without_right v r.link) at ws s.homes same long (λ k h. refl) o.homes.own
      (λ j x jl sk h. dite (ℕ_discrete j r.link) (λ same. (r.sent, r.places, o.homes.busy j r jl (ap (tokens s.views).rights same ∙ right_alone) ∙ ap (λ b. cond b (some (r.sent, r.places)) none) home)) (λ ne. o.homes.idle j x jl sk (sym (rights_gone.else j jl ne) ∙ h)))
      (λ j y jl h. o.homes.busy j y jl (sym (rights_gone.else j jl (gone j y jl h)) ∙ h))
      (λ k kl e. refl) refl)
