-- C2: the exchange of the head, by which a link accepts a message.
use Rattle.std.proofs.Common.{◌≡◌, ◌≢◌, ℕ, zero, suc, ◌-◌, ◌<◌, ◌≤◌, ◌⊎◌, eqb, cond, true, false, eq-eqb, ne_eqb, List, [], ◌∷◌, ◌++◌, length, get_or, set, sym, refl, ap, ◌∙◌, subst, inl, inr, ⊎_elim, arith}
use Rattle.std.specs.List.{filter}
use mathlib.Core.Logic.{dite}
use mathlib.Core.Option.{some, none, some-injective, some-ne-none}
use native.Mathlib.Decide.{ℕ_discrete}
use lib.ListN.{get_elem?}
use Rattle.atomic_table.specs.Table.{State}
use Rattle.sock_model.specs.declared.chain.Entry.{Entry}
use Rattle.sock_model.specs.declared.chain.Right.{Right}
use Rattle.sock_model.specs.declared.chain.Claim.{Claim}
use Rattle.sock_model.specs.declared.chain.Stage.TheVariants.{Writes}
use Rattle.sock_model.specs.declared.home.Home.{Home}
use Rattle.sock_model.specs.sock_words.specs.declared.plain.Plan.{Plan}
use Rattle.sock_model.specs.declared.view.View.{View}
use Rattle.sock_model.specs.MarkWeights.{is_met}
use Rattle.sock_model.specs.SlotRows.{marks_of}
use Rattle.sock_model.specs.SocketTableLayout.{head_index, place_index}
use Rattle.sock_model.specs.Entries.{ticket, ticket_of, on, nth}
use Rattle.sock_model.specs.LinkWritingState.{loose_of}
use Rattle.sock_model.specs.ChainLawReads.{head_at, memory, link_home, rights_on, claims_of, loose_at, tokens}
use Rattle.sock_model.specs.ChainRows.{entry_of, more, queued, righted}
use Rattle.sock_model.specs.ChainStepConditions.{MayExchange}
use Rattle.sock_model.specs.LinksInSlots.{Given, Lives}
use Rattle.sock_model.specs.LawfulSockets.{Lawful}
use Rattle.chain_steps.proofs.TicketLists.{on_miss, at_snoc, old, new}
use Rattle.chain_steps.proofs.UntouchedByChainSteps.{Same, Changed, one_token, no_token}
use Rattle.chain_steps.proofs.Claims.{claim_of}
use Rattle.chain_steps.proofs.Gather.{gather_all, gather_none, gather_own, gather_same}
use Rattle.chain_steps.proofs.FewRightsAndClaims.{few_claims}
use Rattle.chain_steps.proofs.Authored.{accepts}
use Rattle.chain_steps.proofs.ChainLettersStay.{entrusts, places_fit}
use Rattle.chain_steps.proofs.Delivers.{delivers_more, delivers_same}
use Rattle.chain_steps.proofs.Grow.{IsNext, busy_found, idle_found, queues, begins}
use Rattle.sock_steps.proofs.LifeLinkSlotPlaces.{holder_lives}
use Rattle.sock_steps.proofs.ChainWordChanges.{Beside, head_beside, head_changed, next_same, request_same, place_same}
use Rattle.sock_steps.proofs.ChainFrame.{SameSlots, carried_same, slots_in, one_slot, links_frame, chain_frame}
use Rattle.sock_model.specs.sock_words.specs.PackedWords.{IDLE}

-- the tokens of a request or link, where one more stands in a view, or the one claim goes
own_claim : (r : ℕ) (v : View) (c : Claim) → v.claims ≡ c ∷ [] → c.request ≡ r → claims_of r v ≡ c ∷ []
own_claim r v c e q = ap (λ (l : List Claim). filter (λ (x : Claim). eqb x.request r) l) e ∙ ap (λ b. cond b (c ∷ []) []) (eq-eqb c.request r q)

no_claim : (r : ℕ) (v : View) (c : Claim) → v.claims ≡ c ∷ [] → c.request ≢ r → claims_of r v ≡ []
no_claim r v c e q = ap (λ (l : List Claim). filter (λ (x : Claim). eqb x.request r) l) e ∙ ap (λ b. cond b (c ∷ []) []) (ne_eqb c.request r q)

head_or : (l : List Right) (x : Right) (i : ℕ) (r : Right) → get_elem? (x ∷ l) i ≡ some r → (x ≡ r) ⊎ ((j : ℕ) × (get_elem? l j ≡ some r))
head_or l x zero r e = inl (some-injective x r e)
head_or l x (suc i) r e = inr (i, e)

module _ {S : Type 0} (shows : S → Home) (p : Plan) (s : State S View) (o : Lawful shows p s) (id i own : ℕ) (v : View) (at : get_elem? s.views id ≡ some v) (x : MayExchange p v i own) where
  life : Lives p s i x.life x.claim.link
  life = holder_lives p s o.references id v i x.life x.claim.link at x.holds

  link_slot : o.slot x.claim.link ≡ some i
  link_slot = o.in_slots.alone i x.life x.claim.link life

  pub link_in : x.claim.link < p.links
  link_in = o.in_slots.small i x.life x.claim.link life.life

  own_beside : Beside p o.slot s.words (set s.words (head_index i) own)
  own_beside = head_beside p o.slot s.words own o.references.sized (slots_in o) x.claim.link i link_slot (one_slot o)

  entered_more : (e : Entry) → e.link ≡ x.claim.link → (q : ℕ) (d : Entry) → get_elem? (o.log ++ e ∷ []) q ≡ some d → (j : ℕ) × (h : ℕ) × Given p s j h d.link
  entered_more e is q d g = elim (at_snoc o.log e q d g) [
    | old a y ↦ o.in_slots.entered q d a
    | new a y ↦ (i, x.life, subst (λ z. Given p s i x.life z) (sym is ∙ ap (λ (z : Entry). z.link) y) life.life)
  ]

  abbrev found : ℕ
  found = get_or s.words (head_index i) 0

  head_is : (memory p o.slot s.words).head x.claim.link ≡ some found
  head_is = ap (head_at s.words) link_slot

  claimed : (tokens s.views).claims x.claim.request ≡ x.claim ∷ []
  claimed = let c = own_claim x.claim.request v x.claim x.claims refl in let few = few_claims o.chains x.claim.request x.request_in in
      let z : length (claims_of x.claim.request v) ≡ 1 = ap length c in gather_all (claims_of x.claim.request) s.views id v at (omega arith) ∙ c

  next_entry : (before : ℕ) → before ≡ nth (on x.claim.link o.log) (length (on x.claim.link o.log)) → IsNext p.links p.requests (memory p o.slot s.words) (tokens s.views) o.log x.claim.link x.claim (entry_of x.claim before)
  next_entry before is = record { link_in = link_in; request_in = x.request_in; narrow = o.fits.narrow; claimed = claimed; is_ready = x.is_ready; link_is = refl; generation_is = refl; before_is = is }

  -- a link in no slot accepted nothing
  log_else : (e : Entry) → e.link ≡ x.claim.link → (k : ℕ) → o.slot k ≡ none → (on k (o.log ++ e ∷ []) ≡ on k o.log) × (o.places k ≡ o.places k) × (o.kept k ≡ o.kept k)
  log_else e is k none_ = (on_miss k o.log e (λ q. some-ne-none i (sym link_slot ∙ (ap o.slot (sym is ∙ q) ∙ none_))), refl, refl)

  -- the tokens of the new views
  claims_after : (w : View) → w.claims ≡ [] → Changed p.requests (tokens s.views).claims (tokens (set s.views id w)).claims x.claim.request []
  claims_after w gone = let empty : (r : ℕ) → claims_of r w ≡ [] = λ r. ap (λ (l : List Claim). filter (λ (y : Claim). eqb y.request r) l) gone in record {
    here = gather_own (claims_of x.claim.request) s.views id v w at (claimed ∙ sym (own_claim x.claim.request v x.claim x.claims refl)) ∙ empty x.claim.request;
    else = λ r rl ne. gather_same (claims_of r) s.views id v w at (empty r ∙ sym (no_claim r v x.claim x.claims (λ q. ne (sym q))));
  }

  own_head : Changed p.links (memory p o.slot s.words).head (memory p o.slot (set s.words (head_index i) own)).head x.claim.link (some (ticket_of x.claim.request x.claim.generation))
  own_head = subst (λ y. Changed p.links (memory p o.slot s.words).head (memory p o.slot (set s.words (head_index i) own)).head x.claim.link (some y)) x.own_is (head_changed p o.slot s.words own o.references.sized (slots_in o) x.claim.link i link_slot (one_slot o))

  own_lists : (w : View) (e : Entry) → w.lists ≡ more v.lists e → w.lists ≡ (x.made ++ e ∷ []) ∷ x.taken_in
  own_lists w e h = h ∙ ap (λ l. more l e) x.lists

  -- the head was busy
  pub queued_law : found < IDLE → Lawful shows p record { words = set s.words (head_index i) own; homes = s.homes; views = set s.views id (queued v x.claim found) }
  queued_law low =
      let b = busy_found o.chains x.claim.link found link_in head_is low in
      let c = x.claim in let e = entry_of c found in let w : View = queued v c found in let same_slots : SameSlots v (queued v x.claim found) = record { plan = refl; marks = refl; passes = λ y. omega arith; spare = refl; stores = refl } in
      let no_loose : (tokens s.views).loose c.request ≡ [] = (claim_of o.chains c.request c (o.chains.in_use c.request x.request_in) claimed).still in
      let own_loose : loose_at c.request v ≡ [] = gather_none (loose_at c.request) s.views id v at no_loose in
      let rights : Same p.links (tokens s.views).rights (tokens (set s.views id w)).rights = λ k kl. gather_same (rights_on k) s.views id v w at refl in
      chain_frame shows p s o id v w at (set s.words (head_index i) own) s.homes same_slots own_beside (o.log ++ entry_of x.claim found ∷ []) o.freed o.places o.kept
      (entered_more (entry_of x.claim found) refl)
      (λ n r g. let y = o.held id v at n r g in let h = y.3 in (y.0, y.1, y.2, record { inside = h.inside; held = h.held; met = h.met }))
      (carried_same shows p s o id v w at (set s.words (head_index i) own) s.homes same_slots own_beside refl) (log_else (entry_of x.claim found) refl)
      (queues o.chains c.link c e (next_entry found b.last_is) (memory p o.slot (set s.words (head_index i) own)) (tokens (set s.views id w)) b.right (head_is ∙ ap (λ (y : ℕ). some y) b.last_is) b.rights b.held own_head
      (next_same p o.slot s.words own o.references.sized (slots_in o) c.link i link_slot (one_slot o))
      (request_same p o.slot s.words own o.references.sized (slots_in o) c.link i link_slot (one_slot o))
      rights
      (claims_after w refl)
      record {
        here = gather_own (loose_at c.request) s.views id v w at (no_loose ∙ sym own_loose) ∙ (ap (λ b. cond b (loose_of e ∷ loose_at c.request v) (loose_at c.request v)) (eq-eqb c.request c.request refl) ∙ ap (λ l. loose_of e ∷ l) own_loose);
        else = λ r rl ne. gather_same (loose_at r) s.views id v w at (ap (λ b. cond b (loose_of e ∷ loose_at r v) (loose_at r v)) (ne_eqb c.request r (λ q. ne (sym q))));
      })
      (accepts (λ (v : View). v.lists) s.views o.log id v w e x.made x.taken_in o.authors at x.lists (own_lists w e refl))
      (entrusts o.chains o.messages (tokens (set s.views id w)) c.link c e (next_entry found b.last_is) x.is_filled refl refl (claims_after w refl) (λ k r kl h. rights k kl ∙ h) (λ k r kl h f. (r, sym (rights k kl) ∙ h, f, refl, refl, refl)))
      (delivers_same
      (delivers_more o.delivered (tokens (set s.views id w)) c.link e refl (λ k kl. places_fit o.chains k kl) (λ k r kl h. inl (sym (rights k kl) ∙ h)))
      (tokens (set s.views id w)) (λ l. get_or (set s.words (head_index i) own) (place_index p l) 0)
      (place_same p o.slot s.words own o.references.sized (slots_in o) c.link i link_slot (one_slot o)) (λ k r kl h. (r, h, refl, refl, refl)))
      (links_frame shows p s o id v w at (set s.words (head_index i) own) s.homes same_slots own_beside (λ k h. refl) o.homes.own
      (λ k i kl sk h. o.homes.idle k i kl sk (sym (rights k kl) ∙ h))
      (λ k r kl h. o.homes.busy k r kl (sym (rights k kl) ∙ h))
      (λ k kl e. refl) refl)

  -- where the head is idle each message of the link has a place, and the link at home knows how many
  pub idle_home : IDLE ≤ found → (sent : List ℕ) × (places : ℕ) × (link_home shows p s.homes x.claim.link ≡ some (sent, places)) × (places ≡ length (on x.claim.link o.log))
  idle_home high =
      let b = idle_found o.chains x.claim.link found link_in o.fits.narrow head_is high in
      let took = o.homes.idle x.claim.link i link_in link_slot b.rights in
      (took.0, took.1, took.2, (o.delivered.at_home x.claim.link took.0 took.1 link_in took.2).2 ∙ (b.all_placed ∙ b.all_freed))

  -- the head was idle
  pub righted_law : IDLE ≤ found → (sent : List ℕ) × (places : ℕ) × Lawful shows p record { words = set s.words (head_index i) own; homes = s.homes; views = set s.views id (righted v x.claim found sent places) }
  righted_law high =
      let b = idle_found o.chains x.claim.link found link_in o.fits.narrow head_is high in
      let took = o.homes.idle x.claim.link i link_in link_slot b.rights in
      let c = x.claim in let e = entry_of c (found - IDLE) in let w : View = righted v c found took.0 took.1 in let same_slots : SameSlots v (righted v x.claim found took.0 took.1) = record { plan = refl; marks = refl; passes = λ y. omega arith; spare = refl; stores = refl } in
      let fresh : Right = record { link = c.link; last = ticket e; stage = Writes (ticket e); clean = false; at_home = true; taken = false; places = took.1; sent = took.0; heading = c.heading; bytes = []; put = 0; turned = 0; noted = suc took.1 } in
      let before : found - IDLE ≡ nth (on c.link o.log) (length (on c.link o.log)) = (let z = b.last_is in omega arith) in
      let own_right : rights_on c.link v ≡ [] = gather_none (rights_on c.link) s.views id v at b.rights in
      let rights : Changed p.links (tokens s.views).rights (tokens (set s.views id w)).rights c.link (fresh ∷ []) = record {
        here = gather_own (rights_on c.link) s.views id v w at (b.rights ∙ sym own_right) ∙ (ap (λ b. cond b (fresh ∷ rights_on c.link v) (rights_on c.link v)) (eq-eqb c.link c.link refl) ∙ ap (λ l. fresh ∷ l) own_right);
        else = λ k kl ne. gather_same (rights_on k) s.views id v w at (ap (λ b. cond b (fresh ∷ rights_on k v) (rights_on k v)) (ne_eqb c.link k (λ q. ne (sym q))));
      } in (
        took.0,
        took.1,
        chain_frame shows p s o id v w at (set s.words (head_index i) own) s.homes same_slots own_beside (o.log ++ entry_of x.claim (found - IDLE) ∷ []) o.freed o.places o.kept
            (entered_more (entry_of x.claim (found - IDLE)) refl)
            (λ n r g. ⊎_elim (λ q. let h = x.holds in let link : c.link ≡ r.link = ap (λ (y : Right). y.link) q in (subst (λ y. y < p.links) link link_in, i, x.life, record { inside = h.inside; held = h.held; met = subst (λ y. 0 < marks_of (is_met x.life y) i v) link h.met }))
            (λ q. let y = o.held id v at q.0 r q.1 in let h = y.3 in (y.0, y.1, y.2, record { inside = h.inside; held = h.held; met = h.met })) (head_or v.rights fresh n r g))
            (carried_same shows p s o id v w at (set s.words (head_index i) own) s.homes same_slots own_beside refl) (log_else (entry_of x.claim (found - IDLE)) refl)
            (begins o.chains c.link c e (next_entry (found - IDLE) before) (memory p o.slot (set s.words (head_index i) own)) (tokens (set s.views id w)) fresh b.all_freed b.all_placed refl refl (ap suc (o.delivered.at_home c.link took.0 took.1 link_in took.2).2) refl own_head
            (next_same p o.slot s.words own o.references.sized (slots_in o) c.link i link_slot (one_slot o))
            (request_same p o.slot s.words own o.references.sized (slots_in o) c.link i link_slot (one_slot o))
            rights
            (claims_after w refl)
            (λ r rl. gather_same (loose_at r) s.views id v w at refl))
            (accepts (λ (v : View). v.lists) s.views o.log id v w e x.made x.taken_in o.authors at x.lists (own_lists w e refl))
            (entrusts o.chains o.messages (tokens (set s.views id w)) c.link c e (next_entry (found - IDLE) before) x.is_filled refl refl (claims_after w refl)
            (λ k r kl h. rights.else k kl (λ same. no_token ((tokens s.views).rights k) r h (ap (tokens s.views).rights same ∙ b.rights)) ∙ h)
            (λ k r kl h f. dite (ℕ_discrete k c.link)
            (λ same. let z : true ≡ false = sym f ∙ ap (λ (y : Right). y.taken) (sym (one_token ((tokens (set s.views id w)).rights c.link) fresh r rights.here (ap (tokens (set s.views id w)).rights (sym same) ∙ h))) in cc)
            (λ ne. (r, sym (rights.else k kl ne) ∙ h, f, refl, refl, refl))))
            (delivers_same
            (delivers_more o.delivered (tokens (set s.views id w)) c.link e refl (λ k kl. places_fit o.chains k kl)
            (λ k r kl h. dite (ℕ_discrete k c.link)
            (λ same. let q : fresh ≡ r = one_token ((tokens (set s.views id w)).rights c.link) fresh r rights.here (ap (tokens (set s.views id w)).rights (sym same) ∙ h) in
            inr (ap (λ (y : Right). y.clean) (sym q), ap (link_home shows p s.homes) same ∙ (took.2 ∙ ap (λ (y : Right). some (y.sent, y.places)) q)))
            (λ ne. inl (sym (rights.else k kl ne) ∙ h))))
            (tokens (set s.views id w)) (λ l. get_or (set s.words (head_index i) own) (place_index p l) 0)
            (place_same p o.slot s.words own o.references.sized (slots_in o) c.link i link_slot (one_slot o)) (λ k r kl h. (r, h, refl, refl, refl)))
            (links_frame shows p s o id v w at (set s.words (head_index i) own) s.homes same_slots own_beside (λ k h. refl) o.homes.own
            (λ k i kl sk h. dite (ℕ_discrete k c.link)
            (λ same. absurd (no_token ((tokens (set s.views id w)).rights c.link) fresh rights.here (ap (tokens (set s.views id w)).rights (sym same) ∙ h)))
            (λ ne. o.homes.idle k i kl sk (sym (rights.else k kl ne) ∙ h)))
            (λ k r kl h. dite (ℕ_discrete k c.link)
            (λ same. let q : fresh ≡ r = one_token ((tokens (set s.views id w)).rights c.link) fresh r rights.here (ap (tokens (set s.views id w)).rights (sym same) ∙ h) in
            ap (link_home shows p s.homes) same ∙ (took.2 ∙ ap (λ (y : Right). cond y.at_home (some (y.sent, y.places)) none) q))
            (λ ne. o.homes.busy k r kl (sym (rights.else k kl ne) ∙ h)))
            (λ k kl e. refl) refl),
      )
