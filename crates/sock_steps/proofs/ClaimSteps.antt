-- C1, M1, C7 and C3: a request is claimed, filled and made ready, and the next word of its entry is connected.
use Rattle.std.proofs.Common.{◌≡◌, ℕ, ◌+◌, ◌*◌, ◌<◌, eqb, cond, true, false, eq-eqb, ne_eqb, List, [], ◌∷◌, length, get_or, set, inl, sym, refl, ap, ◌∙◌, subst, arith}
use Rattle.std.specs.List.{filter, flat_map}
use mathlib.Core.Option.{Option, some}
use lib.ListN.{get_elem?}
use Rattle.atomic_table.specs.Table.{State}
use Rattle.sock_model.specs.declared.chain.Right.{Right}
use Rattle.sock_model.specs.declared.chain.Claim.{Claim}
use Rattle.sock_model.specs.declared.chain.Loose.{Loose}
use Rattle.sock_model.specs.declared.home.Home.{Home}
use Rattle.sock_model.specs.declared.home.Home.TheVariants.{Message}
use Rattle.sock_model.specs.sock_words.specs.declared.plain.Plan.{Plan}
use Rattle.sock_model.specs.declared.view.View.{View}
use Rattle.sock_model.specs.declared.marks.SlotMark.{SlotMark}
use Rattle.sock_model.specs.MarkWeights.{is_hold, is_met}
use Rattle.sock_model.specs.Marks.{about}
use Rattle.sock_model.specs.SocketTableLayout.{next_index, request_index, place_index}
use Rattle.sock_model.specs.Chains.{Chains}
use Rattle.sock_model.specs.UnplacedMessages.{Messages}
use Rattle.sock_model.specs.ChainLawReads.{as_link, link_home, took_of, memory, letter_of, shown, message, link_at, rights_on, claims_of, loose_at, tokens}
use Rattle.sock_model.specs.ChainRows.{with_claim, without_loose}
use Rattle.sock_model.specs.LawfulSockets.{Lawful}
use Rattle.chain_steps.proofs.TicketLists.{at_length, filter_in}
use Rattle.chain_steps.proofs.UntouchedByChainSteps.{Same, Changed}
use Rattle.chain_steps.proofs.Claims.{claims, free_of, reclaims, readies}
use Rattle.chain_steps.proofs.Nexts.{connects}
use Rattle.chain_steps.proofs.Gather.{gather_all, gather_own, gather_same}
use Rattle.chain_steps.proofs.FewRightsAndClaims.{few_loose, few_claims}
use Rattle.chain_steps.proofs.Authored.{keeps_lists}
use Rattle.chain_steps.proofs.ChainLettersStay.{messages_frame, claims_letter, fills}
use Rattle.chain_steps.proofs.Delivers.{delivers_same, moves_link}
use Rattle.sock_steps.proofs.ChainWordChanges.{Beside, beside_all, next_beside, next_head, next_changed, next_request, next_place, request_beside, request_head, request_changed, request_next, request_place}
use Rattle.sock_steps.proofs.ChainFrame.{SameSlots, carried_same, slots_in, links_frame, chain_frame}
use Rattle.atomic_table.proofs.Lists.{set_else}
use Rattle.sock_steps.proofs.Maps.{set_at}
use Rattle.sock_steps.proofs.RightSteps.{single, out_here, out_else}
use Rattle.sock_model.specs.sock_words.specs.PackedWords.{UNCONNECTED}
use Rattle.sock_model.specs.sock_words.specs.Totals.{total}

module _ {S : Type 0} {shows : S → Home} {p : Plan} {s : State S View} (o : Lawful shows p s) (id : ℕ) (v w : View) (at : get_elem? s.views id ≡ some v) (same : SameSlots v w) (hands : w.hands ≡ v.hands) (rights : w.rights ≡ v.rights) (lists : w.lists ≡ v.lists) where
  pub rights_stay : (k : ℕ) → (tokens (set s.views id w)).rights k ≡ (tokens s.views).rights k
  rights_stay k = gather_same (rights_on k) s.views id v w at (ap (λ (l : List Right). filter (λ (x : Right). eqb x.link k) l) rights)

  -- a step that leaves the rights, the lists, the links' homes and the place words
  pub other_base : (ws : List ℕ) (hs : List (Option S)) → Beside p o.slot s.words ws → ((k : ℕ) → link_at shows p hs k ≡ link_at shows p s.homes k) → Same (8 * p.operations) (λ l. get_or s.words (place_index p l) 0) (λ l. get_or ws (place_index p l) 0)
      → Chains p.links p.requests (memory p o.slot ws) (tokens (set s.views id w)) o.log o.freed o.places
      → Messages p.links p.requests (message shows hs) (tokens (set s.views id w)) o.log o.places
      → Lawful shows p record { words = ws; homes = hs; views = set s.views id w }
  other_base ws hs beside links pl chains messages = chain_frame shows p s o id v w at ws hs same beside o.log o.freed o.places o.kept o.in_slots.entered
      (λ i r g. let x = o.held id v at i r (subst (λ l. get_elem? l i ≡ some r) rights g) in let h = x.3 in
      (x.0, x.1, x.2, record { inside = h.inside; held = subst (λ (m : List SlotMark). 0 < total (is_hold x.2) (about x.1 m)) (sym same.marks) h.held; met = subst (λ (m : List SlotMark). 0 < total (is_met x.2 r.link) (about x.1 m)) (sym same.marks) h.met }))
      (carried_same shows p s o id v w at ws hs same beside hands) (λ k e. (refl, refl, refl)) chains (keeps_lists (λ (y : View). y.lists) s.views o.log id v w o.authors at lists) messages
      (moves_link (delivers_same o.delivered (tokens (set s.views id w)) (λ l. get_or ws (place_index p l) 0) pl (λ j y jl h. (y, sym (rights_stay j) ∙ h, refl, refl, refl)))
      (link_home shows p hs) (λ j took next jl h. inl (sym (ap took_of (links j)) ∙ h)))
      (links_frame shows p s o id v w at ws hs same beside (λ k h. links k) (λ k x kl e. o.homes.own k x kl (sym (links k) ∙ e))
      (λ k j kl sk h. let a = o.homes.idle k j kl sk (sym (rights_stay k) ∙ h) in (a.0, a.1, ap took_of (links k) ∙ a.2)) (λ k r kl h. ap took_of (links k) ∙ o.homes.busy k r kl (sym (rights_stay k) ∙ h)) (λ k kl e. links k) hands)

-- C1, where the word was even: the seat had no claim, and has the new one
pub claiming_law : {S : Type 0} (shows : S → Home) (p : Plan) (id r g : ℕ) (v : View) (c : Claim) (s : State S View) (o : Lawful shows p s) → get_elem? s.views id ≡ some v → r < p.requests → v.claims ≡ [] → c.request ≡ r → c.generation ≡ g → c.ready ≡ false → c.filled ≡ false
    → get_or s.words (request_index p r) 0 ≡ 2 * g → Lawful shows p record { words = set s.words (request_index p r) (2 * g + 1); homes = s.homes; views = set s.views id (with_claim v c) }
claiming_law shows p id r g v c s o at rl empty cr cg ready filled word =
    let w : View = with_claim v c in let claim_same : SameSlots v (with_claim v c) = record { plan = refl; marks = refl; passes = λ y. omega arith; spare = refl; stores = refl } in
    let none_of : (q : ℕ) → claims_of q v ≡ [] = λ q. ap (λ (l : List Claim). filter (λ (x : Claim). eqb x.request q) l) empty in
    let free : (tokens s.views).claims r ≡ [] = (free_of o.chains r g (o.chains.in_use r rl) word).unclaimed in
    let cl : Changed p.requests (tokens s.views).claims (tokens (set s.views id (with_claim v c))).claims r (c ∷ []) = record {
      here = gather_own (claims_of r) s.views id v (with_claim v c) at (free ∙ sym (none_of r)) ∙ ap (λ b. cond b (c ∷ []) []) (eq-eqb c.request r cr);
      else = λ q ql ne. gather_same (claims_of q) s.views id v (with_claim v c) at (ap (λ b. cond b (c ∷ []) []) (ne_eqb c.request q (λ e. ne (sym e ∙ cr))) ∙ sym (none_of q));
    } in
    let rt : Same p.links (tokens s.views).rights (tokens (set s.views id (with_claim v c))).rights = λ k kl. rights_stay o id v (with_claim v c) at claim_same refl refl refl k in
    other_base o id v (with_claim v c) at claim_same refl refl refl (set s.words (request_index p r) (2 * g + 1)) s.homes (request_beside p o.slot s.words (2 * g + 1) o.references.sized (slots_in o) r rl) (λ k. refl)
    (request_place p o.slot s.words (2 * g + 1) o.references.sized (slots_in o) r rl)
    (claims o.chains r g c rl word cg ready (request_head p o.slot s.words (2 * g + 1) o.references.sized (slots_in o) r rl) (request_next p o.slot s.words (2 * g + 1) o.references.sized (slots_in o) r rl) (request_changed p o.slot s.words (2 * g + 1) o.references.sized (slots_in o) r rl)
    rt cl (λ q ql. gather_same (loose_at q) s.views id v (with_claim v c) at refl))
    (claims_letter o.chains o.messages (tokens (set s.views id (with_claim v c))) r c (λ e. let z : false ≡ true = sym filled ∙ e in cc) cl rt)

-- C3
pub connecting_law : {S : Type 0} (shows : S → Home) (p : Plan) (id i : ℕ) (v : View) (l : Loose) (s : State S View) (o : Lawful shows p s) → get_elem? s.views id ≡ some v → l.request < p.requests → get_elem? v.loose i ≡ some l
    → Lawful shows p record { words = set s.words (next_index p l.request) l.before; homes = s.homes; views = set s.views id (without_loose v l.request) }
connecting_law shows p id i v l s o at rl has =
    let loose_same : SameSlots v (without_loose v l.request) = record { plan = refl; marks = refl; passes = λ y. omega arith; spare = refl; stores = refl } in
    let a = filter_in (λ (x : Loose). eqb x.request l.request) v.loose i l has (eq-eqb l.request l.request refl) in
    let b : a.0 < length (loose_at l.request v) = at_length (loose_at l.request v) a.0 l a.1 in let c = few_loose o.chains l.request rl in
    let all : flat_map (loose_at l.request) s.views ≡ loose_at l.request v = gather_all (loose_at l.request) s.views id v at (omega arith) in
    let f : length (flat_map (loose_at l.request) s.views) ≡ length (loose_at l.request v) = ap length all in
    let alone : (tokens s.views).loose l.request ≡ l ∷ [] = all ∙ single (loose_at l.request v) a.0 l (omega arith) a.1 in
    let cl : Same p.requests (tokens s.views).claims (tokens (set s.views id (without_loose v l.request))).claims = λ q ql. gather_same (claims_of q) s.views id v (without_loose v l.request) at refl in
    let rt : Same p.links (tokens s.views).rights (tokens (set s.views id (without_loose v l.request))).rights = λ k kl. rights_stay o id v (without_loose v l.request) at loose_same refl refl refl k in
    other_base o id v (without_loose v l.request) at loose_same refl refl refl (set s.words (next_index p l.request) l.before) s.homes (next_beside p o.slot s.words l.before o.references.sized (slots_in o) l.request rl) (λ k. refl)
    (next_place p o.slot s.words l.before o.references.sized (slots_in o) l.request rl)
    (connects o.chains l.request l rl alone (next_head p o.slot s.words l.before o.references.sized (slots_in o) l.request rl) (next_changed p o.slot s.words l.before o.references.sized (slots_in o) l.request rl) (next_request p o.slot s.words l.before o.references.sized (slots_in o) l.request rl)
    rt cl record {
      here = gather_own (loose_at l.request) s.views id v (without_loose v l.request) at all ∙ out_here (λ (y : Loose). y.request) l.request v.loose;
      else = λ q ql ne. gather_same (loose_at q) s.views id v (without_loose v l.request) at (out_else (λ (y : Loose). y.request) l.request q v.loose ne);
    })
    (messages_frame o.chains o.messages (tokens (set s.views id (without_loose v l.request))) (message shows s.homes) (λ q ql. refl) cl
    (λ k e kl u. record { right = u.right; has = rt k kl ∙ u.has; stage = u.stage; taken = u.taken }) (λ k r kl h g. (r, sym (rt k kl) ∙ h, g, refl, refl, refl)))

module _ {S : Type 0} {shows : S → Home} {p : Plan} {s : State S View} (o : Lawful shows p s) (id r : ℕ) (v : View) (c c' : Claim) (at : get_elem? s.views id ≡ some v) (rl : r < p.requests) (mine : v.claims ≡ c ∷ []) (is : c.request ≡ r) (is' : c'.request ≡ r) where
  own_claim : claims_of r v ≡ c ∷ []
  own_claim = ap (λ (l : List Claim). filter (λ (x : Claim). eqb x.request r) l) mine ∙ ap (λ b. cond b (c ∷ []) []) (eq-eqb c.request r is)

  -- the claim of the view is that of all views
  pub claim_alone : (tokens s.views).claims r ≡ c ∷ []
  claim_alone = let few = few_claims o.chains r rl in let z : length (claims_of r v) ≡ 1 = ap length own_claim in gather_all (claims_of r) s.views id v at (omega arith) ∙ own_claim

  claim_changed : Changed p.requests (tokens s.views).claims (tokens (set s.views id (with_claim v c'))).claims r (c' ∷ [])
  claim_changed = record {
    here = gather_own (claims_of r) s.views id v (with_claim v c') at (claim_alone ∙ sym own_claim) ∙ ap (λ b. cond b (c' ∷ []) []) (eq-eqb c'.request r is');
    else = λ q ql ne. gather_same (claims_of q) s.views id v (with_claim v c') at (ap (λ b. cond b (c' ∷ []) []) (ne_eqb c'.request q (λ e. ne (sym e ∙ is'))) ∙ sym (ap (λ (l : List Claim). filter (λ (x : Claim). eqb x.request q) l) mine ∙ ap (λ b. cond b (c ∷ []) []) (ne_eqb c.request q (λ e. ne (sym e ∙ is)))));
  }

  same_slots : SameSlots v (with_claim v c')
  same_slots = record { plan = refl; marks = refl; passes = λ y. omega arith; spare = refl; stores = refl }

  -- C7
  pub readying_law : c'.generation ≡ c.generation → (c'.filled ≡ true → message shows s.homes r ≡ some (c'.heading, c'.bytes)) → Lawful shows p record { words = set s.words (next_index p r) UNCONNECTED; homes = s.homes; views = set s.views id (with_claim v c') }
  readying_law same told = let rt : Same p.links (tokens s.views).rights (tokens (set s.views id (with_claim v c'))).rights = λ k kl. rights_stay o id v (with_claim v c') at same_slots refl refl refl k in
      other_base o id v (with_claim v c') at same_slots refl refl refl (set s.words (next_index p r) UNCONNECTED) s.homes (next_beside p o.slot s.words UNCONNECTED o.references.sized (slots_in o) r rl) (λ k. refl)
      (next_place p o.slot s.words UNCONNECTED o.references.sized (slots_in o) r rl)
      (readies o.chains r c c' rl claim_alone same (next_head p o.slot s.words UNCONNECTED o.references.sized (slots_in o) r rl) (next_changed p o.slot s.words UNCONNECTED o.references.sized (slots_in o) r rl) (next_request p o.slot s.words UNCONNECTED o.references.sized (slots_in o) r rl)
      rt claim_changed (λ q ql. gather_same (loose_at q) s.views id v (with_claim v c') at refl))
      (claims_letter o.chains o.messages (tokens (set s.views id (with_claim v c'))) r c' told claim_changed rt)

  -- M1
  pub filling_law : (y : S) → shows y ≡ Message c'.heading c'.bytes → r < length s.homes → c'.generation ≡ c.generation → c'.ready ≡ c.ready → Lawful shows p record { words = s.words; homes = set s.homes r (some y); views = set s.views id (with_claim v c') }
  filling_law y sees long same ready = let rt : Same p.links (tokens s.views).rights (tokens (set s.views id (with_claim v c'))).rights = λ k kl. rights_stay o id v (with_claim v c') at same_slots refl refl refl k in
      let hs : List (Option S) = set s.homes r (some y) in
      other_base o id v (with_claim v c') at same_slots refl refl refl s.words (set s.homes r (some y)) (beside_all p o.slot s.words) (λ k. ap (λ h. as_link (shown shows h)) (set_else s.homes r (p.requests + k) (some y) (λ q. omega arith))) (λ l ll. refl)
      (reclaims o.chains r c c' rl claim_alone same (λ e. sym ready ∙ e) (λ k kl. refl) (λ q ql. refl) (λ q ql. refl) rt claim_changed (λ q ql. gather_same (loose_at q) s.views id v (with_claim v c') at refl))
      (fills o.chains o.messages (tokens (set s.views id (with_claim v c'))) (message shows (set s.homes r (some y))) r c c' rl claim_alone
      record {
        here = ap (λ h. letter_of (shown shows h)) (set_at s.homes r (some y) long) ∙ ap (λ h. letter_of (some h)) sees;
        else = λ q ql ne. ap (λ h. letter_of (shown shows h)) (set_else s.homes r q (some y) (λ e. ne e));
      } claim_changed (λ k kl. rt k kl))
