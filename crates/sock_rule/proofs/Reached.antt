-- What a state says of the tickets and the labels that a seat comes to, and of homes that no message needs.
use Rattle.std.proofs.Common.{◌≡◌, ◌≢◌, ℕ, zero, suc, ◌+◌, ◌-◌, ◌*◌, ◌/◌, ◌%◌, ◌<◌, ◌≤◌, Bool, true, false, cond, eqb, List, [], ◌∷◌, length, map, get_or, set, inl, inr, ⊎_elim, refl, sym, ap, ◌∙◌, subst, arith}
use Rattle.std.specs.List.{filter}
use mathlib.Core.Option.{Option, some, some-injective, some-ne-none}
use lib.ListN.{get_elem?}
use Rattle.atomic_table.specs.Table.{State}
use Rattle.atomic_table.proofs.Lists.{set_else}
use Rattle.sock_words.specs.declared.plain.Plan.{Plan}
use Rattle.sock_model.specs.declared.chain.Claim.{Claim}
use Rattle.sock_model.specs.declared.chain.Entry.{Entry}
use Rattle.sock_model.specs.declared.chain.Right.{Right}
use Rattle.sock_model.specs.declared.chain.Stage.{Stage}
use Rattle.sock_model.specs.declared.chain.Stage.TheVariants.{Writes, Placed, Passes, Empties, Reversing, ReversesNext}
use Rattle.sock_model.specs.declared.home.Home.{Home}
use Rattle.sock_model.specs.declared.view.View.{View}
use Rattle.sock_model.specs.Authors.{pick}
use Rattle.sock_model.specs.Entries.{ticket, on, nth}
use Rattle.sock_model.specs.SocketTableLayout.{request_index}
use Rattle.sock_model.specs.ChainLawReads.{as_link, letter_of, shown, memory, message, claims_of, loose_at, tokens}
use Rattle.sock_model.specs.ChainMemory.{Memory}
use Rattle.sock_model.specs.ChainTokens.{Tokens}
use Rattle.sock_model.specs.LinkWritingState.{Counts, Held, InStage, OnWalk, Standing, absent, idle, busy}
use Rattle.sock_model.specs.LawfulSockets.{Lawful}
use Rattle.chain_core.specs.chain_steps.proofs.TicketLists.{at_some, at_length, ticket_at_is}
use Rattle.chain_core.specs.chain_steps.proofs.UntouchedByChainSteps.{in_size, live_same, chains_frame}
use Rattle.chain_core.specs.chain_steps.proofs.Frees.{Leads, to_end, to_next}
use Rattle.chain_core.specs.chain_steps.proofs.Gather.{gather_same}
use Rattle.chain_core.specs.chain_steps.proofs.Claims.{free_of}
use Rattle.chain_core.specs.chain_steps.proofs.ChainHeadSteps.{held_of, slot_is}
use Rattle.chain_core.specs.chain_steps.proofs.ChainLettersStay.{writes_room}
use Rattle.chain_core.specs.sock_steps.proofs.ChainWordChanges.{beside_all}
use Rattle.chain_core.specs.sock_steps.proofs.ChainFrame.{SameSlots}
use Rattle.chain_core.specs.sock_steps.proofs.ClaimSteps.{rights_stay, other_base}
use Rattle.chain_core.specs.sock_steps.proofs.RightSteps.{right_in, right_alone}
use Rattle.sock_model.specs.Rule.{Rule}
use Rattle.chain_core.specs.sock_steps.proofs.Positions.{place_fits}
use Rattle.sock_rule.specs.OnTable.{Labelled}
use Rattle.sock_rule.specs.ChainPlays.{IsTicket}
use Rattle.sock_words.specs.PackedWords.{ticket_request}

freed_placed : (m : Memory) (t : Tokens) (c : List Entry) (n : Counts) (freed places : ℕ) (b : Stage) → InStage m t c n freed places b → freed ≤ places
freed_placed m t c n freed places (Writes now) st = let a = st.1 in omega arith
freed_placed m t c n freed places (Placed now) st = let a = st.1 in omega arith
freed_placed m t c n freed places (Passes now next) st = let a = st.1 in omega arith
freed_placed m t c n freed places Empties st = let a = st.1 in omega arith
freed_placed m t c n freed places (Reversing top at after) st = let a = st.all_freed.1 in omega arith
freed_placed m t c n freed places (ReversesNext top at after before) st = let a = st.0.all_freed.1 in omega arith

-- the entry that has its place, and whose request isn't given back yet
placed_at : (m : Memory) (t : Tokens) (c : List Entry) (n : Counts) (freed places last now : ℕ) (a b : Stage) → Leads last a now b → InStage m t c n freed places a → (places ≡ suc freed) × (freed < n.noted) × (nth c (suc freed) ≡ now)
placed_at m t c n freed places last now a b (to_end x e) st = (st.1, st.2, st.3)
placed_at m t c n freed places last now a b (to_next x y) st = (st.1, (let k = st.2 in omega arith), st.3)

standing_placed : (m : Memory) (t : Tokens) (k : ℕ) (c : List Entry) (freed places : ℕ) → Standing m t k c freed places → freed ≤ places
standing_placed m t k c freed places (absent h r f e) = omega arith
standing_placed m t k c freed places (idle h r f e) = omega arith
standing_placed m t k c freed places (busy r h e held) = freed_placed m t c held.counts freed places r.stage held.stage_is

one_not_none : (c : Claim) → c ∷ [] ≡ [] → ⊥
one_not_none c e = let y = ap {A = List Claim} length e in omega arith

module _ {S : Type 0} {shows : S → Home} {p : Plan} {s : State S View} (o : Lawful shows p s) where
  freed_first : (k i : ℕ) (e : Entry) → get_elem? (on k o.log) i ≡ some e → o.places k ≤ i → o.freed k ≤ i
  freed_first k i e g late = let z = in_size o.chains k i e g in let f = standing_placed (memory p o.slot s.words) (tokens s.views) k (on k o.log) (o.freed k) (o.places k) (o.chains.standing k z.0) in omega arith

  -- each entry's ticket is one of a request of the table
  pub entry_ticket : (k n now : ℕ) → n < length (on k o.log) → nth (on k o.log) (suc n) ≡ now → IsTicket p now
  entry_ticket k n now inside is = let e = at_some (on k o.log) n inside in let size = in_size o.chains k n e.0 e.1 in let narrow = o.fits.narrow in
      let tick : ticket e.0 ≡ now = sym (ticket_at_is (on k o.log) n e.0 e.1) ∙ is in let z = size.1 in let g = size.2 in let small : e.0.request < 65535 = omega arith in
      let slot : ticket_request now ≡ e.0.request = ap ticket_request (sym tick) ∙ slot_is e.0 small in
      record { some_slot = omega arith; inside = omega arith; small = omega arith }

  module _ (id : ℕ) (v : View) (at : get_elem? s.views id ≡ some v) (r : Right) (one : v.rights ≡ r ∷ []) where
    has : get_elem? v.rights 0 ≡ some r
    has = ap (λ l. get_elem? l 0) one

    pub inside_link : r.link < p.links
    inside_link = right_in o id 0 v r at has

    held : Held (memory p o.slot s.words) (tokens s.views) (on r.link o.log) (o.freed r.link) (o.places r.link) r
    held = (held_of o.chains r.link r inside_link (right_alone o id 0 v r at has)).1

    in_stage : (b : Stage) → r.stage ≡ b → InStage (memory p o.slot s.words) (tokens s.views) (on r.link o.log) held.counts (o.freed r.link) (o.places r.link) b
    in_stage b e = subst (InStage (memory p o.slot s.words) (tokens s.views) (on r.link o.log) held.counts (o.freed r.link) (o.places r.link)) e held.stage_is

    pub writes_ticket : (now : ℕ) → r.stage ≡ Writes now → IsTicket p now
    writes_ticket now stage = let f = held.fits in let st = in_stage (Writes now) stage in let some_ = st.2 in entry_ticket r.link (o.freed r.link) now (omega (arith, f.1, f.2, f.3, some_)) st.3

    -- the request of the next message is taken
    pub writes_taken : (now : ℕ) → r.stage ≡ Writes now → get_or s.words (request_index p (ticket_request now)) 0 % 2 ≡ 1
    writes_taken now stage = let f = held.fits in let st = in_stage (Writes now) stage in let some_ = st.2 in let e = at_some (on r.link o.log) (o.freed r.link) (omega (arith, f.1, f.2, f.3, some_)) in
        let size = in_size o.chains r.link (o.freed r.link) e.0 e.1 in let narrow = o.fits.narrow in let z = size.1 in let small : e.0.request < 65535 = omega arith in
        let tick : ticket e.0 ≡ now = sym (ticket_at_is (on r.link o.log) (o.freed r.link) e.0 e.1) ∙ st.3 in
        let slot : ticket_request now ≡ e.0.request = ap ticket_request (sym tick) ∙ slot_is e.0 small in
        let word = ap (memory p o.slot s.words).request slot ∙ (o.chains.live r.link (o.freed r.link) e.0 (omega arith) e.1).0 in omega arith

    pub placed_ticket : (now : ℕ) → r.stage ≡ Placed now → IsTicket p now
    placed_ticket now stage = let f = held.fits in let st = in_stage (Placed now) stage in let some_ = st.2 in entry_ticket r.link (o.freed r.link) now (omega (arith, f.1, f.2, f.3, some_)) st.3

    pub passes_ticket : (now next : ℕ) → r.stage ≡ Passes now next → IsTicket p next
    passes_ticket now next stage = let f = held.fits in let st = in_stage (Passes now next) stage in let some_ = st.2 in entry_ticket r.link (suc (o.freed r.link)) next (omega (arith, f.1, f.2, f.3, some_)) st.4

    pub walk_ticket : (top a after : ℕ) → r.stage ≡ Reversing top a after → IsTicket p a
    walk_ticket top a after stage = let f = held.fits in let walk : OnWalk (on r.link o.log) held.counts (o.freed r.link) (o.places r.link) top a after = in_stage (Reversing top a after) stage in let some_ = walk.some_left in
        let back : suc (held.counts.left - 1) ≡ held.counts.left = omega arith in
        entry_ticket r.link (held.counts.left - 1) a (omega (arith, f.2, f.3, some_)) (ap (nth (on r.link o.log)) back ∙ walk.at_is)

    pub turns_ticket : (top a after before : ℕ) → r.stage ≡ ReversesNext top a after before → IsTicket p before
    turns_ticket top a after before stage = let f = held.fits in let st = in_stage (ReversesNext top a after before) stage in let some_ = st.0.some_left in let first = held.some_noted in
        let j : ℕ = held.counts.left - 1 in let e = at_some (on r.link o.log) (held.counts.left - 1) (omega (arith, f.2, f.3, some_)) in
        let b = (st.1 (held.counts.left - 1) e.0 (omega arith) e.1).0 in let c = o.chains.chained r.link (held.counts.left - 1) e.0 e.1 in
        let back : suc (held.counts.left - 2) ≡ held.counts.left - 1 = omega arith in
        entry_ticket r.link (held.counts.left - 2) before (omega (arith, f.2, f.3, some_)) (ap (nth (on r.link o.log)) back ∙ (sym c ∙ sym b))

    -- the ticket at which the walk stands, whose next word was read
    pub turn_ticket : (top a after before : ℕ) → r.stage ≡ ReversesNext top a after before → IsTicket p a
    turn_ticket top a after before stage = let f = held.fits in let walk = (in_stage (ReversesNext top a after before) stage).0 in let some_ = walk.some_left in
        let back : suc (held.counts.left - 1) ≡ held.counts.left = omega arith in
        entry_ticket r.link (held.counts.left - 1) a (omega (arith, f.2, f.3, some_)) (ap (nth (on r.link o.log)) back ∙ walk.at_is)

  -- the generation of a request that isn't taken
  pub free_generation : (r : ℕ) → r < p.requests → get_or s.words (request_index p r) 0 % 2 ≡ 0 → get_or s.words (request_index p r) 0 / 2 < 140737488355328
  free_generation r rl even = let u = o.chains.in_use r rl in let f = free_of o.chains r (get_or s.words (request_index p r) 0 / 2) u (omega arith) in let w = f.word in omega (arith, u.small)

  -- ## A home that no message needs

  home_law : (id : ℕ) (v : View) → get_elem? s.views id ≡ some v → (r : ℕ) (z : Option S) → (tokens s.views).claims r ≡ [] → ((k i : ℕ) (e : Entry) → o.places k ≤ i → get_elem? (on k o.log) i ≡ some e → e.request ≢ r) → r < p.requests
      → Lawful shows p record { words = s.words; homes = set s.homes r z; views = set s.views id v }
  home_law id v here r z unclaimed unused rl = let same : SameSlots v v = record { plan = refl; marks = refl; passes = λ k. omega arith; spare = refl; stores = refl } in
      let t' = tokens (set s.views id v) in
      let rights : (k : ℕ) → (tokens (set s.views id v)).rights k ≡ (tokens s.views).rights k = rights_stay o id v v here same refl refl refl in
      let claims : (q : ℕ) → (tokens (set s.views id v)).claims q ≡ (tokens s.views).claims q = λ q. gather_same (claims_of q) s.views id v v here refl in
      let else_ : (q : ℕ) → q ≢ r → message shows (set s.homes r z) q ≡ message shows s.homes q = λ q ne. ap (λ h. letter_of (shown shows h)) (set_else s.homes r q z ne) in
      other_base o id v v here same refl refl refl s.words (set s.homes r z) (beside_all p o.slot s.words) (λ k. ap (λ h. as_link (shown shows h)) (set_else s.homes r (p.requests + k) z (λ q. omega arith))) (λ l ll. refl)
      (chains_frame o.chains (λ k kl. refl) (λ q ql. refl) (λ q ql. refl) (λ k kl. rights k) (λ q ql. claims q) (λ q ql. gather_same (loose_at q) s.views id v v here refl))
      record {
        claimed = λ q c ql h f. else_ q (λ e. no_claim q c e (sym (claims q) ∙ h)) ∙ o.messages.claimed q c ql (sym (claims q) ∙ h) f;
        taken_writes = λ k r' kl h f. o.messages.taken_writes k r' kl (sym (rights k) ∙ h) f;
        in_hand = λ k r' e kl h f g. o.messages.in_hand k r' e kl (sym (rights k) ∙ h) f g;
        waiting = λ k i e late g. ⊎_elim (λ u. inl (else_ e.request (unused k i e late g) ∙ u)) (λ u. inr record { right = u.right; has = rights k ∙ u.has; stage = u.stage; taken = u.taken }) (o.messages.waiting k i e late g);
      }
    where
      no_claim : (q : ℕ) (c : Claim) → q ≡ r → (tokens s.views).claims q ≡ c ∷ [] → ⊥
      no_claim q c e h = one_not_none c (sym h ∙ (ap (tokens s.views).claims e ∙ unclaimed))

  -- as that of a request that isn't taken
  pub free_home_law : (id : ℕ) (v : View) → get_elem? s.views id ≡ some v → (r : ℕ) (z : Option S) → r < p.requests → get_or s.words (request_index p r) 0 % 2 ≡ 0
      → Lawful shows p record { words = s.words; homes = set s.homes r z; views = set s.views id v }
  free_home_law id v here r z rl even = let f = free_of o.chains r (get_or s.words (request_index p r) 0 / 2) (o.chains.in_use r rl) (omega arith) in
      home_law id v here r z f.unclaimed (λ k i e late g q. (let l = (o.chains.live k i e (freed_first k i e g late) g).0 in let w = ap (memory p o.slot s.words).request q in omega arith)) rl

  -- as that of the entry that has its place, whose request isn't given back yet
  pub spent_home_law : (id : ℕ) (v : View) (at : get_elem? s.views id ≡ some v) (r : Right) (one : v.rights ≡ r ∷ []) (now : ℕ) (b : Stage) (z : Option S) → Leads r.last r.stage now b
      → Lawful shows p record { words = s.words; homes = set s.homes (ticket_request now) z; views = set s.views id v }
  spent_home_law id v at r one now b z leads = let h = held id v at r one in let f = h.fits in let st = placed_at (memory p o.slot s.words) (tokens s.views) (on r.link o.log) h.counts (o.freed r.link) (o.places r.link) r.last now r.stage b leads h.stage_is in
      let e = at_some (on r.link o.log) (o.freed r.link) (omega (arith, f.1, f.2, f.3, st.1)) in let size = in_size o.chains r.link (o.freed r.link) e.0 e.1 in let narrow = o.fits.narrow in let y = size.1 in let small : e.0.request < 65535 = omega arith in
      let tick : ticket e.0 ≡ now = sym (ticket_at_is (on r.link o.log) (o.freed r.link) e.0 e.1) ∙ st.2 in
      let slot : ticket_request now ≡ e.0.request = ap ticket_request (sym tick) ∙ slot_is e.0 small in
      let live = o.chains.live r.link (o.freed r.link) e.0 (omega arith) e.1 in
      home_law id v at (ticket_request now) z (ap (tokens s.views).claims slot ∙ live.1)
      (λ k i d late g same. let q = live_same o.chains k i d r.link (o.freed r.link) e.0 (freed_first k i d g late) g (omega arith) e.1 (same ∙ slot) in let w = ap o.places q.0 in let n = q.1 in let m = st.0 in omega arith) (omega arith)

  -- ## Labels

  pick_in : (a : ℕ) (bs : List ℕ) (es : List Entry) (i : ℕ) (e : Entry) → get_elem? bs i ≡ some a → get_elem? es i ≡ some e → (j : ℕ) × (get_elem? (pick a bs es) j ≡ some e)
  pick_in a [] es i e b g = absurd (some-ne-none a (sym b))
  pick_in a (b ∷ bs) [] i e h g = absurd (some-ne-none e (sym g))
  pick_in a (b ∷ bs) (x ∷ es) zero e h g = let q = some-injective b a h in let t : eqb b a ≡ true = Rattle.std.proofs.Common.eq-eqb b a q in (0, ap (λ c. get_elem? (cond c (x ∷ pick a bs es) (pick a bs es)) 0) t ∙ g)
  pick_in a (b ∷ bs) (x ∷ es) (suc i) e h g = let r = pick_in a bs es i e h g in behind (eqb b a) x (pick a bs es) e r.0 r.1
    where
      behind : (c : Bool) (x : Entry) (l : List Entry) (e : Entry) (j : ℕ) → get_elem? l j ≡ some e → (i : ℕ) × (get_elem? (cond c (x ∷ l) l) i ≡ some e)
      behind true x l e j h = (suc j, h)
      behind false x l e j h = (j, h)

  behind_test : (x : Entry) (l m : List Entry) (e : Entry) → ((j : ℕ) → get_elem? m j ≡ some e → (k : ℕ) × (get_elem? l k ≡ some e)) → (b : Bool) (i : ℕ) → get_elem? (cond b (x ∷ m) m) i ≡ some e → (j : ℕ) × (get_elem? (x ∷ l) j ≡ some e)
  behind_test x l m e rest_ true zero h = (0, h)
  behind_test x l m e rest_ true (suc i) h = let r = rest_ i h in (suc r.0, r.1)
  behind_test x l m e rest_ false i h = let r = rest_ i h in (suc r.0, r.1)

  filter_out : (f : Entry → Bool) (l : List Entry) (i : ℕ) (e : Entry) → get_elem? (filter f l) i ≡ some e → (j : ℕ) × (get_elem? l j ≡ some e)
  filter_out f [] i e h = absurd (some-ne-none e (sym h))
  filter_out f (x ∷ l) i e h = behind_test x l (filter f l) e (λ j g. filter_out f l j e g) (f x) i h

  mapped : (f : ℕ → List Entry) (l : List ℕ) (i a : ℕ) → get_elem? l i ≡ some a → get_elem? (map f l) i ≡ some (f a)
  mapped f l i a e = Rattle.atomic_table.proofs.Lists.at_map f l i a e

  -- the label of an accepted message
  pub label_of : ((id : ℕ) (v : View) → get_elem? s.views id ≡ some v → Labelled p v) → (i : ℕ) (e : Entry) → get_elem? o.log i ≡ some e → e.heading.label.place < 8 * p.operations
  label_of labelled i e g = let a = o.authors in let low = at_length o.log i e g in
      let b = at_some a.by i (omega (arith, a.long)) in let n = a.named i b.0 b.1 in let u = at_some s.views n.0 n.2 in
      let q = pick_in b.0 a.by o.log i e b.1 g in
      let its : get_elem? u.0.lists n.1 ≡ some (pick b.0 a.by o.log) = ap (λ ls. get_elem? ls n.1) (a.lists_are n.0 u.0 u.1) ∙ mapped (λ c. pick c a.by o.log) (a.names n.0) n.1 b.0 n.3 in
      (labelled n.0 u.0 u.1).entries n.1 (pick b.0 a.by o.log) its q.0 e q.1

  pub entry_label : ((id : ℕ) (v : View) → get_elem? s.views id ≡ some v → Labelled p v) → (k i : ℕ) (e : Entry) → get_elem? (on k o.log) i ≡ some e → e.heading.label.place < 8 * p.operations
  entry_label labelled k i e g = let l = filter_out (λ (x : Entry). eqb x.link k) o.log i e g in label_of labelled l.0 e l.1

  -- the label of a message in hand
  pub hand_label : ((id : ℕ) (v : View) → get_elem? s.views id ≡ some v → Labelled p v) → (id : ℕ) (v : View) → get_elem? s.views id ≡ some v → (r : Right) (now : ℕ) → v.rights ≡ r ∷ [] → r.stage ≡ Writes now → r.taken ≡ true → r.heading.label.place < 8 * p.operations
  hand_label labelled id v at r now one stage taken = let has_ = ap (λ (l : List Right). get_elem? l 0) one in let kl = right_in o id 0 v r at has_ in let alone = right_alone o id 0 v r at has_ in
      let e = at_some (on r.link o.log) (o.places r.link) (writes_room o.chains r.link r now kl alone stage) in
      let same = (o.messages.in_hand r.link r e.0 kl alone taken e.1).0 in let low = entry_label labelled r.link (o.places r.link) e.0 e.1 in
      subst (λ (h : Rattle.sock_model.specs.declared.chain.Heading.Heading). h.label.place < 8 * p.operations) (sym same) low

-- the position of the next message fits a place word
pub next_few : {S : Type 0} {shows : S → Home} {p : Plan} {s : State S View} (rule : Rule shows p s) (id : ℕ) (v : View) → get_elem? s.views id ≡ some v → (r : Right) (now : ℕ) → v.rights ≡ r ∷ [] → r.stage ≡ Writes now → r.places < 4294967295
next_few rule id v at r now one stage = let o = rule.lawful in let has_ = ap (λ (l : List Right). get_elem? l 0) one in let kl = right_in o id 0 v r at has_ in let alone = right_alone o id 0 v r at has_ in
    let e = at_some (on r.link o.log) (o.places r.link) (writes_room o.chains r.link r now kl alone stage) in let f = place_fits rule r.link (o.places r.link) e.0 e.1 in let c = o.delivered.counted r.link r kl alone in omega arith
