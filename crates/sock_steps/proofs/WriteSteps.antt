-- M2, P1 and C8: a message comes into hand, gets its place, and its request is free again.
use Rattle.std.proofs.Common.{◌≡◌, ◌≢◌, ℕ, suc, ◌+◌, ◌*◌, ◌<◌, eqb, cond, true, false, eq-eqb, ne_eqb, List, ◌++◌, length, get_or, set, sym, refl, ap, ◌∙◌, subst, inl, inr, ⊎_elim, arith, [], ◌∷◌}
use mathlib.Core.Option.{Option, some, none, some-injective, some-ne-none}
use lib.ListN.{get_elem?}
use Rattle.atomic_table.specs.Table.{State}
use Rattle.atomic_table.proofs.Lists.{set_else}
use Rattle.sock_model.specs.declared.chain.Heading.{Heading}
use Rattle.sock_model.specs.declared.chain.Entry.{Entry}
use Rattle.sock_model.specs.declared.chain.Right.{Right}
use Rattle.sock_model.specs.declared.chain.Stage.{Stage}
use Rattle.sock_model.specs.declared.chain.Stage.TheVariants.{Writes, Placed, Passes}
use Rattle.sock_model.specs.declared.home.Home.{Home}
use Rattle.sock_model.specs.declared.home.Home.TheVariants.{Empty, Link, Message}
use Rattle.sock_model.specs.sock_words.specs.declared.plain.Plan.{Plan}
use Rattle.sock_model.specs.declared.view.View.{View}
use Rattle.sock_model.specs.SocketTableLayout.{request_index, place_index}
use Rattle.sock_model.specs.Entries.{ticket, on, nth}
use Rattle.sock_model.specs.ChainTokens.{Tokens}
use Rattle.sock_model.specs.LinkWritingState.{InStage}
use Rattle.sock_model.specs.UnplacedMessages.{InHand}
use Rattle.sock_model.specs.ChainLawReads.{letter_of, took_of, as_link, shown, memory, message, link_home, tokens}
use Rattle.sock_model.specs.ChainRows.{with_right, placed_right, dropped_right, taken_right}
use Rattle.sock_model.specs.ChainStepConditions.{MayPlace, MayDrop, MayTake}
use Rattle.sock_model.specs.LinksInSlots.{Failed}
use Rattle.sock_model.specs.LawfulSockets.{Lawful}
use Rattle.chain_steps.proofs.TicketLists.{at_some, at_length, ticket_at_is}
use Rattle.chain_steps.proofs.UntouchedByChainSteps.{Changed, one_token, in_size, from_same}
use Rattle.chain_steps.proofs.ChainHeadSteps.{held_of, places_one, restages, slot_is}
use Rattle.chain_steps.proofs.Frees.{Leads, to_end, to_next, frees, retires, now_slot}
use Rattle.chain_steps.proofs.ChainLettersStay.{lets_go, takes_letter, writes_room}
use Rattle.chain_steps.proofs.Delivers.{places_whole, drops, delivers_same, moves_link}
use Rattle.sock_steps.proofs.Maps.{set_at}
use Rattle.sock_steps.proofs.ChainWordChanges.{beside_all, request_beside, request_head, request_changed, request_next, request_place, place_beside, place_head, place_changed, place_next, place_request}
use Rattle.sock_steps.proofs.ChainFrame.{slots_in}
use Rattle.sock_steps.proofs.RightSteps.{right_in, right_alone, rights_after, claims_after, loose_after, right_base, right_step}
use Rattle.sock_model.specs.sock_words.specs.PackedWords.{ticket_request, ticket_generation, place_word}

leads_no_writes : (last now any : ℕ) (a b : Stage) → Leads last a now b → a ≢ Writes any
leads_no_writes last now any a b (to_end x e) q = let z : Placed now ≡ Writes any = q in cc
leads_no_writes last now any a b (to_next x next) q = let z : Passes now next ≡ Writes any = q in cc

bump : (ℕ → ℕ) → ℕ → ℕ → ℕ
bump f k j = cond (eqb j k) (suc (f k)) (f j)

bump_changed : (n : ℕ) (f : ℕ → ℕ) (k : ℕ) → Changed n f (bump f k) k (suc (f k))
unfolding bump
bump_changed n f k = record { here = ap (λ b. cond b (suc (f k)) (f k)) (eq-eqb k k refl); else = λ j jl ne. ap (λ b. cond b (suc (f k)) (f j)) (ne_eqb j k ne) }

bump-else : (f : ℕ → ℕ) (k j : ℕ) → j ≢ k → bump f k j ≡ f j
unfolding bump
bump-else f k j ne = ap (λ b. cond b (suc (f k)) (f j)) (ne_eqb j k ne)

-- C8
pub freeing_law : {S : Type 0} (shows : S → Home) (p : Plan) (id i now : ℕ) (b : Stage) (v : View) (r : Right) (s : State S View) (o : Lawful shows p s) → get_elem? s.views id ≡ some v → get_elem? v.rights i ≡ some r → Leads r.last r.stage now b → ticket_generation now < 140737488355327
    → Lawful shows p record { words = set s.words (request_index p (ticket_request now)) (2 * (ticket_generation now + 1)); homes = s.homes; views = set s.views id (with_right v (record r { stage = b })) }
freeing_law shows p id i now b v r s o at has leads small =
    let kl = right_in o id i v r at has in let alone = right_alone o id i v r at has in
    let low : ticket_request now < p.requests = now_slot o.chains r.link r kl alone o.fits.narrow now b leads in
    let ws : List ℕ = set s.words (request_index p (ticket_request now)) (2 * (ticket_generation now + 1)) in
    right_step o id i v r at has (record r { stage = b }) refl (set s.words (request_index p (ticket_request now)) (2 * (ticket_generation now + 1))) (bump o.freed r.link) refl refl refl refl refl (λ any. leads_no_writes r.last now any r.stage b leads)
    (request_beside p o.slot s.words (2 * (ticket_generation now + 1)) o.references.sized (slots_in o) (ticket_request now) low) (request_place p o.slot s.words (2 * (ticket_generation now + 1)) o.references.sized (slots_in o) (ticket_request now) low)
    (frees o.chains r.link r kl alone o.fits.narrow now b leads (memory p o.slot (set s.words (request_index p (ticket_request now)) (2 * (ticket_generation now + 1)))) (tokens (set s.views id (with_right v (record r { stage = b })))) (bump o.freed r.link) (bump_changed p.links o.freed r.link)
    (record r { stage = b }) refl refl refl refl small
    (request_head p o.slot s.words (2 * (ticket_generation now + 1)) o.references.sized (slots_in o) (ticket_request now) low) (request_next p o.slot s.words (2 * (ticket_generation now + 1)) o.references.sized (slots_in o) (ticket_request now) low) (request_changed p o.slot s.words (2 * (ticket_generation now + 1)) o.references.sized (slots_in o) (ticket_request now) low)
    (rights_after o id i v r at has (record r { stage = b }) refl) (claims_after o id i v r at has (record r { stage = b }) refl) (loose_after o id i v r at has (record r { stage = b }) refl))

-- at the last generation the request isn't given back, and the right goes on: a change of the view alone, which a step makes beside its own
pub retiring_law : {S : Type 0} (shows : S → Home) (p : Plan) (id i now : ℕ) (b : Stage) (v : View) (r : Right) (s : State S View) (o : Lawful shows p s) → get_elem? s.views id ≡ some v → get_elem? v.rights i ≡ some r → Leads r.last r.stage now b → ticket_generation now ≡ 140737488355327
    → Lawful shows p record { words = s.words; homes = s.homes; views = set s.views id (with_right v (record r { stage = b })) }
retiring_law shows p id i now b v r s o at has leads small =
    let kl = right_in o id i v r at has in let alone = right_alone o id i v r at has in
    let low : ticket_request now < p.requests = now_slot o.chains r.link r kl alone o.fits.narrow now b leads in
    let ws : List ℕ = s.words in
    right_step o id i v r at has (record r { stage = b }) refl (s.words) (bump o.freed r.link) refl refl refl refl refl (λ any. leads_no_writes r.last now any r.stage b leads)
    (beside_all p o.slot s.words) (λ l ll. refl)
    (retires o.chains r.link r kl alone o.fits.narrow now b leads (memory p o.slot (s.words)) (tokens (set s.views id (with_right v (record r { stage = b })))) (bump o.freed r.link) (bump_changed p.links o.freed r.link)
    (record r { stage = b }) refl refl refl refl small
    (λ j jl. refl) (λ j jl. refl) (λ j jl. refl)
    (rights_after o id i v r at has (record r { stage = b }) refl) (claims_after o id i v r at has (record r { stage = b }) refl) (loose_after o id i v r at has (record r { stage = b }) refl))

-- a home that holds a letter
pub letter_home : {S : Type 0} (shows : S → Home) (h : Option (Option S)) (l : Heading) (bytes : List ℕ) → letter_of (shown shows h) ≡ some (l, bytes) → (y : S) × (h ≡ some (some y)) × (shows y ≡ Message l bytes)
letter_home shows none l bytes e = absurd (some-ne-none (l, bytes) (sym e))
letter_home shows (some none) l bytes e = absurd (some-ne-none (l, bytes) (sym e))
letter_home shows (some (some y)) l bytes e = (y, refl, message_is (shows y) l bytes e)
  where
    message_is : (x : Home) (l : Heading) (bytes : List ℕ) → letter_of (some x) ≡ some (l, bytes) → x ≡ Message l bytes
    message_is Empty l bytes e = absurd (some-ne-none (l, bytes) (sym e))
    message_is (Link k took next done) l bytes e = absurd (some-ne-none (l, bytes) (sym e))
    message_is (Message k cs) l bytes e = let q : (k, cs) ≡ (l, bytes) = some-injective (k, cs) (l, bytes) e in λ w. Message (q w).0 (q w).1

-- the request of the message that is the next to be taken is one of the table
pub writes_in : {S : Type 0} (shows : S → Home) (p : Plan) (id i now : ℕ) (v : View) (r : Right) (s : State S View) (o : Lawful shows p s) → get_elem? s.views id ≡ some v → get_elem? v.rights i ≡ some r → r.stage ≡ Writes now → ticket_request now < p.requests
writes_in shows p id i now v r s o at has stage =
    let kl = right_in o id i v r at has in let alone = right_alone o id i v r at has in
    let e = at_some (on r.link o.log) (o.places r.link) (writes_room o.chains r.link r now kl alone stage) in
    let size = in_size o.chains r.link (o.places r.link) e.0 e.1 in let narrow = o.fits.narrow in
    let h = (held_of o.chains r.link r kl alone).1 in
    let st : InStage (memory p o.slot s.words) (tokens s.views) (on r.link o.log) h.counts (o.freed r.link) (o.places r.link) (Writes now) = subst (InStage (memory p o.slot s.words) (tokens s.views) (on r.link o.log) h.counts (o.freed r.link) (o.places r.link)) stage h.stage_is in
    let tick : ticket e.0 ≡ now = sym (ticket_at_is (on r.link o.log) (o.places r.link) e.0 e.1) ∙ (ap (λ y. nth (on r.link o.log) (suc y)) st.1 ∙ st.3) in
    let low = size.1 in let is : ticket_request now ≡ e.0.request = ap ticket_request (sym tick) ∙ slot_is e.0 (omega arith) in omega arith

-- M2: what stands at home then is no message
pub taking_law : {S : Type 0} (shows : S → Home) (p : Plan) (id : ℕ) (v : View) (x : MayTake v) (s : State S View) (o : Lawful shows p s) → get_elem? s.views id ≡ some v
    → (y : S) × (l : Heading) × (bytes : List ℕ) × (get_elem? s.homes (ticket_request x.now) ≡ some (some y)) × (shows y ≡ Message l bytes)
    × ((z : Option S) → letter_of (shown shows (some z)) ≡ none → Lawful shows p record { words = s.words; homes = set s.homes (ticket_request x.now) z; views = set s.views id (with_right v (taken_right x.mine.right l bytes)) })
taking_law shows p id v x s o at =
    let kl = right_in o id x.mine.place v x.mine.right at x.mine.has in let has = right_alone o id x.mine.place v x.mine.right at x.mine.has in
    let request : ℕ = ticket_request x.now in let k : ℕ = x.mine.right.link in
    let room = writes_room o.chains x.mine.right.link x.mine.right x.now kl has x.stage in
    let e = at_some (on x.mine.right.link o.log) (o.places x.mine.right.link) room in
    let size = in_size o.chains x.mine.right.link (o.places x.mine.right.link) e.0 e.1 in let narrow = o.fits.narrow in
    let h = (held_of o.chains x.mine.right.link x.mine.right kl has).1 in
    let st : InStage (memory p o.slot s.words) (tokens s.views) (on x.mine.right.link o.log) h.counts (o.freed x.mine.right.link) (o.places x.mine.right.link) (Writes x.now) = subst (InStage (memory p o.slot s.words) (tokens s.views) (on x.mine.right.link o.log) h.counts (o.freed x.mine.right.link) (o.places x.mine.right.link)) x.stage h.stage_is in
    let tick : ticket e.0 ≡ x.now = sym (ticket_at_is (on x.mine.right.link o.log) (o.places x.mine.right.link) e.0 e.1) ∙ (ap (λ y. nth (on x.mine.right.link o.log) (suc y)) st.1 ∙ st.3) in
    let small : e.0.request < 65535 = (let z = size.1 in omega arith) in
    let rq : request ≡ e.0.request = ap ticket_request (sym tick) ∙ slot_is e.0 small in
    let low : request < p.requests = (let z = size.1 in omega arith) in
    let letter : message shows s.homes e.0.request ≡ some (e.0.heading, e.0.bytes) = ⊎_elim (λ z. z)
    (λ (u : InHand (tokens s.views) x.mine.right.link e.0). let q : x.mine.right ≡ u.right = one_token ((tokens s.views).rights x.mine.right.link) x.mine.right u.right has u.has in
    let z : false ≡ true = sym x.idle ∙ (ap (λ (y : Right). y.taken) q ∙ u.taken) in cc)
    (o.messages.waiting x.mine.right.link (o.places x.mine.right.link) e.0 (omega arith) e.1) in
    let home = letter_home shows (get_elem? s.homes request) e.0.heading e.0.bytes (ap (λ y. letter_of (shown shows (get_elem? s.homes y))) rq ∙ letter) in
    let long : request < length s.homes = at_length s.homes request (some home.0) home.1 in
    let r' : Right = taken_right x.mine.right e.0.heading e.0.bytes in
    let t' : Tokens = tokens (set s.views id (with_right v (taken_right x.mine.right e.0.heading e.0.bytes))) in
    let rt = rights_after o id x.mine.place v x.mine.right at x.mine.has (taken_right x.mine.right e.0.heading e.0.bytes) refl in
    let cl = claims_after o id x.mine.place v x.mine.right at x.mine.has (taken_right x.mine.right e.0.heading e.0.bytes) refl in
    let lo = loose_after o id x.mine.place v x.mine.right at x.mine.has (taken_right x.mine.right e.0.heading e.0.bytes) refl in (
      home.0,
      e.0.heading,
      e.0.bytes,
      home.1,
      home.2,
      λ z empty. right_base o id x.mine.place v x.mine.right at x.mine.has (taken_right x.mine.right e.0.heading e.0.bytes) refl s.words (set s.homes request z) o.freed o.places o.kept (λ k ne. (refl, refl)) (beside_all p o.slot s.words)
          (λ j. ap (λ h. as_link (shown shows h)) (set_else s.homes request (p.requests + j) z (λ q. omega arith)))
          (restages o.chains x.mine.right.link x.mine.right kl has {places' = o.places} (taken_right x.mine.right e.0.heading e.0.bytes) refl refl refl (λ g. g.stage_is) (λ j jl. refl) (λ j jl. refl) (λ j jl. refl) rt cl lo (λ j jl ne. refl))
          (takes_letter o.chains o.messages t' x.mine.right.link x.mine.right (taken_right x.mine.right e.0.heading e.0.bytes) x.now kl has x.stage rt cl (message shows (set s.homes request z)) e.0 e.1 tick x.stage refl refl refl
          record { here = ap (λ i. letter_of (shown shows (get_elem? (set s.homes request z) i))) (sym rq) ∙ (ap (λ h. letter_of (shown shows h)) (set_at s.homes request z long) ∙ empty); else = λ j jl ne. ap (λ h. letter_of (shown shows h)) (set_else s.homes request j z (λ q. ne (q ∙ rq))) })
          (moves_link (delivers_same o.delivered t' (λ q. get_or s.words (place_index p q) 0) (λ q ql. refl)
          (λ j y jl g. from_same (tokens s.views) t' p.links x.mine.right.link x.mine.right (taken_right x.mine.right e.0.heading e.0.bytes) has rt refl refl refl j y jl g))
          (link_home shows p (set s.homes request z)) (λ j took next jl g. inl (sym (ap (λ h. took_of (as_link (shown shows h))) (set_else s.homes request (p.requests + j) z (λ q. omega arith))) ∙ g)))
          (o.homes.busy x.mine.right.link x.mine.right kl has),
    )

-- the entry that gets a place next, and what the right says of it
pub record Leaves {S : Type 0} {shows : S → Home} {p : Plan} {s : State S View} (o : Lawful shows p s) (r : Right) : Type 0 where
  pub inside : r.link < p.links
  pub alone : (tokens s.views).rights r.link ≡ r ∷ []
  pub entry : Entry
  pub here : get_elem? (on r.link o.log) (o.places r.link) ≡ some entry
  pub in_hand : (r.heading ≡ entry.heading) × (r.bytes ≡ entry.bytes)
  pub counted : r.places ≡ o.places r.link
  pub label_in : entry.heading.label.place < 8 * p.operations
  pub at_label : place_index p entry.heading.label.place ≡ place_index p r.heading.label.place

leaves : {S : Type 0} {shows : S → Home} {p : Plan} {s : State S View} (o : Lawful shows p s) (id i now : ℕ) (v : View) (r : Right) → get_elem? s.views id ≡ some v → get_elem? v.rights i ≡ some r
    → r.stage ≡ Writes now → r.taken ≡ true → r.heading.label.place < 8 * p.operations → Leaves o r
leaves {p = p} o id i now v r at has stage taken label_in = let kl = right_in o id i v r at has in let alone = right_alone o id i v r at has in
    let e = at_some (on r.link o.log) (o.places r.link) (writes_room o.chains r.link r now kl alone stage) in
    let hand = o.messages.in_hand r.link r e.0 kl alone taken e.1 in let label : r.heading.label.place ≡ e.0.heading.label.place = ap (λ (y : Heading). y.label.place) hand.0 in record {
      inside = kl;
      alone = alone;
      entry = e.0;
      here = e.1;
      in_hand = hand;
      counted = o.delivered.counted r.link r kl alone;
      label_in = subst (λ y. y < 8 * p.operations) label label_in;
      at_label = ap (place_index p) (sym label);
    }

-- P1, of a message that was taken whole
pub placing_law : {S : Type 0} (shows : S → Home) (p : Plan) (id : ℕ) (v : View) (x : MayPlace p v) (s : State S View) (o : Lawful shows p s) → get_elem? s.views id ≡ some v
    → Lawful shows p record { words = set s.words (place_index p x.mine.right.heading.label.place) (place_word false x.mine.right.link x.mine.right.places); homes = s.homes; views = set s.views id (with_right v (placed_right x.mine.right x.now)) }
placing_law shows p id v x s o at =
    let r : Right = x.mine.right in
    let r' : Right = placed_right x.mine.right x.now in
    let value : ℕ = place_word false x.mine.right.link x.mine.right.places in
    let e = leaves o id x.mine.place x.now v x.mine.right at x.mine.has x.stage x.taken x.label_in in let kl = e.inside in let has = e.alone in let hand = e.in_hand in let lab = e.label_in in
    let val : value ≡ place_word false x.mine.right.link (o.places x.mine.right.link) = ap (place_word false x.mine.right.link) e.counted in
    let t' : Tokens = tokens (set s.views id (with_right v (placed_right x.mine.right x.now))) in
    let rt = rights_after o id x.mine.place v x.mine.right at x.mine.has (placed_right x.mine.right x.now) refl in
    let cl = claims_after o id x.mine.place v x.mine.right at x.mine.has (placed_right x.mine.right x.now) refl in
    let lo = loose_after o id x.mine.place v x.mine.right at x.mine.has (placed_right x.mine.right x.now) refl in
    let away : link_home shows p s.homes x.mine.right.link ≡ none = o.homes.busy x.mine.right.link x.mine.right kl has ∙ ap (λ b. cond b (some (x.mine.right.sent, x.mine.right.places)) none) x.away in
    subst (λ i. Lawful shows p record { words = set s.words i (place_word false x.mine.right.link x.mine.right.places); homes = s.homes; views = set s.views id (with_right v (placed_right x.mine.right x.now)) }) e.at_label
    (right_base o id x.mine.place v x.mine.right at x.mine.has (placed_right x.mine.right x.now) refl (set s.words (place_index p e.entry.heading.label.place) value) s.homes o.freed (bump o.places x.mine.right.link) (bump o.kept x.mine.right.link) (λ k ne. (bump-else o.places x.mine.right.link k ne, bump-else o.kept x.mine.right.link k ne))
    (place_beside p o.slot s.words value o.references.sized (slots_in o) e.entry.heading.label.place lab) (λ k. refl)
    (places_one o.chains x.mine.right.link x.mine.right kl has {places' = bump o.places x.mine.right.link} (placed_right x.mine.right x.now) x.now x.stage refl refl refl refl (bump_changed p.links o.places x.mine.right.link)
    (place_head p o.slot s.words value o.references.sized (slots_in o) e.entry.heading.label.place lab) (place_next p o.slot s.words value o.references.sized (slots_in o) e.entry.heading.label.place lab) (place_request p o.slot s.words value o.references.sized (slots_in o) e.entry.heading.label.place lab) rt cl lo)
    (lets_go o.chains o.messages t' x.mine.right.link x.mine.right (placed_right x.mine.right x.now) x.now kl has x.stage rt cl (bump o.places x.mine.right.link) refl (bump_changed p.links o.places x.mine.right.link))
    (places_whole o.delivered t' (λ q. get_or (set s.words (place_index p e.entry.heading.label.place) value) (place_index p q) 0) (bump o.places x.mine.right.link) (bump o.kept x.mine.right.link) (Failed p s) x.mine.right.link x.mine.right (placed_right x.mine.right x.now) e.entry kl has rt e.here lab
    (bump_changed p.links o.places x.mine.right.link) refl x.is_clean refl (ap (λ l. x.mine.right.sent ++ l) hand.1) (bump_changed p.links o.kept x.mine.right.link)
    (subst (λ y. Changed (8 * p.operations) (λ q. get_or s.words (place_index p q) 0) (λ q. get_or (set s.words (place_index p e.entry.heading.label.place) value) (place_index p q) 0) e.entry.heading.label.place y) val (place_changed p o.slot s.words value o.references.sized (slots_in o) e.entry.heading.label.place lab))
    (λ j jl f. f) away)
    (away ∙ sym (ap (λ b. cond b (some (x.mine.right.sent ++ x.mine.right.bytes, suc x.mine.right.places)) none) x.away)))

-- P1 with the dropped bit, where the life was failed
pub dropping_law : {S : Type 0} (shows : S → Home) (p : Plan) (id : ℕ) (v : View) (x : MayDrop p v) (s : State S View) (o : Lawful shows p s) → get_elem? s.views id ≡ some v → Failed p s x.mine.right.link
    → Lawful shows p record { words = set s.words (place_index p x.mine.right.heading.label.place) (place_word true x.mine.right.link x.mine.right.places); homes = s.homes; views = set s.views id (with_right v (dropped_right x.mine.right x.now x.sent)) }
dropping_law shows p id v x s o at dead =
    let r : Right = x.mine.right in
    let r' : Right = dropped_right x.mine.right x.now x.sent in
    let value : ℕ = place_word true x.mine.right.link x.mine.right.places in
    let e = leaves o id x.mine.place x.now v x.mine.right at x.mine.has x.stage x.taken x.label_in in let kl = e.inside in let has = e.alone in let hand = e.in_hand in let lab = e.label_in in
    let val : value ≡ place_word true x.mine.right.link (o.places x.mine.right.link) = ap (place_word true x.mine.right.link) e.counted in
    let t' : Tokens = tokens (set s.views id (with_right v (dropped_right x.mine.right x.now x.sent))) in
    let rt = rights_after o id x.mine.place v x.mine.right at x.mine.has (dropped_right x.mine.right x.now x.sent) refl in
    let cl = claims_after o id x.mine.place v x.mine.right at x.mine.has (dropped_right x.mine.right x.now x.sent) refl in
    let lo = loose_after o id x.mine.place v x.mine.right at x.mine.has (dropped_right x.mine.right x.now x.sent) refl in
    let away : link_home shows p s.homes x.mine.right.link ≡ none = o.homes.busy x.mine.right.link x.mine.right kl has ∙ ap (λ b. cond b (some (x.mine.right.sent, x.mine.right.places)) none) x.away in
    subst (λ i. Lawful shows p record { words = set s.words i (place_word true x.mine.right.link x.mine.right.places); homes = s.homes; views = set s.views id (with_right v (dropped_right x.mine.right x.now x.sent)) }) e.at_label
    (right_base o id x.mine.place v x.mine.right at x.mine.has (dropped_right x.mine.right x.now x.sent) refl (set s.words (place_index p e.entry.heading.label.place) value) s.homes o.freed (bump o.places x.mine.right.link) o.kept (λ k ne. (bump-else o.places x.mine.right.link k ne, refl))
    (place_beside p o.slot s.words value o.references.sized (slots_in o) e.entry.heading.label.place lab) (λ k. refl)
    (places_one o.chains x.mine.right.link x.mine.right kl has {places' = bump o.places x.mine.right.link} (dropped_right x.mine.right x.now x.sent) x.now x.stage refl refl refl refl (bump_changed p.links o.places x.mine.right.link)
    (place_head p o.slot s.words value o.references.sized (slots_in o) e.entry.heading.label.place lab) (place_next p o.slot s.words value o.references.sized (slots_in o) e.entry.heading.label.place lab) (place_request p o.slot s.words value o.references.sized (slots_in o) e.entry.heading.label.place lab) rt cl lo)
    (lets_go o.chains o.messages t' x.mine.right.link x.mine.right (dropped_right x.mine.right x.now x.sent) x.now kl has x.stage rt cl (bump o.places x.mine.right.link) refl (bump_changed p.links o.places x.mine.right.link))
    (drops o.delivered t' (λ q. get_or (set s.words (place_index p e.entry.heading.label.place) value) (place_index p q) 0) (bump o.places x.mine.right.link) o.kept (Failed p s) x.mine.right.link x.mine.right (dropped_right x.mine.right x.now x.sent) e.entry kl has rt e.here lab
    (bump_changed p.links o.places x.mine.right.link) refl refl (⊎_elim (λ y. inl y) (λ y. inr (y.0, y.1, y.2, y.3, sym hand.1 ∙ y.4, y.5)) x.part) (λ j jl. refl)
    (subst (λ y. Changed (8 * p.operations) (λ q. get_or s.words (place_index p q) 0) (λ q. get_or (set s.words (place_index p e.entry.heading.label.place) value) (place_index p q) 0) e.entry.heading.label.place y) val (place_changed p o.slot s.words value o.references.sized (slots_in o) e.entry.heading.label.place lab))
    (λ j jl f. f) dead away)
    (away ∙ sym (ap (λ b. cond b (some (x.sent, suc x.mine.right.places)) none) x.away)))
