-- Seats that are split and joined, a new table, and a table that is closed.
use Rattle.std.proofs.Common.{◌≡◌, ℕ, zero, suc, ◌+◌, ◌-◌, ◌*◌, ◌<◌, ◌≤◌, ◌⊎◌, false, eqb, List, [], ◌∷◌, ◌++◌, map, get_or, set, refl, sym, ap, ◌∙◌, subst, inl, inr, ⊎_elim, arith}
use Rattle.std.specs.List.{filter, flat_map}
use mathlib.Core.List.{map-append}
use mathlib.Core.Logic.{dite}
use mathlib.Core.Option.{Option, some, none, some-injective, some-ne-none}
use native.Mathlib.Decide.{dec_le}
use lib.ListN.{get_elem?}
use lib.Seq.{map-set}
use Rattle.atomic_table.specs.Table.{State}
use Rattle.atomic_table.proofs.Lists.{at_set, at_map, at_snoc, set_again}
use Rattle.sock_model.specs.declared.marks.Mark.{Mark}
use Rattle.sock_model.specs.declared.chain.Entry.{Entry}
use Rattle.sock_model.specs.declared.chain.Right.{Right}
use Rattle.sock_model.specs.declared.chain.Claim.{Claim}
use Rattle.sock_model.specs.declared.chain.Loose.{Loose}
use Rattle.sock_model.specs.declared.home.Home.{Home}
use Rattle.sock_model.specs.declared.home.Home.TheVariants.{Link}
use Rattle.sock_model.specs.sock_words.specs.declared.plain.Plan.{Plan}
use Rattle.sock_model.specs.declared.view.View.{View}
use Rattle.sock_model.specs.declared.view.Hand.{Hand}
use Rattle.sock_model.specs.MarkWeights.{tally, only, is_ref, is_reset, is_linked, is_freer, is_failer, is_hold, is_met, is_recycled}
use Rattle.sock_model.specs.Marks.{about}
use Rattle.sock_model.specs.SocketTableLayout.{request_index, place_index}
use Rattle.sock_model.specs.References.{References}
use Rattle.sock_model.specs.ViewsOfSplitSeats.{newcomer, spent, joined, IsBare, Unused, below, first_view}
use Rattle.sock_model.specs.SlotRows.{marks_of}
use Rattle.sock_model.specs.Entries.{on}
use Rattle.sock_model.specs.Authors.{Authored}
use Rattle.sock_model.specs.Deliveries.{HasTaken, no_place}
use Rattle.sock_model.specs.Fifo.{IsFifo}
use Rattle.sock_model.specs.ChainLawReads.{took_of, memory, message, link_at, link_home, rights_on, claims_of, loose_at, tokens, waits_link, waits_of, carries, hands_of}
use Rattle.sock_model.specs.LinksInSlots.{HoldsRights, Given, Failed}
use Rattle.sock_model.specs.LinkHomes.{Unborn, Recycles}
use Rattle.sock_model.specs.LawfulSockets.{PlanFits, Lawful}
use Rattle.slot_steps.proofs.SlotWeightSums.{total-append, total-set}
use Rattle.slot_steps.proofs.SplitSeatsKeepSlot.{about-append, opening_keeps, split_keeps, join_keeps, below-once}
use Rattle.chain_steps.proofs.TicketLists.{Distinct}
use Rattle.chain_steps.proofs.UntouchedByChainSteps.{chains_frame, no_token}
use Rattle.chain_steps.proofs.Gather.{gather_same}
use Rattle.chain_steps.proofs.Authored.{takes_in, makes}
use Rattle.chain_steps.proofs.ChainLettersStay.{messages_frame}
use Rattle.chain_steps.proofs.Delivers.{delivers_same, delivers_failed, taken_whole}
use Rattle.chain_steps.proofs.Settles.{opens, settles}
use Rattle.sock_steps.proofs.SlotFrame.{again, homes_again}
use Rattle.sock_model.specs.sock_words.specs.Totals.{total}

-- seats that change hands, and no word and no home
module _ {S : Type 0} (shows : S → Home) (p : Plan) (s : State S View) (o : Lawful shows p s) (vs : List View)
    (same : (i : ℕ) (f : Mark → ℕ) → tally f (map (λ (u : View). about i u.marks) vs) ≡ tally f (map (λ (u : View). about i u.marks) s.views))
    (rt : (k : ℕ) → (tokens vs).rights k ≡ (tokens s.views).rights k) (cl : (r : ℕ) → (tokens vs).claims r ≡ (tokens s.views).claims r) (lo : (r : ℕ) → (tokens vs).loose r ≡ (tokens s.views).loose r)
    (waits : (k : ℕ) → total (waits_of k) vs ≤ total (waits_of k) s.views) (hands : (k : ℕ) → total (hands_of k) vs ≡ total (hands_of k) s.views) where
  abbrev t : State S View
  t = record { words = s.words; homes = s.homes; views = vs }

  pub given_there : (j h k : ℕ) → Given p s j h k → Given p t j h k
  given_there j h k g = let a = g.given in record { inside = g.inside; given = omega (arith, same j (is_linked h k)) }

  pub given_before : (j h k : ℕ) → Given p t j h k → Given p s j h k
  given_before j h k g = let a = g.given in record { inside = g.inside; given = omega (arith, same j (is_linked h k)) }

  pub reseat_frame : References p t → ((id : ℕ) (u : View) → get_elem? vs id ≡ some u → HoldsRights p u) → Authored (λ (y : View). y.lists) vs o.log
      → ((id n : ℕ) (u : View) (h : Hand) → get_elem? vs id ≡ some u → get_elem? u.hands n ≡ some h → HasTaken (on h.link o.log) (o.places h.link) (o.kept h.link) h.took h.next)
      → ((id k : ℕ) (u : View) → get_elem? vs id ≡ some u → 0 < hands_of k u → Unborn shows p t k ⊎ Recycles shows p t u k) → Lawful shows p t
  reseat_frame refs held authors carried hand_of = again shows p o t o.slot refs record {
    lives = λ k j e. let a = o.in_slots.lives k j e in let u = a.1.unended in (a.0, record { life = given_there j a.0 k a.1.life; unended = omega (arith, same j (is_freer a.0)) });
    alone = λ j h k g. let u = g.unended in o.in_slots.alone j h k record { life = given_before j h k g.life; unended = omega (arith, same j (is_freer h)) };
    small = λ j h k g. o.in_slots.small j h k (given_before j h k g);
    entered = λ q e g. let a = o.in_slots.entered q e g in (a.0, a.1, given_there a.0 a.1 e.link a.2);
    reset = λ j jl h. o.in_slots.reset j jl (omega (arith, same j is_reset));
  } held
      (chains_frame o.chains (λ k kl. refl) (λ r rl. refl) (λ r rl. refl) (λ k kl. rt k) (λ r rl. cl r) (λ r rl. lo r)) authors
      (messages_frame o.chains o.messages (tokens vs) (message shows s.homes) (λ r rl. refl) (λ r rl. cl r)
      (λ k e kl u. record { right = u.right; has = rt k ∙ u.has; stage = u.stage; taken = u.taken }) (λ k r kl h f. (r, sym (rt k) ∙ h, f, refl, refl, refl)))
      (delivers_failed (delivers_same o.delivered (tokens vs) (λ l. get_or s.words (place_index p l) 0) (λ l ll. refl) (λ k r kl h. (r, sym (rt k) ∙ h, refl, refl, refl)))
      (Failed p t) (λ k kl f. let b = f.failed in record { slot = f.slot; version = f.version; life = given_there f.slot f.version k f.life; failed = omega (arith, same f.slot (is_failer f.version)) }))
      carried (homes_again shows p o s.words vs rt waits hands hand_of)

  -- what a seat has in hand, where its marks are as many or more
  pub hand_carry : (v u : View) (k : ℕ) → ((a x : ℕ) → marks_of (is_recycled x) a v ≤ marks_of (is_recycled x) a u) → Unborn shows p s k ⊎ Recycles shows p s v k → Unborn shows p t k ⊎ Recycles shows p t u k
  hand_carry v u k more (inl a) = inl (λ j h g. a j h (given_before j h k g))
  hand_carry v u k more (inr a) = let b = a.recycling in inr record { slot = a.slot; version = a.version; recycling = omega (arith, more a.slot a.version); life = given_there a.slot (a.version - 2) k a.life }

-- a seat takes in a bare seat
pub joining_law : {S : Type 0} (shows : S → Home) (p : Plan) (s : State S View) (o : Lawful shows p s) (id other : ℕ) (v w : View) → get_elem? s.views id ≡ some v → ¬ (other ≡ id) → get_elem? (set s.views id (joined v w)) other ≡ some w
    → IsBare w → ((i : ℕ) → i < p.slots → total is_ref (about i w.marks) ≡ 0) → Lawful shows p record { words = s.words; homes = s.homes; views = set (set s.views id (joined v w)) other spent }
joining_law {S} shows p s o id other v w here ne there bare idle = let both : View = joined v w in let vs : List View = set (set s.views id (joined v w)) other spent in
    let f : ℕ → View → List Mark = λ i u. about i u.marks in
    let is : (i : ℕ) → map (f i) (set (set s.views id (joined v w)) other spent) ≡ set (set (map (f i) s.views) id (f i v ++ f i w)) other [] = λ i. map-set (f i) (set s.views id (joined v w)) other spent ∙ ap (λ (x : List (List Mark)). set x other []) (map-set (f i) s.views id (joined v w) ∙ ap (set (map (f i) s.views) id) (about-append i v.marks w.marks)) in
    let its : (i : ℕ) → get_elem? (set (map (f i) s.views) id (f i v ++ f i w)) other ≡ some (f i w) = λ i.
    subst (λ (x : List (List Mark)). get_elem? x other ≡ some (f i w)) (map-set (f i) s.views id (joined v w) ∙ ap (set (map (f i) s.views) id) (about-append i v.marks w.marks)) (at_map (f i) (set s.views id (joined v w)) other w there) in
    let same : (i : ℕ) (g : Mark → ℕ) → tally g (map (f i) (set (set s.views id (joined v w)) other spent)) ≡ tally g (map (f i) s.views) = λ i g. ap (tally g) (is i) ∙ (let a = total-set (total g) (map (f i) s.views) id (f i v) (f i v ++ f i w) (at_map (f i) s.views id v here) in let b = total-set (total g) (set (map (f i) s.views) id (f i v ++ f i w)) other (f i w) [] (its i) in
    let e = total-append g (f i v) (f i w) in let goal : tally g (set (set (map (f i) s.views) id (f i v ++ f i w)) other []) ≡ tally g (map (f i) s.views) = omega arith in goal) in
    let rt : (k : ℕ) → (tokens (set (set s.views id (joined v w)) other spent)).rights k ≡ (tokens s.views).rights k = λ k. gather_same (rights_on k) (set s.views id (joined v w)) other w spent there (sym (ap (λ (l : List Right). filter (λ (x : Right). eqb x.link k) l) bare.rights)) ∙ gather_same (rights_on k) s.views id v (joined v w) here refl in
    let cl : (r : ℕ) → (tokens (set (set s.views id (joined v w)) other spent)).claims r ≡ (tokens s.views).claims r = λ r. gather_same (claims_of r) (set s.views id (joined v w)) other w spent there (sym (ap (λ (l : List Claim). filter (λ (x : Claim). eqb x.request r) l) bare.claims)) ∙ gather_same (claims_of r) s.views id v (joined v w) here refl in
    let lo : (r : ℕ) → (tokens (set (set s.views id (joined v w)) other spent)).loose r ≡ (tokens s.views).loose r = λ r. gather_same (loose_at r) (set s.views id (joined v w)) other w spent there (sym (ap (λ (l : List Loose). filter (λ (x : Loose). eqb x.request r) l) bare.loose)) ∙ gather_same (loose_at r) s.views id v (joined v w) here refl in
    let waits : (k : ℕ) → total (waits_of k) (set (set s.views id (joined v w)) other spent) ≤ total (waits_of k) s.views = λ k. omega (arith, total-set (waits_of k) s.views id v (joined v w) here, total-set (waits_of k) (set s.views id (joined v w)) other w spent there, total-append (only k) v.passes w.passes, total-append (waits_link k) v.marks w.marks) in
    let hands : (k : ℕ) → total (hands_of k) (set (set s.views id (joined v w)) other spent) ≡ total (hands_of k) s.views = λ k. omega (arith, total-set (hands_of k) s.views id v (joined v w) here, total-set (hands_of k) (set s.views id (joined v w)) other w spent there, ap (total (carries k)) bare.hands) in
    let more : (g : Mark → ℕ) (j : ℕ) → marks_of g j v ≤ marks_of g j (joined v w) = λ g j. omega (arith, ap (total g) (about-append j v.marks w.marks), total-append g (about j v.marks) (about j w.marks)) in
    reseat_frame shows p s o (set (set s.views id (joined v w)) other spent) same rt cl lo waits hands (join_keeps p s o.references id v here other w ne there idle)
    (λ j u g. ⊎_elim (λ y. λ i r e. absurd (some-ne-none r (sym (subst (λ (z : View). get_elem? z.rights i ≡ some r) (sym y.1) e))))
    (λ y. ⊎_elim (λ q. subst (HoldsRights p) q.1 (λ i r e. let x = o.held id v here i r e in let h = x.3 in let a = h.held in let b = h.met in
    (x.0, x.1, x.2, record { inside = h.inside; held = omega (arith, more (is_hold x.2) x.1); met = omega (arith, more (is_met x.2 r.link) x.1) })))
    (λ q. o.held j u q.1) (at_set s.views id j (joined v w) u y.1)) (at_set (set s.views id (joined v w)) other j spent u g))
    (takes_in (λ (y : View). y.lists) s.views o.log id other v w (joined v w) spent o.authors here ne there refl refl)
    (λ j n u h g e. ⊎_elim (λ y. absurd (some-ne-none h (sym (subst (λ (z : View). get_elem? z.hands n ≡ some h) (sym y.1) e))))
    (λ y. ⊎_elim (λ q. o.carried id n v h here (subst (λ (z : View). get_elem? z.hands n ≡ some h) (sym q.1) e)) (λ q. o.carried j n u h q.1 e) (at_set s.views id j (joined v w) u y.1)) (at_set (set s.views id (joined v w)) other j spent u g))
    (λ j k u g h. ⊎_elim (λ y. absurd (omega (arith, ap (hands_of k) y.1)))
    (λ y. ⊎_elim (λ q. hand_carry shows p s o (set (set s.views id (joined v w)) other spent) same rt cl lo waits hands v u k (λ a x. let z = ap (λ (r : View). marks_of (is_recycled x) a r) q.1 in omega (arith, more (is_recycled x) a)) (o.homes.hand_of id k v here (omega (arith, ap (hands_of k) q.1))))
    (λ q. hand_carry shows p s o (set (set s.views id (joined v w)) other spent) same rt cl lo waits hands u u k (λ a x. omega arith) (o.homes.hand_of j k u q.1 h)) (at_set s.views id j (joined v w) u y.1)) (at_set (set s.views id (joined v w)) other j spent u g))

-- what a table leaves of a link that nobody writes
pub closing_law : {S : Type 0} (shows : S → Home) (p : Plan) (s : State S View) (o : Lawful shows p s) → Distinct (λ (e : Entry). e.heading.label.place) o.log → ((i : ℕ) (e : Entry) → get_elem? o.log i ≡ some e → e.heading.label.place < 8 * p.operations)
    → (k : ℕ) → k < p.links → (tokens s.views).rights k ≡ [] → (took : List ℕ) (next : ℕ) → link_home shows p s.homes k ≡ some (took, next) → IsFifo (λ l. get_or s.words (place_index p l) 0) k (on k o.log) (o.kept k) took
closing_law shows p s o apart small k kl gone took next home = settles o.chains o.delivered apart small k took next kl gone home

flat_last : {V A : Type 0} (f : V → List A) (vs : List V) (u : V) → f u ≡ [] → flat_map f (vs ++ u ∷ []) ≡ flat_map f vs
flat_last f [] u e = ap (λ l. l ++ []) e
flat_last f (v ∷ vs) u e = ap (λ l. f v ++ l) (flat_last f vs u e)

-- a seat gives away some of its passes to a new one
pub splitting_law : {S : Type 0} (shows : S → Home) (p : Plan) (s : State S View) (o : Lawful shows p s) (id : ℕ) (v : View) → get_elem? s.views id ≡ some v → (q : Plan) (mine its : List ℕ) (some_ more : ℕ)
    → ((k : ℕ) → total (only k) mine + total (only k) its ≤ total (only k) v.passes) → some_ + more + 1 ≤ v.spare → q ≡ v.plan
    → Lawful shows p record { words = s.words; homes = s.homes; views = set s.views id (record v { passes = mine; spare = some_ }) ++ newcomer q its more ∷ [] }
splitting_law {S} shows p s o id v here q mine its some_ more passes room plan = let left : View = record v { passes = mine; spare = some_ } in let right : View = newcomer q its more in
    let vs : List View = set s.views id (record v { passes = mine; spare = some_ }) ++ newcomer q its more ∷ [] in let first : List View = set s.views id (record v { passes = mine; spare = some_ }) in
    let f : ℕ → View → List Mark = λ i u. about i u.marks in
    let is : (i : ℕ) → map (f i) (set s.views id (record v { passes = mine; spare = some_ }) ++ newcomer q its more ∷ []) ≡ map (f i) s.views ++ [] ∷ [] = λ i. map-append (f i) first (right ∷ []) ∙ ap (λ (x : List (List Mark)). x ++ [] ∷ []) (map-set (f i) s.views id left ∙ set_again (map (f i) s.views) id (f i v) (at_map (f i) s.views id v here)) in
    let same : (i : ℕ) (g : Mark → ℕ) → tally g (map (f i) (set s.views id (record v { passes = mine; spare = some_ }) ++ newcomer q its more ∷ [])) ≡ tally g (map (f i) s.views) = λ i g. ap (tally g) (is i) ∙ (let a = total-append (total g) (map (f i) s.views) ([] ∷ []) in let goal : tally g (map (f i) s.views ++ [] ∷ []) ≡ tally g (map (f i) s.views) = omega arith in goal) in
    let rt : (k : ℕ) → (tokens (set s.views id (record v { passes = mine; spare = some_ }) ++ newcomer q its more ∷ [])).rights k ≡ (tokens s.views).rights k = λ k. flat_last (rights_on k) first right refl ∙ gather_same (rights_on k) s.views id v left here refl in
    let cl : (r : ℕ) → (tokens (set s.views id (record v { passes = mine; spare = some_ }) ++ newcomer q its more ∷ [])).claims r ≡ (tokens s.views).claims r = λ r. flat_last (claims_of r) first right refl ∙ gather_same (claims_of r) s.views id v left here refl in
    let lo : (r : ℕ) → (tokens (set s.views id (record v { passes = mine; spare = some_ }) ++ newcomer q its more ∷ [])).loose r ≡ (tokens s.views).loose r = λ r. flat_last (loose_at r) first right refl ∙ gather_same (loose_at r) s.views id v left here refl in
    let waits : (k : ℕ) → total (waits_of k) (set s.views id (record v { passes = mine; spare = some_ }) ++ newcomer q its more ∷ []) ≤ total (waits_of k) s.views = λ k. omega (arith, total-append (waits_of k) first (right ∷ []), total-set (waits_of k) s.views id v left here, passes k) in
    let hands : (k : ℕ) → total (hands_of k) (set s.views id (record v { passes = mine; spare = some_ }) ++ newcomer q its more ∷ []) ≡ total (hands_of k) s.views = λ k. omega (arith, total-append (hands_of k) first (right ∷ []), total-set (hands_of k) s.views id v left here) in
    let refs : References p record { words = s.words; homes = s.homes; views = set s.views id (record v { passes = mine; spare = some_ }) ++ newcomer q its more ∷ [] } = subst (λ (a : Plan). References p record { words = s.words; homes = s.homes; views = set s.views id (record v { passes = mine; spare = some_ }) ++ newcomer a its more ∷ [] }) (sym plan) (split_keeps p s o.references id v here mine its some_ more passes room) in
    reseat_frame shows p s o vs same rt cl lo waits hands refs
    (λ j u g. ⊎_elim (λ a. ⊎_elim (λ y. subst (HoldsRights p) y.1 (λ i r e. let x = o.held id v here i r e in let h = x.3 in (x.0, x.1, x.2, record { inside = h.inside; held = h.held; met = h.met }))) (λ y. o.held j u y.1) (at_set s.views id j left u a))
    (λ e. λ i r b. absurd (some-ne-none r (sym (subst (λ (z : View). get_elem? z.rights i ≡ some r) (sym e) b)))) (at_snoc first right u j g))
    (makes (λ (y : View). y.lists) s.views o.log id v left right o.authors here refl refl)
    (λ j n u h g e. ⊎_elim (λ a. ⊎_elim (λ y. o.carried id n v h here (subst (λ (z : View). get_elem? z.hands n ≡ some h) (sym y.1) e)) (λ y. o.carried j n u h y.1 e) (at_set s.views id j left u a))
    (λ b. absurd (some-ne-none h (sym (subst (λ (z : View). get_elem? z.hands n ≡ some h) (sym b) e)))) (at_snoc first right u j g))
    (λ j k u g h. ⊎_elim (λ a. ⊎_elim (λ y. hand_carry shows p s o vs same rt cl lo waits hands v u k (λ b x. let z = ap (λ (r : View). marks_of (is_recycled x) b r) y.1 in omega arith) (o.homes.hand_of id k v here (omega (arith, ap (hands_of k) y.1))))
    (λ y. hand_carry shows p s o vs same rt cl lo waits hands u u k (λ b x. omega arith) (o.homes.hand_of j k u y.1 h)) (at_set s.views id j left u a))
    (λ e. absurd (omega (arith, ap (hands_of k) e))) (at_snoc first right u j g))

one_view : (v u : View) (i : ℕ) → get_elem? (v ∷ []) i ≡ some u → v ≡ u
one_view v u zero e = some-injective v u e
one_view v u (suc i) e = absurd (some-ne-none u (sym e))

first_names : ℕ → List ℕ
first_names zero = 0 ∷ []
first_names (suc i) = []

first_named : (id i a : ℕ) → get_elem? (first_names id) i ≡ some a → (id ≡ zero) × (i ≡ zero) × (a ≡ 0)
unfolding first_names
first_named zero zero a e = (refl, refl, sym (some-injective 0 a e))
first_named zero (suc i) a e = absurd (some-ne-none a (sym e))
first_named (suc id) i a e = absurd (some-ne-none a (sym e))

first_lists : (p : Plan) (id : ℕ) (v : View) → get_elem? (first_view p ∷ []) id ≡ some v → v.lists ≡ map (λ a. []) (first_names id)
unfolding first_names
first_lists p zero v e = ap (λ (y : View). y.lists) (sym (some-injective (first_view p) v e))
first_lists p (suc id) v e = absurd (some-ne-none v (sym e))

-- a new table, whose first seat has all passes
pub opening_law : {S : Type 0} (shows : S → Home) (p : Plan) (ws : List ℕ) (hs : List (Option S)) → Unused p ws → PlanFits p → p.first ≤ 4294967292
    → ((r : ℕ) → r < p.requests → get_or ws (request_index p r) 0 ≡ 0) → ((l : ℕ) → l < 8 * p.operations → get_or ws (place_index p l) 0 ≡ 0)
    → ((k : ℕ) → k < p.links → link_at shows p hs k ≡ some (Link k [] 0 false)) → Lawful shows p record { words = ws; homes = hs; views = first_view p ∷ [] }
opening_law {S} shows p ws hs unused fits low requests labels links = let v : View = first_view p in let s : State S View = record { words = ws; homes = hs; views = first_view p ∷ [] } in
    let inside : (k : ℕ) → 0 < total (waits_of k) (first_view p ∷ []) → k < p.links = λ k h. dite (dec_le p.links k) (λ y. let z = (below-once k p.links).1 y in absurd (omega arith)) (λ n. omega arith) in record {
      slot = λ k. none;
      log = [];
      freed = λ k. 0;
      places = λ k. 0;
      kept = λ k. 0;
      fits = fits;
      references = opening_keeps p ws hs (below p.links) 511 unused (λ k. (below-once k p.links).0) (omega arith) fits.even low;
      in_slots = record {
        lives = λ k j e. absurd (some-ne-none j (sym e));
        alone = λ j h k g. let a = g.life.given in absurd (omega arith);
        small = λ j h k g. let a = g.given in absurd (omega arith);
        entered = λ q e g. absurd (some-ne-none e (sym g));
        reset = λ j jl h. absurd (omega arith);
      };
      held = λ id u g. subst (HoldsRights p) (one_view v u id g) (λ i r e. absurd (some-ne-none r (sym e)));
      chains = opens p.links p.requests (memory p (λ k. none) ws) (tokens (first_view p ∷ [])) (λ k. refl) requests (λ k. refl) (λ r. refl) (λ r. refl);
      authors = record {
        by = [];
        names = first_names;
        bound = 1;
        long = refl;
        lists_are = λ id u g. first_lists p id u g;
        apart = λ id i j k a g h. let x = first_named id i a g in let y = first_named j k a h in (x.0 ∙ sym y.0, x.1 ∙ sym y.1);
        bounded = λ id i a g. let x = first_named id i a g in let z = x.2 in omega arith;
        named = λ q a g. absurd (some-ne-none a (sym g));
      };
      messages = record { claimed = λ r c rl h f. absurd (no_token [] c h refl); taken_writes = λ k r kl h f. absurd (no_token [] r h refl); in_hand = λ k r e kl h f g. absurd (no_token [] r h refl); waiting = λ k i e late g. absurd (some-ne-none e (sym g)) };
      delivered = record {
        kept_fits = λ k kl. omega arith;
        shown = λ q ql. no_place (labels q ql) (λ k i e kl il g is. absurd (omega arith));
        failed = λ k kl h. absurd (omega arith);
        clean = λ k r kl h c. absurd (no_token [] r h refl);
        sent = λ k r kl h. absurd (no_token [] r h refl);
        sent_whole = λ k r kl h q. absurd (no_token [] r h refl);
        counted = λ k r kl h. absurd (no_token [] r h refl);
        at_home = λ k took next kl h. let q : ([], 0) ≡ (took, next) = some-injective ([], 0) (took, next) (sym (ap took_of (links k kl)) ∙ h) in
            (taken_whole [] 0 took (ap (λ (y : List ℕ × ℕ). y.0) (sym q)), (λ z. ap (λ (y : List ℕ × ℕ). y.0) (sym q)), ap (λ (y : List ℕ × ℕ). y.1) (sym q));
      };
      carried = λ id n u h g e. absurd (some-ne-none h (sym (subst (λ (z : View). get_elem? z.hands n ≡ some h) (sym (one_view v u id g)) e)));
      homes = record {
        own = λ k x kl h. record { took = []; next = 0; done = false; is = some-injective x (Link k [] 0 false) (sym h ∙ links k kl); «open» = λ j e. refl };
        idle = λ k j kl sk h. absurd (some-ne-none j (sym sk));
        busy = λ k r kl h. absurd (no_token [] r h refl);
        waiting = λ k h. (inside k h, links k (inside k h));
        outside = λ k kl e. inl (Link k [] 0 false, links k kl);
        hands = λ k h. absurd (omega arith);
        hand_of = λ id k u g h. let q = ap (hands_of k) (one_view v u id g) in absurd (omega arith);
      };
    }
