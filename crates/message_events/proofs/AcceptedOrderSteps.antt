-- The messages that links accepted, and their order: what each step adds to them, and that it finds the last one in the head.
use Rattle.std.proofs.Common.{◌≡◌, ◌≢◌, ℕ, zero, suc, ◌+◌, ◌-◌, ◌*◌, ◌<◌, ◌⊎◌, nat_lt, eqb, eqb-true, eq-eqb, Bool, true, false, cond, List, [], ◌∷◌, ◌++◌, length, map, set, slice_index, sym, refl, ap, ◌∙◌, subst, inl, inr, ⊎_elim, arith}
use Rattle.std.proofs.lemmas.Bool.{ltb-true, ltb-false}
use Rattle.std.specs.List.{filter, flat_map}
use mathlib.Core.Logic.{dite}
use mathlib.Core.Option.{some, some-injective, some-ne-none}
use native.Mathlib.Decide.{ℕ_discrete}
use lib.ListN.{get_elem?}
use Rattle.atomic_table.proofs.Lists.{at_map}
use Rattle.sock_words.specs.declared.plain.Plan.{Plan}
use Rattle.sock_io.specs.declared.link.Put.{Put}
use Rattle.sock_io.specs.declared.link.Put.TheVariants.{Took, Again, Failed}
use Rattle.sock_model.specs.declared.chain.Entry.{Entry}
use Rattle.sock_model.specs.declared.chain.Claim.{Claim}
use Rattle.sock_model.specs.declared.chain.Heading.{Heading}
use Rattle.sock_model.specs.declared.chain.Right.{Right}
use Rattle.sock_model.specs.declared.view.View.{View}
use Rattle.sock_model.specs.SocketTableLayout.{head_index}
use Rattle.sock_model.specs.Entries.{on, nth}
use Rattle.sock_model.specs.Authors.{pick}
use Rattle.sock_model.specs.ChainLawReads.{head_at, memory, claims_of, tokens}
use Rattle.sock_model.specs.ChainRows.{entry_of, more, with_right, taken_right, put_right}
use Rattle.sock_model.specs.ChainStepConditions.{MayExchange}
use Rattle.sock_model.specs.LinksInSlots.{Lives}
use Rattle.sock_model.specs.LawfulSockets.{Lawful}
use Rattle.seat_programs.specs.Cores.{Core}
use Rattle.seat_programs.specs.StepsOfMessages.{took_message}
use Rattle.seat_programs.specs.StepViews.{by_right}
use Rattle.seat_programs.specs.StepsOfLinks.{link_away, link_home_again, took_bytes}
use Rattle.sock_runs.specs.program_steps.specs.SoundSeats.{state}
use Rattle.sock_runs.specs.program_steps.proofs.Leaves.{right_way}
use Rattle.chain_steps.proofs.TicketLists.{at_longer, at_length, at_some, filter_at, filter_in}
use Rattle.chain_steps.proofs.UntouchedByChainSteps.{one_token}
use Rattle.chain_steps.proofs.Claims.{claim_of}
use Rattle.chain_steps.proofs.Gather.{gather_all, gather_same}
use Rattle.chain_steps.proofs.FewRightsAndClaims.{few_claims}
use Rattle.chain_steps.proofs.Grow.{busy_found, idle_found}
use Rattle.sock_steps.proofs.LifeLinkSlotPlaces.{holder_lives}
use Rattle.message_events.specs.MessageModel.{Has, IsOrder, MayCome, Accept}
use Rattle.message_events.specs.MessageStanding.{accepted_by, messages}
use Rattle.sock_words.specs.PackedWords.{IDLE}

-- ## What stands in lists of lists

module _ {A : Type 0} where
  abbrev pub In : List A → A → Type 0
  In l a = (n : ℕ) × (get_elem? l n ≡ some a)

  pub in_left : (xs ys : List A) (a : A) → In xs a → In (xs ++ ys) a
  in_left xs ys a t = (t.0, at_longer xs ys t.0 a t.1)

  pub in_right : (xs ys : List A) (a : A) → In ys a → In (xs ++ ys) a
  in_right [] ys a t = t
  in_right (x ∷ xs) ys a t = let r = in_right xs ys a t in (suc r.0, r.1)

  in_either_at : (xs ys : List A) (a : A) (n : ℕ) → get_elem? (xs ++ ys) n ≡ some a → In xs a ⊎ In ys a
  in_either_at [] ys a n e = inr (n, e)
  in_either_at (x ∷ xs) ys a zero e = inl (zero, e)
  in_either_at (x ∷ xs) ys a (suc n) e = ⊎_elim (λ t. inl (suc t.0, t.1)) (λ t. inr t) (in_either_at xs ys a n e)

  pub in_either : (xs ys : List A) (a : A) → In (xs ++ ys) a → In xs a ⊎ In ys a
  in_either xs ys a t = in_either_at xs ys a t.0 t.1

  pub in_one : (a b : A) → In (a ∷ []) b → b ≡ a
  in_one a b (zero, e) = sym (some-injective a b e)
  in_one a b (suc n, e) = absurd (some-ne-none b (sym e))

  pub set_here : (l : List A) (i : ℕ) (v w : A) → get_elem? l i ≡ some v → get_elem? (set l i w) i ≡ some w
  set_here [] i v w e = absurd (some-ne-none v (sym e))
  set_here (x ∷ xs) zero v w e = refl
  set_here (x ∷ xs) (suc i) v w e = set_here xs i v w e

  pub set_else : (l : List A) (i j : ℕ) (w : A) → j ≢ i → get_elem? (set l i w) j ≡ get_elem? l j
  set_else [] i j w ne = refl
  set_else (x ∷ xs) zero zero w ne = absurd (ne refl)
  set_else (x ∷ xs) zero (suc j) w ne = refl
  set_else (x ∷ xs) (suc i) zero w ne = refl
  set_else (x ∷ xs) (suc i) (suc j) w ne = set_else xs i j w (λ e. ne (ap suc e))

module _ {V A : Type 0} (f : V → List A) where
  pub gathered_in : (vs : List V) (i : ℕ) (v : V) (a : A) → get_elem? vs i ≡ some v → In (f v) a → In (flat_map f vs) a
  gathered_in [] i v a e t = absurd (some-ne-none v (sym e))
  gathered_in (x ∷ xs) zero v a e t = in_left (f x) (flat_map f xs) a (subst (λ y. In (f y) a) (sym (some-injective x v e)) t)
  gathered_in (x ∷ xs) (suc i) v a e t = in_right (f x) (flat_map f xs) a (gathered_in xs i v a e t)

  abbrev Of : List V → A → Type 0
  Of vs a = (i : ℕ) × (v : V) × (get_elem? vs i ≡ some v) × In (f v) a

  pub gathered_of : (vs : List V) (a : A) → In (flat_map f vs) a → (i : ℕ) × (v : V) × (get_elem? vs i ≡ some v) × In (f v) a
  gathered_of [] a t = absurd (some-ne-none a (sym t.1))
  gathered_of (x ∷ xs) a t = ⊎_elim (λ h. (zero, x, refl, h)) (λ h. let r = gathered_of xs a h in (suc r.0, r.1, r.2, r.3)) (in_either (f x) (flat_map f xs) a t)

  -- one of the lists changes
  pub gathered_more : (vs : List V) (i : ℕ) (v w : V) (a : A) → get_elem? vs i ≡ some v → (In (f v) a → In (f w) a) → In (flat_map f vs) a → In (flat_map f (set vs i w)) a
  gathered_more vs i v w a at own t = let r = gathered_of vs a t in dite (ℕ_discrete r.0 i)
      (λ e. let is : v ≡ r.1 = some-injective v r.1 (sym at ∙ (ap (λ j. get_elem? vs j) (sym e) ∙ r.2)) in
      gathered_in (set vs i w) i w a (set_here vs i v w at) (own (subst (λ y. In (f y) a) (sym is) r.3)))
      (λ ne. gathered_in (set vs i w) r.0 r.1 a (set_else vs i r.0 w ne ∙ r.2) r.3)

  pub gathered_less : (vs : List V) (i : ℕ) (v w : V) (a : A) → get_elem? vs i ≡ some v → In (flat_map f (set vs i w)) a → In (flat_map f vs) a ⊎ In (f w) a
  gathered_less vs i v w a at t = let r = gathered_of (set vs i w) a t in dite (ℕ_discrete r.0 i)
      (λ e. let is : w ≡ r.1 = some-injective w r.1 (sym (set_here vs i v w at) ∙ (ap (λ j. get_elem? (set vs i w) j) (sym e) ∙ r.2)) in
      inr (subst (λ y. In (f y) a) (sym is) r.3))
      (λ ne. inl (gathered_in vs r.0 r.1 a (sym (set_else vs i r.0 w ne) ∙ r.2) r.3))

map_of : {A B : Type 0} (f : A → B) (l : List A) (i : ℕ) (b : B) → get_elem? (map f l) i ≡ some b → (a : A) × (f a ≡ b)
map_of f [] i b e = absurd (some-ne-none b (sym e))
map_of f (x ∷ xs) zero b e = (x, some-injective (f x) b e)
map_of f (x ∷ xs) (suc i) b e = map_of f xs i b e

-- ## What an author made

behind_pick : (b : Bool) (x : Entry) (xs : List Entry) (d : Entry) → In xs d → In (cond b (x ∷ xs) xs) d
behind_pick true x xs d t = (suc t.0, t.1)
behind_pick false x xs d t = t

pick_in : (a : ℕ) (by : List ℕ) (log : List Entry) (q : ℕ) (d : Entry) → get_elem? by q ≡ some a → get_elem? log q ≡ some d → In (pick a by log) d
pick_in a [] log q d e h = absurd (some-ne-none a (sym e))
pick_in a (b ∷ bs) [] q d e h = absurd (some-ne-none d (sym h))
pick_in a (b ∷ bs) (x ∷ xs) zero d e h = subst (λ y. In (cond y (x ∷ pick a bs xs) (pick a bs xs)) d) (sym (eq-eqb b a (some-injective b a e))) (zero, h)
pick_in a (b ∷ bs) (x ∷ xs) (suc q) d e h = behind_pick (eqb b a) x (pick a bs xs) d (pick_in a bs xs q d e h)

pick_kept : (b : Bool) (x : Entry) (xs ys : List Entry) (d : Entry) → (In ys d → In xs d) → In (cond b (x ∷ ys) ys) d → In (x ∷ xs) d
pick_kept true x xs ys d h (zero, e) = (zero, e)
pick_kept true x xs ys d h (suc n, e) = let r = h (n, e) in (suc r.0, r.1)
pick_kept false x xs ys d h t = let r = h t in (suc r.0, r.1)

pick_of : (a : ℕ) (by : List ℕ) (log : List Entry) (d : Entry) → In (pick a by log) d → In log d
pick_of a [] log d t = absurd (some-ne-none d (sym t.1))
pick_of a (b ∷ bs) [] d t = absurd (some-ne-none d (sym t.1))
pick_of a (b ∷ bs) (x ∷ xs) d t = pick_kept (eqb b a) x xs (pick a bs xs) d (pick_of a bs xs d) t

module _ (p : Plan) (c : Core) (views : List View) (o : Lawful (λ home. home) p (state c views)) (i : ℕ) (v : View) (at : get_elem? views i ≡ some v) where
  -- ## The order of a link

  -- what the views have is what the log has
  pub log_has : (d : Entry) → Has (flat_map accepted_by views) d → Has o.log d
  log_has d t =
      let u = gathered_of accepted_by views d t in
      let l = gathered_of (λ (es : List Entry). es) u.1.lists d u.3 in
      let a = map_of (λ a. pick a o.authors.by o.log) (o.authors.names u.0) l.0 l.1 (ap (λ (y : List (List Entry)). get_elem? y l.0) (sym (o.authors.lists_are u.0 u.1 u.2)) ∙ l.2) in
      pick_of a.0 o.authors.by o.log d (subst (λ y. In y d) (sym a.1) l.3)

  pub has_logged : (q : ℕ) (d : Entry) → get_elem? o.log q ≡ some d → Has (flat_map accepted_by views) d
  has_logged q d e =
      let long : length o.authors.by ≡ length o.log = o.authors.long in let inside : q < length o.log = at_length o.log q d e in
      let a = at_some o.authors.by q (omega arith) in let n = o.authors.named q a.0 a.1 in let u = at_some views n.0 n.2 in
      let own : get_elem? u.0.lists n.1 ≡ some (pick a.0 o.authors.by o.log) = ap (λ (y : List (List Entry)). get_elem? y n.1) (o.authors.lists_are n.0 u.0 u.1) ∙ at_map (λ a. pick a o.authors.by o.log) (o.authors.names n.0) n.1 a.0 n.3 in
      gathered_in accepted_by views n.0 u.0 d u.1
      (gathered_in (λ (es : List Entry). es) u.0.lists n.1 (pick a.0 o.authors.by o.log) d own (pick_in a.0 o.authors.by o.log q d a.1 e))

  pub order_is : (k : ℕ) → IsOrder (messages p c views) k (on k o.log)
  order_is k = record {
    each = λ n e h. let t = filter_at (λ (x : Entry). eqb x.link k) o.log n e h in (has_logged t.0 e t.1, eqb-true e.link k t.2, o.chains.chained k n e h);
    all = λ e has is. let q = log_has e has in filter_in (λ (x : Entry). eqb x.link k) o.log q.0 e q.1 (eq-eqb e.link k is);
  }

  -- ## What a step adds

  pub accepted_same : (w : View) → w.lists ≡ v.lists → (d : Entry) → (Has (flat_map accepted_by views) d → Has (flat_map accepted_by (set views i w)) d) × (Has (flat_map accepted_by (set views i w)) d → Has (flat_map accepted_by views) d)
  accepted_same w same d =
      let all : flat_map accepted_by (set views i w) ≡ flat_map accepted_by views = gather_same accepted_by views i v w at (ap (λ (y : List (List Entry)). flat_map (λ (es : List Entry). es) y) same) in
      (subst (λ y. Has y d) (sym all), subst (λ y. Has y d) all)

  abbrev joined : List (List Entry) → List Entry
  joined ls = flat_map (λ (es : List Entry). es) ls

  module _ (w : View) (e : Entry) (made : List Entry) (taken_in : List (List Entry)) (old : v.lists ≡ made ∷ taken_in) (grown : w.lists ≡ more v.lists e) where
    new_is : w.lists ≡ (made ++ e ∷ []) ∷ taken_in
    new_is = grown ∙ ap (λ l. more l e) old

    own_more : (d : Entry) → Has (accepted_by v) d → Has (accepted_by w) d
    own_more d t = subst (λ y. Has (joined y) d) (sym new_is)
        (⊎_elim (λ h. in_left (made ++ e ∷ []) (joined taken_in) d (in_left made (e ∷ []) d h)) (λ h. in_right (made ++ e ∷ []) (joined taken_in) d h)
        (in_either made (joined taken_in) d (subst (λ y. Has (joined y) d) old t)))

    own_new : Has (accepted_by w) e
    own_new = subst (λ y. Has (joined y) e) (sym new_is) (in_left (made ++ e ∷ []) (joined taken_in) e (in_right made (e ∷ []) e (0, refl)))

    own_less : (d : Entry) → Has (accepted_by w) d → Has (accepted_by v) d ⊎ (d ≡ e)
    own_less d t = ⊎_elim
        (λ h. ⊎_elim (λ m. inl (subst (λ y. Has (joined y) d) (sym old) (in_left made (joined taken_in) d m))) (λ m. inr (in_one e d m)) (in_either made (e ∷ []) d h))
        (λ h. inl (subst (λ y. Has (joined y) d) (sym old) (in_right made (joined taken_in) d h)))
        (in_either (made ++ e ∷ []) (joined taken_in) d (subst (λ y. Has (joined y) d) new_is t))

    grown_has : (d : Entry) → Has (flat_map accepted_by views) d ⊎ (d ≡ e) → Has (flat_map accepted_by (set views i w)) d
    grown_has d t = ⊎_elim (λ h. gathered_more accepted_by views i v w d at (own_more d) h)
        (λ h. gathered_in accepted_by (set views i w) i w d (set_here views i v w at) (subst (λ y. Has (accepted_by w) y) (sym h) own_new)) t

    grown_of : (d : Entry) → Has (flat_map accepted_by (set views i w)) d → Has (flat_map accepted_by views) d ⊎ (d ≡ e)
    grown_of d t = ⊎_elim (λ h. inl h) (λ h. ⊎_elim (λ m. inl (gathered_in accepted_by views i v d at m)) (λ m. inr m) (own_less d h)) (gathered_less accepted_by views i v w d at t)

  -- the entry that the seat's own list gained is the one more
  pub accepted_more : (w : View) (e : Entry) (made : List Entry) (taken_in : List (List Entry)) → v.lists ≡ made ∷ taken_in → w.lists ≡ more v.lists e → (d : Entry)
      → (Has (flat_map accepted_by views) d ⊎ (d ≡ e) → Has (flat_map accepted_by (set views i w)) d) × (Has (flat_map accepted_by (set views i w)) d → Has (flat_map accepted_by views) d ⊎ (d ≡ e))
  accepted_more w e made taken_in old grown d = (grown_has w e made taken_in old grown d, grown_of w e made taken_in old grown d)

  -- ## What an exchange of the head finds

  module _ (j own : ℕ) (x : MayExchange p v j own) where
    abbrev in_head : ℕ
    in_head = slice_index c.words (head_index j)

    abbrev its_link : ℕ
    its_link = x.claim.link

    life : Lives p (state c views) j x.life its_link
    life = holder_lives p (state c views) o.references i v j x.life its_link at x.holds

    link_in : its_link < p.links
    link_in = o.in_slots.small j x.life its_link life.life

    head_is : (memory p o.slot c.words).head its_link ≡ some in_head
    head_is = ap (head_at c.words) (o.in_slots.alone j x.life its_link life)

    claimed : (tokens views).claims x.claim.request ≡ x.claim ∷ []
    claimed = let own_claim : claims_of x.claim.request v ≡ x.claim ∷ [] = ap (λ (l : List Claim). filter (λ (y : Claim). eqb y.request x.claim.request) l) x.claims ∙ ap (λ b. cond b (x.claim ∷ []) []) (eq-eqb x.claim.request x.claim.request refl) in
        let few = few_claims o.chains x.claim.request x.request_in in let one : length (claims_of x.claim.request v) ≡ 1 = ap length own_claim in
        gather_all (claims_of x.claim.request) views i v at (omega arith) ∙ own_claim

    before_is : (b : Bool) → nat_lt in_head IDLE ≡ b → cond b in_head (in_head - IDLE) ≡ nth (on its_link o.log) (length (on its_link o.log))
    before_is true e = (busy_found o.chains its_link in_head link_in head_is (ltb-true in_head IDLE e)).last_is
    before_is false e = let z = (idle_found o.chains its_link in_head link_in o.fits.narrow head_is (ltb-false in_head IDLE e)).last_is in omega arith

    word_is : (messages p c views).request x.claim.request ≡ 2 * x.claim.generation + 1
    word_is = let r = claim_of o.chains x.claim.request x.claim (o.chains.in_use x.claim.request x.request_in) claimed in
        let same : r.claim ≡ x.claim = one_token ((tokens views).claims x.claim.request) r.claim x.claim r.claimed claimed in
        r.word ∙ ap (λ g. 2 * g + 1) (sym r.generation_is ∙ ap (λ (y : Claim). y.generation) same)

  pub accept_may : (j own : ℕ) → j < p.slots → (x : MayExchange p v j own)
      → MayCome (messages p c views) (Accept (entry_of x.claim (cond (nat_lt (slice_index c.words (head_index j)) IDLE) (slice_index c.words (head_index j)) (slice_index c.words (head_index j) - IDLE))))
  accept_may j own inside x = (on x.claim.link o.log, order_is x.claim.link, before_is j own x (nat_lt (slice_index c.words (head_index j)) IDLE) refl, word_is j own x)

-- ## Moves and puts that add nothing

by_right_lists : (v : View) (then_ : Right → View) → ((r : Right) → (then_ r).lists ≡ v.lists) → (by_right v.rights then_ v).lists ≡ v.lists
by_right_lists v then_ = right_way (λ (w : View). w.lists ≡ v.lists) v.rights then_ v refl

pub message_lists : (heading : Heading) (bytes : List ℕ) (v : View) → (took_message heading bytes v).lists ≡ v.lists
message_lists heading bytes v = by_right_lists v (λ r. with_right v (taken_right r heading bytes)) (λ r. refl)

pub away_lists : (v : View) → (link_away v).lists ≡ v.lists
away_lists v = by_right_lists v (λ r. with_right v (record r { at_home = false })) (λ r. refl)

pub home_lists : (v : View) → (link_home_again v).lists ≡ v.lists
home_lists v = by_right_lists v (λ r. with_right v (record r { at_home = true })) (λ r. refl)

pub bytes_lists : (answer : Put) (v : View) → (took_bytes answer v).lists ≡ v.lists
bytes_lists (Took n) v = by_right_lists v (λ r. with_right v (put_right r n)) (λ r. refl)
bytes_lists Again v = refl
bytes_lists Failed v = refl
