-- A8 with a right, and L1 and L2: whoever writes a link looks at its life, and takes the link out of its home and puts it back.
use Rattle.std.proofs.Common.{◌≡◌, ◌≢◌, ℕ, ◌+◌, ◌%◌, ◌<◌, cond, Bool, true, false, List, [], ◌∷◌, length, get_or, set, sym, refl, ap, ◌∙◌, subst, inl, inr, arith}
use mathlib.Core.Logic.{dite}
use mathlib.Core.Option.{Option, some, none, some-injective, some-ne-none}
use native.Mathlib.Decide.{ℕ_discrete}
use lib.ListN.{get_elem?}
use lib.Seq.{set-get_or}
use Rattle.atomic_table.specs.Table.{State, stepped, keeps}
use Rattle.atomic_table.proofs.Lists.{set_else}
use Rattle.sock_model.specs.declared.chain.Right.{Right}
use Rattle.sock_model.specs.declared.home.Home.{Home}
use Rattle.sock_model.specs.declared.home.Home.TheVariants.{Empty, Link, Message}
use Rattle.sock_model.specs.sock_words.specs.declared.plain.Plan.{Plan}
use Rattle.sock_model.specs.declared.view.View.{View}
use Rattle.sock_model.specs.SocketTableLayout.{place_index, ref_index}
use Rattle.sock_model.specs.SocketSlotLaw.{count}
use Rattle.sock_model.specs.References.{slot_facts}
use Rattle.sock_model.specs.SlotRows.{looked}
use Rattle.sock_model.specs.MarkWeights.{is_busy, is_hold, is_failer}
use Rattle.sock_model.specs.Entries.{on}
use Rattle.sock_model.specs.Chains.{Chains}
use Rattle.sock_model.specs.LinkWritingState.{InStage}
use Rattle.sock_model.specs.ChainTokens.{Tokens}
use Rattle.sock_model.specs.UnplacedMessages.{Messages}
use Rattle.sock_model.specs.ChainLawReads.{letter_of, took_of, as_link, shown, memory, message, link_at, link_home, tokens}
use Rattle.sock_model.specs.ChainRows.{with_right, put_right}
use Rattle.sock_model.specs.ChainStepConditions.{HasRight}
use Rattle.sock_model.specs.LinksInSlots.{HoldsLink, Failed}
use Rattle.sock_model.specs.LinkHomes.{IsOwn}
use Rattle.sock_model.specs.LawfulSockets.{Lawful}
use Rattle.slot_steps.proofs.RuleNumbers.{life_is, live_le}
use Rattle.chain_steps.proofs.TicketLists.{at_length}
use Rattle.chain_steps.proofs.UntouchedByChainSteps.{Changed, Same, one_token, from_same}
use Rattle.chain_steps.proofs.ChainHeadSteps.{restages}
use Rattle.chain_steps.proofs.ChainLettersStay.{messages_frame}
use Rattle.chain_steps.proofs.Delivers.{delivers_same, moves_link, looks}
use Rattle.sock_steps.proofs.Maps.{set_at, set_twice, took_some}
use Rattle.sock_steps.proofs.LifeLinkSlotPlaces.{own_count, holder_lives, given_once}
use Rattle.sock_steps.proofs.ChainWordChanges.{beside_all}
use Rattle.sock_steps.proofs.RightSteps.{right_in, right_alone, right_slot, rights_after, claims_after, loose_after, right_base, right_moves}
use Rattle.sock_steps.proofs.Steady.{looked_steady}
use Rattle.sock_steps.proofs.SlotSteps.{look_law}
use Rattle.sock_model.specs.sock_words.specs.PackedWords.{vref_version}

module _ {S : Type 0} (shows : S → Home) (p : Plan) (s : State S View) (o : Lawful shows p s) (id : ℕ) (v : View) (at : get_elem? s.views id ≡ some v) (x : HasRight v) where
  kl : x.right.link < p.links
  kl = right_in o id x.place v x.right at x.has

  alone : (tokens s.views).rights x.right.link ≡ x.right ∷ []
  alone = right_alone o id x.place v x.right at x.has

  module _ (r' : Right) (link' : r'.link ≡ x.right.link) (last' : r'.last ≡ x.right.last) (turned' : r'.turned ≡ x.right.turned) (noted' : r'.noted ≡ x.right.noted) (stage' : r'.stage ≡ x.right.stage) (taken' : r'.taken ≡ x.right.taken) (label' : r'.heading ≡ x.right.heading) (bytes' : r'.bytes ≡ x.right.bytes) where
    abbrev t' : Tokens
    t' = tokens (set s.views id (with_right v r'))

    rt : Changed p.links (tokens s.views).rights (tokens (set s.views id (with_right v r'))).rights x.right.link (r' ∷ [])
    rt = rights_after o id x.place v x.right at x.has r' link'

    chains_stay : Chains p.links p.requests (memory p o.slot s.words) (tokens (set s.views id (with_right v r'))) o.log o.freed o.places
    chains_stay = restages o.chains x.right.link x.right kl alone {places' = o.places} r' last' turned' noted' (λ g. subst (InStage (memory p o.slot s.words) (tokens s.views) (on x.right.link o.log) g.counts (o.freed x.right.link) (o.places x.right.link)) (sym stage') g.stage_is)
        (λ j jl. refl) (λ j jl. refl) (λ j jl. refl) rt (claims_after o id x.place v x.right at x.has r' link') (loose_after o id x.place v x.right at x.has r' link') (λ j jl ne. refl)

    messages_stay : (hs : List (Option S)) → Same p.requests (message shows s.homes) (message shows hs) → Messages p.links p.requests (message shows hs) (tokens (set s.views id (with_right v r'))) o.log o.places
    messages_stay hs ms = messages_frame o.chains o.messages (tokens (set s.views id (with_right v r'))) (message shows hs) ms (claims_after o id x.place v x.right at x.has r' link')
        (λ j e jl u. dite (ℕ_discrete j x.right.link)
        (λ same. let q : x.right ≡ u.right = one_token ((tokens s.views).rights x.right.link) x.right u.right alone (ap (tokens s.views).rights (sym same) ∙ u.has) in
        record { right = r'; has = ap (tokens (set s.views id (with_right v r'))).rights same ∙ rt.here; stage = stage' ∙ (ap (λ (y : Right). y.stage) q ∙ u.stage); taken = taken' ∙ (ap (λ (y : Right). y.taken) q ∙ u.taken) })
        (λ ne. record { right = u.right; has = rt.else j jl ne ∙ u.has; stage = u.stage; taken = u.taken }))
        (λ j y jl h f. dite (ℕ_discrete j x.right.link)
        (λ same. let q : r' ≡ y = one_token ((tokens (set s.views id (with_right v r'))).rights x.right.link) r' y rt.here (ap (tokens (set s.views id (with_right v r'))).rights (sym same) ∙ h) in
        (x.right, ap (tokens s.views).rights same ∙ alone, sym taken' ∙ (ap (λ (z : Right). z.taken) q ∙ f), ap (λ (z : Right). z.stage) (sym q) ∙ stage', ap (λ (z : Right). z.heading) (sym q) ∙ label', ap (λ (z : Right). z.bytes) (sym q) ∙ bytes'))
        (λ ne. (y, sym (rt.else j jl ne) ∙ h, f, refl, refl, refl)))

    -- L1 and L2, as far as they are one
    moved : (z : Option S) → r'.clean ≡ x.right.clean → r'.sent ≡ x.right.sent → r'.places ≡ x.right.places
        → ((y : Home) → as_link (shown shows (some z)) ≡ some y → IsOwn o.slot x.right.link y) → took_of (as_link (shown shows (some z))) ≡ cond r'.at_home (some (r'.sent, r'.places)) none
        → p.requests + x.right.link < length s.homes → Lawful shows p record { words = s.words; homes = set s.homes (p.requests + x.right.link) z; views = set s.views id (with_right v r') }
    moved z clean' sent' count' own home long = let h : ℕ = p.requests + x.right.link in
        let here : link_at shows p (set s.homes (p.requests + x.right.link) z) x.right.link ≡ as_link (shown shows (some z)) = ap (λ y. as_link (shown shows y)) (set_at s.homes (p.requests + x.right.link) z long) in
        let else_ : (k : ℕ) → k ≢ x.right.link → link_at shows p (set s.homes (p.requests + x.right.link) z) k ≡ link_at shows p s.homes k = λ k ne. ap (λ y. as_link (shown shows y)) (set_else s.homes (p.requests + x.right.link) (p.requests + k) z (λ q. ne (omega arith))) in
        right_moves o id x.place v x.right at x.has r' link' (set s.homes (p.requests + x.right.link) z) else_ (λ y e. own y (sym here ∙ e)) chains_stay
        (messages_stay (set s.homes (p.requests + x.right.link) z) (λ q ql. ap (λ y. letter_of (shown shows y)) (set_else s.homes (p.requests + x.right.link) q z (λ e. omega arith))))
        (moves_link (delivers_same o.delivered (tokens (set s.views id (with_right v r'))) (λ q. get_or s.words (place_index p q) 0) (λ q ql. refl)
        (λ j y jl g. from_same (tokens s.views) (tokens (set s.views id (with_right v r'))) p.links x.right.link x.right r' alone rt clean' sent' count' j y jl g))
        (link_home shows p (set s.homes (p.requests + x.right.link) z))
        (λ j took next jl g. dite (ℕ_discrete j x.right.link)
        (λ same. let q : cond {A = Option (List ℕ × ℕ)} r'.at_home (some (r'.sent, r'.places)) none ≡ some (took, next) = sym home ∙ (sym (ap took_of here) ∙ (ap (link_home shows p (set s.homes (p.requests + x.right.link) z)) (sym same) ∙ g)) in
        let w = at_home r'.at_home r'.sent r'.places took next q in inr (r', ap (tokens (set s.views id (with_right v r'))).rights same ∙ rt.here, w.0, w.1))
        (λ ne. inl (sym (ap took_of (else_ j ne)) ∙ g))))
        (ap took_of here ∙ home)
      where
        at_home : (b : Bool) (a : List ℕ) (n : ℕ) (took : List ℕ) (next : ℕ) → cond {A = Option (List ℕ × ℕ)} b (some (a, n)) none ≡ some (took, next) → (took ≡ a) × (next ≡ n)
        at_home true a n took next e = let q : (a, n) ≡ (took, next) = some-injective (a, n) (took, next) e in (ap (λ (y : List ℕ × ℕ). y.0) (sym q), ap (λ (y : List ℕ × ℕ). y.1) (sym q))
        at_home false a n took next e = absurd (some-ne-none (took, next) (sym e))

  -- L1: what stands at home then is no link
  pub link_goes_law : (z : Option S) → as_link (shown shows (some z)) ≡ none → p.requests + x.right.link < length s.homes → Lawful shows p record { words = s.words; homes = set s.homes (p.requests + x.right.link) z; views = set s.views id (with_right v (record x.right { at_home = false })) }
  link_goes_law z empty long = moved (record x.right { at_home = false }) refl refl refl refl refl refl refl refl z refl refl refl (λ y e. absurd (some-ne-none y (sym e ∙ empty))) (ap took_of empty) long

  -- L2: the link comes back with what it has sent and its next place
  pub link_comes_law : (y : S) → shows y ≡ Link x.right.link x.right.sent x.right.places false → p.requests + x.right.link < length s.homes
      → Lawful shows p record { words = s.words; homes = set s.homes (p.requests + x.right.link) (some y); views = set s.views id (with_right v (record x.right { at_home = true })) }
  link_comes_law y sees long = moved (record x.right { at_home = true }) refl refl refl refl refl refl refl refl (some y) refl refl refl
      (λ h e. record { took = x.right.sent; next = x.right.places; done = false; is = some-injective h (Link x.right.link x.right.sent x.right.places false) (sym e ∙ ap (λ z. as_link (some z)) sees); «open» = λ j q. refl })
      (ap (λ z. took_of (as_link (some z))) sees) long

  -- W1: what the link took of the message in hand is noted
  pub put_law : (n : ℕ) → Lawful shows p record { words = s.words; homes = s.homes; views = set s.views id (with_right v (put_right x.right n)) }
  put_law n = let r' : Right = put_right x.right n in right_base o id x.place v x.right at x.has r' refl s.words s.homes o.freed o.places o.kept (λ k ne. (refl, refl)) (beside_all p o.slot s.words) (λ k. refl)
      (chains_stay r' refl refl refl refl refl refl refl refl) (messages_stay r' refl refl refl refl refl refl refl refl s.homes (λ q ql. refl))
      (delivers_same o.delivered (tokens (set s.views id (with_right v r'))) (λ q. get_or s.words (place_index p q) 0) (λ q ql. refl)
      (λ j y jl g. from_same (tokens s.views) (tokens (set s.views id (with_right v r'))) p.links x.right.link x.right r' alone (rt r' refl refl refl refl refl refl refl refl) refl refl refl j y jl g))
      (o.homes.busy x.right.link x.right kl alone)

  -- the link that L1 takes
  pub link_home_law : x.right.at_home ≡ true → (y : S) × (get_elem? s.homes (p.requests + x.right.link) ≡ some (some y)) × (shows y ≡ Link x.right.link x.right.sent x.right.places false)
  link_home_law home = let b = o.homes.busy x.right.link x.right kl alone ∙ ap (λ c. cond c (some (x.right.sent, x.right.places)) none) home in
      let a = took_some (link_at shows p s.homes x.right.link) (x.right.sent, x.right.places) b in let w = o.homes.own x.right.link a.0 kl a.1 in
      let is : link_at shows p s.homes x.right.link ≡ some (Link x.right.link w.took w.next w.done) = a.1 ∙ ap (λ (y : Home). some y) w.is in
      let q : (w.took, w.next) ≡ (x.right.sent, x.right.places) = some-injective (w.took, w.next) (x.right.sent, x.right.places) (sym (ap took_of is) ∙ b) in
      let open_ : w.done ≡ false = w.«open» (right_slot o id x.place v x.right at x.has).0 (right_slot o id x.place v x.right at x.has).1 in
      let h = link_value (get_elem? s.homes (p.requests + x.right.link)) x.right.link w.took w.next w.done is in
      (h.0, h.1, h.2 ∙ λ i. Link x.right.link (q i).0 (q i).1 (open_ i))
    where
      link_is : (y : Home) (k : ℕ) (t : List ℕ) (n : ℕ) (d : Bool) → as_link (some y) ≡ some (Link k t n d) → y ≡ Link k t n d
      link_is Empty k t n d e = absurd (some-ne-none (Link k t n d) (sym e))
      link_is (Link a b c f) k t n d e = some-injective (Link a b c f) (Link k t n d) e
      link_is (Message a b) k t n d e = absurd (some-ne-none (Link k t n d) (sym e))

      link_value : (h : Option (Option S)) (k : ℕ) (t : List ℕ) (n : ℕ) (d : Bool) → as_link (shown shows h) ≡ some (Link k t n d) → (y : S) × (h ≡ some (some y)) × (shows y ≡ Link k t n d)
      link_value none k t n d e = absurd (some-ne-none (Link k t n d) (sym e))
      link_value (some none) k t n d e = absurd (some-ne-none (Link k t n d) (sym e))
      link_value (some (some y)) k t n d e = (y, refl, link_is (shows y) k t n d e)

  -- a life whose word was found even wasn't failed
  pub alive : (j h : ℕ) → HoldsLink p v j h x.right.link → (slot_facts s j).version % 2 ≡ 0 → ¬ Failed p s x.right.link
  alive j h holds even f = let life = holder_lives p s o.references id v j h x.right.link at holds in let q = given_once p s o.references j f.slot h f.version x.right.link life.life f.life in
      let law = o.references.slots j holds.inside in let failed : 0 < count (is_failer h) (slot_facts s j) = subst (λ y. 0 < count (is_failer y) (slot_facts s j)) (sym q.1) (subst (λ y. 0 < count (is_failer f.version) (slot_facts s y)) (sym q.0) f.failed) in
      let t = life_is p.first h (slot_facts s j).version (omega (arith, law.failed h)) in let t₁ = t.1 in let held = holds.held in
      let k = law.held h (omega (arith, own_count s id v at (is_hold h) j)) in let k₀ = k.0 in let k₁ = k.1 in let le = live_le (slot_facts s j).tag (slot_facts s j).version (count is_busy (slot_facts s j)) in omega arith

  -- the right's part of A8, where the version was found even: the right is clean
  pub clean_law : (j h : ℕ) → HoldsLink p v j h x.right.link → (slot_facts s j).version % 2 ≡ 0 → Lawful shows p record { words = s.words; homes = s.homes; views = set s.views id (with_right v (record x.right { clean = true })) }
  clean_law j h holds even = right_base o id x.place v x.right at x.has (record x.right { clean = true }) refl s.words s.homes o.freed o.places o.kept (λ k ne. (refl, refl)) (beside_all p o.slot s.words) (λ k. refl)
      (chains_stay (record x.right { clean = true }) refl refl refl refl refl refl refl refl) (messages_stay (record x.right { clean = true }) refl refl refl refl refl refl refl refl s.homes (λ q ql. refl))
      (looks o.delivered (tokens (set s.views id (with_right v (record x.right { clean = true })))) x.right.link x.right (record x.right { clean = true }) kl alone (rt (record x.right { clean = true }) refl refl refl refl refl refl refl refl) refl refl (alive j h holds even))
      (o.homes.busy x.right.link x.right kl alone)

-- A8 of whoever writes a link, where the life in its slot is live
pub clean_look_law : {S : Type 0} (shows : S → Home) (p : Plan) (s : State S View) (o : Lawful shows p s) (id : ℕ) (v : View) → get_elem? s.views id ≡ some v → (x : HasRight v) (i h : ℕ) → HoldsLink p v i h x.right.link
    → get_or s.words (ref_index i) 0 < 18446744073709551616 → vref_version (get_or s.words (ref_index i) 0) % 2 ≡ 0
    → Lawful shows p (stepped s (ref_index i) (get_or s.words (ref_index i) 0) id [] (with_right (looked i (get_or s.words (ref_index i) 0) v) (record x.right { clean = true })) keeps)
clean_look_law {S} shows p s o id v at x i h holds fits even =
    let f : ℕ = get_or s.words (ref_index i) 0 in let w : View = looked i (get_or s.words (ref_index i) 0) v in
    let t : State S View = stepped s (ref_index i) (get_or s.words (ref_index i) 0) id [] (looked i (get_or s.words (ref_index i) 0) v) keeps in
    let o' = look_law shows p s o id v at i holds.inside fits in let st = looked_steady v i (get_or s.words (ref_index i) 0) in let a = holds.held in let b = holds.met in
    let words : set s.words (ref_index i) (get_or s.words (ref_index i) 0) ≡ s.words = set-get_or s.words (ref_index i) 0 in
    let last = clean_law shows p t o' id w (set_at s.views id w (at_length s.views id v at)) record { right = x.right; place = x.place; has = x.has } i h
    record { inside = holds.inside; held = omega (arith, st.1.hold i h); met = omega (arith, st.0.0.met i h x.right.link) } (ap (λ ws. vref_version (get_or ws (ref_index i) 0) % 2) words ∙ even) in
    subst (λ vs. Lawful shows p record { words = set s.words (ref_index i) (get_or s.words (ref_index i) 0); homes = s.homes; views = vs }) (set_twice s.views id w (with_right w (record x.right { clean = true }))) last
