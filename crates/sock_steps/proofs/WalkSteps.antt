-- C4, C5 and C6: the next words of what is written are read, the head is tried, and the walk turns what came since.
use Rattle.std.proofs.Common.{◌≡◌, ◌≢◌, ℕ, suc, ◌+◌, ◌<◌, eqb, cond, Bool, true, false, eq-eqb, ne_eqb, [], ◌∷◌, get_or, set, sym, refl, ap, ◌∙◌, subst}
use mathlib.Core.Logic.{dite}
use mathlib.Core.Option.{some}
use native.Mathlib.Decide.{ℕ_discrete}
use lib.ListN.{get_elem?}
use Rattle.atomic_table.specs.Table.{State}
use Rattle.sock_model.specs.declared.chain.Right.{Right}
use Rattle.sock_model.specs.declared.chain.Stage.{Stage}
use Rattle.sock_model.specs.declared.chain.Stage.TheVariants.{Writes, Placed, Passes, Empties, Reversing, ReversesNext}
use Rattle.sock_model.specs.declared.home.Home.{Home}
use Rattle.sock_model.specs.sock_words.specs.declared.plain.Plan.{Plan}
use Rattle.sock_model.specs.declared.view.View.{View}
use Rattle.sock_model.specs.SocketTableLayout.{head_index, next_index}
use Rattle.sock_model.specs.ChainMemory.{Memory}
use Rattle.sock_model.specs.Chains.{Chains}
use Rattle.sock_model.specs.ChainLawReads.{head_at, memory, tokens}
use Rattle.sock_model.specs.ChainRows.{with_right, without_right, turned_right}
use Rattle.sock_model.specs.ChainStepConditions.{HasRight, MayEmpty, MayTurn}
use Rattle.sock_model.specs.LawfulSockets.{Lawful}
use Rattle.chain_steps.proofs.UntouchedByChainSteps.{Changed}
use Rattle.chain_steps.proofs.ChainHeadSteps.{empties_head, begins_walk, passes_on, reads_back}
use Rattle.chain_steps.proofs.Nexts.{turn_slot, turns_on, turns_last}
use Rattle.sock_steps.proofs.LifeLinkSlotPlaces.{holder_lives}
use Rattle.sock_steps.proofs.ChainWordChanges.{beside_all, head_beside, head_changed, next_same, request_same, place_same, next_beside, next_head, next_changed, next_request, next_place}
use Rattle.sock_steps.proofs.ChainFrame.{slots_in, one_slot}
use Rattle.sock_steps.proofs.RightSteps.{right_in, right_alone, rights_after, claims_after, loose_after, right_step, right_goes}
use Rattle.sock_model.specs.sock_words.specs.PackedWords.{ticket_request, UNCONNECTED, IDLE}

not_writes : (s a : Stage) → ((now : ℕ) → a ≢ Writes now) → s ≡ a → (now : ℕ) → s ≢ Writes now
not_writes s a h e now q = h now (sym e ∙ q)

module _ {S : Type 0} (shows : S → Home) (p : Plan) (s : State S View) (o : Lawful shows p s) (id : ℕ) (v : View) (at : get_elem? s.views id ≡ some v) (x : HasRight v) where
  abbrev r : Right
  r = x.right

  has : (tokens s.views).rights r.link ≡ r ∷ []
  has = right_alone o id x.place v x.right at x.has

  -- a load, after which the right has another stage
  staged_law : (b : Stage) → ((now : ℕ) → x.right.stage ≢ Writes now)
      → Chains p.links p.requests (memory p o.slot s.words) (tokens (set s.views id (with_right v (record x.right { stage = b })))) o.log o.freed o.places
      → Lawful shows p record { words = s.words; homes = s.homes; views = set s.views id (with_right v (record x.right { stage = b })) }
  staged_law b no_ chains = right_step o id x.place v x.right at x.has (record x.right { stage = b }) refl s.words o.freed refl refl refl refl refl no_ (beside_all p o.slot s.words) (λ l ll. refl) chains

  -- C5, of an entry that was written and isn't the last one noted
  pub passing_law : (now : ℕ) → x.right.stage ≡ Placed now → now ≢ x.right.last → Lawful shows p record { words = s.words; homes = s.homes; views = set s.views id (with_right v (record x.right { stage = Passes now (get_or s.words (next_index p (ticket_request now)) 0) })) }
  passing_law now stage ne = let b : Stage = Passes now (get_or s.words (next_index p (ticket_request now)) 0) in
      staged_law b (not_writes x.right.stage (Placed now) (λ m q. let z : Placed now ≡ Writes m = q in cc) stage)
      (passes_on o.chains x.right.link x.right (right_in o id x.place v x.right at x.has) has (record x.right { stage = Passes now (get_or s.words (next_index p (ticket_request now)) 0) }) now o.fits.narrow stage ne refl refl refl refl (λ k kl. refl) (λ q ql. refl) (λ q ql. refl)
      (rights_after o id x.place v x.right at x.has (record x.right { stage = Passes now (get_or s.words (next_index p (ticket_request now)) 0) }) refl) (claims_after o id x.place v x.right at x.has (record x.right { stage = Passes now (get_or s.words (next_index p (ticket_request now)) 0) }) refl) (loose_after o id x.place v x.right at x.has (record x.right { stage = Passes now (get_or s.words (next_index p (ticket_request now)) 0) }) refl))

  -- C5 on the walk, where the next word is connected. Where it isn't, the view stays, and nothing is to be shown
  pub reading_law : (top a after : ℕ) → x.right.stage ≡ Reversing top a after → get_or s.words (next_index p (ticket_request a)) 0 ≢ UNCONNECTED → Lawful shows p record { words = s.words; homes = s.homes; views = set s.views id (with_right v (record x.right { stage = ReversesNext top a after (get_or s.words (next_index p (ticket_request a)) 0) })) }
  reading_law top a after stage ne = let b : Stage = ReversesNext top a after (get_or s.words (next_index p (ticket_request a)) 0) in
      staged_law b (not_writes x.right.stage (Reversing top a after) (λ m q. let z : Reversing top a after ≡ Writes m = q in cc) stage)
      (reads_back o.chains x.right.link x.right (right_in o id x.place v x.right at x.has) has (record x.right { stage = ReversesNext top a after (get_or s.words (next_index p (ticket_request a)) 0) }) top a after o.fits.narrow stage ne refl refl refl refl (λ k kl. refl) (λ q ql. refl) (λ q ql. refl)
      (rights_after o id x.place v x.right at x.has (record x.right { stage = ReversesNext top a after (get_or s.words (next_index p (ticket_request a)) 0) }) refl) (claims_after o id x.place v x.right at x.has (record x.right { stage = ReversesNext top a after (get_or s.words (next_index p (ticket_request a)) 0) }) refl) (loose_after o id x.place v x.right at x.has (record x.right { stage = ReversesNext top a after (get_or s.words (next_index p (ticket_request a)) 0) }) refl))

module _ {S : Type 0} (shows : S → Home) (p : Plan) (s : State S View) (o : Lawful shows p s) (id i last empty : ℕ) (v : View) (at : get_elem? s.views id ≡ some v) (x : MayEmpty p v i last empty) where
  kl : x.mine.right.link < p.links
  kl = right_in o id x.mine.place v x.mine.right at x.mine.has

  alone : (tokens s.views).rights x.mine.right.link ≡ x.mine.right ∷ []
  alone = right_alone o id x.mine.place v x.mine.right at x.mine.has

  in_slot : o.slot x.mine.right.link ≡ some i
  in_slot = o.in_slots.alone i x.life x.mine.right.link (holder_lives p s o.references id v i x.life x.mine.right.link at x.holds)

  head_is : (memory p o.slot s.words).head x.mine.right.link ≡ some (get_or s.words (head_index i) 0)
  head_is = ap (head_at s.words) in_slot

  no_write : (now : ℕ) → x.mine.right.stage ≢ Writes now
  no_write = not_writes x.mine.right.stage Empties (λ m q. let z : Empties ≡ Writes m = q in cc) x.stage

  -- C4, won
  pub emptied_law : get_or s.words (head_index i) 0 ≡ last → Lawful shows p record { words = set s.words (head_index i) empty; homes = s.homes; views = set s.views id (without_right v x.mine.right.link) }
  emptied_law e = right_goes o id x.mine.place v x.mine.right at x.mine.has (set s.words (head_index i) empty) x.link_home no_write (head_beside p o.slot s.words empty o.references.sized (slots_in o) x.mine.right.link i in_slot (one_slot o))
      (place_same p o.slot s.words empty o.references.sized (slots_in o) x.mine.right.link i in_slot (one_slot o))
      (λ rt cl lo. empties_head o.chains x.mine.right.link x.mine.right kl alone x.stage (head_is ∙ ap (λ (y : ℕ). some y) (e ∙ sym x.last_is))
      (subst (λ y. Changed p.links (memory p o.slot s.words).head (memory p o.slot (set s.words (head_index i) empty)).head x.mine.right.link (some y)) (x.empty_is ∙ ap (λ y. IDLE + y) (sym x.last_is)) (head_changed p o.slot s.words empty o.references.sized (slots_in o) x.mine.right.link i in_slot (one_slot o)))
      (next_same p o.slot s.words empty o.references.sized (slots_in o) x.mine.right.link i in_slot (one_slot o)) (request_same p o.slot s.words empty o.references.sized (slots_in o) x.mine.right.link i in_slot (one_slot o)) rt cl lo)

  -- C4, lost
  pub walking_law : (w : ℕ) → get_or s.words (head_index i) 0 ≡ w → w ≢ last → Lawful shows p record { words = s.words; homes = s.homes; views = set s.views id (with_right v (record x.mine.right { stage = Reversing w w 0 })) }
  walking_law w e ne = staged_law shows p s o id v at x.mine (Reversing w w 0) no_write
      (begins_walk o.chains x.mine.right.link x.mine.right kl alone (record x.mine.right { stage = Reversing w w 0 }) w x.stage (head_is ∙ ap (λ (y : ℕ). some y) e) (λ q. ne (q ∙ x.last_is)) refl refl refl refl
      (λ k kl. refl) (λ q ql. refl) (λ q ql. refl)
      (rights_after o id x.mine.place v x.mine.right at x.mine.has (record x.mine.right { stage = Reversing w w 0 }) refl) (claims_after o id x.mine.place v x.mine.right at x.mine.has (record x.mine.right { stage = Reversing w w 0 }) refl) (loose_after o id x.mine.place v x.mine.right at x.mine.has (record x.mine.right { stage = Reversing w w 0 }) refl))

turns_same : (a b c d e f g h : ℕ) → ReversesNext a b c d ≡ ReversesNext e f g h → (a ≡ e) × (b ≡ f) × (c ≡ g) × (d ≡ h)
turns_same a b c d e f g h q = (cc, cc, cc, cc)

no_writes : (s : Stage) (top at after before now : ℕ) → s ≡ ReversesNext top at after before → s ≢ Writes now
no_writes s top at after before now e q = let z : ReversesNext top at after before ≡ Writes now = sym e ∙ q in cc

-- what the right becomes
by_test : (b : Bool) (r x y : Right) (F : Right → Type 0) → F x → F y → F (cond b x y)
by_test true r x y F a c = a
by_test false r x y F a c = c

module _ {S : Type 0} (shows : S → Home) (p : Plan) (s : State S View) (o : Lawful shows p s) (id value : ℕ) (v : View) (at : get_elem? s.views id ≡ some v) (x : MayTurn v value) where
  -- C6
  pub turning_law : Lawful shows p record { words = set s.words (next_index p (ticket_request x.at)) value; homes = s.homes; views = set s.views id (with_right v (turned_right x.mine.right x.top x.at x.before)) }
  turning_law =
      let y : Right = turned_right x.mine.right x.top x.at x.before in
      let link' : (turned_right x.mine.right x.top x.at x.before).link ≡ x.mine.right.link = by_test (eqb x.before x.mine.right.last) x.mine.right (record x.mine.right { last = x.top; stage = Writes x.at; turned = 0; noted = x.mine.right.noted + suc x.mine.right.turned }) (record x.mine.right { stage = Reversing x.top x.before x.at; turned = suc x.mine.right.turned }) (λ z. z.link ≡ x.mine.right.link) refl refl in
      let clean' : (turned_right x.mine.right x.top x.at x.before).clean ≡ x.mine.right.clean = by_test (eqb x.before x.mine.right.last) x.mine.right (record x.mine.right { last = x.top; stage = Writes x.at; turned = 0; noted = x.mine.right.noted + suc x.mine.right.turned }) (record x.mine.right { stage = Reversing x.top x.before x.at; turned = suc x.mine.right.turned }) (λ z. z.clean ≡ x.mine.right.clean) refl refl in
      let sent' : (turned_right x.mine.right x.top x.at x.before).sent ≡ x.mine.right.sent = by_test (eqb x.before x.mine.right.last) x.mine.right (record x.mine.right { last = x.top; stage = Writes x.at; turned = 0; noted = x.mine.right.noted + suc x.mine.right.turned }) (record x.mine.right { stage = Reversing x.top x.before x.at; turned = suc x.mine.right.turned }) (λ z. z.sent ≡ x.mine.right.sent) refl refl in
      let count' : (turned_right x.mine.right x.top x.at x.before).places ≡ x.mine.right.places = by_test (eqb x.before x.mine.right.last) x.mine.right (record x.mine.right { last = x.top; stage = Writes x.at; turned = 0; noted = x.mine.right.noted + suc x.mine.right.turned }) (record x.mine.right { stage = Reversing x.top x.before x.at; turned = suc x.mine.right.turned }) (λ z. z.places ≡ x.mine.right.places) refl refl in
      let home' : (turned_right x.mine.right x.top x.at x.before).at_home ≡ x.mine.right.at_home = by_test (eqb x.before x.mine.right.last) x.mine.right (record x.mine.right { last = x.top; stage = Writes x.at; turned = 0; noted = x.mine.right.noted + suc x.mine.right.turned }) (record x.mine.right { stage = Reversing x.top x.before x.at; turned = suc x.mine.right.turned }) (λ z. z.at_home ≡ x.mine.right.at_home) refl refl in
      let hand' : (turned_right x.mine.right x.top x.at x.before).taken ≡ x.mine.right.taken = by_test (eqb x.before x.mine.right.last) x.mine.right (record x.mine.right { last = x.top; stage = Writes x.at; turned = 0; noted = x.mine.right.noted + suc x.mine.right.turned }) (record x.mine.right { stage = Reversing x.top x.before x.at; turned = suc x.mine.right.turned }) (λ z. z.taken ≡ x.mine.right.taken) refl refl in
      let kl = right_in o id x.mine.place v x.mine.right at x.mine.has in let has = right_alone o id x.mine.place v x.mine.right at x.mine.has in
      let c = turn_slot o.chains x.mine.right.link x.mine.right kl has o.fits.narrow x.top x.at value x.before x.stage in
      let m' : Memory = memory p o.slot (set s.words (next_index p (ticket_request x.at)) value) in
      let t' = tokens (set s.views id (with_right v (turned_right x.mine.right x.top x.at x.before))) in
      let after = rights_after o id x.mine.place v x.mine.right at x.mine.has (turned_right x.mine.right x.top x.at x.before) link' in
      let chains : Chains p.links p.requests (memory p o.slot (set s.words (next_index p (ticket_request x.at)) value)) (tokens (set s.views id (with_right v (turned_right x.mine.right x.top x.at x.before)))) o.log o.freed o.places =
      dite (ℕ_discrete x.before x.mine.right.last)
      (λ e. let q : turned_right x.mine.right x.top x.at x.before ≡ record x.mine.right { last = x.top; stage = Writes x.at; turned = 0; noted = x.mine.right.noted + suc x.mine.right.turned } = ap (λ b. cond b (record x.mine.right { last = x.top; stage = Writes x.at; turned = 0; noted = x.mine.right.noted + suc x.mine.right.turned }) (record x.mine.right { stage = Reversing x.top x.before x.at; turned = suc x.mine.right.turned })) (eq-eqb x.before x.mine.right.last e) in
      turns_last o.chains m' t' x.mine.right.link x.mine.right kl has o.fits.narrow x.top x.at value x.before x.stage
      (next_head p o.slot s.words value o.references.sized (slots_in o) (ticket_request x.at) c.5) (next_changed p o.slot s.words value o.references.sized (slots_in o) (ticket_request x.at) c.5) (next_request p o.slot s.words value o.references.sized (slots_in o) (ticket_request x.at) c.5)
      (claims_after o id x.mine.place v x.mine.right at x.mine.has (turned_right x.mine.right x.top x.at x.before) link') (loose_after o id x.mine.place v x.mine.right at x.mine.has (turned_right x.mine.right x.top x.at x.before) link')
      (turned_right x.mine.right x.top x.at x.before) e (ap (λ (z : Right). z.last) q) (ap (λ (z : Right). z.turned) q) (ap (λ (z : Right). z.noted) q) (ap (λ (z : Right). z.stage) q) after)
      (λ ne. let q : turned_right x.mine.right x.top x.at x.before ≡ record x.mine.right { stage = Reversing x.top x.before x.at; turned = suc x.mine.right.turned } = ap (λ b. cond b (record x.mine.right { last = x.top; stage = Writes x.at; turned = 0; noted = x.mine.right.noted + suc x.mine.right.turned }) (record x.mine.right { stage = Reversing x.top x.before x.at; turned = suc x.mine.right.turned })) (ne_eqb x.before x.mine.right.last ne) in
      turns_on o.chains m' t' x.mine.right.link x.mine.right kl has o.fits.narrow x.top x.at value x.before x.stage
      (next_head p o.slot s.words value o.references.sized (slots_in o) (ticket_request x.at) c.5) (next_changed p o.slot s.words value o.references.sized (slots_in o) (ticket_request x.at) c.5) (next_request p o.slot s.words value o.references.sized (slots_in o) (ticket_request x.at) c.5)
      (claims_after o id x.mine.place v x.mine.right at x.mine.has (turned_right x.mine.right x.top x.at x.before) link') (loose_after o id x.mine.place v x.mine.right at x.mine.has (turned_right x.mine.right x.top x.at x.before) link')
      (turned_right x.mine.right x.top x.at x.before) ne (ap (λ (z : Right). z.last) q) (ap (λ (z : Right). z.turned) q) (ap (λ (z : Right). z.noted) q) (ap (λ (z : Right). z.stage) q) after) in
      (right_step o id x.mine.place v x.mine.right at x.mine.has (turned_right x.mine.right x.top x.at x.before) link' (set s.words (next_index p (ticket_request x.at)) value) o.freed clean' sent' count' home' hand' (λ now. no_writes x.mine.right.stage x.top x.at value x.before now x.stage)
      (next_beside p o.slot s.words value o.references.sized (slots_in o) (ticket_request x.at) c.5) (next_place p o.slot s.words value o.references.sized (slots_in o) (ticket_request x.at) c.5) chains)
