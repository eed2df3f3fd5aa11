-- A link whose writing half is finished is in no slot, so where a life has that link, and its `open`'s word was stored, that life is past.
use Rattle.std.proofs.Common.{◌≡◌, ◌≢◌, ℕ, suc, ◌+◌, ◌-◌, ◌<◌, ◌≤◌, inl, inr, ⊎_elim, Bool, true, false, List, [], ◌∷◌, ◌++◌, take, get_or, sym, ap, ◌∙◌, subst, arith}
use mathlib.Core.Logic.{dite}
use native.Mathlib.Decide.{ℕ_discrete, dec_le}
use mathlib.Core.Option.{Option as Maybe}
use mathlib.Core.Option.{none, some, some-ne-none}
use lib.ListN.{get_elem?}
use Rattle.sock_words.specs.PackedWords.{socket_id, socket_id_version, socket_id_slot, vref_version}
use Rattle.sock_words.specs.declared.plain.Plan.{Plan}
use Rattle.sock_model.specs.declared.chain.Right.{Right}
use Rattle.sock_model.specs.declared.home.Home.{Home}
use Rattle.sock_model.specs.declared.home.Home.TheVariants.{Link}
use Rattle.sock_model.specs.declared.view.View.{View}
use Rattle.sock_model.specs.declared.view.Hand.{Hand}
use Rattle.sock_model.specs.SocketTableLayout.{open_index, ref_index}
use Rattle.sock_model.specs.ChainLawReads.{as_link, shown, carries, hands_of}
use Rattle.sock_model.specs.MarkWeights.{is_freer, is_linked}
use Rattle.sock_model.specs.SocketSlotLaw.{count}
use Rattle.sock_model.specs.References.{slot_facts}
use Rattle.owned_ids.specs.Below.programs_allowed.specs.slot_steps.proofs.SlotWeightSums.{term_le}
use Rattle.owned_ids.specs.Below.programs_allowed.specs.slot_steps.proofs.RuleNumbers.{only-same, life_is}
use Rattle.owned_ids.specs.Below.sock_steps.proofs.Maps.{is_none}
use Rattle.seat_programs.specs.Cores.{Core, SeatState, link_place}
use Rattle.owned_ids.specs.Below.programs_allowed.specs.program_steps.specs.SoundSeats.{state, Sound, AreInHand, AreHeld, IsOfRight}
use Rattle.owned_ids.specs.Below.programs_allowed.specs.program_steps.proofs.SlotWordBounds.{law}
use Rattle.owned_ids.specs.Below.programs_allowed.specs.program_walks.proofs.LinksOpening.{OpensLink}
use Rattle.owned_ids.specs.call_owing.proofs.EndsStill.{view_of}
use Rattle.owned_ids.specs.call_owing.specs.LivesOfLinks.{InHand, IsFinished}
use Rattle.owned_ids.proofs.WordsGiven.{Named}
use Rattle.sock_words.specs.Totals.{total}

-- ## In hand

-- what is in hand without a right the view has there
in_hands : (k : ℕ) (took : List ℕ) (next : ℕ) (hand : List Home) (hands : List Hand) → AreInHand hand hands → InHand (Link k took next true) hand → 0 < total (carries k) hands
in_hands k took next [] hands are has = absurd has
in_hands k took next (x ∷ xs) [] are has = absurd are
in_hands k took next (x ∷ xs) (h ∷ hs) are (inl is) = let z : Link h.link h.took h.next are.0.0 ≡ Link k took next true = sym are.0.1 ∙ is in let same : h.link ≡ k = cc in let one = only-same k in
    let here : carries k h ≡ 1 = ap (λ y. carries k (record { link = y; took = h.took; next = h.next })) same ∙ one in omega (arith, here)
in_hands k took next (x ∷ xs) (h ∷ hs) are (inr has) = let more = in_hands k took next xs hs are.1 has in omega (arith, more)

-- a link of a right isn't finished
in_held : (k : ℕ) (took : List ℕ) (next : ℕ) (hand : List Home) (rights : List Right) (hands : List Hand) → AreHeld hand rights hands → InHand (Link k took next true) hand → 0 < total (carries k) hands
in_held k took next hand [] hands are has = in_hands k took next hand hands are has
in_held k took next hand (r ∷ rs) hands are has = by_home r.at_home (λ others more x. in_held k took next others rs hands x more) are
  where
    by_home : (b : Bool) → ((others : List Home) → InHand (Link k took next true) others → AreHeld others rs hands → 0 < total (carries k) hands) → elim b as (λ b. Type 0) [
      | true ↦ AreHeld hand rs hands
      | false ↦ (x : Home) × (others : List Home) × (hand ≡ x ∷ others) × IsOfRight r x × AreHeld others rs hands
    ] → 0 < total (carries k) hands
    by_home true go are = go hand has are
    by_home false go are = ⊎_elim
        (λ is. let z : Link r.link (r.sent ++ take r.put r.bytes) are.3.0 false ≡ Link k took next true = sym are.3.1 ∙ is in absurd (cc))
        (λ more. go are.1 more are.4) (subst (InHand (Link k took next true)) are.2 has)

-- ## In no slot

module _ (p : Plan) (c : Core) (vs : List View) (sound : Sound p c vs) (k : ℕ) (low : k < p.links) where
  at_home : (took : List ℕ) (next : ℕ) → get_elem? c.homes (link_place p k) ≡ some (some (Link k took next true)) → sound.lawful.slot k ≡ none
  at_home took next e = is_none (sound.lawful.slot k) (λ j slotted.
      let own = sound.lawful.homes.own k (Link k took next true) low (ap (λ (x : Maybe (Maybe Home)). as_link (shown (λ (home : Home). home) x)) e) in
      let z : Link k took next true ≡ Link k own.took own.next own.done = own.is in let done : own.done ≡ true = cc in let not_done = own.«open» j slotted in let y : true ≡ false = sym done ∙ not_done in cc)

  in_hand : (j : ℕ) (seat : SeatState) (took : List ℕ) (next : ℕ) → get_elem? c.seats j ≡ some seat → InHand (Link k took next true) seat.hand → sound.lawful.slot k ≡ none
  in_hand j seat took next at has = let v = view_of c.seats vs j seat at sound.each in let some_ = in_held k took next seat.hand v.0.rights v.0.hands (sound.seats j seat v.0 at v.1).hand has in
      (sound.lawful.homes.hands k (let one = term_le (hands_of k) vs j v.0 v.1 in omega (arith, one, some_))).0

  pub finished_outside : IsFinished p c k → sound.lawful.slot k ≡ none
  finished_outside f = ⊎_elim (λ e. at_home f.0 f.1 e) (λ h. in_hand h.0 h.1 f.0 f.1 h.2 h.3) f.2

-- where the word of the link's `open` names this life, it is past
pub closed_past : (p : Plan) (os : List ℕ) → ((k l o : ℕ) → get_elem? os k ≡ some o → get_elem? os l ≡ some o → k ≡ l) → (c : Core) (vs : List View) → Sound p c vs → Named p (OpensLink os) c vs
    → (k o s : ℕ) → get_elem? os k ≡ some o → o < p.operations → k < p.links → get_or c.words (open_index p o) 0 ≡ s + 1 → s + 1 ≢ 18446744073709551615 → IsFinished p c k → socket_id_version s < vref_version (get_or c.words (ref_index (socket_id_slot s)) 0)
closed_past p os apart c vs sound named k o s at inside low word socket finished =
    let x = named.words o inside (λ z. omega (arith, word, z)) (λ z. socket (sym word ∙ z)) in
    let same_link : x.link ≡ k = apart x.link k o x.mine at in
    let few : x.slot < 4294967296 = (let l = sound.limits.slots in let i = x.inside in omega (arith, i, l)) in
    let is : s ≡ socket_id x.version x.slot = (let a = x.word in omega (arith, a, word)) in
    let slot_is : socket_id_slot s ≡ x.slot = omega (arith, is, few) in
    let version_is : socket_id_version s ≡ x.version = omega (arith, is, few) in
    subst (λ i. socket_id_version s < vref_version (get_or c.words (ref_index i) 0)) (sym slot_is)
    (dite (dec_le (suc (socket_id_version s)) (vref_version (get_or c.words (ref_index x.slot) 0))) (λ past. omega (arith, past)) (λ no_. absurd (some-ne-none x.slot
    (sym (sound.lawful.in_slots.alone x.slot x.version k record {
      life = record { inside = x.inside; given = subst (λ l. 0 < count (is_linked x.version l) (slot_facts (state c vs) x.slot)) same_link x.given };
      unended = none_freed x.slot x.version x.inside (omega (arith, no_, version_is));
    }) ∙ finished_outside p c vs sound k low finished))))
  where
    -- a life that isn't past isn't ended
    none_freed : (i h : ℕ) → i < p.slots → vref_version (get_or c.words (ref_index i) 0) ≤ h → count (is_freer h) (slot_facts (state c vs) i) ≡ 0
    none_freed i h inside le = dite (ℕ_discrete (count (is_freer h) (slot_facts (state c vs) i)) 0) (λ z. z)
        (λ some_. let l = law p (state c vs) sound.lawful.references i inside in let e = l.ended h in let t = life_is p.first h ((slot_facts (state c vs) i).version - 1) (omega (arith, some_, e)) in let u = t.1 in absurd (let z : ⊥ = omega (arith, u, le) in z))
