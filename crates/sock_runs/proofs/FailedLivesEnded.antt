-- Where no seat has anything left to do, a life that was set failed has ended, and each link is at home.
use Rattle.std.proofs.Common.{◌≡◌, ℕ, suc, ◌+◌, ◌-◌, ◌%◌, ◌<◌, ◌≤◌, ◌==◌, List, [], ◌∷◌, map, refl, sym, ap, ◌∙◌, subst, inl, inr, ◌⊎◌, ⊎_elim, arith}
use Rattle.std.specs.List.{filter}
use mathlib.Core.Logic.{dite}
use mathlib.Core.Option.{Option, some, none}
use native.Mathlib.Decide.{ℕ_discrete, dec_le}
use lib.ListN.{get_elem?}
use Rattle.sock_words.specs.declared.plain.Plan.{Plan}
use Rattle.sock_model.specs.declared.chain.Right.{Right}
use Rattle.sock_model.specs.declared.home.Home.{Home}
use Rattle.sock_model.specs.declared.marks.Mark.{Mark}
use Rattle.sock_model.specs.declared.marks.Mark.TheVariants.{Claimed, Recycling}
use Rattle.sock_model.specs.declared.view.View.{View}
use Rattle.sock_model.specs.MarkWeights.{tally, is_ref, is_zero, is_busy, is_claimed, is_recycled, is_born, is_failer, is_freer}
use Rattle.sock_model.specs.Marks.{about}
use Rattle.sock_model.specs.SlotRows.{marks_of}
use Rattle.sock_model.specs.SocketSlotLaw.{SlotFacts, SlotLaw, live, count}
use Rattle.sock_model.specs.ChainLawReads.{link_at, rights_on, tokens, carries, hands_of}
use Rattle.sock_model.specs.References.{slot_facts}
use Rattle.sock_steps.specs.slot_steps.proofs.SlotWeightSums.{total_some}
use Rattle.sock_steps.proofs.LifeLinkSlotPlaces.{own_count}
use Rattle.sock_steps.specs.slot_steps.proofs.RuleNumbers.{only-same, life_is, life-in, life-high, live-odd, live-yes}
use Rattle.sock_steps.proofs.Maps.{took_some, gather_nil}
use Rattle.sock_steps.proofs.HandSteps.{link_value}
use Rattle.seat_programs.specs.Cores.{Core}
use Rattle.program_steps.specs.ProgramGoesOn.{HasNothing, GoesOn}
use Rattle.program_steps.specs.SoundSeats.{state, Sound, AllRest, AllFailed, AllEnded, IsOver, IsAlive}
use Rattle.program_steps.proofs.SlotWordBounds.{law}
use Rattle.sock_runs.proofs.HandTicks.{AtHome}
use Rattle.sock_runs.proofs.AllowedNextSteps.{view_there}
use Rattle.sock_words.specs.Totals.{total}

-- what no seat has is had by none together
pub none_has : (f : Mark → ℕ) (i : ℕ) (vs : List View) → ((j : ℕ) (v : View) → get_elem? vs j ≡ some v → marks_of f i v ≡ 0) → tally f (map (λ (v : View). about i v.marks) vs) ≡ 0
none_has f i [] each = refl
none_has f i (x ∷ xs) each = omega (arith, each 0 x refl, none_has f i xs (λ j v e. each (suc j) v e))

-- who is busy with a slot claimed it or recycled it to some version
busy_mark : (m : Mark) → (is_busy m ≡ 0) ⊎ ((0 < is_claimed m) ⊎ ((w : ℕ) × (0 < is_recycled w m)))
busy_mark (Claimed a b) = inr (inl (omega arith))
busy_mark (Recycling w) = inr (inr (w, omega (arith, only-same w)))
busy_mark _ = inl refl

busy_is : (ms : List Mark) → 0 < total is_busy ms → (0 < total is_claimed ms) ⊎ ((w : ℕ) × (0 < total (is_recycled w) ms))
busy_is [] h = absurd (omega arith)
busy_is (m ∷ ms) h = ⊎_elim
    (λ none_. ⊎_elim (λ x. inl (omega (arith, x))) (λ x. inr (x.0, omega (arith, x.1))) (busy_is ms (omega (arith, h, none_))))
    (λ some_. ⊎_elim (λ x. inl (omega (arith, x))) (λ x. inr (x.0, omega (arith, x.1))) some_) (busy_mark m)

module _ (p : Plan) (c : Core) (vs : List View) (sound : Sound p c vs) (rests : AllRest c) where
  pub has_nothing : (j : ℕ) (v : View) → get_elem? vs j ≡ some v → HasNothing v
  has_nothing j v at = let seat = view_there vs c.seats j v (sym sound.each) at (get_elem? c.seats j) refl in
      subst (GoesOn p v) (rests j seat.0 seat.1) (sound.seats j seat.0 v seat.1 at).goes_on

  -- a life that was failed has ended
  pub failed_ends : (i h : ℕ) → i < p.slots → 0 < count (is_failer h) (slot_facts (state c vs) i) → 0 < count (is_freer h) (slot_facts (state c vs) i)
  failed_ends i h inside failed = let l = law p (state c vs) sound.lawful.references i inside in
      let t = life_is p.first h (slot_facts (state c vs) i).version (omega (arith, l.failed h)) in let even = t.2 in let first = t.0 in let below = t.1 in
      let refs = none_has is_ref i vs (λ j v e. (has_nothing j v e).refs i) in
      let zeros = none_has (is_zero (slot_facts (state c vs) i).version) i vs (λ j v e. (has_nothing j v e).zeros i (slot_facts (state c vs) i).version) in
      dite (ℕ_discrete (h + 1) (slot_facts (state c vs) i).version)
      (λ last. let odd : (slot_facts (state c vs) i).version % 2 ≡ 1 = omega arith in
      let dead = live-odd (slot_facts (state c vs) i).tag (slot_facts (state c vs) i).version (count is_busy (slot_facts (state c vs) i)) odd in
      let zero_noted = l.zero_noted odd (omega (arith, l.counted, dead, refs)) in absurd (omega arith))
      (λ n. omega (arith, l.ended h, life-in p.first h ((slot_facts (state c vs) i).version - 1) first (omega arith) even))

  no_rights : (k : ℕ) → (tokens vs).rights k ≡ []
  no_rights k = gather_nil (rights_on k) vs (λ j v e. let seat = view_there vs c.seats j v (sym sound.each) e (get_elem? c.seats j) refl in
      ap (filter (λ (x : Right). x.link == k)) (has_nothing j v e).quiet.rights)

  no_hands : (k : ℕ) → total (hands_of k) vs ≡ 0
  no_hands k = dite (dec_le (total (hands_of k) vs) 0) (λ none_. omega arith)
      (λ some_. let t = total_some (hands_of k) vs (omega arith) in let there = t.3 in absurd (omega (arith, there, ap (total (carries k)) (has_nothing t.0 t.1 t.2).hands)))

  -- each link is at home
  pub links_home : (k : ℕ) → k < p.links → AtHome p c.homes k
  links_home k inside = let homes = sound.lawful.homes in let at_home = by_slot (sound.lawful.slot k) refl in let own = homes.own k at_home.0 inside at_home.1 in
      let y = link_value (λ (home : Home). home) (get_elem? c.homes (p.requests + k)) k own.took own.next own.done (at_home.1 ∙ ap (λ (x : Home). some x) own.is) in
      record { took = own.took; next = own.next; done = own.done; is = y.1 ∙ ap (λ (x : Home). some (some x)) y.2 }
    where
      by_slot : (q : Option ℕ) → sound.lawful.slot k ≡ q → (x : Home) × (link_at (λ (home : Home). home) p c.homes k ≡ some x)
      by_slot none e = ⊎_elim (λ x. x) (λ some_. absurd (omega (arith, no_hands k))) (sound.lawful.homes.outside k inside e)
      by_slot (some j) e = let a = sound.lawful.homes.idle k j inside e (no_rights k) in took_some (link_at (λ (home : Home). home) p c.homes k) (a.0, a.1) a.2

  module _ (failed : AllFailed p c vs) where
    -- where every life was failed, each has ended
    pub all_ended : AllEnded p c vs
    all_ended i h inside born = failed_ends i h inside (failed i h inside born)

    -- and none is alive
    pub none_alive : (i h : ℕ) → ¬ IsAlive p c vs i h
    none_alive i h alive = let ended = all_ended i h alive.inside alive.born in let open_ = alive.not_ended in omega arith

    module _ (i : ℕ) (inside : i < p.slots) where
      abbrev facts : SlotFacts
      facts = slot_facts (state c vs) i

      l : SlotLaw p.first (live (slot_facts (state c vs) i)) (slot_facts (state c vs) i)
      l = law p (state c vs) sound.lawful.references i inside

      -- a life that would be the last isn't there
      no_last : (h : ℕ) → p.first ≤ h → h < facts.version + live facts → facts.version - 1 ≤ h → h % 2 ≡ 0 → ⊥
      no_last h first below last even = let born : 0 < count (is_born h) (slot_facts (state c vs) i) = omega (arith, l.born h, life-in p.first h (facts.version + live facts) first below even) in
          omega (arith, all_ended i h inside born, l.ended h, life-high p.first h (facts.version - 1) last)

      is_even : facts.version % 2 ≡ 0
      is_even = dite (ℕ_discrete (facts.version % 2) 0) (λ e. e) (λ no_. let first = sound.lawful.fits.even in let begun = l.begun in absurd (no_last (facts.version - 1) (omega arith) (omega arith) (omega arith) (omega arith)))

      no_life : live facts ≡ 0
      no_life = dite (ℕ_discrete (live facts) 0) (λ e. e) (λ some_. absurd (no_last facts.version l.begun (omega arith) (omega arith) is_even))

      -- a slot whose versions aren't used up is claimed and recycled by no seat
      none_busy : facts.version ≤ 4294967292 → count is_busy (slot_facts (state c vs) i) ≡ 0
      none_busy low = none_has is_busy i vs (λ j v e. dite (ℕ_discrete (marks_of is_busy i v) 0) (λ q. q) (λ some_. absurd (⊎_elim
          (λ claims. let none_ = (has_nothing j v e).claims i in omega arith)
          (λ x. let high = (has_nothing j v e).retired i x.0 x.1 in let is = l.recycled x.0 (omega (arith, x.1, own_count (state c vs) j v e (is_recycled x.0) i)) in omega arith)
          (busy_is (about i v.marks) (omega arith)))))

      pub is_over : IsOver c.words i
      is_over = let refs = none_has is_ref i vs (λ j v e. (has_nothing j v e).refs i) in record {
        unreferred = omega (arith, l.counted, no_life, refs);
        even = is_even;
        free = dite (ℕ_discrete facts.tag 0) (λ e. inl e)
            (λ taken. dite (dec_le facts.version 4294967292) (λ low. let tagged = l.tagged in absurd (omega (arith, no_life, live-yes facts.tag facts.version (count is_busy facts) (omega arith) is_even low (none_busy low)))) (λ high. inr (omega arith)));
      }
