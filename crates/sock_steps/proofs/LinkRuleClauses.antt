-- What the rule says of links in plain words: a link is in a slot exactly from the birth of its life to its end, and it is failed exactly where its life isn't live.
use Rattle.std.proofs.Common.{◌≡◌, ℕ, ◌+◌, ◌-◌, ◌%◌, ◌<◌, ◌≤◌, ◌⊎◌, sym, ap, ◌∙◌, subst, inl, inr, ⊎_elim, arith}
use mathlib.Core.Logic.{dite}
use mathlib.Core.Option.{Option, some, none, some-ne-none}
use native.Mathlib.Decide.{ℕ_discrete}
use lib.ListN.{get_elem?}
use Rattle.atomic_table.specs.Table.{State}
use Rattle.sock_model.specs.declared.home.Home.{Home}
use Rattle.sock_model.specs.sock_words.specs.declared.plain.Plan.{Plan}
use Rattle.sock_model.specs.declared.view.View.{View}
use Rattle.sock_model.specs.declared.chain.Right.{Right}
use Rattle.sock_model.specs.MarkWeights.{is_busy, is_freer, is_failer}
use Rattle.sock_model.specs.SocketSlotLaw.{live, count}
use Rattle.sock_model.specs.References.{slot_facts}
use Rattle.sock_model.specs.LinksInSlots.{HoldsLink, Given, Lives, Failed}
use Rattle.sock_model.specs.LawfulSockets.{Lawful}
use Rattle.slot_steps.proofs.RuleNumbers.{life-in, life-high, life_is, live_le, live_is}
use Rattle.sock_steps.proofs.LifeLinkSlotPlaces.{last_life, link_there, given_once, holder_lives}

module _ {S : Type 0} (shows : S → Home) (p : Plan) (s : State S View) (o : Lawful shows p s) where
  lives_le : (j : ℕ) → live (slot_facts s j) ≤ 1
  lives_le j = live_le (slot_facts s j).tag (slot_facts s j).version (count is_busy (slot_facts s j))

  lives_even : (j : ℕ) → 0 < live (slot_facts s j) → (slot_facts s j).version % 2 ≡ 0
  lives_even j h = (live_is (slot_facts s j).tag (slot_facts s j).version (count is_busy (slot_facts s j)) h).1

  -- the version of the life that a link has in a slot
  pub its_version : (j h k : ℕ) → Lives p s j h k → ((live (slot_facts s j) ≡ 1) × (h ≡ (slot_facts s j).version)) ⊎ ((live (slot_facts s j) ≡ 0) × (h + 1 ≡ (slot_facts s j).version) × ((slot_facts s j).version % 2 ≡ 1))
  its_version j h k g = let law = o.references.slots j g.life.inside in let a = last_life p s o.references j h k g in let low = law.link_low h k g.life.given in let even = law.link_even h k g.life.given in let le = lives_le j in
      dite (ℕ_discrete (live (slot_facts s j)) 0) (λ z. inr (z, omega arith, omega arith)) (λ n. let e = lives_even j (omega arith) in inl (omega arith, omega arith))

  -- a link that is in a slot is its link word, and the slot is live or failed
  pub in_slot : (k j : ℕ) → o.slot k ≡ some j → ((slot_facts s j).link ≡ k) × ((live (slot_facts s j) ≡ 1) ⊎ ((slot_facts s j).version % 2 ≡ 1))
  in_slot k j e = let a = o.in_slots.lives k j e in (link_there p s o.references j a.0 k a.1, ⊎_elim (λ y. inl y.0) (λ y. inr y.2) (its_version j a.0 k a.1))

  -- and the link word of a slot that is live or failed is in it
  pub slot_has : (j : ℕ) → j < p.slots → (live (slot_facts s j) ≡ 1) ⊎ ((slot_facts s j).version % 2 ≡ 1) → o.slot (slot_facts s j).link ≡ some j
  slot_has j jl how = let law = o.references.slots j jl in let v : ℕ = (slot_facts s j).version in let k : ℕ = (slot_facts s j).link in
      ⊎_elim (λ one. o.in_slots.alone j (slot_facts s j).version (slot_facts s j).link record { life = record { inside = jl; given = law.link_live (omega arith) }; unended = omega (arith, law.ended (slot_facts s j).version, life-high p.first (slot_facts s j).version ((slot_facts s j).version - 1) (omega arith)) })
      (λ odd. o.in_slots.alone j ((slot_facts s j).version - 1) (slot_facts s j).link record { life = record { inside = jl; given = law.link_odd odd }; unended = omega (arith, law.ended ((slot_facts s j).version - 1), life-high p.first ((slot_facts s j).version - 1) ((slot_facts s j).version - 1) (omega arith)) }) how

  -- in its slot a link is failed exactly where the slot isn't live
  pub failed_dead : (k j : ℕ) → o.slot k ≡ some j → Failed p s k → live (slot_facts s j) ≡ 0
  failed_dead k j e f = let a = o.in_slots.lives k j e in let q = given_once p s o.references j f.slot a.0 f.version k a.1.life f.life in let law = o.references.slots j a.1.life.inside in
      let by : 0 < count (is_failer a.0) (slot_facts s j) = subst (λ y. 0 < count (is_failer y) (slot_facts s j)) (sym q.1) (subst (λ y. 0 < count (is_failer f.version) (slot_facts s y)) (sym q.0) f.failed) in
      let t = life_is p.first a.0 (slot_facts s j).version (omega (arith, law.failed a.0)) in let t₁ = t.1 in ⊎_elim (λ y. let y₁ = y.1 in absurd (omega arith)) (λ y. y.0) (its_version j a.0 k a.1)

  pub dead_failed : (k j : ℕ) → o.slot k ≡ some j → live (slot_facts s j) ≡ 0 → Failed p s k
  dead_failed k j e dead = let a = o.in_slots.lives k j e in let law = o.references.slots j a.1.life.inside in let first = law.link_begun a.0 k a.1.life.given in let even = law.link_even a.0 k a.1.life.given in
      ⊎_elim (λ y. let y₀ = y.0 in absurd (omega arith)) (λ y. let y₁ = y.1 in record { slot = j; version = a.0; life = a.1.life; failed = omega (arith, law.failed a.0, life-in p.first a.0 (slot_facts s j).version first (omega arith) even) }) (its_version j a.0 k a.1)

  -- a link whose life has ended is failed
  pub ended_failed : (j h k : ℕ) → Given p s j h k → o.slot k ≡ none → Failed p s k
  ended_failed j h k g none_ = let law = o.references.slots j g.inside in let even = law.link_even h k g.given in let first = law.link_begun h k g.given in
      dite (ℕ_discrete (count (is_freer h) (slot_facts s j)) 0) (λ z. absurd (some-ne-none j (sym (o.in_slots.alone j h k record { life = g; unended = z }) ∙ none_)))
      (λ n. let t = life_is p.first h ((slot_facts s j).version - 1) (omega (arith, law.ended h)) in let t₁ = t.1 in record { slot = j; version = h; life = g; failed = omega (arith, law.failed h, life-in p.first h (slot_facts s j).version first (omega arith) even) })

  -- no two slots have the same link, where both are live or failed
  pub links_differ : (i j : ℕ) → i < p.slots → j < p.slots → (live (slot_facts s i) ≡ 1) ⊎ ((slot_facts s i).version % 2 ≡ 1) → (live (slot_facts s j) ≡ 1) ⊎ ((slot_facts s j).version % 2 ≡ 1) → (slot_facts s i).link ≡ (slot_facts s j).link → i ≡ j
  links_differ i j il jl a b same = mathlib.Core.Option.some-injective i j (sym (slot_has i il a) ∙ (ap o.slot same ∙ slot_has j jl b))

  -- whoever has the right to write a link holds the life in its slot
  pub right_holds : (id i : ℕ) (v : View) (r : Right) → get_elem? s.views id ≡ some v → get_elem? v.rights i ≡ some r → (j : ℕ) × (h : ℕ) × (o.slot r.link ≡ some j) × HoldsLink p v j h r.link
  right_holds id i v r at has = let x = o.held id v at i r has in (x.1, x.2, o.in_slots.alone x.1 x.2 r.link (holder_lives p s o.references id v x.1 x.2 r.link at x.3), x.3)
