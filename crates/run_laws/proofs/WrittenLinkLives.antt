-- The life of a link that a seat writes: whether it was failed, by the word of its slot, and that no other seat writes the link.
use Rattle.std.proofs.Common.{◌≡◌, ◌≢◌, ℕ, zero, suc, ◌+◌, ◌%◌, ◌≤◌, List, [], ◌∷◌, length, set, refl, sym, ap, ◌∙◌, arith, eqb, eq-eqb, cond}
use Rattle.std.proofs.lemmas.List.{length-append}
use Rattle.std.specs.List.{filter, flat_map}
use mathlib.Core.Logic.{dite}
use mathlib.Core.Option.{Option, some, some-injective, some-ne-none}
use native.Mathlib.Decide.{ℕ_discrete}
use lib.ListN.{get_elem?}
use Rattle.atomic_table.specs.Table.{State}
use Rattle.sock_words.specs.declared.plain.Plan.{Plan}
use Rattle.sock_model.specs.declared.chain.Right.{Right}
use Rattle.sock_model.specs.declared.home.Home.{Home}
use Rattle.sock_model.specs.declared.marks.Mark.{Mark}
use Rattle.sock_model.specs.declared.view.View.{View}
use Rattle.sock_model.specs.MarkWeights.{is_busy, is_hold, is_linked, is_failer}
use Rattle.sock_model.specs.LawfulSockets.{Lawful}
use Rattle.sock_model.specs.LinksInSlots.{HoldsLink, Given, Failed}
use Rattle.sock_model.specs.References.{slot_facts}
use Rattle.sock_model.specs.SocketSlotLaw.{count, live}
use Rattle.sock_model.specs.SlotRows.{marks_of}
use Rattle.sock_model.specs.ChainLawReads.{rights_on}
use Rattle.slot_steps.proofs.RuleNumbers.{life-in, life_is, live_le, live_is}
use Rattle.slot_steps.proofs.SlotWeightSums.{total-set}
use Rattle.chain_steps.proofs.FewRightsAndClaims.{few_rights}
use Rattle.sock_steps.proofs.LifeLinkSlotPlaces.{own_count, holder_lives, given_once}
use Rattle.sock_steps.proofs.RightSteps.{right_in}
use Rattle.life_events.proofs.LifeLaws.{counted}

-- ## One seat writes a link

one_gathered : {A B : Type 0} (f : A → List B) (l : List A) (i : ℕ) (a : A) → get_elem? l i ≡ some a → length (f a) ≤ length (flat_map f l)
one_gathered f [] i a x = absurd (some-ne-none a (sym x))
one_gathered f (c ∷ cs) zero a x = let e = ap (λ z. length (f z)) (some-injective c a x) in omega (arith, e, length-append (f c) (flat_map f cs))
one_gathered f (c ∷ cs) (suc i) a x = omega (arith, length-append (f c) (flat_map f cs), one_gathered f cs i a x)

two_gathered : {A B : Type 0} (f : A → List B) (l : List A) (i j : ℕ) (a b : A) → i ≢ j → get_elem? l i ≡ some a → get_elem? l j ≡ some b → length (f a) + length (f b) ≤ length (flat_map f l)
two_gathered f [] i j a b ne x y = absurd (some-ne-none a (sym x))
two_gathered f (c ∷ cs) zero zero a b ne x y = absurd (ne refl)
two_gathered f (c ∷ cs) zero (suc j) a b ne x y = let e = ap (λ z. length (f z)) (some-injective c a x) in omega (arith, e, length-append (f c) (flat_map f cs), one_gathered f cs j b y)
two_gathered f (c ∷ cs) (suc i) zero a b ne x y = let e = ap (λ z. length (f z)) (some-injective c b y) in omega (arith, e, length-append (f c) (flat_map f cs), one_gathered f cs i a x)
two_gathered f (c ∷ cs) (suc i) (suc j) a b ne x y = omega (arith, length-append (f c) (flat_map f cs), two_gathered f cs i j a b (λ q. ne (ap suc q)) x y)

own_right : (v : View) (r : Right) (k : ℕ) → v.rights ≡ r ∷ [] → r.link ≡ k → length (rights_on k v) ≡ 1
own_right v r k one link = ap (λ rs. length (filter (λ (x : Right). eqb x.link k) rs)) one ∙ ap (λ b. length (cond b (r ∷ []) [])) (eq-eqb r.link k link)

module _ (p : Plan) (s : State Home View) (o : Lawful (λ (home : Home). home) p s) where
  -- two seats whose rights are to write one link are one seat
  pub one_writer : (i j : ℕ) (v u : View) (r q : Right) → get_elem? s.views i ≡ some v → get_elem? s.views j ≡ some u → v.rights ≡ r ∷ [] → u.rights ≡ q ∷ [] → r.link ≡ q.link → i ≡ j
  one_writer i j v u r q at there one other same = dite (ℕ_discrete i j) (λ e. e) (λ ne. let k : ℕ = r.link in
      let a = own_right v r k one refl in let b = own_right u q k other (sym same) in let inside = right_in o i 0 v r at (ap (λ (l : List Right). get_elem? l 0) one) in
      absurd (omega (arith, two_gathered (rights_on k) s.views i j v u ne at there, few_rights o.chains k inside, a, b)))

  -- ## Whether the life was failed

  module _ (i : ℕ) (v : View) (at : get_elem? s.views i ≡ some v) (j h k : ℕ) (holds : HoldsLink p v j h k) where
    abbrev version : ℕ
    version = (slot_facts s j).version

    given : Given p s j h k
    given = (holder_lives p s o.references i v j h k at holds).life

    held : (h + 1 ≡ version + live (slot_facts s j)) × (h % 2 ≡ 0)
    held = (o.references.slots j holds.inside).held h (let a = holds.held in omega (arith, own_count s i v at (is_hold h) j))

    lives_le : live (slot_facts s j) ≤ 1
    lives_le = live_le (slot_facts s j).tag version (count is_busy (slot_facts s j))

    -- not where its version is even
    pub live_unfailed : version % 2 ≡ 0 → Failed p s k → ⊥
    live_unfailed even f = let same = given_once p s o.references f.slot j f.version h k f.life given in
        let some_ = f.failed in let t = life_is p.first f.version (slot_facts s f.slot).version (let l = (o.references.slots f.slot f.life.inside).failed f.version in omega arith) in
        let low = t.1 in let there : (slot_facts s f.slot).version ≡ version = ap (λ z. (slot_facts s z).version) same.0 in let same₁ = same.1 in let h₀ = held.0 in let h₁ = held.1 in
        omega (arith, there, same₁, lives_le)

    -- but where it is odd
    pub odd_failed : version % 2 ≡ 1 → Failed p s k
    odd_failed odd = let h₀ = held.0 in let h₁ = held.1 in let l = o.references.slots j holds.inside in
        let dead : live (slot_facts s j) ≡ 0 = dite (ℕ_discrete (live (slot_facts s j)) 0) (λ z. z) (λ n. let t = live_is (slot_facts s j).tag version (count is_busy (slot_facts s j)) (omega arith) in let t₁ = t.1 in absurd (omega arith)) in
        let begun = l.link_begun h k given.given in record {
          slot = j;
          version = h;
          life = given;
          failed = omega (arith, l.failed h, life-in p.first h version begun (omega arith) h₁);
        }

    -- where it is even it is the life's
    pub even_is : version % 2 ≡ 0 → version ≡ h
    even_is even = let h₀ = held.0 in let h₁ = held.1 in omega (arith, lives_le)

    -- its link stands in the slot
    pub link_is : (slot_facts s j).link ≡ k
    link_is = let h₀ = held.0 in (o.references.slots j holds.inside).link_is h k given.given (omega arith)

-- ## What stays

module _ (s : State Home View) (ws : List ℕ) (hs : List (Option Home)) (i : ℕ) (v w : View) (at : get_elem? s.views i ≡ some v) where
  abbrev next : State Home View
  next = record { words = ws; homes = hs; views = set s.views i w }

  pub more_count : (f : Mark → ℕ) (j : ℕ) → marks_of f j v ≤ marks_of f j w → count f (slot_facts s j) ≤ count f (slot_facts next j)
  more_count f j more = omega (arith, counted s f j, counted next f j, total-set (marks_of f j) s.views i v w at)

  -- a life that was failed stays so, where its seat loses no such note
  pub failed_stays : (p : Plan) (k : ℕ) → ((j h : ℕ) → marks_of (is_failer h) j v ≤ marks_of (is_failer h) j w) → ((j h : ℕ) → marks_of (is_linked h k) j v ≤ marks_of (is_linked h k) j w) → Failed p s k → Failed p next k
  failed_stays p k fails links f = let a = f.failed in let b = f.life.given in record {
    slot = f.slot;
    version = f.version;
    life = record { inside = f.life.inside; given = omega (arith, more_count (is_linked f.version k) f.slot (links f.slot f.version)) };
    failed = omega (arith, more_count (is_failer f.version) f.slot (fails f.slot f.version));
  }
