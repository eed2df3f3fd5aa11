-- What a link took that no seat writes and whose life wasn't failed: all messages that it accepted, whole.
use Rattle.std.proofs.Common.{◌≡◌, ℕ, ◌+◌, ◌-◌, ◌<◌, eqb, Bool, List, [], ◌∷◌, ◌++◌, length, flat_map, filter, refl, ap, ◌∙◌, arith}
use mathlib.Core.Logic.{dite}
use native.Mathlib.Decide.{ℕ_discrete}
use mathlib.Core.Option.{some}
use lib.ListN.{get_elem?}
use Rattle.sock_words.specs.declared.plain.Plan.{Plan}
use Rattle.sock_model.specs.declared.chain.Entry.{Entry}
use Rattle.sock_model.specs.declared.chain.Right.{Right}
use Rattle.sock_model.specs.declared.home.Home.{Home}
use Rattle.sock_model.specs.declared.home.Home.TheVariants.{Link}
use Rattle.sock_model.specs.declared.view.View.{View}
use Rattle.sock_model.specs.Deliveries.{whole}
use Rattle.sock_model.specs.Entries.{on}
use Rattle.sock_model.specs.LinksInSlots.{Given, Failed}
use Rattle.sock_model.specs.ChainLawReads.{took_of, link_at, rights_on, tokens}
use Rattle.sock_model.specs.References.{slot_facts}
use Rattle.sock_model.specs.SocketSlotLaw.{SlotLaw, count, live}
use Rattle.sock_model.specs.MarkWeights.{is_failer, is_freer}
use Rattle.slot_steps.proofs.RuleNumbers.{life_is, life-in}
use Rattle.chain_steps.proofs.Settles.{all_placed}
use Rattle.sock_steps.proofs.HandSteps.{link_value}
use Rattle.sock_steps.proofs.Maps.{took_some, gather_nil}
use Rattle.seat_programs.specs.Cores.{Core}
use Rattle.served_fits.specs.Below.programs_allowed.specs.program_steps.specs.SoundSeats.{state, Sound}
use Rattle.served_fits.specs.Below.programs_allowed.specs.program_steps.proofs.SlotWordBounds.{law}
use Rattle.calls_over.proofs.OpensLog.{log}

whole_is : (es : List Entry) → whole es (length es) ≡ flat_map (λ (e : Entry). e.bytes) es
whole_is [] = refl
whole_is (e ∷ es) = ap (λ l. e.bytes ++ l) (whole_is es)

module _ (p : Plan) (c : Core) (vs : List View) (sound : Sound p c vs) (unwritten : (i : ℕ) (v : View) → get_elem? vs i ≡ some v → v.rights ≡ []) where
  no_rights : (k : ℕ) → (tokens vs).rights k ≡ []
  no_rights k = gather_nil (rights_on k) vs (λ i v at. ap (λ l. filter (λ (x : Right). eqb x.link k) l) (unwritten i v at))

  module _ (k : ℕ) (low : k < p.links) (unfailed : Failed p (state c vs) k → ⊥) (j h : ℕ) (given : Given p (state c vs) j h k) where
    facts_law : SlotLaw p.first (live (slot_facts (state c vs) j)) (slot_facts (state c vs) j)
    facts_law = law p (state c vs) sound.lawful.references j given.inside

    none_failed : count (is_failer h) (slot_facts (state c vs) j) ≡ 0
    none_failed = dite (ℕ_discrete (count (is_failer h) (slot_facts (state c vs) j)) 0) (λ e. e) (λ some_. absurd (unfailed (record { slot = j; version = h; life = given; failed = omega (arith, some_) })))

    -- so its life isn't ended
    unended : count (is_freer h) (slot_facts (state c vs) j) ≡ 0
    unended = dite (ℕ_discrete (count (is_freer h) (slot_facts (state c vs) j)) 0) (λ e. e) (λ some_. absurd (let l = facts_law in let ended = l.ended h in
        let x = life_is p.first h ((slot_facts (state c vs) j).version - 1) (omega (arith, ended, some_)) in
        let y = life-in p.first h (slot_facts (state c vs) j).version x.0 (let b = x.1 in omega (arith, b)) x.2 in let failed = l.failed h in let none_ = none_failed in let z : ⊥ = omega (arith, failed, y, none_) in z))

    -- it is at home
    pub record IsHome : Type 0 where
      pub took : List ℕ
      pub next : ℕ
      pub done : Bool
      pub is : get_elem? c.homes (p.requests + k) ≡ some (some (Link k took next done))
      pub took_is : took ≡ flat_map (λ (e : Entry). e.bytes) (on k (log p c vs sound))

    pub home : IsHome
    home = let o = sound.lawful in let homes = o.homes in let at = homes.idle k j low (o.in_slots.alone j h k (record { life = given; unended = unended })) (no_rights k) in
        let x = took_some (link_at (λ (home : Home). home) p c.homes k) (at.0, at.1) at.2 in let own = homes.own k x.0 low x.1 in
        let y = link_value (λ (home : Home). home) (get_elem? c.homes (p.requests + k)) k own.took own.next own.done (x.1 ∙ ap (λ (z : Home). some z) own.is) in
        let is = y.1 ∙ ap (λ (z : Home). some (some z)) y.2 in
        let placed = all_placed o.chains o.delivered k low (no_rights k) in let all = placed.1 ∙ placed.0 in
        let fits = o.delivered.kept_fits k low in
        let kept : o.kept k ≡ o.places k = dite (ℕ_discrete (o.kept k) (o.places k)) (λ e. e) (λ far. absurd (unfailed (o.delivered.failed k low (omega (arith, fits, far))))) in
        record {
          took = own.took;
          next = own.next;
          done = own.done;
          is = is;
          took_is = (o.delivered.at_home k own.took own.next low (ap took_of (x.1 ∙ ap (λ (z : Home). some z) own.is))).1 kept ∙ (ap (whole (on k o.log)) (kept ∙ all) ∙ whole_is (on k o.log));
        }
