-- Each link is at home once all seats have ended, with what it took.
use Rattle.std.proofs.Common.{◌≡◌, ℕ, ◌+◌, ◌*◌, ◌<◌, ◌⊎◌, inl, inr, Bool, true, false, ⊎_elim, eqb, List, [], refl, sym, ap, ◌∙◌, arith}
use Rattle.std.specs.Prelude.{slice_index, nat_le}
use mathlib.Core.Logic.{dite}
use mathlib.Core.Option.{Option, some, none, some-injective, some-ne-none}
use native.Mathlib.Decide.{ℕ_discrete}
use lib.ListN.{get_elem?}
use Rattle.std.specs.List.{filter}
use Rattle.atomic_table.specs.Table.{State}
use Rattle.sock_words.specs.declared.plain.Plan.{Plan}
use Rattle.sock_model.specs.declared.home.Home.{Home}
use Rattle.sock_model.specs.declared.home.Home.TheVariants.{Empty, Link, Message}
use Rattle.sock_model.specs.declared.chain.Entry.{Entry}
use Rattle.sock_model.specs.declared.chain.Right.{Right}
use Rattle.sock_model.specs.declared.view.View.{View}
use Rattle.sock_model.specs.MarkWeights.{is_linked, is_failer, is_freer}
use Rattle.sock_model.specs.SlotRows.{marks_of}
use Rattle.sock_model.specs.ChainLawReads.{took_of, link_at, rights_on, hands_of, carries, tokens}
use Rattle.sock_model.specs.ViewsOfSplitSeats.{IsBare}
use Rattle.sock_model.specs.SocketTableLayout.{place_index}
use Rattle.sock_model.specs.LinksInSlots.{Failed}
use Rattle.sock_model.specs.Deliveries.{no_place, one_place}
use Rattle.chain_core.specs.chain_steps.proofs.Settles.{all_placed}
use Rattle.chain_core.specs.sock_steps.proofs.HandSteps.{link_value}
use Rattle.chain_core.specs.sock_steps.proofs.Reseat.{closing_law}
use Rattle.sock_rule.specs.OnTable.{OnTable}
use Rattle.sock_rule.specs.LinkFaultNotes.{faults_link, faults_of, ends_of, is_over}
use Rattle.sock_rule.specs.ClosingWordsAndNotes.{LifeFailed, LinkTook, PlaceOf}
use Rattle.sock_rule.proofs.LinkFaultNotes.{close_faults, close_over}
use Rattle.sock_rule.proofs.LastSeatOfSockets.{others, counts, none_flat, only_one}
use Rattle.sock_rule.proofs.Reached.{label_of}
use Rattle.sock_words.specs.Totals.{total}

-- a home that took something is a link's
took_there : (o : Option Home) (t : List ℕ) (n : ℕ) → took_of o ≡ some (t, n) → (k : ℕ) × (d : Bool) × (o ≡ some (Link k t n d))
took_there none t n e = absurd (some-ne-none (t, n) (sym e))
took_there (some Empty) t n e = absurd (some-ne-none (t, n) (sym e))
took_there (some (Message l b)) t n e = absurd (some-ne-none (t, n) (sym e))
took_there (some (Link k a b d)) t n e = let q : (a, b) ≡ (t, n) = some-injective (a, b) (t, n) e in (k, d, (λ i. some (Link k (q i).0 (q i).1 d)))

over_done : (k : ℕ) (took : List ℕ) (next : ℕ) (done : Bool) → is_over (Link k took next done) ≡ 1 → done ≡ true
over_done k took next true e = refl
over_done k took next false e = absurd (omega arith)

-- the home of link k, with what its link took
pub record AtHome {S : Type 0} (shows : S → Home) (rose : S → ℕ) (p : Plan) (s : State S View) (v : View) (log : List Entry) (k : ℕ) : Type 0 where
  pub value : S
  pub took : List ℕ
  pub next : ℕ
  pub done : Bool
  pub there : get_elem? s.homes (p.requests + k) ≡ some (some value)
  pub shown_is : shows value ≡ Link k took next done
  pub took_is : LinkTook p v log s.words k took
  -- it has faults where a seat noted one
  pub faulted : 0 < faults_of k v → 0 < rose value
  -- it is finished where a seat noted that it went home so
  pub finished : 0 < ends_of p k v → done ≡ true
  -- it isn't finished while a life that was given it is to end
  pub unfinished : (i h : ℕ) → i < p.slots → 0 < marks_of (is_linked h k) i v → marks_of (is_freer h) i v ≡ 0 → done ≡ false

module _ {S : Type 0} {shows : S → Home} {rose : S → ℕ} {p : Plan} (s : State S View) (t : OnTable shows rose p s) (id : ℕ) (v : View) (here : get_elem? s.views id ≡ some v) (all : v.share ≡ p.seats) (bare : IsBare v) where
  same_view : (j : ℕ) (u : View) → get_elem? s.views j ≡ some u → j ≡ id → v ≡ u
  same_view j u e same = some-injective v u (sym here ∙ (ap (get_elem? s.views) (sym same) ∙ e))

  no_rights : (k : ℕ) → (tokens s.views).rights k ≡ []
  no_rights k = none_flat (rights_on k) s.views (λ j u e. dite (ℕ_discrete j id)
      (λ same. ap (rights_on k) (sym (same_view j u e same)) ∙ ap (filter (λ (x : Right). eqb x.link k)) bare.rights)
      (λ other. ap (filter (λ (x : Right). eqb x.link k)) (others s t id v here all j u e other).rights))

  no_hands : (k : ℕ) → total (hands_of k) s.views ≡ 0
  no_hands k = only_one (hands_of k) s.views id v here (λ j u e other. ap (total (carries k)) (others s t id v here all j u e other).hands) ∙ ap (total (carries k)) bare.hands

  life_failed : (k : ℕ) → Failed p s k → LifeFailed p v k
  life_failed k f = record {
    slot = f.slot;
    version = f.version;
    inside = f.life.inside;
    given = omega (arith, counts s t id v here all (is_linked f.version k) f.slot, f.life.given);
    failed = omega (arith, counts s t id v here all (is_failer f.version) f.slot, f.failed);
  }

  link_there : (k : ℕ) → k < p.links → (x : Home) × (link_at shows p s.homes k ≡ some x)
  link_there k kl = by_slot (t.rule.lawful.slot k) refl
    where
      by_slot : (o : Option ℕ) → t.rule.lawful.slot k ≡ o → (x : Home) × (link_at shows p s.homes k ≡ some x)
      by_slot none e = ⊎_elim (λ y. y) (λ h. absurd (let z = no_hands k in omega arith)) (t.rule.lawful.homes.outside k kl e)
      by_slot (some j) e = let i = t.rule.lawful.homes.idle k j kl e (no_rights k) in let h = took_there (link_at shows p s.homes k) i.0 i.1 i.2 in (Link h.0 i.0 i.1 h.1, h.2)

  pub links_back : (k : ℕ) → k < p.links → AtHome shows rose p s v t.rule.lawful.log k
  links_back k kl = let x = link_there k kl in let own = t.rule.lawful.homes.own k x.0 kl x.1 in
      let at : link_at shows p s.homes k ≡ some (Link k own.took own.next own.done) = x.1 ∙ ap some own.is in
      let y = link_value shows (get_elem? s.homes (p.requests + k)) k own.took own.next own.done at in record {
        value = y.0;
        took = own.took;
        next = own.next;
        done = own.done;
        there = y.1;
        shown_is = y.2;
        faulted = close_faults k v y.0 (t.faults k kl) y.1 (only_one (faults_of k) s.views id v here (λ j u e other. ap (total (faults_link k)) (others s t id v here all j u e other).marks));
        finished = λ some_. over_done k own.took own.next own.done (sym (ap is_over y.2) ∙ close_over k v y.0 (t.faults k kl) y.1 (only_one (ends_of p k) s.views id v here (λ j u e other. ap (total (faults_link (p.links + k))) (others s t id v here all j u e other).marks)) some_);
        unfinished = λ i h il given unended. own.«open» i (t.rule.lawful.in_slots.alone i h k record { life = record { inside = il; given = omega (arith, counts s t id v here all (is_linked h k) i) }; unended = counts s t id v here all (is_freer h) i ∙ unended });
        took_is = record {
          kept = t.rule.lawful.kept k;
          fifo = λ apart. closing_law shows p s t.rule.lawful apart (λ i e g. label_of t.rule.lawful t.labelled i e g) k kl (no_rights k) own.took own.next (ap took_of at);
          failed = λ few. let a = all_placed t.rule.lawful.chains t.rule.lawful.delivered k kl (no_rights k) in life_failed k (t.rule.lawful.delivered.failed k kl (omega arith));
        };
      }

  -- the word of a place index is 0, or the place of a message that has it
  pub place_of : (l : ℕ) → l < 8 * p.operations → (slice_index s.words (place_index p l) ≡ 0) ⊎ PlaceOf p t.rule.lawful.log s.words l
  place_of l ll = elim (t.rule.lawful.delivered.shown l ll) [
    | no_place z h ↦ inl z
    | one_place k i e kl il g own z ↦ inr record { link = k; position = i; entry = e; dropped = nat_le (t.rule.lawful.kept k) i; inside = kl; there = g; own = own; word = z }
  ]
