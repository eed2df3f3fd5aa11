-- The orders of the links are those that the place words and the links at home show, where no two accepted messages have one place word.
use Rattle.std.proofs.Common.{◌≡◌, ◌≢◌, ℕ, zero, suc, ◌+◌, ◌*◌, ◌<◌, Bool, List, [], ◌∷◌, ◌++◌, map, flat_map, eqb, get_or, append-nil, inl, inr, sym, ap, ◌∙◌, subst, arith}
use Rattle.std.proofs.lemmas.List.{length-map}
use Rattle.std.specs.Prelude.{slice_index}
use mathlib.Core.Option.{Option, some, none, some-injective}
use lib.ListN.{get_elem?}
use Rattle.sock_words.specs.declared.plain.Plan.{Plan}
use Rattle.sock_model.specs.declared.chain.Entry.{Entry}
use Rattle.sock_model.specs.declared.home.Home.{Home}
use Rattle.sock_model.specs.declared.home.Home.TheVariants.{Link}
use Rattle.sock_model.specs.declared.view.View.{View}
use Rattle.sock_model.specs.ChainMemory.{Memory}
use Rattle.sock_model.specs.ChainTokens.{Tokens}
use Rattle.sock_model.specs.Chains.{Chains}
use Rattle.sock_model.specs.SocketTableLayout.{place_index}
use Rattle.sock_model.specs.Entries.{on}
use Rattle.sock_model.specs.Deliveries.{no_place, one_place}
use Rattle.sock_model.specs.ChainLawReads.{as_link, took_of, shown, link_home}
use Rattle.sock_model.specs.LawfulSockets.{Lawful}
use Rattle.program_walks.specs.chain_steps.proofs.TicketLists.{Distinct, distinct_filter, at_length}
use Rattle.program_walks.specs.chain_steps.proofs.UntouchedByChainSteps.{in_log}
use Rattle.program_walks.specs.chain_steps.proofs.Settles.{shown_as}
use Rattle.seat_programs.specs.Cores.{Core, link_place, lies_at}
use Rattle.seat_programs.specs.ScheduledRuns.{from_to}
use Rattle.seat_programs.specs.ScriptSetupToEnding.{taken_by, took_at_home}
use Rattle.seat_programs.specs.ExplainedCalls.{Accepted, label, IsTaken, AreOrders}
use Rattle.program_walks.specs.program_steps.specs.SoundSeats.{state}
use Rattle.program_walks.specs.sock_runs.proofs.HandTicks.{AtHome}
use Rattle.outcome_stories.proofs.Accepted as accepted
use Rattle.outcome_stories.proofs.Delivered.{accepted_of, accepted_at, accepted_there, orders_of, AreQuiet, places_all}

-- ## What lies at home

pub get_range : {A : Type 0} (f : ℕ → A) (d : A) (a n k : ℕ) → k < n → get_or (map f (from_to a n)) k d ≡ f (a + k)
get_range f d a zero k l = absurd (omega arith)
get_range f d a (suc n) zero l = ap f (omega arith)
get_range f d a (suc n) (suc k) l = get_range f d (a + 1) n k (omega arith) ∙ ap f (omega arith)

module _ (p : Plan) (homes : List (Option Home)) (k : ℕ) (took : List ℕ) (next : ℕ) (done : Bool) (at : get_elem? homes (link_place p k) ≡ some (some (Link k took next done))) where
  home_there : link_home (λ home. home) p homes k ≡ some (took, next)
  home_there = ap (λ o. took_of (as_link (shown (λ home. home) o))) at

  lies_there : flat_map taken_by (lies_at homes (link_place p k)) ≡ took ++ []
  lies_there = ap (λ o. flat_map taken_by (elim o as (λ o. List Home) [ none ↦ [] | some x ↦ elim x as (λ o. List Home) [ none ↦ [] | some y ↦ y ∷ [] ] ])) at

  took_there : k < p.links → get_or (took_at_home p homes) k [] ≡ took
  took_there l = let f : ℕ → List ℕ = λ j. flat_map taken_by (lies_at homes (link_place p j)) in get_range f [] 0 p.links k l ∙ (ap f (omega arith) ∙ (lies_there ∙ append-nil took))

-- ## How many there are

module _ {links requests : ℕ} {m : Memory} {t : Tokens} {log : List Entry} {freed places : ℕ → ℕ} (s : Chains links requests m t log freed places) where
  -- two entries of which such a number is the same are one
  one_place_each : (f : Entry → ℕ) → Distinct f log → (k l i j : ℕ) (d e : Entry) → get_elem? (on k log) i ≡ some d → get_elem? (on l log) j ≡ some e → f d ≡ f e → (k ≡ l) × (i ≡ j)
  one_place_each f apart k l i j d e gd ge same =
      let a = in_log s k i d gd in let b = in_log s l j e ge in let q : a.0 ≡ b.0 = apart a.0 b.0 d e a.1 b.1 same in
      let de : d ≡ e = some-injective d e (sym a.1 ∙ (ap (λ x. get_elem? log x) q ∙ b.1)) in
      let kl : k ≡ l = sym a.2 ∙ (ap (λ (x : Entry). x.link) de ∙ b.2) in
      (kl, distinct_filter f (λ (e : Entry). eqb e.link l) log apart i j d e (subst (λ x. get_elem? (on x log) i ≡ some d) kl gd) ge same)

-- an entry's place word has the number of its operation and its attempt, and it has a byte at least
abbrev pub IsLabelled : Plan → Entry → Type 0
IsLabelled p e = (e.heading.label.place ≡ 8 * e.heading.label.operation + e.heading.label.attempt) × (e.heading.label.place < 8 * p.operations) × (e.bytes ≢ [])

module _ (p : Plan) (c : Core) (views : List View) (o : Lawful (λ (home : Home). home) p (state c views)) (quiet : AreQuiet views) (at_home : (k : ℕ) → k < p.links → AtHome p c.homes k)
    (labelled : (i : ℕ) (e : Entry) → get_elem? o.log i ≡ some e → IsLabelled p e) (apart : Distinct (λ (e : Entry). e.heading.label.place) o.log) where
  label_of : (e : Entry) (a : Accepted) → accepted_of e ≡ a → e.heading.label.place ≡ 8 * e.heading.label.operation + e.heading.label.attempt → e.heading.label.place ≡ label a
  label_of e a is place = place ∙ ap label is

  places_small : (i : ℕ) (e : Entry) → get_elem? o.log i ≡ some e → e.heading.label.place < 8 * p.operations
  places_small i e g = (labelled i e g).1

  -- where no seat writes a link, the orders are those that words and links show
  pub delivered : AreOrders p c (orders_of p c views o)
  delivered = record {
    written = λ k i a kl at. let e = accepted_at (on k o.log) i a at in let l = in_log o.chains k i e.0 e.1 in
        ap (λ q. slice_index c.words (place_index p q)) (sym (label_of e.0 a e.2 (labelled l.0 e.0 l.1).0)) ∙
        shown_as o.chains o.delivered apart places_small k i e.0 kl (omega (arith, places_all p c views o quiet k kl, at_length (on k o.log) i e.0 e.1)) e.1;
    alone = λ l ll. elim (o.delivered.shown l ll) [
      | no_place z h ↦ inl z
      | one_place k i e kl il g is z ↦ (let x = in_log o.chains k i e g in inr (k, i, accepted_of e, kl, accepted_there (on k o.log) i e g, sym is ∙ (labelled x.0 e x.1).0))
    ];
    within = λ k kl. omega (arith, o.delivered.kept_fits k kl, places_all p c views o quiet k kl, length-map (on k o.log) accepted_of);
    taken = λ k kl. let h = at_home k kl in subst (IsTaken (orders_of p c views o k)) (sym (took_there p c.homes k h.took h.next h.done h.is kl))
        (accepted.taken_of (λ e. e.heading.label.operation) (λ e. e.heading.label.attempt) (on k o.log) (o.kept k) h.took (λ i e g. let x = in_log o.chains k i e g in (labelled x.0 e x.1).2) (o.delivered.at_home k h.took h.next kl (home_there p c.homes k h.took h.next h.done h.is)).0);
    apart = λ k l i j a b kl ll ak bl same. let d = accepted_at (on k o.log) i a ak in let e = accepted_at (on l o.log) j b bl in
        let x = in_log o.chains k i d.0 d.1 in let y = in_log o.chains l j e.0 e.1 in
        one_place_each o.chains (λ (x : Entry). x.heading.label.place) apart k l i j d.0 e.0 d.1 e.1 (label_of d.0 a d.2 (labelled x.0 d.0 x.1).0 ∙ (same ∙ sym (label_of e.0 b e.2 (labelled y.0 e.0 y.1).0)));
  }
