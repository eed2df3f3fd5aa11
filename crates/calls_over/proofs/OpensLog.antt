-- The messages that the seats' lists have are those of the log, and each stands on its link.
use Rattle.std.proofs.Common.{◌≡◌, ℕ, zero, suc, ◌<◌, inl, inr, Bool, true, false, cond, eqb, eq-eqb, List, [], ◌∷◌, map, refl, sym, ap, subst, arith}
use mathlib.Core.Option.{some, some-injective, some-ne-none}
use lib.ListN.{get_elem?}
use Rattle.chain_steps.proofs.TicketLists.{at_length, at_some, filter_in}
use Rattle.sock_words.specs.declared.plain.Plan.{Plan}
use Rattle.sock_model.specs.declared.chain.Entry.{Entry}
use Rattle.sock_model.specs.declared.view.View.{View}
use Rattle.sock_model.specs.Authors.{pick}
use Rattle.sock_model.specs.Entries.{on}
use Rattle.seat_programs.specs.Cores.{Core}
use Rattle.seat_programs.specs.ExplainedCalls.{StandsAt}
use Rattle.served_fits.specs.Below.programs_allowed.specs.program_steps.specs.SoundSeats.{Sound}
use Rattle.served_fits.specs.Below.outcome_stories.specs.OperationStories.{In}
use Rattle.served_fits.specs.Below.outcome_stories.proofs.Delivered.{accepted_of, accepted_there, orders_of}
use Rattle.calls_over.proofs.OpensHeld.{IsHeld}

-- ## Lists

pub in_at : {A : Type 0} (xs : List A) (i : ℕ) (x : A) → get_elem? xs i ≡ some x → In x xs
in_at [] i x e = absurd (some-ne-none x (sym e))
in_at (y ∷ ys) zero x e = inl (sym (some-injective y x e))
in_at (y ∷ ys) (suc i) x e = inr (in_at ys i x e)

in_map : {B : Type 0} (f : ℕ → B) (names : List ℕ) (i a : ℕ) → get_elem? names i ≡ some a → In (f a) (map f names)
in_map f [] i a e = absurd (some-ne-none a (sym e))
in_map f (b ∷ names) zero a e = inl (ap f (sym (some-injective b a e)))
in_map f (b ∷ names) (suc i) a e = inr (in_map f names i a e)

of_map : {B : Type 0} (f : ℕ → B) (names : List ℕ) (y : B) → In y (map f names) → (a : ℕ) × (y ≡ f a)
of_map f [] y there = absurd there
of_map f (b ∷ names) y (inl e) = (b, e)
of_map f (b ∷ names) y (inr there) = of_map f names y there

-- what an author made is in the log, and each entry of the log is made by its author
pick_in : (a : ℕ) (by : List ℕ) (log : List Entry) (q : ℕ) (e : Entry) → get_elem? by q ≡ some a → get_elem? log q ≡ some e → In e (pick a by log)
pick_in a [] log q e g h = absurd (some-ne-none a (sym g))
pick_in a (b ∷ bs) [] q e g h = absurd (some-ne-none e (sym h))
pick_in a (b ∷ bs) (x ∷ xs) zero e g h = subst (λ t. In e (cond t (x ∷ pick a bs xs) (pick a bs xs))) (sym (eq-eqb b a (some-injective b a g))) (inl (sym (some-injective x e h)))
pick_in a (b ∷ bs) (x ∷ xs) (suc q) e g h = skip (eqb b a) (pick_in a bs xs q e g h)
  where
    skip : (t : Bool) → In e (pick a bs xs) → In e (cond t (x ∷ pick a bs xs) (pick a bs xs))
    skip true there = inr there
    skip false there = there

pick_of : (a : ℕ) (by : List ℕ) (log : List Entry) (e : Entry) → In e (pick a by log) → (q : ℕ) × (get_elem? log q ≡ some e)
pick_of a [] log e there = absurd there
pick_of a (b ∷ bs) [] e there = absurd there
pick_of a (b ∷ bs) (x ∷ xs) e there = by (eqb b a) (λ m. let r = pick_of a bs xs e m in (suc r.0, r.1)) there
  where
    by : (t : Bool) → (In e (pick a bs xs) → (q : ℕ) × (get_elem? (x ∷ xs) q ≡ some e)) → In e (cond t (x ∷ pick a bs xs) (pick a bs xs)) → (q : ℕ) × (get_elem? (x ∷ xs) q ≡ some e)
    by true later (inl same) = (0, ap (λ z. some z) (sym same))
    by true later (inr m) = later m
    by false later m = later m

-- ## The log

module _ (p : Plan) (c : Core) (vs : List View) (sound : Sound p c vs) where
  abbrev pub log : List Entry
  log = let o = sound.lawful in o.log

  pub held_logged : (e : Entry) → IsHeld e vs → (q : ℕ) × (get_elem? log q ≡ some e)
  held_logged e (i, v, at, (l, in_l, in_e)) = let o = sound.lawful in let m = of_map (λ a. pick a o.authors.by o.log) (o.authors.names i) l (subst (In l) (o.authors.lists_are i v at) in_l) in
      pick_of m.0 o.authors.by o.log e (subst (In e) m.1 in_e)

  pub logged_held : (q : ℕ) (e : Entry) → get_elem? log q ≡ some e → IsHeld e vs
  logged_held q e at = let o = sound.lawful in
      let b = at_some o.authors.by q (let long = o.authors.long in let low = at_length o.log q e at in omega (arith, long, low)) in let n = o.authors.named q b.0 b.1 in let v = at_some vs n.0 n.2 in
      (n.0, v.0, v.1, (pick b.0 o.authors.by o.log, subst (In (pick b.0 o.authors.by o.log)) (sym (o.authors.lists_are n.0 v.0 v.1)) (in_map (λ a. pick a o.authors.by o.log) (o.authors.names n.0) n.1 b.0 n.3), pick_in b.0 o.authors.by o.log q e b.1 at))

  -- it stands on its link
  pub logged_on : (q : ℕ) (e : Entry) → get_elem? log q ≡ some e → (m : ℕ) × (get_elem? (on e.link log) m ≡ some e)
  logged_on q e at = filter_in (λ (x : Entry). eqb x.link e.link) log q e at (eq-eqb e.link e.link refl)

  pub logged_stands : (q : ℕ) (e : Entry) → get_elem? log q ≡ some e → (e.link < p.links) × (m : ℕ) × StandsAt (orders_of p c vs sound.lawful) e.link m (accepted_of e)
  logged_stands q e at = let o = sound.lawful in let m = logged_on q e at in ((o.chains.sized q e at).0, m.0, accepted_there (on e.link log) m.0 e m.1)
