-- What the whole rule says beside what is lawful, where one seat's view and some words change.
use Rattle.std.proofs.Common.{◌≡◌, ◌≢◌, ℕ, zero, suc, ◌+◌, ◌*◌, ◌<◌, ◌≤◌, List, [], ◌∷◌, ◌++◌, length, length-append, get_or, set, get_or-set_same, get_or-set_other, sym, ap, ◌∙◌, subst, inl, ⊎_elim, arith}
use mathlib.Core.Logic.{dite}
use mathlib.Core.Option.{Option, some, some-injective}
use native.Mathlib.Decide.{ℕ_discrete}
use lib.ListN.{get_elem?}
use Rattle.atomic_table.specs.Table.{State}
use Rattle.atomic_table.proofs.Lists.{at_set}
use Rattle.sock_model.specs.sock_words.specs.declared.plain.Plan.{Plan}
use Rattle.sock_model.specs.declared.chain.Entry.{Entry}
use Rattle.sock_model.specs.declared.home.Home.{Home}
use Rattle.sock_model.specs.declared.view.View.{View}
use Rattle.sock_model.specs.SocketTableLayout.{all_words}
use Rattle.sock_model.specs.ChainRows.{more}
use Rattle.sock_model.specs.ViewsOfSplitSeats.{spent}
use Rattle.sock_model.specs.LawfulSockets.{Lawful}
use Rattle.sock_model.specs.Rule.{Lasting, of_name, of_open, of_request, FoundWords, MOST_ACCEPTED, AreShort, lists_of, Rule}
use Rattle.slot_steps.proofs.SlotWeightSums.{total-set}

-- where the words stand that last
pub lasting_in : (p : Plan) (x : ℕ) → Lasting p x → (6 * p.slots ≤ x) × (x < 6 * p.slots + p.names + p.operations + p.requests)
lasting_in p x (of_name n l e) = (omega arith, omega arith)
lasting_in p x (of_open n l e) = (omega arith, omega arith)
lasting_in p x (of_request n l e) = (omega arith, omega arith)

-- the step leaves the seat's plan, what it found and its lists
pub record SameNotes (v w : View) : Type 0 where
  pub plan : w.plan ≡ v.plan
  pub found : w.found ≡ v.found
  pub lists : w.lists ≡ v.lists

-- words that last and aren't 0 stay so
abbrev pub Lasts : Plan → List ℕ → List ℕ → Type 0
Lasts p ws vs = (x : ℕ) → Lasting p x → get_or ws x 0 ≢ 0 → get_or vs x 0 ≢ 0

pub lasts_all : (p : Plan) (ws : List ℕ) → Lasts p ws ws
lasts_all p ws x l some_ = some_

-- one word changes, and is no such word or doesn't become 0
pub lasts_set : (p : Plan) (ws : List ℕ) → length ws ≡ all_words p → (x n : ℕ) → (Lasting p x → n ≢ 0) → Lasts p ws (set ws x n)
lasts_set p ws sized x n some_ y last there = let a = lasting_in p y last in let a₁ = a.1 in dite (ℕ_discrete y x)
    (λ e. let now : get_or (set ws x n) y 0 ≡ n = subst (λ (z : ℕ). get_or (set ws x n) z 0 ≡ n) (sym e) (get_or-set_same ws x n 0 (omega arith)) in λ z. some_ (subst (Lasting p) e last) (sym now ∙ z))
    (λ ne. λ z. there (sym (get_or-set_other ws x y n 0 ne) ∙ z))

-- a seat that wasn't taken in has the table's plan
pub plan_is : {S : Type 0} {shows : S → Home} {p : Plan} {s : State S View} → Rule shows p s → (id : ℕ) (v : View) → get_elem? s.views id ≡ some v → v ≢ spent → v.plan ≡ p
plan_is r id v here ne = ⊎_elim (λ e. e) (λ e. absurd (ne e)) (r.plans id v here)

-- one entry more at the end of a seat's own list, which was shorter than it may be
one_longer : (made : List Entry) (taken_in : List (List Entry)) (e : Entry) → ((n : ℕ) (l : List Entry) → get_elem? (made ∷ taken_in) n ≡ some l → length l ≤ MOST_ACCEPTED) → length made < MOST_ACCEPTED
    → (n : ℕ) (l : List Entry) → get_elem? ((made ++ e ∷ []) ∷ taken_in) n ≡ some l → length l ≤ MOST_ACCEPTED
one_longer made taken_in e short room zero l g = omega (arith, length-append made (e ∷ []), ap length (some-injective (made ++ e ∷ []) l g))
one_longer made taken_in e short room (suc n) l g = short (suc n) l g

-- leaves the number of its lists, and none is longer than it may be
pub accept_short : (v w : View) (made : List Entry) (taken_in : List (List Entry)) (e : Entry) → v.lists ≡ made ∷ taken_in → w.lists ≡ more v.lists e → length made < MOST_ACCEPTED → AreShort v
    → (lists_of w ≡ lists_of v) × AreShort w
accept_short v w made taken_in e own grown room short = let is : w.lists ≡ (made ++ e ∷ []) ∷ taken_in = grown ∙ ap (λ (l : List (List Entry)). more l e) own in
    (ap length is ∙ sym (ap length own), λ k l g. one_longer made taken_in e (λ m q h. short m q (subst (λ (ls : List (List Entry)). get_elem? ls m ≡ some q) (sym own) h)) room k l (subst (λ (ls : List (List Entry)). get_elem? ls k ≡ some l) is g))

module _ {S : Type 0} {shows : S → Home} {p : Plan} {s : State S View} (r : Rule shows p s) (id : ℕ) (v : View) (here : get_elem? s.views id ≡ some v) (mine : v.plan ≡ p) where
  -- What a step has to keep beside what is lawful: what the seat found, and how many messages it had accepted.
  pub rule_frame : (w : View) (ws : List ℕ) (hs : List (Option S)) → w.plan ≡ v.plan → Lasts p s.words ws → FoundWords p ws w → length w.lists ≡ length v.lists → AreShort w
      → Lawful shows p record { words = ws; homes = hs; views = set s.views id w } → Rule shows p record { words = ws; homes = hs; views = set s.views id w }
  rule_frame w ws hs plan lasts found lists short o = record {
    lawful = o;
    plans = λ j u g. ⊎_elim (λ y. inl (ap (λ (z : View). z.plan) (sym y.1) ∙ (plan ∙ mine))) (λ y. r.plans j u y.1) (at_set s.views id j w u g);
    found_words = λ j u g. ⊎_elim (λ y. subst (FoundWords p ws) y.1 found) (λ y n x e. let a = r.found_words j u y.1 n x e in (a.0, lasts x a.0 a.1)) (at_set s.views id j w u g);
    few_messages = record {
      few_seats = r.few_messages.few_seats;
      few_lists = (let a = r.few_messages.few_lists in omega (arith, total-set lists_of s.views id v w here));
      short = λ j u g. ⊎_elim (λ y. subst AreShort y.1 short) (λ y. r.few_messages.short j u y.1) (at_set s.views id j w u g);
    };
  }

  -- a step that leaves all of that
  pub same_rule : (w : View) (ws : List ℕ) (hs : List (Option S)) → SameNotes v w → Lasts p s.words ws
      → Lawful shows p record { words = ws; homes = hs; views = set s.views id w } → Rule shows p record { words = ws; homes = hs; views = set s.views id w }
  same_rule w ws hs same lasts = rule_frame w ws hs same.plan lasts
      (λ n x e. let a = r.found_words id v here n x (subst (λ (l : List ℕ). get_elem? l n ≡ some x) same.found e) in (a.0, lasts x a.0 a.1)) (ap length same.lists)
      (λ n l e. r.few_messages.short id v here n l (subst (λ (ls : List (List Entry)). get_elem? ls n ≡ some l) same.lists e))

  -- and changes one word, which is no lasting one or doesn't become 0
  pub word_rule : (w : View) (x n : ℕ) (hs : List (Option S)) → SameNotes v w → (Lasting p x → n ≢ 0)
      → Lawful shows p record { words = set s.words x n; homes = hs; views = set s.views id w } → Rule shows p record { words = set s.words x n; homes = hs; views = set s.views id w }
  word_rule w x n hs same some_ = same_rule w (set s.words x n) hs same (lasts_set p s.words r.lawful.references.sized x n some_)

  -- or none
  pub still_rule : (w : View) (hs : List (Option S)) → SameNotes v w
      → Lawful shows p record { words = s.words; homes = hs; views = set s.views id w } → Rule shows p record { words = s.words; homes = hs; views = set s.views id w }
  still_rule w hs same = same_rule w s.words hs same (lasts_all p s.words)

  -- a step that accepts a message, where the seat's own list was shorter than it may be
  pub accept_rule : (w : View) (x n : ℕ) (made : List Entry) (taken_in : List (List Entry)) (e : Entry) → w.plan ≡ v.plan → w.found ≡ v.found → v.lists ≡ made ∷ taken_in → w.lists ≡ more v.lists e → length made < MOST_ACCEPTED → (Lasting p x → n ≢ 0)
      → Lawful shows p record { words = set s.words x n; homes = s.homes; views = set s.views id w } → Rule shows p record { words = set s.words x n; homes = s.homes; views = set s.views id w }
  accept_rule w x n made taken_in e plan found own grown room some_ = let lasts = lasts_set p s.words r.lawful.references.sized x n some_ in
      let grows = accept_short v w made taken_in e own grown room (λ m q h. r.few_messages.short id v here m q h) in
      rule_frame w (set s.words x n) s.homes plan lasts
      (λ k y g. let a = r.found_words id v here k y (subst (λ (l : List ℕ). get_elem? l k ≡ some y) found g) in (a.0, lasts y a.0 a.1)) grows.0 grows.1
