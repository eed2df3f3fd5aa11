-- How many messages all links have accepted: as many as all seats' lists have entries, so that each place of a message fits into 32 bits.
use Rattle.std.proofs.Common.{◌≡◌, ◌≢◌, ℕ, zero, suc, ◌+◌, ◌*◌, ◌<◌, ◌≤◌, List, [], ◌∷◌, length, length-append, map, get_or, cond, eq-eqb, ne_eqb, refl, sym, ap, ◌∙◌, arith}
use mathlib.Core.Logic.{dite}
use mathlib.Core.Option.{some, some-injective, some-ne-none}
use native.Mathlib.Decide.{ℕ_discrete}
use lib.ListN.{get_elem?}
use Rattle.atomic_table.specs.Table.{State}
use Rattle.sock_model.specs.sock_words.specs.declared.plain.Plan.{Plan}
use Rattle.sock_model.specs.declared.chain.Entry.{Entry}
use Rattle.sock_model.specs.declared.home.Home.{Home}
use Rattle.sock_model.specs.declared.view.View.{View}
use Rattle.sock_model.specs.MarkWeights.{only}
use Rattle.sock_model.specs.Entries.{on, uses, count_up}
use Rattle.sock_model.specs.SocketTableLayout.{request_index}
use Rattle.sock_model.specs.ChainLawReads.{tokens}
use Rattle.sock_model.specs.RequestStates.{free_phase, claimed_phase, used_phase, retired_phase}
use Rattle.sock_model.specs.Authors.{pick, Authored}
use Rattle.sock_model.specs.Rule.{MOST_ACCEPTED, AreShort, lists_of, Rule}
use Rattle.slot_steps.proofs.SlotWeightSums.{term_le, total_bound, total_parts}
use Rattle.slot_steps.proofs.RuleNumbers.{only-at, only-else}
use Rattle.std.proofs.lemmas.List.{length-map}
use Rattle.chain_steps.proofs.LogTotals.{log_full}
use Rattle.chain_steps.proofs.TicketLists.{at_length}
use Rattle.sock_model.specs.sock_words.specs.Totals.{total}

-- ## Each author's entries stand in one list

-- the sum of a weight over the names that the first n views keep
unfoldable pub spread : (ℕ → List ℕ) → ℕ → (ℕ → ℕ) → ℕ
spread names zero f = 0
spread names (suc n) f = total f (names zero) + spread (λ i. names (suc i)) n f

pub spread_parts : (names : ℕ → List ℕ) (n : ℕ) (f g k : ℕ → ℕ) → ((a : ℕ) → f a ≡ g a + k a) → spread names n f ≡ spread names n g + spread names n k
unfolding spread
spread_parts names zero f g k h = omega arith
spread_parts names (suc n) f g k h = omega (arith, total_parts f g k h (names zero), spread_parts (λ i. names (suc i)) n f g k h)

-- a name that one of the views keeps counts
pub spread_has : (names : ℕ → List ℕ) (n : ℕ) (f : ℕ → ℕ) (id i a : ℕ) → id < n → get_elem? (names id) i ≡ some a → f a ≤ spread names n f
unfolding spread
spread_has names zero f id i a less e = absurd (omega arith)
spread_has names (suc n) f zero i a less e = omega (arith, term_le f (names zero) i a e)
spread_has names (suc n) f (suc id) i a less e = omega (arith, spread_has (λ j. names (suc j)) n f id i a (omega arith) e)

-- how many entries the author has
entries_of : List ℕ → ℕ → ℕ
entries_of [] a = 0
entries_of (b ∷ bs) a = only b a + entries_of bs a

-- all entries are those of the authors that views keep
by_names : (names : ℕ → List ℕ) (n : ℕ) (by : List ℕ) → ((q a : ℕ) → get_elem? by q ≡ some a → (id : ℕ) × (i : ℕ) × (id < n) × (get_elem? (names id) i ≡ some a)) → length by ≤ spread names n (entries_of by)
unfolding entries_of
by_names names n [] named = omega arith
by_names names n (b ∷ bs) named = let here = named zero b refl in
    omega (arith, by_names names n bs (λ q a e. named (suc q) a e), spread_parts names n (entries_of (b ∷ bs)) (only b) (entries_of bs) (λ a. refl), spread_has names n (only b) here.0 here.1 b here.2 here.3, only-at b b refl)

pick_length : (a : ℕ) (by : List ℕ) (log : List Entry) → length by ≡ length log → length (pick a by log) ≡ entries_of by a
unfolding entries_of
pick_length a [] log e = refl
pick_length a (b ∷ bs) [] e = absurd (omega arith)
pick_length a (b ∷ bs) (x ∷ xs) e = let ih = pick_length a bs xs (omega arith) in dite (ℕ_discrete b a)
    (λ y. let q = ap (λ t. length (cond t (x ∷ pick a bs xs) (pick a bs xs))) (eq-eqb b a y) in omega (arith, only-at b a (sym y)))
    (λ n. let q = ap (λ t. length (cond t (x ∷ pick a bs xs) (pick a bs xs))) (ne_eqb b a n) in omega (arith, only-else b a (λ y. n (sym y))))

entries_some : (q a : ℕ) (by : List ℕ) → get_elem? by q ≡ some a → 0 < entries_of by a
unfolding entries_of
entries_some q a [] e = absurd (some-ne-none a (sym e))
entries_some zero a (b ∷ bs) e = omega (arith, only-at b a (sym (some-injective b a e)))
entries_some (suc q) a (b ∷ bs) e = omega (arith, entries_some q a bs e)

-- the author of an entry has one
pub pick_has : (q a : ℕ) (by : List ℕ) (log : List Entry) → length by ≡ length log → get_elem? by q ≡ some a → 0 < length (pick a by log)
pick_has q a by log long e = omega (arith, pick_length a by log long, entries_some q a by e)

-- the entries that the names of a view stand for are those of its lists
lists_length : (by : List ℕ) (log : List Entry) (names : List ℕ) → length by ≡ length log → total (λ (l : List Entry). length l) (map (λ a. pick a by log) names) ≡ total (entries_of by) names
lists_length by log [] e = refl
lists_length by log (a ∷ names) e = omega (arith, lists_length by log names e, pick_length a by log e)

views_length : {V : Type 0} (lists : V → List (List Entry)) (views : List V) (by : List ℕ) (log : List Entry) (names : ℕ → List ℕ) → length by ≡ length log
    → ((id : ℕ) (v : V) → get_elem? views id ≡ some v → lists v ≡ map (λ a. pick a by log) (names id)) → total (λ v. total (λ (l : List Entry). length l) (lists v)) views ≡ spread names (length views) (entries_of by)
unfolding spread
views_length lists [] by log names e are = refl
views_length lists (v ∷ vs) by log names e are = omega (arith, views_length lists vs by log (λ i. names (suc i)) e (λ id u g. are (suc id) u g), ap (total (λ (l : List Entry). length l)) (are zero v refl), lists_length by log (names zero) e)

-- as many entries as the lists of all views have
pub log_length : {V : Type 0} (lists : V → List (List Entry)) (views : List V) (log : List Entry) → Authored lists views log → length log ≤ total (λ v. total (λ (l : List Entry). length l) (lists v)) views
log_length lists views log h = let long = h.long in omega (arith, by_names h.names (length views) h.by (λ q a e. h.named q a e), views_length lists views h.by log h.names h.long (λ id v g. h.lists_are id v g))

-- ## So there are few

views_few : (views : List View) → ((id : ℕ) (v : View) → get_elem? views id ≡ some v → AreShort v) → total (λ (v : View). total (λ (l : List Entry). length l) v.lists) views ≤ total lists_of views * MOST_ACCEPTED
views_few [] short = omega arith
views_few (v ∷ vs) short = omega (arith, views_few vs (λ id u g. short (suc id) u g), total_bound (λ (l : List Entry). length l) MOST_ACCEPTED v.lists (short zero v refl))

-- and as many at most as these lists may have
pub few_log : (views : List View) (log : List Entry) → Authored (λ (v : View). v.lists) views log → total lists_of views ≤ 64 → ((id : ℕ) (v : View) → get_elem? views id ≡ some v → AreShort v) → length log ≤ 2147483648
few_log views log authors few short = omega (arith, few, log_length (λ (v : View). v.lists) views log authors, views_few views short)

-- a chain is no longer than the log
pub on_shorter : (k : ℕ) (log : List Entry) → length (on k log) ≤ length log
on_shorter k [] = omega arith
on_shorter k (e ∷ es) = let ih = on_shorter k es in dite (ℕ_discrete e.link k)
    (λ y. let q = ap (λ t. length (cond t (e ∷ on k es) (on k es))) (eq-eqb e.link k y) in omega arith)
    (λ n. let q = ap (λ t. length (cond t (e ∷ on k es) (on k es))) (ne_eqb e.link k n) in omega arith)

count_length : (n : ℕ) → length (count_up n) ≡ n
count_length zero = refl
count_length (suc n) = omega (arith, length-append (count_up n) (n ∷ []), count_length n)

module _ {S : Type 0} {shows : S → Home} {p : Plan} {s : State S View} (r : Rule shows p s) where
  -- all links together accepted at most 2^31 messages
  pub few_entries : length r.lawful.log ≤ 2147483648
  few_entries = let few = r.few_messages in let a = few.few_seats in let b = few.few_lists in few_log s.views r.lawful.log r.lawful.authors (omega arith) few.short

  -- so the place of each fits into 32 bits, counted from 1
  pub place_fits : (k i : ℕ) (e : Entry) → get_elem? (on k r.lawful.log) i ≡ some e → suc i < 4294967296
  place_fits k i e g = omega (arith, few_entries, on_shorter k r.lawful.log, at_length (on k r.lawful.log) i e g)

  -- once a seat has found each request taken, and nobody claims one, the links have accepted as many messages at least as there are requests
  pub full_log : (id : ℕ) (v : View) → get_elem? s.views id ≡ some v → ((q : ℕ) → q < p.requests → (n : ℕ) × (get_elem? v.found n ≡ some (request_index p q))) → ((q : ℕ) → q < p.requests → (tokens s.views).claims q ≡ [])
      → p.requests ≤ length r.lawful.log
  full_log id v here tried unclaimed = log_full p.requests r.lawful.log (λ q ql. let t = tried q ql in used_once q ql (r.found_words id v here t.0 (request_index p q) t.1).1 (unclaimed q ql))
    where
      used_once : (q : ℕ) → q < p.requests → get_or s.words (request_index p q) 0 ≢ 0 → (tokens s.views).claims q ≡ [] → 1 ≤ length (uses q r.lawful.log)
      used_once q ql some_ none_ = let u = r.lawful.chains.in_use q ql in
          let long : length (uses q r.lawful.log) ≡ u.times = sym (length-map (uses q r.lawful.log) (λ (e : Entry). e.generation)) ∙ (ap length u.each_once ∙ count_length u.times) in
          elim u.phase [
            | free_phase f ↦ (let a = f.word in let b = f.used in dite (ℕ_discrete u.generation 0) (λ z. absurd (some_ (a ∙ omega arith))) (λ n. omega arith))
            | claimed_phase c ↦ (let z : length ((tokens s.views).claims q) ≡ 1 = ap length c.claimed in let y = ap length none_ in absurd (omega arith))
            | used_phase e ↦ (let a = e.used in omega arith)
            | retired_phase e ↦ (let a = e.used in omega arith)
          ]
