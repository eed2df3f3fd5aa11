-- A seat that only carries passes: it accepts nothing, and so needs no list of accepted messages.
use Rattle.std.proofs.Common.{◌≡◌, ◌≢◌, ℕ, zero, suc, ◌+◌, ◌≤◌, List, [], ◌∷◌, ◌++◌, length, length-set, map, cond, eqb, eq-eqb, ne_eqb, get_or, set, refl, sym, ap, ◌∙◌, subst, inl, ⊎_elim, arith}
use mathlib.Core.Logic.{dite}
use mathlib.Core.Option.{some, some-injective, some-ne-none}
use native.Mathlib.Decide.{ℕ_discrete}
use lib.ListN.{get_elem?}
use Rattle.atomic_table.specs.Table.{State}
use Rattle.atomic_table.proofs.Lists.{at_set, at_map, at_snoc}
use Rattle.sock_model.specs.sock_words.specs.declared.plain.Plan.{Plan}
use Rattle.sock_model.specs.declared.chain.Entry.{Entry}
use Rattle.sock_model.specs.declared.home.Home.{Home}
use Rattle.sock_model.specs.declared.view.View.{View}
use Rattle.sock_model.specs.MarkWeights.{only}
use Rattle.sock_model.specs.SocketTableLayout.{place_index}
use Rattle.sock_model.specs.ViewsOfSplitSeats.{newcomer, carrier}
use Rattle.sock_model.specs.Authors.{pick, Authored}
use Rattle.sock_model.specs.ChainLawReads.{rights_on, claims_of, loose_at, tokens, message}
use Rattle.sock_model.specs.LawfulSockets.{Lawful}
use Rattle.sock_model.specs.Rule.{FoundWords, AreShort, lists_of, Rule}
use Rattle.slot_steps.proofs.SlotWeightSums.{total-set, total-append}
use Rattle.chain_steps.proofs.UntouchedByChainSteps.{chains_frame}
use Rattle.chain_steps.proofs.Gather.{gather_same}
use Rattle.chain_steps.proofs.ChainLettersStay.{messages_frame}
use Rattle.chain_steps.proofs.Delivers.{delivers_same}
use Rattle.chain_steps.proofs.TicketLists.{at_last}
use Rattle.sock_steps.proofs.ChainWordChanges.{beside_all}
use Rattle.sock_steps.proofs.ChainFrame.{SameSlots, carried_same, links_frame, chain_frame}
use Rattle.sock_steps.proofs.Reseat.{splitting_law}
use Rattle.sock_steps.proofs.Positions.{pick_has}
use Rattle.sock_model.specs.sock_words.specs.Totals.{total}

-- the names without those of the view id
except : (ℕ → List ℕ) → ℕ → ℕ → List ℕ
except names id j = cond (eqb j id) [] (names j)

except_here : (names : ℕ → List ℕ) (id j : ℕ) → j ≡ id → except names id j ≡ []
unfolding except
except_here names id j e = ap (λ b. cond b [] (names j)) (eq-eqb j id e)

except_else : (names : ℕ → List ℕ) (id j : ℕ) → j ≢ id → except names id j ≡ names j
unfolding except
except_else names id j n = ap (λ b. cond b [] (names j)) (ne_eqb j id n)

except_stood : (names : ℕ → List ℕ) (id i j a : ℕ) → get_elem? (except names id i) j ≡ some a → get_elem? (names i) j ≡ some a
except_stood names id i j a x = dite (ℕ_discrete i id) (λ e. absurd (some-ne-none a (sym (subst (λ (l : List ℕ). get_elem? l j ≡ some a) (except_here names id i e) x)))) (λ n. subst (λ (l : List ℕ). get_elem? l j ≡ some a) (except_else names id i n) x)

only_empty : (i : ℕ) (l : List Entry) → get_elem? ([] ∷ []) i ≡ some l → l ≡ []
only_empty zero l e = sym (some-injective [] l e)
only_empty (suc i) l e = absurd (some-ne-none l (sym e))

-- an author whose list is empty may go
pub unlists : {V : Type 0} (lists : V → List (List Entry)) (views : List V) (log : List Entry) (id : ℕ) (v w : V) → Authored lists views log → get_elem? views id ≡ some v → lists v ≡ [] ∷ [] → lists w ≡ [] → Authored lists (set views id w) log
unlists lists views log id v w h here one none_ = record {
  by = h.by;
  names = except h.names id;
  bound = h.bound;
  long = h.long;
  lists_are = λ j u g. ⊎_elim (λ y. ap lists (sym y.1) ∙ (none_ ∙ ap (map (λ a. pick a h.by log)) (sym (except_here h.names id j y.0)))) (λ y. h.lists_are j u y.1 ∙ ap (map (λ a. pick a h.by log)) (sym (except_else h.names id j y.0))) (at_set views id j w u g);
  apart = λ i j k l a x y. h.apart i j k l a (except_stood h.names id i j a x) (except_stood h.names id k l a y);
  bounded = λ i j a x. h.bounded i j a (except_stood h.names id i j a x);
  named = λ q a e. let k = h.named q a e in let low = k.2 in (k.0, k.1, omega (arith, length-set views id w), subst (λ (l : List ℕ). get_elem? l k.1 ≡ some a) (sym (except_else h.names id k.0 (λ y. silent q a e k.1 (subst (λ (z : ℕ). get_elem? (h.names z) k.1 ≡ some a) y k.3)))) k.3);
}
  where
    -- whoever has an entry has a list that isn't empty
    silent : (q a : ℕ) → get_elem? h.by q ≡ some a → (i : ℕ) → get_elem? (h.names id) i ≡ some a → ⊥
    silent q a e i x = let some_ = pick_has q a h.by log h.long e in let is : map (λ y. pick y h.by log) (h.names id) ≡ [] ∷ [] = sym (h.lists_are id v here) ∙ one in
        let its : get_elem? (map (λ y. pick y h.by log) (h.names id)) i ≡ some (pick a h.by log) = at_map (λ y. pick y h.by log) (h.names id) i a x in
        let empty = only_empty i (pick a h.by log) (subst (λ (l : List (List Entry)). get_elem? l i ≡ some (pick a h.by log)) is its) in omega (arith, ap length empty)

module _ {S : Type 0} {shows : S → Home} {p : Plan} {s : State S View} (o : Lawful shows p s) (id : ℕ) (v : View) (here : get_elem? s.views id ≡ some v) (one : v.lists ≡ [] ∷ []) where
  -- a seat that accepted nothing may do without its list
  pub unlisted_law : Lawful shows p record { words = s.words; homes = s.homes; views = set s.views id (record v { lists = []; share = 0 }) }
  unlisted_law = let same : SameSlots v (record v { lists = []; share = 0 }) = record { plan = refl; marks = refl; passes = λ k. omega arith; spare = refl; stores = refl } in
      let rights : (k : ℕ) → (tokens (set s.views id (record v { lists = []; share = 0 }))).rights k ≡ (tokens s.views).rights k = λ k. gather_same (rights_on k) s.views id v (record v { lists = []; share = 0 }) here refl in
      let claims : (q : ℕ) → (tokens (set s.views id (record v { lists = []; share = 0 }))).claims q ≡ (tokens s.views).claims q = λ q. gather_same (claims_of q) s.views id v (record v { lists = []; share = 0 }) here refl in
      chain_frame shows p s o id v (record v { lists = []; share = 0 }) here s.words s.homes same (beside_all p o.slot s.words) o.log o.freed o.places o.kept o.in_slots.entered
      (λ i r g. let x = o.held id v here i r g in let h = x.3 in (x.0, x.1, x.2, record { inside = h.inside; held = h.held; met = h.met }))
      (carried_same shows p s o id v (record v { lists = []; share = 0 }) here s.words s.homes same (beside_all p o.slot s.words) refl) (λ k e. (refl, refl, refl))
      (chains_frame o.chains (λ k kl. refl) (λ q ql. refl) (λ q ql. refl) (λ k kl. rights k) (λ q ql. claims q) (λ q ql. gather_same (loose_at q) s.views id v (record v { lists = []; share = 0 }) here refl))
      (unlists (λ (y : View). y.lists) s.views o.log id v (record v { lists = []; share = 0 }) o.authors here one refl)
      (messages_frame o.chains o.messages (tokens (set s.views id (record v { lists = []; share = 0 }))) (message shows s.homes) (λ q ql. refl) (λ q ql. claims q)
      (λ k e kl u. record { right = u.right; has = rights k ∙ u.has; stage = u.stage; taken = u.taken }) (λ k r kl h g. (r, sym (rights k) ∙ h, g, refl, refl, refl)))
      (delivers_same o.delivered (tokens (set s.views id (record v { lists = []; share = 0 }))) (λ l. get_or s.words (place_index p l) 0) (λ l ll. refl) (λ j y jl h. (y, sym (rights j) ∙ h, refl, refl, refl)))
      (links_frame shows p s o id v (record v { lists = []; share = 0 }) here s.words s.homes same (beside_all p o.slot s.words) (λ k h. refl) (λ k x kl e. o.homes.own k x kl e)
      (λ k j kl sk h. o.homes.idle k j kl sk (sym (rights k) ∙ h)) (λ k r kl h. o.homes.busy k r kl (sym (rights k) ∙ h)) (λ k kl e. refl) refl)

set_last : {A : Type 0} (l : List A) (a b : A) → set (l ++ a ∷ []) (length l) b ≡ l ++ b ∷ []
set_last [] a b = refl
set_last (x ∷ xs) a b = ap (λ l. x ∷ l) (set_last xs a b)

-- a seat gives away some of its passes to one that only carries them
pub carrying_rule : {S : Type 0} {shows : S → Home} {p : Plan} {s : State S View} (r : Rule shows p s) (id : ℕ) (v : View) → get_elem? s.views id ≡ some v → v.plan ≡ p → (mine its : List ℕ) (some_ : ℕ)
    → ((k : ℕ) → total (only k) mine + total (only k) its ≤ total (only k) v.passes) → some_ + 1 ≤ v.spare
    → Rule shows p record { words = s.words; homes = s.homes; views = set s.views id (record v { passes = mine; spare = some_ }) ++ carrier p its ∷ [] }
carrying_rule {S} {shows} {p} {s} r id v here plan mine its some_ passes room = let left : View = record v { passes = mine; spare = some_ } in let right : View = carrier p its in
    let first : List View = set s.views id (record v { passes = mine; spare = some_ }) in
    let both : List View = set s.views id (record v { passes = mine; spare = some_ }) ++ newcomer p its 0 ∷ [] in
    let split = splitting_law shows p s r.lawful id v here p mine its some_ 0 passes (omega arith) (sym plan) in
    let bare = unlisted_law {s = record { words = s.words; homes = s.homes; views = set s.views id (record v { passes = mine; spare = some_ }) ++ newcomer p its 0 ∷ [] }} split (length first) (newcomer p its 0) (at_last first (newcomer p its 0)) refl in
    record {
      lawful = subst (λ vs. Lawful shows p record { words = s.words; homes = s.homes; views = vs }) (set_last first (newcomer p its 0) (carrier p its)) bare;
      plans = λ j u g. ⊎_elim (λ a. ⊎_elim (λ y. inl (ap (λ (z : View). z.plan) (sym y.1) ∙ plan)) (λ y. r.plans j u y.1) (at_set s.views id j left u a)) (λ e. inl (ap (λ (z : View). z.plan) (sym e))) (at_snoc first right u j g);
      found_words = λ j u g. ⊎_elim (λ a. ⊎_elim (λ y. subst (FoundWords p s.words) y.1 (λ n x e. r.found_words id v here n x e)) (λ y. r.found_words j u y.1) (at_set s.views id j left u a))
          (λ e. subst (FoundWords p s.words) e (λ n x b. absurd (some-ne-none x (sym b)))) (at_snoc first right u j g);
      few_messages = record {
        few_seats = r.few_messages.few_seats;
        few_lists = (let a = r.few_messages.few_lists in omega (arith, total-append lists_of first (right ∷ []), total-set lists_of s.views id v left here));
        short = λ j u g. ⊎_elim (λ a. ⊎_elim (λ y. subst AreShort y.1 (λ n l e. r.few_messages.short id v here n l e)) (λ y. r.few_messages.short j u y.1) (at_set s.views id j left u a))
            (λ e. subst AreShort e (λ n l b. absurd (some-ne-none l (sym b)))) (at_snoc first right u j g);
      };
    }
