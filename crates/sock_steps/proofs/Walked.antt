-- How many entries of its link's chain a right has behind it: those with places, and those that its walk turned. And how many entries a link accepted.
use Rattle.std.proofs.Common.{◌≡◌, ◌≢◌, ℕ, zero, suc, ◌+◌, ◌<◌, ◌≤◌, List, [], ◌∷◌, length, map, cond, eq-eqb, ne_eqb, refl, sym, ap, ◌∙◌, subst, arith}
use mathlib.Core.Logic.{dite}
use mathlib.Core.Option.{some, some-injective, some-ne-none}
use native.Mathlib.Decide.{ℕ_discrete}
use lib.ListN.{get_elem?}
use Rattle.atomic_table.specs.Table.{State}
use Rattle.sock_model.specs.sock_words.specs.declared.plain.Plan.{Plan}
use Rattle.sock_model.specs.declared.chain.Entry.{Entry}
use Rattle.sock_model.specs.declared.chain.Right.{Right}
use Rattle.sock_model.specs.declared.chain.Stage.{Stage}
use Rattle.sock_model.specs.declared.chain.Stage.TheVariants.{Writes, Placed, Passes, Empties, Reversing, ReversesNext}
use Rattle.sock_model.specs.declared.home.Home.{Home}
use Rattle.sock_model.specs.declared.view.View.{View}
use Rattle.sock_model.specs.MarkWeights.{only}
use Rattle.sock_model.specs.Entries.{on}
use Rattle.sock_model.specs.ChainTokens.{Tokens}
use Rattle.sock_model.specs.ChainMemory.{Memory}
use Rattle.sock_model.specs.LinkWritingState.{Counts, OnWalk, InStage, Held}
use Rattle.sock_model.specs.ChainLawReads.{memory, tokens}
use Rattle.sock_model.specs.Authors.{pick, Authored}
use Rattle.sock_model.specs.LawfulSockets.{Lawful}
use Rattle.slot_steps.proofs.RuleNumbers.{only-at, only-else}
use Rattle.chain_steps.proofs.ChainHeadSteps.{held_of}
use Rattle.chain_steps.proofs.ChainLettersStay.{writes_room}
use Rattle.sock_steps.proofs.RightSteps.{right_in, right_alone}
use Rattle.sock_steps.proofs.Positions.{spread, spread_parts}
use Rattle.sock_model.specs.sock_words.specs.Totals.{total}

-- ## What a right has behind it

-- on a walk an entry at least is left
walk_short : (c : List Entry) (n : Counts) (freed places turned top at after : ℕ) → n.top ≡ n.left + turned → OnWalk c n freed places top at after → places + turned < n.top
walk_short c n freed places turned top at after is w = let a = w.all_freed.0 in let b = w.all_freed.1 in let d = w.some_left in omega arith

-- the entries with places and the turned ones stand up to where the walk began
stage_short : (m : Memory) (t : Tokens) (c : List Entry) (n : Counts) (freed places turned : ℕ) (b : Stage) → n.top ≡ n.left + turned → InStage m t c n freed places b → places + turned ≤ n.top
stage_short m t c n freed places turned (Writes now) is h = let x = h.0.0 in let y = h.0.1 in let a = h.1 in let d = h.2 in omega arith
stage_short m t c n freed places turned (Placed now) is h = let x = h.0.0 in let y = h.0.1 in let a = h.1 in let d = h.2 in omega arith
stage_short m t c n freed places turned (Passes now next) is h = let x = h.0.0 in let y = h.0.1 in let a = h.1 in let d = h.2 in omega arith
stage_short m t c n freed places turned Empties is h = let x = h.0.0 in let y = h.0.1 in let a = h.1 in let d = h.2 in omega arith
stage_short m t c n freed places turned (Reversing top at after) is h = let w = walk_short c n freed places turned top at after is h in omega arith
stage_short m t c n freed places turned (ReversesNext top at after before) is h = let w = walk_short c n freed places turned top at after is h.0 in omega arith

module _ {S : Type 0} {shows : S → Home} {p : Plan} {s : State S View} (o : Lawful shows p s) (id i : ℕ) (v : View) (r : Right) (at : get_elem? s.views id ≡ some v) (has : get_elem? v.rights i ≡ some r) where
  held : Held (memory p o.slot s.words) (tokens s.views) (on r.link o.log) (o.freed r.link) (o.places r.link) r
  held = (held_of o.chains r.link r (right_in o id i v r at has) (right_alone o id i v r at has)).1

  counted : r.places ≡ o.places r.link
  counted = o.delivered.counted r.link r (right_in o id i v r at has) (right_alone o id i v r at has)

  pub walked_le : r.places + r.turned ≤ length (on r.link o.log)
  walked_le = let f = held.fits.3 in
      omega (arith, f, counted, stage_short (memory p o.slot s.words) (tokens s.views) (on r.link o.log) held.counts (o.freed r.link) (o.places r.link) r.turned r.stage held.turned_is held.stage_is)

  on_walk : (top at after : ℕ) → r.stage ≡ Reversing top at after → OnWalk (on r.link o.log) held.counts (o.freed r.link) (o.places r.link) top at after
  on_walk top at after stage = subst (InStage (memory p o.slot s.words) (tokens s.views) (on r.link o.log) held.counts (o.freed r.link) (o.places r.link)) stage held.stage_is

  on_turn : (top at after before : ℕ) → r.stage ≡ ReversesNext top at after before → OnWalk (on r.link o.log) held.counts (o.freed r.link) (o.places r.link) top at after
  on_turn top at after before stage = let st : InStage (memory p o.slot s.words) (tokens s.views) (on r.link o.log) held.counts (o.freed r.link) (o.places r.link) (ReversesNext top at after before) = subst (InStage (memory p o.slot s.words) (tokens s.views) (on r.link o.log) held.counts (o.freed r.link) (o.places r.link)) stage held.stage_is in st.0

  -- while it walks an entry is left that has no place and isn't turned
  walks_short : (top at after : ℕ) → OnWalk (on r.link o.log) held.counts (o.freed r.link) (o.places r.link) top at after → r.places + r.turned < length (on r.link o.log)
  walks_short top at after w = let f = held.fits.3 in
      omega (arith, f, counted, walk_short (on r.link o.log) held.counts (o.freed r.link) (o.places r.link) r.turned top at after held.turned_is w)

  pub walk_left : (top at after : ℕ) → r.stage ≡ Reversing top at after → r.places + r.turned < length (on r.link o.log)
  walk_left top at after stage = walks_short top at after (on_walk top at after stage)

  pub turn_left : (top at after before : ℕ) → r.stage ≡ ReversesNext top at after before → r.places + r.turned < length (on r.link o.log)
  turn_left top at after before stage = walks_short top at after (on_turn top at after before stage)

  -- where it writes an entry has no place
  pub writes_left : (now : ℕ) → r.stage ≡ Writes now → r.places < length (on r.link o.log)
  writes_left now stage = omega (arith, counted, writes_room o.chains r.link r now (right_in o id i v r at has) (right_alone o id i v r at has) stage)

  -- ## What it has noted

  -- the noted entries and the turned ones are some of the chain's
  pub noted_le : r.noted + r.turned ≤ length (on r.link o.log)
  noted_le = let f = held.fits.1 in let g = held.fits.2 in let h = held.fits.3 in let n = held.noted_is in let t = held.turned_is in omega arith

  -- while it walks an entry is left that is neither
  walks_less : (top at after : ℕ) → OnWalk (on r.link o.log) held.counts (o.freed r.link) (o.places r.link) top at after → r.noted + r.turned < length (on r.link o.log)
  walks_less top at after w = let f = w.some_left in let g = held.fits.2 in let h = held.fits.3 in let n = held.noted_is in let t = held.turned_is in omega arith

  pub walk_less : (top at after : ℕ) → r.stage ≡ Reversing top at after → r.noted + r.turned < length (on r.link o.log)
  walk_less top at after stage = walks_less top at after (on_walk top at after stage)

  pub turn_less : (top at after before : ℕ) → r.stage ≡ ReversesNext top at after before → r.noted + r.turned < length (on r.link o.log)
  turn_less top at after before stage = walks_less top at after (on_turn top at after before stage)

-- ## What a link accepted

-- a name stands nowhere in a list, or once
names_none : (b : ℕ) (names : List ℕ) → ((i : ℕ) → ¬ (get_elem? names i ≡ some b)) → total (only b) names ≡ 0
names_none b [] none_ = refl
names_none b (a ∷ names) none_ = omega (arith, only-else b a (λ e. none_ zero (ap (λ (y : ℕ). some y) e)), names_none b names (λ i. none_ (suc i)))

names_once : (b i : ℕ) (names : List ℕ) → get_elem? names i ≡ some b → ((j : ℕ) → get_elem? names j ≡ some b → j ≡ i) → total (only b) names ≡ 1
names_once b i [] e alone = absurd (some-ne-none b (sym e))
names_once b zero (a ∷ names) e alone = omega (arith, only-at b a (some-injective a b e), names_none b names (λ j g. let z = alone (suc j) g in absurd (omega arith)))
names_once b (suc i) (a ∷ names) e alone =
    omega (arith, only-else b a (λ q. let z = alone zero (ap (λ (y : ℕ). some y) q) in absurd (omega arith)), names_once b i names e (λ j g. let z = alone (suc j) g in omega arith))

-- the same of the names that all views keep
spread_same : (names : ℕ → List ℕ) (n : ℕ) (f g : ℕ → ℕ) → ((a : ℕ) → f a ≡ g a) → spread names n f ≡ spread names n g
spread_same names n f g same = ap (spread names n) (λ k a. same a k)

spread_zero : (names : ℕ → List ℕ) (n : ℕ) → spread names n (λ a. 0) ≡ 0
spread_zero names n = omega (arith, spread_parts names n (λ a. 0) (λ a. 0) (λ a. 0) (λ a. refl))

spread_none : (names : ℕ → List ℕ) (n b : ℕ) → ((id i : ℕ) → ¬ (get_elem? (names id) i ≡ some b)) → spread names n (only b) ≡ 0
unfolding spread
spread_none names zero b none_ = refl
spread_none names (suc n) b none_ = omega (arith, names_none b (names zero) (none_ zero), spread_none (λ j. names (suc j)) n b (λ id. none_ (suc id)))

spread_once : (names : ℕ → List ℕ) (n b id i : ℕ) → id < n → get_elem? (names id) i ≡ some b → ((j k : ℕ) → get_elem? (names j) k ≡ some b → (j ≡ id) × (k ≡ i)) → spread names n (only b) ≡ 1
unfolding spread
spread_once names zero b id i less e alone = absurd (omega arith)
spread_once names (suc n) b zero i less e alone =
    omega (arith, names_once b i (names zero) e (λ j g. (alone zero j g).1), spread_none (λ j. names (suc j)) n b (λ j k g. let z = (alone (suc j) k g).0 in absurd (omega arith)))
spread_once names (suc n) b (suc id) i less e alone =
    omega (
      arith,
      names_none b (names zero) (λ j g. let z = (alone zero j g).0 in absurd (omega arith)),
      spread_once (λ j. names (suc j)) n b id i (omega arith) e (λ j k g. let z = alone (suc j) k g in (let y = z.0 in omega arith, z.1)),
    )

-- one entry more, of this link or of another
on_more : (k : ℕ) (e : Entry) (l : List Entry) → e.link ≡ k → length (on k (e ∷ l)) ≡ suc (length (on k l))
on_more k e l same = ap (λ t. length (cond t (e ∷ on k l) (on k l))) (eq-eqb e.link k same)

on_stays : (k : ℕ) (e : Entry) (l : List Entry) → e.link ≢ k → length (on k (e ∷ l)) ≡ length (on k l)
on_stays k e l ne = ap (λ t. length (cond t (e ∷ on k l) (on k l))) (ne_eqb e.link k ne)

-- how many entries of link k the author a has
share : ℕ → List ℕ → List Entry → ℕ → ℕ
share k by log a = length (on k (pick a by log))

share_none : (k a : ℕ) → share k [] [] a ≡ 0
unfolding share
share_none k a = refl

share_more : (k b : ℕ) (bs : List ℕ) (e : Entry) (es : List Entry) → e.link ≡ k → (a : ℕ) → share k (b ∷ bs) (e ∷ es) a ≡ only b a + share k bs es a
unfolding share
share_more k b bs e es same a = dite (ℕ_discrete b a)
    (λ y. let q = ap (λ t. length (on k (cond t (e ∷ pick a bs es) (pick a bs es)))) (eq-eqb b a y) in omega (arith, on_more k e (pick a bs es) same, only-at b a (sym y)))
    (λ n. let q = ap (λ t. length (on k (cond t (e ∷ pick a bs es) (pick a bs es)))) (ne_eqb b a n) in omega (arith, only-else b a (λ y. n (sym y))))

share_stays : (k b : ℕ) (bs : List ℕ) (e : Entry) (es : List Entry) → e.link ≢ k → (a : ℕ) → share k (b ∷ bs) (e ∷ es) a ≡ share k bs es a
unfolding share
share_stays k b bs e es ne a = dite (ℕ_discrete b a)
    (λ y. let q = ap (λ t. length (on k (cond t (e ∷ pick a bs es) (pick a bs es)))) (eq-eqb b a y) in q ∙ on_stays k e (pick a bs es) ne)
    (λ n. ap (λ t. length (on k (cond t (e ∷ pick a bs es) (pick a bs es)))) (ne_eqb b a n))

-- all entries of the link are those of the authors that views keep
shares : (k : ℕ) (names : ℕ → List ℕ) (n : ℕ) (by : List ℕ) (log : List Entry) → length by ≡ length log
    → ((id i j l a : ℕ) → get_elem? (names id) i ≡ some a → get_elem? (names j) l ≡ some a → (id ≡ j) × (i ≡ l))
    → ((q a : ℕ) → get_elem? by q ≡ some a → (id : ℕ) × (i : ℕ) × (id < n) × (get_elem? (names id) i ≡ some a))
    → length (on k log) ≡ spread names n (share k by log)
shares k names n [] [] long apart named = sym (spread_same names n (share k [] []) (λ a. 0) (share_none k) ∙ spread_zero names n)
shares k names n [] (e ∷ es) long apart named = absurd (omega arith)
shares k names n (b ∷ bs) [] long apart named = absurd (omega arith)
shares k names n (b ∷ bs) (e ∷ es) long apart named =
    let ih = shares k names n bs es (omega arith) apart (λ q a g. named (suc q) a g) in let here = named zero b refl in
    dite (ℕ_discrete e.link k)
    (λ same. omega (
      arith,
      on_more k e es same,
      ih,
      spread_parts names n (share k (b ∷ bs) (e ∷ es)) (only b) (share k bs es) (share_more k b bs e es same),
      spread_once names n b here.0 here.1 here.2 here.3 (λ j l g. apart j l here.0 here.1 b g here.3),
    ))
    (λ ne. on_stays k e es ne ∙ (ih ∙ sym (spread_same names n (share k (b ∷ bs) (e ∷ es)) (share k bs es) (share_stays k b bs e es ne))))

-- the entries of the link that the names of a view stand for are those of its lists
list_shares : (k : ℕ) (by : List ℕ) (log : List Entry) (names : List ℕ) → total (λ (l : List Entry). length (on k l)) (map (λ a. pick a by log) names) ≡ total (share k by log) names
unfolding share
list_shares k by log [] = refl
list_shares k by log (a ∷ names) = omega (arith, list_shares k by log names)

view_shares : {V : Type 0} (k : ℕ) (lists : V → List (List Entry)) (views : List V) (by : List ℕ) (log : List Entry) (names : ℕ → List ℕ)
    → ((id : ℕ) (v : V) → get_elem? views id ≡ some v → lists v ≡ map (λ a. pick a by log) (names id)) → total (λ v. total (λ (l : List Entry). length (on k l)) (lists v)) views ≡ spread names (length views) (share k by log)
unfolding spread
view_shares k lists [] by log names are = refl
view_shares k lists (v ∷ vs) by log names are =
    omega (arith, view_shares k lists vs by log (λ i. names (suc i)) (λ id u g. are (suc id) u g), ap (total (λ (l : List Entry). length (on k l))) (are zero v refl), list_shares k by log (names zero))

-- a link accepted as many entries as all views have of it in their lists
pub accepted_count : {V : Type 0} (lists : V → List (List Entry)) (views : List V) (log : List Entry) → Authored lists views log → (k : ℕ) → length (on k log) ≡ total (λ v. total (λ (l : List Entry). length (on k l)) (lists v)) views
accepted_count lists views log h k =
    shares k h.names (length views) h.by log h.long h.apart (λ q a e. h.named q a e) ∙ sym (view_shares k lists views h.by log h.names (λ id v g. h.lists_are id v g))
