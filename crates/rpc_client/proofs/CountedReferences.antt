-- References, as they are counted behind each call.
use Rattle.std.proofs.Common.{◌≡◌, ℕ, zero, suc, ◌+◌, ◌<◌, Bool, true, false, List, [], ◌∷◌, ◌++◌, length, get_or, take, drop, refl, sym, ap, ◌∙◌, subst, arith}
use mathlib.Core.Logic.{dite}
use mathlib.Core.Option.{some}
use lib.ListN.{get_elem?}
use native.Mathlib.Decide.{ℕ_discrete, dec_lt}
use Rattle.std.specs.List.{remove}
use Rattle.std.proofs.lemmas.List.Elements.{All-push, All-get_or, All-append, All-take, All-drop}
use Rattle.sock_words.specs.declared.plain.Plan.{Plan}
use Rattle.sock_words.specs.PackedWords.{socket_id_version, socket_id_slot}
use Rattle.sock_model.specs.declared.marks.Mark.{Mark}
use Rattle.sock_model.specs.declared.marks.Mark.TheVariants.{Hold, Known, Tried, Linked, Born}
use Rattle.sock_model.specs.declared.view.View.{View}
use Rattle.sock_model.specs.MarkWeights.{only, pair, is_ref, is_hold}
use Rattle.sock_model.specs.Marks.{about}
use Rattle.sock_model.specs.SlotRows.{marks_of, met}
use Rattle.write_chain.specs.slot_steps.proofs.SlotWeightSums.{total_mono, total-append}
use Rattle.write_chain.specs.slot_steps.proofs.RuleNumbers.{only-at, only-else, pair_only, pair-same}
use Rattle.std.proofs.lemmas.Bool.Decides.{nat_tests}
use Rattle.sock_rule.specs.MarksComeAndGo.{Became}
use Rattle.sock_rule.proofs.MarksComeAndGo.{adds_mark}
use Rattle.sock_table.specs.ReferenceCalls.{GaveBack}
use Rattle.sock_table.specs.LinkPasses.{Created, TriedTo}
use Rattle.sock_table.specs.ReferenceAnswers.{Holds, GoneFrom}
use Rattle.sock_table.specs.ReferenceAnswers as answers
use Rattle.rpc_client.specs.declared.holding.Held.{Held}
use Rattle.sock_words.specs.declared.outcome.Outcome.{Outcome}
use Rattle.rpc_client.specs.HoldAndDropOutcomes.{IsHolder, is_there, is_life, GaveOne, given_as, GivenBy}
use Rattle.sock_table.specs.NamesStoredAndFound.{FindsId}
use Rattle.write_chain.specs.sock_open.proofs.SeatsHoldingNothing.{ended_refs}
use Rattle.rpc_client.specs.SeatBetweenOperations.{SameRefs, OneMore}
use Rattle.sock_words.specs.Totals.{total}
use Rattle.write_chain.specs.slot_steps.proofs.ReferenceStepsKeepSlot.{hold_ref}

-- marks among which is no reference are none to a life
pub no_lives : (h : ℕ) (l : List Mark) → total is_ref l ≡ 0 → total (is_hold h) l ≡ 0
no_lives h l e = let m = total_mono (is_hold h) is_ref (hold_ref h) l in omega arith

-- of each slot
pub counted : (f : Mark → ℕ) (i j : ℕ) (v w : View) (adds drops : List Mark) → Became i v w adds drops → total f adds ≡ 0 → total f drops ≡ 0 → marks_of f j w ≡ marks_of f j v
counted f i j v w adds drops b a d = dite (ℕ_discrete j i) (λ e. subst (λ (y : ℕ). marks_of f y w ≡ marks_of f y v) (sym e) (let x = b.here f in omega arith)) (λ ne. ap (total f) (b.elsewhere j ne))

-- notes come and go
pub same_refs : (i : ℕ) (v w : View) (adds drops : List Mark) → Became i v w adds drops → total is_ref adds ≡ 0 → total is_ref drops ≡ 0 → SameRefs v w
same_refs i v w adds drops b a d = record { refs = λ j. counted is_ref i j v w adds drops b a d; lives = λ j h. counted (is_hold h) i j v w adds drops b (no_lives h adds a) (no_lives h drops d) }

pub refs_then : (u v w : View) → SameRefs u v → SameRefs v w → SameRefs u w
refs_then u v w a b = record { refs = λ i. b.refs i ∙ a.refs i; lives = λ i h. b.lives i h ∙ a.lives i h }

pub refs_none : (v w : View) → w.marks ≡ v.marks → SameRefs v w
refs_none v w e = record { refs = λ i. ap (λ l. total is_ref (about i l)) e; lives = λ i h. ap (λ l. total (is_hold h) (about i l)) e }

pub more_then : (id : ℕ) (u v w : View) → SameRefs u v → OneMore id v w → OneMore id u w
more_then id u v w a b = record { refs = λ i. omega (arith, b.refs i, a.refs i); lives = λ i h. omega (arith, b.lives i h, a.lives i h) }

pub then_more : (id : ℕ) (u v w : View) → OneMore id u v → SameRefs v w → OneMore id u w
then_more id u v w a b = record { refs = λ i. omega (arith, b.refs i, a.refs i); lives = λ i h. omega (arith, b.lives i h, a.lives i h) }

pair-else : (i h x y : ℕ) → (x ≡ i → ⊥) → pair i h x y ≡ 0
pair-else i h x y ne = let a = pair_only i h x y in let b = only-else i x ne in omega arith

pair-here : (h i y : ℕ) → pair i h i y ≡ only h y
unfolding pair only
pair-here h i y = grind (arith, nat_tests)

-- a reference came
pub one_more : (id : ℕ) (v w : View) → answers.Held id v w → OneMore id v w
one_more id v w b = record {
  refs = λ j. dite (ℕ_discrete j i) (λ e. subst (λ (y : ℕ). marks_of is_ref y w ≡ marks_of is_ref y v + only y i) (sym e) (let x = b.here is_ref in let o = only-at i i refl in omega arith)) (λ ne. let x = ap (total is_ref) (b.elsewhere j ne) in let o = only-else j i (λ e. ne (sym e)) in omega arith);
  lives = λ j k. dite (ℕ_discrete j i) (λ e. subst (λ (y : ℕ). marks_of (is_hold k) y w ≡ marks_of (is_hold k) y v + pair y k i h) (sym e) (let x = b.here (is_hold k) in let o = pair-here k i h in omega arith)) (λ ne. let x = ap (total (is_hold k)) (b.elsewhere j ne) in let o = pair-else j k i h (λ e. ne (sym e)) in omega arith);
}
  where
    i : ℕ
    i = socket_id_slot id

    h : ℕ
    h = socket_id_version id

-- and went
pub gave_one : (id : ℕ) (v w : View) (ended : Bool) → GaveBack (socket_id_slot id) v w (Hold (socket_id_version id)) ended → OneMore id w v
gave_one id v w ended g = record {
  refs = λ j. dite (ℕ_discrete j i) (λ e. subst (λ (y : ℕ). marks_of is_ref y v ≡ marks_of is_ref y w + only y i) (sym e) (let x = g.became.here is_ref in let o = only-at i i refl in omega (arith, none_))) (λ ne. let x = ap (total is_ref) (g.became.elsewhere j ne) in let o = only-else j i (λ e. ne (sym e)) in omega arith);
  lives = λ j k. dite (ℕ_discrete j i) (λ e. subst (λ (y : ℕ). marks_of (is_hold k) y v ≡ marks_of (is_hold k) y w + pair y k i h) (sym e) (let x = g.became.here (is_hold k) in let o = pair-here k i h in let z = no_lives k g.notes none_ in omega arith)) (λ ne. let x = ap (total (is_hold k)) (g.became.elsewhere j ne) in let o = pair-else j k i h (λ e. ne (sym e)) in omega arith);
}
  where
    i : ℕ
    i = socket_id_slot id

    h : ℕ
    h = socket_id_version id

    none_ : total is_ref g.notes ≡ 0
    none_ = ended_refs v.plan ended g.version g.notes g.by

pub given : (id : ℕ) (u v w : View) (ended : Bool) → OneMore id u v → GaveBack (socket_id_slot id) v w (Hold (socket_id_version id)) ended → SameRefs u w
given id u v w ended a g = let b = gave_one id v w ended g in record { refs = λ j. omega (arith, a.refs j, b.refs j); lives = λ j k. omega (arith, a.lives j k, b.lives j k) }

pub gone_refs : (id found : ℕ) (v w : View) → GoneFrom id found v w → SameRefs v w
gone_refs id found v w g = same_refs (socket_id_slot id) v w _ _ g.became (let a = ended_refs v.plan g.ended g.version g.notes g.by in omega arith) refl

pub finds_refs : (x id : ℕ) (v w : View) → FindsId x id v w → SameRefs v w
finds_refs x id v w d = refs_then v m w (same_refs (socket_id_slot id) v m _ _ (adds_mark (socket_id_slot id) (Known (socket_id_version id)) v) refl refl) (refs_none m w (ap (λ (y : View). y.marks) d.view))
  where
    m : View
    m = met (socket_id_slot id) (socket_id_version id) v

-- ## A life that was made

pub created_refs : (id k : ℕ) (v w : View) → Created id k v w → SameRefs v w
created_refs id k v w c = record { refs = λ j. at is_ref j refl refl refl refl; lives = λ j h. at (is_hold h) j refl refl refl refl }
  where
    at : (f : Mark → ℕ) (j : ℕ) → f Tried ≡ 0 → f (Linked (socket_id_version id) k) ≡ 0 → f (Born (socket_id_version id)) ≡ 0 → f (Known (socket_id_version id)) ≡ 0 → marks_of f j w ≡ marks_of f j v
    at f j t l b n = dite (ℕ_discrete j (socket_id_slot id)) (λ e. subst (λ (y : ℕ). marks_of f y w ≡ marks_of f y v) (sym e) (let x = c.here f in omega arith))
        (λ ne. dite (dec_lt j (socket_id_slot id)) (λ lt. let x = c.tried j lt f in omega arith) (λ nl. ap (total f) (c.elsewhere j (omega arith))))

pub tried_refs : (n : ℕ) (v w : View) → TriedTo n v w → SameRefs v w
tried_refs n v w c = record { refs = λ j. at is_ref j refl; lives = λ j h. at (is_hold h) j refl }
  where
    at : (f : Mark → ℕ) (j : ℕ) → f Tried ≡ 0 → marks_of f j w ≡ marks_of f j v
    at f j t = dite (dec_lt j n) (λ lt. let x = c.each j lt f in omega arith) (λ nl. ap (total f) (c.elsewhere j (omega arith)))

-- ## The list of references

pub removed_sum : {A : Type 0} (f : A → ℕ) (h : List A) (at : ℕ) (x : A) → at < length h → x ≡ get_or h at x → total f h ≡ total f (remove h at) + f x
removed_sum f [] at x lt e = absurd (omega arith)
removed_sum f (y ∷ ys) zero x lt e = let a = ap f e in omega arith
removed_sum f (y ∷ ys) (suc n) x lt e = let a = removed_sum f ys n x (omega arith) e in omega arith

pub removed_there : {A : Type 0} (h : List A) (at : ℕ) (x : A) → at < length h → x ≡ get_or h at x → get_elem? h at ≡ some x
removed_there [] at x lt e = absurd (omega arith)
removed_there (y ∷ ys) zero x lt e = ap some (sym e)
removed_there (y ∷ ys) (suc n) x lt e = removed_there ys n x (omega arith) e

-- what is told of one that was given back
pub given_by : (at : ℕ) (ended : Bool) (by : Outcome) (h : List Held) (v : View) (k : List Held) (w : View) → by ≡ given_as ended → GaveOne at ended h v k w → GivenBy at by h v k w
given_by at true by h v k w e g = subst (λ (o : Outcome). GivenBy at o h v k w) (sym e) g
given_by at false by h v k w e g = subst (λ (o : Outcome). GivenBy at o h v k w) (sym e) g

module _ (p : Plan) (h : List Held) (v : View) (holder : IsHolder p h v) where
  -- one that came stands at the end
  pub holder_more : (x : Held) (w : View) → socket_id_slot x.id.0 < p.slots → OneMore x.id.0 v w → IsHolder p (h ++ x ∷ []) w
  holder_more x w inside one = record {
    refs = λ i. omega (arith, holder.refs i, one.refs i, total-append (is_there i) h (x ∷ []));
    lives = λ i k. omega (arith, holder.lives i k, one.lives i k, total-append (is_life i k) h (x ∷ []));
    inside = All-push (λ (y : Held). socket_id_slot y.id.0 < p.slots) h x holder.inside inside;
  }

  pub holder_same : (w : View) → SameRefs v w → IsHolder p h w
  holder_same w same = record { refs = λ i. same.refs i ∙ holder.refs i; lives = λ i k. same.lives i k ∙ holder.lives i k; inside = holder.inside }

  module _ (at : ℕ) (x : Held) (lt : at < length h) (e : x ≡ get_or h at x) where
    x_inside : socket_id_slot x.id.0 < p.slots
    x_inside = subst (λ (y : Held). socket_id_slot y.id.0 < p.slots) (sym e) (All-get_or (λ (y : Held). socket_id_slot y.id.0 < p.slots) h at x lt holder.inside)

    pub holds_listed : Holds p v x.id.0
    holds_listed = let i : ℕ = socket_id_slot x.id.0 in let k : ℕ = socket_id_version x.id.0 in record { inside = x_inside; held = (let a = holder.lives i k in let b = removed_sum (is_life i k) h at x lt e in let o = pair-same i k in omega arith) }

    -- one that went is taken out
    pub holder_less : (w : View) → OneMore x.id.0 w v → IsHolder p (remove h at) w
    holder_less w one = record {
      refs = λ i. omega (arith, holder.refs i, one.refs i, removed_sum (is_there i) h at x lt e);
      lives = λ i k. omega (arith, holder.lives i k, one.lives i k, removed_sum (is_life i k) h at x lt e);
      inside = All-append inside_of (take at h) (drop (suc at) h) (All-take inside_of at h holder.inside) (All-drop inside_of (suc at) h holder.inside);
    }
      where
        inside_of : Held → Type 0
        inside_of y = socket_id_slot y.id.0 < p.slots
