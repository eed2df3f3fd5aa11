-- Where over all seats' own lists no two messages have one place index, no two in the log have.
use Rattle.std.proofs.Common.{◌≡◌, ◌≢◌, ℕ, ◌<◌, ◌≤◌, List, refl, sym, ap, ◌∙◌, subst, arith}
use mathlib.Core.Logic.{dite}
use mathlib.Core.Option.{some, some-injective}
use native.Mathlib.Decide.{ℕ_discrete, dec_lt}
use lib.ListN.{get_elem?}
use Rattle.sock_words.specs.declared.plain.Plan.{Plan}
use Rattle.sock_model.specs.declared.chain.Entry.{Entry}
use Rattle.sock_model.specs.Authors.{pick}
use Rattle.chain_steps.proofs.TicketLists.{at_some, at_length}
use Rattle.call_run.specs.sock_rule.specs.ClosingWordsAndNotes.{Ordered, PlacesDiffer}
use Rattle.corr_core.proofs.NoteSums.{only-at}
use Rattle.sock_deeds.proofs.PlacesOfEntries.{before, pick_at, before_rises}
use Rattle.call_places.proofs.NoteWeights.{term, two_terms}
use Rattle.call_places.proofs.LabelPlaceIndices.{at_place}
use Rattle.sock_deeds.proofs.ListPlaces.{map_there}
use Rattle.sock_words.specs.Totals.{total}

module _ (p : Plan) (found : List ℕ) (lists : List (List Entry)) (o : Ordered p found lists) where
  -- the entry stands in the list of its author
  pub record Authored (q : ℕ) (e : Entry) : Type 0 where
    pub author : ℕ
    pub by_author : get_elem? o.by q ≡ some author
    pub seat : ℕ
    pub name : get_elem? o.names seat ≡ some author
    pub list : get_elem? lists seat ≡ some (pick author o.by o.log)
    pub place : get_elem? (pick author o.by o.log) (before author o.by q) ≡ some e

  pub authored : (q : ℕ) (e : Entry) → get_elem? o.log q ≡ some e → Authored q e
  authored q e there =
      let low = at_length o.log q e there in
      let long = o.long in
      let au = at_some o.by q (omega arith) in
      let n = o.named q au.0 au.1 in record {
        author = au.0;
        by_author = au.1;
        seat = n.0;
        name = n.1;
        list = ap (λ l. get_elem? l n.0) o.lists_are ∙ map_there (λ a. pick a o.by o.log) o.names n.0 au.0 n.1;
        place = pick_at au.0 o.by o.log q e au.1 there;
      }

  module _ (once : (l : ℕ) → total (λ (es : List Entry). total (at_place l) es) lists ≤ 1) where
    one_here : (l : ℕ) (e : Entry) → e.heading.label.place ≡ l → at_place l e ≡ 1
    one_here l e is = only-at l e.heading.label.place is

    apart : (q r : ℕ) (d e : Entry) → q < r → get_elem? o.log q ≡ some d → get_elem? o.log r ≡ some e → d.heading.label.place ≢ e.heading.label.place
    apart q r d e less at bt same =
        let s = authored q d at in
        let t = authored r e bt in
        let l : ℕ = e.heading.label.place in
        let x = one_here l d same in let y = one_here l e refl in let few = once l in
        dite (ℕ_discrete s.seat t.seat)
        (λ one.
        let author : t.author ≡ s.author = some-injective t.author s.author (sym t.name ∙ (ap (get_elem? o.names) (sym one) ∙ s.name)) in
        let also : get_elem? (pick s.author o.by o.log) (before s.author o.by r) ≡ some e = subst (λ a. get_elem? (pick a o.by o.log) (before a o.by r) ≡ some e) author t.place in
        let rise = before_rises s.author o.by q r s.by_author less in
        let both = two_terms (at_place l) (pick s.author o.by o.log) (before s.author o.by q) (before s.author o.by r) d e s.place also (λ z. omega (arith, z, rise)) in
        let all = term (λ (es : List Entry). total (at_place l) es) lists s.seat (pick s.author o.by o.log) s.list in
        omega arith)
        (λ two.
        let a = term (at_place l) (pick s.author o.by o.log) (before s.author o.by q) d s.place in
        let b = term (at_place l) (pick t.author o.by o.log) (before t.author o.by r) e t.place in
        let all = two_terms (λ (es : List Entry). total (at_place l) es) lists s.seat t.seat (pick s.author o.by o.log) (pick t.author o.by o.log) s.list t.list two in
        omega arith)

    pub places_differ : PlacesDiffer o.log
    places_differ i j a b at bt same = dite (ℕ_discrete i j) (λ e. e) (λ ne. absurd (dite (dec_lt i j) (λ lt. apart i j a b lt at bt same) (λ ge. apart j i b a (omega arith) bt at (sym same))))
