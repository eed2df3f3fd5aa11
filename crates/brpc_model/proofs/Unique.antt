-- What a run leaves tells one report: so a report that it tells has the text that was printed.
use Rattle.std.proofs.Common.{◌≡◌, ℕ, zero, suc, ◌<◌, List, [], ◌∷◌, length, count_by, slice_get, Option, Some, None, refl, ap, sym, ◌∙◌, subst, arith}
use Rattle.std.proofs.lemmas.Option.{slice_get_within, same_Some}
use Rattle.sock_words.specs.declared.outcome.Outcome.{Outcome}
use Rattle.sock_words.specs.declared.place_word.PlaceWord.{PlaceWord}
use Rattle.brpc_model.specs.Items.{Item}
use Rattle.brpc_model.specs.Operations.{Label}
use Rattle.brpc_model.specs.Report.{LinkLine, Report, report_text}
use Rattle.brpc_model.specs.PlaceWords.{IsOrder, is_placed, took_at, IsLineOf, IsReportOf, IsReportText}

-- lists with the same elements at each place are equal
same_places : {A : Type 0} (xs ys : List A) → ((i : ℕ) (x : A) → slice_get xs i ≡ Some x → slice_get ys i ≡ Some x) → ((i : ℕ) (x : A) → slice_get ys i ≡ Some x → slice_get xs i ≡ Some x) → xs ≡ ys
same_places [] [] h g = refl
same_places [] (y ∷ ys) h g = let e : None ≡ Some y = g 0 y refl in absurd (cc)
same_places (x ∷ xs) [] h g = let e : None ≡ Some x = h 0 x refl in absurd (cc)
same_places {A} (x ∷ xs) (y ∷ ys) h g = ap (λ (z : A). z ∷ xs) (sym (same_Some y x (h 0 x refl))) ∙ ap (λ (zs : List A). y ∷ zs) (same_places xs ys (λ i z e. h (suc i) z e) (λ i z e. g (suc i) z e))

-- a link has one order
pub only_order : (words : List PlaceWord) (link : ℕ) (a b : List Label) → IsOrder words link a → IsOrder words link b → a ≡ b
only_order words link a b h g = same_places a b (λ i l e. (g i l).1 ((h i l).0 e)) (λ i l e. (h i l).1 ((g i l).0 e))

only_line : (words : List PlaceWord) (link : ℕ) (bytes : List ℕ) (a b : LinkLine) → IsLineOf words link bytes a → IsLineOf words link bytes b → a ≡ b
only_line words link bytes a b h g =
    let order : a.order ≡ b.order = only_order words link a.order b.order h.order g.order in
    let placed : a.placed ≡ b.placed = h.placed ∙ (ap (count_by (is_placed words)) order ∙ sym g.placed) in
    let took : a.took ≡ b.took = h.took ∙ sym g.took in
    ap (λ (o : List Label). let l : LinkLine = record { order = o; placed = a.placed; took = a.took } in l) order
    ∙ (ap (λ (n : ℕ). let l : LinkLine = record { order = b.order; placed = n; took = a.took } in l) placed
    ∙ ap (λ (t : List ℕ). let l : LinkLine = record { order = b.order; placed = b.placed; took = t } in l) took)

there : {A : Type 0} (xs : List A) (i : ℕ) → i < length xs → (x : A) × (slice_get xs i ≡ Some x)
there [] i low = absurd (omega arith)
there (x ∷ xs) zero low = (x, refl)
there (x ∷ xs) (suc i) low = there xs i (omega arith)

-- the line of one report is in the other
line_too : (script : List Item) (said : List (Option Outcome)) (words : List PlaceWord) (took : List (List ℕ)) (a b : Report) → IsReportOf script said words took a → IsReportOf script said words took b →
    (k : ℕ) (line : LinkLine) → slice_get a.links k ≡ Some line → slice_get b.links k ≡ Some line
line_too script said words took a b h g k line e =
    let low : k < length a.links = slice_get_within a.links k line e in
    let found = there b.links k (subst (λ (n : ℕ). k < n) (h.line_each ∙ sym g.line_each) low) in
    found.1 ∙ ap (λ (l : LinkLine). Some l) (only_line words k (took_at took k) found.0 line (g.links k found.0 found.1) (h.links k line e))

pub only_report : (script : List Item) (said : List (Option Outcome)) (words : List PlaceWord) (took : List (List ℕ)) (a b : Report) → IsReportOf script said words took a → IsReportOf script said words took b → a ≡ b
only_report script said words took a b h g =
    let links : a.links ≡ b.links = same_places a.links b.links (line_too script said words took a b h g) (line_too script said words took b a g h) in
    ap (λ (os : List Outcome). let r : Report = record { outcomes = os; links = a.links } in r) (h.outcomes ∙ sym g.outcomes) ∙ ap (λ (ls : List LinkLine). let r : Report = record { outcomes = b.outcomes; links = ls } in r) links

-- the text is that of a report of which this is known
pub text_is : (script : List Item) (said : List (Option Outcome)) (words : List PlaceWord) (took : List (List ℕ)) (text : List ℕ) (report : Report) → IsReportText script said words took text → IsReportOf script said words took report → text ≡ report_text script report
text_is script said words took text report h g = h.is_text ∙ ap (report_text script) (only_report script said words took h.report report h.told g)
