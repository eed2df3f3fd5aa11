-- The lines of the orders are those of the report.
use Rattle.std.proofs.Common.{◌≡◌, ℕ, zero, suc, ◌+◌, ◌<◌, List, [], ◌∷◌, ◌++◌, append_assoc, append-nil, cond, drop, length, map, flat_map, count_by, take, decimal, codes, slice_get, Option, Some, None, refl, ap, sym, ◌∙◌, subst, ◌≤◌, arith}
use Rattle.std.proofs.lemmas.Option.{slice_get-map, slice_get_within, same_Some}
use Rattle.std.proofs.lemmas.List.{length-map}
use Rattle.std.proofs.lemmas.List.Folds.{fold-map}
use Rattle.std.specs.Option.{option_map, unwrap_or}
use Rattle.sock_words.specs.declared.outcome.Outcome.{Outcome}
use Rattle.sock_words.specs.declared.place_word.PlaceWord.{PlaceWord}
use Rattle.sock_words.specs.PrintedWords.{word, hex_text}
use Rattle.brpc_model.specs.Items.{Item}
use Rattle.brpc_model.specs.Operations.{Operation, Label, operations, link_names}
use Rattle.brpc_model.specs.Report.{LinkLine, label_text, link_lines}
use Rattle.script_report.specs.declared.operations.OperationPlace.{OperationPlace}
use Rattle.script_report.specs.declared.links.ReportLabel.{ReportLabel}
use Rattle.script_report.specs.ReportLines.{place_of, label_of, label_at, label_words, labels_text, link_text, order_text, outcome_text_line, outcome_text_lines}
use Rattle.brpc_model.specs.PlaceWords.{ArePlaces, is_placed, outcome_of, outcomes_from, took_at, IsLineOf, IsReportText}
use Rattle.script_report.specs.OrderRows.{AreRows, row_at, placed_in, rows_text, lines_of}
use Rattle.script_report.proofs.ReportLinesByPlaces.{outcomes_are, no_more}
use Rattle.script_report.proofs.OrderRows.{row_is_order}

-- ## As text

label_is : (ops : List Operation) (a : ReportLabel) → label_words (map place_of ops) a ≡ label_text ops (label_of a)
label_is ops a = ap (λ (o : Option OperationPlace). label_at o a.attempt) (slice_get-map place_of ops a.operation) ∙ found (slice_get ops a.operation)
  where
    found : (o : Option Operation) → label_at (option_map place_of o) a.attempt ≡ unwrap_or (option_map (λ (op : Operation). decimal op.client ++ 46 ∷ decimal op.number ++ 46 ∷ decimal a.attempt) o) []
    found None = refl
    found (Some op) = simp append_assoc refl

labels_are : (ops : List Operation) (row : List ReportLabel) → labels_text (map place_of ops) row ≡ flat_map (λ (label : Label). word (label_text ops label)) (map label_of row)
labels_are ops [] = refl
labels_are ops (a ∷ row) = ap (λ (l : List ℕ). (codes " " ++ l) ++ labels_text (map place_of ops) row) (label_is ops a) ∙ ap (λ (l : List ℕ). word (label_text ops (label_of a)) ++ l) (labels_are ops row)

first_is : (k : ℕ) (name : List ℕ) (accepted placed : ℕ) (took : List ℕ) → link_text k name accepted placed took ≡
    codes "link" ++ word (decimal k) ++ word name ++ codes " accepted" ++ word (decimal accepted) ++ codes " placed" ++ word (decimal placed) ++ codes " took" ++ word (decimal (length took)) ++ word (hex_text (take 32 took)) ++ 10 ∷ []
first_is k name accepted placed took = simp append_assoc refl

second_is : (ops : List Operation) (k : ℕ) (row : List ReportLabel) → order_text (map place_of ops) k row ≡ codes "order" ++ word (decimal k) ++ flat_map (λ (label : Label). word (label_text ops label)) (map label_of row) ++ 10 ∷ []
second_is ops k row = ap (λ (l : List ℕ). codes "order " ++ decimal k ++ l ++ codes "\n") (labels_are ops row)

rows_are : (ops : List Operation) (words : List PlaceWord) (rows : List (List ReportLabel)) (took : List (List ℕ)) (k : ℕ) (names : List (List ℕ)) →
    rows_text (map place_of ops) words rows took k names ≡ link_lines ops k names (lines_of words rows took k names)
rows_are ops words rows took k [] = refl
rows_are ops words rows took k (name ∷ names) =
    let row = row_at rows k in
    let placed = placed_in words row in
    let bytes = took_at took k in
    let line = codes "link" ++ word (decimal k) ++ word name ++ codes " accepted" ++ word (decimal (length (map label_of row))) ++ codes " placed" ++ word (decimal placed) ++ codes " took" ++ word (decimal (length bytes)) ++ word (hex_text (take 32 bytes)) ++ 10 ∷ [] in
    let order = codes "order" ++ word (decimal k) ++ flat_map (λ (label : Label). word (label_text ops label)) (map label_of row) ++ 10 ∷ [] in
    ap (λ (n : ℕ). (link_text k name n placed bytes ++ order_text (map place_of ops) k row) ++ rows_text (map place_of ops) words rows took (k + 1) names) (sym (length-map row label_of))
    ∙ ap (λ (l : List ℕ). (l ++ order_text (map place_of ops) k row) ++ rows_text (map place_of ops) words rows took (k + 1) names) (first_is k name (length (map label_of row)) placed bytes)
    ∙ ap (λ (l : List ℕ). (line ++ l) ++ rows_text (map place_of ops) words rows took (k + 1) names) (second_is ops k row)
    ∙ ap (λ (l : List ℕ). (line ++ order) ++ l) (rows_are ops words rows took (k + 1) names)

-- ## As data

length_lines : (words : List PlaceWord) (rows : List (List ReportLabel)) (took : List (List ℕ)) (k : ℕ) (names : List (List ℕ)) → length (lines_of words rows took k names) ≡ length names
length_lines words rows took k [] = refl
length_lines words rows took k (name ∷ names) = let e : length (lines_of words rows took (k + 1) names) ≡ length names = length_lines words rows took (k + 1) names in omega arith

line_at : (words : List PlaceWord) (rows : List (List ReportLabel)) (took : List (List ℕ)) (k : ℕ) (names : List (List ℕ)) (i j : ℕ) (line : LinkLine) → k + i ≡ j → slice_get (lines_of words rows took k names) i ≡ Some line →
    line ≡ record { order = map label_of (row_at rows j); placed = placed_in words (row_at rows j); took = took_at took j }
line_at words rows took k [] i j line e h = absurd (cc)
line_at words rows took k (name ∷ names) zero j line e h = let at : k ≡ j = omega arith in
    sym (same_Some _ line h) ∙ ap (λ (n : ℕ). let l : LinkLine = record { order = map label_of (row_at rows n); placed = placed_in words (row_at rows n); took = took_at took n } in l) at
line_at words rows took k (name ∷ names) (suc i) j line e h = line_at words rows took (k + 1) names i j line (omega arith) h

placed_labels : (words : List PlaceWord) (row : List ReportLabel) → placed_in words row ≡ count_by (is_placed words) (map label_of row)
placed_labels words row = sym (fold-map (λ (n : ℕ) (l : Label). n + cond (is_placed words l) 1 0) label_of 0 row)

-- a link's row is there
row_there : (rows : List (List ReportLabel)) (k : ℕ) → k < length rows → slice_get rows k ≡ Some (row_at rows k)
row_there [] k low = absurd (omega arith)
row_there (row ∷ rows) zero low = refl
row_there (row ∷ rows) (suc k) low = row_there rows k (omega arith)

each_line : (words : List PlaceWord) (rows : List (List ReportLabel)) (took : List (List ℕ)) (names : List (List ℕ)) → ArePlaces words → length rows ≡ length names → AreRows words (length words) rows →
    (k : ℕ) (line : LinkLine) → slice_get (lines_of words rows took 0 names) k ≡ Some line → IsLineOf words k (took_at took k) line
each_line words rows took names places same are k line found =
    let low : k < length (lines_of words rows took 0 names) = slice_get_within _ k line found in
    let low' : k < length rows = omega (arith, length_lines words rows took 0 names) in
    subst (λ (l : LinkLine). IsLineOf words k (took_at took k) l) (sym (line_at words rows took 0 names k k line (omega arith) found))
    (record { order = row_is_order words k (row_at rows k) places (are k (row_at rows k) (row_there rows k low')); placed = placed_labels words (row_at rows k); took = refl })

-- from what each part appends
pub report_of_orders : (script : List Item) (said : List (Option Outcome)) (words : List PlaceWord) (took : List (List ℕ)) (rows : List (List ReportLabel)) (places places' : List OperationPlace) (rows' : List (List ReportLabel)) (e a b text : List ℕ) → ArePlaces words →
    length rows ≡ length (link_names script) → AreRows words (length words) rows → places ≡ map place_of (operations script) → places' ≡ map place_of (operations script) → rows' ≡ rows →
    e ≡ [] → a ≡ e ++ outcome_text_lines places (outcomes_from words 0 said) → b ≡ a ++ rows_text places' words rows' took 0 (link_names script) → text ≡ b ++ codes "end\n" → IsReportText script said words took text
report_of_orders script said words took rows places places' rows' e a b text are same are_rows at at' same_rows empty first second last = record {
  report = record { outcomes = outcomes_from words 0 said; links = lines_of words rows took 0 (link_names script) };
  told = record { outcomes = refl; line_each = length_lines words rows took 0 (link_names script); links = each_line words rows took (link_names script) are same are_rows };
  is_text = last ∙ ap (λ (l : List ℕ). l ++ codes "end\n") (second ∙ (ap (λ (rs : List (List ReportLabel)). a ++ rows_text places' words rs took 0 (link_names script)) same_rows
      ∙ (ap (λ (ps : List OperationPlace). a ++ rows_text ps words rows took 0 (link_names script)) at'
      ∙ (ap (λ (l : List ℕ). a ++ l) (rows_are (operations script) words rows took 0 (link_names script))
      ∙ ap (λ (l : List ℕ). l ++ link_lines (operations script) 0 (link_names script) (lines_of words rows took 0 (link_names script)))
      (first ∙ (ap (λ (l : List ℕ). l ++ outcome_text_lines places (outcomes_from words 0 said)) empty
      ∙ (ap (λ (ps : List OperationPlace). outcome_text_lines ps (outcomes_from words 0 said)) at ∙ outcomes_are (operations script) (outcomes_from words 0 said))))))));
}

-- the text is whole once the last outcome is printed
pub told_ended : (text all : List ℕ) (places : List OperationPlace) (words : List PlaceWord) (said : List (Option Outcome)) (k n : ℕ) → text ++ outcome_text_lines places (outcomes_from words k (drop n said)) ≡ all → length said ≤ n → text ≡ all
told_ended text all places words said k n e end_ = sym (append-nil text) ∙ (ap (λ (l : List ℕ). text ++ l) (sym (ap (λ (os : List (Option Outcome)). outcome_text_lines places (outcomes_from words k os)) (drop_end said n end_) ∙ no_more places)) ∙ e)
  where
    drop_end : (os : List (Option Outcome)) (i : ℕ) → length os ≤ i → drop i os ≡ []
    drop_end [] zero h = refl
    drop_end [] (suc i) h = refl
    drop_end (o ∷ os) zero h = absurd (omega arith)
    drop_end (o ∷ os) (suc i) h = drop_end os i (omega arith)

-- ## One more outcome

drop_at : {A : Type 0} (xs : List A) (i : ℕ) (x : A) → slice_get xs i ≡ Some x → drop i xs ≡ x ∷ drop (i + 1) xs
drop_at [] i x e = absurd (cc)
drop_at (y ∷ ys) zero x e = ap (λ z. z ∷ ys) (same_Some y x e)
drop_at (y ∷ ys) (suc i) x e = let next : suc i + 1 ≡ suc (i + 1) = omega arith in drop_at ys i x e ∙ ap (λ m. x ∷ drop m (y ∷ ys)) (sym next)

line_first : (places : List OperationPlace) (words : List PlaceWord) (said : List (Option Outcome)) (k : ℕ) (place : OperationPlace) (here : Option Outcome) →
    outcome_text_lines (place ∷ places) (outcomes_from words k (here ∷ said)) ≡ outcome_text_line place (outcome_of words k here) ++ outcome_text_lines places (outcomes_from words (k + 1) said)
line_first places words said k place here = refl

-- the line of the next operation is appended
pub told_more : (text line new all : List ℕ) (places : List OperationPlace) (words : List PlaceWord) (said : List (Option Outcome)) (k n next : ℕ) (place : OperationPlace) (here : Option Outcome) →
    k ≡ n → next ≡ n + 1 → slice_get places k ≡ Some place → slice_get said n ≡ Some here → line ≡ outcome_text_line place (outcome_of words k here) → new ≡ text ++ line →
    text ++ outcome_text_lines (drop k places) (outcomes_from words k (drop n said)) ≡ all → new ++ outcome_text_lines (drop next places) (outcomes_from words next (drop (n + 1) said)) ≡ all
told_more text line new all places words said k n next place here same at there unsaid is grown before =
    let later = outcome_text_lines (drop (k + 1) places) (outcomes_from words (k + 1) (drop (n + 1) said)) in
    let step : next ≡ k + 1 = omega (arith, same, at) in
    ap (λ m. new ++ outcome_text_lines (drop m places) (outcomes_from words m (drop (n + 1) said))) step
    ∙ ap (λ l. l ++ later) grown
    ∙ append_assoc text line later
    ∙ ap (λ l. text ++ (l ++ later)) is
    ∙ ap (λ l. text ++ l) (sym (line_first (drop (k + 1) places) words (drop (n + 1) said) k place here))
    ∙ sym (ap (λ (os : List (Option Outcome)). text ++ outcome_text_lines (place ∷ drop (k + 1) places) (outcomes_from words k os)) (drop_at said n here unsaid))
    ∙ sym (ap (λ (ps : List OperationPlace). text ++ outcome_text_lines ps (outcomes_from words k (drop n said))) (drop_at places k place there))
    ∙ before
