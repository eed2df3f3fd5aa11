-- What an outline keeps of a script: its schedule, its links, and all that a report has of it.
use Rattle.std.proofs.Common.{◌≡◌, ℕ, zero, suc, ◌+◌, List, [], ◌∷◌, ◌++◌, map, length, flat_map, take, decimal, codes, slice_get, unwrap_or, option_map, refl, ap, ap₂, sym, ◌∙◌}
use Rattle.std.specs.Prelude.{Option, zip, filter}
use Rattle.std.specs.List.{cons_option}
use Rattle.std.proofs.lemmas.List.{length-replicate}
use Rattle.sock_words.specs.PrintedWords.{word, hex_text}
use Rattle.sock_words.specs.declared.outcome.Outcome.{Outcome}
use Rattle.sock_words.specs.declared.outcome.Outcome.TheVariants.{Placed}
use Rattle.sock_words.specs.declared.place_word.PlaceWord.{PlaceWord}
use Rattle.brpc_model.specs.Items.{Item, Slots, Requests, First, Client, Send, Sched, Tick, To, is_operation, opened_name}
use Rattle.brpc_model.specs.Operations.{Operation, Label, Turn, turn_of, schedule, operations, operations_from, link_names}
use Rattle.brpc_model.specs.PlaceWords.{IsReportText}
use Rattle.brpc_model.specs.Report.{LinkLine, Report, outcome_lines, label_text, link_lines, report_text}
use Rattle.script_report.specs.declared.operations.OperationPlace.{OperationPlace}
use Rattle.script_report.specs.declared.sums.Sums.{Sums}
use Rattle.script_report.specs.ReportLines.{place_of, outcome_text_lines}
use Rattle.script_report.specs.RunSummary.{one_of, together, told_of, sums_of, summary_text}
use Rattle.script_report.proofs.ReportLinesByPlaces.{outcomes_are}
use Rattle.script_report.proofs.Summed.{items_are, sums_cons}
use Rattle.script_run.specs.declared.report.Print.{Print}
use Rattle.script_run.specs.declared.report.Print.TheVariants as print
use Rattle.script_run.specs.Outlines.{outlined}
use Rattle.script_run.specs.Played.{IsPrintOf}

-- ## The schedule and the links

turn_same : (i : Item) → turn_of (outlined i) ≡ turn_of i
turn_same Client = refl
turn_same _ = refl

pub schedule_same : (script : List Item) → schedule (map outlined script) ≡ schedule script
schedule_same [] = refl
schedule_same (i ∷ is) = ap₂ (λ (o : Option Turn) (ts : List Turn). cons_option o ts) (turn_same i) (schedule_same is)

name_same : (i : Item) → opened_name (outlined i) ≡ opened_name i
name_same Client = refl
name_same _ = refl

names_same : (script : List Item) → link_names (map outlined script) ≡ link_names script
names_same [] = refl
names_same (i ∷ is) = ap₂ (λ (o : Option (List ℕ)) (ns : List (List ℕ)). cons_option o ns) (name_same i) (names_same is)

-- ## Where operations stand

places_same : (client number : ℕ) (script : List Item) → map place_of (operations_from client number (map outlined script)) ≡ map place_of (operations_from client number script)
places_same client number [] = refl
places_same client number (Client ∷ is) = places_same (client + 1) 1 is
places_same client number (Slots n ∷ is) = places_same client number is
places_same client number (Requests n ∷ is) = places_same client number is
places_same client number (First n ∷ is) = places_same client number is
places_same client number (Sched ∷ is) = places_same client number is
places_same client number (Tick seat n ∷ is) = places_same client number is
places_same client number (To seat kind ∷ is) = places_same client number is
places_same client number (_ ∷ is) = ap (λ (ps : List OperationPlace). (record { client = client; number = number }) ∷ ps) (places_same client (number + 1) is)

abbrev label_by : List OperationPlace → ℕ → ℕ → List ℕ
label_by places k attempt = unwrap_or (option_map (λ (p : OperationPlace). decimal p.client ++ 46 ∷ decimal p.number ++ 46 ∷ decimal attempt) (slice_get places k)) []

label_is : (ops : List Operation) (k attempt : ℕ) → unwrap_or (option_map (λ (op : Operation). decimal op.client ++ 46 ∷ decimal op.number ++ 46 ∷ decimal attempt) (slice_get ops k)) [] ≡ label_by (map place_of ops) k attempt
label_is [] zero attempt = refl
label_is [] (suc k) attempt = refl
label_is (op ∷ ops) zero attempt = refl
label_is (op ∷ ops) (suc k) attempt = label_is ops k attempt

-- ## The report

module _ (ops others : List Operation) (same : map place_of ops ≡ map place_of others) where
  label_same : (label : Label) → label_text ops label ≡ label_text others label
  label_same label = label_is ops label.operation label.attempt ∙ ap (λ ps. label_by ps label.operation label.attempt) same ∙ sym (label_is others label.operation label.attempt)

  links_same : (k : ℕ) (names : List (List ℕ)) (links : List LinkLine) → link_lines ops k names links ≡ link_lines others k names links
  links_same k [] links = refl
  links_same k (name ∷ names) [] = refl
  links_same k (name ∷ names) (link ∷ links) =
      let line = codes "link" ++ word (decimal k) ++ word name ++ codes " accepted" ++ word (decimal (length link.order)) ++ codes " placed" ++ word (decimal link.placed) ++ codes " took" ++ word (decimal (length link.took)) ++ word (hex_text (take 32 link.took)) ++ 10 ∷ [] in
      ap₂ (λ (order rest : List ℕ). line ++ (codes "order" ++ word (decimal k) ++ order ++ 10 ∷ []) ++ rest) (λ i. flat_map (λ (label : Label). word (label_same label i)) link.order) (links_same (k + 1) names links)

  lines_same : (os : List Outcome) → outcome_lines ops os ≡ outcome_lines others os
  lines_same os = sym (outcomes_are ops os) ∙ ap (λ ps. outcome_text_lines ps os) same ∙ outcomes_are others os

text_same : (script : List Item) (report : Report) → report_text (map outlined script) report ≡ report_text script report
text_same script report =
    let places = places_same 0 1 script in
    ap (λ ns. outcome_lines (operations (map outlined script)) report.outcomes ++ link_lines (operations (map outlined script)) 0 ns report.links ++ codes "end\n") (names_same script)
    ∙ ap₂ (λ (a b : List ℕ). a ++ b ++ codes "end\n") (lines_same (operations (map outlined script)) (operations script) places report.outcomes) (links_same (operations (map outlined script)) (operations script) places 0 (link_names script) report.links)

abbrev report_same : (script : List Item) (said : List (Option Outcome)) (words : List PlaceWord) (took : List (List ℕ)) (text : List ℕ) → IsReportText (map outlined script) said words took text → IsReportText script said words took text
report_same script said words took text r = record {
  report = r.report;
  told = record { outcomes = r.told.outcomes; line_each = r.told.line_each ∙ ap length (names_same script); links = r.told.links };
  is_text = r.is_text ∙ text_same script r.report;
}

-- ## Its summary

counts_same : (i : Item) (o : Outcome) → one_of (outlined i) o ≡ one_of i o
counts_same (Send name bytes) (Placed link position) = λ i. record { sends = 1; placed = 1; placed_bytes = length-replicate {A = ℕ} (length bytes) 0 i; calls = 0; answered = 0; answered_bytes = 0; other = 0 }
counts_same (Send name bytes) _ = refl
counts_same Client o = refl
counts_same _ o = refl

kept_same : (script : List Item) → filter is_operation (map outlined script) ≡ map outlined (filter is_operation script)
kept_same [] = refl
kept_same (Client ∷ is) = kept_same is
kept_same (Slots n ∷ is) = kept_same is
kept_same (Requests n ∷ is) = kept_same is
kept_same (First n ∷ is) = kept_same is
kept_same (Sched ∷ is) = kept_same is
kept_same (Tick seat n ∷ is) = kept_same is
kept_same (To seat kind ∷ is) = kept_same is
kept_same (i ∷ is) = ap (λ (l : List Item). outlined i ∷ l) (kept_same is)

each_same : (is : List Item) (os : List Outcome) → sums_of (zip (map outlined is) os) ≡ sums_of (zip is os)
each_same [] os = refl
each_same (i ∷ is) [] = refl
each_same (i ∷ is) (o ∷ os) = sums_cons (outlined i) o (zip (map outlined is) os) ∙ ap₂ together (counts_same i o) (each_same is os) ∙ sym (sums_cons i o (zip is os))

pub sums_same : (script : List Item) (os : List Outcome) → sums_of (told_of (map outlined script) os) ≡ sums_of (told_of script os)
sums_same script os =
    ap (λ (l : List Item). sums_of (zip l os)) (items_are 0 1 (map outlined script) ∙ kept_same script) ∙ each_same (filter is_operation script) os
    ∙ ap (λ (l : List Item). sums_of (zip l os)) (sym (items_are 0 1 script))

-- ## What is printed

pub print_same : (shows : Print) (script : List Item) (said : List (Option Outcome)) (words : List PlaceWord) (took : List (List ℕ)) (text : List ℕ) → IsPrintOf shows (map outlined script) said words took text → IsPrintOf shows script said words took text
print_same print.Report script said words took text r = report_same script said words took text r
print_same (print.Summary load) script said words took text s = record {
  whole = s.whole;
  reported = report_same script said words took s.whole s.reported;
  sums = s.sums ∙ ap (λ (n : Sums). summary_text load.seed load.clients load.operations n) (sums_same script s.reported.report.outcomes);
}
