-- The lines of a report by the places of its operations.
use Rattle.std.specs.Prelude.{ℕ, List, [], ◌∷◌, ◌++◌, length, take, flat_map, slice_get, decimal, codes, Option, Some, None}
use Rattle.sock_words.specs.declared.outcome.Outcome.{Outcome}
use Rattle.sock_words.specs.OutcomeText.{outcome_text}
use Rattle.sock_words.specs.PrintedWords.{hex_text}
use Rattle.brpc_model.specs.Operations.{Operation, Label}
use Rattle.script_report.specs.declared.operations.OperationPlace.{OperationPlace}
use Rattle.script_report.specs.declared.links.ReportLabel.{ReportLabel}

-- where an operation stands
abbrev pub place_of : Operation → OperationPlace
place_of op = record { client = op.client; number = op.number }

-- `C.I OUTCOME`
abbrev pub outcome_text_line : OperationPlace → Outcome → List ℕ
outcome_text_line place outcome = decimal place.client ++ codes "." ++ decimal place.number ++ codes " " ++ outcome_text outcome ++ codes "\n"

-- a line for each operation that has an outcome
abbrev pub outcome_text_lines : List OperationPlace → List Outcome → List ℕ
outcome_text_lines [] outcomes = []
outcome_text_lines (place ∷ places) [] = []
outcome_text_lines (place ∷ places) (outcome ∷ outcomes) = outcome_text_line place outcome ++ outcome_text_lines places outcomes

-- a message that was accepted, by its label
abbrev pub label_of : ReportLabel → Label
label_of a = record { operation = a.operation; attempt = a.attempt }

-- `C.I.A`, where there is such an operation
abbrev pub label_at : Option OperationPlace → ℕ → List ℕ
label_at (Some place) attempt = decimal place.client ++ codes "." ++ decimal place.number ++ codes "." ++ decimal attempt
label_at None attempt = []

abbrev pub label_words : List OperationPlace → ReportLabel → List ℕ
label_words places a = label_at (slice_get places a.operation) a.attempt

-- the labels in order, each behind a space
abbrev pub labels_text : List OperationPlace → List ReportLabel → List ℕ
labels_text places order = flat_map (λ (a : ReportLabel). codes " " ++ label_words places a) order

-- `link K NAME accepted N placed P took T HEAD`
abbrev pub link_text : ℕ → List ℕ → ℕ → ℕ → List ℕ → List ℕ
link_text k name accepted placed took =
    codes "link " ++ decimal k ++ codes " " ++ name ++ codes " accepted " ++ decimal accepted ++ codes " placed " ++ decimal placed
    ++ codes " took " ++ decimal (length took) ++ codes " " ++ hex_text (take 32 took) ++ codes "\n"

-- `order K LABELS`
abbrev pub order_text : List OperationPlace → ℕ → List ReportLabel → List ℕ
order_text places k order = codes "order " ++ decimal k ++ labels_text places order ++ codes "\n"

-- both lines of a link
abbrev pub link_lines_text : List OperationPlace → ℕ → List ℕ → List ReportLabel → ℕ → List ℕ → List ℕ
link_lines_text places k name order placed took = link_text k name (length order) placed took ++ order_text places k order
