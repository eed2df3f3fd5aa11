-- The report of a run, as data and as text.
use Rattle.std.specs.Prelude.{ℕ, ◌+◌, List, [], ◌∷◌, ◌++◌, length, take, flat_map, slice_get, decimal, codes, unwrap_or, option_map}
use Rattle.sock_words.specs.declared.outcome.Outcome.{Outcome}
use Rattle.sock_words.specs.PrintedWords.{word, hex_text}
use Rattle.sock_words.specs.OutcomeText.{outcome_text}
use Rattle.brpc_model.specs.Items.{Item}
use Rattle.brpc_model.specs.Operations.{Operation, Label, operations, link_names}

-- what is reported of a link: the labels that it accepted in their order, how many of them are placed, and what it took
pub record LinkLine : Type 0 where
  pub order : List Label
  pub placed : ℕ
  pub took : List ℕ

-- an outcome for each operation in the order of the script, and a line for each link
pub record Report : Type 0 where
  pub outcomes : List Outcome
  pub links : List LinkLine

-- ## As text

-- `C.I OUTCOME`
abbrev pub outcome_line : Operation → Outcome → List ℕ
outcome_line op outcome = decimal op.client ++ 46 ∷ decimal op.number ++ word (outcome_text outcome) ++ 10 ∷ []

-- a line for each operation, in the order of the script
abbrev pub outcome_lines : List Operation → List Outcome → List ℕ
outcome_lines [] outcomes = []
outcome_lines (op ∷ ops) [] = []
outcome_lines (op ∷ ops) (outcome ∷ outcomes) = outcome_line op outcome ++ outcome_lines ops outcomes

-- `C.I.A`
abbrev pub label_text : List Operation → Label → List ℕ
label_text ops label = unwrap_or (option_map (λ (op : Operation). decimal op.client ++ 46 ∷ decimal op.number ++ 46 ∷ decimal label.attempt) (slice_get ops label.operation)) []

-- `link K NAME accepted N placed P took T HEAD` and `order K LABELS`
abbrev pub link_lines : List Operation → ℕ → List (List ℕ) → List LinkLine → List ℕ
link_lines ops k [] links = []
link_lines ops k (name ∷ names) [] = []
link_lines ops k (name ∷ names) (link ∷ links) =
    (codes "link" ++ word (decimal k) ++ word name
    ++ codes " accepted" ++ word (decimal (length link.order)) ++ codes " placed" ++ word (decimal link.placed)
    ++ codes " took" ++ word (decimal (length link.took)) ++ word (hex_text (take 32 link.took)) ++ 10 ∷ [])
    ++ (codes "order" ++ word (decimal k) ++ flat_map (λ label. word (label_text ops label)) link.order ++ 10 ∷ [])
    ++ link_lines ops (k + 1) names links

-- the text of a report
abbrev pub report_text : List Item → Report → List ℕ
report_text script report =
    outcome_lines (operations script) report.outcomes
    ++ link_lines (operations script) 0 (link_names script) report.links
    ++ codes "end\n"
