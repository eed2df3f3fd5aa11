-- The summary of a run: what became of its sends and its calls.
use Rattle.std.specs.Prelude.{ℕ, ◌+◌, ◌*◌, ◌≤◌, ◌^◌, Bool, true, false, not, ◌||◌, if◌then◌else◌, List, ◌++◌, length, count_by, sum_by, zip, map, codes, decimal}
use Rattle.sock_words.specs.declared.outcome.Outcome.{Outcome}
use Rattle.sock_words.specs.declared.outcome.Outcome.TheVariants.{Placed, Answered}
use Rattle.brpc_model.specs.Items.{Item, Send, Call, is_open, is_call}
use Rattle.brpc_model.specs.Operations.{Operation, operations}
use Rattle.script_report.specs.declared.sums.Sums.{Sums}

-- the operations of a script, each with its outcome
abbrev pub told_of : List Item → List Outcome → List (Item × Outcome)
told_of script outcomes = zip (map (λ (op : Operation). op.item) (operations script)) outcomes

-- ## One operation

abbrev pub is_send : Item → Bool
is_send (Send name bytes) = true
is_send other = false

-- a send whose message was taken whole
abbrev pub is_placed_send : Item → Outcome → Bool
is_placed_send (Send name bytes) (Placed link position) = true
is_placed_send item outcome = false

-- a call that was answered
abbrev pub is_answered_call : Item → Outcome → Bool
is_answered_call (Call call) (Answered id payload attachment) = true
is_answered_call item outcome = false

-- an operation other than an `open` with any other outcome
abbrev pub is_other : Item → Outcome → Bool
is_other item outcome = not (is_open item || (is_placed_send item outcome || is_answered_call item outcome))

-- how many bytes were placed
abbrev pub placed_bytes : Item → Outcome → ℕ
placed_bytes (Send name bytes) (Placed link position) = length bytes
placed_bytes item outcome = 0

-- how many bytes of payload were answered
abbrev pub answered_bytes : Item → Outcome → ℕ
answered_bytes (Call call) (Answered id payload attachment) = length payload
answered_bytes item outcome = 0

-- ## All of them

abbrev pub sums_of : List (Item × Outcome) → Sums
sums_of told = record {
  sends = count_by (λ (x : Item × Outcome). is_send x.0) told;
  placed = count_by (λ (x : Item × Outcome). is_placed_send x.0 x.1) told;
  placed_bytes = sum_by (λ (x : Item × Outcome). placed_bytes x.0 x.1) told;
  calls = count_by (λ (x : Item × Outcome). is_call x.0) told;
  answered = count_by (λ (x : Item × Outcome). is_answered_call x.0 x.1) told;
  answered_bytes = sum_by (λ (x : Item × Outcome). answered_bytes x.0 x.1) told;
  other = count_by (λ (x : Item × Outcome). is_other x.0 x.1) told;
}

-- ## As text

-- `load SEED CLIENTS OPS`
abbrev pub load_line : ℕ → ℕ → ℕ → List ℕ
load_line seed clients count = codes "load " ++ decimal seed ++ codes " " ++ decimal clients ++ codes " " ++ decimal count ++ codes "\n"

-- `sends N placed P bytes B`
abbrev pub sends_line : Sums → List ℕ
sends_line sums = codes "sends " ++ decimal sums.sends ++ codes " placed " ++ decimal sums.placed ++ codes " bytes " ++ decimal sums.placed_bytes ++ codes "\n"

-- `calls N answered A bytes B`
abbrev pub calls_line : Sums → List ℕ
calls_line sums = codes "calls " ++ decimal sums.calls ++ codes " answered " ++ decimal sums.answered ++ codes " bytes " ++ decimal sums.answered_bytes ++ codes "\n"

-- `other N`, and `end`
abbrev pub last_lines : ℕ → List ℕ
last_lines other = codes "other " ++ decimal other ++ codes "\nend\n"

-- the four lines of a summary
abbrev pub summary_text : ℕ → ℕ → ℕ → Sums → List ℕ
summary_text seed clients count sums = load_line seed clients count ++ sends_line sums ++ calls_line sums ++ last_lines sums.other

-- ## On the way

-- what one operation counts
abbrev pub one_of : Item → Outcome → Sums
one_of item outcome = record {
  sends = if is_send item then 1 else 0;
  placed = if is_placed_send item outcome then 1 else 0;
  placed_bytes = placed_bytes item outcome;
  calls = if is_call item then 1 else 0;
  answered = if is_answered_call item outcome then 1 else 0;
  answered_bytes = answered_bytes item outcome;
  other = if is_other item outcome then 1 else 0;
}

-- two sums together
abbrev pub together : Sums → Sums → Sums
together a b = record {
  sends = a.sends + b.sends;
  placed = a.placed + b.placed;
  placed_bytes = a.placed_bytes + b.placed_bytes;
  calls = a.calls + b.calls;
  answered = a.answered + b.answered;
  answered_bytes = a.answered_bytes + b.answered_bytes;
  other = a.other + b.other;
}

-- so many operations count no more than this
pub record AreFew (n : ℕ) (sums : Sums) : Type 0 where
  pub sends : sums.sends ≤ n
  pub placed : sums.placed ≤ n
  pub placed_bytes : sums.placed_bytes ≤ n * 2 ^ 64
  pub calls : sums.calls ≤ n
  pub answered : sums.answered ≤ n
  pub answered_bytes : sums.answered_bytes ≤ n * 2 ^ 64
  pub other : sums.other ≤ n
