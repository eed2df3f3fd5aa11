-- What clients open, and the names that the setup opened.
use Rattle.std.proofs.Common.{◌≡◌, ℕ, ◌+◌, ◌<◌, ◌≤◌, Bool, true, false, ◌==◌, ◌&&◌, ◌||◌, if◌then◌else◌, List, [], ◌∷◌, ◌++◌, length, get_or, drop, sym, ap, ◌∙◌, arith}
use Rattle.std.specs.Prelude.{All}
use Rattle.std.proofs.lemmas.List.{drop_more, drop_all, append_assoc, append-nil}
use Rattle.std.proofs.lemmas.List.Elements.{All-nil, All-cons, All-append}
use Rattle.sock_words.specs.declared.plain.Plan.{Plan}
use Rattle.corr_core.specs.declared.marks.Plan as id_plan
use Rattle.seat_programs.specs.declared.task.Op.{Op}
use Rattle.seat_programs.specs.declared.task.Op.TheVariants as ops
use Rattle.seat_programs.specs.declared.task.Task.{Task}
use Rattle.call_client.specs.rpc_client.specs.declared.acting.Told.{Told}
use Rattle.call_client.specs.ClientBetweenOperations.{MayMake}
use Rattle.call_client.specs.ClientRun.{left_by, MayMakeAll}
use Rattle.call_run.specs.declared.opened.Opening.{Opening}
use Rattle.call_run.specs.Threads.{opens_in, opens_of, is_opened, opened_in, opening_in, openings, name_if, opened_names}

-- ## Opens

pub opens_few : (ts : List Task) → opens_of ts ≤ length ts
opens_few [] = omega arith
opens_few (t ∷ ts) = let a = opens_few ts in let b = in_few t.op in omega arith
  where
    in_few : (o : Op) → opens_in o ≤ 1
    in_few (ops.Open n k) = omega arith
    in_few _ = omega arith

-- the `open`s so far and of the tasks that are left are all
pub openings_on : (found more : List Opening) (left rest : List Task) (t : Task) (all : List Opening) → found ++ openings left ≡ all → left ≡ t ∷ rest → more ≡ found ++ opening_in t.number t.op → more ++ openings rest ≡ all
openings_on found more left rest t all h l e = ap (λ x. x ++ openings rest) e ∙ (append_assoc found (opening_in t.number t.op) (openings rest) ∙ (sym (ap (λ ts. found ++ openings ts) l) ∙ h))

pub openings_all : (found : List Opening) (left : List Task) (all : List Opening) → found ++ openings left ≡ all → length left ≡ 0 → found ≡ all
openings_all found [] all h e = sym (append-nil found) ∙ h
openings_all found (t ∷ ts) all h e = absurd (omega arith)

-- ## What the setup told

abbrev tells : ℕ → Told → Bool
tells n t = (t.number == n) && is_opened t.outcome

module _ (n : ℕ) (told : List Told) (i : ℕ) (t : Told) (lt : i < length told) (at : t ≡ get_or told i t) where
  one_on : opened_in n (drop i told) ≡ (tells n t || opened_in n (drop (i + 1) told))
  one_on = ap (opened_in n) (drop_more told i t lt ∙ ap (λ (x : Told). x ∷ drop (i + 1) told) (sym at))

  pub opened_on : false ≡ tells n t → opened_in n (drop i told) ≡ opened_in n told → opened_in n (drop (i + 1) told) ≡ opened_in n told
  opened_on not e = ap (λ (b : Bool). b || opened_in n (drop (i + 1) told)) not ∙ (sym one_on ∙ e)

  pub opened_here : true ≡ tells n t → opened_in n (drop i told) ≡ opened_in n told → true ≡ opened_in n told
  opened_here is e = ap (λ (b : Bool). b || opened_in n (drop (i + 1) told)) is ∙ (sym one_on ∙ e)

pub opened_none : (n : ℕ) (told : List Told) (i : ℕ) → length told ≤ i → opened_in n (drop i told) ≡ opened_in n told → false ≡ opened_in n told
opened_none n told i le e = sym (ap (opened_in n) (drop_all i told le)) ∙ e

-- ## Names

pub if_few : (told : List Told) (o : Opening) → length (name_if told o) ≤ 1
if_few told o = by (opened_in o.number told)
  where
    by : (b : Bool) → length (if b then o.name ∷ [] else []) ≤ 1
    by true = omega arith
    by false = omega arith

pub names_on : (told : List Told) (os : List Opening) (i : ℕ) (o : Opening) (names more : List ℕ) → i < length os → names ++ opened_names told (drop i os) ≡ opened_names told os → more ≡ names ++ name_if told (get_or os i o) → more ++ opened_names told (drop (i + 1) os) ≡ opened_names told os
names_on told os i o names more lt e m = ap (λ l. l ++ opened_names told (drop (i + 1) os)) m ∙ (append_assoc names (name_if told (get_or os i o)) (opened_names told (drop (i + 1) os)) ∙ (sym (ap (λ l. names ++ opened_names told l) (drop_more os i o lt)) ∙ e))

pub names_all : (told : List Told) (os : List Opening) (i : ℕ) (names : List ℕ) → length os ≤ i → names ++ opened_names told (drop i os) ≡ opened_names told os → names ≡ opened_names told os
names_all told os i names le e = sym (append-nil names) ∙ (sym (ap (λ l. names ++ opened_names told l) (drop_all i os le)) ∙ e)

-- they are names of the table
module _ (p : Plan) (q : id_plan.Plan) (told : List Told) where
  abbrev fits : List Opening → Type 0
  fits os = All (λ (n : ℕ). n < p.names) (opened_names told os)

  one_fits : (number name : ℕ) → name < p.names → All (λ (n : ℕ). n < p.names) (name_if told (record { number = number; name = name }))
  one_fits number name low = by (opened_in number told)
    where
      by : (b : Bool) → All (λ (n : ℕ). n < p.names) (if b then name ∷ [] else [])
      by true = All-cons (λ (n : ℕ). n < p.names) name [] low (All-nil (λ (n : ℕ). n < p.names))
      by false = All-nil (λ (n : ℕ). n < p.names)

  more_fits : (number : ℕ) (o : Op) (passes : ℕ) (os : List Opening) → MayMake p q (record { number = number; op = o }) passes → fits os → fits (opening_in number o ++ os)
  more_fits number (ops.Open n k) passes os may rest = All-append (λ (x : ℕ). x < p.names) (name_if told (record { number = number; name = n })) (opened_names told os) (one_fits number n may.needs.0) rest
  more_fits number _ passes os may rest = rest

  pub names_fit : (ts : List Task) (passes : ℕ) → MayMakeAll p q ts passes → fits (openings ts)
  names_fit [] passes m = All-nil (λ (n : ℕ). n < p.names)
  names_fit (t ∷ ts) passes m = more_fits t.number t.op passes (openings ts) m.0 (names_fit ts (left_by t.op passes) m.1)
