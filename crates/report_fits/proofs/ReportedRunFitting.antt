-- A run of a script, as it is reported, fits: what is told of it gives what a report has to say.
use Rattle.std.proofs.Common.{◌≡◌, ◌≢◌, ℕ, zero, suc, ◌+◌, ◌*◌, ◌<◌, ◌≤◌, ◌⊎◌, inl, inr, Bool, true, false, if◌then◌else◌, List, [], ◌∷◌, length, flat_map, zip, slice_get, nat_lt, nat_le, bytes_eq, option_and_then, Option, Some, None, IfSome, Contains, refl, ap, sym, ◌∙◌, subst, arith}
use Rattle.std.specs.Prelude.{IsSome}
use Rattle.std.proofs.lemmas.Bool.Decides.{nat_tests}
use Rattle.std.proofs.lemmas.Option.{slice_get_within}
use Rattle.std.proofs.lemmas.Slice.Eq.{bytes_eq-Decides}
use Rattle.std.specs.List.{AllByRecursion}
use Rattle.sock_words.specs.declared.outcome.Outcome.{Outcome}
use Rattle.sock_words.specs.declared.outcome.Outcome.TheVariants.{Opened, Unopened, Gone, Full, Placed, Dropped, Failed, Expired}
use Rattle.brpc_model.specs.Items.{Item, Send, Call, Expire, Fail, CallLine, sought_name}
use Rattle.brpc_model.specs.Operations.{Operation, Label, operations, link_names, name_of as label_name}
use Rattle.brpc_model.specs.LinePlaceFaults.{names}
use Rattle.brpc_model.specs.MessageOfLabel.{id_at, shown_id}
use Rattle.brpc_model.specs.ReturnedLink.{LinkEnd}
use Rattle.brpc_model.specs.Report.{LinkLine, report_text}
use Rattle.brpc_model.specs.PlaceWords.{word_at, outcome_by_word, took_at}
use Rattle.brpc_model.specs.Run.{Run, IsOperation, HasOutcome, IsLinkOf, BecameSocket, AreGiven, StandsIn}
use Rattle.brpc_model.specs.Order.{EachBefore, TookInOrder, InOwnOrder}
use Rattle.brpc_model.specs.LinkFailureCauses.{AreFails}
use Rattle.brpc_model.specs.Attempts.{attempt}
use Rattle.brpc_model.specs.OutcomeCauses.{SendCause, Cause}
use Rattle.brpc_model.specs.ReportFits.{FitsLink, FitsOnce, FitsRun, IsMade, Shows, AreApart, count_outcomes, is_fail_of, is_open_of}
use Rattle.brpc_model.specs.Complete.{Completeness, FitsWhole, IsUntroubled, IsServed, SendDone, CallDone}
use Rattle.seat_programs.specs.declared.task.Op.{Op}
use Rattle.seat_programs.specs.declared.task.Op.TheVariants as ops
use Rattle.seat_programs.specs.Tasks.{name_number, numbered, number_of, asked_of, op_of, plan_of}
use Rattle.seat_programs.specs.ScriptSetupToEnding.{all_tasks, place_words}
use Rattle.seat_programs.specs.Explained.{Made}
use Rattle.seat_programs.specs.ExplainedCalls as told
use Rattle.seat_programs.specs.ExplainedCalls.{Accepted, label as number_of_label}
use Rattle.report_fits.specs.OwedInCalmRuns.{IsCalm}
use Rattle.script_facts.proofs.FilteredLists.{within, some_is, contains_from, has_from, all_from, all_at, all_map, before_from, before_at}
use Rattle.script_facts.proofs.Flat.{flat_before}
use Rattle.script_facts.proofs.CountingPlaces.{HasPlace, places, passing, passing_length, passing_pass, passing_apart, Passes, passes_at, count_tally}
use Rattle.script_facts.proofs.TaskLemmas.{numbers_at, asks_at}
use Rattle.report_fits.proofs.ReportedOutcomes.{is_said, outcomes_length, untold_outcome, SaidOrPlaced}
use Rattle.report_fits.proofs.OrdersOfPlaceWords as orders
use Rattle.script_facts.proofs.KnownScript as known
use Rattle.report_fits.proofs.LinkOrderLines.{Given}
use Rattle.report_fits.proofs.LinkOrderLines as lines
use Rattle.report_fits.proofs.LivesInReport as lives
use Rattle.report_fits.proofs.OperationCauses as causes

-- what follows from both of what is said of a value, if there is one
if_some_both : {A : Type 0} (P Q R : A → Type 0) → ((x : A) → P x → Q x → R x) → (o : Option A) → IfSome o P → IfSome o Q → IfSome o R
if_some_both P Q R f None g h = tt
if_some_both P Q R f (Some x) g h = f x g h

-- ## Two lists side by side

at_zip : {A B : Type 0} (xs : List A) (ys : List B) (j : ℕ) (w : A × B) → slice_get (zip xs ys) j ≡ Some w → (slice_get xs j ≡ Some w.0) × (slice_get ys j ≡ Some w.1)
at_zip [] ys j w e = absurd (cc)
at_zip (x ∷ xs) [] j w e = absurd (cc)
at_zip {A = A} {B = B} (x ∷ xs) (y ∷ ys) zero w e = let same = some_is (x, y) w e in (ap (λ (v : A × B). Some v.0) same, ap (λ (v : A × B). Some v.1) same)
at_zip (x ∷ xs) (y ∷ ys) (suc j) w e = at_zip xs ys j w e

zip_at : {A B : Type 0} (xs : List A) (ys : List B) (j : ℕ) (x : A) (y : B) → slice_get xs j ≡ Some x → slice_get ys j ≡ Some y → slice_get (zip xs ys) j ≡ Some (x, y)
zip_at [] ys j x y e f = absurd (cc)
zip_at (a ∷ xs) [] j x y e f = absurd (cc)
zip_at (a ∷ xs) (b ∷ ys) zero x y e f = let s = some_is a x e in let t = some_is b y f in ap (λ v. Some (v, b)) s ∙ ap (λ v. Some (x, v)) t
zip_at (a ∷ xs) (b ∷ ys) (suc j) x y e f = zip_at xs ys j x y e f

passes_some : {A : Type 0} (p : A → Bool) (o : Option A) → passes_at p o ≡ true → (x : A) × (o ≡ Some x) × (p x ≡ true)
passes_some p None e = absurd (cc)
passes_some p (Some x) e = (x, refl, e)

-- ## Fails

failed_parts : (name n : List ℕ) (code : ℕ) (o : Outcome) → is_fail_of name (Fail n code) o ≡ true → (n ≡ name) × (o ≡ Failed)
failed_parts name n code Failed e = ((bytes_eq-Decides n name).0 e, refl)
failed_parts name n code other e = absurd (cc)

fail_parts : (name : List ℕ) (item : Item) (o : Outcome) → is_fail_of name item o ≡ true → (code : ℕ) × (item ≡ Fail name code) × (o ≡ Failed)
fail_parts name (Fail n code) o e = let w = failed_parts name n code o e in (code, ap (λ x. Fail x code) w.0, w.1)
fail_parts name other o e = absurd (cc)

-- no two pairs have the same second
pairs_once : (fails : List (ℕ × ℕ)) → EachBefore (λ (f g : ℕ × ℕ). (f.0 ≢ g.0) × (f.1 ≢ g.1)) fails → (x y k : ℕ) → Contains fails (x, k) → Contains fails (y, k) → x ≡ y
pairs_once fails once x y k a b =
    let f = has_from fails (x, k) a in
    let g = has_from fails (y, k) b in
    let Apart : ℕ × ℕ → ℕ × ℕ → Type 0 = λ f g. (f.0 ≢ g.0) × (f.1 ≢ g.1) in
    elim (nat_lt f.0 g.0) as (λ t. nat_lt f.0 g.0 ≡ t → x ≡ y) [
      | true ↦ λ t. absurd ((before_at Apart fails once f.0 g.0 (x, k) (y, k) (grind (arith, nat_tests)) f.1 g.1).1 refl)
      | false ↦ λ t. elim (nat_lt g.0 f.0) as (λ u. nat_lt g.0 f.0 ≡ u → x ≡ y) [
        | true ↦ λ u. absurd ((before_at Apart fails once g.0 f.0 (y, k) (x, k) (grind (arith, nat_tests)) g.1 f.1).1 refl)
        | false ↦ λ u. let same : f.0 ≡ g.0 = grind (arith, nat_tests) in
            let pair : (x, k) ≡ (y, k) = some_is (x, k) (y, k) (sym f.1 ∙ ap (slice_get fails) same ∙ g.1) in ap (λ (v : ℕ × ℕ). v.0) pair
      ] refl
    ] refl

-- ## Outcomes that show an id

-- an outcome that shows an id was said
pub id_said : (o : Outcome) (id : ℕ) → shown_id o ≡ Some id → is_said o ≡ true
id_said (Placed k i) id e = absurd (cc)
id_said (Dropped k i) id e = absurd (cc)
id_said other id e = refl

id_shown : (os : List Outcome) (i id : ℕ) (o : Option Outcome) → slice_get os i ≡ o → id_at os i ≡ Some id → (x : Outcome) × (slice_get os i ≡ Some x) × (shown_id x ≡ Some id)
id_shown os i id None e f = absurd (let none_ : None ≡ Some id = ap (λ (o : Option Outcome). option_and_then shown_id o) (sym e) ∙ f in cc)
id_shown os i id (Some x) e f = (x, e, ap (λ (o : Option Outcome). option_and_then shown_id o) (sym e) ∙ f)

shows : (placed k p : ℕ) → Shows placed k p (if nat_le placed p then Dropped k p else Placed k p)
shows placed k p = elim (nat_le placed p) as (λ b. nat_le placed p ≡ b → Shows placed k p (if b then Dropped k p else Placed k p)) [
  | true ↦ λ t. (λ less. absurd (grind (arith, nat_tests)), λ more. refl)
  | false ↦ λ t. (λ less. refl, λ more. absurd (grind (arith, nat_tests)))
] refl

module _ (g : Given) where
  abbrev run : Run
  run = lives.run_of g

  abbrev Names : List (List ℕ)
  Names = names g.run.script

  abbrev Outcomes : List (Option Outcome)
  Outcomes = g.run.core.outcomes

  reported : (i : ℕ) (o : Outcome) → slice_get g.run.core.outcomes i ≡ Some (Some o) → HasOutcome run i o
  reported = lives.reported g

  became : (i : ℕ) (o : Outcome) → is_said o ≡ true → HasOutcome run i o → slice_get g.run.core.outcomes i ≡ Some (Some o)
  became = lives.became g

  failed_at : (f : ℕ × ℕ) → Contains g.run.fixed.fails f → lives.FailedAt g f.0 f.1
  failed_at = lives.failed_at g

  -- ## Fails

  fail_why : (c i : ℕ) (op : Op) → lives.WhyAt g c i op Failed → (k : ℕ) × Contains g.run.fixed.fails (i, k)
  fail_why c i (ops.Fail n code) w = w
  fail_why c i other w = absurd w

  operation_at : (i : ℕ) (o : Outcome) → slice_get g.run.core.outcomes i ≡ Some (Some o) → (q : Operation) × IsOperation run i q
  operation_at i o e = within (operations g.run.script) i (omega (arith, slice_get_within g.run.core.outcomes i (Some o) e, g.run.long))

  each_fail : (i : ℕ) → HasOutcome run i Failed → (k : ℕ) × Contains g.run.fixed.fails (i, k)
  each_fail i has =
      let b = became i Failed refl has in
      let q = operation_at i Failed b in
      let a = lives.asked g i q.0 q.1 in
      fail_why q.0.client i a.0 (lives.why_at g i q.0 q.1 a.0 a.1 Failed b)

  are_fails : AreFails run
  are_fails = record {
    answered = all_from (λ (f : ℕ × ℕ). HasOutcome run f.0 Failed) g.run.fixed.fails (λ f h. reported f.0 Failed (failed_at f (contains_from g.run.fixed.fails f h)).failed);
    named = all_from (λ (f : ℕ × ℕ). (op : Operation) × IsOperation run f.0 op × (sought_name op.item ≡ slice_get (link_names g.run.script) f.1)) g.run.fixed.fails
        (λ f h. let w = failed_at f (contains_from g.run.fixed.fails f h) in (w.operation, w.there, ap sought_name w.item ∙ sym w.named));
    lived = all_from (λ (f : ℕ × ℕ). BecameSocket run f.1) g.run.fixed.fails (λ f h. (failed_at f (contains_from g.run.fixed.fails f h)).opened);
    each = each_fail;
    once = g.run.tells.once;
  }

  -- ## As many fails of a name as lives

  abbrev Pairs : List (Operation × Outcome)
  Pairs = zip (operations g.run.script) g.report.outcomes

  -- the life of a link was failed by this `fail`
  abbrev FailedIts : ℕ → ℕ → Type 0
  FailedIts i j = (k : ℕ) × Contains g.run.fixed.fails (i, k) × (k ≡ lives.link g j)

  own_life : (x y j : ℕ) → x ≢ y → FailedIts x j → FailedIts y j → ⊥
  own_life x y j apart v w =
      let same : v.0 ≡ w.0 = v.2 ∙ sym w.2 in
      let P : ℕ → Type 0 = λ k. Contains g.run.fixed.fails (x, k) in
      apart (pairs_once g.run.fixed.fails g.run.tells.once x y w.0 (subst P same v.1) w.1)

  abbrev is_fail_at : List ℕ → ℕ → Bool
  is_fail_at name j = passes_at (λ (x : Operation × Outcome). is_fail_of name x.0.item x.1) (slice_get Pairs j)

  abbrev is_open_at : List ℕ → ℕ → Bool
  is_open_at name j = passes_at (λ (x : Operation × Outcome). is_open_of name x.0.item x.1) (slice_get Pairs j)

  abbrev OpenedAt : ℕ → ℕ → ℕ → ℕ → Type 0
  OpenedAt j slot version k = lives.OpenedAt g j slot version k

  abbrev FailedAt : ℕ → ℕ → Type 0
  FailedAt i k = lives.FailedAt g i k

  open_place : (name : List ℕ) (j slot version k : ℕ) → HasOutcome run j (Opened slot version k) → (o : OpenedAt j slot version k) → o.name ≡ name → (j < length Pairs) × (is_open_at name j ≡ true)
  open_place name j slot version k has o same =
      let opened : Outcome = Opened slot version k in
      let at : slice_get Pairs j ≡ Some (o.operation, opened) = zip_at (operations g.run.script) g.report.outcomes j o.operation opened o.there has in
      let test : Option (Operation × Outcome) → Bool = passes_at (λ (x : Operation × Outcome). is_open_of name x.0.item x.1) in
      let by_item : is_open_of name o.operation.item opened ≡ bytes_eq o.name name = ap (λ item. is_open_of name item opened) o.item in
      let tested : is_open_at name j ≡ is_open_of name o.operation.item opened = ap test at in
      (slice_get_within Pairs j (o.operation, opened) at, tested ∙ by_item ∙ (bytes_eq-Decides o.name name).1 same)

  life_place : (name : List ℕ) (i j slot version k : ℕ) → Contains g.run.fixed.fails (i, k) → IsLinkOf run k name → HasOutcome run j (Opened slot version k) → HasPlace FailedIts (is_open_at name) (length Pairs) i
  life_place name i j slot version k failed named has =
      let o = lives.opened_at g j slot version k (became j (Opened slot version k) refl has) in
      let w = open_place name j slot version k has o (some_is o.name name (sym o.named ∙ named)) in
      (j, w.0, w.1, (k, failed, o.its))

  failed_place : (name : List ℕ) (i k code : ℕ) (q : Operation) → IsOperation run i q → q.item ≡ Fail name code → Contains g.run.fixed.fails (i, k) → (w : FailedAt i k) → HasPlace FailedIts (is_open_at name) (length Pairs) i
  failed_place name i k code q there item failed w =
      let whose : w.operation ≡ q = some_is w.operation q (sym w.there ∙ there) in
      let same : Fail w.name w.code ≡ Fail name code = sym w.item ∙ ap (λ (x : Operation). x.item) whose ∙ item in
      let name_is : w.name ≡ name = cc in
      life_place name i w.opened.0 w.opened.1 w.opened.2 k failed (w.named ∙ ap Some name_is) w.opened.3

  fail_place : (name : List ℕ) (i : ℕ) → is_fail_at name i ≡ true → HasPlace FailedIts (is_open_at name) (length Pairs) i
  fail_place name i e =
      let x = passes_some (λ (x : Operation × Outcome). is_fail_of name x.0.item x.1) (slice_get Pairs i) e in
      let z = at_zip (operations g.run.script) g.report.outcomes i x.0 x.1 in
      let parts = fail_parts name x.0.0.item x.0.1 x.2 in
      let has : HasOutcome run i Failed = z.1 ∙ ap Some parts.2 in
      let pair = each_fail i has in
      failed_place name i pair.0 parts.0 x.0.0 z.0 parts.1 pair.1 (failed_at (i, pair.0) pair.1)

  few_fails : (name : List ℕ) → count_outcomes run (is_fail_of name) ≤ count_outcomes run (is_open_of name)
  few_fails name =
      let n = length Pairs in
      let fails = passing (is_fail_at name) n in
      let have : AllByRecursion (HasPlace FailedIts (is_open_at name) n) fails = all_map (Passes (is_fail_at name) n) (HasPlace FailedIts (is_open_at name) n) (λ i w. fail_place name i w.1) fails (passing_pass (is_fail_at name) n) in
      omega (
        arith,
        places FailedIts (λ (x y : ℕ). x ≢ y) n own_life fails (is_open_at name) (passing_apart (is_fail_at name) n) have,
        passing_length (is_fail_at name) n,
        count_tally (λ (x : Operation × Outcome). is_fail_of name x.0.item x.1) Pairs,
        count_tally (λ (x : Operation × Outcome). is_open_of name x.0.item x.1) Pairs,
      )

  -- ## One life

  abbrev MadeAt : ℕ → ℕ → ℕ → ℕ → Type 0
  MadeAt n k slot version = Made (all_tasks g.run.script) g.run.core.outcomes n k slot version

  made_at : (i slot version k : ℕ) → HasOutcome run i (Opened slot version k) → (n : ℕ) × (m : MadeAt n k slot version) × (m.task.number ≡ i)
  made_at i slot version k has =
      let b = became i (Opened slot version k) refl has in
      let w = lives.opened_at g i slot version k b in
      let n = name_number (names g.run.script) w.name in
      let m : MadeAt n k slot version = record { client = w.operation.client; task = record { number = i; op = ops.Open n k }; is = w.is; op = refl; became = b } in
      (n, m, refl)

  one_life : (i j slot version k l : ℕ) → HasOutcome run i (Opened slot version k) → HasOutcome run j (Opened slot version l) → i ≡ j
  one_life i j slot version k l e f =
      let a = made_at i slot version k e in
      let b = made_at j slot version l f in
      sym a.2 ∙ g.run.tells.lives a.0 k b.0 l slot version a.1 b.1 ∙ b.2

  -- ## One link

  abbrev Links : ℕ
  Links = length (link_names g.run.script)

  abbrev Stands : ℕ → ℕ → Accepted → Type 0
  Stands k i a = lines.Stands g k i a

  abbrev IsLine : ℕ → LinkLine → Type 0
  IsLine k line = slice_get g.report.links k ≡ Some line

  line_low : (k : ℕ) (line : LinkLine) → IsLine k line → k < Links
  line_low = lines.line_low g

  at_place : (k i : ℕ) (line : LinkLine) (label : Label) → IsLine k line → slice_get line.order i ≡ Some label → (a : Accepted) × Stands k i a × (orders.label_of a ≡ label)
  at_place = lines.at_place g

  lived_by : (k : ℕ) (a : Accepted) → known.SentAt g.run k a → BecameSocket run k
  lived_by k a s = (s.life.task.number, s.slot, s.version, reported s.life.task.number (Opened s.slot s.version k) s.life.became)

  lived : (k : ℕ) (line : LinkLine) → IsLine k line → 0 < length line.order → BecameSocket run k
  lived k line e some_ =
      let l = within line.order 0 some_ in
      let w = at_place k 0 line l.0 e l.1 in
      lived_by k w.0 (known.sent_at g.run k 0 w.0 (line_low k line e) w.1)

  -- each message goes to a name of the link's socket; an attempt of a call was made, and the call has an id
  abbrev Named : ℕ → Label → Type 0
  Named k label = (label_name g.run.script label ≡ slice_get (link_names g.run.script) k) × IsMade run label

  made_by : (k : ℕ) (a : Accepted) → known.SentAt g.run k a → IsMade run (orders.label_of a)
  made_by k a s op call there item =
      let whose : s.operation ≡ op = some_is s.operation op (sym s.there ∙ there) in
      elim (s.kind) [
        | inl x ↦ absurd (let same : Send x.0 a.bytes ≡ Call call = sym x.1 ∙ ap (λ (y : Operation). y.item) whose ∙ item in cc)
        | inr x ↦
            let id : id_at g.report.outcomes a.operation ≡ Some x.id = ap (λ (o : Option Outcome). option_and_then shown_id o) (reported a.operation x.outcome x.became) ∙ x.shows in
            let P : Option ℕ → Type 0 = λ o. IsSome o in
            (subst P (sym id) refl, x.made)
      ]

  named_at : (k : ℕ) (a : Accepted) → known.SentAt g.run k a → Named k (orders.label_of a)
  named_at k a s = (s.named ∙ sym (lives.link_of g s.number k s.slot s.version s.name (s.number_is, s.mentions) s.life), made_by k a s)

  named : (k : ℕ) (line : LinkLine) → IsLine k line → AllByRecursion (Named k) line.order
  named k line e = all_from (Named k) line.order (λ label h. (
      let w = at_place k h.0 line label e h.1 in
      let P : Label → Type 0 = λ x. Named k x in
      subst P w.2 (named_at k w.0 (known.sent_at g.run k h.0 w.0 (line_low k line e) w.1))
      ))

  abbrev InOrder : Accepted → Accepted → Type 0
  InOrder a b = told.InOwnOrder (plan_of g.run.script) (all_tasks g.run.script) g.run.core.outcomes g.run.fixed g.run.gave g.run.orders a b

  in_own_order : (a b : Accepted) → InOrder a b → InOwnOrder run (orders.label_of a) (orders.label_of b)
  in_own_order a b h p q at_a at_b own first second =
      let v = lives.asked g a.operation p at_a in
      let w = lives.asked g b.operation q at_b in
      let t = lives.task_at g a.operation p at_a v.0 v.1 in
      let u = lives.task_at g b.operation q at_b w.0 w.1 in
      let P : ℕ → Type 0 = λ c. lives.TaskAt g c b.operation w.0 in
      h p.client (record { number = a.operation; op = v.0 }) (record { number = b.operation; op = w.0 }) t (subst P (sym own) u) refl refl first second

  own_order : (k : ℕ) (line : LinkLine) → IsLine k line → EachBefore (InOwnOrder run) line.order
  own_order k line e = before_from (InOwnOrder run) line.order (λ i j x y less f at. (
      let v = at_place k i line x e f in
      let w = at_place k j line y e at in
      let P : Label → Label → Type 0 = λ l m. InOwnOrder run l m in
      let Q : Label → Type 0 = λ m. InOwnOrder run x m in
      let R : Label → Type 0 = λ l. InOwnOrder run l (orders.label_of w.0) in
      subst Q w.2 (subst R v.2 (in_own_order v.0 w.0 (before_at InOrder (g.run.orders k).accepted (g.run.tells.own_order k (line_low k line e)) i j v.0 w.0 less v.1 w.1)))
      ))

  placed_is : (k : ℕ) (line : LinkLine) → IsLine k line → line.placed ≡ (g.run.orders k).placed
  placed_is = lines.placed_is g

  -- ## The outcome of a send

  -- of a send that was accepted nothing is said
  untold : (i k p : ℕ) (op : Operation) (name bytes : List ℕ) → IsOperation run i op → op.item ≡ Send name bytes → lives.TIsAt g i 0 k p → slice_get Outcomes i ≡ Some None
  untold i k p op name bytes there item w =
      let s = known.sent_at g.run k p w.1 w.0 w.2 in
      let whose : s.operation ≡ op = some_is s.operation op (sym s.there ∙ ap (slice_get (operations g.run.script)) w.3 ∙ there) in
      elim (s.kind) [
        | inl x ↦ ap (slice_get Outcomes) (sym w.3) ∙ x.3
        | inr x ↦ absurd (let same : Call x.call ≡ Send name bytes = sym x.item ∙ ap (λ (y : Operation). y.item) whose ∙ item in cc)
      ]

  shown : (k : ℕ) (line : LinkLine) → IsLine k line → (p i : ℕ) (op : Operation) (name bytes : List ℕ) → StandsIn line (attempt i 0) p → IsOperation run i op → op.item ≡ Send name bytes → (outcome : Outcome) × HasOutcome run i outcome × Shows line.placed k p outcome
  shown k line e p i op name bytes f there item =
      let w = causes.at_stand g i 0 k p (line, e, f) in
      let placed = (g.run.orders k).placed in
      let outcome : Outcome = if nat_le placed p then Dropped k p else Placed k p in
      let Q : ℕ → Type 0 = λ n. Shows n k p outcome in (
        outcome,
        ap (λ os. slice_get os i) g.reports.outcomes ∙ untold_outcome (lives.Words g) Outcomes i (untold i k p op name bytes there item w) ∙ ap Some (causes.accepted_outcome g i (k, p, w)),
        subst Q (sym (lines.placed_is g k line e)) (shows placed k p),
      )

  abbrev taken_of : ℕ → List ℕ
  taken_of k = lines.took_of g k

  -- where a link tells what it took, this is reported, and lies at its home
  told_by : (k : ℕ) (line : LinkLine) → IsLine k line → (bytes : List ℕ) → took_at g.took k ≡ bytes → bytes ≡ taken_of k → (line.took ≡ bytes) × TookInOrder run line
  told_by k line e bytes says holds =
      let reported_is : line.took ≡ bytes = lines.took_is g k line e ∙ says in
      (reported_is, lines.took_in_order g k line e (reported_is ∙ holds))

  fits_link : (k : ℕ) (line : LinkLine) → IsLine k line → FitsLink run k line
  fits_link k line e =
      let low = line_low k line e in
      let w = lives.end_at g k low in
      let told_ = within g.ends k (omega (arith, low, g.given.as_many)) in
      let is = g.given.each k told_.0 told_.1 in
      let end : lives.EndOf g k = record { end = told_.0; there = contains_from g.ends told_.0 (k, told_.1); is = is } in
      let count = lines.line_length g k line e in
      record {
        end = told_.0;
        given = contains_from g.ends told_.0 (k, told_.1);
        numbered = is.numbered;
        told = if_some_both (λ bytes. took_at g.took k ≡ bytes) (λ bytes. bytes ≡ taken_of k) (λ bytes. (line.took ≡ bytes) × TookInOrder run line) (λ bytes says holds. told_by k line e bytes says holds) told_.0.took (g.told k told_.0 told_.1) is.took;
        within = omega (arith, count, lines.placed_is g k line e, g.run.tells.are_orders.within k low);
        fails = λ h. lives.failing_by g (λ f. Unit {0}) (λ f. Unit {0}) k end (λ f x. x) (g.run.tells.dropped k low (omega (arith, h, count, lines.placed_is g k line e)));
        own_order = own_order k line e;
        lived = lived k line e;
        named = named k line e;
        shown = shown k line e;
      }

  -- ## No label twice

  differ : (k l i j : ℕ) (m n : LinkLine) (a b : Label) → IsLine k m → IsLine l n → slice_get m.order i ≡ Some a → slice_get n.order j ≡ Some b → ((k ≡ l) × (i ≡ j) → ⊥) → a ≢ b
  differ k l i j m n a b e f at bt other same =
      let v = at_place k i m a e at in
      let w = at_place l j n b f bt in
      let number : number_of_label v.0 ≡ number_of_label w.0 = ap (λ (x : Label). 8 * x.operation + x.attempt) (v.2 ∙ same ∙ sym w.2) in
      other (g.run.tells.are_orders.apart k l i j v.0 w.0 (line_low k m e) (line_low l n f) v.1 w.1 number)

  labels_once : EachBefore (λ (a b : Label). a ≢ b) (flat_map (λ (line : LinkLine). line.order) g.report.links)
  labels_once =
      let Apart : Label → Label → Type 0 = λ a b. a ≢ b in
      flat_before Apart (λ (line : LinkLine). line.order) g.report.links
      (λ k line e. before_from Apart line.order (λ i j a b less f at. differ k k i j line line a b e e f at (λ same. omega (arith, less, same.1))))
      (λ k l i j m n a b less e f at bt. differ k l i j m n a b e f at bt (λ same. omega (arith, less, same.0)))

  -- ## No version twice, and no call expired twice

  versions : (i j id other : ℕ) (p q : Operation) (a b : CallLine) → IsOperation run i p → IsOperation run j q → p.item ≡ Call a → q.item ≡ Call b → id_at g.report.outcomes i ≡ Some id → id_at g.report.outcomes j ≡ Some other → i ≢ j → AreApart a id b other
  versions i j id other p q a b at_i at_j item_i item_j id_i id_j apart =
      let x = id_shown g.report.outcomes i id (slice_get g.report.outcomes i) refl id_i in
      let y = id_shown g.report.outcomes j other (slice_get g.report.outcomes j) refl id_j in
      by_case (g.run.tells.versions p.client q.client (record { number = i; op = ops.Call (asked_of Names i a) }) (record { number = j; op = ops.Call (asked_of Names j b) }) (asked_of Names i a) (asked_of Names j b) x.0 y.0 id other
      (known.call_task g.run i p a at_i item_i) (known.call_task g.run j q b at_j item_j) refl refl (became i x.0 (id_said x.0 id x.2) x.1) (became j y.0 (id_said y.0 other y.2) y.1) x.2 y.2 apart)
    where
      by_case : (id + (a.retry + 2) ≤ other) ⊎ (other + (b.retry + 2) ≤ id) → AreApart a id b other
      by_case (inl h) = inl (omega (arith, h))
      by_case (inr h) = inr (omega (arith, h))

  expire_asks_ : (i client number : ℕ) (p : Operation) → p.item ≡ Expire client number → asks_at g.run.script i p ≡ Some (ops.Expire (number_of (numbered g.run.script) client number))
  expire_asks_ i client number p item = ap (op_of (numbered g.run.script) Names (numbers_at g.run.script i p)) item

  expiries : (i j client number : ℕ) (p q : Operation) → IsOperation run i p → IsOperation run j q → p.item ≡ Expire client number → q.item ≡ Expire client number → HasOutcome run i Expired → HasOutcome run j Expired → i ≡ j
  expiries i j client number p q at_i at_j item_i item_j has_i has_j =
      let t = number_of (numbered g.run.script) client number in
      g.run.tells.expired_once p.client q.client (record { number = i; op = ops.Expire t }) (record { number = j; op = ops.Expire t }) t
      (lives.task_at g i p at_i (ops.Expire t) (expire_asks_ i client number p item_i)) (lives.task_at g j q at_j (ops.Expire t) (expire_asks_ j client number q item_j)) refl refl
      (became i Expired refl has_i) (became j Expired refl has_j)

  -- ## The whole

  fits_once : FitsOnce run
  fits_once = record { labels = labels_once; lives = one_life; versions = versions; expiries = expiries; fails = few_fails }

  abbrev GivenBy : LinkEnd → Type 0
  GivenBy e = (length (g.run.gave e.link) ≡ e.gave_count) × IfSome e.gave (λ bytes. bytes ≡ g.run.gave e.link)

  are_given : AreGiven run
  are_given = all_from GivenBy g.ends (λ e h. (
      let is = g.given.each h.0 e h.1 in
      let P : ℕ → Type 0 = λ x. (length (g.run.gave x) ≡ e.gave_count) × IfSome e.gave (λ bytes. bytes ≡ g.run.gave x) in
      subst P (sym is.numbered) (is.counted, is.gives)
      ))

  pub fits_run : FitsRun run
  fits_run = record {
    one_each = ap length g.reports.outcomes ∙ outcomes_length (place_words (plan_of g.run.script) g.run.core.words) 0 g.run.core.outcomes ∙ g.run.long;
    causes = causes.cause_at g;
    line_each = g.reports.line_each;
    links = fits_link;
    tried = causes.tried g;
    once = fits_once;
    given = are_given;
    fails = are_fails;
  }

  -- ## Where nothing went wrong

  abbrev Calm : Type 0
  Calm = IsCalm g.run.script g.run.core.outcomes g.run.fixed

  -- no link failed
  none_broken : IsUntroubled g.run.script g.ends → (k : ℕ) → k < Links → Contains g.run.fixed.broken k → ⊥
  none_broken calm k low b =
      let e = lives.end_at g k low in
      let put = all_at (λ (x : LinkEnd). (x.put_faults ≡ 0) × (x.take_faults ≡ 0)) g.ends e.end calm.put (has_from g.ends e.end e.there) in
      omega (arith, put.0, e.is.failed b)

  -- and no life was failed
  none_failed : IsUntroubled g.run.script g.ends → (f : ℕ × ℕ) → Contains g.run.fixed.fails f → ⊥
  none_failed calm f h =
      let w = failed_at f h in
      calm.no_fail w.name w.code (contains_from g.run.script (Fail w.name w.code) (known.in_script g.run f.0 w.operation w.there (Fail w.name w.code) w.item))

  unfailed : IsUntroubled g.run.script g.ends → Calm → (counts : ℕ → Type 0) (k : ℕ) → k < Links → lives.TFailingBy g counts k → ⊥
  unfailed calm owes counts k low w = elim w [
    | inl f ↦ none_failed calm (f.0, k) f.1
    | inr (inl b) ↦ none_broken calm k low b
    | inr (inr (inl early)) ↦ owes.none_early k early
    | inr (inr (inr late)) ↦ owes.no_late_link k late
  ]

  all_placed : IsUntroubled g.run.script g.ends → Calm → (k p : ℕ) (a : Accepted) → k < Links → Stands k p a → p < (g.run.orders k).placed
  all_placed calm owes k p a low at =
      let inside = slice_get_within (g.run.orders k).accepted p a at in
      elim (nat_lt p (g.run.orders k).placed) as (λ b. nat_lt p (g.run.orders k).placed ≡ b → p < (g.run.orders k).placed) [
        | true ↦ λ t. grind (arith, nat_tests)
        | false ↦ λ t. absurd (unfailed calm owes (λ f. Unit {0}) k low (g.run.tells.dropped k low (grind (arith, nat_tests, inside))))
      ] refl

  said_done : IsUntroubled g.run.script g.ends → Calm → (i n : ℕ) (q : Operation) (name bytes : List ℕ) (o : Outcome) → IsOperation run i q → q.item ≡ Send name bytes → slice_get g.run.core.outcomes i ≡ Some (Some o) → lives.WhyAt g q.client i (ops.Send n bytes) o →
      SendCause run i q name o → SendDone run i q name o
  said_done calm owes i n q name bytes Unopened there item b w cause = inr (refl, cause)
  said_done calm owes i n q name bytes (Gone found) there item b w cause = absurd (by_cause w.failed)
    where
      by_cause : lives.TFailingBy g (lives.TIsNoLater g q.client i) w.link ⊎ Contains g.run.fixed.late i → ⊥
      by_cause (inl f) = unfailed calm owes (lives.TIsNoLater g q.client i) w.link (causes.life_low g n w.link w.slot w.version w.made) f
      by_cause (inr late) = owes.none_late i q name bytes there item late
  said_done calm owes i n q name bytes Full there item b w cause = absurd (omega (arith, cause.1.1, cause.1.0, calm.few_attempts))
  said_done calm owes i n q name bytes other there item b w cause = absurd w

  placed_done : IsUntroubled g.run.script g.ends → Calm → (i : ℕ) (q : Operation) (name : List ℕ) (o : Outcome) → o ≡ outcome_by_word (word_at (lives.Words g) (8 * i)) → causes.WasAccepted g i → SendDone run i q name o
  placed_done calm owes i q name o is w =
      let k = w.0 in
      let p = w.1 in
      let placed = all_placed calm owes k p w.2.1 w.2.0 w.2.2 in
      let first : nat_le (g.run.orders k).placed p ≡ false = grind (arith, nat_tests, placed) in
      inl (k, p, is ∙ causes.accepted_outcome g i w ∙ ap (λ b. if b then Dropped k p else Placed k p) first)

  send_done : IsUntroubled g.run.script g.ends → Calm → (i : ℕ) (q : Operation) (name bytes : List ℕ) (o : Outcome) → IsOperation run i q → q.item ≡ Send name bytes → HasOutcome run i o → SendDone run i q name o
  send_done calm owes i q name bytes o there item has = by_case (lives.said_or_placed_at g i o has)
    where
      by_case : SaidOrPlaced (lives.Words g) g.run.core.outcomes i o → SendDone run i q name o
      by_case (inl b) =
          let n = name_number (names g.run.script) name in
          let asks : asks_at g.run.script i q ≡ Some (ops.Send n bytes) = ap (op_of (numbered g.run.script) Names (numbers_at g.run.script i q)) item in
          let why = lives.why_at g i q there (ops.Send n bytes) asks o b in
          let P : Item → Type 0 = λ x. Cause run i q x o in
          said_done calm owes i n q name bytes o there item b why (subst P item (causes.cause_at g i q o there has))
      by_case (inr w) = placed_done calm owes i q name o w.1 (causes.was_accepted g i q there w.0)

  call_done : Calm → (i : ℕ) (q : Operation) (call : CallLine) (name : List ℕ) (o : Outcome) → IsOperation run i q → q.item ≡ Call call → HasOutcome run i o → slice_get call.names 0 ≡ Some name → IsServed g.run.script name →
      (Contains g.run.script (Expire q.client q.number) → ⊥) → CallDone run i q call name o
  call_done owes i q call name o there item has first served unexpired = by_case (lives.said_or_placed_at g i o has)
    where
      by_case : SaidOrPlaced (lives.Words g) g.run.core.outcomes i o → CallDone run i q call name o
      by_case (inl b) = elim (owes.calls i q call name o there item b first served unexpired) [
        | inl reply ↦ inl reply
        | inr none_ ↦
            let P : Item → Type 0 = λ x. Cause run i q x o in
            let Q : Outcome → Type 0 = λ x. Cause run i q (Call call) x in
            inr (none_, subst Q none_ (subst P item (causes.cause_at g i q o there has)) name (sym first))
      ]
      by_case (inr w) =
          let s = causes.was_sent g i q there w.0 (causes.was_accepted g i q there w.0) in
          absurd (let same : Send s.0 s.1 ≡ Call call = sym s.2 ∙ item in cc)

  pub complete : (IsUntroubled g.run.script g.ends → Calm) → Completeness run
  complete owes calm = record {
    sends = λ i op name bytes o there item has. send_done calm (owes calm) i op name bytes o there item has;
    calls = λ i op call name o there item has first served unexpired. call_done (owes calm) i op call name o there item has first served unexpired;
  }

-- the report of a run of which this is told fits the script and the links, and where nothing went wrong it is complete
pub fits : (g : Given) → (IsUntroubled g.run.script g.ends → IsCalm g.run.script g.run.core.outcomes g.run.fixed) → FitsWhole g.run.script (report_text g.run.script g.report) g.ends (lives.late_of g)
fits g owes = (g.report, lives.story_of g, refl, (fits_run g, complete g owes))
