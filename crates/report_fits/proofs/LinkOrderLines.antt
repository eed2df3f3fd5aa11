-- The lines of a report are those of the orders of the links.
use Rattle.std.proofs.Common.{◌≡◌, ℕ, ◌+◌, ◌<◌, ◌≤◌, Bool, if◌then◌else◌, nat_le, List, [], ◌++◌, length, take, drop, map, flat_map, sum_by, slice_get, slice_index_or, unwrap_or, option_map, option_and_then, inl, inr, Option, Some, ap, sym, ◌∙◌, subst, arith}
use Rattle.std.proofs.lemmas.List.{take-map, drop-map, length-map}
use Rattle.std.proofs.lemmas.Option.{slice_get_within}
use Rattle.sock_words.specs.declared.outcome.Outcome.{Outcome}
use Rattle.sock_words.specs.declared.outcome.Outcome.TheVariants.{Placed, Dropped}
use Rattle.sock_words.specs.declared.place_word.PlaceWord.{PlaceWord}
use Rattle.sock_words.specs.PackedWords.{IsPlaceWord, place_word_link, place_word_position}
use Rattle.brpc_model.specs.Items.{Call}
use Rattle.brpc_model.specs.Operations.{Operation, Label, link_names}
use Rattle.brpc_model.specs.MessageOfLabel.{message, written, id_at, shown_id}
use Rattle.brpc_model.specs.ReturnedLink.{LinkEnd}
use Rattle.brpc_model.specs.Order.{IsCut}
use Rattle.brpc_model.specs.Report.{LinkLine, Report}
use Rattle.brpc_model.specs.PlaceWords.{word_at, outcome_by_word, took_at, AreTold}
use Rattle.seat_programs.specs.Tasks.{plan_of}
use Rattle.seat_programs.specs.ScriptSetupToEnding.{place_words, took_at_home, Reports}
use Rattle.seat_programs.specs.ExplainedCalls.{Accepted, bytes_of, all_accepted, label as number_of}
use Rattle.report_fits.specs.ScriptLinkEnds.{AreEndsOf}
use Rattle.script_facts.proofs.FilteredLists.{within}
use Rattle.script_facts.proofs.Flat.{map_at, at_map, map_same, map_map, flat_of_map, sum_places}
use Rattle.report_fits.proofs.ReportedOutcomes.{told_outcome}
use Rattle.report_fits.proofs.OrdersOfPlaceWords as orders
use Rattle.script_facts.proofs.KnownScript.{Known}
use Rattle.script_facts.proofs.KnownScript as known

-- the outcome that a place word tells
pub outcome_is : (word : ℕ) (dropped : Bool) (k i : ℕ) → IsPlaceWord word dropped k i → outcome_by_word word ≡ (if dropped then Dropped k i else Placed k i)
outcome_is word dropped k i h =
    ap (λ b. if b then Dropped (place_word_link word) (place_word_position word) else Placed (place_word_link word) (place_word_position word)) h.dropped_is
    ∙ ap (λ l. if dropped then Dropped l (place_word_position word) else Placed l (place_word_position word)) h.link_is
    ∙ ap (λ p. if dropped then Dropped k p else Placed k p) h.position_is

-- what is known of a run, its report, and the links that were given back
pub record Given : Type 0 where
  pub run : Known
  pub report : Report
  pub took : List (List ℕ)
  pub ends : List LinkEnd
  pub reports : Reports run.script run.core took report
  pub told : AreTold ends took
  pub given : AreEndsOf run.script run.core run.fixed run.gave ends

module _ (g : Given) where
  abbrev pub links : ℕ
  links = length (link_names g.run.script)

  abbrev pub Words : List PlaceWord
  Words = place_words (plan_of g.run.script) g.run.core.words

  abbrev pub Stands : ℕ → ℕ → Accepted → Type 0
  Stands k i a = known.Stands g.run k i a

  abbrev pub accepted_of : ℕ → List Accepted
  accepted_of k = (g.run.orders k).accepted

  abbrev few_links : links ≤ 65536
  few_links = omega (arith, g.run.limits.links)

  -- ## Lines

  pub line_low : (k : ℕ) (line : LinkLine) → slice_get g.report.links k ≡ Some line → k < links
  line_low k line e = omega (arith, slice_get_within g.report.links k line e, g.reports.line_each)

  pub line_at : (k : ℕ) → k < links → (line : LinkLine) × (slice_get g.report.links k ≡ Some line)
  line_at k low = within g.report.links k (omega (arith, low, g.reports.line_each))

  pub order_is : (k : ℕ) (line : LinkLine) → slice_get g.report.links k ≡ Some line → line.order ≡ map orders.label_of (accepted_of k)
  order_is k line e = orders.order_is (plan_of g.run.script) g.run.core g.run.orders g.run.tells.are_orders few_links (known.inside g.run) k (took_at g.took k) line (line_low k line e) (g.reports.links k line e)

  pub placed_is : (k : ℕ) (line : LinkLine) → slice_get g.report.links k ≡ Some line → line.placed ≡ (g.run.orders k).placed
  placed_is k line e = orders.placed_is (plan_of g.run.script) g.run.core g.run.orders g.run.tells.are_orders few_links (known.inside g.run) k (took_at g.took k) line (line_low k line e) (g.reports.links k line e)

  pub line_length : (k : ℕ) (line : LinkLine) → slice_get g.report.links k ≡ Some line → length line.order ≡ length (accepted_of k)
  line_length k line e = ap length (order_is k line e) ∙ length-map (accepted_of k) orders.label_of

  pub lines_sum : sum_by (λ (line : LinkLine). length line.order) g.report.links ≡ all_accepted links g.run.orders
  lines_sum = sum_places (λ (line : LinkLine). length line.order) (λ k. length (accepted_of k)) g.report.links 0 links g.reports.line_each
      (λ k line e. let same : k ≡ 0 + k = omega arith in line_length k line e ∙ ap (λ l. length (accepted_of l)) same)

  -- ## Places

  pub at_place : (k i : ℕ) (line : LinkLine) (label : Label) → slice_get g.report.links k ≡ Some line → slice_get line.order i ≡ Some label → (a : Accepted) × Stands k i a × (orders.label_of a ≡ label)
  at_place k i line label e f = at_map orders.label_of (accepted_of k) i label (ap (λ ls. slice_get ls i) (sym (order_is k line e)) ∙ f)

  pub place_at : (k i : ℕ) (line : LinkLine) (a : Accepted) → slice_get g.report.links k ≡ Some line → Stands k i a → slice_get line.order i ≡ Some (orders.label_of a)
  place_at k i line a e at = ap (λ ls. slice_get ls i) (order_is k line e) ∙ map_at orders.label_of (accepted_of k) i a at

  -- the outcome of an operation whose message stands there
  pub outcome_at : (k i : ℕ) (a : Accepted) → k < links → Stands k i a → outcome_by_word (word_at Words (number_of a)) ≡ (if nat_le (g.run.orders k).placed i then Dropped k i else Placed k i)
  outcome_at k i a low at =
      outcome_is (word_at Words (number_of a)) (nat_le (g.run.orders k).placed i) k i (orders.parts (plan_of g.run.script) g.run.core g.run.orders g.run.tells.are_orders few_links (known.inside g.run) k i a low at)

  -- ## What it took

  -- its message, where these outcomes tell what became of the calls
  message_is : (k i : ℕ) (a : Accepted) → k < links → Stands k i a → message g.run.script g.report.outcomes (orders.label_of a) ≡ a.bytes
  message_is k i a low at =
      let w = known.sent_at g.run k i a low at in
      ap (λ (o : Option Operation). unwrap_or (option_map (λ (op : Operation). written op.item (id_at g.report.outcomes a.operation) a.attempt) o) []) w.there
      ∙ by_kind w
    where
      by_kind : (w : known.SentAt g.run k a) → written w.operation.item (id_at g.report.outcomes a.operation) a.attempt ≡ a.bytes
      by_kind w = elim (w.kind) [
        | inl x ↦ ap (λ item. written item (id_at g.report.outcomes a.operation) a.attempt) x.1
        | inr x ↦
            let reported : slice_get g.report.outcomes a.operation ≡ Some x.outcome = ap (λ os. slice_get os a.operation) g.reports.outcomes ∙ told_outcome Words g.run.core.outcomes a.operation x.outcome x.became in
            let id : id_at g.report.outcomes a.operation ≡ Some x.id = ap (λ (o : Option Outcome). option_and_then shown_id o) reported ∙ x.shows in
            ap (λ item. written item (id_at g.report.outcomes a.operation) a.attempt) x.item
            ∙ ap (λ o. written (Call x.call) o a.attempt) id
            ∙ sym x.bytes
      ]

  messages_are : (k : ℕ) (line : LinkLine) → slice_get g.report.links k ≡ Some line → map (message g.run.script g.report.outcomes) line.order ≡ map bytes_of (accepted_of k)
  messages_are k line e =
      ap (map (message g.run.script g.report.outcomes)) (order_is k line e)
      ∙ map_map orders.label_of (message g.run.script g.report.outcomes) (accepted_of k)
      ∙ map_same (λ a. message g.run.script g.report.outcomes (orders.label_of a)) bytes_of (accepted_of k) (λ a h. message_is k h.0 a (line_low k line e) h.1)

  -- what lies at its home
  abbrev pub took_of : ℕ → List ℕ
  took_of k = slice_index_or (took_at_home (plan_of g.run.script) g.run.core.homes) k []

  -- what is reported of it is what was said
  pub took_is : (k : ℕ) (line : LinkLine) → slice_get g.report.links k ≡ Some line → line.took ≡ took_at g.took k
  took_is k line e = (g.reports.links k line e).took

  -- where this lies at its home: the placed messages, one after another, and then a proper prefix of the next
  pub took_in_order : (k : ℕ) (line : LinkLine) → slice_get g.report.links k ≡ Some line → line.took ≡ took_of k →
      (cut : List ℕ) × (line.took ≡ flat_map (λ bytes. bytes) (map (message g.run.script g.report.outcomes) (take line.placed line.order)) ++ cut) × IsCut cut (map (message g.run.script g.report.outcomes) (drop line.placed line.order))
  took_in_order k line e at_home =
      let m = message g.run.script g.report.outcomes in
      let low = line_low k line e in
      let t = g.run.tells.are_orders.taken k low in
      let n = (g.run.orders k).placed in
      let are = messages_are k line e in
      let whole : map m (take line.placed line.order) ≡ map bytes_of (take n (accepted_of k)) =
      ap (λ i. map m (take i line.order)) (placed_is k line e) ∙ sym (take-map m n line.order) ∙ ap (take n) are ∙ take-map bytes_of n (accepted_of k) in
      let later : map m (drop line.placed line.order) ≡ map bytes_of (drop n (accepted_of k)) =
      ap (λ i. map m (drop i line.order)) (placed_is k line e) ∙ sym (drop-map m n line.order) ∙ ap (drop n) are ∙ drop-map bytes_of n (accepted_of k) in
      let P : List (List ℕ) → Type 0 = λ x. IsCut t.cut x in (
        t.cut,
        at_home ∙ t.took_is ∙ ap (λ x. x ++ t.cut) (sym (ap (flat_map (λ bytes. bytes)) whole ∙ flat_of_map bytes_of (take n (accepted_of k)))),
        subst P (sym later) t.is_cut,
      )
